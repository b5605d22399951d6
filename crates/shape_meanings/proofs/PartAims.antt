-- Targets that are parts of what is there: it is read, the part is replaced, and it gets what comes of that.
use Rattle.std.proofs.Common.{◌≡◌, ℕ, ℤ, List, [], ◌∷◌, ◌++◌, map, ap, sym, ◌∙◌, refl, subst, true, Option, Some, None}
use Rattle.sail_base.specs.declared.place.Place.{Place}
use Rattle.sail_types.specs.Sums.{and_then}
use Rattle.sail_types.specs.declared.shapes.Shape.{Shape, out-Shape}
use Rattle.sail_types.specs.declared.table.Types.{Types}
use Rattle.sail_types.specs.declared.values.Value.{Value}
use Rattle.sail_core.specs.declared.targets.TargetKind.TheVariants as T
use Rattle.sail_core.specs.declared.targets.Way.{Way}
use Rattle.sail_core.specs.declared.targets.Way.TheVariants as Y
use Rattle.sail_core.specs.declared.tree.Core.{Core}
use Rattle.sail_core.specs.Run.{Now, Run, needs, gives, goes_on, ◌then◌}
use Rattle.sail_core.specs.Values.{Into, item_way, slice_way, integer_in, through, replaced}
use Rattle.sail_core.specs.Making as Core
use Rattle.sail_core.specs.Making.{plainly, made}
use Rattle.sail_core.specs.Meaning.{core_meaning}
use Rattle.sail_core.specs.Targets as Spots
use Rattle.sail_core.specs.Targets.{spotting}
use Rattle.shape_joins.proofs.JoinsLeast.{some_same, none}
use Rattle.sail_meaning.specs.World as Source
use Rattle.sail_meaning.specs.Targets as Written
use Rattle.sail_meaning.specs.Targets.{Suffix}
use Rattle.shape_rules.specs.declared.locals.Local.{Local}
use Rattle.shape_rules.specs.Findings.{Found}
use Rattle.shape_rules.specs.Scopes.{Setting, Locals}
use Rattle.shape_rules.specs.Targets.{Aimed, part_aimed, SuffixPart, Led, led_form, suffix_found, suffix_place, cores_of, faults_of, led_shape}
use Rattle.shape_rules.specs.Targets.{Walked, walked, also_walked}
use Rattle.shape_meanings.specs.Whole.{Choice, below}
use Rattle.shape_meanings.specs.Keeping.{Fits, SeenAs, Reach, Good, reach_of, Keeps, Agree}
use Rattle.shape_meanings.specs.Worlds.{Describes}
use Rattle.shape_meanings.specs.Parts.{SuffixIs, SuffixesAre}
use Rattle.shape_meanings.specs.Aims.{WritesAs, ReadsAs, RenewsAs, SpotRuns, AimIs, BaseIs, Leads}
use Rattle.shape_meanings.proofs.Orders.{exact}
use Rattle.shape_meanings.proofs.Runs.{then_agree}
use Rattle.shape_meanings.proofs.Settling.{both_empty}
use Rattle.shape_meanings.proofs.Ways.{WaysAlike}
use Rattle.shape_meanings.proofs.Suffixes.{then_then, core_way, suffix_runs}
use Rattle.shape_meanings.proofs.Walks.{WayOf, way_of}
use Rattle.shape_meanings.proofs.Aims.{rolled_target, parts_then}

-- ---- several ways, one behind the other

pub record ThroughAlike (types : Types) (c : Choice) (s t : Shape) (fs gs : List Into) : Type 0 where
  pub out : (v : Value) → Fits types c s v → through fs v ≡ through gs v
  pub taken : (v u : Value) → Fits types c s v → through gs v ≡ Some u → Fits types c t u
  pub into : (v u : Value) → Fits types c s v → Fits types c t u → replaced fs v u ≡ replaced gs v u
  pub whole : (v u x : Value) → Fits types c s v → Fits types c t u → replaced gs v u ≡ Some x → Fits types c s x

none_alike : (types : Types) (c : Choice) (s : Shape) → ThroughAlike types c s s [] []
none_alike types c s = record {
  out = λ v h. refl;
  taken = λ v u h e. subst (Fits types c s) (some_same v u e) h;
  into = λ v u h k. refl;
  whole = λ v u x h k e. subst (Fits types c s) (some_same u x e) k;
}

more_alike : (types : Types) (c : Choice) (s m t : Shape) (a b : Into) (fs gs : List Into) → WaysAlike types c s m a b → ThroughAlike types c m t fs gs
    → ThroughAlike types c s t (a ∷ fs) (b ∷ gs)
more_alike types c s m t a b fs gs one others = record {
  out = λ v h. ap (λ o. and_then o (through fs)) (one.out v h) ∙ out_by (b.take_out v) (λ u e. one.taken v u h e);
  taken = λ v u h e. taken_by (b.take_out v) (λ x is. one.taken v x h is) u e;
  into = λ v u h k.
      ap (λ o. and_then o (λ part. and_then (replaced fs part u) (a.put_in v))) (one.out v h)
      ∙ into_by v u h k (b.take_out v) (λ x is. one.taken v x h is);
  whole = λ v u x h k e. whole_by v u x h k (b.take_out v) (λ y is. one.taken v y h is) e;
}
  where
    out_by : (o : Option Value) → ((u : Value) → o ≡ Some u → Fits types c m u) → and_then o (through fs) ≡ and_then o (through gs)
    out_by None f = refl
    out_by (Some u) f = others.out u (f u refl)

    taken_by : (o : Option Value) → ((x : Value) → o ≡ Some x → Fits types c m x) → (u : Value) → and_then o (through gs) ≡ Some u → Fits types c t u
    taken_by None f u e = none e
    taken_by (Some x) f u e = others.taken x u (f x refl) e

    put_by : (v : Value) → Fits types c s v → (o : Option Value) → and_then o (a.put_in v) ≡ and_then o (b.put_in v)
    put_by v h None = refl
    put_by v h (Some x) = one.into v x h

    into_by : (v u : Value) → Fits types c s v → Fits types c t u → (o : Option Value) → ((x : Value) → o ≡ Some x → Fits types c m x)
        → and_then o (λ part. and_then (replaced fs part u) (a.put_in v)) ≡ and_then o (λ part. and_then (replaced gs part u) (b.put_in v))
    into_by v u h k None f = refl
    into_by v u h k (Some x) f = ap (λ o. and_then o (a.put_in v)) (others.into x u (f x refl) k) ∙ put_by v h (replaced gs x u)

    back_by : (v x : Value) → Fits types c s v → (o : Option Value) → ((y : Value) → o ≡ Some y → Fits types c m y) → and_then o (b.put_in v) ≡ Some x
        → Fits types c s x
    back_by v x h None f e = none e
    back_by v x h (Some y) f e = one.whole v y x h (f y refl) e

    whole_by : (v u x : Value) → Fits types c s v → Fits types c t u → (o : Option Value) → ((y : Value) → o ≡ Some y → Fits types c m y)
        → and_then o (λ part. and_then (replaced gs part u) (b.put_in v)) ≡ Some x → Fits types c s x
    whole_by v u x h k None f e = none e
    whole_by v u x h k (Some y) f e = back_by v x h (replaced gs y u) (λ z is. others.whole y u z (f y refl) k is) e

-- ---- ways behind their indexes

way_means : (wc : Core.World Value) (way : Way) (cores : List Core) (rest : List (Run Value Value)) (more : Spots.Spotting Value (List Into))
    (now : Now Value) → WayOf way cores
    → Spots.way_then plainly way (map (core_meaning wc) cores ++ rest) more now
    ≡ (core_way way (map (core_meaning wc) cores) then λ w. Spots.also w (more rest)) now
way_means wc (Y.Field i k) [] rest more now h = refl
way_means wc Y.Item (a ∷ []) rest more now h =
    let out : Into → Run Value (Spots.Spotted Value (List Into)) = λ w. Spots.also w (more rest) in
    (λ j. goes_on (core_meaning wc a now) (λ y later. sym (then_then (needs (integer_in y) later) (λ i. gives (item_way i)) out) j))
    ∙ sym (then_then (core_meaning wc a now) (λ y. needs (integer_in y) then λ i. gives (item_way i)) out)
way_means wc Y.Slice (a ∷ b ∷ []) rest more now h =
    let out : Into → Run Value (Spots.Spotted Value (List Into)) = λ w. Spots.also w (more rest) in
    let both : Value → Value → Run Value Into = λ y u. needs (integer_in y) then λ hi. needs (integer_in u) then λ lo. gives (slice_way hi lo) in
    (λ j. goes_on (core_meaning wc a now) (λ y later.
    ((λ k. goes_on (core_meaning wc b later) (λ u last. slice_step (integer_in y) (integer_in u) out last k))
    ∙ sym (then_then (core_meaning wc b later) (both y) out)) j))
    ∙ sym (then_then (core_meaning wc a now) (λ y. core_meaning wc b then both y) out)
  where
    slice_step : (o p : Option ℤ) (out : Into → Run Value (Spots.Spotted Value (List Into))) (now : Now Value)
        → goes_on (needs o now) (λ hi. needs p then λ lo. out (slice_way hi lo))
        ≡ goes_on (goes_on (needs o now) (λ hi. needs p then λ lo. gives (slice_way hi lo))) out
    slice_step None p out now = refl
    slice_step (Some hi) None out now = refl
    slice_step (Some hi) (Some lo) out now = refl
way_means wc (Y.Field i k) (a ∷ cores) rest more now h = absurd h
way_means wc Y.Item [] rest more now h = absurd h
way_means wc Y.Item (a ∷ b ∷ cores) rest more now h = absurd h
way_means wc Y.Slice [] rest more now h = absurd h
way_means wc Y.Slice (a ∷ []) rest more now h = absurd h
way_means wc Y.Slice (a ∷ b ∷ d ∷ cores) rest more now h = absurd h

abbrev WaysRun : Setting → Locals → Shape → Walked → List Suffix → Type 0
WaysRun setting locals s walk ms =
    (registers : List Shape) (c : Choice) (wc : Core.World Value) (ws : Source.World) → Describes setting registers wc ws
    → (slots : List Local) → SeenAs slots locals
    → (t : Shape) (rest : List (Run Value Value)) (kc : Spots.Spotted Value (List Into) → Run Value Value) (km : List Into → Run Value Value)
    → ((fs gs : List Into) → ThroughAlike setting.types c s walk.shape fs gs → (here : Now Value) → Good (reach_of setting registers c slots) here
    → Agree (reach_of setting registers c slots) (Fits setting.types c t) (kc (record { found = fs; left = rest }) here) (km gs here))
    → (now : Now Value) → Good (reach_of setting registers c slots) now
    → Agree (reach_of setting registers c slots) (Fits setting.types c t)
    ((Spots.ways_of plainly walk.suffixes (map (core_meaning wc) walk.parts ++ rest) then kc) now) ((Written.ways_of ms ws then km) now)

-- a way, and those behind it
ways_more : (x : SuffixPart) (m : Suffix) (ms : List Suffix) (setting : Setting) (locals : Locals) (s : Shape) (led : Led) (walk : Walked)
    → SuffixIs setting locals x m → led_form setting x (out-Shape s) ≡ Some led → faults_of (suffix_found x setting locals) ≡ []
    → WaysRun setting locals led.shape walk ms
    → (registers : List Shape) (c : Choice) (wc : Core.World Value) (ws : Source.World) → Describes setting registers wc ws
    → (slots : List Local) → SeenAs slots locals
    → (t : Shape) (rest : List (Run Value Value)) (kc : Spots.Spotted Value (List Into) → Run Value Value) (km : List Into → Run Value Value)
    → ((fs gs : List Into) → ThroughAlike setting.types c s walk.shape fs gs → (here : Now Value) → Good (reach_of setting registers c slots) here
    → Agree (reach_of setting registers c slots) (Fits setting.types c t) (kc (record { found = fs; left = rest }) here) (km gs here))
    → (now : Now Value) → Good (reach_of setting registers c slots) now
    → Agree (reach_of setting registers c slots) (Fits setting.types c t)
    (goes_on (Spots.way_then plainly led.way (map (core_meaning wc) (cores_of (suffix_found x setting locals) ++ walk.parts) ++ rest)
    (Spots.ways_of plainly walk.suffixes) now) kc)
    (goes_on (Written.ways_of (m ∷ ms) ws now) km)
ways_more x m ms setting locals s led walk is there fine others registers c wc ws d slots seen t rest kc km next now good =
    let reach : Reach = reach_of setting registers c slots in
    let Q : Value → Type 0 = Fits setting.types c t in
    let indexes : List Found = suffix_found x setting locals in
    let left : List (Run Value Value) = map (core_meaning wc) walk.parts ++ rest in
    let others_c : List (Run Value Value) → Run Value (Spots.Spotted Value (List Into)) = Spots.ways_of plainly walk.suffixes in
    let others_m : Run Value (List Into) = Written.ways_of ms ws in
    let one_c : Into → Run Value Value = λ w. others_c left then λ all. kc (record { found = w ∷ all.found; left = all.left }) in
    let one_m : Into → Run Value Value = λ w. others_m then λ ways. km (w ∷ ways) in
    let r = suffix_runs setting locals s x led m is there fine registers c wc ws d slots seen t one_c one_m
    (λ a b alike here good2.
    others registers c wc ws d slots seen t rest (λ all. kc (record { found = a ∷ all.found; left = all.left })) (λ ways. km (b ∷ ways))
    (λ fs gs both there good3. next (a ∷ fs) (b ∷ gs) (more_alike setting.types c s led.shape walk.shape a b fs gs alike both) there good3) here good2)
    now good in
    let way : Run Value Into = core_way led.way (map (core_meaning wc) (cores_of indexes)) in
    let source : goes_on (Written.ways_of (m ∷ ms) ws now) km ≡ goes_on (m ws now) one_m =
    then_then (m ws now) (λ w. others_m then λ ways. gives (w ∷ ways)) km
    ∙ (λ j. goes_on (m ws now) (λ w later. then_then (others_m later) (λ ways. gives (w ∷ ways)) km j)) in (
      (λ j. goes_on (Spots.way_then plainly led.way (parts_then wc (cores_of indexes) walk.parts rest j) others_c now) kc)
          ∙ ap (λ e. goes_on e kc) (way_means wc led.way (cores_of indexes) left others_c now (way_of x setting locals led (out-Shape s) there))
          ∙ then_then (way now) (λ w. Spots.also w (others_c left)) kc
          ∙ (λ j. goes_on (way now) (λ w later. then_then (others_c left later) (λ all. Spots.spotted (w ∷ all.found) all.left) kc j))
          ∙ r.0 ∙ sym source,
      subst (Keeps reach Q) (sym source) r.1,
    )

-- one suffix that leads on
ways_step : (x : SuffixPart) (m : Suffix) (suffixes : List SuffixPart) (ms : List Suffix) (setting : Setting) (locals : Locals) (first base : Place) (s : Shape)
    (led : Led)
    → SuffixIs setting locals x m → led_form setting x (out-Shape s) ≡ Some led
    → ((walked suffixes setting locals first (suffix_place first x) led.shape).faults ≡ []
    → WaysRun setting locals led.shape (walked suffixes setting locals first (suffix_place first x) led.shape) ms)
    → (o : Option Led) → Some led ≡ o
    → (also_walked base (suffix_place first x) s o (suffix_found x setting locals)
    (walked suffixes setting locals first (suffix_place first x) (led_shape o))).faults ≡ []
    → WaysRun setting locals s (also_walked base (suffix_place first x) s o (suffix_found x setting locals)
    (walked suffixes setting locals first (suffix_place first x) (led_shape o))) (m ∷ ms)
ways_step x m suffixes ms setting locals first base s led is there others None same e registers c wc ws d slots seen t rest kc km next now good =
    none (sym same)
ways_step x m suffixes ms setting locals first base s led is there others (Some other) same e registers c wc ws d slots seen t rest kc km next now good =
    let k = both_empty (faults_of (suffix_found x setting locals)) (walked suffixes setting locals first (suffix_place first x) other.shape).faults e in
    ways_more x m ms setting locals s other (walked suffixes setting locals first (suffix_place first x) other.shape) is (there ∙ same) k.0
    (subst (λ (l : Led). (walked suffixes setting locals first (suffix_place first x) l.shape).faults ≡ []
    → WaysRun setting locals l.shape (walked suffixes setting locals first (suffix_place first x) l.shape) ms) (some_same led other same) others k.1)
    registers c wc ws d slots seen t rest kc km next now good

ways_run : (suffixes : List SuffixPart) (ms : List Suffix) (setting : Setting) (locals : Locals) (first base : Place) (s : Shape)
    → SuffixesAre setting locals suffixes ms → Leads suffixes setting s → (walked suffixes setting locals first base s).faults ≡ []
    → WaysRun setting locals s (walked suffixes setting locals first base s) ms
ways_run [] [] setting locals first base s are leads e registers c wc ws d slots seen t rest kc km next now good =
    next [] [] (none_alike setting.types c s) now good
ways_run [] (m ∷ ms) setting locals first base s are leads e registers c wc ws d slots seen t rest kc km next now good = absurd are
ways_run (x ∷ suffixes) [] setting locals first base s are leads e registers c wc ws d slots seen t rest kc km next now good = absurd are
ways_run (x ∷ suffixes) (m ∷ ms) setting locals first base s are leads e registers c wc ws d slots seen t rest kc km next now good =
    ways_step x m suffixes ms setting locals first base s leads.0 are.0 leads.1
    (λ k. ways_run suffixes ms setting locals first (suffix_place first x) leads.0.shape are.1 leads.2 k)
    (led_form setting x (out-Shape s)) (sym leads.1) e registers c wc ws d slots seen t rest kc km next now good

-- ---- a part of a base

-- what is read, with another part
renewed_agrees : (setting : Setting) (registers : List Shape) (c : Choice) (slots : List Local) (s t answer : Shape) (x : Spots.Spot Value)
    (y : Written.Spot) (fs gs : List Into)
    → ReadsAs (reach_of setting registers c slots) s x.read y.read → RenewsAs (reach_of setting registers c slots) s answer x.renew y.write
    → ThroughAlike setting.types c s t fs gs → (v : Value) → Fits setting.types c t v → (now : Now Value) → Good (reach_of setting registers c slots) now
    → Agree (reach_of setting registers c slots) (Fits setting.types c answer) (Spots.renewed plainly x fs v now) ((Written.part_spot y gs).write v now)
renewed_agrees setting registers c slots s t answer x y fs gs reads renews alike v fit now good =
    then_agree (reach_of setting registers c slots) (Fits setting.types c s) (Fits setting.types c answer) (x.read now) (y.read now)
    (λ old. needs (replaced fs old v) then x.renew) (λ old. needs (replaced gs old v) then y.write) (reads now good)
    (λ old later h good2.
    subst (λ o. Agree (reach_of setting registers c slots) (Fits setting.types c answer) (goes_on (needs o later) x.renew)
    (goes_on (needs (replaced gs old v) later) y.write)) (sym (alike.into old v h fit))
    (by_new (replaced gs old v) later (λ u is. alike.whole old v u h fit is) good2))
  where
    by_new : (o : Option Value) (later : Now Value) → ((u : Value) → o ≡ Some u → Fits setting.types c s u) → Good (reach_of setting registers c slots) later
        → Agree (reach_of setting registers c slots) (Fits setting.types c answer) (goes_on (needs o later) x.renew) (goes_on (needs o later) y.write)
    by_new None later f good = (refl, tt)
    by_new (Some u) later f good = renews u (f u refl) later good

part_reads : (setting : Setting) (registers : List Shape) (c : Choice) (slots : List Local) (s t : Shape) (x : Spots.Spot Value) (y : Written.Spot)
    (fs gs : List Into)
    → ReadsAs (reach_of setting registers c slots) s x.read y.read → ThroughAlike setting.types c s t fs gs
    → ReadsAs (reach_of setting registers c slots) t (Spots.part_spot plainly 0 x fs).read (Written.part_spot y gs).read
part_reads setting registers c slots s t x y fs gs reads alike now good =
    then_agree (reach_of setting registers c slots) (Fits setting.types c s) (Fits setting.types c t) (x.read now) (y.read now)
    (λ old. needs (through fs old) then λ v. made plainly 0 [] v) (λ old. needs (through gs old)) (reads now good)
    (λ old later h good2.
    subst (λ o. Agree (reach_of setting registers c slots) (Fits setting.types c t) (goes_on (needs o later) (λ v. made plainly 0 [] v))
    (needs (through gs old) later)) (sym (alike.out old h))
    (by_part (through gs old) later (λ u is. alike.taken old u h is) good2))
  where
    by_part : (o : Option Value) (later : Now Value) → ((u : Value) → o ≡ Some u → Fits setting.types c t u) → Good (reach_of setting registers c slots) later
        → Agree (reach_of setting registers c slots) (Fits setting.types c t) (goes_on (needs o later) (λ v. made plainly 0 [] v)) (needs o later)
    by_part None later f good = (refl, tt)
    by_part (Some u) later f good = (refl, (f u refl, good))

-- a part of a base, with spots that are alike in some sense
part_spots : (setting : Setting) (locals : Locals) (first at_base : Place) (base : Aimed) (suffixes : List SuffixPart) (mb : Written.Target)
    (ms : List Suffix) (Alike : Reach → Spots.Spot Value → Written.Spot → Type 0)
    → BaseIs setting locals base mb → SuffixesAre setting locals suffixes ms → Leads suffixes setting base.shape
    → (walked suffixes setting locals first at_base base.shape).faults ≡ []
    → ((registers : List Shape) (c : Choice) (slots : List Local) (x : Spots.Spot Value) (y : Written.Spot) (fs gs : List Into)
    → ReadsAs (reach_of setting registers c slots) base.shape x.read y.read
    → RenewsAs (reach_of setting registers c slots) base.shape base.answer x.renew y.write
    → ThroughAlike setting.types c base.shape (walked suffixes setting locals first at_base base.shape).shape fs gs
    → Alike (reach_of setting registers c slots) (Spots.part_spot plainly 0 x fs) (Written.part_spot y gs))
    → (place : Place)
    → SpotRuns setting locals Alike (part_aimed place base (walked suffixes setting locals first at_base base.shape)).target
    (part_aimed place base (walked suffixes setting locals first at_base base.shape)).parts
    (λ w. mb w then λ spot. Written.ways_of ms w then λ ways. gives (Written.part_spot spot ways))
part_spots setting locals first at_base base suffixes mb ms Alike rb are leads e made_alike place registers c wc ws d slots seen t rest kc km next now good =
    let reach : Reach = reach_of setting registers c slots in
    let Q : Value → Type 0 = Fits setting.types c t in
    let walk : Walked = walked suffixes setting locals first at_base base.shape in
    let left : List (Run Value Value) = map (core_meaning wc) walk.parts ++ rest in
    let parts : List (Run Value Value) = map (core_meaning wc) (base.parts ++ walk.parts) ++ rest in
    let ways_c : List (Run Value Value) → Run Value (Spots.Spotted Value (List Into)) = Spots.ways_of plainly walk.suffixes in
    let ways_m : Run Value (List Into) = Written.ways_of ms ws in
    let one_c : Spots.Spotted Value (Spots.Spot Value) → Run Value Value =
    λ b. ways_c b.left then λ ways. kc (record { found = Spots.part_spot plainly 0 b.found ways.found; left = ways.left }) in
    let one_m : Written.Spot → Run Value Value = λ spot. ways_m then λ ways. km (Written.part_spot spot ways) in
    let r = rb registers c wc ws d slots seen t left one_c one_m
    (λ x y alike here good2.
    ways_run suffixes ms setting locals first at_base base.shape are leads e registers c wc ws d slots seen t rest
    (λ ways. kc (record { found = Spots.part_spot plainly 0 x ways.found; left = ways.left })) (λ ways. km (Written.part_spot y ways))
    (λ fs gs both there good3.
    next (Spots.part_spot plainly 0 x fs) (Written.part_spot y gs) (made_alike registers c slots x y fs gs alike.0 alike.1 both) there good3) here good2)
    now good in
    let source = then_then (mb ws now) (λ spot. ways_m then λ ways. gives (Written.part_spot spot ways)) km
    ∙ (λ j. goes_on (mb ws now) (λ spot later. then_then (ways_m later) (λ ways. gives (Written.part_spot spot ways)) km j)) in
    let aim : List (Run Value Value) → Run Value (Spots.Spotted Value (Spots.Spot Value)) = spotting plainly wc base.target in (
      ap (λ (x : Spots.Spotting Value (Spots.Spot Value)). goes_on (x parts now) kc) (rolled_target wc place (T.Part walk.suffixes) (base.target ∷ []))
          ∙ then_then (aim parts now) (λ b. ways_c b.left then λ ways. Spots.spotted (Spots.part_spot plainly 0 b.found ways.found) ways.left) kc
          ∙ (λ j. goes_on (aim (parts_then wc base.parts walk.parts rest j) now)
          (λ b later. then_then (ways_c b.left later) (λ ways. Spots.spotted (Spots.part_spot plainly 0 b.found ways.found) ways.left) kc j))
          ∙ r.0 ∙ sym source,
      subst (Keeps reach Q) (sym source) r.1,
    )

-- a part whose shape leaves nothing open
pub part_aim : (setting : Setting) (locals : Locals) (place first at_base : Place) (base : Aimed) (suffixes : List SuffixPart) (mb : Written.Target)
    (ms : List Suffix) (n : ℕ)
    → BaseIs setting locals base mb → SuffixesAre setting locals suffixes ms → Leads suffixes setting base.shape
    → below n (walked suffixes setting locals first at_base base.shape).shape ≡ true
    → (walked suffixes setting locals first at_base base.shape).faults ≡ []
    → AimIs setting locals (part_aimed place base (walked suffixes setting locals first at_base base.shape))
    (λ w. mb w then λ spot. Written.ways_of ms w then λ ways. gives (Written.part_spot spot ways))
part_aim setting locals place first at_base base suffixes mb ms n rb are leads whole e =
    let t : Shape = (walked suffixes setting locals first at_base base.shape).shape in
    part_spots setting locals first at_base base suffixes mb ms (λ reach x y. WritesAs reach t base.answer x.write y.write) rb are leads e
    (λ registers c slots x y fs gs reads renews alike u above v fit now good.
    renewed_agrees setting registers c slots base.shape t base.answer x y fs gs reads renews alike v
    (subst (λ s. Fits setting.types c s v) (exact t u n above whole) fit) now good) place

pub part_base : (setting : Setting) (locals : Locals) (place first at_base : Place) (base : Aimed) (suffixes : List SuffixPart) (mb : Written.Target)
    (ms : List Suffix)
    → BaseIs setting locals base mb → SuffixesAre setting locals suffixes ms → Leads suffixes setting base.shape
    → (walked suffixes setting locals first at_base base.shape).faults ≡ []
    → BaseIs setting locals (part_aimed place base (walked suffixes setting locals first at_base base.shape))
    (λ w. mb w then λ spot. Written.ways_of ms w then λ ways. gives (Written.part_spot spot ways))
part_base setting locals place first at_base base suffixes mb ms rb are leads e =
    let t : Shape = (walked suffixes setting locals first at_base base.shape).shape in
    part_spots setting locals first at_base base suffixes mb ms
    (λ reach x y. ReadsAs reach t x.read y.read × RenewsAs reach t base.answer x.renew y.write) rb are leads e
    (λ registers c slots x y fs gs reads renews alike. (
      part_reads setting registers c slots base.shape t x y fs gs reads alike,
      λ v fit now good. renewed_agrees setting registers c slots base.shape t base.answer x y fs gs reads renews alike v fit now good,
    )) place
