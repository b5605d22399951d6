-- `e[i]`, `e.f`, and `[v with i = e]`.
use Rattle.std.proofs.Common.{◌≡◌, ℕ, ℤ, List, [], ◌∷◌, ◌++◌, map, ap, sym, ◌∙◌, refl, subst, Bool, true, false, Option, Some, None}
use Rattle.std.proofs.Common.{if◌then◌else◌}
use Rattle.sail_base.specs.declared.place.Place.{Place}
use Rattle.sail_types.specs.Named.{fields}
use Rattle.sail_types.specs.declared.shapes.Shape.{Shape, Shape-F, out-Shape}
use Rattle.sail_types.specs.declared.shapes.Shape.TheOpen as S
use Rattle.sail_types.specs.declared.shapes.Shape.TheVariants as V
use Rattle.sail_types.specs.declared.values.Value.{Value}
use Rattle.sail_core.specs.declared.targets.Way.{Way}
use Rattle.sail_core.specs.declared.targets.Way.TheVariants as Y
use Rattle.sail_core.specs.declared.tree.Kind.TheVariants as K
use Rattle.sail_core.specs.declared.tree.Core.{Core}
use Rattle.sail_core.specs.Run.{Now, Run, needs, gives, goes_on, ◌then◌}
use Rattle.sail_core.specs.Values.{Into, field_way, item_way, slice_way, integer_in}
use Rattle.sail_core.specs.Making as Core
use Rattle.sail_core.specs.Making.{plainly, made}
use Rattle.sail_core.specs.Meaning as Means
use Rattle.sail_core.specs.Meaning.{core_meaning}
use Rattle.shape_joins.proofs.JoinsLeast.{some_same, none}
use Rattle.sail_meaning.specs.World as Source
use Rattle.sail_meaning.specs.Targets.{Suffix, suffixes_of}
use Rattle.shape_rules.specs.declared.locals.Local.{Local}
use Rattle.shape_rules.specs.Findings.{Found, over, ill_shaped}
use Rattle.shape_rules.specs.Scopes.{Setting, Locals}
use Rattle.shape_rules.specs.Targets as Aims
use Rattle.shape_rules.specs.Targets.{Part, IndexPart, SuffixPart, field_part, at_part, Led, led_index, led_form, is_open}
use Rattle.shape_rules.specs.Targets.{index_found, suffix_found, suffix_place, cores_of, faults_of, led_shape, base_faults, Walked, walked}
use Rattle.shape_rules.specs.Values.{last_place, part_found}
use Rattle.shape_meanings.specs.Whole.{Choice}
use Rattle.shape_meanings.specs.Keeping.{Fits, SeenAs, Reach, Good, reach_of, Agree}
use Rattle.shape_meanings.specs.Worlds.{Describes}
use Rattle.shape_meanings.specs.Parts.{IsRight, SuffixIs, SuffixesAre}
use Rattle.shape_meanings.proofs.Runs.{then_agree}
use Rattle.shape_meanings.proofs.Settling.{settled_right, behind_right, both_empty, unrolled}
use Rattle.shape_meanings.proofs.Suffixes.{then_then, open_fits, core_way, suffix_runs}

-- ---- suffixes in the core

-- a way has as many indexes as there are parts of it
abbrev pub WayOf : Way → List Core → Type 0
WayOf (Y.Field i k) [] = Unit {0}
WayOf Y.Item (a ∷ []) = Unit {0}
WayOf Y.Slice (a ∷ b ∷ []) = Unit {0}
WayOf way cores = ⊥

after_taken : (o : Option Value) (now : Now Value) (xs : List Value) (f : Value → Run Value Value)
    → goes_on (goes_on (needs o now) (λ v. made plainly 0 xs v)) f ≡ goes_on (needs o now) f
after_taken None now xs f = refl
after_taken (Some v) now xs f = refl

-- what comes behind an integer
item_step : (o : Option ℤ) (x : Value) (xs : ℤ → List Value) (f : Value → Run Value Value) (now : Now Value)
    → goes_on (needs o now) (λ i. (needs ((item_way i).take_out x) then λ v. made plainly 0 (xs i) v) then f)
    ≡ goes_on (goes_on (needs o now) (λ i. gives (item_way i))) (λ w. needs (w.take_out x) then f)
item_step None x xs f now = refl
item_step (Some i) x xs f now = after_taken ((item_way i).take_out x) now (xs i) f

slice_step : (o p : Option ℤ) (x : Value) (xs : List Value) (f : Value → Run Value Value) (now : Now Value)
    → goes_on (needs o now) (λ hi. needs p then λ lo. (needs ((slice_way hi lo).take_out x) then λ v. made plainly 0 xs v) then f)
    ≡ goes_on (goes_on (needs o now) (λ hi. needs p then λ lo. gives (slice_way hi lo))) (λ w. needs (w.take_out x) then f)
slice_step None p x xs f now = refl
slice_step (Some hi) None x xs f now = refl
slice_step (Some hi) (Some lo) x xs f now = after_taken ((slice_way hi lo).take_out x) now xs f

suffix_means : (wc : Core.World Value) (way : Way) (cores rest : List Core) (x : Value) (more : List (Run Value Value) → Value → Run Value Value)
    (now : Now Value) → WayOf way cores
    → Means.suffix_then plainly 0 way (map (core_meaning wc) (cores ++ rest)) x more now
    ≡ (core_way way (map (core_meaning wc) cores) then λ w. needs (w.take_out x) then more (map (core_meaning wc) rest)) now
suffix_means wc (Y.Field i k) [] rest x more now h = after_taken ((field_way i k).take_out x) now (x ∷ []) (more (map (core_meaning wc) rest))
suffix_means wc Y.Item (a ∷ []) rest x more now h =
    let f : Value → Run Value Value = more (map (core_meaning wc) rest) in
    (λ j. goes_on (core_meaning wc a now) (λ y later. item_step (integer_in y) x (λ i. x ∷ y ∷ []) f later j))
    ∙ sym (then_then (core_meaning wc a now) (λ y. needs (integer_in y) then λ i. gives (item_way i)) (λ w. needs (w.take_out x) then f))
suffix_means wc Y.Slice (a ∷ b ∷ []) rest x more now h =
    let f : Value → Run Value Value = more (map (core_meaning wc) rest) in
    let out : Into → Run Value Value = λ w. needs (w.take_out x) then f in
    let both : Value → Value → Run Value Into = λ y u. needs (integer_in y) then λ hi. needs (integer_in u) then λ lo. gives (slice_way hi lo) in
    (λ j. goes_on (core_meaning wc a now) (λ y later.
    ((λ k. goes_on (core_meaning wc b later) (λ u last. slice_step (integer_in y) (integer_in u) x (x ∷ y ∷ u ∷ []) f last k))
    ∙ sym (then_then (core_meaning wc b later) (both y) out)) j))
    ∙ sym (then_then (core_meaning wc a now) (λ y. core_meaning wc b then both y) out)
suffix_means wc (Y.Field i k) (a ∷ cores) rest x more now h = absurd h
suffix_means wc Y.Item [] rest x more now h = absurd h
suffix_means wc Y.Item (a ∷ b ∷ cores) rest x more now h = absurd h
suffix_means wc Y.Slice [] rest x more now h = absurd h
suffix_means wc Y.Slice (a ∷ []) rest x more now h = absurd h
suffix_means wc Y.Slice (a ∷ b ∷ d ∷ cores) rest x more now h = absurd h

-- the way that leads on has its indexes
field_way_of : (setting : Setting) (name : List ℕ) (led : Led) (y : Shape-F Shape) → Aims.into_field setting name y ≡ Some led
    → WayOf led.way []
field_way_of setting name led (S.Named i ss) e = by_field (Aims.field_in name (fields setting.types i)) e
  where
    by_field : (o : Option Aims.InStruct) → Aims.field_led i ss o ≡ Some led → WayOf led.way []
    by_field None e = none e
    by_field (Some f) e = subst (λ (x : Led). WayOf x.way []) (some_same _ led e) tt
field_way_of setting name led y e = none e

index_way_of : (index : IndexPart) (setting : Setting) (locals : Locals) (led : Led) (y : Shape-F Shape) → led_index index.last y ≡ Some led
    → WayOf led.way (cores_of (index_found (Some index.first) setting locals ++ index_found index.last setting locals))
index_way_of index setting locals led y e = by_last index.last y e
  where
    one : Core
    one = (index.first.elaborate setting locals V.Int).core

    by_last : (low : Option Part) (y : Shape-F Shape) → led_index low y ≡ Some led → WayOf led.way (one ∷ cores_of (index_found low setting locals))
    by_last None S.Bits e = subst (λ (x : Led). WayOf x.way (one ∷ [])) (some_same _ led e) tt
    by_last None (S.Vector t) e = subst (λ (x : Led). WayOf x.way (one ∷ [])) (some_same _ led e) tt
    by_last None y e = none e
    by_last (Some low) S.Bits e =
        subst (λ (x : Led). WayOf x.way (one ∷ (low.elaborate setting locals V.Int).core ∷ [])) (some_same _ led e) tt
    by_last (Some low) y e = none e

pub way_of : (suffix : SuffixPart) (setting : Setting) (locals : Locals) (led : Led) (y : Shape-F Shape) → led_form setting suffix y ≡ Some led
    → WayOf led.way (cores_of (suffix_found suffix setting locals))
way_of (field_part name) setting locals led y e = field_way_of setting name.text led y e
way_of (at_part place index) setting locals led y e = index_way_of index setting locals led y e

-- ---- suffixes behind a value

pub no_part : (base : Place) (s : Shape) (b : Bool) → is_open s ≡ b → (if b then [] else ill_shaped base ∷ []) ≡ [] → is_open s ≡ true
no_part base s true is e = is
no_part base s false is e = absurd (not_none e)
  where
    not_none : {A : Type 0} {x : A} → (x ∷ []) ≡ [] → ⊥
    not_none e = cc

-- what a way takes out, and what comes behind it
taken_agree : (reach : Reach) (Q : Value → Type 0) (o p : Option Value) (kc km : Value → Run Value Value) (now : Now Value) → o ≡ p
    → ((u : Value) → p ≡ Some u → Agree reach Q (kc u now) (km u now)) → Agree reach Q ((needs o then kc) now) ((needs p then km) now)
taken_agree reach Q o p kc km now same next =
    subst (λ x. Agree reach Q ((needs x then kc) now) ((needs p then km) now)) (sym same) (by_option p next)
  where
    by_option : (p : Option Value) → ((u : Value) → p ≡ Some u → Agree reach Q (kc u now) (km u now))
        → Agree reach Q ((needs p then kc) now) ((needs p then km) now)
    by_option None next = (refl, tt)
    by_option (Some u) next = next u refl

abbrev pub WalkRuns : Setting → Locals → Shape → Walked → List Suffix → Type 0
WalkRuns setting locals s walk ms =
    (registers : List Shape) (c : Choice) (wc : Core.World Value) (ws : Source.World) → Describes setting registers wc ws
    → (slots : List Local) → SeenAs slots locals → (v : Value) → Fits setting.types c s v → (now : Now Value) → Good (reach_of setting registers c slots) now
    → Agree (reach_of setting registers c slots) (Fits setting.types c walk.shape)
    (Means.suffixes_of plainly walk.suffixes (map (core_meaning wc) walk.parts) v now) (suffixes_of ms ws v now)

-- one suffix, where those behind it are right
walk_step : (x : SuffixPart) (m : Suffix) (suffixes : List SuffixPart) (ms : List Suffix) (setting : Setting) (locals : Locals) (first base : Place) (s : Shape)
    → SuffixIs setting locals x m
    → ((t : Shape) → (walked suffixes setting locals first (suffix_place first x) t).faults ≡ []
    → WalkRuns setting locals t (walked suffixes setting locals first (suffix_place first x) t) ms)
    → (o : Option Led) → led_form setting x (out-Shape s) ≡ o
    → (Aims.also_walked base (suffix_place first x) s o (suffix_found x setting locals)
    (walked suffixes setting locals first (suffix_place first x) (led_shape o))).faults ≡ []
    → WalkRuns setting locals s (Aims.also_walked base (suffix_place first x) s o (suffix_found x setting locals)
    (walked suffixes setting locals first (suffix_place first x) (led_shape o))) (m ∷ ms)
walk_step x m suffixes ms setting locals first base s one others None is e registers c wc ws d slots seen v h now good =
    let indexes : List Found = suffix_found x setting locals in
    let k = both_empty (base_faults base s None ++ faults_of indexes) (walked suffixes setting locals first (suffix_place first x) V.Never).faults e in
    let k2 = both_empty (base_faults base s None) (faults_of indexes) k.0 in
    absurd (open_fits setting.types c s v (no_part base s (is_open s) refl k2.0) h)
walk_step x m suffixes ms setting locals first base s one others (Some led) is e registers c wc ws d slots seen v h now good =
    let reach : Reach = reach_of setting registers c slots in
    let indexes : List Found = suffix_found x setting locals in
    let more : Walked = walked suffixes setting locals first (suffix_place first x) led.shape in
    let k = both_empty (faults_of indexes) more.faults e in
    let Q : Value → Type 0 = Fits setting.types c more.shape in
    let after_c : Value → Run Value Value = Means.suffixes_of plainly more.suffixes (map (core_meaning wc) more.parts) in
    let r = suffix_runs setting locals s x led m one is k.0 registers c wc ws d slots seen more.shape
    (λ w. needs (w.take_out v) then after_c) (λ w. needs (w.take_out v) then suffixes_of ms ws)
    (λ a b alike here good2.
    taken_agree reach Q (a.take_out v) (b.take_out v) after_c (suffixes_of ms ws) here (alike.out v h)
    (λ u taken. others led.shape k.1 registers c wc ws d slots seen u (alike.taken v u h taken) here good2)) now good in (
      suffix_means wc led.way (cores_of indexes) more.parts v (Means.suffixes_of plainly more.suffixes) now (way_of x setting locals led (out-Shape s) is)
          ∙ r.0,
      r.1,
    )

pub walk_right : (suffixes : List SuffixPart) (ms : List Suffix) (setting : Setting) (locals : Locals) (first base : Place) (s : Shape)
    → SuffixesAre setting locals suffixes ms → (walked suffixes setting locals first base s).faults ≡ []
    → WalkRuns setting locals s (walked suffixes setting locals first base s) ms
walk_right [] [] setting locals first base s are e registers c wc ws d slots seen v h now good = (refl, (h, good))
walk_right [] (m ∷ ms) setting locals first base s are e registers c wc ws d slots seen v h now good = absurd are
walk_right (x ∷ suffixes) [] setting locals first base s are e registers c wc ws d slots seen v h now good = absurd are
walk_right (x ∷ suffixes) (m ∷ ms) setting locals first base s are e registers c wc ws d slots seen v h now good =
    walk_step x m suffixes ms setting locals first base s are.0
    (λ t k. walk_right suffixes ms setting locals first (suffix_place first x) t are.1 k) (led_form setting x (out-Shape s)) refl e
    registers c wc ws d slots seen v h now good

pub part_right : (setting : Setting) (locals : Locals) (first : Place) (base : Part) (suffixes : List SuffixPart) (m : Source.Meaning) (ms : List Suffix)
    → IsRight setting locals base.elaborate m → SuffixesAre setting locals suffixes ms
    → IsRight setting locals (part_found first base suffixes) (λ w. m w then suffixes_of ms w)
part_right setting locals first base suffixes m ms right are want e =
    let a : Found = base.elaborate setting locals V.Never in
    let ways : Walked = walked suffixes setting locals first base.place a.shape in
    let n : Source.Meaning = λ w. m w then suffixes_of ms w in
    let h = both_empty (a.faults ++ ways.faults) _ e in
    let h2 = both_empty a.faults ways.faults h.0 in
    let one = right V.Never h2.0 in
    behind_right setting locals want (a.faults ++ ways.faults) _ n
    (settled_right setting locals (last_place first suffixes) want ways.shape (λ s. over (last_place first suffixes) (K.Part ways.suffixes)
    (a.core ∷ ways.parts)) n
    h.1
    (λ t registers c wc ws d slots seen now good.
    let reach : Reach = reach_of setting registers c slots in
    let r = then_agree reach (Fits setting.types c a.shape) (Fits setting.types c ways.shape) (core_meaning wc a.core now) (m ws now)
    (Means.suffixes_of plainly ways.suffixes (map (core_meaning wc) ways.parts)) (suffixes_of ms ws)
    (one.runs registers c wc ws d slots seen now good)
    (λ v later fit good2. walk_right suffixes ms setting locals first base.place a.shape are h2.1 registers c wc ws d slots seen v fit later good2) in
    (ap (λ (x : Run Value Value). x now) (unrolled wc (last_place first suffixes) 0 (K.Part ways.suffixes) (a.core ∷ ways.parts)) ∙ r.0, r.1)))
