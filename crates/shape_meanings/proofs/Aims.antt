-- Targets of assignments: names, tuples, and parts of what is there.
use Rattle.std.proofs.Common.{◌≡◌, ℕ, suc, List, [], ◌∷◌, ◌++◌, map, ap, sym, ◌∙◌, refl, subst, true}
use Rattle.std.proofs.Common.{Option, Some, None}
use Rattle.std.proofs.lemmas.Bool.{and_parts}
use Rattle.sail_base.specs.declared.place.Place.{Place}
use Rattle.sail_types.specs.Shapes.{fits, each_fits, form_fits, put, Asked}
use Rattle.sail_types.specs.declared.shapes.Shape.{Shape, Shape-F, out-Shape}
use Rattle.sail_types.specs.declared.shapes.Shape.TheOpen as S
use Rattle.sail_types.specs.declared.shapes.Shape.TheVariants as V
use Rattle.sail_types.specs.declared.shapes.Shape.TheViews.{out-roll-Shape}
use Rattle.sail_types.specs.declared.table.Types.{Types}
use Rattle.sail_types.specs.declared.values.Value.{Value, Value-F, out-Value}
use Rattle.sail_types.specs.declared.values.Value.TheFolds.{map-Value}
use Rattle.sail_types.specs.declared.values.Value.TheOpen as W
use Rattle.sail_syntax.specs.declared.name.Name.{Name}
use Rattle.model_state.specs.RunState.{register_value}
use Rattle.sail_core.specs.declared.targets.Target.{Target, fold-roll-Target}
use Rattle.sail_core.specs.declared.targets.TargetKind.{TargetKind}
use Rattle.sail_core.specs.declared.targets.TargetKind.TheVariants as T
use Rattle.sail_core.specs.declared.tree.Core.{Core}
use Rattle.sail_core.specs.Run as R
use Rattle.sail_core.specs.Run.{Now, Run, needs, gives, goes_on, ◌then◌}
use Rattle.sail_core.specs.Values.{parts_in, form_parts}
use Rattle.sail_core.specs.Making as Core
use Rattle.sail_core.specs.Making.{plainly, made}
use Rattle.sail_core.specs.Meaning.{core_meaning}
use Rattle.sail_core.specs.Patterns.{components}
use Rattle.sail_core.specs.Targets as Spots
use Rattle.sail_core.specs.Targets.{target_meaning, spotting}
use Rattle.shape_joins.specs.Filling.{fills, fill_form, fill_all}
use Rattle.shape_joins.proofs.Order.{no, tests, at_forms, fills_itself}
use Rattle.sail_meaning.specs.World as Source
use Rattle.sail_meaning.specs.Targets as Written
use Rattle.sail_meaning.specs.Targets.{name_spot, name_read, local_or, not_local, constant_named}
use Rattle.shape_rules.specs.declared.locals.Local.{Local}
use Rattle.shape_rules.specs.declared.callees.Meant.{Meant}
use Rattle.shape_rules.specs.declared.callees.Meant.TheVariants as M
use Rattle.shape_rules.specs.Scopes.{Setting, Locals, local_of}
use Rattle.shape_rules.specs.Targets.{Aimed, TargetPart, target, name_aimed, AimedAll, each_aimed, tuple_aimed}
use Rattle.shape_meanings.specs.Whole.{Choice, IsSettled}
use Rattle.shape_meanings.specs.Keeping.{Fits, FitAll, SeenAs, Reach, Good, reach_of, Keeps, Agree}
use Rattle.shape_meanings.specs.Worlds.{Describes, ValueAs}
use Rattle.shape_meanings.specs.Aims.{WritesAlike, WritesAs, ReadsAs, AimIs, PartAimIs, BaseIs, AimsAre}
use Rattle.shape_meanings.proofs.Values.{opened_at, out_put}
use Rattle.shape_meanings.proofs.Runs.{agree_as, then_agree, in_scope, not_in_scope}
use Rattle.shape_meanings.proofs.Settling.{both_empty}
use Rattle.shape_meanings.proofs.Matching.{form_given}
use Rattle.shape_meanings.proofs.Naming.{global_source, register_closed, closed_is, register_keeps}
use Rattle.shape_meanings.proofs.Tests.{unit_fits}
use Rattle.shape_meanings.proofs.Suffixes.{then_then}
use Rattle.shape_meanings.proofs.Spots.{variable_writes, register_writes}

-- what a target of the core does: its kind, over what its parts do
pub rolled_target : (wc : Core.World Value) (place : Place) (kind : TargetKind) (parts : List Target)
    → spotting plainly wc (target place kind parts) ≡ target_meaning plainly wc place 0 kind (map (spotting plainly wc) parts)
rolled_target wc place kind parts =
    fold-roll-Target (Spots.Spotting Value (Spots.Spot Value)) (λ t. target_meaning plainly wc t.place t.number t.kind t.parts)
    (record { place = place; number = 0; kind = kind; parts = parts })

-- ---- names

pub variable_aim : (setting : Setting) (locals : Locals) (name : Name) (l : Local) (meant : Option Meant) → local_of name.text locals ≡ Some l
    → IsSettled setting.types l.shape → AimIs setting locals (name_aimed name (Some l) meant) (λ w. gives (name_spot w name.text))
variable_aim setting locals name l meant is settled registers c wc ws d slots seen t rest kc km next now good =
    let reach : Reach = reach_of setting registers c slots in
    let x : Spots.Spot Value = Spots.variable_spot plainly 0 name.text in
    let a = next x (name_spot ws name.text) (variable_writes setting locals name.text l is settled registers c wc ws slots seen) now good in
    (ap (λ (s : Spots.Spotting Value (Spots.Spot Value)). goes_on (s rest now) kc) (rolled_target wc name.place (T.Variable name.text) []) ∙ a.0, a.1)

variable_reads : (setting : Setting) (locals : Locals) (name : Name) (l : Local) → local_of name.text locals ≡ Some l
    → (registers : List Shape) (c : Choice) (ws : Source.World) (slots : List Local) → SeenAs slots locals
    → ReadsAs (reach_of setting registers c slots) l.shape (Spots.variable_read plainly 0 name.text) (name_read ws name.text)
variable_reads setting locals name l is registers c ws slots seen now good =
    let reach : Reach = reach_of setting registers c slots in
    let v = in_scope setting.types c slots now.locals name.text l good.locals (seen name.text ∙ is) in
    let source : name_read ws name.text now ≡ R.Gives v.0 now = ap (λ o. local_or o (not_local ws name.text (constant_named ws name.text)) now) v.1 in (
      ap (λ o. goes_on (needs o now) (λ x. made plainly 0 [] x)) v.1 ∙ sym source,
      subst (Keeps reach (Fits setting.types c l.shape)) (sym source) (v.2, good),
    )

pub variable_base : (setting : Setting) (locals : Locals) (name : Name) (l : Local) (meant : Option Meant) → local_of name.text locals ≡ Some l
    → IsSettled setting.types l.shape → BaseIs setting locals (name_aimed name (Some l) meant) (λ w. gives (name_spot w name.text))
variable_base setting locals name l meant is settled registers c wc ws d slots seen t rest kc km next now good =
    let writes = variable_writes setting locals name.text l is settled registers c wc ws slots seen in
    let a = next (Spots.variable_spot plainly 0 name.text) (name_spot ws name.text)
    (variable_reads setting locals name l is registers c ws slots seen, λ v fit here good2. writes l.shape (fills_itself l.shape) v fit here good2) now good in
    (ap (λ (s : Spots.Spotting Value (Spots.Spot Value)). goes_on (s rest now) kc) (rolled_target wc name.place (T.Variable name.text) []) ∙ a.0, a.1)

pub register_aim : (setting : Setting) (locals : Locals) (name : Name) (r : ℕ) (s : Shape) → local_of name.text locals ≡ None
    → setting.value name.text ≡ Some (M.Register r s)
    → AimIs setting locals (name_aimed name None (Some (M.Register r s))) (λ w. gives (name_spot w name.text))
register_aim setting locals name r s absent meant registers c wc ws d slots seen t rest kc km next now good =
    let a = next (Spots.register_spot plainly wc 0 r) (name_spot ws name.text)
    (register_writes setting locals name.text r s absent meant registers c wc ws d slots seen) now good in
    (ap (λ (x : Spots.Spotting Value (Spots.Spot Value)). goes_on (x rest now) kc) (rolled_target wc name.place (T.Register r) []) ∙ a.0, a.1)

after_read : (o : Option Value) (now : Now Value) → goes_on (needs o now) (λ x. made plainly 0 [] x) ≡ needs o now
after_read None now = refl
after_read (Some v) now = refl

register_reads : (setting : Setting) (locals : Locals) (name : List ℕ) (r : ℕ) (s : Shape) → local_of name locals ≡ None
    → setting.value name ≡ Some (M.Register r s)
    → (registers : List Shape) (c : Choice) (wc : Core.World Value) (ws : Source.World) → Describes setting registers wc ws
    → (slots : List Local) → SeenAs slots locals
    → ReadsAs (reach_of setting registers c slots) s (Spots.register_read plainly wc 0 r) (name_read ws name)
register_reads setting locals name r s is meant registers c wc ws d slots seen now good =
    let reach : Reach = reach_of setting registers c slots in
    let kept = subst (ValueAs setting registers wc ws name) meant (d.values name) in
    let absent = not_in_scope setting.types c slots now.locals name good.locals (seen name ∙ is) in
    let source : name_read ws name now ≡ needs (register_value now.state ws.hart r) now =
    global_source ws name now absent ∙ ap (λ o. not_local ws name o now) kept.0 ∙ ap (λ o. goes_on (needs o now) (Written.register_read ws)) kept.1 in
    let core : Spots.register_read plainly wc 0 r now ≡ needs (register_value now.state ws.hart r) now =
    after_read (register_value now.state wc.hart r) now ∙ ap (λ h. needs (register_value now.state h r) now) d.hart in (
      core ∙ sym source,
      subst (Keeps reach (Fits setting.types c s)) (sym source)
          (register_keeps setting registers c slots ws.hart r s now (register_value now.state ws.hart r) good kept.2
          (closed_is s c (register_closed registers r s d.closed_registers kept.2)) refl),
    )

pub register_base : (setting : Setting) (locals : Locals) (name : Name) (r : ℕ) (s : Shape) → local_of name.text locals ≡ None
    → setting.value name.text ≡ Some (M.Register r s)
    → BaseIs setting locals (name_aimed name None (Some (M.Register r s))) (λ w. gives (name_spot w name.text))
register_base setting locals name r s absent meant registers c wc ws d slots seen t rest kc km next now good =
    let writes = register_writes setting locals name.text r s absent meant registers c wc ws d slots seen in
    let a = next (Spots.register_spot plainly wc 0 r) (name_spot ws name.text)
    (register_reads setting locals name.text r s absent meant registers c wc ws d slots seen, λ v fit here good2. writes s (fills_itself s) v fit here good2)
    now good in
    (ap (λ (x : Spots.Spotting Value (Spots.Spot Value)). goes_on (x rest now) kc) (rolled_target wc name.place (T.Register r) []) ∙ a.0, a.1)

-- ---- tuples

-- several targets, each written alike
abbrev AllWrite : Reach → List Shape → List (Spots.Spot Value) → List Written.Spot → Type 0
AllWrite reach [] [] [] = Unit {0}
AllWrite reach (s ∷ ss) (x ∷ xs) (y ∷ ys) = WritesAlike reach s (λ v. Unit {0}) x.write y.write × AllWrite reach ss xs ys
AllWrite reach ss xs ys = ⊥

pub same_components : (x : Value) (i : ℕ) (vs : List Value) → components plainly x i vs ≡ vs
same_components x i [] = refl
same_components x i (v ∷ vs) = ap (λ us. v ∷ us) (same_components x (suc i) vs)

writes_agree : (setting : Setting) (registers : List Shape) (c : Choice) (slots : List Local) (ss ts : List Shape) (xs : List (Spots.Spot Value))
    (ys : List Written.Spot) (vs : List Value) → AllWrite (reach_of setting registers c slots) ss xs ys → fill_all ss ts ≡ true
    → FitAll setting.types c ts vs
    → (now : Now Value) → Good (reach_of setting registers c slots) now
    → Agree (reach_of setting registers c slots) (Fits setting.types c V.Unit) (Spots.writes plainly xs vs now) (Written.writes ys vs now)
writes_agree setting registers c slots [] [] [] [] [] all fill h now good = (refl, (unit_fits setting c, good))
writes_agree setting registers c slots [] [] [] [] (v ∷ vs) all fill h now good = no h
writes_agree setting registers c slots [] (t ∷ ts) [] [] vs all fill h now good = no fill
writes_agree setting registers c slots [] ts [] (y ∷ ys) vs all fill h now good = absurd all
writes_agree setting registers c slots [] ts (x ∷ xs) ys vs all fill h now good = absurd all
writes_agree setting registers c slots (s ∷ ss) ts [] ys vs all fill h now good = absurd all
writes_agree setting registers c slots (s ∷ ss) ts (x ∷ xs) [] vs all fill h now good = absurd all
writes_agree setting registers c slots (s ∷ ss) [] (x ∷ xs) (y ∷ ys) vs all fill h now good = no fill
writes_agree setting registers c slots (s ∷ ss) (t ∷ ts) (x ∷ xs) (y ∷ ys) [] all fill h now good = no h
writes_agree setting registers c slots (s ∷ ss) (t ∷ ts) (x ∷ xs) (y ∷ ys) (v ∷ vs) all fill h now good =
    let f = and_parts (fills s t) (fill_all ss ts) fill in
    let p = and_parts (fits setting.types v (put c t)) (each_fits (map (fits setting.types) vs) (map (put c) ts)) h in
    then_agree (reach_of setting registers c slots) (λ u. Unit {0}) (Fits setting.types c V.Unit) (x.write v now) (y.write v now)
    (λ u. Spots.writes plainly xs vs) (λ u. Written.writes ys vs) (all.0 t f.0 v p.0 now good)
    (λ u later h2 good2. writes_agree setting registers c slots ss ts xs ys vs all.1 f.1 p.1 later good2)

-- a shape above that of a tuple, and a value of it
pub tuple_above : (ss : List Shape) (t : Shape) → fills (V.Tuple ss) t ≡ true → (ts : List Shape) × (out-Shape t ≡ S.Tuple ts) × (fill_all ss ts ≡ true)
tuple_above ss t h =
    by_form (out-Shape t) refl
    (ap (λ y. fill_form (tests y) (out-Shape t)) (sym (out-roll-Shape (S.Tuple ss)) ∙ ap out-Shape (V.rolls-Tuple ss)) ∙ sym (at_forms (V.Tuple ss) t) ∙ h)
  where
    by_form : (y : Shape-F Shape) → out-Shape t ≡ y → fill_form (tests (S.Tuple ss)) y ≡ true
        → (ts : List Shape) × (out-Shape t ≡ S.Tuple ts) × (fill_all ss ts ≡ true)
    by_form (S.Tuple ts) is h = (ts, is, h)
    by_form y is h = no h

form_tuple : (types : Types) (x : Value-F Value) (us : List Shape) → form_fits types (map-Value Value Asked (fits types) x) (S.Tuple us) ≡ true
    → (vs : List Value) × (form_parts x ≡ Some vs) × (each_fits (map (fits types) vs) us ≡ true)
form_tuple types (W.Tuple vs) us h = (vs, refl, h)
form_tuple types x us h = no h

pub tuple_parts : (types : Types) (c : Choice) (t : Shape) (ts : List Shape) (v : Value) → out-Shape t ≡ S.Tuple ts → Fits types c t v
    → (vs : List Value) × (parts_in v ≡ Some vs) × FitAll types c ts vs
tuple_parts types c t ts v is h =
    form_tuple types (out-Value v) (map (put c) ts)
    (form_given types c t (S.Tuple (map (put c) ts)) v (out_put c t ∙ ap (opened_at c) is) h)

tuple_writes : (setting : Setting) (registers : List Shape) (c : Choice) (slots : List Local) (ss : List Shape) (xs : List (Spots.Spot Value))
    (ys : List Written.Spot) → AllWrite (reach_of setting registers c slots) ss xs ys
    → WritesAs (reach_of setting registers c slots) (V.Tuple ss) V.Unit (Spots.tuple_spot plainly 0 xs).write (Written.tuple_spot ys).write
tuple_writes setting registers c slots ss xs ys all t above v h now good =
    let reach : Reach = reach_of setting registers c slots in
    let Q : Value → Type 0 = Fits setting.types c V.Unit in
    let a = tuple_above ss t above in
    let p = tuple_parts setting.types c t a.0 v a.1 h in
    let r = writes_agree setting registers c slots ss a.0 xs ys p.0 all a.2 p.2 now good in
    let source : goes_on (needs (parts_in v) now) (Written.writes ys) ≡ Written.writes ys p.0 now = ap (λ o. goes_on (needs o now) (Written.writes ys)) p.1 in (
      ap (λ o. goes_on (needs o now) (λ vs. Spots.writes plainly xs (components plainly v 0 vs))) p.1
          ∙ ap (λ us. Spots.writes plainly xs us now) (same_components v 0 p.0) ∙ r.0 ∙ sym source,
      subst (Keeps reach Q) (sym source) r.1,
    )

-- targets in order
abbrev SpotsRun : Setting → Locals → AimedAll → List Written.Target → Type 0
SpotsRun setting locals all ms =
    (registers : List Shape) (c : Choice) (wc : Core.World Value) (ws : Source.World) → Describes setting registers wc ws
    → (slots : List Local) → SeenAs slots locals
    → (t : Shape) (rest : List (Run Value Value)) (kc : Spots.Spotted Value (List (Spots.Spot Value)) → Run Value Value)
    (km : List Written.Spot → Run Value Value)
    → ((xs : List (Spots.Spot Value)) (ys : List Written.Spot) → AllWrite (reach_of setting registers c slots) all.shapes xs ys → (here : Now Value)
    → Good (reach_of setting registers c slots) here
    → Agree (reach_of setting registers c slots) (Fits setting.types c t) (kc (record { found = xs; left = rest }) here) (km ys here))
    → (now : Now Value) → Good (reach_of setting registers c slots) now
    → Agree (reach_of setting registers c slots) (Fits setting.types c t)
    ((Spots.spots_of (map (spotting plainly wc) all.targets) (map (core_meaning wc) all.parts ++ rest) then kc) now)
    ((Written.spots_of ms ws then km) now)

-- parts of two pieces, and what is left
pub parts_then : (wc : Core.World Value) (xs ys : List Core) (rest : List (Run Value Value))
    → (map (core_meaning wc) (xs ++ ys) ++ rest) ≡ (map (core_meaning wc) xs ++ (map (core_meaning wc) ys ++ rest))
parts_then wc [] ys rest = refl
parts_then wc (x ∷ xs) ys rest = ap (λ ps. core_meaning wc x ∷ ps) (parts_then wc xs ys rest)

spots_run : (ts : List TargetPart) (ms : List Written.Target) (setting : Setting) (locals : Locals) → AimsAre setting locals ts ms
    → (each_aimed ts setting locals).faults ≡ [] → SpotsRun setting locals (each_aimed ts setting locals) ms
spots_run [] [] setting locals are e registers c wc ws d slots seen t rest kc km next now good = next [] [] tt now good
spots_run [] (m ∷ ms) setting locals are e registers c wc ws d slots seen t rest kc km next now good = absurd are
spots_run (x ∷ ts) [] setting locals are e registers c wc ws d slots seen t rest kc km next now good = absurd are
spots_run (x ∷ ts) (m ∷ ms) setting locals are e registers c wc ws d slots seen t rest kc km next now good =
    let reach : Reach = reach_of setting registers c slots in
    let Q : Value → Type 0 = Fits setting.types c t in
    let a : Aimed = x.aim setting locals in
    let more : AimedAll = each_aimed ts setting locals in
    let h = both_empty a.faults more.faults e in
    let others_c : List (Run Value Value) → Run Value (Spots.Spotted Value (List (Spots.Spot Value))) =
    Spots.spots_of (map (spotting plainly wc) more.targets) in
    let others_m : Run Value (List Written.Spot) = Written.spots_of ms ws in
    let left : List (Run Value Value) = map (core_meaning wc) more.parts ++ rest in
    let first_c : Spots.Spotted Value (Spots.Spot Value) → Run Value Value =
    λ first. others_c first.left then λ all. kc (record { found = first.found ∷ all.found; left = all.left }) in
    let first_m : Written.Spot → Run Value Value = λ spot. others_m then λ spots. km (spot ∷ spots) in
    let r = are.0 h.0 registers c wc ws d slots seen t left first_c first_m
    (λ u y alike here good2.
    spots_run ts ms setting locals are.1 h.1 registers c wc ws d slots seen t rest (λ all. kc (record { found = u ∷ all.found; left = all.left }))
    (λ spots. km (y ∷ spots)) (λ us ys others there good3. next (u ∷ us) (y ∷ ys) (alike, others) there good3) here good2) now good in
    let source : goes_on (Written.spots_of (m ∷ ms) ws now) km ≡ goes_on (m ws now) first_m =
    then_then (m ws now) (λ spot. others_m then λ spots. gives (spot ∷ spots)) km
    ∙ (λ j. goes_on (m ws now) (λ spot later. then_then (others_m later) (λ spots. gives (spot ∷ spots)) km j)) in (
      (λ j. goes_on (Spots.spots_of (map (spotting plainly wc) (a.target ∷ more.targets)) (parts_then wc a.parts more.parts rest j) now) kc)
          ∙ then_then (spotting plainly wc a.target (map (core_meaning wc) a.parts ++ left) now) (λ first. Spots.also first.found (others_c first.left)) kc
          ∙ (λ j. goes_on (spotting plainly wc a.target (map (core_meaning wc) a.parts ++ left) now)
          (λ first later. then_then (others_c first.left later) (λ all. Spots.spotted (first.found ∷ all.found) all.left) kc j))
          ∙ r.0 ∙ sym source,
      subst (Keeps reach Q) (sym source) r.1,
    )

pub tuple_aim : (setting : Setting) (locals : Locals) (place : Place) (ts : List TargetPart) (ms : List Written.Target) → AimsAre setting locals ts ms
    → (tuple_aimed place (each_aimed ts setting locals)).faults ≡ []
    → AimIs setting locals (tuple_aimed place (each_aimed ts setting locals)) (λ w. Written.spots_of ms w then λ spots. gives (Written.tuple_spot spots))
tuple_aim setting locals place ts ms are e registers c wc ws d slots seen t rest kc km next now good =
    let reach : Reach = reach_of setting registers c slots in
    let Q : Value → Type 0 = Fits setting.types c t in
    let all : AimedAll = each_aimed ts setting locals in
    let parts : List (Run Value Value) = map (core_meaning wc) all.parts ++ rest in
    let found : Run Value (Spots.Spotted Value (List (Spots.Spot Value))) = Spots.spots_of (map (spotting plainly wc) all.targets) parts in
    let r = spots_run ts ms setting locals are e registers c wc ws d slots seen t rest
    (λ some. kc (record { found = Spots.tuple_spot plainly 0 some.found; left = some.left })) (λ spots. km (Written.tuple_spot spots))
    (λ xs ys alike here good2. next (Spots.tuple_spot plainly 0 xs) (Written.tuple_spot ys) (tuple_writes setting registers c slots all.shapes xs ys alike) here
    good2) now good in
    let source = then_then (Written.spots_of ms ws now) (λ spots. gives (Written.tuple_spot spots)) km in (
      ap (λ (x : Spots.Spotting Value (Spots.Spot Value)). goes_on (x parts now) kc) (rolled_target wc place T.Tuple all.targets)
          ∙ then_then (found now) (λ some. Spots.spotted (Spots.tuple_spot plainly 0 some.found) some.left) kc ∙ r.0 ∙ sym source,
      subst (Keeps reach Q) (sym source) r.1,
    )

-- what is written alike is so in a tuple
pub as_part : (setting : Setting) (locals : Locals) (a : Aimed) (m : Written.Target) → AimIs setting locals a m → PartAimIs setting locals a m
as_part setting locals a m aim registers c wc ws d slots seen t rest kc km next now good =
    let reach : Reach = reach_of setting registers c slots in
    aim registers c wc ws d slots seen t rest kc km
    (λ x y alike. next x y (λ s above v fit here good2.
    agree_as reach (Fits setting.types c a.answer) (λ u. Unit {0}) (x.write v here) (y.write v here) (λ u h. tt) (alike s above v fit here good2))) now good
