-- Assignments, also several in one: the indexes of each target, then what is on its right, then the write.
use Rattle.std.proofs.Common.{◌≡◌, List, [], ◌∷◌, ◌++◌, map, ap, sym, ◌∙◌, refl, true, Option, Some, None}
use Rattle.sail_base.specs.declared.place.Place.{Place}
use Rattle.sail_types.specs.declared.shapes.Shape.{Shape}
use Rattle.sail_types.specs.declared.values.Value.{Value}
use Rattle.sail_core.specs.declared.tree.Core.{Core}
use Rattle.sail_core.specs.declared.tree.Kind.TheVariants as K
use Rattle.sail_core.specs.Run.{Run, goes_on, ◌then◌}
use Rattle.sail_core.specs.Making as Core
use Rattle.sail_core.specs.Making.{plainly}
use Rattle.sail_core.specs.Meaning.{core_meaning}
use Rattle.sail_core.specs.Targets as Spots
use Rattle.sail_core.specs.Targets.{spotting}
use Rattle.shape_joins.specs.Filling.{fills}
use Rattle.shape_joins.specs.Joins.{join}
use Rattle.shape_joins.proofs.JoinsLeast.{joins_are_above}
use Rattle.sail_meaning.specs.World as Source
use Rattle.sail_meaning.specs.Targets as Written
use Rattle.shape_rules.specs.Findings.{over, missing, settled_as}
use Rattle.shape_rules.specs.Scopes.{Setting, Locals}
use Rattle.shape_rules.specs.Targets.{Part, Aimed}
use Rattle.shape_rules.specs.Statements.{FurtherPart, Righted, righted, inner_faults, chained_faults, assign_to}
use Rattle.shape_meanings.specs.Keeping.{Fits, Reach, reach_of}
use Rattle.shape_meanings.specs.Aims.{AimIs, FurtherAre}
use Rattle.shape_meanings.specs.Parts.{IsRight, PairRuns}
use Rattle.shape_meanings.proofs.Values.{widens}
use Rattle.shape_meanings.proofs.Runs.{then_agree, agree_as}
use Rattle.shape_meanings.proofs.Operators.{right_via}
use Rattle.shape_meanings.proofs.Settling.{settled_right, behind_right, both_empty, unrolled}

-- what is on the right of a target: the value, or further assignments
abbrev right_of : List Written.Target → Source.Meaning → Source.Meaning
right_of [] mv w = mv w
right_of (m ∷ ms) mv w = m w then λ spot. right_of ms mv w then spot.write

-- it gives values of a shape above the wanted one
abbrev RightIs : Setting → Locals → Shape → Righted → Source.Meaning → Type 0
RightIs setting locals want right m =
    (t : Shape) × (fills want t ≡ true)
    × PairRuns setting locals t (λ wc. Spots.assigned (map (spotting plainly wc) right.targets) (map (core_meaning wc) right.parts)) m

parts_of : (wc : Core.World Value) (xs ys : List Core) → map (core_meaning wc) (xs ++ ys) ≡ (map (core_meaning wc) xs ++ map (core_meaning wc) ys)
parts_of wc [] ys = refl
parts_of wc (x ∷ xs) ys = ap (λ ps. core_meaning wc x ∷ ps) (parts_of wc xs ys)

-- a target and what is on its right
assigned_runs : (setting : Setting) (locals : Locals) (a : Aimed) (right : Righted) (m : Written.Target) (r : Source.Meaning) → AimIs setting locals a m
    → RightIs setting locals a.shape right r
    → PairRuns setting locals a.answer
    (λ wc. Spots.assigned (map (spotting plainly wc) (a.target ∷ right.targets)) (map (core_meaning wc) (a.parts ++ right.parts)))
    (λ w. m w then λ spot. r w then spot.write)
assigned_runs setting locals a right m r aim is registers c wc ws d slots seen now good =
    let reach : Reach = reach_of setting registers c slots in
    let Q : Value → Type 0 = Fits setting.types c a.answer in
    let rest : List (Run Value Value) = map (core_meaning wc) right.parts in
    let others : List (Run Value Value) → Run Value Value = Spots.assigned (map (spotting plainly wc) right.targets) in
    let q = aim registers c wc ws d slots seen a.answer rest (λ spot. others spot.left then spot.found.write) (λ spot. r ws then spot.write)
    (λ x y writes here good2.
    then_agree reach (Fits setting.types c is.0) Q (others rest here) (r ws here) x.write y.write (is.2 registers c wc ws d slots seen here good2)
    (λ v later fit good3. writes is.0 is.1 v fit later good3)) now good in (
      (λ j. goes_on (spotting plainly wc a.target (parts_of wc a.parts right.parts j) now) (λ spot. others spot.left then spot.found.write)) ∙ q.0,
      q.1,
    )

joined_step : (place : Place) (want s : Shape) (o : Option Shape) → join s want ≡ o → (settled_as place want s (λ x. missing place) o).faults ≡ []
    → (t : Shape) × (fills s t ≡ true) × (fills want t ≡ true)
joined_step place want s None is e = absurd (not_none e)
  where
    not_none : {A : Type 0} {x : A} → (x ∷ []) ≡ [] → ⊥
    not_none e = cc
joined_step place want s (Some t) is e =
    let above = joins_are_above s want t is in
    (t, above.0, above.1)

righted_runs : (fs : List FurtherPart) (ms : List Written.Target) (value : Part) (mv : Source.Meaning) (setting : Setting) (locals : Locals) (want : Shape)
    → FurtherAre setting locals fs ms → IsRight setting locals value.elaborate mv
    → (righted fs value setting locals want).faults ≡ []
    → RightIs setting locals want (righted fs value setting locals want) (right_of ms mv)
righted_runs [] [] value mv setting locals want are right e =
    let r = right want e in
    ((value.elaborate setting locals want).shape, r.above, r.runs)
righted_runs [] (m ∷ ms) value mv setting locals want are right e = absurd are
righted_runs (f ∷ fs) [] value mv setting locals want are right e = absurd are
righted_runs (f ∷ fs) (m ∷ ms) value mv setting locals want are right e =
    let a : Aimed = f.to.aim setting locals in
    let more : Righted = righted fs value setting locals a.shape in
    let h = both_empty (inner_faults f.place want a.answer ++ chained_faults f.place a) more.faults e in
    let h2 = both_empty (inner_faults f.place want a.answer) (chained_faults f.place a) h.0 in
    let j = joined_step f.place want a.answer (join a.answer want) refl h2.0 in
    let runs = assigned_runs setting locals a more m (right_of ms mv) (are.0 h2.1) (righted_runs fs ms value mv setting locals a.shape are.1 right h.1) in (
      j.0,
      j.2,
      λ registers c wc ws d slots seen now good.
          agree_as (reach_of setting registers c slots) (Fits setting.types c a.answer) (Fits setting.types c j.0) _ _
          (λ v fit. widens setting.types v c a.answer j.0 j.1 fit) (runs registers c wc ws d slots seen now good),
    )

-- what an assignment of these targets means, behind the first
assigned_is : (target : Written.Target) (ms : List Written.Target) (mv : Source.Meaning)
    → Written.assigned target ms mv ≡ (λ w. target w then λ spot. right_of ms mv w then spot.write)
assigned_is target [] mv = refl
assigned_is target (m ∷ ms) mv = λ j w. target w then λ spot. assigned_is m ms mv j w then spot.write

pub assign_right : (setting : Setting) (locals : Locals) (place : Place) (a : Aimed) (more : List FurtherPart) (value : Part) (m : Written.Target)
    (ms : List Written.Target) (mv : Source.Meaning)
    → (chained_faults place a ≡ [] → AimIs setting locals a m) → FurtherAre setting locals more ms → IsRight setting locals value.elaborate mv
    → IsRight setting locals (assign_to place a more value) (Written.assigned m ms mv)
assign_right setting locals place a more value m ms mv aim are right want e =
    let found : Righted = righted more value setting locals a.shape in
    let n : Source.Meaning = λ w. m w then λ spot. right_of ms mv w then spot.write in
    let h = both_empty (chained_faults place a ++ found.faults) _ e in
    let h2 = both_empty (chained_faults place a) found.faults h.0 in
    right_via setting locals want (assign_to place a more value setting locals want) n (Written.assigned m ms mv) (sym (assigned_is m ms mv))
    (behind_right setting locals want (chained_faults place a ++ found.faults) _ n
    (settled_right setting locals place want a.answer (λ s. over place (K.Assign (a.target ∷ found.targets)) (a.parts ++ found.parts)) n h.1
    (λ t registers c wc ws d slots seen now good.
    let q = assigned_runs setting locals a found m (right_of ms mv) (aim h2.0) (righted_runs more ms value mv setting locals a.shape are right h2.1)
    registers c wc ws d slots seen now good in
    (ap (λ (x : Run Value Value). x now) (unrolled wc place 0 (K.Assign (a.target ∷ found.targets)) (a.parts ++ found.parts)) ∙ q.0, q.1))))
