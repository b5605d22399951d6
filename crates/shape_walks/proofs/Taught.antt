-- Arguments that teach two shapes of one variable: what is noted of them, behind the failures in them.
use Rattle.std.proofs.Common.{◌≡◌, ℕ, Bool, List, ◌++◌, length, Option, Some, None, is_some, refl, sym, ap, ◌∙◌}
use Rattle.sail_types.specs.Shapes.{put, at}
use Rattle.sail_types.specs.declared.shapes.Shape.{Shape}
use Rattle.shape_joins.specs.Learning.{learn}
use Rattle.shape_rules.specs.declared.error.ShapeError.{ShapeError}
use Rattle.shape_rules.specs.Findings.{Found, first_failure}
use Rattle.shape_rules.specs.Calls.{taught, has_some}
use Rattle.shape_rules.proofs.Firsts.{first_failure_append}
use Rattle.shape_calls.specs.Made.{made_of, taught_by}
use Rattle.shape_calls.specs.Apart.{note_of}
use Rattle.shape_calls.proofs.Apart.{noted_apart, some_noted}
use Rattle.shape_walks.specs.declared.walks.Plan.{Plan}
use Rattle.shape_walks.specs.declared.walks.Plan.TheVariants as P
use Rattle.shape_walks.specs.declared.walks.Walk.{Walk}
use Rattle.shape_walks.specs.Walks.{shape_at, plan_taught, plan_faults, taught_made, one_faults}

taught_again : (want : Shape) (a : Found) (learnt : Option (List Shape)) → taught_by want (made_of a) (has_some a.faults) learnt ≡ taught want a learnt
taught_again want a None = refl
taught_again want a (Some learnt) = refl

-- an argument that was wanted as this shape, and what it teaches
pub both_taught : (want : Shape) (a : Found) (learnt : Option (List Shape)) (kept apart : Option ShapeError) → apart ≡ first_failure None a.faults
    → first_failure (note_of kept apart) (taught_by want (made_of a) (is_some apart) learnt) ≡ first_failure kept (a.faults ++ taught want a learnt)
both_taught want a learnt kept apart is =
    let noted : note_of kept apart ≡ first_failure kept a.faults = ap (note_of kept) is ∙ noted_apart kept a.faults in
    let some : is_some apart ≡ has_some a.faults = ap (λ (x : Option ShapeError). is_some x) is ∙ some_noted a.faults in
    (λ i. first_failure (noted i) (taught_by want (made_of a) (some i) learnt))
    ∙ ap (first_failure (first_failure kept a.faults)) (taught_again want a learnt)
    ∙ sym (first_failure_append kept a.faults (taught want a learnt))

by_plan : (plan : Plan) (n : ℕ) (a : Found) (kept apart : Option ShapeError) → apart ≡ first_failure None a.faults
    → first_failure (note_of kept apart) (plan_taught plan n (made_of a) (is_some apart)) ≡ first_failure kept (plan_faults plan n a)
by_plan (P.Each wants) n a kept apart is = ap (note_of kept) is ∙ noted_apart kept a.faults
by_plan (P.GivenOn want) n a kept apart is = ap (note_of kept) is ∙ noted_apart kept a.faults
by_plan (P.Params params known) n a kept apart is =
    both_taught (put (at known) (shape_at params n)) a (learn (shape_at params n) a.shape known) kept apart is

-- one part more of a walk, whose failures were noted apart
pub one_noted : (w : Walk) (a : Found) (kept apart : Option ShapeError) → apart ≡ first_failure None a.faults
    → first_failure (note_of kept apart) (taught_made w (made_of a) (is_some apart)) ≡ first_failure kept (one_faults w a)
unfolding taught_made one_faults
one_noted w a kept apart is = by_plan w.plan (length w.shapes) a kept apart is
