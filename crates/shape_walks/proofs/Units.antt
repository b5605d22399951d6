-- Overloads and operators without a written part.
use Rattle.std.proofs.Common.{◌≡◌, Bool, true, false, if◌then◌else◌, nat_eq, List, [], ◌∷◌, ◌++◌, map, length, slice_get, Option, Some}
use Rattle.std.proofs.Common.{refl, sym, ap, ◌∙◌, IfOk, OnOk}
use Rattle.std.proofs.lemmas.List.{append-nil}
use Rattle.std.specs.Prelude.{Result, Ok, Err}
use Rattle.std.specs.declared.alloc.AllocError.{AllocError}
use Rattle.sail_base.specs.declared.place.Place.{Place}
use Rattle.sail_syntax.specs.declared.words.Brackets.{Brackets}
use Rattle.sail_syntax.specs.declared.words.Brackets.TheVariants as B
use Rattle.shape_rules.specs.declared.callees.Candidate.{Candidate}
use Rattle.sail_types.specs.Shapes.{put, at}
use Rattle.sail_types.specs.declared.shapes.Shape.{Shape, out-Shape}
use Rattle.sail_types.specs.declared.shapes.Shape.TheFolds.{fold-roll-Shape}
use Rattle.sail_types.specs.declared.shapes.Shape.TheOpen as S
use Rattle.sail_types.specs.declared.shapes.Shape.TheVariants as V
use Rattle.sail_types.specs.declared.shapes.Shape.TheViews.{out-roll-Shape}
use Rattle.sail_core.specs.declared.patterns.Literal.TheVariants as L
use Rattle.sail_core.specs.declared.tree.Kind.TheVariants as K
use Rattle.sail_core.specs.declared.tree.Core.{Core}
use Rattle.shape_joins.specs.Joins.{Joins, join, join_form}
use Rattle.shape_joins.specs.Learning.{holes, learn}
use Rattle.shape_rules.specs.Findings.{Found, leaf, refused, settled, settled_as, first_failure}
use Rattle.shape_rules.specs.Scopes.{Setting, Locals}
use Rattle.shape_rules.specs.Calls.{Elaborate, Args, args_found, also_arg, several_found, member_candidate, arguments_for, takes_unit, takes_unit_form}
use Rattle.shape_rules.specs.Calls.{counted, solved, solved_found, known_or, taught, call_found}
use Rattle.shape_rules.specs.declared.error.ShapeError.{ShapeError}
use Rattle.shape_rules.specs.declared.error.ShapeError.TheVariants as error
use Rattle.shape_rules.specs.Values.{unit_found, group_found}
use Rattle.shape_calls.specs.Made.{made_of}
use Rattle.shape_calls.specs.declared.made.Made.{Made}
use Rattle.shape_walks.specs.declared.heads.Head.{Head}
use Rattle.shape_walks.specs.declared.heads.Head.TheVariants as H
use Rattle.shape_walks.specs.Walks.{args_of}
use Rattle.shape_walks.specs.Heads.{head_found, head_made, head_bare, group_bare, unit_walk, unit_at_param, unit_solved}

never_open : out-Shape V.Never ≡ S.Never
never_open = ap out-Shape (sym V.rolls-Never) ∙ out-roll-Shape S.Never

-- `()`, where nothing is wanted
join_unit : join V.Unit V.Never ≡ Some V.Unit
join_unit =
    ap (λ (s : Shape). join s V.Never) (sym V.rolls-Unit)
    ∙ ap (λ (f : Joins). f V.Never) (fold-roll-Shape Joins (λ shape t. join_form shape t (out-Shape t)) S.Unit)
    ∙ ap (join_form S.Unit V.Never) never_open

unit_alone : (place : Place) (core : Core) → settled place V.Never V.Unit (λ s. core) ≡ record { shape = V.Unit; core = core; faults = [] }
unit_alone place core = ap (settled_as place V.Never V.Unit (λ s. core)) join_unit

args_of_unit : (place : Place) (setting : Setting) (locals : Locals) → args_found (unit_found place ∷ []) setting locals ≡ args_of (unit_walk place)
args_of_unit place setting locals =
    ap (λ (a : Found). also_arg a (args_found [] setting locals)) (unit_alone place (leaf place (K.Constant L.Unit)))

-- what is found without a part, by a walk that has found the one argument `()`, or none
group_is : (place : Place) (brackets : Brackets) (setting : Setting) (locals : Locals) (want : Shape)
    → group_found place brackets [] setting locals want ≡ group_bare place brackets want
group_is place B.Tuple setting locals want = refl
group_is place B.Vector setting locals want = refl
group_is place B.List setting locals want = refl

-- a callee on these arguments, by its parameters
abbrev called_on : Place → Shape → Candidate → Setting → Locals → List Elaborate → List Shape → Found
called_on place want f setting locals args ps =
    counted place (length ps) (length args) (solved_found place want f (solved args setting locals ps (holes f.variables)))

abbrev bare_by : Place → Shape → Candidate → List Shape → Found
bare_by place want f ps =
    if takes_unit ps then solved_found place want f (unit_solved place (holes f.variables) (slice_get ps 0))
    else (if nat_eq (length ps) 0 then call_found place want f (holes f.variables) [] else refused (error.Arity place (length ps) 0))

one_param : (place : Place) (want : Shape) (f : Candidate) (setting : Setting) (locals : Locals) (p : Shape) (takes : Bool)
    → called_on place want f setting locals (if takes then unit_found place ∷ [] else []) (p ∷ [])
    ≡ (if takes then solved_found place want f (unit_solved place (holes f.variables) (Some p)) else refused (error.Arity place 1 0))
one_param place want f setting locals p true =
    let known : List Shape = holes f.variables in
    let a : Found = unit_at_param place known p in
    ap (λ (faults : List ShapeError). solved_found place want f (record {
      known = known_or known (learn p a.shape known);
      cores = a.core ∷ [];
      faults = faults;
    })) (append-nil (a.faults ++ taught (put (at known) p) a (learn p a.shape known)))
one_param place want f setting locals p false = refl

bare_called : (place : Place) (want : Shape) (f : Candidate) (setting : Setting) (locals : Locals) (ps : List Shape)
    → called_on place want f setting locals (arguments_for (unit_found place) ps []) ps ≡ bare_by place want f ps
bare_called place want f setting locals [] = refl
bare_called place want f setting locals (p ∷ []) = one_param place want f setting locals p (takes_unit_form (out-Shape p))
bare_called place want f setting locals (p ∷ q ∷ ps) = refl

-- forms over a list of expressions without a part
pub bare_is : (head : Head) (setting : Setting) (locals : Locals) (want : Shape) → head_found head [] setting locals want ≡ head_bare head setting want
unfolding head_made
bare_is (H.Group place brackets) setting locals want = group_is place brackets setting locals want
bare_is (H.One place f) setting locals want = bare_called place want f.now setting locals f.now.params
bare_is (H.Members name fs) setting locals want =
    ap (λ (args : Args). several_found name.now.place name.now.text fs.now args want) (args_of_unit name.now.place setting locals)
bare_is (H.Rows name ms) setting locals want =
    ap (λ (args : Args). several_found name.now.place name.now.text (map member_candidate ms.now) args want)
    (args_of_unit name.now.place setting locals)
bare_is (H.Prefixed place prefix) setting locals want = refl
bare_is (H.Infix place operator) setting locals want = refl

-- the same, whatever names are in scope
pub bare_made : (result : Result Made AllocError) (head : Head) (setting : Setting) (want : Shape)
    → IfOk result (λ made. made ≡ made_of (head_bare head setting want))
    → IfOk result (λ made. (locals : Locals) → made ≡ made_of (head_found head [] setting locals want))
bare_made (Ok made) head setting want h = λ locals. h ∙ ap made_of (sym (bare_is head setting locals want))
bare_made (Err e) head setting want h = h

pub bare_noted : (result : Result Made AllocError) (head : Head) (setting : Setting) (want : Shape) (before after : Option ShapeError)
    → OnOk result (after ≡ first_failure before (head_bare head setting want).faults)
    → OnOk result ((locals : Locals) → after ≡ first_failure before (head_found head [] setting locals want).faults)
bare_noted (Ok made) head setting want before after h =
    λ locals. h ∙ ap (λ (y : Found). first_failure before y.faults) (sym (bare_is head setting locals want))
bare_noted (Err e) head setting want before after h = h
