-- Failures of a form behind others, and of calls with what is known to be the same.
use Rattle.std.proofs.Common.{◌≡◌, ℕ, nat_eq, Bool, if◌then◌else◌, List, [], ◌++◌, length, Option, Some, None, sym, ap, subst, IfOk, OnOk}
use Rattle.std.specs.Prelude.{Result}
use Rattle.std.specs.declared.alloc.AllocError.{AllocError}
use Rattle.sail_base.specs.declared.place.Place.{Place}
use Rattle.sail_syntax.specs.declared.types.TyExp.{TyExp}
use Rattle.sail_types.specs.declared.numbers.Num.{Num}
use Rattle.sail_types.specs.declared.numbers.Con.{Con}
use Rattle.sail_types.specs.declared.shapes.Shape.{Shape}
use Rattle.sail_types.specs.declared.shapes.Shape.TheVariants as V
use Rattle.sail_core.specs.declared.tree.Core.{Core}
use Rattle.sail_core.specs.declared.tree.Kind.TheVariants as K
use Rattle.shape_joins.specs.Learning.{holes}
use Rattle.shape_rules.specs.declared.callees.Candidate.{Candidate}
use Rattle.shape_rules.specs.declared.error.ShapeError.{ShapeError}
use Rattle.shape_rules.specs.declared.error.ShapeError.TheVariants as error
use Rattle.shape_rules.specs.Findings.{leaf, settled, refused, first_failure}
use Rattle.shape_rules.specs.Scopes.{Setting}
use Rattle.shape_rules.specs.Calls.{call_found, solved_found}
use Rattle.shape_rules.specs.Statements.{size_found, truth_found}
use Rattle.shape_rules.specs.Written.{written_faults, numbers_in}
use Rattle.shape_calls.specs.Made.{made_of}
use Rattle.shape_calls.specs.declared.made.Made.{Made}
use Rattle.shape_walks.specs.Heads.{one_on_nothing, unit_at_param, unit_taught, unit_solved}
use Rattle.shape_walks.proofs.Called.{behind_others}

-- a call with the same known shapes and cores
pub again_noted : (result : Result Made AllocError) (place : Place) (want : Shape) (f : Candidate) (known learnt : List Shape) (xs ys : List Core)
    (before last : Option ShapeError) → known ≡ learnt → xs ≡ ys
    → OnOk result (last ≡ first_failure before (call_found place want f known xs).faults)
    → OnOk result (last ≡ first_failure before (call_found place want f learnt ys).faults)
again_noted result place want f known learnt xs ys before last same cores h =
    subst (λ (zs : List Core). OnOk result (last ≡ first_failure before (call_found place want f learnt zs).faults)) cores
    (subst (λ (ks : List Shape). OnOk result (last ≡ first_failure before (call_found place want f ks xs).faults)) same h)

-- a call of a callee without a parameter
pub nothing_noted : (result : Result Made AllocError) (place : Place) (want : Shape) (f : Candidate) (known : List Shape) (xs : List Core)
    (before last : Option ShapeError) → length f.params ≡ 0 → known ≡ holes f.variables → xs ≡ []
    → OnOk result (last ≡ first_failure before (call_found place want f known xs).faults)
    → OnOk result (last ≡ first_failure before (one_on_nothing place want f).faults)
nothing_noted result place want f known xs before last none same cores h =
    subst (λ (b : Bool). OnOk result (last ≡ first_failure before
    (if b then call_found place want f (holes f.variables) [] else refused (error.Arity place (length f.params) 0)).faults))
    (sym (ap (λ (n : ℕ). nat_eq n 0) none))
    (again_noted result place want f known (holes f.variables) xs [] before last same cores h)

-- a call of a callee on `()`
pub unit_made : (result : Result Made AllocError) (place : Place) (want : Shape) (f : Candidate) (known : List Shape) (param : Shape)
    (x : Option Shape) → Some param ≡ x → known ≡ holes f.variables
    → IfOk result (λ made. made ≡ made_of (solved_found place want f (unit_taught known param (unit_at_param place known param))))
    → IfOk result (λ made. made ≡ made_of (solved_found place want f (unit_solved place (holes f.variables) x)))
unit_made result place want f known param x found same h =
    subst (λ (y : Option Shape). IfOk result (λ made. made ≡ made_of (solved_found place want f (unit_solved place (holes f.variables) y)))) found
    (subst (λ (ks : List Shape). IfOk result (λ made. made ≡ made_of (solved_found place want f (unit_taught ks param (unit_at_param place ks param)))))
    same h)

pub unit_noted : (result : Result Made AllocError) (place : Place) (want : Shape) (f : Candidate) (known : List Shape) (param : Shape)
    (x : Option Shape) (before last : Option ShapeError) → Some param ≡ x → known ≡ holes f.variables
    → OnOk result (last ≡ first_failure before (solved_found place want f (unit_taught known param (unit_at_param place known param))).faults)
    → OnOk result (last ≡ first_failure before (solved_found place want f (unit_solved place (holes f.variables) x)).faults)
unit_noted result place want f known param x before last found same h =
    subst (λ (y : Option Shape). OnOk result (last ≡ first_failure before (solved_found place want f (unit_solved place (holes f.variables) y)).faults))
    found
    (subst (λ (ks : List Shape). OnOk result (last ≡ first_failure before
    (solved_found place want f (unit_taught ks param (unit_at_param place ks param))).faults)) same h)

pub no_unit_noted : (result : Result Made AllocError) (place : Place) (want : Shape) (f : Candidate) (known : List Shape) (xs : List Core)
    (x : Option Shape) (before last : Option ShapeError) → None ≡ x → known ≡ holes f.variables → xs ≡ []
    → OnOk result (last ≡ first_failure before (call_found place want f known xs).faults)
    → OnOk result (last ≡ first_failure before (solved_found place want f (unit_solved place (holes f.variables) x)).faults)
no_unit_noted result place want f known xs x before last found same cores h =
    subst (λ (y : Option Shape). OnOk result (last ≡ first_failure before (solved_found place want f (unit_solved place (holes f.variables) y)).faults))
    found (again_noted result place want f known (holes f.variables) xs [] before last same cores h)
