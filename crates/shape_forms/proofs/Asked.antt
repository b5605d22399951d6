-- Failures of `sizeof` and `constraint` behind those of the type that they ask of.
use Rattle.std.proofs.Common.{◌≡◌, List, ◌++◌, Option, Some, subst, OnOk}
use Rattle.std.specs.Prelude.{Result}
use Rattle.std.specs.declared.alloc.AllocError.{AllocError}
use Rattle.sail_base.specs.declared.place.Place.{Place}
use Rattle.sail_syntax.specs.declared.types.TyExp.{TyExp}
use Rattle.sail_types.specs.declared.numbers.Num.{Num}
use Rattle.sail_types.specs.declared.numbers.Con.{Con}
use Rattle.sail_types.specs.declared.shapes.Shape.{Shape}
use Rattle.sail_types.specs.declared.shapes.Shape.TheVariants as V
use Rattle.sail_core.specs.declared.tree.Core.{Core}
use Rattle.sail_core.specs.declared.tree.Kind.TheVariants as K
use Rattle.shape_rules.specs.declared.error.ShapeError.{ShapeError}
use Rattle.shape_rules.specs.Findings.{leaf, settled, first_failure}
use Rattle.shape_rules.specs.Scopes.{Setting}
use Rattle.shape_rules.specs.Statements.{size_found, truth_found}
use Rattle.shape_rules.specs.Written.{written_faults, numbers_in}
use Rattle.shape_calls.specs.declared.made.Made.{Made}
use Rattle.shape_walks.proofs.Called.{behind_others}

-- a leaf behind other failures
pub settled_behind : (result : Result Made AllocError) (place : Place) (want s : Shape) (core known : Core) (before mid last : Option ShapeError)
    (es : List ShapeError) → core ≡ known → mid ≡ first_failure before es
    → OnOk result (last ≡ first_failure mid (settled place want s (λ t. core)).faults)
    → OnOk result (last ≡ first_failure before (es ++ (settled place want s (λ t. known)).faults))
settled_behind result place want s core known before mid last es same noted h =
    behind_others result before mid last es (settled place want s (λ t. known)).faults noted
    (subst (λ (c : Core). OnOk result (last ≡ first_failure mid (settled place want s (λ t. c)).faults)) same h)

pub size_noted : (result : Result Made AllocError) (place : Place) (typ : TyExp) (setting : Setting) (want : Shape) (core : Core) (n : Num)
    (x : Option Num) (before mid last : Option ShapeError) → Some n ≡ x → core ≡ leaf place (K.SizeOf n (numbers_in setting.within typ))
    → mid ≡ first_failure before (written_faults setting.within typ)
    → OnOk result (last ≡ first_failure mid (settled place want V.Int (λ t. core)).faults)
    → OnOk result (last ≡ first_failure before (size_found place typ setting want x).faults)
size_noted result place typ setting want core n x before mid last found same noted h =
    subst (λ (y : Option Num). OnOk result (last ≡ first_failure before (size_found place typ setting want y).faults)) found
    (settled_behind result place want V.Int core (leaf place (K.SizeOf n (numbers_in setting.within typ))) before mid last
    (written_faults setting.within typ) same noted h)

pub truth_noted : (result : Result Made AllocError) (place : Place) (typ : TyExp) (setting : Setting) (want : Shape) (core : Core) (n : Con)
    (x : Option Con) (before mid last : Option ShapeError) → Some n ≡ x → core ≡ leaf place (K.Constraint n (numbers_in setting.within typ))
    → mid ≡ first_failure before (written_faults setting.within typ)
    → OnOk result (last ≡ first_failure mid (settled place want V.Bool (λ t. core)).faults)
    → OnOk result (last ≡ first_failure before (truth_found place typ setting want x).faults)
truth_noted result place typ setting want core n x before mid last found same noted h =
    subst (λ (y : Option Con). OnOk result (last ≡ first_failure before (truth_found place typ setting want y).faults)) found
    (settled_behind result place want V.Bool core (leaf place (K.Constraint n (numbers_in setting.within typ))) before mid last
    (written_faults setting.within typ) same noted h)
