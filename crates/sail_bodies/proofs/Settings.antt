-- Where a definition stands, as the code has it and as the definition says it.
use Rattle.std.proofs.Common.{◌≡◌, ℕ, false, List, Option, None, Bor, sym, ap, ◌∙◌, refl}
use Rattle.sail_base.specs.declared.place.Place.{Place}
use Rattle.sail_syntax.specs.declared.name.Name.{Name}
use Rattle.sail_syntax.specs.declared.types.TyExp.{TyExp}
use Rattle.sail_syntax.specs.declared.words.Arrow.{Arrow}
use Rattle.sail_syntax.specs.declared.definitions.Param.{Param}
use Rattle.sail_syntax.specs.declared.definitions.Quantifier.{Quantifier}
use Rattle.sail_syntax.specs.declared.definitions.Def.{Def}
use Rattle.sail_syntax.specs.declared.definitions.Def.TheVariants as D
use Rattle.sail_kinds.specs.Scopes.{Within, binders_step, variables_of as variables_of_binders}
use Rattle.sail_kinds.specs.declared.scope.Binders.{fold-roll-Binders}
use Rattle.sail_kinds.specs.declared.scope.Binders.TheOpen as B
use Rattle.sail_kinds.specs.declared.scope.Binders.TheVariants as V
use Rattle.sail_kinds.specs.declared.scope.NamedType.{NamedType}
use Rattle.sail_kinds.specs.declared.scope.Variable.{Variable}
use Rattle.sail_names.specs.declared.around.Allowed.{Allowed}
use Rattle.sail_names.specs.Known.{Known}
use Rattle.type_definitions.specs.Defined.{Types, under, variables_of}
use Rattle.sail_bodies.specs.Bodies.{setting, allowed_in, variables_at, own_failures, body_failures}

-- outside of a union's definition, under these variables
pub under_is : (named : List ℕ → Option NamedType) (own : Option (List ℕ)) (variables : List Variable) (parameters : List Param)
    → own ≡ None → variables ≡ variables_of parameters
    → record { types = named; own = own; is_in_list = false; variables = variables } ≡ under named parameters
under_is named own variables parameters none are = λ i. record { types = named; own = none i; is_in_list = false; variables = are i }

pub setting_is : (known : Known) (types : Types) (allowed other : Allowed) (within : Within) (parameters : List Param) (at : ℕ)
    → within ≡ under types.named parameters → allowed ≡ other
    → record { known = known; types = within; allowed = allowed; number = at } ≡ setting known types other parameters at
setting_is known types allowed other within parameters at is same = λ i. record { known = known; types = is i; allowed = same i; number = at }

-- parameters in scope are themselves
pub parameters_are : (variables : Bor (List Variable)) → variables_of_binders (V.Parameters variables) ≡ variables.now
parameters_are variables =
    ap variables_of_binders (sym (V.rolls-Parameters variables)) ∙ fold-roll-Binders (List Variable) binders_step (B.Parameters variables)

-- a definition that is no `val` has its own failures, where it stands
pub own_is : (text : List Def) (known : Known) (types : Types) (at : ℕ) (d : Def)
    → ((place : Place) (name : Name) (quantifier : Quantifier) (from : TyExp) (arrow : Arrow) (to : TyExp) → d ≡ D.Val place name quantifier from arrow to → ⊥)
    → own_failures (setting known types (allowed_in d) (variables_at text d) at) types d ≡ body_failures text known types at d
own_is text known types at (D.Val place name quantifier from arrow to) is_none = absurd (is_none place name quantifier from arrow to refl)
own_is text known types at d is_none = refl
