-- Where the members of a definition are read, as the code holds it.
use Rattle.std.proofs.Common.{◌≡◌, ℕ, false, List, Option, Some}
use Rattle.sail_kinds.specs.declared.scope.NamedType.{NamedType}
use Rattle.sail_syntax.specs.declared.definitions.Param.{Param}
use Rattle.sail_kinds.specs.Scopes.{type_named, own_of}
use Rattle.type_definitions.specs.declared.defined.Defined.{Defined}
use Rattle.type_definitions.specs.Defined.{held, IsBetween, under, under_union, around, variables_of}

-- outside of a union
pub around_between : (defined : Defined) (parameters : List Param) → IsBetween defined
    → around defined parameters ≡ under (held defined).named parameters
around_between defined parameters h = λ i. record { types = type_named defined.names; own = h i; is_in_list = false; variables = variables_of parameters }

-- in a union of this name
pub around_union : (defined : Defined) (named : List ℕ → Option NamedType) (name : List ℕ) (parameters : List Param)
    → ((other : List ℕ) → type_named defined.names other ≡ named other) → own_of defined.names ≡ Some name
    → around defined parameters ≡ under_union named name parameters
around_union defined named name parameters types own =
    λ i. record { types = λ other. types other i; own = own i; is_in_list = false; variables = variables_of parameters }
