-- When the text of a type is refused.
use Rattle.std.specs.Prelude.{◌≡◌, ℕ, Bool, true, false, List, Option, Some, None, ◌⊎◌}
use Rattle.sail_kinds.specs.declared.error.TableError.{TableError}
use Rattle.sail_kinds.specs.declared.error.TableError.TheVariants as error
use Rattle.sail_kinds.specs.declared.scope.NamedType.{NamedType}
use Rattle.sail_kinds.specs.declared.scope.Meaning.{Meaning}
use Rattle.sail_kinds.specs.declared.scope.Meaning.TheVariants as M
use Rattle.sail_kinds.specs.Failures.{first_failure}

-- whether a type's definition has failed
abbrev pub is_unknown : Meaning → Bool
is_unknown M.Unknown = true
is_unknown meaning = false

-- no name is that of a type whose definition has failed
abbrev pub AreKnown : (List ℕ → Option NamedType) → Type 0
AreKnown types = (name : List ℕ) (t : NamedType) → types name ≡ Some t → is_unknown t.meaning ≡ false

-- a text is refused for the first of its failures; want of memory says nothing of it
abbrev pub IsRefusal : List TableError → TableError → Type 0
IsRefusal failures e = (e ≡ error.OutOfMemory) ⊎ (first_failure None failures ≡ Some e)
