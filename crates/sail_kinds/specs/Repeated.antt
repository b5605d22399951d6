-- Names that stand in one list a second time.
use Rattle.std.specs.Prelude.{ℕ, Bool, true, false, ◌||◌, bytes_eq, if◌then◌else◌, List, [], ◌∷◌, ◌++◌}
use Rattle.sail_syntax.specs.declared.name.Name.{Name}
use Rattle.sail_kinds.specs.declared.error.TableError.{TableError}
use Rattle.sail_kinds.specs.declared.error.TableError.TheVariants as error

-- a clash at a name that stood before
abbrev pub clash_where : Bool → Name → List TableError
clash_where stood name = if stood then error.Clash name.place name.text ∷ [] else []

-- the clashes of names, where those before them are told by their texts
abbrev pub clashes_behind : (List ℕ → Bool) → List Name → List TableError
clashes_behind stood [] = []
clashes_behind stood (name ∷ names) =
    clash_where (stood name.text) name ++ clashes_behind (λ other. bytes_eq name.text other || stood other) names

-- a clash at each name that stands in the list before it
abbrev pub clashes : List Name → List TableError
clashes = clashes_behind (λ name. false)

abbrev pub is_none_of : List TableError → Bool
is_none_of [] = true
is_none_of (e ∷ es) = false
