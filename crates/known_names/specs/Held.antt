-- What maps hold on the way to the meanings of names.
use Rattle.std.specs.Prelude.{◌≡◌, ℕ, List, [], bytes_eq, Option, option_map, unwrap_or}
use Rattle.std.specs.Borrow.{Bor}
use Rattle.std.specs.HashMap.{HashMap, get_by}
use Rattle.sail_syntax.specs.declared.definitions.Def.{Def}
use Rattle.sail_globals.specs.declared.naming.Naming.{Naming}
use Rattle.known_names.specs.declared.firsts.Taking.{Taking}
use Rattle.known_names.specs.declared.firsts.Firsts.{Firsts}
use Rattle.known_names.specs.Meanings.{naming_of, members_entered, members_of_name}

-- how a definition takes a name
abbrev pub taking : Naming → Taking
taking naming = record { role = naming.role; number = naming.definition }

abbrev pub taking_at : {S : Type 0} → HashMap (Bor (List ℕ)) Taking S → List ℕ → Option Taking
taking_at names name = get_by (λ key. bytes_eq name key.now) names

-- a map, read by name, holds how the first definition takes each name of a value
abbrev pub AreFirst : List Naming → (List ℕ → Option Taking) → Type 0
AreFirst namings takings = (name : List ℕ) → takings name ≡ option_map taking (naming_of namings name)

abbrev pub AreFirstOf : List Naming → Firsts → Type 0
AreFirstOf namings firsts = AreFirst namings (taking_at firsts.names)

abbrev pub entered_at : {S : Type 0} → HashMap (Bor (List ℕ)) (List ℕ) S → List ℕ → List ℕ
entered_at names name = unwrap_or (get_by (λ key. bytes_eq name key.now) names) []

-- a map, read by name, holds what calls of each overload can enter
abbrev pub AreEntered : List Naming → List Def → (List ℕ → List ℕ) → Type 0
AreEntered namings text entered = (name : List ℕ) → entered name ≡ members_entered namings (members_of_name text name)
