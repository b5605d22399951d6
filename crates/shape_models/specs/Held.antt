-- What maps hold of names while they are found, and how a top-level let comes among names that mean something.
use Rattle.std.specs.Prelude.{◌≡◌, ℕ, suc, Bool, true, false, String, List, [], ◌∷◌, bytes_eq, Option, Some, None, if◌then◌else◌}
use Rattle.std.specs.HashMap.{HashMap, get_by_text}
use Rattle.shape_rules.specs.declared.callees.Meant.{Meant}
use Rattle.shape_rules.specs.declared.callees.Meant.TheVariants as M
use Rattle.shape_rules.specs.declared.locals.Local.{Local}
use Rattle.shape_models.specs.declared.overloads.Overload.{Overload}
use Rattle.shape_models.specs.Models.{Own, candidates, or_overload}

-- what names mean by a map
abbrev pub held : {Y S : Type 0} → HashMap (String Y) Meant S → Own
held values name = get_by_text values name

-- what a name means, or else the first overload of it that has members
abbrev pub or_named : Option Meant → List Overload → List ℕ → Option Meant
or_named old [] name = old
or_named old (o ∷ os) name = or_named (or_overload old (if bytes_eq o.name name then candidates o.added else [])) os name

-- whether a definition or a let gives a name its meaning
abbrev pub is_own : Meant → Bool
is_own (M.Row row) = false
is_own (M.Overload fs) = false
is_own meant = true

abbrev pub has_own : Option Meant → Bool
has_own None = false
has_own (Some meant) = is_own meant

-- what a name means once a let binds it
abbrev pub over : Option Meant → Meant → Option Meant
over old bound = if has_own old then old else Some bound

-- what a name means once lets behind so many bind these names
abbrev pub lets_over : ℕ → List Local → Option Meant → List ℕ → Option Meant
lets_over count [] old name = old
lets_over count (l ∷ ls) old name = lets_over (suc count) ls (if bytes_eq l.name name then over old (M.Let count l.shape) else old) name

-- definitions give names meanings of their own
abbrev pub AreOwn : Own → Type 0
AreOwn own = (name : List ℕ) (m : Meant) → own name ≡ Some m → is_own m ≡ true
