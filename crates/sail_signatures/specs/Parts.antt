-- The parts of a function or mapping: its `val`, its body and its measure, by their positions in the text.
use Rattle.std.specs.Prelude.{◌≡◌, ℕ, Bool, false, List, bytes_eq, Option, Some, None, unwrap_or}
use Rattle.std.specs.Borrow.{Bor}
use Rattle.std.specs.HashMap.{HashMap, get_by}
use Rattle.std.specs.List.{position_from}
use Rattle.std.specs.Option.{option_or}
use Rattle.sail_syntax.specs.declared.definitions.Def.{Def}
use Rattle.sail_syntax.specs.declared.definitions.Def.TheVariants as D
use Rattle.sail_signatures.specs.declared.parts.Parts.{Parts}
use Rattle.sail_signatures.specs.declared.parts.Callables.{Callables}
use Rattle.sail_signatures.specs.Signatures.{is_val_of, is_body_of}

-- whether a definition is the measure of the function of a name
abbrev pub is_measure_of : List ℕ → Def → Bool
is_measure_of name (D.Measure place own parameters value) = bytes_eq own.text name
is_measure_of name d = false

-- the parts of a name: of several the first in the text
abbrev pub parts_of : List Def → List ℕ → Parts
parts_of text name = record {
  val = position_from (is_val_of name) 0 text;
  body = position_from (is_body_of name) 0 text;
  measure = position_from (is_measure_of name) 0 text;
}

-- ---- what a map holds

abbrev pub no_parts : Parts
no_parts = record { val = None; body = None; measure = None }

-- the parts of the name of a definition once it stands at this position
abbrev pub parts_with : Parts → ℕ → Def → Parts
parts_with parts at (D.Val place name quantifier from arrow to) = record parts { val = option_or parts.val (Some at) }
parts_with parts at (D.Function place extent name clauses) = record parts { body = option_or parts.body (Some at) }
parts_with parts at (D.Mapping place name sides clauses) = record parts { body = option_or parts.body (Some at) }
parts_with parts at (D.Measure place name parameters value) = record parts { measure = option_or parts.measure (Some at) }
parts_with parts at d = parts

abbrev pub parts_at : {S : Type 0} → HashMap (Bor (List ℕ)) Parts S → List ℕ → Parts
parts_at all name = unwrap_or (get_by (λ key. bytes_eq name key.now) all) no_parts

-- a map, read by name, holds the parts of each function and mapping
abbrev pub AreParts : List Def → (List ℕ → Parts) → Type 0
AreParts text parts = (name : List ℕ) → parts name ≡ parts_of text name

-- the functions and mappings of a text, found by name
abbrev pub AreOf : List Def → Callables → Type 0
AreOf text callables = AreParts text (parts_at callables.parts)

-- the name of the function or mapping that a definition is a part of
abbrev pub callable_name : Def → Option (List ℕ)
callable_name (D.Val place name quantifier from arrow to) = Some name.text
callable_name (D.Function place extent name clauses) = Some name.text
callable_name (D.Mapping place name sides clauses) = Some name.text
callable_name (D.Measure place name parameters value) = Some name.text
callable_name d = None
