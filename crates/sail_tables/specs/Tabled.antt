-- What tables hold of a text: what each name is, with types in normal form. Definitions are told by their positions in the text.
use Rattle.std.specs.Prelude.{◌≡◌, ℕ, ◌+◌, Bool, true, false, if◌then◌else◌, List, [], ◌∷◌, bytes_eq}
use Rattle.std.specs.Prelude.{nat_eq, nat_lt, slice_index_or, Option, Some, None, unwrap_or}
use Rattle.std.specs.Borrow.{Bor}
use Rattle.std.specs.HashMap.{HashMap, get_by}
use Rattle.sail_base.specs.declared.place.Place.{Place}
use Rattle.sail_syntax.specs.declared.definitions.Overloaded.TheVariants as O
use Rattle.sail_syntax.specs.declared.definitions.Def.{Def}
use Rattle.sail_syntax.specs.declared.definitions.Def.TheVariants as D
use Rattle.call_graph.specs.declared.found.Cycles.{Cycles}
use Rattle.call_graph.specs.Components.{node_count, cycle_of}
use Rattle.type_definitions.specs.Defined.{held, types_of}
use Rattle.sail_names.specs.Known.{Known, known_of}
use Rattle.sail_base.specs.Operators.{number_of}
use Rattle.sail_signatures.specs.declared.signature.Signature.{Signature}
use Rattle.sail_signatures.specs.Parts.{AreOf}
use Rattle.known_names.specs.Meanings.{known_in}
use Rattle.sail_cycles.specs.Cycles.{AreCyclesOf, call_graph, number_named}
use Rattle.sail_tables.specs.declared.model_tables.Tables.{Tables}
use Rattle.sail_tables.specs.Refused.{signature_in}

abbrev pub is_let : Def → Bool
is_let (D.Let place pattern value) = true
is_let d = false

abbrev pub is_register : Def → Bool
is_register (D.Register place name typ initial) = true
is_register d = false

-- whether a definition adds members to the overload of a name, or of the operator of a number
abbrev pub adds_to_name : List ℕ → Def → Bool
adds_to_name name (D.Overload place (O.Named own) members) = bytes_eq own.text name
adds_to_name name d = false

abbrev pub adds_to_operator : ℕ → Def → Bool
adds_to_operator number (D.Overload place (O.Operator at own) members) = nat_eq (number_of own) number
adds_to_operator number d = false

-- the positions of the definitions that pass a test, in text order, the first of which has this one
abbrev pub positions_from : (Def → Bool) → ℕ → List Def → List ℕ
positions_from test at [] = []
positions_from test at (d ∷ text) = if test d then at ∷ positions_from test (at + 1) text else positions_from test (at + 1) text

abbrev pub positions : (Def → Bool) → List Def → List ℕ
positions test text = positions_from test 0 text

-- ---- what maps hold

abbrev pub signature_at : {S : Type 0} → HashMap (Bor (List ℕ)) (Option Signature) S → List ℕ → Option Signature
signature_at signatures name = unwrap_or (get_by (λ key. bytes_eq name key.now) signatures) None

abbrev pub positions_at : {S : Type 0} → HashMap (Bor (List ℕ)) (List ℕ) S → List ℕ → List ℕ
positions_at all name = unwrap_or (get_by (λ key. bytes_eq name key.now) all) []

-- the cycle in which a function or mapping lies
abbrev pub cycle_numbered : Cycles → Option ℕ → Option ℕ
cycle_numbered calls None = None
cycle_numbered calls (Some number) = if nat_lt number (node_count calls) then cycle_of calls number else None

abbrev pub cycle_named : Cycles → Known → List ℕ → Option ℕ
cycle_named calls known name = cycle_numbered calls (number_named (known.value name))

-- tables are those of a text that ends here
pub record AreTables (text : List Def) (last : Place) (tables : Tables) : Type 0 where
  -- the definitions
  pub definitions : tables.definitions.now ≡ text
  -- what each type is: its parameters, what it stands for, and the fields, constructors or members of a struct, union or enum
  pub types : held tables.types ≡ types_of text
  -- what each name of a value means, and what calls of it can enter
  pub names : known_of tables.names ≡ known_in text
  -- the `val`, the body and the measure of each function and mapping, and its signature
  pub callables : AreOf text tables.callables
  pub signatures : (name : List ℕ) → signature_at tables.signatures name ≡ signature_in text name
  -- the cycle of calls in which each lies
  pub calls : AreCyclesOf (call_graph (known_in text) text) tables.calls
  pub lets : tables.lets ≡ positions is_let text
  pub registers : tables.registers ≡ positions is_register text
  -- the definitions that add to each overload
  pub overloads : (name : List ℕ) → positions_at tables.overloads name ≡ positions (adds_to_name name) text
  pub operators : (number : ℕ) → slice_index_or tables.operators number [] ≡ positions (adds_to_operator number) text
  -- the end of the last file
  pub end : tables.end ≡ last
