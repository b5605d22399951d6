-- Why a gathered text has no tables: the first, by place and then by number, of all failures of its definitions.
use Rattle.std.specs.Prelude.{◌≡◌, ℕ, Bool, if◌then◌else◌, List, [], ◌∷◌, ◌++◌, ◌&&◌, codes, Option, Some, None}
use Rattle.sail_base.specs.declared.place.Place.{Place}
use Rattle.sail_syntax.specs.declared.definitions.Def.{Def}
use Rattle.sail_kinds.specs.Failures.{first_failure}
use Rattle.sail_kinds.specs.declared.error.TableError.{TableError}
use Rattle.sail_kinds.specs.declared.error.TableError.TheVariants as error
use Rattle.sail_globals.specs.declared.naming.Called.TheVariants.{Function}
use Rattle.sail_globals.specs.Namings.{all_namings}
use Rattle.sail_globals.specs.Clashes.{clashes}
use Rattle.sail_globals.specs.Globals.{has_body}
use Rattle.sail_declared.specs.Wanting.{all_wanting}
use Rattle.type_definitions.specs.Defined.{types_of, all_type_failures}
use Rattle.sail_signatures.specs.declared.signature.Signature.{Signature}
use Rattle.sail_signatures.specs.Signatures.{signature_of}
use Rattle.sail_signatures.specs.Starts.{is_reset, is_step}
use Rattle.known_names.specs.Meanings.{known_in}
use Rattle.sail_bodies.specs.Bodies.{all_body_failures}
use Rattle.sail_cycles.specs.Cycles.{TellsCycles, call_graph, pattern_graph, all_cycle_failures}

-- ---- the entry points

abbrev pub signature_in : List Def → List ℕ → Option Signature
signature_in text name = signature_of (types_of text).named text name

abbrev pub is_function : List Def → List ℕ → Bool
is_function text name = has_body (all_namings text) Function name

abbrev pub entry_failure : Bool → Place → List ℕ → List TableError
entry_failure is_there end name = if is_there then [] else error.EntryMissing end name ∷ []

abbrev pub has_reset : List Def → Bool
has_reset text = is_function text (codes "reset") && is_reset (signature_in text (codes "reset"))

abbrev pub has_step : List Def → Bool
has_step text = is_function text (codes "step") && is_step (signature_in text (codes "step"))

-- their failures, which stand at the end of the last file: `reset` before `step`
abbrev pub entry_failures : List Def → Place → List TableError
entry_failures text end = entry_failure (has_reset text) end (codes "reset") ++ entry_failure (has_step text) end (codes "step")

-- ---- all failures

-- all failures of a text that ends here, where these tests tell what reaches itself
abbrev pub failures : List Def → Place → (ℕ → Bool) → (ℕ → Bool) → List TableError
failures text end is_cyclic is_pattern_cyclic =
    ((((clashes (all_namings text)
    ++ all_wanting (all_namings text) text)
    ++ all_type_failures text)
    ++ all_body_failures text (known_in text) (types_of text))
    ++ all_cycle_failures text (known_in text) is_cyclic is_pattern_cyclic text)
    ++ entry_failures text end

-- the first failure of a text that ends here, if it has one
pub record IsFirstFailure (text : List Def) (end : Place) (failure : Option TableError) : Type 0 where
  pub is_cyclic : ℕ → Bool
  pub is_pattern_cyclic : ℕ → Bool
  pub calls : TellsCycles (call_graph (known_in text) text) is_cyclic
  pub patterns : TellsCycles (pattern_graph (known_in text) text) is_pattern_cyclic
  pub first : first_failure None (failures text end is_cyclic is_pattern_cyclic) ≡ failure

-- a text has no failure
abbrev pub IsAccepted : List Def → Place → Type 0
IsAccepted text end = IsFirstFailure text end None

-- an error is the first failure of a text; want of memory says nothing of the text
abbrev pub IsRefusal : List Def → Place → TableError → Type 0
IsRefusal text end error.OutOfMemory = Unit {0}
IsRefusal text end e = IsFirstFailure text end (Some e)
