-- Tuples that constructors hold have several parts, and what functions and mappings take isn't nothing.
use Rattle.std.proofs.Common.{◌≡◌, ℕ, true, List, [], ◌∷◌, Some}
use Rattle.sail_syntax.specs.declared.definitions.Def.{Def}
use Rattle.sail_types.specs.Named.{constructors}
use Rattle.sail_types.specs.declared.table.Field.{Field}
use Rattle.sail_signatures.specs.declared.signature.Signature.{Signature}
use Rattle.sail_tables.specs.Refused.{signature_in}
use Rattle.shape_rules.specs.Calls.{parameters_of}
use Rattle.shape_meanings.specs.Worlds.{is_payload}
use Rattle.shapes.specs.Tabled.{tabled_of}
use Rattle.known_texts.specs.Written.{is_some_name}

abbrev pub AllPayloads : List Field → Type 0
AllPayloads [] = Unit {0}
AllPayloads (f ∷ fs) = (is_payload f.typ ≡ true) × AllPayloads fs

pub record TuplesHaveParts (text : List Def) : Type 0 where
  pub taken : (name : List ℕ) (s : Signature) → signature_in text name ≡ Some s → is_some_name (parameters_of s.from) ≡ true
  pub payloads : (u : ℕ) → AllPayloads (constructors (tabled_of text).types u)
