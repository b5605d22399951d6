use Rattle.std.proofs.Common.{◌≡◌, ℕ, List, take}
use Rattle.sail_kinds.specs.Scopes.{type_named}
use Rattle.sail_tables.specs.Tabled.{signature_at}
use Rattle.sail_tables.proofs.Signed.{signature_among}
use Rattle.sail_tables.proofs.signatures.find_signatures.Given as goal

-- a name that some definition so far is a part of has its signature
abbrev pub invariant-loop-definition : goal.invariant-loop-definition
invariant-loop-definition l = (name : List ℕ) → signature_at l.signatures name
    ≡ signature_among (type_named l.types.names) l.definitions (take l.definition-index l.definitions) name
