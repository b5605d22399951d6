use Rattle.std.proofs.Common.{◌≡◌, ℕ, List, codes, cond, bytes_eq, ◌∙◌, Some, None}
use Rattle.sail_kinds.specs.Scopes.{type_named}
use Rattle.type_definitions.specs.Defined.{with_name, option_type}
use Rattle.type_definitions.proofs.defined.Defined.builtin.Goals as goal

pub returns-clause-types : goal.returns-clause-types
returns-clause-types c =
    let typ : c.in_ok-typ.typ ≡ option_type = c.in_ok-typ.ensures in
    let names : (other : List ℕ) → type_named c.define.new.self other ≡ with_name (codes "option") option_type (λ name. None) other =
    λ other. c.in_ok-define.ensures.types other
    ∙ (λ i. cond (bytes_eq (codes "option") other) (Some (typ i)) (c.new-names.ensures.types other i)) in
    λ i. record { named = λ other. names other i; table = c.in_ok-table.ensures i }
