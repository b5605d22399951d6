-- A text has one first failure, or none.
use Rattle.std.proofs.Common.{◌≡◌, ℕ, Bool, List, sym, ◌∙◌, Option, None}
use Rattle.std.specs.Bool.{one_answer}
use Rattle.sail_base.specs.declared.place.Place.{Place}
use Rattle.sail_syntax.specs.declared.definitions.Def.{Def}
use Rattle.sail_kinds.specs.Failures.{first_failure}
use Rattle.sail_kinds.specs.declared.error.TableError.{TableError}
use Rattle.known_names.specs.Meanings.{known_in}
use Rattle.sail_cycles.specs.Cycles.{TellsCycles, call_graph, pattern_graph}
use Rattle.sail_tables.specs.Refused.{failures, IsFirstFailure}

one_test : (graph : List (List ℕ)) (test other : ℕ → Bool) → TellsCycles graph test → TellsCycles graph other → test ≡ other
one_test graph test other tells others = λ i node. one_answer (test node) (other node) (tells node) (others node) i

pub one_first_failure : (text : List Def) (end : Place) (a b : Option TableError) → IsFirstFailure text end a → IsFirstFailure text end b → a ≡ b
one_first_failure text end a b p q =
    let calls : p.is_cyclic ≡ q.is_cyclic = one_test (call_graph (known_in text) text) p.is_cyclic q.is_cyclic p.calls q.calls in
    let patterns : p.is_pattern_cyclic ≡ q.is_pattern_cyclic =
    one_test (pattern_graph (known_in text) text) p.is_pattern_cyclic q.is_pattern_cyclic p.patterns q.patterns in
    sym p.first ∙ (λ i. first_failure None (failures text end (calls i) (patterns i))) ∙ q.first
