use Rattle.std.proofs.Common.{◌≡◌, ℕ, List, [], take, length}
use Rattle.std.specs.Prelude.{slice_index_or}
use Rattle.sail_globals.specs.declared.naming.Naming.{Naming}
use Rattle.known_names.specs.Held.{AreFirstOf}
use Rattle.known_names.specs.Meanings.{members_entered, members_of_operator}
use Rattle.known_names.proofs.entered.find_operators.Given as goal

abbrev pub invariant-loop-definition : goal.invariant-loop-definition
invariant-loop-definition l = record {
  count : length l.operators.items ≡ 24;
  entered : (namings : List Naming) → AreFirstOf namings l.firsts → (number : ℕ)
      → slice_index_or l.operators.items number [] ≡ members_entered namings (members_of_operator (take l.definition-index l.definitions) number);
}
