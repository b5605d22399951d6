use Rattle.std.proofs.Common.{◌≡◌, ◌++◌, ◌*◌, ◌<◌}
use Rattle.sail_gen.specs.Draws.{state_after}
use Rattle.sail_gen.specs.Model.{functions_text}
use Rattle.sail_gen.proofs.model.push_functions.Given as goal

-- the functions so far, each of which took two draws
abbrev pub invariant-loop-number : goal.invariant-loop-number
invariant-loop-number l = record {
  text : l.out.items ≡ l.fn.out.items ++ functions_text l.fn.draws.state l.number;
  state : l.draws.state ≡ state_after l.fn.draws.state (2 * l.number);
  below : l.draws.state < 65537;
}
