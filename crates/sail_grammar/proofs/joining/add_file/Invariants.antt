use Rattle.std.proofs.Common.{◌≡◌, ◌++◌, take}
use Rattle.sail_grammar.specs.Joined.{with_texts}
use Rattle.sail_grammar.proofs.joining.add_file.Given as goal

abbrev pub invariant-loop-token : goal.invariant-loop-token
invariant-loop-token l = l.all ≡ l.initial.all ++ with_texts l.source (take l.token-index l.tokens)
