use Rattle.std.proofs.Common.{◌≡◌, map, drop}
use Rattle.sail_grammar.specs.Symbol.{symbol, code}
use Rattle.sail_grammar.specs.Form.{among}
use Rattle.sail_grammar.proofs.word.is_of_any.Given as goal

-- the kinds that are left decide
abbrev pub invariant-loop-kind : goal.invariant-loop-kind
invariant-loop-kind l = among (map code (drop l.kind-index l.kinds)) (symbol l.token) ≡ among (map code l.kinds) (symbol l.token)
