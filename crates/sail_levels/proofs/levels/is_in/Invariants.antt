use Rattle.std.proofs.Common.{◌≡◌, map, drop}
use Rattle.sail_grammar.specs.Symbol.{code}
use Rattle.sail_grammar.specs.Form.{among}
use Rattle.sail_levels.proofs.levels.is_in.Given as goal

-- the kinds that are left decide
abbrev pub invariant-loop-one : goal.invariant-loop-one
invariant-loop-one l = among (map code (drop l.one-index l.kinds)) (code l.kind) ≡ among (map code l.kinds) (code l.kind)
