use Rattle.std.proofs.Common.{◌≡◌, drop}
use Rattle.std.specs.List.{list_any}
use Rattle.size_splits.specs.Splits.{term_is}
use Rattle.size_splits.proofs.names.is_among.Given as goal

-- the rest decides
abbrev pub invariant-loop-term : goal.invariant-loop-term
invariant-loop-term l = list_any (term_is l.variable) (drop l.term-index l.term-items) ≡ list_any (term_is l.variable) l.term-items
