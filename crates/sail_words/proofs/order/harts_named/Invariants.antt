use Rattle.std.proofs.Common.{◌≡◌, ◌-◌, map, take}
use Rattle.sail_words.proofs.order.harts_named.Given as goal

-- the harts of the bytes so far
abbrev pub invariant-loop-byte : goal.invariant-loop-byte
invariant-loop-byte l = l.order ≡ map (λ byte. byte - 48) (take l.byte-index l.word)
