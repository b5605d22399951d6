use Rattle.std.proofs.Common.{◌≡◌, map, take}
use Rattle.sail_words.proofs.reading.texts.Given as goal

-- the texts of the names so far
abbrev pub invariant-loop-name : goal.invariant-loop-name
invariant-loop-name l = l.texts ≡ map (λ name. name.now) (take l.name-index l.names)
