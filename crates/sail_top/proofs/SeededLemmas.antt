-- How the program of a seed is run is within the limits.
use Rattle.std.proofs.Common.{ℕ, ◌<◌, [], arith}
use Rattle.std.proofs.lemmas.List.Elements.{All-cons, All-nil}
use Rattle.sail_words.specs.Line.{IsWithinLimits}
use Rattle.sail_top.specs.Seeded.{seeded_setup}

pub seeded_within : (size : ℕ) → IsWithinLimits (seeded_setup size)
seeded_within size = record {
  harts = (omega arith, omega arith);
  order = (omega arith, All-cons (λ hart. hart < 1) 0 [] (omega arith) (All-nil (λ hart. hart < 1)));
  size = (omega arith, omega arith);
  space = omega arith;
}
