use Rattle.std.proofs.Common.{◌≡◌, ◌++◌, ◌<◌}
use Rattle.std.specs.List.{flat_map, range_with_len}
use Rattle.sail_gen.specs.Draws.{draw, state_after}
use Rattle.sail_gen.specs.Image.{half}
use Rattle.sail_gen.proofs.image.push_codes.Given as goal

-- the codes so far, each of which took a draw
abbrev pub invariant-loop-number : goal.invariant-loop-number
invariant-loop-number l = record {
  text : l.out.items ≡ l.fn.out.items ++ flat_map (λ number. half (draw l.fn.draws.state number l.size)) (range_with_len 0 l._number);
  state : l.draws.state ≡ state_after l.fn.draws.state l._number;
  below : l.draws.state < 65537;
}
