use Rattle.std.proofs.Common.{◌≡◌, drop, map, length}
use Rattle.sail_types.specs.Shapes.{shares, each_shares}
use Rattle.sail_types.proofs.shaping.+may_share.Given as goal

abbrev pub invariant-parts_may_share-loop-index : goal.invariant-parts_may_share-loop-index
invariant-parts_may_share-loop-index l =
    (length l.a ≡ length l.b) × (each_shares (map shares (drop l.index l.a)) (drop l.index l.b) ≡ each_shares (map shares l.a) l.b)
