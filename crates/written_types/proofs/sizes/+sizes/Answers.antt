use Rattle.std.proofs.Common.{refl, map}
use Rattle.shape_rules.specs.Written.{joined, sizes_at}
use Rattle.written_types.proofs.Rows.{pushed_more}
use Rattle.written_types.proofs.sizes.+sizes.Goals as goal

pub push_each_sizes-loop-typ-preserved : goal.push_each_sizes-loop-typ-preserved
push_each_sizes-loop-typ-preserved t c =
    pushed_more (sizes_at c.args.place) (λ ts. joined (map (sizes_at c.args.place) ts)) refl (λ x xs. refl)
    c.args.types.now c.loop-typ.typ-index c.typ-item.result c.args.numbers.now c.loop-typ.numbers c.push_sizes.new.numbers
    c.loop-typ-test.true c.typ-item.is c.loop-typ.invariant c.in_ok-push_sizes.ensures
