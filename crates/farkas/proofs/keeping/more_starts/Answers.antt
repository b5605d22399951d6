use Rattle.std.proofs.Common.{refl, sym, ap, ◌∙◌}
use Rattle.farkas.specs.Events.{starts_of}
use Rattle.farkas.specs.declared.keeping.Starts.TheVariants.{Kept}
use Rattle.farkas.specs.Keeping.{started}
use Rattle.farkas.proofs.Goings.{fold_ends}
use Rattle.farkas.proofs.keeping.more_starts.Goals as goal

pub returns-in-Contradicts : goal.returns-in-Contradicts
returns-in-Contradicts c =
    fold_ends started c.args.rows.now c.loop-row.row-index c.row-item.result (Kept c.loop-row.kept) _ _ c.loop-row-test.true c.row-item.is
    c.loop-row.invariant
    (ap (λ e. starts_of e c.keep.new.kept) (sym c.in-Contradicts.is) ∙ c.in_ok-keep.ensures) (λ x. refl)

pub returns-in-TooMany : goal.returns-in-TooMany
returns-in-TooMany c =
    fold_ends started c.args.rows.now c.loop-row.row-index c.row-item.result (Kept c.loop-row.kept) _ _ c.loop-row-test.true c.row-item.is
    c.loop-row.invariant
    (ap (λ e. starts_of e c.keep.new.kept) (sym c.in-TooMany.is) ∙ c.in_ok-keep.ensures) (λ x. refl)
