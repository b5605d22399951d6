use Rattle.std.proofs.Common.{refl, sym, ap, ◌∙◌}
use Rattle.std.specs.List.{fold}
use Rattle.farkas.specs.Keeping.{started}
use Rattle.farkas.specs.declared.keeping.Starts.TheVariants.{Contradiction, TooMany}
use Rattle.farkas.proofs.Goings.{fold_stays}
use Rattle.farkas.proofs.keeping.starts_with.Goals as goal

pub returns-in_ok-copy_rows-in-Contradiction : goal.returns-in_ok-copy_rows-in-Contradiction
returns-in_ok-copy_rows-in-Contradiction c =
    ap Contradiction (c.in_ok-copy_rows-in-Contradiction.ensures ∙ c.as_slice-in-Contradiction.ensures)
    ∙ (sym (fold_stays started (Contradiction c.in-Contradiction.kept) (λ x. refl) c.args.rows.now)
    ∙ ap (λ s. fold started s c.args.rows.now) (sym c.in-Contradiction.is))

pub returns-in-TooMany : goal.returns-in-TooMany
returns-in-TooMany c =
    sym (fold_stays started TooMany (λ x. refl) c.args.rows.now) ∙ ap (λ s. fold started s c.args.rows.now) (sym c.in-TooMany.is)
