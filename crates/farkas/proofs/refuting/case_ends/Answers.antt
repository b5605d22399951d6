use Rattle.farkas.proofs.Marking.{few_kept}
use Rattle.farkas.proofs.refuting.case_ends.Goals as goal

pub kept_ends-requires : goal.kept_ends-requires
kept_ends-requires c = record { few = few_kept c.args.rows.now _ _ c.in_ok-starts.ensures c.in-Kept.is }
