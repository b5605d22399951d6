use Rattle.shape_progress.proofs.MeantNodes.{checked_is_meant, stuck_at_conditions}
use Rattle.shape_progress.proofs.laws.stuck_at_conditions.Goals as goal

pub returns-clause-meant : goal.returns-clause-meant
returns-clause-meant c = checked_is_meant

pub returns-clause-stuck : goal.returns-clause-stuck
returns-clause-stuck c = stuck_at_conditions
