use Rattle.monomorph.proofs.Lasting.{all_rest}
use Rattle.monomorph.proofs.lasts.openings_behind.Goals as goal

pub returns-then-count-openings : goal.returns-then-count-openings
returns-then-count-openings c = all_rest c.args.openings.now c.args.count
