use Rattle.shape_rules.specs.Around.{setting_of}
use Rattle.shape_walks.proofs.Units.{bare_made, bare_noted}
use Rattle.shape_walks.proofs.heads.Head.bare.Goals as goal

pub returns-clause-made : goal.returns-clause-made
returns-clause-made c =
    bare_made c.without_part.result c.args.self (setting_of c.args.around.now) c.args.want.now c.without_part.ensures.made

pub returns-clause-failures : goal.returns-clause-failures
returns-clause-failures c =
    bare_noted c.without_part.result c.args.self (setting_of c.args.around.now) c.args.want.now c.args.first.now.error
    c.without_part.new.first.error c.without_part.ensures.failures
