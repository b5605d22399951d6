use Rattle.fact_index.proofs.Filing.{pushed_keeps, pushed_there}
use Rattle.fact_index.proofs.files.push_position.Goals as goal

pub returns-clause-kept : goal.returns-clause-kept
returns-clause-kept c =
    pushed_keeps c.push.result c.args.lists.now.items c.grow.new.lists.items c.args.key c.args.position c.index_mut.result.now c.push.new.self
    c.in_ok-grow.ensures.within c.in_ok-grow.ensures.same c.index_mut.ensures.value c.push.ensures.pushed

pub returns-clause-put : goal.returns-clause-put
returns-clause-put c =
    pushed_there c.push.result c.grow.new.lists.items c.args.key c.args.position c.index_mut.result.now c.push.new.self c.in_ok-grow.ensures.within
    c.push.ensures.pushed
