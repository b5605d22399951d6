use Rattle.jib_lower.proofs.Told.{tree_told}
use Rattle.jib_lower.proofs.Unmade.{none_at, some_at}
use Rattle.jib_lower.proofs.openings.value_type.Goals as goal

pub returns-in-Some-clause-typ : goal.returns-in-Some-clause-typ
returns-in-Some-clause-typ c = record {
  judge = _;
  judged = record {
    setting = tree_told c.args.model.now c.in_ok-plain.plain c.as_slice-told.result c.args.of.now.value c.args.nodes.now c.in_ok-reads.reads
        c.as_slice-told.ensures c.in_ok-reads.ensures c.in_ok-plain.ensures;
    instances = c.around_of-around.ensures.instances;
    given = c.around_of-around.ensures.given;
    openings = c.around_of-around.ensures.openings;
    before_is = c.around_of-around.ensures.before;
    shell = c.signs_of-signs.ensures.shell;
    lets = c.signs_of-signs.ensures.lets;
    called = c.signs_of-signs.ensures.called;
    turned = c.signs_of-signs.ensures.turned;
    below = c.signs_of-signs.ensures.below;
    result = c.signs_of-signs.ensures.result_is;
    is_pure = c.signs_of-signs.ensures.is_pure;
  };
  only = some_at _ _ _ c.in-Some.is c.in_ok-typ.ensures.some;
}

pub returns-clause-left : goal.returns-clause-left
returns-clause-left c = record {
  judge = _;
  judged = record {
    setting = tree_told c.args.model.now c.in_ok-plain.plain c.as_slice-told.result c.args.of.now.value c.args.nodes.now c.in_ok-reads.reads
        c.as_slice-told.ensures c.in_ok-reads.ensures c.in_ok-plain.ensures;
    instances = c.around_of-around.ensures.instances;
    given = c.around_of-around.ensures.given;
    openings = c.around_of-around.ensures.openings;
    before_is = c.around_of-around.ensures.before;
    shell = c.signs_of-signs.ensures.shell;
    lets = c.signs_of-signs.ensures.lets;
    called = c.signs_of-signs.ensures.called;
    turned = c.signs_of-signs.ensures.turned;
    below = c.signs_of-signs.ensures.below;
    result = c.signs_of-signs.ensures.result_is;
    is_pure = c.signs_of-signs.ensures.is_pure;
  };
  none = none_at _ _ c.in-None.is c.in_ok-typ.ensures.none;
}
