use Rattle.jib_lower.proofs.Unmade.{none_at, some_at}
use Rattle.jib_lower.proofs.openings.held_type.Goals as goal

pub returns-in-Some-clause-typ : goal.returns-in-Some-clause-typ
returns-in-Some-clause-typ c = record {
  judge = _;
  judged = record {
    setting = c.in_ok-setting.ensures;
    instances = c.around_of-around.ensures.instances;
    given = c.around_of-around.ensures.given;
    openings = c.around_of-around.ensures.openings;
    before_is = c.around_of-around.ensures.before;
    shell = c.signs_of-signs.ensures.shell;
    lets = c.signs_of-signs.ensures.lets;
    called = c.signs_of-signs.ensures.called;
    turned = c.signs_of-signs.ensures.turned;
    below = c.signs_of-signs.ensures.below;
    result = c.signs_of-signs.ensures.result_is;
    is_pure = c.signs_of-signs.ensures.is_pure;
  };
  held = some_at _ _ _ c.in-Some.is c.in_ok-typ.ensures.some;
}

pub returns-in-None-clause-left : goal.returns-in-None-clause-left
returns-in-None-clause-left c = record {
  judge = _;
  judged = record {
    setting = c.in_ok-setting.ensures;
    instances = c.around_of-around.ensures.instances;
    given = c.around_of-around.ensures.given;
    openings = c.around_of-around.ensures.openings;
    before_is = c.around_of-around.ensures.before;
    shell = c.signs_of-signs.ensures.shell;
    lets = c.signs_of-signs.ensures.lets;
    called = c.signs_of-signs.ensures.called;
    turned = c.signs_of-signs.ensures.turned;
    below = c.signs_of-signs.ensures.below;
    result = c.signs_of-signs.ensures.result_is;
    is_pure = c.signs_of-signs.ensures.is_pure;
  };
  none = none_at _ _ c.in-None.is c.in_ok-typ.ensures.none;
}
