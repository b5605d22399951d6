use Rattle.std.proofs.Common.{◌∙◌, ap, refl}
use Rattle.std.proofs.lemmas.Result.{IfOk-weaker}
use Rattle.lowered_types.specs.Table.{type_in}
use Rattle.jib_lower.proofs.Coded.{name_made}
use Rattle.jib_lower.proofs.Unmade.{last_more}
use Rattle.jib_lower.proofs.openings.name_function.Goals as goal

pub make_name-requires : goal.make_name-requires
make_name-requires c = record { bare = c.in_ok-setting.ensures.bodies_are }

pub returns-clause-made : goal.returns-clause-made
returns-clause-made c =
    IfOk-weaker c.make_name.result _ _ (λ made h.
    name_made c.args.model.now c.args.opened.now.types c.args.opened.now.names _ _ _ made c.args.name.now c.args.arm.now h
    (record {
      setting = c.in_ok-setting.ensures;
      instances = c.around_of-around.ensures.instances;
      given = c.around_of-around.ensures.given;
      openings = c.around_of-around.ensures.openings;
      before_is = c.around_of-around.ensures.before;
      judged = (refl, refl);
      shell = c.signs_of-signs.ensures.shell;
      lets = c.signs_of-signs.ensures.lets;
      called = c.signs_of-signs.ensures.called;
      turned = c.signs_of-signs.ensures.turned;
      below = c.signs_of-signs.ensures.below;
      result = c.signs_of-signs.ensures.result_is;
      is_pure = c.signs_of-signs.ensures.is_pure;
      takes = refl;
      reads = c.in_ok-count.ensures ∙ c.len.ensures;
      pure = refl;
    })
    (c.in_ok-result.ensures ∙ ap (λ xs. type_in xs c.args.name.now.typ.now) c.in_ok-setting.ensures.numbered) c.requires.steps) c.make_name.ensures.made

pub returns-clause-left : goal.returns-clause-left
returns-clause-left c = last_more c.make_name.result (λ why. record {
  walk = _;
  judge = _;
  head = _;
  around = record {
    setting = c.in_ok-setting.ensures;
    instances = c.around_of-around.ensures.instances;
    given = c.around_of-around.ensures.given;
    openings = c.around_of-around.ensures.openings;
    before_is = c.around_of-around.ensures.before;
    judged = (refl, refl);
    shell = c.signs_of-signs.ensures.shell;
    lets = c.signs_of-signs.ensures.lets;
    called = c.signs_of-signs.ensures.called;
    turned = c.signs_of-signs.ensures.turned;
    below = c.signs_of-signs.ensures.below;
    result = c.signs_of-signs.ensures.result_is;
    is_pure = c.signs_of-signs.ensures.is_pure;
    takes = refl;
    reads = c.in_ok-count.ensures ∙ c.len.ensures;
    pure = refl;
  };
  result = c.in_ok-result.ensures ∙ ap (λ xs. type_in xs c.args.name.now.typ.now) c.in_ok-setting.ensures.numbered;
  why = why;
}) c.make_name.ensures.left
