use Rattle.std.proofs.Common.{◌∙◌, ap, refl}
use Rattle.std.proofs.lemmas.Result.{IfOk-weaker}
use Rattle.lowered_types.specs.Table.{type_in}
use Rattle.jib_lower.proofs.Coded.{value_made}
use Rattle.jib_lower.proofs.Told.{tree_told}
use Rattle.jib_lower.proofs.Unmade.{last_more}
use Rattle.jib_lower.proofs.openings.value_function.Goals as goal

pub returns-clause-made : goal.returns-clause-made
returns-clause-made c =
    IfOk-weaker c.make_value.result _ _ (λ made h.
    value_made c.args.model.now c.args.opened.now.types c.args.opened.now.names _ _ _ made c.args.of.now c.args.nodes.now c.args.typ.now h
    (record {
      setting = tree_told c.args.model.now c.in_ok-plain.plain c.as_slice-told.result c.args.of.now.value c.args.nodes.now c.in_ok-reads.reads
          c.as_slice-told.ensures c.in_ok-reads.ensures c.in_ok-plain.ensures;
      instances = c.around_of-around.ensures.instances;
      given = c.around_of-around.ensures.given;
      openings = c.around_of-around.ensures.openings;
      before_is = c.around_of-around.ensures.before;
      judged = (refl, refl);
      shell = c.signs_of-signs.ensures.shell;
      lets = c.signs_of-signs.ensures.lets;
      called = c.signs_of-signs.ensures.called;
      turned = c.signs_of-signs.ensures.turned;
      below = c.signs_of-signs.ensures.below;
      result = c.signs_of-signs.ensures.result_is;
      is_pure = c.signs_of-signs.ensures.is_pure;
      takes = refl;
      reads = c.in_ok-count.ensures ∙ c.len.ensures;
      pure = refl;
    })
    (c.in_ok-result.ensures ∙ ap (λ xs. type_in xs c.args.typ.now) c.in_ok-plain.ensures.numbered)) c.make_value.ensures.made

pub returns-clause-left : goal.returns-clause-left
returns-clause-left c = last_more c.make_value.result (λ why. record {
  walk = _;
  judge = _;
  head = _;
  around = record {
    setting = tree_told c.args.model.now c.in_ok-plain.plain c.as_slice-told.result c.args.of.now.value c.args.nodes.now c.in_ok-reads.reads
        c.as_slice-told.ensures c.in_ok-reads.ensures c.in_ok-plain.ensures;
    instances = c.around_of-around.ensures.instances;
    given = c.around_of-around.ensures.given;
    openings = c.around_of-around.ensures.openings;
    before_is = c.around_of-around.ensures.before;
    judged = (refl, refl);
    shell = c.signs_of-signs.ensures.shell;
    lets = c.signs_of-signs.ensures.lets;
    called = c.signs_of-signs.ensures.called;
    turned = c.signs_of-signs.ensures.turned;
    below = c.signs_of-signs.ensures.below;
    result = c.signs_of-signs.ensures.result_is;
    is_pure = c.signs_of-signs.ensures.is_pure;
    takes = refl;
    reads = c.in_ok-count.ensures ∙ c.len.ensures;
    pure = refl;
  };
  result = c.in_ok-result.ensures ∙ ap (λ xs. type_in xs c.args.typ.now) c.in_ok-plain.ensures.numbered;
  why = why;
}) c.make_value.ensures.left
