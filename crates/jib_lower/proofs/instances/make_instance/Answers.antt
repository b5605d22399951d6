use Rattle.std.proofs.Common.{◌∙◌, ap, map, refl}
use Rattle.std.proofs.lemmas.Result.{IfOk-weaker}
use Rattle.lowered_types.specs.Table.{type_in}
use Rattle.lowered_pieces.specs.Nodes.{told_as}
use Rattle.jib_lower.specs.Left.{no_entry, no_function, not_made, not_plain}
use Rattle.jib_lower.proofs.Told.{setting_told}
use Rattle.jib_lower.proofs.Unmade.{exit_more, last_more}
use Rattle.jib_lower.proofs.instances.make_instance.Goals as goal

pub returns-clause-made : goal.returns-clause-made
returns-clause-made c =
    let given = c.as_slice-given.ensures ∙ c.in_ok-told.ensures ∙ ap (map told_as) c.as_slice-parameters.ensures in
    let result = c.in_ok-result.ensures ∙ ap (type_in c.args.model.now.numbered.now) c.in_ok-gives.ensures in
    IfOk-weaker c.make_judged.result _ _ (λ both h. record {
      function = c.in_ok-function.function.now;
      signature = c.in_ok-signature.signature.now;
      walk = _;
      judge = _;
      head = _;
      found = c.in_ok-function.ensures.found;
      plain = c.in_ok-signature.ensures.plain;
      setting = setting_told c.args.model.now c.in_ok-plain.plain c.as_slice-listed.result c.args.model.now.directions c.in_ok-function.function.now
          c.as_slice-bodies.result.now c.args.found.now.bodies c.as_slice-numbers.result.now c.args.found.now.instance.numbers c.in_ok-reads.reads
          c.as_slice-bodies.ensures c.as_slice-numbers.ensures c.as_slice-listed.ensures c.in_ok-reads.ensures c.in_ok-plain.ensures;
      around = record { instances = c.as_slice-instances.ensures; given = given; openings = refl; before = refl };
      judged = (refl, refl);
      signs = record { shell = refl; lets = refl; result = result; is_pure = refl; cycle_is = refl; called = refl; turned = refl; below = refl };
      headed = record { given = given; result = result; cycle_is = refl; lets = c.in_ok-lets.ensures; is_pure = refl };
      made = h;
    }) c.make_judged.ensures.made

pub returns-clause-left : goal.returns-clause-left
returns-clause-left c =
    let given = c.as_slice-given.ensures ∙ c.in_ok-told.ensures ∙ ap (map told_as) c.as_slice-parameters.ensures in
    let result = c.in_ok-result.ensures ∙ ap (type_in c.args.model.now.numbered.now) c.in_ok-gives.ensures in
    last_more c.make_judged.result (λ why. not_made (record {
      function = c.in_ok-function.function.now;
      signature = c.in_ok-signature.signature.now;
      walk = _;
      judge = _;
      head = _;
      found = c.in_ok-function.ensures.found;
      plain = c.in_ok-signature.ensures.plain;
      setting = setting_told c.args.model.now c.in_ok-plain.plain c.as_slice-listed.result c.args.model.now.directions c.in_ok-function.function.now
          c.as_slice-bodies.result.now c.args.found.now.bodies c.as_slice-numbers.result.now c.args.found.now.instance.numbers c.in_ok-reads.reads
          c.as_slice-bodies.ensures c.as_slice-numbers.ensures c.as_slice-listed.ensures c.in_ok-reads.ensures c.in_ok-plain.ensures;
      around = record { instances = c.as_slice-instances.ensures; given = given; openings = refl; before = refl };
      judged = (refl, refl);
      signs = record { shell = refl; lets = refl; result = result; is_pure = refl; cycle_is = refl; called = refl; turned = refl; below = refl };
      headed = record { given = given; result = result; cycle_is = refl; lets = c.in_ok-lets.ensures; is_pure = refl };
      why = why;
    })) c.make_judged.ensures.left

pub returns-in_err-function-clause-left : goal.returns-in_err-function-clause-left
returns-in_err-function-clause-left c = exit_more _ _ c.from_residual.ensures.1 (λ none. no_entry (no_function none)) c.in_err-function.ensures.left

pub returns-in_err-signature-clause-left : goal.returns-in_err-signature-clause-left
returns-in_err-signature-clause-left c =
    exit_more _ _ c.from_residual-in_err-signature.ensures.1 (λ none. no_entry (not_plain none)) c.in_err-signature.ensures.left
