use Rattle.std.proofs.Common.{◌∙◌}
use Rattle.expression_forms.specs.Spots.{call_spot}
use Rattle.expression_steps.specs.Coded.{left_behind}
use Rattle.expression_steps.specs.Targets.{spotted}
use Rattle.expression_steps.proofs.Spots.{call_is}
use Rattle.expression_steps.proofs.found.call_found.Goals as goal

pub returns : goal.returns
returns c around parts =
    (λ j. spotted (call_is around c.args.place c.args.number c.args.reader c.args.writer c.in_ok-nested.nested c.args.values j)
    (left_behind parts c.behind.result))
    ∙ (λ j. spotted (call_spot around c.args.place c.args.number c.args.reader c.args.writer (c.in_ok-nested.ensures j) c.args.values)
    (left_behind parts (c.behind.ensures j)))
