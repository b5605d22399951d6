use Rattle.std.proofs.Common.{◌≡◌, ◌∙◌, ap, if◌then◌else◌, sym}
use Rattle.std.proofs.lemmas.Result.{on_ok_weaker}
use Rattle.lowered_pieces.specs.Nodes.{cases_at}
use Rattle.lowered_steps.specs.Setting.{nodes_in}
use Rattle.jib_lower.specs.Reads.{with_cases}
use Rattle.jib_lower.proofs.reads.add_read.Goals as goal

pub returns-then-same : goal.returns-then-same
returns-then-same c =
    let us = c.args.types.now in let more = with_cases (cases_at c.args.read.now.node 0 (nodes_in c.args.setting.now)) us in
    on_ok_weaker c.push_types.result
    (λ (e : c.push_types.new.types ≡ with_cases c.cases.result.now us). e ∙ ap (λ cs. with_cases cs us) c.cases.ensures
    ∙ sym (ap (λ b. if b then more else us) (sym c.reads_name-same.ensures ∙ c.if-same.true)))
    c.push_types.ensures

pub returns-else-same : goal.returns-else-same
returns-else-same c =
    let us = c.args.types.now in let more = with_cases (cases_at c.args.read.now.node 0 (nodes_in c.args.setting.now)) us in
    sym (ap (λ b. if b then more else us) (sym c.reads_name-same.ensures ∙ c.if-same.false))
