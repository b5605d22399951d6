use Rattle.std.proofs.Common.{◌≡◌, ◌∙◌, ap, sym, length, false}
use Rattle.size_values.specs.Numbers.{meant}
use Rattle.size_splits.specs.Reading.{each_first, is_open_step, is_open_value, named_in}
use Rattle.size_splits.proofs.Tables.{each_first_none, none_opened}
use Rattle.split_combinations.proofs.splitting.step_domains.Goals as goal

pub returns : goal.returns
returns c =
    let types = c.args.setting.now.types.now in
    let sizing = c.args.setting.now.sizing.now in
    let of = meant c.args.setting.now.variables in
    let step = c.args.step.now in
    let named = named_in c.args.behind.now in
    let closed : is_open_step types sizing c.args.variables of step named ≡ false =
    sym (c.in_ok-opens.ensures ∙ ap (is_open_value types sizing of step) c.in_ok-value.ensures.indices) ∙ c.if-opens.false in
    sym (ap (each_first c.args.known)
    (none_opened types sizing of c.args.variables (length c.args.known) c.args.from c.args.facts.now step named closed)
    ∙ each_first_none c.args.known)
