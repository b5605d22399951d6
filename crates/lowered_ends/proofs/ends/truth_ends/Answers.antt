use Rattle.std.proofs.Common.{◌∙◌, List, length, sym, ap}
use Rattle.lowered_ends.proofs.Lists.{none_of}
use Rattle.lowered_ends.proofs.Said.{truth_short}
use Rattle.lowered_ends.specs.Ends.{if_known, truth_ends}
use Rattle.sail_core.specs.declared.tree.Core.{Core}
use Rattle.std.specs.Prelude.{Bool, Option}
use Rattle.size_values.specs.declared.sized.Sized.TheVariants as Z
use Rattle.lowered_ends.proofs.ends.truth_ends.Goals as goal

pub returns-in-Some : goal.returns-in-Some
returns-in-Some c =
    ap (λ (z : Option Bool). if_known Z.Bool z) (sym c.in-Some.is ∙ c.truth_of.ensures) ∙ ap (λ (cs : List Core). truth_ends c.args.setting.now
    c.args.condition.now (length cs)) (sym (none_of c.args.parts.now c.in-empty.len_below))

pub returns-in-None : goal.returns-in-None
returns-in-None c =
    ap (λ (z : Option Bool). if_known Z.Bool z) (sym c.in-None.is ∙ c.truth_of.ensures) ∙ ap (λ (cs : List Core). truth_ends c.args.setting.now
    c.args.condition.now (length cs)) (sym (none_of c.args.parts.now c.in-empty.len_below))

pub returns-in_default : goal.returns-in_default
returns-in_default c =
    truth_short c.args.setting.now c.args.condition.now (length c.args.parts.now) c.in_default.len_at_least
