use Rattle.std.proofs.Common.{◌∙◌, ℤ, List, length, sym, ap}
use Rattle.lowered_ends.proofs.Lists.{none_of}
use Rattle.lowered_ends.proofs.Said.{size_short}
use Rattle.lowered_ends.specs.Ends.{if_known, size_ends}
use Rattle.sail_core.specs.declared.tree.Core.{Core}
use Rattle.std.specs.Prelude.{Option}
use Rattle.size_values.specs.declared.sized.Sized.TheVariants as Z
use Rattle.lowered_ends.proofs.ends.size_ends.Goals as goal

pub returns-in-Some : goal.returns-in-Some
returns-in-Some c =
    ap (λ (z : Option ℤ). if_known Z.Int z) (sym c.in-Some.is ∙ c.value_of.ensures) ∙ ap (λ (cs : List Core). size_ends c.args.setting.now c.args.size.now
    (length cs)) (sym (none_of c.args.parts.now c.in-empty.len_below))

pub returns-in-None : goal.returns-in-None
returns-in-None c =
    ap (λ (z : Option ℤ). if_known Z.Int z) (sym c.in-None.is ∙ c.value_of.ensures) ∙ ap (λ (cs : List Core). size_ends c.args.setting.now c.args.size.now
    (length cs)) (sym (none_of c.args.parts.now c.in-empty.len_below))

pub returns-in_default : goal.returns-in_default
returns-in_default c =
    size_short c.args.setting.now c.args.size.now (length c.args.parts.now) c.in_default.len_at_least
