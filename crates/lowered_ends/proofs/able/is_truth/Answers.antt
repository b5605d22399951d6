use Rattle.std.proofs.Common.{◌∙◌, List, length, sym, ap, ◌&&◌}
use Rattle.lowered_ends.proofs.Known.{no_zero}
use Rattle.lowered_ends.proofs.Lists.{none_of}
use Rattle.sail_core.specs.declared.tree.Core.{Core}
use Rattle.size_values.specs.Numbers.{known_at, known_of, truth_of}
use Rattle.std.specs.Prelude.{Bool, Option, is_some, nat_eq}
use Rattle.lowered_ends.proofs.able.is_truth.Goals as goal

pub returns-in-empty : goal.returns-in-empty
returns-in-empty c =
    c.is_some.ensures ∙ ap (λ (b : Option Bool). is_some b) c.truth_of.ensures ∙ ap (λ (cs : List Core). nat_eq (length cs) 0 && is_some (truth_of (known_at
    (known_of c.args.setting.now.numbers.now)) c.args.condition.now)) (sym (none_of c.args.parts.now c.in-empty.len_below))

pub returns-in_default : goal.returns-in_default
returns-in_default c =
    no_zero (length c.args.parts.now) (is_some (truth_of (known_at (known_of c.args.setting.now.numbers.now)) c.args.condition.now))
    c.in_default.len_at_least
