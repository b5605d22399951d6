use Rattle.std.proofs.Common.{◌∙◌, List, length, sym, ap}
use Rattle.lowered_ends.proofs.Lists.{none_of}
use Rattle.lowered_ends.proofs.Said.{literal_short}
use Rattle.lowered_ends.specs.Ends.{literal_ends}
use Rattle.lowered_pieces.specs.Forms.{one_end}
use Rattle.sail_core.specs.declared.tree.Core.{Core}
use Rattle.size_values.specs.declared.sized.Sized.{Sized}
use Rattle.lowered_ends.proofs.ends.literal_ends.Goals as goal

pub returns-in_ok-literal_type-in-empty : goal.returns-in_ok-literal_type-in-empty
returns-in_ok-literal_type-in-empty c =
    λ types. ap (λ (t : Sized). one_end t) (c.in_ok-literal_type-in-empty.ensures types) ∙ ap (λ (cs : List Core). literal_ends types c.args.literal.now
    (length cs)) (sym (none_of c.args.parts.now c.in-empty.len_below))

pub returns-in_default : goal.returns-in_default
returns-in_default c =
    λ types. literal_short types c.args.literal.now (length c.args.parts.now) c.in_default.len_at_least
