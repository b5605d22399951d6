use Rattle.std.proofs.Common.{List, length, sym, ap}
use Rattle.lowered_ends.proofs.Lists.{none_of}
use Rattle.lowered_ends.proofs.Notes.{leaf_short, noted_as, noted_none}
use Rattle.lowered_ends.specs.Noted.{leaf_notes}
use Rattle.sail_core.specs.declared.tree.Core.{Core}
use Rattle.lowered_ends.proofs.noted.list_leaf.Goals as goal

pub returns-in-empty : goal.returns-in-empty
returns-in-empty c =
    noted_as c.list_own.result _ _ _ _ (ap (λ (cs : List Core). leaf_notes c.args.setting.now c.args.node (length cs)) (sym (none_of c.args.parts.now
    c.in-empty.len_below))) c.list_own.ensures

pub returns-in_default : goal.returns-in_default
returns-in_default c =
    noted_none _ _ (leaf_short c.args.setting.now c.args.node (length c.args.parts.now) c.in_default.len_at_least)
