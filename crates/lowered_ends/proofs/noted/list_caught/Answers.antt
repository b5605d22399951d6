use Rattle.std.proofs.Common.{List, length, sym, ap}
use Rattle.lowered_ends.proofs.Lists.{none_of}
use Rattle.lowered_ends.proofs.Notes.{caught_some, noted_as, noted_none, noted_then}
use Rattle.lowered_ends.specs.Noted.{caught_notes}
use Rattle.sail_core.specs.declared.tree.Core.{Core}
use Rattle.lowered_ends.proofs.noted.list_caught.Goals as goal

pub returns-in-empty : goal.returns-in-empty
returns-in-empty c =
    noted_none _ _ (ap (λ (cs : List Core). caught_notes c.args.setting.now c.args.node (length cs)) (sym (none_of c.args.parts.now c.in-empty.len_below)))

pub returns-in_ok-list_own-in-len1-up : goal.returns-in_ok-list_own-in-len1-up
returns-in_ok-list_own-in-len1-up c =
    noted_as c.list_own-in-len1-up.result _ _ _ _ (caught_some c.args.setting.now c.args.node (length c.args.parts.now) c.in-len1-up.len_at_least)
    (noted_then c.list_own-in-len1-up.result _ _ _ _ _ c.in_ok-list_own-in-len1-up.ensures c.list_own-in-len1-up.ensures)
