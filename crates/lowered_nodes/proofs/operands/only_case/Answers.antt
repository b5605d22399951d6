use Rattle.std.proofs.Common.{◌≡◌, ◌-◌, List, sym, ap, subst}
use Rattle.lowered_nodes.proofs.Handed.{none_only}
use Rattle.lowered_ends.proofs.Lists.{none_of, one_of}
use Rattle.lowered_nodes.specs.Walk.{only_number}
use Rattle.lowered_pieces.specs.Forms.{cases_ends}
use Rattle.sized_nodes.specs.declared.trees.Case.{Case}
use Rattle.std.specs.Prelude.{IfOk}
use Rattle.lowered_nodes.proofs.operands.only_case.Goals as goal

pub returns-in-empty : goal.returns-in-empty
returns-in-empty c =
    ap (λ (cs : List Case). only_number c.args.setting.now (cases_ends cs)) (sym (none_of c.args.cases.now c.in-empty.len_below))

pub returns-in-len1 : goal.returns-in-len1
returns-in-len1 c =
    subst (λ n. IfOk c.number.result (λ k. k ≡ n)) (ap (λ (cs : List Case). only_number c.args.setting.now (cases_ends cs)) (sym (one_of c.args.cases.now
    c.only-item.result c.in-len1.len_at_least c.in-len1.len_below c.only-item.is))) c.number.ensures

pub returns-in-len2-up : goal.returns-in-len2-up
returns-in-len2-up c =
    none_only c.args.setting.now c.args.cases.now c.in-len2-up.len_at_least
