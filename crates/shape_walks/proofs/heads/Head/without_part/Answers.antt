use Rattle.std.proofs.Common.{◌≡◌, sym, subst, IfOk, OnOk}
use Rattle.shape_rules.specs.Around.{setting_of}
use Rattle.shape_rules.specs.Findings.{first_failure}
use Rattle.shape_calls.specs.Made.{made_of}
use Rattle.shape_walks.specs.declared.heads.Head.{Head}
use Rattle.shape_walks.specs.Heads.{head_bare}
use Rattle.shape_walks.proofs.heads.Head.without_part.Goals as goal

pub returns-in-One-clause-made : goal.returns-in-One-clause-made
returns-in-One-clause-made c =
    subst (λ (h : Head). IfOk c.one_bare.result (λ made. made ≡ made_of (head_bare h (setting_of c.args.around.now) c.args.want.now)))
    (sym c.in-One.is) c.one_bare.ensures.made

pub returns-in-One-clause-failures : goal.returns-in-One-clause-failures
returns-in-One-clause-failures c =
    subst (λ (h : Head). OnOk c.one_bare.result (c.one_bare.new.first.error
    ≡ first_failure c.args.first.now.error (head_bare h (setting_of c.args.around.now) c.args.want.now).faults))
    (sym c.in-One.is) c.one_bare.ensures.failures
