use Rattle.std.proofs.Common.{◌≡◌, sym, subst, IfOk, OnOk}
use Rattle.shape_rules.specs.Around.{setting_of}
use Rattle.shape_rules.specs.Findings.{first_failure}
use Rattle.shape_rules.specs.Sides.{read_side}
use Rattle.shape_rules.specs.Targets.{Part}
use Rattle.shape_calls.specs.Made.{made_of}
use Rattle.shape_sides.proofs.Opened.{append_more}
use Rattle.shape_sides.proofs.sides.+joined.Goals as goal

pub joined-returns-in-len1-up-clause-made : goal.joined-returns-in-len1-up-clause-made
joined-returns-in-len1-up-clause-made g t c =
    subst (λ (p : Part). IfOk c.infix_joined.result (λ made. made ≡ made_of (p.elaborate (setting_of c.args.around.now) c.args.locals.now c.args.want.now)))
    (sym (append_more c.args.place (read_side c.args.head.now) (read_side c.args.second.now) c.args.more.now c.next-item.result
    c.in-len1-up.len_at_least c.next-item.is))
    c.infix_joined.ensures.made

pub joined-returns-in-len1-up-clause-failures : goal.joined-returns-in-len1-up-clause-failures
joined-returns-in-len1-up-clause-failures g t c =
    subst (λ (p : Part). OnOk c.infix_joined.result
    (c.infix_joined.new.first.error ≡ first_failure c.args.first.now.error
    (p.elaborate (setting_of c.args.around.now) c.args.locals.now c.args.want.now).faults))
    (sym (append_more c.args.place (read_side c.args.head.now) (read_side c.args.second.now) c.args.more.now c.next-item.result
    c.in-len1-up.len_at_least c.next-item.is))
    c.infix_joined.ensures.failures
