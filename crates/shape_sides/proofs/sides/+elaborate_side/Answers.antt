use Rattle.std.proofs.Common.{◌≡◌, sym, subst, IfOk, OnOk}
use Rattle.shape_rules.specs.Around.{setting_of}
use Rattle.shape_rules.specs.Findings.{first_failure}
use Rattle.shape_rules.specs.Targets.{Part}
use Rattle.shape_calls.specs.Made.{made_of}
use Rattle.shape_sides.proofs.Opened.{side_construct, side_group, side_concat}
use Rattle.shape_sides.proofs.sides.+elaborate_side.Goals as goal

pub returns-in-Construct-clause-made : goal.returns-in-Construct-clause-made
returns-in-Construct-clause-made t c =
    subst (λ (p : Part). IfOk c.call_named.result (λ made. made ≡ made_of (p.elaborate (setting_of c.args.around.now) c.args.locals.now c.args.want.now)))
    (sym (side_construct c.args.side.now c.in-Construct.name c.in-Construct.parts c.as_slice.result.now c.in-Construct.is c.as_slice.ensures))
    c.call_named.ensures.made

pub returns-in-Construct-clause-failures : goal.returns-in-Construct-clause-failures
returns-in-Construct-clause-failures t c =
    subst (λ (p : Part). OnOk c.call_named.result
    (c.call_named.new.first.error ≡ first_failure c.args.first.now.error (p.elaborate (setting_of c.args.around.now) c.args.locals.now c.args.want.now).faults))
    (sym (side_construct c.args.side.now c.in-Construct.name c.in-Construct.parts c.as_slice.result.now c.in-Construct.is c.as_slice.ensures))
    c.call_named.ensures.failures

pub returns-in-Group-clause-made : goal.returns-in-Group-clause-made
returns-in-Group-clause-made t c =
    subst (λ (p : Part). IfOk c.listed.result (λ made. made ≡ made_of (p.elaborate (setting_of c.args.around.now) c.args.locals.now c.args.want.now)))
    (sym (side_group c.args.side.now c.in-Group.place c.in-Group.brackets c.in-Group.parts c.as_slice-in-Group.result.now c.in-Group.is
    c.as_slice-in-Group.ensures))
    c.listed.ensures.made

pub returns-in-Group-clause-failures : goal.returns-in-Group-clause-failures
returns-in-Group-clause-failures t c =
    subst (λ (p : Part). OnOk c.listed.result
    (c.listed.new.first.error ≡ first_failure c.args.first.now.error (p.elaborate (setting_of c.args.around.now) c.args.locals.now c.args.want.now).faults))
    (sym (side_group c.args.side.now c.in-Group.place c.in-Group.brackets c.in-Group.parts c.as_slice-in-Group.result.now c.in-Group.is
    c.as_slice-in-Group.ensures))
    c.listed.ensures.failures

pub returns-in-Concat-clause-made : goal.returns-in-Concat-clause-made
returns-in-Concat-clause-made t c =
    subst (λ (p : Part). IfOk c.joined.result (λ made. made ≡ made_of (p.elaborate (setting_of c.args.around.now) c.args.locals.now c.args.want.now)))
    (sym (side_concat c.args.side.now c.in-Concat.place c.in-Concat.head c.in-Concat.second c.get.result.now c.get-in-Concat.result.now
    c.in-Concat.more c.as_slice-in-Concat.result.now c.in-Concat.is c.get.ensures c.get-in-Concat.ensures c.as_slice-in-Concat.ensures))
    c.joined.ensures.made

pub returns-in-Concat-clause-failures : goal.returns-in-Concat-clause-failures
returns-in-Concat-clause-failures t c =
    subst (λ (p : Part). OnOk c.joined.result
    (c.joined.new.first.error ≡ first_failure c.args.first.now.error (p.elaborate (setting_of c.args.around.now) c.args.locals.now c.args.want.now).faults))
    (sym (side_concat c.args.side.now c.in-Concat.place c.in-Concat.head c.in-Concat.second c.get.result.now c.get-in-Concat.result.now
    c.in-Concat.more c.as_slice-in-Concat.result.now c.in-Concat.is c.get.ensures c.get-in-Concat.ensures c.as_slice-in-Concat.ensures))
    c.joined.ensures.failures
