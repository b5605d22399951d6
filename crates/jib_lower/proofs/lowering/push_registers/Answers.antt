use Rattle.std.proofs.Common.{◌∙◌, ◌∷◌, ◌+◌, ap, drop, map, sym}
use Rattle.model_state.specs.declared.state.Register.{Register}
use Rattle.checked_meaning.specs.Items.{fixed_typ}
use Rattle.lowered_types.specs.Table.{type_in}
use Rattle.lowered_typed.proofs.Pushed.{none, pushed}
use Rattle.jib_lower.proofs.Gathered.{from_here, past_all}
use Rattle.jib_lower.proofs.lowering.push_registers.Goals as goal

pub loop-register-init : goal.loop-register-init
loop-register-init c = λ new e. e

pub loop-register-preserved : goal.loop-register-preserved
loop-register-preserved c = λ new e.
    let l = c.loop-register in
    let all = c.args.registers.now in
    let number = λ (r : Register). type_in c.args.numbered.now (fixed_typ c.args.types.now r.typ) in
    let behind = map number (drop (l.register-index + 1) all) in
    l.invariant new (pushed l.numbers c.push.new.self new behind (map number (drop l.register-index all)) c.in_ok-number.number
    c.in_ok-push.ensures.pushed e
    (ap (map number) (from_here all l.register-index c.register-item.result c.loop-register-test.true c.register-item.is)
    ∙ ap (λ n. n ∷ behind) (sym (c.in_ok-number.ensures ∙ ap (type_in c.args.numbered.now) c.in_ok-typ.ensures))))

pub returns : goal.returns
returns c =
    let l = c.loop-register in
    let number = λ (r : Register). type_in c.args.numbered.now (fixed_typ c.args.types.now r.typ) in
    l.invariant l.numbers (none l.numbers (map number (drop l.register-index c.args.registers.now))
    (ap (map number) (past_all c.args.registers.now l.register-index c.loop-register-test.false)))
