use Rattle.std.proofs.Common.{◌≡◌, ◌∙◌, subst, sym}
use Rattle.std.specs.Prelude.{IfOk}
use Rattle.sail_compile.specs.Engines.{HasRegisters}
use Rattle.sail_top.specs.Answer.{answer_by, answer_for, machine_of}
use Rattle.sail_top.proofs.accepted.run_accepted.Goals as goal

pub judge_file-requires-clause-registers : goal.judge_file-requires-clause-registers
judge_file-requires-clause-registers g c =
    subst (HasRegisters g.P.Stepper.meaning c.args.made.accepted.certified.core) c.in-Runs.is c.requires.registers ∙ sym c.declared_of-declared.ensures.registers

pub returns-in-Runs : goal.returns-in-Runs
returns-in-Runs g c =
    let meaning = g.P.Stepper.meaning in
    let front = c.args.front.now in
    let setup = c.args.setup.now in
    let file = c.args.file.now in
    let made = c.args.made.accepted in
    subst (λ run. IfOk c.judge_file.result (λ answer. answer ≡ answer_by meaning front setup file made run)) (sym c.in-Runs.is)
    (subst (λ types. IfOk c.judge_file.result (λ answer. answer ≡ answer_for front setup types (machine_of made) (meaning c.in-Runs.stepper) file))
    c.declared_of-declared.ensures.types
    (subst (λ wanted. IfOk c.judge_file.result (λ answer. answer ≡ answer_for front setup c.declared_of-declared.result.types wanted
    (meaning c.in-Runs.stepper) file))
    c.machine_of-wanted.ensures c.judge_file.ensures))
