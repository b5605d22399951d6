use Rattle.std.proofs.Common.{Result, Ok, Err, IfOk, ◌∙◌, sym}
use Rattle.sail_top.proofs.RunLemmas.{text_is}
use Rattle.sail_top.proofs.run.run_text.Goals as goal

-- one fact of a value that is there gives another
at_ok : {A E : Type 0} (r : Result A E) (P Q : A → Type 0) → ((a : A) → P a → Q a) → IfOk r P → IfOk r Q
at_ok (Ok a) P Q gives holds = gives a holds
at_ok (Err e) P Q gives holds = holds

pub returns : goal.returns
returns g c =
    let setup = c.args.setup.now in
    let base = g.M.Memory.base c.args.memory in
    let bytes = g.M.Memory.bytes c.args.memory in
    let ends = c.in_ok-ending.ensures in
    at_ok c.report.result _ _ (λ text is. is ∙ text_is setup c.args.declared.types (g.P.Stepper.meaning c.args.stepper) c.args.entry base bytes
    c.in_ok-placed.placed.bytes c.args.declared.registers c.in_ok-state.state
    c.run_from.new.state c.in_ok-ending.ending.cause c.in_ok-ending.ending.steps c.requires.registers c.in_ok-state.ensures c.requires.base
    c.in_ok-placed.ensures.bytes ends.cause ends.steps ends.state) c.report.ensures
