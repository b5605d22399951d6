use Rattle.std.proofs.Common.{◌≡◌, ◌∙◌, ◌++◌, ap, sym}
use Rattle.std.proofs.lemmas.Result.{on_ok_weaker}
use Rattle.jib_lower.specs.Crossings.{asked_here, called_as, seen_by, seen_in, stated_in}
use Rattle.jib_lower.proofs.crossings.push_asked.Goals as goal

pub returns-in-Call : goal.returns-in-Call
returns-in-Call c =
    on_ok_weaker c.push_callee.result
    (λ (e : c.push_callee.new.asked ≡ c.args.asked.now ++ called_as c.in-Call.callee).
    e ∙ ap (λ ds. c.args.asked.now ++ ds) (sym (ap asked_here c.in-Call.is))) c.push_callee.ensures

pub returns-in-Let : goal.returns-in-Let
returns-in-Let c =
    on_ok_weaker c.push_steps.result
    (λ (e : c.push_steps.new.asked ≡ c.args.asked.now ++ seen_in c.arm_steps.result.now).
    e ∙ ap (λ ss. c.args.asked.now ++ seen_in ss) c.arm_steps.ensures ∙ ap (λ ds. c.args.asked.now ++ ds) (sym (ap asked_here c.in-Let.is)))
    c.push_steps.ensures

pub returns-in-Match : goal.returns-in-Match
returns-in-Match c =
    on_ok_weaker c.push_arms.result
    (λ (e : c.push_arms.new.asked ≡ c.args.asked.now ++ seen_by c.as_slice.result.now).
    e ∙ ap (λ xs. c.args.asked.now ++ seen_by xs) c.as_slice.ensures ∙ ap (λ ds. c.args.asked.now ++ ds) (sym (ap asked_here c.in-Match.is)))
    c.push_arms.ensures

pub returns-in-Try : goal.returns-in-Try
returns-in-Try c =
    on_ok_weaker c.push_arms-in-Try.result
    (λ (e : c.push_arms-in-Try.new.asked ≡ c.args.asked.now ++ seen_by c.as_slice-in-Try.result.now).
    e ∙ ap (λ xs. c.args.asked.now ++ seen_by xs) c.as_slice-in-Try.ensures ∙ ap (λ ds. c.args.asked.now ++ ds) (sym (ap asked_here c.in-Try.is)))
    c.push_arms-in-Try.ensures

pub returns-in-Clauses : goal.returns-in-Clauses
returns-in-Clauses c =
    on_ok_weaker c.push_arms-in-Clauses.result
    (λ (e : c.push_arms-in-Clauses.new.asked ≡ c.args.asked.now ++ seen_by c.as_slice-in-Clauses.result.now).
    e ∙ ap (λ xs. c.args.asked.now ++ seen_by xs) c.as_slice-in-Clauses.ensures ∙ ap (λ ds. c.args.asked.now ++ ds) (sym (ap asked_here c.in-Clauses.is)))
    c.push_arms-in-Clauses.ensures

pub returns-in-Block : goal.returns-in-Block
returns-in-Block c =
    on_ok_weaker c.push_statements.result
    (λ (e : c.push_statements.new.asked ≡ c.args.asked.now ++ stated_in c.as_slice-in-Block.result.now).
    e ∙ ap (λ xs. c.args.asked.now ++ stated_in xs) c.as_slice-in-Block.ensures ∙ ap (λ ds. c.args.asked.now ++ ds) (sym (ap asked_here c.in-Block.is)))
    c.push_statements.ensures
