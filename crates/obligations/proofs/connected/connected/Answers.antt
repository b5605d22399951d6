use Rattle.std.proofs.Common.{◌≡◌, [], IfOk, length, sym, ap, ◌∙◌, subst, true}
use Rattle.std.specs.List.{fold}
use Rattle.std.proofs.lemmas.Bool.{false≢true}
use Rattle.linear.specs.Choices.{variables_in, with_atom}
use Rattle.obligations.specs.Connected.{spread_for}
use Rattle.obligations.specs.Spreading.{AreSame}
use Rattle.obligations.proofs.Spread.{none_gathered, some_gathered}
use Rattle.obligations.proofs.connected.connected.Goals as goal

pub returns-then-is_empty : goal.returns-then-is_empty
returns-then-is_empty c =
    let vs = variables_in c.args.goal.now in
    let found : c.push_variables.new.atoms ≡ fold with_atom [] vs = c.in_ok-push_variables.ensures ∙ ap (λ l. fold with_atom l vs) c.new-atoms.ensures in
    let none : c.push_variables.new.atoms ≡ [] = c.is_empty.ensures.empty.0 c.if-is_empty.true in
    subst (λ l. IfOk c.copy_facts.result (λ made. made ≡ l)) (none_gathered vs c.args.facts.now (sym found ∙ none)) c.copy_facts.ensures

pub returns : goal.returns
returns c =
    let vs = variables_in c.args.goal.now in
    let facts = c.args.facts.now in
    let found : c.push_variables.new.atoms ≡ fold with_atom [] vs = c.in_ok-push_variables.ensures ∙ ap (λ l. fold with_atom l vs) c.new-atoms.ensures in
    let some : fold with_atom [] vs ≡ [] → ⊥ = λ e. false≢true (sym c.if-is_empty.false ∙ c.is_empty.ensures.empty.1 (found ∙ e)) in
    let spread : AreSame c.spread_all.new.atoms (spread_for (length facts) facts (fold with_atom [] vs)) =
    subst (λ l. AreSame c.spread_all.new.atoms (spread_for (length facts) facts l)) found c.in_ok-spread_all.ensures in
    subst (λ l. IfOk c.sharing.result (λ made. made ≡ l))
    (some_gathered vs facts c.as_slice.result.now some
    (subst (λ l. AreSame l (spread_for (length facts) facts (fold with_atom [] vs))) (sym c.as_slice.ensures) spread)) c.sharing.ensures
