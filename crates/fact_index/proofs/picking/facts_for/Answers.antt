use Rattle.std.proofs.Common.{sym, ap, ◌∙◌, subst}
use Rattle.std.proofs.lemmas.Bool.{false≢true}
use Rattle.linear.specs.Choices.{variables_in}
use Rattle.obligations.specs.Connected.{connected}
use Rattle.fact_index.specs.Filed.{has}
use Rattle.fact_index.specs.Gathered.{AreClosed}
use Rattle.fact_index.specs.Picked.{IsPicked}
use Rattle.fact_index.proofs.Found.{all_found, same_connected}
use Rattle.fact_index.proofs.picking.facts_for.Goals as goal

pub returns-then-is_empty : goal.returns-then-is_empty
returns-then-is_empty c = λ filed.
    ap (λ l. connected l (variables_in c.args.goal.now))
    (all_found c.args.facts.now c.first_facts.result.now c.facts_from.result.now c.args.until c.args.since c.new-made.result c.push_conditions.new.made
    c.push_conditions-then-is_empty.new.made c.new-made.ensures c.first_facts.ensures c.facts_from.ensures c.in_ok-push_conditions.ensures
    c.in_ok-push_conditions-2.ensures)

pub returns : goal.returns
returns c = λ filed.
    let facts = c.args.facts.now in
    let lists = c.args.lists.now in
    let keys = c.in_ok-keys-2.keys in
    let positions = c.in_ok-positions.positions in
    let none = c.new-made.result in
    let one = c.push_picked.new.made in
    let two = c.push_picked-2.new.made in
    let first = c.first_facts-2.result.now in
    let second = c.facts_from-2.result.now in
    let closed : AreClosed lists facts c.in_ok-keys.keys keys =
    subst (λ from. AreClosed lists facts from keys) c.as_slice.ensures c.in_ok-keys-2.ensures in
    let before : IsPicked none first 0 positions one =
    subst (λ ps. IsPicked none first 0 ps one) c.as_slice-3.ensures c.in_ok-push_picked.ensures in
    let behind : IsPicked one second c.args.since positions two =
    subst (λ ps. IsPicked one second c.args.since ps two) c.as_slice-4.ensures c.in_ok-push_picked-2.ensures in
    same_connected facts first second c.args.until c.args.since none one two c.new-made.ensures c.first_facts-2.ensures c.facts_from-2.ensures
    lists c.args.goal.now c.in_ok-keys.keys keys positions c.in_ok-keys.ensures
    (λ e. false≢true (sym c.if-is_empty.false ∙ c.is_empty.ensures.empty.1 e)) closed
    (λ k p e h. c.in_ok-positions.ensures.all k p (ap (λ l. has l k) c.as_slice-2.ensures ∙ e) h) before behind filed
