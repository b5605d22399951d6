use Rattle.std.proofs.Common.{◌≡◌, ◌+◌, ◌∷◌, [], ◌++◌, drop, get_or, sym, ap, ◌∙◌, subst, rules}
use Rattle.std.proofs.lemmas.List.{drop_more, drop_all}
use Rattle.scattered.specs.Latest.{latest_at}
use Rattle.scattered.proofs.Reading.{ReadSoFar, none_read, one_read, all_read}
use Rattle.scattered.proofs.openings.find_openings.Goals as goal

pub loop-definition-init : goal.loop-definition-init
loop-definition-init c =
    let latest = latest_at c.new-standing.result.names in
    let before = c.new-standing.result.before.items in
    let text = c.args.definitions.now in
    let none : c.new-openings.result.items ≡ [] = search rules in
    subst (λ found. ReadSoFar latest before text found text) (sym none)
    (none_read latest before text c.new-standing.ensures.none c.new-standing.ensures.first)

pub loop-definition-preserved : goal.loop-definition-preserved
loop-definition-preserved c =
    let text = c.args.definitions.now in
    let index = c.loop-definition.definition-index in
    let d = c.definition-item.result in
    let latest = latest_at c.loop-definition.standing.names in
    let before = c.loop-definition.standing.before.items in
    let found = c.loop-definition.openings.items in
    let next : drop index text ≡ d ∷ drop (index + 1) text =
    drop_more text index d c.loop-definition-test.true ∙ ap (λ x. x ∷ drop (index + 1) text) (sym c.definition-item.is) in
    let so_far : ReadSoFar latest before text found (d ∷ drop (index + 1) text) =
    subst (ReadSoFar latest before text found) next c.loop-definition.invariant in
    subst (λ found. ReadSoFar (latest_at c.read.new.self.names) c.read.new.self.before.items text found (drop (index + 1) text))
    (sym c.in_ok-push.ensures.items)
    (one_read so_far c.in_ok-opening.opening c.in_ok-opening.ensures.opening c.in_ok-opening.ensures.stand c.in_ok-opening.ensures.number)

pub returns : goal.returns
returns c =
    let text = c.args.definitions.now in
    all_read (subst (ReadSoFar (latest_at c.loop-definition.standing.names) c.loop-definition.standing.before.items text c.loop-definition.openings.items)
    (drop_all c.loop-definition.definition-index text c.loop-definition-test.false) c.loop-definition.invariant)
