use Rattle.std.proofs.Common.{◌≡◌, ◌+◌, ◌∷◌, drop, sym, ap, ◌∙◌}
use Rattle.std.proofs.lemmas.List.{drop_more}
use Rattle.sail_kinds.specs.Failures.{first_failure}
use Rattle.sail_names.specs.Known.{known_of}
use Rattle.sail_kinds.proofs.Firsts.{first_failure_append}
use Rattle.sail_cycles.specs.Cycles.{is_cyclic_at, cycle_failures, all_cycle_failures}
use Rattle.sail_cycles.proofs.failures.note_cycles.Goals as goal

pub loop-definition-preserved : goal.loop-definition-preserved
loop-definition-preserved c =
    let text = c.args.definitions.now in
    let known = known_of c.args.names.now in
    let calls = is_cyclic_at c.args.calls.now in
    let patterns = is_cyclic_at c.args.patterns.now in
    let index = c.loop-definition.definition-index in
    let d = c.definition-item.result in
    let rest = drop (index + 1) text in
    let next : drop index text ≡ d ∷ rest = drop_more text index d c.loop-definition-test.true ∙ ap (λ x. x ∷ rest) (sym c.definition-item.is) in
    ap (λ kept. first_failure kept (all_cycle_failures text known calls patterns rest)) (c.in_ok-note_cycle.ensures text c.requires)
    ∙ sym (first_failure_append c.loop-definition.first.error (cycle_failures text known calls patterns d)
    (all_cycle_failures text known calls patterns rest))
    ∙ ap (λ left. first_failure c.loop-definition.first.error (all_cycle_failures text known calls patterns left)) (sym next)
    ∙ c.loop-definition.invariant
