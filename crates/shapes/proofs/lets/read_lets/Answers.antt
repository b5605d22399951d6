use Rattle.std.proofs.Common.{◌≡◌, ◌+◌, List, ◌∷◌, ◌++◌, length, drop, refl, sym, ap, ◌∙◌}
use Rattle.std.proofs.lemmas.List.{drop_more}
use Rattle.std.specs.HashMap.{get_by_text}
use Rattle.shape_rules.specs.declared.locals.Local.{Local}
use Rattle.shape_models.specs.Sources.{tabled_by}
use Rattle.shape_models.specs.Held.{lets_over}
use Rattle.shape_models.proofs.Own.{entries_are_own}
use Rattle.shapes.specs.Failures.{own_in, let_binds}
use Rattle.shapes.proofs.Bound.{one_more}
use Rattle.shapes.proofs.lets.read_lets.Goals as goal

pub loop-definition-preserved : goal.loop-definition-preserved
loop-definition-preserved c =
    let tabled = tabled_by c.args.top.source in
    let text = c.args.top.source.definitions.now in
    let own = own_in tabled text in
    let at = c.loop-definition.definition-index in
    let d = c.definition-item.result in
    let rest = drop (at + 1) text in
    let count = c.loop-definition.count in
    let held = c.loop-definition.meanings in
    let next : drop at text ≡ d ∷ rest = drop_more text at d c.loop-definition-test.true ∙ ap (λ x. x ∷ rest) (sym c.definition-item.is) in
    one_more tabled own text (drop at text) rest d count c.in_ok-count.count c.loop-definition.openings c.read_definition.new.openings
    c.args.first.now.error c.loop-definition.first.error c.read_definition.new.first.error held
    (record { values = c.put_lets.new.values; added = held.added; exception = held.exception; given = held.given })
    c.read_definition.new.binds (entries_are_own tabled text) next c.loop-definition.invariant
    (λ lets are. c.in_ok-read_definition.ensures.openings own lets are)
    (λ lets are. c.in_ok-read_definition.ensures.binds own lets are
    ∙ ap (λ (bs : List Local). bs ++ let_binds tabled own text lets d) c.new-binds.ensures)
    (λ lets are. c.in_ok-read_definition.ensures.failures own lets are)
    (c.in_ok-count.ensures.count ∙ ap (λ (bs : List Local). count + length bs) c.as_slice.ensures)
    (λ name. c.in_ok-count.ensures.values name
    ∙ ap (λ (bs : List Local). lets_over count bs (get_by_text held.values name) name) c.as_slice.ensures)
    refl refl refl
