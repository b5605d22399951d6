use Rattle.std.proofs.Common.{◌≡◌, List, length, refl, sym, ap, ◌∙◌, subst, arith}
use Rattle.call_graph.specs.declared.search.Mark.{Mark}
use Rattle.call_graph.specs.Search.{IsNumbered}
use Rattle.call_graph.proofs.Components.{components_from, both_ok}
use Rattle.call_graph.proofs.Following.{sound_at}
use Rattle.call_graph.proofs.finding.components.Goals as goal

pub numbers-requires : goal.numbers-requires
numbers-requires c = λ node less.
    let marked : length c.deref.result.now ≡ length c.args.graph.now = ap length c.deref.ensures.value ∙ c.in_ok-search.ensures.sound.marked in
    subst (λ (marks : List Mark). IsNumbered marks node) (sym c.deref.ensures.value) (c.in_ok-search.ensures.done node (omega arith))

pub returns : goal.returns
returns c = both_ok c.numbers.result c.numbers.ensures.every c.numbers.ensures.numbers
    (λ numbers every all. components_from numbers.items
    (sound_at c.in_ok-search.ensures.sound c.deref.ensures.value refl refl refl refl refl) every all)
