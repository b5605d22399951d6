use Rattle.std.proofs.Common.{◌≡◌, ℕ, ◌-◌, ◌<◌, List, [], ◌∷◌, ◌++◌, length, get_or, ap, ◌∙◌, subst, arith}
use Rattle.call_graph.specs.Search.{IsAscending}
use Rattle.call_graph.proofs.Lists.{popped, ascending_pop, cut_kept, cut_keeps}
use Rattle.call_graph.proofs.search.cut.Goals as goal

pub loop-last-preserved : goal.loop-last-preserved
loop-last-preserved c =
    let some : 0 < length c.loop-last.starts.items = subst (λ (xs : List ℕ). 0 < length xs) c.deref.ensures.value c.in-Some.ensures.item.3.0 in
    let e : c.loop-last.starts.items ≡ c.pop.new.self.items ++ c.in-Some.field-0.now ∷ [] =
    popped c.loop-last.starts.items c.pop.new.self.items c.pop.result c.in-Some.field-0.now c.pop.ensures.items
    (c.pop.ensures.variant.1 (omega (arith, c.loop-last.starts.ok)))
    (c.in-Some.ensures.item.3.1 0 ∙ ap (λ (xs : List ℕ). get_or xs (length xs - 1) 0) c.deref.ensures.value) in
    record {
      ascends = ascending_pop c.pop.new.self.items c.in-Some.field-0.now (subst IsAscending e c.loop-last.invariant.ascends);
      kept = cut_kept c.args.starts.now.items c.loop-last.starts.items c.pop.new.self.items c.in-Some.field-0.now e c.loop-last.invariant.kept;
      keeps = cut_keeps c.args.starts.now.items c.loop-last.starts.items c.pop.new.self.items c.in-Some.field-0.now c.args.place e
          c.if-last-place.false c.loop-last.invariant.keeps;
    }
