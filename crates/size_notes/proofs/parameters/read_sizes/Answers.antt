use Rattle.std.proofs.Common.{◌≡◌, [], ◌∷◌, length, sym, ap, ◌∙◌, arith}
use Rattle.std.proofs.lemmas.List.{nil_from_length}
use Rattle.std.specs.Vec.Iter.{into_iter_items}
use Rattle.value_indices.specs.Walking.{seen}
use Rattle.size_notes.proofs.Walked.{size_next, size_end}
use Rattle.size_notes.proofs.parameters.read_sizes.Goals as goal

pub loop-size-preserved : goal.loop-size-preserved
loop-size-preserved c =
    let l = c.loop-size in
    let steps : into_iter_items l.size-iterator ≡ c.in-Some.size ∷ into_iter_items c.next.new.self = c.in-Some.ensures.steps.0 in
    record {
      known = omega (arith, l.invariant.known, ap length steps, c.in-Some.ensures.steps.1);
      walked = size_next c.in-Some.size c.into_parts-size.result.0 c.into_parts-size.result.1 (into_iter_items c.next.new.self)
          (into_iter_items l.size-iterator) (seen l.walking) (seen c.note_sizes.new.self) _ steps c.into_parts-size.ensures.place
          c.into_parts-size.ensures.size c.in_ok-note_sizes.ensures l.invariant.walked;
    }

pub returns : goal.returns
returns c =
    let l = c.loop-size in
    let none : into_iter_items l.size-iterator ≡ [] = nil_from_length _ (sym l.invariant.known ∙ c.in-None.ensures.steps.0) in
    size_end (into_iter_items l.size-iterator) (seen l.walking) _ none l.invariant.walked
