use Rattle.std.proofs.Common.{◌++◌, sym, ap, ◌∙◌, refl}
use Rattle.std.specs.Prelude.{nat_eq}
use Rattle.std.proofs.lemmas.List.{take_all}
use Rattle.std.proofs.lemmas.List.Sorted.{list_any-IsPermutation}
use Rattle.fact_index.specs.Filed.{has}
use Rattle.fact_index.proofs.Reaching.{under_more}
use Rattle.fact_index.proofs.gathering.positions_of.Goals as goal

pub loop-key-preserved : goal.loop-key-preserved
loop-key-preserved c =
    let l = c.loop-key in
    under_more c.args.lists.now c.args.keys.now l.key-index _ l.positions.items c.extend_from_slice.new.self.items c.loop-key-test.true refl
    (c.in_ok-extend_from_slice.ensures.items ∙ ap (λ ps. l.positions.items ++ ps) c.positions_under.ensures) l.invariant

pub returns-clause-all : goal.returns-clause-all
returns-clause-all c = λ key position e h.
    ap (λ l. has l position) c.from_vec.ensures
    ∙ (sym (list_any-IsPermutation (nat_eq position) c.loop-key.positions.items c.sort.new.self.items c.in_ok-sort.ensures.permutation)
    ∙ c.loop-key.invariant key position (ap (λ l. has l key) (take_all c.loop-key.key-index c.args.keys.now c.loop-key-test.false) ∙ e) h)
