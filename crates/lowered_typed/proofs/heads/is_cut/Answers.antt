use Rattle.std.proofs.Common.{◌≡◌, ◌∙◌, ◌∷◌, ◌-◌, Bool, sym, ap, [], SFits, of_z, rules, to_z}
use Rattle.lowered_typed.proofs.More.{cut_more}
use Rattle.std.proofs.lemmas.Int.{to_z-of_z}
use Rattle.std.proofs.lemmas.Result.{IfOk-weaker}
use Rattle.std.specs.Int.{w128}
use Rattle.std.specs.Prelude.{pos}
use Rattle.jib.specs.declared.code.Literal.TheVariants as L
use Rattle.jib.specs.declared.code.Operation.TheVariants as O
use Rattle.jib.specs.declared.code.Source.TheVariants as R
use Rattle.size_values.specs.declared.sized.Sized.TheVariants as Z
use Rattle.lowered_typed.specs.Here as here
use Rattle.lowered_typed.specs.Judged as judged
use Rattle.lowered_typed.proofs.heads.is_cut.Goals as goal

pub returns-then-width-eq0 : goal.returns-then-width-eq0
returns-then-width-eq0 c =
    IfOk-weaker c.is_no_cut.result _ (λ (a : Bool). a ≡ judged.cut_fits c.args.judge.now c.args.whole.now c.args.left c.args.width) (λ a e. e
    ∙ ap (λ n. judged.cut_fits c.args.judge.now c.args.whole.now c.args.left n) (sym c.if-width-eq0.true)) c.is_no_cut.ensures

pub returns : goal.returns
returns c =
    let j = c.args.judge.now in
    let high : to_z w128 (of_z w128 c.in_ok-highest.highest) ≡ pos (c.args.left - 1) =
    (let fits : SFits w128 c.in_ok-highest.highest = search rules in to_z-of_z w128 c.in_ok-highest.highest fits ∙ c.in_ok-highest.ensures)
    ∙ ap (λ n. pos n) c.saturating_sub-first.ensures in
    let low : to_z w128 (of_z w128 c.in_ok-lowest.lowest) ≡ pos (c.args.left - c.args.width) =
    (let fits : SFits w128 c.in_ok-lowest.lowest = search rules in to_z-of_z w128 c.in_ok-lowest.lowest fits ∙ c.in_ok-lowest.ensures)
    ∙ ap (λ n. pos n) c.saturating_sub-last.ensures in
    let bits : to_z w128 (of_z w128 c.in_ok-bits.bits) ≡ pos c.args.width =
    (let fits : SFits w128 c.in_ok-bits.bits = search rules in to_z-of_z w128 c.in_ok-bits.bits fits ∙ c.in_ok-bits.ensures) in
    IfOk-weaker c.works.result _ (λ (a : Bool). a ≡ judged.cut_fits c.args.judge.now c.args.whole.now c.args.left c.args.width) (λ a e. e
    ∙ (λ i. here.works j O.Slice (R.Slot 0 ∷ R.Constant (c.in_ok-integer.ensures i) (L.Integer (high i)) ∷ R.Constant (c.in_ok-integer.ensures i)
    (L.Integer (low i)) ∷ []) (c.from_ref.ensures.value i) (Z.Bits (bits i)))
    ∙ cut_more j c.args.whole.now c.args.left c.args.width c.if-width-eq0.false) c.works.ensures
