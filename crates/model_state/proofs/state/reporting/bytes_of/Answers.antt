use Rattle.std.proofs.Common.{◌≡◌, ◌+◌, ◌-◌, ◌++◌, ◌∷◌, [], take, slice_get, Some, ap, sym, ◌∙◌, add-one, arith}
use Rattle.model_state.proofs.Reported.{take_more}
use Rattle.model_state.proofs.state.reporting.bytes_of.Goals as goal

pub loop-i-preserved : goal.loop-i-preserved
loop-i-preserved g c =
    let bytes = g.M.Memory.bytes c.args.memory.now in
    let i = c.loop-i.i in
    let here : c.base-base.result + i - g.M.Memory.base c.args.memory.now ≡ i = omega (arith, c.base-base.ensures) in
    let byte : slice_get bytes i ≡ Some c.byte_in.result = ap (slice_get bytes) (sym here) ∙ c.byte_in.ensures in
    c.in_ok-push.ensures.items ∙ ap (λ xs. xs ++ c.byte_in.result ∷ []) c.loop-i.invariant ∙ sym
    (take_more bytes i c.byte_in.result byte) ∙ ap (λ n. take n bytes) (sym (add-one i))
