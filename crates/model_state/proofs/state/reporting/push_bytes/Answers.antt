use Rattle.std.proofs.Common.{◌≡◌, ◌++◌, ap, sym, ◌∙◌, arith}
use Rattle.std.specs.List.{flat_map}
use Rattle.model_state.specs.Report.{byte_at, byte_text}
use Rattle.model_state.proofs.Reported.{row_places_is, texts_step, texts_end}
use Rattle.model_state.proofs.state.reporting.push_bytes.Goals as goal

pub loop-k-init : goal.loop-k-init
loop-k-init g c =
    let base = g.M.Memory.base c.args.memory.now in let now = g.M.Memory.bytes c.args.memory.now in
    ap (λ places. c.args.out.now.items ++ flat_map (λ at. byte_text (byte_at base now at)) places) (sym (row_places_is c.args.row))

pub loop-k-preserved : goal.loop-k-preserved
loop-k-preserved g c =
    let base = g.M.Memory.base c.args.memory.now in let now = g.M.Memory.bytes c.args.memory.now in
    texts_step (λ at. byte_text (byte_at base now at)) c.args.row c.loop-k.k c.loop-k.out.items _ _ c.loop-k-test.true
    (c.in_ok-push_byte.ensures ∙ ap (λ b. c.loop-k.out.items ++ byte_text b) c.byte_of.ensures) c.loop-k.invariant

pub returns : goal.returns
returns g c =
    let base = g.M.Memory.base c.args.memory.now in let now = g.M.Memory.bytes c.args.memory.now in
    texts_end (λ at. byte_text (byte_at base now at)) c.args.row c.loop-k.k c.loop-k.out.items _ (omega (arith, c.loop-k-test.false)) c.loop-k.invariant
