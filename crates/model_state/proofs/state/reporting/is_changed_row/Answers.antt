use Rattle.std.proofs.Common.{◌≡◌, ◌+◌, not, true, false, ap, sym, ◌∙◌, arith}
use Rattle.std.specs.List.{list_any}
use Rattle.model_state.specs.Report.{byte_at, same_byte}
use Rattle.model_state.proofs.Reported.{row_places_is, any_step, any_found, any_end}
use Rattle.model_state.proofs.state.reporting.is_changed_row.Goals as goal

pub loop-k-init : goal.loop-k-init
loop-k-init g c =
    let base = g.M.Memory.base c.args.memory.now in let now = g.M.Memory.bytes c.args.memory.now in
    ap (list_any (λ at. not (same_byte (byte_at base now at) (byte_at base c.args.start.now.bytes at)))) (sym (row_places_is c.args.row))

pub loop-k-preserved : goal.loop-k-preserved
loop-k-preserved g c =
    let base = g.M.Memory.base c.args.memory.now in let now = g.M.Memory.bytes c.args.memory.now in
    let placed = c.args.start.now.bytes in let at = c.args.row + c.loop-k.k in
    let same : c.is_same.result ≡ same_byte (byte_at base now at) (byte_at base placed at) =
    c.is_same.ensures ∙ (λ i. same_byte (c.byte_of.ensures i) ((c.byte.ensures ∙ ap (λ b. byte_at b placed at) c.requires.base) i)) in
    any_step (λ at. not (same_byte (byte_at base now at) (byte_at base placed at))) c.args.row c.loop-k.k _
    c.loop-k-test.true (ap not (sym same ∙ c.if-not-is_same.false)) c.loop-k.invariant

pub returns-then-not-is_same : goal.returns-then-not-is_same
returns-then-not-is_same g c =
    let base = g.M.Memory.base c.args.memory.now in let now = g.M.Memory.bytes c.args.memory.now in
    let placed = c.args.start.now.bytes in let at = c.args.row + c.loop-k.k in
    let same : c.is_same.result ≡ same_byte (byte_at base now at) (byte_at base placed at) =
    c.is_same.ensures ∙ (λ i. same_byte (c.byte_of.ensures i) ((c.byte.ensures ∙ ap (λ b. byte_at b placed at) c.requires.base) i)) in
    any_found (λ at. not (same_byte (byte_at base now at) (byte_at base placed at))) c.args.row c.loop-k.k _
    c.loop-k-test.true (ap not (sym same ∙ c.if-not-is_same.true)) c.loop-k.invariant

pub returns : goal.returns
returns g c =
    let base = g.M.Memory.base c.args.memory.now in let now = g.M.Memory.bytes c.args.memory.now in
    any_end (λ at. not (same_byte (byte_at base now at) (byte_at base c.args.start.now.bytes at))) c.args.row
    c.loop-k.k _ (omega (arith, c.loop-k-test.false)) c.loop-k.invariant
