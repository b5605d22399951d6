use Rattle.std.proofs.Common.{◌≡◌, ◌∙◌, [], ◌∷◌, ◌++◌, map, sym, ap, subst, SFits, to_z, of_z, rules}
use Rattle.std.specs.Int.{w128}
use Rattle.std.specs.Prelude.{OnOk, ℤ}
use Rattle.std.proofs.lemmas.Int.{to_z-of_z}
use Rattle.size_values.specs.declared.sized.Sized.TheVariants as T
use Rattle.lowered_pieces.specs.Arms.{held_at}
use Rattle.lowered_pieces.specs.Emitted.{no_labels}
use Rattle.lowered_pieces.specs.Places.{Temp}
use Rattle.lowered_pieces.proofs.Emitting.{ok_same}
use Rattle.lowered_steps.specs.declared.hands.Held.{Held as HeldValue}
use Rattle.lowered_steps.specs.Setting.{kit_for}
use Rattle.lowered_steps.specs.Hands.{held_of, slice_code, slice_held}
use Rattle.lowered_steps.proofs.Opened.{held_last, no_bits, slice_put}
use Rattle.lowered_steps.proofs.Taking.{just}
use Rattle.lowered_steps.proofs.words.put_slice.Goals as goal

pub returns-then-width-eq0-clause-code : goal.returns-then-width-eq0-clause-code
returns-then-width-eq0-clause-code c =
    ok_same c.put_no_bits.result c.args.coding.now c.put_no_bits.new.coding (λ name l. slice_code c.args.setting.now.types.now
    (kit_for c.args.setting.now name) (held_of c.args.value.now) c.args.left 0 c.args.free)
    (λ name l. slice_code c.args.setting.now.types.now (kit_for c.args.setting.now name) (held_of c.args.value.now) c.args.left c.args.width c.args.free)
    no_labels
    (λ name. sym (no_bits c.args.setting.now.types.now (kit_for c.args.setting.now name) (held_of c.args.value.now) c.args.left c.args.width c.args.free
    c.if-width-eq0.true)) (c.put_no_bits.ensures.code (held_of c.args.value.now) c.args.left)

pub returns-then-width-eq0-clause-parts : goal.returns-then-width-eq0-clause-parts
returns-then-width-eq0-clause-parts c =
    subst (λ n. OnOk c.put_no_bits.result (map held_of c.put_no_bits.new.parts ≡ map held_of c.args.parts.now ++ slice_held c.args.free n ∷ []))
    (sym c.if-width-eq0.true) c.put_no_bits.ensures.parts

pub returns-clause-code : goal.returns-clause-code
returns-clause-code c =
    let z : ℤ = to_z w128 (of_z w128 c.in_ok-bits.bits) in
    let high : ℤ = to_z w128 (of_z w128 c.in_ok-high.high) in
    let low : ℤ = to_z w128 (of_z w128 c.in_ok-low.low) in
    let fits : SFits w128 c.in_ok-bits.bits = search rules in
    let above : SFits w128 c.in_ok-high.high = search rules in
    let below : SFits w128 c.in_ok-low.low = search rules in
    just c.push.result (slice_put c.args.setting.now (held_of c.args.value.now) c.args.coding.now c.put_apply_between.new.self c.args.left c.args.width
    c.args.free c.in_ok-number.number c.in_ok-whole.whole c.saturating_sub.result c.saturating_sub-2.result z high low c.if-width-eq0.false
    (to_z-of_z w128 c.in_ok-bits.bits fits ∙ c.in_ok-bits.ensures) (to_z-of_z w128 c.in_ok-high.high above ∙ c.in_ok-high.ensures)
    c.saturating_sub.ensures (to_z-of_z w128 c.in_ok-low.low below ∙ c.in_ok-low.ensures) c.saturating_sub-2.ensures c.in_ok-number.ensures
    c.in_ok-whole.ensures c.in_ok-put_apply_between.ensures)

pub returns-clause-parts : goal.returns-clause-parts
returns-clause-parts c =
    let z : ℤ = to_z w128 (of_z w128 c.in_ok-bits.bits) in
    let fits : SFits w128 c.in_ok-bits.bits = search rules in
    let h : HeldValue = record { place = Temp c.args.free; typ = T.Bits z } in
    held_last c.push.result c.args.parts.now c.push.new.self h (slice_held c.args.free c.args.width)
    (ap (λ (y : ℤ). held_at c.args.free (T.Bits y)) (to_z-of_z w128 c.in_ok-bits.bits fits ∙ c.in_ok-bits.ensures)) c.push.ensures.pushed
