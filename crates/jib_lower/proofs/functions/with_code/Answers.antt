use Rattle.std.proofs.Common.{◌∙◌, ap, length, map, refl, sym}
use Rattle.lowered_slots.specs.declared.slots.Slot.{Slot}
use Rattle.jib_lower.specs.Functions.{are_types}
use Rattle.jib_lower.proofs.Unmade.{not_both}
use Rattle.std.specs.Prelude.{nat_lt}
use Rattle.jib_lower.proofs.functions.with_code.Goals as goal

pub returns-then-ends-clause-made : goal.returns-then-ends-clause-made
returns-then-ends-clause-made c =
    record {
      code = refl;
      slots = c.in_ok-slots.ensures ∙ ap (λ ss. map (λ (slot : Slot). slot.typ) ss) c.as_slice.ensures;
      parameters = c.in_ok-parameters.ensures;
      result = refl;
      typs = ap (λ ts. are_types (length c.args.setting.now.numbered.now) ts) (sym c.as_slice-2.ensures) ∙ sym c.are_numbers-are.ensures ∙ c.if-are.true;
      ends = sym c.is_number-ends.ensures ∙ c.if-ends.true;
      cycle = refl;
      lets = refl;
      is_pure = refl;
    }

pub returns-else-are-clause-left : goal.returns-else-are-clause-left
returns-else-are-clause-left c = λ made h.
    let n = length c.args.setting.now.numbered.now in
    not_both (are_types n (map (λ (slot : Slot). slot.typ) c.args.coding.slots)) (ap (are_types n) (sym h.slots) ∙ h.typs)
    (ap (are_types n) (sym (c.as_slice-2.ensures ∙ c.in_ok-slots.ensures ∙ ap (λ ss. map (λ (slot : Slot). slot.typ) ss) c.as_slice.ensures))
    ∙ sym c.are_numbers-are.ensures ∙ c.if-are.false)

pub returns-else-ends-clause-left : goal.returns-else-ends-clause-left
returns-else-ends-clause-left c = λ made h.
    let n = length c.args.setting.now.numbered.now in
    not_both (nat_lt c.args.head.now.result n) (ap (λ t. nat_lt t n) (sym h.result) ∙ h.ends) (sym c.is_number-ends.ensures ∙ c.if-ends.false)
