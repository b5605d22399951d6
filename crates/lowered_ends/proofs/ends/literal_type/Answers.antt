use Rattle.std.proofs.Common.{◌∙◌, ◌≤◌, length, sym, ap, subst}
use Rattle.checked_meaning.specs.Items.{fixed_typ}
use Rattle.lowered_ends.proofs.Sizes.{bit_typ, bool_typ, enum_typ, integer_typ, string_typ, unit_typ, word_typ}
use Rattle.sail_core.specs.Values.{literal_typ}
use Rattle.sail_core.specs.declared.patterns.Literal.{Literal}
use Rattle.std.proofs.Common.{arith, pos}
use Rattle.std.proofs.lemmas.Int.{ints, to_z_pos}
use Rattle.std.specs.Int.{w128}
use Rattle.size_values.specs.declared.sized.Sized.TheVariants as Z
use Rattle.lowered_ends.proofs.ends.literal_type.Goals as goal

pub returns-in-Unit : goal.returns-in-Unit
returns-in-Unit c =
    λ types. sym (unit_typ types) ∙ ap (λ (l : Literal). fixed_typ types (literal_typ l)) (sym c.in-Unit.is)

pub returns-in-Integer : goal.returns-in-Integer
returns-in-Integer c =
    λ types. sym (integer_typ types) ∙ ap (λ (l : Literal). fixed_typ types (literal_typ l)) (sym c.in-Integer.is)

pub returns-in-Truth : goal.returns-in-Truth
returns-in-Truth c =
    λ types. sym (bool_typ types) ∙ ap (λ (l : Literal). fixed_typ types (literal_typ l)) (sym c.in-Truth.is)

pub returns-in-Bit : goal.returns-in-Bit
returns-in-Bit c =
    λ types. sym (bit_typ types) ∙ ap (λ (l : Literal). fixed_typ types (literal_typ l)) (sym c.in-Bit.is)

pub returns-in-Bits : goal.returns-in-Bits
returns-in-Bits c =
    λ types. ap (λ z. Z.Bits z) (to_z_pos w128 c.width.result (omega (arith, c.width.ensures.small))) ∙ ap (λ n. Z.Bits (pos n)) c.width.ensures.value
    ∙ sym (word_typ types (length c.in-Bits.word) (subst (λ n. n ≤ 128) c.width.ensures.value
    c.width.ensures.small)) ∙ ap (λ (l : Literal). fixed_typ types (literal_typ l)) (sym c.in-Bits.is)

pub overflow_cast-result : goal.overflow_cast-result
overflow_cast-result c =
    omega (arith, ints, c.width.ensures.small)

pub returns-in-String : goal.returns-in-String
returns-in-String c =
    λ types. sym (string_typ types) ∙ ap (λ (l : Literal). fixed_typ types (literal_typ l)) (sym c.in-String.is)

pub returns-in-Member : goal.returns-in-Member
returns-in-Member c =
    λ types. (λ i. Z.Named c.in-Member.place (c.new-numbers.ensures i) (c.new-types.ensures i)) ∙ sym (enum_typ types c.in-Member.place) ∙ ap (λ (l :
    Literal). fixed_typ types (literal_typ l)) (sym c.in-Member.is)
