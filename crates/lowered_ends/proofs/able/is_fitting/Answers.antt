use Rattle.std.proofs.Common.{SFits, rules}
use Rattle.std.proofs.lemmas.Int.{to_z-of_z}
use Rattle.std.specs.Int.{w128}
use Rattle.sail_types.specs.Limits.{is_small}
use Rattle.std.proofs.Common.{◌∙◌, ◌≤◌, length, sym, ap, subst, ◌&&◌}
use Rattle.checked_meaning.specs.Fits.{has_sizes}
use Rattle.checked_meaning.specs.Items.{fixed_typ}
use Rattle.lowered_ends.proofs.Known.{same_nat}
use Rattle.lowered_ends.proofs.Sizes.{bit_has, integer_has, member_has, string_has, truth_has, unit_has, word_has}
use Rattle.sail_core.specs.Values.{literal_typ, literal_value}
use Rattle.sail_core.specs.declared.patterns.Literal.{Literal}
use Rattle.sail_types.specs.Named.{members}
use Rattle.std.proofs.lemmas.Bool.{le-leb}
use Rattle.std.specs.Prelude.{Bool, nat_lt}
use Rattle.lowered_ends.proofs.able.is_fitting.Goals as goal

pub returns-in-Unit : goal.returns-in-Unit
returns-in-Unit c =
    sym (unit_has c.args.setting.now.types.now) ∙ ap (λ (l : Literal). has_sizes c.args.setting.now.types.now (literal_value l) (fixed_typ
    c.args.setting.now.types.now (literal_typ l))) (sym c.in-Unit.is)

pub returns-in-Integer : goal.returns-in-Integer
returns-in-Integer c =
    let fits : SFits w128 c.in-Integer.number = search rules in c.is_small.ensures ∙ ap (λ z. is_small z) (to_z-of_z w128 c.in-Integer.number fits)
    ∙ sym (integer_has c.args.setting.now.types.now c.in-Integer.number) ∙ ap (λ (l : Literal). has_sizes c.args.setting.now.types.now
    (literal_value l) (fixed_typ c.args.setting.now.types.now (literal_typ l))) (sym c.in-Integer.is)

pub returns-in-Truth : goal.returns-in-Truth
returns-in-Truth c =
    sym (truth_has c.args.setting.now.types.now c.in-Truth.field-0) ∙ ap (λ (l : Literal). has_sizes c.args.setting.now.types.now (literal_value l)
    (fixed_typ c.args.setting.now.types.now (literal_typ l))) (sym c.in-Truth.is)

pub returns-in-Bit : goal.returns-in-Bit
returns-in-Bit c =
    sym (bit_has c.args.setting.now.types.now c.in-Bit.field-0) ∙ ap (λ (l : Literal). has_sizes c.args.setting.now.types.now (literal_value l) (fixed_typ
    c.args.setting.now.types.now (literal_typ l))) (sym c.in-Bit.is)

pub returns-in-Bits : goal.returns-in-Bits
returns-in-Bits c =
    le-leb c.width.result 128 c.width.ensures.small ∙ sym (word_has c.args.setting.now.types.now c.in-Bits.word (subst (λ n. n ≤ 128) c.width.ensures.value
    c.width.ensures.small)) ∙ ap (λ (l : Literal). has_sizes c.args.setting.now.types.now (literal_value l) (fixed_typ c.args.setting.now.types.now
    (literal_typ l))) (sym c.in-Bits.is)

pub returns-in-String : goal.returns-in-String
returns-in-String c =
    sym (string_has c.args.setting.now.types.now c.in-String.field-0) ∙ ap (λ (l : Literal). has_sizes c.args.setting.now.types.now (literal_value l)
    (fixed_typ c.args.setting.now.types.now (literal_typ l))) (sym c.in-String.is)

pub returns-in-Member : goal.returns-in-Member
returns-in-Member c =
    c.is_member.ensures ∙ ap (λ (b : Bool). b && nat_lt c.in-Member.member (length (members c.args.setting.now.types.now c.in-Member.place))) (sym (same_nat
    c.in-Member.place)) ∙ sym (member_has c.args.setting.now.types.now c.in-Member.place c.in-Member.member) ∙ ap (λ (l : Literal). has_sizes
    c.args.setting.now.types.now (literal_value l) (fixed_typ c.args.setting.now.types.now (literal_typ l))) (sym c.in-Member.is)
