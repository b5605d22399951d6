use Rattle.std.proofs.Common.{◌∙◌, ap, length, sym}
use Rattle.std.specs.Prelude.{◌||◌, nat_lt}
use Rattle.size_values.specs.declared.sized.Sized.{out-Sized}
use Rattle.lowered_types.specs.Table.{type_in}
use Rattle.jib_lower.proofs.Bodied.{same_never}
use Rattle.jib_lower.proofs.directions.is_known.Goals as goal

pub returns-then-never : goal.returns-then-never
returns-then-never c =
    let there = nat_lt (type_in c.args.numbered.now c.args.typ.now) (length c.args.numbered.now) in
    sym (ap (λ b. b || there) (sym (same_never (out-Sized c.args.typ.now)) ∙ sym c.is_never-never.ensures ∙ c.if-never.true))

pub returns-else-never : goal.returns-else-never
returns-else-never c =
    let there = nat_lt (type_in c.args.numbered.now c.args.typ.now) (length c.args.numbered.now) in
    ap (λ n. nat_lt n (length c.args.numbered.now)) c.find-place.ensures
    ∙ sym (ap (λ b. b || there) (sym (same_never (out-Sized c.args.typ.now)) ∙ sym c.is_never-never.ensures ∙ c.if-never.false))
