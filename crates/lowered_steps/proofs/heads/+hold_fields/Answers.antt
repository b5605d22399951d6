use Rattle.std.proofs.Common.{◌-◌, ap}
use Rattle.lowered_steps.proofs.Taking.{held_done, ok_held, fields_none, fields_on}
use Rattle.lowered_steps.specs.Hands.{held_of}
use Rattle.size_values.specs.declared.sized.Sized.{out-Sized}
use Rattle.lowered_pieces.specs.Arms.{fields_held, held_at}
use Rattle.checked_meaning.specs.Items.{component_typ}
use Rattle.lowered_steps.proofs.heads.+hold_fields.Goals as goal

pub returns-then-count-eq0 : goal.returns-then-count-eq0
returns-then-count-eq0 t c =
    λ types kit. held_done c.args.parts.now (fields_held types kit (held_of c.args.value.now) c.args.from c.args.free c.args.count)
    (fields_none types kit (held_of c.args.value.now) c.args.from c.args.free c.args.count c.if-count-eq0.true)

pub returns : goal.returns
returns t c =
    λ types kit.
    ok_held c.hold_fields.result c.args.parts.now c.push.new.self c.hold_fields.new.parts _ (held_at c.args.free
    (component_typ c.args.from (out-Sized c.args.value.now.typ)))
    (fields_held types kit (held_of c.args.value.now) c.in_ok-behind.behind c.in_ok-next.next (c.args.count - 1))
    (fields_held types kit (held_of c.args.value.now) c.args.from c.args.free c.args.count) c.in_ok-push.ensures.pushed
    (ap (λ u. held_at c.args.free u) c.in_ok-typ.ensures)
    (fields_on types kit (held_of c.args.value.now) c.args.from c.args.free c.args.count c.in_ok-behind.behind c.in_ok-next.next c.if-count-eq0.false
    c.in_ok-behind.ensures c.in_ok-next.ensures)
    (c.hold_fields.ensures types kit)
