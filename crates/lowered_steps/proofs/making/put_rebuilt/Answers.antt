use Rattle.std.proofs.Common.{◌≡◌, ◌∙◌, ◌+◌, ◌∷◌, true, refl, sym, ap, subst}
use Rattle.lowered_pieces.specs.Forms.{numbers_of, set_fields}
use Rattle.lowered_steps.specs.Makers.{all_slots}
use Rattle.lowered_steps.specs.Setting.{kit_for, number_for}
use Rattle.lowered_steps.proofs.Changed.{with_put}
use Rattle.lowered_steps.proofs.Sourcing.{slots_in}
use Rattle.lowered_steps.proofs.making.put_rebuilt.Goals as goal

pub place_each-requires : goal.place_each-requires
place_each-requires c =
    record {
      slots = subst (λ us. all_slots us ≡ true) (sym c.as_slice.ensures)
          (slots_in c.list_sources.new.coding.slots c.in_ok-sources.sources (λ name. kit_for c.args.setting.now name) c.in_ok-behind.behind
          (λ name. numbers_of (kit_for c.args.setting.now name) (number_for c.args.setting.now) c.args.rest.now) c.in_ok-sources.ensures.read);
    }

pub returns : goal.returns
returns c =
    with_put c.put_apply.result c.args.setting.now c.args.coding.now c.put_apply.new.self c.put_fields_out.new.coding c.list_sources.new.coding
    c.list_sources-2.new.coding c.args.fields.now c.args.temp c.in_ok-whole.whole c.in_ok-behind.behind c.in_ok-free.free c.in_ok-number.number
    c.args.typ.now c.args.gives.now c.args.rest.now (c.args.typ.now ∷ c.args.rest.now) c.as_slice-olds.result.now c.in_ok-sources.sources
    c.in_ok-parts.parts c.place_each.new.placed refl c.in_ok-whole.ensures (c.as_slice-olds.ensures ∙ c.in_ok-types.ensures) c.in_ok-behind.ensures
    (c.in_ok-free.ensures ∙ ap (λ k. c.in_ok-behind.behind + k) c.in_ok-count.ensures) c.in_ok-number.ensures c.in_ok-put_fields_out.ensures
    c.in_ok-sources.ensures.grown c.in_ok-sources.ensures.read c.in_ok-parts.ensures.grown c.in_ok-parts.ensures.read
    (c.place_each.ensures ∙ ap (λ us. set_fields c.args.fields.now us c.in_ok-parts.parts) c.as_slice.ensures) c.put_apply.ensures
