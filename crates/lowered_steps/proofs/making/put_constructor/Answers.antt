use Rattle.std.proofs.Common.{◌≡◌, ◌∙◌, ◌≤◌, List, [], ◌∷◌, ◌++◌, length, sym, ap, subst}
use Rattle.lowered_pieces.proofs.Emitting.{emits_from, sourced_fixed, no_reads}
use Rattle.lowered_steps.proofs.Lists.{none_of, one_of}
use Rattle.lowered_steps.proofs.Made.{constructs_one, constructs_none, constructs_more}
use Rattle.lowered_pieces.specs.Emitted.{Emits, Sourced, no_labels}
use Rattle.lowered_pieces.specs.Places.{Naming, Temp}
use Rattle.lowered_steps.specs.Setting.{kit_for, number_for}
use Rattle.lowered_pieces.specs.Forms.{numbers_of}
use Rattle.lowered_pieces.specs.Moves.{sources}
use Rattle.jib.specs.declared.code.Instruction.TheVariants as I
use Rattle.jib.specs.declared.code.Source.TheVariants as R
use Rattle.jib.specs.declared.code.Target.TheVariants as G
use Rattle.jib.specs.declared.code.Operation.TheVariants as O
use Rattle.jib.specs.declared.code.Literal.TheVariants as L
use Rattle.jib.specs.declared.code.Source.{Source}
use Rattle.lowered_steps.proofs.making.put_constructor.Goals as goal

pub returns-in_ok-push-in-empty : goal.returns-in_ok-push-in-empty
returns-in_ok-push-in-empty c =
    let by : Naming → List Source = λ name. R.Constant c.args.setting.now.unit L.Unit ∷ [] in
    let is : c.push.new.self ≡ R.Constant c.args.setting.now.unit L.Unit ∷ [] = c.in_ok-push-in-empty.ensures.pushed ∙ ap
    (λ rs. rs ++ R.Constant c.args.setting.now.unit L.Unit ∷ []) c.new-sources.ensures in
    let read : Sourced c.args.coding.now.slots c.push.new.self by = subst (λ rs. Sourced c.args.coding.now.slots rs by) (sym is)
    (sourced_fixed c.args.coding.now.slots (R.Constant c.args.setting.now.unit L.Unit) (no_reads _)) in
    constructs_none c.put_apply.result c.args.setting.now c.args.coding.now c.put_apply.new.self c.args.setting.now.types.now c.args.union
    c.args.constructor c.args.temp c.in_ok-gives.gives c.args.case.now.gives c.args.case.now.takes
    (sym c.as_slice.ensures ∙ none_of c.as_slice.result.now c.in-empty.len_below) c.in_ok-gives.ensures (c.put_apply.ensures by read)

pub returns-in_ok-number-in-len1 : goal.returns-in_ok-number-in-len1
returns-in_ok-number-in-len1 c =
    constructs_one c.put_apply_one.result c.args.setting.now c.args.coding.now c.put_apply_one.new.self c.args.setting.now.types.now c.args.union
    c.args.constructor c.args.temp c.in_ok-gives.gives c.in_ok-number-in-len1.number
    c.only-item.result c.args.case.now.gives c.args.case.now.takes (sym c.as_slice.ensures ∙ one_of c.as_slice.result.now c.only-item.result
    c.in-len1.len_at_least c.in-len1.len_below c.only-item.is)
    c.in_ok-gives.ensures c.in_ok-number-in-len1.ensures c.put_apply_one.ensures

pub returns-in_ok-put_apply-in_default : goal.returns-in_ok-put_apply-in_default
returns-in_ok-put_apply-in_default c =
    let rs = c.in_ok-sources-in_default.ensures in
    let by : Naming → List Source = λ name. sources (kit_for c.args.setting.now name) c.args.temp (numbers_of (kit_for c.args.setting.now name)
    (number_for c.args.setting.now) c.as_slice-in_default.result.now) in
    let mid = c.list_sources.new.coding in
    constructs_more c.put_apply_one-in_default.result c.args.setting.now c.args.coding.now c.put_apply_one-in_default.new.self c.args.setting.now.types.now
    c.args.union c.args.constructor c.args.temp c.in_ok-gives.gives
    c.in_ok-number-in_default.number c.args.case.now.gives c.in_ok-payload-in_default.payload c.args.case.now.takes c.put_apply-in_default.new.self
    (subst (λ us. 2 ≤ length us) c.as_slice.ensures c.in_default.len_at_least) c.in_ok-gives.ensures c.in_ok-payload-in_default.ensures
    c.in_ok-number-in_default.ensures
    (subst (λ us. Emits c.args.coding.now c.put_apply-in_default.new.self (λ name l. I.Apply
    (G.Slot (name (Temp c.args.temp) c.in_ok-number-in_default.number)) O.Build
    (sources (kit_for c.args.setting.now name) c.args.temp (numbers_of (kit_for c.args.setting.now name) (number_for c.args.setting.now) us)) ∷ [])
    no_labels) c.as_slice-in_default.ensures
    (emits_from c.args.coding.now mid c.put_apply-in_default.new.self (λ name l. I.Apply (G.Slot (name (Temp c.args.temp)
    c.in_ok-number-in_default.number)) O.Build (by name) ∷ []) no_labels
    rs.grown (c.in_ok-put_apply-in_default.ensures by rs.read))) c.put_apply_one-in_default.ensures
