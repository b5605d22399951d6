use Rattle.std.proofs.Common.{◌∙◌, ◌++◌, append-nil, sym, ap, subst}
use Rattle.std.specs.Prelude.{OnOk}
use Rattle.lowered_pieces.specs.Emitted.{Sourced}
use Rattle.lowered_pieces.specs.Writes.{index_sources}
use Rattle.lowered_pieces.proofs.Emitting.{grows_here}
use Rattle.lowered_steps.specs.Setting.{kit_for}
use Rattle.lowered_steps.proofs.Sourcing.{sourced_as}
use Rattle.lowered_steps.proofs.stores.push_indexes.Goals as goal

pub returns-in-Field-clause-read : goal.returns-in-Field-clause-read
returns-in-Field-clause-read c =
    λ by s.
    sourced_as c.args.coding.now.slots c.args.sources.now by (λ name. by name ++ index_sources c.args.setting.now.types.now
    (kit_for c.args.setting.now name) c.args.way.now c.args.indexes)
    (λ name. sym (append-nil (by name)) ∙ ap (λ y. by name ++ index_sources c.args.setting.now.types.now (kit_for c.args.setting.now name) y
    c.args.indexes) (sym c.in-Field.is)) s

pub returns-in-Field-clause-grown : goal.returns-in-Field-clause-grown
returns-in-Field-clause-grown c = grows_here c.args.coding.now

pub returns-in-Item-clause-read : goal.returns-in-Item-clause-read
returns-in-Item-clause-read c =
    λ by s.
    subst (λ y. OnOk c.push_index.result (Sourced c.push_index.new.coding.slots c.push_index.new.sources
    (λ name. by name ++ index_sources c.args.setting.now.types.now (kit_for c.args.setting.now name) y c.args.indexes))) (sym c.in-Item.is)
    (c.push_index.ensures.read by s)

pub returns-in-Item-clause-grown : goal.returns-in-Item-clause-grown
returns-in-Item-clause-grown c = c.push_index.ensures.grown

pub returns-in-Slice-clause-read : goal.returns-in-Slice-clause-read
returns-in-Slice-clause-read c =
    λ by s.
    subst (λ y. OnOk c.push_two.result (Sourced c.push_two.new.coding.slots c.push_two.new.sources
    (λ name. by name ++ index_sources c.args.setting.now.types.now (kit_for c.args.setting.now name) y c.args.indexes))) (sym c.in-Slice.is)
    (c.push_two.ensures.read by s)

pub returns-in-Slice-clause-grown : goal.returns-in-Slice-clause-grown
returns-in-Slice-clause-grown c = c.push_two.ensures.grown
