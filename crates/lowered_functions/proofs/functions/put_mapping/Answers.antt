use Rattle.std.proofs.Common.{refl}
use Rattle.lowered_pieces.specs.Functions.{ends_code}
use Rattle.lowered_steps.specs.Setting.{kit_for}
use Rattle.lowered_functions.specs.Made.{mapping_for}
use Rattle.lowered_functions.proofs.Put.{code_made, emits_behind}
use Rattle.lowered_functions.proofs.functions.put_mapping.Goals as goal

pub put_optional-requires : goal.put_optional-requires
put_optional-requires c = c.requires.lowered

pub returns : goal.returns
returns c =
    code_made c.args.walk.now c.args.given.now c.in_ok-coding.coding c.put_ends.new.coding _ _
    (λ name. mapping_for c.args.walk.now name c.args.place c.args.payload.now c.args.clauses.now) c.in_ok-coding.ensures.slots
    c.in_ok-coding.ensures.code c.in_ok-coding.ensures.labels (λ name. refl)
    (emits_behind c.in_ok-coding.coding c.put_optional.new.coding c.put_ends.new.coding _ (λ name. ends_code (kit_for c.args.walk.now.setting.now name)
    c.args.place) _ c.in_ok-put_optional.ensures c.in_ok-put_ends.ensures)
