use Rattle.std.specs.Prelude.{slice_index_or}
use Rattle.std.proofs.Common.{◌∙◌, ◌+◌, ap, List, [], ◌∷◌, ◌++◌, ℕ, refl, sym, subst}
use Rattle.std.specs.Prelude.{OnOk}
use Rattle.jib.specs.declared.code.Instruction.{Instruction}
use Rattle.jib.specs.declared.code.Instruction.TheVariants as I
use Rattle.jib.specs.declared.code.Source.TheVariants as R
use Rattle.jib.specs.declared.code.Target.TheVariants as G
use Rattle.lowered_pieces.specs.Emitted.{Emits, no_labels}
use Rattle.lowered_pieces.specs.Forms.{enter_code}
use Rattle.lowered_pieces.specs.Places.{Number}
use Rattle.lowered_pieces.proofs.Emitting.{emits_none}
use Rattle.lowered_steps.specs.Setting.{kit_for}
use Rattle.lowered_steps.specs.Stands.{depths_of}
use Rattle.lowered_ends.proofs.Lists.{first_at, none_of, others}
use Rattle.lowered_nodes.proofs.Joining.{ok_as, ok_first}
use Rattle.lowered_nodes.proofs.arms.+put_enter.Goals as goal

pub returns-in-empty : goal.returns-in-empty
returns-in-empty t c =
    let setting = c.args.walk.now.setting.now in
    let d = depths_of c.args.levels.now in
    let old = c.args.coding.now in
    subst (λ (ns : List ℕ). Emits old old (λ name l. enter_code (kit_for setting name) d ns) no_labels) (sym (none_of c.args.noted.now c.in-empty.len_below))
    (emits_none old)

pub returns-in_ok-put_copy-in-len1-up : goal.returns-in_ok-put_copy-in-len1-up
returns-in_ok-put_copy-in-len1-up t c =
    let setting = c.args.walk.now.setting.now in
    let d = depths_of c.args.levels.now in
    let xs = c.args.noted.now in
    let x = slice_index_or c.args.noted.now 0 0 in
    let deep = c.in_ok-further-in-len1-up.ensures ∙ ap (λ k. k + 1) c.in_ok-depth_here-in-len1-up.ensures in
    subst (λ (ns : List ℕ). OnOk c.put_enter.result (Emits c.args.coding.now c.put_enter.new.coding (λ name l. enter_code
    (kit_for setting name) d ns) no_labels))
    (sym (first_at xs 0 c.in-len1-up.len_at_least))
    (ok_as c.put_enter.result _ _ _ _ _ _
    (ok_first c.put_enter.result _ _ _ _ _ _ c.in_ok-put_copy-in-len1-up.ensures c.put_enter.ensures)
    (λ name i. I.Copy (G.Slot (name (Number x (deep i)) setting.integer))
    (R.Slot (name (Number x (c.in_ok-depth_of-in-len1-up.ensures i)) setting.integer)) ∷ enter_code (kit_for setting name) d (others xs)) (λ name. refl))
