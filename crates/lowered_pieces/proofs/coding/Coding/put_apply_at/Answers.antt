use Rattle.std.proofs.Common.{◌≡◌, ◌∙◌, List, [], ◌∷◌, ◌++◌, ap, subst, sym}
use Rattle.jib.specs.declared.code.Source.{Source}
use Rattle.jib.specs.declared.code.Source.TheVariants as R
use Rattle.jib.specs.declared.code.Target.TheVariants as G
use Rattle.jib.specs.declared.code.Instruction.TheVariants as I
use Rattle.lowered_pieces.specs.Emitted.{Sourced, no_labels}
use Rattle.lowered_pieces.specs.Places.{Naming}
use Rattle.lowered_pieces.proofs.Emitting.{no_reads, ok_from, sourced_both, sourced_fixed}
use Rattle.lowered_pieces.proofs.coding.Coding.put_apply_at.Goals as goal

pub returns : goal.returns
returns c =
    let mid = c.source.new.self in
    let first : Naming → List Source = λ name. R.Slot (name c.args.from c.args.other) ∷ [] in
    let second : Naming → List Source = λ name. R.Constant c.args.constant c.args.literal ∷ [] in
    let by : Naming → List Source = λ name. R.Slot (name c.args.from c.args.other) ∷ R.Constant c.args.constant c.args.literal ∷ [] in
    let one : c.push.new.self ≡ c.in_ok-source.source ∷ [] = c.in_ok-push.ensures.pushed ∙ ap (λ rs. rs ++ c.in_ok-source.source ∷ []) c.new-sources.ensures in
    let is : c.push-2.new.self ≡ c.in_ok-source.source ∷ R.Constant c.args.constant c.args.literal ∷ [] = c.in_ok-push-2.ensures.pushed ∙ ap
    (λ rs. rs ++ R.Constant c.args.constant c.args.literal ∷ []) one in
    let all : Sourced mid.slots (c.in_ok-source.source ∷ R.Constant c.args.constant c.args.literal ∷ []) by = sourced_both mid.slots
    (c.in_ok-source.source ∷ []) (R.Constant c.args.constant c.args.literal ∷ []) first second c.in_ok-source.ensures.read
    (sourced_fixed mid.slots (R.Constant c.args.constant c.args.literal) (no_reads _)) in
    ok_from c.put_apply.result c.args.self.now mid c.put_apply.new.self (λ name l. I.Apply (G.Slot (name c.args.to c.args.typ)) c.args.op (by name) ∷ [])
    no_labels
    c.in_ok-source.ensures.grown (c.put_apply.ensures by (subst (λ rs. Sourced mid.slots rs by) (sym is) all))
