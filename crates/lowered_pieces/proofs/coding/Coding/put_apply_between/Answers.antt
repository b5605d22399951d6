use Rattle.std.proofs.Common.{◌≡◌, ◌∙◌, List, [], ◌∷◌, ◌++◌, ap, subst, sym}
use Rattle.jib.specs.declared.code.Source.{Source}
use Rattle.jib.specs.declared.code.Source.TheVariants as R
use Rattle.jib.specs.declared.code.Target.TheVariants as G
use Rattle.jib.specs.declared.code.Instruction.TheVariants as I
use Rattle.lowered_pieces.specs.Emitted.{Sourced, no_labels}
use Rattle.lowered_pieces.specs.Places.{Naming}
use Rattle.lowered_pieces.proofs.Emitting.{no_reads, ok_from, sourced_both, sourced_fixed}
use Rattle.lowered_pieces.proofs.coding.Coding.put_apply_between.Goals as goal

pub returns : goal.returns
returns c =
    let mid = c.source.new.self in
    let a = R.Constant c.args.constant c.args.first in
    let b = R.Constant c.args.constant c.args.second in
    let read : Naming → List Source = λ name. R.Slot (name c.args.from c.args.other) ∷ [] in
    let first : Naming → List Source = λ name. R.Slot (name c.args.from c.args.other) ∷ a ∷ [] in
    let by : Naming → List Source = λ name. R.Slot (name c.args.from c.args.other) ∷ a ∷ b ∷ [] in
    let one : c.push.new.self ≡ c.in_ok-source.source ∷ [] = c.in_ok-push.ensures.pushed ∙ ap (λ rs. rs ++ c.in_ok-source.source ∷ [])
    c.new-sources.ensures in
    let two : c.push-2.new.self ≡ c.in_ok-source.source ∷ a ∷ [] = c.in_ok-push-2.ensures.pushed ∙ ap (λ rs. rs ++ a ∷ []) one in
    let is : c.push-3.new.self ≡ c.in_ok-source.source ∷ a ∷ b ∷ [] = c.in_ok-push-3.ensures.pushed ∙ ap (λ rs. rs ++ b ∷ []) two in
    let both : Sourced mid.slots (c.in_ok-source.source ∷ a ∷ []) first = sourced_both mid.slots (c.in_ok-source.source ∷ []) (a ∷ []) read
    (λ name. a ∷ []) c.in_ok-source.ensures.read (sourced_fixed mid.slots a (no_reads _)) in
    let all : Sourced mid.slots (c.in_ok-source.source ∷ a ∷ b ∷ []) by = sourced_both mid.slots (c.in_ok-source.source ∷ a ∷ []) (b ∷ []) first
    (λ name. b ∷ []) both (sourced_fixed mid.slots b (no_reads _)) in
    ok_from c.put_apply.result c.args.self.now mid c.put_apply.new.self (λ name l. I.Apply (G.Slot (name c.args.to c.args.typ)) c.args.op (by name) ∷ [])
    no_labels
    c.in_ok-source.ensures.grown (c.put_apply.ensures by (subst (λ rs. Sourced mid.slots rs by) (sym is) all))
