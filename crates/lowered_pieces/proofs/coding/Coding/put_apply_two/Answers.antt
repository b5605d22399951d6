use Rattle.std.proofs.Common.{◌≡◌, ◌∙◌, List, [], ◌∷◌, ◌++◌, ap, subst, sym}
use Rattle.jib.specs.declared.code.Source.{Source}
use Rattle.jib.specs.declared.code.Source.TheVariants as R
use Rattle.jib.specs.declared.code.Target.TheVariants as G
use Rattle.jib.specs.declared.code.Instruction.TheVariants as I
use Rattle.lowered_pieces.specs.Emitted.{Sourced, no_labels}
use Rattle.lowered_pieces.specs.Places.{Naming}
use Rattle.lowered_pieces.proofs.Emitting.{grows_then, ok_from, sourced_both, sourced_lasts}
use Rattle.lowered_pieces.proofs.coding.Coding.put_apply_two.Goals as goal

pub returns : goal.returns
returns c =
    let old = c.args.self.now in
    let mid = c.source.new.self in
    let late = c.source-2.new.self in
    let first : Naming → List Source = λ name. R.Slot (name c.args.first c.args.other) ∷ [] in
    let second : Naming → List Source = λ name. R.Slot (name c.args.second c.args.other) ∷ [] in
    let by : Naming → List Source = λ name. R.Slot (name c.args.first c.args.other) ∷ R.Slot (name c.args.second c.args.other) ∷ [] in
    let one : c.push.new.self ≡ c.in_ok-before.before ∷ [] = c.in_ok-push.ensures.pushed ∙ ap (λ rs. rs ++ c.in_ok-before.before ∷ []) c.new-sources.ensures in
    let is : c.push-2.new.self ≡ c.in_ok-before.before ∷ c.in_ok-behind.behind ∷ [] = c.in_ok-push-2.ensures.pushed ∙ ap
    (λ rs. rs ++ c.in_ok-behind.behind ∷ []) one in
    let grown = c.in_ok-behind.ensures.grown in
    let lasts = sourced_lasts mid.slots late.slots (c.in_ok-before.before ∷ []) first grown.slots c.in_ok-before.ensures.read in
    let all : Sourced late.slots (c.in_ok-before.before ∷ c.in_ok-behind.behind ∷ []) by =
    sourced_both late.slots (c.in_ok-before.before ∷ []) (c.in_ok-behind.behind ∷ []) first second lasts c.in_ok-behind.ensures.read in
    ok_from c.put_apply.result old late c.put_apply.new.self (λ name l. I.Apply (G.Slot (name c.args.to c.args.typ)) c.args.op (by name) ∷ []) no_labels
    (grows_then old mid late c.in_ok-before.ensures.grown grown) (c.put_apply.ensures by (subst (λ rs. Sourced late.slots rs by) (sym is) all))
