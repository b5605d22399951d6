use Rattle.std.proofs.Common.{◌≡◌, ◌∙◌, List, [], ◌∷◌, ◌++◌, ap, subst, sym}
use Rattle.jib.specs.declared.code.Source.{Source}
use Rattle.jib.specs.declared.code.Source.TheVariants as R
use Rattle.jib.specs.declared.code.Target.TheVariants as G
use Rattle.jib.specs.declared.code.Instruction.TheVariants as I
use Rattle.lowered_pieces.specs.Emitted.{Sourced, no_labels}
use Rattle.lowered_pieces.specs.Places.{Naming}
use Rattle.lowered_pieces.proofs.Emitting.{ok_from}
use Rattle.lowered_pieces.proofs.coding.Coding.put_apply_one.Goals as goal

pub returns : goal.returns
returns c =
    let mid = c.source.new.self in
    let by : Naming → List Source = λ name. R.Slot (name c.args.from c.args.other) ∷ [] in
    let is : c.push.new.self ≡ c.in_ok-source.source ∷ [] = c.in_ok-push.ensures.pushed ∙ ap (λ rs. rs ++ c.in_ok-source.source ∷ []) c.new-sources.ensures in
    ok_from c.put_apply.result c.args.self.now mid c.put_apply.new.self (λ name l. I.Apply (G.Slot (name c.args.to c.args.typ)) c.args.op (by name) ∷ [])
    no_labels
    c.in_ok-source.ensures.grown (c.put_apply.ensures by (subst (λ rs. Sourced mid.slots rs by) (sym is) c.in_ok-source.ensures.read))
