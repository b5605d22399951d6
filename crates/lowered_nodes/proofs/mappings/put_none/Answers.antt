use Rattle.std.proofs.Common.{◌≡◌, ◌∙◌, List, [], ◌∷◌, ◌++◌, refl, ap, subst, sym}
use Rattle.jib.specs.declared.code.Source.{Source}
use Rattle.jib.specs.declared.code.Instruction.TheVariants as I
use Rattle.jib.specs.declared.code.Source.TheVariants as R
use Rattle.jib.specs.declared.code.Target.TheVariants as G
use Rattle.jib.specs.declared.code.Operation.TheVariants as O
use Rattle.jib.specs.declared.code.Literal.TheVariants as L
use Rattle.lowered_pieces.specs.Places.{Temp}
use Rattle.lowered_pieces.specs.Emitted.{Sourced}
use Rattle.lowered_pieces.specs.Places.{Naming}
use Rattle.lowered_pieces.proofs.Emitting.{no_reads, sourced_fixed}
use Rattle.lowered_steps.specs.Tails.{tail_of}
use Rattle.lowered_nodes.proofs.Joining.{ok_as, ok_first}
use Rattle.lowered_nodes.proofs.mappings.put_none.Goals as goal

pub returns : goal.returns
returns c =
    let setting = c.args.walk.now.setting.now in
    let unit = R.Constant setting.unit L.Unit in
    let by : Naming → List Source = λ name. unit ∷ [] in
    let is : c.push.new.self ≡ unit ∷ [] = c.in_ok-push.ensures.pushed ∙ ap (λ rs. rs ++ unit ∷ []) c.new-sources.ensures in
    let old = c.args.coding.now in
    let read = subst (λ rs. Sourced old.slots rs by) (sym is) (sourced_fixed old.slots unit (no_reads _)) in
    ok_as c.put_tail.result _ _ _ _ _ _
    (ok_first c.put_tail.result _ _ _ _ _ _ (c.in_ok-put_apply.ensures by read) c.put_tail.ensures)
    (λ name. ap (λ n. I.Apply (G.Slot (name (Temp c.args.stand.now.temp) n)) (O.Construct 1) (unit ∷ [])
    ∷ (tail_of setting name c.args.tail.now).code c.args.option.now old.labels) c.in_ok-number.ensures) (λ name. refl)
