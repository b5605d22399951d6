use Rattle.std.proofs.Common.{◌≡◌, ◌∙◌, [], ◌∷◌, ◌++◌, refl, sym, ap, subst}
use Rattle.sail_base.specs.laws.BitShapes.{bits_of-zero}
use Rattle.jib.specs.declared.code.Literal.TheVariants as L
use Rattle.jib.specs.declared.code.Source.{Source}
use Rattle.jib.specs.declared.code.Source.TheVariants as R
use Rattle.lowered_pieces.specs.Emitted.{Sourced}
use Rattle.lowered_pieces.proofs.Emitting.{no_reads, sourced_fixed}
use Rattle.lowered_steps.specs.Hands.{slice_held}
use Rattle.lowered_steps.proofs.Opened.{held_last, none_put}
use Rattle.lowered_steps.proofs.Taking.{just}
use Rattle.lowered_steps.proofs.words.put_no_bits.Goals as goal

pub returns-clause-code : goal.returns-clause-code
returns-clause-code c =
    λ h m.
    let x : Source = R.Constant c.in_ok-number.number (L.Bits c.new.result) in
    let is : c.push.new.self ≡ x ∷ [] = c.in_ok-push.ensures.pushed ∙ ap (λ rs. rs ++ x ∷ []) c.new-sources.ensures in
    let read : Sourced c.args.coding.now.slots c.push.new.self (λ name. x ∷ []) =
    subst (λ rs. Sourced c.args.coding.now.slots rs (λ name. x ∷ [])) (sym is) (sourced_fixed c.args.coding.now.slots x (no_reads _)) in
    just c.push-2.result (none_put c.args.setting.now h c.args.coding.now c.put_apply.new.self m c.args.free c.in_ok-number.number c.new.result
    c.in_ok-number.ensures (c.new.ensures ∙ bits_of-zero 0) (c.in_ok-put_apply.ensures (λ name. x ∷ []) read))

pub returns-clause-parts : goal.returns-clause-parts
returns-clause-parts c = held_last c.push-2.result c.args.parts.now c.push-2.new.self _ (slice_held c.args.free 0) refl c.push-2.ensures.pushed
