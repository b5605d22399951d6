use Rattle.std.proofs.Common.{◌∙◌, ap, arith, sym}
use Rattle.std.specs.Option.{option_copied}
use Rattle.pattern_leaves.specs.Settings.{held_in}
use Rattle.expression_forms.proofs.Groups.{held_at_first, held_earlier, held_last, held_nowhere}
use Rattle.expression_forms.proofs.scopes.held_among.Goals as goal

pub loop-left-init : goal.loop-left-init
loop-left-init c = record { within = omega arith; held = held_at_first c.args.name.now c.args.groups.now _ (omega arith) }

pub loop-left-preserved : goal.loop-left-preserved
loop-left-preserved c =
    let l = c.loop-left in
    let none = ap (held_in c.args.name.now) (sym c.as_slice.ensures) ∙ sym c.held_in.ensures ∙ ap option_copied c.in-None.is in
    record {
      within = omega (arith, l.invariant.within);
      held = held_earlier c.args.name.now c.args.groups.now l.left _ (omega (arith, c.loop-left-test.true)) l.invariant.within c.index-groups-left.is none
          ∙ l.invariant.held;
    }

pub returns-in-Some : goal.returns-in-Some
returns-in-Some c =
    let l = c.loop-left in
    let some = ap (held_in c.args.name.now) (sym c.as_slice.ensures) ∙ sym c.held_in.ensures ∙ ap option_copied c.in-Some.is in
    sym (held_last c.args.name.now c.args.groups.now l.left _ _ (omega (arith, c.loop-left-test.true)) l.invariant.within c.index-groups-left.is some)
    ∙ l.invariant.held

pub returns : goal.returns
returns c =
    let l = c.loop-left in
    sym (held_nowhere c.args.name.now c.args.groups.now l.left (omega (arith, c.loop-left-test.false))) ∙ l.invariant.held
