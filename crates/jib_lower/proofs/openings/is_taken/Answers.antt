use Rattle.std.proofs.Common.{◌∙◌, ap, sym}
use Rattle.jib_lower.specs.Lowered.{fails_seen, names_differ, names_in}
use Rattle.jib_lower.proofs.Unmade.{first_naming, not_both}
use Rattle.lowered_pieces.specs.Mapped.{ends_with, fixed_end}
use Rattle.lowered_ends.specs.Around.{node_for}
use Rattle.lowered_pieces.specs.Arms.{arm_fits}
use Rattle.lowered_steps.specs.Setting.{crosses_for, reads_at, size_for}
use Rattle.jib_lower.proofs.openings.is_taken.Goals as goal

pub returns-then-seen-clause-is : goal.returns-then-seen-clause-is
returns-then-seen-clause-is c = λ h. record {
  lowered = sym c.is_arm-lowered.ensures ∙ c.if-lowered.true;
  differ = ap (λ ss. names_differ (names_in ss)) (sym c.steps_of-steps.ensures) ∙ sym c.names_differ-differ.ensures ∙ c.if-differ.true;
  seen = ap fails_seen (sym c.steps_of-steps.ensures) ∙ sym c.is_seen-seen.ensures ∙ c.if-seen.true;
  ends = λ name. sym (c.in_ok-ends.ensures name) ∙ h;
}

pub returns-then-seen-clause-no : goal.returns-then-seen-clause-no
returns-then-seen-clause-no c = λ lack. record {
  why = λ taken.
      not_both (ends_with c.args.whole.now (fixed_end (node_for c.args.walk.now.setting.now c.args.walk.now.around.now first_naming
      c.args.value.now).piece.ends))
      (taken.ends first_naming) (sym (c.in_ok-ends.ensures first_naming) ∙ lack);
}

pub returns-else-seen-clause-no : goal.returns-else-seen-clause-no
returns-else-seen-clause-no c = λ lack. record {
  why = λ taken.
      not_both (fails_seen c.steps_of-steps.result.now) (ap fails_seen c.steps_of-steps.ensures ∙ taken.seen) (sym c.is_seen-seen.ensures ∙ c.if-seen.false);
}

pub returns-else-differ-clause-no : goal.returns-else-differ-clause-no
returns-else-differ-clause-no c = λ lack. record {
  why = λ taken.
      not_both (names_differ (names_in c.steps_of-steps.result.now)) (ap (λ ss. names_differ (names_in ss)) c.steps_of-steps.ensures ∙ taken.differ)
      (sym c.names_differ-differ.ensures ∙ c.if-differ.false);
}

pub returns-else-lowered-clause-no : goal.returns-else-lowered-clause-no
returns-else-lowered-clause-no c = λ lack. record {
  why = λ taken.
      not_both
      (arm_fits (size_for c.args.walk.now.setting.now) (crosses_for c.args.walk.now.setting.now) (reads_at c.args.walk.now.setting.now.reads.now)
      c.args.arm.now) taken.lowered
      (sym c.is_arm-lowered.ensures ∙ c.if-lowered.false);
}
