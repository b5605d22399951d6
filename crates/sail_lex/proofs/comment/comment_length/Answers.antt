use Rattle.std.proofs.Common.{◌≡◌, ◌+◌, ◌-◌, ◌<◌, ℕ, arith, sym, ◌∙◌, subst, length}
use Rattle.sail_lex.proofs.Marks.{Going, going_begins, opening_length, going_opening, going_closing, going_plain, going_end, going_never}
use Rattle.sail_lex.proofs.comment.comment_length.Goals as goal

pub loop-depth-init : goal.loop-depth-init
loop-depth-init c =
    let two = opening_length c.args.text.now c.requires in
    record { begun = omega arith; within = omega arith; shallow = omega arith; going = going_begins c.args.text.now c.requires }

-- too few bytes are left for a closing
pub returns-then-text-at-lt2-clause-never : goal.returns-then-text-at-lt2-clause-never
returns-then-text-at-lt2-clause-never c =
    going_never c.args.text.now c.loop-depth.depth c.loop-depth.at (omega arith) (omega arith) c.loop-depth.invariant.going

pub loop-depth-preserved-then-opens : goal.loop-depth-preserved-then-opens
loop-depth-preserved-then-opens c =
    let two : c.loop-depth.at + 1 < length c.args.text.now = omega arith in
    record {
      begun = omega arith;
      within = omega arith;
      shallow = omega arith;
      going = going_opening c.args.text.now c.loop-depth.depth c.loop-depth.at two (omega arith)
          (sym c.opens.ensures ∙ c.if-opens.true) c.loop-depth.invariant.going;
    }

pub loop-depth-preserved-then-closes : goal.loop-depth-preserved-then-closes
loop-depth-preserved-then-closes c =
    let two : c.loop-depth.at + 1 < length c.args.text.now = omega arith in
    let deeper : c.loop-depth.depth ≡ c.loop-depth.depth - 1 + 1 = omega arith in
    record {
      begun = omega arith;
      within = omega arith;
      shallow = omega arith;
      going = going_closing c.args.text.now (c.loop-depth.depth - 1) c.loop-depth.at two (sym c.closes.ensures ∙ c.if-closes.true)
          (subst (λ (d : ℕ). Going c.args.text.now d c.loop-depth.at) deeper c.loop-depth.invariant.going);
    }

pub loop-depth-preserved : goal.loop-depth-preserved
loop-depth-preserved c =
    let two : c.loop-depth.at + 1 < length c.args.text.now = omega arith in
    record {
      begun = omega arith;
      within = omega arith;
      shallow = omega arith;
      going = going_plain c.args.text.now c.loop-depth.depth c.loop-depth.at two (omega arith) (sym c.opens.ensures ∙ c.if-opens.false)
          (sym c.closes.ensures ∙ c.if-closes.false) c.loop-depth.invariant.going;
    }

pub returns-clause-ends : goal.returns-clause-ends
returns-clause-ends c = going_end c.args.text.now c.loop-depth.depth c.loop-depth.at (omega arith) c.loop-depth.invariant.going
