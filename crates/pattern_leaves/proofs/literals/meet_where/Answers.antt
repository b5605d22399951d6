use Rattle.std.proofs.Common.{◌≡◌, sym, ◌∙◌, subst, Bool, IfOk, OnOk}
use Rattle.value_indices.specs.Walking.{got, run, seen}
use Rattle.pattern_leaves.specs.Literals.{met_where}
use Rattle.pattern_leaves.proofs.Walked.{where_got, where_run}
use Rattle.pattern_leaves.proofs.literals.meet_where.Goals as goal

pub returns-then-is_of-clause-found : goal.returns-then-is_of-clause-found
returns-then-is_of-clause-found c = c.new.ensures ∙ sym (where_got c.args.place c.args.is_of (seen c.args.walking.now) c.if-is_of.true)

pub returns-then-is_of-clause-walked : goal.returns-then-is_of-clause-walked
returns-then-is_of-clause-walked c = sym (where_run c.args.place c.args.is_of (seen c.args.walking.now) c.if-is_of.true)

pub returns-else-is_of-clause-found : goal.returns-else-is_of-clause-found
returns-else-is_of-clause-found c =
    subst (λ (b : Bool). IfOk c.wrong_pattern.result (λ found. found ≡ got (met_where c.args.place b) (seen c.args.walking.now)))
    (sym c.if-is_of.false) c.wrong_pattern.ensures.found

pub returns-else-is_of-clause-walked : goal.returns-else-is_of-clause-walked
returns-else-is_of-clause-walked c =
    subst (λ (b : Bool). OnOk c.wrong_pattern.result (seen c.wrong_pattern.new.walking ≡ run (met_where c.args.place b) (seen c.args.walking.now)))
    (sym c.if-is_of.false) c.wrong_pattern.ensures.walked
