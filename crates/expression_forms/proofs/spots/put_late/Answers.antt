use Rattle.std.proofs.Common.{◌≡◌, ◌∙◌, ◌&&◌, true, [], ◌∷◌, refl}
use Rattle.value_indices.specs.Steps.{Walk, bind}
use Rattle.value_indices.specs.Walking.{got, run, seen, with_facts}
use Rattle.value_indices.specs.declared.indices.Indices.{Indices}
use Rattle.value_indices.specs.declared.indices.Reading.TheVariants as R
use Rattle.value_fits.specs.Fitting.{says}
use Rattle.wide_types.proofs.Turns.{once_got, once_run}
use Rattle.pattern_leaves.specs.Settings.{around_of}
use Rattle.pattern_leaves.proofs.Walked.{then_got, then_run}
use Rattle.expression_forms.specs.Nodes.{put}
use Rattle.expression_forms.specs.Spots.{Wrote, gives, in_force, is_late_wanted, part_write, rewritten, spot_of, wrote}
use Rattle.expression_forms.specs.Ways.{owe_part}
use Rattle.expression_forms.proofs.Forced.{forced_got, forced_run}
use Rattle.expression_forms.proofs.spots.put_late.Goals as goal

-- behind the new value at its own number, what is known comes into force, the part owes, and the base is written again
pub returns-clause-value : goal.returns-clause-value
returns-clause-value c =
    let around = around_of c.args.around.now in
    let k = c.args.number in
    let i = c.args.value.now in
    let x = c.args.reached.now in
    let n = c.args.is_nested && is_late_wanted c.args.known.now.before x.typ in
    let fs = c.args.known.now.facts in
    let again = rewritten (spot_of around c.args.base.now) c.args.held.now in
    let writes : Walk Wrote = part_write around c.args.place true x again n i in
    let owes = owe_part around c.args.place x n i in
    let puts = put k (i ∷ []) R.Hole i in
    let next = λ (t : Unit {0}). bind (in_force fs) (λ u. writes) in
    let w = seen c.args.walking.now in
    let p = seen c.put.new.walking in
    let v = seen c.assume_facts.new.self in
    let o = seen c.owe_part.new.walking in
    let was : p ≡ run puts w = c.in_ok-put.ensures ∙ (λ j. run (put k (c.from_ref.ensures.value j) R.Hole i) w) in
    let forced : v ≡ with_facts fs p = c.in_ok-assume_facts.ensures ∙ (λ j. with_facts ((c.in_ok-facts.ensures ∙ c.as_slice.ensures) j) p) in
    let owed : o ≡ run owes v = c.in_ok-owe_part.ensures ∙ (λ j. run (owe_part around c.args.place x (c.late_nested-nested.ensures j) i) v) in
    c.gives.ensures around
    ∙ once_got again (λ (answer : Indices). wrote (says []) answer) (bind again gives) o c.in_ok-answer.answer refl c.in_ok-answer.ensures.value
    ∙ then_got owes (λ (t : Unit {0}). bind again gives) v o (got owes v) refl owed
    ∙ forced_got fs writes p v forced ∙ then_got puts next w p (got puts w) refl was

pub returns-clause-walked : goal.returns-clause-walked
returns-clause-walked c =
    let around = around_of c.args.around.now in
    let k = c.args.number in
    let i = c.args.value.now in
    let x = c.args.reached.now in
    let n = c.args.is_nested && is_late_wanted c.args.known.now.before x.typ in
    let fs = c.args.known.now.facts in
    let again = rewritten (spot_of around c.args.base.now) c.args.held.now in
    let writes : Walk Wrote = part_write around c.args.place true x again n i in
    let owes = owe_part around c.args.place x n i in
    let puts = put k (i ∷ []) R.Hole i in
    let next = λ (t : Unit {0}). bind (in_force fs) (λ u. writes) in
    let w = seen c.args.walking.now in
    let p = seen c.put.new.walking in
    let v = seen c.assume_facts.new.self in
    let o = seen c.owe_part.new.walking in
    let was : p ≡ run puts w = c.in_ok-put.ensures ∙ (λ j. run (put k (c.from_ref.ensures.value j) R.Hole i) w) in
    let forced : v ≡ with_facts fs p = c.in_ok-assume_facts.ensures ∙ (λ j. with_facts ((c.in_ok-facts.ensures ∙ c.as_slice.ensures) j) p) in
    let owed : o ≡ run owes v = c.in_ok-owe_part.ensures ∙ (λ j. run (owe_part around c.args.place x (c.late_nested-nested.ensures j) i) v) in
    once_run again (λ (answer : Indices). wrote (says []) answer) (bind again gives) o (seen c.rewrite.new.walking) refl c.in_ok-answer.ensures.walked
    ∙ then_run owes (λ (t : Unit {0}). bind again gives) v o (got owes v) refl owed
    ∙ forced_run fs writes p v forced ∙ then_run puts next w p (got puts w) refl was
