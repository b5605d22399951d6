-- Walks that write: what was in force still is.
use Rattle.std.proofs.Common.{◌∙◌, ◌++◌, ℕ, Bool, true, false, List, [], ◌∷◌, ap, arith}
use Rattle.std.proofs.lemmas.List.{append_assoc}
use Rattle.sail_base.specs.declared.place.Place.{Place}
use Rattle.sail_core.specs.declared.tree.Giver.TheVariants as By
use Rattle.sail_types.specs.Zero.{deepest}
use Rattle.value_indices.specs.Steps.{Walk, bind, give, given_note, note}
use Rattle.value_indices.specs.declared.indices.Indices.{Indices}
use Rattle.value_indices.specs.declared.indices.Indices.TheVariants as I
use Rattle.value_indices.specs.declared.indices.Reading.{Reading, out-Reading}
use Rattle.value_indices.specs.declared.notes.Fact.{Fact}
use Rattle.value_fits.specs.Fitting.{owe_fit}
use Rattle.fitting_laws.proofs.Counted.{Counts, fits_count}
use Rattle.pattern_leaves.specs.Settings.{Around}
use Rattle.call_notes.specs.Ends.{fits_unless, wrong_value}
use Rattle.call_notes.specs.Noted.{node_made, numbers_given, numbers_noted}
use Rattle.expression_forms.specs.Nodes.{form_made, put}
use Rattle.expression_forms.specs.Spots.{Wrote, gives, owed_answer, wrote}
use Rattle.soundness_steps.specs.Noted.{variables_given}
use Rattle.soundness_steps.specs.Steps.{Grows}
use Rattle.soundness_forms.specs.Forms.{at}
use Rattle.soundness_forms.proofs.Giving.{gives_all}
use Rattle.soundness_forms.proofs.Growth.{grows_bind, grows_give, grows_gives, grows_made, grows_note, grows_owe_fit}

pub unless_counts : (around : Around) (nested : Bool) (i : Indices) (r : Reading) → Counts (fits_unless nested around i r)
unless_counts around true i r = λ n. omega arith
unless_counts around false i r = λ n. fits_count around.types deepest i r n

pub put_grows : (k : ℕ) (is : List Indices) (r : Reading) (i : Indices) → Grows (put k is r i)
put_grows k is r i =
    grows_bind (node_made k is (form_made (out-Reading r) r i)) (λ t. numbers_noted k i) (grows_made k is (form_made (out-Reading r) r i)) (λ t.
    grows_bind (note (λ facts. given_note facts (By.Node k) i)) (λ u. numbers_given i) (grows_note (λ facts. given_note facts (By.Node k) i)) (λ u.
    grows_gives (numbers_given i) (variables_given i) (gives_all i)))

answer_grows : (place : Place) (w : Wrote) → Counts w.left → Grows (owed_answer place w)
answer_grows place w h = grows_bind (owe_fit place w.left) (λ t. give w.answer) (grows_owe_fit place w.left h) (λ t. grows_give w.answer)

-- behind a walk that leaves to owe what counts on
pub written_grows : (w : Walk Wrote) (place : Place) → ((facts : List Fact) (n : ℕ) → Counts (w facts n).value.left) → Grows w
    → Grows (bind w (owed_answer place))
unfolding bind
written_grows w place c h = record {
  onward = λ facts n.
      let a = h.onward facts n in
      let b = (answer_grows place (w facts n).value (c facts n)).onward (w facts n).facts (w facts n).next in
      omega arith;
  more = λ facts n. h.more facts n ++ (answer_grows place (w facts n).value (c facts n)).more (w facts n).facts (w facts n).next;
  extends = λ facts n.
      (answer_grows place (w facts n).value (c facts n)).extends (w facts n).facts (w facts n).next
      ∙ ap (λ fs. fs ++ (answer_grows place (w facts n).value (c facts n)).more (w facts n).facts (w facts n).next) (h.extends facts n)
      ∙ append_assoc facts (h.more facts n) ((answer_grows place (w facts n).value (c facts n)).more (w facts n).facts (w facts n).next);
}

module _ (around : Around) (nested : Bool) (k : ℕ) (r : Reading) (i : Indices) where
  abbrev left : Wrote
  left = wrote (fits_unless nested around i r) I.Unit

  pub puts_count : (facts : List Fact) (n : ℕ) → Counts (bind (put k (i ∷ []) r i) (λ t. give left) facts n).value.left
  unfolding bind give
  puts_count facts n = unless_counts around nested i r

pub wrong_count : (at : Place) (facts : List Fact) (n : ℕ) → Counts (bind (wrong_value at) gives facts n).value.left
unfolding bind give
wrong_count at facts n = λ m. omega arith
