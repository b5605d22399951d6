-- What is known around an expression is known at later points, and under further names.
use Rattle.std.proofs.Common.{ℕ, Bool, List, [], ◌∷◌, ◌++◌, Option, Some, None}
use Rattle.sail_types.specs.Belongs.{Reading as Closed}
use Rattle.sail_types.specs.Places.{Given}
use Rattle.sail_types.specs.declared.numbers.Index.{Index}
use Rattle.sail_core.specs.Making.{World}
use Rattle.value_indices.specs.declared.indices.Reading.{Reading}
use Rattle.pattern_leaves.specs.Settings.{Scope}
use Rattle.pattern_leaves.specs.declared.names.Bound.{Bound}
use Rattle.pattern_leaves.specs.declared.names.Held.{Held}
use Rattle.pattern_leaves.specs.declared.names.Held.TheVariants as H
use Rattle.checked_meaning.specs.Items.{Item}
use Rattle.value_laws.specs.Known.{Point}
use Rattle.soundness_steps.specs.Points.{Later}
use Rattle.soundness_steps.proofs.Points.{agree_on}
use Rattle.soundness_steps.specs.Works.{Kept, Scene, Setting, Work, is_value, is_var}
use Rattle.soundness_steps.specs.Values.{HeldValue, HeldVar, InScope, IsHeld}
use Rattle.soundness_steps.proofs.Scenes.{naming}
use Rattle.soundness_forms.specs.Worlds.{AnswerIs, AreGiven, Surrounds}
use Rattle.soundness_forms.proofs.Basics.{is_on}

module _ (set : Setting) (work : Work) {n m : ℕ} {f : Point n} {g : Point m} (l : Later f g) where
  value_on : (held : Held) (x : Item) → HeldValue set work f held x → HeldValue set work g held x
  value_on (H.Value i) x h = is_on l h
  value_on (H.Var r) x h = h

  var_on : (held : Held) (t : Closed) → HeldVar set work f held t → HeldVar set work g held t
  var_on (H.Value i) t h = h
  var_on (H.Var r) t h = ((λ k a. h.0 k (agree_on l a)), h.1)

  held_on : (b : Bound) (k : Kept) → IsHeld set work f b k → IsHeld set work g b k
  held_on b (is_value name x) h = (h.0, value_on b.held x h.1)
  held_on b (is_var name t) h = (h.0, var_on b.held t h.1)

  pub scope_on : (bs : List Bound) (ks : List Kept) → InScope set work f bs ks → InScope set work g bs ks
  scope_on [] [] h = tt
  scope_on (b ∷ bs) (k ∷ ks) h = (held_on b k h.0, scope_on bs ks h.1)
  scope_on [] (k ∷ ks) h = absurd h
  scope_on (b ∷ bs) [] h = absurd h

-- names in front of others
pub scope_front : (set : Setting) (work : Work) {n : ℕ} (f : Point n) (bs cs : List Bound) (ks qs : List Kept) → InScope set work f bs ks
    → InScope set work f cs qs → InScope set work f (bs ++ cs) (ks ++ qs)
scope_front set work f [] cs [] qs h k = k
scope_front set work f (b ∷ bs) cs (x ∷ ks) qs h k = (h.0, scope_front set work f bs cs ks qs h.1 k)
scope_front set work f [] cs (x ∷ ks) qs h k = absurd h
scope_front set work f (b ∷ bs) cs [] qs h k = absurd h

module _ (q : Scene) (w : World Item) {n m : ℕ} {f : Point n} {g : Point m} where
  given_on : (is : List Index) (ys : List Given) → Later f g → AreGiven q w f is ys → AreGiven q w g is ys
  given_on [] [] l h = tt
  given_on (i ∷ is) (y ∷ ys) l h = ((λ k a. h.0 k (agree_on l a)), given_on is ys l h.1)
  given_on [] (y ∷ ys) l h = absurd h
  given_on (i ∷ is) [] l h = absurd h

  answer_on : (r : Option Reading) (t : Option Closed) → Later f g → AnswerIs q w f r t → AnswerIs q w g r t
  answer_on None None l h = tt
  answer_on (Some r) (Some t) l h = ((λ k a. h.0 k (agree_on l a)), h.1)
  answer_on None (Some t) l h = absurd h
  answer_on (Some r) None l h = absurd h

  pub surrounds_on : (scope : Scope) → Later f g → Surrounds q w f scope → Surrounds q w g scope
  surrounds_on scope l s = record {
    names = scope_on q.set q.work l scope q.names s.names;
    numbers = given_on q.numbers w.numbers l s.numbers;
    answer = answer_on q.result q.answer l s.answer;
    lets = s.lets;
    hart = s.hart;
    calls = s.calls;
  }

-- under further names
pub surrounds_more : (q : Scene) (w : World Item) {n : ℕ} (f : Point n) (scope found : Scope) (ks : List Kept) → InScope q.set q.work f found ks
    → Surrounds q w f scope → Surrounds (naming ks q) w f (found ++ scope)
surrounds_more q w f scope found ks h s = record {
  names = scope_front q.set q.work f found scope ks q.names h s.names;
  numbers = s.numbers;
  answer = s.answer;
  lets = s.lets;
  hart = s.hart;
  calls = s.calls;
}

-- where a piece may say No
pub surrounds_falling : (q : Scene) (w : World Item) {n : ℕ} (f : Point n) (scope : Scope) (falls : Bool) → Surrounds q w f scope
    → Surrounds (record q { may_fall = falls }) w f scope
surrounds_falling q w f scope falls s = record {
  names = s.names;
  numbers = s.numbers;
  answer = s.answer;
  lets = s.lets;
  hart = s.hart;
  calls = s.calls;
}
