-- Names in scope: what the walk finds is what the run finds.
use Rattle.std.proofs.Common.{◌≡◌, ℕ, Bool, true, false, List, [], ◌∷◌, Option, Some, None, if◌then◌else◌, refl, sym, ap, ◌∙◌}
use Rattle.std.specs.Str.{bytes_eq}
use Rattle.sail_types.specs.Belongs.{Reading as Closed, belongs}
use Rattle.sail_core.specs.Run as R
use Rattle.sail_core.specs.Run.{Local}
use Rattle.pattern_leaves.specs.Settings.{held_in}
use Rattle.pattern_leaves.specs.declared.names.Bound.{Bound}
use Rattle.pattern_leaves.specs.declared.names.Held.{Held}
use Rattle.pattern_leaves.specs.declared.names.Held.TheVariants as H
use Rattle.checked_meaning.specs.Items.{Item}
use Rattle.value_laws.specs.Known.{Point}
use Rattle.soundness_steps.specs.Works.{Work, Setting, Kept, is_value, is_var}
use Rattle.soundness_steps.specs.States.{AllKept}
use Rattle.soundness_steps.specs.Values.{Is, HeldValue, HeldVar, InScope}

module _ (set : Setting) (work : Work) {n : ℕ} (f : Point n) where
  -- what is found in a scope, and among the names of the run
  abbrev pub Found : Option Held → Option Item → Type 0
  Found None o = Unit {0}
  Found (Some (H.Value i)) o = (x : Item) × (o ≡ Some x) × Is set work f i x
  Found (Some (H.Var r)) o =
      (x : Item) × (t : Closed) × (o ≡ Some x) × (belongs set.around.types x.val t ≡ true) × HeldVar set work f (H.Var r) t

  value_found : (held : Held) (x y : Item) → HeldValue set work f held x → y ≡ x → Found (Some held) (Some y)
  value_found (H.Value i) x y h e = (x, ap Some e, h)
  value_found (H.Var r) x y h e = absurd h

  var_found : (held : Held) (t : Closed) (y : Item) → HeldVar set work f held t → belongs set.around.types y.val t ≡ true → Found (Some held) (Some y)
  var_found (H.Value i) t y h e = absurd h
  var_found (H.Var r) t y h e = (y, t, refl, e, h)

  chosen : (a b : Bool) → a ≡ b → (h k : Option Held) (x y : Option Item) → Found h x → Found k y → Found (if a then h else k) (if b then x else y)
  chosen true true e h k x y p q = p
  chosen false false e h k x y p q = q
  chosen true false e h k x y p q = absurd (cc)
  chosen false true e h k x y p q = absurd (cc)

  pub finds : (name : List ℕ) (bs : List Bound) (ks : List Kept) (ls : List (Local Item)) → InScope set work f bs ks → AllKept set.around.types ks ls
      → Found (held_in name bs) (R.held_in name ls)
  finds name [] [] [] h k = tt
  finds name (b ∷ bs) (is_value m x ∷ ks) (l ∷ ls) h k =
      chosen (bytes_eq b.name name) (bytes_eq l.name name) (ap (λ c. bytes_eq c name) (sym (k.0.0 ∙ h.0.0))) (Some b.held) (held_in name bs) (Some l.held)
      (R.held_in name ls) (value_found b.held x l.held h.0.1 k.0.1) (finds name bs ks ls h.1 k.1)
  finds name (b ∷ bs) (is_var m t ∷ ks) (l ∷ ls) h k =
      chosen (bytes_eq b.name name) (bytes_eq l.name name) (ap (λ c. bytes_eq c name) (sym (k.0.0 ∙ h.0.0))) (Some b.held) (held_in name bs) (Some l.held)
      (R.held_in name ls) (var_found b.held t l.held h.0.1 k.0.1) (finds name bs ks ls h.1 k.1)
  finds name [] (x ∷ ks) ls h k = absurd h
  finds name (b ∷ bs) [] ls h k = absurd h
  finds name [] [] (l ∷ ls) h k = absurd k
  finds name (b ∷ bs) (is_value m x ∷ ks) [] h k = absurd k
  finds name (b ∷ bs) (is_var m t ∷ ks) [] h k = absurd k
