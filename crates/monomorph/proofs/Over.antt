-- One after another, up to the first refusal, and instances that are counted.
use Rattle.std.proofs.Common.{◌≡◌, ◌∙◌, ap, sym, ℕ, ◌+◌, ◌<◌, ◌≤◌, List, drop, length, get_or, map, arith, length-append}
use Rattle.std.specs.Prelude.{Option, Some, None, Err}
use Rattle.size_notes.proofs.Lists.{rest_at, none_left}
use Rattle.monomorph.specs.declared.error.MonoError.{MonoError}
use Rattle.monomorph.specs.declared.found.Found.{Found}
use Rattle.monomorph.specs.Found.{Answer, and_then, instance_in, instances_in, outcome, over}

-- ---- up to the first refusal

-- what was fine before goes on; what was refused stays
pub then_on : (first : Answer) (next : List Found → Answer) (found : List Found) → outcome None found ≡ first → and_then first next ≡ next found
then_on first next found h = ap (λ (a : Answer). and_then a next) (sym h)

pub then_refused : (first : Answer) (next : List Found → Answer) (e : MonoError) (found : List Found) → outcome (Some e) found ≡ first
    → and_then first next ≡ Err e
then_refused first next e found h = ap (λ (a : Answer). and_then a next) (sym h)

module _ {A : Type 0} (f : A → List Found → Answer) where
  pub over_next : (xs : List A) (k : ℕ) (x : A) (s v : List Found) (all : Answer) → k < length xs → x ≡ get_or xs k x
      → outcome None v ≡ f x s → over f (drop k xs) s ≡ all → over f (drop (k + 1) xs) v ≡ all
  over_next xs k x s v all within read fine h =
      sym (then_on (f x s) (over f (drop (k + 1) xs)) v fine) ∙ (ap (λ l. over f l s) (sym (rest_at xs k x within read)) ∙ h)

  pub over_refused : (xs : List A) (k : ℕ) (x : A) (e : MonoError) (s v u : List Found) (all : Answer) → k < length xs → x ≡ get_or xs k x
      → outcome (Some e) v ≡ f x s → over f (drop k xs) s ≡ all → outcome (Some e) u ≡ all
  over_refused xs k x e s v u all within read refused h =
      sym (then_refused (f x s) (over f (drop (k + 1) xs)) e v refused) ∙ (ap (λ l. over f l s) (sym (rest_at xs k x within read)) ∙ h)

  pub over_end : (xs : List A) (k : ℕ) (s : List Found) (all : Answer) → length xs ≤ k → over f (drop k xs) s ≡ all → outcome None s ≡ all
  over_end xs k s all past h = ap (λ l. over f l s) (sym (none_left xs k past)) ∙ h

-- of what these are read as
module _ {A B : Type 0} (g : B → A) (f : A → List Found → Answer) where
  pub read_next : (xs : List B) (k : ℕ) (x : B) (s v : List Found) (all : Answer) → k < length xs → x ≡ get_or xs k x
      → outcome None v ≡ f (g x) s → over f (map g (drop k xs)) s ≡ all → over f (map g (drop (k + 1) xs)) v ≡ all
  read_next xs k x s v all within read fine h =
      sym (then_on (f (g x) s) (over f (map g (drop (k + 1) xs))) v fine)
      ∙ (ap (λ l. over f (map g l) s) (sym (rest_at xs k x within read)) ∙ h)

  pub read_refused : (xs : List B) (k : ℕ) (x : B) (e : MonoError) (s v u : List Found) (all : Answer) → k < length xs → x ≡ get_or xs k x
      → outcome (Some e) v ≡ f (g x) s → over f (map g (drop k xs)) s ≡ all → outcome (Some e) u ≡ all
  read_refused xs k x e s v u all within read refused h =
      sym (then_refused (f (g x) s) (over f (map g (drop (k + 1) xs))) e v refused)
      ∙ (ap (λ l. over f (map g l) s) (sym (rest_at xs k x within read)) ∙ h)

-- what is fine, or refused, by the answer
pub is_fine : (o : Option MonoError) (v : List Found) (a : Answer) → o ≡ None → outcome o v ≡ a → outcome None v ≡ a
is_fine o v a is h = ap (λ (p : Option MonoError). outcome p v) (sym is) ∙ h

pub is_refused : (o : Option MonoError) (e : MonoError) (v : List Found) (a : Answer) → o ≡ Some e → outcome o v ≡ a → outcome (Some e) v ≡ a
is_refused o e v a is h = ap (λ (p : Option MonoError). outcome p v) (sym is) ∙ h

-- ---- how many instances

pub count_next : (xs : List Found) (k : ℕ) (x : Found) (count one all : ℕ) → k < length xs → x ≡ get_or xs k x → one ≡ length (instance_in x)
    → count + length (instances_in (drop k xs)) ≡ all → count + one + length (instances_in (drop (k + 1) xs)) ≡ all
count_next xs k x count one all within read is h =
    let whole : length (instances_in (drop k xs)) ≡ length (instance_in x) + length (instances_in (drop (k + 1) xs)) =
    ap (λ l. length (instances_in l)) (rest_at xs k x within read) ∙ length-append (instance_in x) (instances_in (drop (k + 1) xs)) in
    omega (arith, is, whole, h)

pub count_end : (xs : List Found) (k count all : ℕ) → length xs ≤ k → count + length (instances_in (drop k xs)) ≡ all → count ≡ all
count_end xs k count all past h =
    let none : length (instances_in (drop k xs)) ≡ 0 = ap (λ l. length (instances_in l)) (none_left xs k past) in
    omega (arith, none, h)
