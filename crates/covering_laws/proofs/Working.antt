-- The instance for which a function is at work is the one that a run enters.
use Rattle.std.proofs.Common.{◌≡◌, ◌∙◌, ap, sym, refl, subst, ℕ, zero, suc, nat_eq, Bool, true, false, ◌&&◌, inl, inr, List, [], ◌∷◌, slice_get, Option, Some}
use Rattle.std.proofs.Common.{None}
use Rattle.std.proofs.Common.{if◌then◌else◌}
use Rattle.std.specs.Bool.{beq}
use Rattle.std.specs.Prelude.{is_some}
use Rattle.std.proofs.lemmas.Bool.{and_parts}
use Rattle.std.proofs.lemmas.Bool.Decides.{Decides-eqb, Decides-int_eq}
use Rattle.sail_types.specs.Places.{Given, an_int, a_bool, first, only}
use Rattle.sail_types.specs.Sums.{and_then}
use Rattle.sail_core.specs.Numbers.{Givens, all_agree, same_given}
use Rattle.value_laws.proofs.Basics.{no, two}
use Rattle.size_values.specs.Sized.{all_eq}
use Rattle.split_laws.specs.Counted.{IsIn}
use Rattle.exact_sizes.proofs.Known.{none}
use Rattle.sized_nodes.specs.declared.trees.SizedInstance.{SizedInstance}
use Rattle.sized_nodes.specs.declared.trees.SizedCore.{SizedCore}
use Rattle.sized_meanings.specs.Sized.{entered, first_for, if_for, is_for, numbers_of}
use Rattle.soundness_steps.specs.Works.{Work}
use Rattle.covering_laws.specs.Covered.{at_first, at_place, at_work, first_of, function_covered, if_at, is_at, same_numbers, same_option}

-- ---- numbers that are compared as the same

truth_same : (b c : Bool) → beq b c ≡ true → b ≡ c
truth_same true true h = refl
truth_same false false h = refl
truth_same true false h = no h
truth_same false true h = no h

given_same : (x y : Given) → same_given x y ≡ true → x ≡ y
given_same (an_int x) (an_int y) h = ap an_int ((Decides-int_eq x y).0 h)
given_same (an_int x) (a_bool c) h = no h
given_same (a_bool b) (an_int y) h = no h
given_same (a_bool b) (a_bool c) h = ap a_bool (truth_same b c h)

option_same : (o p : Option Given) → same_option o p ≡ true → o ≡ p
option_same None None h = refl
option_same (Some x) (Some y) h = ap (λ (g : Given). Some g) (given_same x y h)
option_same (Some x) None h = no h
option_same None (Some y) h = no h

pub numbers_are : (xs ys : List (Option Given)) → same_numbers xs ys ≡ true → xs ≡ ys
numbers_are [] [] h = refl
numbers_are [] (y ∷ ys) h = no h
numbers_are (x ∷ xs) [] h = no h
numbers_are (x ∷ xs) (y ∷ ys) h =
    let p = and_parts (same_option x y) (same_numbers xs ys) h in
    let one = option_same x y p.0 in
    let rest = numbers_are xs ys p.1 in
    λ j. one j ∷ rest j

truth_itself : (b : Bool) → beq b b ≡ true
truth_itself true = refl
truth_itself false = refl

option_itself : (o : Option Given) → same_option o o ≡ true
option_itself None = refl
option_itself (Some (an_int x)) = (Decides-int_eq x x).1 refl
option_itself (Some (a_bool b)) = truth_itself b

pub numbers_themselves : (xs : List (Option Given)) → same_numbers xs xs ≡ true
numbers_themselves [] = refl
numbers_themselves (x ∷ xs) = two (same_option x x) (same_numbers xs xs) (option_itself x) (numbers_themselves xs)

-- ---- where a function is at work

only_is : {A : Type 0} (b : Bool) (x y : A) → only b x ≡ Some y → (b ≡ true) × (x ≡ y)
only_is true x y h = (refl, cc h)
only_is false x y h = none h

pub there : {A : Type 0} (xs : List A) (i : ℕ) (x : A) → slice_get xs i ≡ Some x → IsIn x xs
there [] i x h = none h
there (y ∷ xs) zero x h = inl (sym (cc h))
there (y ∷ xs) (suc i) x h = inr (there xs i x h)

first_or_more : (t s : SizedInstance) (ss : List SizedInstance) (b : Bool) (o : Option SizedInstance) → (o ≡ Some s → IsIn s ss)
    → (if b then Some t else o) ≡ Some s → IsIn s (t ∷ ss)
first_or_more t s ss true o more k = inl (sym (cc k))
first_or_more t s ss false o more k = inr (more k)

first_there : (f : ℕ) (ss : List SizedInstance) (s : SizedInstance) → first_of f ss ≡ Some s → IsIn s ss
first_there f [] s h = none h
first_there f (t ∷ ss) s h = first_or_more t s ss (nat_eq t.instance.function f) (first_of f ss) (λ k. first_there f ss s k) h

entered_or_more : (t s : SizedInstance) (b : Bool) (o p : Option SizedInstance) (nu : Givens) → (o ≡ Some s → p ≡ Some s)
    → (if b then Some t else o) ≡ Some s → all_agree (numbers_of s.instance) nu ≡ true
    → (if b && all_agree (numbers_of t.instance) nu then Some t else p) ≡ Some s
entered_or_more t s true o p nu more k a =
    let same : t ≡ s = cc k in
    ap (λ (c : Bool). if c then Some t else p) (ap (λ (z : SizedInstance). all_agree (numbers_of z.instance) nu) same ∙ a)
    ∙ ap (λ (z : SizedInstance). Some z) same
entered_or_more t s false o p nu more k a = more k

-- the first of a function is the first that is for these numbers, where it is for them
first_entered : (f : ℕ) (nu : Givens) (ss : List SizedInstance) (s : SizedInstance) → first_of f ss ≡ Some s → all_agree (numbers_of s.instance) nu ≡ true
    → first_for f nu ss ≡ Some s
first_entered f nu [] s h a = none h
first_entered f nu (t ∷ ss) s h a =
    entered_or_more t s (nat_eq t.instance.function f) (first_of f ss) (first_for f nu ss) nu (λ k. first_entered f nu ss s k a) h a

-- what is known of the instance at work
pub record AtWork (instances : List SizedInstance) (x : Work) (s : SizedInstance) : Type 0 where
  pub is : is_at x s ≡ true
  pub is_in : IsIn s instances
  pub entered_there : (nu : Givens) → all_agree x.instance.numbers nu ≡ true → entered instances x.function x.instance.place nu ≡ Some s

module _ (x : Work) (s : SizedInstance) (is : is_at x s ≡ true) where
  abbrev parts : (nat_eq s.instance.function x.function ≡ true)
      × ((same_numbers (numbers_of s.instance) x.instance.numbers && all_eq x.own s.instance.types) ≡ true)
  parts = and_parts (nat_eq s.instance.function x.function) (same_numbers (numbers_of s.instance) x.instance.numbers && all_eq x.own s.instance.types) is

  abbrev others : (same_numbers (numbers_of s.instance) x.instance.numbers ≡ true) × (all_eq x.own s.instance.types ≡ true)
  others = and_parts (same_numbers (numbers_of s.instance) x.instance.numbers) (all_eq x.own s.instance.types) parts.1

  pub function_is : s.instance.function ≡ x.function
  function_is = (Decides-eqb s.instance.function x.function).0 parts.0

  pub awaited_are : numbers_of s.instance ≡ x.instance.numbers
  awaited_are = numbers_are (numbers_of s.instance) x.instance.numbers others.0

  pub types_are : all_eq x.own s.instance.types ≡ true
  types_are = others.1

  agree_there : (nu : Givens) → all_agree x.instance.numbers nu ≡ true → all_agree (numbers_of s.instance) nu ≡ true
  agree_there nu a = ap (λ ns. all_agree ns nu) awaited_are ∙ a

  for_these : (nu : Givens) → all_agree x.instance.numbers nu ≡ true → is_for x.function nu s ≡ true
  for_these nu a = two (nat_eq s.instance.function x.function) (all_agree (numbers_of s.instance) nu) parts.0 (agree_there nu a)

module _ (instances : List SizedInstance) (x : Work) (s : SizedInstance) where
  by_place : (b : Bool) (t : SizedInstance) → slice_get instances x.instance.place ≡ Some t → nat_eq t.instance.function x.function ≡ b
      → (if b then if_at x t else at_first x instances) ≡ Some s → AtWork instances x s
  by_place true t e f h =
      let k = only_is (is_at x t) t s h in
      let is : is_at x s ≡ true = subst (λ (z : SizedInstance). is_at x z ≡ true) k.1 k.0 in
      record {
        is = is;
        is_in = there instances x.instance.place s (e ∙ ap (λ (z : SizedInstance). Some z) k.1);
        entered_there = λ nu a. ap (λ (o : Option SizedInstance). first (if_for x.function nu o) (first_for x.function nu instances))
            (e ∙ ap (λ (z : SizedInstance). Some z) k.1)
            ∙ ap (λ (c : Bool). first (only c s) (first_for x.function nu instances)) (for_these x s is nu a);
      }
  by_place false t e f h = by (nat_eq x.instance.place 0) (first_of x.function instances) refl h
    where
      by : (c : Bool) (o : Option SizedInstance) → first_of x.function instances ≡ o → (if c then and_then o (if_at x) else None) ≡ Some s
          → AtWork instances x s
      by true (Some u) q k =
          let l = only_is (is_at x u) u s k in
          let is : is_at x s ≡ true = subst (λ (z : SizedInstance). is_at x z ≡ true) l.1 l.0 in
          let found : first_of x.function instances ≡ Some s = q ∙ ap (λ (z : SizedInstance). Some z) l.1 in
          record {
            is = is;
            is_in = first_there x.function instances s found;
            entered_there = λ nu a. ap (λ (p : Option SizedInstance). first (if_for x.function nu p) (first_for x.function nu instances)) e
                ∙ ap (λ (c : Bool). first (only (c && all_agree (numbers_of t.instance) nu) t) (first_for x.function nu instances)) f
                ∙ first_entered x.function nu instances s found (agree_there x s is nu a);
          }
      by true None q k = none k
      by false o q k = none k

  pub working : at_work instances x ≡ Some s → AtWork instances x s
  working h = by (slice_get instances x.instance.place) refl h
    where
      by : (o : Option SizedInstance) → slice_get instances x.instance.place ≡ o → at_place x o instances ≡ Some s → AtWork instances x s
      by None e k = none k
      by (Some t) e k = by_place (nat_eq t.instance.function x.function) t e refl k

-- one that stands at a place is covered
pub covered_at : (c : SizedCore) (p : ℕ) (s : SizedInstance) (y : Work) → slice_get c.instances p ≡ Some s → s.instance.function ≡ y.function
    → y.instance ≡ record { place = p; numbers = numbers_of s.instance } → all_eq y.own s.instance.types ≡ true → function_covered c y ≡ true
covered_at c p s y e f i a =
    let same : is_at y s ≡ true = two (nat_eq s.instance.function y.function)
    (same_numbers (numbers_of s.instance) y.instance.numbers && all_eq y.own s.instance.types)
    ((Decides-eqb s.instance.function y.function).1 f)
    (two (same_numbers (numbers_of s.instance) y.instance.numbers) (all_eq y.own s.instance.types)
    (ap (λ z. same_numbers (numbers_of s.instance) z.numbers) i ∙ numbers_themselves (numbers_of s.instance)) a) in
    let at : slice_get c.instances y.instance.place ≡ Some s = ap (λ z. slice_get c.instances z.place) i ∙ e in
    ap (λ (o : Option SizedInstance). is_some (at_place y o c.instances)) at
    ∙ ap (λ (b : Bool). is_some (if b then if_at y s else at_first y c.instances)) ((Decides-eqb s.instance.function y.function).1 f)
    ∙ ap (λ (b : Bool). is_some (only b s)) same
