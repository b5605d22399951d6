-- Steps of a walk, and what is known behind them.
use Rattle.std.proofs.Common.{◌≡◌, ℕ, suc, nat_eq, ◌<◌, ℤ, int_le, Bool, true, false, List, [], ◌∷◌, ◌++◌, Option, Some, None}
use Rattle.std.proofs.Common.{if◌then◌else◌, refl, sym, ap, ◌∙◌, arith}
use Rattle.std.proofs.lemmas.Bool.{false_from_ne_true}
use Rattle.std.proofs.lemmas.Bool.Decides.{Decides-eqb}
use Rattle.sail_types.specs.Numbers.{Assignment, Positive, number, true_in}
use Rattle.sail_types.specs.declared.numbers.Con.{Con}
use Rattle.sail_types.specs.declared.numbers.Num.{Num}
use Rattle.value_indices.specs.declared.indices.Naming.{Naming, Naming-F, out-Naming}
use Rattle.value_indices.specs.declared.indices.Naming.TheOpen as G
use Rattle.value_indices.specs.declared.notes.Fact.{Fact}
use Rattle.value_indices.specs.declared.notes.Fact.TheVariants as Y
use Rattle.value_indices.specs.Steps.{Walk, conditions, give, bind, assume, assume_if, fresh, fresh_named}
use Rattle.value_indices.specs.Opening.{between, named_form, fresh_for}
use Rattle.value_laws.specs.Belonging.{Integers, standing}
use Rattle.value_laws.specs.Known.{AllTrue, given_in, Point, Agree, Later, Goes}
use Rattle.value_laws.proofs.Numbers.{at_most_is}

pub same : {n : ℕ} (f : Point n) → Agree f f.integers
same f = record { same = λ i l. refl }

pub agree_on : {n m : ℕ} {f : Point n} {g : Point m} {h : Integers} → Later f g → Agree g h → Agree f h
agree_on a b = record { same = λ i l. a.same i l ∙ b.same i (a.fixed i l) }

pub later_on : {n m k : ℕ} {f : Point n} {g : Point m} {h : Point k} → Later f g → Later g h → Later f h
later_on a b = record {
  onward = let l = a.onward in let k = b.onward in omega arith;
  fixed = λ i l. b.fixed i (a.fixed i l);
  same = λ i l. a.same i l ∙ b.same i (a.fixed i l);
  new = λ i l less. a.new i (b.new i l (let k = a.onward in omega arith)) less;
}

pub no_later : {n : ℕ} (f : Point n) → Later f f
no_later f = record { onward = omega arith; fixed = λ i l. l; same = λ i l. refl; new = λ i l less. l }

-- ---- an integer for a new variable

abbrev put : ℕ → ℤ → Integers → Integers
put n z f i = if nat_eq i n then z else f i

abbrev fixing : ℕ → (ℕ → Bool) → ℕ → Bool
fixing n k i = if nat_eq i n then true else k i

fixed_before : (n i : ℕ) (b : Bool) (k : ℕ → Bool) → nat_eq i n ≡ b → ((j : ℕ) → k j ≡ true → j < n) → (if b then true else k i) ≡ true → i < suc n
fixed_before n i true k e h l = let same : i ≡ n = (Decides-eqb i n).0 e in omega arith
fixed_before n i false k e h l = let less : i < n = h i l in omega arith

abbrev with_integer : {n : ℕ} → Point n → ℤ → Point (suc n)
with_integer {n} f z = record {
  fixed = fixing n f.fixed;
  integers = put n z f.integers;
  before = λ i l. fixed_before n i (nat_eq i n) f.fixed refl f.before l;
}

there_now : (n : ℕ) → nat_eq n n ≡ true
there_now n = (Decides-eqb n n).1 refl

other : (n i : ℕ) → i < n → nat_eq i n ≡ false
other n i l = false_from_ne_true (nat_eq i n) (λ e. let same : i ≡ n = (Decides-eqb i n).0 e in omega arith)

later_with : {n : ℕ} (f : Point n) (z : ℤ) → Later f (with_integer f z)
later_with {n} f z = record {
  onward = omega arith;
  fixed = λ i l. ap (λ b. if b then true else f.fixed i) (other n i (f.before i l)) ∙ l;
  same = λ i l. sym (ap (λ b. if b then z else f.integers i) (other n i (f.before i l)));
  new = λ i l less. sym (ap (λ b. if b then true else f.fixed i) (other n i less)) ∙ l;
}

-- what the new variable stands for then
new_is : {n : ℕ} (f : Point n) (z : ℤ) (g : Integers) → Agree (with_integer f z) g → g n ≡ z
new_is {n} f z g a =
    sym (a.same n (ap (λ b. if b then true else f.fixed n) (there_now n))) ∙ ap (λ b. if b then z else f.integers n) (there_now n)

-- ---- what is in force

more_true : (mu : Assignment) (facts : List Fact) (c : Con) → AllTrue mu (conditions facts) → true_in mu c ≡ true
    → AllTrue mu (conditions (facts ++ Y.Holds c ∷ []))
more_true mu [] c h k = (k, tt)
more_true mu (Y.Holds d ∷ facts) c h k = (h.0, more_true mu facts c h.1 k)
more_true mu (Y.IsGiven v ∷ facts) c h k = more_true mu facts c h k

more_given : (facts : List Fact) (c : Con) → given_in (facts ++ Y.Holds c ∷ []) ≡ given_in facts
more_given [] c = refl
more_given (Y.Holds d ∷ facts) c = more_given facts c
more_given (Y.IsGiven v ∷ facts) c = ap (λ vs. v ∷ vs) (more_given facts c)

-- ---- steps

module _ {past : Positive} where
  pub gives : {n : ℕ} {f : Point n} {facts : List Fact} {A : Type 0} {Holds : Integers → A → Type 0} (x : A)
      → ((g : Integers) → Agree f g → Holds g x) → Goes past n f facts (give x) Holds
  unfolding give
  gives {f} x h = record { goes = record { point = f; later = no_later f; true_there = λ g a t. t; holds = h; given = refl } }

  -- the second walk goes on where the first ended
  pub goes_on : {n : ℕ} {f : Point n} {facts : List Fact} {A B : Type 0} {w : Walk A} {Holds : Integers → A → Type 0}
      {Then : Integers → B → Type 0} (k : A → Walk B) (r : Goes past n f facts w Holds)
      → Goes past (w facts n).next r.goes.point (w facts n).facts (k (w facts n).value) Then → Goes past n f facts (bind w k) Then
  unfolding bind
  goes_on k r s =
      let first = r.goes in
      let last = s.goes in
      record {
        goes = record {
          point = last.point;
          later = later_on first.later last.later;
          true_there = λ g a t. last.true_there g a (first.true_there g (agree_on last.later a) t);
          holds = last.holds;
          given = last.given ∙ first.given;
        };
      }

  pub goes_then : {n : ℕ} {f : Point n} {facts : List Fact} {A B : Type 0} {w : Walk A} {k : A → Walk B} {Holds : Integers → A → Type 0}
      {Then : Integers → B → Type 0} → Goes past n f facts w Holds
      → ((m : ℕ) (g : Point m) (fs : List Fact) (x : A) → Later f g → ((h : Integers) → Agree g h → Holds h x) → Goes past m g fs (k x) Then)
      → Goes past n f facts (bind w k) Then
  goes_then {n} {f} {facts} {w} {k} r next =
      goes_on k r (next (w facts n).next r.goes.point (w facts n).facts (w facts n).value r.goes.later r.goes.holds)

  -- what is known behind a walk, and so what follows
  pub goes_as : {n : ℕ} {f : Point n} {facts : List Fact} {A : Type 0} {w : Walk A} {Holds Then : Integers → A → Type 0} → Goes past n f facts w Holds
      → ((g : Integers) (x : A) → Holds g x → Then g x) → Goes past n f facts w Then
  goes_as {n} {facts} {w} r h = record {
    goes = record {
      point = r.goes.point;
      later = r.goes.later;
      true_there = r.goes.true_there;
      holds = λ g a. h g (w facts n).value (r.goes.holds g a);
      given = r.goes.given;
    };
  }

  pub assumes : {n : ℕ} {f : Point n} {facts : List Fact} (c : Con) → ((g : Integers) → Agree f g → true_in (standing past g) c ≡ true)
      → Goes past n f facts (assume c) (λ g t. Unit {0})
  unfolding assume
  assumes {f} {facts} c h = record {
    goes = record {
      point = f;
      later = no_later f;
      true_there = λ g a t. more_true (standing past g) facts c t (h g a);
      holds = λ g a. tt;
      given = more_given facts c;
    };
  }

  pub assumes_if : {n : ℕ} {f : Point n} {facts : List Fact} (o : Option Con)
      → ((c : Con) → o ≡ Some c → (g : Integers) → Agree f g → true_in (standing past g) c ≡ true) → Goes past n f facts (assume_if o) (λ g t. Unit {0})
  assumes_if None h = gives tt (λ g a. tt)
  assumes_if (Some c) h = assumes c (h c refl)

  pub fresh_integer : {n : ℕ} {f : Point n} {facts : List Fact} (z : ℤ) → Goes past n f facts fresh (λ g v. g v ≡ z)
  unfolding fresh
  fresh_integer {f} z = record {
    goes = record { point = with_integer f z; later = later_with f z; true_there = λ g a t. t; holds = λ g a. new_is f z g a; given = refl };
  }

  pub fresh_called : {n : ℕ} {f : Point n} {facts : List Fact} (name : List ℕ) (z : ℤ) → Goes past n f facts (fresh_named name) (λ g v. g v ≡ z)
  unfolding fresh_named
  fresh_called {f} name z = record {
    goes = record { point = with_integer f z; later = later_with f z; true_there = λ g a t. t; holds = λ g a. new_is f z g a; given = refl };
  }

  named_goes : {n : ℕ} {f : Point n} {facts : List Fact} (x : Naming-F Naming) (z : ℤ) → Goes past n f facts (named_form x) (λ g v. g v ≡ z)
  named_goes (G.Named name) z = fresh_called name z
  named_goes x z = fresh_integer z

  pub fresh_goes : {n : ℕ} {f : Point n} {facts : List Fact} (naming : Naming) (z : ℤ) → Goes past n f facts (fresh_for naming) (λ g v. g v ≡ z)
  unfolding fresh_for
  fresh_goes naming z = named_goes (out-Naming naming) z

  pub between_goes : {n : ℕ} {f : Point n} {facts : List Fact} (low t high : Num)
      → ((g : Integers) → Agree f g → int_le (number (standing past g) low) (number (standing past g) t) ≡ true)
      → ((g : Integers) → Agree f g → int_le (number (standing past g) t) (number (standing past g) high) ≡ true)
      → Goes past n f facts (between low t high) (λ g x. Unit {0})
  unfolding between
  between_goes low t high h k =
      goes_then (assumes _ (λ g a. at_most_is (standing past g) low t ∙ h g a)) (λ m g fs x a q.
      assumes _ (λ l b. at_most_is (standing past l) t high ∙ k l (agree_on a b)))
