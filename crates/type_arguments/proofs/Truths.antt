-- A constraint made of another by what its numbers and its variables become is true where the other is, as long as each of those
-- means what it did.
use Rattle.std.proofs.Common.{◌≡◌, ℕ, List, [], ◌∷◌, map, ap, sym, ◌∙◌, refl, subst, Bool}
use Rattle.std.specs.Prelude.{ℤ, not, Option, Some, option_map}
use Rattle.std.specs.List.{list_all, list_any}
use Rattle.std.specs.Ordering.{int_eq}
use Rattle.sail_types.specs.Before.{before}
use Rattle.sail_types.specs.Belongs.{assigned}
use Rattle.sail_types.specs.Numbers.{Assignment, number, atom_number, term_number, sum_number, compares, form_true, true_in}
use Rattle.sail_types.specs.Readings.{together, truth_at, form_read, read_con}
use Rattle.sail_types.specs.Sums.{and_then, number_at, read}
use Rattle.sail_types.specs.declared.numbers.Atom.{Atom}
use Rattle.sail_types.specs.declared.numbers.Atom.TheOpen as N
use Rattle.sail_types.specs.declared.numbers.Atom.TheOpen.{Atom-F}
use Rattle.sail_types.specs.declared.numbers.Atom.TheFolds.{para-Num}
use Rattle.sail_types.specs.declared.numbers.Index.{Index}
use Rattle.sail_types.specs.declared.numbers.Term.{Term}
use Rattle.sail_types.specs.declared.numbers.Num.{Num}
use Rattle.sail_types.specs.declared.numbers.Con.{Con, Con-F, fold-Con, roll-Con}
use Rattle.sail_types.specs.declared.numbers.Con.TheFolds.{fold-roll-Con, map-Con, ind-Con}
use Rattle.sail_types.specs.declared.numbers.Con.TheOpen as C
use Rattle.sail_types.specs.declared.numbers.Con.TheVariants as V
use Rattle.sail_types.proofs.Substituted.{substituted_number}
use Rattle.type_arguments.proofs.Makings.{map_parts, then_parts, more_parts, nothing_made}

-- a constraint's form, by what its numbers and its variables become
abbrev pub form_made : (Num → Option Num) → (ℕ → Option Con) → Con-F (Option Con) → Option Con
form_made f h (C.Truth b) = Some (V.Truth b)
form_made f h (C.Holds i) = h i
form_made f h (C.Compare how t u) = and_then (f t) (λ m. option_map (V.Compare how m) (f u))
form_made f h (C.OneOf t zs) = option_map (λ m. V.OneOf m zs) (f t)
form_made f h (C.Not c) = option_map V.Not c
form_made f h (C.All cs) = option_map V.All (together cs)
form_made f h (C.Any cs) = option_map V.Any (together cs)

abbrev pub made : (Num → Option Num) → (ℕ → Option Con) → Con → Option Con
made f h = fold-Con (Option Con) (form_made f h)

-- ---- what a constraint's truth is, by its form

pub true_form : (nu : Assignment) (x : Con-F Con) → true_in nu (roll-Con x) ≡ form_true nu (map-Con Con Bool (true_in nu) x)
true_form nu x = fold-roll-Con Bool (form_true nu) x

pub true_truth : (nu : Assignment) (b : Bool) → true_in nu (V.Truth b) ≡ b
true_truth nu b = ap (true_in nu) (sym (V.rolls-Truth b)) ∙ true_form nu (C.Truth b)

pub true_holds : (nu : Assignment) (i : ℕ) → true_in nu (V.Holds i) ≡ nu.bool i
true_holds nu i = ap (true_in nu) (sym (V.rolls-Holds i)) ∙ true_form nu (C.Holds i)

module _ (f : Num → Option Num) (h : ℕ → Option Con) (mu nu : Assignment) (same_number : (t m : Num) → f t ≡ Some m → number nu m ≡ number mu t)
    (same_truth : (i : ℕ) (d : Con) → h i ≡ Some d → true_in nu d ≡ mu.bool i) where
  abbrev Same : Con → Type 0
  Same c = (d : Con) → made f h c ≡ Some d → true_in nu d ≡ true_in mu c

  abbrev Such : Type 0
  Such = (c : Con) × Same c

  abbrev bare : List Such → List Con
  bare ps = map (λ p. p.0) ps

  each_same : (ps : List Such) (ds : List Con) → together (map (made f h) (bare ps)) ≡ Some ds → map (true_in nu) ds ≡ map (true_in mu) (bare ps)
  each_same [] ds e = ap (map (true_in nu)) (sym (nothing_made ds e))
  each_same (p ∷ ps) ds e =
      let k = more_parts (made f h p.0) (together (map (made f h) (bare ps))) ds e in
      ap (map (true_in nu)) (sym k.4) ∙ (λ i. p.1 k.0 k.2 i ∷ each_same ps k.1 k.3 i)

  step : (y : Con-F Such) (d : Con) → form_made f h (map-Con Con (Option Con) (made f h) (map-Con Such Con (λ p. p.0) y)) ≡ Some d
      → true_in nu d ≡ form_true mu (map-Con Con Bool (true_in mu) (map-Con Such Con (λ p. p.0) y))
  step (C.Truth b) d e = let w : V.Truth b ≡ d = cc in ap (true_in nu) (sym w) ∙ true_truth nu b
  step (C.Holds i) d e = same_truth i d e
  step (C.Compare how t u) d e =
      let k = then_parts (f t) (λ m. option_map (V.Compare how m) (f u)) d e in
      let l = map_parts (V.Compare how k.0) (f u) d k.2 in
      ap (true_in nu) (sym l.2) ∙ ap (true_in nu) (sym (V.rolls-Compare how k.0 l.0)) ∙ true_form nu (C.Compare how k.0 l.0)
      ∙ (λ i. compares how (same_number t k.0 k.1 i) (same_number u l.0 l.1 i))
  step (C.OneOf t zs) d e =
      let k = map_parts (λ m. V.OneOf m zs) (f t) d e in
      ap (true_in nu) (sym k.2) ∙ ap (true_in nu) (sym (V.rolls-OneOf k.0 zs)) ∙ true_form nu (C.OneOf k.0 zs)
      ∙ (λ i. list_any (int_eq (same_number t k.0 k.1 i)) zs)
  step (C.Not p) d e =
      let k = map_parts V.Not (made f h p.0) d e in
      ap (true_in nu) (sym k.2) ∙ ap (true_in nu) (sym (V.rolls-Not k.0)) ∙ true_form nu (C.Not k.0) ∙ ap not (p.1 k.0 k.1)
  step (C.All ps) d e =
      let k = map_parts V.All (together (map (made f h) (bare ps))) d e in
      ap (true_in nu) (sym k.2) ∙ ap (true_in nu) (sym (V.rolls-All k.0)) ∙ true_form nu (C.All k.0) ∙ ap (list_all (λ b. b)) (each_same ps k.0 k.1)
  step (C.Any ps) d e =
      let k = map_parts V.Any (together (map (made f h) (bare ps))) d e in
      ap (true_in nu) (sym k.2) ∙ ap (true_in nu) (sym (V.rolls-Any k.0)) ∙ true_form nu (C.Any k.0) ∙ ap (list_any (λ b. b)) (each_same ps k.0 k.1)

  rolled : (y : Con-F Such) → Same (roll-Con (map-Con Such Con (λ p. p.0) y))
  rolled y d e =
      step y d (sym (fold-roll-Con (Option Con) (form_made f h) (map-Con Such Con (λ p. p.0) y)) ∙ e)
      ∙ sym (true_form mu (map-Con Such Con (λ p. p.0) y))

  pub made_true : (c : Con) → Same c
  made_true = ind-Con Same (λ e y is. subst (λ d. Same (roll-Con d)) is (rolled y))

-- ---- arguments

read_form : (is : List Index) (y : Con-F (Option Con)) → form_read is y ≡ form_made (read is) (λ i. Some (truth_at is i)) y
read_form is (C.Truth b) = refl
read_form is (C.Holds i) = refl
read_form is (C.Compare how t u) = refl
read_form is (C.OneOf t zs) = refl
read_form is (C.Not c) = refl
read_form is (C.All cs) = refl
read_form is (C.Any cs) = refl

read_atom : (is : List Index) (nu : Assignment) (y : Atom-F (Atom × ℤ) (Num × ℤ) (Term × ℤ))
    → atom_number (before (number_at is) nu) y ≡ atom_number (assigned nu is) y
read_atom is nu (N.Variable i) = refl
read_atom is nu (N.Power t) = refl

pub read_number : (is : List Index) (nu : Assignment) (n m : Num) → read is n ≡ Some m → number nu m ≡ number (assigned nu is) n
read_number is nu n m h =
    substituted_number (number_at is) n nu m h ∙ (λ i. para-Num ℤ ℤ ℤ (λ y. read_atom is nu y i) sum_number term_number n)

read_variable : (is : List Index) (nu : Assignment) (i : ℕ) (d : Con) → Some (truth_at is i) ≡ Some d → true_in nu d ≡ true_in nu (truth_at is i)
read_variable is nu i d e = ap (true_in nu) (let w : d ≡ truth_at is i = cc in w)

pub read_true : (is : List Index) (nu : Assignment) (c d : Con) → read_con is c ≡ Some d → true_in nu d ≡ true_in (assigned nu is) c
read_true is nu c d e =
    made_true (read is) (λ i. Some (truth_at is i)) (assigned nu is) nu (λ t m h. read_number is nu t m h) (read_variable is nu) c d
    ((λ i. fold-Con (Option Con) (λ y. sym (read_form is y) i) c) ∙ e)
