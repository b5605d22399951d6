-- Types in which each type variable is used as what it stands for, a number or a truth, under each binder too: they stay so one binder further in
-- and under arguments in the place of their variables.
use Rattle.std.proofs.Common.{◌≡◌, ℕ, zero, suc, ◌+◌, List, [], ◌∷◌, map, ap, sym, ◌∙◌, refl, subst, Bool, true, false, ◌&&◌, cond, arith}
use Rattle.std.specs.Prelude.{pos, nat_lt, slice_get, Option, Some, None, option_map}
use Rattle.std.specs.List.{list_all}
use Rattle.std.proofs.Math.Numerals.{add-one}
use Rattle.std.proofs.lemmas.Bool.{and_parts, le-ltb}
use Rattle.std.proofs.lemmas.Bool.Decides.{nat_tests}
use Rattle.sail_types.specs.Places.{an_int}
use Rattle.sail_types.specs.Readings.{form_read, read_con, read_index, read_indices, together, truth_at}
use Rattle.sail_types.specs.Sums.{and_then, num, read, term, variable}
use Rattle.sail_types.specs.declared.numbers.Atom.{Atom, roll-Atom}
use Rattle.sail_types.specs.declared.numbers.Atom.TheFolds.{fold-Atom, fold-Term, fold-roll-Atom, fold-roll-Num, fold-roll-Term, ind-Num}
use Rattle.sail_types.specs.declared.numbers.Atom.TheFolds.{map-Atom, map-Num, map-Term}
use Rattle.sail_types.specs.declared.numbers.Atom.TheOpen as N
use Rattle.sail_types.specs.declared.numbers.Atom.TheOpen.{Atom-F, Num-F, Term-F}
use Rattle.sail_types.specs.declared.numbers.Atom.TheVariants as A
use Rattle.sail_types.specs.declared.numbers.Con.{Con, Con-F, fold-Con, roll-Con}
use Rattle.sail_types.specs.declared.numbers.Con.TheFolds.{fold-roll-Con, map-Con, ind-Con}
use Rattle.sail_types.specs.declared.numbers.Con.TheOpen as C
use Rattle.sail_types.specs.declared.numbers.Con.TheVariants as V
use Rattle.sail_types.specs.declared.numbers.Index.{Index}
use Rattle.sail_types.specs.declared.numbers.Index.TheVariants as I
use Rattle.sail_types.specs.declared.numbers.Num.{Num, roll-Num}
use Rattle.sail_types.specs.declared.numbers.Term.{Term, roll-Term}
use Rattle.sail_types.specs.declared.types.Typ.{Typ, Typ-F, fold-Typ, roll-Typ}
use Rattle.sail_types.specs.declared.types.Typ.TheFolds.{fold-roll-Typ, map-Typ, ind-Typ}
use Rattle.sail_types.specs.declared.types.Typ.TheOpen as T
use Rattle.sail_types.specs.declared.types.Typ.TheVariants as W
use Rattle.type_arguments.specs.Applied.{AtArguments, applied_typ, form_applied, inside_indices, inside_types, typ_at}
use Rattle.type_arguments.specs.Moved.{AtDepth, atom_form_moved, con_form_moved, moved, moved_atom, moved_con, moved_index, moved_indices, moved_num}
use Rattle.type_arguments.specs.Moved.{moved_term, moved_typ, moved_types, next, num_form_moved, term_form_moved, typ_form_moved}
use Rattle.type_arguments.specs.laws.Outside.{from_inside}
use Rattle.type_arguments.proofs.Makings.{map_parts, more_parts, nothing_made, then_parts}
use Rattle.type_arguments.proofs.Truths.{form_made, made as con_made}
use Rattle.sail_core.specs.Numbers.{Givens, given_bool, given_int}
use Rattle.shape_joins.proofs.JoinsLeast.{some_same}
use Rattle.shape_joins.proofs.Order.{two}
use Rattle.shape_meanings.specs.Whole.{all_of}
use Rattle.shape_progress.specs.Conditions.{atom_given, con_given, given_in, is_there, truth_given}
use Rattle.text_progress.specs.GivenTypes.{indices_given}
use Rattle.text_progress.proofs.GivenNumbers.{atom_alone, given_num, given_term, power_atom, read_given}

-- ---- types and their arguments

-- what a binder binds is a number
abbrev pub inside : Givens → Givens
inside nu = an_int (pos 0) ∷ nu

abbrev pub Kinded : Type 0
Kinded = Givens → Bool

abbrev pub index_kinded : Givens → Index → Bool
index_kinded nu (I.Number n) = given_in nu n
index_kinded nu (I.Truth c) = truth_given nu c

abbrev pub indices_kinded : Givens → List Index → Bool
indices_kinded nu is = all_of (map (index_kinded nu) is)

abbrev pub form_kinded : Typ-F Kinded → Kinded
form_kinded (T.Truth c) nu = truth_given nu c
form_kinded (T.Bits n) nu = given_in nu n
form_kinded (T.Int n) nu = given_in nu n
form_kinded (T.Range low high) nu = given_in nu low && given_in nu high
form_kinded (T.List f) nu = f nu
form_kinded (T.Vector n f) nu = given_in nu n && f nu
form_kinded (T.Tuple fs) nu = all_of (map (λ f. f nu) fs)
form_kinded (T.Named i is fs) nu = indices_kinded nu is && all_of (map (λ f. f nu) fs)
form_kinded (T.Exists name c f) nu = truth_given (inside nu) c && f (inside nu)
form_kinded form nu = true

abbrev pub typ_kinded : Givens → Typ → Bool
typ_kinded nu t = fold-Typ Kinded form_kinded t nu

abbrev pub all_kinded : Givens → List Typ → Bool
all_kinded nu ts = all_of (map (typ_kinded nu) ts)

abbrev pub opened : Givens → Typ-F Typ → Bool
opened nu x = form_kinded (map-Typ Typ Kinded (λ t. fold-Typ Kinded form_kinded t) x) nu

kinded_at : (nu : Givens) (x : Typ-F Typ) → typ_kinded nu (roll-Typ x) ≡ opened nu x
kinded_at nu x = ap (λ (f : Kinded). f nu) (fold-roll-Typ Kinded form_kinded x)

-- a type of this form
pub made : (nu : Givens) (x : Typ-F Typ) (t : Typ) → roll-Typ x ≡ t → opened nu x ≡ true → typ_kinded nu t ≡ true
made nu x t is h = subst (λ u. typ_kinded nu u ≡ true) is (kinded_at nu x ∙ h)

-- parts of a tuple, asked each by itself
pub tuple_parts : (nu : Givens) (ts : List Typ) → all_kinded nu ts ≡ true → all_of (map (λ f. f nu) (map (λ t. fold-Typ Kinded form_kinded t) ts)) ≡ true
tuple_parts nu [] h = refl
tuple_parts nu (t ∷ ts) h =
    let own = and_parts (typ_kinded nu t) (all_kinded nu ts) h in
    two (typ_kinded nu t) (all_of (map (λ f. f nu) (map (λ u. fold-Typ Kinded form_kinded u) ts))) own.0 (tuple_parts nu ts own.1)

-- its truths aside, an argument is a number over what variables stand for
pub numbers_alone : (nu : Givens) (is : List Index) → indices_kinded nu is ≡ true → indices_given nu is ≡ true
numbers_alone nu [] h = refl
numbers_alone nu (I.Number n ∷ is) h =
    let k = and_parts (given_in nu n) (indices_kinded nu is) h in
    two (given_in nu n) (indices_given nu is) k.0 (numbers_alone nu is k.1)
numbers_alone nu (I.Truth c ∷ is) h = numbers_alone nu is (and_parts (truth_given nu c) (indices_kinded nu is) h).1

-- ---- one binder further in

-- each variable stands for what it did
abbrev pub Moves : ℕ → Givens → Givens → Type 0
Moves depth mu nu = (i : ℕ) → slice_get nu (from_inside depth i) ≡ slice_get mu i

next_is : (b : Bool) (i j : ℕ) → cond b (Some (i + 1)) None ≡ Some j → j ≡ i + 1
next_is true i j h = cc
next_is false i j h = absurd (cc)

by_test : (b : Bool) (i j : ℕ) → cond b (Some i) (next i) ≡ Some j → j ≡ cond b i (i + 1)
by_test true i j h = cc
by_test false i j h = next_is (nat_lt i 4294967295) i j h

moved_is : (depth i j : ℕ) → moved depth i ≡ Some j → j ≡ from_inside depth i
moved_is depth i j h = by_test (nat_lt i depth) i j h

pub none_below : (i : ℕ) → nat_lt i 0 ≡ false
none_below i = le-ltb i 0 (omega arith)

pub moves_out : (nu : Givens) → Moves 0 nu (inside nu)
moves_out nu i = ap (slice_get (inside nu)) (ap (λ b. cond b i (i + 1)) (none_below i) ∙ add-one i)

first_below : (depth : ℕ) → nat_lt 0 (suc depth) ≡ true
first_below depth = grind (arith, nat_tests)

pub same_test : (i depth : ℕ) → nat_lt (suc i) (suc depth) ≡ nat_lt i depth
same_test i depth = grind (arith, nat_tests)

one_more : (b : Bool) (i : ℕ) → cond b (suc i) (suc i + 1) ≡ suc (cond b i (i + 1))
one_more true i = refl
one_more false i = omega arith

moves_further : (depth : ℕ) (mu nu : Givens) → Moves depth mu nu → Moves (suc depth) (inside mu) (inside nu)
moves_further depth mu nu moves zero = ap (λ b. slice_get (inside nu) (cond b 0 (0 + 1))) (first_below depth)
moves_further depth mu nu moves (suc i) =
    ap (slice_get (inside nu)) (ap (λ b. cond b (suc i) (suc i + 1)) (same_test i depth) ∙ one_more (nat_lt i depth) i) ∙ moves i

moves_inside : (depth d : ℕ) (mu nu : Givens) → Moves depth mu nu → next depth ≡ Some d → Moves d (inside mu) (inside nu)
moves_inside depth d mu nu moves e =
    subst (λ n. Moves n (inside mu) (inside nu)) (sym (next_is (nat_lt depth 4294967295) depth d e ∙ add-one depth)) (moves_further depth mu nu moves)

-- ---- numbers

abbrev all_terms : Num-F Bool Bool Bool → Bool
all_terms n = list_all (λ b. b) n.terms

abbrev own_atom : Term-F Bool Bool Bool → Bool
own_atom t = t.atom

abbrev atom_is : Givens → Atom → Bool
atom_is nu = fold-Atom Bool Bool Bool (atom_given nu) all_terms own_atom

abbrev term_is : Givens → Term → Bool
term_is nu = fold-Term Bool Bool Bool (atom_given nu) all_terms own_atom

abbrev terms_are : Givens → List Term → Bool
terms_are nu ts = list_all (λ b. b) (map (term_is nu) ts)

variable_is : (nu : Givens) (i : ℕ) → atom_is nu (A.Variable i) ≡ is_there (given_int (slice_get nu i))
variable_is nu i = ap (atom_is nu) (sym (A.rolls-Variable i)) ∙ fold-roll-Atom Bool Bool Bool (atom_given nu) all_terms own_atom (N.Variable i)

-- a variable that stands for a number
pub variable_given : (nu : Givens) (i : ℕ) → is_there (given_int (slice_get nu i)) ≡ true → given_in nu (variable i) ≡ true
variable_given nu i h = atom_alone nu (A.Variable i) (variable_is nu i ∙ h)

module _ (depth : ℕ) (mu nu : Givens) (moves : Moves depth mu nu) where
  abbrev KeepsA : Atom → Type 0
  KeepsA a = (b : Atom) → moved_atom depth a ≡ Some b → atom_is mu a ≡ true → atom_is nu b ≡ true

  abbrev KeepsN : Num → Type 0
  KeepsN n = (m : Num) → moved_num depth n ≡ Some m → given_in mu n ≡ true → given_in nu m ≡ true

  abbrev KeepsT : Term → Type 0
  KeepsT t = (s : Term) → moved_term depth t ≡ Some s → term_is mu t ≡ true → term_is nu s ≡ true

  abbrev SuchA : Type 0
  SuchA = (a : Atom) × KeepsA a

  abbrev SuchN : Type 0
  SuchN = (n : Num) × KeepsN n

  abbrev SuchT : Type 0
  SuchT = (t : Term) × KeepsT t

  atom_step : (y : Atom-F SuchA SuchN SuchT) → KeepsA (roll-Atom (map-Atom SuchA SuchN SuchT Atom Num Term (λ p. p.0) (λ p. p.0) (λ p. p.0) y))
  atom_step (N.Variable i) b h k =
      let m = map_parts A.Variable (moved depth i) b
      (sym (fold-roll-Atom (Option Atom) (Option Num) (Option Term) (atom_form_moved depth) num_form_moved term_form_moved (N.Variable i)) ∙ h) in
      let same : slice_get nu m.0 ≡ slice_get mu i = ap (slice_get nu) (moved_is depth i m.0 m.1) ∙ moves i in
      subst (λ x. atom_is nu x ≡ true) m.2
      (variable_is nu m.0 ∙ ap (λ g. is_there (given_int g)) same
      ∙ sym (fold-roll-Atom Bool Bool Bool (atom_given mu) all_terms own_atom (N.Variable i)) ∙ k)
  atom_step (N.Power t) b h k =
      let m = map_parts A.Power (moved_num depth t.0) b
      (sym (fold-roll-Atom (Option Atom) (Option Num) (Option Term) (atom_form_moved depth) num_form_moved term_form_moved (N.Power t.0)) ∙ h) in
      subst (λ x. atom_is nu x ≡ true) m.2
      (power_atom nu m.0 (t.1 m.0 m.1 (sym (fold-roll-Atom Bool Bool Bool (atom_given mu) all_terms own_atom (N.Power t.0)) ∙ k)))

  each_kept : (ys : List SuchT) (ss : List Term) → together (map (moved_term depth) (map (λ p. p.0) ys)) ≡ Some ss
      → terms_are mu (map (λ p. p.0) ys) ≡ true → terms_are nu ss ≡ true
  each_kept [] ss h k = subst (λ xs. terms_are nu xs ≡ true) (nothing_made ss h) refl
  each_kept (y ∷ ys) ss h k =
      let ts : List Term = map (λ p. p.0) ys in
      let m = more_parts (moved_term depth y.0) (together (map (moved_term depth) ts)) ss h in
      let own = and_parts (term_is mu y.0) (terms_are mu ts) k in
      subst (λ xs. terms_are nu xs ≡ true) m.4
      (two (term_is nu m.0) (terms_are nu m.1) (y.1 m.0 m.2 own.0) (each_kept ys m.1 m.3 own.1))

  num_step : (y : Num-F SuchA SuchN SuchT) → KeepsN (roll-Num (map-Num SuchA SuchN SuchT Atom Num Term (λ p. p.0) (λ p. p.0) (λ p. p.0) y))
  num_step y m h k =
      let ts : List Term = map (λ p. p.0) y.terms in
      let f : Num-F Atom Num Term = record { terms = ts; constant = y.constant } in
      let p = map_parts (λ ss. num ss y.constant) (together (map (moved_term depth) ts)) m
      (sym (fold-roll-Num (Option Atom) (Option Num) (Option Term) (atom_form_moved depth) num_form_moved term_form_moved f) ∙ h) in
      subst (λ x. given_in nu x ≡ true) p.2
      (given_num nu p.0 y.constant
      ∙ each_kept y.terms p.0 p.1 (sym (fold-roll-Num Bool Bool Bool (atom_given mu) all_terms own_atom f) ∙ k))

  term_step : (y : Term-F SuchA SuchN SuchT) → KeepsT (roll-Term (map-Term SuchA SuchN SuchT Atom Num Term (λ p. p.0) (λ p. p.0) (λ p. p.0) y))
  term_step y s h k =
      let f : Term-F Atom Num Term = record { coefficient = y.coefficient; atom = y.atom.0 } in
      let p = map_parts (term y.coefficient) (moved_atom depth y.atom.0) s
      (sym (fold-roll-Term (Option Atom) (Option Num) (Option Term) (atom_form_moved depth) num_form_moved term_form_moved f) ∙ h) in
      subst (λ x. term_is nu x ≡ true) p.2
      (given_term nu y.coefficient p.0 ∙ y.atom.1 p.0 p.1 (sym (fold-roll-Term Bool Bool Bool (atom_given mu) all_terms own_atom f) ∙ k))

  moved_given : (n : Num) → KeepsN n
  moved_given = ind-Num KeepsA KeepsN KeepsT (λ e y is. subst (λ d. KeepsA (roll-Atom d)) is (atom_step y))
      (λ e y is. subst (λ d. KeepsN (roll-Num d)) is (num_step y)) (λ e y is. subst (λ d. KeepsT (roll-Term d)) is (term_step y))

-- ---- constraints

-- what is asked where it is needed
abbrev If : Bool → Type 0 → Type 0
If true P = P
If false P = Unit {0}

split : (b x y : Bool) → If b ((x && y) ≡ true) → If b (x ≡ true) × If b (y ≡ true)
split true x y h = and_parts x y h
split false x y h = (tt, tt)

module _ (nu : Givens) where
  pub con_at : (x : Con-F Con) (d : Con) → roll-Con x ≡ d → con_given nu (map-Con Con Bool (truth_given nu) x) ≡ true → truth_given nu d ≡ true
  con_at x d is h = subst (λ u. truth_given nu u ≡ true) is (fold-roll-Con Bool (con_given nu) x ∙ h)

  pub truth_is : (b : Bool) → truth_given nu (V.Truth b) ≡ true
  truth_is b = con_at (C.Truth b) (V.Truth b) (V.rolls-Truth b) refl

  pub holds_is : (i : ℕ) → is_there (given_bool (slice_get nu i)) ≡ true → truth_given nu (V.Holds i) ≡ true
  holds_is i h = con_at (C.Holds i) (V.Holds i) (V.rolls-Holds i) h

-- a constraint made of another by what its numbers and its variables become
module _ (needed : Bool) (f : Num → Option Num) (h : ℕ → Option Con) (mu nu : Givens)
    (numbers : (t m : Num) → f t ≡ Some m → If needed (given_in mu t ≡ true) → given_in nu m ≡ true)
    (truths : (i : ℕ) (d : Con) → h i ≡ Some d → If needed (is_there (given_bool (slice_get mu i)) ≡ true) → truth_given nu d ≡ true) where
  abbrev KeptC : Con → Type 0
  KeptC c = (d : Con) → con_made f h c ≡ Some d → If needed (truth_given mu c ≡ true) → truth_given nu d ≡ true

  abbrev SuchC : Type 0
  SuchC = (c : Con) × KeptC c

  abbrev bare : List SuchC → List Con
  bare ys = map (λ (p : SuchC). p.0) ys

  abbrev bare_form : Con-F SuchC → Con-F Con
  bare_form y = map-Con SuchC Con (λ p. p.0) y

  each_con : (ys : List SuchC) (ds : List Con) → together (map (con_made f h) (bare ys)) ≡ Some ds
      → If needed (list_all (λ b. b) (map (truth_given mu) (bare ys)) ≡ true) → list_all (λ b. b) (map (truth_given nu) ds) ≡ true
  each_con [] ds e g = subst (λ xs. list_all (λ b. b) (map (truth_given nu) xs) ≡ true) (nothing_made ds e) refl
  each_con (y ∷ ys) ds e g =
      let m = more_parts (con_made f h y.0) (together (map (con_made f h) (bare ys))) ds e in
      let own = split needed (truth_given mu y.0) (list_all (λ b. b) (map (truth_given mu) (bare ys))) g in
      subst (λ xs. list_all (λ b. b) (map (truth_given nu) xs) ≡ true) m.4
      (two (truth_given nu m.0) (list_all (λ b. b) (map (truth_given nu) m.1)) (y.1 m.0 m.2 own.0) (each_con ys m.1 m.3 own.1))

  kept_form : (y : Con-F SuchC) (d : Con) → form_made f h (map-Con Con (Option Con) (con_made f h) (bare_form y)) ≡ Some d
      → If needed (con_given mu (map-Con Con Bool (truth_given mu) (bare_form y)) ≡ true) → truth_given nu d ≡ true
  kept_form (C.Truth b) d e g = con_at nu (C.Truth b) d (V.rolls-Truth b ∙ some_same (V.Truth b) d e) refl
  kept_form (C.Holds i) d e g = truths i d e g
  kept_form (C.Compare how t u) d e g =
      let p = then_parts (f t) (λ m. option_map (V.Compare how m) (f u)) d e in
      let q = map_parts (V.Compare how p.0) (f u) d p.2 in
      let own = split needed (given_in mu t) (given_in mu u) g in
      con_at nu (C.Compare how p.0 q.0) d (V.rolls-Compare how p.0 q.0 ∙ q.2)
      (two (given_in nu p.0) (given_in nu q.0) (numbers t p.0 p.1 own.0) (numbers u q.0 q.1 own.1))
  kept_form (C.OneOf t zs) d e g =
      let p = map_parts (λ m. V.OneOf m zs) (f t) d e in
      con_at nu (C.OneOf p.0 zs) d (V.rolls-OneOf p.0 zs ∙ p.2) (numbers t p.0 p.1 g)
  kept_form (C.Not y) d e g =
      let p = map_parts V.Not (con_made f h y.0) d e in con_at nu (C.Not p.0) d (V.rolls-Not p.0 ∙ p.2) (y.1 p.0 p.1 g)
  kept_form (C.All ys) d e g =
      let p = map_parts V.All (together (map (con_made f h) (bare ys))) d e in
      con_at nu (C.All p.0) d (V.rolls-All p.0 ∙ p.2) (each_con ys p.0 p.1 g)
  kept_form (C.Any ys) d e g =
      let p = map_parts V.Any (together (map (con_made f h) (bare ys))) d e in
      con_at nu (C.Any p.0) d (V.rolls-Any p.0 ∙ p.2) (each_con ys p.0 p.1 g)

  kept_rolled : (y : Con-F SuchC) → KeptC (roll-Con (bare_form y))
  kept_rolled y d e g =
      kept_form y d (sym (fold-roll-Con (Option Con) (form_made f h) (bare_form y)) ∙ e)
      (subst (λ b. If needed (b ≡ true)) (fold-roll-Con Bool (con_given mu) (bare_form y)) g)

  made_given : (c : Con) → KeptC c
  made_given = ind-Con KeptC (λ e y is. subst (λ d. KeptC (roll-Con d)) is (kept_rolled y))

moved_form : (depth : ℕ) (y : Con-F (Option Con)) → con_form_moved depth y ≡ form_made (moved_num depth) (λ i. option_map V.Holds (moved depth i)) y
moved_form depth (C.Truth b) = refl
moved_form depth (C.Holds i) = refl
moved_form depth (C.Compare how t u) = refl
moved_form depth (C.OneOf t zs) = refl
moved_form depth (C.Not c) = refl
moved_form depth (C.All cs) = refl
moved_form depth (C.Any cs) = refl

moved_truth : (depth : ℕ) (mu nu : Givens) → Moves depth mu nu → (c d : Con) → moved_con depth c ≡ Some d → truth_given mu c ≡ true
    → truth_given nu d ≡ true
moved_truth depth mu nu moves c d e g =
    made_given true (moved_num depth) (λ i. option_map V.Holds (moved depth i)) mu nu (λ t m h k. moved_given depth mu nu moves t m h k) holds c d
    ((λ i. fold-Con (Option Con) (λ y. sym (moved_form depth y) i) c) ∙ e) g
  where
    holds : (i : ℕ) (d : Con) → option_map V.Holds (moved depth i) ≡ Some d → is_there (given_bool (slice_get mu i)) ≡ true → truth_given nu d ≡ true
    holds i d h k =
        let m = map_parts V.Holds (moved depth i) d h in
        subst (λ x. truth_given nu x ≡ true) m.2
        (holds_is nu m.0 (ap (λ g. is_there (given_bool g)) (ap (slice_get nu) (moved_is depth i m.0 m.1) ∙ moves i) ∙ k))

read_form : (is : List Index) (y : Con-F (Option Con)) → form_read is y ≡ form_made (read is) (λ i. Some (truth_at is i)) y
read_form is (C.Truth b) = refl
read_form is (C.Holds i) = refl
read_form is (C.Compare how t u) = refl
read_form is (C.OneOf t zs) = refl
read_form is (C.Not c) = refl
read_form is (C.All cs) = refl
read_form is (C.Any cs) = refl

truth_placed : (nu : Givens) (is : List Index) → indices_kinded nu is ≡ true → (i : ℕ) → truth_given nu (truth_at is i) ≡ true
truth_placed nu [] h i = truth_is nu false
truth_placed nu (I.Number n ∷ is) h zero = truth_is nu false
truth_placed nu (I.Truth c ∷ is) h zero = (and_parts (truth_given nu c) (indices_kinded nu is) h).0
truth_placed nu (I.Number n ∷ is) h (suc i) = truth_placed nu is (and_parts (given_in nu n) (indices_kinded nu is) h).1 i
truth_placed nu (I.Truth c ∷ is) h (suc i) = truth_placed nu is (and_parts (truth_given nu c) (indices_kinded nu is) h).1 i

-- under arguments in the place of its variables
pub read_truth : (nu : Givens) (is : List Index) (c d : Con) → indices_kinded nu is ≡ true → read_con is c ≡ Some d → truth_given nu d ≡ true
read_truth nu is c d all e =
    made_given false (read is) (λ i. Some (truth_at is i)) nu nu (λ t m h k. read_given nu is t m (numbers_alone nu is all) h)
    (λ i x h k. subst (λ y. truth_given nu y ≡ true) (some_same (truth_at is i) x h) (truth_placed nu is all i)) c d
    ((λ i. fold-Con (Option Con) (λ y. sym (read_form is y) i) c) ∙ e) tt

-- ---- types one binder further in

moved_one : (depth : ℕ) (mu nu : Givens) → Moves depth mu nu → (i j : Index) → index_kinded mu i ≡ true → moved_index depth i ≡ Some j
    → index_kinded nu j ≡ true
moved_one depth mu nu moves (I.Number n) j h e =
    let p = map_parts I.Number (moved_num depth n) j e in
    subst (λ x. index_kinded nu x ≡ true) p.2 (moved_given depth mu nu moves n p.0 p.1 h)
moved_one depth mu nu moves (I.Truth c) j h e =
    let p = map_parts I.Truth (moved_con depth c) j e in
    subst (λ x. index_kinded nu x ≡ true) p.2 (moved_truth depth mu nu moves c p.0 p.1 h)

moved_arguments : (depth : ℕ) (mu nu : Givens) → Moves depth mu nu → (is js : List Index) → indices_kinded mu is ≡ true
    → moved_indices depth is ≡ Some js → indices_kinded nu js ≡ true
moved_arguments depth mu nu moves [] js h e = subst (λ (xs : List Index). indices_kinded nu xs ≡ true) (nothing_made js e) refl
moved_arguments depth mu nu moves (i ∷ is) js h e =
    let own = and_parts (index_kinded mu i) (indices_kinded mu is) h in
    let m = more_parts (moved_index depth i) (moved_indices depth is) js e in
    subst (λ (xs : List Index). indices_kinded nu xs ≡ true) m.4
    (two (index_kinded nu m.0) (indices_kinded nu m.1) (moved_one depth mu nu moves i m.0 own.0 m.2) (moved_arguments depth mu nu moves is m.1 own.1 m.3))

abbrev KeptK : Typ → Type 0
KeptK t = (depth : ℕ) (mu nu : Givens) → Moves depth mu nu → (u : Typ) → typ_kinded mu t ≡ true → moved_typ depth t ≡ Some u → typ_kinded nu u ≡ true

abbrev SuchK : Type 0
SuchK = (t : Typ) × KeptK t

abbrev kept_types : List SuchK → List Typ
kept_types ys = map (λ (p : SuchK). p.0) ys

abbrev kept_forms : Typ-F SuchK → Typ-F Typ
kept_forms y = map-Typ SuchK Typ (λ p. p.0) y

abbrev moved_each : List SuchK → ℕ → Option (List Typ)
moved_each ys depth = together (map (λ t. t depth) (map (fold-Typ AtDepth typ_form_moved) (kept_types ys)))

each_moved : (ys : List SuchK) (depth : ℕ) (mu nu : Givens) → Moves depth mu nu → (us : List Typ)
    → all_of (map (λ f. f mu) (map (λ t. fold-Typ Kinded form_kinded t) (kept_types ys))) ≡ true → moved_each ys depth ≡ Some us
    → all_of (map (λ f. f nu) (map (λ t. fold-Typ Kinded form_kinded t) us)) ≡ true
each_moved [] depth mu nu moves us h e =
    subst (λ (xs : List Typ). all_of (map (λ f. f nu) (map (λ t. fold-Typ Kinded form_kinded t) xs)) ≡ true) (nothing_made us e) refl
each_moved (y ∷ ys) depth mu nu moves us h e =
    let own = and_parts (typ_kinded mu y.0) (all_of (map (λ f. f mu) (map (λ t. fold-Typ Kinded form_kinded t) (kept_types ys)))) h in
    let m = more_parts (moved_typ depth y.0) (moved_each ys depth) us e in
    subst (λ (xs : List Typ). all_of (map (λ f. f nu) (map (λ t. fold-Typ Kinded form_kinded t) xs)) ≡ true) m.4
    (two (typ_kinded nu m.0) (all_of (map (λ f. f nu) (map (λ t. fold-Typ Kinded form_kinded t) m.1))) (y.1 depth mu nu moves m.0 own.0 m.2)
    (each_moved ys depth mu nu moves m.1 own.1 m.3))

moved_opened : (y : Typ-F SuchK) (depth : ℕ) (mu nu : Givens) → Moves depth mu nu → (u : Typ) → opened mu (kept_forms y) ≡ true
    → typ_form_moved (map-Typ Typ AtDepth (fold-Typ AtDepth typ_form_moved) (kept_forms y)) depth ≡ Some u → typ_kinded nu u ≡ true
moved_opened T.Unit depth mu nu moves u h e = made nu T.Unit u (W.rolls-Unit ∙ some_same W.Unit u e) refl
moved_opened T.Bool depth mu nu moves u h e = made nu T.Bool u (W.rolls-Bool ∙ some_same W.Bool u e) refl
moved_opened (T.Truth c) depth mu nu moves u h e =
    let p = map_parts W.Truth (moved_con depth c) u e in
    made nu (T.Truth p.0) u (W.rolls-Truth p.0 ∙ p.2) (moved_truth depth mu nu moves c p.0 p.1 h)
moved_opened T.Bit depth mu nu moves u h e = made nu T.Bit u (W.rolls-Bit ∙ some_same W.Bit u e) refl
moved_opened (T.Bits n) depth mu nu moves u h e =
    let p = map_parts W.Bits (moved_num depth n) u e in
    made nu (T.Bits p.0) u (W.rolls-Bits p.0 ∙ p.2) (moved_given depth mu nu moves n p.0 p.1 h)
moved_opened (T.Int n) depth mu nu moves u h e =
    let p = map_parts W.Int (moved_num depth n) u e in
    made nu (T.Int p.0) u (W.rolls-Int p.0 ∙ p.2) (moved_given depth mu nu moves n p.0 p.1 h)
moved_opened (T.Range low high) depth mu nu moves u h e =
    let p = then_parts (moved_num depth low) (λ m. option_map (W.Range m) (moved_num depth high)) u e in
    let q = map_parts (W.Range p.0) (moved_num depth high) u p.2 in
    let own = and_parts (given_in mu low) (given_in mu high) h in
    made nu (T.Range p.0 q.0) u (W.rolls-Range p.0 q.0 ∙ q.2)
    (two (given_in nu p.0) (given_in nu q.0) (moved_given depth mu nu moves low p.0 p.1 own.0) (moved_given depth mu nu moves high q.0 q.1 own.1))
moved_opened T.String depth mu nu moves u h e = made nu T.String u (W.rolls-String ∙ some_same W.String u e) refl
moved_opened (T.List y) depth mu nu moves u h e =
    let p = map_parts W.List (moved_typ depth y.0) u e in
    made nu (T.List p.0) u (W.rolls-List p.0 ∙ p.2) (y.1 depth mu nu moves p.0 h p.1)
moved_opened (T.Vector n y) depth mu nu moves u h e =
    let p = then_parts (moved_num depth n) (λ m. option_map (W.Vector m) (moved_typ depth y.0)) u e in
    let q = map_parts (W.Vector p.0) (moved_typ depth y.0) u p.2 in
    let own = and_parts (given_in mu n) (typ_kinded mu y.0) h in
    made nu (T.Vector p.0 q.0) u (W.rolls-Vector p.0 q.0 ∙ q.2)
    (two (given_in nu p.0) (typ_kinded nu q.0) (moved_given depth mu nu moves n p.0 p.1 own.0) (y.1 depth mu nu moves q.0 own.1 q.1))
moved_opened (T.Tuple ys) depth mu nu moves u h e =
    let p = map_parts W.Tuple (moved_each ys depth) u e in
    made nu (T.Tuple p.0) u (W.rolls-Tuple p.0 ∙ p.2) (each_moved ys depth mu nu moves p.0 h p.1)
moved_opened (T.Named i is ys) depth mu nu moves u h e =
    let p = then_parts (moved_indices depth is) (λ js. option_map (W.Named i js) (moved_each ys depth)) u e in
    let q = map_parts (W.Named i p.0) (moved_each ys depth) u p.2 in
    let own = and_parts (indices_kinded mu is) (all_of (map (λ f. f mu) (map (λ t. fold-Typ Kinded form_kinded t) (kept_types ys)))) h in
    made nu (T.Named i p.0 q.0) u (W.rolls-Named i p.0 q.0 ∙ q.2)
    (two (indices_kinded nu p.0) (all_of (map (λ f. f nu) (map (λ t. fold-Typ Kinded form_kinded t) q.0)))
    (moved_arguments depth mu nu moves is p.0 own.0 p.1) (each_moved ys depth mu nu moves q.0 own.1 q.1))
moved_opened (T.Variable i) depth mu nu moves u h e = made nu (T.Variable i) u (W.rolls-Variable i ∙ some_same (W.Variable i) u e) refl
moved_opened (T.Exists name c y) depth mu nu moves u h e =
    let p = then_parts (next depth) (λ d. and_then (moved_con d c) (λ k. option_map (W.Exists name k) (moved_typ d y.0))) u e in
    let q = then_parts (moved_con p.0 c) (λ k. option_map (W.Exists name k) (moved_typ p.0 y.0)) u p.2 in
    let r = map_parts (W.Exists name q.0) (moved_typ p.0 y.0) u q.2 in
    let further = moves_inside depth p.0 mu nu moves p.1 in
    let own = and_parts (truth_given (inside mu) c) (typ_kinded (inside mu) y.0) h in
    made nu (T.Exists name q.0 r.0) u (W.rolls-Exists name q.0 r.0 ∙ r.2)
    (two (truth_given (inside nu) q.0) (typ_kinded (inside nu) r.0) (moved_truth p.0 (inside mu) (inside nu) further c q.0 q.1 own.0)
    (y.1 p.0 (inside mu) (inside nu) further r.0 own.1 r.1))

moved_rolled : (y : Typ-F SuchK) → KeptK (roll-Typ (kept_forms y))
moved_rolled y depth mu nu moves u h e =
    moved_opened y depth mu nu moves u (sym (kinded_at mu (kept_forms y)) ∙ h)
    (sym (ap (λ (f : AtDepth). f depth) (fold-roll-Typ AtDepth typ_form_moved (kept_forms y))) ∙ e)

moved_kinded : (t : Typ) → KeptK t
moved_kinded = ind-Typ KeptK (λ e y is. subst (λ d. KeptK (roll-Typ d)) is (moved_rolled y))

moved_all : (nu : Givens) (ts us : List Typ) → all_kinded nu ts ≡ true → moved_types 0 ts ≡ Some us → all_kinded (inside nu) us ≡ true
moved_all nu [] us h e = subst (λ (xs : List Typ). all_kinded (inside nu) xs ≡ true) (nothing_made us e) refl
moved_all nu (t ∷ ts) us h e =
    let own = and_parts (typ_kinded nu t) (all_kinded nu ts) h in
    let m = more_parts (moved_typ 0 t) (moved_types 0 ts) us e in
    subst (λ (xs : List Typ). all_kinded (inside nu) xs ≡ true) m.4
    (two (typ_kinded (inside nu) m.0) (all_kinded (inside nu) m.1) (moved_kinded t 0 nu (inside nu) (moves_out nu) m.0 own.0 m.2)
    (moved_all nu ts m.1 own.1 m.3))

inner_arguments : (nu : Givens) (is js : List Index) → indices_kinded nu is ≡ true → inside_indices is ≡ Some js → indices_kinded (inside nu) js ≡ true
inner_arguments nu is js h e =
    let p = map_parts (λ ms. I.Number (variable 0) ∷ ms) (moved_indices 0 is) js e in
    subst (λ (xs : List Index). indices_kinded (inside nu) xs ≡ true) p.2
    (two (given_in (inside nu) (variable 0)) (indices_kinded (inside nu) p.0) (variable_given (inside nu) 0 refl)
    (moved_arguments 0 nu (inside nu) (moves_out nu) is p.0 h p.1))

-- ---- types under arguments in the place of their variables, whatever these are

read_argument : (nu : Givens) (is : List Index) (i j : Index) → indices_kinded nu is ≡ true → read_index is i ≡ Some j → index_kinded nu j ≡ true
read_argument nu is (I.Number n) j g e =
    let p = map_parts I.Number (read is n) j e in
    subst (λ x. index_kinded nu x ≡ true) p.2 (read_given nu is n p.0 (numbers_alone nu is g) p.1)
read_argument nu is (I.Truth c) j g e =
    let p = map_parts I.Truth (read_con is c) j e in subst (λ x. index_kinded nu x ≡ true) p.2 (read_truth nu is c p.0 g p.1)

read_arguments : (nu : Givens) (is xs js : List Index) → indices_kinded nu is ≡ true → read_indices is xs ≡ Some js → indices_kinded nu js ≡ true
read_arguments nu is [] js g e = subst (λ (ys : List Index). indices_kinded nu ys ≡ true) (nothing_made js e) refl
read_arguments nu is (x ∷ xs) js g e =
    let m = more_parts (read_index is x) (read_indices is xs) js e in
    subst (λ (ys : List Index). indices_kinded nu ys ≡ true) m.4
    (two (index_kinded nu m.0) (indices_kinded nu m.1) (read_argument nu is x m.0 g m.2) (read_arguments nu is xs m.1 g m.3))

place_kinded : (nu : Givens) (ts : List Typ) (i : ℕ) → all_kinded nu ts ≡ true → typ_kinded nu (typ_at ts i) ≡ true
place_kinded nu [] i h = made nu T.Unit W.Unit W.rolls-Unit refl
place_kinded nu (t ∷ ts) zero h = (and_parts (typ_kinded nu t) (all_kinded nu ts) h).0
place_kinded nu (t ∷ ts) (suc i) h = place_kinded nu ts i (and_parts (typ_kinded nu t) (all_kinded nu ts) h).1

abbrev Put : Typ → Type 0
Put t =
    (nu : Givens) (is : List Index) (ts : List Typ) (u : Typ) → indices_kinded nu is ≡ true → all_kinded nu ts ≡ true → applied_typ is ts t ≡ Some u
    → typ_kinded nu u ≡ true

abbrev SuchP : Type 0
SuchP = (t : Typ) × Put t

abbrev put_types : List SuchP → List Typ
put_types ys = map (λ (p : SuchP). p.0) ys

abbrev put_forms : Typ-F SuchP → Typ-F Typ
put_forms y = map-Typ SuchP Typ (λ p. p.0) y

abbrev parts_at : List SuchP → List Index → List Typ → Option (List Typ)
parts_at ys is ts = together (map (λ part. part is ts) (map (fold-Typ AtArguments form_applied) (put_types ys)))

each_put : (ys : List SuchP) (nu : Givens) (is : List Index) (ts us : List Typ) → indices_kinded nu is ≡ true → all_kinded nu ts ≡ true
    → parts_at ys is ts ≡ Some us → all_of (map (λ f. f nu) (map (λ t. fold-Typ Kinded form_kinded t) us)) ≡ true
each_put [] nu is ts us g h e =
    subst (λ (xs : List Typ). all_of (map (λ f. f nu) (map (λ t. fold-Typ Kinded form_kinded t) xs)) ≡ true) (nothing_made us e) refl
each_put (y ∷ ys) nu is ts us g h e =
    let m = more_parts (applied_typ is ts y.0) (parts_at ys is ts) us e in
    subst (λ (xs : List Typ). all_of (map (λ f. f nu) (map (λ t. fold-Typ Kinded form_kinded t) xs)) ≡ true) m.4
    (two (typ_kinded nu m.0) (all_of (map (λ f. f nu) (map (λ t. fold-Typ Kinded form_kinded t) m.1))) (y.1 nu is ts m.0 g h m.2)
    (each_put ys nu is ts m.1 g h m.3))

put_opened : (y : Typ-F SuchP) (nu : Givens) (is : List Index) (ts : List Typ) (u : Typ) → indices_kinded nu is ≡ true → all_kinded nu ts ≡ true
    → form_applied (map-Typ Typ AtArguments (fold-Typ AtArguments form_applied) (put_forms y)) is ts ≡ Some u → typ_kinded nu u ≡ true
put_opened T.Unit nu is ts u g h e = made nu T.Unit u (W.rolls-Unit ∙ some_same W.Unit u e) refl
put_opened T.Bool nu is ts u g h e = made nu T.Bool u (W.rolls-Bool ∙ some_same W.Bool u e) refl
put_opened (T.Truth c) nu is ts u g h e =
    let p = map_parts W.Truth (read_con is c) u e in made nu (T.Truth p.0) u (W.rolls-Truth p.0 ∙ p.2) (read_truth nu is c p.0 g p.1)
put_opened T.Bit nu is ts u g h e = made nu T.Bit u (W.rolls-Bit ∙ some_same W.Bit u e) refl
put_opened (T.Bits n) nu is ts u g h e =
    let p = map_parts W.Bits (read is n) u e in
    made nu (T.Bits p.0) u (W.rolls-Bits p.0 ∙ p.2) (read_given nu is n p.0 (numbers_alone nu is g) p.1)
put_opened (T.Int n) nu is ts u g h e =
    let p = map_parts W.Int (read is n) u e in
    made nu (T.Int p.0) u (W.rolls-Int p.0 ∙ p.2) (read_given nu is n p.0 (numbers_alone nu is g) p.1)
put_opened (T.Range low high) nu is ts u g h e =
    let p = then_parts (read is low) (λ m. option_map (W.Range m) (read is high)) u e in
    let q = map_parts (W.Range p.0) (read is high) u p.2 in
    made nu (T.Range p.0 q.0) u (W.rolls-Range p.0 q.0 ∙ q.2)
    (two (given_in nu p.0) (given_in nu q.0) (read_given nu is low p.0 (numbers_alone nu is g) p.1) (read_given nu is high q.0 (numbers_alone nu is g) q.1))
put_opened T.String nu is ts u g h e = made nu T.String u (W.rolls-String ∙ some_same W.String u e) refl
put_opened (T.List y) nu is ts u g h e =
    let p = map_parts W.List (applied_typ is ts y.0) u e in
    made nu (T.List p.0) u (W.rolls-List p.0 ∙ p.2) (y.1 nu is ts p.0 g h p.1)
put_opened (T.Vector n y) nu is ts u g h e =
    let p = then_parts (read is n) (λ m. option_map (W.Vector m) (applied_typ is ts y.0)) u e in
    let q = map_parts (W.Vector p.0) (applied_typ is ts y.0) u p.2 in
    made nu (T.Vector p.0 q.0) u (W.rolls-Vector p.0 q.0 ∙ q.2)
    (two (given_in nu p.0) (typ_kinded nu q.0) (read_given nu is n p.0 (numbers_alone nu is g) p.1) (y.1 nu is ts q.0 g h q.1))
put_opened (T.Tuple ys) nu is ts u g h e =
    let p = map_parts W.Tuple (parts_at ys is ts) u e in
    made nu (T.Tuple p.0) u (W.rolls-Tuple p.0 ∙ p.2) (each_put ys nu is ts p.0 g h p.1)
put_opened (T.Named i indices ys) nu is ts u g h e =
    let p = then_parts (read_indices is indices) (λ js. option_map (W.Named i js) (parts_at ys is ts)) u e in
    let q = map_parts (W.Named i p.0) (parts_at ys is ts) u p.2 in
    made nu (T.Named i p.0 q.0) u (W.rolls-Named i p.0 q.0 ∙ q.2)
    (two (indices_kinded nu p.0) (all_of (map (λ f. f nu) (map (λ t. fold-Typ Kinded form_kinded t) q.0))) (read_arguments nu is indices p.0 g p.1)
    (each_put ys nu is ts q.0 g h q.1))
put_opened (T.Variable i) nu is ts u g h e = subst (λ t. typ_kinded nu t ≡ true) (some_same (typ_at ts i) u e) (place_kinded nu ts i h)
put_opened (T.Exists name c y) nu is ts u g h e =
    let inner : List Index → List Typ → Option Typ = λ js us. and_then (read_con js c) (λ d. option_map (W.Exists name d) (applied_typ js us y.0)) in
    let p = then_parts (inside_indices is) (λ js. and_then (inside_types ts) (inner js)) u e in
    let q = then_parts (inside_types ts) (inner p.0) u p.2 in
    let r = then_parts (read_con p.0 c) (λ d. option_map (W.Exists name d) (applied_typ p.0 q.0 y.0)) u q.2 in
    let s = map_parts (W.Exists name r.0) (applied_typ p.0 q.0 y.0) u r.2 in
    made nu (T.Exists name r.0 s.0) u (W.rolls-Exists name r.0 s.0 ∙ s.2)
    (two (truth_given (inside nu) r.0) (typ_kinded (inside nu) s.0) (read_truth (inside nu) p.0 c r.0 (inner_arguments nu is p.0 g p.1) r.1)
    (y.1 (inside nu) p.0 q.0 s.0 (inner_arguments nu is p.0 g p.1) (moved_all nu ts q.0 h q.1) s.1))

put_rolled : (y : Typ-F SuchP) → Put (roll-Typ (put_forms y))
put_rolled y nu is ts u g h e =
    put_opened y nu is ts u g h (sym (ap (λ (f : AtArguments). f is ts) (fold-roll-Typ AtArguments form_applied (put_forms y))) ∙ e)

pub applied_kinded : (t : Typ) → Put t
applied_kinded = ind-Typ Put (λ e y is. subst (λ d. Put (roll-Typ d)) is (put_rolled y))
