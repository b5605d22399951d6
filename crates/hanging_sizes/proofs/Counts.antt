-- So many constants of which one is open, and types under them.
use Rattle.std.proofs.Common.{◌≡◌, ℕ, zero, suc, ◌<◌, ◌≤◌, pos, nat_eq, nat_lt, Bool, true, false, ◌||◌, List, [], ◌∷◌, ◌++◌, length, map, slice_get}
use Rattle.std.proofs.Common.{Some, None, if◌then◌else◌, refl, sym, ap, ◌∙◌, subst, arith}
use Rattle.std.proofs.lemmas.Bool.{ltb-false, ltb-true}
use Rattle.std.proofs.lemmas.Bool.Decides.{Decides-eqb}
use Rattle.sail_types.specs.declared.types.Typ.{Typ, Typ-F, roll-Typ}
use Rattle.sail_types.specs.declared.types.Typ.TheFolds.{fold-roll-Typ, ind-Typ, map-Typ}
use Rattle.sail_types.specs.declared.types.Typ.TheOpen as T
use Rattle.size_values.specs.declared.constants.Constant.{Constant}
use Rattle.size_values.specs.declared.constants.Constant.TheVariants as C
use Rattle.size_values.specs.Numbers.{argument_of, constant_under, index_under, is_free, or_zero}
use Rattle.size_values.specs.Sizes.{only_open, open_at}
use Rattle.size_values.specs.Hanging.{Marks, OpenUnder, arguments_open, form_open, one_open, typ_open}
use Rattle.value_laws.proofs.Basics.{no}

-- ---- one more at the end

module _ {A : Type 0} where
  pub got_last : (xs : List A) (c : A) → slice_get (xs ++ c ∷ []) (length xs) ≡ Some c
  got_last [] c = refl
  got_last (x ∷ xs) c = got_last xs c

  pub got_front : (xs ys : List A) (j : ℕ) → j < length xs → slice_get (xs ++ ys) j ≡ slice_get xs j
  got_front [] ys j l = absurd (omega (arith, l))
  got_front (x ∷ xs) ys zero l = refl
  got_front (x ∷ xs) ys (suc j) l = got_front xs ys j (omega (arith, l))

  pub got_past : (xs : List A) (j : ℕ) → length xs ≤ j → slice_get xs j ≡ None
  got_past [] j l = refl
  got_past (x ∷ xs) zero l = absurd (omega (arith, l))
  got_past (x ∷ xs) (suc j) l = got_past xs j (omega (arith, l))

  pub longer : (xs : List A) (c : A) → length (xs ++ c ∷ []) ≡ suc (length xs)
  longer [] c = refl
  longer (x ∷ xs) c = ap suc (longer xs c)

-- ---- so many constants of which one is open

open_long : (i n : ℕ) → length (only_open i n) ≡ n
open_long i zero = refl
open_long i (suc n) = longer (only_open i n) (open_at i n) ∙ ap suc (open_long i n)

-- an argument at each place, and 0 past them
open_there : (i n j : ℕ) → j < n → slice_get (only_open i n) j ≡ Some (open_at i j)
open_there i zero j l = absurd (omega (arith, l))
open_there i (suc n) j l = by (λ k. open_there i n j k) (nat_eq j n) refl
  where
    by : (j < n → slice_get (only_open i n) j ≡ Some (open_at i j)) → (b : Bool) → nat_eq j n ≡ b
        → slice_get (only_open i n ++ open_at i n ∷ []) j ≡ Some (open_at i j)
    by before true e =
        let same : j ≡ n = (Decides-eqb j n).0 e in
        subst (λ k. slice_get (only_open i n ++ open_at i n ∷ []) k ≡ Some (open_at i k)) (open_long i n ∙ sym same)
        (got_last (only_open i n) (open_at i n) ∙ ap (λ k. Some (open_at i k)) (sym (open_long i n)))
    by before false e =
        let differs : j ≡ n → ⊥ = λ s. no (sym e ∙ (Decides-eqb j n).1 s) in
        let less : j < n = omega (arith, l, differs) in
        let long : length (only_open i n) ≡ n = open_long i n in
        got_front (only_open i n) (open_at i n ∷ []) j (omega (arith, less, long)) ∙ before less

open_past : (i n j : ℕ) → n ≤ j → slice_get (only_open i n) j ≡ None
open_past i n j l =
    let long : length (only_open i n) ≡ n = open_long i n in got_past (only_open i n) j (omega (arith, l, long))

closed_past : (i j : ℕ) → i < j → open_at i j ≡ C.Number (pos 0)
closed_past i j l = by (nat_eq i j) refl
  where
    by : (b : Bool) → nat_eq i j ≡ b → (if b then C.Open 0 else C.Number (pos 0)) ≡ C.Number (pos 0)
    by true e = let same : i ≡ j = (Decides-eqb i j).0 e in absurd (omega (arith, l, same))
    by false e = refl

pub argument_is : (i n j : ℕ) → i < n → argument_of (only_open i n) j ≡ open_at i j
argument_is i n j l = by (nat_lt j n) refl
  where
    by : (b : Bool) → nat_lt j n ≡ b → argument_of (only_open i n) j ≡ open_at i j
    by true e = ap or_zero (open_there i n j (ltb-true j n e))
    by false e =
        let past : n ≤ j = ltb-false j n e in
        ap or_zero (open_past i n j past) ∙ sym (closed_past i j (omega (arith, l, past)))

-- that one is
pub open_itself : (i n : ℕ) → i < n → is_free (argument_of (only_open i n) i) ≡ true
open_itself i n l =
    ap (λ (c : Constant). is_free c) (argument_is i n i l)
    ∙ ap (λ (b : Bool). is_free (if b then C.Open 0 else C.Number (pos 0))) ((Decides-eqb i i).1 refl)

-- ---- a type is asked of its arguments alone

module _ (marks : Marks) where
  Same : Typ → Type 0
  Same t = (cs ds : List Constant) → argument_of cs ≡ argument_of ds → typ_open marks t cs ≡ typ_open marks t ds

  abbrev SuchTyp : Type 0
  SuchTyp = (t : Typ) × Same t

  abbrev bare : List SuchTyp → List Typ
  bare ys = map (λ (y : SuchTyp). y.0) ys

  abbrev typ_form : Typ-F SuchTyp → Typ-F Typ
  typ_form y = map-Typ SuchTyp Typ (λ p. p.0) y

  abbrev under : Typ-F Typ → Typ-F OpenUnder
  under x = map-Typ Typ OpenUnder (typ_open marks) x

  each_same : (ys : List SuchTyp) (cs ds : List Constant) → argument_of cs ≡ argument_of ds
      → one_open (map (typ_open marks) (bare ys)) cs ≡ one_open (map (typ_open marks) (bare ys)) ds
  unfolding Same
  each_same [] cs ds e = refl
  each_same (y ∷ ys) cs ds e = λ j. y.1 cs ds e j || each_same ys cs ds e j

  bound_same : (c : Constant) (cs ds : List Constant) → argument_of cs ≡ argument_of ds → (k : ℕ) → argument_of (c ∷ cs) k ≡ argument_of (c ∷ ds) k
  bound_same c cs ds e zero = refl
  bound_same c cs ds e (suc k) = ap (λ (of : ℕ → Constant). of k) e

  form_same : (y : Typ-F SuchTyp) (cs ds : List Constant) → argument_of cs ≡ argument_of ds
      → form_open marks (under (typ_form y)) cs ≡ form_open marks (under (typ_form y)) ds
  unfolding Same
  form_same T.Unit cs ds e = refl
  form_same T.Bool cs ds e = refl
  form_same (T.Truth c) cs ds e = refl
  form_same T.Bit cs ds e = refl
  form_same (T.Bits t) cs ds e = ap (λ (of : ℕ → Constant). is_free (constant_under of t)) e
  form_same (T.Int t) cs ds e = refl
  form_same (T.Range t u) cs ds e = refl
  form_same T.String cs ds e = refl
  form_same (T.List y) cs ds e = y.1 cs ds e
  form_same (T.Vector t y) cs ds e = λ j. is_free (constant_under (e j) t) || y.1 cs ds e j
  form_same (T.Tuple ys) cs ds e = each_same ys cs ds e
  form_same (T.Named u args ys) cs ds e = λ j. arguments_open marks u 0 (map (index_under (e j)) args) || each_same ys cs ds e j
  form_same (T.Variable i) cs ds e = refl
  form_same (T.Exists name c y) cs ds e = y.1 (C.Bound name ∷ cs) (C.Bound name ∷ ds) (λ j k. bound_same (C.Bound name) cs ds e k j)

  same_step : (y : Typ-F SuchTyp) → Same (roll-Typ (typ_form y))
  unfolding Same
  same_step y cs ds e =
      ap (λ (f : OpenUnder). f cs) (fold-roll-Typ OpenUnder (form_open marks) (typ_form y))
      ∙ form_same y cs ds e
      ∙ sym (ap (λ (f : OpenUnder). f ds) (fold-roll-Typ OpenUnder (form_open marks) (typ_form y)))

  every_typ : (t : Typ) → Same t
  every_typ = ind-Typ Same (λ e y is. subst (λ d. Same (roll-Typ d)) is (same_step y))

  pub all_open_same : (ts : List Typ) (cs ds : List Constant) → argument_of cs ≡ argument_of ds
      → one_open (map (typ_open marks) ts) cs ≡ one_open (map (typ_open marks) ts) ds
  unfolding Same
  all_open_same [] cs ds e = refl
  all_open_same (t ∷ ts) cs ds e = λ j. every_typ t cs ds e j || all_open_same ts cs ds e j
