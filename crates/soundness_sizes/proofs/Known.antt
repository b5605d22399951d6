-- Where what is owed of a number holds, the run knows it, and it is the number that the walk has.
use Rattle.std.proofs.Common.{◌≡◌, ◌∙◌, ap, sym, refl, subst, ℕ, ◌≤◌, ◌≤ℤ◌, ◌^◌, arith, ℤ, pos, int_le, nat_le, nat_abs, Bool, true, false}
use Rattle.std.proofs.Common.{List, [], ◌∷◌, ◌++◌, map, slice_get, Option, Some, None}
use Rattle.std.specs.Prelude.{◌+ℤ◌, ◌*ℤ◌, ◌&&◌, if◌then◌else◌, unwrap_or}
use Rattle.std.specs.List.{list_all}
use Rattle.std.specs.Ordering.{int_eq}
use Rattle.std.proofs.lemmas.Bool.{and_parts, le-leb}
use Rattle.std.proofs.lemmas.Bool.Decides.{Decides-int_eq}
use Rattle.std.proofs.lemmas.Int.{ints}
use Rattle.sail_types.specs.Limits.{is_small, largest, small_power}
use Rattle.sail_types.specs.Numbers.{Assignment, Positive, atom_number, number, number_of_atom, number_of_term, sum_number, term_number, total}
use Rattle.sail_types.specs.Belongs.{assigned}
use Rattle.sail_types.specs.Sums.{and_then, atom_becomes, atom_of, constant, constant_of, num, number_at, plus_constant, plus_each, read, sum, sum_becomes}
use Rattle.sail_types.specs.Sums.{Became, became, term_becomes, terms_of, zero_num}
use Rattle.sail_types.specs.declared.numbers.Atom.{Atom, roll-Atom}
use Rattle.sail_types.specs.declared.numbers.Atom.TheOpen as N
use Rattle.sail_types.specs.declared.numbers.Atom.TheOpen.{Atom-F, Num-F, Term-F}
use Rattle.sail_types.specs.declared.numbers.Atom.TheVariants as A
use Rattle.sail_types.specs.declared.numbers.Atom.TheFolds.{fold-Atom, fold-Term, fold-roll-Atom, fold-roll-Num, fold-roll-Term, ind-Num, map-Atom, map-Num}
use Rattle.sail_types.specs.declared.numbers.Atom.TheFolds.{map-Term, para-roll-Atom}
use Rattle.sail_types.specs.declared.numbers.Index.{Index}
use Rattle.sail_types.specs.declared.numbers.Num.{Num, out-roll-Num, roll-Num}
use Rattle.sail_types.specs.declared.numbers.Term.{Term, out-roll-Term, roll-Term}
use Rattle.sail_types.proofs.Substituted.{number_constant}
use Rattle.sail_types.proofs.SumNumbers.{number_num, number_term, sum_number_is, then_parts, weights}
use Rattle.row_types.specs.Formulas.{least, most}
use Rattle.sail_core.specs.Numbers.{Givens, added, given_int, known, known_atom, known_sum, known_term, small}
use Rattle.sail_core.specs.declared.written.WrittenNumber.{WrittenNumber}
use Rattle.value_indices.specs.Opening.{least_num, largest_num}
use Rattle.value_indices.specs.Steps.{Conditions}
use Rattle.expression_forms.specs.Sizes.{all_owed, bounded, bounded_atom, constant_bounded, exponent_through, in_bounds, more_bounded, single, term_owed}
use Rattle.expression_forms.specs.Sizes.{term_read, terms_bounded, through, through_atom, through_term, with_constant, with_owed, with_term}
use Rattle.expression_forms.proofs.Bounds.{number_is, power_is, power_through, term_is, through_inside, through_is}
use Rattle.fitting_laws.specs.Fitting.{Said}
use Rattle.fitting_laws.proofs.Joining.{said_behind, said_front}
use Rattle.value_laws.specs.Belonging.{Integers, standing}
use Rattle.value_laws.proofs.Numbers.{at_most_is, number_read}
use Rattle.soundness_sizes.specs.Own.{atom_own, atom_owns, is_integer, number_own, sum_owns, term_own, term_owns}

-- ---- integers within the limit

least_of : (z : ℤ) → int_le least z ≡ true → int_le z most ≡ true → nat_le (nat_abs z) largest ≡ true
unfolding largest
least_of z low high = le-leb (nat_abs z) (2 ^ 126) (within_these z (le_from least z low) (le_from z most high))
  where
    le_from : (u v : ℤ) → int_le u v ≡ true → u ≤ℤ v
    le_from u v e = grind (arith, ints)

    within_these : (z : ℤ) → least ≤ℤ z → z ≤ℤ most → nat_abs z ≤ 2 ^ 126
    within_these z low high = omega (arith, ints)

small_is : (z : ℤ) → is_small z ≡ true → small z ≡ Some z
small_is z h = ap (λ b. if b then Some z else None) h

bounds_said : (nu : Assignment) (u : Num) → Said nu (in_bounds (Some u)) → is_small (number nu u) ≡ true
bounds_said nu u h =
    least_of (number nu u)
    (ap (λ z. int_le z (number nu u)) (sym (number_constant nu least)) ∙ sym (at_most_is nu least_num u) ∙ h.0)
    (ap (λ z. int_le (number nu u) z) (sym (number_constant nu most)) ∙ sym (at_most_is nu u largest_num) ∙ h.1.0)

plus_zero : (z : ℤ) → (z +ℤ pos 0) ≡ z
plus_zero z = omega (arith, ints)

zero_plus : (z : ℤ) → (pos 0 +ℤ z) ≡ z
zero_plus z = omega (arith, ints)

-- a constant within a number that is read
constant_small : (c : ℤ) (n m : Num) → plus_constant c n ≡ Some m → is_small c ≡ true
constant_small c n m e = by (is_small c) (is_small (constant_of n +ℤ c)) e
  where
    by : (p r : Bool) → (if p && r then Some (num (terms_of n) (constant_of n +ℤ c)) else None) ≡ Some m → p ≡ true
    by true r h = refl
    by false r h = absurd (cc)

single_number : (nu : Assignment) (t : Term) → number nu (single t) ≡ number_of_term nu t
single_number nu t =
    number_num nu (t ∷ []) (pos 0) ∙ plus_zero (total (weights nu (t ∷ []))) ∙ plus_zero (number_of_term nu t)

regroup : (a b c : ℤ) → ((a +ℤ b) +ℤ c) ≡ (a +ℤ (b +ℤ c))
regroup a b c = omega (arith, ints)

module _ (past : Positive) (f : Integers) (numbers : List Index) (ns : List WrittenNumber) (nu : Givens)
    (given : (i : ℕ) → is_integer (slice_get numbers i) ≡ true
    → given_int (slice_get nu i) ≡ Some (number (standing past f) (number_at numbers i)))
    (exponents : (u : Num) → Said (standing past f) (exponent_through numbers ns u)
    → (v : Num) × (z : ℤ) × (read numbers u ≡ Some v) × (small_power (number (standing past f) v) ≡ Some z)) where
  -- what variables stand for, and a number over them
  abbrev al : Assignment
  al = standing past f

  abbrev be : Assignment
  be = assigned (standing past f) numbers

  abbrev atom_known : Atom → Option ℤ
  atom_known = fold-Atom (Option ℤ) (Option ℤ) (Option ℤ) (known_atom nu) known_sum known_term

  abbrev term_known : Term → Option ℤ
  term_known = fold-Term (Option ℤ) (Option ℤ) (Option ℤ) (known_atom nu) known_sum known_term

  abbrev KnownA : Atom → Type 0
  KnownA a = atom_own numbers a ≡ true → Said al (bounded_atom numbers a) → Said al (through_atom numbers ns a)
      → atom_known a ≡ Some (number_of_atom be a)

  abbrev KnownN : Num → Type 0
  KnownN n = number_own numbers n ≡ true → (m : Num) → read numbers n ≡ Some m → Said al (bounded numbers n) → Said al (through numbers ns n)
      → known nu n ≡ Some (number be n)

  abbrev KnownT : Term → Type 0
  KnownT t = term_own numbers t ≡ true → Said al (bounded_atom numbers (atom_of t)) → Said al (through_atom numbers ns (atom_of t))
      → is_small (number_of_term be t) ≡ true → term_known t ≡ Some (number_of_term be t)

  abbrev SuchA : Type 0
  SuchA = (a : Atom) × KnownA a

  abbrev SuchN : Type 0
  SuchN = (n : Num) × KnownN n

  abbrev SuchT : Type 0
  SuchT = (t : Term) × KnownT t

  -- ---- atoms

  owns_atom : (y : Atom-F Atom Num Term) → atom_own numbers (roll-Atom y)
      ≡ atom_owns numbers (map-Atom Atom Num Term Bool Bool Bool (atom_own numbers) (number_own numbers) (term_own numbers) y)
  owns_atom y = fold-roll-Atom Bool Bool Bool (atom_owns numbers) (sum_owns numbers) (term_owns numbers) y

  knows_atom : (y : Atom-F Atom Num Term) → atom_known (roll-Atom y)
      ≡ known_atom nu (map-Atom Atom Num Term (Option ℤ) (Option ℤ) (Option ℤ) atom_known (known nu) term_known y)
  knows_atom y = fold-roll-Atom (Option ℤ) (Option ℤ) (Option ℤ) (known_atom nu) known_sum known_term y

  atom_is : (y : Atom-F Atom Num Term) → number_of_atom be (roll-Atom y)
      ≡ atom_number be (map-Atom Atom Num Term (Atom × ℤ) (Num × ℤ) (Term × ℤ) (λ a. (a, number_of_atom be a)) (λ n. (n, number be n))
      (λ t. (t, number_of_term be t)) y)
  atom_is y = para-roll-Atom ℤ ℤ ℤ (atom_number be) sum_number term_number y

  atom_step : (y : Atom-F SuchA SuchN SuchT) → KnownA (roll-Atom (map-Atom SuchA SuchN SuchT Atom Num Term (λ p. p.0) (λ p. p.0) (λ p. p.0) y))
  atom_step (N.Variable i) own said more =
      knows_atom (N.Variable i) ∙ given i (sym (owns_atom (N.Variable i)) ∙ own) ∙ ap (λ z. Some z) (sym (atom_is (N.Variable i)))
  atom_step (N.Power t) own said more =
      let owns : number_own numbers t.0 ≡ true = sym (owns_atom (N.Power t.0)) ∙ own in
      let inside : Said al (bounded numbers t.0) =
      subst (λ cs. Said al cs) (power_is numbers (roll-Atom (N.Power t.0)) t.0 t.0 (A.rolls-Power t.0) refl) said in
      let came : Said al (through numbers ns t.0 ++ exponent_through numbers ns t.0) =
      subst (λ cs. Said al cs) (power_through numbers ns (roll-Atom (N.Power t.0)) t.0 t.0 (A.rolls-Power t.0) refl) more in
      let power = exponents t.0 (said_behind al (through numbers ns t.0) (exponent_through numbers ns t.0) came) in
      let is : small_power (number be t.0) ≡ Some power.1 =
      ap small_power (sym (number_read past f numbers t.0 power.0 power.2)) ∙ power.3 in
      knows_atom (N.Power t.0)
      ∙ ap (λ o. and_then o small_power)
      (t.1 owns power.0 power.2 inside (said_front al (through numbers ns t.0) (exponent_through numbers ns t.0) came))
      ∙ is ∙ ap (λ z. Some z) (sym (ap (λ o. unwrap_or o (be.beyond t.0).value) is)) ∙ ap (λ z. Some z) (sym (atom_is (N.Power t.0)))

  -- ---- terms

  term_step : (y : Term-F SuchA SuchN SuchT) → KnownT (roll-Term (map-Term SuchA SuchN SuchT Atom Num Term (λ p. p.0) (λ p. p.0) (λ p. p.0) y))
  term_step y own said more within =
      let d : Term-F Atom Num Term = record { coefficient = y.coefficient; atom = y.atom.0 } in
      let owns : atom_own numbers y.atom.0 ≡ true =
      sym (fold-roll-Term Bool Bool Bool (atom_owns numbers) (sum_owns numbers) (term_owns numbers) d) ∙ own in
      let inside : Said al (bounded_atom numbers y.atom.0) =
      subst (λ (e : Term-F Atom Num Term). Said al (bounded_atom numbers e.atom)) (out-roll-Term d) said in
      let came : Said al (through_atom numbers ns y.atom.0) =
      subst (λ (e : Term-F Atom Num Term). Said al (through_atom numbers ns e.atom)) (out-roll-Term d) more in
      let is : number_of_term be (roll-Term d) ≡ y.coefficient *ℤ number_of_atom be y.atom.0 = number_term be y.coefficient y.atom.0 in
      fold-roll-Term (Option ℤ) (Option ℤ) (Option ℤ) (known_atom nu) known_sum known_term d
      ∙ ap (λ o. and_then o (λ z. small (y.coefficient *ℤ z))) (y.atom.1 owns inside came)
      ∙ ap small (sym is) ∙ small_is (number_of_term be (roll-Term d)) within

  -- ---- sums

  abbrev terms : List SuchT → List Term
  terms ys = map (λ (p : SuchT). p.0) ys

  abbrev each_own : List Term → Bool
  each_own ts = list_all (λ b. b) (map (term_own numbers) ts)

  abbrev each_through : List Term → Conditions
  each_through ts = all_owed (map (through_term numbers ns) ts)

  abbrev Adds : List SuchT → ℤ → ℤ → Type 0
  Adds ys before c = (added (map term_known (terms ys)) before ≡ Some (before +ℤ total (weights be (terms ys))))
      × (is_small ((before +ℤ total (weights be (terms ys))) +ℤ c) ≡ true)

  -- a term that is read, within the limit
  pub record Alone (t : Term) : Type 0 where
    pub found : Num
    pub reads : term_read numbers t ≡ Some found
    pub is : number al found ≡ number_of_term be t
    pub within : is_small (number_of_term be t) ≡ true

  alone : (t : Term) → Said al (in_bounds (term_read numbers t)) → Alone t
  alone t said = by (term_read numbers t) refl said
    where
      by : (o : Option Num) → term_read numbers t ≡ o → Said al (in_bounds o) → Alone t
      by None e h = absurd h
      by (Some u) e h =
          let is : number al u ≡ number_of_term be t = number_read past f numbers (single t) u e ∙ single_number be t in
          record { found = u; reads = e; is = is; within = ap is_small (sym is) ∙ bounds_said al u h }

  -- the constant, behind a sum that is within the limit
  constant_adds : (s : Num) (before c : ℤ) → number al s ≡ before → is_small before ≡ true → Said al (constant_bounded (Some s) c)
      → is_small (before +ℤ c) ≡ true
  constant_adds s before c is fits said = by (int_eq c (pos 0)) refl said
    where
      by_sum : (o : Option Num) → sum s (constant c) ≡ o → Said al (in_bounds o) → is_small (before +ℤ c) ≡ true
      by_sum None e h = absurd h
      by_sum (Some m) e h =
          let sums : number al m ≡ before +ℤ c =
          sum_number_is al s (constant c) m e ∙ (λ j. is j +ℤ number_constant al c j) in
          ap is_small (sym sums) ∙ bounds_said al m h

      by : (b : Bool) → int_eq c (pos 0) ≡ b → Said al (if b then [] else in_bounds (with_constant c (Some s))) → is_small (before +ℤ c) ≡ true
      by true e h =
          ap is_small (ap (λ z. before +ℤ z) ((Decides-int_eq c (pos 0)).0 e) ∙ plus_zero before) ∙ fits
      by false e h = by_sum (sum s (constant c)) refl h

  -- what is owed of a term, and of what comes through it
  term_parts : (t : Term) → Said al (term_owed numbers (with_owed numbers t))
      → Said al (bounded_atom numbers (atom_of t)) × Said al (in_bounds (term_read numbers t))
  term_parts t said =
      let one = subst (λ cs. Said al cs) (term_is numbers t) said in (
        said_front al (bounded_atom numbers (atom_of t)) (in_bounds (term_read numbers t)) one,
        said_behind al (bounded_atom numbers (atom_of t)) (in_bounds (term_read numbers t)) one,
      )

  came_parts : (t : Term) (ts : List Term) → Said al (each_through (t ∷ ts)) → Said al (through_atom numbers ns (atom_of t)) × Said al (each_through ts)
  came_parts t ts said = (
    subst (λ cs. Said al cs) (through_inside numbers ns t) (said_front al (through_term numbers ns t) (each_through ts) said),
    said_behind al (through_term numbers ns t) (each_through ts) said,
  )

  more_add : (ys : List SuchT) (s : Num) (before c : ℤ) → number al s ≡ before → is_small before ≡ true → each_own (terms ys) ≡ true
      → Said al (more_bounded numbers (Some s) (map (with_owed numbers) (terms ys)) c) → Said al (each_through (terms ys)) → Adds ys before c
  more_add [] s before c is fits own said came = (
    ap (λ z. Some z) (sym (plus_zero before)),
    ap (λ z. is_small (z +ℤ c)) (plus_zero before) ∙ constant_adds s before c is fits said,
  )
  more_add (y ∷ ys) s before c is fits own said came =
      let owns = and_parts (term_own numbers y.0) (each_own (terms ys)) own in
      let through_parts = came_parts y.0 (terms ys) came in
      let t : Option Num = with_term (Some s) (term_read numbers y.0) in
      let first = said_front al (term_owed numbers (with_owed numbers y.0) ++ in_bounds t) (more_bounded numbers t (map (with_owed numbers) (terms ys)) c) said in
      let rest = said_behind al (term_owed numbers (with_owed numbers y.0) ++ in_bounds t) (more_bounded numbers t (map (with_owed numbers) (terms ys)) c) said in
      let parts = term_parts y.0 (said_front al (term_owed numbers (with_owed numbers y.0)) (in_bounds t) first) in
      let a = alone y.0 parts.1 in
      let same : t ≡ sum s a.found = ap (with_term (Some s)) a.reads in
      by a owns.0 parts.0 through_parts.0 (λ m sums within h. more_add ys m (before +ℤ number_of_term be y.0) c sums within owns.1 h through_parts.1) (sum s a.found) refl
      (subst (λ o. Said al (in_bounds o)) same (said_behind al (term_owed numbers (with_owed numbers y.0)) (in_bounds t) first))
      (subst (λ o. Said al (more_bounded numbers o (map (with_owed numbers) (terms ys)) c)) same rest)
    where
      by : (a : Alone y.0) → term_own numbers y.0 ≡ true → Said al (bounded_atom numbers (atom_of y.0)) → Said al (through_atom numbers ns (atom_of y.0))
          → ((m : Num) → number al m ≡ before +ℤ number_of_term be y.0 → is_small (before +ℤ number_of_term be y.0) ≡ true
          → Said al (more_bounded numbers (Some m) (map (with_owed numbers) (terms ys)) c) → Adds ys (before +ℤ number_of_term be y.0) c)
          → (o : Option Num) → sum s a.found ≡ o → Said al (in_bounds o) → Said al (more_bounded numbers o (map (with_owed numbers) (terms ys)) c)
          → Adds (y ∷ ys) before c
      by a owns atom through_it next None e h rest = absurd h
      by a owns atom through_it next (Some m) e h rest =
          let z : ℤ = number_of_term be y.0 in
          let sums : number al m ≡ before +ℤ z = sum_number_is al s a.found m e ∙ (λ j. is j +ℤ a.is j) in
          let fits_now : is_small (before +ℤ z) ≡ true = ap is_small (sym sums) ∙ bounds_said al m h in
          let later = next m sums fits_now rest in (
            ap (λ o. and_then o (λ x. and_then (small (before +ℤ x)) (added (map term_known (terms ys))))) (y.1 owns atom through_it a.within)
                ∙ ap (λ o. and_then o (added (map term_known (terms ys)))) (small_is (before +ℤ z) fits_now) ∙ later.0
                ∙ ap (λ x. Some x) (regroup before z (total (weights be (terms ys)))),
            ap (λ x. is_small (x +ℤ c)) (sym (regroup before z (total (weights be (terms ys))))) ∙ later.1,
          )

  all_add : (ys : List SuchT) (c : ℤ) → is_small c ≡ true → each_own (terms ys) ≡ true
      → Said al (terms_bounded numbers (map (with_owed numbers) (terms ys)) c) → Said al (each_through (terms ys)) → Adds ys (pos 0) c
  all_add [] c fits own said came = (refl, ap is_small (zero_plus c) ∙ fits)
  all_add (y ∷ ys) c fits own said came =
      let owns = and_parts (term_own numbers y.0) (each_own (terms ys)) own in
      let through_parts = came_parts y.0 (terms ys) came in
      let rest = said_behind al (term_owed numbers (with_owed numbers y.0))
      (more_bounded numbers (term_read numbers y.0) (map (with_owed numbers) (terms ys)) c) said in
      let parts = term_parts y.0 (said_front al (term_owed numbers (with_owed numbers y.0))
      (more_bounded numbers (term_read numbers y.0) (map (with_owed numbers) (terms ys)) c) said) in
      let a = alone y.0 parts.1 in
      let z : ℤ = number_of_term be y.0 in
      let fits_now : is_small (pos 0 +ℤ z) ≡ true = ap is_small (zero_plus z) ∙ a.within in
      let later = more_add ys a.found (pos 0 +ℤ z) c (a.is ∙ sym (zero_plus z)) fits_now owns.1
      (subst (λ o. Said al (more_bounded numbers o (map (with_owed numbers) (terms ys)) c)) a.reads rest) through_parts.1 in (
        ap (λ o. and_then o (λ x. and_then (small (pos 0 +ℤ x)) (added (map term_known (terms ys))))) (y.1 owns.0 parts.0 through_parts.0 a.within)
            ∙ ap (λ o. and_then o (added (map term_known (terms ys)))) (small_is (pos 0 +ℤ z) fits_now) ∙ later.0
            ∙ ap (λ x. Some x) (regroup (pos 0) z (total (weights be (terms ys)))),
        ap (λ x. is_small (x +ℤ c)) (sym (regroup (pos 0) z (total (weights be (terms ys))))) ∙ later.1,
      )

  num_step : (y : Num-F SuchA SuchN SuchT) → KnownN (roll-Num (map-Num SuchA SuchN SuchT Atom Num Term (λ p. p.0) (λ p. p.0) (λ p. p.0) y))
  num_step y own m reads said came =
      let ts : List Term = terms y.terms in
      let d : Num-F Atom Num Term = record { terms = ts; constant = y.constant } in
      let n : Num = num ts y.constant in
      let owns : each_own ts ≡ true = sym (fold-roll-Num Bool Bool Bool (atom_owns numbers) (sum_owns numbers) (term_owns numbers) d) ∙ own in
      let turned = fold-roll-Num (Option Num) (Option Num) Became (atom_becomes (number_at numbers)) sum_becomes term_becomes d in
      let sum_read = then_parts (plus_each (map (became (number_at numbers)) ts) zero_num) (plus_constant y.constant) m (sym turned ∙ reads) in
      let same : ts ≡ terms_of n = sym (ap (λ (e : Num-F Atom Num Term). e.terms) (out-roll-Num d)) in
      let here : Said al (terms_bounded numbers (map (with_owed numbers) ts) y.constant) =
      subst (λ (e : Num-F Atom Num Term). Said al (terms_bounded numbers (map (with_owed numbers) ts) e.constant)) (out-roll-Num d)
      (subst (λ cs. Said al cs) (number_is numbers n ts same) said) in
      let sums = all_add y.terms y.constant (constant_small y.constant sum_read.0 m sum_read.2) owns here
      (subst (λ cs. Said al cs) (through_is numbers ns n ts same) came) in
      let whole : ℤ = pos 0 +ℤ total (weights be ts) in
      fold-roll-Num (Option ℤ) (Option ℤ) (Option ℤ) (known_atom nu) known_sum known_term d
      ∙ ap (λ o. and_then o (λ z. small (z +ℤ y.constant))) sums.0 ∙ small_is (whole +ℤ y.constant) sums.1
      ∙ ap (λ z. Some (z +ℤ y.constant)) (zero_plus (total (weights be ts))) ∙ ap (λ z. Some z) (sym (number_num be ts y.constant))

  pub number_known : (n : Num) → KnownN n
  number_known = ind-Num KnownA KnownN KnownT (λ e y is. subst (λ d. KnownA (roll-Atom d)) is (atom_step y))
      (λ e y is. subst (λ d. KnownN (roll-Num d)) is (num_step y)) (λ e y is. subst (λ d. KnownT (roll-Term d)) is (term_step y))
