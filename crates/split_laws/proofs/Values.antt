-- A number or condition that is worked out is what it is where its variables have these integers.
use Rattle.std.proofs.Common.{◌≡◌, ◌∙◌, ap, sym, refl, subst, ℕ, Bool, true, false, ◌&&◌, ◌||◌, List, [], ◌∷◌, map, pos, arith}
use Rattle.std.specs.Prelude.{ℤ, ◌+ℤ◌, ◌*ℤ◌, not, Option, Some, None, option_map, unwrap_or, if◌then◌else◌}
use Rattle.std.specs.List.{list_all, list_any}
use Rattle.std.specs.Ordering.{int_eq}
use Rattle.std.proofs.lemmas.Int.{ints}
use Rattle.sail_types.specs.Limits.{is_small, small_power}
use Rattle.sail_types.specs.Numbers.{Assignment, Positive, atom_number, compares, form_true, number, number_of_atom, number_of_term}
use Rattle.sail_types.specs.Numbers.{sum_number, term_number, total, true_in}
use Rattle.sail_types.specs.declared.numbers.Num.{Num, roll-Num}
use Rattle.sail_types.specs.declared.numbers.Term.{Term, roll-Term}
use Rattle.sail_types.specs.declared.numbers.Atom.{Atom, roll-Atom}
use Rattle.sail_types.specs.declared.numbers.Atom.TheOpen as N
use Rattle.sail_types.specs.declared.numbers.Atom.TheOpen.{Atom-F, Num-F, Term-F}
use Rattle.sail_types.specs.declared.numbers.Atom.TheFolds.{fold-roll-Atom, fold-roll-Num, fold-roll-Term, map-Atom, map-Num, map-Term, ind-Num}
use Rattle.sail_types.specs.declared.numbers.Atom.TheFolds.{para-roll-Atom}
use Rattle.sail_types.specs.declared.numbers.Con.{Con, Con-F, roll-Con, fold-roll-Con, map-Con, ind-Con}
use Rattle.sail_types.specs.declared.numbers.Con.TheOpen as E
use Rattle.sail_types.proofs.SumNumbers.{number_num, number_term, some_same}
use Rattle.size_values.specs.declared.constants.Constant.{Constant}
use Rattle.size_values.specs.Numbers.{added, atom_value, every, form_truth, may_hold, not_false, number_in, small, some, sum_value}
use Rattle.size_values.specs.Numbers.{term_value, truth_of, value_of, value_of_atom, value_of_term}
use Rattle.value_laws.specs.Belonging.{Integers, standing}
use Rattle.value_laws.specs.Known.{AllTrue}
use Rattle.split_laws.proofs.Basics.{and_same, and_true, mapped_found, none, or_false, or_same, then_found}

small_where : (b : Bool) (z w : ℤ) → (if b then Some z else None) ≡ Some w → z ≡ w
small_where true z w h = some_same z w h
small_where false z w h = none h

small_is : (z w : ℤ) → small z ≡ Some w → z ≡ w
small_is z w h = small_where (is_small z) z w h

-- one of a sum
one_found : (o : Option ℤ) (os : List (Option ℤ)) (z r : ℤ) → added z (o ∷ os) ≡ Some r → (x : ℤ) × (o ≡ Some x) × (added (z +ℤ x) os ≡ Some r)
one_found None os z r h = none h
one_found (Some x) os z r h =
    let more = then_found (small (z +ℤ x)) (λ (w : ℤ). added w os) r h in
    (x, refl, ap (λ (w : ℤ). added w os) (small_is (z +ℤ x) more.0 more.1) ∙ more.2)

module _ (past : Positive) (f : Integers) (of : ℕ → Constant) (agrees : (v : ℕ) (z : ℤ) → number_in (of v) ≡ Some z → f v ≡ z) where
  abbrev mu : Assignment
  mu = standing past f

  -- ---- numbers

  abbrev IsA : Atom → Type 0
  IsA a = (z : ℤ) → value_of_atom of a ≡ Some z → number_of_atom mu a ≡ z

  abbrev IsN : Num → Type 0
  IsN n = (z : ℤ) → value_of of n ≡ Some z → number mu n ≡ z

  abbrev IsT : Term → Type 0
  IsT t = (z : ℤ) → value_of_term of t ≡ Some z → number_of_term mu t ≡ z

  abbrev SuchA : Type 0
  SuchA = (a : Atom) × IsA a

  abbrev SuchN : Type 0
  SuchN = (n : Num) × IsN n

  abbrev SuchT : Type 0
  SuchT = (t : Term) × IsT t

  valued_atom : (y : Atom-F Atom Num Term) → value_of_atom of (roll-Atom y)
      ≡ atom_value of (map-Atom Atom Num Term (Option ℤ) (Option ℤ) (Option ℤ) (value_of_atom of) (value_of of) (value_of_term of) y)
  valued_atom y = fold-roll-Atom (Option ℤ) (Option ℤ) (Option ℤ) (atom_value of) sum_value term_value y

  atom_step : (y : Atom-F SuchA SuchN SuchT) → IsA (roll-Atom (map-Atom SuchA SuchN SuchT Atom Num Term (λ p. p.0) (λ p. p.0) (λ p. p.0) y))
  atom_step (N.Variable i) z h =
      para-roll-Atom ℤ ℤ ℤ (atom_number mu) sum_number term_number (N.Variable i) ∙ agrees i z (sym (valued_atom (N.Variable i)) ∙ h)
  atom_step (N.Power t) z h =
      let found = then_found (value_of of t.0) small_power z (sym (valued_atom (N.Power t.0)) ∙ h) in
      para-roll-Atom ℤ ℤ ℤ (atom_number mu) sum_number term_number (N.Power t.0)
      ∙ ap (λ (x : ℤ). unwrap_or (small_power x) past.value) (t.1 found.0 found.1)
      ∙ ap (λ (o : Option ℤ). unwrap_or o past.value) found.2

  each_added : (ys : List SuchT) (z r : ℤ) → added z (map (value_of_term of) (map (λ p. p.0) ys)) ≡ Some r
      → (z +ℤ total (map (number_of_term mu) (map (λ p. p.0) ys))) ≡ r
  each_added [] z r h = let e : z ≡ r = some_same z r h in omega (arith, ints, e)
  each_added (y ∷ ys) z r h =
      let found = one_found (value_of_term of y.0) (map (value_of_term of) (map (λ (p : SuchT). p.0) ys)) z r h in
      let here : number_of_term mu y.0 ≡ found.0 = y.1 found.0 found.1 in
      let rest : ((z +ℤ found.0) +ℤ total (map (number_of_term mu) (map (λ (p : SuchT). p.0) ys))) ≡ r = each_added ys (z +ℤ found.0) r found.2 in
      omega (arith, ints, here, rest)

  num_step : (y : Num-F SuchA SuchN SuchT) → IsN (roll-Num (map-Num SuchA SuchN SuchT Atom Num Term (λ p. p.0) (λ p. p.0) (λ p. p.0) y))
  num_step y z h =
      let ts : List Term = map (λ p. p.0) y.terms in
      let form : Num-F Atom Num Term = record { terms = ts; constant = y.constant } in
      let found = then_found (added (pos 0) (map (value_of_term of) ts)) (λ (x : ℤ). small (x +ℤ y.constant)) z
      (sym (fold-roll-Num (Option ℤ) (Option ℤ) (Option ℤ) (atom_value of) sum_value term_value form) ∙ h) in
      let terms : (pos 0 +ℤ total (map (number_of_term mu) ts)) ≡ found.0 = each_added y.terms (pos 0) found.0 found.1 in
      let whole : (found.0 +ℤ y.constant) ≡ z = small_is (found.0 +ℤ y.constant) z found.2 in
      let said : number mu (roll-Num form) ≡ (total (map (number_of_term mu) ts) +ℤ y.constant) = number_num mu ts y.constant in
      omega (arith, ints, terms, whole, said)

  term_step : (y : Term-F SuchA SuchN SuchT) → IsT (roll-Term (map-Term SuchA SuchN SuchT Atom Num Term (λ p. p.0) (λ p. p.0) (λ p. p.0) y))
  term_step y z h =
      let form : Term-F Atom Num Term = record { coefficient = y.coefficient; atom = y.atom.0 } in
      let found = then_found (value_of_atom of y.atom.0) (λ (x : ℤ). small (y.coefficient *ℤ x)) z
      (sym (fold-roll-Term (Option ℤ) (Option ℤ) (Option ℤ) (atom_value of) sum_value term_value form) ∙ h) in
      number_term mu y.coefficient y.atom.0
      ∙ (ap (λ (x : ℤ). y.coefficient *ℤ x) (y.atom.1 found.0 found.1) ∙ small_is (y.coefficient *ℤ found.0) z found.2)

  pub value_is : (n : Num) → IsN n
  value_is = ind-Num IsA IsN IsT (λ e y is. subst (λ d. IsA (roll-Atom d)) is (atom_step y))
      (λ e y is. subst (λ d. IsN (roll-Num d)) is (num_step y)) (λ e y is. subst (λ d. IsT (roll-Term d)) is (term_step y))

  -- ---- conditions

  abbrev IsC : Con → Type 0
  IsC c = (b : Bool) → truth_of of c ≡ Some b → true_in mu c ≡ b

  abbrev SuchC : Type 0
  SuchC = (c : Con) × IsC c

  every_one : (o : Option Bool) (os : List (Option Bool)) (d b : Bool) → every d (o ∷ os) ≡ Some b
      → (e : Bool) × (o ≡ Some e) × (every (d && e) os ≡ Some b)
  every_one None os d b h = none h
  every_one (Some e) os d b h = (e, refl, h)

  some_one : (o : Option Bool) (os : List (Option Bool)) (d b : Bool) → some d (o ∷ os) ≡ Some b
      → (e : Bool) × (o ≡ Some e) × (some (d || e) os ≡ Some b)
  some_one None os d b h = none h
  some_one (Some e) os d b h = (e, refl, h)

  each_every : (ys : List SuchC) (d b : Bool) → every d (map (truth_of of) (map (λ p. p.0) ys)) ≡ Some b
      → (d && list_all (λ x. x) (map (true_in mu) (map (λ p. p.0) ys))) ≡ b
  each_every [] d b h = and_true d ∙ some_same d b h
  each_every (y ∷ ys) d b h =
      let others : Bool = list_all (λ x. x) (map (true_in mu) (map (λ (p : SuchC). p.0) ys)) in
      let found = every_one (truth_of of y.0) (map (truth_of of) (map (λ (p : SuchC). p.0) ys)) d b h in
      ap (λ (e : Bool). d && (e && others)) (y.1 found.0 found.1) ∙ (sym (and_same d found.0 others) ∙ each_every ys (d && found.0) b found.2)

  each_some : (ys : List SuchC) (d b : Bool) → some d (map (truth_of of) (map (λ p. p.0) ys)) ≡ Some b
      → (d || list_any (λ x. x) (map (true_in mu) (map (λ p. p.0) ys))) ≡ b
  each_some [] d b h = or_false d ∙ some_same d b h
  each_some (y ∷ ys) d b h =
      let others : Bool = list_any (λ x. x) (map (true_in mu) (map (λ (p : SuchC). p.0) ys)) in
      let found = some_one (truth_of of y.0) (map (truth_of of) (map (λ (p : SuchC). p.0) ys)) d b h in
      ap (λ (e : Bool). d || (e || others)) (y.1 found.0 found.1) ∙ (sym (or_same d found.0 others) ∙ each_some ys (d || found.0) b found.2)

  form_is : (y : Con-F SuchC) (b : Bool) → form_truth of (map-Con Con (Option Bool) (truth_of of) (map-Con SuchC Con (λ p. p.0) y)) ≡ Some b
      → form_true mu (map-Con Con Bool (true_in mu) (map-Con SuchC Con (λ p. p.0) y)) ≡ b
  form_is (E.Truth c) b h = some_same c b h
  form_is (E.Holds p) b h = none h
  form_is (E.Compare how t u) b h =
      let left = then_found (value_of of t) (λ (x : ℤ). option_map (compares how x) (value_of of u)) b h in
      let right = mapped_found (value_of of u) (compares how left.0) b left.2 in
      ap (λ (x : ℤ). compares how x (number mu u)) (value_is t left.0 left.1)
      ∙ (ap (λ (x : ℤ). compares how left.0 x) (value_is u right.0 right.1) ∙ right.2)
  form_is (E.OneOf t zs) b h =
      let found = mapped_found (value_of of t) (λ (x : ℤ). list_any (int_eq x) zs) b h in
      ap (λ (x : ℤ). list_any (int_eq x) zs) (value_is t found.0 found.1) ∙ found.2
  form_is (E.Not y) b h = let found = mapped_found (truth_of of y.0) not b h in ap not (y.1 found.0 found.1) ∙ found.2
  form_is (E.All ys) b h = each_every ys true b h
  form_is (E.Any ys) b h = each_some ys false b h

  rolled_is : (y : Con-F SuchC) → IsC (roll-Con (map-Con SuchC Con (λ p. p.0) y))
  rolled_is y b h =
      let form : Con-F Con = map-Con SuchC Con (λ (p : SuchC). p.0) y in
      fold-roll-Con Bool (form_true mu) form ∙ form_is y b (sym (fold-roll-Con (Option Bool) (form_truth of) form) ∙ h)

  pub truth_is : (c : Con) → IsC c
  truth_is = ind-Con IsC (λ e y is. subst (λ d. IsC (roll-Con d)) is (rolled_is y))

  -- ---- what is true may hold

  unless_false : (o : Option Bool) → ((b : Bool) → o ≡ Some b → b ≡ true) → not_false o ≡ true
  unless_false None h = refl
  unless_false (Some b) h = h b refl

  pub true_may : (cs : List Con) → AllTrue mu cs → may_hold of cs ≡ true
  true_may [] h = refl
  true_may (c ∷ cs) h =
      ap (λ (b : Bool). b && may_hold of cs) (unless_false (truth_of of c) (λ b e. sym (truth_is c b e) ∙ h.0)) ∙ true_may cs h.1
