-- `sizeof` and `constraint`, as kinds of nodes.
use Rattle.std.proofs.Common.{◌≡◌, ◌∙◌, ap, sym, refl, subst, ℕ, zero, suc, ◌^◌, arith, ℤ, pos, negsuc, int_le, Bool, true, false, List, [], ◌∷◌}
use Rattle.std.proofs.Common.{slice_get, ◌++◌, Option, Some, None}
use Rattle.std.specs.Prelude.{◌<◌, ◌≤ℤ◌, ◌+ℤ◌, ◌||◌, not, if◌then◌else◌}
use Rattle.std.specs.List.{list_any}
use Rattle.std.proofs.lemmas.Bool.{and_parts, lt-ltb}
use Rattle.std.proofs.lemmas.Int.{ints}
use Rattle.sail_base.specs.declared.place.Place.{Place}
use Rattle.sail_types.specs.Limits.{is_small, small_power}
use Rattle.sail_types.specs.Numbers.{Assignment, Positive, number, true_in}
use Rattle.sail_types.specs.Places.{Given}
use Rattle.sail_types.specs.Readings.{read_con, truth_at}
use Rattle.sail_types.specs.Sums.{constant, is_constant, number_at, read, variable}
use Rattle.sail_types.specs.declared.numbers.Atom.{Atom, out-Atom}
use Rattle.sail_types.specs.declared.numbers.Atom.TheFolds.{fold-roll-Num}
use Rattle.sail_types.specs.declared.numbers.Atom.TheOpen as N
use Rattle.sail_types.specs.declared.numbers.Atom.TheOpen.{Atom-F}
use Rattle.sail_types.specs.declared.numbers.Atom.TheVariants as A
use Rattle.sail_types.specs.declared.numbers.Atom.TheViews.{out-roll-Atom, roll-out-Num}
use Rattle.sail_types.specs.declared.numbers.Con.{Con}
use Rattle.sail_types.specs.declared.numbers.Con.TheVariants as V
use Rattle.sail_types.specs.declared.numbers.Index.{Index}
use Rattle.sail_types.specs.declared.numbers.Index.TheVariants as X
use Rattle.sail_types.specs.declared.numbers.Num.{Num, out-Num}
use Rattle.sail_types.specs.declared.numbers.Term.{Term}
use Rattle.sail_types.specs.declared.types.Typ.TheVariants as U
use Rattle.sail_types.specs.declared.values.Value.TheVariants as Y
use Rattle.sail_types.proofs.EqualAtoms.{eq_atom-Decides}
use Rattle.sail_types.proofs.SumNumbers.{some_same, then_parts}
use Rattle.sail_types.proofs.Substituted.{number_constant}
use Rattle.sail_core.specs.Making.{World}
use Rattle.sail_core.specs.Meaning.{kind_meaning}
use Rattle.sail_core.specs.Numbers.{given_bool, given_int, known, known_atom, known_sum, known_term, known_truth, small}
use Rattle.sail_core.specs.Run.{gives, needs, ◌then◌}
use Rattle.sail_core.specs.Values.{int_typ}
use Rattle.sail_core.specs.declared.patterns.Literal.TheVariants as L
use Rattle.sail_core.specs.declared.tree.Kind.TheVariants as K
use Rattle.sail_core.specs.declared.written.Role.{Role}
use Rattle.sail_core.specs.declared.written.Role.TheVariants as Size
use Rattle.sail_core.specs.declared.written.WrittenNumber.{WrittenNumber}
use Rattle.value_indices.specs.Opening.{between, fresh_integer, largest_num, least_num, number_or_fresh, truth_or_fresh}
use Rattle.value_indices.specs.Steps.{Conditions, Walk, bind, fresh, give, owe}
use Rattle.value_indices.specs.declared.indices.Indices.{Indices}
use Rattle.value_indices.specs.declared.indices.Indices.TheOpen as W
use Rattle.value_indices.specs.declared.indices.Indices.TheVariants as I
use Rattle.value_indices.specs.declared.notes.Fact.{Fact}
use Rattle.pattern_leaves.specs.Settings.{Around, Scope, exponent_owed, exponents_owed, fine_exponent, number_owed}
use Rattle.call_arguments.specs.declared.aims.Aim.{Aim}
use Rattle.call_notes.specs.Ends.{settled}
use Rattle.expression_forms.specs.Sizes.{bounded, compared, constraint_walk, exponent_is, exponent_through, is_exponent, is_side, owed_if, owes_there}
use Rattle.expression_forms.specs.Sizes.{same_number, side_is, side_owed, sides_owed, size_owed, size_walk, sized_integer, through, truth_owed, varies}
use Rattle.expression_steps.specs.Expressions.{kind_walk, node_end}
use Rattle.checked_meaning.specs.Checked.{checked}
use Rattle.checked_meaning.specs.Items.{Item, fixed_typ, item}
use Rattle.fitting_laws.specs.Fitting.{Said}
use Rattle.fitting_laws.proofs.Counting.{fresh_grows}
use Rattle.fitting_laws.proofs.Joining.{conjunction_said, said_behind, said_front}
use Rattle.value_laws.specs.Belonging.{Integers, standing}
use Rattle.value_laws.specs.Known.{Agree, Point}
use Rattle.value_laws.proofs.Basics.{no}
use Rattle.value_laws.proofs.Meanings.{integers_same, truths_same}
use Rattle.value_laws.proofs.Numbers.{at_most_is, number_read, truth_is, truth_read}
use Rattle.value_laws.proofs.Steps.{same}
use Rattle.value_laws.proofs.Values.{meant_is}
use Rattle.soundness_steps.specs.Points.{Later}
use Rattle.soundness_steps.specs.Steps.{Beside, Grows, Walks}
use Rattle.soundness_steps.specs.Values.{AimSteady, Comes, Is}
use Rattle.soundness_steps.specs.Works.{Scene, here}
use Rattle.soundness_steps.proofs.Points.{agree_on}
use Rattle.soundness_steps.proofs.Steps.{given_back, owes, rests, walks_mean, walks_on, walks_then}
use Rattle.soundness_forms.specs.EachKind.{node}
use Rattle.soundness_forms.specs.Forms.{FitsSuffice, at}
use Rattle.soundness_forms.specs.Worlds.{AreGiven, Surrounds}
use Rattle.soundness_forms.proofs.Basics.{aim_on, settles}
use Rattle.soundness_forms.proofs.Constants.{literal_has, literal_sized}
use Rattle.soundness_forms.proofs.Growth.{grows_assume, grows_bind, grows_end, grows_give, grows_owe, grows_settled}
use Rattle.soundness_forms.proofs.PlainKinds.{exponents_grow, fine_by, wrong_fine}
use Rattle.soundness_forms.proofs.Tests.{integer_sized, truth_sized}
use Rattle.soundness_forms.proofs.Written.{owed_any}
use Rattle.soundness_sizes.specs.Laws.{ConstraintsAreFine, SizesAreFine}
use Rattle.soundness_sizes.specs.Own.{con_own, is_integer, is_truth, number_own}
use Rattle.soundness_sizes.proofs.Known.{number_known}
use Rattle.soundness_sizes.proofs.Truths.{truth_known}

-- ---- what is owed

-- what a walk says, with where it comes
reached : {q : Scene} {n : ℕ} {f : Point n} {facts : List Fact} {B : Type 0} {w : Walk B} {Holds : (m : ℕ) → Point m → B → Type 0}
    → Walks q n f facts w Holds → Walks q n f facts w (λ m g a. Later f g × Holds m g a)
reached b = record {
  go = λ noted stands met.
      let r = b.go noted stands met in record { point = r.point; later = r.later; stands = r.stands; holds = (r.later, r.holds) };
}

owed_said : {q : Scene} {n : ℕ} {f : Point n} {facts : List Fact} (place : Place) (cs : Conditions)
    → Walks q n f facts (owe place cs) (λ m g t. (h : Integers) → Agree g h → Said (standing q.set.past h) cs)
owed_said place [] = walks_mean (λ m g t b. λ h a. tt) (owed_any place [])
owed_said {q} place (c ∷ cs) = walks_mean (λ m g t b. λ h a. conjunction_said (standing q.set.past h) (c ∷ cs) (b h a)) (owes place c cs)

-- ---- numbers that are the same

abbrev inside_power : Atom-F Atom Num Term → Num
inside_power (N.Variable i) = variable i
inside_power (N.Power t) = t

power_out : (t : Num) → out-Atom (A.Power t) ≡ N.Power t
power_out t = ap out-Atom (sym (A.rolls-Power t)) ∙ out-roll-Atom (N.Power t)

pub same_is : (t u : Num) → same_number t u ≡ true → t ≡ u
same_is t u e = ap inside_power (sym (power_out t) ∙ ap out-Atom ((eq_atom-Decides (A.Power t) (A.Power u)).0 e) ∙ power_out u)

small_said : (y z : ℤ) → small y ≡ Some z → is_small z ≡ true
small_said y z h = by (is_small y) refl h
  where
    by : (b : Bool) → is_small y ≡ b → (if b then Some y else None) ≡ Some z → is_small z ≡ true
    by true e k = ap is_small (sym (some_same y z k)) ∙ e
    by false e k = absurd (cc)

-- what is known is within the limit
known_small : (nu : List Given) (t : Num) (z : ℤ) → known nu t ≡ Some z → is_small z ≡ true
known_small nu t z e =
    let form = out-Num t in
    let opened = ap (known nu) (sym (roll-out-Num t))
    ∙ fold-roll-Num (Option ℤ) (Option ℤ) (Option ℤ) (known_atom nu) known_sum known_term form in
    let parts = then_parts _ (λ x. small (x +ℤ form.constant)) z (sym opened ∙ e) in
    small_said (parts.0 +ℤ form.constant) z parts.2

power_of : (z : ℤ) → int_le (pos 0) z ≡ true → int_le z (pos 126) ≡ true → (p : ℤ) × (small_power z ≡ Some p)
power_of z low high = by z (le_from (pos 0) z low) (le_from z (pos 126) high)
  where
    le_from : (u v : ℤ) → int_le u v ≡ true → u ≤ℤ v
    le_from u v e = grind (arith, ints)

    by : (z : ℤ) → pos 0 ≤ℤ z → z ≤ℤ pos 126 → (p : ℤ) × (small_power z ≡ Some p)
    by (pos n) h k = let l : n < 127 = omega (arith, ints) in (pos (2 ^ n), ap (λ b. if b then Some (pos (2 ^ n)) else None) (lt-ltb n 127 l))
    by (negsuc n) h k = absurd (omega (arith, ints))

-- ---- what is owed of each number that is written at an expression

module _ (past : Positive) (numbers : List Index) (owed : WrittenNumber → Role → Conditions)
    (exponent : (x : WrittenNumber) → owed x Size.Exponent ≡ exponent_owed (read numbers x.number)) (f : Integers) where
  abbrev al : Assignment
  al = standing past f

  abbrev AllSaid : List WrittenNumber → Type 0
  AllSaid [] = Unit {0}
  AllSaid (x ∷ xs) = Said al (owed x x.role) × AllSaid xs

  -- an exponent is read, and from 0 to 126
  abbrev Power : Num → Type 0
  Power u = (v : Num) × (z : ℤ) × (read numbers u ≡ Some v) × (small_power (number al v) ≡ Some z)

  exponent_said : (v : Num) → Said al (fine_exponent (Some v)) → (z : ℤ) × (small_power (number al v) ≡ Some z)
  exponent_said v h =
      power_of (number al v)
      (ap (λ z. int_le z (number al v)) (sym (number_constant al (pos 0))) ∙ sym (at_most_is al (constant (pos 0)) v) ∙ h.0)
      (ap (λ z. int_le (number al v) z) (sym (number_constant al (pos 126))) ∙ sym (at_most_is al v (constant (pos 126))) ∙ h.1.0)

  fine_power : (u : Num) → Said al (fine_exponent (read numbers u)) → Power u
  fine_power u h = by (read numbers u) refl h
    where
      by : (o : Option Num) → read numbers u ≡ o → Said al (fine_exponent o) → Power u
      by None e h = absurd h
      by (Some v) e h = let p = exponent_said v h in (v, p.0, e, p.1)

  owed_fine : (o : Option Num) → varies o ≡ true → exponent_owed o ≡ fine_exponent o
  owed_fine None h = refl
  owed_fine (Some v) h = by (is_constant v) h
    where
      by : (b : Bool) → not b ≡ true → (if b then [] else fine_exponent (Some v)) ≡ fine_exponent (Some v)
      by true h = no h
      by false h = refl

  exponent_here : (x : WrittenNumber) (u : Num) (role : Role) → is_exponent role ≡ true → Said al (owed x role) → same_number x.number u ≡ true
      → varies (read numbers u) ≡ true → Power u
  exponent_here x u Size.Exponent e h same varied =
      fine_power u (subst (λ cs. Said al cs)
      (exponent x ∙ ap (λ t. exponent_owed (read numbers t)) (same_is x.number u same) ∙ owed_fine (read numbers u) varied) h)
  exponent_here x u role e h same varied = no e

  exponent_found : (u : Num) → varies (read numbers u) ≡ true → (xs : List WrittenNumber) → AllSaid xs → list_any (exponent_is u) xs ≡ true → Power u
  exponent_found u varied [] said e = no e
  exponent_found u varied (x ∷ xs) said e = by (λ h. exponent_found u varied xs said.1 h) (exponent_is u x) refl e
    where
      by : (list_any (exponent_is u) xs ≡ true → Power u) → (b : Bool) → exponent_is u x ≡ b → (b || list_any (exponent_is u) xs) ≡ true → Power u
      by next true is h = let both = and_parts (is_exponent x.role) (same_number x.number u) is in exponent_here x u x.role both.0 said.0 both.1 varied
      by next false is h = next h

  -- whether it is written there or comes through a name
  pub exponents_found : (xs : List WrittenNumber) → AllSaid xs → (u : Num) → Said al (exponent_through numbers xs u) → Power u
  exponents_found xs said u h = by (owes_there xs u (read numbers u)) refl h
    where
      by : (b : Bool) → owes_there xs u (read numbers u) ≡ b → Said al (if b then [] else fine_exponent (read numbers u)) → Power u
      by true e h = let both = and_parts (varies (read numbers u)) (list_any (exponent_is u) xs) e in exponent_found u both.0 xs said both.1
      by false e h = fine_power u h

  module _ (side : (x : WrittenNumber) → owed x Size.Side ≡ size_owed numbers x.number) where
    side_here : (x : WrittenNumber) (t : Num) (role : Role) → is_side role ≡ true → Said al (owed x role) → same_number x.number t ≡ true
        → Said al (size_owed numbers t)
    side_here x t Size.Side e h same = subst (λ cs. Said al cs) (side x ∙ ap (size_owed numbers) (same_is x.number t same)) h
    side_here x t role e h same = no e

    pub side_found : (xs : List WrittenNumber) → AllSaid xs → (t : Num) → list_any (side_is t) xs ≡ true → Said al (size_owed numbers t)
    side_found [] said t e = no e
    side_found (x ∷ xs) said t e = by (λ h. side_found xs said.1 t h) (side_is t x) refl e
      where
        by : (list_any (side_is t) xs ≡ true → Said al (size_owed numbers t)) → (b : Bool) → side_is t x ≡ b → (b || list_any (side_is t) xs) ≡ true
            → Said al (size_owed numbers t)
        by next true is h = let both = and_parts (is_side x.role) (same_number x.number t) is in side_here x t x.role both.0 said.0 both.1
        by next false is h = next h

-- ---- what type variables stand for

module _ (q : Scene) (w : World Item) {n : ℕ} (f : Point n) (h : Integers) (a : Agree f h) where
  int_given : (is : List Index) (ys : List Given) → AreGiven q w f is ys → (k : ℕ) → is_integer (slice_get is k) ≡ true
      → given_int (slice_get ys k) ≡ Some (number (standing q.set.past h) (number_at is k))
  int_given (X.Number t ∷ is) (y ∷ ys) g zero e = ap (λ u. given_int (Some u)) (g.0 h a)
  int_given (X.Truth c ∷ is) (y ∷ ys) g zero e = no e
  int_given (i ∷ is) (y ∷ ys) g (suc k) e = int_given is ys g.1 k e
  int_given [] [] g k e = no e
  int_given [] (y ∷ ys) g k e = absurd g
  int_given (i ∷ is) [] g k e = absurd g

  truth_given : (is : List Index) (ys : List Given) → AreGiven q w f is ys → (k : ℕ) → is_truth (slice_get is k) ≡ true
      → given_bool (slice_get ys k) ≡ Some (true_in (standing q.set.past h) (truth_at is k))
  truth_given (X.Truth c ∷ is) (y ∷ ys) g zero e = ap (λ u. given_bool (Some u)) (g.0 h a)
  truth_given (X.Number t ∷ is) (y ∷ ys) g zero e = no e
  truth_given (i ∷ is) (y ∷ ys) g (suc k) e = truth_given is ys g.1 k e
  truth_given [] [] g k e = no e
  truth_given [] (y ∷ ys) g k e = absurd g
  truth_given (i ∷ is) [] g k e = absurd g

-- ---- the values

module _ (q : Scene) {n : ℕ} {f : Point n} where
  integer_is : (z : ℤ) → is_small z ≡ true → (t : Num) → ((h : Integers) → Agree f h → number (standing q.set.past h) t ≡ z)
      → Is q.set q.work f (I.Integer t) (item (fixed_typ q.set.around.types int_typ) (Y.Integer z))
  integer_is z fits t is =
      let types = q.set.around.types in
      let past = q.set.past in
      let own = q.work.types in
      let k = literal_has q.set q.work f (L.Integer z) fits in record {
        has = record {
          meaning = k.meaning;
          is_so = k.is_so;
          steady = λ g a.
              meant_is types (standing past g) own (I.Integer t) (W.Integer t) (I.rolls-Integer t)
              ∙ integers_same types past own g g t (constant z) (is g a ∙ sym (number_constant (standing past g) z))
              ∙ sym (meant_is types (standing past g) own (I.Integer (constant z)) (W.Integer (constant z)) (I.rolls-Integer (constant z)))
              ∙ k.steady g a;
        };
        typ = λ exact g a. literal_sized types q.work.own g (L.Integer z) ∙ integer_sized types q.work.own g (constant z)
            ∙ sym (integer_sized types q.work.own g t);
      }

  truth_item : (b : Bool) (c : Con) → ((h : Integers) → Agree f h → true_in (standing q.set.past h) c ≡ b)
      → Is q.set q.work f (I.Truth c) (item (fixed_typ q.set.around.types U.Bool) (Y.Truth b))
  truth_item b c is =
      let types = q.set.around.types in
      let past = q.set.past in
      let own = q.work.types in
      let k = literal_has q.set q.work f (L.Truth b) refl in record {
        has = record {
          meaning = k.meaning;
          is_so = k.is_so;
          steady = λ g a.
              meant_is types (standing past g) own (I.Truth c) (W.Truth c) (I.rolls-Truth c)
              ∙ truths_same types past own g g c (V.Truth b) (is g a ∙ sym (truth_is (standing past g) b))
              ∙ sym (meant_is types (standing past g) own (I.Truth (V.Truth b)) (W.Truth (V.Truth b)) (I.rolls-Truth (V.Truth b)))
              ∙ k.steady g a;
        };
        typ = λ exact g a. literal_sized types q.work.own g (L.Truth b) ∙ truth_sized types q.work.own g (V.Truth b)
            ∙ sym (truth_sized types q.work.own g c);
      }

-- ---- beside the walk

number_walks : {q : Scene} {n : ℕ} {f : Point n} {facts : List Fact} (t : Num) → Walks q n f facts (number_or_fresh (Some t)) (λ m g u. u ≡ t)
unfolding number_or_fresh
number_walks t = given_back t refl

truth_walks : {q : Scene} {n : ℕ} {f : Point n} {facts : List Fact} (c : Con) → Walks q n f facts (truth_or_fresh (Some c)) (λ m g d. d ≡ c)
unfolding truth_or_fresh
truth_walks c = given_back c refl

module _ (q : Scene) (w : World Item) where
  abbrev written : WrittenNumber → Role → Conditions
  written x role = number_owed (here q) x role

  abbrev compared_there : WrittenNumber → Role → Conditions
  compared_there x role = side_owed (here q) x role

  exponents_say : {n : ℕ} {f : Point n} {facts : List Fact} (xs : List WrittenNumber) → Walks q n f facts (exponents_owed (here q) xs)
      (λ m g t. (h : Integers) → Agree g h → AllSaid q.set.past q.numbers written (λ x. refl) h xs)
  exponents_say [] = given_back tt (λ h a. tt)
  exponents_say (x ∷ xs) = walks_on (λ t. exponents_owed (here q) xs) (owed_said x.place (number_owed (here q) x x.role)) (λ m g fs t l said.
      walks_mean (λ m2 g2 u b. λ h a. (said h (agree_on b.0 a), b.1 h a)) (reached (exponents_say xs)))

  sides_say : {n : ℕ} {f : Point n} {facts : List Fact} (xs : List WrittenNumber) → Walks q n f facts (sides_owed (here q) xs)
      (λ m g t. (h : Integers) → Agree g h → AllSaid q.set.past q.numbers compared_there (λ x. refl) h xs)
  sides_say [] = given_back tt (λ h a. tt)
  sides_say (x ∷ xs) = walks_on (λ t. sides_owed (here q) xs) (owed_said x.place (side_owed (here q) x x.role)) (λ m g fs t l said.
      walks_mean (λ m2 g2 u b. λ h a. (said h (agree_on b.0 a), b.1 h a)) (reached (sides_say xs)))

  module _ (t : Num) (ns : List WrittenNumber) (own : number_own q.numbers t ≡ true) where
    size_known : {n : ℕ} {f : Point n} (h : Integers) → Agree f h → AreGiven q w f q.numbers w.numbers
        → AllSaid q.set.past q.numbers written (λ x. refl) h ns → (m : Num) → read q.numbers t ≡ Some m
        → Said (standing q.set.past h) (through q.numbers ns t ++ size_owed q.numbers t)
        → known w.numbers t ≡ Some (number (standing q.set.past h) m)
    size_known {f = f} h a given exponents m reads said =
        let al : Assignment = standing q.set.past h in
        let bounds : Said al (bounded q.numbers t) = subst (λ o. Said al (owed_if o (bounded q.numbers t))) reads
        (said_behind al (through q.numbers ns t) (size_owed q.numbers t) said) in
        number_known q.set.past h q.numbers ns w.numbers (λ i e. int_given q w f h a q.numbers w.numbers given i e)
        (exponents_found q.set.past q.numbers written (λ x. refl) h ns exponents) t own m reads bounds
        (said_front al (through q.numbers ns t) (size_owed q.numbers t) said)
        ∙ ap (λ z. Some z) (sym (number_read q.set.past h q.numbers t m reads))

    abbrev Sized : (m : ℕ) → Point m → Indices → Type 0
    Sized m g i = (z : ℤ) × (known w.numbers t ≡ Some z) × Is q.set q.work g i (item (fixed_typ q.set.around.types int_typ) (Y.Integer z))

    -- a number that isn't read owes what is false
    size_by : {n : ℕ} {f : Point n} {facts : List Fact} (place : Place) → AreGiven q w f q.numbers w.numbers → (o : Option Num) → read q.numbers t ≡ o
        → Walks q n f facts (bind (exponents_owed (here q) ns) (λ x.
        bind (owe place (through q.numbers ns t ++ size_owed q.numbers t)) (λ y. sized_integer o))) Sized
    size_by {n} {f} {facts} place given None e =
        walks_on (λ x. bind (owe place (through q.numbers ns t ++ size_owed q.numbers t)) (λ y. sized_integer None)) (exponents_say ns) (λ m g fs x l exponents.
        walks_on (λ y. sized_integer None) (owed_said place (through q.numbers ns t ++ size_owed q.numbers t)) (λ m2 g2 fs2 y l2 said.
        absurd (subst (λ o. Said (standing q.set.past g2.integers) (owed_if o (bounded q.numbers t))) e
        (said_behind (standing q.set.past g2.integers) (through q.numbers ns t) (size_owed q.numbers t) (said g2.integers (same g2))))))
    size_by {n} {f} {facts} place given (Some u) e =
        walks_on (λ x. bind (owe place (through q.numbers ns t ++ size_owed q.numbers t)) (λ y. sized_integer (Some u))) (exponents_say ns)
        (λ m g fs x l exponents.
        walks_on (λ y. sized_integer (Some u)) (owed_said place (through q.numbers ns t ++ size_owed q.numbers t)) (λ m2 g2 fs2 y l2 said.
        let all : (h : Integers) → Agree g2 h → known w.numbers t ≡ Some (number (standing q.set.past h) u) = λ h a.
        size_known {f = f} h (agree_on l (agree_on l2 a)) given (exponents h (agree_on l2 a)) u e (said h a) in
        let z : ℤ = number (standing q.set.past g2.integers) u in
        let found : known w.numbers t ≡ Some z = all g2.integers (same g2) in
        walks_on (λ v. give (I.Integer v)) (number_walks u) (λ m3 g3 fs3 v l3 is.
        given_back (I.Integer v) (
          z,
          found,
          subst (λ v. Is q.set q.work g3 (I.Integer v) (item (fixed_typ q.set.around.types int_typ) (Y.Integer z))) (sym is)
              (integer_is q z (known_small w.numbers t z found) u (λ h a. some_same (number (standing q.set.past h) u) z
              (sym (all h (agree_on l3 a)) ∙ found))),
        ))))

    size_walks : {n : ℕ} {f : Point n} {facts : List Fact} (place : Place) → AreGiven q w f q.numbers w.numbers
        → Walks q n f facts (size_walk place t ns (here q)) Sized
    size_walks place given = size_by place given (read q.numbers t) refl

  module _ (c : Con) (ns : List WrittenNumber) (own : con_own q.numbers c ≡ true) where
    constraint_known : {n : ℕ} {f : Point n} (h : Integers) → Agree f h → AreGiven q w f q.numbers w.numbers
        → AllSaid q.set.past q.numbers compared_there (λ x. refl) h ns → (d : Con) → read_con q.numbers c ≡ Some d
        → Said (standing q.set.past h) (truth_owed q.numbers ns c) → known_truth w.numbers c ≡ Some (true_in (standing q.set.past h) d)
    constraint_known {f = f} h a given sides d reads said =
        let al : Assignment = standing q.set.past h in
        let all : Said al (compared q.numbers ns c) = subst (λ o. Said al (owed_if o (compared q.numbers ns c))) reads said in
        truth_known q.set.past h q.numbers ns w.numbers (λ i e. int_given q w f h a q.numbers w.numbers given i e)
        (λ i e. truth_given q w f h a q.numbers w.numbers given i e)
        (exponents_found q.set.past q.numbers compared_there (λ x. refl) h ns sides)
        (side_found q.set.past q.numbers compared_there (λ x. refl) h (λ x. refl) ns sides) c own all
        ∙ ap (λ b. Some b) (sym (truth_read q.set.past h q.numbers c d reads))

    abbrev Decided : (m : ℕ) → Point m → Indices → Type 0
    Decided m g i = (b : Bool) × (known_truth w.numbers c ≡ Some b) × Is q.set q.work g i (item (fixed_typ q.set.around.types U.Bool) (Y.Truth b))

    constraint_by : {n : ℕ} {f : Point n} {facts : List Fact} (place : Place) → AreGiven q w f q.numbers w.numbers → (o : Option Con)
        → read_con q.numbers c ≡ o
        → Walks q n f facts (bind (sides_owed (here q) ns) (λ x.
        bind (owe place (truth_owed q.numbers ns c)) (λ y. bind (truth_or_fresh o) (λ d. give (I.Truth d))))) Decided
    constraint_by {n} {f} {facts} place given None e =
        walks_on (λ x. bind (owe place (truth_owed q.numbers ns c)) (λ y. bind (truth_or_fresh None) (λ d. give (I.Truth d)))) (sides_say ns)
        (λ m g fs x l sides.
        walks_on (λ y. bind (truth_or_fresh None) (λ d. give (I.Truth d))) (owed_said place (truth_owed q.numbers ns c)) (λ m2 g2 fs2 y l2 said.
        absurd (subst (λ o. Said (standing q.set.past g2.integers) (owed_if o (compared q.numbers ns c))) e (said g2.integers (same g2)))))
    constraint_by {n} {f} {facts} place given (Some d) e =
        walks_on (λ x. bind (owe place (truth_owed q.numbers ns c)) (λ y. bind (truth_or_fresh (Some d)) (λ d. give (I.Truth d)))) (sides_say ns)
        (λ m g fs x l sides.
        walks_on (λ y. bind (truth_or_fresh (Some d)) (λ d. give (I.Truth d))) (owed_said place (truth_owed q.numbers ns c)) (λ m2 g2 fs2 y l2 said.
        let all : (h : Integers) → Agree g2 h → known_truth w.numbers c ≡ Some (true_in (standing q.set.past h) d) = λ h a.
        constraint_known {f = f} h (agree_on l (agree_on l2 a)) given (sides h (agree_on l2 a)) d e (said h a) in
        let b : Bool = true_in (standing q.set.past g2.integers) d in
        let found : known_truth w.numbers c ≡ Some b = all g2.integers (same g2) in
        walks_on (λ v. give (I.Truth v)) (truth_walks d) (λ m3 g3 fs3 v l3 is.
        given_back (I.Truth v) (
          b,
          found,
          subst (λ u. Is q.set q.work g3 (I.Truth u) (item (fixed_typ q.set.around.types U.Bool) (Y.Truth b))) (sym is)
              (truth_item q b d (λ h a. some_same (true_in (standing q.set.past h) d) b (sym (all h (agree_on l3 a)) ∙ found))),
        ))))

    constraint_walks : {n : ℕ} {f : Point n} {facts : List Fact} (place : Place) → AreGiven q w f q.numbers w.numbers
        → Walks q n f facts (constraint_walk place c ns (here q)) Decided
    constraint_walks place given = constraint_by place given (read_con q.numbers c) refl

-- ---- variables are counted on

number_grows : (o : Option Num) → Grows (number_or_fresh o)
unfolding number_or_fresh fresh_integer between
number_grows (Some t) = grows_give t
number_grows None =
    grows_bind fresh _ (record { onward = fresh_grows.onward; more = fresh_grows.more; extends = fresh_grows.extends }) (λ v.
    grows_bind (between least_num (variable v) largest_num) (λ x. give (variable v)) (grows_bind _ _ (grows_assume _) (λ x. grows_assume _)) (λ x.
    grows_give (variable v)))

truth_grows : (o : Option Con) → Grows (truth_or_fresh o)
unfolding truth_or_fresh
truth_grows (Some c) = grows_give c
truth_grows None =
    grows_bind fresh _ (record { onward = fresh_grows.onward; more = fresh_grows.more; extends = fresh_grows.extends }) (λ v. grows_give (V.Holds v))

size_grows : (place : Place) (t : Num) (ns : List WrittenNumber) (around : Around) → Grows (size_walk place t ns around)
size_grows place t ns around =
    grows_bind (exponents_owed around ns) _ (exponents_grow around ns) (λ x.
    grows_bind (owe place (through around.numbers ns t ++ size_owed around.numbers t)) _
    (grows_owe place (through around.numbers ns t ++ size_owed around.numbers t)) (λ y.
    grows_bind (number_or_fresh (read around.numbers t)) _ (number_grows (read around.numbers t)) (λ u. grows_give (I.Integer u))))

sides_grow : (around : Around) (ns : List WrittenNumber) → Grows (sides_owed around ns)
sides_grow around [] = grows_give tt
sides_grow around (x ∷ ns) =
    grows_bind (owe x.place (side_owed around x x.role)) (λ t. sides_owed around ns) (grows_owe x.place (side_owed around x x.role)) (λ t. sides_grow around ns)

constraint_grows : (place : Place) (c : Con) (ns : List WrittenNumber) (around : Around) → Grows (constraint_walk place c ns around)
constraint_grows place c ns around =
    grows_bind (sides_owed around ns) _ (sides_grow around ns) (λ x.
    grows_bind (owe place (truth_owed around.numbers ns c)) _ (grows_owe place (truth_owed around.numbers ns c)) (λ y.
    grows_bind (truth_or_fresh (read_con around.numbers c)) _ (truth_grows (read_con around.numbers c)) (λ d. grows_give (I.Truth d))))

leaf_grows : (around : Around) (place : Place) (k : ℕ) (aim : Aim) (walk : Walk Indices) → Grows walk
    → Grows (bind (bind walk (settled around place aim)) (node_end k false))
leaf_grows around place k aim walk h = grows_bind (bind walk (settled around place aim)) (node_end k false)
    (grows_bind walk (settled around place aim) h (grows_settled around place aim)) (grows_end k false)

-- ---- the kinds

module _ (fit : FitsSuffice) (q : Scene) (w : World Item) {n : ℕ} (f : Point n) (facts : List Fact) (scope : Scope) (place : Place) (k : ℕ) (aim : Aim)
    (there : Surrounds q w f scope) (st : AimSteady q.set q.work f aim) where
  size_fine : (t : Num) (ns : List WrittenNumber) → number_own q.numbers t ≡ true
      → Beside q n f facts (kind_walk place k (K.SizeOf t ns) [] (here q) scope aim)
      (kind_meaning (checked q.set.around.types q.cases) w place k (K.SizeOf t ns) []) (λ m g i x. Comes q.set q.work g false false false aim i x)
  size_fine t ns stands =
      walks_then (λ i. give i) {Holds = λ m g i. (z : ℤ) × (known w.numbers t ≡ Some z)
      × Comes q.set q.work g false false false aim i (item (fixed_typ q.set.around.types int_typ) (Y.Integer z))}
      (walks_on (settled (here q) place aim) (size_walks q w t ns stands place there.numbers) (λ m g fs i l e.
      walks_mean (λ m2 g2 j c. (e.0, e.1, c))
      (settles fit place aim i (item (fixed_typ q.set.around.types int_typ) (Y.Integer e.0)) (aim_on q.set q.work aim l st) e.2)))
      (λ m g fs i l e.
      subst (λ o. Beside q m g fs (give i) (needs o then λ z. gives (item (fixed_typ q.set.around.types int_typ) (Y.Integer z)))
      (λ m2 g2 j x. Comes q.set q.work g2 false false false aim j x)) (sym e.1)
      (rests (item (fixed_typ q.set.around.types int_typ) (Y.Integer e.0)) (given_back i e.2)))

  constraint_fine : (c : Con) (ns : List WrittenNumber) → con_own q.numbers c ≡ true
      → Beside q n f facts (kind_walk place k (K.Constraint c ns) [] (here q) scope aim)
      (kind_meaning (checked q.set.around.types q.cases) w place k (K.Constraint c ns) []) (λ m g i x. Comes q.set q.work g false false false aim i x)
  constraint_fine c ns stands =
      walks_then (λ i. give i) {Holds = λ m g i. (b : Bool) × (known_truth w.numbers c ≡ Some b)
      × Comes q.set q.work g false false false aim i (item (fixed_typ q.set.around.types U.Bool) (Y.Truth b))}
      (walks_on (settled (here q) place aim) (constraint_walks q w c ns stands place there.numbers) (λ m g fs i l e.
      walks_mean (λ m2 g2 j d. (e.0, e.1, d))
      (settles fit place aim i (item (fixed_typ q.set.around.types U.Bool) (Y.Truth e.0)) (aim_on q.set q.work aim l st) e.2)))
      (λ m g fs i l e.
      subst (λ o. Beside q m g fs (give i) (needs o then λ b. gives (item (fixed_typ q.set.around.types U.Bool) (Y.Truth b)))
      (λ m2 g2 j x. Comes q.set q.work g2 false false false aim j x)) (sym e.1)
      (rests (item (fixed_typ q.set.around.types U.Bool) (Y.Truth e.0)) (given_back i e.2)))

pub size_kind : SizesAreFine
size_kind fit q w t ns stands place k [] [] [] h right = fine_by q w false false (node q w place k (K.SizeOf t ns) []) _ (λ around scope. refl)
    (λ names falls g n f facts scope aim there st. size_fine fit (at q w names falls) w f facts scope place k aim there st t ns stands)
    (λ around scope aim. leaf_grows around place k aim (size_walk place t ns around) (size_grows place t ns around))
size_kind fit q w t ns stands place k (s ∷ ss) (p ∷ ps) (r ∷ rs) h right =
    wrong_fine q w false false false place k (node q w place k (K.SizeOf t ns) (p ∷ ps)) _ (λ around scope. refl) (λ around scope aim. refl)
size_kind fit q w t ns stands place k [] [] (r ∷ rs) h right = absurd h
size_kind fit q w t ns stands place k [] (p ∷ ps) rs h right = absurd h
size_kind fit q w t ns stands place k (s ∷ ss) [] rs h right = absurd h
size_kind fit q w t ns stands place k (s ∷ ss) (p ∷ ps) [] h right = absurd h

pub constraint_kind : ConstraintsAreFine
constraint_kind fit q w c ns stands place k [] [] [] h right = fine_by q w false false (node q w place k (K.Constraint c ns) []) _ (λ around scope. refl)
    (λ names falls g n f facts scope aim there st. constraint_fine fit (at q w names falls) w f facts scope place k aim there st c ns stands)
    (λ around scope aim. leaf_grows around place k aim (constraint_walk place c ns around) (constraint_grows place c ns around))
constraint_kind fit q w c ns stands place k (s ∷ ss) (p ∷ ps) (r ∷ rs) h right =
    wrong_fine q w false false false place k (node q w place k (K.Constraint c ns) (p ∷ ps)) _ (λ around scope. refl) (λ around scope aim. refl)
constraint_kind fit q w c ns stands place k [] [] (r ∷ rs) h right = absurd h
constraint_kind fit q w c ns stands place k [] (p ∷ ps) rs h right = absurd h
constraint_kind fit q w c ns stands place k (s ∷ ss) [] rs h right = absurd h
constraint_kind fit q w c ns stands place k (s ∷ ss) (p ∷ ps) [] h right = absurd h
