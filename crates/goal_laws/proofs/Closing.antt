-- A goal is true where its obligation holds: the facts that close it are true where each variable that no number names stands for 0 or 1.
use Rattle.std.proofs.Common.{◌≡◌, ◌∙◌, ap, sym, refl, subst, ℕ, nat_lt, ◌<◌, ◌≤◌, ◌^◌, ℤ, pos, negsuc, ◌≤ℤ◌, int_le, arith, pow_mono}
use Rattle.std.proofs.Common.{Bool, true, false, ◌||◌, List, [], ◌∷◌, ◌++◌, length, Option, Some, None, if◌then◌else◌, true≢false}
use Rattle.std.specs.Prelude.{unwrap_or}
use Rattle.std.proofs.lemmas.Bool.{ltb-true, or_left, or_right}
use Rattle.std.proofs.lemmas.Int.{ints}
use Rattle.sail_types.specs.Limits.{largest, small_power}
use Rattle.sail_types.specs.Numbers.{Assignment, Positive, number, number_of_atom, true_in}
use Rattle.sail_types.specs.Sums.{constant, is_constant, of_atom}
use Rattle.sail_types.specs.declared.numbers.Atom.{Atom, out-Atom, roll-Atom}
use Rattle.sail_types.specs.declared.numbers.Atom.TheOpen as A
use Rattle.sail_types.specs.declared.numbers.Atom.TheOpen.{Atom-F}
use Rattle.sail_types.specs.declared.numbers.Atom.TheVariants as V
use Rattle.sail_types.specs.declared.numbers.Atom.TheViews.{roll-out-Atom}
use Rattle.sail_types.specs.declared.numbers.Con.{Con}
use Rattle.sail_types.specs.declared.numbers.Num.{Num}
use Rattle.sail_types.specs.declared.numbers.Term.{Term}
use Rattle.sail_types.proofs.SumNumbers.{some_same}
use Rattle.sail_types.proofs.Substituted.{number_atom, number_constant, atom_power, atom_variable}
use Rattle.row_types.specs.Formulas.{most}
use Rattle.linear.specs.Cases.{variables_of}
use Rattle.linear.specs.Choices.{variables_in}
use Rattle.linear.specs.laws.Entailment.{IsImplied, AllHold as AllIn}
use Rattle.obligations.specs.Closing.{between, is_numbered, power_facts, power_form, truth_facts, truths_of, unnumbered, with_closing}
use Rattle.obligations.specs.Connected.{connected, shares, sharing, spread_for}
use Rattle.obligations.specs.Naming.{any_number, has_number}
use Rattle.obligations.specs.Owed.{facts_for}
use Rattle.value_laws.specs.Belonging.{Integers, standing}
use Rattle.value_laws.specs.Known.{AllTrue}
use Rattle.value_laws.proofs.Numbers.{at_most_is, at_most_true}
use Rattle.goal_laws.proofs.Named.{truth_same}

-- ---- lists

abbrev Each : {X : Type 0} → (X → Type 0) → List X → Type 0
Each P [] = Unit {0}
Each P (x ∷ xs) = P x × Each P xs

each_by : {X : Type 0} (P Q : X → Type 0) → ((x : X) → P x → Q x) → (xs : List X) → Each P xs → Each Q xs
each_by P Q f [] a = tt
each_by P Q f (x ∷ xs) a = (f x a.0, each_by P Q f xs a.1)

if_shared : (P : Con → Type 0) (b : Bool) (c : Con) (cs : List Con) → P c → Each P cs → Each P (if b then c ∷ cs else cs)
if_shared P true c cs p ps = (p, ps)
if_shared P false c cs p ps = ps

each_sharing : (P : Con → Type 0) (atoms : List Atom) (cs : List Con) → Each P cs → Each P (sharing atoms cs)
each_sharing P atoms [] a = tt
each_sharing P atoms (c ∷ cs) a = if_shared P (shares (variables_in c) atoms) c (sharing atoms cs) a.0 (each_sharing P atoms cs a.1)

-- what is so of all facts in force is so of those connected to a goal
each_connected : (P : Con → Type 0) (cs : List Con) (atoms : List Atom) → Each P cs → Each P (connected cs atoms)
each_connected P cs [] a = a
each_connected P cs (b ∷ atoms) a = each_sharing P (spread_for (length cs) cs (b ∷ atoms)) cs a

all_each : (nu : Assignment) (cs : List Con) → AllTrue nu cs → Each (λ c. true_in nu c ≡ true) cs
all_each nu [] a = tt
all_each nu (c ∷ cs) a = (a.0, all_each nu cs a.1)

-- ---- the facts that close

between_holds : (nu : Assignment) (low : ℤ) (a : Atom) (high : ℤ) → low ≤ℤ number_of_atom nu a → number_of_atom nu a ≤ℤ high
    → AllIn nu (between low a high)
between_holds nu low a high l h = (
  at_most_is nu (constant low) (of_atom a) ∙ (λ j. int_le (number_constant nu low j) (number_atom nu a j)) ∙ at_most_true low (number_of_atom nu a) l,
  (at_most_is nu (of_atom a) (constant high) ∙ (λ j. int_le (number_atom nu a j) (number_constant nu high j)) ∙ at_most_true (number_of_atom nu a) high h, tt),
)

all_in_join : (nu : Assignment) (cs ds : List Con) → AllIn nu cs → AllIn nu ds → AllIn nu (cs ++ ds)
all_in_join nu [] ds a b = b
all_in_join nu (c ∷ cs) ds a b = (a.0, all_in_join nu cs ds a.1 b)

abbrev IsPower : ℤ → Type 0
IsPower x = (pos 1 ≤ℤ x) × (x ≤ℤ most)

power_within : (n : ℕ) (x : ℤ) (b : Bool) → nat_lt n 127 ≡ b → (if b then Some (pos (2 ^ n)) else None) ≡ Some x → IsPower x
power_within n x false l e = absurd (cc)
power_within n x true l e =
    let less : n < 127 = ltb-true n 127 l in
    let first : n ≤ 126 = omega (arith, less) in
    let none : 0 ≤ n = omega arith in
    let low : 2 ^ 0 ≤ 2 ^ n = pow_mono none in
    let high : 2 ^ n ≤ 2 ^ 126 = pow_mono first in
    subst IsPower (some_same (pos (2 ^ n)) x e) (omega (arith, ints, low), omega (arith, ints, high))

small_within : (z x : ℤ) → small_power z ≡ Some x → IsPower x
small_within (pos n) x e = power_within n x (nat_lt n 127) refl e
small_within (negsuc n) x e = absurd (cc)

past_within : (past : Positive) → IsPower past.value
unfolding largest
past_within past = (past.low, past.high)

or_past : (past : Positive) (z : ℤ) (o : Option ℤ) → small_power z ≡ o → IsPower (unwrap_or o past.value)
or_past past z None e = past_within past
or_past past z (Some x) e = small_within z x e

module _ (past : Positive) (f : Integers) where
  abbrev there : Assignment
  there = standing past f

  if_constant : (b : Bool) (cs : List Con) → AllIn there cs → AllIn there (if b then [] else cs)
  if_constant true cs h = tt
  if_constant false cs h = h

  power_holds : (a : Atom) (y : Atom-F Atom Num Term) → out-Atom a ≡ y → AllIn there (power_form a y)
  power_holds a (A.Variable i) e = tt
  power_holds a (A.Power t) e =
      let is : number_of_atom there a ≡ unwrap_or (small_power (number there t)) past.value =
      ap (number_of_atom there) (sym (roll-out-Atom a) ∙ ap roll-Atom e ∙ V.rolls-Power t) ∙ atom_power there t in
      let h : IsPower (number_of_atom there a) = subst IsPower (sym is) (or_past past (number there t) (small_power (number there t)) refl) in
      if_constant (is_constant t) (between (pos 1) a most) (between_holds there (pos 1) a most h.0 h.1)

  powers_hold : (atoms : List Atom) → AllIn there (power_facts atoms)
  powers_hold [] = tt
  powers_hold (a ∷ atoms) =
      all_in_join there (power_form a (out-Atom a)) (power_facts atoms) (power_holds a (out-Atom a) refl) (powers_hold atoms)

  -- where each Bool variable stands for 0 or 1
  abbrev IsBit : Atom → Type 0
  IsBit a = (pos 0 ≤ℤ number_of_atom there a) × (number_of_atom there a ≤ℤ pos 1)

  truths_hold : (atoms : List Atom) → Each IsBit atoms → AllIn there (truth_facts atoms)
  truths_hold [] h = tt
  truths_hold (a ∷ atoms) h =
      all_in_join there (between (pos 0) a (pos 1)) (truth_facts atoms) (between_holds there (pos 0) a (pos 1) h.0.0 h.0.1) (truths_hold atoms h.1)

-- ---- variables that no number names

abbrev Unnamed : List Con → Con → Atom → Type 0
Unnamed facts goal a = is_numbered facts goal (out-Atom a) ≡ false

if_unnamed : (P : Atom → Type 0) (b : Bool) (a : Atom) (atoms : List Atom) → (b ≡ false → P a) → Each P atoms → Each P (if b then atoms else a ∷ atoms)
if_unnamed P true a atoms own rest = rest
if_unnamed P false a atoms own rest = (own refl, rest)

all_unnamed : (facts : List Con) (goal : Con) (atoms : List Atom) → Each (Unnamed facts goal) (unnumbered facts goal atoms)
all_unnamed facts goal [] = tt
all_unnamed facts goal (a ∷ atoms) =
    if_unnamed (Unnamed facts goal) (is_numbered facts goal (out-Atom a)) a (unnumbered facts goal atoms) (λ is. is) (all_unnamed facts goal atoms)

-- ---- the same truths, as 0 and 1

abbrev bit_of : Bool → ℤ
bit_of b = if b then pos 1 else pos 0

abbrev clamped : (ℕ → Bool) → Integers → Integers
clamped is_number f v = if is_number v then f v else bit_of (int_le (pos 1) (f v))

bit_same : (b : Bool) → int_le (pos 1) (bit_of b) ≡ b
bit_same true = refl
bit_same false = refl

clamped_truth : (b : Bool) (z : ℤ) → int_le (pos 1) (if b then z else bit_of (int_le (pos 1) z)) ≡ int_le (pos 1) z
clamped_truth true z = refl
clamped_truth false z = bit_same (int_le (pos 1) z)

clamped_number : (b : Bool) (z : ℤ) → b ≡ true → (if b then z else bit_of (int_le (pos 1) z)) ≡ z
clamped_number true z h = refl
clamped_number false z h = absurd (cc)

clamped_bit : (b c : Bool) (z : ℤ) → b ≡ false → (pos 0 ≤ℤ (if b then z else bit_of c)) × ((if b then z else bit_of c) ≤ℤ pos 1)
clamped_bit true c z h = absurd (cc)
clamped_bit false true z h = (omega (arith, ints), omega (arith, ints))
clamped_bit false false z h = (omega (arith, ints), omega (arith, ints))

-- ---- a goal

module _ (past : Positive) (f : Integers) (facts : List Con) (goal : Con) where
  abbrev named : ℕ → Bool
  named v = any_number v facts || has_number v goal

  abbrev g : Integers
  g = clamped named f

  abbrev now : Assignment
  now = standing past g

  truths : (v : ℕ) → int_le (pos 1) (g v) ≡ int_le (pos 1) (f v)
  truths v = clamped_truth (named v) (f v)

  same : (c : Con) → ((v : ℕ) → has_number v c ≡ true → named v ≡ true) → true_in now c ≡ true_in (standing past f) c
  same c h = truth_same past g f truths c (λ v k. clamped_number (named v) (f v) (h v k))

  facts_now : (ds : List Con) → ((v : ℕ) → any_number v ds ≡ true → named v ≡ true) → Each (λ c. true_in (standing past f) c ≡ true) ds
      → AllIn now ds
  facts_now [] h a = tt
  facts_now (d ∷ ds) h a = (
    same d (λ v k. h v (or_left (has_number v d) (any_number v ds) k)) ∙ a.0,
    facts_now ds (λ v k. h v (or_right (has_number v d) (any_number v ds) k)) a.1,
  )

  bit_there : (a : Atom) (y : Atom-F Atom Num Term) → out-Atom a ≡ y → is_numbered facts goal y ≡ false → IsBit past g a
  bit_there a (A.Variable i) e h =
      let is : number_of_atom now a ≡ g i =
      ap (number_of_atom now) (sym (roll-out-Atom a) ∙ ap roll-Atom e ∙ V.rolls-Variable i) ∙ atom_variable now i in
      subst (λ z. (pos 0 ≤ℤ z) × (z ≤ℤ pos 1)) (sym is) (clamped_bit (named i) (int_le (pos 1) (f i)) (f i) h)
  bit_there a (A.Power t) e h = absurd (true≢false h)

  closed_true : IsImplied (record { facts = with_closing facts goal; goal = goal }) → Each (λ c. true_in (standing past f) c ≡ true) facts
      → true_in (standing past f) goal ≡ true
  closed_true implied a =
      let first : AllIn now facts = facts_now facts (λ v k. or_left (any_number v facts) (has_number v goal) k) a in
      let powers : List Con = power_facts (variables_of (record { facts = facts; goal = goal })) in
      let bits : List Atom = unnumbered facts goal (truths_of facts goal) in
      let all : AllIn now (with_closing facts goal) =
      all_in_join now (facts ++ powers) (truth_facts bits)
      (all_in_join now facts powers first (powers_hold past g (variables_of (record { facts = facts; goal = goal }))))
      (truths_hold past g bits
      (each_by (Unnamed facts goal) (IsBit past g) (λ a h. bit_there a (out-Atom a) refl h) bits (all_unnamed facts goal (truths_of facts goal)))) in
      sym (same goal (λ v k. or_right (any_number v facts) (has_number v goal) k)) ∙ implied now (λ p. refl) all

-- under all facts in force
pub goal_true : (past : Positive) (f : Integers) (goal : Con) (cs : List Con) → IsImplied (record { facts = facts_for cs goal; goal = goal })
    → AllTrue (standing past f) cs → true_in (standing past f) goal ≡ true
goal_true past f goal cs implied a =
    closed_true past f (connected cs (variables_in goal)) goal implied
    (each_connected (λ c. true_in (standing past f) c ≡ true) cs (variables_in goal) (all_each (standing past f) cs a))
