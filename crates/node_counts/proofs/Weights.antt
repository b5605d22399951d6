-- How many notes of what is made, or of what is called, a walk writes that are of the node of one number, of so many operands.
use Rattle.std.proofs.Common.{◌≡◌, ℕ, suc, ◌+◌, ◌≤◌, ◌<◌, nat_eq, nat_lt, Bool, true, false, ◌&&◌, not, List, [], ◌∷◌, length, Option, Some, None, refl, arith}
use Rattle.std.specs.Prelude.{is_none, is_some}
use Rattle.std.proofs.lemmas.Bool.Decides.{Decides-eqb, Decides-ltb}
use Rattle.sail_base.specs.declared.place.Place.{Place}
use Rattle.sail_types.specs.declared.numbers.Con.{Con}
use Rattle.sail_types.specs.declared.table.Types.{Types}
use Rattle.sail_core.specs.declared.tree.Giver.TheVariants as Gives
use Rattle.value_indices.specs.declared.indices.Indices.{Indices}
use Rattle.value_indices.specs.declared.indices.Reading.{Reading}
use Rattle.value_indices.specs.declared.notes.Fact.{Fact}
use Rattle.value_indices.specs.declared.notes.Made.{Made}
use Rattle.value_indices.specs.Steps.{Conditions, Walk, assume, facts_here, fresh, fresh_named, give_number, given_note, goals_under}
use Rattle.value_indices.specs.Steps.{made_note, next_variable, owe, owe_under, size_note, way_note}
use Rattle.value_fits.specs.Fitting.{fits, owe_fit, owe_fit_under, owe_made, owe_made_under}
use Rattle.value_fits.specs.declared.fitted.Fitted.{Fitted}
use Rattle.node_counts.specs.Counts.{Counted, armed, arming, bit, giving, is_arm, is_below, is_giver, is_of, last_arms, making, mass, may_give, own, weigh}
use Rattle.node_counts.proofs.Budgets.{Within, light_first, within_give, within_note}
use Rattle.node_counts.proofs.Openings.{Keeps}

-- ---- notes of one node

part_of : (g c a b : Bool) → bit (g && (c && (a && b))) ≤ bit (g && a)
part_of false c a b = omega arith
part_of true true true true = omega arith
part_of true true true false = omega arith
part_of true true false b = omega arith
part_of true false true b = omega arith
part_of true false false b = omega arith

either_of : (g c a b : Bool) → bit (g && (c && (a && b))) + bit (g && (not c && (a && b))) ≤ bit (g && a)
either_of false c a b = omega arith
either_of true true true true = omega arith
either_of true true true false = omega arith
either_of true true false b = omega arith
either_of true false true true = omega arith
either_of true false true false = omega arith
either_of true false false b = omega arith

not_both : (g c a : Bool) (l : ℕ) → bit (g && (c && (a && nat_eq 0 l))) + bit (g && (c && (a && nat_eq 1 l))) ≤ bit (g && a)
not_both g c a l = by g c a (nat_eq 0 l) (nat_eq 1 l) (λ h k. differ ((Decides-eqb 0 l).0 h) ((Decides-eqb 1 l).0 k))
  where
    differ : 0 ≡ l → 1 ≡ l → ⊥
    differ h k = omega (arith, h, k)

    by : (g c a x y : Bool) → (x ≡ true → y ≡ true → ⊥) → bit (g && (c && (a && x))) + bit (g && (c && (a && y))) ≤ bit (g && a)
    by false c a x y n = omega arith
    by true true true true true n = absurd (n refl refl)
    by true true true true false n = omega arith
    by true true true false true n = omega arith
    by true true true false false n = omega arith
    by true true false x y n = omega arith
    by true false true x y n = omega arith
    by true false false x y n = omega arith

-- of one kind or another
each_of : (g : Bool) (o : Option ℕ) (a : Bool) → bit (not g && a) + (bit (g && (is_none o && a)) + bit (g && (is_some o && a))) ≤ bit a
each_of false o true = omega arith
each_of false o false = omega arith
each_of true None true = omega arith
each_of true None false = omega arith
each_of true (Some n) true = omega arith
each_of true (Some n) false = omega arith

-- an arm, and those behind it
next_of : (g x y z a : Bool) → (x ≡ true → y ≡ true → ⊥) → (x ≡ true → z ≡ true) → (y ≡ true → z ≡ true)
    → bit (g && (x && a)) + bit (g && (y && a)) ≤ bit (g && (z && a))
next_of false x y z a n h k = omega arith
next_of true false false z a n h k = omega arith
next_of true true true z a n h k = absurd (n refl refl)
next_of true true false true true n h k = omega arith
next_of true true false true false n h k = omega arith
next_of true true false false a n h k = let e : false ≡ true = h refl in absurd (cc)
next_of true false true true true n h k = omega arith
next_of true false true true false n h k = omega arith
next_of true false true false a n h k = let e : false ≡ true = k refl in absurd (cc)

all_of : (g x z a : Bool) → (x ≡ true → z ≡ true) → bit (g && (x && a)) ≤ bit (g && (z && a))
all_of g x z a h =
    let l : bit (g && (x && a)) + bit (g && (false && a)) ≤ bit (g && (z && a)) = next_of g x false z a (λ e f. absurd (cc)) h (λ e. absurd (cc)) in
    omega (arith, l)

given_of : (g a b : Bool) → bit (g && (a && b)) ≤ bit (g && a)
given_of false a b = omega arith
given_of true true true = omega arith
given_of true true false = omega arith
given_of true false b = omega arith

pub made_own : (q : Counted) (facts : List Fact) (k : ℕ) (is : List Indices) (m : Made) → weigh q (made_note facts k is m) ≤ making q k
made_own q facts k is m = part_of (not q.gives) (not q.calls) (nat_eq k q.number) (nat_eq (length is) q.operands)

pub called_own : (q : Counted) (k : ℕ) (is : List Indices)
    → bit (not q.gives && (q.calls && is_of q k is)) + bit (not q.gives && (not q.calls && is_of q k is)) ≤ making q k
called_own q k is = either_of (not q.gives) q.calls (nat_eq k q.number) (nat_eq (length is) q.operands)

pub caught_own : (q : Counted) (k : ℕ) (i : Indices)
    → bit (not q.gives && (not q.calls && is_of q k [])) + bit (not q.gives && (not q.calls && is_of q k (i ∷ []))) ≤ making q k
caught_own q k i = not_both (not q.gives) (not q.calls) (nat_eq k q.number) q.operands

pub given_own : (q : Counted) (facts : List Fact) (k : ℕ) (i : Indices) → weigh q (given_note facts (Gives.Node k) i) ≤ giving q k
given_own q facts k i = given_of q.gives (is_giver q (Gives.Node k)) (may_give i)

pub arm_own : (q : Counted) (facts : List Fact) (k n : ℕ) (i : Indices) → weigh q (given_note facts (Gives.Arm k n) i) ≤ arming q k n
arm_own q facts k n i = given_of q.gives (is_giver q (Gives.Arm k n)) (may_give i)

pub all_own : (q : Counted) (k : ℕ) → making q k + (giving q k + armed q k) ≤ own q k
all_own q k = each_of q.gives q.arm (nat_eq k q.number)

pub node_own : (q : Counted) (k : ℕ) → making q k + giving q k ≤ own q k
node_own q k = let l : making q k + (giving q k + armed q k) ≤ own q k = all_own q k in omega (arith, l)

-- ---- arms of one node

pub arms_next : (q : Counted) (k n : ℕ) → arming q k n + last_arms q k n ≤ last_arms q k (suc n)
arms_next q k n = by q.arm
  where
    by : (o : Option ℕ) → bit (q.gives && (is_arm o n && nat_eq k q.number)) + bit (q.gives && (is_below o n && nat_eq k q.number))
        ≤ bit (q.gives && (is_below o (suc n) && nat_eq k q.number))
    by None = next_of q.gives false false false (nat_eq k q.number) (λ e f. absurd (cc)) (λ e. e) (λ e. e)
    by (Some m) =
        next_of q.gives (nat_eq n m) (nat_lt m n) (nat_lt m (suc n)) (nat_eq k q.number)
        (λ e f. let same : n ≡ m = (Decides-eqb n m).0 e in let less : m < n = (Decides-ltb m n).0 f in omega (arith, same, less))
        (λ e. let same : n ≡ m = (Decides-eqb n m).0 e in (Decides-ltb m (suc n)).1 (omega (arith, same)))
        (λ f. let less : m < n = (Decides-ltb m n).0 f in (Decides-ltb m (suc n)).1 (omega (arith, less)))

pub arms_all : (q : Counted) (k n : ℕ) → last_arms q k n ≤ armed q k
arms_all q k n = by q.arm
  where
    by : (o : Option ℕ) → bit (q.gives && (is_below o n && nat_eq k q.number)) ≤ bit (q.gives && (is_some o && nat_eq k q.number))
    by None = all_of q.gives false false (nat_eq k q.number) (λ e. e)
    by (Some m) = all_of q.gives (nat_lt m n) true (nat_eq k q.number) (λ e. refl)

-- ---- steps that are of no node

module _ (q : Counted) where
  abbrev pub Light : (A : Type 0) → Walk A → Type 0
  Light A w = Within (weigh q) 0 w

  goals_light : (facts : List Fact) (place : Place) (cs : Conditions) → mass (weigh q) (goals_under facts place cs) ≤ 0
  goals_light facts place [] = omega arith
  goals_light facts place (c ∷ cs) = omega arith

  assume_light : (c : Con) → Light (Unit {0}) (assume c)
  unfolding assume
  assume_light c facts n = omega arith

  fresh_light : Light ℕ fresh
  unfolding fresh
  fresh_light facts n = omega arith

  named_light : (name : List ℕ) → Light ℕ (fresh_named name)
  unfolding fresh_named
  named_light name facts n = omega arith

  here_light : Light (List Fact) facts_here
  unfolding facts_here
  here_light facts n = omega arith

  next_light : Light ℕ next_variable
  unfolding next_variable
  next_light facts n = omega arith

  owe_light : (place : Place) (cs : Conditions) → Light (Unit {0}) (owe place cs)
  unfolding owe
  owe_light place cs facts n = goals_light facts place cs

  under_light : (earlier : List Fact) (place : Place) (cs : Conditions) → Light (Unit {0}) (owe_under earlier place cs)
  unfolding owe_under
  under_light earlier place cs facts n = goals_light earlier place cs

  owe_fit_light : (place : Place) (a : ℕ → Fitted) → Light (Unit {0}) (owe_fit place a)
  unfolding owe_fit owe_made
  owe_fit_light place a facts n = goals_light _ place _

  fit_under_light : (earlier : List Fact) (place : Place) (types : Types) (i : Indices) (r : Reading)
      → Light (Unit {0}) (owe_fit_under earlier place (fits types i r))
  unfolding owe_fit_under owe_made_under
  fit_under_light earlier place types i r facts n = goals_light _ place _

  pub number_light : (v : ℕ) → Light (Unit {0}) (give_number v)
  unfolding give_number
  number_light v facts n = omega arith

  pub lights : Keeps Light
  lights = record {
    gives = λ x. within_give (weigh q) x;
    binds = λ w k h more. light_first (weigh q) w k h more;
    assumes = assume_light;
    counts = fresh_light;
    names = named_light;
    here = here_light;
    next_one = next_light;
    owes_fit = owe_fit_light;
    owes = owe_light;
    owes_under = under_light;
    fits_under = fit_under_light;
    sizes = λ place made. within_note (weigh q) (λ facts. size_note facts place made) (λ facts. omega arith);
    ways = λ d. within_note (weigh q) (λ facts. way_note facts d) (λ facts. omega arith);
  }
