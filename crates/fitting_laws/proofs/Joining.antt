-- Conditions one behind another, and such as stand under a premise.
use Rattle.std.proofs.Common.{◌≡◌, ℕ, ◌≤◌, ◌<◌, Bool, true, false, List, [], ◌∷◌, ◌++◌, map, Option, Some, None, option_map}
use Rattle.std.proofs.Common.{if◌then◌else◌, unwrap_or, refl, sym, ap, ◌∙◌, subst, arith}
use Rattle.std.specs.Prelude.{not}
use Rattle.std.specs.List.{list_all, list_any}
use Rattle.sail_types.specs.Numbers.{Assignment, Positive, true_in, form_true}
use Rattle.sail_types.specs.Readings.{together}
use Rattle.sail_types.specs.declared.numbers.Con.{Con, fold-roll-Con}
use Rattle.sail_types.specs.declared.numbers.Con.TheOpen as F
use Rattle.sail_types.specs.declared.numbers.Con.TheVariants as C
use Rattle.sail_types.specs.declared.values.Value.{Value}
use Rattle.value_indices.specs.declared.notes.Fact.{Fact}
use Rattle.value_indices.specs.declared.notes.Fact.TheVariants as Y
use Rattle.value_indices.specs.Steps.{conditions, conjunction, Conditions, Went}
use Rattle.value_fits.specs.declared.fitted.Fitted.{Fitted}
use Rattle.value_fits.specs.Fitting.{fitted, says, joined, also, never, implies, if_all, under_premise}
use Rattle.value_laws.specs.Belonging.{Integers, standing}
use Rattle.value_laws.specs.Known.{AllTrue, given_in, Point, Agree, Known, Later}
use Rattle.std.proofs.lemmas.Bool.{and_parts}
use Rattle.value_laws.proofs.Basics.{no, two}
use Rattle.value_laws.proofs.Numbers.{mapped, truth_is}
use Rattle.value_laws.proofs.Steps.{agree_on, later_on, no_later}
use Rattle.fitting_laws.specs.Fitting.{Said, Suffices}

-- ---- lists of conditions and facts

pub said_front : (mu : Assignment) (cs ds : Conditions) → Said mu (cs ++ ds) → Said mu cs
said_front mu [] ds h = tt
said_front mu (None ∷ cs) ds h = absurd h
said_front mu (Some c ∷ cs) ds h = (h.0, said_front mu cs ds h.1)

pub said_behind : (mu : Assignment) (cs ds : Conditions) → Said mu (cs ++ ds) → Said mu ds
said_behind mu [] ds h = h
said_behind mu (None ∷ cs) ds h = absurd h
said_behind mu (Some c ∷ cs) ds h = said_behind mu cs ds h.1

pub true_both : (mu : Assignment) (fs gs : List Fact) → AllTrue mu (conditions fs) → AllTrue mu (conditions gs) → AllTrue mu (conditions (fs ++ gs))
true_both mu [] gs h k = k
true_both mu (Y.Holds c ∷ fs) gs h k = (h.0, true_both mu fs gs h.1 k)
true_both mu (Y.IsGiven v ∷ fs) gs h k = true_both mu fs gs h k

pub given_both : (fs gs : List Fact) → given_in fs ≡ [] → given_in gs ≡ [] → given_in (fs ++ gs) ≡ []
given_both [] gs h k = k
given_both (Y.Holds c ∷ fs) gs h k = given_both fs gs h k
given_both (Y.IsGiven v ∷ fs) gs h k = absurd (cc)

-- ---- one behind another

module _ {past : Positive} where
  pub says_so : {n : ℕ} {f : Point n} {Then : Integers → Type 0} (cs : Conditions) → ((g : Integers) → Agree f g → Said (standing past g) cs → Then g)
      → Suffices past n f (says cs n) Then
  says_so {f} cs h = record {
    point = f;
    later = no_later f;
    true_there = λ g a. tt;
    given = refl;
    suffices = λ p l said g a. h g (agree_on l a) (said g a);
  }

  -- nothing is a value of such a type
  pub never_suffices : (n : ℕ) (f : Point n) (Then : Integers → Type 0) → Suffices past n f (never n) Then
  never_suffices n f Then = says_so (Some (C.Truth false) ∷ []) (λ g a s. no (sym (truth_is (standing past g) false) ∙ s.0))

  -- behind a walk, with what came into force there
  pub known_then : {n : ℕ} {f : Point n} {A : Type 0} {made : Went A} {Holds : Integers → A → Type 0} {Then : Integers → Type 0} (next : ℕ → Fitted)
      (known : Known past n f [] made Holds) → Suffices past made.next known.point (next made.next) Then
      → Suffices past n f (also (fitted [] made.facts made.next) next) Then
  unfolding joined
  known_then {made} next known two = record {
    point = two.point;
    later = later_on known.later two.later;
    true_there = λ g l.
        true_both (standing past g) made.facts (next made.next).facts (known.true_there g (agree_on two.later l) tt) (two.true_there g l);
    given = given_both made.facts (next made.next).facts known.given two.given;
    suffices = λ p l said g b. two.suffices p l said g b;
  }

  -- the second from where the first has ended
  pub also_on : {n : ℕ} {f : Point n} {a : Fitted} {First Second : Integers → Type 0} (next : ℕ → Fitted) (one : Suffices past n f a First)
      → Suffices past a.next one.point (next a.next) Second → Suffices past n f (also a next) (λ g. First g × Second g)
  unfolding joined
  also_on {a} next one two = record {
    point = two.point;
    later = later_on one.later two.later;
    true_there = λ g l. true_both (standing past g) a.facts (next a.next).facts (one.true_there g (agree_on two.later l)) (two.true_there g l);
    given = given_both a.facts (next a.next).facts one.given two.given;
    suffices = λ p l said g b. (
      one.suffices p (later_on two.later l) (λ h c. said_front (standing past h) a.conditions (next a.next).conditions (said h c)) g b,
      two.suffices p l (λ h c. said_behind (standing past h) a.conditions (next a.next).conditions (said h c)) g b,
    );
  }

  pub also_suffice : {n : ℕ} {f : Point n} {a : Fitted} {First Second : Integers → Type 0} (next : ℕ → Fitted) → Suffices past n f a First
      → ((g : Point a.next) → Later f g → Suffices past a.next g (next a.next) Second) → Suffices past n f (also a next) (λ g. First g × Second g)
  also_suffice next one then_two = also_on next one (then_two one.point one.later)

  pub suffice_as : {n : ℕ} {f : Point n} {a : Fitted} {First Then : Integers → Type 0} → Suffices past n f a First
      → ((g : Integers) → Agree f g → First g → Then g) → Suffices past n f a Then
  suffice_as one h = record {
    point = one.point;
    later = one.later;
    true_there = one.true_there;
    given = one.given;
    suffices = λ p l said g b. h g (agree_on one.later (agree_on l b)) (one.suffices p l said g b);
  }

-- ---- under a premise

pub true_all : (mu : Assignment) (cs : List Con) → true_in mu (C.All cs) ≡ list_all (λ b. b) (map (true_in mu) cs)
true_all mu cs = ap (true_in mu) (sym (C.rolls-All cs)) ∙ fold-roll-Con Bool (form_true mu) (F.All cs)

true_any : (mu : Assignment) (cs : List Con) → true_in mu (C.Any cs) ≡ list_any (λ b. b) (map (true_in mu) cs)
true_any mu cs = ap (true_in mu) (sym (C.rolls-Any cs)) ∙ fold-roll-Con Bool (form_true mu) (F.Any cs)

true_not : (mu : Assignment) (c : Con) → true_in mu (C.Not c) ≡ not (true_in mu c)
true_not mu c = ap (true_in mu) (sym (C.rolls-Not c)) ∙ fold-roll-Con Bool (form_true mu) (F.Not c)

all_true : (mu : Assignment) (cs : List Con) → AllTrue mu cs → list_all (λ b. b) (map (true_in mu) cs) ≡ true
all_true mu [] h = refl
all_true mu (c ∷ cs) h = two (true_in mu c) (list_all (λ b. b) (map (true_in mu) cs)) h.0 (all_true mu cs h.1)

pub each_true : (mu : Assignment) (cs : List Con) → list_all (λ b. b) (map (true_in mu) cs) ≡ true → AllTrue mu cs
each_true mu [] h = tt
each_true mu (c ∷ cs) h = let k = and_parts (true_in mu c) (list_all (λ b. b) (map (true_in mu) cs)) h in (k.0, each_true mu cs k.1)

-- where all can be said
said_all : (mu : Assignment) (cs : Conditions) (ds : List Con) → together cs ≡ Some ds → AllTrue mu ds → Said mu cs
said_all mu [] ds e h = tt
said_all mu (None ∷ cs) ds e h = absurd (cc)
said_all mu (Some c ∷ cs) ds e h =
    let k = mapped (λ ys. c ∷ ys) (together cs) ds e in
    let all : AllTrue mu (c ∷ k.0) = subst (AllTrue mu) (sym k.2) h in
    (all.0, said_all mu cs k.0 k.1 all.1)

-- what is owed as one condition
pub conjunction_said : (mu : Assignment) (cs : Conditions) → true_in mu (conjunction cs) ≡ true → Said mu cs
conjunction_said mu cs h = by (together cs) refl h
  where
    by : (o : Option (List Con)) → together cs ≡ o → true_in mu (unwrap_or (option_map C.All o) (C.Truth false)) ≡ true → Said mu cs
    by None e k = no (sym (truth_is mu false) ∙ k)
    by (Some ds) e k = said_all mu cs ds e (each_true mu ds (sym (true_all mu ds) ∙ k))

either : (x y : Bool) → list_any (λ b. b) (not x ∷ y ∷ []) ≡ true → x ≡ true → y ≡ true
either true true h e = refl
either true false h e = no h
either false y h e = no e

pub implies_true : (mu : Assignment) (c d : Con) → true_in mu (implies c d) ≡ true → true_in mu c ≡ true → true_in mu d ≡ true
implies_true mu c d h e =
    either (true_in mu c) (true_in mu d)
    (ap (λ b. list_any (λ k. k) (b ∷ true_in mu d ∷ [])) (sym (true_not mu c)) ∙ sym (true_any mu (C.Not c ∷ d ∷ [])) ∙ h) e

under_said : (mu : Assignment) (facts : List Con) (gs : Conditions) (o : Option (List Con)) → together gs ≡ o
    → Said mu (option_map (λ all. implies (C.All facts) (C.All all)) o ∷ []) → AllTrue mu facts → Said mu gs
under_said mu facts gs None e h t = absurd h
under_said mu facts gs (Some all) e h t =
    said_all mu gs all e (each_true mu all (sym (true_all mu all)
    ∙ implies_true mu (C.All facts) (C.All all) h.0 (true_all mu facts ∙ all_true mu facts t)))

if_all_said : (mu : Assignment) (facts : List Con) (gs : Conditions) → Said mu (if_all facts gs) → AllTrue mu facts → Said mu gs
if_all_said mu [] gs h t = h
if_all_said mu (c ∷ facts) [] h t = tt
if_all_said mu (c ∷ facts) (g ∷ gs) h t = under_said mu (c ∷ facts) (g ∷ gs) (together (g ∷ gs)) refl h t

-- two points behind one, where the first fixes nothing else below the end of the other
module _ {n : ℕ} (f : Point n) where
  abbrev pub widened : (k : ℕ) → n ≤ k → Point k
  widened k le = record { fixed = f.fixed; integers = f.integers; before = λ i l. let b : i < n = f.before i l in omega arith }

  widened_later : (k : ℕ) (le : n ≤ k) → Later f (widened k le)
  widened_later k le = record { onward = le; fixed = λ i l. l; same = λ i l. refl; new = λ i l less. l }

  module _ {k m : ℕ} (le : n ≤ k) (p : Point m) (l : Later (widened k le) p) (q : Point k) (r : Later f q) where
    pub before_by : (i : ℕ) (b : Bool) → q.fixed i ≡ b → (if b then true else p.fixed i) ≡ true → i < m
    before_by i true e h = let less : i < k = q.before i e in let o : k ≤ m = l.onward in omega arith
    before_by i false e h = p.before i h

    abbrev pub merged : Point m
    merged = record {
      fixed = λ i. if q.fixed i then true else p.fixed i;
      integers = λ i. if q.fixed i then q.integers i else p.integers i;
      before = λ i h. before_by i (q.fixed i) refl h;
    }

    new_by : (i : ℕ) (b : Bool) → q.fixed i ≡ b → (if b then true else p.fixed i) ≡ true → i < k → q.fixed i ≡ true
    new_by i true e h less = e
    new_by i false e h less = r.fixed i (l.new i h less)

    pub merged_later : Later q merged
    merged_later = record {
      onward = l.onward;
      fixed = λ i h. ap (λ b. if b then true else p.fixed i) h;
      same = λ i h. sym (ap (λ b. if b then q.integers i else p.integers i) h);
      new = λ i h less. new_by i (q.fixed i) refl h less;
    }

    same_by : (i : ℕ) (b : Bool) → q.fixed i ≡ b → p.fixed i ≡ true → p.integers i ≡ (if b then q.integers i else p.integers i)
    same_by i true e h =
        let below : f.fixed i ≡ true = l.new i h (q.before i e) in
        sym (l.same i below) ∙ r.same i below
    same_by i false e h = refl

    fixed_by : (i : ℕ) (b : Bool) → p.fixed i ≡ true → (if b then true else p.fixed i) ≡ true
    fixed_by i true h = refl
    fixed_by i false h = h

    -- what agrees with both together agrees with the first
    pub merged_agree : (g : Integers) → Agree merged g → Agree p g
    merged_agree g a = record { same = λ i h. same_by i (q.fixed i) refl h ∙ a.same i (fixed_by i (q.fixed i) h) }

-- what holds of an item: there are integers of the new variables, with which the premise is true
pub record ItemSuffices (past : Positive) {n : ℕ} (f : Point n) (facts : List Fact) (a : Fitted) (Then : Type 0) : Type 0 where
  pub point : Point a.next
  pub later : Later f point
  pub true_there : (g : Integers) → Agree point g → AllTrue (standing past g) (conditions (facts ++ a.facts))
  pub suffices : {m : ℕ} (p : Point m) → Later point p → ((g : Integers) → Agree p g → Said (standing past g) a.conditions) → Then

-- so of each item of a value
pub premise_suffices : {past : Positive} {n : ℕ} {f : Point n} {U T : Value → Type 0} (facts : List Fact) (a : Fitted) → n ≤ a.next
    → ((u : Value) → U u → ItemSuffices past f facts a (T u)) → Suffices past n f (under_premise facts a) (λ g. (u : Value) → U u → T u)
premise_suffices {past} {n} {f} facts a le each = record {
  point = widened f a.next le;
  later = widened_later f a.next le;
  true_there = λ g b. tt;
  given = refl;
  suffices = λ p l said g b u h.
      let e = each u h in
      e.suffices (merged f le p l e.point e.later) (merged_later f le p l e.point e.later) (λ k c.
      if_all_said (standing past k) (conditions (facts ++ a.facts)) a.conditions (said k (merged_agree f le p l e.point e.later k c))
      (e.true_there k (agree_on (merged_later f le p l e.point e.later) c)));
}

-- nothing is said of it
pub premise_ends : {past : Positive} {n : ℕ} {f : Point n} (facts : List Fact) (a : Fitted) → n ≤ a.next
    → Suffices past n f (under_premise facts a) (λ g. Unit {0})
premise_ends {f} facts a le = record {
  point = widened f a.next le;
  later = widened_later f a.next le;
  true_there = λ g b. tt;
  given = refl;
  suffices = λ p l said g b. tt;
}
