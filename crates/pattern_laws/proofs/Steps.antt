-- Steps of a walk beside a run, and what is known behind them.
use Rattle.std.proofs.Common.{◌≡◌, ℕ, true, false, List, [], ◌∷◌, Some, refl, sym, ◌∙◌, subst}
use Rattle.sail_base.specs.declared.place.Place.{Place}
use Rattle.sail_types.specs.Numbers.{Positive}
use Rattle.sail_types.specs.declared.numbers.Con.TheVariants as C
use Rattle.sail_core.specs.Run as R
use Rattle.sail_core.specs.Run.{Now, Ended, Run, goes_on, gives, falls, ◌then◌}
use Rattle.value_indices.specs.declared.notes.Fact.{Fact}
use Rattle.value_indices.specs.Steps.{Note, way_note, Walk, bind, give, note, owe, owe_under, facts_here, goals_under, Conditions}
use Rattle.checked_meaning.specs.Items.{Item}
use Rattle.checked_meaning.specs.Checked.{Noted}
use Rattle.value_laws.specs.Belonging.{Integers, standing}
use Rattle.value_laws.specs.Known.{Point, Agree, Later, Goes}
use Rattle.value_laws.proofs.Basics.{no}
use Rattle.value_laws.proofs.Numbers.{truth_is}
use Rattle.value_laws.proofs.Steps.{same, agree_on, later_on, no_later}
use Rattle.pattern_leaves.specs.declared.names.Bound.{Bound}
use Rattle.pattern_leaves.specs.Literals.{wrong_pattern}
use Rattle.pattern_notes.specs.Patterns.{after_inner}
use Rattle.pattern_laws.specs.Beside.{AllMet, Stands, Reach, Ends, OfSizes, EndsWell, well_given, well_no}
use Rattle.pattern_laws.specs.Beside.{well_returned, well_thrown, well_stopped, Behind, Beside}
use Rattle.pattern_laws.proofs.Conditions.{goals_said, met_front, met_behind}

pub stands_on : {fit : OfSizes} {q : Ends fit} {past : Positive} {n m : ℕ} {f : Point n} {g : Point m} {facts : List Fact} → Later f g
    → Stands q past f facts → Stands q past g facts
stands_on l s = record { there = λ h a. s.there h (agree_on l a); so = λ h a. s.so h (agree_on l a) }

-- ---- ends

-- what holds of what a piece gives
abbrev pub Given : {B : Type 0} → (B → Type 0) → Ended Item B → Type 0
Given P (R.Gives x now) = P x
Given P e = Unit {0}

module _ {fit : OfSizes} {q : Ends fit} where
  pub well_then : {o : Noted} {B D : Type 0} {Holds : B → Type 0} {Then : D → Type 0} {e : Ended Item B} {c : B → Run Item D} → EndsWell q o Holds e
      → ((x : B) (now : Now Item) → Holds x → q.keeps now → now.opened ≡ o → EndsWell q o Then (c x now)) → EndsWell q o Then (goes_on e c)
  well_then (well_given x now h k e) next = next x now h k e
  well_then (well_no now k) next = well_no now k
  well_then (well_returned v now b k) next = well_returned v now b k
  well_then (well_thrown v now b k) next = well_thrown v now b k
  well_then (well_stopped cause now) next = well_stopped cause now

  pub well_as : {o : Noted} {B : Type 0} {Holds Then : B → Type 0} {e : Ended Item B} → EndsWell q o Holds e → ((x : B) → Holds x → Then x)
      → EndsWell q o Then e
  well_as (well_given x now h k e) next = well_given x now (next x h) k e
  well_as (well_no now k) next = well_no now k
  well_as (well_returned v now b k) next = well_returned v now b k
  well_as (well_thrown v now b k) next = well_thrown v now b k
  well_as (well_stopped cause now) next = well_stopped cause now

  pub well_also : {o : Noted} {B : Type 0} {Holds Then P : B → Type 0} {e : Ended Item B} → EndsWell q o Holds e → Given P e
      → ((x : B) → Holds x → P x → Then x) → EndsWell q o Then e
  well_also (well_given x now h k e) g next = well_given x now (next x h g) k e
  well_also (well_no now k) g next = well_no now k
  well_also (well_returned v now b k) g next = well_returned v now b k
  well_also (well_thrown v now b k) g next = well_thrown v now b k
  well_also (well_stopped cause now) g next = well_stopped cause now

  pub noted_as : {o p : Noted} {B : Type 0} {Holds : B → Type 0} {e : Ended Item B} → o ≡ p → EndsWell q o Holds e → EndsWell q p Holds e
  noted_as alike (well_given x now h k e) = well_given x now h k (e ∙ alike)
  noted_as alike (well_no now k) = well_no now k
  noted_as alike (well_returned v now b k) = well_returned v now b k
  noted_as alike (well_thrown v now b k) = well_thrown v now b k
  noted_as alike (well_stopped cause now) = well_stopped cause now

-- what is reached from a later point
pub reach_then : {fit : OfSizes} {q : Ends fit} {past : Positive} {n : ℕ} {f : Point n} {facts : List Fact} {m : ℕ} {more : List Fact}
    {Holds : Point m → Type 0} {k : ℕ} {last : List Fact} {Then : Point k → Type 0} (r : Reach q past f facts m more Holds)
    → Reach q past r.point more k last Then → Reach q past f facts k last Then
reach_then r s = record { point = s.point; later = later_on r.later s.later; stands = s.stands; given = s.given ∙ r.given; holds = s.holds }

module _ {fit : OfSizes} {q : Ends fit} {past : Positive} where
  -- ---- one behind the other

  pub binds : {n : ℕ} {f : Point n} {facts : List Fact} {A B C D : Type 0} {w : Walk A} {k : A → Walk C} {c : Run Item B} {d : B → Run Item D}
      {Holds : Behind A B} {Then : Behind C D} → Beside q past n f facts w c Holds
      → ((m : ℕ) (g : Point m) (fs : List Fact) (a : A) (x : B) → Later f g → Holds m g a x → Beside q past m g fs (k a) (d x) Then)
      → Beside q past n f facts (bind w k) (c then d) Then
  unfolding bind
  binds {n} {f} {facts} {w = w} {k = k} b next = record {
    run = λ now stands met ok.
        well_then (b.run now stands (met_front q past (w facts n).notes _ met) ok) (λ x after r keeps alike.
        noted_as alike (well_as ((next (w facts n).next r.point (w facts n).facts (w facts n).value x r.later r.holds).run after r.stands
        (met_behind q past (w facts n).notes _ met) keeps) (λ z s. reach_then r s)));
  }

  -- the walk goes on alone, the run behind it
  pub walks : {n : ℕ} {f : Point n} {facts : List Fact} {A C D : Type 0} {w : Walk A} {k : A → Walk C} {d : Run Item D}
      {Holds : Integers → A → Type 0} {Then : Behind C D} → Goes past n f facts w Holds
      → ((m : ℕ) (g : Point m) (fs : List Fact) (a : A) → Later f g → ((h : Integers) → Agree g h → Holds h a) → Beside q past m g fs (k a) d Then)
      → Beside q past n f facts (bind w k) d Then
  unfolding bind
  walks {n} {f} {facts} {w = w} {k = k} b next = record {
    run = λ now stands met ok.
        let went = b.goes in
        let r : Reach q past f facts (w facts n).next (w facts n).facts (λ p. Unit {0}) = record {
          point = went.point;
          later = went.later;
          stands = record {
            there = λ g a. went.true_there g a (stands.there g (agree_on went.later a));
            so = λ g a. subst (q.so g) (sym went.given) (stands.so g (agree_on went.later a));
          };
          given = went.given;
          holds = tt;
        } in
        well_as ((next (w facts n).next went.point (w facts n).facts (w facts n).value went.later went.holds).run now r.stands
        (met_behind q past (w facts n).notes _ met) ok) (λ z s. reach_then r s);
  }

  pub rests : {n : ℕ} {f : Point n} {facts : List Fact} {A B : Type 0} (a : A) (x : B) {Then : Behind A B} → Then n f a x
      → Beside q past n f facts (give a) (gives x) Then
  unfolding give
  rests {f = f} a x h = record {
    run = λ now stands met ok.
        well_given x now (record { point = f; later = no_later f; stands = stands; given = refl; holds = h }) ok refl;
  }

  -- a note that isn't an obligation
  pub notes : {n : ℕ} {f : Point n} {facts : List Fact} {C D : Type 0} (make : List Fact → Note) {k : Walk C} {d : Run Item D} {Then : Behind C D}
      → Beside q past n f facts k d Then → Beside q past n f facts (bind (note make) (λ t. k)) d Then
  unfolding bind note
  notes make b = record { run = λ now stands met ok. b.run now stands met.1 ok }

  -- an obligation that isn't wanted there
  pub owes : {n : ℕ} {f : Point n} {facts : List Fact} {C D : Type 0} (place : Place) (cs : Conditions) {k : Walk C} {d : Run Item D} {Then : Behind C D}
      → Beside q past n f facts k d Then → Beside q past n f facts (bind (owe place cs) (λ t. k)) d Then
  unfolding bind owe
  owes {facts = facts} place cs b = record { run = λ now stands met ok. b.run now stands (met_behind q past (goals_under facts place cs) _ met) ok }

  -- what is told by the obligations and by what is in force
  pub knowing : {n : ℕ} {f : Point n} {facts : List Fact} {A B : Type 0} {w : Walk A} {c : Run Item B} {Then : Behind A B} {P : Type 0}
      → (AllMet q past (w facts n).notes → Stands q past f facts → P) → (P → Beside q past n f facts w c Then) → Beside q past n f facts w c Then
  knowing told next = record { run = λ now stands met ok. (next (told met stands)).run now stands met ok }

  -- a piece that says No
  pub falling : {n : ℕ} {f : Point n} {facts : List Fact} {A B : Type 0} {w : Walk A} {Then : Behind A B} → Beside q past n f facts w falls Then
  falling = record { run = λ now stands met ok. well_no now ok }

  -- what isn't so
  pub never_so : {n : ℕ} {f : Point n} {facts : List Fact} {A B : Type 0} {w : Walk A} {c : Run Item B} {Then : Behind A B}
      → (AllMet q past (w facts n).notes → Stands q past f facts → ⊥) → Beside q past n f facts w c Then
  never_so told = record { run = λ now stands met ok. absurd (told met stands) }

  -- a piece that ends well by itself, then one beside the walk
  pub first_runs : {n : ℕ} {f : Point n} {facts : List Fact} {A B D : Type 0} {w : Walk A} {c : Run Item B} {d : B → Run Item D} {Holds : B → Type 0}
      {Then : Behind A D} → ((now : Now Item) → q.keeps now → EndsWell q now.opened Holds (c now))
      → ((x : B) → Holds x → Beside q past n f facts w (d x) Then) → Beside q past n f facts w (c then d) Then
  first_runs one next = record {
    run = λ now stands met ok.
        well_then (one now ok) (λ x after h keeps alike. noted_as alike ((next x h).run after stands met keeps));
  }

  -- what is known of what a walk gives and a piece gives, and of the walk behind
  pub ends_as : {n : ℕ} {f : Point n} {facts : List Fact} {A B D : Type 0} {w : Walk A} {c : Run Item B} (d : B → D) {Holds : Behind A B} {Then : Behind A D}
      → Beside q past n f facts w c Holds → ((m : ℕ) (p : Point m) (a : A) (x : B) → Later f p → Holds m p a x → Then m p a (d x))
      → Beside q past n f facts w (c then λ x. gives (d x)) Then
  ends_as {n} {facts = facts} {w = w} d b h = record {
    run = λ now stands met ok. well_then (b.run now stands met ok) (λ x after r keeps alike.
        well_given (d x) after (record {
          point = r.point;
          later = r.later;
          stands = r.stands;
          given = r.given;
          holds = h (w facts n).next r.point (w facts n).value x r.later r.holds;
        }) keeps alike);
  }

  -- what holds of what a piece gives, whatever its walk
  pub with_piece : {n : ℕ} {f : Point n} {facts : List Fact} {A B : Type 0} {w : Walk A} {c : Run Item B} (P : B → Type 0) {Holds : Behind A B}
      → ((now : Now Item) → Given P (c now)) → Beside q past n f facts w c Holds → Beside q past n f facts w c (λ m p a x. Holds m p a x × P x)
  with_piece P known b = record {
    run = λ now stands met ok. well_also {P = P} (b.run now stands met ok) (known now) (λ x r g. record {
      point = r.point;
      later = r.later;
      stands = r.stands;
      given = r.given;
      holds = (r.holds, g);
    });
  }

  -- names that are changed behind a pattern
  pub then_gives : {n : ℕ} {f : Point n} {facts : List Fact} {A B C : Type 0} {w : Walk A} (k : A → C) {c : Run Item B} {Holds : Behind A B} {Then : Behind C B}
      → Beside q past n f facts w c Holds → ((m : ℕ) (p : Point m) (a : A) (x : B) → Later f p → Holds m p a x → Then m p (k a) x)
      → Beside q past n f facts (bind w (λ a. give (k a))) c Then
  unfolding bind give
  then_gives {n} {facts = facts} {w = w} k b h = record {
    run = λ now stands met ok.
        well_as (b.run now stands (met_front q past (w facts n).notes [] met) ok) (λ x r. record {
          point = r.point;
          later = r.later;
          stands = r.stands;
          given = r.given;
          holds = h (w facts n).next r.point (w facts n).value x r.later r.holds;
        });
  }

-- of a direction that the pattern goes through
pub way_reached : {fit : OfSizes} (q : Ends fit) (past : Positive) (n : ℕ) (f : Point n) (facts : List Fact) {C : Type 0} (d : ℕ) (k : Walk C)
    → AllMet q past (bind (note (λ fs. way_note fs d)) (λ t. k) facts n).notes → Stands q past f facts → q.reached d ≡ true
unfolding bind note
way_reached q past n f facts d k met stands = met.0 f.integers (stands.there f.integers (same f)) (stands.so f.integers (same f))

-- ---- what is false is owed

wrong_met : {fit : OfSizes} (q : Ends fit) {past : Positive} {n : ℕ} {f : Point n} {facts : List Fact} (place : Place)
    → AllMet q past (wrong_pattern place facts n).notes
    → Stands q past f facts → ⊥
unfolding bind owe give
wrong_met q {past} {f = f} {facts = facts} place met stands =
    let said = goals_said q past facts place (Some (C.Truth false) ∷ []) (met.0, tt) f.integers (stands.there f.integers (same f)) in
    no (sym (truth_is (standing past f.integers) false) ∙ said.0)

pub wrongs : {fit : OfSizes} {q : Ends fit} {past : Positive} {n : ℕ} {f : Point n} {facts : List Fact} {B : Type 0} {c : Run Item B}
    {Then : Behind (List Bound) B} (place : Place)
    → Beside q past n f facts (wrong_pattern place) c Then
wrongs {q = q} {past = past} {n = n} {f = f} {facts = facts} place =
    never_so (λ met stands. wrong_met q {past = past} {n = n} {f = f} {facts = facts} place met stands)

-- ---- what an outer pattern owes behind its inner ones

-- a walk of which nothing is wanted but that what comes into force is true
abbrev pub Quiet : {fit : OfSizes} → Ends fit → Positive → {n : ℕ} → Point n → List Fact → Walk (Unit {0}) → Type 0
Quiet q past {n} f facts walk = Reach q past f facts (walk facts n).next (walk facts n).facts (λ p. Unit {0})

pub owed_quiet : {fit : OfSizes} {q : Ends fit} {past : Positive} {n : ℕ} {f : Point n} {facts : List Fact} (earlier : List Fact) (place : Place)
    (cs : Conditions) → Stands q past f facts
    → Quiet q past f facts (owe_under earlier place cs)
unfolding owe_under
owed_quiet {f = f} earlier place cs s = record { point = f; later = no_later f; stands = s; given = refl; holds = tt }

pub after_beside : {fit : OfSizes} {q : Ends fit} {past : Positive} {n : ℕ} {f : Point n} {facts : List Fact} {B : Type 0} {inner : Walk (List Bound)}
    (owed : List Fact → Walk (Unit {0})) {c : Run Item B} {Holds : Behind (List Bound) B} → Beside q past n f facts inner c Holds
    → ((m k : ℕ) (p : Point m) (r : Point k) (bs : List Bound) (x : B) → Later p r → Holds m p bs x → Holds k r bs x)
    → ((m : ℕ) (g : Point m) (fs : List Fact) → Later f g → Stands q past g fs → Quiet q past g fs (owed facts))
    → Beside q past n f facts (after_inner inner owed) c Holds
unfolding after_inner bind facts_here give
after_beside {q = q} {past = past} {n = n} {f = f} {facts = facts} {inner = inner} owed b on quiet = record {
  run = λ now stands met ok.
      well_as (b.run now stands (met_front q past (inner facts n).notes _ met) ok) (λ x r.
      let s = quiet (inner facts n).next r.point (inner facts n).facts r.later r.stands in
      record {
        point = s.point;
        later = later_on r.later s.later;
        stands = s.stands;
        given = s.given ∙ r.given;
        holds = on (inner facts n).next _ r.point s.point (inner facts n).value x s.later r.holds;
      });
}

pub met_after : {fit : OfSizes} (q : Ends fit) (past : Positive) (n : ℕ) (facts : List Fact) (inner : Walk (List Bound)) (owed : List Fact → Walk (Unit {0}))
    → AllMet q past (after_inner inner owed facts n).notes
    → AllMet q past (inner facts n).notes × AllMet q past (owed facts (inner facts n).facts (inner facts n).next).notes
unfolding after_inner bind facts_here give
met_after q past n facts inner owed met = (
  met_front q past (inner facts n).notes _ met,
  met_front q past (owed facts (inner facts n).facts (inner facts n).next).notes _ (met_behind q past (inner facts n).notes _ met),
)
