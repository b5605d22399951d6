-- Through which directions of mappings the notes of a walk go: the walk writes such a note at a pattern that is a mapping alone. Each step of a walk,
-- and what is asked of the parts that a walk is made of.
use Rattle.std.proofs.Common.{◌≡◌, subst, ℕ, zero, suc, Bool, true, false, if◌then◌else◌, List, [], ◌∷◌, ◌++◌, Option, Some, None, take, drop, slice_get}
use Rattle.std.specs.Prelude.{is_some}
use Rattle.sail_base.specs.declared.place.Place.{Place}
use Rattle.sail_types.specs.declared.numbers.Con.{Con}
use Rattle.sail_core.specs.declared.model.Function.{Function}
use Rattle.sail_core.specs.declared.patterns.Arm.{Arm}
use Rattle.sail_core.specs.declared.patterns.Arm.TheVariants as A
use Rattle.sail_core.specs.declared.patterns.Pattern.{Pattern}
use Rattle.sail_core.specs.declared.tree.Kind.{Kind}
use Rattle.sail_core.specs.declared.tree.Kind.TheVariants as K
use Rattle.sail_core.specs.declared.tree.Statement.{Statement}
use Rattle.sail_core.specs.declared.tree.Statement.TheVariants as S
use Rattle.value_indices.specs.declared.indices.Indices.{Indices}
use Rattle.value_indices.specs.declared.notes.Fact.{Fact}
use Rattle.value_indices.specs.Steps.{Conditions, Note, Walk, assume, assume_all, assume_if, bind, claimed, each, facts_here, fresh, fresh_named}
use Rattle.value_indices.specs.Steps.{give, give_number, goals_under, next_variable, note, owe, owe_under, scoped, wrong}
use Rattle.value_fits.specs.Fitting.{owe_fit, owe_fit_under, owe_made, owe_made_under}
use Rattle.value_fits.specs.declared.fitted.Fitted.{Fitted}
use Rattle.pattern_leaves.specs.Settings.{Around, Scope}
use Rattle.pattern_notes.specs.declared.matching.Matching.{Matching}
use Rattle.pattern_notes.specs.Patterns.{Look}
use Rattle.call_arguments.specs.declared.aims.Aim.{Aim}
use Rattle.expression_forms.specs.Spots.{Spot, in_force}
use Rattle.expression_steps.specs.Parts.{Part}
use Rattle.expression_steps.specs.Targets.{Spotted, SpottedAll, Spotting}
use Rattle.expression_steps.specs.Values.{Passed, Taken}
use Rattle.note_laws.specs.Notes.{EachNote}
use Rattle.note_laws.specs.Ways.{Through, Told, has_direction, pattern_reached}

-- ---- notes

abbrev pub AllGo : Told → List Note → Type 0
AllGo told ns = EachNote (Through told) ns

pub all_join : (told : Told) (ns ms : List Note) → AllGo told ns → AllGo told ms → AllGo told (ns ++ ms)
all_join told [] ms h k = k
all_join told (n ∷ ns) ms h k = (h.0, all_join told ns ms h.1 k)

goals_go : (told : Told) (facts : List Fact) (place : Place) (cs : Conditions) → AllGo told (goals_under facts place cs)
goals_go told facts place [] = tt
goals_go told facts place (c ∷ cs) = (tt, tt)

-- ---- walks: their notes go through directions that are reached, and what they give is so too
pub record Keeps (told : Told) {A : Type 0} (Q : A → Type 0) (walk : Walk A) : Type 0 where
  pub notes : (facts : List Fact) (n : ℕ) → AllGo told (walk facts n).notes
  pub value : (facts : List Fact) (n : ℕ) → Q (walk facts n).value

abbrev pub Goes : Told → {A : Type 0} → Walk A → Type 0
Goes told walk = Keeps told (λ x. Unit {0}) walk

-- ---- what a walk is told of is of its model

abbrev pub IsTabled : Told → Around → Type 0
IsTabled told around = (around.functions ≡ told.functions) × (around.directions ≡ told.directions)

pub tabled_has : (told : Told) (around : Around) → IsTabled told around → (d : ℕ) → is_some (slice_get around.directions d) ≡ true
    → has_direction told.directions d ≡ true
tabled_has told around tabled d there = subst (λ ds. has_direction ds d ≡ true) tabled.1 there

pub tabled_function : (told : Told) (around : Around) → IsTabled told around → (i : ℕ) (f : Function) → slice_get around.functions i ≡ Some f
    → slice_get told.functions i ≡ Some f
tabled_function told around tabled i f there = subst (λ fs. slice_get fs i ≡ Some f) tabled.0 there

-- ---- steps

module _ (told : Told) where
  pub keep_give : {A : Type 0} (Q : A → Type 0) (x : A) → Q x → Keeps told Q (give x)
  unfolding give
  keep_give Q x h = record { notes = λ facts n. tt; value = λ facts n. h }

  pub give_goes : {A : Type 0} (x : A) → Goes told (give x)
  give_goes x = keep_give (λ y. Unit {0}) x tt

  pub bind_to : {A B : Type 0} {Q : A → Type 0} {R : B → Type 0} (w : Walk A) (k : A → Walk B) → Keeps told Q w
      → ((x : A) → Q x → Keeps told R (k x)) → Keeps told R (bind w k)
  unfolding bind
  bind_to w k first next = record {
    notes = λ facts n.
        all_join told (w facts n).notes (k (w facts n).value (w facts n).facts (w facts n).next).notes (first.notes facts n)
        ((next (w facts n).value (first.value facts n)).notes (w facts n).facts (w facts n).next);
    value = λ facts n. (next (w facts n).value (first.value facts n)).value (w facts n).facts (w facts n).next;
  }

  pub bind_goes : {A B : Type 0} {R : B → Type 0} (w : Walk A) (k : A → Walk B) → Goes told w → ((x : A) → Keeps told R (k x))
      → Keeps told R (bind w k)
  bind_goes w k first next = bind_to w k first (λ x t. next x)

  pub if_goes : {A : Type 0} {Q : A → Type 0} (b : Bool) (u v : Walk A) → Keeps told Q u → Keeps told Q v
      → Keeps told Q (if b then u else v)
  if_goes true u v h k = h
  if_goes false u v h k = k

  pub note_goes : (make : List Fact → Note) → ((facts : List Fact) → Through told (make facts)) → Goes told (note make)
  unfolding note
  note_goes make h = record { notes = λ facts n. (h facts, tt); value = λ facts n. tt }

  pub assume_goes : (c : Con) → Goes told (assume c)
  unfolding assume
  assume_goes c = record { notes = λ facts n. tt; value = λ facts n. tt }

  pub assume_if_goes : (o : Option Con) → Goes told (assume_if o)
  assume_if_goes None = give_goes tt
  assume_if_goes (Some c) = assume_goes c

  pub assume_all_goes : (cs : Conditions) → Goes told (assume_all cs)
  assume_all_goes [] = give_goes tt
  assume_all_goes (c ∷ cs) = bind_goes (assume_if c) (λ t. assume_all cs) (assume_if_goes c) (λ t. assume_all_goes cs)

  pub in_force_goes : (fs : List Fact) → Goes told (in_force fs)
  unfolding in_force
  in_force_goes fs = record { notes = λ facts n. tt; value = λ facts n. tt }

  pub give_number_goes : (v : ℕ) → Goes told (give_number v)
  unfolding give_number
  give_number_goes v = record { notes = λ facts n. tt; value = λ facts n. tt }

  pub fresh_goes : Goes told fresh
  unfolding fresh
  fresh_goes = record { notes = λ facts n. tt; value = λ facts n. tt }

  pub fresh_named_goes : (name : List ℕ) → Goes told (fresh_named name)
  unfolding fresh_named
  fresh_named_goes name = record { notes = λ facts n. (tt, tt); value = λ facts n. tt }

  pub next_variable_goes : Goes told next_variable
  unfolding next_variable
  next_variable_goes = record { notes = λ facts n. tt; value = λ facts n. tt }

  pub facts_here_goes : Goes told facts_here
  unfolding facts_here
  facts_here_goes = record { notes = λ facts n. tt; value = λ facts n. tt }

  pub scoped_goes : {A : Type 0} {Q : A → Type 0} (w : Walk A) → Keeps told Q w → Keeps told Q (scoped w)
  unfolding scoped
  scoped_goes w h = record { notes = h.notes; value = h.value }

  pub claimed_goes : {A : Type 0} {Q : A → Type 0} (c : Con) (w : Walk A) → Keeps told Q w → Keeps told Q (claimed c w)
  unfolding claimed
  claimed_goes c w h = record { notes = λ facts n. h.notes _ n; value = λ facts n. h.value _ n }

  pub owe_goes : (place : Place) (cs : Conditions) → Goes told (owe place cs)
  unfolding owe
  owe_goes place cs = record { notes = λ facts n. goals_go told facts place cs; value = λ facts n. tt }

  pub owe_under_goes : (earlier : List Fact) (place : Place) (cs : Conditions) → Goes told (owe_under earlier place cs)
  unfolding owe_under
  owe_under_goes earlier place cs = record { notes = λ facts n. goals_go told earlier place cs; value = λ facts n. tt }

  pub wrong_goes : (place : Place) → Goes told (wrong place)
  wrong_goes place = owe_goes place _

  pub owe_fit_goes : (place : Place) (f : ℕ → Fitted) → Goes told (owe_fit place f)
  unfolding owe_fit owe_made
  owe_fit_goes place f = record { notes = λ facts n. goals_go told (facts ++ (f n).facts) place (f n).conditions; value = λ facts n. tt }

  pub owe_fit_under_goes : (earlier : List Fact) (place : Place) (f : ℕ → Fitted) → Goes told (owe_fit_under earlier place f)
  unfolding owe_fit_under owe_made_under
  owe_fit_under_goes earlier place f =
      record { notes = λ facts n. goals_go told (earlier ++ (f n).facts) place (f n).conditions; value = λ facts n. tt }

  pub each_goes : {A B : Type 0} (f : A → Walk B) → ((x : A) → Goes told (f x)) → (xs : List A) → Goes told (each f xs)
  each_goes f h [] = give_goes []
  each_goes f h (x ∷ xs) = bind_goes (f x) _ (h x) (λ y. bind_goes (each f xs) _ (each_goes f h xs) (λ ys. give_goes (y ∷ ys)))

-- ---- lists

abbrev pub Every : {A : Type 0} → (A → Type 0) → List A → Type 0
Every P [] = Unit {0}
Every P (x ∷ xs) = P x × Every P xs

pub take_every : {A : Type 0} (P : A → Type 0) (n : ℕ) (xs : List A) → Every P xs → Every P (take n xs)
take_every P zero xs h = tt
take_every P (suc n) [] h = tt
take_every P (suc n) (x ∷ xs) h = (h.0, take_every P n xs h.1)

pub drop_every : {A : Type 0} (P : A → Type 0) (n : ℕ) (xs : List A) → Every P xs → Every P (drop n xs)
drop_every P zero xs h = h
drop_every P (suc n) [] h = tt
drop_every P (suc n) (x ∷ xs) h = drop_every P n xs h.1

-- ---- parts of expressions, patterns and targets

pub record PartGoes (told : Told) (a : Part) : Type 0 where
  pub walk : (around : Around) (tabled : IsTabled told around) (scope : Scope) (aim : Aim) → Goes told (a.walk around scope aim)
  pub state : (around : Around) (tabled : IsTabled told around) (scope : Scope) → Goes told (a.state around scope)

abbrev pub LookGoes : Told → Look → Type 0
LookGoes told p = (around : Around) (tabled : IsTabled told around) (how : Matching) (i : Indices) → Goes told (p.match_with around how i)

pub record SpotGoes (told : Told) (s : Spot) : Type 0 where
  pub read : Goes told s.read
  pub given : (i : Indices) → Goes told (s.given i)
  pub write : (is_nested : Bool) (i : Indices) → Goes told (s.write is_nested i)
  pub renew : (i : Indices) → Goes told (s.renew i)

pub spot_if_goes : (told : Told) (b : Bool) (s t : Spot) → SpotGoes told s → SpotGoes told t → SpotGoes told (if b then s else t)
spot_if_goes told true s t h k = h
spot_if_goes told false s t h k = k

abbrev pub SpottedGoes : Told → Option Spotted → Type 0
SpottedGoes told None = Unit {0}
SpottedGoes told (Some s) = SpotGoes told s.spot × Every (PartGoes told) s.left

abbrev pub AllSpotted : Told → Option SpottedAll → Type 0
AllSpotted told None = Unit {0}
AllSpotted told (Some s) = Every (SpotGoes told) s.spots × Every (PartGoes told) s.left

abbrev pub TakenGoes : Told → Option Taken → Type 0
TakenGoes told None = Unit {0}
TakenGoes told (Some w) = Every (PartGoes told) w.left

abbrev pub PassedGoes : Told → Option Passed → Type 0
PassedGoes told None = Unit {0}
PassedGoes told (Some w) = Every (PartGoes told) w.left

abbrev pub SpottingGoes : Told → Spotting → Type 0
SpottingGoes told t =
    (around : Around) (tabled : IsTabled told around) (scope : Scope) (parts : List Part) → Every (PartGoes told) parts → Keeps told (SpottedGoes told)
    (t around scope parts)

-- ---- patterns and kinds, all of whose mappings are reached

abbrev pub PatternGoes : Told → Pattern → Type 0
PatternGoes told p = pattern_reached told.reached p ≡ true

abbrev pub ArmGoes : Told → Arm → Type 0
ArmGoes told (A.Nested ps) = Every (PatternGoes told) ps
ArmGoes told (A.Flat count steps) = Unit {0}

abbrev pub StatementGoes : Told → Statement → Type 0
StatementGoes told (S.Define place arm) = ArmGoes told arm
StatementGoes told statement = Unit {0}

abbrev pub KindGoes : Told → Kind → Type 0
KindGoes told (K.Let arm) = ArmGoes told arm
KindGoes told (K.Block statements) = Every (StatementGoes told) statements
KindGoes told (K.Match arms shape) = Every (ArmGoes told) arms
KindGoes told (K.Try arms shape) = Every (ArmGoes told) arms
KindGoes told (K.Clauses arms) = Every (ArmGoes told) arms
KindGoes told kind = Unit {0}
