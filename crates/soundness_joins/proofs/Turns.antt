-- How a piece of a loop ends, whatever is in force there: never stuck.
use Rattle.std.proofs.Common.{◌≡◌, ℕ, zero, suc, Bool, true, false, List, Option, Some, None, if◌then◌else◌, refl, sym, subst}
use Rattle.std.specs.Prelude.{nat_lt}
use Rattle.sail_base.specs.declared.place.Place.{Place}
use Rattle.sail_types.specs.declared.values.Value.{Value}
use Rattle.model_state.specs.declared.cause.Cause.{Cause}
use Rattle.model_state.specs.declared.cause.Cause.TheVariants.{Measure, WorkLimit}
use Rattle.sail_core.specs.Making.{Making, natural, nothing}
use Rattle.sail_core.specs.Meaning.{condition_of, fallen, from_before, loop_measure, repeat_turns, while_turns}
use Rattle.sail_core.specs.Run as R
use Rattle.sail_core.specs.Run.{Now, Ended, Run, gives, goes_on, if_so, leaving, tick, tick_at, ◌then◌}
use Rattle.value_indices.specs.declared.notes.Fact.{Fact}
use Rattle.value_indices.specs.Steps.{Walk}
use Rattle.value_laws.specs.Known.{Point}
use Rattle.checked_meaning.specs.Checked.{Noted, checked}
use Rattle.checked_meaning.specs.Items.{Item}
use Rattle.soundness_steps.specs.Points.{Later}
use Rattle.soundness_steps.specs.Works.{Scene}
use Rattle.soundness_steps.specs.States.{IsAnswer, IsThrown, Sound}
use Rattle.soundness_steps.specs.Steps.{AllMet, Beside, EndsWell, Stands, well_given, well_no, well_returned, well_stopped, well_thrown}
use Rattle.soundness_forms.proofs.Joins.{then_then}

pub data Safe (q : Scene) {A : Type 0} (Good : A → Type 0) : Ended Item A → Type 0 where
  safe_given : (x : A) (now : Now Item) → Good x → Sound q now → Safe q Good (R.Gives x now)
  safe_no : (now : Now Item) → q.may_fall ≡ true → Sound q now → Safe q Good (R.No now)
  safe_returned : (v : Value) (now : Now Item) → IsAnswer q.set.around.types q.answer v → Sound q now → Safe q Good (R.Returns v now)
  safe_thrown : (v : Value) (now : Now Item) → IsThrown q.set q.set.around.exception v → Sound q now → Safe q Good (R.Throws v now)
  safe_stopped : (cause : Cause) (now : Now Item) → Safe q Good (R.Stops cause now)

pub safe_of : {q : Scene} {n : ℕ} {f : Point n} {m : ℕ} {fs : List Fact} {B : Type 0} {Holds : Point m → B → Type 0} {Good : B → Type 0} {e : Ended Item B}
    → ((p : Point m) (x : B) → Holds p x → Good x) → EndsWell q f m fs Holds e → Safe q Good e
safe_of say (well_given x now r s) = safe_given x now (say r.point x r.holds) s
safe_of say (well_no now a s) = safe_no now a s
safe_of say (well_returned v now b s) = safe_returned v now b s
safe_of say (well_thrown v now b s) = safe_thrown v now b s
safe_of say (well_stopped cause now) = safe_stopped cause now

pub safe_then : {q : Scene} {A B : Type 0} {Good : A → Type 0} {Then : B → Type 0} {e : Ended Item A} (c : A → Run Item B) → Safe q Good e
    → ((x : A) (now : Now Item) → Good x → Sound q now → Safe q Then (c x now)) → Safe q Then (goes_on e c)
safe_then c (safe_given x now g s) next = next x now g s
safe_then c (safe_no now a s) next = safe_no now a s
safe_then c (safe_returned v now b s) next = safe_returned v now b s
safe_then c (safe_thrown v now b s) next = safe_thrown v now b s
safe_then c (safe_stopped cause now) next = safe_stopped cause now

-- the loop's end, with the numbers that were noted before it
pub loop_ends : {q : Scene} {n m : ℕ} {f : Point n} {fs : List Fact} {Holds : Point m → Item → Type 0} {e : Ended Item Item} (noted : Noted) (p : Point m)
    → Later f p → Stands q.set q.work noted p fs → (y : Item) → Holds p y → Safe q (λ x. x ≡ y) e
    → EndsWell q f m fs Holds (leaving (λ after. record after { opened = noted }) e)
loop_ends {Holds = Holds} noted p l stands y h (safe_given x now g s) = well_given x (record now { opened = noted })
    (record { point = p; later = l; stands = stands; holds = subst (Holds p) (sym g) h }) (record { state = s.state; names = s.names })
loop_ends noted p l stands y h (safe_no now a s) = well_no (record now { opened = noted }) a (record { state = s.state; names = s.names })
loop_ends noted p l stands y h (safe_returned v now b s) = well_returned v (record now { opened = noted }) b (record { state = s.state; names = s.names })
loop_ends noted p l stands y h (safe_thrown v now b s) = well_thrown v (record now { opened = noted }) b (record { state = s.state; names = s.names })
loop_ends noted p l stands y h (safe_stopped cause now) = well_stopped cause (record now { opened = noted })

pub tick_safe : {q : Scene} (k : ℕ) (now : Now Item) → Sound q now → Safe q (λ t. Unit {0}) (tick_at k now)
tick_safe zero now s = safe_stopped WorkLimit now
tick_safe (suc k) now s = safe_given tt (record now { ticks = k }) tt (record { state = s.state; names = s.names })

module _ (q : Scene) where
  abbrev pub z : Making Item
  z = checked q.set.around.types q.cases

  -- a piece that begins with what was opened before the loop
  pub piece_safe : {n : ℕ} {f : Point n} {facts : List Fact} {A B : Type 0} {w : Walk A} {c : Run Item B} {Holds : (m : ℕ) → Point m → A → B → Type 0}
      {Good : B → Type 0} (before : Now Item) → Stands q.set q.work before.opened f facts → Beside q n f facts w c Holds → AllMet q (w facts n).notes
      → ((p : Point (w facts n).next) (x : B) → Holds (w facts n).next p (w facts n).value x → Good x) → (now : Now Item) → Sound q now
      → Safe q Good (from_before z before c now)
  piece_safe before stands b met say now s =
      safe_of say (b.run (z.back before now) stands met (record { state = s.state; names = s.names }))

  -- what a measure's test gives
  abbrev pub Natural : Item → Type 0
  Natural x = (k : ℕ) × ((now : Now Item) → R.Gives k now ≡ natural z x now)

  module _ (before : Now Item) (place : Place) (measure condition body : Run Item Item)
      (measures : (now : Now Item) → Sound q now → Safe q (λ k. Unit {0}) ((from_before z before measure then natural z) now))
      (conditions : (now : Now Item) → Sound q now → Safe q (λ b. Unit {0}) (condition_of z before condition now))
      (bodies : (now : Now Item) → Sound q now → Safe q (λ x. Unit {0}) (from_before z before body now)) where
    fallen_by : (t : Bool) (last k : ℕ) (now : Now Item) → Sound q now
        → Safe q (λ n. Unit {0}) ((if t then gives k else R.stops (Measure place)) now)
    fallen_by true last k now s = safe_given k now tt s
    fallen_by false last k now s = safe_stopped (Measure place) now

    fallen_safe : (last : Option ℕ) (k : ℕ) (now : Now Item) → Sound q now → Safe q (λ n. Unit {0}) (fallen place last k now)
    fallen_safe None k now s = safe_given k now tt s
    fallen_safe (Some last) k now s = fallen_by (nat_lt k last) last k now s

    measure_safe : (last : Option ℕ) (now : Now Item) → Sound q now → Safe q (λ n. Unit {0}) (loop_measure z before place measure last now)
    measure_safe last now s = subst (Safe q (λ n. Unit {0})) (then_then (from_before z before measure now) (natural z) (fallen place last))
        (safe_then (fallen place last) (measures now s) (λ k after u t. fallen_safe last k after t))

    while_turn : (turns : ℕ) (last : Option ℕ)
        → ((n : ℕ) (now : Now Item) → Sound q now → Safe q (λ x. x ≡ nothing z) (while_turns z before turns place measure condition body (Some n) now))
        → (b : Bool) (now : Now Item) → Sound q now → Safe q (λ x. x ≡ nothing z)
        (if_so (tick then λ t. loop_measure z before place measure last then λ n. from_before z before body
        then λ x. while_turns z before turns place measure condition body (Some n)) (gives (nothing z)) b now)
    while_turn turns last again true now s = safe_then _ (tick_safe now.ticks now s) (λ t now1 u s1. safe_then _ (measure_safe last now1 s1) (λ n now2 u2 s2.
        safe_then _ (bodies now2 s2) (λ x now3 u3 s3. again n now3 s3)))
    while_turn turns last again false now s = safe_given (nothing z) now refl s

    pub while_safe : (turns : ℕ) (last : Option ℕ) (now : Now Item) → Sound q now
        → Safe q (λ x. x ≡ nothing z) (while_turns z before turns place measure condition body last now)
    while_safe zero last now s = safe_stopped WorkLimit now
    while_safe (suc turns) last now s = safe_then _ (conditions now s) (λ b now1 u s1.
        while_turn turns last (λ n now2 s2. while_safe turns (Some n) now2 s2) b now1 s1)

    repeat_turn : (turns n : ℕ)
        → ((now : Now Item) → Sound q now → Safe q (λ x. x ≡ nothing z) (repeat_turns z before turns place measure body condition (Some n) now))
        → (b : Bool) (now : Now Item) → Sound q now → Safe q (λ x. x ≡ nothing z)
        (if_so (gives (nothing z)) (repeat_turns z before turns place measure body condition (Some n)) b now)
    repeat_turn turns n again true now s = safe_given (nothing z) now refl s
    repeat_turn turns n again false now s = again now s

    pub repeat_safe : (turns : ℕ) (last : Option ℕ) (now : Now Item) → Sound q now
        → Safe q (λ x. x ≡ nothing z) (repeat_turns z before turns place measure body condition last now)
    repeat_safe zero last now s = safe_stopped WorkLimit now
    repeat_safe (suc turns) last now s =
        safe_then _ (tick_safe now.ticks now s) (λ t now1 u s1. safe_then _ (measure_safe last now1 s1) (λ n now2 u2 s2.
        safe_then _ (bodies now2 s2) (λ x now3 u3 s3. safe_then _ (conditions now3 s3) (λ b now4 u4 s4.
        repeat_turn turns n (λ now5 s5. repeat_safe turns (Some n) now5 s5) b now4 s4))))
