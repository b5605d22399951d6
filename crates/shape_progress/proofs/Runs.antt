-- Pieces that go on, one behind the other; and names in scope.
use Rattle.std.proofs.Common.{◌≡◌, ℕ, suc, zero, List, [], ◌∷◌, ◌++◌, length, drop, refl, sym, subst, Bool, true, false, Option, Some}
use Rattle.sail_types.specs.Shapes.{fits}
use Rattle.sail_types.specs.declared.table.Types.{Types}
use Rattle.sail_types.specs.declared.values.Value.{Value}
use Rattle.sail_core.specs.Run as R
use Rattle.sail_core.specs.Run.{Now, Ended, Run, goes_on, or_so, caught, within, leaving, tick_at, tick, needs, gives, ◌then◌, ◌or_else◌}
use Rattle.sail_core.specs.Making.{World}
use Rattle.shape_rules.specs.declared.locals.Local.{Local}
use Rattle.shape_meanings.specs.Whole.{Choice}
use Rattle.shape_meanings.specs.Keeping.{Suits, Reach}
use Rattle.shape_meanings.proofs.Runs.{suits_behind, suits_left}
use Rattle.shape_progress.specs.Checks.{where_met}
use Rattle.shape_progress.specs.Going.{Ready, Goes, GoesOn, under}

-- ---- one piece, and then the next

after_goes : {A B : Type 0} (reach : Reach) (w : World Value) (P : A → Type 0) (Q : B → Type 0) (e : Ended Value A) (f : A → Run Value B)
    → Goes reach w P e → ((x : A) → P x → GoesOn reach w Q (f x)) → Goes reach w Q (goes_on e f)
after_goes reach w P Q (R.Gives x now) f h k = k x h.0 now h.1
after_goes reach w P Q (R.No now) f h k = h
after_goes reach w P Q (R.Returns v now) f h k = h
after_goes reach w P Q (R.Throws v now) f h k = h
after_goes reach w P Q (R.Stops cause now) f h k = tt
after_goes reach w P Q R.Stuck f h k = absurd h

pub then_goes : {A B : Type 0} (reach : Reach) (w : World Value) (P : A → Type 0) (Q : B → Type 0) (r : Run Value A) (f : A → Run Value B)
    → GoesOn reach w P r → ((x : A) → P x → GoesOn reach w Q (f x)) → GoesOn reach w Q (r then f)
then_goes reach w P Q r f h k now ready = after_goes reach w P Q (r now) f (h now ready) k

or_goes_at : {A : Type 0} (reach : Reach) (w : World Value) (P : A → Type 0) (e : Ended Value A) (r : Run Value A) → Goes reach w P e → GoesOn reach w P r
    → Goes reach w P (or_so e r)
or_goes_at reach w P (R.Gives x now) r h k = h
or_goes_at reach w P (R.No now) r h k = k now h
or_goes_at reach w P (R.Returns v now) r h k = h
or_goes_at reach w P (R.Throws v now) r h k = h
or_goes_at reach w P (R.Stops cause now) r h k = tt
or_goes_at reach w P R.Stuck r h k = absurd h

-- one piece, and where it says No another one
pub or_goes : {A : Type 0} (reach : Reach) (w : World Value) (P : A → Type 0) (a b : Run Value A) → GoesOn reach w P a → GoesOn reach w P b
    → GoesOn reach w P (a or_else b)
or_goes reach w P a b h k now ready = or_goes_at reach w P (a now) b (h now ready) k

-- what is thrown goes on with another piece
pub caught_goes : {A : Type 0} (reach : Reach) (w : World Value) (P : A → Type 0) (e : Ended Value A) (f : Value → Run Value A) → Goes reach w P e
    → ((v : Value) → fits reach.types v reach.thrown ≡ true → GoesOn reach w P (f v)) → Goes reach w P (caught e f)
caught_goes reach w P (R.Gives x now) f h k = h
caught_goes reach w P (R.No now) f h k = h
caught_goes reach w P (R.Returns v now) f h k = h
caught_goes reach w P (R.Throws v now) f h k = k v h.0 now h.1
caught_goes reach w P (R.Stops cause now) f h k = tt
caught_goes reach w P R.Stuck f h k = absurd h

goes_as_at : {A : Type 0} (reach : Reach) (w : World Value) (P Q : A → Type 0) (e : Ended Value A) → ((x : A) → P x → Q x) → Goes reach w P e → Goes reach w Q e
goes_as_at reach w P Q (R.Gives x now) f h = (f x h.0, h.1)
goes_as_at reach w P Q (R.No now) f h = h
goes_as_at reach w P Q (R.Returns v now) f h = h
goes_as_at reach w P Q (R.Throws v now) f h = h
goes_as_at reach w P Q (R.Stops cause now) f h = tt
goes_as_at reach w P Q R.Stuck f h = absurd h

-- what is weaker is given too
pub goes_as : {A : Type 0} (reach : Reach) (w : World Value) (P Q : A → Type 0) (r : Run Value A) → ((x : A) → P x → Q x) → GoesOn reach w P r
    → GoesOn reach w Q r
goes_as reach w P Q r f h now ready = goes_as_at reach w P Q (r now) f (h now ready)

-- ---- single steps

pub gives_goes : {A : Type 0} (reach : Reach) (w : World Value) (P : A → Type 0) (x : A) → P x → GoesOn reach w P (gives x)
gives_goes reach w P x h now ready = (h, ready)

pub needs_goes : {A : Type 0} (reach : Reach) (w : World Value) (P : A → Type 0) (o : Option A) (x : A) → o ≡ Some x → P x → GoesOn reach w P (needs o)
needs_goes {A} reach w P o x e h = subst (λ (p : Option A). GoesOn reach w P (needs p)) (sym e) (gives_goes reach w P x h)

-- a piece behind a condition: where that fails, the run stops
pub met_goes : {A : Type 0} (reach : Reach) (w : World Value) (P : A → Type 0) (b : Bool) (r : Run Value A) → (b ≡ true → GoesOn reach w P r)
    → GoesOn reach w P (where_met b r)
met_goes reach w P true r h = h refl
met_goes reach w P false r h = λ now ready. tt

tick_at_goes : (reach : Reach) (w : World Value) (n : ℕ) (now : Now Value) → Ready reach w.hart now → Goes reach w (λ (t : Unit {0}). Unit {0}) (tick_at n now)
tick_at_goes reach w zero now ready = tt
tick_at_goes reach w (suc n) now ready =
    (tt, record { good = record { locals = ready.good.locals; state = ready.good.state }; here = ready.here; there = ready.there })

pub tick_goes : (reach : Reach) (w : World Value) → GoesOn reach w (λ (t : Unit {0}). Unit {0}) tick
tick_goes reach w now ready = tick_at_goes reach w now.ticks now ready

-- ---- further names in scope

-- what a piece leaves, without the names that were added
abbrev left_by : List (R.Local Value) → Now Value → Now Value
left_by found after = record after { locals = drop (length found) after.locals }

left_ready : (reach : Reach) (w : World Value) (new : List Local) (found : List (R.Local Value)) (after : Now Value)
    → Suits reach.types reach.choice new found → Ready (under reach new) w.hart after → Ready reach w.hart (left_by found after)
left_ready reach w new found after h ready = record {
  good = record {
    locals = suits_left reach.types reach.choice new reach.slots found after.locals h ready.good.locals;
    state = ready.good.state;
  };
  here = ready.here;
  there = ready.there;
}

leaving_goes : {A : Type 0} (reach : Reach) (w : World Value) (P : A → Type 0) (new : List Local) (found : List (R.Local Value)) (e : Ended Value A)
    → Suits reach.types reach.choice new found → Goes (under reach new) w P e → Goes reach w P (leaving (left_by found) e)
leaving_goes reach w P new found (R.Gives x now) h k = (k.0, left_ready reach w new found now h k.1)
leaving_goes reach w P new found (R.No now) h k = left_ready reach w new found now h k
leaving_goes reach w P new found (R.Returns v now) h k = (k.0, left_ready reach w new found now h k.1)
leaving_goes reach w P new found (R.Throws v now) h k = (k.0, left_ready reach w new found now h k.1)
leaving_goes reach w P new found (R.Stops cause now) h k = tt
leaving_goes reach w P new found R.Stuck h k = absurd k

-- a piece under names that suit: they are gone behind it
pub within_goes : {A : Type 0} (reach : Reach) (w : World Value) (P : A → Type 0) (new : List Local) (found : List (R.Local Value)) (r : Run Value A)
    → Suits reach.types reach.choice new found → GoesOn (under reach new) w P r → GoesOn reach w P (within found r)
within_goes reach w P new found r h k now ready =
    leaving_goes reach w P new found (r (record now { locals = found ++ now.locals })) h
    (k (record now { locals = found ++ now.locals }) (record {
      good = record {
        locals = suits_behind reach.types reach.choice new reach.slots found now.locals h ready.good.locals;
        state = ready.good.state;
      };
      here = ready.here;
      there = ready.there;
    }))
