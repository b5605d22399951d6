-- Pieces under further names, and pieces one of which goes on where another says No.
use Rattle.std.proofs.Common.{ℕ, zero, suc, true, List, [], ◌∷◌, ◌++◌, length, drop}
use Rattle.sail_types.specs.declared.table.Types.{Types}
use Rattle.model_state.specs.declared.cause.Cause.TheVariants.{WorkLimit}
use Rattle.sail_core.specs.Run as R
use Rattle.sail_core.specs.Run.{Local, Now, Ended, Run, within, tick, tick_at, or_so}
use Rattle.value_indices.specs.declared.notes.Fact.{Fact}
use Rattle.value_indices.specs.Steps.{Walk, give}
use Rattle.value_laws.specs.Known.{Point}
use Rattle.checked_meaning.specs.Items.{Item}
use Rattle.soundness_steps.proofs.Points.{no_later}
use Rattle.soundness_steps.specs.Works.{Kept, Scene}
use Rattle.soundness_steps.specs.States.{AllKept, Sound}
use Rattle.soundness_steps.specs.Steps.{Stands, EndsWell, well_given, well_no, well_returned, well_thrown, well_stopped, Beside, no_walk}

-- the same scene under further names, the newest first
abbrev pub naming : List Kept → Scene → Scene
naming ks q = record q { names = ks ++ q.names }

-- where a piece may say No
abbrev pub falling : Scene → Scene
falling q = record q { may_fall = true }

-- ---- names

kept_front : (types : Types) (ks qs : List Kept) (ls ms : List (Local Item)) → AllKept types ks ls → AllKept types qs ms
    → AllKept types (ks ++ qs) (ls ++ ms)
kept_front types [] qs [] ms h k = k
kept_front types (x ∷ ks) qs (l ∷ ls) ms h k = (h.0, kept_front types ks qs ls ms h.1 k)
kept_front types [] qs (l ∷ ls) ms h k = absurd h
kept_front types (x ∷ ks) qs [] ms h k = absurd h

kept_behind : (types : Types) (ks qs : List Kept) (ls ms : List (Local Item)) → AllKept types ks ls → AllKept types (ks ++ qs) ms
    → AllKept types qs (drop (length ls) ms)
kept_behind types [] qs [] ms h k = k
kept_behind types (x ∷ ks) qs (l ∷ ls) (m ∷ ms) h k = kept_behind types ks qs ls ms h.1 k.1
kept_behind types (x ∷ ks) qs (l ∷ ls) [] h k = absurd k
kept_behind types [] qs (l ∷ ls) ms h k = absurd h
kept_behind types (x ∷ ks) qs [] ms h k = absurd h

without : {q : Scene} (ks : List Kept) (ls : List (Local Item)) → AllKept q.set.around.types ks ls → (now : Now Item) → Sound (naming ks q) now
    → Sound q (record now { locals = drop (length ls) now.locals })
without {q} ks ls h now s = record { state = s.state; names = kept_behind q.set.around.types ks q.names ls now.locals h s.names }

within_well : {q : Scene} (ks : List Kept) (ls : List (Local Item)) → AllKept q.set.around.types ks ls
    → {n : ℕ} {f : Point n} {m : ℕ} {fs : List Fact} {B : Type 0} {Holds : Point m → B → Type 0} {e : Ended Item B}
    → EndsWell (naming ks q) f m fs Holds e → EndsWell q f m fs Holds (R.leaving (λ after. record after { locals = drop (length ls) after.locals }) e)
within_well ks ls h (well_given x now r s) =
    well_given x (record now { locals = drop (length ls) now.locals }) r (without ks ls h now s)
within_well ks ls h (well_no now a s) = well_no (record now { locals = drop (length ls) now.locals }) a (without ks ls h now s)
within_well ks ls h (well_returned v now b s) = well_returned v (record now { locals = drop (length ls) now.locals }) b (without ks ls h now s)
within_well ks ls h (well_thrown v now b s) = well_thrown v (record now { locals = drop (length ls) now.locals }) b (without ks ls h now s)
within_well ks ls h (well_stopped cause now) = well_stopped cause (record now { locals = drop (length ls) now.locals })

-- a piece under names that are kept so
pub under_names : {q : Scene} (ks : List Kept) (ls : List (Local Item)) → AllKept q.set.around.types ks ls
    → {n : ℕ} {f : Point n} {facts : List Fact} {A B : Type 0} {w : Walk A} {c : Run Item B} {Holds : (m : ℕ) → Point m → A → B → Type 0}
    → Beside (naming ks q) n f facts w c Holds → Beside q n f facts w (within ls c) Holds
under_names {q} ks ls h b = record {
  run = λ now stands met ok.
      within_well ks ls h (b.run (record now { locals = ls ++ now.locals }) stands met
      (record { state = ok.state; names = kept_front q.set.around.types ks q.names ls now.locals h ok.names }));
}

-- ---- where a piece says No another goes on, with the numbers that were noted before

pub or_well : {q : Scene} {n : ℕ} {f : Point n} {m : ℕ} {fs : List Fact} {B : Type 0} {Holds : Point m → B → Type 0} {e : Ended Item B} (next : Run Item B)
    → EndsWell (falling q) f m fs Holds e → ((now : Now Item) → Sound q now → EndsWell q f m fs Holds (next now)) → EndsWell q f m fs Holds (or_so e next)
or_well next (well_given x now r s) k = well_given x now r (record { state = s.state; names = s.names })
or_well next (well_no now a s) k = k now (record { state = s.state; names = s.names })
or_well next (well_returned v now b s) k = well_returned v now b (record { state = s.state; names = s.names })
or_well next (well_thrown v now b s) k = well_thrown v now b (record { state = s.state; names = s.names })
or_well next (well_stopped cause now) k = well_stopped cause now

-- ---- ticks

tick_well : {q : Scene} {n : ℕ} {f : Point n} {facts : List Fact} (k : ℕ) (now : Now Item) → Stands q.set q.work now.opened f facts → Sound q now
    → EndsWell q f n facts (λ p t. Unit {0}) (tick_at k now)
tick_well zero now stands ok = well_stopped WorkLimit now
tick_well {f} (suc k) now stands ok = well_given tt (record now { ticks = k })
    (record { point = f; later = no_later f; stands = stands; holds = tt }) (record { state = ok.state; names = ok.names })

pub ticks : {q : Scene} {n : ℕ} {f : Point n} {facts : List Fact} → Beside q n f facts no_walk tick (λ m p a t. Unit {0})
unfolding give
ticks = record { run = λ now stands met ok. tick_well now.ticks now stands ok }
