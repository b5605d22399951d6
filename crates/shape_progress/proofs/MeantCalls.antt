-- Callees are called as it is meant, over callees that are; and pieces that find something else in the checked reading, which is alike.
use Rattle.std.proofs.Common.{◌≡◌, ◌⊎◌, inl, inr, ℕ, List, [], ◌∷◌, ap, sym, ◌∙◌, refl, subst, None}
use Rattle.sail_base.specs.declared.place.Place.{Place}
use Rattle.sail_types.specs.declared.values.Value.{Value, out-Value}
use Rattle.model_state.specs.declared.cause.Cause.TheVariants.{MatchFailure}
use Rattle.sail_core.specs.declared.tree.Callee.{Callee}
use Rattle.sail_core.specs.declared.tree.Callee.TheVariants as C
use Rattle.sail_core.specs.Run as R
use Rattle.sail_core.specs.Run.{Now, Ended, Run, goes_on, stops, tick, ◌then◌, ◌or_else◌}
use Rattle.sail_core.specs.Making.{World, plainly, made}
use Rattle.sail_core.specs.Targets.{called, payload_in}
use Rattle.shape_progress.specs.Meant.{IsUnmet, AsMeant, Callees, calling, CalledAsMeant}
use Rattle.shape_progress.proofs.Meant.{itself, then_as, or_as, unmet_on}

-- ---- calls

module _ (w : World Value) (callees : Callees) (fine : CalledAsMeant w callees) where
  converts_as : (place : Place) (k d : ℕ) (v : Value)
      → AsMeant (called plainly w place k (C.Converts d) (v ∷ [])) (called plainly (calling w callees) place k (C.Converts d) (v ∷ []))
  converts_as place k d v =
      then_as (tick then λ x. w.enter d v or_else stops (MatchFailure place)) (tick then λ x. callees.enter d v or_else stops (MatchFailure place))
      (made plainly k (v ∷ [])) (made plainly k (v ∷ []))
      (then_as tick tick (λ x. w.enter d v or_else stops (MatchFailure place)) (λ x. callees.enter d v or_else stops (MatchFailure place)) (itself tick)
      (λ x. or_as (w.enter d v) (callees.enter d v) (stops (MatchFailure place)) (stops (MatchFailure place)) (fine.enter d v)
      (itself (stops (MatchFailure place)))))
      (λ u. itself (made plainly k (v ∷ []) u))

  applies_as : (place : Place) (k d : ℕ) (v : Value)
      → AsMeant (called plainly w place k (C.Applies d) (v ∷ [])) (called plainly (calling w callees) place k (C.Applies d) (v ∷ []))
  applies_as place k d v =
      then_as (tick then λ x. w.enter d v then λ o. payload_in place (out-Value o)) (tick then λ x. callees.enter d v then λ o. payload_in place (out-Value o))
      (made plainly k (v ∷ [])) (made plainly k (v ∷ []))
      (then_as tick tick (λ x. w.enter d v then λ o. payload_in place (out-Value o)) (λ x. callees.enter d v then λ o. payload_in place (out-Value o))
      (itself tick)
      (λ x. then_as (w.enter d v) (callees.enter d v) (λ o. payload_in place (out-Value o)) (λ o. payload_in place (out-Value o)) (fine.enter d v)
      (λ o. itself (payload_in place (out-Value o)))))
      (λ u. itself (made plainly k (v ∷ []) u))

  pub called_as : (place : Place) (k : ℕ) (callee : Callee) (vs : List Value)
      → AsMeant (called plainly w place k callee vs) (called plainly (calling w callees) place k callee vs)
  called_as place k (C.Function f) vs =
      then_as (w.call place f None vs) (callees.call place f None vs) (made plainly k vs) (made plainly k vs) (fine.call place f None vs)
      (λ u. itself (made plainly k vs u))
  called_as place k (C.Row row) vs = λ now. inl refl
  called_as place k (C.Constructor u c) vs = λ now. inl refl
  called_as place k (C.Converts d) [] = λ now. inl refl
  called_as place k (C.Converts d) (v ∷ []) = converts_as place k d v
  called_as place k (C.Converts d) (v ∷ u ∷ vs) = λ now. inl refl
  called_as place k (C.Applies d) [] = λ now. inl refl
  called_as place k (C.Applies d) (v ∷ []) = applies_as place k d v
  called_as place k (C.Applies d) (v ∷ u ∷ vs) = λ now. inl refl

-- ---- pieces that find what is alike

-- both end so at the same moment, and what they give is alike
abbrev pub Same : {A B : Type 0} → (A → B → Type 0) → Ended Value A → Ended Value B → Type 0
Same Like (R.Gives x now) (R.Gives y later) = Like x y × (now ≡ later)
Same Like (R.No now) (R.No later) = now ≡ later
Same Like (R.Returns v now) (R.Returns u later) = (v ≡ u) × (now ≡ later)
Same Like (R.Throws v now) (R.Throws u later) = (v ≡ u) × (now ≡ later)
Same Like (R.Stops c now) (R.Stops e later) = (c ≡ e) × (now ≡ later)
Same Like R.Stuck R.Stuck = Unit {0}
Same Like e d = ⊥

abbrev pub EndsAs : {A B : Type 0} → (A → B → Type 0) → Ended Value A → Ended Value B → Type 0
EndsAs Like e d = Same Like e d ⊎ IsUnmet d

abbrev pub RunsAs : {A B : Type 0} → (A → B → Type 0) → Run Value A → Run Value B → Type 0
RunsAs Like a b = (now : Now Value) → EndsAs Like (a now) (b now)

same_self : {A : Type 0} (e : Ended Value A) → Same (λ (x y : A). x ≡ y) e e
same_self (R.Gives x now) = (refl, refl)
same_self (R.No now) = refl
same_self (R.Returns v now) = (refl, refl)
same_self (R.Throws v now) = (refl, refl)
same_self (R.Stops c now) = (refl, refl)
same_self R.Stuck = tt

-- a piece that is as it is meant
pub meant_runs : {A : Type 0} (a b : Run Value A) → AsMeant a b → RunsAs (λ (x y : A). x ≡ y) a b
meant_runs {A} a b h now = by_end (a now) (b now) (h now)
  where
    by_end : (e d : Ended Value A) → (d ≡ e) ⊎ IsUnmet d → EndsAs (λ (x y : A). x ≡ y) e d
    by_end e d (inl is) = inl (subst (λ x. Same (λ (x y : A). x ≡ y) e x) (sym is) (same_self e))
    by_end e d (inr u) = inr u

same_meant : {A : Type 0} (e d : Ended Value A) → Same (λ (x y : A). x ≡ y) e d → d ≡ e
same_meant (R.Gives x now) (R.Gives y later) h = ap (λ z. R.Gives z later) (sym h.0) ∙ ap (λ n. R.Gives x n) (sym h.1)
same_meant (R.No now) (R.No later) h = ap (λ n. R.No n) (sym h)
same_meant (R.Returns v now) (R.Returns u later) h = ap (λ z. R.Returns z later) (sym h.0) ∙ ap (λ n. R.Returns v n) (sym h.1)
same_meant (R.Throws v now) (R.Throws u later) h = ap (λ z. R.Throws z later) (sym h.0) ∙ ap (λ n. R.Throws v n) (sym h.1)
same_meant (R.Stops c now) (R.Stops e later) h = ap (λ z. R.Stops z later) (sym h.0) ∙ ap (λ n. R.Stops c n) (sym h.1)
same_meant R.Stuck R.Stuck h = refl
same_meant e d h = absurd h

pub runs_meant : {A : Type 0} (a b : Run Value A) → RunsAs (λ (x y : A). x ≡ y) a b → AsMeant a b
runs_meant {A} a b h now = by_end (a now) (b now) (h now)
  where
    by_end : (e d : Ended Value A) → EndsAs (λ (x y : A). x ≡ y) e d → (d ≡ e) ⊎ IsUnmet d
    by_end e d (inl is) = inl (same_meant e d is)
    by_end e d (inr u) = inr u

same_on : {A B X Y : Type 0} (Like : A → B → Type 0) (More : X → Y → Type 0) (e : Ended Value A) (d : Ended Value B) (f : A → Run Value X)
    (g : B → Run Value Y) → Same Like e d → ((x : A) (y : B) → Like x y → RunsAs More (f x) (g y)) → EndsAs More (goes_on e f) (goes_on d g)
same_on Like More (R.Gives x now) (R.Gives y later) f g h k = subst (λ n. EndsAs More (f x now) (g y n)) h.1 (k x y h.0 now)
same_on Like More (R.No now) (R.No later) f g h k = inl h
same_on Like More (R.Returns v now) (R.Returns u later) f g h k = inl h
same_on Like More (R.Throws v now) (R.Throws u later) f g h k = inl h
same_on Like More (R.Stops c now) (R.Stops e later) f g h k = inl h
same_on Like More R.Stuck R.Stuck f g h k = inl tt
same_on Like More e d f g h k = absurd h

-- one piece, and then the next
pub then_runs : {A B X Y : Type 0} (Like : A → B → Type 0) (More : X → Y → Type 0) (a : Run Value A) (b : Run Value B) (f : A → Run Value X)
    (g : B → Run Value Y) → RunsAs Like a b → ((x : A) (y : B) → Like x y → RunsAs More (f x) (g y)) → RunsAs More (a then f) (b then g)
then_runs {A} {B} {X} {Y} Like More a b f g h k now = by_end (a now) (b now) (h now)
  where
    by_end : (e : Ended Value A) (d : Ended Value B) → EndsAs Like e d → EndsAs More (goes_on e f) (goes_on d g)
    by_end e d (inl is) = same_on Like More e d f g is k
    by_end e d (inr u) = inr (unmet_on d g u)
