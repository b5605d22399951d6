-- Openings go on, one after the other, over values of the shapes of the lets before; and in the checked reading they are as they are meant.
use Rattle.std.proofs.Common.{◌≡◌, ◌⊎◌, inl, inr, ℕ, suc, List, [], ◌∷◌, ◌++◌, sym, refl, subst}
use Rattle.sail_types.specs.declared.values.Value.{Value}
use Rattle.model_state.specs.RunState.{RunState}
use Rattle.model_state.specs.declared.cause.Cause.TheVariants.{MatchFailure, StepsDone}
use Rattle.sail_core.specs.declared.model.Opening.{Opening}
use Rattle.sail_core.specs.declared.model.OpeningKind.{OpeningKind}
use Rattle.sail_core.specs.declared.model.OpeningKind.TheVariants as O
use Rattle.sail_core.specs.Run as R
use Rattle.sail_core.specs.Run.{Ended, gives, stops, ◌or_else◌}
use Rattle.sail_core.specs.Making.{World, plainly}
use Rattle.sail_core.specs.Meaning.{core_meaning}
use Rattle.sail_core.specs.Patterns.{arm_meaning}
use Rattle.sail_core.specs.Program.{plain}
use Rattle.sail_core.specs.Start.{Added, Opened, after_opening, begun, blank, opening_kind, opening_run, opening_world, openings_from, set_all, values_of}
use Rattle.shape_progress.specs.Checks.{Table, checked, checked_arm}
use Rattle.shape_progress.specs.Meant.{AsMeant, IsUnmet}
use Rattle.shape_progress.proofs.Meant.{itself, or_as, then_as}
use Rattle.shape_progress.proofs.MeantNodes.{checked_is_meant}
use Rattle.shape_progress.proofs.MeantPatterns.{arm_as}
use Rattle.model_progress.specs.Checked.{checked_opening, checked_opening_kind, checked_openings}
use Rattle.model_progress.specs.Progress.{AreUnmet, OpeningsAreMeant}

-- ---- as they are meant

opening_as : (t : Table) (lets : List Value) (o : Opening) → AsMeant (opening_run plainly lets o) (checked_opening t lets o)
opening_as t lets o =
    let w : World Value = opening_world lets in
    then_as (core_meaning w o.value) (checked t w o.value) (opening_kind plainly w o.place o.kind) (checked_opening_kind w o.place o.kind)
    (checked_is_meant t w (record { call = w.call; enter = w.enter; way = w.way }) (record {
      call = λ place i awaited vs. itself (w.call place i awaited vs);
      enter = λ d v. itself (w.enter d v);
      way = λ d v. itself (w.way d v);
    }) o.value)
    (kind_as o.kind)
  where
    kind_as : (kind : OpeningKind) (v : Value)
        → AsMeant (opening_kind plainly (opening_world lets) o.place kind v) (checked_opening_kind (opening_world lets) o.place kind v)
    kind_as (O.Let arm) v =
        let w : World Value = opening_world lets in
        then_as (arm_meaning plainly w arm (v ∷ []) or_else stops (MatchFailure o.place)) (checked_arm w arm (v ∷ []) or_else stops (MatchFailure o.place))
        (λ found. gives (record { values = values_of plainly found; change = λ state. state }))
        (λ found. gives (record { values = values_of plainly found; change = λ state. state }))
        (or_as (arm_meaning plainly w arm (v ∷ [])) (checked_arm w arm (v ∷ [])) (stops (MatchFailure o.place)) (stops (MatchFailure o.place))
        (arm_as w (record { call = w.call; enter = w.enter; way = w.way }) (record {
          call = λ place i awaited vs. itself (w.call place i awaited vs);
          enter = λ d u. itself (w.enter d u);
          way = λ d u. itself (w.way d u);
        }) arm (v ∷ [])) (itself (stops (MatchFailure o.place))))
        (λ found. itself (gives (record { values = values_of plainly found; change = λ state. state })))
    kind_as (O.Register r) v = itself (gives (record { values = []; change = set_all r v }))

unmet_after : (e : Ended Value Added) (lets : List Value) (state : RunState) (more : List Value → RunState → Opened) → IsUnmet e
    → AreUnmet (after_opening e lets state more)
unmet_after (R.Stops StepsDone now) lets state more h = tt
unmet_after e lets state more h = absurd h

-- the openings behind one in both readings
abbrev OpenAs : Opened → Opened → Type 0
OpenAs plain piece = (piece ≡ plain) ⊎ AreUnmet piece

same_after : (e : Ended Value Added) (lets : List Value) (state : RunState) (f g : List Value → RunState → Opened)
    → ((ls : List Value) (st : RunState) → OpenAs (f ls st) (g ls st)) → OpenAs (after_opening e lets state f) (after_opening e lets state g)
same_after (R.Gives added now) lets state f g h = h (lets ++ added.values) (added.change state)
same_after (R.No now) lets state f g h = inl refl
same_after (R.Returns v now) lets state f g h = inl refl
same_after (R.Throws v now) lets state f g h = inl refl
same_after (R.Stops cause now) lets state f g h = inl refl
same_after R.Stuck lets state f g h = inl refl

after_as : (e d : Ended Value Added) (lets : List Value) (state : RunState) (f g : List Value → RunState → Opened) → (d ≡ e) ⊎ IsUnmet d
    → ((ls : List Value) (st : RunState) → OpenAs (f ls st) (g ls st)) → OpenAs (after_opening e lets state f) (after_opening d lets state g)
after_as e d lets state f g (inl is) h =
    subst (λ x. OpenAs (after_opening e lets state f) (after_opening x lets state g)) (sym is) (same_after e lets state f g h)
after_as e d lets state f g (inr u) h = inr (unmet_after d lets state g u)

openings_as : (t : Table) (n : ℕ) (os : List Opening) (lets : List Value) (state : RunState)
    → OpenAs (openings_from plain n os lets state) (checked_openings t os lets state)
openings_as t n [] lets state = inl refl
openings_as t n (o ∷ os) lets state =
    after_as (opening_run plainly lets o (begun 0 blank)) (checked_opening t lets o (begun 0 blank)) lets state (openings_from plain (suc n) os)
    (checked_openings t os) (opening_as t lets o (begun 0 blank)) (openings_as t (suc n) os)

pub openings_are_meant : OpeningsAreMeant
openings_are_meant t m state = openings_as t 0 m.openings [] state
