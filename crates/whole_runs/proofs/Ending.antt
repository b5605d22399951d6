-- Openings that end from one state end from each other one, with the same values of lets: each is worked out where nothing is.
use Rattle.std.proofs.Common.{◌≡◌, ap, ℕ, suc, List, [], ◌∷◌, ◌++◌}
use Rattle.sail_types.specs.declared.values.Value.{Value}
use Rattle.model_state.specs.RunState.{RunState}
use Rattle.model_state.specs.declared.cause.Cause.{Cause}
use Rattle.sail_core.specs.Run as R
use Rattle.sail_core.specs.Run.{Ended}
use Rattle.sail_core.specs.Program.{Sizing}
use Rattle.sail_core.specs.Start.{Added, Opened, after_opening, begun, blank, lets_in, opened, opened_not, opened_to, opening_run, openings_from, openings_of}
use Rattle.sail_core.specs.declared.model.CoreModel.{CoreModel}
use Rattle.sail_core.specs.declared.model.Opening.{Opening}

module _ {X : Type 0} (sizing : Sizing X) (vs : List Value) where
  abbrev pub Ends : Opened → Type 0
  Ends o = (state : RunState) × (o ≡ opened vs state)

  stopped : {A : Type 0} (cause : Cause) (state : RunState) → Ends (opened_to cause state) → A
  stopped cause state h = let e = h.1 in absurd (cc)

  not_there : {A : Type 0} → Ends opened_not → A
  not_there h = let e = h.1 in absurd (cc)

  after : (e : Ended X Added) (lets : List Value) (state other : RunState) (more : List Value → RunState → Opened)
      → ((us : List Value) (s t : RunState) → Ends (more us s) → Ends (more us t)) → Ends (after_opening e lets state more)
      → Ends (after_opening e lets other more)
  after (R.Gives added now) lets state other more next h = next (lets ++ added.values) (added.change state) (added.change other) h
  after (R.Stops cause now) lets state other more next h = stopped cause state h
  after (R.No now) lets state other more next h = not_there h
  after (R.Returns v now) lets state other more next h = not_there h
  after (R.Throws v now) lets state other more next h = not_there h
  after R.Stuck lets state other more next h = not_there h

  end_from : (i : ℕ) (os : List Opening) (lets : List Value) (state other : RunState) → Ends (openings_from sizing i os lets state)
      → Ends (openings_from sizing i os lets other)
  end_from i [] lets state other h = (other, ap (λ o. opened (lets_in o) other) h.1)
  end_from i (o ∷ os) lets state other h =
      after (opening_run (sizing.opening i) lets o (begun 0 blank)) lets state other (openings_from sizing (suc i) os)
      (λ us s t k. end_from (suc i) os us s t k) h

  pub end_anywhere : (m : CoreModel) (state other : RunState) → Ends (openings_of sizing m state) → Ends (openings_of sizing m other)
  end_anywhere m state other h = end_from 0 m.openings [] state other h
