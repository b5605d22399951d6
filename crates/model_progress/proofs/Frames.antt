-- Frames of calls: a piece with its arguments alone in scope goes on in the caller's reach as it does in its own.
use Rattle.std.proofs.Common.{List, [], Option, Some, None}
use Rattle.sail_types.specs.declared.shapes.Shape.{Shape}
use Rattle.sail_types.specs.declared.values.Value.{Value}
use Rattle.sail_core.specs.Run as R
use Rattle.sail_core.specs.Run.{Now, Ended, Run, apart, leaving, returned}
use Rattle.sail_core.specs.Making.{World}
use Rattle.sail_core.specs.Program.{framed}
use Rattle.shape_rules.specs.declared.locals.Local.{Local}
use Rattle.shape_meanings.specs.Whole.{Choice}
use Rattle.shape_meanings.specs.Keeping.{Fits, Reach}
use Rattle.shape_progress.specs.Going.{Ready, Goes, GoesOn}
use Rattle.model_progress.specs.Shaped.{Common, reach_in}

-- what a call leaves: the names in scope are those of before
abbrev back : Now Value → Now Value → Now Value
back now after = record after { locals = now.locals; opened = now.opened }

module _ (common : Common) (w : World Value) (answer : Option Shape) (c : Choice) (slots : List Local) where
  -- what is in reach of the caller
  abbrev outer : Reach
  outer = reach_in common answer c slots

  back_ready : (inner : Option Shape) (d : Choice) (now after : Now Value) → Ready outer w.hart now → Ready (reach_in common inner d []) w.hart after
      → Ready outer w.hart (back now after)
  back_ready inner d now after before ready = record {
    good = record { locals = before.good.locals; state = ready.good.state };
    here = ready.here;
    there = ready.there;
  }

  inside_ready : (inner : Option Shape) (d : Choice) (now : Now Value) → Ready outer w.hart now
      → Ready (reach_in common inner d []) w.hart (record now { locals = []; opened = λ i. None })
  inside_ready inner d now ready = record {
    good = record { locals = tt; state = ready.good.state };
    here = ready.here;
    there = ready.there;
  }

  returned_goes : (d : Choice) (s : Shape) (now : Now Value) (e : Ended Value Value) → Ready outer w.hart now
      → Goes (reach_in common (Some s) d []) w (Fits common.types d s) e
      → Goes outer w (Fits common.types d s) (returned (leaving (back now) e))
  returned_goes d s now (R.Gives v after) before h = (h.0, back_ready (Some s) d now after before h.1)
  returned_goes d s now (R.No after) before h = back_ready (Some s) d now after before h
  returned_goes d s now (R.Returns v after) before h = (h.0, back_ready (Some s) d now after before h.1)
  returned_goes d s now (R.Throws v after) before h = (h.0, back_ready (Some s) d now after before h.1)
  returned_goes d s now (R.Stops cause after) before h = tt
  returned_goes d s now R.Stuck before h = absurd h

  -- a function's body, which gives what it returns
  pub framed_goes : (d : Choice) (s : Shape) (body : Run Value Value) → GoesOn (reach_in common (Some s) d []) w (Fits common.types d s) body
      → GoesOn outer w (Fits common.types d s) (framed body)
  framed_goes d s body h now ready =
      returned_goes d s now (body (record now { locals = []; opened = λ i. None })) ready
      (h (record now { locals = []; opened = λ i. None }) (inside_ready (Some s) d now ready))

  leaving_goes : (d : Choice) (P : Value → Type 0) (now : Now Value) (e : Ended Value Value) → Ready outer w.hart now
      → Goes (reach_in common None d []) w P e → Goes outer w P (leaving (back now) e)
  leaving_goes d P now (R.Gives v after) before h = (h.0, back_ready None d now after before h.1)
  leaving_goes d P now (R.No after) before h = back_ready None d now after before h
  leaving_goes d P now (R.Returns v after) before h = absurd h.0
  leaving_goes d P now (R.Throws v after) before h = (h.0, back_ready None d now after before h.1)
  leaving_goes d P now (R.Stops cause after) before h = tt
  leaving_goes d P now R.Stuck before h = absurd h

  -- a direction of a mapping, in which nothing is returned
  pub apart_goes : (d : Choice) (P : Value → Type 0) (body : Run Value Value) → GoesOn (reach_in common None d []) w P body
      → GoesOn outer w P (apart body)
  apart_goes d P body h now ready =
      leaving_goes d P now (body (record now { locals = []; opened = λ i. None })) ready
      (h (record now { locals = []; opened = λ i. None }) (inside_ready None d now ready))

  -- what returns nothing, where something may be returned
  none_ready : (now : Now Value) → Ready outer w.hart now → Ready (reach_in common None c slots) w.hart now
  none_ready now ready = record {
    good = record { locals = ready.good.locals; state = ready.good.state };
    here = ready.here;
    there = ready.there;
  }

  some_ready : (now : Now Value) → Ready (reach_in common None c slots) w.hart now → Ready outer w.hart now
  some_ready now ready = record {
    good = record { locals = ready.good.locals; state = ready.good.state };
    here = ready.here;
    there = ready.there;
  }

  answers_goes : {A : Type 0} (P : A → Type 0) (e : Ended Value A) → Goes (reach_in common None c slots) w P e → Goes outer w P e
  answers_goes P (R.Gives x after) h = (h.0, some_ready after h.1)
  answers_goes P (R.No after) h = some_ready after h
  answers_goes P (R.Returns v after) h = absurd h.0
  answers_goes P (R.Throws v after) h = (h.0, some_ready after h.1)
  answers_goes P (R.Stops cause after) h = tt
  answers_goes P R.Stuck h = absurd h

  pub answer_goes : {A : Type 0} (P : A → Type 0) (piece : Run Value A) → GoesOn (reach_in common None c slots) w P piece → GoesOn outer w P piece
  answer_goes P piece h now ready = answers_goes P (piece now) (h now (none_ready now ready))
