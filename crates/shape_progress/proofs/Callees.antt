-- Callees that take values of these shapes go on, where the table of builtins is met.
use Rattle.std.proofs.Common.{◌≡◌, ℕ, List, [], ◌∷◌, subst, true, false, Option, None}
use Rattle.std.proofs.lemmas.Bool.{and_parts}
use Rattle.sail_base.specs.declared.place.Place.{Place}
use Rattle.sail_types.specs.Shapes.{fits, put}
use Rattle.sail_types.specs.declared.shapes.Shape.{Shape}
use Rattle.sail_types.specs.declared.values.Value.{Value}
use Rattle.sail_types.specs.declared.values.Value.TheVariants as Val
use Rattle.model_state.specs.declared.cause.Cause.TheVariants.{MatchFailure}
use Rattle.sail_core.specs.declared.tree.Callee.{Callee}
use Rattle.sail_core.specs.declared.tree.Callee.TheVariants as C
use Rattle.sail_core.specs.Run.{stops, tick, row_run, ◌then◌, ◌or_else◌}
use Rattle.sail_core.specs.Making.{World, plainly, made}
use Rattle.sail_core.specs.Targets.{called}
use Rattle.sail_core.specs.Values.{payload_of}
use Rattle.shape_joins.proofs.Order.{no}
use Rattle.shape_meanings.specs.Keeping.{Fits, FitAll, Reach}
use Rattle.shape_progress.specs.Conditions.{row_met}
use Rattle.shape_progress.specs.Checks.{Table, call_met}
use Rattle.shape_progress.specs.Going.{GoesOn}
use Rattle.shape_progress.specs.TargetRules.{GivesAs, Takes}
use Rattle.shape_progress.proofs.Calls.{member_goes}
use Rattle.shape_progress.proofs.Parts.{F}
use Rattle.shape_progress.proofs.Runs.{then_goes, or_goes, gives_goes, tick_goes}

converts_goes : (w : World Value) (reach : Reach) (q : Shape) (answer : Option Shape) (place : Place) (k d : ℕ)
    → ((v : Value) → F reach w q v → GoesOn reach w (GivesAs reach answer) (w.enter d v))
    → (vs : List Value) → FitAll reach.types reach.choice (q ∷ []) vs → GoesOn reach w (GivesAs reach answer) (called plainly w place k (C.Converts d) vs)
converts_goes w reach q answer place k d enters [] fit = no fit
converts_goes w reach q answer place k d enters (v ∷ u ∷ us) fit = no (and_parts (fits reach.types v (put reach.choice q)) false fit).1
converts_goes w reach q answer place k d enters (v ∷ []) fit =
    let P : Value → Type 0 = GivesAs reach answer in
    let fits_v = (and_parts (fits reach.types v (put reach.choice q)) true fit).0 in
    then_goes reach w P P (tick then λ x. w.enter d v or_else stops (MatchFailure place)) (λ u. made plainly k (v ∷ []) u)
    (then_goes reach w (λ (x : Unit {0}). Unit {0}) P tick (λ x. w.enter d v or_else stops (MatchFailure place)) (tick_goes reach w)
    (λ x y. or_goes reach w P (w.enter d v) (stops (MatchFailure place)) (enters v fits_v) (λ now ready. tt)))
    (λ u fu. gives_goes reach w P u fu)

pub callee_goes : (t : Table) (w : World Value) (reach : Reach) → t.types ≡ reach.types → (ss : List Shape) (answer : Option Shape) (place : Place) (k : ℕ)
    (callee : Callee) (vs : List Value) → Takes w reach ss answer callee → FitAll reach.types reach.choice ss vs → call_met t callee vs ≡ true
    → GoesOn reach w (GivesAs reach answer) (called plainly w place k callee vs)
callee_goes t w reach same ss answer place k (C.Row row) vs h fit met =
    then_goes reach w (Fits reach.types h.1 h.0.answer) (GivesAs reach answer) (row_run row w.hart vs) (λ v. made plainly k vs v)
    (member_goes reach w t.beyond row h.0 h.1 vs h.2 h.3 (h.4 vs fit) (subst (λ types. row_met types t.beyond row vs ≡ true) same met))
    (λ v fv. gives_goes reach w (GivesAs reach answer) v (h.5 v fv))
callee_goes t w reach same ss answer place k (C.Constructor u n) vs h fit met =
    gives_goes reach w (GivesAs reach answer) (Val.Union u n (payload_of vs)) (h vs fit)
callee_goes t w reach same ss answer place k (C.Function f) vs h fit met =
    then_goes reach w (GivesAs reach answer) (GivesAs reach answer) (w.call place f None vs) (λ v. made plainly k vs v) (h place vs fit)
    (λ v fv. gives_goes reach w (GivesAs reach answer) v fv)
callee_goes t w reach same ss answer place k (C.Converts d) vs h fit met =
    converts_goes w reach h.0 answer place k d h.2 vs (subst (λ qs. FitAll reach.types reach.choice qs vs) h.1 fit)
callee_goes t w reach same ss answer place k callee vs h fit met = absurd h
