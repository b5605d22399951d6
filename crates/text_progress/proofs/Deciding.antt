-- Openings of plain expressions end neither with No nor by throwing.
use Rattle.std.proofs.Common.{◌≡◌, ℕ, List, [], ◌∷◌, ap, ◌∙◌, refl, true, None}
use Rattle.sail_base.specs.declared.place.Place.{Place}
use Rattle.sail_syntax.specs.declared.expressions.Exp.{Exp}
use Rattle.sail_syntax.specs.declared.patterns.Pat.{Pat}
use Rattle.sail_types.specs.declared.shapes.Shape.{Shape}
use Rattle.sail_types.specs.declared.values.Value.{Value}
use Rattle.model_state.specs.declared.cause.Cause.TheVariants.{MatchFailure}
use Rattle.sail_core.specs.declared.model.Opening.{Opening}
use Rattle.sail_core.specs.declared.model.OpeningKind.{OpeningKind}
use Rattle.sail_core.specs.declared.model.OpeningKind.TheVariants as O
use Rattle.sail_core.specs.declared.tree.Core.{Core, fold-roll-Core}
use Rattle.sail_core.specs.declared.tree.Kind.TheVariants as K
use Rattle.sail_core.specs.Run as R
use Rattle.sail_core.specs.Run.{Ended, stops, ◌or_else◌}
use Rattle.sail_core.specs.Start.{opening_world}
use Rattle.shape_joins.proofs.Order.{two}
use Rattle.shape_rules.specs.Expressions.{elaborate, part}
use Rattle.shape_rules.specs.Findings.{cast}
use Rattle.shape_rules.specs.Patterns.{wanted_by}
use Rattle.shape_rules.specs.Scopes.{Setting, plainly}
use Rattle.shapes.specs.Failures.{initial_found, let_bound}
use Rattle.shapes.specs.Resolved.{binding_opening, opening}
use Rattle.shape_progress.specs.Checks.{checked, checked_arm}
use Rattle.plain_cores.specs.Ending as Ending
use Rattle.plain_cores.specs.Ending.{Inside, IsAtRest}
use Rattle.plain_cores.specs.Ends.{Ends, decides, ends_kind}
use Rattle.plain_cores.proofs.Decided.{core_inside}
use Rattle.plain_cores.proofs.Numbered.{decides_numbered}
use Rattle.plain_cores.proofs.Pieces.{bound_d, then_d}
use Rattle.plain_cores.proofs.Plain.{plain_cores_decide}
use Rattle.model_progress.specs.Checked.{checked_opening, checked_opening_kind}
use Rattle.model_progress.specs.Shaped.{Decides, IsInside}
use Rattle.text_progress.specs.Openings.{IsPlain}

inside_too : {A : Type 0} (e : Ended Value A) → Ending.IsInside e → IsInside e
inside_too (R.Gives x now) h = tt
inside_too (R.No now) h = h
inside_too (R.Returns v now) h = tt
inside_too (R.Throws v now) h = h
inside_too (R.Stops cause now) h = tt
inside_too R.Stuck h = tt

-- an opening calls nothing of the model
at_rest : (lets : List Value) → IsAtRest (opening_world lets)
at_rest lets = record { call = λ place i vs now. tt; enter = λ d v now. tt; way = λ d v now. tt }

kind_ends : (place : Place) (kind : OpeningKind) (lets : List Value) (v : Value) → Inside (checked_opening_kind (opening_world lets) place kind v)
kind_ends place (O.Let arm) lets v =
    then_d (checked_arm (opening_world lets) arm (v ∷ []) or_else stops (MatchFailure place)) _ (bound_d (opening_world lets) (at_rest lets) place arm v)
    (λ found now. tt)
kind_ends place (O.Register r) lets v = λ now. tt

opening_decides : (o : Opening) → decides o.value ≡ true → Decides o
opening_decides o h t lets now =
    inside_too (checked_opening t lets o now)
    (then_d (checked t (opening_world lets) o.value) (checked_opening_kind (opening_world lets) o.place o.kind)
    (core_inside t (opening_world lets) (at_rest lets) o.value h) (kind_ends o.place o.kind lets) now)

numbered_decides : (place : Place) (kind : OpeningKind) (c : Core) → decides c ≡ true → Decides (opening place kind c)
numbered_decides place kind c h = opening_decides (opening place kind c) (decides_numbered c 0 ∙ h)

cast_decides : (c : Core) (place : Place) → decides c ≡ true → decides (cast c place) ≡ true
cast_decides c place h =
    ap (λ (e : Ends). e.alone)
    (fold-roll-Core Ends (λ x. ends_kind x.kind x.parts) (record { place = place; number = 0; kind = K.Cast None; parts = c ∷ [] }))
    ∙ two (decides c) true h refl

pub let_decides : (setting : Setting) (place : Place) (p : Pat) (e : Exp) → IsPlain e → Decides (binding_opening place (let_bound setting place p e))
let_decides setting place p e plain =
    let want : Shape = wanted_by (plainly setting) p in
    numbered_decides place (O.Let (let_bound setting place p e).arm) (let_bound setting place p e).part
    (cast_decides ((elaborate e) (plainly setting) [] want).core (part e).place (plain_cores_decide e plain.0 (plainly setting) [] want))

pub initial_decides : (setting : Setting) (place : Place) (r : ℕ) (s : Shape) (e : Exp) → IsPlain e
    → Decides (opening place (O.Register r) (initial_found setting s e).core)
initial_decides setting place r s e plain =
    numbered_decides place (O.Register r) (initial_found setting s e).core (plain_cores_decide e plain.0 (plainly setting) [] s)
