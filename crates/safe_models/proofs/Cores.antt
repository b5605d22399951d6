-- Clauses, directions and values that pass the tests, one by one.
use Rattle.std.proofs.Common.{◌≡◌, Bool, true, false, ◌&&◌, List, [], ◌∷◌, refl}
use Rattle.std.specs.Prelude.{not}
use Rattle.std.proofs.lemmas.Bool.{and_parts}
use Rattle.sail_core.specs.Making.{World}
use Rattle.sail_core.specs.declared.patterns.Arm.{Arm}
use Rattle.sail_core.specs.declared.tree.Core.{Core, out-Core}
use Rattle.sail_core.specs.declared.tree.Kind.{Kind}
use Rattle.sail_core.specs.declared.tree.Kind.TheVariants as K
use Rattle.checked_meaning.specs.Items.{Item}
use Rattle.value_laws.proofs.Basics.{no}
use Rattle.soundness_steps.specs.Works.{Scene}
use Rattle.soundness_forms.specs.Standing.{Standing, is_body, is_bound, standing}
use Rattle.soundness_binding.specs.Patterned.{arms_stand}
use Rattle.sail_soundness.specs.Whole.{core_fits}
use Rattle.sail_soundness.proofs.Fit.{fit}
use Rattle.sail_calls.specs.Bodies.{BodiesStand, Clauses}
use Rattle.safe_models.specs.CoreLaws.{ClausesStand, ValuesStand, WaysStandBoth}
use Rattle.safe_models.specs.CoreTests.{are_clauses, arms_fit, bodies_fit}

is_false : (b : Bool) → not b ≡ true → b ≡ false
is_false false h = refl
is_false true h = no h

bodies : (q : Scene) (w : World Item) (cs : List Core) → bodies_fit q.set.around q.numbers cs ≡ true → BodiesStand q w cs
bodies q w [] h = tt
bodies q w (c ∷ cs) h =
    let s : Standing = standing q.set.around c in
    let k = and_parts (is_body s && core_fits q.set.around.types q.numbers c) (bodies_fit q.set.around q.numbers cs) h in
    let own = and_parts (is_body s) (core_fits q.set.around.types q.numbers c) k.0 in
    let body = and_parts s.right s.cast own.0 in (
      body.1,
      body.0,
      fit q w c own.1,
      bodies q w cs k.1,
    )

-- ---- clauses of a function

of_kind : (q : Scene) (w : World Item) (declared : Bool) (core : Core) → (kind : Kind) → (out-Core core).kind ≡ kind
    → arms_fit q.set.around q.numbers declared kind ≡ true → BodiesStand q w (out-Core core).parts → Clauses q w declared core
of_kind q w declared core (K.Clauses arms) is stand stands = record { arms = arms; kind = is; bodies = stands; patterns = stand }
of_kind q w declared core kind is stand stands = no stand

pub clauses : ClausesStand
clauses q w declared core h =
    let k = and_parts (arms_fit q.set.around q.numbers declared (out-Core core).kind) (bodies_fit q.set.around q.numbers (out-Core core).parts) h in
    of_kind q w declared core (out-Core core).kind refl k.0 (bodies q w (out-Core core).parts k.1)

-- ---- directions of a mapping

arms_of : (q : Scene) (kind : Kind) → are_clauses q.set.around q.numbers kind ≡ true
    → (arms : List Arm) × (kind ≡ K.Clauses arms) × (arms_stand q.set.around.types q.numbers arms ≡ true)
arms_of q (K.Clauses arms) stand = (arms, refl, stand)
arms_of q kind stand = no stand

pub ways : WaysStandBoth
ways q m n h k =
    let ahead = and_parts (are_clauses q.set.around q.numbers (out-Core m.body).kind) (bodies_fit q.set.around q.numbers (out-Core m.body).parts) h in
    let behind = and_parts (are_clauses q.set.around q.numbers (out-Core n.body).kind) (bodies_fit q.set.around q.numbers (out-Core n.body).parts) k in
    let arms = arms_of q (out-Core m.body).kind ahead.0 in
    let backs = arms_of q (out-Core n.body).kind behind.0 in (
      record {
        arms = arms.0;
        backs = backs.0;
        ahead = arms.1;
        back = backs.1;
        ahead_bodies = λ w. bodies q w (out-Core m.body).parts ahead.1;
        back_bodies = λ w. bodies q w (out-Core n.body).parts behind.1;
      },
      arms.2,
      backs.2,
    )

-- ---- values of openings

pub values : ValuesStand
values q w c h model =
    let s : Standing = standing q.set.around c in
    let k = and_parts (is_bound s) (core_fits q.set.around.types q.numbers c) h in
    let bound = and_parts s.right (not s.guard) k.0 in
    record { right = bound.0; no_guard = is_false s.guard bound.1; others = (model, fit q w c k.1) }
