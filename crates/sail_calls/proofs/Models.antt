-- Clause by clause, function by function and direction by direction.
use Rattle.std.proofs.Common.{ℕ, refl, true, List, [], ◌∷◌}
use Rattle.sail_base.specs.declared.place.Place.{Place}
use Rattle.sail_core.specs.Making.{World}
use Rattle.sail_core.specs.Meaning.{meaning}
use Rattle.sail_core.specs.Run.{stuck}
use Rattle.sail_core.specs.declared.model.Direction.{Direction}
use Rattle.sail_core.specs.declared.model.Function.{Function}
use Rattle.sail_core.specs.declared.patterns.Arm.{Arm}
use Rattle.sail_core.specs.declared.tree.Core.{Core}
use Rattle.expression_steps.specs.Expressions.{part}
use Rattle.expression_steps.specs.Statements.{natural_type}
use Rattle.checked_meaning.specs.Checked.{Checks}
use Rattle.checked_meaning.specs.Items.{Item}
use Rattle.soundness_steps.specs.Works.{Scene, Setting, Work, nobody}
use Rattle.soundness_forms.specs.Patterns.{AllMatch}
use Rattle.soundness_binding.proofs.Matched.{all_match}
use Rattle.soundness_calls.specs.Premises.{own_type, read_as}
use Rattle.soundness_calls.specs.Laws.{PartsHold, scene_of}
use Rattle.soundness_calls.specs.Directions.{ArmsOf, BothHold, ClausesOf, CoveredDirection, Side, WaysAreSound, bodies_of, is_ahead, is_back, scene_across}
use Rattle.sail_soundness.specs.Whole.{ModelStands}
use Rattle.sail_calls.specs.Bodies.{BodiesStand}
use Rattle.sail_calls.specs.ArmLaws.{clause_scene}
use Rattle.sail_calls.proofs.Arms.{arms_sound}
use Rattle.sail_calls.proofs.Behind.{body_fine}
use Rattle.sail_calls.proofs.Bodies.{bodies_grow, clauses_follow}
use Rattle.sail_calls.proofs.Grows.{all_count}
use Rattle.sail_calls.specs.Models.{CallsFollow, DirectionStands, FunctionStands, Ways, WaysOf, own_arms}

-- ---- functions

function_holds : (set : Setting) (k : Checks) (x : Work) (f : Function) → FunctionStands set k x f → PartsHold set k x f
function_holds set k x f s = record {
  body = λ h nu w.
      let q : Scene = scene_of set x f h (k.function x.function x.instance.place nu) in
      clauses_follow q w f (own_type f f.result) f.is_declared f.body s.model (s.body h nu w);
  measure = λ h nu w core is.
      let q : Scene = scene_of set x f h (k.function x.function x.instance.place nu) in
      clauses_follow q w f natural_type true core s.model (s.measure h nu w core is);
}

-- ---- directions

-- a world, of which nothing is asked where walks count variables on
abbrev any_world : World Item
any_world = record {
  hart = 0;
  numbers = [];
  arguments = [];
  lets = [];
  call = λ place f awaited vs. stuck;
  enter = λ d v. stuck;
  way = λ d x. stuck;
}

ways_sound : (q : Scene) (w : World Item) → ModelStands q.set q.work → (place : Place) (arms : List Arm) (cs : List Core) → BodiesStand q w cs
    → AllMatch (clause_scene q w) w arms → WaysAreSound (clause_scene q w) w place arms cs
ways_sound q w model place [] cs h ms = tt
ways_sound q w model place (arm ∷ arms) [] h ms = tt
ways_sound q w model place (arm ∷ arms) (c ∷ cs) h ms =
    let fine = body_fine q w true c h.0 h.1 (model, h.2) in (
      arms_sound q w place arm (part c) (meaning (read_as q) w c) fine.0 ms.0 fine.1,
      ways_sound q w model place arms cs h.3 ms.1,
    )

both_hold : (q : Scene) → ModelStands q.set q.work → (place : Place) (m n : Direction) → Ways q m n → BothHold q place m n
both_hold q model place m n s = record {
  arms = s.arms;
  backs = s.backs;
  ahead = s.ahead;
  back = s.back;
  ahead_grows =
      all_count.ways q place m s.arms (bodies_of m) (bodies_grow q any_world model true (bodies_of m) (s.ahead_bodies any_world));
  back_grows = all_count.ways q place n s.backs (bodies_of n) (bodies_grow q any_world model true (bodies_of n) (s.back_bodies any_world));
}

clauses_of : (q : Scene) → ModelStands q.set q.work → (side : Side) (m : Direction) → WaysOf q side m → ClausesOf q side m
clauses_of q model (is_ahead n) m s = both_hold q model m.place m n s
clauses_of q model (is_back n) m s = both_hold q model n.place n m s

arms_of : (set : Setting) (rank : ℕ → ℕ) (k : Checks) (d : ℕ) (w : World Item) (model : ModelStands set nobody) (side : Side) (m : Direction)
    (s : WaysOf (scene_across set k rank d) side m) → AllMatch (clause_scene (scene_across set k rank d) w) w (own_arms (scene_across set k rank d) side m s)
    → ArmsOf (scene_across set k rank d) w side m (clauses_of (scene_across set k rank d) model side m s)
unfolding clauses_of both_hold
arms_of set rank k d w model (is_ahead n) m s ms = ways_sound (scene_across set k rank d) w model m.place s.arms (bodies_of m) (s.ahead_bodies w) ms
arms_of set rank k d w model (is_back n) m s ms = ways_sound (scene_across set k rank d) w model n.place s.backs (bodies_of m) (s.back_bodies w) ms

direction_holds : (set : Setting) (rank : ℕ → ℕ) (k : Checks) (d : ℕ) (m : Direction) → DirectionStands set rank k d m
    → CoveredDirection set rank k d m
direction_holds set rank k d m s =
    let q : Scene = scene_across set k rank d in
    record {
      side = s.side;
      met = s.met;
      takes = s.takes;
      clauses = clauses_of q s.model s.side m s.ways;
      arms = λ w. arms_of set rank k d w s.model s.side m s.ways
          (all_match (clause_scene q w) w s.model.fits refl (own_arms q s.side m s.ways) s.patterns);
    }

pub calls_from : CallsFollow
calls_from set k rank lets s = record {
  lets_are = s.lets_are;
  functions = λ x f covered own at. let h = s.functions x f covered own at in (h.covered, function_holds set k x f h);
  directions = λ d m covered at. direction_holds set rank k d m (s.directions d m covered at);
}
