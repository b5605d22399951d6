-- Each clause by itself: its arm, and that its body counts variables on.
use Rattle.std.proofs.Common.{sym, refl, subst, Bool, List, [], ◌∷◌, map}
use Rattle.sail_base.specs.declared.place.Place.{Place}
use Rattle.sail_core.specs.Making.{World}
use Rattle.sail_core.specs.Meaning.{meaning}
use Rattle.sail_core.specs.declared.patterns.Arm.{Arm}
use Rattle.sail_core.specs.declared.tree.Core.{Core, Core-F, out-Core}
use Rattle.function_notes.specs.Functions.{arm_of, body_part}
use Rattle.checked_meaning.specs.Items.{Item}
use Rattle.soundness_steps.specs.Works.{Scene}
use Rattle.soundness_forms.specs.Patterns.{AllMatch}
use Rattle.soundness_binding.proofs.Matched.{all_match}
use Rattle.soundness_calls.specs.Premises.{ArmsAreSound, ClausesHold, read_as}
use Rattle.sail_soundness.specs.Whole.{ModelStands}
use Rattle.sail_calls.specs.Bodies.{BodiesStand, ClausesFollow}
use Rattle.sail_calls.specs.ArmLaws.{EachGrows, clause_scene}
use Rattle.sail_calls.proofs.Arms.{arms_sound}
use Rattle.sail_calls.proofs.Behind.{body_fine}
use Rattle.sail_calls.proofs.Grows.{all_count}

module _ (q : Scene) (w : World Item) (model : ModelStands q.set q.work) (declared : Bool) where
  arms_follow : (place : Place) (arms : List Arm) (cs : List Core) → BodiesStand q w cs
      → AllMatch (clause_scene q w) w (map (arm_of declared) arms) → ArmsAreSound (clause_scene q w) w place declared arms cs
  arms_follow place [] cs h ms = tt
  arms_follow place (arm ∷ arms) [] h ms = tt
  arms_follow place (arm ∷ arms) (c ∷ cs) h ms =
      let fine = body_fine q w declared c h.0 h.1 (model, h.2) in (
        arms_sound q w place (arm_of declared arm) (body_part declared c) (meaning (read_as q) w c) fine.0 ms.0 fine.1,
        arms_follow place arms cs h.3 ms.1,
      )

  pub bodies_grow : (cs : List Core) → BodiesStand q w cs → EachGrows (body_part declared) cs
  bodies_grow [] h = tt
  bodies_grow (c ∷ cs) h = ((body_fine q w declared c h.0 h.1 (model, h.2)).1.grows, bodies_grow cs h.3)

pub clauses_follow : ClausesFollow
clauses_follow q w f r declared core model h =
    let form : Core-F Core = out-Core core in
    subst (λ kind. ClausesHold (clause_scene q w) w f.parameters r declared form kind) (sym h.kind) (
      arms_follow q w model declared form.place h.arms form.parts h.bodies
          (all_match (clause_scene q w) w model.fits refl (map (arm_of declared) h.arms) h.patterns),
      all_count.clauses (clause_scene q w) form.place f.parameters r declared h.arms form.parts (bodies_grow q w model declared form.parts h.bodies),
    )
