-- What an arm has in hand, under any numbering; and arms as the code has them.
use Rattle.std.proofs.Common.{◌≡◌, ◌∙◌, ℕ, ◌+◌, List, [], ◌∷◌, refl, ap, subst}
use Rattle.std.specs.Prelude.{OnOk, Result}
use Rattle.sail_core.specs.declared.patterns.Arm.{Arm}
use Rattle.sail_core.specs.declared.patterns.Step.{Step}
use Rattle.value_indices.specs.declared.indices.Indices.{Indices}
use Rattle.lowered_pieces.specs.declared.coding.Coding.{Coding}
use Rattle.lowered_pieces.specs.Arms.{Choice, Hand, Matched, arm_stand, choice_labels, choices, first_hand, hand_of, looks_code, moved, places_of, steps_in}
use Rattle.lowered_pieces.specs.Emitted.{Emits}
use Rattle.lowered_pieces.specs.Forms.{Piece, Stand, Tail}
use Rattle.lowered_pieces.specs.Places.{Naming}
use Rattle.lowered_steps.specs.declared.setting.Setting.{Setting}
use Rattle.lowered_steps.specs.Setting.{kit_for}
use Rattle.lowered_steps.proofs.Framed.{arm_same}
use Rattle.lowered_nodes.proofs.Armed.{Armed, arm_put}

module _ (setting : Setting) where
  first_same : (steps : List Step) (q fail : ℕ) (cs : List Choice) (name : Naming)
      → first_hand setting.types.now (kit_for setting (λ place typ. 0)) steps q fail cs ≡ first_hand setting.types.now (kit_for setting name) steps q fail cs
  first_same steps q fail [] name = refl
  first_same steps q fail (c ∷ cs) name = arm_same setting.types.now setting (λ place typ. 0) name steps q fail c.values

  pub hand_same : (m : Matched) (steps : List Step) (s : Stand) (name : Naming)
      → hand_of setting.types.now (kit_for setting (λ place typ. 0)) m steps s ≡ hand_of setting.types.now (kit_for setting name) m steps s
  hand_same m steps s name = first_same steps (s.temp + places_of m) s.on_no (choices m s.temp) name

  -- an arm, whose body is put with what is in hand
  pub armed_put : {T E : Type 0} (r : Result T E) (t : Naming → Tail) (s : Stand) (gives : List Indices) (m : Matched) (arm : Arm) (p : Naming
      → Piece) (h : Hand)
      (steps : List Step) → steps ≡ steps_in arm → h ≡ hand_of setting.types.now (kit_for setting (λ place typ. 0)) m steps s → (a b c : Coding)
      → Emits a b (λ name x. looks_code setting.types.now (kit_for setting name) gives m steps s x) (λ name. choice_labels m)
      → OnOk r (Emits b c (λ name x. (p name).ended (moved setting.types.now (kit_for setting name) h.free s (t name))
      (arm_stand setting.types.now (kit_for setting name) h s) x) (λ name. (p name).labels (t name).labels))
      → OnOk r (Armed setting.types.now (λ name. kit_for setting name) t a c s gives m arm p)
  armed_put r t s gives m arm p h steps is has a b c x o =
      arm_put setting.types.now (λ name. kit_for setting name) t r s gives m arm p h
      (λ name. has ∙ hand_same m steps s name ∙ ap (λ ss. hand_of setting.types.now (kit_for setting name) m ss s) is) a b c
      (subst (λ ss. Emits a b (λ name l. looks_code setting.types.now (kit_for setting name) gives m ss s l) (λ name. choice_labels m)) is x) o
