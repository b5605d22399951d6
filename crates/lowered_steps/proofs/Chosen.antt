-- What an arm looks at where values are matched, as it is put.
use Rattle.std.proofs.Common.{◌≡◌, ◌∙◌, ℕ, List, [], ◌++◌, map, refl, ap}
use Rattle.sail_core.specs.declared.patterns.Step.{Step}
use Rattle.sail_types.specs.declared.table.Types.{Types}
use Rattle.value_indices.specs.declared.indices.Indices.{Indices}
use Rattle.lowered_pieces.specs.declared.coding.Coding.{Coding}
use Rattle.lowered_pieces.specs.Arms.{Hand, Held, arm_hand, arm_noted, choice_code, steps_code, steps_hand}
use Rattle.lowered_pieces.specs.Emitted.{Emits, no_labels}
use Rattle.lowered_pieces.specs.Forms.{kit_at}
use Rattle.lowered_pieces.specs.Places.{Kit, Naming}
use Rattle.lowered_pieces.proofs.Emitting.{emits_as, emits_next}
use Rattle.lowered_steps.specs.declared.hands.Hand.{Hand as HandSoFar}
use Rattle.lowered_steps.specs.declared.hands.Held.{Held as HeldValue}
use Rattle.lowered_steps.specs.declared.setting.Setting.{Setting}
use Rattle.lowered_steps.specs.declared.stands.Stand.{Stand as Standing}
use Rattle.lowered_steps.specs.Hands.{begun_with, choice_of, hand_of, held_of}
use Rattle.lowered_steps.specs.Setting.{kit_for}
use Rattle.lowered_steps.specs.Stands.{depths_of, stand_of}
use Rattle.lowered_steps.proofs.Framed.{arm_same}

module _ (setting : Setting) (s : Standing) (steps : List Step) (q : ℕ) (values copies : List HeldValue) (begun done : HandSoFar)
    (begins : hand_of begun ≡ begun_with (map held_of copies) q) (copied : map held_of copies ≡ map held_of values)
    (steps_done : hand_of done ≡ steps_hand setting.types.now (kit_for setting (λ p t. 0)) steps (hand_of begun) s.on_no) where
  abbrev types : Types
  types = setting.types.now

  abbrev kit : Naming → Kit
  kit name = kit_for setting name

  abbrev held : List Held
  held = map held_of values

  begins_so : hand_of begun ≡ begun_with held q
  begins_so = begins ∙ ap (λ (hs : List Held). begun_with hs q) copied

  pub chosen_hand : hand_of done ≡ arm_hand types (kit_for setting (λ p t. 0)) steps q s.on_no held
  chosen_hand = steps_done ∙ ap (λ (h : Hand). steps_hand types (kit_for setting (λ p t. 0)) steps h s.on_no) begins_so

  pub chosen_code : (gives : List Indices) (old mid new : Coding) (noted : List HeldValue) → map held_of noted ≡ held ++ map held_of done.named
      → Emits old mid (λ name l. steps_code types (kit name) steps (hand_of begun) s.on_throw s.on_no) no_labels
      → Emits mid new (λ name l. arm_noted (kit_at (kit name) (depths_of s.levels.now)) gives (map held_of noted) done.free) no_labels
      → Emits old new (λ name. choice_code types (kit name) gives steps q (stand_of s) (choice_of [] held)) no_labels
  chosen_code gives old mid new noted all x y =
      emits_as old new
      (λ name l. steps_code types (kit name) steps (hand_of begun) s.on_throw s.on_no
      ++ arm_noted (kit_at (kit name) (depths_of s.levels.now)) gives (map held_of noted) done.free)
      (λ name. choice_code types (kit name) gives steps q (stand_of s) (choice_of [] held)) no_labels no_labels
      (λ name.
      ap (λ (h : Hand). steps_code types (kit name) steps h s.on_throw s.on_no
      ++ arm_noted (kit_at (kit name) (depths_of s.levels.now)) gives (map held_of noted) done.free) begins_so
      ∙ ap (λ (hs : List Held). steps_code types (kit name) steps (begun_with held q) s.on_throw s.on_no
      ++ arm_noted (kit_at (kit name) (depths_of s.levels.now)) gives hs done.free) all
      ∙ ap (λ (h : Hand). steps_code types (kit name) steps (begun_with held q) s.on_throw s.on_no
      ++ arm_noted (kit_at (kit name) (depths_of s.levels.now)) gives (held ++ h.named) h.free)
      (chosen_hand ∙ arm_same types setting (λ p t. 0) name steps q s.on_no held)) (λ name. refl)
      (emits_next old mid new (λ name. steps_code types (kit name) steps (hand_of begun) s.on_throw s.on_no)
      (λ name. arm_noted (kit_at (kit name) (depths_of s.levels.now)) gives (map held_of noted) done.free) x y)
