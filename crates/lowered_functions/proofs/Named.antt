-- Names of top-level lets, as their code is put.
use Rattle.std.proofs.Common.{◌≡◌, ◌∙◌, ℕ, ◌+◌, List, [], ◌∷◌, ◌++◌, refl, ap}
use Rattle.std.specs.Prelude.{OnOk, Result}
use Rattle.value_indices.specs.declared.indices.Indices.{Indices}
use Rattle.model_state.specs.declared.cause.Cause.TheVariants.{MatchFailure}
use Rattle.size_values.specs.declared.sized.Sized.{Sized}
use Rattle.jib.specs.declared.code.Source.TheVariants as R
use Rattle.jib.specs.declared.code.Target.TheVariants as G
use Rattle.jib.specs.declared.code.Instruction.{Instruction}
use Rattle.jib.specs.declared.code.Instruction.TheVariants as I
use Rattle.lowered_pieces.specs.declared.coding.Coding.{Coding}
use Rattle.lowered_pieces.specs.Arms.{Hand, choice_labels, hand_of, held_at, in_hand, looks_code, moved}
use Rattle.lowered_pieces.specs.Emitted.{Emits, no_labels}
use Rattle.lowered_pieces.specs.Forms.{Named, Stand, one_end, place_of, return_tail}
use Rattle.lowered_pieces.specs.Places.{Naming, Place, Temp}
use Rattle.lowered_pieces.proofs.Emitting.{emits_as, emits_then, ok_before, ok_same, ok_then}
use Rattle.lowered_steps.specs.declared.setting.Setting.{Setting}
use Rattle.lowered_steps.specs.Setting.{kit_for, number_for}
use Rattle.lowered_steps.proofs.Framed.{arm_same}
use Rattle.lowered_functions.specs.declared.openings.LetName.{LetName}
use Rattle.lowered_functions.specs.Made.{failing_at, held_for, let_for}
use Rattle.lowered_functions.proofs.Put.{emits_behind}

module _ (setting : Setting) (n : LetName) (s : Stand) (off : ℕ) where
  -- what the pattern has in hand, under a numbering of slots
  abbrev hand_at : Naming → Hand
  hand_at name = hand_of setting.types.now (kit_for setting name) (in_hand (one_end n.whole.now)) n.steps.now (failing_at off s)

  same_hand : (a b : Naming) → hand_at a ≡ hand_at b
  same_hand a b = arm_same setting.types.now setting a b n.steps.now (s.temp + 1) off (held_at s.temp n.whole.now ∷ [])

  abbrev looks : List Indices → Sized → Naming → ℕ → List Instruction
  looks gives whole name l = looks_code setting.types.now (kit_for setting name) gives (in_hand (one_end whole)) n.steps.now (failing_at off s) l

  abbrev comes : ℕ → Place → ℕ → Naming → Instruction
  comes free from k name = I.Copy (G.Slot (name (Temp free) k)) (R.Slot (name from k))

  abbrev leaves : ℕ → Naming → ℕ → List Instruction
  leaves free name l = (moved setting.types.now (kit_for setting name) free s (return_tail (kit_for setting name) s)).code n.typ.now l

  abbrev all_held : List Indices → Sized → ℕ → Place → ℕ → Naming → ℕ → List Instruction
  all_held gives whole free from k name l = looks gives whole name l ++ comes free from k name ∷ leaves free name l

  pub held_put : {T E : Type 0} (r : Result T E) (zero : Naming) (old a b new : Coding) (gives : List Indices) (whole : Sized) (names : List Named)
      (free k : ℕ) (from : Place) → gives ≡ [] → whole ≡ n.whole.now → free ≡ (hand_at zero).free → names ≡ (hand_at zero).names
      → from ≡ place_of (names ++ s.scope) n.name.now → k ≡ number_for setting n.typ.now
      → Emits old a (looks gives whole) (λ name. choice_labels (in_hand (one_end whole))) → Emits a b (λ name l. comes free from k name ∷ []) no_labels
      → OnOk r (Emits b new (leaves free) no_labels) → OnOk r (Emits old new (λ name l. held_for setting name n s off l) no_labels)
  held_put r zero old a b new gives whole names free k from none typ ends named stands number x y h =
      let p : Place = place_of (names ++ s.scope) n.name.now in
      let m : ℕ = number_for setting n.typ.now in
      ok_same r old new (λ name l. all_held gives whole free from k name l) (λ name l. held_for setting name n s off l) no_labels
      (λ name.
      ap (λ g. all_held g whole free from k name old.labels) none ∙ ap (λ t. all_held [] t free from k name old.labels) typ
      ∙ ap (λ q. all_held [] n.whole.now free q k name old.labels) stands ∙ ap (λ j. all_held [] n.whole.now free p j name old.labels) number
      ∙ ap (λ q. all_held [] n.whole.now q p m name old.labels) (ends ∙ ap (λ (v : Hand). v.free) (same_hand zero name))
      ∙ ap (λ xs. all_held [] n.whole.now (hand_at name).free (place_of (xs ++ s.scope) n.name.now) m name old.labels)
      (named ∙ ap (λ (v : Hand). v.names) (same_hand zero name)))
      (ok_then r old a new (looks gives whole) (λ name l. comes free from k name ∷ leaves free name l) (λ name. choice_labels (in_hand (one_end whole)))
      no_labels x (ok_before r a b new (λ name. comes free from k name ∷ []) (leaves free) no_labels y h))

-- where it doesn't match
module _ (setting : Setting) (n : LetName) (s : Stand) (old : Coding) (a : Coding) (b : Coding) (new : Coding) where
  abbrev last : ℕ → ℕ → List Instruction
  last off end = I.Goto end ∷ I.Label off ∷ I.Stop (MatchFailure n.place) ∷ I.Label end ∷ []

  pub let_put : (off end : ℕ) → off ≡ old.labels → end ≡ off + 1 → Emits old a (λ name l. []) (λ name. 2)
      → Emits a b (λ name l. held_for setting name n s off l) no_labels → Emits b new (λ name l. last off end) no_labels
      → Emits old new (λ name l. let_for setting name n s l) (λ name. 2)
  let_put off end first next x y z =
      emits_as old new (λ name l. held_for setting name n s off (l + 2) ++ last off end) (λ name l. let_for setting name n s l) (λ name. 2 + 0) (λ name. 2)
      (λ name.
      ap (λ e. held_for setting name n s off (old.labels + 2) ++ last off e) next
      ∙ ap (λ k. held_for setting name n s k (old.labels + 2) ++ last k (k + 1)) first) (λ name. refl)
      (emits_then old a new (λ name l. []) (λ name l. held_for setting name n s off l ++ last off end) (λ name. 2) no_labels x
      (emits_behind a b new (λ name l. held_for setting name n s off l) (λ name. last off end) no_labels y z))
