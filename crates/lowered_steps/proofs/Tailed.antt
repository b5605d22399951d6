-- What is done with a value in hand, as it is put.
use Rattle.std.proofs.Common.{◌≡◌, ◌∙◌, ℕ, ◌+◌, false, List, [], ◌∷◌, ◌++◌, length, sym, ap, subst, arith, eq-eqb, if◌then◌else◌}
use Rattle.std.specs.Prelude.{nat_eq, OnOk, Result}
use Rattle.std.proofs.lemmas.Bool.Decides.{nat_tests}
use Rattle.size_values.specs.declared.sized.Sized.{Sized}
use Rattle.jib.specs.declared.code.Literal.TheVariants as L
use Rattle.jib.specs.declared.code.Source.TheVariants as R
use Rattle.jib.specs.declared.code.Target.TheVariants as G
use Rattle.jib.specs.declared.code.Operation.TheVariants as O
use Rattle.jib.specs.declared.code.Instruction.{Instruction}
use Rattle.jib.specs.declared.code.Instruction.TheVariants as I
use Rattle.lowered_pieces.specs.declared.coding.Coding.{Coding}
use Rattle.lowered_pieces.specs.Arms.{moved}
use Rattle.lowered_pieces.specs.Emitted.{Emits, no_labels}
use Rattle.lowered_pieces.specs.Forms.{constant_code, return_tail, throw_tail, unit_piece, var_tail}
use Rattle.lowered_pieces.specs.Mapped.{some_tail}
use Rattle.lowered_pieces.specs.Moves.{kept_code, retype}
use Rattle.lowered_pieces.specs.Places.{Local, Naming, Place, Raised, Temp}
use Rattle.lowered_pieces.proofs.Emitting.{ok_before, ok_next, ok_same}
use Rattle.lowered_steps.specs.declared.setting.Setting.{Setting}
use Rattle.lowered_steps.specs.declared.stands.Stand.{Stand as Standing}
use Rattle.lowered_steps.specs.declared.tails.Tail.{Tail as Ending}
use Rattle.lowered_steps.specs.Setting.{kit_for, number_for, reads_at}
use Rattle.lowered_steps.specs.Stands.{scope_of, stand_of}
use Rattle.lowered_steps.specs.Tails.{tail_of}

module _ {T E : Type 0} (r : Result T E) (old : Coding) (new : Coding) (setting : Setting) where
  -- of tails that are one
  pub tail_is : (typ : Sized) (t u : Ending) → t ≡ u
      → OnOk r (Emits old new (λ name l. (tail_of setting name u).code typ l) (λ name. (tail_of setting name u).labels))
      → OnOk r (Emits old new (λ name l. (tail_of setting name t).code typ l) (λ name. (tail_of setting name t).labels))
  tail_is typ t u is h =
      subst (λ v. OnOk r (Emits old new (λ name l. (tail_of setting name v).code typ l) (λ name. (tail_of setting name v).labels))) (sym is) h

  module _ (s : Standing) (typ : Sized) (text : List ℕ) (types : List Sized) (as_read : types ≡ reads_at setting.reads.now text) where
    abbrev kept_at : Place → List Sized → Naming → List Instruction
    kept_at place us name = kept_code (kit_for setting name) place s.temp us typ

    pub binds : (count : ℕ) → count ≡ length (scope_of s.scope.now)
        → OnOk r (Emits old new (λ name l. kept_at (Local count) types name) no_labels)
        → OnOk r (Emits old new (λ name l. (var_tail (kit_for setting name) (reads_at setting.reads.now text) (stand_of s)).code typ l) no_labels)
    binds count counted h =
        subst (λ us. OnOk r (Emits old new (λ name l. kept_at (Local (length (scope_of s.scope.now))) us name) no_labels)) as_read
        (subst (λ i. OnOk r (Emits old new (λ name l. kept_at (Local i) types name) no_labels)) counted h)

  module _ (s : Standing) (typ : Sized) (n : ℕ) (is : n ≡ number_for setting typ) where
    pub throws : (mid : Coding)
        → Emits old mid (λ name l. I.Copy (G.Slot (name Raised setting.exception)) (R.Slot (name (Temp s.temp) n)) ∷ []) no_labels
        → OnOk r (Emits mid new (λ name l. I.Goto s.on_throw ∷ []) no_labels)
        → OnOk r (Emits old new (λ name l. (throw_tail (kit_for setting name) (stand_of s)).code typ l) no_labels)
    throws mid x h =
        subst (λ k. OnOk r (Emits old new
        (λ name l. I.Copy (G.Slot (name Raised setting.exception)) (R.Slot (name (Temp s.temp) k)) ∷ I.Goto s.on_throw ∷ []) no_labels)) is
        (ok_next r old mid new (λ name. I.Copy (G.Slot (name Raised setting.exception)) (R.Slot (name (Temp s.temp) n)) ∷ [])
        (λ name. I.Goto s.on_throw ∷ []) x h)

    pub ends : OnOk r (Emits old new (λ name l. I.End (R.Slot (name (Temp s.temp) n)) ∷ []) no_labels)
        → OnOk r (Emits old new (λ name l. (return_tail (kit_for setting name) (stand_of s)).code typ l) no_labels)
    ends h = subst (λ k. OnOk r (Emits old new (λ name l. I.End (R.Slot (name (Temp s.temp) k)) ∷ []) no_labels)) is h

    -- what stands in another place
    pub moves : (m : ℕ) (b : Ending) (mid : Coding) → (m ≡ s.temp → ⊥)
        → Emits old mid (λ name l. I.Copy (G.Slot (name (Temp s.temp) n)) (R.Slot (name (Temp m) n)) ∷ []) no_labels
        → OnOk r (Emits mid new (λ name l. (tail_of setting name b).code typ l) (λ name. (tail_of setting name b).labels))
        → OnOk r (Emits old new (λ name l. (moved setting.types.now (kit_for setting name) m (stand_of s) (tail_of setting name b)).code typ l)
        (λ name. (tail_of setting name b).labels))
    moves m b mid apart x h =
        subst (λ e. OnOk r (Emits old new (λ name l.
        (if e then [] else I.Copy (G.Slot (name (Temp s.temp) (number_for setting typ))) (R.Slot (name (Temp m) (number_for setting typ))) ∷ [])
        ++ (tail_of setting name b).code typ l) (λ name. (tail_of setting name b).labels))) (sym (different m s.temp apart))
        (subst (λ k. OnOk r (Emits old new (λ name l. I.Copy (G.Slot (name (Temp s.temp) k)) (R.Slot (name (Temp m) k)) ∷ (tail_of setting name b).code typ l)
        (λ name. (tail_of setting name b).labels))) is
        (ok_before r old mid new (λ name. I.Copy (G.Slot (name (Temp s.temp) n)) (R.Slot (name (Temp m) n)) ∷ [])
        (λ name l. (tail_of setting name b).code typ l) (λ name. (tail_of setting name b).labels) x h))
      where
        different : (a b : ℕ) → (a ≡ b → ⊥) → nat_eq a b ≡ false
        different a b ne = grind (arith, nat_tests)

  -- what stands in this place already
  pub stays : (s : Standing) (typ : Sized) (m : ℕ) (b : Ending) → m ≡ s.temp
      → OnOk r (Emits old new (λ name l. (tail_of setting name b).code typ l) (λ name. (tail_of setting name b).labels))
      → OnOk r (Emits old new (λ name l. (moved setting.types.now (kit_for setting name) m (stand_of s) (tail_of setting name b)).code typ l)
      (λ name. (tail_of setting name b).labels))
  stays s typ m b is h =
      subst (λ e. OnOk r (Emits old new (λ name l.
      (if e then [] else I.Copy (G.Slot (name (Temp s.temp) (number_for setting typ))) (R.Slot (name (Temp m) (number_for setting typ))) ∷ [])
      ++ (tail_of setting name b).code typ l) (λ name. (tail_of setting name b).labels))) (sym (eq-eqb m s.temp is)) h

  -- `()` in hand
  pub nothing : (s : Standing) (b : Ending) (mid : Coding)
      → Emits old mid (λ name l. constant_code (kit_for setting name) (number_for setting setting.nothing.now) L.Unit s.temp) no_labels
      → OnOk r (Emits mid new (λ name l. (tail_of setting name b).code setting.nothing.now l) (λ name. (tail_of setting name b).labels))
      → OnOk r (Emits old new (λ name l. (unit_piece (kit_for setting name)).ended (tail_of setting name b) (stand_of s) l)
      (λ name. (tail_of setting name b).labels))
  nothing s b mid x h =
      ok_before r old mid new (λ name. constant_code (kit_for setting name) (number_for setting setting.nothing.now) L.Unit s.temp)
      (λ name l. (tail_of setting name b).code setting.nothing.now l) (λ name. (tail_of setting name b).labels) x h

-- an option of what is in hand
module _ {T E : Type 0} (r : Result T E) (old : Coding) (new : Coding) (setting : Setting) (s : Standing) (typ : Sized) (b : Ending) where
  abbrev wrapped : Sized → ℕ → ℕ → ℕ → Naming → ℕ → List Instruction
  wrapped option t u v name l =
      retype (kit_for setting name) s.temp t u
      ++ I.Apply (G.Slot (name (Temp s.temp) v)) (O.Construct 0) (R.Slot (name (Temp s.temp) u) ∷ []) ∷ (tail_of setting name b).code option l

  pub wraps : (option payload : Sized) (t u v : ℕ) (mid late : Coding) → t ≡ number_for setting typ → u ≡ number_for setting payload
      → v ≡ number_for setting option → Emits old mid (λ name l. retype (kit_for setting name) s.temp t u) no_labels
      → Emits mid late (λ name l. I.Apply (G.Slot (name (Temp s.temp) v)) (O.Construct 0) (R.Slot (name (Temp s.temp) u) ∷ []) ∷ []) no_labels
      → OnOk r (Emits late new (λ name l. (tail_of setting name b).code option l) (λ name. (tail_of setting name b).labels))
      → OnOk r (Emits old new (λ name l. (some_tail (kit_for setting name) option payload (tail_of setting name b) (stand_of s)).code typ l)
      (λ name. (tail_of setting name b).labels))
  wraps option payload t u v mid late from inside gives x y h =
      let labels : Naming → ℕ = λ name. (tail_of setting name b).labels in
      let made : Naming → Instruction = λ name. I.Apply (G.Slot (name (Temp s.temp) v)) (O.Construct 0) (R.Slot (name (Temp s.temp) u) ∷ []) in
      ok_same r old new (λ name l. wrapped option t u v name l)
      (λ name l. (some_tail (kit_for setting name) option payload (tail_of setting name b) (stand_of s)).code typ l) labels
      (λ name.
      ap (λ m. wrapped option m u v name old.labels) from ∙ ap (λ m. wrapped option (number_for setting typ) m v name old.labels) inside
      ∙ ap (λ m. wrapped option (number_for setting typ) (number_for setting payload) m name old.labels) gives)
      (ok_before r old mid new (λ name. retype (kit_for setting name) s.temp t u) (λ name l. made name ∷ (tail_of setting name b).code option l) labels x
      (ok_before r mid late new (λ name. made name ∷ []) (λ name l. (tail_of setting name b).code option l) labels y h))
