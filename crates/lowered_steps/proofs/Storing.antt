-- New parts of values, as they are put.
use Rattle.std.proofs.Common.{◌≡◌, ◌∙◌, ℕ, ◌+◌, ◌≤◌, List, [], ◌∷◌, ◌++◌, length, refl, sym, ap, subst, arith}
use Rattle.std.specs.Prelude.{IfOk, OnOk, Result}
use Rattle.std.proofs.lemmas.Result.{IfOk-weaker}
use Rattle.sail_core.specs.declared.targets.Suffix.{Suffix}
use Rattle.sail_core.specs.declared.targets.Way.{Way}
use Rattle.size_values.specs.declared.sized.Sized.{Sized}
use Rattle.jib.specs.declared.code.Operation.{Operation}
use Rattle.jib.specs.declared.code.Source.{Source}
use Rattle.jib.specs.declared.code.Target.TheVariants as G
use Rattle.jib.specs.declared.code.Instruction.{Instruction}
use Rattle.jib.specs.declared.code.Instruction.TheVariants as I
use Rattle.lowered_slots.specs.declared.slots.Slot.{Slot}
use Rattle.lowered_pieces.specs.declared.coding.Coding.{Coding}
use Rattle.lowered_pieces.specs.Emitted.{Begins, Emits, Grows, Sourced, no_labels}
use Rattle.lowered_pieces.specs.Places.{Naming, Temp}
use Rattle.lowered_pieces.specs.Writes.{put_op, put_step, replaced_code, take_op, taken_step, takes_in, takes_of, way_typ}
use Rattle.lowered_pieces.proofs.Emitting.{ok_from, ok_next, ok_same, sourced_both, sourced_lasts}
use Rattle.lowered_steps.specs.declared.setting.Setting.{Setting}
use Rattle.lowered_steps.specs.Setting.{kit_for, number_for}
use Rattle.lowered_steps.specs.Stores.{one, temp_at, whole_sources}

-- the indexes of suffixes, the first one's before the others'
pub indexes_more : {E : Type 0} (r : Result ℕ E) (s : Suffix) (ss us : List Suffix) (k n : ℕ) → us ≡ s ∷ ss → k ≡ takes_of s.way → n ≡ takes_in ss
    → IfOk r (λ m. m ≡ k + n) → IfOk r (λ m. m ≡ takes_in us)
indexes_more r s ss us k n all first behind h =
    IfOk-weaker r (λ m. m ≡ k + n) (λ m. m ≡ takes_in us)
    (λ m e. e ∙ ap (λ j. j + n) first ∙ ap (λ j. takes_of s.way + j) behind ∙ ap takes_in (sym all)) h

-- one more source behind others
pub sourced_more : (ss ts : List Slot) (had put : List Source) (x : Source) (f g : Naming → List Source) → put ≡ had ++ x ∷ [] → Begins ss ts
    → Sourced ss had f → Sourced ts (x ∷ []) g → Sourced ts put (λ name. f name ++ g name)
sourced_more ss ts had put x f g is b s y =
    subst (λ us. Sourced ts us (λ name. f name ++ g name)) (sym is) (sourced_both ts had (x ∷ []) f g (sourced_lasts ss ts had f b s) y)

-- the value in hand alone is read so far
pub whole_read : (ts : List Slot) (none put : List Source) (x : Source) (q t : ℕ) → none ≡ [] → put ≡ none ++ x ∷ []
    → Sourced ts (x ∷ []) (λ name. temp_at name q t ∷ []) → Sourced ts put (λ name. temp_at name q t ∷ [])
whole_read ts none put x q t empty is s = subst (λ us. Sourced ts us (λ name. temp_at name q t ∷ [])) (sym (is ∙ ap (λ us. us ++ x ∷ []) empty)) s

-- what stands on the way is taken out, gets the part, and is put back
module _ (setting : Setting) where
  abbrev replaced : List Suffix → ℕ → ℕ → Sized → ℕ → ℕ → Naming → List Instruction
  replaced ss n q t i k name = replaced_code setting.types.now (kit_for setting name) ss n q t (temp_at name i k)

  abbrev last_step : Way → ℕ → ℕ → Sized → ℕ → ℕ → Naming → Instruction
  last_step way n q t i k name = put_step setting.types.now (kit_for setting name) way n q t (temp_at name i k)

  pub replaced_none : (old : Coding) (ss : List Suffix) (n q i k : ℕ) (t : Sized) → ss ≡ [] → Emits old old (λ name l. []) no_labels
      → Emits old old (λ name l. replaced ss n q t i k name) no_labels
  replaced_none old ss n q i k t is x = subst (λ us. Emits old old (λ name l. replaced us n q t i k name) no_labels) (sym is) x

  replaced_step : (s : Suffix) (ss : List Suffix) (n q i k : ℕ) (t : Sized) (name : Naming) → 1 ≤ length ss
      → replaced (s ∷ ss) n q t i k name
      ≡ taken_step setting.types.now (kit_for setting name) s.way n q t
      ∷ (replaced ss (n + takes_of s.way) (q + 1) (way_typ setting.types.now s.way t) i k name
      ++ last_step s.way n q t (q + 1) (number_for setting (way_typ setting.types.now s.way t)) name ∷ [])
  replaced_step s [] n q i k t name some = absurd (omega arith)
  replaced_step s (u ∷ ss) n q i k t name some = refl

module _ {V E : Type 0} (r : Result V E) (setting : Setting) (old : Coding) (new : Coding) where
  -- a part is taken out
  abbrev take_at : ℕ → ℕ → Way → ℕ → ℕ → ℕ → Naming → Instruction
  take_at p k way n q w name = I.Apply (G.Slot (name (Temp p) k)) (take_op way) (whole_sources setting name way n q w)

  pub taken_put : (mid : Coding) (rs : List Source) (op : Operation) (way : Way) (n q p k w : ℕ) (t u : Sized) → w ≡ number_for setting t
      → u ≡ way_typ setting.types.now way t → k ≡ number_for setting u → p ≡ q + 1 → op ≡ take_op way → Grows old mid
      → Sourced mid.slots rs (λ name. whole_sources setting name way n q w)
      → ((by : Naming → List Source) → Sourced mid.slots rs by
      → OnOk r (Emits mid new (λ name l. I.Apply (G.Slot (name (Temp p) k)) op (by name) ∷ []) no_labels))
      → OnOk r (Emits old new (λ name l. one (taken_step setting.types.now (kit_for setting name) way n q t)) no_labels)
  taken_put mid rs op way n q p k w t u whole inner number next is g read put =
      let by : Naming → List Source = λ name. whole_sources setting name way n q w in
      ok_same r old new (λ name l. I.Apply (G.Slot (name (Temp p) k)) op (by name) ∷ [])
      (λ name l. one (taken_step setting.types.now (kit_for setting name) way n q t)) no_labels
      (λ name.
      ap (λ o. I.Apply (G.Slot (name (Temp p) k)) o (by name) ∷ []) is
      ∙ ap (λ m. take_at m k way n q w name ∷ []) next
      ∙ ap (λ m. take_at (q + 1) m way n q w name ∷ []) (number ∙ ap (number_for setting) inner)
      ∙ ap (λ m. take_at (q + 1) (number_for setting (way_typ setting.types.now way t)) way n q m name ∷ []) whole)
      (ok_from r old mid new (λ name l. I.Apply (G.Slot (name (Temp p) k)) op (by name) ∷ []) no_labels g (put by read))

  -- a new part is put in
  abbrev put_at : ℕ → Way → ℕ → ℕ → ℕ → ℕ → Naming → Instruction
  put_at w way n q i k name = I.Apply (G.Slot (name (Temp q) w)) (put_op way) (whole_sources setting name way n q w ++ temp_at name i k ∷ [])

  pub part_put : (mid late : Coding) (had rs : List Source) (x : Source) (op : Operation) (way : Way) (n q w i k : ℕ) (t : Sized)
      → w ≡ number_for setting t → op ≡ put_op way → Grows old mid → Sourced mid.slots had (λ name. whole_sources setting name way n q w)
      → Grows mid late → Sourced late.slots (x ∷ []) (λ name. temp_at name i k ∷ []) → rs ≡ had ++ x ∷ []
      → ((by : Naming → List Source) → Sourced late.slots rs by
      → OnOk r (Emits late new (λ name l. I.Apply (G.Slot (name (Temp q) w)) op (by name) ∷ []) no_labels))
      → OnOk r (Emits old new (λ name l. one (put_step setting.types.now (kit_for setting name) way n q t (temp_at name i k))) no_labels)
  part_put mid late had rs x op way n q w i k t whole is g read more new_read pushed put =
      let by : Naming → List Source = λ name. whole_sources setting name way n q w ++ temp_at name i k ∷ [] in
      ok_same r old new (λ name l. I.Apply (G.Slot (name (Temp q) w)) op (by name) ∷ [])
      (λ name l. one (put_step setting.types.now (kit_for setting name) way n q t (temp_at name i k))) no_labels
      (λ name.
      ap (λ o. I.Apply (G.Slot (name (Temp q) w)) o (by name) ∷ []) is ∙ ap (λ m. put_at m way n q i k name ∷ []) whole)
      (ok_from r old mid new (λ name l. I.Apply (G.Slot (name (Temp q) w)) op (by name) ∷ []) no_labels g
      (ok_from r mid late new (λ name l. I.Apply (G.Slot (name (Temp q) w)) op (by name) ∷ []) no_labels more
      (put by (sourced_more mid.slots late.slots had rs x (λ name. whole_sources setting name way n q w) (λ name. temp_at name i k ∷ []) pushed more.slots
      read new_read))))

  pub replaced_one : (s : Suffix) (ss : List Suffix) (n q i k : ℕ) (t : Sized) → ss ≡ s ∷ []
      → OnOk r (Emits old new (λ name l. one (last_step setting s.way n q t i k name)) no_labels)
      → OnOk r (Emits old new (λ name l. replaced setting ss n q t i k name) no_labels)
  replaced_one s ss n q i k t is x = subst (λ us. OnOk r (Emits old new (λ name l. replaced setting us n q t i k name) no_labels)) (sym is) x

  pub replaced_more : (s : Suffix) (ss us : List Suffix) (a b : Coding) (n n2 q q2 i k m : ℕ) (t u : Sized) → us ≡ s ∷ ss → 1 ≤ length ss
      → u ≡ way_typ setting.types.now s.way t → n2 ≡ n + takes_of s.way → q2 ≡ q + 1 → m ≡ number_for setting u
      → Emits old a (λ name l. one (taken_step setting.types.now (kit_for setting name) s.way n q t)) no_labels
      → Emits a b (λ name l. replaced setting ss n2 q2 u i k name) no_labels
      → OnOk r (Emits b new (λ name l. one (last_step setting s.way n q t q2 m name)) no_labels)
      → OnOk r (Emits old new (λ name l. replaced setting us n q t i k name) no_labels)
  replaced_more s ss us a b n n2 q q2 i k m t u all some inner on next number x y z =
      let first : Naming → Instruction = λ name. taken_step setting.types.now (kit_for setting name) s.way n q t in
      ok_same r old new (λ name l. first name ∷ (replaced setting ss n2 q2 u i k name ++ last_step setting s.way n q t q2 m name ∷ []))
      (λ name l. replaced setting us n q t i k name) no_labels
      (λ name.
      ap (λ j. first name ∷ (replaced setting ss j q2 u i k name ++ last_step setting s.way n q t q2 m name ∷ [])) on
      ∙ ap (λ j. first name ∷ (replaced setting ss (n + takes_of s.way) j u i k name ++ last_step setting s.way n q t j m name ∷ [])) next
      ∙ ap (λ j. first name ∷ (replaced setting ss (n + takes_of s.way) (q + 1) u i k name ++ last_step setting s.way n q t (q + 1) j name ∷ [])) number
      ∙ ap (λ w. first name ∷ (replaced setting ss (n + takes_of s.way) (q + 1) w i k name ++ last_step setting s.way n q t (q + 1) (number_for setting w)
      name ∷ [])) inner
      ∙ sym (replaced_step setting s ss n q i k t name some) ∙ ap (λ vs. replaced setting vs n q t i k name) (sym all))
      (ok_next r old a new (λ name. first name ∷ []) (λ name. replaced setting ss n2 q2 u i k name ++ last_step setting s.way n q t q2 m name ∷ []) x
      (ok_next r a b new (λ name. replaced setting ss n2 q2 u i k name) (λ name. last_step setting s.way n q t q2 m name ∷ []) y z))
