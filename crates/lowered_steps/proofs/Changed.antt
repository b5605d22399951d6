-- Structs with other values in several fields, as they are put.
use Rattle.std.proofs.Common.{◌≡◌, ◌∙◌, ℕ, suc, ◌+◌, List, [], ◌∷◌, ◌++◌, length, sym, ap, subst}
use Rattle.std.specs.Prelude.{OnOk, Result}
use Rattle.size_values.specs.declared.sized.Sized.{Sized, out-Sized}
use Rattle.jib.specs.declared.code.Operation.TheVariants as O
use Rattle.jib.specs.declared.code.Source.{Source}
use Rattle.jib.specs.declared.code.Source.TheVariants as R
use Rattle.jib.specs.declared.code.Target.TheVariants as G
use Rattle.jib.specs.declared.code.Instruction.{Instruction}
use Rattle.jib.specs.declared.code.Instruction.TheVariants as I
use Rattle.lowered_pieces.specs.declared.coding.Coding.{Coding}
use Rattle.lowered_pieces.specs.Emitted.{Emits, Grows, Sourced, no_labels}
use Rattle.lowered_pieces.specs.Fields.{field_types_of, fields_out, with_code}
use Rattle.lowered_pieces.specs.Forms.{numbers_of, set_fields}
use Rattle.lowered_pieces.specs.Moves.{sources}
use Rattle.lowered_pieces.specs.Places.{Naming, Place, Temp}
use Rattle.lowered_pieces.proofs.Emitting.{ok_from, ok_next, ok_same}
use Rattle.lowered_steps.specs.declared.setting.Setting.{Setting}
use Rattle.lowered_steps.specs.Setting.{kit_for, number_for}
use Rattle.lowered_steps.proofs.Sourcing.{sourced_set}
use Rattle.lowered_steps.proofs.Taking.{one_on}

module _ (setting : Setting) where
  abbrev hands : ℕ → List Sized → Naming → List Source
  hands temp ts name = sources (kit_for setting name) temp (numbers_of (kit_for setting name) (number_for setting) ts)

  -- fields are taken out, one by one
  abbrev outs : Place → ℕ → ℕ → ℕ → List Sized → Naming → List Instruction
  outs p w j q ts name = fields_out (kit_for setting name) (number_for setting) setting.types.now (R.Slot (name p w)) j q ts

  abbrev out_at : Place → ℕ → ℕ → ℕ → ℕ → Naming → Instruction
  out_at p w j q n name = I.Apply (G.Slot (name (Temp q) n)) (O.Field j) (R.Slot (name p w) ∷ [])

  -- a struct is built of them and of the values behind it
  abbrev built : ℕ → ℕ → List ℕ → ℕ → List Sized → ℕ → List Sized → Naming → Instruction
  built temp n is b ts f olds name = I.Apply (G.Slot (name (Temp temp) n)) O.Build (set_fields is (hands b ts name) (hands f olds name))

  pub outs_none : (old : Coding) (p : Place) (w j q : ℕ) (ts : List Sized) → ts ≡ [] → Emits old old (λ name l. []) no_labels
      → Emits old old (λ name l. outs p w j q ts name) no_labels
  outs_none old p w j q ts is x = subst (λ us. Emits old old (λ name l. outs p w j q us name) no_labels) (sym is) x

module _ {V E : Type 0} (r : Result V E) (setting : Setting) (old : Coding) (new : Coding) where
  pub outs_more : (mid : Coding) (p : Place) (w j j2 q q2 n : ℕ) (t : Sized) (ts us : List Sized) → us ≡ t ∷ ts → n ≡ number_for setting t → j2 ≡ j + 1
      → q2 ≡ q + 1 → Emits old mid (λ name l. out_at setting p w j q n name ∷ []) no_labels
      → OnOk r (Emits mid new (λ name l. outs setting p w j2 q2 ts name) no_labels) → OnOk r (Emits old new (λ name l. outs setting p w j q us name) no_labels)
  outs_more mid p w j j2 q q2 n t ts us all number on next x y =
      ok_same r old new (λ name l. out_at setting p w j q n name ∷ outs setting p w j2 q2 ts name) (λ name l. outs setting p w j q us name) no_labels
      (λ name.
      ap (λ m. out_at setting p w j q m name ∷ outs setting p w j2 q2 ts name) number
      ∙ ap (λ m. out_at setting p w j q (number_for setting t) name ∷ outs setting p w m q2 ts name) (on ∙ sym (one_on j))
      ∙ ap (λ m. out_at setting p w j q (number_for setting t) name ∷ outs setting p w (suc j) m ts name) next ∙ ap (λ vs. outs setting p w j q vs name)
      (sym all))
      (ok_next r old mid new (λ name. out_at setting p w j q n name ∷ []) (λ name. outs setting p w j2 q2 ts name) x y)

  pub with_put : (a b d : Coding) (is : List ℕ) (temp w q f n : ℕ) (t gives : Sized) (ts us olds : List Sized) (xs ys zs : List Source) → us ≡ t ∷ ts
      → w ≡ number_for setting t → olds ≡ field_types_of setting.types.now (out-Sized t) → q ≡ temp + 1 → f ≡ q + length ts
      → n ≡ number_for setting gives → Emits old a (λ name l. outs setting (Temp temp) w 0 f olds name) no_labels → Grows a b
      → Sourced b.slots xs (hands setting q ts) → Grows b d → Sourced d.slots ys (hands setting f olds) → zs ≡ set_fields is xs ys
      → ((by : Naming → List Source) → Sourced d.slots zs by
      → OnOk r (Emits d new (λ name l. I.Apply (G.Slot (name (Temp temp) n)) O.Build (by name) ∷ []) no_labels))
      → OnOk r (Emits old new (λ name l. with_code (kit_for setting name) (number_for setting) setting.types.now is temp us gives) no_labels)
  with_put a b d is temp w q f n t gives ts us olds xs ys zs all whole inner on next number x g read more late set put =
      let by : Naming → List Source = λ name. set_fields is (hands setting q ts name) (hands setting f olds name) in
      let g2 : ℕ = temp + 1 in
      let f2 : ℕ = temp + 1 + length ts in
      ok_same r old new (λ name l. outs setting (Temp temp) w 0 f olds name ++ built setting temp n is q ts f olds name ∷ [])
      (λ name l. with_code (kit_for setting name) (number_for setting) setting.types.now is temp us gives) no_labels
      (λ name.
      ap (λ m. outs setting (Temp temp) m 0 f olds name ++ built setting temp n is q ts f olds name ∷ []) whole
      ∙ ap (λ m. outs setting (Temp temp) (number_for setting t) 0 m olds name ++ built setting temp n is q ts m olds name ∷ [])
      (next ∙ ap (λ m. m + length ts) on)
      ∙ ap (λ m. outs setting (Temp temp) (number_for setting t) 0 f2 olds name ++ built setting temp n is m ts f2 olds name ∷ []) on
      ∙ ap (λ m. outs setting (Temp temp) (number_for setting t) 0 f2 olds name ++ built setting temp m is g2 ts f2 olds name ∷ []) number
      ∙ ap (λ vs. outs setting (Temp temp) (number_for setting t) 0 f2 vs name ++ built setting temp (number_for setting gives) is g2 ts f2 vs name ∷ []) inner
      ∙ ap (λ vs. with_code (kit_for setting name) (number_for setting) setting.types.now is temp vs gives) (sym all))
      (ok_next r old a new (λ name. outs setting (Temp temp) w 0 f olds name) (λ name. built setting temp n is q ts f olds name ∷ []) x
      (ok_from r a b new (λ name l. built setting temp n is q ts f olds name ∷ []) no_labels g
      (ok_from r b d new (λ name l. built setting temp n is q ts f olds name ∷ []) no_labels more
      (put by (sourced_set is b.slots d.slots xs ys zs (hands setting q ts) (hands setting f olds) more.slots read late set)))))
