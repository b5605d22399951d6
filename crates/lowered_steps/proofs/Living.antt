-- Code over values in hand: there is none where one of them doesn't exist.
use Rattle.std.proofs.Common.{◌≡◌, ◌∙◌, Bool, true, false, List, [], ◌∷◌, sym, ap, subst, if◌then◌else◌}
use Rattle.std.specs.Prelude.{◌||◌, OnOk, Result}
use Rattle.size_values.specs.declared.sized.Sized.{Sized}
use Rattle.jib.specs.declared.code.Instruction.{Instruction}
use Rattle.lowered_pieces.specs.declared.coding.Coding.{Coding}
use Rattle.lowered_pieces.specs.Emitted.{Emits, no_labels}
use Rattle.lowered_pieces.specs.Forms.{dead, is_never, live_code}
use Rattle.lowered_pieces.specs.Places.{Naming}
use Rattle.lowered_pieces.proofs.Emitting.{emits_none}

-- of one value
pub dead_one : (t : Sized) (b : Bool) → b ≡ is_never t → b ≡ dead (t ∷ [])
dead_one t true is = ap (λ d. d || false) is
dead_one t false is = ap (λ d. d || false) is

module _ (ts : List Sized) (b : Bool) (code : Naming → List Instruction) (old : Coding) (is : b ≡ dead ts) where
  pub dead_put : b ≡ true → Emits old old (λ name l. live_code ts (code name)) no_labels
  dead_put so = subst (λ d. Emits old old (λ name l. if d then [] else code name) no_labels) (sym so ∙ is) (emits_none old)

  pub live_put : {T E : Type 0} (r : Result T E) (new : Coding) → b ≡ false → OnOk r (Emits old new (λ name l. code name) no_labels)
      → OnOk r (Emits old new (λ name l. live_code ts (code name)) no_labels)
  live_put r new not_so h = subst (λ d. OnOk r (Emits old new (λ name l. if d then [] else code name) no_labels)) (sym not_so ∙ is) h
