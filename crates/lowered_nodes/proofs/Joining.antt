-- Parts of code that are put one behind the other, the last by a call that may fail.
use Rattle.std.proofs.Common.{◌≡◌, ℕ, ◌+◌, List, [], ◌∷◌, ◌++◌, refl, ap, arith}
use Rattle.std.specs.Prelude.{OnOk, Result}
use Rattle.std.proofs.lemmas.Result.{on_ok_weaker}
use Rattle.lowered_pieces.specs.declared.coding.Coding.{Coding}
use Rattle.lowered_pieces.specs.Emitted.{Coded, Emits, no_labels}
use Rattle.lowered_pieces.specs.Places.{Naming}
use Rattle.lowered_pieces.proofs.Emitting.{emits_as, emits_then}

none_more : (l : ℕ) → l + 0 ≡ l
none_more l = omega arith

more_none : (l : ℕ) → 0 + l ≡ l
more_none l = omega arith

-- the first has no labels
pub emits_first : (a b d : Coding) (c e : Coded) (m : Naming → ℕ) → Emits a b c no_labels → Emits b d e m → Emits a d (λ name l. c name l ++ e name l) m
emits_first a b d c e m x y =
    emits_as a d (λ name l. c name l ++ e name (l + 0)) (λ name l. c name l ++ e name l) (λ name. 0 + m name) m
    (λ name. ap (λ l. c name a.labels ++ e name l) (none_more a.labels)) (λ name. more_none (m name)) (emits_then a b d c e no_labels m x y)

-- the second has none
pub emits_last : (a b d : Coding) (c e : Coded) (n : Naming → ℕ) → Emits a b c n → Emits b d e no_labels
    → Emits a d (λ name l. c name l ++ e name (l + n name)) n
emits_last a b d c e n x y =
    emits_as a d (λ name l. c name l ++ e name (l + n name)) (λ name l. c name l ++ e name (l + n name)) (λ name. n name + 0) n
    (λ name. refl) (λ name. none_more (n name)) (emits_then a b d c e n no_labels x y)

module _ {T E : Type 0} (r : Result T E) where
  pub ok_first : (a b d : Coding) (c e : Coded) (m : Naming → ℕ) → Emits a b c no_labels → OnOk r (Emits b d e m)
      → OnOk r (Emits a d (λ name l. c name l ++ e name l) m)
  ok_first a b d c e m x h = on_ok_weaker r (λ (y : Emits b d e m). emits_first a b d c e m x y) h

  pub ok_last : (a b d : Coding) (c e : Coded) (n : Naming → ℕ) → Emits a b c n → OnOk r (Emits b d e no_labels)
      → OnOk r (Emits a d (λ name l. c name l ++ e name (l + n name)) n)
  ok_last a b d c e n x h = on_ok_weaker r (λ (y : Emits b d e no_labels). emits_last a b d c e n x y) h

  pub ok_more : (a b d : Coding) (c e : Coded) (n m : Naming → ℕ) → Emits a b c n → OnOk r (Emits b d e m)
      → OnOk r (Emits a d (λ name l. c name l ++ e name (l + n name)) (λ name. n name + m name))
  ok_more a b d c e n m x h = on_ok_weaker r (λ (y : Emits b d e m). emits_then a b d c e n m x y) h

  -- the same code where its labels begin, with as many labels
  pub ok_as : (old new : Coding) (c e : Coded) (n m : Naming → ℕ) → OnOk r (Emits old new c n)
      → ((name : Naming) → c name old.labels ≡ e name old.labels) → ((name : Naming) → n name ≡ m name) → OnOk r (Emits old new e m)
  ok_as old new c e n m h same many = on_ok_weaker r (λ (x : Emits old new c n). emits_as old new c e n m same many x) h
