-- Operands, and one more behind them.
use Rattle.std.proofs.Common.{◌≡◌, ◌∙◌, ℕ, ◌+◌, List, [], ◌∷◌, ◌++◌, length, map, refl, sym, ap, arith, append_assoc, append-nil}
use Rattle.size_values.specs.declared.sized.Sized.{Sized}
use Rattle.jib.specs.declared.code.Instruction.{Instruction}
use Rattle.lowered_pieces.specs.declared.coding.Coding.{Coding}
use Rattle.lowered_pieces.specs.Emitted.{Emits}
use Rattle.lowered_pieces.specs.Forms.{Piece, Stand, all_code, all_labels, code_of, count_of, higher}
use Rattle.lowered_pieces.specs.Places.{Kit, Naming}
use Rattle.lowered_pieces.specs.Writes.{before, final}
use Rattle.lowered_pieces.proofs.Emitting.{emits_as, emits_then}
use Rattle.lowered_nodes.proofs.Pieces.{Stays}

module _ (kit : Kit) (number : Sized → ℕ) where
  -- so many places further
  abbrev pub further_by : ℕ → Stand → Stand
  further_by n s = record s { temp = s.temp + n }

  pub code_last : (ps : List Piece) (p : Piece) (s : Stand) (l : ℕ) → all_code kit number (ps ++ p ∷ []) s l
      ≡ all_code kit number ps s l ++ code_of p (further_by (length ps) s) (l + all_labels kit number ps)
  code_last [] p s l =
      let t : s.temp ≡ s.temp + 0 = omega arith in
      let k : l ≡ l + 0 = omega arith in
      append-nil (code_of p s l) ∙ (λ i. code_of p (record s { temp = t i }) (k i))
  code_last (q ∷ ps) p s l =
      let t : s.temp + 1 + length ps ≡ s.temp + length (q ∷ ps) = omega arith in
      let k : l + count_of q + all_labels kit number ps ≡ l + (count_of q + all_labels kit number ps) = omega arith in
      ap (λ (is : List Instruction). code_of q s l ++ is) (code_last ps p (higher s) (l + count_of q))
      ∙ (λ i. code_of q s l ++ (all_code kit number ps (higher s) (l + count_of q) ++ code_of p (record s { temp = t i }) (k i)))
      ∙ sym (append_assoc (code_of q s l) (all_code kit number ps (higher s) (l + count_of q))
      (code_of p (further_by (length (q ∷ ps)) s) (l + all_labels kit number (q ∷ ps))))

  pub labels_last : (ps : List Piece) (p : Piece) → all_labels kit number (ps ++ p ∷ []) ≡ all_labels kit number ps + count_of p
  labels_last [] p = omega arith
  labels_last (q ∷ ps) p = let e = labels_last ps p in omega (arith, e)

-- operands in hand, and one more
pub all_last : (kit : Naming → Kit) (number : Sized → ℕ) (ps : Naming → List Piece) (p : Naming → Piece) (s : Stand) (m n : ℕ) → m ≡ s.temp + n
    → ((name : Naming) → n ≡ length (ps name)) → (a b c : Coding)
    → Emits a b (λ name x. all_code (kit name) number (ps name) s x) (λ name. all_labels (kit name) number (ps name)) → Stays b c (record s { temp = m }) p
    → Emits a c (λ name x. all_code (kit name) number (ps name ++ p name ∷ []) s x) (λ name. all_labels (kit name) number (ps name ++ p name ∷ []))
all_last kit number ps p s m n is many a b c x y =
    emits_as a c _ _ _ _
    (λ name. (λ i. all_code (kit name) number (ps name) s a.labels ++ code_of (p name) (record s { temp = (is ∙ ap (λ k. s.temp + k) (many name)) i })
    (a.labels + all_labels (kit name) number (ps name))) ∙ sym (code_last (kit name) number (ps name) (p name) s a.labels))
    (λ name. sym (labels_last (kit name) number (ps name) (p name))) (emits_then a b c _ _ _ _ x y)

-- ---- all but the last, and the last

pub before_last : {A : Type 0} (xs : List A) (x : A) → before (xs ++ x ∷ []) ≡ xs
before_last [] x = refl
before_last (y ∷ []) x = refl
before_last (y ∷ z ∷ xs) x = ap (λ us. y ∷ us) (before_last (z ∷ xs) x)

pub final_last : {A : Type 0} (d : A) (xs : List A) (x : A) → final d (xs ++ x ∷ []) ≡ x
final_last d [] x = refl
final_last d (y ∷ []) x = refl
final_last d (y ∷ z ∷ xs) x = final_last d (z ∷ xs) x

pub map_last : {A B : Type 0} (f : A → B) (xs : List A) (x : A) → map f (xs ++ x ∷ []) ≡ map f xs ++ f x ∷ []
map_last f [] x = refl
map_last f (y ∷ xs) x = ap (λ us. f y ∷ us) (map_last f xs x)

pub length_last : {A : Type 0} (xs : List A) (x : A) → length (xs ++ x ∷ []) ≡ length xs + 1
length_last [] x = refl
length_last (y ∷ xs) x = let e = length_last xs x in omega (arith, e)
