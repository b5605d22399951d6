-- Operands that are put one behind the other, and values that are made of them.
use Rattle.std.proofs.Common.{◌≡◌, ◌∙◌, ℕ, ◌+◌, List, [], ◌∷◌, ◌++◌, length, refl, ap, subst}
use Rattle.std.specs.Prelude.{OnOk, Result}
use Rattle.sail_base.specs.declared.place.Place.{Place as TextPlace}
use Rattle.value_indices.specs.declared.indices.Indices.{Indices}
use Rattle.size_values.specs.declared.sized.Sized.{Sized}
use Rattle.sized_nodes.specs.declared.trees.Case.{Case}
use Rattle.sized_nodes.specs.declared.trees.Lead.{Lead}
use Rattle.jib.specs.declared.code.Instruction.{Instruction}
use Rattle.lowered_pieces.specs.declared.coding.Coding.{Coding}
use Rattle.lowered_pieces.specs.Emitted.{Emits}
use Rattle.lowered_pieces.specs.Places.{Kit, Naming}
use Rattle.lowered_pieces.specs.Chains.{by_case, many}
use Rattle.lowered_pieces.specs.Forms.{Callees, Depths, Maker, Piece, Stand, Tail, all_code, all_labels, call_piece, code_of, count_of, deeper, enter_code}
use Rattle.lowered_pieces.specs.Forms.{higher}
use Rattle.lowered_pieces.specs.Forms.{inner, inside_piece, kit_at, lead_arm, made_code, made_of_piece, picked_by}
use Rattle.lowered_nodes.proofs.Joining.{ok_as, ok_first, ok_more}
use Rattle.lowered_nodes.proofs.Pieces.{Ended, Plain, Stays}

module _ {T E : Type 0} (r : Result T E) (kit : Naming → Kit) (number : Sized → ℕ) (s : Stand) (t : Naming → Tail) where
  -- operands in hand
  abbrev pub All : Coding → Coding → Stand → (Naming → List Piece) → Type 0
  All a b s ps = Emits a b (λ name x. all_code (kit name) number (ps name) s x) (λ name. all_labels (kit name) number (ps name))

  pub all_put : (p : Naming → Piece) (ps : Naming → List Piece) (a b c : Coding) → Stays a b s p → OnOk r (All b c (higher s) ps)
      → OnOk r (All a c s (λ name. p name ∷ ps name))
  all_put p ps a b c x h = ok_more r a b c _ _ _ _ x h

  pub all_more : (p : Naming → Piece) (ps : Naming → List Piece) (n : ℕ) (a b c : Coding) → n ≡ s.temp + 1 → Stays a b s p
      → OnOk r (All b c (record s { temp = n }) ps) → OnOk r (All a c s (λ name. p name ∷ ps name))
  all_more p ps n a b c is x h = all_put p ps a b c x (subst (λ k. OnOk r (All b c (record s { temp = k }) ps)) is h)

  -- a value that is made of so many of them
  pub made_put : (make : (name : Naming) → Maker (kit name) number) (cases : List Case) (gives : List Indices) (n : ℕ) (ps : Naming → List Piece)
      → ((name : Naming) → n ≡ length (ps name)) → (a b c : Coding) → All a b s ps
      → OnOk r (Emits b c (λ name x. made_code (kit name) number n (make name) cases gives (t name) s x) (λ name. many (t name).labels cases))
      → OnOk r (Ended r kit s t a c (λ name. made_of_piece (kit name) number (make name) cases gives (ps name)))
  made_put make cases gives n ps same a b c x h =
      ok_as r a c _ _ _ _
      (ok_more r a b c _ _ _ _ x h)
      (λ name. ap (λ k. all_code (kit name) number (ps name) s a.labels
      ++ made_code (kit name) number k (make name) cases gives (t name) s (a.labels + all_labels (kit name) number (ps name))) (same name)) (λ name. refl)

  -- a call, whose leads are put behind its arguments
  pub call_put : (callees : Callees) (place : TextPlace) (cases : List Case) (leads : List Lead) (gives : List Indices) (n : ℕ)
      (ps : Naming → List Piece) → ((name : Naming) → n ≡ length (ps name)) → (a b c : Coding) → All a b s ps
      → OnOk r (Emits b c
      (λ name x. by_case picked_by (kit_at (kit name) s.depths) (s.temp + n) (many (t name).labels cases)
      (lead_arm (kit name) number callees place cases gives (t name) s) x leads) (λ name. many (many (t name).labels cases) leads))
      → OnOk r (Ended r kit s t a c (λ name. call_piece (kit name) number callees place cases leads gives (ps name)))
  call_put callees place cases leads gives n ps same a b c x h =
      ok_as r a c _ _ _ _
      (ok_more r a b c _ _ _ _ x h)
      (λ name. ap (λ k. all_code (kit name) number (ps name) s a.labels
      ++ by_case picked_by (kit_at (kit name) s.depths) (s.temp + k) (many (t name).labels cases)
      (lead_arm (kit name) number callees place cases gives (t name) s) (a.labels + all_labels (kit name) number (ps name)) leads) (same name)) (λ name. refl)

  -- a branch, a turn or an arm: what was noted before, and then the piece
  pub inside_put : (p : Naming → Piece) (notes : List ℕ) → ((name : Naming) → notes ≡ (p name).notes) → (a b c : Coding)
      → Plain a b (λ name. enter_code (kit name) s.depths notes)
      → OnOk r (Emits b c (λ name x. (p name).ended (t name) (inner notes s) x) (λ name. (p name).labels (t name).labels))
      → OnOk r (Ended r kit s t a c (λ name. inside_piece (kit name) (p name)))
  inside_put p notes same a b c x h =
      ok_as r a c _ _ _ _
      (ok_first r a b c _ _ _ x h)
      (λ name. ap (λ ns. enter_code (kit name) s.depths ns ++ (p name).ended (t name) (inner ns s) a.labels) (same name)) (λ name. refl)
