-- Calls of directions of mappings, as they are put.
use Rattle.std.proofs.Common.{◌≡◌, ◌∙◌, ℕ, ◌+◌, Some, List, [], ◌∷◌, ◌++◌, sym, ap, append_assoc, arith}
use Rattle.std.specs.Prelude.{OnOk, Option, Result, slice_get}
use Rattle.model_state.specs.declared.cause.Cause.TheVariants.{MatchFailure}
use Rattle.sail_core.specs.declared.tree.Core.{Core, out-Core}
use Rattle.sail_core.specs.declared.tree.Giver.TheVariants as G
use Rattle.sized_meanings.specs.Present.{gives_at}
use Rattle.jib.specs.declared.code.Instruction.{Instruction}
use Rattle.jib.specs.declared.code.Instruction.TheVariants as I
use Rattle.lowered_pieces.specs.declared.coding.Coding.{Coding}
use Rattle.lowered_pieces.specs.Chains.{many}
use Rattle.lowered_pieces.specs.Emitted.{Emits, no_labels}
use Rattle.lowered_pieces.specs.Forms.{End, Piece, made_code, no_tail}
use Rattle.lowered_pieces.specs.Gathered.{only_end}
use Rattle.lowered_pieces.specs.Mapped.{applied_piece, operand_moved}
use Rattle.lowered_pieces.specs.Nodes.{cases_at}
use Rattle.lowered_pieces.specs.Places.{Naming}
use Rattle.lowered_steps.specs.declared.making.Making.TheVariants as M
use Rattle.lowered_steps.specs.declared.setting.Mapped.{Mapped as Direction}
use Rattle.lowered_steps.specs.declared.stands.Stand.{Stand as Standing}
use Rattle.lowered_steps.specs.declared.tails.Tail.{Tail}
use Rattle.lowered_steps.specs.Makers.{maker_of}
use Rattle.lowered_steps.specs.Setting.{direction_in, kit_for, nodes_in, number_for}
use Rattle.lowered_steps.specs.Stands.{stand_of}
use Rattle.lowered_steps.specs.Tails.{tail_of}
use Rattle.lowered_nodes.specs.declared.walk.Walk.{Walk}
use Rattle.lowered_nodes.specs.Walk.{Held, Puts, applied_for, direction_for, piece_at}
use Rattle.lowered_nodes.proofs.Joining.{ok_as, ok_first, ok_more}
use Rattle.lowered_nodes.proofs.Pieces.{Plain, Takes}

module _ {T E : Type 0} (r : Result T E) (walk : Walk) (stand : Standing) (tail : Tail) (node value : Core) where
  -- what is made of the answer, of a type of this number
  abbrev answered : ℕ → Naming → ℕ → List Instruction
  answered n name l =
      made_code (kit_for walk.setting.now name) (number_for walk.setting.now) 1 (maker_of walk.setting.now name (M.Answers n))
      (cases_at (out-Core node).number 1 (nodes_in walk.setting.now)) (gives_at (nodes_in walk.setting.now) (G.Node (out-Core node).number))
      (tail_of walk.setting.now name tail) (stand_of stand) l

  abbrev answer_labels : Naming → ℕ
  answer_labels name = many (tail_of walk.setting.now name tail).labels (cases_at (out-Core node).number 1 (nodes_in walk.setting.now))

  pub applied_put : (d : ℕ) (m : Direction) → slice_get walk.setting.now.directions.now d ≡ Some m → (es : List End)
      → ((name : Naming) → es ≡ (piece_at walk name value).ends) → (a b c e f g h z : Coding) (l k n : ℕ) → l ≡ a.labels → k ≡ l + 1
      → n ≡ number_for walk.setting.now m.payload → Takes a b 2 → Held b c stand (λ name. piece_at walk name value)
      → Emits c e (λ name x. direction_for walk name stand m es (out-Core node).place l) no_labels → Plain e f (λ name. I.Goto k ∷ I.Label l ∷ [])
      → Plain f g (λ name. I.Stop (MatchFailure (out-Core node).place) ∷ []) → Plain g h (λ name. I.Label k ∷ [])
      → OnOk r (Emits h z (λ name x. answered n name x) answer_labels) → OnOk r (Puts a z walk stand tail (λ name. applied_for walk name d node value))
  applied_put d m found es ends a b c e f g h z l k n is next paid x0 x1 x2 x3 x4 x5 o =
      ok_as r a z _ _ _ _
      (ok_more r a b z _ _ _ _ x0 (ok_more r b c z _ _ _ _ x1 (ok_first r c e z _ _ _ x2 (ok_first r e f z _ _ _ x3 (ok_first r f g z _ _ _ x4
      (ok_first r g h z _ _ _ x5 o))))))
      (λ name. (λ i. (piece_at walk name value).ended no_tail (stand_of stand) (a.labels + 2)
      ++ (direction_for walk name stand m (ends name i) (out-Core node).place (is i) ++ rest name (after i) (is i) (paid i)))
      ∙ ap (λ (code : List Instruction). (piece_at walk name value).ended no_tail (stand_of stand) (a.labels + 2) ++ code)
      (append_assoc (moved name) _ (rest name (a.labels + 1) a.labels (number_for walk.setting.now m.payload)))
      ∙ ap (λ (o : Option Direction). (applied name o).ended (tail_of walk.setting.now name tail) (stand_of stand) a.labels) (sym found))
      (λ name. omega arith)
    where
      after : k ≡ a.labels + 1
      after = next ∙ ap (λ j. j + 1) is

      rest : Naming → ℕ → ℕ → ℕ → List Instruction
      rest name j i p =
          I.Goto j ∷ I.Label i ∷ I.Stop (MatchFailure (out-Core node).place) ∷ I.Label j
          ∷ answered p name (a.labels + 2 + (piece_at walk name value).labels 0)

      moved : Naming → List Instruction
      moved name =
          operand_moved (kit_for walk.setting.now name) stand.temp (only_end (piece_at walk name value).ends) m.takes

      applied : Naming → Option Direction → Piece
      applied name o =
          applied_piece (kit_for walk.setting.now name) (out-Core node).place (direction_in o) (cases_at (out-Core node).number 1 (nodes_in walk.setting.now))
          (gives_at (nodes_in walk.setting.now) (G.Node (out-Core node).number)) (piece_at walk name value)
