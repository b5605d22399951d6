-- Arms: what they look at, and then their bodies.
use Rattle.std.proofs.Common.{◌≡◌, ℕ, ◌+◌, List, [], ◌∷◌, ◌++◌, refl, ap}
use Rattle.std.specs.Prelude.{OnOk, Result}
use Rattle.std.proofs.lemmas.Result.{on_ok_weaker}
use Rattle.sail_types.specs.declared.table.Types.{Types}
use Rattle.model_state.specs.declared.cause.Cause.{Cause}
use Rattle.sail_core.specs.declared.patterns.Arm.{Arm}
use Rattle.value_indices.specs.declared.indices.Indices.{Indices}
use Rattle.jib.specs.declared.code.Instruction.TheVariants as I
use Rattle.lowered_pieces.specs.declared.coding.Coding.{Coding}
use Rattle.lowered_pieces.specs.Emitted.{Emits}
use Rattle.lowered_pieces.specs.Places.{Kit, Naming}
use Rattle.lowered_pieces.specs.Arms.{Hand, Matched, arm_piece, arm_stand, choice_labels, else_piece, hand_of, in_hand, let_piece, looks_code, moved}
use Rattle.lowered_pieces.specs.Arms.{steps_in, stop_here}
use Rattle.lowered_pieces.specs.Forms.{End, Piece, Stand, Tail, seq_piece}
use Rattle.lowered_pieces.proofs.Emitting.{emits_as, emits_then}
use Rattle.lowered_nodes.proofs.Joining.{ok_as}
use Rattle.lowered_nodes.proofs.Pieces.{Ended, Plain, Stays, Takes, else_put, seq_put}

module _ (types : Types) (kit : Naming → Kit) (t : Naming → Tail) where
  abbrev pub Looks : Coding → Coding → Stand → List Indices → Matched → Arm → Type 0
  Looks a b s gives m arm =
      Emits a b (λ name x. looks_code types (kit name) gives m (steps_in arm) s x) (λ name. choice_labels m)

  -- the body stands behind what the arm has in hand
  abbrev pub Body : Coding → Coding → Stand → Hand → (Naming → Piece) → Type 0
  Body a b s h p =
      Emits a b (λ name x. (p name).ended (moved types (kit name) h.free s (t name)) (arm_stand types (kit name) h s) x)
      (λ name. (p name).labels (t name).labels)

  abbrev pub Armed : Coding → Coding → Stand → List Indices → Matched → Arm → (Naming → Piece) → Type 0
  Armed a b s gives m arm p =
      Emits a b (λ name x. (arm_piece types (kit name) gives m arm (p name)).ended (t name) s x)
      (λ name. (arm_piece types (kit name) gives m arm (p name)).labels (t name).labels)

  pub arm_emits : (s : Stand) (gives : List Indices) (m : Matched) (arm : Arm) (p : Naming → Piece) (h : Hand)
      → ((name : Naming) → h ≡ hand_of types (kit name) m (steps_in arm) s) → (a b c : Coding) → Looks a b s gives m arm → Body b c s h p
      → Armed a c s gives m arm p
  arm_emits s gives m arm p h same a b c x y =
      emits_as a c _ _ _ _
      (λ name. ap (λ k. looks_code types (kit name) gives m (steps_in arm) s a.labels
      ++ (p name).ended (moved types (kit name) k.free s (t name)) (arm_stand types (kit name) k s) (a.labels + choice_labels m)) (same name))
      (λ name. refl) (emits_then a b c _ _ _ _ x y)

  -- No goes on at a label
  abbrev pub failed : ℕ → Stand → Stand
  failed l s = record s { on_no = l }

  module _ {T E : Type 0} (r : Result T E) where
    pub arm_put : (s : Stand) (gives : List Indices) (m : Matched) (arm : Arm) (p : Naming → Piece) (h : Hand)
        → ((name : Naming) → h ≡ hand_of types (kit name) m (steps_in arm) s) → (a b c : Coding) → Looks a b s gives m arm
        → OnOk r (Body b c s h p) → OnOk r (Armed a c s gives m arm p)
    arm_put s gives m arm p h same a b c x o = on_ok_weaker r (λ (y : Body b c s h p). arm_emits s gives m arm p h same a b c x y) o

    -- a value in hand, matched by one arm; the run stops where it isn't so
    pub let_put : (s : Stand) (gives : List Indices) (es : List End) (arm : Arm) (cause : Cause) (p q : Naming → Piece) (l m : ℕ)
        → ((name : Naming) → es ≡ (p name).ends)
        → (a b c d e f z : Coding) → l ≡ b.labels → m ≡ l + 1 → Stays a b s p → Takes b c 2 → Armed c d (failed l s) gives (in_hand es) arm q
        → Plain d e (λ name. I.Goto m ∷ I.Label l ∷ []) → Plain e f (λ name. I.Stop cause ∷ []) → OnOk r (Plain f z (λ name. I.Label m ∷ []))
        → OnOk r (Ended r kit s t a z (λ name. let_piece types (kit name) gives (p name) arm (q name) cause))
    let_put s gives es arm cause p q l m ends a b c d e f z is next x0 x1 x2 x3 x4 o =
        ok_as r a z _ _ _ _
        (seq_put r kit s t p others a b z x0
        (else_put r kit s t types (λ name. arm_piece types (kit name) gives (in_hand es) arm (q name)) (λ name. stop_here types
        (kit name) cause) b c d e f z l m is
        next x1 x2 x3 x4 o)) (λ name. ap (λ us. (let_of us name).ended (t name) s a.labels) (ends name))
        (λ name. ap (λ us. (let_of us name).labels (t name).labels) (ends name))
      where
        others : Naming → Piece
        others name = else_piece types (kit name) (arm_piece types (kit name) gives (in_hand es) arm (q name)) (stop_here types (kit name) cause)

        let_of : List End → Naming → Piece
        let_of us name = seq_piece (p name) (else_piece types (kit name) (arm_piece types (kit name) gives (in_hand us) arm (q name)) (stop_here types
            (kit name) cause))
