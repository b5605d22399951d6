-- Values that arms look at, bs they are put: matches, and what is caught.
use Rattle.std.proofs.Common.{◌≡◌, ℕ, ◌+◌, List, [], ◌∷◌, ◌++◌, subst}
use Rattle.std.specs.Prelude.{OnOk, Result}
use Rattle.model_state.specs.declared.cause.Cause.TheVariants.{MatchFailure}
use Rattle.sail_types.specs.declared.shapes.Shape.TheVariants as S
use Rattle.sail_core.specs.declared.patterns.Arm.{Arm}
use Rattle.sail_core.specs.declared.tree.Core.{Core, out-Core}
use Rattle.sail_core.specs.declared.tree.Giver.TheVariants as G
use Rattle.sail_core.specs.declared.tree.Kind.TheVariants as K
use Rattle.value_indices.specs.declared.indices.Indices.{Indices}
use Rattle.sized_meanings.specs.Present.{gives_at}
use Rattle.sized_nodes.specs.declared.trees.Case.{Case}
use Rattle.jib.specs.declared.code.Instruction.{Instruction}
use Rattle.jib.specs.declared.code.Instruction.TheVariants as I
use Rattle.lowered_pieces.specs.declared.coding.Coding.{Coding}
use Rattle.lowered_pieces.specs.Arms.{first_piece, in_hand, raised_piece, stop_here, throw_here}
use Rattle.lowered_pieces.specs.Chains.{many}
use Rattle.lowered_pieces.specs.Emitted.{Emits}
use Rattle.lowered_pieces.specs.Forms.{End, Piece, caught_at, ends_of, meet_piece, met_tail, seq_piece}
use Rattle.lowered_pieces.specs.Nodes.{cases_at}
use Rattle.lowered_pieces.specs.Places.{Naming}
use Rattle.lowered_pieces.proofs.Emitting.{emits_then}
use Rattle.lowered_steps.specs.declared.stands.Stand.{Stand as Standing}
use Rattle.lowered_steps.specs.declared.tails.Tail.{Tail}
use Rattle.lowered_steps.specs.Setting.{kit_for, nodes_in, number_for}
use Rattle.lowered_steps.specs.Stands.{stand_of}
use Rattle.lowered_steps.specs.Tails.{tail_of}
use Rattle.lowered_nodes.specs.declared.walk.Walk.{Walk}
use Rattle.lowered_nodes.specs.Walk.{Held, Puts, again_for, again_labels, inside_for, piece_at, pieces_for, try_for}
use Rattle.lowered_nodes.proofs.Joining.{ok_as, ok_more}
use Rattle.lowered_ends.proofs.Opened.{piece_with}
use Rattle.lowered_nodes.proofs.Pieces.{Plain, Takes, catch_put}

module _ {T E : Type 0} (r : Result T E) (walk : Walk) (stand : Standing) (tail : Tail) where
  -- the first arm that is taken of a value in hand, at a node
  module _ (name : Naming) (k : ℕ) where
    abbrev pub given_arms : ℕ → List Indices
    given_arms n = gives_at (nodes_in walk.setting.now) (G.Arm k n)

    abbrev pub first_with : Piece → List End → List Arm → List Core → Piece
    first_with none es arms bodies =
        first_piece walk.setting.now.types.now (kit_for walk.setting.now name) given_arms (in_hand es) arms (pieces_for walk name bodies) none

  -- ---- `match`

  module _ (node : Core) where
    abbrev stops : Naming → Piece
    stops name = stop_here walk.setting.now.types.now (kit_for walk.setting.now name) (MatchFailure (out-Core node).place)

    abbrev whole_match : Naming → Core → List Core → List End → List Arm → List Case → Piece
    whole_match name x ys es arms cases =
        meet_piece (kit_for walk.setting.now name) (number_for walk.setting.now) cases (gives_at (nodes_in walk.setting.now) (G.Node
        (out-Core node).number))
        (seq_piece (piece_at walk name x) (first_with name (out-Core node).number (stops name) es arms ys))

    pub match_put : (arms : List Arm) (x : Core) (ys : List Core) (es : List End) (bs : List Arm) (cs : List Case) → bs ≡ arms
        → cs ≡ cases_at (out-Core node).number 1 (nodes_in walk.setting.now) → ((name : Naming) → es ≡ (piece_at walk name x).ends)
        → (a b c d : Coding) → Held a b stand (λ name. piece_at walk name x)
        → Emits b c (λ name l. (first_with name (out-Core node).number (stops name) es bs ys).ended
        (met_tail (kit_for walk.setting.now name) (number_for walk.setting.now) cs (stand_of stand)) (stand_of stand) l)
        (λ name. (first_with name (out-Core node).number (stops name) es bs ys).labels (many 0 cs))
        → OnOk r (Emits c d (λ name l. again_for walk name stand tail (out-Core node).number l) (λ name. again_labels walk name tail (out-Core node).number))
        → OnOk r (Puts a d walk stand tail (λ name. piece_with walk.setting.now walk.around.now name (K.Match arms S.Unit) node (x ∷ ys)))
    match_put arms x ys es bs cs same few ends a b c d held first h =
        ok_as r a d _ _ _ _ (ok_more r a c d _ _ _ _ (emits_then a b c _ _ _ _ held first) h)
        (λ name i. met_code name (ends name i) (same i) (few i))
        (λ name i. met_labels name (ends name i) (same i) (few i))
      where
        body : Naming → List End → List Arm → Piece
        body name es bs = seq_piece (piece_at walk name x) (first_with name (out-Core node).number (stops name) es bs ys)

        met_code : (name : Naming) → List End → List Arm → List Case → List Instruction
        met_code name es bs cs =
            (body name es bs).ended (met_tail (kit_for walk.setting.now name) (number_for walk.setting.now) cs (stand_of stand)) (stand_of stand) a.labels
            ++ again_for walk name stand tail (out-Core node).number (a.labels + (body name es bs).labels (many 0 cs))

        met_labels : (name : Naming) → List End → List Arm → List Case → ℕ
        met_labels name es bs cs = (body name es bs).labels (many 0 cs) + again_labels walk name tail (out-Core node).number

  -- ---- `try`

  abbrev throws : Naming → List End → Piece
  throws name es = throw_here walk.setting.now.types.now (kit_for walk.setting.now name) (in_hand es)

  pub try_put : (k : ℕ) (arms : List Arm) (x : Core) (ys : List Core) (es : List End)
      → es ≡ ends_of (gives_at (nodes_in walk.setting.now) (G.Node k)) (cases_at k 0 (nodes_in walk.setting.now))
      → (a b c d e f z : Coding) (l m : ℕ) → l ≡ a.labels → m ≡ l + 1 → Takes a b 2
      → Emits b c (λ name n. (inside_for walk name x).ended (tail_of walk.setting.now name tail) (caught_at l (stand_of stand)) n)
      (λ name. (inside_for walk name x).labels (tail_of walk.setting.now name tail).labels)
      → Plain c d (λ name. I.Goto m ∷ I.Label l ∷ [])
      → Held d e stand (λ name. raised_piece walk.setting.now.types.now (kit_for walk.setting.now name) (cases_at k 0 (nodes_in walk.setting.now))
      (gives_at (nodes_in walk.setting.now) (G.Node k)))
      → Emits e f (λ name n. (first_with name k (throws name es) es arms ys).ended (tail_of walk.setting.now name tail) (stand_of stand) n)
      (λ name. (first_with name k (throws name es) es arms ys).labels (tail_of walk.setting.now name tail).labels)
      → OnOk r (Plain f z (λ name. I.Label m ∷ [])) → OnOk r (Puts a z walk stand tail (λ name. try_for walk name k arms x ys))
  try_put k arms x ys es ends a b c d e f z l m is next x0 x1 x2 x3 x4 h =
      catch_put r (λ name. kit_for walk.setting.now name) (stand_of stand) (λ name. tail_of walk.setting.now name tail) walk.setting.now.types.now
      (λ name. inside_for walk name x) caught
      a b c d f z l m is next x0 x1 x2
      (subst (λ (us : List End). Emits d f (λ name n. (caught_by name us).ended (tail_of walk.setting.now name tail) (stand_of stand) n)
      (λ name. (caught_by name us).labels (tail_of walk.setting.now name tail).labels)) ends (emits_then d e f _ _ _ _ x3 x4)) h
    where
      caught_by : Naming → List End → Piece
      caught_by name us =
          seq_piece (raised_piece walk.setting.now.types.now (kit_for walk.setting.now name) (cases_at k 0 (nodes_in walk.setting.now))
          (gives_at (nodes_in walk.setting.now) (G.Node k))) (first_with name k (throws name us) us arms ys)

      caught : Naming → Piece
      caught name = caught_by name (ends_of (gives_at (nodes_in walk.setting.now) (G.Node k)) (cases_at k 0 (nodes_in walk.setting.now)))

  -- ways of a `try` meet at its node
  module _ (node : Core) where
    pub caught_put : (arms : List Arm) (x : Core) (ys : List Core) (bs : List Arm) (cs : List Case) → bs ≡ arms
        → cs ≡ cases_at (out-Core node).number 1 (nodes_in walk.setting.now) → (a b c : Coding)
        → Emits a b (λ name l. (try_for walk name (out-Core node).number bs x ys).ended
        (met_tail (kit_for walk.setting.now name) (number_for walk.setting.now) cs (stand_of stand)) (stand_of stand) l)
        (λ name. (try_for walk name (out-Core node).number bs x ys).labels (many 0 cs))
        → OnOk r (Emits b c (λ name l. again_for walk name stand tail (out-Core node).number l) (λ name. again_labels walk name tail (out-Core node).number))
        → OnOk r (Puts a c walk stand tail (λ name. piece_with walk.setting.now walk.around.now name (K.Try arms S.Unit) node (x ∷ ys)))
    caught_put arms x ys bs cs same few a b c first h =
        ok_as r a c _ _ _ _ (ok_more r a b c _ _ _ _ first h) (λ name i. met_code name (same i) (few i)) (λ name i. met_labels name (same i) (few i))
      where
        met_code : (name : Naming) → List Arm → List Case → List Instruction
        met_code name bs cs =
            (try_for walk name (out-Core node).number bs x ys).ended
            (met_tail (kit_for walk.setting.now name) (number_for walk.setting.now) cs (stand_of stand)) (stand_of stand) a.labels
            ++ again_for walk name stand tail (out-Core node).number (a.labels + (try_for walk name (out-Core node).number bs x ys).labels (many 0 cs))

        met_labels : (name : Naming) → List Arm → List Case → ℕ
        met_labels name bs cs = (try_for walk name (out-Core node).number bs x ys).labels (many 0 cs) + again_labels walk name tail (out-Core node).number
