-- Assignments: the last of the parts is the new value.
use Rattle.std.proofs.Common.{◌≡◌, ◌∙◌, ℕ, true, List, [], ◌∷◌, ◌++◌, length, map, refl, sym, ap}
use Rattle.std.proofs.lemmas.Bool.{and_from, and_parts}
use Rattle.sail_base.specs.declared.place.Place.{Place as TextPlace}
use Rattle.sail_core.specs.declared.tree.Core.{Core}
use Rattle.lowered_pieces.specs.Forms.{Piece, nothing_piece}
use Rattle.lowered_pieces.specs.Lowering.{Node}
use Rattle.lowered_pieces.specs.Places.{Naming}
use Rattle.lowered_pieces.specs.Writes.{Cell, Spot, Writing, before, called, cell_writing, final, given_piece, one, several, several_writing, spot_piece}
use Rattle.lowered_steps.specs.Setting.{kit_for, number_for, tables_for}
use Rattle.lowered_steps.specs.declared.cells.Cell.{Cell as Found}
use Rattle.lowered_steps.specs.Cells.{aim_of}
use Rattle.lowered_ends.specs.Around.{callees_of, node_for}
use Rattle.lowered_nodes.specs.declared.walk.Walk.{Walk}
use Rattle.lowered_nodes.specs.Walk.{all_lowered_for, assigned_ok, called_with, node_ok, one_for, piece_at, pieces_for, several_for, written_for}
use Rattle.lowered_nodes.proofs.Counting.{many_pieces}
use Rattle.lowered_nodes.proofs.Lasts.{before_last, final_last, map_last}

module _ (walk : Walk) (name : Naming) where
  -- what is put for a spot, by the pieces of all parts
  abbrev pub spot_at : Spot → List Piece → Piece
  spot_at spot ps =
      spot_piece walk.setting.now.types.now (kit_for walk.setting.now name) (number_for walk.setting.now) (callees_of walk.setting.now walk.around.now)
      (tables_for walk.setting.now walk.around.now.instances.now) spot ps

  pub pieces_last : (cs : List Core) (v : Core) → pieces_for walk name (cs ++ v ∷ []) ≡ pieces_for walk name cs ++ piece_at walk name v ∷ []
  pieces_last cs v =
      ap (λ (ns : List Node). map (λ n. n.piece) ns) (map_last (node_for walk.setting.now walk.around.now name) cs v)
      ∙ map_last (λ (n : Node). n.piece) (map (node_for walk.setting.now walk.around.now name) cs) (node_for walk.setting.now walk.around.now name v)

  -- the arguments or indexes, and the new value
  pub before_is : (cs : List Core) (v : Core) → before (pieces_for walk name (cs ++ v ∷ [])) ≡ pieces_for walk name cs
  before_is cs v = ap (λ (ps : List Piece). before ps) (pieces_last cs v) ∙ before_last (pieces_for walk name cs) (piece_at walk name v)

  pub final_is : (cs : List Core) (v : Core) → final nothing_piece (pieces_for walk name (cs ++ v ∷ [])) ≡ piece_at walk name v
  final_is cs v =
      ap (λ (ps : List Piece). final nothing_piece ps) (pieces_last cs v) ∙ final_last nothing_piece (pieces_for walk name cs) (piece_at walk name v)

  pub written_is : (k : ℕ) (place : TextPlace) (n j f m : ℕ) (ps cs : List Core) (v : Core) → ps ≡ cs ++ v ∷ [] → m ≡ length ps
      → written_for walk name k (record { place = place; node = j; count = m }) cs v ≡ spot_at (called k place n j f) (pieces_for walk name ps)
  written_is k place n j f m ps cs v is count =
      ap (λ i. written_for walk name k (record { place = place; node = j; count = i }) cs v) (count ∙ many_pieces walk name ps ∙ same)
      ∙ (λ i. called_by (length (pieces_for walk name (cs ++ v ∷ []))) (sym (before_is cs v) i) (sym (final_is cs v) i))
      ∙ ap (λ (ds : List Core). spot_at (called k place n j f) (pieces_for walk name ds)) (sym is)
    where
      same : length (pieces_for walk name ps) ≡ length (pieces_for walk name (cs ++ v ∷ []))
      same = ap (λ (ds : List Core). length (pieces_for walk name ds)) is

      called_by : ℕ → List Piece → Piece → Piece
      called_by i qs p = called_with walk name k (record { place = place; node = j; count = i }) qs p

  -- registers and variables, and parts of them
  abbrev given_with : Writing → List Piece → Piece → Piece
  given_with w ps p = given_piece (kit_for walk.setting.now name) w ps p

  pub one_is : (cell : Found) (ps cs : List Core) (v : Core) → ps ≡ cs ++ v ∷ []
      → one_for walk name cell cs v ≡ spot_at (one (aim_of cell)) (pieces_for walk name ps)
  one_is cell ps cs v is =
      (λ i. given_with (cell_writing walk.setting.now.types.now (kit_for walk.setting.now name)
      (tables_for walk.setting.now walk.around.now.instances.now) (aim_of cell)) (sym (before_is cs v) i) (sym (final_is cs v) i))
      ∙ ap (λ (ds : List Core). spot_at (one (aim_of cell)) (pieces_for walk name ds)) (sym is)

  pub several_is : (cells : List Cell) (ps cs : List Core) (v : Core) → ps ≡ cs ++ v ∷ []
      → several_for walk name cells cs v ≡ spot_at (several cells) (pieces_for walk name ps)
  several_is cells ps cs v is =
      (λ i. given_with (several_writing walk.setting.now.types.now (kit_for walk.setting.now name)
      (tables_for walk.setting.now walk.around.now.instances.now) cells) (sym (before_is cs v) i) (sym (final_is cs v) i))
      ∙ ap (λ (ds : List Core). spot_at (several cells) (pieces_for walk name ds)) (sym is)

  -- all of them are lowered
  pub last_lowered : (cs : List Core) (v : Core) → all_lowered_for walk name (cs ++ v ∷ []) ≡ true → assigned_ok walk name cs v ≡ true
  last_lowered [] v h = and_from true (node_ok walk name v) refl (and_parts (node_ok walk name v) true h).0
  last_lowered (c ∷ cs) v h =
      let one = and_parts (node_ok walk name c) (all_lowered_for walk name (cs ++ v ∷ [])) h in
      let two = and_parts (all_lowered_for walk name cs) (node_ok walk name v) (last_lowered cs v one.1) in
      and_from (all_lowered_for walk name (c ∷ cs)) (node_ok walk name v) (and_from (node_ok walk name c) (all_lowered_for walk name cs) one.0 two.0) two.1
