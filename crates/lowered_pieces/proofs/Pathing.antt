-- What is said of a part goes by the count of its indexes.
use Rattle.std.proofs.Common.{◌≡◌, ℕ, List, [], ◌∷◌, length, refl}
use Rattle.size_values.specs.declared.sized.Sized.{Sized}
use Rattle.sail_core.specs.declared.targets.Suffix.{Suffix}
use Rattle.sail_core.specs.declared.targets.Way.{Way}
use Rattle.sail_core.specs.declared.targets.Way.TheVariants as Y
use Rattle.jib.specs.declared.code.Operation.TheVariants as O
use Rattle.lowered_pieces.specs.Forms.{Piece, in_order, work_piece}
use Rattle.lowered_pieces.specs.Paths.{path_ends, path_piece, way_ends, way_piece}
use Rattle.lowered_pieces.specs.Places.{Kit}
use Rattle.lowered_pieces.specs.Tables.{Tables}

module _ (kit : Kit) (number : Sized → ℕ) (tables : Tables) where
  abbrev Said : List Suffix → Type 0
  Said ss = (ps : List Piece) (p : Piece) → (path_piece kit number tables ss ps p).ends ≡ path_ends tables ss (length ps) p.ends

  way_said : (w : Way) (k : ℕ) (ss : List Suffix) → Said ss → (ps : List Piece) (p : Piece)
      → (way_piece kit number tables w k ps p (path_piece kit number tables ss)).ends ≡ way_ends tables w k (length ps) (path_ends tables ss)
  way_said (Y.Field struct i) k ss next ps p = next ps (work_piece kit number (O.Field i) in_order (tables.cases k 1) (tables.gives k) (p ∷ []))
  way_said Y.Item k ss next [] p = refl
  way_said Y.Item k ss next (a ∷ ps) p = next ps (work_piece kit number O.Item in_order (tables.cases k 2) (tables.gives k) (p ∷ a ∷ []))
  way_said Y.Slice k ss next [] p = refl
  way_said Y.Slice k ss next (a ∷ []) p = refl
  way_said Y.Slice k ss next (a ∷ b ∷ ps) p = next ps (work_piece kit number O.Slice in_order (tables.cases k 3) (tables.gives k) (p ∷ a ∷ b ∷ []))

  pub path_said : (ss : List Suffix) → Said ss
  path_said [] [] p = refl
  path_said [] (a ∷ ps) p = refl
  path_said (s ∷ ss) ps p = way_said s.way s.number ss (path_said ss) ps p
