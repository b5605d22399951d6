-- The code of parts: `e.f[i][h .. l]` (Sail language manual, "Structs", "Vectors").
use Rattle.std.specs.Prelude.{ℕ, zero, suc, List, [], ◌∷◌}
use Rattle.size_values.specs.declared.sized.Sized.{Sized}
use Rattle.sail_core.specs.declared.targets.Way.{Way}
use Rattle.sail_core.specs.declared.targets.Way.TheVariants as Y
use Rattle.sail_core.specs.declared.targets.Suffix.{Suffix}
use Rattle.jib.specs.declared.code.Operation.TheVariants as O
use Rattle.lowered_pieces.specs.Places.{Kit}
use Rattle.lowered_pieces.specs.Tables.{Tables}
use Rattle.lowered_pieces.specs.Forms.{End, Piece, ends_of, in_order, nothing_piece, work_piece}

module _ (kit : Kit) (number : Sized → ℕ) (tables : Tables) where
  -- a suffix with its indexes, and then the suffixes behind it
  abbrev pub way_piece : Way → ℕ → List Piece → Piece → (List Piece → Piece → Piece) → Piece
  way_piece (Y.Field struct i) k ps p more = more ps (work_piece kit number (O.Field i) in_order (tables.cases k 1) (tables.gives k) (p ∷ []))
  way_piece Y.Item k (a ∷ ps) p more = more ps (work_piece kit number O.Item in_order (tables.cases k 2) (tables.gives k) (p ∷ a ∷ []))
  way_piece Y.Slice k (a ∷ b ∷ ps) p more = more ps (work_piece kit number O.Slice in_order (tables.cases k 3) (tables.gives k) (p ∷ a ∷ b ∷ []))
  way_piece way k ps p more = nothing_piece

  abbrev pub path_piece : List Suffix → List Piece → Piece → Piece
  path_piece [] [] p = p
  path_piece [] (a ∷ ps) p = nothing_piece
  path_piece (s ∷ ss) ps p = way_piece s.way s.number ps p (path_piece ss)

-- the types that are said of a part, by the count of the indexes and by those that are said of the whole
module _ (tables : Tables) where
  abbrev pub way_ends : Way → ℕ → ℕ → (ℕ → List End → List End) → List End
  way_ends (Y.Field struct i) k n more = more n (ends_of (tables.gives k) (tables.cases k 1))
  way_ends Y.Item k (suc n) more = more n (ends_of (tables.gives k) (tables.cases k 2))
  way_ends Y.Slice k (suc (suc n)) more = more n (ends_of (tables.gives k) (tables.cases k 3))
  way_ends way k n more = []

  abbrev pub path_ends : List Suffix → ℕ → List End → List End
  path_ends [] zero es = es
  path_ends [] (suc n) es = []
  path_ends (s ∷ ss) n es = way_ends s.way s.number n (path_ends ss)
