-- The code of top-level lets: of the value, and of each name that the pattern binds (Sail language manual, "Let-bindings").
use Rattle.std.specs.Prelude.{ℕ, List, [], ◌∷◌}
use Rattle.sail_base.specs.declared.place.Place.{Place as TextPlace}
use Rattle.sail_types.specs.declared.table.Types.{Types}
use Rattle.model_state.specs.declared.cause.Cause.TheVariants.{MatchFailure}
use Rattle.value_indices.specs.declared.indices.Indices.{Indices}
use Rattle.size_values.specs.declared.sized.Sized.{Sized}
use Rattle.sail_core.specs.declared.patterns.Arm.{Arm}
use Rattle.jib.specs.declared.code.Source.{Source}
use Rattle.jib.specs.declared.code.Source.TheVariants as R
use Rattle.jib.specs.declared.code.Instruction.TheVariants as I
use Rattle.lowered_pieces.specs.Places.{Kit, Temp, from, to}
use Rattle.lowered_pieces.specs.Forms.{Piece, one_end, place_of}
use Rattle.lowered_pieces.specs.Arms.{let_piece}

module _ (types : Types) (kit : Kit) where
  -- a source of this type
  abbrev pub source_piece : Source → Sized → Piece
  source_piece a t = record {
    labels = λ q. q;
    ended = λ tail s l. I.Copy (to kit (Temp s.temp) (kit.number t)) a ∷ tail.code t l;
    notes = [];
    ends = one_end t;
  }

  -- a name in scope, which holds a value of this type
  abbrev pub name_piece : List ℕ → Sized → Piece
  name_piece name t = record {
    labels = λ q. q;
    ended = λ tail s l. I.Copy (to kit (Temp s.temp) (kit.number t)) (from kit (place_of s.scope name) (kit.number t)) ∷ tail.code t l;
    notes = [];
    ends = one_end t;
  }

  -- a name of the let whose value, of the first type, the k-th opening gives: it holds a value of the second
  abbrev pub named_piece : List Indices → TextPlace → ℕ → Sized → Arm → List ℕ → Sized → Piece
  named_piece gives place k t arm name u = let_piece types kit gives (source_piece (R.Let k) t) arm (name_piece name u) (MatchFailure place)
