-- What parts of values note: of the value, and of each suffix with its indexes.
use Rattle.std.proofs.Common.{◌≡◌, ◌∙◌, ℕ, true, false, List, [], ◌∷◌, ◌++◌, length, map, refl, sym, ap, append-nil, append_assoc}
use Rattle.std.proofs.lemmas.Bool.{false≢true}
use Rattle.sail_core.specs.declared.targets.Suffix.{Suffix}
use Rattle.sail_core.specs.declared.targets.Way.{Way}
use Rattle.sail_core.specs.declared.targets.Way.TheVariants as Y
use Rattle.sail_core.specs.declared.tree.Core.{Core}
use Rattle.sail_core.specs.declared.tree.Giver.TheVariants as G
use Rattle.sail_core.specs.declared.tree.Kind.TheVariants as K
use Rattle.sized_meanings.specs.Present.{gives_at}
use Rattle.lowered_pieces.specs.Forms.{Piece, all_notes}
use Rattle.lowered_pieces.specs.Lowering.{pieces_of}
use Rattle.lowered_pieces.specs.Paths.{path_piece, way_piece}
use Rattle.lowered_pieces.specs.Places.{Naming}
use Rattle.lowered_steps.specs.declared.setting.Setting.{Setting}
use Rattle.lowered_steps.specs.Setting.{kit_for, nodes_in, number_for, tables_for}
use Rattle.lowered_ends.specs.declared.around.Around.{Around}
use Rattle.lowered_ends.specs.Able.{suffixes_fit, way_fits}
use Rattle.lowered_ends.specs.Around.{node_for}
use Rattle.lowered_ends.specs.Noted.{node_notes, suffix_notes, way_notes}
use Rattle.lowered_ends.proofs.Opened.{piece_with}

module _ (setting : Setting) (around : Around) (name : Naming) where
  abbrev pub path_of : List Suffix → List Core → Piece → Piece
  path_of ss cs p =
      path_piece (kit_for setting name) (number_for setting) (tables_for setting around.instances.now) ss (pieces_of (map (node_for setting around name) cs)) p

  abbrev way_of : Way → ℕ → List Core → Piece → List Suffix → Piece
  way_of way k cs p ss =
      way_piece (kit_for setting name) (number_for setting)
      (tables_for setting around.instances.now) way k (pieces_of (map (node_for setting around name) cs)) p
      (path_piece (kit_for setting name) (number_for setting) (tables_for setting around.instances.now) ss)

  abbrev own : ℕ → List ℕ
  own k = all_notes (gives_at (nodes_in setting) (G.Node k))

  abbrev notes_at : Core → List ℕ
  notes_at c = node_notes setting around name c

  abbrev behind : List Suffix → List Core → List ℕ
  behind ss cs = suffix_notes setting around name ss cs

  -- what a suffix notes stands before what the others do
  from_way : (way : Way) (k : ℕ) (ss : List Suffix)
      → ((cs : List Core) (p : Piece) → suffixes_fit ss (length cs) ≡ true → (path_of ss cs p).notes ≡ p.notes ++ behind ss cs)
      → (cs : List Core) (p : Piece) → way_fits way (length cs) (suffixes_fit ss) ≡ true
      → (way_of way k cs p ss).notes ≡ p.notes ++ way_notes setting around name way k cs (suffix_notes setting around name ss)
  from_way (Y.Field struct i) k ss more cs p fits =
      more cs _ fits
      ∙ ap (λ (ns : List ℕ). (ns ++ own k) ++ behind ss cs) (append-nil p.notes)
      ∙ append_assoc p.notes (own k) (behind ss cs)
  from_way Y.Item k ss more [] p fits = absurd (false≢true fits)
  from_way Y.Item k ss more (c ∷ cs) p fits =
      more cs _ fits
      ∙ ap (λ (ns : List ℕ). ((p.notes ++ ns) ++ own k) ++ behind ss cs) (append-nil (notes_at c))
      ∙ append_assoc (p.notes ++ notes_at c) (own k) (behind ss cs)
      ∙ append_assoc p.notes (notes_at c) (own k ++ behind ss cs)
  from_way Y.Slice k ss more [] p fits = absurd (false≢true fits)
  from_way Y.Slice k ss more (c ∷ []) p fits = absurd (false≢true fits)
  from_way Y.Slice k ss more (c ∷ d ∷ cs) p fits =
      more cs _ fits
      ∙ ap (λ (ns : List ℕ). ((p.notes ++ (notes_at c ++ ns)) ++ own k) ++ behind ss cs) (append-nil (notes_at d))
      ∙ append_assoc (p.notes ++ (notes_at c ++ notes_at d)) (own k) (behind ss cs)
      ∙ append_assoc p.notes (notes_at c ++ notes_at d) (own k ++ behind ss cs)
      ∙ ap (λ (ns : List ℕ). p.notes ++ ns) (append_assoc (notes_at c) (notes_at d) (own k ++ behind ss cs))

  pub path_notes : (ss : List Suffix) (cs : List Core) (p : Piece) → suffixes_fit ss (length cs) ≡ true → (path_of ss cs p).notes ≡ p.notes ++ behind ss cs
  path_notes [] [] p fits = sym (append-nil p.notes)
  path_notes [] (c ∷ cs) p fits = absurd (false≢true fits)
  path_notes (s ∷ ss) cs p fits = from_way s.way s.number ss (path_notes ss) cs p fits

  -- suffixes that haven't just their indexes note nothing
  none_way : (way : Way) (k : ℕ) (ss : List Suffix)
      → ((cs : List Core) (p : Piece) → suffixes_fit ss (length cs) ≡ false → [] ≡ (path_of ss cs p).notes)
      → (cs : List Core) (p : Piece) → way_fits way (length cs) (suffixes_fit ss) ≡ false → [] ≡ (way_of way k cs p ss).notes
  none_way (Y.Field struct i) k ss more cs p other = more cs _ other
  none_way Y.Item k ss more [] p other = refl
  none_way Y.Item k ss more (c ∷ cs) p other = more cs _ other
  none_way Y.Slice k ss more [] p other = refl
  none_way Y.Slice k ss more (c ∷ []) p other = refl
  none_way Y.Slice k ss more (c ∷ d ∷ cs) p other = more cs _ other

  pub path_none : (ss : List Suffix) (cs : List Core) (p : Piece) → suffixes_fit ss (length cs) ≡ false → [] ≡ (path_of ss cs p).notes
  path_none [] [] p other = absurd (false≢true (sym other))
  path_none [] (c ∷ cs) p other = refl
  path_none (s ∷ ss) cs p other = none_way s.way s.number ss (path_none ss) cs p other

  module _ (node : Core) where
    pub part_notes : (ss : List Suffix) (c : Core) (cs : List Core) → suffixes_fit ss (length cs) ≡ true
        → notes_at c ++ behind ss cs ≡ (piece_with setting around name (K.Part ss) node (c ∷ cs)).notes
    part_notes ss c cs fits = sym (path_notes ss cs (node_for setting around name c).piece fits)

    pub part_none : (ss : List Suffix) (c : Core) (cs : List Core) → suffixes_fit ss (length cs) ≡ false
        → [] ≡ (piece_with setting around name (K.Part ss) node (c ∷ cs)).notes
    part_none ss c cs other = path_none ss cs (node_for setting around name c).piece other
