-- What assignments note: of the indexes or arguments, of the new value, and at the target's nodes.
use Rattle.std.proofs.Common.{◌≡◌, ◌∙◌, ◌≤◌, ◌<◌, ℕ, List, [], ◌∷◌, ◌++◌, length, map, refl, sym, ap, arith, append-nil, append_assoc}
use Rattle.std.specs.Prelude.{None, Option, Some}
use Rattle.sail_core.specs.declared.targets.Suffix.{Suffix}
use Rattle.sail_core.specs.declared.targets.Target.{Target}
use Rattle.sail_core.specs.declared.tree.Core.{Core}
use Rattle.sail_core.specs.declared.tree.Giver.TheVariants as G
use Rattle.sail_core.specs.declared.tree.Kind.TheVariants as K
use Rattle.sized_meanings.specs.Present.{gives_at}
use Rattle.lowered_pieces.specs.Forms.{Piece, all_notes, notes_in, nothing_piece}
use Rattle.lowered_pieces.specs.Lowering.{pieces_of}
use Rattle.lowered_pieces.specs.Places.{Naming}
use Rattle.lowered_pieces.specs.Writes.{Cell, Spot, assign_piece, before, cell_notes, final, new_piece, several_notes, target_spot, typed_notes}
use Rattle.lowered_steps.specs.declared.cells.Cell.{Cell as Found}
use Rattle.lowered_steps.specs.declared.setting.Setting.{Setting}
use Rattle.lowered_steps.specs.Cells.{aim_of, and_cell, cells_of, only_cell}
use Rattle.lowered_steps.specs.Setting.{kit_for, nodes_in, number_for, tables_for}
use Rattle.lowered_ends.specs.declared.around.Around.{Around}
use Rattle.lowered_ends.specs.declared.targets.Spot.{Spot as SpotFound}
use Rattle.lowered_ends.specs.declared.targets.Spot.TheVariants as P
use Rattle.lowered_ends.specs.Around.{callees_of, node_for}
use Rattle.lowered_ends.specs.Noted.{all_noted, assigned_notes, cell_listed, cells_listed, typed_listed}
use Rattle.lowered_ends.specs.Targets.{spot_in}
use Rattle.lowered_ends.proofs.Lists.{none_of}
use Rattle.lowered_ends.proofs.Notes.{notes_same}
use Rattle.lowered_ends.proofs.Opened.{piece_with}

module _ (setting : Setting) (around : Around) (name : Naming) where
  abbrev noted_in : List Piece → List ℕ
  noted_in ps = notes_in (kit_for setting name) (number_for setting) ps

  abbrev own : ℕ → List ℕ
  own k = all_notes (gives_at (nodes_in setting) (G.Node k))

  abbrev pieces : List Core → List Piece
  pieces cs = pieces_of (map (node_for setting around name) cs)

  -- the last of the parts is the new value
  final_notes : (ps : List Piece) → noted_in (before ps) ++ (final nothing_piece ps).notes ≡ noted_in ps
  final_notes [] = refl
  final_notes (p ∷ []) = sym (append-nil p.notes)
  final_notes (p ∷ q ∷ ps) =
      append_assoc p.notes (noted_in (before (q ∷ ps))) (final nothing_piece (q ∷ ps)).notes ∙ ap (λ ns. p.notes ++ ns) (final_notes (q ∷ ps))

  notes_last : (ps : List Piece) (q : Piece) → noted_in (ps ++ q ∷ []) ≡ noted_in ps ++ q.notes
  notes_last [] q = append-nil q.notes
  notes_last (p ∷ ps) q = ap (λ ns. p.notes ++ ns) (notes_last ps q) ∙ sym (append_assoc p.notes (noted_in ps) q.notes)

  -- and what is written is noted behind it
  abbrev with_parts : List Core → List ℕ → List ℕ
  with_parts cs xs = noted_in (before (pieces cs)) ++ ((final nothing_piece (pieces cs)).notes ++ xs)

  behind : (cs : List Core) (xs : List ℕ) → all_noted setting around name cs ++ xs ≡ with_parts cs xs
  behind cs xs =
      ap (λ ns. ns ++ xs) (notes_same setting around name cs ∙ sym (final_notes (pieces cs)))
      ∙ append_assoc (noted_in (before (pieces cs))) (final nothing_piece (pieces cs)).notes xs

  -- and notes at a node of its own
  parted : (cs : List Core) (xs ys : List ℕ) → all_noted setting around name cs ++ (xs ++ ys)
      ≡ noted_in (before (pieces cs)) ++ (((final nothing_piece (pieces cs)).notes ++ xs) ++ ys)
  parted cs xs ys =
      ap (λ ns. ns ++ (xs ++ ys)) (notes_same setting around name cs ∙ sym (final_notes (pieces cs)))
      ∙ append_assoc (noted_in (before (pieces cs))) (final nothing_piece (pieces cs)).notes (xs ++ ys)
      ∙ ap (λ ns. noted_in (before (pieces cs)) ++ ns) (sym (append_assoc (final nothing_piece (pieces cs)).notes xs ys))

  typed_same : (ss : List Suffix) (c : Cell) → typed_listed setting ss c
      ≡ typed_notes setting.types.now (kit_for setting name) (tables_for setting around.instances.now) ss c
  typed_same [] c = refl
  typed_same (s ∷ ss) c = refl

  cell_same : (c : Cell) → cell_listed setting c ≡ cell_notes setting.types.now (kit_for setting name) (tables_for setting around.instances.now) c
  cell_same c = ap (λ ns. own c.number ++ ns) (typed_same c.suffixes c)

  cells_same : (cs : List Cell) → cells_listed setting cs
      ≡ several_notes setting.types.now (kit_for setting name) (tables_for setting around.instances.now) cs
  cells_same [] = refl
  cells_same (c ∷ cs) = λ i. cell_same c i ++ cells_same cs i

  abbrev assigned : Option Spot → List Core → List ℕ
  assigned spot cs =
      (assign_piece setting.types.now (kit_for setting name) (number_for setting) (callees_of setting around)
      (tables_for setting around.instances.now) spot (pieces cs)).notes

  abbrev new_value : ℕ → List Core → Piece
  new_value k cs =
      new_piece setting.types.now (kit_for setting name) (number_for setting) (callees_of setting around) (tables_for setting around.instances.now) k
      (final nothing_piece (pieces cs))

  assigned_same : (spot : SpotFound) (cs : List Core) → assigned_notes setting around name spot cs ≡ assigned (spot_in spot) cs
  assigned_same P.Other cs = refl
  assigned_same (P.One c) cs = behind cs (cell_listed setting (aim_of c)) ∙ ap (λ ns. with_parts cs ns) (cell_same (aim_of c))
  assigned_same (P.Several targets) cs =
      behind cs (cells_listed setting (cells_of targets.now)) ∙ ap (λ ns. with_parts cs ns) (cells_same (cells_of targets.now))
  assigned_same (P.Called k place n j f) cs =
      parted cs (own k) (own j)
      ∙ sym (append_assoc (noted_in (before (pieces cs))) ((final nothing_piece (pieces cs)).notes ++ own k) (own j))
      ∙ ap (λ ns. ns ++ own j) (sym (notes_last (before (pieces cs)) (new_value k cs)))

-- ---- cells, as they are listed
pub noted_still : (old new xs ys : List ℕ) → xs ≡ ys → new ≡ old ++ xs → new ≡ old ++ ys
noted_still old new xs ys same is = is ∙ ap (λ ns. old ++ ns) same

module _ (setting : Setting) where
  abbrev notes_at : ℕ → List ℕ
  notes_at k = all_notes (gives_at (nodes_in setting) (G.Node k))

  pub cell_alone : (c : Found) → length c.suffixes.now < 1 → notes_at c.number ≡ cell_listed setting (aim_of c)
  cell_alone c few =
      sym (append-nil (notes_at c.number))
      ∙ ap (λ (ss : List Suffix). notes_at c.number ++ typed_listed setting ss (aim_of c)) (sym (none_of c.suffixes.now few))

  pub cell_with : (c : Found) → 1 ≤ length c.suffixes.now → notes_at c.number ++ notes_at c.read ≡ cell_listed setting (aim_of c)
  cell_with c some = ap (λ ns. notes_at c.number ++ ns) (by c.suffixes.now some)
    where
      by : (ss : List Suffix) → 1 ≤ length ss → notes_at c.read ≡ typed_listed setting ss (aim_of c)
      by [] few = absurd (omega (arith, few))
      by (s ∷ ss) few = refl

  pub cells_none : (ts : List Target) → length ts < 1 → [] ≡ cells_listed setting (cells_of ts)
  cells_none ts few = ap (λ (us : List Target). cells_listed setting (cells_of us)) (sym (none_of ts few))

  pub cells_more : (ts us : List Target) (t : Target) (a : Cell) → ts ≡ t ∷ us → only_cell (target_spot t) ≡ Some a
      → cell_listed setting a ++ cells_listed setting (cells_of us) ≡ cells_listed setting (cells_of ts)
  cells_more ts us t a is one =
      ap (λ (o : Option Cell). cells_listed setting (and_cell o (cells_of us))) (sym one)
      ∙ ap (λ (vs : List Target). cells_listed setting (cells_of vs)) (sym is)

  pub cells_other : (ts us : List Target) (t : Target) → ts ≡ t ∷ us → only_cell (target_spot t) ≡ None
      → cells_listed setting (cells_of us) ≡ cells_listed setting (cells_of ts)
  cells_other ts us t is none =
      ap (λ (o : Option Cell). cells_listed setting (and_cell o (cells_of us))) (sym none)
      ∙ ap (λ (vs : List Target). cells_listed setting (cells_of vs)) (sym is)

module _ (setting : Setting) (around : Around) (name : Naming) (node : Core) where
  pub one_assigned : (ts : List Target) (t : Target) (spot : SpotFound) (cs : List Core) → ts ≡ t ∷ [] → spot_in spot ≡ target_spot t
      → assigned_notes setting around name spot cs ≡ (piece_with setting around name (K.Assign ts) node cs).notes
  one_assigned ts t spot cs one same =
      assigned_same setting around name spot cs
      ∙ ap (λ (s : Option Spot). assigned setting around name s cs) same
      ∙ ap (λ (us : List Target). (piece_with setting around name (K.Assign us) node cs).notes) (sym one)

  pub none_assigned : (ts : List Target) (cs : List Core) → length ts < 1 → [] ≡ (piece_with setting around name (K.Assign ts) node cs).notes
  none_assigned [] cs few = refl
  none_assigned (t ∷ ts) cs few = absurd (omega (arith, few))

  pub several_assigned : (ts : List Target) (cs : List Core) → 2 ≤ length ts → [] ≡ (piece_with setting around name (K.Assign ts) node cs).notes
  several_assigned [] cs some = absurd (omega (arith, some))
  several_assigned (t ∷ []) cs some = absurd (omega (arith, some))
  several_assigned (t ∷ u ∷ ts) cs some = refl
