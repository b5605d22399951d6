-- Ways to parts, and registers and variables that get new values, as they are decided.
use Rattle.std.proofs.Common.{◌≡◌, ◌∙◌, ◌≤◌, ◌<◌, Bool, true, false, ◌&&◌, List, [], ◌∷◌, length, refl, sym, ap, arith}
use Rattle.std.specs.Prelude.{Option, Some, None, slice_index_or}
use Rattle.sail_core.specs.declared.targets.Suffix.{Suffix}
use Rattle.sail_core.specs.declared.targets.Target.{Target}
use Rattle.size_values.specs.declared.sized.Sized.{Sized}
use Rattle.sized_nodes.specs.declared.trees.Case.{Case}
use Rattle.sized_nodes.specs.declared.trees.SizedInstance.{SizedInstance}
use Rattle.lowered_types.specs.Table.{is_known}
use Rattle.lowered_pieces.specs.Forms.{ends_of, has_ends}
use Rattle.lowered_pieces.specs.Tables.{Tables}
use Rattle.lowered_pieces.specs.Writes.{Cell as Aim, Holder, cell_lowered, held_lowered, holder_lowered, is_said, path_known, paths_known, register}
use Rattle.lowered_pieces.specs.Writes.{several_lowered, target_spot, typed_lowered, variable, way_typ}
use Rattle.lowered_steps.specs.declared.cells.Cell.{Cell}
use Rattle.lowered_steps.specs.declared.setting.Setting.{Setting}
use Rattle.lowered_steps.specs.Cells.{aim_of, and_cell, cells_of, holder_in, only_cell}
use Rattle.lowered_steps.specs.Setting.{tables_for}
use Rattle.lowered_ends.specs.Cells.{cell_ok, cells_ok, held_ok, holder_ok, part_ok, part_with, path_ok, paths_ok}
use Rattle.lowered_ends.proofs.Lists.{none_of, others, others_of}

module _ (setting : Setting) where
  pub path_none : (ss : List Suffix) (t : Sized) → length ss < 1 → true ≡ path_ok setting ss t
  path_none [] t few = refl
  path_none (s ∷ ss) t few = absurd (omega (arith, few))

  pub path_one : (ss : List Suffix) (t : Sized) → length ss < 2 → true ≡ path_ok setting ss t
  path_one [] t few = refl
  path_one (s ∷ []) t few = refl
  path_one (s ∷ r ∷ ss) t few = absurd (omega (arith, few))

  pub path_more : (ss : List Suffix) (d : Suffix) (t u : Sized) (said known behind : Bool) → 2 ≤ length ss
      → said ≡ is_said (slice_index_or ss 0 d).way → u ≡ way_typ setting.types.now (slice_index_or ss 0 d).way t
      → known ≡ is_known setting.numbered.now u → behind ≡ path_ok setting (others ss) u
      → (said && (known && behind)) ≡ path_ok setting ss t
  path_more [] d t u said known behind some is inner k b = absurd (omega (arith, some))
  path_more (p ∷ []) d t u said known behind some is inner k b = absurd (omega (arith, some))
  path_more (p ∷ r ∷ ss) d t u said known behind some is inner k b =
      λ i. is i
      && ((k ∙ ap (λ (z : Sized). is_known setting.numbered.now z) inner) i && (b ∙ (λ j. path_ok setting (others_of p (r ∷ ss) j) (inner j))) i)

  and_true : (b : Bool) → b ≡ (b && true)
  and_true true = refl
  and_true false = refl

  abbrev with_suffixes : Cell → List Suffix → Bool
  with_suffixes c ss = cell_ok setting (record { number = c.number; read = c.read; holder = holder_in c.holder; suffixes = ss })

  pub cell_whole : (c : Cell) → length c.suffixes.now < 1 → holder_ok setting (holder_in c.holder) ≡ cell_ok setting (aim_of c)
  cell_whole c few = and_true (holder_ok setting (holder_in c.holder)) ∙ ap (λ (ss : List Suffix). with_suffixes c ss) (sym (none_of c.suffixes.now few))

  pub cell_part : (c : Cell) → 1 ≤ length c.suffixes.now → (holder_ok setting (holder_in c.holder) && part_ok setting c) ≡ cell_ok setting (aim_of c)
  cell_part c some = by c.suffixes.now some
    where
      by : (ss : List Suffix) → 1 ≤ length ss → (holder_ok setting (holder_in c.holder) && part_with setting c ss) ≡ with_suffixes c ss
      by [] few = absurd (omega (arith, few))
      by (s ∷ ss) few = refl

  pub cells_more : (ts us : List Target) (t : Target) (a : Aim) → ts ≡ t ∷ us → only_cell (target_spot t) ≡ Some a
      → (cell_ok setting a && cells_ok setting (cells_of us)) ≡ cells_ok setting (cells_of ts)
  cells_more ts us t a is one =
      ap (λ (o : Option Aim). cells_ok setting (and_cell o (cells_of us))) (sym one) ∙ ap (λ (vs : List Target). cells_ok setting (cells_of vs)) (sym is)

  pub cells_other : (ts us : List Target) (t : Target) → ts ≡ t ∷ us → only_cell (target_spot t) ≡ None
      → cells_ok setting (cells_of us) ≡ cells_ok setting (cells_of ts)
  cells_other ts us t is none =
      ap (λ (o : Option Aim). cells_ok setting (and_cell o (cells_of us))) (sym none) ∙ ap (λ (vs : List Target). cells_ok setting (cells_of vs)) (sym is)

-- ---- whichever instances there are
module _ (setting : Setting) (instances : List SizedInstance) where
  abbrev there : Tables
  there = tables_for setting instances

  path_there : (ss : List Suffix) (t : Sized) → path_ok setting ss t ≡ path_known setting.types.now there ss t
  path_there [] t = refl
  path_there (s ∷ []) t = refl
  path_there (s ∷ r ∷ ss) t =
      ap (λ (b : Bool). is_said s.way && (is_known setting.numbered.now (way_typ setting.types.now s.way t) && b))
      (path_there (r ∷ ss) (way_typ setting.types.now s.way t))

  paths_there : (ss : List Suffix) (cases : List Case) → paths_ok setting ss cases ≡ paths_known setting.types.now there ss cases
  paths_there ss [] = refl
  paths_there ss (c ∷ cs) = λ i. path_there ss c.gives i && paths_there ss cs i

  holder_there : (h : Holder) → holder_ok setting h ≡ holder_lowered setting.types.now there h
  holder_there (register r) = refl
  holder_there (variable text) = refl

  held_there : (h : Holder) (cases : List Case) → held_ok setting h cases ≡ held_lowered setting.types.now there h cases
  held_there (register r) cases = refl
  held_there (variable text) cases = refl

  typed_there : (ss : List Suffix) (c : Aim) → typed_lowered setting.types.now (tables_for setting []) ss c ≡ typed_lowered setting.types.now there ss c
  typed_there [] c = refl
  typed_there (s ∷ ss) c =
      λ i. has_ends (ends_of (there.gives c.read) (there.cases c.read 0))
      && (paths_there (s ∷ ss) (there.cases c.read 0) i && held_there c.holder (there.cases c.read 0) i)

  pub cell_there : (c : Aim) → cell_ok setting c ≡ cell_lowered setting.types.now there c
  cell_there c = λ i. holder_there c.holder i && typed_there c.suffixes c i

  pub cells_there : (cs : List Aim) → cells_ok setting cs ≡ several_lowered setting.types.now there cs
  cells_there [] = refl
  cells_there (c ∷ cs) = λ i. cell_there c i && cells_there cs i
