-- What is assigned to, as it is decided whether it fits.
use Rattle.std.proofs.Common.{◌≡◌, ◌∙◌, ◌≤◌, ◌<◌, ◌-◌, ℕ, ◌+◌, Bool, true, false, ◌&&◌, Option, Some, None, List, [], ◌∷◌, ◌++◌, length, get_or, refl, sym, ap, arith}
use Rattle.sail_core.specs.declared.targets.Suffix.{Suffix}
use Rattle.sail_core.specs.declared.targets.Target.{Target}
use Rattle.sail_core.specs.declared.tree.Core.{Core}
use Rattle.lowered_pieces.specs.Writes.{Cell as Aim, target_spot}
use Rattle.lowered_steps.specs.declared.cells.Cell.{Cell}
use Rattle.lowered_steps.specs.Cells.{aim_of, and_cell, cells_of, holder_in, only_cell}
use Rattle.lowered_steps.proofs.Lists.{none_of}
use Rattle.lowered_ends.proofs.Lists.{but_last, last_of}
use Rattle.lowered_validity.specs.Typing.{gives_in}
use Rattle.lowered_typed.specs.declared.signs.Judge.{Judge}
use Rattle.lowered_typed.specs.Here as here
use Rattle.lowered_typed.specs.Judging.{cases_typed, typed}
use Rattle.lowered_typed.specs.Judged.{all_here, cases_at, cast_asked, part_right}

pub and_none : (b : Bool) → false ≡ (b && false)
and_none true = refl
and_none false = refl

module _ (j : Judge) where
  abbrev with_suffixes : Cell → List Suffix → Bool
  with_suffixes c ss = cast_asked j c.number && here.typed_right j ss (aim_of c)

  pub cell_whole : (c : Cell) → length c.suffixes.now < 1
      → (cast_asked j c.number && here.holder_right j (holder_in c.holder) (cases_at j c.number 1)) ≡ here.cell_right j (aim_of c)
  cell_whole c few = ap (λ (ss : List Suffix). with_suffixes c ss) (sym (none_of c.suffixes.now few))

  pub cell_part : (c : Cell) → 1 ≤ length c.suffixes.now → (cast_asked j c.number && part_right j c) ≡ here.cell_right j (aim_of c)
  cell_part c few = ap (λ b. cast_asked j c.number && b) (by c.suffixes.now few)
    where
      by : (ss : List Suffix) → 1 ≤ length ss
          → (cases_typed j (λ k. true) (cases_at j c.read 0)
          && (here.holder_right j (holder_in c.holder) (cases_at j c.read 0)
          && here.replaces_all j ss (cases_at j c.read 0) (gives_in (cases_at j c.number 1)))) ≡ here.typed_right j ss (aim_of c)
      by [] none = absurd (omega (arith, none))
      by (s ∷ ss) some = refl

  pub cells_more : (ts us : List Target) (t : Target) (a : Aim) → ts ≡ t ∷ us → only_cell (target_spot t) ≡ Some a
      → (here.cell_right j a && here.cells_right j (cells_of us)) ≡ here.cells_right j (cells_of ts)
  cells_more ts us t a is one =
      ap (λ (o : Option Aim). here.cells_right j (and_cell o (cells_of us))) (sym one)
      ∙ ap (λ (vs : List Target). here.cells_right j (cells_of vs)) (sym is)

  pub cells_other : (ts us : List Target) (t : Target) → ts ≡ t ∷ us → only_cell (target_spot t) ≡ None
      → here.cells_right j (cells_of us) ≡ here.cells_right j (cells_of ts)
  cells_other ts us t is none =
      ap (λ (o : Option Aim). here.cells_right j (and_cell o (cells_of us))) (sym none)
      ∙ ap (λ (vs : List Target). here.cells_right j (cells_of vs)) (sym is)

  -- the last of the parts
  last_behind : (cs : List Core) (v : Core) → here.last_types j (all_here j (cs ++ v ∷ [])) ≡ (typed j v).types
  last_behind [] v = refl
  last_behind (c ∷ []) v = refl
  last_behind (c ∷ d ∷ cs) v = last_behind (d ∷ cs) v

  pub last_here : (cs : List Core) (v : Core) → 1 ≤ length cs → v ≡ get_or cs (length cs - 1) v → (typed j v).types ≡ here.last_types j (all_here j cs)
  last_here cs v some is =
      sym (last_behind (but_last cs) v) ∙ ap (λ (ds : List Core). here.last_types j (all_here j ds)) (sym (last_of cs v some is))

pub count_more : (ts us : List Target) (t : Target) (a : Aim) (n : ℕ) → ts ≡ t ∷ us → only_cell (target_spot t) ≡ Some a → n ≡ length (cells_of us)
    → n + 1 ≡ length (cells_of ts)
count_more ts us t a n is one many =
    one_more many
    ∙ ap (λ (o : Option Aim). length (and_cell o (cells_of us))) (sym one)
    ∙ ap (λ (vs : List Target). length (cells_of vs)) (sym is)
  where
    one_more : n ≡ length (cells_of us) → n + 1 ≡ length (a ∷ cells_of us)
    one_more e = omega (arith, e)

pub count_other : (ts us : List Target) (t : Target) → ts ≡ t ∷ us → only_cell (target_spot t) ≡ None → length (cells_of us) ≡ length (cells_of ts)
count_other ts us t is none =
    ap (λ (o : Option Aim). length (and_cell o (cells_of us))) (sym none) ∙ ap (λ (vs : List Target). length (cells_of vs)) (sym is)
