-- What is said of a value by the last of its parts.
use Rattle.std.proofs.Common.{◌≡◌, ◌∙◌, ◌≤◌, ◌<◌, ◌-◌, ℕ, zero, suc, true, false, List, [], ◌∷◌, drop, take, get_or, length, refl, sym, ap, arith}
use Rattle.std.proofs.lemmas.Bool.{false≢true}
use Rattle.sail_core.specs.declared.targets.Suffix.{Suffix}
use Rattle.sail_core.specs.declared.targets.Way.{Way}
use Rattle.sail_core.specs.declared.targets.Way.TheVariants as Y
use Rattle.sail_core.specs.declared.tree.Core.{Core}
use Rattle.sail_core.specs.declared.tree.Statement.{Statement}
use Rattle.lowered_pieces.specs.Forms.{End}
use Rattle.lowered_pieces.specs.Paths.{path_ends, way_ends}
use Rattle.lowered_pieces.specs.Places.{Naming}
use Rattle.lowered_pieces.specs.Tables.{Tables}
use Rattle.lowered_steps.specs.declared.setting.Setting.{Setting}
use Rattle.lowered_steps.specs.Setting.{tables_for}
use Rattle.lowered_ends.specs.declared.around.Around.{Around}
use Rattle.lowered_ends.specs.Able.{suffixes_fit, way_fits}
use Rattle.lowered_ends.specs.Ends.{block_ends, ends_at, final_ends, last_ends, made_ends, met_ends, rest_ends, second_ends, suffix_ends}
use Rattle.lowered_ends.proofs.Lists.{others, others_of}
use Rattle.lowered_ends.proofs.Masses.{mass_some, masses, rest_mass}

-- parts behind the first weigh less
pub rest_less : (cs : List Core) → 1 ≤ length cs → masses (take (length cs - 1) (drop 1 cs)) < masses cs
rest_less [] some = absurd (omega arith)
rest_less (c ∷ cs) some = let h = rest_mass (c ∷ cs) c some refl in let k = mass_some c in omega (arith, h, k)

module _ (setting : Setting) where
  pub met_short : (k n : ℕ) → n < 1 → [] ≡ met_ends setting k n
  met_short k zero few = refl
  met_short k (suc n) few = absurd (omega (arith, few))

  pub met_some : (k n : ℕ) → 1 ≤ n → made_ends setting k 1 ≡ met_ends setting k n
  met_some k zero some = absurd (omega (arith, some))
  met_some k (suc n) some = refl

  last_rest : (s : Suffix) (ss : List Suffix) → last_ends setting s ss ≡ rest_ends setting ss (suffix_ends setting s.way s.number)
  last_rest s [] = refl
  last_rest s (t ∷ ss) = refl

  module _ (around : Around) where
    abbrev tables : Tables
    tables = tables_for setting around.instances.now

    -- suffixes that have just their indexes
    way_fit : (w : Way) (k : ℕ) (ss : List Suffix)
        → ((n : ℕ) (es : List End) → suffixes_fit ss n ≡ true → rest_ends setting ss es ≡ path_ends tables ss n es)
        → (n : ℕ) → way_fits w n (suffixes_fit ss) ≡ true
        → rest_ends setting ss (suffix_ends setting w k) ≡ way_ends tables w k n (path_ends tables ss)
    way_fit (Y.Field struct i) k ss next n fits = next n _ fits
    way_fit Y.Item k ss next zero fits = absurd (false≢true fits)
    way_fit Y.Item k ss next (suc n) fits = next n _ fits
    way_fit Y.Slice k ss next zero fits = absurd (false≢true fits)
    way_fit Y.Slice k ss next (suc zero) fits = absurd (false≢true fits)
    way_fit Y.Slice k ss next (suc (suc n)) fits = next n _ fits

    pub path_fit : (ss : List Suffix) (n : ℕ) (es : List End) → suffixes_fit ss n ≡ true → rest_ends setting ss es ≡ path_ends tables ss n es
    path_fit [] zero es fits = refl
    path_fit [] (suc n) es fits = absurd (false≢true fits)
    path_fit (s ∷ ss) n es fits = last_rest s ss ∙ way_fit s.way s.number ss (path_fit ss) n fits

    -- others
    way_unfit : (w : Way) (k : ℕ) (ss : List Suffix) → ((n : ℕ) (es : List End) → suffixes_fit ss n ≡ false → [] ≡ path_ends tables ss n es)
        → (n : ℕ) → way_fits w n (suffixes_fit ss) ≡ false → [] ≡ way_ends tables w k n (path_ends tables ss)
    way_unfit (Y.Field struct i) k ss next n fits = next n _ fits
    way_unfit Y.Item k ss next zero fits = refl
    way_unfit Y.Item k ss next (suc n) fits = next n _ fits
    way_unfit Y.Slice k ss next zero fits = refl
    way_unfit Y.Slice k ss next (suc zero) fits = refl
    way_unfit Y.Slice k ss next (suc (suc n)) fits = next n _ fits

    pub path_unfit : (ss : List Suffix) (n : ℕ) (es : List End) → suffixes_fit ss n ≡ false → [] ≡ path_ends tables ss n es
    path_unfit [] zero es fits = absurd (false≢true (sym fits))
    path_unfit [] (suc n) es fits = refl
    path_unfit (s ∷ ss) n es fits = way_unfit s.way s.number ss (path_unfit ss) n fits

module _ (setting : Setting) (around : Around) (name : Naming) where
  -- the second of two
  pub second_at : (cs : List Core) (v : Core) → 2 ≤ length cs → length cs < 3 → v ≡ get_or cs 1 v
      → ends_at setting around name v ≡ second_ends setting around name cs
  second_at [] v some few is = absurd (omega arith)
  second_at (a ∷ []) v some few is = absurd (omega arith)
  second_at (a ∷ b ∷ []) v some few is = ap (λ (c : Core). ends_at setting around name c) is
  second_at (a ∷ b ∷ c ∷ cs) v some few is = absurd (omega arith)

  pub second_none : (cs : List Core) → length cs < 2 → [] ≡ second_ends setting around name cs
  second_none [] few = refl
  second_none (a ∷ []) few = refl
  second_none (a ∷ b ∷ cs) few = absurd (omega arith)

  pub second_more : (cs : List Core) → 3 ≤ length cs → [] ≡ second_ends setting around name cs
  second_more [] some = absurd (omega arith)
  second_more (a ∷ []) some = absurd (omega arith)
  second_more (a ∷ b ∷ []) some = absurd (omega arith)
  second_more (a ∷ b ∷ c ∷ cs) some = refl

  -- behind all statements
  pub final_more : (cs : List Core) → 2 ≤ length cs → [] ≡ final_ends setting around name cs
  final_more [] some = absurd (omega arith)
  final_more (a ∷ []) some = absurd (omega arith)
  final_more (a ∷ b ∷ cs) some = refl

  pub block_next : (ss : List Statement) (cs : List Core) → 1 ≤ length ss → 1 ≤ length cs
      → block_ends setting around name (others ss) (others cs) ≡ block_ends setting around name ss cs
  block_next [] cs some more = absurd (omega arith)
  block_next (s ∷ ss) [] some more = absurd (omega arith)
  block_next (s ∷ ss) (c ∷ cs) some more = λ i. block_ends setting around name (others_of s ss i) (others_of c cs i)

  pub block_short : (ss : List Statement) (cs : List Core) → 1 ≤ length ss → length cs < 1 → [] ≡ block_ends setting around name ss cs
  block_short [] cs some few = absurd (omega arith)
  block_short (s ∷ ss) [] some few = refl
  block_short (s ∷ ss) (c ∷ cs) some few = absurd (omega arith)
