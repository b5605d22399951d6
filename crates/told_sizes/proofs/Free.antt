-- Variables that are constant, as tests have them and as code has them.
use Rattle.std.proofs.Common.{◌≡◌, ap, refl, ℕ, zero, suc, pos, Bool, true, false, not, List, [], ◌∷◌, map, Option, Some, None, if◌then◌else◌}
use Rattle.std.specs.Prelude.{is_none}
use Rattle.sail_types.specs.declared.numbers.Atom.TheFolds.{fold-Num}
use Rattle.sail_types.specs.declared.numbers.Atom.TheOpen as A
use Rattle.sail_types.specs.declared.numbers.Atom.TheOpen.{Atom-F}
use Rattle.sail_types.specs.declared.numbers.Index.{Index}
use Rattle.sail_types.specs.declared.numbers.Num.{Num}
use Rattle.sail_types.specs.declared.table.Types.{Types}
use Rattle.size_values.specs.declared.constants.Constant.{Constant}
use Rattle.size_values.specs.declared.constants.Constant.TheVariants as C
use Rattle.size_values.specs.Numbers.{argument_of, atom_free, first_free, free_variable, is_free, sum_free, term_free}
use Rattle.told_sizes.specs.Among.{args_among, at, flag_of, flagged, has_in, index_among, is_known, num_among, only_among}

-- ---- a variable that isn't constant

module _ (of : ℕ → Constant) where
  variable_same : (i : ℕ) → free_variable (only_among (has_in of)) i ≡ free_variable of i
  variable_same i = by (is_free (of i))
    where
      by : (b : Bool) → (if is_free (if not b then C.Number (pos 0) else C.Open i) then Some i else None) ≡ (if b then Some i else None)
      by true = refl
      by false = refl

  atom_same : (x : Atom-F (Option ℕ) (Option ℕ) (Option ℕ)) → atom_free (only_among (has_in of)) x ≡ atom_free of x
  atom_same (A.Variable i) = variable_same i
  atom_same (A.Power o) = refl

  atoms_same : atom_free (only_among (has_in of)) ≡ atom_free of
  atoms_same = λ j x. atom_same x j

  pub among_free : (t : Num) → num_among (has_in of) t ≡ is_none (first_free of t)
  among_free t =
      ap (λ (f : Atom-F (Option ℕ) (Option ℕ) (Option ℕ) → Option ℕ). is_none (fold-Num (Option ℕ) (Option ℕ) (Option ℕ) f sum_free term_free t)) atoms_same

-- ---- the variables of a type

at_known : (cs : List Constant) (i : ℕ) → at (map is_known cs) i ≡ has_in (argument_of cs) i
at_known [] i = refl
at_known (c ∷ cs) zero = refl
at_known (c ∷ cs) (suc i) = at_known cs i

same_at : (cs : List Constant) → at (map is_known cs) ≡ has_in (argument_of cs)
same_at cs = λ j i. at_known cs i j

pub num_at : (cs : List Constant) (t : Num) → num_among (at (map is_known cs)) t ≡ num_among (has_in (argument_of cs)) t
num_at cs t = ap (λ (f : ℕ → Bool). num_among f t) (same_at cs)

pub args_at : (types : Types) (u n k : ℕ) (args : List Index) (cs : List Constant)
    → args_among types (at (map is_known cs)) u n k args ≡ args_among types (has_in (argument_of cs)) u n k args
args_at types u n k args cs = ap (λ (f : ℕ → Bool). args_among types f u n k args) (same_at cs)

-- ---- constants that say what is so

known_flag : (b : Bool) → is_known (flagged b) ≡ b
known_flag true = refl
known_flag false = refl

pub flags_known : (has : ℕ → Bool) (is : List Index) → map is_known (map (flag_of has) is) ≡ map (index_among has) is
flags_known has [] = refl
flags_known has (a ∷ is) =
    let one = known_flag (index_among has a) in
    let rest = flags_known has is in
    λ j. one j ∷ rest j
