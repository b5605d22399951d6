-- The members of each builtin are in the table of builtins, and leave nothing open.
use Rattle.std.proofs.Common.{◌≡◌, ℕ, suc, ◌<◌, List, [], ◌∷◌, ◌++◌, length, map, sym, refl, subst, arith}
use Rattle.std.specs.Prelude.{Contains}
use Rattle.sail_types.specs.Rows.{comparable, comparison, members_of, row_members}
use Rattle.sail_types.specs.declared.members.Member.{Member}
use Rattle.sail_types.specs.declared.rows.Row.{Row}
use Rattle.sail_types.specs.declared.rows.Row.TheVariants as R
use Rattle.sail_types.specs.declared.shapes.Shape.{Shape}
use Rattle.sail_types.specs.declared.shapes.Shape.TheVariants as V
use Rattle.sail_types.specs.declared.table.Types.{Types}
use Rattle.shape_rules.specs.Calls.{builtin_members, member_candidate}
use Rattle.shape_rules.specs.declared.callees.Candidate.{Candidate}
use Rattle.sail_base.specs.declared.operators.Operator.{Operator}
use Rattle.sail_base.specs.declared.operators.Operator.TheVariants as O
use Rattle.row_meanings.specs.Rows.{Each}
use Rattle.row_meanings.proofs.Arguments.{MemberIs, list_below, more_below, variable_below}
use Rattle.row_meanings.proofs.Members.{row_is}
use Rattle.text_progress.specs.Entries.{AllIn, Parts}
use Rattle.text_progress.proofs.Entries.{mapped_join}

-- ---- each member has its row

compared_own : (r : Row) (ss : List Shape) → Each (λ m. m.row ≡ r) (map (comparison r) ss)
compared_own r [] = tt
compared_own r (s ∷ ss) = (refl, compared_own r ss)

row_own : (types : Types) (r : Row) → Each (λ m. m.row ≡ r) (row_members types r)
row_own types R.Eq = compared_own R.Eq (comparable types)
row_own types R.Neq = compared_own R.Neq (comparable types)
row_own types R.Length = (refl, (refl, tt))
row_own types r = (refl, tt)

-- ---- each member is among them

first_in : (x : Member) (xs : List Member) → Contains (x ∷ xs) x
first_in x xs = (0, less xs, refl)
  where
    less : {A : Type 0} (xs : List A) → 0 < suc (length xs)
    less xs = omega arith

later_in : (x y : Member) (xs : List Member) → Contains xs x → Contains (y ∷ xs) x
later_in x y xs c = (suc c.0, more c.0 (length xs) c.1, c.2)
  where
    more : (k n : ℕ) → k < n → suc k < suc n
    more k n h = omega (arith, h)

later_each : (y : Member) (xs ms : List Member) → Each (λ m. Contains xs m) ms → Each (λ m. Contains (y ∷ xs) m) ms
later_each y xs [] h = tt
later_each y xs (m ∷ ms) h = (later_in m y xs h.0, later_each y xs ms h.1)

each_there : (xs : List Member) → Each (λ m. Contains xs m) xs
each_there [] = tt
each_there (x ∷ xs) = (first_in x xs, later_each x xs xs (each_there xs))

-- ---- candidates

pub both_in : (core : Parts) (xs ys : List Candidate) → AllIn core xs → AllIn core ys → AllIn core (xs ++ ys)
both_in core [] ys h k = k
both_in core (x ∷ xs) ys h k = (h.0, both_in core xs ys h.1 k)

members_in : (core : Parts) (r : Row) (ms : List Member) → Each (MemberIs core.types) ms → Each (λ m. m.row ≡ r) ms
    → Each (λ m. Contains (row_members core.types r) m) ms → AllIn core (map member_candidate ms)
members_in core r [] is own there = tt
members_in core r (m ∷ ms) is own there = (
  record {
    whole = is.0.whole;
    answer = is.0.answer;
    does = (m, subst (λ x. Contains (row_members core.types x) m) (sym own.0) there.0, refl, refl, refl);
  },
  members_in core r ms is.1 own.1 there.1,
)

pub row_in : (core : Parts) (r : Row) → AllIn core (map member_candidate (row_members core.types r))
row_in core r = members_in core r (row_members core.types r) (row_is core.types r) (row_own core.types r) (each_there (row_members core.types r))

pub rows_in : (core : Parts) (rs : List Row) → AllIn core (map member_candidate (members_of core.types rs))
rows_in core [] = tt
rows_in core (r ∷ rs) =
    subst (AllIn core) (sym (mapped_join member_candidate (row_members core.types r) (members_of core.types rs)))
    (both_in core (map member_candidate (row_members core.types r)) (map member_candidate (members_of core.types rs)) (row_in core r) (rows_in core rs))

pub builtins_in : (core : Parts) (operator : Operator) → AllIn core (builtin_members operator)
builtins_in core O.Cons = (
  record {
    whole = more_below (V.Variable 0) (V.List (V.Variable 0) ∷ []) variable_below (more_below (V.List (V.Variable 0)) [] list_below refl);
    answer = list_below;
    does = (refl, refl);
  },
  tt,
)
builtins_in core operator = tt
