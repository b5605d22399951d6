-- Numbers, constraints and types read one binder further in, where each variable from outside counts one more (Sail language
-- manual, "Type variables" and "Existential types"). The variables below a depth are bound inside what is moved, and stay.
use Rattle.std.specs.Prelude.{ℕ, ◌+◌, nat_lt, List, map, Option, Some, None, option_map, if◌then◌else◌}
use Rattle.sail_types.specs.Sums.{and_then, num, term}
use Rattle.sail_types.specs.Readings.{together}
use Rattle.sail_types.specs.declared.numbers.Num.{Num}
use Rattle.sail_types.specs.declared.numbers.Term.{Term}
use Rattle.sail_types.specs.declared.numbers.Atom.{Atom}
use Rattle.sail_types.specs.declared.numbers.Atom.TheOpen as N
use Rattle.sail_types.specs.declared.numbers.Atom.TheOpen.{Atom-F, Num-F, Term-F}
use Rattle.sail_types.specs.declared.numbers.Atom.TheVariants as A
use Rattle.sail_types.specs.declared.numbers.Atom.TheFolds.{fold-Num, fold-Atom, fold-Term}
use Rattle.sail_types.specs.declared.numbers.Index.{Index}
use Rattle.sail_types.specs.declared.numbers.Index.TheVariants as I
use Rattle.sail_types.specs.declared.numbers.Con.{Con, Con-F, fold-Con}
use Rattle.sail_types.specs.declared.numbers.Con.TheOpen as C
use Rattle.sail_types.specs.declared.numbers.Con.TheVariants as V
use Rattle.sail_types.specs.declared.types.Typ.{Typ, Typ-F, fold-Typ}
use Rattle.sail_types.specs.declared.types.Typ.TheOpen as T
use Rattle.sail_types.specs.declared.types.Typ.TheVariants as W

-- the number behind a variable's, which is none past the largest of 32 bits
abbrev pub next : ℕ → Option ℕ
next i = if nat_lt i 4294967295 then Some (i + 1) else None

-- a variable's number, one further from a depth on
abbrev pub moved : ℕ → ℕ → Option ℕ
moved depth i = if nat_lt i depth then Some i else next i

-- ---- numbers

abbrev pub atom_form_moved : ℕ → Atom-F (Option Atom) (Option Num) (Option Term) → Option Atom
atom_form_moved depth (N.Variable i) = option_map A.Variable (moved depth i)
atom_form_moved depth (N.Power t) = option_map A.Power t

abbrev pub num_form_moved : Num-F (Option Atom) (Option Num) (Option Term) → Option Num
num_form_moved n = option_map (λ ts. num ts n.constant) (together n.terms)

abbrev pub term_form_moved : Term-F (Option Atom) (Option Num) (Option Term) → Option Term
term_form_moved t = option_map (term t.coefficient) t.atom

-- a number: the same terms, over the variables moved
abbrev pub moved_num : ℕ → Num → Option Num
moved_num depth = fold-Num (Option Atom) (Option Num) (Option Term) (atom_form_moved depth) num_form_moved term_form_moved

abbrev pub moved_atom : ℕ → Atom → Option Atom
moved_atom depth = fold-Atom (Option Atom) (Option Num) (Option Term) (atom_form_moved depth) num_form_moved term_form_moved

abbrev pub moved_term : ℕ → Term → Option Term
moved_term depth = fold-Term (Option Atom) (Option Num) (Option Term) (atom_form_moved depth) num_form_moved term_form_moved

-- ---- constraints

abbrev pub con_form_moved : ℕ → Con-F (Option Con) → Option Con
con_form_moved depth (C.Truth b) = Some (V.Truth b)
con_form_moved depth (C.Holds i) = option_map V.Holds (moved depth i)
con_form_moved depth (C.Compare how t u) = and_then (moved_num depth t) (λ m. option_map (V.Compare how m) (moved_num depth u))
con_form_moved depth (C.OneOf t zs) = option_map (λ m. V.OneOf m zs) (moved_num depth t)
con_form_moved depth (C.Not c) = option_map V.Not c
con_form_moved depth (C.All cs) = option_map V.All (together cs)
con_form_moved depth (C.Any cs) = option_map V.Any (together cs)

abbrev pub moved_con : ℕ → Con → Option Con
moved_con depth = fold-Con (Option Con) (con_form_moved depth)

-- an argument of a named type
abbrev pub moved_index : ℕ → Index → Option Index
moved_index depth (I.Number n) = option_map I.Number (moved_num depth n)
moved_index depth (I.Truth c) = option_map I.Truth (moved_con depth c)

abbrev pub moved_indices : ℕ → List Index → Option (List Index)
moved_indices depth is = together (map (moved_index depth) is)

-- ---- types

-- a type moved, at each depth
abbrev pub AtDepth : Type 0
AtDepth = ℕ → Option Typ

abbrev pub all_at : List AtDepth → ℕ → Option (List Typ)
all_at ts depth = together (map (λ t. t depth) ts)

abbrev pub typ_form_moved : Typ-F AtDepth → AtDepth
typ_form_moved T.Unit depth = Some W.Unit
typ_form_moved T.Bool depth = Some W.Bool
typ_form_moved (T.Truth c) depth = option_map W.Truth (moved_con depth c)
typ_form_moved T.Bit depth = Some W.Bit
typ_form_moved (T.Bits t) depth = option_map W.Bits (moved_num depth t)
typ_form_moved (T.Int t) depth = option_map W.Int (moved_num depth t)
typ_form_moved (T.Range t u) depth = and_then (moved_num depth t) (λ m. option_map (W.Range m) (moved_num depth u))
typ_form_moved T.String depth = Some W.String
typ_form_moved (T.List t) depth = option_map W.List (t depth)
typ_form_moved (T.Vector n t) depth = and_then (moved_num depth n) (λ m. option_map (W.Vector m) (t depth))
typ_form_moved (T.Tuple ts) depth = option_map W.Tuple (all_at ts depth)
typ_form_moved (T.Named i is ts) depth = and_then (moved_indices depth is) (λ js. option_map (W.Named i js) (all_at ts depth))
typ_form_moved (T.Variable i) depth = Some (W.Variable i)
typ_form_moved (T.Exists name c t) depth = and_then (next depth) (λ d. and_then (moved_con d c) (λ k. option_map (W.Exists name k) (t d)))

-- a type; an existential type binds one variable more
abbrev pub moved_typ : ℕ → Typ → Option Typ
moved_typ depth t = fold-Typ AtDepth typ_form_moved t depth

abbrev pub moved_types : ℕ → List Typ → Option (List Typ)
moved_types depth ts = together (map (moved_typ depth) ts)
