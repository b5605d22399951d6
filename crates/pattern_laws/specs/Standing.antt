-- Patterns that stand where resolving a model and its tables of types have them, whatever they are matched with (Sail language manual, "Pattern
-- matching").
use Rattle.std.specs.Prelude.{ℕ, zero, suc, nat_eq, nat_lt, Bool, true, false, ◌&&◌, List, [], ◌∷◌, length, map, slice_get, Option, Some, None}
use Rattle.std.specs.List.{list_all}
use Rattle.sail_types.specs.Named.{members, payload as payload_type}
use Rattle.sail_types.specs.Sums.{eq_atom, variable}
use Rattle.sail_types.specs.declared.numbers.Atom.TheFolds.{fold-Num}
use Rattle.sail_types.specs.declared.numbers.Atom.TheOpen as O
use Rattle.sail_types.specs.declared.numbers.Atom.TheOpen.{Atom-F, Num-F, Term-F}
use Rattle.sail_types.specs.declared.numbers.Atom.TheVariants as V
use Rattle.sail_types.specs.declared.numbers.Index.{Index}
use Rattle.sail_types.specs.declared.numbers.Index.TheVariants as N
use Rattle.sail_types.specs.declared.numbers.Num.{Num}
use Rattle.sail_types.specs.declared.table.Types.{Types}
use Rattle.sail_types.specs.declared.types.Typ.{Typ, Typ-F, out-Typ}
use Rattle.sail_types.specs.declared.types.Typ.TheOpen as T
use Rattle.sail_core.specs.declared.patterns.Arm.{Arm}
use Rattle.sail_core.specs.declared.patterns.Arm.TheVariants as A
use Rattle.sail_core.specs.declared.patterns.Form.{Form}
use Rattle.sail_core.specs.declared.patterns.Form.TheVariants as F
use Rattle.sail_core.specs.declared.patterns.Head.{Head}
use Rattle.sail_core.specs.declared.patterns.Head.TheVariants as H
use Rattle.sail_core.specs.declared.patterns.Literal.{Literal}
use Rattle.sail_core.specs.declared.patterns.Literal.TheVariants as L
use Rattle.sail_core.specs.declared.patterns.Pattern.{Pattern, fold-Pattern}

-- each of several
abbrev pub each_stands : List Bool → Bool
each_stands bs = list_all (λ b. b) bs

-- ---- literals

-- a member that its enum has
abbrev pub literal_stands : Types → Literal → Bool
literal_stands types (L.Member e k) = nat_lt k (length (members types e))
literal_stands types literal = true

-- ---- constructors: that their union has, over the payload, or over as many parts as one has that is a tuple

abbrev pub is_size : ℕ → Option ℕ → Bool
is_size k None = false
is_size k (Some n) = nat_eq n k

abbrev pub size_of : Typ-F Typ → Option ℕ
size_of (T.Tuple ts) = Some (length ts)
size_of t = None

abbrev pub payload_stands : ℕ → Typ → Bool
payload_stands (suc zero) t = true
payload_stands k t = is_size k (size_of (out-Typ t))

abbrev pub union_stands : ℕ → Option Typ → Bool
union_stands k None = false
union_stands k (Some t) = payload_stands k t

abbrev pub constructor_stands : Types → ℕ → ℕ → ℕ → Bool
constructor_stands types u c k = union_stands k (payload_type types u c)

-- ---- widths of the parts of `@`: numbers over the function's own variables, which are Int variables that stand for themselves

-- the same number: where powers of it are the same atom
abbrev pub same_num : Num → Num → Bool
same_num t u = eq_atom (V.Power t) (V.Power u)

abbrev pub is_variable : ℕ → Option Index → Bool
is_variable i (Some (N.Number t)) = same_num t (variable i)
is_variable i o = false

module _ (numbers : List Index) where
  abbrev pub atom_owns : Atom-F Bool Bool Bool → Bool
  atom_owns (O.Variable i) = is_variable i (slice_get numbers i)
  atom_owns (O.Power b) = b

  abbrev pub sum_owns : Num-F Bool Bool Bool → Bool
  sum_owns n = each_stands n.terms

  abbrev pub term_owns : Term-F Bool Bool Bool → Bool
  term_owns t = t.atom

  abbrev pub number_owns : Num → Bool
  number_owns = fold-Num Bool Bool Bool atom_owns sum_owns term_owns

  abbrev pub widths_stand : List (Option Num) → Bool
  widths_stand [] = true
  widths_stand (Some t ∷ ws) = number_owns t && widths_stand ws
  widths_stand (None ∷ ws) = widths_stand ws

-- ---- forms

abbrev pub head_stands : Types → List Index → Head → List Bool → Bool
head_stands types numbers (H.Is literal) [] = literal_stands types literal
head_stands types numbers (H.Is literal) ps = false
head_stands types numbers H.Tuple ps = each_stands ps
head_stands types numbers (H.Constructor u c) ps = constructor_stands types u c (length ps) && each_stands ps
head_stands types numbers H.Vector ps = each_stands ps
head_stands types numbers H.List ps = each_stands ps
head_stands types numbers H.Cons (p ∷ q ∷ []) = p && q
head_stands types numbers H.Cons ps = false
head_stands types numbers (H.Cut ws) ps = (nat_eq (length ws) (length ps) && widths_stand numbers ws) && each_stands ps

-- directions are read as they were resolved, before they give options
abbrev pub form_stands : Types → List Index → Form → List Bool → Bool
form_stands types numbers F.Any [] = true
form_stands types numbers (F.Binds name) [] = true
form_stands types numbers (F.As name) (p ∷ []) = p
form_stands types numbers (F.Typed written) (p ∷ []) = p
form_stands types numbers (F.Opens head) ps = head_stands types numbers head ps
form_stands types numbers (F.Maps d) (p ∷ []) = p
form_stands types numbers form ps = false

abbrev pub stands : Types → List Index → Pattern → Bool
stands types numbers = fold-Pattern Bool (λ p. form_stands types numbers p.form p.parts)

-- ---- arms

abbrev pub arm_stands : Types → List Index → Arm → Bool
arm_stands types numbers (A.Nested ps) = each_stands (map (stands types numbers) ps)
arm_stands types numbers (A.Flat count steps) = false
