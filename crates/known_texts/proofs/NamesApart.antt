-- Members of overloads without a clash share no values.
use Rattle.std.proofs.Common.{◌≡◌, ◌⊎◌, inl, inr, ℕ, zero, suc, List, [], ◌∷◌, ◌++◌, map, ap, sym, refl, subst, Bool, true, false, Option, Some, None}
use Rattle.std.proofs.Common.{if◌then◌else◌}
use Rattle.std.specs.Prelude.{slice_get}
use Rattle.std.specs.Str.{bytes_eq}
use Rattle.sail_base.specs.Operators.{number_of}
use Rattle.sail_base.specs.declared.operators.Operator.{Operator}
use Rattle.sail_base.specs.declared.operators.Operator.TheVariants as O
use Rattle.sail_base.specs.declared.place.Place.{Place}
use Rattle.sail_syntax.specs.declared.name.Name.{Name}
use Rattle.sail_syntax.specs.declared.definitions.Def.{Def}
use Rattle.sail_syntax.specs.declared.definitions.Def.TheVariants as D
use Rattle.sail_syntax.specs.declared.definitions.Overloaded.TheVariants as Over
use Rattle.sail_types.specs.declared.table.Types.{Types}
use Rattle.shape_joins.specs.Numbering.{overlaps}
use Rattle.shape_joins.proofs.JoinsLeast.{none, some_same}
use Rattle.shape_rules.specs.declared.callees.Candidate.{Candidate}
use Rattle.shape_rules.specs.declared.error.ShapeError.{ShapeError}
use Rattle.shape_rules.specs.declared.error.ShapeError.TheVariants as error
use Rattle.shape_rules.specs.Written.{joined}
use Rattle.shape_models.specs.declared.clashes.Added.{Added}
use Rattle.shape_models.specs.Models.{Own, added_to_name, added_to_operator, adds_to_name, adds_to_operator, candidates, member_of, members_at}
use Rattle.shape_models.specs.Models.{named_faults, operator_added, operators, overloads_by, overloads_faults, overloads_in, same_operator}
use Rattle.shape_models.specs.Overloads.{clash_of, clashes_behind, clashes_with, overload_faults, placed}
use Rattle.shape_meanings.specs.Worlds.{ApartFrom, Distinct}
use Rattle.shape_meanings.proofs.Settling.{both_empty, same_name}
use Rattle.row_meanings.specs.Rows.{EachApart, operator_first}

not_empty : {A B : Type 0} {x : A} {xs : List A} → (x ∷ xs) ≡ [] → B
not_empty e = absurd (never e)
  where
    never : {A : Type 0} {x : A} {xs : List A} → (x ∷ xs) ≡ [] → ⊥
    never e = cc

-- ---- members in order

abbrev IsPlaced : Option Place → Type 0
IsPlaced None = ⊥
IsPlaced (Some place) = Unit {0}

abbrev ArePlaced : List Added → Type 0
ArePlaced [] = Unit {0}
ArePlaced (x ∷ xs) = IsPlaced x.place × ArePlaced xs

-- each of some members and one behind them
abbrev AllApart : List Candidate → Candidate → Type 0
AllApart [] g = Unit {0}
AllApart (f ∷ fs) g = (overlaps f.params g.params ≡ false) × AllApart fs g

no_clash : (f g : Candidate) (o : Option Place) → IsPlaced o → clash_of f g o ≡ [] → overlaps f.params g.params ≡ false
no_clash f g None is e = absurd is
no_clash f g (Some place) is e = by_overlap (overlaps f.params g.params) e
  where
    by_overlap : (b : Bool) → (if b then error.Overlap place f.name g.name ∷ [] else []) ≡ [] → b ≡ false
    by_overlap true e = not_empty e
    by_overlap false e = refl

no_clashes : (fs : List Candidate) (x : Added) → IsPlaced x.place → clashes_with fs x ≡ [] → AllApart fs x.member
no_clashes [] x is e = tt
no_clashes (f ∷ fs) x is e =
    let b = both_empty (clash_of f x.member x.place) (clashes_with fs x) e in
    (no_clash f x.member x.place is b.0, no_clashes fs x is b.1)

apart_more : (fs : List Candidate) (g : Candidate) (gs : List Candidate) → AllApart fs g → EachApart fs gs → EachApart fs (g ∷ gs)
apart_more [] g gs a b = tt
apart_more (f ∷ fs) g gs a b = ((a.0, b.0), apart_more fs g gs a.1 b.1)

apart_none : (fs : List Candidate) → EachApart fs []
apart_none [] = tt
apart_none (f ∷ fs) = (tt, apart_none fs)

apart_parts : (fs : List Candidate) (g : Candidate) (gs : List Candidate) → EachApart (fs ++ g ∷ []) gs → EachApart fs gs × ApartFrom g gs
apart_parts [] g gs h = (tt, h.0)
apart_parts (f ∷ fs) g gs h =
    let r = apart_parts fs g gs h.1 in
    ((h.0, r.0), r.1)

apart_all : (before : List Candidate) (xs : List Added) → ArePlaced xs → clashes_behind before xs ≡ []
    → EachApart before (candidates xs) × Distinct (candidates xs)
apart_all before [] are e = (apart_none before, tt)
apart_all before (x ∷ xs) are e =
    let b = both_empty (clashes_with before x) (clashes_behind (before ++ x.member ∷ []) xs) e in
    let r = apart_all (before ++ x.member ∷ []) xs are.1 b.1 in
    let p = apart_parts before x.member (candidates xs) r.0 in
    (apart_more before x.member (candidates xs) (no_clashes before x are.0 b.0) p.0, (p.1, r.1))

-- builtin members come first, and clash with none
behind_builtins : (before fs : List Candidate) (xs : List Added) → clashes_behind before (map (placed None) fs ++ xs) ≡ []
    → clashes_behind (before ++ fs) xs ≡ []
behind_builtins before [] xs e = subst (λ fs. clashes_behind fs xs ≡ []) (sym (nothing_more before)) e
  where
    nothing_more : (fs : List Candidate) → (fs ++ []) ≡ fs
    nothing_more [] = refl
    nothing_more (f ∷ fs) = ap (λ gs. f ∷ gs) (nothing_more fs)
behind_builtins before (f ∷ fs) xs e =
    subst (λ gs. clashes_behind gs xs ≡ []) (sym (one_behind before f fs))
    (behind_builtins (before ++ f ∷ []) fs xs
    (both_empty (clashes_with before (placed None f)) (clashes_behind (before ++ f ∷ []) (map (placed None) fs ++ xs)) e).1)
  where
    one_behind : (fs : List Candidate) (g : Candidate) (gs : List Candidate) → (fs ++ g ∷ gs) ≡ ((fs ++ g ∷ []) ++ gs)
    one_behind [] g gs = refl
    one_behind (f ∷ fs) g gs = ap (λ hs. f ∷ hs) (one_behind fs g gs)

-- ---- what definitions add

placed_join : (xs ys : List Added) → ArePlaced xs → ArePlaced ys → ArePlaced (xs ++ ys)
placed_join [] ys a b = b
placed_join (x ∷ xs) ys a b = (a.0, placed_join xs ys a.1 b)

placed_each : (place : Place) (fs : List Candidate) → ArePlaced (map (placed (Some place)) fs)
placed_each place [] = tt
placed_each place (f ∷ fs) = (tt, placed_each place fs)

members_placed : (types : Types) (own : Own) (place : Place) (names : List Name) → ArePlaced (members_at types own place names)
members_placed types own place [] = tt
members_placed types own place (n ∷ names) =
    placed_join (map (placed (Some place)) (member_of types own n)) (members_at types own place names) (placed_each place (member_of types own n))
    (members_placed types own place names)

placed_if : (b : Bool) (xs : List Added) → ArePlaced xs → ArePlaced (if b then xs else [])
placed_if true xs h = h
placed_if false xs h = tt

name_placed : (types : Types) (own : Own) (name : List ℕ) (d : Def) → ArePlaced (adds_to_name types own name d)
name_placed types own name (D.Overload place (Over.Named it) names) =
    placed_if (bytes_eq it.text name) (members_at types own place names) (members_placed types own place names)
name_placed types own name d = tt

names_placed : (types : Types) (own : Own) (text : List Def) (name : List ℕ) → ArePlaced (added_to_name types own text name)
names_placed types own [] name = tt
names_placed types own (d ∷ text) name =
    placed_join (adds_to_name types own name d) (added_to_name types own text name) (name_placed types own name d) (names_placed types own text name)

operator_placed : (types : Types) (own : Own) (operator : Operator) (d : Def) → ArePlaced (adds_to_operator types own operator d)
operator_placed types own operator (D.Overload place (Over.Operator at it) names) =
    placed_if (same_operator it operator) (members_at types own place names) (members_placed types own place names)
operator_placed types own operator d = tt

operators_placed : (types : Types) (own : Own) (text : List Def) (operator : Operator) → ArePlaced (added_to_operator types own text operator)
operators_placed types own [] operator = tt
operators_placed types own (d ∷ text) operator =
    placed_join (adds_to_operator types own operator d) (added_to_operator types own text operator) (operator_placed types own operator d)
    (operators_placed types own text operator)

-- ---- overloads of names

module _ (types : Types) (own : Own) (text : List Def) (name : List ℕ) where
  -- no definition of some adds to the name, or its members don't clash
  abbrev NoneOrApart : List Def → Type 0
  NoneOrApart more = (added_to_name types own more name ≡ []) ⊎ (overload_faults (added_to_name types own text name) ≡ [])

  by_name : (place : Place) (it : Name) (names : List Name) (more : List Def) (b : Bool) → bytes_eq it.text name ≡ b
      → overload_faults (added_to_name types own text it.text) ≡ [] → NoneOrApart more
      → ((if b then members_at types own place names else []) ++ added_to_name types own more name ≡ [])
      ⊎ (overload_faults (added_to_name types own text name) ≡ [])
  by_name place it names more true is e later =
      inr (subst (λ n. overload_faults (added_to_name types own text n) ≡ []) (same_name it.text name is) e)
  by_name place it names more false is e later = later

  none_or_apart : (more : List Def) → named_faults (joined (map (overloads_by types own text) more)) ≡ [] → NoneOrApart more
  none_or_apart [] e = inl refl
  none_or_apart ((D.Overload place (Over.Named it) names) ∷ more) e =
      let b = both_empty (overload_faults (added_to_name types own text it.text)) (named_faults (joined (map (overloads_by types own text) more))) e in
      by_name place it names more (bytes_eq it.text name) refl b.0 (none_or_apart more b.1)
  none_or_apart (d ∷ more) e = none_or_apart more e

pub names_do_not_clash : (types : Types) (own : Own) (text : List Def) → overloads_faults types own text ≡ []
    → (name : List ℕ) → Distinct (candidates (added_to_name types own text name))
names_do_not_clash types own text e name =
    by_either (none_or_apart types own text name text
    (both_empty (named_faults (overloads_in types own text)) (joined (map (λ operator. overload_faults (operator_added types own text operator)) operators))
    e).0)
  where
    by_either : NoneOrApart types own text name text → Distinct (candidates (added_to_name types own text name))
    by_either (inl h) = subst (λ xs. Distinct (candidates xs)) (sym h) tt
    by_either (inr h) = (apart_all [] (added_to_name types own text name) (names_placed types own text name) h).1

-- ---- overloads of operators

faults_at : {A : Type 0} (f : A → List ShapeError) (xs : List A) (k : ℕ) (x : A) → joined (map f xs) ≡ [] → slice_get xs k ≡ Some x → f x ≡ []
faults_at f [] k x e there = none there
faults_at f (y ∷ xs) zero x e there = subst (λ z. f z ≡ []) (some_same y x there) (both_empty (f y) (joined (map f xs)) e).0
faults_at f (y ∷ xs) (suc k) x e there = faults_at f xs k x (both_empty (f y) (joined (map f xs)) e).1 there

-- operators stand by their numbers
operator_there : (operator : Operator) → slice_get operators (number_of operator) ≡ Some operator
operator_there O.Caret = refl
operator_there O.Star = refl
operator_there O.ShiftLeft = refl
operator_there O.ShiftRight = refl
operator_there O.Plus = refl
operator_there O.Minus = refl
operator_there O.Append = refl
operator_there O.Cons = refl
operator_there O.Equal = refl
operator_there O.NotEqual = refl
operator_there O.Less = refl
operator_there O.LessEqual = refl
operator_there O.Greater = refl
operator_there O.GreaterEqual = refl
operator_there O.LessUnsigned = refl
operator_there O.LessEqualUnsigned = refl
operator_there O.GreaterUnsigned = refl
operator_there O.GreaterEqualUnsigned = refl
operator_there O.LessSigned = refl
operator_there O.LessEqualSigned = refl
operator_there O.GreaterSigned = refl
operator_there O.GreaterEqualSigned = refl
operator_there O.And = refl
operator_there O.Or = refl

pub operators_do_not_clash : (types : Types) (own : Own) (text : List Def) → overloads_faults types own text ≡ []
    → (operator : Operator)
    → EachApart (operator_first types operator) (candidates (added_to_operator types own text operator))
    × Distinct (candidates (added_to_operator types own text operator))
operators_do_not_clash types own text e operator =
    apart_all (operator_first types operator) (added_to_operator types own text operator) (operators_placed types own text operator)
    (behind_builtins [] (operator_first types operator) (added_to_operator types own text operator)
    (faults_at (λ o. overload_faults (operator_added types own text o)) operators (number_of operator) operator
    (both_empty (named_faults (overloads_in types own text)) (joined (map (λ o. overload_faults (operator_added types own text o)) operators)) e).1
    (operator_there operator)))
