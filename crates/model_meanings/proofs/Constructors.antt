-- A constructor on arguments of its parameters' shapes gives a value of its union.
use Rattle.std.proofs.Common.{◌≡◌, ℕ, zero, suc, ◌+◌, List, [], ◌∷◌, map, ap, sym, ◌∙◌, refl, subst, Bool, true, false, nat_eq, nat_lt, arith}
use Rattle.std.proofs.lemmas.Bool.{and_parts}
use Rattle.sail_types.specs.Named.{payload}
use Rattle.sail_types.specs.Shapes.{at, fits, payload_fits, put, shape}
use Rattle.sail_types.specs.declared.shapes.Shape.{Shape}
use Rattle.sail_types.specs.declared.shapes.Shape.TheFolds.{fold-roll-Shape}
use Rattle.sail_types.specs.declared.shapes.Shape.TheOpen as S
use Rattle.sail_types.specs.declared.shapes.Shape.TheVariants as V
use Rattle.sail_types.specs.declared.table.Types.{Types}
use Rattle.sail_types.specs.declared.types.Typ.{Typ, Typ-F, out-Typ}
use Rattle.sail_types.specs.declared.types.Typ.TheOpen as T
use Rattle.sail_types.specs.declared.values.Value.{Value}
use Rattle.sail_types.specs.declared.values.Value.TheOpen as W
use Rattle.sail_types.specs.declared.values.Value.TheVariants as Val
use Rattle.sail_core.specs.Values.{payload_of}
use Rattle.shape_joins.proofs.Order.{no, two, same_nat}
use Rattle.shape_rules.specs.declared.callees.Candidate.{Candidate}
use Rattle.shape_rules.specs.Calls.{parameters_form}
use Rattle.shape_meanings.specs.Whole.{Choice, below, below_form, all_below}
use Rattle.shape_meanings.specs.Keeping.{Fits, FitAll}
use Rattle.shape_meanings.specs.Worlds.{IsConstructor, is_payload_form, variables_from}
use Rattle.shape_meanings.proofs.Constructing.{shape_of_tuple}
use Rattle.shape_meanings.proofs.Orders.{put_args, put_below, put_variables}
use Rattle.shape_meanings.proofs.Settling.{form_has}

-- ---- a union's variables in order, with shapes in their place

none_below : (i : ℕ) → nat_lt i 0 ≡ true → ⊥
none_below i h = grind (arith, h)

variable_at : (j n i : ℕ) → nat_lt i n ≡ true → at (variables_from j n) i ≡ V.Variable (j + i)
variable_at j zero i h = absurd (none_below i h)
variable_at j (suc n) zero h = ap V.Variable (and_none j)
  where
    and_none : (j : ℕ) → j ≡ (j + 0)
    and_none j = omega arith
variable_at j (suc n) (suc i) h = variable_at (suc j) n i (less i n h) ∙ ap V.Variable (moved j i)
  where
    less : (i n : ℕ) → nat_lt (suc i) (suc n) ≡ true → nat_lt i n ≡ true
    less i n h = grind (arith, h)

    moved : (j i : ℕ) → (suc j + i) ≡ (j + suc i)
    moved j i = omega arith

own_variables : (n : ℕ) (s : Shape) → below n s ≡ true → put (at (variables_from 0 n)) s ≡ s
own_variables n s h =
    put_below s n (at (variables_from 0 n)) V.Variable (λ i l. variable_at 0 n i l ∙ ap V.Variable (none_and i)) h ∙ put_variables s
  where
    none_and : (i : ℕ) → (0 + i) ≡ i
    none_and i = omega arith

-- ---- the payload

-- what a type leaves open, and that a payload fits it
abbrev Has : Types → Choice → ℕ → Shape → List Value → Type 0
Has types c n s vs = (below n s ≡ true) × Fits types c s (payload_of vs)

one_has : (types : Types) (c : Choice) (n : ℕ) (s : Shape) (vs : List Value) → all_below n (s ∷ []) ≡ true → FitAll types c (s ∷ []) vs → Has types c n s vs
one_has types c n s [] b h = no h
one_has types c n s (v ∷ []) b h = ((and_parts (below n s) true b).0, (and_parts (fits types v (put c s)) true h).0)
one_has types c n s (v ∷ u ∷ vs) b h = no (and_parts (fits types v (put c s)) false h).1

tuple_below : (n : ℕ) (ss : List Shape) → all_below n ss ≡ true → below n (V.Tuple ss) ≡ true
tuple_below n ss h = ap (below n) (sym (V.rolls-Tuple ss)) ∙ fold-roll-Shape Bool (below_form n) (S.Tuple ss) ∙ h

several_have : (types : Types) (c : Choice) (n : ℕ) (s t : Shape) (ss : List Shape) (vs : List Value) → all_below n (s ∷ t ∷ ss) ≡ true
    → FitAll types c (s ∷ t ∷ ss) vs → Has types c n (V.Tuple (s ∷ t ∷ ss)) vs
several_have types c n s t ss [] b h = no h
several_have types c n s t ss (v ∷ []) b h = no (and_parts (fits types v (put c s)) false h).1
several_have types c n s t ss (v ∷ u ∷ vs) b h =
    let all : List Shape = s ∷ t ∷ ss in
    let args : List Value = v ∷ u ∷ vs in
    (tuple_below n all b, form_has types c (W.Tuple args) (S.Tuple all) (Val.Tuple args) (V.Tuple all) (Val.rolls-Tuple args) (V.rolls-Tuple all) h)

payload_has : (types : Types) (c : Choice) (n : ℕ) (typ : Typ) (y : Typ-F Typ) (vs : List Value) → out-Typ typ ≡ y → is_payload_form y ≡ true
    → all_below n (map shape (parameters_form typ y)) ≡ true → FitAll types c (map shape (parameters_form typ y)) vs → Has types c n (shape typ) vs
payload_has types c n typ (T.Tuple []) vs is several b h = no several
payload_has types c n typ (T.Tuple (a ∷ [])) vs is several b h = no several
payload_has types c n typ (T.Tuple (a ∷ d ∷ ts)) vs is several b h =
    subst (λ s. Has types c n s vs) (sym (shape_of_tuple typ (a ∷ d ∷ ts) is)) (several_have types c n (shape a) (shape d) (map shape ts) vs b h)
payload_has types c n typ y vs is several b h = one_has types c n (shape typ) vs b h

-- ---- the value

pub constructed_fits : (types : Types) (c : Choice) (f : Candidate) (u k : ℕ) (vs : List Value) → IsConstructor types f u k
    → all_below f.variables f.params ≡ true → FitAll types c f.params vs → Fits types c f.answer (Val.Union u k (payload_of vs))
constructed_fits types c f u k vs is whole fit =
    let n : ℕ = f.variables in
    let vars : List Shape = variables_from 0 n in
    let v : Value = payload_of vs in
    let has : Has types c n (shape is.typ) vs = payload_has types c n is.typ (out-Typ is.typ) vs refl is.several
    (subst (λ ps. all_below n ps ≡ true) is.params whole) (subst (λ ps. FitAll types c ps vs) is.params fit) in
    let own : put (at (map (put c) vars)) (shape is.typ) ≡ put c (shape is.typ) =
    put_args (shape is.typ) c vars ∙ ap (put c) (own_variables n (shape is.typ) has.0) in
    subst (λ s. Fits types c s (Val.Union u k v)) (sym is.answer)
    (form_has types c (W.Union u k v) (S.Named u vars) (Val.Union u k v) (V.Named u vars) (Val.rolls-Union u k v) (V.rolls-Named u vars)
    (two (nat_eq u u) (payload_fits (fits types v) (map (put c) vars) (payload types u k)) (same_nat u)
    (ap (payload_fits (fits types v) (map (put c) vars)) is.there ∙ ap (fits types v) own ∙ has.1)))
