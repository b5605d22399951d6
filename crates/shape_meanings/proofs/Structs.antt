-- Struct literals: each field gets its value, in whatever order they are written.
use Rattle.std.proofs.Common.{◌≡◌, ℕ, zero, suc, List, [], ◌∷◌, map, length, ap, sym, ◌∙◌, refl, subst, true, ◌⊎◌, inl, inr}
use Rattle.std.proofs.Common.{Some, None, option_map, nat_lt, slice_get, slice_set, if◌then◌else◌, arith}
use Rattle.sail_types.specs.Shapes.{fits, each_fits}
use Rattle.sail_types.specs.Sums.{and_then}
use Rattle.sail_types.specs.declared.shapes.Shape.{Shape}
use Rattle.sail_types.specs.declared.table.Types.{Types}
use Rattle.sail_types.specs.declared.values.Value.{Value, out-Value}
use Rattle.sail_types.specs.declared.values.Value.TheOpen as W
use Rattle.sail_types.specs.declared.values.Value.TheVariants as Val
use Rattle.sail_types.specs.declared.values.Value.TheViews.{out-roll-Value}
use Rattle.sail_core.specs.Values.{with_field, with_fields, set_at}
use Rattle.shape_joins.proofs.Order.{two, same_nat}
use Rattle.shape_joins.proofs.JoinsLeast.{some_same, none}

-- ---- places that are left

abbrev pub In : ℕ → List ℕ → Type 0
In k [] = ⊥
In k (x ∷ xs) = (k ≡ x) ⊎ In k xs

abbrev pub NotIn : ℕ → List ℕ → Type 0
NotIn i [] = Unit {0}
NotIn i (p ∷ ps) = ((p ≡ i) → ⊥) × NotIn i ps

-- no place comes twice
abbrev pub AllApart : List ℕ → Type 0
AllApart [] = Unit {0}
AllApart (i ∷ is) = NotIn i is × AllApart is

abbrev pub AllIn : List ℕ → List ℕ → Type 0
AllIn [] left = Unit {0}
AllIn (i ∷ is) left = In i left × AllIn is left

abbrev Left : ℕ → List ℕ → Type 0
Left i left = (rest : List ℕ) × (length left ≡ suc (length rest)) × ((k : ℕ) → In k left → (k ≡ i) ⊎ In k rest)

or_more : (i k x : ℕ) (rest : List ℕ) → (k ≡ i) ⊎ In k rest → (k ≡ i) ⊎ In k (x ∷ rest)
or_more i k x rest (inl e) = inl e
or_more i k x rest (inr p) = inr (inr p)

-- the others, without one of them
without : (i : ℕ) (left : List ℕ) → In i left → Left i left
without i [] p = absurd p
without i (x ∷ xs) (inl e) = (xs, refl, λ k p. here k p)
  where
    here : (k : ℕ) → (k ≡ x) ⊎ In k xs → (k ≡ i) ⊎ In k xs
    here k (inl is) = inl (is ∙ sym e)
    here k (inr p) = inr p
without i (x ∷ xs) (inr p) =
    let r = without i xs p in
    (x ∷ r.0, ap suc r.1, λ k q. there r.0 r.2 k q)
  where
    there : (rest : List ℕ) → ((k : ℕ) → In k xs → (k ≡ i) ⊎ In k rest) → (k : ℕ) → (k ≡ x) ⊎ In k xs → (k ≡ i) ⊎ In k (x ∷ rest)
    there rest f k (inl is) = inr (inl is)
    there rest f k (inr q) = or_more i k x rest (f k q)

still_in : (i : ℕ) (left rest is : List ℕ) → ((k : ℕ) → In k left → (k ≡ i) ⊎ In k rest) → NotIn i is → AllIn is left → AllIn is rest
still_in i left rest [] f apart all = tt
still_in i left rest (p ∷ ps) f apart all = (by_one (f p all.0), still_in i left rest ps f apart.1 all.1)
  where
    by_one : (p ≡ i) ⊎ In p rest → In p rest
    by_one (inl e) = absurd (apart.0 e)
    by_one (inr q) = q

-- ---- values that fit, or are still to be set

abbrev pub SetOr : Types → List Shape → List Value → List ℕ → Type 0
SetOr types us ws left =
    (k : ℕ) (t : Shape) → slice_get us k ≡ Some t → ((w : Value) × (slice_get ws k ≡ Some w) × (fits types w t ≡ true)) ⊎ In k left

-- the values of so many places fit the shapes there
abbrev pub AtPlaces : Types → List Shape → List ℕ → List Value → Type 0
AtPlaces types us [] [] = Unit {0}
AtPlaces types us (i ∷ is) (v ∷ vs) = ((t : Shape) × (slice_get us i ≡ Some t) × (fits types v t ≡ true)) × AtPlaces types us is vs
AtPlaces types us is vs = ⊥

one_less : (n k : ℕ) → suc n ≡ suc k → n ≡ k
one_less n k h = grind (arith, h)

pub inside : (us : List Shape) (i : ℕ) (t : Shape) → slice_get us i ≡ Some t → nat_lt i (length us) ≡ true
inside [] i t e = none e
inside (u ∷ us) zero t e = first_is (length us)
  where
    first_is : (n : ℕ) → nat_lt 0 (suc n) ≡ true
    first_is n = grind arith
inside (u ∷ us) (suc i) t e = more_is i (length us) (inside us i t e)
  where
    more_is : (i n : ℕ) → nat_lt i n ≡ true → nat_lt (suc i) (suc n) ≡ true
    more_is i n h = grind (arith, h)

set_length : (ws : List Value) (i : ℕ) (v : Value) → length (slice_set ws i v) ≡ length ws
set_length [] i v = refl
set_length (w ∷ ws) zero v = refl
set_length (w ∷ ws) (suc i) v = ap suc (set_length ws i v)

set_here : (ws : List Value) (i : ℕ) (v : Value) → nat_lt i (length ws) ≡ true → slice_get (slice_set ws i v) i ≡ Some v
set_here [] i v h = absurd (none_below i h)
  where
    none_below : (i : ℕ) → nat_lt i 0 ≡ true → ⊥
    none_below i h = grind (arith, h)
set_here (w ∷ ws) zero v h = refl
set_here (w ∷ ws) (suc i) v h = set_here ws i v (less i (length ws) h)
  where
    less : (i n : ℕ) → nat_lt (suc i) (suc n) ≡ true → nat_lt i n ≡ true
    less i n h = grind (arith, h)

-- another place is as it was, or it is this one
set_other : (ws : List Value) (i k : ℕ) (v w : Value) → slice_get ws k ≡ Some w → (k ≡ i) ⊎ (slice_get (slice_set ws i v) k ≡ Some w)
set_other [] i k v w e = none e
set_other (x ∷ xs) zero zero v w e = inl refl
set_other (x ∷ xs) zero (suc k) v w e = inr e
set_other (x ∷ xs) (suc i) zero v w e = inr e
set_other (x ∷ xs) (suc i) (suc k) v w e = further (set_other xs i k v w e)
  where
    further : (k ≡ i) ⊎ (slice_get (slice_set xs i v) k ≡ Some w) → (suc k ≡ suc i) ⊎ (slice_get (slice_set xs i v) k ≡ Some w)
    further (inl e) = inl (ap suc e)
    further (inr e) = inr e

-- the place that is set fits, and the others as before
set_or : (types : Types) (us : List Shape) (ws : List Value) (left rest : List ℕ) (i : ℕ) (v : Value) (t : Shape) → SetOr types us ws left
    → ((k : ℕ) → In k left → (k ≡ i) ⊎ In k rest) → nat_lt i (length ws) ≡ true → slice_get us i ≡ Some t → fits types v t ≡ true
    → SetOr types us (slice_set ws i v) rest
set_or types us ws left rest i v t so f lt there fit k s is = by_old (so k s is)
  where
    now_set : k ≡ i → ((w : Value) × (slice_get (slice_set ws i v) k ≡ Some w) × (fits types w s ≡ true)) ⊎ In k rest
    now_set same = inl (
      v,
      ap (slice_get (slice_set ws i v)) same ∙ set_here ws i v lt,
      subst (λ x. fits types v x ≡ true) (some_same t s (sym there ∙ ap (slice_get us) (sym same) ∙ is)) fit,
    )

    by_place : (w : Value) → fits types w s ≡ true → (k ≡ i) ⊎ (slice_get (slice_set ws i v) k ≡ Some w)
        → ((w : Value) × (slice_get (slice_set ws i v) k ≡ Some w) × (fits types w s ≡ true)) ⊎ In k rest
    by_place w fit_w (inl same) = now_set same
    by_place w fit_w (inr e) = inl (w, e, fit_w)

    by_left : (k ≡ i) ⊎ In k rest → ((w : Value) × (slice_get (slice_set ws i v) k ≡ Some w) × (fits types w s ≡ true)) ⊎ In k rest
    by_left (inl same) = now_set same
    by_left (inr p) = inr p

    by_old : ((w : Value) × (slice_get ws k ≡ Some w) × (fits types w s ≡ true)) ⊎ In k left
        → ((w : Value) × (slice_get (slice_set ws i v) k ≡ Some w) × (fits types w s ≡ true)) ⊎ In k rest
    by_old (inl old) = by_place old.0 old.2 (set_other ws i k v old.0 old.1)
    by_old (inr p) = by_left (f k p)

-- where nothing is left, all fit
all_set : (types : Types) (us : List Shape) (ws : List Value) → length ws ≡ length us → SetOr types us ws [] → each_fits (map (fits types) ws) us ≡ true
all_set types [] [] many so = refl
all_set types [] (w ∷ ws) many so = absurd (not_zero (length ws) many)
  where
    not_zero : (n : ℕ) → suc n ≡ zero → ⊥
    not_zero n h = grind (arith, h)
all_set types (u ∷ us) [] many so = absurd (zero_not (length us) many)
  where
    zero_not : (n : ℕ) → zero ≡ suc n → ⊥
    zero_not n h = grind (arith, h)
all_set types (u ∷ us) (w ∷ ws) many so =
    two (fits types w u) (each_fits (map (fits types) ws) us) (first_fits (so 0 u refl))
    (all_set types us ws (one_less (length ws) (length us) many) (λ k t is. so (suc k) t is))
  where
    first_fits : ((x : Value) × (Some w ≡ Some x) × (fits types x u ≡ true)) ⊎ ⊥ → fits types w u ≡ true
    first_fits (inl p) = subst (λ x. fits types x u ≡ true) (sym (some_same w p.0 p.1)) p.2
    first_fits (inr p) = absurd p

-- ---- one field after the other

sets : (i k : ℕ) (ws : List Value) (v : Value) → nat_lt k (length ws) ≡ true
    → with_field i k (out-Value (Val.Struct i ws)) v ≡ Some (Val.Struct i (slice_set ws k v))
sets i k ws v lt =
    ap (λ x. with_field i k x v) (ap out-Value (sym (Val.rolls-Struct i ws)) ∙ out-roll-Value (W.Struct i ws))
    ∙ ap (λ b. if b then option_map (Val.Struct i) (set_at ws k v) else None) (same_nat i)
    ∙ ap (λ b. option_map (Val.Struct i) (if b then Some (slice_set ws k v) else None)) lt

-- a struct whose places that are left are set, each once
pub struct_fits : (types : Types) (i : ℕ) (us : List Shape) (is : List ℕ) (left : List ℕ) (vs ws : List Value) → AllApart is → AllIn is left
    → length left ≡ length is → length ws ≡ length us → SetOr types us ws left → AtPlaces types us is vs
    → (done : List Value) × (with_fields i is vs (Val.Struct i ws) ≡ Some (Val.Struct i done)) × (each_fits (map (fits types) done) us ≡ true)
struct_fits types i us [] [] [] ws apart all many long so there = (ws, refl, all_set types us ws long so)
struct_fits types i us [] (x ∷ left) [] ws apart all many long so there = absurd (not_zero (length left) many)
  where
    not_zero : (n : ℕ) → suc n ≡ zero → ⊥
    not_zero n h = grind (arith, h)
struct_fits types i us [] left (v ∷ vs) ws apart all many long so there = absurd there
struct_fits types i us (k ∷ is) left [] ws apart all many long so there = absurd there
struct_fits types i us (k ∷ is) left (v ∷ vs) ws apart all many long so there =
    let rest = without k left all.0 in
    let lt : nat_lt k (length ws) ≡ true = ap (nat_lt k) long ∙ inside us k there.0.0 there.0.1 in
    let r = struct_fits types i us is rest.0 vs (slice_set ws k v) apart.1 (still_in k left rest.0 is rest.2 apart.0 all.1)
    (one_less (length rest.0) (length is) (sym rest.1 ∙ many)) (set_length ws k v ∙ long)
    (set_or types us ws left rest.0 k v there.0.0 so rest.2 lt there.0.1 there.0.2) there.1 in
    (r.0, ap (λ o. and_then o (with_fields i is vs)) (sets i k ws v lt) ∙ r.1, r.2)
