-- Fields of a struct literal: each has a value, at a place of its own.
use Rattle.std.proofs.Common.{◌≡◌, ℕ, zero, suc, List, [], ◌∷◌, length, ap, sym, ◌∙◌, refl, subst, Bool, true, false, ◌||◌, ◌⊎◌, inl, inr, Some}
use Rattle.std.proofs.Common.{nat_eq, nat_lt, slice_get, arith}
use Rattle.std.specs.List.{list_all, list_any}
use Rattle.std.proofs.lemmas.Bool.{and_parts}
use Rattle.std.proofs.lemmas.Bool.Decides.{Decides-eqb}
use Rattle.sail_types.specs.declared.shapes.Shape.{Shape}
use Rattle.sail_types.specs.declared.table.Field.{Field}
use Rattle.shape_joins.proofs.JoinsLeast.{none}
use Rattle.shape_joins.proofs.Order.{two}
use Rattle.shape_rules.specs.Targets.{InStruct, field_named}
use Rattle.shape_rules.specs.Values.{FieldPart, Named, fields_named}
use Rattle.shape_meanings.specs.Parts.{NamesApart, NotNamed}
use Rattle.shape_meanings.proofs.StructLiterals.{named_at, one_name, places_count}
use Rattle.shape_meanings.proofs.Structs.{AllApart, AllIn, In, NotIn}
use Rattle.shape_meanings.proofs.Withs.{Placed, placed_are}
use Rattle.soundness_forms.specs.Standing.{each_given, has_fields}

-- ---- as many different places as there are: each is among them

abbrev Left : ℕ → List ℕ → Type 0
Left i left = (rest : List ℕ) × (length left ≡ suc (length rest)) × ((k : ℕ) → In k left → (k ≡ i) ⊎ In k rest)

or_more : (i k x : ℕ) (rest : List ℕ) → (k ≡ i) ⊎ In k rest → (k ≡ i) ⊎ In k (x ∷ rest)
or_more i k x rest (inl e) = inl e
or_more i k x rest (inr p) = inr (inr p)

without : (i : ℕ) (left : List ℕ) → In i left → Left i left
without i [] p = absurd p
without i (x ∷ xs) (inl e) = (xs, refl, λ k p. here k p)
  where
    here : (k : ℕ) → (k ≡ x) ⊎ In k xs → (k ≡ i) ⊎ In k xs
    here k (inl is) = inl (is ∙ sym e)
    here k (inr p) = inr p
without i (x ∷ xs) (inr p) =
    let r = without i xs p in
    (x ∷ r.0, ap suc r.1, λ k q. there r.0 r.2 k q)
  where
    there : (rest : List ℕ) → ((k : ℕ) → In k xs → (k ≡ i) ⊎ In k rest) → (k : ℕ) → (k ≡ x) ⊎ In k xs → (k ≡ i) ⊎ In k (x ∷ rest)
    there rest f k (inl is) = inr (inl is)
    there rest f k (inr q) = or_more i k x rest (f k q)

still_in : (i : ℕ) (left rest is : List ℕ) → ((k : ℕ) → In k left → (k ≡ i) ⊎ In k rest) → NotIn i is → AllIn is left → AllIn is rest
still_in i left rest [] f apart all = tt
still_in i left rest (p ∷ ps) f apart all = (by_one (f p all.0), still_in i left rest ps f apart.1 all.1)
  where
    by_one : (p ≡ i) ⊎ In p rest → In p rest
    by_one (inl e) = absurd (apart.0 e)
    by_one (inr q) = q

one_less : (n k : ℕ) → suc n ≡ suc k → n ≡ k
one_less n k h = grind (arith, h)

covers : (ks left : List ℕ) → AllApart ks → AllIn ks left → length left ≡ length ks → (i : ℕ) → In i left → In i ks
covers [] [] apart all many i p = p
covers [] (x ∷ left) apart all many i p = absurd (not_zero (length left) many)
  where
    not_zero : (n : ℕ) → suc n ≡ zero → ⊥
    not_zero n h = grind (arith, h)
covers (k ∷ ks) left apart all many i p =
    let rest = without k left all.0 in
    by rest.0 (covers ks rest.0 apart.1 (still_in k left rest.0 ks rest.2 apart.0 all.1) (one_less (length rest.0) (length ks) (sym rest.1 ∙ many)))
    (rest.2 i p)
  where
    by : (more : List ℕ) → ((j : ℕ) → In j more → In j ks) → (i ≡ k) ⊎ In i more → (i ≡ k) ⊎ In i ks
    by more f (inl e) = inl e
    by more f (inr q) = inr (f i q)

-- ---- all places of so many

abbrev places_to : ℕ → List ℕ
places_to zero = []
places_to (suc n) = n ∷ places_to n

so_many : (n : ℕ) → length (places_to n) ≡ n
so_many zero = refl
so_many (suc n) = ap suc (so_many n)

there : (k n : ℕ) → nat_lt k n ≡ true → In k (places_to n)
there k zero h = absurd (none_below k h)
  where
    none_below : (k : ℕ) → nat_lt k 0 ≡ true → ⊥
    none_below k h = grind (arith, h)
there k (suc n) h = by (nat_eq k n) refl (λ l. there k n l)
  where
    same : (k n : ℕ) → nat_eq k n ≡ true → k ≡ n
    same k n h = grind (arith, h)

    less : (k n : ℕ) → nat_eq k n ≡ false → nat_lt k (suc n) ≡ true → nat_lt k n ≡ true
    less k n is h = grind (arith, is, h)

    by : (b : Bool) → nat_eq k n ≡ b → (nat_lt k n ≡ true → In k (places_to n)) → (k ≡ n) ⊎ In k (places_to n)
    by true is later = inl (same k n is)
    by false is later = inr (later (less k n is h))

all_there : (n : ℕ) (ks : List ℕ) → list_all (λ k. nat_lt k n) ks ≡ true → AllIn ks (places_to n)
all_there n [] h = tt
all_there n (k ∷ ks) h =
    let b = and_parts (nat_lt k n) (list_all (λ j. nat_lt j n) ks) h in (there k n b.0, all_there n ks b.1)

any_in : (i : ℕ) (ks : List ℕ) → In i ks → list_any (nat_eq i) ks ≡ true
any_in i [] p = absurd p
any_in i (k ∷ ks) (inl e) = ap (λ b. b || list_any (nat_eq i) ks) ((Decides-eqb i k).1 e)
any_in i (k ∷ ks) (inr p) = or_else (nat_eq i k) (any_in i ks p)
  where
    or_else : (b : Bool) → list_any (nat_eq i) ks ≡ true → (b || list_any (nat_eq i) ks) ≡ true
    or_else true h = refl
    or_else false h = h

given_each : (n : ℕ) (ks : List ℕ) → ((i : ℕ) → nat_lt i n ≡ true → In i ks) → each_given n ks ≡ true
given_each zero ks h = refl
given_each (suc n) ks h =
    two (list_any (nat_eq n) ks) (each_given n ks) (any_in n ks (h n (last n))) (given_each n ks (λ i l. h i (more i n l)))
  where
    last : (n : ℕ) → nat_lt n (suc n) ≡ true
    last n = grind arith

    more : (i n : ℕ) → nat_lt i n ≡ true → nat_lt i (suc n) ≡ true
    more i n h = grind (arith, h)

-- ---- places of fields

inside : (fl : List Field) (i : ℕ) (f : Field) → slice_get fl i ≡ Some f → nat_lt i (length fl) ≡ true
inside [] i f e = none e
inside (g ∷ fl) zero f e = first_is (length fl)
  where
    first_is : (n : ℕ) → nat_lt 0 (suc n) ≡ true
    first_is n = grind arith
inside (g ∷ fl) (suc i) f e = more_is i (length fl) (inside fl i f e)
  where
    more_is : (i n : ℕ) → nat_lt i n ≡ true → nat_lt (suc i) (suc n) ≡ true
    more_is i n h = grind (arith, h)

not_at : (fl : List Field) (name : List ℕ) (f : InStruct) (fs : List FieldPart) (is : List ℕ) (ss : List Shape) → field_named name fl ≡ Some f
    → NotNamed name fs → Placed (Some fl) fs is ss → NotIn f.place is
not_at fl name f [] [] [] h apart placed = tt
not_at fl name f (p ∷ ps) (i ∷ is) (s ∷ ss) h apart placed = (
  λ same. true_false (sym (one_name fl p.name.text name placed.0.0 f placed.0.1 h (placed.0.2 ∙ same)) ∙ apart.0),
  not_at fl name f ps is ss h apart.1 placed.1,
)
  where
    true_false : true ≡ false → ⊥
    true_false h = cc
not_at fl name f [] [] (s ∷ ss) h apart placed = absurd placed
not_at fl name f [] (i ∷ is) ss h apart placed = absurd placed
not_at fl name f (p ∷ ps) [] ss h apart placed = absurd placed
not_at fl name f (p ∷ ps) (i ∷ is) [] h apart placed = absurd placed

places_apart : (fl : List Field) (fs : List FieldPart) (is : List ℕ) (ss : List Shape) → NamesApart fs → Placed (Some fl) fs is ss → AllApart is
places_apart fl [] [] [] apart placed = tt
places_apart fl (f ∷ fs) (i ∷ is) (s ∷ ss) apart placed =
    (subst (λ k. NotIn k is) placed.0.2 (not_at fl f.name.text placed.0.0 fs is ss placed.0.1 apart.0 placed.1), places_apart fl fs is ss apart.1 placed.1)
places_apart fl [] [] (s ∷ ss) apart placed = absurd placed
places_apart fl [] (i ∷ is) ss apart placed = absurd placed
places_apart fl (f ∷ fs) [] ss apart placed = absurd placed
places_apart fl (f ∷ fs) (i ∷ is) [] apart placed = absurd placed

places_below : (fl : List Field) (fs : List FieldPart) (is : List ℕ) (ss : List Shape) → Placed (Some fl) fs is ss
    → list_all (λ k. nat_lt k (length fl)) is ≡ true
places_below fl [] [] [] placed = refl
places_below fl (f ∷ fs) (i ∷ is) (s ∷ ss) placed =
    let at = named_at fl f.name.text placed.0.0 placed.0.1 in
    two (nat_lt i (length fl)) (list_all (λ k. nat_lt k (length fl)) is)
    (subst (λ k. nat_lt k (length fl) ≡ true) placed.0.2 (inside fl placed.0.0.place at.0 at.1)) (places_below fl fs is ss placed.1)
places_below fl [] [] (s ∷ ss) placed = absurd placed
places_below fl [] (i ∷ is) ss placed = absurd placed
places_below fl (f ∷ fs) [] ss placed = absurd placed
places_below fl (f ∷ fs) (i ∷ is) [] placed = absurd placed

pub fields_hold : (fl : List Field) (fs : List FieldPart) (named : Named) (n : ℕ) → fields_named fs (Some fl) ≡ Some named → NamesApart fs
    → length fl ≡ length fs → n ≡ length fl → has_fields named.places n (Some fl) ≡ true
fields_hold fl fs named n is apart many count =
    let placed = placed_are fs (Some fl) named is in
    let full : length named.places ≡ length fl = places_count (Some fl) fs named.places named.shapes placed ∙ sym many in
    let below = places_below fl fs named.places named.shapes placed in
    two (nat_eq n (length fl)) _ ((Decides-eqb n (length fl)).1 count)
    (two (nat_eq (length named.places) (length fl)) _ ((Decides-eqb (length named.places) (length fl)).1 full)
    (two (each_given (length fl) named.places) (list_all (λ k. nat_lt k (length fl)) named.places)
    (given_each (length fl) named.places (λ i l. covers named.places (places_to (length fl)) (places_apart fl fs named.places named.shapes apart placed)
    (all_there (length fl) named.places below) (so_many (length fl) ∙ sym full) i (there i (length fl) l))) below))
