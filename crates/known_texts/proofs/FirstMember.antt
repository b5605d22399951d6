-- The first member of an enum that has a name: among the names that shapes find, and in the table of types.
use Rattle.std.proofs.Common.{◌≡◌, ℕ, zero, suc, ◌+◌, List, [], ◌∷◌, ◌++◌, length, ap, sym, ◌∙◌, refl, Bool, true, false, not, cond, if◌then◌else◌, nat_lt}
use Rattle.std.proofs.Common.{arith}
use Rattle.std.specs.Prelude.{Option, Some, None, option_map, slice_get}
use Rattle.std.specs.List.{position, position_or_len}
use Rattle.std.specs.Option.{option_or}
use Rattle.std.specs.Str.{bytes_eq}
use Rattle.std.proofs.lemmas.Bool.Decides.{nat_tests}
use Rattle.sail_types.specs.declared.table.Definition.{Definition}
use Rattle.sail_types.specs.declared.table.Field.{Field}
use Rattle.sail_types.specs.declared.values.Value.{Value}
use Rattle.sail_types.specs.declared.values.Value.TheVariants as Val
use Rattle.sail_meaning.specs.Named.{Inside, here_or, member_in, standing}
use Rattle.shape_joins.proofs.JoinsLeast.{some_same}
use Rattle.shape_models.specs.declared.entries.Entry.{Entry}
use Rattle.shape_models.specs.Models as Shapes
use Rattle.shape_meanings.proofs.Settling.{same_name}
use Rattle.shape_meanings.proofs.StructNames.{bytes_same}
use Rattle.known_texts.specs.Values.{member_of}
use Rattle.known_texts.proofs.Places.{agree}

-- ---- small facts

pub or_nothing : (o : Option Value) → option_or o None ≡ o
or_nothing None = refl
or_nothing (Some v) = refl

pub or_or : (o p q : Option Value) → option_or (option_or o p) q ≡ option_or o (option_or p q)
or_or None p q = refl
or_or (Some v) p q = refl

bytes_swap : (m n : List ℕ) → bytes_eq m n ≡ bytes_eq n m
bytes_swap m n =
    agree (bytes_eq m n) (bytes_eq n m) (λ e. ap (λ (x : List ℕ). bytes_eq n x) (same_name m n e) ∙ bytes_same n)
    (λ e. ap (λ (x : List ℕ). bytes_eq m x) (same_name n m e) ∙ bytes_same m)

-- ---- the place of the first that passes

first_less : (m : ℕ) → nat_lt 0 (suc m) ≡ true
first_less m = grind (arith, nat_tests)

less_more : (n m : ℕ) → nat_lt (1 + n) (suc m) ≡ nat_lt n m
less_more n m = agree (nat_lt (1 + n) (suc m)) (nat_lt n m) there back
  where
    there : nat_lt (1 + n) (suc m) ≡ true → nat_lt n m ≡ true
    there h = grind (arith, h)

    back : nat_lt n m ≡ true → nat_lt (1 + n) (suc m) ≡ true
    back h = grind (arith, h)

none_less : nat_lt 0 0 ≡ false
none_less = refl

one_more : (n : ℕ) → (1 + n) ≡ suc n
one_more n = omega arith

shifted : (b : Bool) (n : ℕ) → cond b (Some (1 + n)) None ≡ option_map suc (cond b (Some n) None)
shifted true n = ap (λ (k : ℕ). Some k) (one_more n)
shifted false n = refl

position_by : (b : Bool) (n m : ℕ) → cond (nat_lt (cond (not b) (1 + n) 0) (suc m)) (Some (cond (not b) (1 + n) 0)) None
    ≡ (if b then Some 0 else option_map suc (cond (nat_lt n m) (Some n) None))
position_by true n m = ap (λ (b : Bool). cond b (Some 0) None) (first_less m)
position_by false n m = ap (λ (b : Bool). cond b (Some (1 + n)) None) (less_more n m) ∙ shifted (nat_lt n m) n

position_more : {A : Type 0} (p : A → Bool) (x : A) (xs : List A)
    → position p (x ∷ xs) ≡ (if p x then Some 0 else option_map suc (position p xs))
position_more p x xs = position_by (p x) (position_or_len p xs) (length xs)

pub position_none : {A : Type 0} (p : A → Bool) → position p [] ≡ None
position_none p = ap (λ (b : Bool). cond b (Some 0) None) none_less

module _ (name : List ℕ) where
  -- ---- among the names that shapes find

  abbrev pub first_member : List Entry → Option Value
  first_member [] = None
  first_member (e ∷ es) = if bytes_eq e.name name then option_or (member_of (Some e.meant)) (first_member es) else first_member es

  append_by : (b : Bool) (own rest later both : Option Value) → both ≡ option_or rest later
      → (if b then option_or own both else both) ≡ option_or (if b then option_or own rest else rest) later
  append_by true own rest later both h = ap (option_or own) h ∙ sym (or_or own rest later)
  append_by false own rest later both h = h

  pub first_append : (xs ys : List Entry) → first_member (xs ++ ys) ≡ option_or (first_member xs) (first_member ys)
  first_append [] ys = refl
  first_append (x ∷ xs) ys =
      append_by (bytes_eq x.name name) (member_of (Some x.meant)) (first_member xs) (first_member ys) (first_member (xs ++ ys)) (first_append xs ys)

  -- an entry that is no member
  pub none_if : (b : Bool) (o : Option Value) → o ≡ None → (if b then option_or None o else o) ≡ None
  none_if true o h = h
  none_if false o h = h

  pub no_constructors : (u count k : ℕ) (fs : List Field) → first_member (Shapes.constructors_from u count k fs) ≡ None
  no_constructors u count k [] = refl
  no_constructors u count k (f ∷ fs) =
      none_if (bytes_eq f.name name) (first_member (Shapes.constructors_from u count (suc k) fs)) (no_constructors u count (suc k) fs)

  none_on : (k : ℕ) → k ≡ (k + 0)
  none_on k = omega arith

  one_on : (k j : ℕ) → (suc k + j) ≡ (k + suc j)
  one_on k j = omega arith

  member_by : (i k : ℕ) (b : Bool) (o : Option ℕ) → (if b then Some (Val.Member i k) else option_map (λ j. Val.Member i (suc k + j)) o)
      ≡ option_map (λ j. Val.Member i (k + j)) (if b then Some 0 else option_map suc o)
  member_by i k true o = ap (λ (n : ℕ). Some (Val.Member i n)) (none_on k)
  member_by i k false None = refl
  member_by i k false (Some j) = ap (λ (n : ℕ). Some (Val.Member i n)) (one_on k j)

  first_from : (i k : ℕ) (ms : List (List ℕ))
      → first_member (Shapes.members_from i k ms) ≡ option_map (λ j. Val.Member i (k + j)) (position (bytes_eq name) ms)
  first_from i k [] = ap (option_map (λ j. Val.Member i (k + j))) (sym (position_none (bytes_eq name)))
  first_from i k (m ∷ ms) =
      (λ t. if bytes_swap m name t then Some (Val.Member i k) else first_from i (suc k) ms t)
      ∙ member_by i k (bytes_eq name m) (position (bytes_eq name) ms)
      ∙ ap (option_map (λ j. Val.Member i (k + j))) (sym (position_more (bytes_eq name) m ms))

  from_none : (j : ℕ) → (0 + j) ≡ j
  from_none j = omega arith

  -- the members of an enum
  pub first_in_enum : (i : ℕ) (ms : List (List ℕ))
      → first_member (Shapes.members_from i 0 ms) ≡ option_map (λ j. Val.Member i j) (position (bytes_eq name) ms)
  first_in_enum i ms = first_from i 0 ms ∙ (λ t. option_map (λ j. Val.Member i (from_none j t)) (position (bytes_eq name) ms))

  -- ---- in the table of types

  abbrev told : Option Inside → Option Value
  told o = option_map (λ at. Val.Member at.0 at.1) o

  abbrev pub in_rows : ℕ → List Definition → Option Value
  in_rows k rows = told (standing (member_in name) k rows)

  abbrev pub in_row : ℕ → Definition → Option Value
  in_row i row = option_map (λ j. Val.Member i j) (member_in name row)

  here_told : (k : ℕ) (o : Option ℕ) (later : Option Inside) → told (here_or k o later) ≡ option_or (option_map (λ j. Val.Member k j) o) (told later)
  here_told k None later = refl
  here_told k (Some j) later = refl

  last_on : (k n : ℕ) → n ≡ (k + 0) → k ≡ n
  last_on k n e = omega (arith, e)

  less_on : (k m n : ℕ) → n ≡ (k + suc m) → n ≡ (suc k + m)
  less_on k m n e = omega (arith, e)

  pub rows_more : (k n : ℕ) (rows : List Definition) (row : Definition) → n ≡ (k + length rows)
      → in_rows k (rows ++ row ∷ []) ≡ option_or (in_rows k rows) (in_row n row)
  rows_more k n [] row e =
      here_told k (member_in name row) None ∙ or_nothing (in_row k row) ∙ ap (λ (i : ℕ). in_row i row) (last_on k n e)
  rows_more k n (r ∷ rows) row e =
      here_told k (member_in name r) (standing (member_in name) (suc k) (rows ++ row ∷ []))
      ∙ ap (option_or (in_row k r)) (rows_more (suc k) n rows row (less_on k (length rows) n e))
      ∙ sym (or_or (in_row k r) (in_rows (suc k) rows) (in_row n row))
      ∙ ap (λ (o : Option Value). option_or o (in_row n row)) (sym (here_told k (member_in name r) (standing (member_in name) (suc k) rows)))

  here_none : (k : ℕ) (o : Option ℕ) (later : Option Inside) → told (here_or k o later) ≡ None → (o ≡ None) × (told later ≡ None)
  here_none k None later h = (refl, h)
  here_none k (Some j) later h = absurd (cc)

  each_none : (k : ℕ) (rows : List Definition) → in_rows k rows ≡ None → (i : ℕ) (row : Definition) → slice_get rows i ≡ Some row
      → member_in name row ≡ None
  each_none k [] h i row at = absurd (cc)
  each_none k (r ∷ rows) h zero row at =
      let own = here_none k (member_in name r) (standing (member_in name) (suc k) rows) h in
      ap (member_in name) (sym (some_same r row at)) ∙ own.0
  each_none k (r ∷ rows) h (suc i) row at =
      let own = here_none k (member_in name r) (standing (member_in name) (suc k) rows) h in
      each_none (suc k) rows own.1 i row at

  absorbed : (rows : List Definition) (i : ℕ) (row : Definition) → slice_get rows i ≡ Some row → (o : Option Value) → in_rows 0 rows ≡ o
      → option_or o (in_row i row) ≡ o
  absorbed rows i row at None e = ap (option_map (λ j. Val.Member i j)) (each_none 0 rows e i row at)
  absorbed rows i row at (Some v) e = refl

  -- a row that stands there adds nothing
  pub row_there : (rows : List Definition) (i : ℕ) (row : Definition) → slice_get rows i ≡ Some row
      → option_or (in_rows 0 rows) (in_row i row) ≡ in_rows 0 rows
  row_there rows i row at = absorbed rows i row at (in_rows 0 rows) refl
