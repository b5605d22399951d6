-- Where what a call owes is true under an assignment, the conditions of its row are true of the numbers that its
-- arguments have there.
use Rattle.std.proofs.Common.{◌≡◌, ℕ, Bool, true, false, not, List, [], ◌∷◌, map, ap, sym, ◌∙◌, refl, subst}
use Rattle.std.specs.Prelude.{ℤ, ◌&&◌, Option, Some, None, option_map, unwrap_or}
use Rattle.std.specs.List.{list_all, list_any}
use Rattle.std.specs.Ordering.{int_eq}
use Rattle.std.proofs.lemmas.Bool.{false≢true}
use Rattle.sail_types.specs.Numbers.{Assignment, number, true_in, form_true, compares}
use Rattle.sail_types.specs.Readings.{read_con, form_read, together, more, truth_at}
use Rattle.sail_types.specs.Sums.{and_then, read, number_at}
use Rattle.sail_types.specs.declared.numbers.Comparison.{Comparison}
use Rattle.sail_types.specs.declared.numbers.Con.{Con, Con-F, roll-Con, fold-roll-Con, map-Con, ind-Con}
use Rattle.sail_types.specs.declared.numbers.Con.TheOpen as F
use Rattle.sail_types.specs.declared.numbers.Con.TheVariants as C
use Rattle.sail_types.specs.declared.numbers.Index.{Index}
use Rattle.sail_types.specs.declared.numbers.Num.{Num}
use Rattle.sail_types.proofs.Substituted.{substituted_number}
use Rattle.builtins.specs.RowValues.{Opened}
use Rattle.row_types.specs.declared.kinds.RowType.{RowType}
use Rattle.row_types.specs.Calls.{is_met}
use Rattle.row_types.specs.Calls as Of
use Rattle.row_types.specs.Goals.{owed, read_under}

-- ---- options and lists

then_some : {A B : Type 0} (o : Option A) (f : A → Option B) (b : B) → and_then o f ≡ Some b
    → (a : A) × (o ≡ Some a) × (f a ≡ Some b)
then_some None f b e = absurd (cc)
then_some (Some a) f b e = (a, refl, e)

mapped_some : {A B : Type 0} (o : Option A) (f : A → B) (b : B) → option_map f o ≡ Some b
    → (a : A) × (o ≡ Some a) × (f a ≡ b)
mapped_some None f b e = absurd (cc)
mapped_some (Some a) f b e = (a, refl, let k : f a ≡ b = cc in k)

more_some : {A : Type 0} (o : Option A) (os : Option (List A)) (ys : List A) → more o os ≡ Some ys
    → (x : A) × (xs : List A) × (o ≡ Some x) × (os ≡ Some xs) × (x ∷ xs ≡ ys)
more_some None os ys e = absurd (cc)
more_some (Some x) os ys e = let p = mapped_some os (λ xs. x ∷ xs) ys e in (x, p.0, refl, p.1, p.2)

some_is : {A : Type 0} (x y : A) → Some x ≡ Some y → x ≡ y
some_is x y e = cc

all_mapped : {A : Type 0} (f : A → Bool) (xs : List A) → list_all (λ b. b) (map f xs) ≡ list_all f xs
all_mapped f [] = refl
all_mapped f (x ∷ xs) = ap (λ b. f x && b) (all_mapped f xs)

module _ (indices : List Index) (nu : Assignment) where
  seen : Assignment
  seen = read_under indices nu

  -- a number that is read is what it is under the assignment before
  number_read : (t m : Num) → read indices t ≡ Some m → number nu m ≡ number (read_under indices nu) t
  number_read t m e = substituted_number (number_at indices) t nu m e

  abbrev Keeps : Con → Type 0
  Keeps c = (d : Con) → read_con indices c ≡ Some d → true_in nu d ≡ true_in (read_under indices nu) c

  abbrev Such : Type 0
  Such = (c : Con) × Keeps c

  -- lists of constraints, each of which is kept
  list_kept : (ys : List Such) (ds : List Con)
      → together (map (read_con indices) (map (λ (p : Such). p.0) ys)) ≡ Some ds
      → map (true_in nu) ds ≡ map (true_in (read_under indices nu)) (map (λ (p : Such). p.0) ys)
  list_kept [] ds e = ap (map (true_in nu)) (sym (some_is [] ds e))
  list_kept (y ∷ ys) ds e =
      let p = more_some (read_con indices y.0)
      (together (map (read_con indices) (map (λ (p : Such). p.0) ys))) ds e in
      ap (map (true_in nu)) (sym p.4) ∙ (λ i. y.1 p.0 p.2 i ∷ list_kept ys p.1 p.3 i)

  truth_true : (b : Bool) → true_in nu (C.Truth b) ≡ b
  truth_true b = ap (true_in nu) (sym (C.rolls-Truth b)) ∙ fold-roll-Con Bool (form_true nu) (F.Truth b)

  compare_true : (how : Comparison) (t u : Num)
      → true_in nu (C.Compare how t u) ≡ compares how (number nu t) (number nu u)
  compare_true how t u = ap (true_in nu) (sym (C.rolls-Compare how t u))
      ∙ fold-roll-Con Bool (form_true nu) (F.Compare how t u)

  one_of_true : (t : Num) (zs : List ℤ) → true_in nu (C.OneOf t zs) ≡ list_any (int_eq (number nu t)) zs
  one_of_true t zs = ap (true_in nu) (sym (C.rolls-OneOf t zs)) ∙ fold-roll-Con Bool (form_true nu) (F.OneOf t zs)

  not_true : (c : Con) → true_in nu (C.Not c) ≡ not (true_in nu c)
  not_true c = ap (true_in nu) (sym (C.rolls-Not c)) ∙ fold-roll-Con Bool (form_true nu) (F.Not c)

  all_true : (cs : List Con) → true_in nu (C.All cs) ≡ list_all (λ b. b) (map (true_in nu) cs)
  all_true cs = ap (true_in nu) (sym (C.rolls-All cs)) ∙ fold-roll-Con Bool (form_true nu) (F.All cs)

  any_true : (cs : List Con) → true_in nu (C.Any cs) ≡ list_any (λ b. b) (map (true_in nu) cs)
  any_true cs = ap (true_in nu) (sym (C.rolls-Any cs)) ∙ fold-roll-Con Bool (form_true nu) (F.Any cs)

  -- one form, whose parts are kept
  form_kept : (y : Con-F Such) (d : Con)
      → form_read indices (map-Con Con (Option Con) (read_con indices) (map-Con Such Con (λ p. p.0) y)) ≡ Some d
      → true_in nu d ≡ form_true (read_under indices nu)
      (map-Con Con Bool (true_in (read_under indices nu)) (map-Con Such Con (λ p. p.0) y))
  form_kept (F.Truth b) d e = ap (true_in nu) (sym (some_is (C.Truth b) d e)) ∙ truth_true b
  form_kept (F.Holds i) d e = ap (true_in nu) (sym (some_is (truth_at indices i) d e))
  form_kept (F.Compare how t u) d e =
      let p = then_some (read indices t) (λ m. option_map (C.Compare how m) (read indices u)) d e in
      let q = mapped_some (read indices u) (C.Compare how p.0) d p.2 in
      ap (true_in nu) (sym q.2) ∙ compare_true how p.0 q.0
      ∙ (λ i. compares how (number_read t p.0 p.1 i) (number_read u q.0 q.1 i))
  form_kept (F.OneOf t zs) d e =
      let p = mapped_some (read indices t) (λ m. C.OneOf m zs) d e in
      ap (true_in nu) (sym p.2) ∙ one_of_true p.0 zs ∙ (λ i. list_any (int_eq (number_read t p.0 p.1 i)) zs)
  form_kept (F.Not y) d e =
      let p = mapped_some (read_con indices y.0) C.Not d e in
      ap (true_in nu) (sym p.2) ∙ not_true p.0 ∙ ap not (y.1 p.0 p.1)
  form_kept (F.All ys) d e =
      let p = mapped_some (together (map (read_con indices) (map (λ (p : Such). p.0) ys))) C.All d e in
      ap (true_in nu) (sym p.2) ∙ all_true p.0 ∙ ap (list_all (λ b. b)) (list_kept ys p.0 p.1)
  form_kept (F.Any ys) d e =
      let p = mapped_some (together (map (read_con indices) (map (λ (p : Such). p.0) ys))) C.Any d e in
      ap (true_in nu) (sym p.2) ∙ any_true p.0 ∙ ap (list_any (λ b. b)) (list_kept ys p.0 p.1)

  rolled_kept : (y : Con-F Such) → Keeps (roll-Con (map-Con Such Con (λ p. p.0) y))
  rolled_kept y d e =
      form_kept y d (sym (fold-roll-Con (Option Con) (form_read indices) (map-Con Such Con (λ p. p.0) y)) ∙ e)
      ∙ sym (fold-roll-Con Bool (form_true (read_under indices nu)) (map-Con Such Con (λ p. p.0) y))

  -- a constraint that is read is true where it was before
  pub con_read : (c : Con) → Keeps c
  con_read = ind-Con Keeps (λ e y is. subst (λ d. Keeps (roll-Con d)) is (rolled_kept y))

  unread : (o : Option Con) (cs : List Con) → read_con indices (C.All cs) ≡ o
      → true_in nu (unwrap_or o (C.Truth false)) ≡ true
      → true_in (read_under indices nu) (C.All cs) ≡ true
  unread None cs e h = absurd (false≢true (sym (truth_true false) ∙ h))
  unread (Some d) cs e h = sym (con_read (C.All cs) d e) ∙ h

  -- what a call owes is true only where each condition of its row is
  pub owed_true : (cs : List Con) → true_in nu (owed cs indices) ≡ true
      → list_all (true_in (read_under indices nu)) cs ≡ true
  owed_true cs h =
      let mu = read_under indices nu in
      let whole = unread (read_con indices (C.All cs)) cs refl h in
      let parts : true_in mu (C.All cs) ≡ list_all (λ b. b) (map (true_in mu) cs) =
      ap (true_in mu) (sym (C.rolls-All cs)) ∙ fold-roll-Con Bool (form_true mu) (F.All cs) in
      sym (all_mapped (true_in mu) cs) ∙ sym parts ∙ whole

  -- and where the variables stand for the numbers of arguments, these conditions are true of the arguments
  pub goal_met : (t : RowType) (vs : Opened)
      → ((i : ℕ) → (read_under indices nu).int i ≡ (Of.before (read_under indices nu).beyond t vs).int i)
      → ((i : ℕ) → (read_under indices nu).bool i ≡ (Of.before (read_under indices nu).beyond t vs).bool i)
      → true_in nu (owed t.conditions indices) ≡ true → is_met (read_under indices nu).beyond t vs ≡ true
  goal_met t vs ints bools h =
      let same : list_all (true_in (read_under indices nu)) t.conditions
      ≡ list_all (true_in (Of.before (read_under indices nu).beyond t vs)) t.conditions =
      λ k. list_all (true_in
      (record {
        int = λ i. ints i k;
        bool = λ i. bools i k;
        beyond =
            (read_under indices nu).beyond;
      })) t.conditions in
      sym same ∙ owed_true t.conditions h
