-- What has to be true of pairs, one after another.
use Rattle.std.proofs.Common.{◌≡◌, ◌∙◌, sym, ap, refl, ℕ, zero, suc, ◌+◌, ◌<◌, ◌≤◌, min, nat_eq, Bool, List, [], ◌∷◌, length, drop, get_or}
use Rattle.std.proofs.Common.{append_assoc, append-nil, arith}
use Rattle.std.proofs.lemmas.Bool.Decides.{nat_tests}
use Rattle.std.proofs.lemmas.List.{drop_all, drop_more}
use Rattle.std.specs.Prelude.{false}
use Rattle.sail_types.specs.Named.{field_types}
use Rattle.sail_types.specs.declared.numbers.Index.{Index}
use Rattle.sail_types.specs.declared.table.Field.{Field}
use Rattle.value_indices.specs.declared.indices.Reading.{Reading}
use Rattle.value_indices.specs.declared.indices.Reading.TheVariants as R
use Rattle.value_fits.proofs.Ends.{drop_none}
use Rattle.value_fits.specs.declared.fitted.Fitted.{Fitted}
use Rattle.value_fits.specs.Fitting.{Fit, joined, also, says, ended, each_pair, field_fits, fields_fit}

joined_assoc : (a b c : Fitted) → joined (joined a b) c ≡ joined a (joined b c)
unfolding joined
joined_assoc a b c = λ i. record {
  conditions = append_assoc a.conditions b.conditions c.conditions i;
  facts = append_assoc a.facts b.facts c.facts i;
  next = c.next;
}

pub joined_nothing : (a : Fitted) → joined a (says [] a.next) ≡ a
unfolding joined
joined_nothing a = λ i. record { conditions = append-nil a.conditions i; facts = append-nil a.facts i; next = a.next }

nothing_joined : (n : ℕ) (a : Fitted) → joined (says [] n) a ≡ a
unfolding joined
nothing_joined n a = refl

-- what is said first
pub first_said : (made : Fitted) (n : ℕ) (more : ℕ → Fitted) → made ≡ says [] n → also made more ≡ more n
first_said made n more e = ap (λ (a : Fitted). also a more) e ∙ nothing_joined n (more n)

-- what comes behind one more
also_assoc : (a b : Fitted) (more : ℕ → Fitted) → also (joined a b) more ≡ joined a (also b more)
unfolding joined
also_assoc a b more = joined_assoc a b (more b.next)

-- ---- pairs

pub pair_more : {A B : Type 0} (f : A → B → ℕ → Fitted) (made more all : Fitted) (xs : List A) (ys : List B) (k : ℕ) (x : A) (y : B)
    → k < length xs → k < length ys → x ≡ get_or xs k x → y ≡ get_or ys k y → more ≡ f x y made.next → all ≡ joined made more
    → also all (each_pair f (drop (k + 1) xs) (drop (k + 1) ys)) ≡ also made (each_pair f (drop k xs) (drop k ys))
pair_more f made more all xs ys k x y below_xs below_ys x_is y_is more_is all_is =
    let e : drop k xs ≡ x ∷ drop (k + 1) xs = drop_more xs k x below_xs ∙ ap (λ z. z ∷ drop (k + 1) xs) (sym x_is) in
    let d : drop k ys ≡ y ∷ drop (k + 1) ys = drop_more ys k y below_ys ∙ ap (λ z. z ∷ drop (k + 1) ys) (sym y_is) in
    let rest : ℕ → Fitted = each_pair f (drop (k + 1) xs) (drop (k + 1) ys) in
    let last : also made (each_pair f (drop k xs) (drop k ys)) ≡ also made (each_pair f (x ∷ drop (k + 1) xs) (y ∷ drop (k + 1) ys)) =
    λ i. also made (each_pair f (e i) (d i)) in
    ap (λ (a : Fitted). also a rest) all_is
    ∙ also_assoc made more rest
    ∙ ap (λ (m : Fitted). joined made (also m rest)) more_is
    ∙ sym last

-- ---- fields

pub field_more : (fit : Fit) (made more all : Fitted) (fs : List Field) (k : ℕ) (field : Field)
    (is : List Index) (rs : List Reading) (js : List Index) (qs : List Reading)
    → k < length fs → field ≡ get_or fs k field → more ≡ field_fits fit (R.Of field.typ is rs) (R.Of field.typ js qs) made.next → all ≡ joined made more
    → also all (fields_fit fit (field_types (drop (k + 1) fs)) is rs js qs) ≡ also made (fields_fit fit (field_types (drop k fs)) is rs js qs)
field_more fit made more all fs k field is rs js qs below field_is more_is all_is =
    let e : drop k fs ≡ field ∷ drop (k + 1) fs = drop_more fs k field below ∙ ap (λ z. z ∷ drop (k + 1) fs) (sym field_is) in
    let rest : ℕ → Fitted = fields_fit fit (field_types (drop (k + 1) fs)) is rs js qs in
    let last : also made (fields_fit fit (field_types (drop k fs)) is rs js qs)
    ≡ also made (fields_fit fit (field_types (field ∷ drop (k + 1) fs)) is rs js qs) =
    λ i. also made (fields_fit fit (field_types (e i)) is rs js qs) in
    ap (λ (a : Fitted). also a rest) all_is
    ∙ also_assoc made more rest
    ∙ ap (λ (m : Fitted). joined made (also m rest)) more_is
    ∙ sym last

pub fields_ended : (fit : Fit) (made : Fitted) (fs : List Field) (k : ℕ) (is : List Index) (rs : List Reading) (js : List Index) (qs : List Reading)
    → length fs ≤ k → also made (fields_fit fit (field_types (drop k fs)) is rs js qs) ≡ made
fields_ended fit made fs k is rs js qs h =
    ap (λ (l : List Field). also made (fields_fit fit (field_types l) is rs js qs)) (drop_all k fs h) ∙ joined_nothing made

-- ---- behind the last pair

zero_suc : (n : ℕ) → nat_eq 0 (suc n) ≡ false
zero_suc n = grind (arith, nat_tests)

suc_zero : (n : ℕ) → nat_eq (suc n) 0 ≡ false
suc_zero n = grind (arith, nat_tests)

both_suc : (a b : ℕ) → nat_eq (suc a) (suc b) ≡ nat_eq a b
both_suc a b = grind (arith, nat_tests)

none_left : {A B : Type 0} (f : A → B → ℕ → Fitted) (y : B) (ys : List B) (k n : ℕ) → k ≡ 0 → each_pair f (drop k []) (drop k (y ∷ ys)) n ≡ ended false n
none_left f y ys zero n h = refl
none_left f y ys (suc k) n h = absurd (omega (arith, h))

others_left : {A B : Type 0} (f : A → B → ℕ → Fitted) (x : A) (xs : List A) (k n : ℕ) → k ≡ 0 → each_pair f (drop k (x ∷ xs)) (drop k []) n ≡ ended false n
others_left f x xs zero n h = refl
others_left f x xs (suc k) n h = absurd (omega (arith, h))

pub pairs_ended : {A B : Type 0} (f : A → B → ℕ → Fitted) (xs : List A) (ys : List B) (k n : ℕ) → k ≡ min (length xs) (length ys)
    → each_pair f (drop k xs) (drop k ys) n ≡ ended (nat_eq (length xs) (length ys)) n
pairs_ended {A} {B} f [] [] k n e = λ i. each_pair f (drop_none A k i) (drop_none B k i) n
pairs_ended f [] (y ∷ ys) k n e = none_left f y ys k n (omega (arith, e)) ∙ ap (λ (b : Bool). ended b n) (sym (zero_suc (length ys)))
pairs_ended f (x ∷ xs) [] k n e = others_left f x xs k n (omega (arith, e)) ∙ ap (λ (b : Bool). ended b n) (sym (suc_zero (length xs)))
pairs_ended f (x ∷ xs) (y ∷ ys) zero n e = absurd (omega (arith, e))
pairs_ended f (x ∷ xs) (y ∷ ys) (suc k) n e =
    pairs_ended f xs ys k n (omega (arith, e)) ∙ ap (λ (b : Bool). ended b n) (sym (both_suc (length xs) (length ys)))
