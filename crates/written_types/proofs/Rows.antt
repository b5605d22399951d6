-- What is said of several parts one after another: failures, of which the first is kept, and what is put behind others.
use Rattle.std.proofs.Common.{◌≡◌, ℕ, ◌+◌, ◌<◌, List, [], ◌∷◌, ◌++◌, length, get_or, take, drop, sym, ap, ◌∙◌, Option, Result, Ok, Err, OnOk}
use Rattle.std.proofs.lemmas.List.{take_more, drop_more, append_assoc, append-nil}
use Rattle.shape_rules.specs.declared.error.ShapeError.{ShapeError}
use Rattle.shape_rules.specs.Findings.{first_failure}
use Rattle.shape_rules.proofs.Firsts.{first_failure_append}

-- what is said of one item, and what of several, which is what is said of each
module _ {A B : Type 0} (one : A → List B) (all : List A → List B) (none : all [] ≡ []) (more : (x : A) (xs : List A) → all (x ∷ xs) ≡ one x ++ all xs) where
  last_one : (xs : List A) (x : A) → all (xs ++ x ∷ []) ≡ all xs ++ one x
  last_one [] x = more x [] ∙ ap (λ r. one x ++ r) none ∙ append-nil (one x) ∙ sym (ap (λ r. r ++ one x) none)
  last_one (y ∷ ys) x =
      more y (ys ++ x ∷ []) ∙ ap (λ r. one y ++ r) (last_one ys x) ∙ sym (append_assoc (one y) (all ys) (one x))
      ∙ ap (λ r. r ++ one x) (sym (more y ys))

  -- one more is put behind what was there
  pub pushed_more : (xs : List A) (i : ℕ) (x : A) (old now new : List B) → i < length xs → x ≡ get_or xs i x
      → now ≡ old ++ all (take i xs) → new ≡ now ++ one x → new ≡ old ++ all (take (i + 1) xs)
  pushed_more xs i x old now new less is before pushed =
      pushed ∙ ap (λ l. l ++ one x) before ∙ append_assoc old (all (take i xs)) (one x)
      ∙ ap (λ l. old ++ l) (sym (last_one (take i xs) x))
      ∙ ap (λ l. old ++ all l) (sym (take_more xs i x less ∙ ap (λ y. take i xs ++ y ∷ []) (sym is)))

module _ {A : Type 0} (one : A → List ShapeError) (all : List A → List ShapeError) (more : (x : A) (xs : List A) → all (x ∷ xs) ≡ one x ++ all xs) where
  -- one more is noted
  pub noted_more : (xs : List A) (i : ℕ) (x : A) (kept now : Option ShapeError) → i < length xs → x ≡ get_or xs i x
      → now ≡ first_failure kept (one x) → first_failure now (all (drop (i + 1) xs)) ≡ first_failure kept (all (drop i xs))
  noted_more xs i x kept now less is noted =
      ap (λ k. first_failure k (all (drop (i + 1) xs))) noted
      ∙ sym (first_failure_append kept (one x) (all (drop (i + 1) xs)))
      ∙ ap (first_failure kept) (sym (more x (drop (i + 1) xs)))
      ∙ ap (λ l. first_failure kept (all l)) (sym (drop_more xs i x less ∙ ap (λ y. y ∷ drop (i + 1) xs) (sym is)))

-- where there is memory for it
pub on_ok : {T E P Q : Type 0} (r : Result T E) → (P → Q) → OnOk r P → OnOk r Q
on_ok (Ok x) f h = f h
on_ok (Err e) f h = tt

-- what is put behind others in two steps
pub both_pushed : {B : Type 0} (old one more now new all : List B) → now ≡ old ++ one → all ≡ one ++ more → new ≡ now ++ more → new ≡ old ++ all
both_pushed old one more now new all first is second =
    second ∙ ap (λ l. l ++ more) first ∙ append_assoc old one more ∙ ap (λ l. old ++ l) (sym is)

-- what is noted in two steps
pub both_noted : (kept now new : Option ShapeError) (es fs all : List ShapeError) → now ≡ first_failure kept es → all ≡ es ++ fs
    → new ≡ first_failure now fs → new ≡ first_failure kept all
both_noted kept now new es fs all first is second =
    second ∙ ap (λ k. first_failure k fs) first ∙ sym (first_failure_append kept es fs) ∙ ap (first_failure kept) (sym is)
