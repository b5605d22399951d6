-- Folds that have ended, and steps of loops.
use Rattle.std.proofs.Common.{◌≡◌, ℕ, suc, ◌+◌, ◌-◌, ◌<◌, Bool, true, List, [], ◌∷◌, ◌++◌, length, get_or, drop, sym, ap, ◌∙◌, refl, arith}
use Rattle.std.specs.List.{fold, filter}
use Rattle.std.proofs.lemmas.Bool.{cond-true}
use Rattle.std.proofs.lemmas.List.{drop_more}
use Rattle.farkas.specs.declared.certificate.Step.{Step}
use Rattle.farkas.specs.declared.elimination.Held.{Held}
use Rattle.farkas.specs.declared.elimination.Solved.{Solved}
use Rattle.farkas.specs.Elimination.{Going, eliminated, continued, solved}

-- what no further item changes
pub fold_stays : {A B : Type 0} (f : B → A → B) (b : B) → ((x : A) → f b x ≡ b) → (xs : List A) → fold f b xs ≡ b
fold_stays f b h [] = refl
fold_stays f b h (x ∷ xs) = ap (λ z. fold f z xs) (h x) ∙ fold_stays f b h xs

-- the answer of a fold over a list, at an item where it ends
pub fold_ends : {A B : Type 0} (f : B → A → B) (xs : List A) (k : ℕ) (item : A) (start whole b : B) → k < length xs → item ≡ get_or xs k item
    → fold f start (drop k xs) ≡ whole → b ≡ f start item → ((x : A) → f b x ≡ b) → b ≡ whole
fold_ends f xs k item start whole b within read so_far made stays =
    sym (fold_stays f b stays (drop (k + 1) xs))
    ∙ (ap (λ z. fold f z (drop (k + 1) xs)) made
    ∙ (ap (λ x. fold f (f start x) (drop (k + 1) xs)) read
    ∙ (ap (fold f start) (sym (drop_more xs k item within)) ∙ so_far)))

-- the same over those that pass a test
pub filter_ends : {A B : Type 0} (f : B → A → B) (test : A → Bool) (xs : List A) (k : ℕ) (item : A) (start whole b : B) → k < length xs
    → item ≡ get_or xs k item → test item ≡ true → fold f start (filter test (drop k xs)) ≡ whole → b ≡ f start item → ((x : A) → f b x ≡ b) → b ≡ whole
filter_ends f test xs k item start whole b within read passes so_far made stays =
    let here : drop k xs ≡ item ∷ drop (k + 1) xs = drop_more xs k item within ∙ ap (λ x. x ∷ drop (k + 1) xs) (sym read) in
    let front : filter test (drop k xs) ≡ item ∷ filter test (drop (k + 1) xs) = ap (filter test) here ∙ cond-true (test item) _ _ passes in
    sym (fold_stays f b stays (filter test (drop (k + 1) xs)))
    ∙ (ap (λ z. fold f z (filter test (drop (k + 1) xs))) made ∙ (ap (fold f start) (sym front) ∙ so_far))

-- one variable more
pub solved_more : (count variables i : ℕ) (held : List Held) (steps : List Step) (stages : List (List Held)) (whole : Solved) (next : List Held) (made :
    List Step) (more : List (List Held)) →
    i < variables → solved count (variables - i) i held steps stages ≡ whole → Going next made ≡ eliminated count i held steps
    → more ≡ stages ++ held ∷ [] → solved count (variables - (i + 1)) (i + 1) next made more ≡ whole
solved_more count variables i held steps stages whole next made more within so_far went pushed =
    let left : variables - i ≡ suc (variables - (i + 1)) = omega arith in
    let here : i + 1 ≡ suc i = omega arith in
    (λ j. solved count (variables - (i + 1)) (here j) next made (pushed j))
    ∙ (ap (continued i (λ n m. solved count (variables - (i + 1)) (suc i) n m (stages ++ held ∷ []))) went
    ∙ (ap (λ l. solved count l i held steps stages) (sym left) ∙ so_far))
