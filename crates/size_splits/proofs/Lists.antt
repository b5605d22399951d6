-- What is left of a list behind some of its items.
use Rattle.std.proofs.Common.{◌≡◌, ℕ, ◌+◌, ◌<◌, ◌≤◌, List, [], ◌∷◌, ◌++◌, length, drop, take, get_or}
use Rattle.std.proofs.Common.{◌-◌, sym, ap, ◌∙◌, arith, drop_of_length-le, length-drop, take_all}
use Rattle.std.proofs.lemmas.List.{drop_more, take_more}
use Rattle.value_indices.specs.Walking.{begun, step_read, steps_read}
use Rattle.value_indices.specs.declared.notes.Step.{Step}
use Rattle.value_indices.proofs.Written.{steps_behind}

pub rest_at : {A : Type 0} (xs : List A) (k : ℕ) (x : A) → k < length xs → x ≡ get_or xs k x → drop k xs ≡ x ∷ drop (k + 1) xs
rest_at xs k x within read = drop_more xs k x within ∙ ap (λ y. y ∷ drop (k + 1) xs) (sym read)

pub none_left : {A : Type 0} (xs : List A) (k : ℕ) → length xs ≤ k → drop k xs ≡ []
none_left xs k past = drop_of_length-le xs {i = k} past

-- up to the end
pub rest_whole : {A : Type 0} (xs : List A) (k : ℕ) → take (length xs - k) (drop k xs) ≡ drop k xs
rest_whole xs k = let n = length-drop k xs in take_all (length xs - k) (drop k xs) (omega (arith, n))

pub read_more : (steps : List Step) (k : ℕ) (s : Step) → k < length steps → s ≡ get_or steps k s
    → steps_read (begun 0) (take (k + 1) steps) ≡ step_read (steps_read (begun 0) (take k steps)) s
read_more steps k s within read =
    ap (steps_read (begun 0)) (take_more steps k s within ∙ ap (λ x. take k steps ++ x ∷ []) (sym read))
    ∙ steps_behind (begun 0) (take k steps) (s ∷ [])
