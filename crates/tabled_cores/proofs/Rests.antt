-- One after another decides whether all are so.
use Rattle.std.proofs.Common.{◌≡◌, ◌∙◌, ap, sym, ◌+◌, ◌<◌, Bool, true, false, ◌&&◌, List, ◌∷◌, drop, length, get_or, map, ℕ}
use Rattle.std.specs.List.{list_all}
use Rattle.size_splits.proofs.Lists.{rest_at}

-- where the next one is, or isn't
module _ {A : Type 0} (f : A → Bool) (xs : List A) (k : ℕ) (x : A) (all : Bool) (within : k < length xs) (read : x ≡ get_or xs k x)
    (whole : list_all f (drop k xs) ≡ all) where
  parted : (f x && list_all f (drop (k + 1) xs)) ≡ all
  parted = sym (ap (list_all f) (rest_at xs k x within read)) ∙ whole

  pub all_false : f x ≡ false → false ≡ all
  all_false h = sym (ap (λ (b : Bool). b && list_all f (drop (k + 1) xs)) h) ∙ parted

  pub all_true : f x ≡ true → list_all f (drop (k + 1) xs) ≡ all
  all_true h = sym (ap (λ (b : Bool). b && list_all f (drop (k + 1) xs)) h) ∙ parted

-- the same of what is made of each
module _ {A B : Type 0} (g : A → B) (f : B → Bool) (xs : List A) (k : ℕ) (x : A) (all : Bool) (within : k < length xs) (read : x ≡ get_or xs k x)
    (whole : list_all f (map g (drop k xs)) ≡ all) where
  parted_too : (f (g x) && list_all f (map g (drop (k + 1) xs))) ≡ all
  parted_too = sym (ap (λ (l : List A). list_all f (map g l)) (rest_at xs k x within read)) ∙ whole

  pub made_false : f (g x) ≡ false → false ≡ all
  made_false h = sym (ap (λ (b : Bool). b && list_all f (map g (drop (k + 1) xs))) h) ∙ parted_too

  pub made_true : f (g x) ≡ true → list_all f (map g (drop (k + 1) xs)) ≡ all
  made_true h = sym (ap (λ (b : Bool). b && list_all f (map g (drop (k + 1) xs))) h) ∙ parted_too
