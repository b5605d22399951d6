-- The places of names.
use Rattle.std.proofs.Common.{◌≡◌, ◌∙◌, ℕ, ◌+◌, ◌<◌, Bool, true, false, List, [], ◌∷◌, ◌++◌, drop, get_or, length, map, Some, None, refl, sym, ap}
use Rattle.std.proofs.Common.{if◌then◌else◌}
use Rattle.std.specs.Str.{bytes_eq}
use Rattle.std.proofs.lemmas.List.{drop_more}
use Rattle.lowered_pieces.specs.Forms.{Named, place_of}
use Rattle.lowered_pieces.specs.Places.{Place}
use Rattle.lowered_steps.specs.declared.stands.Named.{Named as Held}
use Rattle.lowered_steps.specs.Stands.{named_of, place_found}

none_is : {A X : Type 0} (x : A) → None ≡ Some x → X
none_is x e = cc

some_is : {A X : Type 0} (x : A) → Some x ≡ None → X
some_is x e = cc

some_same : {A : Type 0} (x y : A) → Some x ≡ Some y → x ≡ y
some_same x y e = cc

opens : (xs : List Held) (k : ℕ) (x : Held) → k < length xs → x ≡ get_or xs k x → map named_of (drop k xs) ≡ named_of x ∷ map named_of (drop (k + 1) xs)
opens xs k x within is = ap (map named_of) (drop_more xs k x within ∙ ap (λ y. y ∷ drop (k + 1) xs) (sym is))

pub place_here : (xs : List Held) (k : ℕ) (x : Held) (name : List ℕ) → k < length xs → x ≡ get_or xs k x → bytes_eq x.name.now name ≡ true
    → Some x.place ≡ place_found (map named_of (drop k xs)) name
place_here xs k x name within is h =
    sym (ap (λ us. place_found us name) (opens xs k x within is)
    ∙ ap (λ b. if b then Some x.place else place_found (map named_of (drop (k + 1) xs)) name) h)

pub place_later : (xs : List Held) (k : ℕ) (x : Held) (name : List ℕ) → k < length xs → x ≡ get_or xs k x → bytes_eq x.name.now name ≡ false
    → place_found (map named_of (drop (k + 1) xs)) name ≡ place_found (map named_of (drop k xs)) name
place_later xs k x name within is h =
    sym (ap (λ us. place_found us name) (opens xs k x within is)
    ∙ ap (λ b. if b then Some x.place else place_found (map named_of (drop (k + 1) xs)) name) h)

pub found_place : (xs ys : List Named) (name : List ℕ) (p : Place) → place_found xs name ≡ Some p → place_of (xs ++ ys) name ≡ p
found_place [] ys name p h = none_is p h
found_place (x ∷ xs) ys name p h = by (bytes_eq x.name name) h (λ e. found_place xs ys name p e)
  where
    by : (b : Bool) → (if b then Some x.place else place_found xs name) ≡ Some p → (place_found xs name ≡ Some p → place_of (xs ++ ys) name ≡ p)
        → (if b then x.place else place_of (xs ++ ys) name) ≡ p
    by true e rest = some_same x.place p e
    by false e rest = rest e

pub no_place : (xs ys : List Named) (name : List ℕ) → place_found xs name ≡ None → place_of (xs ++ ys) name ≡ place_of ys name
no_place [] ys name h = refl
no_place (x ∷ xs) ys name h = by (bytes_eq x.name name) h (λ e. no_place xs ys name e)
  where
    by : (b : Bool) → (if b then Some x.place else place_found xs name) ≡ None → (place_found xs name ≡ None → place_of (xs ++ ys) name ≡ place_of ys name)
        → (if b then x.place else place_of (xs ++ ys) name) ≡ place_of ys name
    by true e rest = some_is x.place e
    by false e rest = rest e
