-- What tells a variable's number is a place of it.
use Rattle.std.proofs.Common.{◌≡◌, ℕ, List, [], ◌∷◌, map, ap, ◌∙◌, refl, Bool, true, false, ◌||◌}
use Rattle.std.specs.Prelude.{Option, Some, None}
use Rattle.std.specs.List.{list_any}
use Rattle.sail_types.specs.Places.{first, only}
use Rattle.sail_types.specs.declared.numbers.Con.{out-Con}
use Rattle.sail_types.specs.declared.types.Typ.{Typ, Typ-F, out-Typ}
use Rattle.sail_types.specs.declared.types.Typ.TheFolds.{fold_out-Typ, map-Typ}
use Rattle.sail_types.specs.declared.types.Typ.TheOpen as T
use Rattle.shape_joins.proofs.Order.{no}
use Rattle.shape_rules.specs.Written.{form_gives, gives_number, part_gives, tells_number}
use Rattle.call_fits.specs.Calls.{Kinds, among_as, form_as, placed_as}
use Rattle.model_progress.proofs.Given.{alone, holds}

abbrev Has : Option Bool → Type 0
Has o = (b : Bool) × (o ≡ Some b)

form_here : (x : Typ-F Typ) (j : ℕ) → form_gives j x ≡ true → Has (form_as (map-Typ Typ Kinds (λ t. placed_as t) x) j)
form_here (T.Int n) j h = (false, ap (λ b. only b false) (alone j n h))
form_here (T.Truth c) j h = (true, ap (λ b. only b true) (holds j (out-Con c) h))
form_here (T.Bits n) j h = (false, ap (λ b. only b false) (alone j n h))
form_here (T.Vector n t) j h = (false, ap (λ b. only b false) (alone j n h))
form_here x j h = no h

placed_at : (t : Typ) → placed_as t ≡ form_as (map-Typ Typ Kinds (λ u. placed_as u) (out-Typ t))
placed_at t = fold_out-Typ Kinds form_as t

number_here : (j : ℕ) (t : Typ) → gives_number j t ≡ true → Has (placed_as t j)
number_here j t h = let r = form_here (out-Typ t) j h in (r.0, ap (λ (f : Kinds). f j) (placed_at t) ∙ r.1)

-- ---- one of several

first_here : (o p : Option Bool) → Has p → Has (first o p)
first_here None p h = h
first_here (Some x) p h = (x, refl)

own_here : (o p : Option Bool) → Has o → Has (first o p)
own_here o p h = (h.0, ap (λ x. first x p) h.1)

by_test : (o p : Option Bool) (b c : Bool) → (b ≡ true → Has o) → (c ≡ true → Has p) → (b || c) ≡ true → Has (first o p)
by_test o p true c own others h = own_here o p (own refl)
by_test o p false c own others h = first_here o p (others h)

some_among : (j : ℕ) (p : Typ → Bool) → ((t : Typ) → p t ≡ true → Has (placed_as t j)) → (ts : List Typ) → list_any p ts ≡ true
    → Has (among_as (map placed_as ts) j)
some_among j p each [] h = no h
some_among j p each (t ∷ ts) h =
    by_test (placed_as t j) (among_as (map placed_as ts) j) (p t) (list_any p ts) (each t) (λ k. some_among j p each ts k) h

part_here : (x : Typ-F Typ) (j : ℕ) → part_gives j x ≡ true → Has (form_as (map-Typ Typ Kinds (λ t. placed_as t) x) j)
part_here (T.Tuple ts) j h = some_among j (gives_number j) (number_here j) ts h
part_here x j h = form_here x j h

told_here : (j : ℕ) (t : Typ) → tells_number j t ≡ true → Has (placed_as t j)
told_here j t h = let r = part_here (out-Typ t) j h in (r.0, ap (λ (f : Kinds). f j) (placed_at t) ∙ r.1)

pub told_among : (j : ℕ) (ts : List Typ) → list_any (tells_number j) ts ≡ true → Has (among_as (map placed_as ts) j)
told_among j ts h = some_among j (tells_number j) (told_here j) ts h
