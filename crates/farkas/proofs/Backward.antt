-- Going back over the variables.
use Rattle.std.proofs.Common.{
  ◌≡◌,
  ℕ,
  ◌+◌,
  ◌<◌,
  ◌≤◌,
  Option,
  Some,
  None,
  List,
  [],
  ◌∷◌,
  ◌++◌,
  length,
  get_or,
  take,
  drop,
  reverse,
  sym,
  ap,
  ◌∙◌,
  refl,
  arith,
  ℤ,
}
use Rattle.std.proofs.lemmas.List.{take_more, drop_all, reverse-append, length-reverse, length-take-le}
use Rattle.farkas.specs.declared.elimination.Held.{Held}
use Rattle.farkas.specs.declared.points.Point.{Point}
use Rattle.farkas.specs.Points.{spent, extended, went_back, least_point}
use Rattle.farkas.specs.Validity.{then_do}

spent_nothing : (z : ℤ) (xs : List ℤ) → Some z ≡ spent z xs []
spent_nothing z [] = refl
spent_nothing z (x ∷ xs) = refl

pub spent_end : (z whole : ℤ) (xs values all : List ℤ) (i : ℕ) → length values ≤ i → spent z xs (drop i values) ≡ spent whole all values
    → Some z ≡ spent whole all values
spent_end z whole xs values all i past same = spent_nothing z xs ∙ (ap (spent z xs) (sym (drop_all i values past)) ∙ same)

module _ (stages : List (List Held)) (left n : ℕ) (stage : List Held) (point : Point) (whole : Option Point) (within : n < length stages) (read :
    stage ≡ get_or stages n stage) (one : left ≡ n + 1) (same : went_back (reverse (take left stages)) point ≡ whole) where
  turned : reverse (take left stages) ≡ stage ∷ reverse (take n stages)
  turned = ap (λ k. reverse (take k stages)) one ∙ (ap reverse (take_more stages n stage within ∙ ap (λ x. take n stages ++ x ∷ []) (sym read))
      ∙ reverse-append (take n stages) (stage ∷ []))

  place : length (reverse (take n stages)) ≡ n
  place = length-reverse (take n stages) ∙ length-take-le n stages (omega arith)

  here : then_do (extended n stage point) (λ more. went_back (reverse (take n stages)) more) ≡ whole
  here = ap (λ i. then_do (extended i stage point) (λ more. went_back (reverse (take n stages)) more)) (sym place)
      ∙ (ap (λ s. went_back s point) (sym turned) ∙ same)

  pub went_on : (next : Point) → Some next ≡ extended n stage point → went_back (reverse (take n stages)) next ≡ whole
  went_on next e = ap (λ o. then_do o (λ more. went_back (reverse (take n stages)) more)) e ∙ here

  pub ended : None ≡ extended n stage point → None ≡ whole
  ended e = ap (λ o. then_do o (λ more. went_back (reverse (take n stages)) more)) e ∙ here

pub back_end : (stages : List (List Held)) (left : ℕ) (point least : Point) (whole : Option Point) → left ≤ 0
    → went_back (reverse (take left stages)) point ≡ whole → least ≡ least_point point → Some least ≡ then_do whole (λ p. Some (least_point p))
back_end stages left point least whole none same e =
    let z : left ≡ 0 = omega arith in
    let first : Some point ≡ whole = ap (λ k. went_back (reverse (take k stages)) point) (sym z) ∙ same in
    ap Some e ∙ ap (λ o. then_do o (λ p. Some (least_point p))) first
