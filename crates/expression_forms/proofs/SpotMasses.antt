-- How much of what is assigned to there is to write.
use Rattle.std.proofs.Common.{◌≡◌, ◌∙◌, ap, sym, refl, ℕ, zero, suc, ◌+◌, ◌≤◌, ◌<◌, List, [], ◌∷◌, map, length, get_or, arith}
use Rattle.sail_base.specs.declared.place.Place.{Place}
use Rattle.expression_forms.specs.declared.spots.Spot.{Spot, Spot-F, fold-Spot, fold-roll-Spot}
use Rattle.expression_forms.specs.declared.spots.Spot.TheOpen as S
use Rattle.expression_forms.specs.declared.spots.Spot.TheVariants as V

sum_of : List ℕ → ℕ
sum_of [] = 0
sum_of (x ∷ xs) = x + sum_of xs

form_mass : Spot-F ℕ → ℕ
form_mass (S.Tuple place k ss) = 8 + sum_of ss
form_mass s = 8

pub spot_mass : Spot → ℕ
spot_mass = fold-Spot ℕ form_mass

pub spot_masses : List Spot → ℕ
spot_masses ss = sum_of (map spot_mass ss)

pub tuple_mass : (place : Place) (k : ℕ) (ss : List Spot) → spot_mass (V.Tuple place k ss) ≡ 8 + spot_masses ss
unfolding spot_mass spot_masses form_mass
tuple_mass place k ss = ap spot_mass (sym (V.rolls-Tuple place k ss)) ∙ fold-roll-Spot ℕ form_mass (S.Tuple place k ss)

pub tuple_opens : (s : Spot) (place : Place) (k : ℕ) (ss ts : List Spot) → s ≡ V.Tuple place k ss → ts ≡ ss → spot_mass s ≡ 8 + spot_masses ts
tuple_opens s place k ss ts is same = ap spot_mass is ∙ tuple_mass place k ss ∙ ap (λ (us : List Spot). 8 + spot_masses us) (sym same)

first_spot : (s : Spot) (ss : List Spot) → spot_masses (s ∷ ss) ≡ spot_mass s + spot_masses ss
unfolding spot_masses sum_of
first_spot s ss = refl

-- one of some
pub one_spot : (ss : List Spot) (k : ℕ) (s : Spot) → k < length ss → s ≡ get_or ss k s → spot_mass s ≤ spot_masses ss
one_spot [] k s within is = absurd (omega (arith, within))
one_spot (x ∷ ss) zero s within is = let same : spot_mass s ≡ spot_mass x = ap spot_mass is in omega (arith, first_spot x ss, same)
one_spot (x ∷ ss) (suc k) s within is = omega (arith, first_spot x ss, one_spot ss k s (omega (arith, within)) is)
