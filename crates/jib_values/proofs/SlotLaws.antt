-- Slots that stand in a list.
use Rattle.std.proofs.Common.{◌≡◌, ℕ, zero, suc, ◌<◌, ◌≤◌, List, [], ◌∷◌, ◌++◌, length, get_or, set, refl, arith}
use Rattle.std.proofs.lemmas.List.{get_or-set_other}
use Rattle.std.proofs.lemmas.Grind.{get_or-set_at}
use Rattle.std.proofs.lemmas.Bool.Decides.{nat_tests}
use Rattle.sail_types.specs.declared.values.Value.{Value}
use Rattle.sail_types.specs.declared.values.Value.TheVariants as V
use Rattle.jib.specs.Jib.{put}
use Rattle.jib_values.specs.Sources.{filled}

get_or-more : (xs : List Value) (i : ℕ) (d : Value) → get_or (xs ++ d ∷ []) i d ≡ get_or xs i d
get_or-more [] zero d = refl
get_or-more [] (suc i) d = refl
get_or-more (x ∷ xs) zero d = refl
get_or-more (x ∷ xs) (suc i) d = get_or-more xs i d

pub more_slots : (xs : List Value) → filled (xs ++ V.Unit ∷ []) ≡ filled xs
more_slots xs = λ j. λ i. get_or-more xs i V.Unit j

set_at : (xs : List Value) (i k : ℕ) (v : Value) → i < length xs → get_or (set xs i v) k V.Unit ≡ put (filled xs) i v k
set_at xs i k v h = grind (arith, nat_tests, get_or-set_at, get_or-set_other)

pub set_slots : (xs : List Value) (i : ℕ) (v : Value) → i < length xs → filled (set xs i v) ≡ put (filled xs) i v
set_slots xs i v h = λ j. λ k. set_at xs i k v h j

pub ruleset slot_laws = (more_slots, set_slots)

-- ---- a slot that is taken out

past_unit : (xs : List Value) (i : ℕ) → length xs ≤ i → get_or xs i V.Unit ≡ V.Unit
past_unit [] i h = refl
past_unit (x ∷ xs) zero h = absurd (omega (arith, h))
past_unit (x ∷ xs) (suc i) h = past_unit xs i (omega (arith, h))

past_at : (xs : List Value) (i k : ℕ) → length xs ≤ i → get_or xs k V.Unit ≡ put (filled xs) i V.Unit k
past_at xs i k h = grind (arith, nat_tests, past_unit)

-- past the end stands unit
pub past_slots : (xs : List Value) (i : ℕ) → length xs ≤ i → filled xs ≡ put (filled xs) i V.Unit
past_slots xs i h = λ j. λ k. past_at xs i k h j
