-- No more is found than the definition reads: each mapping that is found is one of the model, and is found once, and so many instances at most.
use Rattle.std.proofs.Common.{◌≡◌, ap, sym, refl, subst, ℕ, zero, suc, ◌+◌, ◌≤◌, ◌<◌, nat_lt, Bool, true, false, ◌||◌, List, [], ◌∷◌, ◌++◌}
use Rattle.std.proofs.Common.{length, if◌then◌else◌, arith}
use Rattle.std.specs.Prelude.{Ok}
use Rattle.std.specs.List.{list_any}
use Rattle.std.proofs.lemmas.Bool.{ltb-true}
use Rattle.std.proofs.lemmas.Bool.Decides.{Decides-eqb}
use Rattle.monomorph.specs.declared.found.Found.{Found}
use Rattle.monomorph.specs.declared.found.Found.TheVariants as F
use Rattle.sized_nodes.specs.declared.trees.Instance.{Instance}
use Rattle.monomorph.specs.Found.{found_eq, instances_in, most_instances}
use Rattle.monomorph.specs.Instances.{entry, found_from, times_enough}
use Rattle.monomorph.specs.Lasts.{Model}
use Rattle.soundness_calls.proofs.Counted.{count, fewer}
use Rattle.covering_laws.specs.Closed.{ListsAreRead, MappingsAreThere}
use Rattle.covering_laws.proofs.Closed.{any_front, any_last, found_read}
use Rattle.covering_laws.proofs.Readings as Readings

-- ---- mappings among what is found

abbrev pub mappings_in : List Found → ℕ
mappings_in [] = 0
mappings_in (F.Function y ∷ found) = mappings_in found
mappings_in (F.Mapping i ∷ found) = suc (mappings_in found)

abbrev is_among : List Found → ℕ → Bool
is_among found i = list_any (found_eq (F.Mapping i)) found

all_found : (found : List Found) → length found ≡ length (instances_in found) + mappings_in found
all_found [] = refl
all_found (F.Function y ∷ found) =
    let rest : length found ≡ length (instances_in found) + mappings_in found = all_found found in
    let one : length (instances_in (F.Function y ∷ found)) ≡ suc (length (instances_in found)) = refl in
    omega (arith, rest, one)
all_found (F.Mapping i ∷ found) =
    let rest : length found ≡ length (instances_in found) + mappings_in found = all_found found in
    omega (arith, rest)

at_most : (test : ℕ → Bool) (n : ℕ) → count test n ≤ n
at_most test zero = omega arith
at_most test (suc n) = by (test n) (at_most test n)
  where
    by : (b : Bool) → count test n ≤ n → (if b then suc (count test n) else count test n) ≤ suc n
    by true le = omega (arith, le)
    by false le = omega (arith, le)

-- ---- one more behind them

module _ (i : ℕ) where
  mapping_counts : (found : List Found) → mappings_in (found ++ F.Mapping i ∷ []) ≡ suc (mappings_in found)
  mapping_counts [] = refl
  mapping_counts (F.Function y ∷ found) = mapping_counts found
  mapping_counts (F.Mapping j ∷ found) = ap suc (mapping_counts found)

  mapping_no_function : (found : List Found) → length (instances_in (found ++ F.Mapping i ∷ [])) ≡ length (instances_in found)
  mapping_no_function [] = refl
  mapping_no_function (F.Function y ∷ found) = ap suc (mapping_no_function found)
  mapping_no_function (F.Mapping j ∷ found) = mapping_no_function found

module _ (x : Instance) where
  function_counts : (found : List Found) → length (instances_in (found ++ F.Function x ∷ [])) ≡ suc (length (instances_in found))
  function_counts [] = refl
  function_counts (F.Function y ∷ found) = ap suc (function_counts found)
  function_counts (F.Mapping j ∷ found) = function_counts found

  function_no_mapping : (found : List Found) → mappings_in (found ++ F.Function x ∷ []) ≡ mappings_in found
  function_no_mapping [] = refl
  function_no_mapping (F.Function y ∷ found) = function_no_mapping found
  function_no_mapping (F.Mapping j ∷ found) = ap suc (function_no_mapping found)

  no_mapping_more : (j : ℕ) (found : List Found) → is_among (found ++ F.Function x ∷ []) j ≡ is_among found j
  no_mapping_more j [] = refl
  no_mapping_more j (y ∷ found) = ap (λ (b : Bool). found_eq (F.Mapping j) y || b) (no_mapping_more j found)

-- ---- what holds of all that is found by then

module _ (n : ℕ) where
  pub record Bounded (found : List Found) : Type 0 where
    pub instances : length (instances_in found) ≤ most_instances
    -- each mapping is found once
    pub mappings : mappings_in found ≤ count (is_among found) n

  abbrev Goes : List Found → List Found → Type 0
  Goes found all = Bounded found → Bounded all

  stays : (found : List Found) → Goes found found
  stays found h = h

  on : (found some all : List Found) → Goes found some → Goes some all → Goes found all
  on found some all first next h = next (first h)

  function_goes : (x : Instance) (found : List Found) → nat_lt (length (instances_in found)) most_instances ≡ true → Goes found (found ++ F.Function x ∷ [])
  function_goes x found room h =
      let less : length (instances_in found) < most_instances = ltb-true (length (instances_in found)) most_instances room in
      let more : length (instances_in (found ++ F.Function x ∷ [])) ≡ suc (length (instances_in found)) = function_counts x found in
      record {
        instances = omega (arith, less, more);
        mappings = subst (λ (k : ℕ). k ≤ count (is_among (found ++ F.Function x ∷ [])) n) (sym (function_no_mapping x found))
            (subst (λ (test : ℕ → Bool). mappings_in found ≤ count test n) (λ j k. sym (no_mapping_more x k found) j) h.mappings);
      }

  mapping_goes : (i : ℕ) → i < n → (found : List Found) → list_any (found_eq (F.Mapping i)) found ≡ false → Goes found (found ++ F.Mapping i ∷ [])
  mapping_goes i below found new h =
      let kept : mappings_in found ≤ count (is_among found) n = h.mappings in
      let more : count (is_among found) n < count (is_among (found ++ F.Mapping i ∷ [])) n =
      fewer (is_among found) (is_among (found ++ F.Mapping i ∷ [])) (λ j e. any_front (F.Mapping j) found (F.Mapping i ∷ []) e) i n below new
      (any_last (F.Mapping i) found ((Decides-eqb i i).1 refl)) in
      let counts : mappings_in (found ++ F.Mapping i ∷ []) ≡ suc (mappings_in found) = mapping_counts i found in
      record {
        instances = subst (λ (k : ℕ). k ≤ most_instances) (sym (mapping_no_function i found)) h.instances;
        mappings = omega (arith, kept, more, counts);
      }

found_few : (m : Model) (all : List Found) → MappingsAreThere m → found_from m (entry m.core.reset ∷ entry m.core.step ∷ []) ≡ Ok all
    → length all ≤ times_enough m
found_few m all there h =
    let n : ℕ = length m.bodies.mappings in
    let start : List Found = entry m.core.reset ∷ entry m.core.step ∷ [] in
    let bounded : Bounded n all =
    Readings.found_from_goes (λ i. i < n) (Goes n) (stays n) (on n) (function_goes n) (mapping_goes n) m there start all h
    (record { instances = omega arith; mappings = omega arith }) in
    let some : mappings_in all ≤ count (is_among all) n = bounded.mappings in
    let most : count (is_among all) n ≤ n = at_most (is_among all) n in
    let few : length (instances_in all) ≤ most_instances = bounded.instances in
    let whole : length all ≡ length (instances_in all) + mappings_in all = all_found all in
    omega (arith, some, most, few, whole)

pub lists_are_read : ListsAreRead
lists_are_read m all there h =
    let read = found_read m all h in
    (read.0, λ x i. read.1 (found_few m all there h) x i)
