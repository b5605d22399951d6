-- A part of what is there late: the base is read, then come the indexes of all suffixes, then the ways.
use Rattle.std.proofs.Common.{◌≡◌, ◌∙◌, ◌+◌, ap, sym, refl, ℕ, true, false, if◌then◌else◌, List, length, drop, take, drop-drop, Option, Some, None}
use Rattle.std.proofs.Common.{Result, Ok, Err, IfOk, OnOk}
use Rattle.std.proofs.lemmas.List.{drop-map, length-map, take-map}
use Rattle.sail_base.specs.declared.place.Place.{Place}
use Rattle.sail_types.specs.declared.numbers.Num.{Num}
use Rattle.sail_core.specs.declared.targets.Suffix.{Suffix}
use Rattle.sail_core.specs.declared.tree.Core.{Core}
use Rattle.value_indices.specs.Steps.{Walk, bind}
use Rattle.value_indices.specs.Walking.{Written, got, run}
use Rattle.pattern_leaves.specs.Settings.{Around, Scope}
use Rattle.pattern_leaves.proofs.Walked.{then_got, then_run}
use Rattle.expression_forms.specs.Spots.{Spot, spot_of}
use Rattle.expression_forms.specs.declared.spots.Spot as code
use Rattle.expression_steps.specs.Coded.{each_part, left_behind, spotted_in}
use Rattle.expression_steps.specs.Expressions.{part}
use Rattle.expression_steps.specs.Parts.{Part, numbers_walk}
use Rattle.expression_steps.specs.Targets.{Spotted, count_taken, late_count, known_late, numbered_late, part_of, part_within, read_ahead, spotted_late}
use Rattle.expression_steps.specs.Targets.{each_late, has_no_way, no_spot, then_spot}
use Rattle.expression_steps.specs.declared.late.Ahead.{Ahead}
use Rattle.expression_steps.proofs.Onward.{given_got, given_run}
use Rattle.expression_notes.proofs.Alike.{Alike}

module _ (around : Around) (scope : Scope) (place : Place) (number : ℕ) (ss : List Suffix) (parts : List Core) where
  -- ---- whether it is late

  module _ (found : Option (code.Spot × ℕ)) (base : code.Spot) (at : ℕ) (is : found ≡ Some (base, at)) where
    abbrev within : Walk (Option Spotted)
    within = then_spot (part_within place number ss around scope) (spotted_in around parts found)

    abbrev late : Walk (Option Spotted)
    late = spotted_late place number ss around scope (spot_of around base) (left_behind parts at)

    abbrev here : Walk (Option Spotted)
    here = part_of place number ss around scope (spot_of around base) (left_behind parts at)

    abbrev there : Walk (Option Spotted)
    there = if (spot_of around base).is_late then late else here

    abbrev is_found : within ≡ (if (spot_of around base).is_base then there else no_spot place)
    is_found = λ j. then_spot (part_within place number ss around scope) (spotted_in around parts (is j))

    pub wrong_opens : (spot_of around base).is_base ≡ false → within ≡ no_spot place
    wrong_opens e = is_found ∙ (λ j. if e j then there else no_spot place)

    pub late_opens : (spot_of around base).is_base ≡ true → (spot_of around base).is_late ≡ true → within ≡ late
    late_opens b e = is_found ∙ (λ j. if b j then there else no_spot place) ∙ (λ j. if e j then late else here)

    pub here_opens : (spot_of around base).is_base ≡ true → (spot_of around base).is_late ≡ false → within ≡ here
    here_opens b e = is_found ∙ (λ j. if b j then there else no_spot place) ∙ (λ j. if e j then late else here)

  -- ---- the base, and the indexes

  -- where suffixes take more than there are
  pub short_opens : (spot : Spot) (at : ℕ) (left : List Core) → left ≡ drop at parts → has_no_way ss (length left) ≡ true
      → spotted_late place number ss around scope spot (left_behind parts at) ≡ no_spot place
  short_opens spot at left left_is e =
      let short : has_no_way ss (length (left_behind parts at)) ≡ true =
      ap (has_no_way ss) (length-map (drop at parts) part ∙ ap length (sym left_is)) ∙ e in
      λ j. if short j then no_spot place else each_late place number ss around scope spot (left_behind parts at)

  module _ (spot : Spot) (at : ℕ) (left first : List Core) (count : ℕ) (left_is : left ≡ drop at parts) (enough : has_no_way ss (length left) ≡ false)
      (count_is : count ≡ count_taken ss (length left)) (first_is : first ≡ take count left) (w v u : Written) (a : Ahead) (read : a ≡ got (read_ahead spot) w) (was : v ≡ run (read_ahead spot) w)
      (met : Option (List Num)) (numbers : met ≡ got (numbers_walk (each_part first) around scope) v)
      (went : u ≡ run (numbers_walk (each_part first) around scope) v) where
    abbrev whole : Walk (Option Spotted)
    whole = spotted_late place number ss around scope spot (left_behind parts at)

    abbrev next : Ahead → Option (List Num) → Walk (Option Spotted)
    next b = numbered_late place number ss around spot (left_behind parts (at + count)) b

    abbrev step : Ahead → Walk (Option Spotted)
    step b = bind (numbers_walk (each_part first) around scope) (next b)

    count_same : late_count ss (left_behind parts at) ≡ count
    count_same = ap (count_taken ss) (length-map (drop at parts) part ∙ ap length (sym left_is)) ∙ sym count_is

    first_same : take (late_count ss (left_behind parts at)) (left_behind parts at) ≡ each_part first
    first_same =
        ap (λ (c : ℕ). take c (left_behind parts at)) count_same ∙ take-map part count (drop at parts) ∙ (λ j. each_part (take count (sym left_is j)))
        ∙ ap each_part (sym first_is)

    rest_same : drop (late_count ss (left_behind parts at)) (left_behind parts at) ≡ left_behind parts (at + count)
    rest_same =
        ap (λ (c : ℕ). drop c (left_behind parts at)) count_same ∙ drop-map part count (drop at parts) ∙ ap each_part (drop-drop count at parts)

    enough_there : has_no_way ss (length (left_behind parts at)) ≡ false
    enough_there = ap (has_no_way ss) (length-map (drop at parts) part ∙ ap length (sym left_is)) ∙ enough

    opens : whole ≡ bind (read_ahead spot) step
    opens =
        (λ j. if enough_there j then no_spot place else each_late place number ss around scope spot (left_behind parts at)) ∙ (λ j. bind (read_ahead spot) (λ b. bind (numbers_walk (first_same j) around scope) (numbered_late place number ss around spot (rest_same j) b)))

    abbrev no_target : Option Spotted
    no_target = None

    -- where one of the indexes gives no number
    none_got : met ≡ None → no_target ≡ got whole w
    none_got none =
        given_got (numbers_walk (each_part first) around scope) (next a) (step a) v u None no_target refl (sym none ∙ numbers) went refl
        ∙ then_got (read_ahead spot) step w v a read was ∙ (λ j. got (sym opens j) w)

    none_run : met ≡ None → u ≡ run whole w
    none_run none =
        given_run (numbers_walk (each_part first) around scope) (next a) (step a) v u None no_target refl (sym none ∙ numbers) went refl
        ∙ then_run (read_ahead spot) step w v a read was ∙ (λ j. run (sym opens j) w)

    pub late_none : met ≡ None → Alike no_target (got whole w) u (run whole w)
    late_none none = record { value = none_got none; walked = none_run none }

    -- where each gives one
    module _ (ns : List Num) (some : Some ns ≡ met) (behind : ℕ) (behind_is : behind ≡ at + count) where
      abbrev then_ways : List Part → Walk (Option Spotted)
      then_ways ps = known_late place number ss around spot a ps ns

      some_got : got (then_ways (left_behind parts behind)) u ≡ got whole w
      some_got =
          (λ j. got (then_ways (left_behind parts (behind_is j))) u)
          ∙ then_got (numbers_walk (each_part first) around scope) (next a) v u (Some ns) (some ∙ numbers) went
          ∙ then_got (read_ahead spot) step w v a read was ∙ (λ j. got (sym opens j) w)

      some_run : run (then_ways (left_behind parts behind)) u ≡ run whole w
      some_run =
          (λ j. run (then_ways (left_behind parts (behind_is j))) u)
          ∙ then_run (numbers_walk (each_part first) around scope) (next a) v u (Some ns) (some ∙ numbers) went
          ∙ then_run (read_ahead spot) step w v a read was ∙ (λ j. run (sym opens j) w)

      pub late_got : {E : Type 0} (r : Result (Option (code.Spot × ℕ)) E)
          → IfOk r (λ made. (ps : List Core) → spotted_in around ps made ≡ got (then_ways (left_behind ps behind)) u)
          → IfOk r (λ made. spotted_in around parts made ≡ got whole w)
      late_got (Ok made) h = h parts ∙ some_got
      late_got (Err e) h = tt

      pub late_run : {E : Type 0} (r : Result (Option (code.Spot × ℕ)) E) (t : Written)
          → OnOk r ((ps : List Core) → t ≡ run (then_ways (left_behind ps behind)) u) → OnOk r (t ≡ run whole w)
      late_run (Ok made) t h = h parts ∙ some_run
      late_run (Err e) t h = tt
