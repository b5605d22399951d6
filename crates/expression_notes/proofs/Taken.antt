-- Ways into a value, by the parts that are left of an expression.
use Rattle.std.proofs.Common.{◌≡◌, ◌∙◌, ◌≤◌, ◌<◌, ◌+◌, ap, refl, sym, arith, ℕ, Bool, None, Some, Option, Result, Ok, Err, IfOk, OnOk}
use Rattle.std.proofs.Common.{false, List, [], ◌∷◌, ◌++◌, ◌≢◌, length, drop, take, get_or, if◌then◌else◌, nat_eq, suc, zero, drop-drop, lt-ltb, le-ltb}
use Rattle.std.proofs.lemmas.Bool.Decides.{nat_tests}
use Rattle.std.proofs.lemmas.List.{drop-map, length-map, take-map}
use Rattle.sail_base.specs.declared.place.Place.{Place}
use Rattle.sail_types.specs.declared.numbers.Num.{Num}
use Rattle.sail_core.specs.declared.targets.Suffix.{Suffix}
use Rattle.sail_core.specs.declared.targets.Way.{Way}
use Rattle.sail_core.specs.declared.targets.Way.TheVariants as Y
use Rattle.sail_core.specs.declared.tree.Core.{Core}
use Rattle.value_indices.specs.Steps.{Walk, bind, give}
use Rattle.value_indices.specs.Walking.{Written, got, run}
use Rattle.value_indices.specs.declared.indices.Indices.{Indices}
use Rattle.value_indices.specs.declared.indices.Indices.TheVariants as I
use Rattle.value_indices.proofs.Walks.{got_give, run_give}
use Rattle.pattern_leaves.specs.Settings.{Around, Scope}
use Rattle.pattern_leaves.proofs.Walked.{made_got, made_run, then_got, then_run}
use Rattle.call_arguments.specs.declared.aims.Aim.TheVariants as Aims
use Rattle.expression_forms.specs.Ways.{if_never_value, suffix_read}
use Rattle.expression_forms.specs.declared.ways.Reached.{Reached}
use Rattle.expression_steps.specs.Coded.{each_part, left_behind, passed_in, taken_in, value_passed}
use Rattle.expression_steps.specs.Expressions.{part}
use Rattle.expression_steps.specs.Parts.{Part, numbers_walk}
use Rattle.expression_steps.specs.Values.{Passed, Taken, indexes_of, left_after, no_way, numbers_updated, part_walk, passed, reached_by}
use Rattle.expression_steps.specs.Values.{read_taken, suffix_walk, suffixed, suffixes_walk, taken, then_on, update_forms, update_walk, updated, value_on}
use Rattle.expression_steps.specs.Values.{way_taken, way_walk}
use Rattle.expression_steps.proofs.Onward.{given_got, given_run, then_got_in, then_run_in}
use Rattle.expression_steps.proofs.Walked.{suffixes_end, suffixes_more}
use Rattle.expression_notes.proofs.Alike.{Alike}

-- ---- a way, by its indexes

module _ (place : Place) (around : Around) (scope : Scope) (i : Indices) (way : Way) where
  abbrev by_count : Bool → List Part → Walk (Option Taken)
  by_count few ls =
      if few then no_way place
      else bind (numbers_walk (take (indexes_of way) ls) around scope) (way_taken around i way (drop (indexes_of way) ls))

  -- where there are too few parts
  pub few_way : (k n : ℕ) (ps ls : List Core) → ls ≡ drop k ps → n ≡ indexes_of way → length ls < n
      → way_walk place (left_behind ps k) around scope i way ≡ no_way place
  few_way k n ps ls left same few =
      let e : length (each_part ls) ≡ length ls = length-map ls part in
      let less : length (each_part ls) < indexes_of way = omega (arith, e, same, few) in
      (λ j. way_walk place (each_part (sym left j)) around scope i way)
      ∙ (λ j. by_count (lt-ltb (length (each_part ls)) (indexes_of way) less j) (each_part ls))

  pub way_opens : (k n : ℕ) (ps ls args : List Core) → ls ≡ drop k ps → n ≡ indexes_of way → n ≤ length ls → args ≡ take n ls
      → way_walk place (left_behind ps k) around scope i way
      ≡ bind (numbers_walk (each_part args) around scope) (way_taken around i way (left_behind ps (k + n)))
  way_opens k n ps ls args left same enough took =
      let e : length (each_part ls) ≡ length ls = length-map ls part in
      let all : indexes_of way ≤ length (each_part ls) = omega (arith, e, same, enough) in
      let behind : drop (indexes_of way) (each_part ls) ≡ left_behind ps (k + indexes_of way) =
      drop-map part (indexes_of way) ls ∙ (λ j. each_part (drop (indexes_of way) (left j))) ∙ ap each_part (drop-drop (indexes_of way) k ps) in
      (λ j. way_walk place (each_part (sym left j)) around scope i way)
      ∙ (λ j. by_count (le-ltb (length (each_part ls)) (indexes_of way) all j) (each_part ls))
      ∙ (λ j. bind (numbers_walk (take-map part (indexes_of way) ls j) around scope) (way_taken around i way (behind j)))
      ∙ (λ j. bind (numbers_walk (each_part (take (sym same j) ls)) around scope) (way_taken around i way (left_behind ps (k + sym same j))))
      ∙ (λ j. bind (numbers_walk (each_part (sym took j)) around scope) (way_taken around i way (left_behind ps (k + n))))

  abbrev no_way_there : Option Taken
  no_way_there = None

  -- where one of them gives no number
  pub uncounted : (k n : ℕ) (ps ls args : List Core) → ls ≡ drop k ps → n ≡ indexes_of way → n ≤ length ls → args ≡ take n ls
      → (met : Option (List Num)) (w v : Written) → met ≡ got (numbers_walk (each_part args) around scope) w
      → v ≡ run (numbers_walk (each_part args) around scope) w → met ≡ None
      → Alike no_way_there (got (way_walk place (left_behind ps k) around scope i way) w) v (run (way_walk place (left_behind ps k) around scope i way) w)
  uncounted k n ps ls args left same enough took met w v found was none =
      let first = numbers_walk (each_part args) around scope in
      let behind = way_taken around i way (left_behind ps (k + n)) in
      let whole = way_walk place (left_behind ps k) around scope i way in
      let opens = way_opens k n ps ls args left same enough took in
      let no_number = sym none ∙ found in
      record {
        value = given_got first behind whole w v None no_way_there opens no_number was refl;
        walked = given_run first behind whole w v None no_way_there opens no_number was refl;
      }

-- what it reaches by their numbers
module _ (around : Around) (i : Indices) (way : Way) (left : List Part) (first : Walk (Option (List Num))) (whole : Walk (Option Taken))
    (ns : List Num) (w v : Written) where
  pub reached_got : whole ≡ bind first (way_taken around i way left) → Some ns ≡ got first w → v ≡ run first w
      → taken (got (reached_by around i way ns) v) left ≡ got whole w
  reached_got opens found was =
      made_got (reached_by around i way ns) (λ x. taken x left) v (got (reached_by around i way ns) v) refl
      ∙ then_got first (way_taken around i way left) w v (Some ns) found was ∙ (λ j. got (sym opens j) w)

  pub reached_run : (u : Written) → whole ≡ bind first (way_taken around i way left) → Some ns ≡ got first w → v ≡ run first w
      → u ≡ run (reached_by around i way ns) v → u ≡ run whole w
  reached_run u opens found was did =
      made_run (reached_by around i way ns) (λ x. taken x left) v u did
      ∙ then_run first (way_taken around i way left) w v (Some ns) found was ∙ (λ j. run (sym opens j) w)

-- a part that is reached, and what is left behind it
pub taken_got : {E : Type 0} (r : Result (Option (Option Reached × ℕ)) E) (ps : List Core) (x : Option Reached) (e k : ℕ) (whole : Walk (Option Taken))
    (w : Written) → e ≡ k → taken x (left_behind ps k) ≡ got whole w
    → IfOk r (λ made. (qs : List Core) → taken_in qs made ≡ taken x (left_behind qs e)) → IfOk r (λ made. taken_in ps made ≡ got whole w)
taken_got (Ok made) ps x e k whole w same is h = h ps ∙ (λ j. taken x (left_behind ps (same j))) ∙ is
taken_got (Err f) ps x e k whole w same is h = tt

-- where there is no such way
pub no_way_got : {E : Type 0} (r : Result (Option (Option Reached × ℕ)) E) (parts : List Core) (place : Place) (whole : Walk (Option Taken)) (w : Written)
    → whole ≡ no_way place → IfOk r (λ made. (ps : List Core) → taken_in ps made ≡ got (no_way place) w)
    → IfOk r (λ made. taken_in parts made ≡ got whole w)
no_way_got (Ok made) parts place whole w same h = h parts ∙ (λ j. got (sym same j) w)
no_way_got (Err e) parts place whole w same h = tt

-- ---- a part that is read

module _ (around : Around) (scope : Scope) (is_target : Bool) (s : Suffix) (parts left : List Part) (i : Indices) (x : Option Reached) (w v : Written) where
  abbrev reaching : Walk (Option Taken)
  reaching = way_walk s.place parts around scope i s.way

  pub read_got : (j : Indices) → taken x left ≡ got reaching w → v ≡ run reaching w → j ≡ got (suffix_read is_target s.place s.number i x) v
      → passed left j ≡ got (suffix_walk is_target s parts around scope i) w
  read_got j found was is =
      made_got (suffix_read is_target s.place s.number i x) (passed left) v j is
      ∙ then_got reaching (read_taken is_target s.place s.number i) w v (taken x left) found was

  pub read_run : (u : Written) → taken x left ≡ got reaching w → v ≡ run reaching w → u ≡ run (suffix_read is_target s.place s.number i x) v
      → u ≡ run (suffix_walk is_target s parts around scope i) w
  read_run u found was is =
      made_run (suffix_read is_target s.place s.number i x) (passed left) v u is
      ∙ then_run reaching (read_taken is_target s.place s.number i) w v (taken x left) found was

-- ---- suffixes, one after the other

module _ (around : Around) (scope : Scope) (is_target : Bool) (ss : List Suffix) (k : ℕ) (s : Suffix) (parts : List Part) (i : Indices) (w v : Written) where
  abbrev first : Walk (Option Passed)
  first = suffix_walk is_target s parts around scope i

  abbrev behind : Option Passed → Walk (Option Passed)
  behind = then_on (suffixes_walk is_target (drop (k + 1) ss) around scope)

  pub suffix_got : (left : List Part) (next : Indices) → k < length ss → s ≡ get_or ss k s → passed left next ≡ got first w → v ≡ run first w
      → got (suffixes_walk is_target (drop (k + 1) ss) around scope left next) v ≡ got (suffixes_walk is_target (drop k ss) around scope parts i) w
  suffix_got left next within is found was =
      then_got first behind w v (passed left next) found was ∙ (λ j. got (sym (suffixes_more is_target ss around scope parts i k s within is) j) w)

  pub suffix_run : (left : List Part) (next : Indices) → k < length ss → s ≡ get_or ss k s → passed left next ≡ got first w → v ≡ run first w
      → run (suffixes_walk is_target (drop (k + 1) ss) around scope left next) v ≡ run (suffixes_walk is_target (drop k ss) around scope parts i) w
  suffix_run left next within is found was =
      then_run first behind w v (passed left next) found was ∙ (λ j. run (sym (suffixes_more is_target ss around scope parts i k s within is) j) w)

  abbrev nothing : Option Passed
  nothing = None

  -- where an index is none
  pub none_got : k < length ss → s ≡ get_or ss k s → nothing ≡ got first w → v ≡ run first w
      → nothing ≡ got (suffixes_walk is_target (drop k ss) around scope parts i) w
  none_got within is found was =
      given_got first behind (suffixes_walk is_target (drop k ss) around scope parts i) w v nothing nothing
      (suffixes_more is_target ss around scope parts i k s within is) found was refl

  pub none_run : k < length ss → s ≡ get_or ss k s → nothing ≡ got first w → v ≡ run first w
      → v ≡ run (suffixes_walk is_target (drop k ss) around scope parts i) w
  none_run within is found was =
      given_run first behind (suffixes_walk is_target (drop k ss) around scope parts i) w v nothing nothing
      (suffixes_more is_target ss around scope parts i k s within is) found was refl

-- a suffix that is read
module _ (around : Around) (scope : Scope) (is_target : Bool) (ss : List Suffix) (k : ℕ) (s : Suffix) (parts left : List Part) (i next : Indices)
    (x y : Option Reached) (same : y ≡ x) (w v u : Written) where
  value_is : next ≡ got (suffix_read is_target s.place s.number i y) v → next ≡ got (suffix_read is_target s.place s.number i x) v
  value_is gives = gives ∙ (λ j. got (suffix_read is_target s.place s.number i (same j)) v)

  went_is : u ≡ run (suffix_read is_target s.place s.number i y) v → u ≡ run (suffix_read is_target s.place s.number i x) v
  went_is did = did ∙ (λ j. run (suffix_read is_target s.place s.number i (same j)) v)

  step_got : k < length ss → s ≡ get_or ss k s → taken x left ≡ got (way_walk s.place parts around scope i s.way) w
      → v ≡ run (way_walk s.place parts around scope i s.way) w
      → next ≡ got (suffix_read is_target s.place s.number i y) v → u ≡ run (suffix_read is_target s.place s.number i y) v
      → got (suffixes_walk is_target (drop (k + 1) ss) around scope left next) u ≡ got (suffixes_walk is_target (drop k ss) around scope parts i) w
  step_got within is found was gives did =
      suffix_got around scope is_target ss k s parts i w u left next within is
      (read_got around scope is_target s parts left i x w v next found was (value_is gives))
      (read_run around scope is_target s parts left i x w v u found was (went_is did))

  step_run : k < length ss → s ≡ get_or ss k s → taken x left ≡ got (way_walk s.place parts around scope i s.way) w
      → v ≡ run (way_walk s.place parts around scope i s.way) w
      → next ≡ got (suffix_read is_target s.place s.number i y) v → u ≡ run (suffix_read is_target s.place s.number i y) v
      → run (suffixes_walk is_target (drop (k + 1) ss) around scope left next) u ≡ run (suffixes_walk is_target (drop k ss) around scope parts i) w
  step_run within is found was gives did =
      suffix_run around scope is_target ss k s parts i w u left next within is
      (read_got around scope is_target s parts left i x w v next found was (value_is gives))
      (read_run around scope is_target s parts left i x w v u found was (went_is did))

  pub step_alike : k < length ss → s ≡ get_or ss k s → taken x left ≡ got (way_walk s.place parts around scope i s.way) w
      → v ≡ run (way_walk s.place parts around scope i s.way) w
      → next ≡ got (suffix_read is_target s.place s.number i y) v → u ≡ run (suffix_read is_target s.place s.number i y) v
      → Alike (got (suffixes_walk is_target (drop (k + 1) ss) around scope left next) u) (got (suffixes_walk is_target (drop k ss) around scope parts i) w)
      (run (suffixes_walk is_target (drop (k + 1) ss) around scope left next) u) (run (suffixes_walk is_target (drop k ss) around scope parts i) w)
  step_alike within is found was gives did =
      record { value = step_got within is found was gives did; walked = step_run within is found was gives did }

-- one whose index gives no number
module _ (around : Around) (scope : Scope) (is_target : Bool) (ss : List Suffix) (k : ℕ) (s : Suffix) (parts : List Part) (i : Indices) (w v : Written) where
  abbrev no_part : Option Taken
  no_part = None

  abbrev no_value : Option Passed
  no_value = None

  stop_got : k < length ss → s ≡ get_or ss k s → no_part ≡ got (way_walk s.place parts around scope i s.way) w
      → v ≡ run (way_walk s.place parts around scope i s.way) w → no_value ≡ got (suffixes_walk is_target (drop k ss) around scope parts i) w
  stop_got within is found was =
      none_got around scope is_target ss k s parts i w v within is
      (given_got (way_walk s.place parts around scope i s.way) (read_taken is_target s.place s.number i)
      (suffix_walk is_target s parts around scope i) w v no_part no_value refl found was refl) (given_run (way_walk s.place parts around scope i s.way)
      (read_taken is_target s.place s.number i) (suffix_walk is_target s parts around scope i) w v no_part no_value refl found was refl)

  stop_run : k < length ss → s ≡ get_or ss k s → no_part ≡ got (way_walk s.place parts around scope i s.way) w
      → v ≡ run (way_walk s.place parts around scope i s.way) w → v ≡ run (suffixes_walk is_target (drop k ss) around scope parts i) w
  stop_run within is found was =
      none_run around scope is_target ss k s parts i w v within is
      (given_got (way_walk s.place parts around scope i s.way) (read_taken is_target s.place s.number i)
      (suffix_walk is_target s parts around scope i) w v no_part no_value refl found was refl) (given_run (way_walk s.place parts around scope i s.way)
      (read_taken is_target s.place s.number i) (suffix_walk is_target s parts around scope i) w v no_part no_value refl found was refl)

  pub stop_alike : k < length ss → s ≡ get_or ss k s → no_part ≡ got (way_walk s.place parts around scope i s.way) w
      → v ≡ run (way_walk s.place parts around scope i s.way) w
      → Alike no_value (got (suffixes_walk is_target (drop k ss) around scope parts i) w) v (run (suffixes_walk is_target (drop k ss) around scope parts i) w)
  stop_alike within is found was = record { value = stop_got within is found was; walked = stop_run within is found was }

-- all of them
suffixes_got : (around : Around) (scope : Scope) (is_target : Bool) (ss : List Suffix) (k : ℕ) (parts : List Part) (i : Indices) (w : Written) → length ss ≤ k
    → passed parts i ≡ got (suffixes_walk is_target (drop k ss) around scope parts i) w
suffixes_got around scope is_target ss k parts i w past =
    sym (got_give (passed parts i) w) ∙ (λ j. got (sym (suffixes_end is_target ss around scope parts i k past) j) w)

suffixes_run : (around : Around) (scope : Scope) (is_target : Bool) (ss : List Suffix) (k : ℕ) (parts : List Part) (i : Indices) (w : Written) → length ss ≤ k
    → w ≡ run (suffixes_walk is_target (drop k ss) around scope parts i) w
suffixes_run around scope is_target ss k parts i w past =
    sym (run_give (passed parts i) w) ∙ (λ j. run (sym (suffixes_end is_target ss around scope parts i k past) j) w)

pub suffixes_ended : (around : Around) (scope : Scope) (is_target : Bool) (ss : List Suffix) (k : ℕ) (parts : List Part) (i : Indices) (w : Written)
    → length ss ≤ k
    → Alike (passed parts i) (got (suffixes_walk is_target (drop k ss) around scope parts i) w) w
    (run (suffixes_walk is_target (drop k ss) around scope parts i) w)
suffixes_ended around scope is_target ss k parts i w past = record {
  value = suffixes_got around scope is_target ss k parts i w past;
  walked = suffixes_run around scope is_target ss k parts i w past;
}

-- ---- the value on the way, as the code has it

value_given : (ps : List Core) (f : Option (Indices × ℕ)) → value_on (passed_in ps f) ≡ give (value_passed f)
value_given ps None = refl
value_given ps (Some x) = refl

-- no more indexes than its suffixes take, or more
module _ (place : Place) (around : Around) (scope : Scope) (ss : List Suffix) (a : Core) (qs : List Core) (i : Indices) where
  abbrev base : Walk Indices
  base = (part a).walk around scope Aims.Free

  abbrev further : Indices → Walk (Option Passed)
  further = suffixes_walk false ss around scope (each_part qs)

  abbrev onward : Indices → Walk Indices
  onward = suffixed place ss (each_part qs) around scope

  abbrev chosen : ℕ → Walk Indices
  chosen n = if nat_eq n 0 then bind (further i) value_on else if_never_value place i

  as_counted : onward i ≡ chosen (left_after ss (length qs))
  as_counted = λ j. chosen (left_after ss (length-map qs part j))

  is_more : (n : ℕ) → nat_eq (suc n) 0 ≡ false
  is_more n = grind (arith, nat_tests)

  more_left : (n : ℕ) → n ≢ 0 → chosen n ≡ if_never_value place i
  more_left zero some = absurd (some refl)
  more_left (suc n) some = ap (λ b. if b then bind (further i) value_on else if_never_value place i) (is_more n)

  module _ (w v : Written) (is : i ≡ got base w) (was : v ≡ run base w) where
    pub part_left : left_after ss (length qs) ≢ 0
        → Alike (got (if_never_value place i) v) (got (part_walk place ss (part a) (each_part qs) around scope) w)
        (run (if_never_value place i) v) (run (part_walk place ss (part a) (each_part qs) around scope) w)
    part_left some = let opens = sym (as_counted ∙ more_left (left_after ss (length qs)) some) in record {
      value = (λ j. got (opens j) v) ∙ then_got base onward w v i is was;
      walked = (λ j. run (opens j) v) ∙ then_run base onward w v i is was;
    }

    module _ (f : Option (Indices × ℕ)) (u : Written) (none : left_after ss (length qs) ≡ 0) (found : passed_in qs f ≡ got (further i) v)
        (did : u ≡ run (further i) v) where
      opened : onward i ≡ bind (further i) value_on
      opened = as_counted ∙ ap chosen none

      pub part_alike : Alike (value_passed f) (got (part_walk place ss (part a) (each_part qs) around scope) w) u
          (run (part_walk place ss (part a) (each_part qs) around scope) w)
      part_alike = record {
        value = given_got (further i) value_on (onward i) v u (passed_in qs f) (value_passed f) opened found did (value_given qs f)
            ∙ then_got base onward w v i is was;
        walked = given_run (further i) value_on (onward i) v u (passed_in qs f) (value_passed f) opened found did (value_given qs f)
            ∙ then_run base onward w v i is was;
      }

-- ---- a value of which a part is replaced

module _ (place : Place) (number : ℕ) (way : Way) (around : Around) (scope : Scope) (a c : Core) (is : List Core) (i : Indices) (w v u : Written) where
  abbrev whole : Walk Indices
  whole = (part a).walk around scope Aims.Free

  abbrev counted : Walk (Option (List Num))
  counted = numbers_walk (each_part is) around scope

  abbrev replaced : Indices → Walk Indices
  replaced j = bind counted (numbers_updated place number way (part c) around scope j)

  abbrev no_numbers : Option (List Num)
  no_numbers = None

  -- where an index gives no number
  never_updated : i ≡ got whole w → v ≡ run whole w → no_numbers ≡ got counted v → u ≡ run counted v
      → I.Never ≡ got (update_walk place number way (part a) (each_part is) (part c) around scope) w
  never_updated is_value was found did =
      given_got counted (numbers_updated place number way (part c) around scope i) (replaced i) v u no_numbers I.Never refl found did refl
      ∙ then_got whole replaced w v i is_value was

  never_went : i ≡ got whole w → v ≡ run whole w → no_numbers ≡ got counted v → u ≡ run counted v
      → u ≡ run (update_walk place number way (part a) (each_part is) (part c) around scope) w
  never_went is_value was found did =
      given_run counted (numbers_updated place number way (part c) around scope i) (replaced i) v u no_numbers I.Never refl found did refl
      ∙ then_run whole replaced w v i is_value was

  pub never_alike : i ≡ got whole w → v ≡ run whole w → no_numbers ≡ got counted v → u ≡ run counted v
      → Alike I.Never (got (update_walk place number way (part a) (each_part is) (part c) around scope) w) u
      (run (update_walk place number way (part a) (each_part is) (part c) around scope) w)
  never_alike is_value was found did =
      record { value = never_updated is_value was found did; walked = never_went is_value was found did }

  pub updated_got : {E : Type 0} (r : Result Indices E) (ns : List Num) (x : Option Reached) (s : Written) → i ≡ got whole w → v ≡ run whole w
      → Some ns ≡ got counted v → u ≡ run counted v → x ≡ got (reached_by around i way ns) u → s ≡ run (reached_by around i way ns) u
      → IfOk r (λ made. made ≡ got (updated place number (part c) around scope i x) s)
      → IfOk r (λ made. made ≡ got (update_walk place number way (part a) (each_part is) (part c) around scope) w)
  updated_got r ns x s is_value was found did reached went h =
      then_got_in r (λ made. made) whole replaced (update_walk place number way (part a) (each_part is) (part c) around scope) w v i refl is_value was
      (then_got_in r (λ made. made) counted (numbers_updated place number way (part c) around scope i) (replaced i) v u (Some ns) refl found did
      (then_got_in r (λ made. made) (reached_by around i way ns) (updated place number (part c) around scope i)
      (numbers_updated place number way (part c) around scope i (Some ns)) u s x refl reached went h))

  pub updated_run : {E : Type 0} (r : Result Indices E) (ns : List Num) (x : Option Reached) (s t : Written) → i ≡ got whole w → v ≡ run whole w
      → Some ns ≡ got counted v → u ≡ run counted v → x ≡ got (reached_by around i way ns) u → s ≡ run (reached_by around i way ns) u
      → OnOk r (t ≡ run (updated place number (part c) around scope i x) s)
      → OnOk r (t ≡ run (update_walk place number way (part a) (each_part is) (part c) around scope) w)
  updated_run r ns x s t is_value was found did reached went h =
      then_run_in r whole replaced (update_walk place number way (part a) (each_part is) (part c) around scope) w v t i refl is_value was
      (then_run_in r counted (numbers_updated place number way (part c) around scope i) (replaced i) v u t (Some ns) refl found did
      (then_run_in r (reached_by around i way ns) (updated place number (part c) around scope i)
      (numbers_updated place number way (part c) around scope i (Some ns)) u s t x refl reached went h))

pub one_value : (place : Place) (number : ℕ) (way : Way) (around : Around) (scope : Scope) (ps is : List Core) (a c : Core) → ps ≡ a ∷ is ++ c ∷ []
    → length is ≡ indexes_of way
    → update_forms place number way (each_part ps) around scope ≡ update_walk place number way (part a) (each_part is) (part c) around scope
one_value place number (Y.Field u k) around scope ps [] a c opens count = (λ j. update_forms place number (Y.Field u k) (each_part (opens j)) around scope)
one_value place number (Y.Field u k) around scope ps (x ∷ is) a c opens count = absurd (omega (arith, count))
one_value place number Y.Item around scope ps [] a c opens count = absurd (omega (arith, count))
one_value place number Y.Item around scope ps (x ∷ []) a c opens count = (λ j. update_forms place number Y.Item (each_part (opens j)) around scope)
one_value place number Y.Item around scope ps (x ∷ y ∷ is) a c opens count = absurd (omega (arith, count))
one_value place number Y.Slice around scope ps [] a c opens count = absurd (omega (arith, count))
one_value place number Y.Slice around scope ps (x ∷ []) a c opens count = absurd (omega (arith, count))
one_value place number Y.Slice around scope ps (x ∷ y ∷ []) a c opens count = (λ j. update_forms place number Y.Slice (each_part (opens j)) around scope)
one_value place number Y.Slice around scope ps (x ∷ y ∷ z ∷ is) a c opens count = absurd (omega (arith, count))
