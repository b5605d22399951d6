-- Targets, one after the other, and parts of a target.
use Rattle.std.proofs.Common.{◌≡◌, ◌∙◌, ◌<◌, ◌≤◌, ◌+◌, ap, sym, refl, ℕ, List, [], ◌∷◌, ◌++◌, map, length, drop, get_or, append_assoc, append-nil}
use Rattle.std.proofs.Common.{true, Option, Some, None, Result, IfOk, OnOk, ◌-◌, arith, take, slice_get}
use Rattle.std.proofs.lemmas.Option.{slice_get_read}
use Rattle.sail_base.specs.declared.place.Place.{Place}
use Rattle.sail_core.specs.declared.targets.Suffix.{Suffix}
use Rattle.sail_core.specs.declared.targets.Target.{Target, out-Target}
use Rattle.sail_core.specs.declared.targets.TargetKind.{TargetKind}
use Rattle.value_indices.specs.Steps.{Walk, bind}
use Rattle.value_indices.specs.Walking.{Written, got, run}
use Rattle.value_indices.proofs.Walks.{got_bind, got_give, run_bind, run_give}
use Rattle.value_indices.specs.declared.indices.Indices.{Indices}
use Rattle.pattern_leaves.specs.Settings.{Around, Scope}
use Rattle.pattern_leaves.proofs.Rests.{rest_is, all_behind}
use Rattle.call_arguments.proofs.Lists.{item_is}
use Rattle.expression_forms.specs.Spots.{Spot, spot_of}
use Rattle.expression_forms.specs.declared.spots.Spot as code
use Rattle.expression_forms.specs.declared.ways.Reached.{Reached}
use Rattle.sail_core.specs.declared.tree.Core.{Core}
use Rattle.expression_steps.specs.Coded.{left_behind, passed_in, spotted_in, taken_in}
use Rattle.expression_steps.specs.Parts.{Part}
use Rattle.expression_steps.specs.Targets.{Spotted, SpottedAll, each_spot, kind_spot, no_spot, part_of, part_spotted, spotted, spotted_all, spotting}
use Rattle.expression_steps.specs.Targets.{suffixes_spot, then_spot, with_spot}
use Rattle.expression_steps.specs.Values.{Taken, suffixes_walk, way_walk}
use Rattle.expression_steps.proofs.Opened.{spotting_is}
use Rattle.expression_steps.proofs.Onward.{on_ok, same_run, then_got_in, then_run_in}
use Rattle.expression_steps.proofs.Spots.{no_spot_got, none_end, of_any, stops_got, stops_run, within_got, within_run}
use Rattle.expression_notes.proofs.Alike.{Alike}

-- a target of a kind
pub kind_opens : (t : Target) (ts : List Target) (kind : TargetKind) (around : Around) (scope : Scope) (parts : List Part) → ts ≡ (out-Target t).parts
    → (out-Target t).kind ≡ kind
    → spotting t around scope parts ≡ kind_spot (out-Target t).place (out-Target t).number kind (map spotting ts) around scope parts
kind_opens t ts kind around scope parts same is =
    spotting_is t ts around scope parts same ∙ (λ j. kind_spot (out-Target t).place (out-Target t).number (is j) (map spotting ts) around scope parts)

-- those before, with what others are
abbrev pub more_spots : List Spot → Option SpottedAll → Option SpottedAll
more_spots before None = None
more_spots before (Some all) = spotted_all (before ++ all.spots) all.left

abbrev with_one : Spot → Option SpottedAll → Option SpottedAll
with_one s None = None
with_one s (Some more) = spotted_all (s ∷ more.spots) more.left

one_more : (before : List Spot) (s : Spot) (all : Option SpottedAll) → more_spots (before ++ s ∷ []) all ≡ more_spots before (with_one s all)
one_more before s None = refl
one_more before s (Some all) = ap (λ ss. spotted_all ss all.left) (append_assoc before (s ∷ []) all.spots)

with_got : (s : Spot) (all : Option SpottedAll) (w : Written) → got (with_spot s all) w ≡ with_one s all
with_got s None w = got_give None w
with_got s (Some more) w = got_give (spotted_all (s ∷ more.spots) more.left) w

with_run : (s : Spot) (all : Option SpottedAll) (w : Written) → run (with_spot s all) w ≡ w
with_run s None w = run_give {A = Option SpottedAll} None w
with_run s (Some more) w = run_give (spotted_all (s ∷ more.spots) more.left) w

module _ (around : Around) (scope : Scope) where
  abbrev each : List Target → List Part → Walk (Option SpottedAll)
  each ts parts = each_spot (map spotting ts) around scope parts

  abbrev behind : List Target → Spot → List Part → Walk (Option SpottedAll)
  behind ts s left = bind (each ts left) (with_spot s)

  behind_got : (ts : List Target) (s : Spot) (left : List Part) (w : Written) → got (behind ts s left) w ≡ with_one s (got (each ts left) w)
  behind_got ts s left w = got_bind (each ts left) (with_spot s) w ∙ with_got s (got (each ts left) w) (run (each ts left) w)

  behind_run : (ts : List Target) (s : Spot) (left : List Part) (w : Written) → run (behind ts s left) w ≡ run (each ts left) w
  behind_run ts s left w = run_bind (each ts left) (with_spot s) w ∙ with_run s (got (each ts left) w) (run (each ts left) w)

  opened : (ts : List Target) (k : ℕ) (t : Target) (parts : List Part) → k < length ts → t ≡ get_or ts k t
      → each (drop k ts) parts ≡ bind (spotting t around scope parts) (then_spot (behind (drop (k + 1) ts)))
  opened ts k t parts within is = (λ j. each (rest_is ts k t within is j) parts)

  -- a target that is there, and those behind it
  spots_more : (ts : List Target) (k : ℕ) (t : Target) (parts left : List Part) (s : Spot) (before now : List Spot) (w v : Written)
      → k < length ts → t ≡ get_or ts k t → spotted s left ≡ got (spotting t around scope parts) w → v ≡ run (spotting t around scope parts) w
      → now ≡ before ++ s ∷ []
      → more_spots now (got (each (drop (k + 1) ts) left) v) ≡ more_spots before (got (each (drop k ts) parts) w)
  spots_more ts k t parts left s before now w v within is found was grown =
      ap (λ ss. more_spots ss (got (each (drop (k + 1) ts) left) v)) grown
      ∙ one_more before s (got (each (drop (k + 1) ts) left) v)
      ∙ ap (more_spots before) (sym (behind_got (drop (k + 1) ts) s left v)
      ∙ (λ j. got (then_spot (behind (drop (k + 1) ts)) (found j)) (was j))
      ∙ sym (got_bind (spotting t around scope parts) (then_spot (behind (drop (k + 1) ts))) w)
      ∙ sym (ap (λ (a : Walk (Option SpottedAll)). got a w) (opened ts k t parts within is)))

  spots_walked : (ts : List Target) (k : ℕ) (t : Target) (parts left : List Part) (s : Spot) (w v : Written)
      → k < length ts → t ≡ get_or ts k t → spotted s left ≡ got (spotting t around scope parts) w → v ≡ run (spotting t around scope parts) w
      → run (each (drop (k + 1) ts) left) v ≡ run (each (drop k ts) parts) w
  spots_walked ts k t parts left s w v within is found was =
      sym (behind_run (drop (k + 1) ts) s left v)
      ∙ (λ j. run (then_spot (behind (drop (k + 1) ts)) (found j)) (was j))
      ∙ sym (run_bind (spotting t around scope parts) (then_spot (behind (drop (k + 1) ts))) w)
      ∙ sym (ap (λ (a : Walk (Option SpottedAll)). run a w) (opened ts k t parts within is))

  pub spots_onward : (ts : List Target) (k : ℕ) (t : Target) (parts left : List Part) (s : Spot) (before now : List Spot) (w v : Written)
      → k < length ts → t ≡ get_or ts k t → spotted s left ≡ got (spotting t around scope parts) w → v ≡ run (spotting t around scope parts) w
      → now ≡ before ++ s ∷ []
      → Alike (more_spots now (got (each (drop (k + 1) ts) left) v)) (more_spots before (got (each (drop k ts) parts) w))
      (run (each (drop (k + 1) ts) left) v) (run (each (drop k ts) parts) w)
  spots_onward ts k t parts left s before now w v within is found was grown = record {
    value = spots_more ts k t parts left s before now w v within is found was grown;
    walked = spots_walked ts k t parts left s w v within is found was;
  }

  abbrev nothing : Option Spotted
  nothing = None

  -- one that isn't
  spots_none : (ts : List Target) (k : ℕ) (t : Target) (parts : List Part) (before : List Spot) (w : Written)
      → k < length ts → t ≡ get_or ts k t → nothing ≡ got (spotting t around scope parts) w
      → None ≡ more_spots before (got (each (drop k ts) parts) w)
  spots_none ts k t parts before w within is found =
      ap (more_spots before) (sym (got_give None (run (spotting t around scope parts) w))
      ∙ (λ j. got (then_spot (behind (drop (k + 1) ts)) (found j)) (run (spotting t around scope parts) w))
      ∙ sym (got_bind (spotting t around scope parts) (then_spot (behind (drop (k + 1) ts))) w)
      ∙ sym (ap (λ (a : Walk (Option SpottedAll)). got a w) (opened ts k t parts within is)))

  none_walked : (ts : List Target) (k : ℕ) (t : Target) (parts : List Part) (w v : Written)
      → k < length ts → t ≡ get_or ts k t → nothing ≡ got (spotting t around scope parts) w → v ≡ run (spotting t around scope parts) w
      → v ≡ run (each (drop k ts) parts) w
  none_walked ts k t parts w v within is found was =
      sym (run_give {A = Option SpottedAll} None v)
      ∙ (λ j. run (then_spot (behind (drop (k + 1) ts)) (found j)) (was j))
      ∙ sym (run_bind (spotting t around scope parts) (then_spot (behind (drop (k + 1) ts))) w)
      ∙ sym (ap (λ (a : Walk (Option SpottedAll)). run a w) (opened ts k t parts within is))

  pub spots_stop : (ts : List Target) (k : ℕ) (t : Target) (parts : List Part) (before : List Spot) (w v : Written)
      → k < length ts → t ≡ get_or ts k t → nothing ≡ got (spotting t around scope parts) w → v ≡ run (spotting t around scope parts) w
      → Alike None (more_spots before (got (each (drop k ts) parts) w)) v (run (each (drop k ts) parts) w)
  spots_stop ts k t parts before w v within is found was =
      record { value = spots_none ts k t parts before w within is found; walked = none_walked ts k t parts w v within is found was }

  -- all of them
  spots_end : (ts : List Target) (k : ℕ) (parts : List Part) (before : List Spot) (w : Written) → length ts ≤ k
      → spotted_all before parts ≡ more_spots before (got (each (drop k ts) parts) w)
  spots_end ts k parts before w past =
      ap (λ ss. spotted_all ss parts) (sym (append-nil before))
      ∙ sym (ap (more_spots before) (ap (λ (xs : List Target). got (each xs parts) w) (all_behind ts k past) ∙ got_give (spotted_all [] parts) w))

  end_walked : (ts : List Target) (k : ℕ) (parts : List Part) (w : Written) → length ts ≤ k → w ≡ run (each (drop k ts) parts) w
  end_walked ts k parts w past =
      sym (ap (λ (xs : List Target). run (each xs parts) w) (all_behind ts k past) ∙ run_give (spotted_all [] parts) w)

  pub spots_ended : (ts : List Target) (k : ℕ) (parts : List Part) (before : List Spot) (w : Written) → length ts ≤ k
      → Alike (spotted_all before parts) (more_spots before (got (each (drop k ts) parts) w)) w (run (each (drop k ts) parts) w)
  spots_ended ts k parts before w past = record { value = spots_end ts k parts before w past; walked = end_walked ts k parts w past }

-- ---- a part of a target that isn't there

abbrev nowhere : Option Spotted
nowhere = None

pub absent_alike : (around : Around) (parts : List Core) (target : Option (code.Spot × ℕ)) (next : Spot → List Part → Walk (Option Spotted)) (w : Written)
    → target ≡ None → Alike nowhere (got (then_spot next (spotted_in around parts target)) w) w (run (then_spot next (spotted_in around parts target)) w)
absent_alike around parts target next w none = record {
  value = sym (got_give nowhere w) ∙ (λ j. got (then_spot next (spotted_in around parts (sym none j))) w);
  walked = sym (run_give nowhere w) ∙ (λ j. run (then_spot next (spotted_in around parts (sym none j))) w);
}

-- ---- a part of a target that is there, behind what it holds

module _ (around : Around) (scope : Scope) (place : Place) (number : ℕ) (ss : List Suffix) (parts : List Core) (target : Option (code.Spot × ℕ))
    (base : code.Spot) (at : ℕ) (is : target ≡ Some (base, at)) (held : Indices) (w v : Written) (held_is : held ≡ got ((spot_of around base).read) w)
    (was : v ≡ run ((spot_of around base).read) w) where
  abbrev within : Walk (Option Spotted)
  within = then_spot (part_of place number ss around scope) (spotted_in around parts target)

  abbrev left : List Part
  left = left_behind parts at

  opens : within ≡ part_of place number ss around scope (spot_of around base) left
  opens = (λ j. then_spot (part_of place number ss around scope) (spotted_in around parts (is j)))

  abbrev further : Indices → Walk (Option Spotted)
  further = suffixes_spot place number (slice_get ss (length ss - 1)) (take (length ss - 1) ss) around scope (spot_of around base) left

  -- where there is no suffix
  pub none_within_got : {E : Type 0} (r : Result (Option (code.Spot × ℕ)) E) → length ss < 1
      → IfOk r (λ made. (a : Around) (ps : List Core) → spotted_in a ps made ≡ got (no_spot place) v)
      → IfOk r (λ made. spotted_in around parts made ≡ got within w)
  none_within_got r none h =
      then_got_in r (spotted_in around parts) ((spot_of around base).read) further within w v held opens held_is was
      (no_spot_got r around parts place (further held) v (none_end around scope place number ss (spot_of around base) left held none) h)

  pub none_within_run : {E : Type 0} (r : Result (Option (code.Spot × ℕ)) E) (u : Written) → length ss < 1 → OnOk r (u ≡ run (no_spot place) v)
      → OnOk r (u ≡ run within w)
  none_within_run r u none h =
      then_run_in r ((spot_of around base).read) further within w v u held opens held_is was
      (same_run r (no_spot place) (further held) v u (none_end around scope place number ss (spot_of around base) left held none) h)

  module _ (read : List Suffix) (s : Suffix) (last : slice_get ss (length ss - 1) ≡ Some s) (before : read ≡ take (length ss - 1) ss) (copy : Indices)
      (same : copy ≡ held) (went : Option (Indices × ℕ)) (u : Written)
      (found : passed_in parts went ≡ got (suffixes_walk true read around scope left copy) v)
      (did : u ≡ run (suffixes_walk true read around scope left copy) v) where
    found_is : passed_in parts went ≡ got (suffixes_walk true read around scope left held) v
    found_is = found ∙ ap (λ (i : Indices). got (suffixes_walk true read around scope left i) v) same

    did_is : u ≡ run (suffixes_walk true read around scope left held) v
    did_is = did ∙ ap (λ (i : Indices). run (suffixes_walk true read around scope left i) v) same

    abbrev no_target : Option Spotted
    no_target = None

    -- where one that is read stops
    stopped_got : went ≡ None → no_target ≡ got within w
    stopped_got none =
        stops_got around scope place number ss read s (spot_of around base) left held w v u last before held_is was
        ((λ j. passed_in parts (sym none j)) ∙ found_is) did_is
        ∙ ap (λ (x : Walk (Option Spotted)). got x w) (sym opens)

    stopped_run : went ≡ None → u ≡ run within w
    stopped_run none =
        stops_run around scope place number ss read s (spot_of around base) left held w v u last before held_is was
        ((λ j. passed_in parts (sym none j)) ∙ found_is) did_is
        ∙ ap (λ (x : Walk (Option Spotted)). run x w) (sym opens)

    pub stopped_alike : went ≡ None → Alike no_target (got within w) u (run within w)
    stopped_alike none = record { value = stopped_got none; walked = stopped_run none }

    -- what the last one reaches
    module _ (i : Indices) (k : ℕ) (some : went ≡ Some (i, k)) (x : Option (Option Reached × ℕ)) (t : Written) where
      abbrev reaches : Walk (Option Taken)
      reaches = way_walk s.place (left_behind parts k) around scope i s.way

      pub part_got : {E : Type 0} (r : Result (Option (code.Spot × ℕ)) E) → taken_in parts x ≡ got reaches u
          → IfOk r (λ made. (a : Around) (ps : List Core) → spotted_in a ps made ≡ part_spotted a number s (spot_of a base) held (taken_in ps x))
          → IfOk r (λ made. spotted_in around parts made ≡ got within w)
      part_got r reached h =
          of_any r (λ a ps. part_spotted a number s (spot_of a base) held (taken_in ps x)) around parts (got within w)
          (within_got around scope place number ss read s (spot_of around base) left (left_behind parts k) held i (taken_in parts x) w v u t last before held_is
          was ((λ j. passed_in parts (sym some j)) ∙ found_is) did_is reached
          ∙ ap (λ (y : Walk (Option Spotted)). got y w) (sym opens)) h

      pub part_run : {E : Type 0} (r : Result (Option (code.Spot × ℕ)) E) → t ≡ run reaches u → OnOk r (t ≡ run within w)
      part_run r reached =
          on_ok r (within_run around scope place number ss read s (spot_of around base) left (left_behind parts k) held i (taken_in parts x) w v u t last before
          held_is was ((λ j. passed_in parts (sym some j)) ∙ found_is) did_is reached
          ∙ ap (λ (y : Walk (Option Spotted)). run y w) (sym opens))

-- the last item
pub last_there : {A : Type 0} (xs : List A) (d : A) → 1 ≤ length xs → slice_get xs (length xs - 1) ≡ Some (get_or xs (length xs - 1) d)
last_there xs d some =
    let within : length xs - 1 < length xs = omega (arith, some) in
    slice_get_read xs (length xs) (length xs - 1) (get_or xs (length xs - 1) d) refl within (item_is xs (length xs - 1) d within)

pub last_is : {A : Type 0} (xs : List A) → 1 ≤ length xs → (x : A) × slice_get xs (length xs - 1) ≡ Some x
last_is [] some = absurd (omega arith)
last_is (x ∷ xs) some = (get_or (x ∷ xs) (length (x ∷ xs) - 1) x, last_there (x ∷ xs) x some)
