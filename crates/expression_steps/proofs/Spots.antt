-- What targets are, by the suffixes and targets in them, and by the parts that are left.
use Rattle.std.proofs.Common.{◌≡◌, ◌≢◌, ◌∙◌, ◌≤◌, ◌<◌, ◌+◌, ◌-◌, ap, refl, sym, arith, ℕ, Bool, false, true, None, Some, Option, Result, Ok, Err, IfOk}
use Rattle.std.proofs.Common.{List, [], ◌∷◌, length, drop, take, get_or, slice_get, map}
use Rattle.std.proofs.lemmas.List.{drop-map, take-map}
use Rattle.sail_base.specs.declared.place.Place.{Place}
use Rattle.sail_core.specs.declared.targets.Caller.{Caller}
use Rattle.sail_core.specs.declared.targets.Suffix.{Suffix}
use Rattle.sail_core.specs.declared.targets.Target.{Target}
use Rattle.sail_core.specs.declared.targets.TargetKind.TheVariants as T
use Rattle.sail_core.specs.declared.tree.Core.{Core}
use Rattle.value_indices.specs.Steps.{Walk, bind, give}
use Rattle.value_indices.specs.Walking.{Written, got, run}
use Rattle.value_indices.specs.declared.indices.Indices.{Indices}
use Rattle.value_indices.proofs.Walks.{got_give, run_give}
use Rattle.pattern_leaves.specs.Settings.{Around, Scope, held_in}
use Rattle.pattern_leaves.specs.declared.names.Held.{Held}
use Rattle.pattern_leaves.proofs.Rests.{one_of}
use Rattle.pattern_leaves.proofs.Walked.{made_got, made_run, then_got, then_run}
use Rattle.call_arguments.specs.declared.aims.Aim.{Aim}
use Rattle.call_notes.specs.Calls.{callee_types}
use Rattle.call_notes.specs.Ends.{wrong_value}
use Rattle.expression_forms.specs.Spots.{Spot, call_spot, held_spot, register_spot, spot_form, spot_of, tuple_spot, written_by}
use Rattle.expression_forms.specs.declared.spots.Spot as code
use Rattle.expression_forms.specs.declared.spots.Spot.TheOpen as S
use Rattle.expression_forms.specs.declared.spots.Spot.TheVariants as V
use Rattle.expression_steps.specs.Calls.{argument_aims, arguments_walk, nestings}
use Rattle.expression_steps.specs.Coded.{each_part, left_behind, spotted_in}
use Rattle.expression_steps.specs.Expressions.{part}
use Rattle.expression_steps.specs.Parts.{Part, each_walk}
use Rattle.expression_steps.specs.Targets.{Spotted, assigned, assigned_one, assigned_to, call_spotted, call_target, kind_spot, last_suffix, no_spot}
use Rattle.expression_steps.specs.Targets.{part_of, part_spotted, part_within, spotted, spotting, suffixes_spot, then_spot, value_for}
use Rattle.expression_steps.specs.Values.{Passed, Taken, passed, suffixes_walk, then_on, way_walk}
use Rattle.expression_steps.proofs.Left.{left_more}
use Rattle.expression_steps.proofs.Onward.{given_got, given_run}
use Rattle.expression_steps.proofs.Rests.{none_of}

-- ---- as the code holds them

pub tuple_is : (around : Around) (place : Place) (k : ℕ) (ss : List code.Spot)
    → spot_of around (V.Tuple place k ss) ≡ tuple_spot place k (map (spot_of around) ss)
tuple_is around place k ss = ap (spot_of around) (sym (V.rolls-Tuple place k ss)) ∙ code.fold-roll-Spot Spot (spot_form around) (S.Tuple place k ss)

pub call_is : (around : Around) (place : Place) (k : ℕ) (reader : Option Caller) (writer : Caller) (bs : List Bool) (is : List Indices)
    → spot_of around (V.Call place k reader writer bs is) ≡ call_spot around place k reader writer bs is
call_is around place k reader writer bs is =
    ap (spot_of around) (sym (V.rolls-Call place k reader writer bs is))
    ∙ code.fold-roll-Spot Spot (spot_form around) (S.Call place k reader writer bs is)

-- where there is no such target
pub no_spot_got : {E : Type 0} (r : Result (Option (code.Spot × ℕ)) E) (around : Around) (parts : List Core) (place : Place) (whole : Walk (Option Spotted))
    (w : Written) → whole ≡ no_spot place → IfOk r (λ made. (a : Around) (ps : List Core) → spotted_in a ps made ≡ got (no_spot place) w)
    → IfOk r (λ made. spotted_in around parts made ≡ got whole w)
no_spot_got (Ok made) around parts place whole w same h = h around parts ∙ (λ j. got (sym same j) w)
no_spot_got (Err e) around parts place whole w same h = tt

-- ---- parts: the last suffix, and those before it, which are read

module _ (around : Around) (scope : Scope) (place : Place) (k : ℕ) (ss : List Suffix) (base : Spot) (parts : List Part) where
  abbrev ending : Indices → Walk (Option Spotted)
  ending = suffixes_spot place k (slice_get ss (length ss - 1)) (take (length ss - 1) ss) around scope base parts

  -- no suffix
  pub none_end : (held : Indices) → length ss < 1 → ending held ≡ no_spot place
  none_end held none =
      (λ j. suffixes_spot place k (slice_get (none_of ss none j) (length ss - 1)) (take (length ss - 1) ss) around scope base parts held)

  pub ends : (read : List Suffix) (s : Suffix) (held : Indices) → slice_get ss (length ss - 1) ≡ Some s → read ≡ take (length ss - 1) ss
      → ending held ≡ bind (suffixes_walk true read around scope parts held) (then_on (last_suffix k s around scope base held))
  ends read s held last before =
      (λ j. suffixes_spot place k (last j) (take (length ss - 1) ss) around scope base parts held)
      ∙ (λ j. bind (suffixes_walk true (sym before j) around scope parts held) (then_on (last_suffix k s around scope base held)))

-- a suffix that is the last: what it reaches, behind what is read and what the base holds
module _ (around : Around) (scope : Scope) (place : Place) (k : ℕ) (ss read : List Suffix) (s : Suffix) (base : Spot) (parts left : List Part)
    (held i : Indices) (x : Option Taken) (w v u t : Written) where
  abbrev reading : Walk (Option Passed)
  reading = suffixes_walk true read around scope parts held

  abbrev reaching : Walk (Option Taken)
  reaching = way_walk s.place left around scope i s.way

  pub within_got : slice_get ss (length ss - 1) ≡ Some s → read ≡ take (length ss - 1) ss → held ≡ got base.read w → v ≡ run base.read w
      → passed left i ≡ got reading v → u ≡ run reading v → x ≡ got reaching u
      → part_spotted around k s base held x ≡ got (part_of place k ss around scope base parts) w
  within_got last before held_is was found did reached =
      made_got reaching (part_spotted around k s base held) u x reached
      ∙ then_got reading (then_on (last_suffix k s around scope base held)) v u (passed left i) found did
      ∙ (λ j. got (sym (ends around scope place k ss base parts read s held last before) j) v)
      ∙ then_got base.read (ending around scope place k ss base parts) w v held held_is was

  pub within_run : slice_get ss (length ss - 1) ≡ Some s → read ≡ take (length ss - 1) ss → held ≡ got base.read w → v ≡ run base.read w
      → passed left i ≡ got reading v → u ≡ run reading v → t ≡ run reaching u
      → t ≡ run (part_of place k ss around scope base parts) w
  within_run last before held_is was found did went =
      made_run reaching (part_spotted around k s base held) u t went
      ∙ then_run reading (then_on (last_suffix k s around scope base held)) v u (passed left i) found did
      ∙ (λ j. run (sym (ends around scope place k ss base parts read s held last before) j) v)
      ∙ then_run base.read (ending around scope place k ss base parts) w v held held_is was

-- where one that is read stops
module _ (around : Around) (scope : Scope) (place : Place) (k : ℕ) (ss read : List Suffix) (s : Suffix) (base : Spot) (parts : List Part)
    (held : Indices) (w v u : Written) where
  abbrev nothing : Option Passed
  nothing = None

  abbrev no_target : Option Spotted
  no_target = None

  abbrev rest : Option Passed → Walk (Option Spotted)
  rest = then_on (last_suffix k s around scope base held)

  abbrev reads : Walk (Option Passed)
  reads = suffixes_walk true read around scope parts held

  pub stops_got : slice_get ss (length ss - 1) ≡ Some s → read ≡ take (length ss - 1) ss → held ≡ got base.read w → v ≡ run base.read w
      → nothing ≡ got reads v → u ≡ run reads v → no_target ≡ got (part_of place k ss around scope base parts) w
  stops_got last before held_is was found did =
      given_got reads rest (ending around scope place k ss base parts held) v u nothing no_target
      (ends around scope place k ss base parts read s held last before) found did refl
      ∙ then_got base.read (ending around scope place k ss base parts) w v held held_is was

  pub stops_run : slice_get ss (length ss - 1) ≡ Some s → read ≡ take (length ss - 1) ss → held ≡ got base.read w → v ≡ run base.read w
      → nothing ≡ got reads v → u ≡ run reads v → u ≡ run (part_of place k ss around scope base parts) w
  stops_run last before held_is was found did =
      given_run reads rest (ending around scope place k ss base parts held) v u nothing no_target
      (ends around scope place k ss base parts read s held last before) found did refl
      ∙ then_run base.read (ending around scope place k ss base parts) w v held held_is was

-- what is said of any parts, of these
pub of_any : {E : Type 0} (r : Result (Option (code.Spot × ℕ)) E) (f : Around → List Core → Option Spotted) (around : Around) (parts : List Core)
    (y : Option Spotted) → f around parts ≡ y → IfOk r (λ made. (a : Around) (ps : List Core) → spotted_in a ps made ≡ f a ps)
    → IfOk r (λ made. spotted_in around parts made ≡ y)
of_any (Ok made) f around parts y same h = h around parts ∙ same
of_any (Err e) f around parts y same h = tt

-- ---- kinds, by the targets inside

module _ (place : Place) (number : ℕ) (around : Around) (scope : Scope) (parts : List Part) where
  pub no_name : (name : List ℕ) (ts : List Target) → 1 ≤ length ts
      → kind_spot place number (T.Variable name) (map spotting ts) around scope parts ≡ no_spot place
  no_name name [] some = absurd (omega arith)
  no_name name (t ∷ ts) some = refl

  pub no_register : (r : ℕ) (ts : List Target) → 1 ≤ length ts → kind_spot place number (T.Register r) (map spotting ts) around scope parts ≡ no_spot place
  no_register r [] some = absurd (omega arith)
  no_register r (t ∷ ts) some = refl

  pub no_call : (count : ℕ) (reader : Option Caller) (writer : Caller) (ts : List Target) → 1 ≤ length ts
      → kind_spot place number (T.Call count reader writer) (map spotting ts) around scope parts ≡ no_spot place
  no_call count reader writer [] some = absurd (omega arith)
  no_call count reader writer (t ∷ ts) some = refl

  pub call_alone : (count : ℕ) (reader : Option Caller) (writer : Caller) (ts : List Target) → length ts < 1
      → kind_spot place number (T.Call count reader writer) (map spotting ts) around scope parts
      ≡ call_target place number count reader writer around scope parts
  call_alone count reader writer ts none = (λ j. kind_spot place number (T.Call count reader writer) (map spotting (none_of ts none j)) around scope parts)

  pub part_opens : (ss : List Suffix) (ts : List Target) (t : Target) → 1 ≤ length ts → length ts < 2 → t ≡ get_or ts 0 t
      → kind_spot place number (T.Part ss) (map spotting ts) around scope parts
      ≡ bind (spotting t around scope parts) (then_spot (part_within place number ss around scope))
  part_opens ss ts t some few is = (λ j. kind_spot place number (T.Part ss) (map spotting (one_of ts t some few is j)) around scope parts)

  pub no_base : (ss : List Suffix) (ts : List Target) → length ts ≢ 1
      → kind_spot place number (T.Part ss) (map spotting ts) around scope parts ≡ no_spot place
  no_base ss [] other = refl
  no_base ss (t ∷ []) other = absurd (other (omega arith))
  no_base ss (t ∷ u ∷ ts) other = refl

  name_is : (name : List ℕ) (ts : List Target) (spot : Spot) (h : Option Held) → length ts < 1 → spot ≡ held_spot around place number name h
      → h ≡ held_in name scope → kind_spot place number (T.Variable name) (map spotting ts) around scope parts ≡ give (spotted spot parts)
  name_is name ts spot h none is held =
      (λ j. kind_spot place number (T.Variable name) (map spotting (none_of ts none j)) around scope parts)
      ∙ (λ j. give (spotted (held_spot around place number name (sym held j)) parts)) ∙ (λ j. give (spotted (sym is j) parts))

  pub name_got : (name : List ℕ) (ts : List Target) (spot : Spot) (h : Option Held) (w : Written) → length ts < 1
      → spot ≡ held_spot around place number name h → h ≡ held_in name scope
      → spotted spot parts ≡ got (kind_spot place number (T.Variable name) (map spotting ts) around scope parts) w
  name_got name ts spot h w none is held =
      sym (got_give (spotted spot parts) w) ∙ (λ j. got (sym (name_is name ts spot h none is held) j) w)

  pub name_run : (name : List ℕ) (ts : List Target) (w : Written) → length ts < 1
      → w ≡ run (kind_spot place number (T.Variable name) (map spotting ts) around scope parts) w
  name_run name ts w none =
      sym (run_give (spotted (held_spot around place number name (held_in name scope)) parts) w)
      ∙ (λ j. run (kind_spot place number (T.Variable name) (map spotting (sym (none_of ts none) j)) around scope parts) w)

  pub register_got : (k : ℕ) (ts : List Target) (spot : Spot) (w : Written) → length ts < 1
      → spot ≡ register_spot around place number (slice_get around.registers k)
      → spotted spot parts ≡ got (kind_spot place number (T.Register k) (map spotting ts) around scope parts) w
  register_got k ts spot w none is =
      (λ j. spotted (is j) parts) ∙ sym (got_give (spotted (register_spot around place number (slice_get around.registers k)) parts) w)
      ∙ (λ j. got (kind_spot place number (T.Register k) (map spotting (sym (none_of ts none) j)) around scope parts) w)

  pub register_run : (k : ℕ) (ts : List Target) (w : Written) → length ts < 1
      → w ≡ run (kind_spot place number (T.Register k) (map spotting ts) around scope parts) w
  register_run k ts w none =
      sym (run_give (spotted (register_spot around place number (slice_get around.registers k)) parts) w)
      ∙ (λ j. run (kind_spot place number (T.Register k) (map spotting (sym (none_of ts none) j)) around scope parts) w)

-- ---- calls

module _ (around : Around) (scope : Scope) (place : Place) (number count : ℕ) (reader : Option Caller) (writer : Caller) (k : ℕ) (ps args : List Core)
    (aims : List Aim) (is : List Indices) (w v : Written) where
  abbrev walked : Walk (List Indices)
  walked = arguments_walk (take count (left_behind ps k)) around scope (callee_types around writer.callee)

  abbrev made : List Indices → Walk (Option Spotted)
  made = call_spotted around place number count reader writer (left_behind ps k)

  abbrev given : Option Spotted
  given = spotted (call_spot around place number reader writer (nestings (each_part args)) is) (left_behind ps (k + length args))

  args_are : args ≡ take count (drop k ps) → each_part args ≡ take count (left_behind ps k)
  args_are same = ap each_part same ∙ sym (take-map part count (drop k ps))

  left_is : args ≡ take count (drop k ps) → left_behind ps (k + length args) ≡ drop count (left_behind ps k)
  left_is same =
      (λ j. left_behind ps (k + length (same j))) ∙ sym (ap each_part (left_more k count ps)) ∙ sym (drop-map part count (drop k ps))

  given_is : args ≡ take count (drop k ps) → made is ≡ give given
  given_is same =
      (λ j. give (spotted (call_spot around place number reader writer (nestings (sym (args_are same) j)) is) (sym (left_is same) j)))

  found_is : args ≡ take count (drop k ps) → aims ≡ argument_aims (callee_types around writer.callee)
      → is ≡ got (each_walk (each_part args) around scope aims) w → is ≡ got walked w
  found_is same types found = found ∙ (λ j. got (each_walk (args_are same j) around scope (types j)) w)

  was_is : args ≡ take count (drop k ps) → aims ≡ argument_aims (callee_types around writer.callee)
      → v ≡ run (each_walk (each_part args) around scope aims) w → v ≡ run walked w
  was_is same types was = was ∙ (λ j. run (each_walk (args_are same j) around scope (types j)) w)

  pub call_got : args ≡ take count (drop k ps) → aims ≡ argument_aims (callee_types around writer.callee)
      → is ≡ got (each_walk (each_part args) around scope aims) w → v ≡ run (each_walk (each_part args) around scope aims) w
      → given ≡ got (call_target place number count reader writer around scope (left_behind ps k)) w
  call_got same types found was =
      given_got walked made (call_target place number count reader writer around scope (left_behind ps k)) w v is given refl
      (found_is same types found) (was_is same types was) (given_is same)

  pub call_run : args ≡ take count (drop k ps) → aims ≡ argument_aims (callee_types around writer.callee)
      → is ≡ got (each_walk (each_part args) around scope aims) w → v ≡ run (each_walk (each_part args) around scope aims) w
      → v ≡ run (call_target place number count reader writer around scope (left_behind ps k)) w
  call_run same types found was =
      given_run walked made (call_target place number count reader writer around scope (left_behind ps k)) w v is given refl
      (found_is same types found) (was_is same types was) (given_is same)

-- ---- assignments

module _ (place : Place) (around : Around) (scope : Scope) (s : Spot) where
  pub one_assigned : (k : ℕ) (ps ls : List Core) (a : Core) → ls ≡ drop k ps → 1 ≤ length ls → length ls < 2 → a ≡ get_or ls 0 a
      → assigned_one place around scope s (left_behind ps k) ≡ value_for (part a) around scope place s
  one_assigned k ps ls a left some few is = (λ j. assigned_one place around scope s (each_part ((sym left ∙ one_of ls a some few is) j)))

  -- the last target, to which a value is given
  pub none_left : (k : ℕ) (ps ls : List Core) → ls ≡ drop k ps → length ls ≢ 1
      → assigned_one place around scope s (left_behind ps k) ≡ wrong_value place
  none_left k ps [] left other = (λ j. assigned_one place around scope s (each_part (sym left j)))
  none_left k ps (a ∷ []) left other = absurd (other (omega arith))
  none_left k ps (a ∷ b ∷ ls) left other = (λ j. assigned_one place around scope s (each_part (sym left j)))

  pub no_further : (ts : List Target) (parts : List Part) → length ts < 1
      → assigned_to place (map spotting ts) (assigned place (map spotting ts) around scope) around scope s parts
      ≡ assigned_one place around scope s parts
  no_further [] parts none = refl
  no_further (t ∷ ts) parts none = absurd (omega arith)

  pub further : (ts : List Target) (parts : List Part) → 1 ≤ length ts
      → assigned_to place (map spotting ts) (assigned place (map spotting ts) around scope) around scope s parts
      ≡ bind (assigned place (map spotting ts) around scope parts) (written_by place s false)
  further [] parts some = absurd (omega arith)
  further (t ∷ ts) parts some = refl
