-- Parts of what is there late: what is written down behind its read and the ways into it.
use Rattle.std.proofs.Common.{◌≡◌, ◌∙◌, ◌+◌, ◌-◌, ◌<◌, ◌≤◌, ap, arith, refl, sym, ℕ, true, None, Some, Option, List, [], ◌∷◌}
use Rattle.std.proofs.Common.{Result, Ok, Err, IfOk, length, drop, take, get_or, slice_get}
use Rattle.sail_base.specs.declared.place.Place.{Place}
use Rattle.sail_core.specs.declared.targets.Suffix.{Suffix}
use Rattle.sail_core.specs.declared.tree.Core.{Core}
use Rattle.sail_types.specs.declared.numbers.Num.{Num}
use Rattle.value_indices.specs.Steps.{Walk, bind, give, next_variable, scoped, wrong}
use Rattle.value_indices.specs.Walking.{Written, begun, got, remembering, restored, run, with_facts}
use Rattle.value_indices.specs.declared.indices.Indices.{Indices}
use Rattle.value_indices.specs.declared.notes.Fact.{Fact}
use Rattle.value_indices.proofs.Walks.{got_give, got_next, run_give, run_next}
use Rattle.pattern_leaves.specs.Settings.{Around}
use Rattle.pattern_leaves.proofs.Rests.{all_behind, rest_is}
use Rattle.pattern_leaves.proofs.Walked.{made_got, made_run, then_got, then_run}
use Rattle.expression_forms.specs.Spots.{Spot, in_force, known_from}
use Rattle.expression_forms.specs.Ways.{suffix_read}
use Rattle.expression_forms.specs.declared.spots.Spot as code
use Rattle.expression_forms.specs.declared.ways.Reached.{Reached}
use Rattle.expression_forms.proofs.Forced.{forced_got, forced_run}
use Rattle.expression_forms.proofs.Tuples.{scoped_value, scoped_walked}
use Rattle.expression_steps.specs.Coded.{spotted_in}
use Rattle.expression_steps.specs.Parts.{Part}
use Rattle.expression_steps.specs.Targets.{Onward, Spotted, ahead, has_no_way, is_short, its_numbers, known_late, last_late, late_spotted}
use Rattle.expression_steps.specs.Targets.{onward_to, other_numbers, part_late, read_ahead, read_late, suffixes_late, ways_late}
use Rattle.expression_steps.specs.Values.{reached_by}
use Rattle.expression_steps.specs.declared.late.Ahead.{Ahead}
use Rattle.expression_steps.specs.declared.late.Late.{Late}
use Rattle.expression_steps.proofs.Rests.{none_of}

-- ---- what a walk makes known, walked aside

pub known_there : {A : Type 0} (m : ℕ) (a : Walk A) (v u : Written) → v ≡ begun m → u ≡ run a v → u.facts ≡ known_from m a
unfolding run
known_there m a v u begins was = ap (λ (x : Written). x.facts) (was ∙ ap (run a) begins)

-- ---- the read, in a scope

module _ (base : Spot) (w v u x : Written) (m : ℕ) (held : Indices) (fs : List Fact) (is : m ≡ w.next) (begins : v ≡ remembering w) where
  abbrev here : ℕ → Walk Ahead
  here n = bind (scoped base.read) (λ i. give (ahead n i (known_from n base.read)))

  next_is : m ≡ got next_variable w
  next_is = is ∙ sym (got_next w)

  pub ahead_got : held ≡ got base.read v → fs ≡ known_from m base.read → ahead m held fs ≡ got (read_ahead base) w
  ahead_got holds knows =
      ap (ahead m held) knows
      ∙ made_got (scoped base.read) (λ i. ahead m i (known_from m base.read)) w held (scoped_value base.read w v held begins holds)
      ∙ then_got next_variable here w w m next_is (sym (run_next w))

  pub ahead_run : u ≡ run base.read v → x ≡ restored u → x ≡ run (read_ahead base) w
  ahead_run was ends =
      made_run (scoped base.read) (λ i. ahead m i (known_from m base.read)) w x (scoped_walked base.read w v u x begins was ends)
      ∙ then_run next_variable here w w m next_is (sym (run_next w))

-- ---- suffixes, by the numbers of their indexes

module _ (around : Around) (ss : List Suffix) (k : ℕ) (s : Suffix) (ns own left : List Num) (i j : Indices) (x y : Option Reached) (w v u : Written)
    (within : k < length ss) (is : s ≡ get_or ss k s) (owns : own ≡ its_numbers s ns) (leaves : left ≡ other_numbers s ns) (same : y ≡ x) where
  abbrev reaching : List Num → Walk (Option Reached)
  reaching ms = reached_by around i s.way ms

  abbrev reading : Option Reached → Walk Indices
  reading z = suffix_read true s.place s.number i z

  abbrev others : List Num → Indices → Walk Onward
  others ms = read_late around (drop (k + 1) ss) ms

  abbrev onward : Option Reached → Walk Onward
  onward z = bind (reading z) (others (other_numbers s ns))

  opens : read_late around (drop k ss) ns i ≡ bind (reaching (its_numbers s ns)) onward
  opens = (λ l. read_late around (rest_is ss k s within is l) ns i)

  pub late_got : x ≡ got (reaching own) w → v ≡ run (reaching own) w → j ≡ got (reading y) v → u ≡ run (reading y) v
      → got (others left j) u ≡ got (read_late around (drop k ss) ns i) w
  late_got reached was read did =
      (λ l. got (others (leaves l) j) u)
      ∙ then_got (reading x) (others (other_numbers s ns)) v u j (read ∙ (λ l. got (reading (same l)) v)) (did ∙ (λ l. run (reading (same l)) v))
      ∙ then_got (reaching (its_numbers s ns)) onward w v x (reached ∙ (λ l. got (reaching (owns l)) w)) (was ∙ (λ l. run (reaching (owns l)) w))
      ∙ (λ l. got (sym opens l) w)

  pub late_run : x ≡ got (reaching own) w → v ≡ run (reaching own) w → j ≡ got (reading y) v → u ≡ run (reading y) v
      → run (others left j) u ≡ run (read_late around (drop k ss) ns i) w
  late_run reached was read did =
      (λ l. run (others (leaves l) j) u)
      ∙ then_run (reading x) (others (other_numbers s ns)) v u j (read ∙ (λ l. got (reading (same l)) v)) (did ∙ (λ l. run (reading (same l)) v))
      ∙ then_run (reaching (its_numbers s ns)) onward w v x (reached ∙ (λ l. got (reaching (owns l)) w)) (was ∙ (λ l. run (reaching (owns l)) w))
      ∙ (λ l. run (sym opens l) w)

-- behind all of them
module _ (around : Around) (ss : List Suffix) (k : ℕ) (ns : List Num) (i : Indices) (w : Written) (past : length ss ≤ k) where
  ended : read_late around (drop k ss) ns i ≡ give (onward_to ns i)
  ended = (λ l. read_late around (all_behind ss k past l) ns i)

  pub late_end_got : onward_to ns i ≡ got (read_late around (drop k ss) ns i) w
  late_end_got = sym (got_give (onward_to ns i) w) ∙ (λ l. got (sym ended l) w)

  pub late_end_run : w ≡ run (read_late around (drop k ss) ns i) w
  late_end_run = sym (run_give (onward_to ns i) w) ∙ (λ l. run (sym ended l) w)

module _ (place : Place) (ss : List Suffix) (around : Around) (ns : List Num) (held : Indices) where
  -- no suffix
  pub no_way_into : length ss < 1 → part_late place ss around ns held ≡ bind (wrong place) (λ t. give None)
  no_way_into none = (λ j. suffixes_late place around (slice_get (none_of ss none j) (length ss - 1)) (take (length ss - 1) ss) ns held)

  pub ways_into : (read : List Suffix) (s : Suffix) (i : Indices) → slice_get ss (length ss - 1) ≡ Some s → read ≡ take (length ss - 1) ss → i ≡ held
      → part_late place ss around ns held ≡ bind (read_late around read ns i) (last_late around s)
  ways_into read s i last before same =
      (λ j. suffixes_late place around (last j) (take (length ss - 1) ss) ns held)
      ∙ (λ j. bind (read_late around (sym before j) ns (sym same j)) (last_late around s))

-- ---- the ways, in a scope with what is known

module _ (place : Place) (ss : List Suffix) (around : Around) (ns : List Num) (a : Ahead) (w v u t x : Written) (fs : List Fact)
    (begins : v ≡ remembering w) (same : fs ≡ a.facts) (forced : u ≡ with_facts fs v) where
  abbrev ways : Walk (Option Late)
  ways = part_late place ss around ns a.held

  abbrev all : Walk (Option Late)
  all = bind (in_force a.facts) (λ (y : Unit {0}). ways)

  force_is : u ≡ with_facts a.facts v
  force_is = forced ∙ (λ j. with_facts (same j) v)

  pub ways_got : (o : Option Late) → o ≡ got ways u → o ≡ got (ways_late place ss around ns a) w
  ways_got o found = scoped_value all w v o begins (found ∙ forced_got a.facts ways v u force_is)

  pub ways_run : t ≡ run ways u → x ≡ restored t → x ≡ run (ways_late place ss around ns a) w
  ways_run went ends = scoped_walked all w v t x begins (went ∙ forced_run a.facts ways v u force_is) ends

-- ---- the part

-- what is said of any parts
pub any_parts : {E : Type 0} (r : Result (Option (code.Spot × ℕ)) E) (around : Around) (f : Around → List Core → Option Spotted)
    (y : List Core → Option Spotted) → IfOk r (λ made. (b : Around) (ps : List Core) → spotted_in b ps made ≡ f b ps)
    → ((ps : List Core) → f around ps ≡ y ps) → IfOk r (λ made. (ps : List Core) → spotted_in around ps made ≡ y ps)
any_parts (Ok made) around f y h is = λ ps. h around ps ∙ is ps
any_parts (Err e) around f y h is = tt

module _ (place : Place) (k : ℕ) (ss : List Suffix) (around : Around) (base : Spot) (a : Ahead) (left : List Part) (ns : List Num) (w v : Written) (n : ℕ)
    (o : Option Late) (is : n ≡ w.next) where
  abbrev reached : List Fact → Option Late → Option Spotted
  reached known y = late_spotted place around k base a n known left y

  abbrev there : ℕ → Walk (Option Spotted)
  there m =
      bind (ways_late place ss around ns a) (λ y.
      give (late_spotted place around k base a m (known_from m (part_late place ss around ns a.held)) left y))

  pub known_got : (known : List Fact) → known ≡ known_from n (part_late place ss around ns a.held) → o ≡ got (ways_late place ss around ns a) w
      → reached known o ≡ got (known_late place k ss around base a left ns) w
  known_got known knows found =
      (λ j. reached (knows j) o)
      ∙ made_got (ways_late place ss around ns a) (reached (known_from n (part_late place ss around ns a.held))) w o found
      ∙ then_got next_variable there w w n (is ∙ sym (got_next w)) (sym (run_next w))

  pub known_run : v ≡ run (ways_late place ss around ns a) w → v ≡ run (known_late place k ss around base a left ns) w
  known_run went =
      made_run (ways_late place ss around ns a) (reached (known_from n (part_late place ss around ns a.held))) w v went
      ∙ then_run next_variable there w w n (is ∙ sym (got_next w)) (sym (run_next w))

-- ---- whether there is a way

pub none_there : (ss : List Suffix) (n : ℕ) → length ss < 1 → has_no_way ss n ≡ true
none_there ss n none = (λ j. has_no_way (none_of ss none j) n)

pub some_there : (ss : List Suffix) (n : ℕ) → 1 ≤ length ss → has_no_way ss n ≡ is_short ss n
some_there [] n some = absurd (omega (arith, some))
some_there (s ∷ ss) n some = refl
