-- The openings of a module that are worked out one after the other hold the values of the names of top-level lets, or stop as those of the core do.
use Rattle.std.proofs.Common.{◌≡◌, ◌∙◌, ℕ, zero, suc, ◌+◌, ℤ, Bool, true, false, List, [], ◌∷◌, ◌++◌, length, map, Option, Some, None, refl, sym, ap, subst}
use Rattle.std.proofs.Common.{arith, append-nil, if◌then◌else◌}
use Rattle.std.specs.Prelude.{◌*◌, is_some, nat_eq, slice_get, slice_index_or}
use Rattle.sail_base.specs.declared.place.Place.{Place as TextPlace}
use Rattle.sail_types.specs.declared.numbers.Num.{Num}
use Rattle.sail_types.specs.declared.values.Value.{Value}
use Rattle.sail_types.specs.declared.values.Value.TheVariants as V
use Rattle.model_state.specs.RunState.{Ran, RunState}
use Rattle.model_state.specs.declared.cause.Cause.{Cause}
use Rattle.model_state.specs.declared.cause.Cause.TheVariants.{MatchFailure}
use Rattle.model_state.specs.declared.cause.Ended.{Ended as Halt}
use Rattle.model_state.specs.declared.cause.Ended.TheVariants as E
use Rattle.sail_core.specs.Making.{Making}
use Rattle.sail_core.specs.Meaning.{meaning}
use Rattle.sail_core.specs.Patterns as P
use Rattle.sail_core.specs.Patterns.{found_in, steps_meaning}
use Rattle.sail_core.specs.Run as R
use Rattle.sail_core.specs.Run.{Ended, Local, Now, Run, gives, goes_on, held_in, or_so, stops, stuck, ◌then◌}
use Rattle.sail_core.specs.Start as S
use Rattle.sail_core.specs.Start.{Added, Opened, after_opening, init_ran, lets_in, nowhere, opening_kind, opening_run, opening_world, openings_from}
use Rattle.sail_core.specs.Start.{openings_of, ran_from, values_of}
use Rattle.sail_core.specs.Program.{Sizing}
use Rattle.sail_core.specs.declared.model.CoreModel.{CoreModel}
use Rattle.sail_core.specs.declared.model.Opening.{Opening}
use Rattle.sail_core.specs.declared.model.OpeningKind.{OpeningKind}
use Rattle.sail_core.specs.declared.model.OpeningKind.TheVariants as K
use Rattle.sail_core.specs.declared.patterns.Arm.{Arm}
use Rattle.sail_core.specs.declared.patterns.Arm.TheVariants as A
use Rattle.sail_core.specs.declared.patterns.Step.{Step}
use Rattle.size_values.specs.declared.sized.Sized.{Sized}
use Rattle.checked_meaning.specs.Checked.{checked, checking}
use Rattle.checked_meaning.specs.Fits.{has_sizes}
use Rattle.checked_meaning.specs.Items.{Item, item}
use Rattle.sized_nodes.specs.declared.trees.NodeSizes.{NodeSizes}
use Rattle.sized_nodes.specs.declared.trees.SizedCore.{SizedCore}
use Rattle.sized_meanings.specs.Sized.{joined_nodes, noted_cases_of, noted_checks_of, or_none}
use Rattle.jib.specs.Jib.{Gives, Outcome, Stops, Store, code_in, code_of, jib_run, slots_in, slots_of}
use Rattle.jib.specs.Openings as O
use Rattle.jib.specs.Openings.{Opens, ended, initial, initial_ran, opens_more, opens_none, value_or_zero}
use Rattle.jib.specs.Valid.{valid}
use Rattle.jib.specs.declared.code.Function.{Function as Code}
use Rattle.jib.specs.declared.code.Module.{Module}
use Rattle.jib.specs.declared.code.Opening.{Opening as CodeOpening}
use Rattle.jib_laws.proofs.AlikeLaws.{pure_runs_alike}
use Rattle.lowered_types.specs.Table.{is_known}
use Rattle.lowered_slots.specs.Slots.{name_in}
use Rattle.lowered_pieces.specs.Arms.{arm_hand, arm_lowered, held_at, steps_in, steps_lowered}
use Rattle.lowered_pieces.specs.Functions.{event_code}
use Rattle.lowered_pieces.specs.Lowering.{Node}
use Rattle.lowered_pieces.specs.Mapped.{ends_with, fixed_end}
use Rattle.lowered_pieces.specs.Openings.{named_piece}
use Rattle.lowered_pieces.specs.Places.{Kit, Naming}
use Rattle.lowered_laws.specs.TablesTelling.{EachAlone}
use Rattle.lowered_laws.specs.TablesTelling as C
use Rattle.lowered_steps.specs.Setting.{crosses_for, kit_for, reads_at, size_for}
use Rattle.lowered_steps.specs.declared.setting.Reads.{Reads}
use Rattle.lowered_steps.specs.declared.setting.Setting.{Setting}
use Rattle.lowered_ends.specs.Around.{node_for}
use Rattle.lowered_ends.specs.declared.around.Around.{Around}
use Rattle.lowered_laws.specs.Opened.{held_typ}
use Rattle.lowered_laws.specs.Simulation.{bare}
use Rattle.jib_lower.specs.Lowered.{ArmTaken, FlatFrom, NameMade, NamesMade, OpeningsMade, ValueMade, fails_seen, has_names, named_more, named_none}
use Rattle.jib_lower.specs.Lowered.{names_differ, names_in, opened_from, opens_let, opens_none as none_open, opens_register}
use Rattle.jib_lower.specs.Reads.{tree_reads}
use Rattle.jib_lower.proofs.Basics.{get_past, index_there}
use Rattle.jib_lower.proofs.Placing.{exception_here}
use Rattle.module_meanings.proofs.Alone.{AllAlone}
use Rattle.module_meanings.proofs.Around.{kit_by, kit_same, node_by, node_same, size_by, size_same, types_same}
use Rattle.module_meanings.proofs.Known.{bodies_there, body_there}
use Rattle.module_meanings.proofs.Made.{AreLets, behind_both}
use Rattle.module_meanings.proofs.Openings.{Standing, first_moment, in_one_way, name_came, name_stopped, standing_at, standing_behind, standing_more}
use Rattle.module_meanings.proofs.Openings.{value_came, value_sits, value_stopped, value_typed}
use Rattle.module_meanings.proofs.Steps.{FoundIn, Looked, all_found, arm_plain, fails_again, flat_steps, given_same, looked_so, names_of, never_stops}

no : {X : Type 0} → false ≡ true → X
no e = cc

none : {A X : Type 0} (x : A) → None ≡ Some x → X
none x e = cc

-- ---- lists

get_last : (xs : List Value) (v : Value) → slice_get (xs ++ v ∷ []) (length xs) ≡ Some v
get_last [] v = refl
get_last (x ∷ xs) v = get_last xs v

get_before : (xs ys : List Value) (i : ℕ) (v : Value) → slice_get xs i ≡ Some v → slice_get (xs ++ ys) i ≡ Some v
get_before [] ys i v e = none v e
get_before (x ∷ xs) ys zero v e = e
get_before (x ∷ xs) ys (suc i) v e = get_before xs ys i v e

one_longer : {A : Type 0} (xs : List A) (x : A) → length (xs ++ x ∷ []) ≡ suc (length xs)
one_longer [] x = refl
one_longer (y ∷ xs) x = ap suc (one_longer xs x)

assoc : {A : Type 0} (xs ys zs : List A) → (xs ++ ys) ++ zs ≡ xs ++ (ys ++ zs)
assoc [] ys zs = refl
assoc (x ∷ xs) ys zs = ap (λ ws. x ∷ ws) (assoc xs ys zs)

first_same : (x y : List ℕ) (xs ys : List (List ℕ)) → x ∷ xs ≡ y ∷ ys → x ≡ y
first_same x y xs ys h = cc

rest_same : (x y : List ℕ) (xs ys : List (List ℕ)) → x ∷ xs ≡ y ∷ ys → xs ≡ ys
rest_same x y xs ys h = cc

abbrev vals_of : List (Local Item) → List Value
vals_of ls = map (λ (l : Local Item). l.held.val) ls

-- ---- what an opening comes to in the meaning

pub record GoesOn {A B : Type 0} (o : Ended Item A) (next : A → Run Item B) (b : B) (t : Now Item) : Type 0 where
  pub first : A
  pub moment : Now Item
  pub is : o ≡ R.Gives first moment
  pub then_ : next first moment ≡ R.Gives b t

went_on : {A B : Type 0} (o : Ended Item A) (next : A → Run Item B) (b : B) (t : Now Item) → goes_on o next ≡ R.Gives b t → GoesOn o next b t
went_on (R.Gives a u) next b t e = record { first = a; moment = u; is = refl; then_ = e }
went_on (R.No u) next b t e = cc
went_on (R.Returns v u) next b t e = cc
went_on (R.Throws v u) next b t e = cc
went_on (R.Stops cause u) next b t e = cc
went_on R.Stuck next b t e = cc

-- what goes on and stops has stopped at once, or behind what it gave
pub data Stopped {A B : Type 0} (o : Ended Item A) (next : A → Run Item B) (cause : Cause) (t : Now Item) : Type 0 where
  at_once : o ≡ R.Stops cause t → Stopped o next cause t
  behind_it : (first : A) (moment : Now Item) → o ≡ R.Gives first moment → next first moment ≡ R.Stops cause t → Stopped o next cause t

same_stop : {A B : Type 0} (c d : Cause) (t u : Now Item) → ◌≡◌ {A = Ended Item B} (R.Stops c t) (R.Stops d u)
    → ◌≡◌ {A = Ended Item A} (R.Stops c t) (R.Stops d u)
same_stop c d t u e = cc

gives_not_stop : {A X : Type 0} (a : A) (u t : Now Item) (cause : Cause) → R.Gives a u ≡ R.Stops cause t → X
gives_not_stop a u t cause e = cc

stopped_so : {A B : Type 0} (o : Ended Item A) (next : A → Run Item B) (cause : Cause) (t : Now Item) → goes_on o next ≡ R.Stops cause t
    → Stopped o next cause t
stopped_so (R.Gives a u) next cause t e = behind_it a u refl e
stopped_so (R.No u) next cause t e = cc
stopped_so (R.Returns v u) next cause t e = cc
stopped_so (R.Throws v u) next cause t e = cc
stopped_so (R.Stops c u) next cause t e = at_once (same_stop c cause u t e)
stopped_so R.Stuck next cause t e = cc

-- what the pattern of a let finds
pub record LetFound (z : Making Item) (ms : List Value) (arm : Arm) (x : Item) (u : Now Item) (added : Added) : Type 0 where
  pub hand : P.Hand Item
  pub moment : Now Item
  pub is : steps_meaning z (opening_world ms) (steps_in arm) (record { values = x ∷ []; found = [] }) u ≡ R.Gives hand moment
  pub values : added.values ≡ values_of z hand.found
  pub change : (s : RunState) → added.change s ≡ s

let_found : (z : Making Item) (ms : List Value) (place : TextPlace) (size : Num → Option ℤ) (arm : Arm) (x : Item) (u t : Now Item) (added : Added)
    → arm_lowered size arm ≡ true → opening_kind z (opening_world ms) place (K.Let arm) x u ≡ R.Gives added t → LetFound z ms arm x u added
let_found z ms place size (A.Nested ps) x u t added lowered e = no lowered
let_found z ms place size (A.Flat n ss) x u t added lowered e = by_count (nat_eq 1 n) e
  where
    start : P.Hand Item
    start = record { values = x ∷ []; found = [] }

    steps : Run Item (P.Hand Item)
    steps = steps_meaning z (opening_world ms) ss start

    last : List (Local Item) → Run Item Added
    last found = gives (record { values = values_of z found; change = λ state. state })

    by_steps : (o : Ended Item (P.Hand Item)) → steps u ≡ o → goes_on (or_so (goes_on o found_in) (stops (MatchFailure place))) last ≡ R.Gives added t
        → LetFound z ms (A.Flat n ss) x u added
    by_steps (R.Gives hr v) is f = record {
      hand = hr;
      moment = v;
      is = is;
      values = ap (λ (a : Added). a.values) (sym (given_same (record { values = values_of z hr.found; change = λ state. state }) added v t f));
      change = λ s. ap (λ (a : Added). a.change s) (sym (given_same (record { values = values_of z hr.found; change = λ state. state }) added v t f));
    }
    by_steps (R.No v) is f = cc
    by_steps (R.Returns w v) is f = cc
    by_steps (R.Throws w v) is f = cc
    by_steps (R.Stops cause v) is f = cc
    by_steps R.Stuck is f = cc

    by_count : (b : Bool)
        → goes_on (or_so ((if b then (steps then found_in) else stuck) u) (stops (MatchFailure place))) last ≡ R.Gives added t
        → LetFound z ms (A.Flat n ss) x u added
    by_count true f = by_steps (steps u) refl f
    by_count false f = cc

-- a pattern of a let that doesn't match
pub record LetFailed (z : Making Item) (ms : List Value) (place : TextPlace) (arm : Arm) (x : Item) (u : Now Item) (cause : Cause) : Type 0 where
  pub moment : Now Item
  pub is : steps_meaning z (opening_world ms) (steps_in arm) (record { values = x ∷ []; found = [] }) u ≡ R.No moment
  pub cause_is : cause ≡ MatchFailure place

let_failed : (z : Making Item) (ms : List Value) (place : TextPlace) (size : Num → Option ℤ) (arm : Arm) (x : Item) (u t : Now Item) (cause : Cause)
    → arm_lowered size arm ≡ true → opening_kind z (opening_world ms) place (K.Let arm) x u ≡ R.Stops cause t → LetFailed z ms place arm x u cause
let_failed z ms place size (A.Nested ps) x u t cause lowered e = no lowered
let_failed z ms place size (A.Flat n ss) x u t cause lowered e = by_count (nat_eq 1 n) e
  where
    start : P.Hand Item
    start = record { values = x ∷ []; found = [] }

    steps : Run Item (P.Hand Item)
    steps = steps_meaning z (opening_world ms) ss start

    last : List (Local Item) → Run Item Added
    last found = gives (record { values = values_of z found; change = λ state. state })

    cause_same : (c d : Cause) (v w : Now Item) → ◌≡◌ {A = Ended Item Added} (R.Stops c v) (R.Stops d w) → d ≡ c
    cause_same c d v w h = cc

    by_steps : (o : Ended Item (P.Hand Item)) → steps u ≡ o
        → goes_on (or_so (goes_on o found_in) (stops (MatchFailure place))) last ≡ R.Stops cause t → LetFailed z ms place (A.Flat n ss) x u cause
    by_steps (R.Gives hr v) is f = cc
    by_steps (R.No v) is f = record { moment = v; is = is; cause_is = cause_same (MatchFailure place) cause v t f }
    by_steps (R.Returns w v) is f = cc
    by_steps (R.Throws w v) is f = cc
    by_steps (R.Stops c v) is f = never_stops z ms ss start u v c is
    by_steps R.Stuck is f = cc

    by_count : (b : Bool)
        → goes_on (or_so ((if b then (steps then found_in) else stuck) u) (stops (MatchFailure place))) last ≡ R.Stops cause t
        → LetFailed z ms place (A.Flat n ss) x u cause
    by_count true f = by_steps (steps u) refl f
    by_count false f = cc

-- where the pattern fails, it binds a name
binds_some : (z : Making Item) (ms : List Value) (steps : List Step) (hand : P.Hand Item) (t u : Now Item) → fails_seen steps ≡ true
    → steps_meaning z (opening_world ms) steps hand t ≡ R.No u → has_names (names_in steps) ≡ true
binds_some z ms [] hand t u seen e = cc
binds_some z ms (s ∷ ss) hand t u seen e = seen

module _ (core : CoreModel) (sized : SizedCore) (m : Module) (low : FlatFrom core sized m) (apart : AllAlone core sized)
    (is_valid : valid m ≡ true) (st : RunState) where
  abbrev ss : List Sized
  ss = low.table.numbered

  abbrev sizing : Sizing Item
  sizing = checking (noted_checks_of core sized)

  -- the run of a pure function that gives a value: over the state of the openings it gives the same
  given_there : (q : ℕ) (f : Code) → slice_get m.functions q ≡ Some f → f.is_pure ≡ true → (ls : List Value) (v : Value) (t : Store)
      → jib_run m ls 0 q [] (bare first_moment) (Gives v t) → (r : Outcome) → jib_run m ls 0 q [] (O.begun 0 st) r → ended core.types r ≡ E.Value v
  given_there q f there pure ls v t run r other =
      ap (ended core.types)
      (in_one_way core sized m low is_valid ls q (O.begun 0 st) r (Gives v (record t { state = st })) other
      (pure_runs_alike m is_valid ls 0 q f [] (bare first_moment) (Gives v t) there pure run st))

  stopped_there : (q : ℕ) (f : Code) → slice_get m.functions q ≡ Some f → f.is_pure ≡ true → (ls : List Value) (cause : Cause) (t : Store)
      → jib_run m ls 0 q [] (bare first_moment) (Stops cause t) → (r : Outcome) → jib_run m ls 0 q [] (O.begun 0 st) r → ended core.types r ≡ E.Stop cause
  stopped_there q f there pure ls cause t run r other =
      ap (ended core.types)
      (in_one_way core sized m low is_valid ls q (O.begun 0 st) r (Stops cause (record t { state = st })) other
      (pure_runs_alike m is_valid ls 0 q f [] (bare first_moment) (Stops cause t) there pure run st))

  -- what stands behind openings, of which these values are worked out
  pub record Behind (n : ℕ) (rs : List (Option ℕ)) (vs : List Value) (after more : List ℕ) (ms : List Value) (from : RunState → Ran) : Type 0 where
    pub values : List Value
    pub endings : List Halt
    pub opens : Opens m core.types st (opened_from n rs) values endings vs
    pub many : length values ≡ length after
    pub standing : Standing more ms values
    pub starts : (s : RunState) → from s ≡ initial (opened_from n rs) endings s

  one_more : (n k : ℕ) → n + 1 + k ≡ n + suc k
  one_more n k = omega arith

  none_more : (n : ℕ) → n ≡ n + 0
  none_more n = omega arith

  moved : (n k : ℕ) (rs : List (Option ℕ)) (vs : List Value) (after more : List ℕ) (ms : List Value) (u : Value) (us : List Value) (f g : RunState → Ran)
      → ((s : RunState) → g s ≡ f s) → Behind (n + 1 + k) rs vs after more ((ms ++ u ∷ []) ++ us) f → Behind (n + suc k) rs vs after more (ms ++ (u ∷ us)) g
  moved n k rs vs after more ms u us f g same b =
      subst (λ j. Behind j rs vs after more (ms ++ (u ∷ us)) g) (one_more n k)
      (subst (λ ws. Behind (n + 1 + k) rs vs after more ws g) (assoc ms (u ∷ []) us)
      (record { values = b.values; endings = b.endings; opens = b.opens; many = b.many; standing = b.standing; starts = λ s. same s ∙ b.starts s }))

  -- ---- one opening

  module _ (i : ℕ) (o : Opening) (nodes : List NodeSizes) (is : slice_get core.openings i ≡ Some o) (e : slice_get sized.openings i ≡ Some nodes) where
    abbrev own : List NodeSizes
    own = joined_nodes (nodes ∷ [])

    own_same : own ≡ nodes
    own_same = append-nil nodes

    alone : EachAlone own
    alone = subst EachAlone (sym own_same) (apart.opening i o nodes is e (low.openings_alone i nodes e))

    in_nodes : C.all_known (is_known ss) own ≡ true
    in_nodes = bodies_there ss (nodes ∷ []) (body_there ss sized.openings i nodes low.in_openings e)

    abbrev z : Making Item
    z = checked core.types (noted_cases_of core.types sized.instances own)

    z_same : sizing.opening i ≡ z
    z_same = ap (λ ns. checked core.types (noted_cases_of core.types sized.instances ns)) (ap or_none e ∙ sym own_same)

    -- ---- its value

    module _ (before names : List ℕ) (made : Code) (v : ValueMade low.bare o (nodes ∷ []) before names made) (q : ℕ)
        (there : slice_get m.functions q ≡ Some made) (ls ms : List Value) (standing : Standing names ms ls) where
      abbrev setting : Setting
      setting = v.walk.setting.now

      abbrev around : Around
      around = v.walk.around.now

      abbrev name : Naming
      name = name_in v.coding.slots

      abbrev variables : List Reads
      variables = tree_reads (nodes ∷ []) o.value

      abbrev node_there : Node
      node_there = node_by core sized m low [] [] names variables own name o.value

      node_is : node_for setting around name o.value ≡ node_there
      node_is =
          node_same core sized m low low.bare low.bare_is (nodes ∷ []) [] setting v.around.setting around [] names
          (v.around.instances ∙ ap (λ (c : SizedCore). c.instances) low.bare_is.of_sized) v.around.given v.around.openings
          (v.around.before_is ∙ low.bare_before) name o.value

      kit_is : kit_for setting name ≡ kit_by core sized m low [] name
      kit_is = kit_same core sized m low low.bare low.bare_is (nodes ∷ []) [] setting v.around.setting name

      raised : setting.exception ≡ m.exception
      raised = exception_here core sized m low low.bare low.bare_is (nodes ∷ []) [] setting v.around.setting

      able : node_there.ok ≡ true
      able = ap (λ (n : Node). n.ok) (sym node_is) ∙ v.able name

      code_there : v.coding.code ≡ event_code (kit_by core sized m low [] name) o.place node_there.piece
      code_there = v.code.put ∙ (λ j. event_code (kit_is j) o.place (node_is j).piece)

      slots_are : slots_of m q ≡ map (λ slot. slot.typ) v.coding.slots
      slots_are = ap slots_in there ∙ v.is.slots

      code_is : code_of m q ≡ v.coding.code
      code_is = ap code_in there ∙ v.is.code

      pub value_stops : (cause : Cause) (t : Now Item) → meaning z (opening_world ms) o.value first_moment ≡ R.Stops cause t → (r : Outcome)
          → jib_run m ls 0 q [] (O.begun 0 st) r → ended core.types r ≡ E.Stop cause
      value_stops cause t stops_ r other =
          stopped_there q made there (v.is.is_pure ∙ v.around.pure) ls cause (bare t)
          (value_stopped core sized m low is_valid variables own alone in_nodes setting v.coding v.code.first raised q slots_are code_is v.code.room ls names
          ms standing
          o.place o.value able code_there cause t stops_) r other

      module _ (x : Item) (t : Now Item) (gives_ : meaning z (opening_world ms) o.value first_moment ≡ R.Gives x t) where
        pub sits : (has_sizes core.types x.val x.typ ≡ true) × (is_known ss x.typ ≡ true)
        sits =
            value_sits core sized m low is_valid variables own alone in_nodes setting v.coding v.code.first raised q slots_are code_is v.code.room ls names ms
            standing
            o.place o.value able code_there x t gives_

        pub runs : jib_run m ls 0 q [] (bare first_moment) (Gives x.val (bare t))
        runs =
            value_came core sized m low is_valid variables own alone in_nodes setting v.coding v.code.first raised q slots_are code_is v.code.room ls names ms
            standing
            o.place o.value able code_there x t gives_

        pub typed : (arm : Arm) (whole : Sized) → ArmTaken setting around o.value arm whole → whole ≡ x.typ
        typed arm whole taken =
            value_typed core sized m low is_valid variables own alone in_nodes setting v.coding v.code.first raised q slots_are code_is v.code.room ls names
            ms standing
            o.place o.value able code_there x t gives_ whole
            (subst (λ (n : Node). ends_with whole (fixed_end n.piece.ends) ≡ true) node_is (taken.ends name))

        pub value_is : (r : Outcome) → jib_run m ls 0 q [] (O.begun 0 st) r → ended core.types r ≡ E.Value x.val
        value_is r other = given_there q made there (v.is.is_pure ∙ v.around.pure) ls x.val (bare t) runs r other

    -- ---- the names of its pattern

    module _ (names0 : List ℕ) (ms0 : List Value) (k : ℕ) (whole : Sized) (steps : List Step) (v0 : Value)
        (had : (has_sizes core.types v0 whole ≡ true) × (is_known ss whole ≡ true)) (lowered : steps_lowered (size_by core sized m low []) steps ≡ true)
      where
        -- what it finds
        abbrev looks : Ended Item (P.Hand Item)
        looks = steps_meaning z (opening_world ms0) steps (record { values = item whole v0 ∷ []; found = [] }) first_moment

        module _ (text before names : List ℕ) (made : Code) (v : NameMade low.bare o.place k whole steps text before names made) (q : ℕ)
            (there : slice_get m.functions q ≡ Some made) (ls : List Value) (standing : Standing names0 ms0 ls) (given : slice_get ls k ≡ Some v0) where
          abbrev setting_ : Setting
          setting_ = v.walk.setting.now

          abbrev name_ : Naming
          name_ = name_in v.coding.slots

          abbrev kit_there : Kit
          kit_there = kit_by core sized m low [] name_

          kit_of_name : kit_for setting_ name_ ≡ kit_there
          kit_of_name = kit_same core sized m low low.bare low.bare_is [] [] setting_ v.around.setting name_

          types_of_name : setting_.types.now ≡ core.types
          types_of_name = types_same core sized m low low.bare low.bare_is [] [] setting_ v.around.setting

          name_code : v.coding.code ≡ event_code kit_there o.place
              (named_piece core.types kit_there [] o.place k whole (A.Flat 0 steps) text v.name.typ.now)
          name_code = v.code.put ∙ (λ j. event_code (kit_of_name j) (v.placed j)
              (named_piece (types_of_name j) (kit_of_name j) [] (v.placed j) (v.opening j) (v.whole_is j) (A.Flat 0 (v.steps_are j)) (v.text_is j)
              v.name.typ.now))

          is_typ : held_typ (arm_hand core.types kit_there steps 1 3 (held_at 0 whole ∷ [])).names
              (arm_hand core.types kit_there steps 1 3 (held_at 0 whole ∷ [])).named text ≡ Some v.name.typ.now
          is_typ =
              sym (λ j. held_typ (arm_hand (types_of_name j) (kit_of_name j) steps 1 3 (held_at 0 whole ∷ [])).names
              (arm_hand (types_of_name j) (kit_of_name j) steps 1 3 (held_at 0 whole ∷ [])).named text)
              ∙ v.holds name_

          pub name_fails : (t : Now Item) → looks ≡ R.No t → (r : Outcome) → jib_run m ls 0 q [] (O.begun 0 st) r
              → ended core.types r ≡ E.Stop (MatchFailure o.place)
          name_fails t failed r other =
              stopped_there q made there (v.is.is_pure ∙ v.around.pure) ls (MatchFailure o.place) (bare t)
              (name_stopped core sized m low is_valid [] own alone in_nodes setting_ v.coding v.code.first
              (exception_here core sized m low low.bare low.bare_is [] [] setting_ v.around.setting) q (ap slots_in there ∙ v.is.slots)
              (ap code_in there ∙ v.is.code) v.code.room ls names0 ms0 standing o.place k whole v.name.typ.now steps text v0 name_code lowered is_typ
              (index_there ls k V.Unit v0 given) had t failed) r other

          module _ (hr : P.Hand Item) (looked : looks ≡ R.Gives hr first_moment) (y : Item) (held : held_in text hr.found ≡ Some y) where
            runs_name : jib_run m ls 0 q [] (bare first_moment) (Gives y.val (bare first_moment))
            runs_name =
                name_came core sized m low is_valid [] own alone in_nodes setting_ v.coding v.code.first
                (exception_here core sized m low low.bare low.bare_is [] [] setting_ v.around.setting) q (ap slots_in there ∙ v.is.slots)
                (ap code_in there ∙ v.is.code) v.code.room ls names0 ms0 standing o.place k whole v.name.typ.now steps text v0 name_code lowered is_typ
                (index_there ls k V.Unit v0 given) had hr y looked held

            pub name_is : (r : Outcome) → jib_run m ls 0 q [] (O.begun 0 st) r → ended core.types r ≡ E.Value y.val
            name_is r other = given_there q made there (v.is.is_pure ∙ v.around.pure) ls y.val (bare first_moment) runs_name r other

        -- where it doesn't match, the function of its first name stops
        pub names_stop : {texts : List (List ℕ)} {before names : List ℕ} {given : List Code} {after more : List ℕ}
            → NamesMade low.bare o.place k whole steps texts before names given after more → has_names texts ≡ true → (t : Now Item) → looks ≡ R.No t
            → (n : ℕ) → ((j : ℕ) (f : Code) → slice_get given j ≡ Some f → slice_get m.functions (n + j) ≡ Some f)
            → (js : List Value) → Standing names0 ms0 js → slice_get js k ≡ Some v0
            → (rs : List (Option ℕ)) (vs : List Value) {es : List Halt} → Opens m core.types st (opened_from n (map (λ f. None) given ++ rs)) js es vs
            → (s : RunState) → initial (opened_from n (map (λ f. None) given ++ rs)) es s ≡ initial_ran (E.Stop (MatchFailure o.place)) s
        names_stop named_none some t failed n functions js base given rs vs opens s = no some
        names_stop (named_more {text = text} {before = before} {names = names} {made = made} {rest = rest} v ns) some t failed n functions js base given rs vs
            (opens_more {es = endings} r run others) s =
            let there : slice_get m.functions n ≡ Some made = ap (slice_get m.functions) (none_more n) ∙ functions 0 made refl in
            let c : CodeOpening = record { function = n; register = None } in
            ap (λ h. initial (c ∷ opened_from (n + 1) (map (λ g. None) rest ++ rs)) (h ∷ endings) s)
            (name_fails text before names made v n there js base given t failed r run)

        -- where it matches, they give what it finds, one behind the other

        module _ (hr : P.Hand Item) (looked : looks ≡ R.Gives hr first_moment) where
          pub names_follow : {texts : List (List ℕ)} {before names : List ℕ} {given : List Code} {after more : List ℕ}
              → NamesMade low.bare o.place k whole steps texts before names given after more → (ls : List (Local Item)) → texts ≡ names_of ls
              → FoundIn hr.found ls → (n : ℕ) → ((j : ℕ) (f : Code) → slice_get given j ≡ Some f → slice_get m.functions (n + j) ≡ Some f)
              → (js ms : List Value) → length js ≡ length before → Standing names ms js → Standing names0 ms0 js → slice_get js k ≡ Some v0
              → (rs : List (Option ℕ)) (vs : List Value) {es : List Halt} → Opens m core.types st (opened_from n (map (λ f. None) given ++ rs)) js es vs
              → Behind (n + length given) rs vs after more (ms ++ vals_of ls) (λ s. initial (opened_from n (map (λ f. None) given ++ rs)) es s)
          names_follow (named_none {names = names}) [] texts_are f n functions js ms many standing base given rs vs {es = es} opens = record {
            values = js;
            endings = es;
            opens = subst (λ j. Opens m core.types st (opened_from j rs) js es vs) (none_more n) opens;
            many = many;
            standing = subst (λ us. Standing names us js) (sym (append-nil ms)) standing;
            starts = λ s. ap (λ j. initial (opened_from j rs) es s) (none_more n);
          }
          names_follow named_none (l ∷ ls) texts_are f n functions js ms many standing base given rs vs opens = cc
          names_follow (named_more v ns) [] texts_are f n functions js ms many standing base given rs vs opens = cc
          names_follow (named_more {text = text} {texts = texts} {before = before} {names = names} {after = after} {more = more} {made = made} {rest = rest}
              v ns)
              (l ∷ ls) texts_are f n functions js ms many standing base given rs vs (opens_more {es = endings} r run others) =
              let there : slice_get m.functions n ≡ Some made = ap (slice_get m.functions) (none_more n) ∙ functions 0 made refl in
              let c : CodeOpening = record { function = n; register = None } in
              let u : Value = l.held.val in
              let held : held_in text hr.found ≡ Some l.held =
              ap (λ (name : List ℕ). held_in name hr.found) (first_same text l.name texts (names_of ls) texts_are) ∙ f.0 in
              let is : ended core.types r ≡ E.Value u = name_is text before names made v n there js base given hr looked l.held held r run in
              let os : List CodeOpening = opened_from (n + 1) (map (λ g. None) rest ++ rs) in
              let last : slice_get (js ++ u ∷ []) (length before) ≡ Some u = ap (slice_get (js ++ u ∷ [])) (sym many) ∙ get_last js u in
              moved n (length rest) rs vs after more ms u (vals_of ls) (λ s. initial os endings s) (λ s. initial (c ∷ os) (ended core.types r ∷ endings) s)
              (λ s. ap (λ h. initial (c ∷ os) (h ∷ endings) s) is)
              (names_follow ns ls (rest_same text l.name texts (names_of ls) texts_are) f.1 (n + 1)
              (λ j g h. ap (slice_get m.functions) (one_more n j) ∙ functions (suc j) g h) (js ++ u ∷ []) (ms ++ u ∷ [])
              (one_longer js u ∙ ap suc many ∙ sym (one_longer before made.result))
              (standing_behind names ms (length before) u (js ++ u ∷ []) (standing_more names ms js (u ∷ []) standing) last)
              (standing_more names0 ms0 js (u ∷ []) base) (get_before js (u ∷ []) k v0 given) rs vs
              (subst (λ h. Opens m core.types st os (js ++ value_or_zero m c h ∷ []) endings vs) is others))

  -- ---- all openings

  same_item : (x : Item) (whole : Sized) → whole ≡ x.typ → x ≡ item whole x.val
  same_item x whole e = λ j. record { typ = sym e j; val = x.val }

  plus_one : (n : ℕ) → suc n ≡ n + 1
  plus_one n = omega arith

  past_given : (n k j : ℕ) → n + 1 + k + j ≡ n + suc (k + j)
  past_given n k j = omega arith

  got_front : (fs gs : List Code) (j : ℕ) (f : Code) → slice_get fs j ≡ Some f → slice_get (fs ++ gs) j ≡ Some f
  got_front [] gs j f h = none f h
  got_front (g ∷ fs) gs zero f h = h
  got_front (g ∷ fs) gs (suc j) f h = got_front fs gs j f h

  -- where the openings of the core come to this, those of the module have the values of the names of lets, and set registers so; or they stop so
  abbrev pub Came : List ℕ → List Value → Ran → Opened → Type 0
  Came more vs r (S.opened ls end) = Standing more ls vs × (r ≡ initial_ran (E.Value V.Unit) end)
  Came more vs r (S.opened_to cause end) = r ≡ initial_ran (E.Stop cause) end
  Came more vs r S.opened_not = Unit {0}

  came_same : (more : List ℕ) (vs : List Value) (r r' : Ran) (o o' : Opened) → r ≡ r' → o ≡ o' → Came more vs r' o' → Came more vs r o
  came_same more vs r r' o o' e f c = subst (λ q. Came more vs q o) (sym e) (subst (Came more vs r') (sym f) c)

  -- ---- an opening, the function of which has run, and those behind it

  module _ (i : ℕ) (o : Opening) (nodes : List NodeSizes) (at : slice_get core.openings i ≡ Some o) (own_nodes : slice_get sized.openings i ≡ Some nodes)
      (before names : List ℕ) (made : Code) (v : ValueMade low.bare o (nodes ∷ []) before names made) (n : ℕ) (there : slice_get m.functions n ≡ Some made)
      (js ms : List Value) (standing : Standing names ms js) (os : List Opening) (more : List ℕ) (vs : List Value) (r0 : Outcome)
      (run : jib_run m js 0 n [] (O.begun 0 st) r0) (endings : List Halt) (s1 : RunState) where
    abbrev zo : Making Item
    zo = z i o nodes at own_nodes

    abbrev value_run : Ended Item Item
    value_run = meaning (sizing.opening i) (opening_world ms) o.value first_moment

    abbrev kind_run : Item → Run Item Added
    kind_run = opening_kind (sizing.opening i) (opening_world ms) o.place o.kind

    abbrev rest_runs : List Value → RunState → Opened
    rest_runs = openings_from sizing (suc i) os

    value_same : meaning zo (opening_world ms) o.value first_moment ≡ value_run
    value_same = ap (λ (y : Making Item). meaning y (opening_world ms) o.value first_moment) (sym (z_same i o nodes at own_nodes))

    kind_same : (kind : OpeningKind) → o.kind ≡ kind → (x : Item) (u : Now Item)
        → opening_kind zo (opening_world ms) o.place kind x u ≡ kind_run x u
    kind_same kind is x u =
        ap (λ (y : Making Item). opening_kind y (opening_world ms) o.place kind x u) (sym (z_same i o nodes at own_nodes))
        ∙ ap (λ k. opening_kind (sizing.opening i) (opening_world ms) o.place k x u) (sym is)

    value_comes : (x : Item) (t : Now Item) → value_run ≡ R.Gives x t → ended core.types r0 ≡ E.Value x.val
    value_comes x t e = value_is i o nodes at own_nodes before names made v n there js ms standing x t (value_same ∙ e) r0 run

    value_halts : (c : CodeOpening) (cs : List CodeOpening) (cause : Cause) (t : Now Item) → value_run ≡ R.Stops cause t
        → initial (c ∷ cs) (ended core.types r0 ∷ endings) s1 ≡ initial_ran (E.Stop cause) s1
    value_halts c cs cause t e =
        ap (λ h. initial (c ∷ cs) (h ∷ endings) s1)
        (value_stops i o nodes at own_nodes before names made v n there js ms standing cause t (value_same ∙ e) r0 run)

    -- ---- an initial value

    module _ (r : ℕ) (kind : o.kind ≡ K.Register r) (cs : List CodeOpening)
        (rest : (u : Value) → ended core.types r0 ≡ E.Value u → (s : RunState)
        → Came more vs (initial cs endings s) (openings_from sizing (i + 1) os ms s)) where
      abbrev set_here : CodeOpening
      set_here = record { function = n; register = Some r }

      abbrev set_added : Item → Added
      set_added x = record { values = []; change = S.set_all r x.val }

      sets : (x : Item) (u t : Now Item) (added : Added) → kind_run x u ≡ R.Gives added t → added ≡ set_added x
      sets x u t added e = sym (given_same (set_added x) added u t (kind_same (K.Register r) kind x u ∙ e))

      never_halts : {X : Type 0} (x : Item) (u t : Now Item) (cause : Cause) → kind_run x u ≡ R.Stops cause t → X
      never_halts x u t cause e = gives_not_stop (set_added x) u t cause (kind_same (K.Register r) kind x u ∙ e)

      pub register_follows : (out : Ended Item Added) → opening_run (sizing.opening i) ms o first_moment ≡ out
          → Came more vs (initial (set_here ∷ cs) (ended core.types r0 ∷ endings) s1) (after_opening out ms s1 rest_runs)
      register_follows (R.Gives added t) went =
          let first = went_on value_run kind_run added t went in
          let x : Item = first.first in
          let is : ended core.types r0 ≡ E.Value x.val = value_comes x first.moment first.is in
          let s2 : RunState = S.set_all r x.val s1 in
          came_same more vs (initial (set_here ∷ cs) (ended core.types r0 ∷ endings) s1) (initial cs endings s2)
          (rest_runs (ms ++ added.values) (added.change s1)) (openings_from sizing (i + 1) os ms s2)
          (ap (λ h. initial (set_here ∷ cs) (h ∷ endings) s1) is)
          (ap (λ (a : Added). rest_runs (ms ++ a.values) (a.change s1)) (sets x first.moment t added first.then_)
          ∙ ap (λ us. rest_runs us s2) (append-nil ms) ∙ ap (λ k. openings_from sizing k os ms s2) (plus_one i))
          (rest x.val is s2)
      register_follows (R.Stops cause t) went = by (stopped_so value_run kind_run cause t went)
        where
          by : Stopped value_run kind_run cause t
              → initial (set_here ∷ cs) (ended core.types r0 ∷ endings) s1 ≡ initial_ran (E.Stop cause) s1
          by (at_once e) = value_halts set_here cs cause t e
          by (behind_it x u e f) = never_halts x u t cause f
      register_follows (R.No t) went = tt
      register_follows (R.Returns w t) went = tt
      register_follows (R.Throws w t) went = tt
      register_follows R.Stuck went = tt

    -- ---- a top-level let

    module _ (arm : Arm) (whole : Sized) (kind : o.kind ≡ K.Let arm) (taken : ArmTaken v.walk.setting.now v.walk.around.now o.value arm whole)
        (given : List Code) (middle bound : List ℕ)
        (names_made : NamesMade low.bare o.place (length before) whole (steps_in arm) (names_in (steps_in arm)) (before ++ made.result ∷ []) names given
        middle bound)
        (many : length js ≡ length before) (functions : (j : ℕ) (f : Code) → slice_get given j ≡ Some f → slice_get m.functions (n + 1 + j) ≡ Some f)
        (registers : List (Option ℕ))
        (others : Opens m core.types st (opened_from (n + 1) (map (λ g. None) given ++ registers))
        (js ++ value_or_zero m (record { function = n; register = None }) (ended core.types r0) ∷ []) endings vs)
        (rest : (us : List Value) (from : RunState → Ran) (b : Behind (n + 1 + length given) registers vs middle bound (ms ++ us) from) (s : RunState)
        → Came more vs (initial (opened_from (n + 1 + length given) registers) b.endings s) (openings_from sizing (i + 1) os (ms ++ us) s)) where
      abbrev let_here : CodeOpening
      let_here = record { function = n; register = None }

      abbrev cs : List CodeOpening
      cs = opened_from (n + 1) (map (λ g. None) given ++ registers)

      abbrev steps : List Step
      steps = steps_in arm

      arm_is : arm_lowered (size_by core sized m low []) arm ≡ true
      arm_is =
          ap (λ f. arm_lowered f arm) (sym (size_same core sized m low low.bare low.bare_is (nodes ∷ []) [] v.walk.setting.now v.around.setting))
          ∙ arm_plain (size_for v.walk.setting.now) (crosses_for v.walk.setting.now)
          (λ d. ap (λ ds. is_some (slice_get ds d)) v.around.setting.directions_are) (reads_at v.walk.setting.now.reads.now) arm taken.lowered

      -- of its value

      module _ (x : Item) (u : Now Item) (is : value_run ≡ R.Gives x u) where
        abbrev start : P.Hand Item
        start = record { values = item whole x.val ∷ []; found = [] }

        abbrev looks_from : P.Hand Item → Now Item → Ended Item (P.Hand Item)
        looks_from hand = steps_meaning zo (opening_world ms) steps hand

        whole_is : whole ≡ x.typ
        whole_is = typed i o nodes at own_nodes before names made v n there js ms standing x u (value_same ∙ is) arm whole taken

        had : (has_sizes core.types x.val whole ≡ true) × (is_known ss whole ≡ true)
        had =
            subst (λ t. (has_sizes core.types x.val t ≡ true) × (is_known ss t ≡ true)) (sym whole_is)
            (sits i o nodes at own_nodes before names made v n there js ms standing x u (value_same ∙ is))

        comes : ended core.types r0 ≡ E.Value x.val
        comes = value_comes x u is

        from_start : (now : Now Item) → looks_from (record { values = x ∷ []; found = [] }) now ≡ looks_from start now
        from_start now = ap (λ (y : Item). looks_from (record { values = y ∷ []; found = [] }) now) (same_item x whole whole_is)

        opens : Opens m core.types st cs (js ++ x.val ∷ []) endings vs
        opens = subst (λ h. Opens m core.types st cs (js ++ value_or_zero m let_here h ∷ []) endings vs) comes others

        standing_there : Standing names ms (js ++ x.val ∷ [])
        standing_there = standing_more names ms js (x.val ∷ []) standing

        value_there : slice_get (js ++ x.val ∷ []) (length before) ≡ Some x.val
        value_there = ap (slice_get (js ++ x.val ∷ [])) (sym many) ∙ get_last js x.val

        goes_there : initial (let_here ∷ cs) (ended core.types r0 ∷ endings) s1 ≡ initial cs endings s1
        goes_there = ap (λ h. initial (let_here ∷ cs) (h ∷ endings) s1) comes

        let_gives : (added : Added) (t : Now Item) → kind_run x u ≡ R.Gives added t
            → Came more vs (initial (let_here ∷ cs) (ended core.types r0 ∷ endings) s1) (rest_runs (ms ++ added.values) (added.change s1))
        let_gives added t then_ =
            let bound_so : LetFound zo ms arm x u added =
            let_found zo ms o.place (size_by core sized m low []) arm x u t added arm_is (kind_same (K.Let arm) kind x u ∙ then_) in
            let looked : Looked zo ms steps start bound_so.hand first_moment =
            looked_so zo ms steps start bound_so.hand u bound_so.moment first_moment (sym (from_start u) ∙ bound_so.is) in
            let texts : names_in steps ≡ names_of bound_so.hand.found = sym looked.names in
            let all : FoundIn bound_so.hand.found bound_so.hand.found = all_found bound_so.hand.found (ap names_differ (sym texts) ∙ taken.differ) in
            let us : List Value = vals_of bound_so.hand.found in
            let behind = names_follow i o nodes at own_nodes names ms (length before) whole steps x.val had
            (flat_steps (size_by core sized m low []) arm arm_is) bound_so.hand looked.again names_made bound_so.hand.found texts all (n + 1) functions
            (js ++ x.val ∷ []) ms (one_longer js x.val ∙ ap suc many ∙ sym (one_longer before made.result)) standing_there standing_there value_there
            registers vs
            opens in
            came_same more vs (initial (let_here ∷ cs) (ended core.types r0 ∷ endings) s1)
            (initial (opened_from (n + 1 + length given) registers) behind.endings s1) (rest_runs (ms ++ added.values) (added.change s1))
            (openings_from sizing (i + 1) os (ms ++ us) s1) (goes_there ∙ behind.starts s1)
            (ap (λ ws. rest_runs (ms ++ ws) (added.change s1)) bound_so.values ∙ ap (rest_runs (ms ++ us)) (bound_so.change s1)
            ∙ ap (λ k. openings_from sizing k os (ms ++ us) s1) (plus_one i))
            (rest us (λ s. initial cs endings s) behind s1)

        let_halts : (cause : Cause) (t : Now Item) → kind_run x u ≡ R.Stops cause t
            → initial (let_here ∷ cs) (ended core.types r0 ∷ endings) s1 ≡ initial_ran (E.Stop cause) s1
        let_halts cause t then_ =
            let failed : LetFailed zo ms o.place arm x u cause =
            let_failed zo ms o.place (size_by core sized m low []) arm x u t cause arm_is (kind_same (K.Let arm) kind x u ∙ then_) in
            let fails : looks_from start u ≡ R.No failed.moment = sym (from_start u) ∙ failed.is in
            let some : has_names (names_in steps) ≡ true = binds_some zo ms steps start u failed.moment taken.seen fails in
            goes_there
            ∙ names_stop i o nodes at own_nodes names ms (length before) whole steps x.val had (flat_steps (size_by core sized m low []) arm arm_is) names_made
            some first_moment (fails_again zo ms steps start u failed.moment fails first_moment) (n + 1) functions (js ++ x.val ∷ []) standing_there
            value_there registers vs opens s1
            ∙ ap (λ c. initial_ran (E.Stop c) s1) (sym failed.cause_is)

      pub let_follows : (out : Ended Item Added) → opening_run (sizing.opening i) ms o first_moment ≡ out
          → Came more vs (initial (let_here ∷ cs) (ended core.types r0 ∷ endings) s1) (after_opening out ms s1 rest_runs)
      let_follows (R.Gives added t) went =
          let first = went_on value_run kind_run added t went in
          let_gives first.first first.moment first.is added t first.then_
      let_follows (R.Stops cause t) went = by (stopped_so value_run kind_run cause t went)
        where
          by : Stopped value_run kind_run cause t
              → initial (let_here ∷ cs) (ended core.types r0 ∷ endings) s1 ≡ initial_ran (E.Stop cause) s1
          by (at_once e) = value_halts let_here cs cause t e
          by (behind_it x u e f) = let_halts x u e cause t f
      let_follows (R.No t) went = tt
      let_follows (R.Returns w t) went = tt
      let_follows (R.Throws w t) went = tt
      let_follows R.Stuck went = tt

  -- what the openings of the module come to that are made of these
  opens_follow : {i : ℕ} {os : List Opening} {before names : List ℕ} {opened : List Code} {rs : List (Option ℕ)} {after more : List ℕ}
      → OpeningsMade low.bare i os before names opened rs after more → (n : ℕ) → (js ms : List Value) → length js ≡ length before → Standing names ms js
      → ((j : ℕ) (o : Opening) → slice_get os j ≡ Some o → slice_get core.openings (i + j) ≡ Some o)
      → ((j : ℕ) (f : Code) → slice_get opened j ≡ Some f → slice_get m.functions (n + j) ≡ Some f) → (vs : List Value) {es : List Halt}
      → Opens m core.types st (opened_from n rs) js es vs → (s1 : RunState) → Came more vs (initial (opened_from n rs) es s1) (openings_from sizing i os ms s1)
  opens_follow none_open n js ms many standing openings functions vs opens_none s1 = (standing, refl)
  opens_follow (opens_register {i = i} {r = r} {o = o} {os = os} {nodes = nodes} {before = before} {names = names} {more = more} {made = made} {rest = rest}
      {registers = registers} kind there v typ more_made) n js ms many standing openings functions vs (opens_more {es = endings} r0 run others) s1 =
      let at : slice_get core.openings i ≡ Some o = ap (slice_get core.openings) (none_more i) ∙ openings 0 o refl in
      let own_nodes : slice_get sized.openings i ≡ Some nodes = ap (λ (c : SizedCore). slice_get c.openings i) (sym low.bare_is.of_sized) ∙ there in
      let there_q : slice_get m.functions n ≡ Some made = ap (slice_get m.functions) (none_more n) ∙ functions 0 made refl in
      let c : CodeOpening = record { function = n; register = Some r } in
      let cs : List CodeOpening = opened_from (n + 1) registers in
      register_follows i o nodes at own_nodes before names made v n there_q js ms standing os more vs r0 run endings s1 r kind cs
      (λ u is s.
      opens_follow more_made (n + 1) (js ++ u ∷ []) ms (one_longer js u ∙ ap suc many ∙ sym (one_longer before made.result))
      (standing_more names ms js (u ∷ []) standing)
      (λ j p h. ap (slice_get core.openings) (one_more i j) ∙ openings (suc j) p h)
      (λ j g h. ap (slice_get m.functions) (one_more n j) ∙ functions (suc j) g h) vs
      (subst (λ h. Opens m core.types st cs (js ++ value_or_zero m c h ∷ []) endings vs) is others) s)
      (opening_run (sizing.opening i) ms o first_moment) refl
  opens_follow (opens_let {i = i} {o = o} {os = os} {nodes = nodes} {before = before} {names = names} {middle = middle} {bound = bound} {more = more}
      {made = made} {given = given} {rest = rest} {registers = registers} v there arm whole kind taken names_made more_made) n js ms many standing openings
      functions vs (opens_more {es = endings} r0 run others) s1 =
      let at : slice_get core.openings i ≡ Some o = ap (slice_get core.openings) (none_more i) ∙ openings 0 o refl in
      let own_nodes : slice_get sized.openings i ≡ Some nodes = ap (λ (c : SizedCore). slice_get c.openings i) (sym low.bare_is.of_sized) ∙ there in
      let there_q : slice_get m.functions n ≡ Some made = ap (slice_get m.functions) (none_more n) ∙ functions 0 made refl in
      let_follows i o nodes at own_nodes before names made v n there_q js ms standing os more vs r0 run endings s1 arm whole kind taken given middle bound
      names_made many (λ j g h. ap (slice_get m.functions) (one_more n j) ∙ functions (suc j) g (got_front given rest j g h)) registers others
      (λ us from b s.
      opens_follow more_made (n + 1 + length given) b.values (ms ++ us) b.many b.standing
      (λ j p h. ap (slice_get core.openings) (one_more i j) ∙ openings (suc j) p h)
      (λ j g h. ap (slice_get m.functions) (past_given n (length given) j) ∙ functions (suc (length given + j)) g (get_past given rest j ∙ h)) vs b.opens s)
      (opening_run (sizing.opening i) ms o first_moment) refl

  -- all functions of openings stand behind those of directions and of instances
  functions_there : (j : ℕ) (f : Code) → slice_get low.opened j ≡ Some f → slice_get m.functions (length low.ways + 2 * length sized.instances + j) ≡ Some f
  functions_there j f h =
      ap (λ n. slice_get m.functions (length low.ways + n + j)) (sym (low.instances.many ∙ ap (λ (c : SizedCore). 2 * length c.instances) low.is.of_sized))
      ∙ ap (slice_get m.functions) (behind_both (length low.ways) (length low.functions) j)
      ∙ ap (λ fs. slice_get fs (length low.ways + (length low.functions + j))) low.all
      ∙ get_past low.ways (low.functions ++ low.opened) (length low.functions + j) ∙ get_past low.functions low.opened j ∙ h

  from_first : (j : ℕ) → 0 + j ≡ j
  from_first j = omega arith

  -- what the openings of the module come to
  pub all_follow : (es : List Halt) (vs : List Value) → Opens m core.types st m.openings [] es vs → (s : RunState)
      → Came low.model.openings.now vs (initial m.openings es s) (openings_of sizing core s)
  all_follow es vs opens s =
      subst (λ os. Came low.model.openings.now vs (initial os es s) (openings_of sizing core s)) (sym low.opens)
      (opens_follow low.openings (length low.ways + 2 * length sized.instances) [] [] refl tt (λ j o k. ap (slice_get core.openings) (from_first j) ∙ k)
      functions_there vs (subst (λ os. Opens m core.types st os [] es vs) low.opens opens) s)

  -- the openings of the module, worked out over whatever state, have the values of the names of lets
  pub lets_are : (es : List Halt) (vs : List Value) → Opens m core.types st m.openings [] es vs → AreLets core sized m low vs
  lets_are es vs opens i v e = by (openings_of sizing core (nowhere core.types)) (all_follow es vs opens (nowhere core.types)) e
    where
      by : (o : Opened) → Came low.model.openings.now vs (initial m.openings es (nowhere core.types)) o → slice_get (lets_in o) i ≡ Some v
          → slice_index_or vs (slice_index_or low.model.openings.now i 0) V.Unit ≡ v
      by (S.opened ls end) came h = standing_at low.model.openings.now ls vs i v came.0 h
      by (S.opened_to cause end) came h = none v h
      by S.opened_not came h = none v h

  -- what the openings of the core come to is what they come to
  pub starts_so : (es : List Halt) (vs : List Value) → Opens m core.types st m.openings [] es vs → (s : RunState) (ran : Ran)
      → init_ran sizing core s ≡ Some ran → initial m.openings es s ≡ ran
  starts_so es vs opens s ran e = by (openings_of sizing core s) (all_follow es vs opens s) e
    where
      some_ran : (r : Ran) → Some r ≡ Some ran → r ≡ ran
      some_ran r h = cc

      by : (o : Opened) → Came low.model.openings.now vs (initial m.openings es s) o → ran_from o ≡ Some ran → initial m.openings es s ≡ ran
      by (S.opened ls end) came h = came.1 ∙ some_ran (initial_ran (E.Value V.Unit) end) h
      by (S.opened_to cause end) came h = came ∙ some_ran (initial_ran (E.Stop cause) end) h
      by S.opened_not came h = none ran h
