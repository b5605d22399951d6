-- Functions: a tick, the numbers of the arguments, the measure, the clauses, and what comes last.
use Rattle.std.proofs.Common.{◌≡◌, ◌∙◌, ap, sym, refl, subst, ℕ, zero, suc, nat_lt, Bool, true, false, true≢false, List, [], ◌∷◌, map}
use Rattle.std.proofs.Common.{length, Option, Some, None, option_map, if◌then◌else◌}
use Rattle.sail_base.specs.declared.place.Place.{Place}
use Rattle.sail_types.specs.Belongs.{Reading as Closed, belongs}
use Rattle.sail_types.specs.Numbers.{Assignment, true_in}
use Rattle.sail_types.specs.Sums.{and_then}
use Rattle.sail_types.specs.declared.numbers.Con.{Con, out-Con}
use Rattle.sail_types.specs.declared.numbers.Index.{Index}
use Rattle.sail_types.specs.declared.table.Types.{Types}
use Rattle.sail_types.specs.declared.types.Typ.{Typ}
use Rattle.sail_types.specs.declared.values.Value.{Value}
use Rattle.model_state.specs.declared.cause.Cause.{Cause}
use Rattle.model_state.specs.declared.cause.Cause.TheVariants.{MatchFailure, Measure, WorkLimit}
use Rattle.sail_core.specs.declared.model.Function.{Function}
use Rattle.sail_core.specs.declared.patterns.Arm.{Arm}
use Rattle.sail_core.specs.declared.tree.Core.{Core, Core-F, out-Core, fold-roll-Core, roll-out-Core}
use Rattle.sail_core.specs.declared.tree.Giver.TheVariants as By
use Rattle.sail_core.specs.declared.tree.Kind.{Kind}
use Rattle.sail_core.specs.declared.written.WrittenNumber.{WrittenNumber}
use Rattle.sail_core.specs.Making.{Making, World, made, natural}
use Rattle.sail_core.specs.Meaning.{arm_taken, first_of, kind_meaning, meaning}
use Rattle.sail_core.specs.Numbers.{Givens, as_awaited, all_agree}
use Rattle.sail_core.specs.Program.{Calls, Measures, answered, below, entered, entering, framed, measured, nearest, world_of}
use Rattle.sail_core.specs.Run.{Ended, Local, Now, Run, falls, gives, goes_on, if_so, leaving, needs, or_so, returned, stops, stuck, tick_at, ◌then◌}
use Rattle.sail_core.specs.Run.{◌or_else◌}
use Rattle.size_values.specs.declared.sized.Sized.{Sized}
use Rattle.value_indices.specs.declared.indices.Reading.{Reading}
use Rattle.value_indices.specs.declared.notes.Fact.{Fact}
use Rattle.value_indices.specs.Opening.{opened}
use Rattle.value_indices.specs.Steps.{Walk, Went, bind, conditions, owe}
use Rattle.pattern_leaves.specs.Settings.{Around}
use Rattle.call_arguments.specs.Placing.{is_trivial_form}
use Rattle.call_arguments.specs.declared.aims.Aim.{Aim}
use Rattle.call_notes.specs.Noted.{numbers_given, numbers_noted}
use Rattle.expression_steps.specs.Statements.{natural_type}
use Rattle.function_notes.specs.Functions.{body_walk, clauses_of, constrained, in_function, inside_function, kind_clauses}
use Rattle.function_notes.specs.Functions.{last_made, last_of, measured_walk, own_indices}
use Rattle.checked_meaning.specs.Checked.{Cases, Checks, Noted, checked}
use Rattle.checked_meaning.specs.Items.{Item, item, items_of, typs, vals}
use Rattle.value_laws.specs.Belonging.{Integers, closed, standing}
use Rattle.value_laws.specs.Known.{AllTrue, Point, given_in}
use Rattle.value_laws.proofs.Steps.{same}
use Rattle.call_fits.specs.Calls.{AllBelong, givens_at}
use Rattle.soundness_steps.specs.Points.{Later}
use Rattle.soundness_steps.proofs.Points.{agree_on, no_later}
use Rattle.soundness_steps.specs.Works.{Scene, Setting, Work, here}
use Rattle.soundness_steps.specs.Noted.{EachNoted}
use Rattle.soundness_steps.specs.States.{AllKept, IsAnswer, IsThrown, Sound, StateBelongs}
use Rattle.soundness_steps.specs.Steps.{AllMet, Beside, EndsWell, Stands, well_given, well_no, well_returned, well_stopped, well_thrown}
use Rattle.soundness_steps.specs.Values.{IsWanted}
use Rattle.soundness_steps.specs.Calls.{CallEnds, Enters, IsResult, SoundCalls, call_falls, call_gives, call_stops, call_throws, awaited_at}
use Rattle.soundness_steps.specs.Calls.{inside}
use Rattle.soundness_steps.proofs.Steps.{binds, gives_numbers, makes, met_behind, met_front, stands_on, walks_then, well_then}
use Rattle.soundness_forms.specs.Worlds.{LetsAre, Surrounds}
use Rattle.soundness_forms.proofs.Basics.{has_there, is_on, wanted_on}
use Rattle.soundness_forms.proofs.Giving.{gives_all}
use Rattle.soundness_calls.specs.Premises.{AllMade, ClausesHold, CoreHolds, Covered, EntersAs, OwnSame, Results, own_type, own_of, read_as}
use Rattle.soundness_calls.specs.Laws.{FunctionsAreSound, PartsHold, running, scene_of}
use Rattle.soundness_calls.proofs.Natural.{NaturalIsRead, natural_read}
use Rattle.soundness_calls.proofs.Own.{all_agreed, all_given, constrained_is, constraint_facts, natural_hole, natural_steady, own_agree, own_aim}
use Rattle.soundness_calls.proofs.Own.{own_closed, own_hole, own_is, own_next, own_over, own_point, same_from}
use Rattle.soundness_calls.proofs.Opens.{AllOf, IsOf, opens_as}
use Rattle.soundness_calls.proofs.Clauses.{Entering, clauses_end, clauses_facts, nothing_noted}
use Rattle.sail_types.specs.Places as Places
use Rattle.sail_core.specs.declared.tree.Kind.TheVariants as K
use Rattle.sail_core.specs.Run as R
use Rattle.value_indices.specs.declared.indices.Naming.TheVariants as M
use Rattle.value_indices.specs.declared.notes.Made.TheVariants as Makes
use Rattle.call_arguments.specs.declared.aims.Aim.TheVariants as Aims

-- ---- how a piece of a function's body ends, before the frame is left: nothing is in scope, and no number is noted

pub data FrameEnds (set : Setting) (answer : Closed) {A : Type 0} (Holds : A → Type 0) : Ended Item A → Type 0 where
  frame_gives : (x : A) (now : Now Item) → Holds x → StateBelongs set now.state → now.locals ≡ [] → now.opened ≡ nothing_noted
      → FrameEnds set answer Holds (R.Gives x now)
  frame_returns : (v : Value) (now : Now Item) → belongs set.around.types v answer ≡ true → StateBelongs set now.state
      → FrameEnds set answer Holds (R.Returns v now)
  frame_throws : (v : Value) (now : Now Item) → IsThrown set set.around.exception v → StateBelongs set now.state
      → FrameEnds set answer Holds (R.Throws v now)
  frame_stops : (cause : Cause) (now : Now Item) → FrameEnds set answer Holds (R.Stops cause now)

frame_then : {set : Setting} {answer : Closed} {A B : Type 0} {Holds : A → Type 0} {Then : B → Type 0} {e : Ended Item A}
    (c : A → Run Item B) → FrameEnds set answer Holds e
    → ((x : A) (now : Now Item) → Holds x → StateBelongs set now.state → now.locals ≡ [] → now.opened ≡ nothing_noted → FrameEnds set answer Then (c x now))
    → FrameEnds set answer Then (goes_on e c)
frame_then c (frame_gives x now h s l o) next = next x now h s l o
frame_then c (frame_returns v now b s) next = frame_returns v now b s
frame_then c (frame_throws v now b s) next = frame_throws v now b s
frame_then c (frame_stops cause now) next = frame_stops cause now

-- how the whole ends
pub data FrameAlone (set : Setting) (answer : Closed) : Ended Item Value → Type 0 where
  alone_gives : (v : Value) (now : Now Item) → belongs set.around.types v answer ≡ true → StateBelongs set now.state → FrameAlone set answer (R.Gives v now)
  alone_returns : (v : Value) (now : Now Item) → belongs set.around.types v answer ≡ true → StateBelongs set now.state
      → FrameAlone set answer (R.Returns v now)
  alone_throws : (v : Value) (now : Now Item) → IsThrown set set.around.exception v → StateBelongs set now.state → FrameAlone set answer (R.Throws v now)
  alone_stops : (cause : Cause) (now : Now Item) → FrameAlone set answer (R.Stops cause now)

frame_last : {set : Setting} {answer : Closed} {A : Type 0} {Holds : A → Type 0} {e : Ended Item A} (c : A → Run Item Value)
    → FrameEnds set answer Holds e
    → ((x : A) (now : Now Item) → Holds x → StateBelongs set now.state → now.locals ≡ [] → now.opened ≡ nothing_noted → FrameAlone set answer (c x now))
    → FrameAlone set answer (goes_on e c)
frame_last c (frame_gives x now h s l o) next = next x now h s l o
frame_last c (frame_returns v now b s) next = alone_returns v now b s
frame_last c (frame_throws v now b s) next = alone_throws v now b s
frame_last c (frame_stops cause now) next = alone_stops cause now

-- the frame is left
framed_ends : {set : Setting} {answer : Closed} (before : Now Item) (e : Ended Item Value) → FrameAlone set answer e
    → CallEnds set false before (λ v. belongs set.around.types v answer ≡ true)
    (returned (leaving (λ after. record after { locals = before.locals; opened = before.opened }) e))
framed_ends before e (alone_gives v now b s) =
    call_gives v (record now { locals = before.locals; opened = before.opened }) b (record { state = s; locals = refl; opened = refl })
framed_ends before e (alone_returns v now b s) =
    call_gives v (record now { locals = before.locals; opened = before.opened }) b (record { state = s; locals = refl; opened = refl })
framed_ends before e (alone_throws v now b s) =
    call_throws v (record now { locals = before.locals; opened = before.opened }) b (record { state = s; locals = refl; opened = refl })
framed_ends before e (alone_stops cause now) = call_stops cause (record now { locals = before.locals; opened = before.opened })

-- ---- what clauses leave noted is what was

abbrev Leaves : Noted → Ended Item Item → Type 0
Leaves noted (R.Gives x now) = now.opened ≡ noted
Leaves noted (R.No now) = Unit {0}
Leaves noted (R.Returns v now) = Unit {0}
Leaves noted (R.Throws v now) = Unit {0}
Leaves noted (R.Stops cause now) = Unit {0}
Leaves noted R.Stuck = Unit {0}

one_leaves : (noted : Noted) (e : Ended Item Item) (next : Run Item Item) → ((now : Now Item) → Leaves noted (next now))
    → Leaves noted (or_so (leaving (λ after. record after { opened = noted }) e) next)
one_leaves noted (R.Gives x now) next h = refl
one_leaves noted (R.No now) next h = h (record now { opened = noted })
one_leaves noted (R.Returns v now) next h = tt
one_leaves noted (R.Throws v now) next h = tt
one_leaves noted (R.Stops cause now) next h = tt
one_leaves noted R.Stuck next h = tt

clauses_leave : (q : Scene) (w : World Item) (k : ℕ) (arms : List Arm) (bodies : List (Run Item Item)) (xs : List Item) (now : Now Item)
    → Leaves now.opened (first_of (read_as q) w k arms bodies falls xs now)
clauses_leave q w k [] [] xs now = tt
clauses_leave q w k [] (b ∷ bodies) xs now = tt
clauses_leave q w k (a ∷ arms) [] xs now = tt
clauses_leave q w k (a ∷ arms) (b ∷ bodies) xs now =
    one_leaves now.opened (arm_taken (read_as q) w (By.Arm k (length arms)) a b xs now)
    (λ after. first_of (read_as q) w k arms bodies falls xs ((read_as q).back now after))
    (λ after. clauses_leave q w k arms bodies xs ((read_as q).back now after))

-- ---- from a piece beside its walk

-- what was given, at a later point
pub record Given (q : Scene) {n : ℕ} (p : Point n) (m : ℕ) (r : Reading) (x : Item) : Type 0 where
  pub point : Point m
  pub later : Later p point
  pub results : Results q point r x

no_locals : (types : Types) (ls : List (Local Item)) → AllKept types [] ls → ls ≡ []
no_locals types [] h = refl
no_locals types (l ∷ ls) h = absurd h

-- where nothing is in scope
module _ (q : Scene) (names : q.names ≡ []) where
  bare_now : (now : Now Item) → Sound q now → now.locals ≡ []
  bare_now now s = no_locals q.set.around.types now.locals (subst (λ ks. AllKept q.set.around.types ks now.locals) names s.names)

  sound_now : (now : Now Item) → StateBelongs q.set now.state → now.locals ≡ [] → Sound q now
  sound_now now s e = record {
    state = s;
    names = subst (λ ks. AllKept q.set.around.types ks now.locals) (sym names) (subst (λ ls. AllKept q.set.around.types [] ls) (sym e) tt);
  }

  module _ {n : ℕ} {p : Point n} {m : ℕ} {facts : List Fact} {answer : Closed} (is : q.answer ≡ Some answer) where
    -- clauses, behind which the run stops where none is taken
    clauses_frame : {r : Reading} (cause : Cause) (e : Ended Item Item) → Leaves nothing_noted e → EndsWell q p m facts (λ g x. Results q g r x) e
        → FrameEnds q.set answer (Given q p m r) (or_so e (stops cause))
    clauses_frame cause e left (well_given x now h s) =
        frame_gives x now (record { point = h.point; later = h.later; results = h.holds }) s.state (bare_now now s) left
    clauses_frame cause e left (well_no now b s) = frame_stops cause now
    clauses_frame cause e left (well_returned v now b s) =
        frame_returns v now (subst (λ t. IsAnswer q.set.around.types t v) is b) s.state
    clauses_frame cause e left (well_thrown v now b s) = frame_throws v now b s.state
    clauses_frame cause e left (well_stopped why now) = frame_stops why now

-- ---- what the clauses gave comes to the type of the result

-- a piece that never says No
abbrev quiet : Scene → Scene
quiet q = record q { may_fall = false }

-- the value alone is said of
last_beside : {q : Scene} {n : ℕ} {p : Point n} {facts : List Fact} (k : ℕ) (r : Reading) (x : Item) → IsOf q.set q.work p r x
    → Beside q n p facts (last_made k r) (made (read_as q) k (x ∷ []) x.val) (λ m g t y. y.val ≡ x.val)
unfolding opened
last_beside {q} {n} {p} {facts} k r x h =
    walks_then (last_of k r) (opens_as r x false M.Unnamed h) (λ m g fs i l is.
    binds (λ t. numbers_noted k i) (λ y. (read_as q).note (By.Node k) x.val then λ t. gives y)
    (makes k (i ∷ []) (Makes.ByIndices i) (x ∷ []) x.val (is.typ, tt) (λ j a. has_there is.has j a))
    (λ m2 g2 fs2 t y l2 e.
    binds_after (gives_numbers (By.Node k) i x.val (numbers_given i) (gives_all i) (λ j a. has_there (is_on l2 is).has j a)) y e.0))
  where
    binds_after : {q : Scene} {n : ℕ} {p : Point n} {facts : List Fact} {w : Walk (Unit {0})} {c : Run Item (Unit {0})} {v : Value}
        → Beside q n p facts w c (λ m g t u. Unit {0}) → (y : Item) → y.val ≡ v → Beside q n p facts w (c then λ t. gives y) (λ m g t z. z.val ≡ v)
    binds_after b y e = record {
      run = λ now stands met ok. well_then (λ t. gives y) (b.run now stands met ok) (λ t after g l s h ok2.
          well_given y after (record { point = g; later = no_later g; stands = s; holds = e }) ok2);
    }

-- what a function gives
last_frame : (q : Scene) {n : ℕ} {p : Point n} {m : ℕ} {facts : List Fact} {answer : Closed} {v : Value} (e : Ended Item Item)
    → q.answer ≡ Some answer → belongs q.set.around.types v answer ≡ true → EndsWell (quiet q) p m facts (λ g y. y.val ≡ v) e
    → FrameAlone q.set answer (goes_on e (λ y. gives y.val))
last_frame q {answer = answer} {v = v} e is b (well_given y now h s) =
    alone_gives y.val now (ap (λ u. belongs q.set.around.types u answer) h.holds ∙ b) s.state
last_frame q e is b (well_no now a s) = absurd (true≢false (sym a))
last_frame q e is b (well_returned u now a s) = alone_returns u now (subst (λ t. IsAnswer q.set.around.types t u) is a) s.state
last_frame q e is b (well_thrown u now a s) = alone_throws u now a s.state
last_frame q e is b (well_stopped cause now) = alone_stops cause now

-- ---- arguments as they come in

made_items : (set : Setting) (x : Work) (f : Function) (g : Integers) (ts : List Typ) (vs : List Value) (ss : List Sized) → AllMade set x f g ts vs ss
    → (xs : List Item) × (items_of ss vs ≡ Some xs) × (vals xs ≡ vs) × (typs xs ≡ ss)
made_items set x f g [] [] [] h = ([], refl, refl, refl)
made_items set x f g [] [] (s ∷ ss) h = absurd h
made_items set x f g [] (v ∷ vs) ss h = absurd h
made_items set x f g (t ∷ ts) [] ss h = absurd h
made_items set x f g (t ∷ ts) (v ∷ vs) [] h = absurd h
made_items set x f g (t ∷ ts) (v ∷ vs) (s ∷ ss) h =
    let k = made_items set x f g ts vs ss h.1 in
    (item s v ∷ k.0, ap (option_map (λ xs. item s v ∷ xs)) k.1, ap (λ us. v ∷ us) k.2, ap (λ us. s ∷ us) k.3)

all_items : (set : Setting) (x : Work) (f : Function) (h : Integers) (ts : List Typ) (xs : List Item)
    → AllBelong set.around.types (inside set f h) x.types ts (vals xs)
    → ((g : Integers) → OwnSame f h g → AllMade set x f g ts (vals xs) (typs xs)) → AllOf set x (own_point f h) (map (own_type f) ts) xs
all_items set x f h [] [] b m = tt
all_items set x f h [] (y ∷ xs) b m = absurd b
all_items set x f h (t ∷ ts) [] b m = absurd b
all_items set x f h (t ∷ ts) (y ∷ xs) b m = (
  record {
    steady = λ g a. own_closed set x f h g t (own_agree f h g a);
    belongs = λ g a. ap (belongs set.around.types y.val) (own_closed set x f h g t (own_agree f h g a) ∙ own_over set x f h t) ∙ b.0;
    made = λ exact g a. (m g (own_agree f h g a)).0 exact;
  },
  all_items set x f h ts xs b.1 (λ g a. (m g a).1),
)

-- ---- what is in force where the clauses begin

none_given : (b : Bool) (c : Con) → given_in (constraint_facts b c) ≡ []
none_given true c = refl
none_given false c = refl

constraint_true : (mu : Assignment) (b : Bool) (c : Con) → true_in mu c ≡ true → AllTrue mu (conditions (constraint_facts b c))
constraint_true mu true c h = tt
constraint_true mu false c h = (h, tt)

pub core_out : {X : Type 0} (z : Making X) (w : World X) (c : Core) (kind : Kind) → (out-Core c).kind ≡ kind
    → meaning z w c ≡ kind_meaning z w (out-Core c).place (out-Core c).number kind (map (meaning z w) (out-Core c).parts)
core_out {X} z w c kind e =
    ap (meaning z w) (sym (roll-out-Core c)) ∙ fold-roll-Core (Run X X) (λ d. kind_meaning z w d.place d.number d.kind d.parts) (out-Core c)
    ∙ (λ j. kind_meaning z w (out-Core c).place (out-Core c).number (e j) (map (meaning z w) (out-Core c).parts))

-- ---- one call

module _ (set : Setting) (k : Checks) (lets : List Value) (x : Work) (f : Function) (lets_are : LetsAre set x set.around.lets lets) (calls : Calls Item)
    (sound : (active : Measures) (nu : Givens) (xs : List Item) → SoundCalls set set.covered.direction (world_of (running set k lets) calls active nu xs))
    (covered : Covered set k x f) (parts : PartsHold set k x f) (vs : List Value) (h : Integers) (enters : Enters set x f vs h) where
  abbrev nu : Givens
  nu = givens_at h 0 f.variables

  abbrev cases : Cases
  cases = k.function x.function x.instance.place nu

  abbrev q : Scene
  q = scene_of set x f h cases

  abbrev p : Point (own_next 0 f.variables)
  p = own_point f h

  abbrev cf : List Fact
  cf = constraint_facts (is_trivial_form (out-Con f.constraint)) f.constraint

  abbrev result : Reading
  result = own_type f f.result

  abbrev answer : Closed
  answer = closed set.around.types (standing set.past h) x.types result

  abbrev come : EntersAs set k x f vs h enters
  come = covered.enters vs h enters

  abbrev arguments : (xs : List Item) × (items_of come.sizes vs ≡ Some xs) × (vals xs ≡ vs) × (typs xs ≡ come.sizes)
  arguments = made_items set x f h f.parameters vs come.sizes (come.are_right h (λ i less. refl))

  abbrev xs : List Item
  xs = arguments.0

  all : AllOf set x p (map (own_type f) f.parameters) xs
  all =
      all_items set x f h f.parameters xs (subst (AllBelong set.around.types (inside set f h) x.types f.parameters) (sym arguments.2) enters.belong)
      (λ g a. subst (λ us. AllMade set x f g f.parameters us (typs xs)) (sym arguments.2)
      (subst (λ ss. AllMade set x f g f.parameters vs ss) (sym arguments.3) (come.are_right g a)))

  abbrev w : Measures → World Item
  w active = world_of (running set k lets) calls active nu xs

  surrounds : (active : Measures) → Surrounds q (w active) p []
  surrounds active = record {
    names = tt;
    numbers = all_given q (w active) f.variables 0 h (λ g a. same_from f h g (own_agree f h g a));
    answer = (λ g a. own_closed set x f h g f.result (own_agree f h g a), own_hole f f.result);
    lets = lets_are;
    hart = refl;
    calls = sound active nu xs;
  }

  stands : Stands set x nothing_noted p cf
  stands = record {
    there = λ g a.
        let own = own_agree f h g a in
        record {
          numbers = all_agreed 0 x.instance.numbers f.variables h g (same_from f h g own) enters.awaited;
          true_there = constraint_true (standing set.past g) (is_trivial_form (out-Con f.constraint)) f.constraint
              (covered.constraint_stands h g own enters.constraint);
          given = subst (EachNoted nothing_noted g) (sym (none_given (is_trivial_form (out-Con f.constraint)) f.constraint)) tt;
        };
  }

  -- the walk behind the function's own variables and its constraint
  behind_own : (walk : Around → Walk (Unit {0}))
      → AllMet q (in_function set.around f walk [] 0).notes → AllMet q (walk (inside_function set.around f (own_of f)) cf (own_next 0 f.variables)).notes
  unfolding bind
  behind_own walk met =
      let own = own_indices f.variables [] 0 in
      let rest = λ (o : Went (List Index)). bind (constrained f.constraint) (λ t. walk (inside_function set.around f o.value)) o.facts o.next in
      let first = subst (λ o. AllMet q (rest o).notes) (own_is f.variables [] 0) (met_behind q own.notes _ met) in
      let limit = constrained f.constraint [] (own_next 0 f.variables) in
      subst (λ o. AllMet q (walk (inside_function set.around f (own_of f)) o.facts o.next).notes) (constrained_is f.constraint (own_next 0 f.variables))
      (met_behind q limit.notes _ first)

  -- ---- clauses of the body, or of the measure

  module _ (core : Core) (r : Reading) (declared : Bool) (once : List WrittenNumber) (wanted : IsWanted set x p r) where
    abbrev form : Core-F Core
    form = out-Core core

    abbrev walked : Walk (Unit {0})
    walked = kind_clauses form.place form.number (here q) f.parameters once (Aims.Due r) declared form.kind form.parts

    abbrev after_clauses : ℕ
    after_clauses = (walked cf (own_next 0 f.variables)).next

    -- behind them is in force what was
    facts_same : (kind : Kind) → (kind_clauses form.place form.number (here q) f.parameters once (Aims.Due r) declared kind form.parts cf
        (own_next 0 f.variables)).facts ≡ cf
    unfolding owe
    facts_same (K.Clauses arms) =
        clauses_facts q form.place form.number f.parameters once r declared arms form.parts cf (own_next 0 f.variables)
    facts_same kind = refl

    entering_there : (active : Measures) → Entering q (w active) f p cf r xs nothing_noted
    entering_there active = record {
      stands = stands;
      world = surrounds active;
      wanted = wanted;
      all = all;
      numbers = refl;
      may_fall = refl;
    }

    core_ends : (active : Measures) (cause : Cause) (kind : Kind) → form.kind ≡ kind → ClausesHold q (w active) f.parameters r declared form kind
        → AllMet q (kind_clauses form.place form.number (here q) f.parameters once (Aims.Due r) declared kind form.parts cf (own_next 0 f.variables)).notes
        → (now : Now Item) → now.opened ≡ nothing_noted → StateBelongs set now.state → now.locals ≡ []
        → FrameEnds set answer (Given q p (kind_clauses form.place form.number (here q) f.parameters once (Aims.Due r) declared kind form.parts cf
        (own_next 0 f.variables)).next r)
        (or_so (kind_meaning (read_as q) (w active) form.place form.number kind (map (meaning (read_as q) (w active)) form.parts) now) (stops cause))
    core_ends active cause (K.Clauses arms) is hold met now opened s bare =
        clauses_frame q refl refl cause _
        (subst (λ o. Leaves o (first_of (read_as q) (w active) form.number arms (map (meaning (read_as q) (w active)) form.parts) falls xs now)) opened
        (clauses_leave q (w active) form.number arms (map (meaning (read_as q) (w active)) form.parts) xs now))
        (clauses_end q (w active) f r xs nothing_noted form.place form.number declared arms form.parts once (own_next 0 f.variables) p cf
        (entering_there active) hold.0 hold.1 met now opened (sound_now q refl now s bare))
    core_ends active cause kind is hold met now opened s bare = let no : ⊥ = hold in absurd no

    -- a run of it, that stops where no clause is taken
    core_frame : (active : Measures) (cause : Cause) → CoreHolds q (w active) f r declared core → AllMet q (walked cf (own_next 0 f.variables)).notes
        → (now : Now Item) → now.opened ≡ nothing_noted → StateBelongs set now.state → now.locals ≡ []
        → FrameEnds set answer (Given q p after_clauses r) ((meaning (read_as q) (w active) core or_else stops cause) now)
    core_frame active cause hold met now opened s bare =
        subst (λ (c : Run Item Item). FrameEnds set answer (Given q p after_clauses r) (or_so (c now) (stops cause)))
        (sym (core_out (read_as q) (w active) core form.kind refl))
        (core_ends active cause form.kind refl hold met now opened s bare)

  -- ---- the body, the measure, and what comes last

  result_wanted : IsWanted set x p result
  result_wanted = (λ g a. own_closed set x f h g f.result (own_agree f h g a), own_hole f f.result)

  body_met : AllMet q (body_walk f (here q) cf (own_next 0 f.variables)).notes
  body_met = behind_own (body_walk f) (covered.body nu enters.awaited)

  abbrev clauses_of_body : Aim → Walk (Unit {0})
  clauses_of_body aim = clauses_of (here q) f.parameters f.numbers aim f.is_declared f.body

  abbrev walk_with : Aim → Walk (Unit {0})
  walk_with aim = bind (clauses_of_body aim) (λ t. last_made f.last result)

  body_due : AllMet q (walk_with (Aims.Due result) cf (own_next 0 f.variables)).notes
  body_due = subst (λ aim. AllMet q (walk_with aim cf (own_next 0 f.variables)).notes) (own_aim f f.result) body_met

  abbrev body_clauses : Went (Unit {0})
  body_clauses = clauses_of_body (Aims.Due result) cf (own_next 0 f.variables)

  front_met : AllMet q body_clauses.notes
  unfolding bind
  front_met = met_front q body_clauses.notes _ body_due

  last_met : AllMet q (last_made f.last result cf body_clauses.next).notes
  unfolding bind
  last_met =
      subst (λ fs. AllMet q (last_made f.last result fs body_clauses.next).notes)
      (facts_same f.body result f.is_declared f.numbers result_wanted (out-Core f.body).kind)
      (met_behind q body_clauses.notes _ body_due)

  given_of_result : {m : ℕ} (g : Point m) (y : Item) → Later p g → Results q g result y → IsOf set x g result y
  given_of_result g y l r = record { steady = (wanted_on set x result l result_wanted).0; belongs = r.belongs; made = r.typ }

  answered_frame : (active : Measures) (now : Now Item) → now.opened ≡ nothing_noted → StateBelongs set now.state → now.locals ≡ []
      → FrameAlone set answer (answered (read_as q) (w active) f now)
  answered_frame active now opened s bare =
      frame_last (λ y. made (read_as q) f.last (y ∷ []) y.val then λ z. gives z.val)
      (core_frame f.body result f.is_declared f.numbers result_wanted active (MatchFailure f.place) (parts.body h nu (w active)) front_met now opened s bare)
      (λ y after given state locals noted.
      last_frame q (made (read_as q) f.last (y ∷ []) y.val after) refl
      (ap (belongs set.around.types y.val) (sym (own_closed set x f h given.point.integers f.result (own_agree f h given.point.integers
      (agree_on given.later (same given.point))))) ∙ given.results.belongs given.point.integers (same given.point))
      ((last_beside {q = quiet q} f.last result y (given_of_result given.point y given.later given.results)).run after
      (subst (λ o. Stands set x o given.point cf) (sym noted) (stands_on given.later stands)) last_met
      (record { state = state; names = (sound_now q refl after state locals).names })))

  -- a measure is a natural number, below that of the nearest call of its cycle
  module _ (one_read : NaturalIsRead) (core : Core) (is : f.measure ≡ Some core) (natural_wanted : IsWanted set x p natural_type) where
    measure_met : AllMet q (measured_walk f core (here q) cf (own_next 0 f.variables)).notes
    measure_met = behind_own (measured_walk f core) (covered.measure nu enters.awaited core is)

    below_frame : (place : Place) (cycle : ℕ) (active : Measures) (o : Option ℕ) (i : ℕ) (now : Now Item) → now.opened ≡ nothing_noted
        → StateBelongs set now.state → now.locals ≡ [] → FrameEnds set answer (λ (a : Measures). Unit {0}) (below place cycle active o i now)
    below_frame place cycle active None i now opened s bare = frame_gives ((cycle, i) ∷ active) now tt s bare opened
    below_frame place cycle active (Some last) i now opened s bare = by (nat_lt i last)
      where
        by : (b : Bool) → FrameEnds set answer (λ (a : Measures). Unit {0}) ((if b then gives ((cycle, i) ∷ active) else stops (Measure place)) now)
        by true = frame_gives ((cycle, i) ∷ active) now tt s bare opened
        by false = frame_stops (Measure place) now

    measure_frame : (active : Measures) (place : Place) (cycle : ℕ) (now : Now Item) → now.opened ≡ nothing_noted → StateBelongs set now.state
        → now.locals ≡ [] → FrameEnds set answer (λ (a : Measures). Unit {0}) (measured (read_as q) (w active) place (Some cycle) (Some core) active now)
    measure_frame active place cycle now opened s bare =
        frame_then (λ y. natural (read_as q) y then below place cycle active (nearest cycle active))
        (core_frame core natural_type true [] natural_wanted active (MatchFailure place) (parts.measure h nu (w active) core is) measure_met now opened s bare)
        (λ y after given state locals noted.
        let i = one_read q _ given.point y given.results in
        subst (λ r. FrameEnds set answer (λ (a : Measures). Unit {0}) (goes_on r (below place cycle active (nearest cycle active)))) (sym (i.1 after))
        (below_frame place cycle active (nearest cycle active) i.0 after noted state locals))

  measured_frame : NaturalIsRead → IsWanted set x p natural_type → (active : Measures) (place : Place) (cycle : Option ℕ) (measure : Option Core)
      → f.measure ≡ measure → (now : Now Item) → now.opened ≡ nothing_noted → StateBelongs set now.state → now.locals ≡ []
      → FrameEnds set answer (λ (a : Measures). Unit {0}) (measured (read_as q) (w active) place cycle measure active now)
  measured_frame one_read wanted active place None None is now opened s bare = frame_gives active now tt s bare opened
  measured_frame one_read wanted active place None (Some core) is now opened s bare = frame_gives active now tt s bare opened
  measured_frame one_read wanted active place (Some cycle) None is now opened s bare = frame_gives active now tt s bare opened
  measured_frame one_read wanted active place (Some cycle) (Some core) is now opened s bare =
      measure_frame one_read core is wanted active place cycle now opened s bare

  -- ---- the frame

  abbrev piece : Measures → Place → Run Item Value
  piece active place =
      measured (read_as q) (w active) place f.cycle f.measure active then λ then_active. answered (read_as q) (w then_active) f

  body_frame : NaturalIsRead → IsWanted set x p natural_type → (active : Measures) (place : Place) (start : Now Item) → start.opened ≡ nothing_noted
      → StateBelongs set start.state → start.locals ≡ [] → FrameAlone set answer (piece active place start)
  body_frame one_read wanted active place start opened s bare =
      frame_last (λ then_active. answered (read_as q) (w then_active) f)
      (measured_frame one_read wanted active place f.cycle f.measure refl start opened s bare)
      (λ then_active after u state locals left. answered_frame then_active after left state locals)

  -- ---- the call

  abbrev inner : Measures → Place → Making Item → Givens → List Item → Run Item Value
  inner active place z nu xs =
      measured z (world_of (running set k lets) calls active nu xs) place f.cycle f.measure active then λ then_active.
      answered z (world_of (running set k lets) calls then_active nu xs) f

  entering_is : (awaited : List (Option Places.Given)) → all_agree awaited nu ≡ true → (active : Measures) (place : Place) (now : Now Item)
      → entering (running set k lets) x.function f (Some (awaited_at x awaited)) vs (inner active place) now ≡ framed (piece active place) now
  entering_is awaited agrees active place now =
      let body = λ (n : Givens) (us : List Item). framed (inner active place (checked set.around.types (k.function x.function x.instance.place n)) n us) in
      let read = λ (n : Givens). needs (and_then (k.enters x.function x.instance.place n vs) (λ ss. items_of ss vs)) then body n in
      (λ j. goes_on (needs (enters.are_given j) now) (λ n. if_so (read n) stuck (as_awaited (Some (awaited_at x awaited)) n)))
      ∙ (λ j. if_so (read nu) stuck (agrees j) now)
      ∙ (λ j. goes_on (needs (and_then (come.is_there j) (λ ss. items_of ss vs)) now) (body nu))
      ∙ (λ j. goes_on (needs (arguments.1 j) now) (body nu))

  call_ends : NaturalIsRead → IsWanted set x p natural_type → (awaited : List (Option Places.Given)) → all_agree awaited nu ≡ true → (active : Measures)
      (place : Place) (before : Now Item) → StateBelongs set before.state → CallEnds set false before (λ v. belongs set.around.types v answer ≡ true)
      (entered (running set k lets) calls active place x.function (Some (awaited_at x awaited)) vs (Some f) before)
  call_ends one_read wanted awaited agrees active place before s = by before.ticks
    where
      by : (ticks : ℕ) → CallEnds set false before (λ v. belongs set.around.types v answer ≡ true)
          (goes_on (tick_at ticks before) (λ t. entering (running set k lets) x.function f (Some (awaited_at x awaited)) vs (inner active place)))
      by zero = call_stops WorkLimit before
      by (suc ticks) =
          let now : Now Item = record before { ticks = ticks } in
          subst (CallEnds set false before (λ v. belongs set.around.types v answer ≡ true)) (sym (entering_is awaited agrees active place now))
          (framed_ends before _ (body_frame one_read wanted active place (record now { locals = []; opened = nothing_noted }) refl s refl))

  -- ---- an event: no tick, no measure

  entering_alone : x.instance.place ≡ 0 → (inner : Making Item → Givens → List Item → Run Item Value) (now : Now Item)
      → entering (running set k lets) x.function f None vs inner now ≡ framed (inner (read_as q) nu xs) now
  entering_alone first inner now =
      let reading = λ (place : ℕ) (n : Givens). checked set.around.types (k.function x.function place n) in
      let body = λ (place : ℕ) (n : Givens) (us : List Item). framed (inner (reading place n) n us) in
      let read = λ (place : ℕ) (n : Givens). needs (and_then (k.enters x.function place n vs) (λ ss. items_of ss vs)) then body place n in
      (λ j. goes_on (needs (enters.are_given j) now) (read 0))
      ∙ (λ j. read (sym first j) nu now)
      ∙ (λ j. goes_on (needs (and_then (come.is_there j) (λ ss. items_of ss vs)) now) (body x.instance.place nu))
      ∙ (λ j. goes_on (needs (arguments.1 j) now) (body x.instance.place nu))

  pub event_ends : x.instance.place ≡ 0 → (before : Now Item) → StateBelongs set before.state
      → CallEnds set false before (λ v. belongs set.around.types v answer ≡ true)
      (entering (running set k lets) x.function f None vs (λ z nu us. answered z (world_of (running set k lets) calls [] nu us) f) before)
  event_ends first before s =
      subst (CallEnds set false before (λ v. belongs set.around.types v answer ≡ true))
      (sym (entering_alone first (λ z nu us. answered z (world_of (running set k lets) calls [] nu us) f) before))
      (framed_ends before _ (answered_frame [] (record before { locals = []; opened = nothing_noted }) refl s refl))

-- a natural number is of one type everywhere
natural_one : (set : Setting) (x : Work) {n : ℕ} (p : Point n) → IsWanted set x p natural_type
natural_one set x p = (natural_steady set x p, natural_hole)

pub functions_sound : FunctionsAreSound
functions_sound set k lets x f lets_are calls sound covered parts vs h enters awaited agrees active place before s =
    answer_holds
    (call_ends set k lets x f lets_are calls sound covered parts vs h enters natural_read (natural_one set x (own_point f h)) awaited agrees active place
    before s)
  where
    answer_holds : {e : Ended Item Value} → CallEnds set false before (λ v. belongs set.around.types v (closed set.around.types (standing set.past h) x.types
        (own_type f f.result)) ≡ true) e → CallEnds set false before (IsResult set x f h) e
    answer_holds (call_gives v now b a) = call_gives v now (ap (belongs set.around.types v) (sym (own_over set x f h f.result)) ∙ b) a
    answer_holds (call_falls now b a) = call_falls now b a
    answer_holds (call_throws v now b a) = call_throws v now b a
    answer_holds (call_stops cause now) = call_stops cause now
