-- Openings worked out one behind another, and the registers that are set to them.
use Rattle.std.proofs.Common.{◌≡◌, ℕ, zero, suc, ◌+◌, ◌<◌, ◌≤◌, List, [], ◌∷◌, ◌++◌, length, get_or, take, drop, map, Option, Some, None, refl, sym, ap}
use Rattle.std.proofs.Common.{◌∙◌, subst, arith, Bool, true, false}
use Rattle.std.specs.Prelude.{◌&&◌, slice_get}
use Rattle.sail_types.specs.declared.table.Types.{Types}
use Rattle.sail_types.specs.declared.values.Value.{Value}
use Rattle.sail_types.specs.declared.values.Value.TheVariants as V
use Rattle.model_state.specs.declared.cause.Cause.{Cause}
use Rattle.model_state.specs.declared.cause.Cause.TheVariants as C
use Rattle.model_state.specs.declared.cause.Ended.{Ended}
use Rattle.model_state.specs.declared.cause.Ended.TheVariants as E
use Rattle.model_state.specs.declared.state.Hart.{Hart}
use Rattle.model_state.specs.RunState.{RunState, Access, changed, hart_with_register, with_register}
use Rattle.model_state.specs.Folds.{Keeps, IsNotDone}
use Rattle.jib.specs.declared.code.Opening.{Opening}
use Rattle.jib.specs.declared.code.Module.{Module}
use Rattle.jib.specs.Jib.{Outcome, Gives, Throws, Stops, Store, jib_run}
use Rattle.jib.specs.Openings.{begun, Opens, opens_none, opens_more, ended, value_or_zero, initial, initial_ran, set_all}
use Rattle.jib.specs.Valid.{valid, is_cause}
use Rattle.jib.proofs.ValidLaws.{left_of, right_of}
use Rattle.jib_machine.specs.declared.machine.Machine.{Machine}
use Rattle.jib_machine.specs.declared.act.Ending.{Ending}
use Rattle.jib_machine.specs.Events.{blank}
use Rattle.jib_machine.specs.parts.Begun.{store}
use Rattle.jib_machine.specs.parts.Acts.{outcome_of}
use Rattle.jib_machine.specs.parts.Endings.{may_end, all_may_end}
use Rattle.jib_machine.specs.parts.Opened.{SameModel, OpensOne}
use Rattle.jib_machine.proofs.KeepLaws.{Later, runs_later, keeps_all, keeps_both, all_keep}

-- ---- machines of one model

pub same_model : (a : Machine) → SameModel a a
same_model a = record { program = refl; types = refl; registers = refl; entries = refl }

pub same_both : {a b c : Machine} → SameModel a b → SameModel b c → SameModel a c
same_both p q = record {
  program = q.program ∙ p.program;
  types = q.types ∙ p.types;
  registers = q.registers ∙ p.registers;
  entries = q.entries ∙ p.entries;
}

-- ---- one opening behind others

opens_last : (m : Module) (types : Types) (state : RunState) {os : List Opening} {ls vs : List Value} {es : List Ended}
    → Opens m types blank os ls es vs → (o : Opening) (e : Ended) (vs' : List Value) → OpensOne m types vs o e vs'
    → Opens m types blank (os ++ o ∷ []) ls (es ++ e ∷ []) vs'
opens_last m types state {ls = ls} opens_none o e vs' one =
    let first : Opens m types blank (o ∷ []) ls (e ∷ []) (ls ++ value_or_zero m o e ∷ []) =
    subst (λ q. Opens m types blank (o ∷ []) ls (q ∷ []) (ls ++ value_or_zero m o q ∷ [])) (sym one.ended_so) (opens_more one.outcome one.run opens_none) in
    subst (λ q. Opens m types blank (o ∷ []) ls (e ∷ []) q) (sym one.kept) first
opens_last m types state (opens_more r x y) o e vs' one = opens_more r x (opens_last m types state y o e vs' one)

take_more : (xs : List Opening) (i : ℕ) (d : Opening) → i < length xs → take (i + 1) xs ≡ take i xs ++ get_or xs i d ∷ []
take_more [] i d h = absurd (omega (arith, h))
take_more (y ∷ xs) zero d h = refl
take_more (y ∷ xs) (suc i) d h =
    let b : suc i + 1 ≡ suc (i + 1) = omega arith in
    ap (λ k. take k (y ∷ xs)) b ∙ ap (λ q. y ∷ q) (take_more xs i d (omega (arith, h)))

-- a run of the machine over the state in which nothing is
pub opens_one : (m : Module) (types : Types) (lets : List Value) (o : Opening) (state : RunState) (args : List Value) (after : RunState) (g : Ending)
    (e : Ended) (v : Value) (lets' : List Value) → state ≡ blank → args ≡ []
    → (left : ℕ) × (accesses : List Access) × jib_run m lets 0 o.function args (begun 0 state) (outcome_of g (store after left accesses))
    → ((s : Store) → e ≡ ended types (outcome_of g s)) → v ≡ value_or_zero m o e → lets' ≡ lets ++ v ∷ [] → OpensOne m types lets o e lets'
opens_one m types lets o state args after g e v lets' es ea run ended_so ev el = record {
  outcome = outcome_of g (store after run.0 run.1);
  run = subst (λ q. jib_run m lets 0 o.function q (begun 0 blank) (outcome_of g (store after run.0 run.1))) ea
      (subst (λ q. jib_run m lets 0 o.function args (begun 0 q) (outcome_of g (store after run.0 run.1))) es run.2);
  ended_so = ended_so (store after run.0 run.1);
  kept = el ∙ ap (λ q. lets ++ q ∷ []) ev;
}

-- one more of the openings of a machine
pub worked_more : (before now after : Machine) (os : List Opening) (k : ℕ) (d : Opening) (es es' : List Ended) (e : Ended) → k < length os
    → SameModel before now → Opens before.program before.types blank (take k os) before.lets es now.lets
    → OpensOne now.program now.types now.lets (get_or os k d) e after.lets → es' ≡ es ++ e ∷ []
    → Opens before.program before.types blank (take (k + 1) os) before.lets es' after.lets
worked_more before now after os k d es es' e h same x one ee =
    let one1 : OpensOne before.program now.types now.lets (get_or os k d) e after.lets =
    subst (λ q. OpensOne q now.types now.lets (get_or os k d) e after.lets) same.program one in
    let one2 : OpensOne before.program before.types now.lets (get_or os k d) e after.lets =
    subst (λ q. OpensOne before.program q now.lets (get_or os k d) e after.lets) same.types one1 in
    subst (λ q. Opens before.program before.types blank q before.lets es' after.lets) (sym (take_more os k d h))
    (subst (λ q. Opens before.program before.types blank (take k os ++ get_or os k d ∷ []) before.lets q after.lets) (sym ee)
    (opens_last before.program before.types blank x (get_or os k d) e after.lets one2))

-- ---- openings don't end as a schedule does

cause_may_end : (c : Cause) → is_cause c ≡ true → may_end (E.Stop c) ≡ true
cause_may_end C.StepsDone h = cc
cause_may_end c h = refl

later_may_end : (types : Types) (state : RunState) (r : Outcome) → Later state r → may_end (ended types r) ≡ true
later_may_end types state (Gives v t) h = refl
later_may_end types state (Throws v t) h = refl
later_may_end types state (Stops cause t) h = cause_may_end cause h.1

pub opens_may_end : (m : Module) → valid m ≡ true → (types : Types) (state : RunState) {os : List Opening} {ls vs : List Value} {es : List Ended}
    → Opens m types state os ls es vs → all_may_end es ≡ true
opens_may_end m v types state opens_none = refl
opens_may_end m v types state {ls = ls} (opens_more {es = es} r x y) =
    ap (λ b. b && all_may_end es) (later_may_end types state r (runs_later m ls 0 v x)) ∙ opens_may_end m v types state y

not_done : (e : Ended) → may_end e ≡ true → e ≡ E.Stop C.StepsDone → ⊥
not_done (E.Stop C.StepsDone) h q = cc
not_done e h q = cc

-- ---- initial values

set_keeps : (r : Option ℕ) (v : Value) (state : RunState) → Keeps state (set_all r v state)
set_keeps None v state = keeps_all state
set_keeps (Some i) v state = all_keep (hart_with_register i v) state

pub initial_keeps : (os : List Opening) (es : List Ended) (state : RunState) → Keeps state (initial os es state).state
initial_keeps [] es state = keeps_all state
initial_keeps (o ∷ os) [] state = keeps_all state
initial_keeps (o ∷ os) (E.Value v ∷ es) state =
    keeps_both (set_keeps o.register v state) (initial_keeps os es (set_all o.register v state))
initial_keeps (o ∷ os) (E.Stop cause ∷ es) state = keeps_all state

pub initial_ends : (os : List Opening) (es : List Ended) (state : RunState) → all_may_end es ≡ true → IsNotDone (initial os es state).ended
initial_ends [] es state h = λ e. cc
initial_ends (o ∷ os) [] state h = λ e. cc
initial_ends (o ∷ os) (E.Value v ∷ es) state h = initial_ends os es (set_all o.register v state) h
initial_ends (o ∷ os) (E.Stop cause ∷ es) state h = not_done (E.Stop cause) (left_of (may_end (E.Stop cause)) (all_may_end es) h)

initial_step : (os : List Opening) (es : List Ended) (k : ℕ) (d : Opening) (v : Value) (s : RunState) → k < length os
    → slice_get es k ≡ Some (E.Value v)
    → initial (drop k os) (drop k es) s ≡ initial (drop (k + 1) os) (drop (k + 1) es) (set_all (get_or os k d).register v s)
initial_step [] es k d v s h g = absurd (omega (arith, h))
initial_step (p ∷ os) [] k d v s h g = cc
initial_step (p ∷ os) (q ∷ es) zero d v s h g =
    let a : q ≡ E.Value v = cc in
    (λ j. initial (p ∷ os) (a j ∷ es) s)
initial_step (p ∷ os) (q ∷ es) (suc k) d v s h g =
    let b : suc k + 1 ≡ suc (k + 1) = omega arith in
    initial_step os es k d v s (omega (arith, h)) g
    ∙ (λ j. initial (drop (sym b j) (p ∷ os)) (drop (sym b j) (q ∷ es)) (set_all (get_or os k d).register v s))

pub initial_more : (os os1 : List Opening) (es es1 : List Ended) (k : ℕ) (d : Opening) (v : Value) (s s' : RunState) → os1 ≡ os → es1 ≡ es
    → k < length os1 → slice_get es1 k ≡ Some (E.Value v) → s' ≡ set_all (get_or os1 k d).register v s
    → initial (drop k os) (drop k es) s ≡ initial (drop (k + 1) os) (drop (k + 1) es) s'
initial_more os os1 es es1 k d v s s' eo ee h g is =
    initial_step os es k d v s (subst (λ q. k < length q) eo h) (subst (λ q. slice_get q k ≡ Some (E.Value v)) ee g)
    ∙ (λ j. initial (drop (k + 1) os) (drop (k + 1) es) (set_all (get_or (sym eo j) k d).register v s))
    ∙ ap (initial (drop (k + 1) os) (drop (k + 1) es)) (sym is)

none_left : (k : ℕ) (es : List Ended) (s : RunState) → initial (drop k []) es s ≡ initial_ran (E.Value V.Unit) s
none_left zero es s = refl
none_left (suc k) es s = refl

no_ending : (os : List Opening) (s : RunState) → initial os [] s ≡ initial_ran (E.Value V.Unit) s
no_ending [] s = refl
no_ending (o ∷ os) s = refl

pub initial_none : (os : List Opening) (es : List Ended) (k : ℕ) (s : RunState) → slice_get es k ≡ None
    → initial (drop k os) (drop k es) s ≡ initial_ran (E.Value V.Unit) s
initial_none [] es k s g = none_left k (drop k es) s
initial_none (p ∷ os) [] zero s g = refl
initial_none (p ∷ os) [] (suc k) s g = no_ending (drop k os) s
initial_none (p ∷ os) (q ∷ es) zero s g = cc
initial_none (p ∷ os) (q ∷ es) (suc k) s g = initial_none os es k s g

pub initial_stopped : (os : List Opening) (es : List Ended) (k : ℕ) (c : Cause) (s : RunState) → k < length os → slice_get es k ≡ Some (E.Stop c)
    → initial (drop k os) (drop k es) s ≡ initial_ran (E.Stop c) s
initial_stopped [] es k c s h g = absurd (omega (arith, h))
initial_stopped (p ∷ os) [] k c s h g = cc
initial_stopped (p ∷ os) (q ∷ es) zero c s h g = let a : q ≡ E.Stop c = cc in (λ j. initial (p ∷ os) (a j ∷ es) s)
initial_stopped (p ∷ os) (q ∷ es) (suc k) c s h g = initial_stopped os es k c s (omega (arith, h)) g

-- past the last opening
pub initial_all : (os : List Opening) (es : List Ended) (k : ℕ) (s : RunState) → length os ≤ k
    → initial (drop k os) (drop k es) s ≡ initial_ran (E.Value V.Unit) s
initial_all [] es k s h = none_left k (drop k es) s
initial_all (p ∷ os) es zero s h = absurd (omega (arith, h))
initial_all (p ∷ os) [] (suc k) s h = no_ending (drop k os) s
initial_all (p ∷ os) (q ∷ es) (suc k) s h = initial_all os es k s (omega (arith, h))

pub ruleset initials = (initial_none, initial_stopped, initial_all)

-- ---- a register of all harts

-- the harts up to one are changed
abbrev pub changed_to : (Hart → Hart) → ℕ → List Hart → List Hart
changed_to f i hs = map f (take i hs) ++ drop i hs

changed_next : (f : Hart → Hart) (hs : List Hart) (i : ℕ) → i < length hs → changed f i (changed_to f i hs) ≡ changed_to f (i + 1) hs
changed_next f [] i h = absurd (omega (arith, h))
changed_next f (x ∷ hs) zero h = refl
changed_next f (x ∷ hs) (suc i) h =
    let b : suc i + 1 ≡ suc (i + 1) = omega arith in
    ap (λ q. f x ∷ q) (changed_next f hs i (omega (arith, h))) ∙ sym (ap (λ k. changed_to f k (x ∷ hs)) b)

changed_all : (f : Hart → Hart) (hs : List Hart) (i : ℕ) → length hs ≤ i → changed_to f i hs ≡ map f hs
changed_all f [] zero h = refl
changed_all f [] (suc i) h = refl
changed_all f (x ∷ hs) zero h = absurd (omega (arith, h))
changed_all f (x ∷ hs) (suc i) h = ap (λ q. f x ∷ q) (changed_all f hs i (omega (arith, h)))

-- a state whose harts up to one have this value in a register
abbrev pub set_to : ℕ → ℕ → Value → RunState → RunState
set_to i k v state = record state { harts = changed_to (hart_with_register k v) i state.harts }

pub set_next : (before now after : RunState) (i k : ℕ) (v v' : Value) → i < length before.harts → now ≡ set_to i k v before → v' ≡ v
    → after ≡ with_register i k v' now → after ≡ set_to (i + 1) k v before
set_next before now after i k v v' h e ev is =
    is ∙ (λ j. with_register i k (ev j) (e j)) ∙ (λ j. record before { harts = changed_next (hart_with_register k v) before.harts i h j })

pub set_none : (state : RunState) (k : ℕ) (v : Value) → state ≡ set_to 0 k v state
set_none state k v = refl

pub set_whole : (before now : RunState) (i k : ℕ) (v : Value) → length before.harts ≤ i → now ≡ set_to i k v before → now ≡ set_all (Some k) v before
set_whole before now i k v h e = e ∙ (λ j. record before { harts = changed_all (hart_with_register k v) before.harts i h j })
