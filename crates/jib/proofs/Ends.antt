-- Each run of ticking code ends.
use Rattle.std.proofs.Common.{◌≡◌, ℕ, zero, suc, ◌+◌, ◌*◌, ◌<◌, ◌≤◌, List, Some, refl}
use Rattle.std.proofs.Common.{arith}
use Rattle.sail_base.specs.declared.place.Place.{Place}
use Rattle.sail_types.specs.declared.values.Value.{Value}
use Rattle.jib.specs.declared.code.Module.{Module}
use Rattle.jib.specs.Jib.{Slots, Store, Outcome, Gives, Throws, Stops, Here, Act, Go, Jump, Sink, Over, Enter, acts, at, put, entry, called}
use Rattle.jib.specs.Jib.{alone, Runs, runs_go, runs_jump, runs_sink, runs_over, runs_back, runs_caught, runs_stopped, jib_run}
use Rattle.jib.proofs.Ticking.{code_at, Targets, Calls, Ticking, Set, weight, limit}
use Rattle.jib.proofs.Falls.{ticks_of, told_at, go_falls, sink_falls, enter_falls, next_falls, target_falls, waiting_weight, call_targets, rest_go}

-- an end that a run comes to, without more ticks than there were
abbrev pub Comes : Module → List Value → ℕ → Here → ℕ → Slots → Store → Type 0
Comes m ls hart h pc sl s = (r : Outcome) × Runs m ls hart h pc sl s r × (ticks_of r ≤ s.ticks)

-- what is left is less than n: then a run comes to an end
abbrev Ending : Module → List Value → ℕ → ℕ → Type 0
Ending m ls hart n = (h : Here) (pc : ℕ) (sl : Slots) (s : Store) → s.ticks * limit m.functions + weight m.functions h.function pc < n
    → Comes m ls hart h pc sl s

fewer_left : (L a b t s n : ℕ) → t ≤ s → a < b → s * L + b < suc n → t * L + a < n
fewer_left L a b t s n le lt h = omega (arith, rest_go a b L s t le lt, h)

by_back : (m : Module) (ls : List Value) (hart : ℕ) → Ticking m.functions → Set m.functions → (n : ℕ) → Ending m ls hart n
    → (h : Here) (pc : ℕ) (sl : Slots) (s : Store) → s.ticks * limit m.functions + weight m.functions h.function pc < suc n →
    (i f l : ℕ) (place : Place) (vs : List Value) → acts m ls hart h pc sl s ≡ Enter i f vs l place
    → Calls (at (code_at m.functions h.function) pc) f l → (q : Outcome) → Runs m ls hart (called m h f place) 0 (entry m f vs) s q
    → ticks_of q ≤ s.ticks → Comes m ls hart h pc sl s
by_back m ls hart tc st n rec h pc sl s lt i f l place vs e c (Gives v t) x le =
    let less : t.ticks * limit m.functions + weight m.functions h.function (pc + 1) < n =
    fewer_left (limit m.functions) (weight m.functions h.function (pc + 1)) (weight m.functions h.function pc) t.ticks s.ticks n le (omega
    (arith, next_falls m.functions h.function pc f l c, waiting_weight m.functions h.function pc)) lt in
    let y = rec h (pc + 1) (put sl i v) t less in
    (y.0, runs_back e x y.1, omega (arith, y.2, le))
by_back m ls hart tc st n rec h pc sl s lt i f l place vs e c (Throws v t) x le =
    let tg : Targets (at (code_at m.functions h.function) pc) l = call_targets (at (code_at m.functions h.function) pc) f l c in
    let p = st.set h.function pc l tg in
    let less : t.ticks * limit m.functions + weight m.functions h.function p.0 < n =
    fewer_left (limit m.functions) (weight m.functions h.function p.0) (weight m.functions h.function pc) t.ticks s.ticks n le (omega
    (arith, target_falls m.functions tc h.function pc p.0 l tg p.1, waiting_weight m.functions h.function pc)) lt in
    let y = rec h p.0 (put sl 0 v) t less in
    (y.0, runs_caught e x p.1 y.1, omega (arith, y.2, le))
by_back m ls hart tc st n rec h pc sl s lt i f l place vs e c (Stops w t) x le = (Stops w t, runs_stopped e x, le)

by_act : (m : Module) (ls : List Value) (hart : ℕ) → Ticking m.functions → Set m.functions → (n : ℕ) → Ending m ls hart n
    → (h : Here) (pc : ℕ) (sl : Slots) (s : Store) → s.ticks * limit m.functions + weight m.functions h.function pc < suc n → (a : Act)
    → acts m ls hart h pc sl s ≡ a → Comes m ls hart h pc sl s
by_act m ls hart tc st n rec h pc sl s lt (Go sl' s') e =
    let y = rec h (pc + 1) sl' s' (omega (arith, go_falls m ls hart h pc sl sl' s s' e, lt)) in
    (y.0, runs_go e y.1, omega (arith, y.2, told_at m ls hart h pc sl s (Go sl' s') e))
by_act m ls hart tc st n rec h pc sl s lt (Jump l) e =
    let tg : Targets (at (code_at m.functions h.function) pc) l = told_at m ls hart h pc sl s (Jump l) e in
    let p = st.set h.function pc l tg in
    let y = rec h p.0 sl s (omega (arith, target_falls m.functions tc h.function pc p.0 l tg p.1, waiting_weight m.functions h.function pc, lt)) in
    (y.0, runs_jump e p.1 y.1, y.2)
by_act m ls hart tc st n rec h pc sl s lt (Sink z) e =
    let y = rec (record h { measure = Some z }) (pc + 1) sl s (omega (arith, sink_falls m ls hart h pc z sl s e, lt)) in
    (y.0, runs_sink e y.1, y.2)
by_act m ls hart tc st n rec h pc sl s lt (Over r) e = (r, runs_over e, told_at m ls hart h pc sl s (Over r) e)
by_act m ls hart tc st n rec h pc sl s lt (Enter i f vs l place) e =
    let c : Calls (at (code_at m.functions h.function) pc) f l = told_at m ls hart h pc sl s (Enter i f vs l place) e in
    let x = rec (called m h f place) 0 (entry m f vs) s (omega (arith, enter_falls m.functions tc h.function pc f l c, lt)) in
    by_back m ls hart tc st n rec h pc sl s lt i f l place vs e c x.0 x.1 x.2

pub ending : (m : Module) (ls : List Value) (hart : ℕ) → Ticking m.functions → Set m.functions → (n : ℕ) → Ending m ls hart n
ending m ls hart tc st zero = λ h pc sl s lt. absurd (omega (arith, lt))
ending m ls hart tc st (suc n) = λ h pc sl s lt. by_act m ls hart tc st n (ending m ls hart tc st n) h pc sl s lt (acts m ls hart h pc sl s) refl

-- each run of a function of ticking code comes to an end
pub ends : (m : Module) (ls : List Value) (hart : ℕ) → Ticking m.functions → Set m.functions → (f : ℕ) (vs : List Value) (s : Store)
    → (r : Outcome) × jib_run m ls hart f vs s r
ends m ls hart tc st f vs s = let y = ending m ls hart tc st (suc (s.ticks * limit m.functions + weight m.functions f 0)) (alone f) 0 (entry m f vs) s
    (omega arith) in (y.0, y.1)
