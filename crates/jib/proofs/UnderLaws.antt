-- Handing the measure on is comparing with the nearest active call of the cycle.
use Rattle.std.proofs.Common.{◌≡◌, ℕ, ◌≤◌, List, [], ◌∷◌, Some, None, refl, sym, ap, ◌∙◌, subst, cond, Bool, true, false}
use Rattle.std.specs.Prelude.{nat_eq, ℤ}
use Rattle.sail_base.specs.declared.place.Place.{Place}
use Rattle.sail_types.specs.declared.values.Value.{Value}
use Rattle.jib.specs.declared.code.Module.{Module}
use Rattle.jib.specs.Jib.{Slots, Store, Outcome, Here, Act, Enter, acts, entry, called}
use Rattle.jib.specs.Jib.{alone, inherited, Runs, runs_go, runs_jump, runs_sink, runs_over, runs_back, runs_caught, runs_stopped, jib_run}
use Rattle.jib.specs.laws.Measures.{Active, or_else, nearest, seen, newly, RunsUnder, under_go, under_jump, under_sink, under_over}
use Rattle.jib.specs.laws.Measures.{under_back, under_caught, under_stopped}
use Rattle.jib.proofs.Ticking.{cycle_at, Falling}
use Rattle.jib.proofs.Falls.{told_at}
use Rattle.jib.proofs.NearestLaws.{From, entered_nearest, sunk_nearest}

-- what a call knows is what the active calls say
record Knows (m : Module) (h : Here) (a : Active) (as_ : List Active) : Type 0 where
  cycle : a.cycle ≡ cycle_at m.functions h.function
  measure : h.measure ≡ nearest a.cycle (a ∷ as_)
  from : From a.cycle as_

as_seen : (m : Module) (ls : List Value) (hart : ℕ) (h : Here) (a : Active) (as_ : List Active) (pc : ℕ) (sl : Slots) (s : Store) (x : Act)
    → Knows m h a as_ → acts m ls hart h pc sl s ≡ x → acts m ls hart (seen m h.function h.place (a ∷ as_)) pc sl s ≡ x
as_seen m ls hart h a as_ pc sl s x k e =
    let near : h.measure ≡ nearest (cycle_at m.functions h.function) (a ∷ as_) = k.measure ∙ ap (λ c. nearest c (a ∷ as_)) k.cycle in
    sym (λ j. acts m ls hart (record { function = h.function; place = h.place; measure = near j }) pc sl s) ∙ e

sunk : (m : Module) (h : Here) (a : Active) (as_ : List Active) (z : ℤ) → Knows m h a as_
    → Knows m (record h { measure = Some z }) (record a { measure = Some z }) as_
sunk m h a as_ z k = record { cycle = k.cycle; measure = sunk_nearest a.cycle z None as_; from = k.from }

entered : (m : Module) (ls : List Value) (hart : ℕ) → Falling m.functions
    → (h : Here) (a : Active) (as_ : List Active) (pc : ℕ) (sl : Slots) (s : Store) (i g l : ℕ) (place : Place) (vs : List Value) → Knows m h a as_
    → acts m ls hart h pc sl s ≡ Enter i g vs l place → Knows m (called m h g place) (newly m g) (a ∷ as_)
entered m ls hart fl h a as_ pc sl s i g l place vs k e =
    let le : cycle_at m.functions g ≤ a.cycle =
    subst (λ c. cycle_at m.functions g ≤ c) (sym k.cycle) (fl.calls h.function pc g l (told_at m ls hart h pc sl s (Enter i g vs l place) e)) in
    record {
      cycle = refl;
      measure = ap (λ c. inherited (nat_eq (cycle_at m.functions g) c) h.measure) (sym k.cycle)
          ∙ entered_nearest (cycle_at m.functions g) a as_ h.measure k.measure k.from le;
      from = (le, k.from);
    }

runs_under : (m : Module) (ls : List Value) (hart : ℕ) → Falling m.functions → {h : Here} {pc : ℕ} {sl : Slots} {s : Store} {r : Outcome}
    → Runs m ls hart h pc sl s r → (a : Active) (as_ : List Active) → Knows m h a as_ → RunsUnder m ls hart h.function h.place a as_ pc sl s r
runs_under m ls hart fl (runs_go {h = h} {pc = pc} {slots = sl}
    {s = s} e x) a as_ k = under_go (as_seen m ls hart h a as_ pc sl s _ k e) (runs_under m ls hart fl x a as_ k)
runs_under m ls hart fl (runs_jump {h = h} {pc = pc} {slots = sl}
    {s = s} e p x) a as_ k = under_jump (as_seen m ls hart h a as_ pc sl s _ k e) p (runs_under m ls hart fl x a as_ k)
runs_under m ls hart fl (runs_sink {h = h} {pc = pc} {z = z} {slots = sl}
    {s = s} e x) a as_ k = under_sink (as_seen m ls hart h a as_ pc sl s _ k e) (runs_under m ls hart fl x (record a
    { measure = Some z }) as_ (sunk m h a as_ z k))
runs_under m ls hart fl (runs_over {h = h} {pc = pc} {slots = sl} {s = s} e) a as_ k = under_over (as_seen m ls hart h a as_ pc sl s _ k e)
runs_under m ls hart fl (runs_back {h = h} {pc = pc} {i = i} {f = f} {label = l} {place = place} {vs = vs} {slots = sl}
    {s = s} e x y) a as_ k = under_back (as_seen m ls hart h a as_ pc sl s _ k e) (runs_under m ls hart fl x (newly m f) (a ∷ as_)
    (entered m ls hart fl h a as_ pc sl s i f l place vs k e)) (runs_under m ls hart fl y a as_ k)
runs_under m ls hart fl (runs_caught {h = h} {pc = pc} {i = i} {f = f} {label = l} {place = place} {vs = vs} {slots = sl}
    {s = s} e x p y) a as_ k = under_caught (as_seen m ls hart h a as_ pc sl s _ k e) (runs_under m ls hart fl x (newly m f) (a ∷ as_)
    (entered m ls hart fl h a as_ pc sl s i f l place vs k e)) p (runs_under m ls hart fl y a as_ k)
runs_under m ls hart fl (runs_stopped {h = h} {pc = pc} {i = i} {f = f} {label = l} {place = place} {vs = vs} {slots = sl}
    {s = s} e x) a as_ k = under_stopped (as_seen m ls hart h a as_ pc sl s _ k e) (runs_under m ls hart fl x (newly m f) (a ∷ as_)
    (entered m ls hart fl h a as_ pc sl s i f l place vs k e))

nothing : (b : Bool) → None ≡ cond b (or_else None None) None
nothing true = refl
nothing false = refl

-- so it is for a run that no call made
pub jib_under : (m : Module) (ls : List Value) (hart : ℕ) → Falling m.functions → (f : ℕ) (vs : List Value) (s : Store) (r : Outcome)
    → jib_run m ls hart f vs s r → RunsUnder m ls hart f (alone f).place (newly m f) [] 0 (entry m f vs) s r
jib_under m ls hart fl f vs s r x = runs_under m ls hart fl x (newly m f) [] (record
    { cycle = refl; measure = nothing (nat_eq (cycle_at m.functions f) (cycle_at m.functions f)); from = tt })
