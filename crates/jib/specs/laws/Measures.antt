-- Runs as the calls that are active see them: a measure is compared with that of the nearest active call of its cycle.
use Rattle.std.specs.Prelude.{◌≡◌, ℕ, ◌+◌, ℤ, nat_eq, cond, true, List, [], ◌∷◌, Option, Some, None, slice_get}
use Rattle.sail_base.specs.declared.place.Place.{Place}
use Rattle.sail_types.specs.declared.values.Value.{Value}
use Rattle.model_state.specs.declared.cause.Cause.{Cause}
use Rattle.jib.specs.declared.code.Instruction.TheVariants as I
use Rattle.jib.specs.declared.code.Module.{Module}
use Rattle.jib.specs.Jib.{Slots, Store, Outcome, Gives, Throws, Stops, Here, Go, Jump, Sink, Over, Enter, acts, code_of, cycle_of, put, entry}
use Rattle.jib.specs.Jib.{alone, jib_run}
use Rattle.jib.specs.Valid.{valid}

-- a call that runs: its cycle, and its measure once that is known
pub record Active : Type 0 where
  pub cycle : ℕ
  pub measure : Option ℤ

abbrev pub or_else : Option ℤ → Option ℤ → Option ℤ
or_else None y = y
or_else (Some z) y = Some z

-- the measure of the nearest call of this cycle that has one
abbrev pub nearest : ℕ → List Active → Option ℤ
nearest k [] = None
nearest k (a ∷ as_) = cond (nat_eq a.cycle k) (or_else a.measure (nearest k as_)) (nearest k as_)

-- a call as its function, the place where it was made, and the active calls, itself the first
abbrev pub seen : Module → ℕ → Place → List Active → Here
seen m f place as_ = record { function = f; place = place; measure = nearest (cycle_of m f) as_ }

abbrev pub newly : Module → ℕ → Active
newly m f = record { cycle = cycle_of m f; measure = None }

-- a run as in `Runs`, where the call knows nothing but the active calls
pub data RunsUnder (m : Module) (lets : List Value) (hart : ℕ) : ℕ → Place → Active → List Active → ℕ → Slots → Store → Outcome → Type 0 where
  under_go : {f : ℕ} {from : Place} {a : Active} {as_ : List Active} {pc : ℕ} {slots slots' : Slots} {s s' : Store} {r : Outcome}
      → acts m lets hart (seen m f from (a ∷ as_)) pc slots s ≡ Go slots' s' → RunsUnder m lets hart f from a as_ (pc + 1) slots' s' r
      → RunsUnder m lets hart f from a as_ pc slots s r
  under_jump : {f : ℕ} {from : Place} {a : Active} {as_ : List Active} {pc p label : ℕ} {slots : Slots} {s : Store} {r : Outcome}
      → acts m lets hart (seen m f from (a ∷ as_)) pc slots s ≡ Jump label → slice_get (code_of m f) p ≡ Some (I.Label label)
      → RunsUnder m lets hart f from a as_ p slots s r → RunsUnder m lets hart f from a as_ pc slots s r
  under_sink : {f : ℕ} {from : Place} {a : Active} {as_ : List Active} {pc : ℕ} {z : ℤ} {slots : Slots} {s : Store} {r : Outcome}
      → acts m lets hart (seen m f from (a ∷ as_)) pc slots s ≡ Sink z
      → RunsUnder m lets hart f from (record a { measure = Some z }) as_ (pc + 1) slots s r
      → RunsUnder m lets hart f from a as_ pc slots s r
  under_over : {f : ℕ} {from : Place} {a : Active} {as_ : List Active} {pc : ℕ} {slots : Slots} {s : Store} {r : Outcome}
      → acts m lets hart (seen m f from (a ∷ as_)) pc slots s ≡ Over r → RunsUnder m lets hart f from a as_ pc slots s r
  under_back : {f : ℕ} {from : Place} {a : Active} {as_ : List Active} {pc i g label : ℕ} {place : Place} {vs : List Value} {v : Value}
      {slots : Slots} {s t : Store} {r : Outcome}
      → acts m lets hart (seen m f from (a ∷ as_)) pc slots s ≡ Enter i g vs label place
      → RunsUnder m lets hart g place (newly m g) (a ∷ as_) 0 (entry m g vs) s (Gives v t)
      → RunsUnder m lets hart f from a as_ (pc + 1) (put slots i v) t r → RunsUnder m lets hart f from a as_ pc slots s r
  under_caught : {f : ℕ} {from : Place} {a : Active} {as_ : List Active} {pc p i g label : ℕ} {place : Place} {vs : List Value} {v : Value}
      {slots : Slots} {s t : Store} {r : Outcome}
      → acts m lets hart (seen m f from (a ∷ as_)) pc slots s ≡ Enter i g vs label place
      → RunsUnder m lets hart g place (newly m g) (a ∷ as_) 0 (entry m g vs) s (Throws v t)
      → slice_get (code_of m f) p ≡ Some (I.Label label) → RunsUnder m lets hart f from a as_ p (put slots 0 v) t r
      → RunsUnder m lets hart f from a as_ pc slots s r
  under_stopped : {f : ℕ} {from : Place} {a : Active} {as_ : List Active} {pc i g label : ℕ} {place : Place} {cause : Cause} {vs : List Value}
      {slots : Slots} {s t : Store}
      → acts m lets hart (seen m f from (a ∷ as_)) pc slots s ≡ Enter i g vs label place
      → RunsUnder m lets hart g place (newly m g) (a ∷ as_) 0 (entry m g vs) s (Stops cause t)
      → RunsUnder m lets hart f from a as_ pc slots s (Stops cause t)

abbrev pub ComparesNearest : Type 0
ComparesNearest = (m : Module) → valid m ≡ true → (lets : List Value) (hart f : ℕ) (vs : List Value) (s : Store) (r : Outcome)
    → jib_run m lets hart f vs s r
    → RunsUnder m lets hart f (alone f).place (newly m f) [] 0 (entry m f vs) s r
