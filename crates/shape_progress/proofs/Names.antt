-- Names in scope and registers have values of their shapes: they are read, and what is written to them keeps these shapes.
use Rattle.std.proofs.Common.{◌≡◌, ℕ, zero, suc, List, [], ◌∷◌, map, sym, refl, subst, Option, Some, slice_get, slice_set}
use Rattle.sail_types.specs.Shapes.{put}
use Rattle.sail_types.specs.declared.shapes.Shape.{Shape}
use Rattle.sail_types.specs.declared.shapes.Shape.TheVariants as V
use Rattle.sail_types.specs.declared.values.Value.{Value}
use Rattle.sail_types.specs.declared.values.Value.TheVariants as Val
use Rattle.model_state.specs.declared.state.Hart.{Hart}
use Rattle.model_state.specs.RunState.{register_value, with_register, changed, hart_with_register}
use Rattle.sail_core.specs.Run as R
use Rattle.sail_core.specs.Run.{Now, Ended, needs, held_in, goes_on}
use Rattle.sail_core.specs.Making.{World, plainly, made}
use Rattle.sail_core.specs.Targets.{set_locals, set_variable, write_register, variable_read, register_read}
use Rattle.shape_joins.proofs.JoinsLeast.{some_same, none}
use Rattle.shape_rules.specs.declared.locals.Local.{Local}
use Rattle.shape_rules.specs.Scopes.{local_of}
use Rattle.shape_meanings.specs.Keeping.{Reach}
use Rattle.shape_meanings.proofs.Runs.{in_scope}
use Rattle.shape_meanings.proofs.Spots.{changed_suits, registers_fit}
use Rattle.shape_progress.specs.Going.{Ready, Goes, GoesOn, Has}
use Rattle.shape_progress.proofs.Forms.{unit_fits}
use Rattle.shape_progress.proofs.Parts.{F}
use Rattle.shape_progress.proofs.Registers.{value_there}

-- ---- reading

pub local_goes : (reach : Reach) (w : World Value) (s : Shape) (name : List ℕ) (l : Local) → local_of name reach.slots ≡ Some l → l.shape ≡ s
    → (now : Now Value) → Ready reach w.hart now → Goes reach w (F reach w s) (needs (held_in name now.locals) now)
local_goes reach w s name l is same now ready =
    let r = in_scope reach.types reach.choice reach.slots now.locals name l ready.good.locals is in
    subst (λ (o : Option Value). Goes reach w (F reach w s) (needs o now)) (sym r.1) (subst (λ x. F reach w x r.0) same r.2, ready)

pub after_made : (reach : Reach) (w : World Value) (s : Shape) (e : Ended Value Value) (k : ℕ) (xs : Value → List Value) → Goes reach w (F reach w s) e
    → Goes reach w (F reach w s) (goes_on e (λ x. made plainly k (xs x) x))
after_made reach w s (R.Gives x now) k xs h = h
after_made reach w s (R.No now) k xs h = h
after_made reach w s (R.Returns v now) k xs h = h
after_made reach w s (R.Throws v now) k xs h = h
after_made reach w s (R.Stops cause now) k xs h = tt
after_made reach w s R.Stuck k xs h = absurd h

pub variable_goes : (reach : Reach) (w : World Value) (s : Shape) (k : ℕ) (name : List ℕ) (l : Local) → local_of name reach.slots ≡ Some l → l.shape ≡ s
    → Has reach w s (variable_read plainly k name)
variable_goes reach w s k name l is same now ready =
    after_made reach w s (needs (held_in name now.locals) now) k (λ x. []) (local_goes reach w s name l is same now ready)

-- the hart at work has each register
value_here : (reach : Reach) (w : World Value) (s : Shape) (r : ℕ) (now : Now Value) → slice_get reach.registers r ≡ Some (put reach.choice s)
    → Ready reach w.hart now → (v : Value) × (register_value now.state w.hart r ≡ Some v)
value_here reach w s r now is ready =
    let vs = ready.here r (put reach.choice s) is in
    let v = ready.there w.hart r vs.0 (put reach.choice s) vs.1 is in
    (v.0, value_there now.state.harts w.hart r vs.0 v.0 vs.1 v.1)

pub register_goes : (reach : Reach) (w : World Value) (s : Shape) (k r : ℕ) → slice_get reach.registers r ≡ Some (put reach.choice s)
    → Has reach w s (register_read plainly w k r)
register_goes reach w s k r is now ready =
    let v = value_here reach w s r now is ready in
    after_made reach w s (needs (register_value now.state w.hart r) now) k (λ x. [])
    (subst (λ (o : Option Value). Goes reach w (F reach w s) (needs o now)) (sym v.1)
    (ready.good.state w.hart r v.0 (put reach.choice s) v.1 is, ready))

-- ---- writing

pub set_goes : (reach : Reach) (w : World Value) (s : Shape) (name : List ℕ) (l : Local) (v : Value) → local_of name reach.slots ≡ Some l → l.shape ≡ s
    → F reach w s v → GoesOn reach w (F reach w V.Unit) (set_variable plainly name v)
set_goes reach w s name l v is same fit now ready =
    let r = changed_suits reach.types reach.choice reach.slots now.locals name l v ready.good.locals is (subst (λ x. F reach w x v) (sym same) fit) in
    subst (λ (o : Option (List (R.Local Value))). Goes reach w (F reach w V.Unit) (set_locals plainly now o)) (sym r.1) (
      unit_fits reach.types reach.choice,
      record {
        good = record { locals = r.2; state = ready.good.state };
        here = ready.here;
        there = ready.there;
      },
    )

pub get_set : (vs : List Value) (r k : ℕ) (v u : Value) → slice_get vs k ≡ Some u → (x : Value) × (slice_get (slice_set vs r v) k ≡ Some x)
get_set [] r k v u e = none e
get_set (y ∷ ys) zero zero v u e = (v, refl)
get_set (y ∷ ys) zero (suc k) v u e = (u, e)
get_set (y ∷ ys) (suc r) zero v u e = (y, refl)
get_set (y ∷ ys) (suc r) (suc k) v u e = get_set ys r k v u e

-- the registers of each hart
abbrev regs : List Hart → List (List Value)
regs harts = map (λ (h : Hart). h.registers) harts

-- a hart is there behind a write of one to a register
still_here : (harts : List Hart) (hart r k : ℕ) (v : Value) (vs : List Value) → slice_get (regs harts) k ≡ Some vs
    → (us : List Value) × (slice_get (regs (changed (hart_with_register r v) hart harts)) k ≡ Some us)
still_here [] hart r k v vs e = none e
still_here (h ∷ hs) zero r zero v vs e = (slice_set h.registers r v, refl)
still_here (h ∷ hs) zero r (suc k) v vs e = (vs, e)
still_here (h ∷ hs) (suc hart) r zero v vs e = (h.registers, refl)
still_here (h ∷ hs) (suc hart) r (suc k) v vs e = still_here hs hart r k v vs e

-- and each hart still has each register
abbrev AllThere : List Hart → ℕ → Type 0
AllThere harts n = (k : ℕ) (vs : List Value) → slice_get (regs harts) k ≡ Some vs → (v : Value) × (slice_get vs n ≡ Some v)

still_there : (harts : List Hart) (hart r n : ℕ) (v : Value) → AllThere harts n → AllThere (changed (hart_with_register r v) hart harts) n
still_there [] hart r n v all k vs e = none e
still_there (h ∷ hs) zero r n v all zero vs e =
    let u = all zero h.registers refl in
    subst (λ us. (x : Value) × (slice_get us n ≡ Some x)) (some_same (slice_set h.registers r v) vs e) (get_set h.registers r n v u.0 u.1)
still_there (h ∷ hs) zero r n v all (suc k) vs e = all (suc k) vs e
still_there (h ∷ hs) (suc hart) r n v all zero vs e = all zero vs e
still_there (h ∷ hs) (suc hart) r n v all (suc k) vs e = still_there hs hart r n v (λ i. all (suc i)) k vs e

pub write_goes : (reach : Reach) (w : World Value) (s : Shape) (r : ℕ) (v : Value) → slice_get reach.registers r ≡ Some (put reach.choice s) → F reach w s v
    → GoesOn reach w (F reach w V.Unit) (write_register plainly w r v)
write_goes reach w s r v is fit now ready =
    let old = value_here reach w s r now is ready in
    subst (λ (o : Option Value). Goes reach w (F reach w V.Unit)
    (goes_on (needs o now) (λ old later. R.Gives Val.Unit (record later { state = with_register w.hart r v later.state })))) (sym old.1) (
      unit_fits reach.types reach.choice,
      record {
        good = record {
          locals = ready.good.locals;
          state = registers_fit reach.types reach.registers now.state w.hart r v (put reach.choice s) ready.good.state is fit;
        };
        here = λ n q h.
            let vs = ready.here n q h in
            still_here now.state.harts w.hart r w.hart v vs.0 vs.1;
        there = λ k n vs q e h. still_there now.state.harts w.hart r n v (λ i us f. ready.there i n us q f h) k vs e;
      },
    )
