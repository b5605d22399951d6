-- The state in which a run begins has each register of each hart at the zero of its type, which has the type's shape.
use Rattle.std.proofs.Common.{arith, ◌≤ℤ◌, pos, ◌≡◌, ℕ, zero, suc, List, [], ◌∷◌, map, ap, sym, ◌∙◌, refl, subst, replicate, true, Option, Some, None}
use Rattle.std.specs.Prelude.{slice_get, unwrap_or}
use Rattle.sail_types.specs.Belongs.{assigned, no_readings, reading}
use Rattle.sail_types.specs.Limits.{largest}
use Rattle.sail_types.specs.Numbers.{Assignment}
use Rattle.sail_types.specs.Shapes.{at, fits, shape}
use Rattle.sail_types.specs.Zero.{zero_of}
use Rattle.sail_types.specs.declared.shapes.Shape.{Shape}
use Rattle.sail_types.specs.declared.table.Types.{Types}
use Rattle.sail_types.specs.declared.types.Typ.{Typ}
use Rattle.sail_types.specs.declared.values.Value.{Value}
use Rattle.sail_types.specs.declared.values.Value.TheVariants as V
use Rattle.sail_fits.specs.laws.ReadShapes.{read_shapes}
use Rattle.sail_fits.proofs.Belonging.{belonging_fits}
use Rattle.sail_fits.proofs.Filling.{filled_fits}
use Rattle.sail_fits.proofs.Zeroed.{zeros_belong}
use Rattle.model_state.specs.RunState.{fresh_hart, values_of, zero_value}
use Rattle.model_state.specs.declared.state.Hart.{Hart}
use Rattle.model_state.specs.declared.state.Register.{Register}
use Rattle.sail_core.specs.declared.model.CoreModel.{CoreModel}
use Rattle.shape_joins.proofs.JoinsLeast.{none, some_same}
use Rattle.accepted_models.specs.Starts.{FreshStatesAreFit, HaveZeros}

-- an item of a mapped list comes of one of the list
mapped_at : {A B : Type 0} (f : A → B) (xs : List A) (i : ℕ) (y : B) → slice_get (map f xs) i ≡ Some y → (x : A) × (slice_get xs i ≡ Some x) × (f x ≡ y)
mapped_at f [] i y e = none e
mapped_at f (x ∷ xs) zero y e = (x, refl, some_same (f x) y e)
mapped_at f (x ∷ xs) (suc i) y e = mapped_at f xs i y e

at_mapped : {A B : Type 0} (f : A → B) (xs : List A) (i : ℕ) (x : A) → slice_get xs i ≡ Some x → slice_get (map f xs) i ≡ Some (f x)
at_mapped f [] i x e = none e
at_mapped f (y ∷ xs) zero x e = ap (λ z. Some (f z)) (some_same y x e)
at_mapped f (y ∷ xs) (suc i) x e = at_mapped f xs i x e

one_of : {A : Type 0} (n : ℕ) (x : A) (i : ℕ) (y : A) → slice_get (replicate n x) i ≡ Some y → x ≡ y
one_of zero x i y e = none e
one_of (suc n) x zero y e = some_same x y e
one_of (suc n) x (suc i) y e = one_of n x i y e

-- numbers don't matter to a type without variables
one_low : pos 1 ≤ℤ pos 1
one_low = omega arith

one_high : pos 1 ≤ℤ pos largest
unfolding largest
one_high = omega arith

abbrev any : Assignment
any = record { int = λ i. pos 0; bool = λ i. true; beyond = λ t. record { value = pos 1; low = one_low; high = one_high } }

zero_fits : (types : Types) (typ : Typ) (v : Value) → zero_of types typ ≡ Some v → fits types v (shape typ) ≡ true
zero_fits types typ v e =
    filled_fits types v (at (read_shapes no_readings)) (shape typ)
    (belonging_fits types v (reading typ (assigned any []) no_readings) (zeros_belong types typ v any (λ n m. refl) e))

value_fits : (types : Types) (register : Register) (v : Value) → zero_of types register.typ ≡ Some v
    → fits types (zero_value types register) (shape register.typ) ≡ true
value_fits types register v e =
    subst (λ o. fits types (unwrap_or o V.Unit) (shape register.typ) ≡ true) (sym e) (zero_fits types register.typ v e)

module _ (m : CoreModel) (lets : List Shape) (have : HaveZeros m.types m.registers) (harts base : ℕ) (bytes : List ℕ) where
  -- the registers of each hart
  hart_is : (k : ℕ) (h : Hart) → slice_get (replicate harts (fresh_hart m.types m.registers)) k ≡ Some h → h.registers ≡ map (zero_value m.types) m.registers
  hart_is k h e = ap (λ (x : Hart). x.registers) (sym (one_of harts (fresh_hart m.types m.registers) k h e))

  zeros_fit : (r : ℕ) (v : Value) (s : Shape) → slice_get (map (zero_value m.types) m.registers) r ≡ Some v
      → slice_get (map (λ (x : Register). shape x.typ) m.registers) r ≡ Some s → fits m.types v s ≡ true
  zeros_fit r v s e k =
      let x = mapped_at (zero_value m.types) m.registers r v e in
      let y = mapped_at (λ (x : Register). shape x.typ) m.registers r s k in
      let same : x.0 ≡ y.0 = some_same x.0 y.0 (sym x.1 ∙ y.1) in
      let z = have r x.0 x.1 in
      subst (λ u. fits m.types u s ≡ true) x.2
      (subst (λ t. fits m.types (zero_value m.types x.0) t ≡ true) (ap (λ (q : Register). shape q.typ) same ∙ y.2) (value_fits m.types x.0 z.0 z.1))

  registers_of : (hart r : ℕ) (v : Value) (s : Shape) (o : Option Hart) → slice_get (replicate harts (fresh_hart m.types m.registers)) hart ≡ o
      → slice_get (values_of o) r ≡ Some v → slice_get (map (λ (x : Register). shape x.typ) m.registers) r ≡ Some s → fits m.types v s ≡ true
  registers_of hart r v s None is e k = none e
  registers_of hart r v s (Some h) is e k = zeros_fit r v s (ap (λ xs. slice_get xs r) (sym (hart_is hart h is)) ∙ e) k

pub fresh_fit : FreshStatesAreFit
fresh_fit m lets have harts base bytes = record {
  registers = λ hart r v s e k.
      registers_of m lets have harts base bytes hart r v s (slice_get (replicate harts (fresh_hart m.types m.registers)) hart) refl e k;
  there = λ k r vs s e there.
      let h = mapped_at (λ (x : Hart). x.registers) (replicate harts (fresh_hart m.types m.registers)) k vs e in
      let y = mapped_at (λ (x : Register). shape x.typ) m.registers r s there in (
        zero_value m.types y.0,
        ap (λ xs. slice_get xs r) (sym h.2 ∙ hart_is m lets have harts base bytes k h.0 h.1) ∙ at_mapped (zero_value m.types) m.registers r y.0 y.1,
      );
}
