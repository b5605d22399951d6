-- What names that are assigned stand for: a `var`, or a register of the hart at work.
use Rattle.std.proofs.Common.{◌≡◌, ℕ, zero, suc, List, [], ◌∷◌, ap, sym, ◌∙◌, refl, subst, Bool, true, false, Option, Some, None, if◌then◌else◌}
use Rattle.std.proofs.Common.{slice_get, slice_set, ◌⊎◌, inl, inr}
use Rattle.std.specs.Str.{bytes_eq}
use Rattle.sail_types.specs.Shapes.{fits, put}
use Rattle.sail_types.specs.declared.shapes.Shape.{Shape}
use Rattle.sail_types.specs.declared.shapes.Shape.TheVariants as V
use Rattle.sail_types.specs.declared.table.Types.{Types}
use Rattle.sail_types.specs.declared.values.Value.{Value}
use Rattle.sail_types.specs.declared.values.Value.TheVariants as Val
use Rattle.model_state.specs.declared.state.Hart.{Hart}
use Rattle.model_state.specs.RunState.{RunState, register_value, with_register, values_of, changed, hart_with_register}
use Rattle.sail_core.specs.Run as R
use Rattle.sail_core.specs.Run.{Ended, needs, changed_in, kept, local, goes_on, ◌then◌}
use Rattle.sail_core.specs.Making as Core
use Rattle.sail_core.specs.Making.{plainly}
use Rattle.sail_core.specs.Targets as Spotted
use Rattle.shape_joins.specs.Filling.{fills}
use Rattle.shape_joins.proofs.JoinsLeast.{some_same, none}
use Rattle.sail_meaning.specs.World as Source
use Rattle.sail_meaning.specs.Targets.{name_write, local_changed, register_write}
use Rattle.shape_rules.specs.declared.locals.Local.{Local}
use Rattle.shape_rules.specs.declared.callees.Meant.TheVariants as M
use Rattle.shape_rules.specs.Scopes.{Setting, Locals, local_of}
use Rattle.shape_meanings.specs.Whole.{Choice, IsSettled}
use Rattle.shape_meanings.specs.Keeping.{Fits, Suits, SeenAs, RegistersFit, Reach, reach_of, Keeps}
use Rattle.shape_meanings.specs.Worlds.{Describes, ValueAs}
use Rattle.shape_meanings.specs.Aims.{WritesAs}
use Rattle.shape_meanings.proofs.Orders.{exact}
use Rattle.shape_meanings.proofs.Runs.{in_scope}
use Rattle.shape_meanings.proofs.Naming.{closed_is, register_closed}
use Rattle.shape_meanings.proofs.Tests.{unit_fits}

-- ---- what is written keeps shapes

-- a value that fits a shape above a settled one has the settled one, where that has a value
pub settled_fits : (types : Types) (c : Choice) (s t : Shape) (u v : Value) → IsSettled types s → fills s t ≡ true → Fits types c s u → Fits types c t v
    → Fits types c s v
settled_fits types c s t u v (inl n) above there h = subst (λ x. Fits types c x v) (exact s t n.0 above n.1) h
settled_fits types c s t u v (inr nothing) above there h = absurd (true_false (sym there ∙ nothing c u))
  where
    true_false : true ≡ false → ⊥
    true_false h = cc

-- the innermost local of a name bound to another value
abbrev Changed : Types → Choice → List Local → Option (List (R.Local Value)) → Type 0
Changed types c slots o = (bound : List (R.Local Value)) × (o ≡ Some bound) × Suits types c slots bound

changed_if : (types : Types) (c : Choice) (b : Bool) (s : Local) (ss : List Local) (first : R.Local Value) (rest : List (R.Local Value)) (v : Value)
    (o : Option Local) (l : Local) (p : Option (List (R.Local Value)))
    → first.name ≡ s.name → Fits types c s.shape first.held → Suits types c ss rest → Fits types c l.shape v
    → (o ≡ Some l → Changed types c ss p) → (if b then Some s else o) ≡ Some l
    → Changed types c (s ∷ ss) (if b then Some (local first.name v ∷ rest) else kept first p)
changed_if types c true s ss first rest v o l p same held suits fit later e =
    (local first.name v ∷ rest, refl, (same, subst (λ (x : Local). Fits types c x.shape v) (sym (some_same s l e)) fit, suits))
changed_if types c false s ss first rest v o l p same held suits fit later e =
    let r = later e in
    (first ∷ r.0, ap (kept first) r.1, (same, held, r.2))

pub changed_suits : (types : Types) (c : Choice) (slots : List Local) (bound : List (R.Local Value)) (name : List ℕ) (l : Local) (v : Value)
    → Suits types c slots bound → local_of name slots ≡ Some l → Fits types c l.shape v
    → (after : List (R.Local Value)) × (changed_in name v bound ≡ Some after) × Suits types c slots after
changed_suits types c [] [] name l v h e fit = none e
changed_suits types c [] (b ∷ bs) name l v h e fit = absurd h
changed_suits types c (s ∷ ss) [] name l v h e fit = absurd h
changed_suits types c (s ∷ ss) (b ∷ bs) name l v h e fit =
    subst (λ n. Changed types c (s ∷ ss) (if bytes_eq n name then Some (local b.name v ∷ bs) else kept b (changed_in name v bs))) (sym h.0)
    (changed_if types c (bytes_eq s.name name) s ss b bs v (local_of name ss) l (changed_in name v bs) h.0 h.1 h.2 fit
    (λ is. changed_suits types c ss bs name l v h.2 is fit) e)

absent_if : (b : Bool) (s : Local) (first : R.Local Value) (rest : List (R.Local Value)) (v : Value) (o : Option Local) (p : Option (List (R.Local Value)))
    → (o ≡ None → p ≡ None) → (if b then Some s else o) ≡ None → (if b then Some (local first.name v ∷ rest) else kept first p) ≡ None
absent_if true s first rest v o p later e = none (sym e)
absent_if false s first rest v o p later e = ap (kept first) (later e)

pub unchanged : (types : Types) (c : Choice) (slots : List Local) (bound : List (R.Local Value)) (name : List ℕ) (v : Value) → Suits types c slots bound
    → local_of name slots ≡ None → changed_in name v bound ≡ None
unchanged types c [] [] name v h e = refl
unchanged types c [] (b ∷ bs) name v h e = absurd h
unchanged types c (s ∷ ss) [] name v h e = absurd h
unchanged types c (s ∷ ss) (b ∷ bs) name v h e =
    ap (λ n. if bytes_eq n name then Some (local b.name v ∷ bs) else kept b (changed_in name v bs)) h.0
    ∙ absent_if (bytes_eq s.name name) s b bs v (local_of name ss) (changed_in name v bs) (unchanged types c ss bs name v h.2) e

-- ---- registers

abbrev HartsFit : Types → List Shape → List Hart → Type 0
HartsFit types registers harts =
    (hart r : ℕ) (v : Value) (s : Shape) → slice_get (values_of (slice_get harts hart)) r ≡ Some v → slice_get registers r ≡ Some s → fits types v s ≡ true

pub set_get : (vs : List Value) (r k : ℕ) (v u : Value) → slice_get (slice_set vs r v) k ≡ Some u → ((r ≡ k) × (v ≡ u)) ⊎ (slice_get vs k ≡ Some u)
set_get [] r k v u e = none e
set_get (x ∷ xs) zero zero v u e = inl (refl, some_same v u e)
set_get (x ∷ xs) zero (suc k) v u e = inr e
set_get (x ∷ xs) (suc r) zero v u e = inr e
set_get (x ∷ xs) (suc r) (suc k) v u e = further (set_get xs r k v u e)
  where
    further : ((r ≡ k) × (v ≡ u)) ⊎ (slice_get xs k ≡ Some u) → ((suc r ≡ suc k) × (v ≡ u)) ⊎ (slice_get xs k ≡ Some u)
    further (inl p) = inl (ap suc p.0, p.1)
    further (inr q) = inr q

pub one_fits : (types : Types) (registers : List Shape) (vs : List Value) (r k : ℕ) (v u : Value) (s t : Shape)
    → ((n : ℕ) (w : Value) (x : Shape) → slice_get vs n ≡ Some w → slice_get registers n ≡ Some x → fits types w x ≡ true)
    → slice_get registers r ≡ Some s → fits types v s ≡ true → ((r ≡ k) × (v ≡ u)) ⊎ (slice_get vs k ≡ Some u) → slice_get registers k ≡ Some t
    → fits types u t ≡ true
one_fits types registers vs r k v u s t all there fit (inl p) is =
    subst (λ w. fits types w t ≡ true) p.1
    (subst (λ x. fits types v x ≡ true) (some_same s t (sym there ∙ ap (slice_get registers) p.0 ∙ is)) fit)
one_fits types registers vs r k v u s t all there fit (inr q) is = all k u t q is

harts_fit : (types : Types) (registers : List Shape) (harts : List Hart) (hart r : ℕ) (v : Value) (s : Shape) → HartsFit types registers harts
    → slice_get registers r ≡ Some s → fits types v s ≡ true → HartsFit types registers (changed (hart_with_register r v) hart harts)
harts_fit types registers [] hart r v s all there fit other k u t e is = all other k u t e is
harts_fit types registers (h ∷ hs) zero r v s all there fit zero k u t e is =
    one_fits types registers h.registers r k v u s t (λ n w x. all 0 n w x) there fit (set_get h.registers r k v u e) is
harts_fit types registers (h ∷ hs) zero r v s all there fit (suc other) k u t e is = all (suc other) k u t e is
harts_fit types registers (h ∷ hs) (suc hart) r v s all there fit zero k u t e is = all 0 k u t e is
harts_fit types registers (h ∷ hs) (suc hart) r v s all there fit (suc other) k u t e is =
    harts_fit types registers hs hart r v s (λ n. all (suc n)) there fit other k u t e is

pub registers_fit : (types : Types) (registers : List Shape) (state : RunState) (hart r : ℕ) (v : Value) (s : Shape) → RegistersFit types registers state
    → slice_get registers r ≡ Some s → fits types v s ≡ true → RegistersFit types registers (with_register hart r v state)
registers_fit types registers state hart r v s all there fit = harts_fit types registers state.harts hart r v s all there fit

-- ---- writing

pub variable_writes : (setting : Setting) (locals : Locals) (name : List ℕ) (l : Local) → local_of name locals ≡ Some l → IsSettled setting.types l.shape
    → (registers : List Shape) (c : Choice) (wc : Core.World Value) (ws : Source.World) (slots : List Local) → SeenAs slots locals
    → WritesAs (reach_of setting registers c slots) l.shape V.Unit (Spotted.set_variable plainly name) (name_write ws name)
variable_writes setting locals name l is settled registers c wc ws slots seen t above v fit now good =
    let here = seen name ∙ is in
    let u = in_scope setting.types c slots now.locals name l good.locals here in
    let r = changed_suits setting.types c slots now.locals name l v good.locals here (settled_fits setting.types c l.shape t u.0 v settled above u.2 fit) in
    let end : Ended Value Value = R.Gives Val.Unit (record now { locals = r.0 }) in (
      ap (Spotted.set_locals plainly now) r.1 ∙ sym (ap (λ o. local_changed ws name v o now) r.1),
      subst (Keeps (reach_of setting registers c slots) (Fits setting.types c V.Unit)) (sym (ap (λ o. local_changed ws name v o now) r.1))
          (unit_fits setting c, record { locals = r.2; state = good.state }),
    )

pub register_writes : (setting : Setting) (locals : Locals) (name : List ℕ) (r : ℕ) (s : Shape) → local_of name locals ≡ None
    → setting.value name ≡ Some (M.Register r s)
    → (registers : List Shape) (c : Choice) (wc : Core.World Value) (ws : Source.World) → Describes setting registers wc ws
    → (slots : List Local) → SeenAs slots locals
    → WritesAs (reach_of setting registers c slots) s V.Unit (Spotted.write_register plainly wc r) (name_write ws name)
register_writes setting locals name r s absent meant registers c wc ws d slots seen t above v fit now good =
    let reach : Reach = reach_of setting registers c slots in
    let value = subst (ValueAs setting registers wc ws name) meant (d.values name) in
    let is_closed = register_closed registers r s d.closed_registers value.2 in
    let same : put c t ≡ s = ap (put c) (exact s t 0 above is_closed) ∙ closed_is s c is_closed in
    let source : name_write ws name v now ≡ register_write ws v r now =
    ap (λ o. local_changed ws name v o now) (unchanged setting.types c slots now.locals name v good.locals (seen name ∙ absent))
    ∙ ap (λ o. goes_on (needs o now) (register_write ws v)) value.1 in (
      (λ i. written_at (d.hart i)) ∙ sym source,
      subst (Keeps reach (Fits setting.types c V.Unit)) (sym source)
          (kept_by (register_value now.state ws.hart r) value.2 (subst (λ x. fits setting.types v x ≡ true) same fit)),
    )
  where
    written_at : ℕ → Ended Value Value
    written_at hart = goes_on (needs (register_value now.state hart r) now)
        (λ old later. R.Gives Val.Unit (record later { state = with_register hart r v later.state }))

    kept_by : (o : Option Value) → slice_get registers r ≡ Some s → fits setting.types v s ≡ true
        → Keeps (reach_of setting registers c slots) (Fits setting.types c V.Unit)
        (goes_on (needs o now) (λ old later. R.Gives Val.Unit (record later { state = with_register ws.hart r v later.state })))
    kept_by None there fits_s = tt
    kept_by (Some old) there fits_s = (
      unit_fits setting c,
      record { locals = good.locals; state = registers_fit setting.types registers now.state ws.hart r v s good.state there fits_s },
    )
