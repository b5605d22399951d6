-- Openings go on, one after the other, over values of the shapes of the lets before: each binds values of its shapes, or sets a register to one.
use Rattle.std.proofs.Common.{◌≡◌, ℕ, zero, suc, List, [], ◌∷◌, ◌++◌, map, sym, refl, subst, true, Some, slice_get, slice_set}
use Rattle.std.proofs.lemmas.Bool.{and_parts}
use Rattle.sail_types.specs.Shapes.{fits, each_fits, put}
use Rattle.sail_types.specs.declared.shapes.Shape.{Shape}
use Rattle.sail_types.specs.declared.shapes.Shape.TheVariants as V
use Rattle.sail_types.specs.declared.table.Types.{Types}
use Rattle.sail_types.specs.declared.values.Value.{Value}
use Rattle.model_state.specs.RunState.{RunState, hart_with_register, values_of}
use Rattle.model_state.specs.declared.cause.Cause.TheVariants.{MatchFailure}
use Rattle.model_state.specs.declared.state.Hart.{Hart}
use Rattle.sail_core.specs.declared.model.Opening.{Opening}
use Rattle.sail_core.specs.declared.model.OpeningKind.{OpeningKind}
use Rattle.sail_core.specs.declared.model.OpeningKind.TheVariants as O
use Rattle.sail_core.specs.Run as R
use Rattle.sail_core.specs.Run.{Ended, gives, stops, ◌then◌, ◌or_else◌}
use Rattle.sail_core.specs.Making.{World, plainly}
use Rattle.sail_core.specs.Start as S
use Rattle.sail_core.specs.Start.{Added, Opened, after_opening, begun, blank, opening_world, set_all}
use Rattle.shape_joins.proofs.JoinsLeast.{none, some_same}
use Rattle.shape_joins.proofs.Order.{no, two}
use Rattle.shape_rules.specs.declared.locals.Local.{Local}
use Rattle.shape_meanings.specs.Whole.{Choice}
use Rattle.shape_meanings.specs.Keeping.{Fits, FitAll, Reach, Suits}
use Rattle.shape_meanings.proofs.Naming.{closed_is}
use Rattle.shape_meanings.proofs.Spots.{one_fits, set_get}
use Rattle.shape_progress.specs.Checks.{Table, checked, checked_arm}
use Rattle.shape_progress.specs.Going.{Goes, GoesOn, Ready}
use Rattle.shape_progress.proofs.Names.{get_set}
use Rattle.shape_progress.proofs.Nodes.{cores_go_on}
use Rattle.shape_progress.proofs.Patterns.{arms_go_on}
use Rattle.shape_progress.proofs.Runs.{gives_goes, or_goes, then_goes}
use Rattle.model_progress.specs.Checked.{checked_opening, checked_opening_kind, checked_openings}
use Rattle.model_progress.specs.Shaped.{Common, IsInside, OpeningHas, OpeningsHave, common_of, plain_reach}
use Rattle.model_progress.specs.Progress.{IsFit, OpeningsGo, OpeningsGoOn}

-- ---- a register of all harts with another value

abbrev HartsFit : Types → List Shape → List Hart → Type 0
HartsFit types registers harts =
    (hart r : ℕ) (v : Value) (s : Shape) → slice_get (values_of (slice_get harts hart)) r ≡ Some v → slice_get registers r ≡ Some s → fits types v s ≡ true

all_fit : (types : Types) (registers : List Shape) (harts : List Hart) (r : ℕ) (v : Value) (s : Shape) → HartsFit types registers harts
    → slice_get registers r ≡ Some s → fits types v s ≡ true → HartsFit types registers (map (hart_with_register r v) harts)
all_fit types registers [] r v s all there fit other k u q e is = all other k u q e is
all_fit types registers (h ∷ hs) r v s all there fit zero k u q e is =
    one_fits types registers h.registers r k v u s q (λ n x y. all 0 n x y) there fit (set_get h.registers r k v u e) is
all_fit types registers (h ∷ hs) r v s all there fit (suc other) k u q e is = all_fit types registers hs r v s (λ n. all (suc n)) there fit other k u q e is

-- the registers of each hart
abbrev regs : List Hart → List (List Value)
regs harts = map (λ (h : Hart). h.registers) harts

abbrev AllThere : List Hart → ℕ → Type 0
AllThere harts n = (k : ℕ) (vs : List Value) → slice_get (regs harts) k ≡ Some vs → (v : Value) × (slice_get vs n ≡ Some v)

all_there : (harts : List Hart) (r n : ℕ) (v : Value) → AllThere harts n → AllThere (map (hart_with_register r v) harts) n
all_there [] r n v all k vs e = none e
all_there (h ∷ hs) r n v all zero vs e =
    let u = all zero h.registers refl in
    subst (λ us. (x : Value) × (slice_get us n ≡ Some x)) (some_same (slice_set h.registers r v) vs e) (get_set h.registers r n v u.0 u.1)
all_there (h ∷ hs) r n v all (suc k) vs e = all_there hs r n v (λ i. all (suc i)) k vs e

set_fit : (common : Common) (r : ℕ) (v : Value) (s : Shape) (state : RunState) → slice_get common.registers r ≡ Some s → fits common.types v s ≡ true
    → IsFit common state → IsFit common (set_all r v state)
set_fit common r v s state there fit is = record {
  registers = all_fit common.types common.registers state.harts r v s is.registers there fit;
  there = λ k n vs q e h. all_there state.harts r n v (λ i us f. is.there i n us q f h) k vs e;
}

-- ---- one opening

-- what it adds: values of these shapes, and a change that leaves each register with a value of its shape
abbrev AddsFit : Common → List Local → Choice → Added → Type 0
AddsFit common binds c added =
    FitAll common.types c (map (λ l. l.shape) binds) added.values × ((state : RunState) → IsFit common state → IsFit common (added.change state))

held_fit : (types : Types) (c : Choice) (binds : List Local) (found : List (R.Local Value)) → Suits types c binds found
    → FitAll types c (map (λ l. l.shape) binds) (S.values_of plainly found)
held_fit types c [] [] h = refl
held_fit types c [] (b ∷ bs) h = absurd h
held_fit types c (l ∷ ls) [] h = absurd h
held_fit types c (l ∷ ls) (b ∷ bs) h =
    two (fits types b.held (put c l.shape)) (each_fits (map (fits types) (S.values_of plainly bs)) (map (put c) (map (λ l. l.shape) ls))) h.1
    (held_fit types c ls bs h.2)

fit_one : (types : Types) (c : Choice) (s : Shape) (v : Value) → Fits types c s v → FitAll types c (s ∷ []) (v ∷ [])
fit_one types c s v h = two (fits types v (put c s)) true h refl

kind_goes : (common : Common) (t : Table) → t.types ≡ common.types → (before : List Shape) (binds : List Local) (o : Opening) (kind : OpeningKind)
    → OpeningHas common before binds o kind → (c : Choice) (lets : List Value) → FitAll common.types c before lets
    → GoesOn (plain_reach common c) (opening_world lets) (AddsFit common binds c)
    (checked t (opening_world lets) o.value then checked_opening_kind (opening_world lets) o.place kind)
kind_goes common t same before binds o (O.Let arm) h c lets fit =
    let reach : Reach = plain_reach common c in
    let w : World Value = opening_world lets in
    let k = h.1 c lets fit in
    then_goes reach w (Fits common.types c h.0) (AddsFit common binds c) (checked t w o.value) (checked_opening_kind w o.place (O.Let arm))
    (cores_go_on k.0.0 t w reach h.0 o.value same k.0.1)
    (λ v fv. then_goes reach w (Suits common.types c binds) (AddsFit common binds c) (checked_arm w arm (v ∷ []) or_else stops (MatchFailure o.place))
    (λ found. gives (record { values = S.values_of plainly found; change = λ state. state }))
    (or_goes reach w (Suits common.types c binds) (checked_arm w arm (v ∷ [])) (stops (MatchFailure o.place))
    (arms_go_on k.1.0 reach w (h.0 ∷ []) binds arm k.1.1 (v ∷ []) (fit_one common.types c h.0 v fv)) (λ now ready. tt))
    (λ found suits. gives_goes reach w (AddsFit common binds c) (record { values = S.values_of plainly found; change = λ state. state })
    (held_fit common.types c binds found suits, λ state is. is)))
kind_goes common t same before binds o (O.Register r) h c lets fit =
    let reach : Reach = plain_reach common c in
    let w : World Value = opening_world lets in
    let k = h.1.3 c lets fit in
    then_goes reach w (Fits common.types c h.1.0) (AddsFit common binds c) (checked t w o.value) (checked_opening_kind w o.place (O.Register r))
    (cores_go_on k.0 t w reach h.1.0 o.value same k.1)
    (λ v fv. gives_goes reach w (AddsFit common binds c) (record { values = []; change = set_all r v }) (
      subst (λ bs. FitAll common.types c (map (λ l. l.shape) bs) []) (sym h.0) refl,
      λ state is. set_fit common r v h.1.0 state h.1.1 (subst (λ x. fits common.types v x ≡ true) (closed_is h.1.0 c h.1.2) fv) is,
    ))

-- ---- several

begun_ready : (common : Common) (c : Choice) → Ready (plain_reach common c) 0 (begun 0 blank)
begun_ready common c = record {
  good = record { locals = tt; state = λ hart r v s e is. none is };
  here = λ r s is. none is;
  there = λ k r vs s e is. none is;
}

both_fit : (types : Types) (c : Choice) (ss qs : List Shape) (vs us : List Value) → FitAll types c ss vs → FitAll types c qs us
    → FitAll types c (ss ++ qs) (vs ++ us)
both_fit types c [] qs [] us h k = k
both_fit types c [] qs (v ∷ vs) us h k = no h
both_fit types c (s ∷ ss) qs [] us h k = no h
both_fit types c (s ∷ ss) qs (v ∷ vs) us h k =
    let p = and_parts (fits types v (put c s)) (each_fits (map (fits types) vs) (map (put c) ss)) h in
    two (fits types v (put c s)) (each_fits (map (fits types) (vs ++ us)) (map (put c) (ss ++ qs))) p.0 (both_fit types c ss qs vs us p.1 k)

after_goes : (common : Common) (binds : List Local) (before : List Shape) (w : World Value) (e : Ended Value Added) (lets : List Value) (state : RunState)
    (more : List Value → RunState → Opened) → ((c : Choice) → Goes (plain_reach common c) w (AddsFit common binds c) e) → IsInside e
    → ((c : Choice) → FitAll common.types c before lets) → IsFit common state
    → ((ls : List Value) (st : RunState) → ((c : Choice) → FitAll common.types c (before ++ map (λ l. l.shape) binds) ls) → IsFit common st
    → OpeningsGo common (more ls st))
    → OpeningsGo common (after_opening e lets state more)
after_goes common binds before w (R.Gives added now) lets state more g d fit is k =
    k (lets ++ added.values) (added.change state)
    (λ c. both_fit common.types c before (map (λ l. l.shape) binds) lets added.values (fit c) (g c).0.0) ((g (λ i. V.Never)).0.1 state is)
after_goes common binds before w (R.No now) lets state more g d fit is k = absurd d
after_goes common binds before w (R.Returns v now) lets state more g d fit is k = absurd (g (λ i. V.Never)).0
after_goes common binds before w (R.Throws v now) lets state more g d fit is k = absurd d
after_goes common binds before w (R.Stops cause now) lets state more g d fit is k = tt
after_goes common binds before w R.Stuck lets state more g d fit is k = absurd (g (λ i. V.Never))

openings_goes : (common : Common) (t : Table) → t.types ≡ common.types → (os : List Opening) (before : List Shape) → OpeningsHave common before os
    → (lets : List Value) (state : RunState) → ((c : Choice) → FitAll common.types c before lets) → IsFit common state
    → OpeningsGo common (checked_openings t os lets state)
openings_goes common t same [] before h lets state fit is = (λ c. subst (λ ss. FitAll common.types c ss lets) h (fit c), is)
openings_goes common t same (o ∷ os) before h lets state fit is =
    after_goes common h.0 before (opening_world lets) (checked_opening t lets o (begun 0 blank)) lets state (checked_openings t os)
    (λ c. kind_goes common t same before h.0 o o.kind h.1 c lets (fit c) (begun 0 blank) (begun_ready common c))
    (h.2 t lets (begun 0 blank)) fit is
    (λ ls st fits_all fit_state. openings_goes common t same os (before ++ map (λ l. l.shape) h.0) h.3 ls st fits_all fit_state)

pub openings_go_on : OpeningsGoOn
openings_go_on m shapes rank has t same state is =
    openings_goes (common_of m shapes) t same m.openings [] has.openings [] state (λ c. refl) is
