-- How pieces end alike on both sides, one behind another.
use Rattle.std.proofs.Common.{◌≡◌, ℕ, zero, suc, List, [], ◌∷◌, map, refl, true, Some}
use Rattle.std.specs.Prelude.{slice_get}
use Rattle.sail_types.specs.Shapes.{fits}
use Rattle.sail_types.specs.declared.shapes.Shape.{Shape}
use Rattle.sail_types.specs.declared.shapes.Shape.TheVariants as V
use Rattle.sail_types.specs.declared.table.Types.{Types}
use Rattle.sail_types.specs.declared.values.Value.{Value}
use Rattle.model_state.specs.declared.state.Hart.{Hart}
use Rattle.model_state.specs.RunState.{hart_with_register, values_of}
use Rattle.sail_core.specs.Run as R
use Rattle.sail_core.specs.Run.{Ended, Local, Now, Run, goes_on}
use Rattle.shape_rules.specs.declared.locals.Local.{Local as ShapeLocal}
use Rattle.shape_meanings.specs.Keeping.{Fits, Good, Keeps, Reach, Suits}
use Rattle.shape_meanings.specs.Whole.{Choice}
use Rattle.shape_meanings.proofs.Spots.{one_fits, set_get}
use Rattle.opening_meanings.specs.Openings.{AreBound, EndsAlike, RegistersStillFit}

-- ---- ends

-- behind the same piece both go on alike
pub goes_alike : {A B C : Type 0} (reach : Reach) (P : A → Type 0) (Q : B → C → Type 0) (e : Ended Value A) (kc : A → Run Value B) (km : A → Run Value C)
    → Keeps reach P e → ((x : A) (now : Now Value) → P x → Good reach now → EndsAlike Q (kc x now) (km x now))
    → EndsAlike Q (goes_on e kc) (goes_on e km)
goes_alike reach P Q (R.Gives x now) kc km k next = next x now k.0 k.1
goes_alike reach P Q (R.No now) kc km k next = tt
goes_alike reach P Q (R.Returns v now) kc km k next = tt
goes_alike reach P Q (R.Throws v now) kc km k next = tt
goes_alike reach P Q (R.Stops cause now) kc km k next = refl
goes_alike reach P Q R.Stuck kc km k next = tt

-- what holds whatever variables stand for
pub each_choice : {A B : Type 0} (Q : Choice → A → B → Type 0) (d : Ended Value A) (e : Ended Value B) → ((c : Choice) → EndsAlike (Q c) d e)
    → EndsAlike (λ a b. (c : Choice) → Q c a b) d e
each_choice Q (R.Gives a here) (R.Gives b there) h = h
each_choice Q d e h = h V.Variable

pub ends_as : {A B : Type 0} (Q P : A → B → Type 0) (d : Ended Value A) (e : Ended Value B) → ((a : A) (b : B) → Q a b → P a b) → EndsAlike Q d e
    → EndsAlike P d e
ends_as Q P (R.Gives a here) (R.Gives b there) to h = to a b h
ends_as Q P d e to h = h

-- ---- names that a let binds

-- with what variables stand for
abbrev pub BoundFor : Types → Choice → List ShapeLocal → List Value → List (Local Value) → Type 0
BoundFor types c [] [] [] = Unit {0}
BoundFor types c (l ∷ ls) (v ∷ vs) (b ∷ bs) = (b.name ≡ l.name) × (b.held ≡ v) × Fits types c l.shape v × BoundFor types c ls vs bs
BoundFor types c ls vs bs = ⊥

pub bound_for : (types : Types) (c : Choice) (ls : List ShapeLocal) (bs : List (Local Value)) → Suits types c ls bs
    → BoundFor types c ls (map (λ (b : Local Value). b.held) bs) bs
bound_for types c [] [] h = tt
bound_for types c [] (b ∷ bs) h = absurd h
bound_for types c (l ∷ ls) [] h = absurd h
bound_for types c (l ∷ ls) (b ∷ bs) h = (h.0, refl, h.1, bound_for types c ls bs h.2)

pub bound_all : (types : Types) (ls : List ShapeLocal) (vs : List Value) (bs : List (Local Value)) → ((c : Choice) → BoundFor types c ls vs bs)
    → AreBound types ls vs bs
bound_all types [] [] [] h = tt
bound_all types (l ∷ ls) (v ∷ vs) (b ∷ bs) h =
    let one = h V.Variable in
    (one.0, one.1, (λ c. (h c).2), bound_all types ls vs bs (λ c. (h c).3))
bound_all types ls vs bs h = absurd (h V.Variable)

-- ---- registers of all harts

abbrev HartsFit : Types → List Shape → List Hart → Type 0
HartsFit types registers harts =
    (hart r : ℕ) (v : Value) (s : Shape) → slice_get (values_of (slice_get harts hart)) r ≡ Some v → slice_get registers r ≡ Some s → fits types v s ≡ true

harts_still_fit : (types : Types) (registers : List Shape) (harts : List Hart) (r : ℕ) (v : Value) (s : Shape) → HartsFit types registers harts
    → slice_get registers r ≡ Some s → fits types v s ≡ true → HartsFit types registers (map (hart_with_register r v) harts)
harts_still_fit types registers [] r v s all there fit hart k u t e is = all hart k u t e is
harts_still_fit types registers (h ∷ hs) r v s all there fit zero k u t e is =
    one_fits types registers h.registers r k v u s t (λ n w x. all 0 n w x) there fit (set_get h.registers r k v u e) is
harts_still_fit types registers (h ∷ hs) r v s all there fit (suc hart) k u t e is =
    harts_still_fit types registers hs r v s (λ n. all (suc n)) there fit hart k u t e is

pub registers_still_fit : RegistersStillFit
registers_still_fit types registers state r v s all there fit = harts_still_fit types registers state.harts r v s all there fit
