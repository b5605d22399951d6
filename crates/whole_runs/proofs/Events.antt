-- Obligations give the goals, what instances are read for all other notes; calls and events follow.
use Rattle.std.proofs.Common.{◌≡◌, refl, sym, subst, ap, ℕ, zero, suc, Bool, true, List, [], ◌∷◌, ◌++◌, None, Some, slice_get}
use Rattle.sail_types.specs.Numbers.{Positive}
use Rattle.sail_types.specs.declared.table.Types.{Types}
use Rattle.sail_types.specs.declared.values.Value.{Value}
use Rattle.sail_types.proofs.SumNumbers.{some_same}
use Rattle.model_state.specs.declared.state.Register.{Register}
use Rattle.sail_core.specs.Start.{lets_in, lets_of, nowhere}
use Rattle.sail_core.specs.declared.model.CoreModel.{CoreModel}
use Rattle.sail_core.specs.declared.model.Direction.{Direction}
use Rattle.sail_core.specs.declared.model.Function.{Function}
use Rattle.sail_core.specs.declared.model.Opening.{Opening}
use Rattle.pattern_leaves.specs.Settings.{Around}
use Rattle.pattern_leaves.specs.declared.names.TopLevel.{TopLevel}
use Rattle.function_notes.specs.Functions.{mapping_walk}
use Rattle.constraint_gen.specs.Models.{around_of, around_opening, around_with, lets_behind, names_of}
use Rattle.size_notes.specs.Bodies.{opening_read}
use Rattle.checked_meaning.specs.Checked.{Cases, Checks, checking}
use Rattle.checked_meaning.specs.Fits.{AllFit}
use Rattle.met_notes.specs.Covers.{AreRead, Covers, CoversDirection, CoversFunction, pair_of, side_at}
use Rattle.met_notes.specs.Met.{WalksAreMet, pairs}
use Rattle.met_notes.proofs.Whole.{notes_met}
use Rattle.soundness_steps.specs.Works.{Coverage, Setting, Work, nobody, IsFitted}
use Rattle.soundness_steps.specs.Covers.{AreMet}
use Rattle.soundness_forms.specs.Worlds.{LetsAre}
use Rattle.soundness_calls.specs.Calls.{CoveredModel}
use Rattle.soundness_calls.specs.Directions.{Side, below, is_ahead, is_back, mapping_of}
use Rattle.soundness_calls.specs.Events.{IsOfModel, checks_of}
use Rattle.soundness_calls.proofs.Events.{events_sound}
use Rattle.whole_runs.specs.Initials.{pure_around, pure_setting}
use Rattle.whole_runs.specs.AllOpenings.{OpenedRight}
use Rattle.whole_runs.proofs.Anywhere.{lets_anywhere, lets_told}
use Rattle.whole_runs.proofs.AllOpenings.{openings_sound}
use Rattle.sail_calls.specs.Models as S
use Rattle.sail_calls.proofs.Models.{calls_from}
use Rattle.whole_runs.proofs.Notes.{all_met}
use Rattle.whole_runs.proofs.OpeningsStand.{CoversOpenings, openings_stand}
use Rattle.whole_runs.proofs.Own.{constraint_stands}
use Rattle.whole_runs.specs.Never.{AllEnd, DirectionStands, FunctionStands, IsFound, NeverStuck, Stands, setting_in}

-- ---- what is known of a model behind its top-level lets

pub types_kept : (m : CoreModel) (lets : List TopLevel) (os : List Opening) → (lets_behind (around_with m lets) os).types ≡ m.types
types_kept m lets [] = refl
types_kept m lets (o ∷ os) = types_kept m (lets ++ names_of (around_with m lets) o o.kind) os

pub functions_kept : (m : CoreModel) (lets : List TopLevel) (os : List Opening) → (lets_behind (around_with m lets) os).functions ≡ m.functions
functions_kept m lets [] = refl
functions_kept m lets (o ∷ os) = functions_kept m (lets ++ names_of (around_with m lets) o o.kind) os

pub registers_kept : (m : CoreModel) (lets : List TopLevel) (os : List Opening) → (lets_behind (around_with m lets) os).registers ≡ m.registers
registers_kept m lets [] = refl
registers_kept m lets (o ∷ os) = registers_kept m (lets ++ names_of (around_with m lets) o o.kind) os

directions_kept : (m : CoreModel) (lets : List TopLevel) (os : List Opening) → (lets_behind (around_with m lets) os).directions ≡ m.directions
directions_kept m lets [] = refl
directions_kept m lets (o ∷ os) = directions_kept m (lets ++ names_of (around_with m lets) o o.kind) os

-- it has no variables of a function and no result
abbrev outside : Around → Around
outside around = record around { numbers = []; answer = None }

outside_kept : (m : CoreModel) (lets : List TopLevel) (os : List Opening)
    → outside (lets_behind (around_with m lets) os) ≡ lets_behind (around_with m lets) os
outside_kept m lets [] = refl
outside_kept m lets (o ∷ os) = outside_kept m (lets ++ names_of (around_with m lets) o o.kind) os

-- ---- openings, in a model that has nothing of what is called, whatever names of lets stand before them

module _ (m : CoreModel) (past : Positive) (hart : ℕ) (covered : Coverage) (k : Checks) (rank : ℕ → ℕ)
    (covers : Covers (setting_in m past hart covered) m k rank) where
  abbrev of_names : List TopLevel → Types → Setting
  of_names names types = record {
    around = record (pure_around m [] names) { types = types };
    past = past;
    hart = 0;
    covered = record covered { direction = λ d. true };
  }

  pub openings_covered : CoversOpenings m past covered k
  openings_covered i o at names =
      let notes = (opening_read (around_opening m i) o [] 0).notes in
      subst (λ (types : Types). AreRead (of_names names types) nobody (λ d. true) (k.opening i) notes) (types_kept m [] m.openings)
      (all_met (setting_in m past hart covered) (pure_around m [] names) 0 nobody covered.direction (k.opening i) notes (covers.openings i o at))

-- ---- mappings, of which two directions stand one behind the other

half : ℕ → ℕ
half zero = 0
half (suc zero) = 0
half (suc (suc d)) = suc (half d)

pairs_at : (ds : List Direction) (d : ℕ) (n : Direction) (side : Side) → slice_get ds d ≡ Some n → side_at ds d ≡ Some side
    → slice_get (pairs ds) (half d) ≡ Some (pair_of side n)
unfolding half
pairs_at [] d n side e k = absurd (cc)
pairs_at (a ∷ []) d n side e k = absurd (cc)
pairs_at (a ∷ b ∷ ds) zero n side e k =
    let it : a ≡ n = some_same a n e in
    let other : is_ahead b ≡ side = some_same (is_ahead b) side k in
    λ j. Some (pair_of (other j) (it j))
pairs_at (a ∷ b ∷ ds) (suc zero) n side e k =
    let it : b ≡ n = some_same b n e in
    let other : is_back a ≡ side = some_same (is_back a) side k in
    λ j. Some (pair_of (other j) (it j))
pairs_at (a ∷ b ∷ ds) (suc (suc d)) n side e k = pairs_at ds d n side e k

no_register : (r : ℕ) (x : Register) → slice_get [] r ≡ Some x → ⊥
no_register r x e = cc

module _ (m : CoreModel) (walks : WalksAreMet m (around_of m)) (past : Positive) (hart : ℕ) (covered : Coverage) (k : Checks) (rank : ℕ → ℕ)
    (covers : Covers (setting_in m past hart covered) m k rank) (found : IsFound (setting_in m past hart covered) m)
    (stands : Stands (setting_in m past hart covered) m k rank) (end : AllEnd m k) where
  abbrev set : Setting
  set = setting_in m past hart covered

  -- ---- functions

  function_stands : (x : Work) (f : Function) → set.covered.function x ≡ true → (IsFitted set → AllFit set.around.types x.types x.own)
      → slice_get set.around.functions x.function ≡ Some f → S.FunctionStands set k x f
  function_stands x f is own at =
      let there : slice_get m.functions x.function ≡ Some f =
      subst (λ fs. slice_get fs x.function ≡ Some f) (functions_kept m [] m.openings) at in
      let c : CoversFunction set k x f = covers.functions x f is own there in
      let s : FunctionStands set k x f = stands.functions x f is there in
      record {
        covered = record {
          body = λ nu agree. walks.function x.function f there set x set.covered.direction (k.function x.function x.instance.place nu) (c.body nu agree);
          measure = λ nu agree core e.
              walks.measure x.function f there core e set x set.covered.direction (k.function x.function x.instance.place nu) (c.measure nu agree core e);
          enters = c.enters;
          constraint_stands = constraint_stands set f (found.constraints x.function f there);
        };
        model = s.model;
        body = s.body;
        measure = s.measure;
      }

  -- ---- directions

  side_met : (reached : ℕ → Bool) (cases : Cases) (side : Side) (n : Direction)
      → AreMet set nobody reached cases (mapping_walk (around_of m) (pair_of side n).forwards (pair_of side n).backwards [] 0).notes
      → AreMet set nobody reached cases (mapping_of set side n [] 0).notes
  side_met reached cases (is_ahead o) n h =
      subst (λ a. AreMet set nobody reached cases (mapping_walk a n o [] 0).notes) (sym (outside_kept m [] m.openings)) h
  side_met reached cases (is_back o) n h =
      subst (λ a. AreMet set nobody reached cases (mapping_walk a o n [] 0).notes) (sym (outside_kept m [] m.openings)) h

  direction_there : (d : ℕ) (n : Direction) → slice_get set.around.directions d ≡ Some n → slice_get m.directions d ≡ Some n
  direction_there d n at = subst (λ ds. slice_get ds d ≡ Some n) (directions_kept m [] m.openings) at

  direction_stands : (d : ℕ) (n : Direction) → set.covered.direction d ≡ true → slice_get set.around.directions d ≡ Some n
      → S.DirectionStands set rank k d n
  direction_stands d n is at =
      let there : slice_get m.directions d ≡ Some n = direction_there d n at in
      let side = found.sides d n there in
      let c : CoversDirection set rank k d n side.0 = covers.directions d n side.0 is there side.1 in
      let s : DirectionStands set rank k d n side.0 = stands.directions d n side.0 there side.1 in
      record {
        side = side.0;
        met = side_met (below set rank d) (k.direction d) side.0 n
            (walks.mapping (half d) (pair_of side.0 n) (pairs_at m.directions d n side.0 there side.1) set nobody (below set rank d) (k.direction d)
            c.read);
        takes = c.takes;
        model = s.model;
        ways = s.ways;
        patterns = s.patterns;
      }

  -- ---- top-level lets

  -- in a setting of these types
  abbrev of_types : Types → Setting
  of_types types = record { around = record (pure_around m [] []) { types = types }; past = past; hart = hart; covered = covered }

  in_setting : (names : List TopLevel) (vs : List Value) → LetsAre (of_types (around_of m).types) nobody names vs → LetsAre set nobody names vs
  in_setting [] [] a = tt
  in_setting (l ∷ ls) (v ∷ vs) a = (a.0, in_setting ls vs a.1)
  in_setting [] (v ∷ vs) a = absurd a
  in_setting (l ∷ ls) [] a = absurd a

  pure_lets : (names : List TopLevel) (vs : List Value) → LetsAre (pure_setting m past covered [] []) nobody names vs
      → LetsAre (of_types m.types) nobody names vs
  pure_lets [] [] a = tt
  pure_lets (l ∷ ls) (v ∷ vs) a = (a.0, pure_lets ls vs a.1)
  pure_lets [] (v ∷ vs) a = absurd a
  pure_lets (l ∷ ls) [] a = absurd a

  lets_stand : (x : Work) → LetsAre set x set.around.lets (lets_of (checking (checks_of m k)) m)
  lets_stand x =
      let names : List TopLevel = (around_of m).lets in
      let opens = openings_stand m past covered (checks_of m k) walks (openings_covered m past hart covered k rank covers) stands.openings in
      let right : LetsAre (pure_setting m past covered [] []) nobody names end.0 =
      (subst (OpenedRight m past covered [] names) end.2
      (openings_sound m past covered [] (λ r x e. absurd (no_register r x e)) (checks_of m k) refl opens (nowhere m.types)
      (record { harts = tt; at_work = tt }))).0 in
      let typed : LetsAre (of_types (around_of m).types) nobody names end.0 =
      subst (λ types. LetsAre (of_types types) nobody names end.0) (sym (types_kept m [] m.openings)) (pure_lets names end.0 right) in
      subst (LetsAre set x names) (sym (ap lets_in end.2))
      (lets_anywhere set x names end.0 (lets_told m) (in_setting names end.0 typed))

  all_covered : CoveredModel set k rank (lets_of (checking (checks_of m k)) m)
  all_covered = calls_from set k rank (lets_of (checking (checks_of m k)) m) (record {
    lets_are = lets_stand;
    functions = function_stands;
    directions = direction_stands;
  })

  of_model : IsOfModel set m
  of_model = record {
    types = types_kept m [] m.openings;
    functions = functions_kept m [] m.openings;
    directions = directions_kept m [] m.openings;
  }

pub never : NeverStuck
never m past hart covered k rank held covers found stands end state ok =
    let walks : WalksAreMet m (around_of m) = notes_met m held in
    let set : Setting = setting_in m past hart covered in
    let events = events_sound set m k rank (of_model m walks past hart covered k rank covers found stands end)
    (all_covered m walks past hart covered k rank covers found stands end) state ok in
    (events.0 (found.step covers.step), λ entry. events.1 entry (found.reset covers.reset entry))
