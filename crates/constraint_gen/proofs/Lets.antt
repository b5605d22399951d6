-- Top-level lets and initial values, and the names of lets, one after the other.
use Rattle.std.proofs.Common.{◌≡◌, ◌∙◌, ap, sym, refl, ℕ, ◌+◌, ◌<◌, ◌≤◌, Bool, List, [], ◌∷◌, ◌++◌, take, drop, length, get_or, map}
use Rattle.std.proofs.Common.{Result, Ok, Err, Some}
use Rattle.std.proofs.Common.{append-nil, append_assoc, drop_of_length-le}
use Rattle.std.specs.Prelude.{IfOk, OnOk, ◌&&◌, slice_get}
use Rattle.std.proofs.lemmas.List.{drop_more, take_all}
use Rattle.sail_base.specs.declared.place.Place.{Place}
use Rattle.model_state.specs.declared.state.Register.{Register}
use Rattle.sail_core.specs.declared.model.CoreModel.{CoreModel}
use Rattle.sail_core.specs.declared.model.Opening.{Opening}
use Rattle.sail_core.specs.declared.model.OpeningKind.{OpeningKind}
use Rattle.sail_core.specs.declared.model.OpeningKind.TheVariants as O
use Rattle.sail_core.specs.declared.patterns.Arm.{Arm}
use Rattle.sail_core.specs.declared.tree.Core.{Core}
use Rattle.value_indices.specs.declared.indices.Indices.{Indices}
use Rattle.value_indices.specs.Steps.{Walk, give}
use Rattle.value_indices.specs.Walking.{Written, begun, got, run}
use Rattle.value_indices.proofs.Walks.{run_bind, run_give}
use Rattle.pattern_leaves.specs.Settings.{Around, Scope}
use Rattle.pattern_leaves.specs.declared.names.Bound.{Bound}
use Rattle.pattern_leaves.specs.declared.names.TopLevel.{TopLevel}
use Rattle.pattern_leaves.proofs.Walked.{then_got, then_run}
use Rattle.function_notes.specs.Patterns.{arm_written}
use Rattle.call_arguments.specs.declared.aims.Aim.{Aim}
use Rattle.function_notes.specs.Expressions.{part}
use Rattle.function_notes.specs.Parts.{Part}
use Rattle.function_notes.specs.Statements.{bind_names, is_written, let_names as bound_by_let, written_aim}
use Rattle.constraint_gen.specs.declared.top_levels.TopLevels.{TopLevels}
use Rattle.constraint_gen.specs.Defined.{AreNames, counts_behind, opening_at}
use Rattle.constraint_gen.specs.Models.{apart, let_walk, let_names, top_level, initial_aim, initial_walk, initial_of, opening_walk, names_of}
use Rattle.constraint_gen.specs.Models.{lets_behind, around_with, around_of, around_opening}

-- ---- a top-level let: its value is walked, then its names are bound

module _ (around : Around) (place : Place) (arm : Arm) (a : Part) (w v : Written) (scope : Scope) (aim : Aim) (i : Indices) (owed : Bool)
    (empty : scope ≡ []) (wanted : aim ≡ written_aim around (arm_written arm)) (owes : owed ≡ is_written (arm_written arm) && a.is_nested)
    (gives : i ≡ got (a.walk around scope aim) w) (walks : v ≡ run (a.walk around scope aim) w) where
  abbrev first : Walk Indices
  first = a.walk around [] (written_aim around (arm_written arm))

  abbrev next : Bool → Indices → Walk (List Bound)
  next = bind_names place arm around

  gives_first : i ≡ got first w
  gives_first = gives ∙ (λ j. got (a.walk around (empty j) (wanted j)) w)

  walks_first : v ≡ run first w
  walks_first = walks ∙ (λ j. run (a.walk around (empty j) (wanted j)) w)

  -- around an opening that knows no more than this
  module _ (outer : Around) (is : around ≡ apart outer) where
    pub let_value : {E : Type 0} (r : Result (List Bound) E) → IfOk r (λ found. found ≡ got (next owed i) v)
        → IfOk r (λ found. found ≡ got (let_walk outer place arm a) w)
    let_value (Ok found) h =
        h ∙ (ap (λ (b : Bool). got (next b i) v) owes
        ∙ (then_got first (next (is_written (arm_written arm) && a.is_nested)) w v i gives_first walks_first
        ∙ ap (λ (s : Around). got (bound_by_let place arm a s []) w) is))
    let_value (Err e) h = tt

    pub let_walked : {A E : Type 0} (r : Result A E) (u : Written) → OnOk r (u ≡ run (next owed i) v) → OnOk r (u ≡ run (let_walk outer place arm a) w)
    let_walked (Ok x) u h =
        h ∙ (ap (λ (b : Bool). run (next b i) v) owes
        ∙ (then_run first (next (is_written (arm_written arm) && a.is_nested)) w v i gives_first walks_first
        ∙ ap (λ (s : Around). run (bound_by_let place arm a s []) w) is))
    let_walked (Err e) u h = tt

-- ---- what stands in an opening, by its kind

module _ (around : Around) (place : Place) (kind : OpeningKind) (a : Part) (w v : Written) where
  pub let_opened : (arm : Arm) → kind ≡ O.Let arm → v ≡ run (let_walk around place arm a) w → v ≡ run (opening_walk around place kind a) w
  let_opened arm is h =
      h ∙ (sym (run_bind (let_walk around place arm a) (λ found. give tt) w ∙ run_give tt (run (let_walk around place arm a) w))
      ∙ ap (λ (k : OpeningKind). run (opening_walk around place k a) w) (sym is))

  pub register_opened : {A E : Type 0} (r : Result A E) (n : ℕ) → kind ≡ O.Register n
      → OnOk r (v ≡ run (initial_of around place (slice_get around.registers n) a) w) → OnOk r (v ≡ run (opening_walk around place kind a) w)
  register_opened (Ok x) n is h = h ∙ ap (λ (k : OpeningKind). run (opening_walk around place k a) w) (sym is)
  register_opened (Err e) n is h = tt

-- an initial value
pub initial_walked : (around inner : Around) (register : Register) (a : Part) (w v : Written) (scope : Scope) (aim : Aim) → inner ≡ apart around
    → scope ≡ [] → aim ≡ initial_aim register → v ≡ run (a.walk inner scope aim) w → v ≡ run (initial_walk around register a) w
initial_walked around inner register a w v scope aim is empty wanted h =
    let own = a.walk (apart around) [] (initial_aim register) in
    h ∙ ((λ j. run (a.walk (is j) (empty j) (wanted j)) w) ∙ sym (run_bind own (λ i. give tt) w ∙ run_give tt (run own w)))

-- ---- names of lets

pub got_begun : {A : Type 0} (walk : Walk A) → got walk (begun 0) ≡ (walk [] 0).value
unfolding got
got_begun walk = refl

pub names_found : (around : Around) (place : Place) (arm : Arm) (value : Core) (w : Written) (found items : List Bound) (k : ℕ) (made : List TopLevel)
    → w ≡ begun 0 → found ≡ got (let_walk around place arm (part value)) w → items ≡ found → length items ≤ k → made ≡ map top_level (take k items)
    → made ≡ let_names around place arm value
names_found around place arm value w found items k made start gives same past h =
    let walk = let_walk around place arm (part value) in
    h ∙ ap (map top_level) (take_all k items past ∙ (same ∙ (gives ∙ (ap (got walk) start ∙ got_begun walk))))

-- ---- one opening after the other

module _ (core : CoreModel) (names : List TopLevel) (os : List Opening) (k : ℕ) (o : Opening) (within : k < length os) (read : o ≡ get_or os k o) where
  rest : drop k os ≡ o ∷ drop (k + 1) os
  rest = drop_more os k o within ∙ ap (λ y. y ∷ drop (k + 1) os) (sym read)

  pub names_next : (new more : List TopLevel) (settings all : Around) → settings ≡ around_with core names → more ≡ names_of settings o o.kind
      → new ≡ names ++ more → lets_behind (around_with core names) (drop k os) ≡ all → lets_behind (around_with core new) (drop (k + 1) os) ≡ all
  names_next new more settings all same found put h =
      ap (λ l. lets_behind (around_with core l) (drop (k + 1) os)) (put ∙ ap (λ m. names ++ m) (found ∙ ap (λ a. names_of a o o.kind) same))
      ∙ (ap (lets_behind (around_with core names)) (sym rest) ∙ h)

  pub counts_next : (new more : List TopLevel) (settings : Around) (counts next all : List ℕ) (n : ℕ) → settings ≡ around_with core names
      → more ≡ names_of settings o o.kind → new ≡ names ++ more → n ≡ length names → next ≡ counts ++ n ∷ []
      → counts ++ counts_behind (around_with core names) (drop k os) ≡ all → next ++ counts_behind (around_with core new) (drop (k + 1) os) ≡ all
  counts_next new more settings counts next all n same found put is one h =
      let own : List TopLevel = names_of (around_with core names) o o.kind in
      let behind : new ≡ names ++ own = put ∙ ap (λ m. names ++ m) (found ∙ ap (λ a. names_of a o o.kind) same) in
      (λ j. one j ++ counts_behind (around_with core (behind j)) (drop (k + 1) os))
      ∙ (append_assoc counts (n ∷ []) (counts_behind (around_with core (names ++ own)) (drop (k + 1) os))
      ∙ (ap (λ (m : ℕ). counts ++ m ∷ counts_behind (around_with core (names ++ own)) (drop (k + 1) os)) is
      ∙ (ap (λ l. counts ++ counts_behind (around_with core names) l) (sym rest) ∙ h)))

pub lets_end : (core : CoreModel) (lets : TopLevels) (os : List Opening) (k : ℕ) → os ≡ core.openings → length os ≤ k
    → lets_behind (around_with core lets.names) (drop k os) ≡ around_of core
    → lets.counts ++ counts_behind (around_with core lets.names) (drop k os) ≡ counts_behind (around_with core []) os → AreNames core lets
lets_end core lets os k same past known counted =
    let none = drop_of_length-le os {i = k} past in
    record {
      names = ap (lets_behind (around_with core lets.names)) (sym none) ∙ known;
      counts = sym (append-nil lets.counts) ∙ (ap (λ l. lets.counts ++ counts_behind (around_with core lets.names) l) (sym none)
          ∙ (counted ∙ ap (counts_behind (around_with core [])) same));
    }

-- ---- an opening where it stands

pub opening_found : {A E : Type 0} (r : Result A E) (core : CoreModel) (i : ℕ) (o : Opening) (around : Around) (w v : Written)
    → slice_get core.openings i ≡ Some o → around ≡ around_opening core i → OnOk r (v ≡ run (opening_walk around o.place o.kind (part o.value)) w)
    → OnOk r (v ≡ run (opening_at (around_opening core i) (slice_get core.openings i)) w)
opening_found (Ok x) core i o around w v there is h =
    h ∙ (λ j. run (opening_at (is j) (sym there j)) w)
opening_found (Err e) core i o around w v there is h = tt
