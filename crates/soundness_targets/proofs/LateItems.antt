-- A part of what a call gives, as a part of a tuple: where the walk is wrong, nothing is written.
use Rattle.std.proofs.Common.{◌≡◌, ◌∙◌, ℕ, Bool, true, false, List, [], ◌∷◌, drop, if◌then◌else◌, length, take, Option, Some, None, refl, sym, subst}
use Rattle.sail_base.specs.declared.place.Place.{Place}
use Rattle.sail_core.specs.Making.{World}
use Rattle.sail_core.specs.Run.{Now, Run, goes_on, in_turn, ◌then◌}
use Rattle.sail_core.specs.Targets as Runs
use Rattle.sail_core.specs.Targets.{part_spot, target_meaning, ways_of}
use Rattle.sail_core.specs.Values.{Into}
use Rattle.sail_core.specs.declared.targets.Caller.{Caller}
use Rattle.sail_core.specs.declared.targets.Suffix.{Suffix}
use Rattle.sail_core.specs.declared.targets.TargetKind.TheVariants as T
use Rattle.value_indices.specs.Steps.{Walk, bind, give, next_variable, scoped}
use Rattle.value_indices.specs.declared.indices.Indices.{Indices}
use Rattle.value_indices.specs.declared.notes.Fact.{Fact}
use Rattle.value_fits.specs.Fitting.{says}
use Rattle.pattern_leaves.specs.Settings.{Scope}
use Rattle.call_arguments.specs.Holes.{value_has_hole}
use Rattle.call_notes.specs.Calls.{callee_types}
use Rattle.call_notes.specs.Ends.{wrong_value}
use Rattle.expression_forms.specs.Spots as Walked
use Rattle.expression_forms.specs.Spots.{Spot, call_spot, wrong_spot, wrong_write}
use Rattle.expression_steps.specs.Calls.{argument_aims, nestings}
use Rattle.expression_steps.specs.Parts.{Part, each_walk}
use Rattle.expression_steps.specs.Targets.{Spotted, call_spotted, each_late, is_short, kind_spot, no_spot, part_within, read_ahead, spotted, then_spot}
use Rattle.checked_meaning.specs.Items.{Item}
use Rattle.fitting_laws.specs.Fitting.{Suffices}
use Rattle.fitting_laws.proofs.Joining.{says_so}
use Rattle.value_laws.specs.Known.{Point}
use Rattle.soundness_steps.specs.Points.{Later}
use Rattle.soundness_steps.proofs.Points.{later_on}
use Rattle.soundness_steps.specs.States.{Sound}
use Rattle.soundness_steps.specs.Steps.{AllMet, Beside, Stands, Walks}
use Rattle.soundness_steps.specs.Works.{Scene, here}
use Rattle.soundness_steps.proofs.Steps.{means, met_behind, met_front, walks_on, walks_then}
use Rattle.soundness_forms.specs.Calls.{CalleeFits}
use Rattle.soundness_forms.specs.Forms.{AllFine, FitsSuffice}
use Rattle.soundness_forms.specs.Mappings.{MappingsClosed}
use Rattle.soundness_forms.specs.Worlds.{Surrounds}
use Rattle.soundness_forms.proofs.Basics.{wrong_alone, wrong_walks}
use Rattle.soundness_forms.proofs.Parts.{EachIs, each_fine}
use Rattle.soundness_forms.proofs.Worlds.{surrounds_on}
use Rattle.soundness_parts.proofs.SliceSteps.{under}
use Rattle.soundness_values.specs.Named.{TypesNarrow}
use Rattle.soundness_parts.proofs.Taken.{z}
use Rattle.soundness_values.proofs.Mappings.{arguments_steady}
use Rattle.soundness_values.proofs.NamedKinds.{all_taken}
use Rattle.soundness_targets.proofs.CallTargets.{all_dropped}
use Rattle.soundness_targets.proofs.FoundTargets.{OneFound}
use Rattle.soundness_targets.proofs.LateFinds.{given_first, late_found_there, walks_same}
use Rattle.soundness_targets.proofs.LateModes.{held, own_place}
use Rattle.soundness_targets.proofs.LateTarget.{hole_found}
use Rattle.soundness_targets.proofs.Trees.{Ends, There, Trees, both_paths, ends_made, ends_then, one_path, well_ends}
use Rattle.soundness_targets.proofs.TupleGrowth.{wrong_write_grows}
use Rattle.soundness_targets.proofs.TupleWrites.{Meets}
use Rattle.soundness_targets.proofs.Written.{Says, Written}

-- ---- a spot at which all is wrong

module _ (q : Scene) {n : ℕ} (f : Point n) (p : Place) {P : Type 0} (view : P → Runs.Spot Item) where
  pub wrong_left : (facts : List Fact) (c : ℕ) → (wrong_write p facts c).value.left ≡ says []
  unfolding bind give
  wrong_left facts c = refl

  pub none_written : {c : ℕ} {g : Point c} {gs : List Fact} (nested : Bool) (i : Indices) → Walks q c g gs ((wrong_spot p).write nested i) (λ b h a. ⊥)
  none_written nested i = walks_on Walked.gives (wrong_walks p) (λ b h gs a l e. absurd e)

  pub wrong_writes : (nested : Bool) (i : Indices) (gs : List Fact) (d : ℕ) (U : Trees) (Said : U.Path → Point d → Type 0) (now : Now Item)
      → AllMet q ((wrong_spot p).write nested i gs d).notes → U.Tree (λ r. There q f d gs (Said r) now) → ⊥
  wrong_writes nested i gs d U Said now met tree =
      let some = (U.pick {P = λ r. There q f d gs (Said r) now} tree).1 in
      ((none_written {g = some.point} nested i).go now.opened some.stands met).holds

  abbrev pub wrong_mode : Written q f (wrong_spot p)
  wrong_mode = record {
    T = one_path;
    P = P;
    view = view;
    Ready = λ v m g fs x. Unit {0};
    on = λ v m d g h fs gs x l e rd. tt;
    typed = λ v m g fs x rd. (true, refl);
    grows = λ v m g fs x rd nested i. (wrong_write_grows p nested i).0;
    left_same = λ v m g fs x rd nested i facts k. wrong_left facts k ∙ sym (wrong_left [] 0);
    Due = λ v m g fs x rd nested i u c. Unit {0};
    due_on = λ v m d g h fs gs x l e rd nested i u c due. tt;
    suffice = λ v m g fs x rd nested i u meet k c l.
        subst (λ left. Suffices q.set.past k c (left k) (λ e. Unit {0})) (sym (wrong_left [] 0)) (says_so [] (λ e a s. tt));
    writes = λ nested i gs d x u last U Keep stays le met now ok tree. absurd (wrong_writes nested i gs d (both_paths one_path U)
        (λ v g. Unit {0} × Meets q g (wrong_spot p) nested i u × Says q last gs g (λ k. Unit {0}) × Keep v.1 d g) now met tree);
  }

-- ---- where what is behind the arguments is wrong

module _ (q : Scene) (w : World Item) (scope : Scope) (at : Place) (k : ℕ) (r : Suffix) (ss : List Suffix) (base_at : Place) (kb count : ℕ)
    (reader : Option Caller) (writer : Caller) {n : ℕ} (f : Point n) (m : ℕ) (fs : List Fact) (ps : List Part) where
  abbrev pub args : Walk (List Indices)
  args = each_walk (take count ps) (here q) scope (argument_aims (callee_types (here q) writer.callee))

  abbrev pub at_a : ℕ
  at_a = (args fs m).next

  abbrev pub facts_a : List Fact
  facts_a = (args fs m).facts

  abbrev pub left : List Part
  left = drop count ps

  abbrev pub base_for : List Indices → Spot
  base_for js = call_spot (here q) base_at kb reader writer (nestings (take count ps)) js

  abbrev pub behind_args : List Indices → Walk (Option Spotted)
  behind_args js = part_within at k (r ∷ ss) (here q) scope (base_for js) left

  abbrev pub target_walk : Walk (Option Spotted)
  target_walk = kind_spot at k (T.Part (r ∷ ss)) (kind_spot base_at kb (T.Call count reader writer) [] ∷ []) (here q) scope ps

  pub walk_is : target_walk ≡ bind args behind_args
  walk_is =
      walks_same args (call_spotted (here q) base_at kb count reader writer ps) (then_spot (part_within at k (r ∷ ss) (here q) scope))
      ∙ (λ j. bind args (λ js. given_first (spotted (base_for js) left) (then_spot (part_within at k (r ∷ ss) (here q) scope)) j))

  -- ---- the run

  abbrev pub Ran : Type 0
  Ran = List Item × List Into

  abbrev pub found_run : Runs.Spotting Item Ran
  found_run us = in_turn (take count us) then λ xs. ways_of (z q) (r ∷ ss) (drop count us) then λ t. Runs.spotted (xs, t.found) t.left

  abbrev pub target_run : Runs.Spotting Item (Runs.Spot Item)
  target_run = target_meaning (z q) w at k (T.Part (r ∷ ss)) (target_meaning (z q) w base_at kb (T.Call count reader writer) [] ∷ [])

  abbrev pub spot_run : Ran → Runs.Spot Item
  spot_run p = part_spot (z q) k (Runs.call_spot (z q) w base_at kb reader writer p.0) p.1

  pub same_run : (us : List (Run Item Item)) (now : Now Item) → target_run us now ≡ goes_on (found_run us now) (λ t. Runs.spotted (spot_run t.found) t.left)
  same_run us now =
      under (in_turn (take count us) now) _ _ (λ b. ways_of (z q) (r ∷ ss) b.left then λ ways. Runs.spotted (part_spot (z q) k b.found ways.found) ways.left)
      (λ xs n1. refl)
      ∙ sym (under (in_turn (take count us) now) (λ xs. ways_of (z q) (r ∷ ss) (drop count us) then λ t. Runs.spotted (xs, t.found) t.left)
      (λ xs. ways_of (z q) (r ∷ ss) (drop count us) then λ t. Runs.spotted (spot_run (xs, t.found)) t.left)
      (λ t. Runs.spotted (spot_run t.found) t.left) (λ xs n1.
      under (ways_of (z q) (r ∷ ss) (drop count us) n1) _ _ (λ t. Runs.spotted (spot_run t.found) t.left) (λ t n2. refl)))

  abbrev pub Begins : {c : ℕ} → Point c → Now Item → List Item → Type 0
  Begins g now xs =
      There q g at_a facts_a (λ h. EachIs q.set q.work h (take count ps) (argument_aims (callee_types (here q) writer.callee)) (args fs m).value xs) now

  -- ---- where what is found is wrong

  abbrev pub WrongBehind : Place → {c : ℕ} → Point c → Option Spotted → Runs.Spotted Item (List Into) → Type 0
  WrongBehind p h o t = (more : List Part) × (o ≡ spotted (wrong_spot p) more) × AllFine q w more t.left

  abbrev pub WrongAt : Place → Type 0
  WrongAt p = (xs : List Item) (us : List (Run Item Item)) (h : Point at_a) → AllFine q w left (drop count us) → Surrounds q w h scope
      → EachIs q.set q.work h (take count ps) (argument_aims (callee_types (here q) writer.callee)) (args fs m).value xs
      → Beside q at_a h facts_a (behind_args (args fs m).value) (ways_of (z q) (r ∷ ss) (drop count us)) (λ b e o t. WrongBehind p e o t)

  module _ (p : Place) (wrong : WrongAt p) where
    abbrev pub FoundThere : Walk (Option Spotted) → List Fact → ℕ → {c : ℕ} → Point c → Runs.Spotted Item Ran → Now Item → Type 0
    FoundThere walk gs b g t after =
        There q g (walk gs b).next (walk gs b).facts (λ h. (more : List Part) × ((walk gs b).value ≡ spotted (wrong_spot p) more) × AllFine q w more t.left
        × Unit {0}) after

    abbrev pub FindsBy : Walk (Option Spotted) → Type 0
    FindsBy walk = (g : Point m) (us : List (Run Item Item)) → Later f g → AllFine q w ps us → Surrounds q w g scope → (now : Now Item)
        → Stands q.set q.work now.opened g fs → AllMet q (walk fs m).notes → Sound q now
        → Ends q one_path (λ v t after. FoundThere walk fs m g t after) (found_run us now)

    module _ (g : Point m) (us : List (Run Item Item)) (fine : AllFine q w ps us) (there : Surrounds q w g scope) where
      pub behind_found : (xs : List Item) (now : Now Item) → Sound q now → Begins g now xs → AllMet q (behind_args (args fs m).value facts_a at_a).notes
          → Ends q one_path (λ v t after. FoundThere (behind_args (args fs m).value) facts_a at_a g t after)
          ((ways_of (z q) (r ∷ ss) (drop count us) then λ t. Runs.spotted (xs, t.found) t.left) now)
      behind_found xs now ok begun met =
          ends_made q one_path
          (λ v t after. There q begun.point (behind_args (args fs m).value facts_a at_a).next (behind_args (args fs m).value facts_a at_a).facts
          (λ h. WrongBehind p h (behind_args (args fs m).value facts_a at_a).value t) after)
          (λ v t after. FoundThere (behind_args (args fs m).value) facts_a at_a g t after) (ways_of (z q) (r ∷ ss) (drop count us) now)
          (λ t. record { found = (xs, t.found); left = t.left }) (λ t after v h. record {
            point = h.point;
            later = later_on begun.later h.later;
            stands = h.stands;
            holds = (h.holds.0, h.holds.1, h.holds.2, tt);
          })
          (well_ends q (λ h t. WrongBehind p h (behind_args (args fs m).value facts_a at_a).value t)
          ((wrong xs us begun.point (all_dropped q w count ps us fine) (surrounds_on q w scope begun.later there) begun.holds).run now begun.stands met ok))

      pub args_found : (now : Now Item) → Stands q.set q.work now.opened g fs → AllMet q (bind args behind_args fs m).notes → Sound q now
          → Ends q one_path (λ v t after. FoundThere (bind args behind_args) fs m g t after) (found_run us now)
      unfolding bind
      args_found now stands met ok =
          ends_then q one_path one_path (λ v xs after. Begins g after xs)
          (λ v t after. FoundThere (behind_args (args fs m).value) facts_a at_a g t after) (in_turn (take count us) now)
          (λ xs. ways_of (z q) (r ∷ ss) (drop count us) then λ t. Runs.spotted (xs, t.found) t.left)
          (well_ends q (λ h xs. EachIs q.set q.work h (take count ps) (argument_aims (callee_types (here q) writer.callee)) (args fs m).value xs)
          ((each_fine q w scope (take count ps) (take count us) (all_taken q w count ps us fine) (argument_aims (callee_types (here q) writer.callee)) there
          (arguments_steady q.set q.work g (callee_types (here q) writer.callee))).run now stands (met_front q (args fs m).notes _ met) ok))
          (λ xs after begun ok2. behind_found xs after ok2 begun (met_behind q (args fs m).notes _ met))

    pub found_by : FindsBy (bind args behind_args)
    found_by g us l fine there now stands met ok = args_found g us fine there now stands met ok

    pub finds : FindsBy target_walk
    finds = subst (λ walk. FindsBy walk) (sym walk_is) found_by

    abbrev pub wrong_found : OneFound q w scope (kind_spot at k (T.Part (r ∷ ss)) (kind_spot base_at kb (T.Call count reader writer) [] ∷ [])) target_run
        f m fs ps
    wrong_found = record { spot = wrong_spot p; mode = wrong_mode q f p spot_run; found = found_run; is_run = same_run; finds = finds }

-- ---- by what reads it, how many indexes there are, and whether its value has a hole

module _ (fit : FitsSuffice) (q : Scene) (w : World Item) (narrow : TypesNarrow q.set.around.types) (places : (i : ℕ) → CalleeFits q.set i)
    (mappings : MappingsClosed q.set) (scope : Scope) (at : Place) (k : ℕ) (r : Suffix) (ss : List Suffix) (base_at : Place) (kb count : ℕ)
    (writer : Caller) {n : ℕ} (f : Point n) (m : ℕ) (fs : List Fact) (ps : List Part) where
  abbrev pub One : Option Caller → Type 1
  One reader = OneFound q w scope (kind_spot at k (T.Part (r ∷ ss)) (kind_spot base_at kb (T.Call count reader writer) [] ∷ []))
      (target_meaning (z q) w at k (T.Part (r ∷ ss)) (target_meaning (z q) w base_at kb (T.Call count reader writer) [] ∷ [])) f m fs ps

  abbrev pub Wrong_for : Option Caller → Place → Type 0
  Wrong_for reader p = WrongAt q w scope at k r ss base_at kb count reader writer f m fs ps p

  abbrev pub late_for : Option Caller → Walk (Option Spotted)
  late_for reader = each_late at k (r ∷ ss) (here q) scope
      (base_for q w scope at k r ss base_at kb count reader writer f m fs ps (args q w scope at k r ss base_at kb count reader writer f m fs ps fs m).value)
      (drop count ps)

  abbrev pub RunsBeside : Option Caller → Place → Walk (Option Spotted) → Type 0
  RunsBeside reader p walk = (xs : List Item) (us : List (Run Item Item))
      (h : Point (at_a q w scope at k r ss base_at kb count reader writer f m fs ps)) → AllFine q w (drop count ps) (drop count us) → Surrounds q w h scope
      → EachIs q.set q.work h (take count ps) (argument_aims (callee_types (here q) writer.callee))
      (args q w scope at k r ss base_at kb count reader writer f m fs ps fs m).value xs
      → Beside q (at_a q w scope at k r ss base_at kb count reader writer f m fs ps) h (facts_a q w scope at k r ss base_at kb count reader writer f m fs ps)
      walk (ways_of (z q) (r ∷ ss) (drop count us)) (λ b e o t. WrongBehind q w scope at k r ss base_at kb count reader writer f m fs ps p e o t)

  -- too few indexes
  pub short_wrong : (reader : Option Caller) → RunsBeside reader at (no_spot at)
  short_wrong reader xs us h fine there each = wrong_alone at (ways_of (z q) (r ∷ ss) (drop count us))

  -- nothing reads it
  pub none_ahead : {c : ℕ} {h : Point c} {gs : List Fact} (js : List Indices)
      → Walks q c h gs (read_ahead (call_spot (here q) base_at kb None writer (nestings (take count ps)) js)) (λ b e a. ⊥)
  unfolding bind next_variable scoped
  none_ahead {c} {h} {gs} js = record {
    go = λ noted stands met.
        let w0 : Walk Indices = wrong_value base_at in
        let none : Walks q c h gs w0 (λ b e a. ⊥) = wrong_walks base_at in
        absurd (none.go noted stands (met_front q (w0 gs c).notes _ met)).holds;
  }

  pub unread_wrong : RunsBeside None at (late_for None)
  unread_wrong xs us h fine there each =
      walks_then _ (none_ahead (args q w scope at k r ss base_at kb count None writer f m fs ps fs m).value) (λ b e gs a l x. absurd x)

  pub part_wrong : (reader : Option Caller) (p : Place) (b : Bool) → is_short (r ∷ ss) (length (drop count ps)) ≡ b
      → RunsBeside reader p (if b then no_spot at else late_for reader) → One reader
  part_wrong reader p b e wrong =
      wrong_found q w scope at k r ss base_at kb count reader writer f m fs ps p (λ xs us h fine there each.
      subst (λ c. Beside q (at_a q w scope at k r ss base_at kb count reader writer f m fs ps) h
      (facts_a q w scope at k r ss base_at kb count reader writer f m fs ps) (if c then no_spot at else late_for reader)
      (ways_of (z q) (r ∷ ss) (drop count us)) (λ d x o t. WrongBehind q w scope at k r ss base_at kb count reader writer f m fs ps p x o t)) (sym e)
      (wrong xs us h fine there each))

  -- ---- all of them

  module _ (asker : Caller) where
    abbrev pub own : Place
    own = own_place fit q w narrow places mappings scope at k r ss base_at kb count asker writer f m fs ps

    abbrev pub holds_now : Indices
    holds_now = held fit q w narrow places mappings scope at k r ss base_at kb count asker writer f m fs ps

    pub hole_wrong : value_has_hole holds_now ≡ true → is_short (r ∷ ss) (length (drop count ps)) ≡ false
        → RunsBeside (Some asker) own (late_for (Some asker))
    hole_wrong holed enough xs us h fine there each =
        means (λ b e o t l x. (_, x.1, x.0))
        (hole_found fit q w narrow places mappings scope at k r ss base_at kb asker writer (take count ps) _ xs _ there each holed
        (drop count ps) (drop count us) enough fine)

    pub by_hole : (b : Bool) → value_has_hole holds_now ≡ b → is_short (r ∷ ss) (length (drop count ps)) ≡ false → One (Some asker)
    by_hole true e enough =
        part_wrong (Some asker) own false enough (hole_wrong e enough)
    by_hole false e enough =
        late_found_there fit q w narrow places mappings scope at k r ss base_at kb count asker writer f m fs ps e enough

    pub by_count : (b : Bool) → is_short (r ∷ ss) (length (drop count ps)) ≡ b → One (Some asker)
    by_count true e = part_wrong (Some asker) at true e (short_wrong (Some asker))
    by_count false e = by_hole (value_has_hole holds_now) refl e

    pub read_item : One (Some asker)
    read_item = by_count (is_short (r ∷ ss) (length (drop count ps))) refl

  pub unread_by : (b : Bool) → is_short (r ∷ ss) (length (drop count ps)) ≡ b → One None
  unread_by true e = part_wrong None at true e (short_wrong None)
  unread_by false e = part_wrong None at false e unread_wrong

  pub unread_item : One None
  unread_item = unread_by (is_short (r ∷ ss) (length (drop count ps))) refl

  pub late_item : (reader : Option Caller) → One reader
  late_item None = unread_item
  late_item (Some asker) = read_item asker
