-- What a target that is a part of what a call gives is found to be, as a part of a tuple.
use Rattle.std.proofs.Common.{◌≡◌, ◌∙◌, ℕ, true, false, List, [], ◌∷◌, drop, if◌then◌else◌, length, take, Option, Some, None, refl, sym, ap, subst}
use Rattle.std.proofs.lemmas.List.{append_assoc}
use Rattle.sail_base.specs.declared.place.Place.{Place}
use Rattle.sail_core.specs.Making.{World}
use Rattle.sail_core.specs.Run as R
use Rattle.sail_core.specs.Run.{Ended, Now, Run, goes_on, in_turn, ◌then◌}
use Rattle.sail_core.specs.Targets as Runs
use Rattle.sail_core.specs.Targets.{part_spot, target_meaning, ways_of}
use Rattle.sail_core.specs.Values.{Into}
use Rattle.sail_core.specs.declared.targets.Caller.{Caller}
use Rattle.sail_core.specs.declared.targets.Suffix.{Suffix}
use Rattle.sail_core.specs.declared.targets.TargetKind.TheVariants as T
use Rattle.value_indices.specs.Steps.{Walk, bind, give, next_variable, scoped, went}
use Rattle.value_indices.specs.declared.indices.Indices.{Indices}
use Rattle.value_indices.specs.declared.notes.Fact.{Fact}
use Rattle.pattern_leaves.specs.Settings.{Scope}
use Rattle.call_arguments.specs.Holes.{value_has_hole}
use Rattle.call_notes.specs.Calls.{callee_types}
use Rattle.expression_forms.specs.Spots.{Spot}
use Rattle.expression_steps.specs.Calls.{argument_aims}
use Rattle.expression_steps.specs.Parts.{Part}
use Rattle.expression_steps.specs.Targets.{Spotted, call_spotted, is_short, kind_spot, late_count, no_spot, part_within, spotted, then_spot}
use Rattle.checked_meaning.specs.Items.{Item}
use Rattle.value_laws.specs.Known.{Point}
use Rattle.soundness_steps.specs.Points.{Later}
use Rattle.soundness_steps.proofs.Points.{later_on}
use Rattle.soundness_steps.specs.States.{Sound}
use Rattle.soundness_steps.specs.Steps.{AllMet, EndsWell, Stands}
use Rattle.soundness_steps.specs.Works.{Scene, here}
use Rattle.soundness_steps.proofs.Steps.{met_behind, met_front}
use Rattle.soundness_forms.specs.Calls.{CalleeFits}
use Rattle.soundness_forms.specs.Forms.{AllFine, FitsSuffice}
use Rattle.soundness_forms.specs.Mappings.{MappingsClosed}
use Rattle.soundness_forms.specs.Worlds.{Surrounds}
use Rattle.soundness_forms.proofs.Parts.{EachIs, each_fine}
use Rattle.soundness_forms.proofs.Worlds.{surrounds_on}
use Rattle.soundness_parts.proofs.SliceSteps.{under}
use Rattle.soundness_parts.proofs.Taken.{z}
use Rattle.soundness_values.specs.Named.{TypesNarrow}
use Rattle.soundness_values.proofs.Mappings.{arguments_steady}
use Rattle.soundness_values.proofs.NamedKinds.{all_taken}
use Rattle.soundness_targets.proofs.CallTargets.{all_dropped}
use Rattle.soundness_targets.proofs.FoundTargets.{OneFound}
use Rattle.soundness_targets.proofs.LateFound.{Spots, spots_late}
use Rattle.soundness_targets.proofs.LateGrowth.{call_base, each_late_grows}
use Rattle.soundness_targets.proofs.LateModes.{Begun, Knows, Ready, args_walk, base_for, held, late_mode, late_walk}
use Rattle.soundness_targets.proofs.LateModes.{reads, spot_in, the_spot, typed_of}
use Rattle.soundness_targets.proofs.Moments.{front_on}
use Rattle.soundness_targets.proofs.Passes.{gave}
use Rattle.soundness_targets.proofs.TargetGrowth.{grow_of}
use Rattle.soundness_targets.proofs.Trees.{Ends, There, ends_then, one_path, well_ends}
use Rattle.soundness_targets.proofs.Written.{Written, all_on}

-- walks one behind the other, put together otherwise
pub walks_same : {A B C : Type 0} (w : Walk A) (k : A → Walk B) (l : B → Walk C) → bind (bind w k) l ≡ bind w (λ a. bind (k a) l)
unfolding bind
walks_same w k l = λ j. λ facts n.
    let first = w facts n in
    let second = k first.value first.facts first.next in
    let third = l second.value second.facts second.next in
    went third.value third.facts third.next (append_assoc first.notes second.notes third.notes j)

pub given_first : {A C : Type 0} (a : A) (next : A → Walk C) → bind (give a) next ≡ next a
unfolding bind give
given_first a next = refl

module _ (fit : FitsSuffice) (q : Scene) (w : World Item) (narrow : TypesNarrow q.set.around.types) (places : (i : ℕ) → CalleeFits q.set i)
    (mappings : MappingsClosed q.set) (scope : Scope) (at : Place) (k : ℕ) (r : Suffix) (ss : List Suffix) (base_at : Place) (kb count : ℕ) (asker : Caller)
    (writer : Caller) {n : ℕ} (f : Point n) (m : ℕ) (fs : List Fact)
    (ps : List Part) where
  abbrev pub args : Walk (List Indices)
  args = args_walk fit q w narrow places mappings scope at k r ss base_at kb count asker writer f m fs ps

  abbrev pub late : Walk (Option Spotted)
  late = late_walk fit q w narrow places mappings scope at k r ss base_at kb count asker writer f m fs ps

  abbrev pub first_parts : List Part
  first_parts = take count ps

  abbrev pub left : List Part
  left = drop count ps

  -- and those behind its indexes
  abbrev pub left_over : List Part
  left_over = drop (late_count (r ∷ ss) left) left

  abbrev pub at_a : ℕ
  at_a = (args fs m).next

  abbrev pub facts_a : List Fact
  facts_a = (args fs m).facts

  abbrev pub values : List Indices
  values = (args fs m).value

  abbrev pub Start : Type 0
  Start = Begun fit q w narrow places mappings scope at k r ss base_at kb count asker writer f m fs ps

  abbrev pub Foresight : Start → Type 0
  Foresight d = Knows fit q w narrow places mappings scope at k r ss base_at kb count asker writer f m fs ps d

  abbrev pub spot_here : Spot
  spot_here = the_spot fit q w narrow places mappings scope at k r ss base_at kb count asker writer f m fs ps

  abbrev pub the_spot_in : Option Spotted → Spot
  the_spot_in o = spot_in fit q w narrow places mappings scope at k r ss base_at kb count asker writer f m fs ps o

  abbrev pub ReadyFor : (d : Start) → Foresight d → {c : ℕ} → Point c → List Fact → List Item × List Into → Type 0
  ReadyFor d v g gs p = Ready fit q w narrow places mappings scope at k r ss base_at kb count asker writer f m fs ps (d, v) g gs p

  -- ---- the run

  abbrev pub found_run : Runs.Spotting Item (List Item × List Into)
  found_run us = in_turn (take count us) then λ xs. ways_of (z q) (r ∷ ss) (drop count us) then λ t.
      Runs.spotted (xs, t.found) t.left

  abbrev pub target_run : Runs.Spotting Item (Runs.Spot Item)
  target_run = target_meaning (z q) w at k (T.Part (r ∷ ss)) (target_meaning (z q) w base_at kb (T.Call count (Some asker) writer) [] ∷ [])

  abbrev pub spot_run : List Item × List Into → Runs.Spot Item
  spot_run p = part_spot (z q) k (Runs.call_spot (z q) w base_at kb (Some asker) writer p.0) p.1

  pub same_run : (us : List (Run Item Item)) (now : Now Item) → target_run us now ≡ goes_on (found_run us now) (λ t. Runs.spotted (spot_run t.found) t.left)
  same_run us now =
      under (in_turn (take count us) now) _ _ (λ b. ways_of (z q) (r ∷ ss) b.left then λ ways. Runs.spotted (part_spot (z q) k b.found ways.found) ways.left)
      (λ xs n1. refl)
      ∙ sym (under (in_turn (take count us) now) (λ xs. ways_of (z q) (r ∷ ss) (drop count us) then λ t. Runs.spotted (xs, t.found) t.left)
      (λ xs. ways_of (z q) (r ∷ ss) (drop count us) then λ t. Runs.spotted (spot_run (xs, t.found)) t.left)
      (λ t. Runs.spotted (spot_run t.found) t.left) (λ xs n1.
      under (ways_of (z q) (r ∷ ss) (drop count us) n1) _ _ (λ t. Runs.spotted (spot_run t.found) t.left) (λ t n2. refl)))

  -- ---- the walk

  abbrev pub target_walk : Walk (Option Spotted)
  target_walk = kind_spot at k (T.Part (r ∷ ss)) (kind_spot base_at kb (T.Call count (Some asker) writer) [] ∷ []) (here q) scope ps

  abbrev pub behind_args : List Indices → Walk (Option Spotted)
  behind_args js =
      part_within at k (r ∷ ss) (here q) scope
      (base_for fit q w narrow places mappings scope at k r ss base_at kb count asker writer f m fs ps js) left

  pub walk_is : target_walk ≡ bind args behind_args
  walk_is =
      walks_same args (call_spotted (here q) base_at kb count (Some asker) writer ps) (then_spot (part_within at k (r ∷ ss) (here q) scope))
      ∙ (λ j. bind args (λ js. given_first (spotted (base_for fit q w narrow places mappings scope at k r ss base_at kb count asker writer f m fs ps js)
      left) (then_spot (part_within at k (r ∷ ss) (here q) scope)) j))

  -- ---- what is found

  module _ (no_hole : value_has_hole (held fit q w narrow places mappings scope at k r ss base_at kb count asker writer f m fs ps) ≡ false)
      (enough : is_short (r ∷ ss) (length left) ≡ false) where
    abbrev pub mode : Written q f spot_here
    mode = late_mode fit q w narrow places mappings scope at k r ss base_at kb count asker writer f m fs ps

    abbrev pub FoundThere : Walk (Option Spotted) → List Fact → ℕ → {c : ℕ} → Point c → mode.T.Path → Runs.Spotted Item (List Item × List Into)
        → Now Item → Type 0
    FoundThere walk gs b g v t after =
        There q g (walk gs b).next (walk gs b).facts (λ h. (more : List Part) × ((walk gs b).value ≡ spotted spot_here more) × AllFine q w more t.left
        × mode.Ready v (walk gs b).next h (walk gs b).facts t.found) after

    abbrev pub FindsBy : Walk (Option Spotted) → Type 0
    FindsBy walk = (g : Point m) (us : List (Run Item Item)) → Later f g → AllFine q w ps us → Surrounds q w g scope → (now : Now Item)
        → Stands q.set q.work now.opened g fs → AllMet q (walk fs m).notes → Sound q now
        → Ends q mode.T (λ v t after. FoundThere walk fs m g v t after) (found_run us now)

    module _ (g : Point m) (us : List (Run Item Item)) (l : Later f g) (fine : AllFine q w ps us) (there : Surrounds q w g scope) where
      abbrev pub ways : Run Item (Runs.Spotted Item (List Into))
      ways = ways_of (z q) (r ∷ ss) (drop count us)

      pub fine_left : AllFine q w left (drop count us)
      fine_left = all_dropped q w count ps us fine

      pub read_met : AllMet q (late facts_a at_a).notes
          → AllMet q (reads fit q w narrow places mappings scope at k r ss base_at kb count asker writer f m fs ps facts_a at_a).notes
      unfolding bind next_variable scoped give
      read_met met = met_front q _ [] (met_front q _ _ met)

      module _ (xs : List Item) (now : Now Item) (ok : Sound q now)
          (begun : There q g at_a facts_a (λ h. EachIs q.set q.work h first_parts (argument_aims (callee_types (here q) writer.callee)) values xs) now)
          (met : AllMet q (late facts_a at_a).notes) where
        abbrev pub start : Start
        start = record {
          values = xs;
          point = begun.point;
          later = later_on l begun.later;
          each = begun.holds;
          there = surrounds_on q w scope begun.later there;
          noted = now.opened;
          start = begun.stands;
          met = read_met met;
        }

        abbrev pub SpotsFor : Foresight start → {c : ℕ} → Point c → Option Spotted → Runs.Spotted Item (List Into) → Type 0
        SpotsFor v h o t =
            Spots fit q w narrow places mappings scope at k r ss base_at kb asker writer first_parts values xs facts_a start.there begun.holds
            no_hole left v h o t

        pub ends_for : (v : Foresight start) → EndsWell q begun.point (late facts_a at_a).next (late facts_a at_a).facts
            (λ h t. SpotsFor v h (late facts_a at_a).value t) (ways now)
        ends_for v =
            (spots_late fit q w narrow places mappings scope at k r ss base_at kb asker writer first_parts values xs facts_a start.there begun.holds
            no_hole left enough (drop count us) fine_left v).run now begun.stands met ok

        -- with the arguments
        pub found_for : (v : Foresight start) (t : Runs.Spotted Item (List Into)) (after : Now Item)
            → There q begun.point (late facts_a at_a).next (late facts_a at_a).facts (λ h. SpotsFor v h (late facts_a at_a).value t) after
            → FoundThere late facts_a at_a g (start, v) (record { found = (xs, t.found); left = t.left }) after
        found_for v t after h =
            let s = h.holds.1 in
            let is_it : spot_here ≡ _ = ap the_spot_in s.2 in
            record {
              point = h.point;
              later = later_on begun.later h.later;
              stands = h.stands;
              holds = (
                left_over,
                s.2 ∙ ap (λ c. spotted c left_over) (sym is_it),
                h.holds.0,
                record {
                  values_same = refl;
                  later = h.later;
                  front = front_on facts_a facts_a at_a late
                      (each_late_grows (here q) scope at k (r ∷ ss) _ (call_base (here q) base_at kb (Some asker) writer _ values) left
                      (grow_of q w (here q) scope left (drop count us) fine_left)) (all_on facts_a);
                  reached = s.0;
                  known_there = s.1;
                  spot_is = is_it;
                  is_typed = typed_of q h.point _ s.3;
                  sees = s.4;
                },
              );
            }

        pub collect : (e : Ended Item (Runs.Spotted Item (List Into)))
            → ((v : Foresight start) → EndsWell q begun.point (late facts_a at_a).next (late facts_a at_a).facts
            (λ h t. SpotsFor v h (late facts_a at_a).value t) e)
            → Ends q mode.T (λ v t after. FoundThere late facts_a at_a g v t after) (goes_on e (λ t. Runs.spotted (xs, t.found) t.left))
        collect (R.Gives t after) each = ((start, λ v. found_for v t after (gave (each v)).0), (gave (each None)).1)
        collect (R.No after) each = well_ends q (λ h t. SpotsFor None h (late facts_a at_a).value t) (each None)
        collect (R.Returns v after) each = well_ends q (λ h t. SpotsFor None h (late facts_a at_a).value t) (each None)
        collect (R.Throws v after) each = well_ends q (λ h t. SpotsFor None h (late facts_a at_a).value t) (each None)
        collect (R.Stops cause after) each = tt
        collect R.Stuck each = absurd (well_ends q (λ h t. SpotsFor None h (late facts_a at_a).value t) (each None))

        pub ways_found : Ends q mode.T (λ v t after. FoundThere late facts_a at_a g v t after) ((ways then λ t. Runs.spotted (xs, t.found) t.left) now)
        ways_found = collect (ways now) ends_for

      -- behind the arguments
      pub BehindArgs : Walk (Option Spotted) → Type 0
      BehindArgs walk = (xs : List Item) (now : Now Item) → Sound q now
          → There q g at_a facts_a (λ h. EachIs q.set q.work h first_parts (argument_aims (callee_types (here q) writer.callee)) values xs) now
          → AllMet q (walk facts_a at_a).notes
          → Ends q mode.T (λ v t after. FoundThere walk facts_a at_a g v t after) ((ways then λ t. Runs.spotted (xs, t.found) t.left) now)

      pub late_is : behind_args values ≡ late
      late_is = λ j. if enough j then no_spot at else late

      pub behind_found : BehindArgs (behind_args values)
      unfolding BehindArgs
      behind_found = subst (λ walk. BehindArgs walk) (sym late_is) (λ xs now ok begun met. ways_found xs now ok begun met)

      pub args_found : (now : Now Item) → Stands q.set q.work now.opened g fs → AllMet q (bind args behind_args fs m).notes → Sound q now
          → Ends q mode.T (λ v t after. FoundThere (bind args behind_args) fs m g v t after) (found_run us now)
      unfolding bind BehindArgs
      args_found now stands met ok =
          ends_then q one_path mode.T
          (λ p xs after. There q g at_a facts_a (λ h. EachIs q.set q.work h first_parts (argument_aims (callee_types (here q) writer.callee)) values xs) after)
          (λ v t after. FoundThere (behind_args values) facts_a at_a g v t after) (in_turn (take count us) now)
          (λ xs. ways then λ t. Runs.spotted (xs, t.found) t.left)
          (well_ends q (λ h xs. EachIs q.set q.work h first_parts (argument_aims (callee_types (here q) writer.callee)) values xs)
          ((each_fine q w scope first_parts (take count us) (all_taken q w count ps us fine) (argument_aims (callee_types (here q) writer.callee)) there
          (arguments_steady q.set q.work g (callee_types (here q) writer.callee))).run now stands (met_front q (args fs m).notes _ met) ok))
          (λ xs after begun ok2. behind_found xs after ok2 begun (met_behind q (args fs m).notes _ met))

    pub found_by : FindsBy (bind args behind_args)
    found_by g us l fine there now stands met ok = args_found g us l fine there now stands met ok

    pub finds : FindsBy target_walk
    finds = subst (λ walk. FindsBy walk) (sym walk_is) found_by

    abbrev pub late_found_there : OneFound q w scope (kind_spot at k (T.Part (r ∷ ss)) (kind_spot base_at kb (T.Call count (Some asker) writer) [] ∷ []))
        target_run f m fs ps
    late_found_there = record { spot = spot_here; mode = mode; found = found_run; is_run = same_run; finds = finds }
