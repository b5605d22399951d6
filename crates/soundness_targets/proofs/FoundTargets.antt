-- What targets are found to be where a walk has come to them, one after the other, whatever is foreseen.
use Rattle.std.proofs.Common.{◌≡◌, ◌∙◌, ℕ, List, [], ◌∷◌, Option, Some, None, refl, sym, ap, subst}
use Rattle.sail_base.specs.declared.place.Place.{Place}
use Rattle.sail_core.specs.Making.{World}
use Rattle.sail_core.specs.Run as R
use Rattle.sail_core.specs.Run.{Ended, Now, Run, goes_on, ◌then◌}
use Rattle.sail_core.specs.Targets as Runs
use Rattle.sail_core.specs.Targets.{target_meaning}
use Rattle.sail_core.specs.declared.targets.TargetKind.TheVariants as T
use Rattle.value_indices.specs.Steps.{Walk, bind, give}
use Rattle.value_indices.specs.declared.notes.Fact.{Fact}
use Rattle.pattern_leaves.specs.Settings.{Scope}
use Rattle.expression_forms.specs.Spots.{Spot, tuple_spot, wrong_spot}
use Rattle.expression_steps.specs.Parts.{Part}
use Rattle.expression_steps.specs.Targets.{Spotted, SpottedAll, Spotting, each_spot, kind_spot, spotted, spotted_all, then_spot, tuple_spotted, with_spot}
use Rattle.checked_meaning.specs.Items.{Item}
use Rattle.value_laws.specs.Known.{Point}
use Rattle.soundness_steps.specs.Points.{Later}
use Rattle.soundness_steps.proofs.Points.{later_on, no_later}
use Rattle.soundness_steps.specs.Works.{Scene, here}
use Rattle.soundness_steps.specs.States.{Sound}
use Rattle.soundness_steps.specs.Steps.{AllMet, Grows, Stands}
use Rattle.soundness_steps.proofs.Steps.{met_behind, met_front}
use Rattle.soundness_forms.specs.Forms.{AllFine}
use Rattle.soundness_forms.specs.Worlds.{Surrounds}
use Rattle.soundness_forms.proofs.Worlds.{surrounds_on}
use Rattle.soundness_parts.proofs.SliceSteps.{under}
use Rattle.soundness_parts.proofs.Taken.{z}
use Rattle.soundness_targets.proofs.Behind.{ends_means}
use Rattle.soundness_targets.proofs.Findings.{Finding, FoundSo}
use Rattle.soundness_targets.proofs.ModeLists.{Modes, more_modes, no_modes}
use Rattle.soundness_targets.proofs.Moments.{front_on}
use Rattle.soundness_targets.proofs.TargetGrowth.{AnyGrow, grow_of}
use Rattle.soundness_targets.proofs.Trees.{Ends, There, ends_each, ends_made, ends_map, ends_then, ends_within, one_path}
use Rattle.soundness_targets.proofs.TupleModes.{tuple_written}
use Rattle.soundness_targets.proofs.Written.{Written, all_on, momentary}

-- the parts that are left behind a target
abbrev pub left_behind : Option Spotted → List Part
left_behind None = []
left_behind (Some s) = s.left

-- a run that gives what it gave
pub as_found : {A : Type 0} (e : Ended Item (Runs.Spotted Item A)) → goes_on e (λ r. Runs.spotted r.found r.left) ≡ e
as_found (R.Gives x now) = refl
as_found (R.No now) = refl
as_found (R.Returns v now) = refl
as_found (R.Throws v now) = refl
as_found (R.Stops cause now) = refl
as_found R.Stuck = refl

module _ (q : Scene) (w : World Item) (scope : Scope) where
  -- ---- one, where the walk is at this variable and has these facts and parts

  pub record OneFound (t : Spotting) (tr : Runs.Spotting Item (Runs.Spot Item)) {n : ℕ} (f : Point n) (m : ℕ) (fs : List Fact) (ps : List Part) : Type 1 where
    pub spot : Spot
    pub mode : Written q f spot
    pub found : Runs.Spotting Item mode.P
    pub is_run : (us : List (Run Item Item)) (now : Now Item) → tr us now ≡ goes_on (found us now) (λ r. Runs.spotted (mode.view r.found) r.left)
    pub finds : (g : Point m) (us : List (Run Item Item)) → Later f g → AllFine q w ps us → Surrounds q w g scope → (now : Now Item)
        → Stands q.set q.work now.opened g fs → AllMet q (t (here q) scope ps fs m).notes → Sound q now
        → Ends q mode.T (λ v r after. There q g (t (here q) scope ps fs m).next (t (here q) scope ps fs m).facts (λ h. (left : List Part)
        × ((t (here q) scope ps fs m).value ≡ spotted spot left) × AllFine q w left r.left
        × mode.Ready v (t (here q) scope ps fs m).next h (t (here q) scope ps fs m).facts r.found) after) (found us now)

  abbrev pub FindsOne : Spotting → Runs.Spotting Item (Runs.Spot Item) → {n : ℕ} → Point n → Type 1
  FindsOne t tr f = (m : ℕ) (fs : List Fact) (ps : List Part) → OneFound t tr f m fs ps

  pub record EachFound (ts : List Spotting) (trs : List (Runs.Spotting Item (Runs.Spot Item))) {n : ℕ} (f : Point n) (m : ℕ) (fs : List Fact)
      (ps : List Part) : Type 1 where
    pub spots : List Spot
    pub modes : Modes q w f spots
    pub found : Runs.Spotting Item modes.P
    pub is_run : (us : List (Run Item Item)) (now : Now Item)
        → Runs.spots_of trs us now ≡ goes_on (found us now) (λ r. Runs.spotted (modes.views r.found) r.left)
    pub finds : (g : Point m) (us : List (Run Item Item)) → Later f g → AllFine q w ps us → Surrounds q w g scope → (now : Now Item)
        → Stands q.set q.work now.opened g fs → AllMet q (each_spot ts (here q) scope ps fs m).notes → Sound q now
        → Ends q modes.T (λ v r after. There q g (each_spot ts (here q) scope ps fs m).next (each_spot ts (here q) scope ps fs m).facts (λ h. (left : List Part)
        × ((each_spot ts (here q) scope ps fs m).value ≡ spotted_all spots left) × AllFine q w left r.left
        × modes.Ready v (each_spot ts (here q) scope ps fs m).next h (each_spot ts (here q) scope ps fs m).facts r.found) after) (found us now)

  abbrev pub FindsEach : List Spotting → List (Runs.Spotting Item (Runs.Spot Item)) → {n : ℕ} → Point n → Type 1
  FindsEach ts trs f = (m : ℕ) (fs : List Fact) (ps : List Part) → EachFound ts trs f m fs ps

  -- ---- one that is read once

  module _ (at : Place) (t : Spotting) (tr : Runs.Spotting Item (Runs.Spot Item)) {n : ℕ} (f : Point n) (one : Finding q w scope t tr f) (m : ℕ)
      (fs : List Fact) (ps : List Part) where
    abbrev pub walked : Walk (Option Spotted)
    walked = t (here q) scope ps

    abbrev pub spot_in : Option Spotted → Spot
    spot_in None = wrong_spot at
    spot_in (Some s) = s.spot

    abbrev pub spot_there : Spot
    spot_there = spot_in (walked fs m).value

    pub was_there : (v : one.mode.V) {d : ℕ} (h : Point d) (gs : List Fact) (o : Option Spotted) (r : Runs.Spotted Item (Runs.Spot Item))
        → FoundSo q w scope one.mode v h gs o r
        → (left : List Part) × (o ≡ spotted (spot_in o) left) × AllFine q w left r.left × one.mode.Ready v d h gs (spot_in o) r.found
    was_there v h gs None r e = absurd e
    was_there v h gs (Some s) r e = (s.left, refl, e.0, e.1)

    abbrev pub once : Written q f spot_there
    once = momentary q f spot_there one.mode

    pub once_finds : (g : Point m) (us : List (Run Item Item)) → Later f g → AllFine q w ps us → Surrounds q w g scope → (now : Now Item)
        → Stands q.set q.work now.opened g fs → AllMet q (walked fs m).notes → Sound q now
        → Ends q once.T (λ v r after. There q g (walked fs m).next (walked fs m).facts (λ h. (left : List Part)
        × ((walked fs m).value ≡ spotted spot_there left) × AllFine q w left r.left
        × one.mode.Ready v (walked fs m).next h (walked fs m).facts spot_there r.found) after) (tr us now)
    once_finds g us l fine there now stands met ok =
        let first = one.mode.first now ok in
        ends_each q once.T (first.0, first.1, λ v is. is) g (walked fs m).next (walked fs m).facts (λ v h r. (left : List Part)
        × ((walked fs m).value ≡ spotted spot_there left)
        × AllFine q w left r.left × one.mode.Ready v (walked fs m).next h (walked fs m).facts spot_there r.found) (tr us now) (λ v is.
        ends_means (λ h r l2 e. was_there v h (walked fs m).facts (walked fs m).value r e)
        ((one.finds v is m g fs ps us l fine there).run now stands met ok))

    abbrev pub one_found : OneFound t tr f m fs ps
    one_found = record {
      spot = spot_there;
      mode = once;
      found = tr;
      is_run = λ us now. sym (as_found (tr us now));
      finds = once_finds;
    }

  -- ---- several

  module _ {n : ℕ} (f : Point n) where
    pub none_finds : (m : ℕ) (fs : List Fact) (ps : List Part) (g : Point m) (us : List (Run Item Item)) → Later f g → AllFine q w ps us → (now : Now Item)
        → Stands q.set q.work now.opened g fs → Sound q now
        → Ends q one_path (λ v r after. There q g (give (spotted_all [] ps) fs m).next (give (spotted_all [] ps) fs m).facts (λ h. (left : List Part)
        × ((give (spotted_all [] ps) fs m).value ≡ spotted_all [] left) × AllFine q w left r.left × (no_modes q w f).Ready v
        (give (spotted_all [] ps) fs m).next h (give (spotted_all [] ps) fs m).facts r.found) after) (Runs.spotted [] us now)
    unfolding give
    none_finds m fs ps g us l fine now stands ok = (record { point = g; later = no_later g; stands = stands; holds = (ps, refl, fine, tt) }, ok)

    abbrev pub none_found : FindsEach [] [] f
    none_found m fs ps = record {
      spots = [];
      modes = no_modes q w f;
      found = λ us. Runs.spotted [] us;
      is_run = λ us now. refl;
      finds = λ g us l fine there now stands met ok. none_finds m fs ps g us l fine now stands ok;
    }

    module _ (t : Spotting) (tr : Runs.Spotting Item (Runs.Spot Item)) (ts : List Spotting) (trs : List (Runs.Spotting Item (Runs.Spot Item)))
        (one : FindsOne t tr f) (rest : FindsEach ts trs f) (grow : (ps : List Part) → AnyGrow (here q) scope ps → Grows (each_spot ts (here q) scope ps))
        (m : ℕ) (fs : List Fact) (ps : List Part) where
      abbrev pub next_walk : Spot → List Part → Walk (Option SpottedAll)
      next_walk s left = bind (each_spot ts (here q) scope left) (with_spot s)

      abbrev pub m2 : ℕ
      m2 = (t (here q) scope ps fs m).next

      abbrev pub fs2 : List Fact
      fs2 = (t (here q) scope ps fs m).facts

      abbrev pub there_first : Option Spotted
      there_first = (t (here q) scope ps fs m).value

      abbrev pub left_first : List Part
      left_first = left_behind there_first

      abbrev pub first : OneFound t tr f m fs ps
      first = one m fs ps

      abbrev pub others : EachFound ts trs f m2 fs2 left_first
      others = rest m2 fs2 left_first

      abbrev pub rest_walk : Walk (Option SpottedAll)
      rest_walk = each_spot ts (here q) scope left_first

      abbrev pub all_modes : Modes q w f (first.spot ∷ others.spots)
      all_modes = more_modes q w f first.spot others.spots first.mode others.modes

      abbrev pub next_run : Runs.Spotted Item first.mode.P → Run Item (Runs.Spotted Item all_modes.P)
      next_run r = others.found r.left then λ more. Runs.spotted (r.found, more.found) more.left

      abbrev pub all_run : Runs.Spotting Item all_modes.P
      all_run us = first.found us then next_run

      pub same_run : (us : List (Run Item Item)) (now : Now Item)
          → Runs.spots_of (tr ∷ trs) us now ≡ goes_on (all_run us now) (λ r. Runs.spotted (all_modes.views r.found) r.left)
      same_run us now =
          ap (λ e. goes_on e (λ r. Runs.also r.found (Runs.spots_of trs r.left))) (first.is_run us now)
          ∙ under (first.found us now) (λ r. Runs.spotted (first.mode.view r.found) r.left)
          (λ r. Runs.also (first.mode.view r.found) (Runs.spots_of trs r.left))
          (λ r. Runs.also r.found (Runs.spots_of trs r.left)) (λ r n1. refl)
          ∙ (λ j. goes_on (first.found us now) (λ r n1. by_rest r n1 j))
          ∙ sym (under (first.found us now) next_run (λ r. next_run r then λ c. Runs.spotted (all_modes.views c.found) c.left)
          (λ c. Runs.spotted (all_modes.views c.found) c.left) (λ r n1. refl))
        where
          by_rest : (r : Runs.Spotted Item first.mode.P) (n1 : Now Item) → Runs.also (first.mode.view r.found) (Runs.spots_of trs r.left) n1
              ≡ goes_on (next_run r n1) (λ c. Runs.spotted (all_modes.views c.found) c.left)
          by_rest r n1 =
              ap (λ e. goes_on e (λ more. Runs.spotted (first.mode.view r.found ∷ more.found) more.left)) (others.is_run r.left n1)
              ∙ under (others.found r.left n1) (λ more. Runs.spotted (others.modes.views more.found) more.left)
              (λ more. Runs.spotted (first.mode.view r.found ∷ others.modes.views more.found) more.left)
              (λ more. Runs.spotted (first.mode.view r.found ∷ more.found) more.left) (λ more n2. refl)
              ∙ sym (under (others.found r.left n1) (λ more. Runs.spotted (r.found, more.found) more.left)
              (λ more. Runs.spotted (first.mode.view r.found ∷ others.modes.views more.found) more.left)
              (λ c. Runs.spotted (all_modes.views c.found) c.left) (λ more n2. refl))

      module _ (g : Point m) where
        -- as a walk that is there has it
        abbrev pub AllFound : (k : Walk (Option SpottedAll)) → all_modes.T.Path → Runs.Spotted Item all_modes.P → Now Item → Type 0
        AllFound k v r after = There q g (k fs2 m2).next (k fs2 m2).facts (λ h. (left : List Part)
            × ((k fs2 m2).value ≡ spotted_all (first.spot ∷ others.spots) left) × AllFine q w left r.left
            × all_modes.Ready v (k fs2 m2).next h (k fs2 m2).facts r.found) after

        abbrev pub FirstFound : first.mode.T.Path → Runs.Spotted Item first.mode.P → Point m2 → Type 0
        FirstFound v r h = (left : List Part) × (there_first ≡ spotted first.spot left) × AllFine q w left r.left × first.mode.Ready v m2 h fs2 r.found

        -- one path of both
        pub both_found : (v : all_modes.T.Path) (r : Runs.Spotted Item first.mode.P) (c : Runs.Spotted Item others.modes.P) (h : Point (rest_walk fs2 m2).next)
            (left : List Part) → (rest_walk fs2 m2).value ≡ spotted_all others.spots left → AllFine q w left c.left
            → first.mode.Ready v.0 (rest_walk fs2 m2).next h (rest_walk fs2 m2).facts r.found
            → others.modes.Ready v.1 (rest_walk fs2 m2).next h (rest_walk fs2 m2).facts c.found → (after : Now Item) → Later g h
            → Stands q.set q.work after.opened h (rest_walk fs2 m2).facts
            → AllFound (next_walk first.spot left_first) v (record { found = (r.found, c.found); left = c.left }) after
        unfolding bind give
        both_found v r c h left e fine ready1 ready2 after l stands =
            let m3 = (rest_walk fs2 m2).next in
            let fs3 = (rest_walk fs2 m2).facts in
            let with_it : There q g m3 fs3 (λ p. (ls : List Part) × ((with_spot first.spot (spotted_all others.spots left) fs3 m3).value
            ≡ spotted_all (first.spot ∷ others.spots) ls) × AllFine q w ls c.left × (first.mode.Ready v.0 m3 p fs3 r.found
            × others.modes.Ready v.1 m3 p fs3 c.found)) after = record {
              point = h;
              later = l;
              stands = stands;
              holds = (left, refl, fine, (ready1, ready2));
            } in
            subst (λ (o : Option SpottedAll). There q g (with_spot first.spot o fs3 m3).next (with_spot first.spot o fs3 m3).facts (λ p. (ls : List Part)
            × ((with_spot first.spot o fs3 m3).value ≡ spotted_all (first.spot ∷ others.spots) ls) × AllFine q w ls c.left
            × (first.mode.Ready v.0 (with_spot first.spot o fs3 m3).next p (with_spot first.spot o fs3 m3).facts r.found
            × others.modes.Ready v.1 (with_spot first.spot o fs3 m3).next p (with_spot first.spot o fs3 m3).facts c.found)) after) (sym e) with_it

        pub met_rest : AllMet q (next_walk first.spot left_first fs2 m2).notes → AllMet q (rest_walk fs2 m2).notes
        unfolding bind
        met_rest met = met_front q (rest_walk fs2 m2).notes _ met

        -- behind the first, for a path
        pub path_found : (r : Runs.Spotted Item first.mode.P) (now : Now Item) → Sound q now → AllMet q (next_walk first.spot left_first fs2 m2).notes
            → Later f g
            → (v : first.mode.T.Path) (h : Point m2) → Later g h → Stands q.set q.work now.opened h fs2 → Surrounds q w h scope → FirstFound v r h
            → Ends q others.modes.T (λ u c after. AllFound (next_walk first.spot left_first) (v, u) c after) (next_run r now)
        path_found r now ok met lf v h l stands there e =
            let same_left : e.0 ≡ left_first = ap left_behind (sym e.1) in
            let fine2 : AllFine q w left_first r.left = subst (λ (ls : List Part). AllFine q w ls r.left) same_left e.2 in
            ends_made q others.modes.T (λ u c after. There q h (rest_walk fs2 m2).next (rest_walk fs2 m2).facts (λ p. (left : List Part)
            × ((rest_walk fs2 m2).value ≡ spotted_all others.spots left) × AllFine q w left c.left
            × others.modes.Ready u (rest_walk fs2 m2).next p (rest_walk fs2 m2).facts c.found) after)
            (λ u c after. AllFound (next_walk first.spot left_first) (v, u) c after) (others.found r.left now)
            (λ c. record { found = (r.found, c.found); left = c.left }) (λ c after u k.
            both_found (v, u) r c k.point k.holds.0 k.holds.1 k.holds.2
            (first.mode.on v m2 (rest_walk fs2 m2).next h k.point fs2 (rest_walk fs2 m2).facts r.found k.later
            (front_on fs2 fs2 m2 rest_walk (grow left_first (grow_of q w (here q) scope left_first r.left fine2)) (all_on fs2)) e.3)
            k.holds.3 after (later_on l k.later) k.stands)
            (others.finds h r.left (later_on lf l) fine2 there now stands (met_rest met) ok)

        -- the walk behind a target that is there
        abbrev pub then_walk : Walk (Option SpottedAll)
        then_walk = then_spot next_walk there_first

        pub goes_so : (v : first.mode.T.Path) (r : Runs.Spotted Item first.mode.P) (h : Point m2) → FirstFound v r h
            → next_walk first.spot left_first ≡ then_walk
        goes_so v r h e = ap (λ (ls : List Part). next_walk first.spot ls) (ap left_behind e.1) ∙ ap (then_spot next_walk) (sym e.1)

        abbrev pub FirstThere : (r : Runs.Spotted Item first.mode.P) → Now Item → first.mode.T.Path → Type 0
        FirstThere r now v = There q g m2 fs2 (λ h. FirstFound v r h) now

        pub then_found : (r : Runs.Spotted Item first.mode.P) (now : Now Item) → first.mode.T.Tree (FirstThere r now) → Sound q now
            → AllMet q (then_walk fs2 m2).notes → Later f g → Surrounds q w g scope → Ends q all_modes.T (AllFound then_walk) (next_run r now)
        then_found r now tree ok met lf there =
            let some = first.mode.T.pick {P = FirstThere r now} tree in
            subst (λ (k : Walk (Option SpottedAll)). AllMet q (k fs2 m2).notes → Ends q all_modes.T (AllFound k) (next_run r now))
            (goes_so some.0 r some.1.point some.1.holds) (λ met2.
            ends_within q first.mode.T others.modes.T tree (λ v c after. AllFound (next_walk first.spot left_first) v c after) (next_run r now) (λ v k.
            path_found r now ok met2 lf v k.point k.later k.stands (surrounds_on q w scope k.later there) k.holds)) met

        pub all_finds : (us : List (Run Item Item)) → Later f g → AllFine q w ps us → Surrounds q w g scope → (now : Now Item)
            → Stands q.set q.work now.opened g fs → AllMet q (each_spot (t ∷ ts) (here q) scope ps fs m).notes → Sound q now
            → Ends q all_modes.T (λ v r after.
            There q g (each_spot (t ∷ ts) (here q) scope ps fs m).next (each_spot (t ∷ ts) (here q) scope ps fs m).facts (λ h.
            (left : List Part) × ((each_spot (t ∷ ts) (here q) scope ps fs m).value ≡ spotted_all (first.spot ∷ others.spots) left) × AllFine q w left r.left
            × all_modes.Ready v (each_spot (t ∷ ts) (here q) scope ps fs m).next h (each_spot (t ∷ ts) (here q) scope ps fs m).facts r.found) after)
            (all_run us now)
        unfolding bind
        all_finds us l fine there now stands met ok =
            ends_then q first.mode.T all_modes.T (λ v r after. FirstThere r after v) (AllFound then_walk) (first.found us now) next_run
            (first.finds g us l fine there now stands (met_front q (t (here q) scope ps fs m).notes _ met) ok) (λ r after tree ok2.
            then_found r after tree ok2 (met_behind q (t (here q) scope ps fs m).notes _ met) l there)

      abbrev pub more_found : EachFound (t ∷ ts) (tr ∷ trs) f m fs ps
      more_found = record {
        spots = first.spot ∷ others.spots;
        modes = all_modes;
        found = all_run;
        is_run = same_run;
        finds = λ g us l fine there now stands met ok. all_finds g us l fine there now stands met ok;
      }

    -- ---- a tuple of them

    module _ (at : Place) (k : ℕ) (ts : List Spotting) (trs : List (Runs.Spotting Item (Runs.Spot Item))) (each : FindsEach ts trs f) (m : ℕ)
        (fs : List Fact) (ps : List Part) where
      abbrev pub parts : EachFound ts trs f m fs ps
      parts = each m fs ps

      abbrev pub whole : Written q f (tuple_spot at k parts.spots)
      whole = tuple_written q w f at k parts.spots parts.modes

      pub tuple_run : (us : List (Run Item Item)) (now : Now Item)
          → target_meaning (z q) w at k T.Tuple trs us now ≡ goes_on (parts.found us now) (λ r. Runs.spotted (whole.view r.found) r.left)
      tuple_run us now =
          ap (λ e. goes_on e (λ all. Runs.spotted (Runs.tuple_spot (z q) k all.found) all.left)) (parts.is_run us now)
          ∙ under (parts.found us now) (λ r. Runs.spotted (parts.modes.views r.found) r.left) (λ r. Runs.spotted (whole.view r.found) r.left)
          (λ all. Runs.spotted (Runs.tuple_spot (z q) k all.found) all.left) (λ r n1. refl)

      abbrev pub tuple_walk : Walk (Option Spotted)
      tuple_walk = kind_spot at k T.Tuple ts (here q) scope ps

      abbrev pub each_walk : Walk (Option SpottedAll)
      each_walk = each_spot ts (here q) scope ps

      pub tuple_there : (v : parts.modes.T.Path) (g : Point m) (r : Runs.Spotted Item whole.P) (after : Now Item)
          → There q g (each_walk fs m).next (each_walk fs m).facts (λ h. (left : List Part) × ((each_walk fs m).value ≡ spotted_all parts.spots left)
          × AllFine q w left r.left × parts.modes.Ready v (each_walk fs m).next h (each_walk fs m).facts r.found) after
          → There q g (tuple_walk fs m).next (tuple_walk fs m).facts (λ h. (left : List Part)
          × ((tuple_walk fs m).value ≡ spotted (tuple_spot at k parts.spots) left) × AllFine q w left r.left
          × whole.Ready v (tuple_walk fs m).next h (tuple_walk fs m).facts r.found) after
      unfolding bind give
      tuple_there v g r after h = record {
        point = h.point;
        later = h.later;
        stands = h.stands;
        holds = (h.holds.0, ap (tuple_spotted at k) h.holds.1, h.holds.2, h.holds.3);
      }

      pub met_each : AllMet q (tuple_walk fs m).notes → AllMet q (each_walk fs m).notes
      unfolding bind
      met_each met = met_front q (each_walk fs m).notes _ met

      abbrev pub tuple_found : OneFound (kind_spot at k T.Tuple ts) (target_meaning (z q) w at k T.Tuple trs) f m fs ps
      tuple_found = record {
        spot = tuple_spot at k parts.spots;
        mode = whole;
        found = parts.found;
        is_run = tuple_run;
        finds = λ g us l fine there now stands met ok.
            ends_map q parts.modes.T (λ v r after. There q g (each_walk fs m).next (each_walk fs m).facts (λ h. (left : List Part)
            × ((each_walk fs m).value ≡ spotted_all parts.spots left) × AllFine q w left r.left
            × parts.modes.Ready v (each_walk fs m).next h (each_walk fs m).facts r.found) after)
            (λ v r after. There q g (tuple_walk fs m).next (tuple_walk fs m).facts (λ h. (left : List Part)
            × ((tuple_walk fs m).value ≡ spotted (tuple_spot at k parts.spots) left) × AllFine q w left r.left
            × whole.Ready v (tuple_walk fs m).next h (tuple_walk fs m).facts r.found) after) (parts.found us now) (λ r after v s h.
            tuple_there v g r after h) (parts.finds g us l fine there now stands (met_each met) ok);
      }
