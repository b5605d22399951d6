-- A part of what a call gives, from the write on: the new value is noted, the base is read, and is written again with another part.
use Rattle.std.proofs.Common.{◌≡◌, ◌∙◌, ◌&&◌, ◌++◌, ℕ, Bool, true, false, List, [], ◌∷◌, if◌then◌else◌, length, map, Option, Some, None}
use Rattle.std.proofs.Common.{refl, sym, ap, subst}
use Rattle.std.specs.Prelude.{replicate}
use Rattle.sail_base.specs.declared.place.Place.{Place}
use Rattle.sail_types.specs.Numbers.{Assignment}
use Rattle.sail_types.specs.declared.types.Typ.{Typ}
use Rattle.sail_types.specs.declared.values.Value.{Value}
use Rattle.sail_core.specs.Making.{World, made}
use Rattle.sail_core.specs.Run as R
use Rattle.sail_core.specs.Run.{Ended, Now, Run, gives, goes_on, needs, ◌then◌}
use Rattle.sail_core.specs.Targets as Runs
use Rattle.sail_core.specs.Targets.{part_spot, renewed}
use Rattle.sail_core.specs.Values.{Into, replaced}
use Rattle.sail_core.specs.declared.targets.Caller.{Caller}
use Rattle.sail_core.specs.declared.tree.Giver.TheVariants as By
use Rattle.value_indices.specs.Steps.{Walk, Went, bind, conditions, give, given_note, made_note, note, went}
use Rattle.value_indices.specs.declared.indices.Indices.{Indices}
use Rattle.value_indices.specs.declared.indices.Reading.{out-Reading}
use Rattle.value_indices.specs.declared.indices.Reading.TheVariants as Q
use Rattle.value_indices.specs.declared.notes.Fact.{Fact}
use Rattle.value_indices.specs.declared.notes.Fact.TheVariants as Y
use Rattle.value_indices.specs.declared.notes.Made.TheVariants as Makes
use Rattle.value_fits.specs.Fitting.{says}
use Rattle.value_fits.specs.declared.fitted.Fitted.{Fitted}
use Rattle.pattern_leaves.specs.Settings.{Scope}
use Rattle.call_arguments.specs.Aims.{aimed, is_hole}
use Rattle.call_arguments.specs.declared.aims.Aim.TheVariants as Aims
use Rattle.call_notes.specs.Calls.{called, callee_types}
use Rattle.call_notes.specs.Noted.{node_given, numbers_given, numbers_noted}
use Rattle.expression_forms.specs.Nodes.{form_made, put}
use Rattle.expression_forms.specs.Spots as Walked
use Rattle.expression_forms.specs.Spots.{Wrote, answered, asked_with, call_renewed, in_force, is_late_wanted, last_type, late_put, owed_answer, part_write}
use Rattle.expression_forms.specs.Spots.{wrote}
use Rattle.expression_forms.specs.Ways.{owe_part}
use Rattle.expression_forms.specs.declared.spots.Known.{Known}
use Rattle.expression_forms.specs.declared.ways.Reached.{Reached}
use Rattle.expression_steps.specs.Calls.{argument_aims, nestings}
use Rattle.expression_steps.specs.Parts.{Part}
use Rattle.checked_meaning.specs.Checked.{Noted}
use Rattle.checked_meaning.specs.Items.{Item}
use Rattle.value_laws.specs.Belonging.{Integers, Meant, standing}
use Rattle.value_laws.specs.Known.{Agree, AllTrue, Point, given_in}
use Rattle.value_laws.proofs.Steps.{same}
use Rattle.fitting_laws.proofs.Joining.{says_so, true_both}
use Rattle.way_laws.specs.Laws.{AreTrue}
use Rattle.soundness_steps.specs.Noted.{EachNoted, variables_given, with_given}
use Rattle.soundness_steps.specs.Points.{Later}
use Rattle.soundness_steps.specs.States.{IsAnswer, IsThrown, Sound}
use Rattle.soundness_steps.specs.Steps.{AllMet, Beside, EndsWell, Grows, Stands, Walks, well_given, well_no, well_returned, well_stopped, well_thrown}
use Rattle.soundness_steps.specs.Values.{Has, Is, IsMet}
use Rattle.soundness_steps.specs.Works.{Scene, here}
use Rattle.soundness_steps.proofs.Points.{agree_on, later_on}
use Rattle.soundness_steps.proofs.Steps.{binds, given_back, gives_numbers, makes, rests, runs_as, runs_on, walks_on}
use Rattle.soundness_steps.proofs.Steps.{walks_then}
use Rattle.soundness_forms.specs.Calls.{CalleeFits}
use Rattle.soundness_forms.specs.Forms.{FitsSuffice}
use Rattle.soundness_forms.specs.Mappings.{MappingsClosed}
use Rattle.soundness_forms.specs.Worlds.{Surrounds}
use Rattle.soundness_forms.proofs.Basics.{has_on, has_there, is_on, then_walks, wanted_on}
use Rattle.soundness_forms.proofs.Giving.{gives_all}
use Rattle.soundness_forms.proofs.Growth.{grows_bind, grows_given, grows_gives, grows_note}
use Rattle.soundness_forms.proofs.Parts.{EachIs}
use Rattle.soundness_forms.proofs.Worlds.{surrounds_on}
use Rattle.soundness_fits.proofs.Owing.{suffices_walks}
use Rattle.soundness_parts.proofs.SliceSteps.{under}
use Rattle.soundness_parts.proofs.Taken.{z}
use Rattle.soundness_parts.proofs.Updates.{part_owed_fits, said_true}
use Rattle.soundness_targets.proofs.Again.{MadeThere, made_there}
use Rattle.soundness_targets.proofs.CallGrowth.{called_grows}
use Rattle.soundness_targets.proofs.CallTargets.{each_on, made_as}
use Rattle.soundness_targets.proofs.Callings.{answers}
use Rattle.soundness_targets.proofs.LateCalls.{Kept, asked_is, keeps, read_run, reads}
use Rattle.soundness_targets.proofs.Moments.{At, Front, at_exact, at_regrouped, stands_before}
use Rattle.soundness_targets.proofs.Pieces.{walk_regrouped}
use Rattle.soundness_targets.proofs.Spots.{Is_at, WayTo}
use Rattle.soundness_targets.proofs.WriteGrowth.{put_grows}

-- ---- facts behind facts

pub true_behind : (mu : Assignment) (facts more : List Fact) → AllTrue mu (conditions (facts ++ more)) → AllTrue mu (conditions more)
true_behind mu [] more h = h
true_behind mu (Y.Holds c ∷ facts) more h = true_behind mu facts more h.1
true_behind mu (Y.IsGiven v ∷ facts) more h = true_behind mu facts more h

pub given_behind : (noted : Noted) (g : Integers) (facts more : List Fact) → EachNoted noted g (given_in (facts ++ more)) → EachNoted noted g (given_in more)
given_behind noted g [] more h = h
given_behind noted g (Y.Holds c ∷ facts) more h = given_behind noted g facts more h
given_behind noted g (Y.IsGiven v ∷ facts) more h = given_behind noted g facts more h.1

pub given_both : (noted : Noted) (g : Integers) (facts more : List Fact) → EachNoted noted g (given_in facts) → EachNoted noted g (given_in more)
    → EachNoted noted g (given_in (facts ++ more))
given_both noted g [] more h k = k
given_both noted g (Y.Holds c ∷ facts) more h k = given_both noted g facts more h k
given_both noted g (Y.IsGiven v ∷ facts) more h k = (h.0, given_both noted g facts more h.1 k)

-- what is so where a read was is so later, with what is known of it and of the ways into it
module _ (q : Scene) {noted : Noted} {n m : ℕ} {f : Point n} {p : Point m} (facts known ways now : List Fact) where
  pub stands_known : Stands q.set q.work noted f (facts ++ known) → Later f p
      → ((c : Integers) → Agree p c → AllTrue (standing q.set.past c) (conditions ways)) → given_in ways ≡ [] → Stands q.set q.work noted p now
      → Stands q.set q.work noted p (now ++ (known ++ ways))
  stands_known read l way none s = record {
    there = λ c a.
        let before = s.there c a in
        let r = read.there c (agree_on l a) in
        let mu = standing q.set.past c in
        record {
          numbers = before.numbers;
          true_there = true_both mu now (known ++ ways) before.true_there
              (true_both mu known ways (true_behind mu facts known r.true_there) (way c a));
          given = given_both noted c now (known ++ ways) before.given
              (given_both noted c known ways (given_behind noted c facts known r.given) (subst (EachNoted noted c) (sym none) tt));
        };
  }

-- what was so is so again, where it is so at a later point
given_again : (before after : Noted) (c d : Integers) (vs : List ℕ) → EachNoted before c vs → EachNoted before d vs → EachNoted after d vs
    → EachNoted after c vs
given_again before after c d [] h k l = tt
given_again before after c d (v ∷ vs) h k l = (l.0 ∙ sym k.0 ∙ h.0, given_again before after c d vs h.1 k.1 l.1)

pub stands_again : (q : Scene) {before after : Noted} {n m : ℕ} {f : Point n} {p : Point m} (facts later : List Fact) → Stands q.set q.work before f facts
    → Later f p → Front facts later → Stands q.set q.work after p later → Stands q.set q.work after f facts
stands_again q {before} {after} {f = f} {p = p} facts later s l front t = record {
  there = λ c a.
      let here_so = s.there c a in
      let there_so = s.there p.integers (agree_on l (same p)) in
      let now_so = (stands_before q facts later front t).there p.integers (same p) in
      record {
        numbers = here_so.numbers;
        true_there = here_so.true_there;
        given = given_again before after c p.integers (given_in facts) here_so.given there_so.given now_so.given;
      };
}

-- ---- what a node gets, and makes again, as what it is

module _ (q : Scene) (k : ℕ) where
  hole_put_is : (n : ℕ) (facts : List Fact) (i : Indices) → put k (i ∷ []) Q.Hole i facts n
      ≡ went tt (with_given facts (variables_given i)) n (made_note facts k (i ∷ []) (Makes.ByIndices i) ∷ given_note facts (By.Node k) i ∷ [])
  unfolding bind note
  hole_put_is n facts i =
      ap (λ (w : Went (Unit {0})). went w.value w.facts w.next
      (made_note facts k (i ∷ []) (form_made (out-Reading Q.Hole) Q.Hole i) ∷ given_note facts (By.Node k) i ∷ w.notes))
      (gives_all i facts n)
      ∙ ap (λ m. went tt (with_given facts (variables_given i)) n (made_note facts k (i ∷ []) m ∷ given_note facts (By.Node k) i ∷ [])) (made_as q k i)

  put_again : {n : ℕ} {f : Point n} {facts : List Fact} (i : Indices) (v : Value) → Has q.set q.work f i v
      → Beside q n f facts (put k [] Q.Hole i) (made (z q) k [] v) (λ m g t y. Is q.set q.work g i y)
  put_again {n} {f} {facts} i v h =
      subst (λ m. Beside q n f facts (bind (note (λ fs. made_note fs k [] m)) (λ t. numbers_noted k i)) (made (z q) k [] v) (λ d g t y. Is q.set q.work g i y))
      (sym (made_as q k i))
      (binds (λ t. numbers_noted k i) (λ y. (z q).note (By.Node k) v then λ t. gives y) (makes k [] (Makes.ByIndices i) [] v tt (λ g a. has_there h g a))
      (λ m g fs t y l e. noted m g fs y l (record { has = subst (λ u. Has q.set q.work g i u) (sym e.0) (has_on l h); typ = e.1 })))
    where
      noted : (m : ℕ) (g : Point m) (fs : List Fact) (y : Item) → Later f g → Is q.set q.work g i y
          → Beside q m g fs (numbers_noted k i) ((z q).note (By.Node k) v then λ t. gives y) (λ d p a u. Is q.set q.work p i u)
      noted m g fs y l e =
          runs_on (λ t. gives y) (gives_numbers (By.Node k) i v (numbers_given i) (gives_all i) (has_there (has_on l h))) (λ d p gs t u l2 s.
          rests y (given_back t (is_on l2 e)))

walk_starts : {q : Scene} {n : ℕ} {f : Point n} {facts : List Fact} {A C : Type 0} (a : A) (k : A → Walk C) {Holds : (m : ℕ) → Point m → C → Type 0}
    → Walks q n f facts (k a) Holds → Walks q n f facts (bind (give a) k) Holds
unfolding bind give
walk_starts a k b = record { go = b.go }

-- ---- where a read leaves the piece

module _ (q : Scene) where
  abbrev pub Leaves : {A : Type 0} → Ended Item A → Type 0
  Leaves (R.Gives x after) = ⊥
  Leaves (R.No after) = (q.may_fall ≡ true) × Sound q after
  Leaves (R.Returns v after) = IsAnswer q.set.around.types q.answer v × Sound q after
  Leaves (R.Throws v after) = IsThrown q.set q.set.around.exception v × Sound q after
  Leaves (R.Stops cause after) = Unit {0}
  Leaves R.Stuck = ⊥

  leaves_on : {A B : Type 0} (e : Ended Item A) (d : A → Run Item B) → Leaves e → Leaves (goes_on e d)
  leaves_on (R.Gives x after) d h = absurd h
  leaves_on (R.No after) d h = h
  leaves_on (R.Returns v after) d h = h
  leaves_on (R.Throws v after) d h = h
  leaves_on (R.Stops cause after) d h = tt
  leaves_on R.Stuck d h = absurd h

  leaves_well : {n : ℕ} {f : Point n} {m : ℕ} {facts : List Fact} {B : Type 0} {Holds : Point m → B → Type 0} (e : Ended Item B) → Leaves e
      → EndsWell q f m facts Holds e
  leaves_well (R.Gives x after) h = absurd h
  leaves_well (R.No after) h = well_no after h.0 h.1
  leaves_well (R.Returns v after) h = well_returned v after h.0 h.1
  leaves_well (R.Throws v after) h = well_thrown v after h.0 h.1
  leaves_well (R.Stops cause after) h = well_stopped cause after
  leaves_well R.Stuck h = absurd h

-- the moment behind a piece
abbrev after_given : Ended Item Item → Now Item → Now Item
after_given (R.Gives x after) now = after
after_given e now = now

-- ---- the base, from its arguments on

module _ (fit : FitsSuffice) (q : Scene) (w : World Item) (places : (i : ℕ) → CalleeFits q.set i) (mappings : MappingsClosed q.set) (scope : Scope)
    (at : Place) (kb : ℕ) (writer : Caller) (ps : List Part) (is : List Indices) (xs : List Item) where
  abbrev types : List Typ
  types = callee_types (here q) writer.callee

  abbrev pub Arguments : {n : ℕ} → Point n → Type 0
  Arguments f = EachIs q.set q.work f ps (argument_aims types) is xs

  abbrev ask : Item → Run Item Item
  ask u = Runs.asked (z q) w at (Some writer) (xs ++ u ∷ [])

  abbrev renews : Value → Run Item Item
  renews v = made (z q) kb [] v then ask

  none_met : {n : ℕ} (f : Point n) (v : Value) → IsMet q.set q.work f (aimed Aims.Given (last_type types)) false v
  none_met f v = by (is_hole (last_type types))
    where
      by : (b : Bool) → IsMet q.set q.work f (if b then Aims.Free else Aims.Given (last_type types)) false v
      by true = tt
      by false = tt

  module _ (held : Indices) where
    abbrev walk_renewed : Walk Indices
    walk_renewed = call_renewed (here q) at kb writer (nestings ps) is held

    renewed_fine : {n : ℕ} {f : Point n} {facts : List Fact} → Surrounds q w f scope → Arguments f → (all : Value) → Has q.set q.work f held all
        → Beside q n f facts walk_renewed (renews all) (λ m g a u. Is q.set q.work g a u)
    renewed_fine there each all has =
        binds (λ t. answered (here q) at writer (nestings ps) is false held) ask (put_again q kb held all has) (λ m g fs t u l e.
        answers fit q w places mappings scope at writer.number (surrounds_on q w scope l there) ps is xs false held u e writer.callee
        (each_on q ps (argument_aims types) is xs l each) (none_met g u.val))

    renewed_grows : Grows walk_renewed
    renewed_grows =
        grows_bind (put kb [] Q.Hole held) (λ t. answered (here q) at writer (nestings ps) is false held) (put_grows kb [] Q.Hole held) (λ t.
        grows_bind (asked_with (here q) at writer (nestings ps) is false held) (node_given writer.number)
        (called_grows (here q) at writer.number writer.callee (nestings ps ++ false ∷ []) (is ++ held ∷ [])) (λ a. grows_given writer.number a))

    module _ (c : ℕ) (ways : List Into) (old : Item) (v : Value) where
      -- its numbers are noted, and it is written again
      abbrev again : Walk Indices
      again = bind (numbers_noted c held) (λ t. walk_renewed)

      -- what is left of the run
      abbrev pub rest : Run Item Item
      rest = (z q).note (By.Node c) old.val then λ t. needs (replaced ways old.val v) then renews

      again_grows : Grows again
      again_grows =
          grows_bind (numbers_noted c held) (λ t. walk_renewed)
          (grows_bind (note (λ facts. given_note facts (By.Node c) held)) (λ u. numbers_given held)
          (grows_note (λ facts. given_note facts (By.Node c) held)) (λ u.
          grows_gives (numbers_given held) (variables_given held) (gives_all held))) (λ t. renewed_grows)

      record Renewed {n : ℕ} (f : Point n) : Type 0 where
        pub all : Value
        pub is_all : replaced ways old.val v ≡ Some all
        pub has_all : Has q.set q.work f held all

      again_fine : {n : ℕ} {f : Point n} {facts : List Fact} → Surrounds q w f scope → Arguments f → Has q.set q.work f held old.val → Renewed f
          → Beside q n f facts again rest (λ m g a u. Is q.set q.work g a u)
      again_fine there each has r =
          binds (λ t. walk_renewed) (λ t. needs (replaced ways old.val v) then renews)
          (gives_numbers (By.Node c) held old.val (numbers_given held) (gives_all held) (has_there has)) (λ m g fs t u l e.
          runs_as (λ now. ap (λ o. goes_on (needs o now) renews) (sym r.is_all))
          (renewed_fine (surrounds_on q w scope l there) (each_on q ps (argument_aims types) is xs l each) r.all (has_on l r.has_all)))

      module _ (x : Reached) where
        renewed_there : {n : ℕ} {f : Point n} → Has q.set q.work f held old.val → WayTo q f held old.val ways x → (g : Integers) → Agree f g
            → AreTrue (standing q.set.past g) x.conditions → Is_at q g x.typ v → Renewed f
        renewed_there has way g a met is_v =
            let r = way.put g a met v is_v in
            record {
              all = r.0;
              is_all = r.1;
              has_all = record {
                meaning = has.meaning;
                is_so = ap (λ (m : Meant). m.holds r.0) (sym (has.steady g a)) ∙ r.2;
                steady = has.steady;
              };
            }

        module _ (place at_part : Place) (nested : Bool) (i : Indices) where
          abbrev walk_rest : Walk Indices
          walk_rest = bind (part_write (here q) at_part true x again nested i) (owed_answer place)

          abbrev Rests : {n : ℕ} → Point n → List Fact → Type 0
          Rests {n} f facts = Beside q n f facts walk_rest rest (λ m g a u. Is q.set q.work g a u)

          abbrev ends_with : (ℕ → Fitted) → Indices → Walk Indices
          ends_with left a = owed_answer place (wrote left a)

          module _ {n : ℕ} {f : Point n} (there : Surrounds q w f scope) (each : Arguments f) (has : Has q.set q.work f held old.val)
              (way : WayTo q f held old.val ways x) (is_v : Has q.set q.work f i v) (met : IsMet q.set q.work f (Aims.Given x.typ) nested v) where
            none_left : {m : ℕ} {g : Point m} {fs : List Fact} (a : Indices) (u : Item) → Is q.set q.work g a u
                → Walks q m g fs (ends_with (says []) a) (λ d p b. Is q.set q.work p b u)
            none_left a u e =
                walks_on (λ t. give a) (suffices_walks {q = q} {Then = λ c2. Unit {0}} place (says []) (says_so [] (λ c2 b s. tt))) (λ m g fs t l k.
                given_back a (is_on l e))

            pub rests_fine : {facts : List Fact} → Rests f facts
            rests_fine =
                walk_regrouped (owe_part (here q) at_part x nested i) (λ t. bind again Walked.gives) (owed_answer place)
                (walks_then (λ t. bind (bind again Walked.gives) (owed_answer place)) (part_owed_fits q x i v is_v way.wanted at_part nested met)
                (λ m g fs t l h.
                walk_regrouped again Walked.gives (owed_answer place)
                (then_walks (λ a. bind (Walked.gives a) (owed_answer place))
                (again_fine (surrounds_on q w scope l there) (each_on q ps (argument_aims types) is xs l each) (has_on l has)
                (renewed_there (has_on l has) (way_later l) g.integers (same g)
                (said_true (standing q.set.past g.integers) x.conditions (h g.integers (same g)).0)
                (h g.integers (same g)).1)) (λ d p gs a u l2 e.
                walk_starts (wrote (says []) a) (owed_answer place) (none_left a u e)))))
              where
                way_later : {m : ℕ} {g : Point m} → Later f g → WayTo q g held old.val ways x
                way_later l = record { wanted = wanted_on q.set q.work x.typ l way.wanted; put = λ c2 a. way.put c2 (agree_on l a) }

            -- where that is all
            pub index_alone : {facts : List Fact} → Beside q n f facts (part_write (here q) at_part true x again nested i) rest (λ m g a u. Unit {0})
            index_alone =
                walks_then (λ t. bind again Walked.gives) (part_owed_fits q x i v is_v way.wanted at_part nested met) (λ m g fs t l h.
                then_walks Walked.gives
                (again_fine (surrounds_on q w scope l there) (each_on q ps (argument_aims types) is xs l each) (has_on l has)
                (renewed_there (has_on l has) (way_later l) g.integers (same g)
                (said_true (standing q.set.past g.integers) x.conditions (h g.integers (same g)).0)
                (h g.integers (same g)).1)) (λ d p gs a u l2 e. given_back (wrote (says []) a) tt))
              where
                way_later : {m : ℕ} {g : Point m} → Later f g → WayTo q g held old.val ways x
                way_later l = record { wanted = wanted_on q.set q.work x.typ l way.wanted; put = λ c2 a. way.put c2 (agree_on l a) }

  -- ---- what reads it

  module _ (asker : Caller) {m0 : ℕ} {g : Point m0} (facts0 : List Fact) (there : Surrounds q w g scope)
      (each : Arguments g) where
    abbrev pub walk_read : Walk Indices
    walk_read = called (here q) at asker.number asker.callee (replicate (length is) false) is

    abbrev pub reading : Run Item Item
    reading = read_run fit q w places scope at asker.number xs asker.callee

    abbrev held_there : Indices
    held_there = (walk_read facts0 m0).value

    -- it gave a value, from this moment on
    pub record Read (now : Now Item) : Type 0 where
      pub old : Item
      pub after : Now Item
      pub is_it : reading now ≡ R.Gives old after
      pub kept : after.opened ≡ now.opened
      pub point : Point (walk_read facts0 m0).next
      pub later : Later g point
      pub stands : Stands q.set q.work after.opened point (walk_read facts0 m0).facts
      pub is_old : Is q.set q.work point held_there old
      pub ok : Sound q after

    pub data Reads (now : Now Item) : Type 0 where
      gives_it : Read now → Reads now
      leaves_it : Leaves q (reading now) → Reads now

    found : (now : Now Item) {e : Ended Item Item} → reading now ≡ e
        → EndsWell q g (walk_read facts0 m0).next (walk_read facts0 m0).facts (λ p x. Is q.set q.work p held_there x) e → Kept now e → Reads now
    found now is (well_given x after r ok) k =
        gives_it (record {
          old = x;
          after = after;
          is_it = is;
          kept = k;
          point = r.point;
          later = r.later;
          stands = r.stands;
          is_old = r.holds;
          ok = ok;
        })
    found now is (well_no after a s) k = leaves_it (subst (Leaves q) (sym is) (a, s))
    found now is (well_returned v after b s) k = leaves_it (subst (Leaves q) (sym is) (b, s))
    found now is (well_thrown v after b s) k = leaves_it (subst (Leaves q) (sym is) (b, s))
    found now is (well_stopped cause after) k = leaves_it (subst (Leaves q) (sym is) tt)

    reads_now : (now : Now Item) → Stands q.set q.work now.opened g facts0 → AllMet q (walk_read facts0 m0).notes → Sound q now → Reads now
    reads_now now stands met ok =
        found now refl ((reads fit q w places mappings scope at asker.number there ps (argument_aims types) is xs each asker.callee).run now stands met ok)
        (keeps fit q w places mappings scope at asker.number there ps (argument_aims types) is xs each asker.callee now stands met ok)

    -- ---- where it is known beforehand

    -- the moment at which it is read, and what it gives then; or none, where it gives nothing
    abbrev pub Foresight : Type 0
    Foresight = Option ((now : Now Item) × Read now)

    abbrev pub at_noted : Now Item → Noted → Now Item
    at_noted now noted = record now { opened = noted }

    module _ (k : ℕ) (y : Item) where
      -- the new value is noted so
      abbrev pub Puts : Now Item → Item → Noted → Type 0
      Puts now u noted = made (z q) k (y ∷ []) y.val now ≡ R.Gives u (at_noted now noted)

      abbrev pub Current : Foresight → Now Item → Type 0
      Current (Some r) now = (u : Item) × (noted : Noted) × Puts now u noted × (r.0 ≡ at_noted now noted)
      Current None now = (u : Item) × (noted : Noted) × Puts now u noted × Leaves q (reading (at_noted now noted))

      module _ {n : ℕ} {f : Point n} {facts : List Fact} (i : Indices) (is_y : Is q.set q.work f i y) where
        puts_there : (now : Now Item) → Stands q.set q.work now.opened f facts → AllMet q (put k (i ∷ []) Q.Hole i facts n).notes
            → MadeThere q f facts k i (y ∷ []) y.val now
        puts_there now stands met =
            let notes = subst (λ (s : Went (Unit {0})). AllMet q s.notes) (hole_put_is q k n facts i) met in
            made_there q k (i ∷ []) (Makes.ByIndices i) i (y ∷ []) y.val now facts facts notes.0 notes.1.0 stands stands (is_y.typ, tt)
            (λ c a. has_there is_y.has c a) is_y.has

        -- ---- it is known at the end of a pass

        pub foreseen : {before : Noted} → Stands q.set q.work before g facts0 → AllMet q (walk_read facts0 m0).notes → Later g f → Front facts0 facts
            → (now : Now Item) → Stands q.set q.work now.opened f facts → AllMet q (put k (i ∷ []) Q.Hole i facts n).notes → Sound q now
            → (v : Foresight) × Current v now
        foreseen start met_read l front now stands met ok =
            let m = puts_there now stands met in
            let there_so : Stands q.set q.work m.noted g facts0 =
            stands_again q facts0 facts start l front
            (stands_before q facts (with_given facts (variables_given i)) (map Y.IsGiven (variables_given i), refl) m.stands) in
            by m (reads_now (at_noted now m.noted) there_so met_read (record { state = ok.state; names = ok.names }))
          where
            by : (m : MadeThere q f facts k i (y ∷ []) y.val now) → Reads (at_noted now m.noted) → (v : Foresight) × Current v now
            by m (gives_it r) = (Some (at_noted now m.noted, r), (m.value, m.noted, m.is_there, refl))
            by m (leaves_it h) = (None, (m.value, m.noted, m.is_there, h))

      -- ---- how the run goes

      module _ (ways : List Into) where
        abbrev pub run_write : Run Item Item
        run_write = (part_spot (z q) k (Runs.call_spot (z q) w at kb (Some asker) writer xs) ways).write y

        abbrev notes_it : Item → Run Item Item
        notes_it old = (z q).note (By.Node asker.number) old.val then λ t. gives old

        abbrev replaced_then : Value → Item → Run Item Item
        replaced_then v old = needs (replaced ways old.val v) then renews

        run_is : (now moment : Now Item) (u : Item) → made (z q) k (y ∷ []) y.val now ≡ R.Gives u moment → (reading moment ≡ R.Stuck → ⊥)
            → run_write now ≡ goes_on (goes_on (reading moment) notes_it) (replaced_then u.val)
        run_is now moment u put_so there_is =
            ap (λ e. goes_on e (λ (t : Item). renewed (z q) (Runs.call_spot (z q) w at kb (Some asker) writer xs) ways t.val)) put_so
            ∙ ap (λ e. goes_on e (replaced_then u.val)) (asked_is fit q w places scope at asker.number xs asker.callee moment there_is)

        -- where it is read and gives a value
        read_is : (now moment : Now Item) (u old : Item) (after : Now Item) → made (z q) k (y ∷ []) y.val now ≡ R.Gives u moment → u.val ≡ y.val
            → reading moment ≡ R.Gives old after → run_write now ≡ rest held_there asker.number ways old y.val after
        read_is now moment u old after put_so same_value is_it =
            run_is now moment u put_so (unstuck (reading moment) is_it)
            ∙ ap (λ e. goes_on (goes_on e notes_it) (replaced_then u.val)) is_it
            ∙ under ((z q).note (By.Node asker.number) old.val after) (λ t. gives old) (λ t. needs (replaced ways old.val u.val) then renews)
            (replaced_then u.val)
            (λ t last. refl)
            ∙ ap (λ v. goes_on ((z q).note (By.Node asker.number) old.val after) (λ t. needs (replaced ways old.val v) then renews)) same_value
          where
            unstuck : (e : Ended Item Item) → e ≡ R.Gives old after → e ≡ R.Stuck → ⊥
            unstuck e h s = absurd (cc)

        -- where that leaves the piece
        pub late_leaves : {n : ℕ} {f : Point n} {m : ℕ} {facts : List Fact} {Holds : Point m → Item → Type 0} (now : Now Item) → Current None now
            → EndsWell q f m facts Holds (run_write now)
        late_leaves {n} {f} {m} {facts} {Holds} now current =
            let u = current.0 in
            let h = current.3 in
            let moment = at_noted now current.1 in
            subst (EndsWell q f m facts Holds) (sym (run_is now moment u current.2 (λ e. subst (Leaves q) e h)))
            (leaves_well q (goes_on (goes_on (reading moment) notes_it) (replaced_then u.val))
            (leaves_on q (goes_on (reading moment) notes_it) (replaced_then u.val) (leaves_on q (reading moment) notes_it h)))

        -- where it gives what was known beforehand
        module _ {n : ℕ} {f : Point n} (facts : List Fact) (i : Indices) (is_y : Is q.set q.work f i y) (place at_part : Place) (nested : Bool)
            (x : Reached) (known : Known) (known_read known_ways : List Fact) (read_facts : (walk_read facts0 m0).facts ≡ facts0 ++ known_read)
            (known_is : known.facts ≡ known_read ++ known_ways) (none_given : given_in known_ways ≡ []) where
          abbrev owed_further : Bool
          owed_further = nested && is_late_wanted known.before x.typ

          abbrev again_there : Walk Indices
          again_there = again held_there asker.number ways y y.val

          abbrev pub walk_write : Walk Indices
          walk_write = bind (late_put (here q) at_part k x known again_there nested i) (owed_answer place)

          abbrev put_there : Walk (Unit {0})
          put_there = put k (i ∷ []) Q.Hole i

          abbrev in_it : Walk Wrote
          in_it = bind (in_force known.facts) (λ u. part_write (here q) at_part true x again_there owed_further i)

          module _ (v : (now : Now Item) × Read now) (now : Now Item) (current : Current (Some v) now) (later : Later v.1.point f)
              (true_ways : (c : Integers) → Agree f c → AllTrue (standing q.set.past c) (conditions known_ways))
              (way : WayTo q f held_there v.1.old.val ways x) (met : IsMet q.set q.work f (Aims.Given x.typ) owed_further y.val) where
            abbrev vs : List Fact
            vs = with_given facts (variables_given i)

            behind_put : Stands q.set q.work now.opened f facts
                → AllMet q (made_note facts k (i ∷ []) (Makes.ByIndices i) ∷ given_note facts (By.Node k) i ∷ [])
                → AllMet q (bind in_it (owed_answer place) vs n).notes
                → EndsWell q f (bind in_it (owed_answer place) vs n).next (bind in_it (owed_answer place) vs n).facts
                (λ p a. Is q.set q.work p (bind in_it (owed_answer place) vs n).value a) (run_write now)
            unfolding bind in_force
            behind_put stands notes met_rest =
                let m = made_there q k (i ∷ []) (Makes.ByIndices i) i (y ∷ []) y.val now facts facts notes.0 notes.1.0 stands stands (is_y.typ, tt)
                (λ c a. has_there is_y.has c a) is_y.has in
                let moment_is : v.0 ≡ at_noted now m.noted = current.3 ∙ ap (λ e. after_given e now) (sym current.2 ∙ m.is_there) in
                let put_so : made (z q) k (y ∷ []) y.val now ≡ R.Gives m.value v.0 = m.is_there ∙ ap (λ s. R.Gives m.value s) (sym moment_is) in
                let r = v.1 in
                let at_moment : Stands q.set q.work v.0.opened f vs =
                subst (λ (s : Now Item). Stands q.set q.work s.opened f vs) (sym moment_is) m.stands in
                let at_after : Stands q.set q.work r.after.opened f vs = subst (λ o. Stands q.set q.work o f vs) (sym r.kept) at_moment in
                let at_read : Stands q.set q.work r.after.opened r.point (facts0 ++ known_read) =
                subst (Stands q.set q.work r.after.opened r.point) read_facts r.stands in
                let all_known : Stands q.set q.work r.after.opened f (vs ++ known.facts) =
                subst (λ fs. Stands q.set q.work r.after.opened f (vs ++ fs)) (sym known_is)
                (stands_known q facts0 known_read known_ways vs at_read later true_ways none_given at_after) in
                let l : Later g f = later_on r.later later in
                subst (EndsWell q f (bind in_it (owed_answer place) vs n).next (bind in_it (owed_answer place) vs n).facts
                (λ p a. Is q.set q.work p (bind in_it (owed_answer place) vs n).value a)) (sym (read_is now v.0 m.value r.old r.after put_so m.is_v r.is_it))
                ((rests_fine held_there asker.number ways r.old y.val x place at_part owed_further i (surrounds_on q w scope l there)
                (each_on q ps (argument_aims types) is xs l each) (has_on later r.is_old.has) way is_y.has met).run r.after all_known met_rest r.ok)

            pub late_ends : At q n f facts walk_write now.opened (run_write now) (λ d c a t. Is q.set q.work c a t)
            late_ends =
                at_regrouped put_there (λ t. in_it) (owed_answer place)
                (at_exact put_there (λ t. bind in_it (owed_answer place)) _ (hole_put_is q k n facts i) behind_put)

            -- in a tuple, where nothing is left
            behind_alone : Stands q.set q.work now.opened f facts
                → AllMet q (made_note facts k (i ∷ []) (Makes.ByIndices i) ∷ given_note facts (By.Node k) i ∷ []) → AllMet q (in_it vs n).notes
                → EndsWell q f (in_it vs n).next (in_it vs n).facts (λ p a. Unit {0}) (run_write now)
            unfolding bind in_force
            behind_alone stands notes met_rest =
                let m = made_there q k (i ∷ []) (Makes.ByIndices i) i (y ∷ []) y.val now facts facts notes.0 notes.1.0 stands stands (is_y.typ, tt)
                (λ c a. has_there is_y.has c a) is_y.has in
                let moment_is : v.0 ≡ at_noted now m.noted = current.3 ∙ ap (λ e. after_given e now) (sym current.2 ∙ m.is_there) in
                let put_so : made (z q) k (y ∷ []) y.val now ≡ R.Gives m.value v.0 = m.is_there ∙ ap (λ s. R.Gives m.value s) (sym moment_is) in
                let r = v.1 in
                let at_moment : Stands q.set q.work v.0.opened f vs =
                subst (λ (s : Now Item). Stands q.set q.work s.opened f vs) (sym moment_is) m.stands in
                let at_after : Stands q.set q.work r.after.opened f vs = subst (λ o. Stands q.set q.work o f vs) (sym r.kept) at_moment in
                let at_read : Stands q.set q.work r.after.opened r.point (facts0 ++ known_read) =
                subst (Stands q.set q.work r.after.opened r.point) read_facts r.stands in
                let all_known : Stands q.set q.work r.after.opened f (vs ++ known.facts) =
                subst (λ fs. Stands q.set q.work r.after.opened f (vs ++ fs)) (sym known_is)
                (stands_known q facts0 known_read known_ways vs at_read later true_ways none_given at_after) in
                let l : Later g f = later_on r.later later in
                subst (EndsWell q f (in_it vs n).next (in_it vs n).facts (λ p a. Unit {0})) (sym
                (read_is now v.0 m.value r.old r.after put_so m.is_v r.is_it))
                (alone_fine.run r.after all_known met_rest r.ok)
              where
                alone_fine : Beside q n f (vs ++ known.facts) (part_write (here q) at_part true x again_there owed_further i)
                    (rest held_there asker.number ways v.1.old y.val) (λ d c a t. Unit {0})
                alone_fine =
                    index_alone held_there asker.number ways v.1.old y.val x place at_part owed_further i
                    (surrounds_on q w scope (later_on v.1.later later) there)
                    (each_on q ps (argument_aims types) is xs (later_on v.1.later later) each) (has_on later v.1.is_old.has) way is_y.has met

            pub late_alone : At q n f facts (late_put (here q) at_part k x known again_there nested i) now.opened (run_write now) (λ d c a t. Unit {0})
            late_alone = at_exact put_there (λ t. in_it) _ (hole_put_is q k n facts i) behind_alone
