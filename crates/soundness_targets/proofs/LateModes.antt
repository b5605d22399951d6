-- A part of what a call gives, as a part of a tuple: it is read where it is written.
use Rattle.std.proofs.Common.{◌≡◌, ◌∙◌, ◌-◌, ℕ, Bool, true, false, List, [], ◌∷◌, drop, if◌then◌else◌, length, take, Option, Some, None}
use Rattle.std.proofs.Common.{refl, sym, ap, subst}
use Rattle.std.specs.Prelude.{replicate}
use Rattle.sail_base.specs.declared.place.Place.{Place}
use Rattle.sail_types.specs.declared.types.Typ.{Typ}
use Rattle.sail_core.specs.Making.{World}
use Rattle.sail_core.specs.Run.{Ended, Now, Run, ◌then◌}
use Rattle.sail_core.specs.Targets as Runs
use Rattle.sail_core.specs.Targets.{part_spot}
use Rattle.sail_core.specs.Values.{Into}
use Rattle.sail_core.specs.declared.targets.Caller.{Caller}
use Rattle.sail_core.specs.declared.targets.Suffix.{Suffix}
use Rattle.value_indices.specs.Steps.{Walk, bind, give}
use Rattle.value_indices.specs.declared.indices.Indices.{Indices}
use Rattle.value_indices.specs.declared.indices.Indices.TheOpen as W
use Rattle.value_indices.specs.declared.indices.Indices.TheOpen.{Reading-F}
use Rattle.value_indices.specs.declared.indices.Indices.TheViews.{roll-out-Reading}
use Rattle.value_indices.specs.declared.indices.Reading.{Reading, out-Reading, roll-Reading}
use Rattle.value_indices.specs.declared.indices.Reading.TheVariants as Q
use Rattle.value_indices.specs.declared.notes.Fact.{Fact}
use Rattle.value_fits.specs.Fitting.{says}
use Rattle.value_fits.specs.declared.fitted.Fitted.{Fitted}
use Rattle.pattern_leaves.specs.Settings.{Scope}
use Rattle.call_arguments.specs.Aims.{aimed, is_hole_form}
use Rattle.call_arguments.specs.declared.aims.Aim.TheVariants as Aims
use Rattle.call_notes.specs.Calls.{called, callee_types}
use Rattle.expression_forms.specs.Nodes.{put}
use Rattle.expression_forms.specs.Spots as Walked
use Rattle.expression_forms.specs.Spots.{Spot, call_spot, is_late_wanted, late_put, owes_itself, rewritten, wrong_spot, wrong_write}
use Rattle.expression_forms.specs.declared.spots.Known.{Known}
use Rattle.expression_forms.specs.declared.ways.Reached.{Reached}
use Rattle.expression_steps.specs.Calls.{argument_aims, nestings}
use Rattle.expression_steps.specs.Parts.{Part, each_walk}
use Rattle.expression_steps.specs.Targets.{Spotted, each_late}
use Rattle.checked_meaning.specs.Checked.{Noted}
use Rattle.checked_meaning.specs.Items.{Item}
use Rattle.fitting_laws.specs.Fitting.{Suffices}
use Rattle.fitting_laws.proofs.Joining.{says_so}
use Rattle.value_laws.specs.Known.{Point}
use Rattle.soundness_steps.specs.Points.{Later}
use Rattle.soundness_steps.proofs.Points.{later_on}
use Rattle.soundness_steps.specs.States.{Sound}
use Rattle.soundness_steps.specs.Steps.{AllMet, EndsWell, Grows, Stands, Walks}
use Rattle.soundness_steps.specs.Values.{AimSteady, Is, IsMet}
use Rattle.soundness_steps.specs.Works.{Scene, here}
use Rattle.soundness_steps.proofs.Steps.{met_front, walks_on, well_on}
use Rattle.soundness_forms.specs.Calls.{CalleeFits}
use Rattle.soundness_forms.specs.Forms.{FitsSuffice}
use Rattle.soundness_forms.specs.Mappings.{MappingsClosed}
use Rattle.soundness_forms.specs.Worlds.{Surrounds}
use Rattle.soundness_forms.proofs.Basics.{wrong_walks}
use Rattle.soundness_forms.proofs.Parts.{EachIs}
use Rattle.soundness_parts.proofs.Taken.{z}
use Rattle.soundness_values.specs.Named.{TypesNarrow}
use Rattle.soundness_targets.proofs.Behind.{ends_means}
use Rattle.soundness_targets.proofs.LateAssigned.{met_by}
use Rattle.soundness_targets.proofs.LateFound.{Foreseen, Foresees, ReadAt, foresees_on, known, read_facts, spot_at}
use Rattle.soundness_targets.proofs.LateGrowth.{call_base, late_spot_grows}
use Rattle.soundness_targets.proofs.LateWrites.{Current, foreseen, late_alone, late_leaves}
use Rattle.soundness_targets.proofs.Modes.{front_then, left_of}
use Rattle.soundness_targets.proofs.Moments.{Front}
use Rattle.soundness_targets.proofs.PartAssigned.{split_last}
use Rattle.soundness_targets.proofs.Trees.{Ends, There, Trees, ends_each}
use Rattle.soundness_targets.proofs.TupleGrowth.{wrong_write_grows}
use Rattle.soundness_targets.proofs.TupleTypes.{Typed, typed_on}
use Rattle.soundness_targets.proofs.TupleWrites.{Meets, ends_before}
use Rattle.soundness_targets.proofs.Written.{Says, Stays, Written}

-- a type that may be an aim is a hole, or is steady
module _ (q : Scene) {n : ℕ} (f : Point n) (r : Reading) (h : AimSteady q.set q.work f (aimed Aims.Given r)) where
  pub typed_by : (x : Reading-F Indices Reading) → out-Reading r ≡ x → Typed q f r
  typed_by W.Hole e = (true, sym (roll-out-Reading r) ∙ ap roll-Reading e ∙ Q.rolls-Hole)
  typed_by (W.Of t is rs) e = (false, subst (AimSteady q.set q.work f) (λ j. if is_hole_form (e j) then Aims.Free else Aims.Given r) h)
  typed_by (W.Widened i) e = (false, subst (AimSteady q.set q.work f) (λ j. if is_hole_form (e j) then Aims.Free else Aims.Given r) h)
  typed_by (W.Parts rs) e = (false, subst (AimSteady q.set q.work f) (λ j. if is_hole_form (e j) then Aims.Free else Aims.Given r) h)

  pub typed_of : Typed q f r
  typed_of = typed_by (out-Reading r) refl

module _ (fit : FitsSuffice) (q : Scene) (w : World Item) (narrow : TypesNarrow q.set.around.types) (places : (i : ℕ) → CalleeFits q.set i)
    (mappings : MappingsClosed q.set) (scope : Scope) (at : Place) (k : ℕ) (r : Suffix) (ss : List Suffix) (base_at : Place) (kb count : ℕ) (asker : Caller)
    (writer : Caller) {n : ℕ} (f : Point n) (m : ℕ) (fs : List Fact)
    (ps : List Part) where
  -- ---- the walk

  abbrev pub types : List Typ
  types = callee_types (here q) writer.callee

  abbrev pub arguments : List Part
  arguments = take count ps

  abbrev pub others : List Part
  others = drop count ps

  abbrev pub args_walk : Walk (List Indices)
  args_walk = each_walk arguments (here q) scope (argument_aims types)

  abbrev pub ma : ℕ
  ma = (args_walk fs m).next

  abbrev pub fsa : List Fact
  fsa = (args_walk fs m).facts

  abbrev pub is : List Indices
  is = (args_walk fs m).value

  abbrev pub base_for : List Indices → Spot
  base_for js = call_spot (here q) base_at kb (Some asker) writer (nestings arguments) js

  abbrev pub base : Spot
  base = call_spot (here q) base_at kb (Some asker) writer (nestings arguments) is

  abbrev pub reads : Walk Indices
  reads = called (here q) base_at asker.number asker.callee (replicate (length is) false) is

  abbrev pub own_place : Place
  own_place = if owes_itself (split_last r ss).0.way then (split_last r ss).0.place else at

  abbrev pub held : Indices
  held = (reads fsa ma).value

  abbrev pub late_walk : Walk (Option Spotted)
  late_walk = each_late at k (r ∷ ss) (here q) scope base others

  abbrev pub md : ℕ
  md = (late_walk fsa ma).next

  abbrev pub fsd : List Fact
  fsd = (late_walk fsa ma).facts

  abbrev pub spot_in : Option Spotted → Spot
  spot_in None = wrong_spot at
  spot_in (Some s) = s.spot

  abbrev pub the_spot : Spot
  the_spot = spot_in (late_walk fsa ma).value

  -- ---- what the target's arguments have come to

  pub record Begun : Type 0 where
    pub values : List Item
    pub point : Point ma
    pub later : Later f point
    pub each : EachIs q.set q.work point arguments (argument_aims types) is values
    pub there : Surrounds q w point scope
    pub noted : Noted
    pub start : Stands q.set q.work noted point fsa
    pub met : AllMet q (reads fsa ma).notes

  abbrev pub Knows : Begun → Type 0
  Knows d = Foreseen fit q w narrow places mappings scope at k r ss base_at kb asker writer arguments is d.values fsa d.there d.each

  abbrev pub Foretold : Begun → Type 0
  Foretold d = (read_at : Now Item)
      × ReadAt fit q w narrow places mappings scope at k r ss base_at kb asker writer arguments is d.values fsa d.there d.each read_at

  abbrev pub Sees : (d : Begun) → Knows d → {c : ℕ} → Point c → Option Reached → Known → List Into → Type 0
  Sees d v g x kn ts =
      Foresees fit q w narrow places mappings scope at k r ss base_at kb asker writer arguments is d.values fsa d.there d.each v g x kn ts

  abbrev pub spot_for : Begun → Option Reached → Known → Spot
  spot_for d x kn =
      spot_at fit q w narrow places mappings scope at k r ss base_at kb asker writer arguments is d.values fsa d.there d.each x kn

  -- what it will be read as, or nothing of that
  abbrev pub paths : Trees
  paths = record {
    Path = (d : Begun) × Knows d;
    Tree = λ P. (d : Begun) × ((v : Knows d) → P (d, v));
    map = λ say t. (t.0, λ v. say (t.0, v) (t.1 v));
    pick = λ t. ((t.0, None), t.1 None);
  }

  abbrev pub Ran : Type 0
  Ran = List Item × List Into

  abbrev pub view : Ran → Runs.Spot Item
  view p = part_spot (z q) k (Runs.call_spot (z q) w base_at kb (Some asker) writer p.0) p.1

  pub record Ready (v : paths.Path) {c : ℕ} (g : Point c) (gs : List Fact) (p : Ran) : Type 0 where
    pub values_same : p.0 ≡ v.0.values
    pub later : Later v.0.point g
    pub front : Front fsa gs
    pub reached : Option Reached
    pub known_there : Known
    pub spot_is : the_spot ≡ spot_for v.0 reached known_there
    pub is_typed : Typed q g (spot_for v.0 reached known_there).typ
    pub sees : Sees v.0 v.1 g reached known_there p.1

  pub ready_on : (v : paths.Path) (c d : ℕ) (g : Point c) (h : Point d) (gs hs : List Fact) (p : Ran) → Later g h → Front gs hs
      → Ready v g gs p → Ready v h hs p
  ready_on v c d g h gs hs p l e rd = record {
    values_same = rd.values_same;
    later = later_on rd.later l;
    front = front_then fsa gs hs rd.front e;
    reached = rd.reached;
    known_there = rd.known_there;
    spot_is = rd.spot_is;
    is_typed = typed_on q (spot_for v.0 rd.reached rd.known_there).typ l rd.is_typed;
    sees = foresees_on fit q w narrow places mappings scope at k r ss base_at kb asker writer arguments is v.0.values fsa v.0.there v.0.each
        v.1 rd.reached rd.known_there p.1 l rd.sees;
  }

  -- ---- nothing is left to owe

  pub wrong_left : (p : Place) (facts : List Fact) (c : ℕ) → (wrong_write p facts c).value.left ≡ says []
  unfolding bind give
  wrong_left p facts c = refl

  pub late_left : (x : Reached) (kn : Known) (nested : Bool) (i : Indices) (facts : List Fact) (c : ℕ)
      → (late_put (here q) own_place k x kn (rewritten base held) nested i facts c).value.left ≡ says []
  unfolding bind give
  late_left x kn nested i facts c = refl

  pub left_by : (d : Begun) (x : Option Reached) (kn : Known) (nested : Bool) (i : Indices) (facts : List Fact) (c : ℕ)
      → ((spot_for d x kn).write nested i facts c).value.left ≡ says []
  left_by d None kn nested i facts c = wrong_left _ facts c
  left_by d (Some x) kn nested i facts c = late_left x kn nested i facts c

  pub left_none : (v : paths.Path) {c : ℕ} (g : Point c) (gs : List Fact) (p : Ran) → Ready v g gs p → (nested : Bool) (i : Indices) (facts : List Fact) (e : ℕ)
      → (the_spot.write nested i facts e).value.left ≡ says []
  left_none v g gs p rd nested i facts e =
      ap (λ (s : Spot). (s.write nested i facts e).value.left) rd.spot_is ∙ left_by v.0 rd.reached rd.known_there nested i facts e

  pub left_suffices : (v : paths.Path) {c : ℕ} (g : Point c) (gs : List Fact) (p : Ran) → Ready v g gs p → (nested : Bool) (i : Indices) (d : ℕ) (b : Point d)
      → Suffices q.set.past d b (left_of the_spot nested i d) (λ e. Unit {0})
  left_suffices v g gs p rd nested i d b =
      subst (λ (left : ℕ → Fitted). Suffices q.set.past d b (left d) (λ e. Unit {0})) (sym (left_none v g gs p rd nested i [] 0)) (says_so [] (λ e a s. tt))

  -- ---- it is written

  pub spot_grows : (d : Begun) (x : Option Reached) (kn : Known) (nested : Bool) (i : Indices) → Grows ((spot_for d x kn).write nested i)
  spot_grows d None kn nested i = (wrong_write_grows _ nested i).0
  spot_grows d (Some x) kn nested i =
      (late_spot_grows (here q) _ k base (call_base (here q) base_at kb (Some asker) writer (nestings arguments) is).renews held x kn nested i).0

  pub late_grows : (v : paths.Path) {c : ℕ} (g : Point c) (gs : List Fact) (p : Ran) → Ready v g gs p → (nested : Bool) (i : Indices)
      → Grows (the_spot.write nested i)
  late_grows v g gs p rd nested i =
      subst (λ (s : Spot). Grows (s.write nested i)) (sym rd.spot_is) (spot_grows v.0 rd.reached rd.known_there nested i)

  pub none_written : {c : ℕ} {g : Point c} {gs : List Fact} (p : Place) (nested : Bool) (i : Indices)
      → Walks q c g gs ((wrong_spot p).write nested i) (λ b h a. ⊥)
  none_written p nested i = walks_on Walked.gives (wrong_walks p) (λ b h gs a l e. absurd e)

  module _ (nested : Bool) (i : Indices) (gs : List Fact) (c : ℕ) (p : Ran) (u : Item) (end : ℕ)
      (U : Trees) (Keep : U.Path → (m : ℕ) → Point m → Type 0) (stays : (r : U.Path) → Stays (Keep r)) (met : AllMet q (the_spot.write nested i gs c).notes)
      (now : Now Item) (ok : Sound q now) where
    abbrev pub Said : paths.Path → U.Path → Point c → Type 0
    Said v b g = (rd : Ready v g gs p) × Meets q g the_spot nested i u × Says q end gs g (λ e. Unit {0}) × Keep b c g

    abbrev pub next : ℕ
    next = (the_spot.write nested i gs c).next

    abbrev pub Wrote_so : Ended Item Item → Type 0
    Wrote_so e = Ends q U (λ b x after. There q f next gs (λ g. Keep b next g) after) e

    abbrev pub run_of : List Item → Run Item Item
    run_of xs = (part_spot (z q) k (Runs.call_spot (z q) w base_at kb (Some asker) writer xs) p.1).write u

    module _ (d : Begun) (tree : (v : Knows d) → U.Tree (λ b. There q f c gs (Said (d, v) b) now)) where
      abbrev pub Now_is : Knows d → Type 0
      Now_is v = Current fit q w places mappings scope base_at kb writer arguments is d.values asker fsa d.there d.each k u v now

      pub put_met : (x : Reached) (kn : Known) → AllMet q ((spot_for d (Some x) kn).write nested i gs c).notes → AllMet q (put k (i ∷ []) Q.Hole i gs c).notes
      unfolding bind
      put_met x kn all = met_front q (put k (i ∷ []) Q.Hole i gs c).notes _ all

      pub learns_by : {g : Point c} → Later d.point g → Front fsa gs → Stands q.set q.work now.opened g gs → Is q.set q.work g i u → (x : Option Reached)
          (kn : Known) → AllMet q ((spot_for d x kn).write nested i gs c).notes → (v : Knows d) × Now_is v
      learns_by l front stands is_u None kn all = absurd ((none_written _ nested i).go now.opened stands all).holds
      learns_by l front stands is_u (Some x) kn all =
          foreseen fit q w places mappings scope base_at kb writer arguments is d.values asker fsa d.there d.each k u i is_u d.start d.met l
          front now stands (put_met x kn all) ok

      pub blind : (b : U.Path) × There q f c gs (Said (d, None) b) now
      blind = U.pick {P = λ b. There q f c gs (Said (d, None) b) now} (tree None)

      pub learned : (v : Knows d) × Now_is v
      learned =
          let h = blind.1 in
          let rd = h.holds.0 in
          learns_by rd.later rd.front h.stands h.holds.1.0 rd.reached rd.known_there
          (subst (λ (s : Spot). AllMet q (s.write nested i gs c).notes) rd.spot_is met)

      abbrev pub EndsSo : Spot → Point c → Type 0
      EndsSo s g = AllMet q (s.write nested i gs c).notes
          → EndsWell q g (s.write nested i gs c).next (s.write nested i gs c).facts (λ b x. Unit {0}) (run_of d.values now)

      pub spot_ends : (v : Foretold d) → Now_is (Some v) → {g : Point c} → Stands q.set q.work now.opened g gs → Is q.set q.work g i u
          → (x : Option Reached) (kn : Known) → Sees d (Some v) g x kn p.1 → IsMet q.set q.work g (aimed Aims.Given (spot_for d x kn).typ) nested u.val
          → EndsSo (spot_for d x kn) g
      spot_ends v current stands is_u None kn sees is_met all = absurd ((none_written _ nested i).go now.opened stands all).holds
      spot_ends v current {g} stands is_u (Some x) kn sees is_met all =
          (late_alone fit q w places mappings scope base_at kb writer arguments is d.values asker fsa d.there d.each k u p.1 gs i is_u at _
          nested x kn
          (known fit q w narrow places mappings scope at k r ss base_at kb asker writer arguments is d.values fsa d.there d.each) sees.ways
          (read_facts fit q w narrow places mappings scope at k r ss base_at kb asker writer arguments is d.values fsa d.there d.each)
          sees.is_known sees.none v now current sees.later sees.are_true sees.way
          (met_by q g u.val x.typ sees.way.wanted.1 (is_late_wanted kn.before x.typ) nested is_met)).go stands all

      pub one_ends : (v : Foretold d) → Now_is (Some v) → (b : U.Path) → There q f c gs (Said (d, Some v) b) now
          → EndsWell q f next gs (λ g x. Keep b next g) (run_of d.values now)
      one_ends v current b h =
          let g = h.point in
          let rd = h.holds.0 in
          let grows = late_grows (d, Some v) g gs p rd nested i in
          well_on h.later (ends_before (grows.more gs c, grows.extends gs c) (ends_means (λ a x l e. stays b c next g a l h.holds.3)
          (subst (λ (s : Spot). EndsSo s g) (sym rd.spot_is)
          (spot_ends v current h.stands h.holds.1.0 rd.reached rd.known_there rd.sees
          (subst (λ (s : Spot). IsMet q.set q.work g (aimed Aims.Given s.typ) nested u.val) rd.spot_is h.holds.1.1)) met)))

      pub known_ends : (v : Knows d) → Now_is v → Wrote_so (run_of d.values now)
      known_ends None current =
          ends_each q U {P = λ b. There q f c gs (Said (d, None) b) now} (tree None) f next gs (λ b g x. Keep b next g) (run_of d.values now) (λ b h.
          late_leaves fit q w places mappings scope base_at kb writer arguments is d.values asker fsa d.there d.each k u p.1 now current)
      known_ends (Some v) current =
          ends_each q U {P = λ b. There q f c gs (Said (d, Some v) b) now} (tree (Some v)) f next gs (λ b g x. Keep b next g) (run_of d.values now)
          (one_ends v current)

      pub written : Wrote_so ((view p).write u now)
      written =
          let v = learned in
          subst (λ xs. Wrote_so (run_of xs now)) (sym blind.1.holds.0.values_same) (known_ends v.0 v.1)

  abbrev pub late_mode : Written q f the_spot
  late_mode = record {
    T = paths;
    P = Ran;
    view = view;
    Ready = λ v c g gs p. Ready v g gs p;
    on = ready_on;
    typed = λ v c g gs p rd. subst (λ (s : Spot). Typed q g s.typ) (sym rd.spot_is) rd.is_typed;
    grows = λ v c g gs p rd nested i. late_grows v g gs p rd nested i;
    left_same = λ v c g gs p rd nested i facts e. left_none v g gs p rd nested i facts e ∙ sym (left_none v g gs p rd nested i [] 0);
    Due = λ v c g gs p rd nested i u e. Unit {0};
    due_on = λ v c d g h gs hs p l e rd nested i u b due. tt;
    suffice = λ v c g gs p rd nested i u meet d b l. left_suffices v g gs p rd nested i d b;
    writes = λ nested i gs c p u last U Keep stays le met now ok tree. written nested i gs c p u last U Keep stays met now ok tree.0 tree.1;
  }
