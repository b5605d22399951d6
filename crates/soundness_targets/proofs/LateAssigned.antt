-- An assignment to a part of what a call gives: what the call is read as behind the value is foreseen, once a pass without that has ended as the run does.
use Rattle.std.proofs.Common.{◌≡◌, ◌&&◌, ℕ, Bool, true, false, List, [], ◌∷◌, if◌then◌else◌, length, Option, Some, None}
use Rattle.std.proofs.Common.{refl, sym, subst}
use Rattle.std.proofs.lemmas.List.{append-nil}
use Rattle.sail_base.specs.declared.place.Place.{Place}
use Rattle.sail_types.specs.declared.values.Value.{Value}
use Rattle.sail_core.specs.Making.{World}
use Rattle.sail_core.specs.Run.{Now, Run, gives, ◌then◌}
use Rattle.sail_core.specs.Targets as Runs
use Rattle.sail_core.specs.Targets.{part_spot, ways_of}
use Rattle.sail_core.specs.Values.{Into}
use Rattle.sail_core.specs.declared.targets.Caller.{Caller}
use Rattle.sail_core.specs.declared.targets.Suffix.{Suffix}
use Rattle.value_indices.specs.Steps.{Walk, bind, give, next_variable, scoped}
use Rattle.value_indices.specs.declared.indices.Indices.{Indices}
use Rattle.value_indices.specs.declared.indices.Indices.TheVariants as I
use Rattle.value_indices.specs.declared.indices.Reading.{Reading}
use Rattle.value_indices.specs.declared.indices.Reading.TheVariants as R
use Rattle.value_indices.specs.declared.notes.Fact.{Fact}
use Rattle.pattern_leaves.specs.Settings.{Scope}
use Rattle.call_arguments.specs.Aims.{aimed}
use Rattle.call_arguments.specs.Holes.{has_hole, value_has_hole}
use Rattle.call_arguments.specs.declared.aims.Aim.TheVariants as Aims
use Rattle.expression_forms.specs.Nodes.{put}
use Rattle.expression_forms.specs.Spots as Walked
use Rattle.expression_forms.specs.Spots.{Spot, is_late_wanted, owed_answer, written_by, wrong_spot}
use Rattle.expression_forms.specs.declared.spots.Known.{Known}
use Rattle.expression_forms.specs.declared.ways.Reached.{Reached}
use Rattle.expression_steps.specs.Parts.{Part}
use Rattle.expression_steps.specs.Targets.{Spotted, is_short, spotted, then_assigned}
use Rattle.checked_meaning.specs.Items.{Item}
use Rattle.value_laws.specs.Known.{Point}
use Rattle.soundness_steps.specs.Points.{Later}
use Rattle.soundness_steps.specs.States.{Sound}
use Rattle.soundness_steps.specs.Steps.{AllMet, Beside, EndsWell, Grows, Stands, Walks}
use Rattle.soundness_steps.specs.Values.{Is, IsMet}
use Rattle.soundness_steps.specs.Works.{Scene, here}
use Rattle.soundness_steps.proofs.Steps.{binds, given_back, means, met_front, rests, runs_as, walks_on}
use Rattle.soundness_forms.specs.Calls.{CalleeFits}
use Rattle.soundness_forms.specs.Forms.{AllFine, FitsSuffice}
use Rattle.soundness_forms.specs.Mappings.{MappingsClosed}
use Rattle.soundness_forms.specs.Worlds.{Surrounds}
use Rattle.soundness_forms.proofs.Basics.{wrong_walks}
use Rattle.soundness_forms.proofs.Growth.{grows_bind, grows_give}
use Rattle.soundness_forms.proofs.Leaving.{aimed_is}
use Rattle.soundness_forms.proofs.Worlds.{surrounds_on}
use Rattle.soundness_parts.proofs.PartGrowth.{grows_bind_at}
use Rattle.soundness_parts.proofs.SliceSteps.{under}
use Rattle.soundness_parts.proofs.Taken.{z}
use Rattle.soundness_values.specs.Named.{TypesNarrow}
use Rattle.soundness_targets.proofs.LateFound.{Foreseen, Foresees, Spots, foresees_on, held, known, read_facts, reads, spot_at, spots_late}
use Rattle.soundness_targets.proofs.LateFound.{walk_spot}
use Rattle.soundness_targets.proofs.LateGrowth.{call_base, each_late_gives, each_late_grows}
use Rattle.soundness_targets.proofs.LatePasses.{GoesKnown, Learns, late_passes}
use Rattle.soundness_targets.proofs.LateWrites.{Arguments, Current, foreseen, late_ends, late_leaves}
use Rattle.soundness_targets.proofs.Moments.{Front, front_on}
use Rattle.soundness_targets.proofs.Pieces.{both, walk_spread}
use Rattle.soundness_targets.proofs.Rights.{IsWritten, Right, RightFine, Splits, spot_first, spot_last, spot_same}
use Rattle.soundness_targets.proofs.TargetGrowth.{AnyGrow, SpottedGrow, grow_of}
use Rattle.soundness_targets.proofs.TupleGrowth.{WriteGrows}

-- what is owed further in of the new value is met where it is wanted of it
module _ (q : Scene) {n : ℕ} (f : Point n) (y : Value) where
  pub met_by : (t : Reading) → has_hole t ≡ false → (b nested : Bool) → IsMet q.set q.work f (aimed Aims.Given (if b then t else R.Hole)) nested y
      → IsMet q.set q.work f (Aims.Given t) (nested && b) y
  met_by t whole true true h = subst (λ aim. IsMet q.set q.work f aim true y) (aimed_is Aims.Given t whole) h
  met_by t whole true false h = tt
  met_by t whole false true h = tt
  met_by t whole false false h = tt

module _ (fit : FitsSuffice) (q : Scene) (w : World Item) (narrow : TypesNarrow q.set.around.types) (places : (i : ℕ) → CalleeFits q.set i)
    (mappings : MappingsClosed q.set) (scope : Scope) (at : Place) (k : ℕ) (r : Suffix) (ss : List Suffix) (base_at : Place) (kb : ℕ) (asker : Caller)
    (writer : Caller) (ps : List Part) (is : List Indices)
    (xs : List Item) {m0 : ℕ} {g : Point m0} (facts0 : List Fact) (there : Surrounds q w g scope)
    (each : Arguments fit q w places mappings scope base_at kb writer ps is xs g)
    (no_hole : value_has_hole (held fit q w narrow places mappings scope at k r ss base_at kb asker writer ps is xs facts0 there each) ≡ false)
    (left : List Part) (us : List (Run Item Item)) (enough : is_short (r ∷ ss) (length left) ≡ false) (fine : AllFine q w left us)
    (place : Place) (right : Right) (right_fine : RightFine q w place scope right) where
  abbrev Knows : Type 0
  Knows = Foreseen fit q w narrow places mappings scope at k r ss base_at kb asker writer ps is xs facts0 there each

  abbrev spot_for : Option Reached → Known → Spot
  spot_for x kn = spot_at fit q w narrow places mappings scope at k r ss base_at kb asker writer ps is xs facts0 there each x kn

  abbrev Sees : Knows → {n : ℕ} → Point n → Option Reached → Known → Runs.Spotted Item (List Into) → Type 0
  Sees v f x kn t = Foresees fit q w narrow places mappings scope at k r ss base_at kb asker writer ps is xs facts0 there each v f x kn t.found

  abbrev Found : Knows → {n : ℕ} → Point n → Option Spotted → Runs.Spotted Item (List Into) → Type 0
  Found v f o t =
      Spots fit q w narrow places mappings scope at k r ss base_at kb asker writer ps is xs facts0 there each no_hole left v f o t

  abbrev target_walk : Walk (Option Spotted)
  target_walk = walk_spot fit q w narrow places mappings scope at k r ss base_at kb asker writer ps is xs facts0 there each no_hole left

  -- ---- behind the value

  abbrev Valued : Knows → {n : ℕ} → Point n → Option Spotted → Indices → Runs.Spotted Item (List Into) → Item → Type 0
  Valued v f o i t y =
      (x : Option Reached) × (kn : Known) × (others : List Part) × (o ≡ spotted (spot_for x kn) others) × Sees v f x kn t
      × IsWritten q w place scope right f (spot_for x kn) others i y

  value_fine : (v : Knows) {n : ℕ} {f : Point n} {facts : List Fact} (o : Option Spotted) (t : Runs.Spotted Item (List Into)) → Surrounds q w f scope
      → Found v f o t → Beside q n f facts (spot_first right o) (right.run t.left) (λ m p i y. Valued v p o i t y)
  value_fine v {n} {f} {facts} o t around h =
      let s = h.1 in
      subst (λ c. Beside q n f facts (spot_first right c) (right.run t.left) (λ m p i y. Valued v p o i t y)) (sym s.2)
      (means (λ m p i y l c. (
        s.0,
        s.1,
        _,
        s.2,
        foresees_on fit q w narrow places mappings scope at k r ss base_at kb asker writer ps is xs facts0 there each v s.0 s.1 t.found l s.4,
        c,
      ))
      (right_fine.goes n f facts (spot_for s.0 s.1) _ t.left h.0 around s.3))

  abbrev with_value : Walk (Option Spotted × Indices)
  with_value = bind target_walk (λ o. bind (spot_first right o) (λ i. give (both o i)))

  abbrev run_value : Run Item (Runs.Spotted Item (List Into) × Item)
  run_value = ways_of (z q) (r ∷ ss) us then λ t. right.run t.left then λ y. gives (both t y)

  abbrev Holds : Knows → (m : ℕ) → Point m → Option Spotted × Indices → Runs.Spotted Item (List Into) × Item → Type 0
  Holds v m p c d = Valued v p c.0 c.1 d.0 d.1

  values : (v : Knows) → Beside q m0 g facts0 with_value run_value (Holds v)
  values v =
      binds (λ o. bind (spot_first right o) (λ i. give (both o i))) (λ t. right.run t.left then λ y. gives (both t y))
      (spots_late fit q w narrow places mappings scope at k r ss base_at kb asker writer ps is xs facts0 there each no_hole left enough us fine v)
      (λ m p fs o t l h.
      binds (λ i. give (both o i)) (λ y. gives (both t y)) (value_fine v o t (surrounds_on q w scope l there) h) (λ d c gs i y l2 e.
      rests (both t y) (given_back (both o i) e)))

  with_grows : Grows with_value
  with_grows =
      let grow : AnyGrow (here q) scope left = grow_of q w (here q) scope left us fine in
      let b = call_base (here q) base_at kb (Some asker) writer _ is in
      grows_bind_at (SpottedGrow (here q) scope WriteGrows) target_walk (λ o. bind (spot_first right o) (λ i. give (both o i)))
      (each_late_gives (here q) scope at k (r ∷ ss) _ b left grow) (each_late_grows (here q) scope at k (r ∷ ss) _ b left grow) (λ o e.
      grows_bind (spot_first right o) (λ i. give (both o i)) (first_grows o e) (λ i. grows_give (both o i)))
    where
      first_grows : (o : Option Spotted) → SpottedGrow (here q) scope WriteGrows o → Grows (spot_first right o)
      first_grows None e = grows_give I.Never
      first_grows (Some c) e = right_fine.grows c.spot c.left e.0

  front : Front facts0 (with_value facts0 m0).facts
  front = front_on facts0 facts0 m0 with_value with_grows ([], sym (append-nil facts0))

  -- ---- what is written

  abbrev run_write : Runs.Spotted Item (List Into) × Item → Run Item Item
  run_write c = (part_spot (z q) k (Runs.call_spot (z q) w base_at kb (Some asker) writer xs) c.0.found).write c.1

  abbrev Now_is : Knows → Runs.Spotted Item (List Into) × Item → Now Item → Type 0
  Now_is v c now = Current fit q w places mappings scope base_at kb writer ps is xs asker facts0 there each k c.1 v now

  abbrev walk_write : Option Spotted × Indices → Walk Indices
  walk_write c = spot_last right c.0 c.1

  none_written : {n : ℕ} {f : Point n} {facts : List Fact} (p : Place) (nested : Bool) (i : Indices)
      → Walks q n f facts (written_by place (wrong_spot p) nested i) (λ m c a. ⊥)
  none_written p nested i = walks_on (owed_answer place) (walks_on Walked.gives (wrong_walks p) (λ m c fs a l e. absurd e)) (λ m c fs a l e. absurd e)

  -- what is met in front
  read_met : AllMet q (with_value facts0 m0).notes
      → AllMet q (reads fit q w narrow places mappings scope at k r ss base_at kb asker writer ps is xs facts0 there each facts0 m0).notes
  unfolding bind next_variable scoped give
  read_met met = met_front q _ [] (met_front q _ _ (met_front q _ _ met))

  put_met : (n : ℕ) (facts : List Fact) (x : Reached) (kn : Known) (nested : Bool) (i : Indices)
      → AllMet q (written_by place (spot_for (Some x) kn) nested i facts n).notes → AllMet q (put k (i ∷ []) R.Hole i facts n).notes
  unfolding bind
  put_met n facts x kn nested i met = met_front q (put k (i ∷ []) R.Hole i facts n).notes _ (met_front q _ _ met)

  module _ {n : ℕ} {f : Point n} {facts : List Fact} (l : Later g f) (before : Front facts0 facts) (o : Option Spotted) (i : Indices)
      (t : Runs.Spotted Item (List Into)) (y : Item) (now : Now Item) (ok : Sound q now) (stands : Stands q.set q.work now.opened f facts) where
    -- it is known at the end of a pass
    learns_by : (start : Now Item) → Stands q.set q.work start.opened g facts0 → AllMet q (with_value facts0 m0).notes → (x : Option Reached) (kn : Known)
        (nested : Bool) → Is q.set q.work f i y → AllMet q (written_by place (spot_for x kn) nested i facts n).notes → (v : Knows) × Now_is v (t, y) now
    learns_by start begin met None kn nested is_y all = absurd ((none_written _ nested i).go now.opened stands all).holds
    learns_by start begin met (Some x) kn nested is_y all =
        foreseen fit q w places mappings scope base_at kb writer ps is xs asker facts0 there each k y i is_y begin (read_met met) l before now
        stands (put_met n facts x kn nested i all) ok

    abbrev Ends : Walk Indices → Type 0
    Ends walk = AllMet q (walk facts n).notes
        → EndsWell q f (walk facts n).next (walk facts n).facts (λ p u. Is q.set q.work p (walk facts n).value u) (run_write (t, y) now)

    writes_by : (v : Knows) → Now_is v (t, y) now → (x : Option Reached) (kn : Known) (nested : Bool) → Sees v f x kn t → Is q.set q.work f i y
        → IsMet q.set q.work f (aimed Aims.Given (spot_for x kn).typ) nested y.val → Ends (written_by place (spot_for x kn) nested i)
    writes_by None current x kn nested sees is_y met all =
        late_leaves fit q w places mappings scope base_at kb writer ps is xs asker facts0 there each k y t.found now current
    writes_by (Some v) current None kn nested sees is_y met all = absurd ((none_written _ nested i).go now.opened stands all).holds
    writes_by (Some v) current (Some x) kn nested sees is_y met all =
        (late_ends fit q w places mappings scope base_at kb writer ps is xs asker facts0 there each k y t.found facts i is_y place _ nested x kn
        (known fit q w narrow places mappings scope at k r ss base_at kb asker writer ps is xs facts0 there each) sees.ways
        (read_facts fit q w narrow places mappings scope at k r ss base_at kb asker writer ps is xs facts0 there each) sees.is_known sees.none v
        now current sees.later sees.are_true sees.way
        (met_by q f y.val x.typ sees.way.wanted.1 (is_late_wanted kn.before x.typ) nested met)).go stands all

    learns_at : (v : Knows) (start : Now Item) → Stands q.set q.work start.opened g facts0 → AllMet q (with_value facts0 m0).notes → Valued v f o i t y
        → AllMet q (spot_last right o i facts n).notes → (u : Knows) × Now_is u (t, y) now
    learns_at v start begin met h all =
        let c = h.5 in
        learns_by start begin met h.0 h.1 c.0 c.2
        (subst (λ (walk : Walk Indices). AllMet q (walk facts n).notes) c.1
        (subst (λ s. AllMet q (spot_last right s i facts n).notes) h.3 all))

    writes_at : (v : Knows) → Now_is v (t, y) now → Valued v f o i t y → Ends (spot_last right o i)
    writes_at v current h =
        let c = h.5 in
        subst (λ s. Ends (spot_last right s i)) (sym h.3)
        (subst (λ walk. Ends walk) (sym c.1) (writes_by v current h.0 h.1 c.0 h.4 c.2 c.3))

  learns : Learns q m0 g facts0 with_value walk_write run_write Holds Now_is (λ m p j u. Is q.set q.work p j u) None
  learns start begin met p c l h now stands all ok =
      learns_at l front (with_value facts0 m0).value.0 (with_value facts0 m0).value.1 c.0 c.1 now ok stands None start begin met h all

  writes : (v : Knows) → GoesKnown q m0 g facts0 with_value walk_write run_write Holds Now_is (λ m p j u. Is q.set q.work p j u) v
  writes v p c l h now current stands all ok =
      writes_at l front (with_value facts0 m0).value.0 (with_value facts0 m0).value.1 c.0 c.1 now ok stands v current h all

  pub late_assigned : (further : Spot → List Part → Walk Indices) → Splits further right
      → Beside q m0 g facts0 (bind target_walk (then_assigned further))
      (ways_of (z q) (r ∷ ss) us then λ t. right.run t.left
      then (part_spot (z q) k (Runs.call_spot (z q) w base_at kb (Some asker) writer xs) t.found).write) (λ m p j u. Is q.set q.work p j u)
  late_assigned further splits =
      runs_as (λ now. under (ways_of (z q) (r ∷ ss) us now) _ _ run_write (λ t n1. under (right.run t.left n1) _ _ run_write (λ y n2. refl)))
      (subst (λ further2. Beside q m0 g facts0 (bind target_walk further2) (run_value then run_write) (λ m p j u. Is q.set q.work p j u))
      (λ j. λ o. sym (spot_same further right splits o) j)
      (walk_spread target_walk (spot_first right) (spot_last right)
      (late_passes walk_write run_write Holds Now_is (λ m p j u. Is q.set q.work p j u) None learns values writes)))
