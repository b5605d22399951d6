-- An assignment to a part of a name, as a whole: what is read behind the value is foreseen.
use Rattle.std.proofs.Common.{◌≡◌, ◌∙◌, ℕ, suc, Bool, List, [], ◌∷◌, ◌++◌, ◌-◌, length, take, slice_get, Option, Some, None, refl}
use Rattle.std.proofs.Common.{sym, ap, subst, arith}
use Rattle.std.proofs.lemmas.List.{append-nil}
use Rattle.sail_base.specs.declared.place.Place.{Place}
use Rattle.sail_types.specs.Belongs.{belongs}
use Rattle.sail_types.specs.declared.values.Value.{Value}
use Rattle.sail_core.specs.Making.{World}
use Rattle.sail_core.specs.Run.{Now, Run, gives, ◌then◌}
use Rattle.sail_core.specs.Targets as Runs
use Rattle.sail_core.specs.Targets.{part_spot, ways_of}
use Rattle.sail_core.specs.Values.{Into}
use Rattle.sail_core.specs.declared.targets.Suffix.{Suffix}
use Rattle.value_indices.specs.Steps.{Walk, bind, give}
use Rattle.value_indices.specs.declared.indices.Indices.{Indices}
use Rattle.value_indices.specs.declared.indices.Indices.TheVariants as I
use Rattle.value_indices.specs.declared.indices.Reading.{Reading}
use Rattle.value_indices.specs.declared.notes.Fact.{Fact}
use Rattle.pattern_leaves.specs.Settings.{Scope}
use Rattle.call_arguments.specs.Aims.{aimed}
use Rattle.call_arguments.specs.declared.aims.Aim.TheVariants as Aims
use Rattle.expression_forms.specs.Names.{named_read}
use Rattle.expression_forms.specs.Spots as Walked
use Rattle.expression_forms.specs.Spots.{Spot, named_spot, owed_answer, written_by, wrong_spot}
use Rattle.expression_forms.specs.declared.ways.Reached.{Reached}
use Rattle.expression_steps.specs.Parts.{Part}
use Rattle.expression_steps.specs.Targets.{Spotted, spotted, suffixes_spot, then_assigned}
use Rattle.checked_meaning.specs.Items.{Item}
use Rattle.value_laws.specs.Known.{Point}
use Rattle.soundness_steps.specs.Points.{Later}
use Rattle.soundness_steps.specs.Works.{Scene, here}
use Rattle.soundness_steps.specs.States.{Sound}
use Rattle.soundness_steps.specs.Steps.{AllMet, Beside, EndsWell, Grows, Stands}
use Rattle.soundness_steps.specs.Values.{AimSteady, Is, IsMet}
use Rattle.soundness_steps.proofs.Steps.{binds, given_back, means, rests, runs_as, walks_on, walks_then}
use Rattle.soundness_forms.specs.Forms.{AllFine}
use Rattle.soundness_forms.specs.Worlds.{Surrounds}
use Rattle.soundness_forms.proofs.Basics.{wrong_walks}
use Rattle.soundness_forms.proofs.Leaves.{wrong_node}
use Rattle.soundness_forms.proofs.Leaving.{aimed_is}
use Rattle.soundness_forms.proofs.Worlds.{surrounds_on}
use Rattle.soundness_parts.proofs.SliceSteps.{under}
use Rattle.soundness_parts.proofs.Taken.{z}
use Rattle.soundness_values.specs.Named.{TypesNarrow}
use Rattle.soundness_targets.proofs.Named.{none_aimed}
use Rattle.soundness_targets.proofs.Moments.{Front, front_on}
use Rattle.soundness_targets.proofs.Passes.{two_passes}
use Rattle.soundness_targets.proofs.PartWrites.{Current, NameFine, Seen, Sets, part_written, run_base, seen_on}
use Rattle.soundness_targets.proofs.Pieces.{both, walk_spread}
use Rattle.soundness_targets.proofs.Seen.{seen}
use Rattle.soundness_parts.proofs.PartGrowth.{any, gives_bind, grows_bind_at}
use Rattle.soundness_forms.proofs.Growth.{grows_bind, grows_give, grows_named}
use Rattle.soundness_targets.proofs.Rights.{IsWritten, Right, RightFine, Splits, spot_first, spot_last, spot_same}
use Rattle.soundness_targets.proofs.TargetGrowth.{AnyGrow, SpottedGrow, grow_of, spots_give, spots_grow}
use Rattle.soundness_targets.proofs.Spots.{Is_at, SpotIs, WayThere, spots_fine, way_on}

-- ---- the last suffix, and those before it

pub split_last : (s : Suffix) (ss : List Suffix) → (t : Suffix) × (init : List Suffix) × (slice_get (s ∷ ss) (length (s ∷ ss) - 1) ≡ Some t)
    × (take (length (s ∷ ss) - 1) (s ∷ ss) ≡ init) × (s ∷ ss ≡ init ++ t ∷ [])
split_last s [] = (s, [], refl, refl, refl)
split_last s (u ∷ ss) =
    let r = split_last u ss in
    let e : length (s ∷ u ∷ ss) - 1 ≡ suc (length (u ∷ ss) - 1) = omega arith in (
      r.0,
      s ∷ r.1,
      ap (slice_get (s ∷ u ∷ ss)) e ∙ r.2,
      ap (λ n. take n (s ∷ u ∷ ss)) e ∙ ap (λ ts. s ∷ ts) r.3,
      ap (λ ts. s ∷ ts) r.4,
    )

module _ (q : Scene) (w : World Item) (narrow : TypesNarrow q.set.around.types) (place at : Place) (k : ℕ) (init : List Suffix) (s : Suffix)
    (base_at : Place) (b : ℕ)
    (name : List ℕ) (r : Reading) (rd : Run Item Item) (wr set : Item → Run Item Item) (scope : Scope) (right : Right)
    (right_fine : RightFine q w place scope right) where
  abbrev base : Spot
  base = named_spot (here q) base_at b name r

  abbrev spot_at : Indices → Option Reached → Spot
  spot_at held x = Walked.part_spot (here q) s.place k s.way base held x

  -- ---- behind the target: what is known of the name's value, and where the ways lead

  abbrev Spots : (earlier : List Fact) (v : Value) → {n : ℕ} → Point n → Option Spotted → Runs.Spotted Item (List Into) → Type 0
  Spots earlier v g o t = (held : Indices) × Seen q earlier b r g held v × SpotIs q w scope narrow k s base held g held v o t

  -- ---- behind the value

  abbrev Valued : (earlier : List Fact) (v : Value) → {n : ℕ} → Point n → Option Spotted → Indices → Runs.Spotted Item (List Into) → Item → Type 0
  Valued earlier v g o i t y = (held : Indices) × (x : Option Reached) × (ps : List Part) × Seen q earlier b r g held v
      × (o ≡ spotted (spot_at held x) ps) × WayThere q g held v t.found x × IsWritten q w place scope right g (spot_at held x) ps i y

  valued_on : {n m : ℕ} {f : Point n} {g : Point m} (held : Indices) (v : Value) (ways : List Into) (x : Option Reached) → Later f g
      → WayThere q f held v ways x → WayThere q g held v ways x
  valued_on held v ways None l h = tt
  valued_on held v ways (Some x) l h = way_on q l h

  -- what is wanted there is one and the same
  aim_there : {n : ℕ} (f : Point n) (held : Indices) (v : Value) (ways : List Into) (x : Option Reached) → WayThere q f held v ways x
      → AimSteady q.set q.work f (aimed Aims.Given (spot_at held x).typ)
  aim_there f held v ways None h = subst (AimSteady q.set q.work f) (sym none_aimed) tt
  aim_there f held v ways (Some x) h = subst (AimSteady q.set q.work f) (sym (aimed_is Aims.Given x.typ h.wanted.1)) h.wanted

  module _ (earlier : List Fact) (v : Value) where
    value_fine : {n : ℕ} {f : Point n} {facts : List Fact} (o : Option Spotted) (t : Runs.Spotted Item (List Into)) → Surrounds q w f scope
        → Spots earlier v f o t
        → Beside q n f facts (spot_first right o) (right.run t.left) (λ m g i y. Valued earlier v g o i t y)
    value_fine {n} {f} {facts} o t there h =
        let held = h.0 in
        let e = h.2 in
        subst (λ c. Beside q n f facts (spot_first right c) (right.run t.left) (λ m g i y. Valued earlier v g o i t y)) (sym e.2)
        (means (λ m g i y l c. (held, e.0, e.1, seen_on l h.1, e.2, valued_on held v t.found e.0 l e.4, c))
        (right_fine.goes n f facts (spot_at held e.0) e.1 t.left e.3 there (aim_there f held v t.found e.0 e.4)))

    -- ---- what is written

    abbrev writes : Runs.Spotted Item (List Into) → Item → Run Item Item
    writes t = (part_spot (z q) k (run_base q b rd wr set) t.found).write

    abbrev Ends : {n : ℕ} → Point n → List Fact → Walk Indices → Now Item → Runs.Spotted Item (List Into) → Item → Type 0
    Ends {n} f facts walk now t y = AllMet q (walk facts n).notes
        → EndsWell q f (walk facts n).next (walk facts n).facts (λ p u. Is q.set q.work p (walk facts n).value u) (writes t y now)

    module _ {n : ℕ} {f : Point n} {facts : List Fact} (i : Indices) (t : Runs.Spotted Item (List Into)) (y : Item) (front : Front earlier facts)
        (now : Now Item)
        (ok : Sound q now) (current : Current q b rd v now) (sets : Sets q r set f) (stands : Stands q.set q.work now.opened f facts) where
      written_by_way : (held : Indices) (x : Option Reached) (nested : Bool) → Seen q earlier b r f held v → WayThere q f held v t.found x
          → Is q.set q.work f i y → IsMet q.set q.work f (aimed Aims.Given (spot_at held x).typ) nested y.val
          → Ends f facts (written_by place (spot_at held x) nested i) now t y
      written_by_way held None nested sn way is met all =
          let c : Beside q n f facts (written_by place (wrong_spot s.place) nested i) (writes t y) (λ m g j u. Is q.set q.work g j u) =
          wrong_node (owed_answer place) (writes t y) (walks_on Walked.gives (wrong_walks s.place) (λ d p gs a l e. absurd e)) in
          c.run now stands all ok
      written_by_way held (Some x) nested sn way is met all =
          (part_written q place s.place k s.way base_at b name r held x nested i y earlier v t.found rd wr set now ok current sn front way is
          (subst (λ aim. IsMet q.set q.work f aim nested y.val) (aimed_is Aims.Given x.typ way.wanted.1) met) sets).go stands all

      written : (o : Option Spotted) → Valued earlier v f o i t y → Ends f facts (spot_last right o i) now t y
      written o h =
          let c = h.6 in
          subst (λ p. Ends f facts (spot_last right p i) now t y) (sym h.4)
          (subst (λ walk. Ends f facts walk now t y) (sym c.1) (written_by_way h.0 h.1 c.0 h.3 h.5 c.2 c.3))

  -- ---- all of it

  abbrev pub reads_target : List Part → Walk (Option Spotted)
  reads_target ps = bind (named_read base_at b name r) (suffixes_spot at k (Some s) init (here q) scope base ps)

  abbrev runs_target : List (Run Item Item) → Run Item (Runs.Spotted Item (List Into))
  runs_target = ways_of (z q) (init ++ s ∷ [])

  abbrev with_value : List Part → Walk (Option Spotted × Indices)
  with_value ps = bind (reads_target ps) (λ o. bind (spot_first right o) (λ i. give (both o i)))

  abbrev run_value : List (Run Item Item) → Run Item (Runs.Spotted Item (List Into) × Item)
  run_value us = runs_target us then λ t. right.run t.left then λ y. gives (both t y)

  abbrev any_spot : Spot → Type 0
  any_spot c = Unit {0}

  with_grows : (ps : List Part) → AnyGrow (here q) scope ps → Grows (with_value ps)
  with_grows ps h =
      grows_bind_at (SpottedGrow (here q) scope any_spot) (reads_target ps) (λ o. bind (spot_first right o) (λ i. give (both o i)))
      (gives_bind (λ i. Unit {0}) (SpottedGrow (here q) scope any_spot) (named_read base_at b name r) (suffixes_spot at k (Some s) init (here q) scope base ps)
      (any (named_read base_at b name r)) (λ held u. spots_give (here q) scope any_spot at k base held (λ t o. tt) (Some s) init ps h))
      (grows_bind (named_read base_at b name r) (suffixes_spot at k (Some s) init (here q) scope base ps) (grows_named base_at b name r) (λ held.
      spots_grow (here q) scope any_spot at k base held (λ t o. tt) (Some s) init ps h))
      (λ o e. grows_bind (spot_first right o) (λ i. give (both o i)) (first_grows o e) (λ i. grows_give (both o i)))
    where
      first_grows : (o : Option Spotted) → SpottedGrow (here q) scope any_spot o → Grows (spot_first right o)
      first_grows None e = grows_give I.Never
      first_grows (Some c) e = right_fine.grows c.spot c.left e.0

  abbrev writes_to : Runs.Spotted Item (List Into) × Item → Run Item Item
  writes_to c = (part_spot (z q) k (run_base q b rd wr set) c.0.found).write c.1

  module _ {n : ℕ} {f : Point n} {facts : List Fact} (there : Surrounds q w f scope) (fine : NameFine q b r rd set f) (ps : List Part)
      (us : List (Run Item Item)) (parts : AllFine q w ps us) where
    spots : (v : Value) → Is_at q f.integers r v → Beside q n f facts (reads_target ps) (runs_target us) (λ m g o t. Spots facts v g o t)
    spots v is =
        walks_then (suffixes_spot at k (Some s) init (here q) scope base ps)
        (seen base_at b name r v fine.whole fine.steady (λ g a. ap (belongs q.set.around.types v) (fine.steady g a) ∙ is)) (λ m g fs held l sn.
        means (λ d c o t l2 e. (held, seen_on l2 sn.0, e))
        (spots_fine q w scope narrow k s base held init m g fs held v ps us parts (surrounds_on q w scope l there) sn.0.has_v sn.1))

    values : (v : Value) → Is_at q f.integers r v
        → Beside q n f facts (with_value ps) (run_value us) (λ m g p c. Valued facts v g p.0 p.1 c.0 c.1)
    values v is =
        binds (λ o. bind (spot_first right o) (λ i. give (both o i))) (λ t. right.run t.left then λ y. gives (both t y)) (spots v is)
        (λ m g fs o t l h.
        binds (λ i. give (both o i)) (λ y. gives (both t y)) (value_fine facts v o t (surrounds_on q w scope l there) h) (λ d c gs i y l2 e.
        rests (both t y) (given_back (both o i) e)))

    pub part_assigned : (further : Spot → List Part → Walk Indices) → Splits further right
        → Beside q n f facts (bind (reads_target ps) (then_assigned further))
        (runs_target us then λ t. right.run t.left then (part_spot (z q) k (run_base q b rd wr set) t.found).write) (λ m g j u. Is q.set q.work g j u)
    part_assigned further splits =
        runs_as (λ now. under (runs_target us now) _ _ writes_to (λ t n1. under (right.run t.left n1) _ _ writes_to (λ y n2. refl)))
        (subst (λ g. Beside q n f facts (bind (reads_target ps) g) (run_value us then writes_to) (λ m p j u. Is q.set q.work p j u))
        (λ j. λ o. sym (spot_same further right splits o) j)
        (walk_spread (reads_target ps) (spot_first right) (spot_last right)
        (two_passes (λ p. spot_last right p.0 p.1) writes_to (λ v. Is_at q f.integers r v) (λ v now. Current q b rd v now)
        (λ v m g p c. Valued facts v g p.0 p.1 c.0 c.1) (λ m g j u. Is q.set q.work g j u) fine.first values
        (λ v is g c l h now current stands met ok.
        written facts v (with_value ps facts n).value.1 c.0 c.1
        (front_on facts facts n (with_value ps) (with_grows ps (grow_of q w (here q) scope ps us parts)) ([], sym (append-nil facts))) now ok
        current (fine.sets _ g l) stands (with_value ps facts n).value.0 h met))))
