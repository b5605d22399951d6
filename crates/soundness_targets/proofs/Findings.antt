-- What a part of a tuple of targets is found to be, where it may be a part of a name.
use Rattle.std.proofs.Common.{◌≡◌, ◌∙◌, ℕ, List, [], ◌∷◌, ◌++◌, ◌-◌, length, take, slice_get, Option, Some, None, refl, sym, ap, subst}
use Rattle.sail_base.specs.declared.place.Place.{Place}
use Rattle.sail_types.specs.Belongs.{belongs}
use Rattle.sail_types.specs.declared.values.Value.{Value}
use Rattle.model_state.specs.declared.state.Register.{Register}
use Rattle.sail_core.specs.Making.{World, made}
use Rattle.sail_core.specs.Run.{Run, ◌then◌}
use Rattle.sail_core.specs.Targets as Runs
use Rattle.sail_core.specs.Targets.{part_spot, register_read, set_variable, target_meaning, variable_read, ways_of, write_register}
use Rattle.sail_core.specs.Values.{Into}
use Rattle.sail_core.specs.declared.targets.Suffix.{Suffix}
use Rattle.sail_core.specs.declared.targets.TargetKind.{TargetKind}
use Rattle.sail_core.specs.declared.targets.TargetKind.TheVariants as T
use Rattle.value_indices.specs.Steps.{Walk, bind, give}
use Rattle.value_indices.specs.declared.indices.Indices.{Indices}
use Rattle.value_indices.specs.declared.indices.Reading.{Reading}
use Rattle.value_indices.specs.declared.notes.Fact.{Fact}
use Rattle.pattern_leaves.specs.Settings.{Scope, held_in}
use Rattle.pattern_leaves.specs.declared.names.Held.{Held}
use Rattle.pattern_leaves.specs.declared.names.Held.TheVariants as H
use Rattle.expression_forms.specs.Names.{named_read, register_type}
use Rattle.expression_forms.specs.Spots.{Spot, held_spot, named_spot, register_spot, wrong_spot}
use Rattle.expression_steps.specs.Parts.{Part}
use Rattle.expression_steps.specs.Targets.{Spotted, Spotting, kind_spot, part_of, part_within, spotted, suffixes_spot, then_spot}
use Rattle.checked_meaning.specs.Items.{Item}
use Rattle.value_laws.specs.Known.{Point}
use Rattle.soundness_steps.specs.Points.{Later}
use Rattle.soundness_steps.proofs.Points.{agree_on, later_on, no_later}
use Rattle.soundness_steps.specs.Works.{Scene, here}
use Rattle.soundness_steps.specs.Steps.{Beside, Grows}
use Rattle.soundness_steps.proofs.Steps.{means, runs_as, walks_then}
use Rattle.soundness_forms.specs.Forms.{AllFine}
use Rattle.soundness_forms.specs.Registers.{RegistersClosed}
use Rattle.soundness_forms.specs.Worlds.{Surrounds}
use Rattle.soundness_forms.proofs.Basics.{steady_on, wrong_alone, wrong_walks}
use Rattle.soundness_forms.proofs.Growth.{grows_bind, grows_named}
use Rattle.soundness_forms.proofs.Leaves.{wrong_node}
use Rattle.soundness_forms.proofs.Worlds.{surrounds_on}
use Rattle.soundness_parts.proofs.Taken.{z}
use Rattle.soundness_values.specs.Named.{TypesNarrow}
use Rattle.soundness_targets.proofs.Bases.{AtOnce, held_once, register_once, within_is}
use Rattle.soundness_targets.proofs.Behind.{Behind}
use Rattle.soundness_targets.proofs.Members.{FoundOne}
use Rattle.soundness_targets.proofs.Modes.{Mode, plain_mode}
use Rattle.soundness_targets.proofs.Moments.{front_on}
use Rattle.soundness_targets.proofs.PartAssigned.{split_last}
use Rattle.soundness_targets.proofs.PartModes.{part_mode}
use Rattle.soundness_targets.proofs.PartWrites.{NameFine, Seen, run_base, seen_on}
use Rattle.soundness_targets.proofs.Pieces.{maps_on}
use Rattle.soundness_targets.proofs.Seen.{seen}
use Rattle.soundness_targets.proofs.Setters.{Var, held_keeps}
use Rattle.soundness_targets.proofs.Shapes.{IsName}
use Rattle.soundness_targets.proofs.Spots.{Is_at, SpotIs, spots_fine}
use Rattle.soundness_targets.proofs.TargetGrowth.{AnyGrow, grow_of, spots_grow}
use Rattle.soundness_targets.proofs.TargetNames.{register_fine, variable_fine}
use Rattle.soundness_targets.proofs.Written.{all_on}

module _ (q : Scene) (w : World Item) (scope : Scope) where
  -- ---- one

  abbrev pub FoundSo : {n : ℕ} {f : Point n} (mode : Mode q f) → mode.V → {m : ℕ} → Point m → List Fact → Option Spotted
      → Runs.Spotted Item (Runs.Spot Item) → Type 0
  FoundSo mode v g fs None r = ⊥
  FoundSo mode v {m} g fs (Some s) r = AllFine q w s.left r.left × mode.Ready v m g fs s.spot r.found

  pub record Finding (t : Spotting) (tr : Runs.Spotting Item (Runs.Spot Item)) {n : ℕ} (f : Point n) : Type 1 where
    pub mode : Mode q f
    pub finds : (v : mode.V) → mode.Ok v → (m : ℕ) (g : Point m) (fs : List Fact) (ps : List Part) (us : List (Run Item Item)) → Later f g → AllFine q w ps us
        → Surrounds q w g scope
        → Behind q m g fs (t (here q) scope ps) (tr us) (λ d h gs o r. FoundSo mode v h gs o r)

  -- ---- one of which nothing is foreseen

  pub plain_finding : (t : Spotting) (tr : Runs.Spotting Item (Runs.Spot Item)) → {n : ℕ} (f : Point n)
      → ((v : Unit {0}) (m : ℕ) (g : Point m) (fs : List Fact) (ps : List Part) (us : List (Run Item Item)) → Later f g → AllFine q w ps us
      → Surrounds q w g scope → Behind q m g fs (t (here q) scope ps) (tr us) (λ d h gs o r. FoundSo (plain_mode q f) v h gs o r)) → Finding t tr f
  plain_finding t tr f finds = record { mode = plain_mode q f; finds = λ v ok m g fs ps us l fine there. finds v m g fs ps us l fine there }

-- ---- a part of a name

module _ (q : Scene) (w : World Item) (narrow : TypesNarrow q.set.around.types) (closed : RegistersClosed q.set) (scope : Scope) {n : ℕ} (f : Point n)
    (there : Surrounds q w f scope) (at : Place) (k : ℕ) (base_at : Place) (b : ℕ) where
  abbrev of_base : List Suffix → Spot → Spotting
  of_base ss s = λ around here_scope ps. part_of at k ss around here_scope s ps

  abbrev base_part : List Suffix → Runs.Spot Item → Runs.Spotting Item (Runs.Spot Item)
  base_part ss sr us = ways_of (z q) ss us then λ ways. Runs.spotted (part_spot (z q) k sr ways.found) ways.left

  -- of no name nothing is a part
  wrong_finding : (ss : List Suffix) (sr : Runs.Spot Item) → Finding q w scope (of_base ss (wrong_spot base_at)) (base_part ss sr) f
  wrong_finding ss sr =
      plain_finding q w scope (of_base ss (wrong_spot base_at)) (base_part ss sr) f (λ v m g fs ps us l fine here_too.
      wrong_node (suffixes_spot at k (slice_get ss (length ss - 1)) (take (length ss - 1) ss) (here q) scope (wrong_spot base_at) ps) (base_part ss sr us)
      (wrong_walks base_at))

  module _ (name : List ℕ) (r : Reading) (rd : Run Item Item) (set : Item → Run Item Item) (named : NameFine q b r rd set f) where
    abbrev base : Spot
    base = named_spot (here q) base_at b name r

    abbrev run_of_base : Runs.Spot Item
    run_of_base = run_base q b rd (λ y. made (z q) b (y ∷ []) y.val then set) set

    abbrev any_spot : Spot → Type 0
    any_spot c = Unit {0}

    -- without a suffix nothing is a part
    nothing_finding : Finding q w scope (of_base [] base) (base_part [] run_of_base) f
    nothing_finding = plain_finding q w scope (of_base [] base) (base_part [] run_of_base) f (λ e m g fs ps us l fine here_too. record {
      run = λ now stands met ok.
          let v = named.first now ok in
          let alone : Behind q m g fs (of_base [] base (here q) scope ps) (base_part [] run_of_base us)
          (λ d h gs o c. FoundSo q w scope (plain_mode q f) e h gs o c) =
          walks_then (suffixes_spot at k None [] (here q) scope base ps)
          (seen base_at b name r v.0 named.whole (steady_on q.set q.work r l named.steady)
          (λ c a. ap (belongs q.set.around.types v.0) (named.steady c (agree_on l a)) ∙ v.1))
          (λ d h gs held l2 k2. wrong_alone at (base_part [] run_of_base us)) in
          alone.run now stands met ok;
    })

    module _ (init : List Suffix) (s : Suffix) where
      abbrev reads_target : List Part → Walk (Option Spotted)
      reads_target ps = bind (named_read base_at b name r) (suffixes_spot at k (Some s) init (here q) scope base ps)

      abbrev runs_target : List (Run Item Item) → Run Item (Runs.Spotted Item (Runs.Spot Item))
      runs_target us = ways_of (z q) (init ++ s ∷ []) us then λ ways. Runs.spotted (part_spot (z q) k run_of_base ways.found) ways.left

      abbrev mode : Mode q f
      mode = part_mode q w f base_at b name r rd set named k s

      target_grows : (ps : List Part) → AnyGrow (here q) scope ps → Grows (reads_target ps)
      target_grows ps h =
          grows_bind (named_read base_at b name r) (suffixes_spot at k (Some s) init (here q) scope base ps) (grows_named base_at b name r) (λ held.
          spots_grow (here q) scope any_spot at k base held (λ t o. tt) (Some s) init ps h)

      abbrev Led : List Fact → Value → {d : ℕ} → Point d → Option Spotted → Runs.Spotted Item (List Into) → Type 0
      Led earlier v h o t = (held : Indices) × Seen q earlier b r h held v × SpotIs q w scope narrow k s base held h held v o t

      part_found : (v : Value) → Is_at q f.integers r v → (m : ℕ) (g : Point m) (fs : List Fact) (ps : List Part) (us : List (Run Item Item)) → Later f g
          → AllFine q w ps us → Surrounds q w g scope
          → Behind q m g fs (reads_target ps) (runs_target us) (λ d h gs o c. FoundSo q w scope mode v h gs o c)
      part_found v is m g fs ps us l fine here_too =
          let front = front_on fs fs m (reads_target ps) (target_grows ps (grow_of q w (here q) scope ps us fine)) (all_on fs) in
          maps_on (λ (ways : Runs.Spotted Item (List Into)). record { found = part_spot (z q) k run_of_base ways.found; left = ways.left })
          {Holds = λ d h o t. Led fs v h o t} (λ d h o t l2 e.
          let x = e.2.0 in
          subst (λ c. FoundSo q w scope mode v h (reads_target ps fs m).facts c (record { found = part_spot (z q) k run_of_base t.found; left = t.left }))
          (sym e.2.2) (
            e.2.3,
            record {
              later = later_on l l2;
              earlier = fs;
              front = front;
              held = e.0;
              reached = x;
              ways = t.found;
              seen_there = e.1;
              spot_is = refl;
              run_is = refl;
              way = e.2.4;
            },
          ))
          (walks_then (suffixes_spot at k (Some s) init (here q) scope base ps)
          (seen base_at b name r v named.whole (steady_on q.set q.work r l named.steady)
          (λ c a. ap (belongs q.set.around.types v) (named.steady c (agree_on l a)) ∙ is)) (λ d h gs held l2 sn.
          means (λ e c o t l3 p. (held, seen_on l3 sn.0, p))
          (spots_fine q w scope narrow k s base held init d h gs held v ps us fine (surrounds_on q w scope l2 here_too) sn.0.has_v sn.1)))

      last_finding : Finding q w scope (λ around here_scope ps. bind (named_read base_at b name r)
          (suffixes_spot at k (Some s) init around here_scope base ps)) runs_target f
      last_finding = record { mode = mode; finds = part_found }

    -- by its suffixes
    named_finding : (ss : List Suffix) → Finding q w scope (of_base ss base) (base_part ss run_of_base) f
    named_finding [] = nothing_finding
    named_finding (s ∷ ss) =
        let e = split_last s ss in
        subst (λ (ts : List Suffix). Finding q w scope (of_base (s ∷ ss) base) (base_part ts run_of_base) f) (sym e.4)
        (subst (λ (t : Spotting). Finding q w scope t (base_part (e.1 ++ e.0 ∷ []) run_of_base) f)
        (λ j. λ around here_scope ps. bind (named_read base_at b name r) (suffixes_spot at k (sym e.2 j) (sym e.3 j) around here_scope base ps))
        (last_finding e.1 e.0))

  -- the walk begins with its base
  module _ (bt : Spotting) (btr : Runs.Spotting Item (Runs.Spot Item)) (s : Spot) (sr : Runs.Spot Item)
      (once : AtOnce s) (base_is : (ps : List Part) → bt (here q) scope ps ≡ give (spotted s ps))
      (base_runs : (us : List (Run Item Item)) → btr us ≡ Runs.spotted sr us) where
    given_first : {A C : Type 0} (a : A) (next : A → Walk C) → bind (give a) next ≡ next a
    unfolding bind give
    given_first a next = refl

    opens : (ss : List Suffix) (ps : List Part) → kind_spot at k (T.Part ss) (bt ∷ []) (here q) scope ps ≡ part_of at k ss (here q) scope s ps
    opens ss ps =
        ap (λ (v : Walk (Option Spotted)). bind v (then_spot (part_within at k ss (here q) scope))) (base_is ps)
        ∙ given_first (spotted s ps) (then_spot (part_within at k ss (here q) scope)) ∙ within_is at k ss (here q) scope s once ps

    starts_so : (ss : List Suffix) → Finding q w scope (of_base ss s) (base_part ss sr) f
        → Finding q w scope (kind_spot at k (T.Part ss) (bt ∷ [])) (target_meaning (z q) w at k (T.Part ss) (btr ∷ [])) f
    starts_so ss one = record {
      mode = one.mode;
      finds = λ v ok m g fs ps us l fine here_too.
          subst (λ (c : Walk (Option Spotted)). Behind q m g fs c (target_meaning (z q) w at k (T.Part ss) (btr ∷ []) us)
          (λ d h gs o x. FoundSo q w scope one.mode v h gs o x)) (sym (opens ss ps))
          (runs_as (λ now. λ j. (sym (base_runs us) j then λ c. ways_of (z q) ss c.left then λ ways. Runs.spotted
          (part_spot (z q) k c.found ways.found) ways.left) now)
          (one.finds v ok m g fs ps us l fine here_too));
    }

  variable_finding : (ss : List Suffix) (name : List ℕ) (o : Option Held) → held_in name scope ≡ o → Var q f o
      → Finding q w scope (kind_spot at k (T.Part ss) (kind_spot base_at b (T.Variable name) [] ∷ []))
      (target_meaning (z q) w at k (T.Part ss) (target_meaning (z q) w base_at b (T.Variable name) [] ∷ [])) f
  variable_finding ss name o is h =
      starts_so (kind_spot base_at b (T.Variable name) []) (target_meaning (z q) w base_at b (T.Variable name) []) (held_spot (here q) base_at b name o)
      (Runs.variable_spot (z q) b name) (held_once (here q) base_at b name o) (λ ps. λ j. give (spotted (held_spot (here q) base_at b name (is j)) ps))
      (λ us. refl) ss (by o is h)
    where
      by : (c : Option Held) → held_in name scope ≡ c → Var q f c
          → Finding q w scope (of_base ss (held_spot (here q) base_at b name c)) (base_part ss (Runs.variable_spot (z q) b name)) f
      by None e v = wrong_finding ss (Runs.variable_spot (z q) b name)
      by (Some (H.Value i)) e v = wrong_finding ss (Runs.variable_spot (z q) b name)
      by (Some (H.Var r)) e v =
          named_finding name r (variable_read (z q) b name) (set_variable (z q) name) (variable_fine q w scope there b name r e v.0 v.1) ss

  register_finding : (ss : List Suffix) (i : ℕ) (o : Option Register) → slice_get q.set.around.registers i ≡ o
      → Finding q w scope (kind_spot at k (T.Part ss) (kind_spot base_at b (T.Register i) [] ∷ []))
      (target_meaning (z q) w at k (T.Part ss) (target_meaning (z q) w base_at b (T.Register i) [] ∷ [])) f
  register_finding ss i o is =
      starts_so (kind_spot base_at b (T.Register i) []) (target_meaning (z q) w base_at b (T.Register i) []) (register_spot (here q) base_at b o)
      (Runs.register_spot (z q) w b i) (register_once (here q) base_at b o) (λ ps. λ j. give (spotted (register_spot (here q) base_at b (is j)) ps))
      (λ us. refl) ss (by o is)
    where
      by : (c : Option Register) → slice_get q.set.around.registers i ≡ c
          → Finding q w scope (of_base ss (register_spot (here q) base_at b c)) (base_part ss (Runs.register_spot (z q) w b i)) f
      by None e = wrong_finding ss (Runs.register_spot (z q) w b i)
      by (Some r) e =
          named_finding r.name (register_type r) (register_read (z q) w b i) (λ y. write_register (z q) w i y.val)
          (register_fine q w scope there b i r e (closed i r e)) ss

  pub part_finding : (ss : List Suffix) (kind : TargetKind) → IsName kind
      → Finding q w scope (kind_spot at k (T.Part ss) (kind_spot base_at b kind [] ∷ []))
      (target_meaning (z q) w at k (T.Part ss) (target_meaning (z q) w base_at b kind [] ∷ [])) f
  part_finding ss (T.Variable name) h = variable_finding ss name (held_in name scope) refl (held_keeps q f name scope q.names there.names)
  part_finding ss (T.Register i) h = register_finding ss i (slice_get q.set.around.registers i) refl
  part_finding ss T.Tuple h = absurd h
  part_finding ss (T.Part us) h = absurd h
  part_finding ss (T.Call count reader writer) h = absurd h

-- ---- what is found whatever is foreseen

pub member_finding : (q : Scene) (w : World Item) (scope : Scope) (t : Spotting) (tr : Runs.Spotting Item (Runs.Spot Item)) {n : ℕ} (f : Point n)
    → ((m : ℕ) (g : Point m) (fs : List Fact) (ps : List Part) (us : List (Run Item Item)) → AllFine q w ps us → Surrounds q w g scope
    → Beside q m g fs (t (here q) scope ps) (tr us) (λ d h o r. FoundOne q w h o r)) → Finding q w scope t tr f
member_finding q w scope t tr f finds =
    plain_finding q w scope t tr f (λ v m g fs ps us l fine there. means (λ d h o r l2 e. was v o r h e (t (here q) scope ps fs m).facts)
    (finds m g fs ps us fine there))
  where
    was : (v : Unit {0}) (o : Option Spotted) (r : Runs.Spotted Item (Runs.Spot Item)) {d : ℕ} (h : Point d) → FoundOne q w h o r → (gs : List Fact)
        → FoundSo q w scope (plain_mode q f) v h gs o r
    was v None r h e gs = absurd e
    was v (Some s) r {d} h e gs = (e.0, (d, h, no_later h, e.1))
