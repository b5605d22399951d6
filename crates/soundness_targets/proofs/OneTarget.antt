-- A target that is a name or a part of one, with what stands on its right.
use Rattle.std.proofs.Common.{◌≡◌, ◌∙◌, ℕ, Bool, List, [], ◌∷◌, ◌++◌, ◌-◌, length, take, slice_get, Option, Some, None, refl, sym, ap}
use Rattle.std.proofs.Common.{subst}
use Rattle.sail_base.specs.declared.place.Place.{Place}
use Rattle.sail_types.specs.Belongs.{belongs}
use Rattle.model_state.specs.declared.state.Register.{Register}
use Rattle.sail_core.specs.Making.{World, made}
use Rattle.sail_core.specs.Run.{Run, ◌then◌}
use Rattle.sail_core.specs.Targets as Runs
use Rattle.sail_core.specs.Targets.{part_spot, register_read, set_variable, target_meaning, variable_read, ways_of, write_register}
use Rattle.sail_core.specs.declared.targets.Suffix.{Suffix}
use Rattle.sail_core.specs.declared.targets.TargetKind.{TargetKind}
use Rattle.sail_core.specs.declared.targets.TargetKind.TheVariants as T
use Rattle.value_indices.specs.Steps.{Walk, bind, give, wrong}
use Rattle.value_indices.specs.declared.indices.Indices.{Indices}
use Rattle.value_indices.specs.declared.indices.Reading.{Reading}
use Rattle.value_indices.specs.declared.notes.Fact.{Fact}
use Rattle.pattern_leaves.specs.Settings.{Scope, held_in}
use Rattle.pattern_leaves.specs.declared.names.Held.{Held}
use Rattle.pattern_leaves.specs.declared.names.Held.TheVariants as H
use Rattle.call_arguments.specs.Aims.{aimed}
use Rattle.call_arguments.specs.declared.aims.Aim.TheVariants as Aims
use Rattle.call_notes.specs.Ends.{wrong_value}
use Rattle.expression_forms.specs.Names.{named_read, register_type}
use Rattle.expression_forms.specs.Spots as Walked
use Rattle.expression_forms.specs.Spots.{Spot, held_spot, named_spot, owed_answer, register_spot, written_by, wrong_spot}
use Rattle.expression_steps.specs.Parts.{Part}
use Rattle.expression_steps.specs.Targets.{Spotted, Spotting, kind_spot, part_of, part_within, spotted, suffixes_spot, then_assigned}
use Rattle.expression_steps.specs.Targets.{then_spot}
use Rattle.checked_meaning.specs.Items.{Item}
use Rattle.value_laws.specs.Known.{Point}
use Rattle.soundness_steps.specs.Points.{Later}
use Rattle.soundness_steps.proofs.Points.{agree_on}
use Rattle.soundness_steps.specs.Works.{Scene, here}
use Rattle.soundness_steps.specs.Steps.{Beside}
use Rattle.soundness_steps.specs.Values.{AimSteady, Is, IsMet, IsWanted}
use Rattle.soundness_steps.proofs.Steps.{binds, runs_as, walks_on, walks_then}
use Rattle.soundness_forms.specs.Forms.{AllFine, FitsSuffice}
use Rattle.soundness_forms.specs.Registers.{RegistersClosed}
use Rattle.soundness_forms.specs.Worlds.{Surrounds}
use Rattle.soundness_forms.proofs.Basics.{then_walks, wanted_on, wrong_alone, wrong_walks}
use Rattle.soundness_forms.proofs.Leaves.{wrong_node}
use Rattle.soundness_forms.proofs.Leaving.{aimed_is}
use Rattle.soundness_parts.proofs.SliceSteps.{under}
use Rattle.soundness_parts.proofs.Taken.{z}
use Rattle.soundness_values.specs.Named.{TypesNarrow}
use Rattle.soundness_targets.proofs.Bases.{AtOnce, held_once, register_once, within_is}
use Rattle.soundness_targets.proofs.Named.{none_aimed}
use Rattle.soundness_targets.proofs.Named.{written_fine}
use Rattle.soundness_targets.proofs.PartAssigned.{part_assigned, split_last}
use Rattle.soundness_targets.proofs.PartWrites.{NameFine, run_base}
use Rattle.soundness_targets.proofs.Pieces.{starts, walk_regrouped}
use Rattle.soundness_targets.proofs.Rights.{Right, RightFine, Splits}
use Rattle.soundness_targets.proofs.Seen.{seen}
use Rattle.soundness_targets.proofs.Setters.{Var, held_keeps}
use Rattle.soundness_targets.proofs.Shapes.{IsName}
use Rattle.soundness_targets.proofs.TargetNames.{register_fine, variable_fine}

module _ (fit : FitsSuffice) (q : Scene) (w : World Item) (narrow : TypesNarrow q.set.around.types) (closed : RegistersClosed q.set) (place : Place)
    (scope : Scope) where
  abbrev pub runs_on : Right → Runs.Spotting Item (Runs.Spot Item) → List (Run Item Item) → Run Item Item
  runs_on right t us = t us then λ r. right.run r.left then r.found.write

  -- a target goes on with what is on its right
  abbrev pub Goes : Spotting → Runs.Spotting Item (Runs.Spot Item) → Type 0
  Goes t s = (right : Right) → RightFine q w place scope right → (further : Spot → List Part → Walk Indices) → Splits further right → (n : ℕ) (f : Point n)
      (facts : List Fact) (ps : List Part) (us : List (Run Item Item)) → AllFine q w ps us → Surrounds q w f scope
      → Beside q n f facts (bind (t (here q) scope ps) (then_assigned further)) (runs_on right s us) (λ m g j u. Is q.set q.work g j u)

  module _ (right : Right) (right_fine : RightFine q w place scope right) (further : Spot → List Part → Walk Indices) (splits : Splits further right)
      {n : ℕ} {f : Point n} (facts : List Fact) (ps : List Part) (us : List (Run Item Item)) (fine : AllFine q w ps us) (there : Surrounds q w f scope) where
    -- where no target is there
    no_spot_goes : {m : ℕ} {g : Point m} {fs : List Fact} (at : Place) (c : Run Item Item)
        → Beside q m g fs (bind (bind (wrong at) (λ t. give None)) (then_assigned further)) c (λ d b j u. Is q.set q.work b j u)
    no_spot_goes {m} {g} {fs} at c =
        let none : Beside q m g fs (bind (wrong at) (λ t. give None)) c (λ d b o x. ⊥) = wrong_alone at c in
        then_walks (then_assigned further) none (λ d b gs a x l h. absurd h)

    -- ---- a spot that is there at once

    abbrev pub Writes : Spot → Runs.Spot Item → Type 0
    Writes s sr = (m : ℕ) (g : Point m) (fs : List Fact) (nested : Bool) (i : Indices) (y : Item) → Later f g → Is q.set q.work g i y
        → IsMet q.set q.work g (aimed Aims.Given s.typ) nested y.val
        → Beside q m g fs (written_by place s nested i) (sr.write y) (λ d c j u. Is q.set q.work c j u)

    pub at_once : (s : Spot) (sr : Runs.Spot Item) → AimSteady q.set q.work f (aimed Aims.Given s.typ) → Writes s sr
        → Beside q n f facts (bind (give (spotted s ps)) (then_assigned further)) (right.run us then sr.write) (λ m g j u. Is q.set q.work g j u)
    at_once s sr aim writes =
        starts (spotted s ps) (then_assigned further)
        (subst (λ v. Beside q n f facts v (right.run us then sr.write) (λ m g j u. Is q.set q.work g j u)) (sym (splits s ps))
        (binds (right.last s ps) sr.write (right_fine.goes n f facts s ps us fine there aim) (λ m g fs i y l c.
        subst (λ v. Beside q m g fs v (sr.write y) (λ d b j u. Is q.set q.work b j u)) (sym c.1) (writes m g fs c.0 i y l c.2 c.3))))

    wrong_writes : (at : Place) (sr : Runs.Spot Item) → Writes (wrong_spot at) sr
    wrong_writes at sr m g fs nested i y l is met =
        wrong_node (owed_answer place) (sr.write y) (walks_on Walked.gives (wrong_walks at) (λ d c gs a l2 e. absurd e))

    wrong_goes : (at : Place) (sr : Runs.Spot Item)
        → Beside q n f facts (bind (give (spotted (wrong_spot at) ps)) (then_assigned further)) (right.run us then sr.write) (λ m g j u. Is q.set q.work g j u)
    wrong_goes at sr = at_once (wrong_spot at) sr (subst (AimSteady q.set q.work f) (sym none_aimed) tt) (wrong_writes at sr)

    -- a part of what is no name
    wrong_part : (at base_at : Place) (k : ℕ) (ss : List Suffix) (c : Run Item Item)
        → Beside q n f facts (bind (part_of at k ss (here q) scope (wrong_spot base_at) ps) (then_assigned further)) c (λ m g j u. Is q.set q.work g j u)
    wrong_part at base_at k ss c =
        let next : Indices → Walk (Option Spotted) =
        suffixes_spot at k (slice_get ss (length ss - 1)) (take (length ss - 1) ss) (here q) scope (wrong_spot base_at) ps in
        walk_regrouped (wrong_value base_at) next (then_assigned further)
        (wrong_node (λ i. bind (next i) (then_assigned further)) c (wrong_walks base_at))

    module _ (at : Place) (b : ℕ) (name : List ℕ) (r : Reading) (rd : Run Item Item) (set : Item → Run Item Item) (named : NameFine q b r rd set f) where
      abbrev writes_name : Item → Run Item Item
      writes_name y = made (z q) b (y ∷ []) y.val then set

      abbrev name_run : Runs.Spot Item
      name_run = run_base q b rd writes_name set

      wanted : IsWanted q.set q.work f r
      wanted = (named.steady, named.whole)

      name_writes : Writes (named_spot (here q) at b name r) name_run
      name_writes m g fs nested i y l is met =
          written_fine fit q place b name r nested i y is (subst (λ aim. IsMet q.set q.work g aim nested y.val) (aimed_is Aims.Given r named.whole) met)
          (wanted_on q.set q.work r l wanted) set (λ d c gs u l2 e is_so. named.sets m g l d c gs u l2 (λ o a. is_so o (agree_on l2 a)))

      name_goes : Beside q n f facts (bind (give (spotted (named_spot (here q) at b name r) ps)) (then_assigned further)) (right.run us then writes_name)
          (λ m g j u. Is q.set q.work g j u)
      name_goes =
          at_once (named_spot (here q) at b name r) name_run (subst (AimSteady q.set q.work f) (sym (aimed_is Aims.Given r named.whole)) wanted) name_writes

      -- ---- a part of it

      module _ (part_at : Place) (k : ℕ) where
        abbrev run_part : List Suffix → Run Item Item
        run_part ss = ways_of (z q) ss us then λ t. right.run t.left then (part_spot (z q) k name_run t.found).write

        abbrev walk_part : List Suffix → Walk Indices
        walk_part ss = bind (part_of part_at k ss (here q) scope (named_spot (here q) at b name r) ps) (then_assigned further)

        abbrev PartGoes : List Suffix → Type 0
        PartGoes ss = Beside q n f facts (walk_part ss) (run_part ss) (λ m g j u. Is q.set q.work g j u)

        -- without a suffix nothing is a part
        nothing_goes : PartGoes []
        nothing_goes = record {
          run = λ now stands met ok.
              let v = named.first now ok in
              let alone : PartGoes [] =
              walk_regrouped (named_read at b name r) (suffixes_spot part_at k None [] (here q) scope (named_spot (here q) at b name r) ps)
              (then_assigned further)
              (walks_then (λ held. bind (suffixes_spot part_at k None [] (here q) scope (named_spot (here q) at b name r) ps held) (then_assigned further))
              (seen at b name r v.0 named.whole named.steady (λ g a. ap (belongs q.set.around.types v.0) (named.steady g a) ∙ v.1))
              (λ m g fs held l e. no_spot_goes part_at (run_part []))) in
              alone.run now stands met ok;
        }

        part_goes : (ss : List Suffix) → PartGoes ss
        part_goes [] = nothing_goes
        part_goes (s ∷ ss) =
            let e = split_last s ss in
            subst (λ ts. Beside q n f facts (walk_part (s ∷ ss)) (run_part ts) (λ m g j u. Is q.set q.work g j u)) (sym e.4)
            (subst (λ o. Beside q n f facts (bind (bind (named_read at b name r)
            (suffixes_spot part_at k o (take (length (s ∷ ss) - 1) (s ∷ ss)) (here q) scope (named_spot (here q) at b name r) ps)) (then_assigned further))
            (run_part (e.1 ++ e.0 ∷ [])) (λ m g j u. Is q.set q.work g j u)) (sym e.2)
            (subst (λ ts. Beside q n f facts (bind (bind (named_read at b name r)
            (suffixes_spot part_at k (Some e.0) ts (here q) scope (named_spot (here q) at b name r) ps)) (then_assigned further))
            (run_part (e.1 ++ e.0 ∷ [])) (λ m g j u. Is q.set q.work g j u)) (sym e.3)
            (part_assigned q w narrow place part_at k e.1 e.0 at b name r rd writes_name set scope right right_fine there named ps us fine further splits)))

    -- ---- by what the name is

    held_goes : (at : Place) (b : ℕ) (name : List ℕ) (o : Option Held) → held_in name scope ≡ o → Var q f o
        → Beside q n f facts (bind (give (spotted (held_spot (here q) at b name o) ps)) (then_assigned further))
        (right.run us then (Runs.variable_spot (z q) b name).write) (λ m g j u. Is q.set q.work g j u)
    held_goes at b name None is h = wrong_goes at (Runs.variable_spot (z q) b name)
    held_goes at b name (Some (H.Value i)) is h = wrong_goes at (Runs.variable_spot (z q) b name)
    held_goes at b name (Some (H.Var r)) is h =
        name_goes at b name r (variable_read (z q) b name) (set_variable (z q) name) (variable_fine q w scope there b name r is h.0 h.1)

    register_goes : (at : Place) (b i : ℕ) (o : Option Register) → slice_get q.set.around.registers i ≡ o
        → Beside q n f facts (bind (give (spotted (register_spot (here q) at b o) ps)) (then_assigned further))
        (right.run us then (Runs.register_spot (z q) w b i).write) (λ m g j u. Is q.set q.work g j u)
    register_goes at b i None is = wrong_goes at (Runs.register_spot (z q) w b i)
    register_goes at b i (Some r) is =
        name_goes at b r.name (register_type r) (register_read (z q) w b i) (λ y. write_register (z q) w i y.val)
        (register_fine q w scope there b i r is (closed i r is))

    abbrev run_of : ℕ → Runs.Spot Item → List Suffix → Run Item Item
    run_of k sr ss = ways_of (z q) ss us then λ t. right.run t.left then (part_spot (z q) k sr t.found).write

    held_part : (at : Place) (k : ℕ) (ss : List Suffix) (base_at : Place) (b : ℕ) (name : List ℕ) (o : Option Held) → held_in name scope ≡ o → Var q f o
        → Beside q n f facts (bind (part_of at k ss (here q) scope (held_spot (here q) base_at b name o) ps) (then_assigned further))
        (run_of k (Runs.variable_spot (z q) b name) ss) (λ m g j u. Is q.set q.work g j u)
    held_part at k ss base_at b name None is h = wrong_part at base_at k ss (run_of k (Runs.variable_spot (z q) b name) ss)
    held_part at k ss base_at b name (Some (H.Value i)) is h = wrong_part at base_at k ss (run_of k (Runs.variable_spot (z q) b name) ss)
    held_part at k ss base_at b name (Some (H.Var r)) is h =
        part_goes base_at b name r (variable_read (z q) b name) (set_variable (z q) name) (variable_fine q w scope there b name r is h.0 h.1) at k ss

    register_part : (at : Place) (k : ℕ) (ss : List Suffix) (base_at : Place) (b i : ℕ) (o : Option Register) → slice_get q.set.around.registers i ≡ o
        → Beside q n f facts (bind (part_of at k ss (here q) scope (register_spot (here q) base_at b o) ps) (then_assigned further))
        (run_of k (Runs.register_spot (z q) w b i) ss) (λ m g j u. Is q.set q.work g j u)
    register_part at k ss base_at b i None is = wrong_part at base_at k ss (run_of k (Runs.register_spot (z q) w b i) ss)
    register_part at k ss base_at b i (Some r) is =
        part_goes base_at b r.name (register_type r) (register_read (z q) w b i) (λ y. write_register (z q) w i y.val)
        (register_fine q w scope there b i r is (closed i r is)) at k ss

    -- the walk over a part begins with its base
    part_starts : (at : Place) (k : ℕ) (ss : List Suffix) (s : Spot) (sr : Runs.Spot Item) → AtOnce s
        → Beside q n f facts (bind (part_of at k ss (here q) scope s ps) (then_assigned further)) (run_of k sr ss) (λ m g j u. Is q.set q.work g j u)
        → Beside q n f facts (bind (bind (give (spotted s ps)) (then_spot (part_within at k ss (here q) scope))) (then_assigned further))
        ((ways_of (z q) ss us then λ ways. Runs.spotted (part_spot (z q) k sr ways.found) ways.left) then λ r. right.run r.left then r.found.write)
        (λ m g j u. Is q.set q.work g j u)
    part_starts at k ss s sr once h =
        walk_regrouped (give (spotted s ps)) (then_spot (part_within at k ss (here q) scope)) (then_assigned further)
        (starts (spotted s ps) (λ o. bind (then_spot (part_within at k ss (here q) scope) o) (then_assigned further))
        (subst (λ (v : Walk (Option Spotted)). Beside q n f facts (bind v (then_assigned further))
        ((ways_of (z q) ss us then λ ways. Runs.spotted (part_spot (z q) k sr ways.found) ways.left) then λ r. right.run r.left then r.found.write)
        (λ m g j u. Is q.set q.work g j u)) (sym (within_is at k ss (here q) scope s once ps))
        (runs_as (λ now. sym (under (ways_of (z q) ss us now) _ _ (λ r. right.run r.left then r.found.write) (λ ways n1. refl))) h)))

  -- ---- targets

  pub name_target : (at : Place) (b : ℕ) (kind : TargetKind) → IsName kind → Goes (kind_spot at b kind []) (target_meaning (z q) w at b kind [])
  name_target at b (T.Variable name) is right right_fine further splits n f facts ps us fine there =
      held_goes right right_fine further splits facts ps us fine there at b name (held_in name scope) refl (held_keeps q f name scope q.names there.names)
  name_target at b (T.Register i) is right right_fine further splits n f facts ps us fine there =
      register_goes right right_fine further splits facts ps us fine there at b i (slice_get q.set.around.registers i) refl
  name_target at b T.Tuple is right right_fine further splits n f facts ps us fine there = absurd is
  name_target at b (T.Part ss) is right right_fine further splits n f facts ps us fine there = absurd is
  name_target at b (T.Call count reader writer) is right right_fine further splits n f facts ps us fine there = absurd is

  pub part_target : (at : Place) (k : ℕ) (ss : List Suffix) (base_at : Place) (b : ℕ) (kind : TargetKind) → IsName kind
      → Goes (kind_spot at k (T.Part ss) (kind_spot base_at b kind [] ∷ []))
      (target_meaning (z q) w at k (T.Part ss) (target_meaning (z q) w base_at b kind [] ∷ []))
  part_target at k ss base_at b (T.Variable name) is right right_fine further splits n f facts ps us fine there =
      part_starts right right_fine further splits facts ps us fine there at k ss (held_spot (here q) base_at b name (held_in name scope))
      (Runs.variable_spot (z q) b name) (held_once (here q) base_at b name (held_in name scope))
      (held_part right right_fine further splits facts ps us fine there at k ss base_at b name (held_in name scope) refl
      (held_keeps q f name scope q.names there.names))
  part_target at k ss base_at b (T.Register i) is right right_fine further splits n f facts ps us fine there =
      part_starts right right_fine further splits facts ps us fine there at k ss (register_spot (here q) base_at b (slice_get q.set.around.registers i))
      (Runs.register_spot (z q) w b i) (register_once (here q) base_at b (slice_get q.set.around.registers i))
      (register_part right right_fine further splits facts ps us fine there at k ss base_at b i (slice_get q.set.around.registers i) refl)
  part_target at k ss base_at b T.Tuple is right right_fine further splits n f facts ps us fine there = absurd is
  part_target at k ss base_at b (T.Part rs) is right right_fine further splits n f facts ps us fine there = absurd is
  part_target at k ss base_at b (T.Call count reader writer) is right right_fine further splits n f facts ps us fine there = absurd is
