-- Targets that may be parts of a tuple, beside their runs: names, calls, and tuples of such.
use Rattle.std.proofs.Common.{◌≡◌, ◌∙◌, ℕ, Bool, true, false, List, [], ◌∷◌}
use Rattle.std.proofs.Common.{if◌then◌else◌, drop, map, slice_get, take, Option, Some, None, refl, sym, subst}
use Rattle.std.specs.List.{list_all}
use Rattle.std.proofs.lemmas.Bool.{and_parts}
use Rattle.sail_base.specs.declared.place.Place.{Place}
use Rattle.model_state.specs.declared.state.Register.{Register}
use Rattle.sail_core.specs.Making.{World}
use Rattle.sail_core.specs.Run.{Run, ◌then◌}
use Rattle.sail_core.specs.Targets as Runs
use Rattle.sail_core.specs.Targets.{register_read, set_variable, target_meaning, variable_read, write_register}
use Rattle.sail_core.specs.declared.targets.Caller.{Caller}
use Rattle.sail_core.specs.declared.targets.Suffix.{Suffix}
use Rattle.sail_core.specs.declared.targets.Target.{Target, Target-F, fold-roll-Target, ind-Target, map-Target, roll-Target}
use Rattle.sail_core.specs.declared.targets.TargetKind.{TargetKind}
use Rattle.sail_core.specs.declared.targets.TargetKind.TheVariants as T
use Rattle.value_indices.specs.Steps.{bind, give}
use Rattle.value_indices.specs.declared.notes.Fact.{Fact}
use Rattle.pattern_leaves.specs.Settings.{Scope, held_in}
use Rattle.pattern_leaves.specs.declared.names.Held.{Held}
use Rattle.pattern_leaves.specs.declared.names.Held.TheVariants as H
use Rattle.call_notes.specs.Calls.{callee_types}
use Rattle.expression_forms.specs.Names.{register_type}
use Rattle.expression_forms.specs.Spots.{Spot, call_spot, held_spot, named_spot, register_spot, tuple_spot, wrong_spot}
use Rattle.expression_steps.specs.Calls.{argument_aims, nestings}
use Rattle.expression_steps.specs.Parts.{Part}
use Rattle.expression_steps.specs.Targets.{Spotted, SpottedAll, Spotting, call_spotted, each_spot, kind_spot}
use Rattle.expression_steps.specs.Targets.{spotted, spotted_all, spotting, then_spot, tuple_spotted, with_spot}
use Rattle.checked_meaning.specs.Items.{Item}
use Rattle.value_laws.specs.Known.{Point}
use Rattle.soundness_steps.specs.Points.{Later}
use Rattle.soundness_steps.specs.Works.{Scene, here}
use Rattle.soundness_steps.specs.Steps.{Beside}
use Rattle.soundness_steps.proofs.Steps.{binds, given_back, rests}
use Rattle.soundness_forms.specs.Calls.{CalleeFits}
use Rattle.soundness_forms.specs.Forms.{AllFine, FitsSuffice}
use Rattle.soundness_forms.specs.Mappings.{MappingsClosed}
use Rattle.soundness_forms.specs.Registers.{RegistersClosed}
use Rattle.soundness_forms.specs.Worlds.{Surrounds}
use Rattle.soundness_forms.proofs.Parts.{each_fine}
use Rattle.soundness_forms.proofs.Worlds.{surrounds_on}
use Rattle.soundness_values.proofs.Mappings.{arguments_steady}
use Rattle.soundness_values.proofs.NamedKinds.{all_taken}
use Rattle.soundness_parts.proofs.Taken.{z}
use Rattle.soundness_targets.proofs.Plain.{Shape, a_call, a_late, a_name, a_part, a_parted, a_tuple, a_wrong, is_item, is_member, shape, shape_form}
use Rattle.soundness_targets.proofs.CallTargets.{all_dropped}
use Rattle.soundness_targets.proofs.MemberSpots.{call_writable, name_writable, tuple_writable}
use Rattle.soundness_targets.proofs.Setters.{Var, held_keeps}
use Rattle.soundness_targets.proofs.TargetNames.{register_fine, variable_fine}
use Rattle.soundness_targets.proofs.TupleWrites.{AllWritable, Writable, writable_on, wrong_writable}

-- ---- what is found

module _ (q : Scene) (w : World Item) where
  abbrev pub FoundOne : {m : ℕ} → Point m → Option Spotted → Runs.Spotted Item (Runs.Spot Item) → Type 0
  FoundOne g None r = ⊥
  FoundOne g (Some s) r = AllFine q w s.left r.left × Writable q g s.spot r.found

  abbrev pub FoundAll : {m : ℕ} → Point m → Option SpottedAll → Runs.Spotted Item (List (Runs.Spot Item)) → Type 0
  FoundAll g None r = ⊥
  FoundAll g (Some all) r = AllFine q w all.left r.left × AllWritable q g all.spots r.found

module _ (fit : FitsSuffice) (q : Scene) (w : World Item) (closed : RegistersClosed q.set) (places : (i : ℕ) → CalleeFits q.set i)
    (mappings : MappingsClosed q.set) (scope : Scope) where
  abbrev pub Finds : Spotting → Runs.Spotting Item (Runs.Spot Item) → Type 0
  Finds t tr = (n : ℕ) (f : Point n) (facts : List Fact) (ps : List Part) (us : List (Run Item Item)) → AllFine q w ps us → Surrounds q w f scope
      → Beside q n f facts (t (here q) scope ps) (tr us) (λ m g o r. FoundOne q w g o r)

  abbrev pub FindsAll : List Spotting → List (Runs.Spotting Item (Runs.Spot Item)) → Type 0
  FindsAll ts trs = (n : ℕ) (f : Point n) (facts : List Fact) (ps : List Part) (us : List (Run Item Item)) → AllFine q w ps us → Surrounds q w f scope
      → Beside q n f facts (each_spot ts (here q) scope ps) (Runs.spots_of trs us) (λ m g o r. FoundAll q w g o r)

  -- ---- names

  module _ {n : ℕ} (f : Point n) (facts : List Fact) (ps : List Part) (us : List (Run Item Item)) (fine : AllFine q w ps us) where
    found_once : (s : Spot) (sr : Runs.Spot Item) → Writable q f s sr
        → Beside q n f facts (give (spotted s ps)) (Runs.spotted sr us) (λ m g o r. FoundOne q w g o r)
    found_once s sr h = rests (record { found = sr; left = us }) (given_back (spotted s ps) (fine, h))

    module _ (there : Surrounds q w f scope) (at : Place) (b : ℕ) where
      held_found : (name : List ℕ) (o : Option Held) → held_in name scope ≡ o → Var q f o
          → Beside q n f facts (give (spotted (held_spot (here q) at b name o) ps)) (Runs.spotted (Runs.variable_spot (z q) b name) us)
          (λ m g c r. FoundOne q w g c r)
      held_found name None is h = found_once (wrong_spot at) (Runs.variable_spot (z q) b name) (wrong_writable q f at (Runs.variable_spot (z q) b name))
      held_found name (Some (H.Value i)) is h =
          found_once (wrong_spot at) (Runs.variable_spot (z q) b name) (wrong_writable q f at (Runs.variable_spot (z q) b name))
      held_found name (Some (H.Var r)) is h =
          found_once (named_spot (here q) at b name r) (Runs.variable_spot (z q) b name)
          (name_writable fit q w f at b name r (variable_read (z q) b name) (set_variable (z q) name) (variable_fine q w scope there b name r is h.0 h.1))

      register_found : (i : ℕ) (o : Option Register) → slice_get q.set.around.registers i ≡ o
          → Beside q n f facts (give (spotted (register_spot (here q) at b o) ps)) (Runs.spotted (Runs.register_spot (z q) w b i) us)
          (λ m g c r. FoundOne q w g c r)
      register_found i None is = found_once (wrong_spot at) (Runs.register_spot (z q) w b i) (wrong_writable q f at (Runs.register_spot (z q) w b i))
      register_found i (Some r) is =
          found_once (named_spot (here q) at b r.name (register_type r)) (Runs.register_spot (z q) w b i)
          (name_writable fit q w f at b r.name (register_type r) (register_read (z q) w b i) (λ y. write_register (z q) w i y.val)
          (register_fine q w scope there b i r is (closed i r is)))

  -- ---- calls

  call_found : (at : Place) (k count : ℕ) (reader : Option Caller) (writer : Caller)
      → Finds (kind_spot at k (T.Call count reader writer) []) (target_meaning (z q) w at k (T.Call count reader writer) [])
  call_found at k count reader writer n f facts ps us fine there =
      let aims = argument_aims (callee_types (here q) writer.callee) in
      binds (call_spotted (here q) at k count reader writer ps)
      (λ xs. Runs.spotted (Runs.call_spot (z q) w at k reader writer xs) (drop count us))
      (each_fine q w scope (take count ps) (take count us) (all_taken q w count ps us fine) aims there
      (arguments_steady q.set q.work f (callee_types (here q) writer.callee)))
      (λ m g fs is xs l e.
      found_once g fs (drop count ps) (drop count us) (all_dropped q w count ps us fine)
      (call_spot (here q) at k reader writer (nestings (take count ps)) is) (Runs.call_spot (z q) w at k reader writer xs)
      (call_writable fit q w places mappings scope g (surrounds_on q w scope l there) at k reader writer (take count ps) is xs e))

  -- ---- several, one after the other

  none_found : FindsAll [] []
  none_found n f facts ps us fine there = rests (record { found = []; left = us }) (given_back (spotted_all [] ps) (fine, tt))

  module _ (t : Spotting) (tr : Runs.Spotting Item (Runs.Spot Item)) (ts : List Spotting) (trs : List (Runs.Spotting Item (Runs.Spot Item)))
      (h : Finds t tr) (more : FindsAll ts trs) where
    second : {m d : ℕ} {g : Point m} {p : Point d} {fs : List Fact} (s : Spot) (sr : Runs.Spot Item) → Later g p → Writable q g s sr
        → (all : Option SpottedAll) (r : Runs.Spotted Item (List (Runs.Spot Item))) → FoundAll q w p all r
        → Beside q d p fs (with_spot s all) (Runs.spotted (sr ∷ r.found) r.left) (λ a b o c. FoundAll q w b o c)
    second s sr l wr None r e = absurd e
    second s sr l wr (Some all) r e =
        rests (record { found = sr ∷ r.found; left = r.left })
        (given_back (spotted_all (s ∷ all.spots) all.left) (e.0, (writable_on q s sr l wr, e.1)))

    first : {m : ℕ} {g : Point m} {fs : List Fact} → Surrounds q w g scope → (o : Option Spotted) (r : Runs.Spotted Item (Runs.Spot Item)) → FoundOne q w g o r
        → Beside q m g fs (then_spot (λ s left. bind (each_spot ts (here q) scope left) (with_spot s)) o) (Runs.also r.found (Runs.spots_of trs r.left))
        (λ a b c d. FoundAll q w b c d)
    first there None r e = absurd e
    first {m} {g} {fs} there (Some s) r e =
        binds (with_spot s.spot) (λ all. Runs.spotted (r.found ∷ all.found) all.left) (more m g fs s.left r.left e.0 there) (λ d p gs all c l k.
        second s.spot r.found l e.1 all c k)

    more_found : FindsAll (t ∷ ts) (tr ∷ trs)
    more_found n f facts ps us fine there =
        binds (then_spot (λ s left. bind (each_spot ts (here q) scope left) (with_spot s))) (λ r. Runs.also r.found (Runs.spots_of trs r.left))
        (h n f facts ps us fine there) (λ m g fs o r l e. first (surrounds_on q w scope l there) o r e)

  tuple_found : (at : Place) (k : ℕ) (ts : List Spotting) (trs : List (Runs.Spotting Item (Runs.Spot Item))) → FindsAll ts trs
      → Finds (kind_spot at k T.Tuple ts) (target_meaning (z q) w at k T.Tuple trs)
  tuple_found at k ts trs h n f facts ps us fine there =
      binds (λ all. give (tuple_spotted at k all)) (λ all. Runs.spotted (Runs.tuple_spot (z q) k all.found) all.left) (h n f facts ps us fine there)
      (λ m g fs all r l e. by g fs all r e)
    where
      by : {m : ℕ} (g : Point m) (fs : List Fact) (all : Option SpottedAll) (r : Runs.Spotted Item (List (Runs.Spot Item))) → FoundAll q w g all r
          → Beside q m g fs (give (tuple_spotted at k all)) (Runs.spotted (Runs.tuple_spot (z q) k r.found) r.left) (λ a b o c. FoundOne q w b o c)
      by g fs None r e = absurd e
      by g fs (Some all) r e =
          found_once g fs all.left r.left e.0 (tuple_spot at k all.spots) (Runs.tuple_spot (z q) k r.found)
          (tuple_writable q w g at k all.spots r.found e.1)

  -- ---- each target that may be one

  abbrev pub meaning : Target → Runs.Spotting Item (Runs.Spot Item)
  meaning t = Runs.spotting (z q) w t

  abbrev FindsSo : Target → Type 0
  FindsSo t = is_member (shape t) ≡ true → Finds (spotting t) (meaning t)

  abbrev Such : Type 0
  Such = (t : Target) × FindsSo t

  abbrev targets_of : List Such → List Target
  targets_of ys = map (λ (y : Such). y.0) ys

  all_members : (ys : List Such) → list_all is_member (map shape (targets_of ys)) ≡ true
      → FindsAll (map spotting (targets_of ys)) (map meaning (targets_of ys))
  all_members [] e = none_found
  all_members (y ∷ ys) e =
      let both = and_parts (is_member (shape y.0)) (list_all is_member (map shape (targets_of ys))) e in
      more_found (spotting y.0) (meaning y.0) (map spotting (targets_of ys)) (map meaning (targets_of ys)) (y.1 both.0) (all_members ys both.1)

  module _ (at : Place) (k : ℕ) where
    by_tuple : (ys : List Such) (b c : Bool) → list_all is_member (map shape (targets_of ys)) ≡ b
        → is_member (if b then a_tuple else if c then a_parted else a_wrong) ≡ true
        → Finds (kind_spot at k T.Tuple (map spotting (targets_of ys))) (target_meaning (z q) w at k T.Tuple (map meaning (targets_of ys)))
    by_tuple ys true c e m = tuple_found at k (map spotting (targets_of ys)) (map meaning (targets_of ys)) (all_members ys e)
    by_tuple ys false true e m = absurd (cc)
    by_tuple ys false false e m = absurd (cc)

    no_part : (ss : List Suffix) (cs : List Shape) → is_member (shape_form (T.Part ss) cs) ≡ false
    no_part ss [] = refl
    no_part ss (a_name ∷ []) = refl
    no_part ss (a_part ∷ []) = refl
    no_part [] (a_call ∷ []) = refl
    no_part (s ∷ ss) (a_call ∷ []) = refl
    no_part ss (a_late ∷ []) = refl
    no_part ss (a_tuple ∷ []) = refl
    no_part ss (a_parted ∷ []) = refl
    no_part ss (a_wrong ∷ []) = refl
    no_part ss (c ∷ d ∷ cs) = refl

    form_by : (kind : TargetKind) (ys : List Such) → is_member (shape_form kind (map shape (targets_of ys))) ≡ true
        → Finds (kind_spot at k kind (map spotting (targets_of ys))) (target_meaning (z q) w at k kind (map meaning (targets_of ys)))
    form_by (T.Variable name) [] m = λ n f facts ps us fine there.
        held_found f facts ps us fine there at k name (held_in name scope) refl (held_keeps q f name scope q.names there.names)
    form_by (T.Register i) [] m = λ n f facts ps us fine there.
        register_found f facts ps us fine there at k i (slice_get q.set.around.registers i) refl
    form_by (T.Call count reader writer) [] m = call_found at k count reader writer
    form_by T.Tuple ys m = by_tuple ys (list_all is_member (map shape (targets_of ys))) (list_all is_item (map shape (targets_of ys))) refl m
    form_by (T.Part ss) ys m =
        let bad : true ≡ false = sym m ∙ no_part ss (map shape (targets_of ys)) in
        absurd (cc)
    form_by (T.Variable name) (y ∷ ys) m = absurd (cc)
    form_by (T.Register i) (y ∷ ys) m = absurd (cc)
    form_by (T.Call count reader writer) (y ∷ ys) m = absurd (cc)

  step : (y : Target-F Such) → FindsSo (roll-Target (map-Target Such Target (λ p. p.0) y))
  step y m =
      subst (λ (s : Spotting). Finds s (meaning (roll-Target (map-Target Such Target (λ p. p.0) y))))
      (sym (fold-roll-Target Spotting (λ u. kind_spot u.place u.number u.kind u.parts) (map-Target Such Target (λ p. p.0) y)))
      (subst (λ (s : Runs.Spotting Item (Runs.Spot Item)). Finds (kind_spot y.place y.number y.kind (map spotting (targets_of y.parts))) s)
      (sym (fold-roll-Target (Runs.Spotting Item (Runs.Spot Item)) (λ u. target_meaning (z q) w u.place u.number u.kind u.parts)
      (map-Target Such Target (λ p. p.0) y)))
      (form_by y.place y.number y.kind y.parts
      (subst (λ c. is_member c ≡ true) (fold-roll-Target Shape (λ t. shape_form t.kind t.parts) (map-Target Such Target (λ p. p.0) y)) m)))

  pub member_finds : (t : Target) → FindsSo t
  member_finds = ind-Target FindsSo (λ e y same_form. subst (λ d. FindsSo (roll-Target d)) same_form (step y))

  pub each_finds : (ts : List Target) → list_all is_member (map shape ts) ≡ true → FindsAll (map spotting ts) (map meaning ts)
  each_finds [] e = none_found
  each_finds (t ∷ ts) e =
      let both = and_parts (is_member (shape t)) (list_all is_member (map shape ts)) e in
      more_found (spotting t) (meaning t) (map spotting ts) (map meaning ts) (member_finds t both.0) (each_finds ts both.1)
