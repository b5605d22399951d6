-- A target that is a part of a call, with what stands on its right.
use Rattle.std.proofs.Common.{◌≡◌, ◌∙◌, ◌++◌, ℕ, Bool, true, false, List, [], ◌∷◌, if◌then◌else◌, length, take, drop, Option, Some, None}
use Rattle.std.proofs.Common.{refl, sym, ap, subst}
use Rattle.sail_base.specs.declared.place.Place.{Place}
use Rattle.sail_types.specs.declared.numbers.Num.{Num}
use Rattle.sail_types.specs.declared.types.Typ.{Typ}
use Rattle.sail_core.specs.Making.{World}
use Rattle.sail_core.specs.Run.{Now, Run, goes_on, in_turn, ◌then◌}
use Rattle.sail_core.specs.Targets as Runs
use Rattle.sail_core.specs.Targets.{part_spot, target_meaning, ways_of}
use Rattle.sail_core.specs.Values.{Into}
use Rattle.sail_core.specs.declared.targets.Caller.{Caller}
use Rattle.sail_core.specs.declared.targets.Suffix.{Suffix}
use Rattle.sail_core.specs.declared.targets.TargetKind.TheVariants as T
use Rattle.value_indices.specs.Steps.{Walk, bind, give, next_variable, scoped}
use Rattle.value_indices.specs.declared.indices.Indices.{Indices}
use Rattle.value_indices.specs.declared.notes.Fact.{Fact}
use Rattle.pattern_leaves.specs.Settings.{Scope}
use Rattle.call_arguments.specs.Holes.{value_has_hole}
use Rattle.call_notes.specs.Calls.{callee_types}
use Rattle.call_notes.specs.Ends.{wrong_value}
use Rattle.expression_forms.specs.Spots as Walked
use Rattle.expression_forms.specs.Spots.{Spot, call_spot, in_force, owed_answer, wrong_spot}
use Rattle.expression_steps.specs.Calls.{argument_aims, nestings}
use Rattle.expression_steps.specs.Parts.{Part, each_walk, numbers_walk}
use Rattle.expression_steps.specs.Targets.{Spotted, ahead, call_spotted, each_late, is_short, kind_spot, known_late, late_count, no_spot}
use Rattle.expression_steps.specs.Targets.{numbered_late, part_within, read_ahead, spotted, then_assigned, then_spot}
use Rattle.expression_steps.specs.declared.late.Ahead.{Ahead}
use Rattle.checked_meaning.specs.Items.{Item}
use Rattle.value_laws.specs.Known.{Point}
use Rattle.soundness_steps.specs.Steps.{Beside, Walks}
use Rattle.soundness_steps.specs.Values.{AimSteady, Is}
use Rattle.soundness_steps.specs.Works.{Scene, here}
use Rattle.soundness_steps.proofs.Steps.{binds, grown, grown_later, met_front, runs_as, stands_on, walks_mean, walks_on, walks_then}
use Rattle.soundness_forms.specs.Calls.{CalleeFits}
use Rattle.soundness_forms.specs.Forms.{AllFine, FitsSuffice}
use Rattle.soundness_forms.specs.Mappings.{MappingsClosed}
use Rattle.soundness_forms.specs.Registers.{RegistersClosed}
use Rattle.soundness_forms.specs.Worlds.{Surrounds}
use Rattle.soundness_forms.proofs.Basics.{then_walks, wrong_alone, wrong_walks}
use Rattle.soundness_forms.proofs.Leaves.{wrong_node}
use Rattle.soundness_forms.proofs.Parts.{each_fine}
use Rattle.soundness_forms.proofs.Worlds.{surrounds_on}
use Rattle.soundness_parts.proofs.SliceSteps.{under}
use Rattle.soundness_parts.proofs.Taken.{z}
use Rattle.soundness_values.specs.Named.{TypesNarrow}
use Rattle.soundness_values.proofs.Mappings.{arguments_steady}
use Rattle.soundness_values.proofs.NamedKinds.{all_taken}
use Rattle.soundness_targets.proofs.CallTargets.{all_dropped}
use Rattle.soundness_targets.proofs.LateAssigned.{late_assigned}
use Rattle.soundness_targets.proofs.LateFound as Found
use Rattle.soundness_targets.proofs.LateGrowth.{part_late_grows}
use Rattle.soundness_targets.proofs.LateIndexes.{Indexed, all_indexed}
use Rattle.soundness_targets.proofs.LateKnown.{late_found}
use Rattle.soundness_targets.proofs.LateWrites.{Arguments}
use Rattle.soundness_targets.proofs.Named.{none_aimed}
use Rattle.soundness_targets.proofs.OneTarget.{Goes}
use Rattle.soundness_targets.proofs.Pieces.{starts, walk_regrouped}
use Rattle.soundness_targets.proofs.Rights.{Right, RightFine, Splits}

module _ (q : Scene) (w : World Item) (place : Place) (scope : Scope) (right : Right) (right_fine : RightFine q w place scope right)
    (further : Spot → List Part → Walk Indices) (splits : Splits further right) where
  -- what is assigned to something wrong
  wrong_goes : {m : ℕ} {c : Point m} {fs : List Fact} (p : Place) (left : List Part) (us : List (Run Item Item)) (d : Item → Run Item Item)
      → AllFine q w left us → Surrounds q w c scope
      → Beside q m c fs (further (wrong_spot p) left) (right.run us then d) (λ o b j u. Is q.set q.work b j u)
  wrong_goes {m} {c} {fs} p left us d fine there =
      subst (λ v. Beside q m c fs v (right.run us then d) (λ o b j u. Is q.set q.work b j u)) (sym (splits (wrong_spot p) left))
      (binds (right.last (wrong_spot p) left) d
      (right_fine.goes m c fs (wrong_spot p) left us fine there (subst (AimSteady q.set q.work c) (sym none_aimed) tt)) (λ o b gs i y l e.
      subst (λ v. Beside q o b gs v (d y) (λ o2 b2 j u. Is q.set q.work b2 j u)) (sym e.1)
      (wrong_node (owed_answer place) (d y) (walks_on Walked.gives (wrong_walks p) (λ o2 b2 hs a l2 h. absurd h)))))

  no_target : {m : ℕ} {c : Point m} {fs : List Fact} (at : Place) (d : Run Item Item)
      → Beside q m c fs (bind (no_spot at) (then_assigned further)) d (λ o b j u. Is q.set q.work b j u)
  no_target {m} {c} {fs} at d =
      let none : Beside q m c fs (no_spot at) d (λ o b s x. ⊥) = wrong_alone at d in
      then_walks (then_assigned further) none (λ o b gs a x l h. absurd h)

-- ---- a part of a call whose value has a hole

module _ (fit : FitsSuffice) (q : Scene) (w : World Item) (narrow : TypesNarrow q.set.around.types) (places : (i : ℕ) → CalleeFits q.set i)
    (mappings : MappingsClosed q.set) (scope : Scope) (at : Place) (k : ℕ) (r : Suffix) (ss : List Suffix) (base_at : Place) (kb : ℕ) (asker : Caller)
    (writer : Caller) (ps : List Part) (is : List Indices)
    (xs : List Item) {m0 : ℕ} {g : Point m0} (facts0 : List Fact) (there : Surrounds q w g scope)
    (each : Arguments fit q w places mappings scope base_at kb writer ps is xs g) where
  abbrev pub own : Place
  own = Found.own_place fit q w narrow places mappings scope at k r ss base_at kb asker writer ps is xs facts0 there each

  abbrev base : Spot
  base = call_spot (here q) base_at kb (Some asker) writer (nestings ps) is

  abbrev held : Indices
  held = Found.held fit q w narrow places mappings scope at k r ss base_at kb asker writer ps is xs facts0 there each

  abbrev known : List Fact
  known = Found.known fit q w narrow places mappings scope at k r ss base_at kb asker writer ps is xs facts0 there each

  abbrev ahead_there : Ahead
  ahead_there = ahead m0 held known

  module _ (holed : value_has_hole held ≡ true) (left : List Part) (us : List (Run Item Item)) (enough : is_short (r ∷ ss) (length left) ≡ false)
      (fine : AllFine q w left us) where
    abbrev behind : List Part
    behind = drop (late_count (r ∷ ss) left) left

    abbrev IsWrong : Option Spotted → Type 0
    IsWrong o = o ≡ spotted (wrong_spot own) behind

    hole_known : {n : ℕ} {p : Point n} {fs : List Fact} (ns : List Num)
        → Walks q n p fs (known_late at k (r ∷ ss) (here q) base ahead_there behind ns) (λ m c o. IsWrong o)
    unfolding bind give scoped in_force next_variable
    hole_known {n} {p} {fs} ns = record {
      go = λ noted stands met.
          let more = (part_late_grows (here q) at (r ∷ ss) ns held).onward (fs ++ known) n in
          let l = grown_later p more in
          let x = late_found (here q) at ns held r ss (fs ++ known) n in
          record {
            point = grown p more;
            later = l;
            stands = stands_on l stands;
            holds =
                Found.part_by fit q w narrow places mappings scope at k r ss base_at kb asker writer ps is xs facts0 there each ns n behind
                (Found.ways_walk fit q w narrow places mappings scope at k r ss base_at kb asker writer ps is xs facts0 there each ns
                (fs ++ known)
                n).value x.0 x.1
                ∙ ap (λ s. spotted s behind)
                (Found.hole_is fit q w narrow places mappings scope at k r ss base_at kb asker writer ps is xs facts0 there each holed x.0
                (Found.known_at fit q w narrow places mappings scope at k r ss base_at kb asker writer ps is xs facts0 there each ns n));
          };
    }

    abbrev Spots : Option Spotted → Runs.Spotted Item (List Into) → Type 0
    Spots o t = AllFine q w behind t.left × IsWrong o

    hole_numbered : {n : ℕ} {p : Point n} {fs : List Fact} (o : Option (List Num)) (t : Runs.Spotted Item (List Into)) → Indexed q w scope (r ∷ ss) behind p o t
        → Walks q n p fs (numbered_late at k (r ∷ ss) (here q) base behind ahead_there o) (λ m c e. Spots e t)
    hole_numbered None t h = absurd h
    hole_numbered (Some ns) t h = walks_mean (λ m c o e. (h.1, e)) (hole_known ns)

    abbrev numbers_then : Ahead → Walk (Option Spotted)
    numbers_then a = bind (numbers_walk (take (late_count (r ∷ ss) left) left) (here q) scope) (numbered_late at k (r ∷ ss) (here q) base behind a)

    pub hole_found : Beside q m0 g facts0 (each_late at k (r ∷ ss) (here q) scope base left) (ways_of (z q) (r ∷ ss) us) (λ m c o t. Spots o t)
    hole_found =
        walks_then numbers_then
        (Found.ahead_walks fit q w narrow places mappings scope at k r ss base_at kb asker writer ps is xs facts0 there each None)
        (λ m p fs a l h.
        subst (λ b. Beside q m p fs (numbers_then b) (ways_of (z q) (r ∷ ss) us) (λ d c o t. Spots o t)) (sym h.0)
        (then_walks (numbered_late at k (r ∷ ss) (here q) base behind ahead_there)
        (all_indexed q w scope (r ∷ ss) m p fs left us enough fine (surrounds_on q w scope l there)) (λ d c gs o t l2 e.
        hole_numbered o t e)))

    pub hole_assigned : (place : Place) (right : Right) → RightFine q w place scope right → (further : Spot → List Part → Walk Indices) → Splits further right
        → (d : Runs.Spotted Item (List Into) → Item → Run Item Item)
        → Beside q m0 g facts0 (bind (each_late at k (r ∷ ss) (here q) scope base left) (then_assigned further))
        (ways_of (z q) (r ∷ ss) us then λ t. right.run t.left then d t) (λ m p j u. Is q.set q.work p j u)
    hole_assigned place right right_fine further splits d =
        binds (then_assigned further) (λ t. right.run t.left then d t) hole_found (λ m c fs o t l h.
        subst (λ e. Beside q m c fs (then_assigned further e) (right.run t.left then d t) (λ m2 p j u. Is q.set q.work p j u)) (sym h.1)
        (wrong_goes q w place scope right right_fine further splits own behind t.left (d t) h.0 (surrounds_on q w scope l there)))

-- ---- the target

module _ (fit : FitsSuffice) (q : Scene) (w : World Item) (narrow : TypesNarrow q.set.around.types) (closed : RegistersClosed q.set)
    (places : (i : ℕ) → CalleeFits q.set i) (mappings : MappingsClosed q.set) (place : Place) (scope : Scope) (at : Place) (k : ℕ) (r : Suffix)
    (ss : List Suffix) (base_at : Place) (kb count : ℕ) (reader : Option Caller) (writer : Caller)
  where
    abbrev types : List Typ
    types = callee_types (here q) writer.callee

    module _ (right : Right) (right_fine : RightFine q w place scope right) (further : Spot → List Part → Walk Indices) (splits : Splits further right)
        (ps : List Part) (is : List Indices) (xs : List Item) {m0 : ℕ} {g : Point m0} (facts0 : List Fact) (there : Surrounds q w g scope)
        (each : Arguments fit q w places mappings scope base_at kb writer ps is xs g) (left : List Part) (us : List (Run Item Item))
        (fine : AllFine q w left us) where
      abbrev base_by : Option Caller → Spot
      base_by o = call_spot (here q) base_at kb o writer (nestings ps) is

      abbrev writes_by : Option Caller → Runs.Spotted Item (List Into) → Item → Run Item Item
      writes_by o t = (part_spot (z q) k (Runs.call_spot (z q) w base_at kb o writer xs) t.found).write

      abbrev Goes_by : Option Caller → Bool → Type 0
      Goes_by o b = Beside q m0 g facts0 (bind (if b then no_spot at else each_late at k (r ∷ ss) (here q) scope (base_by o) left) (then_assigned further))
          (ways_of (z q) (r ∷ ss) us then λ t. right.run t.left then writes_by o t) (λ m p j u. Is q.set q.work p j u)

      -- nothing reads it
      none_ahead : Walks q m0 g facts0 (read_ahead (base_by None)) (λ m p a. ⊥)
      unfolding bind next_variable scoped
      none_ahead = record {
        go = λ noted stands met.
            let w0 : Walk Indices = wrong_value base_at in
            let none : Walks q m0 g facts0 w0 (λ m p a. ⊥) = wrong_walks base_at in
            absurd (none.go noted stands (met_front q (w0 facts0 m0).notes _ met)).holds;
      }

      unread_goes : Goes_by None false
      unread_goes =
          let c : ℕ = late_count (r ∷ ss) left in
          let then_numbers : Ahead → Walk (Option Spotted) = λ a. bind (numbers_walk (take c left) (here q) scope)
          (numbered_late at k (r ∷ ss) (here q) (base_by None) (drop c left) a) in
          walk_regrouped (read_ahead (base_by None)) then_numbers (then_assigned further)
          (walks_then (λ a. bind (then_numbers a) (then_assigned further)) none_ahead (λ m p fs a l e. absurd e))

      by_reader : (o : Option Caller) → is_short (r ∷ ss) (length left) ≡ false → Goes_by o false
      by_reader None enough = unread_goes
      by_reader (Some asker) enough = by_hole
          (value_has_hole (Found.held fit q w narrow places mappings scope at k r ss base_at kb asker writer ps is xs facts0 there each)) refl
        where
          by_hole : (b : Bool)
              → value_has_hole (Found.held fit q w narrow places mappings scope at k r ss base_at kb asker writer ps is xs facts0 there each) ≡ b
              → Goes_by (Some asker) false
          by_hole true e =
              hole_assigned fit q w narrow places mappings scope at k r ss base_at kb asker writer ps is xs facts0 there each e left us enough fine
              place right right_fine further splits (writes_by (Some asker))
          by_hole false e =
              late_assigned fit q w narrow places mappings scope at k r ss base_at kb asker writer ps is xs facts0 there each e left us enough fine
              place right right_fine further splits

      by_count : (b : Bool) → is_short (r ∷ ss) (length left) ≡ b → Goes_by reader b
      by_count true e =
          no_target q w place scope right right_fine further splits at (ways_of (z q) (r ∷ ss) us then λ t. right.run t.left then writes_by reader t)
      by_count false e = by_reader reader e

      part_goes : Beside q m0 g facts0 (bind (part_within at k (r ∷ ss) (here q) scope (base_by reader) left) (then_assigned further))
          (ways_of (z q) (r ∷ ss) us then λ t. right.run t.left then writes_by reader t) (λ m p j u. Is q.set q.work p j u)
      part_goes = by_count (is_short (r ∷ ss) (length left)) refl

    abbrev base_of : List Item → Runs.Spot Item
    base_of xs = Runs.call_spot (z q) w base_at kb reader writer xs

    same_run : (us2 : List (Run Item Item)) (right2 : Right) (now : Now Item)
        → goes_on (target_meaning (z q) w at k (T.Part (r ∷ ss)) (target_meaning (z q) w base_at kb (T.Call count reader writer) [] ∷ []) us2 now)
        (λ s. right2.run s.left then s.found.write)
        ≡ goes_on (in_turn (take count us2) now)
        (λ xs. ways_of (z q) (r ∷ ss) (drop count us2) then λ t. right2.run t.left then (part_spot (z q) k (base_of xs) t.found).write)
    same_run us2 right2 now =
        let found : Run Item (Runs.Spotted Item (Runs.Spot Item)) =
        in_turn (take count us2) then λ xs. Runs.spotted (base_of xs) (drop count us2) in
        under (found now) _ (λ b. ways_of (z q) (r ∷ ss) b.left then λ ways. right2.run ways.left then (part_spot (z q) k b.found ways.found).write)
        (λ s. right2.run s.left then s.found.write)
        (λ b n1. under (ways_of (z q) (r ∷ ss) b.left n1) _ _ (λ s. right2.run s.left then s.found.write) (λ ways n2. refl))
        ∙ under (in_turn (take count us2) now) _ _
        (λ b. ways_of (z q) (r ∷ ss) b.left then λ ways. right2.run ways.left then (part_spot (z q) k b.found ways.found).write) (λ xs n1. refl)

    pub late_target : Goes fit q w narrow closed place scope (kind_spot at k (T.Part (r ∷ ss)) (kind_spot base_at kb (T.Call count reader writer) [] ∷ []))
        (target_meaning (z q) w at k (T.Part (r ∷ ss)) (target_meaning (z q) w base_at kb (T.Call count reader writer) [] ∷ []))
    late_target right right_fine further splits n f facts ps us fine there =
        let arguments : Walk (List Indices) = each_walk (take count ps) (here q) scope (argument_aims types) in
        let spot : List Indices → Walk (Option Spotted) = call_spotted (here q) base_at kb count reader writer ps in
        let parts : Option Spotted → Walk (Option Spotted) = then_spot (part_within at k (r ∷ ss) (here q) scope) in
        let base_run : List Item → Runs.Spot Item = λ xs. Runs.call_spot (z q) w base_at kb reader writer xs in
        walk_regrouped (bind arguments spot) parts (then_assigned further)
        (walk_regrouped arguments spot (λ o. bind (parts o) (then_assigned further))
        (runs_as (λ now. sym (same_run us right now))
        (binds (λ is. bind (spot is) (λ o. bind (parts o) (then_assigned further)))
        (λ xs. ways_of (z q) (r ∷ ss) (drop count us) then λ t. right.run t.left then (part_spot (z q) k (base_run xs) t.found).write)
        (each_fine q w scope (take count ps) (take count us) (all_taken q w count ps us fine) (argument_aims types) there
        (arguments_steady q.set q.work f types))
        (λ m g fs is xs l e.
        starts (spotted (call_spot (here q) base_at kb reader writer (nestings (take count ps)) is) (drop count ps))
        (λ o. bind (parts o) (then_assigned further))
        (part_goes right right_fine further splits (take count ps) is xs fs (surrounds_on q w scope l there) e (drop count ps) (drop count us)
        (all_dropped q w count ps us fine))))))
