-- A target that is a call, with what stands on its right: the new value is the call's last argument.
use Rattle.std.proofs.Common.{◌≡◌, ◌∙◌, ◌++◌, ℕ, zero, suc, Bool, true, false, List, [], ◌∷◌, if◌then◌else◌, take, drop, Option}
use Rattle.std.proofs.Common.{refl, sym, ap, subst}
use Rattle.sail_base.specs.declared.place.Place.{Place}
use Rattle.sail_types.specs.declared.types.Typ.{Typ}
use Rattle.sail_core.specs.Making.{World, made}
use Rattle.sail_core.specs.Run.{Run, gives, in_turn, ◌then◌}
use Rattle.sail_core.specs.Targets as Runs
use Rattle.sail_core.specs.Targets.{called as run_called, target_meaning}
use Rattle.sail_core.specs.declared.targets.Caller.{Caller}
use Rattle.sail_core.specs.declared.targets.TargetKind.TheVariants as T
use Rattle.sail_core.specs.declared.tree.Giver.TheVariants as By
use Rattle.value_indices.specs.Steps.{Walk, bind, give}
use Rattle.value_indices.specs.declared.indices.Indices.{Indices}
use Rattle.value_indices.specs.declared.indices.Indices.TheOpen as W
use Rattle.value_indices.specs.declared.indices.Indices.TheViews.{out-roll-Reading}
use Rattle.value_indices.specs.declared.indices.Reading.{out-Reading}
use Rattle.value_indices.specs.declared.indices.Reading.TheVariants as R
use Rattle.value_indices.specs.declared.notes.Fact.{Fact}
use Rattle.value_indices.specs.declared.notes.Made.TheVariants as Makes
use Rattle.value_fits.specs.Fitting.{says}
use Rattle.pattern_leaves.specs.Settings.{Scope}
use Rattle.call_arguments.specs.Aims.{aimed}
use Rattle.call_arguments.specs.Callees.{is_closed}
use Rattle.call_arguments.specs.declared.aims.Aim.{Aim}
use Rattle.call_arguments.specs.declared.aims.Aim.TheVariants as Aims
use Rattle.call_notes.specs.Calls.{callee_types}
use Rattle.call_notes.specs.Noted.{node_made, numbers_given, numbers_noted}
use Rattle.expression_forms.specs.Nodes.{form_made, put}
use Rattle.expression_forms.specs.Spots.{answered, call_spot, last_type, owed_answer, wrote, written_by}
use Rattle.expression_forms.specs.Spots as Walked
use Rattle.expression_steps.specs.Calls.{argument_aims, nestings}
use Rattle.expression_steps.specs.Parts.{Part, each_walk}
use Rattle.expression_steps.specs.Targets.{call_spotted, kind_spot, then_assigned}
use Rattle.checked_meaning.specs.Items.{Item}
use Rattle.value_laws.specs.Known.{Point}
use Rattle.fitting_laws.proofs.Joining.{says_so}
use Rattle.soundness_steps.specs.Points.{Later}
use Rattle.soundness_steps.proofs.Points.{later_on}
use Rattle.soundness_steps.specs.Works.{Scene, here}
use Rattle.soundness_steps.specs.Steps.{Beside, Walks}
use Rattle.soundness_steps.specs.Values.{AimSteady, Has, Is, IsMet}
use Rattle.soundness_steps.proofs.Steps.{binds, given_back, gives_numbers, makes, rests, runs_as, runs_on, walks_on}
use Rattle.soundness_forms.specs.Calls.{CalleeFits}
use Rattle.soundness_forms.specs.Forms.{AllFine, FitsSuffice}
use Rattle.soundness_forms.specs.Mappings.{MappingsClosed}
use Rattle.soundness_forms.specs.Registers.{RegistersClosed}
use Rattle.soundness_forms.specs.Worlds.{Surrounds}
use Rattle.soundness_forms.proofs.Basics.{has_there, is_on, met_on, then_walks}
use Rattle.soundness_forms.proofs.Giving.{gives_all}
use Rattle.soundness_forms.proofs.Leaving.{aimed_is}
use Rattle.soundness_forms.proofs.Parts.{EachIs, each_fine, first_aim, other_aims}
use Rattle.soundness_forms.proofs.Worlds.{surrounds_on}
use Rattle.soundness_fits.proofs.Owing.{suffices_walks}
use Rattle.soundness_values.specs.Named.{TypesNarrow}
use Rattle.soundness_values.proofs.Mappings.{arguments_steady, nameless_wanted}
use Rattle.soundness_values.proofs.NamedKinds.{all_taken}
use Rattle.soundness_parts.proofs.SliceSteps.{under}
use Rattle.soundness_parts.proofs.Taken.{z}
use Rattle.soundness_targets.proofs.Callings.{answers}
use Rattle.soundness_targets.proofs.Named.{none_aimed}
use Rattle.soundness_targets.proofs.OneTarget.{Goes, at_once}
use Rattle.soundness_targets.proofs.Pieces.{walk_regrouped}

-- those behind the first ones
pub all_dropped : (q : Scene) (w : World Item) (k : ℕ) (ps : List Part) (us : List (Run Item Item)) → AllFine q w ps us → AllFine q w (drop k ps) (drop k us)
all_dropped q w zero ps us h = h
all_dropped q w (suc k) [] [] h = tt
all_dropped q w (suc k) (p ∷ ps) (u ∷ us) h = all_dropped q w k ps us h.1
all_dropped q w (suc k) [] (u ∷ us) h = absurd h
all_dropped q w (suc k) (p ∷ ps) [] h = absurd h

-- what arguments come to, later
pub each_on : (q : Scene) {n m : ℕ} {f : Point n} {g : Point m} (ps : List Part) (aims : List Aim) (is : List Indices) (xs : List Item) → Later f g
    → EachIs q.set q.work f ps aims is xs → EachIs q.set q.work g ps aims is xs
each_on q [] aims [] [] l h = tt
each_on q (p ∷ ps) aims (i ∷ is) (x ∷ xs) l h =
    (is_on l h.0, met_on q.set q.work (first_aim aims) p.is_nested x.val l h.1, each_on q ps (other_aims aims) is xs l h.2)
each_on q [] aims (i ∷ is) xs l h = absurd h
each_on q [] aims [] (x ∷ xs) l h = absurd h
each_on q (p ∷ ps) aims [] xs l h = absurd h
each_on q (p ∷ ps) aims (i ∷ is) [] l h = absurd h

-- ---- a value that is noted as what it is

module _ (q : Scene) (k : ℕ) where
  pub made_as : (i : Indices) → form_made (out-Reading R.Hole) R.Hole i ≡ Makes.ByIndices i
  made_as i = ap (λ x. form_made x R.Hole i) (ap out-Reading (sym R.rolls-Hole) ∙ out-roll-Reading W.Hole)

  pub put_as : {n : ℕ} {f : Point n} {facts : List Fact} (i : Indices) (x : Item) → Is q.set q.work f i x
      → Beside q n f facts (put k (i ∷ []) R.Hole i) (made (z q) k (x ∷ []) x.val) (λ m g t y. Is q.set q.work g i y × (y.val ≡ x.val))
  put_as {n} {f} {facts} i x h =
      subst (λ m. Beside q n f facts (bind (node_made k (i ∷ []) m) (λ t. numbers_noted k i)) (made (z q) k (x ∷ []) x.val)
      (λ d g t y. Is q.set q.work g i y × (y.val ≡ x.val))) (sym (made_as i))
      (binds (λ t. numbers_noted k i) (λ y. (z q).note (By.Node k) x.val then λ t. gives y)
      (makes k (i ∷ []) (Makes.ByIndices i) (x ∷ []) x.val (h.typ, tt) (λ g a. has_there h.has g a)) (λ m g fs t y l e.
      noted m g fs y l (record { has = subst (λ v. Has q.set q.work g i v) (sym e.0) (is_on l h).has; typ = e.1 }, e.0)))
    where
      noted : (m : ℕ) (g : Point m) (fs : List Fact) (y : Item) → Later f g → Is q.set q.work g i y × (y.val ≡ x.val)
          → Beside q m g fs (numbers_noted k i) ((z q).note (By.Node k) x.val then λ t. gives y) (λ d p a u. Is q.set q.work p i u × (u.val ≡ x.val))
      noted m g fs y l e =
          runs_on (λ t. gives y) (gives_numbers (By.Node k) i x.val (numbers_given i) (gives_all i) (has_there (is_on l h).has)) (λ d p gs t u l2 s.
          rests y (given_back t (is_on l2 e.0, e.1)))

-- ---- the call, with the new value

module _ (fit : FitsSuffice) (q : Scene) (w : World Item) (places : (i : ℕ) → CalleeFits q.set i) (mappings : MappingsClosed q.set) (scope : Scope)
    (at : Place) (k : ℕ) (reader : Option Caller) (writer : Caller) where
  pub value_written : {n : ℕ} {f : Point n} {facts : List Fact} (ps : List Part) (is : List Indices) (xs : List Item) → Surrounds q w f scope
      → EachIs q.set q.work f ps (argument_aims (callee_types (here q) writer.callee)) is xs → (nested : Bool) (j : Indices) (y : Item)
      → Is q.set q.work f j y → IsMet q.set q.work f (aimed Aims.Given (last_type (callee_types (here q) writer.callee))) nested y.val
      → Beside q n f facts ((call_spot (here q) at k reader writer (nestings ps) is).write nested j)
      ((Runs.call_spot (z q) w at k reader writer xs).write y)
      (λ m g a u. (c : Indices) × (a ≡ wrote (says []) c) × Is q.set q.work g c u)
  value_written ps is xs there each nested j y h met =
      let types = callee_types (here q) writer.callee in
      then_walks Walked.gives
      (binds (answered_by ps is nested j) (λ u. run_called (z q) w at writer.number writer.callee (xs ++ u ∷ []))
      (put_as q k j y h) (λ m g fs t u l e.
      answers fit q w places mappings scope at writer.number (surrounds_on q w scope l there) ps is xs nested j u e.0 writer.callee
      (each_on q ps (argument_aims types) is xs l each)
      (subst (λ v. IsMet q.set q.work g (aimed Aims.Given (last_type types)) nested v) (sym e.1)
      (met_on q.set q.work (aimed Aims.Given (last_type types)) nested y.val l met)))) (λ m g fs a u l e.
      given_back (wrote (says []) a) (a, refl, e))
    where
      answered_by : List Part → List Indices → Bool → Indices → Unit {0} → Walk Indices
      answered_by ps2 is2 b j2 t = answered (here q) at writer (nestings ps2) is2 b j2

-- ---- the target

module _ (fit : FitsSuffice) (q : Scene) (w : World Item) (narrow : TypesNarrow q.set.around.types) (closed : RegistersClosed q.set)
    (places : (i : ℕ) → CalleeFits q.set i) (mappings : MappingsClosed q.set) (place : Place) (scope : Scope) (at : Place) (k count : ℕ)
    (reader : Option Caller) (writer : Caller) where
  abbrev types : List Typ
  types = callee_types (here q) writer.callee

  -- nothing is left to owe
  nothing_left : {n : ℕ} {f : Point n} {facts : List Fact} (j : Indices) (u : Item) → Is q.set q.work f j u
      → Walks q n f facts (owed_answer place (wrote (says []) j)) (λ m g a. Is q.set q.work g a u)
  nothing_left j u h =
      walks_on (λ t. give j) (suffices_walks {q = q} {Then = λ c. Unit {0}} place (says []) (says_so [] (λ c a s. tt))) (λ m g fs t l e.
      given_back j (is_on l h))

  writes : {n : ℕ} {f : Point n} {facts : List Fact} (ps : List Part) (is : List Indices) (xs : List Item) → Surrounds q w f scope
      → EachIs q.set q.work f ps (argument_aims types) is xs → (nested : Bool) (j : Indices) (y : Item) → Is q.set q.work f j y
      → IsMet q.set q.work f (aimed Aims.Given (last_type types)) nested y.val
      → Beside q n f facts (written_by place (call_spot (here q) at k reader writer (nestings ps) is) nested j)
      ((Runs.call_spot (z q) w at k reader writer xs).write y) (λ m g a u. Is q.set q.work g a u)
  writes ps is xs there each nested j y h met =
      then_walks (owed_answer place)
      (value_written fit q w places mappings scope at k reader writer ps is xs there each nested j y h met) (λ m g fs a u l e.
      subst (λ s. Walks q m g fs (owed_answer place s) (λ d p c. Is q.set q.work p c u)) (sym e.1) (nothing_left e.0 u e.2))

  -- what is wanted of the new value is steady
  last_steady : {n : ℕ} (f : Point n) (ts : List Typ) → AimSteady q.set q.work f (aimed Aims.Given (last_type ts))
  last_steady f [] = subst (AimSteady q.set q.work f) (sym none_aimed) tt
  last_steady f (t ∷ []) = by (is_closed t)
    where
      by : (c : Bool) → AimSteady q.set q.work f (aimed Aims.Given (if c then R.Of t [] [] else R.Hole))
      by true =
          let wanted = nameless_wanted q.set q.work f t in
          subst (AimSteady q.set q.work f) (sym (aimed_is Aims.Given (R.Of t [] []) wanted.1)) wanted
      by false = subst (AimSteady q.set q.work f) (sym none_aimed) tt
  last_steady f (t ∷ u ∷ ts) = last_steady f (u ∷ ts)

  pub call_target : Goes fit q w narrow closed place scope (kind_spot at k (T.Call count reader writer) [])
      (target_meaning (z q) w at k (T.Call count reader writer) [])
  call_target right right_fine further splits n f facts ps us fine there =
      walk_regrouped (each_walk (take count ps) (here q) scope (argument_aims types)) (call_spotted (here q) at k count reader writer ps)
      (then_assigned further)
      (runs_as (λ now. sym (under (in_turn (take count us) now) _ _ (λ r. right.run r.left then r.found.write) (λ xs n1. refl)))
      (binds (λ is. bind (call_spotted (here q) at k count reader writer ps is) (then_assigned further))
      (λ xs. right.run (drop count us) then (Runs.call_spot (z q) w at k reader writer xs).write)
      (each_fine q w scope (take count ps) (take count us) (all_taken q w count ps us fine) (argument_aims types) there (arguments_steady q.set q.work f types))
      (λ m g fs is xs l e.
      at_once fit q w narrow closed place scope right right_fine further splits fs (drop count ps) (drop count us) (all_dropped q w count ps us fine)
      (surrounds_on q w scope l there) (call_spot (here q) at k reader writer (nestings (take count ps)) is) (Runs.call_spot (z q) w at k reader writer xs)
      (last_steady g types) (λ m2 g2 fs2 nested j y l2 h met.
      writes (take count ps) is xs (surrounds_on q w scope (later_on l l2) there) (each_on q (take count ps) (argument_aims types) is xs l2 e) nested j y h
      met))))
