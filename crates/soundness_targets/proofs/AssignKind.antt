-- Assignments as nodes.
use Rattle.std.proofs.Common.{◌≡◌, ℕ, Bool, false, List, [], ◌∷◌, length, map, refl}
use Rattle.std.specs.List.{list_all}
use Rattle.std.proofs.lemmas.Bool.{and_parts}
use Rattle.sail_base.specs.declared.place.Place.{Place}
use Rattle.sail_core.specs.Making.{World}
use Rattle.sail_core.specs.Meaning.{kind_meaning}
use Rattle.sail_core.specs.Run.{Run}
use Rattle.sail_core.specs.declared.targets.Target.{Target}
use Rattle.sail_core.specs.declared.tree.Kind.TheVariants as K
use Rattle.value_indices.specs.Steps.{bind, give}
use Rattle.call_notes.specs.Ends.{settled}
use Rattle.expression_steps.specs.Parts.{Part}
use Rattle.expression_steps.specs.Targets.{assigned, spotting}
use Rattle.checked_meaning.specs.Items.{Item}
use Rattle.soundness_steps.specs.Works.{Kept, Scene, here}
use Rattle.soundness_steps.proofs.Steps.{given_back}
use Rattle.soundness_forms.specs.EachKind.{KindFine, node}
use Rattle.soundness_forms.specs.Calls.{CalleeFits}
use Rattle.soundness_forms.specs.Forms.{AllFine, Fine, FitsSuffice, at, z}
use Rattle.soundness_forms.specs.Mappings.{MappingsClosed}
use Rattle.soundness_forms.specs.Registers.{RegistersClosed}
use Rattle.soundness_forms.specs.Standing.{is_value, kind_stands}
use Rattle.soundness_forms.proofs.Basics.{aim_on, settles, then_walks}
use Rattle.soundness_forms.proofs.Growth.{grows_bind, grows_give, grows_settled}
use Rattle.soundness_forms.proofs.PlainKinds.{fine_at, fine_by}
use Rattle.soundness_parts.proofs.Suffixed.{all_values}
use Rattle.soundness_values.specs.Named.{TypesNarrow}
use Rattle.soundness_targets.proofs.ChainGrowth.{chain_grows}
use Rattle.soundness_targets.proofs.Chains.{chain_goes}
use Rattle.soundness_targets.proofs.TargetGrowth.{grow_of}

-- parts that are fine are so in the scene of a moment
pub all_at : (q : Scene) (w : World Item) (names : List Kept) (falls : Bool) (ps : List Part) (us : List (Run Item Item)) → AllFine q w ps us
    → AllFine (at q w names falls) w ps us
all_at q w names falls [] [] h = tt
all_at q w names falls (p ∷ ps) (u ∷ us) h = (fine_at q w names falls h.0, all_at q w names falls ps us h.1)
all_at q w names falls [] (u ∷ us) h = absurd h
all_at q w names falls (p ∷ ps) [] h = absurd h

module _ (fit : FitsSuffice) (q : Scene) (w : World Item) (narrow : TypesNarrow q.set.around.types) (closed : RegistersClosed q.set)
    (places : (i : ℕ) → CalleeFits q.set i) (mappings : MappingsClosed q.set) (targets : List Target) where
  assigned_fine : (place : Place) (k : ℕ) (ps : List Part) (us : List (Run Item Item)) → AllFine q w ps us
      → Fine q w false false (node q w place k (K.Assign targets) ps) (kind_meaning (z q w) w place k (K.Assign targets) us)
  assigned_fine place k ps us fine =
      fine_by q w false false (node q w place k (K.Assign targets) ps) _ (λ around scope. refl)
      (λ names falls g n f facts scope aim there st.
      then_walks (λ i. give i)
      (then_walks (settled (here q) place aim)
      (chain_goes fit (at q w names falls) w narrow closed places mappings place scope targets n f facts ps us (all_at q w names falls ps us fine) there)
      (λ m p fs i x l h. settles fit place aim i x (aim_on q.set q.work aim l st) h)) (λ m p fs i x l h. given_back i h))
      (λ around scope aim.
      grows_bind (bind (assigned place (map spotting targets) around scope ps) (settled around place aim)) (λ j. give j)
      (grows_bind (assigned place (map spotting targets) around scope ps) (settled around place aim)
      (chain_grows around scope place targets ps (grow_of q w around scope ps us fine)) (grows_settled around place aim)) (λ j. grows_give j))

  pub assign_kind : KindFine q w (K.Assign targets)
  assign_kind place k ss ps us h right =
      assigned_fine place k ps us
      (all_values q w ss ps us h (and_parts (kind_stands q.set.around (K.Assign targets) (length ss)) (list_all is_value ss) right).1)
