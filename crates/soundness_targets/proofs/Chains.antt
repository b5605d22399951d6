-- Assignments to chains of targets: names, parts of names, calls, and tuples.
use Rattle.std.proofs.Common.{◌≡◌, ◌∙◌, ℕ, List, [], ◌∷◌, map, refl, sym, ap, subst}
use Rattle.sail_base.specs.declared.place.Place.{Place}
use Rattle.sail_core.specs.Making.{World}
use Rattle.sail_core.specs.Run.{Run, ◌then◌}
use Rattle.sail_core.specs.Targets as Runs
use Rattle.sail_core.specs.Targets.{target_meaning}
use Rattle.sail_core.specs.declared.targets.Target.{Target, fold-roll-Target}
use Rattle.sail_core.specs.declared.targets.TargetKind.TheVariants as T
use Rattle.value_indices.specs.Steps.{Walk}
use Rattle.value_indices.specs.declared.indices.Indices.{Indices}
use Rattle.value_indices.specs.declared.notes.Fact.{Fact}
use Rattle.pattern_leaves.specs.Settings.{Scope}
use Rattle.expression_steps.specs.Parts.{Part}
use Rattle.expression_steps.specs.Targets.{Spotting, assigned, assigned_to, kind_spot, spotting, then_assigned}
use Rattle.checked_meaning.specs.Items.{Item}
use Rattle.value_laws.specs.Known.{Point}
use Rattle.soundness_steps.specs.Works.{Scene, here}
use Rattle.soundness_steps.specs.Steps.{Beside}
use Rattle.soundness_steps.specs.Values.{Is}
use Rattle.soundness_steps.proofs.Steps.{runs_on}
use Rattle.soundness_forms.specs.Calls.{CalleeFits}
use Rattle.soundness_forms.specs.Forms.{AllFine, FitsSuffice}
use Rattle.soundness_forms.specs.Mappings.{MappingsClosed}
use Rattle.soundness_forms.specs.Registers.{RegistersClosed}
use Rattle.soundness_forms.specs.Worlds.{Surrounds}
use Rattle.soundness_forms.proofs.Basics.{then_walks, wrongs}
use Rattle.soundness_parts.proofs.Taken.{z}
use Rattle.soundness_values.specs.Named.{TypesNarrow}
use Rattle.soundness_targets.proofs.Plain.{Shape, a_call, a_late, a_name, a_part, a_parted, a_tuple, a_wrong, shape}
use Rattle.soundness_targets.proofs.AnyTarget.{wrong_found}
use Rattle.soundness_targets.proofs.CallTargets.{call_target}
use Rattle.soundness_targets.proofs.ChainGrowth.{chain_grows}
use Rattle.soundness_targets.proofs.LateTarget.{late_target}
use Rattle.soundness_targets.proofs.OneTarget.{Goes, name_target, part_target}
use Rattle.soundness_targets.proofs.Items.{items_found}
use Rattle.soundness_targets.proofs.Members.{each_finds}
use Rattle.soundness_targets.proofs.PartTuples.{parts_target}
use Rattle.soundness_targets.proofs.TupleTargets.{tuple_target}
use Rattle.soundness_targets.proofs.Rights.{chain_fine, chain_right, chain_splits, value_fine, value_right, value_splits}
use Rattle.soundness_targets.proofs.Shapes.{ShapeIs, shape_is}

module _ (fit : FitsSuffice) (q : Scene) (w : World Item) (narrow : TypesNarrow q.set.around.types) (closed : RegistersClosed q.set)
    (places : (i : ℕ) → CalleeFits q.set i) (mappings : MappingsClosed q.set) (place : Place) (scope : Scope) where
  abbrev GoesOn : Spotting → Runs.Spotting Item (Runs.Spot Item) → Type 0
  GoesOn t s = Goes fit q w narrow closed place scope t s

  abbrev meaning : Target → Runs.Spotting Item (Runs.Spot Item)
  meaning t = Runs.spotting (z q) w t

  target_goes : (t : Target) (c : Shape) → shape t ≡ c → ShapeIs t c → GoesOn (spotting t) (meaning t)
  target_goes t a_name is h =
      subst (λ (s : Spotting). GoesOn s (meaning t)) (sym (ap spotting h.same ∙ fold-roll-Target Spotting (λ u. kind_spot u.place u.number u.kind u.parts) _))
      (subst (λ (s : Runs.Spotting Item (Runs.Spot Item)). GoesOn (kind_spot h.place h.number h.kind []) s)
      (sym (ap meaning h.same
      ∙ fold-roll-Target (Runs.Spotting Item (Runs.Spot Item)) (λ u. target_meaning (z q) w u.place u.number u.kind u.parts) _))
      (name_target fit q w narrow closed place scope h.place h.number h.kind h.is_name))
  target_goes t a_part is h =
      let b = h.is_name in
      subst (λ (s : Spotting). GoesOn s (meaning t))
      (sym (ap spotting h.same ∙ fold-roll-Target Spotting (λ u. kind_spot u.place u.number u.kind u.parts) _
      ∙ ap (λ (s : Spotting). kind_spot h.place h.number (T.Part h.suffixes) (s ∷ []))
      (ap spotting b.same ∙ fold-roll-Target Spotting (λ u. kind_spot u.place u.number u.kind u.parts) _)))
      (subst (λ (s : Runs.Spotting Item (Runs.Spot Item)).
      GoesOn (kind_spot h.place h.number (T.Part h.suffixes) (kind_spot b.place b.number b.kind [] ∷ [])) s)
      (sym (ap meaning h.same
      ∙ fold-roll-Target (Runs.Spotting Item (Runs.Spot Item)) (λ u. target_meaning (z q) w u.place u.number u.kind u.parts) _
      ∙ ap (λ (s : Runs.Spotting Item (Runs.Spot Item)). target_meaning (z q) w h.place h.number (T.Part h.suffixes) (s ∷ []))
      (ap meaning b.same
      ∙ fold-roll-Target (Runs.Spotting Item (Runs.Spot Item)) (λ u. target_meaning (z q) w u.place u.number u.kind u.parts) _)))
      (part_target fit q w narrow closed place scope h.place h.number h.suffixes b.place b.number b.kind b.is_name))
  target_goes t a_call is h =
      subst (λ (s : Spotting). GoesOn s (meaning t)) (sym (ap spotting h.same ∙ fold-roll-Target Spotting (λ u. kind_spot u.place u.number u.kind u.parts) _))
      (subst (λ (s : Runs.Spotting Item (Runs.Spot Item)). GoesOn (kind_spot h.place h.number (T.Call h.count h.reader h.writer) []) s)
      (sym (ap meaning h.same
      ∙ fold-roll-Target (Runs.Spotting Item (Runs.Spot Item)) (λ u. target_meaning (z q) w u.place u.number u.kind u.parts) _))
      (call_target fit q w narrow closed places mappings place scope h.place h.number h.count h.reader h.writer))
  target_goes t a_late is h =
      let b = h.is_call in
      subst (λ (s : Spotting). GoesOn s (meaning t))
      (sym (ap spotting h.same ∙ fold-roll-Target Spotting (λ u. kind_spot u.place u.number u.kind u.parts) _
      ∙ ap (λ (s : Spotting). kind_spot h.place h.number (T.Part (h.suffix ∷ h.suffixes)) (s ∷ []))
      (ap spotting b.same ∙ fold-roll-Target Spotting (λ u. kind_spot u.place u.number u.kind u.parts) _)))
      (subst (λ (s : Runs.Spotting Item (Runs.Spot Item)).
      GoesOn (kind_spot h.place h.number (T.Part (h.suffix ∷ h.suffixes)) (kind_spot b.place b.number (T.Call b.count b.reader b.writer) [] ∷ [])) s)
      (sym (ap meaning h.same
      ∙ fold-roll-Target (Runs.Spotting Item (Runs.Spot Item)) (λ u. target_meaning (z q) w u.place u.number u.kind u.parts) _
      ∙ ap (λ (s : Runs.Spotting Item (Runs.Spot Item)). target_meaning (z q) w h.place h.number (T.Part (h.suffix ∷ h.suffixes)) (s ∷ []))
      (ap meaning b.same
      ∙ fold-roll-Target (Runs.Spotting Item (Runs.Spot Item)) (λ u. target_meaning (z q) w u.place u.number u.kind u.parts) _)))
      (late_target fit q w narrow closed places mappings place scope h.place h.number h.suffix h.suffixes b.place b.number b.count b.reader b.writer))
  target_goes t a_tuple is h =
      subst (λ (s : Spotting). GoesOn s (meaning t)) (sym (ap spotting h.same ∙ fold-roll-Target Spotting (λ u. kind_spot u.place u.number u.kind u.parts) _))
      (subst (λ (s : Runs.Spotting Item (Runs.Spot Item)). GoesOn (kind_spot h.place h.number T.Tuple (map spotting h.parts)) s)
      (sym (ap meaning h.same
      ∙ fold-roll-Target (Runs.Spotting Item (Runs.Spot Item)) (λ u. target_meaning (z q) w u.place u.number u.kind u.parts) _))
      (tuple_target fit q w narrow closed place scope h.place h.number (map spotting h.parts) (map meaning h.parts)
      (each_finds fit q w closed places mappings scope h.parts h.members)))
  target_goes t a_parted is h =
      subst (λ (s : Spotting). GoesOn s (meaning t)) (sym (ap spotting h.same ∙ fold-roll-Target Spotting (λ u. kind_spot u.place u.number u.kind u.parts) _))
      (subst (λ (s : Runs.Spotting Item (Runs.Spot Item)). GoesOn (kind_spot h.place h.number T.Tuple (map spotting h.parts)) s)
      (sym (ap meaning h.same
      ∙ fold-roll-Target (Runs.Spotting Item (Runs.Spot Item)) (λ u. target_meaning (z q) w u.place u.number u.kind u.parts) _))
      (parts_target fit q w narrow closed place scope h.place h.number (map spotting h.parts) (map meaning h.parts) (λ n f there.
      items_found fit q w narrow closed places mappings scope f there h.parts h.items)))
  target_goes t a_wrong is h = λ right right_fine further splits n f facts ps us fine there.
      then_walks (then_assigned further)
      (runs_on (λ r. right.run r.left then r.found.write) (wrong_found q w narrow closed scope t is n f facts ps us fine there) (λ m g fs o r l k. absurd k))
      (λ m g fs o r l k. absurd k)

  abbrev Chain : List Target → Type 0
  Chain ts = (n : ℕ) (f : Point n) (facts : List Fact) (ps : List Part) (us : List (Run Item Item)) → AllFine q w ps us → Surrounds q w f scope
      → Beside q n f facts (assigned place (map spotting ts) (here q) scope ps) (Runs.assigned (map meaning ts) us) (λ m g j u. Is q.set q.work g j u)

  pub chain_goes : (ts : List Target) → Chain ts
  chain_goes [] n f facts ps us fine there = wrongs place _
  chain_goes (t ∷ []) n f facts ps us fine there =
      target_goes t (shape t) refl (shape_is t) (value_right q w place scope) (value_fine q w place scope)
      (assigned_to place [] (assigned place [] (here q) scope) (here q) scope) (value_splits q w place scope) n f facts ps us fine there
  chain_goes (t ∷ u ∷ ts) n f facts ps us fine there =
      let rest : List Part → Walk Indices = assigned place (map spotting (u ∷ ts)) (here q) scope in
      let run : List (Run Item Item) → Run Item Item = Runs.assigned (map meaning (u ∷ ts)) in
      target_goes t (shape t) refl (shape_is t) (chain_right q w place scope rest run)
      (chain_fine q w place scope rest run (chain_goes (u ∷ ts)) (λ qs h. chain_grows (here q) scope place (u ∷ ts) qs h))
      (assigned_to place (map spotting (u ∷ ts)) rest (here q) scope)
      (chain_splits q w place scope (spotting u) (map spotting ts) run) n f facts ps us fine there
