-- Walks over chains of targets count variables on.
use Rattle.std.proofs.Common.{Bool, false, List, [], ◌∷◌, map, Option, Some, None}
use Rattle.sail_base.specs.declared.place.Place.{Place}
use Rattle.sail_core.specs.declared.targets.Target.{Target}
use Rattle.value_indices.specs.Steps.{Walk, bind}
use Rattle.value_indices.specs.declared.indices.Indices.{Indices}
use Rattle.value_indices.specs.declared.indices.Indices.TheVariants as I
use Rattle.pattern_leaves.specs.Settings.{Around, Scope}
use Rattle.call_arguments.specs.Aims.{aimed}
use Rattle.call_arguments.specs.declared.aims.Aim.TheVariants as Aims
use Rattle.expression_forms.specs.Spots.{Spot}
use Rattle.expression_forms.specs.Spots.{written_by}
use Rattle.expression_steps.specs.Parts.{Part}
use Rattle.expression_steps.specs.Targets.{Spotted, assigned, assigned_to, spotting}
use Rattle.expression_steps.specs.Targets.{then_assigned}
use Rattle.soundness_steps.specs.Steps.{Grows}
use Rattle.soundness_forms.proofs.Growth.{grows_bind, grows_give, grows_wrong}
use Rattle.soundness_parts.proofs.PartGrowth.{Gives, grows_bind_at}
use Rattle.soundness_targets.proofs.WriteGrowth.{written_grows}
use Rattle.soundness_targets.proofs.TargetGrowth.{AnyGrow, SpottedGrow}
use Rattle.soundness_targets.proofs.TupleGrowth.{WriteGrows}
use Rattle.soundness_targets.proofs.AnyGrowth.{target_grows}

module _ (around : Around) (scope : Scope) (place : Place) where
  abbrev pub Good : Spot → Type 0
  Good s = (nested : Bool) (i : Indices) → Grows (written_by place s nested i)

  -- ---- targets

  abbrev pub Spots : (List Part → Walk (Option Spotted)) → Type 0
  Spots t = (ps : List Part) → AnyGrow around scope ps → Grows (t ps) × Gives (SpottedGrow around scope Good) (t ps)

  written_good : (o : Option Spotted) → SpottedGrow around scope WriteGrows o → SpottedGrow around scope Good o
  written_good None e = tt
  written_good (Some s) e = (e.0, λ nested i. written_grows (s.spot.write nested i) place (e.1 nested i).1 (e.1 nested i).0)

  target_spots : (t : Target) → Spots (spotting t around scope)
  target_spots t ps grow =
      let g = target_grows around scope t ps grow in
      (g.0, λ facts m. written_good (spotting t around scope ps facts m).value (g.1 facts m))

  -- ---- chains

  abbrev pub Goes : (Spot → List Part → Walk Indices) → Type 0
  Goes further = (s : Spot) (ps : List Part) → Good s → AnyGrow around scope ps → Grows (further s ps)

  pub behind_grows : (t : List Part → Walk (Option Spotted)) (further : Spot → List Part → Walk Indices) → Spots t → Goes further → (ps : List Part)
      → AnyGrow around scope ps → Grows (bind (t ps) (then_assigned further))
  behind_grows t further spots goes ps grow = grows_bind_at (SpottedGrow around scope Good) (t ps) (then_assigned further) (spots ps grow).1
      (spots ps grow).0 next
    where
      next : (o : Option Spotted) → SpottedGrow around scope Good o → Grows (then_assigned further o)
      next None h = grows_give I.Never
      next (Some s) h = goes s.spot s.left h.1 h.0

  pub value_goes : (further : List Part → Walk Indices) → Goes (assigned_to place [] further around scope)
  value_goes further s [] good h = grows_wrong place
  value_goes further s (p ∷ []) good h =
      grows_bind (p.walk around scope (aimed Aims.Given s.typ)) (written_by place s p.is_nested) (h.0 (aimed Aims.Given s.typ)) (λ i. good p.is_nested i)
  value_goes further s (p ∷ c ∷ ps) good h = grows_wrong place

  pub chain_grows : (ts : List Target) (ps : List Part) → AnyGrow around scope ps → Grows (assigned place (map spotting ts) around scope ps)
  chain_grows [] ps h = grows_wrong place
  chain_grows (t ∷ []) ps h =
      behind_grows (spotting t around scope) (assigned_to place [] (assigned place [] around scope) around scope) (target_spots t)
      (value_goes (assigned place [] around scope)) ps h
  chain_grows (t ∷ u ∷ ts) ps h =
      let rest : List Part → Walk Indices = assigned place (map spotting (u ∷ ts)) around scope in
      behind_grows (spotting t around scope) (assigned_to place (map spotting (u ∷ ts)) rest around scope) (target_spots t)
      (λ s us good grow. grows_bind (rest us) (written_by place s false) (chain_grows (u ∷ ts) us grow) (λ i. good false i)) ps h
