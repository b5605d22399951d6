-- What holds of each node holds of a model.
use Rattle.std.proofs.Common.{◌≡◌, subst, List, [], ◌∷◌, ◌++◌, map}
use Rattle.std.specs.Prelude.{ℤ, Bool, true, false, Option, slice_get, Result, Ok, Err, if◌then◌else◌}
use Rattle.sail_core.specs.declared.model.CoreModel.{CoreModel}
use Rattle.value_indices.specs.Steps.{Note}
use Rattle.size_values.specs.declared.sized.Sized.{Sized}
use Rattle.size_splits.specs.Bodies.{Body}
use Rattle.monomorph.specs.Bodies.{bodies_of}
use Rattle.monomorph.specs.declared.error.MonoError.{MonoError}
use Rattle.sized_nodes.specs.declared.trees.Instance.{Instance}
use Rattle.monomorph.specs.Instances.{instances_of, model_of, or_none}
use Rattle.monomorph.specs.Lasts.{Model}
use Rattle.monomorph.specs.Reading.{Inside, reading_of}
use Rattle.sized_nodes.specs.declared.trees.NodeSizes.{NodeSizes}
use Rattle.sized_nodes.specs.declared.trees.SizedCore.{SizedCore}
use Rattle.sized_trees.specs.Bodies.{at_note, at_notes, sized_bodies, sized_body}
use Rattle.sized_trees.specs.Trees.{sized_core, sized_instance, sized_instances, sized_list, sized_of}
use Rattle.sized_nodes.specs.Asked.{Each}
use Rattle.sized_trees.specs.Laws.{EachInBodies, EachInInstance, EachNode}

-- ---- lists

pub each_append : {A : Type 0} (P : A → Type 0) (xs ys : List A) → Each P xs → Each P ys → Each P (xs ++ ys)
each_append P [] ys e f = f
each_append P (x ∷ xs) ys e f = (e.0, each_append P xs ys e.1 f)

pub each_mapped : {A B : Type 0} (P : B → Type 0) (f : A → B) → ((x : A) → P (f x)) → (xs : List A) → Each P (map f xs)
each_mapped P f h [] = tt
each_mapped P f h (x ∷ xs) = (h x, each_mapped P f h xs)

pub each_if : {A : Type 0} (P : A → Type 0) (is : Bool) (xs ys : List A) → Each P xs → Each P ys → Each P (if is then xs else ys)
each_if P true xs ys e f = e
each_if P false xs ys e f = f

-- ---- notes, bodies, instances

module _ (P : List Instance → NodeSizes → Type 0) (at : (r : Inside) (list : List Instance) (n : Note) → Each (P list) (at_note r list n)) where
  notes_each : (r : Inside) (list : List Instance) (ns : List Note) → Each (P list) (at_notes r list ns)
  notes_each r list [] = tt
  notes_each r list (n ∷ ns) =
      each_append (P list) (at_note r list n) (at_notes r list ns) (at r list n) (notes_each r list ns)

  module _ (m : Model) (list : List Instance) where
    bodies_each : (zs : List (Option ℤ)) (own : List Sized) (bs : List Body) → EachInBodies (P list) (sized_bodies m list zs own bs)
    bodies_each zs own bs =
        each_mapped (Each (P list)) (sized_body m list zs own)
        (λ b. notes_each (reading_of m.core.types m.sizing zs own b) list b.notes) bs

    instances_each : Each (EachInInstance (P list)) (sized_instances m list list)
    instances_each =
        each_mapped (EachInInstance (P list)) (sized_instance m list)
        (λ x. bodies_each x.numbers x.types (or_none (slice_get m.bodies.functions x.function))) list

    list_each : EachNode (P list) (sized_list m list)
    list_each = record {
      instances = instances_each;
      mappings = bodies_each [] [] m.bodies.mappings;
      openings = bodies_each [] [] m.bodies.openings;
    }

  -- where what holds can be said of the model alone
  module _ (Q : SizedCore → NodeSizes → Type 0)
      (said : (m : Model) (list : List Instance) → EachNode (P list) (sized_list m list) → EachNode (Q (sized_list m list)) (sized_list m list)) where
    answer_each : (m : Model) (answer : Result (List Instance) MonoError) (made : SizedCore) → sized_of m answer ≡ Ok made → EachNode (Q made) made
    answer_each m (Ok list) made e =
        let h : Ok (sized_list m list) ≡ Ok made = e in
        let same : sized_list m list ≡ made = cc h in
        subst (λ (c : SizedCore). EachNode (Q c) c) same (said m list (list_each m list))
    answer_each m (Err refused) made e = let h : Err refused ≡ Ok made = e in absurd (cc)

    pub model_each : (core : CoreModel) (made : SizedCore) → sized_core core ≡ Ok made → EachNode (Q made) made
    model_each core made e =
        answer_each (model_of core (bodies_of core)) (instances_of (model_of core (bodies_of core))) made e
