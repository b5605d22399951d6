-- Instances and bodies of a list, each at its place; the nodes of bodies that are read together.
use Rattle.std.proofs.Common.{◌≡◌, ◌∙◌, ap, sym, refl, inl, inr, List, [], ◌∷◌, map}
use Rattle.std.specs.Prelude.{option_map, Result, Ok, Err}
use Rattle.std.proofs.lemmas.Option.{slice_get-map}
use Rattle.sail_core.specs.declared.model.CoreModel.{CoreModel}
use Rattle.size_notes.specs.Bodies.{bodies_of}
use Rattle.split_laws.specs.Counted.{IsIn}
use Rattle.monomorph.specs.declared.error.MonoError.{MonoError}
use Rattle.sized_nodes.specs.declared.trees.Instance.{Instance}
use Rattle.monomorph.specs.Instances.{instances_of, model_of}
use Rattle.monomorph.specs.Lasts.{Model}
use Rattle.sized_nodes.specs.declared.trees.SizedCore.{SizedCore}
use Rattle.sized_trees.specs.Trees.{sized_core, sized_instance, sized_instances, sized_list, sized_of}
use Rattle.covering_laws.specs.Laws.{ArePlaced}
use Rattle.covering_laws.specs.Covered.{instance_of}

-- ---- instances

pub placed_there : (m : Model) (list : List Instance) → ArePlaced list (sized_instances m list list)
placed_there m list i y e =
    (sized_instance m list y, slice_get-map (sized_instance m list) list i ∙ ap (option_map (sized_instance m list)) e, refl)

pub mapped_there : {A B : Type 0} (f : A → B) (xs : List A) (b : B) → IsIn b (map f xs) → (a : A) × IsIn a xs × (b ≡ f a)
mapped_there f [] b h = absurd h
mapped_there f (x ∷ xs) b (inl e) = (x, inl refl, e)
mapped_there f (x ∷ xs) b (inr h) =
    let more = mapped_there f xs b h in
    (more.0, inr more.1, more.2)

pub same_instances : (m : Model) (list xs : List Instance) → map instance_of (sized_instances m list xs) ≡ xs
same_instances m list [] = refl
same_instances m list (x ∷ xs) = ap (λ (l : List Instance). x ∷ l) (same_instances m list xs)

listed_as : (model : Model) (r : Result (List Instance) MonoError) (c : SizedCore) → sized_of model r ≡ Ok c
    → (list : List Instance) × (r ≡ Ok list) × (c ≡ sized_list model list) × (map instance_of c.instances ≡ list)
listed_as model (Ok list) c k =
    let same : c ≡ sized_list model list = sym (cc k) in
    (list, refl, same, ap (λ (d : SizedCore). map instance_of d.instances) same ∙ same_instances model list list)
listed_as model (Err e) c k = absurd (cc)

-- an accepted list
pub accepted : (m : CoreModel) (c : SizedCore) → sized_core m ≡ Ok c
    → (list : List Instance) × (instances_of (model_of m (bodies_of m)) ≡ Ok list) × (c ≡ sized_list (model_of m (bodies_of m)) list)
    × (map instance_of c.instances ≡ list)
accepted m c h = listed_as (model_of m (bodies_of m)) (instances_of (model_of m (bodies_of m))) c h
