-- The member that is taken of two lists of members: of the first, where one is taken of it.
use Rattle.std.proofs.Common.{◌≡◌, ◌∙◌, ap, sym, refl, List, [], ◌∷◌, ◌++◌, map, Option, Some, None, ℕ, option_map}
use Rattle.sail_base.specs.declared.place.Place.{Place}
use Rattle.sail_types.specs.declared.shapes.Shape.{Shape}
use Rattle.shape_joins.specs.Learning.{learn, learn_all, holes}
use Rattle.shape_rules.specs.declared.callees.Candidate.{Candidate}
use Rattle.shape_rules.specs.Calls.{Args, Chosen, chosen, chosen_or, member_found}
use Rattle.shape_calls.specs.declared.choosing.Picked.{Picked}
use Rattle.shape_calls.specs.Picked.{picked_of, arguments_of, member_picked}

-- the choice, or else this one
abbrev pub or_else : {A : Type 0} → Option A → Option A → Option A
or_else None next = next
or_else (Some x) next = Some x

chosen_or_append : (f : Candidate) (known : Option (List Shape)) (first later : Option Chosen)
    → chosen_or f known (or_else first later) ≡ or_else (chosen_or f known first) later
chosen_or_append f None first later = refl
chosen_or_append f (Some known) first later = refl

pub chosen_append : (fs gs : List Candidate) (ss : List Shape) → chosen (fs ++ gs) ss ≡ or_else (chosen fs ss) (chosen gs ss)
chosen_append [] gs ss = refl
chosen_append (f ∷ fs) gs ss =
    ap (chosen_or f (learn_all (map learn f.params) ss (holes f.variables))) (chosen_append fs gs ss)
    ∙ chosen_or_append f (learn_all (map learn f.params) ss (holes f.variables)) (chosen fs ss) (chosen gs ss)

first_picked : (x y : Option Chosen) (p : Picked) → Some p ≡ option_map picked_of x → Some p ≡ option_map picked_of (or_else x y)
first_picked None y p e = absurd (cc)
first_picked (Some x) y p e = e

later_picked : (x y : Option Chosen) → None ≡ option_map picked_of x → or_else x y ≡ y
later_picked None y e = refl
later_picked (Some x) y e = absurd (cc)

-- one of the first members is taken
pub picked_first : (fs gs : List Candidate) (ss : List Shape) (p : Picked)
    → Some p ≡ option_map picked_of (chosen fs ss) → Some p ≡ option_map picked_of (chosen (fs ++ gs) ss)
picked_first fs gs ss p e = first_picked (chosen fs ss) (chosen gs ss) p e ∙ ap (option_map picked_of) (sym (chosen_append fs gs ss))

-- none of them is
pub picked_later : (fs gs : List Candidate) (ss : List Shape) → None ≡ option_map picked_of (chosen fs ss) → chosen (fs ++ gs) ss ≡ chosen gs ss
picked_later fs gs ss e = chosen_append fs gs ss ∙ later_picked (chosen fs ss) (chosen gs ss) e

-- what is found of a member by what the code holds of it
pub member_again : (place : Place) (name : List ℕ) (want : Shape) (args : Args) (x : Option Chosen)
    → member_picked place name want (arguments_of args) (option_map picked_of x) ≡ member_found place name want args x
member_again place name want args None = refl
member_again place name want args (Some x) = refl
