-- What is noted of the variables that a value gives is what comes into force.
use Rattle.std.proofs.Common.{ℕ, List, [], ◌∷◌, ◌++◌, map, Option, Some, None, refl, sym, ap, ◌∙◌, subst}
use Rattle.std.proofs.lemmas.List.{append-nil, append_assoc, map-append}
use Rattle.size_values.specs.Sizes.{joined}
use Rattle.value_indices.specs.declared.indices.Indices.{Indices, roll-Indices}
use Rattle.value_indices.specs.declared.indices.Indices.TheFolds.{fold-roll-Indices, map-Indices, ind-Indices}
use Rattle.value_indices.specs.declared.indices.Indices.TheOpen as W
use Rattle.value_indices.specs.declared.indices.Indices.TheOpen.{Indices-F}
use Rattle.value_indices.specs.declared.indices.Reading.{Reading, fold-Reading}
use Rattle.value_indices.specs.declared.notes.Fact.TheVariants as Y
use Rattle.value_indices.specs.Steps.{Walk, went, behind, bind, give, give_number}
use Rattle.call_arguments.specs.Placing.{variable_in}
use Rattle.call_notes.specs.Noted.{all_given, form_given, number_given, numbers_given, type_given}
use Rattle.soundness_steps.specs.Noted.{one_or_none, form_gives, type_gives, variables_given, with_given}
use Rattle.soundness_steps.specs.Steps.{Gives}

gives_none : Gives (give tt) []
unfolding give
gives_none facts n = ap (λ fs. went tt fs n []) (sym (append-nil facts))

gives_one : (o : Option ℕ) → Gives (number_given o) (one_or_none o)
unfolding give_number
gives_one None facts n = gives_none facts n
gives_one (Some v) facts n = refl

gives_both : (w w' : Walk (Unit {0})) (vs ws : List ℕ) → Gives w vs → Gives w' ws → Gives (bind w (λ t. w')) (vs ++ ws)
unfolding bind
gives_both w w' vs ws h k facts n =
    ap (λ r. behind r.notes (w' r.facts r.next)) (h facts n)
    ∙ ap (behind []) (k (with_given facts vs) n)
    ∙ ap (λ fs. went tt fs n []) (append_assoc facts (map Y.IsGiven vs) (map Y.IsGiven ws) ∙ ap (λ fs. facts ++ fs) (sym (map-append Y.IsGiven vs ws)))

abbrev GivesAll : Indices → Type 0
GivesAll i = Gives (numbers_given i) (variables_given i)

abbrev Part : Type 0
Part = (i : Indices) × GivesAll i

abbrev types_given : Reading → Walk (Unit {0})
types_given = fold-Reading (Walk (Unit {0})) (Walk (Unit {0})) form_given type_given

abbrev types_gives : Reading → List ℕ
types_gives = fold-Reading (List ℕ) (List ℕ) form_gives type_gives

parts_give : (ys : List Part) → Gives (all_given (map numbers_given (map (λ y. y.0) ys))) (joined (map variables_given (map (λ y. y.0) ys)))
parts_give [] = gives_none
parts_give (y ∷ ys) = gives_both (numbers_given y.0) (all_given (map numbers_given (map (λ z. z.0) ys))) (variables_given y.0)
    (joined (map variables_given (map (λ z. z.0) ys))) y.1 (parts_give ys)

abbrev Typed : Type 0
Typed = (r : Reading) × Unit {0}

abbrev whole : Indices-F Part Typed → Indices-F Indices Reading
whole y = map-Indices Part Typed Indices Reading (λ p. p.0) (λ r. r.0) y

form_gives_all : (y : Indices-F Part Typed)
    → Gives (form_given (map-Indices Indices Reading (Walk (Unit {0})) (Walk (Unit {0})) numbers_given types_given (whole y)))
    (form_gives (map-Indices Indices Reading (List ℕ) (List ℕ) variables_given types_gives (whole y)))
form_gives_all (W.Integer n) = gives_one (variable_in n)
form_gives_all (W.Tuple ys) = parts_give ys
form_gives_all W.Never = gives_none
form_gives_all W.Unit = gives_none
form_gives_all (W.Truth c) = gives_none
form_gives_all W.Bit = gives_none
form_gives_all (W.Bits t) = gives_one (variable_in t)
form_gives_all W.String = gives_none
form_gives_all (W.List r) = gives_none
form_gives_all (W.Vector t r) = gives_one (variable_in t)
form_gives_all (W.Named u is rs) = gives_none
form_gives_all (W.Variable i) = gives_none

rolled_gives : (y : Indices-F Part Typed) → GivesAll (roll-Indices (whole y))
rolled_gives y facts n =
    ap (λ w. w facts n) (fold-roll-Indices (Walk (Unit {0})) (Walk (Unit {0})) form_given type_given (whole y))
    ∙ form_gives_all y facts n
    ∙ ap (λ vs. went tt (with_given facts vs) n []) (sym (fold-roll-Indices (List ℕ) (List ℕ) form_gives type_gives (whole y)))

pub gives_all : (i : Indices) → Gives (numbers_given i) (variables_given i)
gives_all = ind-Indices GivesAll (λ r. Unit {0}) (λ e y same_form. subst (λ d. GivesAll (roll-Indices d)) same_form (rolled_gives y)) (λ e y same_form. tt)
