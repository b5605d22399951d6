-- The combinations of numbers by which the cases of a node are told apart (Sail language manual, "Type variables").
use Rattle.std.specs.Prelude.{ℕ, nat_eq, nat_lt, Bool, true, false, not, ◌&&◌, ◌||◌, List, [], ◌∷◌, ◌++◌, map, if◌then◌else◌}
use Rattle.std.specs.List.{list_any}
use Rattle.std.specs.Ordering.{int_eq}
use Rattle.value_indices.specs.declared.notes.Fact.{Fact}
use Rattle.value_indices.specs.declared.notes.Fact.TheVariants as Y
use Rattle.size_values.specs.declared.constants.Picked.{Picked}
use Rattle.size_values.specs.Numbers.{known_of}
use Rattle.size_splits.specs.Splits.{counted}
use Rattle.monomorph.specs.Reading.{Inside}
use Rattle.sized_trees.specs.declared.combinations.Choice.{Choice}

-- ---- of the numbers that are taken, those of variables whose number is noted by then

abbrev pub gives_it : ℕ → Fact → Bool
gives_it v (Y.Holds c) = false
gives_it v (Y.IsGiven w) = nat_eq v w

abbrev pub is_given : List Fact → ℕ → Bool
is_given facts v = list_any (gives_it v) facts

abbrev pub where_so : {A : Type 0} → Bool → A → List A
where_so true x = x ∷ []
where_so false x = []

abbrev pub picked_where : (ℕ → Bool) → List Picked → List Picked
picked_where given [] = []
picked_where given (p ∷ ps) = where_so (given p.variable) p ++ picked_where given ps

-- ---- each once

abbrev pub picked_eq : Picked → Picked → Bool
picked_eq p q = nat_eq p.variable q.variable && int_eq p.number q.number

abbrev pub all_picked_eq : List Picked → List Picked → Bool
all_picked_eq [] [] = true
all_picked_eq (p ∷ ps) (q ∷ qs) = picked_eq p q && all_picked_eq ps qs
all_picked_eq ps qs = false

abbrev pub with_one : List (List Picked) → List Picked → List (List Picked)
with_one seen ps = if list_any (all_picked_eq ps) seen then seen else seen ++ ps ∷ []

-- behind those that are seen by then
abbrev pub each_once : (ℕ → Bool) → List (List Picked) → List (List Picked) → List (List Picked)
each_once given seen [] = seen
each_once given seen (ps ∷ more) = each_once given (with_one seen (picked_where given ps)) more

-- those that count at a place, by the numbers that are noted there: all ask for the same variables
abbrev pub combinations_at : Inside → List Fact → List (List Picked)
combinations_at r facts = each_once (is_given facts) [] (counted (known_of r.numbers) r.split facts [])

-- ---- where a value is made: also by the numbers that it gives itself, of which its type binds those from the body's last variable on

abbrev pub is_told : List Fact → List ℕ → ℕ → Bool
is_told facts own v = list_any (nat_eq v) own || is_given facts v

abbrev pub those_before : ℕ → List ℕ → List ℕ
those_before n [] = []
those_before n (v ∷ vs) = where_so (nat_lt v n) v ++ those_before n vs

abbrev pub those_from : ℕ → List ℕ → List ℕ
those_from n [] = []
those_from n (v ∷ vs) = where_so (not (nat_lt v n)) v ++ those_from n vs

-- by what is in force, and by these variables
abbrev pub each_noted : Inside → List Fact → List ℕ → List (List Picked)
each_noted r facts own = each_once (is_told facts own) [] (counted (known_of r.numbers) r.split facts [])

-- those of the body that the value gives
abbrev pub noted_choices : Inside → List Fact → List ℕ → List (List Picked)
noted_choices r facts own = each_noted r facts (those_before r.variables own)

-- by what is said where its type is opened
abbrev pub bound_choices : Inside → List Fact → List ℕ → List (List Picked)
bound_choices r opening own = each_once (is_told [] own) [] (counted (known_of r.numbers) (those_from r.variables own) [] opening)

abbrev pub choice : List Picked → List Picked → Choice
choice ps qs = record { noted = ps; bound = qs }

abbrev pub with_bound : List (List Picked) → List Picked → List Choice
with_bound bound ps = map (choice ps) bound

abbrev pub with_each : List (List Picked) → List (List Picked) → List Choice
with_each bound [] = []
with_each bound (ps ∷ pss) = with_bound bound ps ++ with_each bound pss

abbrev pub choices_at : Inside → List Fact → List Fact → List ℕ → List Choice
choices_at r facts opening own = with_each (bound_choices r opening own) (noted_choices r facts own)

-- all the numbers that are taken
abbrev pub picked_by : Choice → List Picked
picked_by c = c.bound ++ c.noted
