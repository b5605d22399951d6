-- The variables whose numbers a value gives and that are in its sizes are among those that it gives.
use Rattle.std.proofs.Common.{◌≡◌, ◌∙◌, ◌⊎◌, ap, sym, subst, ℕ, nat_eq, Bool, true, false, ◌||◌, inl, inr, List, [], ◌∷◌, ◌++◌, map, if◌then◌else◌}
use Rattle.std.specs.List.{list_any}
use Rattle.std.proofs.lemmas.Bool.Decides.{Decides-eqb}
use Rattle.std.proofs.lemmas.List.Folds.{list_any-append}
use Rattle.sail_types.specs.declared.table.Types.{Types}
use Rattle.value_indices.specs.declared.indices.Indices.{Indices}
use Rattle.value_indices.specs.declared.notes.Fact.{Fact}
use Rattle.value_indices.specs.declared.notes.Fact.TheVariants as Y
use Rattle.value_indices.specs.Steps.{bind, note}
use Rattle.value_laws.proofs.Basics.{no}
use Rattle.size_values.specs.Sizes.{value_names}
use Rattle.size_splits.specs.Alone.{all_given, given_facts, is_it, once_where, sizes_given}
use Rattle.split_laws.specs.Counted.{IsIn}
use Rattle.split_laws.proofs.Basics.{either, or_cases}
use Rattle.soundness_steps.specs.Noted.{variables_given}
use Rattle.soundness_forms.proofs.Giving.{gives_all}

facts_are : (i : Indices) → given_facts i ≡ map Y.IsGiven (variables_given i)
unfolding bind note
facts_are i = ap (λ went. went.facts) (gives_all i [] 0)

-- ---- each once

new_named : (w v : ℕ) (seen : List ℕ) (b : Bool) → list_any (nat_eq w) (if b then seen else seen ++ v ∷ []) ≡ true
    → (list_any (nat_eq w) seen ≡ true) ⊎ (w ≡ v)
new_named w v seen true h = inl h
new_named w v seen false h =
    either (or_cases (list_any (nat_eq w) seen) (nat_eq w v || false) (sym (list_any-append (nat_eq w) seen (v ∷ [])) ∙ h)) (λ e. inl e)
    (λ e. either (or_cases (nat_eq w v) false e) (λ q. inr ((Decides-eqb w v).0 q)) (λ q. no q))

once_named : (w v : ℕ) (seen : List ℕ) (b : Bool) → list_any (nat_eq w) (once_where b v seen) ≡ true → (list_any (nat_eq w) seen ≡ true) ⊎ (w ≡ v)
once_named w v seen true h = new_named w v seen (list_any (is_it v) seen) h
once_named w v seen false h = inl h

all_named : (types : Types) (i : Indices) (w : ℕ) (seen vs : List ℕ) → list_any (nat_eq w) (all_given types i seen (map Y.IsGiven vs)) ≡ true
    → (list_any (nat_eq w) seen ≡ true) ⊎ IsIn w vs
all_named types i w seen [] h = inl h
all_named types i w seen (v ∷ vs) h =
    either (all_named types i w (once_where (value_names types v i) v seen) vs h)
    (λ e. either (once_named w v seen (value_names types v i) e) (λ q. inl q) (λ q. inr (inl q))) (λ e. inr (inr e))

pub sizes_named : (types : Types) (i : Indices) (w : ℕ) → list_any (nat_eq w) (sizes_given types i) ≡ true → IsIn w (variables_given i)
sizes_named types i w h =
    either (all_named types i w [] (variables_given i)
    (subst (λ (fs : List Fact). list_any (nat_eq w) (all_given types i [] fs) ≡ true) (facts_are i) h)) (λ e. no e) (λ e. e)
