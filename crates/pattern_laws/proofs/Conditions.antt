-- Conditions that are owed, where their obligations hold.
use Rattle.std.proofs.Common.{◌≡◌, Bool, true, false, List, [], ◌∷◌, ◌++◌, map, Option, Some, None, option_map, unwrap_or, refl, sym, ap, ◌∙◌}
use Rattle.std.proofs.lemmas.Bool.{and_parts}
use Rattle.std.proofs.lemmas.Bool.Decides.{Decides-int_eq}
use Rattle.std.specs.List.{list_all}
use Rattle.std.specs.Ordering.{int_eq}
use Rattle.sail_base.specs.declared.place.Place.{Place}
use Rattle.sail_types.specs.Numbers.{Assignment, Positive, number, true_in, form_true}
use Rattle.sail_types.specs.Readings.{together}
use Rattle.sail_types.specs.declared.numbers.Comparison.TheVariants as Is
use Rattle.sail_types.specs.declared.numbers.Con.{Con, fold-roll-Con}
use Rattle.sail_types.specs.declared.numbers.Con.TheOpen as F
use Rattle.sail_types.specs.declared.numbers.Con.TheVariants as C
use Rattle.sail_types.specs.declared.numbers.Num.{Num}
use Rattle.value_indices.specs.declared.notes.Fact.{Fact}
use Rattle.value_indices.specs.declared.notes.Fact.TheVariants as Y
use Rattle.value_indices.specs.Steps.{Note, conditions, conjunction, goals_under, Conditions}
use Rattle.value_indices.specs.Opening.{equal}
use Rattle.value_laws.specs.Belonging.{Integers, standing}
use Rattle.value_laws.specs.Known.{AllTrue, InForce, given_in}
use Rattle.value_laws.proofs.Basics.{no}
use Rattle.value_laws.proofs.Numbers.{mapped, truth_is}
use Rattle.fitting_laws.specs.Fitting.{Said}
use Rattle.pattern_laws.specs.Beside.{AllMet, Ends, OfSizes}

-- ---- conditions that are true

true_all : (mu : Assignment) (cs : List Con) → true_in mu (C.All cs) ≡ list_all (λ b. b) (map (true_in mu) cs)
true_all mu cs = ap (true_in mu) (sym (C.rolls-All cs)) ∙ fold-roll-Con Bool (form_true mu) (F.All cs)

pub equal_is : (mu : Assignment) (t u : Num) → true_in mu (equal t u) ≡ int_eq (number mu t) (number mu u)
equal_is mu t u = ap (true_in mu) (sym (C.rolls-Compare Is.Equal t u)) ∙ fold-roll-Con Bool (form_true mu) (F.Compare Is.Equal t u)

pub equal_numbers : (mu : Assignment) (t u : Num) → true_in mu (equal t u) ≡ true → number mu t ≡ number mu u
equal_numbers mu t u h = (Decides-int_eq (number mu t) (number mu u)).0 (sym (equal_is mu t u) ∙ h)

pub numbers_equal : (mu : Assignment) (t u : Num) → number mu t ≡ number mu u → true_in mu (equal t u) ≡ true
numbers_equal mu t u h = equal_is mu t u ∙ (Decides-int_eq (number mu t) (number mu u)).1 h

each_said : (mu : Assignment) (os : Conditions) (cs : List Con) → together os ≡ Some cs → list_all (λ b. b) (map (true_in mu) cs) ≡ true → Said mu os
each_said mu [] cs e h = tt
each_said mu (None ∷ os) cs e h = absurd (cc)
each_said mu (Some c ∷ os) cs e h =
    let m = mapped (λ ds. c ∷ ds) (together os) cs e in
    let both = and_parts (true_in mu c) (list_all (λ b. b) (map (true_in mu) m.0))
    (ap (λ ds. list_all (λ b. b) (map (true_in mu) ds)) m.2 ∙ h) in
    (both.0, each_said mu os m.0 m.1 both.1)

by_together : (mu : Assignment) (os : Conditions) (o : Option (List Con)) → together os ≡ o → true_in mu (conjunction os) ≡ true → Said mu os
by_together mu os (Some cs) e h = each_said mu os cs e (sym (true_all mu cs) ∙ as_one)
  where
    as_one : true_in mu (C.All cs) ≡ true
    as_one = ap (λ (p : Option (List Con)). true_in mu (unwrap_or (option_map C.All p) (C.Truth false))) (sym e) ∙ h
by_together mu os None e h =
    no (sym (truth_is mu false) ∙ ap (λ (p : Option (List Con)). true_in mu (unwrap_or (option_map C.All p) (C.Truth false))) (sym e) ∙ h)

pub all_said : (mu : Assignment) (os : Conditions) → true_in mu (conjunction os) ≡ true → Said mu os
all_said mu os h = by_together mu os (together os) refl h

-- an obligation of some conditions holds, and what is in force there is true
pub goals_said : {fit : OfSizes} (q : Ends fit) (past : Positive) (facts : List Fact) (place : Place) (os : Conditions)
    → AllMet q past (goals_under facts place os)
    → (g : Integers) → InForce past g facts → Said (standing past g) os
goals_said q past facts place [] met g t = tt
goals_said q past facts place (o ∷ os) met g t = all_said (standing past g) (o ∷ os) (met.0 g t)

-- ---- lists of facts and of notes

pub true_both : (mu : Assignment) (fs gs : List Fact) → AllTrue mu (conditions fs) → AllTrue mu (conditions gs) → AllTrue mu (conditions (fs ++ gs))
true_both mu [] gs h k = k
true_both mu (Y.Holds c ∷ fs) gs h k = (h.0, true_both mu fs gs h.1 k)
true_both mu (Y.IsGiven v ∷ fs) gs h k = true_both mu fs gs h k

pub given_both : (fs gs : List Fact) → given_in gs ≡ [] → given_in (fs ++ gs) ≡ given_in fs
given_both [] gs h = h
given_both (Y.Holds c ∷ fs) gs h = given_both fs gs h
given_both (Y.IsGiven v ∷ fs) gs h = ap (λ vs. v ∷ vs) (given_both fs gs h)

pub met_front : {fit : OfSizes} (q : Ends fit) (past : Positive) (ns ms : List Note) → AllMet q past (ns ++ ms) → AllMet q past ns
met_front q past [] ms h = tt
met_front q past (n ∷ ns) ms h = (h.0, met_front q past ns ms h.1)

pub met_behind : {fit : OfSizes} (q : Ends fit) (past : Positive) (ns ms : List Note) → AllMet q past (ns ++ ms) → AllMet q past ms
met_behind q past [] ms h = h
met_behind q past (n ∷ ns) ms h = met_behind q past ns ms h.1
