-- What tells nothing of the combinations at a place changes nothing of them.
use Rattle.std.proofs.Common.{◌≡◌, ◌∙◌, ap, sym, refl, ℕ, Bool, true, false, ◌&&◌, ◌||◌, List, [], ◌∷◌, ◌++◌, map, pos}
use Rattle.std.specs.Prelude.{ℤ, nat_eq, Option, Some, None, if◌then◌else◌}
use Rattle.std.specs.List.{list_any}
use Rattle.std.specs.Ordering.{int_eq}
use Rattle.sail_types.specs.Places.{first, is_variable, terms_are}
use Rattle.sail_types.specs.Sums.{terms_of}
use Rattle.sail_types.specs.declared.numbers.Num.{Num, out-Num}
use Rattle.sail_types.specs.declared.numbers.Term.{Term, out-Term}
use Rattle.sail_types.specs.declared.numbers.Con.{Con, Con-F, out-Con, fold-roll-Con, map-Con}
use Rattle.sail_types.specs.declared.numbers.Con.TheViews.{roll-out-Con}
use Rattle.sail_types.specs.declared.numbers.Con.TheOpen as E
use Rattle.sail_types.specs.declared.numbers.Con.TheVariants as Cons
use Rattle.value_indices.specs.declared.notes.Fact.{Fact}
use Rattle.value_indices.specs.declared.notes.Fact.TheVariants as Y
use Rattle.value_indices.specs.Steps.{conditions}
use Rattle.size_values.specs.declared.constants.Constant.{Constant}
use Rattle.size_values.specs.declared.constants.Picked.{Picked}
use Rattle.size_values.specs.Numbers.{Known, form_truth, is_free, known_at, may_hold, not_false, number_in, or_open, truth_of, with_picked}
use Rattle.size_splits.specs.Splits.{combinations, constant_number, counted, domain, domain_at, form_names, is_among, is_at_most, lower_end}
use Rattle.size_splits.specs.Splits.{names_it, one_where, range_between, range_of, set_of, term_is, those_that_may, upper_end}
use Rattle.size_splits.specs.Splits.{with_domain, with_number, with_numbers}
use Rattle.size_splits.specs.Telling.{all_constant, any_number, names_one, telling, told_condition, with_split}
use Rattle.size_splits.proofs.Facts.{conditions_append}
use Rattle.size_splits.proofs.Silent.{silent}

true_or : (a : Bool) → (a || true) ≡ true
true_or true = refl
true_or false = refl

right_false : (a b : Bool) → (a || b) ≡ false → b ≡ false
right_false true b h = absurd (cc)
right_false false b h = h

left_false : (a b : Bool) → (a || b) ≡ false → a ≡ false
left_false true b h = absurd (cc)
left_false false b h = refl

and_false : (a b : Bool) → b ≡ false → (a && b) ≡ false
and_false true b h = h
and_false false b h = refl

-- ---- a variable that a number doesn't name

terms_silent : (v : ℕ) (ts : List Term) → list_any (term_is v) ts ≡ false → terms_are v ts ≡ false
terms_silent v [] h = refl
terms_silent v (t ∷ []) h = and_false (int_eq (out-Term t).coefficient (pos 1)) (term_is v t) (left_false (term_is v t) false h)
terms_silent v (t ∷ s ∷ ts) h = refl

not_variable : (v : ℕ) (t : Num) → is_among v t ≡ false → is_variable v t ≡ false
not_variable v t h = and_false (int_eq (out-Num t).constant (pos 0)) (terms_are v (terms_of t)) (terms_silent v (terms_of t) h)

module _ (of : ℕ → Constant) (v : ℕ) where
  upper_silent : (y : Con-F Con) → form_names v (map-Con Con Bool (names_it v) y) ≡ false → upper_end of v y ≡ None
  upper_silent (E.Truth b) h = refl
  upper_silent (E.Holds p) h = refl
  upper_silent (E.Compare how t u) h =
      ap (λ b. if b then constant_number of u else None)
      (and_false (is_at_most how) (is_variable v t) (not_variable v t (left_false (is_among v t) (is_among v u) h)))
  upper_silent (E.OneOf t zs) h = refl
  upper_silent (E.Not y) h = refl
  upper_silent (E.All ys) h = refl
  upper_silent (E.Any ys) h = refl

  -- a condition that isn't named
  upper_none : (d : Con) → names_it v d ≡ false → upper_end of v (out-Con d) ≡ None
  upper_none d h = upper_silent (out-Con d) (sym (fold-roll-Con Bool (form_names v) (out-Con d)) ∙ (ap (names_it v) (roll-out-Con d) ∙ h))

nothing_named : (v : ℕ) → names_it v (Cons.Truth true) ≡ false
nothing_named v = ap (names_it v) (sym (Cons.rolls-Truth true)) ∙ fold-roll-Con Bool (form_names v) (E.Truth true)

chosen_silent : (v : ℕ) (b : Bool) (c : Con) → names_it v c ≡ false → names_it v (if b then c else Cons.Truth true) ≡ false
chosen_silent v true c h = h
chosen_silent v false c h = nothing_named v

-- ---- what names a variable that is split names one of them

abbrev Heard : List ℕ → ℕ → Type 0
Heard vs v = (c : Con) → names_it v c ≡ true → names_one vs c ≡ true

abbrev AllHeard : List ℕ → List ℕ → Type 0
AllHeard vs [] = Unit {0}
AllHeard vs (v ∷ us) = Heard vs v × AllHeard vs us

heard_more : (w : ℕ) (vs us : List ℕ) → AllHeard vs us → AllHeard (w ∷ vs) us
heard_more w vs [] h = tt
heard_more w vs (v ∷ us) h = ((λ c e. ap (λ b. names_it w c || b) (h.0 c e) ∙ true_or (names_it w c)), heard_more w vs us h.1)

all_heard : (vs : List ℕ) → AllHeard vs vs
all_heard [] = tt
all_heard (w ∷ vs) = ((λ c e. ap (λ b. b || names_one vs c) e), heard_more w vs vs (all_heard vs))

-- ---- what isn't known, and not split, isn't taken

none_over : {A : Type 0} (b : Bool) (x : A) (o : Option A) → (if b then Some x else o) ≡ None → (b ≡ false) × (o ≡ None)
none_over true x o h = absurd (cc)
none_over false x o h = (refl, h)

open_none : (v : ℕ) (o : Option ℤ) → is_free (or_open v o) ≡ true → o ≡ None
open_none v None h = refl
open_none v (Some z) h = absurd (cc)

module _ (k : Known) (vs : List ℕ) where
  abbrev each : List Con → List Con
  each cs = map (told_condition k vs) cs

  kept : (v : ℕ) → Heard vs v → (c : Con) → names_it v c ≡ true → told_condition k vs c ≡ c
  kept v hears c h =
      ap (λ b. if b then c else Cons.Truth true)
      (ap (λ b. all_constant (with_split k vs) c || b) (hears c h) ∙ true_or (all_constant (with_split k vs) c))

  silent_still : (v : ℕ) (c : Con) → names_it v c ≡ false → names_it v (told_condition k vs c) ≡ false
  silent_still v c h = chosen_silent v (all_constant (with_split k vs) c || names_one vs c) c h

  module _ (of : ℕ → Constant) (v : ℕ) (hears : Heard vs v) where
    upper_by : (d : Con) (b : Bool) → names_it v d ≡ b → upper_end of v (out-Con (told_condition k vs d)) ≡ upper_end of v (out-Con d)
    upper_by d true h = ap (λ e. upper_end of v (out-Con e)) (kept v hears d h)
    upper_by d false h = upper_none of v (told_condition k vs d) (silent_still v d h) ∙ sym (upper_none of v d h)

    range_told : (c : Con) (cs ds : List Con) → range_of of v c (each cs ++ ds) ≡ range_of of v c (cs ++ ds)
    range_told c [] ds = refl
    range_told c (d ∷ cs) ds = ap (range_between (lower_end of v (out-Con c))) (upper_by d (names_it v d) refl)

    domain_by : (c : Con) (cs ds : List Con) (b : Bool) → names_it v c ≡ b → domain of v (each cs ++ ds) ≡ domain of v (cs ++ ds)
        → domain of v (each (c ∷ cs) ++ ds) ≡ domain of v (c ∷ cs ++ ds)
    domain_by c cs ds true h rest =
        ap (λ e. if names_it v e then domain_at of v e (each cs ++ ds) else domain of v (each cs ++ ds)) (kept v hears c h)
        ∙ (λ i. if names_it v c then first (set_of v (out-Con c)) (range_told c cs ds i) else rest i)
    domain_by c cs ds false h rest =
        ap (λ b. if b then domain_at of v (told_condition k vs c) (each cs ++ ds) else domain of v (each cs ++ ds)) (silent_still v c h)
        ∙ (rest ∙ ap (λ b. if b then domain_at of v c (cs ++ ds) else domain of v (cs ++ ds)) (sym h))

    domain_told : (cs ds : List Con) → domain of v (each cs ++ ds) ≡ domain of v (cs ++ ds)
    domain_told [] ds = refl
    domain_told (c ∷ cs) ds = domain_by c cs ds (names_it v c) refl (domain_told cs ds)

  -- ---- the truth of what is left out

  truth_true : (of : ℕ → Constant) → truth_of of (Cons.Truth true) ≡ Some true
  truth_true of = ap (truth_of of) (sym (Cons.rolls-Truth true)) ∙ fold-roll-Con (Option Bool) (form_truth of) (E.Truth true)

  same_truth : (of : ℕ → Constant) (c : Con) (a b : Bool) → (a ≡ false → truth_of of c ≡ None)
      → not_false (truth_of of (if a || b then c else Cons.Truth true)) ≡ not_false (truth_of of c)
  same_truth of c true b f = refl
  same_truth of c false true f = refl
  same_truth of c false false f = ap not_false (truth_true of) ∙ sym (ap not_false (f refl))

  -- a combination of numbers of these variables
  abbrev Takes : List ℕ → List Picked → Type 0
  Takes us ps = (v : ℕ) → with_picked k (map any_number us) v ≡ None → with_picked k ps v ≡ None

  abbrev AllTake : List ℕ → List (List Picked) → Type 0
  AllTake us [] = Unit {0}
  AllTake us (ps ∷ more) = Takes us ps × AllTake us more

  takes_more : (w : ℕ) (us : List ℕ) (all : List (List Picked)) → AllTake us all → AllTake (w ∷ us) all
  takes_more w us [] h = tt
  takes_more w us (ps ∷ more) h =
      ((λ v e. let n = none_over (nat_eq w v) (pos 0) (with_picked k (map any_number us) v) e in h.0 v n.1), takes_more w us more h.1)

  takes_number : (w : ℕ) (z : ℤ) (us : List ℕ) (all : List (List Picked)) → AllTake us all → AllTake (w ∷ us) (with_number w all z)
  takes_number w z us [] h = tt
  takes_number w z us (ps ∷ more) h = (
    (λ v e. let n = none_over (nat_eq w v) (pos 0) (with_picked k (map any_number us) v) e in
        ap (λ b. if b then Some z else with_picked k ps v) n.0 ∙ h.0 v n.1),
    takes_number w z us more h.1,
  )

  takes_both : (us : List ℕ) (all more : List (List Picked)) → AllTake us all → AllTake us more → AllTake us (all ++ more)
  takes_both us [] more h g = g
  takes_both us (ps ∷ all) more h g = (h.0, takes_both us all more h.1 g)

  takes_numbers : (w : ℕ) (zs : List ℤ) (us : List ℕ) (all : List (List Picked)) → AllTake us all → AllTake (w ∷ us) (with_numbers w zs all)
  takes_numbers w [] us all h = tt
  takes_numbers w (z ∷ zs) us all h =
      takes_both (w ∷ us) (with_number w all z) (with_numbers w zs all) (takes_number w z us all h) (takes_numbers w zs us all h)

  takes_domain : (w : ℕ) (o : Option (List ℤ)) (us : List ℕ) (all : List (List Picked)) → AllTake us all → AllTake (w ∷ us) (with_domain w o all)
  takes_domain w None us all h = takes_more w us all h
  takes_domain w (Some zs) us all h = takes_numbers w zs us all h

  all_take : (of : ℕ → Constant) (cs : List Con) (us : List ℕ) → AllTake us (combinations of cs us)
  all_take of cs [] = ((λ v e. e), tt)
  all_take of cs (w ∷ us) = takes_domain w (domain of w cs) us (combinations of cs us) (all_take of cs us)

  -- of those that are split
  abbrev Split : List Picked → Type 0
  Split ps = (v : ℕ) → is_free (with_split k vs v) ≡ true → number_in (known_at (with_picked k ps) v) ≡ None

  may_told : (ps : List Picked) → Split ps → (cs : List Con)
      → may_hold (known_at (with_picked k ps)) (each cs) ≡ may_hold (known_at (with_picked k ps)) cs
  may_told ps split [] = refl
  may_told ps split (c ∷ cs) =
      let of = known_at (with_picked k ps) in
      λ i. same_truth of c (all_constant (with_split k vs) c) (names_one vs c) (silent (with_split k vs) of split c) i && may_told ps split cs i

  abbrev AllSplit : List (List Picked) → Type 0
  AllSplit [] = Unit {0}
  AllSplit (ps ∷ more) = Split ps × AllSplit more

  those_told : (cs : List Con) (all : List (List Picked)) → AllSplit all → those_that_may k (each cs) all ≡ those_that_may k cs all
  those_told cs [] h = refl
  those_told cs (ps ∷ more) h = λ i. one_where (may_told ps h.0 cs i) ps ++ those_told cs more h.1 i

  all_split : (all : List (List Picked)) → AllTake vs all → AllSplit all
  all_split [] h = tt
  all_split (ps ∷ more) h =
      ((λ v e. ap (λ o. number_in (or_open v o)) (h.0 v (open_none v (with_picked k (map any_number vs) v) e))), all_split more h.1)

  combinations_told : (of : ℕ → Constant) (cs ds : List Con) (us : List ℕ) → AllHeard vs us
      → combinations of (each cs ++ ds) us ≡ combinations of (cs ++ ds) us
  combinations_told of cs ds [] h = refl
  combinations_told of cs ds (v ∷ us) h = λ i. with_domain v (domain_told of v h.0 cs ds i) (combinations_told of cs ds us h.1 i)

  conditions_told : (facts : List Fact) → conditions (telling k vs facts) ≡ each (conditions facts)
  conditions_told [] = refl
  conditions_told (Y.Holds c ∷ facts) = ap (λ cs. told_condition k vs c ∷ cs) (conditions_told facts)
  conditions_told (Y.IsGiven v ∷ facts) = conditions_told facts

  -- the same combinations count
  pub counted_told : (facts own : List Fact) → counted k vs (telling k vs facts) own ≡ counted k vs facts own
  counted_told facts own =
      let cs = conditions facts in
      let ds = conditions own in
      let told_then_own : conditions (telling k vs facts ++ own) ≡ each cs ++ ds =
      conditions_append (telling k vs facts) own ∙ ap (λ l. l ++ ds) (conditions_told facts) in
      (λ i. those_that_may k (conditions_told facts i) (combinations (known_at k) (told_then_own i) vs))
      ∙ (ap (those_that_may k (each cs)) (combinations_told (known_at k) cs ds vs (all_heard vs))
      ∙ (those_told cs (combinations (known_at k) (cs ++ ds) vs)
      (all_split (combinations (known_at k) (cs ++ ds) vs) (all_take (known_at k) (cs ++ ds) vs))
      ∙ ap (λ l. those_that_may k cs (combinations (known_at k) l vs)) (sym (conditions_append facts own))))
