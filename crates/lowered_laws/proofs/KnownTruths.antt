-- Conditions that are known under the numbers of an instance are known under those of a call of it.
use Rattle.std.proofs.Common.{◌≡◌, ◌∙◌, ap, sym, refl, subst, ℤ, Bool, true, false, not, ◌&&◌, ◌||◌, List, [], ◌∷◌, map}
use Rattle.std.specs.Prelude.{Option, Some, None, option_map}
use Rattle.std.specs.List.{list_all, list_any}
use Rattle.std.specs.Ordering.{int_eq}
use Rattle.sail_types.specs.Numbers.{compares}
use Rattle.sail_types.specs.Places.{an_int}
use Rattle.sail_types.specs.Readings.{more, together}
use Rattle.sail_types.specs.Sums.{and_then}
use Rattle.sail_types.specs.declared.numbers.Con.{Con, Con-F, roll-Con, fold-roll-Con, map-Con, ind-Con}
use Rattle.sail_types.specs.declared.numbers.Con.TheOpen as E
use Rattle.sail_types.proofs.SumNumbers.{then_parts}
use Rattle.sail_core.specs.Numbers.{Givens, all_agree, known, known_form, known_truth}
use Rattle.split_laws.proofs.Basics.{none}
use Rattle.size_values.specs.Numbers.{every, form_truth, known_at, known_of, some, truth_of, value_of}
use Rattle.lowered_laws.proofs.KnownSizes.{number_known}
use Rattle.lowered_laws.specs.KnownLaws.{TruthsKnown}

pub mapped : {A B : Type 0} (g : A → B) (o : Option A) (y : B) → option_map g o ≡ Some y → (x : A) × (o ≡ Some x) × (g x ≡ y)
mapped g None y h = none h
mapped g (Some x) y h = (x, refl, cc h)

-- all of them are known, and what they come to behind this
abbrev Together : (Bool → List Bool → Bool) → Bool → List (Option Bool) → Bool → Type 0
Together join b os r = (bs : List Bool) × (together os ≡ Some bs) × (join b bs ≡ r)

with_more : (join : Bool → List Bool → Bool) (b c r : Bool) (next : Bool) (os : List (Option Bool)) → ((bs : List Bool) → join next bs ≡ join b (c ∷ bs))
    → Together join next os r → Together join b (Some c ∷ os) r
with_more join b c r next os same t =
    (c ∷ t.0, ap (λ (o : Option (List Bool)). option_map (λ bs. c ∷ bs) o) t.1, sym (same t.0) ∙ t.2)

and_all : Bool → List Bool → Bool
and_all b bs = b && list_all (λ c. c) bs

and_next : (b c : Bool) (bs : List Bool) → and_all (b && c) bs ≡ and_all b (c ∷ bs)
unfolding and_all
and_next true c bs = refl
and_next false c bs = refl

and_last : (b : Bool) → and_all b [] ≡ b
unfolding and_all
and_last true = refl
and_last false = refl

every_known : (b r : Bool) (os : List (Option Bool)) → every b os ≡ Some r → Together and_all b os r
every_known b r [] h = ([], refl, and_last b ∙ cc h)
every_known b r (None ∷ os) h = none h
every_known b r (Some c ∷ os) h = with_more and_all b c r (b && c) os (and_next b c) (every_known (b && c) r os h)

or_any : Bool → List Bool → Bool
or_any b bs = b || list_any (λ c. c) bs

or_next : (b c : Bool) (bs : List Bool) → or_any (b || c) bs ≡ or_any b (c ∷ bs)
unfolding or_any
or_next true c bs = refl
or_next false c bs = refl

or_last : (b : Bool) → or_any b [] ≡ b
unfolding or_any
or_last true = refl
or_last false = refl

some_known : (b r : Bool) (os : List (Option Bool)) → some b os ≡ Some r → Together or_any b os r
some_known b r [] h = ([], refl, or_last b ∙ cc h)
some_known b r (None ∷ os) h = none h
some_known b r (Some c ∷ os) h = with_more or_any b c r (b || c) os (or_next b c) (some_known (b || c) r os h)

all_are : (bs : List Bool) → and_all true bs ≡ list_all (λ c. c) bs
unfolding and_all
all_are bs = refl

any_is : (bs : List Bool) → or_any false bs ≡ list_any (λ c. c) bs
unfolding or_any
any_is bs = refl

module _ (zs : List (Option ℤ)) (nu : Givens) (agree : all_agree (map (option_map an_int) zs) nu ≡ true) where
  abbrev truth : Con → Option Bool
  truth = truth_of (known_at (known_of zs))

  abbrev Keeps : Con → Type 0
  Keeps c = (b : Bool) → truth c ≡ Some b → known_truth nu c ≡ Some b

  abbrev Such : Type 0
  Such = (c : Con) × Keeps c

  abbrev bare : List Such → List Con
  bare ys = map (λ (p : Such). p.0) ys

  all_known : (ys : List Such) (bs : List Bool) → together (map truth (bare ys)) ≡ Some bs → together (map (known_truth nu) (bare ys)) ≡ Some bs
  all_known [] bs h = h
  all_known (y ∷ ys) bs h = by (truth y.0) refl (λ cs e. all_known ys cs e) h
    where
      by : (o : Option Bool) → truth y.0 ≡ o
          → ((cs : List Bool) → together (map truth (bare ys)) ≡ Some cs → together (map (known_truth nu) (bare ys)) ≡ Some cs)
          → more o (together (map truth (bare ys))) ≡ Some bs → more (known_truth nu y.0) (together (map (known_truth nu) (bare ys))) ≡ Some bs
      by None e rest k = none k
      by (Some c) e rest k =
          let p = mapped (λ (cs : List Bool). c ∷ cs) (together (map truth (bare ys))) bs k in
          ap (λ (o : Option Bool). more o (together (map (known_truth nu) (bare ys)))) (y.1 c e)
          ∙ ap (λ (o : Option (List Bool)). option_map (λ cs. c ∷ cs) o) (rest p.0 p.1) ∙ ap (λ (l : List Bool). Some l) p.2

  abbrev bare_of : Con-F Such → Con-F Con
  bare_of y = map-Con Such Con (λ p. p.0) y

  abbrev truths : Con-F Such → Con-F (Option Bool)
  truths y = map-Con Con (Option Bool) truth (bare_of y)

  abbrev knowns : Con-F Such → Con-F (Option Bool)
  knowns y = map-Con Con (Option Bool) (known_truth nu) (bare_of y)

  every_found : (ys : List Such) (b : Bool) → Together and_all true (map truth (bare ys)) b
      → option_map (list_all (λ c. c)) (together (map (known_truth nu) (bare ys))) ≡ Some b
  every_found ys b k =
      ap (λ (o : Option (List Bool)). option_map (list_all (λ c. c)) o) (all_known ys k.0 k.1) ∙ ap (λ (c : Bool). Some c) (sym (all_are k.0) ∙ k.2)

  some_found : (ys : List Such) (b : Bool) → Together or_any false (map truth (bare ys)) b
      → option_map (list_any (λ c. c)) (together (map (known_truth nu) (bare ys))) ≡ Some b
  some_found ys b k =
      ap (λ (o : Option (List Bool)). option_map (list_any (λ c. c)) o) (all_known ys k.0 k.1) ∙ ap (λ (c : Bool). Some c) (sym (any_is k.0) ∙ k.2)

  step : (y : Con-F Such) (b : Bool) → form_truth (known_at (known_of zs)) (truths y) ≡ Some b → known_form nu (knowns y) ≡ Some b
  step (E.Truth a) b h = h
  step (E.Holds i) b h = none h
  step (E.Compare how t u) b h =
      let p = then_parts (value_of (known_at (known_of zs)) t) (λ x. option_map (compares how x) (value_of (known_at (known_of zs)) u)) b h in
      let q = mapped (compares how p.0) (value_of (known_at (known_of zs)) u) b p.2 in
      ap (λ (o : Option ℤ). and_then o (λ x. option_map (compares how x) (known nu u))) (number_known zs nu agree t p.0 p.1)
      ∙ ap (λ (o : Option ℤ). option_map (compares how p.0) o) (number_known zs nu agree u q.0 q.1) ∙ ap (λ (c : Bool). Some c) q.2
  step (E.OneOf t ys) b h =
      let q = mapped (λ x. list_any (int_eq x) ys) (value_of (known_at (known_of zs)) t) b h in
      ap (λ (o : Option ℤ). option_map (λ x. list_any (int_eq x) ys) o) (number_known zs nu agree t q.0 q.1) ∙ ap (λ (c : Bool). Some c) q.2
  step (E.Not y) b h =
      let q = mapped not (truth y.0) b h in
      ap (λ (o : Option Bool). option_map not o) (y.1 q.0 q.1) ∙ ap (λ (c : Bool). Some c) q.2
  step (E.All ys) b h = every_found ys b (every_known true b (map truth (bare ys)) h)
  step (E.Any ys) b h = some_found ys b (some_known false b (map truth (bare ys)) h)

  rolled : (y : Con-F Such) → Keeps (roll-Con (bare_of y))
  rolled y b h =
      fold-roll-Con (Option Bool) (known_form nu) (bare_of y)
      ∙ step y b (sym (fold-roll-Con (Option Bool) (form_truth (known_at (known_of zs))) (bare_of y)) ∙ h)

  pub truth_known : (c : Con) → Keeps c
  truth_known = ind-Con Keeps (λ e y is. subst (λ d. Keeps (roll-Con d)) is (rolled y))

pub truths_known : TruthsKnown
truths_known zs nu agree c b h = truth_known zs nu agree c b h
