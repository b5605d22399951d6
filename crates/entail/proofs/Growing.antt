-- What is kept of facts with one more.
use Rattle.std.proofs.Common.{◌≡◌, ℕ, suc, ◌+◌, ◌-◌, ◌*◌, ◌^◌, ◌<◌, ◌≤◌, min, Bool, true, false, Option, Some, None}
use Rattle.std.proofs.Common.{List, [], ◌∷◌, ◌++◌, length, map, sym, ap, ◌∙◌, refl, arith, length-append}
use Rattle.std.specs.Prelude.{if◌then◌else◌, nat_lt, ◌==◌}
use Rattle.std.specs.List.{fold}
use Rattle.std.proofs.lemmas.Bool.{cond-true, cond-false, lt-ltb, le-ltb, ltb-true, ne_eqb}
use Rattle.std.proofs.lemmas.List.{append_assoc, append-nil, map-append, length-map, nil_from_length}
use Rattle.std.proofs.lemmas.List.Sums.{fold-append}
use Rattle.sail_types.specs.declared.numbers.Atom.{Atom}
use Rattle.sail_types.specs.declared.numbers.Con.{Con}
use Rattle.linear.specs.declared.choice.Choice.{Choice}
use Rattle.linear.specs.declared.row.Row.{Row}
use Rattle.linear.specs.Choices.{then_do, all_of, joined, variables_in, with_atom, choice_of}
use Rattle.linear.specs.Cases.{together, product, alternatives, capped}
use Rattle.linear.specs.laws.Truths.{fold_has}
use Rattle.linear.proofs.Counts.{together_length, capped_both, capped_is, capped_product, none_capped}
use Rattle.farkas.specs.declared.keeping.Starts.{Starts}
use Rattle.farkas.specs.declared.keeping.Starts.TheVariants.{Kept}
use Rattle.farkas.specs.Keeping.{starts, started}
use Rattle.entail.specs.declared.alternatives.Alternatives.{Alternatives}
use Rattle.entail.specs.declared.alternatives.Alternatives.TheVariants.{Listed, TooMany}
use Rattle.entail.specs.declared.level.Level.{Level}
use Rattle.entail.specs.Levels.{atoms_of, choices_of, kept_of, alternatives_of, level_of, each_with, many_with, listed_with, with_choice}
use Rattle.entail.proofs.Stable.{fold_extends, choices_same}

-- ---- variables

joined_more : (facts : List Con) (fact : Con) → joined (map variables_in (facts ++ fact ∷ [])) ≡ joined (map variables_in facts) ++ variables_in fact
joined_more [] fact = append-nil (variables_in fact)
joined_more (f ∷ facts) fact = ap (λ atoms. variables_in f ++ atoms) (joined_more facts fact)
    ∙ sym (append_assoc (variables_in f) (joined (map variables_in facts)) (variables_in fact))

atoms_more : (facts : List Con) (fact : Con) → atoms_of (facts ++ fact ∷ []) ≡ fold with_atom (atoms_of facts) (variables_in fact)
atoms_more facts fact = ap (fold with_atom []) (joined_more facts fact) ∙ fold-append with_atom [] (joined (map variables_in facts)) (variables_in fact)

pub choices_wider : (facts : List Con) (bs : List Atom) → choices_of (fold with_atom (atoms_of facts) bs) facts ≡ choices_of (atoms_of facts) facts
choices_wider facts bs =
    let wider = fold_extends bs (atoms_of facts) in
    ap (λ atoms. choices_of atoms facts) wider.1 ∙ choices_same (atoms_of facts) wider.0 facts true (fold_has (joined (map variables_in facts)) [])

-- ---- choices

put_behind : {B : Type 0} (o : Option B) (os : Option (List B)) (p : Option B) →
    then_do o (λ a. then_do (then_do os (λ bs. then_do p (λ b. Some (bs ++ b ∷ [])))) (λ rest. Some (a ∷ rest)))
    ≡ then_do (then_do o (λ a. then_do os (λ rest. Some (a ∷ rest)))) (λ bs. then_do p (λ b. Some (bs ++ b ∷ [])))
put_behind None os p = refl
put_behind (Some a) None p = refl
put_behind (Some a) (Some bs) None = refl
put_behind (Some a) (Some bs) (Some b) = refl

all_of_more : {A B : Type 0} (f : A → Option B) (xs : List A) (x : A) →
    all_of (map f (xs ++ x ∷ [])) ≡ then_do (all_of (map f xs)) (λ bs. then_do (f x) (λ b. Some (bs ++ b ∷ [])))
all_of_more f [] x = refl
all_of_more f (y ∷ ys) x = ap (λ o. then_do (f y) (λ a. then_do o (λ rest. Some (a ∷ rest)))) (all_of_more f ys x)
    ∙ put_behind (f y) (all_of (map f ys)) (f x)

-- ---- alternatives

map_prepend : (rows : List Row) (a b : List (List Row)) → map (λ (more : List Row). rows ++ more) (together a b)
    ≡ together (map (λ (more : List Row). rows ++ more) a) b
map_prepend rows [] b = refl
map_prepend rows (x ∷ a) b =
    map-append (λ (more : List Row). rows ++ more) (map (λ (more : List Row). x ++ more) b) (together a b)
    ∙ (λ j. front rows x b j ++ map_prepend rows a b j)
  where
    front : (rows x : List Row) (b : List (List Row)) → map (λ (more : List Row). rows ++ more) (map (λ (more : List Row). x ++ more) b)
        ≡ map (λ (more : List Row). (rows ++ x) ++ more) b
    front rows x [] = refl
    front rows x (y ∷ b) = λ j. sym (append_assoc rows x y) j ∷ front rows x b j

together_front : (a b c : List (List Row)) → together (a ++ b) c ≡ together a c ++ together b c
together_front [] b c = refl
together_front (x ∷ a) b c =
    ap (λ rest. map (λ (more : List Row). x ++ more) c ++ rest) (together_front a b c)
    ∙ sym (append_assoc (map (λ (more : List Row). x ++ more) c) (together a c) (together b c))

together_assoc : (a b c : List (List Row)) → together a (together b c) ≡ together (together a b) c
together_assoc [] b c = refl
together_assoc (x ∷ a) b c =
    (λ j. map_prepend x b c j ++ together_assoc a b c j)
    ∙ sym (together_front (map (λ (more : List Row). x ++ more) b) (together a b) c)

together_one : (a : List (List Row)) → together a ([] ∷ []) ≡ a
together_one [] = refl
together_one (x ∷ a) = λ j. append-nil x j ∷ together_one a j

one_together : (a : List (List Row)) → map (λ (more : List Row). [] ++ more) a ≡ a
one_together [] = refl
one_together (x ∷ a) = ap (λ rest. x ∷ rest) (one_together a)

product_more : (all : List (List (List Row))) (last : List (List Row)) → product (all ++ last ∷ []) ≡ together (product all) last
product_more [] last = together_one last ∙ (sym (one_together last) ∙ sym (append-nil (map (λ (more : List Row). [] ++ more) last)))
product_more (first ∷ all) last = ap (together first) (product_more all last) ∙ together_assoc first (product all) last

together_none : (a : List (List Row)) → together a [] ≡ []
together_none [] = refl
together_none (x ∷ a) = together_none a

starts_after : (first : List Row) (more : List (List Row)) → map (λ (rows : List Row). fold started (starts first) rows) more
    ≡ map starts (map (λ (rows : List Row). first ++ rows) more)
starts_after first [] = refl
starts_after first (rows ∷ more) = λ j. sym (fold-append started (Kept []) first rows) j ∷ starts_after first more j

pub each_with_is : (firsts more : List (List Row)) → each_with (map starts firsts) more ≡ map starts (together firsts more)
each_with_is [] more = refl
each_with_is (first ∷ firsts) more =
    (λ j. starts_after first more j ++ each_with_is firsts more j)
    ∙ sym (map-append starts (map (λ (rows : List Row). first ++ rows) more) (together firsts more))

pub capped_none : (n : ℕ) → capped n ≡ 0 → n ≡ 0
unfolding capped
capped_none n h = omega arith

pub capped_some : (n : ℕ) → (capped (suc n) == 0) ≡ false
capped_some n = ne_eqb (capped (suc n)) 0 (λ e. let f : suc n ≡ 0 = capped_none (suc n) e in omega (arith, f))

at_least : (a b : ℕ) → 64 < a → 64 < a * suc b
at_least a b h = let e : a * suc b ≡ a + a * b = omega arith in omega arith

many_more : (firsts more : List (List Row)) → 64 < length firsts → many_with (capped (length firsts)) (capped (length more)) ≡ kept_of (together firsts more)
many_more firsts [] h =
    ap (λ n. many_with (capped (length firsts)) n) (sym none_capped) ∙ ap kept_of (sym (together_none firsts))
many_more firsts (rows ∷ more) h =
    let all = rows ∷ more in
    let long : length (together firsts all) ≡ length firsts * suc (length more) = together_length firsts all in
    cond-false (capped (suc (length more)) == 0) _ _ (capped_some (length more))
    ∙ (ap TooMany (capped_both (length firsts) (suc (length more)) ∙ ap capped (sym long))
    ∙ sym (cond-true (nat_lt 64 (length (together firsts all))) _ _ (lt-ltb 64 (length (together firsts all)) (let l = at_least (length firsts)
    (length more) h in omega arith))))

listed_more : (firsts more : List (List Row)) → listed_with (map starts firsts) more ≡ kept_of (together firsts more)
listed_more firsts more =
    let long : length (map starts firsts) * length more ≡ length (together firsts more) = ap (λ n. n * length more) (length-map firsts starts) ∙
    sym (together_length firsts more) in
    λ j. if nat_lt 64 (long j) then TooMany (capped (long j)) else Listed (each_with_is firsts more j)

kept_more : (firsts : List (List Row)) (choice : Choice) (t : Bool) → nat_lt 64 (length firsts) ≡ t →
    with_choice (if t then TooMany (capped (length firsts)) else Listed (map starts firsts)) (Some choice)
    ≡ kept_of (together firsts (alternatives false choice))
kept_more firsts choice true e = many_more firsts (alternatives false choice) (ltb-true 64 (length firsts) e)
kept_more firsts choice false e = listed_more firsts (alternatives false choice)

alternatives_more : (o : Option (List Choice)) (p : Option Choice) →
    with_choice (alternatives_of o) p ≡ alternatives_of (then_do o (λ choices. then_do p (λ choice. Some (choices ++ choice ∷ []))))
alternatives_more None None = refl
alternatives_more None (Some choice) = refl
alternatives_more (Some choices) None = refl
alternatives_more (Some choices) (Some choice) =
    kept_more (product (map (alternatives false) choices)) choice (nat_lt 64 (length (product (map (alternatives false) choices)))) refl
    ∙ ap kept_of (sym (ap product (map-append (alternatives false) choices (choice ∷ [])) ∙
    product_more (map (alternatives false) choices) (alternatives false choice)))

-- what is kept as a fact is pushed
pub next_is : (level : Level) (fact : Con) (atoms : List Atom) (choice : Option Choice) (more : Alternatives) →
    atoms ≡ fold with_atom level.atoms (variables_in fact) → choice ≡ choice_of atoms fact true → more ≡ with_choice level.alternatives choice →
    (facts : List Con) → level ≡ level_of facts → record { atoms = atoms; alternatives = more } ≡ level_of (facts ++ fact ∷ [])
next_is level fact atoms choice more found chosen made facts kept =
    let wide : List Atom = fold with_atom (atoms_of facts) (variables_in fact) in
    let variables : atoms ≡ wide = found ∙ ap (λ (l : Level). fold with_atom l.atoms (variables_in fact)) kept in
    let grown : more ≡ alternatives_of (choices_of wide (facts ++ fact ∷ [])) =
    made
    ∙ ((λ j. with_choice ((kept j).alternatives) ((chosen ∙ ap (λ a. choice_of a fact true) variables) j))
    ∙ (alternatives_more (choices_of (atoms_of facts) facts) (choice_of wide fact true)
    ∙ (ap (λ o. alternatives_of (then_do o (λ choices. then_do (choice_of wide fact true) (λ c. Some (choices ++ c ∷ []))))) (sym (choices_wider facts
    (variables_in fact)))
    ∙ ap alternatives_of (sym (all_of_more (λ (f : Con). choice_of wide f true) facts fact))))) in
    (λ j. record { atoms = variables j; alternatives = grown j })
    ∙ ap (λ (a : List Atom). record { atoms = a; alternatives = alternatives_of (choices_of a (facts ++ fact ∷ [])) }) (sym (atoms_more facts fact))

-- ---- counts

capped_one : (x : ℕ) → capped (capped x * 1) ≡ capped x
unfolding capped
capped_one x = omega arith

capped_right : (a b : ℕ) → capped (a * capped b) ≡ capped (a * b)
capped_right a b = sym (capped_one (a * capped b)) ∙ (capped_product a b 1 ∙ (let e : a * (b * 1) ≡ a * b = omega arith in ap capped e))

pub product_is : (a b n total : ℕ) → n ≡ capped b → total ≡ min (a * n) (2 ^ 64 - 1) → total ≡ capped (a * b)
product_is a b n total e p = p ∙ (sym (capped_is (a * n)) ∙ (ap (λ k. capped (a * k)) e ∙ capped_right a b))

pub above : (n total : ℕ) → total ≡ capped n → 64 < total → 64 < n
unfolding capped
above n total e h = omega arith

pub not_above : (n total : ℕ) → total ≡ capped n → total ≤ 64 → n ≤ 64
unfolding capped
not_above n total e h = omega arith

pub many_is : (total more r : ℕ) → (more ≡ 0 → ⊥) → r ≡ min (total * more) (2 ^ 64 - 1) → TooMany r ≡ many_with total more
many_is total more r some e = sym (cond-false (more == 0) _ _ (ne_eqb more 0 some) ∙ ap TooMany (capped_is (total * more) ∙ sym e))

each_length : (firsts : List Starts) (more : List (List Row)) → length (each_with firsts more) ≡ length firsts * length more
each_length [] more = omega arith
each_length (s ∷ firsts) more =
    length-append (map (λ (rows : List Row). fold started s rows) more) (each_with firsts more)
    ∙ (λ j. length-map more (λ (rows : List Row). fold started s rows) j + each_length firsts more j)
    ∙ omega arith

module _ (firsts : List Starts) (more : List (List Row)) (n total : ℕ) (counted : n ≡ capped (length more)) (times : total ≡ min (length firsts * n) (2
    ^ 64 - 1)) where
  pub listed_past : 64 < total → TooMany total ≡ listed_with firsts more
  listed_past h =
      ap TooMany (product_is (length firsts) (length more) n total counted times)
      ∙ sym (cond-true (nat_lt 64 (length firsts * length more)) _ _ (lt-ltb 64 (length firsts * length more) (above _ total (product_is
      (length firsts) (length more) n total counted times) h)))

  pub listed_all : total ≤ 64 → (all : List Starts) → all ≡ each_with firsts more → Listed all ≡ listed_with firsts more
  listed_all h all e =
      ap Listed e
      ∙ sym (cond-false (nat_lt 64 (length firsts * length more)) _ _ (le-ltb 64 (length firsts * length more) (not_above _ total (product_is
      (length firsts) (length more) n total counted times) h)))

  pub listed_none : total ≡ 0 → [] ≡ each_with firsts more
  listed_none h =
      sym (nil_from_length (each_with firsts more) (each_length firsts more ∙ capped_none (length firsts * length more) (sym (product_is
      (length firsts) (length more) n total counted times) ∙ h)))
