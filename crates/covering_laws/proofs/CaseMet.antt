-- Where the cases of what is made are tested, one is present, which has the value and is right.
use Rattle.std.proofs.Common.{◌≡◌, ◌∙◌, ◌<◌, ◌≤◌, ◌⊎◌, ap, sym, refl, subst, ℕ, zero, suc, nat_eq, ℤ, Bool, true, false, not, ◌&&◌, ◌||◌, inl, inr, arith}
use Rattle.std.proofs.Common.{List, [], ◌∷◌, ◌++◌, length, Option, Some}
use Rattle.std.specs.Prelude.{nat_lt}
use Rattle.std.specs.List.{list_all}
use Rattle.std.proofs.lemmas.Bool.{and_parts}
use Rattle.std.proofs.lemmas.Bool.Decides.{Decides-eqb, Decides-ltb}
use Rattle.sail_types.specs.Numbers.{Positive}
use Rattle.sail_types.specs.declared.table.Types.{Types}
use Rattle.sail_types.specs.declared.values.Value.{Value}
use Rattle.value_indices.specs.declared.indices.Indices.{Indices}
use Rattle.value_indices.specs.declared.notes.Fact.{Fact}
use Rattle.value_indices.specs.declared.notes.Fact.TheVariants as Y
use Rattle.value_indices.specs.declared.notes.Made.{Made}
use Rattle.value_laws.specs.Belonging.{Integers, has, standing}
use Rattle.value_laws.proofs.Basics.{no}
use Rattle.size_values.specs.declared.constants.Picked.{Picked}
use Rattle.size_values.specs.Numbers.{known_of, with_picked}
use Rattle.size_splits.specs.Sizing.{Sizing}
use Rattle.split_laws.specs.Counted.{Agrees, AreTaken, IsIn}
use Rattle.split_laws.proofs.Basics.{either, or_cases}
use Rattle.split_laws.proofs.Combinations.{at_agrees, picked_agrees}
use Rattle.monomorph.specs.Reading.{Inside, under}
use Rattle.checked_meaning.specs.Checked.{Noted}
use Rattle.checked_meaning.specs.Fits.{AllFit, has_sizes}
use Rattle.sized_trees.specs.declared.combinations.Choice.{Choice}
use Rattle.sized_trees.specs.Bodies.{made_choices, node_cases, value_at}
use Rattle.sized_trees.specs.Cases.{case_of, sized_under}
use Rattle.sized_trees.specs.Combinations.{is_given, picked_by}
use Rattle.sized_meanings.specs.Noting.{noted_by}
use Rattle.sized_meanings.specs.Laws.{AreNoted}
use Rattle.sized_meanings.specs.Present.{noted_with, present_case}
use Rattle.soundness_steps.specs.Works.{Work}
use Rattle.soundness_steps.specs.Noted.{MadeAs, is_made, known, sized}
use Rattle.case_laws.specs.Cases as C
use Rattle.case_laws.proofs.Present.{present_cases, present_choices}
use Rattle.noting_laws.specs.Noting.{IsNamed}
use Rattle.noting_laws.proofs.Noted as Behind
use Rattle.told_sizes.specs.Passing.{value_passes}
use Rattle.exact_sizes.specs.Laws.{More, Stands}
use Rattle.exact_sizes.proofs.Had.{values_fit}
use Rattle.exact_sizes.proofs.Known.{none}
use Rattle.exact_sizes.proofs.Standing.{sizes_stand}
use Rattle.tabled_cores.specs.Notes.{choice_noted, choices_pass, facts_own, gives_own, is_in_force, made_alone, made_noted, made_passes, made_tells}
use Rattle.tabled_cores.specs.Notes.{made_tested, node_passes, values_pass}
use Rattle.covering_laws.proofs.Opened.{opened_as, opens_so}
use Rattle.covering_laws.proofs.Places.{all_in}
use Rattle.covering_laws.proofs.SizesNamed.{sizes_named}

-- ---- variables of a body

pub given_own : (r : Inside) (facts : List Fact) → list_all (gives_own r) facts ≡ true → (w : ℕ) → is_given facts w ≡ true → w < r.variables
given_own r [] h w e = no e
given_own r (Y.Holds c ∷ facts) h w e = given_own r facts h w e
given_own r (Y.IsGiven u ∷ facts) h w e =
    let p = and_parts (nat_lt u r.variables) (list_all (gives_own r) facts) h in
    either (or_cases (nat_eq w u) (is_given facts w) e)
    (λ q. subst (λ (n : ℕ). n < r.variables) (sym ((Decides-eqb w u).0 q)) ((Decides-ltb u r.variables).0 p.0)) (λ q. given_own r facts p.1 w q)

known_before : (zs : List (Option ℤ)) (w : ℕ) (z : ℤ) → known_of zs w ≡ Some z → w < length zs
known_before [] w z e = none e
known_before (o ∷ zs) zero z e = omega arith
known_before (o ∷ zs) (suc w) z e = let less = known_before zs w z e in omega (arith, less)

not_less : (n m : ℕ) → not (nat_lt n m) ≡ true → m ≤ n
not_less n m h = by (nat_lt n m) refl h
  where
    by : (b : Bool) → nat_lt n m ≡ b → not b ≡ true → m ≤ n
    by true e k = no k
    by false e k = let less : n < m → ⊥ = λ l. no (sym e ∙ (Decides-ltb n m).1 l) in omega (arith, less)

known_own : (zs : List (Option ℤ)) (n : ℕ) → not (nat_lt n (length zs)) ≡ true → (w : ℕ) (z : ℤ) → known_of zs w ≡ Some z → w < n
known_own zs n h w z e = let less = known_before zs w z e in let most = not_less n (length zs) h in omega (arith, less, most)

taken_behind : (f : Integers) (qs ps : List Picked) → AreTaken f (qs ++ ps) → AreTaken f ps
taken_behind f [] ps t = t
taken_behind f (q ∷ qs) ps t = taken_behind f qs ps t.1

-- ---- a case

-- numbers that are in force are noted
in_force : (facts : List Fact) (noted : Noted) (g : Integers) → ((w : ℕ) → is_given facts w ≡ true → noted w ≡ Some (g w)) → (ps : List Picked)
    → list_all (is_in_force facts) ps ≡ true → AreTaken g ps → AreNoted noted ps
in_force facts noted g there [] h t = tt
in_force facts noted g there (p ∷ ps) h t =
    let both = and_parts (is_in_force facts p) (list_all (is_in_force facts) ps) h in
    (there p.variable both.0 ∙ ap (λ (z : ℤ). Some z) t.0, in_force facts noted g there ps both.1 t.1)

-- by whichever numbers it is chosen
case_there : (given : Bool) (r : Inside) (facts : List Fact) (operands : List Indices) (made : Made) (c : Choice) (noted : Noted) (v : Value)
    → C.has_all_cases r facts operands made ≡ true → IsIn c (made_choices r facts made)
    → present_case (noted_by (value_at r made) v noted) (node_cases r facts operands made) ≡ Some (case_of r operands (value_at r made) c)
    → (made_noted r facts made ≡ true → AreNoted noted (picked_by c)) → (given || made_noted r facts made) ≡ true
    → present_case (noted_with given (value_at r made) v noted) (node_cases r facts operands made) ≡ Some (case_of r operands (value_at r made) c)
case_there true r facts operands made c noted v whole is_in there are h = there
case_there false r facts operands made c noted v whole is_in there are h = present_choices r facts operands made c noted whole is_in (are h)

module _ (given : Bool) (types : Types) (past : Positive) (x : Work) (own_fit : AllFit types x.types x.own) (sizing : Sizing) (zs : List (Option ℤ))
    (variables : ℕ) (names : List (List ℕ)) (split : List ℕ) where
  abbrev r : Inside
  r = record { types = types; sizing = sizing; numbers = zs; own = x.own; variables = variables; names = names; split = split }

  stands_at : (g : Integers) (ps : List Picked) → Agrees (known_of zs) g → AreTaken g ps → Stands (under r ps) g
  stands_at g ps agrees are = at_agrees g (with_picked (known_of zs) ps) (picked_agrees g (known_of zs) agrees ps are)

  -- the numbers that a value gives are noted, and what was noted still is
  behind_value : (g : Integers) (i : Indices) (v : Value) (noted : Noted) → has types (standing past g) x.types i v ≡ true → (w : ℕ)
      → (noted w ≡ Some (g w)) ⊎ IsNamed w (i ∷ []) → noted_by i v noted w ≡ Some (g w)
  behind_value g i v noted held w k = Behind.all_noted types past g x.types (i ∷ []) v noted w (λ j a n. itself j a) k
    where
      itself : (j : Indices) → IsIn j (i ∷ []) → has types (standing past g) x.types j v ≡ true
      itself j (inl e) = subst (λ (m : Indices). has types (standing past g) x.types m v ≡ true) (sym e) held
      itself j (inr k) = absurd k

  pub record IsCase (facts : List Fact) (operands : List Indices) (made : Made) (f : Integers) (noted : Noted) (v : Value) : Type 0 where
    pub choice : Choice
    pub before : AreTaken f choice.noted
    pub operands_pass : values_pass r choice.noted operands ≡ true
    pub is_there : present_case (noted_with given (value_at r made) v noted) (node_cases r facts operands made)
        ≡ Some (case_of r operands (value_at r made) choice)
    pub fits : has_sizes types v (sized_under r (picked_by choice) (value_at r made)) ≡ true
    pub is_right : MadeAs types past x f made v (sized_under r (picked_by choice) (value_at r made))

  pub case_met : (facts : List Fact) (operands : List Indices) (made : Made) (f : Integers) (noted : Noted) (v : Value)
      → made_tested given r facts operands made ≡ true → C.IsSo past f r facts noted → is_made types past x f made v ≡ true
      → IsCase facts operands made f noted v
  case_met facts operands made f noted v h there is =
      let i = value_at r made in
      let both = and_parts (choices_pass r facts operands made) (given || made_noted r facts made) h in
      let tests = and_parts (C.has_all_cases r facts operands made)
      ((facts_own r facts && made_alone r made) && list_all (node_passes r operands made) (made_choices r facts made)) both.0 in
      let rest = and_parts (facts_own r facts && made_alone r made) (list_all (node_passes r operands made) (made_choices r facts made)) tests.1 in
      let alone = and_parts (facts_own r facts) (made_alone r made) rest.0 in
      let before = and_parts (not (nat_lt variables (length zs))) (list_all (gives_own r) facts) alone.0 in
      let o = opens_so types past x r f made v alone.1 is in
      let g : Integers = o.integers in
      let later : Noted = noted_by i v noted in
      let given_before : (w : ℕ) → is_given facts w ≡ true → w < variables = λ w e. given_own r facts before.1 w e in
      let still : (w : ℕ) → is_given facts w ≡ true → later w ≡ Some (f w) = λ w e.
      let same = o.same w (given_before w e) in
      behind_value g i v noted o.held w (inl (there.given w e ∙ ap (λ (z : ℤ). Some z) same)) ∙ ap (λ (z : ℤ). Some z) (sym same) in
      let so_later : C.IsSo past f r facts later = record { known = there.known; true_there = there.true_there; given = still } in
      let opened : C.IsOpened past f g r facts made later = record {
        known = λ w z e. sym (o.same w (known_own zs variables before.0 w z e)) ∙ there.known w z e;
        same = o.same;
        true_there = o.true_there;
        told = λ w e. behind_value g i v noted o.held w (inr (inl (sizes_named types i w e)));
        given_before = given_before;
      } in
      let at = present_cases past f g r facts later operands made so_later opened tests.0 in
      let own = all_in (node_passes r operands made) (made_choices r facts made) at.choice rest.1 at.is_in in
      let p = and_parts (values_pass r at.choice.noted operands) (made_passes r made at.choice) own in
      let of = under r (picked_by at.choice) in
      let q = and_parts (value_passes types (length x.own) of i) (made_tells r made at.choice.noted) p.1 in
      let stands_all : Stands of g = stands_at g (picked_by at.choice) opened.known at.are in
      let more : More of (known g) = λ w z e. ap (λ (y : ℤ). Some y) (stands_all w z e) in
      let at_g : sized_under r (picked_by at.choice) i ≡ sized types x.own g i = (sizes_stand types x.own (length x.own) of (known g) more).0 i q.0 in
      record {
        choice = at.choice;
        before = at.before;
        operands_pass = p.0;
        is_there = case_there given r facts operands made at.choice noted v tests.0 at.is_in at.is_there (λ n. in_force facts noted g
            (λ w e. there.given w e ∙ ap (λ (z : ℤ). Some z) (o.same w (given_before w e))) (picked_by at.choice)
            (all_in (choice_noted facts) (made_choices r facts made) at.choice n at.is_in) at.are) both.1;
        fits = ap (has_sizes types v) at_g ∙ (values_fit types past g x.types x.own own_fit of stands_all).0 i v q.0 o.held;
        is_right = subst (MadeAs types past x f made v) (sym at_g)
            (opened_as types past x r refl refl f made v alone.1 is at.choice.noted (stands_at f at.choice.noted there.known at.before)
            (stands_at g at.choice.noted opened.known (taken_behind g at.choice.bound at.choice.noted at.are)) q.1);
      }
