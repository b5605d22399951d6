-- The case of the present numbers is present, and so is where a call leads.
use Rattle.std.proofs.Common.{◌≡◌, ◌∙◌, ◌<◌, ap, sym, refl, subst, nat_eq, Bool, true, false, ◌||◌, inl, inr, ℕ, List, [], ◌∷◌, ◌++◌, append-nil}
use Rattle.std.specs.Prelude.{ℤ, nat_lt, Option, Some, None, option_map, if◌then◌else◌}
use Rattle.std.specs.List.{list_any}
use Rattle.std.proofs.lemmas.Bool.Decides.{Decides-eqb, Decides-ltb}
use Rattle.sail_types.specs.Places.{only}
use Rattle.sail_types.specs.Numbers.{Positive}
use Rattle.sail_types.specs.declared.numbers.Index.{Index}
use Rattle.value_indices.specs.declared.indices.Indices.{Indices}
use Rattle.value_indices.specs.declared.indices.Reading.{Reading}
use Rattle.value_indices.specs.declared.notes.Fact.{Fact}
use Rattle.value_indices.specs.declared.notes.Made.{Made}
use Rattle.value_indices.specs.Steps.{conditions}
use Rattle.size_values.specs.declared.constants.Picked.{Picked}
use Rattle.size_values.specs.Numbers.{known_of}
use Rattle.size_splits.specs.Alone.{sizes_given}
use Rattle.size_splits.specs.Sizing.{made_facts}
use Rattle.size_splits.specs.Splits.{counted}
use Rattle.value_laws.specs.Belonging.{Integers, standing}
use Rattle.value_laws.specs.Known.{AllTrue}
use Rattle.value_laws.proofs.Basics.{no}
use Rattle.split_laws.specs.Counted.{AreTaken, IsIn}
use Rattle.split_laws.proofs.Basics.{either, in_back, in_front, in_mapped, none, or_cases}
use Rattle.split_laws.proofs.Combinations.{present_counted}
use Rattle.sized_nodes.specs.declared.trees.Instance.{Instance}
use Rattle.monomorph.specs.Reading.{Inside, instance_of, under}
use Rattle.checked_meaning.specs.Checked.{Noted}
use Rattle.sized_trees.specs.declared.combinations.Choice.{Choice}
use Rattle.sized_nodes.specs.declared.trees.Case.{Case}
use Rattle.sized_nodes.specs.declared.trees.Lead.{Lead}
use Rattle.sized_trees.specs.Bodies.{made_choices, value_at}
use Rattle.sized_trees.specs.Cases.{case_of, case_under, case_within, cases_under, lead_to, lead_under, lead_within, leads_under, one_or_none, place_in}
use Rattle.sized_trees.specs.Combinations.{bound_choices, choice, combinations_at, is_given, is_told, noted_choices, picked_by, picked_where}
use Rattle.sized_trees.specs.Combinations.{those_before, those_from, where_so, with_bound, with_each}
use Rattle.sized_nodes.specs.Asked.{CaseAsks, Each, LeadAsks, asked}
use Rattle.sized_trees.proofs.Asked.{Asks, asked_at, asked_bound, asked_made, bound_ask, cases_ask, leads_ask, made_asks, place_asks}
use Rattle.sized_meanings.specs.Laws.{AreNoted}
use Rattle.sized_meanings.specs.Present.{present_case, present_lead}
use Rattle.case_laws.specs.Cases.{IsOpened, IsSo, PresentCases, PresentChoices, PresentLeads}
use Rattle.case_laws.proofs.Taken.{are_noted, both_noted, both_same, both_taken, once_in, still_taken, taken_too}
use Rattle.case_laws.proofs.Under.{all_under, present_under, some_alike}

-- ---- the combination of the present numbers

pub record IsAt (r : Inside) (facts : List Fact) (noted : Noted) (f : Integers) : Type 0 where
  pub picked : List Picked
  pub is_there : IsIn picked (combinations_at r facts)
  pub are : AreTaken f picked
  pub are_there : AreNoted noted picked

at_place : (past : Positive) (f : Integers) (r : Inside) (facts : List Fact) (noted : Noted) → IsSo past f r facts noted → IsAt r facts noted f
at_place past f r facts noted so =
    let k = known_of r.numbers in
    let both = subst (λ (fs : List Fact). AllTrue (standing past f) (conditions fs)) (sym (append-nil facts)) so.true_there in
    let found = present_counted past f k r.split facts [] so.known so.true_there both in
    record {
      picked = picked_where (is_given facts) found.taken;
      is_there = once_in (is_given facts) [] (counted k r.split facts []) found.taken found.is_there;
      are = still_taken (is_given facts) f found.taken found.are;
      are_there = are_noted (is_given facts) noted f so.given found.taken found.are;
    }

-- ---- cases

only_is : (b : Bool) (x c : Case) → only b x ≡ Some c → c ≡ x
only_is true x c h = sym (some_alike x c h)
only_is false x c h = none h

module _ (r : Inside) (operands : List Indices) (i : Indices) where
  case_is : (k : Choice) (c : Case) → case_under r operands i k ≡ Some c → c ≡ case_of r operands i k
  case_is k c h = only_is (case_within r operands i k) (case_of r operands i k) c h

  case_asks : (k : Choice) (c : Case) → case_under r operands i k ≡ Some c → c.picked ≡ picked_by k
  case_asks k c h = ap (λ (d : Case). d.picked) (case_is k c h)

  cases_as : (ks : List Choice) → cases_under r operands i ks ≡ all_under (case_under r operands i) ks
  cases_as [] = refl
  cases_as (k ∷ ks) = ap (λ (l : List Case). one_or_none (case_under r operands i k) ++ l) (cases_as ks)

-- ---- choices

choice_in_each : (ps qs : List Picked) (bound : List (List Picked)) → IsIn qs bound → IsIn (choice ps qs) (with_bound bound ps)
choice_in_each ps qs bound h = in_mapped (choice ps) qs bound h

choice_in : (ps qs : List Picked) (bound pss : List (List Picked)) → IsIn qs bound → IsIn ps pss → IsIn (choice ps qs) (with_each bound pss)
choice_in ps qs bound [] q p = absurd p
choice_in ps qs bound (us ∷ pss) q (inl e) =
    in_front (choice ps qs) (with_bound bound us) (with_each bound pss)
    (subst (λ (l : List Picked). IsIn (choice ps qs) (with_bound bound l)) e (choice_in_each ps qs bound q))
choice_in ps qs bound (us ∷ pss) q (inr p) = in_back (choice ps qs) (with_bound bound us) (with_each bound pss) (choice_in ps qs bound pss q p)

either_in : {A B : Type 0} (x : A) (xs ys : List A) → IsIn x (xs ++ ys) → (IsIn x xs → B) → (IsIn x ys → B) → B
either_in x [] ys h front back = back h
either_in x (y ∷ xs) ys (inl e) front back = front (inl e)
either_in x (y ∷ xs) ys (inr h) front back = either_in x xs ys h (λ k. front (inr k)) back

-- what a choice has of bound variables is one of these
bound_with : (c : Choice) (bound : List (List Picked)) (ps : List Picked) → IsIn c (with_bound bound ps) → IsIn c.bound bound
bound_with c [] ps h = absurd h
bound_with c (qs ∷ bound) ps (inl e) = inl (ap (λ (d : Choice). d.bound) e)
bound_with c (qs ∷ bound) ps (inr h) = inr (bound_with c bound ps h)

bound_in : (c : Choice) (bound pss : List (List Picked)) → IsIn c (with_each bound pss) → IsIn c.bound bound
bound_in c bound [] h = absurd h
bound_in c bound (ps ∷ pss) h =
    either_in c (with_bound bound ps) (with_each bound pss) h (λ k. bound_with c bound ps k) (λ k. bound_in c bound pss k)

asks_in : (ws : List ℕ) (bound : List (List Picked)) → Each (Asks ws) bound → (qs : List Picked) → IsIn qs bound → asked qs ≡ ws
asks_in ws [] e qs h = absurd h
asks_in ws (us ∷ bound) e qs (inl same) = ap asked same ∙ e.0
asks_in ws (us ∷ bound) e qs (inr h) = asks_in ws bound e.1 qs h

choices_differ : (ws : List ℕ) (bound pss : List (List Picked)) → Each (Asks ws) bound → (c d : Choice) → IsIn c (with_each bound pss)
    → IsIn d (with_each bound pss) → picked_by c ≡ picked_by d → c ≡ d
choices_differ ws bound pss e c d h k same =
    let alike = asks_in ws bound e c.bound (bound_in c bound pss h) ∙ sym (asks_in ws bound e d.bound (bound_in d bound pss k)) in
    let both = both_same c.bound c.noted d.bound d.noted alike same in
    λ j. choice (both.1 j) (both.0 j)

-- ---- the choice of the present numbers

pub record IsChosen (r : Inside) (facts : List Fact) (made : Made) (noted : Noted) (f g : Integers) : Type 0 where
  pub choice : Choice
  pub is_there : IsIn choice (made_choices r facts made)
  pub before : AreTaken f choice.noted
  pub are : AreTaken g (picked_by choice)
  pub are_there : AreNoted noted (picked_by choice)

or_right : (a b : Bool) → b ≡ true → (a || b) ≡ true
or_right true b h = refl
or_right false b h = h

there_more : (n v w : ℕ) (own : List ℕ) (b : Bool) → nat_lt w n ≡ b
    → (list_any (nat_eq v) (those_before n own) ≡ true → (list_any (nat_eq v) own ≡ true) × (v < n))
    → list_any (nat_eq v) (where_so b w ++ those_before n own) ≡ true → ((nat_eq v w || list_any (nat_eq v) own) ≡ true) × (v < n)
there_more n v w own true e more h =
    either (or_cases (nat_eq v w) (list_any (nat_eq v) (those_before n own)) h)
    (λ q. (ap (λ (b : Bool). b || list_any (nat_eq v) own) q, subst (λ (u : ℕ). u < n) (sym ((Decides-eqb v w).0 q)) ((Decides-ltb w n).0 e)))
    (λ q. let there = more q in (or_right (nat_eq v w) (list_any (nat_eq v) own) there.0, there.1))
there_more n v w own false e more h = let there = more h in (or_right (nat_eq v w) (list_any (nat_eq v) own) there.0, there.1)

those_there : (n : ℕ) (own : List ℕ) (v : ℕ) → list_any (nat_eq v) (those_before n own) ≡ true → (list_any (nat_eq v) own ≡ true) × (v < n)
those_there n [] v h = no h
those_there n (w ∷ own) v h = there_more n v w own (nat_lt w n) refl (those_there n own v) h

chosen_at : (past : Positive) (f g : Integers) (r : Inside) (facts : List Fact) (made : Made) (noted : Noted) → IsSo past f r facts noted
    → IsOpened past f g r facts made noted → IsChosen r facts made noted f g
chosen_at past f g r facts made noted so o =
    let k = known_of r.numbers in
    let n = r.variables in
    let own = sizes_given r.types (value_at r made) in
    let opening = made_facts n made None in
    let told : ℕ → Bool = is_told facts (those_before n own) in
    let bound : ℕ → Bool = is_told [] own in
    let same_there : (v : ℕ) → told v ≡ true → f v ≡ g v = λ v e.
    either (or_cases (list_any (nat_eq v) (those_before n own)) (is_given facts v) e) (λ h. o.same v (those_there n own v h).1)
    (λ h. o.same v (o.given_before v h)) in
    let noted_before : (v : ℕ) → told v ≡ true → noted v ≡ Some (f v) = λ v e.
    either (or_cases (list_any (nat_eq v) (those_before n own)) (is_given facts v) e)
    (λ h. let t = those_there n own v h in o.told v t.0 ∙ ap (λ (z : ℤ). Some z) (sym (o.same v t.1)))
    (λ h. so.given v h) in
    let noted_bound : (v : ℕ) → bound v ≡ true → noted v ≡ Some (g v) = λ v e.
    either (or_cases (list_any (nat_eq v) own) (is_given [] v) e) (λ h. o.told v h) (λ h. no h) in
    let both = subst (λ (fs : List Fact). AllTrue (standing past f) (conditions fs)) (sym (append-nil facts)) so.true_there in
    let first = present_counted past f k r.split facts [] so.known so.true_there both in
    let second = present_counted past g k (those_from n own) [] opening o.known tt o.true_there in
    let ps = picked_where told first.taken in
    let qs = picked_where bound second.taken in
    record {
      choice = choice ps qs;
      is_there = choice_in ps qs (bound_choices r opening own) (noted_choices r facts own)
          (once_in bound [] (counted k (those_from n own) [] opening) second.taken second.is_there)
          (once_in told [] (counted k r.split facts []) first.taken first.is_there);
      before = still_taken told f first.taken first.are;
      are = both_taken g qs ps (still_taken bound g second.taken second.are) (taken_too told f g same_there first.taken first.are);
      are_there = both_noted noted qs ps (are_noted bound noted g noted_bound second.taken second.are)
          (are_noted told noted f noted_before first.taken first.are);
    }

pub present_choices : PresentChoices
present_choices r facts operands made c noted whole there are =
    let i = value_at r made in
    let ks = made_choices r facts made in
    let own = sizes_given r.types i in
    let opening = made_facts r.variables made None in
    let vs = asked_made r [] facts made in
    let alike = subst (λ (l : List Case). Each (CaseAsks vs) l) (cases_as r operands i ks) (cases_ask r [] operands i vs ks (made_asks r [] facts made)) in
    let found = present_under picked_by (λ (d : Case). d.picked) (case_under r operands i) (case_asks r operands i) noted ks c vs
    (λ j h e. choices_differ (asked_bound r [] opening own) (bound_choices r opening own) (noted_choices r facts own) (bound_ask r [] opening own) j c h
    there e) alike whole there are in
    ap (present_case noted) (cases_as r operands i ks) ∙ (found.is_there ∙ ap (λ (d : Case). Some d) (case_is r operands i c found.it found.is))

pub present_cases : PresentCases
present_cases past f g r facts noted operands made so o whole =
    let at = chosen_at past f g r facts made noted so o in
    record {
      choice = at.choice;
      is_in = at.is_there;
      before = at.before;
      are = at.are;
      is_there = present_choices r facts operands made at.choice noted whole at.is_there at.are_there;
    }

-- ---- leads

module _ (r : Inside) (list : List Instance) (operands : List Indices) (g : ℕ) (js : List Index) (qs : List Reading) where
  lead_where : (b : Bool) (o : Option ℕ) (ps : List Picked) (l : Lead) → (if b then option_map (lead_to r operands ps) o else None) ≡ Some l → l.picked ≡ ps
  lead_where true None ps l h = none h
  lead_where true (Some place) ps l h = ap (λ (d : Lead). d.picked) (sym (some_alike (lead_to r operands ps place) l h))
  lead_where false o ps l h = none h

  lead_asks : (ps : List Picked) (l : Lead) → lead_under r list operands g js qs ps ≡ Some l → l.picked ≡ ps
  lead_asks ps l h = lead_where (lead_within r operands g js qs ps) (place_in list (instance_of r (under r ps) g js qs)) ps l h

  leads_as : (pss : List (List Picked)) → leads_under r list operands g js qs pss ≡ all_under (lead_under r list operands g js qs) pss
  leads_as [] = refl
  leads_as (ps ∷ pss) = ap (λ (l : List Lead). one_or_none (lead_under r list operands g js qs ps) ++ l) (leads_as pss)

pub present_leads : PresentLeads
present_leads past f r list facts noted operands g js qs so whole =
    let at = at_place past f r facts noted so in
    let pss = combinations_at r facts in
    let vs = asked_at r list facts in
    let alike = subst (λ (l : List Lead). Each (LeadAsks vs) l) (leads_as r list operands g js qs pss)
    (leads_ask r list operands g js qs vs pss (place_asks r list facts)) in
    let found = present_under (λ (ps : List Picked). ps) (λ (l : Lead). l.picked) (lead_under r list operands g js qs) (lead_asks r list operands g js qs)
    noted pss at.picked vs (λ j h e. e) alike whole at.is_there at.are_there in
    record {
      picked = at.picked;
      is_in = at.is_there;
      are = at.are;
      lead = found.it;
      is = found.is;
      is_there = ap (present_lead noted) (leads_as r list operands g js qs pss) ∙ found.is_there;
    }
