-- A note that is tested is met by the cases of the nodes of its bodies.
use Rattle.std.proofs.Common.{◌≡◌, ◌∙◌, ◌≤◌, ap, sym, refl, subst, ℕ, suc, nat_eq, ℤ, pos, ◌≤ℤ◌, int_le, Bool, true, false, ◌&&◌}
use Rattle.std.proofs.Common.{◌||◌, inl, inr}
use Rattle.std.proofs.Common.{List, [], ◌∷◌, ◌++◌, map, length, slice_get, Option, Some, None, if◌then◌else◌, append-nil}
use Rattle.std.specs.Prelude.{option_map}
use Rattle.std.specs.List.{list_all}
use Rattle.std.proofs.lemmas.Bool.{and_parts}
use Rattle.std.proofs.lemmas.Bool.Decides.{Decides-eqb}
use Rattle.std.proofs.lemmas.List.{length-map}
use Rattle.sail_base.specs.declared.place.Place.{Place}
use Rattle.sail_types.specs.Belongs.{Reading as Closed}
use Rattle.sail_types.specs.Numbers.{number}
use Rattle.sail_types.specs.Places.{an_int, first, only}
use Rattle.sail_types.specs.Sums.{and_then}
use Rattle.sail_types.specs.declared.numbers.Index.{Index}
use Rattle.sail_types.specs.declared.numbers.Index.TheVariants as N
use Rattle.sail_types.specs.declared.numbers.Num.{Num}
use Rattle.sail_types.specs.declared.table.Types.{Types}
use Rattle.sail_types.specs.declared.values.Value.{Value}
use Rattle.sail_core.specs.declared.tree.Callee.{Callee}
use Rattle.sail_core.specs.declared.tree.Callee.TheVariants as D
use Rattle.value_indices.specs.Steps.{Note, goal_note, size_note, made_note, call_note, way_note, given_note, name_note, conditions}
use Rattle.value_indices.specs.declared.indices.Indices.{Indices, out-Indices}
use Rattle.value_indices.specs.declared.indices.Indices.TheOpen as W
use Rattle.value_indices.specs.declared.indices.Indices.TheOpen.{Indices-F}
use Rattle.value_indices.specs.declared.indices.Reading.{Reading}
use Rattle.value_indices.specs.declared.notes.Fact.{Fact}
use Rattle.value_indices.specs.declared.notes.Fact.TheVariants as Y
use Rattle.value_indices.specs.declared.notes.Made.{Made}
use Rattle.value_indices.specs.declared.notes.Made.TheVariants as Makes
use Rattle.value_laws.specs.Belonging.{Integers, standing, closed}
use Rattle.value_laws.specs.Known.{AllTrue, given_in}
use Rattle.value_laws.proofs.Basics.{no, two}
use Rattle.size_values.specs.declared.constants.Constant.{Constant}
use Rattle.size_values.specs.declared.constants.Picked.{Picked}
use Rattle.size_values.specs.declared.sized.Sized.{Sized}
use Rattle.size_values.specs.Numbers.{index_under, known_of, value_of, with_picked}
use Rattle.size_values.specs.Sized.{all_eq, integer_of, number_where, numbers_eq, reading_sized, value_sized}
use Rattle.size_values.proofs.Same.{all_differ}
use Rattle.size_splits.specs.Bodies.{Body}
use Rattle.size_splits.specs.Sizing.{Sizing, flags_of}
use Rattle.size_splits.specs.Splits.{counted}
use Rattle.split_laws.specs.Counted.{AreTaken, IsCounted, IsIn}
use Rattle.split_laws.specs.Counted as S
use Rattle.split_laws.proofs.Basics.{either, in_back, in_front, or_cases}
use Rattle.split_laws.proofs.Domains.{le_true}
use Rattle.split_laws.proofs.Combinations.{at_agrees, picked_agrees, present_counted}
use Rattle.sized_nodes.specs.declared.trees.Instance.{Instance}
use Rattle.monomorph.specs.Reading.{Inside, given, instance_of, under}
use Rattle.sail_core.specs.Nodes.{giver_eq}
use Rattle.sail_core.specs.Numbers.{Instance as Awaits}
use Rattle.sail_core.specs.declared.tree.Giver.{Giver}
use Rattle.sail_core.specs.declared.tree.Giver.TheVariants as By
use Rattle.checked_meaning.specs.Checked.{Cases, Noted}
use Rattle.sized_trees.specs.declared.combinations.Choice.{Choice}
use Rattle.sized_nodes.specs.declared.trees.Case.{Case}
use Rattle.sized_nodes.specs.declared.trees.Lead.{Lead}
use Rattle.sized_nodes.specs.declared.trees.NodeSizes.{NodeSizes}
use Rattle.sized_nodes.specs.declared.trees.NodeSizes.TheVariants as Z
use Rattle.sized_nodes.specs.declared.trees.SizedInstance.{SizedInstance}
use Rattle.sized_trees.specs.Bodies.{at_note, made_choices, node_cases, node_leads, value_at}
use Rattle.sized_trees.specs.Cases.{all_sized_under, case_of, case_under, case_within, cases_under, lead_found, lead_to, lead_under, lead_within, leads_under}
use Rattle.sized_trees.specs.Cases.{one_or_none, place_in, sized_under}
use Rattle.sized_trees.specs.Combinations.{combinations_at, is_given, picked_by}
use Rattle.sized_nodes.specs.Asked.{Each}
use Rattle.sized_trees.proofs.Each.{each_append}
use Rattle.checked_meaning.specs.Fits.{AllFit, has_sizes}
use Rattle.sized_meanings.specs.Noting.{noted_by_all, noted_by_each}
use Rattle.sized_meanings.specs.Present.{first_in, gives_at, gives_in, if_at, noted_with, present_case, present_lead}
use Rattle.sized_meanings.specs.Sized.{awaited_at, cases_by, led_by, led_in, made_by, makes_in, numbers_of}
use Rattle.soundness_steps.specs.Works.{Setting, Work, IsExact}
use Rattle.soundness_steps.specs.Noted.{EachNoted, HasNumbers, IsSo, known, sized, type_sized, variables_given, with_given}
use Rattle.soundness_steps.specs.Covers.{Agrees, AllAgree, AreSized, FormFits, IsMet, SizesFit, given_there}
use Rattle.note_laws.specs.Notes.{OfOthers}
use Rattle.noting_laws.proofs.Noted as Behind
use Rattle.case_laws.specs.Cases as C
use Rattle.case_laws.proofs.Present.{present_leads}
use Rattle.case_laws.proofs.Under.{present_is, some_alike}
use Rattle.told_sizes.specs.Passing.{reading_passes, value_passes}
use Rattle.told_sizes.specs.Exact.{is_exact_index, only_if}
use Rattle.exact_sizes.specs.Laws.{More, Stands}
use Rattle.exact_sizes.proofs.Equal.{all_itself, numbers_same}
use Rattle.exact_sizes.proofs.Had.{values_fit}
use Rattle.exact_sizes.proofs.Known.{none, exact_value, number_constant_is, number_stands, value_more}
use Rattle.exact_sizes.proofs.Standing.{sizes_stand}
use Rattle.node_counts.specs.Told.{NoteIn, are_alike, are_apart, is_apart}
use Rattle.covering_laws.specs.Tested.{agrees_there, all_nodes, form_in_limit, in_limit, inside}
use Rattle.node_counts.specs.Told.{note_in}
use Rattle.covering_laws.specs.Tested.{note_tested, size_passes}
use Rattle.tabled_cores.specs.Notes.{call_tested, function_tested, lead_passes, made_tested, numbers_pass, readings_pass}
use Rattle.tabled_cores.specs.Notes.{values_pass}
use Rattle.covering_laws.proofs.CaseMet.{case_met}
use Rattle.covering_laws.proofs.Giving.{now_noted, still_noted}
use Rattle.covering_laws.proofs.Places.{all_in, is_not, numbers_agree, place_found}
use Rattle.covering_laws.proofs.Telling.{told_fits}

-- ---- what is in force

pub given_noted : (noted : Noted) (f : Integers) (facts : List Fact) → EachNoted noted f (given_in facts) → (v : ℕ) → is_given facts v ≡ true
    → noted v ≡ Some (f v)
given_noted noted f [] h v g = no g
given_noted noted f (Y.Holds c ∷ facts) h v g = given_noted noted f facts h v g
given_noted noted f (Y.IsGiven w ∷ facts) h v g =
    either (or_cases (nat_eq v w) (is_given facts v) g)
    (λ e. subst (λ (n : ℕ). noted n ≡ Some (f n)) (sym ((Decides-eqb v w).0 e)) h.0) (λ e. given_noted noted f facts h.1 v e)

is_given_in : (facts : List Fact) (v : ℕ) → IsIn v (given_in facts) → is_given facts v ≡ true
is_given_in [] v h = absurd h
is_given_in (Y.Holds c ∷ facts) v h = is_given_in facts v h
is_given_in (Y.IsGiven w ∷ facts) v (inl e) = ap (λ (b : Bool). b || is_given facts v) ((Decides-eqb v w).1 e)
is_given_in (Y.IsGiven w ∷ facts) v (inr h) = or_true (nat_eq v w) (is_given facts v) (is_given_in facts v h)
  where
    or_true : (b c : Bool) → c ≡ true → (b || c) ≡ true
    or_true true c h = refl
    or_true false c h = h

-- numbers more that are noted bring no condition
same_conditions : (facts : List Fact) (vs : List ℕ) → conditions (with_given facts vs) ≡ conditions facts
same_conditions [] [] = refl
same_conditions [] (v ∷ vs) = same_conditions [] vs
same_conditions (Y.Holds c ∷ facts) vs = ap (λ cs. c ∷ cs) (same_conditions facts vs)
same_conditions (Y.IsGiven w ∷ facts) vs = same_conditions facts vs

more_given : (noted : Noted) (f : Integers) (facts : List Fact) (vs : List ℕ) → ((w : ℕ) → IsIn w (given_in facts) → noted w ≡ Some (f w))
    → ((w : ℕ) → IsIn w vs → noted w ≡ Some (f w)) → EachNoted noted f (given_in (with_given facts vs))
more_given noted f [] [] before now = tt
more_given noted f [] (v ∷ vs) before now = (now v (inl refl), more_given noted f [] vs before (λ w k. now w (inr k)))
more_given noted f (Y.Holds c ∷ facts) vs before now = more_given noted f facts vs before now
more_given noted f (Y.IsGiven u ∷ facts) vs before now = (before u (inl refl), more_given noted f facts vs (λ w k. before w (inr k)) now)

-- ---- what is found first

pub only_there : {A : Type 0} (b : Bool) (x : A) → b ≡ true → only b x ≡ Some x
only_there true x h = refl
only_there false x h = no h

if_there : {A : Type 0} (k : ℕ) (o : Option A) → if_at k k o ≡ o
if_there k o = ap (λ (b : Bool). if b then o else None) ((Decides-eqb k k).1 refl)

-- one whose number is another, or that has no answer
passed : {A B : Type 0} (b c : Bool) (o : Option A) (g : A → Option B) → (b && c) ≡ false → (b ≡ true → c ≡ false → (x : A) → o ≡ Some x → g x ≡ None)
    → and_then (if b then o else None) g ≡ None
passed false c o g h k = refl
passed true c None g h k = refl
passed true c (Some x) g h k = k refl h x refl

equal_lengths : (n m : ℕ) → nat_eq n m ≡ false → n ≡ m → ⊥
equal_lengths n m h e = no (sym h ∙ (Decides-eqb n m).1 e)

only_unless : {A : Type 0} (b c : Bool) (x : A) → b ≡ false → only (b && c) x ≡ None
only_unless false c x h = refl
only_unless true c x h = no (sym h)

as_many : (r : Inside) (ps : List Picked) (is : List Indices) → length (all_sized_under r ps is) ≡ length is
as_many r ps is = length-map is (value_sized r.types r.own (under r ps))

abbrev pub work_of : ℕ → Awaits → List Sized → List Closed → Work
work_of g awaited own ts = record { function = g; instance = awaited; own = own; types = ts }

-- ---- operands

module _ (set : Setting) (x : Work) where
  pub sized_as_many : (f : Integers) (is : List Indices) (ss : List Sized) → AreSized set x f is ss → length ss ≡ length is
  sized_as_many f [] [] h = refl
  sized_as_many f [] (s ∷ ss) h = absurd h
  sized_as_many f (i ∷ is) [] h = absurd h
  sized_as_many f (i ∷ is) (s ∷ ss) h = ap suc (sized_as_many f is ss h.1)

-- ---- a body's notes

module _ (set : Setting) (x : Work) (sizing : Sizing) (zs : List (Option ℤ)) (awaits : x.instance.numbers ≡ map (option_map an_int) zs)
    (list : List Instance) (instances : List SizedInstance) (reached : ℕ → Bool)
    (placed : (i : ℕ) (y : Instance) → slice_get list i ≡ Some y → (s : SizedInstance) × (slice_get instances i ≡ Some s) × (s.instance ≡ y))
    (covers : (p : ℕ) (s : SizedInstance) (y : Work) → slice_get instances p ≡ Some s → s.instance.function ≡ y.function
    → y.instance ≡ record { place = p; numbers = numbers_of s.instance } → all_eq y.own s.instance.types ≡ true → set.covered.function y ≡ true) where
  abbrev types : Types
  types = set.around.types

  abbrev inside_of : Body → Inside
  inside_of b = inside types sizing zs x.own b

  pub so_there : (b : Body) (f : Integers) (noted : Noted) (facts : List Fact) → IsSo set.past x noted f facts → C.IsSo set.past f (inside_of b) facts noted
  so_there b f noted facts so = record {
    known = numbers_agree f zs (subst (λ gs. HasNumbers 0 gs f) awaits so.numbers);
    true_there = so.true_there;
    given = given_noted noted f facts so.given;
  }

  pub stands_there : (b : Body) (f : Integers) (ps : List Picked) → S.Agrees (known_of zs) f → AreTaken f ps → Stands (under (inside_of b) ps) f
  stands_there b f ps agrees are = at_agrees f (with_picked (known_of zs) ps) (picked_agrees f (known_of zs) agrees ps are)

  more_there : (of : ℕ → Constant) (f : Integers) → Stands of f → More of (known f)
  more_there of f stands i z h = ap (λ (y : ℤ). Some y) (stands i z h)

  -- types under what is taken are those under all integers
  value_same : (of : ℕ → Constant) (f : Integers) → Stands of f → (i : Indices) → value_passes types (length x.own) of i ≡ true
      → value_sized types x.own of i ≡ sized types x.own f i
  value_same of f stands i h = (sizes_stand types x.own (length x.own) of (known f) (more_there of f stands)).0 i h

  type_same : (of : ℕ → Constant) (f : Integers) → Stands of f → (q : Reading) → reading_passes types (length x.own) of q ≡ true
      → reading_sized types x.own of q ≡ type_sized types x.own f q
  type_same of f stands q h = (sizes_stand types x.own (length x.own) of (known f) (more_there of f stands)).1 q h

  operands_same : IsExact set → (b : Body) (f : Integers) (ps : List Picked) → Stands (under (inside_of b) ps) f → (is : List Indices) (ss : List Sized)
      → values_pass (inside_of b) ps is ≡ true → AreSized set x f is ss → all_sized_under (inside_of b) ps is ≡ ss
  operands_same exact b f ps stands [] [] h a = refl
  operands_same exact b f ps stands [] (s ∷ ss) h a = absurd a
  operands_same exact b f ps stands (i ∷ is) [] h a = absurd a
  operands_same exact b f ps stands (i ∷ is) (s ∷ ss) h a =
      let p = and_parts (value_passes types (length x.own) (under (inside_of b) ps) i) (values_pass (inside_of b) ps is) h in
      let one : value_sized types x.own (under (inside_of b) ps) i ≡ s = value_same (under (inside_of b) ps) f stands i p.0 ∙ sym (a.0 exact) in
      let rest = operands_same exact b f ps stands is ss p.1 a.1 in
      λ j. one j ∷ rest j

  -- ---- sizes

  within : (largest : ℕ) (o : Option ℤ) → in_limit largest o ≡ true → (z : ℤ) × (o ≡ Some z) × (pos 0 ≤ℤ z) × (z ≤ℤ pos largest)
  within largest None h = no h
  within largest (Some z) h =
      let p = and_parts (int_le (pos 0) z) (int_le z (pos largest)) h in
      (z, refl, le_true (pos 0) z p.0, le_true z (pos largest) p.1)

  size_is : (of : ℕ → Constant) (f : Integers) → Stands of f → (t : Num) (largest : ℕ) → in_limit largest (value_of of t) ≡ true
      → (value_of (known f) t ≡ Some (number (standing set.past f) t)) × (pos 0 ≤ℤ number (standing set.past f) t)
      × (number (standing set.past f) t ≤ℤ pos largest)
  size_is of f stands t largest h =
      let k = within largest (value_of of t) h in
      let same : k.0 ≡ number (standing set.past f) t = sym (number_stands of (standing set.past f) stands t k.0 k.1) in (
        value_more of (known f) (more_there of f stands) t k.0 k.1 ∙ ap (λ (y : ℤ). Some y) same,
        subst (λ y. pos 0 ≤ℤ y) same k.2,
        subst (λ y. y ≤ℤ pos largest) same k.3,
      )

  form_fits : (of : ℕ → Constant) (f : Integers) → Stands of f → (y : Indices-F Indices Reading) → form_in_limit of y ≡ true → FormFits set.past f y
  form_fits of f stands (W.Bits t) h = size_is of f stands t 128 h
  form_fits of f stands (W.Vector t r) h = size_is of f stands t 4096 h
  form_fits of f stands W.Never h = tt
  form_fits of f stands W.Unit h = tt
  form_fits of f stands (W.Truth c) h = tt
  form_fits of f stands W.Bit h = tt
  form_fits of f stands (W.Integer t) h = tt
  form_fits of f stands W.String h = tt
  form_fits of f stands (W.List r) h = tt
  form_fits of f stands (W.Tuple is) h = tt
  form_fits of f stands (W.Named u is rs) h = tt
  form_fits of f stands (W.Variable i) h = tt

  pub made_fits : (b : Body) (f : Integers) (ps : List Picked) → Stands (under (inside_of b) ps) f → (made : Made) → size_passes (inside_of b) made ps ≡ true
      → SizesFit set x f made
  made_fits b f ps stands (Makes.ByIndices i) h = form_fits (under (inside_of b) ps) f stands (out-Indices i) h
  made_fits b f ps stands (Makes.ByType q) h = λ exact. told_fits types set.past x f (under (inside_of b) ps) stands q h

  -- the present numbers are one combination that counts
  pub counted_there : (b : Body) (facts : List Fact) (f : Integers) (noted : Noted) → IsSo set.past x noted f facts
      → IsCounted (known_of zs) (inside_of b).split facts [] f
  counted_there b facts f noted so =
      let both = subst (λ (fs : List Fact). AllTrue (standing set.past f) (conditions fs)) (sym (append-nil facts)) so.true_there in
      present_counted set.past f (known_of zs) (inside_of b).split facts [] (so_there b f noted facts so).known so.true_there both

  pub size_met : (b : Body) (facts : List Fact) (made : Made)
      → list_all (size_passes (inside_of b) made) (counted (known_of zs) (inside_of b).split facts []) ≡ true
      → (f : Integers) (noted : Noted) → IsSo set.past x noted f facts → SizesFit set x f made
  size_met b facts made h f noted so =
      let at = counted_there b facts f noted so in
      made_fits b f at.taken (stands_there b f at.taken (so_there b f noted facts so).known at.are) made
      (all_in (size_passes (inside_of b) made) (counted (known_of zs) (inside_of b).split facts []) at.taken h at.is_there)

  -- ---- what is found of the node of a note: those before it are passed over

  module _ {A : Type 0} (g : NodeSizes → Option A) (found : A) (it : NoteIn) where
    -- what another note says of its node isn't found
    abbrev Passes : Type 0
    Passes = (y : NoteIn) → are_alike y.note it.note ≡ false → (rest : List NodeSizes)
        → first_in g (at_note (inside_of y.body) list y.note ++ rest) ≡ first_in g rest

    found_first : ((rest : List NodeSizes) → first_in g (at_note (inside_of it.body) list it.note ++ rest) ≡ Some found) → Passes → (ys : List NoteIn)
        → are_apart ys ≡ true → IsIn it ys → first_in g (all_nodes types sizing zs x.own list ys) ≡ Some found
    found_first here passes [] h i = absurd i
    found_first here passes (y ∷ ys) h (inl e) =
        subst (λ (z : NoteIn). first_in g (at_note (inside_of z.body) list z.note ++ all_nodes types sizing zs x.own list ys) ≡ Some found) e
        (here (all_nodes types sizing zs x.own list ys))
    found_first here passes (y ∷ ys) h (inr i) =
        let p = and_parts (list_all (is_apart y) ys) (are_apart ys) h in
        let other = is_not (are_alike y.note it.note) (all_in (is_apart y) ys it p.0 i) in
        passes y other (all_nodes types sizing zs x.own list ys) ∙ found_first here passes ys p.1 i

  first_none : {A : Type 0} (g : NodeSizes → Option A) (n : NodeSizes) (rest : List NodeSizes) → g n ≡ None → first_in g (n ∷ rest) ≡ first_in g rest
  first_none {A} g n rest h = ap (λ (o : Option A). first o (first_in g rest)) h

  first_some : {A : Type 0} (g : NodeSizes → Option A) (n : NodeSizes) (rest : List NodeSizes) (a : A) → g n ≡ Some a → first_in g (n ∷ rest) ≡ Some a
  first_some {A} g n rest a h = ap (λ (o : Option A). first o (first_in g rest)) h

  -- ---- what a node makes

  only_case : (c : Case) (p : Bool) (d : Case) (is : List Indices) → length d.takes ≡ length is → only p d ≡ Some c → length c.takes ≡ length is
  only_case c true d is e h = ap (λ (y : Case). length y.takes) (sym (some_alike d c h)) ∙ e
  only_case c false d is e h = none h

  one_takes : (b : Body) (is : List Indices) (i : Indices) (k : Choice) (o : Option Case) → case_under (inside_of b) is i k ≡ o
      → Each (λ (c : Case). length c.takes ≡ length is) (one_or_none o)
  one_takes b is i k None e = tt
  one_takes b is i k (Some c) e =
      (only_case c (case_within (inside_of b) is i k) (case_of (inside_of b) is i k) is (as_many (inside_of b) k.noted is) e, tt)

  cases_take : (b : Body) (is : List Indices) (i : Indices) (ks : List Choice)
      → Each (λ (c : Case). length c.takes ≡ length is) (cases_under (inside_of b) is i ks)
  cases_take b is i [] = tt
  cases_take b is i (k ∷ ks) =
      each_append (λ (c : Case). length c.takes ≡ length is) (one_or_none (case_under (inside_of b) is i k)) (cases_under (inside_of b) is i ks)
      (one_takes b is i k (case_under (inside_of b) is i k) refl) (cases_take b is i ks)

  makes_none : (v : Value) (ss : List Sized) (c : Case) (n m : ℕ) → length c.takes ≡ n → length ss ≡ m → nat_eq n m ≡ false → makes_in types ss v c ≡ None
  makes_none v ss c n m e k h =
      only_unless (all_eq c.takes ss) (has_sizes types v c.gives) c.gives (all_differ c.takes ss (λ q. equal_lengths n m h (sym e ∙ q ∙ k)))

  module _ (given : Bool) (b : Body) (facts : List Fact) (k : ℕ) (operands : List Indices) (made : Made) (f : Integers) (noted : Noted)
      (ss : List Sized) (are : AreSized set x f operands ss) (v : Value) where
    abbrev makes : NodeSizes → Option Sized
    makes = made_by given types k ss v noted

    made_passed : (y : NoteIn) → are_alike y.note (made_note facts k operands made) ≡ false → (rest : List NodeSizes)
        → first_in makes (at_note (inside_of y.body) list y.note ++ rest) ≡ first_in makes rest
    made_passed y h rest = by y.note h
      where
        by : (n : Note) → are_alike n (made_note facts k operands made) ≡ false
            → first_in makes (at_note (inside_of y.body) list n ++ rest) ≡ first_in makes rest
        by (made_note more j others value) h =
            let r = inside_of y.body in
            let cases = node_cases r more others value in
            let later : Noted = noted_with given (value_at r value) v noted in
            first_none makes (Z.Makes j (value_at r value) cases) rest
            (passed (nat_eq k j) (nat_eq (length others) (length operands)) (present_case later cases) (makes_in types ss v) h
            (λ e l c q. makes_none v ss c (length others) (length operands)
            (present_is (λ (d : Case). d.picked) later (λ (d : Case). length d.takes ≡ length others) cases c
            (cases_take y.body others (value_at r value) (made_choices r more value)) q) (sized_as_many set x f operands ss are) l))
        by (call_note more place j others (D.Function u) js qs) h =
            first_none makes (Z.Calls j (node_leads (inside_of y.body) list more others u js qs)) rest refl
        by (call_note more place j others (D.Row row) js qs) h = refl
        by (call_note more place j others (D.Constructor u c) js qs) h = refl
        by (call_note more place j others (D.Converts d) js qs) h = refl
        by (call_note more place j others (D.Applies d) js qs) h = refl
        by (given_note more j i) h = first_none makes (Z.Gives j i) rest refl
        by (goal_note more place goal) h = refl
        by (size_note more place value) h = refl
        by (way_note more d) h = refl
        by (name_note w name) h = refl

  -- ---- where a call leads

  only_lead : (p : Bool) (o : Option Lead) (l : Lead) (n : ℕ) → ((d : Lead) → o ≡ Some d → length d.takes ≡ n) → (if p then o else None) ≡ Some l
      → length l.takes ≡ n
  only_lead true o l n h e = h l e
  only_lead false o l n h e = none e

  lead_take : (b : Body) (is : List Indices) (ps : List Picked) (o : Option ℕ) (d : Lead) → option_map (lead_to (inside_of b) is ps) o ≡ Some d
      → length d.takes ≡ length is
  lead_take b is ps None d h = none h
  lead_take b is ps (Some p) d h = ap (λ (l : Lead). length l.takes) (sym (some_alike (lead_to (inside_of b) is ps p) d h)) ∙ as_many (inside_of b) ps is

  one_lead_takes : (b : Body) (is : List Indices) (g : ℕ) (js : List Index) (qs : List Reading) (ps : List Picked) (o : Option Lead)
      → lead_under (inside_of b) list is g js qs ps ≡ o → Each (λ (l : Lead). length l.takes ≡ length is) (one_or_none o)
  one_lead_takes b is g js qs ps None e = tt
  one_lead_takes b is g js qs ps (Some l) e = (
    only_lead (lead_within (inside_of b) is g js qs ps) (lead_found (inside_of b) list is g js qs ps) l (length is)
        (lead_take b is ps (place_in list (instance_of (inside_of b) (under (inside_of b) ps) g js qs))) e,
    tt,
  )

  leads_take : (b : Body) (is : List Indices) (g : ℕ) (js : List Index) (qs : List Reading) (pss : List (List Picked))
      → Each (λ (l : Lead). length l.takes ≡ length is) (leads_under (inside_of b) list is g js qs pss)
  leads_take b is g js qs [] = tt
  leads_take b is g js qs (ps ∷ pss) =
      each_append (λ (l : Lead). length l.takes ≡ length is) (one_or_none (lead_under (inside_of b) list is g js qs ps))
      (leads_under (inside_of b) list is g js qs pss)
      (one_lead_takes b is g js qs ps (lead_under (inside_of b) list is g js qs ps) refl) (leads_take b is g js qs pss)

  leads_none : (ss : List Sized) (l : Lead) (n m : ℕ) → length l.takes ≡ n → length ss ≡ m → nat_eq n m ≡ false → led_by instances ss l ≡ None
  leads_none ss l n m e k h =
      ap (λ (c : Bool). and_then (only c l.instance) (awaited_at instances)) (all_differ l.takes ss (λ q. equal_lengths n m h (sym e ∙ q ∙ k)))

  module _ (k : ℕ) (operands : List Indices) (place : Place) (callee : Callee) (js : List Index) (qs : List Reading) (facts : List Fact) (f : Integers)
      (noted : Noted) (ss : List Sized) (are : AreSized set x f operands ss) where
    abbrev calls : NodeSizes → Option Awaits
    calls = led_in instances k ss noted

    call_passed : (y : NoteIn) → are_alike y.note (call_note facts place k operands callee js qs) ≡ false → (rest : List NodeSizes)
        → first_in calls (at_note (inside_of y.body) list y.note ++ rest) ≡ first_in calls rest
    call_passed y h rest = by y.note h
      where
        by : (n : Note) → are_alike n (call_note facts place k operands callee js qs) ≡ false
            → first_in calls (at_note (inside_of y.body) list n ++ rest) ≡ first_in calls rest
        by (made_note more j others value) h =
            first_none calls (Z.Makes j (value_at (inside_of y.body) value) (node_cases (inside_of y.body) more others value)) rest refl
        by (call_note more spot j others (D.Function u) is rs) h =
            let leads = node_leads (inside_of y.body) list more others u is rs in
            first_none calls (Z.Calls j leads) rest
            (passed (nat_eq k j) (nat_eq (length others) (length operands)) (present_lead noted leads) (led_by instances ss) h
            (λ e l c q. leads_none ss c (length others) (length operands)
            (present_is (λ (d : Lead). d.picked) noted (λ (d : Lead). length d.takes ≡ length others) leads c
            (leads_take y.body others u is rs (combinations_at (inside_of y.body) more)) q) (sized_as_many set x f operands ss are) l))
        by (call_note more spot j others (D.Row row) is rs) h = refl
        by (call_note more spot j others (D.Constructor u c) is rs) h = refl
        by (call_note more spot j others (D.Converts d) is rs) h = refl
        by (call_note more spot j others (D.Applies d) is rs) h = refl
        by (given_note more j i) h = first_none calls (Z.Gives j i) rest refl
        by (goal_note more place goal) h = refl
        by (size_note more place value) h = refl
        by (way_note more d) h = refl
        by (name_note w name) h = refl

  -- the instance that is led to
  pub record IsLed (r : Inside) (operands : List Indices) (g : ℕ) (js : List Index) (qs : List Reading) (ps : List Picked) (lead : Lead) : Type 0 where
    pub place : ℕ
    pub found : place_in list (instance_of r (under r ps) g js qs) ≡ Some place
    pub same : lead_to r operands ps place ≡ lead

  is_led : (r : Inside) (operands : List Indices) (g : ℕ) (js : List Index) (qs : List Reading) (ps : List Picked) (lead : Lead)
      → lead_under r list operands g js qs ps ≡ Some lead → IsLed r operands g js qs ps lead
  is_led r operands g js qs ps lead h = by (lead_within r operands g js qs ps) (place_in list (instance_of r (under r ps) g js qs)) refl h
    where
      by : (b : Bool) (o : Option ℕ) → place_in list (instance_of r (under r ps) g js qs) ≡ o
          → (if b then option_map (lead_to r operands ps) o else None) ≡ Some lead → IsLed r operands g js qs ps lead
      by true (Some p) e k = record { place = p; found = e; same = some_alike (lead_to r operands ps p) lead k }
      by true None e k = none k
      by false o e k = none k

  index_is : (of : ℕ → Constant) (f : Integers) → Stands of f → (j : Index) → is_exact_index of j ≡ true
      → an_int (integer_of (index_under of j)) ≡ given_there set.past f j
  index_is of f stands (N.Number t) h =
      let k = exact_value of t h in
      ap an_int (ap integer_of (number_constant_is of t k.0 k.1) ∙ sym (number_stands of (standing set.past f) stands t k.0 k.1))
  index_is of f stands (N.Truth c) h = no h

  one_agrees : (of : ℕ → Constant) (f : Integers) → Stands of f → (b : Bool) (j : Index) → only_if b (is_exact_index of j) ≡ true
      → Agrees set.past f (option_map an_int (number_where b (index_under of j))) j
  one_agrees of f stands true j h = index_is of f stands j h
  one_agrees of f stands false j h = tt

  pub numbers_given : (of : ℕ → Constant) (f : Integers) → Stands of f → (bs : List Bool) (js : List Index) → numbers_pass of bs js ≡ true
      → AllAgree set.past f (map (option_map an_int) (given bs (map (index_under of) js))) js
  numbers_given of f stands [] [] h = tt
  numbers_given of f stands [] (j ∷ js) h = no h
  numbers_given of f stands (b ∷ bs) [] h = no h
  numbers_given of f stands (b ∷ bs) (j ∷ js) h =
      let p = and_parts (only_if b (is_exact_index of j)) (numbers_pass of bs js) h in
      (one_agrees of f stands b j p.0, numbers_given of f stands bs js p.1)

  pub readings_same : (b : Body) (f : Integers) (ps : List Picked) → Stands (under (inside_of b) ps) f → (qs : List Reading)
      → readings_pass (inside_of b) ps qs ≡ true → map (reading_sized types x.own (under (inside_of b) ps)) qs ≡ map (type_sized types x.own f) qs
  readings_same b f ps stands [] h = refl
  readings_same b f ps stands (q ∷ qs) h =
      let p = and_parts (reading_passes types (length x.own) (under (inside_of b) ps) q) (readings_pass (inside_of b) ps qs) h in
      let one = type_same (under (inside_of b) ps) f stands q p.0 in
      let rest = readings_same b f ps stands qs p.1 in
      λ j. one j ∷ rest j

  -- values of what is given to Type variables
  given_fit : AllFit types x.types x.own → (b : Body) (f : Integers) (ps : List Picked) → Stands (under (inside_of b) ps) f → (qs : List Reading)
      → readings_pass (inside_of b) ps qs ≡ true
      → AllFit types (map (closed types (standing set.past f) x.types) qs) (map (type_sized types x.own f) qs)
  given_fit own_fit b f ps stands [] h = tt
  given_fit own_fit b f ps stands (q ∷ qs) h =
      let of = under (inside_of b) ps in
      let p = and_parts (reading_passes types (length x.own) of q) (readings_pass (inside_of b) ps qs) h in
      (λ v is. (values_fit types set.past f x.types x.own own_fit of stands).1 q v p.0 is, given_fit own_fit b f ps stands qs p.1)

  -- ---- what is said of the numbers that a node gives

  gives_front : (xs ns : List NodeSizes) (k : Giver) (i : Indices) → IsIn i (gives_at ns k) → IsIn i (gives_at (xs ++ ns) k)
  gives_front [] ns k i h = h
  gives_front (n ∷ xs) ns k i h = in_back i (gives_in k n) (gives_at (xs ++ ns) k) (gives_front xs ns k i h)

  own_eq : (g : Giver) → giver_eq g g ≡ true
  own_eq (By.Node k) = (Decides-eqb k k).1 refl
  own_eq (By.Arm k n) = (λ j. (Decides-eqb k k).1 refl j && (Decides-eqb n n).1 refl j)

  own_gives : (k : Giver) (i : Indices) → IsIn i (gives_in k (Z.Gives k i))
  own_gives k i = subst (λ (b : Bool). IsIn i (if b then i ∷ [] else [])) (sym (own_eq k)) (inl refl)

  gives_there : (ys : List NoteIn) (b : Body) (facts : List Fact) (k : Giver) (i : Indices) → IsIn (note_in b (given_note facts k i)) ys
      → IsIn i (gives_at (all_nodes types sizing zs x.own list ys) k)
  gives_there [] b facts k i h = absurd h
  gives_there (y ∷ ys) b facts k i (inl e) =
      subst (λ (z : NoteIn). IsIn i (gives_at (at_note (inside_of z.body) list z.note ++ all_nodes types sizing zs x.own list ys) k)) e
      (in_front i (gives_in k (Z.Gives k i)) (gives_at (all_nodes types sizing zs x.own list ys) k) (own_gives k i))
  gives_there (y ∷ ys) b facts k i (inr h) =
      gives_front (at_note (inside_of y.body) list y.note) (all_nodes types sizing zs x.own list ys) k i (gives_there ys b facts k i h)

  all_noted_there : (js : List Indices) (v : Value) (noted : Noted) (i : Indices) → IsIn i js → noted_by_all js v noted ≡ Some (noted_by_each js v noted)
  all_noted_there js v noted i h = refl

  -- ---- of bodies that are read together

  module _ (given : Bool) (ys : List NoteIn) (apart : are_apart ys ≡ true) where
    abbrev nodes : List NodeSizes
    nodes = all_nodes types sizing zs x.own list ys

    abbrev cases : Cases
    cases = cases_by given types instances nodes

    pub made_met : IsExact set → AllFit types x.types x.own → (b : Body) (facts : List Fact) (k : ℕ) (operands : List Indices) (made : Made)
        → IsIn (note_in b (made_note facts k operands made)) ys → made_tested given (inside_of b) facts operands made ≡ true
        → IsMet set x reached cases (made_note facts k operands made)
    made_met exact own_fit b facts k operands made it h f noted so ss are v is =
        let r = inside_of b in
        let i = value_at r made in
        let there = so_there b f noted facts so in
        let at = case_met given types set.past x own_fit sizing zs b.variables b.names r.split facts operands made f noted v h there is in
        let ps = at.choice.noted in
        let gives = sized_under r (picked_by at.choice) i in
        let later : Noted = noted_with given i v noted in
        let make = makes given b facts k operands made f noted ss are v in
        let takes : all_eq (all_sized_under r ps operands) ss ≡ true =
        ap (λ l. all_eq l ss) (operands_same exact b f ps (stands_there b f ps there.known at.before) operands ss at.operands_pass are) ∙ all_itself ss in
        let found : make (Z.Makes k i (node_cases r facts operands made)) ≡ Some gives =
        ap (λ (d : Option Case). and_then d (makes_in types ss v)) (if_there k (present_case later (node_cases r facts operands made)) ∙ at.is_there)
        ∙ only_there (all_eq (all_sized_under r ps operands) ss && has_sizes types v gives) gives
        (two (all_eq (all_sized_under r ps operands) ss) (has_sizes types v gives) takes at.fits) in
        record {
          typ = gives;
          is_there = found_first make gives (note_in b (made_note facts k operands made))
              (λ others. first_some make (Z.Makes k i (node_cases r facts operands made)) others gives found)
              (λ y e others. made_passed given b facts k operands made f noted ss are v y e others) ys apart it;
          is_right = λ matters. at.is_right;
        }

    pub called_met : IsExact set → AllFit types x.types x.own → (b : Body) (facts : List Fact) (place : Place) (k : ℕ) (operands : List Indices)
        (g : ℕ) (js : List Index) (qs : List Reading)
        → IsIn (note_in b (call_note facts place k operands (D.Function g) js qs)) ys → function_tested (inside_of b) list facts operands g js qs ≡ true
        → IsMet set x reached cases (call_note facts place k operands (D.Function g) js qs)
    called_met exact own_fit b facts place k operands g js qs it h f noted so ss are =
        let r = inside_of b in
        let tests = and_parts (C.has_all_leads r list facts operands g js qs) (list_all (lead_passes r operands g js qs) (combinations_at r facts)) h in
        let there = so_there b f noted facts so in
        let at = present_leads set.past f r list facts noted operands g js qs there tests.0 in
        let own = all_in (lead_passes r operands g js qs) (combinations_at r facts) at.picked tests.1 at.is_in in
        let of = under r at.picked in
        let p = and_parts (values_pass r at.picked operands) (readings_pass r at.picked qs && numbers_pass of (flags_of r.sizing g) js) own in
        let q = and_parts (readings_pass r at.picked qs) (numbers_pass of (flags_of r.sizing g) js) p.1 in
        let stands = stands_there b f at.picked there.known at.are in
        let led = is_led r operands g js qs at.picked at.lead at.is in
        let wanted = instance_of r of g js qs in
        let y = place_found led.place wanted list led.found in
        let s = placed led.place y.0 y.1 in
        let same = and_parts (nat_eq wanted.function (y.0).function) (numbers_eq wanted.numbers (y.0).numbers && all_eq wanted.types (y.0).types) y.2 in
        let parts = and_parts (numbers_eq wanted.numbers (y.0).numbers) (all_eq wanted.types (y.0).types) same.1 in
        let numbers : wanted.numbers ≡ (s.0).instance.numbers =
        numbers_same wanted.numbers (y.0).numbers parts.0 ∙ ap (λ (z : Instance). z.numbers) (sym s.2) in
        let awaited : Awaits = record { place = led.place; numbers = numbers_of (s.0).instance } in
        let c = calls k operands place (D.Function g) js qs facts f noted ss are in
        let takes : all_eq (all_sized_under r at.picked operands) ss ≡ true =
        ap (λ l. all_eq l ss) (operands_same exact b f at.picked stands operands ss p.0 are) ∙ all_itself ss in
        let by_lead : led_by instances ss (lead_to r operands at.picked led.place) ≡ Some awaited =
        ap (λ (d : Bool). and_then (only d led.place) (awaited_at instances)) takes
        ∙ ap (option_map (λ (z : SizedInstance). record { place = led.place; numbers = numbers_of z.instance })) s.1 in
        let found : c (Z.Calls k (node_leads r list facts operands g js qs)) ≡ Some awaited =
        ap (λ (o : Option Lead). and_then o (led_by instances ss)) (if_there k (present_lead noted (node_leads r list facts operands g js qs)) ∙ at.is_there)
        ∙ ap (led_by instances ss) (sym led.same) ∙ by_lead in
        let function : (s.0).instance.function ≡ g = ap (λ (z : Instance). z.function) s.2 ∙ sym ((Decides-eqb g (y.0).function).0 same.0) in
        let owns : all_eq (map (type_sized types x.own f) qs) (s.0).instance.types ≡ true =
        ap (λ (z : Instance). all_eq (map (type_sized types x.own f) qs) z.types) s.2
        ∙ ap (λ l. all_eq l (y.0).types) (sym (readings_same b f at.picked stands qs q.0)) ∙ parts.1 in
        let agree : AllAgree set.past f awaited.numbers js =
        subst (λ ns. AllAgree set.past f (map (option_map an_int) ns) js) numbers (numbers_given of f stands (flags_of r.sizing g) js q.1) in
        record {
          instance = awaited;
          awaited = awaited.numbers;
          awaits = agree;
          is_there = found_first c awaited (note_in b (call_note facts place k operands (D.Function g) js qs))
              (λ rest. first_some c (Z.Calls k (node_leads r list facts operands g js qs)) rest awaited found)
              (λ z l rest. call_passed k operands place (D.Function g) js qs facts f noted ss are z l rest) ys apart it;
          agree = agree;
          is_covered = λ ts. covers led.place s.0
              (work_of g awaited (map (type_sized types x.own f) qs) ts) s.1 function (refl {a = awaited}) owns;
          own_fit = λ fitted. given_fit own_fit b f at.picked stands qs q.0;
        }

    call_met : IsExact set → AllFit types x.types x.own → ((d : ℕ) → set.covered.direction d ≡ true)
        → (b : Body) (facts : List Fact) (place : Place) (k : ℕ) (operands : List Indices) (callee : Callee)
        (js : List Index) (qs : List Reading) → IsIn (note_in b (call_note facts place k operands callee js qs)) ys
        → call_tested (inside_of b) list facts operands callee js qs ≡ true
        → IsMet set x reached cases (call_note facts place k operands callee js qs)
    call_met exact own_fit every b facts place k operands (D.Function g) js qs it h = called_met exact own_fit b facts place k operands g js qs it h
    call_met exact own_fit every b facts place k operands (D.Row row) js qs it h = tt
    call_met exact own_fit every b facts place k operands (D.Constructor u c) js qs it h = tt
    call_met exact own_fit every b facts place k operands (D.Converts d) js qs it h = λ f noted so. every d
    call_met exact own_fit every b facts place k operands (D.Applies d) js qs it h = tt

    -- ---- numbers that a value gives

    pub given_met : (b : Body) (facts : List Fact) (k : Giver) (i : Indices) → IsIn (note_in b (given_note facts k i)) ys
        → list_all (agrees_there facts i) (gives_at nodes k) ≡ true → IsMet set x reached cases (given_note facts k i)
    given_met b facts k i it h f noted so v had =
        let js = gives_at nodes k in
        let there = gives_there ys b facts k i it in
        let more = noted_by_each js v noted in
        record {
          more = more;
          is_there = all_noted_there js v noted i there;
          is_so = record {
            numbers = so.numbers;
            true_there = subst (λ cs. AllTrue (standing set.past f) cs) (sym (same_conditions facts (variables_given i))) so.true_there;
            given = more_given more f facts (variables_given i)
                (λ w q. still_noted types set.past f x.types facts i js v noted h had w (is_given_in facts w q)
                (given_noted noted f facts so.given w (is_given_in facts w q)))
                (λ w q. now_noted types set.past f x.types facts i js v noted h had w there q);
          };
        }

    -- ---- a note

    pub note_met : IsExact set → AllFit types x.types x.own → ((d : ℕ) → set.covered.direction d ≡ true) → (b : Body) (n : Note) → IsIn (note_in b n) ys
        → note_tested given reached list nodes (inside_of b) n ≡ true → OfOthers (IsMet set x reached cases) n
    note_met exact own_fit every b (goal_note facts place goal) it h = tt
    note_met exact own_fit every b (size_note facts place made) it h = size_met b facts made h
    note_met exact own_fit every b (made_note facts k operands made) it h = made_met exact own_fit b facts k operands made it h
    note_met exact own_fit every b (call_note facts place k operands callee js qs) it h =
        call_met exact own_fit every b facts place k operands callee js qs it h
    note_met exact own_fit every b (way_note facts d) it h = λ f noted so. h
    note_met exact own_fit every b (given_note facts k i) it h = given_met b facts k i it h
    note_met exact own_fit every b (name_note v name) it h = tt
