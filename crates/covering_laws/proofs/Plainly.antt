-- A note that is read without refusal is met, where a value may be of any type and no numbers are awaited.
use Rattle.std.proofs.Common.{◌≡◌, ◌∙◌, ap, sym, refl, ℕ, ◌/◌, nat_eq, ℤ, Bool, true, false, ◌&&◌, List, [], ◌∷◌, ◌++◌, map}
use Rattle.std.proofs.Common.{length, Option, None, if◌then◌else◌}
use Rattle.std.specs.Prelude.{is_some, option_map}
use Rattle.std.proofs.lemmas.Bool.{and_parts}
use Rattle.std.proofs.lemmas.Bool.Decides.{Decides-eqb}
use Rattle.sail_base.specs.declared.place.Place.{Place}
use Rattle.sail_types.specs.Places.{an_int}
use Rattle.sail_types.specs.declared.numbers.Index.{Index}
use Rattle.sail_types.specs.declared.table.Types.{Types}
use Rattle.sail_core.specs.Numbers.{Instance as Awaits}
use Rattle.sail_core.specs.Nodes.{giver_eq}
use Rattle.sail_core.specs.declared.tree.Callee.{Callee}
use Rattle.sail_core.specs.declared.tree.Callee.TheVariants as D
use Rattle.sail_core.specs.declared.tree.Giver.{Giver}
use Rattle.value_indices.specs.Steps.{Note, goal_note, size_note, made_note, call_note, way_note, given_note, name_note}
use Rattle.value_indices.specs.declared.indices.Indices.{Indices}
use Rattle.value_indices.specs.declared.indices.Reading.{Reading}
use Rattle.value_indices.specs.declared.notes.Fact.{Fact}
use Rattle.value_indices.specs.declared.notes.Made.{Made}
use Rattle.value_indices.specs.declared.notes.Made.TheVariants as Makes
use Rattle.value_laws.specs.Belonging.{Integers}
use Rattle.value_laws.proofs.Basics.{no}
use Rattle.size_values.specs.Numbers.{known_of}
use Rattle.size_values.specs.Sized.{all_eq, numbers_eq}
use Rattle.size_values.specs.declared.sized.Sized.{Sized}
use Rattle.size_values.specs.declared.sized.Sized.TheVariants as S
use Rattle.size_splits.specs.Bodies.{Body}
use Rattle.size_splits.specs.Sizing.{Sizing, flags_of}
use Rattle.split_laws.specs.Counted.{IsCounted, IsIn}
use Rattle.monomorph.specs.declared.found.Found.{Found}
use Rattle.monomorph.specs.declared.found.Found.TheVariants as F
use Rattle.sized_nodes.specs.declared.trees.Instance.{Instance}
use Rattle.monomorph.specs.Reading.{Inside, instance_of, under}
use Rattle.checked_meaning.specs.Checked.{Cases, Noted}
use Rattle.sized_trees.specs.Bodies.{at_note}
use Rattle.sized_trees.specs.Cases.{place_in}
use Rattle.sized_nodes.specs.declared.trees.NodeSizes.{NodeSizes}
use Rattle.sized_nodes.specs.declared.trees.SizedInstance.{SizedInstance}
use Rattle.sized_meanings.specs.Noting.{noted_by_all}
use Rattle.sized_meanings.specs.Present.{gives_at}
use Rattle.sized_meanings.specs.Sized.{numbers_of}
use Rattle.soundness_steps.specs.Works.{IsExact, Setting, Work}
use Rattle.soundness_steps.specs.Noted.{IsSo, type_sized}
use Rattle.soundness_steps.specs.Covers.{AllAgree, IsMet, SizesFit}
use Rattle.note_laws.specs.Notes.{EachNote, OfOthers}
use Rattle.exact_sizes.specs.Laws.{Stands}
use Rattle.exact_sizes.proofs.Equal.{numbers_same}
use Rattle.exact_sizes.proofs.Known.{some_there}
use Rattle.node_counts.specs.Told.{NoteIn, all_noted, are_alike, are_apart, are_single, note_in}
use Rattle.covering_laws.specs.Closed.{IsAmong, NoteIsRead, NotesAreRead}
use Rattle.covering_laws.specs.Given.{is_node}
use Rattle.covering_laws.specs.Laws.{ArePlaced, AreCovered}
use Rattle.covering_laws.specs.Tested.{all_nodes, inside}
use Rattle.tabled_cores.specs.Notes.{numbers_pass}
use Rattle.covering_laws.proofs.Agreeing.{given_agree}
use Rattle.covering_laws.proofs.Bodies.{each_of, each_there, noted_there}
use Rattle.covering_laws.proofs.Found.{given_pass, indices_in_limit, note_is_read}
use Rattle.covering_laws.proofs.Given.{first_found, is_another, is_itself, only_false}
use Rattle.covering_laws.proofs.KindsGiven.{GivesNumbers, are_nums}
use Rattle.covering_laws.proofs.Notes as Tables
use Rattle.covering_laws.proofs.Notes.{only_there, sized_as_many}
use Rattle.covering_laws.proofs.Places.{place_found}
use Rattle.covering_laws.proofs.Working.{there}
use Rattle.covering_laws.specs.Plain.{called_note, called_of, none_known, plain_cases, plain_nodes}

-- ---- what is given hangs on no numbers

abbrev gives_of : Giver → Note → List Indices
gives_of k (given_note facts j i) = if giver_eq k j then i ∷ [] else []
gives_of k n = []

module _ (r : Inside) (list : List Instance) (k : Giver) (ns : List NodeSizes) where
  gives_first : (n : Note) → gives_at (at_note r list n ++ ns) k ≡ gives_of k n ++ gives_at ns k
  gives_first (goal_note facts place goal) = refl
  gives_first (size_note facts place made) = refl
  gives_first (made_note facts j operands made) = refl
  gives_first (call_note facts place j operands (D.Function g) js qs) = refl
  gives_first (call_note facts place j operands (D.Row row) js qs) = refl
  gives_first (call_note facts place j operands (D.Constructor u c) js qs) = refl
  gives_first (call_note facts place j operands (D.Converts d) js qs) = refl
  gives_first (call_note facts place j operands (D.Applies d) js qs) = refl
  gives_first (way_note facts d) = refl
  gives_first (given_note facts j i) = refl
  gives_first (name_note v name) = refl

module _ (types : Types) (sizing : Sizing) (zs : List (Option ℤ)) (own : List Sized) (list : List Instance) (k : Giver) where
  same_gives : (ys : List NoteIn) → gives_at (all_nodes types sizing zs own list ys) k ≡ gives_at (plain_nodes types sizing ys) k
  same_gives [] = refl
  same_gives (y ∷ ys) =
      gives_first (inside types sizing zs own y.body) list k (all_nodes types sizing zs own list ys) y.note
      ∙ ap (λ (is : List Indices). gives_of k y.note ++ is) (same_gives ys)
      ∙ sym (gives_first (inside types sizing [] [] y.body) [] k (plain_nodes types sizing ys) y.note)

-- ---- no number is awaited

module _ (set : Setting) (f : Integers) where
  none_awaited : (js : List Index) → AllAgree set.past f (none_known js) js
  none_awaited [] = tt
  none_awaited (j ∷ js) = (tt, none_awaited js)

-- ---- bodies that are read together

module _ (set : Setting) (loose : set.covered.exact ≡ false) (unfit : set.covered.fitted ≡ false) (x : Work) (sizing : Sizing) (zs : List (Option ℤ))
    (awaits : x.instance.numbers ≡ map (option_map an_int) zs) (own : List Sized) (list : List Instance) (instances : List SizedInstance)
    (placed : ArePlaced list instances) (covers : AreCovered set instances)
    (like : (y : Instance) → IsIn y list → (w : Work) → y.function ≡ w.function → numbers_of y ≡ w.instance.numbers → set.covered.function w ≡ true)
    (found : List Found) (among : (y : Instance) → IsAmong (F.Function y) found → is_some (place_in list y) ≡ true)
    (ways : (d : ℕ) → IsAmong (F.Mapping (d / 2)) found → set.covered.direction d ≡ true) where
  abbrev types : Types
  types = set.around.types

  -- with the types for which the list has read it
  abbrev listed : Work
  listed = record x { own = own }

  abbrev inside_of : Body → Inside
  inside_of b = inside types sizing zs own b

  abbrev reached : ℕ → Bool
  reached = set.covered.direction

  -- types are of no matter
  no_matter : {A : Type 0} → IsExact set → A
  no_matter exact = no (sym loose ∙ exact)

  so_listed : (f : Integers) (noted : Noted) (facts : List Fact) → IsSo set.past x noted f facts → IsSo set.past listed noted f facts
  so_listed f noted facts so = record { numbers = so.numbers; true_there = so.true_there; given = so.given }

  present : (b : Body) (facts : List Fact) (f : Integers) (noted : Noted) → IsSo set.past x noted f facts
      → IsCounted (known_of zs) (inside_of b).split facts [] f
  present b facts f noted so =
      Tables.counted_there set listed sizing zs awaits list instances reached placed covers b facts f noted (so_listed f noted facts so)

  present_stands : (b : Body) (facts : List Fact) (f : Integers) (noted : Noted) (so : IsSo set.past x noted f facts)
      → Stands (under (inside_of b) (present b facts f noted so).taken) f
  present_stands b facts f noted so =
      let at = present b facts f noted so in
      Tables.stands_there set listed sizing zs awaits list instances reached placed covers b f at.taken
      (Tables.so_there set listed sizing zs awaits list instances reached placed covers b f noted facts (so_listed f noted facts so)).known at.are

  -- ---- sizes

  size_met : (b : Body) (facts : List Fact) (place : Place) (made : Made) (named : Option ℕ)
      → NoteIsRead (inside_of b) found (size_note facts place made) named
      → (f : Integers) (noted : Noted) → IsSo set.past x noted f facts → SizesFit set x f made
  size_met b facts place (Makes.ByIndices i) named read f noted so =
      let at = present b facts f noted so in
      Tables.made_fits set listed sizing zs awaits list instances reached placed covers b f at.taken (present_stands b facts f noted so) (Makes.ByIndices i)
      (indices_in_limit types (under (inside_of b) at.taken) i (read at.taken at.is_there))
  size_met b facts place (Makes.ByType q) named read f noted so = λ exact. no_matter exact

  module _ (ys : List NoteIn) (apart : are_apart ys ≡ true) (single : are_single ys ≡ true) where
    abbrev cases : Cases
    cases = plain_cases types sizing ys

    made_met : (facts : List Fact) (k : ℕ) (operands : List Indices) (made : Made) → IsMet set x reached cases (made_note facts k operands made)
    made_met facts k operands made f noted so ss are v is = record { typ = S.Never; is_there = refl; is_right = λ exact. no_matter exact }

    -- ---- calls

    called_met : (b : Body) (facts : List Fact) (place : Place) (k : ℕ) (operands : List Indices) (g : ℕ) (js : List Index) (qs : List Reading)
        (named : Option ℕ) → IsIn (note_in b (call_note facts place k operands (D.Function g) js qs)) ys
        → NoteIsRead (inside_of b) found (call_note facts place k operands (D.Function g) js qs) named → are_nums (flags_of sizing g) js ≡ true
        → IsMet set x reached cases (call_note facts place k operands (D.Function g) js qs)
    called_met b facts place k operands g js qs named it read nums f noted so ss are =
        let r = inside_of b in
        let many : length ss ≡ length operands = sized_as_many set x f operands ss are in
        let here = present b facts f noted so in
        let of = under r here.taken in
        let stands = present_stands b facts f noted so in
        let called = read here.taken here.is_there in
        let passes : numbers_pass of (flags_of sizing g) js ≡ true = given_pass of (flags_of sizing g) js nums called.numbers in
        let wanted = instance_of r of g js qs in
        let led = some_there (place_in list wanted) (among wanted called.is_among) in
        let y = place_found led.0 wanted list led.1 in
        let equal = and_parts (nat_eq wanted.function (y.0).function) (numbers_eq wanted.numbers (y.0).numbers && all_eq wanted.types (y.0).types) y.2 in
        let parts = and_parts (numbers_eq wanted.numbers (y.0).numbers) (all_eq wanted.types (y.0).types) equal.1 in
        let function : (y.0).function ≡ g = sym ((Decides-eqb g (y.0).function).0 equal.0) in
        let numbers : numbers_of (y.0) ≡ map (option_map an_int) wanted.numbers =
        ap (map (option_map an_int)) (sym (numbers_same wanted.numbers (y.0).numbers parts.0)) in
        let asked : Awaits = record { place = 0; numbers = none_known js } in
        record {
          instance = record { place = 0; numbers = map (option_map an_int) wanted.numbers };
          awaited = none_known js;
          is_there = first_found (called_note k (length ss)) (note_in b (call_note facts place k operands (D.Function g) js qs)) asked
              (only_there (is_node k (length ss) k operands) asked (is_itself k (length ss) operands many))
              (λ z other. passed z.note many other) ys apart it;
          awaits = none_awaited set f js;
          agree = Tables.numbers_given set listed sizing zs awaits list instances reached placed covers of f stands (flags_of sizing g) js passes;
          is_covered = λ ts. like y.0 (there list led.0 y.0 y.1) (record {
            function = g;
            instance = record { place = 0; numbers = map (option_map an_int) wanted.numbers };
            own = map (type_sized types x.own f) qs;
            types = ts;
          }) function numbers;
          own_fit = λ fitted. no (sym unfit ∙ fitted);
        }
      where
        passed : (n : Note) → length ss ≡ length operands → are_alike n (call_note facts place k operands (D.Function g) js qs) ≡ false
            → called_of k (length ss) n ≡ None
        passed (call_note more spot j others (D.Function h) is rs) many other =
            only_false (is_node k (length ss) j others) (record { place = 0; numbers = none_known is })
            (is_another k (length ss) j operands others many other)
        passed (call_note more spot j others (D.Row row) is rs) many other = refl
        passed (call_note more spot j others (D.Constructor u c) is rs) many other = refl
        passed (call_note more spot j others (D.Converts d) is rs) many other = refl
        passed (call_note more spot j others (D.Applies d) is rs) many other = refl
        passed (goal_note more spot goal) many other = refl
        passed (size_note more spot value) many other = refl
        passed (made_note more j others value) many other = refl
        passed (way_note more d) many other = refl
        passed (given_note more j i) many other = refl
        passed (name_note w name) many other = refl

    call_met : (b : Body) (facts : List Fact) (place : Place) (k : ℕ) (operands : List Indices) (callee : Callee) (js : List Index) (qs : List Reading)
        (named : Option ℕ) → IsIn (note_in b (call_note facts place k operands callee js qs)) ys
        → NoteIsRead (inside_of b) found (call_note facts place k operands callee js qs) named
        → GivesNumbers sizing (call_note facts place k operands callee js qs) → IsMet set x reached cases (call_note facts place k operands callee js qs)
    call_met b facts place k operands (D.Function g) js qs named it read nums = called_met b facts place k operands g js qs named it read nums
    call_met b facts place k operands (D.Row row) js qs named it read nums = tt
    call_met b facts place k operands (D.Constructor u c) js qs named it read nums = tt
    call_met b facts place k operands (D.Converts d) js qs named it read nums = λ f noted so.
        let here = present b facts f noted so in
        ways d (read here.taken here.is_there).is_among
    call_met b facts place k operands (D.Applies d) js qs named it read nums = tt

    -- ---- numbers that a value gives

    given_met : (b : Body) (facts : List Fact) (k : Giver) (i : Indices) → IsIn (note_in b (given_note facts k i)) ys
        → IsMet set x reached cases (given_note facts k i)
    given_met b facts k i it f noted so v held =
        let more = Tables.given_met set listed sizing zs awaits list instances reached placed covers true ys apart b facts k i it
        (given_agree facts k i types sizing zs own list b ys single it) f noted (so_listed f noted facts so) v held in
        record {
          more = more.more;
          is_there = ap (λ (is : List Indices). noted_by_all is v noted) (sym (same_gives types sizing zs own list k ys)) ∙ more.is_there;
          is_so = record { numbers = more.is_so.numbers; true_there = more.is_so.true_there; given = more.is_so.given };
        }

    -- ---- a note

    note_met : (b : Body) (n : Note) (named : Option ℕ) → IsIn (note_in b n) ys → NoteIsRead (inside_of b) found n named → GivesNumbers sizing n
        → OfOthers (IsMet set x reached cases) n
    note_met b (goal_note facts place goal) named it read nums = tt
    note_met b (size_note facts place made) named it read nums = size_met b facts place made named read
    note_met b (made_note facts k operands made) named it read nums = made_met facts k operands made
    note_met b (call_note facts place k operands callee js qs) named it read nums = call_met b facts place k operands callee js qs named it read nums
    note_met b (way_note facts d) named it read nums = λ f noted so.
        let here = present b facts f noted so in
        ways d (read here.taken here.is_there)
    note_met b (given_note facts k i) named it read nums = given_met b facts k i it
    note_met b (name_note v name) named it read nums = tt

  pub bodies_met : (bs : List Body) → ((b : Body) → IsIn b bs → NotesAreRead (inside_of b) found b.notes)
      → ((b : Body) → IsIn b bs → EachNote (GivesNumbers sizing) b.notes) → are_apart (all_noted bs) ≡ true
      → are_single (all_noted bs) ≡ true → (b : Body) → IsIn b bs
      → EachNote (OfOthers (IsMet set x reached (plain_cases types sizing (all_noted bs)))) b.notes
  bodies_met bs read gives apart single b i =
      let ys = all_noted bs in
      each_there (OfOthers (IsMet set x reached (plain_cases types sizing ys))) b.notes (λ n k.
      let known = note_is_read (inside_of b) found n b.notes k (read b i) in
      note_met ys apart single b n known.0 (noted_there bs b n i k) known.1 (each_of (GivesNumbers sizing) b.notes (gives b i) n k))
