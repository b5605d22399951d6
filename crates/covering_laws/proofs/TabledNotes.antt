-- A note that is read without refusal, and for which tables are whole, is met by the cases of its node.
use Rattle.std.proofs.Common.{◌≡◌, ℕ, ◌/◌, ℤ, Bool, true, List, [], map, Option}
use Rattle.std.specs.Prelude.{option_map}
use Rattle.sail_base.specs.declared.place.Place.{Place}
use Rattle.sail_types.specs.Places.{an_int}
use Rattle.sail_types.specs.declared.numbers.Index.{Index}
use Rattle.sail_types.specs.declared.table.Types.{Types}
use Rattle.sail_core.specs.declared.tree.Callee.{Callee}
use Rattle.sail_core.specs.declared.tree.Callee.TheVariants as D
use Rattle.value_indices.specs.Steps.{Note, goal_note, size_note, made_note, call_note, way_note, given_note, name_note}
use Rattle.value_indices.specs.declared.indices.Indices.{Indices}
use Rattle.value_indices.specs.declared.indices.Reading.{Reading}
use Rattle.value_indices.specs.declared.notes.Fact.{Fact}
use Rattle.value_indices.specs.declared.notes.Made.{Made}
use Rattle.value_indices.specs.declared.notes.Made.TheVariants as Makes
use Rattle.value_laws.specs.Belonging.{Integers}
use Rattle.size_values.specs.Numbers.{known_of}
use Rattle.size_splits.specs.Bodies.{Body}
use Rattle.size_splits.specs.Sizing.{Sizing}
use Rattle.split_laws.specs.Counted.{IsCounted, IsIn}
use Rattle.monomorph.specs.declared.found.Found.{Found}
use Rattle.monomorph.specs.declared.found.Found.TheVariants as F
use Rattle.sized_nodes.specs.declared.trees.Instance.{Instance}
use Rattle.monomorph.specs.Reading.{Inside, under}
use Rattle.checked_meaning.specs.Checked.{Cases, Noted}
use Rattle.checked_meaning.specs.Fits.{AllFit}
use Rattle.sized_nodes.specs.declared.trees.SizedInstance.{SizedInstance}
use Rattle.sized_meanings.specs.Sized.{cases_by}
use Rattle.soundness_steps.specs.Works.{IsExact, Setting, Work}
use Rattle.soundness_steps.specs.Noted.{IsSo}
use Rattle.soundness_steps.specs.Covers.{IsMet, SizesFit}
use Rattle.note_laws.specs.Notes.{EachNote, OfOthers}
use Rattle.node_counts.specs.Told.{NoteIn, all_noted, are_apart, are_single, note_in}
use Rattle.covering_laws.specs.Closed.{IsAmong, NoteIsRead, NotesAreRead}
use Rattle.tabled_cores.specs.Notes.{type_given}
use Rattle.covering_laws.specs.Laws.{AreCovered, ArePlaced}
use Rattle.covering_laws.specs.Tested.{all_nodes, inside}
use Rattle.tabled_cores.specs.Notes.{call_tested}
use Rattle.covering_laws.proofs.Agreeing.{given_agree}
use Rattle.covering_laws.proofs.Bodies.{each_there, noted_there}
use Rattle.covering_laws.proofs.Found.{indices_in_limit, note_is_read}
use Rattle.covering_laws.proofs.Notes as Notes
use Rattle.covering_laws.proofs.Places.{all_in}
use Rattle.tabled_cores.specs.Bodies.{bodies_tabled, body_tabled}
use Rattle.tabled_cores.specs.Notes.{note_tabled}

module _ (given : Bool) (set : Setting) (x : Work) (sizing : Sizing) (zs : List (Option ℤ)) (awaits : x.instance.numbers ≡ map (option_map an_int) zs)
    (list : List Instance) (instances : List SizedInstance) (placed : ArePlaced list instances) (covers : AreCovered set instances)
    (found : List Found) (ways : (d : ℕ) → IsAmong (F.Mapping (d / 2)) found → set.covered.direction d ≡ true)
    (exact : IsExact set) (own_fit : AllFit set.around.types x.types x.own) where
  abbrev types : Types
  types = set.around.types

  abbrev inside_of : Body → Inside
  inside_of b = inside types sizing zs x.own b

  abbrev reached : ℕ → Bool
  reached = set.covered.direction

  -- where the present numbers are one combination that counts
  present : (b : Body) (facts : List Fact) (f : Integers) (noted : Noted) → IsSo set.past x noted f facts
      → IsCounted (known_of zs) (inside_of b).split facts [] f
  present b facts f noted so = Notes.counted_there set x sizing zs awaits list instances reached placed covers b facts f noted so

  size_met : (b : Body) (facts : List Fact) (place : Place) (made : Made) (named : Option ℕ)
      → NoteIsRead (inside_of b) found (size_note facts place made) named → type_given (inside_of b) facts made ≡ true
      → (f : Integers) (noted : Noted) → IsSo set.past x noted f facts → SizesFit set x f made
  size_met b facts place (Makes.ByIndices i) named read h f noted so =
      let at = present b facts f noted so in
      Notes.made_fits set x sizing zs awaits list instances reached placed covers b f at.taken
      (Notes.stands_there set x sizing zs awaits list instances reached placed covers b f at.taken
      (Notes.so_there set x sizing zs awaits list instances reached placed covers b f noted facts so).known at.are) (Makes.ByIndices i)
      (indices_in_limit types (under (inside_of b) at.taken) i (read at.taken at.is_there))
  size_met b facts place (Makes.ByType q) named read h f noted so =
      Notes.size_met set x sizing zs awaits list instances reached placed covers b facts (Makes.ByType q) h f noted so

  module _ (ys : List NoteIn) (apart : are_apart ys ≡ true) (single : are_single ys ≡ true) where
    abbrev cases : Cases
    cases = cases_by given types instances (all_nodes types sizing zs x.own list ys)

    call_met : (b : Body) (facts : List Fact) (place : Place) (k : ℕ) (operands : List Indices) (callee : Callee) (js : List Index) (qs : List Reading)
        (named : Option ℕ) → IsIn (note_in b (call_note facts place k operands callee js qs)) ys
        → NoteIsRead (inside_of b) found (call_note facts place k operands callee js qs) named
        → call_tested (inside_of b) list facts operands callee js qs ≡ true → IsMet set x reached cases (call_note facts place k operands callee js qs)
    call_met b facts place k operands (D.Function g) js qs named it read h =
        Notes.called_met set x sizing zs awaits list instances reached placed covers given ys apart exact own_fit b facts place k operands g js qs it h
    call_met b facts place k operands (D.Row row) js qs named it read h = tt
    call_met b facts place k operands (D.Constructor u c) js qs named it read h = tt
    call_met b facts place k operands (D.Converts d) js qs named it read h = λ f noted so.
        let here = present b facts f noted so in
        ways d (read here.taken here.is_there).is_among
    call_met b facts place k operands (D.Applies d) js qs named it read h = tt

    note_met : (b : Body) (n : Note) (named : Option ℕ) → IsIn (note_in b n) ys → NoteIsRead (inside_of b) found n named
        → note_tabled given list (inside_of b) n ≡ true → OfOthers (IsMet set x reached cases) n
    note_met b (goal_note facts place goal) named it read h = tt
    note_met b (size_note facts place made) named it read h = size_met b facts place made named read h
    note_met b (made_note facts k operands made) named it read h =
        Notes.made_met set x sizing zs awaits list instances reached placed covers given ys apart exact own_fit b facts k operands made it h
    note_met b (call_note facts place k operands callee js qs) named it read h = call_met b facts place k operands callee js qs named it read h
    note_met b (way_note facts d) named it read h = λ f noted so.
        let here = present b facts f noted so in
        ways d (read here.taken here.is_there)
    note_met b (given_note facts k i) named it read h =
        Notes.given_met set x sizing zs awaits list instances reached placed covers given ys apart b facts k i it
        (given_agree facts k i types sizing zs x.own list b ys single it)
    note_met b (name_note v name) named it read h = tt

  pub bodies_met : (bs : List Body) → ((b : Body) → IsIn b bs → NotesAreRead (inside_of b) found b.notes) → are_apart (all_noted bs) ≡ true
      → are_single (all_noted bs) ≡ true → bodies_tabled given types sizing zs x.own list bs ≡ true → (b : Body) → IsIn b bs
      → EachNote (OfOthers (IsMet set x reached (cases_by given types instances (all_nodes types sizing zs x.own list (all_noted bs))))) b.notes
  bodies_met bs read apart single h b i =
      let ys = all_noted bs in
      each_there (OfOthers (IsMet set x reached (cases_by given types instances (all_nodes types sizing zs x.own list ys)))) b.notes (λ n k.
      let known = note_is_read (inside_of b) found n b.notes k (read b i) in
      note_met ys apart single b n known.0 (noted_there bs b n i k) known.1
      (all_in (note_tabled given list (inside_of b)) b.notes n (all_in (body_tabled given types sizing zs x.own list) bs b h i) k))
