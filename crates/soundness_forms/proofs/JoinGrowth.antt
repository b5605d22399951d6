-- Joins count variables on, and leave what is in force.
use Rattle.std.proofs.Common.{ℕ, Bool, true, false, List, [], ◌∷◌, Option, Some, None, sym, arith}
use Rattle.std.proofs.lemmas.List.{append-nil}
use Rattle.std.specs.Prelude.{is_none}
use Rattle.sail_base.specs.declared.place.Place.{Place}
use Rattle.sail_types.specs.declared.shapes.Shape.{Shape}
use Rattle.sail_types.specs.declared.table.Types.{Types}
use Rattle.value_indices.specs.declared.indices.Indices.{Indices}
use Rattle.value_indices.specs.declared.indices.Indices.TheVariants as I
use Rattle.value_indices.specs.declared.indices.Naming.TheVariants as M
use Rattle.value_indices.specs.declared.indices.Reading.{Reading}
use Rattle.value_indices.specs.declared.notes.Made.TheVariants as Makes
use Rattle.value_indices.specs.Opening.{opened, opening}
use Rattle.value_indices.specs.Steps.{bind, give, next_variable, size_note}
use Rattle.fitting_laws.proofs.Counted.{Counts}
use Rattle.wide_types.specs.Widening.{met}
use Rattle.pattern_leaves.specs.Settings.{Around}
use Rattle.call_notes.specs.Ends.{opened_at, sized, sized_by}
use Rattle.call_notes.specs.Noted.{node_ended, node_given, node_made}
use Rattle.expression_forms.specs.Meeting.{agrees_unless, gives_none, met_ways}
use Rattle.expression_steps.specs.Statements.{Way, each_way, first_behind, meeting, meeting_from, met_made, met_value, one_way, owed_of_first}
use Rattle.expression_steps.specs.Statements.{then_first, way_behind}
use Rattle.soundness_steps.specs.Steps.{Grows}
use Rattle.soundness_forms.specs.Joins.{AllGrow, MetGrows}
use Rattle.soundness_forms.proofs.Growth.{grows_bind, grows_ended, grows_give, grows_given, grows_made, grows_note, grows_opening, grows_owe_fit}
use Rattle.soundness_forms.proofs.Growth.{grows_scoped}

-- of what another way owes of a first one
abbrev pub AgreementCounts : Type 0
AgreementCounts = (types : Types) (m : ℕ) (none : Bool) (first i : Indices) → Counts (agrees_unless none types m first i)

pub grows_next : Grows next_variable
unfolding next_variable
grows_next = record { onward = λ facts n. omega arith; more = λ facts n. []; extends = λ facts n. sym (append-nil facts) }

module _ (met_grows : MetGrows) (agree : AgreementCounts) (around : Around) where
  owed_grows : (is_free : Bool) (place : Place) (never_ends : Bool) (m : ℕ) (first : Option Indices) (i : Indices)
      → Grows (owed_of_first around is_free place never_ends m first i)
  owed_grows true place never_ends m (Some first) i = grows_owe_fit place (agrees_unless (gives_none never_ends i) around.types m first i)
      (agree around.types m (gives_none never_ends i) first i)
  owed_grows true place never_ends m None i = grows_give tt
  owed_grows false place never_ends m first i = grows_give tt

  pub behind_grows : (is_free : Bool) (m : ℕ) (shape : Shape) (w : Way) (first : Option Indices) → Grows w.walk
      → Grows (way_behind around is_free m shape w first)
  behind_grows is_free m shape w first h = grows_bind w.walk (then_first around is_free m shape w first) h (λ i.
      grows_bind (owed_of_first around is_free w.place w.never_ends m first i) (λ t. give (first_behind around is_free m shape w.never_ends first i))
      (owed_grows is_free w.place w.never_ends m first i) (λ t. grows_give (first_behind around is_free m shape w.never_ends first i)))

  ways_grow : (is_free : Bool) (m : ℕ) (shape : Shape) (ws : List Way) (first : Option Indices) → AllGrow ws
      → Grows (each_way around is_free m shape ws first)
  ways_grow is_free m shape [] first h = grows_give first
  ways_grow is_free m shape (w ∷ ws) first h = grows_bind (one_way around is_free m shape w first) (each_way around is_free m shape ws)
      (grows_scoped (way_behind around is_free m shape w first) (behind_grows is_free m shape w first h.0)) (λ o. ways_grow is_free m shape ws o h.1)

  opened_grows : (place : Place) (r : Reading) → Grows (opened_at place r)
  unfolding opened
  opened_grows place r = grows_bind (sized_by place r) (λ t. opening r false M.Unnamed) (grows_note (λ facts. size_note facts place (Makes.ByType r))) (λ t.
      grows_opening r false M.Unnamed)

  met_ways_grow : (place : Place) (m : ℕ) (shape : Shape) (o : Option Indices) → Grows (met_ways around place m shape o)
  met_ways_grow place m shape None = grows_give _
  met_ways_grow place m shape (Some i) = grows_bind (met around.types m shape i) (λ j. bind (sized place j) (λ t. give j)) (met_grows around.types m shape i)
      (λ j.
      grows_bind (sized place j) (λ t. give j) (grows_note (λ facts. size_note facts place (Makes.ByIndices j))) (λ t. grows_give j))

  made_grows : (place : Place) (k : ℕ) (shape : Shape) (r : Option Reading) (m : ℕ) (o : Option Indices) → Grows (met_made around place k shape r m o)
  made_grows place k shape None m o = grows_bind (met_ways around place m shape o) (node_ended k (I.Unit ∷ [])) (met_ways_grow place m shape o)
      (grows_ended k (I.Unit ∷ []))
  made_grows place k shape (Some r) m o = grows_bind (node_made k (I.Unit ∷ []) (Makes.ByType r)) (λ t. opened_at place r)
      (grows_made k (I.Unit ∷ []) (Makes.ByType r)) (λ t. opened_grows place r)

  pub meeting_grows : (place : Place) (k : ℕ) (shape : Shape) (r : Option Reading) (ws : List Way) → AllGrow ws → Grows (meeting around place k shape r ws)
  meeting_grows place k shape r ws h = grows_bind next_variable (meeting_from around place k shape r ws) grows_next (λ m.
      grows_bind (each_way around (is_none r) m shape ws None) (met_value around place k shape r m) (ways_grow (is_none r) m shape ws None h) (λ o.
      grows_bind (met_made around place k shape r m o) (node_given k) (made_grows place k shape r m o) (grows_given k)))
