-- The code of a function sets each label at most once: those of its ends, those of its measure, and those of its body.
use Rattle.std.proofs.Common.{◌≡◌, ℕ, ◌+◌, ◌≤◌, Bool, true, false, cond, List, [], ◌∷◌, ◌++◌, Option, Some, None, arith, refl, subst}
use Rattle.std.specs.Prelude.{◌&&◌, nat_le, nat_lt, option_map}
use Rattle.sail_base.specs.declared.place.Place.{Place as TextPlace}
use Rattle.sail_types.specs.declared.table.Types.{Types}
use Rattle.model_state.specs.declared.cause.Cause.TheVariants.{MatchFailure}
use Rattle.sail_core.specs.declared.patterns.Arm.{Arm}
use Rattle.sail_core.specs.declared.tree.Core.{Core}
use Rattle.size_values.specs.declared.sized.Sized.{Sized}
use Rattle.jib.specs.declared.code.Source.{Source}
use Rattle.jib.specs.declared.code.Source.TheVariants as R
use Rattle.jib.specs.declared.code.Instruction.{Instruction}
use Rattle.jib.specs.declared.code.Instruction.TheVariants as I
use Rattle.lowered_pieces.specs.Places.{Kit, Temp, from}
use Rattle.lowered_pieces.specs.Tables.{Tables}
use Rattle.lowered_pieces.specs.Forms.{Callees, Piece, code_of, count_of, no_tail, return_piece}
use Rattle.lowered_pieces.specs.Functions.{answer_code, body_stand, called_code, ends_code, event_code, measure_stand}
use Rattle.lowered_pieces.specs.Lowering.{piece}
use Rattle.lowered_laws.specs.CodeLaws.{inside, sets}
use Rattle.lowered_laws.proofs.Chosen.{some_is}
use Rattle.lowered_laws.proofs.Labels.{same, sets_append}
use Rattle.lowered_laws.specs.FormLaws.{result_of}
use Rattle.lowered_laws.proofs.OwnForms.{Owns, cast_owns, held_own, more_at, none_own, return_owns, three_of}
use Rattle.lowered_laws.proofs.OwnLabels.{let_owns, node_owns}
use Rattle.lowered_pieces.specs.Openings.{name_piece, named_piece, source_piece}

once : (l n k : ℕ) → inside l n k ≤ 1
once l n k = by (nat_le l k && nat_lt k (l + n))
  where
    by : (b : Bool) → cond b 1 0 ≤ 1
    by true = omega arith
    by false = omega arith

ends_own : (kit : Kit) (place : TextPlace) (k : ℕ) → sets k (ends_code kit place) ≡ same 0 k + same 1 k
ends_own kit place k = omega arith

answer_own : (kit : Kit) (place : TextPlace) (body : Piece) → Owns body → (l k : ℕ)
    → sets k (answer_code kit place body l) ≤ same 0 k + same 1 k + inside l (count_of body) k
answer_own kit place body own l k =
    omega (
      arith,
      sets_append k ((return_piece kit body).ended no_tail body_stand l) (ends_code kit place),
      ends_own kit place k,
      return_owns kit body own no_tail none_own body_stand k l,
    )

-- three labels, and those behind them
behind_three : (n k : ℕ) → same 0 k + same 1 k + same 2 k + inside 3 n k ≤ 1
behind_three n k = omega (arith, three_of 0 k, more_at 0 3 n 3 (3 + n) k (omega arith) (omega arith), once 0 (3 + n) k)

event_once : (kit : Kit) (place : TextPlace) (body : Piece) → Owns body → (k : ℕ) → sets k (event_code kit place body) ≤ 1
event_once kit place body own k = omega (arith, answer_own kit place body own 3 k, behind_three (count_of body) k)

called_once : (kit : Kit) (place : TextPlace) (measure : Option Piece) (body : Piece) → ((m : Piece) → measure ≡ Some m → Owns m) → Owns body → (k : ℕ)
    → sets k (called_code kit place measure body) ≤ 1
called_once kit place None body own_m own k =
    omega (
      arith,
      sets_append k (answer_code kit place body 3) [],
      answer_own kit place body own 3 k,
      behind_three (count_of body) k,
    )
called_once kit place (Some m) body own_m own k =
    let n : ℕ = count_of m in
    let c1 : List Instruction = code_of m measure_stand 3 in
    let c2 : List Instruction = I.Measure (from kit (Temp 0) kit.integer) ∷ [] in
    let c3 : List Instruction = answer_code kit place body (3 + n) in
    let c4 : List Instruction = I.Label 2 ∷ I.NoMeasure ∷ [] in
    omega (
      arith,
      sets_append k (c1 ++ c2) (c3 ++ c4),
      sets_append k c1 c2,
      sets_append k c3 c4,
      held_own m (own_m m refl) measure_stand k 3,
      answer_own kit place body own (3 + n) k,
      more_at 3 n (count_of body) (3 + n) (n + count_of body) k (omega arith) (omega arith),
      behind_three (n + count_of body) k,
    )

module _ (types : Types) (kit : Kit) (number : Sized → ℕ) (callees : Callees) (tables : Tables) (place : TextPlace) where
  abbrev code : Core → Piece
  code = piece types kit number callees tables

  measure_owns : (measure : Option Core) (m : Piece) → option_map code measure ≡ Some m → Owns m
  measure_owns None m e = cc
  measure_owns (Some c) m e = subst Owns (some_is (code c) m e) (node_owns types kit number callees tables c)

  result_owns : (last : ℕ) (body : Core) → Owns (result_of types kit number callees tables last body)
  result_owns last body = cast_owns kit number (tables.cases last 1) (tables.gives last) (code body) (node_owns types kit number callees tables body)

  pub functions_own : (measure : Option Core) (last : ℕ) (body : Core) (k : ℕ)
      → (sets k (called_code kit place (option_map code measure) (result_of types kit number callees tables last body)) ≤ 1)
      × (sets k (event_code kit place (result_of types kit number callees tables last body)) ≤ 1)
  functions_own measure last body k = (
    called_once kit place (option_map code measure) (result_of types kit number callees tables last body) (measure_owns measure) (result_owns last body) k,
    event_once kit place (result_of types kit number callees tables last body) (result_owns last body) k,
  )

-- ---- openings

module _ (types : Types) (kit : Kit) where
  source_owns : (a : Source) (t : Sized) → Owns (source_piece types kit a t)
  source_owns a t tail ot s k l = omega (arith, ot t k l)

  name_owns : (name : List ℕ) (t : Sized) → Owns (name_piece types kit name t)
  name_owns name t tail ot s k l = omega (arith, ot t k l)

  named_owns : (place : TextPlace) (i : ℕ) (whole : Sized) (arm : Arm) (text : List ℕ) (u : Sized)
      → Owns (named_piece types kit [] place i whole arm text u)
  named_owns place i whole arm text u =
      let_owns types kit kit.number [] (source_piece types kit (R.Let i) whole) arm (name_piece types kit text u) (MatchFailure place)
      (source_owns (R.Let i) whole) (name_owns text u)

  pub openings_own : (place : TextPlace) (k : ℕ)
      → ((number : Sized → ℕ) (callees : Callees) (tables : Tables) (value : Core)
      → sets k (event_code kit place (piece types kit number callees tables value)) ≤ 1)
      × ((i : ℕ) (whole : Sized) (arm : Arm) (text : List ℕ) (u : Sized)
      → sets k (event_code kit place (named_piece types kit [] place i whole arm text u)) ≤ 1)
  openings_own place k = (
    λ number callees tables value.
        event_once kit place (piece types kit number callees tables value) (node_owns types kit number callees tables value) k,
    λ i whole arm text u. event_once kit place (named_piece types kit [] place i whole arm text u) (named_owns place i whole arm text u) k,
  )
