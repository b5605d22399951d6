-- Literals, widths and exponents in patterns go through no mapping.
use Rattle.std.specs.Prelude.{ℕ, ℤ, pos, Bool, true, false, List, [], ◌∷◌, length, Some}
use Rattle.std.specs.Prelude.{Option, None}
use Rattle.sail_base.specs.declared.place.Place.{Place}
use Rattle.sail_types.specs.Sums.{constant}
use Rattle.sail_types.specs.declared.numbers.Num.{Num}
use Rattle.sail_core.specs.declared.patterns.Literal.{Literal}
use Rattle.sail_core.specs.declared.patterns.Literal.TheVariants as L
use Rattle.value_indices.specs.declared.indices.Indices.{Indices}
use Rattle.value_indices.specs.declared.indices.Indices.TheOpen as W
use Rattle.value_indices.specs.declared.indices.Indices.TheOpen.{Indices-F}
use Rattle.value_indices.specs.declared.indices.Reading.{Reading}
use Rattle.value_indices.specs.Opening.{equal}
use Rattle.sail_core.specs.declared.written.WrittenNumber.{WrittenNumber}
use Rattle.value_indices.specs.declared.notes.Fact.{Fact}
use Rattle.pattern_leaves.specs.Literals.{no_names, wrong_pattern, integer_met, is_of, met_where, bits_met, with_integer, with_bits, literal_met}
use Rattle.pattern_leaves.specs.Settings.{number_owed, exponents_owed, Around}
use Rattle.pattern_leaves.specs.Widths.{first_sum, cut_conditions, sized_bits, bits_part, cut_width, cut_owed}
use Rattle.note_laws.specs.Ways.{Told}
use Rattle.note_laws.proofs.Goes.{Goes, give_goes, bind_goes, note_goes, assume_goes, owe_goes, owe_under_goes, wrong_goes}
use Rattle.note_laws.proofs.OpeningGoes.{number_or_fresh_goes}

module _ (told : Told) where
  pub no_names_goes : Goes told no_names
  no_names_goes = give_goes told _

  pub wrong_pattern_goes : (place : Place) → Goes told (wrong_pattern place)
  wrong_pattern_goes place = bind_goes told _ _ (wrong_goes told place) (λ t. no_names_goes)

  pub exponents_owed_goes : (around : Around) (ns : List WrittenNumber) → Goes told (exponents_owed around ns)
  exponents_owed_goes around [] = give_goes told _
  exponents_owed_goes around (n ∷ ns) = bind_goes told _ _ (owe_goes told n.place (number_owed around n n.role)) (λ t. exponents_owed_goes around ns)

  pub integer_met_goes : (a : Bool) (z : ℤ) (n : Num) → Goes told (integer_met a z n)
  integer_met_goes true z n = bind_goes told _ _ (assume_goes told (equal n (constant z))) (λ t. no_names_goes)
  integer_met_goes false z n = no_names_goes

  pub with_integer_goes : (place : Place) (in_case : Bool) (n : Num) (literal : Literal) → Goes told (with_integer place in_case n literal)
  with_integer_goes place in_case n (L.Integer z) = integer_met_goes in_case z n
  with_integer_goes place in_case n literal = wrong_pattern_goes place

  pub bits_met_goes : (place : Place) (width : ℕ) (w : Num) → Goes told (bits_met place width w)
  bits_met_goes place width w = bind_goes told _ _ (owe_goes told place (Some (equal (constant (pos width)) w) ∷ [])) (λ t. no_names_goes)

  pub with_bits_goes : (place : Place) (w : Num) (literal : Literal) → Goes told (with_bits place w literal)
  with_bits_goes place w (L.Bits bits) = bits_met_goes place (length bits) w
  with_bits_goes place w literal = wrong_pattern_goes place

  pub met_where_goes : (place : Place) (b : Bool) → Goes told (met_where place b)
  met_where_goes place true = no_names_goes
  met_where_goes place false = wrong_pattern_goes place

  pub literal_met_goes : (place : Place) (in_case : Bool) (literal : Literal) (i : Indices-F Indices Reading)
      → Goes told (literal_met place in_case literal i)
  literal_met_goes place in_case literal W.Never = no_names_goes
  literal_met_goes place in_case literal (W.Integer n) = with_integer_goes place in_case n literal
  literal_met_goes place in_case literal (W.Bits w) = with_bits_goes place w literal
  literal_met_goes place in_case literal i = met_where_goes place (is_of literal i)

  pub sized_bits_goes : (place : Place) (n : Num) → Goes told (sized_bits place n)
  sized_bits_goes place n = bind_goes told _ _ (note_goes told _ (λ facts. tt)) (λ t. give_goes told _)

  pub bits_part_goes : (place : Place) (w : Option Num) → Goes told (bits_part place w)
  bits_part_goes place w = bind_goes told _ _ (number_or_fresh_goes told w) (sized_bits_goes place)

  pub cut_width_goes : (place : Place) (rest : Option Num) (w : Option Num) → Goes told (cut_width place rest w)
  cut_width_goes place rest None = bits_part_goes place rest
  cut_width_goes place rest (Some w) = bits_part_goes place (Some w)

  pub cut_owed_goes : (place : Place) (ws : List (Option Num)) (w : Num) (earlier : List Fact) → Goes told (cut_owed place ws w earlier)
  cut_owed_goes place ws w earlier = owe_under_goes told earlier place (cut_conditions w (first_sum ws) ws)
