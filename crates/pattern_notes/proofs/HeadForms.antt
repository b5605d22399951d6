-- Patterns that open a value, of values that they open and of others.
use Rattle.std.proofs.Common.{◌≡◌, sym, refl, ap, ◌∙◌, ℕ, List, Option, length}
use Rattle.sail_base.specs.declared.place.Place.{Place}
use Rattle.sail_types.specs.Named.{payload}
use Rattle.sail_types.specs.declared.numbers.Index.{Index}
use Rattle.sail_types.specs.declared.numbers.Num.{Num}
use Rattle.sail_core.specs.declared.patterns.Head.{Head}
use Rattle.sail_core.specs.declared.patterns.Head.TheVariants as H
use Rattle.value_indices.specs.Steps.{Walk}
use Rattle.value_indices.specs.declared.indices.Indices.{Indices, out-Indices, roll-Indices}
use Rattle.value_indices.specs.declared.indices.Indices.TheOpen as W
use Rattle.value_indices.specs.declared.indices.Indices.TheOpen.{Indices-F}
use Rattle.value_indices.specs.declared.indices.Indices.TheVariants as I
use Rattle.value_indices.specs.declared.indices.Indices.TheViews.{roll-out-Indices}
use Rattle.value_indices.specs.declared.indices.Reading.{Reading}
use Rattle.pattern_leaves.specs.declared.names.Bound.{Bound}
use Rattle.pattern_leaves.proofs.Opened.{out_bits, out_list, out_named, out_tuple, out_vector}
use Rattle.pattern_leaves.specs.Literals.{wrong_pattern}
use Rattle.pattern_leaves.specs.Payloads.{payload_types, payload_readings}
use Rattle.pattern_leaves.specs.Settings.{Around}
use Rattle.pattern_notes.specs.declared.matching.Matching.{Matching}
use Rattle.pattern_notes.specs.Patterns.{Look, constructor_met, cons_met, cut_met, head_met, is_union, items_met, opens_met, parts_match, union_met, vector_met}

module _ (place : Place) (ps : List Look) (around : Around) (how : Matching) (i : Indices) where
  -- what a head makes of a form
  abbrev met : Head → Indices-F Indices Reading → Walk (List Bound)
  met head f = head_met place head ps around how f

  -- ---- values that a head opens, with their parts as the code has them

  pub tuple_met : (parts xs : List Indices) → i ≡ I.Tuple parts → xs ≡ parts → met H.Tuple (out-Indices i) ≡ parts_match place ps around how xs
  tuple_met parts xs is same = ap (met H.Tuple) (out_tuple i parts is) ∙ ap (parts_match place ps around how) (sym same)

  pub named_met : (u c v : ℕ) (numbers ns : List Index) (types rs : List Reading) → i ≡ I.Named v numbers types → ns ≡ numbers → rs ≡ types
      → met (H.Constructor u c) (out-Indices i)
      ≡ union_met place (is_union around u v rs)
      (constructor_met place ps around how (payload_readings (payload_types (length ps) (payload around.types u c)) ns rs))
  named_met u c v numbers ns types rs is same like =
      ap (met (H.Constructor u c)) (out_named i v numbers types is)
      ∙ (λ j. union_met place (is_union around u v (sym like j))
      (constructor_met place ps around how (payload_readings (payload_types (length ps) (payload around.types u c)) (sym same j) (sym like j))))

  pub items_of : (n : Num) (item r : Reading) → i ≡ I.Vector n item → r ≡ item → met H.Vector (out-Indices i) ≡ vector_met place ps around how n r
  items_of n item r is same = ap (met H.Vector) (out_vector i n item is) ∙ ap (vector_met place ps around how n) (sym same)

  pub list_met : (item r : Reading) → i ≡ I.List item → r ≡ item → met H.List (out-Indices i) ≡ items_met place ps around how r
  list_met item r is same = ap (met H.List) (out_list i item is) ∙ ap (items_met place ps around how) (sym same)

  pub first_met : (item r : Reading) → i ≡ I.List item → r ≡ item → met H.Cons (out-Indices i) ≡ cons_met place ps around how r
  first_met item r is same = ap (met H.Cons) (out_list i item is) ∙ ap (cons_met place ps around how) (sym same)

  pub bits_met : (ws : List (Option Num)) (w : Num) → i ≡ I.Bits w → met (H.Cut ws) (out-Indices i) ≡ cut_met place ps around how ws w
  bits_met ws w is = ap (met (H.Cut ws)) (out_bits i w is)

  -- ---- values that it doesn't

  tuple_form : (f : Indices-F Indices Reading) → i ≡ roll-Indices f → ((parts : List Indices) → i ≡ I.Tuple parts → ⊥)
      → met H.Tuple f ≡ wrong_pattern place
  tuple_form (W.Tuple parts) at differs = absurd (differs parts (at ∙ I.rolls-Tuple parts))
  tuple_form f at differs = refl

  pub not_tuple : ((parts : List Indices) → i ≡ I.Tuple parts → ⊥) → met H.Tuple (out-Indices i) ≡ wrong_pattern place
  not_tuple differs = tuple_form (out-Indices i) (sym (roll-out-Indices i)) differs

  named_form : (u c : ℕ) (f : Indices-F Indices Reading) → i ≡ roll-Indices f
      → ((v : ℕ) (ns : List Index) (rs : List Reading) → i ≡ I.Named v ns rs → ⊥) → met (H.Constructor u c) f ≡ wrong_pattern place
  named_form u c (W.Named v ns rs) at differs = absurd (differs v ns rs (at ∙ I.rolls-Named v ns rs))
  named_form u c f at differs = refl

  pub not_named : (u c : ℕ) → ((v : ℕ) (ns : List Index) (rs : List Reading) → i ≡ I.Named v ns rs → ⊥)
      → met (H.Constructor u c) (out-Indices i) ≡ wrong_pattern place
  not_named u c differs = named_form u c (out-Indices i) (sym (roll-out-Indices i)) differs

  vector_form : (f : Indices-F Indices Reading) → i ≡ roll-Indices f → ((n : Num) (r : Reading) → i ≡ I.Vector n r → ⊥)
      → met H.Vector f ≡ wrong_pattern place
  vector_form (W.Vector n r) at differs = absurd (differs n r (at ∙ I.rolls-Vector n r))
  vector_form f at differs = refl

  pub not_vector : ((n : Num) (r : Reading) → i ≡ I.Vector n r → ⊥) → met H.Vector (out-Indices i) ≡ wrong_pattern place
  not_vector differs = vector_form (out-Indices i) (sym (roll-out-Indices i)) differs

  list_form : (f : Indices-F Indices Reading) → i ≡ roll-Indices f → ((r : Reading) → i ≡ I.List r → ⊥) → met H.List f ≡ wrong_pattern place
  list_form (W.List r) at differs = absurd (differs r (at ∙ I.rolls-List r))
  list_form f at differs = refl

  pub not_list : ((r : Reading) → i ≡ I.List r → ⊥) → met H.List (out-Indices i) ≡ wrong_pattern place
  not_list differs = list_form (out-Indices i) (sym (roll-out-Indices i)) differs

  first_form : (f : Indices-F Indices Reading) → i ≡ roll-Indices f → ((r : Reading) → i ≡ I.List r → ⊥) → met H.Cons f ≡ wrong_pattern place
  first_form (W.List r) at differs = absurd (differs r (at ∙ I.rolls-List r))
  first_form f at differs = refl

  pub not_first : ((r : Reading) → i ≡ I.List r → ⊥) → met H.Cons (out-Indices i) ≡ wrong_pattern place
  not_first differs = first_form (out-Indices i) (sym (roll-out-Indices i)) differs

  bits_form : (ws : List (Option Num)) (f : Indices-F Indices Reading) → i ≡ roll-Indices f → ((w : Num) → i ≡ I.Bits w → ⊥)
      → met (H.Cut ws) f ≡ wrong_pattern place
  bits_form ws (W.Bits w) at differs = absurd (differs w (at ∙ I.rolls-Bits w))
  bits_form ws f at differs = refl

  pub not_bits : (ws : List (Option Num)) → ((w : Num) → i ≡ I.Bits w → ⊥) → met (H.Cut ws) (out-Indices i) ≡ wrong_pattern place
  not_bits ws differs = bits_form ws (out-Indices i) (sym (roll-out-Indices i)) differs

  opened_form : (head : Head) (f : Indices-F Indices Reading) → i ≡ roll-Indices f → (i ≡ I.Never → ⊥)
      → opens_met place head ps around how f ≡ met head f
  opened_form head W.Never at differs = absurd (differs (at ∙ I.rolls-Never))
  opened_form head f at differs = refl

  pub not_never : (head : Head) → (i ≡ I.Never → ⊥) → opens_met place head ps around how (out-Indices i) ≡ met head (out-Indices i)
  not_never head differs = opened_form head (out-Indices i) (sym (roll-out-Indices i)) differs
