-- Where the note of a size is met, the size is within the limit; and one that can't be said would be any integer.
use Rattle.std.proofs.Common.{◌≡◌, ℕ, ◌≤◌, ◌^◌, ℤ, pos, true, List, ap, sym, ◌∙◌, refl, subst, arith, Option, Some, None}
use Rattle.std.proofs.lemmas.Bool.{le-leb}
use Rattle.std.proofs.lemmas.Int.{ints}
use Rattle.sail_base.specs.declared.place.Place.{Place}
use Rattle.sail_types.specs.Belongs.{Reading as Closed}
use Rattle.sail_types.specs.Limits.{largest, is_small}
use Rattle.sail_types.specs.Numbers.{Positive, number}
use Rattle.sail_types.specs.declared.numbers.Num.{Num}
use Rattle.sail_types.specs.declared.table.Types.{Types}
use Rattle.value_indices.specs.declared.indices.Indices.{Indices, out-Indices}
use Rattle.value_indices.specs.declared.indices.Indices.TheOpen as W
use Rattle.value_indices.specs.declared.indices.Indices.TheVariants as I
use Rattle.value_indices.specs.declared.indices.Indices.TheViews.{out-roll-Indices}
use Rattle.value_indices.specs.declared.indices.Reading.{Reading}
use Rattle.value_indices.specs.declared.notes.Fact.{Fact}
use Rattle.value_indices.specs.Opening.{number_or_fresh}
use Rattle.value_indices.specs.Steps.{Walk, Note, bind, note}
use Rattle.value_laws.specs.Belonging.{Integers, standing}
use Rattle.value_laws.specs.Known.{Point, Agree, InForce, Goes, given_in}
use Rattle.value_laws.proofs.Knowing.{number_goes}
use Rattle.value_laws.proofs.Steps.{same, agree_on, gives, no_later}
use Rattle.call_notes.specs.Rows.{bits_at, vector_at}
use Rattle.row_laws.specs.Met.{IsSize, FormFits, AllMet}
use Rattle.row_laws.proofs.Goals.{met_behind}

none : {A B : Type 0} {x : A} → None ≡ Some x → B
none h = absurd (cc)

pub small_count : (n : ℕ) → n ≤ 4096 → is_small (pos n) ≡ true
unfolding largest
small_count n h = le-leb n (2 ^ 126) (omega arith)

-- a note changes nothing else
pub notes_pass : {past : Positive} {n : ℕ} {f : Point n} {facts : List Fact} (make : List Fact → Note) → Goes past n f facts (note make) (λ g t. Unit {0})
unfolding note
notes_pass {f} make = record {
  goes = record { point = f; later = no_later f; true_there = λ g a t. t; holds = λ g a. tt; given = refl };
}

-- what the variables of a walk stand for, and its notes, where it begins
pub record Here (past : Positive) (n : ℕ) (f : Point n) (facts : List Fact) (walk : Walk Indices) : Type 0 where
  pub force : (g : Integers) → Agree f g → InForce past g facts
  pub met : (g : Integers) → Agree f g → AllMet past (given_in facts) g (walk facts n).notes

-- ---- sizes that are said, and none past the limit

width_out : (past : Positive) (g : Integers) (t : Num) → FormFits (standing past g) (out-Indices (I.Bits t)) → IsSize (number (standing past g) t) 128
width_out past g t h = subst (FormFits (standing past g)) (ap out-Indices (sym (I.rolls-Bits t)) ∙ out-roll-Indices (W.Bits t)) h

past_width : {A : Type 0} → IsSize (pos 129) 128 → A
past_width h = let l = h.1 in absurd (omega (arith, ints, l))

length_out : (past : Positive) (g : Integers) (t : Num) (r : Reading) → FormFits (standing past g) (out-Indices (I.Vector t r))
    → IsSize (number (standing past g) t) 4096
length_out past g t r h = subst (FormFits (standing past g)) (ap out-Indices (sym (I.rolls-Vector t r)) ∙ out-roll-Indices (W.Vector t r)) h

past_length : {A : Type 0} → IsSize (pos 4097) 4096 → A
past_length h = let l = h.1 in absurd (omega (arith, ints, l))

small_length : is_small (pos 4097) ≡ true
unfolding largest
small_length = le-leb 4097 (2 ^ 126) (omega arith)

module _ (types : Types) (past : Positive) (own : List Closed) (place : Place) {n : ℕ} {f : Point n} {facts : List Fact} where
  said_goes : (u : Num) (z : ℤ) → ((g : Integers) → Agree f g → number (standing past g) u ≡ z)
      → Goes past n f facts (number_or_fresh (Some u)) (λ g t. number (standing past g) t ≡ z)
  unfolding number_or_fresh
  said_goes u z h = gives u h

  any_goes : (z : ℤ) → is_small z ≡ true → Goes past n f facts (number_or_fresh None) (λ g t. number (standing past g) t ≡ z)
  any_goes z small = number_goes types past own None z small (λ u e. none e)

  -- ---- widths

  width_met : (o : Option Num) (z : ℤ) → Goes past n f facts (number_or_fresh o) (λ g t. number (standing past g) t ≡ z)
      → Here past n f facts (bind (number_or_fresh o) (bits_at place)) → IsSize z 128
  unfolding bind note
  width_met o z r here =
      let p = r.goes in
      let g = p.point.integers in
      let a = same p.point in
      let b = agree_on p.later a in
      let t = (number_or_fresh o facts n).value in
      let m = met_behind past (given_in facts) g (number_or_fresh o facts n).notes _ (here.met g b) in
      subst (λ y. IsSize y 128) (p.holds g a) (width_out past g t (m.0 p.given (p.true_there g a (here.force g b))))

  pub width_room : (o : Option Num) (z : ℤ) → ((u : Num) → o ≡ Some u → (g : Integers) → Agree f g → number (standing past g) u ≡ z)
      → Here past n f facts (bind (number_or_fresh o) (bits_at place)) → IsSize z 128
  width_room (Some u) z h here = width_met (Some u) z (said_goes u z (h u refl)) here
  width_room None z h here = past_width (width_met None (pos 129) (any_goes (pos 129) (small_count 129 (omega arith))) here)

  -- ---- lengths

  length_met : (r : Reading) (o : Option Num) (z : ℤ) → Goes past n f facts (number_or_fresh o) (λ g t. number (standing past g) t ≡ z)
      → Here past n f facts (bind (number_or_fresh o) (vector_at place r)) → IsSize z 4096
  unfolding bind note
  length_met r o z w here =
      let p = w.goes in
      let g = p.point.integers in
      let a = same p.point in
      let b = agree_on p.later a in
      let t = (number_or_fresh o facts n).value in
      let m = met_behind past (given_in facts) g (number_or_fresh o facts n).notes _ (here.met g b) in
      subst (λ y. IsSize y 4096) (p.holds g a) (length_out past g t r (m.0 p.given (p.true_there g a (here.force g b))))

  pub length_room : (r : Reading) (o : Option Num) (z : ℤ) → ((u : Num) → o ≡ Some u → (g : Integers) → Agree f g → number (standing past g) u ≡ z)
      → Here past n f facts (bind (number_or_fresh o) (vector_at place r)) → IsSize z 4096
  length_room r (Some u) z h here = length_met r (Some u) z (said_goes u z (h u refl)) here
  length_room r None z h here = past_length (length_met r None (pos 4097) (any_goes (pos 4097) small_length) here)
