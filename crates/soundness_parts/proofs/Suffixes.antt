-- Suffixes beside their runs: an index takes out a bit or an item.
use Rattle.std.proofs.Common.{◌≡◌, ℕ, ℤ, Bool, false, List, [], ◌∷◌, if◌then◌else◌, sym, ap, ◌∙◌, subst}
use Rattle.sail_base.specs.declared.place.Place.{Place}
use Rattle.sail_types.specs.Numbers.{number}
use Rattle.sail_types.specs.declared.numbers.Num.{Num}
use Rattle.sail_types.specs.declared.values.Value.{Value}
use Rattle.sail_core.specs.Meaning.{taken}
use Rattle.sail_core.specs.Run.{Run}
use Rattle.sail_core.specs.Values.{item_way}
use Rattle.value_indices.specs.declared.indices.Indices.{Indices, fold-roll-Indices, out-Indices, roll-Indices}
use Rattle.value_indices.specs.declared.indices.Indices.TheOpen as W
use Rattle.value_indices.specs.declared.indices.Indices.TheOpen.{Indices-F}
use Rattle.value_indices.specs.declared.indices.Indices.TheVariants as I
use Rattle.value_indices.specs.declared.indices.Indices.TheViews.{roll-out-Indices}
use Rattle.value_indices.specs.declared.indices.Reading.{Reading}
use Rattle.value_indices.specs.declared.indices.Reading.TheVariants as R
use Rattle.value_indices.specs.declared.notes.Fact.{Fact}
use Rattle.fitting_laws.proofs.Holes.{widened_full}
use Rattle.call_arguments.specs.Holes.{has_hole, type_holed, value_has_hole, value_holed}
use Rattle.call_notes.specs.Ends.{never_value, wrong_value}
use Rattle.expression_forms.specs.Ways.{if_never_value, inside_length, into_item, taken_out}
use Rattle.expression_forms.specs.declared.ways.Reached.{Reached}
use Rattle.checked_meaning.specs.Items.{Item}
use Rattle.value_laws.specs.Belonging.{Integers, standing}
use Rattle.value_laws.specs.Known.{Point, Agree}
use Rattle.value_laws.proofs.Opening.{item_steady, readings_of}
use Rattle.value_laws.proofs.Steps.{same}
use Rattle.value_laws.proofs.Values.{meant_is}
use Rattle.way_laws.specs.Laws.{HasPart}
use Rattle.way_laws.proofs.Items.{bit_there, item_there}
use Rattle.way_laws.proofs.Parts.{bit_type}
use Rattle.soundness_steps.specs.Works.{Scene}
use Rattle.soundness_steps.specs.Steps.{Beside}
use Rattle.soundness_steps.specs.Values.{Has, Is, IsSteady}
use Rattle.soundness_forms.proofs.Basics.{has_there, wrongs}
use Rattle.soundness_forms.proofs.Parts.{not_never}
use Rattle.soundness_parts.proofs.Taken.{HasThere, taken_fine, z}

-- a bit, and an item

abbrev pub bit_reached : Num → Num → Reached
bit_reached t m = record { conditions = inside_length t m; numbers = t ∷ []; typ = R.Widened I.Bit }

abbrev pub item_reached : Num → Num → Reading → Reached
item_reached t m r = record { conditions = inside_length t m; numbers = t ∷ []; typ = r }

-- ---- types of bits have no hole

pub bits_whole : (t : Num) → has_hole (R.Widened (I.Bits t)) ≡ false
bits_whole t = widened_full (I.Bits t) (ap value_has_hole (sym (I.rolls-Bits t)) ∙ fold-roll-Indices Bool Bool value_holed type_holed (W.Bits t))

pub bit_whole : has_hole (R.Widened I.Bit) ≡ false
bit_whole = widened_full I.Bit (ap value_has_hole (sym I.rolls-Bit) ∙ fold-roll-Indices Bool Bool value_holed type_holed W.Bit)

module _ (q : Scene) {n : ℕ} {f : Point n} where
  -- ---- types of parts are one and the same

  pub bit_steady : IsSteady q.set q.work f (R.Widened I.Bit)
  bit_steady g a =
      bit_type q.set.around.types (standing q.set.past g) q.work.types
      ∙ sym (bit_type q.set.around.types (standing q.set.past f.integers) q.work.types)

  pub items_fixed : (i : Indices) (v : Value) (m : Num) (r : Reading) → roll-Indices (W.Vector m r) ≡ i → Has q.set q.work f i v
      → IsSteady q.set q.work f r
  items_fixed i v m r is h g a =
      item_steady q.set.around.types q.set.past q.work.types g f.integers r (
      ap (λ k. readings_of q.set.around.types q.set.past q.work.types k.wide) (
      sym (meant_is q.set.around.types (standing q.set.past g) q.work.types i (W.Vector m r) is)
      ∙ (h.steady g a
      ∙ (sym (h.steady f.integers (same f))
      ∙ meant_is q.set.around.types (standing q.set.past f.integers) q.work.types i (W.Vector m r) is))))

  pub items_steady : (i : Indices) (x : Item) (m : Num) (r : Reading) → roll-Indices (W.Vector m r) ≡ i → Is q.set q.work f i x → IsSteady q.set q.work f r
  items_steady i x m r is h = items_fixed i x.val m r is h.has

-- ---- the bit, the item, of the type that the walk says

module _ (q : Scene) {n : ℕ} {f : Point n} (i : Indices) (v : Value) (h : Has q.set q.work f i v) (t : Num) (index : ℤ)
    (counts : (g : Integers) → Agree f g → number (standing q.set.past g) t ≡ index) where
  pub bit_found : (m : Num) → roll-Indices (W.Bits m) ≡ i → HasThere q f i v (bit_reached t m) (item_way index)
  bit_found m is = λ g a met.
      subst (λ c. HasPart q.set.around.types (standing q.set.past g) q.work.types i v (R.Widened I.Bit) (item_way c)) (counts g a)
      (bit_there q.set.around.types (standing q.set.past g) q.work.types i v t m is (has_there h g a) met)

  pub item_found : (m : Num) (r : Reading) → roll-Indices (W.Vector m r) ≡ i → HasThere q f i v (item_reached t m r) (item_way index)
  item_found m r is = λ g a met.
      subst (λ c. HasPart q.set.around.types (standing q.set.past g) q.work.types i v r (item_way c)) (counts g a)
      (item_there q.set.around.types (standing q.set.past g) q.work.types i v t m r is (has_there h g a) met)

module _ (q : Scene) {n : ℕ} {f : Point n} (i : Indices) (x : Item) (h : Is q.set q.work f i x) (t : Num) (index : ℤ)
    (counts : (g : Integers) → Agree f g → number (standing q.set.past g) t ≡ index) where
  pub bit_part : (m : Num) → roll-Indices (W.Bits m) ≡ i → HasThere q f i x.val (bit_reached t m) (item_way index)
  bit_part m is = bit_found q i x.val h.has t index counts m is

  pub item_part : (m : Num) (r : Reading) → roll-Indices (W.Vector m r) ≡ i → HasThere q f i x.val (item_reached t m r) (item_way index)
  item_part m r is = item_found q i x.val h.has t index counts m r is

module _ {q : Scene} {n : ℕ} {f : Point n} {facts : List Fact} (place : Place) (k : ℕ) (i : Indices) (x : Item) (h : Is q.set q.work f i x) where
  -- of a value that has no such part what is false is owed
  pub unreached : (c : Run Item Item) → Beside q n f facts (if_never_value place i) c (λ m g j y. Is q.set q.work g j y)
  unreached c =
      subst (λ b. Beside q n f facts (if b then never_value else wrong_value place) c (λ m g j y. Is q.set q.work g j y))
      (sym (not_never q.set q.work i x.val h.has)) (wrongs place c)

  -- ---- an index

  module _ (t : Num) (y : Item) (index : ℤ) (is_index : Is q.set q.work f (I.Integer t) y)
      (counts : (g : Integers) → Agree f g → number (standing q.set.past g) t ≡ index) where
    item_by : (w : Indices-F Indices Reading) → roll-Indices w ≡ i
        → Beside q n f facts (taken_out place k i (into_item t w)) (taken (z q) k (item_way index) x (y ∷ [])) (λ m g j u. Is q.set q.work g j u)
    item_by (W.Bits m) is =
        taken_fine place k i x (bit_reached t m) (item_way index) (y ∷ []) h (is_index.typ, tt) (bit_part q i x h t index counts m is) (bit_steady q)
    item_by (W.Vector m r) is =
        taken_fine place k i x (item_reached t m r) (item_way index) (y ∷ []) h (is_index.typ, tt) (item_part q i x h t index counts m r is) (items_steady q i x m r is h)
    item_by w is = unreached (taken (z q) k (item_way index) x (y ∷ []))

    pub item_fine : Beside q n f facts (taken_out place k i (into_item t (out-Indices i))) (taken (z q) k (item_way index) x (y ∷ []))
        (λ m g j u. Is q.set q.work g j u)
    item_fine = item_by (out-Indices i) (roll-out-Indices i)
