-- The ways into what is read late, by the numbers of their indexes, for a value that is foreseen.
use Rattle.std.proofs.Common.{◌≡◌, ◌∙◌, ◌++◌, ◌-◌, ℕ, true, List, [], ◌∷◌, length, slice_get, take, Option, Some, None, refl, sym, subst}
use Rattle.std.proofs.lemmas.List.{append_assoc}
use Rattle.sail_base.specs.declared.place.Place.{Place}
use Rattle.sail_types.specs.declared.numbers.Num.{Num}
use Rattle.sail_types.specs.declared.values.Value.{Value}
use Rattle.sail_core.specs.Making.{World}
use Rattle.sail_core.specs.Values.{Into, slice_way}
use Rattle.sail_core.specs.declared.targets.Suffix.{Suffix}
use Rattle.sail_core.specs.declared.targets.Way.{Way}
use Rattle.sail_core.specs.declared.targets.Way.TheVariants as Y
use Rattle.value_indices.specs.Steps.{Walk, bind, give}
use Rattle.value_indices.specs.declared.indices.Indices.{Indices, out-Indices, roll-out-Indices}
use Rattle.value_indices.specs.declared.notes.Fact.{Fact}
use Rattle.pattern_leaves.specs.Settings.{Around, Scope}
use Rattle.expression_forms.specs.Ways.{into_field, into_item, into_slice, suffix_read}
use Rattle.expression_forms.specs.declared.ways.Ends.{Ends}
use Rattle.expression_forms.specs.declared.ways.Reached.{Reached}
use Rattle.expression_steps.specs.Targets.{Onward, its_numbers, last_late, late_reached, onward_to, other_numbers, part_late, read_late, suffixes_late}
use Rattle.expression_steps.specs.Values.{reached_by, slice_reached}
use Rattle.expression_steps.specs.declared.late.Late.{Late}
use Rattle.checked_meaning.specs.Items.{Item}
use Rattle.value_laws.specs.Known.{Point}
use Rattle.soundness_steps.specs.Points.{Later}
use Rattle.soundness_steps.specs.Steps.{AllMet, Walks}
use Rattle.soundness_steps.specs.Values.{Has}
use Rattle.soundness_steps.specs.Works.{Scene, here}
use Rattle.soundness_steps.proofs.Points.{later_on}
use Rattle.soundness_steps.proofs.Steps.{given_back, walks_mean, walks_on}
use Rattle.soundness_forms.proofs.Basics.{has_on}
use Rattle.soundness_parts.proofs.SliceSteps.{tests_on}
use Rattle.soundness_parts.proofs.Slices.{EndsAre, width_walks}
use Rattle.soundness_values.specs.Named.{TypesNarrow}
use Rattle.soundness_targets.proofs.LateIndexes.{WayNumbers, WaysAre, ways_on}
use Rattle.soundness_targets.proofs.PartAssigned.{split_last}
use Rattle.soundness_targets.proofs.Spots.{Inside, WayThere, inside_on, last_there, more_there, reads_into, walks_with}
use Rattle.soundness_targets.proofs.Ways.{PartThere, Whole, field_there, item_there, slice_there}

-- walks one behind the other, put together otherwise
walks_regrouped : {q : Scene} {n : ℕ} {f : Point n} {facts : List Fact} {A B C : Type 0} (w : Walk A) (k : A → Walk B) (l : B → Walk C)
    {Holds : (m : ℕ) → Point m → C → Type 0} → Walks q n f facts (bind w (λ a. bind (k a) l)) Holds → Walks q n f facts (bind (bind w k) l) Holds
unfolding bind
walks_regrouped {q} {n} {f} {facts} w k l b = record {
  go = λ noted stands met.
      let first = w facts n in
      let second = k first.value first.facts first.next in
      let third = l second.value second.facts second.next in
      b.go noted stands (subst (AllMet q) (append_assoc first.notes second.notes third.notes) met);
}

walks_start : {q : Scene} {n : ℕ} {f : Point n} {facts : List Fact} {A C : Type 0} (a : A) (k : A → Walk C) {Holds : (m : ℕ) → Point m → C → Type 0}
    → Walks q n f facts (k a) Holds → Walks q n f facts (bind (give a) k) Holds
unfolding bind give
walks_start a k b = record { go = b.go }

module _ (q : Scene) (w : World Item) (scope : Scope) (narrow : TypesNarrow q.set.around.types) where
  -- ---- what a way reaches by its numbers

  module _ {n : ℕ} {f : Point n} (place : Place) (i : Indices) (u : Value) (h : Has q.set q.work f i u) (whole : Whole q i) where
    way_reached : {facts : List Fact} (way : Way) (ns : List Num) (t : Into) → WayNumbers q f way ns t
        → Walks q n f facts (reached_by (here q) i way ns) (λ m g x. PartThere q g i u x t)
    way_reached (Y.Field c d) ns t e =
        let x : Option Reached = into_field (here q) c d (out-Indices i) in
        given_back x (subst (λ s. PartThere q f i u x s) (sym e) (field_there q w scope narrow place i u c d h whole x refl))
    way_reached Y.Item (s ∷ []) t e =
        let x : Option Reached = into_item s (out-Indices i) in
        given_back x (subst (λ c. PartThere q f i u x c) (sym e.3)
        (item_there q w scope narrow place i u s e.0 e.1 e.2 h whole (out-Indices i) (roll-out-Indices i)))
    way_reached {facts} Y.Slice (a ∷ b ∷ []) t e =
        walks_on (slice_reached i) (width_walks q a b e.2.integer_there e.3.integer_there e.2.counts.same e.3.counts.same) (λ m g fs o l k. behind fs o l k)
      where
        behind : {m : ℕ} {g : Point m} (fs : List Fact) (o : Option Ends) → Later f g
            → EndsAre q a b e.2.integer_there e.3.integer_there e.2.counts.same e.3.counts.same g o
            → Walks q m g fs (slice_reached i o) (λ j d x. PartThere q d i u x t)
        behind fs None l k = absurd k
        behind {m} {g} fs (Some ends) l k =
            given_back (into_slice ends.high ends.low ends.width (out-Indices i))
            (subst (λ c. PartThere q g i u (into_slice ends.high ends.low ends.width (out-Indices i)) c) (sym e.4)
            (subst (λ x. PartThere q g i u x (slice_way e.2.integer_there e.3.integer_there))
            (λ j. into_slice (sym k.0 j) (sym k.1 j) ends.width (out-Indices i))
            (slice_there q w scope narrow place i u 0 e.0 e.0 e.1 (into_slice a b ends.width (out-Indices i)) (record {
              high = a;
              low = b;
              width = ends.width;
              is_high = tests_on l e.2;
              is_low = tests_on l e.3;
              wide = k.2;
              same = refl;
            }) (has_on l h) (out-Indices i) (roll-out-Indices i))))
    way_reached Y.Item [] t e = absurd e
    way_reached Y.Item (a ∷ b ∷ ns) t e = absurd e
    way_reached Y.Slice [] t e = absurd e
    way_reached Y.Slice (a ∷ []) t e = absurd e
    way_reached Y.Slice (a ∷ b ∷ c ∷ ns) t e = absurd e

  -- ---- suffix after suffix

  module _ (s : Suffix) where
    abbrev pub LateIs : {n : ℕ} → Point n → Indices → Value → List Into → Option Late → Type 0
    LateIs g i u ts o = (x : Option Reached) × (o ≡ Some (late_reached s x)) × WayThere q g i u ts x

    late_last : {n : ℕ} {f : Point n} {facts : List Fact} (ns : List Num) (ts : List Into) (i : Indices) (u : Value) → WaysAre q f (s ∷ []) ns ts
        → Has q.set q.work f i u → Whole q i → Walks q n f facts (last_late (here q) s (onward_to ns i)) (λ m g o. LateIs g i u ts o)
    late_last ns [] i u e h whole = absurd e
    late_last ns (t ∷ ts) i u e h whole =
        walks_on (λ x. give (Some (late_reached s x))) (way_reached s.place i u h whole s.way (its_numbers s ns) t e.0) (λ m g fs x l p.
        given_back (Some (late_reached s x))
        (x, refl, subst (λ r. WayThere q g i u (t ∷ r) x) (sym e.1) (last_there q g i u t x p)))

    late_ways : (ss : List Suffix) {n : ℕ} {f : Point n} {facts : List Fact} (ns : List Num) (ts : List Into) (i : Indices) (u : Value)
        → WaysAre q f (ss ++ s ∷ []) ns ts → Has q.set q.work f i u → Whole q i
        → Walks q n f facts (bind (read_late (here q) ss ns i) (last_late (here q) s)) (λ m g o. LateIs g i u ts o)
    late_ways [] ns ts i u e h whole = walks_start (onward_to ns i) (last_late (here q) s) (late_last ns ts i u e h whole)
    late_ways (r ∷ ss) ns [] i u e h whole = absurd e
    late_ways (r ∷ ss) {n} {f} {facts} ns (t ∷ ts) i u e h whole =
        let rest : Indices → Walk Onward = read_late (here q) ss (other_numbers r ns) in
        let reads : Option Reached → Walk Indices = suffix_read true r.place r.number i in
        walks_regrouped (reached_by (here q) i r.way (its_numbers r ns)) (λ x. bind (reads x) rest) (last_late (here q) s)
        (walks_on (λ x. bind (bind (reads x) rest) (last_late (here q) s)) (way_reached r.place i u h whole r.way (its_numbers r ns) t e.0) (λ m g fs x l p.
        walks_regrouped (reads x) rest (last_late (here q) s)
        (walks_on (λ j. bind (rest j) (last_late (here q) s)) (reads_into q r.place i u (has_on l h) x t p) (λ m2 g2 fs2 j l2 k.
        behind k.1
        (late_ways ss (other_numbers r ns) ts j k.0 (ways_on q (ss ++ s ∷ []) (other_numbers r ns) ts (later_on l l2) e.1) k.1.has_part k.1.whole)))))
      where
        behind : {m : ℕ} {g : Point m} {fs : List Fact} {j : Indices} {v : Value} {walk : Walk (Option Late)} → Inside q g i u t j v
            → Walks q m g fs walk (λ d p o. LateIs p j v ts o) → Walks q m g fs walk (λ d p o. LateIs p i u (t ∷ ts) o)
        behind {j = j} {v = v} inside walks =
            walks_mean (λ d p o c. (c.2.0, c.2.1, more_there q p i j u v t ts c.2.0 (inside_on q c.0 inside) c.2.2)) (walks_with (λ o. Unit {0}) tt walks)

  -- the last of them
  abbrev pub last_of : Suffix → List Suffix → Suffix
  last_of s ss = (split_last s ss).0

  pub part_ways : (place : Place) (s : Suffix) (ss : List Suffix) {n : ℕ} {f : Point n} {facts : List Fact} (ns : List Num) (ts : List Into) (i : Indices)
      (u : Value) → WaysAre q f (s ∷ ss) ns ts → Has q.set q.work f i u → Whole q i
      → Walks q n f facts (part_late place (s ∷ ss) (here q) ns i) (λ m g o. LateIs (last_of s ss) g i u ts o)
  part_ways place s ss {n} {f} {facts} ns ts i u e h whole =
      let r = split_last s ss in
      subst (λ (walk : Walk (Option Late)). Walks q n f facts walk (λ m g o. LateIs r.0 g i u ts o))
      (λ j. suffixes_late place (here q) (sym r.2 j) (sym r.3 j) ns i)
      (late_ways r.0 r.1 ns ts i u (subst (λ c. WaysAre q f c ns ts) r.4 e) h whole)

-- it is there, whatever is in force
module _ (around : Around) (place : Place) (ns : List Num) (i : Indices) where
  found_some : (s : Suffix) (ss : List Suffix) (facts : List Fact) (n : ℕ)
      → (x : Option Reached) × ((suffixes_late place around (Some s) ss ns i facts n).value ≡ Some (late_reached s x))
  unfolding bind give
  found_some s ss facts n =
      let o = read_late around ss ns i facts n in
      ((reached_by around o.value.value s.way (its_numbers s o.value.numbers) o.facts o.next).value, refl)

  found_by : (o : Option Suffix) (s : Suffix) (ss : List Suffix) → o ≡ Some s → (facts : List Fact) (n : ℕ)
      → (x : Option Reached) × ((suffixes_late place around o ss ns i facts n).value ≡ Some (late_reached s x))
  found_by o s ss e facts n =
      let k = found_some s ss facts n in
      (k.0, (λ j. (suffixes_late place around (e j) ss ns i facts n).value) ∙ k.1)

  pub late_found : (s : Suffix) (ss : List Suffix) (facts : List Fact) (n : ℕ)
      → (x : Option Reached) × ((part_late place (s ∷ ss) around ns i facts n).value ≡ Some (late_reached (split_last s ss).0 x))
  late_found s ss facts n =
      let r = split_last s ss in
      found_by (slice_get (s ∷ ss) (length (s ∷ ss) - 1)) r.0 (take (length (s ∷ ss) - 1) (s ∷ ss)) r.2 facts n
