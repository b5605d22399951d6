-- `[v with i = e]` and `[v with h .. l = e]` beside their runs.
use Rattle.std.proofs.Common.{◌≡◌, ◌∙◌, ℕ, ℤ, Bool, true, false, List, [], ◌∷◌, Option, Some, None, refl, sym, ap, subst}
use Rattle.sail_base.specs.declared.place.Place.{Place}
use Rattle.sail_types.specs.declared.numbers.Num.{Num}
use Rattle.sail_types.specs.declared.values.Value.{Value}
use Rattle.sail_core.specs.Making.{World, integer, made}
use Rattle.sail_core.specs.Meaning.{kind_meaning}
use Rattle.sail_core.specs.Run.{Now, Run, gives, goes_on, needs, ◌then◌}
use Rattle.sail_core.specs.Values.{item_way, slice_way}
use Rattle.sail_core.specs.declared.targets.Way.TheVariants as Y
use Rattle.sail_core.specs.declared.tree.Kind.TheVariants as K
use Rattle.value_indices.specs.Steps.{bind, give}
use Rattle.value_indices.specs.declared.indices.Indices.{Indices, out-Indices, roll-Indices}
use Rattle.value_indices.specs.declared.indices.Indices.TheOpen as W
use Rattle.value_indices.specs.declared.indices.Indices.TheOpen.{Indices-F}
use Rattle.value_indices.specs.declared.indices.Indices.TheVariants as I
use Rattle.value_indices.specs.declared.indices.Indices.TheViews.{roll-out-Indices}
use Rattle.value_indices.specs.declared.indices.Reading.{Reading}
use Rattle.value_indices.specs.declared.notes.Fact.{Fact}
use Rattle.pattern_leaves.specs.Settings.{Scope}
use Rattle.call_arguments.specs.Holes.{has_hole}
use Rattle.call_arguments.specs.declared.aims.Aim.{Aim}
use Rattle.call_arguments.specs.declared.aims.Aim.TheVariants as Aims
use Rattle.expression_forms.specs.Ways.{into_item, into_slice}
use Rattle.expression_forms.specs.declared.ways.Reached.{Reached}
use Rattle.expression_steps.specs.Expressions.{kind_walk}
use Rattle.expression_steps.specs.Parts.{Part, numbers_walk}
use Rattle.expression_steps.specs.Values.{numbers_updated, update_walk, updated}
use Rattle.checked_meaning.specs.Items.{Item}
use Rattle.value_laws.specs.Known.{Point}
use Rattle.soundness_steps.specs.Works.{Scene, here}
use Rattle.soundness_steps.specs.Steps.{Beside, Walks}
use Rattle.soundness_steps.specs.Values.{AimSteady, Comes, Is}
use Rattle.soundness_steps.proofs.Steps.{binds, given_back, regrouped, runs_as, walks_then}
use Rattle.soundness_forms.specs.Forms.{Fine, FitsSuffice}
use Rattle.soundness_forms.specs.Worlds.{Surrounds}
use Rattle.soundness_forms.proofs.Basics.{is_on}
use Rattle.soundness_forms.proofs.Casts.{comes_is, no_guard}
use Rattle.soundness_forms.proofs.Nodes.{settled_node}
use Rattle.soundness_forms.proofs.Worlds.{surrounds_on}
use Rattle.soundness_parts.proofs.HoledItems.{item_updated}
use Rattle.soundness_parts.proofs.Slices.{slice_part, slice_reached, slice_steady}
use Rattle.soundness_parts.proofs.SliceSteps.{OneTested, Ranges, Tests, TwoTested, one_test, pairs, pairs_then, range_walks, tests_on, two_tests, under}
use Rattle.soundness_parts.proofs.Suffixes.{bit_part, bit_reached, bit_steady, bit_whole, bits_whole, item_part, item_reached, items_steady, unreached}
use Rattle.soundness_parts.proofs.Taken.{z}
use Rattle.soundness_parts.proofs.Updates.{update_fine}

-- ---- what a node makes of the values of its parts

abbrev Made : Type 0
Made = List Item × Value

abbrev made_of : List Item → Value → Made
made_of xs v = (xs, v)

module _ (fit : FitsSuffice) (q : Scene) (w : World Item) (place : Place) (k : ℕ) where
  -- ---- a slice

  module _ (p b c d : Part) (rp rb rc rd : Run Item Item) (hp : Fine q w false false p rp) (hb : Fine q w false false b rb) (hc : Fine q w false false c rc)
      (hd : Fine q w false false d rd) where
    -- what is put there, behind the integers
    abbrev put_then : {A : Type 0} → (Made → Run Item A) → Item → Item → Item → ℤ → ℤ → Run Item A
    put_then g x y u hi lo = rd then λ new. needs ((slice_way hi lo).put_in x.val new.val) then λ v. g (made_of (x ∷ y ∷ u ∷ new ∷ []) v)

    abbrev ints_then : {A : Type 0} → (Made → Run Item A) → Item → Item → Item → Run Item A
    ints_then g x y u = integer (z q) y then λ hi. integer (z q) u then λ lo. put_then g x y u hi lo

    abbrev all_then : {A : Type 0} → (Made → Run Item A) → Run Item A
    all_then g = rp then λ x. rb then λ y. rc then λ u. ints_then g x y u

    abbrev make_it : Made → Run Item Item
    make_it m = (z q).make k m.0 m.1

    spread : (g : Made → Run Item Item) (now : Now Item) → (all_then (λ m. gives m) then g) now ≡ all_then g now
    spread g now =
        under (rp now) _ _ g (λ x n1. under (rb n1) _ _ g (λ y n2. under (rc n2) _ _ g (λ u n3. under (integer (z q) y n3) _ _ g (λ hi n4.
        under (integer (z q) u n4) _ _ g (λ lo n5. under (rd n5) _ _ g (λ new n6. under (needs ((slice_way hi lo).put_in x.val new.val) n6) _ _ g (λ v n7. refl)))))))

    slice_put : {n : ℕ} {f : Point n} {facts : List Fact} (scope : Scope) (i : Indices) (x y u : Item) (o : Option Reached) → Is q.set q.work f i x
        → Ranges q w scope place k i x f o y u → Surrounds q w f scope
        → Beside q n f facts (updated place k d (here q) scope i o) (ints_then make_it x y u) (λ m g j v. Is q.set q.work g j v)
    slice_put {n} {f} {facts} scope i x y u o h e there =
        let hi = e.is_high.integer_there in
        let lo = e.is_low.integer_there in
        subst (λ r. Beside q n f facts (updated place k d (here q) scope i r) (ints_then make_it x y u) (λ m g j v. Is q.set q.work g j v)) (sym e.same)
        (runs_as (λ now. ap (λ t. goes_on t (put_then make_it x y u hi)) (e.is_low.test now)
        ∙ ap (λ t. goes_on t (λ a. integer (z q) u then put_then make_it x y u a)) (e.is_high.test now)) (by (out-Indices i) (roll-out-Indices i)))
      where
        by : (form : Indices-F Indices Reading) → roll-Indices form ≡ i
            → Beside q n f facts (updated place k d (here q) scope i (into_slice e.high e.low e.width form))
            (put_then make_it x y u e.is_high.integer_there e.is_low.integer_there) (λ m g j v. Is q.set q.work g j v)
        by (W.Bits m) is =
            update_fine q w scope d rd hd place k i x h
            (slice_reached q place k i x h e.high e.low e.width y u e.is_high.integer_there e.is_low.integer_there e.is_high.counts e.is_low.counts e.wide m)
            (slice_way e.is_high.integer_there e.is_low.integer_there) (y ∷ u ∷ []) (e.is_high.counts.is_integer.typ, (e.is_low.counts.is_integer.typ, tt))
            (slice_part q place k i x h e.high e.low e.width y u e.is_high.integer_there e.is_low.integer_there e.is_high.counts e.is_low.counts e.wide m is) (
              slice_steady q place k i x h e.high e.low e.width y u e.is_high.integer_there e.is_low.integer_there e.is_high.counts e.is_low.counts e.wide,
              bits_whole e.width,
            ) there
        by form is = unreached place k i x h (put_then make_it x y u e.is_high.integer_there e.is_low.integer_there)

    slice_numbers : {n : ℕ} {f : Point n} {facts : List Fact} (scope : Scope) (i : Indices) (x : Item) (o : Option (List Num)) (v : Item × Item)
        → Is q.set q.work f i x → TwoTested q f o v.0 v.1 → Surrounds q w f scope
        → Beside q n f facts (numbers_updated place k Y.Slice d (here q) scope i o) (ints_then make_it x v.0 v.1) (λ m g j y. Is q.set q.work g j y)
    slice_numbers scope i x (Some (t ∷ s ∷ [])) v h e there =
        walks_then (updated place k d (here q) scope i) (range_walks q w scope place k i x t s v.0 v.1 e.0 e.1) (λ m g fs r l a.
        slice_put scope i x v.0 v.1 r (is_on l h) a (surrounds_on q w scope l there))
    slice_numbers scope i x None v h e there = absurd e
    slice_numbers scope i x (Some []) v h e there = absurd e
    slice_numbers scope i x (Some (t ∷ [])) v h e there = absurd e
    slice_numbers scope i x (Some (t ∷ s ∷ r ∷ ts)) v h e there = absurd e

    slice_walk : {n : ℕ} {f : Point n} {facts : List Fact} (scope : Scope) → Surrounds q w f scope
        → Beside q n f facts (update_walk place k Y.Slice p (b ∷ c ∷ []) d (here q) scope) (all_then make_it) (λ m g j y. Is q.set q.work g j y)
    slice_walk {n} {f} {facts} scope there =
        runs_as (λ now. (λ j. goes_on (rp now) (λ x n1. pairs_then q w scope b c rb rc hb hc (λ v. ints_then make_it x v.0 v.1) n1 j)))
        (binds (λ i. bind (numbers_walk (b ∷ c ∷ []) (here q) scope) (numbers_updated place k Y.Slice d (here q) scope i))
        (λ x. pairs q w scope b c rb rc hb hc then λ v. ints_then make_it x v.0 v.1)
        (hp.walks q.names q.may_fall no_guard n f facts scope Aims.Free there tt) (λ m g fs i x l e.
        binds (numbers_updated place k Y.Slice d (here q) scope i) (λ v. ints_then make_it x v.0 v.1)
        (two_tests q w scope b c rb rc hb hc (surrounds_on q w scope l there)) (λ j a gs o v l2 t.
        slice_numbers scope i x o v (is_on l2 (comes_is p.is_nested p.never_ends Aims.Free i x e)) t
        (surrounds_on q w scope l2 (surrounds_on q w scope l there)))))

    pub with_slice : {n : ℕ} {f : Point n} {facts : List Fact} (scope : Scope) (aim : Aim) → Surrounds q w f scope → AimSteady q.set q.work f aim
        → Beside q n f facts (kind_walk place k K.WithSlice (p ∷ b ∷ c ∷ d ∷ []) (here q) scope aim)
        (kind_meaning (z q) w place k K.WithSlice (rp ∷ rb ∷ rc ∷ rd ∷ [])) (λ m g i x. Comes q.set q.work g false false false aim i x)
    with_slice scope aim there st =
        runs_as (spread (λ m. made (z q) k m.0 m.1))
        (settled_node fit place k aim (all_then (λ m. gives m)) (λ m. m.0) (λ m. m.1) st
        (runs_as (λ now. sym (spread make_it now)) (slice_walk scope there)))

  -- ---- an item

  module _ (p b d : Part) (rp rb rd : Run Item Item) (hp : Fine q w false false p rp) (hb : Fine q w false false b rb)
      (hd : Fine q w false false d rd) where
    abbrev new_then : {A : Type 0} → (Made → Run Item A) → Item → Item → ℤ → Run Item A
    new_then g x y index = rd then λ new. needs ((item_way index).put_in x.val new.val) then λ v. g (made_of (x ∷ y ∷ new ∷ []) v)

    abbrev index_then : {A : Type 0} → (Made → Run Item A) → Item → Item → Run Item A
    index_then g x y = integer (z q) y then new_then g x y

    abbrev item_then : {A : Type 0} → (Made → Run Item A) → Run Item A
    item_then g = rp then λ x. rb then index_then g x

    abbrev make_item : Made → Run Item Item
    make_item m = (z q).make k m.0 m.1

    item_spread : (g : Made → Run Item Item) (now : Now Item) → (item_then (λ m. gives m) then g) now ≡ item_then g now
    item_spread g now =
        under (rp now) _ _ g (λ x n1. under (rb n1) _ _ g (λ y n2. under (integer (z q) y n2) _ _ g (λ index n3. under (rd n3) _ _ g (λ new n4.
        under (needs ((item_way index).put_in x.val new.val) n4) _ _ g (λ v n5. refl)))))

    item_put : {n : ℕ} {f : Point n} {facts : List Fact} (scope : Scope) (i : Indices) (x y : Item) (t : Num) (o : Option Reached) → Is q.set q.work f i x
        → Tests q f t y → o ≡ into_item t (out-Indices i) → Surrounds q w f scope
        → Beside q n f facts (updated place k d (here q) scope i o) (index_then make_item x y) (λ m g j v. Is q.set q.work g j v)
    item_put {n} {f} {facts} scope i x y t o h e same there =
        subst (λ r. Beside q n f facts (updated place k d (here q) scope i r) (index_then make_item x y) (λ m g j v. Is q.set q.work g j v)) (sym same)
        (runs_as (λ now. ap (λ a. goes_on a (new_then make_item x y)) (e.test now)) (by (out-Indices i) (roll-out-Indices i)))
      where
        by_item : (m : Num) (r : Reading) → roll-Indices (W.Vector m r) ≡ i → (b : Bool) → has_hole r ≡ b
            → Beside q n f facts (updated place k d (here q) scope i (into_item t (W.Vector m r))) (new_then make_item x y e.integer_there)
            (λ m g j v. Is q.set q.work g j v)
        by_item m r is false whole =
            update_fine q w scope d rd hd place k i x h (item_reached t m r) (item_way e.integer_there) (y ∷ []) (e.counts.is_integer.typ, tt)
            (item_part q i x h t e.integer_there e.counts.same m r is) (items_steady q i x m r is h, whole) there
        by_item m r is true holed =
            subst (λ j. Beside q n f facts (updated place k d (here q) scope j (into_item t (W.Vector m r))) (new_then make_item x y e.integer_there)
            (λ m g j v. Is q.set q.work g j v)) (sym (I.rolls-Vector m r) ∙ is)
            (item_updated fit q place k m r holed x t e.integer_there y w scope d rd hd
            (subst (λ j. Is q.set q.work f j x) (sym is ∙ I.rolls-Vector m r) h) e.counts.is_integer e.counts.same there)

        by : (form : Indices-F Indices Reading) → roll-Indices form ≡ i
            → Beside q n f facts (updated place k d (here q) scope i (into_item t form)) (new_then make_item x y e.integer_there)
            (λ m g j v. Is q.set q.work g j v)
        by (W.Bits m) is =
            update_fine q w scope d rd hd place k i x h (bit_reached t m) (item_way e.integer_there) (y ∷ []) (e.counts.is_integer.typ, tt)
            (bit_part q i x h t e.integer_there e.counts.same m is) (bit_steady q, bit_whole) there
        by (W.Vector m r) is = by_item m r is (has_hole r) refl
        by form is = unreached place k i x h (new_then make_item x y e.integer_there)

    item_numbers : {n : ℕ} {f : Point n} {facts : List Fact} (scope : Scope) (i : Indices) (x : Item) (o : Option (List Num)) (y : Item)
        → Is q.set q.work f i x → OneTested q f o y → Surrounds q w f scope
        → Beside q n f facts (numbers_updated place k Y.Item d (here q) scope i o) (index_then make_item x y) (λ m g j v. Is q.set q.work g j v)
    item_numbers {n} {f} {facts} scope i x (Some (t ∷ [])) y h e there =
        walks_then (updated place k d (here q) scope i) (found n f facts) (λ m g fs r l a.
        item_put scope i x y t r (is_on l h) (tests_on l e) a (surrounds_on q w scope l there))
      where
        found : (m : ℕ) (g : Point m) (fs : List Fact) → Walks q m g fs (give (into_item t (out-Indices i))) (λ a c r. r ≡ into_item t (out-Indices i))
        found m g fs = given_back (into_item t (out-Indices i)) refl
    item_numbers scope i x None y h e there = absurd e
    item_numbers scope i x (Some []) y h e there = absurd e
    item_numbers scope i x (Some (t ∷ s ∷ ts)) y h e there = absurd e

    item_walk : {n : ℕ} {f : Point n} {facts : List Fact} (scope : Scope) → Surrounds q w f scope
        → Beside q n f facts (update_walk place k Y.Item p (b ∷ []) d (here q) scope) (item_then make_item) (λ m g j y. Is q.set q.work g j y)
    item_walk {n} {f} {facts} scope there =
        binds (λ i. bind (numbers_walk (b ∷ []) (here q) scope) (numbers_updated place k Y.Item d (here q) scope i)) (λ x. rb then index_then make_item x)
        (hp.walks q.names q.may_fall no_guard n f facts scope Aims.Free there tt) (λ m g fs i x l e.
        regrouped rb gives (index_then make_item x)
        (binds (numbers_updated place k Y.Item d (here q) scope i) (index_then make_item x)
        (one_test q w scope b rb hb (surrounds_on q w scope l there)) (λ j a gs o y l2 t.
        item_numbers scope i x o y (is_on l2 (comes_is p.is_nested p.never_ends Aims.Free i x e)) t
        (surrounds_on q w scope l2 (surrounds_on q w scope l there)))))

    pub with_item : {n : ℕ} {f : Point n} {facts : List Fact} (scope : Scope) (aim : Aim) → Surrounds q w f scope → AimSteady q.set q.work f aim
        → Beside q n f facts (kind_walk place k K.WithItem (p ∷ b ∷ d ∷ []) (here q) scope aim)
        (kind_meaning (z q) w place k K.WithItem (rp ∷ rb ∷ rd ∷ [])) (λ m g i x. Comes q.set q.work g false false false aim i x)
    with_item scope aim there st =
        runs_as (item_spread (λ m. made (z q) k m.0 m.1))
        (settled_node fit place k aim (item_then (λ m. gives m)) (λ m. m.0) (λ m. m.1) st
        (runs_as (λ now. sym (item_spread make_item now)) (item_walk scope there)))
