-- One way of a target, beside its walk: the part that it reaches in a value that is foreseen.
use Rattle.std.proofs.Common.{◌≡◌, ◌∙◌, ℕ, ℤ, suc, false, List, [], ◌∷◌, if◌then◌else◌, length, take, drop, nat_lt, Option, Some, None, refl}
use Rattle.std.proofs.Common.{sym, ap, subst, arith}
use Rattle.std.proofs.lemmas.Bool.Decides.{nat_tests}
use Rattle.sail_base.specs.declared.place.Place.{Place}
use Rattle.sail_types.specs.declared.numbers.Num.{Num}
use Rattle.sail_types.specs.declared.values.Value.{Value}
use Rattle.sail_core.specs.Making.{World, integer}
use Rattle.sail_core.specs.Run.{Now, Run, gives, goes_on, stuck, ◌then◌}
use Rattle.sail_core.specs.Targets as Runs
use Rattle.sail_core.specs.Targets.{also, way_then}
use Rattle.sail_core.specs.Values.{Into, field_way, item_way, slice_way}
use Rattle.sail_core.specs.declared.targets.Way.{Way}
use Rattle.sail_core.specs.declared.targets.Way.TheVariants as Y
use Rattle.value_indices.specs.Steps.{bind, give}
use Rattle.value_indices.specs.declared.indices.Indices.{Indices, out-Indices, roll-Indices}
use Rattle.value_indices.specs.declared.indices.Indices.TheOpen as W
use Rattle.value_indices.specs.declared.indices.Indices.TheOpen.{Indices-F}
use Rattle.value_indices.specs.declared.indices.Indices.TheViews.{roll-out-Indices}
use Rattle.value_indices.specs.declared.indices.Reading.{Reading}
use Rattle.value_indices.specs.declared.notes.Fact.{Fact}
use Rattle.fitting_laws.proofs.Holes.{value_hole_is}
use Rattle.pattern_leaves.specs.Settings.{Scope}
use Rattle.call_arguments.specs.Holes.{value_has_hole}
use Rattle.expression_forms.specs.Ways.{into_field, into_item, into_slice}
use Rattle.expression_forms.specs.declared.ways.Reached.{Reached}
use Rattle.expression_steps.specs.Parts.{Part, numbers_walk}
use Rattle.expression_steps.specs.Values.{Taken, no_way, taken, way_taken, way_walk}
use Rattle.checked_meaning.specs.Items.{Item}
use Rattle.value_laws.specs.Known.{Point}
use Rattle.soundness_steps.specs.Points.{Later}
use Rattle.soundness_steps.specs.Works.{Scene, here}
use Rattle.soundness_steps.specs.Steps.{Beside, Walks}
use Rattle.soundness_steps.specs.Values.{Has, IsWanted}
use Rattle.soundness_steps.proofs.Steps.{binds, given_back, rests, runs_as, walks_on, walks_then}
use Rattle.soundness_steps.proofs.Points.{agree_on}
use Rattle.soundness_forms.specs.Forms.{AllFine, Fine}
use Rattle.soundness_forms.specs.Worlds.{Surrounds}
use Rattle.soundness_forms.proofs.Basics.{has_on, wanted_on, wrong_alone}
use Rattle.soundness_parts.proofs.Indexes.{OneIndex, one_index, paired}
use Rattle.soundness_parts.proofs.SliceSteps.{Ranges, TwoTested, pairs_then, range_walks, two_tests, under}
use Rattle.soundness_parts.proofs.Slices.{found_steady, slice_found}
use Rattle.soundness_parts.proofs.Suffixes.{bit_found, bit_steady, bit_whole, bits_whole, item_found, items_fixed}
use Rattle.soundness_parts.proofs.Taken.{HasThere, z}
use Rattle.soundness_values.specs.Named.{TypesNarrow}
use Rattle.soundness_targets.proofs.Fields.{field_is}

-- ---- what a way runs

module _ (q : Scene) where
  -- a way, and the runs that are left
  abbrev pub Stepped : Type 0
  Stepped = Into × List (Run Item Item)

  abbrev pub stepped : Into → List (Run Item Item) → Stepped
  stepped way rs = (way, rs)

  abbrev pub way_run : Way → List (Run Item Item) → Run Item Stepped
  way_run (Y.Field u c) rs = gives (stepped (field_way u c) rs)
  way_run Y.Item (a ∷ rs) = a then λ x. integer (z q) x then λ i. gives (stepped (item_way i) rs)
  way_run Y.Slice (a ∷ b ∷ rs) = a then λ x. b then λ y. integer (z q) x then λ hi. integer (z q) y then λ lo. gives (stepped (slice_way hi lo) rs)
  way_run way rs = stuck

  -- with the ways behind it
  abbrev pub with_more : Runs.Spotting Item (List Into) → Stepped → Run Item (Runs.Spotted Item (List Into))
  with_more more r = also r.0 (more r.1)

  pub way_as : (way : Way) (rs : List (Run Item Item)) (more : Runs.Spotting Item (List Into)) (now : Now Item)
      → (way_run way rs then with_more more) now ≡ way_then (z q) way rs more now
  way_as (Y.Field u c) rs more now = refl
  way_as Y.Item (a ∷ rs) more now =
      under (a now) _ _ (with_more more) (λ x n1. under (integer (z q) x n1) _ _ (with_more more) (λ i n2. refl))
  way_as Y.Item [] more now = refl
  way_as Y.Slice (a ∷ b ∷ rs) more now =
      under (a now) _ _ (with_more more) (λ x n1. under (b n1) _ _ (with_more more) (λ y n2. under (integer (z q) x n2) _ _ (with_more more) (λ hi n3.
      under (integer (z q) y n3) _ _ (with_more more) (λ lo n4. refl))))
  way_as Y.Slice [] more now = refl
  way_as Y.Slice (a ∷ []) more now = refl

  -- ---- the part that it reaches

  abbrev pub Whole : Indices → Type 0
  Whole i = value_has_hole i ≡ false

  abbrev pub PartThere : {n : ℕ} → Point n → Indices → Value → Option Reached → Into → Type 0
  PartThere f i u None way = Unit {0}
  PartThere f i u (Some x) way = HasThere q f i u x way × IsWanted q.set q.work f x.typ

  pub part_on : {n m : ℕ} {f : Point n} {g : Point m} (i : Indices) (u : Value) (x : Option Reached) (way : Into) → Later f g → PartThere f i u x way
      → PartThere g i u x way
  part_on i u None way l h = tt
  part_on i u (Some x) way l h = ((λ c a. h.0 c (agree_on l a)), wanted_on q.set q.work x.typ l h.1)

  -- and the parts of the assignment behind its indexes
  abbrev pub WayIs : (w : World Item) {n : ℕ} → Point n → Indices → Value → Option Taken → Stepped → Type 0
  WayIs w f i u o r = (x : Option Reached) × (ps : List Part) × (o ≡ taken x ps) × AllFine q w ps r.1 × PartThere f i u x r.0

-- fewer parts than a way takes are wrong
no_way_fine : {q : Scene} {n : ℕ} {f : Point n} {facts : List Fact} {B : Type 0} (place : Place) (c : Run Item B)
    {Then : (m : ℕ) → Point m → Option Taken → B → Type 0} → Beside q n f facts (no_way place) c Then
no_way_fine place c = wrong_alone place c

none_below : (k : ℕ) → nat_lt k 0 ≡ false
none_below k = grind (arith, nat_tests)

one_enough : (k : ℕ) → nat_lt (suc k) 1 ≡ false
one_enough k = grind (arith, nat_tests)

two_enough : (k : ℕ) → nat_lt (suc (suc k)) 2 ≡ false
two_enough k = grind (arith, nat_tests)

module _ (q : Scene) (w : World Item) (scope : Scope) (narrow : TypesNarrow q.set.around.types) (place : Place) (i : Indices) (u : Value) where
  -- ---- a field

  pub field_there : {n : ℕ} {f : Point n} (c d : ℕ) → Has q.set q.work f i u → Whole q i → (x : Option Reached) → into_field (here q) c d (out-Indices i) ≡ x
      → PartThere q f i u x (field_way c d)
  field_there c d h whole None e = tt
  field_there {n} {f} c d h whole (Some x) e = field_is q narrow f i u c d x h whole e

  field_fine : {n : ℕ} {f : Point n} {facts : List Fact} (c d : ℕ) (ps : List Part) (rs : List (Run Item Item)) → AllFine q w ps rs
      → Has q.set q.work f i u → Whole q i
      → Beside q n f facts (way_walk place ps (here q) scope i (Y.Field c d)) (gives (stepped q (field_way c d) rs)) (λ m g o r. WayIs q w g i u o r)
  field_fine {n} {f} {facts} c d ps rs fine h whole =
      let x : Option Reached = into_field (here q) c d (out-Indices i) in
      let none : Walks q n f facts (give (Some [])) (λ m g o. o ≡ Some []) = given_back (Some []) refl in
      subst (λ b. Beside q n f facts (if b then no_way place else bind (numbers_walk (take 0 ps) (here q) scope)
      (way_taken (here q) i (Y.Field c d) (drop 0 ps)))
      (gives (stepped q (field_way c d) rs)) (λ m g o r. WayIs q w g i u o r)) (sym (none_below (length ps)))
      (rests (stepped q (field_way c d) rs) (walks_on (way_taken (here q) i (Y.Field c d) ps) none (λ m g gs o l e.
      subst (λ s. Walks q m g gs (way_taken (here q) i (Y.Field c d) ps s) (λ j p b. WayIs q w p i u b (stepped q (field_way c d) rs))) (sym e)
      (walks_on (λ r. give (taken r ps)) (found m g gs x) (λ j p hs r l2 s.
      given_back (taken r ps) (
        x,
        ps,
        ap (λ y. taken y ps) s,
        fine,
        part_on q i u x (field_way c d) l2 (part_on q i u x (field_way c d) l (field_there c d h whole x refl)),
      ))))))
    where
      found : (m : ℕ) (g : Point m) (gs : List Fact) (r : Option Reached) → Walks q m g gs (give r) (λ j p b. b ≡ r)
      found m g gs r = given_back r refl

  -- ---- an index

  pub item_there : {n : ℕ} {f : Point n} (t : Num) (y : Item) (c : ℤ) → OneIndex q f (Some (t ∷ [])) y c → Has q.set q.work f i u → Whole q i
      → (form : Indices-F Indices Reading) → roll-Indices form ≡ i → PartThere q f i u (into_item t form) (item_way c)
  item_there t y c e h whole (W.Bits m) is = (bit_found q i u h t c e.same m is, (bit_steady q, bit_whole))
  item_there t y c e h whole (W.Vector m r) is =
      (item_found q i u h t c e.same m r is, (items_fixed q i u m r is h, sym (value_hole_is i (W.Vector m r) is) ∙ whole))
  item_there t y c e h whole form is = tt

  item_fine : {n : ℕ} {f : Point n} {facts : List Fact} (p : Part) (ps : List Part) (a : Run Item Item) (rs : List (Run Item Item))
      → Fine q w false false p a → AllFine q w ps rs → Surrounds q w f scope → Has q.set q.work f i u → Whole q i
      → Beside q n f facts (way_walk place (p ∷ ps) (here q) scope i Y.Item) (way_run q Y.Item (a ∷ rs)) (λ m g o r. WayIs q w g i u o r)
  item_fine {n} {f} {facts} p ps a rs fine fines there h whole =
      subst (λ b. Beside q n f facts (if b then no_way place else bind (numbers_walk (p ∷ []) (here q) scope) (way_taken (here q) i Y.Item ps))
      (way_run q Y.Item (a ∷ rs)) (λ m g o r. WayIs q w g i u o r)) (sym (one_enough (length ps)))
      (runs_as (λ now. paired (a now) (integer (z q)) (λ y c. gives (stepped q (item_way c) rs)))
      (binds (way_taken (here q) i Y.Item ps) (λ r. gives (stepped q (item_way r.1) rs)) (one_index q w p a fine scope there) (λ m g fs o r l e.
      rests (stepped q (item_way r.1) rs) (by o r.0 r.1 e (has_on l h)))))
    where
      by : {m : ℕ} {g : Point m} {fs : List Fact} (o : Option (List Num)) (y : Item) (c : ℤ) → OneIndex q g o y c → Has q.set q.work g i u
          → Walks q m g fs (way_taken (here q) i Y.Item ps o) (λ j p b. WayIs q w p i u b (stepped q (item_way c) rs))
      by {m} {g} {fs} (Some (t ∷ [])) y c e h2 =
          walks_on (λ x. give (taken x ps)) (given_back (into_item t (out-Indices i)) refl) (λ j p gs x l s.
          given_back (taken x ps) (
            into_item t (out-Indices i),
            ps,
            ap (λ b. taken b ps) s,
            fines,
            part_on q i u (into_item t (out-Indices i)) (item_way c) l (item_there t y c e h2 whole (out-Indices i) (roll-out-Indices i)),
          ))
      by None y c e h2 = absurd e
      by (Some []) y c e h2 = absurd e
      by (Some (t ∷ s ∷ ts)) y c e h2 = absurd e

  -- ---- a slice

  pub slice_there : {n : ℕ} {f : Point n} (k : ℕ) (x : Item) (y b : Item) (r : Option Reached) (e : Ranges q w scope place k i x f r y b)
      → Has q.set q.work f i u
      → (form : Indices-F Indices Reading) → roll-Indices form ≡ i
      → PartThere q f i u (into_slice e.high e.low e.width form) (slice_way e.is_high.integer_there e.is_low.integer_there)
  slice_there k x y b r e h (W.Bits m) is = (
    slice_found q i u h e.high e.low e.width y b e.is_high.integer_there e.is_low.integer_there e.is_high.counts e.is_low.counts e.wide m is,
    (
      found_steady q i u h e.high e.low e.width y b e.is_high.integer_there e.is_low.integer_there e.is_high.counts e.is_low.counts e.wide,
      bits_whole e.width,
    ),
  )
  slice_there k x y b r e h form is = tt

  abbrev ints : List (Run Item Item) → Item × Item → Run Item (Stepped q)
  ints rs v = integer (z q) v.0 then λ hi. integer (z q) v.1 then λ lo. gives (stepped q (slice_way hi lo) rs)

  slice_by : {n : ℕ} {f : Point n} {facts : List Fact} (ps : List Part) (rs : List (Run Item Item)) → AllFine q w ps rs → (o : Option (List Num))
      (v : Item × Item) → TwoTested q f o v.0 v.1 → Has q.set q.work f i u
      → Beside q n f facts (way_taken (here q) i Y.Slice ps o) (ints rs v) (λ m g d s. WayIs q w g i u d s)
  slice_by ps rs fines (Some (t ∷ s ∷ [])) v e h =
      let d : ℤ → ℤ → Run Item (Stepped q) = λ k l. gives (stepped q (slice_way k l) rs) in
      walks_then (λ x. give (taken x ps)) (range_walks q w scope place 0 i v.0 t s v.0 v.1 e.0 e.1) (λ m g fs x l r.
      let hi : ℤ = r.is_high.integer_there in
      let lo : ℤ = r.is_low.integer_there in
      runs_as (λ now. ap (λ c. goes_on c (d hi)) (r.is_low.test now) ∙ ap (λ c. goes_on c (λ k. integer (z q) v.1 then d k)) (r.is_high.test now))
      (rests (stepped q (slice_way hi lo) rs) (given_back (taken x ps) (
        into_slice r.high r.low r.width (out-Indices i),
        ps,
        ap (λ c. taken c ps) r.same,
        fines,
        slice_there 0 v.0 v.0 v.1 x r (has_on l h) (out-Indices i) (roll-out-Indices i),
      ))))
  slice_by ps rs fines None v e h = absurd e
  slice_by ps rs fines (Some []) v e h = absurd e
  slice_by ps rs fines (Some (t ∷ [])) v e h = absurd e
  slice_by ps rs fines (Some (t ∷ s ∷ r ∷ ts)) v e h = absurd e

  slice_fine : {n : ℕ} {f : Point n} {facts : List Fact} (p r : Part) (ps : List Part) (a b : Run Item Item) (rs : List (Run Item Item))
      → Fine q w false false p a → Fine q w false false r b → AllFine q w ps rs → Surrounds q w f scope → Has q.set q.work f i u
      → Beside q n f facts (way_walk place (p ∷ r ∷ ps) (here q) scope i Y.Slice) (way_run q Y.Slice (a ∷ b ∷ rs)) (λ m g o s. WayIs q w g i u o s)
  slice_fine {n} {f} {facts} p r ps a b rs first second fines there h =
      subst (λ c. Beside q n f facts (if c then no_way place else bind (numbers_walk (p ∷ r ∷ []) (here q) scope) (way_taken (here q) i Y.Slice ps))
      (way_run q Y.Slice (a ∷ b ∷ rs)) (λ m g o s. WayIs q w g i u o s)) (sym (two_enough (length ps)))
      (runs_as (pairs_then q w scope p r a b first second (ints rs))
      (binds (way_taken (here q) i Y.Slice ps) (ints rs) (two_tests q w scope p r a b first second there) (λ m g fs o v l e.
      slice_by ps rs fines o v e (has_on l h))))

  -- ---- any way

  pub way_fine : {n : ℕ} {f : Point n} {facts : List Fact} (way : Way) (ps : List Part) (rs : List (Run Item Item)) → AllFine q w ps rs
      → Surrounds q w f scope → Has q.set q.work f i u → Whole q i
      → Beside q n f facts (way_walk place ps (here q) scope i way) (way_run q way rs) (λ m g o s. WayIs q w g i u o s)
  way_fine (Y.Field c d) ps rs fine there h whole = field_fine c d ps rs fine h whole
  way_fine Y.Item (p ∷ ps) (a ∷ rs) fine there h whole = item_fine p ps a rs fine.0 fine.1 there h whole
  way_fine Y.Slice (p ∷ r ∷ ps) (a ∷ b ∷ rs) fine there h whole = slice_fine p r ps a b rs fine.0 fine.1.0 fine.1.1 there h
  way_fine Y.Item [] rs fine there h whole = no_way_fine place _
  way_fine Y.Slice [] rs fine there h whole = no_way_fine place _
  way_fine Y.Slice (p ∷ []) rs fine there h whole = no_way_fine place _
  way_fine Y.Item (p ∷ ps) [] fine there h whole = absurd fine
  way_fine Y.Slice (p ∷ r ∷ ps) [] fine there h whole = absurd fine
  way_fine Y.Slice (p ∷ r ∷ ps) (a ∷ []) fine there h whole = absurd fine.1
