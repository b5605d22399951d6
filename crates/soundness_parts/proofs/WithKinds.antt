-- `{ e with f = v }` as a kind of node.
use Rattle.std.proofs.Common.{◌≡◌, ℕ, Bool, true, false, List, [], ◌∷◌, length, map, take, if◌then◌else◌, Option, Some, None, refl, sym, ap, ◌∙◌, subst}
use Rattle.std.specs.Prelude.{nat_eq}
use Rattle.std.proofs.lemmas.Bool.{and_parts}
use Rattle.std.proofs.lemmas.Bool.Decides.{Decides-eqb}
use Rattle.std.proofs.lemmas.List.{length-map}
use Rattle.sail_base.specs.declared.place.Place.{Place}
use Rattle.sail_types.specs.Named.{field_types, fields}
use Rattle.sail_types.specs.declared.numbers.Index.{Index}
use Rattle.sail_types.specs.declared.table.Field.{Field}
use Rattle.sail_types.specs.declared.types.Typ.{Typ}
use Rattle.sail_types.specs.declared.types.Typ.TheVariants as U
use Rattle.sail_core.specs.Making.{World}
use Rattle.sail_core.specs.Meaning.{kind_meaning}
use Rattle.sail_core.specs.Run as Runs
use Rattle.sail_core.specs.Run.{Ended, Run, gives, goes_on, in_turn, needs, ◌then◌}
use Rattle.sail_core.specs.Values.{with_of}
use Rattle.sail_core.specs.declared.tree.Kind.TheVariants as K
use Rattle.value_indices.specs.Steps.{bind, give, next_variable}
use Rattle.value_indices.specs.declared.indices.Indices.{Indices, out-Indices, roll-Indices}
use Rattle.value_indices.specs.declared.indices.Indices.TheOpen as W
use Rattle.value_indices.specs.declared.indices.Indices.TheOpen.{Indices-F}
use Rattle.value_indices.specs.declared.indices.Indices.TheVariants as I
use Rattle.value_indices.specs.declared.indices.Indices.TheViews.{out-roll-Indices, roll-out-Indices}
use Rattle.value_indices.specs.declared.indices.Reading.{Reading}
use Rattle.value_indices.specs.declared.indices.Reading.TheVariants as R
use Rattle.value_indices.specs.declared.notes.Fact.{Fact}
use Rattle.value_fits.specs.Fitting.{fits, owe_fit}
use Rattle.pattern_leaves.specs.Settings.{Around, Scope}
use Rattle.call_arguments.specs.Aims.{aimed, each_under}
use Rattle.call_arguments.specs.Callees.{part_aim}
use Rattle.call_arguments.specs.Holes.{types_without_holes}
use Rattle.call_arguments.specs.declared.aims.Aim.{Aim}
use Rattle.call_arguments.specs.declared.aims.Aim.TheVariants as Aims
use Rattle.call_notes.specs.Ends.{is_never_form}
use Rattle.call_notes.specs.Noted.{node_ended}
use Rattle.expression_forms.specs.Ways.{fields_of, is_struct, types_in}
use Rattle.expression_steps.specs.Calls.{part_aims, places_of}
use Rattle.expression_steps.specs.Expressions.{kind_walk}
use Rattle.expression_steps.specs.Filling.{any_holed, struct_holed, types_behind, with_ended, with_filled, with_made}
use Rattle.expression_steps.specs.Parts.{Part, each_walk}
use Rattle.expression_steps.specs.Values.{due_aims, new_aims, no_struct, one_for_each, some_aims, with_aims, with_behind, with_walk}
use Rattle.checked_meaning.specs.Items.{Item, vals}
use Rattle.value_laws.specs.Known.{Point}
use Rattle.value_laws.proofs.Basics.{no}
use Rattle.value_laws.proofs.Steps.{same}
use Rattle.fitting_laws.proofs.Holes.{of_full}
use Rattle.soundness_steps.specs.Works.{Scene, here}
use Rattle.soundness_steps.specs.Steps.{Beside, Grows, Walks}
use Rattle.soundness_steps.specs.Values.{AimSteady, AllTyped, Comes, Is, IsMet}
use Rattle.soundness_steps.proofs.Steps.{binds, given_back, runs_as, walks_then}
use Rattle.soundness_forms.specs.EachKind.{KindFine, node}
use Rattle.soundness_forms.specs.Forms.{AllFine, Fine, FitsSuffice, at}
use Rattle.soundness_forms.specs.Worlds.{Surrounds}
use Rattle.soundness_forms.proofs.Basics.{has_there, is_on, wrongs}
use Rattle.soundness_forms.proofs.Casts.{comes_is, no_guard}
use Rattle.soundness_forms.proofs.Growth.{grows_bind, grows_ended, grows_fits, grows_give, grows_wrong}
use Rattle.soundness_forms.proofs.JoinGrowth.{grows_next}
use Rattle.soundness_forms.proofs.Leaving.{aimed_is}
use Rattle.soundness_forms.proofs.Nodes.{node_ends, typed_on}
use Rattle.soundness_forms.proofs.Parts.{AllSteady, EachIs, all_have, are_typed, each_fine, not_never}
use Rattle.soundness_forms.proofs.PlainKinds.{fine_at, fine_by, settled_grows, wrong_fine}
use Rattle.soundness_forms.proofs.Worlds.{surrounds_on}
use Rattle.soundness_values.specs.Named.{TypesNarrow}
use Rattle.soundness_values.proofs.Narrowed.{AllNarrow, narrowed}
use Rattle.soundness_values.proofs.Dues.{parts_aimed, parts_due, taken_as}
use Rattle.soundness_values.proofs.Made.{parts_node}
use Rattle.soundness_values.proofs.MadeKinds.{all_at, all_values, each_grow}
use Rattle.soundness_values.proofs.NamedKinds.{all_taken}
use Rattle.soundness_values.proofs.NamedWalks.{arguments_are, named_has}
use Rattle.soundness_values.proofs.Stands.{AsMany, as_many}
use Rattle.soundness_parts.proofs.NamedTypes.{indices_stay, type_steady, types_stay}
use Rattle.soundness_parts.proofs.Taken.{z}
use Rattle.soundness_parts.proofs.WithFields.{AllFit, with_each}
use Rattle.soundness_parts.proofs.WithFilled.{Filled, fills}

-- ---- a value, and others behind it

led_rest : {C : Type 0} (x : Item) (m : List Item → Run Item C) (e : Ended Item (List Item))
    → goes_on e (λ xs. m (x ∷ xs)) ≡ goes_on (goes_on e (λ xs. gives (x ∷ xs))) m
led_rest x m (Runs.Gives xs now) = refl
led_rest x m (Runs.No now) = refl
led_rest x m (Runs.Returns v now) = refl
led_rest x m (Runs.Throws v now) = refl
led_rest x m (Runs.Stops cause now) = refl
led_rest x m Runs.Stuck = refl

led_then : {C : Type 0} (rest : Run Item (List Item)) (m : List Item → Run Item C) (e : Ended Item Item)
    → goes_on e (λ x. rest then λ xs. m (x ∷ xs)) ≡ goes_on (goes_on e (λ x. rest then λ xs. gives (x ∷ xs))) m
led_then rest m (Runs.Gives x now) = led_rest x m (rest now)
led_then rest m (Runs.No now) = refl
led_then rest m (Runs.Returns v now) = refl
led_then rest m (Runs.Throws v now) = refl
led_then rest m (Runs.Stops cause now) = refl
led_then rest m Runs.Stuck = refl

-- ---- behind the value

module _ (fit : FitsSuffice) (q : Scene) (w : World Item) (narrow : TypesNarrow q.set.around.types) (place : Place) (k u : ℕ) (ks : List ℕ) where
  abbrev making : List Item → Run Item Item
  making xs = needs (with_of u ks (vals xs)) then λ v. (z q).make k xs v

  abbrev ts : List Typ
  ts = fields_of (here q) u ks

  -- a value of no such struct
  no_struct_fine : {n : ℕ} {f : Point n} {facts : List Fact} (i : Indices) (x : Item) → Is q.set q.work f i x → (c : Run Item Item)
      → Beside q n f facts (no_struct place (out-Indices i)) c (λ m g j y. Is q.set q.work g j y)
  no_struct_fine {n} {f} {facts} i x h c = by (out-Indices i) refl
    where
      by : (form : Indices-F Indices Reading) → out-Indices i ≡ form → Beside q n f facts (no_struct place form) c (λ m g j y. Is q.set q.work g j y)
      by W.Never e = no (sym (not_never q.set q.work i x.val h.has) ∙ ap is_never_form e)
      by form e = wrongs place c

  module _ (js : List Index) (rs : List Reading) (many : length rs ≡ types_in (here q) u) (x : Item) (ps : List Part)
      (each : one_for_each ks ts (length ps) ≡ true) where
    abbrev old : Indices
    old = I.Named u js rs

    counts : (length ks ≡ length ts) × (length ps ≡ length ts)
    counts =
        let both = and_parts (nat_eq (length ks) (length ts)) (nat_eq (length ps) (length ts)) each in
        ((Decides-eqb (length ks) (length ts)).0 both.0, (Decides-eqb (length ps) (length ts)).0 both.1)

    given : AsMany ps ts
    given = as_many ps ts counts.1

    narrow_fields : (o : Option (List Field)) → fields q.set.around.types u ≡ o → (qs : List Reading) → length qs ≡ length rs → (fs : List Field)
        → o ≡ Some fs → AllNarrow (length qs) (field_types fs)
    narrow_fields o defined qs long fs e =
        subst (λ count. AllNarrow count (field_types fs)) (sym (long ∙ many)) ((narrowed q.set.around.types narrow).of_fields u fs (defined ∙ e))

    ends : {n : ℕ} {f : Point n} {facts : List Fact} (is : List Indices) (xs : List Item) (i : Indices) → Is q.set q.work f old x
        → AllTyped q.set q.work f is xs → Filled fit q place u js rs ts x.val f (vals xs) i
        → Beside q n f facts (node_ended k (old ∷ is) i) (making (x ∷ xs)) (λ m g j y. Is q.set q.work g j y)
    ends {n} {f} {facts} is xs i h typed d =
        let made = with_each q.set q.work js d.of_types f.integers u (fields q.set.around.types u) refl
        (narrow_fields (fields q.set.around.types u) refl d.of_types d.long) ks (vals xs) x.val counts.0 d.typed d.was in
        subst (λ o. Beside q n f facts (node_ended k (old ∷ is) i) (needs o then λ v. (z q).make k (x ∷ xs) v) (λ m g j y. Is q.set q.work g j y))
        (sym made.is_it)
        (subst (λ j. Beside q n f facts (node_ended k (old ∷ is) j) ((z q).make k (x ∷ xs) made.whole) (λ m g b y. Is q.set q.work g b y)) (sym d.is)
        (node_ends k (old ∷ is) (I.Named u js d.of_types) (x ∷ xs) made.whole (h.typ, typed)
        (named_has q.set q.work f u js d.of_types made.whole d.indices d.stay made.has_it)))

    -- ---- what is wanted of the others

    abbrev aims_of : Bool → List Aim
    aims_of b = if b then part_aims None ts else due_aims (each_under js rs ts)

    aims_long : (b : Bool) → length (aims_of b) ≡ length ts
    aims_long true = length-map ts (part_aim None)
    aims_long false = length-map (each_under js rs ts) (aimed Aims.Due) ∙ length-map ts (λ t. R.Of t js rs)

    module _ {n : ℕ} {f : Point n} (h : Is q.set q.work f old x) (whole : any_holed rs ≡ false) where
      due_is : (t : Typ) → aimed Aims.Due (R.Of t js rs) ≡ Aims.Due (R.Of t js rs)
      due_is t = aimed_is Aims.Due (R.Of t js rs) (of_full t js rs whole)

      dues_steady : (us : List Typ) → AllSteady q.set q.work f (due_aims (each_under js rs us))
      dues_steady [] = tt
      dues_steady (t ∷ us) = (
        subst (AimSteady q.set q.work f) (sym (due_is t)) (type_steady q.set q.work js rs f u x.val h.has t, of_full t js rs whole),
        dues_steady us,
      )

      dues_fit : (qs : List Part) (us : List Typ) (is : List Indices) (xs : List Item) → AsMany qs us
          → EachIs q.set q.work f qs (due_aims (each_under js rs us)) is xs → AllFit q.set q.work js rs f.integers us (vals xs)
      dues_fit [] [] [] [] c e = tt
      dues_fit (p ∷ qs) (t ∷ us) (i ∷ is) (y ∷ xs) c e =
          ((subst (λ a. IsMet q.set q.work f a p.is_nested y.val) (due_is t) e.1) f.integers (same f), dues_fit qs us is xs c e.2)
      dues_fit [] (t ∷ us) is xs c e = absurd c
      dues_fit (p ∷ qs) [] is xs c e = absurd c
      dues_fit [] [] (i ∷ is) xs c e = absurd e
      dues_fit [] [] [] (y ∷ xs) c e = absurd e
      dues_fit (p ∷ qs) (t ∷ us) [] xs c e = absurd e
      dues_fit (p ∷ qs) (t ∷ us) (i ∷ is) [] c e = absurd e

    aims_steady : {n : ℕ} {f : Point n} → Is q.set q.work f old x → (b : Bool) → any_holed rs ≡ b → AllSteady q.set q.work f (aims_of b)
    aims_steady {f = f} h true e = parts_aimed q.set q.work f None tt ts
    aims_steady h false e = dues_steady h e ts

    made_by : {n : ℕ} {f : Point n} {facts : List Fact} → Is q.set q.work f old x → (b : Bool) → any_holed rs ≡ b → (is : List Indices) (xs : List Item)
        → EachIs q.set q.work f ps (aims_of b) is xs
        → Walks q n f facts (if b then with_filled (here q) place ts old is (out-Indices old) else give old)
        (λ m g i. Filled fit q place u js rs ts x.val g (vals xs) i)
    made_by {f = f} h true e is xs found =
        let due = parts_due q.set q.work f None ps ts is xs given found in
        let have = all_have q.set q.work f ps (part_aims None ts) is xs found in
        fills fit q place u js rs ts x.val h.has is (vals xs) have (map (λ (t : Typ). false) ts)
        (arguments_are q f (places_of ps) ts is (vals xs) due.1 have)
    made_by {f = f} h false e is xs found = given_back old (record {
      of_types = rs;
      is = refl;
      long = refl;
      indices = indices_stay q.set q.work js rs f u x.val h.has;
      stay = types_stay q.set q.work js rs f u x.val h.has;
      was = has_there h.has f.integers (same f);
      typed = dues_fit h e ps ts is xs given found;
    })

    holed_is : struct_holed (out-Indices old) ≡ any_holed rs
    holed_is = ap struct_holed (ap out-Indices (sym (I.rolls-Named u js rs)) ∙ out-roll-Indices (W.Named u js rs))

    behind_fine : {n : ℕ} {f : Point n} {facts : List Fact} (scope : Scope) (runs : List (Run Item Item)) → Is q.set q.work f old x → AllFine q w ps runs
        → Surrounds q w f scope
        → Beside q n f facts (with_behind place k u ks ps (here q) scope old (Some (new_aims ts js rs))) (in_turn runs then λ xs. making (x ∷ xs))
        (λ m g j y. Is q.set q.work g j y)
    behind_fine {n} {f} {facts} scope runs h fine there =
        let b = any_holed rs in
        let all : take (length (aims_of b)) ps ≡ ps = ap (λ l. take l ps) (aims_long b) ∙ taken_as ps ts given in
        binds (with_ended (here q) place k u ks old) (λ xs. making (x ∷ xs))
        (subst (λ us. Beside q n f facts (each_walk us (here q) scope (aims_of b)) (in_turn runs) (λ m g is xs. EachIs q.set q.work g ps (aims_of b) is xs))
        (sym all) (each_fine q w scope ps runs fine (aims_of b) there (aims_steady h b refl))) (λ m g fs is xs l e.
        walks_then (node_ended k (old ∷ is))
        (subst (λ c. Walks q m g fs (if c then with_filled (here q) place ts old is (out-Indices old) else give old)
        (λ d p i. Filled fit q place u js rs ts x.val p (vals xs) i)) (sym holed_is) (made_by (is_on l h) b refl is xs e)) (λ m2 g2 fs2 i l2 d.
        ends is xs i (is_on l2 (is_on l h)) (typed_on q.set q.work is xs l2 (are_typed q.set q.work g ps (aims_of b) is xs e)) d))

  -- ---- by the form of the value

  module _ {n : ℕ} {f : Point n} (facts : List Fact) (scope : Scope) (ps : List Part) (runs : List (Run Item Item)) (fine : AllFine q w ps runs)
      (there : Surrounds q w f scope) (i : Indices) (x : Item) (h : Is q.set q.work f i x) where
    abbrev Ends : Option (List Aim) → Type 0
    Ends o = Beside q n f facts (with_behind place k u ks ps (here q) scope i o) (in_turn runs then λ xs. making (x ∷ xs))
        (λ m g j y. Is q.set q.work g j y)

    none_there : Ends None
    none_there = no_struct_fine i x h (in_turn runs then λ xs. making (x ∷ xs))

    by_count : (js : List Index) (rs : List Reading) → I.Named u js rs ≡ i → length rs ≡ types_in (here q) u → (b : Bool)
        → one_for_each ks ts (length ps) ≡ b → Ends (if b then Some (new_aims ts js rs) else None)
    by_count js rs rolls many false e = none_there
    by_count js rs rolls many true e =
        subst (λ j. Beside q n f facts (with_behind place k u ks ps (here q) scope j (Some (new_aims ts js rs))) (in_turn runs then λ xs. making (x ∷ xs))
        (λ m g d y. Is q.set q.work g d y)) rolls
        (behind_fine js rs many x ps e scope runs (subst (λ j. Is q.set q.work f j x) (sym rolls) h) fine there)

    by_struct : (s : ℕ) (js : List Index) (rs : List Reading) → I.Named s js rs ≡ i → (b : Bool) → is_struct (here q) u s rs ≡ b
        → Ends (if b then some_aims ks ts (length ps) js rs else None)
    by_struct s js rs rolls false e = none_there
    by_struct s js rs rolls true e =
        let both = and_parts (nat_eq u s) (nat_eq (length rs) (types_in (here q) u)) e in
        let own : u ≡ s = (Decides-eqb u s).0 both.0 in
        by_count js rs (ap (λ t. I.Named t js rs) own ∙ rolls) ((Decides-eqb (length rs) (types_in (here q) u)).0 both.1)
        (one_for_each ks ts (length ps)) refl

    by_form : (form : Indices-F Indices Reading) → roll-Indices form ≡ i → Ends (with_aims (here q) u ks (length ps) form)
    by_form (W.Named s js rs) e = by_struct s js rs (sym (I.rolls-Named s js rs) ∙ e) (is_struct (here q) u s rs) refl
    by_form form e = none_there

    value_fine : Ends (with_aims (here q) u ks (length ps) (out-Indices i))
    value_fine = by_form (out-Indices i) (roll-out-Indices i)

  with_fine : {n : ℕ} (f : Point n) (facts : List Fact) (scope : Scope) (aim : Aim) → Surrounds q w f scope → AimSteady q.set q.work f aim → (p : Part)
      (ps : List Part) (r : Run Item Item) (runs : List (Run Item Item)) → Fine q w false false p r → AllFine q w ps runs
      → Beside q n f facts (kind_walk place k (K.With u ks) (p ∷ ps) (here q) scope aim) (kind_meaning (z q) w place k (K.With u ks) (r ∷ runs))
      (λ m g i x. Comes q.set q.work g false false false aim i x)
  with_fine {n} f facts scope aim there st p ps r runs first fine =
      parts_node fit place k aim (in_turn (r ∷ runs)) (λ xs. needs (with_of u ks (vals xs))) st
      (runs_as (λ now. led_then (in_turn runs) making (r now))
      (binds (λ i. with_behind place k u ks ps (here q) scope i (with_aims (here q) u ks (length ps) (out-Indices i)))
      (λ x. in_turn runs then λ xs. making (x ∷ xs))
      (first.walks q.names q.may_fall no_guard n f facts scope Aims.Free there tt) (λ m g fs i x l c.
      value_fine fs scope ps runs fine (surrounds_on q w scope l there) i x (comes_is p.is_nested p.never_ends Aims.Free i x c))))

-- ---- what was in force still is

module _ (around : Around) (place : Place) (k u : ℕ) (ks : List ℕ) where
  filled_grows : (us : List Typ) (i : Indices) (is : List Indices) (form : Indices-F Indices Reading) → Grows (with_filled around place us i is form)
  filled_grows us i is (W.Named v js rs) =
      grows_bind next_variable _ grows_next (λ m.
      let qs = types_behind m us rs is in
      let whole = R.Widened (I.Named v js (types_without_holes qs)) in
      let parts = R.Of (U.Tuple us) js (types_without_holes qs) in
      grows_bind (owe_fit place (fits around.types (I.Tuple is) parts)) (λ t. bind (owe_fit place (fits around.types i whole)) (λ b. give (I.Named v js qs)))
      (grows_fits place around.types (I.Tuple is) parts) (λ t.
      grows_bind (owe_fit place (fits around.types i whole)) (λ b. give (I.Named v js qs)) (grows_fits place around.types i whole) (λ b.
      grows_give (I.Named v js qs))))
  filled_grows us i is W.Never = grows_give i
  filled_grows us i is W.Unit = grows_give i
  filled_grows us i is W.Bit = grows_give i
  filled_grows us i is (W.Bits t) = grows_give i
  filled_grows us i is (W.Integer t) = grows_give i
  filled_grows us i is (W.Truth c) = grows_give i
  filled_grows us i is W.String = grows_give i
  filled_grows us i is (W.List s) = grows_give i
  filled_grows us i is (W.Vector t s) = grows_give i
  filled_grows us i is (W.Tuple js) = grows_give i
  filled_grows us i is (W.Variable v) = grows_give i

  made_grows : (i : Indices) (is : List Indices) → Grows (with_made around place u ks i is)
  made_grows i is = by (struct_holed (out-Indices i))
    where
      by : (b : Bool) → Grows (if b then with_filled around place (fields_of around u ks) i is (out-Indices i) else give i)
      by true = filled_grows (fields_of around u ks) i is (out-Indices i)
      by false = grows_give i

  no_struct_grows : (form : Indices-F Indices Reading) → Grows (no_struct place form)
  no_struct_grows W.Never = grows_give I.Never
  no_struct_grows form = grows_wrong place

  module _ (q : Scene) (w : World Item) (scope : Scope) (ps : List Part) (runs : List (Run Item Item)) (fine : AllFine q w ps runs) where
    behind_grows : (i : Indices) (o : Option (List Aim)) → Grows (with_behind place k u ks ps around scope i o)
    behind_grows i None = no_struct_grows (out-Indices i)
    behind_grows i (Some aims) =
        grows_bind (each_walk (take (length aims) ps) around scope aims) (with_ended around place k u ks i)
        (each_grow q w (take (length aims) ps) (take (length aims) runs) (all_taken q w (length aims) ps runs fine) around scope aims) (λ is.
        grows_bind (with_made around place u ks i is) (node_ended k (i ∷ is)) (made_grows i is) (grows_ended k (i ∷ is)))

-- ---- the kind

module _ (fit : FitsSuffice) (q : Scene) (w : World Item) (narrow : TypesNarrow q.set.around.types) (u : ℕ) (ks : List ℕ) where
  with_by : (place : Place) (k : ℕ) (ps : List Part) (runs : List (Run Item Item)) → AllFine q w ps runs
      → Fine q w false false (node q w place k (K.With u ks) ps) (kind_meaning (z q) w place k (K.With u ks) runs)
  with_by place k [] runs h = wrong_fine q w false false true place k (node q w place k (K.With u ks) []) _ (λ around scope. refl) (λ around scope aim. refl)
  with_by place k (p ∷ ps) (r ∷ runs) h =
      fine_by q w false false (node q w place k (K.With u ks) (p ∷ ps)) (kind_meaning (z q) w place k (K.With u ks) (r ∷ runs)) (λ around scope. refl)
      (λ names falls g n f facts scope aim there st.
      with_fine fit (at q w names falls) w narrow place k u ks f facts scope aim there st p ps r runs (fine_at q w names falls h.0)
      (all_at q w names falls ps runs h.1))
      (λ around scope aim. settled_grows around place k aim (with_walk place k u ks p ps around scope)
      (grows_bind (p.walk around scope Aims.Free)
      (λ i. with_behind place k u ks ps around scope i (with_aims around u ks (length ps) (out-Indices i)))
      (h.0.grows around scope Aims.Free) (λ i.
      behind_grows around place k u ks q w scope ps runs h.1 i (with_aims around u ks (length ps) (out-Indices i)))))
  with_by place k (p ∷ ps) [] h = absurd h

  pub with_kind : KindFine q w (K.With u ks)
  with_kind place k ss ps runs h right = with_by place k ps runs (all_values q w ss ps runs right h)
