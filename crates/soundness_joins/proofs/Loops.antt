-- `while` and `repeat`, beside their runs.
use Rattle.std.proofs.Common.{◌≡◌, ℕ, pos, negsuc, suc, ℤ, Bool, true, false, ◌&&◌, List, [], ◌∷◌, ◌++◌, Some, None, refl, sym, ap, ◌∙◌}
use Rattle.std.specs.Prelude.{int_le}
use Rattle.std.proofs.lemmas.Bool.{and_parts}
use Rattle.sail_base.specs.declared.place.Place.{Place}
use Rattle.sail_types.specs.Belongs.{Readings as Closeds, assigned, belongs, reading}
use Rattle.sail_types.specs.Limits.{is_small}
use Rattle.sail_types.specs.Numbers.{Assignment, number}
use Rattle.sail_types.specs.Sums.{zero_num}
use Rattle.sail_types.specs.declared.numbers.Num.{Num}
use Rattle.sail_types.specs.declared.types.Typ.TheOpen as T
use Rattle.sail_types.specs.declared.types.Typ.TheVariants as U
use Rattle.sail_types.specs.declared.values.Value.{Value, Value-F, out-Value}
use Rattle.sail_types.specs.declared.values.Value.TheOpen as V
use Rattle.sail_types.proofs.Substituted.{number_constant}
use Rattle.sail_core.specs.Making.{World, integer, natural, nothing}
use Rattle.sail_core.specs.Meaning.{kind_meaning, repeat, while}
use Rattle.sail_core.specs.Run as R
use Rattle.sail_core.specs.Run.{Now, Run, goes_on, if_so, needs, stuck, ◌then◌}
use Rattle.sail_core.specs.Values.{form_integer, int_typ, natural_of}
use Rattle.sail_core.specs.declared.patterns.Literal.TheVariants as L
use Rattle.sail_core.specs.declared.tree.Kind.TheVariants as K
use Rattle.value_indices.specs.Opening.{largest_num}
use Rattle.value_indices.specs.Steps.{Walk, bind, give, scoped}
use Rattle.value_indices.specs.declared.indices.Indices.{Indices, out-Indices, roll-Indices}
use Rattle.value_indices.specs.declared.indices.Indices.TheFolds.{fold-roll-Reading}
use Rattle.value_indices.specs.declared.indices.Indices.TheOpen as W
use Rattle.value_indices.specs.declared.indices.Indices.TheOpen.{Indices-F}
use Rattle.value_indices.specs.declared.indices.Indices.TheVariants as I
use Rattle.value_indices.specs.declared.indices.Indices.TheViews.{roll-out-Indices}
use Rattle.value_indices.specs.declared.indices.Reading.{Reading}
use Rattle.value_indices.specs.declared.indices.Reading.TheVariants as Readings
use Rattle.value_indices.specs.declared.notes.Fact.{Fact}
use Rattle.pattern_leaves.specs.Settings.{Around, Scope}
use Rattle.call_arguments.specs.Holes.{has_hole, type_holed, value_holed}
use Rattle.call_arguments.specs.declared.aims.Aim.{Aim}
use Rattle.call_arguments.specs.declared.aims.Aim.TheVariants as Aims
use Rattle.call_notes.specs.Ends.{integer_number, number_form}
use Rattle.expression_forms.specs.Truths.{truth_of}
use Rattle.expression_steps.specs.Expressions.{kind_walk}
use Rattle.expression_steps.specs.Parts.{Part, truth_walk}
use Rattle.expression_steps.specs.Statements.{loop_walk, measure_walk, measured as measured_walk, natural_type}
use Rattle.checked_meaning.specs.Items.{Item}
use Rattle.value_laws.specs.Belonging.{closeds, standing}
use Rattle.value_laws.specs.Known.{Point}
use Rattle.value_laws.proofs.Arguments.{assigned_there}
use Rattle.value_laws.proofs.Basics.{no}
use Rattle.value_laws.proofs.Steps.{same}
use Rattle.value_laws.proofs.Values.{belongs_form, closed_is, form_asked}
use Rattle.soundness_steps.specs.Points.{Later}
use Rattle.soundness_steps.proofs.Points.{later_on}
use Rattle.soundness_steps.specs.Works.{Scene, here}
use Rattle.soundness_steps.specs.States.{Sound}
use Rattle.soundness_steps.specs.Steps.{AllMet, Beside, Grows, Stands}
use Rattle.soundness_steps.specs.Values.{AimSteady, Belongs, Comes, Is, IsWanted}
use Rattle.soundness_steps.proofs.Steps.{binds, given_back, grown, grown_later, met_behind, met_front, rests, runs_as, stands_on}
use Rattle.soundness_forms.specs.Forms.{Fine, FitsSuffice}
use Rattle.soundness_forms.specs.Worlds.{Surrounds}
use Rattle.soundness_forms.proofs.Casts.{comes_is, no_guard}
use Rattle.soundness_forms.proofs.Constants.{literal_has, literal_sized}
use Rattle.soundness_forms.proofs.Basics.{wrong_alone}
use Rattle.soundness_forms.proofs.Branches.{truth_runs}
use Rattle.soundness_forms.proofs.Growth.{grows_bind}
use Rattle.soundness_forms.proofs.Tests.{integer_tested, never_value}
use Rattle.soundness_forms.proofs.Throwing.{truth_grows}
use Rattle.soundness_forms.proofs.Worlds.{surrounds_on}
use Rattle.soundness_joins.proofs.Pieces.{settled_so}
use Rattle.soundness_joins.proofs.Numbered.{number_grows}
use Rattle.soundness_joins.proofs.Turns.{Natural, Safe, loop_ends, piece_safe, repeat_safe, while_safe, z}

module _ (q : Scene) where
  -- ---- a measure

  same_integer : (b : Bool) (i j : ℤ) (now : Now Item) → R.Gives i now ≡ if_so (needs (Some j)) stuck b now → i ≡ j
  same_integer true i j now e = cc
  same_integer false i j now e = absurd (cc)

  natural_by : (x : Item) (w : Value-F Value) → out-Value x.val ≡ w → (mu : Assignment) (rs : Closeds)
      → form_asked q.set.around.types w (T.Range zero_num largest_num) mu rs ≡ true
      → (i : ℤ) → ((now : Now Item) → R.Gives i now ≡ integer (z q) x now) → Natural q x
  natural_by x (V.Integer (pos k)) e mu rs h i run = (
    k,
    λ now.
        let is : i ≡ pos k = same_integer ((z q).is int_typ x) i (pos k) now
        (run now ∙ ap (λ w. if_so (needs (form_integer w)) stuck ((z q).is int_typ x) now) e) in
        sym (ap (λ d. goes_on d (λ y. needs (natural_of y))) (sym (run now)) ∙ ap (λ y. needs (natural_of y) now) is),
  )
  natural_by x (V.Integer (negsuc k)) e mu rs h i run =
      let least : int_le (number mu zero_num) (negsuc k) ≡ true =
      (and_parts (int_le (number mu zero_num) (negsuc k)) (int_le (negsuc k) (number mu largest_num))
      (and_parts (int_le (number mu zero_num) (negsuc k) && int_le (negsuc k) (number mu largest_num)) (is_small (negsuc k)) h).0).0 in
      no (sym (ap (λ y. int_le y (negsuc k)) (number_constant mu (pos 0))) ∙ least)
  natural_by x w e mu rs h i run = no h

module _ (q : Scene) {n : ℕ} {f : Point n} where
  pub unit_is : Is q.set q.work f I.Unit (nothing (z q))
  unit_is = record { has = literal_has q.set q.work f L.Unit refl; typ = λ exact g a. literal_sized q.set.around.types q.work.own g L.Unit }

  measured : (x : Item) (i : Indices) → Is q.set q.work f i x → Belongs q.set q.work f natural_type x.val → (t : Num) → out-Indices i ≡ W.Integer t
      → Natural q x
  measured x i h b t e =
      let types = q.set.around.types in
      let mu = standing q.set.past f.integers in
      let found = integer_tested q i x h t (sym (roll-out-Indices i) ∙ ap roll-Indices e ∙ I.rolls-Integer t) in
      natural_by q x (out-Value x.val) refl (assigned mu []) (closeds q.work.types)
      (sym (belongs_form types x.val (T.Range zero_num largest_num) (U.Range zero_num largest_num) (assigned mu []) (closeds q.work.types)
      (U.rolls-Range zero_num largest_num))
      ∙ sym (ap (λ r. belongs types x.val r) (closed_is types mu q.work.types natural_type (W.Of (U.Range zero_num largest_num) [] [])
      (Readings.rolls-Of (U.Range zero_num largest_num) [] [])))
      ∙ b f.integers (same f)) found.0 found.1

  -- what is no integer owes what is false
  natural_by_form : {facts : List Fact} (place : Place) (i : Indices) (x : Item) → Is q.set q.work f i x → Belongs q.set q.work f natural_type x.val
      → (y : Indices-F Indices Reading) → out-Indices i ≡ y → Beside q n f facts (number_form place y) (natural (z q) x) (λ m g o k. Unit {0})
  natural_by_form place i x h b (W.Integer t) e =
      let found = measured x i h b t e in
      runs_as found.1 (rests found.0 (given_back (Some t) tt))
  natural_by_form place i x h b W.Never e = absurd (never_value q i x h e)
  natural_by_form place i x h b W.Unit e = wrong_alone place (natural (z q) x)
  natural_by_form place i x h b W.Bit e = wrong_alone place (natural (z q) x)
  natural_by_form place i x h b (W.Bits t) e = wrong_alone place (natural (z q) x)
  natural_by_form place i x h b (W.Truth c) e = wrong_alone place (natural (z q) x)
  natural_by_form place i x h b W.String e = wrong_alone place (natural (z q) x)
  natural_by_form place i x h b (W.List r) e = wrong_alone place (natural (z q) x)
  natural_by_form place i x h b (W.Vector t r) e = wrong_alone place (natural (z q) x)
  natural_by_form place i x h b (W.Tuple is) e = wrong_alone place (natural (z q) x)
  natural_by_form place i x h b (W.Named u is rs) e = wrong_alone place (natural (z q) x)
  natural_by_form place i x h b (W.Variable j) e = wrong_alone place (natural (z q) x)

-- ---- a loop over a measure and two walks, of which nothing is kept

module _ (q : Scene) (w : World Item) (scope : Scope) (measure : Part) (rm : Run Item Item) (hm : Fine q w false false measure rm) where
  natural_wanted : {n : ℕ} {f : Point n} → IsWanted q.set q.work f natural_type
  natural_wanted {n} {f} =
      let types = q.set.around.types in
      let past = q.set.past in
      let own = q.work.types in
      let range = U.Range zero_num largest_num in
      let rolled = Readings.rolls-Of range [] [] in (
        λ g e.
            closed_is types (standing past g) own natural_type (W.Of range [] []) rolled
            ∙ ap (λ mu. reading range mu (closeds own)) (sym (assigned_there past g []) ∙ assigned_there past f.integers [])
            ∙ sym (closed_is types (standing past f.integers) own natural_type (W.Of range [] []) rolled),
        ap has_hole (sym rolled) ∙ fold-roll-Reading Bool Bool value_holed type_holed (W.Of range [] []),
      )

  measure_runs : {n : ℕ} {f : Point n} {facts : List Fact} → Surrounds q w f scope
      → Beside q n f facts (measured_walk measure (here q) scope) (rm then natural (z q)) (λ m g o k. Unit {0})
  measure_runs {n} {f} {facts} there =
      binds (integer_number measure.place) (natural (z q))
      (hm.walks q.names q.may_fall no_guard n f facts scope (Aims.Due natural_type) there natural_wanted) (λ m g fs i x l c.
      natural_by_form q measure.place i x (comes_is measure.is_nested measure.never_ends (Aims.Due natural_type) i x c) c.met (out-Indices i) refl)

  -- the measure's walk counts variables on
  pub measured_grows : (around : Around) (s : Scope) → Grows (measured_walk measure around s)
  measured_grows around s = grows_bind (measure.walk around s (Aims.Due natural_type)) (integer_number measure.place)
      (hm.grows around s (Aims.Due natural_type)) (λ i. number_grows measure.place (out-Indices i))

  module _ {A B : Type 0} (one : Walk A) (two : Walk B) (one_grows : Grows one) (two_grows : Grows two) (n : ℕ) (f : Point n) (facts : List Fact) where
    abbrev first : ℕ
    first = (measured_walk measure (here q) scope facts n).next

    abbrev second : ℕ
    second = (one facts first).next

    abbrev third : ℕ
    third = (two facts second).next

    abbrev behind_first : Point first
    behind_first = grown f ((measured_grows (here q) scope).onward facts n)

    later_first : Later f behind_first
    later_first = grown_later f ((measured_grows (here q) scope).onward facts n)

    abbrev behind_second : Point second
    behind_second = grown behind_first (one_grows.onward facts first)

    later_second : Later f behind_second
    later_second = later_on later_first (grown_later behind_first (one_grows.onward facts first))

    abbrev behind_third : Point third
    behind_third = grown behind_second (two_grows.onward facts second)

    later_third : Later f behind_third
    later_third = later_on later_second (grown_later behind_second (two_grows.onward facts second))

    abbrev Notes : Type 0
    Notes = AllMet q (measured_walk measure (here q) scope facts n).notes × AllMet q (one facts first).notes × AllMet q (two facts second).notes

    abbrev apart : {C : Type 0} → Walk C → Walk (Unit {0})
    apart walk = scoped (bind walk (λ c. give tt))

    -- the walk, beside a run of the loop that is safe where its parts are
    loop_runs : (loop : Run Item Item)
        → ((before : Now Item) → Stands q.set q.work before.opened f facts → Notes → Sound q before → Safe q (λ x. x ≡ nothing (z q)) (loop before))
        → Beside q n f facts (bind (measure_walk measure (here q) scope) (λ i. bind (apart one) (λ j. bind (apart two) (λ k. give I.Unit))))
        ((z q).inside loop) (λ m g i x. Is q.set q.work g i x)
    unfolding bind scoped give
    loop_runs loop safe = record {
      run = λ now stands met ok.
          let first_notes = (measured_walk measure (here q) scope facts n).notes in
          let next_notes = (one facts first).notes in
          let last_notes = (two facts second).notes in
          let rest = met_behind q (first_notes ++ []) ((next_notes ++ []) ++ ((last_notes ++ []) ++ [])) met in
          loop_ends now.opened behind_third later_third (stands_on later_third stands) (nothing (z q)) (unit_is q)
          (safe now stands (
            met_front q first_notes [] (met_front q (first_notes ++ []) ((next_notes ++ []) ++ ((last_notes ++ []) ++ [])) met),
            met_front q next_notes [] (met_front q (next_notes ++ []) ((last_notes ++ []) ++ []) rest),
            met_front q last_notes [] (met_front q (last_notes ++ []) [] (met_behind q (next_notes ++ []) ((last_notes ++ []) ++ []) rest)),
          ) ok);
    }

-- ---- a condition and a body

module _ (q : Scene) (w : World Item) (scope : Scope) (place : Place) (measure a b : Part) (rm ra rb : Run Item Item)
    (hm : Fine q w false false measure rm) (ha : Fine q w false false a ra) (hb : Fine q w false false b rb) where
  tested_grows : (p : Part) (r : Run Item Item) → Fine q w false false p r → Grows (truth_walk p (here q) scope)
  tested_grows p r h = grows_bind (p.walk (here q) scope Aims.Free) (truth_of p.place) (h.grows (here q) scope Aims.Free) (λ i.
      truth_grows p.place i (out-Indices i))

  body_runs : (p : Part) (r : Run Item Item) → Fine q w false false p r → {n : ℕ} {f : Point n} {facts : List Fact} → Surrounds q w f scope
      → Beside q n f facts (p.walk (here q) scope Aims.Free) r (λ m g i x. Comes q.set q.work g false p.is_nested p.never_ends Aims.Free i x)
  body_runs p r h {n} {f} {facts} there = h.walks q.names q.may_fall no_guard n f facts scope Aims.Free there tt

  module _ (n : ℕ) (f : Point n) (facts : List Fact) (there : Surrounds q w f scope) where
    while_runs : Beside q n f facts (loop_walk true measure a b (here q) scope) ((z q).inside (while (z q) place rm ra rb))
        (λ m g i x. Is q.set q.work g i x)
    while_runs =
        let one = truth_walk a (here q) scope in
        let two = b.walk (here q) scope Aims.Free in
        let g = tested_grows a ra ha in
        let h = hb.grows (here q) scope Aims.Free in
        loop_runs q w scope measure rm hm one two g h n f facts (while (z q) place rm ra rb) (λ before stands met ok.
        let l1 = later_first q w scope measure rm hm one two g h n f facts in
        let l2 = later_second q w scope measure rm hm one two g h n f facts in
        while_safe q before place rm ra rb
        (piece_safe q before stands (measure_runs q w scope measure rm hm there) met.0 (λ p k c. tt))
        (piece_safe q before (stands_on l1 stands) (truth_runs q w scope a ra ha (surrounds_on q w scope l1 there)) met.1 (λ p t c. tt))
        (piece_safe q before (stands_on l2 stands) (body_runs b rb hb (surrounds_on q w scope l2 there)) met.2 (λ p x c. tt))
        (suc before.ticks) None before ok)

    repeat_runs : Beside q n f facts (loop_walk false measure a b (here q) scope) ((z q).inside (repeat (z q) place rm ra rb))
        (λ m g i x. Is q.set q.work g i x)
    repeat_runs =
        let one = a.walk (here q) scope Aims.Free in
        let two = truth_walk b (here q) scope in
        let g = ha.grows (here q) scope Aims.Free in
        let h = tested_grows b rb hb in
        loop_runs q w scope measure rm hm one two g h n f facts (repeat (z q) place rm ra rb) (λ before stands met ok.
        let l1 = later_first q w scope measure rm hm one two g h n f facts in
        let l2 = later_second q w scope measure rm hm one two g h n f facts in
        repeat_safe q before place rm rb ra
        (piece_safe q before stands (measure_runs q w scope measure rm hm there) met.0 (λ p k c. tt))
        (piece_safe q before (stands_on l2 stands) (truth_runs q w scope b rb hb (surrounds_on q w scope l2 there)) met.2 (λ p t c. tt))
        (piece_safe q before (stands_on l1 stands) (body_runs a ra ha (surrounds_on q w scope l1 there)) met.1 (λ p x c. tt))
        (suc before.ticks) None before ok)

    module _ (fit : FitsSuffice) (k : ℕ) (aim : Aim) (st : AimSteady q.set q.work f aim) where
      pub while_fine : Beside q n f facts (kind_walk place k K.While (measure ∷ a ∷ b ∷ []) (here q) scope aim)
          (kind_meaning (z q) w place k K.While (rm ∷ ra ∷ rb ∷ [])) (λ m g i x. Comes q.set q.work g false false false aim i x)
      while_fine = settled_so fit place aim st while_runs

      pub repeat_fine : Beside q n f facts (kind_walk place k K.Repeat (measure ∷ a ∷ b ∷ []) (here q) scope aim)
          (kind_meaning (z q) w place k K.Repeat (rm ∷ ra ∷ rb ∷ [])) (λ m g i x. Comes q.set q.work g false false false aim i x)
      repeat_fine = settled_so fit place aim st repeat_runs
