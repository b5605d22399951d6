-- What is written down behind the turns of loops.
use Rattle.std.proofs.Common.{◌≡◌, ◌∙◌, ap, sym, refl, ℕ, ◌<◌, ◌≤◌, arith, List, [], ◌∷◌, ◌++◌, length, take, get_or, Option, None, Some, Bool, true, false}
use Rattle.sail_base.specs.declared.place.Place.{Place}
use Rattle.sail_types.specs.Sums.{variable}
use Rattle.sail_types.specs.declared.numbers.Num.{Num}
use Rattle.sail_core.specs.declared.tree.Core.{Core}
use Rattle.sail_core.specs.declared.tree.Counting.{Counting}
use Rattle.value_indices.specs.Steps.{Walk, bind, fresh_named, give, scoped}
use Rattle.value_indices.specs.Walking.{Written, got, remembering, restored, run}
use Rattle.value_indices.specs.declared.indices.Indices.{Indices}
use Rattle.value_indices.specs.declared.indices.Indices.TheVariants as I
use Rattle.value_indices.proofs.Walks.{got_bind, got_give, run_bind, run_give}
use Rattle.pattern_leaves.specs.Settings.{Around, Scope, bound}
use Rattle.pattern_leaves.specs.declared.names.Bound.{Bound}
use Rattle.pattern_leaves.proofs.Walked.{made_got, made_run, then_got, then_run}
use Rattle.call_arguments.specs.declared.aims.Aim.{Aim}
use Rattle.call_arguments.specs.declared.aims.Aim.TheVariants as Aims
use Rattle.call_notes.specs.Ends.{integer_number}
use Rattle.expression_steps.specs.Coded.{each_part}
use Rattle.expression_steps.specs.Expressions.{part}
use Rattle.expression_steps.specs.Parts.{four, numbers_walk, truth_walk}
use Rattle.expression_steps.specs.Statements.{bounds_of, counted, foreach_walk, measure_walk, measured, natural_type, step_owed, turn_begun, turn_named}
use Rattle.expression_steps.specs.Statements.{turn_part, turn_walk, turns_walk}
use Rattle.expression_steps.specs.declared.counting.Bounds.{Bounds}
use Rattle.expression_steps.proofs.Conditions.{scoped_run}

-- ---- three walks of which nothing is kept

module _ {A B C : Type 0} (a : Walk A) (b : Walk B) (c : Walk C) where
  abbrev last : Walk Indices
  last = bind c (λ k. give I.Unit)

  abbrev later : Walk Indices
  later = bind b (λ j. last)

  pub turns_got : (v : Written) → I.Unit ≡ got (bind a (λ i. later)) v
  turns_got v =
      sym (got_bind a (λ i. later) v ∙ got_bind b (λ j. last) (run a v) ∙ got_bind c (λ k. give I.Unit) (run b (run a v))
      ∙ got_give I.Unit (run c (run b (run a v))))

  pub turns_run : (v w1 w2 w3 : Written) → w1 ≡ run a v → w2 ≡ run b w1 → w3 ≡ run c w2 → w3 ≡ run (bind a (λ i. later)) v
  turns_run v w1 w2 w3 one two three =
      three ∙ ap (λ (w : Written). run c w) (two ∙ ap (λ (w : Written). run b w) one)
      ∙ sym (run_bind a (λ i. later) v ∙ run_bind b (λ j. last) (run a v) ∙ run_bind c (λ k. give I.Unit) (run b (run a v))
      ∙ run_give I.Unit (run c (run b (run a v))))

-- ---- the measure, the condition and the body of a turn

-- a walk with an end of its own, of which nothing is kept
alone : {A : Type 0} (w : Walk A) (v w1 w2 w3 : Written) → w1 ≡ remembering v → w2 ≡ run w w1 → w3 ≡ restored w2
    → w3 ≡ run (scoped (bind w (λ x. give (tt {0})))) v
alone w v w1 w2 w3 one two three = scoped_run (bind w (λ x. give (tt {0}))) v w1 w2 w3 one (made_run w (λ x. tt {0}) w1 w2 two) three

module _ (around : Around) (scope : Scope) (core : Core) (is_condition : Bool) (v w1 w2 w3 : Written) (one : w1 ≡ remembering v)
    (three : w3 ≡ restored w2) where
  pub tested_run : is_condition ≡ true → w2 ≡ run (truth_walk (part core) around scope) w1 → w3 ≡ run (turn_part is_condition (part core) around scope) v
  tested_run is two =
      alone (truth_walk (part core) around scope) v w1 w2 w3 one two three
      ∙ ap (λ (b : Bool). run (turn_part b (part core) around scope) v) (sym is)

  pub alone_run : is_condition ≡ false → w2 ≡ run ((part core).walk around scope Aims.Free) w1 → w3 ≡ run (turn_part is_condition (part core) around scope) v
  alone_run is two =
      alone ((part core).walk around scope Aims.Free) v w1 w2 w3 one two three
      ∙ ap (λ (b : Bool). run (turn_part b (part core) around scope) v) (sym is)

module _ (around : Around) (scope : Scope) (core : Core) (aim : Aim) (due : aim ≡ Aims.Due natural_type) (place : Place) (at : place ≡ (part core).place)
    (i : Indices) (v w1 w2 w3 w4 : Written) where
  pub measured_run : w1 ≡ remembering v → i ≡ got ((part core).walk around scope aim) w1 → w2 ≡ run ((part core).walk around scope aim) w1
      → w3 ≡ run (integer_number place i) w2 → w4 ≡ restored w3 → w4 ≡ run (measure_walk (part core) around scope) v
  measured_run one is two three four =
      alone (measured (part core) around scope) v w1 w3 w4 one
      (three ∙ ap (λ (p : Place). run (integer_number p i) w2) at
      ∙ then_run ((part core).walk around scope (Aims.Due natural_type)) (integer_number (part core).place) w1 w2 i
      (is ∙ ap (λ (d : Aim). got ((part core).walk around scope d) w1) due) (two ∙ ap (λ (d : Aim). run ((part core).walk around scope d) w1) due)) four

-- ---- two of them, of whatever they give

module _ {A B : Type 0} (a : Walk A) (b : Walk B) where
  abbrev behind_it : Walk Indices
  behind_it = bind b (λ y. give I.Unit)

  pub both_got : (v : Written) → I.Unit ≡ got (bind a (λ x. behind_it)) v
  both_got v = sym (got_bind a (λ x. behind_it) v ∙ got_bind b (λ y. give I.Unit) (run a v) ∙ got_give I.Unit (run b (run a v)))

  pub both_run : (v w1 w2 : Written) → w1 ≡ run a v → w2 ≡ run b w1 → w2 ≡ run (bind a (λ x. behind_it)) v
  both_run v w1 w2 one two =
      two ∙ ap (λ (w : Written). run b w) one
      ∙ sym (run_bind a (λ x. behind_it) v ∙ run_bind b (λ y. give I.Unit) (run a v) ∙ run_give I.Unit (run b (run a v)))

-- ---- a turn of a `foreach`, with its variable

module _ (name : List ℕ) (way : Counting) (from to : Num) (n : ℕ) where
  abbrev owed : Walk (Unit {0})
  owed = counted way from (variable n) to

  abbrev names : Unit {0} → List Bound
  names t = bound name (I.Integer (variable n)) ∷ []

  pub named_got : (number : Num) (held : Bound) (v : Written) → number ≡ variable n → held ≡ bound name (I.Integer number)
      → held ∷ [] ≡ got (turn_named name way from to n) v
  named_got number held v is named =
      ap (λ (b : Bound). b ∷ []) (named ∙ ap (λ (m : Num). bound name (I.Integer m)) is) ∙ made_got owed names v (got owed v) refl

  pub named_run : (number low high : Num) (v w : Written) → number ≡ variable n → low ≡ from → high ≡ to → w ≡ run (counted way low number high) v
      → w ≡ run (turn_named name way from to n) v
  named_run number low high v w is first last was =
      made_run owed names v w (was ∙ (λ j. run (counted way (first j) (is j) (last j)) v))

-- where a turn begins
module _ (place : Place) (name : List ℕ) (way : Counting) (b : Bounds) (v : Written) where
  abbrev pub started : Written
  started = remembering (run (step_owed place b.by) v)

  module _ (by : Num) (copied : List ℕ) (n : ℕ) (w1 w2 w3 : Written) (step : by ≡ b.by) (same : copied ≡ name) (one : w1 ≡ run (step_owed place by) v)
      (two : w2 ≡ remembering w1) (found : n ≡ got (fresh_named copied) w2) (three : w3 ≡ run (fresh_named copied) w2) where
    start : w2 ≡ started
    start = two ∙ ap remembering (one ∙ ap (λ (m : Num). run (step_owed place m) v) step)

    number_is : n ≡ got (fresh_named name) started
    number_is = found ∙ (λ j. got (fresh_named (same j)) (start j))

    number_was : w3 ≡ run (fresh_named name) started
    number_was = three ∙ (λ j. run (fresh_named (same j)) (start j))

    pub begun_got : got (turn_named name way b.from b.to n) w3 ≡ got (turn_begun name way b.from b.to) started
    begun_got = then_got (fresh_named name) (turn_named name way b.from b.to) started w3 n number_is number_was

    pub begun_run : run (turn_named name way b.from b.to n) w3 ≡ run (turn_begun name way b.from b.to) started
    begun_run = then_run (fresh_named name) (turn_named name way b.from b.to) started w3 n number_is number_was

-- ---- a `foreach`

module _ (place : Place) (name : List ℕ) (way : Counting) (around : Around) (scope : Scope) (body : Core) where
  abbrev turns : Option (List Num) → Walk Indices
  turns numbers = turns_walk place name way (part body) around scope (bounds_of numbers)

  abbrev numbered : List Core → Walk (Option (List Num))
  numbered cs = numbers_walk (each_part (take 3 cs)) around scope

  pub foreach_opens : (cs : List Core) → 4 ≤ length cs → length cs < 5 → body ≡ get_or cs 3 body
      → four place (λ a b c d. foreach_walk place name way a b c d around scope) (each_part cs) ≡ bind (numbered cs) turns
  foreach_opens [] some few is = absurd (omega arith)
  foreach_opens (p ∷ []) some few is = absurd (omega arith)
  foreach_opens (p ∷ q ∷ []) some few is = absurd (omega arith)
  foreach_opens (p ∷ q ∷ r ∷ []) some few is = absurd (omega arith)
  foreach_opens (p ∷ q ∷ r ∷ s ∷ []) some few is =
      ap (λ (c : Core). foreach_walk place name way (part p) (part q) (part r) (part c) around scope) (sym is)
  foreach_opens (p ∷ q ∷ r ∷ s ∷ t ∷ cs) some few is = absurd (omega arith)

  module _ (cs three : List Core) (numbers : Option (List Num)) (b : Option Bounds) (v w : Written) (some : 4 ≤ length cs) (few : length cs < 5)
      (is : body ≡ get_or cs 3 body) (firsts : three ≡ take 3 cs) (found : numbers ≡ got (numbers_walk (each_part three) around scope) v)
      (was : w ≡ run (numbers_walk (each_part three) around scope) v) (bounded : b ≡ bounds_of numbers) where
    abbrev whole : Walk Indices
    whole = four place (λ a b c d. foreach_walk place name way a b c d around scope) (each_part cs)

    given : numbers ≡ got (numbered cs) v
    given = found ∙ ap (λ (ps : List Core). got (numbers_walk (each_part ps) around scope) v) firsts

    there : w ≡ run (numbered cs) v
    there = was ∙ ap (λ (ps : List Core). run (numbers_walk (each_part ps) around scope) v) firsts

    onward_got : got (turns_walk place name way (part body) around scope b) w ≡ got whole v
    onward_got =
        ap (λ (o : Option Bounds). got (turns_walk place name way (part body) around scope o) w) bounded
        ∙ then_got (numbered cs) turns v w numbers given there ∙ sym (ap (λ (a : Walk Indices). got a v) (foreach_opens cs some few is))

    onward_run : run (turns_walk place name way (part body) around scope b) w ≡ run whole v
    onward_run =
        ap (λ (o : Option Bounds). run (turns_walk place name way (part body) around scope o) w) bounded
        ∙ then_run (numbered cs) turns v w numbers given there ∙ sym (ap (λ (a : Walk Indices). run a v) (foreach_opens cs some few is))

    pub foreach_none_got : b ≡ None → I.Never ≡ got whole v
    foreach_none_got none =
        sym (got_give I.Never w) ∙ sym (ap (λ (o : Option Bounds). got (turns_walk place name way (part body) around scope o) w) none) ∙ onward_got

    pub foreach_none_run : b ≡ None → w ≡ run whole v
    foreach_none_run none =
        sym (run_give I.Never w) ∙ sym (ap (λ (o : Option Bounds). run (turns_walk place name way (part body) around scope o) w) none) ∙ onward_run

    module _ (d : Bounds) (just : b ≡ Some d) where
      pub foreach_got : I.Unit ≡ got whole v
      foreach_got =
          both_got (step_owed place d.by) (turn_walk name way d.from d.to (part body) around scope) w
          ∙ sym (ap (λ (o : Option Bounds). got (turns_walk place name way (part body) around scope o) w) just) ∙ onward_got

      pub foreach_run : (names : List Bound) (inside : Scope) (w2 w3 w4 : Written)
          → names ≡ got (turn_begun name way d.from d.to) (started place name way d w)
          → w2 ≡ run (turn_begun name way d.from d.to) (started place name way d w)
          → inside ≡ names ++ scope → w3 ≡ run ((part body).walk around inside Aims.Free) w2 → w4 ≡ restored w3 → w4 ≡ run whole v
      foreach_run names inside w2 w3 w4 named two within three four =
          let at = run (step_owed place d.by) w in
          let begun = turn_begun name way d.from d.to in
          let goes_on = λ (bs : List Bound). (part body).walk around (bs ++ scope) Aims.Free in
          let inner : w3 ≡ run (bind begun goes_on) (remembering at) =
          three ∙ ap (λ (s : Scope). run ((part body).walk around s Aims.Free) w2) within
          ∙ then_run begun goes_on (remembering at) w2 names named two in
          both_run (step_owed place d.by) (turn_walk name way d.from d.to (part body) around scope) w at w4 refl
          (scoped_run (bind begun goes_on) at (remembering at) w3 w4 refl inner four)
          ∙ sym (ap (λ (o : Option Bounds). run (turns_walk place name way (part body) around scope o) w) just) ∙ onward_run
