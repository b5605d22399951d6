-- Kinds whose parts are walked from left to right: what the walk over so many parts gives is what `made_plain` says.
use Rattle.std.proofs.Common.{◌≡◌, ◌∙◌, ap, sym, refl, ℕ, List, [], ◌∷◌, Option, None, Some, length, take}
use Rattle.sail_base.specs.declared.place.Place.{Place}
use Rattle.sail_core.specs.declared.tree.Kind.{Kind}
use Rattle.sail_core.specs.declared.tree.Kind.TheVariants as K
use Rattle.sail_core.specs.declared.written.Written.{Written}
use Rattle.value_indices.specs.Steps.{Walk, bind, give}
use Rattle.value_indices.specs.Walking.{Written as Noted, got, run}
use Rattle.value_indices.specs.declared.indices.Indices.{Indices}
use Rattle.value_indices.specs.declared.indices.Reading.{Reading, out-Reading}
use Rattle.value_indices.proofs.Walks.{got_bind, got_give, run_bind, run_give}
use Rattle.pattern_leaves.specs.Settings.{Around, Scope}
use Rattle.call_arguments.specs.declared.aims.Aim.{Aim}
use Rattle.call_arguments.specs.declared.aims.Aim.TheVariants as Aims
use Rattle.call_notes.specs.Ends.{wrong_value}
use Rattle.expression_steps.specs.Expressions.{assert_walk, cast_walk, free_giving, leaf_walk, left_walk, made_plain, option_indices, return_walk, thrown_aim, throw_walk}
use Rattle.expression_steps.specs.Making.{answer_aims, answer_count, answer_made, cast_aim, cast_made, made_walk, one_made, one_or_none}
use Rattle.expression_steps.specs.Parts.{Part, each_walk, one}
use Rattle.expression_steps.specs.Values.{tuple_aims, tuple_of, wanted_item}
use Rattle.expression_steps.proofs.ConsLaws.{cons_got, cons_run}
use Rattle.expression_steps.proofs.EachOf.{none_each_got, none_each_run, one_each_got, one_each_run}
use Rattle.expression_steps.proofs.Rests.{take_whole}

abbrev first_aim : List Aim → Aim
first_aim [] = Aims.Free
first_aim (aim ∷ aims) = aim

no_value : (around : Around) (place : Place) (k : ℕ) (kind : Kind) (parts : List Part) → one_made around place k kind parts [] ≡ wrong_value place
no_value around place k kind [] = refl
no_value around place k kind (a ∷ []) = refl
no_value around place k kind (a ∷ b ∷ parts) = refl

module _ (around : Around) (scope : Scope) (w : Noted) where
  abbrev each : List Part → List Aim → Walk (List Indices)
  each parts aims = each_walk parts around scope aims

  abbrev first : Part → List Aim → Walk Indices
  first a aims = a.walk around scope (first_aim aims)

  -- one part is walked
  alone_got : (a : Part) (aims : List Aim) (end : List Indices → Walk Indices)
      → got (bind (each (a ∷ []) aims) end) w ≡ got (bind (first a aims) (λ i. end (i ∷ []))) w
  alone_got a [] end = one_each_got end w (first a [])
  alone_got a (aim ∷ aims) end = one_each_got end w (first a (aim ∷ aims))

  alone_run : (a : Part) (aims : List Aim) (end : List Indices → Walk Indices)
      → run (bind (each (a ∷ []) aims) end) w ≡ run (bind (first a aims) (λ i. end (i ∷ []))) w
  alone_run a [] end = one_each_run end w (first a [])
  alone_run a (aim ∷ aims) end = one_each_run end w (first a (aim ∷ aims))

  -- ---- kinds of one part

  module _ (place : Place) (aims : List Aim) (end : List Part → List Indices → Walk Indices) (f : Part → Walk Indices)
      (none : (parts : List Part) → end parts [] ≡ wrong_value place) where
    one_got : (parts : List Part) → ((a : Part) → got (bind (first a aims) (λ i. end (a ∷ []) (i ∷ []))) w ≡ got (f a) w)
        → got (bind (each (take (one_or_none (length parts)) parts) aims) (end parts)) w ≡ got (one place f parts) w
    one_got [] some = none_each_got (end []) w ∙ ap (λ (a : Walk Indices). got a w) (none [])
    one_got (a ∷ []) some = alone_got a aims (end (a ∷ [])) ∙ some a
    one_got (a ∷ b ∷ parts) some = none_each_got (end (a ∷ b ∷ parts)) w ∙ ap (λ (x : Walk Indices). got x w) (none (a ∷ b ∷ parts))

    one_run : (parts : List Part) → ((a : Part) → run (bind (first a aims) (λ i. end (a ∷ []) (i ∷ []))) w ≡ run (f a) w)
        → run (bind (each (take (one_or_none (length parts)) parts) aims) (end parts)) w ≡ run (one place f parts) w
    one_run [] some = none_each_run (end []) w ∙ ap (λ (a : Walk Indices). run a w) (none [])
    one_run (a ∷ []) some = alone_run a aims (end (a ∷ [])) ∙ some a
    one_run (a ∷ b ∷ parts) some = none_each_run (end (a ∷ b ∷ parts)) w ∙ ap (λ (x : Walk Indices). run x w) (none (a ∷ b ∷ parts))

  -- types that are written

  cast_got : (place : Place) (k : ℕ) (written : Option Written) (aim : Aim) (a : Part)
      → got (bind (a.walk around scope (cast_aim around written aim)) (cast_made around place k written a)) w
      ≡ got (cast_walk place k written a around scope aim) w
  cast_got place k None aim a =
      got_bind (a.walk around scope aim) (λ i. give i) w ∙ got_give (got (a.walk around scope aim) w) (run (a.walk around scope aim) w)
  cast_got place k (Some written) aim a = refl

  cast_run : (place : Place) (k : ℕ) (written : Option Written) (aim : Aim) (a : Part)
      → run (bind (a.walk around scope (cast_aim around written aim)) (cast_made around place k written a)) w
      ≡ run (cast_walk place k written a around scope aim) w
  cast_run place k None aim a =
      run_bind (a.walk around scope aim) (λ i. give i) w ∙ run_give (got (a.walk around scope aim) w) (run (a.walk around scope aim) w)
  cast_run place k (Some written) aim a = refl

  -- what a function gives

  module _ (place : Place) (end : List Part → List Indices → Walk Indices) (none : (parts : List Part) → end parts [] ≡ wrong_value place) where
    no_answer : (parts : List Part) → one place (λ a. return_walk place a around scope None) parts ≡ wrong_value place
    no_answer [] = refl
    no_answer (a ∷ []) = refl
    no_answer (a ∷ b ∷ parts) = refl

    answer_got : (answer : Option Reading) (parts : List Part)
        → ((a : Part) (i : Indices) → end (a ∷ []) (i ∷ []) ≡ answer_made around place answer a i)
        → got (bind (each (take (answer_count answer (length parts)) parts) (answer_aims answer)) (end parts)) w
        ≡ got (one place (λ a. return_walk place a around scope answer) parts) w
    answer_got None parts some = none_each_got (end parts) w ∙ ap (λ (a : Walk Indices). got a w) (none parts ∙ sym (no_answer parts))
    answer_got (Some r) parts some =
        one_got place (answer_aims (Some r)) end (λ a. return_walk place a around scope (Some r)) none parts
        (λ a. (λ j. got (bind (first a (answer_aims (Some r))) (λ i. some a i j)) w))

    answer_run : (answer : Option Reading) (parts : List Part)
        → ((a : Part) (i : Indices) → end (a ∷ []) (i ∷ []) ≡ answer_made around place answer a i)
        → run (bind (each (take (answer_count answer (length parts)) parts) (answer_aims answer)) (end parts)) w
        ≡ run (one place (λ a. return_walk place a around scope answer) parts) w
    answer_run None parts some = none_each_run (end parts) w ∙ ap (λ (a : Walk Indices). run a w) (none parts ∙ sym (no_answer parts))
    answer_run (Some r) parts some =
        one_run place (answer_aims (Some r)) end (λ a. return_walk place a around scope (Some r)) none parts
        (λ a. (λ j. run (bind (first a (answer_aims (Some r))) (λ i. some a i j)) w))

  -- ---- every kind

  module _ (place : Place) (k : ℕ) (aim : Aim) where
    abbrev ends : Kind → List Part → List Indices → Walk Indices
    ends kind parts is = one_made around place k kind parts is

    kind_got : (kind : Kind) (parts : List Part)
        → got (made_walk place k kind parts around scope aim (length parts)) w ≡ got (made_plain place k kind parts around scope aim) w
    kind_got (K.Call callee) parts = refl
    kind_got (K.Struct u fields) parts = refl
    kind_got K.Tuple parts = (λ j. got (bind (each (take_whole parts j) (tuple_aims aim)) (tuple_of k)) w)
    kind_got (K.Cons shape) parts = cons_got k shape place around scope (wanted_item aim) w (out-Reading (wanted_item aim)) parts
    kind_got (K.Cast written) parts =
        one_got place (cast_aim around written aim ∷ []) (ends (K.Cast written)) (λ a. cast_walk place k written a around scope aim)
        (no_value around place k (K.Cast written)) parts (cast_got place k written aim)
    kind_got K.Return parts = answer_got place (ends K.Return) (no_value around place k K.Return) around.answer parts (λ a i. refl)
    kind_got K.Throw parts =
        one_got place (thrown_aim around.exception ∷ []) (ends K.Throw) (λ a. throw_walk place a around scope around.exception)
        (no_value around place k K.Throw) parts (λ a. refl)
    kind_got K.Exit parts =
        one_got place [] (ends K.Exit) (λ a. left_walk a around scope Aims.Free) (no_value around place k K.Exit) parts (λ a. refl)
    kind_got (K.Assert text) parts =
        one_got place [] (ends (K.Assert text)) (λ a. assert_walk a around scope) (no_value around place k (K.Assert text)) parts (λ a. refl)
    kind_got (K.Optional t) parts =
        one_got place [] (ends (K.Optional t)) (λ a. free_giving a around scope (option_indices t)) (no_value around place k (K.Optional t)) parts (λ a. refl)
    kind_got kind parts = none_each_got (λ is. leaf_walk place k kind parts around scope) w

    kind_run : (kind : Kind) (parts : List Part)
        → run (made_walk place k kind parts around scope aim (length parts)) w ≡ run (made_plain place k kind parts around scope aim) w
    kind_run (K.Call callee) parts = refl
    kind_run (K.Struct u fields) parts = refl
    kind_run K.Tuple parts = (λ j. run (bind (each (take_whole parts j) (tuple_aims aim)) (tuple_of k)) w)
    kind_run (K.Cons shape) parts = cons_run k shape place around scope (wanted_item aim) w (out-Reading (wanted_item aim)) parts
    kind_run (K.Cast written) parts =
        one_run place (cast_aim around written aim ∷ []) (ends (K.Cast written)) (λ a. cast_walk place k written a around scope aim)
        (no_value around place k (K.Cast written)) parts (cast_run place k written aim)
    kind_run K.Return parts = answer_run place (ends K.Return) (no_value around place k K.Return) around.answer parts (λ a i. refl)
    kind_run K.Throw parts =
        one_run place (thrown_aim around.exception ∷ []) (ends K.Throw) (λ a. throw_walk place a around scope around.exception)
        (no_value around place k K.Throw) parts (λ a. refl)
    kind_run K.Exit parts =
        one_run place [] (ends K.Exit) (λ a. left_walk a around scope Aims.Free) (no_value around place k K.Exit) parts (λ a. refl)
    kind_run (K.Assert text) parts =
        one_run place [] (ends (K.Assert text)) (λ a. assert_walk a around scope) (no_value around place k (K.Assert text)) parts (λ a. refl)
    kind_run (K.Optional t) parts =
        one_run place [] (ends (K.Optional t)) (λ a. free_giving a around scope (option_indices t)) (no_value around place k (K.Optional t)) parts (λ a. refl)
    kind_run kind parts = none_each_run (λ is. leaf_walk place k kind parts around scope) w

    pub made_kind_got : (kind : Kind) (parts : List Part) (n : ℕ) → n ≡ length parts
        → got (made_walk place k kind parts around scope aim n) w ≡ got (made_plain place k kind parts around scope aim) w
    made_kind_got kind parts n same = (λ j. got (made_walk place k kind parts around scope aim (same j)) w) ∙ kind_got kind parts

    pub made_kind_run : (kind : Kind) (parts : List Part) (n : ℕ) → n ≡ length parts
        → run (made_walk place k kind parts around scope aim n) w ≡ run (made_plain place k kind parts around scope aim) w
    made_kind_run kind parts n same = (λ j. run (made_walk place k kind parts around scope aim (same j)) w) ∙ kind_run kind parts
