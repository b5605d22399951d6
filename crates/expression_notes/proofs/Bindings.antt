-- What is written down behind names that are bound.
use Rattle.std.proofs.Common.{◌≡◌, ◌∙◌, ap, sym, Bool, List, Option, Some, None}
use Rattle.std.proofs.Common.{ℕ}
use Rattle.sail_core.specs.declared.tree.Giver.{Giver}
use Rattle.sail_core.specs.declared.written.Written.{Written as Typed}
use Rattle.value_indices.specs.Steps.{Walk, bind, give}
use Rattle.value_indices.specs.Walking.{Written, got, run}
use Rattle.value_indices.specs.declared.indices.Indices.{Indices}
use Rattle.value_indices.proofs.Walks.{got_bind, got_give, run_bind, run_give}
use Rattle.expression_steps.specs.Patterns.{arm_written}
use Rattle.pattern_leaves.specs.Settings.{Around, Scope, exponents_owed, written_in}
use Rattle.pattern_leaves.specs.declared.names.Bound.{Bound}
use Rattle.pattern_leaves.proofs.Walked.{then_got, then_run}
use Rattle.call_arguments.specs.Aims.{aimed}
use Rattle.call_arguments.specs.declared.aims.Aim.{Aim}
use Rattle.call_arguments.specs.declared.aims.Aim.TheVariants as Aims
use Rattle.expression_steps.specs.Coded.{bound_begun, bound_ended, names_bound, var_begun, var_names}
use Rattle.expression_steps.specs.Parts.{Part}
use Rattle.expression_steps.specs.Statements.{var_name, written_aim}
use Rattle.expression_steps.specs.declared.binding.Binding.{Binding}
use Rattle.expression_steps.specs.declared.binding.Binding.TheVariants as N
use Rattle.expression_notes.proofs.Alike.{Alike}

-- ---- a first walk that gives what is wanted, the walk of which it is wanted, and an end

module _ (a : Part) (around : Around) (scope : Scope) where
  abbrev ended_by : (Indices → Walk (List Bound)) → Aim → Walk (List Bound)
  ended_by end aim = bind (a.walk around scope aim) end

  all_got : (begun : Walk Aim) (end : Indices → Walk (List Bound)) (w v u : Written) (aim : Aim) (i : Indices) → aim ≡ got begun w → v ≡ run begun w
      → i ≡ got (a.walk around scope aim) v → u ≡ run (a.walk around scope aim) v → got (end i) u ≡ got (bind begun (ended_by end)) w
  all_got begun end w v u aim i wanted first is was =
      then_got (a.walk around scope aim) end v u i is was ∙ then_got begun (ended_by end) w v aim wanted first

  all_run : (begun : Walk Aim) (end : Indices → Walk (List Bound)) (w v u : Written) (aim : Aim) (i : Indices) → aim ≡ got begun w → v ≡ run begun w
      → i ≡ got (a.walk around scope aim) v → u ≡ run (a.walk around scope aim) v → run (end i) u ≡ run (bind begun (ended_by end)) w
  all_run begun end w v u aim i wanted first is was =
      then_run (a.walk around scope aim) end v u i is was ∙ then_run begun (ended_by end) w v aim wanted first

  -- nothing is owed before
  given_got : (aim : Aim) (end : Indices → Walk (List Bound)) (w : Written) → got (bind (give aim) (ended_by end)) w ≡ got (ended_by end aim) w
  given_got aim end w = got_bind (give aim) (ended_by end) w ∙ (λ j. got (ended_by end (got_give aim w j)) (run_give aim w j))

  given_run : (aim : Aim) (end : Indices → Walk (List Bound)) (w : Written) → run (bind (give aim) (ended_by end)) w ≡ run (ended_by end aim) w
  given_run aim end w = run_bind (give aim) (ended_by end) w ∙ (λ j. run (ended_by end (got_give aim w j)) (run_give aim w j))

  -- something is
  owed_got : (owes : Walk (Unit {0})) (aim : Aim) (end : Indices → Walk (List Bound)) (w : Written)
      → got (bind (bind owes (λ t. give aim)) (ended_by end)) w ≡ got (bind owes (λ t. ended_by end aim)) w
  owed_got owes aim end w =
      let first = bind owes (λ (t : Unit {0}). give aim) in
      got_bind first (ended_by end) w
      ∙ (λ j. got (ended_by end (got_bind owes (λ t. give aim) w j)) (run_bind owes (λ t. give aim) w j))
      ∙ (λ j. got (ended_by end (got_give aim (run owes w) j)) (run_give aim (run owes w) j))
      ∙ sym (got_bind owes (λ t. ended_by end aim) w)

  owed_run : (owes : Walk (Unit {0})) (aim : Aim) (end : Indices → Walk (List Bound)) (w : Written)
      → run (bind (bind owes (λ t. give aim)) (ended_by end)) w ≡ run (bind owes (λ t. ended_by end aim)) w
  owed_run owes aim end w =
      let first = bind owes (λ (t : Unit {0}). give aim) in
      run_bind first (ended_by end) w
      ∙ (λ j. run (ended_by end (got_bind owes (λ t. give aim) w j)) (run_bind owes (λ t. give aim) w j))
      ∙ (λ j. run (ended_by end (got_give aim (run owes w) j)) (run_give aim (run owes w) j))
      ∙ sym (run_bind owes (λ t. ended_by end aim) w)

  -- ---- a `var`

  var_got : (name : List ℕ) (o : Option Typed) (w : Written)
      → got (bind (var_begun around o) (ended_by (λ i. give (var_names around name o i)))) w ≡ got (var_name name o a around scope) w
  var_got name None w = given_got Aims.Free (λ i. give (var_names around name None i)) w
  var_got name (Some t) w =
      owed_got (exponents_owed around t.numbers) (aimed Aims.Due (written_in around t)) (λ i. give (var_names around name (Some t) i)) w

  var_run : (name : List ℕ) (o : Option Typed) (w : Written)
      → run (bind (var_begun around o) (ended_by (λ i. give (var_names around name o i)))) w ≡ run (var_name name o a around scope) w
  var_run name None w = given_run Aims.Free (λ i. give (var_names around name None i)) w
  var_run name (Some t) w =
      owed_run (exponents_owed around t.numbers) (aimed Aims.Due (written_in around t)) (λ i. give (var_names around name (Some t) i)) w

  -- ---- either

  binding_got : (g : Giver) (b : Binding) (w : Written)
      → got (bind (bound_begun around b) (ended_by (bound_ended around g b a.is_nested))) w ≡ got (names_bound g b a around scope) w
  binding_got g (N.Let place arm) w =
      given_got (written_aim around (arm_written arm.now)) (bound_ended around g (N.Let place arm) a.is_nested) w
  binding_got g (N.Var name written) w = var_got name.now written.now w

  binding_run : (g : Giver) (b : Binding) (w : Written)
      → run (bind (bound_begun around b) (ended_by (bound_ended around g b a.is_nested))) w ≡ run (names_bound g b a around scope) w
  binding_run g (N.Let place arm) w =
      given_run (written_aim around (arm_written arm.now)) (bound_ended around g (N.Let place arm) a.is_nested) w
  binding_run g (N.Var name written) w = var_run name.now written.now w

  module _ (g : Giver) (b : Binding) (w v u : Written) (aim : Aim) (i : Indices) (nested : Bool) (known : nested ≡ a.is_nested)
      (wanted : aim ≡ got (bound_begun around b) w) (first : v ≡ run (bound_begun around b) w)
      (is : i ≡ got (a.walk around scope aim) v) (was : u ≡ run (a.walk around scope aim) v) where
    names_got : got (bound_ended around g b nested i) u ≡ got (names_bound g b a around scope) w
    names_got =
        ap (λ (n : Bool). got (bound_ended around g b n i) u) known
        ∙ all_got (bound_begun around b) (bound_ended around g b a.is_nested) w v u aim i wanted first is was ∙ binding_got g b w

    names_run : run (bound_ended around g b nested i) u ≡ run (names_bound g b a around scope) w
    names_run =
        ap (λ (n : Bool). run (bound_ended around g b n i) u) known
        ∙ all_run (bound_begun around b) (bound_ended around g b a.is_nested) w v u aim i wanted first is was ∙ binding_run g b w

    pub names_alike : Alike (got (bound_ended around g b nested i) u) (got (names_bound g b a around scope) w) (run (bound_ended around g b nested i) u)
        (run (names_bound g b a around scope) w)
    names_alike = record { value = names_got; walked = names_run }
