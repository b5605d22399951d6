-- A statement of a block by itself: the names that it binds, and the condition that it claims, which is in force to the block's end (Sail
-- language manual, "Let bindings", "Assertions").
use Rattle.std.specs.Prelude.{ℕ, List, None, Option, Some, [], suc, zero}
use Rattle.sail_types.specs.declared.numbers.Con.{Con}
use Rattle.sail_core.specs.declared.tree.Giver.{Giver}
use Rattle.sail_core.specs.declared.tree.Statement.{Statement}
use Rattle.sail_core.specs.declared.tree.Statement.TheVariants as S
use Rattle.value_indices.specs.Steps.{Walk, bind, give}
use Rattle.value_indices.specs.Walking.{Written, claiming, unclaimed}
use Rattle.pattern_leaves.specs.Settings.{Around, Scope}
use Rattle.pattern_leaves.specs.declared.names.Bound.{Bound}
use Rattle.expression_steps.specs.Parts.{Part}
use Rattle.expression_steps.specs.Statements.{let_given, var_name}

abbrev pub claimed_alone : Option Con → List Bound × Option Con
claimed_alone c = ([], c)

abbrev pub bound_alone : List Bound → List Bound × Option Con
bound_alone found = (found, None)

abbrev pub statement_walk : Giver → Statement → Part → Around → Scope → Walk (List Bound × Option Con)
statement_walk g S.Evaluate a around scope = bind (a.state around scope) (λ c. give (claimed_alone c))
statement_walk g (S.Define at arm) a around scope = bind (let_given g at arm a around scope) (λ found. give (bound_alone found))
statement_walk g (S.Declare name written) a around scope = bind (var_name name written a around scope) (λ found. give (bound_alone found))

-- a condition comes into force, if there is one
abbrev pub claiming_if : Option Con → Written → Written
claiming_if None w = w
claiming_if (Some c) w = claiming c w

-- how many come into force
abbrev pub claims_in : Option Con → ℕ
claims_in None = zero
claims_in (Some c) = suc zero

-- so many conditions are in force no more, the one that was claimed last first
abbrev pub unclaimed_times : ℕ → Written → Written
unclaimed_times zero w = w
unclaimed_times (suc n) w = unclaimed_times n (unclaimed w)
