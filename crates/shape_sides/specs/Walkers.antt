-- A function value that makes what is found of sides smaller than a limit, and notes its failures.
use Rattle.std.specs.Prelude.{ℕ, ◌<◌, ◌≡◌, Result, IfOk, OnOk}
use Rattle.std.specs.declared.alloc.Global.{Global}
use Rattle.std.specs.declared.alloc.AllocError.{AllocError}
use denote.Ref.{Bor, MutBor}
use Rattle.sail_types.specs.declared.shapes.Shape.{Shape}
use Rattle.sail_syntax.specs.declared.patterns.Pat.{Pat}
use Rattle.sail_syntax.specs.declared.patterns.Pat.{size-Pat as the_size}
use Rattle.shape_rules.specs.declared.around.Around.{Around}
use Rattle.shape_rules.specs.declared.first.First.{First}
use Rattle.shape_rules.specs.Around.{setting_of}
use Rattle.shape_rules.specs.Findings.{first_failure}
use Rattle.shape_rules.specs.Scopes.{Locals}
use Rattle.shape_rules.specs.Sides.{read_side}
use Rattle.shape_calls.specs.Made.{made_of}
use Rattle.shape_calls.specs.declared.made.Made.{Made}

pub record Elaborates (limit : ℕ) (pre : Global → Bor Pat → Bor Around → Bor Locals → Bor Shape → MutBor First → Type 0)
    (post : Global → Bor Pat → Bor Around → Bor Locals → Bor Shape → MutBor First → Result Made AllocError → MutBor First → Type 0)
    : Type 0 where
  pub callable : (alloc : Global) (p : Bor Pat) (around : Bor Around) (locals : Bor Locals) (want : Bor Shape) (first : MutBor First)
      → the_size p.now < limit → pre alloc p around locals want first
  pub made : (alloc : Global) (p : Bor Pat) (around : Bor Around) (locals : Bor Locals) (want : Bor Shape) (first : MutBor First)
      (r : Result Made AllocError) (first' : MutBor First) → post alloc p around locals want first r first'
      → IfOk r (λ m. m ≡ made_of ((read_side p.now).elaborate (setting_of around.now) locals.now want.now))
  pub failures : (alloc : Global) (p : Bor Pat) (around : Bor Around) (locals : Bor Locals) (want : Bor Shape) (first : MutBor First)
      (r : Result Made AllocError) (first' : MutBor First) → post alloc p around locals want first r first'
      → OnOk r (first'.now.error ≡ first_failure first.now.error ((read_side p.now).elaborate (setting_of around.now) locals.now want.now).faults)
