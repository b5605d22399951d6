-- A function value that makes what is found of expressions smaller than a limit, and notes its failures.
use Rattle.std.specs.Prelude.{ℕ, ◌<◌, ◌≡◌, Option, Some, None, Result, IfOk, OnOk}
use Rattle.std.specs.declared.alloc.Global.{Global}
use Rattle.std.specs.declared.alloc.AllocError.{AllocError}
use denote.Ref.{Bor, MutBor}
use Rattle.sail_types.specs.declared.shapes.Shape.{Shape}
use Rattle.sail_syntax.specs.declared.expressions.Exp.{Exp}
use Rattle.sail_syntax.specs.declared.expressions.Exp.{size-Exp as the_size}
use Rattle.shape_rules.specs.declared.around.Around.{Around}
use Rattle.shape_rules.specs.declared.first.First.{First}
use Rattle.shape_rules.specs.Around.{setting_of}
use Rattle.shape_rules.specs.Findings.{first_failure}
use Rattle.shape_rules.specs.Scopes.{Locals}
use Rattle.shape_rules.specs.Expressions.{elaborate}
use Rattle.shape_calls.specs.Made.{made_of}
use Rattle.shape_calls.specs.declared.made.Made.{Made}

-- the size of an expression that may not be written: how deep expressions stand in it
abbrev pub size_if : Option Exp → ℕ
size_if None = 0
size_if (Some e) = the_size e

pub record Elaborates (limit : ℕ) (pre : Global → Bor Exp → Bor Around → MutBor Locals → Bor Shape → MutBor First → Type 0)
    (post : Global → Bor Exp → Bor Around → MutBor Locals → Bor Shape → MutBor First → Result Made AllocError → MutBor Locals → MutBor First
    → Type 0) : Type 0 where
  pub callable : (alloc : Global) (e : Bor Exp) (around : Bor Around) (locals : MutBor Locals) (want : Bor Shape) (first : MutBor First)
      → the_size e.now < limit → pre alloc e around locals want first
  pub made : (alloc : Global) (e : Bor Exp) (around : Bor Around) (locals : MutBor Locals) (want : Bor Shape) (first : MutBor First)
      (r : Result Made AllocError) (locals' : MutBor Locals) (first' : MutBor First) → post alloc e around locals want first r locals' first'
      → IfOk r (λ m. m ≡ made_of (elaborate e.now (setting_of around.now) locals.now want.now))
  pub failures : (alloc : Global) (e : Bor Exp) (around : Bor Around) (locals : MutBor Locals) (want : Bor Shape) (first : MutBor First)
      (r : Result Made AllocError) (locals' : MutBor Locals) (first' : MutBor First) → post alloc e around locals want first r locals' first'
      → OnOk r (first'.now.error ≡ first_failure first.now.error (elaborate e.now (setting_of around.now) locals.now want.now).faults)
  pub locals_stay : (alloc : Global) (e : Bor Exp) (around : Bor Around) (locals : MutBor Locals) (want : Bor Shape) (first : MutBor First)
      (r : Result Made AllocError) (locals' : MutBor Locals) (first' : MutBor First) → post alloc e around locals want first r locals' first'
      → OnOk r (locals'.now ≡ locals.now)
