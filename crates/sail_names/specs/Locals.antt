-- The local names in scope (Sail language manual, "Variables and assignment", "Pattern matching"): names that are bound later
-- are inner, and of two of one name the inner one hides the outer.
use Rattle.std.specs.Prelude.{ℕ, List, [], ◌∷◌, bytes_eq, Option, Some, None, if◌then◌else◌}
use Rattle.sail_syntax.specs.declared.name.Name.{Name}
use Rattle.sail_names.specs.declared.locals.Binding.{Binding}
use Rattle.sail_names.specs.declared.locals.Binding.TheVariants.{Constant, Variable}

-- a local name, and how it is bound
pub record Local : Type 0 where
  pub name : List ℕ
  pub binding : Binding

-- the local names in scope, the innermost first
abbrev pub Locals : Type 0
Locals = List Local

-- what a name is bound as by the innermost local of that name
abbrev pub binding_of : List ℕ → Locals → Option Binding
binding_of name [] = None
binding_of name (inner ∷ outer) = if bytes_eq inner.name name then Some inner.binding else binding_of name outer

-- a name that a pattern, a parameter or a `foreach` binds, and one that a `var` does
abbrev pub constant : Name → Local
constant name = record { name = name.text; binding = Constant }

abbrev pub variable : Name → Local
variable name = record { name = name.text; binding = Variable }

-- the names in scope behind a pattern that binds these
abbrev pub behind : List Name → Locals → Locals
behind [] locals = locals
behind (name ∷ names) locals = behind names (constant name ∷ locals)
