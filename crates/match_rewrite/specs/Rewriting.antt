-- A model whose arms are flat: so many values, and steps that open them, ask directions about them and name them.
use Rattle.std.specs.Prelude.{ℕ, suc, ◌+◌, List, [], ◌∷◌, ◌++◌, length, map, option_map}
use Rattle.sail_core.specs.declared.patterns.Form.{Form}
use Rattle.sail_core.specs.declared.patterns.Form.TheVariants as F
use Rattle.sail_core.specs.declared.patterns.Pattern.{Pattern, fold-Pattern}
use Rattle.sail_core.specs.declared.patterns.Step.{Step}
use Rattle.sail_core.specs.declared.patterns.Step.TheVariants as S
use Rattle.sail_core.specs.declared.patterns.Arm.{Arm}
use Rattle.sail_core.specs.declared.patterns.Arm.TheVariants as A
use Rattle.sail_core.specs.declared.tree.Statement.{Statement}
use Rattle.sail_core.specs.declared.tree.Statement.TheVariants as B
use Rattle.sail_core.specs.declared.tree.Kind.{Kind}
use Rattle.sail_core.specs.declared.tree.Kind.TheVariants as K
use Rattle.sail_core.specs.declared.tree.Core.{Core, fold-Core}
use Rattle.sail_core.specs.declared.model.Function.{Function}
use Rattle.sail_core.specs.declared.model.Direction.{Direction}
use Rattle.sail_core.specs.declared.model.OpeningKind.{OpeningKind}
use Rattle.sail_core.specs.declared.model.OpeningKind.TheVariants as O
use Rattle.sail_core.specs.declared.model.Opening.{Opening}
use Rattle.sail_core.specs.declared.model.CoreModel.{CoreModel}
use Rattle.sail_core.specs.Nodes.{node}

-- ---- patterns

-- steps, and the next number for a value behind them
pub record Steps : Type 0 where
  pub steps : List Step
  pub next : ℕ

-- a pattern for the value of one number, where another is the next for further values
abbrev pub Flatten : Type 0
Flatten = ℕ → ℕ → Steps

abbrev pub before : Step → Steps → Steps
before s more = record { steps = s ∷ more.steps; next = more.next }

abbrev pub behind : Steps → Step → Steps
behind first s = record { steps = first.steps ++ s ∷ []; next = first.next }

abbrev pub none_at : ℕ → Steps
none_at next = record { steps = []; next = next }

abbrev pub followed : Steps → (ℕ → Steps) → Steps
followed first more = record { steps = first.steps ++ (more first.next).steps; next = (more first.next).next }

-- patterns for values of one number after the other, from this one on
abbrev pub flat_parts : List Flatten → Flatten
flat_parts [] at next = none_at next
flat_parts (p ∷ ps) at next = followed (p at next) (flat_parts ps (suc at))

-- a count of parts that a form hasn't, which means nothing: there is no value of this number
abbrev pub never : ℕ → Steps
never next = before (S.Names next []) (none_at next)

-- a step for what a form does, before the steps of its parts; `as` comes behind its part
abbrev pub flat_form : Form → List Flatten → Flatten
flat_form F.Any [] at next = none_at next
flat_form (F.Binds name) [] at next = before (S.Names at name) (none_at next)
flat_form (F.As name) (p ∷ []) at next = behind (p at next) (S.Names at name)
flat_form (F.Typed written) (p ∷ []) at next = p at next
flat_form (F.Opens head) ps at next = before (S.Opens at head (length ps)) (flat_parts ps next (next + length ps))
flat_form (F.Maps d) (p ∷ []) at next = before (S.Sees at d) (p next (suc next))
flat_form (F.Sees d) (p ∷ []) at next = before (S.Sees at d) (p next (suc next))
flat_form form ps at next = never next

abbrev pub flat_pattern : Pattern → Flatten
flat_pattern = fold-Pattern Flatten (λ p. flat_form p.form p.parts)

abbrev pub flat_arm : Arm → Arm
flat_arm (A.Nested ps) = A.Flat (length ps) (flat_parts (map flat_pattern ps) 0 (length ps)).steps
flat_arm (A.Flat k ss) = A.Flat k ss

-- ---- nodes: their places, numbers and parts stay

abbrev pub flat_statement : Statement → Statement
flat_statement (B.Define place arm) = B.Define place (flat_arm arm)
flat_statement statement = statement

abbrev pub flat_kind : Kind → Kind
flat_kind (K.Block statements) = K.Block (map flat_statement statements)
flat_kind (K.Let arm) = K.Let (flat_arm arm)
flat_kind (K.Match arms shape) = K.Match (map flat_arm arms) shape
flat_kind (K.Try arms shape) = K.Try (map flat_arm arms) shape
flat_kind (K.Clauses arms) = K.Clauses (map flat_arm arms)
flat_kind kind = kind

abbrev pub flat_core : Core → Core
flat_core = fold-Core Core (λ c. node c.place c.number (flat_kind c.kind) c.parts)

-- ---- definitions

abbrev pub flat_function : Function → Function
flat_function f = record f { measure = option_map flat_core f.measure; body = flat_core f.body }

abbrev pub flat_direction : Direction → Direction
flat_direction m = record m { body = flat_core m.body }

abbrev pub flat_opening_kind : OpeningKind → OpeningKind
flat_opening_kind (O.Let arm) = O.Let (flat_arm arm)
flat_opening_kind (O.Register r) = O.Register r

abbrev pub flat_opening : Opening → Opening
flat_opening o = record o { kind = flat_opening_kind o.kind; value = flat_core o.value }

abbrev pub with_flat_arms : CoreModel → CoreModel
with_flat_arms m = record m {
  functions = map flat_function m.functions;
  directions = map flat_direction m.directions;
  openings = map flat_opening m.openings;
}
