-- One case of a `match` or a `try`, one target of a chain, and what is in scope behind statements.
use Rattle.std.specs.Prelude.{◌≡◌, ◌-◌, ◌≤◌, List, [], ◌∷◌, ◌++◌, length, drop}
use Rattle.sail_types.specs.declared.shapes.Shape.{Shape}
use Rattle.sail_types.specs.declared.shapes.Shape.TheVariants as V
use Rattle.sail_base.specs.declared.place.Place.{Place}
use Rattle.sail_core.specs.declared.patterns.Arm.{Arm}
use Rattle.sail_core.specs.declared.patterns.Arm.TheVariants as A
use Rattle.sail_core.specs.declared.tree.Core.{Core}
use Rattle.shape_rules.specs.declared.error.ShapeError.{ShapeError}
use Rattle.shape_rules.specs.declared.locals.Local.{Local}
use Rattle.shape_rules.specs.Findings.{given_on}
use Rattle.shape_rules.specs.Scopes.{Setting, Locals, under}
use Rattle.shape_rules.specs.Patterns.{Looked, look, no_widths}
use Rattle.shape_rules.specs.Statements.{CasePart, case_body, guard_faults, RangePart, by_found}

-- the body of a case behind its guard, and the failures of both
abbrev pub case_bodied : CasePart → Setting → Locals → Shape → Core
case_bodied c setting locals want = case_body c setting locals (c.body.elaborate setting locals want)

abbrev pub case_faults : CasePart → Setting → Locals → Shape → List ShapeError
case_faults c setting locals want = guard_faults c.guard setting locals ++ (c.body.elaborate setting locals want).faults

-- one case: its arm and body, the shape of its body and of those before it, and its failures
pub record Cased : Type 0 where
  pub arm : Arm
  pub body : Core
  pub shape : Shape
  pub faults : List ShapeError

abbrev pub cased_in : CasePart → Looked → Setting → Locals → Shape → Cased
cased_in c p setting locals want = record {
  arm = A.Nested (p.pattern ∷ []);
  body = case_bodied c setting locals want;
  shape = given_on want (c.body.elaborate setting locals want).shape;
  faults = p.faults ++ case_faults c setting locals want;
}

abbrev pub cased_looked : CasePart → Looked → Setting → Locals → Shape → Cased
cased_looked c p setting locals = cased_in c p setting (under p.binds locals)

abbrev pub cased : CasePart → Setting → Locals → Shape → Shape → Cased
cased c setting locals subject = cased_looked c (look c.pattern setting no_widths subject) setting locals

-- local names in scope inside of others: those, and more in front of them
pub record IsInside (inner outer : List Local) : Type 0 where
  pub more : length outer ≤ length inner
  pub same : drop (length inner - length outer) inner ≡ outer

-- the numbers of a `foreach`, and their failures
abbrev pub range_cores : Place → RangePart → Setting → Locals → List Core
range_cores place range setting locals =
    (range.from.elaborate setting locals V.Int).core ∷ (range.to.elaborate setting locals V.Int).core
    ∷ (by_found place range.by setting locals).core ∷ []

abbrev pub range_faults : Place → RangePart → Setting → Locals → List ShapeError
range_faults place range setting locals =
    ((range.from.elaborate setting locals V.Int).faults ++ (range.to.elaborate setting locals V.Int).faults)
    ++ (by_found place range.by setting locals).faults
