-- Sentences on the definitions, which laws prove: which failure is the first, which local a name is, what names and wildcards bind, and
-- what sides of mappings have in common with expressions.
use Rattle.std.specs.Prelude.{◌≡◌, ℕ, false, bytes_eq, List, [], ◌∷◌, ◌++◌, All, Option, Some, None, if◌then◌else◌}
use Rattle.sail_base.specs.declared.place.Place.{Place}
use Rattle.sail_base.specs.declared.operators.Operator.TheVariants as O
use Rattle.sail_syntax.specs.declared.name.Name.{Name}
use Rattle.sail_syntax.specs.declared.name.Literal.{Literal}
use Rattle.sail_syntax.specs.declared.types.TyExp.{TyExp}
use Rattle.sail_syntax.specs.declared.patterns.Pat.{Pat}
use Rattle.sail_syntax.specs.declared.patterns.Pat.TheVariants as P
use Rattle.sail_syntax.specs.declared.expressions.Exp.{Exp}
use Rattle.sail_syntax.specs.declared.expressions.Exp.TheVariants as E
use Rattle.sail_types.specs.declared.shapes.Shape.{Shape}
use Rattle.sail_types.specs.declared.types.Typ.{Typ}
use Rattle.shape_rules.specs.declared.callees.Meant.TheVariants as M
use Rattle.shape_rules.specs.declared.error.ShapeError.{ShapeError}
use Rattle.shape_rules.specs.declared.locals.Local.{Local}
use Rattle.shape_rules.specs.Findings.{first_failure, IsFirst}
use Rattle.shape_rules.specs.Written.{typ_in}
use Rattle.shape_rules.specs.Scopes.{Setting, Locals, local_of, constant, under}
use Rattle.shape_rules.specs.Patterns.{Widths, look}
use Rattle.shape_rules.specs.Expressions.{part}
use Rattle.shape_rules.specs.Sides.{read_side, gives}

-- ---- failures

-- the first failure is one of them, and none stands before it
abbrev pub FirstIsLeast : Type 0
FirstIsLeast = (es : List ShapeError) (e : ShapeError) → first_failure None es ≡ Some e → IsFirst es e

abbrev pub FirstIsThere : Type 0
FirstIsThere = (es : List ShapeError) → first_failure None es ≡ None → es ≡ []

-- what was noted before counts as the others do
abbrev pub FirstIsKept : Type 0
FirstIsKept = (kept : Option ShapeError) (es fs : List ShapeError) → first_failure kept (es ++ fs) ≡ first_failure (first_failure kept es) fs

-- ---- local names

-- of the names that a pattern binds, the last is the innermost
abbrev pub LastIsInnermost : Type 0
LastIsInnermost = (name : List ℕ) (found : List Local) (last : Local) (locals : Locals)
    → local_of name (under (found ++ last ∷ []) locals) ≡ (if bytes_eq last.name name then Some last else local_of name (under found locals))

-- and a name that it doesn't bind is the local that it was
abbrev pub OthersStay : Type 0
OthersStay = (name : List ℕ) (found : List Local) (locals : Locals) → All (λ local. bytes_eq local.name name ≡ false) found
    → local_of name (under found locals) ≡ local_of name locals

-- ---- patterns

-- `_` takes whatever comes
abbrev pub WildcardsTakeAll : Type 0
WildcardsTakeAll = (place : Place) (setting : Setting) (widths : Widths) (subject : Shape)
    → ((look (P.Wildcard place) setting widths subject).binds ≡ []) × ((look (P.Wildcard place) setting widths subject).faults ≡ [])

-- a bare name that is no member of an enum binds what comes, and nothing else can go wrong
abbrev pub NamesBind : Type 0
NamesBind = (name : Name) (setting : Setting) (widths : Widths) (subject : Shape)
    → ((i k : ℕ) → setting.value name.text ≡ Some (M.Member i k) → ⊥)
    → ((look (P.Bind name) setting widths subject).binds ≡ constant name.text subject ∷ [])
    × ((look (P.Bind name) setting widths subject).faults ≡ [])

-- ---- sides of mappings

-- a bare name, a literal and `p :: q` in a side are found as in an expression
abbrev pub SidesAreExpressions : Type 0
SidesAreExpressions = ((name : Name) → read_side (P.Bind name) ≡ part (E.Variable name))
    × ((place : Place) (literal : Literal) → read_side (P.Constant place literal) ≡ part (E.Constant place literal))
    × ((place : Place) (head tail : Pat) (a b : Exp) → read_side head ≡ part a → read_side tail ≡ part b
    → read_side (P.Cons place head tail) ≡ part (E.Infix place O.Cons a b))

-- a type that is written at a part of a side gives the widths of the names in that part
abbrev pub TypesGiveWidths : Type 0
TypesGiveWidths = (place : Place) (side : Pat) (typ : TyExp) (setting : Setting) (t : Option Typ)
    → gives (P.Typed place side typ) setting t ≡ gives side setting (typ_in setting.within typ)
