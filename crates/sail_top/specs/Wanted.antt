-- The machine that a model is for: where it has the top-level `let elf_machine = 243`, that of a program's file has to be 243.
use Rattle.std.specs.Prelude.{ℤ, List, [], ◌∷◌, Bool, false, Option, Some, None, codes, map, if◌then◌else◌}
use Rattle.std.specs.Str.{bytes_eq}
use Rattle.sail_core.specs.declared.model.Opening.{Opening}
use Rattle.sail_core.specs.declared.model.OpeningKind.{OpeningKind}
use Rattle.sail_core.specs.declared.model.OpeningKind.TheVariants as O
use Rattle.sail_core.specs.declared.patterns.Arm.{Arm}
use Rattle.sail_core.specs.declared.patterns.Arm.TheVariants as A
use Rattle.sail_core.specs.declared.patterns.Form.{Form}
use Rattle.sail_core.specs.declared.patterns.Form.TheVariants as F
use Rattle.sail_core.specs.declared.patterns.Pattern.{Pattern, fold-Pattern}
use Rattle.sail_core.specs.declared.patterns.Literal.{Literal}
use Rattle.sail_core.specs.declared.patterns.Literal.TheVariants as L
use Rattle.sail_core.specs.declared.tree.Core.{Core, fold-Core}
use Rattle.sail_core.specs.declared.tree.Kind.{Kind}
use Rattle.sail_core.specs.declared.tree.Kind.TheVariants as K

-- the one item of a list; this one, where it has none or more
abbrev pub only : {A : Type 0} → A → List A → A
only other (x ∷ []) = x
only other xs = other

-- ---- the name

-- a pattern is the name `elf_machine`, whether or not its type is written
abbrev pub form_names : Form → List Bool → Bool
form_names (F.Binds name) inside = bytes_eq name (codes "elf_machine")
form_names (F.Typed written) inside = only false inside
form_names form inside = false

abbrev pub pattern_names : Pattern → Bool
pattern_names = fold-Pattern Bool (λ p. form_names p.form p.parts)

abbrev pub one_names : List Pattern → Bool
one_names ps = only false (map pattern_names ps)

abbrev pub arm_names : Arm → Bool
arm_names (A.Nested ps) = one_names ps
arm_names arm = false

abbrev pub kind_names : OpeningKind → Bool
kind_names (O.Let arm) = arm_names arm
kind_names kind = false

-- ---- the number

abbrev pub literal_number : Literal → Option ℤ
literal_number (L.Integer z) = Some z
literal_number literal = None

-- a literal's number, where it is bound too; none, where a type is written at it
abbrev pub number_of : Kind → List (Option ℤ) → Option ℤ
number_of (K.Constant literal) inside = literal_number literal
number_of (K.Cast None) inside = only None inside
number_of kind inside = None

abbrev pub written_number : Core → Option ℤ
written_number = fold-Core (Option ℤ) (λ c. number_of c.kind c.parts)

abbrev pub one_number : List Core → Option ℤ
one_number cs = only None (map written_number cs)

-- ---- the machine that is wanted by what a model has at its top

abbrev pub wanted_machine : List Opening → Option ℤ
wanted_machine [] = None
wanted_machine (o ∷ os) = if kind_names o.kind then written_number o.value else wanted_machine os
