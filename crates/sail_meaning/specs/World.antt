-- What a form of the text means: a piece of a run, in the world around it.
use Rattle.std.specs.Prelude.{ℕ, ℤ, Bool, List, [], ◌∷◌, Option, Some, None}
use Rattle.std.specs.List.{position}
use Rattle.std.specs.Str.{bytes_eq}
use Rattle.sail_base.specs.declared.kind.Kind.TheVariants as K
use Rattle.sail_base.specs.declared.operators.Operator.{Operator}
use Rattle.sail_base.specs.declared.operators.Prefix.{Prefix}
use Rattle.sail_base.specs.declared.place.Place.{Place}
use Rattle.sail_types.specs.Sums.{and_then}
use Rattle.sail_types.specs.declared.numbers.Con.{Con}
use Rattle.sail_types.specs.declared.numbers.Num.{Num}
use Rattle.sail_types.specs.declared.types.Typ.{Typ, Typ-F, out-Typ}
use Rattle.sail_types.specs.declared.types.Typ.TheOpen as T
use Rattle.sail_types.specs.declared.values.Value.{Value}
use Rattle.sail_syntax.specs.declared.types.TyExp.{TyExp}
use Rattle.type_arguments.specs.Taken.{number_of, constraint_of, typ_of}
use Rattle.sail_kinds.specs.Normal.{reading_as}
use Rattle.sail_kinds.specs.Scopes.{Within}
use Rattle.sail_core.specs.Numbers.{Givens}
use Rattle.sail_core.specs.Run.{Local, Run, stuck, needs, row_run, ◌then◌}
use Rattle.sail_core.specs.Values.{integer_in, truth_in, natural_of, cons_of}
use Rattle.sail_meaning.specs.Text.{Text, Callee, builtin, cons, Called, alone, direction, mapping}
use Rattle.sail_meaning.specs.Choice.{first_fitting, operator_builtins, prefix_builtins}

-- a piece of a run, which gives an A
abbrev pub Piece : Type 0 → Type 0
Piece A = Run Value A

-- names with their values
abbrev pub Bindings : Type 0
Bindings = List (Local Value)

-- what a form asks of the world around it
pub record World : Type 0 where
  pub text : Text
  -- the hart at work, and the values of the names that top-level lets bind
  pub hart : ℕ
  pub lets : Bindings
  -- the types and type variables that can be named, and what those variables stand for
  pub within : Within
  pub numbers : Givens
  -- in a clause of a mapping the width of a bare identifier in a pattern, where it has one
  pub bare_width : List ℕ → Option Num
  -- a call of a name at a place, and an operator
  pub call : Place → List ℕ → List Value → Piece Value
  pub operator : Place → Operator → List Value → Piece Value
  -- a mapping or a direction of one in a pattern: the value on the other side, or No where no clause fits
  pub convert : List ℕ → Value → Piece Value

-- what an expression means: a piece that gives its value
abbrev pub Meaning : Type 0
Meaning = World → Piece Value

-- ---- values of one form; a value of another one is stuck

abbrev pub integer : Value → Piece ℤ
integer v = needs (integer_in v)

abbrev pub truth : Value → Piece Bool
truth v = needs (truth_in v)

-- an integer that isn't negative
abbrev pub natural : Value → Piece ℕ
natural v = integer v then λ z. needs (natural_of z)

-- ---- types that are written

abbrev pub written_number : World → TyExp → Option Num
written_number w typ = and_then (reading_as K.Int typ w.within).normal number_of

abbrev pub written_constraint : World → TyExp → Option Con
written_constraint w typ = and_then (reading_as K.Bool typ w.within).normal constraint_of

abbrev pub written_typ : World → TyExp → Option Typ
written_typ w typ = and_then (reading_as K.Type typ w.within).normal typ_of

abbrev pub form_width : Typ-F Typ → Option Num
form_width (T.Bits n) = Some n
form_width form = None

-- the width of `bits(n)`, as a number of a type
abbrev pub width_of : Typ → Option Num
width_of t = form_width (out-Typ t)

-- ---- registers and builtins

-- the place of a register of this name
abbrev pub register_named : World → List ℕ → Option ℕ
register_named w name = position (λ r. bytes_eq r.name name) w.text.registers

-- a builtin on values, called by the hart at work
abbrev pub apply_builtin : ℕ → Callee → List Value → Piece Value
apply_builtin hart (builtin row shapes) vs = row_run row hart vs
apply_builtin hart cons vs = needs (cons_of vs)
apply_builtin hart callee vs = stuck

-- of these builtins the first that the values fit
abbrev pub apply_first : World → List Callee → List Value → Piece Value
apply_first w callees vs = needs (first_fitting w.text.types callees vs) then λ callee. apply_builtin w.hart callee vs

abbrev pub apply_prefix : World → Prefix → Value → Piece Value
apply_prefix w prefix v = apply_first w (prefix_builtins w.text.types prefix) (v ∷ [])

-- the world of a plain expression (a measure, a top-level `let`, an initial value): an operator means its builtin members
abbrev pub plain : World → World
plain w = record w { operator = λ place operator vs. apply_first w (operator_builtins w.text.types operator) vs }

-- ---- mappings in patterns

-- the types on both sides of a mapping, the side that is matched first; both ways for a mapping that goes both
abbrev pub sides_of : Option Called → List (Typ × Typ)
sides_of (Some (alone (direction d))) = (d.takes, d.gives) ∷ []
sides_of (Some (mapping forwards backwards)) = (forwards.takes, forwards.gives) ∷ (backwards.takes, backwards.gives) ∷ []
sides_of called = []

abbrev pub sides : World → List ℕ → List (Typ × Typ)
sides w name = sides_of (w.text.called name)
