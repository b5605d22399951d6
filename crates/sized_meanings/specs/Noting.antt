-- The numbers that a value gives to the variables that stand alone in its indices: an integer, a width or a length that is one, also as a part
-- of a tuple (Sail language manual, "Type variables").
use Rattle.std.specs.Prelude.{ℕ, ℤ, pos, nat_eq, List, [], ◌∷◌, length, Option, Some, None, if◌then◌else◌}
use Rattle.sail_types.specs.declared.values.Value.{Value, Value-F, out-Value}
use Rattle.sail_types.specs.declared.values.Value.TheOpen as V
use Rattle.value_indices.specs.declared.indices.Indices.{Indices, fold-Indices}
use Rattle.value_indices.specs.declared.indices.Indices.TheOpen as W
use Rattle.value_indices.specs.declared.indices.Indices.TheOpen.{Indices-F, Reading-F}
use Rattle.call_arguments.specs.Placing.{variable_in}
use Rattle.checked_meaning.specs.Checked.{Noted}

abbrev pub with_noted : Noted → ℕ → ℤ → Noted
with_noted noted v z w = if nat_eq v w then Some z else noted w

abbrev pub noted_for : Option ℕ → ℤ → Noted → Noted
noted_for None z noted = noted
noted_for (Some v) z noted = with_noted noted v z

abbrev pub Noting : Type 0
Noting = Value → Noted → Noted

abbrev pub each_noted : List Noting → List Value → Noted → Noted
each_noted (f ∷ fs) (v ∷ vs) noted = each_noted fs vs (f v noted)
each_noted fs vs noted = noted

abbrev pub value_noted : Indices-F Noting Noting → Value-F Value → Noted → Noted
value_noted (W.Integer t) (V.Integer z) noted = noted_for (variable_in t) z noted
value_noted (W.Bits t) (V.Bits bits) noted = noted_for (variable_in t) (pos (length bits)) noted
value_noted (W.Vector t f) (V.Vector vs) noted = noted_for (variable_in t) (pos (length vs)) noted
value_noted (W.Tuple fs) (V.Tuple vs) noted = each_noted fs vs noted
value_noted i v noted = noted

abbrev pub form_noted : Indices-F Noting Noting → Noting
form_noted i v noted = value_noted i (out-Value v) noted

-- a type that isn't opened gives none
abbrev pub reading_noted : Reading-F Noting Noting → Noting
reading_noted r v noted = noted

abbrev pub noted_by : Indices → Noting
noted_by = fold-Indices Noting Noting form_noted reading_noted

-- by several: each clause of a function opens its arguments for itself
abbrev pub noted_by_each : List Indices → Noting
noted_by_each [] v noted = noted
noted_by_each (i ∷ is) v noted = noted_by_each is v (noted_by i v noted)

-- where nothing says what a value gives, it gives none: so where a function without clauses is entered
abbrev pub noted_by_all : List Indices → Value → Noted → Option Noted
noted_by_all is v noted = Some (noted_by_each is v noted)
