-- Operations that change a part of what their target holds.
use Rattle.std.specs.Prelude.{◌≡◌, ℕ, nat_eq, Bool, false, List, [], ◌∷◌, Option, Some, None}
use Rattle.sail_types.specs.declared.values.Value.{Value}
use Rattle.jib.specs.declared.types.ValueType.{ValueType}
use Rattle.jib.specs.declared.code.Source.{Source}
use Rattle.jib.specs.declared.code.Source.TheVariants as R
use Rattle.jib.specs.declared.code.Target.{Target}
use Rattle.jib.specs.declared.code.Target.TheVariants as T
use Rattle.jib.specs.declared.code.Operation.{Operation}
use Rattle.jib.specs.declared.code.Operation.TheVariants as O
use Rattle.jib.specs.Values.{zero_of, fit}
use Rattle.jib_values.specs.Sources.{source_of}
use Rattle.jib_machine.specs.declared.change.Part.{Part}
use Rattle.jib_machine.specs.declared.change.Part.TheVariants as P

abbrev pub operation_of : Part → Operation
operation_of (P.Item i x) = O.WithItem
operation_of (P.Field k x) = O.WithField k

-- the target's own value comes first
abbrev pub sources_of : Target → Part → List Source
sources_of t (P.Item i x) = source_of t ∷ i.now ∷ x.now ∷ []
sources_of t (P.Field k x) = source_of t ∷ x.now ∷ []

-- an operation on these sources is this change of what the target holds
pub record Changes (t : Target) (op : Operation) (rs : List Source) (part : Part) : Type 0 where
  pub operation : op ≡ operation_of part
  pub sources : rs ≡ sources_of t part

-- whether a source is what a target holds
abbrev pub is_held : Source → Target → Bool
is_held (R.Slot i) (T.Slot j) = nat_eq i j
is_held (R.Register i) (T.Register j) = nat_eq i j
is_held r t = false

-- whether an operation on these sources changes a part of what the target holds
abbrev pub changes_part : Target → Operation → List Source → Bool
changes_part t O.WithItem (whole ∷ index ∷ item ∷ []) = is_held whole t
changes_part t (O.WithField k) (whole ∷ part ∷ []) = is_held whole t
changes_part t op rs = false

-- a result at its type, or the type's zero where there is none
abbrev pub result_value : List ValueType → ℕ → Option Value → Value
result_value ts typ None = zero_of ts typ
result_value ts typ (Some v) = fit ts typ v
