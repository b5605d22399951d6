-- What `step` and `reset` take.
use Rattle.std.proofs.Common.{◌≡◌, ℕ, List, [], ◌∷◌, map, refl, sym, ap, ◌∙◌, true, ◌&&◌, Option, Some, None, codes}
use Rattle.std.proofs.lemmas.Bool.{and_parts}
use Rattle.sail_types.specs.Shapes.{form_shape, shape}
use Rattle.sail_types.specs.declared.numbers.Con.{out-Con}
use Rattle.sail_types.specs.declared.shapes.Shape.{Shape}
use Rattle.sail_types.specs.declared.shapes.Shape.TheVariants as V
use Rattle.sail_types.specs.declared.types.Typ.{Typ, Typ-F, out-Typ}
use Rattle.sail_types.specs.declared.types.Typ.TheFolds.{fold-roll-Typ, map-Typ}
use Rattle.sail_types.specs.declared.types.Typ.TheOpen as T
use Rattle.sail_types.specs.declared.types.Typ.TheViews.{roll-out-Typ}
use Rattle.sail_syntax.specs.declared.definitions.Def.{Def}
use Rattle.sail_kinds.specs.declared.scope.Variable.{Variable}
use Rattle.sail_signatures.specs.declared.signature.Signature.{Signature}
use Rattle.sail_signatures.specs.Starts.{are_hart_and_address, binds_nothing, form_address, form_bool, form_hart, form_start, form_truth, form_unit, is_reset, is_step}
use Rattle.sail_signatures.specs.Starts.{is_unquantified}
use Rattle.sail_tables.specs.Refused.{has_reset, has_step, is_function, signature_in}
use Rattle.shape_joins.proofs.Order.{no}
use Rattle.shape_rules.specs.Calls.{param_shapes, parameters_form}
use Rattle.known_texts.specs.Accepted.{IsTyped}

shape_at : (t : Typ) → shape t ≡ form_shape (map-Typ Typ Shape shape (out-Typ t))
shape_at t = ap shape (sym (roll-out-Typ t)) ∙ fold-roll-Typ Shape form_shape (out-Typ t)

-- a hart and an address
hart_form : (o : Typ-F Typ) → form_hart o ≡ true → form_shape (map-Typ Typ Shape shape o) ≡ V.Int
hart_form (T.Range low high) h = refl
hart_form o h = no h

address_form : (o : Typ-F Typ) → form_address o ≡ true → form_shape (map-Typ Typ Shape shape o) ≡ V.Bits
address_form (T.Bits n) h = refl
address_form o h = no h

both_shapes : (ts : List Typ) → are_hart_and_address ts ≡ true → map shape ts ≡ V.Int ∷ V.Bits ∷ []
both_shapes [] h = no h
both_shapes (t ∷ []) h = no h
both_shapes (t ∷ u ∷ []) h =
    let k = and_parts (form_hart (out-Typ t)) (form_address (out-Typ u)) h in
    let hart : shape t ≡ V.Int = shape_at t ∙ hart_form (out-Typ t) k.0 in
    let address : shape u ≡ V.Bits = shape_at u ∙ address_form (out-Typ u) k.1 in
    λ i. hart i ∷ address i ∷ []
both_shapes (t ∷ u ∷ v ∷ ts) h = no h

start_form : (t : Typ) (o : Typ-F Typ) → form_start o ≡ true → map shape (parameters_form t o) ≡ V.Int ∷ V.Bits ∷ []
start_form t (T.Tuple ts) h = both_shapes ts h
start_form t o h = no h

-- `unit`
unit_form : (t : Typ) (o : Typ-F Typ) → shape t ≡ form_shape (map-Typ Typ Shape shape o) → form_unit o ≡ true
    → map shape (parameters_form t o) ≡ V.Unit ∷ []
unit_form t T.Unit is h = ap (λ (s : Shape). s ∷ []) is
unit_form t o is h = no h

none_bound : (variables : List Variable) → binds_nothing variables ≡ true → variables ≡ []
none_bound [] h = refl
none_bound (v ∷ vs) h = no h

no_variables : (s : Signature) → is_unquantified s ≡ true → s.variables ≡ []
no_variables s h = none_bound s.variables (and_parts (binds_nothing s.variables) (form_truth (out-Con s.constraint)) h).0

abbrev Takes : Option Signature → List Shape → Type 0
Takes o params = (s : Signature) × (o ≡ Some s) × (s.variables ≡ []) × (param_shapes s.from ≡ params)

step_takes : (o : Option Signature) → is_step o ≡ true → Takes o (V.Unit ∷ [])
step_takes None h = no h
step_takes (Some s) h =
    let k = and_parts (is_unquantified s) (form_unit (out-Typ s.from) && form_bool (out-Typ s.to)) h in
    let types = and_parts (form_unit (out-Typ s.from)) (form_bool (out-Typ s.to)) k.1 in
    (s, refl, no_variables s k.0, unit_form s.from (out-Typ s.from) (shape_at s.from) types.0)

reset_takes : (o : Option Signature) → is_reset o ≡ true → Takes o (V.Int ∷ V.Bits ∷ [])
reset_takes None h = no h
reset_takes (Some s) h =
    let k = and_parts (is_unquantified s) (form_start (out-Typ s.from) && form_unit (out-Typ s.to)) h in
    let types = and_parts (form_start (out-Typ s.from)) (form_unit (out-Typ s.to)) k.1 in
    (s, refl, no_variables s k.0, start_form s.from (out-Typ s.from) types.0)

typed : (text : List Def) (name : List ℕ) (params : List Shape) → is_function text name ≡ true → Takes (signature_in text name) params
    → IsTyped text name params
typed text name params body takes = record { body = body; signature = takes.0; found = takes.1; plain = takes.2; takes = takes.3 }

pub step_typed : (text : List Def) → has_step text ≡ true → IsTyped text (codes "step") (V.Unit ∷ [])
step_typed text h =
    let k = and_parts (is_function text (codes "step")) (is_step (signature_in text (codes "step"))) h in
    typed text (codes "step") (V.Unit ∷ []) k.0 (step_takes (signature_in text (codes "step")) k.1)

pub reset_typed : (text : List Def) → has_reset text ≡ true → IsTyped text (codes "reset") (V.Int ∷ V.Bits ∷ [])
reset_typed text h =
    let k = and_parts (is_function text (codes "reset")) (is_reset (signature_in text (codes "reset"))) h in
    typed text (codes "reset") (V.Int ∷ V.Bits ∷ []) k.0 (reset_takes (signature_in text (codes "reset")) k.1)
