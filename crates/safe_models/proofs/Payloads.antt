-- In a table whose payloads name no Type variables but those of their union, payloads of unions without Type variables name none.
use Rattle.std.proofs.Common.{◌≡◌, ℕ, zero, suc, nat_lt, Bool, true, ◌||◌, List, [], ◌∷◌, ap, refl, arith}
use Rattle.std.specs.List.{list_all}
use Rattle.std.proofs.lemmas.Bool.{and_parts}
use Rattle.std.proofs.lemmas.Bool.Decides.{nat_tests}
use Rattle.sail_types.specs.Named.{form_constructors}
use Rattle.sail_types.specs.declared.table.Definition.{Definition}
use Rattle.sail_types.specs.declared.table.Field.{Field}
use Rattle.sail_types.specs.declared.table.Form.{Form}
use Rattle.sail_types.specs.declared.table.Form.TheVariants as F
use Rattle.sail_types.specs.declared.table.Types.{Types}
use Rattle.sail_types.specs.declared.types.Typ.{out-Typ}
use Rattle.shape_joins.proofs.Order.{two}
use Rattle.call_arguments.specs.Callees.{is_typeless, type_parameters}
use Rattle.hanging_sizes.specs.Hanging.{is_alone, payloads_alone}
use Rattle.soundness_values.specs.Named.{TypesNarrow, definition_stands, form_stands, is_apart, payload_stands}
use Rattle.soundness_values.specs.Narrow.{is_narrow}
use Rattle.safe_models.proofs.Closed.{typeless_so}

payloads_typeless : (fs : List Field) → list_all (λ f. payload_stands 0 f.typ) fs ≡ true → list_all (λ f. is_typeless f.typ) fs ≡ true
payloads_typeless [] h = refl
payloads_typeless (f ∷ fs) h =
    let both = and_parts (payload_stands 0 f.typ) (list_all (λ f. payload_stands 0 f.typ) fs) h in
    let one = and_parts (is_narrow 0 f.typ) (is_apart (out-Typ f.typ)) both.0 in
    two (is_typeless f.typ) (list_all (λ f. is_typeless f.typ) fs) (typeless_so f.typ one.0) (payloads_typeless fs both.1)

form_typeless : (form : Form) → form_stands 0 form ≡ true → list_all (λ f. is_typeless f.typ) (form_constructors form) ≡ true
form_typeless (F.Union fs) h = payloads_typeless fs h
form_typeless form h = refl

is_more : (n : ℕ) → nat_lt 0 (suc n) ≡ true
is_more n = grind (arith, nat_tests)

one_alone : (d : Definition) → definition_stands d ≡ true → is_alone d ≡ true
one_alone d h = by (type_parameters d.parameters) h
  where
    by : (n : ℕ) → form_stands n d.form ≡ true → (nat_lt 0 n || list_all (λ f. is_typeless f.typ) (form_constructors d.form)) ≡ true
    by zero k = form_typeless d.form k
    by (suc n) k = ap (λ b. b || list_all (λ f. is_typeless f.typ) (form_constructors d.form)) (is_more n)

all_alone : (ds : List Definition) → list_all definition_stands ds ≡ true → list_all is_alone ds ≡ true
all_alone [] h = refl
all_alone (d ∷ ds) h =
    let both = and_parts (definition_stands d) (list_all definition_stands ds) h in
    two (is_alone d) (list_all is_alone ds) (one_alone d both.0) (all_alone ds both.1)

pub alone : (types : Types) → TypesNarrow types → payloads_alone types ≡ true
alone types h = all_alone types.definitions h
