-- The table of types of a text as the grammar has it.
use Rattle.std.proofs.Common.{◌≡◌, ℕ, zero, suc, List, [], ◌∷◌, length, ap, refl, subst, true, false, not, nat_eq, if◌then◌else◌, arith}
use Rattle.std.specs.Prelude.{slice_get, Some}
use Rattle.std.specs.List.{list_all}
use Rattle.std.proofs.lemmas.Bool.{and_parts}
use Rattle.std.proofs.lemmas.Bool.Decides.{nat_tests}
use Rattle.sail_base.specs.declared.kind.Kind.{Kind}
use Rattle.sail_base.specs.declared.kind.Kind.TheVariants as K
use Rattle.sail_types.specs.Named.{field_types, form_constructors, in_form}
use Rattle.sail_types.specs.declared.table.Definition.{Definition}
use Rattle.sail_types.specs.declared.table.Field.{Field}
use Rattle.sail_types.specs.declared.table.Form.{Form}
use Rattle.sail_types.specs.declared.table.Form.TheVariants as F
use Rattle.sail_types.specs.declared.table.Parameter.{Parameter}
use Rattle.sail_types.specs.declared.table.Types.{Types}
use Rattle.sail_types.specs.declared.types.Typ.{Typ, Typ-F, out-Typ}
use Rattle.sail_types.specs.declared.types.Typ.TheOpen as T
use Rattle.call_arguments.specs.Callees as Callees
use Rattle.shape_joins.proofs.Order.{no, two}
use Rattle.shape_rules.specs.Values.{is_type_kind, type_parameters}
use Rattle.shape_meanings.specs.Worlds.{is_payload_form}
use Rattle.shapes.specs.Tabled.{tabled_of}
use Rattle.known_texts.proofs.TableFormed.{FormFormed, all_so_far}
use Rattle.known_texts.proofs.WellFormed.{all_formed, formed}
use Rattle.known_texts.proofs.SeveralTables.{payloads_several}
use Rattle.known_texts.proofs.Tuples.{AllPayloads}
use Rattle.soundness_values.specs.Named.{definition_stands, form_stands, is_apart, payload_stands}
use Rattle.soundness_values.specs.Narrow.{is_narrow}
use Rattle.safe_models.specs.Types.{TablesAreNarrow}
use Rattle.safe_models.proofs.Narrow.{narrow_so}

-- ---- parameters, counted twice

one_count : (kind : Kind) (m n : ℕ) → m ≡ n
    → (if is_type_kind kind then suc m else m) ≡ (if Callees.is_number_kind kind then n else suc n)
one_count K.Type m n e = ap suc e
one_count K.Int m n e = e
one_count K.Bool m n e = e

same_count : (ps : List Parameter) → type_parameters ps ≡ Callees.type_parameters ps
same_count [] = refl
same_count (p ∷ ps) = one_count p.kind (type_parameters ps) (Callees.type_parameters ps) (same_count ps)

-- ---- payloads

is_more : (n : ℕ) → nat_eq 1 (suc (suc n)) ≡ false
is_more n = grind (arith, nat_tests)

form_apart : (x : Typ-F Typ) → is_payload_form x ≡ true → is_apart x ≡ true
form_apart (T.Tuple []) h = refl
form_apart (T.Tuple (t ∷ [])) h = no h
form_apart (T.Tuple (t ∷ u ∷ ts)) h = ap not (is_more (length ts))
form_apart x h = refl

module _ (types : Types) (count : ℕ) where
  fields_stand : (fs : List Field) → all_formed types count (field_types fs) ≡ true → list_all (λ (f : Field). is_narrow count f.typ) fs ≡ true
  fields_stand [] h = refl
  fields_stand (f ∷ fs) h =
      let own = and_parts (formed types count f.typ) (all_formed types count (field_types fs)) h in
      two (is_narrow count f.typ) (list_all (λ (g : Field). is_narrow count g.typ) fs) (narrow_so types count f.typ own.0) (fields_stand fs own.1)

  payloads_stand : (fs : List Field) → all_formed types count (field_types fs) ≡ true → AllPayloads fs
      → list_all (λ (f : Field). payload_stands count f.typ) fs ≡ true
  payloads_stand [] h p = refl
  payloads_stand (f ∷ fs) h p =
      let own = and_parts (formed types count f.typ) (all_formed types count (field_types fs)) h in
      two (payload_stands count f.typ) (list_all (λ (g : Field). payload_stands count g.typ) fs)
      (two (is_narrow count f.typ) (is_apart (out-Typ f.typ)) (narrow_so types count f.typ own.0) (form_apart (out-Typ f.typ) p.0))
      (payloads_stand fs own.1 p.1)

  -- ---- rows

  form_right : (form : Form) → FormFormed types count form → AllPayloads (form_constructors form) → form_stands count form ≡ true
  form_right (F.Struct fs) h p = fields_stand fs h
  form_right (F.Union fs) h p = payloads_stand fs h p
  form_right (F.Enum ms) h p = refl

module _ (types : Types) where
  row_stands : (d : Definition) → FormFormed types (type_parameters d.parameters) d.form → AllPayloads (form_constructors d.form)
      → definition_stands d ≡ true
  row_stands d h p =
      subst (λ n. form_stands n d.form ≡ true) (same_count d.parameters) (form_right types (type_parameters d.parameters) d.form h p)

  rows_stand : (ds : List Definition)
      → ((i : ℕ) (d : Definition) → slice_get ds i ≡ Some d → FormFormed types (type_parameters d.parameters) d.form)
      → ((i : ℕ) (d : Definition) → slice_get ds i ≡ Some d → AllPayloads (form_constructors d.form)) → list_all definition_stands ds ≡ true
  rows_stand [] f p = refl
  rows_stand (d ∷ ds) f p =
      two (definition_stands d) (list_all definition_stands ds) (row_stands d (f zero d refl) (p zero d refl))
      (rows_stand ds (λ i x e. f (suc i) x e) (λ i x e. p (suc i) x e))

pub tables_narrow : TablesAreNarrow
tables_narrow text cycle written =
    let types : Types = (tabled_of text).types in
    rows_stand types types.definitions (all_so_far text).rows
    (λ i d e. subst AllPayloads (ap (in_form [] form_constructors) e) (payloads_several text written i))
