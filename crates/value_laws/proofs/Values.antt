-- Which values belong to types and have indices, form by form.
use Rattle.std.proofs.Common.{◌≡◌, ℕ, zero, suc, Bool, false, List, [], ◌∷◌, slice_get, slice_index_or}
use Rattle.std.proofs.Common.{sym, ap, ◌∙◌}
use Rattle.sail_types.specs.Belongs.{Reading as Closed, Readings as Closeds, reading, no_readings, Asked, Inner, form_belongs}
use Rattle.sail_types.specs.Belongs.{form_belongs_to, answers_to, belongs}
use Rattle.sail_types.specs.Numbers.{Assignment}
use Rattle.sail_types.specs.declared.table.Types.{Types}
use Rattle.sail_types.specs.declared.types.Typ.{Typ, Typ-F, roll-Typ}
use Rattle.sail_types.specs.declared.types.Typ.TheFolds.{para-Typ, para-roll-Typ, map-Typ}
use Rattle.sail_types.specs.declared.types.Typ.TheOpen as T
use Rattle.sail_types.specs.declared.types.Typ.TheVariants as U
use Rattle.sail_types.specs.declared.values.Value.{Value, Value-F, out-Value}
use Rattle.sail_types.specs.declared.values.Value.TheFolds.{para-roll-Value, map-Value}
use Rattle.sail_types.specs.declared.values.Value.TheViews.{roll-out-Value}
use Rattle.value_indices.specs.declared.indices.Indices.{Indices, roll-Indices}
use Rattle.value_indices.specs.declared.indices.Indices.TheFolds.{fold-roll-Indices, fold-roll-Reading, map-Indices, map-Reading}
use Rattle.value_indices.specs.declared.indices.Indices.TheOpen.{Indices-F, Reading-F}
use Rattle.value_indices.specs.declared.indices.Reading.{Reading, roll-Reading}
use Rattle.value_laws.specs.Belonging.{nowhere, closeds, no_value, or_no_value, Meant, meant_form, closed_form, indices_hold, meant, closed, has}

module _ (types : Types) where
  -- ---- types

  abbrev pub questions : Value-F Value → Value-F (Value × Asked)
  questions w = map-Value Value (Value × Asked) (λ v. (v, belongs types v)) w

  abbrev pub inner : Value-F Value → Closeds → Typ → Inner
  inner w rs = para-Typ Inner (form_belongs types (questions w) rs (answers_to types (questions w) rs))

  -- a value of this form, of a type of this one
  abbrev pub form_asked : Value-F Value → Typ-F Typ → Assignment → Closeds → Bool
  form_asked w x mu rs = form_belongs types (questions w) rs (answers_to types (questions w) rs) (map-Typ Typ (Typ × Inner) (λ t. (t, inner w rs t)) x) mu

  pub belongs_out : (v : Value) (r : Closed) → belongs types v r ≡ form_belongs_to types (questions (out-Value v)) r
  belongs_out v r =
      ap (λ u. belongs types u r) (sym (roll-out-Value v)) ∙ ap (λ f. f r) (para-roll-Value Asked (form_belongs_to types) (out-Value v))

  pub belongs_form : (v : Value) (x : Typ-F Typ) (t : Typ) (mu : Assignment) (rs : Closeds) → roll-Typ x ≡ t
      → belongs types v (reading t mu rs) ≡ form_asked (out-Value v) x mu rs
  belongs_form v x t mu rs e =
      belongs_out v (reading t mu rs)
      ∙ ap (λ u. inner (out-Value v) rs u mu) (sym e)
      ∙ ap (λ f. f mu) (para-roll-Typ Inner (form_belongs types (questions (out-Value v)) rs (answers_to types (questions (out-Value v)) rs)) x)

  -- a type inside another, asked of the value in hand
  pub inner_is : (v : Value) (t : Typ) (mu : Assignment) (rs : Closeds) → inner (out-Value v) rs t mu ≡ belongs types v (reading t mu rs)
  inner_is v t mu rs = sym (belongs_out v (reading t mu rs))

  -- whether the value belongs to what a Type variable stands for
  abbrev pub answer : Value → Closeds → ℕ → Bool
  answer v rs i = slice_index_or (answers_to types (questions (out-Value v)) rs) i false

  pub variable_belongs : (v : Value) (i : ℕ) (mu : Assignment) (rs : Closeds) → belongs types v (reading (U.Variable i) mu rs) ≡ answer v rs i
  variable_belongs v i mu rs = belongs_form v (T.Variable i) (U.Variable i) mu rs (U.rolls-Variable i)

  pub nothing_belongs : (v : Value) (mu : Assignment) → belongs types v (no_value mu) ≡ false
  nothing_belongs v mu = variable_belongs v 0 (nowhere mu) no_readings

  pub answer_is : (v : Value) (mu : Assignment) (rs : List Closed) (i : ℕ) → answer v (closeds rs) i ≡ belongs types v (or_no_value mu (slice_get rs i))
  answer_is v mu [] i = sym (nothing_belongs v mu)
  answer_is v mu (r ∷ rs) zero = sym (belongs_out v r)
  answer_is v mu (r ∷ rs) (suc i) = answer_is v mu rs i

  -- ---- indices and types of the walk

  module _ (mu : Assignment) (own : List Closed) where
    abbrev pub meanings : Indices-F Indices Reading → Indices-F Meant Closed
    meanings x = map-Indices Indices Reading Meant Closed (meant types mu own) (closed types mu own) x

    pub meant_is : (i : Indices) (x : Indices-F Indices Reading) → roll-Indices x ≡ i → meant types mu own i ≡ meant_form types mu own (meanings x)
    meant_is i x e = ap (meant types mu own) (sym e) ∙ fold-roll-Indices Meant Closed (meant_form types mu own) (closed_form types mu own) x

    pub has_form : (i : Indices) (x : Indices-F Indices Reading) (v : Value) → roll-Indices x ≡ i
        → has types mu own i v ≡ indices_hold types mu own (meanings x) v
    has_form i x v e = ap (λ m. m.holds v) (meant_is i x e)

    abbrev pub closing : Reading-F Indices Reading → Reading-F Meant Closed
    closing x = map-Reading Indices Reading Meant Closed (meant types mu own) (closed types mu own) x

    pub closed_is : (r : Reading) (x : Reading-F Indices Reading) → roll-Reading x ≡ r → closed types mu own r ≡ closed_form types mu own (closing x)
    closed_is r x e = ap (closed types mu own) (sym e) ∙ fold-roll-Reading Meant Closed (meant_form types mu own) (closed_form types mu own) x
