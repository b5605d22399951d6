-- Fields of a struct that get new values of their types, one after the other: it has its indices as before.
use Rattle.std.proofs.Common.{◌≡◌, ◌≤◌, ℕ, suc, true, List, [], ◌∷◌, ◌++◌, length, slice_get, Option, Some, None, refl, ap, ◌∙◌, arith}
use Rattle.sail_types.specs.Named.{field_types, fields}
use Rattle.sail_types.specs.Sums.{and_then}
use Rattle.sail_types.specs.declared.numbers.Index.{Index}
use Rattle.sail_types.specs.declared.table.Field.{Field}
use Rattle.sail_types.specs.declared.types.Typ.{Typ}
use Rattle.sail_types.specs.declared.values.Value.{Value}
use Rattle.sail_core.specs.Values.{field_way, with_fields}
use Rattle.value_indices.specs.declared.indices.Indices.TheVariants as I
use Rattle.value_indices.specs.declared.indices.Reading.{Reading}
use Rattle.value_indices.specs.declared.indices.Reading.TheVariants as R
use Rattle.expression_forms.specs.Ways.{fields_at, one_typ}
use Rattle.value_laws.specs.Belonging.{Integers, has, is_of, standing}
use Rattle.way_laws.specs.Laws.{HasPart}
use Rattle.way_laws.proofs.Fields.{field_there}
use Rattle.soundness_steps.specs.Works.{Setting, Work}
use Rattle.soundness_values.proofs.Narrowed.{AllNarrow}
use Rattle.soundness_parts.proofs.NamedTypes.{field_narrow, type_closes}

module _ (set : Setting) (work : Work) (is : List Index) (rs : List Reading) (g : Integers) where
  -- values of these types, under what the struct's variables stand for
  abbrev pub AllFit : List Typ → List Value → Type 0
  AllFit [] [] = Unit {0}
  AllFit (t ∷ ts) (v ∷ vs) = (is_of set.around.types (standing set.past g) work.types (R.Of t is rs) v ≡ true) × AllFit ts vs
  AllFit ts vs = ⊥

  abbrev HasIt : ℕ → Value → Type 0
  HasIt u v = has set.around.types (standing set.past g) work.types (I.Named u is rs) v ≡ true

  pub record WithAll (u : ℕ) (ks : List ℕ) (vs : List Value) (old : Value) : Type 0 where
    pub whole : Value
    pub is_it : with_fields u ks vs old ≡ Some whole
    pub has_it : HasIt u whole

  module _ (u : ℕ) (fs : List Field) (defined : fields set.around.types u ≡ Some fs) (narrow : AllNarrow (length rs) (field_types fs)) where
    fields_few : (ks : List ℕ) → length (fields_at ks (Some fs)) ≤ length ks
    fields_few [] = omega arith
    fields_few (k ∷ ks) = by (slice_get fs k) (fields_few ks)
      where
        by : (o : Option Field) → length (fields_at ks (Some fs)) ≤ length ks → length (one_typ o ++ fields_at ks (Some fs)) ≤ suc (length ks)
        by None l = let r : length (fields_at ks (Some fs)) ≤ suc (length ks) = omega (arith, l) in r
        by (Some d) l = let r : suc (length (fields_at ks (Some fs))) ≤ suc (length ks) = omega (arith, l) in r

    one : (k : ℕ) (ks : List ℕ) (o : Option Field) → slice_get fs k ≡ o → (vs : List Value) (old : Value)
        → suc (length ks) ≡ length (one_typ o ++ fields_at ks (Some fs)) → AllFit (one_typ o ++ fields_at ks (Some fs)) vs → HasIt u old
        → ((us : List Value) (v : Value) → length ks ≡ length (fields_at ks (Some fs)) → AllFit (fields_at ks (Some fs)) us → HasIt u v → WithAll u ks us v)
        → WithAll u (k ∷ ks) vs old
    one k ks None e vs old long all h rest =
        let few : length (fields_at ks (Some fs)) ≤ length ks = fields_few ks in
        let many : suc (length ks) ≡ length (fields_at ks (Some fs)) = long in absurd (omega (arith, many, few))
    one k ks (Some d) e [] old long all h rest = absurd all
    one k ks (Some d) e (v ∷ vs) old long all h rest =
        let types = set.around.types in
        let mu = standing set.past g in
        let part : HasPart types mu work.types (I.Named u is rs) old (R.Of d.typ is rs) (field_way u k) =
        field_there types mu work.types u is rs fs defined k d old e (type_closes set work is rs d.typ (field_narrow (length rs) fs k d narrow e) g) h in
        let put = part.replaced v all.0 in
        let longer : suc (length ks) ≡ suc (length (fields_at ks (Some fs))) = long in
        let more = rest vs put.whole (omega (arith, longer)) all.1 put.is_so in
        record { whole = more.whole; is_it = ap (λ o. and_then o (with_fields u ks vs)) put.is_there ∙ more.is_it; has_it = more.has_it }

    pub with_all : (ks : List ℕ) (vs : List Value) (old : Value) → length ks ≡ length (fields_at ks (Some fs)) → AllFit (fields_at ks (Some fs)) vs
        → HasIt u old → WithAll u ks vs old
    with_all [] [] old long all h = record { whole = old; is_it = refl; has_it = h }
    with_all [] (v ∷ vs) old long all h = absurd all
    with_all (k ∷ ks) vs old long all h =
        one k ks (slice_get fs k) refl vs old long all h (λ us v l a b. with_all ks us v l a b)

  -- a struct that the table doesn't have has no fields
  pub with_each : (u : ℕ) (o : Option (List Field)) → fields set.around.types u ≡ o
      → ((fs : List Field) → o ≡ Some fs → AllNarrow (length rs) (field_types fs)) → (ks : List ℕ) (vs : List Value) (old : Value)
      → length ks ≡ length (fields_at ks o) → AllFit (fields_at ks o) vs → HasIt u old → WithAll u ks vs old
  with_each u None defined narrow [] [] old long all h = record { whole = old; is_it = refl; has_it = h }
  with_each u None defined narrow [] (v ∷ vs) old long all h = absurd all
  with_each u None defined narrow (k ∷ ks) vs old long all h = let none : suc (length ks) ≡ 0 = long in absurd (omega (arith, none))
  with_each u (Some fs) defined narrow ks vs old long all h = with_all u fs defined (narrow fs refl) ks vs old long all h
