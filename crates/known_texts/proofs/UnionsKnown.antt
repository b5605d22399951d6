-- Each union of a text without failures is known: its constructors are found by their names, and their payloads leave nothing open.
use Rattle.std.proofs.Common.{◌≡◌, ℕ, suc, List, [], ◌∷◌, refl, sym, ap, ◌∙◌, subst, true, Option, Some, None, codes}
use Rattle.std.proofs.lemmas.Bool.{and_parts}
use Rattle.std.specs.Prelude.{slice_get}
use Rattle.sail_syntax.specs.declared.definitions.Def.{Def}
use Rattle.sail_syntax.specs.declared.definitions.Def.TheVariants as D
use Rattle.sail_types.specs.Named.{constructors, field_types, form_constructors, in_form}
use Rattle.sail_types.specs.declared.table.Definition.{Definition}
use Rattle.sail_types.specs.declared.table.Field.{Field}
use Rattle.sail_types.specs.declared.table.Form.TheVariants as F
use Rattle.sail_types.specs.declared.table.Types.{Types}
use Rattle.type_definitions.specs.Defined.{option_definition, table_row, types_of}
use Rattle.sail_meaning.specs.Named.{constructor_in, constructor_named, here_or, standing}
use Rattle.shape_joins.proofs.JoinsLeast.{none, some_same}
use Rattle.shape_rules.specs.Values.{type_parameters}
use Rattle.shape_models.specs.Models.{params_variables, type_variables}
use Rattle.shapes.specs.Tabled.{tabled_of}
use Rattle.known_texts.specs.Definitions.{ConstructorsAre, UnionIs}
use Rattle.known_texts.proofs.TableFormed.{all_so_far}
use Rattle.known_texts.proofs.WellFormed.{all_formed, formed}
use Rattle.known_texts.specs.KnownTexts.{EachUnionKnown}
use Rattle.known_texts.proofs.Tuples.{AllPayloads, TuplesHaveParts}
use Rattle.known_texts.proofs.Fine.{form_all, type_variable_count}
use Rattle.known_texts.proofs.Formed.{params_shaped}
use Rattle.known_texts.proofs.Unions.{ConstructorsNamed, EachNamed}
use Rattle.known_texts.proofs.Values.{option_first}

-- a union, by what is known of its constructors
constructors_are : (types : Types) (u count k : ℕ) (fs : List Field) → ConstructorsNamed types u k fs → all_formed types count (field_types fs) ≡ true
    → AllPayloads fs → ConstructorsAre types u count k fs
constructors_are types u count k [] named h p = tt
constructors_are types u count k (f ∷ fs) named h p =
    let own = and_parts (formed types count f.typ) (all_formed types count (field_types fs)) h in
    (named.0, (params_shaped types count f.typ own.0).0, p.0, constructors_are types u count (suc k) fs named.1 own.1 p.1)

first_of : (rows : List Definition) (d : Definition) → slice_get rows 0 ≡ Some d → (rest : List Definition) × (rows ≡ d ∷ rest)
first_of [] d e = none e
first_of (r ∷ rows) d e = (rows, ap (λ (x : Definition). x ∷ rows) (some_same r d e))

module _ (text : List Def) (parts : TuplesHaveParts text) where
  abbrev types : Types
  types = (tabled_of text).types

  row_union : (u count : ℕ) (row : Definition) (fs : List Field) → slice_get types.definitions u ≡ Some row → form_constructors row.form ≡ fs
      → type_parameters row.parameters ≡ count → ConstructorsNamed types u 0 fs → UnionIs types count (Some u)
  row_union u count row fs there has same named =
      let its : constructors types u ≡ fs = ap (in_form [] form_constructors) there ∙ has in
      let all = form_all types (type_parameters row.parameters) row.form ((all_so_far text).rows u row there) in
      subst (λ (gs : List Field). ConstructorsAre types u count 0 gs) (sym its)
      (constructors_are types u count 0 fs named
      (subst (λ (gs : List Field). all_formed types count (field_types gs) ≡ true) has
      (subst (λ n. all_formed types n (field_types (form_constructors row.form)) ≡ true) same all)) (subst AllPayloads its (parts.payloads u)))

  -- `option`
  pub option_known : UnionIs types 1 (Some 0)
  option_known =
      row_union 0 1 option_definition (form_constructors option_definition.form) (option_first text) refl refl
      (found (codes "Some") 0 refl, (found (codes "None") 1 refl, tt))
    where
      found : (name : List ℕ) (k : ℕ) → constructor_in name option_definition ≡ Some k → constructor_named types name ≡ Some (0, k)
      found name k e =
          let f = first_of types.definitions option_definition (option_first text) in
          ap (standing (constructor_in name) 0) f.1 ∙ ap (λ o. here_or 0 o (standing (constructor_in name) 1 f.0)) e

  pub each_union : (rest : List Def) → EachNamed (types_of text) rest → EachUnionKnown (tabled_of text) rest
  each_union [] named = tt
  each_union ((D.Union place name variables cs) ∷ rest) named =
      let it = named.0 in (
        subst (λ (o : Option ℕ). UnionIs types (type_variables (params_variables variables)) o) (sym it.1)
            (row_union it.0 (type_variables (params_variables variables)) (table_row name.text variables (F.Union it.2.0)) it.2.0 it.2.1 refl
            (type_variable_count variables) it.2.2),
        each_union rest named.1,
      )
  each_union (d ∷ rest) named = (tt, each_union rest named.1)
