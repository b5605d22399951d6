-- Functions and mappings of a text without clashes have no constructor's name.
use Rattle.std.proofs.Common.{◌≡◌, ℕ, suc, ◌+◌, List, [], ◌∷◌, ◌++◌, map, filter, length, refl, sym, ap, ◌∙◌, subst, Bool, true, false, not, ◌&&◌, ◌||◌}
use Rattle.std.proofs.Common.{cond, nat_lt, arith, Some, None, inl, inr}
use Rattle.std.proofs.lemmas.Bool.{and_parts, or_parts}
use Rattle.std.proofs.lemmas.Bool.Decides.{nat_tests}
use Rattle.std.specs.Prelude.{is_some}
use Rattle.std.specs.List.{list_all, list_any, position, position_or_len}
use Rattle.std.specs.Str.{bytes_eq}
use Rattle.sail_base.specs.declared.place.Place.{Place}
use Rattle.sail_syntax.specs.declared.definitions.Def.{Def}
use Rattle.sail_syntax.specs.declared.definitions.Def.TheVariants as D
use Rattle.sail_types.specs.Named.{form_constructors}
use Rattle.sail_types.specs.Rows.{row_named}
use Rattle.sail_types.specs.declared.table.Definition.{Definition}
use Rattle.sail_types.specs.declared.table.Field.{Field}
use Rattle.sail_types.specs.declared.table.Form.{Form}
use Rattle.sail_types.specs.declared.table.Form.TheVariants as F
use Rattle.sail_kinds.specs.declared.error.TableError.{TableError}
use Rattle.sail_kinds.specs.declared.error.TableError.TheVariants as error
use Rattle.sail_globals.specs.declared.naming.Alone.TheVariants as is
use Rattle.sail_globals.specs.declared.naming.Called.TheVariants.{Direction, Function, Mapping}
use Rattle.sail_globals.specs.declared.naming.Naming.{Naming}
use Rattle.sail_globals.specs.declared.naming.Role.{Role}
use Rattle.sail_globals.specs.declared.naming.Role.TheVariants.{Declared, Defined, Overloaded, Whole}
use Rattle.sail_globals.specs.declared.naming.Space.TheVariants.{Values}
use Rattle.sail_globals.specs.Bound.{is_among, members}
use Rattle.sail_globals.specs.Clashes.{builtin_constructors, clash, clashes_behind, has, is_builtin, is_free, is_other_half, is_overloaded, is_same_space}
use Rattle.sail_globals.specs.Clashes.{taken, takes}
use Rattle.sail_globals.specs.Globals.{is_body}
use Rattle.sail_globals.specs.Namings.{all_namings, backwards_of, body_namings, forwards_of, mapping_namings, namings, namings_from, value_naming}
use Rattle.type_definitions.specs.Defined.{types_of}
use Rattle.sail_meaning.specs.Named.{constructor_in, constructor_named, here_or, standing}
use Rattle.shape_joins.proofs.Order.{no}
use Rattle.shape_meanings.proofs.Settling.{same_name}
use Rattle.shape_meanings.proofs.StructNames.{bytes_same}
use Rattle.shapes.specs.Tabled.{tabled_of}
use Rattle.known_texts.specs.Accepted.{EachApart, NothingFails}
use Rattle.known_texts.proofs.Failures.{apart}
use Rattle.known_texts.proofs.Roles.{Covers, IsTaken, all_free, all_over, are_free, covers_left, covers_right, or_elim, same_space, taken_first}
use Rattle.known_texts.proofs.TableRows.{AreConstructors, AreRows, IsConstructor, IsForm, is_constructor_role, rows_are}

-- ---- a constructor takes its name alone

is_constructor : (r : Role) → is_constructor_role r ≡ true → r ≡ Whole is.Constructor
is_constructor (Whole is.Constructor) h = refl
is_constructor r h = no h

none_over : (rs : List Role) → list_all is_overloaded rs ≡ true → list_any is_constructor_role rs ≡ true → ⊥
none_over [] h k = no k
none_over (Overloaded ∷ rs) h k = none_over rs h k
none_over (r ∷ rs) h k = no h

half_none : (r : Role) → is_other_half r (Whole is.Constructor) ≡ true → ⊥
half_none (Declared called) h = no h
half_none (Defined called) h = no h
half_none Overloaded h = no h
half_none (Whole what) h = no h

no_pair : (r s : Role) → is_other_half r s ≡ true → (is_constructor_role r || (is_constructor_role s || false)) ≡ true → ⊥
no_pair r s half h =
    or_elim (is_constructor_role r) (is_constructor_role s || false) h
    (λ e. no (subst (λ (x : Role). is_other_half x s ≡ true) (is_constructor r e) half))
    (λ e. or_elim (is_constructor_role s) false e (λ f. half_none r (subst (λ (x : Role). is_other_half r x ≡ true) (is_constructor s f) half)) (λ f. no f))

constructor_alone : (test : Role → Bool) (rs : List Role) → test (Whole is.Constructor) ≡ false → are_free [] rs ≡ true
    → list_any is_constructor_role rs ≡ true → list_any test rs ≡ true → ⊥
constructor_alone test [] other free c h = no h
constructor_alone test (r ∷ []) other free c h =
    or_elim (is_constructor_role r) false c
    (λ e. or_elim (test r) false h (λ k. no (sym other ∙ ap test (sym (is_constructor r e)) ∙ k)) (λ k. no k)) (λ e. no e)
constructor_alone test (r ∷ s ∷ []) other free c h = no_pair r s (and_parts (is_other_half r s) true free).0 c
constructor_alone test (r ∷ s ∷ t ∷ rest) other free c h =
    let k = and_parts (is_other_half r s) (is_free (r ∷ s ∷ []) t && are_free (r ∷ s ∷ t ∷ []) rest) free in
    let l = and_parts (is_free (r ∷ s ∷ []) t) (are_free (r ∷ s ∷ t ∷ []) rest) k.1 in
    let over = and_parts (list_all is_overloaded (r ∷ s ∷ [])) (is_overloaded t) l.0 in
    let firsts : list_all is_overloaded (r ∷ s ∷ []) ≡ true = over.0 in
    or_elim (is_constructor_role r) (is_constructor_role s || list_any is_constructor_role (t ∷ rest)) c
    (λ e. none_over (r ∷ s ∷ []) firsts (first e (is_constructor_role s || false)))
    (λ e. or_elim (is_constructor_role s) (list_any is_constructor_role (t ∷ rest)) e
    (λ f. none_over (r ∷ s ∷ []) firsts (second (is_constructor_role r) f))
    (λ f. none_over (t ∷ rest) (both over.1 (all_over r s (t ∷ []) rest l.1)) f))
  where
    first : {b : Bool} → b ≡ true → (c : Bool) → (b || c) ≡ true
    first e c = ap (λ x. x || c) e

    second : (b : Bool) → {d : Bool} → d ≡ true → (b || (d || false)) ≡ true
    second true e = refl
    second false e = ap (λ x. x || false) e

    both : {a b : Bool} → a ≡ true → b ≡ true → (a && b) ≡ true
    both {b = b} e f = ap (λ x. x && b) e ∙ f

-- ---- a name that a definition takes is none of those before the text

not_builtin : (b c : Bool) (e : TableError) → cond (b || c) (e ∷ []) [] ≡ [] → b ≡ false
not_builtin true c e h = absurd (cc)
not_builtin false c e h = refl

module _ (name : List ℕ) (test : Role → Bool) where
  abbrev passes : List Naming → Bool
  passes fs = list_any test (map (λ one. one.role) fs)

  new_step : (b : Bool) (n : Naming) (fs : List Naming) (old : Bool) → (b ≡ true → old ≡ false) → (passes fs ≡ true → old ≡ false)
      → passes (cond b (n ∷ fs) fs) ≡ true → old ≡ false
  new_step true n fs old here next h = here refl
  new_step false n fs old here next h = next h

  new_here : (earlier : List Naming) (n : Naming) → clash earlier n ≡ [] → takes Values name n ≡ true → has builtin_constructors name ≡ false
  new_here earlier n clear takes_it =
      let k = and_parts (is_same_space n.space Values) (bytes_eq n.name name) takes_it in
      let new : is_builtin n.space n.name ≡ false =
      not_builtin (is_builtin n.space n.name) (not (is_free (taken earlier n.space n.name) n.role)) (error.Clash n.place n.name) clear in
      let own : is_builtin Values name ≡ false = (λ i. is_builtin (sym (same_space n.space k.0) i) (sym (same_name n.name name k.1) i)) ∙ new in
      (or_parts (is_some (row_named name)) (has builtin_constructors name) own).1

  pub new_name : (earlier ns : List Naming) → clashes_behind earlier ns ≡ [] → IsTaken ns name test → has builtin_constructors name ≡ false
  new_name earlier [] clear h = no h
  new_name earlier (n ∷ ns) clear h =
      let k = apart (clash earlier n) (clashes_behind (earlier ++ n ∷ []) ns) clear in
      new_step (takes Values name n) n (filter (takes Values name) ns) (has builtin_constructors name) (λ e. new_here earlier n k.0 e)
      (λ e. new_name (earlier ++ n ∷ []) ns k.1 e) h

-- ---- no constructor of the table has the name

pub none_before : (p : Field → Bool) (fs : List Field) → list_any p fs ≡ false → position_or_len p fs ≡ length fs
none_before p [] h = refl
none_before p (f ∷ fs) h =
    let k = or_parts (p f) (list_any p fs) h in
    ap (λ b. cond (not b) (1 + position_or_len p fs) 0) k.0 ∙ ap (λ n. 1 + n) (none_before p fs k.1) ∙ one_more (length fs)
  where
    one_more : (n : ℕ) → (1 + n) ≡ suc n
    one_more n = omega arith

not_less : (n : ℕ) → nat_lt n n ≡ false
not_less n = grind (arith, nat_tests)

pub nowhere : (p : Field → Bool) (fs : List Field) → list_any p fs ≡ false → position p fs ≡ None
nowhere p fs h =
    ap (λ n. cond (nat_lt n (length fs)) (Some (position_or_len p fs)) None) (none_before p fs h)
    ∙ ap (λ b. cond b (Some (position_or_len p fs)) None) (not_less (length fs))

module _ (all : List Naming) (name : List ℕ) (none : IsConstructor all name → ⊥) where
  none_if : (b : Bool) (f : Field) (more : Bool) → (b ≡ true → f.name ≡ name) → IsConstructor all f.name → more ≡ false → b ≡ bytes_eq f.name name
      → (b || more) ≡ false
  none_if true f more same h rest own = absurd (none (subst (IsConstructor all) (same refl) h))
  none_if false f more same h rest own = rest

  none_among : (fs : List Field) → AreConstructors all fs → list_any (λ c. bytes_eq c.name name) fs ≡ false
  none_among [] h = refl
  none_among (f ∷ fs) h =
      none_if (bytes_eq f.name name) f (list_any (λ c. bytes_eq c.name name) fs) (λ e. same_name f.name name e) h.0 (none_among fs h.1) refl

  form_none : (form : Form) → IsForm all form → position (λ c. bytes_eq c.name name) (form_constructors form) ≡ None
  form_none (F.Union fs) h = nowhere (λ c. bytes_eq c.name name) fs (none_among fs h)
  form_none (F.Enum ms) h = nowhere (λ c. bytes_eq c.name name) [] refl
  form_none (F.Struct fs) h = nowhere (λ c. bytes_eq c.name name) [] refl

  table_none : (k : ℕ) (rows : List Definition) → AreRows all rows → standing (constructor_in name) k rows ≡ None
  table_none k [] h = refl
  table_none k (row ∷ rows) h =
      ap (λ o. here_or k o (standing (constructor_in name) (suc k) rows)) (form_none row.form h.0)
      ∙ table_none (suc k) rows h.1

-- ---- the definitions of a text

module _ (text : List Def) (clear : NothingFails text) where
  abbrev all_taken : List Naming
  all_taken = all_namings text

  name_apart : (name : List ℕ) (test : Role → Bool) → test (Whole is.Constructor) ≡ false → IsTaken all_taken name test
      → constructor_named (tabled_of text).types name ≡ None
  name_apart name test other h =
      table_none all_taken name
      (λ c. elim c [
        | inl own ↦ constructor_alone test (taken all_taken Values name) other (all_free [] all_taken clear.names name) own h
        | inr old ↦ no (sym (new_name name test [] all_taken clear.names h) ∙ old)
      ]) 0 (types_of text).table (rows_are all_taken (is_among (members text)) text (λ n t e. e))

  taken_at : (test : Role → Bool) (at : ℕ) (role : Role) (place : Place) (name : List ℕ) (more : List Naming)
      → Covers all_taken (value_naming at role place name ∷ more) → test role ≡ true → test (Whole is.Constructor) ≡ false
      → constructor_named (tabled_of text).types name ≡ None
  taken_at test at role place name more c h other =
      name_apart name test other (c name test (taken_first test name (value_naming at role place name) more (bytes_same name) h))

  abbrev Apart : List ℕ → Type 0
  Apart name = constructor_named (tabled_of text).types name ≡ None

  mapping_apart : (at : ℕ) (place : Place) (name : List ℕ) (role direction : Role) → is_body Mapping role ≡ true → is_body Direction direction ≡ true
      → Covers all_taken (mapping_namings at role direction place name) → Apart name × Apart (forwards_of name) × Apart (backwards_of name)
  mapping_apart at place name role direction is_mapping is_direction c =
      let own : Naming = value_naming at role place name in
      let ahead : Naming = value_naming at direction place (forwards_of name) in
      let back : Naming = value_naming at direction place (backwards_of name) in
      let directions : Covers all_taken (ahead ∷ back ∷ []) = covers_right all_taken (own ∷ []) (ahead ∷ back ∷ []) c in (
        taken_at (is_body Mapping) at role place name (ahead ∷ back ∷ []) c is_mapping refl,
        taken_at (is_body Direction) at direction place (forwards_of name) (back ∷ []) directions is_direction refl,
        taken_at (is_body Direction) at direction place (backwards_of name) [] (covers_right all_taken (ahead ∷ []) (back ∷ []) directions)
            is_direction refl,
      )

  body_apart : (at : ℕ) (place : Place) (name : List ℕ) (b : Bool) → Covers all_taken (body_namings at place name b)
      → Apart name × Apart (forwards_of name) × Apart (backwards_of name)
  body_apart at place name true c = mapping_apart at place name (Whole is.Mapping) (Whole is.Direction) refl refl c
  body_apart at place name false c = mapping_apart at place name (Defined Mapping) (Defined Direction) refl refl c

  each_apart : (is_member : List ℕ → Bool) (at : ℕ) (rest : List Def) → Covers all_taken (namings_from is_member at rest)
      → EachApart (tabled_of text).types rest
  each_apart is_member at [] c = tt
  each_apart is_member at ((D.Function place extent name clauses) ∷ rest) c =
      let own : List Naming = value_naming at (Defined Function) place name.text ∷ [] in
      let more : List Naming = namings_from is_member (at + 1) rest in (
        taken_at (is_body Function) at (Defined Function) place name.text [] (covers_left all_taken own more c) refl refl,
        each_apart is_member (at + 1) rest (covers_right all_taken own more c),
      )
  each_apart is_member at ((D.Mapping place name sides clauses) ∷ rest) c =
      let own : List Naming = body_namings at place name.text (is_some sides) in
      let more : List Naming = namings_from is_member (at + 1) rest in (
        body_apart at place name.text (is_some sides) (covers_left all_taken own more c),
        each_apart is_member (at + 1) rest (covers_right all_taken own more c),
      )
  each_apart is_member at (d ∷ rest) c =
      (tt, each_apart is_member (at + 1) rest (covers_right all_taken (namings is_member at d) (namings_from is_member (at + 1) rest) c))

pub callables_apart : (text : List Def) → NothingFails text → EachApart (tabled_of text).types text
callables_apart text clear = each_apart text clear (is_among (members text)) 0 text (λ n t e. e)
