-- The `val` of a mapping binds no variable, where nothing is refused for its shapes.
use Rattle.std.proofs.Common.{◌≡◌, ℕ, ◌+◌, List, [], ◌∷◌, ◌++◌, map, refl, sym, ap, ◌∙◌, subst, Bool, true, false, cond, find, Option, Some, None}
use Rattle.sail_syntax.specs.declared.words.Arrow.TheVariants as A
use Rattle.sail_syntax.specs.declared.definitions.Def.{Def}
use Rattle.sail_syntax.specs.declared.definitions.Def.TheVariants as D
use Rattle.sail_syntax.specs.declared.definitions.Param.{Param}
use Rattle.sail_globals.specs.declared.naming.Called.TheVariants.{Direction, Function, Mapping}
use Rattle.sail_globals.specs.declared.naming.Naming.{Naming}
use Rattle.sail_globals.specs.declared.naming.Role.{Role}
use Rattle.sail_globals.specs.declared.naming.Role.TheVariants.{Declared, Defined, Overloaded, Whole}
use Rattle.sail_globals.specs.declared.naming.Alone.TheVariants as is
use Rattle.sail_globals.specs.Bound.{is_among, members}
use Rattle.sail_globals.specs.Globals.{is_body, is_val}
use Rattle.sail_globals.specs.Namings.{all_namings, namings, namings_from, value_naming}
use Rattle.sail_kinds.specs.Scopes.{Within}
use Rattle.sail_names.specs.declared.names.Global.TheVariants as G
use Rattle.sail_signatures.specs.Signatures.{is_val_of, quantified, variables_in}
use Rattle.shape_joins.proofs.JoinsLeast.{none, some_same}
use Rattle.shape_joins.proofs.Order.{no}
use Rattle.shape_rules.specs.Written.{joined, written_faults}
use Rattle.shape_rules.specs.declared.error.ShapeError.{ShapeError}
use Rattle.shape_rules.proofs.Firsts.{none_failed}
use Rattle.shape_clauses.specs.Functions.{called_faults}
use Rattle.shape_clauses.specs.Mappings.{mapping_faults}
use Rattle.shape_declarations.specs.Failures.{typ_faults, types_faults}
use Rattle.shape_declarations.specs.Vals.{first_bound}
use Rattle.shape_models.specs.Models.{overloads_faults, params_variables, setting_of, within_variables}
use Rattle.shapes.specs.Failures.{all_faults, all_lets, lets_faults, others_faults, own_in, refusal, state_faults}
use Rattle.shapes.specs.Tabled.{tabled_of}
use Rattle.known_texts.specs.Accepted.{NothingFails}
use Rattle.known_texts.proofs.Failures.{apart}
use Rattle.known_texts.proofs.Roles.{Covers, IsTaken, covers_left, covers_right, taken_first}
use Rattle.known_texts.proofs.Classes.{class}
use Rattle.known_texts.proofs.There.{EachHas}
use Rattle.known_texts.proofs.Values.{first_like}

-- ---- of what isn't refused

module _ (text : List Def) (accepted : refusal (tabled_of text) text ≡ None) where
  types_fine : types_faults (tabled_of text) text ≡ []
  types_fine =
      let others : List ShapeError = others_faults (tabled_of text) (own_in (tabled_of text) text) text (all_lets (tabled_of text) text) in
      let over : List ShapeError = overloads_faults (tabled_of text).types (own_in (tabled_of text) text) text in
      let lets : List ShapeError = lets_faults (tabled_of text) (own_in (tabled_of text) text) text [] text in
      let called : List ShapeError =
      joined (map (called_faults (tabled_of text) (setting_of (tabled_of text) (own_in (tabled_of text) text) text (all_lets (tabled_of text) text))) text) in
      let mapped : List ShapeError =
      joined (map (mapping_faults (tabled_of text) (setting_of (tabled_of text) (own_in (tabled_of text) text) text (all_lets (tabled_of text) text) []))
      text) in
      let state : List ShapeError =
      joined (map (state_faults (setting_of (tabled_of text) (own_in (tabled_of text) text) text (all_lets (tabled_of text) text) [])) text) in
      let all = apart (over ++ lets) others (none_failed (all_faults (tabled_of text) text) accepted) in
      let k = apart ((types_faults (tabled_of text) text ++ called) ++ mapped) state all.1 in
      let l = apart (types_faults (tabled_of text) text ++ called) mapped k.0 in
      (apart (types_faults (tabled_of text) text) called l.0).0

  no_bound : (vs : List Param) → first_bound vs ≡ [] → vs ≡ []
  no_bound [] e = refl
  no_bound (v ∷ vs) e = absurd (cc)

  abbrev BindsNone : Def → Type 0
  BindsNone (D.Val place own quantifier from A.Mapping to) = quantifier.variables ≡ []
  BindsNone d = Unit {0}

  def_binds : (d : Def) → typ_faults (tabled_of text) d ≡ [] → BindsNone d
  def_binds (D.Val place own quantifier from A.Mapping to) e =
      let w : Within = within_variables (tabled_of text) (params_variables quantifier.variables) in
      let k = apart (first_bound quantifier.variables ++ written_faults w from) (written_faults w to) e in
      no_bound quantifier.variables (apart (first_bound quantifier.variables) (written_faults w from) k.0).0
  def_binds d e = tt

  binds_if : (b : Bool) (x d : Def) (o : Option Def) → BindsNone x → (o ≡ Some d → BindsNone d) → cond b (Some x) o ≡ Some d → BindsNone d
  binds_if true x d o its next e = subst BindsNone (some_same x d e) its
  binds_if false x d o its next e = next e

  found_binds : (name : List ℕ) (rest : List Def) (d : Def) → joined (map (typ_faults (tabled_of text)) rest) ≡ [] → find (is_val_of name) rest ≡ Some d
      → BindsNone d
  found_binds name [] d fine e = none e
  found_binds name (x ∷ rest) d fine e =
      let k = apart (typ_faults (tabled_of text) x) (joined (map (typ_faults (tabled_of text)) rest)) fine in
      binds_if (is_val_of name x) x d (find (is_val_of name) rest) (def_binds x k.0) (λ f. found_binds name rest d k.1 f) e

  -- ---- and whose `val` it is

  abbrev all : List Naming
  all = all_namings text

  abbrev FunctionTaken : List ℕ → Def → Type 0
  FunctionTaken name (D.Val place own quantifier from A.Function to) = IsTaken all name (is_val Function)
  FunctionTaken name d = Unit {0}

  def_taken : (is_member : List ℕ → Bool) (at : ℕ) (name : List ℕ) (d : Def) → is_val_of name d ≡ true → Covers all (namings is_member at d)
      → FunctionTaken name d
  def_taken is_member at name (D.Val place own quantifier from A.Function to) h c =
      c name (is_val Function) (taken_first (is_val Function) name (value_naming at (Declared Function) place own.text) [] h refl)
  def_taken is_member at name (D.Val place own quantifier from A.Mapping to) h c = tt
  def_taken is_member at name d h c = no h

  taken_if : (name : List ℕ) (b : Bool) (x d : Def) (o : Option Def) → (b ≡ true → FunctionTaken name x) → (o ≡ Some d → FunctionTaken name d)
      → cond b (Some x) o ≡ Some d → FunctionTaken name d
  taken_if name true x d o its next e = subst (FunctionTaken name) (some_same x d e) (its refl)
  taken_if name false x d o its next e = next e

  found_taken : (is_member : List ℕ → Bool) (at : ℕ) (name : List ℕ) (rest : List Def) (d : Def) → Covers all (namings_from is_member at rest)
      → find (is_val_of name) rest ≡ Some d → FunctionTaken name d
  found_taken is_member at name [] d c e = none e
  found_taken is_member at name (x ∷ rest) d c e =
      let own : List Naming = namings is_member at x in
      let more : List Naming = namings_from is_member (at + 1) rest in
      taken_if name (is_val_of name x) x d (find (is_val_of name) rest) (λ h. def_taken is_member at name x h (covers_left all own more c))
      (λ f. found_taken is_member (at + 1) name rest d (covers_right all own more c) f) e

  function_class : (s : Role) → is_val Function s ≡ true → class s ≡ G.Function 0
  function_class (Declared Function) h = refl
  function_class (Declared Mapping) h = no h
  function_class (Declared Direction) h = no h
  function_class (Defined called) h = no h
  function_class Overloaded h = no h
  function_class (Whole what) h = no h

  mapping_class : (s : Role) → is_body Mapping s ≡ true → class s ≡ G.Mapping 0
  mapping_class (Declared called) h = no h
  mapping_class (Defined Function) h = no h
  mapping_class (Defined Mapping) h = refl
  mapping_class (Defined Direction) h = no h
  mapping_class Overloaded h = no h
  mapping_class (Whole is.Mapping) h = refl
  mapping_class (Whole what) h = no h

  module _ (clear : NothingFails text) (has_all : EachHas (tabled_of text) text) (name : List ℕ) (body : IsTaken all name (is_body Mapping)) where
    differ : G.Function 0 ≡ G.Mapping 0 → ⊥
    differ h = cc

    conflict : IsTaken all name (is_val Function) → ⊥
    conflict val =
        let x = first_like text clear has_all name (is_val Function) val in
        let y = first_like text clear has_all name (is_body Mapping) body in
        let same : x.0 ≡ y.0 = some_same x.0 y.0 (sym x.1 ∙ y.1) in
        differ (sym (function_class x.2.0 x.2.1) ∙ x.2.2 ∙ ap (λ (n : Naming). class n.role) same ∙ sym y.2.2 ∙ mapping_class y.2.0 y.2.1)

    binds_nothing : (d : Def) → BindsNone d → FunctionTaken name d → quantified (Some d) ≡ []
    binds_nothing (D.Val place own quantifier from A.Mapping to) b t = b
    binds_nothing (D.Val place own quantifier from A.Function to) b t = absurd (conflict t)
    binds_nothing d b t = refl

    -- a mapping is under no variables
    pub mapping_plain : variables_in text name ≡ []
    mapping_plain = by_val (find (is_val_of name) text) refl
      where
        by_val : (o : Option Def) → find (is_val_of name) text ≡ o → quantified o ≡ []
        by_val None e = refl
        by_val (Some d) e =
            binds_nothing d (found_binds name text d types_fine e)
            (found_taken (is_among (members text)) 0 name text d (λ n test h. h) e)
