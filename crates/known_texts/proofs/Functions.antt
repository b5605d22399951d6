-- The number of a function by its name: so many functions stand before the first of this name.
use Rattle.std.proofs.Common.{◌≡◌, ℕ, suc, ◌+◌, List, [], ◌∷◌, ◌++◌, ap, sym, ◌∙◌, refl, Bool, true, false, Option, Some, None, arith}
use Rattle.std.proofs.Common.{if◌then◌else◌}
use Rattle.std.specs.Prelude.{filter_map}
use Rattle.std.specs.Option.{option_or}
use Rattle.std.specs.Str.{bytes_eq}
use Rattle.sail_types.specs.Named.{constructors, members}
use Rattle.sail_types.specs.Rows.{row_named}
use Rattle.sail_types.specs.declared.shapes.Shape.{Shape}
use Rattle.sail_types.specs.declared.table.Field.{Field}
use Rattle.sail_syntax.specs.declared.definitions.Def.{Def}
use Rattle.sail_syntax.specs.declared.definitions.Def.TheVariants as D
use Rattle.sail_kinds.specs.declared.scope.Variable.{Variable}
use Rattle.sail_signatures.specs.declared.signature.Signature.{Signature}
use Rattle.sail_core.specs.declared.tree.Callee.TheVariants as C
use Rattle.shape_joins.proofs.JoinsLeast.{none}
use Rattle.shape_joins.proofs.Order.{no}
use Rattle.shape_rules.specs.declared.callees.Candidate.{Candidate}
use Rattle.shape_rules.specs.declared.callees.Doing.{Doing}
use Rattle.shape_rules.specs.declared.callees.Doing.TheVariants as Does
use Rattle.shape_rules.specs.declared.callees.Meant.{Meant}
use Rattle.shape_rules.specs.declared.callees.Meant.TheVariants as M
use Rattle.shape_rules.specs.declared.locals.Local.{Local}
use Rattle.shape_rules.specs.Scopes.{Setting}
use Rattle.shape_models.specs.declared.entries.Counts.{Counts}
use Rattle.shape_models.specs.declared.entries.Entry.{Entry}
use Rattle.shape_models.specs.Models as Shapes
use Rattle.shape_models.specs.Models.{Tabled, added_to_name, candidates, counts_with, entries, entries_from, let_in, meant_in, no_counts, params_variables}
use Rattle.shape_models.specs.Models.{place_in_table, setting_of, type_variables}
use Rattle.shape_meanings.specs.Naming.{is_function}
use Rattle.shapes.specs.Failures.{own_in}
use Rattle.shapes.specs.Resolved.{function_names, function_place, place_among}
use Rattle.model_meanings.specs.Events.{IsEntered}
use Rattle.known_texts.specs.Definitions.{DefinitionsAre, EachIs}
use Rattle.known_texts.specs.Functions.{IsFunctionNamed}

-- the number of the function that a name means
abbrev number_of_doing : Doing → Option ℕ
number_of_doing (Does.Calls (C.Function i)) = Some i
number_of_doing doing = None

abbrev number_in : Option Meant → Option ℕ
number_in (Some (M.Callee f)) = number_of_doing f.doing
number_in meant = None

-- names that mean no function
abbrev AreOthers : List Entry → Type 0
AreOthers [] = Unit {0}
AreOthers (e ∷ es) = (number_in (Some e.meant) ≡ None) × AreOthers es

members_other : (i k : ℕ) (names : List (List ℕ)) → AreOthers (Shapes.members_from i k names)
members_other i k [] = tt
members_other i k (n ∷ names) = (refl, members_other i (suc k) names)

enum_other : (tabled : Tabled) (o : Option ℕ) → AreOthers (Shapes.enum_entries tabled o)
enum_other tabled None = tt
enum_other tabled (Some i) = members_other i 0 (members tabled.types i)

constructors_other : (u count k : ℕ) (fs : List Field) → AreOthers (Shapes.constructors_from u count k fs)
constructors_other u count k [] = tt
constructors_other u count k (f ∷ fs) = (refl, constructors_other u count (suc k) fs)

union_other : (tabled : Tabled) (count : ℕ) (o : Option ℕ) → AreOthers (Shapes.union_entries tabled count o)
union_other tabled count None = tt
union_other tabled count (Some u) = constructors_other u count 0 (constructors tabled.types u)

mapping_other : (name : List ℕ) (n : ℕ) (o : Option Signature) → AreOthers (Shapes.mapping_entries name n o)
mapping_other name n None = tt
mapping_other name n (Some s) = (refl, (refl, (refl, tt)))

module _ (tabled : Tabled) (text : List Def) (setting : List Variable → Setting) (cycle : List ℕ → Option ℕ) (name : List ℕ) (i : ℕ) where
  abbrev Means : List Entry → Type 0
  Means es = number_in (meant_in es name) ≡ Some i

  behind_if : (b : Bool) (meant : Meant) (later : Option Meant) (fs : List Entry) → number_in (Some meant) ≡ None
      → (number_in later ≡ Some i → Means fs) → number_in (if b then Some meant else later) ≡ Some i → Means fs
  behind_if true meant later fs other next e = none (sym other ∙ e)
  behind_if false meant later fs other next e = next e

  behind : (es fs : List Entry) → AreOthers es → Means (es ++ fs) → Means fs
  behind [] fs others e = e
  behind (x ∷ es) fs others e =
      behind_if (bytes_eq x.name name) x.meant (meant_in (es ++ fs) name) fs others.0 (λ h. behind es fs others.1 h) e

  function_step : (n : ℕ) (later : Option Meant) (among : ℕ) (f : Candidate) (b : Bool) → number_of_doing f.doing ≡ Some n
      → (number_in later ≡ Some i → i ≡ (suc n + among)) → number_in (if b then Some (M.Callee f) else later) ≡ Some i
      → i ≡ (n + (if b then 0 else suc among))
  function_step n later among f true is next e = same_number (sym e ∙ is) ∙ and_none n
    where
      same_number : Some i ≡ Some n → i ≡ n
      same_number h = cc

      and_none : (n : ℕ) → n ≡ (n + 0)
      and_none n = omega arith
  function_step n later among f false is next e = next e ∙ moved n among
    where
      moved : (n k : ℕ) → (suc n + k) ≡ (n + suc k)
      moved n k = omega arith

  function_in : (more : List Def) (counts : Counts) → EachIs tabled text setting cycle more → Means (entries_from tabled counts more)
      → i ≡ (counts.functions + place_among name (filter_map function_names more))
  function_in [] counts each e = none e
  function_in ((D.Register place n typ initial) ∷ more) counts each e =
      function_in more (counts_with counts (D.Register place n typ initial)) each.1
      (behind (Shapes.def_entries tabled counts (D.Register place n typ initial))
      (entries_from tabled (counts_with counts (D.Register place n typ initial)) more) (refl, tt) e)
  function_in ((D.Enum place n ms) ∷ more) counts each e =
      function_in more counts each.1
      (behind (Shapes.enum_entries tabled (place_in_table tabled n.text)) (entries_from tabled counts more)
      (enum_other tabled (place_in_table tabled n.text)) e)
  function_in ((D.Union place n variables cs) ∷ more) counts each e =
      function_in more counts each.1
      (behind (Shapes.union_entries tabled (type_variables (params_variables variables)) (place_in_table tabled n.text)) (entries_from tabled counts more)
      (union_other tabled (type_variables (params_variables variables)) (place_in_table tabled n.text)) e)
  function_in ((D.Function place extent n clauses) ∷ more) counts each e =
      let next : Counts = counts_with counts (D.Function place extent n clauses) in
      let later : Option Meant = meant_in (entries_from tabled next more) name in
      let s : Signature = each.0.0 in
      let found : number_in (meant_in (Shapes.function_entry n.text counts.functions (Some s) ++ entries_from tabled next more) name) ≡ Some i =
      ap (λ o. number_in (meant_in (Shapes.function_entry n.text counts.functions o ++ entries_from tabled next more) name)) (sym each.0.1) ∙ e in
      function_step counts.functions later (place_among name (filter_map function_names more)) (Shapes.function_candidate n.text counts.functions s)
      (bytes_eq n.text name) refl (λ h. function_in more next each.1 h) found
  function_in ((D.Mapping place n sides cs) ∷ more) counts each e =
      function_in more (counts_with counts (D.Mapping place n sides cs)) each.1
      (behind (Shapes.mapping_entries n.text counts.mappings (tabled.signature n.text))
      (entries_from tabled (counts_with counts (D.Mapping place n sides cs)) more)
      (mapping_other n.text counts.mappings (tabled.signature n.text)) e)
  function_in (d ∷ more) counts each e = function_in more counts each.1 e

  function_there : DefinitionsAre tabled text setting cycle → Means (entries tabled text) → i ≡ function_place text name
  function_there are e =
      function_in text no_counts are.1 (behind (Shapes.union_entries tabled 1 (Some 0)) (entries_from tabled no_counts text)
      (union_other tabled 1 (Some 0)) e)
      ∙ none_and (function_place text name)
    where
      none_and : (k : ℕ) → (0 + k) ≡ k
      none_and k = omega arith

-- what calls a function has its number
function_numbered : (doing : Doing) → is_function doing ≡ true → (i : ℕ) × (doing ≡ Does.Calls (C.Function i))
function_numbered (Does.Calls (C.Function i)) h = (i, refl)
function_numbered doing h = no h

pub functions_entered : (tabled : Tabled) (cycle : List ℕ → Option ℕ) (text : List Def) (lets : List Local)
    → DefinitionsAre tabled text (setting_of tabled (own_in tabled text) text lets) cycle
    → (name : List ℕ) (params : List Shape) → IsFunctionNamed tabled text name params
    → IsEntered (setting_of tabled (own_in tabled text) text lets []) name (function_place text name) params
functions_entered tabled cycle text lets are name params named =
    let f : Candidate = named.0 in
    let numbered = function_numbered f.doing named.2 in
    let place : numbered.0 ≡ function_place text name =
    function_there tabled text (setting_of tabled (own_in tabled text) text lets) cycle name numbered.0 are
    (ap number_in named.1 ∙ ap number_of_doing numbered.1) in (
      f,
      ap (λ o. Shapes.or_overload (Shapes.or_row (option_or o (let_in 0 lets name)) (row_named name)) (candidates
          (added_to_name tabled.types (own_in tabled text) text name))) named.1,
      numbered.1 ∙ ap (λ (i : ℕ). Does.Calls (C.Function i)) place,
      named.3,
    )
