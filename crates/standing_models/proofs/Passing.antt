-- What is found of each form that is made of values passes the tests of nodes where what is found of its parts does.
use Rattle.std.proofs.Common.{◌≡◌, ℕ, suc, Bool, true, false, List, [], ◌∷◌, ◌++◌, map, ap, sym, ◌∙◌, refl, subst, Option, Some, None, length}
use Rattle.std.proofs.Common.{if◌then◌else◌}
use Rattle.std.specs.List.{list_all}
use Rattle.std.proofs.lemmas.Bool.{and_parts}
use Rattle.std.proofs.lemmas.Bool.Decides.{Decides-eqb}
use Rattle.std.proofs.lemmas.List.{length-map}
use Rattle.sail_base.specs.declared.operators.Operator.{Operator}
use Rattle.sail_base.specs.declared.operators.Operator.TheVariants as O
use Rattle.sail_base.specs.declared.operators.Prefix.{Prefix}
use Rattle.sail_base.specs.declared.place.Place.{Place}
use Rattle.sail_types.specs.Rows.{members_of, operator_rows, prefix_rows, row_members}
use Rattle.sail_types.specs.Shapes.{at, put}
use Rattle.sail_types.specs.declared.members.Member.{Member}
use Rattle.sail_types.specs.declared.numbers.Index.{Index}
use Rattle.sail_types.specs.declared.shapes.Shape.{Shape, out-Shape}
use Rattle.sail_types.specs.declared.shapes.Shape.TheVariants as V
use Rattle.sail_syntax.specs.declared.name.Name.{Name}
use Rattle.sail_syntax.specs.declared.types.TyExp.{TyExp}
use Rattle.sail_syntax.specs.declared.words.Brackets.{Brackets}
use Rattle.sail_syntax.specs.declared.words.Brackets.TheVariants as B
use Rattle.sail_core.specs.declared.patterns.Literal.TheVariants as L
use Rattle.sail_core.specs.declared.patterns.Pattern.{Pattern}
use Rattle.sail_core.specs.declared.tree.Callee.TheVariants as C
use Rattle.sail_core.specs.declared.tree.Core.{Core}
use Rattle.sail_core.specs.declared.tree.Kind.{Kind}
use Rattle.sail_core.specs.declared.tree.Kind.TheVariants as K
use Rattle.sail_names.specs.Known as Tables
use Rattle.pattern_leaves.specs.Settings.{Around}
use Rattle.shape_joins.specs.Learning.{Learns, holes, learn, learn_all, then_learn}
use Rattle.shape_joins.proofs.JoinsLeast.{none, some_same}
use Rattle.shape_joins.proofs.Order.{two}
use Rattle.shape_rules.specs.declared.callees.Candidate.{Candidate}
use Rattle.shape_rules.specs.declared.callees.Doing.{Doing}
use Rattle.shape_rules.specs.declared.callees.Doing.TheVariants as D
use Rattle.shape_rules.specs.declared.callees.Mapping.{Mapping}
use Rattle.shape_rules.specs.declared.callees.Meant.{Meant}
use Rattle.shape_rules.specs.declared.callees.Meant.TheVariants as M
use Rattle.shape_rules.specs.declared.locals.Local.{Local}
use Rattle.shape_rules.specs.Calls.{Args, Chosen, Elaborate, Solved, args_found, arguments_for, builtin_members, call_found, chosen, chosen_or}
use Rattle.shape_rules.specs.Calls.{doing_kind, is_unsure_of, member_candidate, member_found, one_called, operator_members, operator_text, or_unit}
use Rattle.shape_rules.specs.Calls.{prefix_members, prefix_text, row_called, several_called, solved, solved_found, takes_unit, taught}
use Rattle.shape_rules.specs.Findings.{Found, behind, given_on, over, unknown}
use Rattle.shape_rules.specs.Patterns.{Which, backwards, either, forwards, neither, which_side}
use Rattle.shape_rules.specs.Scopes.{Locals, Setting}
use Rattle.shape_rules.specs.Targets.{IndexPart, Led, Part, SuffixPart, at_part, base_faults, cores_of, elaborations, faults_of, index_found, led_form}
use Rattle.shape_rules.specs.Targets.{led_shape, suffix_found, suffix_place, walked}
use Rattle.shape_rules.specs.Values.{as_one, call_named, callee_called, chained, direction_found, does_convert, ends_found, global_found}
use Rattle.shape_rules.specs.Values.{group_found, infix_as, infix_found, is_truth_form, is_variable_form, list_want, logical_found, logical_kind}
use Rattle.shape_rules.specs.Values.{mapping_found, tuple_wants, updated_led, vector_want}
use Rattle.shape_rules.specs.Values.{name_called, name_found, one_way, part_found, parts_found, prefix_found, typed_found, undecided, unit_found, update_found}
use Rattle.shape_rules.specs.Values.{update_kind}
use Rattle.shape_rules.specs.Written.{shape_in, written, written_faults}
use Rattle.shape_meanings.proofs.Settling.{both_empty}
use Rattle.soundness_forms.specs.Standing.{literal_right}
use Rattle.standing_models.specs.Tests.{Fits, Tested, candidate_fits, doing_fits, kind_fits, meant_fits}
use Rattle.standing_models.proofs.CorePasses.{AllPass, Passes, also_pass, counted_passes, missing_passes, over_passes, settled_passes}

pub not_empty : {A B : Type 0} {x : A} {xs : List A} → (x ∷ xs) ≡ [] → B
not_empty e = absurd (never e)
  where
    never : {A : Type 0} {x : A} {xs : List A} → (x ∷ xs) ≡ [] → ⊥
    never e = cc

module _ (around : Around) (numbers : List Index) (fits : Pattern → Bool) (setting : Setting) (names : Tables.Setting)
    (fit : Fits around numbers fits setting names) where
  abbrev pub Is : Elaborate → Type 0
  Is = Tested around numbers fits setting

  abbrev pub AreEach : List Elaborate → Type 0
  AreEach [] = Unit {0}
  AreEach (e ∷ es) = Is e × AreEach es

  abbrev pub PartsAre : List Part → Type 0
  PartsAre [] = Unit {0}
  PartsAre (a ∷ parts) = Is a.elaborate × PartsAre parts

  abbrev pub MaybeIs : Option Part → Type 0
  MaybeIs None = Unit {0}
  MaybeIs (Some a) = Is a.elaborate

  abbrev pub SuffixIs : SuffixPart → Type 0
  SuffixIs x = (locals : Locals) → faults_of (suffix_found x setting locals) ≡ [] → AllPass around numbers fits (cores_of (suffix_found x setting locals))

  abbrev pub SuffixesAre : List SuffixPart → Type 0
  SuffixesAre [] = Unit {0}
  SuffixesAre (x ∷ xs) = SuffixIs x × SuffixesAre xs

  abbrev pub IndexIs : IndexPart → Type 0
  IndexIs index = Is index.first.elaborate × MaybeIs index.last

  pub each_of : (parts : List Part) → PartsAre parts → AreEach (elaborations parts)
  each_of [] h = tt
  each_of (a ∷ parts) h = (h.0, each_of parts h.1)

  -- ---- parts, one after the other

  pub parts_pass : (es : List Elaborate) → AreEach es → (locals : Locals) (wants : List Shape) → (parts_found es setting locals wants).faults ≡ []
      → AllPass around numbers fits (parts_found es setting locals wants).cores
  parts_pass [] h locals wants e = tt
  parts_pass (a ∷ es) h locals [] e =
      let b = both_empty (a setting locals V.Never).faults (parts_found es setting locals []).faults e in
      (h.0 locals V.Never b.0, parts_pass es h.1 locals [] b.1)
  parts_pass (a ∷ es) h locals (want ∷ wants) e =
      let b = both_empty (a setting locals want).faults (parts_found es setting locals wants).faults e in
      (h.0 locals want b.0, parts_pass es h.1 locals wants b.1)

  chained_pass : (es : List Elaborate) → AreEach es → (locals : Locals) (want : Shape) → (chained es setting locals want).faults ≡ []
      → AllPass around numbers fits (chained es setting locals want).cores
  chained_pass [] h locals want e = tt
  chained_pass (a ∷ es) h locals want e =
      let next : Shape = given_on want (a setting locals want).shape in
      let b = both_empty (a setting locals want).faults (chained es setting locals next).faults e in
      (h.0 locals want b.0, chained_pass es h.1 locals next b.1)

  pub solved_pass : (es : List Elaborate) → AreEach es → (locals : Locals) (params known : List Shape) → (solved es setting locals params known).faults ≡ []
      → AllPass around numbers fits (solved es setting locals params known).cores
  solved_pass [] h locals params known e = tt
  solved_pass (a ∷ es) h locals [] known e = tt
  solved_pass (a ∷ es) h locals (p ∷ ps) known e =
      let found : Found = a setting locals (put (at known) p) in
      let b = both_empty (found.faults ++ taught (put (at known) p) found (learn p found.shape known)) _ e in
      let b2 = both_empty found.faults (taught (put (at known) p) found (learn p found.shape known)) b.0 in
      (h.0 locals (put (at known) p) b2.0, solved_pass es h.1 locals ps _ b.1)

  -- as many as there are parameters
  pub solved_count : (es : List Elaborate) (locals : Locals) (params known : List Shape) → length params ≡ length es
      → length (solved es setting locals params known).cores ≡ length params
  solved_count [] locals [] known h = refl
  solved_count [] locals (p ∷ ps) known h = absurd (more (length ps) h)
    where
      more : (n : ℕ) → suc n ≡ 0 → ⊥
      more n h = cc
  solved_count (a ∷ es) locals [] known h = refl
  solved_count (a ∷ es) locals (p ∷ ps) known h = ap suc (solved_count es locals ps _ (less (length ps) (length es) h))
    where
      less : (n k : ℕ) → suc n ≡ suc k → n ≡ k
      less n k h = cc

  pub args_pass : (es : List Elaborate) → AreEach es → (locals : Locals) → (args_found es setting locals).faults ≡ []
      → AllPass around numbers fits (args_found es setting locals).cores
  args_pass [] h locals e = tt
  args_pass (a ∷ es) h locals e =
      let b = both_empty (a setting locals V.Never).faults (args_found es setting locals).faults e in
      (h.0 locals V.Never b.0, args_pass es h.1 locals b.1)

  args_count : (es : List Elaborate) (locals : Locals) → length (args_found es setting locals).cores ≡ length (args_found es setting locals).shapes
  args_count [] locals = refl
  args_count (a ∷ es) locals = ap suc (args_count es locals)

  -- ---- names

  member_fits : (o : Option Meant) → meant_fits around o ≡ true → (place : Place) (want : Shape) → Passes around numbers fits (global_found place o want).core
  member_fits (Some (M.Register r s)) h place want =
      settled_passes around numbers fits place want s _ (λ t. over_passes around numbers fits place (K.Register r) [] refl tt)
  member_fits (Some (M.Let i s)) h place want =
      settled_passes around numbers fits place want s _ (λ t. over_passes around numbers fits place (K.TopLevel i) [] refl tt)
  member_fits (Some (M.Member i k)) h place want =
      settled_passes around numbers fits place want (V.Named i []) _ (λ t. over_passes around numbers fits place (K.Constant (L.Member i k)) []
      (two (literal_right around.types (L.Member i k)) true h refl) tt)
  member_fits meant h place want = missing_passes around numbers fits place

  local_passes : (place : Place) (local : Local) (is : Bool) → Passes around numbers fits
      (over place (if is then K.Variable local.name else K.Local local.name) [])
  local_passes place local true = over_passes around numbers fits place (K.Variable local.name) [] refl tt
  local_passes place local false = over_passes around numbers fits place (K.Local local.name) [] refl tt

  pub name_passes : (name : Name) (local : Option Local) (want : Shape) → Passes around numbers fits (name_found name local (setting.value name.text) want).core
  name_passes name (Some local) want = settled_passes around numbers fits name.place want local.shape _ (λ s. local_passes name.place local local.is_variable)
  name_passes name None want = member_fits (setting.value name.text) (fit.values name.text) name.place want

  -- ---- tuples, vectors, lists

  pub unit_passes : (place : Place) → Is (unit_found place)
  unit_passes place locals want e =
      settled_passes around numbers fits place want V.Unit _ (λ s. over_passes around numbers fits place (K.Constant L.Unit) [] refl tt)

  pub group_passes : (place : Place) (brackets : Brackets) (es : List Elaborate) → AreEach es → Is (group_found place brackets es)
  group_passes place B.Tuple [] h locals want e = unit_passes place locals want e
  group_passes place B.Tuple (a ∷ es) h locals want e =
      let wants : List Shape = tuple_wants (length (a ∷ es)) (out-Shape want) in
      let b = both_empty (parts_found (a ∷ es) setting locals wants).faults _ e in
      settled_passes around numbers fits place want _ _ (λ s. over_passes around numbers fits place K.Tuple _ refl (parts_pass (a ∷ es) h locals wants b.0))
  group_passes place B.Vector es h locals want e =
      let item : Shape = vector_want (out-Shape want) in
      let b = both_empty (chained es setting locals item).faults _ e in
      settled_passes around numbers fits place want _ _ (λ s. over_passes around numbers fits place (K.Vector _) _ refl (chained_pass es h locals item b.0))
  group_passes place B.List es h locals want e =
      let item : Shape = list_want (out-Shape want) in
      let b = both_empty (chained es setting locals item).faults _ e in
      settled_passes around numbers fits place want _ _ (λ s. over_passes around numbers fits place (K.List _) _ refl (chained_pass es h locals item b.0))

  -- ---- calls

  doing_passes : (doing : Doing) (known : List Shape) (n : ℕ) → doing_fits around doing n ≡ true
      → kind_fits around numbers fits (doing_kind doing known) n ≡ true
  doing_passes (D.Calls callee) known n h = two _ true h refl
  doing_passes D.Conses known n h = refl

  call_passes : (place : Place) (want : Shape) (f : Candidate) (known : List Shape) (cores : List Core) → candidate_fits around f ≡ true
      → length cores ≡ length f.params → AllPass around numbers fits cores → Passes around numbers fits (call_found place want f known cores).core
  call_passes place want f known cores good many h =
      settled_passes around numbers fits place want _ _ (λ s. over_passes around numbers fits place (doing_kind f.doing known) cores
      (doing_passes f.doing known (length cores) (ap (doing_fits around f.doing) many ∙ good)) h)

  pub one_passes : (place : Place) (f : Candidate) (es : List Elaborate) → candidate_fits around f ≡ true → AreEach es → Is (one_called place f es)
  one_passes place f es good h locals want e =
      let args : Solved = solved es setting locals f.params (holes f.variables) in
      counted_passes around numbers fits place (length f.params) (length es) (solved_found place want f args) (λ is e2.
      call_passes place want f args.known args.cores good
      (solved_count es locals f.params (holes f.variables) ((Decides-eqb (length f.params) (length es)).0 is))
      (solved_pass es h locals f.params (holes f.variables) (both_empty args.faults _ e2).0)) e

  -- the member that is taken has as many parameters as there are arguments
  learns_count : (fs : List Learns) (ss known : List Shape) (all : List Shape) → learn_all fs ss known ≡ Some all → length fs ≡ length ss
  learns_count [] [] known all e = refl
  learns_count [] (s ∷ ss) known all e = none e
  learns_count (f ∷ fs) [] known all e = none e
  learns_count (f ∷ fs) (s ∷ ss) known all e = by (f s known) (λ more k. learns_count fs ss more all k) e
    where
      by : (o : Option (List Shape)) → ((more : List Shape) → learn_all fs ss more ≡ Some all → length fs ≡ length ss)
          → then_learn o (learn_all fs ss) ≡ Some all → length (f ∷ fs) ≡ length (s ∷ ss)
      by None later e = none e
      by (Some more) later e = ap suc (later more e)

  chosen_fits : (fs : List Candidate) (ss : List Shape) (x : Chosen) → list_all (candidate_fits around) fs ≡ true → chosen fs ss ≡ Some x
      → (candidate_fits around x.candidate ≡ true) × (length x.candidate.params ≡ length ss)
  chosen_fits [] ss x good e = none e
  chosen_fits (f ∷ fs) ss x good e =
      by (learn_all (map learn f.params) ss (holes f.variables)) refl (λ g k. chosen_fits fs ss x g k) e
    where
      both : (candidate_fits around f ≡ true) × (list_all (candidate_fits around) fs ≡ true)
      both = and_parts (candidate_fits around f) (list_all (candidate_fits around) fs) good

      same_one : (known : List Shape) → Some (record { candidate = f; known = known }) ≡ Some x → f ≡ x.candidate
      same_one known e = ap (λ (y : Chosen). y.candidate) (some_same (record { candidate = f; known = known }) x e)

      by : (o : Option (List Shape)) → learn_all (map learn f.params) ss (holes f.variables) ≡ o
          → (list_all (candidate_fits around) fs ≡ true → chosen fs ss ≡ Some x
          → (candidate_fits around x.candidate ≡ true) × (length x.candidate.params ≡ length ss))
          → chosen_or f o (chosen fs ss) ≡ Some x → (candidate_fits around x.candidate ≡ true) × (length x.candidate.params ≡ length ss)
      by None is later e = later both.1 e
      by (Some known) is later e =
          let same = same_one known e in (
            subst (λ (g : Candidate). candidate_fits around g ≡ true) same both.0,
            ap (λ (g : Candidate). length g.params) (sym same) ∙ sym (length-map f.params learn)
                ∙ learns_count (map learn f.params) ss (holes f.variables) known is,
          )

  taken_passes : (place : Place) (name : List ℕ) (want : Shape) (fs : List Candidate) (es : List Elaborate) (locals : Locals) → AreEach es
      → list_all (candidate_fits around) fs ≡ true → (args_found es setting locals).faults ≡ [] → (o : Option Chosen)
      → chosen fs (args_found es setting locals).shapes ≡ o → Passes around numbers fits (member_found place name want (args_found es setting locals) o).core
  taken_passes place name want fs es locals h good e None is = missing_passes around numbers fits _
  taken_passes place name want fs es locals h good e (Some x) is = by (args_found es setting locals).is_unsure
    where
      by : (b : Bool) → Passes around numbers fits
          (if b then unknown place else call_found place want x.candidate x.known (args_found es setting locals).cores).core
      by true = missing_passes around numbers fits place
      by false =
          let k = chosen_fits fs (args_found es setting locals).shapes x good is in
          call_passes place want x.candidate x.known (args_found es setting locals).cores k.0 (args_count es locals ∙ sym k.1) (args_pass es h locals e)

  pub several_pass : (place : Place) (name : List ℕ) (fs : List Candidate) (es : List Elaborate) → list_all (candidate_fits around) fs ≡ true → AreEach es
      → Is (several_called place name fs es)
  several_pass place name fs es good h locals want e =
      let args : Args = args_found es setting locals in
      taken_passes place name want fs es locals h good (both_empty args.faults _ e).0 (chosen fs args.shapes) refl

  for_each : (unit : Elaborate) (params : List Shape) (es : List Elaborate) → Is unit → AreEach es → AreEach (arguments_for unit params es)
  for_each unit params [] one h = by_unit (takes_unit params)
    where
      by_unit : (b : Bool) → AreEach (if b then unit ∷ [] else [])
      by_unit true = (one, tt)
      by_unit false = tt
  for_each unit params (e ∷ es) one h = h

  or_each : (unit : Elaborate) (es : List Elaborate) → Is unit → AreEach es → AreEach (or_unit unit es)
  or_each unit [] one h = (one, tt)
  or_each unit (e ∷ es) one h = h

  -- rows take what they take
  rows_fit : (ms : List Member) → list_all (candidate_fits around) (map member_candidate ms) ≡ true
  rows_fit [] = refl
  rows_fit (m ∷ ms) = rows_fit ms

  row_passes : (place : Place) (name : List ℕ) (fs : List Candidate) (unit : Elaborate) (es : List Elaborate) → list_all (candidate_fits around) fs ≡ true
      → Is unit → AreEach es → Is (row_called place name fs unit es)
  row_passes place name [] unit es good one h = several_pass place name [] (or_unit unit es) good (or_each unit es one h)
  row_passes place name (f ∷ []) unit es good one h =
      one_passes place f (arguments_for unit f.params es) (and_parts (candidate_fits around f) true good).0 (for_each unit f.params es one h)
  row_passes place name (f ∷ g ∷ fs) unit es good one h = several_pass place name (f ∷ g ∷ fs) (or_unit unit es) good (or_each unit es one h)

  as_one_passes : (place : Place) (parts : List Part) → PartsAre parts → Is (as_one place parts).elaborate
  as_one_passes place [] h = unit_passes place
  as_one_passes place (a ∷ []) h = h.0
  as_one_passes place (a ∷ b ∷ parts) h = group_passes place B.Tuple (elaborations (a ∷ b ∷ parts)) (each_of (a ∷ b ∷ parts) h)

  way_passes : (place : Place) (want : Shape) (direction : ℕ) (answer : Shape) (a : Found) → (a.faults ≡ [] → Passes around numbers fits a.core)
      → (one_way place want direction answer a).faults ≡ [] → Passes around numbers fits (one_way place want direction answer a).core
  way_passes place want direction answer a h = by_unsure (is_unsure_of a)
    where
      by_unsure : (b : Bool) → (if b then behind a.faults (unknown place) else direction_found place want direction answer a).faults ≡ []
          → Passes around numbers fits (if b then behind a.faults (unknown place) else direction_found place want direction answer a).core
      by_unsure true e = missing_passes around numbers fits place
      by_unsure false e =
          settled_passes around numbers fits place want answer _
          (λ s. over_passes around numbers fits place (K.Call (C.Converts direction)) (a.core ∷ []) refl (h (both_empty a.faults _ e).0, tt))

  mapping_passes : (place at_arg : Place) (want : Shape) (m : Mapping) (a : Found) (which : Which) → (a.faults ≡ [] → Passes around numbers fits a.core)
      → (mapping_found place at_arg want m a which).faults ≡ [] → Passes around numbers fits (mapping_found place at_arg want m a which).core
  mapping_passes place at_arg want m a forwards h e = way_passes place want _ _ a h e
  mapping_passes place at_arg want m a backwards h e = way_passes place want _ _ a h e
  mapping_passes place at_arg want m a neither h e = missing_passes around numbers fits _
  mapping_passes place at_arg want m a either h e = missing_passes around numbers fits _

  callee_passes : (place : Place) (f : Candidate) (parts : List Part) → candidate_fits around f ≡ true → PartsAre parts → Is (callee_called place f parts)
  callee_passes place f parts good h locals want = by_doing (does_convert f.doing)
    where
      by_doing : (b : Bool) → ((if b then one_called place f ((as_one place parts).elaborate ∷ [])
          else one_called place f (arguments_for (unit_found place) f.params (elaborations parts))) setting locals want).faults ≡ []
          → Passes around numbers fits ((if b then one_called place f ((as_one place parts).elaborate ∷ [])
          else one_called place f (arguments_for (unit_found place) f.params (elaborations parts))) setting locals want).core
      by_doing true e = one_passes place f ((as_one place parts).elaborate ∷ []) good (as_one_passes place parts h, tt) locals want e
      by_doing false e = one_passes place f _ good (for_each (unit_found place) f.params (elaborations parts) (unit_passes place)
          (each_of parts h)) locals want e

  called_passes : (name : Name) (o : Option Meant) (parts : List Part) → meant_fits around o ≡ true → PartsAre parts → Is (name_called name o parts)
  called_passes name (Some (M.Callee f)) parts good h locals want e = callee_passes name.place f parts good h locals want e
  called_passes name (Some (M.Row row)) parts good h locals want e =
      row_passes name.place name.text (map member_candidate (row_members setting.types row)) (unit_found name.place) (elaborations parts)
      (rows_fit (row_members setting.types row)) (unit_passes name.place) (each_of parts h) locals want e
  called_passes name (Some (M.Mapping m)) parts good h locals want e =
      let one : Part = as_one name.place parts in
      mapping_passes name.place one.place want m (one.elaborate setting locals V.Never) (which_side m (one.elaborate setting locals V.Never).shape)
      (as_one_passes name.place parts h locals V.Never) e
  called_passes name (Some (M.Overload fs)) parts good h locals want e =
      several_pass name.place name.text fs (or_unit (unit_found name.place) (elaborations parts)) good
      (or_each (unit_found name.place) (elaborations parts) (unit_passes name.place) (each_of parts h)) locals want e
  called_passes name meant parts good h locals want e = missing_passes around numbers fits name.place

  pub named_passes : (name : Name) (parts : List Part) → PartsAre parts → Is (call_named name parts)
  named_passes name parts h locals want e = called_passes name (setting.value name.text) parts (fit.values name.text) h locals want e

  -- ---- operators

  both_all : (fs gs : List Candidate) → list_all (candidate_fits around) fs ≡ true → list_all (candidate_fits around) gs ≡ true
      → list_all (candidate_fits around) (fs ++ gs) ≡ true
  both_all [] gs h k = k
  both_all (f ∷ fs) gs h k =
      let b = and_parts (candidate_fits around f) (list_all (candidate_fits around) fs) h in
      two (candidate_fits around f) (list_all (candidate_fits around) (fs ++ gs)) b.0 (both_all fs gs b.1 k)

  builtins_fit : (operator : Operator) → list_all (candidate_fits around) (builtin_members operator) ≡ true
  builtins_fit O.Cons = refl
  builtins_fit operator = refl

  members_fit : (operator : Operator) → list_all (candidate_fits around) (operator_members setting operator) ≡ true
  members_fit operator =
      both_all (builtin_members operator ++ map member_candidate (members_of setting.types (operator_rows operator))) (setting.added operator)
      (both_all (builtin_members operator) (map member_candidate (members_of setting.types (operator_rows operator))) (builtins_fit operator)
      (rows_fit (members_of setting.types (operator_rows operator)))) (fit.added operator)

  logical_passes : (place : Place) (operator : Operator) (kind : Kind) (a b : Part) → ((n : ℕ) → kind_fits around numbers fits kind n ≡ true) → Is a.elaborate
      → Is b.elaborate → Is (infix_as place operator a b (Some kind))
  logical_passes place operator kind a b usual one next locals want =
      by_left (is_truth_form (out-Shape (a.elaborate setting locals V.Never).shape)) (is_variable_form (out-Shape (a.elaborate setting locals V.Never).shape))
    where
      by_left : (t v : Bool) → (if t then logical_found place kind want (a.elaborate setting locals V.Never) (b.elaborate setting locals V.Bool)
          else if v then undecided place operator (a.elaborate setting locals V.Never) (b.elaborate setting locals V.Never)
          else several_called place (operator_text operator) (operator_members setting operator) (a.elaborate ∷ b.elaborate ∷ []) setting locals want).faults
          ≡ []
          → Passes around numbers fits (if t then logical_found place kind want (a.elaborate setting locals V.Never) (b.elaborate setting locals V.Bool)
          else if v then undecided place operator (a.elaborate setting locals V.Never) (b.elaborate setting locals V.Never)
          else several_called place (operator_text operator) (operator_members setting operator) (a.elaborate ∷ b.elaborate ∷ []) setting locals want).core
      by_left true v e =
          let f = both_empty ((a.elaborate setting locals V.Never).faults ++ (b.elaborate setting locals V.Bool).faults) _ e in
          let g = both_empty (a.elaborate setting locals V.Never).faults (b.elaborate setting locals V.Bool).faults f.0 in
          settled_passes around numbers fits place want V.Bool _
          (λ s. over_passes around numbers fits place kind _ (usual 2) (one locals V.Never g.0, (next locals V.Bool g.1, tt)))
      by_left false true e = missing_passes around numbers fits _
      by_left false false e =
          several_pass place (operator_text operator) (operator_members setting operator) (a.elaborate ∷ b.elaborate ∷ []) (members_fit operator)
          (one, (next, tt)) locals want e

  plain_infix : (place : Place) (operator : Operator) (a b : Part) → logical_kind operator ≡ None → Is a.elaborate → Is b.elaborate
      → Is (infix_found place operator a b)
  plain_infix place operator a b plain one next =
      subst (λ o. Is (infix_as place operator a b o)) (sym plain)
      (λ locals want e.
      several_pass place (operator_text operator) (operator_members setting operator) (a.elaborate ∷ b.elaborate ∷ []) (members_fit operator)
      (one, (next, tt)) locals want e)

  pub infix_passes : (operator : Operator) (place : Place) (a b : Part) → Is a.elaborate → Is b.elaborate → Is (infix_found place operator a b)
  infix_passes O.And place a b one next = logical_passes place O.And K.And a b (λ n. refl) one next
  infix_passes O.Or place a b one next = logical_passes place O.Or K.Or a b (λ n. refl) one next
  infix_passes operator place a b one next = plain_infix place operator a b refl one next

  pub prefix_passes : (place : Place) (prefix : Prefix) (a : Part) → Is a.elaborate → Is (prefix_found place prefix a)
  prefix_passes place prefix a one locals want e =
      several_pass place (prefix_text prefix) (prefix_members setting prefix) (a.elaborate ∷ []) (rows_fit (members_of setting.types (prefix_rows prefix)))
      (one, tt) locals want e

  -- ---- parts of values

  pub walked_pass : (xs : List SuffixPart) → SuffixesAre xs → (locals : Locals) (first base : Place) (s : Shape)
      → (walked xs setting locals first base s).faults ≡ [] → AllPass around numbers fits (walked xs setting locals first base s).parts
  walked_pass [] h locals first base s e = tt
  walked_pass (x ∷ xs) h locals first base s e =
      let led = led_form setting x (out-Shape s) in
      let more = walked xs setting locals first (suffix_place first x) (led_shape led) in
      let f = both_empty (base_faults base s led ++ faults_of (suffix_found x setting locals)) more.faults e in
      let g = both_empty (base_faults base s led) (faults_of (suffix_found x setting locals)) f.0 in
      also_pass around numbers fits (cores_of (suffix_found x setting locals)) _ (h.0 locals g.1)
      (walked_pass xs h.1 locals first (suffix_place first x) (led_shape led) f.1)

  pub part_passes : (first : Place) (base : Part) (xs : List SuffixPart) → Is base.elaborate → SuffixesAre xs → Is (part_found first base xs)
  part_passes first base xs one h locals want e =
      let a : Found = base.elaborate setting locals V.Never in
      let ways = walked xs setting locals first base.place a.shape in
      let f = both_empty (a.faults ++ ways.faults) _ e in
      let g = both_empty a.faults ways.faults f.0 in
      settled_passes around numbers fits _ want _ _
      (λ s. over_passes around numbers fits _ (K.Part _) _ refl (one locals V.Never g.0, walked_pass xs h locals first base.place a.shape g.1))

  pub typed_passes : (place : Place) (a : Part) (typ : TyExp) → Is a.elaborate → Is (typed_found place a typ)
  typed_passes place a typ one locals want e =
      let found : Found = a.elaborate setting locals (shape_in setting.within typ) in
      let f = both_empty (found.faults ++ written_faults setting.within typ) _ e in
      let g = both_empty found.faults (written_faults setting.within typ) f.0 in
      settled_passes around numbers fits place want _ _ (λ s. by (written setting.within typ) found (one locals (shape_in setting.within typ) g.0))
    where
      by : (o : Option _) (found : Found) → Passes around numbers fits found.core → Passes around numbers fits (over place (K.Cast o) (found.core ∷ []))
      by None found h = over_passes around numbers fits place (K.Cast None) (found.core ∷ []) refl (h, tt)
      by (Some w) found h = over_passes around numbers fits place (K.Cast (Some w)) (found.core ∷ []) refl (h, tt)

  last_passes : (last : Option Part) → MaybeIs last → (locals : Locals) → faults_of (index_found last setting locals) ≡ []
      → AllPass around numbers fits (cores_of (index_found last setting locals))
  last_passes None h locals e = tt
  last_passes (Some a) h locals e = (h locals V.Int (both_empty (a.elaborate setting locals V.Int).faults [] e).0, tt)

  pub index_passes : (place : Place) (index : IndexPart) → IndexIs index → SuffixIs (at_part place index)
  index_passes place index h locals e =
      let first : Found = index.first.elaborate setting locals V.Int in
      let f = both_empty first.faults (faults_of (index_found index.last setting locals)) e in
      (h.0 locals V.Int f.0, last_passes index.last h.1 locals f.1)

  update_usual : (last : Option Part) (n : ℕ) → kind_fits around numbers fits (update_kind last) n ≡ true
  update_usual None n = refl
  update_usual (Some low) n = refl

  pub update_passes : (place : Place) (base : Part) (index : IndexPart) (value : Part) → Is base.elaborate → IndexIs index → Is value.elaborate
      → Is (update_found place base index value)
  update_passes place base index value one h next locals want e =
      let a : Found = base.elaborate setting locals V.Never in
      let led : Option Led = updated_led index a.shape in
      let ends : List Found = ends_found index setting locals in
      let new : Found = value.elaborate setting locals (led_shape led) in
      let f = both_empty (((a.faults ++ base_faults base.place a.shape led) ++ faults_of ends) ++ new.faults) _ e in
      let f1 = both_empty ((a.faults ++ base_faults base.place a.shape led) ++ faults_of ends) new.faults f.0 in
      let f2 = both_empty (a.faults ++ base_faults base.place a.shape led) (faults_of ends) f1.0 in
      let f3 = both_empty a.faults (base_faults base.place a.shape led) f2.0 in
      settled_passes around numbers fits place want _ _ (λ s. over_passes around numbers fits place (update_kind index.last) _ (update_usual index.last _) (
        one locals V.Never f3.0,
        also_pass around numbers fits (cores_of ends) _ (index_passes place index h locals f2.1) (next locals (led_shape led) f1.1, tt),
      ))
