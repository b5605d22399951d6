-- What is found of each form that is made of values stands right where what is found of its parts does.
use Rattle.std.proofs.Common.{◌≡◌, ℕ, Bool, true, false, List, [], ◌∷◌, ◌++◌, map, ap, sym, ◌∙◌, refl, subst, Option, Some, None, length}
use Rattle.std.proofs.Common.{nat_eq, not, ◌&&◌, if◌then◌else◌}
use Rattle.std.specs.List.{list_all}
use Rattle.std.specs.Prelude.{is_some, option_map}
use Rattle.sail_base.specs.declared.operators.Operator.{Operator}
use Rattle.sail_base.specs.declared.operators.Operator.TheVariants as O
use Rattle.sail_base.specs.declared.operators.Prefix.{Prefix}
use Rattle.sail_base.specs.declared.place.Place.{Place}
use Rattle.sail_types.specs.Named.{fields}
use Rattle.sail_types.specs.Rows.{row_members}
use Rattle.sail_types.specs.Shapes.{at, put}
use Rattle.sail_types.specs.declared.numbers.Con.{Con}
use Rattle.sail_types.specs.declared.numbers.Num.{Num}
use Rattle.sail_types.specs.declared.shapes.Shape.{Shape, out-Shape}
use Rattle.sail_types.specs.declared.types.Typ.{Typ}
use Rattle.sail_types.specs.declared.shapes.Shape.TheVariants as V
use Rattle.sail_syntax.specs.declared.name.Literal.{Literal}
use Rattle.sail_syntax.specs.declared.name.Name.{Name}
use Rattle.sail_syntax.specs.declared.types.TyExp.{TyExp}
use Rattle.sail_syntax.specs.declared.words.Asking.{Asking}
use Rattle.sail_syntax.specs.declared.words.Asking.TheVariants.{Constraint, Sizeof}
use Rattle.sail_syntax.specs.declared.words.Brackets.{Brackets}
use Rattle.sail_syntax.specs.declared.words.Brackets.TheVariants as B
use Rattle.sail_core.specs.declared.tree.Core.{Core, fold-roll-Core}
use Rattle.sail_core.specs.declared.tree.Kind.{Kind}
use Rattle.sail_core.specs.declared.tree.Kind.TheVariants as K
use Rattle.sail_core.specs.declared.written.Written.{Written}
use Rattle.shape_joins.specs.Joins.{join}
use Rattle.shape_joins.specs.Learning.{holes}
use Rattle.shape_joins.proofs.Order.{no, two}
use Rattle.shape_rules.specs.declared.callees.Candidate.{Candidate}
use Rattle.shape_rules.specs.declared.callees.Doing.{Doing}
use Rattle.shape_rules.specs.declared.callees.Doing.TheVariants as D
use Rattle.shape_rules.specs.declared.callees.Mapping.{Mapping}
use Rattle.shape_rules.specs.declared.callees.Meant.{Meant}
use Rattle.shape_rules.specs.declared.callees.Meant.TheVariants as M
use Rattle.shape_rules.specs.declared.error.ShapeError.TheVariants as error
use Rattle.shape_rules.specs.declared.locals.Local.{Local}
use Rattle.shape_rules.specs.Calls.{Args, Chosen, Elaborate, args_found, arguments_for, call_found, chosen, counted, doing_kind, member_candidate}
use Rattle.shape_rules.specs.Calls.{member_found, one_called, operator_members, operator_text, or_unit, prefix_members, prefix_text, row_called}
use Rattle.shape_rules.specs.Calls.{several_called, solved, takes_unit, is_unsure_of}
use Rattle.shape_rules.specs.Findings.{Found, behind, cast, given_on, missing, over, refused, settled, settled_as, unknown}
use Rattle.shape_rules.specs.Patterns.{Which, backwards, either, forwards, neither, which_side}
use Rattle.shape_rules.specs.Scopes.{Locals, Setting}
use Rattle.shape_rules.specs.Statements.{CasePart, of_type_found}
use Rattle.shape_rules.specs.Statements.{size_found, truth_found}
use Rattle.shape_rules.specs.Targets.{IndexPart, Part, SuffixPart, at_part, cores_of, elaborations, index_found, led_form, led_shape, suffix_found}
use Rattle.shape_rules.specs.Targets.{suffix_place, walked}
use Rattle.shape_rules.specs.Values.{FieldPart, Named, as_one, call_named, callee_called, chained, constant_found, direction_found, does_convert, ends_found}
use Rattle.shape_rules.specs.Values.{fields_named, global_found, group_found, infix_as, infix_found, is_truth_form, is_variable_form, logical_found}
use Rattle.shape_rules.specs.Values.{logical_kind, one_way, undecided, with_failed}
use Rattle.shape_rules.specs.Values.{mapping_found, name_called, name_found, named_place, part_found, parts_found, prefix_found, struct_at, struct_found}
use Rattle.sail_kinds.specs.Scopes.{Within}
use Rattle.shape_rules.specs.Written.{constraint_in, number_in, shape_in, typ_in, written, written_as}
use Rattle.shape_rules.specs.Values.{struct_named, struct_place, typed_found, unit_found, update_found, update_kind, values_of, with_found, with_named, with_of}
use Rattle.soundness_forms.specs.Standing.{Standing, is_body, is_bound, is_branch, is_cast, is_guard, is_value, parts_right}
use Rattle.standing_cores.specs.Places.{IsPlain, Reads, StandsRight, node_places, places}

-- ---- cores

abbrev pub Fine : Core → Type 0
Fine c = IsPlain (places c)

abbrev pub AllFine : List Core → Type 0
AllFine [] = Unit {0}
AllFine (c ∷ cs) = Fine c × AllFine cs

pub value_of : (s : Standing) → IsPlain s → is_value s ≡ true
value_of s h = λ i. (h.right i && not (h.cast i)) && not (h.guard i)

pub bound_of : (s : Standing) → IsPlain s → is_bound s ≡ true
bound_of s h = λ i. h.right i && not (h.guard i)

pub all_values : (cs : List Core) → AllFine cs → list_all is_value (map places cs) ≡ true
all_values [] h = refl
all_values (c ∷ cs) h = two (is_value (places c)) (list_all is_value (map places cs)) (value_of (places c) h.0) (all_values cs h.1)

pub also_fine : (cs ds : List Core) → AllFine cs → AllFine ds → AllFine (cs ++ ds)
also_fine [] ds h k = k
also_fine (c ∷ cs) ds h k = (h.0, also_fine cs ds h.1 k)

pub over_places : (place : Place) (kind : Kind) (cs : List Core)
    → places (over place kind cs) ≡ record { cast = is_cast kind; guard = is_guard kind; right = parts_right kind (map places cs) }
over_places place kind cs = fold-roll-Core Standing node_places (record { place = place; number = 0; kind = kind; parts = cs })

pub node_fine : (place : Place) (kind : Kind) (cs : List Core) → parts_right kind (map places cs) ≡ true → is_cast kind ≡ false → is_guard kind ≡ false
    → Fine (over place kind cs)
node_fine place kind cs h c g = subst IsPlain (sym (over_places place kind cs)) (record { right = h; cast = c; guard = g })

-- a kind that is made of values
abbrev pub Usual : Kind → Type 0
Usual kind = ((ss : List Standing) → parts_right kind ss ≡ list_all is_value ss) × ((is_cast kind ≡ false) × (is_guard kind ≡ false))

pub over_fine : (place : Place) (kind : Kind) (cs : List Core) → Usual kind → AllFine cs → Fine (over place kind cs)
over_fine place kind cs u h = node_fine place kind cs (u.0 (map places cs) ∙ all_values cs h) u.1.0 u.1.1

pub missing_fine : (place : Place) → Fine (missing place)
missing_fine place = over_fine place _ [] ((λ ss. refl), (refl, refl)) tt

-- a cast is bound, and it ends a branch
cast_places : (c : Core) (place : Place) → places (cast c place) ≡ record { cast = true; guard = false; right = is_value (places c) }
cast_places c place = over_places place (K.Cast None) (c ∷ [])

pub cast_bound : (c : Core) (place : Place) → Fine c → is_bound (places (cast c place)) ≡ true
cast_bound c place h = ap is_bound (cast_places c place) ∙ (λ i. value_of (places c) h i && true)

pub cast_branch : (c : Core) (place : Place) → Fine c → is_branch (places (cast c place)) ≡ true
cast_branch c place h = ap is_branch (cast_places c place) ∙ (λ i. (value_of (places c) h i && true) && true)

pub cast_body : (c : Core) (place : Place) → Fine c → is_body (places (cast c place)) ≡ true
cast_body c place h = ap is_body (cast_places c place) ∙ (λ i. value_of (places c) h i && true)

pub settled_fine : (place : Place) (want shape : Shape) (core : Shape → Core) → ((s : Shape) → Fine (core s)) → Fine (settled place want shape core).core
settled_fine place want shape core h = by_join (join shape want)
  where
    by_join : (o : Option Shape) → Fine (settled_as place want shape core o).core
    by_join None = missing_fine _
    by_join (Some s) = h s

module _ (within : Within) where
  -- ---- expressions as parts

  abbrev pub ElsFine : List Elaborate → Type 0
  ElsFine [] = Unit {0}
  ElsFine (e ∷ es) = StandsRight within e × ElsFine es

  abbrev pub MaybeFine : Option Part → Type 0
  MaybeFine None = Unit {0}
  MaybeFine (Some a) = StandsRight within a.elaborate

  abbrev pub PartsFine : List Part → Type 0
  PartsFine [] = Unit {0}
  PartsFine (a ∷ parts) = StandsRight within a.elaborate × PartsFine parts

  abbrev pub SuffixFine : SuffixPart → Type 0
  SuffixFine x = (setting : Setting) (ok : Reads within setting) (locals : Locals) → AllFine (cores_of (suffix_found x setting locals))

  abbrev pub SuffixesFine : List SuffixPart → Type 0
  SuffixesFine [] = Unit {0}
  SuffixesFine (x ∷ xs) = SuffixFine x × SuffixesFine xs

  abbrev pub IndexFine : IndexPart → Type 0
  IndexFine index = StandsRight within index.first.elaborate × MaybeFine index.last

  abbrev pub FieldsFine : List FieldPart → Type 0
  FieldsFine [] = Unit {0}
  FieldsFine (f ∷ fs) = StandsRight within f.value.elaborate × FieldsFine fs

  abbrev pub CaseFine : CasePart → Type 0
  CaseFine c = MaybeFine c.guard × StandsRight within c.body.elaborate

  abbrev pub CasesFine : List CasePart → Type 0
  CasesFine [] = Unit {0}
  CasesFine (c ∷ cs) = CaseFine c × CasesFine cs

  pub els_fine : (parts : List Part) → PartsFine parts → ElsFine (elaborations parts)
  els_fine [] h = tt
  els_fine (a ∷ parts) h = (h.0, els_fine parts h.1)

  pub values_fine : (fs : List FieldPart) → FieldsFine fs → ElsFine (values_of fs)
  values_fine [] h = tt
  values_fine (f ∷ fs) h = (h.0, values_fine fs h.1)

  pub parts_fine : (es : List Elaborate) → ElsFine es → (setting : Setting) (ok : Reads within setting) (locals : Locals) (wants : List Shape)
      → AllFine (parts_found es setting locals wants).cores
  parts_fine [] h setting ok locals wants = tt
  parts_fine (e ∷ es) h setting ok locals [] = (h.0 setting ok locals V.Never, parts_fine es h.1 setting ok locals [])
  parts_fine (e ∷ es) h setting ok locals (want ∷ wants) = (h.0 setting ok locals want, parts_fine es h.1 setting ok locals wants)

  chained_fine : (es : List Elaborate) → ElsFine es → (setting : Setting) (ok : Reads within setting) (locals : Locals) (want : Shape)
      → AllFine (chained es setting locals want).cores
  chained_fine [] h setting ok locals want = tt
  chained_fine (e ∷ es) h setting ok locals want =
      (h.0 setting ok locals want, chained_fine es h.1 setting ok locals (given_on want (e setting locals want).shape))

  pub solved_fine : (es : List Elaborate) → ElsFine es → (setting : Setting) (ok : Reads within setting) (locals : Locals) (params known : List Shape)
      → AllFine (solved es setting locals params known).cores
  solved_fine [] h setting ok locals params known = tt
  solved_fine (e ∷ es) h setting ok locals [] known = tt
  solved_fine (e ∷ es) h setting ok locals (p ∷ ps) known = (h.0 setting ok locals (put (at known) p), solved_fine es h.1 setting ok locals ps _)

  pub args_fine : (es : List Elaborate) → ElsFine es → (setting : Setting) (ok : Reads within setting) (locals : Locals)
      → AllFine (args_found es setting locals).cores
  args_fine [] h setting ok locals = tt
  args_fine (e ∷ es) h setting ok locals = (h.0 setting ok locals V.Never, args_fine es h.1 setting ok locals)

  -- ---- leaves and groups

  pub constant_fine : (place : Place) (literal : Literal) (want : Shape) → Fine (constant_found place literal want).core
  constant_fine place literal want = settled_fine place want _ _ (λ s. over_fine place (K.Constant _) [] ((λ ss. refl), (refl, refl)) tt)

  local_fine : (place : Place) (local : Local) (is : Bool) → Fine (over place (if is then K.Variable local.name else K.Local local.name) [])
  local_fine place local true = over_fine place (K.Variable local.name) [] ((λ ss. refl), (refl, refl)) tt
  local_fine place local false = over_fine place (K.Local local.name) [] ((λ ss. refl), (refl, refl)) tt

  global_fine : (place : Place) (meant : Option Meant) (want : Shape) → Fine (global_found place meant want).core
  global_fine place (Some (M.Register r s)) want = settled_fine place want s _ (λ t. over_fine place (K.Register r) [] ((λ ss. refl), (refl, refl)) tt)
  global_fine place (Some (M.Let i s)) want = settled_fine place want s _ (λ t. over_fine place (K.TopLevel i) [] ((λ ss. refl), (refl, refl)) tt)
  global_fine place (Some (M.Member i k)) want = settled_fine place want (V.Named i []) _ (λ t. over_fine place (K.Constant _) [] (
    (λ ss. refl),
    (refl, refl),
  ) tt)
  global_fine place meant want = missing_fine place

  pub name_fine : (name : Name) (local : Option Local) (meant : Option Meant) (want : Shape) → Fine (name_found name local meant want).core
  name_fine name (Some local) meant want = settled_fine name.place want local.shape _ (λ s. local_fine name.place local local.is_variable)
  name_fine name None meant want = global_fine name.place meant want

  pub unit_fine : (place : Place) → StandsRight within (unit_found place)
  unit_fine place setting ok locals want = settled_fine place want V.Unit _ (λ s. over_fine place (K.Constant _) [] ((λ ss. refl), (refl, refl)) tt)

  pub group_fine : (place : Place) (brackets : Brackets) (es : List Elaborate) → ElsFine es → StandsRight within (group_found place brackets es)
  group_fine place B.Tuple [] h setting ok locals want = unit_fine place setting ok locals want
  group_fine place B.Tuple (e ∷ es) h setting ok locals want =
      settled_fine place want _ _ (λ s. over_fine place K.Tuple _ ((λ ss. refl), (refl, refl)) (parts_fine (e ∷ es) h setting ok locals _))
  group_fine place B.Vector es h setting ok locals want =
      settled_fine place want _ _ (λ s. over_fine place (K.Vector _) _ ((λ ss. refl), (refl, refl)) (chained_fine es h setting ok locals _))
  group_fine place B.List es h setting ok locals want =
      settled_fine place want _ _ (λ s. over_fine place (K.List _) _ ((λ ss. refl), (refl, refl)) (chained_fine es h setting ok locals _))

  -- ---- calls

  doing_usual : (doing : Doing) (known : List Shape) → Usual (doing_kind doing known)
  doing_usual (D.Calls callee) known = ((λ ss. refl), (refl, refl))
  doing_usual D.Conses known = ((λ ss. refl), (refl, refl))

  pub call_fine : (place : Place) (want : Shape) (f : Candidate) (known : List Shape) (cores : List Core) → AllFine cores
      → Fine (call_found place want f known cores).core
  call_fine place want f known cores h =
      settled_fine place want _ _ (λ s. over_fine place (doing_kind f.doing known) cores (doing_usual f.doing known) h)

  counted_fine : (place : Place) (wanted count : ℕ) (found : Found) → Fine found.core → Fine (counted place wanted count found).core
  counted_fine place wanted count found h = by_count (nat_eq wanted count)
    where
      by_count : (b : Bool) → Fine (if b then found else refused (error.Arity place wanted count)).core
      by_count true = h
      by_count false = missing_fine _

  one_fine : (place : Place) (f : Candidate) (es : List Elaborate) → ElsFine es → StandsRight within (one_called place f es)
  one_fine place f es h setting ok locals want =
      counted_fine place (length f.params) (length es) _ (call_fine place want f _ _ (solved_fine es h setting ok locals f.params (holes f.variables)))

  member_fine : (place : Place) (name : List ℕ) (want : Shape) (args : Args) (o : Option Chosen) → AllFine args.cores
      → Fine (member_found place name want args o).core
  member_fine place name want args None h = missing_fine _
  member_fine place name want args (Some x) h = by_unsure args.is_unsure
    where
      by_unsure : (b : Bool) → Fine (if b then unknown place else call_found place want x.candidate x.known args.cores).core
      by_unsure true = missing_fine place
      by_unsure false = call_fine place want x.candidate x.known args.cores h

  several_fine : (place : Place) (name : List ℕ) (fs : List Candidate) (es : List Elaborate) → ElsFine es → StandsRight within (several_called place name fs es)
  several_fine place name fs es h setting ok locals want =
      member_fine place name want (args_found es setting locals) (chosen fs (args_found es setting locals).shapes) (args_fine es h setting ok locals)

  for_fine : (unit : Elaborate) (params : List Shape) (es : List Elaborate) → StandsRight within unit → ElsFine es → ElsFine (arguments_for unit params es)
  for_fine unit params [] one h = by_unit (takes_unit params)
    where
      by_unit : (b : Bool) → ElsFine (if b then unit ∷ [] else [])
      by_unit true = (one, tt)
      by_unit false = tt
  for_fine unit params (e ∷ es) one h = h

  or_fine : (unit : Elaborate) (es : List Elaborate) → StandsRight within unit → ElsFine es → ElsFine (or_unit unit es)
  or_fine unit [] one h = (one, tt)
  or_fine unit (e ∷ es) one h = h

  row_fine : (place : Place) (name : List ℕ) (fs : List Candidate) (unit : Elaborate) (es : List Elaborate) → StandsRight within unit → ElsFine es
      → StandsRight within (row_called place name fs unit es)
  row_fine place name [] unit es one h = several_fine place name [] (or_unit unit es) (or_fine unit es one h)
  row_fine place name (f ∷ []) unit es one h = one_fine place f (arguments_for unit f.params es) (for_fine unit f.params es one h)
  row_fine place name (f ∷ g ∷ fs) unit es one h = several_fine place name (f ∷ g ∷ fs) (or_unit unit es) (or_fine unit es one h)

  as_one_fine : (place : Place) (parts : List Part) → PartsFine parts → StandsRight within (as_one place parts).elaborate
  as_one_fine place [] h = unit_fine place
  as_one_fine place (a ∷ []) h = h.0
  as_one_fine place (a ∷ b ∷ parts) h = group_fine place B.Tuple (elaborations (a ∷ b ∷ parts)) (els_fine (a ∷ b ∷ parts) h)

  way_fine : (place : Place) (want : Shape) (direction : ℕ) (answer : Shape) (a : Found) → Fine a.core → Fine (one_way place want direction answer a).core
  way_fine place want direction answer a h = by_unsure (is_unsure_of a)
    where
      by_unsure : (b : Bool) → Fine (if b then behind a.faults (unknown place) else direction_found place want direction answer a).core
      by_unsure true = missing_fine place
      by_unsure false = settled_fine place want answer _ (λ s. over_fine place (K.Call _) (a.core ∷ []) ((λ ss. refl), (refl, refl)) (h, tt))

  mapping_fine : (place at_arg : Place) (want : Shape) (m : Mapping) (a : Found) (which : Which) → Fine a.core
      → Fine (mapping_found place at_arg want m a which).core
  mapping_fine place at_arg want m a forwards h = way_fine place want _ _ a h
  mapping_fine place at_arg want m a backwards h = way_fine place want _ _ a h
  mapping_fine place at_arg want m a neither h = missing_fine _
  mapping_fine place at_arg want m a either h = missing_fine _

  callee_fine : (place : Place) (f : Candidate) (parts : List Part) → PartsFine parts → StandsRight within (callee_called place f parts)
  callee_fine place f parts h setting ok locals want = by_doing (does_convert f.doing)
    where
      by_doing : (b : Bool) → Fine ((if b then one_called place f ((as_one place parts).elaborate ∷ [])
          else one_called place f (arguments_for (unit_found place) f.params (elaborations parts))) setting locals want).core
      by_doing true = one_fine place f ((as_one place parts).elaborate ∷ []) (as_one_fine place parts h, tt) setting ok locals want
      by_doing false = one_fine place f _ (for_fine (unit_found place) f.params (elaborations parts) (unit_fine place)
          (els_fine parts h)) setting ok locals want

  called_fine : (name : Name) (meant : Option Meant) (parts : List Part) → PartsFine parts → StandsRight within (name_called name meant parts)
  called_fine name (Some (M.Callee f)) parts h setting ok locals want = callee_fine name.place f parts h setting ok locals want
  called_fine name (Some (M.Row row)) parts h setting ok locals want =
      row_fine name.place name.text (map member_candidate (row_members setting.types row)) (unit_found name.place) (elaborations parts)
      (unit_fine name.place) (els_fine parts h) setting ok locals want
  called_fine name (Some (M.Mapping m)) parts h setting ok locals want =
      let one : Part = as_one name.place parts in
      mapping_fine name.place one.place want m (one.elaborate setting locals V.Never) (which_side m (one.elaborate setting locals V.Never).shape)
      (as_one_fine name.place parts h setting ok locals V.Never)
  called_fine name (Some (M.Overload fs)) parts h setting ok locals want =
      several_fine name.place name.text fs (or_unit (unit_found name.place) (elaborations parts))
      (or_fine (unit_found name.place) (elaborations parts) (unit_fine name.place) (els_fine parts h)) setting ok locals want
  called_fine name meant parts h setting ok locals want = missing_fine name.place

  pub named_fine : (name : Name) (parts : List Part) → PartsFine parts → StandsRight within (call_named name parts)
  named_fine name parts h setting ok locals want = called_fine name (setting.value name.text) parts h setting ok locals want

  -- ---- operators

  logical_fine : (place : Place) (operator : Operator) (kind : Kind) (a b : Part) → Usual kind
      → StandsRight within a.elaborate → StandsRight within b.elaborate → StandsRight within (infix_as place operator a b (Some kind))
  logical_fine place operator kind a b same one next setting ok locals want =
      by_left (is_truth_form (out-Shape (a.elaborate setting locals V.Never).shape)) (is_variable_form (out-Shape (a.elaborate setting locals V.Never).shape))
    where
      by_left : (t v : Bool) → Fine (
          if t then logical_found place kind want (a.elaborate setting locals V.Never) (b.elaborate setting locals V.Bool)
          else if v then undecided place operator (a.elaborate setting locals V.Never) (b.elaborate setting locals V.Never)
          else several_called place (operator_text operator) (operator_members setting operator) (a.elaborate ∷ b.elaborate ∷ []) setting locals want).core
      by_left true v =
          settled_fine place want V.Bool _ (λ s. over_fine place kind _ same (one setting ok locals V.Never, (next setting ok locals V.Bool, tt)))
      by_left false true = missing_fine _
      by_left false false = several_fine place (operator_text operator) (operator_members setting operator) (a.elaborate ∷ b.elaborate ∷ []) (
        one,
        (next, tt),
      ) setting ok locals want

  plain_infix : (place : Place) (operator : Operator) (a b : Part) → logical_kind operator ≡ None → StandsRight within a.elaborate
      → StandsRight within b.elaborate
      → StandsRight within (infix_found place operator a b)
  plain_infix place operator a b plain one next =
      subst (λ o. StandsRight within (infix_as place operator a b o)) (sym plain)
      (λ setting ok locals want.
      several_fine place (operator_text operator) (operator_members setting operator) (a.elaborate ∷ b.elaborate ∷ []) (one, (next, tt)) setting ok locals want)

  pub infix_fine : (operator : Operator) (place : Place) (a b : Part) → StandsRight within a.elaborate → StandsRight within b.elaborate
      → StandsRight within (infix_found place operator a b)
  infix_fine O.And place a b one next = logical_fine place O.And K.And a b ((λ ss. refl), (refl, refl)) one next
  infix_fine O.Or place a b one next = logical_fine place O.Or K.Or a b ((λ ss. refl), (refl, refl)) one next
  infix_fine operator place a b one next = plain_infix place operator a b refl one next

  pub prefix_fine : (place : Place) (prefix : Prefix) (a : Part) → StandsRight within a.elaborate → StandsRight within (prefix_found place prefix a)
  prefix_fine place prefix a one setting ok locals want =
      several_fine place (prefix_text prefix) (prefix_members setting prefix) (a.elaborate ∷ []) (one, tt) setting ok locals want

  -- ---- parts of values

  pub walked_fine : (xs : List SuffixPart) → SuffixesFine xs
      → (setting : Setting) (ok : Reads within setting) (locals : Locals) (first base : Place) (s : Shape)
      → AllFine (walked xs setting locals first base s).parts
  walked_fine [] h setting ok locals first base s = tt
  walked_fine (x ∷ xs) h setting ok locals first base s =
      also_fine (cores_of (suffix_found x setting locals)) _ (h.0 setting ok locals)
      (walked_fine xs h.1 setting ok locals first (suffix_place first x) (led_shape (led_form setting x (out-Shape s))))

  pub part_fine : (first : Place) (base : Part) (xs : List SuffixPart) → StandsRight within base.elaborate → SuffixesFine xs
      → StandsRight within (part_found first base xs)
  part_fine first base xs one h setting ok locals want =
      settled_fine _ want _ _ (λ s. over_fine _ (K.Part _) _ ((λ ss. refl), (refl, refl)) (
        one setting ok locals V.Never,
        walked_fine xs h setting ok locals first base.place (base.elaborate setting locals V.Never).shape,
      ))

  -- where the type that is written reads
  read_fine : (place : Place) (o : Option Written) (c : Core) → is_some o ≡ true → Fine c → Fine (over place (K.Cast o) (c ∷ []))
  read_fine place None c is h = no is
  read_fine place (Some written) c is h = over_fine place (K.Cast (Some written)) (c ∷ []) ((λ ss. refl), (refl, refl)) (h, tt)

  is_written : (o : Option Typ) (f : Typ → Written) → is_some o ≡ true → is_some (option_map f o) ≡ true
  is_written None f is = no is
  is_written (Some t) f is = refl

  pub typed_fine : (place : Place) (a : Part) (typ : TyExp) → is_some (typ_in within typ) ≡ true → StandsRight within a.elaborate
      → StandsRight within (typed_found place a typ)
  typed_fine place a typ is one setting ok locals want =
      settled_fine place want _ _ (λ s. read_fine place (written setting.within typ) (a.elaborate setting locals (shape_in setting.within typ)).core
      (is_written (typ_in setting.within typ) (written_as setting.within typ) (ap (λ x. is_some (typ_in x typ)) ok ∙ is)) (one setting ok locals _))

  pub last_fine : (last : Option Part) → MaybeFine last → (setting : Setting) (ok : Reads within setting) (locals : Locals)
      → AllFine (cores_of (index_found last setting locals))
  last_fine None h setting ok locals = tt
  last_fine (Some a) h setting ok locals = (h setting ok locals V.Int, tt)

  pub index_fine : (place : Place) (index : IndexPart) → IndexFine index → SuffixFine (at_part place index)
  index_fine place index h setting ok locals = (h.0 setting ok locals V.Int, last_fine index.last h.1 setting ok locals)

  update_usual : (last : Option Part) → Usual (update_kind last)
  update_usual None = ((λ ss. refl), (refl, refl))
  update_usual (Some low) = ((λ ss. refl), (refl, refl))

  pub update_fine : (place : Place) (base : Part) (index : IndexPart) (value : Part) → StandsRight within base.elaborate → IndexFine index
      → StandsRight within value.elaborate
      → StandsRight within (update_found place base index value)
  update_fine place base index value one h next setting ok locals want =
      settled_fine place want _ _ (λ s. over_fine place (update_kind index.last) _ (update_usual index.last) (
        one setting ok locals V.Never,
        also_fine (cores_of (ends_found index setting locals)) _ (index_fine place index h setting ok locals) (next setting ok locals _, tt),
      ))

  -- ---- structs

  struct_fine : (place : Place) (fs : List FieldPart) (o : Option ℕ) → FieldsFine fs → StandsRight within (struct_at place fs o)
  struct_fine place fs None h setting ok locals want = missing_fine _
  struct_fine place fs (Some i) h setting ok locals want = by_fields (fields_named fs (fields setting.types i))
    where
      by_fields : (o : Option Named) → Fine (struct_named place i fs o setting locals want).core
      by_fields None = missing_fine _
      by_fields (Some named) =
          counted_fine place _ _ _ (settled_fine place want _ _ (λ s. over_fine place (K.Struct i named.places) _ ((λ ss. refl), (refl, refl))
          (solved_fine (values_of fs) (values_fine fs h) setting ok locals named.shapes _)))

  pub structs_fine : (place : Place) (name : Option Name) (fs : List FieldPart) → FieldsFine fs → StandsRight within (struct_found place name fs)
  structs_fine place name fs h setting ok locals want = struct_fine place fs (struct_place setting name fs) h setting ok locals want

  failed_fine : (place at_base : Place) (fs : List FieldPart) (a : Found) → Fine a.core → FieldsFine fs
      → (setting : Setting) (ok : Reads within setting) (locals : Locals) (want : Shape)
      → Fine (with_failed place at_base fs a setting locals want).core
  failed_fine place at_base fs a one h setting ok locals want =
      settled_fine place want _ _ (λ s. over_fine place (K.With 0 []) _ ((λ ss. refl), (refl, refl)) (
        one,
        parts_fine (values_of fs)
            (values_fine fs h) setting ok locals [],
      ))

  pub with_fine : (place : Place) (base : Part) (fs : List FieldPart) → StandsRight within base.elaborate → FieldsFine fs
      → StandsRight within (with_found place base fs)
  with_fine place base fs one h setting ok locals want = by_place (named_place (out-Shape (base.elaborate setting locals V.Never).shape))
    where
      a : Found
      a = base.elaborate setting locals V.Never

      by_fields : (i : ℕ) (ss : List Shape) (o : Option Named) → Fine (with_named place base.place fs a i ss o setting locals want).core
      by_fields i ss None = failed_fine place base.place fs a (one setting ok locals V.Never) h setting ok locals want
      by_fields i ss (Some named) =
          settled_fine place want _ _ (λ s. over_fine place (K.With i named.places) _ ((λ ss. refl), (refl, refl)) (
            one setting ok locals V.Never,
            solved_fine (values_of fs) (values_fine fs h) setting ok locals named.shapes ss,
          ))

      by_place : (o : Option (ℕ × List Shape)) → Fine (with_of place base.place fs a o setting locals want).core
      by_place None = failed_fine place base.place fs a (one setting ok locals V.Never) h setting ok locals want
      by_place (Some named) = by_fields named.0 named.1 (fields_named fs (fields setting.types named.0))

  -- ---- `sizeof` and `constraint`

  pub of_type_fine : (place : Place) (asking : Asking) (typ : TyExp) → StandsRight within (of_type_found place asking typ)
  of_type_fine place Sizeof typ setting ok locals want = by_number (number_in setting.within typ)
    where
      by_number : (o : Option Num) → Fine (size_found place typ setting want o).core
      by_number None = missing_fine place
      by_number (Some n) = settled_fine place want V.Int _ (λ s. over_fine place (K.SizeOf n _) [] ((λ ss. refl), (refl, refl)) tt)
  of_type_fine place Constraint typ setting ok locals want = by_truth (constraint_in setting.within typ)
    where
      by_truth : (o : Option Con) → Fine (truth_found place typ setting want o).core
      by_truth None = missing_fine place
      by_truth (Some x) = settled_fine place want V.Bool _ (λ s. over_fine place (K.Constraint x _) [] ((λ ss. refl), (refl, refl)) tt)
