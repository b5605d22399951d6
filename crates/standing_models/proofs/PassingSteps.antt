-- Structs, what leaves, names that are bound, branches, cases, blocks, loops and assignments: what is found of each passes the tests of nodes where what
-- is found of its parts does.
use Rattle.std.proofs.Common.{◌≡◌, ℕ, suc, Bool, true, false, ◌&&◌, nat_eq, List, [], ◌∷◌, ◌++◌, length, ap, sym, ◌∙◌, refl, Option, Some, None}
use Rattle.std.proofs.Common.{if◌then◌else◌, is_some, pos, ◌^◌, arith}
use Rattle.std.proofs.lemmas.Bool.{and_parts, le-leb}
use Rattle.std.proofs.lemmas.Bool.Decides.{Decides-eqb}
use Rattle.sail_base.specs.declared.place.Place.{Place}
use Rattle.sail_types.specs.Limits.{is_small, largest}
use Rattle.sail_types.specs.Named.{fields}
use Rattle.sail_types.specs.declared.numbers.Con.{Con}
use Rattle.sail_types.specs.declared.numbers.Index.{Index}
use Rattle.sail_types.specs.declared.numbers.Num.{Num}
use Rattle.sail_types.specs.declared.shapes.Shape.{Shape, out-Shape}
use Rattle.sail_types.specs.declared.shapes.Shape.TheVariants as V
use Rattle.sail_types.specs.declared.table.Field.{Field}
use Rattle.sail_types.specs.declared.table.Types.{Types}
use Rattle.sail_syntax.specs.declared.name.Name.{Name}
use Rattle.sail_syntax.specs.declared.patterns.Pat.{Pat}
use Rattle.sail_syntax.specs.declared.types.TyExp.{TyExp}
use Rattle.sail_syntax.specs.declared.words.Asking.{Asking}
use Rattle.sail_syntax.specs.declared.words.Asking.TheVariants.{Constraint, Sizeof}
use Rattle.sail_syntax.specs.declared.words.Choosing.TheVariants.{Match, Try}
use Rattle.sail_syntax.specs.declared.words.Leaving.{Leaving}
use Rattle.sail_syntax.specs.declared.words.Leaving.TheVariants as Leave
use Rattle.sail_syntax.specs.declared.words.Looping.{Looping}
use Rattle.sail_syntax.specs.declared.words.Looping.TheVariants.{Repeat, While}
use Rattle.sail_core.specs.declared.patterns.Arm.{Arm}
use Rattle.sail_core.specs.declared.patterns.Arm.TheVariants as A
use Rattle.sail_core.specs.declared.patterns.Literal.TheVariants as L
use Rattle.sail_core.specs.declared.patterns.Pattern.{Pattern}
use Rattle.sail_core.specs.declared.tree.Core.{Core}
use Rattle.sail_core.specs.declared.tree.Kind.{Kind}
use Rattle.sail_core.specs.declared.tree.Kind.TheVariants as K
use Rattle.sail_core.specs.declared.tree.Statement.{Statement}
use Rattle.sail_core.specs.declared.tree.Statement.TheVariants as S
use Rattle.sail_cycles.specs.Callees.{pattern_callees}
use Rattle.sail_names.specs.Known as Tables
use Rattle.sail_names.specs.Patterns.{binds, clashes, pattern_failures, type_failures, uses_failures}
use Rattle.sail_names.specs.Uses.{asked_kind, struct_failures}
use Rattle.pattern_leaves.specs.Settings.{Around}
use Rattle.shape_joins.specs.Learning.{holes}
use Rattle.shape_joins.proofs.Order.{two}
use Rattle.shape_rules.specs.declared.callees.Candidate.{Candidate}
use Rattle.shape_rules.specs.declared.callees.Meant.{Meant}
use Rattle.shape_rules.specs.declared.callees.Meant.TheVariants as M
use Rattle.shape_rules.specs.declared.error.ShapeError.{ShapeError}
use Rattle.shape_rules.specs.declared.error.ShapeError.TheVariants as error
use Rattle.shape_rules.specs.declared.locals.Local.{Local}
use Rattle.shape_rules.specs.Calls.{Args, Chosen, Elaborate, Solved, args_found, chosen, solved}
use Rattle.shape_rules.specs.Findings.{Found, cast, given_on}
use Rattle.shape_rules.specs.Patterns.{Looked, has_typ, look, no_widths, wanted_by, written_shape}
use Rattle.shape_rules.specs.Scopes.{Locals, Setting, constant, plainly, thrown_shape, under}
use Rattle.shape_rules.specs.Statements.{Binding, Blocked, CasePart, Cases, Declaring, FurtherPart, RangePart, Righted, Stated, StatementPart, answer_faults}
use Rattle.shape_rules.specs.Statements.{any_failed, assert_found, assign_as, assign_found, assign_to, block_found, blocked, bound, by_found, cases_found}
use Rattle.shape_rules.specs.Statements.{chained_faults, choose_found, declaring, defined_as, declared_as, evaluated, foreach_found, guard_faults}
use Rattle.shape_rules.specs.Statements.{guarded_core, hole_faults, if_found, inner_faults, let_found, loop_found, of_type_found, righted}
use Rattle.shape_rules.specs.Statements.{size_found, truth_found, typ_faults, var_found}
use Rattle.shape_rules.specs.Targets.{Aimed, Part, SuffixPart, TargetPart, aimed_nowhere, base_faults, call_aim, call_aimed, callee_aimed}
use Rattle.shape_rules.specs.Targets.{callee_counted, callees_of, each_aimed, elaborations, meant_aim, name_aimed, one_of, open_faults, part_aimed}
use Rattle.shape_rules.specs.Targets.{read_aimed, read_shape, register_aimed, unread, walked, written_by}
use Rattle.shape_rules.specs.Values.{FieldPart, Named, field_count, fields_named, leave_found, left_found, named_place, parts_found, return_found}
use Rattle.shape_rules.specs.Values.{struct_at, struct_found, struct_named, struct_place, struct_solved, values_of, variables_of_type, with_failed, with_found}
use Rattle.shape_rules.specs.Values.{with_named, with_of}
use Rattle.shape_rules.specs.Written.{constraint_in, number_in, numbers_in}
use Rattle.shape_meanings.specs.Parts.{NamesApart}
use Rattle.shape_meanings.proofs.Settling.{both_empty}
use Rattle.shape_meanings.proofs.TargetNames.{struct_known}
use Rattle.shape_meanings.proofs.Withs.{placed_are, placed_count}
use Rattle.soundness_forms.specs.Standing.{has_fields}
use Rattle.shape_meanings.specs.Trees.{pattern_written}
use Rattle.standing_models.specs.Tests.{Converts, Fits, Tested, arm_tested, arms_tested, kind_fits, lets_tested}
use Rattle.standing_models.proofs.CorePasses.{AllPass, Passes, also_pass, cast_passes, counted_passes, missing_passes, over_passes, settled_passes}
use Rattle.standing_models.proofs.Covering.{fields_hold}
use Rattle.standing_models.proofs.Passing.{AreEach, MaybeIs, PartsAre, SuffixesAre, args_pass, each_of, named_passes, parts_pass, solved_count}
use Rattle.standing_models.proofs.Passing.{solved_pass, walked_pass}

one_is_small : is_small (pos 1) ≡ true
unfolding largest
one_is_small = le-leb 1 (2 ^ 126) (omega arith)

module _ (around : Around) (numbers : List Index) (fits : Pattern → Bool) (setting : Setting) (names : Tables.Setting)
    (fit : Fits around numbers fits setting names) where
  abbrev Is : Elaborate → Type 0
  Is = Tested around numbers fits setting

  abbrev Maybe : Option Part → Type 0
  Maybe = MaybeIs around numbers fits setting names fit

  abbrev Parts : List Part → Type 0
  Parts = PartsAre around numbers fits setting names fit

  abbrev It : Core → Type 0
  It = Passes around numbers fits

  abbrev Each : List Core → Type 0
  Each = AllPass around numbers fits

  -- ---- structs

  abbrev pub FieldsAre : List FieldPart → Type 0
  FieldsAre [] = Unit {0}
  FieldsAre (f ∷ fs) = Is f.value.elaborate × FieldsAre fs

  values : (fs : List FieldPart) → FieldsAre fs → AreEach around numbers fits setting names fit (values_of fs)
  values [] h = tt
  values (f ∷ fs) h = (h.0, values fs h.1)

  values_count : (fs : List FieldPart) → length (values_of fs) ≡ length fs
  values_count [] = refl
  values_count (f ∷ fs) = ap suc (values_count fs)

  pub struct_passes : (place : Place) (name : Option Name) (fs : List FieldPart) → struct_failures names name ≡ [] → NamesApart fs → FieldsAre fs
      → Is (struct_found place name fs)
  struct_passes place name fs u apart h locals want = by_place (struct_place setting name fs) refl
    where
      solved_for : (i : ℕ) → Named → Solved
      solved_for i named = solved (values_of fs) setting locals named.shapes (holes (variables_of_type setting i))

      by_named : (i : ℕ) (fl : List Field) → fields setting.types i ≡ Some fl → (o : Option Named) → fields_named fs (fields setting.types i) ≡ o
          → (struct_named place i fs o setting locals want).faults ≡ [] → It (struct_named place i fs o setting locals want).core
      by_named i fl known None is e = missing_passes around numbers fits _
      by_named i fl known (Some named) is e =
          counted_passes around numbers fits place (field_count (fields setting.types i)) (length fs)
          (struct_solved place want i named.places (solved_for i named))
          (λ same e2.
          let args : Solved = solved_for i named in
          let there : fields_named fs (Some fl) ≡ Some named = sym (ap (fields_named fs) known) ∙ is in
          let many : length fl ≡ length fs = (Decides-eqb (length fl) (length fs)).0 (ap (λ o. nat_eq (field_count o) (length fs)) (sym known) ∙ same) in
          let shapes : length named.shapes ≡ length (values_of fs) =
          placed_count (Some fl) fs named.places named.shapes (placed_are fs (Some fl) named there) in
          let count : length args.cores ≡ length fl =
          solved_count around numbers fits setting names fit (values_of fs) locals named.shapes (holes (variables_of_type setting i)) shapes
          ∙ shapes ∙ values_count fs ∙ sym many in
          let holds : has_fields named.places (length args.cores) (fields around.types i) ≡ true =
          ap (λ (t : Types). has_fields named.places (length args.cores) (fields t i)) (sym fit.types)
          ∙ ap (has_fields named.places (length args.cores)) known ∙ fields_hold fl fs named (length args.cores) there apart many count in
          settled_passes around numbers fits place want _ _ (λ s. over_passes around numbers fits place (K.Struct i named.places) args.cores
          (two (has_fields named.places (length args.cores) (fields around.types i)) true holds refl)
          (solved_pass around numbers fits setting names fit (values_of fs) (values fs h) locals named.shapes (holes (variables_of_type setting i))
          (both_empty args.faults _ e2).0))) e

      by_place : (o : Option ℕ) → struct_place setting name fs ≡ o → (struct_at place fs o setting locals want).faults ≡ []
          → It (struct_at place fs o setting locals want).core
      by_place None is e = missing_passes around numbers fits _
      by_place (Some i) is e =
          let fl = struct_known setting names fit.known name fs i u is in
          by_named i fl.0 fl.1 (fields_named fs (fields setting.types i)) refl e

  with_fails : (place at_base : Place) (fs : List FieldPart) (a : Found) → (a.faults ≡ [] → It a.core) → FieldsAre fs → (locals : Locals) (want : Shape)
      → (with_failed place at_base fs a setting locals want).faults ≡ [] → It (with_failed place at_base fs a setting locals want).core
  with_fails place at_base fs a one h locals want e =
      let ps = parts_found (values_of fs) setting locals [] in
      let f = both_empty ((a.faults ++ base_faults at_base a.shape None) ++ ps.faults) _ e in
      let f1 = both_empty (a.faults ++ base_faults at_base a.shape None) ps.faults f.0 in
      let f2 = both_empty a.faults (base_faults at_base a.shape None) f1.0 in
      settled_passes around numbers fits place want _ _ (λ s. over_passes around numbers fits place (K.With 0 []) _ refl
      (one f2.0, parts_pass around numbers fits setting names fit (values_of fs) (values fs h) locals [] f1.1))

  pub with_passes : (place : Place) (base : Part) (fs : List FieldPart) → Is base.elaborate → FieldsAre fs → Is (with_found place base fs)
  with_passes place base fs one h locals want = by_place (named_place (out-Shape (base.elaborate setting locals V.Never).shape))
    where
      a : Found
      a = base.elaborate setting locals V.Never

      by_fields : (i : ℕ) (ss : List Shape) (o : Option Named) → (with_named place base.place fs a i ss o setting locals want).faults ≡ []
          → It (with_named place base.place fs a i ss o setting locals want).core
      by_fields i ss None e = with_fails place base.place fs a (one locals V.Never) h locals want e
      by_fields i ss (Some named) e =
          let args : Solved = solved (values_of fs) setting locals named.shapes ss in
          let f = both_empty (a.faults ++ args.faults) _ e in
          let g = both_empty a.faults args.faults f.0 in
          settled_passes around numbers fits place want _ _ (λ s. over_passes around numbers fits place (K.With i named.places) _ refl (
            one locals V.Never g.0,
            solved_pass around numbers fits setting names fit (values_of fs) (values fs h) locals named.shapes ss g.1,
          ))

      by_place : (o : Option (ℕ × List Shape)) → (with_of place base.place fs a o setting locals want).faults ≡ []
          → It (with_of place base.place fs a o setting locals want).core
      by_place None e = with_fails place base.place fs a (one locals V.Never) h locals want e
      by_place (Some named) e = by_fields named.0 named.1 (fields_named fs (fields setting.types named.0)) e

  -- ---- what leaves

  left_passes : (place : Place) (kind : Kind) (want : Shape) (at_part : Place) (a : Found) → kind_fits around numbers fits kind 1 ≡ true
      → (a.faults ≡ [] → It a.core) → (left_found place kind want at_part a).faults ≡ [] → It (left_found place kind want at_part a).core
  left_passes place kind want at_part a usual h e =
      settled_passes around numbers fits place want V.Never _ (λ s. over_passes around numbers fits place kind (cast a.core at_part ∷ []) usual
      (cast_passes around numbers fits a.core at_part (h (both_empty a.faults _ e).0), tt))

  answer_passes : (place : Place) (a : Part) (answer : Option Shape) → Is a.elaborate → (locals : Locals) (want : Shape)
      → (return_found place a answer setting locals want).faults ≡ [] → It (return_found place a answer setting locals want).core
  answer_passes place a None h locals want e = missing_passes around numbers fits _
  answer_passes place a (Some s) h locals want e = left_passes place K.Return want a.place (a.elaborate setting locals s) refl (h locals s) e

  pub leave_passes : (place : Place) (leaving : Leaving) (a : Part) → Is a.elaborate → Is (leave_found place leaving a)
  leave_passes place Leave.Return a h locals want e = answer_passes place a setting.answer h locals want e
  leave_passes place Leave.Throw a h locals want e =
      left_passes place K.Throw want a.place (a.elaborate setting locals (thrown_shape setting)) refl (h locals (thrown_shape setting)) e
  leave_passes place Leave.Exit a h locals want e = left_passes place K.Exit want a.place (a.elaborate setting locals V.Unit) refl (h locals V.Unit) e

  -- ---- names that are bound

  abbrev Stands : Pattern → Type 0
  Stands p = fits p ≡ true

  used : (p : Pat) → pattern_failures names p ≡ [] → uses_failures names p ≡ []
  used p u = (both_empty (uses_failures names p) (clashes (binds names.known p)) u).0

  one_stands : (p : Pattern) → Stands p → arm_tested fits (A.Nested (p ∷ [])) ≡ true
  one_stands p h = two (fits p) true h refl

  pub bound_passes : (place : Place) (p : Pat) (value : Part) → Is value.elaborate → pattern_failures names p ≡ [] → pattern_written p ≡ true
      → Converts fit.converts names (pattern_callees names.known p) → (locals : Locals) → (bound place p value setting locals).faults ≡ []
      → It (bound place p value setting locals).part × (arm_tested fits (bound place p value setting locals).arm ≡ true)
  bound_passes place p value one u limits v locals e =
      let a : Found = value.elaborate setting locals (wanted_by setting p) in
      let found : Looked = look p setting no_widths a.shape in
      let f = both_empty (a.faults ++ hole_faults place (has_typ p) a.shape) found.faults e in
      let g = both_empty a.faults (hole_faults place (has_typ p) a.shape) f.0 in (
        cast_passes around numbers fits a.core value.place (one locals (wanted_by setting p) g.0),
        one_stands found.pattern (fit.patterns p a.shape (used p u) limits v f.1),
      )

  pub let_passes : (place : Place) (p : Pat) (value body : Part) → Is value.elaborate → pattern_failures names p ≡ [] → pattern_written p ≡ true
      → Converts fit.converts names (pattern_callees names.known p) → Is body.elaborate → Is (let_found place p value body)
  let_passes place p value body one u limits v next locals want e =
      let b : Binding = bound place p value setting locals in
      let inner : Locals = under b.binds locals in
      let f = both_empty b.faults (body.elaborate setting inner want).faults e in
      let k = bound_passes place p value one u limits v locals f.0 in
      over_passes around numbers fits place (K.Let b.arm) (b.part ∷ (body.elaborate setting inner want).core ∷ [])
      (two true (arm_tested fits b.arm && true) refl (two (arm_tested fits b.arm) true k.1 refl))
      (k.0, (next inner want f.1, tt))

  declared_passes : (place : Place) (name : Name) (typ : Option TyExp) (value : Part) → Is value.elaborate → (locals : Locals)
      → (declaring place name typ value setting locals).faults ≡ [] → It (declaring place name typ value setting locals).part
  declared_passes place name typ value one locals e =
      let a : Found = value.elaborate setting locals (written_shape setting typ) in
      let f = both_empty (typ_faults setting typ ++ a.faults) (hole_faults place (is_some typ) a.shape) e in
      let g = both_empty (typ_faults setting typ) a.faults f.0 in
      cast_passes around numbers fits a.core value.place (one locals (written_shape setting typ) g.1)

  pub var_passes : (place : Place) (name : Name) (typ : Option TyExp) (value body : Part) → Is value.elaborate → Is body.elaborate
      → Is (var_found place name typ value body)
  var_passes place name typ value body one next locals want e =
      let d : Declaring = declaring place name typ value setting locals in
      let inner : Locals = d.local ∷ locals in
      let f = both_empty d.faults (body.elaborate setting inner want).faults e in
      over_passes around numbers fits place (K.Var name.text d.typ) (d.part ∷ (body.elaborate setting inner want).core ∷ []) refl
      (declared_passes place name typ value one locals f.0, (next inner want f.1, tt))

  -- ---- branches

  pub if_passes : (place : Place) (c a : Part) (b : Option Part) → Is c.elaborate → Is a.elaborate → Maybe b → Is (if_found place c a b)
  if_passes place c a (Some b) test one next locals want e =
      let cf : Found = c.elaborate setting locals V.Bool in
      let af : Found = a.elaborate setting locals want in
      let bf : Found = b.elaborate setting locals (given_on want af.shape) in
      let f = both_empty (cf.faults ++ af.faults) bf.faults e in
      let g = both_empty cf.faults af.faults f.0 in
      over_passes around numbers fits place (K.If _) _ refl (
        test locals V.Bool g.0,
        (
          cast_passes around numbers fits af.core a.place (one locals want g.1),
          (
            cast_passes around numbers fits bf.core b.place (next locals (given_on want af.shape) f.1),
            tt,
          ),
        ),
      )
  if_passes place c a None test one next locals want e =
      let cf : Found = c.elaborate setting locals V.Bool in
      let af : Found = a.elaborate setting locals V.Unit in
      let f = both_empty (cf.faults ++ af.faults) _ e in
      let g = both_empty cf.faults af.faults f.0 in
      settled_passes around numbers fits place want V.Unit _ (λ s. over_passes around numbers fits place (K.If V.Unit) _ refl
      (test locals V.Bool g.0, (cast_passes around numbers fits af.core a.place (one locals V.Unit g.1), tt)))

  -- ---- cases

  -- a case, in whose pattern no failure is found
  pub record CaseIs (c : CasePart) : Type 0 where
    pub named : pattern_failures names c.pattern ≡ []
    pub limits : pattern_written c.pattern ≡ true
    pub converts : Converts fit.converts names (pattern_callees names.known c.pattern)
    pub guard : Maybe c.guard
    pub body : Is c.body.elaborate

  abbrev pub CasesAre : List CasePart → Type 0
  CasesAre [] = Unit {0}
  CasesAre (c ∷ cs) = CaseIs c × CasesAre cs

  pub guarded_passes : (guard : Option Part) (body : Core) → Maybe guard → (locals : Locals) → guard_faults guard setting locals ≡ [] → It body
      → It (guarded_core guard setting locals body)
  guarded_passes None body h locals e one = one
  guarded_passes (Some guard) body h locals e one = over_passes around numbers fits guard.place K.When _ refl (h locals V.Bool e, (one, tt))

  cases_pass : (cs : List CasePart) → CasesAre cs → (locals : Locals) (subject want : Shape) → (cases_found cs setting locals subject want).faults ≡ []
      → (arms_tested fits (cases_found cs setting locals subject want).arms ≡ true)
      × Each (cases_found cs setting locals subject want).bodies
  cases_pass [] h locals subject want e = (refl, tt)
  cases_pass (c ∷ cs) h locals subject want e =
      let found : Looked = look c.pattern setting no_widths subject in
      let inner : Locals = under found.binds locals in
      let body : Found = c.body.elaborate setting inner want in
      let more : Cases = cases_found cs setting locals subject (given_on want body.shape) in
      let own : List ShapeError = guard_faults c.guard setting inner ++ body.faults in
      let f = both_empty (found.faults ++ own) more.faults e in
      let g = both_empty found.faults own f.0 in
      let k = both_empty (guard_faults c.guard setting inner) body.faults g.1 in
      let rest = cases_pass cs h.1 locals subject (given_on want body.shape) f.1 in (
        two (arm_tested fits (A.Nested (found.pattern ∷ []))) (arms_tested fits more.arms)
            (one_stands found.pattern (fit.patterns c.pattern subject (used c.pattern h.0.named) h.0.limits h.0.converts g.0)) rest.0,
        (
          guarded_passes c.guard (cast body.core c.body.place) h.0.guard inner k.0
              (cast_passes around numbers fits body.core c.body.place (h.0.body inner want k.1)),
          rest.1,
        ),
      )

  arms_fit : (arms : List Arm) → arms_tested fits arms ≡ true → (true && (arms_tested fits arms && true)) ≡ true
  arms_fit arms h = two true (arms_tested fits arms && true) refl (two (arms_tested fits arms) true h refl)

  pub match_passes : (place : Place) (value : Part) (cs : List CasePart) → Is value.elaborate → CasesAre cs → Is (choose_found place Match value cs)
  match_passes place value cs one h locals want e =
      let a : Found = value.elaborate setting locals V.Never in
      let cases : Cases = cases_found cs setting locals a.shape want in
      let f = both_empty a.faults cases.faults e in
      let k = cases_pass cs h locals a.shape want f.1 in
      over_passes around numbers fits place (K.Match cases.arms cases.shape) (cast a.core value.place ∷ cases.bodies) (arms_fit cases.arms k.0)
      (cast_passes around numbers fits a.core value.place (one locals V.Never f.0), k.1)

  pub try_passes : (place : Place) (value : Part) (cs : List CasePart) → Is value.elaborate → CasesAre cs → Is (choose_found place Try value cs)
  try_passes place value cs one h locals want e =
      let a : Found = value.elaborate setting locals want in
      let cases : Cases = cases_found cs setting locals (thrown_shape setting) (given_on want a.shape) in
      let f = both_empty a.faults cases.faults e in
      let k = cases_pass cs h locals (thrown_shape setting) (given_on want a.shape) f.1 in
      over_passes around numbers fits place (K.Try cases.arms cases.shape) (cast a.core value.place ∷ cases.bodies) (arms_fit cases.arms k.0)
      (cast_passes around numbers fits a.core value.place (one locals want f.0), k.1)

  -- ---- blocks

  -- a statement, alone in a block
  abbrev pub StatementIs : StatementPart → Type 0
  StatementIs s = (locals : Locals) → (s setting locals).faults ≡ []
      → It (s setting locals).part × (lets_tested fits ((s setting locals).statement ∷ []) ≡ true)

  abbrev pub StatementsAre : List StatementPart → Type 0
  StatementsAre [] = Unit {0}
  StatementsAre (s ∷ ss) = StatementIs s × StatementsAre ss

  pub evaluated_passes : (a : Part) → Is a.elaborate → StatementIs (evaluated a)
  evaluated_passes a h locals e = (h locals V.Unit e, refl)

  pub defined_passes : (place : Place) (p : Pat) (value : Part) → Is value.elaborate → pattern_failures names p ≡ [] → pattern_written p ≡ true
      → Converts fit.converts names (pattern_callees names.known p)
      → StatementIs (λ s locals. defined_as place (bound place p value s locals) locals)
  defined_passes place p value one u limits v locals e =
      let k = bound_passes place p value one u limits v locals e in
      (k.0, two (arm_tested fits (bound place p value setting locals).arm) true k.1 refl)

  pub declare_passes : (place : Place) (name : Name) (typ : Option TyExp) (value : Part) → Is value.elaborate
      → StatementIs (λ s locals. declared_as name (declaring place name typ value s locals) locals)
  declare_passes place name typ value one locals e = (declared_passes place name typ value one locals e, refl)

  more_lets : (s : Statement) (ss : List Statement) → lets_tested fits (s ∷ []) ≡ true → lets_tested fits ss ≡ true
      → lets_tested fits (s ∷ ss) ≡ true
  more_lets S.Evaluate ss h k = k
  more_lets (S.Define at arm) ss h k =
      two (arm_tested fits arm) (lets_tested fits ss) (and_parts (arm_tested fits arm) true h).0 k
  more_lets (S.Declare name written) ss h k = k

  blocked_pass : (ss : List StatementPart) → StatementsAre ss → (locals : Locals) → (blocked ss setting locals).faults ≡ []
      → (lets_tested fits (blocked ss setting locals).statements ≡ true) × Each (blocked ss setting locals).parts
  blocked_pass [] h locals e = (refl, tt)
  blocked_pass (s ∷ ss) h locals e =
      let stated : Stated = s setting locals in
      let more : Blocked = blocked ss setting stated.locals in
      let f = both_empty stated.faults more.faults e in
      let one = h.0 locals f.0 in
      let rest = blocked_pass ss h.1 stated.locals f.1 in
      (more_lets stated.statement more.statements one.1 rest.0, (one.0, rest.1))

  lets_fit : (ss : List Statement) → lets_tested fits ss ≡ true → (true && (lets_tested fits ss && true)) ≡ true
  lets_fit ss h = two true (lets_tested fits ss && true) refl (two (lets_tested fits ss) true h refl)

  pub block_passes : (place : Place) (ss : List StatementPart) (value : Option Part) → StatementsAre ss → Maybe value → Is (block_found place ss value)
  block_passes place ss None h k locals want e =
      let b : Blocked = blocked ss setting locals in
      let rest = blocked_pass ss h locals (both_empty b.faults _ e).0 in
      settled_passes around numbers fits place want V.Unit _
      (λ s. over_passes around numbers fits place (K.Block b.statements) b.parts (lets_fit b.statements rest.0) rest.1)
  block_passes place ss (Some value) h k locals want e =
      let b : Blocked = blocked ss setting locals in
      let last : Found = value.elaborate setting b.locals want in
      let f = both_empty b.faults last.faults e in
      let rest = blocked_pass ss h locals f.0 in
      over_passes around numbers fits place (K.Block b.statements) (b.parts ++ last.core ∷ []) (lets_fit b.statements rest.0)
      (also_pass around numbers fits b.parts (last.core ∷ []) rest.1 (k b.locals want f.1, tt))

  -- ---- loops

  by_passes : (place : Place) (by : Option Part) → Maybe by → (locals : Locals) → (by_found place by setting locals).faults ≡ []
      → It (by_found place by setting locals).core
  by_passes place None h locals e =
      settled_passes around numbers fits place V.Int V.Int _ (λ s. over_passes around numbers fits place (K.Constant (L.Integer (pos 1))) []
      (two (is_small (pos 1)) true one_is_small refl) tt)
  by_passes place (Some by) h locals e = h locals V.Int e

  pub record RangeIs (r : RangePart) : Type 0 where
    pub from : Is r.from.elaborate
    pub to : Is r.to.elaborate
    pub by : Maybe r.by

  pub foreach_passes : (place : Place) (name : Name) (range : RangePart) (body : Part) → RangeIs range → Is body.elaborate
      → Is (foreach_found place name range body)
  foreach_passes place name range body h k locals want e =
      let from : Found = range.from.elaborate setting locals V.Int in
      let to : Found = range.to.elaborate setting locals V.Int in
      let by : Found = by_found place range.by setting locals in
      let inner : Locals = constant name.text V.Int ∷ locals in
      let last : Found = body.elaborate setting inner V.Unit in
      let f = both_empty (((from.faults ++ to.faults) ++ by.faults) ++ last.faults) _ e in
      let f1 = both_empty ((from.faults ++ to.faults) ++ by.faults) last.faults f.0 in
      let f2 = both_empty (from.faults ++ to.faults) by.faults f1.0 in
      let f3 = both_empty from.faults to.faults f2.0 in
      settled_passes around numbers fits place want V.Unit _ (λ s. over_passes around numbers fits place (K.Foreach _ _) _ refl (
        h.from locals V.Int f3.0,
        (h.to locals V.Int f3.1, (by_passes place range.by h.by locals f2.1, (k inner V.Unit f1.1, tt))),
      ))

  -- a measure is plain
  pub loop_passes : (place : Place) (looping : Looping) (measure a b : Part) → Tested around numbers fits (plainly setting) measure.elaborate → Is a.elaborate
      → Is b.elaborate → Is (loop_found place looping (Some measure) a b)
  loop_passes place While measure a b m h k locals want e =
      let mf : Found = measure.elaborate (plainly setting) locals V.Int in
      let af : Found = a.elaborate setting locals V.Bool in
      let bf : Found = b.elaborate setting locals V.Unit in
      let f = both_empty ((mf.faults ++ af.faults) ++ bf.faults) _ e in
      let f1 = both_empty (mf.faults ++ af.faults) bf.faults f.0 in
      let f2 = both_empty mf.faults af.faults f1.0 in
      settled_passes around numbers fits place want V.Unit _ (λ s. over_passes around numbers fits place K.While _ refl
      (m locals V.Int f2.0, (h locals V.Bool f2.1, (k locals V.Unit f1.1, tt))))
  loop_passes place Repeat measure a b m h k locals want e =
      let mf : Found = measure.elaborate (plainly setting) locals V.Int in
      let af : Found = a.elaborate setting locals V.Bool in
      let bf : Found = b.elaborate setting locals V.Unit in
      let f = both_empty ((mf.faults ++ bf.faults) ++ af.faults) _ e in
      let f1 = both_empty (mf.faults ++ bf.faults) af.faults f.0 in
      let f2 = both_empty mf.faults bf.faults f1.0 in
      settled_passes around numbers fits place want V.Unit _ (λ s. over_passes around numbers fits place K.Repeat _ refl
      (m locals V.Int f2.0, (k locals V.Unit f2.1, (h locals V.Bool f1.1, tt))))

  pub assert_passes : (place : Place) (a : Part) (text : Option (List ℕ)) → Is a.elaborate → Is (assert_found place a text)
  assert_passes place a text h locals want e =
      let af : Found = a.elaborate setting locals V.Bool in
      settled_passes around numbers fits place want V.Unit _ (λ s. over_passes around numbers fits place (K.Assert text) _ refl
      (h locals V.Bool (both_empty af.faults _ e).0, tt))

  -- ---- `sizeof` and `constraint`

  pub of_type_passes : (place : Place) (asking : Asking) (typ : TyExp) → type_failures (asked_kind asking) typ names ≡ [] → Is (of_type_found place asking typ)
  of_type_passes place Sizeof typ u locals want = by_number (number_in setting.within typ) refl
    where
      by_number : (o : Option Num) → number_in setting.within typ ≡ o → (size_found place typ setting want o).faults ≡ []
          → It (size_found place typ setting want o).core
      by_number None is e = missing_passes around numbers fits place
      by_number (Some n) is e =
          settled_passes around numbers fits place want V.Int _ (λ s. over_passes around numbers fits place (K.SizeOf n (numbers_in setting.within typ)) []
          (fit.sizes typ n u is) tt)
  of_type_passes place Constraint typ u locals want = by_truth (constraint_in setting.within typ) refl
    where
      by_truth : (o : Option Con) → constraint_in setting.within typ ≡ o → (truth_found place typ setting want o).faults ≡ []
          → It (truth_found place typ setting want o).core
      by_truth None is e = missing_passes around numbers fits place
      by_truth (Some x) is e =
          settled_passes around numbers fits place want V.Bool _ (λ s. over_passes around numbers fits place (K.Constraint x (numbers_in setting.within typ)) []
          (fit.truths typ x u is) tt)

  -- ---- targets

  abbrev CallIs : Option (Name × List Part) → Type 0
  CallIs None = Unit {0}
  CallIs (Some call) = Parts call.1

  pub record TargetIs (t : TargetPart) : Type 0 where
    pub parts : (locals : Locals) → (t.aim setting locals).faults ≡ [] → Each (t.aim setting locals).parts
    pub call : CallIs t.call

  abbrev pub TargetsAre : List TargetPart → Type 0
  TargetsAre [] = Unit {0}
  TargetsAre (t ∷ ts) = TargetIs t × TargetsAre ts

  register_passes : (name : Name) (o : Option Meant) → Each (register_aimed name o).parts
  register_passes name (Some (M.Register r s)) = tt
  register_passes name o = tt

  pub name_aims : (name : Name) (local : Option Local) (o : Option Meant) → Each (name_aimed name local o).parts
  name_aims name (Some local) o = tt
  name_aims name None o = register_passes name o

  called_aims : (name : Name) (faults : List ShapeError) (args : Args) (reader writer : Option Chosen) → (faults ≡ [] → Each args.cores)
      → (call_aimed name faults args reader writer).faults ≡ [] → Each (call_aimed name faults args reader writer).parts
  called_aims name faults args reader None h e = tt
  called_aims name faults args reader (Some writer) h e = h e

  counted_aims : (name : Name) (f : Candidate) (args : List Part) → Parts args → (locals : Locals) → (callee_counted name f args setting locals).faults ≡ []
      → Each (callee_counted name f args setting locals).parts
  counted_aims name f args h locals = by_count (nat_eq (length f.params) (suc (length args)))
    where
      by_count : (b : Bool) → (if b then callee_aimed name f (length args) (solved (elaborations args) setting locals f.params (holes f.variables))
          else aimed_nowhere name.place (error.Arity name.place (length f.params) (suc (length args)) ∷ [])).faults ≡ []
          → Each (if b then callee_aimed name f (length args) (solved (elaborations args) setting locals f.params (holes f.variables))
          else aimed_nowhere name.place (error.Arity name.place (length f.params) (suc (length args)) ∷ [])).parts
      by_count true e =
          solved_pass around numbers fits setting names fit (elaborations args) (each_of around numbers fits setting names fit args h) locals f.params
          (holes f.variables) e
      by_count false e = tt

  meant_aims : (name : Name) (args : List Part) (fs : List Candidate) (one : Option Candidate) → Parts args → (locals : Locals)
      → (meant_aim name args fs one setting locals).faults ≡ [] → Each (meant_aim name args fs one setting locals).parts
  meant_aims name args fs (Some f) h locals e = counted_aims name f args h locals e
  meant_aims name args fs None h locals e =
      let found : Args = args_found (elaborations args) setting locals in
      called_aims name found.faults found (chosen fs found.shapes) _
      (args_pass around numbers fits setting names fit (elaborations args) (each_of around numbers fits setting names fit args h) locals) e

  pub call_aims : (name : Name) (args : List Part) → Parts args → (locals : Locals) → (call_aim name args setting locals).faults ≡ []
      → Each (call_aim name args setting locals).parts
  call_aims name args h locals e =
      meant_aims name args (callees_of setting.types (setting.value name.text))
      (one_of (setting.value name.text) (callees_of setting.types (setting.value name.text))) h locals e

  pub each_aims : (ts : List TargetPart) → TargetsAre ts → (locals : Locals) → (each_aimed ts setting locals).faults ≡ []
      → Each (each_aimed ts setting locals).parts
  each_aims [] h locals e = tt
  each_aims (t ∷ ts) h locals e =
      let a : Aimed = t.aim setting locals in
      let f = both_empty a.faults (each_aimed ts setting locals).faults e in
      also_pass around numbers fits a.parts _ (h.0.parts locals f.0) (each_aims ts h.1 locals f.1)

  written_aims : (name : Name) (fs : List Candidate) (args : Args) (reader : Option Chosen) (one : Option Candidate) (base : Aimed)
      → (args.faults ≡ [] → Each args.cores) → (base.faults ≡ [] → Each base.parts) → (written_by name fs args reader one base).faults ≡ []
      → Each (written_by name fs args reader one base).parts
  written_aims name fs args reader (Some f) base h k e = k e
  written_aims name fs args reader None base h k e = called_aims name args.faults args reader _ h e

  pub read_aims : (call : Option (Name × List Part)) → CallIs call → (locals : Locals) (base : Aimed) → (base.faults ≡ [] → Each base.parts)
      → (read_aimed call setting locals base).faults ≡ [] → Each (read_aimed call setting locals base).parts
  read_aims None h locals base k e = k e
  read_aims (Some call) h locals base k e =
      let found : Args = args_found (elaborations call.1) setting locals in
      let fs : List Candidate = callees_of setting.types (setting.value call.0.text) in
      let one : Option Candidate = one_of (setting.value call.0.text) fs in
      let reader : Option Chosen = chosen fs found.shapes in
      let a : Aimed = written_by call.0 fs found reader one base in
      let f = both_empty (a.faults ++ unread call.0 (length call.1) one reader) (open_faults call.0.place (read_shape reader)) e in
      let g = both_empty a.faults (unread call.0 (length call.1) one reader) f.0 in
      written_aims call.0 fs found reader one base
      (args_pass around numbers fits setting names fit (elaborations call.1) (each_of around numbers fits setting names fit call.1 h) locals) k g.0

  pub part_aims : (place first at : Place) (base : Aimed) (xs : List SuffixPart) → (base.faults ≡ [] → Each base.parts)
      → SuffixesAre around numbers fits setting names fit xs → (locals : Locals)
      → (part_aimed place base (walked xs setting locals first at base.shape)).faults ≡ []
      → Each (part_aimed place base (walked xs setting locals first at base.shape)).parts
  part_aims place first at base xs h k locals e =
      let ways = walked xs setting locals first at base.shape in
      let f = both_empty base.faults ways.faults e in
      also_pass around numbers fits base.parts ways.parts (h f.0) (walked_pass around numbers fits setting names fit xs k locals first at base.shape f.1)

  -- ---- assignments

  abbrev pub FurthersAre : List FurtherPart → Type 0
  FurthersAre [] = Unit {0}
  FurthersAre (f ∷ fs) = TargetIs f.to × FurthersAre fs

  chained_parts : (place : Place) (a : Aimed) → chained_faults place a ≡ [] → a.faults ≡ []
  chained_parts place a e = (both_empty (answer_faults place (any_failed a.faults) a.answer) a.faults e).1

  righted_pass : (fs : List FurtherPart) (value : Part) → FurthersAre fs → Is value.elaborate → (locals : Locals) (want : Shape)
      → (righted fs value setting locals want).faults ≡ [] → Each (righted fs value setting locals want).parts
  righted_pass [] value h k locals want e = (k locals want e, tt)
  righted_pass (f ∷ fs) value h k locals want e =
      let a : Aimed = f.to.aim setting locals in
      let more : Righted = righted fs value setting locals a.shape in
      let g = both_empty (inner_faults f.place want a.answer ++ chained_faults f.place a) more.faults e in
      let g2 = both_empty (inner_faults f.place want a.answer) (chained_faults f.place a) g.0 in
      also_pass around numbers fits a.parts _ (h.0.parts locals (chained_parts f.place a g2.1)) (righted_pass fs value h.1 k locals a.shape g.1)

  to_passes : (place : Place) (t : TargetPart) (fs : List FurtherPart) (value : Part) → TargetIs t → FurthersAre fs → Is value.elaborate
      → (locals : Locals) (want : Shape) → (assign_to place (t.aim setting locals) fs value setting locals want).faults ≡ []
      → It (assign_to place (t.aim setting locals) fs value setting locals want).core
  to_passes place t fs value h k one locals want e =
      let a : Aimed = t.aim setting locals in
      let right : Righted = righted fs value setting locals a.shape in
      let f = both_empty (chained_faults place a ++ right.faults) _ e in
      let g = both_empty (chained_faults place a) right.faults f.0 in
      settled_passes around numbers fits place want a.answer _ (λ s. over_passes around numbers fits place (K.Assign _) (a.parts ++ right.parts) refl
      (also_pass around numbers fits a.parts right.parts (h.parts locals (chained_parts place a g.0)) (righted_pass fs value k one locals a.shape g.1)))

  behind_all : (args : List Part) (value : Part) → Parts args → Is value.elaborate → Parts (args ++ value ∷ [])
  behind_all [] value h k = (k, tt)
  behind_all (a ∷ args) value h k = (h.0, behind_all args value h.1 k)

  as_passes : (place : Place) (t : TargetPart) (fs : List FurtherPart) (value : Part) (call : Option (Name × List Part)) → TargetIs t → CallIs call
      → FurthersAre fs → Is value.elaborate → Is (assign_as place t fs value call)
  as_passes place t [] value (Some call) h c k one locals want e =
      named_passes around numbers fits setting names fit call.0 (call.1 ++ value ∷ []) (behind_all call.1 value c one) locals want e
  as_passes place t [] value None h c k one locals want e = to_passes place t [] value h k one locals want e
  as_passes place t (f ∷ fs) value call h c k one locals want e = to_passes place t (f ∷ fs) value h k one locals want e

  pub assign_passes : (place : Place) (t : TargetPart) (fs : List FurtherPart) (value : Part) → TargetIs t → FurthersAre fs → Is value.elaborate
      → Is (assign_found place t fs value)
  assign_passes place t fs value h k one = as_passes place t fs value t.call h h.call k one
