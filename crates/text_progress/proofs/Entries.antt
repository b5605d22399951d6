-- Each definition's names are in the core that is found: functions, directions and registers by their numbers, in text order.
use Rattle.std.proofs.Common.{◌≡◌, ℕ, zero, suc, ◌+◌, ◌*◌, List, [], ◌∷◌, ◌++◌, length, map, ap, sym, ◌∙◌, refl, subst, Bool, true, false, Option, Some, None}
use Rattle.std.proofs.Common.{nat_lt, arith, if◌then◌else◌}
use Rattle.std.specs.Prelude.{codes, slice_get}
use Rattle.std.specs.Str.{bytes_eq}
use Rattle.sail_base.specs.declared.place.Place.{Place}
use Rattle.sail_syntax.specs.declared.definitions.Def.{Def}
use Rattle.sail_syntax.specs.declared.definitions.Def.TheVariants as D
use Rattle.sail_syntax.specs.declared.definitions.FunctionClause.{FunctionClause}
use Rattle.sail_syntax.specs.declared.definitions.MappingClause.{MappingClause}
use Rattle.sail_types.specs.Named.{constructors, form_constructors, form_members, in_form, members, payload, typ_of}
use Rattle.sail_types.specs.Shapes.{shape}
use Rattle.sail_types.specs.declared.shapes.Shape.{Shape}
use Rattle.sail_types.specs.declared.shapes.Shape.TheFolds.{fold-roll-Shape}
use Rattle.sail_types.specs.declared.shapes.Shape.TheOpen as S
use Rattle.sail_types.specs.declared.shapes.Shape.TheVariants as V
use Rattle.sail_types.specs.declared.table.Definition.{Definition}
use Rattle.sail_types.specs.declared.table.Field.{Field}
use Rattle.sail_types.specs.declared.table.Form.{Form}
use Rattle.sail_types.specs.declared.table.Form.TheVariants as F
use Rattle.sail_types.specs.declared.table.Types.{Types}
use Rattle.sail_types.specs.declared.types.Typ.{Typ}
use Rattle.sail_kinds.specs.declared.scope.Variable.{Variable}
use Rattle.sail_signatures.specs.declared.signature.Signature.{Signature}
use Rattle.model_state.specs.declared.state.Register.{Register}
use Rattle.sail_core.specs.declared.model.Direction.{Direction as CoreDirection}
use Rattle.sail_core.specs.declared.model.Function.{Function as CoreFunction}
use Rattle.shape_joins.proofs.Order.{two}
use Rattle.shape_rules.specs.declared.locals.Local.{Local}
use Rattle.shape_rules.specs.Scopes.{Setting}
use Rattle.shape_rules.specs.Written.{joined, shape_or_never, typ_in}
use Rattle.shape_models.specs.declared.entries.Counts.{Counts}
use Rattle.shape_models.specs.declared.entries.Entry.{Entry}
use Rattle.shape_models.specs.Models as Shapes
use Rattle.shape_models.specs.Models.{Tabled, counts_with, def_entries, entries, entries_from, function_candidate, mapping_of, meant_in, no_counts}
use Rattle.shape_models.specs.Models.{params_variables, place_in_table, setting_of, type_variables, within_variables}
use Rattle.shape_clauses.specs.Functions.{function_in, functions_if, functions_of}
use Rattle.shape_clauses.specs.Mappings.{backwards_core, directions_if, directions_of, forwards_core}
use Rattle.shape_meanings.specs.Whole.{below, below_form, closed}
use Rattle.shape_meanings.specs.Worlds.{variables_from}
use Rattle.shape_progress.specs.PatternRules.{IsEnum, IsUnion}
use Rattle.shapes.specs.Failures.{own_in}
use Rattle.shapes.specs.Resolved.{register_if, register_of}
use Rattle.known_texts.specs.Definitions.{ConstructorsAre, UnionIs}
use Rattle.known_texts.specs.Known.{DefinitionKnown, DefinitionsKnown, EachKnown, FunctionKnown, MappingKnown}
use Rattle.known_texts.specs.Values.{RegistersTyped}
use Rattle.known_texts.proofs.BuiltinNames.{one_more, there_behind}
use Rattle.known_texts.proofs.Definitions.{union_below}
use Rattle.text_progress.specs.Entries.{CandidateIn, DirectionIn, MaybeIn, MeantIn, Parts}

-- ---- lists

pub join_again : {A : Type 0} (xs ys zs : List A) → (xs ++ (ys ++ zs)) ≡ ((xs ++ ys) ++ zs)
join_again [] ys zs = refl
join_again (x ∷ xs) ys zs = ap (λ us. x ∷ us) (join_again xs ys zs)

none_more : {A : Type 0} (xs : List A) → length (xs ++ []) ≡ length xs
none_more [] = refl
none_more (x ∷ xs) = ap suc (none_more xs)

two_more : {A : Type 0} (xs : List A) (x y : A) → length (xs ++ x ∷ y ∷ []) ≡ suc (suc (length xs))
two_more [] x y = refl
two_more (z ∷ xs) x y = ap suc (two_more xs x y)

second_behind : {A : Type 0} (before : List A) (x y : A) (more : List A) → slice_get (before ++ x ∷ y ∷ more) (suc (length before)) ≡ Some y
second_behind [] x y more = refl
second_behind (z ∷ before) x y more = second_behind before x y more

less_behind : {A : Type 0} (before : List A) (x : A) (more : List A) → nat_lt (length before) (length (before ++ x ∷ more)) ≡ true
less_behind [] x more = none_less (length more)
  where
    none_less : (n : ℕ) → nat_lt 0 (suc n) ≡ true
    none_less n = grind arith
less_behind (y ∷ before) x more = both_more (length before) (length (before ++ x ∷ more)) (less_behind before x more)
  where
    both_more : (n k : ℕ) → nat_lt n k ≡ true → nat_lt (suc n) (suc k) ≡ true
    both_more n k h = grind (arith, h)

next_pair : (k n : ℕ) → k ≡ (2 * n) → suc (suc k) ≡ (2 * suc n)
next_pair k n h = omega (arith, h)

pub mapped_join : {A B : Type 0} (f : A → B) (xs ys : List A) → map f (xs ++ ys) ≡ (map f xs ++ map f ys)
mapped_join f [] ys = refl
mapped_join f (x ∷ xs) ys = ap (λ us. f x ∷ us) (mapped_join f xs ys)

-- ---- shapes of unions

same_variables : (i n : ℕ) → Shapes.variables_from i n ≡ variables_from i n
same_variables i zero = refl
same_variables i (suc n) = ap (λ ss. V.Variable i ∷ ss) (same_variables (suc i) n)

variable_below : (n i : ℕ) → nat_lt i n ≡ true → below n (V.Variable i) ≡ true
variable_below n i h = ap (below n) (sym (V.rolls-Variable i)) ∙ fold-roll-Shape Bool (below_form n) (S.Variable i) ∙ h

-- ---- a type that has constructors is a union, and one that has members an enum

not_empty : {A B : Type 0} (xs : List A) (x : A) (ys : List A) → [] ≡ (xs ++ x ∷ ys) → B
not_empty [] x ys h = absurd (never h)
  where
    never : {A : Type 0} {x : A} {xs : List A} → [] ≡ (x ∷ xs) → ⊥
    never h = cc
not_empty (y ∷ xs) x ys h = absurd (never h)
  where
    never : {A : Type 0} {x : A} {xs : List A} → [] ≡ (x ∷ xs) → ⊥
    never h = cc

union_of_form : (types : Types) (u : ℕ) (d : Definition) (form : Form) (before : List Field) (f : Field) (fs : List Field)
    → slice_get types.definitions u ≡ Some d → d.form ≡ form → form_constructors form ≡ (before ++ f ∷ fs) → IsUnion types u
union_of_form types u d (F.Union cs) before f fs there is all = (d, cs, there, is)
union_of_form types u d form before f fs there is all = not_empty before f fs all

union_of : (types : Types) (u : ℕ) (before : List Field) (f : Field) (fs : List Field) → constructors types u ≡ (before ++ f ∷ fs) → IsUnion types u
union_of types u before f fs all = by (slice_get types.definitions u) refl all
  where
    by : (o : Option Definition) → slice_get types.definitions u ≡ o → in_form [] form_constructors o ≡ (before ++ f ∷ fs) → IsUnion types u
    by None is all = not_empty before f fs all
    by (Some d) is all = union_of_form types u d d.form before f fs is refl all

enum_of_form : (types : Types) (i : ℕ) (d : Definition) (form : Form) (before : List (List ℕ)) (m : List ℕ) (ms : List (List ℕ))
    → slice_get types.definitions i ≡ Some d → d.form ≡ form → form_members form ≡ (before ++ m ∷ ms) → IsEnum types i
enum_of_form types i d (F.Enum names) before m ms there is all = (d, names, there, is)
enum_of_form types i d form before m ms there is all = not_empty before m ms all

enum_of : (types : Types) (i : ℕ) (before : List (List ℕ)) (m : List ℕ) (ms : List (List ℕ)) → members types i ≡ (before ++ m ∷ ms) → IsEnum types i
enum_of types i before m ms all = by (slice_get types.definitions i) refl all
  where
    by : (o : Option Definition) → slice_get types.definitions i ≡ o → in_form [] form_members o ≡ (before ++ m ∷ ms) → IsEnum types i
    by None is all = not_empty before m ms all
    by (Some d) is all = enum_of_form types i d d.form before m ms is refl all

-- ---- entries

abbrev pub EntriesIn : Parts → List Entry → Type 0
EntriesIn core [] = Unit {0}
EntriesIn core (e ∷ es) = MeantIn core e.meant × EntriesIn core es

entries_join : (core : Parts) (es fs : List Entry) → EntriesIn core es → EntriesIn core fs → EntriesIn core (es ++ fs)
entries_join core [] fs a b = b
entries_join core (e ∷ es) fs a b = (a.0, entries_join core es fs a.1 b)

pub entry_in : (core : Parts) (es : List Entry) → EntriesIn core es → (name : List ℕ) → MaybeIn core (meant_in es name)
entry_in core [] each name = tt
entry_in core (e ∷ es) each name = by (bytes_eq e.name name) (entry_in core es each.1 name)
  where
    by : (b : Bool) → MaybeIn core (meant_in es name) → MaybeIn core (if b then Some e.meant else meant_in es name)
    by true later = each.0
    by false later = later

-- ---- a text's definitions

module _ (tabled : Tabled) (cycle : List ℕ → Option ℕ) (text : List Def) (lets : List Local) where
  abbrev within : List Variable → Setting
  within = setting_of tabled (own_in tabled text) text lets

  abbrev setting : Setting
  setting = within []

  abbrev functions_by : Def → List CoreFunction
  functions_by d = functions_of tabled text within cycle d

  abbrev directions_for : Def → List CoreDirection
  directions_for d = directions_of tabled setting d

  abbrev shapes_of : List Register → List Shape
  shapes_of registers = map (λ r. shape r.typ) registers

  abbrev pub core : Parts
  core = record {
    types = tabled.types;
    functions = joined (map functions_by text);
    directions = joined (map directions_for text);
    registers = shapes_of (joined (map (register_of setting) text));
  }

  -- unions and enums

  constructors_in : (u count k : ℕ) (before fs : List Field) → constructors tabled.types u ≡ (before ++ fs) → length before ≡ k
      → ConstructorsAre tabled.types u count k fs → EntriesIn core (Shapes.constructors_from u count k fs)
  constructors_in u count k before [] all many are = tt
  constructors_in u count k before (f ∷ fs) all many are =
      let there : payload tabled.types u k ≡ Some f.typ =
      (λ j. typ_of (slice_get (all j) (sym many j))) ∙ ap typ_of (there_behind before f fs) in (
        record {
          whole = are.1;
          answer = union_below u count;
          does = (
            record { typ = f.typ; there = there; several = are.2; params = refl; answer = ap (V.Named u) (same_variables 0 count) },
            union_of tabled.types u before f fs all,
          );
        },
        constructors_in u count (suc k) (before ++ f ∷ []) fs (all ∙ join_again before (f ∷ []) fs) (one_more before f ∙ ap suc many) are.3,
      )

  union_in : (count : ℕ) (o : Option ℕ) → UnionIs tabled.types count o → EntriesIn core (Shapes.union_entries tabled count o)
  union_in count None are = tt
  union_in count (Some u) are = constructors_in u count 0 [] (constructors tabled.types u) refl refl are

  members_in : (i k : ℕ) (before ms : List (List ℕ)) → members tabled.types i ≡ (before ++ ms) → length before ≡ k
      → EntriesIn core (Shapes.members_from i k ms)
  members_in i k before [] all many = tt
  members_in i k before (m ∷ ms) all many = (
    (
      enum_of tabled.types i before m ms all,
      (λ j. nat_lt (sym many j) (length (all j))) ∙ less_behind before m ms,
    ),
    members_in i (suc k) (before ++ m ∷ []) ms (all ∙ join_again before (m ∷ []) ms) (one_more before m ∙ ap suc many),
  )

  enum_in : (o : Option ℕ) → EntriesIn core (Shapes.enum_entries tabled o)
  enum_in None = tt
  enum_in (Some i) = members_in i 0 [] (members tabled.types i) refl refl

  -- functions and directions

  function_here : (place : Place) (name : List ℕ) (clauses : List FunctionClause) (n : ℕ) (s : Signature)
      → FunctionKnown tabled text within name clauses s
      → slice_get core.functions n ≡ Some (function_in tabled text (within s.variables) place name clauses s (cycle name))
      → CandidateIn core (function_candidate name n s)
  function_here place name clauses n s known there = record {
    whole = known.whole;
    answer = known.answer;
    does = (function_in tabled text (within s.variables) place name clauses s (cycle name), there, refl, refl);
  }

  converts_in : (name : List ℕ) (n : ℕ) (from to : Typ) → DirectionIn core n (shape from) (shape to)
      → CandidateIn core (Shapes.direction_candidate name n from to)
  converts_in name n from to d = record {
    whole = two (closed (shape from)) true d.from_closed refl;
    answer = d.to_closed;
    does = (shape from, refl, d);
  }

  mapping_here : (place : Place) (name : List ℕ) (cs : List MappingClause) (n : ℕ) (s : Signature) → MappingKnown tabled.types setting name cs s
      → (db dr : List CoreDirection) → core.directions ≡ (db ++ (directions_if setting place name cs (Some s) ++ dr)) → length db ≡ (2 * n)
      → EntriesIn core (Shapes.mapping_entries name n (Some s))
  mapping_here place name cs n s known db dr directions many = (
    converts_in (name ++ codes "_forwards") (2 * n) s.from s.to ahead,
    (converts_in (name ++ codes "_backwards") (suc (2 * n)) s.to s.from back, (record { ahead = ahead; back = back }, tt)),
  )
    where
      ahead_core : CoreDirection
      ahead_core = forwards_core setting place (mapping_of name 0 s) cs

      back_core : CoreDirection
      back_core = backwards_core setting place (mapping_of name 0 s) cs

      ahead : DirectionIn core (2 * n) (shape s.from) (shape s.to)
      ahead = record {
        it = ahead_core;
        there = (λ j. slice_get (directions j) (sym many j)) ∙ there_behind db ahead_core (back_core ∷ dr);
        takes = refl;
        gives = refl;
        from_closed = known.left;
        to_closed = known.right;
      }

      back : DirectionIn core (suc (2 * n)) (shape s.to) (shape s.from)
      back = record {
        it = back_core;
        there = (λ j. slice_get (directions j) (suc (sym many j))) ∙ second_behind db ahead_core back_core dr;
        takes = refl;
        gives = refl;
        from_closed = known.right;
        to_closed = known.left;
      }

  -- registers

  register_here : (name : List ℕ) (o : Option Typ) (rb rr : List Shape) (n : ℕ) (t : Typ) → o ≡ Some t
      → core.registers ≡ (rb ++ (shapes_of (register_if name o) ++ rr)) → length rb ≡ n → slice_get core.registers n ≡ Some (shape_or_never o)
  register_here name o rb rr n t is all many =
      (λ j. slice_get (all j) (sym many j)) ∙ ap (λ x. slice_get (rb ++ (shapes_of (register_if name x) ++ rr)) (length rb)) is
      ∙ there_behind rb (shape t) rr ∙ ap (λ x. Some (shape_or_never x)) (sym is)

  -- one definition, behind so many functions, directions and registers

  abbrev registers_by : Def → List Shape
  registers_by d = shapes_of (register_of setting d)

  abbrev IsTyped : Def → Type 0
  IsTyped d = RegistersTyped tabled (d ∷ [])

  definition_in : (d : Def) (counts : Counts) (fb fr : List CoreFunction) (db dr : List CoreDirection) (rb rr : List Shape)
      → core.functions ≡ (fb ++ (functions_by d ++ fr)) → length fb ≡ counts.functions
      → core.directions ≡ (db ++ (directions_for d ++ dr)) → length db ≡ (2 * counts.mappings)
      → core.registers ≡ (rb ++ (registers_by d ++ rr)) → length rb ≡ counts.registers
      → DefinitionKnown tabled text within d → IsTyped d → EntriesIn core (def_entries tabled counts d)
  definition_in (D.Register place name typ initial) counts fb fr db dr rb rr fs fc ds dc rs rc is typed =
      (register_here name.text (typ_in (within_variables tabled []) typ) rb rr counts.registers typed.0.0 typed.0.1 rs rc, tt)
  definition_in (D.Enum place name ms) counts fb fr db dr rb rr fs fc ds dc rs rc is typed = enum_in (place_in_table tabled name.text)
  definition_in (D.Union place name variables cs) counts fb fr db dr rb rr fs fc ds dc rs rc is typed =
      union_in (type_variables (params_variables variables)) (place_in_table tabled name.text) is
  definition_in (D.Function place extent name clauses) counts fb fr db dr rb rr fs fc ds dc rs rc is typed =
      let s : Signature = is.0 in
      let one : CoreFunction = function_in tabled text (within s.variables) place name.text clauses s (cycle name.text) in
      let all : core.functions ≡ (fb ++ (one ∷ fr)) =
      fs ∙ ap (λ o. fb ++ (functions_if tabled text within place name.text clauses o (cycle name.text) ++ fr)) is.1 in
      subst (λ o. EntriesIn core (Shapes.function_entry name.text counts.functions o)) (sym is.1)
      (function_here place name.text clauses counts.functions s is.2 ((λ j. slice_get (all j) (sym fc j)) ∙ there_behind fb one fr), tt)
  definition_in (D.Mapping place name sides cs) counts fb fr db dr rb rr fs fc ds dc rs rc is typed =
      let s : Signature = is.0 in
      subst (λ o. EntriesIn core (Shapes.mapping_entries name.text counts.mappings o)) (sym is.1)
      (mapping_here place name.text cs counts.mappings s is.2 db dr
      (ds ∙ ap (λ o. db ++ (directions_if setting place name.text cs o ++ dr)) is.1) dc)
  definition_in d counts fb fr db dr rb rr fs fc ds dc rs rc is typed = tt

  -- how many there are behind it

  functions_counted : (d : Def) (counts : Counts) (fb : List CoreFunction) → length fb ≡ counts.functions → DefinitionKnown tabled text within d
      → length (fb ++ functions_by d) ≡ (counts_with counts d).functions
  functions_counted (D.Function place extent name clauses) counts fb h is =
      ap (λ o. length (fb ++ functions_if tabled text within place name.text clauses o (cycle name.text))) is.1
      ∙ one_more fb (function_in tabled text (within is.0.variables) place name.text clauses is.0 (cycle name.text)) ∙ ap suc h
  functions_counted d counts fb h is = none_more fb ∙ h

  directions_counted : (d : Def) (counts : Counts) (db : List CoreDirection) → length db ≡ (2 * counts.mappings) → DefinitionKnown tabled text within d
      → length (db ++ directions_for d) ≡ (2 * (counts_with counts d).mappings)
  directions_counted (D.Mapping place name sides cs) counts db h is =
      ap (λ o. length (db ++ directions_if setting place name.text cs o)) is.1
      ∙ two_more db (forwards_core setting place (mapping_of name.text 0 is.0) cs) (backwards_core setting place (mapping_of name.text 0 is.0) cs)
      ∙ next_pair (length db) counts.mappings h
  directions_counted d counts db h is = none_more db ∙ h

  registers_counted : (d : Def) (counts : Counts) (rb : List Shape) → length rb ≡ counts.registers → IsTyped d
      → length (rb ++ registers_by d) ≡ (counts_with counts d).registers
  registers_counted (D.Register place name typ initial) counts rb h typed =
      ap (λ o. length (rb ++ shapes_of (register_if name.text o))) typed.0.1 ∙ one_more rb (shape typed.0.0) ∙ ap suc h
  registers_counted d counts rb h typed = none_more rb ∙ h

  first_typed : (d : Def) (more : List Def) → RegistersTyped tabled (d ∷ more) → IsTyped d × RegistersTyped tabled more
  first_typed (D.Register place name typ initial) more h = ((h.0, tt), h.1)
  first_typed d more h = (tt, h)

  shapes_joined : (more : List Def) (d : Def)
      → shapes_of (register_of setting d ++ joined (map (register_of setting) more)) ≡ (registers_by d ++ shapes_of (joined (map (register_of setting) more)))
  shapes_joined more d = mapped_join (λ (r : Register). shape r.typ) (register_of setting d) (joined (map (register_of setting) more))

  definitions_in : (more : List Def) (counts : Counts) (fb : List CoreFunction) (db : List CoreDirection) (rb : List Shape)
      → core.functions ≡ (fb ++ joined (map functions_by more)) → length fb ≡ counts.functions
      → core.directions ≡ (db ++ joined (map directions_for more)) → length db ≡ (2 * counts.mappings)
      → core.registers ≡ (rb ++ shapes_of (joined (map (register_of setting) more))) → length rb ≡ counts.registers
      → EachKnown tabled text within more → RegistersTyped tabled more → EntriesIn core (entries_from tabled counts more)
  definitions_in [] counts fb db rb fs fc ds dc rs rc each typed = tt
  definitions_in (d ∷ more) counts fb db rb fs fc ds dc rs rc each typed =
      let later : List Shape = shapes_of (joined (map (register_of setting) more)) in
      let rs2 : core.registers ≡ (rb ++ (registers_by d ++ later)) = rs ∙ ap (λ x. rb ++ x) (shapes_joined more d) in
      let t = first_typed d more typed in
      entries_join core (def_entries tabled counts d) (entries_from tabled (counts_with counts d) more)
      (definition_in d counts fb (joined (map functions_by more)) db (joined (map directions_for more)) rb later fs fc ds dc rs2 rc each.0 t.0)
      (definitions_in more (counts_with counts d) (fb ++ functions_by d) (db ++ directions_for d) (rb ++ registers_by d)
      (fs ∙ join_again fb (functions_by d) (joined (map functions_by more))) (functions_counted d counts fb fc each.0)
      (ds ∙ join_again db (directions_for d) (joined (map directions_for more))) (directions_counted d counts db dc each.0)
      (rs2 ∙ join_again rb (registers_by d) later) (registers_counted d counts rb rc t.0) each.1 t.1)

  -- what each definition makes of its names is in the core
  pub all_in : DefinitionsKnown tabled text within → RegistersTyped tabled text → (name : List ℕ) → MaybeIn core (own_in tabled text name)
  all_in known typed name =
      entry_in core (entries tabled text)
      (entries_join core (Shapes.union_entries tabled 1 (Some 0)) (entries_from tabled no_counts text) (union_in 1 (Some 0) known.0)
      (definitions_in text no_counts [] [] [] refl refl refl (none_twice 0) refl refl known.1 typed)) name
    where
      none_twice : (n : ℕ) → 0 ≡ (2 * 0)
      none_twice n = omega arith
