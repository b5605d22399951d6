-- Each definition gives its names the same meaning on both sides; functions and directions of the core go by their numbers.
use Rattle.std.proofs.Common.{◌≡◌, ℕ, zero, suc, ◌+◌, ◌*◌, List, [], ◌∷◌, ◌++◌, length, map, ap, sym, ◌∙◌, refl, subst, Bool, true, Option, Some, None}
use Rattle.std.proofs.Common.{nat_lt, arith}
use Rattle.std.specs.Prelude.{codes, slice_get}
use Rattle.sail_base.specs.declared.place.Place.{Place}
use Rattle.sail_syntax.specs.declared.definitions.Def.{Def}
use Rattle.sail_syntax.specs.declared.definitions.Def.TheVariants as D
use Rattle.sail_syntax.specs.declared.definitions.FunctionClause.{FunctionClause}
use Rattle.sail_syntax.specs.declared.definitions.MappingClause.{MappingClause}
use Rattle.sail_types.specs.Named.{constructors, members, payload, typ_of}
use Rattle.sail_types.specs.Shapes.{shape}
use Rattle.sail_types.specs.declared.shapes.Shape.TheFolds.{fold-roll-Shape}
use Rattle.sail_types.specs.declared.shapes.Shape.TheOpen as S
use Rattle.sail_types.specs.declared.shapes.Shape.TheVariants as V
use Rattle.sail_types.specs.declared.table.Field.{Field}
use Rattle.sail_types.specs.declared.types.Typ.{Typ}
use Rattle.sail_types.specs.declared.values.Value.{Value}
use Rattle.sail_kinds.specs.declared.scope.Variable.{Variable}
use Rattle.sail_signatures.specs.declared.signature.Signature.{Signature}
use Rattle.sail_core.specs.declared.model.Direction.{Direction as CoreDirection}
use Rattle.sail_core.specs.declared.model.Function.{Function as CoreFunction}
use Rattle.sail_meaning.specs.Text.{Direction, direction, function}
use Rattle.sail_meaning.specs.World.{Bindings}
use Rattle.shape_joins.proofs.Order.{two}
use Rattle.shape_rules.specs.declared.locals.Local.{Local}
use Rattle.shape_rules.specs.Patterns.{opposite}
use Rattle.shape_rules.specs.Scopes.{Setting}
use Rattle.shape_rules.specs.Written.{joined}
use Rattle.shape_models.specs.declared.entries.Counts.{Counts}
use Rattle.shape_models.specs.Models as Shapes
use Rattle.shape_models.specs.Models.{Tabled, counts_with, def_entries, directions_give, entries, entries_from, function_candidate}
use Rattle.shape_models.specs.Models.{gives_by, mapping_of, no_counts, params_variables, place_in_table, setting_of, type_variables}
use Rattle.shape_clauses.specs.Functions.{function_in, functions_if, functions_of}
use Rattle.shape_clauses.specs.Mappings.{backwards_core, directions_if, directions_of, forwards_core}
use Rattle.shape_meanings.specs.Whole.{all_below, below, below_form, closed}
use Rattle.shape_meanings.specs.Worlds.{variables_from}
use Rattle.shape_meanings.specs.Models.{DirectionIs}
use Rattle.body_meanings.specs.Directions.{backwards, forwards}
use Rattle.shapes.specs.Failures.{own_in}
use Rattle.model_meanings.specs.Callees.{CandidateStands, DirectionStands, Model}
use Rattle.known_texts.specs.Definitions.{ConstructorsAre, DefinitionIs, DefinitionsAre, EachIs, FunctionOf, MappingOf, UnionIs}
use Rattle.known_texts.specs.TextLaws.{model_in}
use Rattle.known_texts.specs.Texts as Text
use Rattle.known_texts.specs.Texts.{all_named, def_named, directions_by, directions_count}
use Rattle.known_texts.proofs.BuiltinNames.{one_more, there_behind}
use Rattle.known_texts.proofs.NamesInOrder.{EntriesStand, PairStands, entries_join}

-- ---- lists

join_again : {A : Type 0} (xs ys zs : List A) → (xs ++ (ys ++ zs)) ≡ ((xs ++ ys) ++ zs)
join_again [] ys zs = refl
join_again (x ∷ xs) ys zs = ap (λ us. x ∷ us) (join_again xs ys zs)

none_more : {A : Type 0} (xs : List A) → length (xs ++ []) ≡ length xs
none_more [] = refl
none_more (x ∷ xs) = ap suc (none_more xs)

two_more : {A : Type 0} (xs : List A) (x y : A) → length (xs ++ x ∷ y ∷ []) ≡ suc (suc (length xs))
two_more [] x y = refl
two_more (z ∷ xs) x y = ap suc (two_more xs x y)

second_behind : {A : Type 0} (before : List A) (x y : A) (more : List A) → slice_get (before ++ x ∷ y ∷ more) (suc (length before)) ≡ Some y
second_behind [] x y more = refl
second_behind (z ∷ before) x y more = second_behind before x y more

next_pair : (k n : ℕ) → k ≡ (2 * n) → suc (suc k) ≡ (2 * suc n)
next_pair k n h = omega (arith, h)

-- ---- shapes of unions

same_variables : (i n : ℕ) → Shapes.variables_from i n ≡ variables_from i n
same_variables i zero = refl
same_variables i (suc n) = ap (λ ss. V.Variable i ∷ ss) (same_variables (suc i) n)

variable_below : (n i : ℕ) → nat_lt i n ≡ true → below n (V.Variable i) ≡ true
variable_below n i h = ap (below n) (sym (V.rolls-Variable i)) ∙ fold-roll-Shape Bool (below_form n) (S.Variable i) ∙ h

pub variables_below : (i n k : ℕ) → (i + n) ≡ k → all_below k (Shapes.variables_from i n) ≡ true
variables_below i zero k is = refl
variables_below i (suc n) k is =
    two (below k (V.Variable i)) (all_below k (Shapes.variables_from (suc i) n)) (variable_below k i (less i n k is))
    (variables_below (suc i) n k (moved i n k is))
  where
    less : (i n k : ℕ) → (i + suc n) ≡ k → nat_lt i k ≡ true
    less i n k is = grind (arith, is)

    moved : (i n k : ℕ) → (i + suc n) ≡ k → (suc i + n) ≡ k
    moved i n k is = omega (arith, is)

pub union_below : (u n : ℕ) → below n (V.Named u (Shapes.variables_from 0 n)) ≡ true
union_below u n =
    ap (below n) (sym (V.rolls-Named u (Shapes.variables_from 0 n)))
    ∙ fold-roll-Shape Bool (below_form n) (S.Named u (Shapes.variables_from 0 n)) ∙ variables_below 0 n n (nothing_and n)
  where
    nothing_and : (n : ℕ) → (0 + n) ≡ n
    nothing_and n = omega arith

-- ---- directions by their numbers

opposite_even : (n : ℕ) → opposite (2 * n) ≡ suc (2 * n)
opposite_even zero = refl
opposite_even (suc n) =
    ap opposite (sym (next_pair (2 * n) n refl)) ∙ ap (λ k. suc (suc k)) (opposite_even n) ∙ ap suc (next_pair (2 * n) n refl)

opposite_odd : (n : ℕ) → opposite (suc (2 * n)) ≡ (2 * n)
opposite_odd zero = refl
opposite_odd (suc n) =
    ap (λ k. opposite (suc k)) (sym (next_pair (2 * n) n refl)) ∙ ap (λ k. suc (suc k)) (opposite_odd n) ∙ next_pair (2 * n) n refl

module _ (tabled : Tabled) (cycle : List ℕ → Option ℕ) (text : List Def) (lets : List Local) (hart : ℕ) (values : List Value) (bindings : Bindings) where
  abbrev within : List Variable → Setting
  within = setting_of tabled (own_in tabled text) text lets

  abbrev setting : Setting
  setting = within []

  abbrev m : Model
  m = model_in tabled cycle text lets hart values bindings

  -- ---- unions and enums

  constructors_stand : (u count k : ℕ) (before fs : List Field) → constructors tabled.types u ≡ (before ++ fs) → length before ≡ k
      → ConstructorsAre tabled.types u count k fs
      → EntriesStand setting m (Shapes.constructors_from u count k fs) (Text.constructors_named u k fs)
  constructors_stand u count k before [] all many are = tt
  constructors_stand u count k before (f ∷ fs) all many are =
      let there : payload tabled.types u k ≡ Some f.typ =
      (λ j. typ_of (slice_get (all j) (sym many j))) ∙ ap typ_of (there_behind before f fs) in (
        refl,
        (
          record {
            params = refl;
            whole = are.1;
            answer = union_below u count;
            does = (
              refl,
              record { typ = f.typ; there = there; several = are.2; params = refl; answer = ap (V.Named u) (same_variables 0 count) },
            );
          },
          are.0,
        ),
        constructors_stand u count (suc k) (before ++ f ∷ []) fs (all ∙ join_again before (f ∷ []) fs) (one_more before f ∙ ap suc many) are.3,
      )

  union_stands : (count : ℕ) (o : Option ℕ) → UnionIs tabled.types count o
      → EntriesStand setting m (Shapes.union_entries tabled count o) (Text.union_named tabled.types o)
  union_stands count None are = tt
  union_stands count (Some u) are = constructors_stand u count 0 [] (constructors tabled.types u) refl refl are

  members_stand : (i k : ℕ) (names : List (List ℕ))
      → EntriesStand setting m (Shapes.members_from i k names) (map (λ name. Text.named name None) names)
  members_stand i k [] = tt
  members_stand i k (name ∷ names) = (refl, tt, members_stand i (suc k) names)

  enum_stands : (o : Option ℕ) → EntriesStand setting m (Shapes.enum_entries tabled o) (Text.enum_named tabled.types o)
  enum_stands None = tt
  enum_stands (Some i) = members_stand i 0 (members tabled.types i)

  -- ---- functions

  function_stands : (place : Place) (name : List ℕ) (clauses : List FunctionClause) (n : ℕ) (s : Signature)
      → FunctionOf tabled text within place name clauses s (cycle name)
      → slice_get m.functions n ≡ Some (function_in tabled text (within s.variables) place name clauses s (cycle name))
      → CandidateStands setting m (function_candidate name n s) (function (Text.function_of tabled text place name clauses s (cycle name)))
  function_stands place name clauses n s of there = record {
    params = refl;
    whole = of.whole;
    answer = of.answer;
    does = record {
      core = function_in tabled text (within s.variables) place name clauses s (cycle name);
      text = Text.function_of tabled text place name clauses s (cycle name);
      calls = refl;
      there = there;
      is = of.is;
    };
  }

  -- ---- directions

  direction_stands : (d : ℕ) (core : CoreDirection) (it : Direction) → closed (shape it.takes) ≡ true → closed (shape it.gives) ≡ true
      → slice_get m.directions d ≡ Some core → setting.given_by d ≡ Some it.gives → setting.given_by (opposite d) ≡ Some it.takes
      → DirectionIs setting core.body it → DirectionStands setting m it d
  direction_stands d core it takes gives there given taken is = record {
    core = core;
    there = there;
    known = record { takes = takes; gives = gives; given = given; taken = taken };
    is = is;
  }

  converts_stand : (name : List ℕ) (d : ℕ) (it : Direction) → DirectionStands setting m it d
      → CandidateStands setting m (Shapes.direction_candidate name d it.takes it.gives) (direction it)
  converts_stand name d it st = record {
    params = refl;
    whole = two (closed (shape it.takes)) true st.known.takes refl;
    answer = st.known.gives;
    does = (it, refl, refl, st);
  }

  -- the two directions of a mapping, behind so many
  mapping_stands : (place : Place) (name : List ℕ) (cs : List MappingClause) (n : ℕ) (s : Signature) → MappingOf tabled.types setting place name cs s
      → (db dr : List CoreDirection) (gb gr : List Typ)
      → m.directions ≡ (db ++ (directions_if setting place name cs (Some s) ++ dr)) → length db ≡ (2 * n)
      → directions_give tabled text ≡ (gb ++ (s.to ∷ s.from ∷ gr)) → length gb ≡ (2 * n)
      → EntriesStand setting m (Shapes.mapping_entries name n (Some s)) (Text.mapping_named name cs (Some s))
  mapping_stands place name cs n s of db dr gb gr directions many gives count = (
    refl,
    (converts_stand (name ++ codes "_forwards") (2 * n) ahead_it ahead, of.no_forwards),
    (refl, (converts_stand (name ++ codes "_backwards") (suc (2 * n)) back_it back, of.no_backwards), (refl, pair, tt)),
  )
    where
      ahead_it : Direction
      ahead_it = forwards (mapping_of name 0 s) cs

      back_it : Direction
      back_it = backwards (mapping_of name 0 s) cs

      ahead_core : CoreDirection
      ahead_core = forwards_core setting place (mapping_of name 0 s) cs

      back_core : CoreDirection
      back_core = backwards_core setting place (mapping_of name 0 s) cs

      first_given : setting.given_by (2 * n) ≡ Some s.to
      first_given = (λ j. slice_get (gives j) (sym count j)) ∙ there_behind gb s.to (s.from ∷ gr)

      second_given : setting.given_by (suc (2 * n)) ≡ Some s.from
      second_given = (λ j. slice_get (gives j) (suc (sym count j))) ∙ second_behind gb s.to s.from gr

      ahead : DirectionStands setting m ahead_it (2 * n)
      ahead =
          direction_stands (2 * n) ahead_core ahead_it of.left of.right
          ((λ j. slice_get (directions j) (sym many j)) ∙ there_behind db ahead_core (back_core ∷ dr)) first_given
          (ap setting.given_by (opposite_even n) ∙ second_given) of.ahead

      back : DirectionStands setting m back_it (suc (2 * n))
      back =
          direction_stands (suc (2 * n)) back_core back_it of.right of.left
          ((λ j. slice_get (directions j) (suc (sym many j))) ∙ second_behind db ahead_core back_core dr) second_given
          (ap setting.given_by (opposite_odd n) ∙ first_given) of.back

      pair : PairStands setting m name (mapping_of name n s) ahead_it back_it
      pair = record { left = (refl, refl); right = (refl, refl); ahead = ahead; back = back; no_constructor = of.no_constructor }

  -- ---- one definition, behind so many functions and directions

  abbrev functions_by : Def → List CoreFunction
  functions_by d = functions_of tabled text within cycle d

  abbrev directions_for : Def → List CoreDirection
  directions_for d = directions_of tabled setting d

  definition_stands : (d : Def) (counts : Counts) (fb fr : List CoreFunction) (db dr : List CoreDirection) (gb gr : List Typ)
      → m.functions ≡ (fb ++ (functions_by d ++ fr)) → length fb ≡ counts.functions
      → m.directions ≡ (db ++ (directions_for d ++ dr)) → length db ≡ (2 * counts.mappings)
      → directions_give tabled text ≡ (gb ++ (gives_by tabled d ++ gr)) → length gb ≡ (2 * counts.mappings)
      → DefinitionIs tabled text within cycle d → EntriesStand setting m (def_entries tabled counts d) (def_named tabled cycle text d)
  definition_stands (D.Register place name typ initial) counts fb fr db dr gb gr functions fc directions dc gives gc is = (refl, tt, tt)
  definition_stands (D.Enum place name ms) counts fb fr db dr gb gr functions fc directions dc gives gc is =
      enum_stands (place_in_table tabled name.text)
  definition_stands (D.Union place name variables cs) counts fb fr db dr gb gr functions fc directions dc gives gc is =
      union_stands (type_variables (params_variables variables)) (place_in_table tabled name.text) is
  definition_stands (D.Function place extent name clauses) counts fb fr db dr gb gr functions fc directions dc gives gc is =
      let s : Signature = is.0 in
      let core : CoreFunction = function_in tabled text (within s.variables) place name.text clauses s (cycle name.text) in
      let all : m.functions ≡ (fb ++ (core ∷ fr)) =
      functions ∙ ap (λ o. fb ++ (functions_if tabled text within place name.text clauses o (cycle name.text) ++ fr)) is.1 in
      subst (λ o. EntriesStand setting m (Shapes.function_entry name.text counts.functions o) (Text.function_named tabled text place name.text clauses o
      (cycle name.text))) (sym is.1) (
        refl,
        (
          function_stands place name.text clauses counts.functions s is.2 ((λ j. slice_get (all j) (sym fc j)) ∙ there_behind fb core fr),
          is.2.no_constructor,
        ),
        tt,
      )
  definition_stands (D.Mapping place name sides cs) counts fb fr db dr gb gr functions fc directions dc gives gc is =
      let s : Signature = is.0 in
      subst (λ o. EntriesStand setting m (Shapes.mapping_entries name.text counts.mappings o) (Text.mapping_named name.text cs o)) (sym is.1)
      (mapping_stands place name.text cs counts.mappings s is.2 db dr gb gr
      (directions ∙ ap (λ o. db ++ (directions_if setting place name.text cs o ++ dr)) is.1) dc
      (gives ∙ ap (λ o. gb ++ (Shapes.gives_of o ++ gr)) is.1) gc)
  definition_stands d counts fb fr db dr gb gr functions fc directions dc gives gc is = tt

  -- how many there are behind it
  functions_counted : (d : Def) (counts : Counts) (fb : List CoreFunction) → length fb ≡ counts.functions → DefinitionIs tabled text within cycle d
      → length (fb ++ functions_by d) ≡ (counts_with counts d).functions
  functions_counted (D.Function place extent name clauses) counts fb h is =
      ap (λ o. length (fb ++ functions_if tabled text within place name.text clauses o (cycle name.text))) is.1
      ∙ one_more fb (function_in tabled text (within is.0.variables) place name.text clauses is.0 (cycle name.text)) ∙ ap suc h
  functions_counted d counts fb h is = none_more fb ∙ h

  directions_counted : (d : Def) (counts : Counts) (db : List CoreDirection) → length db ≡ (2 * counts.mappings) → DefinitionIs tabled text within cycle d
      → length (db ++ directions_for d) ≡ (2 * (counts_with counts d).mappings)
  directions_counted (D.Mapping place name sides cs) counts db h is =
      ap (λ o. length (db ++ directions_if setting place name.text cs o)) is.1
      ∙ two_more db (forwards_core setting place (mapping_of name.text 0 is.0) cs) (backwards_core setting place (mapping_of name.text 0 is.0) cs)
      ∙ next_pair (length db) counts.mappings h
  directions_counted d counts db h is = none_more db ∙ h

  gives_counted : (d : Def) (counts : Counts) (gb : List Typ) → length gb ≡ (2 * counts.mappings) → DefinitionIs tabled text within cycle d
      → length (gb ++ gives_by tabled d) ≡ (2 * (counts_with counts d).mappings)
  gives_counted (D.Mapping place name sides cs) counts gb h is =
      ap (λ o. length (gb ++ Shapes.gives_of o)) is.1 ∙ two_more gb is.0.to is.0.from ∙ next_pair (length gb) counts.mappings h
  gives_counted d counts gb h is = none_more gb ∙ h

  -- ---- all definitions

  definitions_stand : (more : List Def) (counts : Counts) (fb : List CoreFunction) (db : List CoreDirection) (gb : List Typ)
      → m.functions ≡ (fb ++ joined (map functions_by more)) → length fb ≡ counts.functions
      → m.directions ≡ (db ++ joined (map directions_for more)) → length db ≡ (2 * counts.mappings)
      → directions_give tabled text ≡ (gb ++ joined (map (gives_by tabled) more)) → length gb ≡ (2 * counts.mappings)
      → EachIs tabled text within cycle more
      → EntriesStand setting m (entries_from tabled counts more) (joined (map (def_named tabled cycle text) more))
  definitions_stand [] counts fb db gb functions fc directions dc gives gc each = tt
  definitions_stand (d ∷ more) counts fb db gb functions fc directions dc gives gc each =
      entries_join setting m (def_entries tabled counts d) (entries_from tabled (counts_with counts d) more) (def_named tabled cycle text d)
      (joined (map (def_named tabled cycle text) more))
      (definition_stands d counts fb (joined (map functions_by more)) db (joined (map directions_for more)) gb (joined (map (gives_by tabled) more))
      functions fc directions dc gives gc each.0)
      (definitions_stand more (counts_with counts d) (fb ++ functions_by d) (db ++ directions_for d) (gb ++ gives_by tabled d)
      (functions ∙ join_again fb (functions_by d) (joined (map functions_by more))) (functions_counted d counts fb fc each.0)
      (directions ∙ join_again db (directions_for d) (joined (map directions_for more))) (directions_counted d counts db dc each.0)
      (gives ∙ join_again gb (gives_by tabled d) (joined (map (gives_by tabled) more))) (gives_counted d counts gb gc each.0) each.1)

  pub all_stand : DefinitionsAre tabled text within cycle → EntriesStand setting m (entries tabled text) (all_named tabled cycle text)
  all_stand are =
      entries_join setting m (Shapes.union_entries tabled 1 (Some 0)) (entries_from tabled no_counts text) (Text.union_named tabled.types (Some 0))
      (joined (map (def_named tabled cycle text) text)) (union_stands 1 (Some 0) are.0)
      (definitions_stand text no_counts [] [] [] refl refl refl (none_twice 0) refl (none_twice 0) are.1)
    where
      none_twice : (n : ℕ) → 0 ≡ (2 * 0)
      none_twice n = omega arith

  -- the text has as many directions
  counted_step : (d : Def) (n : ℕ) (later : List CoreDirection) → DefinitionIs tabled text within cycle d → n ≡ length later
      → (directions_by d + n) ≡ length (directions_for d ++ later)
  counted_step (D.Mapping place name sides cs) n later is h =
      twice n (length later) h ∙ ap (λ o. length (directions_if setting place name.text cs o ++ later)) (sym is.1)
    where
      twice : (n k : ℕ) → n ≡ k → (2 + n) ≡ suc (suc k)
      twice n k h = omega (arith, h)
  counted_step d n later is h = nothing n (length later) h
    where
      nothing : (n k : ℕ) → n ≡ k → (0 + n) ≡ k
      nothing n k h = omega (arith, h)

  counted_from : (more : List Def) → EachIs tabled text within cycle more → directions_count more ≡ length (joined (map directions_for more))
  counted_from [] each = refl
  counted_from (d ∷ more) each =
      counted_step d (directions_count more) (joined (map directions_for more)) each.0 (counted_from more each.1)

  pub directions_are_counted : DefinitionsAre tabled text within cycle → directions_count text ≡ length m.directions
  directions_are_counted are = counted_from text are.1
