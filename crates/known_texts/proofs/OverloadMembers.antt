-- Members of overloads of names and of operators: those of shapes are those of the text.
use Rattle.std.proofs.Common.{ℕ, List, [], ◌∷◌, ◌++◌, map, Bool, true, false, Option, Some, None}
use Rattle.std.proofs.Common.{if◌then◌else◌}
use Rattle.std.specs.Str.{bytes_eq}
use Rattle.sail_base.specs.declared.operators.Operator.{Operator}
use Rattle.sail_base.specs.declared.place.Place.{Place}
use Rattle.sail_syntax.specs.declared.name.Name.{Name}
use Rattle.sail_syntax.specs.declared.definitions.Def.{Def}
use Rattle.sail_syntax.specs.declared.definitions.Def.TheVariants as D
use Rattle.sail_syntax.specs.declared.definitions.Overloaded.TheVariants as Over
use Rattle.sail_types.specs.Rows.{row_named}
use Rattle.sail_types.specs.declared.rows.Row.{Row}
use Rattle.sail_meaning.specs.Text.{Called, Callee, alone, mapping}
use Rattle.shape_rules.specs.declared.callees.Candidate.{Candidate}
use Rattle.shape_rules.specs.declared.callees.Meant.{Meant}
use Rattle.shape_rules.specs.declared.callees.Meant.TheVariants as M
use Rattle.shape_rules.specs.Scopes.{Setting}
use Rattle.shape_rules.specs.Written.{joined}
use Rattle.shape_models.specs.declared.clashes.Added.{Added}
use Rattle.shape_models.specs.Models as Shapes
use Rattle.shape_models.specs.Models.{Own, candidates, candidates_of, member_of, members_at, same_operator}
use Rattle.shape_models.specs.Overloads.{placed}
use Rattle.model_meanings.specs.Callees.{CandidatesStand, Model}
use Rattle.known_texts.specs.Texts as Text
use Rattle.known_texts.specs.Texts.{callees_of, members_named}
use Rattle.known_texts.proofs.BuiltinNames.{rows_stand}
use Rattle.known_texts.proofs.NamesInOrder.{OwnStands}

module _ (setting : Setting) (m : Model) (own : Own) (called : List ℕ → Option Called)
    (owns : (name : List ℕ) → OwnStands setting m name (own name) (called name)) where
  -- added members, as candidates
  abbrev pub Stand : List Added → List Callee → Type 0
  Stand added callees = CandidatesStand setting m (candidates added) callees

  all_placed : (place : Option Place) (fs : List Candidate) (cs : List Callee) → CandidatesStand setting m fs cs → Stand (map (placed place) fs) cs
  all_placed place [] [] st = tt
  all_placed place [] (c ∷ cs) st = absurd st
  all_placed place (f ∷ fs) [] st = absurd st
  all_placed place (f ∷ fs) (c ∷ cs) st = (st.0, all_placed place fs cs st.1)

  join : (xs ys : List Added) (cs ds : List Callee) → Stand xs cs → Stand ys ds → Stand (xs ++ ys) (cs ++ ds)
  join [] ys [] ds a b = b
  join [] ys (c ∷ cs) ds a b = absurd a
  join (x ∷ xs) ys [] ds a b = absurd a
  join (x ∷ xs) ys (c ∷ cs) ds a b = (a.0, join xs ys cs ds a.1 b)

  -- a member is a callee, or the members of a builtin
  by_meaning : (name : List ℕ) (o : Option Meant) (c : Option Called) (row : Option Row) → OwnStands setting m name o c
      → CandidatesStand setting m (candidates_of setting.types (Shapes.callee_in o) row) (callees_of setting.types (Text.callee_in c) row)
  by_meaning name (Some (M.Callee f)) (Some (alone callee)) row st = (st.0, tt)
  by_meaning name (Some (M.Mapping it)) (Some (mapping a b)) row st = rows_stand setting m row
  by_meaning name (Some (M.Register r s)) None row st = rows_stand setting m row
  by_meaning name (Some (M.Member i k)) None row st = rows_stand setting m row
  by_meaning name (Some meant) c row st = absurd st
  by_meaning name None None row st = rows_stand setting m row
  by_meaning name None (Some c) row st = absurd st

  pub members_stand : (place : Place) (names : List Name) → Stand (members_at setting.types own place names) (members_named setting.types called names)
  members_stand place [] = tt
  members_stand place (n ∷ names) =
      join (map (placed (Some place)) (member_of setting.types own n)) (members_at setting.types own place names)
      (callees_of setting.types (Text.callee_in (called n.text)) (row_named n.text)) (members_named setting.types called names)
      (all_placed (Some place) (member_of setting.types own n) (callees_of setting.types (Text.callee_in (called n.text)) (row_named n.text))
      (by_meaning n.text (own n.text) (called n.text) (row_named n.text) (owns n.text))) (members_stand place names)

  by_if : (b : Bool) (xs : List Added) (cs : List Callee) → Stand xs cs → Stand (if b then xs else []) (if b then cs else [])
  by_if true xs cs st = st
  by_if false xs cs st = tt

  -- what a definition adds to a name, and to an operator
  name_by : (name : List ℕ) (d : Def) → Stand (Shapes.adds_to_name setting.types own name d) (Text.adds_to_name setting.types called name d)
  name_by name (D.Overload place (Over.Named it) names) =
      by_if (bytes_eq it.text name) (members_at setting.types own place names) (members_named setting.types called names) (members_stand place names)
  name_by name d = tt

  operator_by : (operator : Operator) (d : Def)
      → Stand (Shapes.adds_to_operator setting.types own operator d) (Text.adds_to_operator setting.types called operator d)
  operator_by operator (D.Overload place (Over.Operator at it) names) =
      by_if (same_operator it operator) (members_at setting.types own place names) (members_named setting.types called names) (members_stand place names)
  operator_by operator d = tt

  pub name_stands : (text : List Def) (name : List ℕ)
      → Stand (Shapes.added_to_name setting.types own text name) (joined (map (Text.adds_to_name setting.types called name) text))
  name_stands [] name = tt
  name_stands (d ∷ text) name =
      join (Shapes.adds_to_name setting.types own name d) (Shapes.added_to_name setting.types own text name)
      (Text.adds_to_name setting.types called name d) (joined (map (Text.adds_to_name setting.types called name) text)) (name_by name d)
      (name_stands text name)

  pub operator_stands : (text : List Def) (operator : Operator)
      → Stand (Shapes.added_to_operator setting.types own text operator) (joined (map (Text.adds_to_operator setting.types called operator) text))
  operator_stands [] operator = tt
  operator_stands (d ∷ text) operator =
      join (Shapes.adds_to_operator setting.types own operator d) (Shapes.added_to_operator setting.types own text operator)
      (Text.adds_to_operator setting.types called operator d) (joined (map (Text.adds_to_operator setting.types called operator) text))
      (operator_by operator d) (operator_stands text operator)
