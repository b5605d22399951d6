-- What each name of a text means is in its core, among the names of lets, builtins and overloads too.
use Rattle.std.proofs.Common.{◌≡◌, ℕ, suc, List, [], ◌∷◌, ◌++◌, length, map, ap, sym, ◌∙◌, refl, Bool, true, false, Option, Some, None}
use Rattle.std.proofs.Common.{if◌then◌else◌}
use Rattle.std.specs.Prelude.{slice_get}
use Rattle.std.specs.Option.{option_or}
use Rattle.std.specs.Str.{bytes_eq}
use Rattle.sail_base.specs.declared.operators.Operator.{Operator}
use Rattle.sail_base.specs.declared.place.Place.{Place}
use Rattle.sail_syntax.specs.declared.name.Name.{Name}
use Rattle.sail_syntax.specs.declared.definitions.Def.{Def}
use Rattle.sail_syntax.specs.declared.definitions.Def.TheVariants as D
use Rattle.sail_syntax.specs.declared.definitions.Overloaded.TheVariants as Over
use Rattle.sail_types.specs.Rows.{row_named}
use Rattle.sail_types.specs.declared.rows.Row.{Row}
use Rattle.shape_rules.specs.declared.callees.Candidate.{Candidate}
use Rattle.shape_rules.specs.declared.callees.Meant.{Meant}
use Rattle.shape_rules.specs.declared.callees.Meant.TheVariants as M
use Rattle.shape_rules.specs.declared.locals.Local.{Local}
use Rattle.shape_rules.specs.Written.{joined}
use Rattle.shape_models.specs.declared.clashes.Added.{Added}
use Rattle.shape_models.specs.Models.{Own, added_to_name, added_to_operator, adds_to_name, adds_to_operator, callee_in, candidates, candidates_of}
use Rattle.shape_models.specs.Models.{let_in, member_of, members_at, or_overload, or_row, row_candidates, same_operator, value_of}
use Rattle.shape_models.specs.Overloads.{placed}
use Rattle.known_texts.proofs.BuiltinNames.{one_behind, one_more, there_behind}
use Rattle.text_progress.specs.Entries.{AllIn, CandidateIn, MaybeIn, MeantIn, Parts, ValueIn}
use Rattle.text_progress.proofs.Rows.{row_in}

-- ---- lets

abbrev LetIn : List Local → Option Meant → Type 0
LetIn lets None = Unit {0}
LetIn lets (Some (M.Let i s)) = (l : Local) × (slice_get lets i ≡ Some l) × (l.shape ≡ s)
LetIn lets (Some meant) = ⊥

let_among : (all before ls : List Local) (i : ℕ) (name : List ℕ) → all ≡ (before ++ ls) → length before ≡ i → LetIn all (let_in i ls name)
let_among all before [] i name is many = tt
let_among all before (l ∷ ls) i name is many =
    by (bytes_eq l.name name)
    (let_among all (before ++ l ∷ []) ls (suc i) name (is ∙ one_behind before l ls) (one_more before l ∙ ap suc many))
  where
    by : (b : Bool) → LetIn all (let_in (suc i) ls name) → LetIn all (if b then Some (M.Let i l.shape) else let_in (suc i) ls name)
    by true later = (l, (λ j. slice_get (is j) (sym many j)) ∙ there_behind before l ls, refl)
    by false later = later

-- ---- overloads

abbrev AddedIn : Parts → List Added → Type 0
AddedIn core [] = Unit {0}
AddedIn core (x ∷ xs) = CandidateIn core x.member × AddedIn core xs

added_join : (core : Parts) (xs ys : List Added) → AddedIn core xs → AddedIn core ys → AddedIn core (xs ++ ys)
added_join core [] ys h k = k
added_join core (x ∷ xs) ys h k = (h.0, added_join core xs ys h.1 k)

candidates_in : (core : Parts) (xs : List Added) → AddedIn core xs → AllIn core (candidates xs)
candidates_in core [] h = tt
candidates_in core (x ∷ xs) h = (h.0, candidates_in core xs h.1)

placed_in : (core : Parts) (place : Option Place) (fs : List Candidate) → AllIn core fs → AddedIn core (map (placed place) fs)
placed_in core place [] h = tt
placed_in core place (f ∷ fs) h = (h.0, placed_in core place fs h.1)

rows_or : (core : Parts) (row : Option Row) → AllIn core (row_candidates core.types row)
rows_or core None = tt
rows_or core (Some row) = row_in core row

candidates_of_in : (core : Parts) (o : Option Meant) (row : Option Row) → MaybeIn core o → AllIn core (candidates_of core.types (callee_in o) row)
candidates_of_in core (Some (M.Callee f)) row h = (h, tt)
candidates_of_in core (Some (M.Row r)) row h = rows_or core row
candidates_of_in core (Some (M.Overload fs)) row h = rows_or core row
candidates_of_in core (Some (M.Mapping m)) row h = rows_or core row
candidates_of_in core (Some (M.Register r s)) row h = rows_or core row
candidates_of_in core (Some (M.Let i s)) row h = rows_or core row
candidates_of_in core (Some (M.Member i k)) row h = rows_or core row
candidates_of_in core None row h = rows_or core row

module _ (core : Parts) (own : Own) (each : (name : List ℕ) → MaybeIn core (own name)) where
  members_in : (place : Place) (names : List Name) → AddedIn core (members_at core.types own place names)
  members_in place [] = tt
  members_in place (name ∷ names) =
      added_join core (map (placed (Some place)) (member_of core.types own name)) (members_at core.types own place names)
      (placed_in core (Some place) (member_of core.types own name) (candidates_of_in core (own name.text) (row_named name.text) (each name.text)))
      (members_in place names)

  if_in : (b : Bool) (xs : List Added) → AddedIn core xs → AddedIn core (if b then xs else [])
  if_in true xs h = h
  if_in false xs h = tt

  name_adds : (name : List ℕ) (d : Def) → AddedIn core (adds_to_name core.types own name d)
  name_adds name (D.Overload place (Over.Named it) names) =
      if_in (bytes_eq it.text name) (members_at core.types own place names) (members_in place names)
  name_adds name (D.Overload place (Over.Operator at it) names) = tt
  name_adds name d = tt

  operator_adds : (operator : Operator) (d : Def) → AddedIn core (adds_to_operator core.types own operator d)
  operator_adds operator (D.Overload place (Over.Operator at it) names) =
      if_in (same_operator it operator) (members_at core.types own place names) (members_in place names)
  operator_adds operator (D.Overload place (Over.Named it) names) = tt
  operator_adds operator d = tt

  all_added : (f : Def → List Added) (text : List Def) → ((d : Def) → AddedIn core (f d)) → AddedIn core (joined (map f text))
  all_added f [] h = tt
  all_added f (d ∷ text) h = added_join core (f d) (joined (map f text)) (h d) (all_added f text h)

  pub operator_in : (text : List Def) (operator : Operator) → AllIn core (candidates (added_to_operator core.types own text operator))
  operator_in text operator =
      candidates_in core (added_to_operator core.types own text operator)
      (all_added (adds_to_operator core.types own operator) text (operator_adds operator))

  overload_in : (text : List Def) (name : List ℕ) → AllIn core (candidates (added_to_name core.types own text name))
  overload_in text name =
      candidates_in core (added_to_name core.types own text name) (all_added (adds_to_name core.types own name) text (name_adds name))

  -- ---- names

  meant_value : (lets : List Local) (m : Meant) → MeantIn core m → ValueIn core lets (Some m)
  meant_value lets (M.Callee f) h = h
  meant_value lets (M.Mapping m) h = h
  meant_value lets (M.Register r s) h = h
  meant_value lets (M.Member i k) h = h
  meant_value lets m h = absurd h

  let_value : (lets : List Local) (m : Meant) → LetIn lets (Some m) → ValueIn core lets (Some m)
  let_value lets (M.Let i s) h = h
  let_value lets m h = absurd h

  over_value : (lets : List Local) (fs : List Candidate) → AllIn core fs → ValueIn core lets (or_overload None fs)
  over_value lets [] h = tt
  over_value lets (f ∷ fs) h = h

  together : (lets : List Local) (o l : Option Meant) (row : Option Row) (fs : List Candidate) → MaybeIn core o → LetIn lets l → AllIn core fs
      → ValueIn core lets (or_overload (or_row (option_or o l) row) fs)
  together lets (Some m) l row fs h k a = meant_value lets m h
  together lets None (Some m) row fs h k a = let_value lets m k
  together lets None None (Some row) fs h k a = row_in core row
  together lets None None None fs h k a = over_value lets fs a

  pub value_in : (text : List Def) (lets : List Local) (name : List ℕ) → ValueIn core lets (value_of core.types own text lets name)
  value_in text lets name =
      together lets (own name) (let_in 0 lets name) (row_named name) (candidates (added_to_name core.types own text name)) (each name)
      (let_among lets [] lets 0 name refl refl) (overload_in text name)
