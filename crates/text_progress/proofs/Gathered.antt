-- Gathered definitions are as the grammar has them, where those are that they are gathered of.
use Rattle.std.proofs.Common.{◌≡◌, ℕ, ◌+◌, Bool, true, false, cond, List, [], ◌∷◌, map, filter, filter_map, refl, Option}
use Rattle.std.specs.List.{zip}
use Rattle.sail_syntax.specs.declared.definitions.Def.{Def}
use Rattle.sail_syntax.specs.declared.definitions.Def.TheVariants as D
use Rattle.scattered.specs.Openings.{openings_of, role, stays}
use Rattle.scattered.specs.Gathered.{Part, belongs_to, constructor_of, function_clause_of, gathered, mapping_clause_of, parts, parts_of, staying}
use Rattle.scattered.specs.Gathered.{whole, whole_from}
use Rattle.shape_joins.proofs.Order.{two}
use Rattle.shape_meanings.specs.Whole.{all_of}
use Rattle.known_texts.specs.Written.{clause_types_written, clause_written}
use Rattle.text_progress.proofs.DefForms.{FineCrossings, FineDef, FineDefs, FineMembers}

-- ---- the parts of a text

abbrev FineParts : List Part → Type 0
FineParts [] = Unit {0}
FineParts (part ∷ rest) = FineDef part.0 × FineParts rest

pub zip_fine : (text : List Def) (openings : List (Option ℕ)) → FineDefs text → FineParts (zip text openings)
zip_fine [] openings f = tt
zip_fine (d ∷ text) [] f = tt
zip_fine (d ∷ text) (o ∷ openings) f = (f.0, zip_fine text openings f.1)

defs_fine : (all : List Part) → FineParts all → FineDefs (map (λ (part : Part). part.0) all)
defs_fine [] f = tt
defs_fine (part ∷ rest) f = (f.0, defs_fine rest f.1)

kept_part : (b : Bool) (part : Part) (kept : List Part) → FineDef part.0 → FineParts kept → FineParts (cond b (part ∷ kept) kept)
kept_part true part kept h f = (h, f)
kept_part false part kept h f = f

pub belonging_fine : (number : ℕ) (all : List Part) → FineParts all → FineParts (filter (belongs_to number) all)
belonging_fine number [] f = tt
belonging_fine number (part ∷ rest) f =
    kept_part (belongs_to number part) part (filter (belongs_to number) rest) f.0 (belonging_fine number rest f.1)

kept_def : (b : Bool) (d : Def) (kept : List Def) → FineDef d → FineDefs kept → FineDefs (cond b (d ∷ kept) kept)
kept_def true d kept h f = (h, f)
kept_def false d kept h f = f

staying_fine : (text : List Def) → FineDefs text → FineDefs (filter (λ d. stays (role d)) text)
staying_fine [] f = tt
staying_fine (d ∷ text) f = kept_def (stays (role d)) d (filter (λ x. stays (role x)) text) f.0 (staying_fine text f.1)

-- ---- what the parts of one definition say

constructors_fine : (own : List Def) → FineDefs own → FineMembers (filter_map constructor_of own)
constructors_fine [] f = refl
constructors_fine (D.UnionClause place name member ∷ own) f = two _ _ f.0 (constructors_fine own f.1)
constructors_fine (d ∷ own) f = constructors_fine own f.1

types_fine : (own : List Def) → FineDefs own → all_of (map clause_types_written (filter_map function_clause_of own)) ≡ true
types_fine [] f = refl
types_fine (D.FunctionClause name clause ∷ own) f = two _ _ f.0.0 (types_fine own f.1)
types_fine (d ∷ own) f = types_fine own f.1

clauses_fine : (own : List Def) → FineDefs own → all_of (map clause_written (filter_map function_clause_of own)) ≡ true
clauses_fine [] f = refl
clauses_fine (D.FunctionClause name clause ∷ own) f = two _ _ f.0.1 (clauses_fine own f.1)
clauses_fine (d ∷ own) f = clauses_fine own f.1

pub crossings_fine : (own : List Def) → FineDefs own → FineCrossings (filter_map mapping_clause_of own)
crossings_fine [] f = refl
crossings_fine (D.MappingClause place name clause ∷ own) f = two _ _ f.0 (crossings_fine own f.1)
crossings_fine (d ∷ own) f = crossings_fine own f.1

whole_fine : (d : Def) (own : List Def) → FineDef d → FineDefs own → FineDef (whole d own)
whole_fine (D.ScatteredUnion place name variables) own h f = constructors_fine own f
whole_fine (D.ScatteredFunction place name) own h f = two _ _ (types_fine own f) (clauses_fine own f)
whole_fine (D.ScatteredMapping place name) own h f = crossings_fine own f
whole_fine d own h f = h

-- ---- the gathered text

pub each_whole : (all : List Part) → FineParts all → (number : ℕ) (text : List Def) → FineDefs text → FineDefs (whole_from all number text)
each_whole all parts number [] f = tt
each_whole all parts number (d ∷ text) f = (
  whole_fine d (parts_of all number) f.0 (defs_fine (filter (belongs_to number) all) (belonging_fine number all parts)),
  each_whole all parts (number + 1) text f.1,
)

pub gathered_fine : (text : List Def) → FineDefs text → FineDefs (gathered text)
gathered_fine text f =
    let all = zip_fine text (openings_of [] 0 text) f in
    each_whole (parts text) all 0 (staying (parts text)) (staying_fine (map (λ (part : Part). part.0) (parts text)) (defs_fine (parts text) all))
