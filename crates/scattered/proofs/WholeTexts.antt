-- Gathered texts, and texts in which nothing is written in parts.
use Rattle.std.proofs.Common.{◌≡◌, ℕ, ◌+◌, Bool, true, false, ◌&&◌, cond, List, [], ◌∷◌, ◌++◌, length, map, filter, refl, sym, ap, ◌∙◌, Option, Some, None}
use Rattle.std.specs.List.{zip, list_all}
use Rattle.std.specs.Option.{option_or}
use Rattle.std.proofs.lemmas.Bool.{and_parts, and_from}
use Rattle.sail_base.specs.declared.place.Place.{Place}
use Rattle.sail_syntax.specs.declared.definitions.Def.{Def}
use Rattle.sail_syntax.specs.declared.definitions.Def.TheVariants as D
use Rattle.scattered.specs.declared.error.ScatterError.{ScatterError}
use Rattle.scattered.specs.Openings.{Role, Opens, Continues, Ends, Stands, role, stays, opening_of, standing_behind, openings_of, next_number}
use Rattle.scattered.specs.Gathered.{Part, parts, parts_of, whole, staying, whole_from, gathered}
use Rattle.scattered.specs.Refused.{failure, first_failure, is_ended, refusal}
use Rattle.scattered.specs.laws.Whole.{is_standing, is_whole}
use Rattle.sail_syntax.specs.Places.{definition_place}

-- a definition that stays is whole once it has its parts
whole_once : (d : Def) (own : List Def) → stays (role d) ≡ true → is_whole (whole d own) ≡ true
whole_once (D.UnionClause place name member) own h = absurd (cc h)
whole_once (D.FunctionClause name clause) own h = absurd (cc h)
whole_once (D.MappingClause place name clause) own h = absurd (cc h)
whole_once (D.End place name) own h = absurd (cc h)
whole_once d own h = refl

all_if : (t : Bool) (d : Def) (kept : List Def) → stays (role d) ≡ t → list_all (λ x. stays (role x)) kept ≡ true
    → list_all (λ x. stays (role x)) (cond t (d ∷ kept) kept) ≡ true
all_if true d kept is h = and_from _ _ is h
all_if false d kept is h = h

all_stay : (text : List Def) → list_all (λ d. stays (role d)) (filter (λ d. stays (role d)) text) ≡ true
all_stay [] = refl
all_stay (d ∷ text) = all_if (stays (role d)) d (filter (λ x. stays (role x)) text) refl (all_stay text)

whole_each : (all : List Part) (number : ℕ) (kept : List Def) → list_all (λ d. stays (role d)) kept ≡ true → list_all is_whole (whole_from all number kept) ≡ true
whole_each all number [] h = refl
whole_each all number (d ∷ kept) h =
    let both = and_parts (stays (role d)) (list_all (λ x. stays (role x)) kept) h in
    and_from _ _ (whole_once d (parts_of all number) both.0) (whole_each all (number + 1) kept both.1)

pub gathered_whole : (text : List Def) → list_all is_whole (gathered text) ≡ true
gathered_whole text = whole_each (parts text) 0 (staying (parts text)) (all_stay (map (λ (part : Part). part.0) (parts text)))

-- nothing belongs to an opening in a text in which nothing is written in parts
role_stands : (r : Role) → is_standing r ≡ true → r ≡ Stands
role_stands (Opens scattered name) h = absurd (cc h)
role_stands (Continues scattered name) h = absurd (cc h)
role_stands (Ends name) h = absurd (cc h)
role_stands Stands h = refl

nones : List Def → List (Option ℕ)
nones [] = []
nones (d ∷ text) = None ∷ nones text

no_openings : (number : ℕ) (text : List Def) → list_all is_whole text ≡ true → openings_of [] number text ≡ nones text
unfolding nones
no_openings number [] h = refl
no_openings number (d ∷ text) h =
    let both = and_parts (is_whole d) (list_all is_whole text) h in
    let stands = role_stands (role d) both.0 in
    (λ i. opening_of (stands i) [] ∷ openings_of (standing_behind (stands i) number []) (next_number (stands i) number) text)
    ∙ ap (λ rest. None ∷ rest) (no_openings (number + 1) text both.1)

first_parts : (text : List Def) → map (λ (part : Part). part.0) (zip text (nones text)) ≡ text
unfolding nones
first_parts [] = refl
first_parts (d ∷ text) = ap (λ rest. d ∷ rest) (first_parts text)

no_parts : (text : List Def) (number : ℕ) → parts_of (zip text (nones text)) number ≡ []
unfolding nones
no_parts [] number = refl
no_parts (d ∷ text) number = no_parts text number

whole_alone : (d : Def) → is_whole d ≡ true → whole d [] ≡ d
whole_alone (D.ScatteredUnion place name variables) h = absurd (cc h)
whole_alone (D.ScatteredFunction place name) h = absurd (cc h)
whole_alone (D.ScatteredMapping place name) h = absurd (cc h)
whole_alone d h = refl

filter_if : (r : Role) (d : Def) (kept text : List Def) → is_standing r ≡ true → kept ≡ text → cond (stays r) (d ∷ kept) kept ≡ d ∷ text
filter_if (Opens scattered name) d kept text h e = absurd (cc h)
filter_if (Continues scattered name) d kept text h e = absurd (cc h)
filter_if (Ends name) d kept text h e = absurd (cc h)
filter_if Stands d kept text h e = ap (λ rest. d ∷ rest) e

all_kept : (text : List Def) → list_all is_whole text ≡ true → filter (λ d. stays (role d)) text ≡ text
all_kept [] h = refl
all_kept (d ∷ text) h =
    let both = and_parts (is_whole d) (list_all is_whole text) h in
    filter_if (role d) d (filter (λ x. stays (role x)) text) text both.0 (all_kept text both.1)

same_each : (all : List Part) (number : ℕ) (text : List Def) → ((n : ℕ) → parts_of all n ≡ []) → list_all is_whole text ≡ true → whole_from all number text ≡ text
same_each all number [] none h = refl
same_each all number (d ∷ text) none h =
    let both = and_parts (is_whole d) (list_all is_whole text) h in
    let here : whole d (parts_of all number) ≡ d = ap (whole d) (none number) ∙ whole_alone d both.0 in
    let rest = same_each all (number + 1) text none both.1 in
    λ i. here i ∷ rest i

pub gathered_same : (text : List Def) → list_all is_whole text ≡ true → gathered text ≡ text
gathered_same text h =
    let plain = zip text (nones text) in
    let is : parts text ≡ plain = ap (zip text) (no_openings 0 text h) in
    ap (λ all. whole_from all 0 (staying all)) is
    ∙ ap (whole_from plain 0) (ap (filter (λ d. stays (role d))) (first_parts text) ∙ all_kept text h)
    ∙ same_each plain 0 text (no_parts text) h

fine_standing : (r : Role) (place : Place) (ended : Bool) → is_standing r ≡ true → failure r place None ended ≡ None
fine_standing (Opens scattered name) place ended h = absurd (cc h)
fine_standing (Continues scattered name) place ended h = absurd (cc h)
fine_standing (Ends name) place ended h = absurd (cc h)
fine_standing Stands place ended h = refl

none_fails : (ended : ℕ → Bool) (number : ℕ) (text : List Def) → list_all is_whole text ≡ true → first_failure ended number (zip text (nones text)) ≡ None
unfolding nones
none_fails ended number [] h = refl
none_fails ended number (d ∷ text) h =
    let both = and_parts (is_whole d) (list_all is_whole text) h in
    ap (λ failed. option_or failed (first_failure ended (next_number (role d) number) (zip text (nones text))))
    (fine_standing (role d) (definition_place d) (ended number) both.0)
    ∙ none_fails ended (next_number (role d) number) text both.1

pub whole_accepted : (text : List Def) → list_all is_whole text ≡ true → refusal text ≡ None
whole_accepted text h =
    ap (λ all. first_failure (is_ended all) 0 all) (ap (zip text) (no_openings 0 text h)) ∙ none_fails (is_ended (zip text (nones text))) 0 text h
