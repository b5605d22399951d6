-- Which openings have an `end`, and which definition is the first that fails, as a text is read.
use Rattle.std.proofs.Common.{◌≡◌, ℕ, zero, suc, ◌+◌, ◌<◌, ◌≤◌, Bool, true, false, ◌&&◌, ◌||◌, cond, List, [], ◌∷◌, ◌++◌, length, take, drop}
use Rattle.std.proofs.Common.{get_or, map, filter, refl, sym, ap, ◌∙◌, subst, arith, add-one, Option, Some, None}
use Rattle.std.specs.List.{zip, list_any}
use Rattle.std.specs.Option.{option_or}
use Rattle.std.proofs.lemmas.List.{map-append}
use Rattle.std.proofs.lemmas.List.Elements.{filter-append}
use Rattle.std.proofs.lemmas.List.Folds.{list_any-append}
use Rattle.sail_syntax.specs.declared.definitions.Def.{Def}
use Rattle.scattered.specs.declared.error.ScatterError.{ScatterError}
use Rattle.scattered.specs.declared.error.ScatterError.TheVariants as error
use Rattle.scattered.specs.Openings.{Role, Opens, Continues, Ends, Stands, role, next_number}
use Rattle.scattered.specs.Gathered.{Part, belongs_to, parts_of}
use Rattle.scattered.specs.Refused.{is_end, is_ended, part_failure, first_failure, parts_failure, IsRefusal}

-- the part at an index, and those behind it
pub rest_at : (text : List Def) (openings : List (Option ℕ)) (index : ℕ) (d : Def) (opening : Option ℕ) → length openings ≡ length text
    → index < length text → d ≡ get_or text index d → opening ≡ get_or openings index opening
    → drop index (zip text openings) ≡ (d, opening) ∷ drop (index + 1) (zip text openings)
rest_at [] openings index d opening same less is at = absurd (omega arith)
rest_at (x ∷ text) [] index d opening same less is at = absurd (omega arith)
rest_at (x ∷ text) (o ∷ openings) zero d opening same less is at = λ i. (sym is i, sym at i) ∷ zip text openings
rest_at (x ∷ text) (o ∷ openings) (suc index) d opening same less is at =
    let shorter : length openings ≡ length text = omega arith in
    rest_at text openings index d opening shorter (omega arith) is at ∙ ap (λ n. (d, opening) ∷ drop n (zip text openings)) (add-one index)
    ∙ ap (λ n. (d, opening) ∷ drop n ((x, o) ∷ zip text openings)) (sym (add-one (suc index)))

-- one part more
pub more_at : (text : List Def) (openings : List (Option ℕ)) (index : ℕ) (d : Def) (opening : Option ℕ) → length openings ≡ length text
    → index < length text → d ≡ get_or text index d → opening ≡ get_or openings index opening
    → take (index + 1) (zip text openings) ≡ take index (zip text openings) ++ (d, opening) ∷ []
more_at [] openings index d opening same less is at = absurd (omega arith)
more_at (x ∷ text) [] index d opening same less is at = absurd (omega arith)
more_at (x ∷ text) (o ∷ openings) zero d opening same less is at = λ i. (sym is i, sym at i) ∷ []
more_at (x ∷ text) (o ∷ openings) (suc index) d opening same less is at =
    let shorter : length openings ≡ length text = omega arith in
    ap (λ n. take n ((x, o) ∷ zip text openings)) (add-one (suc index))
    ∙ ap (λ rest. (x, o) ∷ rest) (ap (λ n. take n (zip text openings)) (sym (add-one index)) ∙ more_at text openings index d opening shorter (omega arith) is at)

-- all parts
pub length-zip : (text : List Def) (openings : List (Option ℕ)) → length openings ≡ length text → length (zip text openings) ≡ length text
length-zip [] openings h = refl
length-zip (d ∷ text) [] h = absurd (omega arith)
length-zip (d ∷ text) (o ∷ openings) h = let shorter : length openings ≡ length text = omega arith in ap suc (length-zip text openings shorter)

single : (t : Bool) (part : Part) → map (λ (x : Part). x.0) (cond t (part ∷ []) []) ≡ cond t (part.0 ∷ []) []
single true part = refl
single false part = refl

-- what belongs to the definition of a number, with one part more
pub parts_more : (all : List Part) (part : Part) (number : ℕ)
    → parts_of (all ++ part ∷ []) number ≡ parts_of all number ++ cond (belongs_to number part) (part.0 ∷ []) []
parts_more all part number =
    ap (map (λ (x : Part). x.0)) (filter-append (belongs_to number) all (part ∷ []))
    ∙ map-append (λ (x : Part). x.0) (filter (belongs_to number) all) (filter (belongs_to number) (part ∷ []))
    ∙ ap (λ rest. parts_of all number ++ rest) (single (belongs_to number part) part)

or_none : (t : Bool) → (t || false) ≡ (t && true)
or_none true = refl
or_none false = refl

none_and : (t : Bool) → false ≡ (t && false)
none_and true = refl
none_and false = refl

any_single : (t : Bool) (d : Def) → list_any (λ x. is_end (role x)) (cond t (d ∷ []) []) ≡ (is_end (role d) && t)
any_single true d = or_none (is_end (role d))
any_single false d = none_and (is_end (role d))

-- an opening has an `end` so far where it had one before, or the next part is one
pub ended_more : (all : List Part) (part : Part) (number : ℕ)
    → is_ended (all ++ part ∷ []) number ≡ (is_ended all number || (is_end (role part.0) && belongs_to number part))
ended_more all part number =
    ap (list_any (λ d. is_end (role d))) (parts_more all part number)
    ∙ list_any-append (λ d. is_end (role d)) (parts_of all number) (cond (belongs_to number part) (part.0 ∷ []) [])
    ∙ ap (λ rest. is_ended all number || rest) (any_single (belongs_to number part) part.0)

-- where a part doesn't fail, the first that fails is behind it
pub passed_on : (ended : ℕ → Bool) (number : ℕ) (part : Part) (rest : List Part) → part_failure ended number part ≡ None
    → first_failure ended number (part ∷ rest) ≡ first_failure ended (next_number (role part.0) number) rest
passed_on ended number part rest h =
    ap (λ failed. option_or failed (first_failure ended (next_number (role part.0) number) rest)) h

-- where a part fails, it is the first
pub failed_first : (ended : ℕ → Bool) (number : ℕ) (part : Part) (rest : List Part) (e : ScatterError)
    → IsRefusal (part_failure ended number part) e → IsRefusal (first_failure ended number (part ∷ rest)) e
failed_first ended number part rest (error.NoOpening place name) h =
    ap (λ failed. option_or failed (first_failure ended (next_number (role part.0) number) rest)) h
failed_first ended number part rest (error.Unended place name) h =
    ap (λ failed. option_or failed (first_failure ended (next_number (role part.0) number) rest)) h
failed_first ended number part rest error.OutOfMemory h = tt

-- a refusal is that of what is equal
pub same_refusal : (a b : Option ScatterError) (e : ScatterError) → a ≡ b → IsRefusal a e → IsRefusal b e
same_refusal a b e same h = subst (λ x. IsRefusal x e) same h

-- the number grows by at most one
pub next_small : (r : Role) (number : ℕ) → next_number r number ≤ number + 1
next_small (Opens scattered name) number = omega arith
next_small (Continues scattered name) number = omega arith
next_small (Ends name) number = omega arith
next_small Stands number = omega arith
