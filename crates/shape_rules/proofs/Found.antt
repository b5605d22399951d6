-- A name's innermost local stands at the place that is kept of it.
use Rattle.std.proofs.Common.{◌≡◌, ℕ, ◌<◌, zero, suc, Bool, true, false, cond, List, [], ◌∷◌, ◌++◌, map, length, reverse, refl, sym, ap, ◌∙◌, arith}
use Rattle.std.proofs.Common.{Option, Some, None, bytes_eq, slice_get}
use Rattle.std.proofs.Common.{String}
use Rattle.std.specs.Prelude.{option_map}
use Rattle.std.specs.HashMap.{HashMap}
use Rattle.std.proofs.lemmas.List.{length-reverse, reverse-reverse, reverse-append}
use Rattle.sail_types.specs.Sums.{and_then}
use Rattle.shape_rules.specs.declared.locals.Entered.{Entered}
use Rattle.shape_rules.specs.declared.locals.Local.{Local}
use Rattle.shape_rules.specs.Scopes.{local_of}
use Rattle.shape_rules.specs.parts.Entries.{entered_local, local_at, place_of, place_in, AreKept}
use Rattle.shape_rules.proofs.Kept.{last_item}

within_more : (t : Bool) (n i : ℕ) (place : Option ℕ) → (place ≡ Some i → i < n) → cond t (Some n) place ≡ Some i → i < suc n
within_more true n i place within h = grind (h, arith)
within_more false n i place within h = let less : i < n = within h in omega arith

place_within : (name : List ℕ) (entered : List Entered) (i : ℕ) → place_of name entered ≡ Some i → i < length entered
place_within name [] i h = absurd cc
place_within name (inner ∷ outer) i h =
    within_more (bytes_eq inner.local.name name) (length outer) i (place_of name outer) (place_within name outer i) h

get_in_front : {A : Type 0} (items more : List A) (i : ℕ) → i < length items → slice_get (items ++ more) i ≡ slice_get items i
get_in_front [] more i h = absurd (omega arith)
get_in_front (item ∷ items) more zero h = refl
get_in_front (item ∷ items) more (suc i) h = get_in_front items more i (omega arith)

place_is : (place : Option ℕ) (n : ℕ) (items : List Entered) (inner : Entered) → n ≡ length items → ((i : ℕ) → place ≡ Some i → i < n)
    → and_then place (local_at (items ++ inner ∷ [])) ≡ and_then place (local_at items)
place_is None n items inner count within = refl
place_is (Some i) n items inner count within =
    let less : i < n = within i refl in
    let near : i < length items = grind (arith, less, count) in
    ap (option_map entered_local) (get_in_front items (inner ∷ []) i near)

found_more : (t : Bool) (n : ℕ) (place : Option ℕ) (items : List Entered) (inner : Entered) (local : Option Local) → n ≡ length items
    → ((i : ℕ) → place ≡ Some i → i < n) → and_then place (local_at items) ≡ local
    → and_then (cond t (Some n) place) (local_at (items ++ inner ∷ [])) ≡ cond t (Some inner.local) local
found_more true n place items inner local count within found =
    ap (local_at (items ++ inner ∷ [])) count ∙ ap (option_map entered_local) (last_item items inner)
found_more false n place items inner local count within found = place_is place n items inner count within ∙ found

found_among : (name : List ℕ) (entered : List Entered)
    → and_then (place_of name entered) (local_at (reverse entered)) ≡ local_of name (map entered_local entered)
found_among name [] = refl
found_among name (inner ∷ outer) =
    ap (λ items. and_then (place_of name (inner ∷ outer)) (local_at items)) (reverse-append (inner ∷ []) outer)
    ∙ found_more (bytes_eq inner.local.name name) (length outer) (place_of name outer) (reverse outer) inner (local_of name (map entered_local outer))
    (sym (length-reverse outer)) (place_within name outer) (found_among name outer)

-- what stands at the place that a map has of a name
pub found_in : {Y S : Type 0} (places : HashMap (String Y) (Option ℕ) S) (items : List Entered) (name : List ℕ) → AreKept places (reverse items)
    → and_then (place_in places name) (local_at items) ≡ local_of name (map entered_local (reverse items))
found_in places items name kept =
    ap (λ place. and_then place (local_at items)) (kept.found name)
    ∙ ap (λ l. and_then (place_of name (reverse items)) (local_at l)) (sym (reverse-reverse items))
    ∙ found_among name (reverse items)
