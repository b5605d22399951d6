-- The local names are kept as they should be when one comes into scope and when the innermost goes out of it.
use Rattle.std.proofs.Common.{◌≡◌, ℕ, Bool, true, false, cond, List, [], ◌∷◌, refl, sym, ap, ◌∙◌}
use Rattle.std.proofs.Common.{Option, Some, None, String, bytes_eq, unwrap_or, ◌++◌, ◌-◌, ◌<◌, length, reverse, slice_get, IsSome, arith, length-append}
use Rattle.std.proofs.lemmas.Option.{slice_get_within}
use Rattle.std.proofs.lemmas.List.{reverse-append}
use Rattle.std.proofs.lemmas.Slice.Eq.{bytes_eq-Decides}
use Rattle.std.proofs.lemmas.Map.Text.{hash_map_updates_text}
use Rattle.std.specs.Option.{option_to_list}
use Rattle.std.specs.HashMap.{HashMap, UpdatesBy, get_by_text}
use Rattle.std.specs.String.{string_eq, string_bytes}
use Rattle.shape_rules.specs.declared.locals.Entered.{Entered}
use Rattle.shape_rules.specs.parts.Entries.{place_of, place_in, AreKept}

unwrapped : {A : Type 0} (t : Bool) (value none : A) (found : Option A) → unwrap_or (cond t (Some value) found) none ≡ cond t value (unwrap_or found none)
unwrapped true value none found = refl
unwrapped false value none found = refl

-- the place of each name once one is put into the map
pub place_after : {Y S : Type 0} (places now : HashMap (String Y) (Option ℕ) S) (key : String Y) (name : List ℕ) (value : Option ℕ)
    → string_bytes key ≡ name → UpdatesBy string_eq (string_eq key) places now (Some value)
    → (other : List ℕ) → place_in now other ≡ cond (bytes_eq name other) value (place_in places other)
place_after places now key name value same updates other =
    ap (λ found. unwrap_or found None) (hash_map_updates_text (string_bytes key) places now (Some value) updates other)
    ∙ unwrapped (bytes_eq (string_bytes key) other) value None (get_by_text places other)
    ∙ ap (λ (bytes : List ℕ). cond (bytes_eq bytes other) value (place_in places other)) same

-- a name comes into scope
pub kept_inside : {Y S : Type 0} (places now : HashMap (String Y) (Option ℕ) S) (inner : Entered) (outer : List Entered)
    → ((other : List ℕ) → place_in now other ≡ cond (bytes_eq inner.local.name other) (Some (length outer)) (place_in places other))
    → inner.hidden ≡ place_of inner.local.name outer
    → AreKept places outer → AreKept now (inner ∷ outer)
kept_inside places now inner outer after hidden kept = record {
  found = λ name. after name ∙ ap (λ was. cond (bytes_eq inner.local.name name) (Some (length outer)) was) (kept.found name);
  hidden = (hidden, kept.hidden);
}

back : (t : Bool) (inner outer : List ℕ) (value : Option ℕ) (entered : List Entered) → bytes_eq inner outer ≡ t
    → cond t (place_of inner entered) (cond t value (place_of outer entered)) ≡ place_of outer entered
back true inner outer value entered is = grind (arith, is, bytes_eq-Decides)
back false inner outer value entered is = refl

-- the innermost goes out of scope
pub kept_outside : {Y S : Type 0} (places now : HashMap (String Y) (Option ℕ) S) (inner : Entered) (outer : List Entered)
    → ((other : List ℕ) → place_in now other ≡ cond (bytes_eq inner.local.name other) inner.hidden (place_in places other))
    → AreKept places (inner ∷ outer) → AreKept now outer
kept_outside places now inner outer after kept = record {
  found = λ name. after name
      ∙ ap (λ was. cond (bytes_eq inner.local.name name) was (place_in places name)) kept.hidden.0
      ∙ ap (λ was. cond (bytes_eq inner.local.name name) (place_of inner.local.name outer) was) (kept.found name)
      ∙ back (bytes_eq inner.local.name name) inner.local.name name (Some (length outer)) outer refl;
  hidden = kept.hidden.1;
}

-- one more at the end comes first from the end
pub reverse_more : {A : Type 0} (items : List A) (last : A) → reverse (items ++ last ∷ []) ≡ last ∷ reverse items
reverse_more items last = reverse-append items (last ∷ [])

-- the last of a list
pub last_item : {A : Type 0} (items : List A) (last : A) → slice_get (items ++ last ∷ []) (length items) ≡ Some last
last_item [] last = refl
last_item (item ∷ items) last = last_item items last

none_is_no_some : {X : Type 0} → IsSome {T = Entered} None → X
none_is_no_some h = grind (h, arith)

-- a list without its last item
pub without_last : (items rest : List Entered) (last : Entered) (taken : Option Entered)
    → slice_get items (length items - 1) ≡ Some last → items ≡ rest ++ option_to_list taken → (0 < length items → IsSome {T = Entered} taken)
    → reverse items ≡ last ∷ reverse rest
without_last items rest last None found is some =
    let within : length items - 1 < length items = slice_get_within items (length items - 1) last found in
    let none : IsSome {T = Entered} None = some (omega (within, arith)) in
    none_is_no_some none
without_last items rest last (Some taken) found is some =
    let count : length items - 1 ≡ length rest = grind (arith, is, length-append) in
    let same : Some taken ≡ Some last = sym (last_item rest taken) ∙ ap (λ l. slice_get l (length rest)) (sym is)
    ∙ ap (slice_get items) (sym count) ∙ found in
    let one : taken ≡ last = grind (same, arith) in
    ap reverse is ∙ reverse_more rest taken ∙ ap (λ l. l ∷ reverse rest) one
