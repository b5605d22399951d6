-- The local names are kept as they should be when one comes into scope and when the innermost goes out of it.
use Rattle.std.proofs.Common.{◌≡◌, ℕ, Bool, true, false, cond, List, [], ◌∷◌, map, refl, sym, ap, ◌∙◌}
use Rattle.std.proofs.Common.{Option, Some, None, bytes_eq, unwrap_or, ◌++◌, ◌-◌, ◌<◌, length, reverse, slice_get, IsSome, arith, length-append}
use Rattle.std.proofs.lemmas.Option.{slice_get_within}
use Rattle.std.proofs.lemmas.List.{reverse-append}
use Rattle.std.specs.Option.{option_to_list}
use Rattle.std.specs.Borrow.{Bor}
use Rattle.std.specs.HashMap.{HashMap, UpdatesBy, get_by}
use Rattle.std.proofs.lemmas.Slice.Eq.{bytes_eq-Decides}
use Rattle.std.proofs.lemmas.Map.Text.{hash_map_updates_str}
use Rattle.sail_names.specs.declared.locals.Binding.{Binding}
use Rattle.sail_names.specs.declared.locals.Entered.{Entered}
use Rattle.sail_names.specs.Locals.{Local, binding_of}
use Rattle.sail_names.specs.parts.Entries.{local_of, bound_in, AreKept}

unwrapped : {A : Type 0} (t : Bool) (value none : A) (found : Option A) → unwrap_or (cond t (Some value) found) none ≡ cond t value (unwrap_or found none)
unwrapped true value none found = refl
unwrapped false value none found = refl

-- how each name is bound once one is put into the map
pub bound_after : {S : Type 0} (names now : HashMap (Bor (List ℕ)) (Option Binding) S) (name : List ℕ) (value : Option Binding)
    → UpdatesBy (λ x y. bytes_eq x.now y.now) (λ key. bytes_eq name key.now) names now (Some value)
    → (other : List ℕ) → bound_in now other ≡ cond (bytes_eq name other) value (bound_in names other)
bound_after {S} names now name value updates other =
    ap (λ found. unwrap_or found None) (hash_map_updates_str name names now (Some value) updates other)
    ∙ unwrapped (bytes_eq name other) value None (get_by (λ key. bytes_eq other key.now) names)

-- a name comes into scope
pub kept_inside : {S : Type 0} (names now : HashMap (Bor (List ℕ)) (Option Binding) S) (inner : Entered) (outer : List Entered)
    → ((other : List ℕ) → bound_in now other ≡ cond (bytes_eq inner.name.now other) (Some inner.binding) (bound_in names other))
    → inner.hidden ≡ binding_of inner.name.now (map local_of outer)
    → AreKept names outer → AreKept now (inner ∷ outer)
kept_inside names now inner outer after hidden kept = record {
  bound = λ name. after name ∙ ap (λ was. cond (bytes_eq inner.name.now name) (Some inner.binding) was) (kept.bound name);
  hidden = (hidden, kept.hidden);
}

back : (t : Bool) (inner outer : List ℕ) (binding : Option Binding) (locals : List Local) (value : Binding)
    → bytes_eq inner outer ≡ t
    → cond t (binding_of inner locals) (cond t (Some value) (binding_of outer locals)) ≡ binding_of outer locals
back true inner outer binding locals value is = grind (arith, is, bytes_eq-Decides)
back false inner outer binding locals value is = refl

-- the innermost goes out of scope
pub kept_outside : {S : Type 0} (names now : HashMap (Bor (List ℕ)) (Option Binding) S) (inner : Entered) (outer : List Entered)
    → ((other : List ℕ) → bound_in now other ≡ cond (bytes_eq inner.name.now other) inner.hidden (bound_in names other))
    → AreKept names (inner ∷ outer) → AreKept now outer
kept_outside names now inner outer after kept = record {
  bound = λ name. after name
      ∙ ap (λ was. cond (bytes_eq inner.name.now name) was (bound_in names name)) kept.hidden.0
      ∙ ap (λ was. cond (bytes_eq inner.name.now name) (binding_of inner.name.now (map local_of outer)) was) (kept.bound name)
      ∙ back (bytes_eq inner.name.now name) inner.name.now name None (map local_of outer) inner.binding refl;
  hidden = kept.hidden.1;
}

-- one more at the end comes first from the end
pub reverse_more : {A : Type 0} (items : List A) (last : A) → reverse (items ++ last ∷ []) ≡ last ∷ reverse items
reverse_more items last = reverse-append items (last ∷ [])

-- the last of a list
pub last_item : {A : Type 0} (items : List A) (last : A) → slice_get (items ++ last ∷ []) (length items) ≡ Some last
last_item [] last = refl
last_item (item ∷ items) last = last_item items last

none_is_no_some : {X : Type 0} → IsSome {T = Entered} None → X
none_is_no_some h = grind (h, arith)

-- a list without its last item
pub without_last : (items rest : List Entered) (last : Entered) (taken : Option Entered)
    → slice_get items (length items - 1) ≡ Some last → items ≡ rest ++ option_to_list taken → (0 < length items → IsSome {T = Entered} taken)
    → reverse items ≡ last ∷ reverse rest
without_last items rest last None found is some =
    let within : length items - 1 < length items = slice_get_within items (length items - 1) last found in
    let none : IsSome {T = Entered} None = some (omega (within, arith)) in
    none_is_no_some none
without_last items rest last (Some taken) found is some =
    let count : length items - 1 ≡ length rest = grind (arith, is, length-append) in
    let same : Some taken ≡ Some last = sym (last_item rest taken) ∙ ap (λ l. slice_get l (length rest)) (sym is)
    ∙ ap (slice_get items) (sym count) ∙ found in
    let one : taken ≡ last = grind (same, arith) in
    ap reverse is ∙ reverse_more rest taken ∙ ap (λ l. l ∷ reverse rest) one
