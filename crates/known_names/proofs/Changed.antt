-- What maps and sets of names hold once one name is put into them.
use Rattle.std.proofs.Common.{◌≡◌, ℕ, Bool, true, false, ◌||◌, cond, List, [], ◌++◌, refl, sym, ap, ◌∙◌, append-nil, bytes_eq, Option, Some, None, unwrap_or}
use Rattle.std.specs.Borrow.{Bor}
use Rattle.std.specs.HashMap.{HashMap, UpdatesBy, get_by}
use Rattle.std.proofs.lemmas.Slice.Eq.{bytes_eq-Decides}
use Rattle.std.proofs.lemmas.Map.Text.{hash_map_updates_str}
use Rattle.known_names.specs.Held.{entered_at}

more_at : (t : Bool) (entered more : List ℕ) (old : Option (List ℕ)) → (t ≡ true → entered ≡ unwrap_or old [] ++ more)
    → unwrap_or (cond t (Some entered) (cond t None old)) [] ≡ unwrap_or old [] ++ cond t more []
more_at true entered more old is = is refl
more_at false entered more old is = sym (append-nil (unwrap_or old []))

-- what overloads enter, once the list of one is taken out and put back with more
pub entered_after : {S : Type 0} (names without now : HashMap (Bor (List ℕ)) (List ℕ) S) (name entered more : List ℕ)
    → UpdatesBy (λ x y. bytes_eq x.now y.now) (λ key. bytes_eq name key.now) names without None
    → UpdatesBy (λ x y. bytes_eq x.now y.now) (λ key. bytes_eq name key.now) without now (Some entered)
    → entered ≡ entered_at names name ++ more
    → (other : List ℕ) → entered_at now other ≡ entered_at names other ++ cond (bytes_eq name other) more []
entered_after {S} names without now name entered more taken put is other =
    ap (λ found. unwrap_or found [])
    (hash_map_updates_str name without now (Some entered) put other
    ∙ ap (cond (bytes_eq name other) (Some entered)) (hash_map_updates_str name names without None taken other))
    ∙ more_at (bytes_eq name other) entered more (get_by (λ key. bytes_eq other key.now) names)
    (λ t. is ∙ ap (λ key. entered_at names key ++ more) ((bytes_eq-Decides name other).0 t))

-- a name is in a set once it is put there
pub in_after : (t was : Bool) → cond t true was ≡ (was || t)
in_after true true = refl
in_after true false = refl
in_after false true = refl
in_after false false = refl
