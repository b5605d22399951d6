-- What a map of positions holds once a position is put behind those of a name.
use Rattle.std.proofs.Common.{◌≡◌, ℕ, Bool, true, false, cond, List, [], refl, ap, ◌∙◌, bytes_eq, Option, Some, None, unwrap_or}
use Rattle.std.specs.Borrow.{Bor}
use Rattle.std.specs.HashMap.{HashMap, UpdatesBy, get_by}
use Rattle.std.proofs.lemmas.Map.Text.{hash_map_updates_str}
use Rattle.sail_tables.specs.Tabled.{positions_at}

taken_and_given : (t : Bool) (value : List ℕ) (old : Option (List ℕ)) → unwrap_or (cond t (Some value) (cond t None old)) [] ≡ cond t value (unwrap_or old [])
taken_and_given true value old = refl
taken_and_given false value old = refl

-- what a map holds once what it held of a name is taken out and other positions are put in its place
pub positions_after : {S : Type 0} (all taken now : HashMap (Bor (List ℕ)) (List ℕ) S) (name value : List ℕ)
    → UpdatesBy (λ x y. bytes_eq x.now y.now) (λ key. bytes_eq name key.now) all taken None
    → UpdatesBy (λ x y. bytes_eq x.now y.now) (λ key. bytes_eq name key.now) taken now (Some value)
    → (other : List ℕ) → positions_at now other ≡ cond (bytes_eq name other) value (positions_at all other)
positions_after {S} all taken now name value out in_place other =
    ap (λ found. unwrap_or found []) (hash_map_updates_str name taken now (Some value) in_place other
    ∙ ap (λ old. cond (bytes_eq name other) (Some value) old) (hash_map_updates_str name all taken None out other))
    ∙ taken_and_given (bytes_eq name other) value (get_by (λ key. bytes_eq other key.now) all)
