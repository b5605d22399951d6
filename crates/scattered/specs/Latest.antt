-- What the latest openings of one name are, and what those of all names say of the openings that stand.
use Rattle.std.specs.Prelude.{◌≡◌, ℕ, ◌<◌, List, [], ◌∷◌, length, filter, slice_index_or, bytes_eq, Option, Some, None, unwrap_or, IfSome, All}
use Rattle.std.specs.Borrow.{Bor}
use Rattle.std.specs.HashMap.{HashMap, get_by}
use Rattle.scattered.specs.declared.standing.Scattered.{Scattered}
use Rattle.scattered.specs.declared.standing.Scattered.TheVariants.{Union, Function, Mapping}
use Rattle.scattered.specs.declared.standing.Latest.{Latest}
use Rattle.scattered.specs.Openings.{Opening, is_named}

-- no opening of a name stands
abbrev pub no_latest : Latest
no_latest = record { any = None; union = None; function = None; mapping = None }

-- the latest that opens this
abbrev pub latest_of : Latest → Scattered → Option ℕ
latest_of latest Union = latest.union
latest_of latest Function = latest.function
latest_of latest Mapping = latest.mapping

-- the latest once an opening of this number stands too
abbrev pub latest_with : Latest → Scattered → ℕ → Latest
latest_with latest Union number = record latest { any = Some number; union = Some number }
latest_with latest Function number = record latest { any = Some number; function = Some number }
latest_with latest Mapping number = record latest { any = Some number; mapping = Some number }

-- the latest of a name in a map from names
abbrev pub latest_at : {S : Type 0} → HashMap (Bor (List ℕ)) Latest S → List ℕ → Latest
latest_at names name = unwrap_or (get_by (λ key. bytes_eq name key.now) names) no_latest

-- these are the latest of openings of one name, the latest first, where `before` has by its number what they were before
-- each opening
abbrev pub AreLatest : List Latest → Latest → List Opening → Type 0
AreLatest before latest [] = latest ≡ no_latest
AreLatest before latest (opening ∷ standing) =
    (opening.number < length before)
    × (latest ≡ latest_with (slice_index_or before opening.number no_latest) opening.scattered opening.number)
    × AreLatest before (slice_index_or before opening.number no_latest) standing

-- the latest of each name are those of the openings that stand
abbrev pub AreStanding : (List ℕ → Latest) → List Latest → List Opening → Type 0
AreStanding latest before standing = (name : List ℕ) → AreLatest before (latest name) (filter (is_named name) standing)

-- a definition belongs to one of the first so many, where it belongs to one
abbrev pub IsWithin : ℕ → Option ℕ → Type 0
IsWithin count opening = IfSome opening (λ number. number < count)

-- likewise each
abbrev pub AreWithin : ℕ → List (Option ℕ) → Type 0
AreWithin count openings = All (IsWithin count) openings
