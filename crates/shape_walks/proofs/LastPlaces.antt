-- Where the last of suffixes stands, one after the other.
use Rattle.std.proofs.Common.{◌≡◌, List, [], ◌∷◌, refl, sym, ◌∙◌}
use Rattle.sail_base.specs.declared.place.Place.{Place}
use Rattle.shape_rules.specs.Targets.{SuffixPart, field_part, at_part, suffix_place}
use Rattle.shape_rules.specs.Values.{last_place}

-- behind a suffix that stands here
abbrev pub last_behind : Place → Place → List SuffixPart → Place
last_behind first place [] = place
last_behind first place (suffix ∷ suffixes) = last_behind first (suffix_place first suffix) suffixes

later : (first : Place) (suffix next : SuffixPart) (more : List SuffixPart) → last_place first (suffix ∷ next ∷ more) ≡ last_place first (next ∷ more)
later first (field_part name) next more = refl
later first (at_part place index) next more = refl

one_behind : (first : Place) (suffix : SuffixPart) → suffix_place first suffix ≡ last_place first (suffix ∷ [])
one_behind first (field_part name) = refl
one_behind first (at_part place index) = refl

behind_one : (first : Place) (suffix : SuffixPart) (suffixes : List SuffixPart)
    → last_behind first (suffix_place first suffix) suffixes ≡ last_place first (suffix ∷ suffixes)
behind_one first suffix [] = one_behind first suffix
behind_one first suffix (next ∷ more) = behind_one first next more ∙ sym (later first suffix next more)

pub last_from_first : (first : Place) (suffixes : List SuffixPart) → last_behind first first suffixes ≡ last_place first suffixes
last_from_first first [] = refl
last_from_first first (suffix ∷ suffixes) = behind_one first suffix suffixes
