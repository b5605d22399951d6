-- Numbers and orders of harts, as words spell them.
use Rattle.std.specs.Prelude.{ℕ, ◌+◌, ◌-◌, Bool, not, ◌&&◌, nat_le, nat_lt, ◌==◌, List, [], ◌∷◌, length, map, take}
use Rattle.std.specs.Prelude.{Option, Some, None, if◌then◌else◌}
use Rattle.std.specs.Char.{is_ascii_digit}
use Rattle.std.specs.List.{list_all}
use Rattle.std.specs.Str.Parse.{digits_value}

-- one or more decimal digits and nothing else, no sign either
abbrev pub is_numeral : List ℕ → Bool
is_numeral word = not (length word == 0) && list_all is_ascii_digit word

-- the number that a numeral spells, leading zeros allowed, where it lies from `least` to `most`
abbrev pub number_in : ℕ → ℕ → List ℕ → Option ℕ
number_in least most word =
    if is_numeral word && (nat_le least (digits_value 10 word) && nat_le (digits_value 10 word) most)
    then Some (digits_value 10 word)
    else None

-- whether a byte is a digit that names one of so many harts: `0` (48) the first
abbrev pub names_hart : ℕ → ℕ → Bool
names_hart harts byte = nat_le 48 byte && nat_lt byte (48 + harts)

-- the harts that one or more digits name
abbrev pub order_in : ℕ → List ℕ → Option (List ℕ)
order_in harts word =
    if not (length word == 0) && list_all (names_hart harts) word then Some (map (λ byte. byte - 48) word) else None

-- each of at most eight harts, from 0 on
abbrev pub all_harts : ℕ → List ℕ
all_harts harts = take harts (0 ∷ 1 ∷ 2 ∷ 3 ∷ 4 ∷ 5 ∷ 6 ∷ 7 ∷ [])
