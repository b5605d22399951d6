-- Where a byte stands.
use Rattle.std.specs.Prelude.{ℕ, ◌+◌, ◌==◌, List, length, take, reverse, count_by}
use Rattle.std.specs.List.{prefix_len}
use Rattle.sail_base.specs.declared.place.Place.{Place}
use Rattle.sail_lex.specs.Bytes.{in_line}

-- the line of the byte at n, from 1: a line ends at its line feed
unfoldable pub line_at : List ℕ → ℕ → ℕ
line_at source n = count_by (λ b. b == 10) (take n source) + 1

-- its column, from 1, in bytes: one more than how many bytes stand before it in its line
unfoldable pub column_at : List ℕ → ℕ → ℕ
column_at source n = prefix_len in_line (reverse (take n source)) + 1

-- the place of the byte at n
abbrev pub place_at : ℕ → List ℕ → ℕ → Place
place_at file source n = record { file = file; line = line_at source n; column = column_at source n }

-- the place of the source's end, one past its last byte
abbrev pub end_of : ℕ → List ℕ → Place
end_of file source = place_at file source (length source)
