-- The sizes in payloads hang on what their unions' types note.
use Rattle.std.specs.Prelude.{◌≡◌, true, List}
use Rattle.sail_types.specs.declared.table.Types.{Types}
use Rattle.size_values.specs.declared.sized.Sized.{Sized}
use Rattle.sized_patterns.specs.Laws.{PayloadsHang}
use Rattle.hanging_sizes.specs.Hanging.{payloads_alone}

-- where the table is so
abbrev pub PayloadsDo : Type 0
PayloadsDo = (types : Types) (own : List Sized) → payloads_alone types ≡ true → PayloadsHang types own
