use Rattle.std.proofs.Common.{◌≡◌, map, filter}
use Rattle.std.specs.List.{range_with_len}
use Rattle.elf_load.specs.Reading.{segment_at, is_load}
use Rattle.elf_load.proofs.reading.segments_of.Given as goal

abbrev pub invariant-loop-index : goal.invariant-loop-index
invariant-loop-index l = l.segments ≡ map (segment_at l.file) (filter (is_load l.file) (range_with_len 0 l.index))
