use Rattle.std.proofs.Common.{◌≡◌, None}
use Rattle.std.specs.List.{flat_map, range_with_len}
use Rattle.elf_load.specs.Reading.{first_failed, program_tests}
use Rattle.elf_load.specs.Refused.{SegmentsWithin}
use Rattle.elf_load.proofs.reading.check_programs.Given as goal

abbrev pub invariant-loop-index : goal.invariant-loop-index
invariant-loop-index l = record {
  passed : first_failed (flat_map (program_tests l.file) (range_with_len 0 l.index)) ≡ None;
  within : SegmentsWithin l.file l.index;
}
