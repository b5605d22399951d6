use Rattle.std.proofs.Common.{◌≡◌, ℕ, ◌<◌, drop, map, get_or}
use Rattle.elf_load.specs.Placed.{LiesIn, ram_test}
use Rattle.elf_load.specs.Reading.{first_failed}
use Rattle.elf_load.specs.declared.image.Segment.{Segment}
use Rattle.elf_load.proofs.placing.check_places.Given as goal

abbrev pub invariant-loop-segment : goal.invariant-loop-segment
invariant-loop-segment l = record {
  same : first_failed (map (ram_test l.base l.size) l.segment-items) ≡ first_failed (map (ram_test l.base l.size) (drop l.segment-index l.segment-items));
  below : (k : ℕ) (d : Segment) → k < l.segment-index → LiesIn l.base l.size (get_or l.segment-items k d);
}
