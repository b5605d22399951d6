use Rattle.std.proofs.Common.{◌≡◌, take, length}
use Rattle.std.specs.List.{fold}
use Rattle.elf_load.specs.Placed.{with_segment}
use Rattle.elf_load.proofs.placing.place.Given as goal

abbrev pub invariant-loop-segment : goal.invariant-loop-segment
invariant-loop-segment g l = record {
  same : g.M.Memory.base l.memory ≡ g.M.Memory.base l.fn.memory;
  size : length (g.M.Memory.bytes l.memory) ≡ length (g.M.Memory.bytes l.fn.memory);
  put : g.M.Memory.bytes l.memory ≡ fold (with_segment (g.M.Memory.base l.fn.memory)) (g.M.Memory.bytes l.fn.memory) (take l.segment-index l.segment-items);
}
