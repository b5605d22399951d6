use Rattle.std.proofs.Common.{◌≡◌, ◌-◌, take, length}
use Rattle.mem_store.specs.Bytes.{overwritten}
use Rattle.elf_load.proofs.placing.put_bytes.Given as goal

abbrev pub invariant-loop-i : goal.invariant-loop-i
invariant-loop-i g l = record {
  same : g.M.Memory.base l.memory ≡ g.M.Memory.base l.fn.memory;
  size : length (g.M.Memory.bytes l.memory) ≡ length (g.M.Memory.bytes l.fn.memory);
  put : g.M.Memory.bytes l.memory ≡ overwritten (g.M.Memory.bytes l.fn.memory) (l.at - g.M.Memory.base l.fn.memory) (take l.i l.bytes);
}
