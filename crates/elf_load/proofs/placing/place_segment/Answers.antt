use Rattle.std.proofs.Common.{◌-◌, ◌++◌, length, replicate, ◌∙◌, ap, refl, arith}
use Rattle.mem_store.specs.Bytes.{overwritten}
use Rattle.elf_load.proofs.Puts.{put_segment}
use Rattle.elf_load.proofs.placing.place_segment.Goals as goal

pub returns-clause-placed : goal.returns-clause-placed
returns-clause-placed g c =
    let old = g.M.Memory.bytes c.args.memory.now in
    let base = g.M.Memory.base c.args.memory.now in
    let place = c.args.segment.now.place in
    let size = c.args.segment.now.size in
    let within = c.requires.within c.if-segment-eq0.false in
    put_segment old (g.M.Memory.bytes c.put_bytes.new.memory) _ c.as_slice-bytes.result.now (place - base)
    (length c.as_slice-bytes.result.now) (place - g.M.Memory.base c.put_bytes.new.memory) size
    (omega (arith, within.0, within.1)) c.put_bytes.ensures.put refl (ap (λ b. place - b) c.put_bytes.ensures.same) c.put_zeros.ensures.put
    ∙ ap (λ bytes. overwritten old (place - base) (bytes ++ replicate (size - length bytes) 0)) c.as_slice-bytes.ensures
