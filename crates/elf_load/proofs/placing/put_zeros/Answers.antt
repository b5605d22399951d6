use Rattle.std.proofs.Common.{◌≡◌, ◌+◌, ◌-◌, ◌∙◌, suc, replicate, ap, sym, arith, refl}
use Rattle.std.proofs.lemmas.List.{length-replicate}
use Rattle.mem_store.specs.Bytes.{overwritten, word_bytes}
use Rattle.elf_load.proofs.Puts.{put_more, put_keeps, replicate-more}
use Rattle.elf_load.proofs.placing.put_zeros.Goals as goal

pub loop-i-preserved : goal.loop-i-preserved
loop-i-preserved g c =
    let base = g.M.Memory.base c.args.memory.now in
    let old = g.M.Memory.bytes c.args.memory.now in
    let i = c.loop-i.i in
    let from = c.args.from in
    let start = c.args.at - base + from in
    let count : suc (i - from) ≡ i + 1 - from = omega (arith, c.loop-i.auto.i) in
    let here : c.args.at + i - g.M.Memory.base c.loop-i.memory ≡ start + (i - from) = omega
    (arith, c.loop-i.invariant.same, c.requires.within.0, c.loop-i.auto.i) in
    record {
      same = c.write.ensures.same ∙ c.loop-i.invariant.same;
      size = put_keeps (g.M.Memory.bytes c.loop-i.memory) _ (word_bytes 1 c.new.result) _ 1 c.write.ensures.written
          refl (omega (
            arith,
            here,
            c.loop-i.invariant.size,
            c.requires.within.0,
            c.requires.within.1,
            c.loop-i-test.true,
            c.loop-i.auto.i,
          )) ∙ c.loop-i.invariant.size;
      put = put_more old (g.M.Memory.bytes c.loop-i.memory) _ (word_bytes 1 c.new.result) start _ (i - from) 0 (replicate (i - from) 0)
          (omega (arith, c.requires.within.0, c.requires.within.1, c.requires.order)) (omega arith)
          c.loop-i.invariant.put (sym (length-replicate (i - from) 0)) here (ap (word_bytes 1) c.new.ensures)
          c.write.ensures.written
          ∙ ap (overwritten old start) (replicate-more (i - from) 0 ∙ ap (λ n. replicate n 0) count);
    }
