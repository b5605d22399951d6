use Rattle.std.proofs.Common.{◌≡◌, ◌+◌, ◌-◌, ◌∙◌, ◌∷◌, [], ◌++◌, take, get_or, ap, sym, arith, add-one, length-take, refl}
use Rattle.std.proofs.Math.Seq.{take-suc}
use Rattle.mem_store.specs.Bytes.{overwritten, word_bytes}
use Rattle.elf_load.proofs.Puts.{put_more, put_keeps}
use Rattle.elf_load.proofs.placing.put_bytes.Goals as goal

pub loop-i-preserved : goal.loop-i-preserved
loop-i-preserved g c =
    let base = g.M.Memory.base c.args.memory.now in
    let old = g.M.Memory.bytes c.args.memory.now in
    let bytes = c.args.bytes.now in
    let i = c.loop-i.i in
    let next : take (i + 1) bytes ≡ take i bytes ++ get_or bytes i 0 ∷ [] = ap (λ n. take n bytes) (add-one i) ∙ take-suc bytes i 0 c.loop-i-test.true in
    let here : c.args.at + i - g.M.Memory.base c.loop-i.memory ≡ c.args.at - base + i = omega (arith, c.loop-i.invariant.same, c.requires.within.0) in
    record {
      same = c.write.ensures.same ∙ c.loop-i.invariant.same;
      size = put_keeps (g.M.Memory.bytes c.loop-i.memory) _ (word_bytes 1 c.new.result) _ 1 c.write.ensures.written
          refl (omega (
            arith,
            here,
            c.loop-i.invariant.size,
            c.requires.within.0,
            c.requires.within.1,
            c.loop-i-test.true,
          )) ∙ c.loop-i.invariant.size;
      put = put_more old (g.M.Memory.bytes c.loop-i.memory) _ (word_bytes 1 c.new.result) (c.args.at - base) _ i (get_or bytes i 0) (take i bytes)
          (omega (arith, c.requires.within.0, c.requires.within.1)) (c.type_inv.bytes i).fits c.loop-i.invariant.put
          (omega (arith, length-take i bytes, c.loop-i-test.true)) here (ap (word_bytes 1) c.new.ensures)
          c.write.ensures.written
          ∙ ap (overwritten old (c.args.at - base)) (sym next);
    }
