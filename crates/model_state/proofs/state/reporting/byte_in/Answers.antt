use Rattle.std.proofs.Common.{◌-◌, ap, sym, ◌∙◌, Some, arith}
use Rattle.sail_base.specs.Bits.{value_of}
use Rattle.model_state.proofs.Reported.{byte_read, read_below}
use Rattle.model_state.proofs.state.reporting.byte_in.Goals as goal

pub overflow_cast-result : goal.overflow_cast-result
overflow_cast-result g c =
    let base = g.M.Memory.base c.args.memory.now in
    record {
      fits = read_below (g.M.Memory.bytes c.args.memory.now) (c.args.at - base) _
          (omega (arith, c.requires.0, c.requires.1)) c.read.ensures.fits (c.bits.ensures.value ∙ ap value_of
          c.read.ensures.word);
    }

pub returns : goal.returns
returns g c =
    let base = g.M.Memory.base c.args.memory.now in
    byte_read (g.M.Memory.bytes c.args.memory.now) (c.args.at - base) (omega (arith, c.requires.0, c.requires.1))
    c.read.ensures.fits ∙ ap Some (sym (c.bits.ensures.value ∙ ap value_of c.read.ensures.word))
