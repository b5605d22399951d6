use Rattle.sail_compile.proofs.RunLemmas.{started}
use Rattle.sail_compile.proofs.flat_code.start.Goals as goal

pub returns : goal.returns
returns c = λ written sized sizes is_flat low.
    started written sized c.args.lowered.flat c.args.lowered.checked.program c.args.lowered.before sizes is_flat low c.in_ok-entries.entries
    c.in_ok-entries.ensures c.new.result c.new.ensures.program c.new.ensures.types c.new.ensures.registers c.new.ensures.entries c.new.ensures.opened
