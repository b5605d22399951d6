use Rattle.std.proofs.Common.{sym, ap, subst, List, ℕ, Err}
use Rattle.sail_outside.specs.Bytes.{Sent, SentPart}
use Rattle.sail_top.specs.parts.Finished.{Finished, all, fault, wanting}
use Rattle.sail_top.specs.declared.status.Status.{Status}
use Rattle.sail_top.proofs.top.finish.Goals as goal

pub returns-in-Ok : goal.returns-in-Ok
returns-in-Ok g c =
    let given = g.K.Sink.given c.args.out.now in
    let now = g.K.Sink.given c.write_all.new.sink in
    subst (λ (s : Status). Finished c.args.answer s given now (g.K.Sink.faults c.args.out.now) (g.K.Sink.faults c.write_all.new.sink))
    (sym c.into_status.ensures)
    (all (subst (λ (bytes : List ℕ). Sent given bytes now) c.as_slice.ensures c.in-Ok.ensures.all))

pub returns-in-Err-Fault : goal.returns-in-Err-Fault
returns-in-Err-Fault g c =
    let given = g.K.Sink.given c.args.out.now in
    let now = g.K.Sink.given c.write_all.new.sink in
    fault (subst (λ (bytes : List ℕ). SentPart given bytes now) c.as_slice.ensures c.in-Err-Fault.ensures.part)
    (c.in-Err-Fault.ensures.fault (ap Err c.in-Err-Fault.field-0-is))

pub returns : goal.returns
returns g c =
    let given = g.K.Sink.given c.args.out.now in
    let now = g.K.Sink.given c.write_all.new.sink in
    wanting (subst (λ (bytes : List ℕ). SentPart given bytes now) c.as_slice.ensures c.in-Err-OutOfMemory.ensures.part)
