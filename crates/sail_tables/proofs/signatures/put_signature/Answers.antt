use Rattle.sail_tables.proofs.Signed.{signature_after}
use Rattle.sail_tables.proofs.signatures.put_signature.Goals as goal

pub returns : goal.returns
returns c = λ other. signature_after c.args.signatures.now c.insert.new.self c.args.name.now c.args.signature c.in_ok-insert.ensures.updates other
