use Rattle.hanging_sizes.proofs.Payloads.{payloads_hang}
use Rattle.hanging_sizes.proofs.laws.payloads_hang.Goals as goal

pub returns : goal.returns
returns c = payloads_hang
