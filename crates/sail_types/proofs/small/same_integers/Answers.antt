use Rattle.std.proofs.Common.{rules}
use Rattle.std.proofs.lemmas.Slice.Eq.{slice_eq-Decides}
use Rattle.std.proofs.lemmas.Bool.Decides.{Decides-int_eq}
use Rattle.sail_types.proofs.small.same_integers.Goals as goal

pub returns : goal.returns
returns c = search (rules, slice_eq-Decides Decides-int_eq c.args.a.now c.args.b.now c.eq.result c.eq.ensures)
