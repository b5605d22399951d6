use Rattle.std.proofs.Common.{ap}
use Rattle.entail.specs.Standing.{Standing}
use Rattle.entail.proofs.Prefixes.{some_prefix, last_taken, popped_kept}
use Rattle.entail.proofs.kept.KeptEntail.pop.Goals as goal

pub invariant_of-self : goal.invariant_of-self
invariant_of-self c =
    let some = some_prefix c.self.inside.prefixes c.args.self.now.facts (ap (λ (s : Standing). s.facts) c.self.view_is) c.requires in
    let taken = last_taken c.pop.result c.self.inside.prefixes c.pop.new.self some c.pop.ensures in
    record {
      none = c.self.invariant.none;
      each = popped_kept c.self.inside.prefixes c.pop.new.self taken.0 taken.1 c.self.invariant.each;
    }
