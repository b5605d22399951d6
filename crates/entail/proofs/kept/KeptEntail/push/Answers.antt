use Rattle.std.proofs.Common.{ap, ◌∙◌}
use Rattle.entail.specs.Levels.{facts_of, level_of}
use Rattle.entail.proofs.Prefixes.{pushed_kept}
use Rattle.entail.proofs.kept.KeptEntail.push.Goals as goal

pub invariant_of-self-2 : goal.invariant_of-self-2
invariant_of-self-2 c =
    record {
      none = c.self.invariant.none;
      each = pushed_kept c.self.inside.prefixes c.push.new.self (record { fact = c.args.fact; level = c.in_ok-level.level })
          c.in_ok-push.ensures.pushed c.self.invariant.each (c.in_ok-level.ensures _ (c.last_level.ensures ∙
          ap (λ ps. level_of (facts_of ps)) c.as_slice.ensures));
    }
