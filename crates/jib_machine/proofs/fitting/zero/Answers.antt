use Rattle.std.proofs.Common.{◌≡◌, sym, subst, true}
use Rattle.jib_values.specs.Widths.{all_narrow}
use Rattle.jib_machine.proofs.NarrowLaws.{valid_narrow}
use Rattle.jib_machine.proofs.fitting.zero.Goals as goal

pub zero_within-requires : goal.zero_within-requires
zero_within-requires c = record {
  narrow = subst (λ q. all_narrow q ≡ true) (sym c.as_slice-types.ensures) (valid_narrow c.args.machine.now.program c.args.machine.now.kept);
}
