use Rattle.std.proofs.Common.{◌≡◌, ◌++◌, drop, map}
use Rattle.call_arguments.specs.Aims.{aimed}
use Rattle.call_arguments.specs.declared.aims.Aim.TheVariants as Aims
use Rattle.expression_steps.proofs.aims.each_part_aim.Given as goal

abbrev pub invariant-loop-reading : goal.invariant-loop-reading
invariant-loop-reading l = l.made ++ map (aimed Aims.PartOf) (drop l.reading-index l.readings) ≡ map (aimed Aims.PartOf) l.readings
