use Rattle.std.proofs.Common.{◌+◌, length}
use Rattle.lowered_ends.proofs.Masses.{kind_mass, mass, masses}
use Rattle.lowered_typed.proofs.types.+put_types.Given as goal

abbrev pub decreases-put_types : goal.decreases-put_types
decreases-put_types l = mass l.node.now

abbrev pub decreases-put_kind_types : goal.decreases-put_kind_types
decreases-put_kind_types l = masses l.parts.now + kind_mass l.kind.now + 10

abbrev pub decreases-put_if_types : goal.decreases-put_if_types
decreases-put_if_types l = masses l.parts.now + 8

abbrev pub decreases-put_one_branch : goal.decreases-put_one_branch
decreases-put_one_branch l = masses l.parts.now + 6

abbrev pub decreases-put_path_types : goal.decreases-put_path_types
decreases-put_path_types l = masses l.parts.now + length l.suffixes.now + 6

abbrev pub decreases-put_second_types : goal.decreases-put_second_types
decreases-put_second_types l = masses l.parts.now + 4

abbrev pub decreases-put_first_types : goal.decreases-put_first_types
decreases-put_first_types l = masses l.parts.now + 2

abbrev pub decreases-put_block_types : goal.decreases-put_block_types
decreases-put_block_types l = masses l.parts.now + 4

abbrev pub decreases-put_last_types : goal.decreases-put_last_types
decreases-put_last_types l = masses l.parts.now + 2

abbrev pub decreases-put_all_types : goal.decreases-put_all_types
decreases-put_all_types l = masses l.nodes.now + 2
