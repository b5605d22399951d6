use Rattle.std.proofs.Common.{◌≡◌, ◌+◌, ◌*◌, drop}
use Rattle.sail_types.specs.Named.{field_types}
use Rattle.told_sizes.specs.Exact.{all_pass, typ_passes}
use Rattle.told_types.proofs.passing.+passes.Given as goal

-- the rest decides
abbrev pub invariant-all_pass-loop-part : goal.invariant-all_pass-loop-part
invariant-all_pass-loop-part l =
    all_pass (typ_passes l.types l.depth) (drop l.part-index l.parts) l.seen l.count l.constants
    ≡ all_pass (typ_passes l.types l.depth) l.parts l.seen l.count l.constants

abbrev pub invariant-each_passes-loop-field : goal.invariant-each_passes-loop-field
invariant-each_passes-loop-field l =
    all_pass (typ_passes l.types l.depth) (field_types (drop l.field-index l.fields)) l.seen l.count l.constants
    ≡ all_pass (typ_passes l.types l.depth) (field_types l.fields) l.seen l.count l.constants

-- a depth counts five times, so that the calls between two depths count down too
abbrev pub decreases-typ_passes : goal.decreases-typ_passes
decreases-typ_passes l = 5 * l.depth

abbrev pub decreases-form_passes : goal.decreases-form_passes
decreases-form_passes l = 5 * l.depth + 4

abbrev pub decreases-all_pass : goal.decreases-all_pass
decreases-all_pass l = 5 * l.depth + 1

abbrev pub decreases-named_passes : goal.decreases-named_passes
decreases-named_passes l = 5 * l.depth + 3

abbrev pub decreases-fields_pass : goal.decreases-fields_pass
decreases-fields_pass l = 5 * l.depth + 2

abbrev pub decreases-each_passes : goal.decreases-each_passes
decreases-each_passes l = 5 * l.depth + 1
