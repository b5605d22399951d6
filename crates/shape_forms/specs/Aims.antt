-- What the code holds of targets that are calls, and of parts of targets.
use Rattle.std.specs.Prelude.{List, [], ◌∷◌, ◌++◌, length, map, Option, Some, None}
use Rattle.sail_syntax.specs.declared.name.Name.{Name}
use Rattle.sail_syntax.specs.declared.expressions.Exp.{Exp}
use Rattle.sail_base.specs.declared.place.Place.{Place}
use Rattle.shape_rules.specs.Scopes.{Setting, Locals}
use Rattle.shape_rules.specs.declared.callees.Candidate.{Candidate}
use Rattle.shape_rules.specs.Calls.{Solved, Chosen, args_found, chosen}
use Rattle.shape_rules.specs.Expressions.{part}
use Rattle.shape_rules.specs.Targets.{Part, Aimed, TargetPart, SuffixPart, part_aimed, read_aimed, read_with, read_shape, walked}
use Rattle.shape_rules.specs.Targets.{call_aim, call_aimed, callee_counted}
use Rattle.shape_rules.specs.Values.{last_place}
use Rattle.shape_walks.specs.declared.walks.Walk.{Walk}
use Rattle.shape_walks.specs.Walks.{known_shapes, args_of}
use Rattle.shape_walks.specs.Trees.{elaborates}

-- arguments of one callee, of which the failures are noted
abbrev pub solved_of : Walk → Solved
solved_of w = record { known = known_shapes w.plan; cores = w.cores; faults = [] }

-- f(a) of several callees as the base of a part, of which the failures in its arguments are noted
abbrev pub several_read : Name → List Candidate → Walk → Option Chosen → Aimed
several_read name fs w reader =
    read_with name 0 None reader (call_aimed name [] (args_of w) reader (chosen fs (w.shapes ++ read_shape reader ∷ [])))

-- f(a) of one callee as the base of a part: it is read by its arguments with nothing wanted
abbrev pub callee_read : Name → Candidate → List Candidate → List Exp → Setting → Locals → Aimed
callee_read name f fs args setting locals =
    read_with name (length args) (Some f) (chosen fs (args_found (elaborates args) setting locals).shapes)
    (callee_counted name f (map part args) setting locals)

-- f(a) as the base of a part
abbrev pub call_read : Name → List Part → Setting → Locals → Aimed
call_read name args setting locals = read_aimed (Some (name, args)) setting locals (call_aim name args setting locals)

-- what the base of a part is where it is read
abbrev pub read_of : TargetPart → Setting → Locals → Aimed
read_of base setting locals = read_aimed base.call setting locals (base.aim setting locals)

abbrev pub part_aimed_at : Place → TargetPart → List SuffixPart → Setting → Locals → Aimed
part_aimed_at first base suffixes setting locals =
    part_aimed (last_place first suffixes) (read_of base setting locals)
    (walked suffixes setting locals first base.place (read_of base setting locals).shape)
