-- Lists, operands and assignments of which a part has been read.
use Rattle.std.specs.Prelude.{List, ◌++◌}
use Rattle.sail_base.specs.declared.place.Place.{Place}
use Rattle.sail_syntax.specs.declared.expressions.Exp.{Exp}
use Rattle.sail_syntax.specs.declared.expressions.Exp.TheVariants as V
use Rattle.sail_syntax.specs.declared.expressions.LExp.{LExp}
use Rattle.sail_syntax.specs.declared.expressions.Target.{Target}
use Rattle.sail_syntax.specs.declared.expressions.Suffix.{Suffix}
use Rattle.sail_grammar.specs.Form.{Tree, Pair, Left, Right}
use Rattle.sail_grammar.specs.TypeTrees.{typ_of}
use Rattle.sail_grammar.specs.ExpTrees.{targets_of, assigned_of, suffixes_of, suffix_of}

abbrev pub suffixes_behind : List Suffix → Tree → List Suffix
suffixes_behind list t = list ++ suffixes_of t

-- an operand, with the type behind its `:`
abbrev pub annotated_of : Place → Exp → Tree → Exp
annotated_of place e (Left (Pair colon t)) = V.Typed place e (typ_of t)
annotated_of place e t = e

-- an assignment to a first target and others, with the targets that are still ahead and the value
abbrev pub assigned_behind : Place → LExp → List Target → Tree → Exp
assigned_behind place target more t = V.Assign place target (more ++ targets_of t) (assigned_of t)

-- the two suffixes
abbrev pub field_of : Tree → Suffix
field_of t = suffix_of (Right t)

abbrev pub index_of : Tree → Suffix
index_of t = suffix_of (Left t)
