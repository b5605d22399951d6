use Rattle.std.proofs.Common.{sym, [], ◌∷◌, codes}
use Rattle.sail_types.specs.declared.types.Typ.TheVariants as T
use Rattle.sail_kinds.specs.Builtin.{int}
use Rattle.sail_kinds.proofs.Tables.{absent}
use Rattle.sail_kinds.proofs.builtins.alone.Goals as goal

pub returns-in_default : goal.returns-in_default
returns-in_default c =
    sym (absent c.args.name.now ((codes "bool", T.Bool) ∷ (codes "int", int) ∷ []) (c.in_default.not-bool, ((c.in_default.not-int, (tt, tt)), tt)))
