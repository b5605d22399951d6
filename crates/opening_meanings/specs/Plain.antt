-- What can be called where nothing of the model runs, in top-level lets and initial values of registers: constructors and builtins (Sail language
-- manual, "Let bindings", "Registers").
use Rattle.std.specs.Prelude.{Bool, true, false, Option, Some, None}
use Rattle.shape_rules.specs.declared.callees.Candidate.{Candidate}
use Rattle.shape_rules.specs.declared.callees.Meant.{Meant}
use Rattle.shape_rules.specs.declared.callees.Meant.TheVariants as M
use Rattle.shape_rules.specs.Scopes.{Setting}
use Rattle.shape_meanings.specs.Naming.{is_constructor}

abbrev pub callee_if : Bool → Candidate → Option Meant
callee_if true f = Some (M.Callee f)
callee_if false f = None

-- what is left of what a name means where no function, mapping or overload can be called
abbrev pub uncalled_meant : Option Meant → Option Meant
uncalled_meant (Some (M.Callee f)) = callee_if (is_constructor f.doing) f
uncalled_meant (Some (M.Mapping m)) = None
uncalled_meant (Some (M.Overload fs)) = None
uncalled_meant meant = meant

-- the same names of values, and no function, mapping or overload
abbrev pub uncalled : Setting → Setting
uncalled setting = record setting { value = λ name. uncalled_meant (setting.value name) }
