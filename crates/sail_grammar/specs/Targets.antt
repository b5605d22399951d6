-- The expressions that may be assigned to, as targets.
use Rattle.std.specs.Prelude.{List, [], ◌∷◌, ◌++◌, map, Option, Some, None, option_map}
use Rattle.sail_base.specs.declared.place.Place.{Place}
use Rattle.sail_syntax.specs.declared.words.Brackets.TheVariants.{Tuple}
use Rattle.sail_syntax.specs.declared.expressions.Exp.{Exp, para-Exp}
use Rattle.sail_syntax.specs.declared.expressions.Exp.TheOpen as E
use Rattle.sail_syntax.specs.declared.expressions.Exp.TheOpen.{Exp-F, LExp-F}
use Rattle.sail_syntax.specs.declared.expressions.LExp.{LExp, out-LExp}
use Rattle.sail_syntax.specs.declared.expressions.LExp.TheVariants as T
use Rattle.sail_syntax.specs.declared.expressions.Stmt.{Stmt}
use Rattle.sail_syntax.specs.declared.expressions.Suffix.{Suffix}
use Rattle.sail_syntax.specs.declared.expressions.Case.{Case}
use Rattle.sail_syntax.specs.declared.expressions.FieldValue.{FieldValue}
use Rattle.sail_syntax.specs.declared.expressions.Index.{Index}
use Rattle.sail_syntax.specs.declared.expressions.Range.{Range}
use Rattle.sail_syntax.specs.declared.expressions.Target.{Target}

-- all of them, where each is there
abbrev pub both_there : Option LExp → Option (List LExp) → Option (List LExp)
both_there None ls = None
both_there (Some l) ls = option_map (λ more. l ∷ more) ls

abbrev pub all_there : List (Exp × Option LExp) → Option (List LExp)
all_there [] = Some []
all_there (e ∷ es) = both_there e.1 (all_there es)

-- some of them, where there are any
abbrev pub some_of : List (Exp × Option LExp) → Option (List LExp)
some_of [] = None
some_of es = all_there es

abbrev pub arguments : List (Exp × Option LExp) → Option (List Exp)
arguments [] = None
arguments es = Some (map (λ e. e.0) es)

-- a target with further suffixes behind it: they stand behind those that it has, so `(x[0])[1]` is `x[0][1]` (Sail language manual, "Assignments")
abbrev pub further_suffixes : Place → List Suffix → LExp → LExp-F Exp LExp Stmt Suffix Case FieldValue Index Range Target → LExp
further_suffixes place more l (E.ToPart first base suffixes) = T.ToPart place base (suffixes ++ more)
further_suffixes place more l form = T.ToPart place l more

abbrev pub part_target : Place → List Suffix → LExp → LExp
part_target place more l = further_suffixes place more l (out-LExp l)

-- a form with its parts and what they are as targets, as a target: a name, a call with arguments, some targets in brackets, and a target with suffixes
abbrev pub target_step : Exp-F (Exp × Option LExp) (LExp × Unit {0}) (Stmt × Unit {0}) (Suffix × Unit {0}) (Case × Unit {0}) (FieldValue × Unit {0})
    (Index × Unit {0}) (Range × Unit {0}) (Target × Unit {0}) → Option LExp
target_step (E.Variable name) = Some (T.ToName name)
target_step (E.Call name es) = option_map (T.ToCall name) (arguments es)
target_step (E.Group place Tuple es) = option_map (T.ToTuple place) (some_of es)
target_step (E.Part place base suffixes) = option_map (part_target place (map (λ s. s.0) suffixes)) base.1
target_step form = None

-- an expression as a target, where it is one
abbrev pub target : Exp → Option LExp
target = para-Exp (Option LExp) (Unit {0}) (Unit {0}) (Unit {0}) (Unit {0}) (Unit {0}) (Unit {0}) (Unit {0}) (Unit {0}) target_step (λ a. tt) (λ a. tt)
    (λ a. tt) (λ a. tt) (λ a. tt) (λ a. tt) (λ a. tt) (λ a. tt)
