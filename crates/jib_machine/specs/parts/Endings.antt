-- How what is worked out once may end: not as a schedule does.
use Rattle.std.specs.Prelude.{Bool, true, false, List}
use Rattle.std.specs.List.{list_all}
use Rattle.model_state.specs.declared.cause.Cause.TheVariants as C
use Rattle.model_state.specs.declared.cause.Ended.{Ended}
use Rattle.model_state.specs.declared.cause.Ended.TheVariants as E

abbrev pub may_end : Ended → Bool
may_end (E.Stop C.StepsDone) = false
may_end e = true

abbrev pub all_may_end : List Ended → Bool
all_may_end es = list_all may_end es
