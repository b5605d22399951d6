-- What the machine's results say of those in the meaning of code.
use Rattle.std.specs.Prelude.{◌≡◌, ℕ, Bool, true, false, nat_le, ◌&&◌, ℤ, pos, negsuc, cond, List, Option, Some, None}
use Rattle.sail_types.specs.declared.values.Value.{Value}
use Rattle.sail_types.specs.declared.values.Value.TheVariants as V
use Rattle.model_state.specs.declared.cause.Ended.{Ended}
use Rattle.model_state.specs.declared.cause.Ended.TheVariants as E
use Rattle.model_state.specs.RunState.{RunState, Access, Ran, with_register}
use Rattle.jib.specs.declared.code.Target.{Target}
use Rattle.jib.specs.declared.code.Target.TheVariants as T
use Rattle.jib.specs.Jib.{put}
use Rattle.jib_values.specs.declared.results.Made.{Made}
use Rattle.jib_values.specs.declared.results.Made.TheVariants as M
use Rattle.jib_values.specs.Sources.{filled}

-- what an operation came to from one state to another
abbrev pub MadeIs : Option Ran → Made → RunState → RunState → Type 0
MadeIs ran M.Nothing s t = (ran ≡ None) × (t ≡ s)
MadeIs ran (M.Result v) s t = (accesses : List Access) × (ran ≡ Some (record { ended = E.Value v; state = t; accesses = accesses }))
MadeIs ran (M.Stop cause) s t = (accesses : List Access) × (ran ≡ Some (record { ended = E.Stop cause; state = t; accesses = accesses }))

-- a result without state
abbrev pub made_of : Option Value → Made
made_of None = M.Nothing
made_of (Some v) = M.Result v

-- how it ends as a part of a run; none where there is no result
abbrev pub made_ended : Made → Option Ended
made_ended M.Nothing = None
made_ended (M.Result v) = Some (E.Value v)
made_ended (M.Stop cause) = Some (E.Stop cause)

-- there is a result, or a stop
abbrev pub is_made : Made → Bool
is_made M.Nothing = false
is_made made = true

-- the target has this value, and nothing else changed
abbrev pub Wrote : ℕ → Target → Value → List Value → List Value → RunState → RunState → Type 0
Wrote hart (T.Slot i) v old new s t = (filled new ≡ put (filled old) i v) × (t ≡ s)
Wrote hart (T.Register i) v old new s t = (new ≡ old) × (t ≡ with_register hart i v s)

-- the width that an integer is of a word of 1 to 16 bytes; 0 where it is none
abbrev pub byte_width : ℤ → ℕ
byte_width (pos n) = cond (nat_le 1 n && nat_le n 16) n 0
byte_width (negsuc n) = 0
