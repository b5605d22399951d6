-- A typed call of a builtin ends as it does in a run.
use Rattle.std.proofs.Common.{◌≡◌, ℕ, true, false, Bool, List, length, nat_le, Some, refl, inl, inr}
use Rattle.std.proofs.lemmas.Bool.{cases_Bool}
use Rattle.sail_types.specs.declared.values.Value.TheVariants as value
use Rattle.model_state.specs.RunState.{RunState}
use Rattle.model_state.specs.StateRows.{is_there, console_room, read_result, write_result, write_cond_result, put_result}
use Rattle.model_state.specs.StateRows.{reading, reserving, writing, writing_cond, putting, ended_by}
use Rattle.model_state.specs.laws.Results.{ResultsEnd, ended_with}

reads : (s : RunState) (hart w a : ℕ) → ended_with value.Bits (read_result s w a) ≡ Some (ended_by (reading hart w a) s)
reads s hart w a = elim (cases_Bool (is_there s w a)) [ inl there ↦ rw there refl | inr not_there ↦ rw not_there refl ]

writes : (s : RunState) (hart w a : ℕ) (word : List Bool)
    → ended_with (λ done. value.Unit) (write_result s w a) ≡ Some (ended_by (writing hart w a word) s)
writes s hart w a word = elim (cases_Bool (is_there s w a)) [ inl there ↦ rw there refl | inr not_there ↦ rw not_there refl ]

writes_cond : (s : RunState) (hart w a : ℕ) (word : List Bool)
    → ended_with value.Truth (write_cond_result hart s w a) ≡ Some (ended_by (writing_cond hart w a word) s)
writes_cond s hart w a word = elim (cases_Bool (is_there s w a)) [ inl there ↦ rw there refl | inr not_there ↦ rw not_there refl ]

puts : (s : RunState) (hart : ℕ) (text : List ℕ)
    → ended_with (λ done. value.Unit) (put_result s text) ≡ Some (ended_by (putting hart text) s)
puts s hart text =
    elim (cases_Bool (nat_le (length text) (console_room s))) [ inl fits ↦ rw fits refl | inr too_long ↦ rw too_long refl ]

pub results_end : ResultsEnd
results_end = record { reads = reads; reserves = reads; writes = writes; writes_cond = writes_cond; puts = puts }
