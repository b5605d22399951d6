-- How the run of a builtin ends where the table of builtins says that its call is made: what it changes, and what it gives.
use Rattle.std.proofs.Common.{◌≡◌, ℕ, zero, suc, Bool, true, false, List, [], ◌∷◌, ◌++◌, map, Option, Some, None, option_map, refl, ap, ◌∙◌}
use Rattle.std.proofs.Common.{if◌then◌else◌}
use Rattle.sail_types.specs.Numbers.{Positive}
use Rattle.sail_types.specs.declared.numbers.Num.{Num}
use Rattle.sail_types.specs.declared.values.Value.{Value, out-Value}
use Rattle.builtins.specs.RowValues.{Opened}
use Rattle.model_state.specs.declared.cause.Ended.{Ended as EndOfRow}
use Rattle.model_state.specs.declared.cause.Ended.TheVariants as E
use Rattle.model_state.specs.declared.state.Hart.{Hart}
use Rattle.model_state.specs.declared.state.Reservation.{Reservation}
use Rattle.model_state.specs.RunState.{RunState, changed}
use Rattle.model_state.specs.StateRows.{Call, reading, reserving, writing, writing_cond, asking, putting, is_there, may_write, after_write, hart_with}
use Rattle.model_state.specs.StateRows.{with_reservation, written, ended_by, state_after, access_of, then_accesses, call_ran}
use Rattle.row_types.specs.declared.kinds.RowType.{RowType}
use Rattle.row_types.specs.Calls.{is_result, gives}
use Rattle.row_types.specs.laws.StateEnds.{ends_by, comes_by}
use Rattle.sail_core.specs.Run.{Now, needs, ended_as, after_row}
use Rattle.value_laws.proofs.Basics.{no}
use Rattle.row_laws.specs.Laws.{Stays, Ends}

-- ---- registers stay

abbrev registers : List Hart → List (List Value)
registers harts = map (λ h. h.registers) harts

changed_registers : (f : Hart → Hart) → ((h : Hart) → (f h).registers ≡ h.registers) → (i : ℕ) (harts : List Hart)
    → registers (changed f i harts) ≡ registers harts
changed_registers f same i [] = refl
changed_registers f same zero (h ∷ harts) = ap (λ vs. vs ∷ registers harts) (same h)
changed_registers f same (suc i) (h ∷ harts) = ap (λ more. h.registers ∷ more) (changed_registers f same i harts)

all_registers : (f : Hart → Hart) → ((h : Hart) → (f h).registers ≡ h.registers) → (harts : List Hart) → registers (map f harts) ≡ registers harts
all_registers f same [] = refl
all_registers f same (h ∷ harts) = λ j. same h j ∷ all_registers f same harts j

reserved_registers : (hart : ℕ) (kept : Option Reservation) (s : RunState) → registers (with_reservation hart kept s).harts ≡ registers s.harts
reserved_registers hart kept s = changed_registers (hart_with kept) (λ h. refl) hart s.harts

written_registers : (s : RunState) (w a : ℕ) (word : List Bool) → registers (written s w a word).harts ≡ registers s.harts
written_registers s w a word = all_registers (after_write w a) (λ h. refl) s.harts

if_registers : (b : Bool) (s t : RunState) → registers t.harts ≡ registers s.harts → registers (if b then t else s).harts ≡ registers s.harts
if_registers true s t e = e
if_registers false s t e = refl

call_registers : (call : Call) (s : RunState) → registers (state_after call s).harts ≡ registers s.harts
call_registers (reading hart w a) s = refl
call_registers (reserving hart w a) s =
    if_registers (is_there s w a) s (with_reservation hart (Some (record { place = a; width = w })) s)
    (reserved_registers hart (Some (record { place = a; width = w })) s)
call_registers (writing hart w a word) s = if_registers (is_there s w a) s (written s w a word) (written_registers s w a word)
call_registers (writing_cond hart w a word) s =
    let after : RunState = if may_write hart s w a then written s w a word else s in
    if_registers (is_there s w a) s (with_reservation hart None after)
    (reserved_registers hart None after ∙ if_registers (may_write hart s w a) s (written s w a word) (written_registers s w a word))
call_registers (asking hart w a) s = refl
call_registers (putting hart text) s = refl

-- ---- ends

pub stays : {X : Type 0} (now : Now X) → Stays now now
stays now = record { locals = refl; ticks = refl; opened = refl; registers = refl }

module _ {X : Type 0} (P : Value → Type 0) (beyond : Num → Positive) (t : RowType) (os : Opened)
    (known : (v : Value) → is_result beyond t os (out-Value v) ≡ true → P v) (now : Now X) where
  pub value_ends : (o : Option Value) → gives beyond t os o ≡ true → Ends P now (needs o now)
  value_ends None h = no h
  value_ends (Some v) h = (known v h, stays now)

  ended_so : (e : EndOfRow) (after : Now X) → Stays now after → ends_by beyond t os e ≡ true → Ends P now (ended_as e after)
  ended_so (E.Value v) after s h = (known v h, s)
  ended_so (E.Stop cause) after s h = s

  pub call_ends : (o : Option Call) → comes_by beyond t os (option_map (λ call. call_ran call now.state) o) ≡ true
      → Ends P now (after_row (option_map (λ call. call_ran call now.state) o) now)
  call_ends None h = no h
  call_ends (Some call) h =
      ended_so (ended_by call now.state)
      (record now { state = state_after call now.state; accesses = now.accesses ++ then_accesses (access_of call now.state) [] })
      (record { locals = refl; ticks = refl; opened = refl; registers = call_registers call now.state }) h
