use Rattle.std.proofs.Common.{◌≡◌, ◌++◌, ℕ, List, drop, map}
use Rattle.model_state.specs.declared.state.Register.{Register}
use Rattle.checked_meaning.specs.Items.{fixed_typ}
use Rattle.lowered_types.specs.Table.{type_in}
use Rattle.jib_lower.proofs.lowering.push_registers.Given as goal

-- the numbers from here on stand behind those so far
abbrev pub invariant-loop-register : goal.invariant-loop-register
invariant-loop-register l = (new : List ℕ)
    → new ≡ l.numbers ++ map (λ (r : Register). type_in l.numbered (fixed_typ l.types r.typ)) (drop l.register-index l.registers)
    → new ≡ l.initial.numbers ++ map (λ (r : Register). type_in l.numbered (fixed_typ l.types r.typ)) l.registers
