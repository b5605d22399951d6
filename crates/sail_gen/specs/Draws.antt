-- Draws of a linear congruential generator.
use Rattle.std.specs.Prelude.{ℕ, zero, suc, ◌+◌, ◌*◌, ◌%◌}

-- the state behind a state
abbrev pub next : ℕ → ℕ
next state = (75 * state + 74) % 65537

-- the state after so many draws from a state
unfoldable pub state_after : ℕ → ℕ → ℕ
state_after state zero = state
state_after state (suc draws) = next (state_after state draws)

-- the draw behind so many draws from a state: a number below the bound
abbrev pub draw : ℕ → ℕ → ℕ → ℕ
draw state draws bound = next (state_after state draws) % bound
