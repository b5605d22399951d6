-- Code whose runs end, and what is left to be done at a place.
use Rattle.std.specs.Prelude.{◌≡◌, ℕ, zero, suc, ◌+◌, ◌-◌, ◌*◌, ◌≤◌, ◌<◌, ◌⊎◌, List, [], ◌∷◌, Option, Some, None, slice_get, length}
use Rattle.jib.specs.declared.code.Instruction.{Instruction}
use Rattle.jib.specs.declared.code.Instruction.TheVariants as I
use Rattle.jib.specs.declared.code.Function.{Function}
use Rattle.jib.specs.Jib.{code_in, cycle_in, at}

abbrev pub code_at : List Function → ℕ → List Instruction
code_at fs f = code_in (slice_get fs f)

abbrev pub cycle_at : List Function → ℕ → ℕ
cycle_at fs f = cycle_in (slice_get fs f)

-- the instruction may lead to this label
abbrev pub Targets : Instruction → ℕ → Type 0
Targets (I.JumpIf a k) l = k ≡ l
Targets (I.Payload i a n k) l = k ≡ l
Targets (I.Goto k) l = k ≡ l
Targets (I.Call c) l = c.on_throw ≡ l
Targets i l = ⊥

-- the instruction calls this function with this handler
abbrev pub Calls : Instruction → ℕ → ℕ → Type 0
Calls (I.Call c) g l = (c.function ≡ g) × (c.on_throw ≡ l)
Calls i g l = ⊥

-- the function's code begins with a tick (or is none)
abbrev pub Begins : List Instruction → Type 0
Begins c = (i : Instruction) → slice_get c 0 ≡ Some i → i ≡ I.Tick

-- a jump that doesn't lead forward leads to a label with a tick behind it; a call leads to a function that begins with a tick, or to one of a lower number
pub record Ticking (fs : List Function) : Type 0 where
  pub loops : (f pc p l : ℕ) → Targets (at (code_at fs f) pc) l → slice_get (code_at fs f) p ≡ Some (I.Label l) → p ≤ pc
      → at (code_at fs f) (p + 1) ≡ I.Tick
  pub calls : (f pc g l : ℕ) → Calls (at (code_at fs f) pc) g l → Begins (code_at fs g) ⊎ (g < f)

-- each label that is jumped to is set
pub record Set (fs : List Function) : Type 0 where
  pub set : (f pc l : ℕ) → Targets (at (code_at fs f) pc) l → (p : ℕ) × (slice_get (code_at fs f) p ≡ Some (I.Label l))

-- each label is set at one place at most
pub record Once (fs : List Function) : Type 0 where
  pub once : (f p q k : ℕ) → slice_get (code_at fs f) p ≡ Some (I.Label k) → slice_get (code_at fs f) q ≡ Some (I.Label k) → p ≡ q

-- each call leads to a function of the same cycle, or of a lower one
pub record Falling (fs : List Function) : Type 0 where
  pub calls : (f pc g l : ℕ) → Calls (at (code_at fs f) pc) g l → cycle_at fs g ≤ cycle_at fs f

-- how much can be done from here before a tick, in the function
abbrev pub label_rank : Instruction → ℕ → ℕ
label_rank I.Tick n = 2
label_rank i n = 4 + 2 * n

abbrev pub rank_of : Option Instruction → Instruction → ℕ → ℕ
rank_of None next n = 0
rank_of (Some I.Tick) next n = 0
rank_of (Some (I.Label l)) next n = label_rank next n
rank_of (Some i) next n = 4 + 2 * n

abbrev pub rank : List Instruction → ℕ → ℕ
rank c pc = rank_of (slice_get c pc) (at c (pc + 1)) (length c - pc)

-- more than each rank in these functions
abbrev pub widest : List Function → ℕ
widest [] = 5
widest (f ∷ fs) = 2 * length f.code + widest fs

-- what a step of a function counts: a whole run of one of a lower number that begins without a tick is less
abbrev pub unit : ℕ → ℕ → ℕ
unit w zero = 1
unit w (suc f) = w * unit w f

abbrev pub worth : List Function → ℕ → ℕ
worth fs f = unit (widest fs) f

abbrev pub weight : List Function → ℕ → ℕ → ℕ
weight fs f pc = rank (code_at fs f) pc * worth fs f

-- what a tick counts
abbrev pub limit : List Function → ℕ
limit fs = worth fs (length fs)
