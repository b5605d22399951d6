-- Cycles of calls of a module, by those of its model.
use Rattle.std.specs.Prelude.{◌≡◌, ℕ, ◌≤◌, true, Some, slice_get}
use Rattle.sail_core.specs.Numbers.{Instance}
use Rattle.sail_core.specs.declared.model.Function.{Function}
use Rattle.jib.specs.Jib.{cycle_of}
use Rattle.lowered_laws.specs.Modules.{Agrees, Leads, Made}

-- the functions of one cycle of the model have one number, those of other cycles and of none have others, and a call leads to the same number or a lower one
pub record CyclesStand (x : Made) : Type 0 where
  -- of the functions of the model
  pub number : ℕ → ℕ
  pub is_number : (p i : ℕ) (a : Instance) (f : Function) → Leads x p a i f → cycle_of x.m (x.function a.place) ≡ number i
  -- of what stands at a place: of a function that is called there, and of a direction
  pub at_ : ℕ → ℕ
  pub is_at : (p i : ℕ) (a : Instance) (f : Function) → Leads x p a i f → cycle_of x.m (x.function a.place) ≡ at_ a.place
  pub falls : (p i : ℕ) (a : Instance) (f : Function) → Leads x p a i f → at_ a.place ≤ at_ p
  pub is_way : (p d : ℕ) → x.crosses p d ≡ true → cycle_of x.m (x.direction d).function ≡ at_ (x.way d)
  pub falls_way : (p d : ℕ) → x.crosses p d ≡ true → at_ (x.way d) ≤ at_ p
  pub one : (i j : ℕ) (f g : Function) → slice_get x.s.functions i ≡ Some f → slice_get x.s.functions j ≡ Some g → number i ≡ number j
      → f.cycle ≡ g.cycle
  pub all : (i j c : ℕ) (f g : Function) → slice_get x.s.functions i ≡ Some f → slice_get x.s.functions j ≡ Some g → f.cycle ≡ Some c → g.cycle ≡ Some c
      → number i ≡ number j

abbrev pub CyclesAgree : Type 0
CyclesAgree = (x : Made) → CyclesStand x → Agrees x
