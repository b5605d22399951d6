-- The ways through a function's code, and what is declared on each. A function is read as a flat list: the declarations of its slots,
-- then its instructions.
use Rattle.std.specs.Prelude.{◌≡◌, ◌⊎◌, ℕ, ◌+◌, cond, nat_eq, true, List, [], ◌∷◌, ◌++◌, map, Option, Some, None, slice_get}
use Rattle.jib.specs.declared.code.Source.{Source}
use Rattle.jib.specs.declared.code.Source.TheVariants as R
use Rattle.jib.specs.declared.code.Target.{Target}
use Rattle.jib.specs.declared.code.Target.TheVariants as G
use Rattle.jib.specs.declared.code.Instruction.{Instruction}
use Rattle.jib.specs.declared.code.Instruction.TheVariants as I
use Rattle.jib.specs.declared.code.Function.{Function}
use Rattle.jib.specs.declared.code.Module.{Module}
use Rattle.jib.specs.Valid.{valid, aim}

-- a declaration of a slot with the number of its type, or an instruction
pub data Line : Type 0 where
  Declare : ℕ → ℕ → Line
  Do : Instruction → Line

-- the declarations of the slots from i on
abbrev pub declarations : ℕ → List ℕ → List Line
declarations i [] = []
declarations i (t ∷ ts) = Declare i t ∷ declarations (i + 1) ts

abbrev pub listing : Function → List Line
listing f = declarations 0 f.slots ++ map Do f.code

-- the types of the slots that are declared so far
abbrev pub Known : Type 0
Known = ℕ → Option ℕ

abbrev pub declare : Line → Known → Known
declare (Declare i t) known j = cond (nat_eq i j) (Some t) (known j)
declare (Do i) known j = known j

-- what goes on to the next line
abbrev pub Falls : Line → Type 0
Falls (Do (I.Goto l)) = ⊥
Falls (Do (I.End a)) = ⊥
Falls (Do (I.Throw a)) = ⊥
Falls (Do (I.Stop cause)) = ⊥
Falls (Do I.NoMeasure) = ⊥
Falls line = Unit {0}

-- what goes to a label
abbrev pub Leaps : Line → ℕ → Type 0
Leaps (Declare i t) l = ⊥
Leaps (Do i) l = aim i ≡ Some l

-- a way from the beginning to a line, with what is declared on it
pub data Way (lines : List Line) : ℕ → Known → Type 0 where
  begins : Way lines 0 (λ i. None)
  falls : {at : ℕ} {known : Known} (line : Line) → Way lines at known → slice_get lines at ≡ Some line → Falls line
      → Way lines (at + 1) (declare line known)
  leaps : {at to : ℕ} {known : Known} (line : Line) (l : ℕ) → Way lines at known → slice_get lines at ≡ Some line → Leaps line l
      → slice_get lines to ≡ Some (Do (I.Label l)) → Way lines to known

-- a slot is among what is read
abbrev pub In : ℕ → List Source → Type 0
In i [] = ⊥
In i (R.Slot j ∷ rs) = (i ≡ j) ⊎ In i rs
In i (r ∷ rs) = In i rs

abbrev pub target_slots : Target → List Source
target_slots (G.Slot i) = R.Slot i ∷ []
target_slots (G.Register i) = []

-- what an instruction reads and the slots that it writes
abbrev pub uses : Instruction → List Source
uses (I.Copy t a) = a ∷ target_slots t
uses (I.Apply t op rs) = target_slots t ++ rs
uses (I.Call c) = R.Slot c.slot ∷ c.arguments
uses (I.JumpIf a l) = a ∷ []
uses (I.Payload i a k l) = a ∷ R.Slot i ∷ []
uses (I.End a) = a ∷ []
uses (I.Throw a) = a ∷ []
uses (I.Measure a) = a ∷ []
uses i = []

-- on each way to an instruction each slot that it uses is declared, at the one type that it has in the function
pub record Declared (f : Function) : Type 0 where
  pub before : (at i : ℕ) (x : Instruction) (known : Known) → Way (listing f) at known → slice_get (listing f) at ≡ Some (Do x) → In i (uses x)
      → (t : ℕ) × (known i ≡ Some t) × (slice_get f.slots i ≡ Some t)

abbrev pub DeclaredBeforeUse : Type 0
DeclaredBeforeUse = (m : Module) → valid m ≡ true → (n : ℕ) (f : Function) → slice_get m.functions n ≡ Some f → Declared f
