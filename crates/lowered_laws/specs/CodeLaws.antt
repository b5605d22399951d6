-- Laws of pieces of lowered code.
use Rattle.std.specs.Prelude.{◌≡◌, ℕ, ◌+◌, ◌≤◌, ◌&&◌, cond, nat_eq, nat_le, nat_lt, List, [], ◌∷◌, length, Some}
use Rattle.sail_types.specs.declared.values.Value.{Value}
use Rattle.jib.specs.declared.code.Instruction.{Instruction}
use Rattle.jib.specs.declared.code.Instruction.TheVariants as I
use Rattle.jib.specs.declared.code.Module.{Module}
use Rattle.jib.specs.Jib.{Slots, Store, Outcome, Here, Runs, code_of, slots_of}
use Rattle.size_values.specs.declared.constants.Picked.{Picked}
use Rattle.checked_meaning.specs.Checked.{Noted}
use Rattle.sized_nodes.specs.declared.trees.Case.{Case}
use Rattle.sized_nodes.specs.declared.trees.Lead.{Lead}
use Rattle.sized_meanings.specs.Present.{present}
use Rattle.lowered_pieces.specs.Places.{Kit, Names, HasSlots}
use Rattle.lowered_laws.specs.Standing.{HasAt, Types, Tested, Told}
use Rattle.lowered_pieces.specs.Chains.{by_case, many}

-- ---- the code by cases runs that of the case that is present, and goes on behind all

-- a run from the code of a case on, wherever that stands, if what follows is run from the end of all cases on
abbrev pub Arm : Module → List Value → ℕ → Here → Outcome → Kit → ℕ → (ℕ → List Instruction) → ℕ → Store → Slots → Type 0
Arm m lets hart here r kit p code pe s sl = (l pc : ℕ) (now : Slots) → Tested kit p sl now → HasAt (code_of m here.function) pc (code l)
    → ((after : Slots) (then_ : Store) → Runs m lets hart here pe after then_ r → Runs m lets hart here (pc + length (code l)) after then_ r)
    → Runs m lets hart here pc now s r

abbrev pub PresentRuns : {A : Type 0} → (A → List Picked) → Type 0
PresentRuns {A} picks = (m : Module) (lets : List Value) (hart : ℕ) (here : Here) (r : Outcome) (kit : Kit)
    → Types m.types kit → Names kit (slots_of m here.function) → HasSlots (slots_of m here.function) (code_of m here.function)
    → (p q : ℕ) (arm : A → ℕ → List Instruction) (noted : Noted) (s : Store) (k : A) (us : List A) (l pc pe : ℕ) (sl : Slots)
    → present picks noted us ≡ Some k → Told kit noted sl → pe ≡ pc + length (by_case picks kit p q arm l us)
    → HasAt (code_of m here.function) pc (by_case picks kit p q arm l us)
    → Arm m lets hart here r kit p (arm k) pe s sl → Runs m lets hart here pc sl s r

-- the cases of a node
abbrev pub CasesRun : Type 0
CasesRun = PresentRuns (λ (c : Case). c.picked)

-- the instances that a call leads to
abbrev pub LeadsRun : Type 0
LeadsRun = PresentRuns (λ (x : Lead). x.picked)

-- ---- it sets labels of its own alone, each at most once

abbrev pub is_set : ℕ → Instruction → ℕ
is_set k (I.Label l) = cond (nat_eq l k) 1 0
is_set k i = 0

-- how often a label is set
abbrev pub sets : ℕ → List Instruction → ℕ
sets k [] = 0
sets k (i ∷ c) = is_set k i + sets k c

-- 1 for the labels from l on, so many
abbrev pub inside : ℕ → ℕ → ℕ → ℕ
inside l n k = cond (nat_le l k && nat_lt k (l + n)) 1 0

-- code whose labels are among so many from its first one on
abbrev pub Own : (ℕ → List Instruction) → ℕ → Type 0
Own co n = (k l : ℕ) → sets k (co l) ≤ inside l n k

abbrev pub LabelsAreOwn : {A : Type 0} → (A → List Picked) → Type 0
LabelsAreOwn {A} picks = (kit : Kit) (p q : ℕ) (arm : A → ℕ → List Instruction) → ((a : A) → Own (arm a) q) → (us : List A)
    → Own (λ l. by_case picks kit p q arm l us) (many q us)

abbrev pub LabelsOfCasesAreOwn : Type 0
LabelsOfCasesAreOwn = LabelsAreOwn (λ (c : Case). c.picked)

abbrev pub LabelsOfLeadsAreOwn : Type 0
LabelsOfLeadsAreOwn = LabelsAreOwn (λ (x : Lead). x.picked)
