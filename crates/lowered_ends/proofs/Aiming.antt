-- What targets are, as it is found out.
use Rattle.std.proofs.Common.{◌≡◌, ◌∙◌, ◌≤◌, ◌<◌, ℕ, Bool, true, false, List, [], ◌∷◌, length, map, refl, sym, ap, arith}
use Rattle.std.proofs.lemmas.Bool.{false≢true}
use Rattle.std.specs.Prelude.{Option, Some, None, is_some}
use Rattle.sail_base.specs.declared.place.Place.{Place as TextPlace}
use Rattle.sail_core.specs.declared.targets.Caller.{Caller}
use Rattle.sail_core.specs.declared.targets.Suffix.{Suffix}
use Rattle.sail_core.specs.declared.targets.Target.{Target, out-Target}
use Rattle.sail_core.specs.declared.targets.TargetKind.TheVariants as T
use Rattle.lowered_pieces.specs.Writes.{Cell, Spot, called, cells_in, kind_spot, one, part_spot, several, several_spot, target_spot, with_cell}
use Rattle.lowered_steps.specs.Cells.{and_cell, cells_of, only_cell}
use Rattle.lowered_steps.proofs.Aimed.{spot_by}
use Rattle.lowered_ends.specs.Targets.{called_in, cells_if, one_in}
use Rattle.lowered_ends.proofs.Lists.{none_of}

some_none : (c : Cell) → Some c ≡ None → ⊥
some_none c e = false≢true (sym (ap is_some e))

none_some : (c : Cell) → None ≡ Some c → ⊥
none_some c e = false≢true (ap is_some e)

abbrev if_all : Bool → List Cell → Option (List Cell)
if_all true cs = Some cs
if_all false cs = None

all_if : (b : Bool) (ts : List Target) → if_all b (cells_of ts) ≡ cells_if b ts
all_if true ts = refl
all_if false ts = refl

-- ---- several

pub cells_none : (ts : List Target) → length ts < 1 → cells_if true ts ≡ cells_in (map target_spot ts)
cells_none ts few = ap (λ (us : List Target). cells_if true us) (none_of ts few) ∙ ap (λ (us : List Target). cells_in (map target_spot us)) (sym (none_of ts few))

with_first : (o : Option Spot) (a : Cell) (b : Bool) (cs : List Cell) (os : List (Option Spot)) → only_cell o ≡ Some a → if_all b cs ≡ cells_in os
    → if_all b (and_cell (only_cell o) cs) ≡ cells_in (o ∷ os)
with_first None a b cs os is h = absurd (none_some a is)
with_first (Some (one c)) a true cs os is h = ap (λ x. with_cell c x) h
with_first (Some (one c)) a false cs os is h = ap (λ x. with_cell c x) h
with_first (Some (several ds)) a b cs os is h = absurd (none_some a is)
with_first (Some (called k place n j f)) a b cs os is h = absurd (none_some a is)

not_first : (o : Option Spot) (os : List (Option Spot)) → only_cell o ≡ None → None ≡ cells_in (o ∷ os)
not_first None os is = refl
not_first (Some (one c)) os is = absurd (some_none c is)
not_first (Some (several ds)) os is = refl
not_first (Some (called k place n j f)) os is = refl

pub cells_first : (ts us : List Target) (t : Target) (a : Cell) (b : Bool) → ts ≡ t ∷ us → only_cell (target_spot t) ≡ Some a
    → cells_if b us ≡ cells_in (map target_spot us) → cells_if b ts ≡ cells_in (map target_spot ts)
cells_first ts us t a b is found h =
    sym (all_if b ts)
    ∙ ap (λ (vs : List Target). if_all b (cells_of vs)) is
    ∙ with_first (target_spot t) a b (cells_of us) (map target_spot us) found (all_if b us ∙ h)
    ∙ ap (λ (vs : List Target). cells_in (map target_spot vs)) (sym is)

pub cells_not : (ts us : List Target) (t : Target) → ts ≡ t ∷ us → only_cell (target_spot t) ≡ None → cells_if false ts ≡ cells_in (map target_spot ts)
cells_not ts us t is none =
    not_first (target_spot t) (map target_spot us) none ∙ ap (λ (vs : List Target). cells_in (map target_spot vs)) (sym is)

-- ---- one alone, where a target is one

module _ (place : TextPlace) (k : ℕ) where
  register_one : (r : ℕ) (os : List (Option Spot)) → one_in (only_cell (kind_spot place k (T.Register r) os)) ≡ kind_spot place k (T.Register r) os
  register_one r [] = refl
  register_one r (o ∷ os) = refl

  variable_one : (name : List ℕ) (os : List (Option Spot))
      → one_in (only_cell (kind_spot place k (T.Variable name) os)) ≡ kind_spot place k (T.Variable name) os
  variable_one name [] = refl
  variable_one name (o ∷ os) = refl

  part_by : (s : Suffix) (ss : List Suffix) (c : Cell) (rs : List Suffix)
      → one_in (only_cell (part_spot k (s ∷ ss) c rs)) ≡ part_spot k (s ∷ ss) c rs
  part_by s ss c [] = refl
  part_by s ss c (r ∷ rs) = refl

  part_one : (ss : List Suffix) (os : List (Option Spot)) → one_in (only_cell (kind_spot place k (T.Part ss) os)) ≡ kind_spot place k (T.Part ss) os
  part_one [] [] = refl
  part_one [] (None ∷ []) = refl
  part_one [] (Some (one c) ∷ []) = refl
  part_one [] (Some (several cs) ∷ []) = refl
  part_one [] (Some (called n at m j f) ∷ []) = refl
  part_one [] (None ∷ p ∷ os) = refl
  part_one [] (Some (one c) ∷ p ∷ os) = refl
  part_one [] (Some (several cs) ∷ p ∷ os) = refl
  part_one [] (Some (called n at m j f) ∷ p ∷ os) = refl
  part_one (s ∷ ss) [] = refl
  part_one (s ∷ ss) (None ∷ []) = refl
  part_one (s ∷ ss) (Some (one c) ∷ []) = part_by s ss c c.suffixes
  part_one (s ∷ ss) (Some (several cs) ∷ []) = refl
  part_one (s ∷ ss) (Some (called n at m j f) ∷ []) = refl
  part_one (s ∷ ss) (None ∷ p ∷ os) = refl
  part_one (s ∷ ss) (Some (one c) ∷ p ∷ os) = refl
  part_one (s ∷ ss) (Some (several cs) ∷ p ∷ os) = refl
  part_one (s ∷ ss) (Some (called n at m j f) ∷ p ∷ os) = refl

module _ (t : Target) (ts : List Target) (there : ts ≡ (out-Target t).parts) where
  pub of_register : (r : ℕ) → (out-Target t).kind ≡ T.Register r → one_in (only_cell (target_spot t)) ≡ target_spot t
  of_register r is =
      ap (λ (o : Option Spot). one_in (only_cell o)) (sym (spot_by t (T.Register r) ts is there))
      ∙ register_one (out-Target t).place (out-Target t).number r (map target_spot ts)
      ∙ spot_by t (T.Register r) ts is there

  pub of_variable : (name : List ℕ) → (out-Target t).kind ≡ T.Variable name → one_in (only_cell (target_spot t)) ≡ target_spot t
  of_variable name is =
      ap (λ (o : Option Spot). one_in (only_cell o)) (sym (spot_by t (T.Variable name) ts is there))
      ∙ variable_one (out-Target t).place (out-Target t).number name (map target_spot ts)
      ∙ spot_by t (T.Variable name) ts is there

  pub of_part : (ss : List Suffix) → (out-Target t).kind ≡ T.Part ss → one_in (only_cell (target_spot t)) ≡ target_spot t
  of_part ss is =
      ap (λ (o : Option Spot). one_in (only_cell o)) (sym (spot_by t (T.Part ss) ts is there))
      ∙ part_one (out-Target t).place (out-Target t).number ss (map target_spot ts)
      ∙ spot_by t (T.Part ss) ts is there

  pub of_several : (b : Bool) → (out-Target t).kind ≡ T.Tuple → cells_if b ts ≡ cells_in (map target_spot ts) → several_spot (cells_if b ts) ≡ target_spot t
  of_several b is all = ap several_spot all ∙ spot_by t T.Tuple ts is there

  pub of_call : (n : ℕ) (reader : Option Caller) (writer : Caller) → (out-Target t).kind ≡ T.Call n reader writer → length ts < 1
      → called_in t n writer ≡ target_spot t
  of_call n reader writer is few =
      ap (λ (us : List Target). kind_spot (out-Target t).place (out-Target t).number (T.Call n reader writer) (map target_spot us)) (sym (none_of ts few))
      ∙ spot_by t (T.Call n reader writer) ts is there

  pub of_late : (n : ℕ) (reader : Option Caller) (writer : Caller) → (out-Target t).kind ≡ T.Call n reader writer → 1 ≤ length ts
      → None ≡ target_spot t
  of_late n reader writer is some = by ts some ∙ spot_by t (T.Call n reader writer) ts is there
    where
      by : (us : List Target) → 1 ≤ length us
          → None ≡ kind_spot (out-Target t).place (out-Target t).number (T.Call n reader writer) (map target_spot us)
      by [] none = absurd (omega (arith, none))
      by (u ∷ us) more = refl
