-- What a target is, by its kind and the targets inside.
use Rattle.std.proofs.Common.{◌≡◌, ◌∙◌, ◌≤◌, ◌<◌, ℕ, ◌+◌, List, [], ◌∷◌, length, map, refl, sym, ap, arith}
use Rattle.std.specs.Prelude.{Option, Some, None}
use Rattle.sail_base.specs.declared.place.Place.{Place as TextPlace}
use Rattle.sail_core.specs.declared.targets.Caller.{Caller}
use Rattle.sail_core.specs.declared.targets.Suffix.{Suffix}
use Rattle.sail_core.specs.declared.targets.Target.{Target, fold_out-Target, out-Target}
use Rattle.sail_core.specs.declared.targets.TargetKind.{TargetKind}
use Rattle.sail_core.specs.declared.targets.TargetKind.TheVariants as T
use Rattle.sail_core.specs.declared.tree.Callee.{Callee}
use Rattle.sail_core.specs.declared.tree.Callee.TheVariants as F
use Rattle.lowered_pieces.specs.Writes.{Cell as Aim, Spot, called, called_spot, cells_in, kind_spot, one, part_spot, several, several_spot, takes_all}
use Rattle.lowered_pieces.specs.Writes.{takes_in, target_spot}
use Rattle.lowered_steps.specs.Cells.{alone, and_cell, cells_of, if_whole, only_cell, part_if, part_in, whole_only}
use Rattle.lowered_steps.proofs.Lists.{none_of}

-- a target is what its kind makes of the targets inside
pub spot_is : (t : Target) → target_spot t ≡ kind_spot (out-Target t).place (out-Target t).number (out-Target t).kind (map target_spot (out-Target t).parts)
spot_is t = fold_out-Target (Option Spot) (λ u. kind_spot u.place u.number u.kind u.parts) t

pub spot_by : (t : Target) (kind : TargetKind) (ts : List Target) → (out-Target t).kind ≡ kind → ts ≡ (out-Target t).parts
    → kind_spot (out-Target t).place (out-Target t).number kind (map target_spot ts) ≡ target_spot t
spot_by t kind ts is there =
    (λ i. kind_spot (out-Target t).place (out-Target t).number (sym is i) (map target_spot (there i))) ∙ sym (spot_is t)

no_several : (x : Option (List Aim)) → None ≡ whole_only (several_spot x)
no_several None = refl
no_several (Some cs) = refl

only_several : (x : Option (List Aim)) → None ≡ only_cell (several_spot x)
only_several None = refl
only_several (Some cs) = refl

module _ (place : TextPlace) (k : ℕ) where
  no_call : (n j : ℕ) (callee : Callee) → None ≡ whole_only (called_spot place k n j callee)
  no_call n j (F.Function f) = refl
  no_call n j callee = refl

  only_call : (n j : ℕ) (callee : Callee) → None ≡ only_cell (called_spot place k n j callee)
  only_call n j (F.Function f) = refl
  only_call n j callee = refl

  alone_is : (kind : TargetKind) → alone k kind ≡ whole_only (kind_spot place k kind [])
  alone_is (T.Register r) = refl
  alone_is (T.Variable name) = refl
  alone_is T.Tuple = refl
  alone_is (T.Part []) = refl
  alone_is (T.Part (s ∷ ss)) = refl
  alone_is (T.Call n reader writer) = no_call n writer.number writer.callee

  no_part : (s : Suffix) (ss : List Suffix) (c : Aim) (rs : List Suffix) → None ≡ whole_only (part_spot k (s ∷ ss) c rs)
  no_part s ss c [] = refl
  no_part s ss c (r ∷ rs) = refl

  not_alone : (kind : TargetKind) (o : Option Spot) (os : List (Option Spot)) → None ≡ whole_only (kind_spot place k kind (o ∷ os))
  not_alone (T.Register r) o os = refl
  not_alone (T.Variable name) o os = refl
  not_alone T.Tuple o os = no_several (cells_in (o ∷ os))
  not_alone (T.Part []) None [] = refl
  not_alone (T.Part []) (Some (one c)) [] = refl
  not_alone (T.Part []) (Some (several cs)) [] = refl
  not_alone (T.Part []) (Some (called n at m j f)) [] = refl
  not_alone (T.Part []) None (p ∷ os) = refl
  not_alone (T.Part []) (Some (one c)) (p ∷ os) = refl
  not_alone (T.Part []) (Some (several cs)) (p ∷ os) = refl
  not_alone (T.Part []) (Some (called n at m j f)) (p ∷ os) = refl
  not_alone (T.Part (s ∷ ss)) None [] = refl
  not_alone (T.Part (s ∷ ss)) (Some (one c)) [] = no_part s ss c c.suffixes
  not_alone (T.Part (s ∷ ss)) (Some (several cs)) [] = refl
  not_alone (T.Part (s ∷ ss)) (Some (called n at m j f)) [] = refl
  not_alone (T.Part (s ∷ ss)) None (p ∷ os) = refl
  not_alone (T.Part (s ∷ ss)) (Some (one c)) (p ∷ os) = refl
  not_alone (T.Part (s ∷ ss)) (Some (several cs)) (p ∷ os) = refl
  not_alone (T.Part (s ∷ ss)) (Some (called n at m j f)) (p ∷ os) = refl
  not_alone (T.Call n reader writer) o os = refl

  register_only : (r : ℕ) (os : List (Option Spot)) → whole_only (kind_spot place k (T.Register r) os) ≡ only_cell (kind_spot place k (T.Register r) os)
  register_only r [] = refl
  register_only r (o ∷ os) = refl

  variable_only : (name : List ℕ) (os : List (Option Spot))
      → whole_only (kind_spot place k (T.Variable name) os) ≡ only_cell (kind_spot place k (T.Variable name) os)
  variable_only name [] = refl
  variable_only name (o ∷ os) = refl

  part_by : (s : Suffix) (ss : List Suffix) (c : Aim) (rs : List Suffix)
      → part_if k (if_whole c rs) (s ∷ ss) ≡ only_cell (part_spot k (s ∷ ss) c rs)
  part_by s ss c [] = refl
  part_by s ss c (r ∷ rs) = refl

  no_way : (c : Aim) (rs : List Suffix) → part_if k (if_whole c rs) [] ≡ None
  no_way c [] = refl
  no_way c (r ∷ rs) = refl

  part_only : (ss : List Suffix) (o : Option Spot) → part_if k (whole_only o) ss ≡ only_cell (kind_spot place k (T.Part ss) (o ∷ []))
  part_only [] None = refl
  part_only [] (Some (one c)) = no_way c c.suffixes
  part_only [] (Some (several cs)) = refl
  part_only [] (Some (called n at m j f)) = refl
  part_only (s ∷ ss) None = refl
  part_only (s ∷ ss) (Some (one c)) = part_by s ss c c.suffixes
  part_only (s ∷ ss) (Some (several cs)) = refl
  part_only (s ∷ ss) (Some (called n at m j f)) = refl

  none_only : (ss : List Suffix) → None ≡ only_cell (kind_spot place k (T.Part ss) [])
  none_only [] = refl
  none_only (s ∷ ss) = refl

  many_only : (ss : List Suffix) (o p : Option Spot) (os : List (Option Spot)) → None ≡ only_cell (kind_spot place k (T.Part ss) (o ∷ p ∷ os))
  many_only [] None p os = refl
  many_only [] (Some (one c)) p os = refl
  many_only [] (Some (several cs)) p os = refl
  many_only [] (Some (called n at m j f)) p os = refl
  many_only (s ∷ ss) None p os = refl
  many_only (s ∷ ss) (Some (one c)) p os = refl
  many_only (s ∷ ss) (Some (several cs)) p os = refl
  many_only (s ∷ ss) (Some (called n at m j f)) p os = refl

module _ (t : Target) (ts : List Target) (there : ts ≡ (out-Target t).parts) where
  abbrev at_kind : TargetKind → List Target → Option Spot
  at_kind kind us = kind_spot (out-Target t).place (out-Target t).number kind (map target_spot us)

  -- ---- wholes

  pub whole_none : length ts < 1 → alone (out-Target t).number (out-Target t).kind ≡ whole_only (target_spot t)
  whole_none few =
      alone_is (out-Target t).place (out-Target t).number (out-Target t).kind
      ∙ ap (λ (us : List Target). whole_only (at_kind (out-Target t).kind us)) (sym (none_of ts few))
      ∙ ap whole_only (spot_by t (out-Target t).kind ts refl there)

  pub whole_some : 1 ≤ length ts → None ≡ whole_only (target_spot t)
  whole_some some = by ts some ∙ ap whole_only (spot_by t (out-Target t).kind ts refl there)
    where
      by : (us : List Target) → 1 ≤ length us → None ≡ whole_only (at_kind (out-Target t).kind us)
      by [] few = absurd (omega (arith, few))
      by (u ∷ us) few = not_alone (out-Target t).place (out-Target t).number (out-Target t).kind (target_spot u) (map target_spot us)

  -- ---- by kinds

  pub of_register : (r : ℕ) → (out-Target t).kind ≡ T.Register r → whole_only (target_spot t) ≡ only_cell (target_spot t)
  of_register r is =
      ap whole_only (sym (spot_by t (T.Register r) ts is there))
      ∙ register_only (out-Target t).place (out-Target t).number r (map target_spot ts)
      ∙ ap only_cell (spot_by t (T.Register r) ts is there)

  pub of_variable : (name : List ℕ) → (out-Target t).kind ≡ T.Variable name → whole_only (target_spot t) ≡ only_cell (target_spot t)
  of_variable name is =
      ap whole_only (sym (spot_by t (T.Variable name) ts is there))
      ∙ variable_only (out-Target t).place (out-Target t).number name (map target_spot ts)
      ∙ ap only_cell (spot_by t (T.Variable name) ts is there)

  pub of_tuple : (out-Target t).kind ≡ T.Tuple → None ≡ only_cell (target_spot t)
  of_tuple is = only_several (cells_in (map target_spot ts)) ∙ ap only_cell (spot_by t T.Tuple ts is there)

  pub of_call : (n : ℕ) (reader : Option Caller) (writer : Caller) → (out-Target t).kind ≡ T.Call n reader writer → None ≡ only_cell (target_spot t)
  of_call n reader writer is = by ts ∙ ap only_cell (spot_by t (T.Call n reader writer) ts is there)
    where
      by : (us : List Target) → None ≡ only_cell (at_kind (T.Call n reader writer) us)
      by [] = only_call (out-Target t).place (out-Target t).number n writer.number writer.callee
      by (u ∷ us) = refl

  pub of_part : (ss : List Suffix) (base : Target) → (out-Target t).kind ≡ T.Part ss → ts ≡ base ∷ []
      → part_if (out-Target t).number (whole_only (target_spot base)) ss ≡ only_cell (target_spot t)
  of_part ss base is sole =
      part_only (out-Target t).place (out-Target t).number ss (target_spot base)
      ∙ ap (λ (us : List Target). only_cell (at_kind (T.Part ss) us)) (sym sole)
      ∙ ap only_cell (spot_by t (T.Part ss) ts is there)

  pub of_none : (ss : List Suffix) → (out-Target t).kind ≡ T.Part ss → length ts < 1 → None ≡ only_cell (target_spot t)
  of_none ss is few =
      none_only (out-Target t).place (out-Target t).number ss
      ∙ ap (λ (us : List Target). only_cell (at_kind (T.Part ss) us)) (sym (none_of ts few))
      ∙ ap only_cell (spot_by t (T.Part ss) ts is there)

  pub of_many : (ss : List Suffix) → (out-Target t).kind ≡ T.Part ss → 2 ≤ length ts → None ≡ only_cell (target_spot t)
  of_many ss is many = by ts many ∙ ap only_cell (spot_by t (T.Part ss) ts is there)
    where
      by : (us : List Target) → 2 ≤ length us → None ≡ only_cell (at_kind (T.Part ss) us)
      by [] few = absurd (omega (arith, few))
      by (u ∷ []) few = absurd (omega (arith, few))
      by (u ∷ v ∷ us) few = many_only (out-Target t).place (out-Target t).number ss (target_spot u) (target_spot v) (map target_spot us)

-- where there is a way
pub part_some : (k : ℕ) (w : Aim) (ss : List Suffix) → 1 ≤ length ss
    → Some (record { number = k; read = w.number; holder = w.holder; suffixes = ss }) ≡ part_in k w ss
part_some k w [] few = absurd (omega (arith, few))
part_some k w (s ∷ ss) some = refl

-- ---- how many indexes they take

pub takes_none : (ts : List Target) → length ts < 1 → 0 ≡ takes_all (cells_of ts)
takes_none ts few = ap (λ (us : List Target). takes_all (cells_of us)) (sym (none_of ts few))

pub takes_more : (ts us : List Target) (t : Target) (a : Aim) (m n : ℕ) → ts ≡ t ∷ us → only_cell (target_spot t) ≡ Some a → m ≡ takes_in a.suffixes
    → n ≡ takes_all (cells_of us) → m + n ≡ takes_all (cells_of ts)
takes_more ts us t a m n is sole first behind =
    (λ i. first i + behind i)
    ∙ ap (λ (o : Option Aim). takes_all (and_cell o (cells_of us))) (sym sole)
    ∙ ap (λ (vs : List Target). takes_all (cells_of vs)) (sym is)

pub takes_other : (ts us : List Target) (t : Target) → ts ≡ t ∷ us → only_cell (target_spot t) ≡ None → takes_all (cells_of us) ≡ takes_all (cells_of ts)
takes_other ts us t is none =
    ap (λ (o : Option Aim). takes_all (and_cell o (cells_of us))) (sym none) ∙ ap (λ (vs : List Target). takes_all (cells_of vs)) (sym is)
