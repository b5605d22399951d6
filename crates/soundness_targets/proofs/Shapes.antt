-- Which targets are names and parts of names.
use Rattle.std.proofs.Common.{◌≡◌, ◌+◌, ℕ, suc, Bool, true, false, List, [], ◌∷◌, Option, if◌then◌else◌, map, refl, sym, ap, subst, ◌∙◌}
use Rattle.std.specs.List.{list_all}
use Rattle.sail_base.specs.declared.place.Place.{Place}
use Rattle.sail_core.specs.declared.targets.Caller.{Caller}
use Rattle.sail_core.specs.declared.targets.Suffix.{Suffix}
use Rattle.sail_core.specs.declared.targets.Target.{Target, Target-F, fold-Target, fold-roll-Target, ind-Target, map-Target, roll-Target}
use Rattle.sail_core.specs.declared.targets.TargetKind.{TargetKind}
use Rattle.sail_core.specs.declared.targets.TargetKind.TheVariants as T
use Rattle.soundness_targets.proofs.Plain.{Shape, a_call, a_late, a_name, a_part, a_parted, a_tuple, a_wrong, is_item, is_member}
use Rattle.soundness_targets.proofs.Plain.{shape, shape_form}

-- a target without targets inside it
abbrev pub target : Place → ℕ → TargetKind → Target
target place k kind = roll-Target (record { place = place; number = k; kind = kind; parts = [] })

abbrev pub IsName : TargetKind → Type 0
IsName (T.Variable name) = Unit {0}
IsName (T.Register i) = Unit {0}
IsName kind = ⊥

-- a name
pub record NameIs (t : Target) : Type 0 where
  pub place : Place
  pub number : ℕ
  pub kind : TargetKind
  pub is_name : IsName kind
  pub same : t ≡ target place number kind

-- a part of a name
pub record PartIs (t : Target) : Type 0 where
  pub place : Place
  pub number : ℕ
  pub suffixes : List Suffix
  pub base : Target
  pub is_name : NameIs base
  pub same : t ≡ roll-Target (record { place = place; number = number; kind = T.Part suffixes; parts = base ∷ [] })

-- a call
pub record CallIs (t : Target) : Type 0 where
  pub place : Place
  pub number : ℕ
  pub count : ℕ
  pub reader : Option Caller
  pub writer : Caller
  pub same : t ≡ target place number (T.Call count reader writer)

-- a part of one
pub record LateIs (t : Target) : Type 0 where
  pub place : Place
  pub number : ℕ
  pub suffix : Suffix
  pub suffixes : List Suffix
  pub base : Target
  pub is_call : CallIs base
  pub same : t ≡ roll-Target (record { place = place; number = number; kind = T.Part (suffix ∷ suffixes); parts = base ∷ [] })

-- a tuple
pub record TupleIs (t : Target) : Type 0 where
  pub place : Place
  pub number : ℕ
  pub parts : List Target
  pub members : list_all is_member (map shape parts) ≡ true
  pub same : t ≡ roll-Target (record { place = place; number = number; kind = T.Tuple; parts = parts })

-- a tuple with parts of names in it
pub record PartedIs (t : Target) : Type 0 where
  pub place : Place
  pub number : ℕ
  pub parts : List Target
  pub items : list_all is_item (map shape parts) ≡ true
  pub same : t ≡ roll-Target (record { place = place; number = number; kind = T.Tuple; parts = parts })

-- how much of a target there is
abbrev pub heights : List ℕ → ℕ
heights [] = 0
heights (h ∷ hs) = h + heights hs

pub height : Target → ℕ
height = fold-Target ℕ (λ t. suc (heights t.parts))

pub parts_low : (t : Target) (h : PartedIs t) → height t ≡ suc (heights (map height h.parts))
unfolding height
parts_low t h = ap height h.same ∙ fold-roll-Target ℕ (λ u. suc (heights u.parts)) _

-- what its shape says
abbrev pub ShapeIs : Target → Shape → Type 0
ShapeIs t a_name = NameIs t
ShapeIs t a_part = PartIs t
ShapeIs t a_call = CallIs t
ShapeIs t a_late = LateIs t
ShapeIs t a_tuple = TupleIs t
ShapeIs t a_parted = PartedIs t
ShapeIs t a_wrong = Unit {0}

abbrev Shaped : Target → Type 0
Shaped t = ShapeIs t (shape t)

abbrev Such : Type 0
Such = (t : Target) × Shaped t

abbrev targets_of : List Such → List Target
targets_of ys = map (λ (y : Such). y.0) ys

module _ (at : Place) (k : ℕ) where
  abbrev made_of : TargetKind → List Such → Target
  made_of kind ys = roll-Target (record { place = at; number = k; kind = kind; parts = targets_of ys })

  part_by : (ss : List Suffix) (t : Target) (c : Shape) → ShapeIs t c
      → ShapeIs (roll-Target (record { place = at; number = k; kind = T.Part ss; parts = t ∷ [] })) (shape_form (T.Part ss) (c ∷ []))
  part_by ss t a_name h = record { place = at; number = k; suffixes = ss; base = t; is_name = h; same = refl }
  part_by ss t a_part h = tt
  part_by [] t a_call h = tt
  part_by (s ∷ ss) t a_call h = record { place = at; number = k; suffix = s; suffixes = ss; base = t; is_call = h; same = refl }
  part_by ss t a_late h = tt
  part_by ss t a_tuple h = tt
  part_by ss t a_parted h = tt
  part_by ss t a_wrong h = tt

  tuple_by : (ys : List Such) (b : Bool) → list_all is_member (map shape (targets_of ys)) ≡ b → (c : Bool) → list_all is_item (map shape (targets_of ys)) ≡ c
      → ShapeIs (made_of T.Tuple ys) (if b then a_tuple else if c then a_parted else a_wrong)
  tuple_by ys true e c d = record { place = at; number = k; parts = targets_of ys; members = e; same = refl }
  tuple_by ys false e true d = record { place = at; number = k; parts = targets_of ys; items = d; same = refl }
  tuple_by ys false e false d = tt

  form_by : (kind : TargetKind) (ys : List Such) → ShapeIs (made_of kind ys) (shape_form kind (map shape (targets_of ys)))
  form_by (T.Variable name) [] = record { place = at; number = k; kind = T.Variable name; is_name = tt; same = refl }
  form_by (T.Register i) [] = record { place = at; number = k; kind = T.Register i; is_name = tt; same = refl }
  form_by (T.Part ss) (y ∷ []) = part_by ss y.0 (shape y.0) y.1
  form_by (T.Part ss) [] = tt
  form_by (T.Part ss) (y ∷ x ∷ ys) = tt
  form_by (T.Variable name) (y ∷ ys) = tt
  form_by (T.Register i) (y ∷ ys) = tt
  form_by T.Tuple ys =
      tuple_by ys (list_all is_member (map shape (targets_of ys))) refl (list_all is_item (map shape (targets_of ys))) refl
  form_by (T.Call count reader writer) [] =
      record { place = at; number = k; count = count; reader = reader; writer = writer; same = refl }
  form_by (T.Call count reader writer) (y ∷ ys) = tt

step : (y : Target-F Such) → Shaped (roll-Target (map-Target Such Target (λ p. p.0) y))
step y =
    subst (ShapeIs (made_of y.place y.number y.kind y.parts))
    (sym (fold-roll-Target Shape (λ t. shape_form t.kind t.parts) (map-Target Such Target (λ p. p.0) y))) (form_by y.place y.number y.kind y.parts)

pub shape_is : (t : Target) → ShapeIs t (shape t)
shape_is = ind-Target Shaped (λ e y same_form. subst (λ d. Shaped (roll-Target d)) same_form (step y))
