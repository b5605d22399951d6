-- A part of a name begins with the name, which is read at once.
use Rattle.std.proofs.Common.{◌≡◌, ◌∙◌, ℕ, true, false, List, if◌then◌else◌, Option, Some, None, refl}
use Rattle.sail_base.specs.declared.place.Place.{Place}
use Rattle.model_state.specs.declared.state.Register.{Register}
use Rattle.sail_core.specs.declared.targets.Suffix.{Suffix}
use Rattle.pattern_leaves.specs.Settings.{Around, Scope}
use Rattle.pattern_leaves.specs.declared.names.Held.{Held}
use Rattle.pattern_leaves.specs.declared.names.Held.TheVariants as H
use Rattle.expression_forms.specs.Spots.{Spot, held_spot, register_spot}
use Rattle.expression_steps.specs.Parts.{Part}
use Rattle.expression_steps.specs.Targets.{based, no_spot, part_of, part_within, spotted_late}

-- a base that is there at once
pub record AtOnce (s : Spot) : Type 0 where
  pub is_base : s.is_base ≡ true
  pub is_there : s.is_late ≡ false

pub held_once : (around : Around) (at : Place) (k : ℕ) (name : List ℕ) (o : Option Held) → AtOnce (held_spot around at k name o)
held_once around at k name None = record { is_base = refl; is_there = refl }
held_once around at k name (Some (H.Value i)) = record { is_base = refl; is_there = refl }
held_once around at k name (Some (H.Var r)) = record { is_base = refl; is_there = refl }

pub register_once : (around : Around) (at : Place) (k : ℕ) (o : Option Register) → AtOnce (register_spot around at k o)
register_once around at k None = record { is_base = refl; is_there = refl }
register_once around at k (Some r) = record { is_base = refl; is_there = refl }

pub within_is : (at : Place) (k : ℕ) (ss : List Suffix) (around : Around) (scope : Scope) (s : Spot) → AtOnce s → (ps : List Part)
    → part_within at k ss around scope s ps ≡ part_of at k ss around scope s ps
within_is at k ss around scope s h ps =
    (λ j. if h.is_base j then based at k ss around scope s ps else no_spot at)
    ∙ (λ j. if h.is_there j then spotted_late at k ss around scope s ps else part_of at k ss around scope s ps)
