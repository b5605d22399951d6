-- The functions of directions of mappings: that of a direction stands where it does in their order.
use Rattle.std.proofs.Common.{◌≡◌, ◌∙◌, ℕ, zero, suc, ◌+◌, Bool, true, false, ◌||◌, List, [], ◌∷◌, Some, refl, sym, ap, arith}
use Rattle.std.proofs.Common.{eqb-true}
use Rattle.std.specs.Prelude.{if◌then◌else◌, nat_eq, slice_get}
use Rattle.jib.specs.declared.code.Function.{Function as Code}
use Rattle.lowered_slots.specs.declared.slots.Slot.{Slot}
use Rattle.jib_lower.specs.declared.instances.Model.{Model}
use Rattle.jib_lower.specs.Crossings.{is_in}
use Rattle.jib_lower.specs.Directions.{WayAt, WaysMade, way_made, ways_none}
use Rattle.jib_lower.specs.Entering.{place_in}

no : {X : Type 0} → false ≡ true → X
no e = cc

none_more : (n : ℕ) → n ≡ n + 0
none_more n = omega arith

further : (n k : ℕ) → n + 1 + k ≡ n + (k + 1)
further n k = omega arith

one_more : (k : ℕ) → suc k ≡ k + 1
one_more k = omega arith

-- the slots of the k-th function of these
pub way_slots : {model : Model} {number : ℕ} {ds : List ℕ} {ways : List Code} → WaysMade model number ds ways → ℕ → List Slot
way_slots ways_none k = []
way_slots (way_made w more) zero = w.is.taken.code.coding.slots
way_slots (way_made w more) (suc k) = way_slots more k

-- a direction that stands among these, with its function
pub record WayThere {model : Model} {number : ℕ} {ds : List ℕ} {ways : List Code} (made : WaysMade model number ds ways) (d : ℕ) : Type 0 where
  pub which : ℕ
  pub is_which : which ≡ d
  pub function : ℕ
  pub numbered : function ≡ number + place_in ds d
  pub code : Code
  pub there : slice_get ways (place_in ds d) ≡ Some code
  pub at : WayAt model which function code
  pub slots : way_slots made (place_in ds d) ≡ at.is.taken.code.coding.slots

pub way_there : {model : Model} {number : ℕ} {ds : List ℕ} {ways : List Code} → (made : WaysMade model number ds ways) → (d : ℕ) → is_in d ds ≡ true
    → WayThere made d
unfolding way_slots
way_there ways_none d h = no h
way_there (way_made {d = x} {number = number} {ds = ds} {made = code} {rest = rest} w more) d h =
    by (nat_eq d x) refl (λ g. way_there more d g) h
  where
    place : Bool → ℕ
    place b = if b then 0 else place_in ds d + 1

    by : (b : Bool) → nat_eq d x ≡ b → (is_in d ds ≡ true → WayThere more d) → (b || is_in d ds) ≡ true → WayThere (way_made w more) d
    by true e later g = record {
      which = x;
      is_which = sym (eqb-true d x e);
      function = number;
      numbered = none_more number ∙ ap (λ b. number + place b) (sym e);
      code = code;
      there = ap (λ b. slice_get (code ∷ rest) (place b)) e;
      at = w;
      slots = ap (λ b. way_slots (way_made w more) (place b)) e;
    }
    by false e later g =
        let r : WayThere more d = later g in
        record {
          which = r.which;
          is_which = r.is_which;
          function = r.function;
          numbered = r.numbered ∙ further number (place_in ds d) ∙ ap (λ b. number + place b) (sym e);
          code = r.code;
          there = ap (λ b. slice_get (code ∷ rest) (place b)) e ∙ ap (slice_get (code ∷ rest)) (sym (one_more (place_in ds d))) ∙ r.there;
          at = r.at;
          slots = ap (λ b. way_slots (way_made w more) (place b)) e ∙ ap (way_slots (way_made w more)) (sym (one_more (place_in ds d))) ∙ r.slots;
        }
