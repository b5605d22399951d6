-- Directions of mappings, their functions and what is entered where they are asked, each found by its place.
use Rattle.std.proofs.Common.{◌≡◌, ◌∙◌, ℕ, zero, suc, ◌+◌, Bool, true, false, ◌||◌, List, [], ◌∷◌, Option, Some, None, refl, sym, ap, subst, arith}
use Rattle.std.proofs.Common.{eq-eqb, eqb-true}
use Rattle.std.specs.Prelude.{if◌then◌else◌, nat_eq, slice_get}
use Rattle.sail_types.specs.declared.table.Types.{Types}
use Rattle.sail_core.specs.declared.model.Direction.{Direction}
use Rattle.jib.specs.declared.code.Function.{Function as Made}
use Rattle.jib_lower.specs.declared.instances.Model.{Model}
use Rattle.jib_lower.specs.Crossings.{is_in}
use Rattle.jib_lower.specs.Directions.{WayAt, WaysMade, way_made, ways_none}
use Rattle.jib_lower.specs.Entering.{mapped_by, mapped_from, place_in}
use Rattle.jib_lower.specs.Order.{made_in}
use Rattle.jib_lower.proofs.Basics.{some_same}

none_is : {A X : Type 0} (x : A) → None ≡ Some x → X
none_is x e = cc

no : {X : Type 0} → false ≡ true → X
no e = cc

none_more : (n : ℕ) → n ≡ n + 0
none_more n = omega arith

next : (n k : ℕ) → n + 1 + k ≡ n + suc k
next n k = omega arith

-- behind one more
further : (n k : ℕ) → n + 1 + k ≡ n + (k + 1)
further n k = omega arith

pub or_left : (a b : Bool) → a ≡ true → (a || b) ≡ true
or_left true b h = refl
or_left false b h = no h

pub or_right : (a b : Bool) → b ≡ true → (a || b) ≡ true
or_right true b h = refl
or_right false b h = h

-- ---- directions that have a number of a cycle

pub made_there : (first : ℕ) (turned : List (Option ℕ)) (d c : ℕ) → slice_get turned d ≡ Some (Some c) → is_in (first + d) (made_in first turned) ≡ true
made_there first [] d c e = none_is (Some c) e
made_there first (None ∷ turned) zero c e = differ e
  where
    differ : {X : Type 0} → Some None ≡ Some (Some c) → X
    differ e = cc
made_there first (Some b ∷ turned) zero c e =
    or_left (nat_eq (first + 0) first) (is_in (first + 0) (made_in (first + 1) turned)) (eq-eqb (first + 0) first (sym (none_more first)))
made_there first (None ∷ turned) (suc d) c e =
    subst (λ n. is_in n (made_in (first + 1) turned) ≡ true) (next first d) (made_there (first + 1) turned d c e)
made_there first (Some b ∷ turned) (suc d) c e =
    or_right (nat_eq (first + suc d) first) (is_in (first + suc d) (made_in (first + 1) turned))
    (subst (λ n. is_in n (made_in (first + 1) turned) ≡ true) (next first d) (made_there (first + 1) turned d c e))

-- ---- what is entered

pub mapped_at : (types : Types) (order : List ℕ) (first : ℕ) (ms : List Direction) (d : ℕ) (m : Direction) → slice_get ms d ≡ Some m
    → slice_get (mapped_from types order first ms) d ≡ Some (mapped_by types (place_in order (first + d)) m)
mapped_at types order first [] d m e = none_is m e
mapped_at types order first (x ∷ ms) zero m e =
    ap (λ y. Some (mapped_by types (place_in order first) y)) (some_same x m e)
    ∙ ap (λ n. Some (mapped_by types (place_in order n) m)) (none_more first)
mapped_at types order first (x ∷ ms) (suc d) m e =
    mapped_at types order (first + 1) ms d m e ∙ ap (λ n. Some (mapped_by types (place_in order n) m)) (next first d)

-- ---- functions

-- that of a direction, at its place
pub record WayFound (model : Model) (number : ℕ) (ds : List ℕ) (ways : List Made) (d : ℕ) : Type 0 where
  pub made : Made
  pub there : slice_get ways (place_in ds d) ≡ Some made
  pub at : WayAt model d (number + place_in ds d) made

pub way_found : (model : Model) {number : ℕ} {ds : List ℕ} {ways : List Made} → WaysMade model number ds ways → (d : ℕ) → is_in d ds ≡ true
    → WayFound model number ds ways d
way_found model ways_none d h = no h
way_found model (way_made {d = x} {number = number} {ds = ds} {made = made} {rest = rest} w more) d h =
    by (nat_eq d x) refl h (λ g. way_found model more d g)
  where
    place : Bool → ℕ
    place b = if b then 0 else place_in ds d + 1

    here : (b : Bool) → nat_eq d x ≡ b → (f : Made) → slice_get (made ∷ rest) (place b) ≡ Some f → WayAt model d (number + place b) f
        → WayFound model number (x ∷ ds) (made ∷ rest) d
    here b e f there at = record {
      made = f;
      there = ap (λ z. slice_get (made ∷ rest) (place z)) e ∙ there;
      at = subst (λ z. WayAt model d (number + place z) f) (sym e) at;
    }

    by : (b : Bool) → nat_eq d x ≡ b → (b || is_in d ds) ≡ true → (is_in d ds ≡ true → WayFound model (number + 1) ds rest d)
        → WayFound model number (x ∷ ds) (made ∷ rest) d
    by true e g behind =
        here true e made refl (subst (λ n. WayAt model d n made) (none_more number) (subst (λ k. WayAt model k number made) (sym (eqb-true d x e)) w))
    by false e g behind =
        let r = behind g in
        here false e r.made (ap (slice_get (made ∷ rest)) (one_more (place_in ds d)) ∙ r.there)
        (subst (λ n. WayAt model d n r.made) (further number (place_in ds d)) r.at)
      where
        one_more : (k : ℕ) → k + 1 ≡ suc k
        one_more k = omega arith

-- each function is that of a direction
pub record WayIs (model : Model) (number : ℕ) (made : Made) : Type 0 where
  pub d : ℕ
  pub at : WayAt model d number made

pub way_is : (model : Model) {number : ℕ} {ds : List ℕ} {ways : List Made} → WaysMade model number ds ways → (k : ℕ) (f : Made) → slice_get ways k ≡ Some f
    → WayIs model (number + k) f
way_is model ways_none k f e = none_is f e
way_is model (way_made {d = d} {number = number} {made = made} w more) zero f e = record {
  d = d;
  at = subst (λ n. WayAt model d n f) (none_more number) (subst (λ g. WayAt model d number g) (some_same made f e) w);
}
way_is model (way_made {number = number} w more) (suc k) f e =
    subst (λ n. WayIs model n f) (next number k) (way_is model more k f e)
