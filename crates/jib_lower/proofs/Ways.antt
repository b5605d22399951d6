-- Functions of directions of mappings, one behind another.
use Rattle.std.proofs.Common.{◌≡◌, ◌∙◌, ℕ, suc, ◌+◌, List, [], ◌∷◌, length, Option, Some, None, refl, sym, ap, subst}
use Rattle.std.proofs.Common.{append-nil, append_assoc}
use Rattle.std.specs.Prelude.{◌++◌, slice_get}
use Rattle.jib.specs.declared.code.Function.{Function as Made}
use Rattle.jib_lower.specs.declared.instances.Model.{Model}
use Rattle.jib_lower.specs.Directions.{WayAt, WaysAdded, WaysMade, way_made, ways_none}
use Rattle.jib_lower.specs.Left.{NoCycle, WayAtLeft, WaysLeft, way_behind, way_here}
use Rattle.jib_lower.proofs.Basics.{some_same}

none_is : {A X : Type 0} (x : A) → None ≡ Some x → X
none_is x e = cc

-- ---- numbers of cycles

pub none_there : (turned : List (Option ℕ)) (d : ℕ) → slice_get turned d ≡ None → NoCycle turned d
none_there turned d e cycle h = none_is (Some cycle) (sym e ∙ h)

pub nothing_there : (turned : List (Option ℕ)) (d : ℕ) → slice_get turned d ≡ Some None → NoCycle turned d
nothing_there turned d e cycle h = apart (some_same None (Some cycle) (sym e ∙ h))
  where
    apart : {A : Type 0} {x : A} → None ≡ Some x → ⊥
    apart e = cc

-- ---- the functions

-- as many as directions
pub ways_many : (model : Model) {number : ℕ} {ds : List ℕ} {ways : List Made} → WaysMade model number ds ways → length ds ≡ length ways
ways_many model ways_none = refl
ways_many model (way_made w more) = ap suc (ways_many model more)

-- ---- one behind another

module _ (model : Model) where
  pub no_ways : (number : ℕ) (ds : List ℕ) (old : List Made) → ds ≡ [] → WaysAdded model number ds old old
  no_ways number ds old e = record {
    added = [];
    is = sym (append-nil old);
    made = subst (λ xs. WaysMade model number xs []) (sym e) ways_none;
  }

  pub way_next : (number after d : ℕ) (ds all : List ℕ) (way : Made) (old mid new : List Made) → mid ≡ old ++ way ∷ [] → after ≡ number + 1
      → WayAt model d number way → all ≡ d ∷ ds → WaysAdded model after ds mid new → WaysAdded model number all old new
  way_next number after d ds all way old mid new p h one a more = record {
    added = way ∷ more.added;
    is = more.is ∙ ap (λ ws. ws ++ more.added) p ∙ append_assoc old (way ∷ []) more.added;
    made = subst (λ xs. WaysMade model number xs (way ∷ more.added)) (sym a)
        (way_made one (subst (λ n. WaysMade model n ds more.added) h more.made));
  }

  -- ---- why one isn't made

  pub first_left : (number d : ℕ) (ds all : List ℕ) → all ≡ d ∷ ds → WayAtLeft model d number → WaysLeft model number all
  first_left number d ds all a h = subst (λ xs. WaysLeft model number xs) (sym a) (way_here h)

  pub later_left : (number after d : ℕ) (ds all : List ℕ) → after ≡ number + 1 → all ≡ d ∷ ds → WaysLeft model after ds → WaysLeft model number all
  later_left number after d ds all h a more =
      subst (λ xs. WaysLeft model number xs) (sym a) (way_behind (subst (λ n. WaysLeft model n ds) h more))
