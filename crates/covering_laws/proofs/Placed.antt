-- Where a direction stands: beside the other one of its mapping, whose body is read for both.
use Rattle.std.proofs.Common.{◌≡◌, refl, subst, ℕ, zero, suc, ◌/◌, ◌*◌, ◌⊎◌, inl, inr, List, [], ◌∷◌, slice_get, Some, arith}
use Rattle.sail_core.specs.declared.model.Direction.{Direction}
use Rattle.pattern_leaves.specs.Settings.{Around}
use Rattle.size_notes.specs.Bodies.{body_of, mapping_bodies, mapping_read}
use Rattle.met_notes.specs.Met.{pairs}
use Rattle.soundness_calls.specs.Directions.{Side, is_ahead, is_back}
use Rattle.exact_sizes.proofs.Known.{none}
use Rattle.met_notes.specs.Covers.{pair_of, side_at}

pub record Placed (around : Around) (ms : List Direction) (d : ℕ) (n : Direction) (side : Side) : Type 0 where
  pub mapping : ℕ
  pub is_there : slice_get (pairs ms) mapping ≡ Some (pair_of side n)
  pub body_there : slice_get (mapping_bodies around ms) mapping
      ≡ Some (body_of (mapping_read around (pair_of side n).forwards (pair_of side n).backwards))
  pub half : d / 2 ≡ mapping
  pub double : (d ≡ 2 * mapping) ⊎ (d ≡ suc (2 * mapping))

further : (d k : ℕ) → (d ≡ 2 * k) ⊎ (d ≡ suc (2 * k)) → (suc (suc d) ≡ 2 * suc k) ⊎ (suc (suc d) ≡ suc (2 * suc k))
further d k (inl e) = inl (omega arith)
further d k (inr e) = inr (omega arith)

module _ (around : Around) where
  first_placed : (m n : Direction) (ms : List Direction) → Placed around (m ∷ n ∷ ms) 0 m (is_ahead n)
  first_placed m n ms = record {
    mapping = 0;
    is_there = refl;
    body_there = refl;
    half = omega arith;
    double = inl (omega arith);
  }

  second_placed : (m n : Direction) (ms : List Direction) → Placed around (m ∷ n ∷ ms) 1 n (is_back m)
  second_placed m n ms = record {
    mapping = 0;
    is_there = refl;
    body_there = refl;
    half = omega arith;
    double = inr (omega arith);
  }

  pub direction_placed : (ms : List Direction) (d : ℕ) (n : Direction) (side : Side) → slice_get ms d ≡ Some n → side_at ms d ≡ Some side
      → Placed around ms d n side
  direction_placed [] d n side e s = none s
  direction_placed (m ∷ []) d n side e s = none s
  direction_placed (m ∷ q ∷ ms) zero n side e s =
      let same : m ≡ n = cc e in
      let its : is_ahead q ≡ side = cc s in
      subst (λ (r : Direction). Placed around (m ∷ q ∷ ms) 0 r side) same
      (subst (λ (z : Side). Placed around (m ∷ q ∷ ms) 0 m z) its (first_placed m q ms))
  direction_placed (m ∷ q ∷ ms) (suc zero) n side e s =
      let same : q ≡ n = cc e in
      let its : is_back m ≡ side = cc s in
      subst (λ (r : Direction). Placed around (m ∷ q ∷ ms) 1 r side) same
      (subst (λ (z : Side). Placed around (m ∷ q ∷ ms) 1 q z) its (second_placed m q ms))
  direction_placed (m ∷ q ∷ ms) (suc (suc d)) n side e s =
      let more = direction_placed ms d n side e s in
      let before : d / 2 ≡ more.mapping = more.half in
      record {
        mapping = suc more.mapping;
        is_there = more.is_there;
        body_there = more.body_there;
        half = omega arith;
        double = further d more.mapping more.double;
      }
