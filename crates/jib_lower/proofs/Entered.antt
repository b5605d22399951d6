-- What is entered where directions are asked, and where they stand.
use Rattle.std.proofs.Common.{◌≡◌, ◌≢◌, ◌∙◌, ℕ, ◌+◌, Bool, true, false, List, ◌∷◌, ap, arith, eq-eqb, if◌then◌else◌, sym}
use Rattle.std.specs.Prelude.{nat_eq}
use Rattle.std.proofs.lemmas.Bool.Decides.{nat_tests}
use Rattle.size_values.specs.declared.sized.Sized.{Sized}
use Rattle.lowered_steps.specs.declared.setting.Mapped.{Mapped}
use Rattle.jib_lower.specs.Entering.{place_in}

abbrev mapped : ℕ → Sized → Sized → Sized → Mapped
mapped n takes gives payload = record { function = n; takes = takes; gives = gives; payload = payload }

pub same_mapped : (n : ℕ) (a b c d e f : Sized) → a ≡ b → c ≡ d → e ≡ f → mapped n a c e ≡ mapped n b d f
same_mapped n a b c d e f p q r = λ i. record { function = n; takes = p i; gives = q i; payload = r i }

differ : (m n : ℕ) → m ≢ n → nat_eq m n ≡ false
differ m n e = grind (arith, nat_tests)

module _ (d x : ℕ) (ds all : List ℕ) where
  choice : all ≡ x ∷ ds → (b : Bool) → nat_eq d x ≡ b → place_in all d ≡ (if b then 0 else place_in ds d + 1)
  choice is b e = ap (λ xs. place_in xs d) is ∙ ap (λ c. if c then 0 else place_in ds d + 1) e

  pub place_here : all ≡ x ∷ ds → d ≡ x → 0 ≡ place_in all d
  place_here is e = sym (choice is true (eq-eqb d x e))

  pub place_past : (behind place : ℕ) → all ≡ x ∷ ds → d ≢ x → behind ≡ place_in ds d → place ≡ behind + 1 → place ≡ place_in all d
  place_past behind place is other b p = p ∙ ap (λ n. n + 1) b ∙ sym (choice is false (differ d x other))
