-- Rounds that bring nothing more, and rounds that are left.
use Rattle.std.proofs.Common.{◌≡◌, ◌∙◌, ℕ, zero, suc, ◌+◌, ◌-◌, ◌<◌, List, ap, sym, refl, arith}
use Rattle.sail_types.specs.declared.table.Types.{Types}
use Rattle.sail_core.specs.declared.model.Function.{Function}
use Rattle.size_splits.specs.Bodies.{Body}
use Rattle.size_splits.specs.Sizing.{Sizing, sizing_again, sizing_for}

module _ (types : Types) (fs : List Function) (bs : List (List Body)) where
  steady : (n : ℕ) (s : Sizing) → sizing_again types s fs bs ≡ s → sizing_for n types s fs bs ≡ s
  steady zero s e = refl
  steady (suc n) s e = ap (λ t. sizing_for n types t fs bs) e ∙ steady n s e

  next_round : (n m : ℕ) (s again all : Sizing) → again ≡ sizing_again types s fs bs → n ≡ suc m → sizing_for n types s fs bs ≡ all
      → sizing_for m types again fs bs ≡ all
  next_round n m s again all e count h =
      ap (λ t. sizing_for m types t fs bs) e ∙ (ap (λ i. sizing_for i types s fs bs) (sym count) ∙ h)

  pub round_more : (n k : ℕ) (s again all : Sizing) → k < n → again ≡ sizing_again types s fs bs → sizing_for (n - k) types s fs bs ≡ all
      → sizing_for (n - (k + 1)) types again fs bs ≡ all
  round_more n k s again all within e h = next_round (n - k) (n - (k + 1)) s again all e (omega arith) h

  pub round_same : (n : ℕ) (s again all : Sizing) → again ≡ sizing_again types s fs bs → again ≡ s → sizing_for n types s fs bs ≡ all
      → again ≡ all
  round_same n s again all e same h = same ∙ (sym (steady n s (sym e ∙ same)) ∙ h)
