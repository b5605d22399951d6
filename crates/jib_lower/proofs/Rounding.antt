-- Rounds, one after the other.
use Rattle.std.proofs.Common.{◌≡◌, ◌≢◌, ◌∙◌, ℕ, suc, false, List, [], ◌∷◌, ◌++◌, ap, arith, eq-eqb, if◌then◌else◌, length, sym}
use Rattle.std.specs.Prelude.{nat_eq}
use Rattle.std.proofs.lemmas.Bool.Decides.{nat_tests}
use Rattle.jib_lower.specs.Rounds.{all_left, all_placed, in_rounds, with_left, with_placed}

differ : (m n : ℕ) → m ≢ n → nat_eq m n ≡ false
differ m n e = grind (arith, nat_tests)

-- one direction, and those behind it
module _ (calls : List (List ℕ)) (placed mid ds all new : List ℕ) (x : ℕ) (is : all ≡ x ∷ ds) (p : mid ≡ with_placed calls placed x) where
  pub next_placed : new ≡ all_placed calls mid ds → new ≡ all_placed calls placed all
  next_placed e = e ∙ ap (λ ps. all_placed calls ps ds) p ∙ ap (all_placed calls placed) (sym is)

  pub next_left : (left rest : List ℕ) → rest ≡ with_left calls placed left x → new ≡ all_left calls mid rest ds → new ≡ all_left calls placed left all
  next_left left rest l e =
      e ∙ ap (λ ps. all_left calls ps rest ds) p ∙ ap (λ ls. all_left calls (with_placed calls placed x) ls ds) l ∙ ap (all_left calls placed left) (sym is)

module _ (calls : List (List ℕ)) (n m : ℕ) (placed left new next : List ℕ) (more : n ≡ suc m) (is : new ≡ all_placed calls placed left)
    (rest : next ≡ all_left calls placed [] left) where
  choice : in_rounds calls n placed left ≡ (if nat_eq (length next) (length left) then new ++ next else in_rounds calls m new next)
  choice =
      ap (λ k. in_rounds calls k placed left) more
      ∙ ap (λ (ns : List ℕ). by (all_placed calls placed left) ns) (sym rest) ∙ ap (λ (ps : List ℕ). by ps next) (sym is)
    where
      by : List ℕ → List ℕ → List ℕ
      by ps ns = if nat_eq (length ns) (length left) then ps ++ ns else in_rounds calls m ps ns

  pub rounds_here : length next ≡ length left → new ++ next ≡ in_rounds calls n placed left
  rounds_here same = sym (choice ∙ ap (λ b. if b then new ++ next else in_rounds calls m new next) (eq-eqb (length next) (length left) same))

  pub rounds_more : length next ≢ length left → in_rounds calls m new next ≡ in_rounds calls n placed left
  rounds_more other = sym (choice ∙ ap (λ b. if b then new ++ next else in_rounds calls m new next) (differ (length next) (length left) other))
