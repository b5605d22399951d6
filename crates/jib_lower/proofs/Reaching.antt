-- Directions to which calls lead, step by step; and lists of what is found of each.
use Rattle.std.proofs.Common.{◌≡◌, ◌≢◌, ◌∙◌, ℕ, suc, Bool, true, false, List, [], ◌∷◌, ◌++◌, Result, ap, arith, eq-eqb, if◌then◌else◌, length, sym}
use Rattle.std.specs.Prelude.{OnOk, nat_eq}
use Rattle.std.proofs.lemmas.Bool.Decides.{nat_tests}
use Rattle.std.proofs.lemmas.Result.{on_ok_weaker}
use Rattle.jib_lower.specs.Crossings.{reached, with_behind}

differ : (m n : ℕ) → m ≢ n → nat_eq m n ≡ false
differ m n e = grind (arith, nat_tests)

module _ (calls : List (List ℕ)) (n m : ℕ) (seen next : List ℕ) (more : n ≡ suc m) (is : next ≡ with_behind calls seen seen) where
  choice : reached calls n seen ≡ (if nat_eq (length next) (length seen) then seen else reached calls m next)
  choice =
      ap (λ k. reached calls k seen) more
      ∙ ap (λ (ns : List ℕ). if nat_eq (length ns) (length seen) then seen else reached calls m ns) (sym is)

  pub reached_here : length next ≡ length seen → seen ≡ reached calls n seen
  reached_here same = sym (choice ∙ ap (λ b. if b then seen else reached calls m next) (eq-eqb (length next) (length seen) same))

  pub reached_more : length next ≢ length seen → reached calls m next ≡ reached calls n seen
  reached_more other = sym (choice ∙ ap (λ b. if b then seen else reached calls m next) (differ (length next) (length seen) other))

pub one_more : {A T E : Type 0} (r : Result T E) (old new : List A) (x : A) (all : List A) → all ≡ x ∷ [] → OnOk r (new ≡ old ++ x ∷ [])
    → OnOk r (new ≡ old ++ all)
one_more r old new x all e p = on_ok_weaker r (λ (q : new ≡ old ++ x ∷ []). q ∙ ap (λ xs. old ++ xs) (sym e)) p
