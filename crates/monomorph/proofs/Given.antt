-- The numbers that are given to size variables, one after the other.
use Rattle.std.proofs.Common.{◌≡◌, ◌∙◌, ap, sym, refl, ℕ, ◌+◌, ◌<◌, List, [], ◌∷◌, ◌++◌, drop, length, get_or, min, arith, length-drop}
use Rattle.std.proofs.Common.{append_assoc, append-nil}
use Rattle.std.specs.Prelude.{ℤ, Bool, Option}
use Rattle.size_notes.proofs.Lists.{rest_at}
use Rattle.size_values.specs.declared.constants.Constant.{Constant}
use Rattle.size_values.specs.Sized.{number_where}
use Rattle.monomorph.specs.Reading.{given}

pub given_next : (bs : List Bool) (cs : List Constant) (k : ℕ) (b : Bool) (c : Constant) (made new : List (Option ℤ)) (o : Option ℤ)
    (all : List (Option ℤ)) → k < length bs → k < length cs → b ≡ get_or bs k b → c ≡ get_or cs k c → o ≡ number_where b c → new ≡ made ++ o ∷ []
    → made ++ given (drop k bs) (drop k cs) ≡ all → new ++ given (drop (k + 1) bs) (drop (k + 1) cs) ≡ all
given_next bs cs k b c made new o all p q at_b at_c is put h =
    let rest = given (drop (k + 1) bs) (drop (k + 1) cs) in
    ap (λ l. l ++ rest) put
    ∙ (append_assoc made (o ∷ []) rest
    ∙ (ap (λ x. made ++ x ∷ rest) is
    ∙ ((λ j. made ++ given (sym (rest_at bs k b p at_b) j) (sym (rest_at cs k c q at_c) j)) ∙ h)))

none_given : (bs : List Bool) (cs : List Constant) → min (length bs) (length cs) ≡ 0 → given bs cs ≡ []
none_given [] cs e = refl
none_given (b ∷ bs) [] e = refl
none_given (b ∷ bs) (c ∷ cs) e = absurd (omega arith)

pub given_end : (bs : List Bool) (cs : List Constant) (k : ℕ) (made all : List (Option ℤ)) → k ≡ min (length bs) (length cs)
    → made ++ given (drop k bs) (drop k cs) ≡ all → made ≡ all
given_end bs cs k made all e h =
    let none : min (length (drop k bs)) (length (drop k cs)) ≡ 0 = (let a = length-drop k bs in let b = length-drop k cs in omega arith) in
    sym (append-nil made) ∙ (ap (λ l. made ++ l) (sym (none_given (drop k bs) (drop k cs) none)) ∙ h)
