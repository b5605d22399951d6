-- The exponents among numbers, one of them more.
use Rattle.std.proofs.Common.{◌≡◌, Bool, true, false, List, [], ◌∷◌, ◌++◌, if◌then◌else◌, append_assoc, refl, sym, ap, ◌∙◌}
use Rattle.sail_core.specs.declared.written.WrittenNumber.{WrittenNumber}
use Rattle.shape_rules.specs.Written.{is_exponent, exponents_in}

before : (b : Bool) (n : WrittenNumber) (ns more : List WrittenNumber) → (if b then n ∷ (ns ++ more) else ns ++ more) ≡ (if b then n ∷ ns else ns) ++ more
before true n ns more = refl
before false n ns more = refl

exponents_last : (ns : List WrittenNumber) (n : WrittenNumber) → exponents_in (ns ++ n ∷ []) ≡ exponents_in ns ++ exponents_in (n ∷ [])
exponents_last [] n = refl
exponents_last (m ∷ ns) n =
    ap (λ (rest : List WrittenNumber). if is_exponent m.role then m ∷ rest else rest) (exponents_last ns n)
    ∙ before (is_exponent m.role) m (exponents_in ns) (exponents_in (n ∷ []))

-- one number more is looked at
pub looked_at : (old now new ns : List WrittenNumber) (n : WrittenNumber) → now ≡ old ++ exponents_in ns → new ≡ now ++ exponents_in (n ∷ [])
    → new ≡ old ++ exponents_in (ns ++ n ∷ [])
looked_at old now new ns n before pushed =
    pushed ∙ ap (λ (l : List WrittenNumber). l ++ exponents_in (n ∷ [])) before ∙ append_assoc old (exponents_in ns) (exponents_in (n ∷ []))
    ∙ ap (λ (l : List WrittenNumber). old ++ l) (sym (exponents_last ns n))
