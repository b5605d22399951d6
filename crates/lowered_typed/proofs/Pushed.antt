-- Lists that grow by one, and then by more.
use Rattle.std.proofs.Common.{◌≡◌, ◌∙◌, List, [], ◌∷◌, ◌++◌, append-nil, append_assoc, sym, ap}

pub none : {A : Type 0} (old all : List A) → all ≡ [] → old ≡ old ++ all
none old all e = sym (append-nil old) ∙ ap (λ us. old ++ us) (sym e)

pub pushed : {A : Type 0} (old mid new more all : List A) (x : A) → mid ≡ old ++ x ∷ [] → new ≡ mid ++ more → all ≡ x ∷ more → new ≡ old ++ all
pushed old mid new more all x p e a =
    e ∙ ap (λ us. us ++ more) p ∙ append_assoc old (x ∷ []) more ∙ ap (λ us. old ++ us) (sym a)

-- by several, and then by more
pub joined : {A : Type 0} (old mid new some more all : List A) → mid ≡ old ++ some → new ≡ mid ++ more → all ≡ some ++ more → new ≡ old ++ all
joined old mid new some more all p e a =
    e ∙ ap (λ us. us ++ more) p ∙ append_assoc old some more ∙ ap (λ us. old ++ us) (sym a)
