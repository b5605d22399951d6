-- Choices by the cases of a value in hand: how many there are, and how many labels they have.
use Rattle.std.proofs.Common.{◌≡◌, ℕ, suc, ◌+◌, List, [], ◌∷◌, length, refl, ap, arith}
use Rattle.std.specs.Prelude.{OnOk, Result}
use Rattle.std.proofs.lemmas.Result.{on_ok_weaker}
use Rattle.sized_nodes.specs.declared.trees.Case.{Case}
use Rattle.lowered_pieces.specs.declared.coding.Coding.{Coding}
use Rattle.lowered_pieces.specs.Emitted.{Coded, Emits}
use Rattle.lowered_pieces.proofs.Emitting.{emits_as}
use Rattle.lowered_pieces.specs.Arms.{choices_at}
use Rattle.lowered_pieces.specs.Chains.{chain_labels, many}
use Rattle.lowered_pieces.specs.Forms.{End, cases_ends}

pub choices_counted : (q : ℕ) (cs : List Case) → length (choices_at q (cases_ends cs)) ≡ length cs
choices_counted q [] = refl
choices_counted q (c ∷ cs) = ap (λ n. suc n) (choices_counted q cs)

chain_same : (n q : ℕ) (es : List End) → chain_labels n (choices_at q es) ≡ chain_labels n es
chain_same n q [] = refl
chain_same n q (e ∷ []) = refl
chain_same n q (e ∷ f ∷ es) = ap (λ k. 1 + n + k) (chain_same n q (f ∷ es))

pub many_same : (n q : ℕ) (es : List End) → many n (choices_at q es) ≡ many n es
many_same n q [] = refl
many_same n q (e ∷ []) = refl
many_same n q (e ∷ f ∷ es) = ap (λ k. 1 + k) (chain_same n q (e ∷ f ∷ es))

-- code has as many labels by the choices as by the types
pub relabelled : (old new : Coding) (code : Coded) (q : ℕ) (es : List End) → Emits old new code (λ name. many 0 (choices_at q es))
    → Emits old new code (λ name. many 0 es)
relabelled old new code q es x =
    emits_as old new code code (λ name. many 0 (choices_at q es)) (λ name. many 0 es) (λ name. refl) (λ name. many_same 0 q es) x

pub ok_relabelled : {T E : Type 0} (r : Result T E) (old new : Coding) (code : Coded) (q : ℕ) (es : List End)
    → OnOk r (Emits old new code (λ name. many 0 (choices_at q es))) → OnOk r (Emits old new code (λ name. many 0 es))
ok_relabelled r old new code q es h =
    on_ok_weaker r (λ (x : Emits old new code (λ name. many 0 (choices_at q es))). relabelled old new code q es x) h

pub zero : (n : ℕ) → n ≡ n + 0
zero n = omega arith
