-- The tokens of one file more.
use Prim.Native.Nat.{zero}
use Rattle.std.proofs.Common.{◌≡◌, ℕ, suc, ◌+◌, ◌<◌, List, [], ◌∷◌, ◌++◌, length, take, get_or, sym, ap, ◌∙◌, append-nil, append_assoc, add-one, arith}
use Rattle.sail_lex.specs.declared.token.Tokens.{Tokens}
use Rattle.sail_grammar.specs.Joined.{joined, with_texts}

joined_suc : (files : List Tokens) (i : ℕ) (f : Tokens) → i < length files → f ≡ get_or files i f →
    joined (take (suc i) files) ≡ joined (take i files) ++ with_texts f.source.now f.tokens
joined_suc [] i f lt e = absurd (omega arith)
joined_suc (g ∷ files) zero f lt e = append-nil (with_texts g.source.now g.tokens) ∙ ap (λ h. with_texts h.source.now h.tokens) (sym e)
joined_suc (g ∷ files) (suc i) f lt e =
    ap (λ x. with_texts g.source.now g.tokens ++ x) (joined_suc files i f (omega arith) e) ∙
    sym (append_assoc (with_texts g.source.now g.tokens) (joined (take i files)) (with_texts f.source.now f.tokens))

pub joined_more : (files : List Tokens) (i : ℕ) (f : Tokens) → i < length files → f ≡ get_or files i f →
    joined (take (i + 1) files) ≡ joined (take i files) ++ with_texts f.source.now f.tokens
joined_more files i f lt e = rw add-one (joined_suc files i f lt e)
