-- The tokens of a source have texts.
use Rattle.std.proofs.Common.{◌≡◌, sym, subst, ℕ, ◌≤◌, List, [], ◌∷◌, length, arith}
use Rattle.std.specs.Prelude.{All}
use Rattle.std.proofs.lemmas.List.Elements.{All-nil, All-cons}
use Rattle.sail_lex.specs.declared.token.Token.{Token}
use Rattle.sail_lex.specs.declared.token.Tokens.{Tokens}
use Rattle.sail_lex.specs.Tokens.{AreInOrder}
use Rattle.sail_lex.specs.Valued.{AreAscii}
use Rattle.sail_grammar.specs.Joined.{HasText, HaveTexts}

reaches : (from to : ℕ) (ts : List Token) → AreInOrder from to ts → from ≤ to
reaches from to [] h = h
reaches from to (t ∷ ts) h = let a = h.0 in let b = h.1 in let r = reaches t.end to ts h.2 in omega (arith, a, b, r)

pub have_texts : (source : List ℕ) (from to : ℕ) (ts : List Token) → to ≤ length source → AreInOrder from to ts → AreAscii source ts →
    All (HasText source) ts
have_texts source from to [] le h a = All-nil (HasText source)
have_texts source from to (t ∷ ts) le h a =
    let b = h.1 in
    let r = reaches t.end to ts h.2 in
    All-cons (HasText source) t ts (omega (arith, b), omega (arith, le, r), a.0) (have_texts source t.end to ts le h.2 a.1)

-- the tokens that a source has
pub lexed_texts : (source : List ℕ) (f : Tokens) → f.source.now ≡ source → AreInOrder 0 (length source) f.tokens → AreAscii source f.tokens → HaveTexts f
lexed_texts source f e order ascii =
    subst (λ s. All (HasText s) f.tokens) (sym e) (have_texts source 0 (length source) f.tokens (omega arith) order ascii)
