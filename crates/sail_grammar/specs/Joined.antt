-- The tokens of all files, joined.
use Rattle.std.specs.Prelude.{ℕ, ◌≤◌, List, [], ◌∷◌, ◌++◌, map, length, IsAscii, All}
use Rattle.sail_base.specs.declared.place.Place.{Place}
use Rattle.sail_lex.specs.declared.token.Token.{Token}
use Rattle.sail_lex.specs.declared.token.Tokens.{Tokens}
use Rattle.sail_lex.specs.Valued.{text_of}
use Rattle.sail_grammar.specs.Symbol.{Sign}

-- a token of a source, with its text
abbrev pub with_text : List ℕ → Token → Sign
with_text source t = record { kind = t.kind; place = t.place; text = text_of source t }

abbrev pub with_texts : List ℕ → List Token → List Sign
with_texts source ts = map (with_text source) ts

-- the tokens of all files, in order
abbrev pub joined : List Tokens → List Sign
joined [] = []
joined (f ∷ files) = with_texts f.source.now f.tokens ++ joined files

-- the end of the last file
abbrev pub end_from : Place → List Tokens → Place
end_from place [] = place
end_from place (f ∷ files) = end_from f.end files

-- a token's span is one of the source, and its text is ASCII
abbrev pub HasText : List ℕ → Token → Type 0
HasText source t = (t.start ≤ t.end) × (t.end ≤ length source) × IsAscii (text_of source t)

abbrev pub HaveTexts : Tokens → Type 0
HaveTexts f = All (HasText f.source.now) f.tokens
