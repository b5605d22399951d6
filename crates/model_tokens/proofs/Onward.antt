-- The texts so far, and what comes of all where something comes of the others.
use Rattle.std.proofs.Common.{◌≡◌, ℕ, ◌+◌, ◌<◌, List, [], ◌∷◌, ◌++◌, length, map, drop, get_or, refl, ap, subst, inl, inr, add-one}
use Rattle.std.proofs.Math.Seq.{drop-cons}
use Rattle.sail_lex.specs.declared.token.Tokens.{Tokens}
use Rattle.model_tokens.specs.Parts.{AreOf, IsOf, tokens_of}
use Rattle.sail_lex.specs.declared.token.LexError.{LexError}
use Rattle.sail_lex.specs.declared.token.LexError.TheVariants as error
use Rattle.sail_lex.specs.declared.token.Token.{Token}
use Rattle.sail_lex.specs.Tokens.{Lexes, IsRefusal as IsRefusalOfOne}
use Rattle.model_tokens.specs.Files.{AreLexed, AreRefused, IsRefusal}

-- the texts before the others have these tokens, and the file and the tokens that are counted are those of the first
-- of the others
pub record LexedSoFar (texts : List (List ℕ)) (all : List (List Token)) (file before : ℕ) (others : List (List ℕ)) : Type 0 where
  pub lexed : (more : List (List Token)) → AreLexed file before others more → AreLexed 1 0 texts (all ++ more)
  pub refused : (e : LexError) → AreRefused file before others e → AreRefused 1 0 texts e

pub none_lexed : (texts : List (List ℕ)) → LexedSoFar texts [] 1 0 texts
none_lexed texts = record { lexed = λ more is. is; refused = λ e is. is }

append_one : {A : Type 0} (all more : List A) (tokens : A) → all ++ tokens ∷ more ≡ (all ++ tokens ∷ []) ++ more
append_one [] more tokens = refl
append_one (first ∷ all) more tokens = ap (λ rest. first ∷ rest) (append_one all more tokens)

pub one_more_lexed : {texts : List (List ℕ)} {all : List (List Token)} {file before : ℕ} {text : List ℕ} {others : List (List ℕ)}
    (tokens : List Token) → LexedSoFar texts all file before (text ∷ others) → Lexes file text 0 before tokens
    → LexedSoFar texts (all ++ tokens ∷ []) (file + 1) (before + length tokens) others
one_more_lexed {texts} {all} {file} {before} {text} {others} tokens so_far reads = record {
  lexed = λ more is. subst (AreLexed 1 0 texts) (append_one all more tokens) (so_far.lexed (tokens ∷ more) (reads, is));
  refused = λ e is. so_far.refused e (inr (tokens, reads, is));
}

append_none : {A : Type 0} (all : List A) → all ++ [] ≡ all
append_none [] = refl
append_none (first ∷ all) = ap (λ rest. first ∷ rest) (append_none all)

pub all_lexed : {texts : List (List ℕ)} {all : List (List Token)} {file before : ℕ}
    → LexedSoFar texts all file before [] → AreLexed 1 0 texts all
all_lexed {texts} {all} so_far = subst (AreLexed 1 0 texts) (append_none all) (so_far.lexed [] refl)

-- the files before the others have these tokens, and the number of a file is that of the first of the others
pub record FilesSoFar (texts : List (List ℕ)) (found : List Tokens) (file : ℕ) (others : List (List ℕ)) : Type 0 where
  pub are : (more : List Tokens) → AreOf file others more → AreOf 1 texts (found ++ more)

pub none_found : (texts : List (List ℕ)) → FilesSoFar texts [] 1 texts
none_found texts = record { are = λ more is. is }

pub one_more_found : {texts : List (List ℕ)} {found : List Tokens} {file : ℕ} {text : List ℕ} {others : List (List ℕ)}
    (last : Tokens) → FilesSoFar texts found file (text ∷ others) → IsOf file text last → FilesSoFar texts (found ++ last ∷ []) (file + 1) others
one_more_found {texts} {found} {file} {text} {others} last so_far here = record {
  are = λ more is. subst (AreOf 1 texts) (append_one found more last) (so_far.are (last ∷ more) (here, is));
}

pub all_found : {texts : List (List ℕ)} {found : List Tokens} {file : ℕ} → FilesSoFar texts found file [] → AreOf 1 texts found
all_found {texts} {found} so_far = subst (AreOf 1 texts) (append_none found) (so_far.are [] refl)

pub refused_here : {texts : List (List ℕ)} {all : List (List Token)} {file before : ℕ} {text : List ℕ} {others : List (List ℕ)}
    (e : LexError) → LexedSoFar texts all file before (text ∷ others) → IsRefusalOfOne file text 0 before e → IsRefusal texts e
refused_here error.OutOfMemory so_far is = tt
refused_here (error.BadByte place byte) so_far is = so_far.refused (error.BadByte place byte) (inl is)
refused_here (error.BadLiteral place) so_far is = so_far.refused (error.BadLiteral place) (inl is)
refused_here (error.Unclosed place) so_far is = so_far.refused (error.Unclosed place) (inl is)
refused_here (error.NumberTooLarge place) so_far is = so_far.refused (error.NumberTooLarge place) (inl is)
refused_here (error.TokenLimit place) so_far is = so_far.refused (error.TokenLimit place) (inl is)

-- the text of a number, and those behind it
pub next_text : (texts : List (List ℕ)) (number : ℕ) (d : List ℕ) → number < length texts
    → drop number texts ≡ get_or texts number d ∷ drop (number + 1) texts
next_text texts number d within = rw (add-one number) (drop-cons texts number d within)

pub tokens_behind : (found : List Tokens) (last : Tokens) → map tokens_of (found ++ last ∷ []) ≡ map tokens_of found ++ tokens_of last ∷ []
tokens_behind [] last = refl
tokens_behind (first ∷ found) last = ap (λ rest. tokens_of first ∷ rest) (tokens_behind found last)
