-- What one token in hand is to the grammar.
use Rattle.std.proofs.Common.{◌≡◌, ℕ, ◌+◌, ◌∙◌, map, drop, get_or, ◌<◌, ◌≤◌, Bool, true, false, List, [], ◌∷◌, length, refl, sym, ap, subst, arith, lit≤}
use Rattle.std.proofs.lemmas.Bool.{true≢false, ne_eqb, eqb-false}
use Rattle.std.proofs.lemmas.List.{drop_more}
use Rattle.sail_grammar.specs.declared.lexeme.Lexeme.{Lexeme}
use Rattle.std.specs.Prelude.{◌==◌, ◌&&◌, ◌||◌, cond}
use Rattle.sail_lex.specs.declared.kind.TokenKind.{TokenKind}
use Rattle.sail_lex.specs.declared.kind.TokenKind.TheVariants.{Decimal, Identifier}
use Rattle.sail_lex.specs.contracts.kind.TokenKind.{the_type}
use Rattle.sail_grammar.specs.Symbol.{Sign, symbol, code, is_two, is_kind_name}
use denote.Enum.Bare.{sameb}
use denote.Enum.Declared.{Declared, tag_of, variants}
use denote.Enum.Enum.{tag_below}
use Rattle.sail_grammar.specs.Form.{among, held}
use Rattle.sail_grammar.specs.Ends.{word_read, word_stop}
use Rattle.sail_grammar.specs.Parsing.{Takes, Stopping}
use Rattle.sail_grammar.specs.Form.{Word}
use Rattle.std.specs.Prelude.{None}

pub take_word : (ks : List ℕ) (ls : List Lexeme) (l : Lexeme) (rest : List Lexeme) → ls ≡ l ∷ rest → among ks (symbol l) ≡ true → Takes ks ls l rest
take_word ks ls l rest e h = subst (λ xs. Takes ks xs l rest) (sym e) (word_read h)

pub not_held : (ks : List ℕ) (ls : List Lexeme) (l : Lexeme) (rest : List Lexeme) → ls ≡ l ∷ rest → among ks (symbol l) ≡ false → held ls ks ≡ false
not_held ks ls l rest e h = subst (λ xs. held xs ks ≡ false) (sym e) h

pub none_held : (ks : List ℕ) (ls : List Lexeme) → ls ≡ [] → held ls ks ≡ false
none_held ks ls e = subst (λ xs. held xs ks ≡ false) (sym e) refl

-- the symbol of a kind is a small number
code_below : (k : TokenKind) → code k < 201
code_below k =
    let below : tag_of the_type k < length (variants the_type) = tag_below (variants the_type) (Declared.to the_type k) in
    let few : length (variants the_type) ≤ 200 = lit≤ tt in
    omega (arith, below, few)

-- neither of two numbers that a third differs from, nor a fourth, is it
differs : (n m : ℕ) (two other : Bool) → (n ≡ 201 → ⊥) → (n ≡ 202 → ⊥) → (n ≡ m → ⊥) → (n == cond two 201 (cond other 202 m)) ≡ false
differs n m true other a b c = ne_eqb n 201 a
differs n m false true a b c = ne_eqb n 202 b
differs n m false false a b c = ne_eqb n m c

-- a token of another kind has another symbol
pub unlike : (k : TokenKind) (s : Sign) → sameb the_type s.kind k ≡ false → false ≡ among (code k ∷ []) (symbol s)
unlike k s h =
    let below = code_below k in
    let apart : code k ≡ code s.kind → ⊥ = λ e. eqb-false (tag_of the_type s.kind) (tag_of the_type k) h (omega (arith, e)) in
    ap (λ b. b || false) (sym (differs (code k) (code s.kind) (code s.kind == code Decimal && is_two s.text) (code s.kind ==
    code Identifier && is_kind_name s.text) (λ e. omega (arith, below, e)) (λ e. omega (arith, below, e)) apart))

pub held_head : (ks : List ℕ) (ls : List Lexeme) (l : Lexeme) (rest : List Lexeme) → ls ≡ l ∷ rest → held ls ks ≡ among ks (symbol l)
held_head ks ls l rest e = ap (λ xs. held xs ks) e

pub stop_word : (ks : List ℕ) (ls : List Lexeme) → held ls ks ≡ false → Stopping (Word ks) ls (length ls) None
stop_word ks ls h = record { rest = ls; begun = None; ends = word_stop h; left_is = refl; from_is = refl }

-- one kind more that isn't it
among_rest : (x b : Bool) → (x || false) ≡ false → (x || b) ≡ b
among_rest true b h = absurd (true≢false h)
among_rest false b h = refl

among_head : (x b : Bool) → (x || false) ≡ true → (x || b) ≡ true
among_head true b h = refl
among_head false b h = absurd (true≢false (sym h))

pub among_next : (ks : List TokenKind) (i : ℕ) (d : TokenKind) (c : ℕ) → i < length ks → among (code (get_or ks i d) ∷ []) c ≡ false →
    among (map code (drop (i + 1) ks)) c ≡ among (map code (drop i ks)) c
among_next ks i d c lt h = sym
    (ap (λ xs. among (map code xs) c) (drop_more ks i d lt) ∙ among_rest (code (get_or ks i d) == c) (among (map code (drop (i + 1) ks)) c) h)

pub among_found : (ks : List TokenKind) (i : ℕ) (d : TokenKind) (c : ℕ) → i < length ks → among (code (get_or ks i d) ∷ []) c ≡ true →
    among (map code (drop i ks)) c ≡ true
among_found ks i d c lt h = ap (λ xs. among (map code xs) c) (drop_more ks i d lt) ∙ among_head (code (get_or ks i d) ==
    c) (among (map code (drop (i + 1) ks)) c) h
