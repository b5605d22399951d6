-- The tokens so far, and what the rest of the source says.
use Rattle.std.proofs.Common.{◌≡◌, ℕ, ◌+◌, ◌<◌, ◌≤◌, List, [], ◌∷◌, ◌++◌, length, drop, sym, refl, subst, arith, append_assoc, append-nil, length-drop, IsAscii}
use Rattle.std.proofs.lemmas.List.{length_push}
use Rattle.sail_lex.specs.declared.kind.TokenKind.{TokenKind}
use Rattle.sail_lex.specs.declared.front.Front.TheVariants.{Token}
use Rattle.sail_lex.specs.declared.token.Token.{Token as TokenType}
use Rattle.sail_lex.specs.declared.token.LexError.{LexError}
use Rattle.sail_lex.specs.Front.{front}
use Rattle.sail_lex.specs.Position.{place_at}
use Rattle.sail_lex.specs.Tokens.{Lexes, ended, skipped, token, Refuses, after_skip, after_token, Skips, token_at, most_tokens, AreInOrder, HavePlaces}
use Rattle.std.proofs.Common.{take}
use Rattle.sail_lex.specs.Valued.{IsValued, AreValued, AreAscii, text_of}
use Rattle.sail_lex.proofs.Ascii.{token_ascii}

-- what the source says from a place on, after these tokens, it says from its beginning
pub record Continues (file : ℕ) (source : List ℕ) (before at : ℕ) (tokens : List TokenType) : Type 0 where
  pub lexes : (more : List TokenType) → Lexes file source at (before + length tokens) more → Lexes file source 0 before (tokens ++ more)
  pub refuses : (e : LexError) → Refuses file source at (before + length tokens) e → Refuses file source 0 before e
  pub spans : AreInOrder 0 at tokens
  pub places : HavePlaces file source tokens
  pub values : AreValued source tokens
  pub ascii : AreAscii source tokens

-- the span of one token more
spans_push : (from at n : ℕ) (tokens : List TokenType) (t : TokenType) → AreInOrder from at tokens → t.start ≡ at → t.end ≡ at + n → 0 < n →
    AreInOrder from (at + n) (tokens ++ t ∷ [])
spans_push from at n [] t h start end some = (omega arith, omega arith, omega arith)
spans_push from at n (x ∷ tokens) t h start end some = (h.0, h.1, spans_push x.end at n tokens t h.2 start end some)

spans_wider : (from at n : ℕ) (tokens : List TokenType) → AreInOrder from at tokens → AreInOrder from (at + n) tokens
spans_wider from at n [] h = omega arith
spans_wider from at n (x ∷ tokens) h = (h.0, h.1, spans_wider x.end at n tokens h.2)

places_push : (file : ℕ) (source : List ℕ) (tokens : List TokenType) (t : TokenType) → HavePlaces file source tokens →
    t.place ≡ place_at file source t.start → HavePlaces file source (tokens ++ t ∷ [])
places_push file source [] t h e = (e, tt)
places_push file source (x ∷ tokens) t h e = (h.0, places_push file source tokens t h.1 e)

values_push : (source : List ℕ) (tokens : List TokenType) (t : TokenType) → AreValued source tokens → IsValued t.kind (text_of source t) →
    AreValued source (tokens ++ t ∷ [])
values_push source [] t h v = (v, tt)
values_push source (x ∷ tokens) t h v = (h.0, values_push source tokens t h.1 v)

ascii_push : (source : List ℕ) (tokens : List TokenType) (t : TokenType) → AreAscii source tokens → IsAscii (text_of source t) →
    AreAscii source (tokens ++ t ∷ [])
ascii_push source [] t h v = (v, tt)
ascii_push source (x ∷ tokens) t h v = (h.0, ascii_push source tokens t h.1 v)

module _ (file : ℕ) (source : List ℕ) (before at : ℕ) (tokens : List TokenType) where
  pub continues_skip : (n : ℕ) → at < length source → Skips (drop at source) n → Continues file source before at tokens →
      Continues file source before (at + n) tokens
  continues_skip n h skips c = record {
    lexes = λ more rest. c.lexes more (skipped n h skips rest);
    refuses = λ e rest. c.refuses e (after_skip n h skips rest);
    spans = spans_wider 0 at n tokens c.spans;
    places = c.places;
    values = c.values;
    ascii = c.ascii;
  }

  count_push : (t : TokenType) → before + length (tokens ++ t ∷ []) ≡ before + length tokens + 1
  count_push t = omega (arith, length_push tokens t)

  pub continues_token : (kind : TokenKind) (n : ℕ) (grown : List TokenType) → at < length source → front (drop at source) ≡ Token kind n →
      before + length tokens < most_tokens → 0 < n → IsValued kind (take n (drop at source)) →
      grown ≡ tokens ++ token_at file source at kind n ∷ [] → Continues file source before at tokens → Continues file source before (at + n) grown
  continues_token kind n grown h f few some valued e c =
      let t = token_at file source at kind n in
      subst (Continues file source before (at + n)) (sym e) (record {
        lexes = λ more rest. subst (Lexes file source 0 before) (sym (append_assoc tokens (t ∷ []) more))
            (c.lexes (t ∷ more) (token kind n h f few (subst (λ k. Lexes file source (at + n) k more) (count_push t) rest)));
        refuses = λ e rest. c.refuses e (after_token kind n h f few (subst (λ k. Refuses file source (at + n) k e) (count_push t) rest));
        spans = spans_push 0 at n tokens t c.spans refl refl some;
        places = places_push file source tokens t c.places refl;
        values = values_push source tokens t c.values (subst (λ (k : ℕ). IsValued kind (take k (drop at source))) (omega arith) valued);
        ascii = ascii_push source tokens t c.ascii
            (subst (λ (k : ℕ). IsAscii (take k (drop at source))) (omega arith) (token_ascii (drop at source) kind n (omega (arith, length-drop at source)) f));
      })

  -- at the source's end the tokens so far are all
  pub continues_end : length source ≤ at → Continues file source before at tokens → Lexes file source 0 before tokens
  continues_end h c = subst (Lexes file source 0 before) (append-nil tokens) (c.lexes [] (ended h))
