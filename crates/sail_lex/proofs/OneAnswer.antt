-- A source has at most one answer.
use Rattle.std.proofs.Common.{◌≡◌, ℕ, ◌+◌, ◌<◌, List, ◌∷◌, take, drop, sym, refl, ap, ◌∙◌, subst, arith, inl, inr, ◌⊎◌}
use Rattle.std.proofs.lemmas.Bool.{cases_order}
use Rattle.sail_lex.specs.declared.kind.TokenKind.{TokenKind}
use Rattle.sail_lex.specs.declared.front.Fault.{Fault}
use Rattle.sail_lex.specs.declared.front.Front.TheVariants.{Comment, Token, Refused}
use Rattle.sail_lex.specs.declared.token.Token.{Token as TokenType}
use Rattle.sail_lex.specs.declared.token.LexError.{LexError}
use Rattle.sail_lex.specs.Comment.{IsComment, NeverEnds, marks, mark_bytes}
use Rattle.sail_lex.specs.Front.{front}
use Rattle.sail_lex.specs.Position.{place_at}
use Rattle.sail_lex.specs.Tokens.{Lexes, ended, skipped, token, Refuses, after_skip, after_token, unclosed, faulty, too_many, Skips, blank, comment}
use Rattle.sail_lex.specs.Tokens.{token_at, error_at}

-- a comment has one end
comment_once : (text : List ℕ) (n m : ℕ) → IsComment text n → IsComment text m → n ≡ m
comment_once text n m h k = by_count (cases_order h.count k.count) where
  by_count : (h.count ≡ k.count) ⊎ ((h.count < k.count) ⊎ (k.count < h.count)) → n ≡ m
  by_count (inl e) = h.bytes ∙ (ap (λ c. mark_bytes (take c (marks text))) e ∙ sym k.bytes)
  by_count (inr (inl lt)) = absurd (k.before h.count h.some lt h.even)
  by_count (inr (inr lt)) = absurd (h.before k.count k.some lt k.even)

never_comment : (text : List ℕ) (n : ℕ) → IsComment text n → NeverEnds text → ⊥
never_comment text n h never = never h.count h.some h.within h.even

-- what is passed over has one length
skips_once : (text : List ℕ) (n m : ℕ) → Skips text n → Skips text m → n ≡ m
skips_once text n m (blank e) (blank f) = cc
skips_once text n m (blank e) (comment f k) = cc
skips_once text n m (comment e h) (blank f) = cc
skips_once text n m (comment e h) (comment f k) = comment_once text n m h k

skips_no_token : (text : List ℕ) (n m : ℕ) (kind : TokenKind) → Skips text n → front text ≡ Token kind m → ⊥
skips_no_token text n m kind (blank e) f = cc
skips_no_token text n m kind (comment e h) f = cc

skips_no_fault : (text : List ℕ) (n m : ℕ) (fault : Fault) → Skips text n → front text ≡ Refused fault m → ⊥
skips_no_fault text n m fault (blank e) f = cc
skips_no_fault text n m fault (comment e h) f = cc

skips_ends : (text : List ℕ) (n : ℕ) → Skips text n → front text ≡ Comment → NeverEnds text → ⊥
skips_ends text n (blank e) f never = cc
skips_ends text n (comment e h) f never = never_comment text n h never

same_kind : (text : List ℕ) (k l : TokenKind) (n m : ℕ) → front text ≡ Token k n → front text ≡ Token l m → k ≡ l
same_kind text k l n m e f = cc

same_length : (text : List ℕ) (k l : TokenKind) (n m : ℕ) → front text ≡ Token k n → front text ≡ Token l m → n ≡ m
same_length text k l n m e f = cc

same_fault : (text : List ℕ) (a b : Fault) (n m : ℕ) → front text ≡ Refused a n → front text ≡ Refused b m → a ≡ b
same_fault text a b n m e f = cc

same_reach : (text : List ℕ) (a b : Fault) (n m : ℕ) → front text ≡ Refused a n → front text ≡ Refused b m → n ≡ m
same_reach text a b n m e f = cc

module _ (file : ℕ) (source : List ℕ) where
  pub one_list : (at count : ℕ) (ts us : List TokenType) → Lexes file source at count ts → Lexes file source at count us → ts ≡ us
  one_list at count ts us (ended h) (ended k) = refl
  one_list at count ts us (ended h) (skipped n k s r) = absurd (omega arith)
  one_list at count ts us (ended h) (token kind n k f few r) = absurd (omega arith)
  one_list at count ts us (skipped n k s r) (ended h) = absurd (omega arith)
  one_list at count ts us (skipped n k s r) (skipped m l t q) =
      one_list (at + n) count ts us r (subst (λ i. Lexes file source (at + i) count us) (skips_once (drop at source) m n t s) q)
  one_list at count ts us (skipped n k s r) (token kind m l f few q) = absurd (skips_no_token (drop at source) n m kind s f)
  one_list at count ts us (token kind n k f few r) (ended h) = absurd (omega arith)
  one_list at count ts us (token kind n k f few r) (skipped m l t q) = absurd (skips_no_token (drop at source) m n kind t f)
  one_list at count ts us (token {tokens = more} kind n k f few r) (token {tokens = others} other m l g some q) =
      let kinds = same_kind (drop at source) kind other n m f g in
      let lengths = same_length (drop at source) kind other n m f g in
      let rest = one_list (at + n) (count + 1) more others r (subst (λ i. Lexes file source (at + i) (count + 1) others) (sym lengths) q) in
      λ j. token_at file source at (kinds j) (lengths j) ∷ rest j

  -- what has a list of tokens isn't refused
  pub not_both : (at count : ℕ) (ts : List TokenType) (e : LexError) → Lexes file source at count ts → Refuses file source at count e → ⊥
  not_both at count ts e (ended h) (after_skip n k s r) = omega arith
  not_both at count ts e (ended h) (after_token kind n k f few r) = omega arith
  not_both at count ts e (ended h) (unclosed k f never) = omega arith
  not_both at count ts e (ended h) (faulty fault n k f) = omega arith
  not_both at count ts e (ended h) (too_many kind n k f many) = omega arith
  not_both at count ts e (skipped n h s r) (after_skip m l t q) =
      not_both (at + n) count ts e r (subst (λ i. Refuses file source (at + i) count e) (skips_once (drop at source) m n t s) q)
  not_both at count ts e (skipped n h s r) (after_token kind m l f few q) = skips_no_token (drop at source) n m kind s f
  not_both at count ts e (skipped n h s r) (unclosed l f never) = skips_ends (drop at source) n s f never
  not_both at count ts e (skipped n h s r) (faulty fault m l f) = skips_no_fault (drop at source) n m fault s f
  not_both at count ts e (skipped n h s r) (too_many kind m l f many) = skips_no_token (drop at source) n m kind s f
  not_both at count ts e (token kind n h f few r) (after_skip m l t q) = skips_no_token (drop at source) m n kind t f
  not_both at count ts e (token {tokens = more} kind n h f few r) (after_token other m l g some q) =
      not_both (at + n) (count + 1) more e r (subst (λ i. Refuses file source (at + i) (count + 1) e) (same_length (drop at source) other kind m n g f) q)
  not_both at count ts e (token kind n h f few r) (unclosed l g never) = cc
  not_both at count ts e (token kind n h f few r) (faulty fault m l g) = cc
  not_both at count ts e (token kind n h f few r) (too_many other m l g many) = omega arith

  pub one_refusal : (at count : ℕ) (e e' : LexError) → Refuses file source at count e → Refuses file source at count e' → e ≡ e'
  one_refusal at count e e' (after_skip n h s r) (after_skip m l t q) =
      one_refusal (at + n) count e e' r (subst (λ i. Refuses file source (at + i) count e') (skips_once (drop at source) m n t s) q)
  one_refusal at count e e' (after_skip n h s r) (after_token kind m l g some q) = absurd (skips_no_token (drop at source) n m kind s g)
  one_refusal at count e e' (after_skip n h s r) (unclosed l g never) = absurd (skips_ends (drop at source) n s g never)
  one_refusal at count e e' (after_skip n h s r) (faulty fault m l g) = absurd (skips_no_fault (drop at source) n m fault s g)
  one_refusal at count e e' (after_skip n h s r) (too_many kind m l g many) = absurd (skips_no_token (drop at source) n m kind s g)
  one_refusal at count e e' (after_token kind n h f few r) (after_skip m l t q) = absurd (skips_no_token (drop at source) m n kind t f)
  one_refusal at count e e' (after_token kind n h f few r) (after_token other m l g some q) =
      one_refusal (at + n) (count + 1) e e' r (subst (λ i. Refuses file source (at + i) (count + 1) e') (same_length (drop at source) other kind m n g f) q)
  one_refusal at count e e' (after_token kind n h f few r) (unclosed l g never) = cc
  one_refusal at count e e' (after_token kind n h f few r) (faulty fault m l g) = cc
  one_refusal at count e e' (after_token kind n h f few r) (too_many other m l g many) = absurd (omega arith)
  one_refusal at count e e' (unclosed h f never) (after_skip m l t q) = absurd (skips_ends (drop at source) m t f never)
  one_refusal at count e e' (unclosed h f never) (after_token other m l g some q) = cc
  one_refusal at count e e' (unclosed h f never) (unclosed l g still) = refl
  one_refusal at count e e' (unclosed h f never) (faulty fault m l g) = cc
  one_refusal at count e e' (unclosed h f never) (too_many other m l g many) = cc
  one_refusal at count e e' (faulty fault n h f) (after_skip m l t q) = absurd (skips_no_fault (drop at source) m n fault t f)
  one_refusal at count e e' (faulty fault n h f) (after_token other m l g some q) = cc
  one_refusal at count e e' (faulty fault n h f) (unclosed l g never) = cc
  one_refusal at count e e' (faulty fault n h f) (faulty other m l g) =
      let faults = same_fault (drop at source) fault other n m f g in
      let places = same_reach (drop at source) fault other n m f g in
      λ j. error_at (faults j) (place_at file source (at + places j))
  one_refusal at count e e' (faulty fault n h f) (too_many other m l g many) = cc
  one_refusal at count e e' (too_many kind n h f many) (after_skip m l t q) = absurd (skips_no_token (drop at source) m n kind t f)
  one_refusal at count e e' (too_many kind n h f many) (after_token other m l g some q) = absurd (omega arith)
  one_refusal at count e e' (too_many kind n h f many) (unclosed l g never) = cc
  one_refusal at count e e' (too_many kind n h f many) (faulty fault m l g) = cc
  one_refusal at count e e' (too_many kind n h f many) (too_many other m l g more) = refl
