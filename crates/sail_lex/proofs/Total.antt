-- Every source has tokens or is refused.
use Rattle.std.proofs.Common.{◌≡◌, ℕ, zero, suc, ◌+◌, ◌<◌, ◌≤◌, Bool, true, false, nat_eq, nat_lt, List, [], ◌∷◌, length, take, drop, sym, refl, ◌∙◌}
use Rattle.std.proofs.Common.{subst, arith, inl, inr, ◌⊎◌}
use Rattle.std.proofs.Common.{eqb-true, ltb-true, ltb-false, length-drop, eq-eqb}
use Rattle.std.proofs.lemmas.Bool.{true≢false, cases_order}
use Rattle.sail_lex.specs.declared.kind.TokenKind.{TokenKind}
use Rattle.sail_lex.specs.declared.front.Front.{Front}
use Rattle.sail_lex.specs.declared.front.Front.TheVariants.{Skip, Comment, Token, Refused}
use Rattle.sail_lex.specs.declared.token.LexError.TheVariants as error
use Rattle.sail_lex.specs.Comment.{Mark, Opening, Closing, Plain, IsComment, NeverEnds, marks, mark_bytes, opened, closed}
use Rattle.sail_lex.specs.Front.{front}
use Rattle.sail_lex.specs.Position.{place_at}
use Rattle.sail_lex.specs.Spellings.{IsSpelling}
use Rattle.sail_lex.specs.Tokens.{ended, skipped, token, after_skip, after_token, unclosed, faulty, too_many, Skips, blank, comment, token_at}
use Rattle.sail_lex.specs.Tokens.{error_at, most_tokens, IsAnswered}
use Rattle.sail_lex.proofs.Spelled.{spelling_of}
use Rattle.sail_lex.proofs.Unspelled.{Unspelled, unspelled, no_empty}

-- ---- a comment ends or never does

-- as many of the first k marks open as close
Evens : List Mark → ℕ → Type 0
Evens ms k = opened (take k ms) ≡ closed (take k ms)

-- the first of so many counts at which as many have closed as opened, or none of them is one
record FirstEven (ms : List Mark) (most : ℕ) : Type 0 where
  count : ℕ
  some : 0 < count
  within : count ≤ most
  even : Evens ms count
  before : (k : ℕ) → 0 < k → k < count → Evens ms k → ⊥

NoneEven : List Mark → ℕ → Type 0
NoneEven ms most = (k : ℕ) → 0 < k → k ≤ most → Evens ms k → ⊥

first_even : (ms : List Mark) (most : ℕ) → FirstEven ms most ⊎ NoneEven ms most
unfolding Evens NoneEven
first_even ms zero = inr (λ k some le e. omega arith)
first_even ms (suc most) = by_less (first_even ms most) (nat_eq (opened (take (suc most) ms)) (closed (take (suc most) ms))) refl where
  by_last : ((k : ℕ) → 0 < k → k ≤ most → opened (take k ms) ≡ closed (take k ms) → ⊥) → (k : ℕ) → 0 < k → k ≤ suc most →
      opened (take k ms) ≡ closed (take k ms) →
      (opened (take (suc most) ms) ≡ closed (take (suc most) ms) → ⊥) → ⊥
  by_last none k some le e last = by_order (cases_order k (suc most)) where
    by_order : (k ≡ suc most) ⊎ ((k < suc most) ⊎ (suc most < k)) → ⊥
    by_order (inl same) = last (subst (λ (i : ℕ). opened (take i ms) ≡ closed (take i ms)) same e)
    by_order (inr (inl lt)) = none k some (omega arith) e
    by_order (inr (inr gt)) = omega arith

  by_less : FirstEven ms most ⊎ NoneEven ms most → (t : Bool) → nat_eq (opened (take (suc most) ms)) (closed (take (suc most) ms)) ≡ t →
      FirstEven ms (suc most) ⊎ NoneEven ms (suc most)
  by_less (inl f) t e = inl (record { count = f.count; some = f.some; within = omega (arith, f.within); even = f.even; before = f.before })
  by_less (inr none) true e = inl (record {
    count = suc most;
    some = omega arith;
    within = omega arith;
    even = eqb-true (opened (take (suc most) ms)) (closed (take (suc most) ms)) e;
    before = λ k some lt. none k some (omega arith);
  })
  by_less (inr none) false e =
      inr (λ k some le h. by_last none k some le h (λ same. true≢false (sym (eq-eqb (opened (take (suc most) ms)) (closed (take (suc most) ms)) same) ∙ e)))

comment_or_never : (text : List ℕ) → ((n : ℕ) × IsComment text n) ⊎ NeverEnds text
unfolding Evens NoneEven
comment_or_never text = by_first (first_even (marks text) (length (marks text))) where
  by_first : FirstEven (marks text) (length (marks text)) ⊎ NoneEven (marks text) (length (marks text)) → ((n : ℕ) × IsComment text n) ⊎ NeverEnds text
  by_first (inl f) = inl
      (mark_bytes (take f.count (marks text)), record { count = f.count; some = f.some; within = f.within; even = f.even; before = f.before; bytes = refl })
  by_first (inr none) = inr none

-- marks have bytes
bytes_some : (ms : List Mark) (k : ℕ) → 0 < k → k ≤ length ms → 0 < mark_bytes (take k ms)
unfolding mark_bytes
bytes_some ms zero h le = absurd (omega arith)
bytes_some [] (suc k) h le = absurd (omega arith)
bytes_some (Opening ∷ ms) (suc k) h le = omega arith
bytes_some (Closing ∷ ms) (suc k) h le = omega arith
bytes_some (Plain ∷ ms) (suc k) h le = omega arith

comment_some : (text : List ℕ) (n : ℕ) → IsComment text n → 0 < n
comment_some text n h = subst (λ (k : ℕ). 0 < k) (sym h.bytes) (bytes_some (marks text) h.count h.some h.within)

-- ---- a token has bytes

token_some : (text : List ℕ) (kind : TokenKind) (n : ℕ) → IsSpelling kind (take n text) → 0 < n
token_some text kind zero s = absurd (no_empty kind text s)
token_some text kind (suc n) s = omega arith

-- ---- any place

module _ (file : ℕ) (source : List ℕ) where
  on_skip : (at count n : ℕ) → at < length source → Skips (drop at source) n → IsAnswered file source (at + n) count → IsAnswered file source at count
  on_skip at count n h s (inl found) = inl (found.0, skipped n h s found.1)
  on_skip at count n h s (inr found) = inr (found.0, after_skip n h s found.1)

  on_token : (at count n : ℕ) (kind : TokenKind) → at < length source → front (drop at source) ≡ Token kind n → count < most_tokens →
      IsAnswered file source (at + n) (count + 1) → IsAnswered file source at count
  on_token at count n kind h f few (inl found) = inl (token_at file source at kind n ∷ found.0, token kind n h f few found.1)
  on_token at count n kind h f few (inr found) = inr (found.0, after_token kind n h f few found.1)

  by_count : (at count n : ℕ) (kind : TokenKind) → at < length source → front (drop at source) ≡ Token kind n → (t : Bool) →
      nat_lt count most_tokens ≡ t → IsAnswered file source (at + n) (count + 1) → IsAnswered file source at count
  by_count at count n kind h f true e rest = on_token at count n kind h f (ltb-true count most_tokens e) rest
  by_count at count n kind h f false e rest = inr (error.TokenLimit (place_at file source at), too_many kind n h f (ltb-false count most_tokens e))

  by_comment : (at count : ℕ) → at < length source → front (drop at source) ≡ Comment → ((n c : ℕ) → 0 < n → IsAnswered file source (at + n) c) →
      ((n : ℕ) × IsComment (drop at source) n) ⊎ NeverEnds (drop at source) → IsAnswered file source at count
  by_comment at count h f rest (inl found) = on_skip at count found.0 h (comment f found.1) (rest found.0 count (comment_some (drop at source) found.0 found.1))
  by_comment at count h f rest (inr never) = inr (error.Unclosed (place_at file source at), unclosed h f never)

  by_front : (at count : ℕ) → at < length source → 0 < length (drop at source) → ((n c : ℕ) → 0 < n → IsAnswered file source (at + n) c) →
      (f : Front) → front (drop at source) ≡ f → Unspelled (drop at source) f → IsAnswered file source at count
  unfolding Unspelled
  by_front at count h some rest (Skip n) f u = on_skip at count n h (blank f) (rest n count u.0)
  by_front at count h some rest Comment f u = by_comment at count h f rest (comment_or_never (drop at source))
  by_front at count h some rest (Token kind n) f u =
      by_count at count n kind h f (nat_lt count most_tokens) refl
      (rest n (count + 1) (token_some (drop at source) kind n (spelling_of (drop at source) kind n some f)))
  by_front at count h some rest (Refused fault n) f u = inr (error_at fault (place_at file source (at + n)), faulty fault n h f)

  by_end : (at count : ℕ) → ((n c : ℕ) → 0 < n → IsAnswered file source (at + n) c) → (t : Bool) → nat_lt at (length source) ≡ t →
      IsAnswered file source at count
  by_end at count rest true e =
      let h = ltb-true at (length source) e in
      let some : 0 < length (drop at source) = omega (arith, length-drop at source) in
      by_front at count h some rest (front (drop at source)) refl (unspelled (drop at source) some)
  by_end at count rest false e = inl ([], ended (ltb-false at (length source) e))

  -- with so many bytes left at most
  answered : (left at count : ℕ) → length source ≤ at + left → IsAnswered file source at count
  answered zero at count h = inl ([], ended (omega arith))
  answered (suc left) at count h = by_end at count (λ n c some. answered left (at + n) c (omega arith)) (nat_lt at (length source)) refl

  pub total : (count : ℕ) → IsAnswered file source 0 count
  total count = answered (length source) 0 count (omega arith)
