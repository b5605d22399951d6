-- A comment as its marks are read.
use Rattle.std.proofs.Common.{◌≡◌, ◌≢◌, ℕ, zero, suc, ◌+◌, ◌<◌, ◌≤◌, true, false, eqb, List, [], ◌∷◌, length, get_or, take, drop, sym, refl, ap, ◌∙◌}
use Rattle.std.proofs.Common.{subst, arith, cond, add-zero, length-drop}
use Rattle.std.proofs.lemmas.Bool.Decides.{Decides-eqb}
use Rattle.std.proofs.Common.{eqb-true}
use Rattle.std.proofs.lemmas.Bool.{false≢true, and_right, and_parts}
use Rattle.std.proofs.lemmas.Slice.Eq.{starts_is}
use Rattle.std.specs.Prelude.{◌&&◌, codes, nat_eq}
use Rattle.std.specs.List.{starts_with}
use Rattle.std.proofs.lemmas.List.{drop_more}
use Rattle.sail_lex.specs.Comment.{Mark, Opening, Closing, Plain, marks, opened, closed, mark_bytes, IsComment, NeverEnds}

-- from a depth on, as many have closed as opened after n bytes of the marks, for the first time
pub record EndsAfter (depth : ℕ) (ms : List Mark) (n : ℕ) : Type 0 where
  pub count : ℕ
  pub within : count ≤ length ms
  pub even : depth + opened (take count ms) ≡ closed (take count ms)
  pub before : (k : ℕ) → k < count → depth + opened (take k ms) ≢ closed (take k ms)
  pub bytes : n ≡ mark_bytes (take count ms)

abbrev pub NeverAfter : ℕ → List Mark → Type 0
NeverAfter depth ms = (k : ℕ) → k ≤ length ms → depth + opened (take k ms) ≢ closed (take k ms)

module _ (depth : ℕ) (ms : List Mark) (n : ℕ) (open_ : 0 < depth) where
  opening_before : (h : EndsAfter (depth + 1) ms n) (k : ℕ) → k < suc h.count → depth + opened (take k (Opening ∷ ms)) ≢ closed (take k (Opening ∷ ms))
  unfolding opened closed
  opening_before h zero lt e = omega arith
  opening_before h (suc k) lt e = h.before k (omega arith) (omega arith)

  ends_opening : EndsAfter (depth + 1) ms n → EndsAfter depth (Opening ∷ ms) (n + 2)
  unfolding opened closed mark_bytes
  ends_opening h = record {
    count = suc h.count;
    within = omega (arith, h.within);
    even = omega (arith, h.even);
    before = opening_before h;
    bytes = omega (arith, h.bytes);
  }

  plain_before : (h : EndsAfter depth ms n) (k : ℕ) → k < suc h.count → depth + opened (take k (Plain ∷ ms)) ≢ closed (take k (Plain ∷ ms))
  unfolding opened closed
  plain_before h zero lt e = omega arith
  plain_before h (suc k) lt e = h.before k (omega arith) (omega arith)

  ends_plain : EndsAfter depth ms n → EndsAfter depth (Plain ∷ ms) (n + 1)
  unfolding opened closed mark_bytes
  ends_plain h = record {
    count = suc h.count;
    within = omega (arith, h.within);
    even = omega (arith, h.even);
    before = plain_before h;
    bytes = omega (arith, h.bytes);
  }

  never_opening : NeverAfter (depth + 1) ms → NeverAfter depth (Opening ∷ ms)
  unfolding opened closed
  never_opening h zero le e = omega arith
  never_opening h (suc k) le e = h k (omega arith) (omega arith)

  never_plain : NeverAfter depth ms → NeverAfter depth (Plain ∷ ms)
  unfolding opened closed
  never_plain h zero le e = omega arith
  never_plain h (suc k) le e = h k (omega arith) (omega arith)

module _ (depth : ℕ) (ms : List Mark) (n : ℕ) where
  closing_before : (h : EndsAfter depth ms n) (k : ℕ) → k < suc h.count → depth + 1 + opened (take k (Closing ∷ ms)) ≢ closed (take k (Closing ∷ ms))
  unfolding opened closed
  closing_before h zero lt e = omega arith
  closing_before h (suc k) lt e = h.before k (omega arith) (omega arith)

  ends_closing : EndsAfter depth ms n → EndsAfter (depth + 1) (Closing ∷ ms) (n + 2)
  unfolding opened closed mark_bytes
  ends_closing h = record {
    count = suc h.count;
    within = omega (arith, h.within);
    even = omega (arith, h.even);
    before = closing_before h;
    bytes = omega (arith, h.bytes);
  }

  never_closing : NeverAfter depth ms → NeverAfter (depth + 1) (Closing ∷ ms)
  unfolding opened closed
  never_closing h zero le e = omega arith
  never_closing h (suc k) le e = h k (omega arith) (omega arith)

marks_of : (b c : ℕ) (text : List ℕ) →
    marks (b ∷ c ∷ text) ≡ cond (eqb b 47 && eqb c 42) (Opening ∷ marks text) (cond (eqb b 42 && eqb c 47) (Closing ∷ marks text) (Plain ∷ marks (c ∷ text)))
unfolding marks
marks_of b c text = refl

module _ (text : List ℕ) (i : ℕ) (two : i + 1 < length text) where
  two_bytes : drop i text ≡ get_or text i 0 ∷ get_or text (i + 1) 0 ∷ drop (i + 2) text
  two_bytes = drop_more text i 0 (omega arith) ∙
      (ap (λ t. get_or text i 0 ∷ t) (drop_more text (i + 1) 0 two) ∙ ap (λ k. get_or text i 0 ∷ get_or text (i + 1) 0 ∷ drop k text) (omega arith))

  marks_opening : (eqb (get_or text i 0) 47 && eqb (get_or text (i + 1) 0) 42) ≡ true → marks (drop i text) ≡ Opening ∷ marks (drop (i + 2) text)
  unfolding marks
  marks_opening pair =
      let both = and_parts (eqb (get_or text i 0) 47) (eqb (get_or text (i + 1) 0) 42) pair in
      let b : get_or text i 0 ≡ 47 = eqb-true (get_or text i 0) 47 both.0 in
      let c : get_or text (i + 1) 0 ≡ 42 = eqb-true (get_or text (i + 1) 0) 42 both.1 in
      ap marks two_bytes ∙ (λ j. marks (b j ∷ c j ∷ drop (i + 2) text))

  marks_closing : (eqb (get_or text i 0) 42 && eqb (get_or text (i + 1) 0) 47) ≡ true → marks (drop i text) ≡ Closing ∷ marks (drop (i + 2) text)
  unfolding marks
  marks_closing pair =
      let both = and_parts (eqb (get_or text i 0) 42) (eqb (get_or text (i + 1) 0) 47) pair in
      let b : get_or text i 0 ≡ 42 = eqb-true (get_or text i 0) 42 both.0 in
      let c : get_or text (i + 1) 0 ≡ 47 = eqb-true (get_or text (i + 1) 0) 47 both.1 in
      ap marks two_bytes ∙ (λ j. marks (b j ∷ c j ∷ drop (i + 2) text))

  marks_plain : (eqb (get_or text i 0) 47 && eqb (get_or text (i + 1) 0) 42) ≡ false →
      (eqb (get_or text i 0) 42 && eqb (get_or text (i + 1) 0) 47) ≡ false → marks (drop i text) ≡ Plain ∷ marks (drop (i + 1) text)
  marks_plain opens closes =
      ap marks two_bytes
      ∙ (marks_of (get_or text i 0) (get_or text (i + 1) 0) (drop (i + 2) text)
      ∙ (rw (opens, closes) (ap (λ t. Plain ∷ marks t) (ap (λ k. get_or text (i + 1) 0 ∷ drop k text) (omega arith) ∙ sym (drop_more text (i + 1) 0 two)))))

-- at most one byte is left: it is no mark of a pair
marks_last : (ms : List ℕ) → length ms ≤ 1 → (depth : ℕ) → 0 < depth → NeverAfter depth (marks ms)
unfolding marks opened closed
marks_last [] short depth open_ zero le e = omega arith
marks_last [] short depth open_ (suc k) le e = omega arith
marks_last (b ∷ []) short depth open_ zero le e = omega arith
marks_last (b ∷ []) short depth open_ (suc zero) le e = omega arith
marks_last (b ∷ []) short depth open_ (suc (suc k)) le e = omega arith
marks_last (b ∷ c ∷ ms) short depth open_ k le e = omega arith

-- what the text's marks from a place on say at a depth, the whole text says
pub record Going (text : List ℕ) (depth at : ℕ) : Type 0 where
  pub ends : (n : ℕ) → EndsAfter depth (marks (drop at text)) n → IsComment text (at + n)
  pub never : NeverAfter depth (marks (drop at text)) → NeverEnds text

module _ (text : List ℕ) (depth at : ℕ) where
  pub going_opening : at + 1 < length text → 0 < depth → (eqb (get_or text at 0) 47 && eqb (get_or text (at + 1) 0) 42) ≡ true →
      Going text depth at → Going text (depth + 1) (at + 2)
  going_opening two open_ pair going =
      let m = marks_opening text at two pair in
      record {
        ends = λ n h. subst (IsComment text) (omega arith)
            (going.ends (n + 2) (subst (λ ms. EndsAfter depth ms (n + 2)) (sym m) (ends_opening depth (marks (drop (at + 2) text)) n open_ h)));
        never = λ h. going.never (subst (NeverAfter depth) (sym m) (never_opening depth (marks (drop (at + 2) text)) 0 open_ h));
      }

  pub going_closing : at + 1 < length text → (eqb (get_or text at 0) 42 && eqb (get_or text (at + 1) 0) 47) ≡ true → Going text (depth + 1) at →
      Going text depth (at + 2)
  going_closing two pair going =
      let m = marks_closing text at two pair in
      record {
        ends = λ n h. subst (IsComment text) (omega arith)
            (going.ends (n + 2) (subst (λ ms. EndsAfter (depth + 1) ms (n + 2)) (sym m) (ends_closing depth (marks (drop (at + 2) text)) n h)));
        never = λ h. going.never (subst (NeverAfter (depth + 1)) (sym m) (never_closing depth (marks (drop (at + 2) text)) 0 h));
      }

  pub going_plain : at + 1 < length text → 0 < depth → (eqb (get_or text at 0) 47 && eqb (get_or text (at + 1) 0) 42) ≡ false →
      (eqb (get_or text at 0) 42 && eqb (get_or text (at + 1) 0) 47) ≡ false → Going text depth at → Going text depth (at + 1)
  going_plain two open_ opens closes going =
      let m = marks_plain text at two opens closes in
      record {
        ends = λ n h. subst (IsComment text) (omega arith)
            (going.ends (n + 1) (subst (λ ms. EndsAfter depth ms (n + 1)) (sym m) (ends_plain depth (marks (drop (at + 1) text)) n open_ h)));
        never = λ h. going.never (subst (NeverAfter depth) (sym m) (never_plain depth (marks (drop (at + 1) text)) 0 open_ h));
      }

  -- where nothing is open the comment ends
  pub going_end : depth ≡ 0 → Going text depth at → IsComment text at
  unfolding opened closed mark_bytes
  going_end closed_ going =
      subst (IsComment text) (add-zero at)
      (going.ends 0 (record { count = 0; within = omega arith; even = omega arith; before = λ k lt e. omega arith; bytes = refl }))

  -- where at most one byte is left it doesn't
  pub going_never : length text ≤ at + 1 → 0 < depth → Going text depth at → NeverEnds text
  going_never short open_ going = going.never (marks_last (drop at text) (omega (arith, length-drop at text)) depth open_)

-- after the opening that begins the text
first_before : (ms : List Mark) (n : ℕ) (h : EndsAfter 1 ms n) (k : ℕ) → 0 < k → k < suc h.count →
    opened (take k (Opening ∷ ms)) ≢ closed (take k (Opening ∷ ms))
unfolding opened closed
first_before ms n h zero some lt e = omega arith
first_before ms n h (suc k) some lt e = h.before k (omega arith) (omega arith)

first_never : (ms : List Mark) → NeverAfter 1 ms → (k : ℕ) → 0 < k → k ≤ suc (length ms) → opened (take k (Opening ∷ ms)) ≢ closed (take k (Opening ∷ ms))
unfolding opened closed
first_never ms h zero some le e = omega arith
first_never ms h (suc k) some le e = h k (omega arith) (omega arith)

first_ends : (ms : List Mark) (n : ℕ) (text : List ℕ) → marks text ≡ Opening ∷ ms → EndsAfter 1 ms n → IsComment text (2 + n)
unfolding opened closed mark_bytes
first_ends ms n text m h = record {
  count = suc h.count;
  some = omega arith;
  within = subst (λ l. suc h.count ≤ length l) (sym m) (omega (arith, h.within));
  even = subst (λ l. opened (take (suc h.count) l) ≡ closed (take (suc h.count) l)) (sym m) (omega (arith, h.even));
  before = subst (λ l. (k : ℕ) → 0 < k → k < suc h.count → opened (take k l) ≢ closed (take k l)) (sym m) (first_before ms n h);
  bytes = subst (λ l. 2 + n ≡ mark_bytes (take (suc h.count) l)) (sym m) (omega (arith, h.bytes));
}

-- a text that begins with an opening has two bytes at least
pub opening_length : (text : List ℕ) → starts_with nat_eq text (codes "/*") ≡ true → 2 ≤ length text
opening_length [] h = absurd (false≢true h)
opening_length (b ∷ []) h = absurd (false≢true (sym (and_right (eqb 47 b) false refl) ∙ h))
opening_length (b ∷ c ∷ text) h = omega arith

opening_marks : (text : List ℕ) → starts_with nat_eq text (codes "/*") ≡ true → marks text ≡ Opening ∷ marks (drop 2 text)
unfolding marks
opening_marks text h = ap marks ((starts_is Decides-eqb text (codes "/*") (starts_with nat_eq text (codes "/*")) refl).0 h)

pub going_begins : (text : List ℕ) → starts_with nat_eq text (codes "/*") ≡ true → Going text 1 2
going_begins text h =
    let m = opening_marks text h in
    record {
      ends = λ n ended. first_ends (marks (drop 2 text)) n text m ended;
      never = λ never. subst (λ ms. (k : ℕ) → 0 < k → k ≤ length ms → opened (take k ms) ≢ closed (take k ms)) (sym m)
          (first_never (marks (drop 2 text)) never);
    }
