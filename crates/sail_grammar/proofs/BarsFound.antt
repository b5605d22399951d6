-- Where a list shows a forbidden form, the reading with one token in hand says so, and from where.
use Rattle.std.proofs.Common.{◌≡◌, ℕ, Bool, true, false, List, [], ◌∷◌, ◌++◌, refl, sym, ap, ◌∙◌, subst, append_assoc}
use Rattle.std.specs.Prelude.{Option, Some, None}
use Rattle.std.proofs.lemmas.Bool.{true≢false, and_parts}
use Rattle.sail_grammar.specs.Symbol.{Sign, symbol}
use Rattle.sail_grammar.specs.RowName.{RowName}
use Rattle.sail_grammar.specs.Form.{Form, ◌or◌, Tree, look, held, passes}
use Rattle.sail_grammar.specs.Reads.{Reads, Bars, bars_word, bars_left, bars_right, bars_first, bars_next, bars_guard, bars_here, bars_in, bars_hold, bars_row}
use Rattle.sail_grammar.specs.Test.{Grammar, kept, blank, starts, firsts, clear, IsClear, may_left, may_right}
use Rattle.sail_grammar.specs.Ends.{Outcome, Ends, Done, Stop, word_read, word_stop, empty_read, empty_stop}
use Rattle.sail_grammar.specs.Ends.{left_read, left_stop, right_read, right_stop, first_stop, next_stop, both_read}
use Rattle.sail_grammar.specs.Ends.{guard_read, guard_shut, guard_stop, row_ends, forbid_stop, forbid_bar, bar_read}
use Rattle.sail_grammar.specs.Ends.{bar_bar, bar_stop, hold_read, hold_stop, hold_bar}
use Rattle.sail_grammar.proofs.Test.{among_left, good}
use Rattle.sail_grammar.proofs.Front.{shut_held, bars_front}
use Rattle.sail_grammar.proofs.Frame.{same, frame}
use Rattle.sail_grammar.proofs.Complete.{rest_of, clear_or, not_left, not_right, complete}
use Rattle.sail_grammar.proofs.Reach.{whole_first}

-- it stopped at a forbidden form that begins there
pub data StopsFrom : Outcome → List Sign → Type 0 where
  stops_from : {rest from : List Sign} → StopsFrom (Stop rest (Some from)) from

pub not_done : {t : Tree} {rest from : List Sign} → StopsFrom (Done t rest) from → ⊥
not_done h = elim h [ ]

pub not_plain : {rest from : List Sign} → StopsFrom (Stop rest None) from → ⊥
not_plain h = elim h [ ]

-- what shows a forbidden form has a token
no_word : (w mid : List Sign) → [] ≡ w ++ mid → mid ≡ []
no_word [] mid e = sym e
no_word (s ∷ w) mid e = absurd cc

pub empty_bars : (rule : RowName → Form) {a : Form} {from : List Sign} (ss : List Sign) → Bars rule a ss from → ss ≡ [] → ⊥
empty_bars rule ss (bars_word h) e = cc
empty_bars rule ss (bars_left r) e = empty_bars rule ss r e
empty_bars rule ss (bars_right r) e = empty_bars rule ss r e
empty_bars rule ss (bars_first r) e = empty_bars rule ss r e
empty_bars rule ss (bars_next {mid = mid} q r) e = let k = frame rule q in empty_bars rule mid r (no_word k.read mid (sym e ∙ k.split))
empty_bars rule ss (bars_guard r) e = empty_bars rule ss r e
empty_bars rule ss (bars_here {s = s} q h) e = let k = frame rule q in absurd (let f : s ∷ [] ≡ [] = no_word k.read (s ∷ []) (sym e ∙ k.split) in cc)
empty_bars rule ss (bars_in r) e = empty_bars rule ss r e
empty_bars rule ss (bars_hold r) e = empty_bars rule ss r e
empty_bars rule ss (bars_row r) e = empty_bars rule ss r e

-- a list of some tokens
data Some_tokens (ss : List Sign) : Type 0 where
  tokens : (s : Sign) (more : List Sign) → ss ≡ s ∷ more → Some_tokens ss

bars_tokens : (rule : RowName → Form) {a : Form} {from : List Sign} (ss : List Sign) → Bars rule a ss from → Some_tokens ss
bars_tokens rule [] r = absurd (empty_bars rule [] r refl)
bars_tokens rule (s ∷ ss) r = tokens s ss refl

module _ (g : Grammar) (good_rows : IsClear g) where
  bars_look : {a : Form} {from : List Sign} (us zs ss : List Sign) → Bars g.rule a us from → ss ≡ us ++ zs → starts g a (look ss) ≡ true
  bars_look {a = a} us zs ss r split =
      elim (bars_tokens g.rule us r) [
        | tokens s more e ↦ subst (λ x. starts g a x ≡ true) (ap look e ∙ sym (ap look (split ∙ ap (λ x. x ++ zs) e))) (bars_front g good_rows r)
      ]

  wrong_left : (a b : Form) (f : List ℕ) (ss : List Sign) → clear g (a or b) f ≡ true → may_left g a b (look ss) ≡ true → starts g b (look ss) ≡ true → ⊥
  wrong_left a b f ss c m h = not_left (starts g a (look ss)) (starts g b (look ss)) (blank g a (look ss)) (blank g b (look ss))
      ((clear_or g a b f c).apart (look ss)) h m

  wrong_right : (a b : Form) (f : List ℕ) (ss : List Sign) → clear g (a or b) f ≡ true → may_right g a b (look ss) ≡ true → starts g a (look ss) ≡ true → ⊥
  wrong_right a b f ss c m h = not_right (starts g a (look ss)) (starts g b (look ss)) (blank g a (look ss)) (blank g b (look ss))
      ((clear_or g a b f c).apart (look ss)) h m

  -- the first part of two is read whole where the second shows a forbidden form
  first_read : (a b : Form) (f : List ℕ) (t : Tree) (ss us zs mid from : List Sign) (r : Outcome) →
      Ends g a ss r → clear g a (firsts g b ++ kept (blank g b) f) ≡ true → ss ≡ us ++ zs → Reads g.rule a t us mid → Bars g.rule b mid from →
      r ≡ Done t (mid ++ zs)
  first_read a b f t ss us zs mid from r e c split q k =
      elim (bars_tokens g.rule mid k) [
        | tokens s more h ↦
            whole_first g good_rows a b f t ss us zs s more r e c split (subst (λ x. Reads g.rule a t us x) h q)
            (subst (λ x. starts g b (look x) ≡ true) h (bars_front g good_rows k))
            ∙ ap (λ x. Done t (x ++ zs)) (sym h)
      ]

  -- what a bar is put on is read whole
  barred_read : (a : Form) (test : Tree → Bool) (ks f : List ℕ) (t : Tree) (ss us zs : List Sign) (s : Sign) (r : Outcome) →
      Ends g a ss r → clear g a (ks ++ f) ≡ true → ss ≡ us ++ zs → Reads g.rule a t us (s ∷ []) → passes test ks t (s ∷ []) ≡ false → r ≡ Done t (s ∷ zs)
  barred_read a test ks f t ss us zs s r e c split q h =
      let k = frame g.rule q in
      let there : Reads g.rule a t (k.read ++ (s ∷ zs)) (s ∷ zs) = k.again (s ∷ zs) same in
      let all : k.read ++ (s ∷ zs) ≡ ss = sym (append_assoc k.read (s ∷ []) zs) ∙ (ap (λ x. x ++ zs) (sym k.split) ∙ sym split) in
      complete g good_rows (ks ++ f) e c (subst (λ x. Reads g.rule a t x (s ∷ zs)) all there) (among_left ks f (symbol s) (shut_held test ks t (s ∷ []) h))

  shut_here : (test : Tree → Bool) (ks : List ℕ) (t u : Tree) (s : Sign) (rest zs : List Sign) → passes test ks u rest ≡ true →
      passes test ks t (s ∷ []) ≡ false → Done u rest ≡ Done t (s ∷ zs) → ⊥
  shut_here test ks t u s rest zs h k e =
      true≢false (sym (let j : passes test ks t (s ∷ zs) ≡ true =
      (let p : rest ≡ s ∷ zs = cc in let q : u ≡ t =
      cc in subst (λ x. passes test ks x (s ∷ zs) ≡ true) q (subst (λ x. passes test ks u x ≡ true) p h)) in j) ∙ k)

  not_stopped : {t : Tree} {rest more : List Sign} {from : Option (List Sign)} → Stop rest from ≡ Done t more → ⊥
  not_stopped e = cc

  from_here : (ss us zs rest : List Sign) → ss ≡ us ++ zs → StopsFrom (Stop rest (Some ss)) (us ++ zs)
  from_here ss us zs rest e = subst (λ x. StopsFrom (Stop rest (Some x)) (us ++ zs)) (sym e) stops_from

  from_word : (s t : Sign) (ss zs : List Sign) → s ∷ ss ≡ t ∷ zs → StopsFrom (Stop (s ∷ ss) (Some (s ∷ ss))) (t ∷ zs)
  from_word s t ss zs e = subst (λ x. StopsFrom (Stop x (Some x)) (t ∷ zs)) (sym e) stops_from

  pub bars_found : {a : Form} {ss us from : List Sign} {r : Outcome} (f : List ℕ) (zs : List Sign) → Ends g a ss r → clear g a f ≡ true → ss ≡ us ++ zs →
      Bars g.rule a us from → StopsFrom r (from ++ zs)
  bars_found f zs (forbid_stop {ks = ks} h) c split (bars_word k) = absurd (true≢false (sym k ∙ (ap (λ x. held x ks) (sym split) ∙ h)))
  bars_found f zs (forbid_bar {s = s} {ss = ss} h) c split (bars_word {s = t} k) = from_word s t ss zs split
  bars_found f zs (left_read {a = a} {b = b} m e) c split (bars_left r) = absurd (not_done (bars_found f zs e (clear_or g a b f c).for_left split r))
  bars_found f zs (left_stop {a = a} {b = b} m e) c split (bars_left r) = bars_found f zs e (clear_or g a b f c).for_left split r
  bars_found f zs (right_read {a = a} {b = b} m e) c split (bars_right r) = absurd (not_done (bars_found f zs e (clear_or g a b f c).for_right split r))
  bars_found f zs (right_stop {a = a} {b = b} m e) c split (bars_right r) = bars_found f zs e (clear_or g a b f c).for_right split r
  bars_found {ss = ss} {us = us} f zs (left_read {a = a} {b = b} m e) c split (bars_right r) = absurd (wrong_left a b f ss c m (bars_look us zs ss r split))
  bars_found {ss = ss} {us = us} f zs (left_stop {a = a} {b = b} m e) c split (bars_right r) = absurd (wrong_left a b f ss c m (bars_look us zs ss r split))
  bars_found {ss = ss} {us = us} f zs (right_read {a = a} {b = b} m e) c split (bars_left r) = absurd (wrong_right a b f ss c m (bars_look us zs ss r split))
  bars_found {ss = ss} {us = us} f zs (right_stop {a = a} {b = b} m e) c split (bars_left r) = absurd (wrong_right a b f ss c m (bars_look us zs ss r split))
  bars_found f zs (first_stop {a = a} {b = b} e) c split (bars_first r) =
      bars_found (firsts g b ++ kept (blank g b) f) zs e (and_parts (clear g a (firsts g b ++ kept (blank g b) f)) (clear g b f) c).0 split r
  bars_found f zs (next_stop {a = a} {b = b} e d) c split (bars_first r) =
      absurd (not_done (bars_found (firsts g b ++ kept (blank g b) f) zs e (and_parts (clear g a (firsts g b ++ kept (blank g b) f)) (clear g b f) c).0 split
      r))
  bars_found f zs (both_read {a = a} {b = b} e d) c split (bars_first r) =
      absurd (not_done (bars_found (firsts g b ++ kept (blank g b) f) zs e (and_parts (clear g a (firsts g b ++ kept (blank g b) f)) (clear g b f) c).0 split
      r))
  bars_found {ss = ss} {us = us} {from = from} f zs (first_stop {a = a} {b = b} {rest = rest} {from = found} e) c split (bars_next {t = t} {mid = mid} q r) =
      absurd (not_stopped (first_read a b f t ss us zs mid from (Stop rest found) e
      (and_parts (clear g a (firsts g b ++ kept (blank g b) f)) (clear g b f) c).0 split q r))
  bars_found {ss = ss} {us = us} {from = from} f zs (next_stop {a = a} {b = b} {t = u} {mid = seen} e d) c split (bars_next {t = t} {mid = mid} q r) =
      let two = and_parts (clear g a (firsts g b ++ kept (blank g b) f)) (clear g b f) c in
      bars_found f zs d two.1 (ap rest_of (first_read a b f t ss us zs mid from (Done u seen) e two.0 split q r)) r
  bars_found {ss = ss} {us = us} {from = from} f zs (both_read {a = a} {b = b} {t = u} {mid = seen} e d) c split (bars_next {t = t} {mid = mid} q r) =
      let two = and_parts (clear g a (firsts g b ++ kept (blank g b) f)) (clear g b f) c in
      absurd (not_done (bars_found f zs d two.1 (ap rest_of (first_read a b f t ss us zs mid from (Done u seen) e two.0 split q r)) r))
  bars_found f zs (guard_read h e) c split (bars_guard r) = absurd (not_done (bars_found f zs e c split r))
  bars_found f zs (guard_shut h e) c split (bars_guard r) = absurd (not_done (bars_found f zs e c split r))
  bars_found f zs (guard_stop e) c split (bars_guard r) = bars_found f zs e c split r
  bars_found f zs (row_ends {n = n} e) c split (bars_row r) = bars_found (g.sets n).follow zs e (good g good_rows n).choices split r
  bars_found {ss = ss} {us = us} f zs (bar_read {a = a} {test = test} {ks = ks} {t = u} {rest = rest} h e) c split (bars_here {t = t} {s = s} q k) =
      absurd (shut_here test ks t u s rest zs h k (barred_read a test ks f t ss us zs s (Done u rest) e c split q k))
  bars_found {ss = ss} {us = us} f zs (bar_bar {rest = rest} h e) c split (bars_here q k) = from_here ss us zs rest split
  bars_found {ss = ss} {us = us} f zs (bar_stop {a = a} {test = test} {ks = ks} {rest = rest} {from = found} e) c split (bars_here {t = t} {s = s} q k) =
      absurd (not_stopped (barred_read a test ks f t ss us zs s (Stop rest found) e c split q k))
  bars_found f zs (bar_read {ks = ks} h e) c split (bars_in r) = absurd (not_done (bars_found (ks ++ f) zs e c split r))
  bars_found f zs (bar_bar {ks = ks} h e) c split (bars_in r) = absurd (not_done (bars_found (ks ++ f) zs e c split r))
  bars_found f zs (bar_stop {ks = ks} e) c split (bars_in r) = bars_found (ks ++ f) zs e c split r
  bars_found f zs (hold_read e) c split (bars_hold r) = absurd (not_done (bars_found f zs e c split r))
  bars_found f zs (hold_stop e) c split (bars_hold r) = absurd (not_plain (bars_found f zs e c split r))
  bars_found {ss = ss} {us = us} f zs (hold_bar {rest = rest} e) c split (bars_hold r) = from_here ss us zs rest split
  bars_found f zs (word_read h) c split r = elim r [ ]
  bars_found f zs (word_stop h) c split r = elim r [ ]
  bars_found f zs (empty_read h) c split r = elim r [ ]
  bars_found f zs (empty_stop h) c split r = elim r [ ]
