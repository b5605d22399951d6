-- The reading with one token in hand stops neither before the end of what opens a form, nor before a forbidden form is shown.
use Rattle.std.proofs.Common.{◌≡◌, ℕ, ◌≤◌, true, List, [], ◌∷◌, ◌++◌, length, refl, sym, ap, ◌∙◌, subst, append_assoc, arith}
use Rattle.std.specs.Prelude.{Option}
use Rattle.std.proofs.lemmas.Bool.{true≢false, and_parts}
use Rattle.sail_grammar.specs.Symbol.{Sign, symbol}
use Rattle.sail_grammar.specs.Form.{Form, Tree, look, held}
use Rattle.sail_grammar.specs.Reads.{Reads, Opens, opens_none, opens_word, opens_left, opens_right, opens_first}
use Rattle.sail_grammar.specs.Reads.{opens_next, opens_guard, opens_bar, opens_hold, opens_row}
use Rattle.sail_grammar.specs.Test.{Grammar, kept, blank, starts, firsts, clear, IsClear, may_left, may_right}
use Rattle.sail_grammar.specs.Ends.{Outcome, Ends, Done, Stop, word_read, word_stop, empty_read, empty_stop}
use Rattle.sail_grammar.specs.Ends.{left_read, left_stop, right_read, right_stop, first_stop, next_stop, both_read}
use Rattle.sail_grammar.specs.Ends.{guard_read, guard_shut, guard_stop, row_ends, forbid_stop, forbid_bar, bar_read}
use Rattle.sail_grammar.specs.Ends.{bar_bar, bar_stop, hold_read, hold_stop, hold_bar}
use Rattle.sail_grammar.proofs.Test.{among_left, starts_firsts, good}
use Rattle.sail_grammar.proofs.Front.{Front, begun, bare, opens_front}
use Rattle.sail_grammar.proofs.Frame.{same, frame, reads_open}
use Rattle.sail_grammar.proofs.Complete.{rest_of, ClearOr, clear_or, not_left, not_right, complete}

-- no reading leaves more than there was
pub shrinks : (g : Grammar) {a : Form} {ss : List Sign} {r : Outcome} → Ends g a ss r → length (rest_of r) ≤ length ss
shrinks g (word_read h) = omega arith
shrinks g (word_stop h) = omega arith
shrinks g (empty_read h) = omega arith
shrinks g (empty_stop h) = omega arith
shrinks g (left_read m e) = shrinks g e
shrinks g (left_stop m e) = shrinks g e
shrinks g (right_read m e) = shrinks g e
shrinks g (right_stop m e) = shrinks g e
shrinks g (first_stop e) = shrinks g e
shrinks g (next_stop e d) = omega (arith, shrinks g e, shrinks g d)
shrinks g (both_read e d) = omega (arith, shrinks g e, shrinks g d)
shrinks g (guard_read h e) = shrinks g e
shrinks g (guard_shut h e) = shrinks g e
shrinks g (guard_stop e) = shrinks g e
shrinks g (row_ends {r = Done t rest} e) = shrinks g e
shrinks g (row_ends {r = Stop rest from} e) = shrinks g e
shrinks g (forbid_stop h) = omega arith
shrinks g (forbid_bar h) = omega arith
shrinks g (bar_read h e) = shrinks g e
shrinks g (bar_bar h e) = shrinks g e
shrinks g (bar_stop e) = shrinks g e
shrinks g (hold_read e) = shrinks g e
shrinks g (hold_stop e) = shrinks g e
shrinks g (hold_bar e) = shrinks g e

-- so much is left at most, by an equation of lists
within : (ss us zs : List Sign) (n : ℕ) → ss ≡ us ++ zs → us ≡ [] → n ≤ length ss → n ≤ length zs
within ss us zs n e none h = subst (λ x. n ≤ length x) (e ∙ ap (λ x. x ++ zs) none) h

module _ (g : Grammar) (good_rows : IsClear g) where
  -- what starts with a token of the longer list starts with that of the shorter
  look_more : (s : Sign) (us zs ss : List Sign) → ss ≡ (s ∷ us) ++ zs → look ss ≡ symbol s
  look_more s us zs ss e = ap look e

  -- the first part of two is read whole where a token of the second part has come
  pub whole_first : (a b : Form) (f : List ℕ) (t : Tree) (ss us zs : List Sign) (s : Sign) (mid : List Sign) (r : Outcome) →
      Ends g a ss r → clear g a (firsts g b ++ kept (blank g b) f) ≡ true → ss ≡ us ++ zs → Reads g.rule a t us (s ∷ mid) → starts g b (symbol s) ≡ true →
      r ≡ Done t ((s ∷ mid) ++ zs)
  whole_first a b f t ss us zs s mid r e c split q h =
      let k = frame g.rule q in
      let there : Reads g.rule a t (k.read ++ ((s ∷ mid) ++ zs)) ((s ∷ mid) ++ zs) = k.again ((s ∷ mid) ++ zs) same in
      let all : k.read ++ ((s ∷ mid) ++ zs) ≡ ss = sym (append_assoc k.read (s ∷ mid) zs) ∙ (ap (λ x. x ++ zs) (sym k.split) ∙ sym split) in
      complete g good_rows (firsts g b ++ kept (blank g b) f) e c (subst (λ x. Reads g.rule a t x ((s ∷ mid) ++ zs)) all there)
      (among_left (firsts g b) (kept (blank g b) f) (symbol s) (starts_firsts g b (symbol s) h))

  -- the second part of two begins with a token, or the first part alone opens so far
  data Second (a b : Form) (t : Tree) (us mid : List Sign) : Type 0 where
    in_first : Opens g.rule a us → Second a b t us mid
    in_second : (s : Sign) (more : List Sign) → mid ≡ s ∷ more → starts g b (symbol s) ≡ true → Second a b t us mid

  second_of : (a b : Form) (t : Tree) (us mid : List Sign) → Reads g.rule a t us mid → Front g b mid → Second a b t us mid
  second_of a b t us [] r h = in_first (reads_open g.rule r)
  second_of a b t us (s ∷ mid) r (begun h) = in_second s mid refl h
  second_of a b t us (s ∷ mid) r (bare e) = absurd cc

  other_left : (a b : Form) (f : List ℕ) (ss us zs : List Sign) (n : ℕ) → ClearOr g a b f → may_left g a b (look ss) ≡ true → ss ≡ us ++ zs → Front g b us →
      n ≤ length ss → n ≤ length zs
  other_left a b f ss [] zs n k m e h le = within ss [] zs n e refl le
  other_left a b f ss (s ∷ us) zs n k m e (bare none) le = within ss (s ∷ us) zs n e none le
  other_left a b f ss (s ∷ us) zs n k m e (begun h) le =
      absurd (not_left (starts g a (symbol s)) (starts g b (symbol s)) (blank g a (symbol s)) (blank g b (symbol s)) (k.apart (symbol s)) h
      (subst (λ x. may_left g a b (look x) ≡ true) e m))

  other_right : (a b : Form) (f : List ℕ) (ss us zs : List Sign) (n : ℕ) → ClearOr g a b f → may_right g a b (look ss) ≡ true → ss ≡ us ++ zs → Front g a us →
      n ≤ length ss → n ≤ length zs
  other_right a b f ss [] zs n k m e h le = within ss [] zs n e refl le
  other_right a b f ss (s ∷ us) zs n k m e (bare none) le = within ss (s ∷ us) zs n e none le
  other_right a b f ss (s ∷ us) zs n k m e (begun h) le =
      absurd (not_right (starts g a (symbol s)) (starts g b (symbol s)) (blank g a (symbol s)) (blank g b (symbol s)) (k.apart (symbol s)) h
      (subst (λ x. may_right g a b (look x) ≡ true) e m))

  not_stopped : {t : Tree} {rest more : List Sign} {from : Option (List Sign)} → Stop rest from ≡ Done t more → ⊥
  not_stopped e = cc

  pub reach : {a : Form} {ss us : List Sign} {r : Outcome} (f : List ℕ) (zs : List Sign) → Ends g a ss r → clear g a f ≡ true → ss ≡ us ++ zs →
      Opens g.rule a us → length (rest_of r) ≤ length zs
  reach {a = a} {ss = ss} {r = r} f zs e c split opens_none = within ss [] zs (length (rest_of r)) split refl (shrinks g e)
  reach f zs (word_read h) c split (opens_word k) = let n = ap length split in omega arith
  reach f zs (word_stop {ks = ks} h) c split (opens_word k) = absurd (true≢false (sym k ∙ (ap (λ x. held x ks) (sym split) ∙ h)))
  reach f zs (left_read {a = a} {b = b} m e) c split (opens_left o) = reach f zs e (clear_or g a b f c).for_left split o
  reach f zs (left_stop {a = a} {b = b} m e) c split (opens_left o) = reach f zs e (clear_or g a b f c).for_left split o
  reach f zs (right_read {a = a} {b = b} m e) c split (opens_right o) = reach f zs e (clear_or g a b f c).for_right split o
  reach f zs (right_stop {a = a} {b = b} m e) c split (opens_right o) = reach f zs e (clear_or g a b f c).for_right split o
  reach {ss = ss} {us = us} f zs (left_read {a = a} {b = b} {rest = rest} m e) c split (opens_right o) =
      other_left a b f ss us zs (length rest) (clear_or g a b f c) m split (opens_front g good_rows o) (shrinks g e)
  reach {ss = ss} {us = us} f zs (left_stop {a = a} {b = b} {rest = rest} m e) c split (opens_right o) =
      other_left a b f ss us zs (length rest) (clear_or g a b f c) m split (opens_front g good_rows o) (shrinks g e)
  reach {ss = ss} {us = us} f zs (right_read {a = a} {b = b} {rest = rest} m e) c split (opens_left o) =
      other_right a b f ss us zs (length rest) (clear_or g a b f c) m split (opens_front g good_rows o) (shrinks g e)
  reach {ss = ss} {us = us} f zs (right_stop {a = a} {b = b} {rest = rest} m e) c split (opens_left o) =
      other_right a b f ss us zs (length rest) (clear_or g a b f c) m split (opens_front g good_rows o) (shrinks g e)
  reach f zs (first_stop {a = a} {b = b} e) c split (opens_first o) =
      reach (firsts g b ++ kept (blank g b) f) zs e (and_parts (clear g a (firsts g b ++ kept (blank g b) f)) (clear g b f) c).0 split o
  reach f zs (next_stop {a = a} {b = b} e d) c split (opens_first o) =
      omega (
        arith,
        shrinks g d,
        reach (firsts g b ++ kept (blank g b) f) zs e (and_parts (clear g a (firsts g b ++ kept (blank g b) f)) (clear g b f) c).0
            split o,
      )
  reach f zs (both_read {a = a} {b = b} e d) c split (opens_first o) =
      omega (
        arith,
        shrinks g d,
        reach (firsts g b ++ kept (blank g b) f) zs e (and_parts (clear g a (firsts g b ++ kept (blank g b) f)) (clear g b f) c).0
            split o,
      )
  reach {ss = ss} {us = us} f zs (first_stop {a = a} {b = b} {rest = rest} {from = from} e) c split (opens_next {t = t} {mid = mid} q o) =
      let two = and_parts (clear g a (firsts g b ++ kept (blank g b) f)) (clear g b f) c in
      let short = λ (p : Opens g.rule a us). reach (firsts g b ++ kept (blank g b) f) zs e two.0 split p in
      elim (second_of a b t us mid q (opens_front g good_rows o)) [
        | in_first p ↦ short p
        | in_second s more here h ↦ absurd
            (not_stopped (whole_first a b f t ss us zs s more (Stop rest from) e two.0 split (subst (λ x. Reads g.rule a t us x) here q) h))
      ]
  reach {ss = ss} {us = us} f zs (next_stop {a = a} {b = b} {t = read} {mid = seen} {rest = rest} e d) c split (opens_next {t = t} {mid = mid} q o) =
      let two = and_parts (clear g a (firsts g b ++ kept (blank g b) f)) (clear g b f) c in
      let short = λ (p : Opens g.rule a us). reach (firsts g b ++ kept (blank g b) f) zs e two.0 split p in
      let long = λ (p : seen ≡ mid ++ zs). reach f zs d two.1 p o in
      elim (second_of a b t us mid q (opens_front g good_rows o)) [
        | in_first p ↦ omega (arith, shrinks g d, short p)
        | in_second s more here h ↦
            long (ap rest_of (whole_first a b f t ss us zs s more (Done read seen) e two.0 split (subst (λ x. Reads g.rule a t us x) here q) h) ∙
            ap (λ x. x ++ zs) (sym here))
      ]
  reach {ss = ss} {us = us} f zs (both_read {a = a} {b = b} {t = read} {mid = seen} {rest = rest} e d) c split (opens_next {t = t} {mid = mid} q o) =
      let two = and_parts (clear g a (firsts g b ++ kept (blank g b) f)) (clear g b f) c in
      let short = λ (p : Opens g.rule a us). reach (firsts g b ++ kept (blank g b) f) zs e two.0 split p in
      let long = λ (p : seen ≡ mid ++ zs). reach f zs d two.1 p o in
      elim (second_of a b t us mid q (opens_front g good_rows o)) [
        | in_first p ↦ omega (arith, shrinks g d, short p)
        | in_second s more here h ↦
            long (ap rest_of (whole_first a b f t ss us zs s more (Done read seen) e two.0 split (subst (λ x. Reads g.rule a t us x) here q) h) ∙
            ap (λ x. x ++ zs) (sym here))
      ]
  reach f zs (guard_read h e) c split (opens_guard o) = reach f zs e c split o
  reach f zs (guard_shut h e) c split (opens_guard o) = reach f zs e c split o
  reach f zs (guard_stop e) c split (opens_guard o) = reach f zs e c split o
  reach f zs (row_ends {n = n} e) c split (opens_row o) = reach (g.sets n).follow zs e (good g good_rows n).choices split o
  reach f zs (bar_read {ks = ks} h e) c split (opens_bar o) = reach (ks ++ f) zs e c split o
  reach f zs (bar_bar {ks = ks} h e) c split (opens_bar o) = reach (ks ++ f) zs e c split o
  reach f zs (bar_stop {ks = ks} e) c split (opens_bar o) = reach (ks ++ f) zs e c split o
  reach f zs (hold_read e) c split (opens_hold o) = reach f zs e c split o
  reach f zs (hold_stop e) c split (opens_hold o) = reach f zs e c split o
  reach f zs (hold_bar e) c split (opens_hold o) = reach f zs e c split o
