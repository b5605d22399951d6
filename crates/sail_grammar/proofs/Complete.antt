-- What a form reads, the reading with one token in hand finds.
use Rattle.std.proofs.Common.{◌≡◌, ℕ, Bool, true, false, not, ◌&&◌, ◌||◌, List, ◌++◌, refl, sym, ap, ◌∙◌, subst}
use Rattle.std.proofs.lemmas.Bool.{true≢false, and_parts, not-true}
use Rattle.sail_grammar.specs.Symbol.{Sign}
use Rattle.sail_grammar.specs.Form.{Form, ◌or◌, Tree, Left, Right, among, look, passes}
use Rattle.sail_grammar.specs.Reads.{Reads, word, empty, left, right, both, guard, bar, hold, row}
use Rattle.sail_grammar.specs.Test.{Grammar, every, kept, blank, starts, firsts, one_way, clear, IsClear, may_left, may_right}
use Rattle.sail_grammar.specs.Ends.{Outcome, Ends, Done, Stop, word_read, word_stop, empty_read, empty_stop}
use Rattle.sail_grammar.specs.Ends.{left_read, left_stop, right_read, right_stop, first_stop, next_stop, both_read}
use Rattle.sail_grammar.specs.Ends.{guard_read, guard_shut, guard_stop, row_ends, forbid_stop, forbid_bar, bar_read}
use Rattle.sail_grammar.specs.Ends.{bar_bar, bar_stop, hold_read, hold_stop, hold_bar}
use Rattle.sail_grammar.proofs.Test.{every_at, among_left, among_right, among_kept, starts_firsts, good}
use Rattle.sail_grammar.proofs.Front.{First, some, none, reads_first}

abbrev changed : (Tree → Tree) → Outcome → Outcome
changed f (Done t rest) = Done (f t) rest
changed f (Stop rest from) = Stop rest from

abbrev pub rest_of : Outcome → List Sign
rest_of (Done t rest) = rest
rest_of (Stop rest from) = rest

-- the parts of the test of a choice
pub record ClearOr (g : Grammar) (a b : Form) (f : List ℕ) : Type 0 where
  pub apart : (c : ℕ) → starts g a c ≡ true → starts g b c ≡ false
  pub ways : (c : ℕ) → among f c ≡ true → one_way g a b c ≡ true
  pub for_left : clear g a f ≡ true
  pub for_right : clear g b f ≡ true

pub clear_or : (g : Grammar) (a b : Form) (f : List ℕ) → clear g (a or b) f ≡ true → ClearOr g a b f
clear_or g a b f h =
    let p1 = and_parts (every (λ c. not (starts g b c)) (firsts g a)) (every (one_way g a b) f && (clear g a f && clear g b f)) h in
    let p2 = and_parts (every (one_way g a b) f) (clear g a f && clear g b f) p1.1 in
    let p3 = and_parts (clear g a f) (clear g b f) p2.1 in
    record {
      apart = λ c s. not-true (starts g b c) (every_at (λ d. not (starts g b d)) (firsts g a) c p1.0 (starts_firsts g a c s));
      ways = λ c m. every_at (one_way g a b) f c p2.0 m;
      for_left = p3.0;
      for_right = p3.1;
    }

-- the left side isn't taken where the right one starts, nor where the right one is blank before what follows
pub not_left : (sa sb ba bb : Bool) → (sa ≡ true → sb ≡ false) → sb ≡ true → (sa || (not sb && (ba || not bb))) ≡ true → ⊥
not_left true sb ba bb apart h m = true≢false (sym h ∙ apart refl)
not_left false true ba bb apart h m = true≢false (sym m)
not_left false false ba bb apart h m = true≢false (sym h)

pub not_right : (sa sb ba bb : Bool) → (sa ≡ true → sb ≡ false) → sa ≡ true → (sb || (not sa && (bb || not ba))) ≡ true → ⊥
not_right true true ba bb apart h m = true≢false (apart refl)
not_right true false ba bb apart h m = true≢false (sym m)
not_right false sb ba bb apart h m = true≢false (sym h)

blank_right : (sa sb ba bb : Bool) → (not (ba && (sb || bb)) && not (bb && sa)) ≡ true → bb ≡ true → (sa || (not sb && (ba || not bb))) ≡ true → ⊥
blank_right sa sb ba false w h m = true≢false (sym h)
blank_right true sb ba true w h m = true≢false (sym (and_parts (not (ba && (sb || true))) false w).1)
blank_right false true ba true w h m = true≢false (sym m)
blank_right false false true true w h m = true≢false (sym w)
blank_right false false false true w h m = true≢false (sym m)

blank_left : (sa sb ba bb : Bool) → (not (ba && (sb || bb)) && not (bb && sa)) ≡ true → ba ≡ true → (sb || (not sa && (bb || not ba))) ≡ true → ⊥
blank_left sa sb false bb w h m = true≢false (sym h)
blank_left sa true true bb w h m = true≢false (sym w)
blank_left sa false true true w h m = true≢false (sym w)
blank_left true false true false w h m = true≢false (sym m)
blank_left false false true false w h m = true≢false (sym m)

module _ (g : Grammar) (good_rows : IsClear g) where
  pub side_left : (a b : Form) (f : List ℕ) (ss rest : List Sign) → ClearOr g a b f → may_left g a b (look ss) ≡ true → First g b ss rest →
      among f (look rest) ≡ true → ⊥
  side_left a b f ss rest k m (some h) n =
      not_left (starts g a (look ss)) (starts g b (look ss)) (blank g a (look ss)) (blank g b (look ss)) (k.apart (look ss)) h m
  side_left a b f ss rest k m (none e h) n =
      blank_right (starts g a (look rest)) (starts g b (look rest)) (blank g a (look rest)) (blank g b (look rest)) (k.ways (look rest) n) h
      (subst (λ x. may_left g a b (look x) ≡ true) e m)

  pub side_right : (a b : Form) (f : List ℕ) (ss rest : List Sign) → ClearOr g a b f → may_right g a b (look ss) ≡ true → First g a ss rest →
      among f (look rest) ≡ true → ⊥
  side_right a b f ss rest k m (some h) n =
      not_right (starts g a (look ss)) (starts g b (look ss)) (blank g a (look ss)) (blank g b (look ss)) (k.apart (look ss)) h m
  side_right a b f ss rest k m (none e h) n =
      blank_left (starts g a (look rest)) (starts g b (look rest)) (blank g a (look rest)) (blank g b (look rest)) (k.ways (look rest) n) h
      (subst (λ x. may_right g a b (look x) ≡ true) e m)

  -- what comes behind the first part of two
  abbrev pub next_set : Form → List ℕ → List ℕ
  next_set b f = firsts g b ++ kept (blank g b) f

  pub behind_first : (b : Form) (f : List ℕ) (mid rest : List Sign) → First g b mid rest → among f (look rest) ≡ true →
      among (firsts g b ++ kept (blank g b) f) (look mid) ≡ true
  behind_first b f mid rest (some h) n = among_left (firsts g b) (kept (blank g b) f) (look mid) (starts_firsts g b (look mid) h)
  behind_first b f mid rest (none e h) n =
      subst (λ x. among (firsts g b ++ kept (blank g b) f) (look x) ≡ true) (sym e)
      (among_right (firsts g b) (kept (blank g b) f) (look rest) (among_kept (blank g b) f (look rest) h n))

  shut_not : (test : Tree → Bool) (ks : List ℕ) (t u : Tree) (rest more : List Sign) → passes test ks t rest ≡ false → passes test ks u more ≡ true →
      Done t rest ≡ Done u more → ⊥
  shut_not test ks t u rest more h k e = cc

  pub complete : {a : Form} {ss rest : List Sign} {t : Tree} {r : Outcome} (f : List ℕ) → Ends g a ss r → clear g a f ≡ true → Reads g.rule a t ss rest →
      among f (look rest) ≡ true → r ≡ Done t rest
  complete f (word_read h) c (word k) n = refl
  complete f (word_stop {ks = ks} h) c (word {s = s} k) n = absurd (true≢false (sym k ∙ h))
  complete f (empty_read h) c (empty k) n = refl
  complete f (empty_stop h) c (empty k) n = absurd (true≢false (sym h ∙ k))
  complete f (left_read {a = a} {b = b} m e) c (left r) n = ap (changed Left) (complete f e (clear_or g a b f c).for_left r n)
  complete f (left_stop {a = a} {b = b} m e) c (left r) n = ap (changed Left) (complete f e (clear_or g a b f c).for_left r n)
  complete {ss = ss} {rest = rest} f (left_read {a = a} {b = b} m e) c (right r) n =
      absurd (side_left a b f ss rest (clear_or g a b f c) m (reads_first g good_rows r) n)
  complete {ss = ss} {rest = rest} f (left_stop {a = a} {b = b} m e) c (right r) n =
      absurd (side_left a b f ss rest (clear_or g a b f c) m (reads_first g good_rows r) n)
  complete f (right_read {a = a} {b = b} m e) c (right r) n = ap (changed Right) (complete f e (clear_or g a b f c).for_right r n)
  complete f (right_stop {a = a} {b = b} m e) c (right r) n = ap (changed Right) (complete f e (clear_or g a b f c).for_right r n)
  complete {ss = ss} {rest = rest} f (right_read {a = a} {b = b} m e) c (left r) n =
      absurd (side_right a b f ss rest (clear_or g a b f c) m (reads_first g good_rows r) n)
  complete {ss = ss} {rest = rest} f (right_stop {a = a} {b = b} m e) c (left r) n =
      absurd (side_right a b f ss rest (clear_or g a b f c) m (reads_first g good_rows r) n)
  complete {rest = rest} f (first_stop {a = a} {b = b} e) c (both {mid = mid} r q) n =
      let two = and_parts (clear g a (firsts g b ++ kept (blank g b) f)) (clear g b f) c in
      let i = complete (firsts g b ++ kept (blank g b) f) e two.0 r (behind_first b f mid rest (reads_first g good_rows q) n) in
      cc
  complete {rest = rest} f (next_stop {a = a} {b = b} {mid = seen} e d) c (both {u = u} {mid = mid} r q) n =
      let two = and_parts (clear g a (firsts g b ++ kept (blank g b) f)) (clear g b f) c in
      let i = complete (firsts g b ++ kept (blank g b) f) e two.0 r (behind_first b f mid rest (reads_first g good_rows q) n) in
      let j = complete f d two.1 (subst (λ x. Reads g.rule b u x rest) (sym (ap rest_of i)) q) n in
      cc
  complete {rest = rest} f (both_read {a = a} {b = b} {mid = seen} e d) c (both {u = u} {mid = mid} r q) n =
      let two = and_parts (clear g a (firsts g b ++ kept (blank g b) f)) (clear g b f) c in
      let i = complete (firsts g b ++ kept (blank g b) f) e two.0 r (behind_first b f mid rest (reads_first g good_rows q) n) in
      let j = complete f d two.1 (subst (λ x. Reads g.rule b u x rest) (sym (ap rest_of i)) q) n in
      cc
  complete f (guard_read h e) c (guard k r) n = complete f e c r n
  complete {rest = rest} {t = t} f (guard_shut {test = test} {ks = ks} {t = u} {rest = seen} h e) c (guard k r) n =
      absurd (shut_not test ks u t seen rest h k (complete f e c r n))
  complete f (guard_stop e) c (guard k r) n = complete f e c r n
  complete f (row_ends {n = m} e) c (row {rest = rest} r) n =
      complete (g.sets m).follow e (good g good_rows m).choices r (every_at (among (g.sets m).follow) f (look rest) c n)
  complete {rest = rest} f (bar_read {ks = ks} h e) c (bar k r) n = complete (ks ++ f) e c r (among_right ks f (look rest) n)
  complete {rest = rest} {t = t} f (bar_bar {test = test} {ks = ks} {t = u} {rest = seen} h e) c (bar k r) n =
      absurd (shut_not test ks u t seen rest h k (complete (ks ++ f) e c r (among_right ks f (look rest) n)))
  complete {rest = rest} f (bar_stop {ks = ks} e) c (bar k r) n = complete (ks ++ f) e c r (among_right ks f (look rest) n)
  complete f (hold_read e) c (hold r) n = complete f e c r n
  complete f (hold_stop e) c (hold r) n = complete f e c r n
  complete f (hold_bar e) c (hold r) n = let i = complete f e c r n in cc
  complete f (forbid_stop h) c r n = elim r [ ]
  complete f (forbid_bar h) c r n = elim r [ ]
