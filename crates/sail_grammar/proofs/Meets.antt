-- What an ending says of the list: what is done is read, and what comes before a stop opens the form.
use Rattle.std.proofs.Common.{◌≡◌, ℕ, Bool, false, List, [], ◌∷◌, ◌++◌, refl, sym, ap, ◌∙◌, subst, append_assoc, append-nil}
use Rattle.std.specs.Prelude.{Option, Some}
use Rattle.std.proofs.lemmas.Bool.{false≢true}
use Rattle.sail_grammar.specs.Symbol.{Sign}
use Rattle.sail_grammar.specs.Form.{Form, Word, Empty, ◌or◌, ◌then◌, Guard, Row, Forbid, Bar, Hold, Tree, passes}
use Rattle.sail_grammar.specs.Reads.{Reads, word, empty, left, right, both, guard, bar, hold, row, Opens, opens_none}
use Rattle.sail_grammar.specs.Reads.{opens_left, opens_right, opens_first, opens_next, opens_guard, opens_bar}
use Rattle.sail_grammar.specs.Reads.{opens_hold, opens_row, Bars, bars_word, bars_left, bars_right, bars_first}
use Rattle.sail_grammar.specs.Reads.{bars_next, bars_guard, bars_here, bars_in, bars_hold, bars_row}
use Rattle.sail_grammar.specs.Test.{Grammar}
use Rattle.sail_grammar.specs.Ends.{Ends, Done, Stop, word_read, word_stop, empty_read, empty_stop, left_read}
use Rattle.sail_grammar.specs.Ends.{left_stop, right_read, right_stop, first_stop, next_stop, both_read, guard_read}
use Rattle.sail_grammar.specs.Ends.{guard_shut, guard_stop, row_ends, forbid_stop, forbid_bar, bar_read, bar_bar}
use Rattle.sail_grammar.specs.Ends.{bar_stop, hold_read, hold_stop, hold_bar}
use Rattle.sail_grammar.proofs.Frame.{Alike, bare, same, frame, reads_open}
use Rattle.sail_grammar.proofs.Front.{shut_held}

pub alike_front : (front rest : List Sign) → Alike (front ++ rest) front
alike_front [] rest = bare
alike_front (s ∷ front) rest = same

module _ (g : Grammar) where
  pub meets_done : {a : Form} {t : Tree} {ss rest : List Sign} → Ends g a ss (Done t rest) → Reads g.rule a t ss rest
  meets_done (word_read h) = word h
  meets_done (empty_read h) = empty h
  meets_done (left_read m e) = left (meets_done e)
  meets_done (right_read m e) = right (meets_done e)
  meets_done (both_read e d) = both (meets_done e) (meets_done d)
  meets_done (guard_read h e) = guard h (meets_done e)
  meets_done (row_ends e) = row (meets_done e)
  meets_done (bar_read h e) = bar h (meets_done e)
  meets_done (hold_read e) = hold (meets_done e)

  -- what comes before the rest opens the form
  pub record Stopped (a : Form) (ss rest : List Sign) : Type 0 where
    pub front : List Sign
    pub split : ss ≡ front ++ rest
    pub opened : Opens g.rule a front

  read_stopped : (a : Form) (t : Tree) (ss rest : List Sign) → Reads g.rule a t ss rest → Stopped a ss rest
  read_stopped a t ss rest r =
      let f = frame g.rule r in
      record {
        front = f.read ++ [];
        split = f.split ∙ ap (λ x. x ++ rest) (sym (append-nil f.read));
        opened = reads_open g.rule (f.again [] bare);
      }

  next_stopped : (a b : Form) (t : Tree) (ss mid rest : List Sign) → Reads g.rule a t ss mid → Stopped b mid rest → Stopped (a then b) ss rest
  next_stopped a b t ss mid rest r s =
      let f = frame g.rule r in
      record {
        front = f.read ++ s.front;
        split = f.split ∙ (ap (λ x. f.read ++ x) s.split ∙ sym (append_assoc f.read s.front rest));
        opened = opens_next (f.again s.front (subst (λ x. Alike x s.front) (sym s.split) (alike_front s.front rest))) s.opened;
      }

  stopped_map : (a b : Form) (ss rest : List Sign) → ((front : List Sign) → Opens g.rule a front → Opens g.rule b front) → Stopped a ss rest → Stopped b ss rest
  stopped_map a b ss rest f s = record { front = s.front; split = s.split; opened = f s.front s.opened }

  stopped_here : (a : Form) (ss : List Sign) → Stopped a ss ss
  stopped_here a ss = record { front = []; split = refl; opened = opens_none }

  pub meets_stop : {a : Form} {ss rest : List Sign} {from : Option (List Sign)} → Ends g a ss (Stop rest from) → Stopped a ss rest
  meets_stop (word_stop {ks = ks} {ss = ss} h) = stopped_here (Word ks) ss
  meets_stop (empty_stop {ks = ks} {ss = ss} h) = stopped_here (Empty ks) ss
  meets_stop (left_stop {a = a} {b = b} {ss = ss} {rest = rest} m e) = stopped_map a (a or b) ss rest (λ front o. opens_left o) (meets_stop e)
  meets_stop (right_stop {a = a} {b = b} {ss = ss} {rest = rest} m e) = stopped_map b (a or b) ss rest (λ front o. opens_right o) (meets_stop e)
  meets_stop (first_stop {a = a} {b = b} {ss = ss} {rest = rest} e) = stopped_map a (a then b) ss rest (λ front o. opens_first o) (meets_stop e)
  meets_stop (next_stop {a = a} {b = b} {t = t} {ss = ss} {mid = mid} {rest = rest} e d) = next_stopped a b t ss mid rest (meets_done e) (meets_stop d)
  meets_stop (guard_shut {a = a} {test = test} {ks = ks} {t = t} {ss = ss} {rest = rest} h e) =
      stopped_map a (Guard a test ks) ss rest (λ front o. opens_guard o) (read_stopped a t ss rest (meets_done e))
  meets_stop (guard_stop {a = a} {test = test} {ks = ks} {ss = ss} {rest = rest} e) =
      stopped_map a (Guard a test ks) ss rest (λ front o. opens_guard o) (meets_stop e)
  meets_stop (row_ends {n = n} {ss = ss} {r = Stop rest from} e) = stopped_map (g.rule n) (Row n) ss rest (λ front o. opens_row o) (meets_stop e)
  meets_stop (forbid_stop {ks = ks} {ss = ss} h) = stopped_here (Forbid ks) ss
  meets_stop (forbid_bar {ks = ks} {s = s} {ss = ss} h) = stopped_here (Forbid ks) (s ∷ ss)
  meets_stop (bar_bar {a = a} {test = test} {ks = ks} {t = t} {ss = ss} {rest = rest} h e) =
      stopped_map a (Bar a test ks) ss rest (λ front o. opens_bar o) (read_stopped a t ss rest (meets_done e))
  meets_stop (bar_stop {a = a} {test = test} {ks = ks} {ss = ss} {rest = rest} e) =
      stopped_map a (Bar a test ks) ss rest (λ front o. opens_bar o) (meets_stop e)
  meets_stop (hold_stop {a = a} {ss = ss} {rest = rest} e) = stopped_map a (Hold a) ss rest (λ front o. opens_hold o) (meets_stop e)
  meets_stop (hold_bar {a = a} {ss = ss} {rest = rest} e) = stopped_map a (Hold a) ss rest (λ front o. opens_hold o) (meets_stop e)

  -- with the first token of the rest a forbidden form is shown, that begins where the list `from` does
  pub record Barred (a : Form) (ss rest from : List Sign) : Type 0 where
    pub unfit : Sign
    pub more : List Sign
    pub here : rest ≡ unfit ∷ more
    pub shown : List Sign
    pub begun : List Sign
    pub split : ss ≡ shown ++ more
    pub begins : from ≡ begun ++ more
    pub bars : Bars g.rule a shown begun

  barred_map : (a b : Form) (ss rest from : List Sign) → ((shown begun : List Sign) → Bars g.rule a shown begun → Bars g.rule b shown begun) →
      Barred a ss rest from → Barred b ss rest from
  barred_map a b ss rest from f s =
      record {
        unfit = s.unfit;
        more = s.more;
        here = s.here;
        shown = s.shown;
        begun = s.begun;
        split = s.split;
        begins = s.begins;
        bars =
            f s.shown s.begun s.bars;
      }

  next_barred : (a b : Form) (t : Tree) (ss mid rest from : List Sign) → Reads g.rule a t ss mid → Barred b mid rest from → Barred (a then b) ss rest from
  next_barred a b t ss mid rest from r s =
      let f = frame g.rule r in
      record {
        unfit = s.unfit;
        more = s.more;
        here = s.here;
        shown = f.read ++ s.shown;
        begun = s.begun;
        split = f.split ∙ (ap (λ x. f.read ++ x) s.split ∙ sym (append_assoc f.read s.shown s.more));
        begins = s.begins;
        bars = bars_next (f.again s.shown (subst (λ x. Alike x s.shown) (sym s.split) (alike_front s.shown s.more))) s.bars;
      }

  shut_barred : (a : Form) (test : Tree → Bool) (ks : List ℕ) (t : Tree) (ss rest : List Sign) → passes test ks t rest ≡ false → Reads g.rule a t ss rest →
      Barred (Bar a test ks) ss rest ss
  shut_barred a test ks t ss [] h r = absurd (false≢true (shut_held test ks t [] h))
  shut_barred a test ks t ss (s ∷ more) h r =
      let f = frame g.rule r in
      let split : ss ≡ (f.read ++ (s ∷ [])) ++ more = f.split ∙ sym (append_assoc f.read (s ∷ []) more) in
      record {
        unfit = s;
        more = more;
        here = refl;
        shown = f.read ++ (s ∷ []);
        begun = f.read ++ (s ∷ []);
        split = split;
        begins = split;
        bars = bars_here (f.again (s ∷ []) same) h;
      }

  hold_barred : (a : Form) (ss rest from : List Sign) → Barred a ss rest from → Barred (Hold a) ss rest ss
  hold_barred a ss rest from s =
      record { unfit = s.unfit; more = s.more; here = s.here; shown = s.shown; begun = s.shown; split = s.split; begins = s.split; bars = bars_hold s.bars }

  pub meets_bar : {a : Form} {ss rest from : List Sign} → Ends g a ss (Stop rest (Some from)) → Barred a ss rest from
  meets_bar (left_stop {a = a} {b = b} {ss = ss} {rest = rest} {from = Some from} m e) =
      barred_map a (a or b) ss rest from (λ shown begun o. bars_left o) (meets_bar e)
  meets_bar (right_stop {a = a} {b = b} {ss = ss} {rest = rest} {from = Some from} m e) =
      barred_map b (a or b) ss rest from (λ shown begun o. bars_right o) (meets_bar e)
  meets_bar (first_stop {a = a} {b = b} {ss = ss} {rest = rest} {from = Some from} e) =
      barred_map a (a then b) ss rest from (λ shown begun o. bars_first o) (meets_bar e)
  meets_bar (next_stop {a = a} {b = b} {t = t} {ss = ss} {mid = mid} {rest = rest} {from = Some from} e d) =
      next_barred a b t ss mid rest from (meets_done e) (meets_bar d)
  meets_bar (guard_stop {a = a} {test = test} {ks = ks} {ss = ss} {rest = rest} {from = Some from} e) =
      barred_map a (Guard a test ks) ss rest from (λ shown begun o. bars_guard o) (meets_bar e)
  meets_bar (row_ends {n = n} {ss = ss} {r = Stop rest (Some from)} e) = barred_map (g.rule n) (Row n) ss rest from (λ shown begun o. bars_row o) (meets_bar e)
  meets_bar (forbid_bar {ks = ks} {s = s} {ss = ss} h) =
      record { unfit = s; more = ss; here = refl; shown = s ∷ []; begun = s ∷ []; split = refl; begins = refl; bars = bars_word h }
  meets_bar (bar_bar {a = a} {test = test} {ks = ks} {t = t} {ss = ss} {rest = rest} h e) = shut_barred a test ks t ss rest h (meets_done e)
  meets_bar (bar_stop {a = a} {test = test} {ks = ks} {ss = ss} {rest = rest} {from = Some from} e) =
      barred_map a (Bar a test ks) ss rest from (λ shown begun o. bars_in o) (meets_bar e)
  meets_bar (hold_bar {a = a} {ss = ss} {rest = rest} {from = from} e) = hold_barred a ss rest from (meets_bar e)
