-- A reading hangs on what it reads and on the token behind it alone.
use Rattle.std.proofs.Common.{◌≡◌, ℕ, Bool, true, false, List, [], ◌∷◌, ◌++◌, refl, sym, ap, ◌∙◌, subst, append_assoc}
use Rattle.std.proofs.lemmas.Bool.{or_right}
use Rattle.sail_grammar.specs.Symbol.{Sign}
use Rattle.sail_grammar.specs.RowName.{RowName}
use Rattle.sail_grammar.specs.Form.{Form, ◌then◌, Tree, Pair, held, passes}
use Rattle.sail_grammar.specs.Reads.{Reads, word, empty, left, right, both, guard, bar, hold, row, Opens, opens_none}
use Rattle.sail_grammar.specs.Reads.{opens_word, opens_left, opens_right, opens_next, opens_guard, opens_bar}
use Rattle.sail_grammar.specs.Reads.{opens_hold, opens_row}

-- the second list ends here, or both begin with the same token
pub data Alike : List Sign → List Sign → Type 0 where
  bare : {rest : List Sign} → Alike rest []
  same : {s : Sign} {rest more : List Sign} → Alike (s ∷ rest) (s ∷ more)

alike_held : {rest more : List Sign} (ks : List ℕ) → Alike rest more → held rest ks ≡ false → held more ks ≡ false
alike_held ks bare h = refl
alike_held ks same h = h

alike_passes : {rest more : List Sign} (test : Tree → Bool) (ks : List ℕ) (t : Tree) → Alike rest more → passes test ks t rest ≡ true →
    passes test ks t more ≡ true
alike_passes test ks t bare h = or_right (test t) true refl
alike_passes test ks t same h = h

pub alike_append : (w : List Sign) {rest more : List Sign} → Alike rest more → Alike (w ++ rest) (w ++ more)
alike_append [] a = a
alike_append (s ∷ w) a = same

module _ (rule : RowName → Form) where
  -- what was read, and that it is read so before other rests
  pub record Framed (a : Form) (t : Tree) (ss rest : List Sign) : Type 0 where
    pub read : List Sign
    pub split : ss ≡ read ++ rest
    pub again : (more : List Sign) → Alike rest more → Reads rule a t (read ++ more) more

  both_framed : (a b : Form) (t u : Tree) (ss mid rest : List Sign) → Framed a t ss mid → Framed b u mid rest → Framed (a then b) (Pair t u) ss rest
  both_framed a b t u ss mid rest f k = record {
    read = f.read ++ k.read;
    split = f.split ∙ (ap (λ x. f.read ++ x) k.split ∙ sym (append_assoc f.read k.read rest));
    again = λ more alike.
        subst (λ x. Reads rule (a then b) (Pair t u) x more) (sym (append_assoc f.read k.read more))
        (both (f.again (k.read ++ more) (subst (λ x. Alike x (k.read ++ more)) (sym k.split) (alike_append k.read alike))) (k.again more alike));
  }

  pub frame : {a : Form} {t : Tree} {ss rest : List Sign} → Reads rule a t ss rest → Framed a t ss rest
  frame (word {s = s} h) = record { read = s ∷ []; split = refl; again = λ more alike. word h }
  frame (empty {ks = ks} h) = record { read = []; split = refl; again = λ more alike. empty (alike_held ks alike h) }
  frame (left r) = let f = frame r in record { read = f.read; split = f.split; again = λ more alike. left (f.again more alike) }
  frame (right r) = let f = frame r in record { read = f.read; split = f.split; again = λ more alike. right (f.again more alike) }
  frame (both {a = a} {b = b} {t = t} {u = u} {ss = ss} {mid = mid} {rest = rest} r q) = both_framed a b t u ss mid rest (frame r) (frame q)
  frame (guard {test = test} {ks = ks} {t = t} h r) =
      let f = frame r in record { read = f.read; split = f.split; again = λ more alike. guard (alike_passes test ks t alike h) (f.again more alike) }
  frame (bar {test = test} {ks = ks} {t = t} h r) =
      let f = frame r in record { read = f.read; split = f.split; again = λ more alike. bar (alike_passes test ks t alike h) (f.again more alike) }
  frame (hold r) = let f = frame r in record { read = f.read; split = f.split; again = λ more alike. hold (f.again more alike) }
  frame (row r) = let f = frame r in record { read = f.read; split = f.split; again = λ more alike. row (f.again more alike) }

  pub reads_open : {a : Form} {t : Tree} {ss : List Sign} → Reads rule a t ss [] → Opens rule a ss
  reads_open (word h) = opens_word h
  reads_open (empty h) = opens_none
  reads_open (left r) = opens_left (reads_open r)
  reads_open (right r) = opens_right (reads_open r)
  reads_open (both r q) = opens_next r (reads_open q)
  reads_open (guard h r) = opens_guard (reads_open r)
  reads_open (bar h r) = opens_bar (reads_open r)
  reads_open (hold r) = opens_hold (reads_open r)
  reads_open (row r) = opens_row (reads_open r)
