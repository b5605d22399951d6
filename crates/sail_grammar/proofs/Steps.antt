-- What a step of the parser is as a step of a reading.
use Rattle.std.proofs.Common.{◌≡◌, ℕ, Bool, true, false, List, [], ◌∷◌, refl, sym, ap, subst}
use Rattle.std.specs.Result.{IfErr, IfOk, IsErrAnd}
use Rattle.std.specs.Prelude.{Result, Ok, Err, Option, Some, None, not, ◌&&◌, ◌||◌, ◌==◌}
use Rattle.std.proofs.lemmas.Bool.{true≢false}
use Rattle.sail_grammar.specs.Symbol.{Sign, symbol}
use Rattle.sail_grammar.proofs.Test.{every_at}
use Rattle.sail_grammar.specs.RowName.{RowName}
use Rattle.sail_grammar.specs.Form.{Form, Word, Empty, ◌or◌, ◌then◌, Row, Tree, Nothing, Leaf, Pair, Left, Right, among, held, look}
use Rattle.sail_grammar.specs.Test.{every, may_left, may_right, starts, blank}
use Rattle.sail_grammar.specs.Ends.{word_read, empty_read, left_read, right_read, both_read, Ends, Done, Stop}
use Rattle.sail_grammar.specs.Ends.{left_stop, right_stop, first_stop, next_stop, row_ends}
use Rattle.sail_grammar.specs.Sets.{grammar}
use Rattle.sail_grammar.specs.Parsing.{Reading, Stopping, Tells, StopsAt, Takes}
use Rattle.sail_grammar.specs.declared.error.ReadError.{ReadError}
use Rattle.sail_grammar.specs.declared.error.ReadError.TheVariants.{Unfit, Forbidden, OutOfMemory}

-- a refusal within a part is one of the whole, where every stop of the part is one of the whole
pub carry : {a b : Form} {ss mid : List Sign} {e : ReadError} →
    ((rest : List Sign) (from : Option (List Sign)) → Ends grammar a mid (Stop rest from) → Ends grammar b ss (Stop rest from)) → StopsAt a mid e →
    StopsAt b ss e
carry {a = a} {b = b} {ss = ss} {mid = mid} {e = e} f s = record { why = tell e s.why } where
  stopping : (n : ℕ) (m : Option ℕ) → Stopping a mid n m → Stopping b ss n m
  stopping n m w = record { rest = w.rest; begun = w.begun; ends = f w.rest w.begun w.ends; left_is = w.left_is; from_is = w.from_is }

  tell : (e : ReadError) → Tells a mid e → Tells b ss e
  tell (Unfit n) w = stopping n None w
  tell (Forbidden n m) w = stopping n (Some m) w
  tell OutOfMemory w = tt

pub stops_first : {a b : Form} {ss : List Sign} {e : ReadError} → StopsAt a ss e → StopsAt (a then b) ss e
stops_first s = carry (λ rest from h. first_stop h) s

pub stops_next : {a b : Form} {t : Tree} {ss mid : List Sign} {e : ReadError} → Ends grammar a ss (Done t mid) → StopsAt b mid e → StopsAt (a then b) ss e
stops_next r s = carry (λ rest from h. next_stop r h) s

pub stops_left : {a b : Form} {ss : List Sign} {e : ReadError} → may_left grammar a b (look ss) ≡ true → StopsAt a ss e → StopsAt (a or b) ss e
stops_left m s = carry (λ rest from h. left_stop m h) s

pub stops_right : {a b : Form} {ss : List Sign} {e : ReadError} → may_right grammar a b (look ss) ≡ true → StopsAt b ss e → StopsAt (a or b) ss e
stops_right m s = carry (λ rest from h. right_stop m h) s

pub stops_row : {n : RowName} {ss : List Sign} {e : ReadError} → StopsAt (grammar.rule n) ss e → StopsAt (Row n) ss e
stops_row s = carry (λ rest from h. row_ends h) s

pub stops_memory : {f : Form} {ss : List Sign} {e : ReadError} → e ≡ OutOfMemory → StopsAt f ss e
stops_memory {f = f} {ss = ss} e = record { why = subst (Tells f ss) (sym e) tt }

-- what holds of each symbol of a list holds of the token in hand, where it has one of them
pub held_every : (p : ℕ → Bool) (ks : List ℕ) (ss : List Sign) → held ss ks ≡ true → every p ks ≡ true → p (look ss) ≡ true
held_every p ks [] h e = absurd (true≢false (sym h))
held_every p ks (s ∷ ss) h e = every_at p ks (symbol s) e h

-- and a token that has none of them is in no list of them, nor is the end
pub held_none : (ks : List ℕ) (ss : List Sign) → among ks 0 ≡ false → held ss ks ≡ false → among ks (look ss) ≡ false
held_none ks [] z h = z
held_none ks (s ∷ ss) z h = h

-- the other side is taken where the one neither begins with the token in hand nor may be empty
pub skip : (a b : Form) (c : ℕ) → starts grammar a c ≡ false → blank grammar a c ≡ false → may_right grammar a b c ≡ true
skip a b c s n = right_way (starts grammar b c) (starts grammar a c) (blank grammar b c) (blank grammar a c) s n where
  right_way : (sb sa bb ba : Bool) → sa ≡ false → ba ≡ false → (sb || (not sa && (bb || not ba))) ≡ true
  right_way true sa bb ba s n = refl
  right_way false sa true ba s n = ap (λ v. not v && true) s
  right_way false sa false ba s n = (λ i. not (s i) && not (n i))

-- nothing is read where the token in hand doesn't begin the one side
pub right_nothing : (a : Form) (ss : List Sign) → starts grammar a (look ss) ≡ false → may_right grammar a (Empty []) (look ss) ≡ true
right_nothing a ss h = way (look ss == 0) (starts grammar a (look ss)) (blank grammar a (look ss)) h where
  way : (z sa ba : Bool) → sa ≡ false → (not sa && ((z || true) || not ba)) ≡ true
  way true sa ba h = ap (λ v. not v && true) h
  way false sa ba h = ap (λ v. not v && true) h

pub none_in : (ss : List Sign) → held ss [] ≡ false
none_in [] = refl
none_in (s ∷ ss) = refl

-- a token that was taken is in hand
pub takes_held : (ks : List ℕ) (ss : List Sign) (s : Sign) (rest : List Sign) → Takes ks ss s rest → held ss ks ≡ true
takes_held ks ss s rest (word_read h) = h

-- what a `?` hands on
pub exit_stop : {X : Type 0} {f : Form} {ss : List Sign} {e : ReadError} (r : Result X ReadError) → IsErrAnd r (λ y. y ≡ e) → StopsAt f ss e →
    IfErr r (λ y. StopsAt f ss y)
exit_stop (Ok x) h s = tt
exit_stop {f = f} {ss = ss} (Err y) h s = subst (StopsAt f ss) (sym h) s

-- what the last call hands on
pub pass_stop : {X : Type 0} {f g : Form} {ss mid : List Sign} (r : Result X ReadError) → IfErr r (λ y. StopsAt f mid y) →
    ((e : ReadError) → StopsAt f mid e → StopsAt g ss e) → IfErr r (λ y. StopsAt g ss y)
pass_stop (Ok x) h k = tt
pass_stop (Err y) h k = k y h

-- with a token of its first word in hand a side is taken
pub left_word : (ks : List ℕ) (x b : Form) (ss : List Sign) → held ss ks ≡ true → may_left grammar (Word ks then x) b (look ss) ≡ true
left_word ks x b [] h = absurd (true≢false (sym h))
left_word ks x b (s ∷ ss) h = ap (λ v. (v || false) || (not (starts grammar b (symbol s)) && (false || not (blank grammar b (symbol s))))) h

-- with another nothing is read
pub none_word : (ks : List ℕ) (x : Form) (ss : List Sign) → among ks 0 ≡ false → held ss ks ≡ false →
    may_right grammar (Word ks then x) (Empty []) (look ss) ≡ true
none_word ks x ss z h = right_nothing (Word ks then x) ss (ap (λ v. v || false) (held_none ks ss z h))

-- a part, and perhaps a word and another part behind it
pub some_ends : {a b c : Form} {ks : List ℕ} {t u : Tree} {s : Sign} {ss mid after rest : List Sign} → Ends grammar a ss (Done t mid) → Takes ks mid s after →
    Ends grammar b after (Done u rest) → Ends grammar (a then ((Word ks then b) or c)) ss (Done (Pair t (Left (Pair (Leaf s) u))) rest)
some_ends {b = b} {c = c} {ks = ks} {s = s} {mid = mid} {after = after} r w q =
    both_read r (left_read (left_word ks b c mid (takes_held ks mid s after w)) (both_read w q))

pub none_ends : {a b : Form} {ks : List ℕ} {t : Tree} {ss mid : List Sign} → Ends grammar a ss (Done t mid) → among ks 0 ≡ false → held mid ks ≡ false →
    Ends grammar (a then ((Word ks then b) or Empty [])) ss (Done (Pair t (Right Nothing)) mid)
none_ends {b = b} {ks = ks} {mid = mid} r z h = both_read r (right_read (none_word ks b mid z h) (empty_read (none_in mid)))

pub some_stops : {a b c : Form} {ks : List ℕ} {t : Tree} {s : Sign} {ss mid after : List Sign} {e : ReadError} → Ends grammar a ss (Done t mid) →
    Takes ks mid s after → StopsAt b after e → StopsAt (a then ((Word ks then b) or c)) ss e
some_stops {b = b} {c = c} {ks = ks} {s = s} {mid = mid} {after = after} r w q =
    stops_next r (stops_left (left_word ks b c mid (takes_held ks mid s after w)) (stops_next w q))

-- perhaps a word and parts behind it
pub more_ends : {b c : Form} {ks : List ℕ} {u : Tree} {s : Sign} {ss after rest : List Sign} → Takes ks ss s after → Ends grammar b after (Done u rest) →
    Ends grammar ((Word ks then b) or c) ss (Done (Left (Pair (Leaf s) u)) rest)
more_ends {b = b} {c = c} {ks = ks} {s = s} {ss = ss} {after = after} w q = left_read (left_word ks b c ss (takes_held ks ss s after w)) (both_read w q)

pub no_more_ends : {b : Form} {ks : List ℕ} {ss : List Sign} → among ks 0 ≡ false → held ss ks ≡ false →
    Ends grammar ((Word ks then b) or Empty []) ss (Done (Right Nothing) ss)
no_more_ends {b = b} {ks = ks} {ss = ss} z h = right_read (none_word ks b ss z h) (empty_read (none_in ss))

pub more_stops : {b c : Form} {ks : List ℕ} {s : Sign} {ss after : List Sign} {e : ReadError} → Takes ks ss s after → StopsAt b after e →
    StopsAt ((Word ks then b) or c) ss e
more_stops {b = b} {c = c} {ks = ks} {s = s} {ss = ss} {after = after} w q = stops_left (left_word ks b c ss (takes_held ks ss s after w)) (stops_next w q)

-- what the last call gives
pub pass_ok : {X : Type 0} {P Q : X → Type 0} (r : Result X ReadError) → IfOk r P → ((x : X) → P x → Q x) → IfOk r Q
pass_ok (Ok x) h k = k x h
pass_ok (Err e) h k = tt

-- a list that is read by a loop: what is read from here on, behind the items so far, is read from the start on
pub record Onward {A : Type 0} (f : Form) (behind : List A → Tree → List A) (start : List Sign) (first : List A) (now : List Sign) (items : List A) : Type 0
  where
    pub reads : (x : List A) (rest : List Sign) → Reading f (behind items) now x rest → Reading f (behind first) start x rest
    pub stops : (e : ReadError) → StopsAt f now e → StopsAt f start e

pub onward_start : {A : Type 0} (f : Form) (behind : List A → Tree → List A) (ss : List Sign) (items : List A) → Onward f behind ss items ss items
onward_start f behind ss items = record { reads = λ x rest r. r; stops = λ e s. s }

pub onward_step : {A : Type 0} {f : Form} {behind : List A → Tree → List A} {start now next : List Sign} {first items more : List A} →
    Onward f behind start first now items → ((x : List A) (rest : List Sign) → Reading f (behind more) next x rest → Reading f (behind items) now x rest) →
    ((e : ReadError) → StopsAt f next e → StopsAt f now e) → Onward f behind start first next more
onward_step o k s = record { reads = λ x rest r. o.reads x rest (k x rest r); stops = λ e h. o.stops e (s e h) }
