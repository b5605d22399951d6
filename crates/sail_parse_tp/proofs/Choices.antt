-- A side of a choice, by the token in hand.
use Rattle.std.proofs.Common.{◌≡◌, ℕ, true, false, List, [], refl, sym, ◌∙◌, ap}
use Rattle.std.specs.Prelude.{◌||◌}
use Rattle.sail_grammar.specs.declared.error.ReadError.{ReadError}
use Rattle.sail_grammar.specs.Symbol.{Sign}
use Rattle.sail_grammar.specs.Form.{Form, Word, ◌or◌, ◌then◌, Tree, Left, Right, among, held, look}
use Rattle.sail_grammar.specs.Ends.{Ends, Done, left_read, right_read}
use Rattle.sail_grammar.specs.Test.{every, may_left, may_right, starts, blank}
use Rattle.sail_grammar.specs.Sets.{grammar}
use Rattle.sail_grammar.specs.Parsing.{StopsAt}
use Rattle.sail_grammar.proofs.Steps.{held_every, held_none, skip, stops_left, stops_right}

pub go_left : {a b : Form} {t : Tree} {ss rest : List Sign} (ks : List ℕ) → held ss ks ≡ true → every (may_left grammar a b) ks ≡ true →
    Ends grammar a ss (Done t rest) → Ends grammar (a or b) ss (Done (Left t) rest)
go_left {a = a} {b = b} {ss = ss} ks h e r = left_read (held_every (may_left grammar a b) ks ss h e) r

pub go_right : {a b : Form} {t : Tree} {ss rest : List Sign} (ks : List ℕ) → held ss ks ≡ true → every (may_right grammar a b) ks ≡ true →
    Ends grammar b ss (Done t rest) → Ends grammar (a or b) ss (Done (Right t) rest)
go_right {a = a} {b = b} {ss = ss} ks h e r = right_read (held_every (may_right grammar a b) ks ss h e) r

pub go_past : {a b : Form} {t : Tree} {ss rest : List Sign} (ks : List ℕ) → held ss ks ≡ false → among ks 0 ≡ false →
    starts grammar a (look ss) ≡ among ks (look ss) → blank grammar a (look ss) ≡ false → Ends grammar b ss (Done t rest) →
    Ends grammar (a or b) ss (Done (Right t) rest)
go_past {a = a} {b = b} {ss = ss} ks h z s n r = right_read (skip a b (look ss) (s ∙ held_none ks ss z h) n) r

pub stop_left : {a b : Form} {ss : List Sign} {e : ReadError} (ks : List ℕ) → held ss ks ≡ true → every (may_left grammar a b) ks ≡ true →
    StopsAt a ss e → StopsAt (a or b) ss e
stop_left {a = a} {b = b} {ss = ss} ks h e s = stops_left (held_every (may_left grammar a b) ks ss h e) s

pub stop_right : {a b : Form} {ss : List Sign} {e : ReadError} (ks : List ℕ) → held ss ks ≡ true → every (may_right grammar a b) ks ≡ true →
    StopsAt b ss e → StopsAt (a or b) ss e
stop_right {a = a} {b = b} {ss = ss} ks h e s = stops_right (held_every (may_right grammar a b) ks ss h e) s

pub stop_past : {a b : Form} {ss : List Sign} {e : ReadError} (ks : List ℕ) → held ss ks ≡ false → among ks 0 ≡ false →
    starts grammar a (look ss) ≡ among ks (look ss) → blank grammar a (look ss) ≡ false → StopsAt b ss e → StopsAt (a or b) ss e
stop_past {a = a} {b = b} {ss = ss} ks h z s n r = stops_right (skip a b (look ss) (s ∙ held_none ks ss z h) n) r

-- a word that isn't in hand is passed over
pub past_word : (ks : List ℕ) (x b : Form) (ss : List Sign) → among ks 0 ≡ false → held ss ks ≡ false →
    may_right grammar (Word ks then x) b (look ss) ≡ true
past_word ks x b ss z h = skip (Word ks then x) b (look ss) (ap (λ v. v || false) (held_none ks ss z h)) refl
