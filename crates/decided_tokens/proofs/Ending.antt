-- Each reading ends, whatever the tokens: a row comes to rows of lower ranks before it takes a token.
use Rattle.std.proofs.Common.{◌≡◌, ℕ, zero, suc, ◌<◌, ◌≤◌, ◌+◌, Bool, true, false, not, ◌&&◌, ◌||◌, ◌⊎◌, inl, inr, List, [], ◌∷◌, ◌++◌, length}
use Rattle.std.proofs.Common.{refl, sym, ap, ◌∙◌, subst, arith, length-append}
use Rattle.std.specs.Prelude.{Some, None}
use Rattle.std.proofs.lemmas.Bool.{true≢false, cases_Bool, cases_lt, and_parts, and_from, or_cases, or_left, or_right, not-true, ltb-true}
use Rattle.sail_grammar.specs.Symbol.{Sign, symbol}
use Rattle.sail_grammar.specs.RowName.{RowName}
use Rattle.sail_grammar.specs.Form.{Form, Word, Empty, ◌or◌, ◌then◌, Guard, Row, Forbid, Bar, Hold, Tree, Nothing}
use Rattle.sail_grammar.specs.Form.{Leaf, Pair, Left, Right, among, look, held, passes}
use Rattle.sail_grammar.specs.Reads.{Reads, word, empty, left, right, both, guard, bar, hold, row}
use Rattle.sail_grammar.specs.Test.{every, starts, blank, empties, firsts, clear, may_left, may_right}
use Rattle.sail_grammar.specs.Table.{rule}
use Rattle.sail_grammar.specs.Sets.{grammar}
use Rattle.sail_grammar.specs.Ends.{Outcome, Ends, Done, Stop, word_read, word_stop, empty_read, empty_stop}
use Rattle.sail_grammar.specs.Ends.{left_read, left_stop, right_read, right_stop, first_stop, next_stop, both_read}
use Rattle.sail_grammar.specs.Ends.{guard_read, guard_shut, guard_stop, row_ends, forbid_stop, forbid_bar, bar_read}
use Rattle.sail_grammar.specs.Ends.{bar_bar, bar_stop, hold_read, hold_stop, hold_bar}
use Rattle.sail_grammar.proofs.Clear.{grammar_clear}
use Rattle.sail_grammar.proofs.Frame.{frame}
use Rattle.sail_grammar.proofs.Meets.{meets_done}
use Rattle.decided_tokens.proofs.Ranks.{rank, leads, ranks_lower}

-- how the reading of a form ends at a list
pub record Ended (a : Form) (ss : List Sign) : Type 0 where
  pub how : Outcome
  pub ends : Ends grammar a ss how

-- ---- by forms

word_ended : (ks : List ℕ) (ss : List Sign) → Ended (Word ks) ss
word_ended ks [] = record { how = Stop [] None; ends = word_stop refl }
word_ended ks (s ∷ ss) =
    elim (cases_Bool (among ks (symbol s))) [
      | inl h ↦ record { how = Done (Leaf s) ss; ends = word_read h }
      | inr h ↦ record { how = Stop (s ∷ ss) None; ends = word_stop h }
    ]

empty_ended : (ks : List ℕ) (ss : List Sign) → Ended (Empty ks) ss
empty_ended ks ss =
    elim (cases_Bool (held ss ks)) [
      | inl h ↦ record { how = Stop ss None; ends = empty_stop h }
      | inr h ↦ record { how = Done Nothing ss; ends = empty_read h }
    ]

forbid_ended : (ks : List ℕ) (ss : List Sign) → Ended (Forbid ks) ss
forbid_ended ks [] = record { how = Stop [] None; ends = forbid_stop refl }
forbid_ended ks (s ∷ ss) =
    elim (cases_Bool (among ks (symbol s))) [
      | inl h ↦ record { how = Stop (s ∷ ss) (Some (s ∷ ss)); ends = forbid_bar h }
      | inr h ↦ record { how = Stop (s ∷ ss) None; ends = forbid_stop h }
    ]

-- one of two sides is taken
other_way : (sa sb ba bb : Bool) → (sa || (not sb && (ba || not bb))) ≡ false → (sb || (not sa && (bb || not ba))) ≡ true
other_way true sb ba bb h = absurd (true≢false h)
other_way false true ba bb h = refl
other_way false false true bb h = absurd (true≢false h)
other_way false false false true h = refl
other_way false false false false h = refl

or_ended : (a b : Form) (ss : List Sign) → Ended a ss → Ended b ss → Ended (a or b) ss
or_ended a b ss x y =
    elim (cases_Bool (may_left grammar a b (look ss))) [
      | inl h ↦ by_left h x.how x.ends
      | inr h ↦
          by_right (other_way (starts grammar a (look ss)) (starts grammar b (look ss)) (blank grammar a (look ss)) (blank grammar b (look ss)) h) y.how
          y.ends
    ] where
      by_left : may_left grammar a b (look ss) ≡ true → (how : Outcome) → Ends grammar a ss how → Ended (a or b) ss
      by_left h (Done t rest) e = record { how = Done (Left t) rest; ends = left_read h e }
      by_left h (Stop rest from) e = record { how = Stop rest from; ends = left_stop h e }

      by_right : may_right grammar a b (look ss) ≡ true → (how : Outcome) → Ends grammar b ss how → Ended (a or b) ss
      by_right h (Done t rest) e = record { how = Done (Right t) rest; ends = right_read h e }
      by_right h (Stop rest from) e = record { how = Stop rest from; ends = right_stop h e }

then_ended : (a b : Form) (ss : List Sign) → Ended a ss → ((t : Tree) (mid : List Sign) → Ends grammar a ss (Done t mid) → Ended b mid) →
    Ended (a then b) ss
then_ended a b ss x k = by_first x.how x.ends where
  by_second : (t : Tree) (mid : List Sign) → Ends grammar a ss (Done t mid) → (how : Outcome) → Ends grammar b mid how → Ended (a then b) ss
  by_second t mid e (Done u rest) d = record { how = Done (Pair t u) rest; ends = both_read e d }
  by_second t mid e (Stop rest from) d = record { how = Stop rest from; ends = next_stop e d }

  by_first : (how : Outcome) → Ends grammar a ss how → Ended (a then b) ss
  by_first (Done t mid) e = by_second t mid e (k t mid e).how (k t mid e).ends
  by_first (Stop rest from) e = record { how = Stop rest from; ends = first_stop e }

guard_ended : (a : Form) (test : Tree → Bool) (ks : List ℕ) (ss : List Sign) → Ended a ss → Ended (Guard a test ks) ss
guard_ended a test ks ss x = by_end x.how x.ends where
  by_end : (how : Outcome) → Ends grammar a ss how → Ended (Guard a test ks) ss
  by_end (Done t rest) e =
      elim (cases_Bool (passes test ks t rest)) [
        | inl h ↦ record { how = Done t rest; ends = guard_read h e }
        | inr h ↦ record { how = Stop rest None; ends = guard_shut h e }
      ]
  by_end (Stop rest from) e = record { how = Stop rest from; ends = guard_stop e }

bar_ended : (a : Form) (test : Tree → Bool) (ks : List ℕ) (ss : List Sign) → Ended a ss → Ended (Bar a test ks) ss
bar_ended a test ks ss x = by_end x.how x.ends where
  by_end : (how : Outcome) → Ends grammar a ss how → Ended (Bar a test ks) ss
  by_end (Done t rest) e =
      elim (cases_Bool (passes test ks t rest)) [
        | inl h ↦ record { how = Done t rest; ends = bar_read h e }
        | inr h ↦ record { how = Stop rest (Some ss); ends = bar_bar h e }
      ]
  by_end (Stop rest from) e = record { how = Stop rest from; ends = bar_stop e }

hold_ended : (a : Form) (ss : List Sign) → Ended a ss → Ended (Hold a) ss
hold_ended a ss x = by_end x.how x.ends where
  by_end : (how : Outcome) → Ends grammar a ss how → Ended (Hold a) ss
  by_end (Done t rest) e = record { how = Done t rest; ends = hold_read e }
  by_end (Stop rest None) e = record { how = Stop rest None; ends = hold_stop e }
  by_end (Stop rest (Some from)) e = record { how = Stop rest (Some ss); ends = hold_bar e }

-- ---- what reads no token may be empty

least : {a : Form} {t : Tree} {ss rest : List Sign} → Reads rule a t ss rest → length rest ≤ length ss
least {ss = ss} {rest = rest} r =
    let f = frame rule r in
    let size : length ss ≡ length f.read + length rest = ap length f.split ∙ length-append f.read rest in
    omega arith

front_none : (front ss rest : List Sign) → ss ≡ front ++ rest → length ss ≤ length rest → ss ≡ rest
front_none [] ss rest e le = e
front_none (s ∷ front) ss rest e le =
    let size : length ss ≡ length (s ∷ front) + length rest = ap length e ∙ length-append (s ∷ front) rest in
    let one : length (s ∷ front) ≡ suc (length front) = refl in
    absurd (omega (arith, size, one, le))

pub all_left : {a : Form} {t : Tree} {ss rest : List Sign} → Reads rule a t ss rest → length ss ≤ length rest → ss ≡ rest
all_left {ss = ss} {rest = rest} r le = let f = frame rule r in front_none f.read ss rest f.split le

row_null : (n : RowName) → empties grammar (rule n) ≡ true → empties grammar (Row n) ≡ true
row_null n e =
    let outer = and_parts (every (among (grammar.sets n).first) (firsts grammar (rule n)))
    (((grammar.sets n).nullable || not (empties grammar (rule n))) && clear grammar (rule n) (grammar.sets n).follow) (grammar_clear n) in
    let inner = and_parts ((grammar.sets n).nullable || not (empties grammar (rule n))) (clear grammar (rule n) (grammar.sets n).follow) outer.1 in
    elim (or_cases (grammar.sets n).nullable (not (empties grammar (rule n))) inner.0) [
      | inl h ↦ h
      | inr h ↦ absurd (true≢false (sym e ∙ not-true (empties grammar (rule n)) h))
    ]

abbrev Void : Form → List Sign → List Sign → Type 0
Void a ss rest = (length rest < length ss) ⊎ (empties grammar a ≡ true)

both_void : (a b : Form) (ss mid rest : List Sign) → Void a ss mid → Void b mid rest → length mid ≤ length ss → length rest ≤ length mid →
    Void (a then b) ss rest
both_void a b ss mid rest (inl lt) y le more = inl (omega (arith, lt, more))
both_void a b ss mid rest (inr e) (inl lt) le more = inl (omega (arith, lt, le))
both_void a b ss mid rest (inr e) (inr f) le more = inr (and_from (empties grammar a) (empties grammar b) e f)

void : {a : Form} {t : Tree} {ss rest : List Sign} → Reads rule a t ss rest → Void a ss rest
void (word h) = inl (omega arith)
void (empty h) = inr refl
void (left {a = a} {b = b} r) =
    elim (void r) [
      | inl lt ↦ inl lt
      | inr e ↦ inr (or_left (empties grammar a) (empties grammar b) e)
    ]
void (right {a = a} {b = b} r) =
    elim (void r) [
      | inl lt ↦ inl lt
      | inr e ↦ inr (or_right (empties grammar a) (empties grammar b) e)
    ]
void {ss = ss} {rest = rest} (both {a = a} {b = b} {mid = mid} r q) = both_void a b ss mid rest (void r) (void q) (least r) (least q)
void (guard h r) = void r
void (bar h r) = void r
void (hold r) = void r
void (row {n = n} r) =
    elim (void r) [
      | inl lt ↦ inl lt
      | inr e ↦ inr (row_null n e)
    ]

-- ---- any form where all rows end

any_ended : (bound : ℕ) → ((n : RowName) (us : List Sign) → length us ≤ bound → Ended (Row n) us) → (a : Form) (us : List Sign) → length us ≤ bound →
    Ended a us
any_ended bound each (Word ks) us le = word_ended ks us
any_ended bound each (Empty ks) us le = empty_ended ks us
any_ended bound each (a or b) us le = or_ended a b us (any_ended bound each a us le) (any_ended bound each b us le)
any_ended bound each (a then b) us le =
    then_ended a b us (any_ended bound each a us le)
    (λ t mid e. any_ended bound each b mid (let l = least (meets_done grammar e) in omega (arith, l, le)))
any_ended bound each (Guard a test ks) us le = guard_ended a test ks us (any_ended bound each a us le)
any_ended bound each (Row n) us le = each n us le
any_ended bound each (Forbid ks) us le = forbid_ended ks us
any_ended bound each (Bar a test ks) us le = bar_ended a test ks us (any_ended bound each a us le)
any_ended bound each (Hold a) us le = hold_ended a us (any_ended bound each a us le)

-- ---- a form at whose front rows of lower ranks end, and behind a token all

module _ (r : ℕ) (ss : List Sign) (here : (n : RowName) → rank n < r → Ended (Row n) ss) (later : (n : RowName) (us : List Sign) → length us < length ss →
    Ended (Row n) us) where
  behind : (a b : Form) → (not (empties grammar a) || leads r b) ≡ true → (leads r b ≡ true → Ended b ss) → (t : Tree) (mid : List Sign) →
      Ends grammar a ss (Done t mid) → Ended b mid
  behind a b h at_front t mid e =
      elim (cases_lt (length mid) (length ss)) [
        | inl lt ↦ any_ended (length mid) (λ n us le. later n us (omega (arith, lt, le))) b mid (omega arith)
        | inr le ↦ elim (void (meets_done grammar e)) [
          | inl lt ↦ absurd (omega (arith, lt, le))
          | inr none ↦ subst (Ended b) (all_left (meets_done grammar e) le) (at_front (elim (or_cases (not (empties grammar a)) (leads r b) h) [
            | inl some ↦ absurd (true≢false (sym none ∙ not-true (empties grammar a) some))
            | inr low ↦ low
          ]))
        ]
      ]

  front_ended : (a : Form) → leads r a ≡ true → Ended a ss
  front_ended (Word ks) h = word_ended ks ss
  front_ended (Empty ks) h = empty_ended ks ss
  front_ended (a or b) h =
      let two = and_parts (leads r a) (leads r b) h in or_ended a b ss (front_ended a two.0) (front_ended b two.1)
  front_ended (a then b) h =
      let two = and_parts (leads r a) (not (empties grammar a) || leads r b) h in
      then_ended a b ss (front_ended a two.0) (behind a b two.1 (λ low. front_ended b low))
  front_ended (Guard a test ks) h = guard_ended a test ks ss (front_ended a h)
  front_ended (Row n) h = here n (ltb-true (rank n) r h)
  front_ended (Forbid ks) h = forbid_ended ks ss
  front_ended (Bar a test ks) h = bar_ended a test ks ss (front_ended a h)
  front_ended (Hold a) h = hold_ended a ss (front_ended a h)

-- ---- rows

by_rule : (n : RowName) (ss : List Sign) → Ended (rule n) ss → Ended (Row n) ss
by_rule n ss x = record { how = x.how; ends = row_ends x.ends }

row_ended : (bound : ℕ) → ((n : RowName) (us : List Sign) → length us < bound → Ended (Row n) us) → (r : ℕ) (n : RowName) (ss : List Sign) →
    length ss ≤ bound → rank n < r → Ended (Row n) ss
row_ended bound each zero n ss le lt = absurd (omega (arith, lt))
row_ended bound each (suc r) n ss le lt =
    by_rule n ss
    (front_ended (rank n) ss (λ m below. row_ended bound each r m ss le (omega (arith, below, lt)))
    (λ m us shorter. each m us (omega (arith, shorter, le))) (rule n) (ranks_lower n))

rows_ended : (bound : ℕ) (n : RowName) (us : List Sign) → length us < bound → Ended (Row n) us
rows_ended zero n us lt = absurd (omega (arith, lt))
rows_ended (suc bound) n us lt = row_ended bound (rows_ended bound) (suc (rank n)) n us (omega (arith, lt)) (omega arith)

-- each row ends at each list
pub ended : (n : RowName) (ss : List Sign) → Ended (Row n) ss
ended n ss = rows_ended (suc (length ss)) n ss (omega arith)
