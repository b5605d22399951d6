-- Lists of symbols that contain others, and what a loop has read.
use Rattle.std.proofs.Common.{◌≡◌, ℕ, Bool, true, false, List, [], ◌∷◌, refl, sym, ◌∙◌}
use Rattle.std.proofs.lemmas.Bool.{true≢false}
use Rattle.sail_grammar.specs.declared.error.ReadError.{ReadError}
use Rattle.sail_grammar.specs.Symbol.{Sign, symbol}
use Rattle.sail_grammar.specs.Form.{Form, Tree, among, held}
use Rattle.sail_grammar.specs.Test.{every}
use Rattle.sail_grammar.specs.Parsing.{Reading, StopsAt}
use Rattle.sail_grammar.proofs.Test.{every_at}

-- a token of a smaller list is one of a larger
pub held_in : (small big : List ℕ) (ss : List Sign) → every (among big) small ≡ true → held ss small ≡ true → held ss big ≡ true
held_in small big [] e h = h
held_in small big (s ∷ ss) e h = every_at (among big) small (symbol s) e h

-- and one that is in no larger list is in no smaller
pub held_out : (small big : List ℕ) (ss : List Sign) → every (among big) small ≡ true → held ss big ≡ false → held ss small ≡ false
held_out small big ss e h = by_side (held ss small) refl where
  by_side : (b : Bool) → held ss small ≡ b → b ≡ false
  by_side false k = refl
  by_side true k = absurd (true≢false (sym (held_in small big ss e k) ∙ h))

-- a loop with a result of any type: what is read from here on, behind the items so far, is read from the start on
pub record Ahead {A B : Type 0} (f : Form) (behind : List A → Tree → B) (start : List Sign) (first : List A) (now : List Sign) (items : List A) : Type 0
  where
    pub reads : (x : B) (rest : List Sign) → Reading f (behind items) now x rest → Reading f (behind first) start x rest
    pub stops : (e : ReadError) → StopsAt f now e → StopsAt f start e

pub ahead_start : {A B : Type 0} (f : Form) (behind : List A → Tree → B) (ss : List Sign) (items : List A) → Ahead f behind ss items ss items
ahead_start f behind ss items = record { reads = λ x rest r. r; stops = λ e s. s }

pub ahead_step : {A B : Type 0} {f : Form} {behind : List A → Tree → B} {start now next : List Sign} {first items more : List A} →
    Ahead f behind start first now items → ((x : B) (rest : List Sign) → Reading f (behind more) next x rest → Reading f (behind items) now x rest) →
    ((e : ReadError) → StopsAt f next e → StopsAt f now e) → Ahead f behind start first next more
ahead_step o k s = record { reads = λ x rest r. o.reads x rest (k x rest r); stops = λ e h. o.stops e (s e h) }
