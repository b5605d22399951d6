-- How far a front reaches.
use Rattle.std.specs.Prelude.{◌≡◌, ℕ, ◌<◌, ◌≤◌, List, length, take, nat_eq, true, codes}
use Rattle.std.specs.List.{starts_with}
use Rattle.sail_lex.specs.declared.front.Front.{Front}
use Rattle.sail_lex.specs.declared.front.Front.TheVariants.{Skip, Comment, Token, Refused}
use Rattle.sail_lex.specs.Valued.{IsValued}

-- it is some bytes of the text, of a token with a value within the limits; a fault is at one of them,
-- and a comment begins with its opening
abbrev pub Reaches : Front → List ℕ → Type 0
Reaches (Skip n) text = (0 < n) × (n ≤ length text)
Reaches Comment text = starts_with nat_eq text (codes "/*") ≡ true
Reaches (Token kind n) text = (0 < n) × (n ≤ length text) × IsValued kind (take n text)
Reaches (Refused fault n) text = n < length text
