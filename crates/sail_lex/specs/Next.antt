-- What comes next in a source.
use Rattle.std.specs.Prelude.{◌≡◌, ℕ, ◌+◌, ◌<◌, ◌≤◌, List, length, take, drop}
use Rattle.sail_lex.specs.declared.front.Front.TheVariants as Front
use Rattle.sail_lex.specs.declared.lexer.Next.{Next}
use Rattle.sail_lex.specs.declared.lexer.Next.TheVariants.{Skip, Token}
use Rattle.sail_lex.specs.Front.{front}
use Rattle.sail_lex.specs.Tokens.{Skips, most_tokens}
use Rattle.sail_lex.specs.Valued.{IsValued}

-- it comes from a byte of the source on, where so many tokens have come, and reaches no farther than the source
abbrev pub IsNext : List ℕ → ℕ → ℕ → Next → Type 0
IsNext source at count (Skip n) = Skips (drop at source) n × (0 < n) × (at + n ≤ length source)
IsNext source at count (Token kind n) =
    (front (drop at source) ≡ Front.Token kind n) × (count < most_tokens) × (0 < n) × (at + n ≤ length source) × IsValued kind (take n (drop at source))
