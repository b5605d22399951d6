-- Errors that want of memory may take the place of.
use Rattle.std.specs.Prelude.{◌≡◌, ℕ, if◌then◌else◌, ◌⊎◌, List, slice_get, Some}
use Rattle.sail_grammar.specs.Symbol.{Sign}
use Rattle.sail_grammar.specs.Model.{is_left_out, token_before}
use Rattle.sail_grammar.specs.declared.error.ParseError.{ParseError}
use Rattle.sail_grammar.specs.declared.error.ParseError.TheVariants as error

-- an error is this one, or memory is wanting
abbrev pub Says : ParseError → ParseError → Type 0
Says e r = (r ≡ e) ⊎ (r ≡ error.OutOfMemory)

-- what a token that doesn't fit is refused as
abbrev pub token_error : Sign → List Sign → ℕ → ParseError
token_error s ss k = if is_left_out s.kind (token_before ss k) then error.Outside s.place s.text else error.Syntax s.place (Some s.text)

-- an error is that of the token at this place, or memory is wanting
abbrev pub SaysToken : List Sign → ℕ → ParseError → Type 0
SaysToken ss k r = (s : Sign) × (slice_get ss k ≡ Some s) × Says (token_error s ss k) r
