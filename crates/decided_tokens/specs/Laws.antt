-- What tokens are.
use Rattle.std.specs.Prelude.{◌⊎◌, List}
use Rattle.sail_base.specs.declared.place.Place.{Place}
use Rattle.sail_grammar.specs.Model.{IsModel, IsRefused}
use Rattle.sail_grammar.specs.Symbol.{Sign}
use Rattle.sail_grammar.specs.declared.error.ParseError.{ParseError}
use Rattle.sail_syntax.specs.declared.definitions.Def.{Def}

-- tokens, wherever they end, are a model or are refused
abbrev pub TokensAreDecided : Type 0
TokensAreDecided = (signs : List Sign) (end : Place) → ((definitions : List Def) × IsModel signs definitions) ⊎ ((e : ParseError) × IsRefused signs end e)
