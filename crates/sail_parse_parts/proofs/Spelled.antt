-- The name that a token spells.
use Rattle.sail_syntax.specs.declared.name.Name.{Name}
use Rattle.sail_grammar.specs.Symbol.{Sign}

abbrev pub spelled : Sign → Name
spelled s = record { place = s.place; text = s.text }
