-- The keywords and the symbols of the language, each with its kind.
use Rattle.std.specs.Prelude.{ℕ, List, [], ◌∷◌, codes}
use Rattle.sail_lex.specs.declared.kind.TokenKind.{TokenKind}
use Rattle.sail_lex.specs.declared.kind.TokenKind.TheVariants.{As, Assert, Bitone, Bitzero, By, Catch, Clause, Constraint, Dec, Default, Do, Else}
use Rattle.sail_lex.specs.declared.kind.TokenKind.TheVariants.{End, Enum, Exit, False, Forall, Foreach, From, Function, If, In, Inc, Let, Mapping}
use Rattle.sail_lex.specs.declared.kind.TokenKind.TheVariants.{Match, Not, Operator, Overload, Register, Repeat, Return, Scattered, Sizeof, Struct}
use Rattle.sail_lex.specs.declared.kind.TokenKind.TheVariants.{TerminationMeasure, Then, Throw, To, True, Try, TypeWord, Union, Until, Val, Var}
use Rattle.sail_lex.specs.declared.kind.TokenKind.TheVariants.{While, With, LeftOut, Order, OpenParenthesis, CloseParenthesis, OpenBracket}
use Rattle.sail_lex.specs.declared.kind.TokenKind.TheVariants.{CloseBracket, OpenBrace, CloseBrace, OpenVector, CloseVector, Comma, Semicolon, Colon}
use Rattle.sail_lex.specs.declared.kind.TokenKind.TheVariants.{DoubleColon, Dot, DoubleDot, Equal, DoubleEqual, NotEqual, Less, LessEqual, Greater}
use Rattle.sail_lex.specs.declared.kind.TokenKind.TheVariants.{GreaterEqual, LessUnsigned, LessEqualUnsigned, GreaterUnsigned, GreaterEqualUnsigned}
use Rattle.sail_lex.specs.declared.kind.TokenKind.TheVariants.{LessSigned, LessEqualSigned, GreaterSigned, GreaterEqualSigned, Plus, Minus, Star}
use Rattle.sail_lex.specs.declared.kind.TokenKind.TheVariants.{Caret, At, Ampersand, Bar, Tilde, ShiftLeft, ShiftRight, Arrow, DoubleArrow, FatArrow}

-- the keywords; those of Sail that models may not use are left out
unfoldable pub keywords : List (List ℕ × TokenKind)
keywords =
    (codes "as", As) ∷
    (codes "assert", Assert) ∷
    (codes "bitone", Bitone) ∷
    (codes "bitzero", Bitzero) ∷
    (codes "by", By) ∷
    (codes "catch", Catch) ∷
    (codes "clause", Clause) ∷
    (codes "constraint", Constraint) ∷
    (codes "dec", Dec) ∷
    (codes "default", Default) ∷
    (codes "do", Do) ∷
    (codes "else", Else) ∷
    (codes "end", End) ∷
    (codes "enum", Enum) ∷
    (codes "exit", Exit) ∷
    (codes "false", False) ∷
    (codes "forall", Forall) ∷
    (codes "foreach", Foreach) ∷
    (codes "from", From) ∷
    (codes "function", Function) ∷
    (codes "if", If) ∷
    (codes "in", In) ∷
    (codes "inc", Inc) ∷
    (codes "let", Let) ∷
    (codes "mapping", Mapping) ∷
    (codes "match", Match) ∷
    (codes "not", Not) ∷
    (codes "operator", Operator) ∷
    (codes "overload", Overload) ∷
    (codes "register", Register) ∷
    (codes "repeat", Repeat) ∷
    (codes "return", Return) ∷
    (codes "scattered", Scattered) ∷
    (codes "sizeof", Sizeof) ∷
    (codes "struct", Struct) ∷
    (codes "termination_measure", TerminationMeasure) ∷
    (codes "then", Then) ∷
    (codes "throw", Throw) ∷
    (codes "to", To) ∷
    (codes "true", True) ∷
    (codes "try", Try) ∷
    (codes "type", TypeWord) ∷
    (codes "union", Union) ∷
    (codes "until", Until) ∷
    (codes "val", Val) ∷
    (codes "var", Var) ∷
    (codes "while", While) ∷
    (codes "with", With) ∷
    (codes "undefined", LeftOut) ∷
    (codes "ref", LeftOut) ∷
    (codes "real", LeftOut) ∷
    (codes "effect", LeftOut) ∷
    (codes "outcome", LeftOut) ∷
    (codes "instantiation", LeftOut) ∷
    (codes "newtype", LeftOut) ∷
    (codes "private", LeftOut) ∷
    (codes "mutual", LeftOut) ∷
    (codes "infix", LeftOut) ∷
    (codes "infixl", LeftOut) ∷
    (codes "infixr", LeftOut) ∷
    (codes "cast", LeftOut) ∷
    (codes "forwards", LeftOut) ∷
    (codes "backwards", LeftOut) ∷
    (codes "config", LeftOut) ∷
    (codes "bitfield", LeftOut) ∷
    (codes "implicit", LeftOut) ∷
    (codes "Order", Order) ∷
    []

-- the symbols
unfoldable pub symbols : List (List ℕ × TokenKind)
symbols =
    (codes "(", OpenParenthesis) ∷
    (codes ")", CloseParenthesis) ∷
    (codes "[", OpenBracket) ∷
    (codes "]", CloseBracket) ∷
    (codes "{", OpenBrace) ∷
    (codes "}", CloseBrace) ∷
    (codes "[|", OpenVector) ∷
    (codes "|]", CloseVector) ∷
    (codes ",", Comma) ∷
    (codes ";", Semicolon) ∷
    (codes ":", Colon) ∷
    (codes "::", DoubleColon) ∷
    (codes ".", Dot) ∷
    (codes "..", DoubleDot) ∷
    (codes "=", Equal) ∷
    (codes "==", DoubleEqual) ∷
    (codes "!=", NotEqual) ∷
    (codes "<", Less) ∷
    (codes "<=", LessEqual) ∷
    (codes ">", Greater) ∷
    (codes ">=", GreaterEqual) ∷
    (codes "<_u", LessUnsigned) ∷
    (codes "<=_u", LessEqualUnsigned) ∷
    (codes ">_u", GreaterUnsigned) ∷
    (codes ">=_u", GreaterEqualUnsigned) ∷
    (codes "<_s", LessSigned) ∷
    (codes "<=_s", LessEqualSigned) ∷
    (codes ">_s", GreaterSigned) ∷
    (codes ">=_s", GreaterEqualSigned) ∷
    (codes "+", Plus) ∷
    (codes "-", Minus) ∷
    (codes "*", Star) ∷
    (codes "^", Caret) ∷
    (codes "@", At) ∷
    (codes "&", Ampersand) ∷
    (codes "|", Bar) ∷
    (codes "~", Tilde) ∷
    (codes "<<", ShiftLeft) ∷
    (codes ">>", ShiftRight) ∷
    (codes "->", Arrow) ∷
    (codes "<->", DoubleArrow) ∷
    (codes "=>", FatArrow) ∷
    []
