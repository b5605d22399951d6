-- The grammar of models, a rule for each row.
use Rattle.std.specs.Prelude.{ℕ, not, List, [], ◌∷◌, map}
use Rattle.sail_lex.specs.declared.kind.TokenKind.{TokenKind}
use Rattle.sail_lex.specs.declared.kind.TokenKind.TheVariants.{Identifier, TypeVariable, Wildcard, Decimal}
use Rattle.sail_lex.specs.declared.kind.TokenKind.TheVariants.{Hexadecimal, Binary, StringLiteral, LeftOut, Order, As}
use Rattle.sail_lex.specs.declared.kind.TokenKind.TheVariants.{Assert, Bitone, Bitzero, By, Catch, Clause, Constraint}
use Rattle.sail_lex.specs.declared.kind.TokenKind.TheVariants.{Dec, Default, Do, Else, End, Enum, Exit, False, Forall}
use Rattle.sail_lex.specs.declared.kind.TokenKind.TheVariants.{Foreach as ForeachWord, From, Function, If as IfWord}
use Rattle.sail_lex.specs.declared.kind.TokenKind.TheVariants.{In, Inc, Let, Mapping, Match as MatchWord, Not}
use Rattle.sail_lex.specs.declared.kind.TokenKind.TheVariants.{Operator, Overload, Register, Repeat as RepeatWord}
use Rattle.sail_lex.specs.declared.kind.TokenKind.TheVariants.{Return, Scattered, Sizeof, Struct, TerminationMeasure}
use Rattle.sail_lex.specs.declared.kind.TokenKind.TheVariants.{Then, Throw, To, True, Try as TryWord, TypeWord, Union}
use Rattle.sail_lex.specs.declared.kind.TokenKind.TheVariants.{Until, Val, Var, While as WhileWord, With}
use Rattle.sail_lex.specs.declared.kind.TokenKind.TheVariants.{OpenParenthesis, CloseParenthesis, OpenBracket}
use Rattle.sail_lex.specs.declared.kind.TokenKind.TheVariants.{CloseBracket, OpenBrace, CloseBrace, OpenVector}
use Rattle.sail_lex.specs.declared.kind.TokenKind.TheVariants.{CloseVector, Comma, Semicolon, Colon, DoubleColon, Dot}
use Rattle.sail_lex.specs.declared.kind.TokenKind.TheVariants.{DoubleDot, Equal, DoubleEqual, NotEqual, Less}
use Rattle.sail_lex.specs.declared.kind.TokenKind.TheVariants.{LessEqual, Greater, GreaterEqual, LessUnsigned}
use Rattle.sail_lex.specs.declared.kind.TokenKind.TheVariants.{LessEqualUnsigned, GreaterUnsigned}
use Rattle.sail_lex.specs.declared.kind.TokenKind.TheVariants.{GreaterEqualUnsigned, LessSigned, LessEqualSigned}
use Rattle.sail_lex.specs.declared.kind.TokenKind.TheVariants.{GreaterSigned, GreaterEqualSigned, Plus, Minus, Star}
use Rattle.sail_lex.specs.declared.kind.TokenKind.TheVariants.{Caret, At, Ampersand, Bar as Stroke, Tilde, ShiftLeft}
use Rattle.sail_lex.specs.declared.kind.TokenKind.TheVariants.{ShiftRight, Arrow, DoubleArrow, FatArrow}
use Rattle.sail_grammar.specs.declared.mode.Mode.TheVariants.{Full, Limited}
use Rattle.sail_grammar.specs.Symbol.{code, two, kind_name}
use Rattle.sail_grammar.specs.RowName.{RowName, Definitions, Definition, OrderDefinition, TypeDefinition}
use Rattle.sail_grammar.specs.RowName.{EnumDefinition, EnumMembers, EnumBars, StructDefinition, UnionDefinition}
use Rattle.sail_grammar.specs.RowName.{UnionClause, UnionWhole, ValDefinition, FunctionDefinition, MeasureDefinition}
use Rattle.sail_grammar.specs.RowName.{MappingDefinition, MappingClauseDefinition, MappingWhole, LetDefinition}
use Rattle.sail_grammar.specs.RowName.{RegisterDefinition, OverloadDefinition, ScatteredDefinition, EndDefinition}
use Rattle.sail_grammar.specs.RowName.{Names, NamesTail, NamesMore, Members, MembersTail, MembersMore, Member}
use Rattle.sail_grammar.specs.RowName.{Parameters, ParametersTail, Parameter, KindMark, Quantifier}
use Rattle.sail_grammar.specs.RowName.{QuantifiedVariables, QuantifiedVariable, MappingClauses, MappingClausesTail}
use Rattle.sail_grammar.specs.RowName.{MappingClausesMore, MappingClause, MappingSide, Typ, TypeAnd, TypeComparison}
use Rattle.sail_grammar.specs.RowName.{TypeSet, NumbersTail, NumbersMore, TypeSum, TypeSumMore, TypeProduct}
use Rattle.sail_grammar.specs.RowName.{TypeProductMore, TypeAtom, TypeNamed, TypePower, TypeNegation, TypeNot}
use Rattle.sail_grammar.specs.RowName.{TypeGroup, TypeExists, TypeVariables, Types, TypesTail, Pattern, PatternAs}
use Rattle.sail_grammar.specs.RowName.{PatternConcat, PatternAppends, PatternTyped, PatternBase, PatternWildcard}
use Rattle.sail_grammar.specs.RowName.{PatternNegative, PatternNamed, PatternGroup, PatternVector, PatternList}
use Rattle.sail_grammar.specs.RowName.{Patterns, PatternsTail, Exp, LetIn, VarIn, ExpInner, If, Match, Control, Try}
use Rattle.sail_grammar.specs.RowName.{Foreach, While, Repeat, Leave, LoopMeasure, Assignment, Cases, CasesTail}
use Rattle.sail_grammar.specs.RowName.{CasesMore, Case, Infix, InfixAnd, InfixComparison, InfixAppend, InfixSum}
use Rattle.sail_grammar.specs.RowName.{InfixSumMore, InfixProduct, InfixProductMore, InfixPower, Unary, Negation}
use Rattle.sail_grammar.specs.RowName.{Power, Postfix, Suffixes, Suffix, Index, Atom, NamedExp, Arguments, PrefixCall}
use Rattle.sail_grammar.specs.RowName.{GroupExp, VectorExp, Update, ListExp, StructExp, TypeQuestion, Assertion, Exps}
use Rattle.sail_grammar.specs.RowName.{ExpsTail, Block, BlockBody, BlockMore, Statements, StatementsMore, Statement}
use Rattle.sail_grammar.specs.RowName.{LetStatement, VarStatement, FieldValues, FieldValuesTail, FieldValuesMore}
use Rattle.sail_grammar.specs.RowName.{FieldValue}
use Rattle.sail_grammar.specs.Form.{Form, Word, Empty, ◌or◌, ◌then◌, Guard, Row, Forbid, Bar, Hold}
use Rattle.sail_grammar.specs.Shapes.{is_target, is_exp}

abbrev pub codes_of : List TokenKind → List ℕ
codes_of ks = map code ks

-- one token
abbrev pub word : TokenKind → Form
word k = Word (code k ∷ [])

-- one token of one of these kinds
abbrev pub words : List TokenKind → Form
words ks = Word (codes_of ks)

abbrev pub nothing : Form
nothing = Empty []

abbrev pub never : Form
never = Word []

-- an identifier, also one that is spelled as a kind
abbrev pub identifier : Form
identifier = Word (code Identifier ∷ kind_name ∷ [])

-- `Int`, `Bool` or `Type`
abbrev pub kind : Form
kind = Word (kind_name ∷ [])

-- a decimal, also `2`
abbrev pub number : Form
number = Word (code Decimal ∷ two ∷ [])

-- the literals but for `2`
abbrev pub literals : List TokenKind
literals = Decimal ∷ Hexadecimal ∷ Binary ∷ StringLiteral ∷ True ∷ False ∷ Bitone ∷ Bitzero ∷ []

abbrev pub type_comparisons : List TokenKind
type_comparisons = DoubleEqual ∷ NotEqual ∷ Less ∷ LessEqual ∷ Greater ∷ GreaterEqual ∷ []

abbrev pub comparisons : List TokenKind
comparisons = DoubleEqual ∷ NotEqual ∷ Less ∷ LessEqual ∷ Greater ∷ GreaterEqual ∷ LessUnsigned ∷ LessEqualUnsigned ∷ GreaterUnsigned ∷ GreaterEqualUnsigned ∷
    LessSigned ∷ LessEqualSigned ∷ GreaterSigned ∷ GreaterEqualSigned ∷ []

abbrev pub operators : List TokenKind
operators = Caret ∷ Star ∷ ShiftLeft ∷ ShiftRight ∷ Plus ∷ Minus ∷ At ∷ DoubleColon ∷ Ampersand ∷ Stroke ∷ comparisons

-- every kind of token
abbrev pub every_kind : List TokenKind
every_kind = Identifier ∷ TypeVariable ∷ Wildcard ∷ Decimal ∷ Hexadecimal ∷ Binary ∷ StringLiteral ∷ LeftOut ∷ Order ∷ As ∷ Assert ∷ Bitone ∷ Bitzero ∷ By ∷
    Catch ∷ Clause ∷ Constraint ∷ Dec ∷ Default ∷ Do ∷ Else ∷ End ∷ Enum ∷ Exit ∷ False ∷ Forall ∷ ForeachWord ∷ From ∷ Function ∷ IfWord ∷ In ∷ Inc ∷ Let ∷
    Mapping ∷ MatchWord ∷ Not ∷ Operator ∷ Overload ∷ Register ∷ RepeatWord ∷ Return ∷ Scattered ∷ Sizeof ∷ Struct ∷ TerminationMeasure ∷ Then ∷ Throw ∷ To ∷
    True ∷ TryWord ∷ TypeWord ∷ Union ∷ Until ∷ Val ∷ Var ∷ WhileWord ∷ With ∷ OpenParenthesis ∷ CloseParenthesis ∷ OpenBracket ∷ CloseBracket ∷ OpenBrace ∷
    CloseBrace ∷ OpenVector ∷ CloseVector ∷ Comma ∷ Semicolon ∷ Colon ∷ DoubleColon ∷ Dot ∷ DoubleDot ∷ Equal ∷ DoubleEqual ∷ NotEqual ∷ Less ∷ LessEqual ∷
    Greater ∷ GreaterEqual ∷ LessUnsigned ∷ LessEqualUnsigned ∷ GreaterUnsigned ∷ GreaterEqualUnsigned ∷ LessSigned ∷ LessEqualSigned ∷ GreaterSigned ∷
    GreaterEqualSigned ∷ Plus ∷ Minus ∷ Star ∷ Caret ∷ At ∷ Ampersand ∷ Stroke ∷ Tilde ∷ ShiftLeft ∷ ShiftRight ∷ Arrow ∷ DoubleArrow ∷ FatArrow ∷ []

-- the end of all tokens: none follows
abbrev pub ending : Form
ending = Empty (two ∷ kind_name ∷ codes_of every_kind)

abbrev pub rule : RowName → Form
rule Definitions = Row Definition then Row Definitions or ending
rule Definition =
    Row OrderDefinition or Row TypeDefinition or Row EnumDefinition or Row StructDefinition or Row UnionDefinition or Row ValDefinition
    or Row FunctionDefinition or Row MeasureDefinition or Row MappingDefinition or Row LetDefinition or Row RegisterDefinition
    or Row OverloadDefinition or Row ScatteredDefinition or Row EndDefinition
rule OrderDefinition = word Default then word Order then word Dec
rule TypeDefinition = word TypeWord then identifier then Row Parameters then Row KindMark then word Equal then Row (Typ Full)
rule EnumDefinition = word Enum then identifier then word Equal then (Row EnumMembers or identifier then Row EnumBars)
rule EnumMembers = word OpenBrace then Row Names then word CloseBrace
rule EnumBars = word Stroke then identifier then Row EnumBars or nothing
rule StructDefinition = word Struct then identifier then Row Parameters then word Equal then word OpenBrace then Row Members then word CloseBrace
rule UnionDefinition = word Union then (Row UnionClause or Row UnionWhole)
rule UnionClause = word Clause then identifier then word Equal then Row Member
rule UnionWhole = identifier then Row Parameters then word Equal then word OpenBrace then Row Members then word CloseBrace
rule ValDefinition = word Val then identifier then word Colon then (Row Quantifier or nothing) then Row (Typ Full) then words (Arrow ∷ DoubleArrow ∷ []) then
    Row (Typ Full)
rule FunctionDefinition =
    word Function then (word Clause or nothing) then identifier then Row (PatternGroup Full) then (word Arrow then Row (Typ Full) or nothing)
    then word Equal then Row (Exp Full)
rule MeasureDefinition = word TerminationMeasure then identifier then Row (PatternGroup Full) then word Equal then Row (Exp Limited)
rule MappingDefinition = word Mapping then (Row MappingClauseDefinition or Row MappingWhole)
rule MappingClauseDefinition = word Clause then identifier then word Equal then Row MappingClause
rule MappingWhole =
    identifier then (word Colon then Row (Typ Full) then word DoubleArrow then Row (Typ Full) or nothing)
    then word Equal then word OpenBrace then Row MappingClauses
rule LetDefinition = word Let then Row (Pattern Full) then word Equal then Row (Exp Limited)
rule RegisterDefinition = word Register then identifier then word Colon then Row (Typ Full) then (word Equal then Row (Exp Limited) or nothing)
rule OverloadDefinition =
    word Overload then (identifier or word Operator then words operators) then word Equal then word OpenBrace then Row Names then word CloseBrace
rule ScatteredDefinition =
    word Scattered then (word Union then identifier then Row Parameters or word Function then identifier or word Mapping then identifier)
rule EndDefinition = word End then identifier
rule Names = identifier then Row NamesTail
rule NamesTail = word Comma then Row NamesMore or nothing
rule NamesMore = identifier then Row NamesTail or nothing
rule Members = Row Member then Row MembersTail
rule MembersTail = word Comma then Row MembersMore or nothing
rule MembersMore = Row Member then Row MembersTail or nothing
rule Member = identifier then word Colon then Row (Typ Full)
rule Parameters = word OpenParenthesis then Row Parameter then Row ParametersTail then word CloseParenthesis or nothing
rule ParametersTail = word Comma then Row Parameter then Row ParametersTail or nothing
rule Parameter = word TypeVariable then Row KindMark
rule KindMark = word Colon then kind or nothing
rule Quantifier = word Forall then Row QuantifiedVariables then (word Comma then Row (Typ Full) or nothing) then word Dot
rule QuantifiedVariables = Row QuantifiedVariable then Row QuantifiedVariables or nothing
rule QuantifiedVariable = word TypeVariable or word OpenParenthesis then word TypeVariable then word Colon then kind then word CloseParenthesis
rule MappingClauses = Row MappingClause then Row MappingClausesTail
rule MappingClausesTail = word Comma then Row MappingClausesMore or word CloseBrace
rule MappingClausesMore = word CloseBrace or Row MappingClause then Row MappingClausesTail
rule MappingClause = Row MappingSide then word DoubleArrow then Row MappingSide
rule MappingSide = Row (Pattern Limited) then (word IfWord then Row (Exp Full) or nothing)
rule (Typ m) = Row (TypeAnd m) then (word Stroke then Row (Typ m) or nothing)
rule (TypeAnd m) = Row (TypeComparison m) then (word Ampersand then Row (TypeAnd m) or nothing)
rule (TypeComparison m) = Row TypeSum then (words type_comparisons then Row TypeSum or Row (TypeSet m) or nothing)
rule (TypeSet Full) = word In then word OpenBrace then number then Row NumbersTail then word CloseBrace
rule (TypeSet Limited) = never
rule NumbersTail = word Comma then Row NumbersMore or nothing
rule NumbersMore = number then Row NumbersTail or nothing
rule TypeSum = Row TypeProduct then Row TypeSumMore
rule TypeSumMore = words (Plus ∷ Minus ∷ []) then Row TypeProduct then Row TypeSumMore or nothing
rule TypeProduct = Row TypeAtom then Row TypeProductMore
rule TypeProductMore = word Star then Row TypeAtom then Row TypeProductMore or nothing
rule TypeAtom =
    Row TypeNamed or word TypeVariable or Row TypePower or word Decimal or Row TypeNegation or words (True ∷ False ∷ []) or Row TypeNot
    or Row TypeGroup or Row TypeExists
rule TypeNamed = identifier then (word OpenParenthesis then Row Types then word CloseParenthesis or nothing)
rule TypePower = Word (two ∷ []) then (word Caret then Row TypeAtom or nothing)
rule TypeNegation = word Minus then Row TypeAtom
rule TypeNot = word Not then word OpenParenthesis then Row (Typ Full) then word CloseParenthesis
rule TypeGroup = word OpenParenthesis then Row Types then word CloseParenthesis
rule TypeExists =
    word OpenBrace then word TypeVariable then Row TypeVariables then (word Comma then Row (Typ Full) or nothing) then word Dot then Row (Typ Full)
    then word CloseBrace
rule TypeVariables = word TypeVariable then Row TypeVariables or nothing
rule Types = Row (Typ Full) then Row TypesTail
rule TypesTail = word Comma then Row (Typ Full) then Row TypesTail or nothing
rule (Pattern m) = Row (PatternConcat m) then Row (PatternAs m)
rule (PatternAs Full) = word As then identifier or nothing
rule (PatternAs Limited) = never or nothing
rule (PatternConcat m) = Row (PatternTyped m) then (word DoubleColon then Row (PatternConcat m) or Row (PatternAppends m))
rule (PatternAppends m) = word At then Row (PatternTyped m) then Row (PatternAppends m) or nothing
rule (PatternTyped m) = Row (PatternBase m) then (word Colon then Row (Typ Full) or nothing)
rule (PatternBase m) =
    Row (PatternWildcard m) or Word (two ∷ codes_of literals) or Row PatternNegative or Row (PatternNamed m) or Row (PatternGroup m)
    or Row (PatternVector m) or Row (PatternList m)
rule (PatternWildcard Full) = word Wildcard
rule (PatternWildcard Limited) = never
rule PatternNegative = word Minus then number
rule (PatternNamed m) = identifier then (Row (PatternGroup m) or nothing)
rule (PatternGroup m) = word OpenParenthesis then (word CloseParenthesis or Row (Patterns m) then word CloseParenthesis)
rule (PatternVector m) = word OpenBracket then Row (Patterns m) then word CloseBracket
rule (PatternList m) = word OpenVector then (word CloseVector or Row (Patterns m) then word CloseVector)
rule (Patterns m) = Row (Pattern m) then Row (PatternsTail m)
rule (PatternsTail m) = word Comma then Row (Pattern m) then Row (PatternsTail m) or nothing
rule (Exp m) = Row (LetIn m) or Row (VarIn m) or Row (ExpInner m)
rule (LetIn m) = word Let then Row (Pattern Full) then word Equal then Row (Exp m) then word In then Row (Exp m)
rule (VarIn m) =
    word Var then identifier then (word Colon then Row (Typ Full) or nothing) then word Equal then Row (Exp m) then word In then Row (Exp m)
rule (ExpInner m) = Row (If m) or Row (Match m) or Row (Control m) or Row (Assignment m)
rule (If m) = word IfWord then Row (Exp m) then word Then then Row (Exp m) then (word Else then Row (Exp m) or Empty (code Else ∷ []))
rule (Match m) = word MatchWord then Row (Exp m) then Row (Cases m)
rule (Control Full) = Row Try or Row Foreach or Row While or Row Repeat or Row Leave
rule (Control Limited) = Forbid (codes_of (TryWord ∷ ForeachWord ∷ WhileWord ∷ RepeatWord ∷ Return ∷ Throw ∷ Exit ∷ []))
rule Try = word TryWord then Row (Exp Full) then word Catch then Row (Cases Full)
rule Foreach =
    word ForeachWord then word OpenParenthesis then identifier then word From then Row (Exp Full) then word To then Row (Exp Full)
    then (word By then Row (Exp Full) or nothing) then (word In then words (Inc ∷ Dec ∷ []) or nothing) then word CloseParenthesis then Row (Exp Full)
rule While = word WhileWord then Row LoopMeasure then Row (Exp Full) then word Do then Row (Exp Full)
rule Repeat = word RepeatWord then Row LoopMeasure then Row (Exp Full) then word Until then Row (Exp Full)
rule Leave = words (Return ∷ Throw ∷ Exit ∷ []) then Row (Exp Full)
rule LoopMeasure = word TerminationMeasure then word OpenBrace then Row (Exp Limited) then word CloseBrace or nothing
rule (Assignment Full) = Guard (Row (Infix Full)) is_target (code Equal ∷ []) then
    (word Equal then Row (Exp Full) or word Colon then Row (Typ Limited) or nothing)
rule (Assignment Limited) = Bar (Row (Infix Limited)) (λ t. not (is_target t)) (code Equal ∷ []) then (never or word Colon then Row (Typ Limited) or nothing)
rule (Cases m) = word OpenBrace then Row (Case m) then Row (CasesTail m)
rule (CasesTail m) = word Comma then Row (CasesMore m) or word CloseBrace
rule (CasesMore m) = word CloseBrace or Row (Case m) then Row (CasesTail m)
rule (Case m) = Row (Pattern Full) then (word IfWord then Row (Exp m) or nothing) then word FatArrow then Row (Exp m)
rule (Infix m) = Row (InfixAnd m) then (word Stroke then Row (Infix m) or nothing)
rule (InfixAnd m) = Row (InfixComparison m) then (word Ampersand then Row (InfixAnd m) or nothing)
rule (InfixComparison m) = Row (InfixAppend m) then (words comparisons then Row (InfixAppend m) or nothing)
rule (InfixAppend m) = Row (InfixSum m) then (words (At ∷ DoubleColon ∷ []) then Row (InfixAppend m) or nothing)
rule (InfixSum m) = Row (InfixProduct m) then Row (InfixSumMore m)
rule (InfixSumMore m) = words (Plus ∷ Minus ∷ []) then Row (InfixProduct m) then Row (InfixSumMore m) or nothing
rule (InfixProduct m) = Row (InfixPower m) then Row (InfixProductMore m)
rule (InfixProductMore m) = words (Star ∷ ShiftLeft ∷ ShiftRight ∷ []) then Row (InfixPower m) then Row (InfixProductMore m) or nothing
rule (InfixPower m) = Row (Unary m) then (word Caret then Row (InfixPower m) or nothing)
rule (Unary m) = Row (Negation m) or Row (Power m) or Row (Postfix m)
rule (Negation m) = word Minus then Row (Unary m)
rule (Power m) = Word (two ∷ []) then (word Caret then Row (Unary m) or Empty (code Caret ∷ []) then Row (Suffixes m))
rule (Postfix m) = Row (Atom m) then Row (Suffixes m)
rule (Suffixes m) = Row (Suffix m) then Row (Suffixes m) or nothing
rule (Suffix m) = Row (Index m) or word Dot then identifier
rule (Index m) = word OpenBracket then Row (Exp m) then (word DoubleDot then Row (Exp m) or nothing) then word CloseBracket
rule (Atom m) =
    words literals or Row (NamedExp m) or Row (PrefixCall m) or Row (GroupExp m) or Row (Block m) or Row (VectorExp m) or Row (ListExp m)
    or Row (StructExp m) or Row TypeQuestion or Row (Assertion m)
rule (NamedExp m) = identifier then (word OpenParenthesis then Row (Arguments m) or nothing)
rule (Arguments m) = word CloseParenthesis or Row (Exps m) then word CloseParenthesis
rule (PrefixCall m) = words (Tilde ∷ Not ∷ []) then word OpenParenthesis then Row (Exp m) then word CloseParenthesis
rule (GroupExp m) = word OpenParenthesis then Row (Arguments m)
rule (VectorExp m) = word OpenBracket then Row (Exp m) then (Row (Update m) or Row (ExpsTail m)) then word CloseBracket
rule (Update m) = word With then Row (Infix m) then (word DoubleDot then Row (Infix m) or nothing) then word Equal then Row (Exp m)
rule (ListExp m) = word OpenVector then (word CloseVector or Row (Exps m) then word CloseVector)
rule (StructExp m) = word Struct then (identifier or nothing) then word OpenBrace then Row (FieldValues m) then word CloseBrace
rule TypeQuestion = words (Sizeof ∷ Constraint ∷ []) then word OpenParenthesis then Row (Typ Full) then word CloseParenthesis
rule (Assertion Full) =
    word Assert then word OpenParenthesis then Row (Exp Full) then (word Comma then word StringLiteral or nothing) then word CloseParenthesis
rule (Assertion Limited) = Forbid (code Assert ∷ [])
rule (Exps m) = Row (Exp m) then Row (ExpsTail m)
rule (ExpsTail m) = word Comma then Row (Exp m) then Row (ExpsTail m) or nothing
rule (Block Full) = word OpenBrace then (word CloseBrace or Row BlockBody)
rule (Block Limited) =
    Hold (word OpenBrace
    then (Forbid (code CloseBrace ∷ [])
    or Guard (Row (Statement Limited)) is_exp (code With ∷ []) then (Forbid (codes_of (Semicolon ∷ CloseBrace ∷ [])) or nothing)))
    then word With then Row (FieldValues Limited) then word CloseBrace
rule BlockBody = Guard (Row (Statement Full)) is_exp (code With ∷ []) then Row BlockMore
rule BlockMore = word With then Row (FieldValues Full) then word CloseBrace or word Semicolon then Row Statements or word CloseBrace
rule Statements = word CloseBrace or Row (Statement Full) then Row StatementsMore
rule StatementsMore = word Semicolon then Row Statements or word CloseBrace
rule (Statement m) = Row (LetStatement m) or Row (VarStatement m) or Row (ExpInner m)
rule (LetStatement m) = word Let then Row (Pattern Full) then word Equal then Row (Exp m) then (word In then Row (Exp m) or nothing)
rule (VarStatement m) =
    word Var then identifier then (word Colon then Row (Typ Full) or nothing) then word Equal then Row (Exp m) then (word In then Row (Exp m) or nothing)
rule (FieldValues m) = Row (FieldValue m) then Row (FieldValuesTail m)
rule (FieldValuesTail m) = word Comma then Row (FieldValuesMore m) or nothing
rule (FieldValuesMore m) = Row (FieldValue m) then Row (FieldValuesTail m) or nothing
rule (FieldValue m) = identifier then word Equal then Row (Exp m)
