-- No row begins with itself: each has a rank, and the rows that may come first in it have lower ones.
use Rattle.std.proofs.Common.{◌≡◌, ℕ, Bool, true, not, ◌&&◌, ◌||◌, ltb, refl}
use Rattle.sail_grammar.specs.declared.mode.Mode.TheVariants.{Full, Limited}
use Rattle.sail_grammar.specs.RowName.{RowName}
use Rattle.sail_grammar.specs.RowName.{Definitions, Definition, OrderDefinition, TypeDefinition, EnumDefinition}
use Rattle.sail_grammar.specs.RowName.{EnumMembers, EnumBars, StructDefinition, UnionDefinition, UnionClause}
use Rattle.sail_grammar.specs.RowName.{UnionWhole, ValDefinition, FunctionDefinition, MeasureDefinition}
use Rattle.sail_grammar.specs.RowName.{MappingDefinition, MappingClauseDefinition, MappingWhole, LetDefinition}
use Rattle.sail_grammar.specs.RowName.{RegisterDefinition, OverloadDefinition, ScatteredDefinition, EndDefinition}
use Rattle.sail_grammar.specs.RowName.{Names, NamesTail, NamesMore, Members, MembersTail, MembersMore, Member}
use Rattle.sail_grammar.specs.RowName.{Parameters, ParametersTail, Parameter, KindMark, Quantifier}
use Rattle.sail_grammar.specs.RowName.{QuantifiedVariables, QuantifiedVariable, MappingClauses, MappingClausesTail}
use Rattle.sail_grammar.specs.RowName.{MappingClausesMore, MappingClause, MappingSide, Typ, TypeAnd, TypeComparison}
use Rattle.sail_grammar.specs.RowName.{TypeSet, NumbersTail, NumbersMore, TypeSum, TypeSumMore, TypeProduct}
use Rattle.sail_grammar.specs.RowName.{TypeProductMore, TypeAtom, TypeNamed, TypePower, TypeNegation, TypeNot}
use Rattle.sail_grammar.specs.RowName.{TypeGroup, TypeExists, TypeVariables, Types, TypesTail, Pattern, PatternAs}
use Rattle.sail_grammar.specs.RowName.{PatternConcat, PatternAppends, PatternTyped, PatternBase, PatternWildcard}
use Rattle.sail_grammar.specs.RowName.{PatternNegative, PatternNamed, PatternGroup, PatternVector, PatternList}
use Rattle.sail_grammar.specs.RowName.{Patterns, PatternsTail, Exp, LetIn, VarIn, ExpInner, If, Match, Control, Try}
use Rattle.sail_grammar.specs.RowName.{Foreach, While, Repeat, Leave, LoopMeasure, Assignment, Cases, CasesTail}
use Rattle.sail_grammar.specs.RowName.{CasesMore, Case, Infix, InfixAnd, InfixComparison, InfixAppend, InfixSum}
use Rattle.sail_grammar.specs.RowName.{InfixSumMore, InfixProduct, InfixProductMore, InfixPower, Unary, Negation}
use Rattle.sail_grammar.specs.RowName.{Power, Postfix, Suffixes, Suffix, Index, Atom, NamedExp, Arguments, PrefixCall}
use Rattle.sail_grammar.specs.RowName.{GroupExp, VectorExp, Update, ListExp, StructExp, TypeQuestion, Assertion, Exps}
use Rattle.sail_grammar.specs.RowName.{ExpsTail, Block, BlockBody, BlockMore, Statements, StatementsMore, Statement}
use Rattle.sail_grammar.specs.RowName.{LetStatement, VarStatement, FieldValues, FieldValuesTail, FieldValuesMore}
use Rattle.sail_grammar.specs.RowName.{FieldValue}
use Rattle.sail_grammar.specs.Form.{Form, Word, Empty, ◌or◌, ◌then◌, Guard, Row, Forbid, Bar, Hold}
use Rattle.sail_grammar.specs.Test.{empties}
use Rattle.sail_grammar.specs.Table.{rule}
use Rattle.sail_grammar.specs.Sets.{grammar}

abbrev pub rank : RowName → ℕ
rank Definitions = 2
rank Definition = 1
rank Members = 1
rank MembersMore = 1
rank QuantifiedVariables = 1
rank MappingClauses = 7
rank MappingClausesMore = 7
rank MappingClause = 6
rank MappingSide = 5
rank (Typ m) = 6
rank (TypeAnd m) = 5
rank (TypeComparison m) = 4
rank TypeSum = 3
rank TypeProduct = 2
rank TypeAtom = 1
rank Types = 7
rank (Pattern m) = 4
rank (PatternConcat m) = 3
rank (PatternTyped m) = 2
rank (PatternBase m) = 1
rank (Patterns m) = 5
rank (Exp m) = 13
rank (ExpInner m) = 12
rank (Control m) = 1
rank (Assignment m) = 11
rank (CasesMore m) = 6
rank (Case m) = 5
rank (Infix m) = 10
rank (InfixAnd m) = 9
rank (InfixComparison m) = 8
rank (InfixAppend m) = 7
rank (InfixSum m) = 6
rank (InfixProduct m) = 5
rank (InfixPower m) = 4
rank (Unary m) = 3
rank (Postfix m) = 2
rank (Suffixes m) = 2
rank (Suffix m) = 1
rank (Atom m) = 1
rank (Arguments m) = 15
rank (Exps m) = 14
rank BlockBody = 14
rank Statements = 14
rank (Statement m) = 13
rank (FieldValues m) = 1
rank (FieldValuesMore m) = 1
rank n = 0

-- the rows that may come first in the form have lower ranks than this
abbrev pub leads : ℕ → Form → Bool
leads r (Word ks) = true
leads r (Empty ks) = true
leads r (a or b) = leads r a && leads r b
leads r (a then b) = leads r a && (not (empties grammar a) || leads r b)
leads r (Guard a test ks) = leads r a
leads r (Row n) = ltb (rank n) r
leads r (Forbid ks) = true
leads r (Bar a test ks) = leads r a
leads r (Hold a) = leads r a

pub ranks_lower : (n : RowName) → leads (rank n) (rule n) ≡ true
ranks_lower Definitions = refl
ranks_lower Definition = refl
ranks_lower OrderDefinition = refl
ranks_lower TypeDefinition = refl
ranks_lower EnumDefinition = refl
ranks_lower EnumMembers = refl
ranks_lower EnumBars = refl
ranks_lower StructDefinition = refl
ranks_lower UnionDefinition = refl
ranks_lower UnionClause = refl
ranks_lower UnionWhole = refl
ranks_lower ValDefinition = refl
ranks_lower FunctionDefinition = refl
ranks_lower MeasureDefinition = refl
ranks_lower MappingDefinition = refl
ranks_lower MappingClauseDefinition = refl
ranks_lower MappingWhole = refl
ranks_lower LetDefinition = refl
ranks_lower RegisterDefinition = refl
ranks_lower OverloadDefinition = refl
ranks_lower ScatteredDefinition = refl
ranks_lower EndDefinition = refl
ranks_lower Names = refl
ranks_lower NamesTail = refl
ranks_lower NamesMore = refl
ranks_lower Members = refl
ranks_lower MembersTail = refl
ranks_lower MembersMore = refl
ranks_lower Member = refl
ranks_lower Parameters = refl
ranks_lower ParametersTail = refl
ranks_lower Parameter = refl
ranks_lower KindMark = refl
ranks_lower Quantifier = refl
ranks_lower QuantifiedVariables = refl
ranks_lower QuantifiedVariable = refl
ranks_lower MappingClauses = refl
ranks_lower MappingClausesTail = refl
ranks_lower MappingClausesMore = refl
ranks_lower MappingClause = refl
ranks_lower MappingSide = refl
ranks_lower (Typ Full) = refl
ranks_lower (Typ Limited) = refl
ranks_lower (TypeAnd Full) = refl
ranks_lower (TypeAnd Limited) = refl
ranks_lower (TypeComparison Full) = refl
ranks_lower (TypeComparison Limited) = refl
ranks_lower (TypeSet Full) = refl
ranks_lower (TypeSet Limited) = refl
ranks_lower NumbersTail = refl
ranks_lower NumbersMore = refl
ranks_lower TypeSum = refl
ranks_lower TypeSumMore = refl
ranks_lower TypeProduct = refl
ranks_lower TypeProductMore = refl
ranks_lower TypeAtom = refl
ranks_lower TypeNamed = refl
ranks_lower TypePower = refl
ranks_lower TypeNegation = refl
ranks_lower TypeNot = refl
ranks_lower TypeGroup = refl
ranks_lower TypeExists = refl
ranks_lower TypeVariables = refl
ranks_lower Types = refl
ranks_lower TypesTail = refl
ranks_lower (Pattern m) = refl
ranks_lower (PatternAs Full) = refl
ranks_lower (PatternAs Limited) = refl
ranks_lower (PatternConcat m) = refl
ranks_lower (PatternAppends m) = refl
ranks_lower (PatternTyped m) = refl
ranks_lower (PatternBase m) = refl
ranks_lower (PatternWildcard Full) = refl
ranks_lower (PatternWildcard Limited) = refl
ranks_lower PatternNegative = refl
ranks_lower (PatternNamed m) = refl
ranks_lower (PatternGroup m) = refl
ranks_lower (PatternVector m) = refl
ranks_lower (PatternList m) = refl
ranks_lower (Patterns m) = refl
ranks_lower (PatternsTail m) = refl
ranks_lower (Exp m) = refl
ranks_lower (LetIn m) = refl
ranks_lower (VarIn m) = refl
ranks_lower (ExpInner m) = refl
ranks_lower (If m) = refl
ranks_lower (Match m) = refl
ranks_lower (Control Full) = refl
ranks_lower (Control Limited) = refl
ranks_lower Try = refl
ranks_lower Foreach = refl
ranks_lower While = refl
ranks_lower Repeat = refl
ranks_lower Leave = refl
ranks_lower LoopMeasure = refl
ranks_lower (Assignment Full) = refl
ranks_lower (Assignment Limited) = refl
ranks_lower (Cases m) = refl
ranks_lower (CasesTail m) = refl
ranks_lower (CasesMore m) = refl
ranks_lower (Case m) = refl
ranks_lower (Infix m) = refl
ranks_lower (InfixAnd m) = refl
ranks_lower (InfixComparison m) = refl
ranks_lower (InfixAppend m) = refl
ranks_lower (InfixSum m) = refl
ranks_lower (InfixSumMore m) = refl
ranks_lower (InfixProduct m) = refl
ranks_lower (InfixProductMore m) = refl
ranks_lower (InfixPower m) = refl
ranks_lower (Unary m) = refl
ranks_lower (Negation m) = refl
ranks_lower (Power m) = refl
ranks_lower (Postfix m) = refl
ranks_lower (Suffixes m) = refl
ranks_lower (Suffix m) = refl
ranks_lower (Index m) = refl
ranks_lower (Atom m) = refl
ranks_lower (NamedExp m) = refl
ranks_lower (Arguments m) = refl
ranks_lower (PrefixCall m) = refl
ranks_lower (GroupExp m) = refl
ranks_lower (VectorExp m) = refl
ranks_lower (Update m) = refl
ranks_lower (ListExp m) = refl
ranks_lower (StructExp m) = refl
ranks_lower TypeQuestion = refl
ranks_lower (Assertion Full) = refl
ranks_lower (Assertion Limited) = refl
ranks_lower (Exps m) = refl
ranks_lower (ExpsTail m) = refl
ranks_lower (Block Full) = refl
ranks_lower (Block Limited) = refl
ranks_lower BlockBody = refl
ranks_lower BlockMore = refl
ranks_lower Statements = refl
ranks_lower StatementsMore = refl
ranks_lower (Statement m) = refl
ranks_lower (LetStatement m) = refl
ranks_lower (VarStatement m) = refl
ranks_lower (FieldValues m) = refl
ranks_lower (FieldValuesTail m) = refl
ranks_lower (FieldValuesMore m) = refl
ranks_lower (FieldValue m) = refl
