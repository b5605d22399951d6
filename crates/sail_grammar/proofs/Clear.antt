-- The grammar of models passes its test.
use Rattle.std.proofs.Common.{refl}
use Rattle.sail_grammar.specs.declared.mode.Mode.TheVariants.{Full, Limited}
use Rattle.sail_grammar.specs.RowName.{Definitions, Definition, OrderDefinition, TypeDefinition, EnumDefinition}
use Rattle.sail_grammar.specs.RowName.{EnumMembers, EnumBars, StructDefinition, UnionDefinition, UnionClause}
use Rattle.sail_grammar.specs.RowName.{UnionWhole, ValDefinition, FunctionDefinition, MeasureDefinition}
use Rattle.sail_grammar.specs.RowName.{MappingDefinition, MappingClauseDefinition, MappingWhole, LetDefinition}
use Rattle.sail_grammar.specs.RowName.{RegisterDefinition, OverloadDefinition, ScatteredDefinition, EndDefinition}
use Rattle.sail_grammar.specs.RowName.{Names, NamesTail, NamesMore, Members, MembersTail, MembersMore, Member}
use Rattle.sail_grammar.specs.RowName.{Parameters, ParametersTail, Parameter, KindMark, Quantifier}
use Rattle.sail_grammar.specs.RowName.{QuantifiedVariables, QuantifiedVariable, MappingClauses, MappingClausesTail}
use Rattle.sail_grammar.specs.RowName.{MappingClausesMore, MappingClause, MappingSide, Typ, TypeAnd, TypeComparison}
use Rattle.sail_grammar.specs.RowName.{TypeSet, NumbersTail, NumbersMore, TypeSum, TypeSumMore, TypeProduct}
use Rattle.sail_grammar.specs.RowName.{TypeProductMore, TypeAtom, TypeNamed, TypePower, TypeNegation, TypeNot}
use Rattle.sail_grammar.specs.RowName.{TypeGroup, TypeExists, TypeVariables, Types, TypesTail, Pattern, PatternAs}
use Rattle.sail_grammar.specs.RowName.{PatternConcat, PatternAppends, PatternTyped, PatternBase, PatternWildcard}
use Rattle.sail_grammar.specs.RowName.{PatternNegative, PatternNamed, PatternGroup, PatternVector, PatternList}
use Rattle.sail_grammar.specs.RowName.{Patterns, PatternsTail, Exp, LetIn, VarIn, ExpInner, If, Match, Control, Try}
use Rattle.sail_grammar.specs.RowName.{Foreach, While, Repeat, Leave, LoopMeasure, Assignment, Cases, CasesTail}
use Rattle.sail_grammar.specs.RowName.{CasesMore, Case, Infix, InfixAnd, InfixComparison, InfixAppend, InfixSum}
use Rattle.sail_grammar.specs.RowName.{InfixSumMore, InfixProduct, InfixProductMore, InfixPower, Unary, Negation}
use Rattle.sail_grammar.specs.RowName.{Power, Postfix, Suffixes, Suffix, Index, Atom, NamedExp, Arguments, PrefixCall}
use Rattle.sail_grammar.specs.RowName.{GroupExp, VectorExp, Update, ListExp, StructExp, TypeQuestion, Assertion, Exps}
use Rattle.sail_grammar.specs.RowName.{ExpsTail, Block, BlockBody, BlockMore, Statements, StatementsMore, Statement}
use Rattle.sail_grammar.specs.RowName.{LetStatement, VarStatement, FieldValues, FieldValuesTail, FieldValuesMore}
use Rattle.sail_grammar.specs.RowName.{FieldValue}
use Rattle.sail_grammar.specs.Test.{IsClear}
use Rattle.sail_grammar.specs.Sets.{grammar}

pub grammar_clear : IsClear grammar
grammar_clear Definitions = refl
grammar_clear Definition = refl
grammar_clear OrderDefinition = refl
grammar_clear TypeDefinition = refl
grammar_clear EnumDefinition = refl
grammar_clear EnumMembers = refl
grammar_clear EnumBars = refl
grammar_clear StructDefinition = refl
grammar_clear UnionDefinition = refl
grammar_clear UnionClause = refl
grammar_clear UnionWhole = refl
grammar_clear ValDefinition = refl
grammar_clear FunctionDefinition = refl
grammar_clear MeasureDefinition = refl
grammar_clear MappingDefinition = refl
grammar_clear MappingClauseDefinition = refl
grammar_clear MappingWhole = refl
grammar_clear LetDefinition = refl
grammar_clear RegisterDefinition = refl
grammar_clear OverloadDefinition = refl
grammar_clear ScatteredDefinition = refl
grammar_clear EndDefinition = refl
grammar_clear Names = refl
grammar_clear NamesTail = refl
grammar_clear NamesMore = refl
grammar_clear Members = refl
grammar_clear MembersTail = refl
grammar_clear MembersMore = refl
grammar_clear Member = refl
grammar_clear Parameters = refl
grammar_clear ParametersTail = refl
grammar_clear Parameter = refl
grammar_clear KindMark = refl
grammar_clear Quantifier = refl
grammar_clear QuantifiedVariables = refl
grammar_clear QuantifiedVariable = refl
grammar_clear MappingClauses = refl
grammar_clear MappingClausesTail = refl
grammar_clear MappingClausesMore = refl
grammar_clear MappingClause = refl
grammar_clear MappingSide = refl
grammar_clear (Typ Full) = refl
grammar_clear (Typ Limited) = refl
grammar_clear (TypeAnd Full) = refl
grammar_clear (TypeAnd Limited) = refl
grammar_clear (TypeComparison Full) = refl
grammar_clear (TypeComparison Limited) = refl
grammar_clear (TypeSet Full) = refl
grammar_clear (TypeSet Limited) = refl
grammar_clear NumbersTail = refl
grammar_clear NumbersMore = refl
grammar_clear TypeSum = refl
grammar_clear TypeSumMore = refl
grammar_clear TypeProduct = refl
grammar_clear TypeProductMore = refl
grammar_clear TypeAtom = refl
grammar_clear TypeNamed = refl
grammar_clear TypePower = refl
grammar_clear TypeNegation = refl
grammar_clear TypeNot = refl
grammar_clear TypeGroup = refl
grammar_clear TypeExists = refl
grammar_clear TypeVariables = refl
grammar_clear Types = refl
grammar_clear TypesTail = refl
grammar_clear (Pattern m) = refl
grammar_clear (PatternAs Full) = refl
grammar_clear (PatternAs Limited) = refl
grammar_clear (PatternConcat m) = refl
grammar_clear (PatternAppends m) = refl
grammar_clear (PatternTyped m) = refl
grammar_clear (PatternBase m) = refl
grammar_clear (PatternWildcard Full) = refl
grammar_clear (PatternWildcard Limited) = refl
grammar_clear PatternNegative = refl
grammar_clear (PatternNamed m) = refl
grammar_clear (PatternGroup m) = refl
grammar_clear (PatternVector m) = refl
grammar_clear (PatternList m) = refl
grammar_clear (Patterns m) = refl
grammar_clear (PatternsTail m) = refl
grammar_clear (Exp m) = refl
grammar_clear (LetIn m) = refl
grammar_clear (VarIn m) = refl
grammar_clear (ExpInner m) = refl
grammar_clear (If m) = refl
grammar_clear (Match m) = refl
grammar_clear (Control Full) = refl
grammar_clear (Control Limited) = refl
grammar_clear Try = refl
grammar_clear Foreach = refl
grammar_clear While = refl
grammar_clear Repeat = refl
grammar_clear Leave = refl
grammar_clear LoopMeasure = refl
grammar_clear (Assignment Full) = refl
grammar_clear (Assignment Limited) = refl
grammar_clear (Cases m) = refl
grammar_clear (CasesTail m) = refl
grammar_clear (CasesMore m) = refl
grammar_clear (Case m) = refl
grammar_clear (Infix m) = refl
grammar_clear (InfixAnd m) = refl
grammar_clear (InfixComparison m) = refl
grammar_clear (InfixAppend m) = refl
grammar_clear (InfixSum m) = refl
grammar_clear (InfixSumMore m) = refl
grammar_clear (InfixProduct m) = refl
grammar_clear (InfixProductMore m) = refl
grammar_clear (InfixPower m) = refl
grammar_clear (Unary m) = refl
grammar_clear (Negation m) = refl
grammar_clear (Power m) = refl
grammar_clear (Postfix m) = refl
grammar_clear (Suffixes m) = refl
grammar_clear (Suffix m) = refl
grammar_clear (Index m) = refl
grammar_clear (Atom m) = refl
grammar_clear (NamedExp m) = refl
grammar_clear (Arguments m) = refl
grammar_clear (PrefixCall m) = refl
grammar_clear (GroupExp m) = refl
grammar_clear (VectorExp m) = refl
grammar_clear (Update m) = refl
grammar_clear (ListExp m) = refl
grammar_clear (StructExp m) = refl
grammar_clear TypeQuestion = refl
grammar_clear (Assertion Full) = refl
grammar_clear (Assertion Limited) = refl
grammar_clear (Exps m) = refl
grammar_clear (ExpsTail m) = refl
grammar_clear (Block Full) = refl
grammar_clear (Block Limited) = refl
grammar_clear BlockBody = refl
grammar_clear BlockMore = refl
grammar_clear Statements = refl
grammar_clear StatementsMore = refl
grammar_clear (Statement m) = refl
grammar_clear (LetStatement m) = refl
grammar_clear (VarStatement m) = refl
grammar_clear (FieldValues m) = refl
grammar_clear (FieldValuesTail m) = refl
grammar_clear (FieldValuesMore m) = refl
grammar_clear (FieldValue m) = refl
