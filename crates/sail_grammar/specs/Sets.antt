-- The sets of the grammar's rows, made by tools/grammar_sets.py.
use Rattle.std.specs.Prelude.{true, false, [], ◌∷◌}
use Rattle.sail_grammar.specs.declared.mode.Mode.TheVariants.{Full, Limited}
use Rattle.sail_grammar.specs.RowName.{RowName, Definitions, Definition, OrderDefinition, TypeDefinition}
use Rattle.sail_grammar.specs.RowName.{EnumDefinition, EnumMembers, EnumBars, StructDefinition, UnionDefinition}
use Rattle.sail_grammar.specs.RowName.{UnionClause, UnionWhole, ValDefinition, FunctionDefinition, MeasureDefinition}
use Rattle.sail_grammar.specs.RowName.{MappingDefinition, MappingClauseDefinition, MappingWhole, LetDefinition}
use Rattle.sail_grammar.specs.RowName.{RegisterDefinition, OverloadDefinition, ScatteredDefinition, EndDefinition}
use Rattle.sail_grammar.specs.RowName.{Names, NamesTail, NamesMore, Members, MembersTail, MembersMore, Member}
use Rattle.sail_grammar.specs.RowName.{Parameters, ParametersTail, Parameter, KindMark, Quantifier}
use Rattle.sail_grammar.specs.RowName.{QuantifiedVariables, QuantifiedVariable, MappingClauses, MappingClausesTail}
use Rattle.sail_grammar.specs.RowName.{MappingClausesMore, MappingClause, MappingSide, Typ, TypeAnd, TypeComparison}
use Rattle.sail_grammar.specs.RowName.{TypeSet, NumbersTail, NumbersMore, TypeSum, TypeSumMore, TypeProduct}
use Rattle.sail_grammar.specs.RowName.{TypeProductMore, TypeAtom, TypeNamed, TypePower, TypeNegation, TypeNot}
use Rattle.sail_grammar.specs.RowName.{TypeGroup, TypeExists, TypeVariables, Types, TypesTail, Pattern, PatternAs}
use Rattle.sail_grammar.specs.RowName.{PatternConcat, PatternAppends, PatternTyped, PatternBase, PatternWildcard}
use Rattle.sail_grammar.specs.RowName.{PatternNegative, PatternNamed, PatternGroup, PatternVector, PatternList}
use Rattle.sail_grammar.specs.RowName.{Patterns, PatternsTail, Exp, LetIn, VarIn, ExpInner, If, Match, Control, Try}
use Rattle.sail_grammar.specs.RowName.{Foreach, While, Repeat, Leave, LoopMeasure, Assignment, Cases, CasesTail}
use Rattle.sail_grammar.specs.RowName.{CasesMore, Case, Infix, InfixAnd, InfixComparison, InfixAppend, InfixSum}
use Rattle.sail_grammar.specs.RowName.{InfixSumMore, InfixProduct, InfixProductMore, InfixPower, Unary, Negation}
use Rattle.sail_grammar.specs.RowName.{Power, Postfix, Suffixes, Suffix, Index, Atom, NamedExp, Arguments, PrefixCall}
use Rattle.sail_grammar.specs.RowName.{GroupExp, VectorExp, Update, ListExp, StructExp, TypeQuestion, Assertion, Exps}
use Rattle.sail_grammar.specs.RowName.{ExpsTail, Block, BlockBody, BlockMore, Statements, StatementsMore, Statement}
use Rattle.sail_grammar.specs.RowName.{LetStatement, VarStatement, FieldValues, FieldValuesTail, FieldValuesMore}
use Rattle.sail_grammar.specs.RowName.{FieldValue}
use Rattle.sail_grammar.specs.Table.{rule}
use Rattle.sail_grammar.specs.Test.{Sets, Grammar}

-- what may begin each row, whether it may be empty, and what may follow it
abbrev pub sets : RowName → Sets
sets Definitions = record { first = 19 ∷ 22 ∷ 23 ∷ 29 ∷ 33 ∷ 34 ∷ 38 ∷ 39 ∷ 42 ∷ 44 ∷ 45 ∷ 51 ∷ 52 ∷ 54 ∷ []; nullable = true; follow = 0 ∷ [] }
sets Definition = record {
  first = 19 ∷ 22 ∷ 23 ∷ 29 ∷ 33 ∷ 34 ∷ 38 ∷ 39 ∷ 42 ∷ 44 ∷ 45 ∷ 51 ∷ 52 ∷ 54 ∷ [];
  nullable = false;
  follow = 0 ∷ 19 ∷ 22 ∷ 23 ∷ 29 ∷ 33 ∷ 34 ∷ 38 ∷ 39 ∷ 42 ∷ 44 ∷ 45 ∷ 51 ∷ 52 ∷ 54 ∷ [];
}
sets OrderDefinition = record {
  first = 19 ∷ [];
  nullable = false;
  follow = 0 ∷ 19 ∷ 22 ∷ 23 ∷ 29 ∷ 33 ∷ 34 ∷ 38 ∷ 39 ∷ 42 ∷ 44 ∷ 45 ∷ 51 ∷ 52 ∷ 54 ∷ [];
}
sets TypeDefinition = record {
  first = 51 ∷ [];
  nullable = false;
  follow = 0 ∷ 19 ∷ 22 ∷ 23 ∷ 29 ∷ 33 ∷ 34 ∷ 38 ∷ 39 ∷ 42 ∷ 44 ∷ 45 ∷ 51 ∷ 52 ∷ 54 ∷ [];
}
sets EnumDefinition = record {
  first = 23 ∷ [];
  nullable = false;
  follow = 0 ∷ 19 ∷ 22 ∷ 23 ∷ 29 ∷ 33 ∷ 34 ∷ 38 ∷ 39 ∷ 42 ∷ 44 ∷ 45 ∷ 51 ∷ 52 ∷ 54 ∷ [];
}
sets EnumMembers = record { first = 62 ∷ []; nullable = false; follow = 0 ∷ 19 ∷ 22 ∷ 23 ∷ 29 ∷ 33 ∷ 34 ∷ 38 ∷ 39 ∷ 42 ∷ 44 ∷ 45 ∷ 51 ∷ 52 ∷ 54 ∷ [] }
sets EnumBars = record { first = 93 ∷ []; nullable = true; follow = 0 ∷ 19 ∷ 22 ∷ 23 ∷ 29 ∷ 33 ∷ 34 ∷ 38 ∷ 39 ∷ 42 ∷ 44 ∷ 45 ∷ 51 ∷ 52 ∷ 54 ∷ [] }
sets StructDefinition = record {
  first = 44 ∷ [];
  nullable = false;
  follow = 0 ∷ 19 ∷ 22 ∷ 23 ∷ 29 ∷ 33 ∷ 34 ∷ 38 ∷ 39 ∷ 42 ∷ 44 ∷ 45 ∷ 51 ∷ 52 ∷ 54 ∷ [];
}
sets UnionDefinition = record {
  first = 52 ∷ [];
  nullable = false;
  follow = 0 ∷ 19 ∷ 22 ∷ 23 ∷ 29 ∷ 33 ∷ 34 ∷ 38 ∷ 39 ∷ 42 ∷ 44 ∷ 45 ∷ 51 ∷ 52 ∷ 54 ∷ [];
}
sets UnionClause = record { first = 16 ∷ []; nullable = false; follow = 0 ∷ 19 ∷ 22 ∷ 23 ∷ 29 ∷ 33 ∷ 34 ∷ 38 ∷ 39 ∷ 42 ∷ 44 ∷ 45 ∷ 51 ∷ 52 ∷ 54 ∷ [] }
sets UnionWhole = record {
  first = 1 ∷ 202 ∷ [];
  nullable = false;
  follow = 0 ∷ 19 ∷ 22 ∷ 23 ∷ 29 ∷ 33 ∷ 34 ∷ 38 ∷ 39 ∷ 42 ∷ 44 ∷ 45 ∷ 51 ∷ 52 ∷ 54 ∷ [];
}
sets ValDefinition = record {
  first = 54 ∷ [];
  nullable = false;
  follow = 0 ∷ 19 ∷ 22 ∷ 23 ∷ 29 ∷ 33 ∷ 34 ∷ 38 ∷ 39 ∷ 42 ∷ 44 ∷ 45 ∷ 51 ∷ 52 ∷ 54 ∷ [];
}
sets FunctionDefinition = record {
  first = 29 ∷ [];
  nullable = false;
  follow = 0 ∷ 19 ∷ 22 ∷ 23 ∷ 29 ∷ 33 ∷ 34 ∷ 38 ∷ 39 ∷ 42 ∷ 44 ∷ 45 ∷ 51 ∷ 52 ∷ 54 ∷ [];
}
sets MeasureDefinition = record {
  first = 45 ∷ [];
  nullable = false;
  follow = 0 ∷ 19 ∷ 22 ∷ 23 ∷ 29 ∷ 33 ∷ 34 ∷ 38 ∷ 39 ∷ 42 ∷ 44 ∷ 45 ∷ 51 ∷ 52 ∷ 54 ∷ [];
}
sets MappingDefinition = record {
  first = 34 ∷ [];
  nullable = false;
  follow = 0 ∷ 19 ∷ 22 ∷ 23 ∷ 29 ∷ 33 ∷ 34 ∷ 38 ∷ 39 ∷ 42 ∷ 44 ∷ 45 ∷ 51 ∷ 52 ∷ 54 ∷ [];
}
sets MappingClauseDefinition = record {
  first = 16 ∷ [];
  nullable = false;
  follow = 0 ∷ 19 ∷ 22 ∷ 23 ∷ 29 ∷ 33 ∷ 34 ∷ 38 ∷ 39 ∷ 42 ∷ 44 ∷ 45 ∷ 51 ∷ 52 ∷ 54 ∷ [];
}
sets MappingWhole = record {
  first = 1 ∷ 202 ∷ [];
  nullable = false;
  follow = 0 ∷ 19 ∷ 22 ∷ 23 ∷ 29 ∷ 33 ∷ 34 ∷ 38 ∷ 39 ∷ 42 ∷ 44 ∷ 45 ∷ 51 ∷ 52 ∷ 54 ∷ [];
}
sets LetDefinition = record {
  first = 33 ∷ [];
  nullable = false;
  follow = 0 ∷ 19 ∷ 22 ∷ 23 ∷ 29 ∷ 33 ∷ 34 ∷ 38 ∷ 39 ∷ 42 ∷ 44 ∷ 45 ∷ 51 ∷ 52 ∷ 54 ∷ [];
}
sets RegisterDefinition = record {
  first = 39 ∷ [];
  nullable = false;
  follow = 0 ∷ 19 ∷ 22 ∷ 23 ∷ 29 ∷ 33 ∷ 34 ∷ 38 ∷ 39 ∷ 42 ∷ 44 ∷ 45 ∷ 51 ∷ 52 ∷ 54 ∷ [];
}
sets OverloadDefinition = record {
  first = 38 ∷ [];
  nullable = false;
  follow = 0 ∷ 19 ∷ 22 ∷ 23 ∷ 29 ∷ 33 ∷ 34 ∷ 38 ∷ 39 ∷ 42 ∷ 44 ∷ 45 ∷ 51 ∷ 52 ∷ 54 ∷ [];
}
sets ScatteredDefinition = record {
  first = 42 ∷ [];
  nullable = false;
  follow = 0 ∷ 19 ∷ 22 ∷ 23 ∷ 29 ∷ 33 ∷ 34 ∷ 38 ∷ 39 ∷ 42 ∷ 44 ∷ 45 ∷ 51 ∷ 52 ∷ 54 ∷ [];
}
sets EndDefinition = record {
  first = 22 ∷ [];
  nullable = false;
  follow = 0 ∷ 19 ∷ 22 ∷ 23 ∷ 29 ∷ 33 ∷ 34 ∷ 38 ∷ 39 ∷ 42 ∷ 44 ∷ 45 ∷ 51 ∷ 52 ∷ 54 ∷ [];
}
sets Names = record { first = 1 ∷ 202 ∷ []; nullable = false; follow = 63 ∷ [] }
sets NamesTail = record { first = 66 ∷ []; nullable = true; follow = 63 ∷ [] }
sets NamesMore = record { first = 1 ∷ 202 ∷ []; nullable = true; follow = 63 ∷ [] }
sets Members = record { first = 1 ∷ 202 ∷ []; nullable = false; follow = 63 ∷ [] }
sets MembersTail = record { first = 66 ∷ []; nullable = true; follow = 63 ∷ [] }
sets MembersMore = record { first = 1 ∷ 202 ∷ []; nullable = true; follow = 63 ∷ [] }
sets Member = record {
  first = 1 ∷ 202 ∷ [];
  nullable = false;
  follow = 0 ∷ 19 ∷ 22 ∷ 23 ∷ 29 ∷ 33 ∷ 34 ∷ 38 ∷ 39 ∷ 42 ∷ 44 ∷ 45 ∷ 51 ∷ 52 ∷ 54 ∷ 63 ∷ 66 ∷ [];
}
sets Parameters = record {
  first = 58 ∷ [];
  nullable = true;
  follow = 0 ∷ 19 ∷ 22 ∷ 23 ∷ 29 ∷ 33 ∷ 34 ∷ 38 ∷ 39 ∷ 42 ∷ 44 ∷ 45 ∷ 51 ∷ 52 ∷ 54 ∷ 68 ∷ 72 ∷ [];
}
sets ParametersTail = record { first = 66 ∷ []; nullable = true; follow = 59 ∷ [] }
sets Parameter = record { first = 2 ∷ []; nullable = false; follow = 59 ∷ 66 ∷ [] }
sets KindMark = record { first = 68 ∷ []; nullable = true; follow = 59 ∷ 66 ∷ 72 ∷ [] }
sets Quantifier = record { first = 26 ∷ []; nullable = false; follow = 1 ∷ 2 ∷ 4 ∷ 25 ∷ 36 ∷ 49 ∷ 58 ∷ 62 ∷ 88 ∷ 201 ∷ 202 ∷ [] }
sets QuantifiedVariables = record { first = 2 ∷ 58 ∷ []; nullable = true; follow = 66 ∷ 70 ∷ [] }
sets QuantifiedVariable = record { first = 2 ∷ 58 ∷ []; nullable = false; follow = 2 ∷ 58 ∷ 66 ∷ 70 ∷ [] }
sets MappingClauses = record {
  first = 1 ∷ 3 ∷ 4 ∷ 5 ∷ 6 ∷ 7 ∷ 12 ∷ 13 ∷ 25 ∷ 49 ∷ 58 ∷ 60 ∷ 64 ∷ 88 ∷ 201 ∷ 202 ∷ [];
  nullable = false;
  follow = 0 ∷ 19 ∷ 22 ∷ 23 ∷ 29 ∷ 33 ∷ 34 ∷ 38 ∷ 39 ∷ 42 ∷ 44 ∷ 45 ∷ 51 ∷ 52 ∷ 54 ∷ [];
}
sets MappingClausesTail = record {
  first = 63 ∷ 66 ∷ [];
  nullable = false;
  follow = 0 ∷ 19 ∷ 22 ∷ 23 ∷ 29 ∷ 33 ∷ 34 ∷ 38 ∷ 39 ∷ 42 ∷ 44 ∷ 45 ∷ 51 ∷ 52 ∷ 54 ∷ [];
}
sets MappingClausesMore = record {
  first = 1 ∷ 3 ∷ 4 ∷ 5 ∷ 6 ∷ 7 ∷ 12 ∷ 13 ∷ 25 ∷ 49 ∷ 58 ∷ 60 ∷ 63 ∷ 64 ∷ 88 ∷ 201 ∷ 202 ∷ [];
  nullable = false;
  follow = 0 ∷ 19 ∷ 22 ∷ 23 ∷ 29 ∷ 33 ∷ 34 ∷ 38 ∷ 39 ∷ 42 ∷ 44 ∷ 45 ∷ 51 ∷ 52 ∷ 54 ∷ [];
}
sets MappingClause = record {
  first = 1 ∷ 3 ∷ 4 ∷ 5 ∷ 6 ∷ 7 ∷ 12 ∷ 13 ∷ 25 ∷ 49 ∷ 58 ∷ 60 ∷ 64 ∷ 88 ∷ 201 ∷ 202 ∷ [];
  nullable = false;
  follow = 0 ∷ 19 ∷ 22 ∷ 23 ∷ 29 ∷ 33 ∷ 34 ∷ 38 ∷ 39 ∷ 42 ∷ 44 ∷ 45 ∷ 51 ∷ 52 ∷ 54 ∷ 63 ∷ 66 ∷ [];
}
sets MappingSide = record {
  first = 1 ∷ 3 ∷ 4 ∷ 5 ∷ 6 ∷ 7 ∷ 12 ∷ 13 ∷ 25 ∷ 49 ∷ 58 ∷ 60 ∷ 64 ∷ 88 ∷ 201 ∷ 202 ∷ [];
  nullable = false;
  follow = 0 ∷ 19 ∷ 22 ∷ 23 ∷ 29 ∷ 33 ∷ 34 ∷ 38 ∷ 39 ∷ 42 ∷ 44 ∷ 45 ∷ 51 ∷ 52 ∷ 54 ∷ 63 ∷ 66 ∷ 98 ∷ [];
}
sets (Typ Full) = record {
  first = 1 ∷ 2 ∷ 4 ∷ 25 ∷ 36 ∷ 49 ∷ 58 ∷ 62 ∷ 88 ∷ 201 ∷ 202 ∷ [];
  nullable = false;
  follow = 0 ∷ 10 ∷ 19 ∷ 22 ∷ 23 ∷ 29 ∷ 30 ∷ 33 ∷ 34 ∷ 38 ∷ 39 ∷ 42 ∷ 44 ∷ 45 ∷ 51 ∷ 52 ∷ 54 ∷ 59 ∷ 61 ∷ 63 ∷ 65 ∷ 66 ∷ 69 ∷ 70 ∷ 72 ∷ 91 ∷ 97 ∷ 98 ∷
      99 ∷ [];
}
sets (Typ Limited) = record {
  first = 1 ∷ 2 ∷ 4 ∷ 25 ∷ 36 ∷ 49 ∷ 58 ∷ 62 ∷ 88 ∷ 201 ∷ 202 ∷ [];
  nullable = false;
  follow = 0 ∷ 14 ∷ 15 ∷ 19 ∷ 20 ∷ 21 ∷ 22 ∷ 23 ∷ 29 ∷ 31 ∷ 33 ∷ 34 ∷ 38 ∷ 39 ∷ 42 ∷ 44 ∷ 45 ∷ 46 ∷ 48 ∷ 51 ∷ 52 ∷ 53 ∷ 54 ∷ 57 ∷ 59 ∷ 61 ∷ 62 ∷ 63 ∷
      65 ∷ 66 ∷ 67 ∷ 71 ∷ 98 ∷ 99 ∷ [];
}
sets (TypeAnd Full) = record {
  first = 1 ∷ 2 ∷ 4 ∷ 25 ∷ 36 ∷ 49 ∷ 58 ∷ 62 ∷ 88 ∷ 201 ∷ 202 ∷ [];
  nullable = false;
  follow = 0 ∷ 10 ∷ 19 ∷ 22 ∷ 23 ∷ 29 ∷ 30 ∷ 33 ∷ 34 ∷ 38 ∷ 39 ∷ 42 ∷ 44 ∷ 45 ∷ 51 ∷ 52 ∷ 54 ∷ 59 ∷ 61 ∷ 63 ∷ 65 ∷ 66 ∷ 69 ∷ 70 ∷ 72 ∷ 91 ∷ 93 ∷ 97 ∷
      98 ∷ 99 ∷ [];
}
sets (TypeAnd Limited) = record {
  first = 1 ∷ 2 ∷ 4 ∷ 25 ∷ 36 ∷ 49 ∷ 58 ∷ 62 ∷ 88 ∷ 201 ∷ 202 ∷ [];
  nullable = false;
  follow = 0 ∷ 14 ∷ 15 ∷ 19 ∷ 20 ∷ 21 ∷ 22 ∷ 23 ∷ 29 ∷ 31 ∷ 33 ∷ 34 ∷ 38 ∷ 39 ∷ 42 ∷ 44 ∷ 45 ∷ 46 ∷ 48 ∷ 51 ∷ 52 ∷ 53 ∷ 54 ∷ 57 ∷ 59 ∷ 61 ∷ 62 ∷ 63 ∷
      65 ∷ 66 ∷ 67 ∷ 71 ∷ 93 ∷ 98 ∷ 99 ∷ [];
}
sets (TypeComparison Full) = record {
  first = 1 ∷ 2 ∷ 4 ∷ 25 ∷ 36 ∷ 49 ∷ 58 ∷ 62 ∷ 88 ∷ 201 ∷ 202 ∷ [];
  nullable = false;
  follow = 0 ∷ 10 ∷ 19 ∷ 22 ∷ 23 ∷ 29 ∷ 30 ∷ 33 ∷ 34 ∷ 38 ∷ 39 ∷ 42 ∷ 44 ∷ 45 ∷ 51 ∷ 52 ∷ 54 ∷ 59 ∷ 61 ∷ 63 ∷ 65 ∷ 66 ∷ 69 ∷ 70 ∷ 72 ∷ 91 ∷ 92 ∷ 93 ∷
      97 ∷ 98 ∷ 99 ∷ [];
}
sets (TypeComparison Limited) = record {
  first = 1 ∷ 2 ∷ 4 ∷ 25 ∷ 36 ∷ 49 ∷ 58 ∷ 62 ∷ 88 ∷ 201 ∷ 202 ∷ [];
  nullable = false;
  follow = 0 ∷ 14 ∷ 15 ∷ 19 ∷ 20 ∷ 21 ∷ 22 ∷ 23 ∷ 29 ∷ 31 ∷ 33 ∷ 34 ∷ 38 ∷ 39 ∷ 42 ∷ 44 ∷ 45 ∷ 46 ∷ 48 ∷ 51 ∷ 52 ∷ 53 ∷ 54 ∷ 57 ∷ 59 ∷ 61 ∷ 62 ∷ 63 ∷
      65 ∷ 66 ∷ 67 ∷ 71 ∷ 92 ∷ 93 ∷ 98 ∷ 99 ∷ [];
}
sets (TypeSet Full) = record {
  first = 31 ∷ [];
  nullable = false;
  follow = 0 ∷ 10 ∷ 19 ∷ 22 ∷ 23 ∷ 29 ∷ 30 ∷ 33 ∷ 34 ∷ 38 ∷ 39 ∷ 42 ∷ 44 ∷ 45 ∷ 51 ∷ 52 ∷ 54 ∷ 59 ∷ 61 ∷ 63 ∷ 65 ∷ 66 ∷ 69 ∷ 70 ∷ 72 ∷ 91 ∷ 92 ∷ 93 ∷
      97 ∷ 98 ∷ 99 ∷ [];
}
sets (TypeSet Limited) = record {
  first = [];
  nullable = false;
  follow = 0 ∷ 14 ∷ 15 ∷ 19 ∷ 20 ∷ 21 ∷ 22 ∷ 23 ∷ 29 ∷ 31 ∷ 33 ∷ 34 ∷ 38 ∷ 39 ∷ 42 ∷ 44 ∷ 45 ∷ 46 ∷ 48 ∷ 51 ∷ 52 ∷ 53 ∷ 54 ∷ 57 ∷ 59 ∷ 61 ∷ 62 ∷ 63 ∷
      65 ∷ 66 ∷ 67 ∷ 71 ∷ 92 ∷ 93 ∷ 98 ∷ 99 ∷ [];
}
sets NumbersTail = record { first = 66 ∷ []; nullable = true; follow = 63 ∷ [] }
sets NumbersMore = record { first = 4 ∷ 201 ∷ []; nullable = true; follow = 63 ∷ [] }
sets TypeSum = record {
  first = 1 ∷ 2 ∷ 4 ∷ 25 ∷ 36 ∷ 49 ∷ 58 ∷ 62 ∷ 88 ∷ 201 ∷ 202 ∷ [];
  nullable = false;
  follow = 0 ∷ 10 ∷ 14 ∷ 15 ∷ 19 ∷ 20 ∷ 21 ∷ 22 ∷ 23 ∷ 29 ∷ 30 ∷ 31 ∷ 33 ∷ 34 ∷ 38 ∷ 39 ∷ 42 ∷ 44 ∷ 45 ∷ 46 ∷ 48 ∷ 51 ∷ 52 ∷ 53 ∷ 54 ∷ 57 ∷ 59 ∷ 61 ∷
      62 ∷ 63 ∷ 65 ∷ 66 ∷ 67 ∷ 69 ∷ 70 ∷ 71 ∷ 72 ∷ 73 ∷ 74 ∷ 75 ∷ 76 ∷ 77 ∷ 78 ∷ 91 ∷ 92 ∷ 93 ∷ 97 ∷ 98 ∷ 99 ∷ [];
}
sets TypeSumMore = record {
  first = 87 ∷ 88 ∷ [];
  nullable = true;
  follow = 0 ∷ 10 ∷ 14 ∷ 15 ∷ 19 ∷ 20 ∷ 21 ∷ 22 ∷ 23 ∷ 29 ∷ 30 ∷ 31 ∷ 33 ∷ 34 ∷ 38 ∷ 39 ∷ 42 ∷ 44 ∷ 45 ∷ 46 ∷ 48 ∷ 51 ∷ 52 ∷ 53 ∷ 54 ∷ 57 ∷ 59 ∷ 61 ∷
      62 ∷ 63 ∷ 65 ∷ 66 ∷ 67 ∷ 69 ∷ 70 ∷ 71 ∷ 72 ∷ 73 ∷ 74 ∷ 75 ∷ 76 ∷ 77 ∷ 78 ∷ 91 ∷ 92 ∷ 93 ∷ 97 ∷ 98 ∷ 99 ∷ [];
}
sets TypeProduct = record {
  first = 1 ∷ 2 ∷ 4 ∷ 25 ∷ 36 ∷ 49 ∷ 58 ∷ 62 ∷ 88 ∷ 201 ∷ 202 ∷ [];
  nullable = false;
  follow = 0 ∷ 10 ∷ 14 ∷ 15 ∷ 19 ∷ 20 ∷ 21 ∷ 22 ∷ 23 ∷ 29 ∷ 30 ∷ 31 ∷ 33 ∷ 34 ∷ 38 ∷ 39 ∷ 42 ∷ 44 ∷ 45 ∷ 46 ∷ 48 ∷ 51 ∷ 52 ∷ 53 ∷ 54 ∷ 57 ∷ 59 ∷ 61 ∷
      62 ∷ 63 ∷ 65 ∷ 66 ∷ 67 ∷ 69 ∷ 70 ∷ 71 ∷ 72 ∷ 73 ∷ 74 ∷ 75 ∷ 76 ∷ 77 ∷ 78 ∷ 87 ∷ 88 ∷ 91 ∷ 92 ∷ 93 ∷ 97 ∷ 98 ∷ 99 ∷ [];
}
sets TypeProductMore = record {
  first = 89 ∷ [];
  nullable = true;
  follow = 0 ∷ 10 ∷ 14 ∷ 15 ∷ 19 ∷ 20 ∷ 21 ∷ 22 ∷ 23 ∷ 29 ∷ 30 ∷ 31 ∷ 33 ∷ 34 ∷ 38 ∷ 39 ∷ 42 ∷ 44 ∷ 45 ∷ 46 ∷ 48 ∷ 51 ∷ 52 ∷ 53 ∷ 54 ∷ 57 ∷ 59 ∷ 61 ∷
      62 ∷ 63 ∷ 65 ∷ 66 ∷ 67 ∷ 69 ∷ 70 ∷ 71 ∷ 72 ∷ 73 ∷ 74 ∷ 75 ∷ 76 ∷ 77 ∷ 78 ∷ 87 ∷ 88 ∷ 91 ∷ 92 ∷ 93 ∷ 97 ∷ 98 ∷ 99 ∷ [];
}
sets TypeAtom = record {
  first = 1 ∷ 2 ∷ 4 ∷ 25 ∷ 36 ∷ 49 ∷ 58 ∷ 62 ∷ 88 ∷ 201 ∷ 202 ∷ [];
  nullable = false;
  follow = 0 ∷ 10 ∷ 14 ∷ 15 ∷ 19 ∷ 20 ∷ 21 ∷ 22 ∷ 23 ∷ 29 ∷ 30 ∷ 31 ∷ 33 ∷ 34 ∷ 38 ∷ 39 ∷ 42 ∷ 44 ∷ 45 ∷ 46 ∷ 48 ∷ 51 ∷ 52 ∷ 53 ∷ 54 ∷ 57 ∷ 59 ∷ 61 ∷
      62 ∷ 63 ∷ 65 ∷ 66 ∷ 67 ∷ 69 ∷ 70 ∷ 71 ∷ 72 ∷ 73 ∷ 74 ∷ 75 ∷ 76 ∷ 77 ∷ 78 ∷ 87 ∷ 88 ∷ 89 ∷ 91 ∷ 92 ∷ 93 ∷ 97 ∷ 98 ∷ 99 ∷ [];
}
sets TypeNamed = record {
  first = 1 ∷ 202 ∷ [];
  nullable = false;
  follow = 0 ∷ 10 ∷ 14 ∷ 15 ∷ 19 ∷ 20 ∷ 21 ∷ 22 ∷ 23 ∷ 29 ∷ 30 ∷ 31 ∷ 33 ∷ 34 ∷ 38 ∷ 39 ∷ 42 ∷ 44 ∷ 45 ∷ 46 ∷ 48 ∷ 51 ∷ 52 ∷ 53 ∷ 54 ∷ 57 ∷ 59 ∷ 61 ∷
      62 ∷ 63 ∷ 65 ∷ 66 ∷ 67 ∷ 69 ∷ 70 ∷ 71 ∷ 72 ∷ 73 ∷ 74 ∷ 75 ∷ 76 ∷ 77 ∷ 78 ∷ 87 ∷ 88 ∷ 89 ∷ 91 ∷ 92 ∷ 93 ∷ 97 ∷ 98 ∷ 99 ∷ [];
}
sets TypePower = record {
  first = 201 ∷ [];
  nullable = false;
  follow = 0 ∷ 10 ∷ 14 ∷ 15 ∷ 19 ∷ 20 ∷ 21 ∷ 22 ∷ 23 ∷ 29 ∷ 30 ∷ 31 ∷ 33 ∷ 34 ∷ 38 ∷ 39 ∷ 42 ∷ 44 ∷ 45 ∷ 46 ∷ 48 ∷ 51 ∷ 52 ∷ 53 ∷ 54 ∷ 57 ∷ 59 ∷ 61 ∷
      62 ∷ 63 ∷ 65 ∷ 66 ∷ 67 ∷ 69 ∷ 70 ∷ 71 ∷ 72 ∷ 73 ∷ 74 ∷ 75 ∷ 76 ∷ 77 ∷ 78 ∷ 87 ∷ 88 ∷ 89 ∷ 91 ∷ 92 ∷ 93 ∷ 97 ∷ 98 ∷ 99 ∷ [];
}
sets TypeNegation = record {
  first = 88 ∷ [];
  nullable = false;
  follow = 0 ∷ 10 ∷ 14 ∷ 15 ∷ 19 ∷ 20 ∷ 21 ∷ 22 ∷ 23 ∷ 29 ∷ 30 ∷ 31 ∷ 33 ∷ 34 ∷ 38 ∷ 39 ∷ 42 ∷ 44 ∷ 45 ∷ 46 ∷ 48 ∷ 51 ∷ 52 ∷ 53 ∷ 54 ∷ 57 ∷ 59 ∷ 61 ∷
      62 ∷ 63 ∷ 65 ∷ 66 ∷ 67 ∷ 69 ∷ 70 ∷ 71 ∷ 72 ∷ 73 ∷ 74 ∷ 75 ∷ 76 ∷ 77 ∷ 78 ∷ 87 ∷ 88 ∷ 89 ∷ 91 ∷ 92 ∷ 93 ∷ 97 ∷ 98 ∷ 99 ∷ [];
}
sets TypeNot = record {
  first = 36 ∷ [];
  nullable = false;
  follow = 0 ∷ 10 ∷ 14 ∷ 15 ∷ 19 ∷ 20 ∷ 21 ∷ 22 ∷ 23 ∷ 29 ∷ 30 ∷ 31 ∷ 33 ∷ 34 ∷ 38 ∷ 39 ∷ 42 ∷ 44 ∷ 45 ∷ 46 ∷ 48 ∷ 51 ∷ 52 ∷ 53 ∷ 54 ∷ 57 ∷ 59 ∷ 61 ∷
      62 ∷ 63 ∷ 65 ∷ 66 ∷ 67 ∷ 69 ∷ 70 ∷ 71 ∷ 72 ∷ 73 ∷ 74 ∷ 75 ∷ 76 ∷ 77 ∷ 78 ∷ 87 ∷ 88 ∷ 89 ∷ 91 ∷ 92 ∷ 93 ∷ 97 ∷ 98 ∷ 99 ∷ [];
}
sets TypeGroup = record {
  first = 58 ∷ [];
  nullable = false;
  follow = 0 ∷ 10 ∷ 14 ∷ 15 ∷ 19 ∷ 20 ∷ 21 ∷ 22 ∷ 23 ∷ 29 ∷ 30 ∷ 31 ∷ 33 ∷ 34 ∷ 38 ∷ 39 ∷ 42 ∷ 44 ∷ 45 ∷ 46 ∷ 48 ∷ 51 ∷ 52 ∷ 53 ∷ 54 ∷ 57 ∷ 59 ∷ 61 ∷
      62 ∷ 63 ∷ 65 ∷ 66 ∷ 67 ∷ 69 ∷ 70 ∷ 71 ∷ 72 ∷ 73 ∷ 74 ∷ 75 ∷ 76 ∷ 77 ∷ 78 ∷ 87 ∷ 88 ∷ 89 ∷ 91 ∷ 92 ∷ 93 ∷ 97 ∷ 98 ∷ 99 ∷ [];
}
sets TypeExists = record {
  first = 62 ∷ [];
  nullable = false;
  follow = 0 ∷ 10 ∷ 14 ∷ 15 ∷ 19 ∷ 20 ∷ 21 ∷ 22 ∷ 23 ∷ 29 ∷ 30 ∷ 31 ∷ 33 ∷ 34 ∷ 38 ∷ 39 ∷ 42 ∷ 44 ∷ 45 ∷ 46 ∷ 48 ∷ 51 ∷ 52 ∷ 53 ∷ 54 ∷ 57 ∷ 59 ∷ 61 ∷
      62 ∷ 63 ∷ 65 ∷ 66 ∷ 67 ∷ 69 ∷ 70 ∷ 71 ∷ 72 ∷ 73 ∷ 74 ∷ 75 ∷ 76 ∷ 77 ∷ 78 ∷ 87 ∷ 88 ∷ 89 ∷ 91 ∷ 92 ∷ 93 ∷ 97 ∷ 98 ∷ 99 ∷ [];
}
sets TypeVariables = record { first = 2 ∷ []; nullable = true; follow = 66 ∷ 70 ∷ [] }
sets Types = record { first = 1 ∷ 2 ∷ 4 ∷ 25 ∷ 36 ∷ 49 ∷ 58 ∷ 62 ∷ 88 ∷ 201 ∷ 202 ∷ []; nullable = false; follow = 59 ∷ [] }
sets TypesTail = record { first = 66 ∷ []; nullable = true; follow = 59 ∷ [] }
sets (Pattern m) = record {
  first = 1 ∷ 3 ∷ 4 ∷ 5 ∷ 6 ∷ 7 ∷ 12 ∷ 13 ∷ 25 ∷ 49 ∷ 58 ∷ 60 ∷ 64 ∷ 88 ∷ 201 ∷ 202 ∷ [];
  nullable = false;
  follow = 0 ∷ 19 ∷ 22 ∷ 23 ∷ 29 ∷ 30 ∷ 33 ∷ 34 ∷ 38 ∷ 39 ∷ 42 ∷ 44 ∷ 45 ∷ 51 ∷ 52 ∷ 54 ∷ 59 ∷ 61 ∷ 63 ∷ 65 ∷ 66 ∷ 72 ∷ 98 ∷ 99 ∷ [];
}
sets (PatternAs m) = record {
  first = 10 ∷ [];
  nullable = true;
  follow = 0 ∷ 19 ∷ 22 ∷ 23 ∷ 29 ∷ 30 ∷ 33 ∷ 34 ∷ 38 ∷ 39 ∷ 42 ∷ 44 ∷ 45 ∷ 51 ∷ 52 ∷ 54 ∷ 59 ∷ 61 ∷ 63 ∷ 65 ∷ 66 ∷ 72 ∷ 98 ∷ 99 ∷ [];
}
sets (PatternConcat m) = record {
  first = 1 ∷ 3 ∷ 4 ∷ 5 ∷ 6 ∷ 7 ∷ 12 ∷ 13 ∷ 25 ∷ 49 ∷ 58 ∷ 60 ∷ 64 ∷ 88 ∷ 201 ∷ 202 ∷ [];
  nullable = false;
  follow = 0 ∷ 10 ∷ 19 ∷ 22 ∷ 23 ∷ 29 ∷ 30 ∷ 33 ∷ 34 ∷ 38 ∷ 39 ∷ 42 ∷ 44 ∷ 45 ∷ 51 ∷ 52 ∷ 54 ∷ 59 ∷ 61 ∷ 63 ∷ 65 ∷ 66 ∷ 72 ∷ 98 ∷ 99 ∷ [];
}
sets (PatternAppends m) = record {
  first = 91 ∷ [];
  nullable = true;
  follow = 0 ∷ 10 ∷ 19 ∷ 22 ∷ 23 ∷ 29 ∷ 30 ∷ 33 ∷ 34 ∷ 38 ∷ 39 ∷ 42 ∷ 44 ∷ 45 ∷ 51 ∷ 52 ∷ 54 ∷ 59 ∷ 61 ∷ 63 ∷ 65 ∷ 66 ∷ 72 ∷ 98 ∷ 99 ∷ [];
}
sets (PatternTyped m) = record {
  first = 1 ∷ 3 ∷ 4 ∷ 5 ∷ 6 ∷ 7 ∷ 12 ∷ 13 ∷ 25 ∷ 49 ∷ 58 ∷ 60 ∷ 64 ∷ 88 ∷ 201 ∷ 202 ∷ [];
  nullable = false;
  follow = 0 ∷ 10 ∷ 19 ∷ 22 ∷ 23 ∷ 29 ∷ 30 ∷ 33 ∷ 34 ∷ 38 ∷ 39 ∷ 42 ∷ 44 ∷ 45 ∷ 51 ∷ 52 ∷ 54 ∷ 59 ∷ 61 ∷ 63 ∷ 65 ∷ 66 ∷ 69 ∷ 72 ∷ 91 ∷ 98 ∷ 99 ∷ [];
}
sets (PatternBase m) = record {
  first = 1 ∷ 3 ∷ 4 ∷ 5 ∷ 6 ∷ 7 ∷ 12 ∷ 13 ∷ 25 ∷ 49 ∷ 58 ∷ 60 ∷ 64 ∷ 88 ∷ 201 ∷ 202 ∷ [];
  nullable = false;
  follow = 0 ∷ 10 ∷ 19 ∷ 22 ∷ 23 ∷ 29 ∷ 30 ∷ 33 ∷ 34 ∷ 38 ∷ 39 ∷ 42 ∷ 44 ∷ 45 ∷ 51 ∷ 52 ∷ 54 ∷ 59 ∷ 61 ∷ 63 ∷ 65 ∷ 66 ∷ 68 ∷ 69 ∷ 72 ∷ 91 ∷ 98 ∷ 99 ∷
      [];
}
sets (PatternWildcard m) = record {
  first = 3 ∷ [];
  nullable = false;
  follow = 0 ∷ 10 ∷ 19 ∷ 22 ∷ 23 ∷ 29 ∷ 30 ∷ 33 ∷ 34 ∷ 38 ∷ 39 ∷ 42 ∷ 44 ∷ 45 ∷ 51 ∷ 52 ∷ 54 ∷ 59 ∷ 61 ∷ 63 ∷ 65 ∷ 66 ∷ 68 ∷ 69 ∷ 72 ∷ 91 ∷ 98 ∷ 99 ∷
      [];
}
sets PatternNegative = record {
  first = 88 ∷ [];
  nullable = false;
  follow = 0 ∷ 10 ∷ 19 ∷ 22 ∷ 23 ∷ 29 ∷ 30 ∷ 33 ∷ 34 ∷ 38 ∷ 39 ∷ 42 ∷ 44 ∷ 45 ∷ 51 ∷ 52 ∷ 54 ∷ 59 ∷ 61 ∷ 63 ∷ 65 ∷ 66 ∷ 68 ∷ 69 ∷ 72 ∷ 91 ∷ 98 ∷ 99 ∷
      [];
}
sets (PatternNamed m) = record {
  first = 1 ∷ 202 ∷ [];
  nullable = false;
  follow = 0 ∷ 10 ∷ 19 ∷ 22 ∷ 23 ∷ 29 ∷ 30 ∷ 33 ∷ 34 ∷ 38 ∷ 39 ∷ 42 ∷ 44 ∷ 45 ∷ 51 ∷ 52 ∷ 54 ∷ 59 ∷ 61 ∷ 63 ∷ 65 ∷ 66 ∷ 68 ∷ 69 ∷ 72 ∷ 91 ∷ 98 ∷ 99 ∷
      [];
}
sets (PatternGroup m) = record {
  first = 58 ∷ [];
  nullable = false;
  follow = 0 ∷ 10 ∷ 19 ∷ 22 ∷ 23 ∷ 29 ∷ 30 ∷ 33 ∷ 34 ∷ 38 ∷ 39 ∷ 42 ∷ 44 ∷ 45 ∷ 51 ∷ 52 ∷ 54 ∷ 59 ∷ 61 ∷ 63 ∷ 65 ∷ 66 ∷ 68 ∷ 69 ∷ 72 ∷ 91 ∷ 97 ∷ 98 ∷
      99 ∷ [];
}
sets (PatternVector m) = record {
  first = 60 ∷ [];
  nullable = false;
  follow = 0 ∷ 10 ∷ 19 ∷ 22 ∷ 23 ∷ 29 ∷ 30 ∷ 33 ∷ 34 ∷ 38 ∷ 39 ∷ 42 ∷ 44 ∷ 45 ∷ 51 ∷ 52 ∷ 54 ∷ 59 ∷ 61 ∷ 63 ∷ 65 ∷ 66 ∷ 68 ∷ 69 ∷ 72 ∷ 91 ∷ 98 ∷ 99 ∷
      [];
}
sets (PatternList m) = record {
  first = 64 ∷ [];
  nullable = false;
  follow = 0 ∷ 10 ∷ 19 ∷ 22 ∷ 23 ∷ 29 ∷ 30 ∷ 33 ∷ 34 ∷ 38 ∷ 39 ∷ 42 ∷ 44 ∷ 45 ∷ 51 ∷ 52 ∷ 54 ∷ 59 ∷ 61 ∷ 63 ∷ 65 ∷ 66 ∷ 68 ∷ 69 ∷ 72 ∷ 91 ∷ 98 ∷ 99 ∷
      [];
}
sets (Patterns m) = record {
  first = 1 ∷ 3 ∷ 4 ∷ 5 ∷ 6 ∷ 7 ∷ 12 ∷ 13 ∷ 25 ∷ 49 ∷ 58 ∷ 60 ∷ 64 ∷ 88 ∷ 201 ∷ 202 ∷ [];
  nullable = false;
  follow = 59 ∷ 61 ∷ 65 ∷ [];
}
sets (PatternsTail m) = record { first = 66 ∷ []; nullable = true; follow = 59 ∷ 61 ∷ 65 ∷ [] }
sets (Exp m) = record {
  first = 1 ∷ 4 ∷ 5 ∷ 6 ∷ 7 ∷ 11 ∷ 12 ∷ 13 ∷ 17 ∷ 24 ∷ 25 ∷ 27 ∷ 30 ∷ 33 ∷ 35 ∷ 36 ∷ 40 ∷ 41 ∷ 43 ∷ 44 ∷ 47 ∷ 49 ∷ 50 ∷ 55 ∷ 56 ∷ 58 ∷ 60 ∷ 62 ∷ 64 ∷
      88 ∷ 94 ∷ 201 ∷ 202 ∷ [];
  nullable = false;
  follow = 0 ∷ 14 ∷ 15 ∷ 19 ∷ 20 ∷ 21 ∷ 22 ∷ 23 ∷ 29 ∷ 31 ∷ 33 ∷ 34 ∷ 38 ∷ 39 ∷ 42 ∷ 44 ∷ 45 ∷ 46 ∷ 48 ∷ 51 ∷ 52 ∷ 53 ∷ 54 ∷ 57 ∷ 59 ∷ 61 ∷ 62 ∷ 63 ∷
      65 ∷ 66 ∷ 67 ∷ 71 ∷ 98 ∷ 99 ∷ [];
}
sets (LetIn m) = record {
  first = 33 ∷ [];
  nullable = false;
  follow = 0 ∷ 14 ∷ 15 ∷ 19 ∷ 20 ∷ 21 ∷ 22 ∷ 23 ∷ 29 ∷ 31 ∷ 33 ∷ 34 ∷ 38 ∷ 39 ∷ 42 ∷ 44 ∷ 45 ∷ 46 ∷ 48 ∷ 51 ∷ 52 ∷ 53 ∷ 54 ∷ 57 ∷ 59 ∷ 61 ∷ 62 ∷ 63 ∷
      65 ∷ 66 ∷ 67 ∷ 71 ∷ 98 ∷ 99 ∷ [];
}
sets (VarIn m) = record {
  first = 55 ∷ [];
  nullable = false;
  follow = 0 ∷ 14 ∷ 15 ∷ 19 ∷ 20 ∷ 21 ∷ 22 ∷ 23 ∷ 29 ∷ 31 ∷ 33 ∷ 34 ∷ 38 ∷ 39 ∷ 42 ∷ 44 ∷ 45 ∷ 46 ∷ 48 ∷ 51 ∷ 52 ∷ 53 ∷ 54 ∷ 57 ∷ 59 ∷ 61 ∷ 62 ∷ 63 ∷
      65 ∷ 66 ∷ 67 ∷ 71 ∷ 98 ∷ 99 ∷ [];
}
sets (ExpInner m) = record {
  first = 1 ∷ 4 ∷ 5 ∷ 6 ∷ 7 ∷ 11 ∷ 12 ∷ 13 ∷ 17 ∷ 24 ∷ 25 ∷ 27 ∷ 30 ∷ 35 ∷ 36 ∷ 40 ∷ 41 ∷ 43 ∷ 44 ∷ 47 ∷ 49 ∷ 50 ∷ 56 ∷ 58 ∷ 60 ∷ 62 ∷ 64 ∷ 88 ∷ 94 ∷
      201 ∷ 202 ∷ [];
  nullable = false;
  follow = 0 ∷ 14 ∷ 15 ∷ 19 ∷ 20 ∷ 21 ∷ 22 ∷ 23 ∷ 29 ∷ 31 ∷ 33 ∷ 34 ∷ 38 ∷ 39 ∷ 42 ∷ 44 ∷ 45 ∷ 46 ∷ 48 ∷ 51 ∷ 52 ∷ 53 ∷ 54 ∷ 57 ∷ 59 ∷ 61 ∷ 62 ∷ 63 ∷
      65 ∷ 66 ∷ 67 ∷ 71 ∷ 98 ∷ 99 ∷ [];
}
sets (If m) = record {
  first = 30 ∷ [];
  nullable = false;
  follow = 0 ∷ 14 ∷ 15 ∷ 19 ∷ 20 ∷ 21 ∷ 22 ∷ 23 ∷ 29 ∷ 31 ∷ 33 ∷ 34 ∷ 38 ∷ 39 ∷ 42 ∷ 44 ∷ 45 ∷ 46 ∷ 48 ∷ 51 ∷ 52 ∷ 53 ∷ 54 ∷ 57 ∷ 59 ∷ 61 ∷ 62 ∷ 63 ∷
      65 ∷ 66 ∷ 67 ∷ 71 ∷ 98 ∷ 99 ∷ [];
}
sets (Match m) = record {
  first = 35 ∷ [];
  nullable = false;
  follow = 0 ∷ 14 ∷ 15 ∷ 19 ∷ 20 ∷ 21 ∷ 22 ∷ 23 ∷ 29 ∷ 31 ∷ 33 ∷ 34 ∷ 38 ∷ 39 ∷ 42 ∷ 44 ∷ 45 ∷ 46 ∷ 48 ∷ 51 ∷ 52 ∷ 53 ∷ 54 ∷ 57 ∷ 59 ∷ 61 ∷ 62 ∷ 63 ∷
      65 ∷ 66 ∷ 67 ∷ 71 ∷ 98 ∷ 99 ∷ [];
}
sets (Control m) = record {
  first = 24 ∷ 27 ∷ 40 ∷ 41 ∷ 47 ∷ 50 ∷ 56 ∷ [];
  nullable = false;
  follow = 0 ∷ 14 ∷ 15 ∷ 19 ∷ 20 ∷ 21 ∷ 22 ∷ 23 ∷ 29 ∷ 31 ∷ 33 ∷ 34 ∷ 38 ∷ 39 ∷ 42 ∷ 44 ∷ 45 ∷ 46 ∷ 48 ∷ 51 ∷ 52 ∷ 53 ∷ 54 ∷ 57 ∷ 59 ∷ 61 ∷ 62 ∷ 63 ∷
      65 ∷ 66 ∷ 67 ∷ 71 ∷ 98 ∷ 99 ∷ [];
}
sets Try = record {
  first = 50 ∷ [];
  nullable = false;
  follow = 0 ∷ 14 ∷ 15 ∷ 19 ∷ 20 ∷ 21 ∷ 22 ∷ 23 ∷ 29 ∷ 31 ∷ 33 ∷ 34 ∷ 38 ∷ 39 ∷ 42 ∷ 44 ∷ 45 ∷ 46 ∷ 48 ∷ 51 ∷ 52 ∷ 53 ∷ 54 ∷ 57 ∷ 59 ∷ 61 ∷ 62 ∷ 63 ∷
      65 ∷ 66 ∷ 67 ∷ 71 ∷ 98 ∷ 99 ∷ [];
}
sets Foreach = record {
  first = 27 ∷ [];
  nullable = false;
  follow = 0 ∷ 14 ∷ 15 ∷ 19 ∷ 20 ∷ 21 ∷ 22 ∷ 23 ∷ 29 ∷ 31 ∷ 33 ∷ 34 ∷ 38 ∷ 39 ∷ 42 ∷ 44 ∷ 45 ∷ 46 ∷ 48 ∷ 51 ∷ 52 ∷ 53 ∷ 54 ∷ 57 ∷ 59 ∷ 61 ∷ 62 ∷ 63 ∷
      65 ∷ 66 ∷ 67 ∷ 71 ∷ 98 ∷ 99 ∷ [];
}
sets While = record {
  first = 56 ∷ [];
  nullable = false;
  follow = 0 ∷ 14 ∷ 15 ∷ 19 ∷ 20 ∷ 21 ∷ 22 ∷ 23 ∷ 29 ∷ 31 ∷ 33 ∷ 34 ∷ 38 ∷ 39 ∷ 42 ∷ 44 ∷ 45 ∷ 46 ∷ 48 ∷ 51 ∷ 52 ∷ 53 ∷ 54 ∷ 57 ∷ 59 ∷ 61 ∷ 62 ∷ 63 ∷
      65 ∷ 66 ∷ 67 ∷ 71 ∷ 98 ∷ 99 ∷ [];
}
sets Repeat = record {
  first = 40 ∷ [];
  nullable = false;
  follow = 0 ∷ 14 ∷ 15 ∷ 19 ∷ 20 ∷ 21 ∷ 22 ∷ 23 ∷ 29 ∷ 31 ∷ 33 ∷ 34 ∷ 38 ∷ 39 ∷ 42 ∷ 44 ∷ 45 ∷ 46 ∷ 48 ∷ 51 ∷ 52 ∷ 53 ∷ 54 ∷ 57 ∷ 59 ∷ 61 ∷ 62 ∷ 63 ∷
      65 ∷ 66 ∷ 67 ∷ 71 ∷ 98 ∷ 99 ∷ [];
}
sets Leave = record {
  first = 24 ∷ 41 ∷ 47 ∷ [];
  nullable = false;
  follow = 0 ∷ 14 ∷ 15 ∷ 19 ∷ 20 ∷ 21 ∷ 22 ∷ 23 ∷ 29 ∷ 31 ∷ 33 ∷ 34 ∷ 38 ∷ 39 ∷ 42 ∷ 44 ∷ 45 ∷ 46 ∷ 48 ∷ 51 ∷ 52 ∷ 53 ∷ 54 ∷ 57 ∷ 59 ∷ 61 ∷ 62 ∷ 63 ∷
      65 ∷ 66 ∷ 67 ∷ 71 ∷ 98 ∷ 99 ∷ [];
}
sets LoopMeasure = record {
  first = 45 ∷ [];
  nullable = true;
  follow = 1 ∷ 4 ∷ 5 ∷ 6 ∷ 7 ∷ 11 ∷ 12 ∷ 13 ∷ 17 ∷ 24 ∷ 25 ∷ 27 ∷ 30 ∷ 33 ∷ 35 ∷ 36 ∷ 40 ∷ 41 ∷ 43 ∷ 44 ∷ 47 ∷ 49 ∷ 50 ∷ 55 ∷ 56 ∷ 58 ∷ 60 ∷ 62 ∷ 64 ∷
      88 ∷ 94 ∷ 201 ∷ 202 ∷ [];
}
sets (Assignment m) = record {
  first = 1 ∷ 4 ∷ 5 ∷ 6 ∷ 7 ∷ 11 ∷ 12 ∷ 13 ∷ 17 ∷ 25 ∷ 36 ∷ 43 ∷ 44 ∷ 49 ∷ 58 ∷ 60 ∷ 62 ∷ 64 ∷ 88 ∷ 94 ∷ 201 ∷ 202 ∷ [];
  nullable = false;
  follow = 0 ∷ 14 ∷ 15 ∷ 19 ∷ 20 ∷ 21 ∷ 22 ∷ 23 ∷ 29 ∷ 31 ∷ 33 ∷ 34 ∷ 38 ∷ 39 ∷ 42 ∷ 44 ∷ 45 ∷ 46 ∷ 48 ∷ 51 ∷ 52 ∷ 53 ∷ 54 ∷ 57 ∷ 59 ∷ 61 ∷ 62 ∷ 63 ∷
      65 ∷ 66 ∷ 67 ∷ 71 ∷ 98 ∷ 99 ∷ [];
}
sets (Cases m) = record {
  first = 62 ∷ [];
  nullable = false;
  follow = 0 ∷ 14 ∷ 15 ∷ 19 ∷ 20 ∷ 21 ∷ 22 ∷ 23 ∷ 29 ∷ 31 ∷ 33 ∷ 34 ∷ 38 ∷ 39 ∷ 42 ∷ 44 ∷ 45 ∷ 46 ∷ 48 ∷ 51 ∷ 52 ∷ 53 ∷ 54 ∷ 57 ∷ 59 ∷ 61 ∷ 62 ∷ 63 ∷
      65 ∷ 66 ∷ 67 ∷ 71 ∷ 98 ∷ 99 ∷ [];
}
sets (CasesTail m) = record {
  first = 63 ∷ 66 ∷ [];
  nullable = false;
  follow = 0 ∷ 14 ∷ 15 ∷ 19 ∷ 20 ∷ 21 ∷ 22 ∷ 23 ∷ 29 ∷ 31 ∷ 33 ∷ 34 ∷ 38 ∷ 39 ∷ 42 ∷ 44 ∷ 45 ∷ 46 ∷ 48 ∷ 51 ∷ 52 ∷ 53 ∷ 54 ∷ 57 ∷ 59 ∷ 61 ∷ 62 ∷ 63 ∷
      65 ∷ 66 ∷ 67 ∷ 71 ∷ 98 ∷ 99 ∷ [];
}
sets (CasesMore m) = record {
  first = 1 ∷ 3 ∷ 4 ∷ 5 ∷ 6 ∷ 7 ∷ 12 ∷ 13 ∷ 25 ∷ 49 ∷ 58 ∷ 60 ∷ 63 ∷ 64 ∷ 88 ∷ 201 ∷ 202 ∷ [];
  nullable = false;
  follow = 0 ∷ 14 ∷ 15 ∷ 19 ∷ 20 ∷ 21 ∷ 22 ∷ 23 ∷ 29 ∷ 31 ∷ 33 ∷ 34 ∷ 38 ∷ 39 ∷ 42 ∷ 44 ∷ 45 ∷ 46 ∷ 48 ∷ 51 ∷ 52 ∷ 53 ∷ 54 ∷ 57 ∷ 59 ∷ 61 ∷ 62 ∷ 63 ∷
      65 ∷ 66 ∷ 67 ∷ 71 ∷ 98 ∷ 99 ∷ [];
}
sets (Case m) = record {
  first = 1 ∷ 3 ∷ 4 ∷ 5 ∷ 6 ∷ 7 ∷ 12 ∷ 13 ∷ 25 ∷ 49 ∷ 58 ∷ 60 ∷ 64 ∷ 88 ∷ 201 ∷ 202 ∷ [];
  nullable = false;
  follow = 63 ∷ 66 ∷ [];
}
sets (Infix m) = record {
  first = 1 ∷ 4 ∷ 5 ∷ 6 ∷ 7 ∷ 11 ∷ 12 ∷ 13 ∷ 17 ∷ 25 ∷ 36 ∷ 43 ∷ 44 ∷ 49 ∷ 58 ∷ 60 ∷ 62 ∷ 64 ∷ 88 ∷ 94 ∷ 201 ∷ 202 ∷ [];
  nullable = false;
  follow = 0 ∷ 14 ∷ 15 ∷ 19 ∷ 20 ∷ 21 ∷ 22 ∷ 23 ∷ 29 ∷ 31 ∷ 33 ∷ 34 ∷ 38 ∷ 39 ∷ 42 ∷ 44 ∷ 45 ∷ 46 ∷ 48 ∷ 51 ∷ 52 ∷ 53 ∷ 54 ∷ 57 ∷ 59 ∷ 61 ∷ 62 ∷ 63 ∷
      65 ∷ 66 ∷ 67 ∷ 68 ∷ 71 ∷ 72 ∷ 98 ∷ 99 ∷ [];
}
sets (InfixAnd m) = record {
  first = 1 ∷ 4 ∷ 5 ∷ 6 ∷ 7 ∷ 11 ∷ 12 ∷ 13 ∷ 17 ∷ 25 ∷ 36 ∷ 43 ∷ 44 ∷ 49 ∷ 58 ∷ 60 ∷ 62 ∷ 64 ∷ 88 ∷ 94 ∷ 201 ∷ 202 ∷ [];
  nullable = false;
  follow = 0 ∷ 14 ∷ 15 ∷ 19 ∷ 20 ∷ 21 ∷ 22 ∷ 23 ∷ 29 ∷ 31 ∷ 33 ∷ 34 ∷ 38 ∷ 39 ∷ 42 ∷ 44 ∷ 45 ∷ 46 ∷ 48 ∷ 51 ∷ 52 ∷ 53 ∷ 54 ∷ 57 ∷ 59 ∷ 61 ∷ 62 ∷ 63 ∷
      65 ∷ 66 ∷ 67 ∷ 68 ∷ 71 ∷ 72 ∷ 93 ∷ 98 ∷ 99 ∷ [];
}
sets (InfixComparison m) = record {
  first = 1 ∷ 4 ∷ 5 ∷ 6 ∷ 7 ∷ 11 ∷ 12 ∷ 13 ∷ 17 ∷ 25 ∷ 36 ∷ 43 ∷ 44 ∷ 49 ∷ 58 ∷ 60 ∷ 62 ∷ 64 ∷ 88 ∷ 94 ∷ 201 ∷ 202 ∷ [];
  nullable = false;
  follow = 0 ∷ 14 ∷ 15 ∷ 19 ∷ 20 ∷ 21 ∷ 22 ∷ 23 ∷ 29 ∷ 31 ∷ 33 ∷ 34 ∷ 38 ∷ 39 ∷ 42 ∷ 44 ∷ 45 ∷ 46 ∷ 48 ∷ 51 ∷ 52 ∷ 53 ∷ 54 ∷ 57 ∷ 59 ∷ 61 ∷ 62 ∷ 63 ∷
      65 ∷ 66 ∷ 67 ∷ 68 ∷ 71 ∷ 72 ∷ 92 ∷ 93 ∷ 98 ∷ 99 ∷ [];
}
sets (InfixAppend m) = record {
  first = 1 ∷ 4 ∷ 5 ∷ 6 ∷ 7 ∷ 11 ∷ 12 ∷ 13 ∷ 17 ∷ 25 ∷ 36 ∷ 43 ∷ 44 ∷ 49 ∷ 58 ∷ 60 ∷ 62 ∷ 64 ∷ 88 ∷ 94 ∷ 201 ∷ 202 ∷ [];
  nullable = false;
  follow = 0 ∷ 14 ∷ 15 ∷ 19 ∷ 20 ∷ 21 ∷ 22 ∷ 23 ∷ 29 ∷ 31 ∷ 33 ∷ 34 ∷ 38 ∷ 39 ∷ 42 ∷ 44 ∷ 45 ∷ 46 ∷ 48 ∷ 51 ∷ 52 ∷ 53 ∷ 54 ∷ 57 ∷ 59 ∷ 61 ∷ 62 ∷ 63 ∷
      65 ∷ 66 ∷ 67 ∷ 68 ∷ 71 ∷ 72 ∷ 73 ∷ 74 ∷ 75 ∷ 76 ∷ 77 ∷ 78 ∷ 79 ∷ 80 ∷ 81 ∷ 82 ∷ 83 ∷ 84 ∷ 85 ∷ 86 ∷ 92 ∷ 93 ∷ 98 ∷ 99 ∷ [];
}
sets (InfixSum m) = record {
  first = 1 ∷ 4 ∷ 5 ∷ 6 ∷ 7 ∷ 11 ∷ 12 ∷ 13 ∷ 17 ∷ 25 ∷ 36 ∷ 43 ∷ 44 ∷ 49 ∷ 58 ∷ 60 ∷ 62 ∷ 64 ∷ 88 ∷ 94 ∷ 201 ∷ 202 ∷ [];
  nullable = false;
  follow = 0 ∷ 14 ∷ 15 ∷ 19 ∷ 20 ∷ 21 ∷ 22 ∷ 23 ∷ 29 ∷ 31 ∷ 33 ∷ 34 ∷ 38 ∷ 39 ∷ 42 ∷ 44 ∷ 45 ∷ 46 ∷ 48 ∷ 51 ∷ 52 ∷ 53 ∷ 54 ∷ 57 ∷ 59 ∷ 61 ∷ 62 ∷ 63 ∷
      65 ∷ 66 ∷ 67 ∷ 68 ∷ 69 ∷ 71 ∷ 72 ∷ 73 ∷ 74 ∷ 75 ∷ 76 ∷ 77 ∷ 78 ∷ 79 ∷ 80 ∷ 81 ∷ 82 ∷ 83 ∷ 84 ∷ 85 ∷ 86 ∷ 91 ∷ 92 ∷ 93 ∷ 98 ∷ 99 ∷ [];
}
sets (InfixSumMore m) = record {
  first = 87 ∷ 88 ∷ [];
  nullable = true;
  follow = 0 ∷ 14 ∷ 15 ∷ 19 ∷ 20 ∷ 21 ∷ 22 ∷ 23 ∷ 29 ∷ 31 ∷ 33 ∷ 34 ∷ 38 ∷ 39 ∷ 42 ∷ 44 ∷ 45 ∷ 46 ∷ 48 ∷ 51 ∷ 52 ∷ 53 ∷ 54 ∷ 57 ∷ 59 ∷ 61 ∷ 62 ∷ 63 ∷
      65 ∷ 66 ∷ 67 ∷ 68 ∷ 69 ∷ 71 ∷ 72 ∷ 73 ∷ 74 ∷ 75 ∷ 76 ∷ 77 ∷ 78 ∷ 79 ∷ 80 ∷ 81 ∷ 82 ∷ 83 ∷ 84 ∷ 85 ∷ 86 ∷ 91 ∷ 92 ∷ 93 ∷ 98 ∷ 99 ∷ [];
}
sets (InfixProduct m) = record {
  first = 1 ∷ 4 ∷ 5 ∷ 6 ∷ 7 ∷ 11 ∷ 12 ∷ 13 ∷ 17 ∷ 25 ∷ 36 ∷ 43 ∷ 44 ∷ 49 ∷ 58 ∷ 60 ∷ 62 ∷ 64 ∷ 88 ∷ 94 ∷ 201 ∷ 202 ∷ [];
  nullable = false;
  follow = 0 ∷ 14 ∷ 15 ∷ 19 ∷ 20 ∷ 21 ∷ 22 ∷ 23 ∷ 29 ∷ 31 ∷ 33 ∷ 34 ∷ 38 ∷ 39 ∷ 42 ∷ 44 ∷ 45 ∷ 46 ∷ 48 ∷ 51 ∷ 52 ∷ 53 ∷ 54 ∷ 57 ∷ 59 ∷ 61 ∷ 62 ∷ 63 ∷
      65 ∷ 66 ∷ 67 ∷ 68 ∷ 69 ∷ 71 ∷ 72 ∷ 73 ∷ 74 ∷ 75 ∷ 76 ∷ 77 ∷ 78 ∷ 79 ∷ 80 ∷ 81 ∷ 82 ∷ 83 ∷ 84 ∷ 85 ∷ 86 ∷ 87 ∷ 88 ∷ 91 ∷ 92 ∷ 93 ∷ 98 ∷ 99 ∷
      [];
}
sets (InfixProductMore m) = record {
  first = 89 ∷ 95 ∷ 96 ∷ [];
  nullable = true;
  follow = 0 ∷ 14 ∷ 15 ∷ 19 ∷ 20 ∷ 21 ∷ 22 ∷ 23 ∷ 29 ∷ 31 ∷ 33 ∷ 34 ∷ 38 ∷ 39 ∷ 42 ∷ 44 ∷ 45 ∷ 46 ∷ 48 ∷ 51 ∷ 52 ∷ 53 ∷ 54 ∷ 57 ∷ 59 ∷ 61 ∷ 62 ∷ 63 ∷
      65 ∷ 66 ∷ 67 ∷ 68 ∷ 69 ∷ 71 ∷ 72 ∷ 73 ∷ 74 ∷ 75 ∷ 76 ∷ 77 ∷ 78 ∷ 79 ∷ 80 ∷ 81 ∷ 82 ∷ 83 ∷ 84 ∷ 85 ∷ 86 ∷ 87 ∷ 88 ∷ 91 ∷ 92 ∷ 93 ∷ 98 ∷ 99 ∷
      [];
}
sets (InfixPower m) = record {
  first = 1 ∷ 4 ∷ 5 ∷ 6 ∷ 7 ∷ 11 ∷ 12 ∷ 13 ∷ 17 ∷ 25 ∷ 36 ∷ 43 ∷ 44 ∷ 49 ∷ 58 ∷ 60 ∷ 62 ∷ 64 ∷ 88 ∷ 94 ∷ 201 ∷ 202 ∷ [];
  nullable = false;
  follow = 0 ∷ 14 ∷ 15 ∷ 19 ∷ 20 ∷ 21 ∷ 22 ∷ 23 ∷ 29 ∷ 31 ∷ 33 ∷ 34 ∷ 38 ∷ 39 ∷ 42 ∷ 44 ∷ 45 ∷ 46 ∷ 48 ∷ 51 ∷ 52 ∷ 53 ∷ 54 ∷ 57 ∷ 59 ∷ 61 ∷ 62 ∷ 63 ∷
      65 ∷ 66 ∷ 67 ∷ 68 ∷ 69 ∷ 71 ∷ 72 ∷ 73 ∷ 74 ∷ 75 ∷ 76 ∷ 77 ∷ 78 ∷ 79 ∷ 80 ∷ 81 ∷ 82 ∷ 83 ∷ 84 ∷ 85 ∷ 86 ∷ 87 ∷ 88 ∷ 89 ∷ 91 ∷ 92 ∷ 93 ∷ 95 ∷
      96 ∷ 98 ∷ 99 ∷ [];
}
sets (Unary m) = record {
  first = 1 ∷ 4 ∷ 5 ∷ 6 ∷ 7 ∷ 11 ∷ 12 ∷ 13 ∷ 17 ∷ 25 ∷ 36 ∷ 43 ∷ 44 ∷ 49 ∷ 58 ∷ 60 ∷ 62 ∷ 64 ∷ 88 ∷ 94 ∷ 201 ∷ 202 ∷ [];
  nullable = false;
  follow = 0 ∷ 14 ∷ 15 ∷ 19 ∷ 20 ∷ 21 ∷ 22 ∷ 23 ∷ 29 ∷ 31 ∷ 33 ∷ 34 ∷ 38 ∷ 39 ∷ 42 ∷ 44 ∷ 45 ∷ 46 ∷ 48 ∷ 51 ∷ 52 ∷ 53 ∷ 54 ∷ 57 ∷ 59 ∷ 61 ∷ 62 ∷ 63 ∷
      65 ∷ 66 ∷ 67 ∷ 68 ∷ 69 ∷ 71 ∷ 72 ∷ 73 ∷ 74 ∷ 75 ∷ 76 ∷ 77 ∷ 78 ∷ 79 ∷ 80 ∷ 81 ∷ 82 ∷ 83 ∷ 84 ∷ 85 ∷ 86 ∷ 87 ∷ 88 ∷ 89 ∷ 90 ∷ 91 ∷ 92 ∷ 93 ∷
      95 ∷ 96 ∷ 98 ∷ 99 ∷ [];
}
sets (Negation m) = record {
  first = 88 ∷ [];
  nullable = false;
  follow = 0 ∷ 14 ∷ 15 ∷ 19 ∷ 20 ∷ 21 ∷ 22 ∷ 23 ∷ 29 ∷ 31 ∷ 33 ∷ 34 ∷ 38 ∷ 39 ∷ 42 ∷ 44 ∷ 45 ∷ 46 ∷ 48 ∷ 51 ∷ 52 ∷ 53 ∷ 54 ∷ 57 ∷ 59 ∷ 61 ∷ 62 ∷ 63 ∷
      65 ∷ 66 ∷ 67 ∷ 68 ∷ 69 ∷ 71 ∷ 72 ∷ 73 ∷ 74 ∷ 75 ∷ 76 ∷ 77 ∷ 78 ∷ 79 ∷ 80 ∷ 81 ∷ 82 ∷ 83 ∷ 84 ∷ 85 ∷ 86 ∷ 87 ∷ 88 ∷ 89 ∷ 90 ∷ 91 ∷ 92 ∷ 93 ∷
      95 ∷ 96 ∷ 98 ∷ 99 ∷ [];
}
sets (Power m) = record {
  first = 201 ∷ [];
  nullable = false;
  follow = 0 ∷ 14 ∷ 15 ∷ 19 ∷ 20 ∷ 21 ∷ 22 ∷ 23 ∷ 29 ∷ 31 ∷ 33 ∷ 34 ∷ 38 ∷ 39 ∷ 42 ∷ 44 ∷ 45 ∷ 46 ∷ 48 ∷ 51 ∷ 52 ∷ 53 ∷ 54 ∷ 57 ∷ 59 ∷ 61 ∷ 62 ∷ 63 ∷
      65 ∷ 66 ∷ 67 ∷ 68 ∷ 69 ∷ 71 ∷ 72 ∷ 73 ∷ 74 ∷ 75 ∷ 76 ∷ 77 ∷ 78 ∷ 79 ∷ 80 ∷ 81 ∷ 82 ∷ 83 ∷ 84 ∷ 85 ∷ 86 ∷ 87 ∷ 88 ∷ 89 ∷ 90 ∷ 91 ∷ 92 ∷ 93 ∷
      95 ∷ 96 ∷ 98 ∷ 99 ∷ [];
}
sets (Postfix m) = record {
  first = 1 ∷ 4 ∷ 5 ∷ 6 ∷ 7 ∷ 11 ∷ 12 ∷ 13 ∷ 17 ∷ 25 ∷ 36 ∷ 43 ∷ 44 ∷ 49 ∷ 58 ∷ 60 ∷ 62 ∷ 64 ∷ 94 ∷ 202 ∷ [];
  nullable = false;
  follow = 0 ∷ 14 ∷ 15 ∷ 19 ∷ 20 ∷ 21 ∷ 22 ∷ 23 ∷ 29 ∷ 31 ∷ 33 ∷ 34 ∷ 38 ∷ 39 ∷ 42 ∷ 44 ∷ 45 ∷ 46 ∷ 48 ∷ 51 ∷ 52 ∷ 53 ∷ 54 ∷ 57 ∷ 59 ∷ 61 ∷ 62 ∷ 63 ∷
      65 ∷ 66 ∷ 67 ∷ 68 ∷ 69 ∷ 71 ∷ 72 ∷ 73 ∷ 74 ∷ 75 ∷ 76 ∷ 77 ∷ 78 ∷ 79 ∷ 80 ∷ 81 ∷ 82 ∷ 83 ∷ 84 ∷ 85 ∷ 86 ∷ 87 ∷ 88 ∷ 89 ∷ 90 ∷ 91 ∷ 92 ∷ 93 ∷
      95 ∷ 96 ∷ 98 ∷ 99 ∷ [];
}
sets (Suffixes m) = record {
  first = 60 ∷ 70 ∷ [];
  nullable = true;
  follow = 0 ∷ 14 ∷ 15 ∷ 19 ∷ 20 ∷ 21 ∷ 22 ∷ 23 ∷ 29 ∷ 31 ∷ 33 ∷ 34 ∷ 38 ∷ 39 ∷ 42 ∷ 44 ∷ 45 ∷ 46 ∷ 48 ∷ 51 ∷ 52 ∷ 53 ∷ 54 ∷ 57 ∷ 59 ∷ 61 ∷ 62 ∷ 63 ∷
      65 ∷ 66 ∷ 67 ∷ 68 ∷ 69 ∷ 71 ∷ 72 ∷ 73 ∷ 74 ∷ 75 ∷ 76 ∷ 77 ∷ 78 ∷ 79 ∷ 80 ∷ 81 ∷ 82 ∷ 83 ∷ 84 ∷ 85 ∷ 86 ∷ 87 ∷ 88 ∷ 89 ∷ 90 ∷ 91 ∷ 92 ∷ 93 ∷
      95 ∷ 96 ∷ 98 ∷ 99 ∷ [];
}
sets (Suffix m) = record {
  first = 60 ∷ 70 ∷ [];
  nullable = false;
  follow = 0 ∷ 14 ∷ 15 ∷ 19 ∷ 20 ∷ 21 ∷ 22 ∷ 23 ∷ 29 ∷ 31 ∷ 33 ∷ 34 ∷ 38 ∷ 39 ∷ 42 ∷ 44 ∷ 45 ∷ 46 ∷ 48 ∷ 51 ∷ 52 ∷ 53 ∷ 54 ∷ 57 ∷ 59 ∷ 60 ∷ 61 ∷ 62 ∷
      63 ∷ 65 ∷ 66 ∷ 67 ∷ 68 ∷ 69 ∷ 70 ∷ 71 ∷ 72 ∷ 73 ∷ 74 ∷ 75 ∷ 76 ∷ 77 ∷ 78 ∷ 79 ∷ 80 ∷ 81 ∷ 82 ∷ 83 ∷ 84 ∷ 85 ∷ 86 ∷ 87 ∷ 88 ∷ 89 ∷ 90 ∷ 91 ∷
      92 ∷ 93 ∷ 95 ∷ 96 ∷ 98 ∷ 99 ∷ [];
}
sets (Index m) = record {
  first = 60 ∷ [];
  nullable = false;
  follow = 0 ∷ 14 ∷ 15 ∷ 19 ∷ 20 ∷ 21 ∷ 22 ∷ 23 ∷ 29 ∷ 31 ∷ 33 ∷ 34 ∷ 38 ∷ 39 ∷ 42 ∷ 44 ∷ 45 ∷ 46 ∷ 48 ∷ 51 ∷ 52 ∷ 53 ∷ 54 ∷ 57 ∷ 59 ∷ 60 ∷ 61 ∷ 62 ∷
      63 ∷ 65 ∷ 66 ∷ 67 ∷ 68 ∷ 69 ∷ 70 ∷ 71 ∷ 72 ∷ 73 ∷ 74 ∷ 75 ∷ 76 ∷ 77 ∷ 78 ∷ 79 ∷ 80 ∷ 81 ∷ 82 ∷ 83 ∷ 84 ∷ 85 ∷ 86 ∷ 87 ∷ 88 ∷ 89 ∷ 90 ∷ 91 ∷
      92 ∷ 93 ∷ 95 ∷ 96 ∷ 98 ∷ 99 ∷ [];
}
sets (Atom m) = record {
  first = 1 ∷ 4 ∷ 5 ∷ 6 ∷ 7 ∷ 11 ∷ 12 ∷ 13 ∷ 17 ∷ 25 ∷ 36 ∷ 43 ∷ 44 ∷ 49 ∷ 58 ∷ 60 ∷ 62 ∷ 64 ∷ 94 ∷ 202 ∷ [];
  nullable = false;
  follow = 0 ∷ 14 ∷ 15 ∷ 19 ∷ 20 ∷ 21 ∷ 22 ∷ 23 ∷ 29 ∷ 31 ∷ 33 ∷ 34 ∷ 38 ∷ 39 ∷ 42 ∷ 44 ∷ 45 ∷ 46 ∷ 48 ∷ 51 ∷ 52 ∷ 53 ∷ 54 ∷ 57 ∷ 59 ∷ 60 ∷ 61 ∷ 62 ∷
      63 ∷ 65 ∷ 66 ∷ 67 ∷ 68 ∷ 69 ∷ 70 ∷ 71 ∷ 72 ∷ 73 ∷ 74 ∷ 75 ∷ 76 ∷ 77 ∷ 78 ∷ 79 ∷ 80 ∷ 81 ∷ 82 ∷ 83 ∷ 84 ∷ 85 ∷ 86 ∷ 87 ∷ 88 ∷ 89 ∷ 90 ∷ 91 ∷
      92 ∷ 93 ∷ 95 ∷ 96 ∷ 98 ∷ 99 ∷ [];
}
sets (NamedExp m) = record {
  first = 1 ∷ 202 ∷ [];
  nullable = false;
  follow = 0 ∷ 14 ∷ 15 ∷ 19 ∷ 20 ∷ 21 ∷ 22 ∷ 23 ∷ 29 ∷ 31 ∷ 33 ∷ 34 ∷ 38 ∷ 39 ∷ 42 ∷ 44 ∷ 45 ∷ 46 ∷ 48 ∷ 51 ∷ 52 ∷ 53 ∷ 54 ∷ 57 ∷ 59 ∷ 60 ∷ 61 ∷ 62 ∷
      63 ∷ 65 ∷ 66 ∷ 67 ∷ 68 ∷ 69 ∷ 70 ∷ 71 ∷ 72 ∷ 73 ∷ 74 ∷ 75 ∷ 76 ∷ 77 ∷ 78 ∷ 79 ∷ 80 ∷ 81 ∷ 82 ∷ 83 ∷ 84 ∷ 85 ∷ 86 ∷ 87 ∷ 88 ∷ 89 ∷ 90 ∷ 91 ∷
      92 ∷ 93 ∷ 95 ∷ 96 ∷ 98 ∷ 99 ∷ [];
}
sets (Arguments m) = record {
  first = 1 ∷ 4 ∷ 5 ∷ 6 ∷ 7 ∷ 11 ∷ 12 ∷ 13 ∷ 17 ∷ 24 ∷ 25 ∷ 27 ∷ 30 ∷ 33 ∷ 35 ∷ 36 ∷ 40 ∷ 41 ∷ 43 ∷ 44 ∷ 47 ∷ 49 ∷ 50 ∷ 55 ∷ 56 ∷ 58 ∷ 59 ∷ 60 ∷ 62 ∷
      64 ∷ 88 ∷ 94 ∷ 201 ∷ 202 ∷ [];
  nullable = false;
  follow = 0 ∷ 14 ∷ 15 ∷ 19 ∷ 20 ∷ 21 ∷ 22 ∷ 23 ∷ 29 ∷ 31 ∷ 33 ∷ 34 ∷ 38 ∷ 39 ∷ 42 ∷ 44 ∷ 45 ∷ 46 ∷ 48 ∷ 51 ∷ 52 ∷ 53 ∷ 54 ∷ 57 ∷ 59 ∷ 60 ∷ 61 ∷ 62 ∷
      63 ∷ 65 ∷ 66 ∷ 67 ∷ 68 ∷ 69 ∷ 70 ∷ 71 ∷ 72 ∷ 73 ∷ 74 ∷ 75 ∷ 76 ∷ 77 ∷ 78 ∷ 79 ∷ 80 ∷ 81 ∷ 82 ∷ 83 ∷ 84 ∷ 85 ∷ 86 ∷ 87 ∷ 88 ∷ 89 ∷ 90 ∷ 91 ∷
      92 ∷ 93 ∷ 95 ∷ 96 ∷ 98 ∷ 99 ∷ [];
}
sets (PrefixCall m) = record {
  first = 36 ∷ 94 ∷ [];
  nullable = false;
  follow = 0 ∷ 14 ∷ 15 ∷ 19 ∷ 20 ∷ 21 ∷ 22 ∷ 23 ∷ 29 ∷ 31 ∷ 33 ∷ 34 ∷ 38 ∷ 39 ∷ 42 ∷ 44 ∷ 45 ∷ 46 ∷ 48 ∷ 51 ∷ 52 ∷ 53 ∷ 54 ∷ 57 ∷ 59 ∷ 60 ∷ 61 ∷ 62 ∷
      63 ∷ 65 ∷ 66 ∷ 67 ∷ 68 ∷ 69 ∷ 70 ∷ 71 ∷ 72 ∷ 73 ∷ 74 ∷ 75 ∷ 76 ∷ 77 ∷ 78 ∷ 79 ∷ 80 ∷ 81 ∷ 82 ∷ 83 ∷ 84 ∷ 85 ∷ 86 ∷ 87 ∷ 88 ∷ 89 ∷ 90 ∷ 91 ∷
      92 ∷ 93 ∷ 95 ∷ 96 ∷ 98 ∷ 99 ∷ [];
}
sets (GroupExp m) = record {
  first = 58 ∷ [];
  nullable = false;
  follow = 0 ∷ 14 ∷ 15 ∷ 19 ∷ 20 ∷ 21 ∷ 22 ∷ 23 ∷ 29 ∷ 31 ∷ 33 ∷ 34 ∷ 38 ∷ 39 ∷ 42 ∷ 44 ∷ 45 ∷ 46 ∷ 48 ∷ 51 ∷ 52 ∷ 53 ∷ 54 ∷ 57 ∷ 59 ∷ 60 ∷ 61 ∷ 62 ∷
      63 ∷ 65 ∷ 66 ∷ 67 ∷ 68 ∷ 69 ∷ 70 ∷ 71 ∷ 72 ∷ 73 ∷ 74 ∷ 75 ∷ 76 ∷ 77 ∷ 78 ∷ 79 ∷ 80 ∷ 81 ∷ 82 ∷ 83 ∷ 84 ∷ 85 ∷ 86 ∷ 87 ∷ 88 ∷ 89 ∷ 90 ∷ 91 ∷
      92 ∷ 93 ∷ 95 ∷ 96 ∷ 98 ∷ 99 ∷ [];
}
sets (VectorExp m) = record {
  first = 60 ∷ [];
  nullable = false;
  follow = 0 ∷ 14 ∷ 15 ∷ 19 ∷ 20 ∷ 21 ∷ 22 ∷ 23 ∷ 29 ∷ 31 ∷ 33 ∷ 34 ∷ 38 ∷ 39 ∷ 42 ∷ 44 ∷ 45 ∷ 46 ∷ 48 ∷ 51 ∷ 52 ∷ 53 ∷ 54 ∷ 57 ∷ 59 ∷ 60 ∷ 61 ∷ 62 ∷
      63 ∷ 65 ∷ 66 ∷ 67 ∷ 68 ∷ 69 ∷ 70 ∷ 71 ∷ 72 ∷ 73 ∷ 74 ∷ 75 ∷ 76 ∷ 77 ∷ 78 ∷ 79 ∷ 80 ∷ 81 ∷ 82 ∷ 83 ∷ 84 ∷ 85 ∷ 86 ∷ 87 ∷ 88 ∷ 89 ∷ 90 ∷ 91 ∷
      92 ∷ 93 ∷ 95 ∷ 96 ∷ 98 ∷ 99 ∷ [];
}
sets (Update m) = record { first = 57 ∷ []; nullable = false; follow = 61 ∷ [] }
sets (ListExp m) = record {
  first = 64 ∷ [];
  nullable = false;
  follow = 0 ∷ 14 ∷ 15 ∷ 19 ∷ 20 ∷ 21 ∷ 22 ∷ 23 ∷ 29 ∷ 31 ∷ 33 ∷ 34 ∷ 38 ∷ 39 ∷ 42 ∷ 44 ∷ 45 ∷ 46 ∷ 48 ∷ 51 ∷ 52 ∷ 53 ∷ 54 ∷ 57 ∷ 59 ∷ 60 ∷ 61 ∷ 62 ∷
      63 ∷ 65 ∷ 66 ∷ 67 ∷ 68 ∷ 69 ∷ 70 ∷ 71 ∷ 72 ∷ 73 ∷ 74 ∷ 75 ∷ 76 ∷ 77 ∷ 78 ∷ 79 ∷ 80 ∷ 81 ∷ 82 ∷ 83 ∷ 84 ∷ 85 ∷ 86 ∷ 87 ∷ 88 ∷ 89 ∷ 90 ∷ 91 ∷
      92 ∷ 93 ∷ 95 ∷ 96 ∷ 98 ∷ 99 ∷ [];
}
sets (StructExp m) = record {
  first = 44 ∷ [];
  nullable = false;
  follow = 0 ∷ 14 ∷ 15 ∷ 19 ∷ 20 ∷ 21 ∷ 22 ∷ 23 ∷ 29 ∷ 31 ∷ 33 ∷ 34 ∷ 38 ∷ 39 ∷ 42 ∷ 44 ∷ 45 ∷ 46 ∷ 48 ∷ 51 ∷ 52 ∷ 53 ∷ 54 ∷ 57 ∷ 59 ∷ 60 ∷ 61 ∷ 62 ∷
      63 ∷ 65 ∷ 66 ∷ 67 ∷ 68 ∷ 69 ∷ 70 ∷ 71 ∷ 72 ∷ 73 ∷ 74 ∷ 75 ∷ 76 ∷ 77 ∷ 78 ∷ 79 ∷ 80 ∷ 81 ∷ 82 ∷ 83 ∷ 84 ∷ 85 ∷ 86 ∷ 87 ∷ 88 ∷ 89 ∷ 90 ∷ 91 ∷
      92 ∷ 93 ∷ 95 ∷ 96 ∷ 98 ∷ 99 ∷ [];
}
sets TypeQuestion = record {
  first = 17 ∷ 43 ∷ [];
  nullable = false;
  follow = 0 ∷ 14 ∷ 15 ∷ 19 ∷ 20 ∷ 21 ∷ 22 ∷ 23 ∷ 29 ∷ 31 ∷ 33 ∷ 34 ∷ 38 ∷ 39 ∷ 42 ∷ 44 ∷ 45 ∷ 46 ∷ 48 ∷ 51 ∷ 52 ∷ 53 ∷ 54 ∷ 57 ∷ 59 ∷ 60 ∷ 61 ∷ 62 ∷
      63 ∷ 65 ∷ 66 ∷ 67 ∷ 68 ∷ 69 ∷ 70 ∷ 71 ∷ 72 ∷ 73 ∷ 74 ∷ 75 ∷ 76 ∷ 77 ∷ 78 ∷ 79 ∷ 80 ∷ 81 ∷ 82 ∷ 83 ∷ 84 ∷ 85 ∷ 86 ∷ 87 ∷ 88 ∷ 89 ∷ 90 ∷ 91 ∷
      92 ∷ 93 ∷ 95 ∷ 96 ∷ 98 ∷ 99 ∷ [];
}
sets (Assertion m) = record {
  first = 11 ∷ [];
  nullable = false;
  follow = 0 ∷ 14 ∷ 15 ∷ 19 ∷ 20 ∷ 21 ∷ 22 ∷ 23 ∷ 29 ∷ 31 ∷ 33 ∷ 34 ∷ 38 ∷ 39 ∷ 42 ∷ 44 ∷ 45 ∷ 46 ∷ 48 ∷ 51 ∷ 52 ∷ 53 ∷ 54 ∷ 57 ∷ 59 ∷ 60 ∷ 61 ∷ 62 ∷
      63 ∷ 65 ∷ 66 ∷ 67 ∷ 68 ∷ 69 ∷ 70 ∷ 71 ∷ 72 ∷ 73 ∷ 74 ∷ 75 ∷ 76 ∷ 77 ∷ 78 ∷ 79 ∷ 80 ∷ 81 ∷ 82 ∷ 83 ∷ 84 ∷ 85 ∷ 86 ∷ 87 ∷ 88 ∷ 89 ∷ 90 ∷ 91 ∷
      92 ∷ 93 ∷ 95 ∷ 96 ∷ 98 ∷ 99 ∷ [];
}
sets (Exps m) = record {
  first = 1 ∷ 4 ∷ 5 ∷ 6 ∷ 7 ∷ 11 ∷ 12 ∷ 13 ∷ 17 ∷ 24 ∷ 25 ∷ 27 ∷ 30 ∷ 33 ∷ 35 ∷ 36 ∷ 40 ∷ 41 ∷ 43 ∷ 44 ∷ 47 ∷ 49 ∷ 50 ∷ 55 ∷ 56 ∷ 58 ∷ 60 ∷ 62 ∷ 64 ∷
      88 ∷ 94 ∷ 201 ∷ 202 ∷ [];
  nullable = false;
  follow = 59 ∷ 65 ∷ [];
}
sets (ExpsTail m) = record { first = 66 ∷ []; nullable = true; follow = 59 ∷ 61 ∷ 65 ∷ [] }
sets (Block m) = record {
  first = 62 ∷ [];
  nullable = false;
  follow = 0 ∷ 14 ∷ 15 ∷ 19 ∷ 20 ∷ 21 ∷ 22 ∷ 23 ∷ 29 ∷ 31 ∷ 33 ∷ 34 ∷ 38 ∷ 39 ∷ 42 ∷ 44 ∷ 45 ∷ 46 ∷ 48 ∷ 51 ∷ 52 ∷ 53 ∷ 54 ∷ 57 ∷ 59 ∷ 60 ∷ 61 ∷ 62 ∷
      63 ∷ 65 ∷ 66 ∷ 67 ∷ 68 ∷ 69 ∷ 70 ∷ 71 ∷ 72 ∷ 73 ∷ 74 ∷ 75 ∷ 76 ∷ 77 ∷ 78 ∷ 79 ∷ 80 ∷ 81 ∷ 82 ∷ 83 ∷ 84 ∷ 85 ∷ 86 ∷ 87 ∷ 88 ∷ 89 ∷ 90 ∷ 91 ∷
      92 ∷ 93 ∷ 95 ∷ 96 ∷ 98 ∷ 99 ∷ [];
}
sets BlockBody = record {
  first = 1 ∷ 4 ∷ 5 ∷ 6 ∷ 7 ∷ 11 ∷ 12 ∷ 13 ∷ 17 ∷ 24 ∷ 25 ∷ 27 ∷ 30 ∷ 33 ∷ 35 ∷ 36 ∷ 40 ∷ 41 ∷ 43 ∷ 44 ∷ 47 ∷ 49 ∷ 50 ∷ 55 ∷ 56 ∷ 58 ∷ 60 ∷ 62 ∷ 64 ∷
      88 ∷ 94 ∷ 201 ∷ 202 ∷ [];
  nullable = false;
  follow = 0 ∷ 14 ∷ 15 ∷ 19 ∷ 20 ∷ 21 ∷ 22 ∷ 23 ∷ 29 ∷ 31 ∷ 33 ∷ 34 ∷ 38 ∷ 39 ∷ 42 ∷ 44 ∷ 45 ∷ 46 ∷ 48 ∷ 51 ∷ 52 ∷ 53 ∷ 54 ∷ 57 ∷ 59 ∷ 60 ∷ 61 ∷ 62 ∷
      63 ∷ 65 ∷ 66 ∷ 67 ∷ 68 ∷ 69 ∷ 70 ∷ 71 ∷ 72 ∷ 73 ∷ 74 ∷ 75 ∷ 76 ∷ 77 ∷ 78 ∷ 79 ∷ 80 ∷ 81 ∷ 82 ∷ 83 ∷ 84 ∷ 85 ∷ 86 ∷ 87 ∷ 88 ∷ 89 ∷ 90 ∷ 91 ∷
      92 ∷ 93 ∷ 95 ∷ 96 ∷ 98 ∷ 99 ∷ [];
}
sets BlockMore = record {
  first = 57 ∷ 63 ∷ 67 ∷ [];
  nullable = false;
  follow = 0 ∷ 14 ∷ 15 ∷ 19 ∷ 20 ∷ 21 ∷ 22 ∷ 23 ∷ 29 ∷ 31 ∷ 33 ∷ 34 ∷ 38 ∷ 39 ∷ 42 ∷ 44 ∷ 45 ∷ 46 ∷ 48 ∷ 51 ∷ 52 ∷ 53 ∷ 54 ∷ 57 ∷ 59 ∷ 60 ∷ 61 ∷ 62 ∷
      63 ∷ 65 ∷ 66 ∷ 67 ∷ 68 ∷ 69 ∷ 70 ∷ 71 ∷ 72 ∷ 73 ∷ 74 ∷ 75 ∷ 76 ∷ 77 ∷ 78 ∷ 79 ∷ 80 ∷ 81 ∷ 82 ∷ 83 ∷ 84 ∷ 85 ∷ 86 ∷ 87 ∷ 88 ∷ 89 ∷ 90 ∷ 91 ∷
      92 ∷ 93 ∷ 95 ∷ 96 ∷ 98 ∷ 99 ∷ [];
}
sets Statements = record {
  first = 1 ∷ 4 ∷ 5 ∷ 6 ∷ 7 ∷ 11 ∷ 12 ∷ 13 ∷ 17 ∷ 24 ∷ 25 ∷ 27 ∷ 30 ∷ 33 ∷ 35 ∷ 36 ∷ 40 ∷ 41 ∷ 43 ∷ 44 ∷ 47 ∷ 49 ∷ 50 ∷ 55 ∷ 56 ∷ 58 ∷ 60 ∷ 62 ∷ 63 ∷
      64 ∷ 88 ∷ 94 ∷ 201 ∷ 202 ∷ [];
  nullable = false;
  follow = 0 ∷ 14 ∷ 15 ∷ 19 ∷ 20 ∷ 21 ∷ 22 ∷ 23 ∷ 29 ∷ 31 ∷ 33 ∷ 34 ∷ 38 ∷ 39 ∷ 42 ∷ 44 ∷ 45 ∷ 46 ∷ 48 ∷ 51 ∷ 52 ∷ 53 ∷ 54 ∷ 57 ∷ 59 ∷ 60 ∷ 61 ∷ 62 ∷
      63 ∷ 65 ∷ 66 ∷ 67 ∷ 68 ∷ 69 ∷ 70 ∷ 71 ∷ 72 ∷ 73 ∷ 74 ∷ 75 ∷ 76 ∷ 77 ∷ 78 ∷ 79 ∷ 80 ∷ 81 ∷ 82 ∷ 83 ∷ 84 ∷ 85 ∷ 86 ∷ 87 ∷ 88 ∷ 89 ∷ 90 ∷ 91 ∷
      92 ∷ 93 ∷ 95 ∷ 96 ∷ 98 ∷ 99 ∷ [];
}
sets StatementsMore = record {
  first = 63 ∷ 67 ∷ [];
  nullable = false;
  follow = 0 ∷ 14 ∷ 15 ∷ 19 ∷ 20 ∷ 21 ∷ 22 ∷ 23 ∷ 29 ∷ 31 ∷ 33 ∷ 34 ∷ 38 ∷ 39 ∷ 42 ∷ 44 ∷ 45 ∷ 46 ∷ 48 ∷ 51 ∷ 52 ∷ 53 ∷ 54 ∷ 57 ∷ 59 ∷ 60 ∷ 61 ∷ 62 ∷
      63 ∷ 65 ∷ 66 ∷ 67 ∷ 68 ∷ 69 ∷ 70 ∷ 71 ∷ 72 ∷ 73 ∷ 74 ∷ 75 ∷ 76 ∷ 77 ∷ 78 ∷ 79 ∷ 80 ∷ 81 ∷ 82 ∷ 83 ∷ 84 ∷ 85 ∷ 86 ∷ 87 ∷ 88 ∷ 89 ∷ 90 ∷ 91 ∷
      92 ∷ 93 ∷ 95 ∷ 96 ∷ 98 ∷ 99 ∷ [];
}
sets (Statement m) = record {
  first = 1 ∷ 4 ∷ 5 ∷ 6 ∷ 7 ∷ 11 ∷ 12 ∷ 13 ∷ 17 ∷ 24 ∷ 25 ∷ 27 ∷ 30 ∷ 33 ∷ 35 ∷ 36 ∷ 40 ∷ 41 ∷ 43 ∷ 44 ∷ 47 ∷ 49 ∷ 50 ∷ 55 ∷ 56 ∷ 58 ∷ 60 ∷ 62 ∷ 64 ∷
      88 ∷ 94 ∷ 201 ∷ 202 ∷ [];
  nullable = false;
  follow = 57 ∷ 63 ∷ 67 ∷ [];
}
sets (LetStatement m) = record { first = 33 ∷ []; nullable = false; follow = 57 ∷ 63 ∷ 67 ∷ [] }
sets (VarStatement m) = record { first = 55 ∷ []; nullable = false; follow = 57 ∷ 63 ∷ 67 ∷ [] }
sets (FieldValues m) = record { first = 1 ∷ 202 ∷ []; nullable = false; follow = 63 ∷ [] }
sets (FieldValuesTail m) = record { first = 66 ∷ []; nullable = true; follow = 63 ∷ [] }
sets (FieldValuesMore m) = record { first = 1 ∷ 202 ∷ []; nullable = true; follow = 63 ∷ [] }
sets (FieldValue m) = record { first = 1 ∷ 202 ∷ []; nullable = false; follow = 63 ∷ 66 ∷ [] }

-- the grammar of models
abbrev pub grammar : Grammar
grammar = record { rule = rule; sets = sets }
