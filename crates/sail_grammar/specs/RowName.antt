-- The names of the grammar's rows.
use Rattle.sail_grammar.specs.declared.mode.Mode.{Mode}

pub data RowName : Type 0 where
  -- definitions
  Definitions : RowName
  Definition : RowName
  OrderDefinition : RowName
  TypeDefinition : RowName
  EnumDefinition : RowName
  EnumMembers : RowName
  EnumBars : RowName
  StructDefinition : RowName
  UnionDefinition : RowName
  UnionClause : RowName
  UnionWhole : RowName
  ValDefinition : RowName
  FunctionDefinition : RowName
  MeasureDefinition : RowName
  MappingDefinition : RowName
  MappingClauseDefinition : RowName
  MappingWhole : RowName
  LetDefinition : RowName
  RegisterDefinition : RowName
  OverloadDefinition : RowName
  ScatteredDefinition : RowName
  EndDefinition : RowName
  -- parts of definitions
  Names : RowName
  NamesTail : RowName
  NamesMore : RowName
  Members : RowName
  MembersTail : RowName
  MembersMore : RowName
  Member : RowName
  Parameters : RowName
  ParametersTail : RowName
  Parameter : RowName
  KindMark : RowName
  Quantifier : RowName
  QuantifiedVariables : RowName
  QuantifiedVariable : RowName
  MappingClauses : RowName
  MappingClausesTail : RowName
  MappingClausesMore : RowName
  MappingClause : RowName
  MappingSide : RowName
  -- types
  Typ : Mode → RowName
  TypeAnd : Mode → RowName
  TypeComparison : Mode → RowName
  TypeSet : Mode → RowName
  NumbersTail : RowName
  NumbersMore : RowName
  TypeSum : RowName
  TypeSumMore : RowName
  TypeProduct : RowName
  TypeProductMore : RowName
  TypeAtom : RowName
  TypeNamed : RowName
  TypePower : RowName
  TypeNegation : RowName
  TypeNot : RowName
  TypeGroup : RowName
  TypeExists : RowName
  TypeVariables : RowName
  Types : RowName
  TypesTail : RowName
  -- patterns
  Pattern : Mode → RowName
  PatternAs : Mode → RowName
  PatternConcat : Mode → RowName
  PatternAppends : Mode → RowName
  PatternTyped : Mode → RowName
  PatternBase : Mode → RowName
  PatternWildcard : Mode → RowName
  PatternNegative : RowName
  PatternNamed : Mode → RowName
  PatternGroup : Mode → RowName
  PatternVector : Mode → RowName
  PatternList : Mode → RowName
  Patterns : Mode → RowName
  PatternsTail : Mode → RowName
  -- expressions
  Exp : Mode → RowName
  LetIn : Mode → RowName
  VarIn : Mode → RowName
  ExpInner : Mode → RowName
  If : Mode → RowName
  Match : Mode → RowName
  Control : Mode → RowName
  Try : RowName
  Foreach : RowName
  While : RowName
  Repeat : RowName
  Leave : RowName
  LoopMeasure : RowName
  Assignment : Mode → RowName
  Cases : Mode → RowName
  CasesTail : Mode → RowName
  CasesMore : Mode → RowName
  Case : Mode → RowName
  -- operators
  Infix : Mode → RowName
  InfixAnd : Mode → RowName
  InfixComparison : Mode → RowName
  InfixAppend : Mode → RowName
  InfixSum : Mode → RowName
  InfixSumMore : Mode → RowName
  InfixProduct : Mode → RowName
  InfixProductMore : Mode → RowName
  InfixPower : Mode → RowName
  Unary : Mode → RowName
  Negation : Mode → RowName
  Power : Mode → RowName
  Postfix : Mode → RowName
  Suffixes : Mode → RowName
  Suffix : Mode → RowName
  Index : Mode → RowName
  -- operands
  Atom : Mode → RowName
  NamedExp : Mode → RowName
  Arguments : Mode → RowName
  PrefixCall : Mode → RowName
  GroupExp : Mode → RowName
  VectorExp : Mode → RowName
  Update : Mode → RowName
  ListExp : Mode → RowName
  StructExp : Mode → RowName
  TypeQuestion : RowName
  Assertion : Mode → RowName
  Exps : Mode → RowName
  ExpsTail : Mode → RowName
  Block : Mode → RowName
  BlockBody : RowName
  BlockMore : RowName
  Statements : RowName
  StatementsMore : RowName
  Statement : Mode → RowName
  LetStatement : Mode → RowName
  VarStatement : Mode → RowName
  FieldValues : Mode → RowName
  FieldValuesTail : Mode → RowName
  FieldValuesMore : Mode → RowName
  FieldValue : Mode → RowName
