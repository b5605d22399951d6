-- What holds of the tree of each row: what it stands for is as the grammar has it in the row's mode.
use Rattle.std.proofs.Common.{◌≡◌, true, map}
use Rattle.sail_base.specs.declared.place.Place.{Place}
use Rattle.sail_syntax.specs.declared.expressions.Exp.{Exp}
use Rattle.sail_syntax.specs.declared.expressions.Stmt.{Stmt}
use Rattle.sail_grammar.specs.declared.mode.Mode.{Mode}
use Rattle.sail_grammar.specs.declared.mode.Mode.TheVariants.{Full, Limited}
use Rattle.sail_grammar.specs.Form.{Tree, Pair, Left, Right}
use Rattle.sail_grammar.specs.RowName as Row
use Rattle.sail_grammar.specs.RowName.{RowName}
use Rattle.sail_grammar.specs.ExpTrees as E
use Rattle.sail_grammar.specs.DefTrees as D
use Rattle.shape_stands.specs.Manner.{every, fields_form}
use Rattle.text_progress.specs.Manners.{crossing_full, maybe_full}
use Rattle.accepted_models.proofs.Manners.{Suits, manner_case, manner_field, manner_suffix, manner_target}
use Rattle.accepted_models.proofs.ExpForms.{FineExp, FineExps, FineIf}
use Rattle.accepted_models.proofs.PartForms.{FineStmt, FineStmts}
use Rattle.accepted_models.proofs.DefForms.{FineCrossings, FineDef, FineDefs}

-- an expression, and the targets and the value that it is behind a target
pub record FineValue (mode : Mode) (t : Tree) : Type 0 where
  pub exp : FineExp mode (E.exp_of t)
  pub targets : (every (map manner_target (E.targets_of t))).is_full ≡ true
  pub value : FineExp mode (E.assigned_of t)

abbrev pub Fine : RowName → Tree → Type 0
-- expressions
Fine (Row.Exp m) t = FineValue m t
Fine (Row.LetIn m) t = FineExp m (E.let_of t)
Fine (Row.VarIn m) t = FineExp m (E.var_of t)
Fine (Row.ExpInner m) t = FineValue m (Right (Right t))
Fine (Row.If m) t = FineExp m (E.if_of t)
Fine (Row.Match m) t = FineExp m (E.match_of t)
Fine (Row.Control m) t = FineExp m (E.control_of t)
Fine Row.Try t = FineExp Full (E.try_of t)
Fine Row.Foreach t = FineExp Full (E.foreach_of t)
Fine Row.While t = FineExp Full (E.while_of t)
Fine Row.Repeat t = FineExp Full (E.repeat_of t)
Fine Row.Leave t = FineExp Full (E.leave_of t)
Fine Row.LoopMeasure t = FineIf Limited (E.measure_of t)
Fine (Row.Assignment m) t = FineValue m (Right (Right (Right (Right (Right t)))))
Fine (Row.Cases m) t = Suits m (every (map manner_case (E.cases_of t)))
Fine (Row.CasesTail m) t = Suits m (every (map manner_case (E.cases_tail t)))
Fine (Row.CasesMore m) t = (comma : Tree) → Suits m (every (map manner_case (E.cases_tail (Left (Pair comma t)))))
Fine (Row.Case m) t = Suits m (manner_case (E.case_of t))
-- operators
Fine (Row.Infix m) t = FineExp m (E.infix_of t)
Fine (Row.InfixAnd m) t = FineExp m (E.and_of t)
Fine (Row.InfixComparison m) t = FineExp m (E.comparison_of t)
Fine (Row.InfixAppend m) t = FineExp m (E.append_of t)
Fine (Row.InfixSum m) t = FineExp m (E.sum_of t)
Fine (Row.InfixSumMore m) t = (x : Exp) → FineExp m x → FineExp m (E.sum_more x t)
Fine (Row.InfixProduct m) t = FineExp m (E.product_of t)
Fine (Row.InfixProductMore m) t = (x : Exp) → FineExp m x → FineExp m (E.product_more x t)
Fine (Row.InfixPower m) t = FineExp m (E.power_of t)
Fine (Row.Unary m) t = FineExp m (E.unary_of t)
Fine (Row.Negation m) t = FineExp m (E.negation_of t)
Fine (Row.Power m) t = FineExp m (E.two_of t)
Fine (Row.Postfix m) t = FineExp m (E.postfix_of t)
Fine (Row.Suffixes m) t = Suits m (every (map manner_suffix (E.suffixes_of t)))
Fine (Row.Suffix m) t = Suits m (manner_suffix (E.suffix_of t))
Fine (Row.Index m) t = Suits m (manner_suffix (E.suffix_of (Left t)))
-- operands
Fine (Row.Atom m) t = FineExp m (E.atom_of t)
Fine (Row.NamedExp m) t = FineExp m (E.named_of t)
Fine (Row.Arguments m) t = FineExps m (E.arguments_of t)
Fine (Row.PrefixCall m) t = FineExp m (E.prefix_call_of t)
Fine (Row.GroupExp m) t = FineExp m (E.group_of t)
Fine (Row.VectorExp m) t = FineExp m (E.vector_of t)
Fine (Row.Update m) t = (place : Place) (x : Exp) → FineExp m x → FineExp m (E.update_of place x t)
Fine (Row.ListExp m) t = FineExp m (E.list_of t)
Fine (Row.StructExp m) t = FineExp m (E.struct_of t)
Fine Row.TypeQuestion t = (m : Mode) → FineExp m (E.question_of t)
Fine (Row.Assertion m) t = FineExp m (E.assertion_of t)
Fine (Row.Exps m) t = FineExps m (E.exps_of t)
Fine (Row.ExpsTail m) t = FineExps m (E.exps_tail t)
-- blocks
Fine (Row.Block m) t = FineExp m (E.block_of t)
Fine Row.BlockBody t = (place : Place) → FineExp Full (E.body_of place t)
Fine Row.BlockMore t = (place : Place) (s : Stmt) → FineStmt Full s → FineExp Full (E.body_more place s t)
Fine Row.Statements t = FineStmts Full (E.statements_of t)
Fine Row.StatementsMore t = (s : Tree) → FineStmt Full (E.statement_of s) → FineStmts Full (E.statements_of (Right (Pair s t)))
Fine (Row.Statement m) t = FineStmt m (E.statement_of t)
Fine (Row.LetStatement m) t = FineStmt m (E.let_statement_of t)
Fine (Row.VarStatement m) t = FineStmt m (E.var_statement_of t)
Fine (Row.FieldValues m) t = Suits m (fields_form (map manner_field (E.values_of t)))
Fine (Row.FieldValuesTail m) t = Suits m (every (map manner_field (E.values_tail t)))
Fine (Row.FieldValuesMore m) t = (comma : Tree) → Suits m (every (map manner_field (E.values_tail (Left (Pair comma t)))))
Fine (Row.FieldValue m) t = Suits m (manner_field (E.value_of t))
-- definitions
Fine Row.Definitions t = FineDefs (D.defs_of t)
Fine Row.Definition t = FineDef (D.def_of t)
Fine Row.OrderDefinition t = FineDef (D.order_of t)
Fine Row.TypeDefinition t = FineDef (D.alias_of t)
Fine Row.EnumDefinition t = FineDef (D.enum_of t)
Fine Row.StructDefinition t = FineDef (D.struct_definition_of t)
Fine Row.UnionDefinition t = FineDef (D.union_of t)
Fine Row.UnionClause t = (head : Tree) → FineDef (D.union_of (Pair head (Left t)))
Fine Row.UnionWhole t = (head : Tree) → FineDef (D.union_of (Pair head (Right t)))
Fine Row.ValDefinition t = FineDef (D.val_of t)
Fine Row.FunctionDefinition t = FineDef (D.function_of t)
Fine Row.MeasureDefinition t = FineDef (D.measure_definition_of t)
Fine Row.MappingDefinition t = FineDef (D.mapping_of t)
Fine Row.MappingClauseDefinition t = (head : Tree) → FineDef (D.mapping_of (Pair head (Left t)))
Fine Row.MappingWhole t = (head : Tree) → FineDef (D.mapping_of (Pair head (Right t)))
Fine Row.LetDefinition t = FineDef (D.let_definition_of t)
Fine Row.RegisterDefinition t = FineDef (D.register_of t)
Fine Row.OverloadDefinition t = FineDef (D.overload_of t)
Fine Row.ScatteredDefinition t = FineDef (D.scattered_of t)
Fine Row.EndDefinition t = FineDef (D.end_of t)
-- parts of definitions
Fine Row.MappingClauses t = FineCrossings (D.mapping_clauses_of t)
Fine Row.MappingClausesTail t = FineCrossings (D.mapping_clauses_tail t)
Fine Row.MappingClausesMore t = (comma : Tree) → FineCrossings (D.mapping_clauses_tail (Left (Pair comma t)))
Fine Row.MappingClause t = crossing_full (D.mapping_clause_of t) ≡ true
Fine Row.MappingSide t = maybe_full (D.side_of t).guard ≡ true
-- of types, patterns, words and names nothing is said
Fine n t = Unit {0}
