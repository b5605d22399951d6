-- What holds of the tree of each row: what it stands for is as the grammar has it.
use Rattle.std.proofs.Common.{◌≡◌, true, map}
use Rattle.sail_base.specs.declared.place.Place.{Place}
use Rattle.sail_syntax.specs.declared.types.TyExp.{TyExp}
use Rattle.sail_syntax.specs.declared.patterns.Pat.{Pat}
use Rattle.sail_syntax.specs.declared.expressions.Exp.{Exp}
use Rattle.sail_syntax.specs.declared.expressions.Stmt.{Stmt}
use Rattle.sail_grammar.specs.declared.mode.Mode.{Mode}
use Rattle.sail_grammar.specs.Form.{Tree, Pair, Left, Right}
use Rattle.sail_grammar.specs.RowName as Row
use Rattle.sail_grammar.specs.RowName.{RowName}
use Rattle.sail_grammar.specs.TypeTrees as T
use Rattle.sail_grammar.specs.PatternTrees as P
use Rattle.sail_grammar.specs.ExpTrees as E
use Rattle.sail_grammar.specs.DefTrees as D
use Rattle.shape_meanings.specs.Whole.{all_of}
use Rattle.shape_meanings.proofs.Folds.{written_case, written_field, written_suffix, written_target}
use Rattle.body_meanings.specs.Directions.{both_ways_written}
use Rattle.known_texts.specs.Written.{crossing_written, is_some_name, type_written}
use Rattle.text_progress.proofs.TypeForms.{FineTypes, SomeTypes}
use Rattle.text_progress.proofs.PatternForms.{FineJoined, FinePattern, FinePatterns}
use Rattle.text_progress.proofs.ExpForms.{FineExp, FineExps, FineIf}
use Rattle.text_progress.proofs.PartForms.{FineStmt, FineStmts}
use Rattle.text_progress.proofs.DefForms.{FineCrossings, FineDef, FineDefs, FineMembers}

-- a pattern in brackets, and the patterns there
pub record FineGroup (m : Mode) (t : Tree) : Type 0 where
  pub group : FinePattern m (P.pattern_group_of t)
  pub list : FinePatterns m (P.pattern_list_of t)

-- an expression, and the targets and the value that it is behind a target
pub record FineValue (t : Tree) : Type 0 where
  pub exp : FineExp (E.exp_of t)
  pub targets : all_of (map written_target (E.targets_of t)) ≡ true
  pub value : FineExp (E.assigned_of t)

abbrev pub Fine : RowName → Tree → Type 0
-- types
Fine (Row.Typ m) t = type_written (T.typ_of t) ≡ true
Fine (Row.TypeAnd m) t = type_written (T.type_and_of t) ≡ true
Fine (Row.TypeComparison m) t = type_written (T.type_comparison_of t) ≡ true
Fine Row.TypeSum t = type_written (T.type_sum_of t) ≡ true
Fine Row.TypeSumMore t = (x : TyExp) → type_written x ≡ true → type_written (T.type_sum_more_of x t) ≡ true
Fine Row.TypeProduct t = type_written (T.type_product_of t) ≡ true
Fine Row.TypeProductMore t = (x : TyExp) → type_written x ≡ true → type_written (T.type_product_more_of x t) ≡ true
Fine Row.TypeAtom t = type_written (T.type_atom_of t) ≡ true
Fine Row.TypeNamed t = type_written (T.type_named_of t) ≡ true
Fine Row.TypePower t = type_written (T.type_power_of t) ≡ true
Fine Row.TypeNegation t = type_written (T.type_negation_of t) ≡ true
Fine Row.TypeNot t = type_written (T.type_not_of t) ≡ true
Fine Row.TypeGroup t = type_written (T.type_group_of t) ≡ true
Fine Row.TypeExists t = type_written (T.type_exists_of t) ≡ true
Fine Row.Types t = SomeTypes (T.types_of t)
Fine Row.TypesTail t = FineTypes (T.types_tail_of t)
-- patterns
Fine (Row.Pattern m) t = FinePattern m (P.pattern_of t)
Fine (Row.PatternAs m) t = (place : Place) (p : Pat) → FinePattern m p → FinePattern m (P.as_of place p t)
Fine (Row.PatternConcat m) t = FinePattern m (P.pattern_concat_of t)
Fine (Row.PatternAppends m) t =
    ((p : Pat) → FinePattern m p → FinePattern m (P.pattern_appended_of p t)) × FineJoined m (P.pattern_appends_of t)
Fine (Row.PatternTyped m) t = FinePattern m (P.pattern_typed_of t)
Fine (Row.PatternBase m) t = FinePattern m (P.pattern_base_of t)
Fine (Row.PatternWildcard m) t = FinePattern m (P.wildcard_of t)
Fine Row.PatternNegative t = (m : Mode) → FinePattern m (P.negative_of t)
Fine (Row.PatternNamed m) t = FinePattern m (P.pattern_named_of t)
Fine (Row.PatternGroup m) t = FineGroup m t
Fine (Row.PatternVector m) t = FinePattern m (P.pattern_vector_of t)
Fine (Row.PatternList m) t = FinePattern m (P.pattern_brackets_of t)
Fine (Row.Patterns m) t = FinePatterns m (P.patterns_of t)
Fine (Row.PatternsTail m) t = FinePatterns m (P.patterns_tail_of t)
-- expressions
Fine (Row.Exp m) t = FineValue t
Fine (Row.LetIn m) t = FineExp (E.let_of t)
Fine (Row.VarIn m) t = FineExp (E.var_of t)
Fine (Row.ExpInner m) t = FineValue (Right (Right t))
Fine (Row.If m) t = FineExp (E.if_of t)
Fine (Row.Match m) t = FineExp (E.match_of t)
Fine (Row.Control m) t = FineExp (E.control_of t)
Fine Row.Try t = FineExp (E.try_of t)
Fine Row.Foreach t = FineExp (E.foreach_of t)
Fine Row.While t = FineExp (E.while_of t)
Fine Row.Repeat t = FineExp (E.repeat_of t)
Fine Row.Leave t = FineExp (E.leave_of t)
Fine Row.LoopMeasure t = FineIf (E.measure_of t)
Fine (Row.Assignment m) t = FineValue (Right (Right (Right (Right (Right t)))))
Fine (Row.Cases m) t = all_of (map written_case (E.cases_of t)) ≡ true
Fine (Row.CasesTail m) t = all_of (map written_case (E.cases_tail t)) ≡ true
Fine (Row.CasesMore m) t = (comma : Tree) → all_of (map written_case (E.cases_tail (Left (Pair comma t)))) ≡ true
Fine (Row.Case m) t = written_case (E.case_of t) ≡ true
-- operators
Fine (Row.Infix m) t = FineExp (E.infix_of t)
Fine (Row.InfixAnd m) t = FineExp (E.and_of t)
Fine (Row.InfixComparison m) t = FineExp (E.comparison_of t)
Fine (Row.InfixAppend m) t = FineExp (E.append_of t)
Fine (Row.InfixSum m) t = FineExp (E.sum_of t)
Fine (Row.InfixSumMore m) t = (x : Exp) → FineExp x → FineExp (E.sum_more x t)
Fine (Row.InfixProduct m) t = FineExp (E.product_of t)
Fine (Row.InfixProductMore m) t = (x : Exp) → FineExp x → FineExp (E.product_more x t)
Fine (Row.InfixPower m) t = FineExp (E.power_of t)
Fine (Row.Unary m) t = FineExp (E.unary_of t)
Fine (Row.Negation m) t = FineExp (E.negation_of t)
Fine (Row.Power m) t = FineExp (E.two_of t)
Fine (Row.Postfix m) t = FineExp (E.postfix_of t)
Fine (Row.Suffixes m) t = all_of (map written_suffix (E.suffixes_of t)) ≡ true
Fine (Row.Suffix m) t = written_suffix (E.suffix_of t) ≡ true
Fine (Row.Index m) t = written_suffix (E.suffix_of (Left t)) ≡ true
-- operands
Fine (Row.Atom m) t = FineExp (E.atom_of t)
Fine (Row.NamedExp m) t = FineExp (E.named_of t)
Fine (Row.Arguments m) t = FineExps (E.arguments_of t)
Fine (Row.PrefixCall m) t = FineExp (E.prefix_call_of t)
Fine (Row.GroupExp m) t = FineExp (E.group_of t)
Fine (Row.VectorExp m) t = FineExp (E.vector_of t)
Fine (Row.Update m) t = (place : Place) (x : Exp) → FineExp x → FineExp (E.update_of place x t)
Fine (Row.ListExp m) t = FineExp (E.list_of t)
Fine (Row.StructExp m) t = FineExp (E.struct_of t)
Fine Row.TypeQuestion t = FineExp (E.question_of t)
Fine (Row.Assertion m) t = FineExp (E.assertion_of t)
Fine (Row.Exps m) t = FineExps (E.exps_of t)
Fine (Row.ExpsTail m) t = FineExps (E.exps_tail t)
-- blocks
Fine (Row.Block m) t = FineExp (E.block_of t)
Fine Row.BlockBody t = (place : Place) → FineExp (E.body_of place t)
Fine Row.BlockMore t = (place : Place) (s : Stmt) → FineStmt s → FineExp (E.body_more place s t)
Fine Row.Statements t = FineStmts (E.statements_of t)
Fine Row.StatementsMore t = (s : Tree) → FineStmt (E.statement_of s) → FineStmts (E.statements_of (Right (Pair s t)))
Fine (Row.Statement m) t = FineStmt (E.statement_of t)
Fine (Row.LetStatement m) t = FineStmt (E.let_statement_of t)
Fine (Row.VarStatement m) t = FineStmt (E.var_statement_of t)
Fine (Row.FieldValues m) t = all_of (map written_field (E.values_of t)) ≡ true
Fine (Row.FieldValuesTail m) t = all_of (map written_field (E.values_tail t)) ≡ true
Fine (Row.FieldValuesMore m) t = (comma : Tree) → all_of (map written_field (E.values_tail (Left (Pair comma t)))) ≡ true
Fine (Row.FieldValue m) t = written_field (E.value_of t) ≡ true
-- definitions
Fine Row.Definitions t = FineDefs (D.defs_of t)
Fine Row.Definition t = FineDef (D.def_of t)
Fine Row.OrderDefinition t = FineDef (D.order_of t)
Fine Row.TypeDefinition t = FineDef (D.alias_of t)
Fine Row.EnumDefinition t = FineDef (D.enum_of t)
Fine Row.StructDefinition t = FineDef (D.struct_definition_of t)
Fine Row.UnionDefinition t = FineDef (D.union_of t)
Fine Row.UnionClause t = (head : Tree) → FineDef (D.union_of (Pair head (Left t)))
Fine Row.UnionWhole t = (head : Tree) → FineDef (D.union_of (Pair head (Right t)))
Fine Row.ValDefinition t = FineDef (D.val_of t)
Fine Row.FunctionDefinition t = FineDef (D.function_of t)
Fine Row.MeasureDefinition t = FineDef (D.measure_definition_of t)
Fine Row.MappingDefinition t = FineDef (D.mapping_of t)
Fine Row.MappingClauseDefinition t = (head : Tree) → FineDef (D.mapping_of (Pair head (Left t)))
Fine Row.MappingWhole t = (head : Tree) → FineDef (D.mapping_of (Pair head (Right t)))
Fine Row.LetDefinition t = FineDef (D.let_definition_of t)
Fine Row.RegisterDefinition t = FineDef (D.register_of t)
Fine Row.OverloadDefinition t = FineDef (D.overload_of t)
Fine Row.ScatteredDefinition t = FineDef (D.scattered_of t)
Fine Row.EndDefinition t = FineDef (D.end_of t)
-- parts of definitions
Fine Row.Names t = is_some_name (D.names_of t) ≡ true
Fine Row.Members t = FineMembers (D.members_of t)
Fine Row.MembersTail t = FineMembers (D.members_tail t)
Fine Row.MembersMore t = (comma : Tree) → FineMembers (D.members_tail (Left (Pair comma t)))
Fine Row.Member t = type_written (D.member_of t).typ ≡ true
Fine Row.MappingClauses t = FineCrossings (D.mapping_clauses_of t)
Fine Row.MappingClausesTail t = FineCrossings (D.mapping_clauses_tail t)
Fine Row.MappingClausesMore t = (comma : Tree) → FineCrossings (D.mapping_clauses_tail (Left (Pair comma t)))
Fine Row.MappingClause t = crossing_written (D.mapping_clause_of t) ≡ true
Fine Row.MappingSide t = both_ways_written (D.side_of t) ≡ true
-- of words and names alone nothing is said
Fine n t = Unit {0}
