-- The expressions of the definitions that tokens are, are as the grammar has them.
use Rattle.std.proofs.Common.{List, subst}
use Rattle.sail_syntax.specs.declared.definitions.Def.{Def}
use Rattle.sail_grammar.specs.Symbol.{Sign}
use Rattle.sail_grammar.specs.Form.{Row, Tree}
use Rattle.sail_grammar.specs.RowName as N
use Rattle.sail_grammar.specs.RowName.{RowName}
use Rattle.sail_grammar.specs.DefTrees.{defs_of}
use Rattle.sail_grammar.specs.Table.{rule}
use Rattle.sail_grammar.specs.Model.{IsModel}
use Rattle.text_progress.proofs.Trees.{Made, made, row}
use Rattle.accepted_models.proofs.Rows.{Fine}
use Rattle.accepted_models.proofs.DefForms.{FineDefs}
use Rattle.accepted_models.proofs.ExpRows as E
use Rattle.accepted_models.proofs.OperatorRows as O
use Rattle.accepted_models.proofs.BlockRows as B
use Rattle.accepted_models.proofs.DefRows as D

each_row : (n : RowName) (t : Tree) → Made Fine (rule n) t → Fine n t
-- expressions
each_row (N.Exp m) t h = E.exp_row m h
each_row (N.LetIn m) t h = E.let_row m h
each_row (N.VarIn m) t h = E.var_row m h
each_row (N.ExpInner m) t h = E.inner_row m h
each_row (N.If m) t h = E.if_row m h
each_row (N.Match m) t h = E.match_row m h
each_row (N.Control m) t h = E.control_row m h
each_row N.Try t h = E.try_row h
each_row N.Foreach t h = E.foreach_row h
each_row N.While t h = E.while_row h
each_row N.Repeat t h = E.repeat_row h
each_row N.Leave t h = E.leave_row h
each_row N.LoopMeasure t h = E.loop_measure_row h
each_row (N.Assignment m) t h = E.assignment_row m h
each_row (N.Cases m) t h = E.cases_row m h
each_row (N.CasesTail m) t h = E.cases_tail_row m h
each_row (N.CasesMore m) t h = E.cases_more_row m h
each_row (N.Case m) t h = E.case_row m h
-- operators and operands
each_row (N.Infix m) t h = O.infix_row m h
each_row (N.InfixAnd m) t h = O.and_row m h
each_row (N.InfixComparison m) t h = O.comparison_row m h
each_row (N.InfixAppend m) t h = O.append_row m h
each_row (N.InfixSum m) t h = O.sum_row m h
each_row (N.InfixSumMore m) t h = O.sum_more_row m h
each_row (N.InfixProduct m) t h = O.product_row m h
each_row (N.InfixProductMore m) t h = O.product_more_row m h
each_row (N.InfixPower m) t h = O.power_row m h
each_row (N.Unary m) t h = O.unary_row m h
each_row (N.Negation m) t h = O.negation_row m h
each_row (N.Power m) t h = O.two_row m h
each_row (N.Postfix m) t h = O.postfix_row m h
each_row (N.Suffixes m) t h = O.suffixes_row m h
each_row (N.Suffix m) t h = O.suffix_row m h
each_row (N.Index m) t h = O.index_row m h
each_row (N.Atom m) t h = O.atom_row m h
each_row (N.NamedExp m) t h = O.named_row m h
each_row (N.Arguments m) t h = O.arguments_row m h
each_row (N.PrefixCall m) t h = O.prefix_call_row m h
each_row (N.GroupExp m) t h = O.group_row m h
each_row (N.VectorExp m) t h = O.vector_row m h
each_row (N.Update m) t h = O.update_row m h
each_row (N.ListExp m) t h = O.list_row m h
each_row (N.StructExp m) t h = O.struct_row m h
each_row N.TypeQuestion t h = O.question_row h
each_row (N.Assertion m) t h = O.assertion_row m h
each_row (N.Exps m) t h = O.exps_row m h
each_row (N.ExpsTail m) t h = O.exps_tail_row m h
-- blocks
each_row (N.Block m) t h = B.block_row m h
each_row N.BlockBody t h = B.block_body_row h
each_row N.BlockMore t h = B.block_more_row h
each_row N.Statements t h = B.statements_row h
each_row N.StatementsMore t h = B.statements_more_row h
each_row (N.Statement m) t h = B.statement_row m h
each_row (N.LetStatement m) t h = B.let_statement_row m h
each_row (N.VarStatement m) t h = B.var_statement_row m h
each_row (N.FieldValues m) t h = B.values_row m h
each_row (N.FieldValuesTail m) t h = B.values_tail_row m h
each_row (N.FieldValuesMore m) t h = B.values_more_row m h
each_row (N.FieldValue m) t h = B.value_row m h
-- definitions and their parts
each_row N.Definitions t h = D.definitions_row h
each_row N.Definition t h = D.definition_row h
each_row N.OrderDefinition t h = D.order_row h
each_row N.TypeDefinition t h = D.type_row h
each_row N.EnumDefinition t h = D.enum_row h
each_row N.StructDefinition t h = D.struct_row h
each_row N.UnionDefinition t h = D.union_row h
each_row N.UnionClause t h = D.union_clause_row h
each_row N.UnionWhole t h = D.union_whole_row h
each_row N.ValDefinition t h = D.val_row h
each_row N.FunctionDefinition t h = D.function_row h
each_row N.MeasureDefinition t h = D.measure_row h
each_row N.MappingDefinition t h = D.mapping_row h
each_row N.MappingClauseDefinition t h = D.mapping_clause_definition_row h
each_row N.MappingWhole t h = D.mapping_whole_row h
each_row N.LetDefinition t h = D.let_row h
each_row N.RegisterDefinition t h = D.register_row h
each_row N.OverloadDefinition t h = D.overload_row h
each_row N.ScatteredDefinition t h = D.scattered_row h
each_row N.EndDefinition t h = D.end_row h
each_row N.MappingClauses t h = D.clauses_row h
each_row N.MappingClausesTail t h = D.clauses_tail_row h
each_row N.MappingClausesMore t h = D.clauses_more_row h
each_row N.MappingClause t h = D.clause_row h
each_row N.MappingSide t h = D.side_row h
each_row n t h = tt

of_definitions : {t : Tree} → Made Fine (Row N.Definitions) t → FineDefs (defs_of t)
of_definitions (row h) = h

pub parsed_fine : (tokens : List Sign) (text : List Def) → IsModel tokens text → FineDefs text
parsed_fine tokens text model = subst FineDefs model.stands (of_definitions (made rule Fine each_row model.reads))
