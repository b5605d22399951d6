-- The rows of definitions and of their parts.
use Rattle.std.proofs.Common.{refl}
use Rattle.sail_grammar.specs.Form.{Tree, Leaf}
use Rattle.sail_grammar.specs.RowName as N
use Rattle.sail_grammar.specs.Leaves.{name_at, place_at}
use Rattle.sail_grammar.specs.Table.{rule}
use Rattle.sail_grammar.specs.TypeTrees.{typ_of}
use Rattle.shape_joins.proofs.Order.{two}
use Rattle.text_progress.proofs.Trees.{Made, word, empty, left, right, both, row}
use Rattle.accepted_models.proofs.Rows.{Fine}
use Rattle.accepted_models.proofs.DefForms.{guard_fine, quiet_fine, register_fine}
use Rattle.accepted_models.proofs.ExpRows.{behind}

pub definitions_row : {t : Tree} → Made Fine (rule N.Definitions) t → Fine N.Definitions t
definitions_row (left (both (row d) (row more))) = (d, more)
definitions_row (right empty) = tt

pub definition_row : {t : Tree} → Made Fine (rule N.Definition) t → Fine N.Definition t
definition_row (left (row d)) = d
definition_row (right (left (row d))) = d
definition_row (right (right (left (row d)))) = d
definition_row (right (right (right (left (row d))))) = d
definition_row (right (right (right (right (left (row d)))))) = d
definition_row (right (right (right (right (right (left (row d))))))) = d
definition_row (right (right (right (right (right (right (left (row d)))))))) = d
definition_row (right (right (right (right (right (right (right (left (row d))))))))) = d
definition_row (right (right (right (right (right (right (right (right (left (row d)))))))))) = d
definition_row (right (right (right (right (right (right (right (right (right (left (row d))))))))))) = d
definition_row (right (right (right (right (right (right (right (right (right (right (left (row d)))))))))))) = d
definition_row (right (right (right (right (right (right (right (right (right (right (right (left (row d))))))))))))) = d
definition_row (right (right (right (right (right (right (right (right (right (right (right (right (left (row d)))))))))))))) = d
definition_row (right (right (right (right (right (right (right (right (right (right (right (right (right (row d)))))))))))))) = d

-- ---- definitions

pub order_row : {t : Tree} → Made Fine (rule N.OrderDefinition) t → Fine N.OrderDefinition t
order_row (both (word w) rest) = refl

pub type_row : {t : Tree} → Made Fine (rule N.TypeDefinition) t → Fine N.TypeDefinition t
type_row (both (word w) (both (word n) (both (row ps) (both (row k) (both (word e) (row typ)))))) = refl

pub enum_row : {t : Tree} → Made Fine (rule N.EnumDefinition) t → Fine N.EnumDefinition t
enum_row (both (word w) (both (word n) (both (word e) members))) = refl

pub struct_row : {t : Tree} → Made Fine (rule N.StructDefinition) t → Fine N.StructDefinition t
struct_row (both (word w) (both (word n) (both (row ps) (both (word e) (both (word o) (both (row fs) (word c))))))) = refl

pub union_row : {t : Tree} → Made Fine (rule N.UnionDefinition) t → Fine N.UnionDefinition t
union_row (both (word {s = s} w) (left (row d))) = d (Leaf s)
union_row (both (word {s = s} w) (right (row d))) = d (Leaf s)

pub union_clause_row : {t : Tree} → Made Fine (rule N.UnionClause) t → Fine N.UnionClause t
union_clause_row (both (word w) (both (word n) (both (word e) (row m)))) head = refl

pub union_whole_row : {t : Tree} → Made Fine (rule N.UnionWhole) t → Fine N.UnionWhole t
union_whole_row (both (word n) (both (row ps) (both (word e) (both (word o) (both (row ms) (word c)))))) head = refl

pub val_row : {t : Tree} → Made Fine (rule N.ValDefinition) t → Fine N.ValDefinition t
val_row (both (word w) (both (word n) (both (word s) (both q (both (row a) (both (word d) (row b))))))) = refl

pub function_row : {t : Tree} → Made Fine (rule N.FunctionDefinition) t → Fine N.FunctionDefinition t
function_row (both (word w) (both (left (word k)) (both (word n) (both (row ps) (both result (both (word e) (row a))))))) =
    a.exp.suits.full
function_row (both (word w) (both (right empty) (both (word n) (both (row ps) (both result (both (word e) (row a))))))) =
    two _ _ a.exp.suits.full refl

pub measure_row : {t : Tree} → Made Fine (rule N.MeasureDefinition) t → Fine N.MeasureDefinition t
measure_row (both (word w) (both (word n) (both (row ps) (both (word e) (row a))))) = quiet_fine _ a.exp

pub mapping_row : {t : Tree} → Made Fine (rule N.MappingDefinition) t → Fine N.MappingDefinition t
mapping_row (both (word {s = s} w) (left (row d))) = d (Leaf s)
mapping_row (both (word {s = s} w) (right (row d))) = d (Leaf s)

pub mapping_clause_definition_row : {t : Tree} → Made Fine (rule N.MappingClauseDefinition) t → Fine N.MappingClauseDefinition t
mapping_clause_definition_row (both (word w) (both (word n) (both (word e) (row c)))) head = c

pub mapping_whole_row : {t : Tree} → Made Fine (rule N.MappingWhole) t → Fine N.MappingWhole t
mapping_whole_row (both (word n) (both (left (both (word s) (both (row a) (both (word d) (row b))))) (both (word e) (both (word o) (row cs))))) head = cs
mapping_whole_row (both (word n) (both (right empty) (both (word e) (both (word o) (row cs))))) head = cs

pub let_row : {t : Tree} → Made Fine (rule N.LetDefinition) t → Fine N.LetDefinition t
let_row (both (word w) (both (row p) (both (word e) (row a)))) = quiet_fine _ a.exp

pub register_row : {t : Tree} → Made Fine (rule N.RegisterDefinition) t → Fine N.RegisterDefinition t
register_row (both (word {s = first} w) (both (word {s = called} n) (both (word s) (both (row {t = typ} h) initial)))) =
    register_fine (place_at (Leaf first)) (name_at (Leaf called)) (typ_of typ) _ (behind initial)

pub overload_row : {t : Tree} → Made Fine (rule N.OverloadDefinition) t → Fine N.OverloadDefinition t
overload_row (both (word w) (both what (both (word e) (both (word o) (both (row ns) (word c)))))) = refl

pub scattered_row : {t : Tree} → Made Fine (rule N.ScatteredDefinition) t → Fine N.ScatteredDefinition t
scattered_row (both (word w) (left (both (word u) (both (word n) (row ps))))) = refl
scattered_row (both (word w) (right (left (both (word f) (word n))))) = refl
scattered_row (both (word w) (right (right (both (word m) (word n))))) = refl

pub end_row : {t : Tree} → Made Fine (rule N.EndDefinition) t → Fine N.EndDefinition t
end_row (both (word w) (word n)) = refl

-- ---- parts of definitions

pub clauses_row : {t : Tree} → Made Fine (rule N.MappingClauses) t → Fine N.MappingClauses t
clauses_row (both (row c) (row more)) = two _ _ c more

pub clauses_tail_row : {t : Tree} → Made Fine (rule N.MappingClausesTail) t → Fine N.MappingClausesTail t
clauses_tail_row (left (both (word {s = s} w) (row more))) = more (Leaf s)
clauses_tail_row (right (word c)) = refl

pub clauses_more_row : {t : Tree} → Made Fine (rule N.MappingClausesMore) t → Fine N.MappingClausesMore t
clauses_more_row (left (word c)) comma = refl
clauses_more_row (right (both (row c) (row more))) comma = two _ _ c more

pub clause_row : {t : Tree} → Made Fine (rule N.MappingClause) t → Fine N.MappingClause t
clause_row (both (row a) (both (word d) (row b))) = two _ _ a b

pub side_row : {t : Tree} → Made Fine (rule N.MappingSide) t → Fine N.MappingSide t
side_row (both (row p) guarded) = guard_fine _ (behind guarded)
