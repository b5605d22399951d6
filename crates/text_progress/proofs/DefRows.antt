-- The rows of definitions and of their parts.
use Rattle.std.proofs.Common.{refl}
use Rattle.sail_grammar.specs.Form.{Tree, Leaf}
use Rattle.sail_grammar.specs.RowName as N
use Rattle.sail_grammar.specs.Table.{rule}
use Rattle.shape_joins.proofs.Order.{two}
use Rattle.text_progress.proofs.Trees.{Made, word, empty, left, right, both, row}
use Rattle.text_progress.proofs.TreeRows.{Fine}
use Rattle.text_progress.proofs.DefForms.{guard_fine, maybe_fine}
use Rattle.text_progress.proofs.TypeRows.{typ_behind}
use Rattle.text_progress.proofs.ExpRows.{behind}

pub definitions_row : {t : Tree} → Made Fine (rule N.Definitions) t → Fine N.Definitions t
definitions_row (left (both (row d) (row more))) = (d, more)
definitions_row (right empty) = tt

pub definition_row : {t : Tree} → Made Fine (rule N.Definition) t → Fine N.Definition t
definition_row (left (row d)) = d
definition_row (right (left (row d))) = d
definition_row (right (right (left (row d)))) = d
definition_row (right (right (right (left (row d))))) = d
definition_row (right (right (right (right (left (row d)))))) = d
definition_row (right (right (right (right (right (left (row d))))))) = d
definition_row (right (right (right (right (right (right (left (row d)))))))) = d
definition_row (right (right (right (right (right (right (right (left (row d))))))))) = d
definition_row (right (right (right (right (right (right (right (right (left (row d)))))))))) = d
definition_row (right (right (right (right (right (right (right (right (right (left (row d))))))))))) = d
definition_row (right (right (right (right (right (right (right (right (right (right (left (row d)))))))))))) = d
definition_row (right (right (right (right (right (right (right (right (right (right (right (left (row d))))))))))))) = d
definition_row (right (right (right (right (right (right (right (right (right (right (right (right (left (row d)))))))))))))) = d
definition_row (right (right (right (right (right (right (right (right (right (right (right (right (right (row d)))))))))))))) = d

-- ---- definitions

pub order_row : {t : Tree} → Made Fine (rule N.OrderDefinition) t → Fine N.OrderDefinition t
order_row (both (word w) rest) = refl

pub type_row : {t : Tree} → Made Fine (rule N.TypeDefinition) t → Fine N.TypeDefinition t
type_row (both (word w) (both (word n) (both (row ps) (both (row k) (both (word e) (row typ)))))) = typ

pub enum_row : {t : Tree} → Made Fine (rule N.EnumDefinition) t → Fine N.EnumDefinition t
enum_row (both (word w) (both (word n) (both (word e) members))) = refl

pub struct_row : {t : Tree} → Made Fine (rule N.StructDefinition) t → Fine N.StructDefinition t
struct_row (both (word w) (both (word n) (both (row ps) (both (word e) (both (word o) (both (row fs) (word c))))))) = fs

pub union_row : {t : Tree} → Made Fine (rule N.UnionDefinition) t → Fine N.UnionDefinition t
union_row (both (word {s = s} w) (left (row d))) = d (Leaf s)
union_row (both (word {s = s} w) (right (row d))) = d (Leaf s)

pub union_clause_row : {t : Tree} → Made Fine (rule N.UnionClause) t → Fine N.UnionClause t
union_clause_row (both (word w) (both (word n) (both (word e) (row m)))) head = m

pub union_whole_row : {t : Tree} → Made Fine (rule N.UnionWhole) t → Fine N.UnionWhole t
union_whole_row (both (word n) (both (row ps) (both (word e) (both (word o) (both (row ms) (word c)))))) head = ms

pub val_row : {t : Tree} → Made Fine (rule N.ValDefinition) t → Fine N.ValDefinition t
val_row (both (word w) (both (word n) (both (word s) (both q (both (row a) (both (word d) (row b))))))) = two _ _ a b

pub function_row : {t : Tree} → Made Fine (rule N.FunctionDefinition) t → Fine N.FunctionDefinition t
function_row (both (word w) (both (left (word k)) (both (word n) (both (row ps) (both result (both (word e) (row a))))))) =
    (two _ _ ps.list.typed (typ_behind result), two _ _ ps.list.are_written a.exp.is_written)
function_row (both (word w) (both (right empty) (both (word n) (both (row ps) (both result (both (word e) (row a))))))) =
    two _ _ (two _ _ (two _ _ ps.list.typed (typ_behind result)) refl) (two _ _ (two _ _ ps.list.are_written a.exp.is_written) refl)

pub measure_row : {t : Tree} → Made Fine (rule N.MeasureDefinition) t → Fine N.MeasureDefinition t
measure_row (both (word w) (both (word n) (both (row ps) (both (word e) (row a))))) = two _ _ ps.list.are_written a.exp.is_written

pub mapping_row : {t : Tree} → Made Fine (rule N.MappingDefinition) t → Fine N.MappingDefinition t
mapping_row (both (word {s = s} w) (left (row d))) = d (Leaf s)
mapping_row (both (word {s = s} w) (right (row d))) = d (Leaf s)

pub mapping_clause_definition_row : {t : Tree} → Made Fine (rule N.MappingClauseDefinition) t → Fine N.MappingClauseDefinition t
mapping_clause_definition_row (both (word w) (both (word n) (both (word e) (row c)))) head = c

pub mapping_whole_row : {t : Tree} → Made Fine (rule N.MappingWhole) t → Fine N.MappingWhole t
mapping_whole_row (both (word n) (both (left (both (word s) (both (row a) (both (word d) (row b))))) (both (word e) (both (word o) (row cs))))) head =
    two _ _ (two _ _ a b) cs
mapping_whole_row (both (word n) (both (right empty) (both (word e) (both (word o) (row cs))))) head = cs

pub let_row : {t : Tree} → Made Fine (rule N.LetDefinition) t → Fine N.LetDefinition t
let_row (both (word w) (both (row p) (both (word e) (row a)))) = two _ _ p.is_written a.exp.is_written

pub register_row : {t : Tree} → Made Fine (rule N.RegisterDefinition) t → Fine N.RegisterDefinition t
register_row (both (word w) (both (word n) (both (word s) (both (row typ) initial)))) = two _ _ typ (maybe_fine _ (behind initial))

pub overload_row : {t : Tree} → Made Fine (rule N.OverloadDefinition) t → Fine N.OverloadDefinition t
overload_row (both (word w) (both what (both (word e) (both (word o) (both (row ns) (word c)))))) = ns

pub scattered_row : {t : Tree} → Made Fine (rule N.ScatteredDefinition) t → Fine N.ScatteredDefinition t
scattered_row (both (word w) (left (both (word u) (both (word n) (row ps))))) = refl
scattered_row (both (word w) (right (left (both (word f) (word n))))) = refl
scattered_row (both (word w) (right (right (both (word m) (word n))))) = refl

pub end_row : {t : Tree} → Made Fine (rule N.EndDefinition) t → Fine N.EndDefinition t
end_row (both (word w) (word n)) = refl

-- ---- parts of definitions

pub names_row : {t : Tree} → Made Fine (rule N.Names) t → Fine N.Names t
names_row (both (word n) more) = refl

pub members_row : {t : Tree} → Made Fine (rule N.Members) t → Fine N.Members t
members_row (both (row m) (row more)) = two _ _ m more

pub members_tail_row : {t : Tree} → Made Fine (rule N.MembersTail) t → Fine N.MembersTail t
members_tail_row (left (both (word {s = s} w) (row more))) = more (Leaf s)
members_tail_row (right empty) = refl

pub members_more_row : {t : Tree} → Made Fine (rule N.MembersMore) t → Fine N.MembersMore t
members_more_row (left (both (row m) (row more))) comma = two _ _ m more
members_more_row (right empty) comma = refl

pub member_row : {t : Tree} → Made Fine (rule N.Member) t → Fine N.Member t
member_row (both (word n) (both (word s) (row typ))) = typ

pub clauses_row : {t : Tree} → Made Fine (rule N.MappingClauses) t → Fine N.MappingClauses t
clauses_row (both (row c) (row more)) = two _ _ c more

pub clauses_tail_row : {t : Tree} → Made Fine (rule N.MappingClausesTail) t → Fine N.MappingClausesTail t
clauses_tail_row (left (both (word {s = s} w) (row more))) = more (Leaf s)
clauses_tail_row (right (word c)) = refl

pub clauses_more_row : {t : Tree} → Made Fine (rule N.MappingClausesMore) t → Fine N.MappingClausesMore t
clauses_more_row (left (word c)) comma = refl
clauses_more_row (right (both (row c) (row more))) comma = two _ _ c more

pub clause_row : {t : Tree} → Made Fine (rule N.MappingClause) t → Fine N.MappingClause t
clause_row (both (row a) (both (word d) (row b))) = two _ _ a b

pub side_row : {t : Tree} → Made Fine (rule N.MappingSide) t → Fine N.MappingSide t
side_row (both (row p) guarded) = two _ _ (two _ _ p.is_written (guard_fine _ (behind guarded))) (p.side refl)
