-- The rows of blocks and of the values of fields.
use Rattle.std.proofs.Common.{true, false, [], ◌∷◌, refl}
use Rattle.sail_grammar.specs.declared.mode.Mode.{Mode}
use Rattle.sail_grammar.specs.declared.mode.Mode.TheVariants.{Full, Limited}
use Rattle.sail_grammar.specs.Form.{Tree, Leaf}
use Rattle.sail_grammar.specs.RowName as N
use Rattle.sail_grammar.specs.Table.{rule}
use Rattle.shape_joins.proofs.Order.{two}
use Rattle.text_progress.proofs.Trees.{Made, word, empty, left, right, both, guard, hold, row}
use Rattle.text_progress.proofs.TreeRows.{Fine}
use Rattle.text_progress.proofs.ExpForms.{let_fine, var_fine, with_fine}
use Rattle.text_progress.proofs.PartForms.{declare_fine, define_fine, evaluate_fine, field_fine, statement_exp, statements_fine}

pub block_row : (m : Mode) {t : Tree} → Made Fine (rule (N.Block m)) t → Fine (N.Block m) t
block_row Full (both (word o) (left (word c))) = statements_fine _ [] true tt
block_row Full (both (word o) (right (row a))) = a _
block_row Limited (both (hold (both (word o) (left forbidden))) rest) = elim forbidden [ ]
block_row Limited (both (hold (both (word o) (right (both (guard (row s)) (left forbidden))))) rest) = elim forbidden [ ]
block_row Limited (both (hold (both (word o) (right (both (guard (row s)) (right empty))))) (both (word w) (both (row vs) (word c)))) =
    with_fine _ _ _ (statement_exp _ s) vs

pub block_body_row : {t : Tree} → Made Fine (rule N.BlockBody) t → Fine N.BlockBody t
block_body_row (both (guard (row s)) (row more)) place = more _ _ s

pub block_more_row : {t : Tree} → Made Fine (rule N.BlockMore) t → Fine N.BlockMore t
block_more_row (left (both (word w) (both (row vs) (word c)))) place s h = with_fine _ _ _ (statement_exp s h) vs
block_more_row (right (left (both (word d) (row more)))) place s h = statements_fine place (s ∷ _) _ (h, more)
block_more_row (right (right (word c))) place s h = statements_fine place (s ∷ []) false (h, tt)

pub statements_row : {t : Tree} → Made Fine (rule N.Statements) t → Fine N.Statements t
statements_row (left (word c)) = tt
statements_row (right (both (row a) (row more))) = more _ a

pub statements_more_row : {t : Tree} → Made Fine (rule N.StatementsMore) t → Fine N.StatementsMore t
statements_more_row (left (both (word d) (row more))) s h = (h, more)
statements_more_row (right (word c)) s h = (h, tt)

pub statement_row : {m : Mode} {t : Tree} → Made Fine (rule (N.Statement m)) t → Fine (N.Statement m) t
statement_row (left (row a)) = a
statement_row (right (left (row a))) = a
statement_row (right (right (row a))) = evaluate_fine _ a.exp

pub let_statement_row : {m : Mode} {t : Tree} → Made Fine (rule (N.LetStatement m)) t → Fine (N.LetStatement m) t
let_statement_row (both (word w) (both (row p) (both (word e) (both (row a) (left (both (word i) (row b))))))) =
    evaluate_fine _ (let_fine _ _ _ _ p.is_written a.exp b.exp)
let_statement_row (both (word w) (both (row p) (both (word e) (both (row a) (right empty))))) = define_fine _ _ _ p.is_written a.exp

pub var_statement_row : {m : Mode} {t : Tree} → Made Fine (rule (N.VarStatement m)) t → Fine (N.VarStatement m) t
var_statement_row (both (word w) (both (word n) (both typ (both (word e) (both (row a) (left (both (word i) (row b)))))))) =
    evaluate_fine _ (var_fine _ _ _ _ _ a.exp b.exp)
var_statement_row (both (word w) (both (word n) (both typ (both (word e) (both (row a) (right empty)))))) = declare_fine _ _ _ _ a.exp

pub values_row : {m : Mode} {t : Tree} → Made Fine (rule (N.FieldValues m)) t → Fine (N.FieldValues m) t
values_row (both (row a) (row more)) = two _ _ a more

pub values_tail_row : {m : Mode} {t : Tree} → Made Fine (rule (N.FieldValuesTail m)) t → Fine (N.FieldValuesTail m) t
values_tail_row (left (both (word {s = s} w) (row more))) = more (Leaf s)
values_tail_row (right empty) = refl

pub values_more_row : {m : Mode} {t : Tree} → Made Fine (rule (N.FieldValuesMore m)) t → Fine (N.FieldValuesMore m) t
values_more_row (left (both (row a) (row more))) comma = two _ _ a more
values_more_row (right empty) comma = refl

pub value_row : {m : Mode} {t : Tree} → Made Fine (rule (N.FieldValue m)) t → Fine (N.FieldValue m) t
value_row (both (word n) (both (word e) (row a))) = field_fine _ _ a.exp
