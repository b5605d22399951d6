-- The rows of operators and of operands.
use Rattle.std.proofs.Common.{ℕ, List}
use Rattle.sail_grammar.specs.declared.mode.Mode.{Mode}
use Rattle.sail_grammar.specs.declared.mode.Mode.TheVariants.{Full, Limited}
use Rattle.sail_grammar.specs.Form.{Word, Empty, Row, ◌or◌, ◌then◌, Tree}
use Rattle.sail_grammar.specs.RowName as N
use Rattle.sail_grammar.specs.Table.{rule}
use Rattle.sail_grammar.specs.ExpTrees as T
use Rattle.text_progress.proofs.Trees.{Made, word, empty, left, right, both, row}
use Rattle.accepted_models.proofs.Manners.{suits_both, suits_leaf}
use Rattle.accepted_models.proofs.Rows.{Fine}
use Rattle.accepted_models.proofs.ExpForms.{FineIf, assert_fine, call_fine, constant_fine, in_brackets_fine, infix_fine, list_fine, of_type_fine}
use Rattle.accepted_models.proofs.ExpForms.{prefixed_fine, struct_fine, update_fine, variable_fine, vector_fine, with_suffixes_fine}
use Rattle.accepted_models.proofs.PartForms.{at_fine, dot_fine, index_fine}
use Rattle.accepted_models.proofs.ExpRows.{behind}

-- ---- operators

pub infix_row : (m : Mode) {t : Tree} → Made Fine (rule (N.Infix m)) t → Fine (N.Infix m) t
infix_row m (both (row a) (left (both (word s) (row b)))) = infix_fine m _ _ _ _ a b
infix_row m (both (row a) (right empty)) = a

pub and_row : (m : Mode) {t : Tree} → Made Fine (rule (N.InfixAnd m)) t → Fine (N.InfixAnd m) t
and_row m (both (row a) (left (both (word s) (row b)))) = infix_fine m _ _ _ _ a b
and_row m (both (row a) (right empty)) = a

pub comparison_row : (m : Mode) {t : Tree} → Made Fine (rule (N.InfixComparison m)) t → Fine (N.InfixComparison m) t
comparison_row m (both (row a) (left (both (word s) (row b)))) = infix_fine m _ _ _ _ a b
comparison_row m (both (row a) (right empty)) = a

pub append_row : (m : Mode) {t : Tree} → Made Fine (rule (N.InfixAppend m)) t → Fine (N.InfixAppend m) t
append_row m (both (row a) (left (both (word s) (row b)))) = infix_fine m _ _ _ _ a b
append_row m (both (row a) (right empty)) = a

pub sum_row : (m : Mode) {t : Tree} → Made Fine (rule (N.InfixSum m)) t → Fine (N.InfixSum m) t
sum_row m (both (row a) (row more)) = more _ a

pub sum_more_row : (m : Mode) {t : Tree} → Made Fine (rule (N.InfixSumMore m)) t → Fine (N.InfixSumMore m) t
sum_more_row m (left (both (word s) (both (row a) (row more)))) x h = more _ (infix_fine m _ _ _ _ h a)
sum_more_row m (right empty) x h = h

pub product_row : (m : Mode) {t : Tree} → Made Fine (rule (N.InfixProduct m)) t → Fine (N.InfixProduct m) t
product_row m (both (row a) (row more)) = more _ a

pub product_more_row : (m : Mode) {t : Tree} → Made Fine (rule (N.InfixProductMore m)) t → Fine (N.InfixProductMore m) t
product_more_row m (left (both (word s) (both (row a) (row more)))) x h = more _ (infix_fine m _ _ _ _ h a)
product_more_row m (right empty) x h = h

pub power_row : (m : Mode) {t : Tree} → Made Fine (rule (N.InfixPower m)) t → Fine (N.InfixPower m) t
power_row m (both (row a) (left (both (word s) (row b)))) = infix_fine m _ _ _ _ a b
power_row m (both (row a) (right empty)) = a

pub unary_row : (m : Mode) {t : Tree} → Made Fine (rule (N.Unary m)) t → Fine (N.Unary m) t
unary_row m (left (row a)) = a
unary_row m (right (left (row a))) = a
unary_row m (right (right (row a))) = a

pub negation_row : (m : Mode) {t : Tree} → Made Fine (rule (N.Negation m)) t → Fine (N.Negation m) t
negation_row m (both (word s) (row a)) = prefixed_fine m _ _ _ a

pub two_row : (m : Mode) {t : Tree} → Made Fine (rule (N.Power m)) t → Fine (N.Power m) t
two_row m (both (word s) (left (both (word o) (row a)))) = prefixed_fine m _ _ _ a
two_row m (both (word s) (right (both empty (row more)))) = with_suffixes_fine m _ _ _ (constant_fine m _ _) more

pub postfix_row : (m : Mode) {t : Tree} → Made Fine (rule (N.Postfix m)) t → Fine (N.Postfix m) t
postfix_row m (both (row a) (row more)) = with_suffixes_fine m _ _ _ a more

pub suffixes_row : (m : Mode) {t : Tree} → Made Fine (rule (N.Suffixes m)) t → Fine (N.Suffixes m) t
suffixes_row m (left (both (row a) (row more))) = suits_both m _ _ a more
suffixes_row m (right empty) = suits_leaf m

pub suffix_row : (m : Mode) {t : Tree} → Made Fine (rule (N.Suffix m)) t → Fine (N.Suffix m) t
suffix_row m (left (row a)) = a
suffix_row m (right (both (word d) (word n))) = dot_fine m _

pub index_row : (m : Mode) {t : Tree} → Made Fine (rule (N.Index m)) t → Fine (N.Index m) t
index_row m (both (word o) (both (row a) (both k (word c)))) = at_fine m _ _ (index_fine m _ _ a.exp (behind k))

-- ---- operands

pub atom_row : (m : Mode) {t : Tree} → Made Fine (rule (N.Atom m)) t → Fine (N.Atom m) t
atom_row m (left (word s)) = constant_fine m _ _
atom_row m (right (left (row a))) = a
atom_row m (right (right (left (row a)))) = a
atom_row m (right (right (right (left (row a))))) = a
atom_row m (right (right (right (right (left (row a)))))) = a
atom_row m (right (right (right (right (right (left (row a))))))) = a
atom_row m (right (right (right (right (right (right (left (row a)))))))) = a
atom_row m (right (right (right (right (right (right (right (left (row a))))))))) = a
atom_row m (right (right (right (right (right (right (right (right (left (row a)))))))))) = a m
atom_row m (right (right (right (right (right (right (right (right (right (row a)))))))))) = a

pub named_row : (m : Mode) {t : Tree} → Made Fine (rule (N.NamedExp m)) t → Fine (N.NamedExp m) t
named_row m (both (word n) (left (both (word o) (row es)))) = call_fine m _ _ es
named_row m (both (word n) (right empty)) = variable_fine m _

pub arguments_row : (m : Mode) {t : Tree} → Made Fine (rule (N.Arguments m)) t → Fine (N.Arguments m) t
arguments_row m (left (word c)) = tt
arguments_row m (right (both (row es) (word c))) = es

pub prefix_call_row : (m : Mode) {t : Tree} → Made Fine (rule (N.PrefixCall m)) t → Fine (N.PrefixCall m) t
prefix_call_row m (both (word w) (both (word o) (both (row a) (word c)))) = prefixed_fine m _ _ _ a.exp

pub group_row : (m : Mode) {t : Tree} → Made Fine (rule (N.GroupExp m)) t → Fine (N.GroupExp m) t
group_row m (both (word o) (row es)) = in_brackets_fine m _ _ es

pub vector_row : (m : Mode) {t : Tree} → Made Fine (rule (N.VectorExp m)) t → Fine (N.VectorExp m) t
vector_row m (both (word o) (both (row a) (both (left (row u)) (word c)))) = u _ _ a.exp
vector_row m (both (word o) (both (row a) (both (right (row more)) (word c)))) = vector_fine m _ _ (a.exp, more)

infix_behind : {ks ns : List ℕ} {m : Mode} {t : Tree} → Made Fine (Word ks then Row (N.Infix m) or Empty ns) t → FineIf m (T.infix_if t)
infix_behind (left (both (word w) (row a))) = a
infix_behind (right empty) = tt

pub update_row : (m : Mode) {t : Tree} → Made Fine (rule (N.Update m)) t → Fine (N.Update m) t
update_row m (both (word w) (both (row a) (both k (both (word e) (row b))))) place x h =
    update_fine m _ _ _ _ h (index_fine m _ _ a (infix_behind k)) b.exp

pub list_row : (m : Mode) {t : Tree} → Made Fine (rule (N.ListExp m)) t → Fine (N.ListExp m) t
list_row m (both (word o) (left (word c))) = list_fine m _ _ tt
list_row m (both (word o) (right (both (row es) (word c)))) = list_fine m _ _ es

pub struct_row : (m : Mode) {t : Tree} → Made Fine (rule (N.StructExp m)) t → Fine (N.StructExp m) t
struct_row m (both (word w) (both n (both (word o) (both (row vs) (word c))))) = struct_fine m _ _ _ vs

pub question_row : {t : Tree} → Made Fine (rule N.TypeQuestion) t → Fine N.TypeQuestion t
question_row (both (word w) (both (word o) (both (row typ) (word c)))) m = of_type_fine m _ _ _

pub assertion_row : (m : Mode) {t : Tree} → Made Fine (rule (N.Assertion m)) t → Fine (N.Assertion m) t
assertion_row Full (both (word w) (both (word o) (both (row a) (both text (word c))))) = assert_fine _ _ _ a.exp
assertion_row Limited made = elim made [ ]

pub exps_row : (m : Mode) {t : Tree} → Made Fine (rule (N.Exps m)) t → Fine (N.Exps m) t
exps_row m (both (row a) (row more)) = (a.exp, more)

pub exps_tail_row : (m : Mode) {t : Tree} → Made Fine (rule (N.ExpsTail m)) t → Fine (N.ExpsTail m) t
exps_tail_row m (left (both (word s) (both (row a) (row more)))) = (a.exp, more)
exps_tail_row m (right empty) = tt
