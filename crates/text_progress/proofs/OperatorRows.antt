-- The rows of operators and of operands.
use Rattle.std.proofs.Common.{ℕ, List, refl}
use Rattle.sail_grammar.specs.declared.mode.Mode.{Mode}
use Rattle.sail_grammar.specs.declared.mode.Mode.TheVariants.{Full, Limited}
use Rattle.sail_grammar.specs.Form.{Word, Empty, Row, ◌or◌, ◌then◌, Tree}
use Rattle.sail_grammar.specs.RowName as N
use Rattle.sail_grammar.specs.Table.{rule}
use Rattle.sail_grammar.specs.ExpTrees as T
use Rattle.shape_joins.proofs.Order.{two}
use Rattle.text_progress.proofs.Trees.{Made, word, empty, left, right, both, row}
use Rattle.text_progress.proofs.TreeRows.{Fine}
use Rattle.text_progress.proofs.Literals.{literal_within}
use Rattle.text_progress.proofs.ExpForms.{FineIf, assert_fine, call_fine, constant_fine, in_brackets_fine, infix_fine, list_fine, of_type_fine}
use Rattle.text_progress.proofs.ExpForms.{prefixed_fine, struct_fine, update_fine, variable_fine, vector_fine, with_suffixes_fine}
use Rattle.text_progress.proofs.PartForms.{at_fine, dot_fine, index_fine}
use Rattle.text_progress.proofs.ExpRows.{behind}

-- ---- operators

pub infix_row : {m : Mode} {t : Tree} → Made Fine (rule (N.Infix m)) t → Fine (N.Infix m) t
infix_row (both (row a) (left (both (word s) (row b)))) = infix_fine _ _ _ _ a b
infix_row (both (row a) (right empty)) = a

pub and_row : {m : Mode} {t : Tree} → Made Fine (rule (N.InfixAnd m)) t → Fine (N.InfixAnd m) t
and_row (both (row a) (left (both (word s) (row b)))) = infix_fine _ _ _ _ a b
and_row (both (row a) (right empty)) = a

pub comparison_row : {m : Mode} {t : Tree} → Made Fine (rule (N.InfixComparison m)) t → Fine (N.InfixComparison m) t
comparison_row (both (row a) (left (both (word s) (row b)))) = infix_fine _ _ _ _ a b
comparison_row (both (row a) (right empty)) = a

pub append_row : {m : Mode} {t : Tree} → Made Fine (rule (N.InfixAppend m)) t → Fine (N.InfixAppend m) t
append_row (both (row a) (left (both (word s) (row b)))) = infix_fine _ _ _ _ a b
append_row (both (row a) (right empty)) = a

pub sum_row : {m : Mode} {t : Tree} → Made Fine (rule (N.InfixSum m)) t → Fine (N.InfixSum m) t
sum_row (both (row a) (row more)) = more _ a

pub sum_more_row : {m : Mode} {t : Tree} → Made Fine (rule (N.InfixSumMore m)) t → Fine (N.InfixSumMore m) t
sum_more_row (left (both (word s) (both (row a) (row more)))) x h = more _ (infix_fine _ _ _ _ h a)
sum_more_row (right empty) x h = h

pub product_row : {m : Mode} {t : Tree} → Made Fine (rule (N.InfixProduct m)) t → Fine (N.InfixProduct m) t
product_row (both (row a) (row more)) = more _ a

pub product_more_row : {m : Mode} {t : Tree} → Made Fine (rule (N.InfixProductMore m)) t → Fine (N.InfixProductMore m) t
product_more_row (left (both (word s) (both (row a) (row more)))) x h = more _ (infix_fine _ _ _ _ h a)
product_more_row (right empty) x h = h

pub power_row : {m : Mode} {t : Tree} → Made Fine (rule (N.InfixPower m)) t → Fine (N.InfixPower m) t
power_row (both (row a) (left (both (word s) (row b)))) = infix_fine _ _ _ _ a b
power_row (both (row a) (right empty)) = a

pub unary_row : {m : Mode} {t : Tree} → Made Fine (rule (N.Unary m)) t → Fine (N.Unary m) t
unary_row (left (row a)) = a
unary_row (right (left (row a))) = a
unary_row (right (right (row a))) = a

pub negation_row : {m : Mode} {t : Tree} → Made Fine (rule (N.Negation m)) t → Fine (N.Negation m) t
negation_row (both (word s) (row a)) = prefixed_fine _ _ _ a

pub two_row : {m : Mode} {t : Tree} → Made Fine (rule (N.Power m)) t → Fine (N.Power m) t
two_row (both (word s) (left (both (word o) (row a)))) = prefixed_fine _ _ _ a
two_row (both (word {s = s} w) (right (both empty (row more)))) = with_suffixes_fine _ _ _ (constant_fine _ _ (literal_within s.kind s.text)) more

pub postfix_row : {m : Mode} {t : Tree} → Made Fine (rule (N.Postfix m)) t → Fine (N.Postfix m) t
postfix_row (both (row a) (row more)) = with_suffixes_fine _ _ _ a more

pub suffixes_row : {m : Mode} {t : Tree} → Made Fine (rule (N.Suffixes m)) t → Fine (N.Suffixes m) t
suffixes_row (left (both (row a) (row more))) = two _ _ a more
suffixes_row (right empty) = refl

pub suffix_row : {m : Mode} {t : Tree} → Made Fine (rule (N.Suffix m)) t → Fine (N.Suffix m) t
suffix_row (left (row a)) = a
suffix_row (right (both (word d) (word n))) = dot_fine _

pub index_row : {m : Mode} {t : Tree} → Made Fine (rule (N.Index m)) t → Fine (N.Index m) t
index_row (both (word o) (both (row a) (both k (word c)))) = at_fine _ _ (index_fine _ _ a.exp (behind k))

-- ---- operands

pub atom_row : {m : Mode} {t : Tree} → Made Fine (rule (N.Atom m)) t → Fine (N.Atom m) t
atom_row (left (word {s = s} w)) = constant_fine _ _ (literal_within s.kind s.text)
atom_row (right (left (row a))) = a
atom_row (right (right (left (row a)))) = a
atom_row (right (right (right (left (row a))))) = a
atom_row (right (right (right (right (left (row a)))))) = a
atom_row (right (right (right (right (right (left (row a))))))) = a
atom_row (right (right (right (right (right (right (left (row a)))))))) = a
atom_row (right (right (right (right (right (right (right (left (row a))))))))) = a
atom_row (right (right (right (right (right (right (right (right (left (row a)))))))))) = a
atom_row (right (right (right (right (right (right (right (right (right (row a)))))))))) = a

pub named_row : {m : Mode} {t : Tree} → Made Fine (rule (N.NamedExp m)) t → Fine (N.NamedExp m) t
named_row (both (word n) (left (both (word o) (row es)))) = call_fine _ _ es
named_row (both (word n) (right empty)) = variable_fine _

pub arguments_row : {m : Mode} {t : Tree} → Made Fine (rule (N.Arguments m)) t → Fine (N.Arguments m) t
arguments_row (left (word c)) = tt
arguments_row (right (both (row es) (word c))) = es

pub prefix_call_row : {m : Mode} {t : Tree} → Made Fine (rule (N.PrefixCall m)) t → Fine (N.PrefixCall m) t
prefix_call_row (both (word w) (both (word o) (both (row a) (word c)))) = prefixed_fine _ _ _ a.exp

pub group_row : {m : Mode} {t : Tree} → Made Fine (rule (N.GroupExp m)) t → Fine (N.GroupExp m) t
group_row (both (word o) (row es)) = in_brackets_fine _ _ es

pub vector_row : {m : Mode} {t : Tree} → Made Fine (rule (N.VectorExp m)) t → Fine (N.VectorExp m) t
vector_row (both (word o) (both (row a) (both (left (row u)) (word c)))) = u _ _ a.exp
vector_row (both (word o) (both (row a) (both (right (row more)) (word c)))) = vector_fine _ _ (a.exp, more)

infix_behind : {ks ns : List ℕ} {m : Mode} {t : Tree} → Made Fine (Word ks then Row (N.Infix m) or Empty ns) t → FineIf (T.infix_if t)
infix_behind (left (both (word w) (row a))) = a
infix_behind (right empty) = tt

pub update_row : {m : Mode} {t : Tree} → Made Fine (rule (N.Update m)) t → Fine (N.Update m) t
update_row (both (word w) (both (row a) (both k (both (word e) (row b))))) place x h =
    update_fine _ _ _ _ h (index_fine _ _ a (infix_behind k)) b.exp

pub list_row : {m : Mode} {t : Tree} → Made Fine (rule (N.ListExp m)) t → Fine (N.ListExp m) t
list_row (both (word o) (left (word c))) = list_fine _ _ tt
list_row (both (word o) (right (both (row es) (word c)))) = list_fine _ _ es

pub struct_row : {m : Mode} {t : Tree} → Made Fine (rule (N.StructExp m)) t → Fine (N.StructExp m) t
struct_row (both (word w) (both n (both (word o) (both (row vs) (word c))))) = struct_fine _ _ _ vs

pub question_row : {t : Tree} → Made Fine (rule N.TypeQuestion) t → Fine N.TypeQuestion t
question_row (both (word w) (both (word o) (both (row typ) (word c)))) = of_type_fine _ _ _

pub assertion_row : (m : Mode) {t : Tree} → Made Fine (rule (N.Assertion m)) t → Fine (N.Assertion m) t
assertion_row Full (both (word w) (both (word o) (both (row a) (both text (word c))))) = assert_fine _ _ _ a.exp
assertion_row Limited made = elim made [ ]

pub exps_row : {m : Mode} {t : Tree} → Made Fine (rule (N.Exps m)) t → Fine (N.Exps m) t
exps_row (both (row a) (row more)) = (a.exp, more)

pub exps_tail_row : {m : Mode} {t : Tree} → Made Fine (rule (N.ExpsTail m)) t → Fine (N.ExpsTail m) t
exps_tail_row (left (both (word s) (both (row a) (row more)))) = (a.exp, more)
exps_tail_row (right empty) = tt
