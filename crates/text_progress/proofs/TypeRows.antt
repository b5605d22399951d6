-- The rows of types.
use Rattle.std.proofs.Common.{◌≡◌, ℕ, true, List, refl}
use Rattle.sail_grammar.specs.declared.mode.Mode.{Mode}
use Rattle.sail_grammar.specs.declared.mode.Mode.TheVariants.{Full}
use Rattle.sail_grammar.specs.Form.{Word, Empty, Row, ◌or◌, ◌then◌, Tree}
use Rattle.sail_grammar.specs.RowName as N
use Rattle.sail_grammar.specs.Table.{rule}
use Rattle.sail_grammar.specs.TypeTrees as T
use Rattle.sail_grammar.specs.ExpTrees.{typ_if}
use Rattle.shape_joins.proofs.Order.{two}
use Rattle.known_texts.specs.Written.{maybe_type_written}
use Rattle.text_progress.proofs.Trees.{Made, word, empty, left, right, both, row}
use Rattle.text_progress.proofs.TreeRows.{Fine}
use Rattle.text_progress.proofs.TypeForms.{all_types, exists_fine, grouped_fine, infix_fine, named_fine, number_fine, one_of_fine, prefix_fine}
use Rattle.text_progress.proofs.TypeForms.{truth_fine, variable_fine}

pub typ_row : {m : Mode} {t : Tree} → Made Fine (rule (N.Typ m)) t → Fine (N.Typ m) t
typ_row (both (row a) (left (both (word s) (row b)))) = infix_fine _ _ _ _ a b
typ_row (both (row a) (right empty)) = a

pub and_row : {m : Mode} {t : Tree} → Made Fine (rule (N.TypeAnd m)) t → Fine (N.TypeAnd m) t
and_row (both (row a) (left (both (word s) (row b)))) = infix_fine _ _ _ _ a b
and_row (both (row a) (right empty)) = a

pub comparison_row : {m : Mode} {t : Tree} → Made Fine (rule (N.TypeComparison m)) t → Fine (N.TypeComparison m) t
comparison_row (both (row a) (left (both (word s) (row b)))) = infix_fine _ _ _ _ a b
comparison_row (both (row a) (right (left (row b)))) = one_of_fine _ _ _ a
comparison_row (both (row a) (right (right empty))) = a

pub sum_row : {t : Tree} → Made Fine (rule N.TypeSum) t → Fine N.TypeSum t
sum_row (both (row a) (row more)) = more _ a

pub sum_more_row : {t : Tree} → Made Fine (rule N.TypeSumMore) t → Fine N.TypeSumMore t
sum_more_row (left (both (word s) (both (row a) (row more)))) x h = more _ (infix_fine _ _ _ _ h a)
sum_more_row (right empty) x h = h

pub product_row : {t : Tree} → Made Fine (rule N.TypeProduct) t → Fine N.TypeProduct t
product_row (both (row a) (row more)) = more _ a

pub product_more_row : {t : Tree} → Made Fine (rule N.TypeProductMore) t → Fine N.TypeProductMore t
product_more_row (left (both (word s) (both (row a) (row more)))) x h = more _ (infix_fine _ _ _ _ h a)
product_more_row (right empty) x h = h

pub atom_row : {t : Tree} → Made Fine (rule N.TypeAtom) t → Fine N.TypeAtom t
atom_row (left (row a)) = a
atom_row (right (left (word s))) = variable_fine _
atom_row (right (right (left (row a)))) = a
atom_row (right (right (right (left (word s))))) = number_fine _ _
atom_row (right (right (right (right (left (row a)))))) = a
atom_row (right (right (right (right (right (left (word s))))))) = truth_fine _ _
atom_row (right (right (right (right (right (right (left (row a)))))))) = a
atom_row (right (right (right (right (right (right (right (left (row a))))))))) = a
atom_row (right (right (right (right (right (right (right (right (row a))))))))) = a

pub named_row : {t : Tree} → Made Fine (rule N.TypeNamed) t → Fine N.TypeNamed t
named_row (both (word s) (left (both (word o) (both (row ts) (word c))))) = named_fine _ _ (all_types _ ts)
named_row (both (word s) (right empty)) = named_fine _ _ refl

pub power_row : {t : Tree} → Made Fine (rule N.TypePower) t → Fine N.TypePower t
power_row (both (word s) (left (both (word o) (row a)))) = prefix_fine _ _ _ a
power_row (both (word s) (right empty)) = number_fine _ _

pub negation_row : {t : Tree} → Made Fine (rule N.TypeNegation) t → Fine N.TypeNegation t
negation_row (both (word s) (row a)) = prefix_fine _ _ _ a

pub not_row : {t : Tree} → Made Fine (rule N.TypeNot) t → Fine N.TypeNot t
not_row (both (word s) (both (word o) (both (row a) (word c)))) = prefix_fine _ _ _ a

pub group_row : {t : Tree} → Made Fine (rule N.TypeGroup) t → Fine N.TypeGroup t
group_row (both (word o) (both (row ts) (word c))) = grouped_fine _ _ ts

constraint_of : {ks ns : List ℕ} {t : Tree} → Made Fine (Word ks then Row (N.Typ Full) or Empty ns) t
    → maybe_type_written (T.type_constraint_of t) ≡ true
constraint_of (left (both (word s) (row a))) = a
constraint_of (right empty) = refl

pub exists_row : {t : Tree} → Made Fine (rule N.TypeExists) t → Fine N.TypeExists t
exists_row (both (word o) (both (word v) (both (row vs) (both k (both (word d) (both (row a) (word c))))))) = exists_fine _ _ _ _ (constraint_of k) a

pub types_row : {t : Tree} → Made Fine (rule N.Types) t → Fine N.Types t
types_row (both (row a) (row more)) = (a, more)

pub types_tail_row : {t : Tree} → Made Fine (rule N.TypesTail) t → Fine N.TypesTail t
types_tail_row (left (both (word s) (both (row a) (row more)))) = two _ _ a more
types_tail_row (right empty) = refl

-- the type behind a word, if it is there
pub typ_behind : {ks ns : List ℕ} {t : Tree} → Made Fine (Word ks then Row (N.Typ Full) or Empty ns) t → maybe_type_written (typ_if t) ≡ true
typ_behind (left (both (word s) (row a))) = a
typ_behind (right empty) = refl
