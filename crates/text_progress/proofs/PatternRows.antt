-- The rows of patterns.
use Rattle.sail_grammar.specs.declared.mode.Mode.{Mode}
use Rattle.sail_grammar.specs.declared.mode.Mode.TheVariants.{Full, Limited}
use Rattle.sail_grammar.specs.Form.{Tree}
use Rattle.sail_grammar.specs.RowName as N
use Rattle.sail_grammar.specs.Table.{rule}
use Rattle.shape_joins.proofs.Order.{no}
use Rattle.text_progress.proofs.Trees.{Made, word, empty, left, right, both, row}
use Rattle.text_progress.proofs.TreeRows.{Fine}
use Rattle.text_progress.proofs.Literals.{literal_within, number_within}
use Rattle.text_progress.proofs.PatternForms.{as_fine, bind_fine, concat_fine, cons_fine, constant_fine, construct_fine, grouped_fine, list_fine}
use Rattle.text_progress.proofs.PatternForms.{more_joined, more_patterns, negative_fine, no_joined, no_patterns, typed_fine, vector_fine, wildcard_fine}

pub pattern_row : {m : Mode} {t : Tree} → Made Fine (rule (N.Pattern m)) t → Fine (N.Pattern m) t
pattern_row (both (row a) (row more)) = more _ _ a

pub as_row : (m : Mode) {t : Tree} → Made Fine (rule (N.PatternAs m)) t → Fine (N.PatternAs m) t
as_row Full (left (both (word w) (word n))) place p h = as_fine _ _ _ h
as_row Full (right empty) place p h = h
as_row Limited (left (word w)) place p h = no w
as_row Limited (right empty) place p h = h

pub concat_row : {m : Mode} {t : Tree} → Made Fine (rule (N.PatternConcat m)) t → Fine (N.PatternConcat m) t
concat_row (both (row a) (left (both (word s) (row b)))) = cons_fine _ _ _ _ a b
concat_row (both (row a) (right (row more))) = more.0 _ a

pub appends_row : {m : Mode} {t : Tree} → Made Fine (rule (N.PatternAppends m)) t → Fine (N.PatternAppends m) t
appends_row (left (both (word s) (both (row a) (row more)))) = (λ p h. concat_fine _ _ _ _ _ h a more.1, more_joined _ _ _ _ a more.1)
appends_row (right empty) = (λ p h. h, no_joined _)

pub typed_row : {m : Mode} {t : Tree} → Made Fine (rule (N.PatternTyped m)) t → Fine (N.PatternTyped m) t
typed_row (both (row a) (left (both (word s) (row b)))) = typed_fine _ _ _ _ a b
typed_row (both (row a) (right empty)) = a

pub base_row : {m : Mode} {t : Tree} → Made Fine (rule (N.PatternBase m)) t → Fine (N.PatternBase m) t
base_row (left (row a)) = a
base_row (right (left (word {s = s} w))) = constant_fine _ _ _ (literal_within s.kind s.text)
base_row (right (right (left (row a)))) = a _
base_row (right (right (right (left (row a))))) = a
base_row (right (right (right (right (left (row a)))))) = a.group
base_row (right (right (right (right (right (left (row a))))))) = a
base_row (right (right (right (right (right (right (row a))))))) = a

pub wildcard_row : (m : Mode) {t : Tree} → Made Fine (rule (N.PatternWildcard m)) t → Fine (N.PatternWildcard m) t
wildcard_row Full (word w) = wildcard_fine _
wildcard_row Limited (word w) = no w

pub negative_row : {t : Tree} → Made Fine (rule N.PatternNegative) t → Fine N.PatternNegative t
negative_row (both (word w) (word {s = s} n)) m = negative_fine _ _ _ (number_within s.text)

pub named_row : {m : Mode} {t : Tree} → Made Fine (rule (N.PatternNamed m)) t → Fine (N.PatternNamed m) t
named_row (both (word n) (left (row a))) = construct_fine _ _ _ a.list
named_row (both (word n) (right empty)) = bind_fine _ _

pub group_row : {m : Mode} {t : Tree} → Made Fine (rule (N.PatternGroup m)) t → Fine (N.PatternGroup m) t
group_row (both (word o) (left (word c))) = record { group = grouped_fine _ _ _ (no_patterns _); list = no_patterns _ }
group_row (both (word o) (right (both (row ps) (word c)))) = record { group = grouped_fine _ _ _ ps; list = ps }

pub vector_row : {m : Mode} {t : Tree} → Made Fine (rule (N.PatternVector m)) t → Fine (N.PatternVector m) t
vector_row (both (word o) (both (row ps) (word c))) = vector_fine _ _ _ ps

pub list_row : {m : Mode} {t : Tree} → Made Fine (rule (N.PatternList m)) t → Fine (N.PatternList m) t
list_row (both (word o) (left (word c))) = list_fine _ _ _ (no_patterns _)
list_row (both (word o) (right (both (row ps) (word c)))) = list_fine _ _ _ ps

pub patterns_row : {m : Mode} {t : Tree} → Made Fine (rule (N.Patterns m)) t → Fine (N.Patterns m) t
patterns_row (both (row a) (row more)) = more_patterns _ _ _ a more

pub patterns_tail_row : {m : Mode} {t : Tree} → Made Fine (rule (N.PatternsTail m)) t → Fine (N.PatternsTail m) t
patterns_tail_row (left (both (word s) (both (row a) (row more)))) = more_patterns _ _ _ a more
patterns_tail_row (right empty) = no_patterns _
