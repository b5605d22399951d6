-- The rows of expressions around operands.
use Rattle.std.proofs.Common.{ℕ, List, refl}
use Rattle.sail_grammar.specs.declared.mode.Mode.{Mode}
use Rattle.sail_grammar.specs.declared.mode.Mode.TheVariants.{Full, Limited}
use Rattle.sail_grammar.specs.Form.{Word, Empty, Row, ◌or◌, ◌then◌, Tree, Leaf}
use Rattle.sail_grammar.specs.RowName as N
use Rattle.sail_grammar.specs.Table.{rule}
use Rattle.sail_grammar.specs.ExpTrees as T
use Rattle.shape_joins.proofs.Order.{no, two}
use Rattle.text_progress.proofs.Trees.{Made, word, empty, left, right, both, guard, bar, row}
use Rattle.text_progress.proofs.TreeRows.{Fine}
use Rattle.text_progress.proofs.ExpForms.{FineIf, aimed, assign_fine, choose_fine, foreach_fine, if_fine, leave_fine, let_fine, loop_fine, typed_fine}
use Rattle.text_progress.proofs.ExpForms.{var_fine}
use Rattle.text_progress.proofs.PartForms.{case_fine, further_fine, range_fine}

-- the expression behind a word, if they are there
pub behind : {ks ns : List ℕ} {m : Mode} {t : Tree} → Made Fine (Word ks then Row (N.Exp m) or Empty ns) t → FineIf (T.behind_word t)
behind (left (both (word w) (row a))) = a.exp
behind (right empty) = tt

pub exp_row : {m : Mode} {t : Tree} → Made Fine (rule (N.Exp m)) t → Fine (N.Exp m) t
exp_row (left (row a)) = record { exp = a; targets = refl; value = a }
exp_row (right (left (row a))) = record { exp = a; targets = refl; value = a }
exp_row (right (right (row a))) = a

pub let_row : {m : Mode} {t : Tree} → Made Fine (rule (N.LetIn m)) t → Fine (N.LetIn m) t
let_row (both (word w) (both (row p) (both (word e) (both (row a) (both (word i) (row b)))))) = let_fine _ _ _ _ p.is_written a.exp b.exp

pub var_row : {m : Mode} {t : Tree} → Made Fine (rule (N.VarIn m)) t → Fine (N.VarIn m) t
var_row (both (word w) (both (word n) (both typ (both (word e) (both (row a) (both (word i) (row b))))))) = var_fine _ _ _ _ _ a.exp b.exp

pub inner_row : {m : Mode} {t : Tree} → Made Fine (rule (N.ExpInner m)) t → Fine (N.ExpInner m) t
inner_row (left (row a)) = record { exp = a; targets = refl; value = a }
inner_row (right (left (row a))) = record { exp = a; targets = refl; value = a }
inner_row (right (right (left (row a)))) = record { exp = a; targets = refl; value = a }
inner_row (right (right (right (row a)))) = a

pub if_row : {m : Mode} {t : Tree} → Made Fine (rule (N.If m)) t → Fine (N.If m) t
if_row (both (word w) (both (row a) (both (word h) (both (row b) o)))) = if_fine _ _ _ _ a.exp b.exp (behind o)

pub match_row : {m : Mode} {t : Tree} → Made Fine (rule (N.Match m)) t → Fine (N.Match m) t
match_row (both (word w) (both (row a) (row cs))) = choose_fine _ _ _ _ a.exp cs

pub control_row : (m : Mode) {t : Tree} → Made Fine (rule (N.Control m)) t → Fine (N.Control m) t
control_row Full (left (row a)) = a
control_row Full (right (left (row a))) = a
control_row Full (right (right (left (row a)))) = a
control_row Full (right (right (right (left (row a))))) = a
control_row Full (right (right (right (right (row a))))) = a
control_row Limited made = elim made [ ]

pub try_row : {t : Tree} → Made Fine (rule N.Try) t → Fine N.Try t
try_row (both (word w) (both (row a) (both (word k) (row cs)))) = choose_fine _ _ _ _ a.exp cs

pub foreach_row : {t : Tree} → Made Fine (rule N.Foreach) t → Fine N.Foreach t
foreach_row (both (word w) (both (word p) (both (word n) (both (word f) (both (row a) (both (word d) (both (row b) (both by (both way (both (word q)
    (row body))))))))))) = foreach_fine _ _ _ _ (range_fine _ _ _ _ a.exp b.exp (behind by)) body.exp

pub while_row : {t : Tree} → Made Fine (rule N.While) t → Fine N.While t
while_row (both (word w) (both (row m) (both (row a) (both (word d) (row b))))) = loop_fine _ _ _ _ _ m a.exp b.exp

pub repeat_row : {t : Tree} → Made Fine (rule N.Repeat) t → Fine N.Repeat t
repeat_row (both (word w) (both (row m) (both (row b) (both (word u) (row a))))) = loop_fine _ _ _ _ _ m a.exp b.exp

pub leave_row : {t : Tree} → Made Fine (rule N.Leave) t → Fine N.Leave t
leave_row (both (word w) (row a)) = leave_fine _ _ _ a.exp

pub loop_measure_row : {t : Tree} → Made Fine (rule N.LoopMeasure) t → Fine N.LoopMeasure t
loop_measure_row (left (both (word w) (both (word o) (both (row a) (word c))))) = a.exp
loop_measure_row (right empty) = tt

pub assignment_row : (m : Mode) {t : Tree} → Made Fine (rule (N.Assignment m)) t → Fine (N.Assignment m) t
assignment_row Full (both (guard (row a)) (left (both (word s) (row b)))) = record {
  exp = assign_fine _ _ _ _ (aimed _ a) b.targets b.value;
  targets = two _ _ (further_fine _ _ (aimed _ a)) b.targets;
  value = b.value;
}
assignment_row Full (both (guard (row a)) (right (left (both (word s) (row typ))))) =
    record { exp = typed_fine _ _ _ a; targets = refl; value = typed_fine _ _ _ a }
assignment_row Full (both (guard (row a)) (right (right empty))) = record { exp = a; targets = refl; value = a }
assignment_row Limited (both (bar (row a)) (left (word w))) = no w
assignment_row Limited (both (bar (row a)) (right (left (both (word s) (row typ))))) =
    record { exp = typed_fine _ _ _ a; targets = refl; value = typed_fine _ _ _ a }
assignment_row Limited (both (bar (row a)) (right (right empty))) = record { exp = a; targets = refl; value = a }

pub cases_row : {m : Mode} {t : Tree} → Made Fine (rule (N.Cases m)) t → Fine (N.Cases m) t
cases_row (both (word o) (both (row a) (row more))) = two _ _ a more

pub cases_tail_row : {m : Mode} {t : Tree} → Made Fine (rule (N.CasesTail m)) t → Fine (N.CasesTail m) t
cases_tail_row (left (both (word {s = s} w) (row more))) = more (Leaf s)
cases_tail_row (right (word c)) = refl

pub cases_more_row : {m : Mode} {t : Tree} → Made Fine (rule (N.CasesMore m)) t → Fine (N.CasesMore m) t
cases_more_row (left (word c)) comma = refl
cases_more_row (right (both (row a) (row more))) comma = two _ _ a more

pub case_row : {m : Mode} {t : Tree} → Made Fine (rule (N.Case m)) t → Fine (N.Case m) t
case_row (both (row p) (both o (both (word w) (row a)))) = case_fine _ _ _ p.is_written (behind o) a.exp
