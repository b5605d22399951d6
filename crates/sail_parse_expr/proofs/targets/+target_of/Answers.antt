use Rattle.std.proofs.Common.{◌≡◌, ◌+◌, ◌*◌, ◌∷◌, [], sym, ap, ◌∙◌, append_assoc, length, arith}
use Rattle.std.specs.Prelude.{option_map}
use denote.Param.Weighed.{most}
use Rattle.std.specs.Vec.Iter.{into_iter_items}
use Rattle.sail_syntax.specs.declared.expressions.LExp.TheVariants as L
use Rattle.sail_syntax.proofs.expressions.Exp.TheLaws.{the_size}
use Rattle.sail_grammar.specs.Targets.{part_target, target}
use Rattle.sail_parse_expr.specs.TargetLists.{some_targets}
use Rattle.sail_parse_expr.proofs.TargetRows as R
use Rattle.sail_parse_expr.proofs.targets.+target_of.Goals as goal

pub target_of-returns-in-Variable : goal.target_of-returns-in-Variable
target_of-returns-in-Variable t c = R.new_name c.args.value c.in-Variable.name c.in-Variable.ensures c.in_ok-new-in-Variable.ensures

pub target_of-returns-then-is_empty : goal.target_of-returns-then-is_empty
target_of-returns-then-is_empty t c =
    R.no_call c.args.value c.in-Call.name c.in-Call.arguments c.in-Call.ensures c.is_empty.ensures.count c.if-is_empty.true

pub target_of-returns-in-Call : goal.target_of-returns-in-Call
target_of-returns-in-Call t c = R.new_call c.args.value c.in-Call.name c.in-Call.arguments c.in-Call.ensures c.is_empty.ensures.count c.if-is_empty.false
    c.in_ok-new-in-Call.ensures

pub target_of-returns-in-Tuple : goal.target_of-returns-in-Tuple
target_of-returns-in-Tuple t c =
    R.of_result {P = λ found. found ≡ option_map (L.ToTuple c.in-Group.place) (some_targets c.in-Group.parts)} c.to_tuple.result c.to_tuple.ensures
    (λ found h. h ∙ R.new_tuple c.args.value c.in-Group.place c.in-Group.brackets c.in-Group.parts c.in-Group.ensures c.in-Tuple.is)

pub target_of-returns-in-Group : goal.target_of-returns-in-Group
target_of-returns-in-Group t c =
    R.no_group c.args.value c.in-Group.place c.in-Group.brackets c.in-Group.parts c.in-Group.ensures c.in_default-brackets.not-Tuple

pub target_of-returns-in-Part : goal.target_of-returns-in-Part
target_of-returns-in-Part t c =
    R.of_result {P = λ found. found ≡ option_map (part_target c.in-Part.place c.in-Part.suffixes) (target c.in-Part.base)} c.to_part.result
    c.to_part.ensures (λ found h. h ∙ R.new_part c.args.value c.in-Part.place c.in-Part.base c.in-Part.suffixes c.in-Part.ensures)

pub target_of-returns : goal.target_of-returns
target_of-returns t c = sym (ap target (sym c.into_inner.ensures) ∙
    R.no_target c.into_inner.result c.in_default.not-Variable c.in_default.not-Call c.in_default.not-Group c.in_default.not-Part)

-- each part is below the tuple that it stands in
pub to_targets-target_of-requires : goal.to_targets-target_of-requires
to_targets-target_of-requires t c =
    let deep = R.not_deeper the_size c.loop-part.yielded c.loop-part.invariant.left c.in-Some.ensures.steps.0 c.in_ok-new.ensures in
    let below : 3 * most the_size c.args.parts + 1 ≡ t = c.decreases in
    (omega (arith, deep, below), tt)

pub to_targets-loop-part-preserved : goal.to_targets-loop-part-preserved
to_targets-loop-part-preserved t c =
    let l = c.loop-part in
    let steps : into_iter_items l.part-iterator ≡ c.in-Some.part ∷ into_iter_items c.next.new.self = c.in-Some.ensures.steps.0 in
    record {
      known =
          let was = l.invariant.known in
          let gone = c.in-Some.ensures.steps.1 in
          let short = ap length steps in
          omega arith;
      left = append_assoc l.yielded (c.in-Some.part ∷ []) _ ∙ rw (← steps) l.invariant.left;
      all = R.step_more l.list steps l.invariant.all c.in_ok-new.ensures c.in_ok-target.ensures c.in-Some-2.is c.into_inner.ensures
          c.in_ok-push-in-Some-2.ensures.pushed;
    }
