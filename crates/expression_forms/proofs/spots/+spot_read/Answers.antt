use Rattle.std.proofs.Common.{◌∙◌, ◌+◌, ap, sym, List, [], map, drop}
use Rattle.value_indices.specs.Steps.{Walk}
use Rattle.value_indices.specs.Walking.{got, run, seen}
use Rattle.value_indices.specs.declared.indices.Indices.{Indices}
use Rattle.value_indices.specs.declared.indices.Indices.TheVariants as I
use Rattle.value_indices.proofs.Walks.{run_give}
use Rattle.wide_types.proofs.Turns.{found, left_as}
use Rattle.pattern_leaves.specs.Settings.{around_of}
use Rattle.pattern_leaves.proofs.Walked.{ended_by, pushed_got, pushed_run, then_got, then_run}
use Rattle.call_notes.specs.Noted.{node_ended}
use Rattle.expression_forms.specs.Spots.{Spot, each_read, spot_of}
use Rattle.expression_forms.proofs.SpotForms.{read_end, read_more, tuple_is}
use Rattle.expression_forms.proofs.spots.+spot_read.Goals as goal

pub Spot::read-returns-in_ok-parts-in-Tuple : goal.Spot::read-returns-in_ok-parts-in-Tuple
Spot::read-returns-in_ok-parts-in-Tuple t c =
    let around = around_of c.args.around.now in
    let k = c.in-Tuple.number in
    let spots = c.as_slice.result.now in
    let is = tuple_is around c.args.self.now c.in-Tuple.field-0 k c.in-Tuple.spots spots c.in-Tuple.is c.as_slice.ensures in
    let all = each_read (map (spot_of around) spots) in
    let ends = λ (parts : List Indices). node_ended k parts (I.Tuple parts) in
    let w = seen c.args.walking.now in
    let v = seen c.read_each.new.walking in
    let read = c.in_ok-parts-in-Tuple in record {
      value = found c.tuple_ended.result _ _ c.tuple_ended.ensures.value
          (then_got all ends w v read.parts read.ensures.value read.ensures.walked ∙ sym (ap (λ (s : Spot). got s.read w) is));
      walked = left_as c.tuple_ended.result (seen c.tuple_ended.new.walking) _ _ c.tuple_ended.ensures.walked
          (then_run all ends w v read.parts read.ensures.value read.ensures.walked ∙ sym (ap (λ (s : Spot). run s.read w) is));
    }

pub read_each-loop-spot-preserved : goal.read_each-loop-spot-preserved
read_each-loop-spot-preserved t c =
    let around = around_of c.args.around.now in
    let ss = c.args.spots.now in
    let k = c.loop-spot.spot-index in
    let s = c.spot-item.result in
    let first = (spot_of around s).read in
    let whole = each_read (map (spot_of around) (drop k ss)) in
    let rest = each_read (map (spot_of around) (drop (k + 1) ss)) in
    let opens = read_more around ss k s c.loop-spot-test.true c.spot-item.is in
    let v = seen c.loop-spot.walking in
    let w = seen c.read.new.walking in record {
      value = pushed_got c.loop-spot.made c.push.new.self c.in_ok-read.field-0 whole rest first v w c.in_ok-push.ensures.pushed
          c.in_ok-read.ensures.value c.in_ok-read.ensures.walked opens ∙ c.loop-spot.invariant.value;
      walked = pushed_run whole rest first v w c.in_ok-read.ensures.walked opens ∙ c.loop-spot.invariant.walked;
    }

pub read_each-returns-clause-value : goal.read_each-returns-clause-value
read_each-returns-clause-value t c =
    let k = c.loop-spot.spot-index in
    let v = seen c.loop-spot.walking in
    ended_by c.loop-spot.made _ v _ (read_end (around_of c.args.around.now) c.args.spots.now k c.loop-spot-test.false) c.loop-spot.invariant.value

pub read_each-returns-clause-walked : goal.read_each-returns-clause-walked
read_each-returns-clause-walked t c =
    let k = c.loop-spot.spot-index in
    let v = seen c.loop-spot.walking in
    sym (run_give {A = List Indices} [] v)
    ∙ ap (λ (a : Walk (List Indices)). run a v) (sym (read_end (around_of c.args.around.now) c.args.spots.now k c.loop-spot-test.false))
    ∙ c.loop-spot.invariant.walked
