use Rattle.std.proofs.Common.{◌≡◌, ◌∙◌, ap}
use Rattle.sail_core.specs.declared.tree.Callee.TheVariants as D
use Rattle.value_indices.specs.Walking.{got, run, seen}
use Rattle.value_indices.specs.declared.indices.Reading.TheVariants as R
use Rattle.value_fits.specs.Fitting.{fits, owe_fit}
use Rattle.call_arguments.specs.Placing.{call_conditions}
use Rattle.call_arguments.proofs.Lists.{found, left}
use Rattle.pattern_leaves.specs.Settings.{around_of}
use Rattle.call_notes.specs.Calls.{noted_call}
use Rattle.call_notes.specs.Noted.{made_opened}
use Rattle.call_notes.proofs.Turns.{twice_got, twice_run}
use Rattle.call_notes.proofs.calls.function_called.Goals as goal

pub returns : goal.returns
returns c =
    let place = c.args.place in
    let k = c.args.number in
    let f = c.args.function.now in
    let js = c.args.indices in
    let qs = c.args.readings in
    let is = c.args.arguments.now in
    let u = seen c.args.walking.now in
    let v = seen c.owe_call.new.walking in
    let w = seen c.note_call.new.walking in
    let owed = owe_fit place (call_conditions (fits (around_of c.args.around.now).types) f js qs c.args.nested.now is) in
    let noted = noted_call place k is (D.Function c.args.callee) js qs in
    let was : v ≡ run owed u =
    c.in_ok-owe_call.ensures
    ∙ (λ i. run (owe_fit place (call_conditions (fits (around_of c.args.around.now).types) f (c.as_slice-numbers.ensures i) (c.as_slice-types.ensures i)
    c.args.nested.now is)) u) in
    let result_is : c.in_ok-result.result ≡ R.Of f.result js qs =
    c.in_ok-result.ensures ∙ (λ i. R.Of f.result (c.as_slice-numbers.ensures i) (c.as_slice-types.ensures i)) in
    let last = made_opened place k is (R.Of f.result js qs) in
    record {
      value = found c.made_opened.result _ _ c.made_opened.ensures.value
          (ap (λ r. got (made_opened place k is r) w) result_is ∙ twice_got owed noted last u v w was c.in_ok-note_call.ensures);
      walked = left c.made_opened.result (seen c.made_opened.new.walking) _ _ c.made_opened.ensures.walked
          (ap (λ r. run (made_opened place k is r) w) result_is ∙ twice_run owed noted last u v w was c.in_ok-note_call.ensures);
    }
