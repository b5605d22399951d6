use Rattle.std.proofs.Common.{◌≡◌, ◌∙◌, sym, length}
use Rattle.value_indices.specs.Walking.{seen}
use Rattle.call_arguments.specs.Callees.{numbers_from, types_from}
use Rattle.call_arguments.proofs.Lists.{found, left}
use Rattle.pattern_leaves.specs.Settings.{around_of}
use Rattle.call_notes.proofs.KnownCalls.{known_got, known_run}
use Rattle.call_notes.proofs.calls.known_call.Goals as goal

pub returns : goal.returns
returns c =
    let f = c.args.function.now in
    let is = c.args.arguments.now in
    let w = seen c.args.walking.now in
    let js : c.in_ok-indices.indices ≡ numbers_from 0 f.variables f.parameters is =
    c.in_ok-indices.ensures ∙ (λ i. numbers_from 0 (c.as_slice-variables.ensures i) (c.as_slice-parameters.ensures i) is) in
    let qs : c.in_ok-readings.readings ≡ types_from w.next 0 (length f.type_variables) f.parameters is =
    c.in_ok-readings.ensures ∙ (λ i. types_from (c.next.ensures i) 0 (c.len-count.ensures i) (c.as_slice-parameters.ensures i) is) in
    let around = around_of c.args.around.now in
    let none = sym c.any_never.ensures ∙ c.if-any_never.false in
    record {
      value = found c.function_called.result _ _ c.function_called.ensures.value
          (known_got around c.args.place c.args.number c.args.callee f c.args.nested.now is c.in_ok-indices.indices c.in_ok-readings.readings w none js qs);
      walked = left c.function_called.result (seen c.function_called.new.walking) _ _ c.function_called.ensures.walked
          (known_run around c.args.place c.args.number c.args.callee f c.args.nested.now is c.in_ok-indices.indices c.in_ok-readings.readings w none js qs);
    }
