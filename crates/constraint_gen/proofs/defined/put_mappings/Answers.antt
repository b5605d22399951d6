use Rattle.std.proofs.Common.{◌≡◌, ◌*◌, ◌+◌, ◌++◌, drop, get_or, ap, ◌∙◌, arith}
use Rattle.std.specs.Prelude.{slice_get}
use Rattle.constraint_gen.specs.Defined.{definitions_of}
use Rattle.constraint_gen.specs.Models.{mapping_definitions}
use Rattle.function_notes.proofs.Lists.{got_at, got_again, got_there}
use Rattle.constraint_gen.proofs.Placing.{mappings_next, mappings_done}
use Rattle.constraint_gen.proofs.defined.put_mappings.Goals as goal

pub loop-pair-preserved : goal.loop-pair-preserved
loop-pair-preserved c = λ core around same.
    let l = c.loop-pair in
    let ms = c.args.directions.now in
    let k = 2 * l.pair in
    let m = c.index-directions-at.result in
    let n = get_or ms (k + 1) m in
    let two : 2 * (l.pair + 1) ≡ k + 2 = omega arith in
    let first = ap (λ d. slice_get d k) same ∙ got_at ms k m (omega arith) c.index-directions-at.is in
    let second = ap (λ d. slice_get d (k + 1)) same ∙ got_there ms (k + 1) m (omega arith) in
    let all = definitions_of core around c.args.list.now ++ mapping_definitions around ms in
    ap (λ i. definitions_of core around c.put_mapping.new.list ++ mapping_definitions around (drop i ms)) two
    ∙ mappings_next around ms k m n (definitions_of core around l.list) (definitions_of core around c.put_mapping.new.list) all (omega arith)
    c.index-directions-at.is (got_again ms (k + 1) m (omega arith)) (c.in_ok-put_mapping.ensures core around n first second)
    (l.invariant core around same)

pub returns : goal.returns
returns c = λ core around same.
    let l = c.loop-pair in
    let ms = c.args.directions.now in
    mappings_done around c.put_half.result ms _ (2 * l.pair) (definitions_of core around l.list) (definitions_of core around c.put_half.new.list)
    (definitions_of core around c.args.list.now ++ mapping_definitions around ms) (omega arith) (omega arith) (c.put_half.ensures core around same)
    (l.invariant core around same)
