use Rattle.std.proofs.Common.{◌≡◌, ◌∷◌, [], pos, to_z, Some, ap, ◌∙◌, subst, OnOk, arith}
use Rattle.std.proofs.lemmas.Int.{ints}
use Rattle.std.specs.Int.{w128}
use Rattle.sail_types.specs.Sums.{constant}
use Rattle.value_indices.specs.Opening.{equal}
use Rattle.value_indices.specs.Steps.{Conditions, owe_under}
use Rattle.value_indices.specs.Walking.{run, seen, remembered_last}
use Rattle.pattern_notes.proofs.several.owe_length.Goals as goal

pub returns : goal.returns
returns c =
    let v = seen c.args.walking.now in
    let n = c.args.count in
    let wide : to_z w128 n ≡ pos n = omega (arith, ints, c.ranges.count) in
    let owed : c.in_ok-conditions.conditions ≡ Some (equal (constant (pos n)) c.args.length.now) ∷ [] =
    c.in_ok-conditions.ensures
    ∙ (λ j. Some ((c.equal.ensures ∙ (λ i. equal ((c.constant-count.ensures ∙ ap constant wide) i) (c.in_ok-length.ensures i))) j) ∷ []) in
    subst (λ (cs : Conditions). OnOk c.owe_earlier.result (seen c.owe_earlier.new.self ≡ run (owe_under (remembered_last v) c.args.place cs) v))
    owed c.owe_earlier.ensures
