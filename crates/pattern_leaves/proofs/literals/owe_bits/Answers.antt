use Rattle.std.proofs.Common.{◌≡◌, ◌∷◌, [], pos, to_z, Some, sym, ap, ◌∙◌, arith}
use Rattle.std.proofs.lemmas.Int.{ints}
use Rattle.std.specs.Int.{w128}
use Rattle.sail_types.specs.Sums.{constant}
use Rattle.value_indices.specs.Opening.{equal}
use Rattle.value_indices.specs.Steps.{Conditions, owe}
use Rattle.value_indices.specs.Walking.{run, seen}
use Rattle.pattern_leaves.proofs.Walked.{none_got, none_run}
use Rattle.pattern_leaves.proofs.literals.owe_bits.Goals as goal

pub returns-clause-found : goal.returns-clause-found
returns-clause-found c =
    c.new.ensures
    ∙ sym (none_got (owe c.args.place (Some (equal (constant (pos c.args.own)) c.args.width.now) ∷ [])) (seen c.args.walking.now))

pub returns-clause-walked : goal.returns-clause-walked
returns-clause-walked c =
    let v = seen c.args.walking.now in
    let wide : to_z w128 c.args.own ≡ pos c.args.own = omega (arith, ints, c.ranges.own) in
    let own = c.constant-own.ensures ∙ ap constant wide in
    let conditions : c.in_ok-conditions.conditions ≡ Some (equal (constant (pos c.args.own)) c.args.width.now) ∷ [] =
    c.in_ok-conditions.ensures ∙ (λ j. Some ((c.equal.ensures ∙ (λ i. equal (own i) (c.in_ok-width.ensures i))) j) ∷ []) in
    c.in_ok-owe.ensures ∙ ap (λ (cs : Conditions). run (owe c.args.place cs) v) conditions
    ∙ sym (none_run (owe c.args.place (Some (equal (constant (pos c.args.own)) c.args.width.now) ∷ [])) v)
