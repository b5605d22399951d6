use Rattle.std.proofs.Common.{◌≡◌, ◌+◌, ◌<◌, ◌∷◌, [], ◌++◌, List, ℕ, length, get_or, refl, sym, ap, ◌∙◌, subst, append_assoc, append-nil, arith, rules, None}
use Rattle.std.specs.Vec.Iter.{into_iter_items, into_iter_len}
use Rattle.std.proofs.lemmas.Grind.{common_steps}
use Rattle.std.proofs.lemmas.List.{nil_from_length, length_push}
use Rattle.sail_syntax.specs.declared.definitions.Def.{Def}
use Rattle.scattered.specs.Openings.{role, opening_of, openings_of}
use Rattle.scattered.specs.Refused.{is_ended}
use Rattle.scattered.specs.Gathered.{parts}
use Rattle.scattered.proofs.Joined.{JoinedSoFar, none_joined, next_opening, within_openings, opening_joined, one_joined, all_joined}
use Rattle.scattered.proofs.joining.join.Goals as goal

pub loop-definition-init : goal.loop-definition-init
loop-definition-init c =
    let text = c.args.definitions.items in
    let gives = c.into_iter-definition-iterator.ensures.into_iter_gives in
    let items : into_iter_items c.into_iter-definition-iterator.result ≡ text = gives.0 in
    let none : c.new-joined.result.items ≡ [] = search rules in record {
      text = refl;
      count =
          let long = ap length items in
          let held = c.args.definitions.ok in
          first_of (search rules, omega arith, grind (arith, common_steps));
      index = refl;
      joined = subst (λ joined. JoinedSoFar c.args.openings.now [] (into_iter_items c.into_iter-definition-iterator.result) joined) (sym none)
          (subst (λ rest. JoinedSoFar c.args.openings.now [] rest []) (sym items)
          (none_joined text c.args.openings.now (is_ended (parts text)) c.requires.openings c.requires.accepted));
    }

pub bounds-openings-index : goal.bounds-openings-index
bounds-openings-index c =
    let at = c.loop-definition in
    subst (λ n. n < length c.args.openings.now) (sym at.invariant.index)
    (within_openings (subst (λ rest. JoinedSoFar c.args.openings.now at.yielded rest at.joined.items) c.in-Some.ensures.steps.0 at.invariant.joined))

pub join_one-requires : goal.join_one-requires
join_one-requires c =
    let at = c.loop-definition in
    let openings = c.args.openings.now in
    let opening = get_or openings at.index None in
    let so_far = subst (λ rest. JoinedSoFar openings at.yielded rest at.joined.items) c.in-Some.ensures.steps.0 at.invariant.joined in
    opening_joined so_far opening
    (ap (λ n. get_or openings n None) at.invariant.index ∙ next_opening so_far None)

pub loop-definition-preserved : goal.loop-definition-preserved
loop-definition-preserved c =
    let at = c.loop-definition in
    let openings = c.args.openings.now in
    let opening = get_or openings at.index None in
    let d = c.in-Some.definition in
    let rest = into_iter_items c.next.new.self in
    let steps : into_iter_items at.definition-iterator ≡ d ∷ rest = c.in-Some.ensures.steps.0 in
    let so_far : JoinedSoFar openings at.yielded (d ∷ rest) at.joined.items =
    subst (λ xs. JoinedSoFar openings at.yielded xs at.joined.items) steps at.invariant.joined in
    let is : opening ≡ opening_of (role d) so_far.standing =
    ap (λ n. get_or openings n None) at.invariant.index ∙ next_opening so_far None in record {
      text = append_assoc at.yielded (d ∷ []) rest ∙ ap (λ xs. at.yielded ++ xs) (sym steps) ∙ at.invariant.text;
      count =
          let was = at.invariant.count in
          let gone = c.in-Some.ensures.steps.1 in
          let short = ap length steps in
          omega arith;
      index = ap (λ n. n + 1) at.invariant.index ∙ sym (length_push at.yielded d);
      joined = one_joined so_far opening c.join_one.new.joined.items is c.in_ok-join_one.ensures;
    }

pub returns : goal.returns
returns c =
    let at = c.loop-definition in
    let text = c.args.definitions.items in
    let none = c.in-None.ensures.steps in
    let empty : into_iter_items at.definition-iterator ≡ [] = nil_from_length _ (sym at.invariant.count ∙ none.0) in
    let done : at.yielded ≡ text =
    sym (append-nil at.yielded) ∙ ap (λ xs. at.yielded ++ xs) (sym empty) ∙ at.invariant.text
    ∙ c.into_iter-definition-iterator.ensures.into_iter_gives.0 in
    all_joined (subst (λ rest. JoinedSoFar c.args.openings.now at.yielded rest at.joined.items) empty at.invariant.joined) done c.requires.openings
