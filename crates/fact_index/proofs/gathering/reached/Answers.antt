use Rattle.std.proofs.Common.{[], ap, ◌∙◌, subst, refl, arith}
use Rattle.std.specs.Prelude.{slice_index_or}
use Rattle.fact_index.specs.Gathered.{Puts}
use Rattle.fact_index.specs.Keys.{keys_at_each}
use Rattle.fact_index.proofs.Reaching.{stays, followed_more, all_followed}
use Rattle.fact_index.proofs.gathering.reached.Goals as goal

pub loop-at-preserved : goal.loop-at-preserved
loop-at-preserved c =
    let l = c.loop-at in
    let facts = c.args.facts.now in
    let lists = c.args.lists.now in
    let key = slice_index_or l.keys.list l.at 0 in
    let after = c.put_facts.new.keys in
    let puts : Puts l.keys after (keys_at_each facts (slice_index_or lists key [])) =
    subst (λ ps. Puts l.keys after (keys_at_each facts ps))
    (c.positions_under-positions.ensures ∙ ap (λ ks. slice_index_or lists (slice_index_or ks l.at 0) []) c.as_slice.ensures) c.in_ok-put_facts.ensures in
    record {
      listed = puts.listed l.invariant.listed;
      begun = λ k e. stays l.keys after (keys_at_each facts (slice_index_or lists key [])) puts k (l.invariant.begun k e);
      followed = followed_more lists facts l.keys after l.at key (omega arith) refl l.invariant.followed l.invariant.listed puts;
    }

pub returns : goal.returns
returns c =
    let l = c.loop-at in
    all_followed c.args.lists.now c.args.facts.now c.args.from.now l.keys.list l.at (omega arith) l.invariant.followed l.invariant.begun
