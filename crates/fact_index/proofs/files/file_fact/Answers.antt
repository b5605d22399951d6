use Rattle.std.proofs.Common.{◌∙◌, subst, refl}
use Rattle.fact_index.specs.Filed.{AreIn}
use Rattle.fact_index.proofs.Filing.{keeps_then, in_more, in_all}
use Rattle.fact_index.proofs.files.file_fact.Goals as goal

pub loop-key-preserved : goal.loop-key-preserved
loop-key-preserved c =
    let l = c.loop-key in
    let new = c.push_position.new.lists.items in
    record {
      kept = keeps_then c.args.lists.now.items l.lists.items new l.invariant.kept c.in_ok-push_position.ensures.kept;
      put = in_more l.lists.items new c.as_slice-key-items.result.now l.key-index _ c.args.position c.loop-key-test.true refl
          c.in_ok-push_position.ensures.kept c.in_ok-push_position.ensures.put l.invariant.put;
    }

pub returns-clause-put : goal.returns-clause-put
returns-clause-put c =
    let l = c.loop-key in
    subst (λ ks. AreIn l.lists.items ks c.args.position) (c.as_slice-key-items.ensures ∙ c.in_ok-keys.ensures)
    (in_all l.lists.items c.as_slice-key-items.result.now l.key-index c.args.position c.loop-key-test.false l.invariant.put)
