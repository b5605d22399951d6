use Rattle.std.proofs.Common.{refl}
use Rattle.std.proofs.lemmas.Result.{IfOk-weaker}
use Rattle.jib_lower.proofs.Told.{way_told}
use Rattle.jib_lower.proofs.Unmade.{last_more}
use Rattle.jib_lower.proofs.directions.way_function.Goals as goal

pub returns-clause-made : goal.returns-clause-made
returns-clause-made c =
    IfOk-weaker c.make_judged.result _ _ (λ made h. record {
      typ = _;
      clauses = _;
      body = c.requires.body;
      walk = _;
      judge = _;
      head = _;
      around = record {
        setting = way_told c.args.model.now c.in_ok-plain.plain c.as_slice-reads.result c.args.model.now.directions c.args.direction.now.body c.args.nodes.now
            c.in_ok-told.told c.as_slice-reads.ensures c.in_ok-told.ensures c.in_ok-plain.ensures;
        instances = c.as_slice-instances.ensures;
        given = c.from_ref-given.ensures.value;
        openings = refl;
        before = refl;
        judged = (refl, refl);
        shell = refl;
        lets = refl;
        called = refl;
        turned = refl;
        below = refl;
        result = c.in_ok-result.ensures;
        is_pure = refl;
        cycle_is = refl;
        takes = c.from_ref-given.ensures.value;
        gives = c.in_ok-result.ensures;
        head_cycle = refl;
        reads = c.in_ok-lets.ensures;
        impure = refl;
      };
      code = h;
    }) c.make_judged.ensures.made

pub returns-clause-left : goal.returns-clause-left
returns-clause-left c =
    last_more c.make_judged.result (λ why. record {
      typ = _;
      clauses = _;
      body = c.requires.body;
      walk = _;
      judge = _;
      head = _;
      around = record {
        setting = way_told c.args.model.now c.in_ok-plain.plain c.as_slice-reads.result c.args.model.now.directions c.args.direction.now.body c.args.nodes.now
            c.in_ok-told.told c.as_slice-reads.ensures c.in_ok-told.ensures c.in_ok-plain.ensures;
        instances = c.as_slice-instances.ensures;
        given = c.from_ref-given.ensures.value;
        openings = refl;
        before = refl;
        judged = (refl, refl);
        shell = refl;
        lets = refl;
        called = refl;
        turned = refl;
        below = refl;
        result = c.in_ok-result.ensures;
        is_pure = refl;
        cycle_is = refl;
        takes = c.from_ref-given.ensures.value;
        gives = c.in_ok-result.ensures;
        head_cycle = refl;
        reads = c.in_ok-lets.ensures;
        impure = refl;
      };
      why = why;
    }) c.make_judged.ensures.left
