use Rattle.std.proofs.Common.{◌++◌, ap, ◌∙◌}
use Rattle.pattern_leaves.specs.Settings as settings
use Rattle.constraint_gen.specs.Defined.{counts_behind}
use Rattle.constraint_gen.specs.Models.{around_of, around_with, lets_behind}
use Rattle.constraint_gen.proofs.Lets.{counts_next, names_next, lets_end}
use Rattle.constraint_gen.proofs.top_levels.top_levels.Goals as goal

pub loop-opening-init : goal.loop-opening-init
loop-opening-init c =
    let core = c.args.core.now in
    record {
      known = λ j. lets_behind (around_with core (c.new-names.ensures j)) (c.as_slice-opening-items.ensures j);
      counted = λ j. c.new-counts.ensures j ++ counts_behind (around_with core (c.new-names.ensures j)) c.as_slice-opening-items.result.now;
    }

pub loop-opening-preserved : goal.loop-opening-preserved
loop-opening-preserved c =
    let l = c.loop-opening in
    let core = c.args.core.now in
    let items = c.as_slice-opening-items.result.now in
    let around = settings.around_of c.around_model-around.result in
    let same = c.around_model-around.ensures ∙ ap (around_with core) c.as_slice.ensures in
    record {
      known = names_next core l.names items l.opening-index c.opening-item.result c.loop-opening-test.true c.opening-item.is c.append.new.self
          c.in_ok-more.more around (around_of core) same c.in_ok-more.ensures c.in_ok-append.ensures.appended l.invariant.known;
      counted = counts_next core l.names items l.opening-index c.opening-item.result c.loop-opening-test.true c.opening-item.is c.append.new.self
          c.in_ok-more.more around l.counts c.push.new.self _ c.len-count.result same c.in_ok-more.ensures c.in_ok-append.ensures.appended
          c.len-count.ensures c.in_ok-push.ensures.pushed l.invariant.counted;
    }

pub returns : goal.returns
returns c =
    let l = c.loop-opening in
    lets_end c.args.core.now (record { names = l.names; counts = l.counts }) c.as_slice-opening-items.result.now l.opening-index
    c.as_slice-opening-items.ensures c.loop-opening-test.false l.invariant.known l.invariant.counted
