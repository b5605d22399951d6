use Rattle.std.proofs.Common.{bytes_eq, ap, ◌∙◌}
use Rattle.std.specs.Prelude.{find}
use Rattle.std.specs.HashMap.{get_by_text}
use Rattle.std.proofs.lemmas.List.{take_all}
use Rattle.sail_types.specs.Rows.{row_name}
use Rattle.shape_models.specs.Models.{or_row}
use Rattle.shape_models.proofs.Steps.{rows_more}
use Rattle.shape_models.proofs.values.put_each_row.Goals as goal

pub loop-row-preserved : goal.loop-row-preserved
loop-row-preserved c =
    rows_more c.args.rows.now c.loop-row.row-index _ c.row_name.result.now (λ name. get_by_text c.args.values.now name)
    (λ name. get_by_text c.loop-row.values name) (λ name. get_by_text c.put_new.new.values name) c.loop-row-test.true c.row_name.ensures
    c.in_ok-put_new.ensures c.loop-row.invariant

pub returns : goal.returns
returns c =
    λ name. c.loop-row.invariant name
    ∙ ap (λ all. or_row (get_by_text c.args.values.now name) (find (λ row. bytes_eq (row_name row) name) all))
    (take_all c.loop-row.row-index c.args.rows.now c.loop-row-test.false)
