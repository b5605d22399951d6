use Rattle.std.proofs.Common.{bytes_eq, ap, ◌∙◌}
use Rattle.std.specs.Prelude.{find, option_map}
use Rattle.std.specs.HashMap.{get_by_text}
use Rattle.std.proofs.lemmas.List.{take_all}
use Rattle.sail_types.specs.Rows.{row_name}
use Rattle.known_names.specs.Meanings.{builtin_row}
use Rattle.known_names.proofs.Growing.{rows_more}
use Rattle.known_names.proofs.values.find_rows.Goals as goal

pub loop-row-preserved : goal.loop-row-preserved
loop-row-preserved c =
    rows_more c.args.rows.now c.loop-row.row-index _ (λ name. get_by_text c.loop-row.values name) (λ name. get_by_text c.put_row.new.values name)
    c.loop-row-test.true c.in_ok-put_row.ensures c.loop-row.invariant

pub returns : goal.returns
returns c =
    λ name. c.loop-row.invariant name
    ∙ ap (λ all. option_map builtin_row (find (λ row. bytes_eq (row_name row) name) all))
    (take_all c.loop-row.row-index c.args.rows.now c.loop-row-test.false)
