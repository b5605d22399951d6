use Rattle.lowered_steps.proofs.Lists.{first_of, none_of, others}
use Rattle.lowered_steps.proofs.Noted.{found_listed, none_listed}
use Rattle.lowered_steps.proofs.notes.+list_found.Goals as goal

pub returns-in-empty : goal.returns-in-empty
returns-in-empty t c =
    none_listed c.args.found.now c.args.listed.now (none_of c.args.found.now c.in-empty.len_below)

pub returns-in_ok-list_notes-in-len1-up : goal.returns-in_ok-list_notes-in-len1-up
returns-in_ok-list_notes-in-len1-up t c =
    found_listed c.list_found.result c.indices-item.result (others c.args.found.now) c.args.found.now c.args.listed.now c.list_notes.new.listed
    c.list_found.new.listed
    (first_of c.args.found.now c.indices-item.result c.in-len1-up.len_at_least c.indices-item.is)
    c.in_ok-list_notes-in-len1-up.ensures c.list_found.ensures
