use Rattle.std.proofs.lemmas.Result.{err_from_is_err_and}
use Rattle.elf_load.proofs.Images.{image_fits, table_refused}
use Rattle.elf_load.proofs.reading.read_elf.Goals as goal

pub returns-in_err-check_table-clause-refused : goal.returns-in_err-check_table-clause-refused
returns-in_err-check_table-clause-refused c =
    let p = err_from_is_err_and c.from_residual-in_err-check_table.result c.from_residual-in_err-check_table.ensures.1 in
    rw (p.1, p.2) (table_refused c.args.file.now c.args.wanted _ c.in_ok-check_identity.ensures.passed
    c.in_ok-check_machine.ensures.passed c.in_err-check_table.ensures.failed)

pub returns-clause-fits : goal.returns-clause-fits
returns-clause-fits c = let f = image_fits c.args.file.now c.in_ok-check_programs.ensures.within in rw c.in_ok-segments.ensures f
