use Rattle.std.proofs.Common.{arith}
use Rattle.std.proofs.lemmas.Result.{err_from_is_err_and}
use borrow.Author.Count.{below_more}
use Rattle.elf_load.specs.Fields.{e_phnum}
use Rattle.elf_load.specs.Reading.{program_tests}
use Rattle.elf_load.specs.Refused.{SegmentWithin}
use Rattle.elf_load.proofs.Failures.{index_failed, index_passed}
use Rattle.elf_load.proofs.reading.check_programs.Goals as goal

pub returns-in_err-check_program-clause-failed : goal.returns-in_err-check_program-clause-failed
returns-in_err-check_program-clause-failed c =
    let p = err_from_is_err_and c.from_residual.result c.from_residual.ensures.1 in
    rw (p.1, p.2) (index_failed (program_tests c.args.file.now) c.loop-index.index (e_phnum c.args.file.now) _
    (omega arith) c.loop-index.invariant.passed c.in_err-check_program.ensures.failed)

pub loop-index-preserved : goal.loop-index-preserved
loop-index-preserved c = record {
  passed = index_passed (program_tests c.args.file.now) c.loop-index.index c.loop-index.invariant.passed c.in_ok-check_program.ensures.passed;
  within = below_more (SegmentWithin c.args.file.now) c.loop-index.index c.loop-index.invariant.within c.in_ok-check_program.ensures.within;
}
