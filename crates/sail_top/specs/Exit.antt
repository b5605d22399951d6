-- The exit status of each way to end.
use Rattle.std.specs.Prelude.{ℕ}
use Rattle.sail_top.specs.declared.status.Status.{Status}
use Rattle.sail_top.specs.declared.status.Status.TheVariants.{Done, ModelRefused, Usage, ReadFault, WriteFault, OutOfMemory}
use Rattle.sail_top.specs.declared.status.Status.TheVariants.{ElfRefused, FileTooLong, NoFile}

abbrev pub exit_code : Status → ℕ
exit_code Done = 0
exit_code (ModelRefused refusal) = 1
exit_code Usage = 2
exit_code ReadFault = 3
exit_code WriteFault = 4
exit_code OutOfMemory = 5
exit_code (ElfRefused refusal) = 6
exit_code (FileTooLong file limit) = 7
exit_code (NoFile file) = 9
