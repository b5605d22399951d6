-- What each error of an opening is to a shelf, and the refusal of a whole read or write that each
-- refusal of a single call becomes.
use Rattle.std.specs.declared.io.ErrorKind.{ErrorKind}
use Rattle.std.specs.declared.io.ErrorKind.TheVariants as kind
use Rattle.sail_outside.specs.declared.edge.BeginError.{BeginError}
use Rattle.sail_outside.specs.declared.edge.BeginError.TheVariants as begin
use Rattle.sail_outside.specs.declared.edge.PutError.{PutError}
use Rattle.sail_outside.specs.declared.edge.PutError.TheVariants as put
use Rattle.sail_outside.specs.declared.errors.ReadError.{ReadError}
use Rattle.sail_outside.specs.declared.errors.ReadError.TheVariants as read
use Rattle.sail_outside.specs.declared.errors.WriteError.{WriteError}
use Rattle.sail_outside.specs.declared.errors.WriteError.TheVariants as write

-- what an opening that failed with an error of this kind is: missing, want of memory, else a fault
abbrev pub opening_refusal : ErrorKind → BeginError
opening_refusal kind.NotFound = begin.Missing
opening_refusal kind.OutOfMemory = begin.OutOfMemory
opening_refusal _ = begin.Failed

-- what a refused `begin` makes of a whole read
abbrev pub begin_refusal : BeginError → ReadError
begin_refusal begin.Missing = read.Missing
begin_refusal begin.Failed = read.Fault
begin_refusal begin.OutOfMemory = read.OutOfMemory

-- what a refused `put` makes of a whole write
abbrev pub put_refusal : PutError → WriteError
put_refusal put.Failed = write.Fault
put_refusal put.OutOfMemory = write.OutOfMemory
