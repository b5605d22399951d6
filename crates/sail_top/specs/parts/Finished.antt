-- The end of writing an answer.
use Rattle.std.specs.Prelude.{ℕ, List, Option}
use Rattle.sail_outside.specs.Faults.{Rose}
use Rattle.sail_outside.specs.Bytes.{Sent, SentPart}
use Rattle.sail_top.specs.declared.status.Answer.{Answer}
use Rattle.sail_top.specs.declared.status.Status.{Status}
use Rattle.sail_top.specs.declared.status.Status.TheVariants as status

-- all was written and the status is the answer's, or a front was
pub data Finished (answer : Answer) : Status → Option (List ℕ) → Option (List ℕ) → ℕ → ℕ → Type 0 where
  all : {given now : Option (List ℕ)} {before after : ℕ}
      → Sent given answer.bytes now → Finished answer answer.status given now before after
  fault : {given now : Option (List ℕ)} {before after : ℕ}
      → SentPart given answer.bytes now → Rose before after → Finished answer status.WriteFault given now before after
  wanting : {given now : Option (List ℕ)} {before after : ℕ}
      → SentPart given answer.bytes now → Finished answer status.OutOfMemory given now before after
