-- Pieces that don't say No, one behind the other.
use Rattle.std.proofs.Common.{Option, Some, None}
use Rattle.sail_types.specs.declared.values.Value.{Value}
use Rattle.sail_core.specs.Run as R
use Rattle.sail_core.specs.Run.{Ended, Run, goes_on, needs, or_so}
use Rattle.model_progress.specs.Shaped.{IsDecided}

pub decided_on : {A B : Type 0} (e : Ended Value A) (f : A → Run Value B) → IsDecided e → ((x : A) (now : R.Now Value) → IsDecided (f x now))
    → IsDecided (goes_on e f)
decided_on (R.Gives x now) f h k = k x now
decided_on (R.No now) f h k = h
decided_on (R.Returns v now) f h k = tt
decided_on (R.Throws v now) f h k = tt
decided_on (R.Stops cause now) f h k = tt
decided_on R.Stuck f h k = tt

pub decided_or : {A : Type 0} (e : Ended Value A) (r : Run Value A) → ((now : R.Now Value) → IsDecided (r now)) → IsDecided (or_so e r)
decided_or (R.Gives x now) r h = tt
decided_or (R.No now) r h = h now
decided_or (R.Returns v now) r h = tt
decided_or (R.Throws v now) r h = tt
decided_or (R.Stops cause now) r h = tt
decided_or R.Stuck r h = tt

pub decided_needs : {A : Type 0} (o : Option A) (now : R.Now Value) → IsDecided (needs o now)
decided_needs None now = tt
decided_needs (Some x) now = tt
