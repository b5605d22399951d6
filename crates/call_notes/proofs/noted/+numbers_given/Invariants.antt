use Rattle.std.proofs.Common.{◌≡◌, drop, map}
use Rattle.value_indices.specs.Walking.{run, seen}
use Rattle.call_notes.specs.Noted.{all_given, numbers_given}
use Rattle.call_notes.proofs.noted.+numbers_given.Given as goal

abbrev pub invariant-give_each-loop-part : goal.invariant-give_each-loop-part
invariant-give_each-loop-part l =
    run (all_given (map numbers_given (drop l.part-index l.parts))) (seen l.walking)
    ≡ run (all_given (map numbers_given l.parts)) (seen l.fn.walking)
