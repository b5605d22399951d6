use Rattle.std.proofs.Common.{◌≡◌, ◌+◌, drop}
use Rattle.std.specs.List.{prefix_len}
use Rattle.sail_lex.specs.Bytes.{belongs}
use Rattle.sail_lex.proofs.bytes.run_length.Given as goal

-- all bytes so far are of the class
abbrev pub invariant-loop-i : goal.invariant-loop-i
invariant-loop-i l = prefix_len (belongs l.class) l.text ≡ l.i + prefix_len (belongs l.class) (drop l.i l.text)
