use Rattle.std.proofs.Common.{◌≡◌, IfOk, List, map, subst}
use Rattle.value_indices.specs.declared.indices.Naming.{out-Naming}
use Rattle.pattern_leaves.specs.declared.names.Bound.{Bound}
use Rattle.pattern_leaves.specs.Annotations.{written_at}
use Rattle.pattern_notes.proofs.typed.write_types.Goals as goal

pub returns : goal.returns
returns c =
    subst (λ (z : List Bound). IfOk c.write_named.result (λ made. made ≡ z))
    (λ j. map (written_at (out-Naming (c.in_ok-naming.ensures j)) (c.in_ok-reading.ensures j)) c.args.found) c.write_named.ensures
