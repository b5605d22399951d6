-- What the clauses of a function give, as the last of its numbers makes it.
use Rattle.std.proofs.Common.{◌≡◌, ◌∙◌, ℕ, false, [], ◌∷◌, ap, sym}
use Rattle.value_indices.specs.Opening.{opened, opening}
use Rattle.value_indices.specs.Walking.{Written, got, run}
use Rattle.value_indices.specs.declared.indices.Indices.{Indices}
use Rattle.value_indices.specs.declared.indices.Naming.TheVariants as M
use Rattle.value_indices.specs.declared.indices.Reading.{Reading}
use Rattle.value_indices.specs.declared.notes.Made.TheVariants as Makes
use Rattle.value_indices.proofs.Walks.{run_bind}
use Rattle.call_notes.specs.Noted.{node_made, numbers_noted}
use Rattle.function_notes.specs.Functions.{last_made, last_of}

pub last_run : (k : ℕ) (r : Reading) (w v u : Written) (i : Indices) → i ≡ got (opening r false M.Unnamed) w → v ≡ run (opening r false M.Unnamed) w
    → u ≡ run (node_made k (i ∷ []) (Makes.ByIndices i)) v → run (numbers_noted k i) u ≡ run (last_made k r) w
unfolding opened
last_run k r w v u i is goes made =
    ap (run (numbers_noted k i)) made
    ∙ sym (run_bind (node_made k (i ∷ []) (Makes.ByIndices i)) (λ t. numbers_noted k i) v)
    ∙ (λ j. run (last_of k r (is j)) (goes j))
    ∙ sym (run_bind (opening r false M.Unnamed) (last_of k r) w)
