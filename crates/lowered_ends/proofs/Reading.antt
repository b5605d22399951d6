-- What is said of variables by the types at which they are read.
use Rattle.std.proofs.Common.{◌≡◌, ◌≤◌, ℕ, false, true, List, [], ◌∷◌, length, refl, arith}
use Rattle.sail_core.specs.declared.tree.Giver.TheVariants as G
use Rattle.size_values.specs.declared.sized.Sized.{Sized}
use Rattle.sized_meanings.specs.Present.{gives_at}
use Rattle.lowered_pieces.specs.Forms.{all_notes}
use Rattle.lowered_pieces.specs.Nodes.{is_empty}
use Rattle.lowered_pieces.specs.Writes.{is_read}
use Rattle.lowered_steps.specs.declared.setting.Setting.{Setting}
use Rattle.lowered_steps.specs.Setting.{nodes_in}
use Rattle.lowered_ends.specs.Ends.{made_ends, read_ends}
use Rattle.lowered_ends.specs.Noted.{read_notes}

pub some_unread : (us : List Sized) → 1 ≤ length us → false ≡ is_empty us
some_unread [] some = absurd (omega arith)
some_unread (u ∷ us) some = refl

pub some_told : (us : List Sized) → 1 ≤ length us → true ≡ is_read us
some_told [] some = absurd (omega arith)
some_told (u ∷ us) some = refl

pub some_ends : (setting : Setting) (us : List Sized) (k : ℕ) → 1 ≤ length us → made_ends setting k 0 ≡ read_ends setting us k
some_ends setting [] k some = absurd (omega arith)
some_ends setting (u ∷ us) k some = refl

pub some_notes : (setting : Setting) (us : List Sized) (k : ℕ) → 1 ≤ length us
    → all_notes (gives_at (nodes_in setting) (G.Node k)) ≡ read_notes setting us k
some_notes setting [] k some = absurd (omega arith)
some_notes setting (u ∷ us) k some = refl
