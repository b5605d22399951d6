-- Steps that put back what is in force leave the notes as they are.
use Rattle.std.proofs.Common.{◌≡◌, List, [], ◌∷◌, refl}
use Rattle.value_indices.specs.declared.notes.Fact.{Fact}
use Rattle.value_indices.specs.Walking.{Written, restored_to, forgotten_of, unclaimed_to}

pub restored_notes : (w : Written) (r : List (List Fact)) → (restored_to w r).notes ≡ w.notes
restored_notes w [] = refl
restored_notes w (facts ∷ r) = refl

pub forgotten_notes : (w : Written) (r : List (List Fact)) → (forgotten_of w r).notes ≡ w.notes
forgotten_notes w [] = refl
forgotten_notes w (facts ∷ r) = refl

pub unclaimed_notes : (w : Written) (r : List (List Fact)) → (unclaimed_to w r).notes ≡ w.notes
unclaimed_notes w [] = refl
unclaimed_notes w (facts ∷ r) = refl
