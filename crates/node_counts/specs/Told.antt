-- When notes of bodies that are read together are told apart by their nodes' numbers, and when each node, and each arm, gives its numbers once.
use Rattle.std.specs.Prelude.{nat_eq, Bool, true, false, not, ◌&&◌, List, [], ◌∷◌, ◌++◌, map, length}
use Rattle.std.specs.List.{list_all}
use Rattle.sail_core.specs.Nodes.{giver_eq}
use Rattle.value_indices.specs.Steps.{Note, call_note, given_note, made_note}
use Rattle.size_splits.specs.Bodies.{Body}
use Rattle.node_counts.specs.Counts.{may_give}

-- ---- the notes of several bodies, each with its body

pub record NoteIn : Type 0 where
  pub body : Body
  pub note : Note

abbrev pub note_in : Body → Note → NoteIn
note_in b n = record { body = b; note = n }

abbrev pub all_noted : List Body → List NoteIn
all_noted [] = []
all_noted (b ∷ bs) = map (note_in b) b.notes ++ all_noted bs

-- nodes of one number that take as many operands, of which the first alone would be found
abbrev pub are_alike : Note → Note → Bool
are_alike (made_note facts k operands made) (made_note more j others value) = nat_eq j k && nat_eq (length operands) (length others)
are_alike (call_note facts place k operands callee js qs) (call_note more spot j others called is rs) = nat_eq j k && nat_eq (length operands) (length others)
are_alike n m = false

abbrev pub is_apart : NoteIn → NoteIn → Bool
is_apart x y = not (are_alike x.note y.note)

abbrev pub are_apart : List NoteIn → Bool
are_apart [] = true
are_apart (x ∷ xs) = list_all (is_apart x) xs && are_apart xs

-- ---- the numbers that are given

abbrev pub give_alike : Note → Note → Bool
give_alike (given_note facts g i) (given_note more h l) = giver_eq h g && (may_give i && may_give l)
give_alike n m = false

abbrev pub is_single : NoteIn → NoteIn → Bool
is_single x y = not (give_alike x.note y.note)

abbrev pub are_single : List NoteIn → Bool
are_single [] = true
are_single (x ∷ xs) = list_all (is_single x) xs && are_single xs
