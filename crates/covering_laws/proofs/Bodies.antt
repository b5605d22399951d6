-- The notes of bodies that are tested are met.
use Rattle.std.proofs.Common.{◌≡◌, inl, inr, List, [], ◌∷◌, map, refl, subst, sym}
use Rattle.std.specs.List.{list_all}
use Rattle.std.proofs.lemmas.Bool.{and_parts}
use Rattle.value_indices.specs.Steps.{Note}
use Rattle.size_splits.specs.Bodies.{Body}
use Rattle.sized_meanings.specs.Sized.{cases_by}
use Rattle.split_laws.specs.Counted.{IsIn}
use Rattle.split_laws.proofs.Basics.{in_back, in_front, in_mapped}
use Rattle.note_laws.specs.Notes.{EachNote, OfOthers}
use Rattle.soundness_steps.specs.Covers.{IsMet}
use Rattle.covering_laws.specs.Laws.{BodiesAreMet}
use Rattle.node_counts.specs.Told.{all_noted, are_apart, note_in}
use Rattle.covering_laws.specs.Tested.{all_nodes, noted_tested}
use Rattle.covering_laws.proofs.Notes.{note_met}
use Rattle.covering_laws.proofs.Places.{all_in}

-- a note of one of them
pub noted_there : (bs : List Body) (b : Body) (n : Note) → IsIn b bs → IsIn n b.notes → IsIn (note_in b n) (all_noted bs)
noted_there [] b n h i = absurd h
noted_there (c ∷ bs) b n (inl e) i = in_front (note_in b n) (map (note_in c) c.notes) (all_noted bs) (same_body b c n e i)
  where
    same_body : (b c : Body) (n : Note) → b ≡ c → IsIn n b.notes → IsIn (note_in b n) (map (note_in c) c.notes)
    same_body b c n e i = subst (λ (d : Body). IsIn (note_in b n) (map (note_in d) d.notes)) e (in_mapped (note_in b) n b.notes i)
noted_there (c ∷ bs) b n (inr h) i = in_back (note_in b n) (map (note_in c) c.notes) (all_noted bs) (noted_there bs b n h i)

pub each_there : (P : Note → Type 0) (ns : List Note) → ((n : Note) → IsIn n ns → P n) → EachNote P ns
each_there P [] h = tt
each_there P (n ∷ ns) h = (h n (inl refl), each_there P ns (λ m i. h m (inr i)))

pub each_of : (P : Note → Type 0) (ns : List Note) → EachNote P ns → (n : Note) → IsIn n ns → P n
each_of P [] h n i = absurd i
each_of P (m ∷ ns) h n (inl e) = subst P (sym e) h.0
each_of P (m ∷ ns) h n (inr i) = each_of P ns h.1 n i

pub bodies_are_met : BodiesAreMet
bodies_are_met given set x sizing zs awaits list instances reached placed covers exact own_fit every bs h b i =
    let ys = all_noted bs in
    let nodes = all_nodes set.around.types sizing zs x.own list ys in
    let p = and_parts (are_apart ys) (list_all (noted_tested set.around.types sizing zs x.own given reached list nodes) ys) h in
    each_there (OfOthers (IsMet set x reached (cases_by given set.around.types instances nodes))) b.notes (λ n k.
    note_met set x sizing zs awaits list instances reached placed covers given ys p.0 exact own_fit every b n (noted_there bs b n i k)
    (all_in (noted_tested set.around.types sizing zs x.own given reached list nodes) ys (note_in b n) p.1 (noted_there bs b n i k)))
