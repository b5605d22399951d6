-- What steps say of their nodes is what the notes say that they write; and bodies, one after the other.
use Rattle.std.proofs.Common.{◌≡◌, ◌∙◌, ap, sym, refl, ℕ, ◌+◌, ◌<◌, ◌≤◌, List, [], ◌∷◌, ◌++◌, drop, take, length, get_or, map}
use Rattle.std.proofs.Common.{append_assoc, append-nil}
use Rattle.value_indices.specs.declared.notes.Fact.{Fact}
use Rattle.value_indices.specs.declared.notes.Step.{Step}
use Rattle.value_indices.specs.declared.notes.Step.TheVariants as S
use Rattle.value_indices.specs.Steps.{Note}
use Rattle.value_indices.specs.Walking.{Written, begun, step_read, steps_read}
use Rattle.size_splits.specs.Reading.{notes_behind}
use Rattle.size_splits.proofs.Lists.{none_left, read_more, rest_at}
use Rattle.size_splits.proofs.Notes.{note_by, notes_next}
use Rattle.sized_nodes.specs.declared.trees.Instance.{Instance}
use Rattle.monomorph.specs.Reading.{Inside}
use Rattle.sized_nodes.specs.declared.trees.NodeSizes.{NodeSizes}
use Rattle.sized_trees.specs.Bodies.{at_notes, at_step}
use Rattle.sized_trees.proofs.Telling.{step_told, told_of}

module _ (r : Inside) (list : List Instance) where
  -- a step, then the notes of the others
  step_then : (w : Written) (s : Step) (ns : List Note) → at_notes r list (note_by w s ++ ns) ≡ at_step r list w.facts s ++ at_notes r list ns
  step_then w (S.Assumes fact) ns = refl
  step_then w S.Remembers ns = refl
  step_then w S.Restores ns = refl
  step_then w S.Forgets ns = refl
  step_then w (S.Claims c) ns = refl
  step_then w S.Unclaims ns = refl
  step_then w (S.Owes place c) ns = refl
  step_then w (S.OwesEarlier place recent c) ns = refl
  step_then w (S.Sizes place made) ns = refl
  step_then w (S.Makes k operands made) ns = refl
  step_then w (S.Calls place k operands callee js qs) ns = refl
  step_then w (S.Converts d) ns = refl
  step_then w (S.Gives k indices) ns = refl
  step_then w (S.Names variable name) ns = refl

  steps_then : (w : Written) (s : Step) (ss : List Step)
      → at_notes r list (notes_behind w (s ∷ ss)) ≡ at_step r list w.facts s ++ at_notes r list (notes_behind (step_read w s) ss)
  steps_then w s ss = ap (at_notes r list) (notes_next w s ss) ∙ step_then w s (notes_behind (step_read w s) ss)

  -- one step more
  module _ (steps : List Step) (k : ℕ) (s : Step) (facts : List Fact) (nodes all : List NodeSizes) (within : k < length steps)
      (read : s ≡ get_or steps k s) (here : told_of r list (steps_read (begun 0) (take k steps)).facts ≡ facts)
      (whole : nodes ++ at_notes r list (notes_behind (steps_read (begun 0) (take k steps)) (drop k steps)) ≡ all) where
    abbrev before : Written
    before = steps_read (begun 0) (take k steps)

    abbrev others : List NodeSizes
    others = at_notes r list (notes_behind (step_read before s) (drop (k + 1) steps))

    here_too : at_step r list facts s ≡ at_step r list before.facts s
    here_too = ap (λ (fs : List Fact). at_step r list fs s) (sym here) ∙ step_told r list before.facts s

    both : nodes ++ (at_step r list before.facts s ++ others) ≡ all
    both =
        ap (λ (l : List NodeSizes). nodes ++ l) (sym (steps_then before s (drop (k + 1) steps))
        ∙ ap (λ (l : List Step). at_notes r list (notes_behind before l)) (sym (rest_at steps k s within read)))
        ∙ whole

    pub nodes_next : (new : List NodeSizes) → new ≡ nodes ++ at_step r list facts s
        → new ++ at_notes r list (notes_behind (steps_read (begun 0) (take (k + 1) steps)) (drop (k + 1) steps)) ≡ all
    nodes_next new put =
        ap (λ (w : Written). new ++ at_notes r list (notes_behind w (drop (k + 1) steps))) (read_more steps k s within read)
        ∙ (ap (λ (l : List NodeSizes). l ++ others) (put ∙ ap (λ (l : List NodeSizes). nodes ++ l) here_too)
        ∙ (append_assoc nodes (at_step r list before.facts s) others ∙ both))

  pub nodes_end : (steps : List Step) (k : ℕ) (w : Written) (nodes all : List NodeSizes) → length steps ≤ k
      → nodes ++ at_notes r list (notes_behind w (drop k steps)) ≡ all → nodes ≡ all
  nodes_end steps k w nodes all past h =
      sym (append-nil nodes)
      ∙ (ap (λ (l : List Step). nodes ++ at_notes r list (notes_behind w l)) (sym (none_left steps k past)) ∙ h)

-- ---- several, one after the other

pub rest_next : {A B : Type 0} (g : A → List B) (whole : List A → List B) → ((x : A) (xs : List A) → whole (x ∷ xs) ≡ g x ++ whole xs)
    → (xs : List A) (k : ℕ) (x : A) (made new all : List B) → k < length xs → x ≡ get_or xs k x → new ≡ made ++ g x
    → made ++ whole (drop k xs) ≡ all → new ++ whole (drop (k + 1) xs) ≡ all
rest_next {A} {B} g whole step xs k x made new all within at put h =
    let rest = drop (k + 1) xs in
    ap (λ (l : List B). l ++ whole rest) put
    ∙ (append_assoc made (g x) (whole rest)
    ∙ (ap (λ (l : List B). made ++ l) (sym (step x rest) ∙ ap whole (sym (rest_at xs k x within at))) ∙ h))

pub twice_next : {A B C : Type 0} (g : A → B) (f : B → C) (xs : List A) (k : ℕ) (x : A) (made new : List C) (y : C) (all : List C) → k < length xs
    → x ≡ get_or xs k x → y ≡ f (g x) → new ≡ made ++ y ∷ [] → made ++ map f (map g (drop k xs)) ≡ all
    → new ++ map f (map g (drop (k + 1) xs)) ≡ all
twice_next {A} {B} {C} g f xs k x made new y all within at is put h =
    let rest = map f (map g (drop (k + 1) xs)) in
    ap (λ (l : List C). l ++ rest) put
    ∙ (append_assoc made (y ∷ []) rest
    ∙ (ap (λ (z : C). made ++ z ∷ rest) is
    ∙ (ap (λ (l : List A). made ++ map f (map g l)) (sym (rest_at xs k x within at)) ∙ h)))

pub twice_end : {A B C : Type 0} (g : A → B) (f : B → C) (xs : List A) (k : ℕ) (made all : List C) → length xs ≤ k
    → made ++ map f (map g (drop k xs)) ≡ all → made ≡ all
twice_end {A} {B} {C} g f xs k made all past h =
    sym (append-nil made) ∙ (ap (λ (l : List A). made ++ map f (map g l)) (sym (none_left xs k past)) ∙ h)
