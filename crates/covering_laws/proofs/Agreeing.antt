-- Where each node gives its numbers once, all that is said at a node agrees: indices agree with themselves, and with those that give no number.
use Rattle.std.proofs.Common.{◌≡◌, ◌∙◌, ap, sym, refl, subst, ℕ, nat_eq, ℤ, Bool, true, false, not, ◌&&◌, ◌||◌, ◌⊎◌, inl, inr, List, [], ◌∷◌, ◌++◌, map}
use Rattle.std.proofs.Common.{Option, Some, None, if◌then◌else◌}
use Rattle.std.specs.List.{list_all}
use Rattle.std.proofs.lemmas.Bool.{and_parts}
use Rattle.std.proofs.lemmas.Bool.Decides.{Decides-eqb}
use Rattle.sail_types.specs.declared.numbers.Index.{Index}
use Rattle.sail_types.specs.declared.numbers.Num.{Num}
use Rattle.sail_types.specs.declared.table.Types.{Types}
use Rattle.sail_core.specs.Nodes.{giver_eq}
use Rattle.sail_core.specs.declared.tree.Callee.TheVariants as D
use Rattle.sail_core.specs.declared.tree.Giver.{Giver}
use Rattle.sail_core.specs.declared.tree.Giver.TheVariants as By
use Rattle.value_indices.specs.Steps.{Note, call_note, given_note, goal_note, made_note, name_note, size_note, way_note}
use Rattle.value_indices.specs.declared.indices.Indices.{Indices, out-Indices, roll-Indices}
use Rattle.value_indices.specs.declared.indices.Indices.TheFolds.{fold-roll-Indices, ind-Indices, map-Indices}
use Rattle.value_indices.specs.declared.indices.Indices.TheOpen as W
use Rattle.value_indices.specs.declared.indices.Indices.TheOpen.{Indices-F}
use Rattle.value_indices.specs.declared.indices.Indices.TheViews.{out-roll-Indices, roll-out-Indices}
use Rattle.value_indices.specs.declared.indices.Reading.{Reading, fold-Reading}
use Rattle.value_indices.specs.declared.notes.Fact.{Fact}
use Rattle.call_arguments.specs.Placing.{variable_in}
use Rattle.value_laws.proofs.Basics.{no, two}
use Rattle.size_values.specs.declared.sized.Sized.{Sized}
use Rattle.size_splits.specs.Bodies.{Body}
use Rattle.size_splits.specs.Sizing.{Sizing}
use Rattle.split_laws.specs.Counted.{IsIn}
use Rattle.sized_nodes.specs.declared.trees.Instance.{Instance}
use Rattle.sized_nodes.specs.declared.trees.NodeSizes.{NodeSizes}
use Rattle.sized_trees.specs.Bodies.{at_note}
use Rattle.sized_meanings.specs.Present.{gives_at}
use Rattle.node_counts.specs.Counts.{form_may_give, may_give}
use Rattle.node_counts.specs.Told.{NoteIn, are_single, give_alike, is_single, note_in}
use Rattle.covering_laws.specs.Tested.{Agreeing, agrees_there, agrees_with, all_nodes, each_agrees, form_agrees, indices_agree, inside, is_it, is_needed}
use Rattle.covering_laws.specs.Tested.{is_variable, type_agrees}
use Rattle.covering_laws.proofs.Places.{all_in}

-- ---- indices

module _ (needed : ℕ → Bool) where
  abbrev types_agree : Reading → Agreeing
  types_agree = fold-Reading Agreeing Agreeing (indices_agree needed) type_agrees

  -- what the parts of some indices agree with
  abbrev agreeing : Indices-F Indices Reading → Indices-F Agreeing Agreeing
  agreeing x = map-Indices Indices Reading Agreeing Agreeing (agrees_with needed) types_agree x

  abbrev Itself : Indices → Type 0
  Itself i = agrees_with needed i i ≡ true

  abbrev SuchI : Type 0
  SuchI = (i : Indices) × Itself i

  abbrev SuchR : Type 0
  SuchR = Reading × Unit {0}

  abbrev bare : List SuchI → List Indices
  bare ys = map (λ (p : SuchI). p.0) ys

  abbrev indices_of : Indices-F SuchI SuchR → Indices-F Indices Reading
  indices_of y = map-Indices SuchI SuchR Indices Reading (λ p. p.0) (λ p. p.0) y

  -- the variable that stands alone is the one there
  or_there : (b c : Bool) → c ≡ true → (b || c) ≡ true
  or_there true c h = refl
  or_there false c h = h

  it_is : (o : Option ℕ) (t : Num) → variable_in t ≡ o → is_it needed o t ≡ true
  it_is None t e = refl
  it_is (Some v) t e =
      or_there (not (needed v)) (is_variable (variable_in t) v) (ap (λ (p : Option ℕ). is_variable p v) e ∙ (Decides-eqb v v).1 refl)

  each_itself : (ys : List SuchI) → each_agrees (map (agrees_with needed) (bare ys)) (bare ys) ≡ true
  each_itself [] = refl
  each_itself (y ∷ ys) = two (agrees_with needed y.0 y.0) (each_agrees (map (agrees_with needed) (bare ys)) (bare ys)) y.1 (each_itself ys)

  formed : (y : Indices-F SuchI SuchR) → form_agrees needed (agreeing (indices_of y)) (indices_of y) ≡ true
  formed W.Never = refl
  formed W.Unit = refl
  formed (W.Truth c) = refl
  formed W.Bit = refl
  formed (W.Integer t) = it_is (variable_in t) t refl
  formed (W.Bits t) = it_is (variable_in t) t refl
  formed W.String = refl
  formed (W.List p) = refl
  formed (W.Vector t p) = it_is (variable_in t) t refl
  formed (W.Tuple ys) = each_itself ys
  formed (W.Named u is rs) = refl
  formed (W.Variable i) = refl

  rolled : (y : Indices-F SuchI SuchR) → Itself (roll-Indices (indices_of y))
  rolled y =
      let x = indices_of y in
      ap (λ (g : Agreeing). g (roll-Indices x)) (fold-roll-Indices Agreeing Agreeing (indices_agree needed) type_agrees x)
      ∙ ap (form_agrees needed (agreeing x)) (out-roll-Indices x)
      ∙ formed y

  pub itself : (i : Indices) → Itself i
  itself = ind-Indices Itself (λ r. Unit {0}) (λ e y is. subst (λ d. Itself (roll-Indices d)) is (rolled y)) (λ e y is. tt)

  -- those that give no number
  beside_never : (x : Indices-F Agreeing Agreeing) → form_agrees needed x W.Never ≡ true
  beside_never W.Never = refl
  beside_never W.Unit = refl
  beside_never (W.Truth c) = refl
  beside_never W.Bit = refl
  beside_never (W.Integer t) = refl
  beside_never (W.Bits t) = refl
  beside_never W.String = refl
  beside_never (W.List f) = refl
  beside_never (W.Vector t f) = refl
  beside_never (W.Tuple fs) = refl
  beside_never (W.Named u is fs) = refl
  beside_never (W.Variable i) = refl

  beside_named : (x : Indices-F Agreeing Agreeing) (u : ℕ) (is : List Index) (rs : List Reading) → form_agrees needed x (W.Named u is rs) ≡ true
  beside_named W.Never u is rs = refl
  beside_named W.Unit u is rs = refl
  beside_named (W.Truth c) u is rs = refl
  beside_named W.Bit u is rs = refl
  beside_named (W.Integer t) u is rs = refl
  beside_named (W.Bits t) u is rs = refl
  beside_named W.String u is rs = refl
  beside_named (W.List f) u is rs = refl
  beside_named (W.Vector t f) u is rs = refl
  beside_named (W.Tuple fs) u is rs = refl
  beside_named (W.Named w js fs) u is rs = refl
  beside_named (W.Variable i) u is rs = refl

  beside_none : (x : Indices-F Agreeing Agreeing) (y : Indices-F Indices Reading) → form_may_give y ≡ false → form_agrees needed x y ≡ true
  beside_none x W.Never h = beside_never x
  beside_none x (W.Named u is rs) h = beside_named x u is rs
  beside_none x W.Unit h = no (sym h)
  beside_none x (W.Truth c) h = no (sym h)
  beside_none x W.Bit h = no (sym h)
  beside_none x (W.Integer t) h = no (sym h)
  beside_none x (W.Bits t) h = no (sym h)
  beside_none x W.String h = no (sym h)
  beside_none x (W.List r) h = no (sym h)
  beside_none x (W.Vector t r) h = no (sym h)
  beside_none x (W.Tuple is) h = no (sym h)
  beside_none x (W.Variable i) h = no (sym h)

  none_beside : (x y : Indices-F Indices Reading) → form_may_give x ≡ false → form_agrees needed (agreeing x) y ≡ true
  none_beside W.Never y h = refl
  none_beside (W.Named u is rs) y h = refl
  none_beside W.Unit y h = no (sym h)
  none_beside (W.Truth c) y h = no (sym h)
  none_beside W.Bit y h = no (sym h)
  none_beside (W.Integer t) y h = no (sym h)
  none_beside (W.Bits t) y h = no (sym h)
  none_beside W.String y h = no (sym h)
  none_beside (W.List r) y h = no (sym h)
  none_beside (W.Vector t r) y h = no (sym h)
  none_beside (W.Tuple is) y h = no (sym h)
  none_beside (W.Variable i) y h = no (sym h)

  -- indices by their form
  by_form : (j : Indices) → agrees_with needed j ≡ indices_agree needed (agreeing (out-Indices j))
  by_form j =
      ap (agrees_with needed) (sym (roll-out-Indices j))
      ∙ fold-roll-Indices Agreeing Agreeing (indices_agree needed) type_agrees (out-Indices j)

  pub one_gives : (i j : Indices) → (may_give i ≡ false) ⊎ (may_give j ≡ false) → agrees_with needed j i ≡ true
  one_gives i j (inl h) = ap (λ (g : Agreeing). g i) (by_form j) ∙ beside_none (agreeing (out-Indices j)) (out-Indices i) h
  one_gives i j (inr h) = ap (λ (g : Agreeing). g i) (by_form j) ∙ none_beside (out-Indices j) (out-Indices i) h

-- ---- what is given once

-- the same giver
same_giver : (g h : Giver) → giver_eq g h ≡ true → g ≡ h
same_giver (By.Node k) (By.Node j) e = ap (λ (n : ℕ). By.Node n) ((Decides-eqb k j).0 e)
same_giver (By.Arm k n) (By.Arm j m) e =
    let p = and_parts (nat_eq k j) (nat_eq n m) e in
    let at : k ≡ j = (Decides-eqb k j).0 p.0 in
    let behind : n ≡ m = (Decides-eqb n m).0 p.1 in
    λ x. By.Arm (at x) (behind x)
same_giver (By.Node k) (By.Arm j m) e = no e
same_giver (By.Arm k n) (By.Node j) e = no e

itself_too : (g : Giver) → giver_eq g g ≡ true
itself_too (By.Node k) = (Decides-eqb k k).1 refl
itself_too (By.Arm k n) = two (nat_eq k k) (nat_eq n n) ((Decides-eqb k k).1 refl) ((Decides-eqb n n).1 refl)

other_way : (g h : Giver) → giver_eq g h ≡ true → giver_eq h g ≡ true
other_way g h e = subst (λ (x : Giver). giver_eq x g ≡ true) (same_giver g h e) (itself_too g)

module _ (facts : List Fact) (k : Giver) (i : Indices) where
  -- one of the two gives none
  not_both : (c a b : Bool) → c ≡ true → not (c && (a && b)) ≡ true → (a ≡ false) ⊎ (b ≡ false)
  not_both true true true e h = no h
  not_both true true false e h = inr refl
  not_both true false b e h = inl refl
  not_both false a b e h = no e

  swapped : {A B : Type 0} → A ⊎ B → B ⊎ A
  swapped (inl a) = inr a
  swapped (inr b) = inl b

  abbrev Fine : Note → Type 0
  Fine (given_note more j l) = giver_eq k j ≡ true → agrees_there facts i l ≡ true
  Fine n = Unit {0}

  behind : (n : Note) → not (give_alike (given_note facts k i) n) ≡ true → Fine n
  behind (given_note more j l) h = λ e.
      one_gives (is_needed facts i) i l
      (not_both (giver_eq j k) (may_give i) (may_give l) (other_way k j e) h)
  behind (made_note more j is made) h = tt
  behind (call_note more place j is callee js qs) h = tt
  behind (goal_note more place c) h = tt
  behind (size_note more place made) h = tt
  behind (way_note more d) h = tt
  behind (name_note v name) h = tt

  before : (n : Note) → not (give_alike n (given_note facts k i)) ≡ true → Fine n
  before (given_note more j l) h = λ e.
      one_gives (is_needed facts i) i l
      (swapped (not_both (giver_eq k j) (may_give l) (may_give i) e h))
  before (made_note more j is made) h = tt
  before (call_note more place j is callee js qs) h = tt
  before (goal_note more place c) h = tt
  before (size_note more place made) h = tt
  before (way_note more d) h = tt
  before (name_note v name) h = tt

  module _ (b : Body) where
    abbrev it : NoteIn
    it = note_in b (given_note facts k i)

    its_own : (y : NoteIn) → it ≡ y → Fine y.note
    its_own y e = subst (λ (z : NoteIn). Fine z.note) e (λ q. itself (is_needed facts i) i)

    each_fine : (ys : List NoteIn) → are_single ys ≡ true → IsIn it ys → (y : NoteIn) → IsIn y ys → Fine y.note
    each_fine [] h at y m = absurd m
    each_fine (z ∷ zs) h (inl e) y (inl q) = its_own y (e ∙ sym q)
    each_fine (z ∷ zs) h (inl e) y (inr m) =
        let p = and_parts (list_all (is_single z) zs) (are_single zs) h in
        behind y.note (subst (λ (w : NoteIn). is_single w y ≡ true) (sym e) (all_in (is_single z) zs y p.0 m))
    each_fine (z ∷ zs) h (inr at) y (inl q) =
        let p = and_parts (list_all (is_single z) zs) (are_single zs) h in
        before y.note (subst (λ (w : NoteIn). is_single w it ≡ true) (sym q) (all_in (is_single z) zs it p.0 at))
    each_fine (z ∷ zs) h (inr at) y (inr m) =
        let p = and_parts (list_all (is_single z) zs) (are_single zs) h in
        each_fine zs p.1 at y m

  module _ (types : Types) (sizing : Sizing) (zs : List (Option ℤ)) (own : List Sized) (list : List Instance) where
    abbrev nodes : List NoteIn → List NodeSizes
    nodes ys = all_nodes types sizing zs own list ys

    abbrev all_agree : List Indices → Bool
    all_agree is = list_all (agrees_there facts i) is

    one_more : (c : Bool) (l : Indices) (is : List Indices) → (c ≡ true → agrees_there facts i l ≡ true) → all_agree is ≡ true
        → all_agree ((if c then l ∷ [] else []) ++ is) ≡ true
    one_more true l is h rest = two (agrees_there facts i l) (all_agree is) (h refl) rest
    one_more false l is h rest = rest

    front : (b : Body) (n : Note) (ns : List NodeSizes) → Fine n → all_agree (gives_at ns k) ≡ true
        → all_agree (gives_at (at_note (inside types sizing zs own b) list n ++ ns) k) ≡ true
    front b (given_note more j l) ns h rest = one_more (giver_eq k j) l (gives_at ns k) h rest
    front b (made_note more j is made) ns h rest = rest
    front b (call_note more place j is (D.Function g) js qs) ns h rest = rest
    front b (call_note more place j is (D.Row row) js qs) ns h rest = rest
    front b (call_note more place j is (D.Constructor u c) js qs) ns h rest = rest
    front b (call_note more place j is (D.Converts d) js qs) ns h rest = rest
    front b (call_note more place j is (D.Applies d) js qs) ns h rest = rest
    front b (goal_note more place c) ns h rest = rest
    front b (size_note more place made) ns h rest = rest
    front b (way_note more d) ns h rest = rest
    front b (name_note v name) ns h rest = rest

    all_fine : (ys : List NoteIn) → ((y : NoteIn) → IsIn y ys → Fine y.note) → all_agree (gives_at (nodes ys) k) ≡ true
    all_fine [] h = refl
    all_fine (y ∷ ys) h = front y.body y.note (nodes ys) (h y (inl refl)) (all_fine ys (λ z m. h z (inr m)))

    -- all that is said at its node agrees
    pub given_agree : (b : Body) (ys : List NoteIn) → are_single ys ≡ true → IsIn (note_in b (given_note facts k i)) ys
        → list_all (agrees_there facts i) (gives_at (all_nodes types sizing zs own list ys) k) ≡ true
    given_agree b ys single at = all_fine ys (each_fine b ys single at)
