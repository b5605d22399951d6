-- What a name of an arm holds has the type that is found for it.
use Rattle.std.proofs.Common.{◌≡◌, ◌∙◌, ℕ, zero, suc, ◌+◌, ◌-◌, Bool, true, false, List, [], ◌∷◌, ◌++◌, length, map, Option, Some, None, refl, sym, ap}
use Rattle.std.proofs.Common.{append-nil, arith, length-append}
use Rattle.std.proofs.lemmas.List.{map-append}
use Rattle.std.specs.Prelude.{pos, bytes_eq, if◌then◌else◌, nat_eq}
use Rattle.sail_types.specs.declared.types.Typ.TheVariants as T
use Rattle.sail_core.specs.declared.patterns.Head.{Head}
use Rattle.sail_core.specs.declared.patterns.Head.TheVariants as H
use Rattle.sail_core.specs.declared.patterns.Step.{Step}
use Rattle.sail_core.specs.declared.patterns.Step.TheVariants as P
use Rattle.sail_core.specs.Making.{component, one_item, payload}
use Rattle.size_values.specs.declared.sized.Sized.{Sized, out-Sized}
use Rattle.size_values.specs.declared.sized.Sized.TheVariants as Z
use Rattle.sail_types.specs.declared.table.Types.{Types}
use Rattle.checked_meaning.specs.Items.{fixed_typ, part_typ}
use Rattle.lowered_pieces.specs.Arms.{Hand, Held, arm_hand, at_hand, begun, cut_take, cut_takes, fields_held, head_taken, held_at}
use Rattle.lowered_pieces.specs.Arms.{is_union, list_held, many_taken, one_taken, part_at}
use Rattle.lowered_pieces.specs.Arms.{payload_taken, rest_at, skipped, step_hand, steps_hand, takes_held, vector_takes, word_width}
use Rattle.lowered_pieces.specs.Forms.{Named}
use Rattle.lowered_pieces.specs.Places.{Kit, Naming}
use Rattle.lowered_laws.specs.Opened.{held_typ}
use Rattle.lowered_steps.specs.Setting.{kit_for, ways_for}
use Rattle.lowered_typed.specs.declared.signs.Judge.{Judge}
use Rattle.lowered_typed.specs.Here as here

typs : List Held → List Sized
typs hs = map (λ (h : Held). h.typ) hs

-- ---- names that stand before others

-- a name that is found stays so
sooner : (names more : List Named) (named others : List Held) (text : List ℕ) (t : Sized) → held_typ names named text ≡ Some t
    → held_typ (names ++ more) (named ++ others) text ≡ Some t
sooner [] more [] others text t e = none t e
  where
    none : {X : Type 0} (t : Sized) → None ≡ Some t → X
    none t e = cc
sooner [] more (h ∷ named) others text t e = none t e
  where
    none : {X : Type 0} (t : Sized) → None ≡ Some t → X
    none t e = cc
sooner (y ∷ names) more [] others text t e = none t e
  where
    none : {X : Type 0} (t : Sized) → None ≡ Some t → X
    none t e = cc
sooner (y ∷ names) more (h ∷ named) others text t e = by (bytes_eq y.name text) e (sooner names more named others text t)
  where
    by : (b : Bool) → (if b then Some h.typ else held_typ names named text) ≡ Some t
        → (held_typ names named text ≡ Some t → held_typ (names ++ more) (named ++ others) text ≡ Some t)
        → (if b then Some h.typ else held_typ (names ++ more) (named ++ others) text) ≡ Some t
    by true e rest = e
    by false e rest = rest e

-- one that isn't is found behind
later : (names more : List Named) (named others : List Held) (text : List ℕ) → length names ≡ length named → held_typ names named text ≡ None
    → held_typ (names ++ more) (named ++ others) text ≡ held_typ more others text
later [] more [] others text l e = refl
later [] more (h ∷ named) others text l e = absurd (differs (length named) l)
  where
    differs : (k : ℕ) → 0 ≡ suc k → ⊥
    differs k e = omega (arith, e)
later (y ∷ names) more [] others text l e = absurd (differs (length names) l)
  where
    differs : (k : ℕ) → suc k ≡ 0 → ⊥
    differs k e = omega (arith, e)
later (y ∷ names) more (h ∷ named) others text l e =
    by (bytes_eq y.name text) e (later names more named others text (less (length names) (length named) l))
  where
    less : (a b : ℕ) → suc a ≡ suc b → a ≡ b
    less a b e = omega (arith, e)

    some_none : {X : Type 0} (t : Sized) → Some t ≡ None → X
    some_none t e = cc

    by : (b : Bool) → (if b then Some h.typ else held_typ names named text) ≡ None
        → (held_typ names named text ≡ None → held_typ (names ++ more) (named ++ others) text ≡ held_typ more others text)
        → (if b then Some h.typ else held_typ (names ++ more) (named ++ others) text) ≡ held_typ more others text
    by true e rest = some_none h.typ e
    by false e rest = rest e

module _ (j : Judge) (naming : Naming) where
  abbrev types : Types
  types = j.setting.now.types.now

  abbrev kit : Kit
  kit = kit_for j.setting.now naming

  -- ---- the types of what heads take out

  fields_typs : (h : Held) (k i q : ℕ) → typs (fields_held types kit h i q k) ≡ here.fields_typ j h.typ i k
  unfolding typs
  fields_typs h zero i q = refl
  fields_typs h (suc k) i q = ap (λ ts. part_typ types (component i) h.typ ∷ ts) (fields_typs h k (suc i) (q + 1))

  items_typs : (h : Held) (k q : ℕ) → typs (takes_held types kit (vector_takes types kit h k) q) ≡ here.items_typ j h.typ k
  unfolding typs
  items_typs h zero q = refl
  items_typs h (suc i) q = ap (λ ts. part_typ types one_item h.typ ∷ ts) (items_typs h i (q + 1))

  list_typs : (h : Held) (k q : ℕ) → typs (list_held types kit h k q) ≡ here.items_typ j h.typ k
  unfolding typs
  list_typs h zero q = refl
  list_typs h (suc k) q = ap (λ ts. part_typ types one_item h.typ ∷ ts) (list_typs (rest_at types kit h q) k (q + 2))

  cut_typ : (h : Held) (k w : ℕ) → (cut_take types kit h k w).typ ≡ Z.Bits (pos w)
  cut_typ h k zero = refl
  cut_typ h k (suc w) = refl

  cuts_typs : (h : Held) (ns : List ℕ) (k q : ℕ) → typs (takes_held types kit (cut_takes types kit h k ns) q) ≡ here.cut_types j ns
  unfolding typs
  cuts_typs h [] k q = refl
  cuts_typs h (w ∷ ns) k q =
      ap (λ t. t ∷ typs (takes_held types kit (cut_takes types kit h (k - w) ns) (q + 1))) (cut_typ h k w)
      ∙ ap (λ ts. Z.Bits (pos w) ∷ ts) (cuts_typs h ns (k - w) (q + 1))

  payload_typs : (h : Held) (u c k q fail : ℕ)
      → typs (payload_taken types kit h u c k q fail).parts ≡ here.payload_parts j (part_typ types (payload u c) h.typ) k
  unfolding typs
  payload_typs h u c k q fail = by (nat_eq k 1)
    where
      by : (b : Bool) → typs (if b then one_taken types kit h u c q fail else many_taken types kit h u c k q fail).parts
          ≡ (if b then part_typ types (payload u c) h.typ ∷ [] else here.fields_typ j (part_typ types (payload u c) h.typ) 0 k)
      by true = refl
      by false = fields_typs (part_at types kit (payload u c) h q) k 0 (q + 1)

  head_typs : (h : Held) (head : Head) (k q fail : ℕ) → typs (head_taken types kit h head k q fail).parts ≡ here.head_types j h.typ head k
  unfolding typs
  head_typs h (H.Is literal) k q fail = refl
  head_typs h H.Tuple k q fail = fields_typs h k 0 q
  head_typs h (H.Constructor u c) k q fail = by (is_union u (out-Sized h.typ)) ∙ payload_typs h u c k q fail
    where
      by : (b : Bool) → typs (if b then payload_taken types kit h u c k q fail else skipped fail (payload_taken types kit h u c k q fail)).parts
          ≡ typs (payload_taken types kit h u c k q fail).parts
      by true = refl
      by false = refl
  head_typs h H.Vector k q fail = items_typs h k q
  head_typs h H.List k q fail = list_typs h k q
  head_typs h H.Cons k q fail = refl
  head_typs h (H.Cut ws) k q fail = cuts_typs h (here.widths_in j h.typ ws) (word_width (out-Sized h.typ)) q

  -- ---- steps

  module _ (fail : ℕ) (text : List ℕ) (unit : j.setting.now.nothing.now ≡ fixed_typ types T.Unit) where
    hand_typ : (hs : List Held) (i : ℕ) → (at_hand types kit hs i).typ ≡ here.typ_at_hand j (typs hs) i
    unfolding typs
    hand_typ [] i = unit
    hand_typ (h ∷ hs) zero = refl
    hand_typ (h ∷ hs) (suc i) = hand_typ hs i

    abbrev found : Hand → Option Sized
    found hand = held_typ hand.names hand.named text

    stays : (ss : List Step) (hand : Hand) (t : Sized) → found hand ≡ Some t → found (steps_hand types kit ss hand fail) ≡ Some t
    stays [] hand t e = e
    stays (P.Opens i head k ∷ ss) hand t e = stays ss (step_hand types kit (P.Opens i head k) hand fail) t e
    stays (P.Names i name ∷ ss) hand t e =
        stays ss (step_hand types kit (P.Names i name) hand fail) t
        (sooner hand.names (record { name = name; place = (at_hand types kit hand.values i).place } ∷ []) hand.named (at_hand types kit hand.values i ∷ [])
        text t e)
    stays (P.Sees i d ∷ ss) hand t e = stays ss (step_hand types kit (P.Sees i d) hand fail) t e

    joined_typs : (hs ks : List Held) (ts us : List Sized) → typs hs ≡ ts → typs ks ≡ us → typs (hs ++ ks) ≡ ts ++ us
    unfolding typs
    joined_typs hs ks ts us a b = map-append (λ (h : Held). h.typ) hs ks ∙ (λ i. a i ++ b i)

    none_some : {X : Type 0} (t : Sized) → None ≡ Some t → X
    none_some t e = cc

    finds : (ss : List Step) (hand : Hand) (ts : List Sized) (t : Sized) → length hand.names ≡ length hand.named → typs hand.values ≡ ts → found hand ≡ None
        → here.name_typ j ss ts text ≡ Some t → found (steps_hand types kit ss hand fail) ≡ Some t
    unfolding typs
    finds [] hand ts t l v n e = none_some t e
    finds (P.Opens i head k ∷ ss) hand ts t l v n e =
        finds ss (step_hand types kit (P.Opens i head k) hand fail) (ts ++ here.head_types j (here.typ_at_hand j ts i) head k) t l
        (joined_typs hand.values (head_taken types kit (at_hand types kit hand.values i) head k hand.free fail).parts ts
        (here.head_types j (here.typ_at_hand j ts i) head k) v
        (head_typs (at_hand types kit hand.values i) head k hand.free fail
        ∙ ap (λ u. here.head_types j u head k) (hand_typ hand.values i ∙ ap (λ us. here.typ_at_hand j us i) v))) n e
    finds (P.Names i name ∷ ss) hand ts t l v n e =
        by (bytes_eq name text) refl e
        (λ miss. finds ss (step_hand types kit (P.Names i name) hand fail) ts t
        (length-append hand.names (record { name = name; place = (at_hand types kit hand.values i).place } ∷ []) ∙ ap (λ k. k + 1) l
        ∙ sym (length-append hand.named (at_hand types kit hand.values i ∷ [])))
        (ap typs (append-nil hand.values) ∙ v) miss)
      where
        next : Hand
        next = step_hand types kit (P.Names i name) hand fail

        h : Held
        h = at_hand types kit hand.values i

        one : found next ≡ (if bytes_eq name text then Some h.typ else None)
        one = later hand.names (record { name = name; place = h.place } ∷ []) hand.named (h ∷ []) text l n

        by : (b : Bool) → bytes_eq name text ≡ b → (if b then Some (here.typ_at_hand j ts i) else here.name_typ j ss ts text) ≡ Some t
            → (found next ≡ None → here.name_typ j ss ts text ≡ Some t → found (steps_hand types kit ss next fail) ≡ Some t)
            → found (steps_hand types kit ss next fail) ≡ Some t
        by true is e rest =
            stays ss next t
            (one ∙ ap (λ b. if b then Some h.typ else None) is ∙ ap (λ u. Some u) (hand_typ hand.values i ∙ ap (λ us. here.typ_at_hand j us i) v) ∙ e)
        by false is e rest = rest (one ∙ ap (λ b. if b then Some h.typ else None) is) e
    finds (P.Sees i d ∷ ss) hand ts t l v n e =
        finds ss (step_hand types kit (P.Sees i d) hand fail) (ts ++ (ways_for j.setting.now d).gives ∷ []) t l
        (joined_typs hand.values (held_at hand.free (kit.ways d).gives ∷ []) ts ((ways_for j.setting.now d).gives ∷ []) v refl) n e

  -- what is found for a name of a let
  pub holds : (ss : List Step) (whole : Sized) (text : List ℕ) (t : Sized) → j.setting.now.nothing.now ≡ fixed_typ types T.Unit
      → here.name_typ j ss (whole ∷ []) text ≡ Some t
      → held_typ (arm_hand types kit ss 1 3 (held_at 0 whole ∷ [])).names (arm_hand types kit ss 1 3 (held_at 0 whole ∷ [])).named text ≡ Some t
  unfolding typs
  holds ss whole text t unit e = finds 3 text unit ss (begun types kit (held_at 0 whole ∷ []) 1) (whole ∷ []) t refl refl refl e
