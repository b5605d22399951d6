-- What is known of values at a point, and how it is made known by opening a type.
use Rattle.std.proofs.Common.{◌≡◌, ℕ, Bool, true, false, ◌||◌, List, [], ◌∷◌, ◌++◌, Option, Some, None, refl, sym, ap, ◌∙◌, subst, bytes_eq}
use Rattle.std.specs.List.{list_all}
use Rattle.std.proofs.lemmas.Bool.{and_parts}
use Rattle.sail_base.specs.declared.place.Place.{Place}
use Rattle.sail_types.specs.Belongs.{Reading as Closed, belongs}
use Rattle.sail_types.specs.Numbers.{Assignment, Positive}
use Rattle.sail_types.specs.declared.numbers.Index.{Index}
use Rattle.sail_types.specs.declared.table.Types.{Types}
use Rattle.sail_types.specs.declared.values.Value.{Value}
use Rattle.size_values.specs.declared.sized.Sized.{Sized}
use Rattle.sail_core.specs.Run.{Local}
use Rattle.value_indices.specs.declared.indices.Indices.{Indices}
use Rattle.value_indices.specs.declared.indices.Naming.{Naming}
use Rattle.value_indices.specs.declared.indices.Reading.{Reading}
use Rattle.value_indices.specs.declared.notes.Fact.{Fact}
use Rattle.value_indices.specs.declared.notes.Made.TheVariants as Makes
use Rattle.value_indices.specs.Steps.{Note, Walk, note, size_note}
use Rattle.value_indices.specs.Opening.{opened_for}
use Rattle.checked_meaning.specs.Items.{Item, item}
use Rattle.pattern_leaves.specs.declared.names.Bound.{Bound}
use Rattle.pattern_leaves.specs.declared.names.Held.{Held}
use Rattle.pattern_leaves.specs.declared.names.Held.TheVariants as H
use Rattle.pattern_notes.specs.Patterns.{part_type, taken_out}
use Rattle.value_laws.specs.Belonging.{Integers, standing, Meant, meant, closed}
use Rattle.value_laws.specs.Known.{Point, Agree, Later, Goes}
use Rattle.value_laws.proofs.Basics.{no}
use Rattle.value_laws.proofs.Steps.{same, agree_on, no_later, goes_on}
use Rattle.value_laws.proofs.Opening.{opening_sound}
use Rattle.pattern_laws.specs.Beside.{OfSizes}
use Rattle.pattern_laws.specs.Typing.{Typing, Bears, AllBear, HeldBears, NamesBear, TypeBears, is_again}

pub note_goes : {past : Positive} {n : ℕ} {f : Point n} {facts : List Fact} (make : List Fact → Note) → Goes past n f facts (note make) (λ g t. Unit {0})
unfolding note
note_goes {f} make = record { goes = record { point = f; later = no_later f; true_there = λ g a t. t; holds = λ g a. tt; given = refl } }

-- ---- names that are there again

pub or_none : (a b : Bool) → (a || b) ≡ false → (a ≡ false) × (b ≡ false)
or_none true b e = no (sym e)
or_none false b e = (refl, e)

-- a name that isn't among both isn't among the first
again_first : (name : List ℕ) (bs cs : List Bound) → is_again name (bs ++ cs) ≡ false → is_again name bs ≡ false
again_first name [] cs e = refl
again_first name (b ∷ bs) cs e =
    let k = or_none (bytes_eq b.name name) (is_again name (bs ++ cs)) e in
    ap (λ a. a || is_again name bs) k.0 ∙ again_first name bs cs k.1

module _ (types : Types) (past : Positive) (own : List Closed) {fit : OfSizes} (y : Typing types past own fit) where
  abbrev there : Integers → Assignment
  there g = standing past g

  -- ---- later on

  pub bears_on : {n m : ℕ} {f : Point n} {g : Point m} {i : Indices} {x : Item} → Later f g → Bears types past own y f i x → Bears types past own y g i x
  bears_on l b = record {
    wide = b.wide;
    has_it = λ h a. b.has_it h (agree_on l a);
    is_wide = λ h a. b.is_wide h (agree_on l a);
    typed = λ h a. b.typed h (agree_on l a);
  }

  pub all_on : {n m : ℕ} {f : Point n} {g : Point m} (is : List Indices) (xs : List Item) → Later f g → AllBear types past own y f is xs
      → AllBear types past own y g is xs
  all_on [] [] l h = tt
  all_on [] (x ∷ xs) l h = absurd h
  all_on (i ∷ is) [] l h = absurd h
  all_on (i ∷ is) (x ∷ xs) l h = (bears_on l h.0, all_on is xs l h.1)

  held_on : {n m : ℕ} {f : Point n} {g : Point m} (held : Held) (x : Item) → Later f g → HeldBears types past own y f held x
      → HeldBears types past own y g held x
  held_on (H.Value i) x l h = bears_on l h
  held_on (H.Var r) x l h = absurd h

  module _ (numbers : List Index) where
    type_on : {n m : ℕ} {f : Point n} {g : Point m} (o : Option Reading) (x : Item) → Later f g → TypeBears types past own y numbers f o x
        → TypeBears types past own y numbers g o x
    type_on None x l h = tt
    type_on (Some r) x l h = (h.0, h.1, λ k a. h.2 k (agree_on l a))

    pub names_on : {n m : ℕ} {f : Point n} {g : Point m} (bs : List Bound) (ls : List (Local Item)) → Later f g
        → NamesBear types past own y numbers n f bs ls → NamesBear types past own y numbers m g bs ls
    names_on [] [] l h = tt
    names_on [] (x ∷ ls) l h = absurd h
    names_on (b ∷ bs) [] l h = absurd h
    names_on (b ∷ bs) (x ∷ ls) l h =
        (h.0, held_on b.held x.held l h.1, (λ e. type_on b.written x.held l (h.2 e)), names_on bs ls l h.3)

    pub names_both : {n : ℕ} (f : Point n) (bs cs : List Bound) (ls ks : List (Local Item)) → NamesBear types past own y numbers n f bs ls
        → NamesBear types past own y numbers n f cs ks → NamesBear types past own y numbers n f (bs ++ cs) (ls ++ ks)
    names_both f [] cs [] ks h k = k
    names_both f [] cs (x ∷ ls) ks h k = absurd h
    names_both f (b ∷ bs) cs [] ks h k = absurd h
    names_both f (b ∷ bs) cs (x ∷ ls) ks h k = (h.0, h.1, (λ e. h.2 (again_first b.name bs cs e)), names_both f bs cs ls ks h.3 k)

  -- ---- indices with a meaning

  -- what indices mean, and the type of a value of them
  abbrev pub Kept : Type 0
  Kept = Meant × Sized

  abbrev pub Is : Kept → Integers → Indices → Type 0
  Is k g i = (meant types (there g) own i ≡ k.0) × y.fits g i k.1

  abbrev pub EachIs : List Kept → Integers → List Indices → Type 0
  EachIs [] g [] = Unit {0}
  EachIs (k ∷ ks) g (i ∷ is) = Is k g i × EachIs ks g is
  EachIs ks g is = ⊥

  abbrev pub Suits : Kept → Item → Type 0
  Suits k x = (k.0.holds x.val ≡ true) × (x.typ ≡ k.1)

  abbrev pub EachSuits : List Kept → List Item → Type 0
  EachSuits [] [] = Unit {0}
  EachSuits (k ∷ ks) (x ∷ xs) = Suits k x × EachSuits ks xs
  EachSuits ks xs = ⊥

  pub one_bears : {n : ℕ} {f : Point n} {i : Indices} (k : Kept) (x : Item) → Suits k x → ((g : Integers) → Agree f g → Is k g i)
      → Bears types past own y f i x
  one_bears {f} {i} k x s h = record {
    wide = k.0.wide;
    has_it = λ g a. ap (λ m. m.holds x.val) (h g a).0 ∙ s.0;
    is_wide = λ g a. ap (λ m. m.wide) (h g a).0;
    typed = λ g a. subst (λ t. y.fits g i t) (sym s.1) (h g a).1;
  }

  pub all_bear : {n : ℕ} {f : Point n} (is : List Indices) (ks : List Kept) (xs : List Item) → EachSuits ks xs
      → ((g : Integers) → Agree f g → EachIs ks g is) → AllBear types past own y f is xs
  all_bear [] [] [] s h = tt
  all_bear {f} (i ∷ is) [] xs s h = absurd (h f.integers (same f))
  all_bear {f} [] (k ∷ ks) xs s h = absurd (h f.integers (same f))
  all_bear [] [] (x ∷ xs) s h = absurd s
  all_bear (i ∷ is) (k ∷ ks) [] s h = absurd s
  all_bear (i ∷ is) (k ∷ ks) (x ∷ xs) s h = (one_bears k x s.0 (λ g a. (h g a).0), all_bear is ks xs s.1 (λ g a. (h g a).1))

  -- ---- values of a type of the walk

  pub record ItemOf {n : ℕ} (f : Point n) (r : Reading) (x : Item) : Type 0 where
    pub typ : Closed
    pub is_typ : (g : Integers) → Agree f g → closed types (there g) own r ≡ typ
    pub belongs_to : belongs types x.val typ ≡ true
    pub reads : (g : Integers) → Agree f g → y.reads g r x.typ

  pub of_on : {n m : ℕ} {f : Point n} {g : Point m} {r : Reading} {x : Item} → Later f g → ItemOf f r x → ItemOf g r x
  of_on l o = record {
    typ = o.typ;
    is_typ = λ h a. o.is_typ h (agree_on l a);
    belongs_to = o.belongs_to;
    reads = λ h a. o.reads h (agree_on l a);
  }

  -- several of one type
  abbrev pub AllOf : {n : ℕ} → Point n → Reading → Sized → List Value → Type 0
  AllOf f r s [] = Unit {0}
  AllOf f r s (v ∷ vs) = ItemOf f r (item s v) × AllOf f r s vs

  pub all_of : {n : ℕ} {f : Point n} (r : Reading) (s : Sized) (c : Closed) (vs : List Value)
      → ((g : Integers) → Agree f g → closed types (there g) own r ≡ c) → ((g : Integers) → Agree f g → y.reads g r s)
      → list_all (λ v. belongs types v c) vs ≡ true → AllOf f r s vs
  all_of r s c [] steady reads h = tt
  all_of r s c (v ∷ vs) steady reads h =
      let both = and_parts (belongs types v c) (list_all (λ v. belongs types v c) vs) h in
      (record { typ = c; is_typ = steady; belongs_to = both.0; reads = reads }, all_of r s c vs steady reads both.1)

  pub of_each : {n m : ℕ} {f : Point n} {g : Point m} (r : Reading) (s : Sized) (vs : List Value) → Later f g → AllOf f r s vs → AllOf g r s vs
  of_each r s [] l h = tt
  of_each r s (v ∷ vs) l h = (of_on l h.0, of_each r s vs l h.1)

  -- a walk that gives indices with a meaning that the value has
  abbrev pub Taken : Item → (n : ℕ) → Point n → List Fact → Walk Indices → Type 0
  Taken x n f facts walk = (m : Meant) × (m.holds x.val ≡ true) × Goes past n f facts walk (λ g i. Is (m, x.typ) g i)

  taken : {n : ℕ} {f : Point n} {facts : List Fact} (naming : Naming) (r : Reading) (x : Item)
      → ((g : Integers) → Agree f g → fit g (Makes.ByType (part_type r))) → ItemOf f r x → Taken x n f facts (opened_for naming r)
  unfolding opened_for
  taken {n} {f} {facts} naming r x sizes o =
      let s = opening_sound types past own r false naming n f facts x.val (λ g a. o.is_typ g a ∙ sym (o.is_typ f.integers (same f)))
      (ap (belongs types x.val) (o.is_typ f.integers (same f)) ∙ o.belongs_to) in
      let w = s.2.goes in (
        s.0,
        s.1,
        record {
          goes = record {
            point = w.point;
            later = w.later;
            true_there = w.true_there;
            holds = λ g a. (
              w.holds g a,
              y.kept.opens g r x.typ naming facts n x.val (sizes g (agree_on w.later a))
                  (ap (belongs types x.val) (o.is_typ g (agree_on w.later a)) ∙ o.belongs_to) (ap (λ m. m.holds x.val) (w.holds g a) ∙ s.1)
                  (o.reads g (agree_on w.later a)),
            );
            given = w.given;
          };
        },
      )

  -- a value is taken out, its sizes noted
  pub takes : {n : ℕ} {f : Point n} {facts : List Fact} (place : Place) (naming : Naming) (r : Reading) (x : Item)
      → ((g : Integers) → Agree f g → fit g (Makes.ByType (part_type r))) → ItemOf f r x → Taken x n f facts (taken_out place naming r)
  takes {n} {f} {facts} place naming r x sizes o =
      let first : Goes past n f facts (note (λ fs. size_note fs place (Makes.ByType (part_type r)))) (λ g t. Unit {0}) =
      note_goes (λ fs. size_note fs place (Makes.ByType (part_type r))) in
      let t = taken naming r x (λ g a. sizes g (agree_on first.goes.later a)) (of_on first.goes.later o) in
      (t.0, t.1, goes_on (λ u. opened_for naming r) first t.2)
