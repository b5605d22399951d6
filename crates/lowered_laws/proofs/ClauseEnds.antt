-- The type that all bodies of clauses end with is that of what the clauses give.
use Rattle.std.proofs.Common.{◌≡◌, ◌∙◌, ℕ, Bool, true, false, List, [], ◌∷◌, length, Option, Some, None, refl, sym, subst, if◌then◌else◌}
use Rattle.std.proofs.lemmas.Bool.{and_parts}
use Rattle.size_values.specs.declared.constants.Picked.{Picked}
use Rattle.size_values.specs.declared.sized.Sized.{Sized}
use Rattle.exact_sizes.proofs.Equal.{sized_same}
use Rattle.sail_core.specs.declared.patterns.Arm.{Arm}
use Rattle.sail_core.specs.declared.tree.Giver.TheVariants as G
use Rattle.sail_core.specs.Run as R
use Rattle.sail_core.specs.Run.{Ended, Local, Now, Run, falls, leaving, or_so, within, ◌then◌}
use Rattle.sail_core.specs.Making.{World}
use Rattle.sail_core.specs.Meaning.{arm_taken, first_of, names_noted}
use Rattle.sail_core.specs.Patterns.{arm_meaning}
use Rattle.checked_meaning.specs.Items.{Item}
use Rattle.lowered_laws.proofs.Chosen.{some_is}
use Rattle.lowered_pieces.specs.Forms.{End, Piece, has_ends, one_end}
use Rattle.lowered_pieces.specs.Mapped.{all_end, common_ends, ends_if, ends_with, fixed_end, if_fixed}
use Rattle.lowered_laws.specs.Simulation.{AtWork, reading}
use Rattle.lowered_laws.proofs.Ends.{Any, EndsIn, EndsRight, Gives_, RightAll, fixed_in, gives_any, goes_gives, gives_so, one_typ}
use Rattle.lowered_laws.proofs.Follows.{no}
use Rattle.lowered_laws.proofs.Works.{none_is}

-- what a run gives has this type
abbrev pub TypedBy : Sized → Run Item Item → Type 0
TypedBy t m = (now : Now Item) → Gives_ (m now) (λ x u. t ≡ x.typ)

abbrev AllTyped : Sized → List (Run Item Item) → Type 0
AllTyped t [] = Unit {0}
AllTyped t (m ∷ ms) = TypedBy t m × AllTyped t ms

-- ---- whatever comes of it behind

abbrev Of : Sized → Item → Now Item → Type 0
Of t x u = t ≡ x.typ

leaving_gives : (t : Sized) (change : Now Item → Now Item) (o : Ended Item Item) → Gives_ o (Of t) → Gives_ (leaving change o) (Of t)
leaving_gives t change (R.Gives x u) h = h
leaving_gives t change (R.No u) h = tt
leaving_gives t change (R.Returns v u) h = tt
leaving_gives t change (R.Throws v u) h = tt
leaving_gives t change (R.Stops cause u) h = tt
leaving_gives t change R.Stuck h = tt

or_gives : (t : Sized) (o : Ended Item Item) (next : Run Item Item) → Gives_ o (Of t) → ((u : Now Item) → Gives_ (next u) (Of t)) → Gives_ (or_so o next) (Of t)
or_gives t (R.Gives x u) next h k = h
or_gives t (R.No u) next h k = k u
or_gives t (R.Returns v u) next h k = tt
or_gives t (R.Throws v u) next h k = tt
or_gives t (R.Stops cause u) next h k = tt
or_gives t R.Stuck next h k = tt

module _ (g : AtWork) (w : World Item) (k : ℕ) (xs : List Item) where
  within_typed : (t : Sized) (found : List (Local Item)) (m : Run Item Item) → TypedBy t m → TypedBy t (within found m)
  within_typed t found m h now = leaving_gives t _ _ (h _)

  arm_typed : (t : Sized) (n : ℕ) (arm : Arm) (m : Run Item Item) → TypedBy t m → TypedBy t (arm_taken (reading g) w (G.Arm k n) arm m xs)
  arm_typed t n arm m h now =
      let look : Run Item (List (Local Item)) = arm_meaning (reading g) w arm xs in
      let inner : List (Local Item) → Run Item Item = λ found. names_noted (reading g) (G.Arm k n) xs found then λ a. within found m in
      goes_gives (look now) inner Any (Of t) (gives_any (look now))
      (λ found u x.
      goes_gives (names_noted (reading g) (G.Arm k n) xs found u) (λ a. within found m) Any (Of t) (gives_any (names_noted (reading g) (G.Arm k n) xs found u))
      (λ a v y. within_typed t found m h v))

  first_typed : (t : Sized) (arms : List Arm) (ms : List (Run Item Item)) → AllTyped t ms → TypedBy t (first_of (reading g) w k arms ms falls xs)
  first_typed t [] [] h now = tt
  first_typed t [] (m ∷ ms) h now = tt
  first_typed t (arm ∷ arms) [] h now = tt
  first_typed t (arm ∷ arms) (m ∷ ms) h now =
      or_gives t _ _ (leaving_gives t _ _ (arm_typed t (length arms) arm m h.0 now)) (λ u. first_typed t arms ms h.1 _)

  -- ---- the type that ends say

  fixed_typed : (t : Sized) (es : List End) (m : Run Item Item) → fixed_end es ≡ Some t → EndsRight es m → TypedBy t m
  fixed_typed t [] m e right = none_is t e
  fixed_typed t (y ∷ z ∷ es) m e right = none_is t e
  fixed_typed t (y ∷ []) m e right = by y.picked e
    where
      by : (ps : List Picked) → if_fixed ps y.typ ≡ Some t → TypedBy t m
      by [] f now =
          gives_so (m now) (λ x u. EndsIn (y ∷ []) x u.opened) (Of t) (right refl now) (λ x u h. sym (some_is y.typ t f) ∙ one_typ y x u.opened h)
      by (p ∷ ps) f now = none_is t f

  pub ended_typed : (t : Sized) (es : List End) (m : Run Item Item) → ends_with t (fixed_end es) ≡ true → EndsRight es m → TypedBy t m
  ended_typed t es m h right = by (fixed_end es) refl h
    where
      by : (o : Option Sized) → fixed_end es ≡ o → ends_with t o ≡ true → TypedBy t m
      by None e f = no f
      by (Some u) e f = subst (λ s. TypedBy s m) (sized_same u t f) (fixed_typed u es m e right)

  all_typed : (t : Sized) (ms : List (Run Item Item)) (ps : List Piece) → RightAll ms ps → all_end t ps ≡ true → AllTyped t ms
  all_typed t [] [] right h = tt
  all_typed t [] (p ∷ ps) right h = absurd right
  all_typed t (m ∷ ms) [] right h = absurd right
  all_typed t (m ∷ ms) (p ∷ ps) right h =
      let both = and_parts (ends_with t (fixed_end p.ends)) (all_end t ps) h in
      (ended_typed t p.ends m both.0 right.0, all_typed t ms ps right.1 both.1)

  pub clauses_right : (arms : List Arm) (ms : List (Run Item Item)) (ps : List Piece) → RightAll ms ps
      → EndsRight (common_ends ps) (first_of (reading g) w k arms ms falls xs)
  clauses_right arms ms [] right said now = no said
  clauses_right arms [] (p ∷ ps) right said now = absurd right
  clauses_right arms (m ∷ ms) (p ∷ ps) right said now = by (fixed_end p.ends) refl said
    where
      fixed : (t : Sized) → fixed_end p.ends ≡ Some t → (b : Bool) → all_end t ps ≡ b → has_ends (if b then one_end t else []) ≡ true
          → Gives_ (first_of (reading g) w k arms (m ∷ ms) falls xs now) (λ x u. EndsIn (if b then one_end t else []) x u.opened)
      fixed t e true f h =
          gives_so (first_of (reading g) w k arms (m ∷ ms) falls xs now) (Of t) (λ x u. EndsIn (one_end t) x u.opened)
          (first_typed t arms (m ∷ ms) (fixed_typed t p.ends m e right.0, all_typed t ms ps right.1 f) now) (λ x u y. fixed_in t x u.opened y)
      fixed t e false f h = no h

      by : (o : Option Sized) → fixed_end p.ends ≡ o → has_ends (ends_if o ps) ≡ true
          → Gives_ (first_of (reading g) w k arms (m ∷ ms) falls xs now) (λ x u. EndsIn (ends_if o ps) x u.opened)
      by None e h = no h
      by (Some t) e h = fixed t e (all_end t ps) refl h
