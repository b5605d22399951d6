-- The types that are said of a value behind a scope, of the last of several parts, of a part, and of where ways meet.
use Rattle.std.proofs.Common.{◌≡◌, ℕ, ℤ, List, [], ◌∷◌, ◌++◌, refl, subst}
use Rattle.sail_base.specs.declared.place.Place.{Place as TextPlace}
use Rattle.sail_types.specs.declared.values.Value.{Value}
use Rattle.jib.specs.declared.code.Operation.{Operation}
use Rattle.jib.specs.declared.code.Operation.TheVariants as O
use Rattle.sail_core.specs.declared.patterns.Arm.{Arm}
use Rattle.sail_core.specs.declared.targets.Suffix.{Suffix}
use Rattle.sail_core.specs.declared.targets.Way.{Way}
use Rattle.sail_core.specs.declared.targets.Way.TheVariants as Y
use Rattle.sail_core.specs.declared.tree.Giver.{Giver}
use Rattle.sail_core.specs.Run as R
use Rattle.sail_core.specs.Run.{Ended, Local, Now, Run, gives, leaving, or_so, within, ◌then◌}
use Rattle.sail_core.specs.Making.{World, integer, made, nothing}
use Rattle.sail_core.specs.Meaning.{arm_taken, let_in, met_at, names_noted, put, suffix_then, suffixes_of, taken}
use Rattle.sail_core.specs.Patterns.{arm_meaning}
use Rattle.sail_core.specs.Values.{Into, field_way, item_way, slice_way}
use Rattle.checked_meaning.specs.Items.{Item}
use Rattle.lowered_pieces.specs.Forms.{End, Piece, ends_of, in_order, work_piece}
use Rattle.lowered_pieces.specs.Paths.{path_piece, way_piece}
use Rattle.lowered_laws.specs.Simulation.{AtWork, kit, reading}
use Rattle.lowered_laws.proofs.Ends.{Any, EndsIn, EndsRight, Gives_, gives_any, goes_gives, made_right, needs_right, then_right}
use Rattle.lowered_laws.proofs.Paths.{GoodPath, GoodWay}

abbrev SaidBy : List End → Item → Now Item → Type 0
SaidBy es x t = EndsIn es x t.opened

-- ---- behind a scope

leaving_said : (es : List End) (change : Now Item → Now Item) → ((u : Now Item) → u.opened ≡ (change u).opened) → (o : Ended Item Item)
    → Gives_ o (SaidBy es) → Gives_ (leaving change o) (SaidBy es)
leaving_said es change same (R.Gives x u) h = subst (λ n. EndsIn es x n) (same u) h
leaving_said es change same (R.No u) h = tt
leaving_said es change same (R.Returns v u) h = tt
leaving_said es change same (R.Throws v u) h = tt
leaving_said es change same (R.Stops cause u) h = tt
leaving_said es change same R.Stuck h = tt

pub within_right : (es : List End) (found : List (Local Item)) (m : Run Item Item) → EndsRight es m → EndsRight es (within found m)
within_right es found m h said now = leaving_said es _ (λ u. refl) _ (h said _)

stopped_said : (es : List End) (o : Ended Item Item) (next : Run Item Item) → Gives_ o (SaidBy es) → ((u : Now Item) → Gives_ (next u) (SaidBy es))
    → Gives_ (or_so o next) (SaidBy es)
stopped_said es (R.Gives x u) next h k = h
stopped_said es (R.No u) next h k = k u
stopped_said es (R.Returns v u) next h k = tt
stopped_said es (R.Throws v u) next h k = tt
stopped_said es (R.Stops cause u) next h k = tt
stopped_said es R.Stuck next h k = tt

module _ (g : AtWork) where
  -- what a pattern binds
  pub let_right : (w : World Item) (giver : Giver) (place : TextPlace) (arm : Arm) (x : Item) (es : List End) (m : Run Item Item) → EndsRight es m
      → EndsRight es (let_in (reading g) w giver place arm x m)
  let_right w giver place arm x es m h said now =
      let look : Run Item (List (Local Item)) = arm_meaning (reading g) w arm (x ∷ []) in
      let note : List (Local Item) → Run Item (Unit {0}) = λ found. names_noted (reading g) giver (x ∷ []) found in
      stopped_said es (arm_taken (reading g) w giver arm m (x ∷ []) now) _
      (goes_gives (look now) (λ found. note found then λ a. within found m) Any (SaidBy es) (gives_any (look now))
      (λ found u z.
      goes_gives (note found u) (λ a. within found m) Any (SaidBy es) (gives_any (note found u)) (λ a v y. within_right es found m h said v)))
      (λ u. tt)

  -- where ways meet
  pub met_right : (k : ℕ) (ways : Run Item Item) → EndsRight (ends_of (g.tables.gives k) (g.tables.cases k 1)) (met_at (reading g) k ways)
  met_right k ways =
      then_right (ends_of (g.tables.gives k) (g.tables.cases k 1)) ways (λ x. made (reading g) k (nothing (reading g) ∷ []) x.val)
      (λ x. made_right g k 1 (nothing (reading g) ∷ []) x.val refl)

  -- ---- parts

  abbrev took : ℕ → ℕ → List End
  took k n = ends_of (g.tables.gives k) (g.tables.cases k n)

  abbrev work : ℕ → ℕ → Operation → List Piece → Piece
  work k n op ps = work_piece (kit g) g.number op in_order (g.tables.cases k n) (g.tables.gives k) ps

  abbrev SaidPath : List Suffix → Type 0
  SaidPath ss = (ms : List (Run Item Item)) (ps : List Piece) (me : Run Item Item) (p : Piece) → GoodPath g ss ms ps → EndsRight p.ends me
      → EndsRight (path_piece (kit g) g.number g.tables ss ps p).ends (me then suffixes_of (reading g) ss ms)

  abbrev more : List Suffix → List (Run Item Item) → Item → Run Item Item
  more ss ms = suffixes_of (reading g) ss ms

  way_said : (w : Way) (k : ℕ) (ss : List Suffix) → SaidPath ss → (ms : List (Run Item Item)) (ps : List Piece) (p : Piece) (x : Item)
      → GoodWay g w ms ps (GoodPath g ss)
      → EndsRight (way_piece (kit g) g.number g.tables w k ps p (path_piece (kit g) g.number g.tables ss)).ends
      (suffix_then (reading g) k w ms x (suffixes_of (reading g) ss))
  way_said (Y.Field struct i) k ss next ms ps p x all =
      let way : Into = field_way struct i in
      next ms ps (taken (reading g) k way x []) (work k 1 (O.Field i) (p ∷ [])) all
      (needs_right (took k 1) (way.take_out x.val) (λ v. made (reading g) k (x ∷ []) v) (λ v. made_right g k 1 (x ∷ []) v refl))
  way_said Y.Item k ss next (m ∷ ms) (a ∷ ps) p x all =
      let q : Piece = work k 2 O.Item (p ∷ a ∷ []) in
      let es : List End = (path_piece (kit g) g.number g.tables ss ps q).ends in
      let third : Item → ℤ → Run Item Item = λ y i. taken (reading g) k (item_way i) x (y ∷ []) then more ss ms in
      let second : Item → Run Item Item = λ y. integer (reading g) y then third y in
      then_right es m second
      (λ y.
      then_right es (integer (reading g) y) (third y)
      (λ i.
      next ms ps (taken (reading g) k (item_way i) x (y ∷ [])) q all.1
      (needs_right (took k 2) ((item_way i).take_out x.val) (λ v. made (reading g) k (x ∷ y ∷ []) v) (λ v. made_right g k 2 (x ∷ y ∷ []) v refl))))
  way_said Y.Slice k ss next (m ∷ n ∷ ms) (a ∷ b ∷ ps) p x all =
      let q : Piece = work k 3 O.Slice (p ∷ a ∷ b ∷ []) in
      let es : List End = (path_piece (kit g) g.number g.tables ss ps q).ends in
      let fifth : Item → Item → ℤ → ℤ → Run Item Item = λ y u hi lo. taken (reading g) k (slice_way hi lo) x (y ∷ u ∷ []) then more ss ms in
      let fourth : Item → Item → ℤ → Run Item Item = λ y u hi. integer (reading g) u then fifth y u hi in
      let third : Item → Item → Run Item Item = λ y u. integer (reading g) y then fourth y u in
      let second : Item → Run Item Item = λ y. n then third y in
      then_right es m second
      (λ y.
      then_right es n (third y)
      (λ u.
      then_right es (integer (reading g) y) (fourth y u)
      (λ hi.
      then_right es (integer (reading g) u) (fifth y u hi)
      (λ lo.
      next ms ps (taken (reading g) k (slice_way hi lo) x (y ∷ u ∷ [])) q all.2
      (needs_right (took k 3) ((slice_way hi lo).take_out x.val) (λ v. made (reading g) k (x ∷ y ∷ u ∷ []) v)
      (λ v. made_right g k 3 (x ∷ y ∷ u ∷ []) v refl))))))
  way_said Y.Item k ss next [] ps p x all = absurd all
  way_said Y.Item k ss next (m ∷ ms) [] p x all = absurd all
  way_said Y.Slice k ss next [] ps p x all = absurd all
  way_said Y.Slice k ss next (m ∷ []) ps p x all = absurd all
  way_said Y.Slice k ss next (m ∷ n ∷ ms) [] p x all = absurd all
  way_said Y.Slice k ss next (m ∷ n ∷ ms) (a ∷ []) p x all = absurd all

  pub path_right : (ss : List Suffix) → SaidPath ss
  path_right [] [] [] me p all h =
      λ said now. goes_gives (me now) (λ x. gives x) (SaidBy p.ends) (SaidBy p.ends) (h said now) (λ x t z. z)
  path_right [] [] (q ∷ ps) me p all h = absurd all
  path_right [] (m ∷ ms) ps me p all h = absurd all
  path_right (s ∷ ss) ms ps me p all h =
      then_right (path_piece (kit g) g.number g.tables (s ∷ ss) ps p).ends me (more (s ∷ ss) ms) (λ x. way_said s.way s.number ss (path_right ss) ms ps p x all)

  -- ---- values with another part

  put_right : (k n : ℕ) (way : Into) (x : Item) (is : List Item) (m : Run Item Item)
      → ((y : Item) (v : Value) → EndsRight (took k n) (made (reading g) k (x ∷ is ++ y ∷ []) v)) → EndsRight (took k n) (m then put (reading g) k way x is)
  put_right k n way x is m h =
      then_right (took k n) m (put (reading g) k way x is)
      (λ y. needs_right (took k n) (way.put_in x.val y.val) (λ v. made (reading g) k (x ∷ is ++ y ∷ []) v) (h y))

  pub item_right : (k : ℕ) (ma mb mc : Run Item Item)
      → EndsRight (took k 3) (ma then λ x. mb then λ y. integer (reading g) y then λ i. mc then put (reading g) k (item_way i) x (y ∷ []))
  item_right k ma mb mc =
      let third : Item → Item → ℤ → Run Item Item = λ x y i. mc then put (reading g) k (item_way i) x (y ∷ []) in
      let second : Item → Item → Run Item Item = λ x y. integer (reading g) y then third x y in
      then_right (took k 3) ma (λ x. mb then second x)
      (λ x.
      then_right (took k 3) mb (second x)
      (λ y.
      then_right (took k 3) (integer (reading g) y) (third x y)
      (λ i. put_right k 3 (item_way i) x (y ∷ []) mc (λ z v. made_right g k 3 (x ∷ y ∷ z ∷ []) v refl))))

  pub slice_right : (k : ℕ) (ma mb mc md : Run Item Item)
      → EndsRight (took k 4) (ma then λ x. mb then λ y. mc then λ u. integer (reading g) y then λ hi. integer (reading g) u then λ lo. md
      then put (reading g) k (slice_way hi lo) x (y ∷ u ∷ []))
  slice_right k ma mb mc md =
      let fifth : Item → Item → Item → ℤ → ℤ → Run Item Item = λ x y u hi lo. md then put (reading g) k (slice_way hi lo) x (y ∷ u ∷ []) in
      let fourth : Item → Item → Item → ℤ → Run Item Item = λ x y u hi. integer (reading g) u then fifth x y u hi in
      let third : Item → Item → Item → Run Item Item = λ x y u. integer (reading g) y then fourth x y u in
      let second : Item → Item → Run Item Item = λ x y. mc then third x y in
      then_right (took k 4) ma (λ x. mb then second x)
      (λ x.
      then_right (took k 4) mb (second x)
      (λ y.
      then_right (took k 4) mc (third x y)
      (λ u.
      then_right (took k 4) (integer (reading g) y) (fourth x y u)
      (λ hi.
      then_right (took k 4) (integer (reading g) u) (fifth x y u hi)
      (λ lo. put_right k 4 (slice_way hi lo) x (y ∷ u ∷ []) md (λ z v. made_right g k 4 (x ∷ y ∷ u ∷ z ∷ []) v refl))))))
