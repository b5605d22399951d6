-- A side of a mapping that is read as an expression passes the tests of nodes: by induction on it.
use Rattle.std.proofs.Common.{◌≡◌, Bool, true, ◌&&◌, List, [], ◌∷◌, map, sym, refl, subst, nat_abs, nat_le, pos, ◌-ℤ◌, ap, ◌∙◌, ℤ, arith}
use Rattle.std.proofs.lemmas.Bool.{and_parts}
use Rattle.std.proofs.lemmas.Int.{ints}
use Rattle.sail_base.specs.declared.operators.Operator.TheVariants as O
use Rattle.sail_base.specs.declared.place.Place.{Place}
use Rattle.sail_types.specs.Limits.{is_small, largest}
use Rattle.sail_types.specs.declared.numbers.Index.{Index}
use Rattle.sail_types.specs.declared.shapes.Shape.TheVariants as V
use Rattle.sail_syntax.specs.declared.patterns.Joined.{Joined, roll-Joined}
use Rattle.sail_syntax.specs.declared.patterns.Pat.{Pat, Pat-F, roll-Pat}
use Rattle.sail_syntax.specs.declared.patterns.Pat.TheOpen as P
use Rattle.sail_syntax.specs.declared.patterns.Pat.TheOpen.{Joined-F}
use Rattle.sail_syntax.specs.declared.patterns.Pat.TheFolds.{fold-Joined, fold-roll-Joined, fold-roll-Pat, ind-Pat, map-Joined, map-Pat}
use Rattle.sail_core.specs.declared.patterns.Literal.TheVariants as L
use Rattle.sail_core.specs.declared.patterns.Pattern.{Pattern}
use Rattle.sail_core.specs.declared.tree.Kind.TheVariants as K
use Rattle.sail_names.specs.Known as Tables
use Rattle.pattern_leaves.specs.Settings.{Around}
use Rattle.shape_joins.proofs.Order.{two}
use Rattle.shape_rules.specs.Scopes.{Setting, local_of}
use Rattle.shape_rules.specs.Sides.{FurtherSide, append_part, further_side, read_side, side_part}
use Rattle.shape_rules.specs.Targets.{Part, elaborations}
use Rattle.shape_meanings.specs.Whole.{all_of}
use Rattle.shape_meanings.specs.Trees.{joined_form, pattern_form, pattern_written}
use Rattle.standing_models.specs.Tests.{Fits, Tested}
use Rattle.standing_models.proofs.CorePasses.{constant_passes, group_all, missing_passes, over_passes, settled_passes}
use Rattle.standing_models.proofs.Passing.{PartsAre, each_of, group_passes, infix_passes, name_passes, named_passes, typed_passes}

-- the other sign is as far from zero
same_size : (z : ℤ) → nat_abs (pos 0 -ℤ z) ≡ nat_abs z
same_size z = omega (arith, ints)

module _ (around : Around) (numbers : List Index) (fits : Pattern → Bool) (setting : Setting) (names : Tables.Setting)
    (fit : Fits around numbers fits setting names) where
  -- ---- what is said of a side

  abbrev SideIs : Bool → Part → Type 0
  SideIs b p = b ≡ true → Tested around numbers fits setting p.elaborate

  abbrev read_further : Joined → FurtherSide
  read_further = fold-Joined Part FurtherSide side_part further_side

  abbrev further_written : Joined → Bool
  further_written = fold-Joined Bool Bool pattern_form joined_form

  abbrev OfPat : Pat → Type 0
  OfPat p = SideIs (pattern_written p) (read_side p)

  abbrev OfJoined : Joined → Type 0
  OfJoined j = SideIs (further_written j) (read_further j).part

  abbrev SuchP : Type 0
  SuchP = (p : Pat) × OfPat p

  abbrev SuchJ : Type 0
  SuchJ = (j : Joined) × OfJoined j

  abbrev pats : List SuchP → List Pat
  pats ys = map (λ (p : SuchP). p.0) ys

  abbrev joins : List SuchJ → List Joined
  joins ys = map (λ (j : SuchJ). j.0) ys

  each_part : (ys : List SuchP) → all_of (map pattern_written (pats ys)) ≡ true → PartsAre around numbers fits setting names fit (map read_side (pats ys))
  each_part [] q = tt
  each_part (y ∷ ys) q = let p = and_parts (pattern_written y.0) (all_of (map pattern_written (pats ys))) q in (y.1 p.0, each_part ys p.1)

  -- ---- concatenations

  abbrev FurthersPass : List FurtherSide → Type 0
  FurthersPass [] = Unit {0}
  FurthersPass (f ∷ fs) = Tested around numbers fits setting f.part.elaborate × FurthersPass fs

  each_further : (ys : List SuchJ) → all_of (map further_written (joins ys)) ≡ true → FurthersPass (map read_further (joins ys))
  each_further [] q = tt
  each_further (y ∷ ys) q = let p = and_parts (further_written y.0) (all_of (map further_written (joins ys))) q in (y.1 p.0, each_further ys p.1)

  append_passes : (fs : List FurtherSide) (place : Place) (a b : Part) → Tested around numbers fits setting a.elaborate
      → Tested around numbers fits setting b.elaborate
      → FurthersPass fs → Tested around numbers fits setting (append_part place a b fs).elaborate
  append_passes [] place a b one next h = infix_passes around numbers fits setting names fit O.Append place a b one next
  append_passes (f ∷ fs) place a b one next h =
      infix_passes around numbers fits setting names fit O.Append place a (append_part f.place b f.part fs) one (append_passes fs f.place b f.part next h.0 h.1)

  -- ---- one form

  abbrev first : Pat-F SuchP SuchJ → Pat-F Pat Joined
  first = map-Pat SuchP SuchJ Pat Joined (λ p. p.0) (λ j. j.0)

  abbrev over_written : Pat-F Pat Joined → Pat-F Bool Bool
  over_written = map-Pat Pat Joined Bool Bool pattern_written further_written

  abbrev over_read : Pat-F Pat Joined → Pat-F Part FurtherSide
  over_read = map-Pat Pat Joined Part FurtherSide read_side read_further

  abbrev FormIs : Pat-F Pat Joined → Type 0
  FormIs d = SideIs (pattern_form (over_written d)) (side_part (over_read d))

  negative_small : (z : ℤ) → is_small z ≡ true → is_small (pos 0 -ℤ z) ≡ true
  negative_small z h = ap (λ n. nat_le n largest) (same_size z) ∙ h

  again : (y : Pat-F SuchP SuchJ) → FormIs (first y)
  again (P.Wildcard place) q locals want e = missing_passes around numbers fits place
  again (P.Constant place literal) q locals want e = constant_passes around numbers fits place literal want q
  again (P.Negative place n) q locals want e =
      settled_passes around numbers fits place want V.Int _ (λ s. over_passes around numbers fits place (K.Constant (L.Integer (pos 0 -ℤ n))) []
      (two (is_small (pos 0 -ℤ n)) true (negative_small n q) refl) tt)
  again (P.Bind name) q locals want e = name_passes around numbers fits setting names fit name (local_of name.text locals) want
  again (P.Construct name ys) q locals want e = named_passes around numbers fits setting names fit name (map read_side (pats ys)) (each_part ys q) locals want e
  again (P.Group place brackets ys) q locals want e =
      group_passes around numbers fits setting names fit place brackets (elaborations (map read_side (pats ys)))
      (each_of around numbers fits setting names fit (map read_side (pats ys))
      (each_part ys (group_all brackets (map pattern_written (pats ys)) q))) locals want e
  again (P.Concat place a b ys) q locals want e =
      let p = and_parts (pattern_written a.0 && pattern_written b.0) (all_of (map further_written (joins ys))) q in
      let r = and_parts (pattern_written a.0) (pattern_written b.0) p.0 in
      append_passes (map read_further (joins ys)) place (read_side a.0) (read_side b.0) (a.1 r.0) (b.1 r.1) (each_further ys p.1) locals want e
  again (P.Cons place a b) q locals want e =
      let p = and_parts (pattern_written a.0) (pattern_written b.0) q in
      infix_passes around numbers fits setting names fit O.Cons place (read_side a.0) (read_side b.0) (a.1 p.0) (b.1 p.1) locals want e
  again (P.As place a name) q locals want e = a.1 q locals want e
  again (P.Typed place a typ) q locals want e = typed_passes around numbers fits setting names fit place (read_side a.0) typ (a.1 q) locals want e

  -- ---- the tree

  rolled : (d : Pat-F Pat Joined) → FormIs d → OfPat (roll-Pat d)
  rolled d h =
      subst (λ b. SideIs b (read_side (roll-Pat d))) (sym (fold-roll-Pat Bool Bool pattern_form joined_form d))
      (subst (λ r. SideIs (pattern_form (over_written d)) r) (sym (fold-roll-Pat Part FurtherSide side_part further_side d)) h)

  abbrev first_joined : Joined-F SuchP SuchJ → Joined-F Pat Joined
  first_joined = map-Joined SuchP SuchJ Pat Joined (λ p. p.0) (λ j. j.0)

  rolled_joined : (y : Joined-F SuchP SuchJ) → OfJoined (roll-Joined (first_joined y))
  rolled_joined y =
      let d : Joined-F Pat Joined = first_joined y in
      subst (λ b. SideIs b (read_further (roll-Joined d)).part) (sym (fold-roll-Joined Bool Bool pattern_form joined_form d))
      (subst (λ (f : FurtherSide). SideIs (pattern_written y.part.0) f.part) (sym (fold-roll-Joined Part FurtherSide side_part further_side d)) y.part.1)

  each_side : (p : Pat) → OfPat p
  each_side = ind-Pat OfPat OfJoined (λ e y is. subst (λ d. OfPat (roll-Pat d)) is (rolled (first y) (again y)))
      (λ e y is. subst (λ d. OfJoined (roll-Joined d)) is (rolled_joined y))

  pub side_passes : (p : Pat) → pattern_written p ≡ true → Tested around numbers fits setting (read_side p).elaborate
  side_passes p q = each_side p q
