-- A side of a mapping that is read as an expression stands right, where each type in it reads: by induction on it.
use Rattle.std.proofs.Common.{◌≡◌, Bool, true, ◌&&◌, List, [], ◌∷◌, map, sym, refl, subst}
use Rattle.std.proofs.lemmas.Bool.{and_parts}
use Rattle.std.specs.Prelude.{is_some}
use Rattle.sail_base.specs.declared.operators.Operator.TheVariants as O
use Rattle.sail_base.specs.declared.place.Place.{Place}
use Rattle.sail_types.specs.declared.shapes.Shape.TheVariants as V
use Rattle.sail_syntax.specs.declared.patterns.Joined.{Joined, roll-Joined}
use Rattle.sail_syntax.specs.declared.patterns.Pat.{Pat, Pat-F, roll-Pat}
use Rattle.sail_syntax.specs.declared.patterns.Pat.TheOpen as P
use Rattle.sail_syntax.specs.declared.patterns.Pat.TheOpen.{Joined-F}
use Rattle.sail_syntax.specs.declared.patterns.Pat.TheFolds.{fold-Joined, fold-roll-Joined, fold-roll-Pat, ind-Pat, map-Joined, map-Pat}
use Rattle.sail_kinds.specs.Scopes.{Within}
use Rattle.sail_core.specs.declared.tree.Kind.TheVariants as K
use Rattle.shape_rules.specs.Scopes.{local_of}
use Rattle.shape_rules.specs.Sides.{FurtherSide, append_part, further_side, read_side, side_part}
use Rattle.shape_rules.specs.Targets.{Part, elaborations}
use Rattle.shape_rules.specs.Written.{typ_in}
use Rattle.standing_cores.specs.Places.{StandsRight}
use Rattle.standing_cores.specs.Types.{every}
use Rattle.standing_cores.proofs.Forms.{PartsFine, constant_fine, els_fine, group_fine, infix_fine, missing_fine, name_fine, named_fine, over_fine}
use Rattle.standing_cores.proofs.Forms.{settled_fine, typed_fine}
use Rattle.standing_models.specs.Reads.{joined_form, side_form, side_reads}

module _ (within : Within) where
  -- ---- what is said of a side

  abbrev SideIs : Bool → Part → Type 0
  SideIs b p = b ≡ true → StandsRight within p.elaborate

  abbrev read_further : Joined → FurtherSide
  read_further = fold-Joined Part FurtherSide side_part further_side

  abbrev further_reads : Joined → Bool
  further_reads = fold-Joined Bool Bool (side_form within) joined_form

  abbrev OfPat : Pat → Type 0
  OfPat p = SideIs (side_reads within p) (read_side p)

  abbrev OfJoined : Joined → Type 0
  OfJoined j = SideIs (further_reads j) (read_further j).part

  abbrev SuchP : Type 0
  SuchP = (p : Pat) × OfPat p

  abbrev SuchJ : Type 0
  SuchJ = (j : Joined) × OfJoined j

  abbrev pats : List SuchP → List Pat
  pats ys = map (λ (p : SuchP). p.0) ys

  abbrev joins : List SuchJ → List Joined
  joins ys = map (λ (j : SuchJ). j.0) ys

  each_part : (ys : List SuchP) → every (map (side_reads within) (pats ys)) ≡ true → PartsFine within (map read_side (pats ys))
  each_part [] q = tt
  each_part (y ∷ ys) q = let p = and_parts (side_reads within y.0) (every (map (side_reads within) (pats ys))) q in (y.1 p.0, each_part ys p.1)

  -- ---- concatenations

  abbrev FurthersFine : List FurtherSide → Type 0
  FurthersFine [] = Unit {0}
  FurthersFine (f ∷ fs) = StandsRight within f.part.elaborate × FurthersFine fs

  each_further : (ys : List SuchJ) → every (map further_reads (joins ys)) ≡ true → FurthersFine (map read_further (joins ys))
  each_further [] q = tt
  each_further (y ∷ ys) q = let p = and_parts (further_reads y.0) (every (map further_reads (joins ys))) q in (y.1 p.0, each_further ys p.1)

  append_fine : (fs : List FurtherSide) (place : Place) (a b : Part) → StandsRight within a.elaborate → StandsRight within b.elaborate → FurthersFine fs
      → StandsRight within (append_part place a b fs).elaborate
  append_fine [] place a b one next h = infix_fine within O.Append place a b one next
  append_fine (f ∷ fs) place a b one next h =
      infix_fine within O.Append place a (append_part f.place b f.part fs) one (append_fine fs f.place b f.part next h.0 h.1)

  -- ---- one form

  abbrev first : Pat-F SuchP SuchJ → Pat-F Pat Joined
  first = map-Pat SuchP SuchJ Pat Joined (λ p. p.0) (λ j. j.0)

  abbrev over_reads : Pat-F Pat Joined → Pat-F Bool Bool
  over_reads = map-Pat Pat Joined Bool Bool (side_reads within) further_reads

  abbrev over_read : Pat-F Pat Joined → Pat-F Part FurtherSide
  over_read = map-Pat Pat Joined Part FurtherSide read_side read_further

  abbrev FormIs : Pat-F Pat Joined → Type 0
  FormIs d = SideIs (side_form within (over_reads d)) (side_part (over_read d))

  again : (y : Pat-F SuchP SuchJ) → FormIs (first y)
  again (P.Wildcard place) q = λ setting ok locals want. missing_fine place
  again (P.Constant place literal) q = λ setting ok locals want. constant_fine within place literal want
  again (P.Negative place n) q = λ setting ok locals want.
      settled_fine place want V.Int _ (λ s. over_fine place (K.Constant _) [] ((λ ss. refl), (refl, refl)) tt)
  again (P.Bind name) q = λ setting ok locals want. name_fine within name (local_of name.text locals) (setting.value name.text) want
  again (P.Construct name ys) q = named_fine within name (map read_side (pats ys)) (each_part ys q)
  again (P.Group place brackets ys) q =
      group_fine within place brackets (elaborations (map read_side (pats ys))) (els_fine within (map read_side (pats ys)) (each_part ys q))
  again (P.Concat place a b ys) q =
      let p = and_parts (side_reads within a.0 && side_reads within b.0) (every (map further_reads (joins ys))) q in
      let r = and_parts (side_reads within a.0) (side_reads within b.0) p.0 in
      append_fine (map read_further (joins ys)) place (read_side a.0) (read_side b.0) (a.1 r.0) (b.1 r.1) (each_further ys p.1)
  again (P.Cons place a b) q =
      let p = and_parts (side_reads within a.0) (side_reads within b.0) q in
      infix_fine within O.Cons place (read_side a.0) (read_side b.0) (a.1 p.0) (b.1 p.1)
  again (P.As place a name) q = a.1 q
  again (P.Typed place a typ) q =
      let p = and_parts (is_some (typ_in within typ)) (side_reads within a.0) q in typed_fine within place (read_side a.0) typ p.0 (a.1 p.1)

  -- ---- the tree

  rolled : (d : Pat-F Pat Joined) → FormIs d → OfPat (roll-Pat d)
  rolled d h =
      subst (λ b. SideIs b (read_side (roll-Pat d))) (sym (fold-roll-Pat Bool Bool (side_form within) joined_form d))
      (subst (λ r. SideIs (side_form within (over_reads d)) r) (sym (fold-roll-Pat Part FurtherSide side_part further_side d)) h)

  abbrev first_joined : Joined-F SuchP SuchJ → Joined-F Pat Joined
  first_joined = map-Joined SuchP SuchJ Pat Joined (λ p. p.0) (λ j. j.0)

  rolled_joined : (y : Joined-F SuchP SuchJ) → OfJoined (roll-Joined (first_joined y))
  rolled_joined y =
      let d : Joined-F Pat Joined = first_joined y in
      subst (λ b. SideIs b (read_further (roll-Joined d)).part) (sym (fold-roll-Joined Bool Bool (side_form within) joined_form d))
      (subst (λ (f : FurtherSide). SideIs (side_reads within y.part.0) f.part) (sym (fold-roll-Joined Part FurtherSide side_part further_side d)) y.part.1)

  all_stand : (p : Pat) → OfPat p
  all_stand = ind-Pat OfPat OfJoined (λ e y is. subst (λ d. OfPat (roll-Pat d)) is (rolled (first y) (again y)))
      (λ e y is. subst (λ d. OfJoined (roll-Joined d)) is (rolled_joined y))

pub sides_stand : (within : Within) (p : Pat) → side_reads within p ≡ true → StandsRight within (read_side p).elaborate
sides_stand within p q = all_stand within p q
