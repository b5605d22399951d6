-- The member of an overload that is chosen by the shapes of the arguments is the one that their values choose.
use Rattle.std.proofs.Common.{◌≡◌, ℕ, List, [], ◌∷◌, map, ap, sym, ◌∙◌, refl, subst, Bool, true, false, ◌&&◌, not, Option, Some, None}
use Rattle.std.proofs.Common.{if◌then◌else◌}
use Rattle.sail_types.specs.Shapes.{at, fits, each_fits, put, shares, each_shares}
use Rattle.sail_types.specs.declared.shapes.Shape.{Shape}
use Rattle.sail_types.specs.declared.shapes.Shape.TheVariants as V
use Rattle.sail_types.specs.declared.table.Types.{Types}
use Rattle.sail_types.specs.declared.values.Value.{Value}
use Rattle.sail_core.specs.Making as Core
use Rattle.shape_joins.specs.Filling.{fills, fill_all}
use Rattle.shape_joins.specs.Learning.{learn, learn_all, holes}
use Rattle.shape_joins.specs.Numbering.{overlaps, all_alike, variables_in, first_place}
use Rattle.shape_joins.proofs.Order.{no}
use Rattle.shape_joins.proofs.JoinsLeast.{none}
use Rattle.sail_meaning.specs.Text.{Callee}
use Rattle.sail_meaning.specs.Choice.{accepts, first_fitting}
use Rattle.shape_rules.specs.declared.callees.Candidate.{Candidate}
use Rattle.shape_rules.specs.Calls.{Chosen, chosen, chosen_or}
use Rattle.shape_meanings.specs.Whole.{Choice, all_below}
use Rattle.shape_meanings.specs.Keeping.{FitAll}
use Rattle.shape_meanings.specs.Worlds.{Apply, StandsFor, StandForEach, ApartFrom, Distinct}
use Rattle.shape_meanings.proofs.Orders.{all_put_put, at_below}
use Rattle.shape_meanings.proofs.Values.{all_widened}
use Rattle.shape_meanings.proofs.Sharing.{all_loosened, all_share}
use Rattle.shape_meanings.proofs.Learning.{all_taught, holes_known, at_holes, learnt_all}
use Rattle.shape_meanings.proofs.Alike.{alike_puts, by_places, item_at}

-- ---- what is learnt

-- a member that is taken, with what its variables were solved to
abbrev Taken : List Shape → Chosen → Type 0
Taken ss x = learn_all (map learn x.candidate.params) ss (holes x.candidate.variables) ≡ Some x.known

-- the arguments' values fit the parameters, for what the solution says of the variables
pub solved_fit : (types : Types) (vs : List Value) (c : Choice) (ss : List Shape) (x : Chosen) → Taken ss x → FitAll types c ss vs
    → FitAll types (λ i. put c (at x.known i)) x.candidate.params vs
solved_fit types vs c ss x taken h =
    subst (λ us. each_fits (map (fits types) vs) us ≡ true) (all_put_put x.candidate.params c (at x.known))
    (all_widened types vs c ss (map (put (at x.known)) x.candidate.params) (learnt_all x.candidate.params ss (holes x.candidate.variables) x.known taken).1 h)

-- a member that is alike is taken too
alike_taken : (f : Candidate) (ss : List Shape) (x : Chosen) → Taken ss x → all_below f.variables f.params ≡ true
    → all_alike f.params x.candidate.params ≡ true
    → (known : List Shape) × (learn_all (map learn f.params) ss (holes f.variables) ≡ Some known)
alike_taken f ss x taken whole alike =
    let known = learnt_all x.candidate.params ss (holes x.candidate.variables) x.known taken in
    let e : ℕ → Shape = by_places (variables_in f.params) (variables_in x.candidate.params) (at x.known) in
    let above : (i : ℕ) → fills V.Hole (e i) ≡ true =
    λ i. ap (λ s. fills s (e i)) (sym (at_holes x.candidate.variables (item_at (variables_in x.candidate.params) (first_place (variables_in f.params) i))))
    ∙ at_below (holes x.candidate.variables) x.known known.0 (item_at (variables_in x.candidate.params) (first_place (variables_in f.params) i)) in
    let r = all_taught f.params f.variables e ss whole
    (subst (λ us. fill_all ss us ≡ true) (sym (alike_puts f.params x.candidate.params (at x.known) alike)) known.1)
    (holes f.variables) (holes_known f.variables e above) in
    (r.0, r.1)

-- ---- the choice

same_chosen : (x y : Chosen) → Some x ≡ Some y → x ≡ y
same_chosen x y e = cc

-- what is chosen learns from the shapes
taken_step : (f : Candidate) (ss : List Shape) (o : Option (List Shape)) (next : Option Chosen) (x : Chosen)
    → learn_all (map learn f.params) ss (holes f.variables) ≡ o → (next ≡ Some x → Taken ss x) → chosen_or f o next ≡ Some x → Taken ss x
taken_step f ss None next x is later e = later e
taken_step f ss (Some known) next x is later e = subst (Taken ss) (same_chosen (record { candidate = f; known = known }) x e) is

pub is_taken : (fs : List Candidate) (ss : List Shape) (x : Chosen) → chosen fs ss ≡ Some x → Taken ss x
is_taken [] ss x e = none e
is_taken (f ∷ fs) ss x e =
    taken_step f ss (learn_all (map learn f.params) ss (holes f.variables)) (chosen fs ss) x refl (is_taken fs ss x) e

-- a member is apart from what is chosen behind it
apart_step : (g f : Candidate) (o : Option (List Shape)) (next : Option Chosen) (x : Chosen) → overlaps g.params f.params ≡ false
    → (next ≡ Some x → overlaps g.params x.candidate.params ≡ false) → chosen_or f o next ≡ Some x → overlaps g.params x.candidate.params ≡ false
apart_step g f None next x here later e = later e
apart_step g f (Some known) next x here later e =
    subst (λ (y : Chosen). overlaps g.params y.candidate.params ≡ false) (same_chosen (record { candidate = f; known = known }) x e) here

is_apart : (g : Candidate) (fs : List Candidate) (ss : List Shape) (x : Chosen) → ApartFrom g fs → chosen fs ss ≡ Some x
    → overlaps g.params x.candidate.params ≡ false
is_apart g [] ss x apart e = none e
is_apart g (f ∷ fs) ss x apart e =
    apart_step g f (learn_all (map learn f.params) ss (holes f.variables)) (chosen fs ss) x apart.0 (is_apart g fs ss x apart.1) e

alike_where : (a b : Bool) → a ≡ true → (a && not b) ≡ false → b ≡ true
alike_where true true h k = refl
alike_where true false h k = no (sym k)
alike_where false b h k = no h

module _ (types : Types) (registers : List Shape) (thrown : Shape) (wc : Core.World Value) (apply : Apply) where
  -- the callee that the values choose, which what was chosen stands for
  abbrev pub Member : List Callee → List Value → Chosen → Option Callee → Type 0
  Member callees vs x o = (callee : Callee) × (o ≡ Some callee) × StandsFor types registers thrown wc apply x.candidate callee

  fits_callee : (g : Candidate) (callee : Callee) (vs : List Value) → StandsFor types registers thrown wc apply g callee
      → each_fits (map (fits types) vs) g.params ≡ accepts types vs callee
  fits_callee g callee vs stands = ap (each_fits (map (fits types) vs)) (sym stands.params)

  same_step : (g : Candidate) (gs : List Candidate) (callee : Callee) (callees : List Callee) (vs : List Value) (ss : List Shape) (x : Chosen)
      (o : Option (List Shape)) (b : Bool)
      → each_fits (map (fits types) vs) x.candidate.params ≡ true → StandsFor types registers thrown wc apply g callee → ApartFrom g gs
      → learn_all (map learn g.params) ss (holes g.variables) ≡ o → accepts types vs callee ≡ b
      → (chosen gs ss ≡ Some x → Member callees vs x (first_fitting types callees vs))
      → chosen_or g o (chosen gs ss) ≡ Some x → Member (callee ∷ callees) vs x (if b then Some callee else first_fitting types callees vs)
  same_step g gs callee callees vs ss x None false here stands apart is fits_it later e = later e
  same_step g gs callee callees vs ss x None true here stands apart is fits_it later e =
      let taken = is_taken gs ss x e in
      let alike : all_alike g.params x.candidate.params ≡ true =
      alike_where (each_shares (map shares g.params) x.candidate.params) (all_alike g.params x.candidate.params)
      (all_share types vs g.params x.candidate.params (fits_callee g callee vs stands ∙ fits_it) here) (is_apart g gs ss x apart e) in
      let k = alike_taken g ss x taken stands.whole alike in
      none (sym is ∙ k.1)
  same_step g gs callee callees vs ss x (Some known) true here stands apart is fits_it later e = (
    callee,
    refl,
    subst (λ (y : Chosen). StandsFor types registers thrown wc apply y.candidate callee)
        (same_chosen (record { candidate = g; known = known }) x e) stands,
  )
  same_step g gs callee callees vs ss x (Some known) false here stands apart is fits_it later e =
      no (sym fits_it ∙ sym (fits_callee g callee vs stands)
      ∙ subst (λ (y : Chosen). each_fits (map (fits types) vs) y.candidate.params ≡ true)
      (sym (same_chosen (record { candidate = g; known = known }) x e)) here)

  -- the first member that the values fit stands for the one that was chosen by some shapes, where they fit its parameters
  pub same_member : (fs : List Candidate) (callees : List Callee) → StandForEach types registers thrown wc apply fs callees → Distinct fs
      → (vs : List Value) (ss : List Shape) (x : Chosen) → each_fits (map (fits types) vs) x.candidate.params ≡ true → chosen fs ss ≡ Some x
      → Member callees vs x (first_fitting types callees vs)
  same_member [] [] stand apart vs ss x here e = none e
  same_member [] (callee ∷ callees) stand apart vs ss x here e = absurd stand
  same_member (f ∷ fs) [] stand apart vs ss x here e = absurd stand
  same_member (f ∷ fs) (callee ∷ callees) stand apart vs ss x here e =
      same_step f fs callee callees vs ss x (learn_all (map learn f.params) ss (holes f.variables)) (accepts types vs callee) here stand.0 apart.0 refl refl
      (same_member fs callees stand.1 apart.1 vs ss x here) e

  -- and so it does where the values have these shapes
  pub same_choice : (fs : List Candidate) (callees : List Callee) → StandForEach types registers thrown wc apply fs callees → Distinct fs
      → (vs : List Value) (c : Choice) (ss : List Shape) (x : Chosen) → FitAll types c ss vs → chosen fs ss ≡ Some x
      → Member callees vs x (first_fitting types callees vs)
  same_choice fs callees stand apart vs c ss x fit e =
      same_member fs callees stand apart vs ss x
      (all_loosened types vs (λ i. put c (at x.known i)) x.candidate.params (solved_fit types vs c ss x (is_taken fs ss x e) fit)) e
