-- Numbers of nodes are of no matter to how casts and guards stand.
use Rattle.std.proofs.Common.{◌≡◌, ℕ, suc, List, [], ◌∷◌, map, ap, sym, ◌∙◌, refl, subst}
use Rattle.sail_base.specs.declared.place.Place.{Place}
use Rattle.sail_core.specs.declared.patterns.Arm.{Arm}
use Rattle.sail_core.specs.declared.tree.Core.{Core, Core-F, fold-roll-Core, ind-Core, map-Core, out-Core, roll-Core}
use Rattle.sail_core.specs.declared.tree.Core.TheViews.{out-roll-Core}
use Rattle.sail_core.specs.declared.tree.Kind.{Kind}
use Rattle.sail_core.specs.declared.tree.Kind.TheVariants as K
use Rattle.core_numbers.specs.Numbers.{Numbered, Numbering, core_with, each_numbered, kind_numbered, numbered}
use Rattle.shape_clauses.specs.Clauses.{core_of}
use Rattle.soundness_forms.specs.Standing.{Standing, is_body, is_cast, is_guard, parts_right}
use Rattle.standing_cores.specs.Places.{node_places, places}
use Rattle.standing_models.specs.Laws.{AreBodies, ClausesPlaced}

abbrev as_placed : Kind → List Standing → Standing
as_placed kind ss = record { cast = is_cast kind; guard = is_guard kind; right = parts_right kind ss }

kind_same : (kind : Kind) (n : ℕ) (ss : List Standing) → as_placed (kind_numbered kind n).it ss ≡ as_placed kind ss
kind_same (K.Part suffixes) n ss = refl
kind_same (K.Assign targets) n ss = refl
kind_same kind n ss = refl

abbrev PlacesSame : Core → Type 0
PlacesSame core = (n : ℕ) → places (numbered core n).it ≡ places core

abbrev Such : Type 0
Such = (core : Core) × PlacesSame core

parts_same : (ys : List Such) (n : ℕ)
    → map places (each_numbered (map numbered (map (λ (y : Such). y.0) ys)) n).it ≡ map places (map (λ (y : Such). y.0) ys)
parts_same [] n = refl
parts_same (y ∷ ys) n = λ i. y.1 n i ∷ parts_same ys (numbered y.0 n).next i

core_step : (y : Core-F Such) → PlacesSame (roll-Core (map-Core Such Core (λ q. q.0) y))
core_step y n =
    let d : Core-F Core = map-Core Such Core (λ q. q.0) y in
    let kind : Numbered Kind = kind_numbered y.kind (suc n) in
    let parts : List Core = (each_numbered (map numbered d.parts) kind.next).it in
    let unroll = fold-roll-Core Standing node_places in
    ap (λ (f : Numbering Core). places (f n).it)
    (fold-roll-Core (Numbering Core) (λ c n. core_with c n (kind_numbered c.kind (suc n))) d)
    ∙ unroll (record { place = y.place; number = n; kind = kind.it; parts = parts })
    ∙ ap (as_placed kind.it) (parts_same y.parts kind.next)
    ∙ kind_same y.kind (suc n) (map places d.parts) ∙ sym (unroll d)

pub places_numbered : (core : Core) → PlacesSame core
places_numbered = ind-Core PlacesSame (λ e y is. subst (λ d. PlacesSame (roll-Core d)) is (core_step y))

-- ---- clauses

bodies_numbered : (cs : List Core) (n : ℕ) → AreBodies cs → AreBodies (each_numbered (map numbered cs) n).it
bodies_numbered [] n h = tt
bodies_numbered (c ∷ cs) n h = (ap is_body (places_numbered c n) ∙ h.0, bodies_numbered cs (numbered c n).next h.1)

out_clauses : (place : Place) (arms : List Arm) (bodies : List Core) (n : ℕ) → out-Core (numbered (core_of place arms bodies) n).it
    ≡ record { place = place; number = n; kind = K.Clauses arms; parts = (each_numbered (map numbered bodies) (suc n)).it }
out_clauses place arms bodies n =
    ap (λ (f : Numbering Core). out-Core (f n).it)
    (fold-roll-Core (Numbering Core) (λ c n. core_with c n (kind_numbered c.kind (suc n)))
    (record { place = place; number = 0; kind = K.Clauses arms; parts = bodies }))
    ∙ out-roll-Core (record { place = place; number = n; kind = K.Clauses arms; parts = (each_numbered (map numbered bodies) (suc n)).it })

placed_bodies : (place : Place) (arms : List Arm) (bodies : List Core) (n : ℕ) → AreBodies bodies
    → AreBodies (out-Core (numbered (core_of place arms bodies) n).it).parts
placed_bodies place arms bodies n h =
    subst (λ (c : Core-F Core). AreBodies c.parts) (sym (out_clauses place arms bodies n)) (bodies_numbered bodies (suc n) h)

pub clauses_placed : (place : Place) (arms : List Arm) (bodies : List Core) (n : ℕ) → AreBodies bodies
    → ClausesPlaced (numbered (core_of place arms bodies) n).it
clauses_placed place arms bodies n h = record {
  arms = arms;
  kind = ap (λ (c : Core-F Core). c.kind) (out_clauses place arms bodies n);
  bodies = placed_bodies place arms bodies n h;
}
