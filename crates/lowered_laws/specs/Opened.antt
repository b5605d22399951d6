-- What initial values, top-level lets and the names that they bind come to by the code of their functions (Sail language manual, "Let-bindings").
use Rattle.std.specs.Prelude.{◌≡◌, ◌<◌, ℕ, ℤ, true, false, List, [], ◌∷◌, Option, Some, None, slice_index_or, if◌then◌else◌}
use Rattle.std.specs.Str.{bytes_eq}
use Rattle.sail_base.specs.declared.place.Place.{Place as TextPlace}
use Rattle.sail_types.specs.declared.numbers.Num.{Num}
use Rattle.sail_types.specs.declared.values.Value.{Value}
use Rattle.sail_types.specs.declared.values.Value.TheVariants as V
use Rattle.model_state.specs.declared.cause.Cause.TheVariants.{MatchFailure}
use Rattle.size_values.specs.declared.sized.Sized.{Sized}
use Rattle.jib.specs.Jib.{Slots}
use Rattle.jib.specs.Jib as J
use Rattle.sail_core.specs.declared.patterns.Step.{Step}
use Rattle.sail_core.specs.declared.patterns.Arm.TheVariants as A
use Rattle.sail_core.specs.Making.{World}
use Rattle.sail_core.specs.Numbers.{known}
use Rattle.sail_core.specs.Patterns.{steps_meaning}
use Rattle.sail_core.specs.Run.{Now, Run, held_in, needs, ◌then◌}
use Rattle.checked_meaning.specs.Items.{Item, item}
use Rattle.lowered_pieces.specs.Arms.{Hand, Held, arm_hand, held_at, steps_fit}
use Rattle.lowered_pieces.specs.Forms.{Named, Piece}
use Rattle.lowered_pieces.specs.Functions.{body_depths, event_code}
use Rattle.lowered_pieces.specs.Openings.{named_piece}
use Rattle.lowered_laws.specs.Standing.{HasAt}
use Rattle.lowered_laws.specs.Simulation.{AtWork, own_code, Good, RunsOn, Same, Sits, Followed, bare, kit, reading}

-- the code of an initial value, or of the value of a top-level let: its function gives the value
abbrev pub ValuesAnswer : Type 0
ValuesAnswer = (g : AtWork) (place : TextPlace) (me : Run Item Item) (p : Piece) → Good g me p → (sl : Slots) (now : Now Item) → now.ticks < g.depth
    → HasAt (own_code g) 0 (event_code (kit g) place p) → Same g body_depths [] 0 sl now
    → Followed g.ending (me now) (λ x t. Sits g x.val x.typ → g.ending ≡ J.Gives x.val (bare t)) (λ v t. ⊥) (λ t. ⊥) → RunsOn g 0 sl (bare now)

-- the type of what a name of an arm holds
abbrev pub held_typ : List Named → List Held → List ℕ → Option Sized
held_typ (y ∷ ys) (h ∷ hs) name = if bytes_eq y.name name then Some h.typ else held_typ ys hs name
held_typ ys hs name = None

-- what the steps of the pattern of a let bind to this name, where its value has this type
abbrev pub name_run : AtWork → World Item → List Step → List ℕ → Sized → Value → Run Item Item
name_run g w ss text whole v =
    steps_meaning (reading g) w ss (record { values = item whole v ∷ []; found = [] }) then λ hand. needs (held_in text hand.found)

-- where the names of the let stand: its value stands first
abbrev pub name_hand : AtWork → List Step → Sized → Hand
name_hand g ss whole = arm_hand g.table (kit g) ss 1 3 (held_at 0 whole ∷ [])

-- the code of a name of a top-level let, where the k-th opening gives the value: it stops where the pattern doesn't match
abbrev pub NamesAnswer : Type 0
NamesAnswer = (g : AtWork) (w : World Item) (place : TextPlace) (k : ℕ) (whole typ : Sized) (ss : List Step) (text : List ℕ) (v : Value)
    → steps_fit g.size (λ d. false) g.tables.reads ss ≡ true → ((t : Num) (z : ℤ) → g.size t ≡ Some z → known w.numbers t ≡ Some z)
    → held_typ (name_hand g ss whole).names (name_hand g ss whole).named text ≡ Some typ → slice_index_or g.lets k V.Unit ≡ v → Sits g v whole
    → (sl : Slots) (now : Now Item) → HasAt (own_code g) 0 (event_code (kit g) place (named_piece g.table (kit g) [] place k whole (A.Flat 0 ss) text typ))
    → Same g body_depths [] 0 sl now
    → Followed g.ending (name_run g w ss text whole v now) (λ y t. g.ending ≡ J.Gives y.val (bare t)) (λ u t. ⊥)
    (λ t. g.ending ≡ J.Stops (MatchFailure place) (bare t))
    → RunsOn g 0 sl (bare now)
