-- Sentences of the language's rules hold of the meaning.
use Rattle.std.proofs.Common.{◌≡◌, ℕ, List, [], ◌∷◌, map, ℤ, false, refl, ap, ◌∙◌}
use Rattle.sail_base.specs.declared.place.Place.{Place}
use Rattle.sail_types.specs.declared.values.Value.{Value, out-Value}
use Rattle.sail_types.specs.declared.values.Value.TheVariants as V
use Rattle.sail_core.specs.declared.targets.Way.TheVariants as Y
use Rattle.sail_core.specs.declared.targets.TargetKind.{TargetKind}
use Rattle.sail_core.specs.declared.targets.TargetKind.TheVariants as T
use Rattle.sail_core.specs.declared.targets.Target.{Target, roll-Target, fold-roll-Target}
use Rattle.model_state.specs.declared.cause.Cause.TheVariants.{WorkLimit}
use Rattle.sail_core.specs.Run as R
use Rattle.sail_core.specs.Run.{Now, Run, Ended, goes_on, or_so, within, needs, if_so, tick, tick_at, ◌then◌}
use Rattle.sail_core.specs.Values.{Into, item_way, replaced}
use Rattle.sail_core.specs.Making.{World, plainly, truth, integer}
use Rattle.sail_core.specs.Targets.{Spot, Spotted, Spotting, spotting, spotted, assigned, target_meaning, read_register, write_register, register_read}
use Rattle.sail_core.specs.Targets.{register_spot, part_spot, also, ways_of}
use Rattle.sail_core.specs.Meaning.{first_of, met_at}
use Rattle.sail_core.specs.Sentences.{register, item_of, AssignmentsRead, GuardsComeLater, NoTurnNoTick, TicksFirst}

-- what a target means over those inside
target_means : (w : World Value) (p : Place) (k : ℕ) (kind : TargetKind) (parts : List Target)
    → spotting plainly w (roll-Target (record { place = p; number = k; kind = kind; parts = parts })) ≡ target_meaning plainly w p k kind (map
    (spotting plainly w) parts)
target_means w p k kind parts =
    fold-roll-Target (Spotting Value (Spot Value)) (λ t. target_meaning plainly w t.place t.number t.kind t.parts)
    (record { place = p; number = k; kind = kind; parts = parts })

item_means : (w : World Value) (p : Place) (k r : ℕ)
    → spotting plainly w (item_of p k (register p k r))
    ≡ target_meaning plainly w p k (T.Part (record { place = p; number = k; way = Y.Item } ∷ [])) (target_meaning plainly w p k (T.Register r) [] ∷ [])
item_means w p k r =
    target_means w p k (T.Part (record { place = p; number = k; way = Y.Item } ∷ [])) (register p k r ∷ [])
    ∙ ap (λ t. target_meaning plainly w p k (T.Part (record { place = p; number = k; way = Y.Item } ∷ [])) (t ∷ [])) (target_means w p k (T.Register r) [])

-- nested pieces one behind the other
after_goes : {A B C : Type 0} (e : Ended Value A) (f : A → Run Value B) (g : B → Run Value C)
    → goes_on (goes_on e f) g ≡ goes_on e (λ x. f x then g)
after_goes (R.Gives x now) f g = refl
after_goes (R.No now) f g = refl
after_goes (R.Returns v now) f g = refl
after_goes (R.Throws v now) f g = refl
after_goes (R.Stops cause now) f g = refl
after_goes R.Stuck f g = refl

pub then_assoc : {A B C : Type 0} (r : Run Value A) (f : A → Run Value B) (g : B → Run Value C) → ((r then f) then g) ≡ (r then λ x. f x then g)
then_assoc r f g = λ i now. after_goes (r now) f g i

-- a piece that gives what it gives
gives_again : {A : Type 0} (e : Ended Value A) → goes_on e (λ x. R.gives x) ≡ e
gives_again (R.Gives x now) = refl
gives_again (R.No now) = refl
gives_again (R.Returns v now) = refl
gives_again (R.Throws v now) = refl
gives_again (R.Stops cause now) = refl
gives_again R.Stuck = refl

pub then_gives : {A : Type 0} (r : Run Value A) → (r then λ x. R.gives x) ≡ r
then_gives r = λ i now. gives_again (r now) i

-- where ways meet, the plain meaning makes nothing but the value that is there
pub met_plainly : (k : ℕ) (ways : Run Value Value) → met_at plainly k ways ≡ ways
met_plainly k ways = then_gives ways

pub guards_come_later : GuardsComeLater
guards_come_later w k arm arms body bodies none xs h =
    λ i now. or_so (goes_on (h i now) (λ found. within found body)) (first_of plainly w k arms bodies none xs)

-- a condition that is false leads to the second of two pieces
not_so : (condition a b : Run Value Value) (now after : Now Value) → condition now ≡ R.Gives (V.Truth false) after
    → ((condition then truth plainly) then if_so a b) now ≡ b after
unfolding out-Value denote.Hole.Carrier.out
not_so condition a b now after h = ap (λ e. goes_on (goes_on e (truth plainly)) (if_so a b)) h

pub no_turn_no_tick : NoTurnNoTick
no_turn_no_tick w p k measure condition body now after h = not_so condition _ _ now after h

-- a piece behind a tick that isn't there
no_tick : (next : Unit {0} → Run Value Value) (now : Now Value) → now.ticks ≡ 0 → (tick then next) now ≡ R.Stops WorkLimit now
no_tick next now h = ap (λ n. goes_on (tick_at n now) next) h

pub ticks_first : TicksFirst
ticks_first s calls active p i awaited vs f now h = no_tick _ now h

-- ---- `R[i] = e`

module _ (w : World Value) (p : Place) (k r : ℕ) (i e : Run Value Value) where
  abbrev Ways : Type 0
  Ways = Spotted Value (List Into)

  abbrev Spots : Type 0
  Spots = Spotted Value (Spot Value)

  abbrev indexed : ℤ → Run Value Ways
  indexed j = also (item_way j) (ways_of plainly [] (e ∷ []))

  abbrev spot_of : Ways → Run Value Spots
  spot_of ways = spotted (part_spot plainly k (register_spot plainly w k r) ways.found) ways.left

  abbrev given_to : Spots → Run Value Value
  given_to spot = assigned [] spot.left then spot.found.write

  abbrev replaces : ℤ → Value → Value → Run Value Value
  replaces j v old = needs (replaced (item_way j ∷ []) old v) then write_register plainly w r

  reads : (j : ℤ) (v : Value) → (register_read plainly w k r then replaces j v) ≡ (read_register w r then replaces j v)
  reads j v = ap (λ q. q then replaces j v) (then_gives (read_register w r))

  at_index : (x : Value)
      → (((integer plainly x then indexed) then spot_of) then given_to) ≡ (integer plainly x then λ j. e then λ v. read_register w r then replaces j v)
  at_index x =
      ap (λ q. q then given_to) (then_assoc (integer plainly x) indexed spot_of)
      ∙ then_assoc (integer plainly x) (λ j. indexed j then spot_of) given_to
      ∙ (λ n. integer plainly x then λ j. e then λ v. reads j v n)

  in_order : (((i then λ x. integer plainly x then indexed) then spot_of) then given_to)
      ≡ (i then λ x. integer plainly x then λ j. e then λ v. read_register w r then replaces j v)
  in_order =
      ap (λ q. q then given_to) (then_assoc i (λ x. integer plainly x then indexed) spot_of)
      ∙ then_assoc i (λ x. (integer plainly x then indexed) then spot_of) given_to
      ∙ (λ n. i then λ x. at_index x n)

pub assignments_read : AssignmentsRead
assignments_read w p k r i e = ap (λ t. assigned (t ∷ []) (i ∷ e ∷ [])) (item_means w p k r) ∙ in_order w p k r i e
