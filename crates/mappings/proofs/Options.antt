-- Options between a direction and what it gives.
use Rattle.std.proofs.Common.{◌≡◌, ℕ, Bool, true, false, ◌&&◌, List, [], ◌∷◌, ◌++◌, refl, sym, ap, ◌∙◌, append-nil, true≢false, None}
use Rattle.sail_base.specs.declared.place.Place.{Place}
use Rattle.sail_types.specs.declared.types.Typ.{Typ}
use Rattle.sail_types.specs.declared.values.Value.{Value, Value-F, out-Value, out-roll-Value}
use Rattle.sail_types.specs.declared.values.Value.TheVariants as V
use Rattle.sail_types.specs.declared.values.Value.TheOpen as W
use Rattle.model_state.specs.declared.cause.Cause.TheVariants.{MatchFailure}
use Rattle.sail_core.specs.declared.patterns.Head.TheVariants as H
use Rattle.sail_core.specs.Run as R
use Rattle.sail_core.specs.Run.{Local, Now, Run, Ended, gives, falls, stops, goes_on, or_so, leaving, apart, ◌then◌, ◌or_else◌}
use Rattle.sail_core.specs.Numbers.{Givens}
use Rattle.sail_core.specs.Making.{Making, payload}
use Rattle.sail_core.specs.Patterns.{Matcher, opened, so_many, as_run, looked, parts_match}
use Rattle.sail_core.specs.Targets.{payload_in}
use Rattle.sail_core.specs.Meaning.{option_typ, optional}
use Rattle.mappings.specs.Asked.{some_of, none_of, OpensOptions}

pub both_true : (a b : Bool) → (a && b) ≡ true → (a ≡ true) × (b ≡ true)
both_true true b h = (refl, h)
both_true false b h = absurd (true≢false (sym h))

pub and_true : (a b : Bool) → a ≡ true → b ≡ true → (a && b) ≡ true
and_true a b e h = λ i. (e i) && (h i)

-- ---- runs

pub goes_gives : {X A : Type 0} (e : Ended X A) → goes_on e gives ≡ e
goes_gives (R.Gives x now) = refl
goes_gives (R.No now) = refl
goes_gives (R.Returns v now) = refl
goes_gives (R.Throws v now) = refl
goes_gives (R.Stops cause now) = refl
goes_gives R.Stuck = refl

pub then_gives : {X A : Type 0} (r : Run X A) → (r then gives) ≡ r
then_gives r = λ i now. goes_gives (r now) i

pub then_same : {X A B : Type 0} (r : Run X A) (f g : A → Run X B) → ((x : A) → f x ≡ g x) → (r then f) ≡ (r then g)
then_same r f g h = λ i. r then λ x. h x i

-- what a piece gives as an option, and `None` where it says No
abbrev pub optioned : {X : Type 0} → Run X Value → Run X Value
optioned r = (r then λ v. gives (some_of v)) or_else gives none_of

out_union : (u c : ℕ) (v : Value) → out-Value (V.Union u c v) ≡ W.Union u c v
out_union u c v = ap out-Value (sym (V.rolls-Union u c v)) ∙ out-roll-Value (W.Union u c v)

-- ---- a call asks for the payload

payload_ended : {X : Type 0} (place : Place) (e : Ended X Value)
    → goes_on (or_so (goes_on e (λ v. gives (some_of v))) (gives none_of)) (λ o. payload_in place (out-Value o)) ≡ or_so e (stops (MatchFailure place))
payload_ended {X} place (R.Gives v now) = ap (λ o. payload_in {X = X} place o now) (out_union 0 0 v)
payload_ended {X} place (R.No now) = ap (λ o. payload_in {X = X} place o now) (out_union 0 1 V.Unit)
payload_ended place (R.Returns v now) = refl
payload_ended place (R.Throws v now) = refl
payload_ended place (R.Stops cause now) = refl
payload_ended place R.Stuck = refl

pub payload_same : {X : Type 0} (place : Place) (r : Run X Value)
    → (optioned r then λ o. payload_in place (out-Value o)) ≡ (r or_else stops (MatchFailure place))
payload_same place r = λ i now. payload_ended place (r now) i

-- ---- a pattern opens the option

abbrev pub in_option : {X : Type 0} → Making X → Givens → Matcher X → Matcher X
in_option z nu m x = as_run (looked z nu (H.Constructor 0 0) 1 x) then parts_match (m ∷ [])

module _ {X : Type 0} (z y : Making X) (opens : OpensOptions z y) (nu : Givens) (m : Matcher X) (t : Typ) where
  seen : Value → Value-F Value → Run X (List (Local X))
  seen v o = as_run (so_many 1 (opened z nu (H.Constructor 0 0) 1 (y.fixed (option_typ t) v) o)) then parts_match (m ∷ [])

  shown : (v : Value) (o : Value-F Value) → out-Value v ≡ o → in_option z nu m (y.fixed (option_typ t) v) ≡ seen v o
  unfolding seen
  shown v o h = ap (λ u. as_run (so_many 1 (opened z nu (H.Constructor 0 0) 1 (y.fixed (option_typ t) v) u)) then parts_match (m ∷ []))
      (ap out-Value (opens.shows (option_typ t) v) ∙ h)

  matched_some : (v : Value) → in_option z nu m (y.fixed (option_typ t) (some_of v)) ≡ m (y.fixed t v)
  unfolding seen
  matched_some v =
      shown (some_of v) (W.Union 0 0 v) (out_union 0 0 v)
      ∙ ap (λ x. m x then λ found. gives (found ++ [])) (opens.part t v)
      ∙ then_same (m (y.fixed t v)) (λ found. gives (found ++ [])) gives (λ found. ap gives (append-nil found))
      ∙ then_gives (m (y.fixed t v))

  matched_none : in_option z nu m (y.fixed (option_typ t) none_of) ≡ falls
  unfolding seen
  matched_none = shown none_of (W.Union 0 1 V.Unit) (out_union 0 1 V.Unit)

  matched_ended : (e : Ended X Value)
      → goes_on (goes_on (or_so (goes_on e (λ v. gives (some_of v))) (gives none_of)) (λ o. gives (y.fixed (option_typ t) o))) (in_option z nu m)
      ≡ goes_on (goes_on e (λ v. gives (y.fixed t v))) m
  matched_ended (R.Gives v now) = ap (λ (r : Run X (List (Local X))). r now) (matched_some v)
  matched_ended (R.No now) = ap (λ (r : Run X (List (Local X))). r now) matched_none
  matched_ended (R.Returns v now) = refl
  matched_ended (R.Throws v now) = refl
  matched_ended (R.Stops cause now) = refl
  matched_ended R.Stuck = refl

  pub matched_same : (r : Run X Value)
      → ((optioned r then λ o. gives (y.fixed (option_typ t) o)) then in_option z nu m) ≡ ((r then λ v. gives (y.fixed t v)) then m)
  matched_same r = λ i now. matched_ended (r now) i

-- ---- the end of a direction

module _ {X : Type 0} (y : Making X) (opens : OpensOptions y y)
    (back : (before after : Now X) → y.back before after ≡ record after { opened = (y.back before after).opened }) (t : Typ) (before now : Now X) where
  abbrev behind : Now X → Now X
  behind after = record after { locals = now.locals; opened = now.opened }

  pub direction_ended : (e : Ended X X)
      → leaving behind (goes_on (or_so (goes_on e (λ x. gives (y.fixed (option_typ t) (V.Union 0 0 (y.val x))))) (λ after. R.Gives (y.fixed (option_typ t)
      (V.Union 0 1 V.Unit)) (y.back before after))) (λ x. gives (y.val x)))
      ≡ or_so (goes_on (leaving behind (goes_on e (λ x. gives (y.val x)))) (λ v. gives (some_of v))) (gives none_of)
  direction_ended (R.Gives x after) = ap (λ v. R.Gives v (behind after)) (opens.shows (option_typ t) (some_of (y.val x)))
  direction_ended (R.No after) = λ i. R.Gives (opens.shows (option_typ t) none_of i) (behind (back before after i))
  direction_ended (R.Returns v after) = refl
  direction_ended (R.Throws v after) = refl
  direction_ended (R.Stops cause after) = refl
  direction_ended R.Stuck = refl

-- a direction's clauses as an option give as an option what they give
pub direction_same : {X : Type 0} (y : Making X) → OpensOptions y y
    → ((before after : Now X) → y.back before after ≡ record after { opened = (y.back before after).opened }) → (t : Typ) (r : Run X X)
    → apart (optional y t r then λ x. gives (y.val x)) ≡ optioned (apart (r then λ x. gives (y.val x)))
direction_same y opens back t r = λ i now.
    direction_ended y opens back t (record now { locals = []; opened = λ j. None }) now (r (record now { locals = []; opened = λ j. None })) i
