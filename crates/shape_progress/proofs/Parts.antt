-- Steps that several forms have: truths and integers, several parts, arms, and loops.
use Rattle.std.proofs.Common.{◌≡◌, ℕ, zero, suc, ℤ, pos, negsuc, int_le, nat_lt, List, [], ◌∷◌, map, ap, sym, refl, subst, Bool, true, false}
use Rattle.std.proofs.Common.{Option, Some, None, if◌then◌else◌}
use Rattle.std.specs.List.{list_all}
use Rattle.sail_base.specs.declared.place.Place.{Place}
use Rattle.sail_types.specs.Shapes.{fits, each_fits, put, Asked}
use Rattle.sail_types.specs.declared.shapes.Shape.{Shape}
use Rattle.sail_types.specs.declared.shapes.Shape.TheVariants as V
use Rattle.sail_types.specs.declared.values.Value.{Value, out-Value}
use Rattle.sail_types.specs.declared.values.Value.TheOpen as W
use Rattle.sail_types.specs.declared.values.Value.TheVariants as Val
use Rattle.model_state.specs.declared.cause.Cause.TheVariants.{Measure}
use Rattle.sail_core.specs.declared.tree.Counting.{Counting}
use Rattle.sail_core.specs.Run as R
use Rattle.sail_core.specs.Run.{Now, Ended, Run, gives, stops, needs, if_so, in_turn, tick, within, local, goes_on, ◌then◌}
use Rattle.sail_core.specs.Making.{World, plainly, integer, truth, natural}
use Rattle.sail_core.specs.Meaning.{count_turns, foreach, in_span, next_of, fallen, loop_measure, condition_of, while_turns, repeat_turns}
use Rattle.sail_core.specs.Values.{integer_in, truth_in, natural_of, form_integer, form_truth}
use Rattle.shape_joins.proofs.Order.{no, two}
use Rattle.shape_rules.specs.Scopes.{constant}
use Rattle.shape_meanings.specs.Keeping.{Fits, FitAll, Reach}
use Rattle.shape_meanings.proofs.Groups.{AllFit}
use Rattle.shape_progress.specs.Conditions.{measure_met}
use Rattle.shape_progress.specs.Checks.{where_met, if_met, operands}
use Rattle.shape_progress.specs.Going.{Goes, GoesOn, Has, under}
use Rattle.shape_progress.proofs.Runs.{then_goes, gives_goes, needs_goes, met_goes, tick_goes, within_goes}
use Rattle.shape_progress.proofs.Forms.{is_integer, is_truth, unit_fits, integer_fits}

module _ (reach : Reach) (w : World Value) where
  abbrev pub F : Shape → Value → Type 0
  F s v = Fits reach.types reach.choice s v

  -- ---- truths and integers

  pub truth_goes : (v : Value) → F V.Bool v → GoesOn reach w (λ (x : Bool). Unit {0}) (truth plainly v)
  truth_goes v h =
      let b = is_truth reach.types reach.choice v h in
      needs_goes reach w (λ (x : Bool). Unit {0}) (truth_in v) b.0 (ap form_truth b.1) tt

  choose : {A : Type 0} (Q : A → Type 0) (a b : Run Value A) → GoesOn reach w Q a → GoesOn reach w Q b → (t : Bool) → GoesOn reach w Q (if_so a b t)
  choose Q a b h k true = h
  choose Q a b h k false = k

  -- a truth leads to one of two pieces that go on
  pub choice_goes : {A : Type 0} (Q : A → Type 0) (v : Value) (a b : Run Value A) → F V.Bool v → GoesOn reach w Q a → GoesOn reach w Q b
      → GoesOn reach w Q (truth plainly v then if_so a b)
  choice_goes Q v a b h ha hb =
      then_goes reach w (λ (x : Bool). Unit {0}) Q (truth plainly v) (if_so a b) (truth_goes v h) (λ t x. choose Q a b ha hb t)

  -- an integer, and what goes on with it
  pub integer_then : {A : Type 0} (Q : A → Type 0) (v : Value) (f : ℤ → Run Value A) → F V.Int v
      → ((z : ℤ) → out-Value v ≡ W.Integer z → GoesOn reach w Q (f z))
      → GoesOn reach w Q (integer plainly v then f)
  integer_then Q v f h k =
      let z = is_integer reach.types reach.choice v h in
      then_goes reach w (λ x. out-Value v ≡ W.Integer x) Q (integer plainly v) f
      (needs_goes reach w (λ x. out-Value v ≡ W.Integer x) (integer_in v) z.0 (ap form_integer z.1) z.1) k

  -- ---- several parts

  pub turn_both : (s : Shape) (ss : List Shape) (a : Run Value Value) (rs : List (Run Value Value)) → Has reach w s a
      → GoesOn reach w (FitAll reach.types reach.choice ss) (in_turn rs) → GoesOn reach w (FitAll reach.types reach.choice (s ∷ ss)) (in_turn (a ∷ rs))
  turn_both s ss a rs h k =
      then_goes reach w (F s) (FitAll reach.types reach.choice (s ∷ ss)) a (λ x. in_turn rs then λ xs. gives (x ∷ xs)) h
      (λ x fit. then_goes reach w (FitAll reach.types reach.choice ss) (FitAll reach.types reach.choice (s ∷ ss)) (in_turn rs) (λ xs. gives (x ∷ xs)) k
      (λ xs fits_all. gives_goes reach w (FitAll reach.types reach.choice (s ∷ ss)) (x ∷ xs)
      (two (fits reach.types x (put reach.choice s)) (each_fits (map (fits reach.types) xs) (map (put reach.choice) ss)) fit fits_all)))

  pub turn_each : (s : Shape) (a : Run Value Value) (rs : List (Run Value Value)) → Has reach w s a
      → GoesOn reach w (AllFit reach.types reach.choice s) (in_turn rs) → GoesOn reach w (AllFit reach.types reach.choice s) (in_turn (a ∷ rs))
  turn_each s a rs h k =
      then_goes reach w (F s) (AllFit reach.types reach.choice s) a (λ x. in_turn rs then λ xs. gives (x ∷ xs)) h
      (λ x fit. then_goes reach w (AllFit reach.types reach.choice s) (AllFit reach.types reach.choice s) (in_turn rs) (λ xs. gives (x ∷ xs)) k
      (λ xs fits_all. gives_goes reach w (AllFit reach.types reach.choice s) (x ∷ xs)
      (two (fits reach.types x (put reach.choice s)) (list_all (λ (f : Asked). f (put reach.choice s)) (map (fits reach.types) xs)) fit fits_all)))

  -- values, each as a piece that gives it
  again : (vs : List Value) (now : Now Value) → in_turn (map (λ v. gives v) vs) now ≡ R.Gives vs now
  again [] now = refl
  again (v ∷ vs) now = ap (λ (e : Ended Value (List Value)). goes_on e (λ (xs : List Value). gives (v ∷ xs))) (again vs now)

  -- parts, a condition on their values, and what is done with them
  pub operands_go : (P : List Value → Type 0) (Q : Value → Type 0) (met : List Value → Bool) (parts : List (Run Value Value))
      (f : List Value → Run Value Value) → GoesOn reach w P (in_turn parts) → ((vs : List Value) → P vs → met vs ≡ true → GoesOn reach w Q (f vs))
      → GoesOn reach w Q (operands met parts (λ rs. in_turn rs then f))
  operands_go P Q met parts f h k =
      then_goes reach w P Q (in_turn parts) (λ vs. where_met (met vs) (in_turn (map (λ v. gives v) vs) then f)) h
      (λ vs fit. met_goes reach w Q (met vs) (in_turn (map (λ v. gives v) vs) then f)
      (λ is now ready. subst (λ e. Goes reach w Q (goes_on e f)) (sym (again vs now)) (k vs fit is now ready)))

  -- a part whose value has to meet a condition
  pub part_met : (s : Shape) (met : Value → Bool) (a : Run Value Value) → Has reach w s a → GoesOn reach w (λ v. F s v × (met v ≡ true)) (if_met met a)
  part_met s met a h =
      then_goes reach w (F s) (λ v. F s v × (met v ≡ true)) a (λ v. where_met (met v) (gives v)) h
      (λ v fit. met_goes reach w (λ u. F s u × (met u ≡ true)) (met v) (gives v)
      (λ is. gives_goes reach w (λ u. F s u × (met u ≡ true)) v (fit, is)))

  -- ---- loops

  turns_go : (t : Shape) (before : Now Value) (n : ℕ) (name : List ℕ) (way : Counting) (i to by : ℤ) (body : Run Value Value)
      → Has (under reach (constant name V.Int ∷ [])) w t body → GoesOn reach w (F V.Unit) (count_turns plainly before n name way i to by body)
  turns_go t before zero name way i to by body h = λ now ready. tt
  turns_go t before (suc n) name way i to by body h =
      choose (F V.Unit)
      (tick then λ x. within (local name (Val.Integer i) ∷ []) body then λ y. count_turns plainly before n name way (next_of way i by) to by body)
      (gives Val.Unit)
      (then_goes reach w (λ (x : Unit {0}). Unit {0}) (F V.Unit) tick
      (λ x. within (local name (Val.Integer i) ∷ []) body then λ y. count_turns plainly before n name way (next_of way i by) to by body) (tick_goes reach w)
      (λ x k. then_goes reach w (F t) (F V.Unit) (within (local name (Val.Integer i) ∷ []) body)
      (λ y. count_turns plainly before n name way (next_of way i by) to by body)
      (within_goes reach w (F t) (constant name V.Int ∷ []) (local name (Val.Integer i) ∷ []) body (refl, integer_fits reach.types reach.choice i, tt) h)
      (λ y fit. turns_go t before n name way (next_of way i by) to by body h)))
      (gives_goes reach w (F V.Unit) Val.Unit (unit_fits reach.types reach.choice)) (in_span way i to)

  pub foreach_goes : (t : Shape) (name : List ℕ) (way : Counting) (from to by : ℤ) (body : Run Value Value) → int_le (pos 1) by ≡ true
      → Has (under reach (constant name V.Int ∷ [])) w t body → GoesOn reach w (F V.Unit) (foreach plainly name way from to by body)
  foreach_goes t name way from to by body up h now ready =
      subst (λ b. Goes reach w (F V.Unit) (if_so (count_turns plainly now (suc now.ticks) name way from to by body) R.stuck b now)) (sym up)
      (turns_go t now (suc now.ticks) name way from to by body h now ready)

  fallen_if : (b : Bool) (place : Place) (n : ℕ) → GoesOn reach w (λ (k : ℕ). Unit {0}) (if b then gives n else stops (Measure place))
  fallen_if true place n = gives_goes reach w (λ (k : ℕ). Unit {0}) n tt
  fallen_if false place n = λ now ready. tt

  fallen_goes : (place : Place) (last : Option ℕ) (n : ℕ) → GoesOn reach w (λ (k : ℕ). Unit {0}) (fallen place last n)
  fallen_goes place None n = gives_goes reach w (λ (k : ℕ). Unit {0}) n tt
  fallen_goes place (Some last) n = fallen_if (nat_lt n last) place n

  natural_at : (z : ℤ) → measure_met (W.Integer z) ≡ true → GoesOn reach w (λ (k : ℕ). Unit {0}) (needs (natural_of z))
  natural_at (pos n) h = gives_goes reach w (λ (k : ℕ). Unit {0}) n tt
  natural_at (negsuc n) h = no h

  -- a measure's value, which isn't negative
  abbrev pub Measures : Value → Type 0
  Measures v = F V.Int v × (measure_met (out-Value v) ≡ true)

  pub natural_goes : (v : Value) → Measures v → GoesOn reach w (λ (k : ℕ). Unit {0}) (natural plainly v)
  natural_goes v is =
      integer_then (λ (k : ℕ). Unit {0}) v (λ z. needs (natural_of z)) is.0 (λ z e. natural_at z (subst (λ x. measure_met x ≡ true) e is.1))

  measure_goes : (before : Now Value) (place : Place) (m : Run Value Value) (last : Option ℕ) → GoesOn reach w Measures m
      → GoesOn reach w (λ (k : ℕ). Unit {0}) (loop_measure plainly before place m last)
  measure_goes before place m last h =
      then_goes reach w Measures (λ (k : ℕ). Unit {0}) m (λ v. natural plainly v then fallen place last) h
      (λ v is. then_goes reach w (λ (k : ℕ). Unit {0}) (λ (k : ℕ). Unit {0}) (natural plainly v) (fallen place last) (natural_goes v is)
      (λ n x. fallen_goes place last n))

  condition_goes : (before : Now Value) (c : Run Value Value) → Has reach w V.Bool c → GoesOn reach w (λ (b : Bool). Unit {0}) (condition_of plainly before c)
  condition_goes before c h = then_goes reach w (F V.Bool) (λ (b : Bool). Unit {0}) c (truth plainly) h (λ v fit. truth_goes v fit)

  ended : GoesOn reach w (F V.Unit) (gives Val.Unit)
  ended = gives_goes reach w (F V.Unit) Val.Unit (unit_fits reach.types reach.choice)

  pub while_goes : (t : Shape) (before : Now Value) (n : ℕ) (place : Place) (m c b : Run Value Value) (last : Option ℕ) → GoesOn reach w Measures m
      → Has reach w V.Bool c → Has reach w t b → GoesOn reach w (F V.Unit) (while_turns plainly before n place m c b last)
  while_goes t before zero place m c b last hm hc hb = λ now ready. tt
  while_goes t before (suc n) place m c b last hm hc hb =
      let turn : Run Value Value =
      tick then λ x. loop_measure plainly before place m last then λ k. b then λ y. while_turns plainly before n place m c b (Some k) in
      then_goes reach w (λ (x : Bool). Unit {0}) (F V.Unit) (condition_of plainly before c) (if_so turn (gives Val.Unit)) (condition_goes before c hc)
      (λ yes u. choose (F V.Unit) turn (gives Val.Unit)
      (then_goes reach w (λ (x : Unit {0}). Unit {0}) (F V.Unit) tick
      (λ x. loop_measure plainly before place m last then λ k. b then λ y. while_turns plainly before n place m c b (Some k)) (tick_goes reach w)
      (λ x u. then_goes reach w (λ (k : ℕ). Unit {0}) (F V.Unit) (loop_measure plainly before place m last)
      (λ k. b then λ y. while_turns plainly before n place m c b (Some k)) (measure_goes before place m last hm)
      (λ k u. then_goes reach w (F t) (F V.Unit) b (λ y. while_turns plainly before n place m c b (Some k)) hb
      (λ y fit. while_goes t before n place m c b (Some k) hm hc hb))))
      ended yes)

  pub repeat_goes : (t : Shape) (before : Now Value) (n : ℕ) (place : Place) (m b c : Run Value Value) (last : Option ℕ) → GoesOn reach w Measures m
      → Has reach w t b → Has reach w V.Bool c → GoesOn reach w (F V.Unit) (repeat_turns plainly before n place m b c last)
  repeat_goes t before zero place m b c last hm hb hc = λ now ready. tt
  repeat_goes t before (suc n) place m b c last hm hb hc =
      let behind : ℕ → Run Value Value =
      λ k. condition_of plainly before c then if_so (gives Val.Unit) (repeat_turns plainly before n place m b c (Some k)) in
      then_goes reach w (λ (x : Unit {0}). Unit {0}) (F V.Unit) tick (λ x. loop_measure plainly before place m last then λ k. b then λ y. behind k)
      (tick_goes reach w)
      (λ x u. then_goes reach w (λ (k : ℕ). Unit {0}) (F V.Unit) (loop_measure plainly before place m last) (λ k. b then λ y. behind k)
      (measure_goes before place m last hm)
      (λ k u. then_goes reach w (F t) (F V.Unit) b (λ y. behind k) hb
      (λ y fit. then_goes reach w (λ (x : Bool). Unit {0}) (F V.Unit) (condition_of plainly before c)
      (if_so (gives Val.Unit) (repeat_turns plainly before n place m b c (Some k))) (condition_goes before c hc)
      (λ yes u. choose (F V.Unit) (gives Val.Unit) (repeat_turns plainly before n place m b c (Some k)) ended
      (repeat_goes t before n place m b c (Some k) hm hb hc) yes))))
