-- Pieces that are as they are meant, or stop where a condition fails: one behind the other, patterns, arms, loops and parts of values.
use Rattle.std.proofs.Common.{◌≡◌, ◌⊎◌, inl, inr, ℕ, zero, suc, ℤ, pos, int_le, List, [], ◌∷◌, ◌++◌, map, length, drop, ap, sym, refl, subst}
use Rattle.std.proofs.Common.{Bool, true, false, Option, Some, if◌then◌else◌}
use Rattle.sail_base.specs.declared.place.Place.{Place}
use Rattle.sail_types.specs.declared.values.Value.{Value}
use Rattle.sail_types.specs.declared.values.Value.TheVariants as Val
use Rattle.model_state.specs.declared.cause.Cause.TheVariants as Stop
use Rattle.sail_core.specs.declared.tree.Counting.{Counting}
use Rattle.sail_core.specs.Run as R
use Rattle.sail_core.specs.Run.{Now, Ended, Run, gives, stuck, if_so, in_turn, tick, within, leaving, local, goes_on, or_so, caught, ◌then◌}
use Rattle.sail_core.specs.Run.{◌or_else◌}
use Rattle.sail_core.specs.Making.{plainly, truth, natural}
use Rattle.sail_core.specs.Meaning.{count_turns, foreach, in_span, next_of, fallen, loop_measure, condition_of, while_turns, repeat_turns}
use Rattle.shape_progress.specs.Checks.{where_met, if_met, operands}
use Rattle.shape_progress.specs.Meant.{IsUnmet, AsMeant}

-- ---- one piece, and then the next

abbrev End : {A : Type 0} → Ended Value A → Ended Value A → Type 0
End plain piece = (piece ≡ plain) ⊎ IsUnmet piece

pub unmet_on : {A B : Type 0} (e : Ended Value A) (f : A → Run Value B) → IsUnmet e → IsUnmet (goes_on e f)
unmet_on (R.Stops Stop.StepsDone now) f h = tt
unmet_on e f h = absurd h

same_on : {A B : Type 0} (e : Ended Value A) (f g : A → Run Value B) → ((x : A) → AsMeant (f x) (g x)) → End (goes_on e f) (goes_on e g)
same_on (R.Gives x now) f g k = k x now
same_on (R.No now) f g k = inl refl
same_on (R.Returns v now) f g k = inl refl
same_on (R.Throws v now) f g k = inl refl
same_on (R.Stops cause now) f g k = inl refl
same_on R.Stuck f g k = inl refl

end_on : {A B : Type 0} (e d : Ended Value A) (f g : A → Run Value B) → End e d → ((x : A) → AsMeant (f x) (g x)) → End (goes_on e f) (goes_on d g)
end_on e d f g (inl is) k = subst (λ x. End (goes_on e f) (goes_on x g)) (sym is) (same_on e f g k)
end_on e d f g (inr u) k = inr (unmet_on d g u)

pub then_as : {A B : Type 0} (a b : Run Value A) (f g : A → Run Value B) → AsMeant a b → ((x : A) → AsMeant (f x) (g x)) → AsMeant (a then f) (b then g)
then_as a b f g h k now = end_on (a now) (b now) f g (h now) k

pub itself : {A : Type 0} (r : Run Value A) → AsMeant r r
itself r now = inl refl

unmet_or : {A : Type 0} (e : Ended Value A) (r : Run Value A) → IsUnmet e → IsUnmet (or_so e r)
unmet_or (R.Stops Stop.StepsDone now) r h = tt
unmet_or e r h = absurd h

same_or : {A : Type 0} (e : Ended Value A) (r q : Run Value A) → AsMeant r q → End (or_so e r) (or_so e q)
same_or (R.Gives x now) r q k = inl refl
same_or (R.No now) r q k = k now
same_or (R.Returns v now) r q k = inl refl
same_or (R.Throws v now) r q k = inl refl
same_or (R.Stops cause now) r q k = inl refl
same_or R.Stuck r q k = inl refl

end_or : {A : Type 0} (e d : Ended Value A) (r q : Run Value A) → End e d → AsMeant r q → End (or_so e r) (or_so d q)
end_or e d r q (inl is) k = subst (λ x. End (or_so e r) (or_so x q)) (sym is) (same_or e r q k)
end_or e d r q (inr u) k = inr (unmet_or d q u)

pub or_as : {A : Type 0} (a b r q : Run Value A) → AsMeant a b → AsMeant r q → AsMeant (a or_else r) (b or_else q)
or_as a b r q h k now = end_or (a now) (b now) r q (h now) k

unmet_caught : {A : Type 0} (e : Ended Value A) (f : Value → Run Value A) → IsUnmet e → IsUnmet (caught e f)
unmet_caught (R.Stops Stop.StepsDone now) f h = tt
unmet_caught e f h = absurd h

same_caught : {A : Type 0} (e : Ended Value A) (f g : Value → Run Value A) → ((v : Value) → AsMeant (f v) (g v)) → End (caught e f) (caught e g)
same_caught (R.Gives x now) f g k = inl refl
same_caught (R.No now) f g k = inl refl
same_caught (R.Returns v now) f g k = inl refl
same_caught (R.Throws v now) f g k = k v now
same_caught (R.Stops cause now) f g k = inl refl
same_caught R.Stuck f g k = inl refl

pub caught_as : {A : Type 0} (e d : Ended Value A) (f g : Value → Run Value A) → End e d → ((v : Value) → AsMeant (f v) (g v)) → End (caught e f) (caught d g)
caught_as e d f g (inl is) k = subst (λ x. End (caught e f) (caught x g)) (sym is) (same_caught e f g k)
caught_as e d f g (inr u) k = inr (unmet_caught d g u)

unmet_leaving : {A : Type 0} (e : Ended Value A) (change : Now Value → Now Value) → IsUnmet e → IsUnmet (leaving change e)
unmet_leaving (R.Stops Stop.StepsDone now) change h = tt
unmet_leaving e change h = absurd h

end_leaving : {A : Type 0} (e d : Ended Value A) (change : Now Value → Now Value) → End e d → End (leaving change e) (leaving change d)
end_leaving e d change (inl is) = inl (ap (leaving change) is)
end_leaving e d change (inr u) = inr (unmet_leaving d change u)

pub within_as : {A : Type 0} (new : List (R.Local Value)) (a b : Run Value A) → AsMeant a b → AsMeant (within new a) (within new b)
within_as new a b h now =
    end_leaving (a (record now { locals = new ++ now.locals })) (b (record now { locals = new ++ now.locals }))
    (λ after. record after { locals = drop (length new) after.locals }) (h (record now { locals = new ++ now.locals }))

pub so_as : {A : Type 0} (a b c d : Run Value A) → AsMeant a b → AsMeant c d → (t : Bool) → AsMeant (if_so a c t) (if_so b d t)
so_as a b c d h k true = h
so_as a b c d h k false = k

-- ---- conditions

pub met_as : {A : Type 0} (t : Bool) (a b : Run Value A) → AsMeant a b → AsMeant a (where_met t b)
met_as true a b h = h
met_as false a b h = λ now. inr tt

gives_if : (t : Bool) (v : Value) → AsMeant (gives v) (where_met t (gives v))
gives_if true v = itself (gives v)
gives_if false v = λ now. inr tt

same_met : (e : Ended Value Value) (met : Value → Bool) → End e (goes_on e (λ v. where_met (met v) (gives v)))
same_met (R.Gives x now) met = gives_if (met x) x now
same_met (R.No now) met = inl refl
same_met (R.Returns v now) met = inl refl
same_met (R.Throws v now) met = inl refl
same_met (R.Stops cause now) met = inl refl
same_met R.Stuck met = inl refl

end_met : (e d : Ended Value Value) (met : Value → Bool) → End e d → End e (goes_on d (λ v. where_met (met v) (gives v)))
end_met e d met (inl is) = subst (λ x. End e (goes_on x (λ v. where_met (met v) (gives v)))) (sym is) (same_met e met)
end_met e d met (inr u) = inr (unmet_on d (λ v. where_met (met v) (gives v)) u)

pub part_as : (met : Value → Bool) (a b : Run Value Value) → AsMeant a b → AsMeant a (if_met met b)
part_as met a b h now = end_met (a now) (b now) met (h now)

abbrev pub AllAs : List (Run Value Value) → List (Run Value Value) → Type 0
AllAs [] [] = Unit {0}
AllAs (a ∷ rs) (b ∷ qs) = AsMeant a b × AllAs rs qs
AllAs rs qs = ⊥

pub turn_as : (rs qs : List (Run Value Value)) → AllAs rs qs → AsMeant (in_turn rs) (in_turn qs)
turn_as [] [] h = λ now. inl refl
turn_as [] (b ∷ qs) h = absurd h
turn_as (a ∷ rs) [] h = absurd h
turn_as (a ∷ rs) (b ∷ qs) h =
    then_as a b (λ x. in_turn rs then λ xs. gives (x ∷ xs)) (λ x. in_turn qs then λ xs. gives (x ∷ xs)) h.0
    (λ x. then_as (in_turn rs) (in_turn qs) (λ xs. gives (x ∷ xs)) (λ xs. gives (x ∷ xs)) (turn_as rs qs h.1) (λ xs now. inl refl))

again : (vs : List Value) (now : Now Value) → in_turn (map (λ v. gives v) vs) now ≡ R.Gives vs now
again [] now = refl
again (v ∷ vs) now = ap (λ (e : Ended Value (List Value)). goes_on e (λ (xs : List Value). gives (v ∷ xs))) (again vs now)

pub operands_as : (met : List Value → Bool) (rs qs : List (Run Value Value)) (f g : List Value → Run Value Value) → AllAs rs qs
    → ((vs : List Value) → AsMeant (f vs) (g vs)) → AsMeant (in_turn rs then f) (operands met qs (λ us. in_turn us then g))
operands_as met rs qs f g h k =
    then_as (in_turn rs) (in_turn qs) f (λ vs. where_met (met vs) (in_turn (map (λ v. gives v) vs) then g)) (turn_as rs qs h)
    (λ vs. met_as (met vs) (f vs) (in_turn (map (λ v. gives v) vs) then g)
    (λ now. subst (λ e. End (f vs now) (goes_on e g)) (sym (again vs now)) (k vs now)))

-- ---- loops

pub turns_as : (before : Now Value) (n : ℕ) (name : List ℕ) (way : Counting) (i to by : ℤ) (a b : Run Value Value) → AsMeant a b
    → AsMeant (count_turns plainly before n name way i to by a) (count_turns plainly before n name way i to by b)
turns_as before zero name way i to by a b h = λ now. inl refl
turns_as before (suc n) name way i to by a b h =
    so_as (tick then λ x. within (local name (Val.Integer i) ∷ []) a then λ y. count_turns plainly before n name way (next_of way i by) to by a)
    (tick then λ x. within (local name (Val.Integer i) ∷ []) b then λ y. count_turns plainly before n name way (next_of way i by) to by b)
    (gives Val.Unit) (gives Val.Unit)
    (then_as tick tick _ _ (itself tick)
    (λ x. then_as (within (local name (Val.Integer i) ∷ []) a) (within (local name (Val.Integer i) ∷ []) b) _ _
    (within_as (local name (Val.Integer i) ∷ []) a b h) (λ y. turns_as before n name way (next_of way i by) to by a b h)))
    (itself (gives Val.Unit)) (in_span way i to)

pub foreach_as : (name : List ℕ) (way : Counting) (from to by : ℤ) (a b : Run Value Value) → AsMeant a b
    → AsMeant (foreach plainly name way from to by a) (foreach plainly name way from to by b)
foreach_as name way from to by a b h now =
    so_as (count_turns plainly now (suc now.ticks) name way from to by a) (count_turns plainly now (suc now.ticks) name way from to by b) stuck stuck
    (turns_as now (suc now.ticks) name way from to by a b h) (itself stuck) (int_le (pos 1) by) now

measure_as : (before : Now Value) (place : Place) (a b : Run Value Value) (last : Option ℕ) → AsMeant a b
    → AsMeant (loop_measure plainly before place a last) (loop_measure plainly before place b last)
measure_as before place a b last h =
    then_as a b (λ x. natural plainly x then fallen place last) (λ x. natural plainly x then fallen place last) h
    (λ x. itself (natural plainly x then fallen place last))

condition_as : (before : Now Value) (a b : Run Value Value) → AsMeant a b → AsMeant (condition_of plainly before a) (condition_of plainly before b)
condition_as before a b h = then_as a b (truth plainly) (truth plainly) h (λ x. itself (truth plainly x))

pub while_as : (before : Now Value) (n : ℕ) (place : Place) (m c b m2 c2 b2 : Run Value Value) (last : Option ℕ) → AsMeant m m2 → AsMeant c c2 → AsMeant b b2
    → AsMeant (while_turns plainly before n place m c b last) (while_turns plainly before n place m2 c2 b2 last)
while_as before zero place m c b m2 c2 b2 last hm hc hb = λ now. inl refl
while_as before (suc n) place m c b m2 c2 b2 last hm hc hb =
    then_as (condition_of plainly before c) (condition_of plainly before c2) _ _ (condition_as before c c2 hc)
    (so_as _ _ (gives Val.Unit) (gives Val.Unit)
    (then_as tick tick (λ x. loop_measure plainly before place m last then λ k. b then λ y. while_turns plainly before n place m c b (Some k))
    (λ x. loop_measure plainly before place m2 last then λ k. b2 then λ y. while_turns plainly before n place m2 c2 b2 (Some k)) (itself tick)
    (λ x. then_as (loop_measure plainly before place m last) (loop_measure plainly before place m2 last) _ _ (measure_as before place m m2 last hm)
    (λ k. then_as b b2 _ _ hb (λ y. while_as before n place m c b m2 c2 b2 (Some k) hm hc hb))))
    (itself (gives Val.Unit)))

pub repeat_as : (before : Now Value) (n : ℕ) (place : Place) (m b c m2 b2 c2 : Run Value Value) (last : Option ℕ) → AsMeant m m2 → AsMeant b b2 → AsMeant c c2
    → AsMeant (repeat_turns plainly before n place m b c last) (repeat_turns plainly before n place m2 b2 c2 last)
repeat_as before zero place m b c m2 b2 c2 last hm hb hc = λ now. inl refl
repeat_as before (suc n) place m b c m2 b2 c2 last hm hb hc =
    then_as tick tick _ _ (itself tick)
    (λ x. then_as (loop_measure plainly before place m last) (loop_measure plainly before place m2 last) _ _ (measure_as before place m m2 last hm)
    (λ k. then_as b b2 _ _ hb
    (λ y. then_as (condition_of plainly before c) (condition_of plainly before c2) (if_so (gives Val.Unit) (repeat_turns plainly before n place m b c (Some k)))
    (if_so (gives Val.Unit) (repeat_turns plainly before n place m2 b2 c2 (Some k))) (condition_as before c c2 hc)
    (so_as (gives Val.Unit) (gives Val.Unit) (repeat_turns plainly before n place m b c (Some k)) (repeat_turns plainly before n place m2 b2 c2 (Some k))
    (itself (gives Val.Unit)) (repeat_as before n place m b c m2 b2 c2 (Some k) hm hb hc)))))
