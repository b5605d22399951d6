-- Pieces that are alike, and how they are put one behind the other.
use Rattle.std.proofs.Common.{◌≡◌, ℕ, zero, suc, Bool, true, false, List, [], ◌∷◌, Option, Some, None, option_map, sym, subst}
use Rattle.sail_types.specs.declared.table.Types.{Types}
use Rattle.sail_types.specs.declared.values.Value.{Value}
use Rattle.model_state.specs.declared.cause.Cause.{Cause}
use Rattle.size_values.specs.declared.sized.Sized.{Sized}
use Rattle.sail_core.specs.declared.tree.Giver.{Giver}
use Rattle.sail_core.specs.declared.tree.Giver.TheVariants as Gives
use Rattle.sail_core.specs.Run.{Now, Ended, Run, goes_on, or_so, caught, leaving, tick, tick_at, needs, if_so, in_turn, gives, stops, stuck, falls, returns}
use Rattle.sail_core.specs.Run.{throws, ◌then◌, ◌or_else◌}
use Rattle.sail_core.specs.Making.{plainly, made}
use Rattle.sail_core.specs.Meaning.{or_then}
use Rattle.checked_meaning.specs.Items.{Item, item, vals, typs}
use Rattle.checked_meaning.specs.Checked.{Noted, Cases, noting, checked}
use Rattle.checked_meaning.specs.Alike.{plain_now, Is, is, Alike, value_in, same, EndsAlike, is_stuck, both_give, both_say_no, both_return, both_throw}
use Rattle.checked_meaning.specs.Alike.{both_stop}

-- ---- one behind the other

goes_alike : {A B C D : Type 0} {P : A → B → Type 0} {Q : C → D → Type 0} {e : Ended Item A} {d : Ended Value B} {k : A → Run Item C} (l : B → Run Value D)
    → EndsAlike P e d → ((x : A) (y : B) → P x y → Alike Q (k x) (l y)) → EndsAlike Q (goes_on e k) (goes_on d l)
goes_alike l is_stuck f = is_stuck
goes_alike l (both_give x y p noted now) f = (f x y p).at noted now
goes_alike l (both_say_no noted now) f = both_say_no noted now
goes_alike l (both_return v noted now) f = both_return v noted now
goes_alike l (both_throw v noted now) f = both_throw v noted now
goes_alike l (both_stop cause noted now) f = both_stop cause noted now

pub then_alike : {A B C D : Type 0} {P : A → B → Type 0} {Q : C → D → Type 0} {c : Run Item A} {d : Run Value B} {k : A → Run Item C} (l : B → Run Value D)
    → Alike P c d → ((x : A) (y : B) → P x y → Alike Q (k x) (l y)) → Alike Q (c then k) (d then l)
then_alike l h f = record { at = λ noted now. goes_alike l (h.at noted now) f }

goes_is : {A B C D : Type 0} {f : A → B} {Q : C → D → Type 0} {e : Ended Item A} {d : Ended Value B} {k : A → Run Item C} (l : B → Run Value D)
    → EndsAlike (Is f) e d → ((x : A) → Alike Q (k x) (l (f x))) → EndsAlike Q (goes_on e k) (goes_on d l)
goes_is l is_stuck g = is_stuck
goes_is l (both_give x _ is noted now) g = (g x).at noted now
goes_is l (both_say_no noted now) g = both_say_no noted now
goes_is l (both_return v noted now) g = both_return v noted now
goes_is l (both_throw v noted now) g = both_throw v noted now
goes_is l (both_stop cause noted now) g = both_stop cause noted now

-- where what is given is told by what the checked piece gives
pub then_is : {A B C D : Type 0} {f : A → B} {Q : C → D → Type 0} {c : Run Item A} {d : Run Value B} {k : A → Run Item C} (l : B → Run Value D)
    → Alike (Is f) c d → ((x : A) → Alike Q (k x) (l (f x))) → Alike Q (c then k) (d then l)
then_is l h g = record { at = λ noted now. goes_is l (h.at noted now) g }

or_alike_at : {A B : Type 0} {P : A → B → Type 0} {e : Ended Item A} {d : Ended Value B} {k : Run Item A} {l : Run Value B}
    → EndsAlike P e d → Alike P k l → EndsAlike P (or_so e k) (or_so d l)
or_alike_at is_stuck h = is_stuck
or_alike_at (both_give x y p noted now) h = both_give x y p noted now
or_alike_at (both_say_no noted now) h = h.at noted now
or_alike_at (both_return v noted now) h = both_return v noted now
or_alike_at (both_throw v noted now) h = both_throw v noted now
or_alike_at (both_stop cause noted now) h = both_stop cause noted now

pub or_alike : {A B : Type 0} {P : A → B → Type 0} {c k : Run Item A} {d l : Run Value B} → Alike P c d → Alike P k l → Alike P (c or_else k) (d or_else l)
or_alike g h = record { at = λ noted now. or_alike_at (g.at noted now) h }

caught_alike_at : {A B : Type 0} {P : A → B → Type 0} {e : Ended Item A} {d : Ended Value B} {k : Value → Run Item A} {l : Value → Run Value B}
    → EndsAlike P e d → ((v : Value) → Alike P (k v) (l v)) → EndsAlike P (caught e k) (caught d l)
caught_alike_at is_stuck h = is_stuck
caught_alike_at (both_give x y p noted now) h = both_give x y p noted now
caught_alike_at (both_say_no noted now) h = both_say_no noted now
caught_alike_at (both_return v noted now) h = both_return v noted now
caught_alike_at (both_throw v noted now) h = (h v).at noted now
caught_alike_at (both_stop cause noted now) h = both_stop cause noted now

-- ---- what is noted is of no matter

-- at a moment at which something else is noted
pub noted_before : {A B : Type 0} {P : A → B → Type 0} {c : Run Item A} {d : Run Value B} (noted : Noted) → Alike P c d
    → Alike P (λ now. c (record now { opened = noted })) d
noted_before noted h = record { at = λ other now. h.at other (record now { opened = noted }) }

inside_at : {A B : Type 0} {P : A → B → Type 0} {e : Ended Item A} {d : Ended Value B} (old : Noted) → EndsAlike P e d
    → EndsAlike P (leaving (λ after. record after { opened = old }) e) d
inside_at old is_stuck = is_stuck
inside_at old (both_give x y p noted now) = both_give x y p noted (record now { opened = old })
inside_at old (both_say_no noted now) = both_say_no noted (record now { opened = old })
inside_at old (both_return v noted now) = both_return v noted (record now { opened = old })
inside_at old (both_throw v noted now) = both_throw v noted (record now { opened = old })
inside_at old (both_stop cause noted now) = both_stop cause noted (record now { opened = old })

pub inside_alike : {P : Item → Value → Type 0} {c : Run Item Item} {d : Run Value Value} (types : Types) (cases : Cases) → Alike P c d
    → Alike P ((checked types cases).inside c) d
inside_alike types cases h = record { at = λ noted now. inside_at now.opened (h.at noted now) }

pub or_then_alike : {P : Item → Value → Type 0} {c k : Run Item Item} {d l : Run Value Value} (types : Types) (cases : Cases) → Alike P c d → Alike P k l
    → Alike P (or_then (checked types cases) c k) (or_then plainly d l)
or_then_alike types cases g h = record { at = λ noted now. or_alike_at (g.at noted now) (noted_before now.opened h) }

pub caught_alike : {P : Item → Value → Type 0} {c : Run Item Item} {d : Run Value Value} {k : Value → Run Item Item} {l : Value → Run Value Value}
    (types : Types) (cases : Cases) → Alike P c d → ((v : Value) → Alike P (k v) (l v))
    → Alike P (λ now. caught ((checked types cases).inside c now) (λ v after. k v (record after { opened = now.opened }))) (λ now. caught (d now) l)
caught_alike types cases g h = record { at = λ noted now. caught_alike_at (inside_at now.opened (g.at noted now)) (λ v. noted_before now.opened (h v)) }

-- ---- single steps

pub gives_alike : {A B : Type 0} {P : A → B → Type 0} (x : A) (y : B) → P x y → Alike P (gives x) (gives y)
gives_alike x y p = record { at = λ noted now. both_give x y p noted now }

pub gives_is : {A B : Type 0} {f : A → B} (x : A) → Alike (Is f) (gives x) (gives (f x))
gives_is {f} x = gives_alike x (f x) is

pub stuck_alike : {A B : Type 0} {P : A → B → Type 0} (d : Run Value B) → Alike P stuck d
stuck_alike d = record { at = λ noted now. is_stuck }

pub falls_alike : {A B : Type 0} {P : A → B → Type 0} → Alike {A = A} {B = B} P falls falls
falls_alike = record { at = λ noted now. both_say_no noted now }

pub stops_alike : {A B : Type 0} {P : A → B → Type 0} (cause : Cause) → Alike {A = A} {B = B} P (stops cause) (stops cause)
stops_alike cause = record { at = λ noted now. both_stop cause noted now }

pub returns_alike : {A B : Type 0} {P : A → B → Type 0} (v : Value) → Alike {A = A} {B = B} P (returns v) (returns v)
returns_alike v = record { at = λ noted now. both_return v noted now }

pub throws_alike : {A B : Type 0} {P : A → B → Type 0} (v : Value) → Alike {A = A} {B = B} P (throws v) (throws v)
throws_alike v = record { at = λ noted now. both_throw v noted now }

pub if_alike : {A B : Type 0} {P : A → B → Type 0} {a b : Run Item A} {c d : Run Value B} (t : Bool) → Alike P a c → Alike P b d
    → Alike P (if_so a b t) (if_so c d t)
if_alike true g h = g
if_alike false g h = h

-- a checked piece that asks for more
pub guarded_alike : {A B : Type 0} {P : A → B → Type 0} {a : Run Item A} {c : Run Value B} (t : Bool) → Alike P a c → Alike P (if_so a stuck t) c
guarded_alike true g = g
guarded_alike false g = stuck_alike _

pub needs_is : {A B : Type 0} (f : A → B) (o : Option A) → Alike (Is f) (needs o) (needs (option_map f o))
needs_is f None = stuck_alike _
needs_is f (Some x) = gives_is x

pub needs_same : {A : Type 0} (o : Option A) → Alike (Is same) (needs o) (needs o)
needs_same None = stuck_alike _
needs_same (Some x) = gives_is x

-- what is there under another name
pub needs_at : {A B : Type 0} (f : A → B) (o : Option A) (p : Option B) → p ≡ option_map f o → Alike (Is f) (needs o) (needs p)
needs_at f o p e = subst (λ q. Alike (Is f) (needs o) (needs q)) (sym e) (needs_is f o)

tick_at_alike : (n : ℕ) → Alike (Is same) (tick_at n) (tick_at n)
tick_at_alike zero = record { at = λ noted now. both_stop _ noted now }
tick_at_alike (suc n) = record { at = λ noted now. both_give tt tt is noted (record now { ticks = n }) }

pub tick_alike : Alike (Is same) tick tick
tick_alike = record { at = λ noted now. (tick_at_alike now.ticks).at noted now }

-- ---- several

abbrev pub AllAlike : List (Run Item Item) → List (Run Value Value) → Type 0
AllAlike [] [] = Unit {0}
AllAlike [] (d ∷ ds) = ⊥
AllAlike (c ∷ cs) [] = ⊥
AllAlike (c ∷ cs) (d ∷ ds) = Alike (Is value_in) c d × AllAlike cs ds

pub in_turn_alike : (cs : List (Run Item Item)) (ds : List (Run Value Value)) → AllAlike cs ds → Alike (Is vals) (in_turn cs) (in_turn ds)
in_turn_alike [] [] h = gives_is {f = vals} []
in_turn_alike [] (d ∷ ds) h = absurd h
in_turn_alike (c ∷ cs) [] h = absurd h
in_turn_alike (c ∷ cs) (d ∷ ds) h = then_is _ h.0 (λ x. then_is _ (in_turn_alike cs ds h.1) (λ xs. gives_is {f = vals} (x ∷ xs)))

-- ---- nodes

make_alike : (types : Types) (cases : Cases) (k : ℕ) (xs : List Item) (v : Value) → Alike (Is value_in) ((checked types cases).make k xs v) (gives v)
make_alike types cases k xs v = record { at = λ noted now. go (cases.makes k (typs xs) v now.opened) noted now }
  where
    go : (o : Option Sized) (noted : Noted) (now : Now Item)
        → EndsAlike (Is value_in) ((needs o then λ s. gives (item s v)) now) (gives v (plain_now noted now))
    go None noted now = is_stuck
    go (Some s) noted now = both_give (item s v) v is noted now

pub note_alike : (types : Types) (cases : Cases) (g : Giver) (v : Value) → Alike (Is same) ((checked types cases).note g v) (gives tt)
note_alike types cases g v = record { at = λ noted now. go (cases.notes g v now.opened) noted now }
  where
    go : (o : Option Noted) (noted : Noted) (now : Now Item) → EndsAlike (Is same) (noting o now) (gives tt (plain_now noted now))
    go None noted now = is_stuck
    go (Some n) noted now = both_give tt tt is noted (record now { opened = n })

-- a piece behind what is noted, of which the plain one knows nothing
pub noting_alike : {A B : Type 0} {P : A → B → Type 0} {c : Run Item A} {d : Run Value B} (types : Types) (cases : Cases) (g : Giver) (v : Value) → Alike P c d
    → Alike P ((checked types cases).note g v then λ t. c) d
noting_alike {A} {B} {P} {c} {d} types cases g v h = record { at = λ noted now. go (cases.notes g v now.opened) noted now }
  where
    go : (o : Option Noted) (noted : Noted) (now : Now Item) → EndsAlike P ((noting o then λ t. c) now) (d (plain_now noted now))
    go None noted now = is_stuck
    go (Some n) noted now = h.at noted (record now { opened = n })

pub made_alike : (types : Types) (cases : Cases) (k : ℕ) (xs : List Item) (v : Value)
    → Alike (Is value_in) (made (checked types cases) k xs v) (made plainly k (vals xs) v)
made_alike types cases k xs v =
    then_is (λ y. plainly.note (Gives.Node k) v then λ t. gives y) (make_alike types cases k xs v)
    (λ x. then_is (λ t. gives x.val) (note_alike types cases (Gives.Node k) v) (λ t.
    gives_is x))
