-- Pieces that end later, and how they are put one behind the other.
use Rattle.std.proofs.Common.{◌≡◌, ℕ, zero, suc, ◌≤◌, Bool, true, false, List, [], ◌∷◌, ◌++◌, length, drop, Option, Some, None}
use Rattle.std.proofs.Common.{if◌then◌else◌, refl, sym, ap, ◌∙◌, arith, append_assoc, append-nil}
use Rattle.std.specs.Str.{bytes_eq}
use Rattle.sail_types.specs.declared.values.Value.{Value}
use Rattle.model_state.specs.declared.cause.Cause.{Cause}
use Rattle.model_state.specs.RunState.{RunState}
use Rattle.model_state.specs.Folds.{Keeps}
use Rattle.sail_core.specs.Run as R
use Rattle.sail_core.specs.Run.{Local, Now, Ended, Run, goes_on, or_so, caught, leaving, within, apart, tick, tick_at, needs, if_so, in_turn, stops}
use Rattle.sail_core.specs.Run.{held_in, changed_in, kept, local, ◌then◌, ◌or_else◌}
use Rattle.sail_core.specs.Steady.{names_of, Later, is_done, EndsLater, Steady}

pub keeps_all : (state : RunState) → Keeps state state
keeps_all state = record { types = refl; registers = refl; harts = refl; base = refl; size = refl; more = []; console = sym (append-nil state.console) }

pub keeps_both : {a b c : RunState} → Keeps a b → Keeps b c → Keeps a c
keeps_both {a} p q = record {
  types = q.types ∙ p.types;
  registers = q.registers ∙ p.registers;
  harts = q.harts ∙ p.harts;
  base = q.base ∙ p.base;
  size = q.size ∙ p.size;
  more = p.more ++ q.more;
  console = q.console ∙ ap (λ bytes. bytes ++ q.more) p.console ∙ append_assoc a.console p.more q.more;
}

pub le_refl : (n : ℕ) → n ≤ n
le_refl n = omega arith

pub le_both : {a b c : ℕ} → b ≤ a → c ≤ b → c ≤ a
le_both p q = omega (arith, p, q)

pub at_once : (now : Now Value) → Later now now
at_once now = record { ticks = le_refl now.ticks; state = keeps_all now.state; more = []; accesses = sym (append-nil now.accesses); names = refl }

pub later_both : {a b c : Now Value} → Later a b → Later b c → Later a c
later_both {a} p q = record {
  ticks = le_both p.ticks q.ticks;
  state = keeps_both p.state q.state;
  more = p.more ++ q.more;
  accesses = q.accesses ∙ ap (λ l. l ++ q.more) p.accesses ∙ append_assoc a.accesses p.more q.more;
  names = q.names ∙ p.names;
}

pub ends_both : {A : Type 0} {a b : Now Value} → Later a b → (e : Ended Value A) → EndsLater b e → EndsLater a e
ends_both p (R.Gives x now) h = later_both p h
ends_both p (R.No now) h = later_both p h
ends_both p (R.Returns v now) h = later_both p h
ends_both p (R.Throws v now) h = later_both p h
ends_both p (R.Stops cause now) h = (later_both p h.0, h.1)
ends_both p R.Stuck h = tt

-- what is given is such
abbrev pub Given : {A : Type 0} → (A → Type 0) → Ended Value A → Type 0
Given P (R.Gives x now) = P x
Given P (R.No now) = Unit {0}
Given P (R.Returns v now) = Unit {0}
Given P (R.Throws v now) = Unit {0}
Given P (R.Stops cause now) = Unit {0}
Given P R.Stuck = Unit {0}

abbrev pub SteadyWith : {A : Type 0} → (A → Type 0) → Run Value A → Type 0
SteadyWith P run = (now : Now Value) → EndsLater now (run now) × Given P (run now)

goes_with : {A B : Type 0} {P : A → Type 0} (Q : B → Type 0) (now : Now Value) (e : Ended Value A) (f : A → Run Value B)
    → EndsLater now e × Given P e → ((x : A) → P x → SteadyWith Q (f x)) → EndsLater now (goes_on e f) × Given Q (goes_on e f)
goes_with Q now (R.Gives x after) f h k = (ends_both h.0 (f x after) (k x h.1 after).0, (k x h.1 after).1)
goes_with Q now (R.No after) f h k = (h.0, tt)
goes_with Q now (R.Returns v after) f h k = (h.0, tt)
goes_with Q now (R.Throws v after) f h k = (h.0, tt)
goes_with Q now (R.Stops cause after) f h k = (h.0, tt)
goes_with Q now R.Stuck f h k = (tt, tt)

pub then_with : {A B : Type 0} {P : A → Type 0} (Q : B → Type 0) (r : Run Value A) (f : A → Run Value B)
    → SteadyWith P r → ((x : A) → P x → SteadyWith Q (f x)) → SteadyWith Q (r then f)
then_with {P} Q r f h k now = goes_with {P = P} Q now (r now) f (h now) k

goes_steady : {A B : Type 0} {P : A → Type 0} (now : Now Value) (e : Ended Value A) (f : A → Run Value B)
    → EndsLater now e × Given P e → ((x : A) → P x → Steady (f x)) → EndsLater now (goes_on e f)
goes_steady now (R.Gives x after) f h k = ends_both h.0 (f x after) (k x h.1 after)
goes_steady now (R.No after) f h k = h.0
goes_steady now (R.Returns v after) f h k = h.0
goes_steady now (R.Throws v after) f h k = h.0
goes_steady now (R.Stops cause after) f h k = h.0
goes_steady now R.Stuck f h k = tt

pub found_then : {A B : Type 0} {P : A → Type 0} (r : Run Value A) (f : A → Run Value B)
    → SteadyWith P r → ((x : A) → P x → Steady (f x)) → Steady (r then f)
found_then {P} r f h k now = goes_steady {P = P} now (r now) f (h now) k

goes : {A B : Type 0} (now : Now Value) (e : Ended Value A) (f : A → Run Value B) → EndsLater now e → ((x : A) → Steady (f x)) → EndsLater now (goes_on e f)
goes now (R.Gives x after) f h k = ends_both h (f x after) (k x after)
goes now (R.No after) f h k = h
goes now (R.Returns v after) f h k = h
goes now (R.Throws v after) f h k = h
goes now (R.Stops cause after) f h k = h
goes now R.Stuck f h k = tt

pub then_steady : {A B : Type 0} (r : Run Value A) (f : A → Run Value B) → Steady r → ((x : A) → Steady (f x)) → Steady (r then f)
then_steady r f h k now = goes now (r now) f (h now) k

or_later : {A : Type 0} (now : Now Value) (e : Ended Value A) (r : Run Value A) → EndsLater now e → Steady r → EndsLater now (or_so e r)
or_later now (R.Gives x after) r h k = h
or_later now (R.No after) r h k = ends_both h (r after) (k after)
or_later now (R.Returns v after) r h k = h
or_later now (R.Throws v after) r h k = h
or_later now (R.Stops cause after) r h k = h
or_later now R.Stuck r h k = tt

pub or_steady : {A : Type 0} (a b : Run Value A) → Steady a → Steady b → Steady (a or_else b)
or_steady a b h k now = or_later now (a now) b (h now) k

pub caught_later : {A : Type 0} (now : Now Value) (e : Ended Value A) (f : Value → Run Value A)
    → EndsLater now e → ((v : Value) → Steady (f v)) → EndsLater now (caught e f)
caught_later now (R.Gives x after) f h k = h
caught_later now (R.No after) f h k = h
caught_later now (R.Returns v after) f h k = h
caught_later now (R.Throws v after) f h k = ends_both h (f v after) (k v after)
caught_later now (R.Stops cause after) f h k = h
caught_later now R.Stuck f h k = tt

leaves : {A : Type 0} (now start : Now Value) (change : Now Value → Now Value) → ((after : Now Value) → Later start after → Later now (change after))
    → (e : Ended Value A) → EndsLater start e → EndsLater now (leaving change e)
leaves now start change k (R.Gives x after) h = k after h
leaves now start change k (R.No after) h = k after h
leaves now start change k (R.Returns v after) h = k after h
leaves now start change k (R.Throws v after) h = k after h
leaves now start change k (R.Stops cause after) h = (k after h.0, h.1)
leaves now start change k R.Stuck h = tt

drop_names : (new old after : List (Local Value)) → names_of after ≡ names_of (new ++ old) → names_of (drop (length new) after) ≡ names_of old
drop_names [] old after h = h
drop_names (n ∷ new) old [] h = cc h
drop_names (n ∷ new) old (a ∷ after) h = drop_names new old after (ap (λ l. drop 1 l) h)

pub within_steady : {A : Type 0} (new : List (Local Value)) (r : Run Value A) → Steady r → Steady (within new r)
within_steady new r h now =
    leaves now (record now { locals = new ++ now.locals }) (λ after. record after { locals = drop (length new) after.locals })
    (λ after p. record { ticks = p.ticks; state = p.state; more = p.more; accesses = p.accesses; names = drop_names new now.locals after.locals p.names })
    (r (record now { locals = new ++ now.locals })) (h (record now { locals = new ++ now.locals }))

pub apart_steady : {A : Type 0} (r : Run Value A) → Steady r → Steady (apart r)
apart_steady r h now =
    leaves now (record now { locals = []; opened = λ i. None }) (λ after. record after { locals = now.locals; opened = now.opened })
    (λ after p. record { ticks = p.ticks; state = p.state; more = p.more; accesses = p.accesses; names = refl })
    (r (record now { locals = []; opened = λ i. None })) (h (record now { locals = []; opened = λ i. None }))

-- ---- single steps

pub gives_steady : {A : Type 0} (x : A) → Steady (R.gives x)
gives_steady x now = at_once now

pub needs_steady : {A : Type 0} (o : Option A) → Steady (needs o)
needs_steady None now = tt
needs_steady (Some x) now = at_once now

pub stops_steady : (A : Type 0) (cause : Cause) → is_done cause ≡ false → Steady {A = A} (stops cause)
stops_steady A cause h now = (at_once now, h)

pub if_steady : {A : Type 0} (a b : Run Value A) → Steady a → Steady b → (t : Bool) → Steady (if_so a b t)
if_steady a b h k true = h
if_steady a b h k false = k

tick_later : (n : ℕ) (now : Now Value) → n ≡ now.ticks → EndsLater now (tick_at n now)
tick_later zero now h = (at_once now, refl)
tick_later (suc n) now h = record { ticks = omega (arith, h); state = keeps_all now.state; more = []; accesses = sym (append-nil now.accesses); names = refl }

pub tick_steady : Steady tick
tick_steady now = tick_later now.ticks now refl

abbrev pub AllSteady : {A : Type 0} → List (Run Value A) → Type 0
AllSteady [] = Unit {0}
AllSteady (r ∷ rs) = Steady r × AllSteady rs

pub in_turn_steady : {A : Type 0} (rs : List (Run Value A)) → AllSteady rs → Steady (in_turn rs)
in_turn_steady {A} [] h = gives_steady {A = List A} []
in_turn_steady {A} (r ∷ rs) h =
    then_steady r (λ x. in_turn rs then λ xs. R.gives (x ∷ xs)) h.0
    (λ x. then_steady (in_turn rs) (λ xs. R.gives (x ∷ xs)) (in_turn_steady rs h.1) (λ xs. gives_steady {A = List A} (x ∷ xs)))

-- ---- a local is bound to something else

abbrev pub SameNames : List (Local Value) → Option (List (Local Value)) → Type 0
SameNames old None = Unit {0}
SameNames old (Some new) = names_of new ≡ names_of old

kept_names : (first : Local Value) (others : List (Local Value)) (o : Option (List (Local Value))) → SameNames others o → SameNames (first ∷ others)
    (kept first o)
kept_names first others None h = tt
kept_names first others (Some new) h = λ i. first.name ∷ h i

changed_if : (b : Bool) (x : Value) (first : Local Value) (others : List (Local Value)) (o : Option (List (Local Value))) → SameNames others o
    → SameNames (first ∷ others) (if b then Some (local first.name x ∷ others) else kept first o)
changed_if true x first others o h = refl
changed_if false x first others o h = kept_names first others o h

pub changed_names : (name : List ℕ) (x : Value) (locals : List (Local Value)) → SameNames locals (changed_in name x locals)
changed_names name x [] = tt
changed_names name x (first ∷ others) = changed_if (bytes_eq first.name name) x first others (changed_in name x others) (changed_names name x others)
