-- Names, registers and builtins, checked and plain.
use Rattle.std.proofs.Common.{◌≡◌, ℕ, zero, suc, Bool, true, false, List, [], ◌∷◌, ◌++◌, length, drop, map, slice_get, Option, Some, None, option_map}
use Rattle.std.proofs.Common.{if◌then◌else◌, refl, sym, ap, subst}
use Rattle.std.specs.Str.{bytes_eq}
use Rattle.sail_types.specs.declared.table.Types.{Types}
use Rattle.sail_types.specs.declared.rows.Row.{Row}
use Rattle.sail_types.specs.declared.values.Value.{Value}
use Rattle.model_state.specs.declared.cause.Ended.{Ended as EndOfRow}
use Rattle.model_state.specs.declared.cause.Ended.TheVariants as E
use Rattle.model_state.specs.RunState.{Ran, register_value, with_register}
use Rattle.model_state.specs.StateRows.{state_row}
use Rattle.row_types.specs.Calls.{has_state}
use Rattle.builtins.specs.RowValues.{row}
use Rattle.sail_core.specs.Run as R
use Rattle.sail_core.specs.Run.{Local, Now, Ended, Run, leaving, within, apart, held_in, changed_in, kept, local, needs, ended_as, after_row, row_run, ◌then◌}
use Rattle.sail_core.specs.Making.{plainly}
use Rattle.sail_core.specs.Targets.{read_register, write_register, set_locals, set_variable}
use Rattle.checked_meaning.specs.Items.{Item}
use Rattle.checked_meaning.specs.Checked.{Noted, Cases, checked}
use Rattle.checked_meaning.specs.Alike.{plain_now, plain_local, plain_locals, Is, is, Alike, value_in, same, Around, checked_world, plain_world, EndsAlike}
use Rattle.checked_meaning.specs.Alike.{is_stuck, both_give, both_say_no, both_return, both_throw, both_stop}
use Rattle.checked_meaning.proofs.Pieces.{then_is, needs_same, needs_at}

-- ---- lists, and what is left of them

pub map-both : {A B : Type 0} (f : A → B) (xs ys : List A) → map f xs ++ map f ys ≡ map f (xs ++ ys)
map-both f [] ys = refl
map-both f (x ∷ xs) ys = ap (λ zs. f x ∷ zs) (map-both f xs ys)

pub map-got : {A B : Type 0} (f : A → B) (xs : List A) (i : ℕ) → slice_get (map f xs) i ≡ option_map f (slice_get xs i)
map-got f [] i = refl
map-got f (x ∷ xs) zero = refl
map-got f (x ∷ xs) (suc i) = map-got f xs i

map-dropped : {A B : Type 0} (f : A → B) (new xs : List A) → drop (length (map f new)) (map f xs) ≡ map f (drop (length new) xs)
map-dropped f [] xs = refl
map-dropped f (n ∷ new) [] = refl
map-dropped f (n ∷ new) (x ∷ xs) = map-dropped f new xs

-- ---- scopes

left_alike : {A B : Type 0} {P : A → B → Type 0} (g : Noted → Noted) (change : Now Item → Now Item) (plain : Now Value → Now Value)
    → ((noted : Noted) (now : Now Item) → plain (plain_now noted now) ≡ plain_now (g noted) (change now))
    → {e : Ended Item A} {d : Ended Value B} → EndsAlike P e d → EndsAlike P (leaving change e) (leaving plain d)
left_alike g change plain k is_stuck = is_stuck
left_alike {P} g change plain k (both_give x y p noted now) = subst (λ n. EndsAlike P (R.Gives x (change now)) (R.Gives y n)) (sym (k noted now))
    (both_give x y p (g noted) (change now))
left_alike {P} g change plain k (both_say_no noted now) = subst (λ n. EndsAlike P (R.No (change now)) (R.No n)) (sym (k noted now))
    (both_say_no (g noted) (change now))
left_alike {P} g change plain k (both_return v noted now) = subst (λ n. EndsAlike P (R.Returns v (change now)) (R.Returns v n)) (sym (k noted now))
    (both_return v (g noted) (change now))
left_alike {P} g change plain k (both_throw v noted now) = subst (λ n. EndsAlike P (R.Throws v (change now)) (R.Throws v n)) (sym (k noted now))
    (both_throw v (g noted) (change now))
left_alike {P} g change plain k (both_stop cause noted now) = subst (λ n. EndsAlike P (R.Stops cause (change now)) (R.Stops cause n)) (sym (k noted now))
    (both_stop cause (g noted) (change now))

abbrev with_locals : Now Value → List (Local Value) → Now Value
with_locals now ls = record now { locals = ls }

pub within_alike : {A B : Type 0} {P : A → B → Type 0} {c : Run Item A} {d : Run Value B} (new : List (Local Item)) → Alike P c d
    → Alike P (within new c) (within (plain_locals new) d)
within_alike {P} {c} {d} new h = record {
  at = λ noted now.
      left_alike (λ n. n) (λ after. record after { locals = drop (length new) after.locals })
      (λ after. record after { locals = drop (length (plain_locals new)) after.locals })
      (λ n after. ap (with_locals (plain_now n after)) (map-dropped plain_local new after.locals))
      (subst (λ ls. EndsAlike P (c (record now { locals = new ++ now.locals })) (d (record (plain_now noted now) { locals = ls })))
      (sym (map-both plain_local new now.locals)) (h.at noted (record now { locals = new ++ now.locals })));
}

pub apart_alike : {A B : Type 0} {P : A → B → Type 0} {c : Run Item A} {d : Run Value B} → Alike P c d → Alike P (apart c) (apart d)
apart_alike h = record {
  at = λ noted now.
      left_alike (λ n. noted) (λ after. record after { locals = now.locals; opened = now.opened })
      (λ after. record after { locals = plain_locals now.locals; opened = noted }) (λ n after. refl)
      (h.at (λ i. None) (record now { locals = []; opened = λ i. None }));
}

-- ---- names

held_if : (b : Bool) (x : Item) (o : Option Item) (p : Option Value) → p ≡ option_map value_in o
    → (if b then Some x.val else p) ≡ option_map value_in (if b then Some x else o)
held_if true x o p h = refl
held_if false x o p h = h

held_alike : (name : List ℕ) (ls : List (Local Item)) → held_in name (plain_locals ls) ≡ option_map value_in (held_in name ls)
held_alike name [] = refl
held_alike name (l ∷ ls) = held_if (bytes_eq l.name name) l.held (held_in name ls) (held_in name (plain_locals ls)) (held_alike name ls)

-- a name in scope
pub held_needed : (name : List ℕ) → Alike (Is value_in) (λ now. needs (held_in name now.locals) now) (λ now. needs (held_in name now.locals) now)
held_needed name = record {
  at = λ noted now. (needs_at value_in (held_in name now.locals) (held_in name (plain_locals now.locals))
      (held_alike name now.locals)).at noted now;
}

kept_alike : (l : Local Item) (o : Option (List (Local Item))) (p : Option (List (Local Value))) → p ≡ option_map plain_locals o
    → kept (plain_local l) p ≡ option_map plain_locals (kept l o)
kept_alike l None p h = ap (kept (plain_local l)) h
kept_alike l (Some ls) p h = ap (kept (plain_local l)) h

changed_if : (b : Bool) (x : Item) (l : Local Item) (ls : List (Local Item)) (o : Option (List (Local Item))) (p : Option (List (Local Value)))
    → p ≡ option_map plain_locals o
    → (if b then Some (local l.name x.val ∷ plain_locals ls) else kept (plain_local l) p)
    ≡ option_map plain_locals (if b then Some (local l.name x ∷ ls) else kept l o)
changed_if true x l ls o p h = refl
changed_if false x l ls o p h = kept_alike l o p h

changed_alike : (name : List ℕ) (x : Item) (ls : List (Local Item)) → changed_in name x.val (plain_locals ls) ≡ option_map plain_locals (changed_in name x ls)
changed_alike name x [] = refl
changed_alike name x (l ∷ ls) = changed_if (bytes_eq l.name name) x l ls (changed_in name x ls) (changed_in name x.val (plain_locals ls))
    (changed_alike name x ls)

set_at : (types : Types) (cases : Cases) (noted : Noted) (now : Now Item) (o : Option (List (Local Item))) (p : Option (List (Local Value)))
    → p ≡ option_map plain_locals o → EndsAlike (Is value_in) (set_locals (checked types cases) now o) (set_locals plainly (plain_now noted now) p)
set_at types cases noted now None p h = is_stuck
set_at types cases noted now (Some ls) p h =
    subst (λ q. EndsAlike (Is value_in) (set_locals (checked types cases) now (Some ls)) (set_locals plainly (plain_now noted now) q)) (sym h)
    (both_give _ _ is noted (record now { locals = ls }))

pub set_alike : (types : Types) (cases : Cases) (name : List ℕ) (x : Item)
    → Alike (Is value_in) (set_variable (checked types cases) name x) (set_variable plainly name x.val)
set_alike types cases name x = record {
  at = λ noted now.
      set_at types cases noted now (changed_in name x now.locals) (changed_in name x.val (plain_locals now.locals)) (changed_alike name x now.locals);
}

-- ---- registers

pub read_alike : (a : Around) (r : ℕ) → Alike (Is same) (read_register (checked_world a) r) (read_register (plain_world a) r)
read_alike a r = record { at = λ noted now. (needs_same (register_value now.state a.hart r)).at noted now }

pub write_alike : (types : Types) (cases : Cases) (a : Around) (r : ℕ) (v : Value)
    → Alike (Is value_in) (write_register (checked types cases) (checked_world a) r v) (write_register plainly (plain_world a) r v)
write_alike types cases a r v =
    then_is _ (read_alike a r)
    (λ old. record { at = λ noted now. both_give _ _ is noted (record now { state = with_register a.hart r v now.state }) })

-- ---- builtins

ended_alike : (noted : Noted) (now : Now Item) (e : EndOfRow) → EndsAlike (Is same) (ended_as e now) (ended_as e (plain_now noted now))
ended_alike noted now (E.Value v) = both_give v v is noted now
ended_alike noted now (E.Stop cause) = both_stop cause noted now

after_alike : (noted : Noted) (now : Now Item) (o : Option Ran) → EndsAlike (Is same) (after_row o now) (after_row o (plain_now noted now))
after_alike noted now None = is_stuck
after_alike noted now (Some ran) = ended_alike noted (record now { state = ran.state; accesses = now.accesses ++ ran.accesses }) ran.ended

row_at : (b : Bool) (r : Row) (hart : ℕ) (vs : List Value) (noted : Noted) (now : Now Item)
    → EndsAlike (Is same) (if b then after_row (state_row r hart now.state vs) now else needs (row r vs) now)
    (if b then after_row (state_row r hart now.state vs) (plain_now noted now) else needs (row r vs) (plain_now noted now))
row_at true r hart vs noted now = after_alike noted now (state_row r hart now.state vs)
row_at false r hart vs noted now = (needs_same (row r vs)).at noted now

pub row_alike : (r : Row) (hart : ℕ) (vs : List Value) → Alike (Is same) (row_run r hart vs) (row_run r hart vs)
row_alike r hart vs = record { at = λ noted now. row_at (has_state r) r hart vs noted now }
