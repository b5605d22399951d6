-- Runs that agree and keep shapes, one behind the other; and names in scope.
use Rattle.std.proofs.Common.{◌≡◌, ℕ, List, [], ◌∷◌, ◌++◌, length, drop, ap, sym, ◌∙◌, refl, subst, Bool, true, false, Option, Some, None}
use Rattle.std.proofs.Common.{if◌then◌else◌}
use Rattle.std.specs.Str.{bytes_eq}
use Rattle.sail_types.specs.declared.table.Types.{Types}
use Rattle.sail_types.specs.declared.values.Value.{Value}
use Rattle.sail_core.specs.Run as R
use Rattle.sail_core.specs.Run.{Now, Ended, Run, goes_on, or_so, within, leaving, held_in, ◌then◌}
use Rattle.shape_joins.proofs.JoinsLeast.{some_same, none}
use Rattle.shape_rules.specs.declared.locals.Local.{Local}
use Rattle.shape_rules.specs.Scopes.{Locals, local_of}
use Rattle.shape_meanings.specs.Whole.{Choice}
use Rattle.shape_meanings.specs.Keeping.{Fits, Suits, Reach, Good, Keeps, Agree, Apart, KeepsApart, AgreeApart}

-- ---- one piece, and then the next

then_keeps : {A B : Type 0} (reach : Reach) (P : A → Type 0) (Q : B → Type 0) (m : Ended Value A) (kc km : A → Run Value B)
    → Keeps reach P m
    → ((x : A) (now : Now Value) → P x → Good reach now → Agree reach Q (kc x now) (km x now))
    → Agree reach Q (goes_on m kc) (goes_on m km)
then_keeps reach P Q (R.Gives x now) kc km k next = next x now k.0 k.1
then_keeps reach P Q (R.No now) kc km k next = (refl, k)
then_keeps reach P Q (R.Returns v now) kc km k next = (refl, k)
then_keeps reach P Q (R.Throws v now) kc km k next = (refl, k)
then_keeps reach P Q (R.Stops cause now) kc km k next = (refl, k)
then_keeps reach P Q R.Stuck kc km k next = (refl, tt)

pub then_agree : {A B : Type 0} (reach : Reach) (P : A → Type 0) (Q : B → Type 0) (n m : Ended Value A) (kc km : A → Run Value B)
    → Agree reach P n m
    → ((x : A) (now : Now Value) → P x → Good reach now → Agree reach Q (kc x now) (km x now))
    → Agree reach Q (goes_on n kc) (goes_on m km)
then_agree reach P Q n m kc km a next =
    let r = then_keeps reach P Q m kc km a.1 next in
    (ap (λ e. goes_on e kc) a.0 ∙ r.0, r.1)

-- ---- one piece, and where it says No another one

or_keeps : {A : Type 0} (reach : Reach) (P : A → Type 0) (m : Ended Value A) (kc km : Run Value A)
    → Keeps reach P m → ((now : Now Value) → Good reach now → Agree reach P (kc now) (km now))
    → Agree reach P (or_so m kc) (or_so m km)
or_keeps reach P (R.Gives x now) kc km k next = (refl, k)
or_keeps reach P (R.No now) kc km k next = next now k
or_keeps reach P (R.Returns v now) kc km k next = (refl, k)
or_keeps reach P (R.Throws v now) kc km k next = (refl, k)
or_keeps reach P (R.Stops cause now) kc km k next = (refl, k)
or_keeps reach P R.Stuck kc km k next = (refl, tt)

pub or_agree : {A : Type 0} (reach : Reach) (P : A → Type 0) (n m : Ended Value A) (kc km : Run Value A)
    → Agree reach P n m → ((now : Now Value) → Good reach now → Agree reach P (kc now) (km now))
    → Agree reach P (or_so n kc) (or_so m km)
or_agree reach P n m kc km a next =
    let r = or_keeps reach P m kc km a.1 next in
    (ap (λ e. or_so e kc) a.0 ∙ r.0, r.1)

-- ---- what is weaker is kept too

pub keeps_as : {A : Type 0} (reach : Reach) (P Q : A → Type 0) (m : Ended Value A) → ((x : A) → P x → Q x) → Keeps reach P m → Keeps reach Q m
keeps_as reach P Q (R.Gives x now) f k = (f x k.0, k.1)
keeps_as reach P Q (R.No now) f k = k
keeps_as reach P Q (R.Returns v now) f k = k
keeps_as reach P Q (R.Throws v now) f k = k
keeps_as reach P Q (R.Stops cause now) f k = k
keeps_as reach P Q R.Stuck f k = tt

pub agree_as : {A : Type 0} (reach : Reach) (P Q : A → Type 0) (n m : Ended Value A) → ((x : A) → P x → Q x) → Agree reach P n m → Agree reach Q n m
agree_as reach P Q n m f a = (a.0, keeps_as reach P Q m f a.1)

-- the core goes on with another that means the same, and so does the source
pub agree_via : {A : Type 0} (reach : Reach) (P : A → Type 0) (n n2 m m2 : Ended Value A) → n ≡ n2 → m ≡ m2 → Agree reach P n2 m2 → Agree reach P n m
agree_via reach P n n2 m m2 e f a = (e ∙ a.0 ∙ sym f, subst (Keeps reach P) (sym f) a.1)

-- ---- a call: the names in scope are those of before

good_after : (reach : Reach) (before now : Now Value) → Good reach before → Apart reach.types reach.registers before now → Good reach now
good_after reach before now good apart = record {
  locals = subst (Suits reach.types reach.choice reach.slots) (sym apart.locals) good.locals;
  state = apart.state;
}

pub out_of_call : {A : Type 0} (reach : Reach) (P : A → Type 0) (before : Now Value) (m : Ended Value A) → Good reach before
    → KeepsApart reach.types reach.registers reach.thrown P before m → Keeps reach P m
out_of_call reach P before (R.Gives x now) good k = (k.0, good_after reach before now good k.1)
out_of_call reach P before (R.No now) good k = good_after reach before now good k
out_of_call reach P before (R.Returns v now) good k = absurd k
out_of_call reach P before (R.Throws v now) good k = (k.0, good_after reach before now good k.1)
out_of_call reach P before (R.Stops cause now) good k = good_after reach before now good k
out_of_call reach P before R.Stuck good k = tt

pub call_agrees : {A : Type 0} (reach : Reach) (P : A → Type 0) (before : Now Value) (n m : Ended Value A) → Good reach before
    → AgreeApart reach.types reach.registers reach.thrown P before n m → Agree reach P n m
call_agrees reach P before n m good a = (a.0, out_of_call reach P before m good a.1)

-- ---- further names in scope

abbrev pub inside : Reach → List Local → Reach
inside reach new = record reach { slots = new ++ reach.slots }

pub suits_behind : (types : Types) (c : Choice) (new slots : List Local) (found bound : List (R.Local Value)) → Suits types c new found
    → Suits types c slots bound → Suits types c (new ++ slots) (found ++ bound)
suits_behind types c [] slots [] bound h k = k
suits_behind types c [] slots (b ∷ bs) bound h k = absurd h
suits_behind types c (l ∷ ls) slots [] bound h k = absurd h
suits_behind types c (l ∷ ls) slots (b ∷ bs) bound h k = (h.0, h.1, suits_behind types c ls slots bs bound h.2 k)

pub suits_left : (types : Types) (c : Choice) (new slots : List Local) (found bound : List (R.Local Value)) → Suits types c new found
    → Suits types c (new ++ slots) bound → Suits types c slots (drop (length found) bound)
suits_left types c [] slots [] bound h k = k
suits_left types c [] slots (b ∷ bs) bound h k = absurd h
suits_left types c (l ∷ ls) slots [] bound h k = absurd h
suits_left types c (l ∷ ls) slots (b ∷ bs) [] h k = absurd k
suits_left types c (l ∷ ls) slots (b ∷ bs) (d ∷ ds) h k = suits_left types c ls slots bs ds h.2 k.2

-- what a piece leaves, without the names that were added
abbrev left_by : List (R.Local Value) → Now Value → Now Value
left_by found after = record after { locals = drop (length found) after.locals }

good_left : (reach : Reach) (new : List Local) (found : List (R.Local Value)) (after : Now Value) → Suits reach.types reach.choice new found
    → Good (inside reach new) after → Good reach (left_by found after)
good_left reach new found after h good = record {
  locals = suits_left reach.types reach.choice new reach.slots found after.locals h good.locals;
  state = good.state;
}

leaving_keeps : {A : Type 0} (reach : Reach) (P : A → Type 0) (new : List Local) (found : List (R.Local Value)) (m : Ended Value A)
    → Suits reach.types reach.choice new found → Keeps (inside reach new) P m → Keeps reach P (leaving (left_by found) m)
leaving_keeps reach P new found (R.Gives x now) h k = (k.0, good_left reach new found now h k.1)
leaving_keeps reach P new found (R.No now) h k = good_left reach new found now h k
leaving_keeps reach P new found (R.Returns v now) h k = (k.0, good_left reach new found now h k.1)
leaving_keeps reach P new found (R.Throws v now) h k = (k.0, good_left reach new found now h k.1)
leaving_keeps reach P new found (R.Stops cause now) h k = good_left reach new found now h k
leaving_keeps reach P new found R.Stuck h k = tt

-- a piece under names that suit: they are gone behind it, however it ends
pub within_agrees : {A : Type 0} (reach : Reach) (P : A → Type 0) (new : List Local) (found : List (R.Local Value)) (kc km : Run Value A) (now : Now Value)
    → Good reach now → Suits reach.types reach.choice new found
    → ((here : Now Value) → Good (inside reach new) here → Agree (inside reach new) P (kc here) (km here))
    → Agree reach P (within found kc now) (within found km now)
within_agrees reach P new found kc km now good h next =
    let a = next (record now { locals = found ++ now.locals }) (record {
      locals = suits_behind reach.types reach.choice new reach.slots found now.locals h good.locals;
      state = good.state;
    }) in
    (ap (leaving (left_by found)) a.0, leaving_keeps reach P new found (km (record now { locals = found ++ now.locals })) h a.1)

-- ---- names

-- the value of the innermost local of a name
held_if : (types : Types) (c : Choice) (b : Bool) (l : Local) (v : Value) (o : Option Local) (p : Option Value) (m : Local)
    → Fits types c l.shape v → ((n : Local) → o ≡ Some n → (u : Value) × (p ≡ Some u) × Fits types c n.shape u)
    → (if b then Some l else o) ≡ Some m → (u : Value) × ((if b then Some v else p) ≡ Some u) × Fits types c m.shape u
held_if types c true l v o p m h later e = (v, refl, subst (λ (n : Local). Fits types c n.shape v) (some_same l m e) h)
held_if types c false l v o p m h later e = later m e

pub in_scope : (types : Types) (c : Choice) (slots : List Local) (bound : List (R.Local Value)) (name : List ℕ) (l : Local) → Suits types c slots bound
    → local_of name slots ≡ Some l → (v : Value) × (held_in name bound ≡ Some v) × Fits types c l.shape v
in_scope types c [] [] name l h e = none e
in_scope types c [] (b ∷ bs) name l h e = absurd h
in_scope types c (s ∷ ss) [] name l h e = absurd h
in_scope types c (s ∷ ss) (b ∷ bs) name l h e =
    subst (λ n. (v : Value) × ((if bytes_eq n name then Some b.held else held_in name bs) ≡ Some v) × Fits types c l.shape v) (sym h.0)
    (held_if types c (bytes_eq s.name name) s b.held (local_of name ss) (held_in name bs) l h.1 (λ n f. in_scope types c ss bs name n h.2 f) e)

absent_if : (b : Bool) (l : Local) (v : Value) (o : Option Local) (p : Option Value) → (o ≡ None → p ≡ None) → (if b then Some l else o) ≡ None
    → (if b then Some v else p) ≡ None
absent_if true l v o p later e = none (sym e)
absent_if false l v o p later e = later e

pub not_in_scope : (types : Types) (c : Choice) (slots : List Local) (bound : List (R.Local Value)) (name : List ℕ) → Suits types c slots bound
    → local_of name slots ≡ None → held_in name bound ≡ None
not_in_scope types c [] [] name h e = refl
not_in_scope types c [] (b ∷ bs) name h e = absurd h
not_in_scope types c (s ∷ ss) [] name h e = absurd h
not_in_scope types c (s ∷ ss) (b ∷ bs) name h e =
    ap (λ n. if bytes_eq n name then Some b.held else held_in name bs) h.0
    ∙ absent_if (bytes_eq s.name name) s b.held (local_of name ss) (held_in name bs) (not_in_scope types c ss bs name h.2) e

-- a local that is found has the name that was looked for
named_if : (b : Bool) (name : List ℕ) (l m : Local) (o : Option Local) → bytes_eq l.name name ≡ b → (o ≡ Some m → bytes_eq m.name name ≡ true)
    → (if b then Some l else o) ≡ Some m → bytes_eq m.name name ≡ true
named_if true name l m o is later e = subst (λ (n : Local). bytes_eq n.name name ≡ true) (some_same l m e) is
named_if false name l m o is later e = later e

pub is_named : (locals : Locals) (name : List ℕ) (l : Local) → local_of name locals ≡ Some l → bytes_eq l.name name ≡ true
is_named [] name l e = none e
is_named (s ∷ ss) name l e = named_if (bytes_eq s.name name) name s l (local_of name ss) refl (is_named ss name l) e
