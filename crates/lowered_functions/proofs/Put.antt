-- The parts of a function, one behind the other.
use Rattle.std.proofs.Common.{◌≡◌, ◌∙◌, ℕ, ◌+◌, List, [], ◌++◌, length, refl, sym, ap, subst, arith}
use Rattle.std.specs.Prelude.{OnOk, Result}
use Rattle.std.proofs.lemmas.Result.{on_ok_weaker}
use Rattle.size_values.specs.declared.sized.Sized.{Sized}
use Rattle.jib.specs.declared.code.Instruction.{Instruction}
use Rattle.lowered_slots.specs.Slots.{name_in}
use Rattle.lowered_pieces.specs.declared.coding.Coding.{Coding}
use Rattle.lowered_pieces.specs.Emitted.{Begins, Coded, Emits, UsesBelow, no_labels}
use Rattle.lowered_pieces.specs.Places.{Naming}
use Rattle.lowered_pieces.proofs.Emitting.{begins_here, emits_as, emits_then}
use Rattle.lowered_nodes.specs.declared.walk.Walk.{Walk}
use Rattle.lowered_functions.specs.Made.{CodeMade, first_slots}

no_more : (n : ℕ) → n + 0 ≡ n
no_more n = omega arith

-- code without labels behind code
pub emits_behind : (old mid new : Coding) (c : Coded) (f : Naming → List Instruction) (n : Naming → ℕ) → Emits old mid c n
    → Emits mid new (λ name l. f name) no_labels → Emits old new (λ name l. c name l ++ f name) n
emits_behind old mid new c f n x y =
    emits_as old new (λ name l. c name l ++ f name) (λ name l. c name l ++ f name) (λ name. n name + 0) n (λ name. refl) (λ name. no_more (n name))
    (emits_then old mid new c (λ name l. f name) n no_labels x y)

pub ok_behind : {T E : Type 0} (r : Result T E) (old mid new : Coding) (c : Coded) (f : Naming → List Instruction) (n : Naming → ℕ) → Emits old mid c n
    → OnOk r (Emits mid new (λ name l. f name) no_labels) → OnOk r (Emits old new (λ name l. c name l ++ f name) n)
ok_behind r old mid new c f n x h = on_ok_weaker r (λ (y : Emits mid new (λ name l. f name) no_labels). emits_behind old mid new c f n x y) h

-- two parts, and code without labels behind them
pub ok_answer : {T E : Type 0} (r : Result T E) (old a b new : Coding) (c e : Coded) (f : Naming → List Instruction) (n m : Naming → ℕ) → Emits old a c n
    → Emits a b e m → OnOk r (Emits b new (λ name l. f name) no_labels)
    → OnOk r (Emits old new (λ name l. (c name l ++ e name (l + n name)) ++ f name) (λ name. n name + m name))
ok_answer r old a b new c e f n m x y h =
    ok_behind r old b new (λ name l. c name l ++ e name (l + n name)) f (λ name. n name + m name) (emits_then old a b c e n m x y) h

-- ---- what is made of a function, where its first slots are there and three labels are its own

pub code_made : (walk : Walk) (given : List Sized) (old new : Coding) (code : Coded) (n : Naming → ℕ) (whole : Naming → List Instruction)
    → old.slots ≡ first_slots walk.setting.now given → old.code ≡ [] → old.labels ≡ 3 → ((name : Naming) → code name 3 ≡ whole name) → Emits old new code n
    → CodeMade walk new given whole
code_made walk given old new code n whole slots empty labels same e =
    let at : (name : Naming) → code name old.labels ≡ whole name = λ name. ap (λ l. code name l) labels ∙ same name in
    let all : new.code ≡ whole (name_in new.slots) =
    e.put new.slots (begins_here new.slots) ∙ ap (λ cs. cs ++ code (name_in new.slots) old.labels) empty ∙ at (name_in new.slots) in
    record {
      first = subst (λ ss. Begins ss new.slots) slots e.grown;
      put = all;
      room = subst (λ cs. UsesBelow (length new.slots) cs) (at (name_in new.slots) ∙ sym all) (e.room new.slots (begins_here new.slots));
    }

-- the measure, the answer, and where no pattern of the measure matches
pub ok_measured : {T E : Type 0} (r : Result T E) (old a b new : Coding) (measure answer : Coded) (last : Naming → List Instruction) (n m : Naming → ℕ)
    → Emits old a measure n → Emits a b answer m → OnOk r (Emits b new (λ name l. last name) no_labels)
    → OnOk r (Emits old new (λ name l. measure name l ++ (answer name (l + n name) ++ last name)) (λ name. n name + m name))
ok_measured r old a b new measure answer last n m x y h =
    on_ok_weaker r (λ (z : Emits b new (λ name l. last name) no_labels).
    emits_then old a new measure (λ name l. answer name l ++ last name) n m x (emits_behind a b new answer last m y z)) h
