-- What names mean once one more top-level let, or several, bind some.
use Rattle.std.proofs.Common.{◌≡◌, ℕ, ◌+◌, Bool, true, false, cond, List, [], ◌∷◌, ◌++◌, length, refl, sym, ap, ◌∙◌, bytes_eq, suc, zero}
use Rattle.std.proofs.Common.{Option, Some, None, append_assoc}
use Rattle.std.proofs.Math.Nat.{add-zero, zero-add, add-suc, suc-add}
use Rattle.std.proofs.lemmas.List.{append-nil}
use Rattle.std.specs.Option.{option_or}
use Rattle.sail_syntax.specs.declared.definitions.Def.{Def}
use Rattle.sail_types.specs.Rows.{row_named}
use Rattle.sail_types.specs.declared.rows.Row.{Row}
use Rattle.sail_types.specs.declared.table.Types.{Types}
use Rattle.shape_rules.specs.declared.callees.Candidate.{Candidate}
use Rattle.shape_rules.specs.declared.callees.Meant.{Meant}
use Rattle.shape_rules.specs.declared.callees.Meant.TheVariants as M
use Rattle.shape_rules.specs.declared.locals.Local.{Local}
use Rattle.shape_models.specs.Models.{Own, or_row, or_overload, let_in, value_of, candidates, added_to_name}
use Rattle.shape_models.specs.Held.{is_own, over, lets_over, AreOwn}
use Rattle.shape_models.proofs.Steps.{or_nothing}

over_cases : (t : Bool) (o b : Option Meant) (row : Option Row) (fs : List Candidate) (bound : Meant)
    → ((m : Meant) → o ≡ Some m → is_own m ≡ true) → ((m : Meant) → b ≡ Some m → is_own m ≡ true)
    → cond t (over (or_overload (or_row (option_or o b) row) fs) bound) (or_overload (or_row (option_or o b) row) fs)
    ≡ or_overload (or_row (option_or o (option_or b (cond t (Some bound) None))) row) fs
over_cases false o b row fs bound ho hb = ap (λ x. or_overload (or_row (option_or o x) row) fs) (sym (or_nothing b))
over_cases true (Some m) b row fs bound ho hb = ap (λ x. cond x (Some m) (Some bound)) (ho m refl)
over_cases true None (Some m) row fs bound ho hb = ap (λ x. cond x (Some m) (Some bound)) (hb m refl)
over_cases true None None (Some r) fs bound ho hb = refl
over_cases true None None None [] bound ho hb = refl
over_cases true None None None (f ∷ fs) bound ho hb = refl

let_at : (t : Bool) (i : ℕ) (l : Local) (rest : Option Meant) (m : Meant) → (rest ≡ Some m → is_own m ≡ true)
    → cond t (Some (M.Let i l.shape)) rest ≡ Some m → is_own m ≡ true
let_at true i l rest m behind h = let same : M.Let i l.shape ≡ m = cc in ap is_own (sym same)
let_at false i l rest m behind h = behind h

-- a let gives a name a meaning of its own
let_is_own : (i : ℕ) (ls : List Local) (name : List ℕ) (m : Meant) → let_in i ls name ≡ Some m → is_own m ≡ true
let_is_own i [] name m h = cc
let_is_own i (l ∷ ls) name m h = let_at (bytes_eq l.name name) i l (let_in (suc i) ls name) m (let_is_own (suc i) ls name m) h

or_behind : (t : Bool) (first : Meant) (rest last : Option Meant) (whole : Option Meant) → whole ≡ option_or rest last
    → cond t (Some first) whole ≡ option_or (cond t (Some first) rest) last
or_behind true first rest last whole h = refl
or_behind false first rest last whole h = h

-- one more let stands behind others
let_more : (i : ℕ) (ls : List Local) (l : Local) (name : List ℕ)
    → let_in i (ls ++ l ∷ []) name ≡ option_or (let_in i ls name) (cond (bytes_eq l.name name) (Some (M.Let (i + length ls) l.shape)) None)
let_more i [] l name = ap (λ k. cond (bytes_eq l.name name) (Some (M.Let k l.shape)) None) (sym (add-zero i))
let_more i (k ∷ ls) l name =
    or_behind (bytes_eq k.name name) (M.Let i k.shape) (let_in (suc i) ls name)
    (cond (bytes_eq l.name name) (Some (M.Let (i + suc (length ls)) l.shape)) None) (let_in (suc i) (ls ++ l ∷ []) name)
    (let_more (suc i) ls l name
    ∙ ap (λ n. option_or (let_in (suc i) ls name) (cond (bytes_eq l.name name) (Some (M.Let n l.shape)) None))
    (suc-add i (length ls) ∙ sym (add-suc i (length ls))))

value_more : (types : Types) (own : Own) (text : List Def) (lets : List Local) (l : Local) (name : List ℕ) → AreOwn own
    → cond (bytes_eq l.name name) (over (value_of types own text lets name) (M.Let (length lets) l.shape)) (value_of types own text lets name)
    ≡ value_of types own text (lets ++ l ∷ []) name
value_more types own text lets l name are =
    let row = row_named name in
    let fs = candidates (added_to_name types own text name) in
    over_cases (bytes_eq l.name name) (own name) (let_in 0 lets name) row fs (M.Let (length lets) l.shape) (are name) (let_is_own 0 lets name)
    ∙ ap (λ x. or_overload (or_row (option_or (own name) x) row) fs)
    (ap (λ n. option_or (let_in 0 lets name) (cond (bytes_eq l.name name) (Some (M.Let n l.shape)) None)) (sym (zero-add (length lets)))
    ∙ sym (let_more 0 lets l name))

length_more : (ls : List Local) (l : Local) → suc (length ls) ≡ length (ls ++ l ∷ [])
length_more [] l = refl
length_more (k ∷ ls) l = ap suc (length_more ls l)

-- several lets behind others
pub values_more : (types : Types) (own : Own) (text : List Def) (lets ls : List Local) (name : List ℕ) → AreOwn own
    → lets_over (length lets) ls (value_of types own text lets name) name ≡ value_of types own text (lets ++ ls) name
values_more types own text lets [] name are = ap (λ all. value_of types own text all name) (sym (append-nil lets))
values_more types own text lets (l ∷ ls) name are =
    ap (λ old. lets_over (suc (length lets)) ls old name) (value_more types own text lets l name are)
    ∙ ap (λ n. lets_over n ls (value_of types own text (lets ++ l ∷ []) name) name) (length_more lets l)
    ∙ values_more types own text (lets ++ l ∷ []) ls name are
    ∙ ap (λ all. value_of types own text all name) (append_assoc lets (l ∷ []) ls)
