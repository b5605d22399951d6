-- Steps of loops over the definitions and overloads of a model.
use Rattle.std.proofs.Common.{◌≡◌, ℕ, ◌+◌, ◌<◌, Bool, true, false, cond, List, [], ◌∷◌, ◌++◌, length, take, drop, get_or, refl, sym, ap, ◌∙◌, bytes_eq}
use Rattle.std.proofs.Common.{Option, Some, None, nat_eq, suc, zero}
use Rattle.std.specs.Prelude.{find, is_some}
use Rattle.std.proofs.lemmas.List.{take_more, drop_more}
use Rattle.std.proofs.lemmas.List.Folds.{find-append}
use Rattle.sail_types.specs.Rows.{row_name}
use Rattle.sail_types.specs.declared.rows.Row.{Row}
use Rattle.std.proofs.Math.Nat.{add-zero, zero-add, add-suc, suc-add}
use Rattle.std.proofs.Common.{add-one}
use Rattle.std.specs.Option.{option_or}
use Rattle.sail_types.specs.declared.shapes.Shape.{Shape}
use Rattle.sail_types.specs.declared.shapes.Shape.TheVariants as V
use Rattle.shape_rules.specs.declared.error.ShapeError.{ShapeError}
use Rattle.shape_rules.specs.declared.callees.Meant.{Meant}
use Rattle.shape_rules.specs.declared.callees.Meant.TheVariants as M
use Rattle.shape_rules.specs.Findings.{first_failure}
use Rattle.shape_rules.proofs.Firsts.{first_failure_append}
use Rattle.shape_models.specs.declared.clashes.Added.{Added}
use Rattle.shape_models.specs.declared.entries.Entry.{Entry}
use Rattle.shape_models.specs.declared.overloads.Overload.{Overload}
use Rattle.shape_models.specs.Models.{meant_in, variables_from, or_row, or_overload, candidates}
use Rattle.shape_models.specs.Held.{has_own, over, or_named}
use Rattle.shape_models.specs.Overloads.{clashes_with, clashes_behind}

-- what a name means where one more entry stands behind others
entry_behind : (t : Bool) (m : Meant) (rest last : Option Meant) (whole : Option Meant) → whole ≡ option_or rest last
    → cond t (Some m) whole ≡ option_or (cond t (Some m) rest) last
entry_behind true m rest last whole h = refl
entry_behind false m rest last whole h = h

pub meant_more : (es : List Entry) (e : Entry) (name : List ℕ)
    → meant_in (es ++ e ∷ []) name ≡ option_or (meant_in es name) (cond (bytes_eq e.name name) (Some e.meant) None)
meant_more [] e name = refl
meant_more (f ∷ es) e name =
    entry_behind (bytes_eq f.name name) f.meant (meant_in es name) (cond (bytes_eq e.name name) (Some e.meant) None) (meant_in (es ++ e ∷ []) name)
    (meant_more es e name)

-- one more variable
pub variables_more : (i n : ℕ) → variables_from i (suc n) ≡ variables_from i n ++ V.Variable (i + n) ∷ []
variables_more i zero = ap (λ k. V.Variable k ∷ []) (sym (add-zero i))
variables_more i (suc n) =
    ap (λ ss. V.Variable i ∷ ss) (variables_more (suc i) n ∙ ap (λ k. variables_from (suc i) n ++ V.Variable k ∷ []) (suc-add i n ∙ sym (add-suc i n)))

-- one more overload
pub or_named_more : (old : Option Meant) (os : List Overload) (o : Overload) (name : List ℕ)
    → or_named old (os ++ o ∷ []) name ≡ or_overload (or_named old os name) (cond (bytes_eq o.name name) (candidates o.added) [])
or_named_more old [] o name = refl
or_named_more old (p ∷ os) o name = or_named_more (or_overload old (cond (bytes_eq p.name name) (candidates p.added) [])) os o name

-- a value that is there stays the first
pub stays_first : {A : Type 0} (t : Bool) (old new : Option A) → (t ≡ true → is_some old ≡ true) → old ≡ option_or old (cond t new None)
stays_first true None new there = let both : false ≡ true = there refl in cc
stays_first true (Some value) new there = refl
stays_first false None new there = refl
stays_first false (Some value) new there = refl

-- where there is none a new value is the first
pub comes_first : {A : Type 0} (t : Bool) (old : Option A) (new : A) → (t ≡ true → is_some old ≡ false)
    → cond t (Some new) old ≡ option_or old (cond t (Some new) None)
comes_first true None new free = refl
comes_first true (Some value) new free = let both : true ≡ false = free refl in cc
comes_first false None new free = refl
comes_first false (Some value) new free = refl

-- nothing comes behind
pub or_nothing : {A : Type 0} (old : Option A) → option_or old None ≡ old
or_nothing None = refl
or_nothing (Some value) = refl

-- one more row
row_behind : (old : Option Meant) (t : Bool) (found : Option Row) (row : Row)
    → option_or (or_row old found) (cond t (Some (M.Row row)) None) ≡ or_row old (option_or found (cond t (Some row) None))
row_behind (Some meant) t None row = refl
row_behind (Some meant) t (Some other) row = refl
row_behind None t (Some other) row = refl
row_behind None true None row = refl
row_behind None false None row = refl

pub rows_more : (rows : List Row) (at : ℕ) (default : Row) (own : List ℕ) (old values now : List ℕ → Option Meant) → at < length rows
    → own ≡ row_name (get_or rows at default)
    → ((name : List ℕ) → now name ≡ option_or (values name) (cond (bytes_eq own name) (Some (M.Row (get_or rows at default))) None))
    → ((name : List ℕ) → values name ≡ or_row (old name) (find (λ row. bytes_eq (row_name row) name) (take at rows)))
    → (name : List ℕ) → now name ≡ or_row (old name) (find (λ row. bytes_eq (row_name row) name) (take (at + 1) rows))
rows_more rows at default own old values now within same is h name =
    let row : Row = get_or rows at default in
    let test : Row → Bool = λ one. bytes_eq (row_name one) name in
    is name ∙ ap (λ n. option_or (values name) (cond (bytes_eq n name) (Some (M.Row row)) None)) same
    ∙ ap (λ found. option_or found (cond (test row) (Some (M.Row row)) None)) (h name)
    ∙ row_behind (old name) (test row) (find test (take at rows)) row
    ∙ ap (or_row (old name)) (sym (find-append test (take at rows) (row ∷ [])))
    ∙ ap (λ all. or_row (old name) (find test all)) (sym (take_more rows at default within))

-- an overload without members gives its name no meaning, and one with members where there is none
pub no_overload : (t : Bool) (old : Option Meant) (added : List Added) → added ≡ [] → old ≡ or_overload old (cond t (candidates added) [])
no_overload true (Some meant) added h = refl
no_overload false (Some meant) added h = refl
no_overload true None added h = ap (λ all. or_overload None (candidates all)) (sym h)
no_overload false None added h = refl

pub some_overload : (t : Bool) (old : Option Meant) (added : List Added) → (added ≡ [] → ⊥)
    → option_or old (cond t (Some (M.Overload (candidates added))) None) ≡ or_overload old (cond t (candidates added) [])
some_overload t old [] h = absurd (h refl)
some_overload true None (a ∷ added) h = refl
some_overload false None (a ∷ added) h = refl
some_overload true (Some meant) (a ∷ added) h = refl
some_overload false (Some meant) (a ∷ added) h = refl

-- a let over a name that means something of its own, and over another
pub own_stays : (t : Bool) (old : Option Meant) (bound : Meant) → (t ≡ true → has_own old ≡ true) → old ≡ cond t (over old bound) old
own_stays true old bound own = ap (λ b. cond b old (Some bound)) (sym (own refl))
own_stays false old bound own = refl

pub let_comes : (t : Bool) (old : Option Meant) (bound : Meant) → (t ≡ true → has_own old ≡ false)
    → cond t (Some bound) old ≡ cond t (over old bound) old
let_comes true old bound free = ap (λ b. cond b old (Some bound)) (sym (free refl))
let_comes false old bound free = refl

-- so many variables and one more
pub made_variables : (n : ℕ) (made pushed : List Shape) (small : ℕ) → made ≡ variables_from 0 n → small ≡ n
    → pushed ≡ made ++ V.Variable small ∷ [] → pushed ≡ variables_from 0 (n + 1)
made_variables n made pushed small is same push =
    push ∙ (λ i. is i ++ V.Variable (same i) ∷ []) ∙ ap (λ k. variables_from 0 n ++ V.Variable k ∷ []) (sym (zero-add n))
    ∙ sym (variables_more 0 n) ∙ ap (variables_from 0) (sym (add-one n))

candidates_more : (added : List Added) (a : Added) → candidates (added ++ a ∷ []) ≡ candidates added ++ a.member ∷ []
candidates_more [] a = refl
candidates_more (b ∷ added) a = ap (λ fs. b.member ∷ fs) (candidates_more added a)

-- one more member behind others is looked at
pub clash_step : (members : List Added) (at : ℕ) (before : List Added) (item : Added) (kept now start : Option ShapeError) → at < length members
    → before ≡ take at members → item ≡ get_or members at item → now ≡ first_failure kept (clashes_with (candidates before) item)
    → first_failure kept (clashes_behind (candidates (take at members)) (drop at members)) ≡ start
    → first_failure now (clashes_behind (candidates (take (at + 1) members)) (drop (at + 1) members)) ≡ start
clash_step members at before item kept now start less is_before is_item noted inv =
    let rest : drop at members ≡ item ∷ drop (at + 1) members =
    drop_more members at item less ∙ ap (λ (x : Added). x ∷ drop (at + 1) members) (sym is_item) in
    let grown : take (at + 1) members ≡ take at members ++ item ∷ [] =
    take_more members at item less ∙ ap (λ (x : Added). take at members ++ x ∷ []) (sym is_item) in
    let more : candidates (take (at + 1) members) ≡ candidates (take at members) ++ item.member ∷ [] =
    ap candidates grown ∙ candidates_more (take at members) item in
    let left = drop (at + 1) members in
    let own = clashes_with (candidates (take at members)) item in
    ap (λ k. first_failure k (clashes_behind (candidates (take (at + 1) members)) left))
    (noted ∙ ap (λ b. first_failure kept (clashes_with (candidates b) item)) is_before)
    ∙ ap (λ fs. first_failure (first_failure kept own) (clashes_behind fs left)) more
    ∙ sym (first_failure_append kept own (clashes_behind (candidates (take at members) ++ item.member ∷ []) left))
    ∙ ap (λ all. first_failure kept (clashes_behind (candidates (take at members)) all)) (sym rest) ∙ inv

-- the failures of one more of several are noted
pub noted_at : {A : Type 0} (faults : List A → List ShapeError) (one : A → List ShapeError)
    → ((x : A) (xs : List A) → faults (x ∷ xs) ≡ one x ++ faults xs) → (xs : List A) (i : ℕ) (default : A) (kept now start : Option ShapeError)
    → i < length xs → now ≡ first_failure kept (one (get_or xs i default)) → first_failure kept (faults (drop i xs)) ≡ start
    → first_failure now (faults (drop (i + 1) xs)) ≡ start
noted_at faults one opens xs i default kept now start less noted inv =
    ap (λ k. first_failure k (faults (drop (i + 1) xs))) noted
    ∙ sym (first_failure_append kept (one (get_or xs i default)) (faults (drop (i + 1) xs)))
    ∙ ap (first_failure kept) (sym (opens (get_or xs i default) (drop (i + 1) xs)) ∙ ap faults (sym (drop_more xs i default less))) ∙ inv
