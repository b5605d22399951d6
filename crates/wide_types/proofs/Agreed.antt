-- What is owed of each two at the same place, one after the other, and what is left where one list ends.
use Rattle.std.proofs.Common.{◌≡◌, true, false, ℕ, zero, suc, ◌-◌, ◌<◌, ◌≤◌, List, [], ◌∷◌, ◌++◌, length, drop, refl, sym, ap, ◌∙◌, append_assoc, append-nil, arith}
use Rattle.std.proofs.lemmas.List.{drop_all}
use Rattle.sail_types.specs.declared.numbers.Index.{Index}
use Rattle.value_indices.specs.declared.indices.Indices.{Indices, out-Indices}
use Rattle.value_indices.specs.declared.indices.Reading.{Reading}
use Rattle.value_indices.specs.Steps.{Conditions}
use Rattle.wide_types.specs.Widening.{Agree, agrees_within, alike, differs, each_agrees, each_type_agrees, form_agrees, if_alike, same_indices}

-- conditions behind others
pub owed_more : (before now found more all : Conditions) → now ≡ before ++ found → all ≡ found ++ more → now ++ more ≡ before ++ all
owed_more before now found more all is parts =
    ap (λ cs. cs ++ more) is ∙ append_assoc before found more ∙ ap (λ cs. before ++ cs) (sym parts)

no_indices : (m : ℕ) (is : List Index) → same_indices m is [] ≡ []
no_indices m [] = refl
no_indices m (i ∷ is) = refl

no_parts : (agree : Agree) (is : List Indices) → each_agrees agree is [] ≡ []
no_parts agree [] = refl
no_parts agree (i ∷ is) = refl

no_types : (agree : Agree) (m : ℕ) (rs : List Reading) → each_type_agrees agree m rs [] ≡ []
no_types agree m [] = refl
no_types agree m (r ∷ rs) = refl

-- ---- where the first list ends, and where the others do

pub indices_end : (m : ℕ) (is js : List Index) (i : ℕ) (cs : Conditions) → length is ≤ i → cs ++ same_indices m (drop i is) (drop i js) ≡ cs
indices_end m is js i cs h = ap (λ xs. cs ++ same_indices m xs (drop i js)) (drop_all i is h) ∙ append-nil cs

pub other_indices_end : (m : ℕ) (is js : List Index) (i : ℕ) (cs : Conditions) → length js ≤ i → cs ++ same_indices m (drop i is) (drop i js) ≡ cs
other_indices_end m is js i cs h =
    ap (λ ys. cs ++ same_indices m (drop i is) ys) (drop_all i js h) ∙ ap (λ xs. cs ++ xs) (no_indices m (drop i is)) ∙ append-nil cs

pub parts_end : (agree : Agree) (is js : List Indices) (i : ℕ) (cs : Conditions) → length is ≤ i
    → cs ++ each_agrees agree (drop i is) (drop i js) ≡ cs
parts_end agree is js i cs h = ap (λ xs. cs ++ each_agrees agree xs (drop i js)) (drop_all i is h) ∙ append-nil cs

pub other_parts_end : (agree : Agree) (is js : List Indices) (i : ℕ) (cs : Conditions) → length js ≤ i
    → cs ++ each_agrees agree (drop i is) (drop i js) ≡ cs
other_parts_end agree is js i cs h =
    ap (λ ys. cs ++ each_agrees agree (drop i is) ys) (drop_all i js h) ∙ ap (λ xs. cs ++ xs) (no_parts agree (drop i is)) ∙ append-nil cs

pub types_end : (agree : Agree) (m : ℕ) (rs qs : List Reading) (i : ℕ) (cs : Conditions) → length rs ≤ i
    → cs ++ each_type_agrees agree m (drop i rs) (drop i qs) ≡ cs
types_end agree m rs qs i cs h = ap (λ xs. cs ++ each_type_agrees agree m xs (drop i qs)) (drop_all i rs h) ∙ append-nil cs

pub other_types_end : (agree : Agree) (m : ℕ) (rs qs : List Reading) (i : ℕ) (cs : Conditions) → length qs ≤ i
    → cs ++ each_type_agrees agree m (drop i rs) (drop i qs) ≡ cs
other_types_end agree m rs qs i cs h =
    ap (λ ys. cs ++ each_type_agrees agree m (drop i rs) ys) (drop_all i qs h) ∙ ap (λ xs. cs ++ xs) (no_types agree m (drop i rs)) ∙ append-nil cs

-- ---- one level of types further in

pub agrees_more : (depth m : ℕ) (i j : Indices) → 0 < depth → alike (out-Indices i) (out-Indices j) ≡ true
    → agrees_within depth m i j ≡ form_agrees (agrees_within (depth - 1) m) m (out-Indices i) (out-Indices j)
agrees_more zero m i j h same = absurd (omega arith)
agrees_more (suc depth) m i j h same =
    let one : depth ≡ suc depth - 1 = omega arith in
    ap (λ b. if_alike b (form_agrees (agrees_within depth m) m (out-Indices i) (out-Indices j))) same
    ∙ ap (λ (n : ℕ). form_agrees (agrees_within n m) m (out-Indices i) (out-Indices j)) one

-- what isn't of one form
pub agrees_never : (depth m : ℕ) (i j : Indices) → alike (out-Indices i) (out-Indices j) ≡ false → agrees_within depth m i j ≡ differs
agrees_never zero m i j other = refl
agrees_never (suc depth) m i j other = ap (λ b. if_alike b (form_agrees (agrees_within depth m) m (out-Indices i) (out-Indices j))) other

pub ruleset depths = (agrees_more, agrees_never)
