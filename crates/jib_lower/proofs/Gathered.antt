-- The types of a list of parts get numbers, part by part.
use Rattle.std.proofs.Common.{◌≡◌, ◌∙◌, ◌+◌, ◌<◌, ◌≤◌, ℕ, zero, suc, Bool, true, false, List, [], ◌∷◌, ◌++◌, Option, Some, None, ap, refl, sym}
use Rattle.std.proofs.Common.{append-nil, append_assoc, arith, drop, get_or, length, take}
use Rattle.std.specs.Prelude.{◌&&◌}
use Rattle.std.proofs.lemmas.List.{take_more}
use Rattle.sail_types.specs.declared.table.Types.{Types}
use Rattle.model_state.specs.declared.state.Register.{Register}
use Rattle.size_values.specs.declared.sized.Sized.{Sized}
use Rattle.sized_nodes.specs.declared.trees.Case.{Case}
use Rattle.sized_nodes.specs.declared.trees.Lead.{Lead}
use Rattle.sized_nodes.specs.declared.trees.NodeSizes.{NodeSizes}
use Rattle.sized_nodes.specs.declared.trees.NodeSizes.TheVariants as N
use Rattle.sized_nodes.specs.declared.trees.SizedInstance.{SizedInstance}
use Rattle.sized_nodes.specs.declared.trees.Told.{Told}
use Rattle.checked_meaning.specs.Items.{fixed_typ}
use Rattle.lowered_tables.specs.Built.{with_number, with_numbers}
use Rattle.lowered_tables.proofs.Growing.{one_none, one_then}
use Rattle.lowered_types.specs.Table.{all_known, is_known}
use Rattle.jib_lower.specs.Types.{all_in_bodies, all_in_cases, all_in_instances, all_in_leads, all_in_nodes, all_in_registers, all_in_told, in_signature}
use Rattle.jib_lower.specs.Types.{types_in_bodies, types_in_cases, types_in_instances, types_in_leads, types_in_nodes, types_in_registers, types_in_signature}
use Rattle.jib_lower.specs.Types.{types_in_told}
use Rattle.jib_lower.proofs.Basics.{and_left, and_right, both}

take_past : {A : Type 0} (xs : List A) (k : ℕ) → length xs ≤ k → take k xs ≡ xs
take_past [] zero le = refl
take_past [] (suc k) le = refl
take_past (x ∷ xs) zero le = absurd (omega arith)
take_past (x ∷ xs) (suc k) le = ap (λ ys. x ∷ ys) (take_past xs k (omega (arith, le)))

one_more : {A : Type 0} (all : List A) (k : ℕ) (x : A) → k < length all → x ≡ get_or all k x → take (k + 1) all ≡ take k all ++ x ∷ []
one_more all k x within is = take_more all k x within ∙ ap (λ y. take k all ++ y ∷ []) (sym is)

-- the parts from one on
pub from_here : {A : Type 0} (all : List A) (k : ℕ) (x : A) → k < length all → x ≡ get_or all k x → drop k all ≡ x ∷ drop (k + 1) all
from_here [] k x within is = absurd (omega (arith, within))
from_here (y ∷ all) zero x within is = ap (λ z. z ∷ all) (sym is)
from_here (y ∷ all) (suc k) x within is =
    let same : suc k + 1 ≡ suc (k + 1) = omega arith in
    from_here all k x (omega (arith, within)) is ∙ ap (λ n. x ∷ drop n (y ∷ all)) (sym same)

-- so where it is copied
pub copied_here : {A : Type 0} (all : List A) (k : ℕ) (d : A) → k < length all → drop k all ≡ get_or all k d ∷ drop (k + 1) all
copied_here [] k d within = absurd (omega (arith, within))
copied_here (y ∷ all) zero d within = refl
copied_here (y ∷ all) (suc k) d within =
    let same : suc k + 1 ≡ suc (k + 1) = omega arith in
    copied_here all k d (omega (arith, within)) ∙ ap (λ n. get_or all k d ∷ drop n (y ∷ all)) (sym same)

pub past_all : {A : Type 0} (all : List A) (k : ℕ) → length all ≤ k → drop k all ≡ []
past_all [] zero past = refl
past_all [] (suc k) past = refl
past_all (y ∷ all) zero past = absurd (omega (arith, past))
past_all (y ∷ all) (suc k) past = past_all all k (omega (arith, past))

-- ---- what is said of each part

module _ {A : Type 0} (part_in : A → Bool) (all_in : List A → Bool) (nothing : all_in [] ≡ true)
    (first : (x : A) (xs : List A) → all_in (x ∷ xs) ≡ (part_in x && all_in xs)) where
  said_last : (xs : List A) (x : A) → all_in xs ≡ true → part_in x ≡ true → all_in (xs ++ x ∷ []) ≡ true
  said_last [] x h k = first x [] ∙ both (part_in x) (all_in []) k nothing
  said_last (y ∷ xs) x h k =
      let p : (part_in y && all_in xs) ≡ true = sym (first y xs) ∙ h in
      first y (xs ++ x ∷ []) ∙ both (part_in y) (all_in (xs ++ x ∷ [])) (and_left (part_in y) (all_in xs) p)
      (said_last xs x (and_right (part_in y) (all_in xs) p) k)

  pub said_next : (all : List A) (k : ℕ) (x : A) → all_in (take k all) ≡ true → part_in x ≡ true → k < length all → x ≡ get_or all k x
      → all_in (take (k + 1) all) ≡ true
  said_next all k x h one within is = ap all_in (one_more all k x within is) ∙ said_last (take k all) x h one

pub said_whole : {A : Type 0} (all_in : List A → Bool) (all : List A) (k : ℕ) → length all ≤ k → all_in (take k all) ≡ true → all_in all ≡ true
said_whole all_in all k past h = ap all_in (sym (take_past all k past)) ∙ h

-- ---- the types of all parts, those of each behind those before it

module _ {A : Type 0} (part : A → List Sized) (types_in : List A → List Sized) (nothing : types_in [] ≡ [])
    (first : (x : A) (xs : List A) → types_in (x ∷ xs) ≡ part x ++ types_in xs) where
  last : (xs : List A) (x : A) → types_in (xs ++ x ∷ []) ≡ types_in xs ++ part x
  last [] x = first x [] ∙ ap (λ ts. part x ++ ts) nothing ∙ append-nil (part x) ∙ ap (λ ts. ts ++ part x) (sym nothing)
  last (y ∷ xs) x =
      first y (xs ++ x ∷ []) ∙ ap (λ ts. part y ++ ts) (last xs x) ∙ sym (append_assoc (part y) (types_in xs) (part x))
      ∙ ap (λ ts. ts ++ part x) (sym (first y xs))

  -- those before a part, and those from it on
  from : (all : List A) (k : ℕ) (x : A) → k < length all → x ≡ get_or all k x
      → types_in all ≡ types_in (take k all) ++ (part x ++ types_in (drop (suc k) all))
  from [] k x lt is = absurd (omega (arith, lt))
  from (y ∷ all) zero x lt is =
      first y all ∙ ap (λ z. part z ++ types_in all) (sym is) ∙ ap (λ ts. ts ++ (part x ++ types_in all)) (sym nothing)
  from (y ∷ all) (suc k) x lt is =
      first y all ∙ ap (λ ts. part y ++ ts) (from all k x (omega (arith, lt)) is)
      ∙ sym (append_assoc (part y) (types_in (take k all)) (part x ++ types_in (drop (suc k) all)))
      ∙ ap (λ ts. ts ++ (part x ++ types_in (drop (suc k) all))) (sym (first y (take k all)))

  module _ (types : Types) (ss : List Sized) (all : List A) (k : ℕ) where
    pub numbered_next : (x : A) (rs us : List Sized) → with_numbers types ss (types_in (take k all)) ≡ Some rs → with_numbers types rs (part x) ≡ Some us
        → k < length all → x ≡ get_or all k x → with_numbers types ss (types_in (take (k + 1) all)) ≡ Some us
    numbered_next x rs us h e within is =
        ap (λ xs. with_numbers types ss (types_in xs)) (one_more all k x within is) ∙ ap (with_numbers types ss) (last (take k all) x)
        ∙ one_then (with_number types) ss (types_in (take k all)) (part x) rs (Some us) h e

    pub numbered_stuck : (x : A) (rs : List Sized) → k < length all → x ≡ get_or all k x → with_numbers types ss (types_in (take k all)) ≡ Some rs
        → with_numbers types rs (part x) ≡ None → with_numbers types ss (types_in all) ≡ None
    numbered_stuck x rs within is h e =
        ap (with_numbers types ss) (from all k x within is)
        ∙ one_then (with_number types) ss (types_in (take k all)) (part x ++ types_in (drop (suc k) all)) rs None h
        (one_none (with_number types) rs (part x) (types_in (drop (suc k) all)) e)

pub numbered_whole : {A : Type 0} (types_in : List A → List Sized) (types : Types) (ss : List Sized) (all : List A) (k : ℕ) (rs : List Sized)
    → length all ≤ k → with_numbers types ss (types_in (take k all)) ≡ Some rs → with_numbers types ss (types_in all) ≡ Some rs
numbered_whole types_in types ss all k rs past h = ap (λ xs. with_numbers types ss (types_in xs)) (sym (take_past all k past)) ∙ h

-- ---- parts of each kind

-- a case
abbrev pub case_in : List Sized → Case → Bool
case_in ss c = all_known ss c.takes && is_known ss c.gives

abbrev pub case_types : Case → List Sized
case_types c = c.takes ++ c.gives ∷ []

and_assoc : (a b c : Bool) → (a && (b && c)) ≡ ((a && b) && c)
and_assoc true b c = refl
and_assoc false b c = refl

pub cases_said : (ss : List Sized) (c : Case) (cs : List Case) → all_in_cases ss (c ∷ cs) ≡ (case_in ss c && all_in_cases ss cs)
cases_said ss c cs = and_assoc (all_known ss c.takes) (is_known ss c.gives) (all_in_cases ss cs)

pub cases_first : (c : Case) (cs : List Case) → types_in_cases (c ∷ cs) ≡ case_types c ++ types_in_cases cs
cases_first c cs = sym (append_assoc c.takes (c.gives ∷ []) (types_in_cases cs))

-- what a call takes
abbrev pub lead_in : List Sized → Lead → Bool
lead_in ss x = all_known ss x.takes

abbrev pub lead_types : Lead → List Sized
lead_types x = x.takes

pub leads_said : (ss : List Sized) (x : Lead) (xs : List Lead) → all_in_leads ss (x ∷ xs) ≡ (lead_in ss x && all_in_leads ss xs)
leads_said ss x xs = refl

pub leads_first : (x : Lead) (xs : List Lead) → types_in_leads (x ∷ xs) ≡ lead_types x ++ types_in_leads xs
leads_first x xs = refl

-- a node
and_true : (a : Bool) → (a && true) ≡ a
and_true true = refl
and_true false = refl

abbrev pub node_in : List Sized → NodeSizes → Bool
node_in ss x = all_in_nodes ss (x ∷ [])

abbrev pub node_types : NodeSizes → List Sized
node_types x = types_in_nodes (x ∷ [])

pub nodes_said : (ss : List Sized) (x : NodeSizes) (xs : List NodeSizes) → all_in_nodes ss (x ∷ xs) ≡ (node_in ss x && all_in_nodes ss xs)
nodes_said ss (N.Makes k i cs) xs = ap (λ b. b && all_in_nodes ss xs) (sym (and_true (all_in_cases ss cs)))
nodes_said ss (N.Calls k ls) xs = ap (λ b. b && all_in_nodes ss xs) (sym (and_true (all_in_leads ss ls)))
nodes_said ss (N.Gives k i) xs = refl

pub nodes_first : (x : NodeSizes) (xs : List NodeSizes) → types_in_nodes (x ∷ xs) ≡ node_types x ++ types_in_nodes xs
nodes_first (N.Makes k i cs) xs = ap (λ ts. ts ++ types_in_nodes xs) (sym (append-nil (types_in_cases cs)))
nodes_first (N.Calls k ls) xs = ap (λ ts. ts ++ types_in_nodes xs) (sym (append-nil (types_in_leads ls)))
nodes_first (N.Gives k i) xs = refl

pub makes_in : (ss : List Sized) (cs given : List Case) → given ≡ cs → all_in_cases ss given ≡ true → (all_in_cases ss cs && true) ≡ true
makes_in ss cs given same h = and_true (all_in_cases ss cs) ∙ ap (all_in_cases ss) (sym same) ∙ h

pub calls_in : (ss : List Sized) (xs given : List Lead) → given ≡ xs → all_in_leads ss given ≡ true → (all_in_leads ss xs && true) ≡ true
calls_in ss xs given same h = and_true (all_in_leads ss xs) ∙ ap (all_in_leads ss) (sym same) ∙ h

-- nothing behind what a node makes or takes
module _ (types : Types) (ss : List Sized) where
  pub cases_alone : (cs given : List Case) (o : Option (List Sized)) → given ≡ cs → with_numbers types ss (types_in_cases given) ≡ o
      → with_numbers types ss (types_in_cases cs ++ []) ≡ o
  cases_alone cs given o same h = ap (with_numbers types ss) (append-nil (types_in_cases cs) ∙ ap types_in_cases (sym same)) ∙ h

  pub leads_alone : (xs given : List Lead) (o : Option (List Sized)) → given ≡ xs → with_numbers types ss (types_in_leads given) ≡ o
      → with_numbers types ss (types_in_leads xs ++ []) ≡ o
  leads_alone xs given o same h = ap (with_numbers types ss) (append-nil (types_in_leads xs) ∙ ap types_in_leads (sym same)) ∙ h

-- a body
pub bodies_said : (ss : List Sized) (x : List NodeSizes) (xs : List (List NodeSizes)) → all_in_bodies ss (x ∷ xs) ≡ (all_in_nodes ss x && all_in_bodies ss xs)
bodies_said ss x xs = refl

pub bodies_first : (x : List NodeSizes) (xs : List (List NodeSizes)) → types_in_bodies (x ∷ xs) ≡ types_in_nodes x ++ types_in_bodies xs
bodies_first x xs = refl

-- what comes in
abbrev pub told_in : List Sized → Told → Bool
told_in ss t = all_in_cases ss t.cases

abbrev pub told_types : Told → List Sized
told_types t = types_in_cases t.cases

pub told_said : (ss : List Sized) (t : Told) (ts : List Told) → all_in_told ss (t ∷ ts) ≡ (told_in ss t && all_in_told ss ts)
told_said ss t ts = refl

pub told_first : (t : Told) (ts : List Told) → types_in_told (t ∷ ts) ≡ told_types t ++ types_in_told ts
told_first t ts = refl

-- an instance
abbrev pub instance_in : List Sized → SizedInstance → Bool
instance_in ss x = in_signature ss x.signature && all_in_bodies ss x.bodies

abbrev pub instance_types : SizedInstance → List Sized
instance_types x = types_in_signature x.signature ++ types_in_bodies x.bodies

pub instances_said : (ss : List Sized) (x : SizedInstance) (xs : List SizedInstance)
    → all_in_instances ss (x ∷ xs) ≡ (instance_in ss x && all_in_instances ss xs)
instances_said ss x xs = and_assoc (in_signature ss x.signature) (all_in_bodies ss x.bodies) (all_in_instances ss xs)

pub instances_first : (x : SizedInstance) (xs : List SizedInstance) → types_in_instances (x ∷ xs) ≡ instance_types x ++ types_in_instances xs
instances_first x xs = sym (append_assoc (types_in_signature x.signature) (types_in_bodies x.bodies) (types_in_instances xs))

-- a register
abbrev pub register_in : Types → List Sized → Register → Bool
register_in types ss r = is_known ss (fixed_typ types r.typ)

abbrev pub register_types : Types → Register → List Sized
register_types types r = fixed_typ types r.typ ∷ []

pub registers_said : (types : Types) (ss : List Sized) (r : Register) (rs : List Register)
    → all_in_registers types ss (r ∷ rs) ≡ (register_in types ss r && all_in_registers types ss rs)
registers_said types ss r rs = refl

pub registers_first : (types : Types) (r : Register) (rs : List Register)
    → types_in_registers types (r ∷ rs) ≡ register_types types r ++ types_in_registers types rs
registers_first types r rs = refl
