-- What a met goal says of the conditions of a row: each is true where its variables stand for what it is read under.
use Rattle.std.proofs.Common.{◌≡◌, ℕ, Bool, true, false, List, [], ◌∷◌, ◌++◌, map, ap, sym, ◌∙◌, refl, subst}
use Rattle.std.proofs.Common.{Option, Some, None, option_map, unwrap_or, if◌then◌else◌}
use Rattle.std.specs.List.{list_all}
use Rattle.std.proofs.lemmas.Bool.{and_parts}
use Rattle.sail_base.specs.declared.place.Place.{Place}
use Rattle.sail_types.specs.Belongs.{assigned}
use Rattle.sail_types.specs.Numbers.{Assignment, Positive, number, true_in, form_true}
use Rattle.sail_types.specs.Readings.{read_con, together}
use Rattle.sail_types.specs.Sums.{read}
use Rattle.sail_types.specs.declared.numbers.Con.{Con, fold-roll-Con}
use Rattle.sail_types.specs.declared.numbers.Con.TheOpen as F
use Rattle.sail_types.specs.declared.numbers.Con.TheVariants as C
use Rattle.sail_types.specs.declared.numbers.Num.{Num}
use Rattle.row_types.specs.declared.kinds.Product.{Product}
use Rattle.row_types.specs.declared.kinds.Product.TheVariants as P
use Rattle.value_indices.specs.declared.notes.Fact.{Fact}
use Rattle.value_indices.specs.Steps.{Note, Conditions, conjunction, goals_under}
use Rattle.value_laws.specs.Belonging.{Integers, standing}
use Rattle.value_laws.specs.Known.{InForce, given_in}
use Rattle.value_laws.proofs.Basics.{no, two}
use Rattle.value_laws.proofs.Numbers.{mapped, truth_is, number_read, truth_read}
use Rattle.wide_types.specs.Widening.{is_below, is_con_below}
use Rattle.call_notes.specs.Rows.{condition_in, conditions_in, false_alone, number_in, owed_by}
use Rattle.call_notes.specs.declared.numbers.Numbers.{Numbers}
use Rattle.row_laws.specs.Met.{AllMet}

never : {A B : Type 0} {x : A} → None ≡ Some x → B
never h = absurd (cc)

-- ---- conditions that are true, and that there are

abbrev pub Said : Assignment → Option Con → Type 0
Said mu None = ⊥
Said mu (Some c) = true_in mu c ≡ true

abbrev pub AllSaid : Assignment → Conditions → Type 0
AllSaid mu [] = Unit {0}
AllSaid mu (o ∷ os) = Said mu o × AllSaid mu os

all_said : (mu : Assignment) (os : Conditions) (cs : List Con) → together os ≡ Some cs → list_all (λ b. b) (map (true_in mu) cs) ≡ true → AllSaid mu os
all_said mu [] cs e h = tt
all_said mu (None ∷ os) cs e h = never e
all_said mu (Some c ∷ os) cs e h =
    let p = mapped (λ ds. c ∷ ds) (together os) cs e in
    let q = and_parts (true_in mu c) (list_all (λ b. b) (map (true_in mu) p.0))
    (subst (λ ds. list_all (λ b. b) (map (true_in mu) ds) ≡ true) (sym p.2) h) in (q.0, all_said mu os p.0 p.1 q.1)

all_true : (mu : Assignment) (cs : List Con) → true_in mu (C.All cs) ≡ list_all (λ b. b) (map (true_in mu) cs)
all_true mu cs = ap (true_in mu) (sym (C.rolls-All cs)) ∙ fold-roll-Con Bool (form_true mu) (F.All cs)

by_all : (mu : Assignment) (os : Conditions) (o : Option (List Con)) → together os ≡ o
    → true_in mu (unwrap_or (option_map C.All o) (C.Truth false)) ≡ true → AllSaid mu os
by_all mu os None e h = no (sym (truth_is mu false) ∙ h)
by_all mu os (Some cs) e h = all_said mu os cs e (sym (all_true mu cs) ∙ h)

conjunction_said : (mu : Assignment) (os : Conditions) → true_in mu (conjunction os) ≡ true → AllSaid mu os
conjunction_said mu os h = by_all mu os (together os) refl h

-- ---- notes in front and behind

pub met_front : (past : Positive) (given : List ℕ) (g : Integers) (ns ms : List Note) → AllMet past given g (ns ++ ms) → AllMet past given g ns
met_front past given g [] ms h = tt
met_front past given g (n ∷ ns) ms h = (h.0, met_front past given g ns ms h.1)

pub met_behind : (past : Positive) (given : List ℕ) (g : Integers) (ns ms : List Note) → AllMet past given g (ns ++ ms) → AllMet past given g ms
met_behind past given g [] ms h = h
met_behind past given g (n ∷ ns) ms h = met_behind past given g ns ms h.1

pub goal_said : (past : Positive) (g : Integers) (facts : List Fact) (place : Place) (os : Conditions)
    → AllMet past (given_in facts) g (goals_under facts place os) → InForce past g facts → AllSaid (standing past g) os
goal_said past g facts place [] h force = tt
goal_said past g facts place (o ∷ os) h force = conjunction_said (standing past g) (o ∷ os) (h.0 refl force)

-- ---- what a row owes

read_if : {A : Type 0} (b c : Bool) (o : Option A) (x : A) → (if b then o else (if c then o else None)) ≡ Some x → o ≡ Some x
read_if true c o x h = h
read_if false true o x h = h
read_if false false o x h = never h

module _ (past : Positive) (g : Integers) (ns : Numbers) where
  abbrev there : Assignment
  there = standing past g

  abbrev inside : Assignment
  inside = assigned there ns.indices

  pub number_said : (t u : Num) → number_in ns t ≡ Some u → number there u ≡ number inside t
  number_said t u e = number_read past g ns.indices t u (read_if ns.has_product (is_below 4 t) (read ns.indices t) u e)

  pub condition_said : (c d : Con) → condition_in ns c ≡ Some d → true_in there d ≡ true_in inside c
  condition_said c d e = truth_read past g ns.indices c d (read_if ns.has_product (is_con_below 4 c) (read_con ns.indices c) d e)

  one_true : (c : Con) (o : Option Con) → condition_in ns c ≡ o → Said there o → true_in inside c ≡ true
  one_true c None e h = absurd h
  one_true c (Some d) e h = sym (condition_said c d e) ∙ h

  pub conditions_true : (cs : List Con) → AllSaid there (conditions_in ns cs) → list_all (true_in inside) cs ≡ true
  conditions_true [] h = refl
  conditions_true (c ∷ cs) h =
      two (true_in inside c) (list_all (true_in inside) cs) (one_true c (condition_in ns c) refl h.0) (conditions_true cs h.1)

  if_owed : (cs : List Con) (b : Bool) → AllSaid there (if b then conditions_in ns cs else false_alone) → AllSaid there (conditions_in ns cs)
  if_owed cs true h = h
  if_owed cs false h = absurd h.0

  pub owed_said : (p : Product) (cs : List Con) → AllSaid there (owed_by p ns cs) → AllSaid there (conditions_in ns cs)
  owed_said P.Nothing cs h = h
  owed_said P.OfArguments cs h = if_owed cs ns.has_product h
  owed_said P.OfResult cs h = h

  if_product : (cs : List Con) (b : Bool) → ns.has_product ≡ b → AllSaid there (if b then conditions_in ns cs else false_alone) → ns.has_product ≡ true
  if_product cs true e h = e
  if_product cs false e h = absurd h.0

  -- a product of arguments can be said
  pub product_said : (p : Product) (cs : List Con) → p ≡ P.OfArguments → AllSaid there (owed_by p ns cs) → ns.has_product ≡ true
  product_said P.OfArguments cs e h = if_product cs ns.has_product refl h
  product_said P.Nothing cs e h = absurd (cc)
  product_said P.OfResult cs e h = absurd (cc)

  -- ---- conditions that come into force

  abbrev pub If : Option Con → Type 0
  If None = Unit {0}
  If (Some d) = true_in there d ≡ true

  abbrev pub AllIf : Conditions → Type 0
  AllIf [] = Unit {0}
  AllIf (o ∷ os) = If o × AllIf os

  one_if : (c : Con) (o : Option Con) → condition_in ns c ≡ o → true_in inside c ≡ true → If o
  one_if c None e h = tt
  one_if c (Some d) e h = condition_said c d e ∙ h

  pub conditions_if : (cs : List Con) → list_all (true_in inside) cs ≡ true → AllIf (conditions_in ns cs)
  conditions_if [] h = tt
  conditions_if (c ∷ cs) h =
      let p = and_parts (true_in inside c) (list_all (true_in inside) cs) h in (one_if c (condition_in ns c) refl p.0, conditions_if cs p.1)
