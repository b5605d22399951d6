-- Whatever is read of a model, all mappings that it names are of the model: where any direction may be gone through, all patterns name such alone.
use Rattle.std.specs.Prelude.{Bool, true, List, [], ◌∷◌, map}
use Rattle.std.proofs.Common.{◌≡◌, ◌∙◌, refl, subst}
use Rattle.std.specs.List.{list_all}
use Rattle.std.proofs.lemmas.Bool.{and_from}
use Rattle.sail_core.specs.declared.model.OpeningKind.{OpeningKind}
use Rattle.sail_core.specs.declared.model.OpeningKind.TheVariants as O
use Rattle.sail_core.specs.declared.patterns.Arm.{Arm}
use Rattle.sail_core.specs.declared.patterns.Arm.TheVariants as A
use Rattle.sail_core.specs.declared.patterns.Form.{Form}
use Rattle.sail_core.specs.declared.patterns.Form.TheVariants as F
use Rattle.sail_core.specs.declared.patterns.Pattern.{Pattern, Pattern-F, fold-roll-Pattern, ind-Pattern, map-Pattern, roll-Pattern}
use Rattle.sail_core.specs.declared.tree.Core.{Core, Core-F, fold-roll-Core, ind-Core, map-Core, roll-Core}
use Rattle.sail_core.specs.declared.tree.Kind.{Kind}
use Rattle.sail_core.specs.declared.tree.Kind.TheVariants as K
use Rattle.sail_core.specs.declared.tree.Statement.{Statement}
use Rattle.sail_core.specs.declared.tree.Statement.TheVariants as S
use Rattle.note_laws.specs.Ways.{WaysAreNamed, WaysAreOfModel, any, arm_reached, core_reached, form_reached, kind_reached, node_reached}
use Rattle.note_laws.specs.Ways.{pattern_reached, statement_reached, told_of, tree_reached}
use Rattle.pattern_leaves.specs.Settings.{Around}
use Rattle.constraint_gen.specs.Models.{apart}
use Rattle.note_laws.proofs.Goes.{Every, PatternGoes}
use Rattle.note_laws.proofs.BodyGoes.{OpeningGoes, function_read_goes, mapping_read_goes, measure_read_goes, opening_read_goes}

all_true : {A : Type 0} (f : A → Bool) → ((x : A) → f x ≡ true) → (xs : List A) → list_all f xs ≡ true
all_true f h [] = refl
all_true f h (x ∷ xs) = and_from (f x) (list_all f xs) (h x) (all_true f h xs)

-- ---- patterns

form_any : (form : Form) → form_reached any form ≡ true
form_any (F.Maps d) = refl
form_any (F.Sees d) = refl
form_any form = refl

Matched : Pattern → Type 0
Matched p = pattern_reached any p ≡ true

abbrev Seen : Type 0
Seen = (p : Pattern) × Matched p

all_matched : (ys : List Seen) → list_all (λ b. b) (map (pattern_reached any) (map (λ (y : Seen). y.0) ys)) ≡ true
unfolding Matched
all_matched [] = refl
all_matched (y ∷ ys) =
    and_from (pattern_reached any y.0) (list_all (λ b. b) (map (pattern_reached any) (map (λ (y : Seen). y.0) ys))) y.1 (all_matched ys)

matched_form : (y : Pattern-F Seen) → Matched (roll-Pattern (map-Pattern Seen Pattern (λ q. q.0) y))
unfolding Matched
matched_form y =
    fold-roll-Pattern Bool (node_reached any) (map-Pattern Seen Pattern (λ q. q.0) y)
    ∙ and_from (form_reached any y.form) (list_all (λ b. b) (map (pattern_reached any) (map (λ (q : Seen). q.0) y.parts))) (form_any y.form)
    (all_matched y.parts)

matched : (p : Pattern) → Matched p
matched = ind-Pattern Matched (λ e y is. subst (λ d. Matched (roll-Pattern d)) is (matched_form y))

any_pattern : (p : Pattern) → pattern_reached any p ≡ true
unfolding Matched
any_pattern p = matched p

any_arm : (arm : Arm) → arm_reached any arm ≡ true
any_arm (A.Nested ps) = all_true (pattern_reached any) any_pattern ps
any_arm (A.Flat count steps) = refl

-- ---- expressions

statement_any : (s : Statement) → statement_reached any s ≡ true
statement_any (S.Define place arm) = any_arm arm
statement_any statement = refl

kind_any : (kind : Kind) → kind_reached any kind ≡ true
kind_any (K.Let arm) = any_arm arm
kind_any (K.Block statements) = all_true (statement_reached any) statement_any statements
kind_any (K.Match arms shape) = all_true (arm_reached any) any_arm arms
kind_any (K.Try arms shape) = all_true (arm_reached any) any_arm arms
kind_any (K.Clauses arms) = all_true (arm_reached any) any_arm arms
kind_any kind = refl

Walked : Core → Type 0
Walked c = core_reached any c ≡ true

abbrev Known : Type 0
Known = (c : Core) × Walked c

all_walked : (ys : List Known) → list_all (λ b. b) (map (core_reached any) (map (λ (y : Known). y.0) ys)) ≡ true
unfolding Walked
all_walked [] = refl
all_walked (y ∷ ys) = and_from (core_reached any y.0) (list_all (λ b. b) (map (core_reached any) (map (λ (y : Known). y.0) ys))) y.1 (all_walked ys)

walked_form : (y : Core-F Known) → Walked (roll-Core (map-Core Known Core (λ q. q.0) y))
unfolding Walked
walked_form y =
    fold-roll-Core Bool (tree_reached any) (map-Core Known Core (λ q. q.0) y)
    ∙ and_from (kind_reached any y.kind) (list_all (λ b. b) (map (core_reached any) (map (λ (q : Known). q.0) y.parts))) (kind_any y.kind)
    (all_walked y.parts)

walked : (c : Core) → Walked c
walked = ind-Core Walked (λ e y is. subst (λ d. Walked (roll-Core d)) is (walked_form y))

any_core : (c : Core) → core_reached any c ≡ true
unfolding Walked
any_core c = walked c

-- ---- definitions

patterns_go : (around : Around) (ps : List Pattern) → Every (PatternGoes (told_of any around)) ps
patterns_go around [] = tt
patterns_go around (p ∷ ps) = (any_pattern p, patterns_go around ps)

opening_goes : (around : Around) (kind : OpeningKind) → OpeningGoes (told_of any around) kind
opening_goes around (O.Let (A.Nested ps)) = patterns_go around ps
opening_goes around (O.Let (A.Flat count steps)) = tt
opening_goes around (O.Register r) = tt

pub ways_are_named : WaysAreNamed
ways_are_named reached around m n h k = (mapping_read_goes (told_of reached around) around (refl, refl) m n h k).notes [] 0

pub ways_are_of_model : WaysAreOfModel
ways_are_of_model around = record {
  function = λ f. (function_read_goes (told_of any around) around (refl, refl) f (any_core f.body)).notes [] 0;
  measure = λ f measure. (measure_read_goes (told_of any around) around (refl, refl) f measure (any_core measure)).notes [] 0;
  mapping = λ m n. (mapping_read_goes (told_of any around) around (refl, refl) m n (any_core m.body) (any_core n.body)).notes [] 0;
  opening = λ o.
      (opening_read_goes (told_of any (apart around)) around (refl, refl) o (opening_goes (apart around) o.kind) (any_core o.value)).notes [] 0;
}
