-- The names that an arm binds: what they hold gives, beside what the arm matches, the numbers that are noted before the arm's body.
use Rattle.std.proofs.Common.{ℕ, ◌≡◌, List, [], ◌∷◌, ◌++◌, map, append_assoc, subst, sym}
use Rattle.sail_types.specs.declared.values.Value.TheVariants as V
use Rattle.sail_core.specs.Meaning.{held_by, names_noted}
use Rattle.sail_core.specs.Run.{Local, Run, within, ◌then◌}
use Rattle.sail_core.specs.declared.tree.Giver.{Giver}
use Rattle.value_indices.specs.declared.indices.Indices.{Indices}
use Rattle.value_indices.specs.declared.indices.Indices.TheVariants as I
use Rattle.value_indices.specs.declared.notes.Fact.{Fact}
use Rattle.value_indices.specs.Steps.{Walk, bind, give, went}
use Rattle.pattern_leaves.specs.declared.names.Bound.{Bound}
use Rattle.call_notes.specs.Noted.{name_indices, names_given, numbers_by, numbers_given}
use Rattle.checked_meaning.specs.Checked.{checked}
use Rattle.checked_meaning.specs.Items.{Item, vals}
use Rattle.value_laws.specs.Known.{Point}
use Rattle.soundness_steps.specs.Points.{Later}
use Rattle.soundness_steps.specs.Works.{Scene, Setting, Work}
use Rattle.soundness_steps.specs.Steps.{Beside, Grows}
use Rattle.soundness_steps.specs.Values.{AllAre, AllHave}
use Rattle.soundness_steps.proofs.Scenes.{naming, under_names}
use Rattle.soundness_steps.proofs.Steps.{binds, gives_numbers}
use Rattle.soundness_forms.specs.Patterns.{Binds}
use Rattle.soundness_forms.proofs.Basics.{has_there}
use Rattle.soundness_forms.proofs.Giving.{gives_all}
use Rattle.soundness_forms.proofs.Growth.{grows_bind, grows_by, grows_give}
use Rattle.soundness_forms.proofs.Parts.{tuple_has}

-- ---- walks one behind the other

bound_later : {A B C : Type 0} (a : Walk A) (b : A → Walk B) (k : B → Walk C) → bind (bind a b) k ≡ bind a (λ i. bind (b i) k)
unfolding bind
bound_later a b k = λ j. λ facts n.
    let r = a facts n in
    let s = b r.value r.facts r.next in
    let t = k s.value s.facts s.next in
    went t.value t.facts t.next (append_assoc r.notes s.notes t.notes j)

pub nests : {q : Scene} {n : ℕ} {f : Point n} {facts : List Fact} {A B C D : Type 0} (a : Walk A) (b : A → Walk B) (k : B → Walk C) {c : Run Item D}
    {Holds : (m : ℕ) → Point m → C → D → Type 0} → Beside q n f facts (bind a (λ i. bind (b i) k)) c Holds → Beside q n f facts (bind (bind a b) k) c Holds
nests {q} {n} {f} {facts} a b k {c} {Holds} h = subst (λ w. Beside q n f facts w c Holds) (sym (bound_later a b k)) h

pub given_then : {q : Scene} {n : ℕ} {f : Point n} {facts : List Fact} {A C D : Type 0} (a : A) (k : A → Walk C) {c : Run Item D}
    {Holds : (m : ℕ) → Point m → C → D → Type 0} → Beside q n f facts (k a) c Holds → Beside q n f facts (bind (give a) k) c Holds
unfolding bind give
given_then a k b = record { run = λ now stands met ok. b.run now stands met ok }

-- ---- names

-- what an arm matches, and what its names hold behind it, as one tuple
abbrev pub names_tuple : List Indices → List Bound → Indices
names_tuple is found = I.Tuple (is ++ map name_indices found)

all_front : (set : Setting) (work : Work) {n : ℕ} (f : Point n) (is ns : List Indices) (xs ys : List Item) → AllAre set work f is xs
    → AllHave set work f ns (vals ys) → AllHave set work f (is ++ ns) (vals (xs ++ ys))
all_front set work f [] ns [] ys are have = have
all_front set work f (i ∷ is) ns (x ∷ xs) ys are have = (are.0.has, all_front set work f is ns xs ys are.1 have)
all_front set work f [] ns (x ∷ xs) ys are have = absurd are
all_front set work f (i ∷ is) ns [] ys are have = absurd are

-- a body under names, where both give these numbers
pub names_run : {q : Scene} {n : ℕ} {f : Point n} {facts : List Fact} {A : Type 0} (giver : Giver) (is : List Indices) (xs : List Item)
    → AllAre q.set q.work f is xs → (found : List Bound) (ls : List (Local Item)) (k : List Bound → Walk A) (r : Run Item Item)
    {Holds : (m : ℕ) → Point m → A → Item → Type 0} (b : Binds q.set q.work f found ls)
    → ((m : ℕ) (g : Point m) (fs : List Fact) → Later f g → Beside (naming b.names q) m g fs (k found) r Holds)
    → Beside q n f facts (bind (names_given giver is found) k)
    (names_noted (checked q.set.around.types q.cases) giver xs ls then λ t. within ls r) Holds
names_run {q} giver is xs are found ls k r b next =
    let i = names_tuple is found in
    let held = map held_by ls in
    nests (numbers_by giver i) (λ t. give found) k
    (binds (λ t. bind (give found) k) (λ t. within ls r)
    (gives_numbers giver i (V.Tuple (vals (xs ++ held))) (numbers_given i) (gives_all i)
    (has_there (tuple_has q.set q.work _ (is ++ map name_indices found) (vals (xs ++ held))
    (all_front q.set q.work _ is (map name_indices found) xs held are b.values))))
    (λ m g fs t u l e. given_then found k (under_names b.names ls b.kept (next m g fs l))))

-- how their walk counts on
pub names_grow : (giver : Giver) (is : List Indices) (found : List Bound) → Grows (names_given giver is found)
names_grow giver is found =
    grows_bind (numbers_by giver (names_tuple is found)) (λ t. give found) (grows_by giver (names_tuple is found)) (λ t. grows_give found)
