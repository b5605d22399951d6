-- Patterns that stand match: what they bind are names of the indices that the walk gives them.
use Rattle.std.proofs.Common.{◌≡◌, ℕ, true, List, [], ◌∷◌, Option, Some, None, refl, sym, ap, ◌∙◌}
use Rattle.std.proofs.lemmas.Bool.{and_parts}
use Rattle.sail_core.specs.Making.{World}
use Rattle.sail_core.specs.Run.{Local}
use Rattle.sail_core.specs.declared.patterns.Arm.{Arm}
use Rattle.sail_core.specs.declared.tree.Statement.{Statement}
use Rattle.sail_core.specs.declared.tree.Statement.TheVariants as S
use Rattle.value_indices.specs.declared.indices.Indices.{Indices}
use Rattle.value_indices.specs.declared.indices.Reading.{Reading}
use Rattle.pattern_leaves.specs.declared.names.Bound.{Bound}
use Rattle.pattern_leaves.specs.declared.names.Held.{Held}
use Rattle.pattern_leaves.specs.declared.names.Held.TheVariants as H
use Rattle.call_notes.specs.Noted.{indices_held}
use Rattle.checked_meaning.specs.Items.{Item}
use Rattle.value_laws.specs.Belonging.{standing, meant}
use Rattle.value_laws.specs.Known.{Point}
use Rattle.value_laws.proofs.Steps.{same}
use Rattle.pattern_laws.specs.Standing.{arm_stands}
use Rattle.pattern_laws.specs.Typing.{AllBear, Bears, HeldBears, NamesBear, TypeBears}
use Rattle.pattern_laws.proofs.Steady.{meant_same}
use Rattle.soundness_steps.specs.Values.{AllAre, Has, HeldValue, Is}
use Rattle.soundness_steps.specs.Works.{Scene, is_value}
use Rattle.soundness_steps.proofs.Steps.{means}
use Rattle.soundness_forms.specs.Forms.{at}
use Rattle.soundness_forms.specs.Patterns.{AllMatch, ArmMatches, Binds, LetMatches}
use Rattle.soundness_binding.specs.Matches.{AllLetsMatch, LetsMatch}
use Rattle.soundness_binding.specs.Patterned.{arms_stand, lets_stand}
use Rattle.soundness_binding.specs.Scenes.{ModelFits}
use Rattle.soundness_binding.specs.Told.{AreTold, IsTold, IsValue, LetTells}
use Rattle.soundness_binding.proofs.Scened.{arm_stands_there, let_stands, y}

module _ (q : Scene) (w : World Item) (model : ModelFits q.set q.work) where
  abbrev Bearing : {n : ℕ} → Point n → Indices → Item → Type 0
  Bearing f i x = Bears q.set.around.types q.set.past q.work.types (y q w model) f i x

  -- ---- an item of its indices, as patterns have it

  bears_of : {n : ℕ} {f : Point n} (i : Indices) (x : Item) → Is q.set q.work f i x → Bearing f i x
  bears_of i x s = record {
    wide = s.has.meaning.wide;
    has_it = λ g a. ap (λ m. m.holds x.val) (s.has.steady g a) ∙ s.has.is_so;
    is_wide = λ g a. ap (λ m. m.wide) (s.has.steady g a);
    typed = λ g a exact. s.typ exact g a;
  }

  all_bear : {n : ℕ} (f : Point n) (is : List Indices) (xs : List Item) → AllAre q.set q.work f is xs
      → AllBear q.set.around.types q.set.past q.work.types (y q w model) f is xs
  all_bear f [] [] s = tt
  all_bear f [] (x ∷ xs) s = absurd s
  all_bear f (i ∷ is) [] s = absurd s
  all_bear f (i ∷ is) (x ∷ xs) s = (bears_of i x s.0, all_bear f is xs s.1)

  is_of : {n : ℕ} {f : Point n} (i : Indices) (x : Item) → Bearing f i x → Is q.set q.work f i x
  is_of {f = f} i x b = record {
    has = record {
      meaning = meant q.set.around.types (standing q.set.past f.integers) q.work.types i;
      is_so = b.has_it f.integers (same f);
      steady = λ g a.
          meant_same q.set.around.types q.set.past q.work.types g f.integers i x.val (b.has_it g a) (b.has_it f.integers (same f))
          (b.is_wide g a ∙ sym (b.is_wide f.integers (same f)));
    };
    typ = λ exact g a. b.typed g a exact;
  }

  -- ---- names that a pattern binds

  held_of : {n : ℕ} (f : Point n) (held : Held) (x : Item) → HeldBears q.set.around.types q.set.past q.work.types (y q w model) f held x
      → HeldValue q.set q.work f held x
  held_of f (H.Value i) x h = is_of i x h
  held_of f (H.Var r) x h = absurd h

  has_of : {n : ℕ} (f : Point n) (held : Held) (x : Item) → HeldBears q.set.around.types q.set.past q.work.types (y q w model) f held x
      → Has q.set q.work f (indices_held held) x.val
  has_of f (H.Value i) x h = (is_of i x h).has
  has_of f (H.Var r) x h = absurd h

  names_bind : {n : ℕ} {f : Point n} (bs : List Bound) (ls : List (Local Item))
      → NamesBear q.set.around.types q.set.past q.work.types (y q w model) q.numbers n f bs ls → Binds q.set q.work f bs ls
  names_bind [] [] h = record { names = []; in_scope = tt; kept = tt; values = tt }
  names_bind [] (l ∷ ls) h = absurd h
  names_bind (b ∷ bs) [] h = absurd h
  names_bind {f = f} (b ∷ bs) (l ∷ ls) h =
      let more = names_bind bs ls h.3 in
      record {
        names = is_value l.name l.held ∷ more.names;
        in_scope = ((h.0, held_of f b.held l.held h.1), more.in_scope);
        kept = ((refl, refl), more.kept);
        values = (has_of f b.held l.held h.1, more.values);
      }

  -- ---- what is told of them

  of_value : {n : ℕ} (f : Point n) (held : Held) (x : Item) → HeldBears q.set.around.types q.set.past q.work.types (y q w model) f held x → IsValue held
  of_value f (H.Value i) x h = tt
  of_value f (H.Var r) x h = absurd h

  type_told : {n : ℕ} (f : Point n) (o : Option Reading) (x : Item)
      → TypeBears q.set.around.types q.set.past q.work.types (y q w model) q.numbers f o x → IsTold q.set q.work q.numbers f o x.val
  type_told f None x h = tt
  type_told f (Some r) x h = h

  names_told : {n : ℕ} (f : Point n) (bs : List Bound) (ls : List (Local Item))
      → NamesBear q.set.around.types q.set.past q.work.types (y q w model) q.numbers n f bs ls → AreTold q.set q.work q.numbers f bs ls
  names_told f [] [] h = tt
  names_told f [] (l ∷ ls) h = absurd h
  names_told f (b ∷ bs) [] h = absurd h
  names_told f (b ∷ bs) (l ∷ ls) h =
      (of_value f b.held l.held h.1, (λ e. type_told f b.written l.held (h.2 e)), names_told f bs ls h.3)

  pub let_tells : q.may_fall ≡ true → (arm : Arm) → arm_stands q.set.around.types q.numbers arm ≡ true → LetTells q w arm
  let_tells fall arm stands n f facts scope place how i x there s owes =
      means (λ m g bs ls l h. (names_bind bs ls h, names_told g bs ls h))
      (let_stands q w model fall n f facts scope place arm how i x there (bears_of i x s) owes stands)

  pub let_matches : q.may_fall ≡ true → (arm : Arm) → arm_stands q.set.around.types q.numbers arm ≡ true → LetMatches q w arm
  let_matches fall arm stands n f facts scope place how i x there s owes =
      means (λ m g bs ls l h. h.0) (let_tells fall arm stands n f facts scope place how i x there s owes)

  pub arm_matches : q.may_fall ≡ true → (arm : Arm) → arm_stands q.set.around.types q.numbers arm ≡ true → ArmMatches q w arm
  arm_matches fall arm stands n f facts scope place how is xs there s =
      means (λ m g bs ls l h. names_bind bs ls h) (arm_stands_there q w model fall n f facts scope place arm how is xs there (all_bear f is xs s) stands)

-- ---- several, under whatever names

pub lets_match : (q : Scene) (w : World Item) → ModelFits q.set q.work → (arm : Arm) → arm_stands q.set.around.types q.numbers arm ≡ true → LetsMatch q w arm
lets_match q w model arm stands names = let_matches (at q w names true) w model refl arm stands

pub all_lets_match : (q : Scene) (w : World Item) → ModelFits q.set q.work → (ss : List Statement)
    → lets_stand q.set.around.types q.numbers ss ≡ true → AllLetsMatch q w ss
all_lets_match q w model [] h = tt
all_lets_match q w model (S.Evaluate ∷ ss) h = all_lets_match q w model ss h
all_lets_match q w model (S.Define here_at arm ∷ ss) h =
    let both = and_parts (arm_stands q.set.around.types q.numbers arm) (lets_stand q.set.around.types q.numbers ss) h in
    (lets_match q w model arm both.0, all_lets_match q w model ss both.1)
all_lets_match q w model (S.Declare name written ∷ ss) h = all_lets_match q w model ss h

pub all_match : (q : Scene) (w : World Item) → ModelFits q.set q.work → q.may_fall ≡ true → (arms : List Arm)
    → arms_stand q.set.around.types q.numbers arms ≡ true → AllMatch q w arms
all_match q w model fall [] h = tt
all_match q w model fall (arm ∷ arms) h =
    let both = and_parts (arm_stands q.set.around.types q.numbers arm) (arms_stand q.set.around.types q.numbers arms) h in
    (arm_matches q w model fall arm both.0, all_match q w model fall arms both.1)
