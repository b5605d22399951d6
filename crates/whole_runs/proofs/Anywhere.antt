-- Names of top-level lets have their values in functions with Type variables too: where nothing stands for these no more values have indices, and types
-- that are read stay one and the same.
use Rattle.std.proofs.Common.{◌≡◌, ◌∙◌, ap, sym, refl, ℕ, pos, Bool, true, false, List, [], ◌∷◌, ◌++◌, map, Option, Some, None, if◌then◌else◌}
use Rattle.sail_types.specs.Belongs.{Reading as Closed, belongs}
use Rattle.sail_types.specs.declared.values.Value.{Value}
use Rattle.sail_core.specs.declared.model.CoreModel.{CoreModel}
use Rattle.sail_core.specs.declared.model.Opening.{Opening}
use Rattle.sail_core.specs.declared.model.OpeningKind.{OpeningKind}
use Rattle.sail_core.specs.declared.model.OpeningKind.TheVariants as O
use Rattle.value_indices.specs.declared.indices.Indices.{Indices}
use Rattle.value_indices.specs.declared.indices.Reading.{Reading}
use Rattle.value_indices.specs.declared.notes.Fact.{Fact}
use Rattle.value_indices.specs.Steps.{Walk}
use Rattle.pattern_leaves.specs.Settings.{Around}
use Rattle.pattern_leaves.specs.declared.names.Bound.{Bound}
use Rattle.pattern_leaves.specs.declared.names.Held.{Held}
use Rattle.pattern_leaves.specs.declared.names.Held.TheVariants as H
use Rattle.pattern_leaves.specs.declared.names.TopLevel.{TopLevel}
use Rattle.pattern_leaves.specs.declared.names.TopLevel.TheVariants as L
use Rattle.wide_types.specs.Widening.{widened}
use Rattle.expression_steps.specs.Expressions.{part}
use Rattle.constraint_gen.specs.Models.{around_of, around_with, held_as, is_constant, let_walk, lets_behind, names_of, read_as, top_level}
use Rattle.value_laws.specs.Belonging.{Integers, Meant, closed, meant, standing}
use Rattle.value_laws.specs.Known.{Goes, Point}
use Rattle.value_laws.proofs.Steps.{same}
use Rattle.constant_laws.specs.Constants.{MeanOneThing}
use Rattle.constant_laws.specs.Own.{MeanNoLess}
use Rattle.constant_laws.proofs.Alike.{own_types_mean}
use Rattle.constant_laws.proofs.Constants.{mean_one_thing}
use Rattle.soundness_steps.specs.Works.{Setting, Work, nobody}
use Rattle.soundness_forms.specs.Worlds.{LetIs, LetsAre}

-- ---- a name that isn't read elsewhere has constant indices

abbrev pub IsTold : TopLevel → Type 0
IsTold (L.Known i) = is_constant i ≡ true
IsTold (L.Read name r) = Unit {0}

abbrev pub AllTold : List TopLevel → Type 0
AllTold [] = Unit {0}
AllTold (l ∷ ls) = IsTold l × AllTold ls

told_if : (b : Bool) (i : Indices) (name : List ℕ) (r : Reading) → is_constant i ≡ b → IsTold (if b then L.Known i else L.Read name r)
told_if true i name r is = is
told_if false i name r is = tt

read_told : (name : List ℕ) (o : Option Reading) (i : Indices) → IsTold (read_as name o i)
read_told name (Some r) i = told_if (is_constant i) i name r refl
read_told name None i = told_if (is_constant i) i name (widened i) refl

held_told : (b : Bound) (held : Held) → IsTold (held_as b held)
held_told b (H.Value i) = read_told b.name b.written i
held_told b (H.Var r) = tt

found_told : (bs : List Bound) → AllTold (map top_level bs)
found_told [] = tt
found_told (b ∷ bs) = (held_told b b.held, found_told bs)

names_told : (around : Around) (o : Opening) (kind : OpeningKind) → AllTold (names_of around o kind)
names_told around o (O.Let arm) = found_told (let_walk around o.place arm (part o.value) [] 0).value
names_told around o (O.Register r) = tt

both_told : (ls ks : List TopLevel) → AllTold ls → AllTold ks → AllTold (ls ++ ks)
both_told [] ks h k = k
both_told (l ∷ ls) ks h k = (h.0, both_told ls ks h.1 k)

behind_told : (around : Around) (os : List Opening) → AllTold around.lets → AllTold (lets_behind around os).lets
behind_told around [] h = h
behind_told around (o ∷ os) h =
    behind_told (record around { lets = around.lets ++ names_of around o o.kind }) os
    (both_told around.lets (names_of around o o.kind) h (names_told around o o.kind))

pub lets_told : (m : CoreModel) → AllTold (around_of m).lets
lets_told m = behind_told (around_with m []) m.openings tt

-- ---- anywhere

module _ (set : Setting) (x : Work) where
  abbrev zeros : Integers
  zeros v = pos 0

  one : MeanOneThing set.around.types set.past x.types
  one = mean_one_thing set.around.types set.past x.types

  more : MeanNoLess set.around.types set.past x.types
  more = own_types_mean set.around.types set.past x.types

  known_anywhere : (i : Indices) (v : Value) → is_constant i ≡ true → LetIs set nobody (L.Known i) v → LetIs set x (L.Known i) v
  known_anywhere i v constant h = (
    meant set.around.types (standing set.past zeros) x.types i,
    more.indices zeros i v (ap (λ (m : Meant). m.holds v) (h.2 zeros) ∙ h.1),
    λ g. one.indices g zeros i constant,
  )

  -- a type that a walk gives
  goes_anywhere : (v : Value) {n : ℕ} {f : Point n} {facts : List Fact} {walk : Walk Reading} (t : Closed) → belongs set.around.types v t ≡ true
      → Goes set.past n f facts walk (λ g q. closed set.around.types (standing set.past g) nobody.types q ≡ t)
      → (u : Closed) × (belongs set.around.types v u ≡ true)
      × Goes set.past n f facts walk (λ g q. closed set.around.types (standing set.past g) x.types q ≡ u)
  goes_anywhere v {n} {f} {facts} {walk} t h goes =
      let known = goes.goes in
      let q : Reading = (walk facts n).value in
      let at : Integers = known.point.integers in (
        closed set.around.types (standing set.past at) x.types q,
        more.readings at q v (ap (belongs set.around.types v) (known.holds at (same known.point)) ∙ h),
        record {
          goes = record {
            point = known.point;
            later = known.later;
            true_there = known.true_there;
            holds = λ g agree. more.alike g at q (known.holds g agree ∙ sym (known.holds at (same known.point)));
            given = known.given;
          };
        },
      )

  read_anywhere : (name : List ℕ) (r : Reading) (v : Value) → LetIs set nobody (L.Read name r) v → LetIs set x (L.Read name r) v
  read_anywhere name r v h n f facts = let there = h n f facts in goes_anywhere v there.0 there.1 there.2

  let_anywhere : (l : TopLevel) (v : Value) → IsTold l → LetIs set nobody l v → LetIs set x l v
  let_anywhere (L.Known i) v told h = known_anywhere i v told h
  let_anywhere (L.Read name r) v told h = read_anywhere name r v h

  pub lets_anywhere : (names : List TopLevel) (vs : List Value) → AllTold names → LetsAre set nobody names vs → LetsAre set x names vs
  lets_anywhere [] [] told a = tt
  lets_anywhere (l ∷ ls) (v ∷ vs) told a = (let_anywhere l v told.0 a.0, lets_anywhere ls vs told.1 a.1)
  lets_anywhere [] (v ∷ vs) told a = absurd a
  lets_anywhere (l ∷ ls) [] told a = absurd a
