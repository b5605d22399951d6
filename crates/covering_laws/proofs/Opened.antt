-- A value of a type that names the variables of a body alone is opened behind them: it has the indices of that opening, which says what is true, and
-- is of the type that these have.
use Rattle.std.proofs.Common.{◌≡◌, ◌∙◌, ◌<◌, ap, refl, subst, sym, ℕ, Bool, true, false, List, [], length, if◌then◌else◌}
use Rattle.std.specs.Prelude.{nat_lt, None, Some, pos}
use Rattle.std.proofs.lemmas.Bool.{and_parts}
use Rattle.std.proofs.lemmas.Bool.Decides.{Decides-ltb}
use Rattle.sail_types.specs.Belongs.{belongs}
use Rattle.sail_types.specs.Numbers.{Positive}
use Rattle.sail_types.specs.declared.table.Types.{Types}
use Rattle.sail_types.specs.declared.values.Value.{Value}
use Rattle.value_indices.specs.declared.indices.Indices.{Indices}
use Rattle.value_indices.specs.declared.indices.Naming.TheVariants as M
use Rattle.value_indices.specs.declared.indices.Reading.{Reading}
use Rattle.value_indices.specs.declared.notes.Fact.{Fact}
use Rattle.value_indices.specs.declared.notes.Made.{Made}
use Rattle.value_indices.specs.declared.notes.Made.TheVariants as Makes
use Rattle.value_indices.specs.Opening.{opened, opening}
use Rattle.value_indices.specs.Steps.{conditions}
use Rattle.value_laws.specs.Belonging.{Integers, closed, has, is_of, standing}
use Rattle.value_laws.specs.Known.{Agree, AllTrue, Point}
use Rattle.value_laws.proofs.Basics.{no}
use Rattle.value_laws.proofs.Opening.{opening_sound}
use Rattle.value_laws.proofs.Steps.{same}
use Rattle.meeting_laws.proofs.Steadied.{type_below}
use Rattle.size_values.specs.declared.constants.Constant.TheVariants as C
use Rattle.size_values.specs.declared.constants.Picked.{Picked}
use Rattle.size_values.specs.Numbers.{all_before, known_at, or_open}
use Rattle.size_laws.specs.Told.{reading_told}
use Rattle.size_splits.specs.Sizing.{facts_at, indices_at, made_facts}
use Rattle.monomorph.specs.Reading.{Inside, under}
use Rattle.sized_trees.specs.Bodies.{value_at}
use Rattle.soundness_steps.specs.Works.{Work}
use Rattle.soundness_steps.specs.Noted.{MadeAs, is_made, known, sized}
use Rattle.told_sizes.specs.Among.{has_in, reading_among}
use Rattle.told_sizes.specs.Exact.{reading_tells}
use Rattle.exact_sizes.specs.Laws.{Stands}
use Rattle.exact_sizes.proofs.Told.{told_hang}
use Rattle.tabled_cores.specs.Notes.{has_own, made_alone, made_tells}
use Rattle.covering_laws.proofs.Telling.{told_fits}

-- ---- as it is opened

opening_value : (q : Reading) (n : ℕ) → (opening q false M.Unnamed [] n).value ≡ indices_at q n
unfolding opened
opening_value q n = refl

opening_facts : (q : Reading) (n : ℕ) → (opening q false M.Unnamed [] n).facts ≡ facts_at q n
unfolding opened
opening_facts q n = refl

pub record OpensSo (types : Types) (past : Positive) (x : Work) (r : Inside) (f : Integers) (made : Made) (v : Value) : Type 0 where
  pub integers : Integers
  pub same : (i : ℕ) → i < r.variables → f i ≡ integers i
  pub held : has types (standing past integers) x.types (value_at r made) v ≡ true
  pub true_there : AllTrue (standing past integers) (conditions (made_facts r.variables made None))

-- all variables of the body are fixed
abbrev behind_all : (n : ℕ) (f : Integers) → Point n
behind_all n f = record { fixed = λ i. nat_lt i n; integers = f; before = λ i e. (Decides-ltb i n).0 e }

pub opens_so : (types : Types) (past : Positive) (x : Work) (r : Inside) (f : Integers) (made : Made) (v : Value) → made_alone r made ≡ true
    → is_made types past x f made v ≡ true → OpensSo types past x r f made v
opens_so types past x r f (Makes.ByIndices i) v h is = record { integers = f; same = λ j l. refl; held = is; true_there = tt }
opens_so types past x r f (Makes.ByType q) v h is =
    let n = r.variables in
    let p = behind_all n f in
    let steady : (g : Integers) → Agree p g → closed types (standing past g) x.types q ≡ closed types (standing past f) x.types q = λ g a.
    sym (type_below types past x.types n f g (λ i l. a.same i ((Decides-ltb i n).1 l)) q h) in
    let o = opening_sound types past x.types q false M.Unnamed n p [] v steady is in
    let k = o.2.goes in
    let g : Integers = k.point.integers in
    let held : has types (standing past g) x.types (opening q false M.Unnamed [] n).value v ≡ true = ap (λ m. m.holds v) (k.holds g (same k.point)) ∙ o.1 in
    record {
      integers = g;
      same = λ i l. k.later.same i ((Decides-ltb i n).1 l);
      held = subst (λ (i : Indices). has types (standing past g) x.types i v ≡ true) (opening_value q n) held;
      true_there = subst (λ (fs : List Fact). AllTrue (standing past g) (conditions fs)) (opening_facts q n) (k.true_there g (same k.point) tt);
    }

-- ---- the type that it tells

-- a variable of the body
own_there : (n i : ℕ) → has_in (known_at (all_before n)) i ≡ true → nat_lt i n ≡ true
own_there n i h = by (nat_lt i n) h
  where
    by : (b : Bool) → has_in (λ v. or_open v (if b then Some (pos 0) else None)) i ≡ true → b ≡ true
    by true h = refl
    by false h = no h

pub opened_as : (types : Types) (past : Positive) (x : Work) (r : Inside) (own : r.types ≡ types) (many : length r.own ≡ length x.own) (f : Integers)
    (made : Made) (v : Value) (h : made_alone r made ≡ true) (is : is_made types past x f made v ≡ true) (ps : List Picked) → Stands (under r ps) f
    → Stands (under r ps) (opens_so types past x r f made v h is).integers → made_tells r made ps ≡ true
    → MadeAs types past x f made v (sized types x.own (opens_so types past x r f made v h is).integers (value_at r made))
unfolding opens_so
opened_as types past x r own many f (Makes.ByIndices i) v h is ps stands stands_too tells = refl
opened_as types past x r own many f (Makes.ByType q) v h is ps stands stands_too tells =
    let n = r.variables in
    let of = under r ps in
    let o = opens_so types past x r f (Makes.ByType q) v h is in
    let g : Integers = o.integers in
    let p = and_parts (reading_among r.types (has_own r) q) (reading_tells r.types (length r.own) of q) tells in
    let among : reading_among types (has_own r) q ≡ true = subst (λ (ty : Types). reading_among ty (has_own r) q ≡ true) own p.0 in
    let told : reading_tells types (length x.own) of q ≡ true =
    subst (λ (m : ℕ). reading_tells types m of q ≡ true) many (subst (λ (ty : Types). reading_tells ty (length r.own) of q ≡ true) own p.1) in
    let is_too : is_of types (standing past g) x.types q v ≡ true =
    ap (belongs types v) (sym (type_below types past x.types n f g (λ i l. o.same i l) q h)) ∙ is in
    let held : has types (standing past g) x.types (opening q false M.Unnamed [] n).value v ≡ true =
    subst (λ (i : Indices). has types (standing past g) x.types i v ≡ true) (sym (opening_value q n)) o.held in
    let at_g : reading_told types x.own (known g) q v ≡ sized types x.own g (value_at r (Makes.ByType q)) =
    (told_fits types past x g of stands_too q told v is_too).each false M.Unnamed [] n held ∙ ap (sized types x.own g) (opening_value q n) in
    let alike : reading_told types x.own (known f) q v ≡ reading_told types x.own (known g) q v =
    told_hang types x.own (has_own r) (known f) (known g) (λ i e. ap (λ z. C.Number z) (o.same i ((Decides-ltb i n).0 (own_there n i e)))) q among v in
    record { each = λ tells name fs m had. sym at_g ∙ sym alike ∙ (told_fits types past x f of stands q told v is).each tells name fs m had }
