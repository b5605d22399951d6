-- What is decided of several is decided of the first and of the others.
use Rattle.std.proofs.Common.{◌≡◌, ◌∙◌, ◌∷◌, ◌++◌, ◌&&◌, ◌+◌, ◌-◌, ◌≤◌, ◌<◌, ℕ, zero, suc, Bool, true, false, List, Option, Some, None, length, drop}
use Rattle.std.proofs.Common.{refl, sym, ap, arith, []}
use Rattle.checked_meaning.specs.Items.{fixed_typ, part_typ}
use Rattle.jib.specs.Typing.{same}
use Rattle.lowered_ends.proofs.Masses.{first_mass, mass_some, masses, masses_drop, masses_take}
use Rattle.lowered_pieces.specs.Forms.{cases_ends, one_end}
use Rattle.lowered_pieces.specs.Gathered.{only_end}
use Rattle.lowered_pieces.specs.Writes.{way_typ}
use Rattle.lowered_steps.proofs.Lists.{others, others_of}
use Rattle.lowered_typed.proofs.Bools.{four, three}
use Rattle.lowered_typed.proofs.Counting.{more_1, more_2, more_3}
use Rattle.lowered_typed.proofs.Parts.{if_counted, many_here, node_types, others_here}
use Rattle.lowered_typed.specs.Counts.{count_fits}
use Rattle.lowered_typed.specs.Judged.{all_here, answered, assign_asked, assign_types, behind, cases_at, comes_to, first_types, given_right}
use Rattle.lowered_typed.specs.Judged.{if_asked, if_types, kind_parts, lead_right, one_branch, second_types, statement_asked, thrown_right}
use Rattle.lowered_typed.specs.Judged.{tuple_right, types_by, way_asked, ways_asked, with_asked}
use Rattle.lowered_typed.specs.Judging.{cases_typed, number_here, signs_here, tables_here, typed}
use Rattle.lowered_typed.specs.declared.signs.Judge.{Judge}
use Rattle.lowered_validity.specs.Typing.{Typing, all_right, gives_in, nats_eq, picks_small}
use Rattle.sail_core.specs.Making.{payload}
use Rattle.sail_core.specs.declared.patterns.Arm.{Arm}
use Rattle.sail_core.specs.declared.targets.Suffix.{Suffix}
use Rattle.sail_core.specs.declared.targets.Target.{Target}
use Rattle.sail_core.specs.declared.tree.Core.{Core, out-Core}
use Rattle.sail_core.specs.declared.tree.Kind.{Kind}
use Rattle.sail_core.specs.declared.tree.Statement.{Statement}
use Rattle.sail_types.specs.declared.rows.Row.{Row}
use Rattle.size_values.specs.declared.sized.Sized.{Sized}
use Rattle.sized_nodes.specs.declared.trees.Case.{Case}
use Rattle.sized_nodes.specs.declared.trees.Lead.{Lead}
use Rattle.std.proofs.lemmas.Result.{on_ok_weaker}
use Rattle.std.specs.Prelude.{pos, OnOk, Result, if◌then◌else◌, nat_eq}
use Rattle.sail_core.specs.declared.tree.Kind.TheVariants as K
use Rattle.jib.specs.declared.code.Literal.TheVariants as L
use Rattle.jib.specs.declared.code.Operation.TheVariants as O
use Rattle.jib.specs.declared.code.Source.TheVariants as R
use Rattle.sail_core.specs.declared.tree.Statement.TheVariants as S
use Rattle.sail_types.specs.declared.types.Typ.TheVariants as T
use Rattle.size_values.specs.declared.sized.Sized.TheVariants as Z
use Rattle.lowered_typed.specs.Here as here
use Rattle.lowered_typed.specs.Judged as judged

pub next : (a n : ℕ) → a ≡ n + 1 → a ≡ suc n
next a n e = omega (arith, e)

pub one_less : (n : ℕ) → (n ≡ 0 → ⊥) → n ≡ suc (n - 1)
one_less zero h = absurd (h refl)
one_less (suc n) h = omega arith

pub others_less : {A : Type 0} (xs : List A) → 1 ≤ length xs → length (others xs) < length xs
others_less [] some = absurd (omega (arith, some))
others_less {A} (x ∷ xs) some = let e : length (others (x ∷ xs)) ≡ length xs = ap (λ (ys : List A). length ys) (others_of x xs) in omega (arith, e)

pub others_mass : (cs : List Core) → masses (others cs) ≤ masses cs
others_mass cs = let e = masses_take (drop 1 cs) (length cs - 1) in let d = masses_drop cs 1 in omega (arith, e, d)

pub behind_same : (cs : List Core) → 1 ≤ length cs → others cs ≡ behind cs
behind_same [] some = absurd (omega (arith, some))
behind_same (c ∷ cs) some = others_of c cs

not_one : (n : ℕ) → (n ≡ 1 → ⊥) → nat_eq n 1 ≡ false
not_one zero other = refl
not_one (suc zero) other = absurd (other refl)
not_one (suc (suc n)) other = more_1 n

not_three : (n : ℕ) → (n ≡ 3 → ⊥) → nat_eq n 3 ≡ false
not_three zero other = refl
not_three (suc zero) other = refl
not_three (suc (suc zero)) other = refl
not_three (suc (suc (suc zero))) other = absurd (other refl)
not_three (suc (suc (suc (suc n)))) other = more_3 n

not_two : (n : ℕ) → (n ≡ 2 → ⊥) → nat_eq n 2 ≡ false
not_two zero other = refl
not_two (suc zero) other = refl
not_two (suc (suc zero)) other = absurd (other refl)
not_two (suc (suc (suc n))) other = more_2 n

pub others_fall : (cs : List Core) → 1 ≤ length cs → masses (others cs) < masses cs
others_fall [] some = absurd (omega (arith, some))
others_fall (c ∷ cs) some =
    let left : masses (others (c ∷ cs)) ≡ masses cs = ap masses (others_of c cs) in
    omega (arith, left, first_mass c cs, mass_some c)

module _ (j : Judge) where
  pub case_more : (p : Case → Bool) (x : Case) (xs : List Case)
      → (((picks_small x.picked && (tables_here j).known x.gives) && p x) && cases_typed j p xs) ≡ cases_typed j p (x ∷ xs)
  case_more p x xs = four (picks_small x.picked) ((tables_here j).known x.gives) (p x) (cases_typed j p xs)

  pub leads_more : (cases : List Case) (x : Lead) (xs : List Lead)
      → (lead_right j cases x && here.leads_right j cases xs) ≡ here.leads_right j cases (x ∷ xs)
  leads_more cases x xs =
      four (picks_small x.picked) (here.is_lead j ((signs_here j).parameters x.instance) x.takes) (answered j cases x) (here.leads_right j cases xs)

  pub ends_more : (arm : Arm) (x : Case) (xs : List Case)
      → (given_right j arm x && here.ends_right j arm (cases_ends xs)) ≡ here.ends_right j arm (cases_ends (x ∷ xs))
  ends_more arm x xs = three (picks_small x.picked) (here.arm_right j arm (x.gives ∷ [])) (here.ends_right j arm (cases_ends xs))

  pub thrown_more : (x : Case) (xs : List Case)
      → (thrown_right j x && here.all_thrown j (cases_ends xs)) ≡ here.all_thrown j (cases_ends (x ∷ xs))
  thrown_more x xs = three (picks_small x.picked) (nat_eq (number_here j x.gives) (signs_here j).exception) (here.all_thrown j (cases_ends xs))

  -- what is called is of the same cycle or a lower one
  pub lead_if : (b : Bool) (ps : List ℕ) (ts : List Sized)
      → (b && nats_eq (here.numbers j ts) ps) ≡ here.is_lead j (if b then Some ps else None) ts
  lead_if true ps ts = refl
  lead_if false ps ts = refl

  -- ---- blocks

  pub last_many : (cs : List Core) → 2 ≤ length cs → false ≡ here.block_right j [] (all_here j cs)
  last_many [] some = absurd (omega (arith, some))
  last_many (c ∷ []) some = absurd (omega (arith, some))
  last_many (c ∷ d ∷ cs) some = refl

  pub block_none : (s : Statement) (ss : List Statement) → false ≡ here.block_right j (s ∷ ss) []
  block_none S.Evaluate ss = refl
  block_none (S.Declare name written) ss = refl
  block_none (S.Define place arm) ss = refl

  pub block_past : (ss : List Statement) (k : ℕ) → k < length ss → false ≡ here.block_right j (drop k ss) []
  block_past [] k lt = absurd (omega (arith, lt))
  block_past (s ∷ ss) zero lt = block_none s ss
  block_past (s ∷ ss) (suc k) lt = block_past ss k (omega (arith, lt))

  pub block_more : (s : Statement) (ss : List Statement) (a : Typing) (ps : List Typing)
      → (a.right && (statement_asked j s a && here.block_right j ss ps)) ≡ here.block_right j (s ∷ ss) (a ∷ ps)
  block_more S.Evaluate ss a ps = refl
  block_more (S.Declare name written) ss a ps = refl
  block_more (S.Define place arm) ss a ps = refl

  pub not_block : (kind : Kind) (ps : List Typing) → ((statements : List Statement) → kind ≡ K.Block statements → ⊥) → all_right ps ≡ kind_parts j kind ps
  not_block kind ps never = by kind refl
    where
      by : (k : Kind) → kind ≡ k → all_right ps ≡ kind_parts j k ps
      by (K.Block statements) e = absurd (never statements e)
      by k e = refl

  -- ---- types of parts

  pub last_types : (cs : List Core) → 2 ≤ length cs → here.block_types j [] (all_here j cs) ≡ []
  last_types [] some = absurd (omega (arith, some))
  last_types (c ∷ []) some = absurd (omega (arith, some))
  last_types (c ∷ d ∷ cs) some = refl

  pub second_same : (cs : List Core) → 1 ≤ length cs → first_types (all_here j (others cs)) ≡ second_types j (all_here j cs)
  second_same [] some = absurd (omega (arith, some))
  second_same (c ∷ cs) some = ap (λ ds. first_types (all_here j ds)) (others_of c cs)

  pub path_same : (ss : List Suffix) (ts : List Sized) → 2 ≤ length ss → here.path_types j (others ss) ts ≡ here.path_types j ss ts
  path_same [] ts some = absurd (omega (arith, some))
  path_same (s ∷ []) ts some = absurd (omega (arith, some))
  path_same (s ∷ r ∷ ss) ts some = ap (λ qs. here.path_types j qs ts) (others_of s (r ∷ ss))

  pub block_same : (ss : List Statement) (cs : List Core) → 1 ≤ length ss → 1 ≤ length cs
      → here.block_types j (others ss) (all_here j (others cs)) ≡ here.block_types j ss (all_here j cs)
  block_same [] cs some too = absurd (omega (arith, some))
  block_same (s ∷ ss) [] some too = absurd (omega (arith, too))
  block_same (s ∷ ss) (c ∷ cs) some too = λ i. here.block_types j (others_of s ss i) (all_here j (others_of c cs i))

  -- ---- of several cases none is the only one

  pub state_many : (row : Row) (cs : List Case) (ts : List Sized) → 2 ≤ length cs → false ≡ here.state_right j row cs ts
  state_many row [] ts some = absurd (omega (arith, some))
  state_many row (c ∷ []) ts some = absurd (omega (arith, some))
  state_many row (c ∷ d ∷ cs) ts some = refl

  pub moves_many : (cs : List Case) (n : ℕ) → 2 ≤ length cs → true ≡ comes_to j (only_end (cases_ends cs)) n
  moves_many [] n some = absurd (omega (arith, some))
  moves_many (c ∷ []) n some = absurd (omega (arith, some))
  moves_many (c ∷ d ∷ cs) n some = refl

  pub gives_many : (cs : List Case) → 2 ≤ length cs → fixed_typ j.setting.now.types.now T.Unit ≡ here.operand_typ j (only_end (cases_ends cs))
  gives_many [] some = absurd (omega (arith, some))
  gives_many (c ∷ []) some = absurd (omega (arith, some))
  gives_many (c ∷ d ∷ cs) some = refl

  pub payload_many : (u c : ℕ) (ts : List Sized) (s : Sized) → 2 ≤ length ts
      → tuple_right j c ts (part_typ j.setting.now.types.now (payload u c) s) s ≡ here.is_payload j u c ts s
  payload_many u c [] s some = absurd (omega (arith, some))
  payload_many u c (t ∷ []) s some = absurd (omega (arith, some))
  payload_many u c (t ∷ r ∷ ts) s some = refl

  -- ---- of a kind

  pub comes_same : (o : Option Sized) (t : Sized) → comes_to j o (number_here j t) ≡ here.moves_to j o t
  comes_same None t = refl
  comes_same (Some u) t = refl

  pub assign_many : (ts : List Target) (ps : List Typing) → 2 ≤ length ts → false ≡ assign_asked j ts ps
  assign_many [] ps some = absurd (omega (arith, some))
  assign_many (t ∷ []) ps some = absurd (omega (arith, some))
  assign_many (t ∷ u ∷ ts) ps some = refl

  pub replaced_last : (s : Suffix) (ss : List Suffix) (t u : Sized) (a : Bool) → ss ≡ s ∷ [] → a ≡ here.is_put j s.way t u → a ≡ here.replaces j ss t u
  replaced_last s ss t u a one e = e ∙ ap (λ qs. here.replaces j qs t u) (sym one)

  replaced_more : (s : Suffix) (ss : List Suffix) (t u : Sized) → 1 ≤ length ss
      → (here.is_taken j s.way t && (here.replaces j ss (way_typ j.setting.now.types.now s.way t) u
      && here.is_put j s.way t (way_typ j.setting.now.types.now s.way t))) ≡ here.replaces j (s ∷ ss) t u
  replaced_more s [] t u some = absurd (omega (arith, some))
  replaced_more s (r ∷ ss) t u some = refl

  pub replaced_step : (s : Suffix) (ss more : List Suffix) (t u p : Sized) (r a g b c : Bool) → ss ≡ s ∷ more → 1 ≤ length more
      → p ≡ way_typ j.setting.now.types.now s.way t → r ≡ (a && g) → g ≡ (b && c) → a ≡ here.is_taken j s.way t → b ≡ here.replaces j more p u
      → c ≡ here.is_put j s.way t p → r ≡ here.replaces j ss t u
  replaced_step s ss more t u p r a g b c all some part whole rest begins one other =
      whole ∙ (λ i. begins i && (rest ∙ (λ k. (one ∙ ap (λ q. here.replaces j more q u) part) k && (other ∙ ap (here.is_put j s.way t) part) k)) i)
      ∙ replaced_more s more t u some ∙ ap (λ qs. here.replaces j qs t u) (sym all)

  pub ways_more : (s : Suffix) (ss more : List Suffix) (r a b : Bool) → ss ≡ s ∷ more → r ≡ (a && b) → a ≡ way_asked j s.way s.number
      → b ≡ ways_asked j more → r ≡ ways_asked j ss
  ways_more s ss more r a b all both one other = both ∙ (λ i. one i && other i) ∙ ap (ways_asked j) (sym all)

  pub path_last : {X E : Type 0} (r : Result X E) (s : Suffix) (ss : List Suffix) (ts old new : List Sized) → ss ≡ s ∷ []
      → OnOk r (new ≡ old ++ here.way_types j s.way s.number) → OnOk r (new ≡ old ++ here.path_types j ss ts)
  path_last r s ss ts old new one =
      on_ok_weaker r (λ (e : new ≡ old ++ here.way_types j s.way s.number). e ∙ ap (λ qs. old ++ here.path_types j qs ts) (sym one))

  -- a choice of two branches has three parts
  pub if_three : (k : ℕ) (cs : List Core) → length cs ≡ 3
      → here.meet_right j (here.arms_types j (all_here j (behind cs))) (cases_at j k 1) ≡ if_asked j k (all_here j cs)
  if_three k cs three_parts =
      ap (λ qs. here.meet_right j (here.arms_types j qs) (cases_at j k 1)) (sym (others_here j cs))
      ∙ ap (λ (b : Bool). if b then here.meet_right j (here.arms_types j (judged.others (all_here j cs))) (cases_at j k 1) else true)
      (sym (ap (λ n. nat_eq n 3) (many_here j cs ∙ three_parts)))

  pub if_other : (k : ℕ) (cs : List Core) → (length cs ≡ 3 → ⊥) → true ≡ if_asked j k (all_here j cs)
  if_other k cs other =
      ap (λ (b : Bool). if b then here.meet_right j (here.arms_types j (judged.others (all_here j cs))) (cases_at j k 1) else true)
      (sym (not_three (length (all_here j cs)) (λ e. other (sym (many_here j cs) ∙ e))))

  pub with_many : (is : List ℕ) (cs : List Case) → 2 ≤ length is → cases_typed j (here.is_changed j is) cs ≡ with_asked j is cs
  with_many [] cs some = absurd (omega (arith, some))
  with_many (i ∷ []) cs some = absurd (omega (arith, some))
  with_many (i ∷ k ∷ is) cs some = refl

  pub many_behind : (cs : List Core) → length (judged.others (all_here j cs)) ≡ length (behind cs)
  many_behind cs = ap (λ qs. length qs) (others_here j cs) ∙ many_here j (behind cs)

  pub assign_untyped : (ts : List Target) (n : ℕ) → 2 ≤ length ts → assign_types j ts n ≡ []
  assign_untyped [] n some = absurd (omega (arith, some))
  assign_untyped (t ∷ []) n some = absurd (omega (arith, some))
  assign_untyped (t ∷ u ∷ ts) n some = refl

  -- ---- of one type, and of a payload of several parts

  pub one_right : (arm : Arm) (t : Sized) → here.arm_right j arm (t ∷ []) ≡ here.ends_right j arm (one_end t)
  one_right arm t = by (here.arm_right j arm (t ∷ []))
    where
      by : (b : Bool) → b ≡ (b && true)
      by true = refl
      by false = refl

  pub one_thrown : (t : Sized) → nat_eq (number_here j t) (signs_here j).exception ≡ here.all_thrown j (one_end t)
  one_thrown t = by (nat_eq (number_here j t) (signs_here j).exception)
    where
      by : (b : Bool) → b ≡ (b && true)
      by true = refl
      by false = refl

  pub payload_more : (t : Sized) (n : ℕ) → (n ≡ 1 → ⊥) → here.fields_right j t 0 n ≡ here.payload_right j t n
  payload_more t n other = ap (λ (b : Bool). if b then true else here.fields_right j t 0 n) (sym (not_one n other))

  pub parts_more : (t : Sized) (n : ℕ) → (n ≡ 1 → ⊥) → here.fields_typ j t 0 n ≡ here.payload_parts j t n
  parts_more t n other = ap (λ (b : Bool). if b then t ∷ [] else here.fields_typ j t 0 n) (sym (not_one n other))

  pub cut_more : (t : Sized) (m n : ℕ) → (n ≡ 0 → ⊥)
      → here.works j O.Slice (R.Slot 0 ∷ R.Constant (here.integer_number j) (L.Integer (pos (m - 1)))
      ∷ R.Constant (here.integer_number j) (L.Integer (pos (m - n))) ∷ []) (t ∷ []) (Z.Bits (pos n)) ≡ here.cut_typed j t m n
  cut_more t m zero some = absurd (some refl)
  cut_more t m (suc n) some = refl

  pub branch_two : (k : ℕ) (cs : List Core) → length cs ≡ 2 → one_branch j (all_here j cs) ≡ if_types j k (all_here j cs)
  branch_two k cs two =
      ap (λ (b : Bool). if b then one_branch j (all_here j cs) else gives_in (cases_at j k 1)) (sym (ap (λ n. nat_eq n 2) (many_here j cs ∙ two)))

  pub branch_other : (k : ℕ) (cs : List Core) → (length cs ≡ 2 → ⊥) → gives_in (cases_at j k 1) ≡ if_types j k (all_here j cs)
  branch_other k cs other =
      ap (λ (b : Bool). if b then one_branch j (all_here j cs) else gives_in (cases_at j k 1))
      (sym (not_two (length (all_here j cs)) (λ e. other (sym (many_here j cs) ∙ e))))

  -- ---- of a node, whose kind has as many parts as it takes or not

  counts : (c : Core) (ps : List Core) → ps ≡ (out-Core c).parts
      → count_fits (out-Core c).kind (length (all_here j (out-Core c).parts)) ≡ count_fits (out-Core c).kind (length ps)
  counts c ps same = ap (count_fits (out-Core c).kind) (many_here j (out-Core c).parts ∙ ap (λ (cs : List Core). length cs) (sym same))

  all_given : (d : Bool) (ts : List Sized) → d ≡ true → ts ≡ if_counted j d ts
  all_given d ts fits = sym (ap (λ (b : Bool). if_counted j b ts) fits)

  pub typed_then : (c : Core) (ps : List Core) (b : Bool) → ps ≡ (out-Core c).parts → b ≡ count_fits (out-Core c).kind (length ps) → b ≡ true
      → types_by j (out-Core c).kind (out-Core c).number (all_here j ps) ≡ (typed j c).types
  typed_then c ps b same is fits =
      let given : List Core → List Sized = λ (cs : List Core). types_by j (out-Core c).kind (out-Core c).number (all_here j cs) in
      let counted : count_fits (out-Core c).kind (length (all_here j (out-Core c).parts)) ≡ true = counts c ps same ∙ sym is ∙ fits in
      let enough : given (out-Core c).parts ≡ if_counted j (count_fits (out-Core c).kind (length (all_here j (out-Core c).parts))) (given (out-Core c).parts) =
      all_given (count_fits (out-Core c).kind (length (all_here j (out-Core c).parts))) (given (out-Core c).parts) counted in
      ap given same ∙ enough ∙ sym (node_types j c)

  pub typed_else : (c : Core) (ps : List Core) (b : Bool) → ps ≡ (out-Core c).parts → b ≡ count_fits (out-Core c).kind (length ps) → b ≡ false
      → (typed j c).types ≡ []
  typed_else c ps b same is other =
      node_types j c
      ∙ ap (λ (d : Bool). if_counted j d (types_by j (out-Core c).kind (out-Core c).number (all_here j (out-Core c).parts))) (counts c ps same ∙ sym is ∙ other)
