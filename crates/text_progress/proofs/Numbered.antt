-- The numbers of a definition's nodes are for other readings: a core with them has the shape that it has without.
use Rattle.std.proofs.Common.{◌≡◌, inl, inr, ℕ, zero, suc, List, [], ◌∷◌, ◌++◌, map, length, ap, sym, ◌∙◌, refl, subst, Bool, true, false, Option, Some, None}
use Rattle.sail_types.specs.declared.shapes.Shape.{Shape}
use Rattle.sail_types.specs.declared.shapes.Shape.TheVariants as V
use Rattle.sail_types.specs.declared.table.Types.{Types}
use Rattle.sail_types.specs.declared.values.Value.{Value}
use Rattle.sail_core.specs.declared.patterns.Arm.{Arm}
use Rattle.sail_core.specs.declared.targets.Caller.{Caller}
use Rattle.sail_core.specs.declared.targets.Suffix.{Suffix}
use Rattle.sail_core.specs.declared.targets.Target.{Target, Target-F, fold_out-Target, out-Target, out-roll-Target}
use Rattle.sail_core.specs.declared.targets.TargetKind.{TargetKind}
use Rattle.sail_core.specs.declared.targets.TargetKind.TheVariants as T
use Rattle.sail_core.specs.declared.targets.Way.{Way}
use Rattle.sail_core.specs.declared.targets.Way.TheVariants as Y
use Rattle.sail_core.specs.declared.tree.Core.{Core, Core-F, fold_out-Core, out-Core}
use Rattle.sail_core.specs.declared.tree.Core.TheViews.{out-roll-Core}
use Rattle.sail_core.specs.declared.tree.Kind.{Kind}
use Rattle.sail_core.specs.declared.tree.Kind.TheVariants as K
use Rattle.sail_core.specs.declared.tree.Statement.{Statement}
use Rattle.sail_core.specs.declared.tree.Statement.TheVariants as S
use Rattle.sail_core.specs.Making.{World}
use Rattle.core_numbers.specs.Numbers.{Numbered, Numbering, core_with, each_numbered, kind_numbered, numbered, reader_numbered, suffix_numbered}
use Rattle.core_numbers.specs.Numbers.{target_kind_numbered, target_numbered, target_with}
use Rattle.shape_meanings.specs.Keeping.{Reach}
use Rattle.shape_rules.specs.Scopes.{constant, variable}
use Rattle.shape_progress.specs.Going.{under}
use Rattle.shape_progress.specs.Rules.{ArmsHave, BlockHas, EachHas, IsShaped, KindHas, Rule, SuffixesHave}
use Rattle.shape_progress.specs.TargetRules.{AllHave, AssignHas, EachTargeted, Reads, SuffixesLead, TargetHas, TargetKindHas, Targeted, WayLeads}

-- ---- trees with their numbers from this one on, and the number behind them

abbrev one : Core → ℕ → Core
one c k = (numbered c k).it

abbrev next : Core → ℕ → ℕ
next c k = (numbered c k).next

abbrev many : List Core → ℕ → List Core
many cs k = (each_numbered (map numbered cs) k).it

abbrev behind : List Core → ℕ → ℕ
behind cs k = (each_numbered (map numbered cs) k).next

abbrev suffixes_from : List Suffix → ℕ → List Suffix
suffixes_from ss k = (each_numbered (map suffix_numbered ss) k).it

abbrev targets_from : List Target → ℕ → List Target
targets_from ts k = (each_numbered (map target_numbered ts) k).it

many_append : (cs ds : List Core) (k : ℕ) → many (cs ++ ds) k ≡ many cs k ++ many ds (behind cs k)
many_append [] ds k = refl
many_append (c ∷ cs) ds k = ap (λ more. one c k ∷ more) (many_append cs ds (next c k))

many_length : (cs : List Core) (k : ℕ) → length (many cs k) ≡ length cs
many_length [] k = refl
many_length (c ∷ cs) k = ap suc (many_length cs (next c k))

core_out : (c : Core) (k : ℕ) → out-Core (one c k) ≡ record {
  place = (out-Core c).place;
  number = k;
  kind = (kind_numbered (out-Core c).kind (suc k)).it;
  parts = many (out-Core c).parts (kind_numbered (out-Core c).kind (suc k)).next;
}
core_out c k =
    let kind : Numbered Kind = kind_numbered (out-Core c).kind (suc k) in
    ap (λ (f : Numbering Core). out-Core (f k).it) (fold_out-Core (Numbering Core) (λ x n. core_with x n (kind_numbered x.kind (suc n))) c)
    ∙ out-roll-Core (record { place = (out-Core c).place; number = k; kind = kind.it; parts = many (out-Core c).parts kind.next })

target_out : (t : Target) (k : ℕ) → out-Target (target_numbered t k).it ≡ record {
  place = (out-Target t).place;
  number = k;
  kind = (target_kind_numbered (out-Target t).kind (suc k)).it;
  parts = targets_from (out-Target t).parts (target_kind_numbered (out-Target t).kind (suc k)).next;
}
target_out t k =
    let kind : Numbered TargetKind = target_kind_numbered (out-Target t).kind (suc k) in
    ap (λ (f : Numbering Target). out-Target (f k).it)
    (fold_out-Target (Numbering Target) (λ x n. target_with x n (target_kind_numbered x.kind (suc n))) t)
    ∙ out-roll-Target (record { place = (out-Target t).place; number = k; kind = kind.it; parts = targets_from (out-Target t).parts kind.next })

-- ---- several parts, and ways into values

-- what is asked of a part follows for it with its numbers
abbrev Renumbers : (Shape → Core → Type 0) → (Shape → Core → Type 0) → Type 0
Renumbers P Q = (s : Shape) (c : Core) (k : ℕ) → P s c → Q s (one c k)

module _ (P Q : Shape → Core → Type 0) (f : Renumbers P Q) where
  all_again : (ss : List Shape) (cs : List Core) (k : ℕ) → AllHave P ss cs → AllHave Q ss (many cs k)
  all_again [] [] k h = h
  all_again [] (c ∷ cs) k h = absurd h
  all_again (s ∷ ss) [] k h = absurd h
  all_again (s ∷ ss) (c ∷ cs) k h = (f s c k h.0, all_again ss cs (next c k) h.1)

  each_again : (s : Shape) (cs : List Core) (k : ℕ) → EachHas P s cs → EachHas Q s (many cs k)
  each_again s [] k h = h
  each_again s (c ∷ cs) k h = (f s c k h.0, each_again s cs (next c k) h.1)

  -- what is asked of the parts that are left follows at some number
  way_again : (types : Types) (way : Way) (cs : List Core) (s : Shape) (k : ℕ) (m : List Core → Shape → Type 0) (n : ℕ → List Core → Shape → Type 0)
      → ((ds : List Core) (q : Shape) (j : ℕ) → m ds q → (i : ℕ) × n i (many ds j) q) → WayLeads types P way cs s m
      → (i : ℕ) × WayLeads types Q way (many cs k) s (n i)
  way_again types (Y.Field i j) cs s k m n g h = let x = g cs _ k h.6 in (x.0, (h.0, h.1, h.2, h.3, h.4, h.5, x.1))
  way_again types Y.Item [] s k m n g h = absurd h
  way_again types Y.Item (i ∷ cs) s k m n g h = let x = g cs h.1.0 (next i k) h.1.2 in (x.0, (f V.Int i k h.0, (h.1.0, h.1.1, x.1)))
  way_again types Y.Slice [] s k m n g h = absurd h
  way_again types Y.Slice (a ∷ []) s k m n g h = absurd h
  way_again types Y.Slice (a ∷ b ∷ cs) s k m n g h =
      let x = g cs V.Bits (next b (next a k)) h.3 in (x.0, (f V.Int a k h.0, f V.Int b (next a k) h.1, h.2, x.1))

  suffixes_again : (reach : Reach) (ss : List Suffix) (cs : List Core) (s t : Shape) (j k : ℕ) → SuffixesHave reach P ss cs s t
      → SuffixesHave reach Q (suffixes_from ss j) (many cs k) s t
  suffixes_again reach [] [] s t j k h = h
  suffixes_again reach [] (c ∷ cs) s t j k h = h
  suffixes_again reach (x ∷ ss) cs s t j k h =
      (way_again reach.types x.way cs s k (λ ds u. SuffixesHave reach P ss ds u t)
      (λ i ds u. SuffixesHave reach Q (suffixes_from ss (suc j)) ds u t)
      (λ ds u i e. (0, suffixes_again reach ss ds u t (suc j) i e)) h).1

  leads_again : (types : Types) (ss : List Suffix) (cs rest : List Core) (s t : Shape) (j k : ℕ) → SuffixesLead types P ss cs rest s t
      → (i : ℕ) × SuffixesLead types Q (suffixes_from ss j) (many cs k) (many rest i) s t
  leads_again types [] cs rest s t j k h = (k, (ap (λ x. many x k) h.0, h.1))
  leads_again types (x ∷ ss) cs rest s t j k h =
      way_again types x.way cs s k (λ ds u. SuffixesLead types P ss ds rest u t)
      (λ i ds u. SuffixesLead types Q (suffixes_from ss (suc j)) ds (many rest i) u t)
      (λ ds u i e. leads_again types ss ds rest u t (suc j) i e) h

-- ---- targets

abbrev TargetAgain : Targeted → Targeted → Type 0
TargetAgain A B =
    (is_base : Bool) (s : Shape) (answer : Option Shape) (target : Target) (cs rest : List Core) (j k : ℕ) → A is_base s answer target cs rest
    → (i : ℕ) × B is_base s answer (target_numbered target j).it (many cs k) (many rest i)

targets_again : (A B : Targeted) → TargetAgain A B → (ss : List Shape) (ts : List Target) (cs rest : List Core) (j k : ℕ) → EachTargeted A ss ts cs rest
    → (i : ℕ) × EachTargeted B ss (targets_from ts j) (many cs k) (many rest i)
targets_again A B g [] [] cs rest j k h = (k, ap (λ x. many x k) h)
targets_again A B g [] (x ∷ xs) cs rest j k h = absurd h
targets_again A B g (s ∷ ss) [] cs rest j k h = absurd h
targets_again A B g (s ∷ ss) (x ∷ xs) cs rest j k h =
    let a = g false s None x cs h.0 j k h.1 in
    let more = targets_again A B g ss xs h.0 rest (target_numbered x j).next a.0 h.2 in
    (more.0, (many h.0 a.0, a.1, more.1))

reads_again : (w : World Value) (reach : Reach) (ss : List Shape) (s : Shape) (is_base : Bool) (reader : Option Caller) (j : ℕ)
    → Reads w reach ss s is_base reader → Reads w reach ss s is_base (reader_numbered reader j).it
reads_again w reach ss s false None j h = h
reads_again w reach ss s false (Some caller) j h = h
reads_again w reach ss s true None j h = h
reads_again w reach ss s true (Some caller) j h = h

module _ (P Q : Shape → Core → Type 0) (f : Renumbers P Q) (w : World Value) (reach : Reach) where
  target_kind_again : (A B : Targeted) → TargetAgain A B → (kind : TargetKind) (ts : List Target) (is_base : Bool) (s : Shape) (answer : Option Shape)
      (cs rest : List Core) (m j k : ℕ) → TargetKindHas A P w reach kind ts is_base s answer cs rest
      → (i : ℕ) × TargetKindHas B Q w reach (target_kind_numbered kind m).it (targets_from ts j) is_base s answer (many cs k) (many rest i)
  target_kind_again A B g (T.Variable name) [] is_base s answer cs rest m j k h = (k, (h.0, h.1, h.2, h.3, ap (λ x. many x k) h.4))
  target_kind_again A B g (T.Register r) [] is_base s answer cs rest m j k h = (k, (h.0, h.1, ap (λ x. many x k) h.2))
  target_kind_again A B g (T.Call n reader writer) [] is_base s answer cs rest m j k h = (
    behind h.0 k,
    (
      many h.0 k,
      h.1,
      ap (λ x. many x k) h.2 ∙ many_append h.0 rest k,
      h.3 ∙ sym (many_length h.0 k),
      all_again P Q f h.1 h.0 k h.4,
      h.5,
      reads_again w reach h.1 s is_base reader m h.6,
    ),
  )
  target_kind_again A B g T.Tuple ts false s answer cs rest m j k h =
      let x = targets_again A B g h.0 ts cs rest j k h.3 in (x.0, (h.0, h.1, h.2, x.1))
  target_kind_again A B g (T.Part ss) (base ∷ []) is_base s answer cs rest m j k h =
      let a = g true h.0 answer base cs h.1 j k h.2 in
      let x = leads_again P Q f reach.types ss h.1 rest h.0 s m a.0 h.3 in
      (x.0, (h.0, many h.1 a.0, a.1, x.1))
  target_kind_again A B g kind ts is_base s answer cs rest m j k h = absurd h

  target_again : (n : ℕ) → TargetAgain (TargetHas n P w reach) (TargetHas n Q w reach)
  target_again zero is_base s answer target cs rest j k h = absurd h
  target_again (suc n) is_base s answer target cs rest j k h =
      let kind : Numbered TargetKind = target_kind_numbered (out-Target target).kind (suc j) in
      let x = target_kind_again (TargetHas n P w reach) (TargetHas n Q w reach) (target_again n) (out-Target target).kind (out-Target target).parts is_base s
      answer cs rest (suc j) kind.next k h in (
        x.0,
        subst (λ (t : Target-F Target). TargetKindHas (TargetHas n Q w reach) Q w reach t.kind t.parts is_base s answer (many cs k) (many rest x.0))
            (sym (target_out target j)) x.1,
      )

  assign_again : (s : Shape) (ts : List Target) (cs : List Core) (j k : ℕ) → AssignHas P w reach s ts cs → AssignHas Q w reach s (targets_from ts j) (many cs k)
  assign_again s [] [] j k h = absurd h
  assign_again s [] (c ∷ []) j k h = f s c k h
  assign_again s [] (c ∷ d ∷ cs) j k h = absurd h
  assign_again s (x ∷ xs) cs j k h =
      let t = target_again h.0 false h.1 (Some s) x cs h.3 j k h.4 in
      (h.0, h.1, h.2, many h.3 t.0, t.1, h.5, assign_again h.2 xs h.3 (target_numbered x j).next t.0 h.6)

-- ---- arms, statements and kinds

module _ (P Q : Rule) (f : (reach : Reach) → Renumbers (P reach) (Q reach)) (w : World Value) where
  arms_again : (reach : Reach) (ss : List Shape) (s : Shape) (arms : List Arm) (cs : List Core) (k : ℕ) → ArmsHave P w reach ss s arms cs
      → ArmsHave Q w reach ss s arms (many cs k)
  arms_again reach ss s [] [] k h = h
  arms_again reach ss s [] (c ∷ cs) k h = absurd h
  arms_again reach ss s (arm ∷ arms) [] k h = absurd h
  arms_again reach ss s (arm ∷ arms) (c ∷ cs) k h =
      ((h.0.0, h.0.1, h.0.2, f (under reach h.0.1) s c k h.0.3), arms_again reach ss s arms cs (next c k) h.1)

  block_again : (reach : Reach) (s : Shape) (ss : List Statement) (cs : List Core) (k : ℕ) → BlockHas P w reach s ss cs → BlockHas Q w reach s ss (many cs k)
  block_again reach s [] [] k h = h
  block_again reach s [] (c ∷ []) k h = f reach s c k h
  block_again reach s [] (c ∷ d ∷ cs) k h = absurd h
  block_again reach s (S.Evaluate ∷ ss) [] k h = absurd h
  block_again reach s (S.Define place arm ∷ ss) [] k h = absurd h
  block_again reach s (S.Declare name written ∷ ss) [] k h = absurd h
  block_again reach s (S.Evaluate ∷ ss) (c ∷ cs) k h = ((h.0.0, f reach h.0.0 c k h.0.1), block_again reach s ss cs (next c k) h.1)
  block_again reach s (S.Define place arm ∷ ss) (c ∷ cs) k h =
      (h.0, h.1, h.2, f reach h.0 c k h.3, h.4, block_again (under reach h.2) s ss cs (next c k) h.5)
  block_again reach s (S.Declare name written ∷ ss) (c ∷ cs) k h =
      (h.0, f reach h.0 c k h.1, block_again (under reach (variable name h.0 ∷ [])) s ss cs (next c k) h.2)

  kind_again : (reach : Reach) (s : Shape) (kind : Kind) (cs : List Core) (j k : ℕ) → KindHas P w reach s kind cs
      → KindHas Q w reach s (kind_numbered kind j).it (many cs k)
  kind_again reach s (K.Constant literal) [] j k h = h
  kind_again reach s (K.Local name) [] j k h = h
  kind_again reach s (K.Variable name) [] j k h = h
  kind_again reach s (K.TopLevel i) [] j k h = h
  kind_again reach s (K.Register r) [] j k h = h
  kind_again reach s (K.Call callee) cs j k h = (h.0, all_again (P reach) (Q reach) (f reach) h.0 cs k h.1, h.2)
  kind_again reach s K.And (a ∷ b ∷ []) j k h = (h.0, f reach V.Bool a k h.1, f reach V.Bool b (next a k) h.2)
  kind_again reach s K.Or (a ∷ b ∷ []) j k h = (h.0, f reach V.Bool a k h.1, f reach V.Bool b (next a k) h.2)
  kind_again reach s (K.Cast written) (a ∷ []) j k h = f reach s a k h
  kind_again reach s K.Tuple cs j k h = (h.0, h.1, all_again (P reach) (Q reach) (f reach) h.0 cs k h.2)
  kind_again reach s (K.Vector item) cs j k h = (h.0, h.1, each_again (P reach) (Q reach) (f reach) h.0 cs k h.2)
  kind_again reach s (K.List item) cs j k h = (h.0, h.1, each_again (P reach) (Q reach) (f reach) h.0 cs k h.2)
  kind_again reach s (K.Cons item) (a ∷ b ∷ []) j k h = (h.0, h.1, f reach h.0 a k h.2, f reach s b (next a k) h.3)
  kind_again reach s (K.Struct i places) cs j k h =
      (h.0, h.1, h.2, h.3, h.4, h.5, h.6, h.7, all_again (P reach) (Q reach) (f reach) h.2 cs k h.8)
  kind_again reach s (K.With i places) (a ∷ cs) j k (inl e) = inl (e.0, f reach e.0 a k e.1, e.2)
  kind_again reach s (K.With i places) (a ∷ cs) j k (inr h) =
      inr (h.0, h.1, h.2, h.3, h.4, f reach s a k h.5, h.6, all_again (P reach) (Q reach) (f reach) h.2 cs (next a k) h.7)
  kind_again reach s (K.Part suffixes) (a ∷ cs) j k h =
      (h.0, f reach h.0 a k h.1, suffixes_again (P reach) (Q reach) (f reach) reach suffixes cs h.0 s j (next a k) h.2)
  kind_again reach s K.WithItem (a ∷ b ∷ c ∷ []) j k (inl e) = inl (e.0, f reach e.0 a k e.1, e.2)
  kind_again reach s K.WithItem (a ∷ b ∷ c ∷ []) j k (inr h) =
      inr (f reach s a k h.0, f reach V.Int b (next a k) h.1, (h.2.0, h.2.1, f reach h.2.0 c (next b (next a k)) h.2.2))
  kind_again reach s K.WithSlice (a ∷ b ∷ c ∷ d ∷ []) j k (inl e) = inl (e.0, f reach e.0 a k e.1, e.2)
  kind_again reach s K.WithSlice (a ∷ b ∷ c ∷ d ∷ []) j k (inr h) =
      inr (
        h.0,
        f reach s a k h.1,
        f reach V.Int b (next a k) h.2,
        f reach V.Int c (next b (next a k)) h.3,
        f reach V.Bits d (next c (next b (next a k))) h.4,
      )
  kind_again reach s (K.SizeOf number numbers) [] j k h = h
  kind_again reach s (K.Constraint c numbers) [] j k h = h
  kind_again reach s (K.Assign targets) cs j k h = assign_again (P reach) (Q reach) (f reach) w reach s targets cs j k h
  kind_again reach s (K.Block ss) cs j k h = block_again reach s ss cs k h
  kind_again reach s (K.Let arm) (a ∷ b ∷ []) j k h = (h.0, h.1, h.2, f reach h.0 a k h.3, h.4, f (under reach h.2) s b (next a k) h.5)
  kind_again reach s (K.Var name written) (a ∷ b ∷ []) j k h =
      (h.0, f reach h.0 a k h.1, f (under reach (variable name h.0 ∷ [])) s b (next a k) h.2)
  kind_again reach s (K.If of) (a ∷ b ∷ []) j k h = (h.0, f reach V.Bool a k h.1, f reach V.Unit b (next a k) h.2)
  kind_again reach s (K.If of) (a ∷ b ∷ c ∷ []) j k h = (f reach V.Bool a k h.0, f reach s b (next a k) h.1, f reach s c (next b (next a k)) h.2)
  kind_again reach s (K.Match arms of) (a ∷ cs) j k h = (h.0, f reach h.0 a k h.1, arms_again reach (h.0 ∷ []) s arms cs (next a k) h.2)
  kind_again reach s (K.Try arms of) (a ∷ cs) j k h = (h.0, h.1, f reach s a k h.2, arms_again reach (h.0 ∷ []) s arms cs (next a k) h.3)
  kind_again reach s (K.Clauses arms) cs j k h = (h.0, h.1, arms_again reach h.0 s arms cs k h.2)
  kind_again reach s K.When (a ∷ b ∷ []) j k h = (f reach V.Bool a k h.0, f reach s b (next a k) h.1)
  kind_again reach s (K.Foreach name way) (a ∷ b ∷ c ∷ body ∷ []) j k h = (
    h.0,
    f reach V.Int a k h.1,
    f reach V.Int b (next a k) h.2,
    f reach V.Int c (next b (next a k)) h.3,
    (h.4.0, f (under reach (constant name V.Int ∷ [])) h.4.0 body (next c (next b (next a k))) h.4.1),
  )
  kind_again reach s K.While (m ∷ c ∷ b ∷ []) j k h =
      (h.0, f reach V.Int m k h.1, f reach V.Bool c (next m k) h.2, (h.3.0, f reach h.3.0 b (next c (next m k)) h.3.1))
  kind_again reach s K.Repeat (m ∷ b ∷ c ∷ []) j k h =
      (h.0, f reach V.Int m k h.1, f reach V.Bool c (next b (next m k)) h.2, (h.3.0, f reach h.3.0 b (next m k) h.3.1))
  kind_again reach s K.Return (a ∷ []) j k h = (h.0, h.1, f reach h.0 a k h.2)
  kind_again reach s K.Throw (a ∷ []) j k h = (h.0, h.1, f reach h.0 a k h.2)
  kind_again reach s K.Exit (a ∷ []) j k h = (h.0, f reach h.0 a k h.1)
  kind_again reach s (K.Assert text) (a ∷ []) j k h = (h.0, f reach V.Bool a k h.1)
  kind_again reach s kind cs j k h = absurd h

-- ---- a core with its numbers

pub shaped_numbered : (n : ℕ) (w : World Value) (reach : Reach) (s : Shape) (c : Core) (k : ℕ) → IsShaped n w reach s c
    → IsShaped n w reach s (numbered c k).it
shaped_numbered zero w reach s c k h = absurd h
shaped_numbered (suc n) w reach s c k (inl u) = inl u
shaped_numbered (suc n) w reach s c k (inr h) = inr (
  h.0,
  h.1,
  subst (λ (x : Core-F Core). KindHas (IsShaped n w) w reach h.0 x.kind x.parts) (sym (core_out c k))
      (kind_again (IsShaped n w) (IsShaped n w) (λ r q d j x. shaped_numbered n w r q d j x) w reach h.0 (out-Core c).kind (out-Core c).parts (suc k)
      (kind_numbered (out-Core c).kind (suc k)).next h.2),
)
