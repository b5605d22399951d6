-- A derivation of a shape is one of any greater depth too; so parts whose derivations differ in depth come under one.
use Rattle.std.proofs.Common.{inl, inr, ℕ, zero, suc, ◌+◌, zero-add, suc-add, subst, sym, List, [], ◌∷◌, Bool, true, false, Option, Some, None}
use Rattle.sail_types.specs.declared.shapes.Shape.{Shape}
use Rattle.sail_types.specs.declared.shapes.Shape.TheVariants as V
use Rattle.sail_types.specs.declared.table.Types.{Types}
use Rattle.sail_types.specs.declared.values.Value.{Value}
use Rattle.sail_core.specs.declared.patterns.Arm.{Arm}
use Rattle.sail_core.specs.declared.patterns.Form.{Form}
use Rattle.sail_core.specs.declared.patterns.Form.TheVariants as F
use Rattle.sail_core.specs.declared.patterns.Pattern.{Pattern, out-Pattern}
use Rattle.sail_core.specs.declared.targets.Suffix.{Suffix}
use Rattle.sail_core.specs.declared.targets.Target.{Target, out-Target}
use Rattle.sail_core.specs.declared.targets.TargetKind.{TargetKind}
use Rattle.sail_core.specs.declared.targets.TargetKind.TheVariants as T
use Rattle.sail_core.specs.declared.targets.Way.{Way}
use Rattle.sail_core.specs.declared.targets.Way.TheVariants as Y
use Rattle.sail_core.specs.declared.tree.Core.{Core, out-Core}
use Rattle.sail_core.specs.declared.tree.Kind.{Kind}
use Rattle.sail_core.specs.declared.tree.Kind.TheVariants as K
use Rattle.sail_core.specs.declared.tree.Statement.{Statement}
use Rattle.sail_core.specs.declared.tree.Statement.TheVariants as S
use Rattle.sail_core.specs.Making.{World}
use Rattle.shape_rules.specs.declared.locals.Local.{Local}
use Rattle.shape_meanings.specs.Keeping.{Reach}
use Rattle.shape_progress.specs.Going.{under}
use Rattle.shape_rules.specs.Scopes.{constant, variable}
use Rattle.shape_progress.specs.PatternRules.{FormBinds, PartsBind, PatternBinds}
use Rattle.shape_progress.specs.Rules.{ArmsHave, BlockHas, EachHas, IsShaped, KindHas, Rule, SuffixesHave}
use Rattle.shape_progress.specs.TargetRules.{AllHave, AssignHas, EachTargeted, SuffixesLead, TargetHas, TargetKindHas, Targeted, WayLeads}

-- ---- patterns

pub parts_more : (P Q : Shape → List Local → Pattern → Type 0) → ((s : Shape) (binds : List Local) (p : Pattern) → P s binds p → Q s binds p)
    → (ss : List Shape) (ps : List Pattern) (binds : List Local) → PartsBind P ss ps binds → PartsBind Q ss ps binds
parts_more P Q f [] [] binds h = h
parts_more P Q f [] (p ∷ ps) binds h = absurd h
parts_more P Q f (s ∷ ss) [] binds h = absurd h
parts_more P Q f (s ∷ ss) (p ∷ ps) binds h = (h.0, h.1, f s h.0 p h.2, parts_more P Q f ss ps h.1 h.3, h.4)

form_more : (P Q : Shape → List Local → Pattern → Type 0) → ((s : Shape) (binds : List Local) (p : Pattern) → P s binds p → Q s binds p)
    → (reach : Reach) (w : World Value) (form : Form) (ps : List Pattern) (s : Shape) (binds : List Local) → FormBinds P reach w form ps s binds
    → FormBinds Q reach w form ps s binds
form_more P Q f reach w F.Any [] s binds h = h
form_more P Q f reach w (F.Binds name) [] s binds h = h
form_more P Q f reach w (F.As name) (p ∷ []) s binds h = (h.0, f s h.0 p h.1, h.2)
form_more P Q f reach w (F.Typed written) (p ∷ []) s binds h = (h.0, h.1, f h.0 binds p h.2)
form_more P Q f reach w (F.Opens head) ps s binds h = (h.0, h.1, parts_more P Q f h.0 ps binds h.2)
form_more P Q f reach w (F.Maps d) (p ∷ []) s binds h = (h.0, h.1, f h.0 binds p h.2)
form_more P Q f reach w form ps s binds h = absurd h

pub pattern_deeper : (n : ℕ) (reach : Reach) (w : World Value) (s : Shape) (binds : List Local) (p : Pattern) → PatternBinds n reach w s binds p
    → PatternBinds (suc n) reach w s binds p
pattern_deeper zero reach w s binds p h = absurd h
pattern_deeper (suc n) reach w s binds p h = (
  h.0,
  h.1,
  form_more (PatternBinds n reach w) (PatternBinds (suc n) reach w) (λ q more x k. pattern_deeper n reach w q more x k) reach w (out-Pattern p).form
      (out-Pattern p).parts h.0 binds h.2,
)

-- ---- cores

-- one rule that another one follows from
abbrev pub Follows : Rule → Rule → Type 0
Follows P Q = (reach : Reach) (s : Shape) (c : Core) → P reach s c → Q reach s c

pub all_more : (P Q : Shape → Core → Type 0) → ((s : Shape) (c : Core) → P s c → Q s c) → (ss : List Shape) (cs : List Core) → AllHave P ss cs → AllHave Q ss cs
all_more P Q f [] [] h = h
all_more P Q f [] (c ∷ cs) h = absurd h
all_more P Q f (s ∷ ss) [] h = absurd h
all_more P Q f (s ∷ ss) (c ∷ cs) h = (f s c h.0, all_more P Q f ss cs h.1)

pub each_more : (P Q : Shape → Core → Type 0) → ((s : Shape) (c : Core) → P s c → Q s c) → (s : Shape) (cs : List Core) → EachHas P s cs → EachHas Q s cs
each_more P Q f s [] h = h
each_more P Q f s (c ∷ cs) h = (f s c h.0, each_more P Q f s cs h.1)

pub way_more : (types : Types) (P Q : Shape → Core → Type 0) → ((s : Shape) (c : Core) → P s c → Q s c) → (way : Way) (cs : List Core) (s : Shape)
    (m n : List Core → Shape → Type 0) → ((ds : List Core) (q : Shape) → m ds q → n ds q) → WayLeads types P way cs s m → WayLeads types Q way cs s n
way_more types P Q f (Y.Field i k) cs s m n g h = (h.0, h.1, h.2, h.3, h.4, h.5, g cs _ h.6)
way_more types P Q f Y.Item [] s m n g h = absurd h
way_more types P Q f Y.Item (i ∷ cs) s m n g h = (f V.Int i h.0, (h.1.0, h.1.1, g cs h.1.0 h.1.2))
way_more types P Q f Y.Slice [] s m n g h = absurd h
way_more types P Q f Y.Slice (a ∷ []) s m n g h = absurd h
way_more types P Q f Y.Slice (a ∷ b ∷ cs) s m n g h = (f V.Int a h.0, f V.Int b h.1, h.2, g cs V.Bits h.3)

pub suffixes_more : (reach : Reach) (P Q : Shape → Core → Type 0) → ((s : Shape) (c : Core) → P s c → Q s c) → (ss : List Suffix) (cs : List Core)
    (s t : Shape) → SuffixesHave reach P ss cs s t → SuffixesHave reach Q ss cs s t
suffixes_more reach P Q f [] [] s t h = h
suffixes_more reach P Q f [] (c ∷ cs) s t h = h
suffixes_more reach P Q f (suffix ∷ ss) cs s t h =
    way_more reach.types P Q f suffix.way cs s (λ ds u. SuffixesHave reach P ss ds u t) (λ ds u. SuffixesHave reach Q ss ds u t)
    (λ ds u k. suffixes_more reach P Q f ss ds u t k) h

-- ---- targets

abbrev pub TargetFollows : Targeted → Targeted → Type 0
TargetFollows Q R =
    (is_base : Bool) (s : Shape) (answer : Option Shape) (target : Target) (cs rest : List Core) → Q is_base s answer target cs rest
    → R is_base s answer target cs rest

pub targets_more : (Q R : Targeted) → TargetFollows Q R → (ss : List Shape) (targets : List Target) (cs rest : List Core) → EachTargeted Q ss targets cs rest
    → EachTargeted R ss targets cs rest
targets_more Q R f [] [] cs rest h = h
targets_more Q R f [] (x ∷ xs) cs rest h = absurd h
targets_more Q R f (s ∷ ss) [] cs rest h = absurd h
targets_more Q R f (s ∷ ss) (x ∷ xs) cs rest h = (h.0, f false s None x cs h.0 h.1, targets_more Q R f ss xs h.0 rest h.2)

pub leads_more : (types : Types) (P Q : Shape → Core → Type 0) → ((s : Shape) (c : Core) → P s c → Q s c) → (ss : List Suffix) (cs rest : List Core)
    (s t : Shape) → SuffixesLead types P ss cs rest s t → SuffixesLead types Q ss cs rest s t
leads_more types P Q f [] cs rest s t h = h
leads_more types P Q f (suffix ∷ ss) cs rest s t h =
    way_more types P Q f suffix.way cs s (λ ds u. SuffixesLead types P ss ds rest u t) (λ ds u. SuffixesLead types Q ss ds rest u t)
    (λ ds u k. leads_more types P Q f ss ds rest u t k) h

pub target_kind_more : (Q R : Targeted) → TargetFollows Q R → (P O : Shape → Core → Type 0) → ((s : Shape) (c : Core) → P s c → O s c) → (w : World Value)
    (reach : Reach) (kind : TargetKind) (targets : List Target) (is_base : Bool) (s : Shape) (answer : Option Shape) (cs rest : List Core)
    → TargetKindHas Q P w reach kind targets is_base s answer cs rest → TargetKindHas R O w reach kind targets is_base s answer cs rest
target_kind_more Q R f P O g w reach (T.Variable name) [] is_base s answer cs rest h = h
target_kind_more Q R f P O g w reach (T.Register r) [] is_base s answer cs rest h = h
target_kind_more Q R f P O g w reach (T.Call n reader writer) [] is_base s answer cs rest h =
    (h.0, h.1, h.2, h.3, all_more P O g h.1 h.0 h.4, h.5, h.6)
target_kind_more Q R f P O g w reach T.Tuple targets false s answer cs rest h = (h.0, h.1, h.2, targets_more Q R f h.0 targets cs rest h.3)
target_kind_more Q R f P O g w reach (T.Part suffixes) (base ∷ []) is_base s answer cs rest h =
    (h.0, h.1, f true h.0 answer base cs h.1 h.2, leads_more reach.types P O g suffixes h.1 rest h.0 s h.3)
target_kind_more Q R f P O g w reach kind targets is_base s answer cs rest h = absurd h

pub target_more : (n : ℕ) (P O : Shape → Core → Type 0) → ((s : Shape) (c : Core) → P s c → O s c) → (w : World Value) (reach : Reach)
    → TargetFollows (TargetHas n P w reach) (TargetHas n O w reach)
target_more zero P O g w reach is_base s answer target cs rest h = absurd h
target_more (suc n) P O g w reach is_base s answer target cs rest h =
    target_kind_more (TargetHas n P w reach) (TargetHas n O w reach) (target_more n P O g w reach) P O g w reach (out-Target target).kind
    (out-Target target).parts is_base s answer cs rest h

pub assign_more : (P O : Shape → Core → Type 0) → ((s : Shape) (c : Core) → P s c → O s c) → (w : World Value) (reach : Reach) (s : Shape)
    (targets : List Target) (cs : List Core) → AssignHas P w reach s targets cs → AssignHas O w reach s targets cs
assign_more P O g w reach s [] [] h = absurd h
assign_more P O g w reach s [] (c ∷ []) h = g s c h
assign_more P O g w reach s [] (c ∷ d ∷ cs) h = absurd h
assign_more P O g w reach s (x ∷ xs) cs h =
    (h.0, h.1, h.2, h.3, target_more h.0 P O g w reach false h.1 (Some s) x cs h.3 h.4, h.5, assign_more P O g w reach h.2 xs h.3 h.6)

-- ---- arms, statements and kinds

module _ (P Q : Rule) (f : Follows P Q) (w : World Value) where
  pub arms_more : (reach : Reach) (ss : List Shape) (s : Shape) (arms : List Arm) (cs : List Core) → ArmsHave P w reach ss s arms cs
      → ArmsHave Q w reach ss s arms cs
  arms_more reach ss s [] [] h = h
  arms_more reach ss s [] (c ∷ cs) h = absurd h
  arms_more reach ss s (arm ∷ arms) [] h = absurd h
  arms_more reach ss s (arm ∷ arms) (c ∷ cs) h =
      ((h.0.0, h.0.1, h.0.2, f (under reach h.0.1) s c h.0.3), arms_more reach ss s arms cs h.1)

  pub block_more : (reach : Reach) (s : Shape) (ss : List Statement) (cs : List Core) → BlockHas P w reach s ss cs → BlockHas Q w reach s ss cs
  block_more reach s [] [] h = h
  block_more reach s [] (c ∷ []) h = f reach s c h
  block_more reach s [] (c ∷ d ∷ cs) h = absurd h
  block_more reach s (S.Evaluate ∷ ss) [] h = absurd h
  block_more reach s (S.Define place arm ∷ ss) [] h = absurd h
  block_more reach s (S.Declare name written ∷ ss) [] h = absurd h
  block_more reach s (S.Evaluate ∷ ss) (c ∷ cs) h = ((h.0.0, f reach h.0.0 c h.0.1), block_more reach s ss cs h.1)
  block_more reach s (S.Define place arm ∷ ss) (c ∷ cs) h =
      (h.0, h.1, h.2, f reach h.0 c h.3, h.4, block_more (under reach h.2) s ss cs h.5)
  block_more reach s (S.Declare name written ∷ ss) (c ∷ cs) h =
      (h.0, f reach h.0 c h.1, block_more (under reach (variable name h.0 ∷ [])) s ss cs h.2)

  pub kind_more : (reach : Reach) (s : Shape) (kind : Kind) (cs : List Core) → KindHas P w reach s kind cs → KindHas Q w reach s kind cs
  kind_more reach s (K.Constant literal) [] h = h
  kind_more reach s (K.Local name) [] h = h
  kind_more reach s (K.Variable name) [] h = h
  kind_more reach s (K.TopLevel i) [] h = h
  kind_more reach s (K.Register r) [] h = h
  kind_more reach s (K.Call callee) cs h = (h.0, all_more (P reach) (Q reach) (f reach) h.0 cs h.1, h.2)
  kind_more reach s K.And (a ∷ b ∷ []) h = (h.0, f reach V.Bool a h.1, f reach V.Bool b h.2)
  kind_more reach s K.Or (a ∷ b ∷ []) h = (h.0, f reach V.Bool a h.1, f reach V.Bool b h.2)
  kind_more reach s (K.Cast written) (a ∷ []) h = f reach s a h
  kind_more reach s K.Tuple cs h = (h.0, h.1, all_more (P reach) (Q reach) (f reach) h.0 cs h.2)
  kind_more reach s (K.Vector item) cs h = (h.0, h.1, each_more (P reach) (Q reach) (f reach) h.0 cs h.2)
  kind_more reach s (K.List item) cs h = (h.0, h.1, each_more (P reach) (Q reach) (f reach) h.0 cs h.2)
  kind_more reach s (K.Cons item) (a ∷ b ∷ []) h = (h.0, h.1, f reach h.0 a h.2, f reach s b h.3)
  kind_more reach s (K.Struct i places) cs h = (h.0, h.1, h.2, h.3, h.4, h.5, h.6, h.7, all_more (P reach) (Q reach) (f reach) h.2 cs h.8)
  kind_more reach s (K.With i places) (a ∷ cs) (inl e) = inl (e.0, f reach e.0 a e.1, e.2)
  kind_more reach s (K.With i places) (a ∷ cs) (inr h) =
      inr (h.0, h.1, h.2, h.3, h.4, f reach s a h.5, h.6, all_more (P reach) (Q reach) (f reach) h.2 cs h.7)
  kind_more reach s (K.Part suffixes) (a ∷ cs) h =
      (h.0, f reach h.0 a h.1, suffixes_more reach (P reach) (Q reach) (f reach) suffixes cs h.0 s h.2)
  kind_more reach s K.WithItem (a ∷ b ∷ c ∷ []) (inl e) = inl (e.0, f reach e.0 a e.1, e.2)
  kind_more reach s K.WithItem (a ∷ b ∷ c ∷ []) (inr h) =
      inr (f reach s a h.0, f reach V.Int b h.1, (h.2.0, h.2.1, f reach h.2.0 c h.2.2))
  kind_more reach s K.WithSlice (a ∷ b ∷ c ∷ d ∷ []) (inl e) = inl (e.0, f reach e.0 a e.1, e.2)
  kind_more reach s K.WithSlice (a ∷ b ∷ c ∷ d ∷ []) (inr h) =
      inr (h.0, f reach s a h.1, f reach V.Int b h.2, f reach V.Int c h.3, f reach V.Bits d h.4)
  kind_more reach s (K.SizeOf number numbers) [] h = h
  kind_more reach s (K.Constraint c numbers) [] h = h
  kind_more reach s (K.Assign targets) cs h = assign_more (P reach) (Q reach) (f reach) w reach s targets cs h
  kind_more reach s (K.Block ss) cs h = block_more reach s ss cs h
  kind_more reach s (K.Let arm) (a ∷ b ∷ []) h = (h.0, h.1, h.2, f reach h.0 a h.3, h.4, f (under reach h.2) s b h.5)
  kind_more reach s (K.Var name written) (a ∷ b ∷ []) h = (h.0, f reach h.0 a h.1, f (under reach (variable name h.0 ∷ [])) s b h.2)
  kind_more reach s (K.If of) (a ∷ b ∷ []) h = (h.0, f reach V.Bool a h.1, f reach V.Unit b h.2)
  kind_more reach s (K.If of) (a ∷ b ∷ c ∷ []) h = (f reach V.Bool a h.0, f reach s b h.1, f reach s c h.2)
  kind_more reach s (K.Match arms of) (a ∷ cs) h = (h.0, f reach h.0 a h.1, arms_more reach (h.0 ∷ []) s arms cs h.2)
  kind_more reach s (K.Try arms of) (a ∷ cs) h = (h.0, h.1, f reach s a h.2, arms_more reach (h.0 ∷ []) s arms cs h.3)
  kind_more reach s (K.Clauses arms) cs h = (h.0, h.1, arms_more reach h.0 s arms cs h.2)
  kind_more reach s K.When (a ∷ b ∷ []) h = (f reach V.Bool a h.0, f reach s b h.1)
  kind_more reach s (K.Foreach name way) (a ∷ b ∷ c ∷ body ∷ []) h =
      (h.0, f reach V.Int a h.1, f reach V.Int b h.2, f reach V.Int c h.3, (h.4.0, f (under reach (constant name V.Int ∷ [])) h.4.0 body h.4.1))
  kind_more reach s K.While (m ∷ c ∷ b ∷ []) h = (h.0, f reach V.Int m h.1, f reach V.Bool c h.2, (h.3.0, f reach h.3.0 b h.3.1))
  kind_more reach s K.Repeat (m ∷ b ∷ c ∷ []) h = (h.0, f reach V.Int m h.1, f reach V.Bool c h.2, (h.3.0, f reach h.3.0 b h.3.1))
  kind_more reach s K.Return (a ∷ []) h = (h.0, h.1, f reach h.0 a h.2)
  kind_more reach s K.Throw (a ∷ []) h = (h.0, h.1, f reach h.0 a h.2)
  kind_more reach s K.Exit (a ∷ []) h = (h.0, f reach h.0 a h.1)
  kind_more reach s (K.Assert text) (a ∷ []) h = (h.0, f reach V.Bool a h.1)
  kind_more reach s kind cs h = absurd h

pub shaped_deeper : (n : ℕ) (w : World Value) (reach : Reach) (s : Shape) (c : Core) → IsShaped n w reach s c → IsShaped (suc n) w reach s c
shaped_deeper zero w reach s c h = absurd h
shaped_deeper (suc n) w reach s c (inl u) = inl u
shaped_deeper (suc n) w reach s c (inr h) = inr (
  h.0,
  h.1,
  kind_more (IsShaped n w) (IsShaped (suc n) w) (λ around q d k. shaped_deeper n w around q d k) w reach h.0 (out-Core c).kind (out-Core c).parts h.2,
)

pub shaped_above : (k n : ℕ) (w : World Value) (reach : Reach) (s : Shape) (c : Core) → IsShaped n w reach s c → IsShaped (k + n) w reach s c
shaped_above zero n w reach s c h = subst (λ m. IsShaped m w reach s c) (sym (zero-add n)) h
shaped_above (suc k) n w reach s c h =
    subst (λ m. IsShaped m w reach s c) (sym (suc-add k n)) (shaped_deeper (k + n) w reach s c (shaped_above k n w reach s c h))
