-- Parts that have their shapes at depths of their own have them at one depth together, and so stands what is made of them.
use Rattle.std.proofs.Common.{arith, ◌≡◌, inl, inr, ℕ, zero, suc, ◌+◌, List, [], ◌∷◌, Bool, true, false, subst, Option, Some, None}
use Rattle.sail_types.specs.declared.shapes.Shape.{Shape}
use Rattle.sail_types.specs.declared.shapes.Shape.TheVariants as V
use Rattle.sail_types.specs.declared.table.Types.{Types}
use Rattle.sail_types.specs.declared.values.Value.{Value}
use Rattle.sail_core.specs.declared.patterns.Arm.{Arm}
use Rattle.sail_core.specs.declared.targets.Suffix.{Suffix}
use Rattle.sail_core.specs.declared.targets.Target.{Target, out-Target}
use Rattle.sail_core.specs.declared.targets.TargetKind.{TargetKind}
use Rattle.sail_core.specs.declared.targets.TargetKind.TheVariants as T
use Rattle.sail_core.specs.declared.targets.Way.{Way}
use Rattle.sail_core.specs.declared.targets.Way.TheVariants as Y
use Rattle.sail_core.specs.declared.tree.Core.{Core}
use Rattle.sail_core.specs.declared.tree.Kind.{Kind}
use Rattle.sail_core.specs.declared.tree.Kind.TheVariants as K
use Rattle.sail_core.specs.declared.tree.Statement.{Statement}
use Rattle.sail_core.specs.declared.tree.Statement.TheVariants as S
use Rattle.sail_core.specs.Making.{World}
use Rattle.shape_rules.specs.Scopes.{constant, variable}
use Rattle.shape_meanings.specs.Keeping.{Reach}
use Rattle.shape_progress.specs.Going.{under}
use Rattle.shape_progress.specs.Rules.{ArmsHave, BlockHas, EachHas, IsShaped, KindHas, SuffixesHave}
use Rattle.shape_progress.specs.TargetRules.{AllHave, AssignHas, EachTargeted, SuffixesLead, TargetHas, TargetKindHas, Targeted, WayLeads}
use Rattle.shape_stands.specs.Stands.{HasShape}
use Rattle.shape_stands.proofs.Deeper.{all_more, arms_more, assign_more, block_more, each_more, leads_more, shaped_above, suffixes_more, target_more}
use Rattle.shape_stands.proofs.Deeper.{targets_more}

-- what holds at a depth holds at each greater one
abbrev pub Grows : (ℕ → Type 0) → Type 0
Grows P = (k n : ℕ) → P n → P (k + n)

abbrev pub Somewhere : (ℕ → Type 0) → Type 0
Somewhere P = (n : ℕ) × P n

turned : (n m : ℕ) → n + m ≡ m + n
turned n m = omega arith

pub together : (P Q : ℕ → Type 0) → Grows P → Grows Q → Somewhere P → Somewhere Q → Somewhere (λ n. P n × Q n)
together P Q f g p q = (q.0 + p.0, (f q.0 p.0 p.1, subst Q (turned p.0 q.0) (g p.0 q.0 q.1)))

module _ (w : World Value) where
  grows : (reach : Reach) (s : Shape) (c : Core) → Grows (λ n. IsShaped n w reach s c)
  grows reach s c k n h = shaped_above k n w reach s c h

  abbrev At : ℕ → Reach → Shape → Core → Type 0
  At n reach s c = IsShaped n w reach s c

  all_grow : (reach : Reach) (ss : List Shape) (cs : List Core) → Grows (λ n. AllHave (At n reach) ss cs)
  all_grow reach ss cs k n h = all_more (At n reach) (At (k + n) reach) (λ s c x. shaped_above k n w reach s c x) ss cs h

  each_grow : (reach : Reach) (s : Shape) (cs : List Core) → Grows (λ n. EachHas (At n reach) s cs)
  each_grow reach s cs k n h = each_more (At n reach) (At (k + n) reach) (λ t c x. shaped_above k n w reach t c x) s cs h

  pub all_together : (reach : Reach) (ss : List Shape) (cs : List Core) → AllHave (HasShape w reach) ss cs → (n : ℕ) × AllHave (At n reach) ss cs
  all_together reach [] [] h = (0, tt)
  all_together reach [] (c ∷ cs) h = absurd h
  all_together reach (s ∷ ss) [] h = absurd h
  all_together reach (s ∷ ss) (c ∷ cs) h =
      together (λ n. At n reach s c) (λ n. AllHave (At n reach) ss cs) (grows reach s c) (all_grow reach ss cs) h.0 (all_together reach ss cs h.1)

  each_together : (reach : Reach) (s : Shape) (cs : List Core) → EachHas (HasShape w reach) s cs → (n : ℕ) × EachHas (At n reach) s cs
  each_together reach s [] h = (0, tt)
  each_together reach s (c ∷ cs) h =
      together (λ n. At n reach s c) (λ n. EachHas (At n reach) s cs) (grows reach s c) (each_grow reach s cs) h.0 (each_together reach s cs h.1)

  two_parts : (q r : Reach) (s t : Shape) (a b : Core) → HasShape w q s a → HasShape w r t b → (n : ℕ) × (At n q s a × At n r t b)
  two_parts q r s t a b x y = together (λ n. At n q s a) (λ n. At n r t b) (grows q s a) (grows r t b) x y

  three_parts : (p q r : Reach) (s t u : Shape) (a b c : Core) → HasShape w p s a → HasShape w q t b → HasShape w r u c
      → (n : ℕ) × (At n p s a × (At n q t b × At n r u c))
  three_parts p q r s t u a b c x y z =
      together (λ n. At n p s a) (λ n. At n q t b × At n r u c) (grows p s a)
      (λ k n h. (shaped_above k n w q t b h.0, shaped_above k n w r u c h.1)) x (two_parts q r t u b c y z)

  four_parts : (o p q r : Reach) (s t u v : Shape) (a b c d : Core) → HasShape w o s a → HasShape w p t b → HasShape w q u c → HasShape w r v d
      → (n : ℕ) × (At n o s a × (At n p t b × (At n q u c × At n r v d)))
  four_parts o p q r s t u v a b c d x y z k =
      together (λ n. At n o s a) (λ n. At n p t b × (At n q u c × At n r v d)) (grows o s a)
      (λ m n h. (shaped_above m n w p t b h.0, (shaped_above m n w q u c h.1.0, shaped_above m n w r v d h.1.1))) x (three_parts p q r t u v b c d y z k)

  -- ---- ways into values

  way_together : (types : Types) (reach : Reach) (way : Way) (cs : List Core) (s : Shape) (M : List Core → Shape → Type 0)
      (N : ℕ → List Core → Shape → Type 0)
      → ((ds : List Core) (u : Shape) → Grows (λ n. N n ds u)) → ((ds : List Core) (u : Shape) → M ds u → (n : ℕ) × N n ds u)
      → WayLeads types (HasShape w reach) way cs s M → (n : ℕ) × WayLeads types (At n reach) way cs s (N n)
  way_together types reach (Y.Field i k) cs s M N g f h =
      let x = f cs _ h.6 in
      (x.0, (h.0, h.1, h.2, h.3, h.4, h.5, x.1))
  way_together types reach Y.Item [] s M N g f h = absurd h
  way_together types reach Y.Item (i ∷ cs) s M N g f h =
      let x = together (λ n. At n reach V.Int i) (λ n. N n cs h.1.0) (grows reach V.Int i) (g cs h.1.0) h.0 (f cs h.1.0 h.1.2) in
      (x.0, (x.1.0, (h.1.0, h.1.1, x.1.1)))
  way_together types reach Y.Slice [] s M N g f h = absurd h
  way_together types reach Y.Slice (a ∷ []) s M N g f h = absurd h
  way_together types reach Y.Slice (a ∷ b ∷ cs) s M N g f h =
      let x = together (λ n. At n reach V.Int b) (λ n. N n cs V.Bits) (grows reach V.Int b) (g cs V.Bits) h.1 (f cs V.Bits h.3) in
      let y = together (λ n. At n reach V.Int a) (λ n. At n reach V.Int b × N n cs V.Bits) (grows reach V.Int a)
      (λ k n e. (shaped_above k n w reach V.Int b e.0, g cs V.Bits k n e.1)) h.0 x in
      (y.0, (y.1.0, y.1.1.0, h.2, y.1.1.1))

  suffixes_together : (reach : Reach) (ss : List Suffix) (cs : List Core) (s t : Shape) → SuffixesHave reach (HasShape w reach) ss cs s t
      → (n : ℕ) × SuffixesHave reach (At n reach) ss cs s t
  suffixes_together reach [] [] s t h = (0, h)
  suffixes_together reach [] (c ∷ cs) s t h = (0, h)
  suffixes_together reach (x ∷ ss) cs s t h =
      way_together reach.types reach x.way cs s (λ ds u. SuffixesHave reach (HasShape w reach) ss ds u t)
      (λ n ds u. SuffixesHave reach (At n reach) ss ds u t)
      (λ ds u k n e. suffixes_more reach (At n reach) (At (k + n) reach) (λ q c z. shaped_above k n w reach q c z) ss ds u t e)
      (λ ds u e. suffixes_together reach ss ds u t e) h

  leads_together : (types : Types) (reach : Reach) (ss : List Suffix) (cs rest : List Core) (s t : Shape)
      → SuffixesLead types (HasShape w reach) ss cs rest s t → (n : ℕ) × SuffixesLead types (At n reach) ss cs rest s t
  leads_together types reach [] cs rest s t h = (0, h)
  leads_together types reach (x ∷ ss) cs rest s t h =
      way_together types reach x.way cs s (λ ds u. SuffixesLead types (HasShape w reach) ss ds rest u t)
      (λ n ds u. SuffixesLead types (At n reach) ss ds rest u t)
      (λ ds u k n e. leads_more types (At n reach) (At (k + n) reach) (λ q c z. shaped_above k n w reach q c z) ss ds rest u t e)
      (λ ds u e. leads_together types reach ss ds rest u t e) h

  -- ---- targets

  abbrev TargetAt : ℕ → ℕ → Reach → Targeted
  TargetAt d n reach = TargetHas d (At n reach) w reach

  target_grows : (d : ℕ) (reach : Reach) (is_base : Bool) (s : Shape) (answer : Option Shape) (x : Target) (cs rest : List Core)
      → Grows (λ n. TargetAt d n reach is_base s answer x cs rest)
  target_grows d reach is_base s answer x cs rest k n h =
      target_more d (At n reach) (At (k + n) reach) (λ q c z. shaped_above k n w reach q c z) w reach is_base s answer x cs rest h

  abbrev TargetsTogether : ℕ → Reach → Type 0
  TargetsTogether d reach =
      (is_base : Bool) (s : Shape) (answer : Option Shape) (x : Target) (cs rest : List Core)
      → TargetHas d (HasShape w reach) w reach is_base s answer x cs rest
      → (n : ℕ) × TargetAt d n reach is_base s answer x cs rest

  targets_together : (d : ℕ) (reach : Reach) → TargetsTogether d reach → (ss : List Shape) (xs : List Target) (cs rest : List Core)
      → EachTargeted (TargetHas d (HasShape w reach) w reach) ss xs cs rest → (n : ℕ) × EachTargeted (TargetAt d n reach) ss xs cs rest
  targets_together d reach f [] [] cs rest h = (0, h)
  targets_together d reach f [] (x ∷ xs) cs rest h = absurd h
  targets_together d reach f (s ∷ ss) [] cs rest h = absurd h
  targets_together d reach f (s ∷ ss) (x ∷ xs) cs rest h =
      let y = together (λ n. TargetAt d n reach false s None x cs h.0) (λ n. EachTargeted (TargetAt d n reach) ss xs h.0 rest)
      (target_grows d reach false s None x cs h.0)
      (λ k n e. targets_more (TargetAt d n reach) (TargetAt d (k + n) reach)
      (λ b q a z ds more o. target_grows d reach b q a z ds more k n o) ss xs h.0 rest e)
      (f false s None x cs h.0 h.1) (targets_together d reach f ss xs h.0 rest h.2) in
      (y.0, (h.0, y.1.0, y.1.1))

  target_kind_together : (d : ℕ) (reach : Reach) → TargetsTogether d reach
      → (kind : TargetKind) (xs : List Target) (is_base : Bool) (s : Shape) (answer : Option Shape)
      (cs rest : List Core) → TargetKindHas (TargetHas d (HasShape w reach) w reach) (HasShape w reach) w reach kind xs is_base s answer cs rest
      → (n : ℕ) × TargetKindHas (TargetAt d n reach) (At n reach) w reach kind xs is_base s answer cs rest
  target_kind_together d reach f (T.Variable name) [] is_base s answer cs rest h = (0, h)
  target_kind_together d reach f (T.Register r) [] is_base s answer cs rest h = (0, h)
  target_kind_together d reach f (T.Call n reader writer) [] is_base s answer cs rest h =
      let x = all_together reach h.1 h.0 h.4 in
      (x.0, (h.0, h.1, h.2, h.3, x.1, h.5, h.6))
  target_kind_together d reach f T.Tuple xs false s answer cs rest h =
      let x = targets_together d reach f h.0 xs cs rest h.3 in
      (x.0, (h.0, h.1, h.2, x.1))
  target_kind_together d reach f (T.Part suffixes) (base ∷ []) is_base s answer cs rest h =
      let x = together (λ n. TargetAt d n reach true h.0 answer base cs h.1) (λ n. SuffixesLead reach.types (At n reach) suffixes h.1 rest h.0 s)
      (target_grows d reach true h.0 answer base cs h.1)
      (λ k n e. leads_more reach.types (At n reach) (At (k + n) reach) (λ q c z. shaped_above k n w reach q c z) suffixes h.1 rest h.0 s e)
      (f true h.0 answer base cs h.1 h.2) (leads_together reach.types reach suffixes h.1 rest h.0 s h.3) in
      (x.0, (h.0, h.1, x.1.0, x.1.1))
  target_kind_together d reach f kind xs is_base s answer cs rest h = absurd h

  target_together : (d : ℕ) (reach : Reach) → TargetsTogether d reach
  target_together zero reach is_base s answer x cs rest h = absurd h
  target_together (suc d) reach is_base s answer x cs rest h =
      target_kind_together d reach (target_together d reach) (out-Target x).kind (out-Target x).parts is_base s answer cs rest h

  assign_together : (reach : Reach) (s : Shape) (xs : List Target) (cs : List Core) → AssignHas (HasShape w reach) w reach s xs cs
      → (n : ℕ) × AssignHas (At n reach) w reach s xs cs
  assign_together reach s [] [] h = absurd h
  assign_together reach s [] (c ∷ []) h = h
  assign_together reach s [] (c ∷ d ∷ cs) h = absurd h
  assign_together reach s (x ∷ xs) cs h =
      let y = together (λ n. TargetAt h.0 n reach false h.1 (Some s) x cs h.3) (λ n. AssignHas (At n reach) w reach h.2 xs h.3)
      (target_grows h.0 reach false h.1 (Some s) x cs h.3)
      (λ k n e. assign_more (At n reach) (At (k + n) reach) (λ q c z. shaped_above k n w reach q c z) w reach h.2 xs h.3 e)
      (target_together h.0 reach false h.1 (Some s) x cs h.3 h.4) (assign_together reach h.2 xs h.3 h.6) in
      (y.0, (h.0, h.1, h.2, h.3, y.1.0, h.5, y.1.1))

  -- ---- arms, statements and kinds

  arms_grow : (reach : Reach) (ss : List Shape) (s : Shape) (arms : List Arm) (cs : List Core) → Grows (λ n. ArmsHave (At n) w reach ss s arms cs)
  arms_grow reach ss s arms cs k n h = arms_more (At n) (At (k + n)) (λ r q c x. shaped_above k n w r q c x) w reach ss s arms cs h

  arms_together : (reach : Reach) (ss : List Shape) (s : Shape) (arms : List Arm) (cs : List Core) → ArmsHave (HasShape w) w reach ss s arms cs
      → (n : ℕ) × ArmsHave (At n) w reach ss s arms cs
  arms_together reach ss s [] [] h = (0, tt)
  arms_together reach ss s [] (c ∷ cs) h = absurd h
  arms_together reach ss s (arm ∷ arms) [] h = absurd h
  arms_together reach ss s (arm ∷ arms) (c ∷ cs) h =
      let x = together (λ n. At n (under reach h.0.1) s c) (λ n. ArmsHave (At n) w reach ss s arms cs) (grows (under reach h.0.1) s c)
      (arms_grow reach ss s arms cs) h.0.3 (arms_together reach ss s arms cs h.1) in
      (x.0, ((h.0.0, h.0.1, h.0.2, x.1.0), x.1.1))

  block_grows : (reach : Reach) (s : Shape) (ss : List Statement) (cs : List Core) → Grows (λ n. BlockHas (At n) w reach s ss cs)
  block_grows reach s ss cs k n h = block_more (At n) (At (k + n)) (λ r q c x. shaped_above k n w r q c x) w reach s ss cs h

  block_together : (reach : Reach) (s : Shape) (ss : List Statement) (cs : List Core) → BlockHas (HasShape w) w reach s ss cs
      → (n : ℕ) × BlockHas (At n) w reach s ss cs
  block_together reach s [] [] h = (0, h)
  block_together reach s [] (c ∷ []) h = h
  block_together reach s [] (c ∷ d ∷ cs) h = absurd h
  block_together reach s (S.Evaluate ∷ ss) [] h = absurd h
  block_together reach s (S.Define place arm ∷ ss) [] h = absurd h
  block_together reach s (S.Declare name written ∷ ss) [] h = absurd h
  block_together reach s (S.Evaluate ∷ ss) (c ∷ cs) h =
      let x = together (λ n. At n reach h.0.0 c) (λ n. BlockHas (At n) w reach s ss cs) (grows reach h.0.0 c) (block_grows reach s ss cs) h.0.1
      (block_together reach s ss cs h.1) in
      (x.0, ((h.0.0, x.1.0), x.1.1))
  block_together reach s (S.Define place arm ∷ ss) (c ∷ cs) h =
      let x = together (λ n. At n reach h.0 c) (λ n. BlockHas (At n) w (under reach h.2) s ss cs) (grows reach h.0 c)
      (block_grows (under reach h.2) s ss cs) h.3 (block_together (under reach h.2) s ss cs h.5) in
      (x.0, (h.0, h.1, h.2, x.1.0, h.4, x.1.1))
  block_together reach s (S.Declare name written ∷ ss) (c ∷ cs) h =
      let inner = under reach (variable name h.0 ∷ []) in
      let x = together (λ n. At n reach h.0 c) (λ n. BlockHas (At n) w inner s ss cs) (grows reach h.0 c) (block_grows inner s ss cs) h.1
      (block_together inner s ss cs h.2) in
      (x.0, (h.0, x.1.0, x.1.1))

  part_together : (reach : Reach) (q s : Shape) (suffixes : List Suffix) (a : Core) (cs : List Core) → HasShape w reach q a
      → SuffixesHave reach (HasShape w reach) suffixes cs q s → (n : ℕ) × (At n reach q a × SuffixesHave reach (At n reach) suffixes cs q s)
  part_together reach q s suffixes a cs h k =
      together (λ n. At n reach q a) (λ n. SuffixesHave reach (At n reach) suffixes cs q s) (grows reach q a)
      (λ m n e. suffixes_more reach (At n reach) (At (m + n) reach) (λ t c z. shaped_above m n w reach t c z) suffixes cs q s e) h
      (suffixes_together reach suffixes cs q s k)

  pub kind_together : (reach : Reach) (s : Shape) (kind : Kind) (cs : List Core) → KindHas (HasShape w) w reach s kind cs
      → (n : ℕ) × KindHas (At n) w reach s kind cs
  kind_together reach s (K.Constant literal) [] h = (0, h)
  kind_together reach s (K.Local name) [] h = (0, h)
  kind_together reach s (K.Variable name) [] h = (0, h)
  kind_together reach s (K.TopLevel i) [] h = (0, h)
  kind_together reach s (K.Register r) [] h = (0, h)
  kind_together reach s (K.Call callee) cs h =
      let x = all_together reach h.0 cs h.1 in
      (x.0, (h.0, x.1, h.2))
  kind_together reach s K.And (a ∷ b ∷ []) h =
      let x = two_parts reach reach V.Bool V.Bool a b h.1 h.2 in
      (x.0, (h.0, x.1.0, x.1.1))
  kind_together reach s K.Or (a ∷ b ∷ []) h =
      let x = two_parts reach reach V.Bool V.Bool a b h.1 h.2 in
      (x.0, (h.0, x.1.0, x.1.1))
  kind_together reach s (K.Cast written) (a ∷ []) h = h
  kind_together reach s K.Tuple cs h =
      let x = all_together reach h.0 cs h.2 in
      (x.0, (h.0, h.1, x.1))
  kind_together reach s (K.Vector item) cs h =
      let x = each_together reach h.0 cs h.2 in
      (x.0, (h.0, h.1, x.1))
  kind_together reach s (K.List item) cs h =
      let x = each_together reach h.0 cs h.2 in
      (x.0, (h.0, h.1, x.1))
  kind_together reach s (K.Cons item) (a ∷ b ∷ []) h =
      let x = two_parts reach reach h.0 s a b h.2 h.3 in
      (x.0, (h.0, h.1, x.1.0, x.1.1))
  kind_together reach s (K.Struct i places) cs h =
      let x = all_together reach h.2 cs h.8 in
      (x.0, (h.0, h.1, h.2, h.3, h.4, h.5, h.6, h.7, x.1))
  kind_together reach s (K.With i places) (a ∷ cs) (inl e) = (e.1.0, inl (e.0, e.1.1, e.2))
  kind_together reach s (K.With i places) (a ∷ cs) (inr h) =
      let x = together (λ n. At n reach s a) (λ n. AllHave (At n reach) h.2 cs) (grows reach s a) (all_grow reach h.2 cs) h.5
      (all_together reach h.2 cs h.7) in
      (x.0, inr (h.0, h.1, h.2, h.3, h.4, x.1.0, h.6, x.1.1))
  kind_together reach s (K.Part suffixes) (a ∷ cs) h =
      let x = part_together reach h.0 s suffixes a cs h.1 h.2 in
      (x.0, (h.0, x.1.0, x.1.1))
  kind_together reach s K.WithItem (a ∷ b ∷ c ∷ []) (inl e) = (e.1.0, inl (e.0, e.1.1, e.2))
  kind_together reach s K.WithItem (a ∷ b ∷ c ∷ []) (inr h) =
      let x = three_parts reach reach reach s V.Int h.2.0 a b c h.0 h.1 h.2.2 in
      (x.0, inr (x.1.0, x.1.1.0, (h.2.0, h.2.1, x.1.1.1)))
  kind_together reach s K.WithSlice (a ∷ b ∷ c ∷ d ∷ []) (inl e) = (e.1.0, inl (e.0, e.1.1, e.2))
  kind_together reach s K.WithSlice (a ∷ b ∷ c ∷ d ∷ []) (inr h) =
      let x = four_parts reach reach reach reach s V.Int V.Int V.Bits a b c d h.1 h.2 h.3 h.4 in
      (x.0, inr (h.0, x.1.0, x.1.1.0, x.1.1.1.0, x.1.1.1.1))
  kind_together reach s (K.SizeOf number numbers) [] h = (0, h)
  kind_together reach s (K.Constraint c numbers) [] h = (0, h)
  kind_together reach s (K.Assign targets) cs h = assign_together reach s targets cs h
  kind_together reach s (K.Block ss) cs h = block_together reach s ss cs h
  kind_together reach s (K.Let arm) (a ∷ b ∷ []) h =
      let x = two_parts reach (under reach h.2) h.0 s a b h.3 h.5 in
      (x.0, (h.0, h.1, h.2, x.1.0, h.4, x.1.1))
  kind_together reach s (K.Var name written) (a ∷ b ∷ []) h =
      let x = two_parts reach (under reach (variable name h.0 ∷ [])) h.0 s a b h.1 h.2 in
      (x.0, (h.0, x.1.0, x.1.1))
  kind_together reach s (K.If of) (a ∷ b ∷ []) h =
      let x = two_parts reach reach V.Bool V.Unit a b h.1 h.2 in
      (x.0, (h.0, x.1.0, x.1.1))
  kind_together reach s (K.If of) (a ∷ b ∷ c ∷ []) h =
      let x = three_parts reach reach reach V.Bool s s a b c h.0 h.1 h.2 in
      (x.0, (x.1.0, x.1.1.0, x.1.1.1))
  kind_together reach s (K.Match arms of) (a ∷ cs) h =
      let x = together (λ n. At n reach h.0 a) (λ n. ArmsHave (At n) w reach (h.0 ∷ []) s arms cs) (grows reach h.0 a)
      (arms_grow reach (h.0 ∷ []) s arms cs) h.1 (arms_together reach (h.0 ∷ []) s arms cs h.2) in
      (x.0, (h.0, x.1.0, x.1.1))
  kind_together reach s (K.Try arms of) (a ∷ cs) h =
      let x = together (λ n. At n reach s a) (λ n. ArmsHave (At n) w reach (h.0 ∷ []) s arms cs) (grows reach s a)
      (arms_grow reach (h.0 ∷ []) s arms cs) h.2 (arms_together reach (h.0 ∷ []) s arms cs h.3) in
      (x.0, (h.0, h.1, x.1.0, x.1.1))
  kind_together reach s (K.Clauses arms) cs h =
      let x = arms_together reach h.0 s arms cs h.2 in
      (x.0, (h.0, h.1, x.1))
  kind_together reach s K.When (a ∷ b ∷ []) h = two_parts reach reach V.Bool s a b h.0 h.1
  kind_together reach s (K.Foreach name way) (a ∷ b ∷ c ∷ body ∷ []) h =
      let inner = under reach (constant name V.Int ∷ []) in
      let x = four_parts reach reach reach inner V.Int V.Int V.Int h.4.0 a b c body h.1 h.2 h.3 h.4.1 in
      (x.0, (h.0, x.1.0, x.1.1.0, x.1.1.1.0, (h.4.0, x.1.1.1.1)))
  kind_together reach s K.While (m ∷ c ∷ b ∷ []) h =
      let x = three_parts reach reach reach V.Int V.Bool h.3.0 m c b h.1 h.2 h.3.1 in
      (x.0, (h.0, x.1.0, x.1.1.0, (h.3.0, x.1.1.1)))
  kind_together reach s K.Repeat (m ∷ b ∷ c ∷ []) h =
      let x = three_parts reach reach reach V.Int V.Bool h.3.0 m c b h.1 h.2 h.3.1 in
      (x.0, (h.0, x.1.0, x.1.1.0, (h.3.0, x.1.1.1)))
  kind_together reach s K.Return (a ∷ []) h = (h.2.0, (h.0, h.1, h.2.1))
  kind_together reach s K.Throw (a ∷ []) h = (h.2.0, (h.0, h.1, h.2.1))
  kind_together reach s K.Exit (a ∷ []) h = (h.1.0, (h.0, h.1.1))
  kind_together reach s (K.Assert text) (a ∷ []) h = (h.1.0, (h.0, h.1.1))
  kind_together reach s kind cs h = absurd h
