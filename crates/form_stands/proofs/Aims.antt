-- Targets of assignments: names, tuples, and parts of what is there.
use Rattle.std.proofs.Common.{◌≡◌, ◌⊎◌, inl, inr, ℕ, zero, suc, ◌+◌, zero-add, suc-add, Bool, true, false, List, [], ◌∷◌, ◌++◌, append_assoc, ap, sym, ◌∙◌}
use Rattle.std.proofs.Common.{refl, subst, slice_get, Option, Some, None}
use Rattle.std.proofs.lemmas.Bool.{and_parts}
use Rattle.sail_base.specs.declared.place.Place.{Place}
use Rattle.sail_syntax.specs.declared.name.Name.{Name}
use Rattle.sail_types.specs.Shapes.{put}
use Rattle.sail_types.specs.declared.shapes.Shape.{Shape, roll-Shape}
use Rattle.sail_types.specs.declared.shapes.Shape.TheVariants as V
use Rattle.sail_types.specs.declared.shapes.Shape.TheViews.{roll-out-Shape}
use Rattle.sail_types.specs.declared.values.Value.{Value}
use Rattle.sail_core.specs.declared.targets.Target.{Target, out-Target}
use Rattle.sail_core.specs.declared.targets.TargetKind.{TargetKind}
use Rattle.sail_core.specs.declared.targets.TargetKind.TheVariants as T
use Rattle.sail_core.specs.declared.tree.Callee.{Callee}
use Rattle.sail_core.specs.declared.tree.Callee.TheVariants as C
use Rattle.sail_core.specs.declared.tree.Core.{Core}
use Rattle.sail_core.specs.Making.{World}
use Rattle.sail_names.specs.declared.locals.Binding.{Binding}
use Rattle.sail_names.specs.declared.locals.Binding.TheVariants.{Constant, Variable}
use Rattle.sail_names.specs.declared.names.Global.{Global}
use Rattle.sail_names.specs.declared.names.Global.TheVariants as G
use Rattle.sail_names.specs.Known.{is_assigned, is_assigned_as, is_global_value, is_register_seen}
use Rattle.sail_names.specs.Locals as Bound
use Rattle.sail_names.specs.Locals.{binding_of}
use Rattle.shape_joins.specs.Filling.{fills, fill_all}
use Rattle.shape_joins.proofs.Order.{fills_itself, no}
use Rattle.shape_rules.specs.declared.callees.Meant.{Meant}
use Rattle.shape_rules.specs.declared.callees.Meant.TheVariants as M
use Rattle.shape_rules.specs.declared.locals.Local.{Local}
use Rattle.shape_rules.specs.Scopes.{Locals, local_of}
use Rattle.shape_rules.specs.Targets.{Aimed, AimedAll, SuffixPart, TargetPart, Walked, each_aimed, name_aimed, part_aimed, tuple_aimed, walked}
use Rattle.shape_meanings.specs.Counted.{Counts, LocalsCounted, MeantCounted}
use Rattle.shape_meanings.specs.Keeping.{Reach, SeenAs, reach_of}
use Rattle.shape_meanings.specs.Naming.{AreBound, AreKnown, BoundAs, MeantAs}
use Rattle.shape_meanings.specs.Sound.{VarsSettled}
use Rattle.shape_meanings.specs.Whole.{Choice, IsSettled, below, closed}
use Rattle.shape_meanings.proofs.Aims.{tuple_above}
use Rattle.shape_meanings.proofs.CallCounts.{local_counted}
use Rattle.shape_meanings.proofs.Naming.{closed_is, register_closed}
use Rattle.shape_meanings.proofs.Orders.{exact}
use Rattle.shape_meanings.proofs.TargetCounts.{walked_counts}
use Rattle.shape_meanings.proofs.Bases.{tuple_fails}
use Rattle.shape_progress.specs.Rules.{IsUnreached}
use Rattle.shape_progress.specs.TargetRules.{EachTargeted, GivesAs, GivesUnit, SuffixesLead, Takes, TargetHas, TargetKindHas}
use Rattle.shape_progress.proofs.Runs.{goes_as}
use Rattle.shape_stands.specs.Inside.{Inside, Position}
use Rattle.shape_stands.specs.Stands.{AimShaped, AimStands, AimsStand, HasShape, PartAimStands, SuffixesStand}
use Rattle.shape_stands.proofs.Deeper.{target_kind_more, targets_more}
use Rattle.shape_stands.proofs.Standing.{both_empty, target_has}
use Rattle.shape_stands.proofs.Together.{together}
use Rattle.form_stands.proofs.Bases.{BaseHas, BaseHolds, KnownThere, suffixes_lead, ways_lead}

-- as a target of an assignment, as one in a tuple, and as a base of which parts are assigned
abbrev pub TargetStands : Position → Locals → Aimed → Type 0
TargetStands here locals a = AimStands here locals a × PartAimStands here locals a × BaseHolds here locals a

-- ---- names

true_false : {A : Type 0} → true ≡ false → A
true_false h = no (sym h)

-- a `var` of a settled shape; where no value has its shape, nothing under it is reached
variable_at : (here : Position) (locals : Locals) (name : Name) (l : Local) (meant : Option Meant) → local_of name.text locals ≡ Some l
    → IsSettled here.setting.types l.shape → (is_base : Bool) (s : Shape) (answer : Option Shape) → GivesUnit answer → fills l.shape s ≡ true
    → AimShaped here locals is_base s answer (name_aimed name (Some l) meant)
variable_at here locals name l meant there (inl n) is_base s answer gives above = λ registers c w inside slots seen rest.
    let reach : Reach = reach_of here.setting registers c slots in
    inr (
      suc zero,
      target_has w reach (HasShape w reach) zero name.place (T.Variable name.text) [] is_base s answer rest rest
          (l, seen name.text ∙ there, sym (exact l.shape s n.0 above n.1), gives, refl),
    )
variable_at here locals name l meant there (inr none_fits) is_base s answer gives above = λ registers c w inside slots seen rest.
    inl (name.text, l, seen name.text ∙ there, λ v fit. true_false (sym fit ∙ none_fits c v))

variable_known : (here : Position) (locals : Locals) (name : List ℕ) (l : Local) → local_of name locals ≡ Some l → IsSettled here.setting.types l.shape
    → KnownThere here locals l.shape
variable_known here locals name l there (inl n) = λ registers c w inside slots seen. inr n
variable_known here locals name l there (inr none_fits) = λ registers c w inside slots seen.
    inl (name, l, seen name ∙ there, λ v fit. true_false (sym fit ∙ none_fits c v))

register_there : (here : Position) (name : List ℕ) (r : ℕ) (s : Shape) → here.setting.value name ≡ Some (M.Register r s)
    → is_global_value here.names.allowed here.names.number (here.names.known.value name) ≡ true
    → (registers : List Shape) (c : Choice) (w : World Value) → Inside here registers c w → (slice_get registers r ≡ Some s) × (closed s ≡ true)
register_there here name r s is h registers c w inside =
    let there = inside.registers_there name r s is h in
    (there, register_closed registers r s inside.registers_closed there)

register_at : (here : Position) (locals : Locals) (name : Name) (r : ℕ) (t : Shape) → here.setting.value name.text ≡ Some (M.Register r t)
    → is_global_value here.names.allowed here.names.number (here.names.known.value name.text) ≡ true → (is_base : Bool) (s : Shape) (answer : Option Shape)
    → GivesUnit answer → fills t s ≡ true → AimShaped here locals is_base s answer (name_aimed name None (Some (M.Register r t)))
register_at here locals name r t is h is_base s answer gives above registers c w inside slots seen rest =
    let reach : Reach = reach_of here.setting registers c slots in
    let there = register_there here name.text r t is h registers c w inside in
    let same : s ≡ t = exact t s 0 above there.1 in
    inr (
      suc zero,
      target_has w reach (HasShape w reach) zero name.place (T.Register r) [] is_base s answer rest rest
          (there.0 ∙ ap (λ u. Some u) (sym (closed_is t c there.1) ∙ ap (put c) (sym same)), gives, refl),
    )

named : (here : Position) (locals : Locals) → VarsSettled here.setting locals → LocalsCounted here.setting.types locals → (name : Name)
    (ol : Option Local) (ob : Option Binding) (g : Option Global) (meant : Option Meant) → local_of name.text locals ≡ ol → BoundAs ob ol
    → is_assigned_as ob g ≡ true → MeantAs here.names g meant → here.setting.value name.text ≡ meant → here.names.known.value name.text ≡ g
    → MeantCounted here.setting.types meant → is_register_seen here.names.allowed ≡ true → TargetStands here locals (name_aimed name ol meant)
named here locals settled fine name (Some l) (Some Variable) g meant there bound h m is same c seen =
    let whole = settled name.text l there bound in (
      λ s above. variable_at here locals name l meant there whole false s (Some V.Unit) refl above,
      λ s above. variable_at here locals name l meant there whole false s None tt above,
      (
        variable_at here locals name l meant there whole true l.shape (Some V.Unit) refl (fills_itself l.shape),
        local_counted here.setting.types locals name.text l fine there,
        variable_known here locals name.text l there whole,
      ),
    )
named here locals settled fine name (Some l) (Some Constant) g meant there bound h m is same c seen = no h
named here locals settled fine name (Some l) None g meant there bound h m is same c seen = absurd bound
named here locals settled fine name None (Some Variable) g meant there bound h m is same c seen = absurd bound
named here locals settled fine name None (Some Constant) g meant there bound h m is same c seen = absurd bound
named here locals settled fine name None None (Some G.Register) meant there bound h m is same c seen =
    let meant_is = is ∙ m.2 in
    let global = ap (is_global_value here.names.allowed here.names.number) same ∙ seen in
    subst (λ x. TargetStands here locals (name_aimed name None x)) (sym m.2) (
      λ s above. register_at here locals name m.0 m.1 meant_is global false s (Some V.Unit) refl above,
      λ s above. register_at here locals name m.0 m.1 meant_is global false s None tt above,
      (
        register_at here locals name m.0 m.1 meant_is global true m.1 (Some V.Unit) refl (fills_itself m.1),
        subst (MeantCounted here.setting.types) m.2 c,
        λ registers c w inside slots seen. inr (0, (register_there here name.text m.0 m.1 meant_is global registers c w inside).1),
      ),
    )
named here locals settled fine name None None g meant there bound h m is same c seen = no h

pub name_aim_stands : (here : Position) (locals : Locals) (bound : Bound.Locals) → AreKnown here.setting here.names → AreBound bound locals
    → VarsSettled here.setting locals → LocalsCounted here.setting.types locals → (name : Name) → is_assigned here.names bound name.text ≡ true
    → is_register_seen here.names.allowed ≡ true
    → TargetStands here locals (name_aimed name (local_of name.text locals) (here.setting.value name.text))
name_aim_stands here locals bound known are settled fine name h seen =
    named here locals settled fine name (local_of name.text locals) (binding_of name.text bound) (here.names.known.value name.text)
    (here.setting.value name.text) refl (are name.text) h (known.values name.text) refl refl (known.counts.values name.text) seen

-- ---- targets of any depth, and where it doesn't count what they give

target_deeper : (n : ℕ) (P : Shape → Core → Type 0) (w : World Value) (reach : Reach) (is_base : Bool) (s : Shape) (answer : Option Shape) (target : Target)
    (cs rest : List Core) → TargetHas n P w reach is_base s answer target cs rest → TargetHas (suc n) P w reach is_base s answer target cs rest
target_deeper zero P w reach is_base s answer target cs rest h = absurd h
target_deeper (suc n) P w reach is_base s answer target cs rest h =
    target_kind_more (TargetHas n P w reach) (TargetHas (suc n) P w reach) (target_deeper n P w reach) P P (λ t c k. k) w reach (out-Target target).kind
    (out-Target target).parts is_base s answer cs rest h

target_above : (k n : ℕ) (P : Shape → Core → Type 0) (w : World Value) (reach : Reach) (is_base : Bool) (s : Shape) (answer : Option Shape) (target : Target)
    (cs rest : List Core) → TargetHas n P w reach is_base s answer target cs rest → TargetHas (k + n) P w reach is_base s answer target cs rest
target_above zero n P w reach is_base s answer target cs rest h =
    subst (λ m. TargetHas m P w reach is_base s answer target cs rest) (sym (zero-add n)) h
target_above (suc k) n P w reach is_base s answer target cs rest h =
    subst (λ m. TargetHas m P w reach is_base s answer target cs rest) (sym (suc-add k n))
    (target_deeper (k + n) P w reach is_base s answer target cs rest (target_above k n P w reach is_base s answer target cs rest h))

takes_any : (w : World Value) (reach : Reach) (ss : List Shape) (s : Shape) (callee : Callee) → Takes w reach ss (Some s) callee
    → Takes w reach ss None callee
takes_any w reach ss s (C.Row row) h = (h.0, h.1, h.2, h.3, h.4, λ v fit. tt)
takes_any w reach ss s (C.Constructor u k) h = λ vs fit. tt
takes_any w reach ss s (C.Function f) h = λ place vs fit.
    goes_as reach w (GivesAs reach (Some s)) (GivesAs reach None) (w.call place f None vs) (λ v k. tt) (h place vs fit)
takes_any w reach ss s (C.Converts d) h = (
  h.0,
  h.1,
  λ v fit. goes_as reach w (GivesAs reach (Some s)) (GivesAs reach None) (w.enter d v) (λ u k. tt) (h.2 v fit),
)
takes_any w reach ss s callee h = absurd h

abbrev Loosened : Bool → Shape → Shape → (Bool → Shape → Option Shape → Target → List Core → List Core → Type 0) → Type 0
Loosened is_base s t Q = (target : Target) (cs rest : List Core) → Q is_base s (Some t) target cs rest → Q is_base s None target cs rest

kind_any : (Q : Bool → Shape → Option Shape → Target → List Core → List Core → Type 0) → ((is_base : Bool) (s t : Shape) → Loosened is_base s t Q)
    → (P : Shape → Core → Type 0) (w : World Value) (reach : Reach) (kind : TargetKind) (targets : List Target) (is_base : Bool) (s t : Shape)
    (cs rest : List Core)
    → TargetKindHas Q P w reach kind targets is_base s (Some t) cs rest → TargetKindHas Q P w reach kind targets is_base s None cs rest
kind_any Q f P w reach (T.Variable name) [] is_base s t cs rest h = (h.0, h.1, h.2, tt, h.4)
kind_any Q f P w reach (T.Register r) [] is_base s t cs rest h = (h.0, tt, h.2)
kind_any Q f P w reach (T.Call n reader writer) [] is_base s t cs rest h =
    (h.0, h.1, h.2, h.3, h.4, takes_any w reach (h.1 ++ s ∷ []) t writer.callee h.5, h.6)
kind_any Q f P w reach T.Tuple targets false s t cs rest h = (h.0, h.1, tt, h.3)
kind_any Q f P w reach (T.Part suffixes) (base ∷ []) is_base s t cs rest h = (h.0, h.1, f true h.0 t base cs h.1 h.2, h.3)
kind_any Q f P w reach kind targets is_base s t cs rest h = absurd h

target_any : (n : ℕ) (P : Shape → Core → Type 0) (w : World Value) (reach : Reach) (is_base : Bool) (s t : Shape)
    → Loosened is_base s t (TargetHas n P w reach)
target_any zero P w reach is_base s t target cs rest h = absurd h
target_any (suc n) P w reach is_base s t target cs rest h =
    kind_any (TargetHas n P w reach) (target_any n P w reach) P w reach (out-Target target).kind (out-Target target).parts is_base s t cs rest h

-- ---- tuples

abbrev Targets : Reach → World Value → List Shape → List Target → List Core → List Core → Type 0
Targets reach w ss targets cs rest = IsUnreached reach ⊎ ((n : ℕ) × EachTargeted (TargetHas n (HasShape w reach) w reach) ss targets cs rest)

one_more : (reach : Reach) (w : World Value) (s : Shape) (ss : List Shape) (target : Target) (targets : List Target) (cs left rest : List Core)
    → IsUnreached reach ⊎ ((n : ℕ) × TargetHas n (HasShape w reach) w reach false s None target cs left) → Targets reach w ss targets left rest
    → Targets reach w (s ∷ ss) (target ∷ targets) cs rest
one_more reach w s ss target targets cs left rest (inl u) others = inl u
one_more reach w s ss target targets cs left rest (inr h) (inl u) = inl u
one_more reach w s ss target targets cs left rest (inr h) (inr k) =
    let P : Shape → Core → Type 0 = HasShape w reach in
    let x = together (λ n. TargetHas n P w reach false s None target cs left) (λ n. EachTargeted (TargetHas n P w reach) ss targets left rest)
    (λ j n d. target_above j n P w reach false s None target cs left d)
    (λ j n d. targets_more (TargetHas n P w reach) (TargetHas (j + n) P w reach)
    (λ is_base q answer y ds ts f. target_above j n P w reach is_base q answer y ds ts f) ss targets left rest d) h k in
    inr (x.0, (left, x.1.0, x.1.1))

each_targeted : (ts : List TargetPart) (here : Position) (locals : Locals) (ss : List Shape) → AimsStand here locals ts
    → (each_aimed ts here.setting locals).faults ≡ [] → fill_all (each_aimed ts here.setting locals).shapes ss ≡ true
    → (registers : List Shape) (c : Choice) (w : World Value) → Inside here registers c w → (slots : List Local) → SeenAs slots locals → (rest : List Core)
    → Targets (reach_of here.setting registers c slots) w ss (each_aimed ts here.setting locals).targets
    ((each_aimed ts here.setting locals).parts ++ rest) rest
each_targeted [] here locals [] stand e above registers c w inside slots seen rest = inr (zero, refl)
each_targeted [] here locals (s ∷ ss) stand e above registers c w inside slots seen rest = no above
each_targeted (t ∷ ts) here locals [] stand e above registers c w inside slots seen rest = no above
each_targeted (t ∷ ts) here locals (s ∷ ss) stand e above registers c w inside slots seen rest =
    let reach : Reach = reach_of here.setting registers c slots in
    let a : Aimed = t.aim here.setting locals in
    let more : AimedAll = each_aimed ts here.setting locals in
    let h = both_empty a.faults more.faults e in
    let k = and_parts (fills a.shape s) (fill_all more.shapes ss) above in
    subst (λ cs. Targets reach w (s ∷ ss) (a.target ∷ more.targets) cs rest) (sym (append_assoc a.parts more.parts rest))
    (one_more reach w s ss a.target more.targets (a.parts ++ (more.parts ++ rest)) (more.parts ++ rest) rest
    (stand.0 h.0 s k.0 registers c w inside slots seen (more.parts ++ rest))
    (each_targeted ts here locals ss stand.1 h.1 k.1 registers c w inside slots seen rest))

pub tuple_aim_stands : (here : Position) (locals : Locals) (place : Place) (ts : List TargetPart) → AimsStand here locals ts
    → (tuple_aimed place (each_aimed ts here.setting locals)).faults ≡ []
    → AimStands here locals (tuple_aimed place (each_aimed ts here.setting locals))
    × PartAimStands here locals (tuple_aimed place (each_aimed ts here.setting locals))
tuple_aim_stands here locals place ts stand e =
    (λ s above. tuple_at s (Some V.Unit) refl above, λ s above. tuple_at s None tt above)
  where
    all : AimedAll
    all = each_aimed ts here.setting locals

    tuple_at : (s : Shape) (answer : Option Shape) → GivesUnit answer → fills (V.Tuple all.shapes) s ≡ true
        → AimShaped here locals false s answer (tuple_aimed place all)
    tuple_at s answer gives above registers c w inside slots seen rest =
        let is = tuple_above all.shapes s above in
        by_targets is.0 (sym (roll-out-Shape s) ∙ ap roll-Shape is.1 ∙ V.rolls-Tuple is.0)
        (each_targeted ts here locals is.0 stand e is.2 registers c w inside slots seen rest)
      where
        by_targets : (ss : List Shape) → s ≡ V.Tuple ss
            → Targets (reach_of here.setting registers c slots) w ss all.targets (all.parts ++ rest) rest
            → IsUnreached (reach_of here.setting registers c slots)
            ⊎ ((n : ℕ) × TargetHas n (HasShape w (reach_of here.setting registers c slots)) w (reach_of here.setting registers c slots) false s answer
            (tuple_aimed place all).target (all.parts ++ rest) rest)
        by_targets ss same (inl u) = inl u
        by_targets ss same (inr h) =
            let reach : Reach = reach_of here.setting registers c slots in
            inr (
              suc h.0,
              target_has w reach (HasShape w reach) h.0 place T.Tuple all.targets false s answer (all.parts ++ rest) rest (ss, same, gives, h.1),
            )

-- ---- parts

-- a base, and what its suffixes lead to
part_has : (w : World Value) (reach : Reach) (place : Place) (base : Aimed) (ways : Walked) (is_base : Bool) (s : Shape) (answer : Option Shape) (n : ℕ)
    (rest : List Core)
    → TargetHas n (HasShape w reach) w reach true base.shape answer base.target (base.parts ++ (ways.parts ++ rest)) (ways.parts ++ rest)
    → SuffixesLead reach.types (HasShape w reach) ways.suffixes (ways.parts ++ rest) rest base.shape s
    → TargetHas (suc n) (HasShape w reach) w reach is_base s answer (part_aimed place base ways).target ((part_aimed place base ways).parts ++ rest) rest
part_has w reach place base ways is_base s answer n rest h leads =
    let P : Shape → Core → Type 0 = HasShape w reach in
    target_has w reach P n place (T.Part ways.suffixes) (base.target ∷ []) is_base s answer ((base.parts ++ ways.parts) ++ rest) rest (
      base.shape,
      ways.parts ++ rest,
      subst (λ cs. TargetHas n P w reach true base.shape answer base.target cs (ways.parts ++ rest)) (sym (append_assoc base.parts ways.parts rest)) h,
      leads,
    )

module _ (here : Position) (locals : Locals) (counts : Counts here.setting) (place first at_base : Place) (base : Aimed) (x : SuffixPart)
    (xs : List SuffixPart) (stand : SuffixesStand here locals (x ∷ xs))
    (e : (walked (x ∷ xs) here.setting locals first at_base base.shape).faults ≡ []) where
  abbrev ways : Walked
  ways = walked (x ∷ xs) here.setting locals first at_base base.shape

  part_at : BaseHolds here locals base → (is_base : Bool) (s : Shape) (answer : Option Shape)
      → ((n : ℕ) (P : Shape → Core → Type 0) (w : World Value) (reach : Reach) (target : Target) (cs rest : List Core)
      → TargetHas n P w reach true base.shape (Some base.answer) target cs rest → TargetHas n P w reach true base.shape answer target cs rest)
      → fills ways.shape s ≡ true → AimShaped here locals is_base s answer (part_aimed place base ways)
  part_at holds is_base s answer loosen above registers c w inside slots seen rest =
      both (holds.2 registers c w inside slots seen) (holds.0 registers c w inside slots seen (ways.parts ++ rest))
    where
      reach : Reach
      reach = reach_of here.setting registers c slots

      both : IsUnreached reach ⊎ ((n : ℕ) × (below n base.shape ≡ true))
          → IsUnreached reach ⊎ ((n : ℕ) × TargetHas n (HasShape w reach) w reach true base.shape (Some base.answer) base.target
          (base.parts ++ (ways.parts ++ rest)) (ways.parts ++ rest))
          → IsUnreached reach ⊎ ((n : ℕ) × TargetHas n (HasShape w reach) w reach is_base s answer (part_aimed place base ways).target
          ((part_aimed place base ways).parts ++ rest) rest)
      both (inl u) there = inl u
      both (inr n) (inl u) = inl u
      both (inr n) (inr h) =
          let l = suffixes_lead (x ∷ xs) here.setting inside.fields_below counts locals first at_base base.shape n.0 n.1 holds.1 e in
          let leads = ways_lead (x ∷ xs) here locals first at_base base.shape stand l.0 e registers c w inside slots seen rest in
          inr (
            suc h.0,
            part_has w reach place base ways is_base s answer h.0 rest
                (loosen h.0 (HasShape w reach) w reach base.target (base.parts ++ (ways.parts ++ rest)) (ways.parts ++ rest) h.1)
                (subst (SuffixesLead here.setting.types (HasShape w reach) ways.suffixes (ways.parts ++ rest) rest base.shape)
                (sym (exact ways.shape s n.0 above l.1)) leads),
          )

  part_known : BaseHolds here locals base → KnownThere here locals ways.shape
  part_known holds registers c w inside slots seen = by_base (holds.2 registers c w inside slots seen)
    where
      by_base : IsUnreached (reach_of here.setting registers c slots) ⊎ ((n : ℕ) × (below n base.shape ≡ true))
          → IsUnreached (reach_of here.setting registers c slots) ⊎ ((n : ℕ) × (below n ways.shape ≡ true))
      by_base (inl u) = inl u
      by_base (inr n) =
          inr (n.0, (suffixes_lead (x ∷ xs) here.setting inside.fields_below counts locals first at_base base.shape n.0 n.1 holds.1 e).1)

  -- a part of a base that isn't a tuple
  pub part_aim_stands : BaseHas here locals base → TargetStands here locals (part_aimed place base ways)
  part_aim_stands (inr tuple) = tuple_fails here.setting locals first at_base x xs base.shape tuple e
  part_aim_stands (inl holds) = (
    λ s above. part_at holds false s (Some base.answer) (λ n P w reach target cs rest h. h) above,
    λ s above. part_at holds false s None (λ n P w reach target cs rest h. target_any n P w reach true base.shape base.answer target cs rest h) above,
    (
      part_at holds true ways.shape (Some base.answer) (λ n P w reach target cs rest h. h) (fills_itself ways.shape),
      walked_counts here.setting counts (x ∷ xs) locals first at_base base.shape holds.1,
      part_known holds,
    ),
  )
