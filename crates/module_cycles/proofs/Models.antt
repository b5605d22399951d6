-- The numbers of cycles in the module of a model.
use Rattle.std.proofs.Common.{◌≡◌, ◌∙◌, ℕ, zero, suc, ◌+◌, ◌-◌, ◌≤◌, Bool, true, false, List, [], ◌∷◌, Option, Some, None, refl, sym, ap, subst, arith}
use Rattle.std.proofs.Common.{eq-eqb, eqb-true}
use Rattle.std.specs.Prelude.{◌&&◌, ◌*◌, ◌/◌, ◌++◌, length, not, nat_eq, nat_le, slice_get, slice_index_or, if◌then◌else◌}
use Rattle.std.proofs.lemmas.Bool.Decides.{nat_tests}
use Rattle.sail_core.specs.Numbers.{Instance}
use Rattle.sail_core.specs.declared.model.Function.{Function}
use Rattle.sail_core.specs.declared.model.CoreModel.{CoreModel}
use Rattle.checked_meaning.specs.Checked.{Noted}
use Rattle.sized_nodes.specs.declared.trees.Lead.{Lead}
use Rattle.sized_nodes.specs.declared.trees.NodeSizes.{NodeSizes}
use Rattle.sized_nodes.specs.declared.trees.NodeSizes.TheVariants as N
use Rattle.sized_nodes.specs.declared.trees.SizedCore.{SizedCore}
use Rattle.sized_nodes.specs.declared.trees.SizedInstance.{SizedInstance}
use Rattle.sized_meanings.specs.Present.{is_noted, is_present, present_lead}
use Rattle.sized_meanings.specs.Sized.{joined_nodes}
use Rattle.jib.specs.declared.code.Module.{Module}
use Rattle.jib.specs.Jib.{cycle_in, cycle_of}
use Rattle.jib.specs.declared.code.Function.{Function as Lowered}
use Rattle.lowered_pieces.specs.Nodes.{awaited_in, function_in, leads_at}
use Rattle.lowered_steps.specs.Setting.{direction_in}
use Rattle.lowered_pieces.specs.Places.{Mapped}
use Rattle.lowered_laws.specs.Modules.{Leads, Made}
use Rattle.lowered_typed.specs.Judging.{turned_in}
use Rattle.lowered_typed.specs.declared.signs.Called.{Called}
use Rattle.jib_lower.specs.Cycles.{number_there, alike, bodies_fall, cycle_at, in_one, instances_fall, leads_fall, mapping_falls, nodes_fall, pair_fits}
use Rattle.jib_lower.specs.Instances.{MadeAt}
use Rattle.jib_lower.specs.Lowered.{FlatFrom}
use Rattle.jib_lower.proofs.Basics.{get_past}
use Rattle.lowered_cycles.specs.Laws.{CyclesStand}
use Rattle.module_cycles.specs.Laws.{OfModel, cycle_by, cycle_there, nodes_by, nodes_of, way_cycle, way_nodes}
use Rattle.module_cycles.proofs.Falls.{turned_falls}
use Rattle.module_cycles.proofs.Ways.{WayThere, way_there}
use Rattle.jib_lower.specs.Crossings.{is_in}
use Rattle.jib_lower.specs.Entering.{mapped_by, place_in}
use Rattle.jib_lower.specs.Order.{made_in}
use Rattle.jib_lower.proofs.Found.{made_there, mapped_at}

none_is : {A X : Type 0} (x : A) → None ≡ Some x → X
none_is x e = cc

some_same : {A : Type 0} (x y : A) → Some x ≡ Some y → x ≡ y
some_same x y e = cc

no : {X : Type 0} → false ≡ true → X
no e = cc

and_left : (a b : Bool) → (a && b) ≡ true → a ≡ true
and_left true b h = refl
and_left false b h = h

and_right : (a b : Bool) → (a && b) ≡ true → b ≡ true
and_right true b h = h
and_right false b h = no h

le_true : (a b : ℕ) → nat_le a b ≡ true → a ≤ b
le_true a b h = grind (arith, nat_tests)

-- ---- one cycle has one number

alike_same : (c d : Option ℕ) → alike c d ≡ true → c ≡ d
alike_same (Some c) (Some d) h = ap Some (eqb-true c d h)
alike_same (Some c) None h = no h
alike_same None (Some d) h = no h
alike_same None None h = refl

one_of : (m n : ℕ) (c d : Option ℕ) → pair_fits m n c d ≡ true → m ≡ n → c ≡ d
one_of m n c d h e = alike_same c d (sym (ap (λ b. if b then alike c d else not (in_one c d)) (eq-eqb m n e)) ∙ h)

all_of : (m n k : ℕ) (c d : Option ℕ) → pair_fits m n c d ≡ true → c ≡ Some k → d ≡ Some k → m ≡ n
all_of m n k c d h ec ed = by (nat_eq m n) refl
  where
    together : in_one c d ≡ true
    together = ap (λ x. in_one x d) ec ∙ ap (in_one (Some k)) ed ∙ eq-eqb k k refl

    by : (b : Bool) → nat_eq m n ≡ b → m ≡ n
    by true e = eqb-true m n e
    by false e = no (sym (ap not together) ∙ sym (ap (λ b. if b then alike c d else not (in_one c d)) e) ∙ h)

-- ---- calls lead down

module _ (numbers : List ℕ) (xs : List SizedInstance) (own : ℕ) where
  fall_behind : (ms ns : List NodeSizes) → nodes_fall numbers xs own ms ≡ true → nodes_fall numbers xs own ns ≡ true
      → nodes_fall numbers xs own (ms ++ ns) ≡ true
  fall_behind [] ns h k = k
  fall_behind (N.Calls j ls ∷ ms) ns h k =
      two (leads_fall numbers xs own ls) (nodes_fall numbers xs own (ms ++ ns)) (and_left (leads_fall numbers xs own ls) (nodes_fall numbers xs own ms) h)
      (fall_behind ms ns (and_right (leads_fall numbers xs own ls) (nodes_fall numbers xs own ms) h) k)
    where
      two : (a b : Bool) → a ≡ true → b ≡ true → (a && b) ≡ true
      two true b h k = k
      two false b h k = h
  fall_behind (N.Makes j i cs ∷ ms) ns h k = fall_behind ms ns h k
  fall_behind (N.Gives g is ∷ ms) ns h k = fall_behind ms ns h k

  joined_fall : (bodies : List (List NodeSizes)) → bodies_fall numbers xs own bodies ≡ true → nodes_fall numbers xs own (joined_nodes bodies) ≡ true
  joined_fall [] h = refl
  joined_fall (b ∷ bs) h =
      fall_behind b (joined_nodes bs) (and_left (nodes_fall numbers xs own b) (bodies_fall numbers xs own bs) h)
      (joined_fall bs (and_right (nodes_fall numbers xs own b) (bodies_fall numbers xs own bs) h))

  leads_there : (nodes : List NodeSizes) (k : ℕ) → nodes_fall numbers xs own nodes ≡ true → leads_fall numbers xs own (leads_at k nodes) ≡ true
  leads_there [] k h = refl
  leads_there (N.Calls j ls ∷ nodes) k h =
      by (nat_eq k j) (leads_there nodes k (and_right (leads_fall numbers xs own ls) (nodes_fall numbers xs own nodes) h))
    where
      by : (b : Bool) → leads_fall numbers xs own (leads_at k nodes) ≡ true → leads_fall numbers xs own (if b then ls else leads_at k nodes) ≡ true
      by true r = and_left (leads_fall numbers xs own ls) (nodes_fall numbers xs own nodes) h
      by false r = r
  leads_there (N.Makes j i cs ∷ nodes) k h = leads_there nodes k h
  leads_there (N.Gives g is ∷ nodes) k h = leads_there nodes k h

  lead_falls : (noted : Noted) (ls : List Lead) (l : Lead) → leads_fall numbers xs own ls ≡ true → present_lead noted ls ≡ Some l
      → cycle_at numbers xs l.instance ≤ own
  lead_falls noted [] l h e = none_is l e
  lead_falls noted (x ∷ ls) l h e =
      by (is_noted noted x.picked) (is_present noted x.picked) e
      (λ q. lead_falls noted ls l (and_right (nat_le (cycle_at numbers xs x.instance) own) (leads_fall numbers xs own ls) h) q)
    where
      by : (b c : Bool) → (if b then (if c then Some x else present_lead noted ls) else None) ≡ Some l
          → (present_lead noted ls ≡ Some l → cycle_at numbers xs l.instance ≤ own) → cycle_at numbers xs l.instance ≤ own
      by false c e r = none_is l e
      by true true e r =
          le_true (cycle_at numbers xs l.instance) own
          (ap (λ (y : Lead). nat_le (cycle_at numbers xs y.instance) own) (sym (some_same x l e))
          ∙ and_left (nat_le (cycle_at numbers xs x.instance) own) (leads_fall numbers xs own ls) h)
      by true false e r = r e

caller_falls : (numbers : List ℕ) (xs rest : List SizedInstance) (p : ℕ) (y : SizedInstance) → instances_fall numbers xs rest ≡ true → slice_get rest p ≡ Some y
    → bodies_fall numbers xs (slice_index_or numbers y.instance.function 0) y.bodies ≡ true
caller_falls numbers xs [] p y h e = none_is y e
caller_falls numbers xs (x ∷ rest) zero y h e =
    let a : SizedInstance → Bool = λ z. bodies_fall numbers xs (slice_index_or numbers z.instance.function 0) z.bodies in
    ap a (sym (some_same x y e)) ∙ and_left (a x) (instances_fall numbers xs rest) h
caller_falls numbers xs (x ∷ rest) (suc p) y h e =
    caller_falls numbers xs rest p y (and_right (bodies_fall numbers xs (slice_index_or numbers x.instance.function 0) x.bodies)
    (instances_fall numbers xs rest) h)
    e

-- ---- directions of mappings

-- what may be called is made, and has this number or a lower one
pub turned_there : (own : ℕ) (o : Option (Option ℕ)) → turned_in own o ≡ true → (c : ℕ) × (o ≡ Some (Some c)) × (c ≤ own)
turned_there own None h = no h
turned_there own (Some None) h = no h
turned_there own (Some (Some c)) h = (c, refl, le_true c own h)

pub none_past : {A : Type 0} (xs : List A) (k : ℕ) → slice_get xs (length xs + k) ≡ None
none_past [] k = refl
none_past (x ∷ xs) k = ap (slice_get (x ∷ xs)) (next (length xs) k) ∙ none_past xs k
  where
    next : (n k : ℕ) → suc n + k ≡ suc (n + k)
    next n k = omega arith

pub back : (n k : ℕ) → n + k - n ≡ k
back n k = omega arith

from_first : (k : ℕ) → 0 + k ≡ k
from_first k = omega arith

-- a direction that has a number of a cycle stands in the order of their functions
pub in_order : (core : CoreModel) (sized : SizedCore) (m : Module) (low : FlatFrom core sized m) (d c : ℕ)
    → slice_get low.model.turned.now d ≡ Some (Some c) → is_in d low.model.order.now ≡ true
in_order core sized m low d c e =
    low.ordered.same d
    ∙ subst (λ k. is_in k (made_in 0 low.model.turned.now) ≡ true) (from_first d) (made_there 0 low.model.turned.now d c e)

-- and this is entered where it is asked
pub entered_at : (core : CoreModel) (sized : SizedCore) (m : Module) (low : FlatFrom core sized m) (d : ℕ) (w : WayThere low.directions d)
    → slice_get low.model.directions.now d ≡ Some (mapped_by core.types (place_in low.model.order.now d) w.at.direction)
entered_at core sized m low d w =
    ap (λ ms. slice_get ms d) low.entered
    ∙ mapped_at core.types low.model.order.now 0 core.directions d w.at.direction
    (sym (ap (λ (z : CoreModel). slice_get z.directions d) low.is.of_core) ∙ ap (slice_get low.model.core.now.directions) (sym w.is_which) ∙ w.at.found)
    ∙ ap (λ n. Some (mapped_by core.types (place_in low.model.order.now n) w.at.direction)) (from_first d)

module _ (core : CoreModel) (sized : SizedCore) (m : Module) (x : Made) (low : FlatFrom core sized m) (of : OfModel core sized m low x) where
  abbrev numbers : List ℕ
  numbers = low.called.cycles

  abbrev turned : List (Option ℕ)
  turned = low.model.turned.now

  abbrev at_place : ℕ → ℕ
  at_place = cycle_there core sized m low

  got_before : (fs more : List Lowered) (i : ℕ) (f : Lowered) → slice_get fs i ≡ Some f → slice_get (fs ++ more) i ≡ Some f
  got_before [] more i f h = none_is f h
  got_before (g ∷ fs) more zero f h = h
  got_before (g ∷ fs) more (suc i) f h = got_before fs more i f h

  -- of what calls of an instance enter
  entered_cycle : (p : ℕ) (y : SizedInstance) → slice_get sized.instances p ≡ Some y
      → cycle_of x.m (x.function p) ≡ slice_index_or numbers y.instance.function 0
  entered_cycle p y e =
      let at : MadeAt low.model low.functions p y = low.instances.each p y (ap (λ (z : SizedCore). slice_get z.instances p) low.is.of_sized ∙ e) in
      let q = low.called.each p y e in
      ap (λ z. cycle_of z (x.function p)) of.module_is ∙ ap (cycle_of m) (of.function p)
      ∙ ap cycle_in (ap (λ fs. slice_get fs (length low.ways + 2 * p)) low.all ∙ get_past low.ways (low.functions ++ low.opened) (2 * p)
      ∙ got_before low.functions low.opened (2 * p) at.called at.called_there)
      ∙ at.made.called_is.cycle ∙ at.headed.cycle_is
      ∙ ap (λ (c : Called). c.cycle) (some_same at.called_is q.0 (sym at.enters ∙ q.1)) ∙ q.2.cycle

  -- what a call leads to is there
  called_there : (p i : ℕ) (a : Instance) (f : Function) → Leads x p a i f
      → (y : SizedInstance) × (slice_get sized.instances a.place ≡ Some y) × (y.instance.function ≡ i)
  called_there p i a f leads = by (slice_get sized.instances a.place) refl
    where
      by : (o : Option SizedInstance) → slice_get sized.instances a.place ≡ o → (y : SizedInstance) × (slice_get sized.instances a.place ≡ Some y)
          × (y.instance.function ≡ i)
      by None e = none_is a.numbers (sym (ap awaited_in e) ∙ sym (of.awaits p a.place) ∙ leads.leads.awaits)
      by (Some y) e = (y, e, sym (ap function_in e) ∙ sym (of.of p a.place) ∙ leads.leads.of)

  is_number : (p i : ℕ) (a : Instance) (f : Function) → Leads x p a i f → cycle_of x.m (x.function a.place) ≡ slice_index_or numbers i 0
  is_number p i a f leads =
      let r = called_there p i a f leads in
      entered_cycle a.place r.0 r.1 ∙ ap (λ n. slice_index_or numbers n 0) r.2

  instance_cycle : (p : ℕ) (y : SizedInstance) → slice_get sized.instances p ≡ Some y → at_place p ≡ slice_index_or numbers y.instance.function 0
  instance_cycle p y e = ap (cycle_by numbers turned (p - length sized.instances)) e

  is_at : (p i : ℕ) (a : Instance) (f : Function) → Leads x p a i f → cycle_of x.m (x.function a.place) ≡ at_place a.place
  is_at p i a f leads =
      let r = called_there p i a f leads in
      entered_cycle a.place r.0 r.1 ∙ sym (instance_cycle a.place r.0 r.1)

  -- the calls of what stands at a place lead to its number or a lower one
  way_falls : (d : ℕ) (o : Option (Option ℕ)) (nodes : Option (List NodeSizes)) → slice_get turned d ≡ o → slice_get sized.mappings (d / 2) ≡ nodes
      → nodes_fall numbers sized.instances (way_cycle o) (way_nodes o nodes) ≡ true
  way_falls d None nodes e f = refl
  way_falls d (Some None) nodes e f = refl
  way_falls d (Some (Some c)) None e f = refl
  way_falls d (Some (Some c)) (Some nodes) e f =
      let h : mapping_falls numbers sized.instances c (slice_get sized.mappings (d / 2)) ≡ true =
      turned_falls core sized numbers d c (ap (λ ts. slice_get ts d) (sym low.called.turned_is) ∙ e) in
      joined_fall numbers sized.instances c (nodes ∷ [])
      (two (nodes_fall numbers sized.instances c nodes) (ap (mapping_falls numbers sized.instances c) (sym f) ∙ h))
    where
      two : (a : Bool) → a ≡ true → (a && true) ≡ true
      two true h = refl
      two false h = h

  place_falls : (p : ℕ) → nodes_fall numbers sized.instances (at_place p) (nodes_of core sized m low p) ≡ true
  place_falls p = by (slice_get sized.instances p) refl
    where
      by : (o : Option SizedInstance) → slice_get sized.instances p ≡ o
          → nodes_fall numbers sized.instances (cycle_by numbers turned (p - length sized.instances) o)
          (nodes_by sized turned (p - length sized.instances) o) ≡ true
      by None e =
          let d : ℕ = p - length sized.instances in
          way_falls d (slice_get turned d) (slice_get sized.mappings (d / 2)) refl refl
      by (Some z) e =
          joined_fall numbers sized.instances (slice_index_or numbers z.instance.function 0) z.bodies
          (caller_falls numbers sized.instances sized.instances p z low.called.fit.falls e)

  falls : (p i : ℕ) (a : Instance) (f : Function) → Leads x p a i f → at_place a.place ≤ at_place p
  falls p i a f leads =
      let nodes : List NodeSizes = nodes_of core sized m low p in
      let r = called_there p i a f leads in
      let here : present_lead leads.leads.noted (leads_at leads.leads.node nodes) ≡ Some leads.leads.lead =
      ap (present_lead leads.leads.noted) (sym (of.leads p leads.leads.node)) ∙ leads.leads.there in
      let down : cycle_at numbers sized.instances leads.leads.lead.instance ≤ at_place p =
      lead_falls numbers sized.instances (at_place p) leads.leads.noted (leads_at leads.leads.node nodes) leads.leads.lead
      (leads_there numbers sized.instances (at_place p) nodes leads.leads.node (place_falls p)) here in
      subst (λ n. n ≤ at_place p)
      (ap (cycle_at numbers sized.instances) leads.leads.place ∙ ap (number_there numbers) r.1 ∙ sym (instance_cycle a.place r.0 r.1)) down

  -- a direction that may be called
  crossed : (p d : ℕ) → x.crosses p d ≡ true → (c : ℕ) × (slice_get turned d ≡ Some (Some c)) × (c ≤ at_place p)
  crossed p d h = turned_there (at_place p) (slice_get turned d) (sym (of.crosses p d) ∙ h)

  direction_cycle : (d c : ℕ) → slice_get turned d ≡ Some (Some c) → at_place (x.way d) ≡ c
  direction_cycle d c e =
      ap at_place (of.way d) ∙ ap (cycle_by numbers turned (length sized.instances + d - length sized.instances)) (none_past sized.instances d)
      ∙ ap (λ k. way_cycle (slice_get turned k)) (back (length sized.instances) d) ∙ ap way_cycle e

  function_cycle : (d c : ℕ) → slice_get turned d ≡ Some (Some c) → cycle_of x.m (x.direction d).function ≡ c
  function_cycle d c e =
      let w : WayThere low.directions d = way_there low.directions d (in_order core sized m low d c e) in
      let place : ℕ = place_in low.model.order.now d in
      ap (λ z. cycle_of z (x.direction d).function) of.module_is
      ∙ ap (λ (z : Mapped). cycle_of m z.function) (of.direction d ∙ ap direction_in (entered_at core sized m low d w))
      ∙ ap cycle_in (ap (λ fs. slice_get fs place) low.all ∙ got_before low.ways (low.functions ++ low.opened) place w.code w.there)
      ∙ w.at.is.taken.code.is.cycle ∙ w.at.is.taken.around.head_cycle ∙ same_cycle w.at.cycle c (sym w.at.turned ∙ ap (slice_get turned) w.is_which ∙ e)
    where
      same_cycle : (a b : ℕ) → Some (Some a) ≡ Some (Some b) → a ≡ b
      same_cycle a b e = some_same a b (some_same (Some a) (Some b) e)

  is_way : (p d : ℕ) → x.crosses p d ≡ true → cycle_of x.m (x.direction d).function ≡ at_place (x.way d)
  is_way p d h =
      let r = crossed p d h in
      function_cycle d r.0 r.1 ∙ sym (direction_cycle d r.0 r.1)

  falls_way : (p d : ℕ) → x.crosses p d ≡ true → at_place (x.way d) ≤ at_place p
  falls_way p d h =
      let r = crossed p d h in
      subst (λ n. n ≤ at_place p) (sym (direction_cycle d r.0 r.1)) r.2

  pub stands : CyclesStand x
  stands = record {
    number = λ i. slice_index_or numbers i 0;
    is_number = is_number;
    at_ = at_place;
    is_at = is_at;
    falls = falls;
    is_way = is_way;
    falls_way = falls_way;
    one = λ i j f g ef eg e. one_of (slice_index_or numbers i 0) (slice_index_or numbers j 0) f.cycle g.cycle
        (low.called.fit.cycles.each i j f g (ap (λ fs. slice_get fs i) (sym of.functions) ∙ ef) (ap (λ fs. slice_get fs j) (sym of.functions) ∙ eg)) e;
    all = λ i j c f g ef eg cf cg. all_of (slice_index_or numbers i 0) (slice_index_or numbers j 0) c f.cycle g.cycle
        (low.called.fit.cycles.each i j f g (ap (λ fs. slice_get fs i) (sym of.functions) ∙ ef) (ap (λ fs. slice_get fs j) (sym of.functions) ∙ eg)) cf cg;
  }
