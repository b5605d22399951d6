-- What a call finds, by induction on the calls that are active.
use Rattle.std.proofs.Common.{◌≡◌, ◌⊎◌, inl, inr, ℕ, ℤ, ◌<◌, ◌≤◌, pos, Bool, true, false, [], ◌∷◌, Option, Some, None, refl, sym, ap, ◌∙◌, subst, arith}
use Rattle.std.proofs.Common.{eq-eqb, eqb-true, if◌then◌else◌}
use Rattle.std.specs.Prelude.{nat_eq, option_map, slice_get}
use Rattle.std.proofs.lemmas.Bool.Decides.{nat_tests}
use Rattle.sail_base.specs.declared.place.Place.{Place as TextPlace}
use Rattle.sail_core.specs.Numbers.{Instance}
use Rattle.sail_core.specs.Program.{Measures, nearest}
use Rattle.sail_core.specs.declared.model.Function.{Function}
use Rattle.jib.specs.Jib.{Here, cycle_of, inherited}
use Rattle.jib.specs.Jib as J
use Rattle.lowered_laws.specs.Modules.{Active, Leads, Made, alone, crossing, further, sunk}
use Rattle.lowered_cycles.specs.Laws.{CyclesStand}

same_some : (c d : ℕ) → Some c ≡ Some d → c ≡ d
same_some c d e = cc

below_not : (a b : ℕ) → a < b → nat_eq b a ≡ false
below_not a b h = grind (arith, nat_tests)

below_differs : (a b : ℕ) → a < b → b ≡ a → ⊥
below_differs a b h e = omega (arith, h, e)

at_or_below : (a b : ℕ) → a ≤ b → (a ≡ b) ⊎ (a < b)
at_or_below a b h = by (nat_eq a b) refl
  where
    by : (q : Bool) → nat_eq a b ≡ q → (a ≡ b) ⊎ (a < b)
    by true e = inl (eqb-true a b e)
    by false e = inr (less e)
      where
        less : nat_eq a b ≡ false → a < b
        less e = grind (arith, nat_tests)

module _ (x : Made) (c : CyclesStand x) where
  -- a function of a cycle of the model
  record In (k i : ℕ) : Type 0 where
    function : Function
    there : slice_get x.s.functions i ≡ Some function
    cycle : function.cycle ≡ Some k

  -- where no measure is active; or what a function or a direction that calls entered finds of its own cycle, and that none of a lower one is active
  record Inside (active : Measures) (h : Here) (p : ℕ) : Type 0 where
    here : cycle_of x.m h.function ≡ c.at_ p
    own : (k i : ℕ) → In k i → c.number i ≡ c.at_ p → h.measure ≡ option_map pos (nearest k active)
    lower : (k i : ℕ) → In k i → c.number i < c.at_ p → nearest k active ≡ None

  abbrev Found : Measures → Here → ℕ → Type 0
  Found active h p = ((active ≡ []) × (h.measure ≡ None)) ⊎ Inside active h p

  inherits : (b : Bool) (o : Option ℤ) → o ≡ None → inherited b o ≡ None
  inherits true o e = e
  inherits false o e = refl

  -- what is entered, of a cycle with this number or of a lower one, finds the measure of its cycle
  finds : (active : Measures) (h : Here) (p q to k j : ℕ) (place : TextPlace) → Found active h p → cycle_of x.m q ≡ to → to ≤ c.at_ p → In k j
      → c.number j ≡ to → (J.called x.m h q place).measure ≡ option_map pos (nearest k active)
  finds active h p q to k j place (inl e) is le cyc same =
      inherits (nat_eq (cycle_of x.m q) (cycle_of x.m h.function)) h.measure e.1 ∙ sym (ap (λ ms. option_map pos (nearest k ms)) e.0)
  finds active h p q to k j place (inr s) is le cyc same = by (at_or_below to (c.at_ p) le)
    where
      by : (to ≡ c.at_ p) ⊎ (to < c.at_ p) → inherited (nat_eq (cycle_of x.m q) (cycle_of x.m h.function)) h.measure ≡ option_map pos (nearest k active)
      by (inl e) =
          ap (λ b. inherited b h.measure) (eq-eqb (cycle_of x.m q) (cycle_of x.m h.function) (is ∙ e ∙ sym s.here)) ∙ s.own k j cyc (same ∙ e)
      by (inr l) =
          ap (λ n. inherited (nat_eq n (cycle_of x.m h.function)) h.measure) is ∙ ap (λ n. inherited (nat_eq to n) h.measure) s.here
          ∙ ap (λ b. inherited b h.measure) (not_same to (c.at_ p) l)
          ∙ sym (ap (option_map pos) (s.lower k j cyc (subst (λ n. n < c.at_ p) (sym same) l)))
        where
          not_same : (m n : ℕ) → m < n → nat_eq m n ≡ false
          not_same m n h = grind (arith, nat_tests)

  -- behind it none of a lower cycle is active
  falls_on : (active : Measures) (h : Here) (p to k j : ℕ) → Found active h p → to ≤ c.at_ p → In k j → c.number j < to → nearest k active ≡ None
  falls_on active h p to k j (inl e) le cyc l = ap (nearest k) e.0
  falls_on active h p to k j (inr s) le cyc l = s.lower k j cyc (omega (arith, l, le))

  -- another cycle
  others : (k d n : ℕ) (active : Measures) → (d ≡ k → ⊥) → nearest k ((d, n) ∷ active) ≡ nearest k active
  others k d n active ne = by (nat_eq d k) refl
    where
      by : (q : Bool) → nat_eq d k ≡ q → (if q then Some n else nearest k active) ≡ nearest k active
      by true e = absurd (ne (eqb-true d k e))
      by false e = refl

  found : {active : Measures} {h : Here} {p : ℕ} → Active x active h p → Found active h p
  found (alone e) = inl (refl, e)
  found (further {active = active} {h = h} {p = p} {i = i} {a = a} {f = f} {place = place} before leads) =
      let s : Found active h p = found before in
      let is : cycle_of x.m (x.function a.place) ≡ c.at_ a.place = c.is_at p i a f leads in
      let le : c.at_ a.place ≤ c.at_ p = c.falls p i a f leads in
      inr (record {
        here = is;
        own = λ k j cyc same. finds active h p (x.function a.place) (c.at_ a.place) k j place s is le cyc same;
        lower = λ k j cyc l. falls_on active h p (c.at_ a.place) k j s le cyc l;
      })
  found (crossing {active = active} {h = h} {p = p} {d = d} {place = place} before there) =
      let s : Found active h p = found before in
      let is : cycle_of x.m (x.direction d).function ≡ c.at_ (x.way d) = c.is_way p d there in
      let le : c.at_ (x.way d) ≤ c.at_ p = c.falls_way p d there in
      inr (record {
        here = is;
        own = λ k j cyc same. finds active h p (x.direction d).function (c.at_ (x.way d)) k j place s is le cyc same;
        lower = λ k j cyc l. falls_on active h p (c.at_ (x.way d)) k j s le cyc l;
      })
  found (sunk {active = active} {h = h} {p = p} {i = i} {cycle = d} {n = n} {a = a} {f = f} {place = place} before leads in_cycle has_measure) =
      let s : Found active h p = found before in
      let is : cycle_of x.m (x.function a.place) ≡ c.at_ a.place = c.is_at p i a f leads in
      let le : c.at_ a.place ≤ c.at_ p = c.falls p i a f leads in
      let number_is : c.at_ a.place ≡ c.number i = sym is ∙ c.is_number p i a f leads in
      inr (record {
        here = is;
        own = λ k j cyc same. own_of k j cyc (same ∙ number_is);
        lower = λ k j cyc l. others k d n active (differs k j cyc (subst (λ z. c.number j < z) number_is l))
            ∙ falls_on active h p (c.at_ a.place) k j s le cyc l;
      })
    where
      own_of : (k j : ℕ) → In k j → c.number j ≡ c.number i → Some (pos n) ≡ option_map pos (nearest k ((d, n) ∷ active))
      own_of k j cyc same =
          let e : Some k ≡ Some d = sym cyc.cycle ∙ c.one j i cyc.function f cyc.there leads.found same ∙ in_cycle in
          sym (ap (λ b. option_map pos (if b then Some n else nearest k active)) (eq-eqb d k (sym (same_some k d e))))

      differs : (k j : ℕ) → In k j → c.number j < c.number i → d ≡ k → ⊥
      differs k j cyc l e =
          below_differs (c.number j) (c.number i) l (c.all i j d f cyc.function leads.found cyc.there in_cycle (cyc.cycle ∙ ap Some (sym e)))

  pub agrees : (active : Measures) (h : Here) (p i : ℕ) (a : Instance) (f : Function) (place : TextPlace) (k : ℕ) → Active x active h p → Leads x p a i f
      → f.cycle ≡ Some k → (J.called x.m h (x.function a.place) place).measure ≡ option_map pos (nearest k active)
  agrees active h p i a f place k act leads in_cycle =
      finds active h p (x.function a.place) (c.at_ a.place) k i place (found act) (c.is_at p i a f leads) (c.falls p i a f leads)
      (record { function = f; there = leads.found; cycle = in_cycle }) (sym (c.is_number p i a f leads) ∙ c.is_at p i a f leads)
