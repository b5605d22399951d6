-- Calls that wait.
use Rattle.std.proofs.Common.{◌≡◌, ℕ, zero, suc, ◌+◌, ◌-◌, ◌*◌, ◌<◌, ◌≤◌, List, [], ◌∷◌, ◌++◌, Option, Some, None, refl, sym, ap, ◌∙◌, subst, arith}
use Rattle.std.proofs.Common.{reverse, mul-le-mul_right, Result, Ok, Err, IfOk, Global, Vec}
use Rattle.std.specs.Prelude.{slice_get, slice_index_or}
use Rattle.std.proofs.lemmas.List.{reverse-append}
use Rattle.sail_base.specs.declared.place.Place.{Place}
use Rattle.sail_types.specs.declared.values.Value.{Value}
use Rattle.model_state.specs.declared.cause.Cause.{Cause}
use Rattle.model_state.specs.RunState.{RunState, Access}
use Rattle.jib.specs.declared.code.Instruction.TheVariants as I
use Rattle.jib.specs.declared.code.Module.{Module}
use Rattle.jib.specs.Jib as J
use Rattle.jib.specs.Jib.{Outcome, Gives, Throws, Stops, Enter, acts, at, put, called, code_of, entry, Runs, runs_back, runs_caught, runs_stopped}
use Rattle.jib.specs.Openings.{begun, ended}
use Rattle.jib.specs.Openings.{Calls as CallsSo}
use Rattle.sail_types.specs.declared.table.Types.{Types}
use Rattle.model_state.specs.declared.cause.Ended.{Ended}
use Rattle.jib.proofs.Ticking.{Targets, Calls, weight, limit}
use Rattle.jib.proofs.Falls.{told_at, enter_falls, next_falls, target_falls, call_targets}
use Rattle.jib_machine.specs.declared.act.Current.{Current}
use Rattle.jib_machine.specs.declared.act.Ending.{Ending}
use Rattle.jib_machine.specs.declared.act.Ending.TheVariants as N
use Rattle.jib_machine.specs.declared.act.Here.{Here}
use Rattle.jib_machine.specs.declared.act.Frame.{Frame}
use Rattle.jib_machine.specs.declared.act.Turn.{Turn}
use Rattle.jib_machine.specs.declared.act.Turn.TheVariants as U
use Rattle.jib_values.specs.Sources.{filled}
use Rattle.jib_machine.specs.parts.Begun.{store}
use Rattle.jib_machine.specs.parts.Unread.{Begins}
use Rattle.jib_machine.specs.parts.Acts.{seen, outcome_of}
use Rattle.jib_machine.specs.parts.Runs.{Ready, table_of, remains, RunsOn, Along, Turned, Start, Runs_from, Saved, Leads, Going, Came, frames_left}
use Rattle.jib_machine.specs.parts.Runs.{left, Went, Advanced, Returned, Finished}

reverse_last : (xs : List Frame) (x : Frame) → reverse (xs ++ x ∷ []) ≡ x ∷ reverse xs
reverse_last xs x = reverse-append xs (x ∷ [])

stopped_form : (m : Module) (ls : List Value) (hart : ℕ) (b : Start) (frs : List Frame) (w : Cause) (s : J.Store) → Leads m ls hart b frs (Stops w s)
    → Runs_from m ls hart b (Stops w s)
stopped_form m ls hart b [] w s h = h
stopped_form m ls hart b (fr ∷ frs) w s h = h

-- ---- going back

module _ (m : Module) (ls : List Value) (hart : ℕ) (frames frames' : List Frame) (cur' : Current) (s : RunState) (k : ℕ) where
  back_to : (e : Ending) (fr : Frame) → reverse frames ≡ fr ∷ reverse frames' → Saved m (reverse frames) → cur'.here ≡ fr.current.here
      → weight m.functions fr.current.here.function cur'.at < frames_left m (fr ∷ [])
      → ((b : Start) (xs : List Access) → Leads m ls hart b (fr ∷ reverse frames') (outcome_of e (store s k xs)) → Going m ls hart b cur' frames' s k)
      → Returned m ls hart frames s k e cur' frames'
  back_to e fr is sv eh less go = record {
    going = λ b xs h. go b xs (subst (λ l. Leads m ls hart b l (outcome_of e (store s k xs))) is h);
    saved = (subst (Saved m) is sv).1;
    less =
        let f : weight m.functions cur'.here.function cur'.at ≡ weight m.functions fr.current.here.function cur'.at =
        ap (λ (q : Here). weight m.functions q.function cur'.at) eh in
        let g : frames_left m (reverse frames) ≡ frames_left m (fr ∷ reverse frames') = ap (frames_left m) is in
        omega arith;
  }

  pub back_value : (e : Ending) (v : Value) (fr : Frame) → e ≡ N.Value v → frames ≡ frames' ++ fr ∷ [] → Saved m (reverse frames)
      → cur'.here ≡ fr.current.here → cur'.at ≡ fr.current.at + 1 → filled cur'.slots.items ≡ put (filled fr.current.slots.items) fr.slot v
      → Returned m ls hart frames s k e cur' frames'
  back_value e v fr ev is sv eh ep es =
      let is2 : reverse frames ≡ fr ∷ reverse frames' = ap reverse is ∙ reverse_last frames' fr in
      let call = (subst (Saved m) is2 sv).0 in
      let less : weight m.functions fr.current.here.function (fr.current.at + 1) < frames_left m (fr ∷ []) =
      omega (arith, next_falls m.functions fr.current.here.function fr.current.at call.0 fr.label call.1) in
      subst (λ q. Returned m ls hart frames s k q cur' frames') (sym ev)
      (back_to (N.Value v) fr is2 sv eh (subst (λ q. weight m.functions fr.current.here.function q < frames_left m (fr ∷ [])) (sym ep) less)
      (λ b xs h. record {
        accesses = xs;
        by = λ r x. h r (subst (λ q. Runs m ls hart (seen fr.current.here) (fr.current.at + 1) q (store s k xs) r) es
            (subst (λ p. Runs m ls hart (seen fr.current.here) p (filled cur'.slots.items) (store s k xs) r) ep
            (subst (λ q. Runs m ls hart (seen q) cur'.at (filled cur'.slots.items) (store s k xs) r) eh x)));
      }))

  pub back_threw : (places : List (List ℕ)) → Ready m places → (e : Ending) (v : Value) (fr : Frame) → e ≡ N.Threw v → frames ≡ frames' ++ fr ∷ []
      → Saved m (reverse frames) → cur'.here ≡ fr.current.here
      → cur'.at ≡ slice_index_or (table_of places fr.current.here.function) fr.current.at 0
      → filled cur'.slots.items ≡ put (filled fr.current.slots.items) 0 v → Returned m ls hart frames s k e cur' frames'
  back_threw places rd e v fr ev is sv eh ep es =
      let is2 : reverse frames ≡ fr ∷ reverse frames' = ap reverse is ∙ reverse_last frames' fr in
      let call = (subst (Saved m) is2 sv).0 in
      let tg : Targets (at (code_of m fr.current.here.function) fr.current.at) fr.label =
      call_targets (at (code_of m fr.current.here.function) fr.current.at) call.0 fr.label call.1 in
      let set : slice_get (code_of m fr.current.here.function) cur'.at ≡ Some (I.Label fr.label) =
      subst (λ q. slice_get (code_of m fr.current.here.function) q ≡ Some (I.Label fr.label)) (sym ep)
      (rd.finds fr.current.here.function fr.current.at fr.label tg) in
      let less : weight m.functions fr.current.here.function cur'.at < frames_left m (fr ∷ []) =
      omega (arith, target_falls m.functions rd.ticks fr.current.here.function fr.current.at cur'.at fr.label tg set) in
      subst (λ q. Returned m ls hart frames s k q cur' frames') (sym ev)
      (back_to (N.Threw v) fr is2 sv eh less
      (λ b xs h. record {
        accesses = xs;
        by = λ r x. h cur'.at set r (subst (λ q. Runs m ls hart (seen fr.current.here) cur'.at q (store s k xs) r) es
            (subst (λ q. Runs m ls hart (seen q) cur'.at (filled cur'.slots.items) (store s k xs) r) eh x));
      }))

pub ended_here : (m : Module) (ls : List Value) (frames : List Frame) (e : Ending) → frames ≡ [] → (hart : ℕ) (s : RunState) (k : ℕ) (b : Start)
    (xs : List Access) → Leads m ls hart b (reverse frames) (outcome_of e (store s k xs)) → Came m ls hart b e s k
ended_here m ls frames e is hart s k b xs h = (xs, subst (λ l. Leads m ls hart b l (outcome_of e (store s k xs))) (ap reverse is) h)

pub stopped_here : (m : Module) (ls : List Value) (frames : List Frame) (e : Ending) (w : Cause) → e ≡ N.Stopped w → (hart : ℕ) (s : RunState) (k : ℕ)
    (b : Start) (xs : List Access) → Leads m ls hart b (reverse frames) (outcome_of e (store s k xs)) → Came m ls hart b (N.Stopped w) s k
stopped_here m ls frames e w is hart s k b xs h = (
  xs,
  stopped_form m ls hart b (reverse frames) w (store s k xs)
      (subst (λ q. Leads m ls hart b (reverse frames) (outcome_of q (store s k xs))) is h),
)

-- ---- a call

enter_leads : (m : Module) (ls : List Value) (hart : ℕ) (b : Start) (frs : List Frame) (fr : Frame) (s : J.Store) (f : ℕ) (p : Place) (vs : List Value)
    → acts m ls hart (seen fr.current.here) fr.current.at (filled fr.current.slots.items) s ≡ Enter fr.slot f vs fr.label p
    → (r1 : Outcome) → Runs m ls hart (called m (seen fr.current.here) f p) 0 (entry m f vs) s r1
    → ((r : Outcome) → Runs m ls hart (seen fr.current.here) fr.current.at (filled fr.current.slots.items) s r → Leads m ls hart b frs r)
    → Leads m ls hart b (fr ∷ frs) r1
enter_leads m ls hart b frs fr s f p vs a (Gives v t) x g = λ r y. g r (runs_back a x y)
enter_leads m ls hart b frs fr s f p vs a (Throws v t) x g = λ q hq r y. g r (runs_caught a x hq y)
enter_leads m ls hart b frs fr s f p vs a (Stops w t) x g = stopped_form m ls hart b frs w t (g (Stops w t) (runs_stopped a x))

pub went_enter : (m : Module) (places : List (List ℕ)) (ls : List Value) (hart : ℕ) → Ready m places
    → (cur mid cur' : Current) (frames frames' : List Frame) (s t : RunState) (k n i f l : ℕ) (p : Place) (slots : Vec Value Global)
    → Saved m (reverse frames) → Turned m ls hart cur s k (U.Enter i f slots l p) mid t n
    → frames' ≡ frames ++ record { current = mid; slot = i; label = l } ∷ [] → seen cur'.here ≡ called m (seen mid.here) f p → cur'.at ≡ 0
    → cur'.slots ≡ slots → Went m ls hart cur frames s k cur' frames' t n
went_enter m places ls hart rd cur mid cur' frames frames' s t k n i f l p slots sv tu ef eh ea es =
    let fr : Frame = record { current = mid; slot = i; label = l } in
    let is2 : reverse frames' ≡ fr ∷ reverse frames = ap reverse ef ∙ reverse_last frames fr in
    let call : Calls (at (code_of m mid.here.function) mid.at) f l =
    told_at m ls hart (seen mid.here) mid.at (filled mid.slots.items) (store t n []) (Enter i f tu.0 l p) (tu.2 []) in
    record {
      going = λ b g. (let al = tu.1.by g.accesses in record {
        accesses = al.0;
        by = λ r x.
            let x1 : Runs m ls hart (called m (seen mid.here) f p) cur'.at (filled cur'.slots.items) (store t n al.0) r =
            subst (λ q. Runs m ls hart q cur'.at (filled cur'.slots.items) (store t n al.0) r) eh x in
            let x2 : Runs m ls hart (called m (seen mid.here) f p) 0 (filled cur'.slots.items) (store t n al.0) r =
            subst (λ q. Runs m ls hart (called m (seen mid.here) f p) q (filled cur'.slots.items) (store t n al.0) r) ea x1 in
            let x3 : Runs m ls hart (called m (seen mid.here) f p) 0 (filled slots.items) (store t n al.0) r =
            subst (λ (q : Vec Value Global). Runs m ls hart (called m (seen mid.here) f p) 0 (filled q.items) (store t n al.0) r) es x2 in
            let x4 : Runs m ls hart (called m (seen mid.here) f p) 0 (entry m f tu.0) (store t n al.0) r =
            tu.3 ls hart (called m (seen mid.here) f p) (store t n al.0) r refl x3 in
            subst (λ q. Leads m ls hart b q r) (sym is2) (enter_leads m ls hart b (reverse frames) fr (store t n al.0) f p tu.0 (tu.2 al.0) r x4
            (λ q y. g.by q (al.1 q y)));
      });
      saved = subst (Saved m) (sym is2) ((f, call), sv);
      less =
          let e1 : frames_left m (reverse frames') ≡ frames_left m (fr ∷ reverse frames) = ap (frames_left m) is2 in
          let e2 : remains m cur'.here.function cur'.at n ≡ remains m f 0 n = λ j. remains m (eh j).function (ea j) n in
          omega (arith, tu.1.no_more, enter_falls m.functions rd.ticks mid.here.function mid.at f l call);
    }

-- ---- an end

pub over_went : (m : Module) (ls : List Value) (hart : ℕ) (cur mid cur' : Current) (frames frames' : List Frame) (s t : RunState) (k n : ℕ) (e : Ending)
    → Turned m ls hart cur s k (U.Over e) mid t n → (o : Option Ending) → Finished m ls hart frames t n e cur' frames' o
    → Advanced m ls hart cur frames s k cur' frames' t n o
over_went m ls hart cur mid cur' frames frames' s t k n e tu None l = record {
  going = λ b g. (let x = tu.0 g.accesses in l.going b x.0 (g.by (outcome_of e (store t n x.0)) x.1));
  saved = l.saved;
  less = omega (arith, mul-le-mul_right {m = n} {n = k} (limit m.functions) tu.1, l.less);
}
over_went m ls hart cur mid cur' frames frames' s t k n e tu (Some e') l = λ b g. (let x = tu.0 g.accesses in l b x.0 (g.by (outcome_of e (store t n x.0)) x.1))

pub turned_is : (m : Module) (ls : List Value) (hart : ℕ) (cur : Current) (s : RunState) (k : ℕ) (u v : Turn) (mid : Current) (t : RunState) (n : ℕ)
    → u ≡ v → Turned m ls hart cur s k u mid t n → Turned m ls hart cur s k v mid t n
turned_is m ls hart cur s k u v mid t n e h = subst (λ q. Turned m ls hart cur s k q mid t n) e h

-- ---- the start

pub begins : (m : Module) (ls : List Value) (hart f : ℕ) (vs : List Value) (s : RunState) (k : ℕ) (cur : Current) (frames : List Frame) → frames ≡ []
    → seen cur.here ≡ J.alone f → cur.at ≡ 0 → Begins m f vs cur.slots.items
    → Saved m (reverse frames) × Going m ls hart (record { function = f; arguments = vs; state = s; ticks = k }) cur frames s k
begins m ls hart f vs s k cur frames ef eh ea es =
    let b : Start = record { function = f; arguments = vs; state = s; ticks = k } in (
      subst (Saved m) (sym (ap reverse ef)) tt,
      record {
        accesses = [];
        by = λ r x.
            let x1 : Runs m ls hart (J.alone f) cur.at (filled cur.slots.items) (store s k []) r =
            subst (λ q. Runs m ls hart q cur.at (filled cur.slots.items) (store s k []) r) eh x in
            let x2 : Runs m ls hart (J.alone f) 0 (filled cur.slots.items) (store s k []) r =
            subst (λ q. Runs m ls hart (J.alone f) q (filled cur.slots.items) (store s k []) r) ea x1 in
            let x3 : Runs m ls hart (J.alone f) 0 (entry m f vs) (store s k []) r =
            es ls hart (J.alone f) (store s k []) r refl x2 in
            subst (λ q. Leads m ls hart b q r) (sym (ap reverse ef)) x3;
      },
    )

-- ---- what the machine's call comes to

pub calls_so : (m : Module) (types : Types) (ls : List Value) (hart k f : ℕ) (vs : List Value) (s t : RunState) (n : ℕ) (xs : List Access) (e : Ending)
    (r : Ended) → J.jib_run m ls hart f vs (begun k s) (outcome_of e (store t n xs)) → ((st : J.Store) → r ≡ ended types (outcome_of e st))
    → CallsSo m types ls hart k f vs s (record { ended = r; state = t; accesses = xs })
calls_so m types ls hart k f vs s t n xs (N.Value v) r x h = record {
  outcome = Gives v (store t n xs);
  run = x;
  same = (λ j. record { ended = h (store t n xs) j; state = t; accesses = xs });
}
calls_so m types ls hart k f vs s t n xs (N.Threw v) r x h = record {
  outcome = Throws v (store t n xs);
  run = x;
  same = (λ j. record { ended = h (store t n xs) j; state = t; accesses = xs });
}
calls_so m types ls hart k f vs s t n xs (N.Stopped c) r x h = record {
  outcome = Stops c (store t n xs);
  run = x;
  same = (λ j. record { ended = h (store t n xs) j; state = t; accesses = xs });
}
