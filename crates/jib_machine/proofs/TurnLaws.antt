-- A function's run, up to its end or a call.
use Rattle.std.proofs.Common.{◌≡◌, ℕ, zero, suc, ◌+◌, ◌-◌, ◌*◌, ◌<◌, ◌≤◌, List, [], ◌∷◌, Option, Some, None, refl, sym, ap, ◌∙◌, subst, arith}
use Rattle.std.proofs.Common.{mul-le-mul_right, Global, Vec}
use Rattle.std.specs.Prelude.{slice_get, slice_index_or, ℤ}
use Rattle.sail_base.specs.declared.place.Place.{Place}
use Rattle.sail_types.specs.declared.values.Value.{Value}
use Rattle.model_state.specs.RunState.{RunState, Access}
use Rattle.jib.specs.declared.code.Instruction.TheVariants as I
use Rattle.jib.specs.declared.code.Module.{Module}
use Rattle.jib.specs.Jib as J
use Rattle.jib.specs.Jib.{Outcome, acts, at, code_of, Runs, runs_go, runs_jump, runs_sink, runs_over}
use Rattle.jib.proofs.Ticking.{Targets, weight, limit}
use Rattle.jib.proofs.Falls.{told_at, go_falls, sink_falls, target_falls, waiting_weight, ticks_of}
use Rattle.jib_machine.specs.declared.act.Current.{Current}
use Rattle.jib_machine.specs.declared.act.Ending.{Ending}
use Rattle.jib_machine.specs.declared.act.Ending.TheVariants as N
use Rattle.jib_machine.specs.declared.act.Here.{Here}
use Rattle.jib_machine.specs.declared.act.Turn.{Turn}
use Rattle.jib_machine.specs.declared.act.Turn.TheVariants as U
use Rattle.jib_machine.specs.declared.act.Act.{Act}
use Rattle.jib_machine.specs.declared.act.Act.TheVariants as A
use Rattle.jib_values.specs.Sources.{filled}
use Rattle.jib_machine.specs.parts.Begun.{store}
use Rattle.jib_machine.specs.parts.Acts.{Acted, seen, outcome_of}
use Rattle.jib_machine.specs.parts.Runs.{Ready, table_of, remains, RunsOn, Along, Turned}

pub along_here : (m : Module) (ls : List Value) (hart : ℕ) (cur : Current) (s : RunState) (k : ℕ) → Along m ls hart cur s k cur s k
along_here m ls hart cur s k = record { by = λ xs. (xs, λ r x. x); function = refl; no_more = omega arith; ticks = omega arith }

-- what a step leads to, and that less is left
pub record Onward (m : Module) (ls : List Value) (hart : ℕ) (cur : Current) (s : RunState) (k : ℕ) (cur' : Current) (t : RunState) (n : ℕ)
    : Type 0 where
  pub by : (xs : List Access) → (ys : List Access) × ((r : Outcome) → RunsOn m ls hart cur' t n ys r → RunsOn m ls hart cur s k xs r)
  pub function : cur'.here.function ≡ cur.here.function
  pub less : remains m cur'.here.function cur'.at n < remains m cur.here.function cur.at k
  pub fewer : n ≤ k

pub along_more : (m : Module) (ls : List Value) (hart : ℕ) (cur0 : Current) (s0 : RunState) (k0 : ℕ) (cur cur' : Current) (s t : RunState) (k n : ℕ)
    → Along m ls hart cur0 s0 k0 cur s k → Onward m ls hart cur s k cur' t n → Along m ls hart cur0 s0 k0 cur' t n
along_more m ls hart cur0 s0 k0 cur cur' s t k n a o = record {
  by = λ xs. (let first = a.by xs in let then = o.by first.0 in (then.0, λ r x. first.1 r (then.1 r x)));
  function = o.function ∙ a.function;
  no_more = omega (arith, a.no_more, o.less);
  ticks = omega (arith, a.ticks, o.fewer);
}

-- the run from a place that is this one
pub moved : (m : Module) (ls : List Value) (hart : ℕ) (h h' : Here) (pc pc' : ℕ) (sl : J.Slots) (t : J.Store) (r : Outcome) → h' ≡ h → pc' ≡ pc
    → Runs m ls hart (seen h') pc' sl t r → Runs m ls hart (seen h) pc sl t r
moved m ls hart h h' pc pc' sl t r eh ep x =
    subst (λ q. Runs m ls hart (seen q) pc sl t r) eh (subst (λ q. Runs m ls hart (seen h') q sl t r) ep x)

pub remains_same : (m : Module) (h h' : Here) (pc pc' : ℕ) (n : ℕ) → h' ≡ h → pc' ≡ pc → remains m h'.function pc' n ≡ remains m h.function pc n
remains_same m h h' pc pc' n eh ep = λ j. remains m (eh j).function (ep j) n

module _ (m : Module) (ls : List Value) (hart : ℕ) (cur : Current) (s : RunState) (k : ℕ) where
  abbrev Acts : List Access → J.Act
  Acts xs = acts m ls hart (seen cur.here) cur.at (filled cur.slots.items) (store s k xs)

  pub on_go : (cur' : Current) (t : RunState) (n : ℕ)
      → ((xs : List Access) → (ys : List Access) × (Acts xs ≡ J.Go (filled cur'.slots.items) (store t n ys)))
      → cur'.here ≡ cur.here → cur'.at ≡ cur.at + 1 → Onward m ls hart cur s k cur' t n
  on_go cur' t n e eh ep =
      let one = e [] in
      record {
        by = λ xs. (
          (e xs).0,
          λ r x. runs_go (e xs).1 (moved m ls hart cur.here cur'.here (cur.at + 1) cur'.at (filled cur'.slots.items)
              (store t n (e xs).0) r eh ep x),
        );
        function = ap (λ (q : Here). q.function) eh;
        less = omega (
          arith,
          remains_same m cur.here cur'.here (cur.at + 1) cur'.at n eh ep,
          go_falls m ls hart (seen cur.here) cur.at
              (filled cur.slots.items) (filled cur'.slots.items) (store s k []) (store t n one.0) one.1,
        );
        fewer = told_at m ls hart (seen cur.here) cur.at (filled cur.slots.items) (store s k []) (J.Go (filled cur'.slots.items) (store t n one.0)) one.1;
      }

  pub on_jump : (places : List (List ℕ)) → Ready m places → (cur' : Current) (t : RunState) (n l : ℕ) → ((xs : List Access) → Acts xs ≡ J.Jump l)
      → cur'.here ≡ cur.here → cur'.at ≡ slice_index_or (table_of places cur.here.function) cur.at 0
      → cur'.slots.items ≡ cur.slots.items → t ≡ s → n ≡ k → Onward m ls hart cur s k cur' t n
  on_jump places rd cur' t n l e eh ep es et en =
      let p : ℕ = slice_index_or (table_of places cur.here.function) cur.at 0 in
      let tg : Targets (at (code_of m cur.here.function) cur.at) l =
      told_at m ls hart (seen cur.here) cur.at (filled cur.slots.items) (store s k []) (J.Jump l) (e []) in
      let is : slice_get (code_of m cur.here.function) p ≡ Some (I.Label l) = rd.finds cur.here.function cur.at l tg in
      record {
        by = λ xs. (
          xs,
          λ r x. runs_jump (e xs) is (subst (λ q. Runs m ls hart (seen cur.here) p (filled q) (store s k xs) r) es
              (subst (λ q. Runs m ls hart (seen cur.here) p (filled cur'.slots.items) (store q k xs) r) et
              (subst (λ q. Runs m ls hart (seen cur.here) p (filled cur'.slots.items) (store t q xs) r) en
              (moved m ls hart cur.here cur'.here p cur'.at (filled cur'.slots.items) (store t n xs) r eh ep x)))),
        );
        function = ap (λ (q : Here). q.function) eh;
        less =
            let a : remains m cur'.here.function cur'.at n ≡ remains m cur.here.function p k =
            remains_same m cur.here cur'.here p cur'.at n eh ep ∙ ap (remains m cur.here.function p) en in
            omega (arith, target_falls m.functions rd.ticks cur.here.function cur.at p l tg is, waiting_weight m.functions cur.here.function cur.at);
        fewer = omega (arith, en);
      }

  pub on_sink : (cur' : Current) (t : RunState) (n : ℕ) (z : ℤ) (o : Option ℤ) → o ≡ Some z → ((xs : List Access) → Acts xs ≡ J.Sink z)
      → cur'.here ≡ record cur.here { measure = o } → cur'.at ≡ cur.at + 1 → cur'.slots.items ≡ cur.slots.items → t ≡ s → n ≡ k
      → Onward m ls hart cur s k cur' t n
  on_sink cur' t n z o eo e eh0 ep es et en =
      let h : Here = record cur.here { measure = Some z } in
      let eh : cur'.here ≡ h = eh0 ∙ (λ j. record cur.here { measure = eo j }) in
      record {
        by = λ xs. (
          xs,
          λ r x. runs_sink (e xs) (subst (λ q. Runs m ls hart (seen h) (cur.at + 1) (filled q) (store s k xs) r) es
              (subst (λ q. Runs m ls hart (seen h) (cur.at + 1) (filled cur'.slots.items) (store q k xs) r) et
              (subst (λ q. Runs m ls hart (seen h) (cur.at + 1) (filled cur'.slots.items) (store t q xs) r) en
              (moved m ls hart h cur'.here (cur.at + 1) cur'.at (filled cur'.slots.items) (store t n xs) r eh ep x)))),
        );
        function = ap (λ (q : Here). q.function) eh;
        less =
            let a : remains m cur'.here.function cur'.at n ≡ remains m h.function (cur.at + 1) k =
            remains_same m h cur'.here (cur.at + 1) cur'.at n eh ep ∙ ap (remains m h.function (cur.at + 1)) en in
            omega (arith, sink_falls m ls hart (seen cur.here) cur.at z (filled cur.slots.items) (store s k []) (e []));
        fewer = omega (arith, en);
      }

acted_is : (m : Module) (f : List Access → J.Act) (a b : Act) (old new : List Value) (s : RunState) (k : ℕ) (t : RunState) (n : ℕ) → a ≡ b
    → Acted m f a old new s k t n → Acted m f b old new s k t n
acted_is m f a b old new s k t n e h = subst (λ q. Acted m f q old new s k t n) e h

over_ticks : (e : Ending) (t : RunState) (n : ℕ) (ys : List Access) → ticks_of (outcome_of e (store t n ys)) ≡ n
over_ticks (N.Value v) t n ys = refl
over_ticks (N.Threw v) t n ys = refl
over_ticks (N.Stopped c) t n ys = refl

-- ---- as the loop has them

module _ (m : Module) (ls : List Value) (hart : ℕ) (cur new : Current) (s : RunState) (k : ℕ) (t : RunState) (n : ℕ) (a : Act) where
  abbrev pub Did : Type 0
  Did = Acted m (λ xs. acts m ls hart (seen cur.here) cur.at (filled cur.slots.items) (store s k xs)) a cur.slots.items new.slots.items s k t n

  as_ : (b : Act) → a ≡ b → Did
      → Acted m (λ xs. acts m ls hart (seen cur.here) cur.at (filled cur.slots.items) (store s k xs)) b cur.slots.items new.slots.items s k t n
  as_ b e d = acted_is m (λ xs. acts m ls hart (seen cur.here) cur.at (filled cur.slots.items) (store s k xs)) a b
      cur.slots.items new.slots.items s k t n e d

  pub did_go : a ≡ A.Go → Did → new.here ≡ cur.here → new.at ≡ cur.at → (cur' : Current) → cur'.here ≡ new.here → cur'.slots ≡ new.slots
      → cur'.at ≡ new.at + 1 → Onward m ls hart cur s k cur' t n
  did_go ea d eh ep cur' fh fl fp =
      let x = as_ A.Go ea d in
      on_go m ls hart cur s k cur' t n (λ xs. ((x xs).0, (x xs).1 ∙ ap (λ (q : Vec Value Global). J.Go (filled q.items) (store t n (x xs).0)) (sym fl)))
      (fh ∙ eh) (fp ∙ ap (λ q. q + 1) ep)

  pub did_jump : (places : List (List ℕ)) → Ready m places → (l : ℕ) → a ≡ A.Jump l → Did → new.here ≡ cur.here → new.at ≡ cur.at → (cur' : Current)
      → cur'.here ≡ new.here → cur'.slots ≡ new.slots → cur'.at ≡ slice_index_or (table_of places cur.here.function) new.at 0
      → Onward m ls hart cur s k cur' t n
  did_jump places rd l ea d eh ep cur' fh fl fp =
      let x = as_ (A.Jump l) ea d in
      on_jump m ls hart cur s k places rd cur' t n l x.0 (fh ∙ eh) (fp ∙ ap (λ q. slice_index_or (table_of places cur.here.function) q 0) ep)
      (ap (λ (q : Vec Value Global). q.items) fl ∙ x.1) x.2 x.3

  pub did_sink : (o : Option ℤ) → a ≡ A.Sink o → Did → new.here ≡ cur.here → new.at ≡ cur.at → (cur' : Current)
      → cur'.here ≡ record new.here { measure = o } → cur'.slots ≡ new.slots → cur'.at ≡ new.at + 1 → Onward m ls hart cur s k cur' t n
  did_sink o ea d eh ep cur' fh fl fp =
      let x = as_ (A.Sink o) ea d in
      on_sink m ls hart cur s k cur' t n x.0 o x.1 x.2 (fh ∙ ap (λ (q : Here). record q { measure = o }) eh) (fp ∙ ap (λ q. q + 1) ep)
      (ap (λ (q : Vec Value Global). q.items) fl ∙ x.3) x.4 x.5

  pub did_over : (cur0 : Current) (s0 : RunState) (k0 : ℕ) (e : Ending) → Along m ls hart cur0 s0 k0 cur s k → a ≡ A.Over e → Did
      → Turned m ls hart cur0 s0 k0 (U.Over e) new t n
  did_over cur0 s0 k0 e al ea d =
      let x = as_ (A.Over e) ea d in
      let one = x [] in
      let le : ticks_of (outcome_of e (store t n one.0)) ≤ k =
      told_at m ls hart (seen cur.here) cur.at (filled cur.slots.items) (store s k []) (J.Over (outcome_of e (store t n one.0))) one.1 in (
        (λ xs. (let first = al.by xs in let then = x first.0 in (then.0, first.1 (outcome_of e (store t n then.0)) (runs_over then.1)))),
        omega (arith, over_ticks e t n one.0, le, al.ticks),
      )

  pub did_enter : (cur0 : Current) (s0 : RunState) (k0 : ℕ) (i f l : ℕ) (p : Place) (slots : Vec Value Global) → Along m ls hart cur0 s0 k0 cur s k
      → a ≡ A.Enter i f slots l p → Did → new.here ≡ cur.here → new.at ≡ cur.at → Turned m ls hart cur0 s0 k0 (U.Enter i f slots l p) new t n
  did_enter cur0 s0 k0 i f l p slots al ea d eh ep =
      let x = as_ (A.Enter i f slots l p) ea d in (
        x.0,
        record {
          by = λ xs. (let first = al.by xs in (
            first.0,
            λ r y. first.1 r
                (subst (λ q. Runs m ls hart (seen cur.here) cur.at (filled q) (store s k first.0) r) x.3
                (subst (λ q. Runs m ls hart (seen cur.here) cur.at (filled new.slots.items) (store q k first.0) r) x.4
                (subst (λ q. Runs m ls hart (seen cur.here) cur.at (filled new.slots.items) (store t q first.0) r) x.5
                (moved m ls hart cur.here new.here cur.at new.at (filled new.slots.items) (store t n first.0) r eh ep y)))),
          ));
          function = ap (λ (q : Here). q.function) eh ∙ al.function;
          no_more =
              let q : remains m new.here.function new.at n ≡ remains m cur.here.function cur.at k =
              remains_same m cur.here new.here cur.at new.at n eh ep ∙ ap (remains m cur.here.function cur.at) x.5 in
              omega (arith, al.no_more);
          ticks = omega (arith, al.ticks, x.5);
        },
        (λ xs. (λ j. acts m ls hart (seen (eh j)) (ep j) (filled (x.3 j)) (store (x.4 j) (x.5 j) xs)) ∙ x.1 xs),
        x.2,
      )
