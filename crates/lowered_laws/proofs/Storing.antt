-- A value in hand goes to what holds it: a register, or the newest variable of a name (Sail language manual, "Assignments").
use Rattle.std.proofs.Common.{◌≡◌, ◌∙◌, ℕ, ◌+◌, true, List, [], ◌∷◌, length, Option, Some, None, refl, sym, ap, subst, arith}
use Rattle.model_state.specs.RunState.{register_value, with_register}
use Rattle.sail_types.specs.declared.values.Value.{Value}
use Rattle.size_values.specs.declared.sized.Sized.{Sized}
use Rattle.jib.specs.declared.code.Instruction.{Instruction}
use Rattle.jib.specs.declared.code.Instruction.TheVariants as I
use Rattle.jib.specs.declared.code.Target.TheVariants as J
use Rattle.jib.specs.Jib.{Go, Slots, Store}
use Rattle.sail_core.specs.declared.targets.Suffix.{Suffix}
use Rattle.sail_core.specs.Run as R
use Rattle.sail_core.specs.Run.{Local as Bound, Now, Run, changed_in, goes_on, needs}
use Rattle.sail_core.specs.Values.{Into}
use Rattle.sail_core.specs.Making.{World, nothing}
use Rattle.sail_core.specs.Targets.{Spot, part_spot, register_spot, set_locals, set_variable, variable_spot, write_register}
use Rattle.checked_meaning.specs.Items.{Item}
use Rattle.lowered_pieces.specs.Places.{Given, Local, Number, Temp, from}
use Rattle.lowered_pieces.specs.Forms.{Depths, Named, Stand, place_of}
use Rattle.lowered_pieces.specs.Moves.{kept_code}
use Rattle.lowered_pieces.specs.Writes.{Cell, Holder, holder_lowered, register, store_code, variable}
use Rattle.lowered_laws.specs.Standing.{HasAt}
use Rattle.lowered_laws.specs.Simulation.{bare, Followed, AtWork, kit, own_code, reading, RunsOn, After, Fails, Sits}
use Rattle.lowered_laws.proofs.Steps.{go, moves}
use Rattle.lowered_laws.proofs.States.{after_time, passed_by}
use Rattle.lowered_laws.proofs.Variables.{Changed, changed, kept_runs}

module _ (g : AtWork) where
  -- behind what gives `()` the run goes on there
  abbrev pub Goes : Depths → List Named → ℕ → ℕ → Slots → Now Item → Item → Now Item → Type 0
  Goes d scope pe n sl now z u = z ≡ nothing (reading g) → Fails g d scope pe n sl now u

module _ (g : AtWork) (w : World Item) where
  -- what a holder is, where it is read and gets values at a node
  abbrev pub holder_spot : Holder → ℕ → Spot Item
  holder_spot (register r) k = register_spot (reading g) w k r
  holder_spot (variable name) k = variable_spot (reading g) k name

  -- what a cell is, once its indexes are there
  abbrev pub spot_along : List Suffix → Cell → List Into → Spot Item
  spot_along [] c ws = holder_spot c.holder c.number
  spot_along (a ∷ ss) c ws = part_spot (reading g) c.number (holder_spot c.holder c.read) ws

  abbrev pub store_run : Holder → Item → Run Item Item
  store_run (register r) y = write_register (reading g) w r y.val
  store_run (variable name) y = set_variable (reading g) name y

  -- a value in hand goes to its holder, and what follows goes on at pe
  pub store_runs : w.hart ≡ g.hart → (h : Holder) → holder_lowered g.table g.tables h ≡ true → (s : Stand) (n q pe : ℕ) (sl sl1 : Slots) (now t : Now Item)
      (y : Item) (H : Value → Now Item → Type 0) (N : Now Item → Type 0) → After g s.depths s.scope n sl now sl1 t
      → sl1 (g.name (Temp s.temp) (g.number y.typ)) ≡ y.val → Sits g y.val y.typ → HasAt (own_code g) q (store_code g.table (kit g) g.tables h s y.typ)
      → ((after : Slots) (then_ : Store) → RunsOn g pe after then_
      → RunsOn g (q + length (store_code g.table (kit g) g.tables h s y.typ)) after then_)
      → Followed g.ending (store_run h y t) (Goes g s.depths s.scope pe n sl now) H N → RunsOn g q sl1 (bare t)
  store_runs hart (register r) low s n q pe sl sl1 now t y H N k1 e1 had1 hp out th = there (register_value t.state w.hart r) th
    where
      after : Now Item
      after = record t { state = with_register w.hart r y.val t.state }

      there : (o : Option Value) → Followed g.ending (goes_on (needs o t) (λ old u. R.Gives (nothing (reading g)) (record u {
        state = with_register w.hart r y.val u.state;
      }))) (Goes g s.depths s.scope pe n sl now) H N → RunsOn g q sl1 (bare t)
      there None f = absurd f
      there (Some old) f =
          let i : Instruction = I.Copy (J.Register r) (from (kit g) (Temp s.temp) (g.number y.typ)) in
          go g.m g.lets g.hart g.here g.ending q sl1 sl1 (bare t) (bare after) i hp.0
          (ap (λ v. Go sl1 (record (bare t) { state = with_register g.hart r v t.state })) e1
          ∙ ap (λ h. Go sl1 (record (bare t) { state = with_register h r y.val t.state })) (sym hart))
          (out sl1 (bare after) ((f refl).by sl1 (after_time g s.depths s.scope n sl sl1 now t after refl refl (omega arith) k1)))
  store_runs hart (variable name) low s n q pe sl sl1 now t y H N k1 e1 had1 hp out th = there (changed_in name y t.locals) refl th
    where
      us : List Sized
      us = g.tables.reads name

      there : (o : Option (List (Bound Item))) → changed_in name y t.locals ≡ o
          → Followed g.ending (set_locals (reading g) t o) (Goes g s.depths s.scope pe n sl now) H N → RunsOn g q sl1 (bare t)
      there None e f = absurd f
      there (Some ls) e f =
          let ch : Changed g sl1 s.scope name y ls = changed g n sl1 s.scope t.locals name y ls k1.same.low k1.same.locals k1.same.varied low e in
          let c1 : List Instruction = kept_code (kit g) (place_of s.scope name) s.temp us y.typ in
          let c3 : List Instruction = kept_code (kit g) (Local ch.local_at) s.temp us y.typ in
          let hp2 : HasAt (own_code g) q c3 = subst (λ p. HasAt (own_code g) q (kept_code (kit g) p s.temp us y.typ)) ch.is hp in
          let many : length c1 ≡ length c3 = ap (λ p. length (kept_code (kit g) p s.temp us y.typ)) ch.is in
          let after : Now Item = record t { locals = ls } in
          kept_runs g ch.local_at s.temp y.typ y.val us q sl1 (bare t) hp2 e1 had1
          (λ sl2 other stands reads2.
          let both = ch.by sl2 other stands reads2 in
          let k2 : After g s.depths s.scope n sl now sl2 after =
          record {
            same = record {
              locals = both.0;
              noted = λ x z m. other (Number x (s.depths.of x)) (kit g).integer refl ∙ k1.same.noted x z m;
              low = k1.same.low;
              shallow = k1.same.shallow;
              passed = passed_by g sl1 sl2 (λ i u. other (Given i) u refl) 0 g.arguments k1.same.passed;
              varied = both.1;
            };
            kept = λ i u lt. other (Temp i) u refl ∙ k1.kept i u lt;
            given = λ i u. other (Given i) u refl ∙ k1.given i u;
            numbers = λ x m lt. other (Number x m) (kit g).integer refl ∙ k1.numbers x m lt;
            fewer = k1.fewer;
          } in
          moves g.m g.lets g.hart g.here g.ending (q + length c1) (q + length c3) sl2 (bare after) (omega (arith, many))
          (out sl2 (bare after) ((f refl).by sl2 k2)))
