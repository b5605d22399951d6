-- The body of a direction: an option of what its clauses give.
use Rattle.std.proofs.Common.{◌≡◌, ◌∙◌, ℕ, ◌+◌, ◌<◌, true, List, [], ◌∷◌, ◌++◌, length, refl, sym, ap, subst}
use Rattle.sail_base.specs.declared.place.Place.{Place as TextPlace}
use Rattle.sail_types.specs.declared.values.Value.{Value}
use Rattle.sail_types.specs.declared.values.Value.TheVariants as V
use Rattle.size_values.specs.declared.sized.Sized.{Sized}
use Rattle.jib.specs.declared.code.Instruction.{Instruction}
use Rattle.jib.specs.declared.code.Instruction.TheVariants as I
use Rattle.jib.specs.declared.code.Operation.TheVariants as O
use Rattle.jib.specs.Jib.{Slots, Over}
use Rattle.jib.specs.Jib as J
use Rattle.sail_core.specs.Run.{Now, Run}
use Rattle.checked_meaning.specs.Fits.{has_sizes}
use Rattle.checked_meaning.specs.Items.{Item}
use Rattle.lowered_pieces.specs.Places.{Raised, Temp, from, to}
use Rattle.lowered_pieces.specs.Moves.{retype}
use Rattle.lowered_pieces.specs.Arms.{failing}
use Rattle.lowered_pieces.specs.Forms.{Piece, Stand, Tail, return_tail, unit_source}
use Rattle.lowered_pieces.specs.Functions.{body_depths, body_stand, ends_code, event_code}
use Rattle.lowered_pieces.specs.Mapped.{optional_piece, some_tail}
use Rattle.lowered_laws.specs.Standing.{HasAt}
use Rattle.lowered_laws.proofs.Pieces.{has_front, has_back}
use Rattle.lowered_laws.proofs.Steps.{over, past, retyped}
use Rattle.lowered_laws.specs.Simulation.{bare, Followed, AtWork, kit, own_code, RunsOn, Same, Done, Catches, Fails, LabelsStand, Good, Sits}
use Rattle.lowered_laws.proofs.Follows.{onward}
use Rattle.lowered_laws.proofs.Ends.{then_gives}
use Rattle.lowered_laws.proofs.ClauseEnds.{TypedBy}
use Rattle.lowered_laws.proofs.Constructors.{constructs}
use Rattle.lowered_laws.proofs.Had.{in_types}
use Rattle.lowered_laws.proofs.Functions.{all_here}

module _ (g : AtWork) (option payload : Sized) (place : TextPlace)
    (somes : (v : Value) → has_sizes g.table v payload ≡ true → has_sizes g.table (V.Union 0 0 v) option ≡ true)
    (none : has_sizes g.table (V.Union 0 1 V.Unit) option ≡ true) (known : g.tables.known option ≡ true) where
  abbrev stand : Stand
  stand = body_stand

  abbrev inner : Stand
  inner = failing g.table (kit g) 3 body_stand

  abbrev tail : Tail
  tail = some_tail (kit g) option payload (return_tail (kit g) stand) inner

  abbrev first : Piece → List Instruction
  first a = a.ended tail inner 5

  abbrev none_code : Instruction
  none_code = I.Apply (to (kit g) (Temp 0) (g.number option)) (O.Construct 1) (unit_source (kit g) ∷ [])

  abbrev some_code : Instruction
  some_code = I.Apply (to (kit g) (Temp 0) (g.number option)) (O.Construct 0) (from (kit g) (Temp 0) (g.number payload) ∷ [])

  abbrev ending_ : List Instruction
  ending_ = I.End (from (kit g) (Temp 0) (g.number option)) ∷ []

  -- how the run ends, by how the clauses do
  pub option_good : (m : Run Item Item) (a : Piece) → Good g m a → TypedBy payload m → (pc : ℕ) (sl : Slots) (now : Now Item) → now.ticks < g.depth
      → HasAt (own_code g) pc (event_code (kit g) place (optional_piece g.table (kit g) option payload a)) → Same g body_depths [] 0 sl now
      → Followed g.ending (m now) (λ x t. has_sizes g.table x.val payload ≡ true → g.ending ≡ J.Gives (V.Union 0 0 x.val) (bare t))
      (λ v t. g.ending ≡ J.Throws v (bare t)) (λ t. g.ending ≡ J.Gives (V.Union 0 1 V.Unit) (bare t))
      → RunsOn g pc sl (bare now)
  option_good m a good typed pc sl now tk at_ same th =
      let c1 : List Instruction = first a in
      let c2 : List Instruction = I.Goto 4 ∷ I.Label 3 ∷ ((none_code ∷ ending_) ++ I.Label 4 ∷ []) in
      let c3 : List Instruction = ends_code (kit g) place in
      let p1 : ℕ = pc + length c1 in
      let pf : ℕ = p1 + 1 in
      let pe : ℕ = pc + length (c1 ++ c2) in
      let ph : ℕ = pe + 1 + 1 in
      let h : HasAt (own_code g) pc (c1 ++ c2) = has_front (own_code g) pc (c1 ++ c2) c3 at_ in
      let h2 : HasAt (own_code g) p1 c2 = has_back (own_code g) pc c1 c2 p1 refl h in
      let h3 : HasAt (own_code g) pe c3 = has_back (own_code g) pc (c1 ++ c2) c3 pe refl at_ in
      let set : LabelsStand g inner ph pf = record { throws = h3.1.1.0; fails = h2.1.0 } in
      let K : Item → Now Item → Type 0 = λ x t. has_sizes g.table x.val payload ≡ true → g.ending ≡ J.Gives (V.Union 0 0 x.val) (bare t) in
      let H : Value → Now Item → Type 0 = λ v t. g.ending ≡ J.Throws v (bare t) in
      let N : Now Item → Type 0 = λ t. g.ending ≡ J.Gives (V.Union 0 1 V.Unit) (bare t) in
      let typed_ : Item → Now Item → Type 0 = λ x t. payload ≡ x.typ in
      good.run tail inner 5 pc p1 ph pf sl now tk refl (has_front (own_code g) pc c1 c2 h) set same (all_here a.notes)
      (onward g.ending (m now) (λ x t. K x t × typed_ x t) H N (Done g tail inner p1 sl now) (Catches g body_depths [] ph 0 sl now)
      (Fails g body_depths [] pf 0 sl now) (then_gives g.ending (m now) typed_ K H N (typed now) th)
      (λ x t both. record {
        by = λ sl1 l1 q k1 e1 had1 hp out.
            let r1 : List Instruction = retype (kit g) 0 (g.number x.typ) (g.number payload) in
            let r2 : List Instruction = some_code ∷ ending_ in
            let q1 : ℕ = q + length r1 in
            let hq : HasAt (own_code g) q1 r2 = has_back (own_code g) q r1 r2 q1 refl hp in
            let had : Sits g x.val payload = subst (λ r. Sits g x.val r) (sym both.1) had1 in
            retyped g.m g.lets g.hart g.here g.ending (kit g) g.names g.slots 0 (g.number x.typ) (g.number payload) x.val q sl1 (bare t)
            (has_front (own_code g) q r1 r2 hp) e1 (in_types g x.val payload had)
            (λ sl2 td e2.
            constructs g 0 0 0 q1 (from (kit g) (Temp 0) (g.number payload)) x.val option sl2 t (λ j. e2 j ∷ []) (somes x.val had.0, known) (hq.0, tt)
            (λ sl3 td3 e3.
            over g.m g.lets g.hart g.here g.ending (q1 + 1) sl3 (bare t) (I.End (from (kit g) (Temp 0) (g.number option))) hq.1.0
            (ap (λ w. Over (J.Gives w (bare t))) e3 ∙ ap Over (sym (both.0 had.0)))));
      })
      (λ v t e. record {
        by = λ sl1 k1 is.
            past g.m g.lets g.hart g.here g.ending ph 0 sl1 (bare t) h3.1.1.0
            (over g.m g.lets g.hart g.here g.ending (ph + 1) sl1 (bare t) (I.Throw (from (kit g) Raised g.exception)) h3.1.1.1.0
            (ap (λ w. Over (J.Throws w (bare t))) is ∙ ap Over (sym e)));
      })
      (λ t e. record {
        by = λ sl1 k1.
            past g.m g.lets g.hart g.here g.ending pf 3 sl1 (bare t) h2.1.0
            (constructs g 0 1 0 (pf + 1) (unit_source (kit g)) V.Unit option sl1 t refl (none, known) (h2.1.1.0, tt)
            (λ sl3 td3 e3.
            over g.m g.lets g.hart g.here g.ending (pf + 1 + 1) sl3 (bare t) (I.End (from (kit g) (Temp 0) (g.number option))) h2.1.1.1.0
            (ap (λ w. Over (J.Gives w (bare t))) e3 ∙ ap Over (sym e))));
      }))
