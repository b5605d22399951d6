-- The body of a function: what it comes to is what its code ends with.
use Rattle.std.proofs.Common.{◌≡◌, ◌∙◌, ℕ, ◌+◌, ◌<◌, List, [], ◌∷◌, length, refl, sym, ap}
use Rattle.sail_base.specs.declared.place.Place.{Place as TextPlace}
use Rattle.sail_types.specs.declared.values.Value.{Value}
use Rattle.model_state.specs.declared.cause.Cause.TheVariants.{MatchFailure}
use Rattle.jib.specs.declared.code.Instruction.{Instruction}
use Rattle.jib.specs.declared.code.Instruction.TheVariants as I
use Rattle.jib.specs.Jib.{Slots, Over}
use Rattle.jib.specs.Jib as J
use Rattle.sail_core.specs.Run.{Now, Run, gives, returns, stops, ◌then◌, ◌or_else◌}
use Rattle.sail_core.specs.Making.{made}
use Rattle.checked_meaning.specs.Items.{Item}
use Rattle.lowered_pieces.specs.Places.{Raised, from}
use Rattle.lowered_laws.specs.Standing.{HasAt}
use Rattle.lowered_laws.proofs.Pieces.{has_front, has_back}
use Rattle.lowered_laws.proofs.Steps.{over, past}
use Rattle.lowered_pieces.specs.Forms.{Piece, no_tail, cast_piece, return_piece}
use Rattle.lowered_pieces.specs.Functions.{body_depths, body_stand, ends_code, answer_code}
use Rattle.lowered_laws.specs.Simulation.{Writable, bare, Followed, AtWork, kit, own_code, reading, RunsOn, Same, Done, Catches, Fails, LabelsStand, Good}
use Rattle.lowered_laws.proofs.Follows.{close_then, open_or, open_then, onward}
use Rattle.lowered_laws.proofs.Ended.{cast_good}
use Rattle.lowered_laws.proofs.Branches.{return_good}

-- outside of all branches each number stands at the one depth that there is
pub all_here : (xs : List ℕ) → Writable body_depths xs
all_here [] = tt
all_here (x ∷ xs) = (refl, all_here xs)

module _ (g : AtWork) where
  -- the clauses in order, and the type of the result
  abbrev pub answer_run : TextPlace → ℕ → Run Item Item → Run Item Value
  answer_run place last me = (me or_else stops (MatchFailure place)) then λ x. made (reading g) last (x ∷ []) x.val then λ y. gives y.val

  abbrev pub with_result : ℕ → Piece → Piece
  with_result last p = cast_piece (kit g) g.number (g.tables.cases last 1) (g.tables.gives last) p

  -- the code ends as its ground says, where that is what the body comes to
  pub answer_good : (place : TextPlace) (last : ℕ) (me : Run Item Item) (p : Piece) → Good g me p → (l pc : ℕ) (sl : Slots) (now : Now Item)
      → now.ticks < g.depth → HasAt (own_code g) pc (answer_code (kit g) place (with_result last p) l) → Same g body_depths [] 0 sl now
      → Followed g.ending (answer_run place last me now) (λ v t. g.ending ≡ J.Gives v (bare t)) (λ v t. g.ending ≡ J.Throws v (bare t)) (λ t. ⊥)
      → RunsOn g pc sl (bare now)
  answer_good place last me p good l pc sl now tk at_ same th =
      let q : Piece = with_result last p in
      let c1 : List Instruction = (return_piece (kit g) q).ended no_tail body_stand l in
      let c2 : List Instruction = ends_code (kit g) place in
      let pf : ℕ = pc + length c1 in
      let ph : ℕ = pf + 1 + 1 in
      let h1 : HasAt (own_code g) pf c2 = has_back (own_code g) pc c1 c2 pf refl at_ in
      let set : LabelsStand g body_stand ph pf = record { throws = h1.1.1.0; fails = h1.0 } in
      let K0 : Value → Now Item → Type 0 = λ v t. g.ending ≡ J.Gives v (bare t) in
      let H0 : Value → Now Item → Type 0 = λ v t. g.ending ≡ J.Throws v (bare t) in
      let N0 : Now Item → Type 0 = λ t. ⊥ in
      let D = Done g no_tail body_stand pf sl now in
      let H = Catches g body_depths [] ph 0 sl now in
      let N = Fails g body_depths [] pf 0 sl now in
      let ending_of : Item → Run Item Item = λ x. made (reading g) last (x ∷ []) x.val in
      let kont : Item → Run Item Value = λ x. ending_of x then λ y. gives y.val in
      let whole : Run Item Item = me then ending_of in
      let out : Item → Run Item Item = λ y. returns y.val in
      let K2 : Item → Now Item → Type 0 = λ y u. Followed g.ending (out y u) D H N in
      let thrown : (v : Value) (t : Now Item) → H0 v t → H v t = λ v t e. record {
        by = λ sl1 k1 is.
            past g.m g.lets g.hart g.here g.ending ph 0 sl1 (bare t) h1.1.1.0
            (over g.m g.lets g.hart g.here g.ending (ph + 1) sl1 (bare t) (I.Throw (from (kit g) Raised g.exception)) h1.1.1.1.0
            (ap (λ w. Over (J.Throws w (bare t))) is ∙ ap Over (sym e)));
      } in
      let failed : (t : Now Item) → g.ending ≡ J.Stops (MatchFailure place) (bare t) → N t = λ t e. record {
        by = λ sl1 k1.
            past g.m g.lets g.hart g.here g.ending pf 1 sl1 (bare t) h1.0
            (over g.m g.lets g.hart g.here g.ending (pf + 1) sl1 (bare t) (I.Stop (MatchFailure place)) h1.1.0 (ap Over (sym e)));
      } in
      let valued : (x : Item) (t : Now Item) → Followed g.ending (kont x t) K0 H0 N0 → Followed g.ending (ending_of x t) K2 H N = λ x t th1.
      onward g.ending (ending_of x t) (λ y u. K0 y.val u) H0 N0 K2 H N (open_then g.ending (ending_of x t) (λ y. gives y.val) K0 H0 N0 th1) (λ y u e. e)
      thrown (λ u e. absurd e) in
      (return_good g whole q (cast_good g me p good last)).run no_tail body_stand l pc pf ph pf sl now tk refl (has_front (own_code g) pc c1 c2 at_) set same
      (all_here q.notes)
      (close_then g.ending (whole now) out D H N
      (close_then g.ending (me now) ending_of K2 H N
      (onward g.ending (me now) (λ x t. Followed g.ending (kont x t) K0 H0 N0) H0 (λ t. g.ending ≡ J.Stops (MatchFailure place) (bare t))
      (λ x t. Followed g.ending (ending_of x t) K2 H N) H N
      (open_or g.ending (me now) (stops (MatchFailure place)) (λ x t. Followed g.ending (kont x t) K0 H0 N0) H0 N0
      (open_then g.ending ((me or_else stops (MatchFailure place)) now) kont K0 H0 N0 th))
      valued thrown failed)))
