-- Calls one after another: their reservations, and where an access among them comes from.
use Rattle.std.proofs.Common.{◌≡◌, ℕ, zero, suc, ◌+◌, ◌-◌, ◌<◌, ◌≤◌, nat_eq, Bool, true, false, not, ◌&&◌, List, []}
use Rattle.std.proofs.Common.{◌∷◌, ◌++◌, length, map, slice_get, Option, Some, None, IsTrue, ◌↔◌, refl, sym, ap, ◌∙◌}
use Rattle.std.proofs.Common.{subst, arith}
use Rattle.std.specs.Bool.{if◌then◌else◌}
use Rattle.std.specs.List.{fold}
use Rattle.model_state.specs.declared.state.Hart.{Hart}
use Rattle.model_state.specs.declared.state.Reservation.{Reservation}
use Rattle.model_state.specs.RunState.{RunState, Access, read, reserve, write, write_cond, mapped, put, changed}
use Rattle.model_state.specs.StateRows.{Call, reading, reserving, writing, writing_cond, asking, putting, access_of}
use Rattle.model_state.specs.StateRows.{state_after, then_accesses, touches, covers, kept_by, reservation, hart_with}
use Rattle.model_state.specs.StateRows.{with_reservation, after_write, written, may_write, is_there, word_at}
use Rattle.model_state.specs.laws.Accesses.{SameMemory, IsCall, Calls, Stands, MayWrite, Unreserved, ReservationsHold}
use Rattle.model_state.proofs.Kept.{kept_after, set_kept, written_kept, length-written, same_kept, stands_kept, kept_stands}

-- ---- one call

reserve_kept : (there : Bool) (u : RunState) (h w a j : ℕ) (word : List Bool) → h < length u.harts → reservation
    (if there then with_reservation h (Some (record { place = a; width = w })) u else u) j ≡ fold (kept_after j)
    (reservation u j) (then_accesses (if there then Some (reserve h w a word) else None) [])
reserve_kept true u h w a j word k = set_kept (Some (record { place = a; width = w })) u.harts h j k
reserve_kept false u h w a j word k = refl

write_kept : (there : Bool) (u : RunState) (h w a j : ℕ) (word : List Bool) → reservation (if there then written u w a
    word else u) j ≡ fold (kept_after j) (reservation u j) (then_accesses (if there then Some (write h w a word) else
    None) [])
write_kept true u h w a j word = written_kept w a u.harts j
write_kept false u h w a j word = refl

done_kept : (done : Bool) (u : RunState) (h w a j : ℕ) (word : List Bool) → h < length u.harts → reservation
    (with_reservation h None (if done then written u w a word else u)) j ≡ kept_after j (reservation u j)
    (write_cond h w a word done)
done_kept true u h w a j word k =
    set_kept None (map (after_write w a) u.harts) h j (omega (arith, length-written w a u.harts)) ∙ ap
    (λ kept. if nat_eq h j then None else kept) (written_kept w a u.harts j)
done_kept false u h w a j word k = set_kept None u.harts h j k

cond_kept : (there done : Bool) (u : RunState) (h w a j : ℕ) (word : List Bool) → h < length u.harts → reservation
    (if there then with_reservation h None (if done then written u w a word else u) else u) j ≡ fold (kept_after j)
    (reservation u j) (then_accesses (if there then Some (write_cond h w a word done) else None) [])
cond_kept true done u h w a j word k = done_kept done u h w a j word k
cond_kept false done u h w a j word k = refl

read_kept : (there : Bool) (h w a j : ℕ) (word : List Bool) (kept : Option Reservation) → kept ≡ fold (kept_after j)
    kept (then_accesses (if there then Some (read h w a word) else None) [])
read_kept true h w a j word kept = refl
read_kept false h w a j word kept = refl

-- a hart's reservation after a call
call_kept : (call : Call) (u : RunState) (j : ℕ) → IsCall call u → reservation (state_after call u) j ≡ fold
    (kept_after j) (reservation u j) (then_accesses (access_of call u) [])
call_kept (reading h w a) u j k = read_kept (is_there u w a) h w a j (word_at u w a) (reservation u j)
call_kept (reserving h w a) u j k = reserve_kept (is_there u w a) u h w a j (word_at u w a) k
call_kept (writing h w a word) u j k = write_kept (is_there u w a) u h w a j word
call_kept (writing_cond h w a word) u j k = cond_kept (is_there u w a) (may_write h u w a) u h w a j word k
call_kept (asking h w a) u j k = refl
call_kept (putting h text) u j k = refl

-- ---- calls one after another

fold_then : {B : Type 0} (f : B → Access → B) (start : B) (x : Option Access) (rest : List Access) → fold f start
    (then_accesses x rest) ≡ fold f (fold f start (then_accesses x [])) rest
fold_then f start None rest = refl
fold_then f start (Some x) rest = refl

pub calls_kept : (calls : List Call) (s t : RunState) (xs : List Access) (j : ℕ) → Calls calls s xs t → reservation t
    j ≡ fold (kept_after j) (reservation s j) xs
calls_kept [] s t xs j c = same_kept s t j c.0 ∙ ap (fold (kept_after j) (reservation s j)) (sym c.1)
calls_kept (call ∷ calls) s t xs j (u, same, is_call, (rest, e, more)) =
    calls_kept calls (state_after call u) t rest j more
    ∙ ap (λ kept. fold (kept_after j) kept rest) (call_kept call u j is_call ∙ ap (λ kept. fold (kept_after j) kept
    (then_accesses (access_of call u) [])) (same_kept s u j same))
    ∙ sym (fold_then (kept_after j) (reservation s j) (access_of call u) rest) ∙ ap (fold (kept_after j) (reservation s j)) (sym e)

-- an access among those of calls: the calls before it, the state then and the call that makes it
pub record Located (s : RunState) (before : List Access) (x : Access) : Type 0 where
  pub earlier : List Call
  pub now : RunState
  pub call : Call
  pub calls : Calls earlier s before now
  pub makes : access_of call now ≡ Some x

later : (call : Call) (s u : RunState) (x : Access) (rest before : List Access) → SameMemory s u → IsCall call u →
    before ≡ then_accesses (access_of call u) rest → Located (state_after call u) rest x → Located s before x
later call s u x rest before same is_call e found = record {
  earlier = call ∷ found.earlier;
  now = found.now;
  call = found.call;
  calls = (u, same, is_call, (rest, e, found.calls));
  makes = found.makes;
}

not_empty : (before after : List Access) (x : Access) → [] ≡ before ++ x ∷ after → ⊥
not_empty [] after x e = cc
not_empty (y ∷ before) after x e = cc

-- at one call: the access is its own, or comes later
at_call : (call : Call) (s u : RunState) (rest xs before after : List Access) (x : Access) (made : Option Access) →
    SameMemory s u → IsCall call u → access_of call u ≡ made → xs ≡ then_accesses made rest → xs ≡ before ++ x ∷ after
    → ((before after : List Access) → rest ≡ before ++ x ∷ after → Located (state_after call u) before x) → Located s
    before x
at_call call s u rest xs before after x None same is_call k e h more =
    later call s u x before before same is_call (sym (ap (λ made. then_accesses made before) k)) (more before after (sym e ∙ h))
at_call call s u rest xs [] after x (Some y) same is_call k e h more =
    let f : y ∷ rest ≡ x ∷ after = sym e ∙ h in
    let g : y ≡ x = cc in
    record { earlier = []; now = u; call = call; calls = (same, refl); makes = k ∙ ap Some g }
at_call call s u rest xs (b ∷ before) after x (Some y) same is_call k e h more =
    let f : y ∷ rest ≡ b ∷ (before ++ x ∷ after) = sym e ∙ h in
    let g : y ≡ b = cc in
    let r : rest ≡ before ++ x ∷ after = cc in
    later call s u x before (b ∷ before) same is_call ((λ i. sym g i ∷ before) ∙ sym (ap (λ made. then_accesses made before) k)) (more before after r)

pub located : (calls : List Call) (s t : RunState) (xs before after : List Access) (x : Access) → Calls calls s xs t →
    xs ≡ before ++ x ∷ after → Located s before x
located [] s t xs before after x c e = absurd (not_empty before after x (sym c.1 ∙ e))
located (call ∷ calls) s t xs before after x (u, same, is_call, (rest, e, more)) h =
    at_call call s u rest xs before after x (access_of call u) same is_call refl e h (λ before after f. located calls
    (state_after call u) t rest before after x more f)

-- ---- the law

-- the call that makes a conditional write, and its answer
made_cond : (there : Bool) (h w a h' w' a' : ℕ) (word word' : List Bool) (done done' : Bool) (u : RunState) → done' ≡
    may_write h' u w' a' → (if there then Some (write_cond h' w' a' word' done') else None) ≡ Some
    (write_cond h w a word done) → done ≡ may_write h u w a
made_cond true h w a h' w' a' word word' done done' u m e =
    let p : h' ≡ h = cc in let q : w' ≡ w = cc in let r : a' ≡ a = cc in let d : done' ≡ done = cc in
    sym d ∙ m ∙ (λ i. may_write (p i) u (q i) (r i))
made_cond false h w a h' w' a' word word' done done' u m e = absurd (cc)

other : (there : Bool) (x y : Access) → (Some x ≡ Some y → ⊥) → (if there then Some x else None) ≡ Some y → ⊥
other true x y n e = n e
other false x y n e = cc

cond_done : (call : Call) (u : RunState) (h w a : ℕ) (word : List Bool) (done : Bool) → access_of call u ≡ Some
    (write_cond h w a word done) → done ≡ may_write h u w a
cond_done (reading g v b) u h w a word done e = absurd (other (is_there u v b) (read g v b (word_at u v b)) (write_cond h w a word done) (λ f. cc) e)
cond_done (reserving g v b) u h w a word done e = absurd (other (is_there u v b) (reserve g v b (word_at u v b)) (write_cond h w a word done) (λ f. cc) e)
cond_done (writing g v b x) u h w a word done e = absurd (other (is_there u v b) (write g v b x) (write_cond h w a word done) (λ f. cc) e)
cond_done (writing_cond g v b x) u h w a word done e = made_cond (is_there u v b) h w a g v b word x done (may_write g u v b) u refl e
cond_done (asking g v b) u h w a word done e = absurd (cc)
cond_done (putting g text) u h w a word done e = absurd (cc)

covered_stands : (h w a : ℕ) (before : List Access) (kept : Option Reservation) → fold (kept_after h) None before ≡
    kept → covers w a kept ≡ true → MayWrite h w a before
covered_stands h w a before None e c = absurd (cc)
covered_stands h w a before (Some kept) e c = record { kept = kept; stands = kept_stands h kept before e; covered = c }

pub reservations-hold : ReservationsHold
reservations-hold calls s t before after h w a word done unreserved c =
    let found = located calls s t (before ++ write_cond h w a word done ∷ after) before after (write_cond h w a word done) c refl in
    let answer : done ≡ may_write h found.now w a = cond_done found.call found.now h w a word done found.makes in
    let now : reservation found.now h ≡ fold (kept_after h) None before =
    calls_kept found.earlier s found.now before h found.calls ∙ ap (λ kept. fold (kept_after h) kept before) (unreserved h) in (
      λ d. covered_stands h w a before (fold (kept_after h) None before) refl (ap (covers w a) (sym now) ∙ sym answer ∙ d),
      λ m. answer ∙ ap (covers w a) (now ∙ stands_kept h m.kept before None m.stands) ∙ m.covered,
    )
