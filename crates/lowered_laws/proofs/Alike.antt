-- Names and values of an arm stand in the same places, whatever the types of what is matched are.
use Rattle.std.proofs.Common.{◌≡◌, ◌∙◌, ℕ, zero, suc, ◌+◌, Bool, true, false, List, [], ◌∷◌, ◌++◌, length, map, Option, Some, None, refl, sym, ap}
use Rattle.std.proofs.lemmas.List.{length-map}
use Rattle.std.specs.Prelude.{◌-◌}
use Rattle.std.proofs.Common.{arith, if◌then◌else◌}
use Rattle.std.specs.Prelude.{nat_eq}
use Rattle.std.proofs.lemmas.List.{map-append}
use Rattle.size_values.specs.declared.sized.Sized.{Sized, out-Sized}
use Rattle.sail_core.specs.declared.patterns.Head.{Head}
use Rattle.sail_core.specs.declared.patterns.Head.TheVariants as H
use Rattle.sail_core.specs.declared.patterns.Step.{Step}
use Rattle.sail_core.specs.declared.patterns.Step.TheVariants as S
use Rattle.sail_core.specs.Run.{◌then◌}
use Rattle.sail_core.specs.Making.{payload}
use Rattle.sail_types.specs.declared.numbers.Num.{Num}
use Rattle.sail_core.specs.Patterns.{known_sum, solved}
use Rattle.checked_meaning.specs.Checked.{Noted}
use Rattle.sized_meanings.specs.Present.{is_noted, is_present, present}
use Rattle.lowered_pieces.specs.Places.{Place, Temp}
use Rattle.lowered_pieces.specs.Forms.{End}
use Rattle.lowered_pieces.specs.Arms.{Choice, Held, Hand, Matched, Taken, arguments, choices, choices_at, given_held, held_at, in_hand, is_union, picked_of}
use Rattle.lowered_pieces.specs.Arms.{skipped, at_hand, fields_held, head_taken, many_taken, one_taken, part_at}
use Rattle.lowered_pieces.specs.Arms.{cut_takes, cut_widths, part_width, word_takes, word_width}
use Rattle.lowered_pieces.specs.Arms.{payload_taken, takes_held, vector_takes, step_hand, steps_hand, begun, arm_hand}
use Rattle.lowered_pieces.specs.Arms.{first_hand, list_held, rest_at}
use Rattle.lowered_laws.specs.Simulation.{AtWork, kit}
use Rattle.lowered_laws.proofs.Works.{none_is, some_same}

module _ (g : AtWork) where
  abbrev step_of : Step → Hand → ℕ → Hand
  step_of st hd fail = step_hand g.table (kit g) st hd fail

  -- ---- places are the same whatever the types are

  abbrev pub places : List Held → List Place
  places hs = map (λ h. h.place) hs

  pub record Alike (a b : Hand) : Type 0 where
    pub values : places a.values ≡ places b.values
    pub names : a.names ≡ b.names
    pub free : a.free ≡ b.free

  place_at : (hs ks : List Held) (i : ℕ) → places hs ≡ places ks → (at_hand g.table (kit g) hs i).place ≡ (at_hand g.table (kit g) ks i).place
  place_at [] [] i e = refl
  place_at [] (k ∷ ks) i e = cc
  place_at (h ∷ hs) [] i e = cc
  place_at (h ∷ hs) (k ∷ ks) zero e = first_same h.place k.place (places hs) (places ks) e
    where
      first_same : (p q : Place) (ps qs : List Place) → p ∷ ps ≡ q ∷ qs → p ≡ q
      first_same p q ps qs e = cc
  place_at (h ∷ hs) (k ∷ ks) (suc i) e = place_at hs ks i (rest_same h.place k.place (places hs) (places ks) e)
    where
      rest_same : (p q : Place) (ps qs : List Place) → p ∷ ps ≡ q ∷ qs → ps ≡ qs
      rest_same p q ps qs e = cc

  fields_places : (h k : Held) (j q n : ℕ) → places (fields_held g.table (kit g) h j q n) ≡ places (fields_held g.table (kit g) k j q n)
  fields_places h k j q zero = refl
  fields_places h k j q (suc n) = ap (λ ps. Temp q ∷ ps) (fields_places h k (suc j) (q + 1) n)

  vector_places : (h k : Held) (q n : ℕ)
      → places (takes_held g.table (kit g) (vector_takes g.table (kit g) h n) q) ≡ places (takes_held g.table (kit g) (vector_takes g.table (kit g) k n) q)
  vector_places h k q zero = refl
  vector_places h k q (suc n) = ap (λ ps. Temp q ∷ ps) (vector_places h k (q + 1) n)

  -- as many parts of a word have the same places, whatever their widths are
  cuts_places : (h k : Held) (m p : ℕ) (ns ms : List ℕ) (q : ℕ) → length ns ≡ length ms
      → places (takes_held g.table (kit g) (cut_takes g.table (kit g) h m ns) q)
      ≡ places (takes_held g.table (kit g) (cut_takes g.table (kit g) k p ms) q)
  cuts_places h k m p [] [] q e = refl
  cuts_places h k m p [] (y ∷ ms) q e = absurd (nothing (length ms) e)
    where
      nothing : (n : ℕ) → 0 ≡ suc n → ⊥
      nothing n e = omega (arith, e)
  cuts_places h k m p (x ∷ ns) [] q e = absurd (nothing (length ns) e)
    where
      nothing : (n : ℕ) → suc n ≡ 0 → ⊥
      nothing n e = omega (arith, e)
  cuts_places h k m p (x ∷ ns) (y ∷ ms) q e = ap (λ ps. Temp q ∷ ps) (cuts_places h k (m - x) (p - y) ns ms (q + 1) (omega (arith, e)))

  word_places : (h k : Held) (ws : List (Option Num)) (q : ℕ)
      → places (takes_held g.table (kit g) (word_takes g.table (kit g) h ws) q) ≡ places (takes_held g.table (kit g) (word_takes g.table (kit g) k ws) q)
  word_places h k ws q =
      let m : ℕ = word_width (out-Sized h.typ) in
      let p : ℕ = word_width (out-Sized k.typ) in
      let us : List (Option ℕ) = map (part_width g.size) ws in
      cuts_places h k m p (cut_widths m us) (cut_widths p us) q
      (length-map us (solved (m - known_sum us)) ∙ sym (length-map us (solved (p - known_sum us))))

  list_places : (h k : Held) (n q : ℕ) → places (list_held g.table (kit g) h n q) ≡ places (list_held g.table (kit g) k n q)
  list_places h k zero q = refl
  list_places h k (suc n) q = ap (λ ps. Temp q ∷ ps) (list_places (rest_at g.table (kit g) h q) (rest_at g.table (kit g) k q) n (q + 2))

  abbrev SameTaken : Taken → Taken → Type 0
  SameTaken t u = (places t.parts ≡ places u.parts) × (t.free ≡ u.free)

  payload_places : (h k : Held) (u c n q fail : ℕ)
      → SameTaken (payload_taken g.table (kit g) h u c n q fail) (payload_taken g.table (kit g) k u c n q fail)
  payload_places h k u c n q fail = by (nat_eq n 1)
    where
      h2 : Held
      h2 = part_at g.table (kit g) (payload u c) h q

      k2 : Held
      k2 = part_at g.table (kit g) (payload u c) k q

      by : (b : Bool) → SameTaken (if b then one_taken g.table (kit g) h u c q fail else many_taken g.table (kit g) h u c n q fail)
          (if b then one_taken g.table (kit g) k u c q fail else many_taken g.table (kit g) k u c n q fail)
      by true = (refl, refl)
      by false = (fields_places h2 k2 0 (q + 1) n, refl)

  union_places : (h k : Held) (u c n q fail : ℕ) → SameTaken (head_taken g.table (kit g) h (H.Constructor u c) n q fail)
      (head_taken g.table (kit g) k (H.Constructor u c) n q fail)
  union_places h k u c n q fail = by (is_union u (out-Sized h.typ)) (is_union u (out-Sized k.typ)) (payload_places h k u c n q fail)
    where
      by : (a b : Bool) → SameTaken (payload_taken g.table (kit g) h u c n q fail) (payload_taken g.table (kit g) k u c n q fail)
          → SameTaken (if a then payload_taken g.table (kit g) h u c n q fail else skipped fail (payload_taken g.table (kit g) h u c n q fail))
          (if b then payload_taken g.table (kit g) k u c n q fail else skipped fail (payload_taken g.table (kit g) k u c n q fail))
      by true true e = e
      by true false e = e
      by false true e = e
      by false false e = e

  head_places : (h k : Held) (head : Head) (n q fail : ℕ)
      → SameTaken (head_taken g.table (kit g) h head n q fail) (head_taken g.table (kit g) k head n q fail)
  head_places h k (H.Is l) n q fail = (refl, refl)
  head_places h k H.Tuple n q fail = (fields_places h k 0 q n, refl)
  head_places h k (H.Constructor u c) n q fail = union_places h k u c n q fail
  head_places h k H.Vector n q fail = (vector_places h k q n, refl)
  head_places h k (H.Cut ws) n q fail = (word_places h k ws q, refl)
  head_places h k H.List n q fail = (list_places h k n q, refl)
  head_places h k H.Cons n q fail = (refl, refl)

  -- what a direction gives
  abbrev seen : Hand → ℕ → List Held
  seen hd d = held_at hd.free (g.ways d).gives ∷ []

  step_alike : (st : Step) (a b : Hand) (fail : ℕ) → Alike a b → Alike (step_of st a fail) (step_of st b fail)
  step_alike (S.Opens i head k) a b fail e =
      let ha : Held = at_hand g.table (kit g) a.values i in
      let hb : Held = at_hand g.table (kit g) b.values i in
      let same = head_places ha hb head k a.free fail in
      let taken_ : ℕ → Taken = λ q. head_taken g.table (kit g) hb head k q fail in
      record {
        values = map-append (λ (h : Held). h.place) a.values (head_taken g.table (kit g) ha head k a.free fail).parts
            ∙ (λ j. e.values j ++ (same.0 ∙ ap (λ q. places (taken_ q).parts) e.free) j)
            ∙ sym (map-append (λ (h : Held). h.place) b.values (taken_ b.free).parts);
        names = e.names;
        free = same.1 ∙ ap (λ q. (taken_ q).free) e.free;
      }
  step_alike (S.Names i name) a b fail e = record {
    values = map-append (λ (h : Held). h.place) a.values [] ∙ (λ j. e.values j ++ []) ∙ sym (map-append (λ (h : Held). h.place) b.values []);
    names = λ j. e.names j ++ record { name = name; place = place_at a.values b.values i e.values j } ∷ [];
    free = e.free;
  }
  step_alike (S.Sees i direction) a b fail e = record {
    values = map-append (λ (h : Held). h.place) a.values (seen a direction) ∙ (λ j. e.values j ++ Temp (e.free j) ∷ [])
        ∙ sym (map-append (λ (h : Held). h.place) b.values (seen b direction));
    names = e.names;
    free = ap (λ q. q + 1) e.free;
  }

  steps_alike : (ss : List Step) (a b : Hand) (fail : ℕ) → Alike a b → Alike (steps_hand g.table (kit g) ss a fail) (steps_hand g.table (kit g) ss b fail)
  steps_alike [] a b fail e = e
  steps_alike (st ∷ ss) a b fail e = steps_alike ss (step_of st a fail) (step_of st b fail) fail (step_alike st a b fail e)

  -- each choice stands where the first does
  choice_places : (q : ℕ) (es : List End) (opened : Noted) (c : Choice) → present picked_of opened (choices_at q es) ≡ Some c
      → places c.values ≡ Temp q ∷ []
  choice_places q [] opened c e = none_is c e
  choice_places q (y ∷ es) opened c e = by (is_noted opened y.picked) (is_present opened y.picked) (λ f. choice_places q es opened c f) e
    where
      here_ : Choice
      here_ = record { picked = y.picked; values = held_at q y.typ ∷ [] }

      by : (a b : Bool) → (present picked_of opened (choices_at q es) ≡ Some c → places c.values ≡ Temp q ∷ [])
          → (if a then (if b then Some here_ else present picked_of opened (choices_at q es)) else None) ≡ Some c → places c.values ≡ Temp q ∷ []
      by true true rest f = ap (λ (x : Choice). places x.values) (sym (some_same here_ c f))
      by true false rest f = rest f
      by false b rest f = none_is c f

  abbrev given_choice : List Sized → Choice
  given_choice ts = record { picked = []; values = given_held 0 ts }

  pub first_alike : (m : Matched) (ss : List Step) (p q fail : ℕ) (opened : Noted) (c : Choice) → present picked_of opened (choices m p) ≡ Some c
      → Alike (arm_hand g.table (kit g) ss q fail c.values) (first_hand g.table (kit g) ss q fail (choices m p))
  first_alike (in_hand []) ss p q fail opened c e = none_is c e
  first_alike (in_hand (y ∷ es)) ss p q fail opened c e =
      steps_alike ss (begun g.table (kit g) c.values q) (begun g.table (kit g) (held_at p y.typ ∷ []) q) fail
      (record { values = choice_places p (y ∷ es) opened c e; names = refl; free = refl })
  first_alike (arguments ts) ss p q fail opened c e =
      let is : given_choice ts ≡ c = some_same (given_choice ts) c e in
      steps_alike ss (begun g.table (kit g) c.values q) (begun g.table (kit g) (given_held 0 ts) q) fail
      (record { values = ap (λ (x : Choice). places x.values) (sym is); names = refl; free = refl })
