-- Bodies of what comes last, and the list as it grows.
use Rattle.std.proofs.Common.{◌≡◌, ◌∙◌, ap, sym, refl, ℕ, zero, suc, ◌+◌, ◌-◌, ◌<◌, ◌≤◌, List, [], ◌∷◌, drop, take, length, get_or, map, min, arith}
use Rattle.std.proofs.Common.{length-drop}
use Rattle.std.proofs.lemmas.List.{take_all}
use Rattle.std.specs.Prelude.{Option, Some, None, Result, Ok, Err, IfOk, slice_get}
use Rattle.sail_base.specs.declared.place.Place.{Place}
use Rattle.size_values.specs.declared.sizes.Size.{Size}
use Rattle.size_splits.specs.declared.bodies.BodySteps.{BodySteps}
use Rattle.sail_core.specs.declared.model.Opening.{Opening}
use Rattle.sail_core.specs.declared.model.RegisterText.{RegisterText}
use Rattle.model_state.specs.declared.state.Register.{Register}
use Rattle.size_notes.proofs.Lists.{rest_at}
use Rattle.size_splits.specs.Bodies.{Body, body_read}
use Rattle.monomorph.specs.declared.error.MonoError.{MonoError}
use Rattle.monomorph.specs.declared.found.Found.{Found}
use Rattle.monomorph.specs.Found.{Answer, and_then, outcome, over}
use Rattle.monomorph.specs.Instances.{found_from, grow, grow_from, one_or_none, read_found, read_mapping, times_enough}
use Rattle.monomorph.specs.Lasts.{Model, count_before, last_from, read_bodies, read_lasts, read_register, written_refused}
use Rattle.monomorph.specs.Reading.{read_body}
use Rattle.monomorph.proofs.Over.{then_on, then_refused}

-- ---- parts of lists

pub all_rest : {A : Type 0} (xs : List A) (n : ℕ) → take (length xs - n) (drop n xs) ≡ drop n xs
all_rest xs n = take_all (length xs - n) (drop n xs) (let e = length-drop n xs in omega (arith, e))

pub map_take : {A B : Type 0} (f : A → B) (n : ℕ) (xs : List A) → map f (take n xs) ≡ take n (map f xs)
map_take f zero xs = refl
map_take f (suc n) [] = refl
map_take f (suc n) (x ∷ xs) = ap (λ l. f x ∷ l) (map_take f n xs)

pub map_drop : {A B : Type 0} (f : A → B) (n : ℕ) (xs : List A) → map f (drop n xs) ≡ drop n (map f xs)
map_drop f zero xs = refl
map_drop f (suc n) [] = refl
map_drop f (suc n) (x ∷ xs) = map_drop f n xs

pub map_rest : {A B : Type 0} (f : A → B) (n : ℕ) (xs : List A) → map f (take (length xs - n) (drop n xs)) ≡ drop n (map f xs)
map_rest f n xs = ap (map f) (all_rest xs n) ∙ map_drop f n xs

slice_map : {A B : Type 0} (f : A → B) (xs : List A) (i : ℕ) (x : A) → slice_get xs i ≡ Some x → slice_get (map f xs) i ≡ Some (f x)
slice_map f [] i x e = let h : None ≡ Some x = e in absurd (cc)
slice_map f (y ∷ xs) zero x e =
    let h : Some y ≡ Some x = e in
    let same : y ≡ x = cc h in
    ap (λ z. Some (f z)) same
slice_map f (y ∷ xs) (suc i) x e = slice_map f xs i x e

-- ---- what is written and what is read

pub none_written : (places : List Place) (sizes : List Size) → length sizes < 1 → None ≡ written_refused places sizes
none_written [] sizes few = refl
none_written (place ∷ places) [] few = refl
none_written (place ∷ places) (s ∷ sizes) few = absurd (omega arith)

only_one : (o : Option MonoError) (new : List Found) (answer : Answer) (next : List Found → Answer) → ((found : List Found) → next found ≡ Ok found)
    → outcome o new ≡ answer → outcome o new ≡ and_then answer next
only_one None new answer next ends h = sym (ends new) ∙ ap (λ (a : Answer). and_then a next) h
only_one (Some e) new answer next ends h = ap (λ (a : Answer). and_then a next) h

pub one_mapping : {E : Type 0} (r : Result (Option MonoError) E) (m : Model) (steps : List BodySteps) (i : ℕ) (b : BodySteps) (found new : List Found)
    → m.bodies.mappings ≡ map body_read steps → slice_get steps i ≡ Some b
    → IfOk r (λ o. outcome o new ≡ read_body m.core.types m.sizing [] [] (body_read b) found)
    → IfOk r (λ o. outcome o new ≡ read_mapping m i found)
one_mapping (Ok o) m steps i b found new same there h =
    let body = read_body m.core.types m.sizing [] [] in
    let is : slice_get m.bodies.mappings i ≡ Some (body_read b) = ap (λ l. slice_get l i) same ∙ slice_map body_read steps i b there in
    only_one o new (body (body_read b) found) (over body []) (λ f. refl) h
    ∙ ap (λ o. read_bodies m [] [] (one_or_none o) found) (sym is)
one_mapping (Err e) m steps i b found new same there h = tt

-- ---- registers, and bodies among them

module _ (m : Model) (rs : List Register) (texts : List RegisterText) (os : List Opening) (bs : List Body) where
  -- the register at a place, and what comes behind it
  module _ (k : ℕ) (r : Register) (text : RegisterText) (found : List Found) (all : Answer) (p : k < length rs) (q : k < length texts)
      (at_register : r ≡ get_or rs k r) (at_text : text ≡ get_or texts k text) (whole : last_from m (drop k rs) (drop k texts) os bs found ≡ all) where
    abbrev count : ℕ
    count = count_before text.place os

    abbrev first : Answer
    first = read_register m r text (take count bs) found

    abbrev more : List Found → Answer
    more = last_from m (drop (k + 1) rs) (drop (k + 1) texts) (drop count os) (drop count bs)

    this_then : and_then first more ≡ all
    this_then = (λ j. last_from m (sym (rest_at rs k r p at_register) j) (sym (rest_at texts k text q at_text) j) os bs found) ∙ whole

    pub last_next : (n : ℕ) (left : List Opening) (after : List Body) (new : List Found) → n ≡ count → left ≡ drop n os → after ≡ drop n bs
        → outcome None new ≡ first → last_from m (drop (k + 1) rs) (drop (k + 1) texts) left after new ≡ all
    last_next n left after new counted openings bodies fine =
        (λ j. last_from m (drop (k + 1) rs) (drop (k + 1) texts) ((openings ∙ ap (λ i. drop i os) counted) j)
        ((bodies ∙ ap (λ i. drop i bs) counted) j) new)
        ∙ (sym (then_on first more new fine) ∙ this_then)

    pub last_refused : (e : MonoError) (new last : List Found) → outcome (Some e) new ≡ first → outcome (Some e) last ≡ all
    last_refused e new last refused = sym (then_refused first more e new refused) ∙ this_then

none_of_both : (m : Model) (rs : List Register) (texts : List RegisterText) (os : List Opening) (bs : List Body) (found : List Found)
    → min (length rs) (length texts) ≡ 0 → last_from m rs texts os bs found ≡ read_bodies m [] [] bs found
none_of_both m [] texts os bs found e = refl
none_of_both m (r ∷ rs) [] os bs found e = refl
none_of_both m (r ∷ rs) (text ∷ texts) os bs found e = absurd (omega arith)

pub last_end : (m : Model) (rs : List Register) (texts : List RegisterText) (os : List Opening) (bs : List Body) (k : ℕ) (found : List Found) (all : Answer)
    → k ≡ min (length rs) (length texts) → last_from m (drop k rs) (drop k texts) os bs found ≡ all → read_bodies m [] [] bs found ≡ all
last_end m rs texts os bs k found all e h =
    let none : min (length (drop k rs)) (length (drop k texts)) ≡ 0 = (let a = length-drop k rs in let b = length-drop k texts in omega arith) in
    sym (none_of_both m (drop k rs) (drop k texts) os bs found none) ∙ h

-- ---- the list

module _ (m : Model) (times turn at : ℕ) (found : List Found) (all : Answer) (within : turn < times)
    (whole : grow (times - turn) m at found ≡ all) where
  one_time : times - turn ≡ suc (times - (turn + 1))
  one_time = omega (arith, within)

  turned : grow (suc (times - (turn + 1))) m at found ≡ all
  turned = ap (λ n. grow n m at found) (sym one_time) ∙ whole

  abbrev grow_at : Option Found → Answer
  grow_at o = grow_from m found o (grow (times - (turn + 1)) m (suc at))

  pub grow_done : slice_get found at ≡ None → outcome None found ≡ all
  grow_done none = ap grow_at (sym none) ∙ turned

  pub grow_next : (x : Found) (next : ℕ) (new : List Found) → slice_get found at ≡ Some x → next ≡ at + 1 → outcome None new ≡ read_found m x found
      → grow (times - (turn + 1)) m next new ≡ all
  grow_next x next new there behind fine =
      let more = grow (times - (turn + 1)) m (suc at) in
      let one : next ≡ suc at = omega (arith, behind) in
      ap (λ n. grow (times - (turn + 1)) m n new) one
      ∙ (sym (then_on (read_found m x found) more new fine) ∙ (ap grow_at (sym there) ∙ turned))

  pub grow_refused : (x : Found) (e : MonoError) (new last : List Found) → slice_get found at ≡ Some x → outcome (Some e) new ≡ read_found m x found
      → outcome (Some e) last ≡ all
  grow_refused x e new last there refused =
      let more = grow (times - (turn + 1)) m (suc at) in
      sym (then_refused (read_found m x found) more e new refused) ∙ (ap grow_at (sym there) ∙ turned)

pub grow_end : (m : Model) (times turn at : ℕ) (found : List Found) (all : Answer) → times ≤ turn → grow (times - turn) m at found ≡ all
    → outcome None found ≡ all
grow_end m times turn at found all past h =
    let none : 0 ≡ times - turn = omega (arith, past) in
    ap (λ n. grow n m at found) none ∙ h

-- ---- the whole list

module _ (m : Model) (found first last : List Found) where
  abbrev times : ℕ
  times = times_enough m

  abbrev later : List Found → Answer
  later f = and_then (read_lasts m f) (grow times m (length f))

  first_fine : outcome None first ≡ grow times m 0 found → found_from m found ≡ later first
  first_fine fine = then_on (grow times m 0 found) later first fine

  pub first_refused : (e : MonoError) → outcome (Some e) first ≡ grow times m 0 found → Err e ≡ found_from m found
  first_refused e refused = sym (then_refused (grow times m 0 found) later e first refused)

  pub lasts_refused : (e : MonoError) → outcome None first ≡ grow times m 0 found → outcome (Some e) last ≡ read_lasts m first
      → Err e ≡ found_from m found
  lasts_refused e fine refused =
      sym (first_fine fine ∙ then_refused (read_lasts m first) (grow times m (length first)) e last refused)

  pub found_whole : {E : Type 0} (r : Result (Option MonoError) E) (new : List Found) (n k : ℕ) → n ≡ times → k ≡ length first
      → outcome None first ≡ grow times m 0 found → outcome None last ≡ read_lasts m first
      → IfOk r (λ o. outcome o new ≡ grow n m k last) → IfOk r (λ o. outcome o new ≡ found_from m found)
  found_whole (Ok o) new n k enough counted fine ended h =
      h
      ∙ ((λ j. grow (enough j) m (counted j) last)
      ∙ sym (first_fine fine ∙ then_on (read_lasts m first) (grow times m (length first)) last ended))
  found_whole (Err e) new n k enough counted fine ended h = tt

-- the rest of what comes last
pub last_bodies : {E : Type 0} (r : Result (Option MonoError) E) (m : Model) (bs : List Body) (found new : List Found) (all : Answer)
    → read_bodies m [] [] bs found ≡ all → IfOk r (λ o. outcome o new ≡ read_bodies m [] [] bs found) → IfOk r (λ o. outcome o new ≡ all)
last_bodies (Ok o) m bs found new all whole h = h ∙ whole
last_bodies (Err e) m bs found new all whole h = tt

pub length_mapped : {A B : Type 0} (f : A → B) (xs : List A) → length (map f xs) ≡ length xs
length_mapped f [] = refl
length_mapped f (x ∷ xs) = ap suc (length_mapped f xs)
