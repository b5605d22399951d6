-- Code that keeps the rules, put together from pieces.
use Rattle.std.proofs.Common.{◌≡◌, ◌⊎◌, inl, inr, ℕ, ◌≤◌, Bool, true, false, ◌||◌, List, [], ◌∷◌, ◌++◌, Option, Some, None, refl, arith, eq-eqb}
use Rattle.std.specs.Prelude.{nat_eq}
use Rattle.size_values.specs.declared.sized.Sized.{Sized}
use Rattle.jib.specs.declared.code.Instruction.{Instruction}
use Rattle.jib.specs.declared.code.Instruction.TheVariants as I
use Rattle.jib.specs.declared.code.Function.{Function}
use Rattle.jib.specs.declared.code.Module.{Module}
use Rattle.jib.specs.Valid.{aim}
use Rattle.lowered_pieces.specs.Forms.{Tail}
use Rattle.lowered_laws.specs.CodeLaws.{is_set, sets}
use Rattle.lowered_laws.proofs.Labels.{sets_append}
use Rattle.lowered_validity.specs.Right.{Fits, Goes, Labels, Right, RightTail, seen}

-- ---- labels

same_set : (l : ℕ) → is_set l (I.Label l) ≡ 1
same_set l = rw (eq-eqb l l refl) refl

-- a label that is set first of all, behind an instruction, or behind code
pub set_first : (l : ℕ) (c : List Instruction) → 1 ≤ sets l (I.Label l ∷ c)
set_first l c = omega (arith, same_set l)

pub set_next : (l : ℕ) (i : Instruction) (c : List Instruction) → 1 ≤ sets l c → 1 ≤ sets l (i ∷ c)
set_next l i c h = omega (arith, h)

pub set_behind : (l : ℕ) (a b : List Instruction) → 1 ≤ sets l b → 1 ≤ sets l (a ++ b)
set_behind l a b h = omega (arith, sets_append l a b, h)

pub set_before : (l : ℕ) (a b : List Instruction) → 1 ≤ sets l a → 1 ≤ sets l (a ++ b)
set_before l a b h = omega (arith, sets_append l a b, h)

-- labels that may be gone to may be so among more
abbrev pub Up : Labels → Labels → Type 0
Up out into = (k : ℕ) → out k ≡ true → into k ≡ true

or_up : (a b c : Bool) → (b ≡ true → c ≡ true) → (a || b) ≡ true → (a || c) ≡ true
or_up true b c up e = refl
or_up false b c up e = up e

pub or_second : (a b : Bool) → b ≡ true → (a || b) ≡ true
or_second true b e = refl
or_second false b e = e

seen_more : (i : Instruction) (c : List Instruction) (out into : Labels) → Up out into → Up (seen i c out) (seen i c into)
seen_more (I.Label l) (I.Tick ∷ c) out into up k e = or_up (nat_eq k l) (out k) (into k) (up k) e
seen_more i c out into up k e = up k e

seen_keeps : (i : Instruction) (c : List Instruction) (out : Labels) → Up out (seen i c out)
seen_keeps (I.Label l) (I.Tick ∷ c) out k e = or_second (nat_eq k l) (out k) e
seen_keeps i c out k e = e

goes_more : (o : Option ℕ) (c : List Instruction) (out into : Labels) → Up out into → Goes out c o → Goes into c o
goes_more None c out into up g = tt
goes_more (Some l) c out into up (inl s) = inl s
goes_more (Some l) c out into up (inr e) = inr (up l e)

-- labels of the first code that it doesn't set, which the second sets or may go to
abbrev pub Meets : Labels → List Instruction → Labels → Type 0
Meets out b into = (k : ℕ) → out k ≡ true → (1 ≤ sets k b) ⊎ (into k ≡ true)

seen_meets : (i : Instruction) (a b : List Instruction) (out into : Labels) → Meets out b into → Meets (seen i a out) b (seen i (a ++ b) into)
seen_meets (I.Label l) (I.Tick ∷ a) b out into up k e = by (nat_eq k l) e
  where
    further : (1 ≤ sets k b) ⊎ (into k ≡ true) → (1 ≤ sets k b) ⊎ (into k ≡ true)
    further h = h

    by : (q : Bool) → (q || out k) ≡ true → (1 ≤ sets k b) ⊎ ((q || into k) ≡ true)
    by true f = inr refl
    by false f = further (up k f)
seen_meets i a b out into up k e = kept (up k e)
  where
    kept : (1 ≤ sets k b) ⊎ (into k ≡ true) → (1 ≤ sets k b) ⊎ (seen i (a ++ b) into k ≡ true)
    kept (inl s) = inl s
    kept (inr t) = inr (seen_keeps i (a ++ b) into k t)

goes_meets : (o : Option ℕ) (a b : List Instruction) (out into : Labels) → Meets out b into → Goes out a o → Goes into (a ++ b) o
goes_meets None a b out into up g = tt
goes_meets (Some l) a b out into up (inl s) = inl (set_before l a b s)
goes_meets (Some l) a b out into up (inr e) = kept (up l e)
  where
    kept : (1 ≤ sets l b) ⊎ (into l ≡ true) → (1 ≤ sets l (a ++ b)) ⊎ (into l ≡ true)
    kept (inl s) = inl (set_behind l a b s)
    kept (inr t) = inr t

module _ (m : Module) (f : Function) (n : ℕ) where
  abbrev Ok : Labels → List Instruction → Type 0
  Ok out c = Right m f n out c

  pub more : (out into : Labels) (c : List Instruction) → Up out into → Ok out c → Ok into c
  more out into [] up h = tt
  more out into (i ∷ c) up h =
      (h.0, (goes_more (aim i) c out into up h.1.0, more (seen i c out) (seen i c into) c (seen_more i c out into up) h.1.1))

  -- one code behind the other
  pub join : (out into : Labels) (a b : List Instruction) → Meets out b into → Ok out a → Ok into b → Ok into (a ++ b)
  join out into [] b up ha hb = hb
  join out into (i ∷ a) b up ha hb = (
    ha.0,
    (
      goes_meets (aim i) a b out into up ha.1.0,
      join (seen i a out) (seen i (a ++ b) into) a b (seen_meets i a b out into up) ha.1.1 (more into (seen i (a ++ b) into) b (seen_keeps i (a ++ b) into) hb),
    ),
  )

  pub append : (out : Labels) (a b : List Instruction) → Ok out a → Ok out b → Ok out (a ++ b)
  append out a b ha hb = join out out a b (λ k e. inr e) ha hb

  -- an instruction before code
  pub before : (out : Labels) (i : Instruction) (c : List Instruction) → Fits m f n i → Goes out c (aim i) → Ok out c → Ok out (i ∷ c)
  before out i c fits goes h = (fits, (goes, more out (seen i c out) c (seen_keeps i c out) h))

  pub alone : (out : Labels) (i : Instruction) → Fits m f n i → Goes out [] (aim i) → Ok out (i ∷ [])
  alone out i fits goes = before out i [] fits goes tt

  -- a label with a tick, to which what stands behind may go back
  pub looped : (out : Labels) (l : ℕ) (c : List Instruction) → Fits m f n (I.Label l) → Fits m f n I.Tick → Ok (λ k. nat_eq k l || out k) c
      → Ok out (I.Label l ∷ I.Tick ∷ c)
  looped out l c label tick h = (label, (tt, (tick, (tt, h))))

  pub tail_more : (out into : Labels) → Up out into → (tail : Tail) (ts : List Sized) → RightTail m f n out tail ts → RightTail m f n into tail ts
  tail_more out into up tail [] h = tt
  tail_more out into up tail (t ∷ ts) h = ((λ l. more out into (tail.code t l) up (h.0 l)), tail_more out into up tail ts h.1)

  -- the types of a tail in two parts
  pub tail_first : (out : Labels) (tail : Tail) (ts us : List Sized) → RightTail m f n out tail (ts ++ us) → RightTail m f n out tail ts
  tail_first out tail [] us h = tt
  tail_first out tail (t ∷ ts) us h = (h.0, tail_first out tail ts us h.1)

  pub tail_second : (out : Labels) (tail : Tail) (ts us : List Sized) → RightTail m f n out tail (ts ++ us) → RightTail m f n out tail us
  tail_second out tail [] us h = h
  tail_second out tail (t ∷ ts) us h = tail_second out tail ts us h.1
