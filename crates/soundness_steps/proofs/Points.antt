-- Points one behind the other.
use Rattle.std.proofs.Common.{ℕ, nat_lt, refl, ◌∙◌, arith}
use Rattle.std.proofs.lemmas.Bool.{ltb-true, lt-ltb}
use Rattle.value_laws.specs.Belonging.{Integers}
use Rattle.value_laws.specs.Known as Known
use Rattle.value_laws.specs.Known.{Agree, Point}
use Rattle.soundness_steps.specs.Points.{Later}

-- behind a walk of which it is known what holds there
pub behind : {n m : ℕ} {f : Point n} {g : Point m} → Known.Later f g → Later f g
behind l = record { onward = l.onward; fixed = l.fixed; same = l.same }

pub agree_on : {n m : ℕ} {f : Point n} {g : Point m} {h : Integers} → Later f g → Agree g h → Agree f h
agree_on a b = record { same = λ i l. a.same i l ∙ b.same i (a.fixed i l) }

pub later_on : {n m k : ℕ} {f : Point n} {g : Point m} {h : Point k} → Later f g → Later g h → Later f h
later_on a b = record {
  onward = let l = a.onward in let k = b.onward in omega arith;
  fixed = λ i l. b.fixed i (a.fixed i l);
  same = λ i l. a.same i l ∙ b.same i (a.fixed i l);
}

pub no_later : {n : ℕ} (f : Point n) → Later f f
no_later f = record { onward = omega arith; fixed = λ i l. l; same = λ i l. refl }

-- the same integers, where every variable before the next is fixed
abbrev pub whole : {n : ℕ} → Point n → Point n
whole {n} f = record { fixed = λ i. nat_lt i n; integers = f.integers; before = λ i l. ltb-true i n l }

pub later_whole : {n : ℕ} (f : Point n) → Later f (whole f)
later_whole {n} f = record { onward = omega arith; fixed = λ i l. lt-ltb i n (f.before i l); same = λ i l. refl }
