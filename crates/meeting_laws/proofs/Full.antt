-- Points at which every variable before the next is fixed: behind a walk that begins at one there is one.
use Rattle.std.proofs.Common.{ℕ, ◌<◌, ◌≤◌, nat_lt, List, arith}
use Rattle.std.proofs.lemmas.Bool.{ltb-true, lt-ltb}
use Rattle.sail_types.specs.Numbers.{Positive}
use Rattle.value_indices.specs.Steps.{Walk}
use Rattle.value_indices.specs.declared.notes.Fact.{Fact}
use Rattle.value_laws.specs.Belonging.{Integers}
use Rattle.value_laws.specs.Known.{Point, Agree, Later, Goes}
use Rattle.meeting_laws.specs.Laws.{IsFull}

-- the same integers, where variables are counted from there on, and all before are fixed
abbrev pub filled_at : {m : ℕ} → Point m → (n : ℕ) → Point n
filled_at f n = record { fixed = λ i. nat_lt i n; integers = f.integers; before = λ i l. ltb-true i n l }

pub is_filled : {m : ℕ} (f : Point m) (n : ℕ) → IsFull (filled_at f n)
is_filled f n i l = lt-ltb i n l

-- it is later than a point at which all before are fixed
pub later_filled : {m k : ℕ} (f : Point m) (p : Point k) (n : ℕ) → IsFull f → Later f p → k ≤ n → Later f (filled_at p n)
later_filled {m} {k} f p n full a le = record {
  onward = let o : m ≤ k = a.onward in omega arith;
  fixed = λ i l. lt-ltb i n (let less : i < k = p.before i (a.fixed i l) in omega arith);
  same = a.same;
  new = λ i l less. full i less;
}

narrowed : {k : ℕ} (p : Point k) (n : ℕ) (g : Integers) → k ≤ n → Agree (filled_at p n) g → Agree p g
narrowed {k} p n g le a = record { same = λ i l. a.same i (lt-ltb i n (let less : i < k = p.before i l in omega arith)) }

-- behind a walk
pub fully : {past : Positive} {n : ℕ} {f : Point n} {facts : List Fact} {A : Type 0} {walk : Walk A} {Holds : Integers → A → Type 0} → IsFull f
    → Goes past n f facts walk Holds → (r : Goes past n f facts walk Holds) × IsFull r.goes.point
fully {past} {n} {f} {facts} {A} {walk} {Holds} full r =
    let p = r.goes.point in
    let k : ℕ = (walk facts n).next in (
      record {
        goes = record {
          point = filled_at p k;
          later = later_filled f p k full r.goes.later (omega arith);
          true_there = λ g a t. r.goes.true_there g (narrowed p k g (omega arith) a) t;
          holds = λ g a. r.goes.holds g (narrowed p k g (omega arith) a);
          given = r.goes.given;
        };
      },
      is_filled p k,
    )
