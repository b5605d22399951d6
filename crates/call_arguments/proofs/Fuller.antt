-- The first of several types without a hole inside, else the first, one by one.
use Rattle.std.proofs.Common.{◌≡◌, ◌∙◌, ap, refl, sym, Bool, true, false, if◌then◌else◌}
use Rattle.std.specs.Prelude.{None, Option, Some}
use Rattle.value_indices.specs.declared.indices.Reading.{Reading}
use Rattle.call_arguments.specs.Holes.{fuller, fuller_if, has_hole}

-- nothing behind
last_one : (b : Bool) (r : Reading) → fuller_if b r None ≡ Some r
last_one true r = refl
last_one false r = refl

pub fuller_last : (o : Option Reading) → fuller o None ≡ o
fuller_last None = refl
fuller_last (Some r) = last_one (has_hole r) r

abbrev either : Reading → Reading → Bool → Option Reading
either r q b = if b then Some r else Some q

third_one : (r q p : Reading) (b : Bool) → has_hole q ≡ true → has_hole p ≡ b → either r p b ≡ fuller_if true r (either q p b)
third_one r q p true q_is p_is = sym (ap (either r q) q_is)
third_one r q p false q_is p_is = sym (ap (either r p) p_is)

second_one : (r q : Reading) (b : Bool) (o : Option Reading) → has_hole r ≡ true → has_hole q ≡ b
    → fuller (either r q b) o ≡ fuller_if true r (fuller_if b q o)
second_one r q false o r_is q_is = ap (λ b. fuller_if b q o) q_is ∙ sym (ap (either r q) q_is)
second_one r q true None r_is q_is = ap (λ b. fuller_if b r None) r_is ∙ sym (ap (either r q) q_is)
second_one r q true (Some p) r_is q_is = ap (λ b. fuller_if b r (Some p)) r_is ∙ third_one r q p (has_hole p) q_is refl

first_one : (r : Reading) (b : Bool) (o more : Option Reading) → has_hole r ≡ b → fuller (fuller_if b r o) more ≡ fuller_if b r (fuller o more)
first_one r false o more r_is = ap (λ b. fuller_if b r more) r_is
first_one r true None more r_is = ap (λ b. fuller_if b r more) r_is
first_one r true (Some q) more r_is = second_one r q (has_hole q) more r_is refl

pub fuller_assoc : (a b c : Option Reading) → fuller (fuller a b) c ≡ fuller a (fuller b c)
fuller_assoc None b c = refl
fuller_assoc (Some r) b c = first_one r (has_hole r) b c refl
