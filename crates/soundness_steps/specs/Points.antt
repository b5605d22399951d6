-- Points of a walk beside a run, one behind the other.
use Rattle.std.specs.Prelude.{◌≡◌, ◌≤◌, ℕ, true}
use Rattle.value_laws.specs.Known.{Point}

-- where more variables may be fixed, those from before too
pub record Later {n m : ℕ} (f : Point n) (g : Point m) : Type 0 where
  pub onward : n ≤ m
  pub fixed : (i : ℕ) → f.fixed i ≡ true → g.fixed i ≡ true
  pub same : (i : ℕ) → f.fixed i ≡ true → f.integers i ≡ g.integers i
