-- What a name is, among names and others behind them.
use Rattle.std.proofs.Common.{◌≡◌, refl, Bool, true, false, if◌then◌else◌, ℕ, List, [], ◌∷◌, ◌++◌, Option, Some, None}
use Rattle.std.specs.Str.{bytes_eq}
use Rattle.pattern_leaves.specs.declared.names.Bound.{Bound}
use Rattle.pattern_leaves.specs.declared.names.Held.{Held}
use Rattle.pattern_leaves.specs.Settings.{held_in}

before_if : (b : Bool) (h x : Held) (ours all : Option Held) → (if b then Some h else ours) ≡ Some x → (ours ≡ Some x → all ≡ Some x)
    → (if b then Some h else all) ≡ Some x
before_if true h x ours all is more = is
before_if false h x ours all is more = more is

pub held_before : (name : List ℕ) (found outer : List Bound) (x : Held) → held_in name found ≡ Some x → held_in name (found ++ outer) ≡ Some x
held_before name [] outer x is = absurd (cc)
held_before name (b ∷ found) outer x is =
    before_if (bytes_eq b.name name) b.held x (held_in name found) (held_in name (found ++ outer)) is (held_before name found outer x)

behind_if : (b : Bool) (h : Held) (ours all rest : Option Held) → (if b then Some h else ours) ≡ None → (ours ≡ None → all ≡ rest)
    → (if b then Some h else all) ≡ rest
behind_if true h ours all rest none more = absurd (cc)
behind_if false h ours all rest none more = more none

pub held_behind : (name : List ℕ) (found outer : List Bound) → held_in name found ≡ None → held_in name (found ++ outer) ≡ held_in name outer
held_behind name [] outer none = refl
held_behind name (b ∷ found) outer none =
    behind_if (bytes_eq b.name name) b.held (held_in name found) (held_in name (found ++ outer)) (held_in name outer) none (held_behind name found outer)
