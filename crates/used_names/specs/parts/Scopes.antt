-- Local names in scope inside of others: those, and more in front of them.
use Rattle.std.specs.Prelude.{◌≡◌, ◌-◌, ◌≤◌, List, length, drop}
use Rattle.sail_names.specs.Locals.{Local}

pub record IsInside (inner outer : List Local) : Type 0 where
  pub more : length outer ≤ length inner
  pub same : drop (length inner - length outer) inner ≡ outer
