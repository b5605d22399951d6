-- Names that are pointed to.
use Rattle.std.specs.Borrow.{Bor}
use Rattle.sail_syntax.specs.declared.name.Name.{Name}

-- the name that is pointed to
abbrev pub pointed : Bor Name → Name
pointed name = name.now
