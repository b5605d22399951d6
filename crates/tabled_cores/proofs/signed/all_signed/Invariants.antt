use Rattle.std.proofs.Common.{◌≡◌, drop}
use Rattle.std.specs.List.{list_all}
use Rattle.monomorph.specs.Reading.{inside_of}
use Rattle.tabled_cores.specs.Signed.{typ_signed}
use Rattle.tabled_cores.proofs.signed.all_signed.Given as goal

-- the rest decides
abbrev pub invariant-loop-typ : goal.invariant-loop-typ
invariant-loop-typ l =
    list_all (typ_signed l.given (inside_of l.inside) l.numbers) (drop l.typ-index l.parts)
    ≡ list_all (typ_signed l.given (inside_of l.inside) l.numbers) l.parts
