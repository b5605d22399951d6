use Rattle.std.proofs.Common.{◌∙◌, ap, refl, sym}
use Rattle.jib.specs.Operands.{each}
use Rattle.jib.specs.Valid.{typ_right}
use Rattle.lowered_types.specs.Table.{type_in}
use Rattle.jib_lower.proofs.lowering.make_shell.Goals as goal

pub returns-then-typs-clause-shell : goal.returns-then-typs-clause-shell
returns-then-typs-clause-shell c = record {
  types_are = refl;
  typs = ap (λ ts. each typ_right 0 ts) (sym c.as_slice-all.ensures) ∙ sym c.are_typs-typs.ensures ∙ c.if-typs.true;
  exception = c.in_ok-exception.ensures ∙ ap (type_in c.args.numbered.now) c.exception_type-typ.ensures;
  registers = c.in_ok-registers.ensures;
}

pub returns-else-typs-clause-left : goal.returns-else-typs-clause-left
returns-else-typs-clause-left c =
    ap (λ ts. each typ_right 0 ts) (sym c.as_slice-all.ensures) ∙ sym c.are_typs-typs.ensures ∙ c.if-typs.false
