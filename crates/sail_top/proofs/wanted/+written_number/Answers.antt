use Rattle.std.proofs.Common.{◌∙◌, List, ap, map, sym}
use Rattle.std.specs.Prelude.{Option, ℤ}
use Rattle.sail_core.specs.declared.tree.Core.{Core, fold_out-Core, out-Core}
use Rattle.sail_core.specs.declared.tree.Kind.{Kind}
use Rattle.sail_core.specs.declared.tree.Kind.TheVariants as K
use Rattle.sail_top.specs.Wanted.{number_of, one_number, written_number}
use Rattle.sail_top.proofs.wanted.+written_number.Goals as goal

pub written_number-returns-in-Cast-None : goal.written_number-returns-in-Cast-None
written_number-returns-in-Cast-None t c =
    let tree = c.args.tree.now in
    let none = rw c.in-Cast-None.is at c.in-Cast-None.field-0-is in
    c.one_number.ensures
    ∙ ap (λ (trees : List Core). one_number trees) c.as_slice.ensures
    ∙ sym (fold_out-Core (Option ℤ) (λ c. number_of c.kind c.parts) tree
    ∙ ap (λ (kind : Kind). number_of kind (map written_number (out-Core tree).parts)) (c.in-Cast-None.is ∙ ap K.Cast none))
