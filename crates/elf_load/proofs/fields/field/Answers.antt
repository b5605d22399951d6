use Rattle.elf_load.proofs.Numbers.{field_number, field_below}
use Rattle.elf_load.proofs.fields.field.Goals as goal

pub returns-clause-number : goal.returns-clause-number
returns-clause-number c = field_number c.args.file.now c.args.at c.args.width _ c.requires.within c.read_uint.ensures

pub returns-clause-below : goal.returns-clause-below
returns-clause-below c = field_below c.args.file.now c.args.at c.args.width _ (λ k. (c.type_inv.file k).fits) c.read_uint.ensures
