use Rattle.std.proofs.Common.{◌≡◌, ◌∷◌, [], arith, pos, subst, true}
use Rattle.size_values.specs.declared.sized.Sized.TheVariants as S
use Rattle.lowered_pieces.specs.Emitted.{Begins}
use Rattle.lowered_tables.proofs.Growing.{begins_then}
use Rattle.jib_lower.specs.Types.{all_in_bodies, all_in_instances, all_in_registers, exception_typ}
use Rattle.jib_lower.proofs.Kept.{all_stay, instances_stay, known_stays, registers_stay}
use Rattle.std.proofs.Common.{◌∙◌, ◌++◌, None, Some, ap, refl, sym}
use Rattle.lowered_tables.specs.Built.{with_numbers}
use Rattle.jib_lower.specs.Types.{basic_types, types_in_bodies, types_in_instances, types_in_model, types_in_registers, word_types}
use Rattle.jib_lower.proofs.Unmade.{both_listed, exit_more, first_none}
use Rattle.jib_lower.proofs.types.list_types.Goals as goal

pub returns-clause-instances : goal.returns-clause-instances
returns-clause-instances c =
    instances_stay c.add_instances.new.table.numbered c.add_bodies.new.table.numbered c.in_ok-add_bodies.ensures.grown c.args.sized.now.instances
    (subst (λ xs. all_in_instances c.add_instances.new.table.numbered xs ≡ true) c.as_slice-2.ensures c.in_ok-add_instances.ensures.known)

pub returns-clause-openings : goal.returns-clause-openings
returns-clause-openings c = subst (λ xs. all_in_bodies c.add_bodies.new.table.numbered xs ≡ true) c.as_slice-3.ensures c.in_ok-add_bodies.ensures.known

pub returns-clause-basic : goal.returns-clause-basic
returns-clause-basic c =
    let words : Begins c.add_words.new.table.numbered c.add_registers.new.table.numbered = c.in_ok-add_registers.ensures.grown in
    let registers : Begins c.add_registers.new.table.numbered c.add_instances.new.table.numbered = c.in_ok-add_instances.ensures.grown in
    let instances : Begins c.add_instances.new.table.numbered c.add_bodies.new.table.numbered = c.in_ok-add_bodies.ensures.grown in
    let basic : Begins c.add_basic.new.table.numbered c.add_words.new.table.numbered = c.in_ok-add_words.ensures.grown in
    all_stay c.add_basic.new.table.numbered c.add_bodies.new.table.numbered
    (begins_then c.add_basic.new.table.numbered c.add_words.new.table.numbered c.add_bodies.new.table.numbered basic
    (begins_then c.add_words.new.table.numbered c.add_registers.new.table.numbered c.add_bodies.new.table.numbered words
    (begins_then c.add_registers.new.table.numbered c.add_instances.new.table.numbered c.add_bodies.new.table.numbered registers instances)))
    (S.Unit ∷ S.Bool ∷ S.Int ∷ exception_typ c.args.core.now.exception ∷ []) c.in_ok-add_basic.ensures.known

pub returns-clause-registers : goal.returns-clause-registers
returns-clause-registers c =
    registers_stay c.add_registers.new.table.numbered c.add_bodies.new.table.numbered
    (begins_then c.add_registers.new.table.numbered c.add_instances.new.table.numbered c.add_bodies.new.table.numbered c.in_ok-add_instances.ensures.grown
    c.in_ok-add_bodies.ensures.grown)
    c.args.core.now.types c.args.core.now.registers
    (subst (λ xs. all_in_registers c.args.core.now.types c.add_registers.new.table.numbered xs ≡ true) c.as_slice.ensures c.in_ok-add_registers.ensures.known)

pub returns-clause-words : goal.returns-clause-words
returns-clause-words c = λ m le.
    let words : Begins c.add_words.new.table.numbered c.add_registers.new.table.numbered = c.in_ok-add_registers.ensures.grown in
    let registers : Begins c.add_registers.new.table.numbered c.add_instances.new.table.numbered = c.in_ok-add_instances.ensures.grown in
    let instances : Begins c.add_instances.new.table.numbered c.add_bodies.new.table.numbered = c.in_ok-add_bodies.ensures.grown in
    known_stays c.add_words.new.table.numbered c.add_bodies.new.table.numbered
    (begins_then c.add_words.new.table.numbered c.add_registers.new.table.numbered c.add_bodies.new.table.numbered words
    (begins_then c.add_registers.new.table.numbered c.add_instances.new.table.numbered c.add_bodies.new.table.numbered registers instances))
    (S.Bits (pos m)) (c.in_ok-add_words.ensures.known m (omega (arith, le)))

pub returns-clause-never : goal.returns-clause-never
returns-clause-never c =
    let basic : Begins c.in_ok-list.list.numbered c.add_basic.new.table.numbered = c.in_ok-add_basic.ensures.grown in
    let words : Begins c.add_basic.new.table.numbered c.add_words.new.table.numbered = c.in_ok-add_words.ensures.grown in
    let registers : Begins c.add_words.new.table.numbered c.add_registers.new.table.numbered = c.in_ok-add_registers.ensures.grown in
    let instances : Begins c.add_registers.new.table.numbered c.add_instances.new.table.numbered = c.in_ok-add_instances.ensures.grown in
    let openings : Begins c.add_instances.new.table.numbered c.add_bodies.new.table.numbered = c.in_ok-add_bodies.ensures.grown in
    subst (λ ns. Begins ns c.add_bodies.new.table.numbered) c.in_ok-list.ensures
    (begins_then c.in_ok-list.list.numbered c.add_basic.new.table.numbered c.add_bodies.new.table.numbered basic
    (begins_then c.add_basic.new.table.numbered c.add_words.new.table.numbered c.add_bodies.new.table.numbered words
    (begins_then c.add_words.new.table.numbered c.add_registers.new.table.numbered c.add_bodies.new.table.numbered registers
    (begins_then c.add_registers.new.table.numbered c.add_instances.new.table.numbered c.add_bodies.new.table.numbered instances openings))))

pub returns-clause-listed : goal.returns-clause-listed
returns-clause-listed c =
    let t = c.args.core.now.types in
    let model = c.args.core.now in
    let sized = c.args.sized.now in
    let basics = basic_types model.exception in
    let words = word_types 129 in
    let registers = types_in_registers t model.registers in
    let instances = types_in_instances sized.instances in
    let openings = types_in_bodies sized.openings in
    let o = Some c.add_bodies.new.table.numbered in
    ap (λ ns. with_numbers t ns (types_in_model model sized)) (sym c.in_ok-list.ensures) ∙ (both_listed t c.in_ok-list.list.numbered c.add_basic.new.table.numbered basics (words ++ (registers ++ (instances ++ openings))) basics (basics ++ (words ++ (registers ++ (instances ++ openings)))) o refl refl
    c.in_ok-add_basic.ensures.listed
    (both_listed t c.add_basic.new.table.numbered c.add_words.new.table.numbered words (registers ++ (instances ++ openings)) words (words ++ (registers ++ (instances ++ openings))) o refl refl
    c.in_ok-add_words.ensures.listed
    (both_listed t c.add_words.new.table.numbered c.add_registers.new.table.numbered registers (instances ++ openings) (types_in_registers t c.as_slice.result.now) (registers ++ (instances ++ openings)) o refl (ap (types_in_registers t) c.as_slice.ensures)
    c.in_ok-add_registers.ensures.listed
    (both_listed t c.add_registers.new.table.numbered c.add_instances.new.table.numbered instances (openings) (types_in_instances c.as_slice-2.result.now) (instances ++ (openings)) o refl (ap types_in_instances c.as_slice-2.ensures)
    c.in_ok-add_instances.ensures.listed
    (ap (λ xs. with_numbers t c.add_instances.new.table.numbered (types_in_bodies xs)) (sym c.as_slice-3.ensures) ∙ c.in_ok-add_bodies.ensures.listed)))))

pub returns-in_err-add_basic-clause-left : goal.returns-in_err-add_basic-clause-left
returns-in_err-add_basic-clause-left c =
    let t = c.args.core.now.types in
    let model = c.args.core.now in
    let sized = c.args.sized.now in
    let basics = basic_types model.exception in
    let words = word_types 129 in
    let registers = types_in_registers t model.registers in
    let instances = types_in_instances sized.instances in
    let openings = types_in_bodies sized.openings in
    exit_more _ _ c.from_residual-in_err-add_basic.ensures.1 (λ none.
    ap (λ ns. with_numbers t ns (types_in_model model sized)) (sym c.in_ok-list.ensures) ∙ (first_none t c.in_ok-list.list.numbered basics (words ++ (registers ++ (instances ++ openings))) basics (basics ++ (words ++ (registers ++ (instances ++ openings)))) refl refl none)) c.in_err-add_basic.ensures.left

pub returns-in_err-add_words-clause-left : goal.returns-in_err-add_words-clause-left
returns-in_err-add_words-clause-left c =
    let t = c.args.core.now.types in
    let model = c.args.core.now in
    let sized = c.args.sized.now in
    let basics = basic_types model.exception in
    let words = word_types 129 in
    let registers = types_in_registers t model.registers in
    let instances = types_in_instances sized.instances in
    let openings = types_in_bodies sized.openings in
    exit_more _ _ c.from_residual-in_err-add_words.ensures.1 (λ none.
    ap (λ ns. with_numbers t ns (types_in_model model sized)) (sym c.in_ok-list.ensures) ∙ (both_listed t c.in_ok-list.list.numbered c.add_basic.new.table.numbered basics (words ++ (registers ++ (instances ++ openings))) basics (basics ++ (words ++ (registers ++ (instances ++ openings)))) None refl refl
    c.in_ok-add_basic.ensures.listed
    (first_none t c.add_basic.new.table.numbered words (registers ++ (instances ++ openings)) words (words ++ (registers ++ (instances ++ openings))) refl refl none))) c.in_err-add_words.ensures.left

pub returns-in_err-add_registers-clause-left : goal.returns-in_err-add_registers-clause-left
returns-in_err-add_registers-clause-left c =
    let t = c.args.core.now.types in
    let model = c.args.core.now in
    let sized = c.args.sized.now in
    let basics = basic_types model.exception in
    let words = word_types 129 in
    let registers = types_in_registers t model.registers in
    let instances = types_in_instances sized.instances in
    let openings = types_in_bodies sized.openings in
    exit_more _ _ c.from_residual-in_err-add_registers.ensures.1 (λ none.
    ap (λ ns. with_numbers t ns (types_in_model model sized)) (sym c.in_ok-list.ensures) ∙ (both_listed t c.in_ok-list.list.numbered c.add_basic.new.table.numbered basics (words ++ (registers ++ (instances ++ openings))) basics (basics ++ (words ++ (registers ++ (instances ++ openings)))) None refl refl
    c.in_ok-add_basic.ensures.listed
    (both_listed t c.add_basic.new.table.numbered c.add_words.new.table.numbered words (registers ++ (instances ++ openings)) words (words ++ (registers ++ (instances ++ openings))) None refl refl
    c.in_ok-add_words.ensures.listed
    (first_none t c.add_words.new.table.numbered registers (instances ++ openings) (types_in_registers t c.as_slice.result.now) (registers ++ (instances ++ openings)) refl (ap (types_in_registers t) c.as_slice.ensures) none)))) c.in_err-add_registers.ensures.left

pub returns-in_err-add_instances-clause-left : goal.returns-in_err-add_instances-clause-left
returns-in_err-add_instances-clause-left c =
    let t = c.args.core.now.types in
    let model = c.args.core.now in
    let sized = c.args.sized.now in
    let basics = basic_types model.exception in
    let words = word_types 129 in
    let registers = types_in_registers t model.registers in
    let instances = types_in_instances sized.instances in
    let openings = types_in_bodies sized.openings in
    exit_more _ _ c.from_residual-in_err-add_instances.ensures.1 (λ none.
    ap (λ ns. with_numbers t ns (types_in_model model sized)) (sym c.in_ok-list.ensures) ∙ (both_listed t c.in_ok-list.list.numbered c.add_basic.new.table.numbered basics (words ++ (registers ++ (instances ++ openings))) basics (basics ++ (words ++ (registers ++ (instances ++ openings)))) None refl refl
    c.in_ok-add_basic.ensures.listed
    (both_listed t c.add_basic.new.table.numbered c.add_words.new.table.numbered words (registers ++ (instances ++ openings)) words (words ++ (registers ++ (instances ++ openings))) None refl refl
    c.in_ok-add_words.ensures.listed
    (both_listed t c.add_words.new.table.numbered c.add_registers.new.table.numbered registers (instances ++ openings) (types_in_registers t c.as_slice.result.now) (registers ++ (instances ++ openings)) None refl (ap (types_in_registers t) c.as_slice.ensures)
    c.in_ok-add_registers.ensures.listed
    (first_none t c.add_registers.new.table.numbered instances (openings) (types_in_instances c.as_slice-2.result.now) (instances ++ (openings)) refl (ap types_in_instances c.as_slice-2.ensures) none))))) c.in_err-add_instances.ensures.left

pub returns-in_err-add_bodies-clause-left : goal.returns-in_err-add_bodies-clause-left
returns-in_err-add_bodies-clause-left c =
    let t = c.args.core.now.types in
    let model = c.args.core.now in
    let sized = c.args.sized.now in
    let basics = basic_types model.exception in
    let words = word_types 129 in
    let registers = types_in_registers t model.registers in
    let instances = types_in_instances sized.instances in
    let openings = types_in_bodies sized.openings in
    exit_more _ _ c.from_residual-in_err-add_bodies.ensures.1 (λ none.
    ap (λ ns. with_numbers t ns (types_in_model model sized)) (sym c.in_ok-list.ensures) ∙ (both_listed t c.in_ok-list.list.numbered c.add_basic.new.table.numbered basics (words ++ (registers ++ (instances ++ openings))) basics (basics ++ (words ++ (registers ++ (instances ++ openings)))) None refl refl
    c.in_ok-add_basic.ensures.listed
    (both_listed t c.add_basic.new.table.numbered c.add_words.new.table.numbered words (registers ++ (instances ++ openings)) words (words ++ (registers ++ (instances ++ openings))) None refl refl
    c.in_ok-add_words.ensures.listed
    (both_listed t c.add_words.new.table.numbered c.add_registers.new.table.numbered registers (instances ++ openings) (types_in_registers t c.as_slice.result.now) (registers ++ (instances ++ openings)) None refl (ap (types_in_registers t) c.as_slice.ensures)
    c.in_ok-add_registers.ensures.listed
    (both_listed t c.add_registers.new.table.numbered c.add_instances.new.table.numbered instances (openings) (types_in_instances c.as_slice-2.result.now) (instances ++ (openings)) None refl (ap types_in_instances c.as_slice-2.ensures)
    c.in_ok-add_instances.ensures.listed
    (ap (λ xs. with_numbers t c.add_instances.new.table.numbered (types_in_bodies xs)) (sym c.as_slice-3.ensures) ∙ none)))))) c.in_err-add_bodies.ensures.left
