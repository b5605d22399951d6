use Rattle.std.proofs.Common.{◌≡◌, ◌∙◌, ◌-◌, ◌<◌, ℕ, SFits, arith, of_z, pos, rules, to_z, true, ap}
use Rattle.std.proofs.lemmas.Int.{to_z-of_z}
use Rattle.std.proofs.lemmas.Result.{on_ok_weaker}
use Rattle.std.specs.Int.{w128}
use Rattle.size_values.specs.declared.sized.Sized.TheVariants as S
use Rattle.lowered_types.specs.Table.{is_known}
use Rattle.lowered_pieces.specs.Emitted.{Begins}
use Rattle.lowered_tables.proofs.Growing.{begins_here, begins_then}
use Rattle.jib_lower.proofs.Numbering.{ok_both, words_next}
use Rattle.std.proofs.Common.{None, Some, suc}
use Rattle.lowered_tables.specs.Built.{with_numbers}
use Rattle.jib_lower.specs.Types.{word_types}
use Rattle.jib_lower.proofs.Unmade.{exit_table, last_more, type_listed, type_none, word_more, word_none}
use Rattle.jib_lower.proofs.types.+add_words.Goals as goal

pub returns-then-count-eq0-clause-known : goal.returns-then-count-eq0-clause-known
returns-then-count-eq0-clause-known t c = λ n lt. absurd (omega (arith, lt, c.if-count-eq0.true))

pub returns-then-count-eq0-clause-grown : goal.returns-then-count-eq0-clause-grown
returns-then-count-eq0-clause-grown t c = begins_here c.args.table.now.numbered

pub returns-clause-known : goal.returns-clause-known
returns-clause-known t c =
    let fits : SFits w128 c.from.result = search rules in
    ok_both c.add_words.result
    (λ (g : Begins c.add_type.new.list.numbered c.add_words.new.table.numbered) (k : (n : ℕ) → n < c.args.count - 1 → is_known
    c.add_words.new.table.numbered (S.Bits (pos n)) ≡ true).
    words_next c.add_type.new.list.numbered c.add_words.new.table.numbered c.args.count (to_z w128 (of_z w128 c.from.result)) g
    (to_z-of_z w128 c.from.result fits ∙ c.from.ensures) c.in_ok-add_type.ensures.grown.known k) c.add_words.ensures.grown
    c.add_words.ensures.known

pub returns-clause-grown : goal.returns-clause-grown
returns-clause-grown t c =
    on_ok_weaker c.add_words.result (λ (g : Begins c.add_type.new.list.numbered c.add_words.new.table.numbered).
    begins_then c.args.table.now.numbered c.add_type.new.list.numbered c.add_words.new.table.numbered c.in_ok-add_type.ensures.grown.begins g)
    c.add_words.ensures.grown

pub returns-then-count-eq0-clause-listed : goal.returns-then-count-eq0-clause-listed
returns-then-count-eq0-clause-listed t c =
    let none : c.args.count ≡ 0 = omega arith in
    ap (λ n. with_numbers c.args.types.now c.args.table.now.numbered (word_types n)) none
    ∙ ap (with_numbers c.args.types.now c.args.table.now.numbered) word_none

pub returns-clause-listed : goal.returns-clause-listed
returns-clause-listed t c =
    let fits : SFits w128 c.from.result = search rules in
    let many : c.args.count ≡ suc (c.args.count - 1) = omega arith in
    on_ok_weaker c.add_words.result
    (λ (h : with_numbers c.args.types.now c.add_type.new.list.numbered (word_types (c.args.count - 1)) ≡ Some c.add_words.new.table.numbered).
    type_listed c.args.types.now c.args.table.now.numbered c.add_type.new.list.numbered (word_types (c.args.count - 1)) (word_types c.args.count)
    (S.Bits (pos (c.args.count - 1))) (S.Bits (to_z w128 (of_z w128 c.from.result))) (Some c.add_words.new.table.numbered) (ap word_types many ∙ word_more (c.args.count - 1))
    (ap (λ z. S.Bits z) (to_z-of_z w128 c.from.result fits ∙ c.from.ensures)) c.in_ok-add_type.ensures.listed h) c.add_words.ensures.listed

pub returns-clause-left : goal.returns-clause-left
returns-clause-left t c =
    let fits : SFits w128 c.from.result = search rules in
    let many : c.args.count ≡ suc (c.args.count - 1) = omega arith in
    last_more c.add_words.result
    (type_listed c.args.types.now c.args.table.now.numbered c.add_type.new.list.numbered (word_types (c.args.count - 1)) (word_types c.args.count)
    (S.Bits (pos (c.args.count - 1))) (S.Bits (to_z w128 (of_z w128 c.from.result))) None (ap word_types many ∙ word_more (c.args.count - 1))
    (ap (λ z. S.Bits z) (to_z-of_z w128 c.from.result fits ∙ c.from.ensures)) c.in_ok-add_type.ensures.listed) c.add_words.ensures.left

pub returns-in_err-add_type-clause-left : goal.returns-in_err-add_type-clause-left
returns-in_err-add_type-clause-left t c =
    let fits : SFits w128 c.from.result = search rules in
    let many : c.args.count ≡ suc (c.args.count - 1) = omega arith in
    exit_table _ _ c.from_residual.ensures.1
    (type_none c.args.types.now c.args.table.now.numbered (word_types (c.args.count - 1)) (word_types c.args.count) (S.Bits (pos (c.args.count - 1))) (S.Bits (to_z w128 (of_z w128 c.from.result)))
    (ap word_types many ∙ word_more (c.args.count - 1)) (ap (λ z. S.Bits z) (to_z-of_z w128 c.from.result fits ∙ c.from.ensures))) c.in_err-add_type.ensures.left
