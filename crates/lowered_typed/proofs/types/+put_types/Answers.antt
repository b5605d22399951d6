use Rattle.std.proofs.Common.{◌≡◌, ◌∙◌, ◌∷◌, ◌++◌, ◌≤◌, ◌<◌, ℕ, List, length, sym, ap, arith, [], append_assoc}
use Rattle.lowered_ends.proofs.Masses.{kind_mass, mass_opens, mass_some, masses, one_mass, rest_mass}
use Rattle.lowered_steps.proofs.Lists.{first_of, head_of, none_of, one_of, only_of, others}
use Rattle.lowered_typed.proofs.Fixed.{nothing_typ, truth_typ}
use Rattle.lowered_typed.proofs.More.{block_same, branch_other, branch_two, last_types, others_fall, others_less, others_mass, path_last, path_same}
use Rattle.lowered_typed.proofs.More.{second_same, typed_else, typed_then}
use Rattle.lowered_typed.proofs.Parts.{many_here}
use Rattle.lowered_typed.proofs.Pushed.{joined, none}
use Rattle.lowered_typed.specs.Judging.{typed}
use Rattle.lowered_validity.specs.Typing.{gives_in}
use Rattle.sail_core.specs.declared.targets.Suffix.{Suffix}
use Rattle.sail_core.specs.declared.tree.Core.{out-Core}
use Rattle.sail_core.specs.declared.tree.Kind.{Kind}
use Rattle.sail_core.specs.declared.tree.Statement.{Statement}
use Rattle.size_values.specs.declared.sized.Sized.{Sized}
use Rattle.sized_nodes.specs.declared.trees.Case.{Case}
use Rattle.std.proofs.lemmas.Result.{on_ok_weaker}
use Rattle.sail_core.specs.declared.tree.Statement.TheVariants as S
use Rattle.size_values.specs.declared.sized.Sized.TheVariants as Z
use Rattle.lowered_typed.specs.Here as here
use Rattle.lowered_typed.specs.Judged as judged
use Rattle.lowered_typed.proofs.types.+put_types.Goals as goal

pub put_all_types-returns-in-empty : goal.put_all_types-returns-in-empty
put_all_types-returns-in-empty t c =
    none c.args.types.now (here.arms_types c.args.judge.now (judged.all_here c.args.judge.now c.args.nodes.now)) (ap
    (λ us. here.arms_types c.args.judge.now (judged.all_here c.args.judge.now us)) (none_of c.args.nodes.now c.in-empty.len_below))

pub put_all_types-returns-in_ok-put_types-in-len1-up : goal.put_all_types-returns-in_ok-put_types-in-len1-up
put_all_types-returns-in_ok-put_types-in-len1-up t c =
    on_ok_weaker c.put_all_types.result
    (λ (e : c.put_all_types.new.types ≡ c.put_types.new.types ++ here.arms_types c.args.judge.now (judged.all_here c.args.judge.now
    (others c.args.nodes.now))). joined c.args.types.now c.put_types.new.types c.put_all_types.new.types
    (typed c.args.judge.now c.first-item.result).types (here.arms_types c.args.judge.now (judged.all_here c.args.judge.now
    (others c.args.nodes.now))) (here.arms_types c.args.judge.now
    (judged.all_here c.args.judge.now c.args.nodes.now)) c.in_ok-put_types-in-len1-up.ensures e (ap
    (λ us. here.arms_types c.args.judge.now (judged.all_here c.args.judge.now us))
    (first_of c.args.nodes.now c.first-item.result c.in-len1-up.len_at_least c.first-item.is))) c.put_all_types.ensures

pub put_all_types-put_types-requires : goal.put_all_types-put_types-requires
put_all_types-put_types-requires t c = (omega (arith, rest_mass _ _ c.in-len1-up.len_at_least c.first-item.is, c.decreases), tt)

pub put_all_types-put_all_types-requires : goal.put_all_types-put_all_types-requires
put_all_types-put_all_types-requires t c =
    (omega (arith, rest_mass _ _ c.in-len1-up.len_at_least c.first-item.is, mass_some c.first-item.result, c.decreases), tt)

pub put_last_types-returns-in-len1 : goal.put_last_types-returns-in-len1
put_last_types-returns-in-len1 t c =
    on_ok_weaker c.put_types.result (λ (e : c.put_types.new.types ≡ c.args.types.now ++ (typed c.args.judge.now c.value-item.result).types). e
    ∙ ap (λ us. c.args.types.now ++ here.block_types c.args.judge.now [] (judged.all_here c.args.judge.now us)) (sym
    (one_of c.args.parts.now c.value-item.result c.in-len1.len_at_least c.in-len1.len_below c.value-item.is))) c.put_types.ensures

pub put_last_types-put_types-requires : goal.put_last_types-put_types-requires
put_last_types-put_types-requires t c = (omega (arith, one_mass _ _ c.in-len1.len_at_least c.value-item.is, c.decreases), tt)

pub put_last_types-returns-in-len2-up : goal.put_last_types-returns-in-len2-up
put_last_types-returns-in-len2-up t c =
    none c.args.types.now (here.block_types c.args.judge.now [] (judged.all_here c.args.judge.now c.args.parts.now))
    (last_types c.args.judge.now c.args.parts.now c.in-len2-up.len_at_least)

pub put_block_types-returns-in-empty : goal.put_block_types-returns-in-empty
put_block_types-returns-in-empty t c =
    on_ok_weaker c.put_last_types.result
    (λ (e : c.put_last_types.new.types ≡ c.args.types.now ++ here.block_types c.args.judge.now []
    (judged.all_here c.args.judge.now c.args.parts.now)). e
    ∙ ap (λ us. c.args.types.now ++ here.block_types c.args.judge.now us (judged.all_here c.args.judge.now c.args.parts.now)) (sym
    (none_of c.args.statements.now c.in-empty.len_below))) c.put_last_types.ensures

pub put_block_types-put_last_types-requires : goal.put_block_types-put_last_types-requires
put_block_types-put_last_types-requires t c = (omega (arith, c.decreases), tt)

pub put_block_types-returns-in-empty-parts : goal.put_block_types-returns-in-empty-parts
put_block_types-returns-in-empty-parts t c =
    none c.args.types.now (here.block_types c.args.judge.now c.args.statements.now (judged.all_here c.args.judge.now c.args.parts.now))
    (λ i. here.block_types c.args.judge.now (head_of c.args.statements.now S.Evaluate c.in-len1-up.len_at_least i) (judged.all_here c.args.judge.now
    (none_of c.args.parts.now c.in-empty-parts.len_below i)))

pub put_block_types-put_block_types-requires : goal.put_block_types-put_block_types-requires
put_block_types-put_block_types-requires t c = (omega (arith, others_fall c.args.parts.now c.in-len1-up-parts.len_at_least, c.decreases), tt)

pub put_block_types-returns-in-len1-up-parts : goal.put_block_types-returns-in-len1-up-parts
put_block_types-returns-in-len1-up-parts t c =
    on_ok_weaker c.put_block_types.result
    (λ (e : c.put_block_types.new.types ≡ c.args.types.now ++ here.block_types c.args.judge.now (others c.args.statements.now)
    (judged.all_here c.args.judge.now (others c.args.parts.now))). e
    ∙ ap (λ us. c.args.types.now ++ us)
    (block_same c.args.judge.now c.args.statements.now c.args.parts.now c.in-len1-up.len_at_least c.in-len1-up-parts.len_at_least))
    c.put_block_types.ensures

pub put_first_types-returns-in-empty : goal.put_first_types-returns-in-empty
put_first_types-returns-in-empty t c =
    none c.args.types.now (judged.first_types (judged.all_here c.args.judge.now c.args.parts.now)) (ap
    (λ us. judged.first_types (judged.all_here c.args.judge.now us)) (none_of c.args.parts.now c.in-empty.len_below))

pub put_first_types-returns-in-len1-up : goal.put_first_types-returns-in-len1-up
put_first_types-returns-in-len1-up t c =
    on_ok_weaker c.put_types.result (λ (e : c.put_types.new.types ≡ c.args.types.now ++ (typed c.args.judge.now c.first-item.result).types). e
    ∙ ap (λ us. c.args.types.now ++ judged.first_types (judged.all_here c.args.judge.now us)) (sym
    (first_of c.args.parts.now c.first-item.result c.in-len1-up.len_at_least c.first-item.is))) c.put_types.ensures

pub put_first_types-put_types-requires : goal.put_first_types-put_types-requires
put_first_types-put_types-requires t c = (omega (arith, one_mass _ _ c.in-len1-up.len_at_least c.first-item.is, c.decreases), tt)

pub put_second_types-returns-in-empty : goal.put_second_types-returns-in-empty
put_second_types-returns-in-empty t c =
    none c.args.types.now (judged.second_types c.args.judge.now (judged.all_here c.args.judge.now c.args.parts.now)) (ap
    (λ us. judged.second_types c.args.judge.now (judged.all_here c.args.judge.now us)) (none_of c.args.parts.now c.in-empty.len_below))

pub put_second_types-returns-in-len1-up : goal.put_second_types-returns-in-len1-up
put_second_types-returns-in-len1-up t c =
    on_ok_weaker c.put_first_types.result
    (λ (e : c.put_first_types.new.types ≡ c.args.types.now ++ judged.first_types (judged.all_here c.args.judge.now (others c.args.parts.now))). e
    ∙ ap (λ us. c.args.types.now ++ us) (second_same c.args.judge.now c.args.parts.now c.in-len1-up.len_at_least)) c.put_first_types.ensures

pub put_second_types-put_first_types-requires : goal.put_second_types-put_first_types-requires
put_second_types-put_first_types-requires t c =
    (let e : masses (others c.args.parts.now) ≤ masses c.args.parts.now = others_mass c.args.parts.now in omega (arith, e, c.decreases), tt)

pub put_path_types-returns-in-empty : goal.put_path_types-returns-in-empty
put_path_types-returns-in-empty t c =
    on_ok_weaker c.put_first_types.result
    (λ (e : c.put_first_types.new.types ≡ c.args.types.now ++ judged.first_types (judged.all_here c.args.judge.now c.args.parts.now)). e
    ∙ ap (λ us. c.args.types.now ++ here.path_types c.args.judge.now us (judged.first_types (judged.all_here c.args.judge.now c.args.parts.now)))
    (sym (none_of c.args.suffixes.now c.in-empty.len_below))) c.put_first_types.ensures

pub put_path_types-returns-in-len1 : goal.put_path_types-returns-in-len1
put_path_types-returns-in-len1 t c =
    path_last c.args.judge.now c.put_way_types.result _ c.args.suffixes.now (judged.first_types
    (judged.all_here c.args.judge.now c.args.parts.now)) c.args.types.now c.put_way_types.new.types
    (only_of c.args.suffixes.now _ c.in-len1.len_at_least c.in-len1.len_below) c.put_way_types.ensures

pub put_path_types-returns-in-len1-up : goal.put_path_types-returns-in-len1-up
put_path_types-returns-in-len1-up t c =
    on_ok_weaker c.put_path_types.result
    (λ (e : c.put_path_types.new.types ≡ c.args.types.now ++ here.path_types c.args.judge.now (others c.args.suffixes.now) (judged.first_types
    (judged.all_here c.args.judge.now c.args.parts.now))). e
    ∙ ap (λ us. c.args.types.now ++ us) (path_same c.args.judge.now c.args.suffixes.now (judged.first_types
    (judged.all_here c.args.judge.now c.args.parts.now)) (omega arith))) c.put_path_types.ensures

pub put_path_types-put_first_types-requires : goal.put_path_types-put_first_types-requires
put_path_types-put_first_types-requires t c = (omega (arith, c.decreases), tt)

pub put_path_types-put_path_types-requires : goal.put_path_types-put_path_types-requires
put_path_types-put_path_types-requires t c = (
  let d : length (others c.args.suffixes.now) < length c.args.suffixes.now = others_less c.args.suffixes.now (omega
      (arith, c.in-len1-up.len_at_least)) in omega (arith, d, c.decreases),
  tt,
)

pub put_kind_types-returns-in-Constant : goal.put_kind_types-returns-in-Constant
put_kind_types-returns-in-Constant t c =
    on_ok_weaker c.put_literal_type.result
    (λ (e : c.put_literal_type.new.types ≡ c.args.types.now ++ judged.literal_types c.args.judge.now c.in-Constant.literal). e
    ∙ ap (λ (k : Kind). c.args.types.now ++ judged.types_by c.args.judge.now k c.args.number (judged.all_here c.args.judge.now c.args.parts.now))
    (sym c.in-Constant.is)) c.put_literal_type.ensures

pub put_kind_types-returns-in-Local : goal.put_kind_types-returns-in-Local
put_kind_types-returns-in-Local t c =
    on_ok_weaker c.put_gives.result (λ (e : c.put_gives.new.types ≡ c.args.types.now ++ gives_in c.cases.result.now). e
    ∙ ap (λ (cs : List Case). c.args.types.now ++ gives_in cs) c.cases.ensures
    ∙ ap (λ (k : Kind). c.args.types.now ++ judged.types_by c.args.judge.now k c.args.number (judged.all_here c.args.judge.now c.args.parts.now))
    (sym c.in-Local.is)) c.put_gives.ensures

pub put_kind_types-returns-in-TopLevel : goal.put_kind_types-returns-in-TopLevel
put_kind_types-returns-in-TopLevel t c =
    on_ok_weaker c.put_gives-in-TopLevel.result
    (λ (e : c.put_gives-in-TopLevel.new.types ≡ c.args.types.now ++ gives_in c.cases-in-TopLevel.result.now). e
    ∙ ap (λ (cs : List Case). c.args.types.now ++ gives_in cs) c.cases-in-TopLevel.ensures
    ∙ ap (λ (k : Kind). c.args.types.now ++ judged.types_by c.args.judge.now k c.args.number (judged.all_here c.args.judge.now c.args.parts.now))
    (sym c.in-TopLevel.is)) c.put_gives-in-TopLevel.ensures

pub put_kind_types-returns-in-Register : goal.put_kind_types-returns-in-Register
put_kind_types-returns-in-Register t c =
    on_ok_weaker c.put_gives-in-Register.result
    (λ (e : c.put_gives-in-Register.new.types ≡ c.args.types.now ++ gives_in c.cases-in-Register.result.now). e
    ∙ ap (λ (cs : List Case). c.args.types.now ++ gives_in cs) c.cases-in-Register.ensures
    ∙ ap (λ (k : Kind). c.args.types.now ++ judged.types_by c.args.judge.now k c.args.number (judged.all_here c.args.judge.now c.args.parts.now))
    (sym c.in-Register.is)) c.put_gives-in-Register.ensures

pub put_kind_types-returns-in-Call : goal.put_kind_types-returns-in-Call
put_kind_types-returns-in-Call t c =
    on_ok_weaker c.put_gives-in-Call.result (λ (e : c.put_gives-in-Call.new.types ≡ c.args.types.now ++ gives_in c.cases-in-Call.result.now). e
    ∙ ap (λ (cs : List Case). c.args.types.now ++ gives_in cs) (c.cases-in-Call.ensures
    ∙ ap (λ (n : ℕ). judged.cases_at c.args.judge.now c.args.number n) (sym (many_here c.args.judge.now c.args.parts.now)))
    ∙ ap (λ (k : Kind). c.args.types.now ++ judged.types_by c.args.judge.now k c.args.number (judged.all_here c.args.judge.now c.args.parts.now))
    (sym c.in-Call.is)) c.put_gives-in-Call.ensures

pub put_kind_types-returns-in-Tuple : goal.put_kind_types-returns-in-Tuple
put_kind_types-returns-in-Tuple t c =
    on_ok_weaker c.put_gives-in-Tuple.result (λ (e : c.put_gives-in-Tuple.new.types ≡ c.args.types.now ++ gives_in c.cases-in-Tuple.result.now). e
    ∙ ap (λ (cs : List Case). c.args.types.now ++ gives_in cs) (c.cases-in-Tuple.ensures
    ∙ ap (λ (n : ℕ). judged.cases_at c.args.judge.now c.args.number n) (sym (many_here c.args.judge.now c.args.parts.now)))
    ∙ ap (λ (k : Kind). c.args.types.now ++ judged.types_by c.args.judge.now k c.args.number (judged.all_here c.args.judge.now c.args.parts.now))
    (sym c.in-Tuple.is)) c.put_gives-in-Tuple.ensures

pub put_kind_types-returns-in-Vector : goal.put_kind_types-returns-in-Vector
put_kind_types-returns-in-Vector t c =
    on_ok_weaker c.put_gives-in-Vector.result
    (λ (e : c.put_gives-in-Vector.new.types ≡ c.args.types.now ++ gives_in c.cases-in-Vector.result.now). e
    ∙ ap (λ (cs : List Case). c.args.types.now ++ gives_in cs) (c.cases-in-Vector.ensures
    ∙ ap (λ (n : ℕ). judged.cases_at c.args.judge.now c.args.number n) (sym (many_here c.args.judge.now c.args.parts.now)))
    ∙ ap (λ (k : Kind). c.args.types.now ++ judged.types_by c.args.judge.now k c.args.number (judged.all_here c.args.judge.now c.args.parts.now))
    (sym c.in-Vector.is)) c.put_gives-in-Vector.ensures

pub put_kind_types-returns-in-List : goal.put_kind_types-returns-in-List
put_kind_types-returns-in-List t c =
    on_ok_weaker c.put_gives-in-List.result (λ (e : c.put_gives-in-List.new.types ≡ c.args.types.now ++ gives_in c.cases-in-List.result.now). e
    ∙ ap (λ (cs : List Case). c.args.types.now ++ gives_in cs) (c.cases-in-List.ensures
    ∙ ap (λ (n : ℕ). judged.cases_at c.args.judge.now c.args.number n) (sym (many_here c.args.judge.now c.args.parts.now)))
    ∙ ap (λ (k : Kind). c.args.types.now ++ judged.types_by c.args.judge.now k c.args.number (judged.all_here c.args.judge.now c.args.parts.now))
    (sym c.in-List.is)) c.put_gives-in-List.ensures

pub put_kind_types-returns-in-Cons : goal.put_kind_types-returns-in-Cons
put_kind_types-returns-in-Cons t c =
    on_ok_weaker c.put_gives-in-Cons.result (λ (e : c.put_gives-in-Cons.new.types ≡ c.args.types.now ++ gives_in c.cases-in-Cons.result.now). e
    ∙ ap (λ (cs : List Case). c.args.types.now ++ gives_in cs) (c.cases-in-Cons.ensures
    ∙ ap (λ (n : ℕ). judged.cases_at c.args.judge.now c.args.number n) (sym (many_here c.args.judge.now c.args.parts.now)))
    ∙ ap (λ (k : Kind). c.args.types.now ++ judged.types_by c.args.judge.now k c.args.number (judged.all_here c.args.judge.now c.args.parts.now))
    (sym c.in-Cons.is)) c.put_gives-in-Cons.ensures

pub put_kind_types-returns-in-Struct : goal.put_kind_types-returns-in-Struct
put_kind_types-returns-in-Struct t c =
    on_ok_weaker c.put_gives-in-Struct.result
    (λ (e : c.put_gives-in-Struct.new.types ≡ c.args.types.now ++ gives_in c.cases-in-Struct.result.now). e
    ∙ ap (λ (cs : List Case). c.args.types.now ++ gives_in cs) (c.cases-in-Struct.ensures
    ∙ ap (λ (n : ℕ). judged.cases_at c.args.judge.now c.args.number n) (sym (many_here c.args.judge.now c.args.parts.now)))
    ∙ ap (λ (k : Kind). c.args.types.now ++ judged.types_by c.args.judge.now k c.args.number (judged.all_here c.args.judge.now c.args.parts.now))
    (sym c.in-Struct.is)) c.put_gives-in-Struct.ensures

pub put_kind_types-returns-in-With : goal.put_kind_types-returns-in-With
put_kind_types-returns-in-With t c =
    on_ok_weaker c.put_gives-in-With.result (λ (e : c.put_gives-in-With.new.types ≡ c.args.types.now ++ gives_in c.cases-in-With.result.now). e
    ∙ ap (λ (cs : List Case). c.args.types.now ++ gives_in cs) (c.cases-in-With.ensures
    ∙ ap (λ (n : ℕ). judged.cases_at c.args.judge.now c.args.number n) (sym (many_here c.args.judge.now c.args.parts.now)))
    ∙ ap (λ (k : Kind). c.args.types.now ++ judged.types_by c.args.judge.now k c.args.number (judged.all_here c.args.judge.now c.args.parts.now))
    (sym c.in-With.is)) c.put_gives-in-With.ensures

pub put_kind_types-returns-in-Part : goal.put_kind_types-returns-in-Part
put_kind_types-returns-in-Part t c =
    on_ok_weaker c.put_path_types.result
    (λ (e : c.put_path_types.new.types ≡ c.args.types.now ++ here.path_types c.args.judge.now c.as_slice.result.now (judged.first_types
    (judged.all_here c.args.judge.now c.args.parts.now))). e
    ∙ ap (λ (ss : List Suffix). c.args.types.now ++ here.path_types c.args.judge.now ss (judged.first_types
    (judged.all_here c.args.judge.now c.args.parts.now))) c.as_slice.ensures
    ∙ ap (λ (k : Kind). c.args.types.now ++ judged.types_by c.args.judge.now k c.args.number (judged.all_here c.args.judge.now c.args.parts.now))
    (sym c.in-Part.is)) c.put_path_types.ensures

pub put_kind_types-put_path_types-requires : goal.put_kind_types-put_path_types-requires
put_kind_types-put_path_types-requires t c = (
  let e : kind_mass c.args.kind.now ≡ length c.as_slice.result.now = ap kind_mass c.in-Part.is
      ∙ ap (λ (ss : List Suffix). length ss) (sym c.as_slice.ensures) in omega (arith, e, c.decreases),
  tt,
)

pub put_kind_types-returns-in-WithItem : goal.put_kind_types-returns-in-WithItem
put_kind_types-returns-in-WithItem t c =
    on_ok_weaker c.put_gives-in-WithItem.result
    (λ (e : c.put_gives-in-WithItem.new.types ≡ c.args.types.now ++ gives_in c.cases-in-WithItem.result.now). e
    ∙ ap (λ (cs : List Case). c.args.types.now ++ gives_in cs) c.cases-in-WithItem.ensures
    ∙ ap (λ (k : Kind). c.args.types.now ++ judged.types_by c.args.judge.now k c.args.number (judged.all_here c.args.judge.now c.args.parts.now))
    (sym c.in-WithItem.is)) c.put_gives-in-WithItem.ensures

pub put_kind_types-returns-in-WithSlice : goal.put_kind_types-returns-in-WithSlice
put_kind_types-returns-in-WithSlice t c =
    on_ok_weaker c.put_gives-in-WithSlice.result
    (λ (e : c.put_gives-in-WithSlice.new.types ≡ c.args.types.now ++ gives_in c.cases-in-WithSlice.result.now). e
    ∙ ap (λ (cs : List Case). c.args.types.now ++ gives_in cs) c.cases-in-WithSlice.ensures
    ∙ ap (λ (k : Kind). c.args.types.now ++ judged.types_by c.args.judge.now k c.args.number (judged.all_here c.args.judge.now c.args.parts.now))
    (sym c.in-WithSlice.is)) c.put_gives-in-WithSlice.ensures

pub put_kind_types-returns-in-Cast : goal.put_kind_types-returns-in-Cast
put_kind_types-returns-in-Cast t c =
    on_ok_weaker c.put_gives-in-Cast.result (λ (e : c.put_gives-in-Cast.new.types ≡ c.args.types.now ++ gives_in c.cases-in-Cast.result.now). e
    ∙ ap (λ (cs : List Case). c.args.types.now ++ gives_in cs) c.cases-in-Cast.ensures
    ∙ ap (λ (k : Kind). c.args.types.now ++ judged.types_by c.args.judge.now k c.args.number (judged.all_here c.args.judge.now c.args.parts.now))
    (sym c.in-Cast.is)) c.put_gives-in-Cast.ensures

pub put_kind_types-returns-in-SizeOf : goal.put_kind_types-returns-in-SizeOf
put_kind_types-returns-in-SizeOf t c =
    on_ok_weaker c.put_number_type.result
    (λ (e : c.put_number_type.new.types ≡ c.args.types.now ++ judged.size_types c.args.judge.now c.in-SizeOf.size). e
    ∙ ap (λ (k : Kind). c.args.types.now ++ judged.types_by c.args.judge.now k c.args.number (judged.all_here c.args.judge.now c.args.parts.now))
    (sym c.in-SizeOf.is)) c.put_number_type.ensures

pub put_kind_types-returns-in-Constraint : goal.put_kind_types-returns-in-Constraint
put_kind_types-returns-in-Constraint t c =
    on_ok_weaker c.put_truth_type.result
    (λ (e : c.put_truth_type.new.types ≡ c.args.types.now ++ judged.condition_types c.args.judge.now c.in-Constraint.condition). e
    ∙ ap (λ (k : Kind). c.args.types.now ++ judged.types_by c.args.judge.now k c.args.number (judged.all_here c.args.judge.now c.args.parts.now))
    (sym c.in-Constraint.is)) c.put_truth_type.ensures

pub put_kind_types-returns-in-Assign : goal.put_kind_types-returns-in-Assign
put_kind_types-returns-in-Assign t c =
    on_ok_weaker c.put_assign_types.result
    (λ (e : c.put_assign_types.new.types ≡ c.args.types.now ++ judged.assign_types c.args.judge.now c.as_slice-in-Assign.result.now
    (length c.args.parts.now)). e
    ∙ (λ i. c.args.types.now ++ judged.assign_types c.args.judge.now (c.as_slice-in-Assign.ensures i) (sym
    (many_here c.args.judge.now c.args.parts.now) i))
    ∙ ap (λ (k : Kind). c.args.types.now ++ judged.types_by c.args.judge.now k c.args.number (judged.all_here c.args.judge.now c.args.parts.now))
    (sym c.in-Assign.is)) c.put_assign_types.ensures

pub put_kind_types-returns-in-Block : goal.put_kind_types-returns-in-Block
put_kind_types-returns-in-Block t c =
    on_ok_weaker c.put_block_types.result
    (λ (e : c.put_block_types.new.types ≡ c.args.types.now ++ here.block_types c.args.judge.now c.as_slice-in-Block.result.now
    (judged.all_here c.args.judge.now c.args.parts.now)). e
    ∙ ap (λ (ss : List Statement). c.args.types.now ++ here.block_types c.args.judge.now ss
    (judged.all_here c.args.judge.now c.args.parts.now)) c.as_slice-in-Block.ensures
    ∙ ap (λ (k : Kind). c.args.types.now ++ judged.types_by c.args.judge.now k c.args.number (judged.all_here c.args.judge.now c.args.parts.now))
    (sym c.in-Block.is)) c.put_block_types.ensures

pub put_kind_types-put_block_types-requires : goal.put_kind_types-put_block_types-requires
put_kind_types-put_block_types-requires t c = (omega (arith, c.decreases), tt)

pub put_kind_types-returns-in-Var : goal.put_kind_types-returns-in-Var
put_kind_types-returns-in-Var t c =
    on_ok_weaker c.put_second_types.result
    (λ (e : c.put_second_types.new.types ≡ c.args.types.now ++ judged.second_types c.args.judge.now
    (judged.all_here c.args.judge.now c.args.parts.now)). e
    ∙ ap (λ (k : Kind). c.args.types.now ++ judged.types_by c.args.judge.now k c.args.number (judged.all_here c.args.judge.now c.args.parts.now))
    (sym c.in-Var.is)) c.put_second_types.ensures

pub put_kind_types-put_second_types-requires : goal.put_kind_types-put_second_types-requires
put_kind_types-put_second_types-requires t c = (omega (arith, c.decreases), tt)

pub put_kind_types-returns-in-If : goal.put_kind_types-returns-in-If
put_kind_types-returns-in-If t c =
    on_ok_weaker c.put_if_types.result
    (λ (e : c.put_if_types.new.types ≡ c.args.types.now ++ judged.if_types c.args.judge.now c.args.number
    (judged.all_here c.args.judge.now c.args.parts.now)). e
    ∙ ap (λ (k : Kind). c.args.types.now ++ judged.types_by c.args.judge.now k c.args.number (judged.all_here c.args.judge.now c.args.parts.now))
    (sym c.in-If.is)) c.put_if_types.ensures

pub put_kind_types-put_if_types-requires : goal.put_kind_types-put_if_types-requires
put_kind_types-put_if_types-requires t c = (omega (arith, c.decreases), tt)

pub put_kind_types-returns-in-While : goal.put_kind_types-returns-in-While
put_kind_types-returns-in-While t c =
    on_ok_weaker c.push.result (λ (e : c.push.new.self ≡ c.args.types.now ++ Z.Unit ∷ []). e
    ∙ ap (λ (s : Sized). c.args.types.now ++ s ∷ []) (sym (nothing_typ c.args.judge.now.setting.now.types.now))
    ∙ ap (λ (k : Kind). c.args.types.now ++ judged.types_by c.args.judge.now k c.args.number (judged.all_here c.args.judge.now c.args.parts.now))
    (sym c.in-While.is)) c.push.ensures.pushed

pub put_kind_types-returns-in-Repeat : goal.put_kind_types-returns-in-Repeat
put_kind_types-returns-in-Repeat t c =
    on_ok_weaker c.push-in-Repeat.result (λ (e : c.push-in-Repeat.new.self ≡ c.args.types.now ++ Z.Unit ∷ []). e
    ∙ ap (λ (s : Sized). c.args.types.now ++ s ∷ []) (sym (nothing_typ c.args.judge.now.setting.now.types.now))
    ∙ ap (λ (k : Kind). c.args.types.now ++ judged.types_by c.args.judge.now k c.args.number (judged.all_here c.args.judge.now c.args.parts.now))
    (sym c.in-Repeat.is)) c.push-in-Repeat.ensures.pushed

pub put_kind_types-returns-in-Foreach : goal.put_kind_types-returns-in-Foreach
put_kind_types-returns-in-Foreach t c =
    on_ok_weaker c.push-in-Foreach.result (λ (e : c.push-in-Foreach.new.self ≡ c.args.types.now ++ Z.Unit ∷ []). e
    ∙ ap (λ (s : Sized). c.args.types.now ++ s ∷ []) (sym (nothing_typ c.args.judge.now.setting.now.types.now))
    ∙ ap (λ (k : Kind). c.args.types.now ++ judged.types_by c.args.judge.now k c.args.number (judged.all_here c.args.judge.now c.args.parts.now))
    (sym c.in-Foreach.is)) c.push-in-Foreach.ensures.pushed

pub put_kind_types-returns-in-Assert : goal.put_kind_types-returns-in-Assert
put_kind_types-returns-in-Assert t c =
    on_ok_weaker c.push-in-Assert.result (λ (e : c.push-in-Assert.new.self ≡ c.args.types.now ++ Z.Unit ∷ []). e
    ∙ ap (λ (s : Sized). c.args.types.now ++ s ∷ []) (sym (nothing_typ c.args.judge.now.setting.now.types.now))
    ∙ ap (λ (k : Kind). c.args.types.now ++ judged.types_by c.args.judge.now k c.args.number (judged.all_here c.args.judge.now c.args.parts.now))
    (sym c.in-Assert.is)) c.push-in-Assert.ensures.pushed

pub put_kind_types-returns-in-And : goal.put_kind_types-returns-in-And
put_kind_types-returns-in-And t c =
    on_ok_weaker c.push-in-And.result (λ (e : c.push-in-And.new.self ≡ c.args.types.now ++ Z.Bool ∷ []). e
    ∙ ap (λ (s : Sized). c.args.types.now ++ s ∷ []) (sym (truth_typ c.args.judge.now.setting.now.types.now))
    ∙ ap (λ (k : Kind). c.args.types.now ++ judged.types_by c.args.judge.now k c.args.number (judged.all_here c.args.judge.now c.args.parts.now))
    (sym c.in-And.is)) c.push-in-And.ensures.pushed

pub put_kind_types-returns-in-Or : goal.put_kind_types-returns-in-Or
put_kind_types-returns-in-Or t c =
    on_ok_weaker c.push-in-Or.result (λ (e : c.push-in-Or.new.self ≡ c.args.types.now ++ Z.Bool ∷ []). e
    ∙ ap (λ (s : Sized). c.args.types.now ++ s ∷ []) (sym (truth_typ c.args.judge.now.setting.now.types.now))
    ∙ ap (λ (k : Kind). c.args.types.now ++ judged.types_by c.args.judge.now k c.args.number (judged.all_here c.args.judge.now c.args.parts.now))
    (sym c.in-Or.is)) c.push-in-Or.ensures.pushed

pub put_kind_types-returns-in-When : goal.put_kind_types-returns-in-When
put_kind_types-returns-in-When t c =
    on_ok_weaker c.put_second_types-in-When.result
    (λ (e : c.put_second_types-in-When.new.types ≡ c.args.types.now ++ judged.second_types c.args.judge.now
    (judged.all_here c.args.judge.now c.args.parts.now)). e
    ∙ ap (λ (k : Kind). c.args.types.now ++ judged.types_by c.args.judge.now k c.args.number (judged.all_here c.args.judge.now c.args.parts.now))
    (sym c.in-When.is)) c.put_second_types-in-When.ensures

pub put_kind_types-put_second_types-requires-in-When : goal.put_kind_types-put_second_types-requires-in-When
put_kind_types-put_second_types-requires-in-When t c = (omega (arith, c.decreases), tt)

pub put_kind_types-returns-in-Let : goal.put_kind_types-returns-in-Let
put_kind_types-returns-in-Let t c =
    on_ok_weaker c.put_second_types-in-Let.result
    (λ (e : c.put_second_types-in-Let.new.types ≡ c.args.types.now ++ judged.second_types c.args.judge.now
    (judged.all_here c.args.judge.now c.args.parts.now)). e
    ∙ ap (λ (k : Kind). c.args.types.now ++ judged.types_by c.args.judge.now k c.args.number (judged.all_here c.args.judge.now c.args.parts.now))
    (sym c.in-Let.is)) c.put_second_types-in-Let.ensures

pub put_kind_types-put_second_types-requires-in-Let : goal.put_kind_types-put_second_types-requires-in-Let
put_kind_types-put_second_types-requires-in-Let t c = (omega (arith, c.decreases), tt)

pub put_kind_types-returns-in-Match : goal.put_kind_types-returns-in-Match
put_kind_types-returns-in-Match t c =
    on_ok_weaker c.put_gives-in-Match.result (λ (e : c.put_gives-in-Match.new.types ≡ c.args.types.now ++ gives_in c.cases-in-Match.result.now). e
    ∙ ap (λ (cs : List Case). c.args.types.now ++ gives_in cs) c.cases-in-Match.ensures
    ∙ ap (λ (k : Kind). c.args.types.now ++ judged.types_by c.args.judge.now k c.args.number (judged.all_here c.args.judge.now c.args.parts.now))
    (sym c.in-Match.is)) c.put_gives-in-Match.ensures

pub put_kind_types-returns-in-Try : goal.put_kind_types-returns-in-Try
put_kind_types-returns-in-Try t c =
    on_ok_weaker c.put_gives-in-Try.result (λ (e : c.put_gives-in-Try.new.types ≡ c.args.types.now ++ gives_in c.cases-in-Try.result.now). e
    ∙ ap (λ (cs : List Case). c.args.types.now ++ gives_in cs) c.cases-in-Try.ensures
    ∙ ap (λ (k : Kind). c.args.types.now ++ judged.types_by c.args.judge.now k c.args.number (judged.all_here c.args.judge.now c.args.parts.now))
    (sym c.in-Try.is)) c.put_gives-in-Try.ensures

pub put_kind_types-returns-in-Clauses : goal.put_kind_types-returns-in-Clauses
put_kind_types-returns-in-Clauses t c =
    on_ok_weaker c.put_all_types.result
    (λ (e : c.put_all_types.new.types ≡ c.args.types.now ++ here.arms_types c.args.judge.now
    (judged.all_here c.args.judge.now c.args.parts.now)). e
    ∙ ap (λ (k : Kind). c.args.types.now ++ judged.types_by c.args.judge.now k c.args.number (judged.all_here c.args.judge.now c.args.parts.now))
    (sym c.in-Clauses.is)) c.put_all_types.ensures

pub put_kind_types-put_all_types-requires : goal.put_kind_types-put_all_types-requires
put_kind_types-put_all_types-requires t c = (omega (arith, c.decreases), tt)

pub put_kind_types-returns-in-Optional : goal.put_kind_types-returns-in-Optional
put_kind_types-returns-in-Optional t c =
    on_ok_weaker c.put_option_types.result
    (λ (e : c.put_option_types.new.types ≡ c.args.types.now ++ judged.option_types c.args.judge.now c.in-Optional.typ). e
    ∙ ap (λ (k : Kind). c.args.types.now ++ judged.types_by c.args.judge.now k c.args.number (judged.all_here c.args.judge.now c.args.parts.now))
    (sym c.in-Optional.is)) c.put_option_types.ensures

pub put_kind_types-returns-in-Variable : goal.put_kind_types-returns-in-Variable
put_kind_types-returns-in-Variable t c =
    on_ok_weaker c.put_variable_types.result
    (λ (e : c.put_variable_types.new.types ≡ c.args.types.now ++ judged.variable_types c.args.judge.now c.in-Variable.name c.args.number). e
    ∙ ap (λ (k : Kind). c.args.types.now ++ judged.types_by c.args.judge.now k c.args.number (judged.all_here c.args.judge.now c.args.parts.now))
    (sym c.in-Variable.is)) c.put_variable_types.ensures

pub put_kind_types-returns-in-Return : goal.put_kind_types-returns-in-Return
put_kind_types-returns-in-Return t c =
    none c.args.types.now (judged.types_by c.args.judge.now c.args.kind.now c.args.number (judged.all_here c.args.judge.now c.args.parts.now)) (ap
    (λ (k : Kind). judged.types_by c.args.judge.now k c.args.number (judged.all_here c.args.judge.now c.args.parts.now)) c.in-Return.is)

pub put_kind_types-returns-in-Throw : goal.put_kind_types-returns-in-Throw
put_kind_types-returns-in-Throw t c =
    none c.args.types.now (judged.types_by c.args.judge.now c.args.kind.now c.args.number (judged.all_here c.args.judge.now c.args.parts.now)) (ap
    (λ (k : Kind). judged.types_by c.args.judge.now k c.args.number (judged.all_here c.args.judge.now c.args.parts.now)) c.in-Throw.is)

pub put_kind_types-returns-in-Exit : goal.put_kind_types-returns-in-Exit
put_kind_types-returns-in-Exit t c =
    none c.args.types.now (judged.types_by c.args.judge.now c.args.kind.now c.args.number (judged.all_here c.args.judge.now c.args.parts.now)) (ap
    (λ (k : Kind). judged.types_by c.args.judge.now k c.args.number (judged.all_here c.args.judge.now c.args.parts.now)) c.in-Exit.is)

pub put_one_branch-returns : goal.put_one_branch-returns
put_one_branch-returns t c =
    on_ok_weaker c.push.result (λ (e : c.push.new.self ≡ c.put_second_types.new.types ++ Z.Unit ∷ []). e
    ∙ ap (λ us. us ++ Z.Unit ∷ []) c.in_ok-put_second_types.ensures
    ∙ append_assoc c.args.types.now (judged.second_types c.args.judge.now (judged.all_here c.args.judge.now c.args.parts.now)) (Z.Unit ∷ [])
    ∙ ap (λ t. c.args.types.now ++ (judged.second_types c.args.judge.now (judged.all_here c.args.judge.now c.args.parts.now) ++ t ∷ [])) (sym
    (nothing_typ c.args.judge.now.setting.now.types.now))) c.push.ensures.pushed

pub put_one_branch-put_second_types-requires : goal.put_one_branch-put_second_types-requires
put_one_branch-put_second_types-requires t c = (omega (arith, c.decreases), tt)

pub put_if_types-returns-then-parts-eq2 : goal.put_if_types-returns-then-parts-eq2
put_if_types-returns-then-parts-eq2 t c =
    on_ok_weaker c.put_one_branch.result
    (λ (e : c.put_one_branch.new.types ≡ c.args.types.now ++ judged.one_branch c.args.judge.now
    (judged.all_here c.args.judge.now c.args.parts.now)). e
    ∙ ap (λ us. c.args.types.now ++ us) (branch_two c.args.judge.now c.args.number c.args.parts.now c.if-parts-eq2.true)) c.put_one_branch.ensures

pub put_if_types-put_one_branch-requires : goal.put_if_types-put_one_branch-requires
put_if_types-put_one_branch-requires t c = (omega (arith, c.decreases), tt)

pub put_if_types-returns-else-parts-eq2 : goal.put_if_types-returns-else-parts-eq2
put_if_types-returns-else-parts-eq2 t c =
    on_ok_weaker c.put_gives.result (λ (e : c.put_gives.new.types ≡ c.args.types.now ++ gives_in c.cases.result.now). e
    ∙ ap (λ xs. c.args.types.now ++ gives_in xs) c.cases.ensures
    ∙ ap (λ us. c.args.types.now ++ us) (branch_other c.args.judge.now c.args.number c.args.parts.now c.if-parts-eq2.false)) c.put_gives.ensures

pub put_last_types-returns-in-empty : goal.put_last_types-returns-in-empty
put_last_types-returns-in-empty t c =
    on_ok_weaker c.push.result (λ (e : c.push.new.self ≡ c.args.types.now ++ Z.Unit ∷ []). e
    ∙ ap (λ t. c.args.types.now ++ t ∷ []) (sym (nothing_typ c.args.judge.now.setting.now.types.now))
    ∙ ap (λ us. c.args.types.now ++ here.block_types c.args.judge.now [] (judged.all_here c.args.judge.now us)) (sym
    (none_of c.args.parts.now c.in-empty.len_below))) c.push.ensures.pushed

pub put_types-returns-then-has_count : goal.put_types-returns-then-has_count
put_types-returns-then-has_count t c =
    on_ok_weaker c.put_kind_types.result
    (λ (e : c.put_kind_types.new.types ≡ c.args.types.now ++ judged.types_by c.args.judge.now (out-Core c.args.node.now).kind
    (out-Core c.args.node.now).number (judged.all_here c.args.judge.now c.as_slice-parts.result.now)). e
    ∙ ap (λ us. c.args.types.now ++ us)
    (typed_then c.args.judge.now c.args.node.now c.as_slice-parts.result.now c.has_count.result c.as_slice-parts.ensures c.has_count.ensures
    c.if-has_count.true)) c.put_kind_types.ensures

pub put_types-returns-else-has_count : goal.put_types-returns-else-has_count
put_types-returns-else-has_count t c =
    none c.args.types.now (typed c.args.judge.now c.args.node.now).types
    (typed_else c.args.judge.now c.args.node.now c.as_slice-parts.result.now c.has_count.result c.as_slice-parts.ensures c.has_count.ensures
    c.if-has_count.false)

pub put_types-put_kind_types-requires : goal.put_types-put_kind_types-requires
put_types-put_kind_types-requires t c = (omega (arith, mass_opens c.args.node.now _ c.as_slice-parts.ensures, c.decreases), tt)
