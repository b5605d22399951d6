use Rattle.std.proofs.Common.{◌≡◌, ◌∙◌, ◌++◌, sym, ap}
use Rattle.lowered_typed.proofs.Pushed.{none}
use Rattle.sail_core.specs.declared.patterns.Head.{Head}
use Rattle.std.proofs.lemmas.Result.{on_ok_weaker}
use Rattle.lowered_typed.specs.Here as here
use Rattle.lowered_typed.specs.Judged as judged
use Rattle.lowered_typed.proofs.heads.push_head.Goals as goal

pub returns-in-Is : goal.returns-in-Is
returns-in-Is c =
    none c.args.types.now (here.head_types c.args.judge.now c.args.whole.now c.args.head.now c.args.count) (ap
    (λ (h : Head). here.head_types c.args.judge.now c.args.whole.now h c.args.count) c.in-Is.is)

pub returns-in-Tuple : goal.returns-in-Tuple
returns-in-Tuple c =
    on_ok_weaker c.push_parts.result
    (λ (e : c.push_parts.new.types ≡ c.args.types.now ++ here.fields_typ c.args.judge.now c.args.whole.now 0 c.args.count). e
    ∙ ap (λ (h : Head). c.args.types.now ++ here.head_types c.args.judge.now c.args.whole.now h c.args.count) (sym c.in-Tuple.is)) c.push_parts.ensures

pub returns-in_ok-payload-in-Constructor : goal.returns-in_ok-payload-in-Constructor
returns-in_ok-payload-in-Constructor c =
    on_ok_weaker c.push_payload.result
    (λ (e : c.push_payload.new.types ≡ c.args.types.now ++ here.payload_parts c.args.judge.now c.in_ok-payload-in-Constructor.payload c.args.count).
    e ∙ ap (λ t. c.args.types.now ++ here.payload_parts c.args.judge.now t c.args.count) c.in_ok-payload-in-Constructor.ensures
    ∙ ap (λ (h : Head). c.args.types.now ++ here.head_types c.args.judge.now c.args.whole.now h c.args.count)
    (sym c.in-Constructor.is)) c.push_payload.ensures

pub returns-in-Vector : goal.returns-in-Vector
returns-in-Vector c =
    on_ok_weaker c.push_items.result
    (λ (e : c.push_items.new.types ≡ c.args.types.now ++ here.items_typ c.args.judge.now c.args.whole.now c.args.count). e
    ∙ ap (λ (h : Head). c.args.types.now ++ here.head_types c.args.judge.now c.args.whole.now h c.args.count) (sym c.in-Vector.is)) c.push_items.ensures

pub returns-in-List : goal.returns-in-List
returns-in-List c =
    on_ok_weaker c.push_items-in-List.result
    (λ (e : c.push_items-in-List.new.types ≡ c.args.types.now ++ here.items_typ c.args.judge.now c.args.whole.now c.args.count). e
    ∙ ap (λ (h : Head). c.args.types.now ++ here.head_types c.args.judge.now c.args.whole.now h c.args.count)
    (sym c.in-List.is)) c.push_items-in-List.ensures

pub returns-in-Cons : goal.returns-in-Cons
returns-in-Cons c =
    on_ok_weaker c.push_first.result
    (λ (e : c.push_first.new.types ≡ c.args.types.now ++ judged.first_and_rest c.args.judge.now c.args.whole.now). e
    ∙ ap (λ (h : Head). c.args.types.now ++ here.head_types c.args.judge.now c.args.whole.now h c.args.count) (sym c.in-Cons.is)) c.push_first.ensures

pub returns-in_ok-rest-in-Cut : goal.returns-in_ok-rest-in-Cut
returns-in_ok-rest-in-Cut c =
    on_ok_weaker c.push_cut.result
    (λ (e : c.push_cut.new.types ≡ c.args.types.now ++ here.cut_types c.args.judge.now
    (judged.widths_by c.args.judge.now c.in_ok-rest-in-Cut.rest c.as_slice-listed.result.now)). e
    ∙ (λ i. c.args.types.now ++ here.cut_types c.args.judge.now (judged.widths_by c.args.judge.now
    (c.in_ok-rest-in-Cut.ensures i) c.as_slice-listed.result.now))
    ∙ ap (λ ws. c.args.types.now ++ here.cut_types c.args.judge.now (judged.widths_by c.args.judge.now
    (judged.rest_width c.args.judge.now c.args.whole.now ws) ws)) c.as_slice-listed.ensures
    ∙ ap (λ (h : Head). c.args.types.now ++ here.head_types c.args.judge.now c.args.whole.now h c.args.count) (sym c.in-Cut.is)) c.push_cut.ensures
