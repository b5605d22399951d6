use Rattle.std.proofs.Common.{◌≡◌, ◌∙◌, Bool, sym, ap}
use Rattle.lowered_pieces.specs.Arms.{word_width}
use Rattle.sail_core.specs.declared.patterns.Head.{Head}
use Rattle.size_values.specs.declared.sized.Sized.{out-Sized}
use Rattle.std.proofs.lemmas.Result.{IfOk-weaker}
use Rattle.lowered_typed.specs.Here as here
use Rattle.lowered_typed.specs.Judged as judged
use Rattle.lowered_typed.proofs.heads.is_head.Goals as goal

pub returns-in-Is : goal.returns-in-Is
returns-in-Is c =
    IfOk-weaker c.is_tested.result _ (λ (a : Bool). a ≡ here.head_right c.args.judge.now c.args.whole.now c.args.head.now c.args.count) (λ a e. e
    ∙ ap (λ (h : Head). here.head_right c.args.judge.now c.args.whole.now h c.args.count) (sym c.in-Is.is)) c.is_tested.ensures

pub returns-in-Tuple : goal.returns-in-Tuple
returns-in-Tuple c =
    IfOk-weaker c.are_parts.result _ (λ (a : Bool). a ≡ here.head_right c.args.judge.now c.args.whole.now c.args.head.now c.args.count) (λ a e. e
    ∙ ap (λ (h : Head). here.head_right c.args.judge.now c.args.whole.now h c.args.count) (sym c.in-Tuple.is)) c.are_parts.ensures

pub returns-in-Constructor : goal.returns-in-Constructor
returns-in-Constructor c =
    IfOk-weaker c.is_payload.result _ (λ (a : Bool). a ≡ here.head_right c.args.judge.now c.args.whole.now c.args.head.now c.args.count) (λ a e. e
    ∙ ap (λ (h : Head). here.head_right c.args.judge.now c.args.whole.now h c.args.count) (sym c.in-Constructor.is)) c.is_payload.ensures

pub returns-in-Vector : goal.returns-in-Vector
returns-in-Vector c =
    IfOk-weaker c.are_items.result _ (λ (a : Bool). a ≡ here.head_right c.args.judge.now c.args.whole.now c.args.head.now c.args.count) (λ a e. e
    ∙ ap (λ (h : Head). here.head_right c.args.judge.now c.args.whole.now h c.args.count) (sym c.in-Vector.is)) c.are_items.ensures

pub returns-in-List : goal.returns-in-List
returns-in-List c =
    IfOk-weaker c.is_opened.result _ (λ (a : Bool). a ≡ here.head_right c.args.judge.now c.args.whole.now c.args.head.now c.args.count) (λ a e. e
    ∙ ap (λ (h : Head). here.head_right c.args.judge.now c.args.whole.now h c.args.count) (sym c.in-List.is)) c.is_opened.ensures

pub returns-in-Cons : goal.returns-in-Cons
returns-in-Cons c =
    IfOk-weaker c.is_opened-in-Cons.result _ (λ (a : Bool). a ≡ here.head_right c.args.judge.now c.args.whole.now c.args.head.now c.args.count)
    (λ a e. e ∙ ap (λ (h : Head). here.head_right c.args.judge.now c.args.whole.now h c.args.count) (sym c.in-Cons.is)) c.is_opened-in-Cons.ensures

pub returns-in_ok-rest-in-Cut : goal.returns-in_ok-rest-in-Cut
returns-in_ok-rest-in-Cut c =
    IfOk-weaker c.are_cut.result _ (λ (a : Bool). a ≡ here.head_right c.args.judge.now c.args.whole.now c.args.head.now c.args.count) (λ a e. e
    ∙ (λ i. here.cut_right c.args.judge.now c.args.whole.now (c.word_width-left.ensures i) (judged.widths_by c.args.judge.now
    (c.in_ok-rest-in-Cut.ensures i) c.as_slice-listed.result.now))
    ∙ ap (λ ws. here.cut_right c.args.judge.now c.args.whole.now (word_width (out-Sized c.args.whole.now)) (judged.widths_by c.args.judge.now
    (judged.rest_width c.args.judge.now c.args.whole.now ws) ws)) c.as_slice-listed.ensures
    ∙ ap (λ (h : Head). here.head_right c.args.judge.now c.args.whole.now h c.args.count) (sym c.in-Cut.is)) c.are_cut.ensures
