use Rattle.std.proofs.Common.{◌≡◌, ◌+◌, ◌++◌, ◌∷◌, length, map, drop, replicate, slice_get, IfOk, OnOk, List, sym, ap, ◌∙◌, subst}
use Rattle.std.proofs.lemmas.List.{drop_more}
use Rattle.sail_syntax.specs.declared.patterns.Pat.{Pat}
use Rattle.sail_syntax.specs.declared.patterns.Joined.{Joined, out-Joined}
use Rattle.sail_types.specs.declared.shapes.Shape.TheVariants as V
use Rattle.shape_rules.specs.Around.{setting_of}
use Rattle.shape_rules.specs.Findings.{first_failure}
use Rattle.shape_rules.specs.Patterns.{Piece, Looked, LookedAll, piece, look, or_never, each_looked, also_looked}
use Rattle.shape_widths.specs.Known.{widths_of}
use Rattle.shape_widths.specs.Parts.{further}
use Rattle.shape_patterns.proofs.Looks.{look_construct, look_group, look_concat}
use Rattle.shape_widths.proofs.Parts.{further_is}
use Rattle.shape_patterns.proofs.Parts.{each_more, pushed_more, bound_more, noted_more}
use Rattle.shape_patterns.proofs.+look.Goals as goal

pub looking::look-returns-in-Construct-clause-pattern : goal.looking::look-returns-in-Construct-clause-pattern
looking::look-returns-in-Construct-clause-pattern t c =
    subst (λ (l : Looked). IfOk c.look_construct.result (λ made. made ≡ l.pattern))
    (sym (look_construct c.args.pattern.now c.in-Construct.name c.in-Construct.parts c.as_slice.result.now (setting_of c.args.around.now) (widths_of
    c.args.widths.now) c.args.subject.now c.in-Construct.is c.as_slice.ensures))
    c.look_construct.ensures.pattern

pub looking::look-returns-in-Construct-clause-binds : goal.looking::look-returns-in-Construct-clause-binds
looking::look-returns-in-Construct-clause-binds t c =
    subst (λ (l : Looked). OnOk c.look_construct.result (c.look_construct.new.binds ≡ c.args.binds.now ++ l.binds))
    (sym (look_construct c.args.pattern.now c.in-Construct.name c.in-Construct.parts c.as_slice.result.now (setting_of c.args.around.now) (widths_of
    c.args.widths.now) c.args.subject.now c.in-Construct.is c.as_slice.ensures))
    c.look_construct.ensures.binds

pub looking::look-returns-in-Construct-clause-failures : goal.looking::look-returns-in-Construct-clause-failures
looking::look-returns-in-Construct-clause-failures t c =
    subst (λ (l : Looked). OnOk c.look_construct.result (c.look_construct.new.first.error ≡ first_failure c.args.first.now.error l.faults))
    (sym (look_construct c.args.pattern.now c.in-Construct.name c.in-Construct.parts c.as_slice.result.now (setting_of c.args.around.now) (widths_of
    c.args.widths.now) c.args.subject.now c.in-Construct.is c.as_slice.ensures))
    c.look_construct.ensures.failures

pub looking::look-returns-in-Group-clause-pattern : goal.looking::look-returns-in-Group-clause-pattern
looking::look-returns-in-Group-clause-pattern t c =
    subst (λ (l : Looked). IfOk c.look_group.result (λ made. made ≡ l.pattern))
    (sym (look_group c.args.pattern.now c.in-Group.place c.in-Group.brackets c.in-Group.parts c.as_slice-in-Group.result.now (setting_of
    c.args.around.now) (widths_of c.args.widths.now) c.args.subject.now c.in-Group.is c.as_slice-in-Group.ensures))
    c.look_group.ensures.pattern

pub looking::look-returns-in-Group-clause-binds : goal.looking::look-returns-in-Group-clause-binds
looking::look-returns-in-Group-clause-binds t c =
    subst (λ (l : Looked). OnOk c.look_group.result (c.look_group.new.binds ≡ c.args.binds.now ++ l.binds))
    (sym (look_group c.args.pattern.now c.in-Group.place c.in-Group.brackets c.in-Group.parts c.as_slice-in-Group.result.now (setting_of
    c.args.around.now) (widths_of c.args.widths.now) c.args.subject.now c.in-Group.is c.as_slice-in-Group.ensures))
    c.look_group.ensures.binds

pub looking::look-returns-in-Group-clause-failures : goal.looking::look-returns-in-Group-clause-failures
looking::look-returns-in-Group-clause-failures t c =
    subst (λ (l : Looked). OnOk c.look_group.result (c.look_group.new.first.error ≡ first_failure c.args.first.now.error l.faults))
    (sym (look_group c.args.pattern.now c.in-Group.place c.in-Group.brackets c.in-Group.parts c.as_slice-in-Group.result.now (setting_of
    c.args.around.now) (widths_of c.args.widths.now) c.args.subject.now c.in-Group.is c.as_slice-in-Group.ensures))
    c.look_group.ensures.failures

pub looking::look-returns-in-Concat-clause-pattern : goal.looking::look-returns-in-Concat-clause-pattern
looking::look-returns-in-Concat-clause-pattern t c =
    subst (λ (l : Looked). IfOk c.look_concat.result (λ made. made ≡ l.pattern))
    (sym (look_concat c.args.pattern.now c.in-Concat.place c.in-Concat.head c.in-Concat.second c.get.result.now c.get-in-Concat.result.now c.in-Concat.more
    c.as_slice-in-Concat.result.now (setting_of c.args.around.now) (widths_of c.args.widths.now) c.args.subject.now c.in-Concat.is c.get.ensures
    c.get-in-Concat.ensures c.as_slice-in-Concat.ensures))
    c.look_concat.ensures.pattern

pub looking::look-returns-in-Concat-clause-binds : goal.looking::look-returns-in-Concat-clause-binds
looking::look-returns-in-Concat-clause-binds t c =
    subst (λ (l : Looked). OnOk c.look_concat.result (c.look_concat.new.binds ≡ c.args.binds.now ++ l.binds))
    (sym (look_concat c.args.pattern.now c.in-Concat.place c.in-Concat.head c.in-Concat.second c.get.result.now c.get-in-Concat.result.now c.in-Concat.more
    c.as_slice-in-Concat.result.now (setting_of c.args.around.now) (widths_of c.args.widths.now) c.args.subject.now c.in-Concat.is c.get.ensures
    c.get-in-Concat.ensures c.as_slice-in-Concat.ensures))
    c.look_concat.ensures.binds

pub looking::look-returns-in-Concat-clause-failures : goal.looking::look-returns-in-Concat-clause-failures
looking::look-returns-in-Concat-clause-failures t c =
    subst (λ (l : Looked). OnOk c.look_concat.result (c.look_concat.new.first.error ≡ first_failure c.args.first.now.error l.faults))
    (sym (look_concat c.args.pattern.now c.in-Concat.place c.in-Concat.head c.in-Concat.second c.get.result.now c.get-in-Concat.result.now c.in-Concat.more
    c.as_slice-in-Concat.result.now (setting_of c.args.around.now) (widths_of c.args.widths.now) c.args.subject.now c.in-Concat.is c.get.ensures
    c.get-in-Concat.ensures c.as_slice-in-Concat.ensures))
    c.look_concat.ensures.failures

pub groups::look_each-loop-index-preserved : goal.groups::look_each-loop-index-preserved
groups::look_each-loop-index-preserved t c =
    let setting = setting_of c.args.around.now in
    let widths = widths_of c.args.widths.now in
    let parts = c.args.parts.now in
    let i = c.loop-index.index in
    let part = c.index-parts-index.result in
    let rest : drop i parts ≡ part ∷ drop (i + 1) parts =
    drop_more parts i part c.loop-index-test.true ∙ ap (λ x. x ∷ drop (i + 1) parts) (sym c.index-parts-index.is) in
    let shapes = c.args.subjects.now in
    let found = look part setting widths (or_never (slice_get shapes i)) in
    let more = each_looked (map piece (drop (i + 1) parts)) setting widths (drop (i + 1) shapes) in
    let all : each_looked (map piece (drop i parts)) setting widths (drop i shapes)
    ≡ also_looked found more = ap (λ (ps : List Pat). each_looked (map piece ps) setting widths (drop i shapes)) rest
    ∙ each_more (piece part) (map piece (drop (i + 1) parts)) setting widths i shapes in record {
      patterns = pushed_more c.loop-index.patterns c.push.new.self (each_looked (map piece (drop i parts)) setting widths
          (drop i shapes)).patterns more.patterns c.in_ok-look_at.field-0 found.pattern
          c.in_ok-push.ensures.pushed c.in_ok-look_at.ensures.pattern (ap (λ (l : LookedAll). l.patterns) all) ∙ c.loop-index.invariant.patterns;
      binds = bound_more c.loop-index.binds c.look_at.new.binds (each_looked (map piece (drop i parts)) setting widths
          (drop i shapes)).binds found.binds more.binds
          c.in_ok-look_at.ensures.binds (ap (λ (l : LookedAll). l.binds) all) ∙ c.loop-index.invariant.binds;
      failures = noted_more c.loop-index.first.error c.look_at.new.first.error (each_looked (map piece (drop i parts)) setting widths
          (drop i shapes)).faults found.faults more.faults
          c.in_ok-look_at.ensures.failures (ap (λ (l : LookedAll). l.faults) all) ∙ c.loop-index.invariant.failures;
    }

pub groups::look_same-loop-part-preserved : goal.groups::look_same-loop-part-preserved
groups::look_same-loop-part-preserved t c =
    let setting = setting_of c.args.around.now in
    let widths = widths_of c.args.widths.now in
    let parts = c.args.parts.now in
    let i = c.loop-part.part-index in
    let part = c.part-item.result in
    let rest : drop i parts ≡ part ∷ drop (i + 1) parts =
    drop_more parts i part c.loop-part-test.true ∙ ap (λ x. x ∷ drop (i + 1) parts) (sym c.part-item.is) in
    let shape = c.args.subject.now in
    let found = look part setting widths shape in
    let more = each_looked (map piece (drop (i + 1) parts)) setting widths (replicate (length (map piece (drop (i + 1) parts))) shape) in
    let all : each_looked (map piece (drop i parts)) setting widths (replicate (length (map piece (drop i parts))) shape)
    ≡ also_looked found more = ap (λ (ps : List Pat). each_looked (map piece ps) setting widths (replicate (length (map piece ps)) shape)) rest in record {
      patterns = pushed_more c.loop-part.patterns c.push.new.self (each_looked (map piece (drop i parts)) setting widths (replicate (length (map piece
          (drop i parts))) shape)).patterns more.patterns c.in_ok-look.field-0 found.pattern
          c.in_ok-push.ensures.pushed c.in_ok-look.ensures.pattern (ap (λ (l : LookedAll). l.patterns) all) ∙ c.loop-part.invariant.patterns;
      binds = bound_more c.loop-part.binds c.look.new.binds (each_looked (map piece (drop i parts)) setting widths (replicate (length (map piece
          (drop i parts))) shape)).binds found.binds more.binds
          c.in_ok-look.ensures.binds (ap (λ (l : LookedAll). l.binds) all) ∙ c.loop-part.invariant.binds;
      failures = noted_more c.loop-part.first.error c.look.new.first.error (each_looked (map piece (drop i parts)) setting widths (replicate (length
          (map piece (drop i parts))) shape)).faults found.faults more.faults
          c.in_ok-look.ensures.failures (ap (λ (l : LookedAll). l.faults) all) ∙ c.loop-part.invariant.failures;
    }

pub groups::look_further-loop-next-preserved : goal.groups::look_further-loop-next-preserved
groups::look_further-loop-next-preserved t c =
    let setting = setting_of c.args.around.now in
    let widths = widths_of c.args.widths.now in
    let parts = c.args.more.now in
    let i = c.loop-next.next-index in
    let part = c.next-item.result in
    let rest : drop i parts ≡ part ∷ drop (i + 1) parts =
    drop_more parts i part c.loop-next-test.true ∙ ap (λ x. x ∷ drop (i + 1) parts) (sym c.next-item.is) in
    let found = look (out-Joined part).part setting widths V.Bits in
    let more = each_looked (map further (drop (i + 1) parts)) setting widths (replicate (length (map further (drop (i + 1) parts))) V.Bits) in
    let all : each_looked (map further (drop i parts)) setting widths (replicate (length (map further (drop i parts))) V.Bits) ≡ also_looked found more =
    ap (λ (ps : List Joined). each_looked (map further ps) setting widths (replicate (length (map further ps)) V.Bits)) rest
    ∙ ap (λ (p : Piece). also_looked (p.look setting widths V.Bits) more) (further_is part) in record {
      patterns = pushed_more c.loop-next.patterns c.push.new.self (each_looked (map further (drop i parts)) setting widths (replicate (length (map further
          (drop i parts))) V.Bits)).patterns more.patterns c.in_ok-look.field-0 found.pattern
          c.in_ok-push.ensures.pushed c.in_ok-look.ensures.pattern (ap (λ (l : LookedAll). l.patterns) all) ∙ c.loop-next.invariant.patterns;
      binds = bound_more c.loop-next.binds c.look.new.binds (each_looked (map further (drop i parts)) setting widths (replicate (length (map further
          (drop i parts))) V.Bits)).binds found.binds more.binds
          c.in_ok-look.ensures.binds (ap (λ (l : LookedAll). l.binds) all) ∙ c.loop-next.invariant.binds;
      failures = noted_more c.loop-next.first.error c.look.new.first.error (each_looked (map further (drop i parts)) setting widths (replicate (length
          (map further (drop i parts))) V.Bits)).faults found.faults more.faults
          c.in_ok-look.ensures.failures (ap (λ (l : LookedAll). l.faults) all) ∙ c.loop-next.invariant.failures;
    }
