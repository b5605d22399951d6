-- A file whose name differs is passed over, and the first of the same name is found.
use Rattle.std.proofs.Common.{◌<◌, length, string_bytes, arith, ◌∙◌, ap, sym}
use Rattle.std.specs.Str.{bytes_eq}
use Rattle.sail_outside.proofs.Stored.{stored_here, stored_next}
use Rattle.sail_outside.proofs.held.index_of.Goals as goal

pub returns-then-eq-clause-found : goal.returns-then-eq-clause-found
returns-then-eq-clause-found c =
    let d = c.index-files-index.result in
    let lt : c.loop-index.index < length c.args.files.now = omega arith in
    let name = c.as_str.ensures.value ∙ ap (λ f. string_bytes f.0) c.index-files-index.is in
    let same = sym (c.eq.ensures ∙ ap (λ s. bytes_eq s c.args.name.now) name) ∙ c.if-eq.true in
    stored_here c.args.files.now d c.args.name.now c.loop-index.index lt c.loop-index.invariant same

pub loop-index-preserved : goal.loop-index-preserved
loop-index-preserved c =
    let d = c.index-files-index.result in
    let lt : c.loop-index.index < length c.args.files.now = omega arith in
    let name = c.as_str.ensures.value ∙ ap (λ f. string_bytes f.0) c.index-files-index.is in
    let other = sym (c.eq.ensures ∙ ap (λ s. bytes_eq s c.args.name.now) name) ∙ c.if-eq.false in
    stored_next c.args.files.now d c.args.name.now c.loop-index.index lt c.loop-index.invariant other
