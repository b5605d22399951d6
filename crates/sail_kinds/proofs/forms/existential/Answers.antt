use Rattle.std.proofs.Common.{◌≡◌, ◌+◌, ◌-◌, ◌<◌, length, get_or, take, true, ap, ◌∙◌, arith}
use Rattle.sail_types.specs.declared.numbers.Con.TheVariants as C
use Rattle.sail_types.specs.declared.types.Typ.TheVariants as T
use Rattle.sail_kinds.specs.Normal.{existential}
use Rattle.sail_kinds.proofs.Nested.{existential_more}
use Rattle.sail_kinds.proofs.forms.existential.Goals as goal

pub loop-left-preserved : goal.loop-left-preserved
loop-left-preserved c =
    let names = c.args.names.now in
    let i = c.loop-left.left - 1 in
    let d = c.index-names-left.result in
    let con = c.loop-left.constraint in
    let typ = c.loop-left.typ in
    let low = c.loop-left.invariant.within in
    let more : i + 1 ≡ c.loop-left.left = omega (arith, c.loop-left-test.true) in
    let less : i < length names = omega (arith, c.loop-left-test.true, low) in
    let text : c.in_ok-clone.field-0 ≡ (get_or names i d).text = c.in_ok-clone.ensures in
    let part : c.in_ok-part.part ≡ typ = c.in_ok-part.ensures in record {
      within = omega (arith, low);
      made = (λ j. existential (take i names) (C.Truth true) (T.Exists (text j) con (part j)))
          ∙ existential_more names i d con typ less ∙ ap (λ n. existential (take n names) con typ) more ∙ c.loop-left.invariant.made;
    }
