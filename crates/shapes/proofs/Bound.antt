-- One more definition is read of those whose top-level lets are read in text order.
use Rattle.std.proofs.Common.{◌≡◌, ℕ, ◌+◌, List, [], ◌∷◌, ◌++◌, length, refl, sym, ap, ◌∙◌, append_assoc, length-append}
use Rattle.std.specs.Prelude.{Option}
use Rattle.std.specs.HashMap.{get_by_text}
use Rattle.sail_syntax.specs.declared.definitions.Def.{Def}
use Rattle.sail_core.specs.declared.model.Opening.{Opening}
use Rattle.shape_rules.specs.declared.error.ShapeError.{ShapeError}
use Rattle.shape_rules.specs.declared.locals.Local.{Local}
use Rattle.shape_rules.specs.declared.meanings.Meanings.{Meanings}
use Rattle.shape_rules.specs.Findings.{first_failure}
use Rattle.shape_rules.proofs.Firsts.{first_failure_append}
use Rattle.shape_models.specs.Models.{Tabled, Own}
use Rattle.shape_models.specs.Sources.{AreMeanings}
use Rattle.shape_models.specs.Held.{AreOwn, lets_over}
use Rattle.shape_models.proofs.Lets.{values_more}
use Rattle.shapes.specs.Failures.{let_binds, let_faults, lets_faults, lets_behind}
use Rattle.shapes.specs.Resolved.{let_openings, lets_openings}
use Rattle.shapes.specs.Parts.{AreRead}

-- what names mean once more names are bound
meanings_more : (tabled : Tabled) (own : Own) (text : List Def) (lets ls : List Local) (count : ℕ) (before after : Meanings) → AreOwn own
    → count ≡ length lets → AreMeanings tabled own text lets before
    → ((name : List ℕ) → get_by_text after.values name ≡ lets_over count ls (get_by_text before.values name) name)
    → after.added ≡ before.added → after.exception ≡ before.exception → after.given ≡ before.given
    → AreMeanings tabled own text (lets ++ ls) after
meanings_more tabled own text lets ls count before after are_own same are put added exception given = record {
  values = λ name. put name ∙ (λ i. lets_over (same i) ls (are.values name i) name) ∙ values_more tabled.types own text lets ls name are_own;
  added = added ∙ are.added;
  exception = exception ∙ are.exception;
  given = given ∙ are.given;
}

length_append : (xs ys : List Local) → length xs + length ys ≡ length (xs ++ ys)
length_append xs ys = sym (length-append xs ys)

pub begun : (tabled : Tabled) (own : Own) (text : List Def) (kept : Option ShapeError) (held : Meanings)
    → AreMeanings tabled own text [] held → AreRead tabled own text text 0 [] kept kept held
begun tabled own text kept held are =
    record { lets = []; count = refl; meanings = are; behind = refl; openings = refl; failures = refl }

-- one more definition
pub one_more : (tabled : Tabled) (own : Own) (text left rest : List Def) (d : Def) (count next : ℕ) (before openings : List Opening)
    (kept found noted : Option ShapeError) (held after : Meanings) (binds : List Local)
    → AreOwn own → left ≡ d ∷ rest → AreRead tabled own text left count before kept found held
    → ((lets : List Local) → AreMeanings tabled own text lets held → openings ≡ before ++ let_openings tabled own text lets d)
    → ((lets : List Local) → AreMeanings tabled own text lets held → binds ≡ let_binds tabled own text lets d)
    → ((lets : List Local) → AreMeanings tabled own text lets held → noted ≡ first_failure found (let_faults tabled own text lets d))
    → next ≡ count + length binds
    → ((name : List ℕ) → get_by_text after.values name ≡ lets_over count binds (get_by_text held.values name) name)
    → after.added ≡ held.added → after.exception ≡ held.exception → after.given ≡ held.given
    → AreRead tabled own text rest next openings kept noted after
one_more tabled own text left rest d count next before openings kept found noted held after binds are_own split read opened bound fails
    counted put added exception given =
    let ls = let_binds tabled own text read.lets d in
    let are : AreMeanings tabled own text read.lets held = read.meanings in
    let same : binds ≡ ls = bound read.lets are in
    record {
      lets = read.lets ++ ls;
      count = counted ∙ (λ i. read.count i + length (same i)) ∙ length_append read.lets ls;
      meanings = meanings_more tabled own text read.lets ls count held after are_own read.count are
          (λ name. put name ∙ ap (λ (bs : List Local). lets_over count bs (get_by_text held.values name) name) same) added exception given;
      behind = sym (ap (lets_behind tabled own text read.lets) split) ∙ read.behind;
      openings = ap (λ (os : List Opening). os ++ lets_openings tabled own text (read.lets ++ ls) rest) (opened read.lets are)
          ∙ append_assoc before (let_openings tabled own text read.lets d) (lets_openings tabled own text (read.lets ++ ls) rest)
          ∙ sym (ap (λ (ds : List Def). before ++ lets_openings tabled own text read.lets ds) split) ∙ read.openings;
      failures = ap (λ (e : Option ShapeError). first_failure e (lets_faults tabled own text (read.lets ++ ls) rest)) (fails read.lets are)
          ∙ sym (first_failure_append found (let_faults tabled own text read.lets d) (lets_faults tabled own text (read.lets ++ ls) rest))
          ∙ sym (ap (λ (ds : List Def). first_failure found (lets_faults tabled own text read.lets ds)) split) ∙ read.failures;
    }
