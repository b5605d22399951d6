-- Openings come behind one another.
use Rattle.std.proofs.Common.{◌≡◌, ◌∙◌, ℕ, suc, ◌+◌, List, [], ◌∷◌, ◌++◌, length, map, Option, Some, None, refl, sym, ap, subst}
use Rattle.std.proofs.Common.{append-nil, append_assoc, arith, length-append}
use Rattle.std.specs.Prelude.{slice_get}
use Rattle.sail_base.specs.declared.place.Place.{Place}
use Rattle.sail_core.specs.declared.patterns.Arm.{Arm}
use Rattle.sail_core.specs.declared.patterns.Step.{Step}
use Rattle.sail_core.specs.declared.model.Opening.{Opening}
use Rattle.sail_core.specs.declared.model.OpeningKind.TheVariants as K
use Rattle.size_values.specs.declared.sized.Sized.{Sized}
use Rattle.sized_nodes.specs.declared.trees.NodeSizes.{NodeSizes}
use Rattle.jib.specs.declared.code.Function.{Function as Made}
use Rattle.jib.specs.declared.code.Opening.{Opening as MadeOpening}
use Rattle.lowered_pieces.specs.Arms.{steps_in}
use Rattle.jib_lower.specs.declared.instances.Model.{Model}
use Rattle.jib_lower.specs.declared.openings.Opened.{Opened}
use Rattle.jib_lower.specs.Lowered.{NameMade, NamesMade, OpenedFrom, OpeningsMade, named_more, named_none, names_in, opened_from, opens_let, opens_none}
use Rattle.jib_lower.specs.Lowered.{opens_register}
use Rattle.jib_lower.specs.Openings.{Grown, KindAdded, LetAdded, LetMade, NameAdded, NamesAdded, OpeningAdded, OpeningsAdded, Pushed, RegisterAdded, by_let}
use Rattle.jib_lower.specs.Openings.{by_register}

opened_more : (n : ℕ) (rs qs : List (Option ℕ)) → opened_from n (rs ++ qs) ≡ opened_from n rs ++ opened_from (n + length rs) qs
opened_more n [] qs = ap (λ k. opened_from k qs) (by n)
  where
    by : (n : ℕ) → n ≡ n + 0
    by n = omega arith
opened_more n (r ∷ rs) qs =
    ap (λ (os : List MadeOpening). record { function = n; register = r } ∷ os)
    (opened_more (n + 1) rs qs ∙ ap (λ k. opened_from (n + 1) rs ++ opened_from k qs) (by n (length rs)))
  where
    by : (n k : ℕ) → n + 1 + k ≡ n + suc k
    by n k = omega arith

pub grown_none : (a : Opened) → Grown [] [] a a
grown_none a = record { functions_are = sym (append-nil a.functions); many = refl; opens = sym (append-nil a.openings); before = refl }

pub grown_then : (fs gs : List Made) (rs qs : List (Option ℕ)) (a b c : Opened) → Grown fs rs a b → Grown gs qs b c → Grown (fs ++ gs) (rs ++ qs) a c
grown_then fs gs rs qs a b c g h = record {
  functions_are = h.functions_are ∙ ap (λ xs. xs ++ gs) g.functions_are ∙ append_assoc a.functions fs gs;
  many = length-append rs qs ∙ (λ i. g.many i + h.many i) ∙ sym (length-append fs gs);
  opens = h.opens ∙ (λ i. g.opens i ++ opened_from (number i) qs) ∙ append_assoc a.openings (opened_from first rs) (opened_from (first + length rs) qs)
      ∙ ap (λ os. a.openings ++ os) (sym (opened_more first rs qs));
  before = h.before ∙ g.before;
}
  where
    first : ℕ
    first = a.before + length a.functions

    many_then : length b.functions ≡ length a.functions + length rs
    many_then = ap length g.functions_are ∙ length-append a.functions fs ∙ ap (λ n. length a.functions + n) (sym g.many)

    number : b.before + length b.functions ≡ first + length rs
    number = (λ i. g.before i + many_then i) ∙ by a.before (length a.functions) (length rs)
      where
        by : (x y z : ℕ) → x + (y + z) ≡ x + y + z
        by x y z = omega arith

pub pushed_grown : (r : Option ℕ) (made : Made) (a b : Opened) → Pushed r made a b → Grown (made ∷ []) (r ∷ []) a b
pushed_grown r made a b p = record { functions_are = p.functions; many = refl; opens = p.openings; before = p.before }

-- ---- names of a let

pub name_added : (model : Model) (place : Place) (k : ℕ) (whole : Sized) (steps : List Step) (text : List ℕ) (made : Made) (a b c : Opened)
    → NameMade model place k whole steps text a.types a.names made → Pushed None made a b → c.functions ≡ b.functions → c.types ≡ b.types
    → c.openings ≡ b.openings → c.before ≡ b.before → c.names ≡ b.names ++ length a.types ∷ [] → NameAdded model place k whole steps text a c
name_added model place k whole steps text made a b c is p fs ts os bs ns = record {
  made = made;
  is = is;
  grown = record { functions_are = fs ∙ p.functions; many = refl; opens = os ∙ p.openings; before = bs ∙ p.before };
  types = ts ∙ p.types;
  names = ns ∙ ap (λ xs. xs ++ length a.types ∷ []) p.names;
}

pub names_none : (model : Model) (place : Place) (k : ℕ) (whole : Sized) (steps : List Step) (a : Opened) → NamesAdded model place k whole steps [] a a
names_none model place k whole steps a = record { functions = []; made = named_none; grown = grown_none a }

pub names_more : (model : Model) (place : Place) (k : ℕ) (whole : Sized) (steps : List Step) (text : List ℕ) (texts : List (List ℕ)) (a b c : Opened)
    → NameAdded model place k whole steps text a b → NamesAdded model place k whole steps texts b c
    → NamesAdded model place k whole steps (text ∷ texts) a c
names_more model place k whole steps text texts a b c one more = record {
  functions = one.made ∷ more.functions;
  made = named_more one.is (subst (λ ts. NamesMade model place k whole steps texts ts (a.names ++ length a.types ∷ []) more.functions c.types c.names) one.types
      (subst (λ ns. NamesMade model place k whole steps texts b.types ns more.functions c.types c.names) one.names more.made));
  grown = grown_then (one.made ∷ []) more.functions (None ∷ []) (map (λ x. None) more.functions) a b c one.grown more.grown;
}

-- ---- openings

pub let_added : (model : Model) (o : Opening) (bodies : List (List NodeSizes)) (arm : Arm) (whole : Sized) (made : Made) (k : ℕ) (a b c : Opened)
    → k ≡ length a.types → LetMade model o bodies a.types a.names arm whole made → Pushed None made a b
    → NamesAdded model o.place k whole (steps_in arm) (names_in (steps_in arm)) b c → LetAdded model o bodies arm a c
let_added model o bodies arm whole made k a b c e is p more = record {
  whole = whole;
  made = made;
  functions = more.functions;
  is = is;
  named = subst (λ n. NamesMade model o.place n whole (steps_in arm) (names_in (steps_in arm)) (a.types ++ made.result ∷ []) a.names more.functions c.types
      c.names) e
      (subst (λ ts. NamesMade model o.place k whole (steps_in arm) (names_in (steps_in arm)) ts a.names more.functions c.types c.names) p.types
      (subst (λ ns. NamesMade model o.place k whole (steps_in arm) (names_in (steps_in arm)) b.types ns more.functions c.types c.names) p.names more.made));
  grown = grown_then (made ∷ []) more.functions (None ∷ []) (map (λ x. None) more.functions) a b c (pushed_grown None made a b p) more.grown;
}

pub register_opens : (model : Model) (i : ℕ) (o : Opening) (nodes : List NodeSizes) (r : ℕ) (a b : Opened) → o.kind ≡ K.Register r
    → slice_get model.sized.now.openings i ≡ Some nodes → RegisterAdded model o (nodes ∷ []) r a b → OpeningAdded model i o a b
register_opens model i o nodes r a b kind there one = record {
  functions = one.made ∷ [];
  registers = Some r ∷ [];
  joins = λ os rest others after more h. opens_register kind there one.is one.typ
      (subst (λ ts. OpeningsMade model (i + 1) os ts a.names rest others after more) one.types
      (subst (λ ns. OpeningsMade model (i + 1) os b.types ns rest others after more) one.names h));
  grown = one.grown;
}

pub let_opens : (model : Model) (i : ℕ) (o : Opening) (nodes : List NodeSizes) (arm : Arm) (a b : Opened) → o.kind ≡ K.Let arm
    → slice_get model.sized.now.openings i ≡ Some nodes → LetAdded model o (nodes ∷ []) arm a b → OpeningAdded model i o a b
let_opens model i o nodes arm a b kind there one = record {
  functions = one.made ∷ one.functions;
  registers = None ∷ map (λ x. None) one.functions;
  joins = λ os rest others after more h. opens_let one.is.value there arm one.whole kind one.is.taken one.named h;
  grown = one.grown;
}

pub openings_none : (model : Model) (i : ℕ) (a : Opened) → OpeningsAdded model i [] a a
openings_none model i a = record { functions = []; registers = []; made = opens_none; grown = grown_none a }

pub openings_more : (model : Model) (i : ℕ) (o : Opening) (os : List Opening) (a b c : Opened) → OpeningAdded model i o a b
    → OpeningsAdded model (i + 1) os b c → OpeningsAdded model i (o ∷ os) a c
openings_more model i o os a b c one more = record {
  functions = one.functions ++ more.functions;
  registers = one.registers ++ more.registers;
  made = one.joins os more.functions more.registers c.types c.names more.made;
  grown = grown_then one.functions more.functions one.registers more.registers a b c one.grown more.grown;
}

pub kind_opens : (model : Model) (i : ℕ) (o : Opening) (nodes : List NodeSizes) (bodies : List (List NodeSizes)) (a b : Opened) → bodies ≡ nodes ∷ []
    → slice_get model.sized.now.openings i ≡ Some nodes → KindAdded model o bodies a b → OpeningAdded model i o a b
kind_opens model i o nodes bodies a b e there (by_register r kind one) =
    register_opens model i o nodes r a b kind there (subst (λ bs. RegisterAdded model o bs r a b) e one)
kind_opens model i o nodes bodies a b e there (by_let arm kind one) =
    let_opens model i o nodes arm a b kind there (subst (λ bs. LetAdded model o bs arm a b) e one)

-- all of them, where none was there before
pub openings_from : (model : Model) (before : ℕ) (os : List Opening) (a b : Opened)
    → a ≡ record { openings = []; types = []; names = []; functions = []; before = before } → os ≡ model.core.now.openings
    → OpeningsAdded model 0 os a b → OpenedFrom model before b
openings_from model before os a b e is all = by (subst (λ x. OpeningsAdded model 0 os x b) e all)
  where
    none : (n : ℕ) → n + 0 ≡ n
    none n = omega arith

    by : OpeningsAdded model 0 os (record { openings = []; types = []; names = []; functions = []; before = before }) b → OpenedFrom model before b
    by h = record {
      registers = h.registers;
      made = subst (λ ys. OpeningsMade model 0 ys [] [] b.functions h.registers b.types b.names) is
          (subst (λ fs. OpeningsMade model 0 os [] [] fs h.registers b.types b.names) (sym h.grown.functions_are) h.made);
      opens = h.grown.opens ∙ ap (λ n. opened_from n h.registers) (none before);
    }
