-- What is assigned to, once its indexes are evaluated: it takes values of its shape, and is read and renewed where it is the base of a part.
use Rattle.std.proofs.Common.{◌≡◌, ℕ, List, [], ◌∷◌, ◌++◌, map, ap, sym, ◌∙◌, refl, subst, Bool, true, false, ◌&&◌, Option, Some, None}
use Rattle.std.proofs.Common.{slice_get}
use Rattle.std.proofs.lemmas.Bool.{and_parts}
use Rattle.sail_base.specs.declared.place.Place.{Place}
use Rattle.sail_types.specs.Shapes.{fits, each_fits, put}
use Rattle.sail_types.specs.declared.shapes.Shape.{Shape, out-Shape}
use Rattle.sail_types.specs.declared.shapes.Shape.TheOpen as S
use Rattle.sail_types.specs.declared.shapes.Shape.TheVariants as V
use Rattle.sail_types.specs.declared.shapes.Shape.TheViews.{out-roll-Shape}
use Rattle.sail_types.specs.declared.values.Value.{Value, out-Value}
use Rattle.sail_types.specs.declared.values.Value.TheVariants as Val
use Rattle.sail_core.specs.declared.targets.Caller.{Caller}
use Rattle.sail_core.specs.Run.{needs, ◌then◌}
use Rattle.sail_core.specs.Making.{World, plainly, made}
use Rattle.sail_core.specs.Patterns.{components}
use Rattle.sail_core.specs.Targets.{Spot, asked, register_spot, set_variable, tuple_spot, variable_spot, write_register, writes}
use Rattle.sail_core.specs.Values.{form_parts, parts_in, replaced, through}
use Rattle.shape_joins.proofs.Order.{no, two}
use Rattle.shape_rules.specs.declared.locals.Local.{Local}
use Rattle.shape_rules.specs.Scopes.{local_of}
use Rattle.shape_meanings.specs.Keeping.{FitAll, Reach}
use Rattle.shape_meanings.proofs.Aims.{same_components}
use Rattle.shape_meanings.proofs.Matching.{form_given}
use Rattle.shape_meanings.proofs.Opening.{form_tuple}
use Rattle.shape_progress.specs.Checks.{Table, Tested, all_there, call_met, checked_call, checked_part, if_met, last_takes, read_met, where_met}
use Rattle.shape_progress.specs.Going.{GoesOn, Has}
use Rattle.shape_progress.specs.TargetRules.{GivesAs, GivesUnit, Reads, Takes}
use Rattle.shape_progress.proofs.Callees.{callee_goes}
use Rattle.shape_progress.proofs.Forms.{put_out, unit_fits}
use Rattle.shape_progress.proofs.Names.{register_goes, set_goes, variable_goes, write_goes}
use Rattle.shape_progress.proofs.Parts.{F, part_met}
use Rattle.shape_progress.proofs.Runs.{gives_goes, goes_as, met_goes, needs_goes, then_goes}
use Rattle.shape_progress.proofs.TestedWays.{WaysGo, intos, replaced_goes, through_goes}

-- a spot for values of the shape s; what is assigned gives values of `answer`
pub record SpotGoes (reach : Reach) (w : World Value) (is_base : Bool) (s : Shape) (answer : Option Shape) (spot : Spot Value) : Type 0 where
  pub write : (v : Value) → F reach w s v → GoesOn reach w (GivesAs reach answer) (spot.write v)
  pub read : is_base ≡ true → Has reach w s spot.read
  pub renew : is_base ≡ true → (v : Value) → F reach w s v → GoesOn reach w (GivesAs reach answer) (spot.renew v)

-- ---- variables and registers

-- `()`, where what is given is that
unit_given : (reach : Reach) (w : World Value) (answer : Option Shape) → GivesUnit answer → (v : Value) → F reach w V.Unit v → GivesAs reach answer v
unit_given reach w None unit v fit = tt
unit_given reach w (Some s) unit v fit = subst (λ t. F reach w t v) (sym unit) fit

set_made : (reach : Reach) (w : World Value) (s : Shape) (answer : Option Shape) (k : ℕ) (name : List ℕ) (l : Local) (xs : List Value) (v : Value)
    → local_of name reach.slots ≡ Some l → l.shape ≡ s → GivesUnit answer → F reach w s v
    → GoesOn reach w (GivesAs reach answer) (made plainly k xs v then set_variable plainly name)
set_made reach w s answer k name l xs v is same unit fit =
    goes_as reach w (F reach w V.Unit) (GivesAs reach answer) (made plainly k xs v then set_variable plainly name) (unit_given reach w answer unit)
    (then_goes reach w (F reach w s) (F reach w V.Unit) (made plainly k xs v) (set_variable plainly name) (gives_goes reach w (F reach w s) v fit)
    (λ u fu. set_goes reach w s name l u is same fu))

pub variable_spot_goes : (reach : Reach) (w : World Value) (is_base : Bool) (s : Shape) (answer : Option Shape) (k : ℕ) (name : List ℕ) (l : Local)
    → local_of name reach.slots ≡ Some l → l.shape ≡ s → GivesUnit answer → SpotGoes reach w is_base s answer (variable_spot plainly k name)
variable_spot_goes reach w is_base s answer k name l is same unit = record {
  write = λ v fit. set_made reach w s answer k name l (v ∷ []) v is same unit fit;
  read = λ base. variable_goes reach w s k name l is same;
  renew = λ base v fit. set_made reach w s answer k name l [] v is same unit fit;
}

write_made : (reach : Reach) (w : World Value) (s : Shape) (answer : Option Shape) (k r : ℕ) (xs : List Value) (v : Value)
    → slice_get reach.registers r ≡ Some (put reach.choice s) → GivesUnit answer → F reach w s v
    → GoesOn reach w (GivesAs reach answer) (made plainly k xs v then λ y. write_register plainly w r y)
write_made reach w s answer k r xs v is unit fit =
    goes_as reach w (F reach w V.Unit) (GivesAs reach answer) (made plainly k xs v then λ y. write_register plainly w r y)
    (unit_given reach w answer unit)
    (then_goes reach w (F reach w s) (F reach w V.Unit) (made plainly k xs v) (λ y. write_register plainly w r y) (gives_goes reach w (F reach w s) v fit)
    (λ u fu. write_goes reach w s r u is fu))

pub register_spot_goes : (reach : Reach) (w : World Value) (is_base : Bool) (s : Shape) (answer : Option Shape) (k r : ℕ)
    → slice_get reach.registers r ≡ Some (put reach.choice s) → GivesUnit answer → SpotGoes reach w is_base s answer (register_spot plainly w k r)
register_spot_goes reach w is_base s answer k r is unit = record {
  write = λ v fit. write_made reach w s answer k r (v ∷ []) v is unit fit;
  read = λ base. register_goes reach w s k r is;
  renew = λ base v fit. write_made reach w s answer k r [] v is unit fit;
}

-- ---- calls

-- one value more
one_more : (reach : Reach) (w : World Value) (s : Shape) (v : Value) (ss : List Shape) (vs : List Value) → FitAll reach.types reach.choice ss vs
    → F reach w s v → FitAll reach.types reach.choice (ss ++ s ∷ []) (vs ++ v ∷ [])
one_more reach w s v [] [] h fit = two (fits reach.types v (put reach.choice s)) true fit refl
one_more reach w s v [] (u ∷ us) h fit = no h
one_more reach w s v (q ∷ ss) [] h fit = no h
one_more reach w s v (q ∷ ss) (u ∷ us) h fit =
    let k = and_parts (fits reach.types u (put reach.choice q)) (each_fits (map (fits reach.types) us) (map (put reach.choice) ss)) h in
    two (fits reach.types u (put reach.choice q))
    (each_fits (map (fits reach.types) (us ++ v ∷ [])) (map (put reach.choice) (ss ++ s ∷ []))) k.0 (one_more reach w s v ss us k.1 fit)

-- the writer, called with one value more, where the table of builtins is met
written_goes : (t : Table) (w : World Value) (reach : Reach) → t.types ≡ reach.types
    → (s : Shape) (answer : Option Shape) (ss : List Shape) (place : Place) (k : ℕ)
    (writer : Caller) (vs xs : List Value) (v : Value) → Takes w reach (ss ++ s ∷ []) answer writer.callee → FitAll reach.types reach.choice ss vs
    → F reach w s v
    → GoesOn reach w (GivesAs reach answer)
    (where_met (call_met t writer.callee (vs ++ v ∷ [])) (made plainly k xs v then λ y. asked plainly w place (Some writer) (vs ++ y ∷ [])))
written_goes t w reach same s answer ss place k writer vs xs v takes fit fit_v =
    met_goes reach w (GivesAs reach answer) (call_met t writer.callee (vs ++ v ∷ []))
    (made plainly k xs v then λ y. asked plainly w place (Some writer) (vs ++ y ∷ []))
    (λ met now ready. callee_goes t w reach same (ss ++ s ∷ []) answer place writer.number writer.callee (vs ++ v ∷ []) takes
    (one_more reach w s v ss vs fit fit_v) met now ready)

read_goes : (t : Table) (w : World Value) (reach : Reach) → t.types ≡ reach.types → (s : Shape) (ss : List Shape) (place : Place) (reader : Option Caller)
    (vs : List Value) → Reads w reach ss s true reader → FitAll reach.types reach.choice ss vs → read_met t reader vs ≡ true
    → Has reach w s (asked plainly w place reader vs)
read_goes t w reach same s ss place None vs h fit met = absurd h
read_goes t w reach same s ss place (Some caller) vs h fit met = callee_goes t w reach same ss (Some s) place caller.number caller.callee vs h fit met

-- the spot reads only where it is a base
read_if : (t : Table) (w : World Value) (reach : Reach) → t.types ≡ reach.types → (is_base : Bool) (s : Shape) (ss : List Shape) (place : Place)
    (reader : Option Caller) (vs : List Value) → Reads w reach ss s is_base reader → FitAll reach.types reach.choice ss vs → is_base ≡ true
    → Has reach w s (where_met (read_met t reader vs) (asked plainly w place reader vs))
read_if t w reach same true s ss place reader vs h fit is =
    met_goes reach w (F reach w s) (read_met t reader vs) (asked plainly w place reader vs)
    (λ met. read_goes t w reach same s ss place reader vs h fit met)
read_if t w reach same false s ss place reader vs h fit is = no is

pub call_spot_goes : (t : Table) (w : World Value) (reach : Reach) → t.types ≡ reach.types
    → (is_base : Bool) (s : Shape) (answer : Option Shape) (ss : List Shape)
    (place : Place) (k : ℕ) (reader : Option Caller) (writer : Caller) (vs : List Value) → Takes w reach (ss ++ s ∷ []) answer writer.callee
    → Reads w reach ss s is_base reader → FitAll reach.types reach.choice ss vs
    → SpotGoes reach w is_base s answer (checked_call t w place k reader writer vs)
call_spot_goes t w reach same is_base s answer ss place k reader writer vs takes reads fit = record {
  write = λ v fit_v. written_goes t w reach same s answer ss place k writer vs (v ∷ []) v takes fit fit_v;
  read = λ base. read_if t w reach same is_base s ss place reader vs reads fit base;
  renew = λ base v fit_v. written_goes t w reach same s answer ss place k writer vs [] v takes fit fit_v;
}

-- ---- tuples

abbrev pub SpotsGo : Reach → World Value → List Shape → List (Spot Value) → Type 0
SpotsGo reach w [] [] = Unit {0}
SpotsGo reach w (s ∷ ss) (x ∷ xs) = SpotGoes reach w false s None x × SpotsGo reach w ss xs
SpotsGo reach w ss xs = ⊥

writes_go : (reach : Reach) (w : World Value) (ss : List Shape) (xs : List (Spot Value)) (vs : List Value) → SpotsGo reach w ss xs
    → FitAll reach.types reach.choice ss vs → GoesOn reach w (F reach w V.Unit) (writes plainly xs vs)
writes_go reach w [] [] [] h fit = gives_goes reach w (F reach w V.Unit) Val.Unit (unit_fits reach.types reach.choice)
writes_go reach w [] [] (v ∷ vs) h fit = no fit
writes_go reach w [] (x ∷ xs) vs h fit = absurd h
writes_go reach w (s ∷ ss) [] vs h fit = absurd h
writes_go reach w (s ∷ ss) (x ∷ xs) [] h fit = no fit
writes_go reach w (s ∷ ss) (x ∷ xs) (v ∷ vs) h fit =
    let k = and_parts (fits reach.types v (put reach.choice s)) (each_fits (map (fits reach.types) vs) (map (put reach.choice) ss)) fit in
    then_goes reach w (GivesAs reach None) (F reach w V.Unit) (x.write v) (λ y. writes plainly xs vs) (h.0.write v k.0)
    (λ y fy. writes_go reach w ss xs vs h.1 k.1)

tuple_out : (ss : List Shape) → out-Shape (V.Tuple ss) ≡ S.Tuple ss
tuple_out ss = ap out-Shape (sym (V.rolls-Tuple ss)) ∙ out-roll-Shape (S.Tuple ss)

tuple_writes : (reach : Reach) (w : World Value) (ss : List Shape) (xs : List (Spot Value)) (v : Value) → SpotsGo reach w ss xs
    → F reach w (V.Tuple ss) v
    → GoesOn reach w (F reach w V.Unit) (needs (parts_in v) then λ vs. writes plainly xs (components plainly v 0 vs))
tuple_writes reach w ss xs v h fit =
    let f = form_tuple reach.types (out-Value v) (map (put reach.choice) ss)
    (form_given reach.types reach.choice (V.Tuple ss) (S.Tuple (map (put reach.choice) ss)) v
    (put_out reach.choice (V.Tuple ss) (S.Tuple ss) (tuple_out ss)) fit) in
    then_goes reach w (λ vs. FitAll reach.types reach.choice ss vs) (F reach w V.Unit) (needs (parts_in v))
    (λ vs. writes plainly xs (components plainly v 0 vs))
    (needs_goes reach w (λ vs. FitAll reach.types reach.choice ss vs) (parts_in v) f.0 (ap form_parts f.1) f.2)
    (λ vs fits_all. subst (λ us. GoesOn reach w (F reach w V.Unit) (writes plainly xs us)) (sym (same_components v 0 vs))
    (writes_go reach w ss xs vs h fits_all))

pub tuple_spot_goes : (reach : Reach) (w : World Value) (s : Shape) (answer : Option Shape) (ss : List Shape) (k : ℕ) (xs : List (Spot Value)) → s ≡ V.Tuple ss
    → GivesUnit answer → SpotsGo reach w ss xs → SpotGoes reach w false s answer (tuple_spot plainly k xs)
tuple_spot_goes reach w s answer ss k xs is unit h = record {
  write = λ v fit.
      goes_as reach w (F reach w V.Unit) (GivesAs reach answer) (needs (parts_in v) then λ vs. writes plainly xs (components plainly v 0 vs))
      (unit_given reach w answer unit) (tuple_writes reach w ss xs v h (subst (λ x. F reach w x v) is fit));
  read = λ base. no base;
  renew = λ base. no base;
}

-- ---- parts

part_renews : (reach : Reach) (w : World Value) (q s : Shape) (answer : Option Shape) (k : ℕ) (base : Spot Value) (ts : List Tested) (xs : List Value)
    (v : Value)
    → SpotGoes reach w true q answer base → WaysGo reach.types reach.choice ts q s → F reach w s v
    → GoesOn reach w (GivesAs reach answer) (made plainly k xs v then λ y. (if_met (λ old. all_there ts old && last_takes ts v) base.read
    then λ old. needs (replaced (intos ts) old y) then base.renew))
part_renews reach w q s answer k base ts xs v h ways fit = λ now ready.
    then_goes reach w (λ old. F reach w q old × ((all_there ts old && last_takes ts v) ≡ true)) (GivesAs reach answer)
    (if_met (λ old. all_there ts old && last_takes ts v) base.read) (λ old. needs (replaced (intos ts) old v) then base.renew)
    (part_met reach w q (λ old. all_there ts old && last_takes ts v) base.read (h.read refl))
    (λ old fo. renewed_by old fo.0 (and_parts (all_there ts old) (last_takes ts v) fo.1)) now ready
  where
    renewed_by : (old : Value) → F reach w q old → (all_there ts old ≡ true) × (last_takes ts v ≡ true)
        → GoesOn reach w (GivesAs reach answer) (needs (replaced (intos ts) old v) then base.renew)
    renewed_by old fo met =
        let r = replaced_goes reach.types reach.choice ts q s old v ways fo fit met.0 met.1 in
        then_goes reach w (F reach w q) (GivesAs reach answer) (needs (replaced (intos ts) old v)) base.renew
        (needs_goes reach w (F reach w q) (replaced (intos ts) old v) r.0 r.1 r.2) (λ u fu. h.renew refl u fu)

part_reads : (reach : Reach) (w : World Value) (q s : Shape) (answer : Option Shape) (k : ℕ) (base : Spot Value) (ts : List Tested)
    → SpotGoes reach w true q answer base
    → WaysGo reach.types reach.choice ts q s
    → Has reach w s (if_met (all_there ts) base.read then λ old. needs (through (intos ts) old) then λ v. made plainly k [] v)
part_reads reach w q s answer k base ts h ways =
    then_goes reach w (λ old. F reach w q old × (all_there ts old ≡ true)) (F reach w s) (if_met (all_there ts) base.read)
    (λ old. needs (through (intos ts) old) then λ v. made plainly k [] v) (part_met reach w q (all_there ts) base.read (h.read refl))
    (λ old fo.
    let r = through_goes reach.types reach.choice ts q s old ways fo.0 fo.1 in
    then_goes reach w (F reach w s) (F reach w s) (needs (through (intos ts) old)) (λ v. made plainly k [] v)
    (needs_goes reach w (F reach w s) (through (intos ts) old) r.0 r.1 r.2) (λ u fu. gives_goes reach w (F reach w s) u fu))

pub part_spot_goes : (reach : Reach) (w : World Value) (is_base : Bool) (q s : Shape) (answer : Option Shape) (k : ℕ) (base : Spot Value) (ts : List Tested)
    → SpotGoes reach w true q answer base → WaysGo reach.types reach.choice ts q s → SpotGoes reach w is_base s answer (checked_part k base ts)
part_spot_goes reach w is_base q s answer k base ts h ways = record {
  write = λ v fit. part_renews reach w q s answer k base ts (v ∷ []) v h ways fit;
  read = λ is. part_reads reach w q s answer k base ts h ways;
  renew = λ is v fit. part_renews reach w q s answer k base ts [] v h ways fit;
}
