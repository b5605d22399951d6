-- Targets of an assignment by their rule go on: their indexes are evaluated, and what is found takes values of their shapes.
use Rattle.std.proofs.Common.{◌≡◌, ℕ, zero, suc, List, [], ◌∷◌, ◌++◌, map, length, take, drop, ap, sym, refl, subst, Bool, true, false, Option, Some, None}
use Rattle.sail_base.specs.declared.place.Place.{Place}
use Rattle.sail_types.specs.Shapes.{at, put, shape}
use Rattle.sail_types.specs.declared.shapes.Shape.{Shape}
use Rattle.sail_types.specs.declared.shapes.Shape.TheVariants as V
use Rattle.sail_types.specs.declared.values.Value.{Value}
use Rattle.sail_core.specs.declared.targets.Suffix.{Suffix}
use Rattle.sail_core.specs.declared.targets.Target.{Target, out-Target, fold_out-Target}
use Rattle.sail_core.specs.declared.targets.TargetKind.{TargetKind}
use Rattle.sail_core.specs.declared.targets.TargetKind.TheVariants as T
use Rattle.sail_core.specs.declared.targets.Way.{Way}
use Rattle.sail_core.specs.declared.targets.Way.TheVariants as Y
use Rattle.sail_core.specs.declared.tree.Core.{Core}
use Rattle.sail_core.specs.Run.{Run, in_turn, ◌then◌}
use Rattle.sail_core.specs.Making.{World, plainly}
use Rattle.sail_core.specs.Targets.{Spot, Spotted, Spotting, also, assigned, register_spot, spots_of, spotted, tuple_spot, variable_spot}
use Rattle.sail_core.specs.Values.{field_way}
use Rattle.shape_meanings.specs.Keeping.{FitAll, Reach}
use Rattle.shape_meanings.proofs.Values.{widens}
use Rattle.shape_progress.specs.Checks.{Table, Tested, checked, checked_call, checked_part, checked_spotting, checked_target, tested, tested_item, tested_slice}
use Rattle.shape_progress.specs.Checks.{tested_way, tested_ways}
use Rattle.shape_progress.specs.Going.{GoesOn, Has}
use Rattle.shape_progress.specs.Rules.{Rule}
use Rattle.shape_progress.specs.TargetRules.{AllHave, AssignHas, EachTargeted, SuffixesLead, TargetHas, TargetKindHas, Targeted, WayLeads}
use Rattle.shape_progress.proofs.Parts.{F, integer_then, turn_both}
use Rattle.shape_progress.proofs.Runs.{gives_goes, goes_as, then_goes}
use Rattle.shape_progress.proofs.Spots.{SpotGoes, SpotsGo, call_spot_goes, part_spot_goes, register_spot_goes, tuple_spot_goes, variable_spot_goes}
use Rattle.shape_progress.proofs.TestedWays.{WaysGo, field_goes, item_goes, slice_goes}

module _ (t : Table) (w : World Value) (P : Rule)
    (sound : (reach : Reach) → t.types ≡ reach.types → (s : Shape) (c : Core) → P reach s c → Has reach w s (checked t w c)) where
  abbrev runs : List Core → List (Run Value Value)
  runs cs = map (checked t w) cs

  -- ---- indexes

  -- ways that lead from values of the shape q to parts of the shape s, and behind their indexes these cores
  abbrev Led : Reach → Shape → Shape → List Core → Spotted Value (List Tested) → Type 0
  Led reach q s rest x = WaysGo reach.types reach.choice x.found q s × (x.left ≡ runs rest)

  also_goes : (reach : Reach) (q u s : Shape) (rest : List Core) (first : Tested) (r : Run Value (Spotted Value (List Tested)))
      → ((ways : List Tested) → WaysGo reach.types reach.choice ways u s → WaysGo reach.types reach.choice (first ∷ ways) q s)
      → GoesOn reach w (Led reach u s rest) r → GoesOn reach w (Led reach q s rest) (also first r)
  also_goes reach q u s rest first r more h =
      then_goes reach w (Led reach u s rest) (Led reach q s rest) r (λ x. spotted (first ∷ x.found) x.left) h
      (λ x led. gives_goes reach w (Led reach q s rest) (record { found = first ∷ x.found; left = x.left }) (more x.found led.0, led.1))

  abbrev Walked : Reach → Shape → List Core → List Suffix → Type 0
  Walked reach s rest ss =
      (ds : List Core) (q : Shape) → SuffixesLead reach.types (P reach) ss ds rest q s → GoesOn reach w (Led reach q s rest) (tested_ways ss (runs ds))

  way_goes : (reach : Reach) → t.types ≡ reach.types → (way : Way) (ss : List Suffix) (cs rest : List Core) (q s : Shape) → Walked reach s rest ss
      → WayLeads reach.types (P reach) way cs q (λ ds u. SuffixesLead reach.types (P reach) ss ds rest u s)
      → GoesOn reach w (Led reach q s rest) (tested_way way (runs cs) (tested_ways ss))
  way_goes reach same (Y.Field i k) ss cs rest q s walked h =
      also_goes reach q (put (at h.0) (shape h.2)) s rest (tested (field_way i k)) (tested_ways ss (runs cs))
      (λ ways led. (put (at h.0) (shape h.2), field_goes reach.types reach.choice q i k h.0 h.1 h.2 h.3 h.4 h.5, led))
      (walked cs (put (at h.0) (shape h.2)) h.6)
  way_goes reach same Y.Item ss [] rest q s walked h = absurd h
  way_goes reach same Y.Item ss (a ∷ cs) rest q s walked h =
      then_goes reach w (F reach w V.Int) (Led reach q s rest) (checked t w a) _ (sound reach same V.Int a h.0)
      (λ v fit. integer_then reach w (Led reach q s rest) v (λ i. also (tested_item i) (tested_ways ss (runs cs))) fit
      (λ z is. also_goes reach q h.1.0 s rest (tested_item z) (tested_ways ss (runs cs))
      (λ ways led. (h.1.0, item_goes reach.types reach.choice q h.1.0 z h.1.1, led)) (walked cs h.1.0 h.1.2)))
  way_goes reach same Y.Slice ss [] rest q s walked h = absurd h
  way_goes reach same Y.Slice ss (a ∷ []) rest q s walked h = absurd h
  way_goes reach same Y.Slice ss (a ∷ b ∷ cs) rest q s walked h =
      then_goes reach w (F reach w V.Int) (Led reach q s rest) (checked t w a) _ (sound reach same V.Int a h.0)
      (λ v fv. then_goes reach w (F reach w V.Int) (Led reach q s rest) (checked t w b) _ (sound reach same V.Int b h.1)
      (λ u fu. integer_then reach w (Led reach q s rest) v _ fv
      (λ hi at_hi. integer_then reach w (Led reach q s rest) u (λ lo. also (tested_slice hi lo) (tested_ways ss (runs cs))) fu
      (λ lo at_lo. also_goes reach q V.Bits s rest (tested_slice hi lo) (tested_ways ss (runs cs))
      (λ ways led. (V.Bits, slice_goes reach.types reach.choice q hi lo h.2, led)) (walked cs V.Bits h.3)))))

  ways_go : (reach : Reach) → t.types ≡ reach.types → (s : Shape) (rest : List Core) (ss : List Suffix) → Walked reach s rest ss
  ways_go reach same s rest [] ds q h =
      gives_goes reach w (Led reach q s rest) (record { found = []; left = runs ds }) (h.1, ap (λ cs. runs cs) h.0)
  ways_go reach same s rest (suffix ∷ ss) ds q h = way_goes reach same suffix.way ss ds rest q s (ways_go reach same s rest ss) h

  -- ---- arguments

  take_runs : (args rest : List Core) → take (length args) (runs (args ++ rest)) ≡ runs args
  take_runs [] rest = refl
  take_runs (c ∷ cs) rest = ap (λ rs. checked t w c ∷ rs) (take_runs cs rest)

  drop_runs : (args rest : List Core) → drop (length args) (runs (args ++ rest)) ≡ runs rest
  drop_runs [] rest = refl
  drop_runs (c ∷ cs) rest = drop_runs cs rest

  args_go : (reach : Reach) → t.types ≡ reach.types → (ss : List Shape) (cs : List Core) → AllHave (P reach) ss cs
      → GoesOn reach w (FitAll reach.types reach.choice ss) (in_turn (runs cs))
  args_go reach same [] [] h = gives_goes reach w (FitAll reach.types reach.choice []) [] refl
  args_go reach same [] (c ∷ cs) h = absurd h
  args_go reach same (s ∷ ss) [] h = absurd h
  args_go reach same (s ∷ ss) (c ∷ cs) h = turn_both reach w s ss (checked t w c) (runs cs) (sound reach same s c h.0) (args_go reach same ss cs h.1)

  -- ---- targets

  -- what is found takes values of the shape s, and behind its parts these cores are left
  abbrev Found : Reach → Bool → Shape → Option Shape → List Core → Spotted Value (Spot Value) → Type 0
  Found reach is_base s answer rest x = SpotGoes reach w is_base s answer x.found × (x.left ≡ runs rest)

  -- several, for values of these shapes
  abbrev AllFound : Reach → List Shape → List Core → Spotted Value (List (Spot Value)) → Type 0
  AllFound reach ss rest x = SpotsGo reach w ss x.found × (x.left ≡ runs rest)

  abbrev Goal : Reach → Bool → Shape → Option Shape → Target → List Core → List Core → Type 0
  Goal reach is_base s answer target cs rest = GoesOn reach w (Found reach is_base s answer rest) (checked_spotting t w target (runs cs))

  abbrev Inside : Targeted → Reach → Type 0
  Inside Q reach =
      (is_base : Bool) (s : Shape) (answer : Option Shape) (target : Target) (cs rest : List Core) → Q is_base s answer target cs rest
      → Goal reach is_base s answer target cs rest

  spots_go : (Q : Targeted) (reach : Reach) → Inside Q reach → (ss : List Shape) (targets : List Target) (cs rest : List Core)
      → EachTargeted Q ss targets cs rest
      → GoesOn reach w (AllFound reach ss rest) (spots_of (map (checked_spotting t w) targets) (runs cs))
  spots_go Q reach inside [] [] cs rest h =
      gives_goes reach w (AllFound reach [] rest) (record { found = []; left = runs cs }) (tt, ap (λ ds. runs ds) h)
  spots_go Q reach inside [] (x ∷ xs) cs rest h = absurd h
  spots_go Q reach inside (s ∷ ss) [] cs rest h = absurd h
  spots_go Q reach inside (s ∷ ss) (x ∷ xs) cs rest h =
      then_goes reach w (Found reach false s None h.0) (AllFound reach (s ∷ ss) rest) (checked_spotting t w x (runs cs))
      (λ first. also first.found (spots_of (map (checked_spotting t w) xs) first.left)) (inside false s None x cs h.0 h.1)
      (λ first found. subst (λ rs. GoesOn reach w (AllFound reach (s ∷ ss) rest)
      (also first.found (spots_of (map (checked_spotting t w) xs) rs))) (sym found.1)
      (then_goes reach w (AllFound reach ss rest) (AllFound reach (s ∷ ss) rest)
      (spots_of (map (checked_spotting t w) xs) (runs h.0)) (λ more. spotted (first.found ∷ more.found) more.left)
      (spots_go Q reach inside ss xs h.0 rest h.2)
      (λ more is. gives_goes reach w (AllFound reach (s ∷ ss) rest)
      (record { found = first.found ∷ more.found; left = more.left }) ((found.0, is.0), is.1))))

  kind_goes : (Q : Targeted) (reach : Reach) → t.types ≡ reach.types → Inside Q reach → (place : Place) (k : ℕ) (kind : TargetKind) (targets : List Target)
      (is_base : Bool) (s : Shape) (answer : Option Shape) (cs rest : List Core) → TargetKindHas Q (P reach) w reach kind targets is_base s answer cs rest
      → GoesOn reach w (Found reach is_base s answer rest) (checked_target t w place k kind (map (checked_spotting t w) targets) (runs cs))
  kind_goes Q reach same inside place k (T.Variable name) [] is_base s answer cs rest h =
      gives_goes reach w (Found reach is_base s answer rest) (record { found = variable_spot plainly k name; left = runs cs })
      (variable_spot_goes reach w is_base s answer k name h.0 h.1 h.2 h.3, ap (λ ds. runs ds) h.4)
  kind_goes Q reach same inside place k (T.Register r) [] is_base s answer cs rest h =
      gives_goes reach w (Found reach is_base s answer rest) (record { found = register_spot plainly w k r; left = runs cs })
      (register_spot_goes reach w is_base s answer k r h.0 h.1, ap (λ ds. runs ds) h.2)
  kind_goes Q reach same inside place k (T.Call n reader writer) [] is_base s answer cs rest h =
      subst (λ ds. GoesOn reach w (Found reach is_base s answer rest)
      (in_turn (take n (runs ds)) then λ vs. spotted (checked_call t w place k reader writer vs) (drop n (runs ds)))) (sym h.2)
      (subst (λ i. GoesOn reach w (Found reach is_base s answer rest)
      (in_turn (take i (runs (h.0 ++ rest))) then λ vs. spotted (checked_call t w place k reader writer vs) (drop i (runs (h.0 ++ rest))))) (sym h.3)
      (subst (λ rs. GoesOn reach w (Found reach is_base s answer rest)
      (in_turn rs then λ vs. spotted (checked_call t w place k reader writer vs) (drop (length h.0) (runs (h.0 ++ rest))))) (sym (take_runs h.0 rest))
      (then_goes reach w (FitAll reach.types reach.choice h.1) (Found reach is_base s answer rest) (in_turn (runs h.0))
      (λ vs. spotted (checked_call t w place k reader writer vs) (drop (length h.0) (runs (h.0 ++ rest)))) (args_go reach same h.1 h.0 h.4)
      (λ vs fit. gives_goes reach w (Found reach is_base s answer rest)
      (record { found = checked_call t w place k reader writer vs; left = drop (length h.0) (runs (h.0 ++ rest)) })
      (call_spot_goes t w reach same is_base s answer h.1 place k reader writer vs h.5 h.6 fit, drop_runs h.0 rest)))))
  kind_goes Q reach same inside place k T.Tuple targets false s answer cs rest h =
      then_goes reach w (AllFound reach h.0 rest) (Found reach false s answer rest)
      (spots_of (map (checked_spotting t w) targets) (runs cs)) (λ all. spotted (tuple_spot plainly k all.found) all.left)
      (spots_go Q reach inside h.0 targets cs rest h.3)
      (λ all is. gives_goes reach w (Found reach false s answer rest) (record { found = tuple_spot plainly k all.found; left = all.left })
      (tuple_spot_goes reach w s answer h.0 k all.found h.1 h.2 is.0, is.1))
  kind_goes Q reach same inside place k (T.Part suffixes) (base ∷ []) is_base s answer cs rest h =
      then_goes reach w (Found reach true h.0 answer h.1) (Found reach is_base s answer rest) (checked_spotting t w base (runs cs))
      (λ b. tested_ways suffixes b.left then λ ways. spotted (checked_part k b.found ways.found) ways.left)
      (inside true h.0 answer base cs h.1 h.2)
      (λ b is. subst (λ rs. GoesOn reach w (Found reach is_base s answer rest)
      (tested_ways suffixes rs then λ ways. spotted (checked_part k b.found ways.found) ways.left)) (sym is.1)
      (then_goes reach w (Led reach h.0 s rest) (Found reach is_base s answer rest) (tested_ways suffixes (runs h.1))
      (λ ways. spotted (checked_part k b.found ways.found) ways.left) (ways_go reach same s rest suffixes h.1 h.0 h.3)
      (λ ways led. gives_goes reach w (Found reach is_base s answer rest) (record { found = checked_part k b.found ways.found; left = ways.left })
      (part_spot_goes reach w is_base h.0 s answer k b.found ways.found is.0 led.0, led.1))))
  kind_goes Q reach same inside place k kind targets is_base s answer cs rest h = absurd h

  target_goes : (n : ℕ) (reach : Reach) → t.types ≡ reach.types → Inside (TargetHas n (P reach) w reach) reach
  target_goes zero reach same is_base s answer target cs rest h = absurd h
  target_goes (suc n) reach same is_base s answer target cs rest h =
      subst (λ (x : Spotting Value (Spot Value)). GoesOn reach w (Found reach is_base s answer rest) (x (runs cs)))
      (sym (fold_out-Target (Spotting Value (Spot Value)) (λ x. checked_target t w x.place x.number x.kind x.parts) target))
      (kind_goes (TargetHas n (P reach) w reach) reach same (target_goes n reach same) (out-Target target).place (out-Target target).number
      (out-Target target).kind (out-Target target).parts is_base s answer cs rest h)

  -- ---- assignments

  pub assigned_go : (reach : Reach) → t.types ≡ reach.types → (s : Shape) (targets : List Target) (cs : List Core)
      → AssignHas (P reach) w reach s targets cs → Has reach w s (assigned (map (checked_spotting t w) targets) (runs cs))
  assigned_go reach same s [] [] h = absurd h
  assigned_go reach same s [] (c ∷ []) h = sound reach same s c h
  assigned_go reach same s [] (c ∷ d ∷ cs) h = absurd h
  assigned_go reach same s (target ∷ targets) cs h =
      then_goes reach w (Found reach false h.1 (Some s) h.3) (F reach w s) (checked_spotting t w target (runs cs))
      (λ spot. assigned (map (checked_spotting t w) targets) spot.left then spot.found.write)
      (target_goes h.0 reach same false h.1 (Some s) target cs h.3 h.4)
      (λ spot is. subst (λ rs. GoesOn reach w (F reach w s) (assigned (map (checked_spotting t w) targets) rs then spot.found.write)) (sym is.1)
      (then_goes reach w (F reach w h.1) (F reach w s) (assigned (map (checked_spotting t w) targets) (runs h.3)) spot.found.write
      (goes_as reach w (F reach w h.2) (F reach w h.1) (assigned (map (checked_spotting t w) targets) (runs h.3))
      (λ v fit. widens reach.types v reach.choice h.2 h.1 h.5 fit) (assigned_go reach same h.2 targets h.3 h.6))
      (λ v fit. is.0.write v fit)))
