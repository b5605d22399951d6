-- Ways into values of a shape, each tested first: they lead to a part of its shape, and with another part put in the whole keeps its own.
use Rattle.std.proofs.Common.{◌≡◌, inl, inr, ℕ, ℤ, pos, negsuc, List, [], ◌∷◌, map, length, ap, sym, ◌∙◌, refl, subst, Bool, true}
use Rattle.std.proofs.Common.{◌&&◌, Option, Some, slice_get}
use Rattle.std.proofs.lemmas.Bool.{and_parts}
use Rattle.sail_types.specs.Named.{fields, field_types}
use Rattle.sail_types.specs.Shapes.{at, fits, form_fits, put, shape, Asked}
use Rattle.sail_types.specs.Sums.{and_then}
use Rattle.sail_types.specs.declared.shapes.Shape.{Shape, out-Shape}
use Rattle.sail_types.specs.declared.shapes.Shape.TheOpen as S
use Rattle.sail_types.specs.declared.shapes.Shape.TheVariants as V
use Rattle.sail_types.specs.declared.table.Field.{Field}
use Rattle.sail_types.specs.declared.table.Types.{Types}
use Rattle.sail_types.specs.declared.types.Typ.{Typ}
use Rattle.sail_types.specs.declared.values.Value.{Value, Value-F, out-Value}
use Rattle.sail_types.specs.declared.values.Value.TheFolds.{map-Value}
use Rattle.sail_types.specs.declared.values.Value.TheOpen as W
use Rattle.sail_types.specs.declared.values.Value.TheVariants as Val
use Rattle.sail_types.specs.declared.values.Value.TheViews.{out-roll-Value}
use Rattle.sail_core.specs.Values.{Into, field_way, with_item, slice, with_slice, through, replaced}
use Rattle.shape_joins.proofs.Order.{no, two}
use Rattle.shape_meanings.specs.Whole.{Choice}
use Rattle.shape_meanings.specs.Keeping.{Fits}
use Rattle.shape_meanings.proofs.Matching.{form_given}
use Rattle.shape_progress.specs.Conditions.{index_met, spans, slice_met, width_met}
use Rattle.shape_progress.specs.Checks.{Tested, tested, tested_item, tested_slice, all_there, last_takes, in_part}
use Rattle.shape_progress.specs.TargetRules.{ItemHas}
use Rattle.shape_progress.proofs.Forms.{put_out, are_bits}
use Rattle.shape_progress.proofs.Structs.{field_takes}
use Rattle.shape_progress.proofs.Ways.{Leads, item_leads, item_takes, slice_leads, slice_takes, field_leads, bits_out}
use Rattle.shape_progress.proofs.Wide.{wide, item_wide, slice_wide, slice_keeps}

-- a value with another part put in, which is as wide as before
abbrev Puts : Types → Choice → Shape → Value → Option Value → Type 0
Puts types c q old o = (x : Value) × (o ≡ Some x) × Fits types c q x × (wide (out-Value x) ≡ wide (out-Value old))

-- a way into values of the shape q, to parts of the shape u
pub record WayGoes (types : Types) (c : Choice) (t : Tested) (q u : Shape) : Type 0 where
  pub taken : (old : Value) → Fits types c q old → t.there old ≡ true → Leads types c u (t.into.take_out old)
  pub puts : (old new : Value) → Fits types c q old → Fits types c u new → t.there old ≡ true → t.takes new ≡ true
      → Puts types c q old (t.into.put_in old new)
  -- what is as wide as the part that was there can be put in its place
  pub again : (old part new : Value) → Fits types c q old → t.there old ≡ true → t.into.take_out old ≡ Some part → Fits types c u new
      → wide (out-Value new) ≡ wide (out-Value part) → t.takes new ≡ true

-- ---- several ways

abbrev pub WaysGo : Types → Choice → List Tested → Shape → Shape → Type 0
WaysGo types c [] q s = q ≡ s
WaysGo types c (t ∷ ts) q s = (u : Shape) × WayGoes types c t q u × WaysGo types c ts u s

abbrev pub intos : List Tested → List Into
intos ts = map (λ t. t.into) ts

-- the first way leads to a part in which the others lead on
there_first : (types : Types) (c : Choice) (t : Tested) (ts : List Tested) (q u : Shape) (old : Value) → WayGoes types c t q u → Fits types c q old
    → (t.there old && in_part (all_there ts) (t.into.take_out old)) ≡ true
    → (part : Value) × (t.there old ≡ true) × (t.into.take_out old ≡ Some part) × Fits types c u part × (all_there ts part ≡ true)
there_first types c t ts q u old way fit h =
    let both = and_parts (t.there old) (in_part (all_there ts) (t.into.take_out old)) h in
    let part = way.taken old fit both.0 in
    (part.0, both.0, part.1, part.2, subst (λ o. in_part (all_there ts) o ≡ true) part.1 both.1)

pub through_goes : (types : Types) (c : Choice) (ts : List Tested) (q s : Shape) (old : Value) → WaysGo types c ts q s → Fits types c q old
    → all_there ts old ≡ true → Leads types c s (through (intos ts) old)
through_goes types c [] q s old h fit there = (old, refl, subst (λ x. Fits types c x old) h fit)
through_goes types c (t ∷ ts) q s old h fit there =
    let p = there_first types c t ts q h.0 old h.1 fit there in
    let r = through_goes types c ts h.0 s p.0 h.2 p.3 p.4 in
    (r.0, ap (λ o. and_then o (through (intos ts))) p.2 ∙ r.1, r.2)

some_way : (types : Types) (c : Choice) (t : Tested) (ts : List Tested) (q s : Shape) (old new : Value) → WaysGo types c (t ∷ ts) q s → Fits types c q old
    → Fits types c s new → all_there (t ∷ ts) old ≡ true → last_takes (t ∷ ts) new ≡ true → Puts types c q old (replaced (intos (t ∷ ts)) old new)
some_way types c t [] q s old new h fit fit_new there takes =
    let p = there_first types c t [] q h.0 old h.1 fit there in
    let r = h.1.puts old new fit (subst (λ x. Fits types c x new) (sym h.2) fit_new) p.1 takes in
    (r.0, ap (λ o. and_then o (λ part. t.into.put_in old new)) p.2 ∙ r.1, r.2, r.3)
some_way types c t (n ∷ ts) q s old new h fit fit_new there takes =
    let p = there_first types c t (n ∷ ts) q h.0 old h.1 fit there in
    let inner = some_way types c n ts h.0 s p.0 new h.2 p.3 fit_new p.4 takes in
    let r = h.1.puts old inner.0 fit inner.2 p.1 (h.1.again old p.0 inner.0 fit p.1 p.2 inner.2 inner.3) in (
      r.0,
      ap (λ o. and_then o (λ part. and_then (replaced (intos (n ∷ ts)) part new) (t.into.put_in old))) p.2
          ∙ ap (λ o. and_then o (t.into.put_in old)) inner.1 ∙ r.1,
      r.2,
      r.3,
    )

pub replaced_goes : (types : Types) (c : Choice) (ts : List Tested) (q s : Shape) (old new : Value) → WaysGo types c ts q s → Fits types c q old
    → Fits types c s new → all_there ts old ≡ true → last_takes ts new ≡ true → Leads types c q (replaced (intos ts) old new)
replaced_goes types c [] q s old new h fit fit_new there takes = (new, refl, subst (λ x. Fits types c x new) (sym h) fit_new)
replaced_goes types c (t ∷ ts) q s old new h fit fit_new there takes =
    let r = some_way types c t ts q s old new h fit fit_new there takes in
    (r.0, r.1, r.2)

-- ---- fields

named_narrow : (types : Types) (i : ℕ) (us : List Shape) (x : Value-F Value) → form_fits types (map-Value Value Asked (fits types) x) (S.Named i us) ≡ true
    → wide x ≡ 0
named_narrow types i us (W.Bits bs) h = no h
named_narrow types i us x h = refl

vector_narrow : (types : Types) (t : Shape) (x : Value-F Value) → form_fits types (map-Value Value Asked (fits types) x) (S.Vector t) ≡ true → wide x ≡ 0
vector_narrow types t (W.Bits bs) h = no h
vector_narrow types t x h = refl

narrow : (types : Types) (c : Choice) (q : Shape) (i : ℕ) (us : List Shape) (v : Value) → out-Shape q ≡ S.Named i us → Fits types c q v
    → wide (out-Value v) ≡ 0
narrow types c q i us v is h =
    named_narrow types i (map (put c) us) (out-Value v) (form_given types c q (S.Named i (map (put c) us)) v (put_out c q (S.Named i us) is) h)

pub field_goes : (types : Types) (c : Choice) (q : Shape) (i k : ℕ) (us : List Shape) (fs : List Field) (typ : Typ) → out-Shape q ≡ S.Named i us
    → fields types i ≡ Some fs → slice_get (field_types fs) k ≡ Some typ → WayGoes types c (tested (field_way i k)) q (put (at us) (shape typ))
field_goes types c q i k us fs typ is are there_k = record {
  taken = λ old fit there. field_leads types c q i k us fs typ old is are there_k fit;
  puts = λ old new fit fit_new there takes.
      let r = field_takes types c q i k us fs typ old new is are there_k fit fit_new in
      (r.0, r.1, r.2, narrow types c q i us r.0 is r.2 ∙ sym (narrow types c q i us old is fit));
  again = λ old part new fit there out fit_new same. refl;
}

-- ---- items

int_out : (z : ℤ) → out-Value (Val.Integer z) ≡ W.Integer z
int_out z = ap out-Value (sym (Val.rolls-Integer z)) ∙ out-roll-Value (W.Integer z)

at_index : (z : ℤ) (v : Value) → index_met (W.Integer z) (out-Value v) ≡ true → index_met (out-Value (Val.Integer z)) (out-Value v) ≡ true
at_index z v met = subst (λ x. index_met x (out-Value v) ≡ true) (sym (int_out z)) met

item_width : (types : Types) (c : Choice) (q u : Shape) (z : ℤ) (old new x : Value) → ItemHas q u → Fits types c q old → Fits types c q x
    → with_item z (out-Value old) new ≡ Some x → wide (out-Value x) ≡ wide (out-Value old)
item_width types c q u z old new x (inl is) fit fit_x e =
    let f = are_bits types c q old is.0 fit in
    item_wide z f.0 new x (sym (ap (λ y. with_item z y new) f.1) ∙ e) ∙ sym (ap wide f.1)
item_width types c q u z old new x (inr is) fit fit_x e =
    vector_narrow types (put c u) (out-Value x) (form_given types c q (S.Vector (put c u)) x (put_out c q (S.Vector u) is) fit_x)
    ∙ sym (vector_narrow types (put c u) (out-Value old) (form_given types c q (S.Vector (put c u)) old (put_out c q (S.Vector u) is) fit))

pub item_goes : (types : Types) (c : Choice) (q u : Shape) (z : ℤ) → ItemHas q u → WayGoes types c (tested_item z) q u
item_goes types c q u z has = record {
  taken = λ old fit there. item_leads types c q u (Val.Integer z) old z has (int_out z) fit (at_index z old there);
  puts = λ old new fit fit_new there takes.
      let r = item_takes types c q u (Val.Integer z) old new z has (int_out z) fit fit_new (at_index z old there) in
      (r.0, r.1, r.2, item_width types c q u z old new r.0 has fit r.2 r.1);
  again = λ old part new fit there out fit_new same. refl;
}

-- ---- slices

at_ends : (hi lo : ℤ) (v : Value) → slice_met (W.Integer hi) (W.Integer lo) (out-Value v) ≡ true
    → slice_met (out-Value (Val.Integer hi)) (out-Value (Val.Integer lo)) (out-Value v) ≡ true
at_ends hi lo v met =
    subst (λ x. slice_met x (out-Value (Val.Integer lo)) (out-Value v) ≡ true) (sym (int_out hi))
    (subst (λ x. slice_met (W.Integer hi) x (out-Value v) ≡ true) (sym (int_out lo)) met)

at_width : (hi lo : ℤ) (v : Value) → width_met (W.Integer hi) (W.Integer lo) (out-Value v) ≡ true
    → width_met (out-Value (Val.Integer hi)) (out-Value (Val.Integer lo)) (out-Value v) ≡ true
at_width hi lo v met =
    subst (λ x. width_met x (out-Value (Val.Integer lo)) (out-Value v) ≡ true) (sym (int_out hi))
    (subst (λ x. width_met (W.Integer hi) x (out-Value v) ≡ true) (sym (int_out lo)) met)

slice_width : (types : Types) (c : Choice) (q : Shape) (hi lo : ℤ) (old new x : Value) → out-Shape q ≡ S.Bits → Fits types c q old
    → with_slice hi lo (out-Value old) new ≡ Some x → wide (out-Value x) ≡ wide (out-Value old)
slice_width types c q hi lo old new x is fit e =
    let f = are_bits types c q old is fit in
    slice_keeps hi lo f.0 new x (sym (ap (λ y. with_slice hi lo y new) f.1) ∙ e) ∙ sym (ap wide f.1)

-- bits as wide as a part of a slice are as wide as the slice
wide_again : (hi lo : ℤ) (bs cs : List Bool) (part : Value) → spans hi lo bs ≡ true → slice hi lo (W.Bits bs) ≡ Some part
    → length cs ≡ wide (out-Value part) → width_met (W.Integer hi) (W.Integer lo) (W.Bits cs) ≡ true
wide_again (pos hi) (pos lo) bs cs part there out same = slice_wide hi lo bs cs part out same
wide_again (pos hi) (negsuc lo) bs cs part there out same = no there
wide_again (negsuc hi) lo bs cs part there out same = no there

pub slice_goes : (types : Types) (c : Choice) (q : Shape) (hi lo : ℤ) → out-Shape q ≡ S.Bits → WayGoes types c (tested_slice hi lo) q V.Bits
slice_goes types c q hi lo is = record {
  taken = λ old fit there. slice_leads types c q (Val.Integer hi) (Val.Integer lo) old hi lo is (int_out hi) (int_out lo) fit (at_ends hi lo old there);
  puts = λ old new fit fit_new there takes.
      let r = slice_takes types c q (Val.Integer hi) (Val.Integer lo) old new hi lo is (int_out hi) (int_out lo) fit fit_new
      (two (slice_met (out-Value (Val.Integer hi)) (out-Value (Val.Integer lo)) (out-Value old))
      (width_met (out-Value (Val.Integer hi)) (out-Value (Val.Integer lo)) (out-Value new)) (at_ends hi lo old there) (at_width hi lo new takes)) in
      (r.0, r.1, r.2, slice_width types c q hi lo old new r.0 is fit r.1);
  again = λ old part new fit there out fit_new same.
      let f = are_bits types c q old is fit in
      let g = are_bits types c V.Bits new bits_out fit_new in
      let inside : spans hi lo f.0 ≡ true = subst (λ x. slice_met (W.Integer hi) (W.Integer lo) x ≡ true) f.1 there in
      subst (λ x. width_met (W.Integer hi) (W.Integer lo) x ≡ true) (sym g.1)
      (wide_again hi lo f.0 g.0 part inside (sym (ap (slice hi lo) f.1) ∙ out) (sym (ap wide g.1) ∙ same));
}
