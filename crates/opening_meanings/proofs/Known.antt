-- Where no function, mapping or overload is, names still mean what the tables know of them in a plain expression.
use Rattle.std.proofs.Common.{◌≡◌, ℕ, ap, sym, ◌∙◌, Bool, true, false, Option, Some, None}
use Rattle.sail_types.specs.declared.table.Types.{Types}
use Rattle.sail_names.specs.declared.names.Global.{Global}
use Rattle.sail_names.specs.declared.names.Global.TheVariants as G
use Rattle.sail_names.specs.Known as Tables
use Rattle.sail_names.specs.Known.{is_any}
use Rattle.shape_joins.proofs.JoinsLeast.{none}
use Rattle.shape_joins.proofs.Order.{no}
use Rattle.shape_rules.specs.declared.callees.Candidate.{Candidate}
use Rattle.shape_rules.specs.declared.callees.Meant.{Meant}
use Rattle.shape_rules.specs.declared.callees.Meant.TheVariants as M
use Rattle.shape_rules.specs.Scopes.{Setting}
use Rattle.shape_rules.specs.Targets.{callees_of}
use Rattle.shape_meanings.specs.Counted.{Counts, MeantCounted}
use Rattle.shape_meanings.specs.Naming.{AreCallees, AreKnown, MeantAs, is_constructor}
use Rattle.opening_meanings.specs.Plain.{callee_if, uncalled, uncalled_meant}

meant_uncalled : (names : Tables.Setting) → is_any names.allowed ≡ false → (o : Option Global) (meant : Option Meant) → MeantAs names o meant
    → MeantAs names o (uncalled_meant meant)
meant_uncalled names plain (Some G.Register) meant m = (m.0, m.1, ap uncalled_meant m.2)
meant_uncalled names plain (Some (G.Let n)) meant m = λ h.
    let k = m h in
    (k.0, k.1, ap uncalled_meant k.2)
meant_uncalled names plain (Some G.Member) meant m = (m.0, m.1, ap uncalled_meant m.2)
meant_uncalled names plain (Some (G.Function n)) meant m = λ h. no (sym plain ∙ h)
meant_uncalled names plain (Some (G.Direction n)) meant m = λ h. no (sym plain ∙ h)
meant_uncalled names plain (Some G.Constructor) meant m = (m.0, ap uncalled_meant m.1 ∙ ap (λ b. callee_if b m.0) m.2, m.2)
meant_uncalled names plain (Some (G.Mapping n)) meant m = λ h. no (sym plain ∙ h)
meant_uncalled names plain (Some (G.Overload ns)) meant m = λ h. no (sym plain ∙ h)
meant_uncalled names plain (Some G.Builtin) meant m = (m.0, ap uncalled_meant m.1)
meant_uncalled names plain (Some G.StateBuiltin) meant m = (m.0, ap uncalled_meant m.1)
meant_uncalled names plain None meant m = tt

callees_if : (types : Types) (b : Bool) (f : Candidate) → AreCallees (callees_of types (Some (M.Callee f))) → AreCallees (callees_of types (callee_if b f))
callees_if types true f h = h
callees_if types false f h = tt

callees_uncalled : (types : Types) (meant : Option Meant) → AreCallees (callees_of types meant) → AreCallees (callees_of types (uncalled_meant meant))
callees_uncalled types (Some (M.Callee f)) h = callees_if types (is_constructor f.doing) f h
callees_uncalled types (Some (M.Mapping m)) h = tt
callees_uncalled types (Some (M.Overload fs)) h = tt
callees_uncalled types (Some (M.Register r s)) h = h
callees_uncalled types (Some (M.Let i s)) h = h
callees_uncalled types (Some (M.Member i k)) h = h
callees_uncalled types (Some (M.Row row)) h = h
callees_uncalled types None h = h

counted_if : (types : Types) (b : Bool) (f : Candidate) → MeantCounted types (Some (M.Callee f)) → MeantCounted types (callee_if b f)
counted_if types true f h = h
counted_if types false f h = tt

counted_uncalled : (types : Types) (meant : Option Meant) → MeantCounted types meant → MeantCounted types (uncalled_meant meant)
counted_uncalled types (Some (M.Callee f)) h = counted_if types (is_constructor f.doing) f h
counted_uncalled types (Some (M.Mapping m)) h = tt
counted_uncalled types (Some (M.Overload fs)) h = tt
counted_uncalled types (Some (M.Register r s)) h = h
counted_uncalled types (Some (M.Let i s)) h = h
counted_uncalled types (Some (M.Member i k)) h = h
counted_uncalled types (Some (M.Row row)) h = h
counted_uncalled types None h = h

member_if : (b : Bool) (f : Candidate) (i k : ℕ) → callee_if b f ≡ Some (M.Member i k) → Some (M.Callee f) ≡ Some (M.Member i k)
member_if true f i k e = e
member_if false f i k e = none e

member_left : (meant : Option Meant) (i k : ℕ) → uncalled_meant meant ≡ Some (M.Member i k) → meant ≡ Some (M.Member i k)
member_left (Some (M.Callee f)) i k e = member_if (is_constructor f.doing) f i k e
member_left (Some (M.Mapping m)) i k e = none e
member_left (Some (M.Overload fs)) i k e = none e
member_left (Some (M.Register r s)) i k e = e
member_left (Some (M.Let j s)) i k e = e
member_left (Some (M.Member j l)) i k e = e
member_left (Some (M.Row row)) i k e = e
member_left None i k e = e

counts_uncalled : (setting : Setting) → Counts setting → Counts (uncalled setting)
counts_uncalled setting c = record {
  values = λ name. counted_uncalled setting.types (setting.value name) (c.values name);
  operators = c.operators;
  prefixes = c.prefixes;
  exception = c.exception;
  fields = c.fields;
}

pub known_uncalled : (setting : Setting) (names : Tables.Setting) → AreKnown setting names → is_any names.allowed ≡ false
    → AreKnown (uncalled setting) names
known_uncalled setting names k plain = record {
  within = k.within;
  values = λ name. meant_uncalled names plain (names.known.value name) (setting.value name) (k.values name);
  called = λ name. callees_uncalled setting.types (setting.value name) (k.called name);
  members = λ name i n h. k.members name i n (member_left (setting.value name) i n h);
  exception = k.exception;
  typs = k.typs;
  counted_typs = k.counted_typs;
  counts = counts_uncalled setting k.counts;
  numbers = k.numbers;
  constraints = k.constraints;
  answer = k.answer;
  structs = k.structs;
}
