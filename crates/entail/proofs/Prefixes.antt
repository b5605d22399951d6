-- Prefixes that are put on and taken away.
use Rattle.std.proofs.Common.{◌≡◌, ℕ, zero, suc, ◌+◌, ◌-◌, ◌<◌, Option, Some, None, List, [], ◌∷◌, ◌++◌, length, take, get_or}
use Rattle.std.proofs.Common.{sym, ap, ◌∙◌, subst, arith, length-append}
use Rattle.std.specs.Option.{MatchOption}
use Rattle.std.proofs.lemmas.List.{append_assoc, append-nil, map-append, length-map}
use Rattle.std.proofs.Math.Seq.{take-append_seam}
use Rattle.sail_types.specs.declared.numbers.Con.{Con}
use Rattle.entail.specs.declared.level.Prefix.{Prefix}
use Rattle.entail.specs.Levels.{level_of, facts_of, AreKept}

pub facts_more : (ps : List Prefix) (p : Prefix) → facts_of (ps ++ p ∷ []) ≡ facts_of ps ++ p.fact ∷ []
facts_more ps p = map-append (λ (q : Prefix). q.fact) ps (p ∷ [])

moved : (before : List Con) (q : Prefix) (qs : List Prefix) → before ++ q.fact ∷ facts_of qs ≡ (before ++ q.fact ∷ []) ++ facts_of qs
moved before q qs = sym (append_assoc before (q.fact ∷ []) (facts_of qs))

kept_push : (before : List Con) (ps : List Prefix) (p : Prefix) → AreKept before ps →
    p.level ≡ level_of ((before ++ facts_of ps) ++ p.fact ∷ []) → AreKept before (ps ++ p ∷ [])
kept_push before [] p h e = (e ∙ ap (λ facts. level_of (facts ++ p.fact ∷ [])) (append-nil before), tt)
kept_push before (q ∷ ps) p h e = (h.0, kept_push (before ++ q.fact ∷ []) ps p h.1 (e ∙ ap (λ facts. level_of (facts ++ p.fact ∷ [])) (moved before q ps)))

kept_pop : (before : List Con) (ps : List Prefix) (p : Prefix) → AreKept before (ps ++ p ∷ []) → AreKept before ps
kept_pop before [] p h = tt
kept_pop before (q ∷ ps) p h = (h.0, kept_pop (before ++ q.fact ∷ []) ps p h.1)

kept_at : (before : List Con) (ps : List Prefix) (i : ℕ) (p : Prefix) → i + 1 ≡ length ps → p ≡ get_or ps i p → AreKept before ps →
    p.level ≡ level_of (before ++ facts_of ps)
kept_at before [] i p e read h = absurd (omega arith)
kept_at before (q ∷ []) zero p e read h = ap (λ (r : Prefix). r.level) read ∙ h.0
kept_at before (q ∷ []) (suc i) p e read h = absurd (omega arith)
kept_at before (q ∷ r ∷ rs) zero p e read h = absurd (omega arith)
kept_at before (q ∷ r ∷ rs) (suc i) p e read h =
    kept_at (before ++ q.fact ∷ []) (r ∷ rs) i p (omega arith) read h.1 ∙ ap level_of (sym (moved before q (r ∷ rs)))

-- one more prefix
pub pushed_kept : (ps more : List Prefix) (p : Prefix) → more ≡ ps ++ p ∷ [] → AreKept [] ps → p.level ≡ level_of (facts_of ps ++ p.fact ∷ []) → AreKept [] more
pushed_kept ps more p e h k = subst (AreKept []) (sym e) (kept_push [] ps p h k)

pub pushed_facts : (ps more : List Prefix) (p : Prefix) → more ≡ ps ++ p ∷ [] → facts_of more ≡ facts_of ps ++ p.fact ∷ []
pushed_facts ps more p e = ap facts_of e ∙ facts_more ps p

-- one less
pub last_taken : (o : Option Prefix) (old new : List Prefix) → 0 < length old →
    MatchOption o ((old ≡ []) × (new ≡ [])) (λ (last : Prefix). old ≡ new ++ last ∷ []) → (last : Prefix) × (old ≡ new ++ last ∷ [])
last_taken None old new some h = let e : length old ≡ 0 = ap length h.0 in absurd (omega arith)
last_taken (Some last) old new some h = (last, h)

pub popped_kept : (old new : List Prefix) (last : Prefix) → old ≡ new ++ last ∷ [] → AreKept [] old → AreKept [] new
popped_kept old new last e h = kept_pop [] new last (subst (AreKept []) e h)

pub all_but_last : {A : Type 0} (old new : List A) (last : A) → old ≡ new ++ last ∷ [] → new ≡ take (length old - 1) old
all_but_last old new last e =
    let long : length old ≡ length new + 1 = ap length e ∙ length-append new (last ∷ []) in
    let less : length new ≡ length old - 1 = omega arith in
    sym (take-append_seam new (last ∷ [])) ∙ ((λ j. take (less j) (sym e j)))

pub popped_facts : (old new : List Prefix) (last : Prefix) → old ≡ new ++ last ∷ [] → facts_of new ≡ take (length (facts_of old) - 1) (facts_of old)
popped_facts old new last e = all_but_last (facts_of old) (facts_of new) last.fact (ap facts_of e ∙ facts_more new last)

-- what is kept of all
pub kept_last : (ps : List Prefix) (i : ℕ) (p : Prefix) → i + 1 ≡ length ps → p ≡ get_or ps i p → AreKept [] ps → p.level ≡ level_of (facts_of ps)
kept_last ps i p e read h = kept_at [] ps i p e read h

pub some_prefix : (ps : List Prefix) (facts : List Con) → facts_of ps ≡ facts → 0 < length facts → 0 < length ps
some_prefix ps facts e h = let n : length facts ≡ length ps = ap length (sym e) ∙ length-map ps (λ (q : Prefix). q.fact) in omega arith
