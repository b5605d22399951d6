-- Truths that hold together, in other orders.
use Rattle.std.proofs.Common.{◌≡◌, Bool, true, false, refl, sym}
use Rattle.std.specs.Prelude.{◌&&◌}

no : false ≡ true → ⊥
no h = cc

pub leaf : (x : Bool) → (x) ≡ (true && (x && true))
leaf true = refl
leaf false = refl

pub swapped : (a p : Bool) → (a && p) ≡ (p && a)
swapped true true = refl
swapped true false = refl
swapped false true = refl
swapped false false = refl

pub freed : (n a p : Bool) → (n && (a && p)) ≡ ((n && p) && a)
freed true true true = refl
freed true true false = refl
freed true false true = refl
freed true false false = refl
freed false a p = refl

pub one_part : (a p : Bool) → (a && p) ≡ (p && (a && true))
one_part true true = refl
one_part true false = refl
one_part false true = refl
one_part false false = refl

pub only_part : (a : Bool) → (a) ≡ (a && true)
only_part true = refl
only_part false = refl

pub two_parts : (a b : Bool) → (a && b) ≡ (a && (b && true))
two_parts true true = refl
two_parts true false = refl
two_parts false b = refl

pub three_free : (n a b c : Bool) → (n && (a && (b && c))) ≡ (n && (a && (b && (c && true))))
three_free true true true true = refl
three_free true true true false = refl
three_free true true false c = refl
three_free true false b c = refl
three_free false a b c = refl

pub both_branches : (c a b m : Bool) → (c && (a && (b && m))) ≡ (m && (c && (a && (b && true))))
both_branches true true true true = refl
both_branches true true true false = refl
both_branches true true false true = refl
both_branches true true false false = refl
both_branches true false b true = refl
both_branches true false b false = refl
both_branches false a b true = refl
both_branches false a b false = refl

pub bound : (a e b : Bool) → (a && (e && b)) ≡ (e && (a && (b && true)))
bound true true true = refl
bound true true false = refl
bound true false b = refl
bound false true b = refl
bound false false b = refl

pub fielded : (c f w r : Bool) → (c && ((f && w) && r)) ≡ ((f && (c && w)) && r)
fielded true f w r = refl
fielded false true w r = refl
fielded false false w r = refl

pub itemed : (a c f w r : Bool) → (a && (c && ((f && w) && r))) ≡ ((f && (c && w)) && (a && r))
itemed true true f w r = refl
itemed true false true w r = refl
itemed true false false w r = refl
itemed false true true true r = refl
itemed false true true false r = refl
itemed false false true w r = refl
itemed false c false w r = refl

pub sliced : (a b c f w r : Bool) → (a && (b && (c && ((f && w) && r)))) ≡ ((f && (c && w)) && (a && (b && r)))
sliced true true true f w r = refl
sliced true true false true w r = refl
sliced true true false false w r = refl
sliced true false true true true r = refl
sliced true false true true false r = refl
sliced true false false true w r = refl
sliced true false c false w r = refl
sliced false b true true true r = refl
sliced false b true true false r = refl
sliced false b false true w r = refl
sliced false b c false w r = refl

pub grouped : (n s r : Bool) → (n && (s && r)) ≡ ((n && s) && r)
grouped true s r = refl
grouped false s r = refl

pub whole_part : (a q : Bool) → (a && q) ≡ ((true && q) && (a && true))
whole_part true true = refl
whole_part true false = refl
whole_part false true = refl
whole_part false false = refl

pub applied : (n d a m : Bool) → (n && (d && (a && m))) ≡ ((n && (d && m)) && (a && true))
applied true true true true = refl
applied true true true false = refl
applied true true false true = refl
applied true true false false = refl
applied true false a m = refl
applied false d a m = refl

pub matched : (a e f r m : Bool) → (a && (((e && f) && r) && m)) ≡ ((e && (f && m)) && (a && r))
matched true true true true true = refl
matched true true true true false = refl
matched true true true false true = refl
matched true true true false false = refl
matched true true false r m = refl
matched true false f r m = refl
matched false true true r true = refl
matched false true true r false = refl
matched false true false r m = refl
matched false false f r m = refl

pub caught : (a c t e f r m : Bool) → (a && (c && (t && (((e && f) && r) && m)))) ≡ ((e && ((c && t) && (f && m))) && (a && r))
caught true true true true true true true = refl
caught true true true true true true false = refl
caught true true true true true false true = refl
caught true true true true true false false = refl
caught true true true true false r m = refl
caught true true true false f r m = refl
caught true true false true f r m = refl
caught true true false false f r m = refl
caught true false t true f r m = refl
caught true false t false f r m = refl
caught false true true true true r true = refl
caught false true true true true r false = refl
caught false true true true false r m = refl
caught false true false true f r m = refl
caught false false t true f r m = refl
caught false c t false f r m = refl

pub arm_more : (f b e g r : Bool) → (f && (b && ((e && g) && r))) ≡ ((e && (f && g)) && (b && r))
arm_more true true e g r = refl
arm_more true false true true r = refl
arm_more true false true false r = refl
arm_more true false false g r = refl
arm_more false b true g r = refl
arm_more false b false g r = refl

pub three : (a b c : Bool) → ((a && b) && c) ≡ (a && (b && c))
three true b c = refl
three false b c = refl

pub four : (a b c d : Bool) → (((a && b) && c) && d) ≡ (a && (b && (c && d)))
four true true c d = refl
four true false c d = refl
four false b c d = refl

-- ---- tests, one after the other

pub two_then : (a b d : Bool) → (a && b) ≡ true → d ≡ (a && (b && d))
two_then true true d h = refl
two_then true false d h = absurd (no h)
two_then false b d h = absurd (no h)

pub two_not : (a b d : Bool) → (a && b) ≡ false → false ≡ (a && (b && d))
two_not true true d h = absurd (no (sym h))
two_not true false d h = refl
two_not false b d h = refl

pub three_then : (a b c d : Bool) → ((a && b) && c) ≡ true → d ≡ (a && (b && (c && d)))
three_then true true true d h = refl
three_then true true false d h = absurd (no h)
three_then true false c d h = absurd (no h)
three_then false b c d h = absurd (no h)

pub three_not : (a b c d : Bool) → ((a && b) && c) ≡ false → false ≡ (a && (b && (c && d)))
three_not true true true d h = absurd (no (sym h))
three_not true true false d h = refl
three_not true false c d h = refl
three_not false b c d h = refl

-- ---- as rules

pub ruleset chains = (two_then, two_not, three_then, three_not)
