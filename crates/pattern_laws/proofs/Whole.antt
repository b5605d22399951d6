-- An identifier for a whole value holds that value: a name that no name behind it is too.
use Rattle.std.proofs.Common.{◌≡◌, ℕ, Bool, true, false, ◌||◌, List, [], ◌∷◌, ◌++◌, map, refl, sym, ap, ◌∙◌, subst, bytes_eq}
use Rattle.std.proofs.lemmas.Slice.Eq.{bytes_eq-Decides}
use Rattle.sail_core.specs.Making.{Making, World}
use Rattle.sail_core.specs.Patterns.{Matcher, named, pattern_meaning}
use Rattle.sail_core.specs.Run as R
use Rattle.sail_core.specs.Run.{Ended, Local, Now, gives, goes_on}
use Rattle.sail_core.specs.declared.patterns.Form.{Form}
use Rattle.sail_core.specs.declared.patterns.Form.TheVariants as F
use Rattle.sail_core.specs.declared.patterns.Head.{Head}
use Rattle.sail_core.specs.declared.patterns.Head.TheVariants as H
use Rattle.value_indices.specs.declared.indices.Naming.{Naming, Naming-F, out-Naming}
use Rattle.value_indices.specs.declared.indices.Naming.TheOpen as G
use Rattle.value_indices.specs.declared.indices.Naming.TheViews.{out-roll-Naming}
use Rattle.value_indices.specs.declared.indices.Naming.TheVariants as M
use Rattle.checked_meaning.specs.Items.{Item}
use Rattle.pattern_notes.specs.Patterns.{Look, form_naming, head_naming, or_named}
use Rattle.value_laws.proofs.Basics.{no}
use Rattle.pattern_laws.proofs.Points.{or_none}
use Rattle.pattern_laws.proofs.Steps.{Given}

-- a name that one of these is too
abbrev pub again : List ℕ → List (Local Item) → Bool
again name [] = false
again name (l ∷ ls) = bytes_eq l.name name || again name ls

abbrev pub NamesWhole : List ℕ → Item → List (Local Item) → Type 0
NamesWhole name x [] = Unit {0}
NamesWhole name x (l ∷ ls) = (bytes_eq l.name name ≡ true → again name ls ≡ false → l.held ≡ x) × NamesWhole name x ls

abbrev pub HoldsWhole : Naming-F Naming → Item → List (Local Item) → Type 0
HoldsWhole (G.Named name) x ls = NamesWhole name x ls
HoldsWhole form x ls = Unit {0}

abbrev pub GivesWhole : Naming-F Naming → Item → Ended Item (List (Local Item)) → Type 0
GivesWhole form x e = Given (HoldsWhole form x) e

-- ---- lists of names

again_both : (name : List ℕ) (ls ks : List (Local Item)) → again name (ls ++ ks) ≡ false → (again name ls ≡ false) × (again name ks ≡ false)
again_both name [] ks e = (refl, e)
again_both name (l ∷ ls) ks e =
    let k = or_none (bytes_eq l.name name) (again name (ls ++ ks)) e in
    let more = again_both name ls ks k.1 in
    (ap (λ a. a || again name ls) k.0 ∙ more.0, more.1)

-- a name more, for the value
whole_more : (name last : List ℕ) (x : Item) (ls : List (Local Item)) → NamesWhole name x ls → NamesWhole name x (ls ++ named last x)
whole_more name last x [] h = ((λ e k. refl), tt)
whole_more name last x (l ∷ ls) h = ((λ e k. h.0 e (again_both name ls (named last x) k).0), whole_more name last x ls h.1)

-- that name itself: those before it are there again
whole_last : (name : List ℕ) (x : Item) (ls : List (Local Item)) → NamesWhole name x (ls ++ named name x)
whole_last name x [] = ((λ e k. refl), tt)
whole_last name x (l ∷ ls) =
    ((λ e k. is_last (again_both name ls (named name x) k).1), whole_last name x ls)
  where
    is_last : again name (named name x) ≡ false → l.held ≡ x
    is_last k = no (sym (or_none (bytes_eq name name) false k).0 ∙ (bytes_eq-Decides name name).1 refl)

-- ---- forms

named_is : (name : List ℕ) → out-Naming (M.Named name) ≡ G.Named name
named_is name = ap out-Naming (sym (M.rolls-Named name)) ∙ out-roll-Naming (G.Named name)

unnamed_is : out-Naming M.Unnamed ≡ G.Unnamed
unnamed_is = ap out-Naming (sym M.rolls-Unnamed) ∙ out-roll-Naming G.Unnamed

parts_is : (ns : List Naming) → out-Naming (M.Parts ns) ≡ G.Parts ns
parts_is ns = ap out-Naming (sym (M.rolls-Parts ns)) ∙ out-roll-Naming (G.Parts ns)

-- no identifier
unnamed_gives : (x : Item) (e : Ended Item (List (Local Item))) → GivesWhole G.Unnamed x e
unnamed_gives x (R.Gives ls now) = tt
unnamed_gives x e = tt

parts_give : (ns : List Naming) (x : Item) (e : Ended Item (List (Local Item))) → GivesWhole (G.Parts ns) x e
parts_give ns x (R.Gives ls now) = tt
parts_give ns x e = tt

none_gives : (x : Item) (e : Ended Item (List (Local Item))) → GivesWhole (out-Naming M.Unnamed) x e
none_gives x e = subst (λ form. GivesWhole form x e) (sym unnamed_is) (unnamed_gives x e)

-- a name for the value of a pattern, behind the pattern's own
as_names : (name : List ℕ) (p : Naming) (form : Naming-F Naming) → out-Naming p ≡ form → (x : Item) (ls : List (Local Item))
    → HoldsWhole form x ls → HoldsWhole (out-Naming (or_named name p form)) x (ls ++ named name x)
as_names name p G.Unnamed e x ls h = subst (λ form. HoldsWhole form x (ls ++ named name x)) (sym (named_is name)) (whole_last name x ls)
as_names name p (G.Named own) e x ls h = subst (λ form. HoldsWhole form x (ls ++ named name x)) (sym e) (whole_more own name x ls h)
as_names name p (G.Parts ns) e x ls h = subst (λ form. HoldsWhole form x (ls ++ named name x)) (sym e) tt

as_gives : (name : List ℕ) (p : Naming) (x : Item) (e : Ended Item (List (Local Item))) → GivesWhole (out-Naming p) x e
    → GivesWhole (out-Naming (or_named name p (out-Naming p))) x (goes_on e (λ found. gives (found ++ named name x)))
as_gives name p x (R.Gives ls now) h = as_names name p (out-Naming p) refl x ls h
as_gives name p x (R.No now) h = tt
as_gives name p x (R.Returns v now) h = tt
as_gives name p x (R.Throws v now) h = tt
as_gives name p x (R.Stops cause now) h = tt
as_gives name p x R.Stuck h = tt

-- patterns that open a value
head_gives : (head : Head) (ps : List Look) (x : Item) (e : Ended Item (List (Local Item))) → GivesWhole (out-Naming (head_naming head ps)) x e
head_gives H.Tuple ps x e =
    let ns : List Naming = map (λ (p : Look). p.naming) ps in
    subst (λ form. GivesWhole form x e) (sym (parts_is ns)) (parts_give ns x e)
head_gives head ps x e = none_gives x e

-- one name alone
binds_give : (name : List ℕ) (x : Item) → HoldsWhole (out-Naming (M.Named name)) x (named name x)
binds_give name x = subst (λ form. HoldsWhole form x (named name x)) (sym (named_is name)) (whole_last name x [])

module _ (z : Making Item) (w : World Item) where
  -- each part is whole
  abbrev pub AllWhole : List Look → List (Matcher Item) → Type 0
  AllWhole (p ∷ ps) (m ∷ ms) = ((x : Item) (now : Now Item) → GivesWhole (out-Naming p.naming) x (m x now)) × AllWhole ps ms
  AllWhole [] [] = Unit {0}
  AllWhole ps ms = ⊥

  pub form_gives : (form : Form) (ps : List Look) (ms : List (Matcher Item)) → AllWhole ps ms → (x : Item) (now : Now Item)
      → GivesWhole (out-Naming (form_naming form ps)) x (pattern_meaning z w form ms x now)
  form_gives (F.Binds name) [] [] h x now = binds_give name x
  form_gives (F.As name) (p ∷ []) (m ∷ []) h x now = as_gives name p.naming x (m x now) (h.0 x now)
  form_gives (F.Typed written) (p ∷ []) (m ∷ []) h x now = h.0 x now
  form_gives (F.Opens head) ps ms h x now = head_gives head ps x (pattern_meaning z w (F.Opens head) ms x now)
  form_gives F.Any ps ms h x now = none_gives x (pattern_meaning z w F.Any ms x now)
  form_gives (F.Maps d) ps ms h x now = none_gives x (pattern_meaning z w (F.Maps d) ms x now)
  form_gives (F.Sees d) ps ms h x now = none_gives x (pattern_meaning z w (F.Sees d) ms x now)
  form_gives (F.Binds name) [] (m ∷ ms) h x now = absurd h
  form_gives (F.Binds name) (p ∷ ps) [] h x now = absurd h
  form_gives (F.Binds name) (p ∷ ps) (m ∷ ms) h x now = tt
  form_gives (F.As name) [] [] h x now = tt
  form_gives (F.As name) [] (m ∷ ms) h x now = absurd h
  form_gives (F.As name) (p ∷ ps) [] h x now = absurd h
  form_gives (F.As name) (p ∷ []) (m ∷ m2 ∷ ms) h x now = absurd h.1
  form_gives (F.As name) (p ∷ p2 ∷ ps) (m ∷ []) h x now = absurd h.1
  form_gives (F.As name) (p ∷ p2 ∷ ps) (m ∷ m2 ∷ ms) h x now = tt
  form_gives (F.Typed written) [] [] h x now = tt
  form_gives (F.Typed written) [] (m ∷ ms) h x now = absurd h
  form_gives (F.Typed written) (p ∷ ps) [] h x now = absurd h
  form_gives (F.Typed written) (p ∷ []) (m ∷ m2 ∷ ms) h x now = absurd h.1
  form_gives (F.Typed written) (p ∷ p2 ∷ ps) (m ∷ []) h x now = absurd h.1
  form_gives (F.Typed written) (p ∷ p2 ∷ ps) (m ∷ m2 ∷ ms) h x now = tt
