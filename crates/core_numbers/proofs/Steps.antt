-- One more behind others that have their numbers.
use Rattle.std.proofs.Common.{◌≡◌, ℕ, List, [], ◌∷◌, ◌++◌, map, refl, ap, sym, ◌∙◌}
use Rattle.core_numbers.specs.Numbers.{Numbered, Numbering, each_numbered, then_made}

-- what is numbered, with one more behind it
abbrev pub behind : {A : Type 0} → Numbered (List A) → Numbering A → Numbered (List A)
behind done f = record { it = done.it ++ (f done.next).it ∷ []; next = (f done.next).next }

pub each_behind : {A B : Type 0} (f : A → Numbering B) (xs : List A) (x : A) (n : ℕ)
    → each_numbered (map f (xs ++ x ∷ [])) n ≡ behind (each_numbered (map f xs) n) (f x)
each_behind f [] x n = refl
each_behind f (y ∷ ys) x n = ap (λ r. then_made (λ rest. (f y n).it ∷ rest) r) (each_behind f ys x (f y n).next)

pub made_behind : {A B : Type 0} (f : A → Numbering B) (xs : List A) (x : A) (n : ℕ) (made pushed : List B) (next : ℕ) (one : B)
    → made ≡ (each_numbered (map f xs) n).it → next ≡ (each_numbered (map f xs) n).next → one ≡ (f x next).it → pushed ≡ made ++ one ∷ []
    → pushed ≡ (each_numbered (map f (xs ++ x ∷ [])) n).it
made_behind f xs x n made pushed next one is after one_is push =
    push ∙ (λ i. is i ++ (one_is ∙ ap (λ k. (f x k).it) after) i ∷ []) ∙ ap (λ r. r.it) (sym (each_behind f xs x n))

pub next_behind : {A B : Type 0} (f : A → Numbering B) (xs : List A) (x : A) (n next later : ℕ)
    → next ≡ (each_numbered (map f xs) n).next → later ≡ (f x next).next
    → later ≡ (each_numbered (map f (xs ++ x ∷ [])) n).next
next_behind f xs x n next later after is = is ∙ ap (λ k. (f x k).next) after ∙ ap (λ r. r.next) (sym (each_behind f xs x n))
