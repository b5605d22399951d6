-- What several takes, and several puts, make of a whole file and a whole piece.
use Rattle.std.proofs.Common.{◌≡◌, ℕ, ◌+◌, ◌-◌, Option, Some, None}
use Rattle.std.proofs.Common.{List, ◌++◌, length, take, drop, append_assoc}
use Rattle.std.proofs.Common.{arith, sym, ◌∙◌, ap, subst}
use Rattle.std.proofs.lemmas.List.{length-append, take_rest}
use Rattle.std.proofs.Math.Seq.{take-add, drop-append-add}
use Rattle.sail_outside.specs.Bytes.{Takes, TookPast, Sent}

-- the bytes so far and those that are left are those at the start, if told
abbrev pub Going : Option (List ℕ) → List ℕ → Option (List ℕ) → Type 0
Going None bytes now = Unit {0}
Going (Some start) bytes now = (rest : List ℕ) × (now ≡ Some rest) × (start ≡ bytes ++ rest)

-- a take from what is told to be left
takes_from :
    (rest : List ℕ) (mid now : Option (List ℕ)) (n : ℕ) (buffer : List ℕ)
    → mid ≡ Some rest → Takes mid now n buffer → Takes (Some rest) now n buffer
takes_from rest mid now n buffer e t =
    subst (λ (m : Option (List ℕ)). Takes m now n buffer) e t

-- the take that passed the limit by one byte
pub going_past :
    (start mid now : Option (List ℕ)) (bytes buffer : List ℕ) (n limit : ℕ)
    → length bytes + n ≡ limit + 1
    → Going start bytes mid → Takes mid now n buffer → TookPast start limit now
going_past None mid now bytes buffer n limit all g t = tt
going_past (Some xs) mid now bytes buffer n limit all g t =
    let u : Takes (Some g.0) now n buffer = takes_from g.0 mid now n buffer g.1 t in
    let whole : length xs ≡ length bytes + length g.0 = ap length g.2 ∙ length-append bytes g.0 in
    let cut : drop (limit + 1) xs ≡ drop n g.0 =
    ap (λ k. drop k xs) (sym all)
    ∙ (ap (λ zs. drop (length bytes + n) zs) g.2 ∙ drop-append-add bytes g.0 n) in
    (omega (arith, u.0), u.2 ∙ ap Some (sym cut))

-- one more put, of what is behind the first s bytes
pub sent_on :
    (start mid now : Option (List ℕ)) (piece : List ℕ) (s n : ℕ)
    → Sent start (take s piece) mid
    → Sent mid (take n (take (length piece - s) (drop s piece))) now
    → Sent start (take (s + n) piece) now
sent_on None mid now piece s n a b = tt
sent_on (Some xs) mid now piece s n a b =
    let put : List ℕ = take n (take (length piece - s) (drop s piece)) in
    let u : now ≡ Some ((xs ++ take s piece) ++ put) =
    subst (λ (m : Option (List ℕ)). Sent m put now) a b in
    let behind : take s piece ++ put ≡ take (s + n) piece =
    ap (λ zs. take s piece ++ take n zs) (take_rest piece s) ∙ sym (take-add s n piece) in
    u ∙ ap Some (append_assoc xs (take s piece) put ∙ ap (λ zs. xs ++ zs) behind)
