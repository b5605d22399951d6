-- What every run that words ask for keeps to.
use Rattle.std.proofs.Common.{◌≡◌, ℕ, zero, suc, ◌+◌, ◌-◌, ◌<◌, ◌≤◌, ◌^◌, Bool, true, false, not, ◌&&◌, ◌==◌, nat_le, nat_lt}
use Rattle.std.proofs.Common.{All, List, [], ◌∷◌, length, map, take, get_or, Option, Some, None, Result, Ok, Err, IfOk, refl, subst, arith, codes}
use Rattle.std.proofs.Common.{if◌then◌else◌, option_and_then, option_map, length-take}
use Rattle.std.proofs.lemmas.Bool.{and_parts, not-true, eqb-false}
use Rattle.std.proofs.lemmas.List.{length-map, get_or-take}
use Rattle.std.proofs.lemmas.List.Elements.{All-nil, All-cons}
use Rattle.std.specs.List.{list_all}
use Rattle.std.specs.Option.{option_map_or}
use Rattle.std.specs.Str.{bytes_eq}
use Rattle.std.specs.Str.Parse.{digits_value}
use borrow.Author.Tests.{leb-true, ltb-true}
use Rattle.clap.specs.Words.{Row, first_of, all_of}
use Rattle.sail_words.specs.declared.numbers.Numbers.{Numbers}
use Rattle.sail_words.specs.declared.run.Run.{Run}
use Rattle.sail_words.specs.declared.synth.Synth.{Synth}
use Rattle.sail_words.specs.Numbers.{is_numeral, number_in, names_hart, order_in, all_harts}
use Rattle.sail_words.specs.declared.command.Command.{Command}
use Rattle.sail_words.specs.declared.command.Command.TheVariants as C
use Rattle.sail_words.specs.Line.{number_of, given_number, numbers_of, order_of, run_of, few_models, models_of, synth_of, command_of}
use Rattle.sail_words.specs.Line.{IsWithinLimits, AreFew, IsSized, IsAllowed}

-- what there is was made of something that is there
some_of : {A B : Type 0} (o : Option A) (f : A → Option B) (b : B)
    → option_and_then f o ≡ Some b → (a : A) × (o ≡ Some a) × (f a ≡ Some b)
some_of None f b e = cc
some_of (Some a) f b e = (a, refl, e)

-- what stands under a test passed it
then_some : {A : Type 0} (b : Bool) (x y : A) → (if b then Some x else None) ≡ Some y → (b ≡ true) × (x ≡ y)
then_some true x y e = (refl, cc)
then_some false x y e = cc

number_in-within : (least most n : ℕ) (word : List ℕ) → number_in least most word ≡ Some n → (least ≤ n) × (n ≤ most)
number_in-within least most n word e =
    let v = digits_value 10 word in
    let t = then_some (is_numeral word && (nat_le least v && nat_le v most)) v n e in
    let p = and_parts (nat_le least v) (nat_le v most) (and_parts (is_numeral word) (nat_le least v && nat_le v most) t.0).1 in
    (omega (arith, leb-true least v p.0, t.1), omega (arith, leb-true v most p.1, t.1))

number_of-within : (name : List ℕ) (default least most n : ℕ) (rows : List Row) → least ≤ default → default ≤ most
    → number_of name default least most rows ≡ Some n → (least ≤ n) × (n ≤ most)
number_of-within name default least most n rows low high = go (first_of name rows)
  where
    go : (o : Option (List ℕ)) → option_map_or (number_in least most) o (Some default) ≡ Some n → (least ≤ n) × (n ≤ most)
    go None e = let same : default ≡ n = cc in (omega arith, omega arith)
    go (Some word) e = number_in-within least most n word e

numbers_of-within : (rows : List Row) (n : Numbers) → numbers_of rows ≡ Some n
    → ((1 ≤ n.harts) × (n.harts ≤ 8)) × ((1 ≤ n.ram_size) × (n.ram_size ≤ 67108864))
numbers_of-within rows n e =
    let s = some_of (number_of (codes "steps") 1000 0 4294967295 rows) _ n e in
    let h = some_of (number_of (codes "harts") 1 1 8 rows) _ n s.2 in
    let b = some_of (number_of (codes "ram-base") 2147483648 0 18446744073709551615 rows) _ n h.2 in
    let z = some_of (number_of (codes "ram-size") 1048576 1 67108864 rows) _ n b.2 in
    let same : record { steps = s.0; harts = h.0; ram_base = b.0; ram_size = z.0 } ≡ n = cc in
    let P : Numbers → Type 0 = λ m. ((1 ≤ m.harts) × (m.harts ≤ 8)) × ((1 ≤ m.ram_size) × (m.ram_size ≤ 67108864)) in
    subst P same (
      number_of-within (codes "harts") 1 1 8 h.0 rows (omega arith) (omega arith) h.1,
      number_of-within (codes "ram-size") 1048576 1 67108864 z.0 rows (omega arith) (omega arith) z.1,
    )

named-harts : (harts : ℕ) (word : List ℕ) → list_all (names_hart harts) word ≡ true
    → All (λ hart. hart < harts) (map (λ byte. byte - 48) word)
named-harts harts [] p = All-nil (λ hart. hart < harts)
named-harts harts (byte ∷ word) p =
    let t = and_parts (names_hart harts byte) (list_all (names_hart harts) word) p in
    let u = and_parts (nat_le 48 byte) (nat_lt byte (48 + harts)) t.0 in
    let below : byte - 48 < harts = omega (arith, leb-true 48 byte u.0, ltb-true byte (48 + harts) u.1) in
    All-cons (λ hart. hart < harts) (byte - 48) (map (λ b. b - 48) word) below (named-harts harts word t.1)

-- the eight harts
eight : (k d : ℕ) → k < 8 → get_or (0 ∷ 1 ∷ 2 ∷ 3 ∷ 4 ∷ 5 ∷ 6 ∷ 7 ∷ []) k d ≡ k
eight zero d h = refl
eight (suc zero) d h = refl
eight (suc (suc zero)) d h = refl
eight (suc (suc (suc zero))) d h = refl
eight (suc (suc (suc (suc zero)))) d h = refl
eight (suc (suc (suc (suc (suc zero))))) d h = refl
eight (suc (suc (suc (suc (suc (suc zero)))))) d h = refl
eight (suc (suc (suc (suc (suc (suc (suc zero))))))) d h = refl
eight (suc (suc (suc (suc (suc (suc (suc (suc k)))))))) d h = absurd (omega arith)

all_harts-within : (harts : ℕ) → 1 ≤ harts → harts ≤ 8
    → (0 < length (all_harts harts)) × All (λ hart. hart < harts) (all_harts harts)
all_harts-within harts low high =
    let list : List ℕ = 0 ∷ 1 ∷ 2 ∷ 3 ∷ 4 ∷ 5 ∷ 6 ∷ 7 ∷ [] in
    let long : length (take harts list) ≡ harts = omega (arith, length-take harts list) in
    (omega arith, λ k d lt. rw (get_or-take harts list k d (omega arith), eight k d (omega arith)) (omega arith))

order_of-within : (harts : ℕ) (order : List ℕ) (rows : List Row) → 1 ≤ harts → harts ≤ 8 → order_of harts rows ≡ Some order
    → (0 < length order) × All (λ hart. hart < harts) order
order_of-within harts order rows low high = go (first_of (codes "order") rows)
  where
    P : List ℕ → Type 0
    P xs = (0 < length xs) × All (λ hart. hart < harts) xs

    go : (o : Option (List ℕ)) → option_map_or (order_in harts) o (Some (all_harts harts)) ≡ Some order → P order
    go None e = let same : all_harts harts ≡ order = cc in subst P same (all_harts-within harts low high)
    go (Some word) e =
        let t = then_some (not (length word == 0) && list_all (names_hart harts) word) (map (λ byte. byte - 48) word) order e in
        let u = and_parts (not (length word == 0)) (list_all (names_hart harts) word) t.0 in
        let some : 0 < length word = omega (arith, eqb-false (length word) 0 (not-true (length word == 0) u.0)) in
        subst P t.1 (omega (arith, length-map word (λ byte. byte - 48)), named-harts harts word u.1)

run_of-within : (rows : List Row) (run : Run) → run_of rows ≡ Some run → AreFew run.models × IsWithinLimits run.setup
run_of-within rows run e =
    let f = some_of (first_of (codes "elf") rows) _ run e in
    let m = some_of (all_of (codes "model") rows) _ run f.2 in
    let n = some_of (numbers_of rows) _ run m.2 in
    let o = some_of (order_of n.0.harts rows) _ run n.2 in
    let numbers = numbers_of-within rows n.0 n.1 in
    let order = order_of-within n.0.harts o.0 rows numbers.0.0 numbers.0.1 o.1 in
    let made : Run = record {
      elf = f.0;
      models = m.0;
      setup = record {
        steps = n.0.steps;
        harts = n.0.harts;
        order = o.0;
        ram_base = n.0.ram_base;
        ram_size = n.0.ram_size;
      };
    } in
    let few = nat_le (length made.models) 64 in
    let space = nat_le (made.setup.ram_base + made.setup.ram_size) (2 ^ 64) in
    let t = then_some (nat_le 1 (length made.models) && (few && space)) made run o.2 in
    let u = and_parts (nat_le 1 (length made.models)) (few && space) t.0 in
    let v = and_parts few space u.1 in
    let P : Run → Type 0 = λ r. AreFew r.models × IsWithinLimits r.setup in
    subst P t.1 (
      (leb-true 1 (length made.models) u.0, leb-true (length made.models) 64 v.0),
      record {
        harts = numbers.0;
        order = order;
        size = numbers.1;
        space = leb-true (made.setup.ram_base + made.setup.ram_size) (2 ^ 64) v.1;
      },
    )

-- what was mapped was there
mapped : {A B : Type 0} (f : A → B) (o : Option A) (b : B) → option_map f o ≡ Some b → (a : A) × (o ≡ Some a) × (f a ≡ b)
mapped f None b e = cc
mapped f (Some a) b e = (a, refl, cc)

models_of-within : (rows : List Row) (models : List (List ℕ)) → models_of rows ≡ Some models → AreFew models
models_of-within rows models e =
    let m = some_of (all_of (codes "model") rows) few_models models e in
    let t = then_some (nat_le 1 (length m.0) && nat_le (length m.0) 64) m.0 models m.2 in
    let u = and_parts (nat_le 1 (length m.0)) (nat_le (length m.0) 64) t.0 in
    subst AreFew t.1 (leb-true 1 (length m.0) u.0, leb-true (length m.0) 64 u.1)

given_number-within : (name : List ℕ) (least most n : ℕ) (rows : List Row) → given_number name least most rows ≡ Some n
    → (least ≤ n) × (n ≤ most)
given_number-within name least most n rows e =
    let w = some_of (first_of name rows) (number_in least most) n e in number_in-within least most n w.0 w.2

synth_of-within : (rows : List Row) (synth : Synth) → synth_of rows ≡ Some synth → IsSized synth
synth_of-within rows synth e =
    let s = some_of (given_number (codes "seed") 0 65535 rows) _ synth e in
    let z = some_of (given_number (codes "size") 1 4000 rows) _ synth s.2 in
    let made : Synth = record { seed = s.0; size = z.0 } in
    let same : made ≡ synth = cc in
    subst IsSized same (record {
      seed = (given_number-within (codes "seed") 0 65535 s.0 rows s.1).1;
      size = given_number-within (codes "size") 1 4000 z.0 rows z.1;
    })

command_by : (rows : List Row) (command : Command) (run check certs synth : Bool) →
    (if run then option_map C.Run (run_of rows) else if check then option_map C.Check (models_of rows)
    else if certs then option_map C.Certs (models_of rows) else if synth then option_map C.Synth (synth_of rows) else None) ≡ Some command
    → IsAllowed command
command_by rows command true check certs synth e =
    let m = mapped C.Run (run_of rows) command e in subst IsAllowed m.2 (run_of-within rows m.0 m.1)
command_by rows command false true certs synth e =
    let m = mapped C.Check (models_of rows) command e in subst IsAllowed m.2 (models_of-within rows m.0 m.1)
command_by rows command false false true synth e =
    let m = mapped C.Certs (models_of rows) command e in subst IsAllowed m.2 (models_of-within rows m.0 m.1)
command_by rows command false false false true e =
    let m = mapped C.Synth (synth_of rows) command e in subst IsAllowed m.2 (synth_of-within rows m.0 m.1)
command_by rows command false false false false e = cc

-- what is read of the values keeps to the limits
pub IfOk-allowed : {E : Type 0} (name : List ℕ) (rows : List Row) (r : Result Command E) → IfOk r (λ command. command_of name rows ≡ Some command)
    → IfOk r IsAllowed
IfOk-allowed name rows (Ok command) e =
    command_by rows command (bytes_eq name (codes "run")) (bytes_eq name (codes "check")) (bytes_eq name (codes "certs"))
    (bytes_eq name (codes "synth")) e
IfOk-allowed name rows (Err e) u = tt
