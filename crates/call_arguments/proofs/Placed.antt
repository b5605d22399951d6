-- What arguments owe, one behind another, and the variables whose places have been.
use Rattle.std.proofs.Common.{◌≡◌, ◌∙◌, ap, sym, refl, ℕ, zero, suc, ◌+◌, ◌<◌, min, Bool, true, false, if◌then◌else◌, List, [], ◌∷◌, length, drop, get_or, map}
use Rattle.std.proofs.Common.{append_assoc, arith}
use Rattle.sail_types.specs.declared.numbers.Index.{Index}
use Rattle.sail_types.specs.declared.types.Typ.{Typ}
use Rattle.value_indices.specs.declared.indices.Indices.{Indices}
use Rattle.value_indices.specs.declared.indices.Reading.{Reading}
use Rattle.sail_types.specs.Sums.{read}
use Rattle.sail_types.specs.declared.numbers.Num.{Num}
use Rattle.value_fits.specs.Fitting.{Fit, item_fits, joined, number_fits, says}
use Rattle.value_fits.specs.declared.fitted.Fitted.{Fitted}
use Rattle.value_fits.proofs.EachPair.{joined_nothing}
use Rattle.call_arguments.specs.Placing.{PlaceFit, Placing, also_placing, argument_fits, arguments_fit, each_placing, gives_number, number_placed, placing}
use Rattle.call_arguments.specs.Placing.{variable_in, vector_placed}
use Rattle.call_arguments.proofs.Lists.{rest_is, drop_none}

joined_assoc : (a b c : Fitted) → joined (joined a b) c ≡ joined a (joined b c)
unfolding joined
joined_assoc a b c = λ i. record {
  conditions = append_assoc a.conditions b.conditions c.conditions i;
  facts = append_assoc a.facts b.facts c.facts i;
  next = c.next;
}

-- nothing before
pub joined_first : (n : ℕ) (a : Fitted) → joined (says [] n) a ≡ a
unfolding joined
joined_first n a = refl

pub placing_begun : (known : List ℕ) (n : ℕ) (more : List ℕ → ℕ → Placing) → also_placing (placing known (says [] n)) more ≡ more known n
placing_begun known n more = ap (λ (a : Fitted). placing (more known n).placed a) (joined_first n (more known n).fitted)

pub first_placed : (known : List ℕ) (n : ℕ) (made : Fitted) (more : List ℕ → ℕ → Placing) → made ≡ says [] n
    → also_placing (placing known made) more ≡ more known n
first_placed known n made more is = ap (λ (a : Fitted). also_placing (placing known a) more) is ∙ placing_begun known n more

placing_assoc : (a : Placing) (f g : List ℕ → ℕ → Placing)
    → also_placing (also_placing a f) g ≡ also_placing a (λ known n. also_placing (f known n) g)
unfolding joined
placing_assoc a f g =
    let b = f a.placed a.fitted.next in
    ap (placing (g b.placed b.fitted.next).placed) (joined_assoc a.fitted b.fitted (g b.placed b.fitted.next).fitted)

-- nothing behind
pub placing_ended : (known : List ℕ) (made : Fitted) → also_placing (placing known made) (λ now n. placing now (says [] n)) ≡ placing known made
placing_ended known made = ap (placing known) (joined_nothing made)

-- one more
one_more : (b : Placing) (known now : List ℕ) (made more all : Fitted) (f : List ℕ → ℕ → Placing)
    → b ≡ f known made.next → more ≡ b.fitted → now ≡ b.placed → all ≡ joined made more → placing now all ≡ also_placing (placing known made) f
one_more b known now made more all f b_is more_is now_is all_is =
    (λ i. placing (now_is i) ((all_is ∙ ap (joined made) more_is) i))
    ∙ ap (λ (c : Placing). placing c.placed (joined made c.fitted)) b_is

-- the length of a vector, and its items
vector_step : (b : Bool) (n : ℕ) (length items : Fitted) → joined (if b then says [] n else length) items ≡ (if b then items else joined length items)
vector_step true n length items = joined_first n items
vector_step false n length items = refl

pub vector_is : (fit : Fit) (js : List Index) (l : Num) (q : Reading) (known : List ℕ) (k : Num) (r : Reading) (n : ℕ) (length items : Fitted)
    → length ≡ (number_placed js l known k n).fitted → items ≡ item_fits fit r q n
    → joined length items ≡ (vector_placed fit js l q known k r n).fitted
vector_is fit js l q known k r n length items length_is items_is =
    (λ i. joined (length_is i) (items_is i))
    ∙ vector_step (gives_number known (variable_in l)) n (says (number_fits k (read js l)) n) (item_fits fit r q n)

-- ---- the parts of a tuple

pub each_more : {A : Type 0} (f : A → PlaceFit) (xs : List A) (is : List Indices) (k : ℕ) (x : A) (i : Indices) (known now : List ℕ) (made more all : Fitted)
    → k < length xs → k < length is → x ≡ get_or xs k x → i ≡ get_or is k i
    → more ≡ (f x known i made.next).fitted → now ≡ (f x known i made.next).placed → all ≡ joined made more
    → also_placing (placing now all) (each_placing (map f (drop (k + 1) xs)) (drop (k + 1) is))
    ≡ also_placing (placing known made) (each_placing (map f (drop k xs)) (drop k is))
each_more f xs is k x i known now made more all below_xs below_is x_is i_is more_is now_is all_is =
    let rest : List ℕ → ℕ → Placing = each_placing (map f (drop (k + 1) xs)) (drop (k + 1) is) in
    let own : List ℕ → ℕ → Placing = λ known n. f x known i n in
    let last : also_placing (placing known made) (each_placing (map f (drop k xs)) (drop k is))
    ≡ also_placing (placing known made) (each_placing (map f (x ∷ drop (k + 1) xs)) (i ∷ drop (k + 1) is)) =
    λ j. also_placing (placing known made) (each_placing (map f (rest_is xs k x below_xs x_is j)) (rest_is is k i below_is i_is j)) in
    ap (λ (a : Placing). also_placing a rest) (one_more (f x known i made.next) known now made more all own refl more_is now_is all_is)
    ∙ placing_assoc (placing known made) own rest
    ∙ sym last

none_first : {A : Type 0} (f : A → PlaceFit) (k : ℕ) (is : List Indices) (known : List ℕ) (n : ℕ)
    → each_placing (map f (drop k [])) is known n ≡ placing known (says [] n)
none_first {A} f k is known n = λ i. each_placing (map f (drop_none A k i)) is known n

none_second : {A : Type 0} (f : A → PlaceFit) (x : A) (xs : List A) (k : ℕ) (known : List ℕ) (n : ℕ) → k ≡ 0
    → each_placing (map f (drop k (x ∷ xs))) (drop k []) known n ≡ placing known (says [] n)
none_second f x xs zero known n h = refl
none_second f x xs (suc k) known n h = absurd (omega (arith, h))

each_ended : {A : Type 0} (f : A → PlaceFit) (xs : List A) (is : List Indices) (k : ℕ) (known : List ℕ) (n : ℕ) → k ≡ min (length xs) (length is)
    → each_placing (map f (drop k xs)) (drop k is) known n ≡ placing known (says [] n)
each_ended f [] is k known n h = none_first f k (drop k is) known n
each_ended f (x ∷ xs) [] k known n h = none_second f x xs k known n (omega (arith, h))
each_ended f (x ∷ xs) (i ∷ is) zero known n h = absurd (omega (arith, h))
each_ended f (x ∷ xs) (i ∷ is) (suc k) known n h = each_ended f xs is k known n (omega (arith, h))

-- what was made of all
pub each_all : {A : Type 0} (f : A → PlaceFit) (xs : List A) (is : List Indices) (k : ℕ) (known : List ℕ) (made : Fitted) (all : Placing)
    → k ≡ min (length xs) (length is) → also_placing (placing known made) (each_placing (map f (drop k xs)) (drop k is)) ≡ all → placing known made ≡ all
each_all f xs is k known made all end total =
    sym (placing_ended known made)
    ∙ ap (λ (p : Placing). placing p.placed (joined made p.fitted)) (sym (each_ended f xs is k known made.next end))
    ∙ total

-- ---- arguments

module _ (fit : Fit) (js : List Index) (qs : List Reading) where
  abbrev args : List Bool → List Typ → List Indices → List ℕ → ℕ → Placing
  args = arguments_fit fit js qs

  abbrev one : Bool → Typ → PlaceFit
  one = argument_fits fit js qs

  pub arguments_more : (bs : List Bool) (ts : List Typ) (is : List Indices) (k : ℕ) (b : Bool) (t : Typ) (i : Indices) (known now : List ℕ)
      (made more all : Fitted) → k < length bs → k < length ts → k < length is → b ≡ get_or bs k b → t ≡ get_or ts k t → i ≡ get_or is k i
      → more ≡ (one b t known i made.next).fitted → now ≡ (one b t known i made.next).placed → all ≡ joined made more
      → also_placing (placing now all) (args (drop (k + 1) bs) (drop (k + 1) ts) (drop (k + 1) is))
      ≡ also_placing (placing known made) (args (drop k bs) (drop k ts) (drop k is))
  arguments_more bs ts is k b t i known now made more all below_bs below_ts below_is b_is t_is i_is more_is now_is all_is =
      let rest : List ℕ → ℕ → Placing = args (drop (k + 1) bs) (drop (k + 1) ts) (drop (k + 1) is) in
      let own : List ℕ → ℕ → Placing = λ known n. one b t known i n in
      let last : also_placing (placing known made) (args (drop k bs) (drop k ts) (drop k is))
      ≡ also_placing (placing known made) (args (b ∷ drop (k + 1) bs) (t ∷ drop (k + 1) ts) (i ∷ drop (k + 1) is)) =
      λ j. also_placing (placing known made)
      (args (rest_is bs k b below_bs b_is j) (rest_is ts k t below_ts t_is j) (rest_is is k i below_is i_is j)) in
      ap (λ (a : Placing). also_placing a rest) (one_more (one b t known i made.next) known now made more all own refl more_is now_is all_is)
      ∙ placing_assoc (placing known made) own rest
      ∙ sym last

  no_flag : (k : ℕ) (ts : List Typ) (is : List Indices) (known : List ℕ) (n : ℕ) → args (drop k []) ts is known n ≡ placing known (says [] n)
  no_flag k ts is known n = λ i. args (drop_none Bool k i) ts is known n

  no_typ : (b : Bool) (bs : List Bool) (k : ℕ) (is : List Indices) (known : List ℕ) (n : ℕ) → k ≡ 0
      → args (drop k (b ∷ bs)) (drop k []) is known n ≡ placing known (says [] n)
  no_typ b bs zero is known n h = refl
  no_typ b bs (suc k) is known n h = absurd (omega (arith, h))

  no_argument : (b : Bool) (bs : List Bool) (t : Typ) (ts : List Typ) (k : ℕ) (known : List ℕ) (n : ℕ) → k ≡ 0
      → args (drop k (b ∷ bs)) (drop k (t ∷ ts)) (drop k []) known n ≡ placing known (says [] n)
  no_argument b bs t ts zero known n h = refl
  no_argument b bs t ts (suc k) known n h = absurd (omega (arith, h))

  arguments_ended : (bs : List Bool) (ts : List Typ) (is : List Indices) (k : ℕ) (known : List ℕ) (n : ℕ)
      → k ≡ min (length bs) (min (length ts) (length is)) → args (drop k bs) (drop k ts) (drop k is) known n ≡ placing known (says [] n)
  arguments_ended [] ts is k known n h = no_flag k (drop k ts) (drop k is) known n
  arguments_ended (b ∷ bs) [] is k known n h = no_typ b bs k (drop k is) known n (omega (arith, h))
  arguments_ended (b ∷ bs) (t ∷ ts) [] k known n h = no_argument b bs t ts k known n (omega (arith, h))
  arguments_ended (b ∷ bs) (t ∷ ts) (i ∷ is) zero known n h = absurd (omega (arith, h))
  arguments_ended (b ∷ bs) (t ∷ ts) (i ∷ is) (suc k) known n h = arguments_ended bs ts is k known n (omega (arith, h))

  pub arguments_all : (bs : List Bool) (ts : List Typ) (is : List Indices) (k : ℕ) (known : List ℕ) (made : Fitted) (all : Placing)
      → k ≡ min (length bs) (min (length ts) (length is))
      → also_placing (placing known made) (args (drop k bs) (drop k ts) (drop k is)) ≡ all → placing known made ≡ all
  arguments_all bs ts is k known made all end total =
      sym (placing_ended known made)
      ∙ ap (λ (p : Placing). placing p.placed (joined made p.fitted)) (sym (arguments_ended bs ts is k known made.next end))
      ∙ total
