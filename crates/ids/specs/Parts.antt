-- What the internal functions do to the array itself.
use Rattle.std.specs.Prelude.{ℕ, suc, ◌+◌, ◌≤◌, ◌<◌, ◌≡◌, List, [], length, get_or}
use Rattle.string_order.specs.Order.{ordering}
use Rattle.std.specs.declared.cmp.Ordering.TheVariants.{Less}
use Rattle.ids.specs.Layout.{main_number, buffered, ahead, buffer_size, number_in}
use Rattle.ids.specs.declared.Place.{Place}
use Rattle.ids.specs.declared.Place.TheVariants.{Seen, Free}

-- the string whose number stands at the place i of the array
abbrev pub text_in : List (List ℕ) → List ℕ → ℕ → List ℕ
text_in ts od i = get_or ts (get_or od i 0) []

-- the strings whose numbers stand from the place a up to e are in order
pub record Run (ts : List (List ℕ)) (od : List ℕ) (a e : ℕ) : Type 0 where
  pub room : e ≤ length od
  pub order : a ≤ e
  pub inside : e ≤ 8449
  pub known : (i : ℕ) → a ≤ i → i < e → get_or od i 0 < length ts
  pub rising : (i j : ℕ) → a ≤ i → i < j → j < e → ordering (text_in ts od i) (text_in ts od j) ≡ Less

-- x is one of them, the string with the number k
pub record Holds (ts : List (List ℕ)) (od : List ℕ) (a e : ℕ) (x : List ℕ) (k : ℕ) : Type 0 where
  pub place : ℕ
  pub from : a ≤ place
  pub inside : place < e
  pub number : get_or od place 0 ≡ k
  pub is : get_or ts k [] ≡ x

-- x comes behind those before the place p, and before those from p on
pub record Splits (ts : List (List ℕ)) (od : List ℕ) (a e : ℕ) (x : List ℕ) (p : ℕ) : Type 0 where
  pub from : a ≤ p
  pub inside : p ≤ e
  pub below : (i : ℕ) → a ≤ i → i < p → ordering (text_in ts od i) x ≡ Less
  pub above : (i : ℕ) → p ≤ i → i < e → ordering x (text_in ts od i) ≡ Less

abbrev pub PlaceIs : List (List ℕ) → List ℕ → ℕ → ℕ → List ℕ → Place → Type 0
PlaceIs ts od a e x (Seen k) = Holds ts od a e x k
PlaceIs ts od a e x (Free p) = Splits ts od a e x p

pub record Located (ts : List (List ℕ)) (od : List ℕ) (a e : ℕ) (x : List ℕ) (r : Place) : Type 0 where
  pub is : PlaceIs ts od a e x r

-- the numbers from the place a up to e moved up by so many places
pub record Shifted (od : List ℕ) (a e many : ℕ) (od' : List ℕ) : Type 0 where
  pub room : length od' ≡ length od
  pub moved : (i : ℕ) → a ≤ i → i < e → get_or od' (i + many) 0 ≡ get_or od i 0
  pub below : (i : ℕ) → i < a + many → get_or od' i 0 ≡ get_or od i 0
  pub above : (i : ℕ) → e + many ≤ i → get_or od' i 0 ≡ get_or od i 0

-- k stands at the place p, and the numbers from there up to n one higher
pub record Inserted (od : List ℕ) (n p k : ℕ) (od' : List ℕ) : Type 0 where
  pub room : length od' ≡ length od
  pub below : (i : ℕ) → i < p → get_or od' i 0 ≡ get_or od i 0
  pub here : get_or od' p 0 ≡ k
  pub moved : (i : ℕ) → p ≤ i → i < n → get_or od' (i + 1) 0 ≡ get_or od i 0
  pub above : (i : ℕ) → n < i → get_or od' i 0 ≡ get_or od i 0

-- k stands at the place j of b others, of which those from there on stand one higher
pub record Wider (f : ℕ → ℕ) (b j k : ℕ) (f' : ℕ → ℕ) : Type 0 where
  pub below : (t : ℕ) → t < j → f' t ≡ f t
  pub here : f' j ≡ k
  pub above : (t : ℕ) → j ≤ t → t < b → f' (suc t) ≡ f t

-- k stands at the place j of the buffer, behind i of the main list
pub record Buffered (od : List ℕ) (b i j k : ℕ) (od' : List ℕ) : Type 0 where
  pub room : length od' ≡ length od
  pub size : buffer_size od' ≡ suc b
  pub main : (q : ℕ) → main_number od' q ≡ main_number od q
  pub numbers : Wider (buffered od) b j k (buffered od')
  pub places : Wider (ahead od) b j i (ahead od')

-- all n numbers are in the main list
pub record Merged (od : List ℕ) (n b : ℕ) (od' : List ℕ) : Type 0 where
  pub room : length od' ≡ length od
  pub size : buffer_size od' ≡ 0
  pub is : (i : ℕ) → i < n → main_number od' i ≡ number_in od b i
