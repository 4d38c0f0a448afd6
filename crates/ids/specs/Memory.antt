-- How the numbers of strings, in the order of the strings' bytes, stand for the strings seen. The code's way: internal functions alone use
-- it; what it stands for is the list of Ids.antt.
use Rattle.std.specs.Prelude.{ℕ, zero, suc, ◌+◌, ◌≤◌, ◌<◌, ◌≡◌, List, [], ◌∷◌, Bool, length, get_or}
use Rattle.base.specs.Pick.{pick}
use Rattle.string_order.specs.Order.{ordering}
use Rattle.std.specs.declared.cmp.Ordering.TheVariants.{Less}
use Rattle.ids.specs.Ids.{among}
use Rattle.ids.specs.Layout.{buffer_size, number_at, Placed, Fits}
use Rattle.ids.specs.declared.Gap.{Gap}
use Rattle.ids.specs.declared.Gap.TheVariants.{Known, New}

-- the string of ts whose number stands at the place i of the list that od holds
abbrev pub text_at : List (List ℕ) → List ℕ → ℕ → List ℕ
text_at ts od i = get_or ts (number_at od i) []

-- the strings whose numbers stand at the first n places, the last of them first
unfoldable pub texts_of : List (List ℕ) → List ℕ → ℕ → List (List ℕ)
texts_of ts od zero = []
texts_of ts od (suc n) = text_at ts od n ∷ texts_of ts od n

-- how many of the strings ts are among xs
unfoldable pub how_many : List (List ℕ) → List (List ℕ) → ℕ
how_many [] xs = 0
how_many (t ∷ ts) xs = pick (among t xs) 1 0 + how_many ts xs

-- the buffer is not full
pub record Roomy (od : List ℕ) (n : ℕ) : Type 0 where
  pub free : buffer_size od < 128
  pub placed : Placed od n (buffer_size od)

-- od has room for the strings ts and holds n numbers of them, in the order of these; no two are equal, so n of ts at least are among them
pub record Sorted (ts : List (List ℕ)) (od : List ℕ) (n : ℕ) : Type 0 where
  pub room : length ts + 257 ≤ length od
  pub roomy : Roomy od n
  pub known : (i : ℕ) → i < n → number_at od i < length ts
  pub rising : (i j : ℕ) → i < j → j < n → ordering (text_at ts od i) (text_at ts od j) ≡ Less
  pub few : n ≤ how_many ts (texts_of ts od n)

-- the first n places of od stand for the strings mem, all of them of ts
pub record Keeps (ts : List (List ℕ)) (od : List ℕ) (n : ℕ) (mem : List (List ℕ)) : Type 0 where
  pub sorted : Sorted ts od n
  pub same : (x : List ℕ) → among x mem ≡ among x (texts_of ts od n)

-- r says whether x was seen, and the places then stand for x too
pub record Taken (ts : List (List ℕ)) (x od : List ℕ) (n : ℕ) (od' : List ℕ) (r : Bool) : Type 0 where
  pub said : (mem : List (List ℕ)) → Keeps ts od n mem → r ≡ among x mem
  pub kept : (mem : List (List ℕ)) → Keeps ts od n mem → Keeps ts od' (pick r n (n + 1)) (pick r mem (x ∷ mem))

-- x comes behind the strings before the place p, and before those from p on
pub record Between (ts : List (List ℕ)) (od : List ℕ) (n : ℕ) (x : List ℕ) (p : ℕ) : Type 0 where
  pub inside : p ≤ n
  pub below : (i : ℕ) → i < p → ordering (text_at ts od i) x ≡ Less
  pub above : (i : ℕ) → p ≤ i → i < n → ordering x (text_at ts od i) ≡ Less

-- x is one of the first n strings, the one with the number k
pub record Numbered (ts : List (List ℕ)) (od : List ℕ) (n : ℕ) (x : List ℕ) (k : ℕ) : Type 0 where
  pub place : ℕ
  pub inside : place < n
  pub number : number_at od place ≡ k
  pub is : get_or ts k [] ≡ x

abbrev pub GapIs : List (List ℕ) → List ℕ → ℕ → List ℕ → Gap → Type 0
GapIs ts od n x (Known k) = Numbered ts od n x k
GapIs ts od n x (New i j) = Fits od n i j × Between ts od n x (i + j)

-- where x was found among the first n
pub record Finds (ts : List (List ℕ)) (od : List ℕ) (n : ℕ) (x : List ℕ) (r : Gap) : Type 0 where
  pub is : GapIs ts od n x r

-- k stands at the place p of the list, and the numbers from there up to n one higher
pub record Added (od : List ℕ) (n p k : ℕ) (od' : List ℕ) : Type 0 where
  pub room : length od' ≡ length od
  pub roomy : Roomy od' (suc n)
  pub below : (i : ℕ) → i < p → number_at od' i ≡ number_at od i
  pub here : number_at od' p ≡ k
  pub above : (i : ℕ) → p ≤ i → i < n → number_at od' (i + 1) ≡ number_at od i
