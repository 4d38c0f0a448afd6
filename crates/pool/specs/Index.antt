-- The index of a pool: the places at which its strings start, so that a string is found by its number at once.
-- The code's way, tied to the pool's strings by `ready` (proofs/PoolLaws.antt) and `span-string` (proofs/StringLaws.antt).
use Rattle.base.specs.declared.Refusal.{Refusal}
use Rattle.base.specs.Coded.{Coded}
use Rattle.std.specs.Prelude.{ℕ, zero, suc, ◌+◌, ◌-◌, ◌≤◌, ◌≡◌, List, [], ◌∷◌, true, length, take, drop, get_or, ltb, Err, Ok, Result}
use Rattle.base.specs.Pick.{pick, both}
use Rattle.utf8.specs.Ascii.{ascii}
use Rattle.counts.specs.Count.{read_count}
use Rattle.texts.specs.Text.{read_text}
use Rattle.pool.specs.declared.Span.{Span}

-- a string that starts at the place at, before those that f gives of what follows it
abbrev pub start : Result (ℕ × ℕ) Refusal → ℕ → List ℕ → (ℕ → List ℕ → List ℕ) → List ℕ
start (Ok (a, n)) at s f = at ∷ f (at + (a + n)) (drop (a + n) s)
start (Err m) at s f = []

-- where the next k strings start, up to the first that is refused; s is what stands from the place at on
unfoldable pub read_starts : ℕ → ℕ → List ℕ → List ℕ
read_starts zero at s = []
read_starts (suc k) at s = start (read_text s) at s (λ a r. read_starts k a r)

unfoldable pub starts_in : List ℕ → Coded ℕ → List ℕ
starts_in d (Err m) = []
starts_in d (Ok (k, a)) = pick (ltb 8192 k) [] (read_starts k a (drop a d))

-- the places of the length codes of d's strings
abbrev pub starts_of : List ℕ → List ℕ
starts_of d = starts_in d (read_count d)

unfoldable pub room_in : Coded ℕ → ℕ
room_in (Err m) = 0
room_in (Ok (k, a)) = pick (ltb 8192 k) 0 k

-- how many places the index of d needs: the count of its strings; none where the count is refused or above 8,192
abbrev pub room_of : List ℕ → ℕ
room_of d = room_in (read_count d)

-- the length of the string at a place of d, where its code has one byte and all of it lies before the place plain; else 128
unfoldable pub short_length : List ℕ → ℕ → ℕ → ℕ
short_length d at plain =
    pick (both (ltb at (length d)) (both (ltb (get_or d at 0) 128) (ltb (at + get_or d at 0) plain))) (get_or d at 0) 128

-- the bytes of d from a place on are ASCII up to the place plain
abbrev pub Plain : List ℕ → ℕ → ℕ → Type 0
Plain d at plain = (plain ≤ length d) × (ascii (take (plain - at) (drop at d)) ≡ true)

-- the list ix begins with the places of d's strings
pub record Ready (d ix : List ℕ) : Type 0 where
  pub begins : take (length (starts_of d)) ix ≡ starts_of d

-- the bytes behind a length code at the place p
abbrev pub span_in : ℕ → Coded ℕ → Span
span_in p (Err m) = record { at = 0; len = 0 }
span_in p (Ok (n, a)) = record { at = p + a; len = n }

abbrev pub span_at : List ℕ → ℕ → Span
span_at d p = span_in p (read_count (drop p d))

-- where the bytes of the k-th string lie
abbrev pub span_of : List ℕ → ℕ → Span
span_of d k = span_at d (get_or (starts_of d) k 0)
