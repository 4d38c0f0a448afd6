-- What the C functions say of an older dictionary. To be believed: what programs in C are told.
use Rattle.base.specs.declared.Refusal.{Refusal}
use Rattle.base.specs.Coded.{Coded}
use Rattle.std.specs.Prelude.{ℕ, List, [], ◌∷◌, ◌≡◌, Err, Ok, Result}
use Rattle.base.specs.Writing.{Form, wrote, placed}
use Rattle.replies.specs.Reply.{Reply, refusal}
use Rattle.replies.specs.Functions.{read_reply}

-- how many entries, and the length of the code
abbrev pub dictionary_reply : Coded ℕ → Reply
dictionary_reply f = read_reply f

-- a dictionary may be longer than a length that a result has room for beside its number, so its length has an output of its own
abbrev pub number_of : Result ℕ Refusal → ℕ
number_of (Ok n) = 0
number_of (Err k) = refusal k 0

-- "Every refusal keeps all lent output as found": d is what was found
abbrev pub length_left : Result ℕ Refusal → List ℕ → List ℕ
length_left (Ok n) d = n ∷ []
length_left (Err k) d = d

-- the result r, the output e and the length m at the return, where they were d and l and x is to be written
pub record PutsLong (x : Form) (d l : List ℕ) (r : ℕ) (e m : List ℕ) : Type 0 where
  pub result : r ≡ number_of (wrote x d)
  pub output : e ≡ placed x d
  pub length : m ≡ length_left (wrote x d) l
