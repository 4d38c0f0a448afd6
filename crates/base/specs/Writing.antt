-- Writing a code to the front of the output. To be believed.
use Rattle.base.specs.declared.Refusal.TheVariants.{TooShort}
use Rattle.base.specs.declared.Refusal.{Refusal}
use Rattle.std.specs.Prelude.{ℕ, ◌≡◌, List, ◌++◌, length, drop, leb, Err, Ok, Result}
use Rattle.base.specs.Pick.{pick}

-- what is to be written: the bytes of the code, or the refusal that says why there are none
pub data Form : Type 0 where
  bytes : List ℕ → Form
  unfit : Refusal → Form

-- the result: "7 for a number the code can't carry (for a text 4, then 8), then 15" where the output d is shorter than the code
unfoldable pub wrote : Form → List ℕ → Result ℕ Refusal
wrote (bytes xs) d = pick (leb (length xs) (length d)) (Ok (length xs)) (Err TooShort)
wrote (unfit n) d = Err n

-- what the output holds then: the code, and what stood behind it; "every refusal keeps all lent output as found"
unfoldable pub placed : Form → List ℕ → List ℕ
placed (bytes xs) d = pick (leb (length xs) (length d)) (xs ++ drop (length xs) d) d
placed (unfit n) d = d

-- both: r and e are the result and the output of writing the form f over d
abbrev pub Writes : Form → List ℕ → Result ℕ Refusal → List ℕ → Type 0
Writes f d r e = (r ≡ wrote f d) × (e ≡ placed f d)
