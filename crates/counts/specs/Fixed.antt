-- Numbers in a fixed number of bytes, high first. To be believed.
use Rattle.base.specs.Coded.{Coded}
use Rattle.base.specs.declared.Refusal.TheVariants.{BadData}
use Rattle.std.specs.Prelude.{ℕ, zero, suc, ◌+◌, ◌*◌, ◌/◌, ◌%◌, ◌^◌, List, [], ◌∷◌, leb, length, Err, Ok}
use Rattle.base.specs.Pick.{pick}

-- the number of n bytes more behind the bits that high has, each byte above those after it
unfoldable pub fixed_from : ℕ → ℕ → List ℕ → ℕ
fixed_from zero high s = high
fixed_from (suc n) high [] = high
fixed_from (suc n) high (b ∷ s) = fixed_from n (high * 256 + b) s

-- n bytes behind the bits that high has: "eight bytes, high first"; 9 where they end early
abbrev pub read_fixed : ℕ → ℕ → List ℕ → Coded ℕ
read_fixed n high s = pick (leb n (length s)) (Ok (fixed_from n high s, n)) (Err BadData)

-- the n low bytes of v, high first
unfoldable pub fixed_bytes : ℕ → ℕ → List ℕ
fixed_bytes zero v = []
fixed_bytes (suc n) v = (v / 256 ^ n % 256) ∷ fixed_bytes n v

-- v behind a prefix: the bits of v above its n low bytes, added to the prefix, then these bytes
abbrev pub prefixed : ℕ → ℕ → ℕ → List ℕ
prefixed n prefix v = (prefix + v / 256 ^ n) ∷ fixed_bytes n v
