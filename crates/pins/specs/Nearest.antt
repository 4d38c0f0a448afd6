-- What "nearest" says, without a way to find it. To be believed.
use Rattle.std.specs.Prelude.{ℕ, ◌*◌, ◌<◌, Bool, true, false, ℤ, pos, neg_ℤ, nat_abs, ◌-ℤ◌, ◌*ℤ◌, Float}
use Rattle.std.specs.Float.{nan, inf, fin}
use Rattle.std.specs.Float.Ieee.{up, down}

-- a number with its sign
abbrev pub signed : Bool → ℕ → ℤ
signed false n = pos n
signed true n = neg_ℤ (pos n)

-- a finite double is a whole number over this
abbrev pub scale : Float → ℕ
scale nan = 1
scale (inf s) = 1
scale (fin s m e) = down e

-- how far a finite double x is from seconds / 3600, times 3600 and the scale of x
abbrev pub gap : ℤ → Float → ℕ
gap seconds nan = 0
gap seconds (inf s) = 0
gap seconds (fin s m e) = nat_abs (signed s (m * up e * 3600) -ℤ seconds *ℤ pos (down e))

-- of two finite doubles x is nearer to seconds / 3600 than y
abbrev pub Nearer : ℤ → Float → Float → Type 0
Nearer seconds x y = gap seconds x * scale y < gap seconds y * scale x
