-- The map of the signed count. To be believed.
use Rattle.std.specs.Prelude.{ℕ, ◌+◌, ◌*◌, ◌/◌, ◌%◌, leb, eqb, ℤ, pos, negsuc}
use Rattle.base.specs.Pick.{pick}

-- "0, -1, 1, -2 map to 0, 1, 2, 3 and so on"
unfoldable pub unzigzag_of : ℕ → ℤ
unzigzag_of u = pick (eqb (u % 2) 0) (pos (u / 2)) (negsuc (u / 2))

-- "over all 32-bit values"; 4294967296 for any other, which no 32-bit value has
unfoldable pub zigzag_of : ℤ → ℕ
zigzag_of (pos n) = pick (leb n 2147483647) (n * 2) 4294967296
zigzag_of (negsuc n) = pick (leb n 2147483647) (n * 2 + 1) 4294967296
