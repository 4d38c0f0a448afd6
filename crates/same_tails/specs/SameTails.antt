-- From when on two zones cannot differ. The code's way, tied to the zones by `same-on` (proofs/SameLaws.antt).
use Rattle.std.specs.Prelude.{ℕ, ◌<◌, max, ◌≡◌, Bool, true, false, not, List, [], eqb, length, get_or}
use Rattle.base.specs.Pick.{pick, both}
use Rattle.base.specs.Equal.{equal}
use Rattle.base.specs.Moment.{end_of_time}
use Rattle.rules.specs.declared.Rule.{Rule}
use Rattle.recurrence.specs.declared.Tail.{Tail}
use Rattle.pool.specs.Pool.{strings_of}
use Rattle.tails.specs.declared.NamedTail.{NamedTail}
use Rattle.zones.specs.declared.ZoneEnd.{ZoneEnd}
use Rattle.zones.specs.declared.ZoneEnd.TheVariants.{Untailed, Tailed, Refused}

abbrev pub same_test : Bool → Bool → Bool
same_test true b = b
same_test false b = not b

-- two rules that fall on the same day of each year
unfoldable pub same_date : Rule → Rule → Bool
same_date a b =
    both (eqb a.weekday b.weekday) (both (same_test a.after b.after) (both (same_test a.plus b.plus)
    (both (eqb a.month b.month) (both (same_test a.last b.last) (eqb a.day b.day)))))

unfoldable pub same_rule : Rule → Rule → Bool
same_rule a b = both (eqb a.mode b.mode) (both (eqb a.time b.time) (same_date a b))

-- but for their starts
unfoldable pub same_tail : Tail → Tail → Bool
same_tail a b =
    both (eqb a.offset b.offset) (both (eqb a.savings b.savings) (both (same_rule a.standard b.standard) (same_rule a.daylight b.daylight)))

-- the string i of a pool p is the string j of a pool q
abbrev pub same_text : List ℕ → ℕ → List ℕ → ℕ → Bool
same_text p i q j = equal (get_or (strings_of p) i []) (get_or (strings_of q) j [])

-- "offset, savings or name": nothing of two tails differs where both are in force
unfoldable pub alike : List ℕ → NamedTail → List ℕ → NamedTail → Bool
alike p a q b = both (same_tail a.tail b.tail) (both (same_text p a.standard q b.standard) (same_text p a.daylight q b.daylight))

-- the moment from which two zones with these endings cannot differ, by their tails; end of time if these tell nothing
unfoldable pub tails_from : List ℕ → NamedTail → List ℕ → NamedTail → ℕ
tails_from p a q b = pick (alike p a q b) (max a.tail.start b.tail.start) end_of_time

unfoldable pub same_from : List ℕ → ZoneEnd → List ℕ → ZoneEnd → ℕ
same_from p (Tailed a) q (Tailed b) = tails_from p a q b
same_from p (Tailed a) q Untailed = end_of_time
same_from p (Tailed a) q (Refused k) = end_of_time
same_from p Untailed q f = end_of_time
same_from p (Refused k) q f = end_of_time

-- the names of a tail are numbers of the pool p
pub record Named (p : List ℕ) (n : NamedTail) : Type 0 where
  pub standard-in : n.standard < length (strings_of p)
  pub daylight-in : n.daylight < length (strings_of p)

abbrev pub EndNamed : List ℕ → ZoneEnd → Type 0
EndNamed p e = (n : NamedTail) → e ≡ Tailed n → Named p n
