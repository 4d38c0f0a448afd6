-- The walk to the asked zone, for a job of any answer: what is made of that zone is the job's own. To be believed.
use Rattle.std.specs.Prelude.{ℕ, List, [], length, get_or, eqb}
use Rattle.base.specs.Pick.{pick}
use Rattle.base.specs.Parsed.{Parsed, got, bad}
use Rattle.base.specs.Equal.{equal}
use Rattle.pool.specs.Pool.{parse_pool, strings_of}
use Rattle.zones.specs.Content.{Zone}
use Rattle.zones.specs.Parse.{parse_zone}
use Rattle.frames.specs.Frame.{Field}
use Rattle.frames.specs.Machine.{Content, bad as fault, answer, keep, Job}
use Rattle.answers.specs.Answers.{Pool}

-- field 0 is checked in full, and kept
abbrev pub pool_says : {A : Type 0} → Field → Parsed (List (List ℕ)) → Content Pool A
pool_says g (got ts r) = keep (record { start = g.start; body = g.body })
pool_says g (bad n) = fault n

-- every zone is checked in full, "up to and with the first that has the asked ID": "the field of ID 1 whose zone ID has exactly the
-- asked bytes". Of that zone and the pool h makes the answer.
abbrev pub zone_says : {A : Type 0} → (Pool → Zone → A) → List ℕ → Pool → Parsed Zone → Content Pool A
zone_says h id p (got z r) = pick (equal (get_or (strings_of p.body) z.id []) id) (answer (h p z)) (keep p)
zone_says h id p (bad n) = fault n

unfoldable pub says : {A : Type 0} → (Pool → Zone → A) → List ℕ → Pool → Field → Content Pool A
says h id p g = pick (eqb g.id 0) (pool_says g (parse_pool g.body)) (zone_says h id p (parse_zone (length (strings_of p.body)) g.body))

-- "for a question 12 if the ID is above 1"
abbrev pub asking : {A : Type 0} → (Pool → Zone → A) → List ℕ → Job Pool A
asking h id = record { last = 1; content = says h id }

-- the asked zone itself, with no instant, and the pool that its names are in
pub record Held : Type 0 where
  pub pool : Pool
  pub zone : Zone

abbrev pub held : Pool → Zone → Held
held p z = record { pool = p; zone = z }

abbrev pub holder : List ℕ → Job Pool Held
holder id = asking held id

-- what h makes of it
abbrev pub of_held : {A : Type 0} → (Pool → Zone → A) → Held → A
of_held h v = h v.pool v.zone
