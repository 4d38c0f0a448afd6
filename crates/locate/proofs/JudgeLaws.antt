-- What a zone says by its ID and its check. Assumes nothing.
use Rattle.base.specs.declared.Refusal.{Refusal}
use Rattle.std.specs.Prelude.{Err, Ok}
use mathlib.Core.Path.{◌≡◌, refl, sym, ap, ◌∙◌}
use mathlib.Core.Bool.{true, false}
use mathlib.Core.List.{List, []}
use Prim.Native.Nat.{ℕ, ◌<◌}
use lib.ListN.{drop, get_or}
use Rattle.base.specs.Parsed.{Parsed, got, bad}
use Rattle.base.specs.Equal.{equal}
use Rattle.pool.specs.Pool.{strings_of}
use Rattle.places.specs.Placed.{Placed, at, no, view_placed, Stands}
use Rattle.places.specs.Name.{parse_name}
use Rattle.places.proofs.ValueLaws.{name-ok}
use Rattle.zones.specs.Content.{Zone}
use Rattle.zones.specs.Parse.{parse_zone}
use Rattle.zones.specs.Lookup.{verdict_of}
use Rattle.zones.proofs.SoundLaws.{zone-id, zone-bad}
use Rattle.frames.specs.Machine.{bad as fault, keep}
use Rattle.answers.specs.Answers.{Pool, pool_of}
use Rattle.locate.specs.Asked.{zone_says, held}
use Rattle.locate.specs.View.{zone_here, JudgedAs}
use Rattle.locate.specs.declared.Judged.TheVariants.{Here, Keep, Fault}
use Rattle.base.proofs.Tests.{clash}

-- what reading a zone's ID gave
module _ (count : ℕ) (s : List ℕ) (x : Placed ℕ) (h : Stands s (parse_name count (drop 0 s)) x) where
  name-is : (z e : ℕ) → x ≡ at z e → parse_name count s ≡ got z (drop e s)
  name-is z e f = h.means ∙ ap (view_placed s) f

  pub id_below : (z e : ℕ) → x ≡ at z e → z < count
  id_below z e f = name-ok count s z (drop e s) (name-is z e f)

  module _ (pool id : List ℕ) where
    pub judged-unnamed : (n : Refusal) → x ≡ no n → JudgedAs id pool (parse_zone count s) (Fault n)
    judged-unnamed n f = record { means = λ start. rw (zone-bad count s n (h.means ∙ ap (view_placed s) f)) }

    pub judged-fault : (n : Refusal) → Err n ≡ verdict_of (parse_zone count s) → JudgedAs id pool (parse_zone count s) (Fault n)
    judged-fault n k = record { means = λ start. go (pool_of start pool) (parse_zone count s) k }
      where
        go : (m : Pool) (p : Parsed Zone) → Err n ≡ verdict_of p → zone_says held id m p ≡ fault n
        go m (got w r) g = clash cc
        go m (bad k) g = let y : k ≡ n = cc in ap fault y

    module _ (z e : ℕ) (f : x ≡ at z e) where
      pub judged-here : true ≡ equal (get_or (strings_of pool) z []) id → JudgedAs id pool (parse_zone count s) Here
      judged-here n = record { means = λ start. go (pool_of start pool) refl (parse_zone count s) refl }
        where
          go : (m : Pool) → strings_of m.body ≡ strings_of pool → (p : Parsed Zone) → parse_zone count s ≡ p → zone_says held id m p ≡ zone_here m p
          go m o (got w r) q =
              let j : equal (get_or (strings_of m.body) w.id []) id ≡ true = rw (o, zone-id count s w r z (drop e s) (name-is z e f) q) (sym n) in
              rw j
          go m o (bad k) q = refl

      pub judged-keep : (y : ℕ) → false ≡ equal (get_or (strings_of pool) z []) id → Ok y ≡ verdict_of (parse_zone count s)
          → JudgedAs id pool (parse_zone count s) Keep
      judged-keep y n k = record { means = λ start. go (pool_of start pool) refl (parse_zone count s) refl k }
        where
          go : (m : Pool) → strings_of m.body ≡ strings_of pool → (p : Parsed Zone) → parse_zone count s ≡ p → Ok y ≡ verdict_of p → zone_says held id m p ≡ keep m
          go m o (got w r) q g =
              let j : equal (get_or (strings_of m.body) w.id []) id ≡ false = rw (o, zone-id count s w r z (drop e s) (name-is z e f) q) (sym n) in
              rw j
          go m o (bad k) q g = clash cc
