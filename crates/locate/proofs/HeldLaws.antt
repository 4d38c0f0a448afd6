-- A job that makes its answer of the asked zone makes it of the zone that is held; and that zone's content is in its ranges. Assumes nothing.
use mathlib.Core.Path.{◌≡◌, refl, sym, ap, ◌∙◌, subst}
use mathlib.Core.Bool.{Bool, true, false}
use mathlib.Core.List.{List, []}
use Prim.Native.Nat.{ℕ}
use lib.Dec.{eqb}
use lib.ListN.{length, get_or}
use Rattle.base.specs.Pick.{pick}
use Rattle.base.specs.Run.{Step, stop, next, follow}
use Rattle.base.specs.Parsed.{Parsed, got, bad}
use Rattle.base.specs.Equal.{equal}
use Rattle.pool.specs.Pool.{parse_pool, strings_of}
use Rattle.zones.specs.Content.{Zone}
use Rattle.zones.specs.Parse.{parse_zone}
use Rattle.zones.specs.Sound.{Sound}
use Rattle.zones.proofs.SoundLaws.{zone-sound}
use Rattle.frames.specs.Frame.{Field}
use Rattle.frames.specs.Machine.{Out, found, Content, bad as fault, answer, keep, verdict, walk}
use Rattle.frames.specs.Fields.{Ending, refused_at, cut_at, end_at, listing, pass, outcome}
use Rattle.frames.specs.Mapped.{map_content, map_out}
use Rattle.frames.proofs.WalkLaws.{walk-pass}
use Rattle.frames.proofs.PassLaws.{pass-stopped}
use Rattle.frames.proofs.MapLaws.{walk-mapped}
use Rattle.answers.specs.Answers.{Pool, no_pool}
use Rattle.locate.specs.Asked.{pool_says, zone_says, says, asking, Held, held, holder, of_held}
use Rattle.base.proofs.Tests.{clash}

module _ {A : Type 0} (h : Pool → Zone → A) (id : List ℕ) where
  pub says-held : (p : Pool) (g : Field) → says h id p g ≡ map_content (of_held h) (says held id p g)
  unfolding says
  says-held p g = go (eqb g.id 0)
    where
      of-pool : (q : Parsed (List (List ℕ))) → ◌≡◌ {A = Content Pool A} (pool_says g q) (map_content (of_held h) (pool_says g q))
      of-pool (got ts r) = refl
      of-pool (bad n) = refl

      of-zone : (q : Parsed Zone) → zone_says h id p q ≡ map_content (of_held h) (zone_says held id p q)
      of-zone (bad n) = refl
      of-zone (got z r) = by (equal (get_or (strings_of p.body) z.id []) id)
        where
          by : (b : Bool) → ◌≡◌ {A = Content Pool A} (pick b (answer (h p z)) (keep p)) (map_content (of_held h) (pick b (answer (held p z)) (keep p)))
          by true = refl
          by false = refl

      go : (b : Bool)
          → pick b (pool_says g (parse_pool g.body)) (zone_says h id p (parse_zone (length (strings_of p.body)) g.body))
          ≡ map_content (of_held h) (pick b (pool_says g (parse_pool g.body)) (zone_says held id p (parse_zone (length (strings_of p.body)) g.body)))
      go true = of-pool (parse_pool g.body)
      go false = of-zone (parse_zone (length (strings_of p.body)) g.body)

  -- ONE WALK FOR EVERY JOB
  pub walk-held : (bs : List ℕ) → walk (asking h id) no_pool bs ≡ map_out (of_held h) (walk (holder id) no_pool bs)
  walk-held bs = walk-mapped (of_held h) (holder id) (asking h id) refl says-held no_pool bs

-- the content of the zone that is held
module _ (id : List ℕ) where
  abbrev Ok : Held → Type 0
  Ok v = Sound (length (strings_of v.pool.body)) v.zone

  zone-ok : (m : Pool) (d : List ℕ) (p : Parsed Zone) → parse_zone (length (strings_of m.body)) d ≡ p → (v : Held) → zone_says held id m p ≡ answer v → Ok v
  zone-ok m d (bad n) e v h = clash cc
  zone-ok m d (got z r) e v h = go (equal (get_or (strings_of m.body) z.id []) id) h
    where
      go : (b : Bool) → pick {A = Content Pool Held} b (answer (held m z)) (keep m) ≡ answer v → Ok v
      go true k =
          let w : held m z ≡ v = cc in
          subst Ok w (zone-sound (length (strings_of m.body)) d z r e).0
      go false k = clash cc

  pool-ok : (g : Field) (p : Parsed (List (List ℕ))) (v : Held) → pool_says g p ≡ answer v → Ok v
  pool-ok g (got ts r) v h = clash cc
  pool-ok g (bad n) v h = clash cc

  says-ok : (m : Pool) (g : Field) (v : Held) → says held id m g ≡ answer v → Ok v
  unfolding says
  says-ok m g v = go (eqb g.id 0)
    where
      go : (b : Bool)
          → pick b (pool_says g (parse_pool g.body)) (zone_says held id m (parse_zone (length (strings_of m.body)) g.body)) ≡ answer v
          → Ok v
      go true h = pool-ok g (parse_pool g.body) v h
      go false h = zone-ok m g.body (parse_zone (length (strings_of m.body)) g.body) refl v h

  verdict-ok : (m : Pool) (g : Field) (x : Content Pool Held) (v : Held) (p : ℕ) → says held id m g ≡ x → verdict g x ≡ stop (found v p) → Ok v
  verdict-ok m g (fault n) v p e h = clash cc
  verdict-ok m g (answer w) v p e h = let k : w ≡ v = cc in subst Ok k (says-ok m g w e)
  verdict-ok m g (keep m') v p e h = clash cc

  pub held-sound : (bs : List ℕ) (v : Held) (p : ℕ) → walk (holder id) no_pool bs ≡ found v p → Sound (length (strings_of v.pool.body)) v.zone
  held-sound bs v p i = go (pass (says held id) no_pool (listing 1 bs).fields) refl (sym (walk-pass (holder id) no_pool bs) ∙ i)
    where
      by_end : (e : Ending) (m : Pool) → outcome {A = Held} e m ≡ found v p → Ok v
      by_end (refused_at n q) m h = clash cc
      by_end (cut_at q) m h = clash cc
      by_end (end_at q) m h = clash cc

      go : (s : Step Pool (Out Pool Held)) → pass (says held id) no_pool (listing 1 bs).fields ≡ s
          → follow s (outcome (listing 1 bs).ending) ≡ found v p → Ok v
      go (next m) e h = by_end (listing 1 bs).ending m h
      go (stop o) e h =
          let s = pass-stopped (says held id) no_pool (listing 1 bs).fields o e in
          verdict-ok s.mem s.at (says held id s.mem s.at) v p refl (s.stops ∙ ap stop h)
