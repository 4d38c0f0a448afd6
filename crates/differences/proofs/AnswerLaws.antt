-- Where two files differ, by their questions, is where the two zones differ. Assumes nothing.
use Rattle.base.specs.declared.Refusal.{Refusal}
use Rattle.std.specs.Prelude.{Err, Ok}
use mathlib.Core.Path.{◌≡◌, sym, ap, ◌∙◌, subst}
use mathlib.Core.List.{List, []}
use Prim.Native.Nat.{ℕ, ◌-◌, ◌≤◌, ◌<◌}
use native.Mathlib.Omega.{arith}
use lib.IntN.{ℤ}
use lib.Dec.{leb, eqb}
use lib.ListN.{length, take, drop, get_or, length-drop}
use lib.Seq.{length-take-le}
use borrow.Author.Tests.{le-leb, lt-leb, eq-eqb, ne_eqb}
use Rattle.base.specs.Pick.{both}
use Rattle.base.specs.Parsed.{got}
use Rattle.base.specs.Moment.{Finite}
use Rattle.base.proofs.Tests.{by_order}
use Rattle.signed.specs.Instant.{instant_of, ticks_of, InRange}
use Rattle.signed.specs.OffsetSum.{milliseconds_of}
use Rattle.signed.proofs.IntegerLaws.{instant-ticks}
use Rattle.signed.proofs.OrderLaws.{sub-le}
use Rattle.pool.specs.Pool.{strings_of}
use Rattle.zones.specs.Content.{Zone}
use Rattle.zones.specs.Editions.{under}
use Rattle.zones.specs.Parse.{parse_zone}
use Rattle.zones.specs.Lookup.{in_zone}
use Rattle.zones.specs.declared.Found.{Found as Interval}
use Rattle.zones.specs.declared.Edition.TheVariants.{Two}
use Rattle.zones.proofs.SoundLaws.{zone-sound}
use Rattle.zones.proofs.RangeLaws.{zone-found}
use Rattle.frames.specs.Machine.{Out, found, refused, cut, ended, walk}
use Rattle.frames.specs.Mapped.{map_out}
use Rattle.answers.specs.Answers.{Pool, no_pool, answered, name_of}
use Rattle.answers.specs.declared.Mark.TheVariants.{All}
use Rattle.answers.proofs.NameLaws.{Located, name-is}
use Rattle.locate.specs.Asked.{Held, holder, of_held}
use Rattle.locate.specs.View.{part, pool_at, Lies}
use Rattle.questions.specs.Question.{answer_at, finish}
use Rattle.questions.proofs.HeldLaws.{ask-held, holding-asks}
use Rattle.cursors.specs.Cursors.{found_in}
use Rattle.zone_differences.specs.Differ.{unlike, found_by, differ_at as zones_differ}
use Rattle.differences.specs.Difference.{ask_all, same_number, differ, differ_at}
use Rattle.differences.specs.View.{pool_of, zone_of, SideIn, HeldBy, Refuses}
use Rattle.differences.specs.declared.Side.{Side}

-- equal offsets
both-leb : (a b : ℕ) → both (leb a b) (leb b a) ≡ eqb a b
both-leb a b =
    by_order a b (λ (h : a < b). rw (le-leb a b (omega arith), lt-leb b a h, ne_eqb a b (λ e. omega arith)))
    (λ (h : b ≤ a). by_order b a (λ (k : b < a). rw (lt-leb a b k, ne_eqb a b (λ e. omega arith))) (λ (k : a ≤ b). rw (le-leb a b k, le-leb b a h, eq-eqb a b (omega arith))))

same-offset : (a b : ℕ) → same_number (milliseconds_of a) (milliseconds_of b) ≡ eqb a b
same-offset a b = rw (sub-le a b 86400000, sub-le b a 86400000) (both-leb a b)

-- the pool of a side is a part of the file
pub pool-located : (f : List ℕ) (a e : ℕ) → Lies f a e → Located f (pool_at f a e)
pool-located f a e l =
    let n : length (part a e f) ≡ e - a = length-take-le (e - a) (drop a f) (rw (length-drop a f) (omega (arith, l.order, l.inside))) in
    record { within = omega (arith, l.order, l.inside); part = ap (λ (k : ℕ). take k (drop a f)) (sym n) }

-- a question's refusal, at every instant in range
pub asks-refused : (f id : List ℕ) (z : ℤ) → InRange z → (n : Refusal) (p : ℕ) → Refuses (walk (holder id) no_pool f) n p → ask_all f id z ≡ Err (n, p)
asks-refused f id z h n p r = ask-held f id z All Two h ∙ go (walk (holder id) no_pool f) r
  where
    go : (o : Out Pool Held) → Refuses o n p → finish All (map_out (of_held (answer_at Two (instant_of z))) o) ≡ Err (n, p)
    go (found v q) k = absurd k
    go (refused m q) k = let a = k.0 in let b = k.1 in rw (a, b)
    go (cut q) k = let a = k.0 in let b = k.1 in rw (a, b)
    go (ended m q) k = let a = k.0 in let b = k.1 in rw (a, b)

-- a side of a file
module _ (f id ix : List ℕ) (t₀ : ℕ) (x : Side) (i : SideIn f ix t₀ x) (h : HeldBy f (walk (holder id) no_pool f) x) where
  abbrev zone : Zone
  zone = h.held.zone

  abbrev count : ℕ
  count = length (strings_of (pool_of f x))

  parsed : parse_zone count (zone_of f x) ≡ got zone []
  parsed = subst (λ (k : ℕ). parse_zone k (zone_of f x) ≡ got zone []) i.count-is h.parsed

  side-found : (t : ℕ) → found_by (zone_of f x) (pool_of f x) t ≡ in_zone t zone
  unfolding found_in
  side-found t = rw parsed

  name_below : (t : ℕ) → Finite t → (in_zone t zone).name < count
  name_below t f' = (zone-found count t zone (zone-sound count (zone_of f x) zone [] parsed).0 f').name-ok

  -- answered at every instant in range
  pub side-answers : (z : ℤ) → InRange z → ask_all f id z ≡ Ok (answered (pool_at f x.pool x.past) (in_zone (instant_of z) zone))
  unfolding under
  side-answers z r =
      holding-asks f id z All Two r (record { zone = h.held; past = h.past; is = h.is })
      ∙ ap (λ (p : Pool). Ok (answered p (in_zone (instant_of z) zone))) h.pool-is

  pub side-answers-at : (t : ℕ) → Finite t → ask_all f id (ticks_of t) ≡ Ok (answered (pool_at f x.pool x.past) (in_zone t zone))
  side-answers-at t l =
      let r : InRange (ticks_of t) = λ e. omega (arith, l.low, instant-ticks t l) in
      side-answers (ticks_of t) r ∙ ap (λ (u : ℕ). Ok (answered (pool_at f x.pool x.past) (in_zone u zone))) (instant-ticks t l)

  pub side-name : (t : ℕ) → Finite t → name_of f (answered (pool_at f x.pool x.past) (in_zone t zone)) ≡ get_or (strings_of (pool_of f x)) (in_zone t zone).name []
  side-name t l = name-is f (pool_at f x.pool x.past) (in_zone t zone) (pool-located f x.pool x.past i.lies) (name_below t l)

-- two answers
answers-unlike : (f g : List ℕ) (p q : Pool) (u v : Interval) → name_of f (answered p u) ≡ get_or (strings_of p.body) u.name []
    → name_of g (answered q v) ≡ get_or (strings_of q.body) v.name [] → differ f (answered p u) g (answered q v) ≡ unlike p.body u q.body v
unfolding differ unlike
answers-unlike f g p q u v a b = rw (same-offset u.wall v.wall, same-offset u.savings v.savings, a, b)

-- THE FILES DIFFER WHERE THE ZONES DO
module _ (f g id sf sg : List ℕ) (t₀ : ℕ) (x y : Side) (i : SideIn f sf t₀ x) (h : HeldBy f (walk (holder id) no_pool f) x)
    (j : SideIn g sg t₀ y) (k : HeldBy g (walk (holder id) no_pool g) y) where
  pub differ-is : (t : ℕ) → Finite t → differ_at f g id t ≡ zones_differ (zone_of f x) (pool_of f x) (zone_of g y) (pool_of g y) t
  differ-is t l =
      rw (
        side-answers-at f id sf t₀ x i h t l,
        side-answers-at g id sg t₀ y j k t l,
        side-found f id sf t₀ x i h t,
        side-found g id sg t₀ y j k t,
      )
      (answers-unlike f g (pool_at f x.pool x.past) (pool_at g y.pool y.past) (in_zone t h.held.zone) (in_zone t k.held.zone) (side-name f id sf t₀ x i h t l) (side-name g id sg t₀ y j k t l))
