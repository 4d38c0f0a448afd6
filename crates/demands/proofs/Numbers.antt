-- THE NUMBERS GIVEN BACK are those that document 01's table has for a check, the version text, normalizing and a question. Assumes nothing.
use Rattle.base.specs.declared.Refusal.{Refusal}
use Rattle.std.specs.Prelude.{Err, Ok, Result}
use Rattle.base.specs.Coded.{Coded, Fault}
use Rattle.base.specs.declared.Refusal.TheVariants.{BadCode, BadData, CutShort, FieldOrder, FirstField, NotFound, OutOfRange, SecondZone, TooLarge, TooShort, WrongVersion}
use Rattle.base.specs.Refusals.{refusal_number}
use Rattle.std.specs.declared.option.Option.{Option}
use Rattle.std.specs.declared.option.Option.TheVariants.{Some, None}
use mathlib.Core.Path.{◌≡◌, refl}
use mathlib.Core.Bool.{Bool, true, false}
use mathlib.Core.List.{List, [], ◌∷◌}
use mathlib.Core.Logic.{inl, inr}
use Prim.Native.Nat.{ℕ, zero, suc, ◌+◌, ◌≤◌}
use native.Mathlib.Omega.{arith}
use lib.Dec.{ltb, leb, eqb}
use lib.IntN.{ℤ}
use lib.ListN.{length, take, drop, get_or}
use borrow.Author.Tests.{ltb-true}
use Rattle.base.specs.Pick.{pick}
use Rattle.base.specs.Equal.{equal}
use Rattle.base.specs.All.{All, all_none, all-also}
use Rattle.base.specs.Bytes.{Bytes}
use Rattle.base.specs.Numbers.{number_given}
use Rattle.base.proofs.ByteLaws.{tail-bytes}
use Rattle.base.proofs.AllLaws.{all_head, all_tail}
use Rattle.base.specs.Parsed.{Parsed, got, bad as fault_of}
use Rattle.base.specs.Run.{next, iterate, follow}
use Rattle.signed.specs.Instant.{instant_of}
use Rattle.texts.specs.Text.{read_text}
use Rattle.texts.proofs.RefusalLaws.{Faulty, text-faulty}
use Rattle.pool.specs.Pool.{Pool as PoolContent, parse_pool, strings_of}
use Rattle.pool.proofs.PoolLaws.{pool-faulty}
use Rattle.zones.specs.Content.{Zone}
use Rattle.zones.specs.Parse.{parse_zone}
use Rattle.zones.specs.declared.Edition.{Edition}
use Rattle.ids.specs.Ids.{among}
use Rattle.aliases.specs.Dictionary.{Dictionary}
use Rattle.aliases.specs.Field.{parse_aliases}
use Rattle.frames.specs.Frame.{largest, once, order, zeros, version, sized, allowed, field, frame, Field, read_size}
use Rattle.frames.specs.Machine.{Out, found, refused, cut, ended, Content, bad, answer, keep, Job, State, state_at, field_at, verdict, onward, act, step, walk}
use Rattle.frames.specs.declared.Frame.{Frame}
use Rattle.frames.specs.declared.Frame.TheVariants.{End, Cut, Refused, Version, Whole}
use Rattle.field_checks.specs.Check.{TextPlace, nowhere, placed, Memory, start, with_id, with_text, pool_in, pool_kept, new_id, zone_in, zone_kept, text_in, text_kept, aliases_in, aliases_kept, judged, job, locations_in, locations_kept}
use Rattle.field_checks.specs.Check.{Kind, pool_field, zone_field, text_field, alias_field, other_field, kind_of, content_by, location_field}
use Rattle.locations.specs.Content.{Location, parse_locations}
use Rattle.locations.specs.declared.LocationField.{LocationField}
use Rattle.field_checks.specs.Check.{concluded, concludes, conclusion, verdict_of, check_of, text_given, version_of, WellFormed}
use Rattle.field_checks.specs.Numbers.{given_by_verdict, given_by_version_text}
use Rattle.field_checks.specs.declared.Conclusion.{Conclusion}
use Rattle.rewrite.specs.Preferred.{preferred, given, rewrite_of}
use Rattle.rewrite.specs.Numbers.{given_by_rewritten}
use Rattle.field_checks.proofs.WellFormedLaws.{good-well-formed}
use Rattle.field_checks.specs.declared.Conclusion.TheVariants.{Refused as Unfit, Bare, WithText}
use Rattle.answers.specs.Answers.{Pool, no_pool, waiting}
use Rattle.answers.specs.Numbers.{given_by_answer}
use Rattle.locate.specs.Asked.{pool_says, zone_says, says, asking}
use Rattle.questions.specs.Question.{answer_at, question, finish, ask}
use Rattle.answers.specs.declared.Mark.{Mark}
use Rattle.answers.specs.declared.Mark.TheVariants.{More, All as Whole'}
use Rattle.answers.specs.declared.Found.{Found}
use Rattle.demands.specs.Numbers.{OfContent, too_large, faulty, OfFile, OfCheck, check-cut, check-fault, second-zone, second_key, InTable, location-fault, misread, out_of_range}
use Rattle.demands.specs.Numbers.{OfNormalize, normalize-check, no_room, OfVersion, version-check, no_text}
use Rattle.demands.specs.Numbers.{OfQuestion, not_yet, question-cut, question-fault, no-zone, no-instant}
use Rattle.demands.proofs.ContentNumbers.{Fine, zone-numbers, FineAliases, aliases-numbers}
use Rattle.demands.proofs.LocationNumbers.{Located, location-numbers}

pub of-content : (n : ℕ) → OfContent n → OfFile n
of-content n (too_large e) = record { low = omega arith; high = omega arith }
of-content n (faulty l h) = record { low = omega arith; high = h }

pub of-text : (n : Refusal) → Faulty n → OfFile (refusal_number n)
of-text n (inl e) = rw e (record { low = omega arith; high = omega arith })
of-text n (inr (inl e)) = rw e (record { low = omega arith; high = omega arith })
of-text n (inr (inr (inl e))) = rw e (record { low = omega arith; high = omega arith })
of-text n (inr (inr (inr e))) = rw e (record { low = omega arith; high = omega arith })

all_drop : {R : ℕ → Type 0} (n : ℕ) (xs : List ℕ) → All R xs → All R (drop n xs)
all_drop zero xs a = a
all_drop (suc n) [] a = a
all_drop (suc n) (x ∷ xs) a = all_drop n xs (all_tail a)

pub any : (xs : List ℕ) → All (λ (b : ℕ). Unit {0}) xs
any [] = all_none
any (x ∷ xs) = all-also tt (any xs)

-- A walk refuses with numbers that have P, where the faults of a file have it, 12 at an ID above the last has it, and the job's own have
-- it. R is what is known of the bytes.
module _ {M A : Type 0} (J : Job M A) (P R : ℕ → Type 0) (of-file : (n : ℕ) → OfFile n → P n)
    (above : (i : ℕ) → R i → ltb J.last i ≡ true → P 12) where
  abbrev pub Says : Content M A → Type 0
  Says (bad n) = P (refusal_number n)
  Says (answer v) = Unit {0}
  Says (keep m) = Unit {0}

  abbrev Reads : Frame → Type 0
  Reads End = Unit {0}
  Reads Cut = Unit {0}
  Reads (Refused n) = P (refusal_number n)
  Reads Version = Unit {0}
  Reads (Whole i h n) = Unit {0}

  either : (t : Bool) (x y : Frame) → (t ≡ true → Reads x) → (t ≡ false → Reads y) → Reads (pick t x y)
  either true x y h k = h refl
  either false x y h k = k refl

  numbered : (n : ℕ) → 3 ≤ n → n ≤ 11 → P n
  numbered n l h = of-file n (record { low = l; high = h })

  abbrev Orders : Option Refusal → Type 0
  Orders None = Unit {0}
  Orders (Some k) = P (refusal_number k)

  order-number : (seen : Bool) (prev i : ℕ) → Orders (order seen prev i)
  unfolding order
  order-number false prev i = go (eqb i 0)
    where
      go : (t : Bool) → Orders (pick t None (Some FirstField))
      go true = tt
      go false = numbered 6 (omega arith) (omega arith)
  order-number true prev i = go (ltb i prev) (eqb i prev) (once i)
    where
      go : (t u v : Bool) → Orders (pick t (Some FieldOrder) (pick u (pick v (Some FieldOrder) None) None))
      go true u v = numbered 5 (omega arith) (omega arith)
      go false true true = numbered 5 (omega arith) (omega arith)
      go false true false = tt
      go false false v = tt

  allowed-number : (o : Option Refusal) (x : Frame) → Orders o → Reads x → Reads (allowed o x)
  allowed-number None x q h = h
  allowed-number (Some k) x q h = q

  sized-number : (at i : ℕ) (r : List ℕ) (x : Coded ℕ) → Reads (sized at i r x)
  unfolding sized
  sized-number at i r (Err n) = either (eqb (refusal_number n) 9) Cut (Refused BadCode) (λ e. tt) (λ e. numbered 7 (omega arith) (omega arith))
  sized-number at i r (Ok (v, u)) =
      either (ltb largest (at + (1 + u + v))) (Refused TooLarge) _ (λ e. numbered 4 (omega arith) (omega arith))
      (λ e. either (leb (u + v) (length r)) (Whole i (1 + u) v) Cut (λ e. tt) (λ e. tt))

  frame-number : (at : ℕ) (seen : Bool) (prev : ℕ) (r : List ℕ) → All R r → Reads (frame J.last at seen prev r)
  unfolding frame version field
  frame-number at seen prev r a =
      either (eqb at 0) (version r) _
      (λ e. either (leb 4 (length r)) _ Cut (λ e. either (zeros (take 4 r)) Version (Refused WrongVersion) (λ e. tt) (λ e. numbered 3 (omega arith) (omega arith))) (λ e. tt))
      (λ e. of_field r a)
    where
      of_field : (r : List ℕ) → All R r → Reads (field J.last at seen prev r)
      of_field [] a = tt
      of_field (i ∷ r) a =
          allowed-number (order seen prev i) _ (order-number seen prev i)
          (either (ltb J.last i) (Refused NotFound) _ (above i (all_head a)) (λ e. sized-number at i r (read_size r)))

  abbrev pub Comes : Out M A → Type 0
  Comes (found v p) = Unit {0}
  Comes (refused n p) = P (refusal_number n)
  Comes (cut p) = Unit {0}
  Comes (ended m p) = Unit {0}

  module _ (own : (m : M) (g : Field) → Says (J.content m g)) where
    steps : (k : ℕ) (σ : State M) → All R σ.rest → Comes (iterate (step J) (cut 0) k σ)
    unfolding iterate step act
    steps zero σ a = tt
    steps (suc k) σ a = go (frame J.last σ.at σ.seen σ.prev σ.rest) (frame-number σ.at σ.seen σ.prev σ.rest a) (steps k)
      where
        go : (f : Frame) → Reads f → ((τ : State M) → All R τ.rest → Comes (iterate (step J) (cut 0) k τ))
            → Comes (follow (act J σ.at σ.rest σ.mem f) (λ t. iterate (step J) (cut 0) k t))
        go End h rec = tt
        go Cut h rec = tt
        go (Refused n) h rec = h
        go Version h rec = rec (state_at (σ.at + 4) (drop 4 σ.rest) false 0 σ.mem) (all_drop 4 σ.rest a)
        go (Whole i h n) r rec = whole (J.content σ.mem (field_at σ.at σ.rest i h n)) (own σ.mem (field_at σ.at σ.rest i h n))
          where
            whole : (x : Content M A) → Says x
                → Comes (follow (onward (verdict (field_at σ.at σ.rest i h n) x) (λ m'. next (state_at (σ.at + (h + n)) (drop (h + n) σ.rest) true i m')))
                (λ t. iterate (step J) (cut 0) k t))
            whole (bad j) q = q
            whole (answer v) q = tt
            whole (keep m) q = rec (state_at (σ.at + (h + n)) (drop (h + n) σ.rest) true i m) (all_drop (h + n) σ.rest a)

    pub walk-number : (m : M) (bs : List ℕ) → All R bs → Comes (walk J m bs)
    unfolding walk
    walk-number m bs a = steps (suc (length bs)) (state_at 0 bs false 0 m) a

-- the check: its job's own numbers are those of contents, 13, 19 and 20
check-file : (n : ℕ) → OfFile n → OfCheck n
check-file n h = check-fault h

check-above : (i : ℕ) → i ≤ 255 → ltb 255 i ≡ true → OfCheck 12
check-above i l e = absurd (omega (arith, ltb-true 255 i e))

abbrev Kept : Content Memory ⊥ → Type 0
Kept = Says job OfCheck (λ i. i ≤ 255) check-file check-above

kept-pool : (m : Memory) (d : List ℕ) → Kept (pool_kept m d)
unfolding pool_kept
kept-pool m d = go (parse_pool d) refl
  where
    go : (p : PoolContent) → parse_pool d ≡ p → Kept (pool_in m p)
    go (got ts r) e = tt
    go (fault_of n) e = check-fault (of-text n (pool-faulty d n e))

kept-zone : (m : Memory) (d : List ℕ) → Kept (zone_kept m d)
unfolding zone_kept new_id
kept-zone m d = go (parse_zone (length m.pool) d) (zone-numbers (length m.pool) d)
  where
    go : (p : Parsed Zone) → Fine p → Kept (zone_in m p)
    go (got z r) h = new (among (get_or m.pool z.id []) m.ids)
      where
        new : (t : Bool) → Kept (pick t (bad SecondZone) (keep (with_id m (get_or m.pool z.id []))))
        new true = second-zone refl
        new false = tt
    go (fault_of n) h = check-fault (of-content (refusal_number n) h)

kept-text : (m : Memory) (a : ℕ) (d : List ℕ) → Kept (text_kept m a d)
unfolding text_kept
kept-text m a d = go (read_text d) refl
  where
    two : (b n : ℕ) (t : Bool) → Kept (pick t (keep (with_text m (placed (a + b) n))) (bad BadData))
    two b n true = tt
    two b n false = check-fault (record { low = omega arith; high = omega arith })

    go : (t : Result (ℕ × ℕ) Refusal) → read_text d ≡ t → Kept (text_in m a (length d) t)
    go (Err n) e = check-fault (of-text n (text-faulty d n e))
    go (Ok (b, n)) e = two b n (eqb (b + n) (length d))

kept-aliases : (m : Memory) (d : List ℕ) → Kept (aliases_kept m d)
unfolding aliases_kept
kept-aliases m d = go (parse_aliases m.pool d) (aliases-numbers m.pool d)
  where
    go : (p : Parsed Dictionary) → FineAliases p → Kept (aliases_in m p)
    go (got es r) h = tt
    go (fault_of n) (inl h) = check-fault (of-content (refusal_number n) h)
    go (fault_of n) (inr h) = second_key h

kept-locations : (m : Memory) (field : LocationField) (d : List ℕ) → Kept (locations_kept m field d)
unfolding locations_kept
kept-locations m field d = go (parse_locations field (length m.pool) d) (location-numbers field (length m.pool) d)
  where
    go : (p : Parsed (List Location)) → Located p → Kept (locations_in m p)
    go (got ls r) h = tt
    go (fault_of n) (misread l h) = check-fault (record { low = omega arith; high = omega arith })
    go (fault_of n) (out_of_range e) = location-fault e

kept : (m : Memory) (g : Field) → Kept (job.content m g)
unfolding judged
kept m g = go (kind_of g.id)
  where
    go : (k : Kind) → Kept (content_by k m g.start g.body)
    go pool_field = kept-pool m g.body
    go zone_field = kept-zone m g.body
    go text_field = kept-text m g.start g.body
    go alias_field = kept-aliases m g.body
    go (location_field field) = kept-locations m field g.body
    go other_field = tt

bytes-all : (f : List ℕ) → Bytes f → All (λ b. b ≤ 255) f
bytes-all [] h = all_none
bytes-all (b ∷ s) h = let l : b ≤ 255 = omega (arith, h 0) in all-also l (bytes-all s (tail-bytes b s h))

-- what the walk of the check comes to
abbrev Ends : Conclusion → Type 0
Ends (Unfit n p) = OfCheck (refusal_number n)
Ends (Bare p) = Unit {0}
Ends (WithText a n) = Unit {0}

conclusion-numbers : (f : List ℕ) → Bytes f → Ends (conclusion f)
unfolding conclusion concluded
conclusion-numbers f b = go (walk job start f) (walk-number job OfCheck (λ i. i ≤ 255) check-file check-above kept start f (bytes-all f b))
  where
    last : (t : TextPlace) (p : ℕ) → Ends (concluded t p)
    last nowhere p = by (eqb p 4)
      where
        by : (t : Bool) → Ends (pick t (Unfit FirstField p) (Bare p))
        by true = check-fault (record { low = omega arith; high = omega arith })
        by false = tt
    last (placed b n) p = by (eqb p 4)
      where
        by : (t : Bool) → Ends (pick t (Unfit FirstField p) (WithText b n))
        by true = check-fault (record { low = omega arith; high = omega arith })
        by false = tt

    go : (o : Out Memory ⊥) → Comes job OfCheck (λ i. i ≤ 255) check-file check-above o → Ends (concludes o)
    go (found v p) h = absurd v
    go (refused n p) h = h
    go (cut p) h = check-cut refl
    go (ended m p) h = last m.text p

-- A CHECK GIVES 0, 2 TO 11, 13, 19 OR 20, and nothing else
verdict-numbers : (x : Conclusion) → Ends x → InTable OfCheck (given_by_verdict (verdict_of x))
verdict-numbers (Unfit n p) h = h
verdict-numbers (Bare p) h = tt
verdict-numbers (WithText a n) h = tt

pub check-numbers : (f : List ℕ) → Bytes f → InTable OfCheck (given_by_verdict (check_of f))
check-numbers f b = verdict-numbers (conclusion f) (conclusion-numbers f b)

-- so number 0 is a well-formed file (well-formed-good in field_checks is the other way)
pub check-zero : (f : List ℕ) → Bytes f → number_given (given_by_verdict (check_of f)) ≡ 0 → WellFormed f
check-zero f b e = good-well-formed f (go (check_of f) (check-numbers f b) e)
  where
    go : (v : Result (Unit {0}) Fault) → InTable OfCheck (given_by_verdict v) → number_given (given_by_verdict v) ≡ 0 → v ≡ Ok tt
    go (Ok tt) h e = refl
    go (Err (n, p)) (check-cut q) e = absurd (omega arith)
    go (Err (n, p)) (check-fault q) e = absurd (omega (arith, q.low))
    go (Err (n, p)) (second-zone q) e = absurd (omega arith)
    go (Err (n, p)) (second_key q) e = absurd (omega arith)
    go (Err (n, p)) (location-fault q) e = absurd (omega arith)

-- THE VERSION TEXT GIVES 0, 2 TO 11, 12, 13, 19 OR 20
pub version-numbers : (f : List ℕ) → Bytes f → InTable OfVersion (given_by_version_text (version_of f))
version-numbers f b = go (conclusion f) (conclusion-numbers f b)
  where
    go : (x : Conclusion) → Ends x → InTable OfVersion (given_by_version_text (text_given x))
    go (Unfit n p) h = version-check h
    go (Bare p) h = no_text refl
    go (WithText a n) h = tt

-- NORMALIZING GIVES 0, 2 TO 11, 13, 15, 19 OR 20, whatever the output
pub normalize-numbers : (f d : List ℕ) → Bytes f → InTable OfNormalize (given_by_rewritten (rewrite_of f d))
unfolding rewrite_of
normalize-numbers f d b = go (check_of f) (check-numbers f b)
  where
    by-room : (t : Bool) → InTable OfNormalize (given_by_rewritten (pick t (Ok (length (preferred f))) (Err (TooShort, 0))))
    by-room true = tt
    by-room false = no_room refl

    go : (v : Result (Unit {0}) Fault) → InTable OfCheck (given_by_verdict v) → InTable OfNormalize (given_by_rewritten (given v (preferred f) d))
    go (Err (n, p)) h = normalize-check h
    go (Ok tt) h = by-room (leb (length (preferred f)) (length d))

-- A QUESTION GIVES 0 TO 12 OR 14, whatever the bytes, and never 13
pub ask-file : (n : ℕ) → OfFile n → OfQuestion n
ask-file n h = question-fault h

ask-above : (i : ℕ) → Unit {0} → ltb 1 i ≡ true → OfQuestion 12
ask-above i u e = no-zone refl

-- the walk to the asked zone, whatever is made of it
module _ {A : Type 0} (P : ℕ → Type 0) (of-file : (n : ℕ) → OfFile n → P n) (above : (i : ℕ) → Unit {0} → ltb 1 i ≡ true → P 12)
    (h : Pool → Zone → A) (id : List ℕ) where
  abbrev pub Said : Content Pool A → Type 0
  Said = Says (asking h id) P (λ i. Unit {0}) of-file above

  pub said : (y : Pool) (g : Field) → Said (says h id y g)
  unfolding says
  said y g =
      one (eqb g.id 0) (pool_says g (parse_pool g.body)) (zone_says h id y (parse_zone (length (strings_of y.body)) g.body))
      (by-pool (parse_pool g.body) refl) (by-zone (parse_zone (length (strings_of y.body)) g.body) (zone-numbers (length (strings_of y.body)) g.body))
    where
      one : (t : Bool) (x z : Content Pool A) → Said x → Said z → Said (pick t x z)
      one true x z a b = a
      one false x z a b = b

      by-pool : (p : PoolContent) → parse_pool g.body ≡ p → Said (pool_says g p)
      by-pool (got ts r) e = tt
      by-pool (fault_of n) e = of-file (refusal_number n) (of-text n (pool-faulty g.body n e))

      by-zone : (p : Parsed Zone) → Fine p → Said (zone_says h id y p)
      by-zone (got z r) f = one (equal (get_or (strings_of y.body) z.id []) id) (answer (h y z)) (keep y) tt tt
      by-zone (fault_of n) f = of-file (refusal_number n) (of-content (refusal_number n) f)

  pub asking-numbers : (bs : List ℕ) → Comes (asking h id) P (λ i. Unit {0}) of-file above (walk (asking h id) no_pool bs)
  asking-numbers bs = walk-number (asking h id) P (λ i. Unit {0}) of-file above said no_pool bs (any bs)

pub question-numbers : (bs id : List ℕ) (z : ℤ) (mark : Mark) (ed : Edition) → InTable OfQuestion (given_by_answer (ask bs id z mark ed))
unfolding ask
question-numbers bs id z mark ed = go (eqb (instant_of z) 0)
  where
    by-mark : (m : Mark) (n : Refusal) (p : ℕ) → OfQuestion (refusal_number n) → InTable OfQuestion (given_by_answer (Err (waiting m n, p)))
    by-mark More n p h = not_yet refl
    by-mark Whole' n p h = h

    done : (o : Out Pool Found) → Comes (question ed id (instant_of z)) OfQuestion (λ i. Unit {0}) ask-file ask-above o → InTable OfQuestion (given_by_answer (finish mark o))
    done (found x p) h = tt
    done (refused n p) h = h
    done (cut p) h = by-mark mark CutShort p (question-cut refl)
    done (ended m p) h = by-mark mark NotFound p (no-zone refl)

    go : (b : Bool) → InTable OfQuestion (given_by_answer (pick b (Err (OutOfRange, 0)) (finish mark (walk (question ed id (instant_of z)) no_pool bs))))
    go true = no-instant refl
    go false = done (walk (question ed id (instant_of z)) no_pool bs) (asking-numbers OfQuestion ask-file ask-above (answer_at ed (instant_of z)) id bs)
