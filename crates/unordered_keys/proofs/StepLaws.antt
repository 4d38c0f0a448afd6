-- The entries one by one, with what is remembered of them. Assumes nothing.
use Rattle.base.specs.declared.Refusal.TheVariants.{SecondAlias}
use Rattle.base.specs.declared.Refusal.{Refusal}
use Rattle.std.specs.Prelude.{Err, Ok, Result}
use mathlib.Core.Path.{◌≡◌, refl, ◌∙◌}
use mathlib.Core.Bool.{Bool, true, false}
use mathlib.Core.List.{List, [], ◌∷◌, ◌++◌}
use Prim.Native.Nat.{ℕ, ◌+◌, ◌≤◌, ◌<◌}
use native.Mathlib.Omega.{arith}
use lib.ListN.{length, drop, replicate, length-replicate}
use Rattle.base.specs.Parsed.{got, bad}
use Rattle.ids.proofs.MemoryLaws.{keeps-start}
use Rattle.aliases.specs.Dictionary.{entry, Dictionary, keys}
use Rattle.aliases.proofs.KeyLaws.{keys-more, keeps_same}
use Rattle.old_texts.specs.OldText.{parse_old_text}
use Rattle.old_dictionaries.specs.OldDictionary.{after_key, parse_entry, parse_entries, found_of}
use Rattle.old_dictionaries.specs.Pairs.{key_among}
use Rattle.old_dictionaries.specs.View.{part}
use Rattle.old_dictionaries.proofs.EntryLaws.{Walk, walk_start, walk-known, walk-bad, walk-next, walk-done}
use Rattle.unordered_keys.specs.Keys.{limit_of, KeyTaken, Remembers, Judged, StepTo, Stepped, Arrays}
use Rattle.unordered_keys.proofs.KeyLaws.{keys_length}

pub arrays : (s st en : List ℕ) (n : ℕ) (od : List ℕ) (mem : List (List ℕ)) → Remembers s st en n od mem → Arrays s st en n od
arrays s st en n od mem r = record { most = λ l. let h = r.most l in record { inside = h.inside; wide = h.wide; sorted = h.keeps.sorted } }

-- whether a key is one of n
module _ (s : List ℕ) (from n : ℕ) (st en od x : List ℕ) (r : Bool) where
  pub judged-taken : (st' en' od' : List ℕ) → n < limit_of s (length st) → KeyTaken s st en n od x st' en' od' r → Judged s from n st en od x st' en' od' r
  judged-taken st' en' od' l t =
      record {
        said = λ mem k m. t.said mem (m.most (omega arith));
        kept = λ mem m e. record { most = λ h. t.kept mem (m.most (omega arith)) e };
      }

  pub judged-past : limit_of s (length st) ≤ n → r ≡ key_among n x (drop from s) → Judged s from n st en od x st en od r
  judged-past l q =
      record {
        said = λ mem k m. q ∙ k x;
        kept = λ mem m e. record { most = λ h. absurd (omega arith) };
      }

-- the entry at a place
module _ (s : List ℕ) (from n place : ℕ) (st en od : List ℕ) where
  pub step-unread : (k : Refusal) → parse_old_text (drop place s) ≡ bad k → Stepped s from n place st en od st en od (Err k)
  unfolding parse_entry
  step-unread k e = record { means = λ pre h m. rw e }

  -- its key goes from b to c
  module _ (b c : ℕ) (e : parse_old_text (drop place s) ≡ got (part b c s) (drop c s)) (st' en' od' : List ℕ) (r : Bool)
      (j : Judged s from n st en od (part b c s) st' en' od' r) where
    pub step-second : r ≡ true → Stepped s from n place st en od st' en' od' (Err SecondAlias)
    unfolding parse_entry after_key
    step-second q = record { means = λ pre h m. rw (e, ← (j.said (keys pre) h m), q) }

    module _ (q : r ≡ false) where
      pub step-valueless : (k : Refusal) → parse_old_text (drop c s) ≡ bad k → Stepped s from n place st en od st' en' od' (Err k)
      unfolding parse_entry after_key
      step-valueless k f = record { means = λ pre h m. rw (e, ← (j.said (keys pre) h m), q, f) }

      pub step-next : (v d : ℕ) → d ≤ length s → parse_old_text (drop c s) ≡ got (part v d s) (drop d s) → Stepped s from n place st en od st' en' od' (Ok d)
      unfolding parse_entry after_key
      step-next v d l f =
          record {
            means = λ pre h m. (
              l,
              entry (part b c s) (part v d s),
              rw (e, ← (j.said (keys pre) h m), q, f),
              remembers pre (j.kept (keys pre) m q),
            );
          }
        where
          remembers : (pre : Dictionary) → Remembers s st' en' (n + 1) od' (part b c s ∷ keys pre)
              → Remembers s st' en' (n + 1) od' (keys (pre ++ (entry (part b c s) (part v d s) ∷ [])))
          remembers pre m =
              record {
                most = λ g.
                    let t = m.most g in
                    record { inside = t.inside; wide = t.wide; keeps = keeps_same _ od' (n + 1) _ _ (keys-more pre (entry (part b c s) (part v d s))) t.keeps };
              }

-- the loop over the entries, and what is remembered of them
pub record Reading (s : List ℕ) (from n : ℕ) (st en od : List ℕ) (done place : ℕ) : Type 0 where
  pub pre : Dictionary
  pub walk : Walk s from n done place pre
  pub remembers : Remembers s st en done od (keys pre)

-- arrays of zeros
pub remembers-none : (s : List ℕ) (m k : ℕ) → m ≤ 8192 → m + 257 ≤ k → Remembers s (replicate m 0) (replicate m 0) 0 (replicate k 0) []
remembers-none s m k r w =
    record {
      most = λ l.
          record {
            inside =
                record {
                  room = omega (arith, length-replicate {A = ℕ} m 0);
                  ends = refl;
                  few = omega arith;
                  order = λ k l. absurd (omega arith);
                  inside = λ k l. absurd (omega arith);
                };
            wide = omega (arith, length-replicate {A = ℕ} m 0, length-replicate {A = ℕ} k 0);
            keeps = keeps-start _ k (omega (arith, keys_length s (replicate m 0) (replicate m 0) 0));
          };
    }

pub reading-start : (s : List ℕ) (from n : ℕ) (st en od : List ℕ) → from ≤ length s → Remembers s st en 0 od [] → Reading s from n st en od 0 from
unfolding keys
reading-start s from n st en od h r = record { pre = []; walk = walk_start s from n h; remembers = r }

module _ (s : List ℕ) (from n : ℕ) (st en od : List ℕ) (done place : ℕ) (g : Reading s from n st en od done place) where
  module _ (some : done < n) (st' en' od' : List ℕ) (r : Result ℕ Refusal) (t : Stepped s from done place st en od st' en' od' r) where
    to : StepTo s g.pre (parse_entry g.pre (drop place s)) st' en' done od' r
    to = t.means g.pre (walk-known s from n done place g.pre g.walk) g.remembers

    pub reading-bad : (k : Refusal) → r ≡ Err k → Err k ≡ found_of s (parse_entries n [] (drop from s))
    reading-bad k e = walk-bad s from n done place g.pre g.walk some k (rw e at to)

    next-at : (d : ℕ) → StepTo s g.pre (parse_entry g.pre (drop place s)) st' en' done od' (Ok d) → Reading s from n st' en' od' (done + 1) d
    next-at d q =
        record {
          pre = g.pre ++ (q.1 ∷ []);
          walk = walk-next s from n done place g.pre g.walk some d q.1 q.0 q.2;
          remembers = q.3;
        }

    pub reading-next : (d : ℕ) → r ≡ Ok d → Reading s from n st' en' od' (done + 1) d
    reading-next d e = next-at d (rw e at to)

  pub reading-done : n ≤ done → Ok (n, place) ≡ found_of s (parse_entries n [] (drop from s))
  reading-done = walk-done s from n done place g.pre g.walk
