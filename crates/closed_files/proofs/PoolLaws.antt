-- A pool that was written reads back as its strings. Assumes nothing.
use mathlib.Core.Path.{◌≡◌, refl, ap, ap₂, ◌∙◌}
use mathlib.Core.List.{List, [], ◌∷◌, ◌++◌}
use Prim.Native.Nat.{ℕ, suc, ◌+◌, ◌≤◌}
use native.Mathlib.Omega.{arith}
use lib.ListN.{length, get_or, length-append, get_or-eq_default}
use lib.Seq.{drop_at, drop-append_seam}
use borrow.Author.Tests.{le-ltb}
use Rattle.base.specs.All.{All, all_none, all-also}
use Rattle.base.specs.Parsed.{got, ended, many}
use Rattle.base.proofs.AllLaws.{all_head, all_tail}
use Rattle.base.proofs.Tests.{by_order}
use Rattle.counts.specs.Count.{write_count}
use Rattle.counts.proofs.CountLaws.{count-written}
use Rattle.utf8.specs.Utf8.{chars}
use Rattle.texts.specs.Text.{parse_text, behind_text, write_text}
use Rattle.texts.proofs.SizedLaws.{sized-back}
use Rattle.texts.proofs.TextLaws.{Fit, text-written}
use Rattle.pool.specs.Pool.{read_strings, all_strings, counted, parse_pool, strings_of}
use Rattle.pool.proofs.PoolLaws.{string-fit}
use Rattle.closed_files.specs.File.{chosen, write_texts, write_pool}

pub length-chosen : (ts : List (List ℕ)) (order : List ℕ) → length (chosen ts order) ≡ length order
unfolding chosen
length-chosen ts [] = refl
length-chosen ts (k ∷ ks) = ap suc (length-chosen ts ks)

-- ---- the strings fit
no-bytes-fit : Fit []
unfolding chars
no-bytes-fit = record { small = omega arith; valid = refl }

-- a string that isn't there is empty
string-fits : (d : List ℕ) (k : ℕ) → Fit (get_or (strings_of d) k [])
string-fits d k =
    by_order k (length (strings_of d)) (λ l. string-fit d k l) (λ l. rw (get_or-eq_default (strings_of d) [] {n = k} l) no-bytes-fit)

chosen-fit : (d order : List ℕ) → All Fit (chosen (strings_of d) order)
unfolding chosen
chosen-fit d [] = all_none
chosen-fit d (k ∷ ks) = all-also (string-fits d k) (chosen-fit d ks)

-- ---- what is written reads back
text-reads-back : (t rest : List ℕ) → Fit t → parse_text (write_text t ++ rest) ≡ got t rest
text-reads-back t rest f =
    let w : List ℕ = write_count (length t) in
    let n : length (write_text t) ≡ length w + length t = length-append w t in
    ap (behind_text (write_text t ++ rest)) (text-written t rest f)
    ∙ ap₂ got (sized-back w t rest) (drop_at (write_text t) rest (length w + length t) n)

texts-read-back : (ts : List (List ℕ)) → All Fit ts → read_strings (length ts) (write_texts ts) ≡ got ts []
unfolding many write_texts
texts-read-back [] h = refl
texts-read-back (t ∷ ts) h = rw (text-reads-back t (write_texts ts) (all_head h), texts-read-back ts (all_tail h))

written-reads-back : (ts : List (List ℕ)) → length ts ≤ 8192 → All Fit ts → parse_pool (write_pool ts) ≡ got ts []
unfolding write_pool counted all_strings ended
written-reads-back ts h f =
    let w : List ℕ = write_count (length ts) in
    let s : List ℕ = write_texts ts in
    rw (count-written (length ts) s (omega arith), drop-append_seam w s, le-ltb 8192 (length ts) h, texts-read-back ts f)

-- THE POOL OF A CLOSED FILE reads back as the strings that were chosen
pub pool-reads-back : (d order : List ℕ) → length order ≤ 8192
    → parse_pool (write_pool (chosen (strings_of d) order)) ≡ got (chosen (strings_of d) order) []
pool-reads-back d order h = written-reads-back (chosen (strings_of d) order) (rw length-chosen h) (chosen-fit d order)
