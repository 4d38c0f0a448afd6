-- What a text is refused with. Assumes nothing.
use Rattle.base.specs.declared.Refusal.{Refusal}
use Rattle.std.specs.Prelude.{Err, Ok, Result}
use Rattle.base.specs.Coded.{Coded}
use Rattle.base.specs.declared.Refusal.TheVariants.{BadCode, BadData, BadText, TooLarge}
use mathlib.Core.Path.{◌≡◌, refl, sym, ◌∙◌, ap}
use mathlib.Core.List.{List}
use mathlib.Core.Bool.{Bool, true, false}
use mathlib.Core.Logic.{◌⊎◌, inl, inr}
use Prim.Native.Nat.{ℕ, ◌-◌}
use lib.Dec.{ltb}
use lib.ListN.{length, take, drop}
use Rattle.base.specs.Pick.{pick}
use Rattle.counts.specs.Count.{read_count}
use Rattle.counts.proofs.CountLaws.{count-refused}
use Rattle.utf8.specs.Utf8.{utf8}
use Rattle.texts.specs.Text.{text_sized, read_text}
use Rattle.base.proofs.Tests.{clash}
pub use Rattle.texts.specs.Facts.{Faulty}

-- a count is refused with 7 or 9
pub count-faulty : (s : List ℕ) (m : Refusal) → read_count s ≡ Err m → Faulty m
count-faulty s m e = go (count-refused s (sym e))
  where
    go : (m ≡ BadCode) ⊎ (m ≡ BadData) → Faulty m
    go (inl h) = inr (inl h)
    go (inr h) = inr (inr (inr h))

pub text-faulty : (s : List ℕ) (m : Refusal) → read_text s ≡ Err m → Faulty m
unfolding text_sized
text-faulty s m e = go (read_count s) refl e
  where
    three : (n a : ℕ) (t : Bool) → pick {A = Result (ℕ × ℕ) Refusal} t (Ok (a, n)) (Err BadText) ≡ Err m → Faulty m
    three n a true q = clash cc
    three n a false q = inr (inr (inl cc))

    two : (n a : ℕ) (t : Bool) → pick {A = Result (ℕ × ℕ) Refusal} t (Err BadData) (pick (utf8 (take n (drop a s))) (Ok (a, n)) (Err BadText)) ≡ Err m → Faulty m
    two n a true q = inr (inr (inr cc))
    two n a false q = three n a (utf8 (take n (drop a s))) q

    one : (n a : ℕ) (t : Bool)
        → pick {A = Result (ℕ × ℕ) Refusal} t (Err TooLarge) (pick (ltb (length s - a) n) (Err BadData) (pick (utf8 (take n (drop a s))) (Ok (a, n)) (Err BadText))) ≡ Err m → Faulty m
    one n a true q = inl cc
    one n a false q = two n a (ltb (length s - a) n) q

    go : (g : Coded ℕ) → read_count s ≡ g → text_sized s g ≡ Err m → Faulty m
    go (Err j) h q = let z : j ≡ m = cc in count-faulty s m (h ∙ ap Err z)
    go (Ok (n, a)) h q = one n a (ltb 1024 n) q
