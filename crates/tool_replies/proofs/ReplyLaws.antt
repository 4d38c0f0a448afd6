-- What each reply says of an answer and of a refusal, where the functions that give it are shared. Assumes nothing.
use Rattle.base.specs.declared.Refusal.{Refusal}
use Rattle.std.specs.Prelude.{Err, Ok, pos}
use mathlib.Core.Path.{◌≡◌, refl}
use mathlib.Core.List.{[], ◌∷◌}
use Prim.Native.Nat.{ℕ}
use Rattle.replies.specs.Reply.{refusal, of_length, numbers, refused}
use Rattle.tool_replies.specs.Functions.{search_reply, filling_reply, listing_reply, closed_result}

pub search-found : (p k : ℕ) → search_reply (Ok (p, k)) ≡ numbers (pos p ∷ pos k ∷ [])
search-found p k = refl

pub search-refused : (k : Refusal) (p : ℕ) → search_reply (Err (k, p)) ≡ refused k p
search-refused k p = refl

pub filling-filled : (n : ℕ) → filling_reply (Ok n) ≡ numbers (pos n ∷ [])
filling-filled n = refl

pub filling-refused : (k : Refusal) (p : ℕ) → filling_reply (Err (k, p)) ≡ refused k p
filling-refused k p = refl

pub listing-listed : (n : ℕ) → listing_reply (Ok n) ≡ numbers (pos n ∷ [])
listing-listed n = refl

pub listing-refused : (k : Refusal) (p : ℕ) → listing_reply (Err (k, p)) ≡ refused k p
listing-refused k p = refl

pub closed-length : (n : ℕ) → closed_result (Ok n) ≡ of_length n
closed-length n = refl

pub closed-refused : (k : Refusal) (p : ℕ) → closed_result (Err (k, p)) ≡ refusal k p
closed-refused k p = refl
