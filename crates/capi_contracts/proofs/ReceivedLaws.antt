-- What a function says of what a receiver holds, from one return each. Assumes nothing.
use Rattle.base.specs.declared.Refusal.TheVariants.{TooShort}
use Rattle.std.specs.Prelude.{Err}
use mathlib.Core.Bool.{Bool, true}
use mathlib.Core.Path.{◌≡◌, refl, sym}
use mathlib.Core.List.{List}
use Prim.Native.Nat.{ℕ, ◌≤◌, ◌<◌}
use native.Mathlib.Omega.{arith}
use lib.IntN.{ℤ}
use lib.Ieee.{Float}
use lib.ListN.{length}
use Rattle.receivers.specs.Receive.{held_bytes}
use Rattle.receivers.specs.declared.Receiver.{Receiver}
use Rattle.receivers.proofs.HeldLaws.{over-full, on-held}
use Rattle.file_locations.specs.ByField.{location_by}
use Rattle.location_replies.specs.Locations.{GivesLocation}
use Rattle.replies.specs.Reply.{Reply, refused, Gives}
use Rattle.replies.proofs.ReplyLaws.{denied-code, gives_as}
use Rattle.location_replies.proofs.LocationLaws.{location-as}
use Rattle.capi_contracts.specs.Functions.{MapsLocal}
use Rattle.capi_contracts.specs.Received.{reply_on_held, ask_received, ask_plain_received, location_received, MapsReceived}

module _ (q : List ℕ → Reply) (r : Receiver) (d : List ℕ) (o : List ℤ) where
  pub full-gives : length d < r.held → Gives (reply_on_held q r d) o 15 o
  full-gives l = denied-code _ o TooShort (sym (over-full r d (refused TooShort 0) q l))

  pub held_gives : r.held ≤ length d → (x : ℕ) (e : List ℤ) → Gives (q (held_bytes r d)) o x e → Gives (reply_on_held q r d) o x e
  held_gives l x e g = gives_as _ _ o x e (on-held r d (refused TooShort 0) q l) g

-- the plain question of a receiver expects more
pub plain-received : (r : Receiver) (d id : List ℕ) (z : ℤ) (first : Bool) → ask_plain_received r d id z first ≡ ask_received r d id z true first
plain-received r d id z first = refl

module _ (r : Receiver) (d : List ℕ) (field number : ℕ) (c : List Float) (o : List ℕ) where
  pub full-location : length d < r.held → GivesLocation (location_received r d field number) c o 15 c o
  full-location l =
      location-as _ _ c o 15 c o (over-full r d (Err (TooShort, 0)) (λ f. location_by f field number) l) (record { result = refl; pin = refl; output = refl })

  pub held-location : r.held ≤ length d → (x : ℕ) (e : List Float) (g : List ℕ) → GivesLocation (location_by (held_bytes r d) field number) c o x e g
      → GivesLocation (location_received r d field number) c o x e g
  held-location l x e g k = location-as _ _ c o x e g (on-held r d (Err (TooShort, 0)) (λ f. location_by f field number) l) k

module _ (r : Receiver) (d id : List ℕ) (local : ℤ) (o : List ℤ) where
  pub full-maps : length d < r.held → MapsReceived r d id local o 15 o
  full-maps l = record { full = λ k. denied-code _ _ TooShort refl; of-held = λ k. absurd (omega (arith, l)) }

  pub held-maps : r.held ≤ length d → (x : ℕ) (e : List ℤ) → MapsLocal (held_bytes r d) id local o x e → MapsReceived r d id local o x e
  held-maps l x e g = record { full = λ k. absurd (omega (arith, l)); of-held = λ k. g }
