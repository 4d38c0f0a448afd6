-- What the C functions say of what a receiver holds. To be believed: what programs in C are told.
use Rattle.location_lookup.specs.declared.Located.{Located}
use Rattle.base.specs.declared.Refusal.TheVariants.{TooShort}
use Rattle.base.specs.Coded.{Fault}
use Rattle.std.specs.Prelude.{ℕ, ◌≤◌, ◌<◌, Bool, List, ◌≡◌, ℤ, length, Err, Result}
use Rattle.field_checks.specs.Check.{version_of}
use Rattle.questions.specs.Question.{ask, ask_plain}
use Rattle.named_fields.specs.Named.{ask_named}
use Rattle.rewrite.specs.Preferred.{rewrite_of, output_of}
use Rattle.receivers.specs.Receive.{held_bytes}
use Rattle.receivers.specs.OnHeld.{on_held}
use Rattle.receivers.specs.declared.Receiver.{Receiver}
use Rattle.replies.specs.Reply.{refusal, Reply, refused, Gives}
use Rattle.file_replies.specs.Functions.{rewritten_result, mark_of, answer_reply, version_reply, edition_of}
use Rattle.file_locations.specs.ByField.{location_by}
use Rattle.capi_contracts.specs.Functions.{MapsLocal}

-- "a question on one that holds more than the buffer gets 15 first"
abbrev pub reply_on_held : (List ℕ → Reply) → Receiver → List ℕ → Reply
reply_on_held q r d = on_held (refused TooShort 0) q r d

abbrev pub ask_received : Receiver → List ℕ → List ℕ → ℤ → Bool → Bool → Reply
ask_received r d id z more first = reply_on_held (λ bs. answer_reply (ask bs id z (mark_of more) (edition_of first))) r d

abbrev pub ask_plain_received : Receiver → List ℕ → List ℕ → ℤ → Bool → Reply
ask_plain_received r d id z first = reply_on_held (λ bs. answer_reply (ask_plain bs id z (edition_of first))) r d

abbrev pub ask_named_received : Receiver → List ℕ → List ℕ → ℤ → Bool → Bool → Reply
ask_named_received r d name z more first = reply_on_held (λ bs. answer_reply (ask_named bs name z (mark_of more) (edition_of first))) r d

-- a mapping is said by what holds of it: the result x and the output e, where the output was o
pub record MapsReceived (r : Receiver) (d id : List ℕ) (local : ℤ) (o : List ℤ) (x : ℕ) (e : List ℤ) : Type 0 where
  pub full : length d < r.held → Gives (refused TooShort 0) o x e
  pub of-held : r.held ≤ length d → MapsLocal (held_bytes r d) id local o x e

abbrev pub location_received : Receiver → List ℕ → ℕ → ℕ → Result Located Fault
location_received r d field number = on_held (Err (TooShort, 0)) (λ f. location_by f field number) r d

abbrev pub version_received : Receiver → List ℕ → Reply
version_received r d = reply_on_held (λ f. version_reply (version_of f)) r d

-- the result x and the output e at the return of normalizing, where the output was o
pub record NormalizesReceived (r : Receiver) (d o : List ℕ) (x : ℕ) (e : List ℕ) : Type 0 where
  pub result : x ≡ on_held (refusal TooShort 0) (λ f. rewritten_result (rewrite_of f o)) r d
  pub output : e ≡ on_held o (λ f. output_of f o) r d
