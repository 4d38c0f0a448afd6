-- A question on what a receiver holds. To be believed.
use Rattle.std.specs.Prelude.{ℕ, List, length, leb}
use Rattle.base.specs.Pick.{pick}
use Rattle.receivers.specs.Receive.{held_bytes}
use Rattle.receivers.specs.declared.Receiver.{Receiver}

-- "Every question gets what it would on the held bytes ..; a question on one that holds more than the buffer gets 15 first": the question q,
-- or full, of what r holds of the buffer d
abbrev pub on_held : {A : Type 0} → A → (List ℕ → A) → Receiver → List ℕ → A
on_held full q r d = pick (leb r.held (length d)) (q (held_bytes r d)) full
