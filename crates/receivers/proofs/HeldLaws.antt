-- A question on what a receiver holds, by whether the buffer has as much, and of the states that calls make. Assumes nothing.
use mathlib.Core.Path.{◌≡◌, sym, ap, ◌∙◌}
use mathlib.Core.List.{List, []}
use Prim.Native.Nat.{ℕ, ◌≤◌, ◌<◌}
use native.Mathlib.Omega.{arith}
use lib.ListN.{length, take, length-take}
use lib.Seq.{length-take-le}
use borrow.Author.Tests.{le-leb, lt-leb}
use Rattle.receivers.specs.Receive.{held_bytes}
use Rattle.receivers.specs.OnHeld.{on_held}
use Rattle.receivers.specs.Calls.{Call, start, run, accepted}
use Rattle.receivers.specs.declared.Receiver.{Receiver}
use Rattle.receivers.proofs.CallLaws.{receives}

module _ (r : Receiver) (d : List ℕ) where
  pub held-within : r.held ≤ length d → r.held ≡ length (take r.held d)
  held-within l = sym (length-take-le r.held d l)

  module _ {A : Type 0} (full : A) (q : List ℕ → A) where
    pub over-full : length d < r.held → full ≡ on_held full q r d
    over-full l = rw (lt-leb r.held (length d) l)

    pub on-held : r.held ≤ length d → q (held_bytes r d) ≡ on_held full q r d
    on-held l = rw (le-leb r.held (length d) l)

-- "so however an accepted file is cut, place and answers end as for one piece": of a receiver that calls made, what the accepted pieces get
pub asks-accepted : {A : Type 0} (full : A) (q : List ℕ → A) (d : List ℕ) (cs : List Call)
    → on_held full q (run (start d) cs).receiver (run (start d) cs).buffer ≡ q (accepted (length d) [] cs)
asks-accepted full q d cs =
    let h = receives d cs in
    let s = run (start d) cs in
    sym (on-held s.receiver s.buffer full q (omega (arith, h.held, ap length h.bytes, length-take s.receiver.held s.buffer))) ∙ ap q h.bytes
