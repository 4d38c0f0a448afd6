-- THE STATES THAT CALLS MAKE: the held bytes are the accepted pieces since the last reset, end to end, and the place is that of their first
-- unfinished field, however a file was cut; between two resets what is held grows at its end. Assumes nothing.
use mathlib.Core.Path.{◌≡◌, refl, sym, ap, ◌∙◌}
use mathlib.Core.Bool.{Bool, true, false}
use mathlib.Core.List.{List, [], ◌∷◌, ◌++◌, append-nil, append_assoc}
use Prim.Native.Nat.{ℕ, ◌+◌, ◌-◌, ◌≤◌}
use native.Mathlib.Omega.{arith}
use lib.ListN.{length, take, drop, length-drop, length-take, length-append}
use lib.Seq.{drop-drop, drop-append_seam}
use lib.Dec.{leb}
use borrow.Author.Tests.{leb-true, le-leb}
use Rattle.base.specs.declared.Refusal.{Refusal}
use Rattle.base.specs.Pick.{pick}
use Rattle.frames.specs.Fields.{refused_at, listing, unfinished}
use Rattle.extents.specs.declared.Extent.{Extent}
use Rattle.extents.specs.Extent.{none, steps, extent_of}
use Rattle.extents.proofs.ExtentLaws.{extent-resumes, extent-place, refused-stays}
use Rattle.receivers.specs.declared.Receiver.{Receiver}
use Rattle.receivers.specs.Receive.{fits, walked, holding, outcome_of, buffer_of}
use Rattle.receivers.specs.Calls.{Call, add, reset, State, held_in, start, after, run, accepted, Holds, in_pieces, joined, Grown}
use Rattle.receivers.proofs.PieceLaws.{front}

-- a receiver that holds bs, and whose walk stands where that over bs stops
pub record Made (s : State) (n : ℕ) (bs : List ℕ) : Type 0 where
  pub room : length s.buffer ≡ n
  pub held : s.receiver.held ≡ length bs
  pub bytes : held_in s ≡ bs
  pub walk : walked s.receiver ≡ extent_of bs none

pub made_holds : (s : State) (n : ℕ) (bs : List ℕ) → Made s n bs → Holds s n bs
made_holds s n bs m = record {
  room = m.room;
  held = m.held;
  bytes = m.bytes;
  place = ap (λ (c : Extent). c.at) m.walk ∙ extent-place bs;
}

made-start : (d : List ℕ) → Made (start d) (length d) []
unfolding steps
made-start d = record { room = refl; held = refl; bytes = refl; walk = refl }

-- one piece: taken, or refused and nothing changed
module _ (s : State) (n : ℕ) (bs p : List ℕ) (m : Made s n bs) where
  within : s.receiver.held ≤ length s.buffer
  within = omega (arith, m.held, ap length m.bytes, length-take s.receiver.held s.buffer)

  same-test : fits s.receiver s.buffer p ≡ leb (length bs + length p) n
  same-test = rw (m.held, m.room) refl

  module _ (e : leb (length bs + length p) n ≡ false) where
    refused-same : after s (add p) ≡ s
    unfolding outcome_of buffer_of
    refused-same = rw (same-test ∙ e) refl

  module _ (e : leb (length bs + length p) n ≡ true) where
    fit : length bs + length p ≤ n
    fit = leb-true (length bs + length p) n e

    abbrev rest : List ℕ
    rest = drop (s.receiver.held + length p) s.buffer

    taken-receiver : (after s (add p)).receiver ≡ holding (s.receiver.held + length p) (extent_of (held_in s ++ p) (walked s.receiver))
    unfolding outcome_of
    taken-receiver = rw (same-test ∙ e) refl

    taken-held : (after s (add p)).receiver.held ≡ s.receiver.held + length p
    taken-held = ap (λ (r : Receiver). r.held) taken-receiver

    taken-buffer : (after s (add p)).buffer ≡ held_in s ++ (p ++ rest)
    unfolding buffer_of
    taken-buffer = rw (same-test ∙ e) refl

    made-taken : Made (after s (add p)) n (bs ++ p)
    made-taken = record {
      room = ap length taken-buffer ∙ simp (length-append, m.bytes, length-drop) (omega (arith, fit, m.held, m.room));
      held = taken-held ∙ rw (length-append, m.held) refl;
      bytes =
          ap (λ (k : ℕ). take k (after s (add p)).buffer) taken-held ∙ ap (take (s.receiver.held + length p)) taken-buffer
          ∙ front s.receiver.held s.buffer p rest within ∙ ap (λ (l : List ℕ). l ++ p) m.bytes;
      walk =
          ap walked taken-receiver ∙ ap (λ (l : List ℕ). extent_of (l ++ p) (walked s.receiver)) m.bytes ∙ ap (extent_of (bs ++ p)) m.walk
          ∙ extent-resumes bs p none (omega arith);
    }

    -- behind the piece the buffer is as found
    taken-rest : drop (after s (add p)).receiver.held (after s (add p)).buffer ≡ drop (after s (add p)).receiver.held s.buffer
    taken-rest =
        let l : s.receiver.held + length p ≡ length (held_in s ++ p) = rw (length-append, m.bytes, m.held) refl in
        rw taken-held
        (ap (drop (s.receiver.held + length p)) (taken-buffer ∙ sym (append_assoc (held_in s) p rest))
        ∙ ap (λ (k : ℕ). drop k ((held_in s ++ p) ++ rest)) l ∙ drop-append_seam (held_in s ++ p) rest)

  pub made-piece : Made (after s (add p)) n (pick (leb (length bs + length p) n) (bs ++ p) bs)
  made-piece = go (leb (length bs + length p) n) refl
    where
      go : (t : Bool) → leb (length bs + length p) n ≡ t → Made (after s (add p)) n (pick t (bs ++ p) bs)
      go false e = rw (refused-same e) m
      go true e = made-taken e

made-run : (s : State) (n : ℕ) (bs : List ℕ) (cs : List Call) → Made s n bs → Made (run s cs) n (accepted n bs cs)
unfolding run accepted
made-run s n bs [] m = m
made-run s n bs (add p ∷ cs) m = made-run (after s (add p)) n _ cs (made-piece s n bs p m)
made-run s n bs (reset ∷ cs) m = made-run (start s.buffer) n [] cs (rw m.room at (made-start s.buffer))

-- "the held bytes are the accepted pieces since the last reset, end to end .. so however an accepted file is cut, place and answers end as
-- for one piece"
pub receives : (d : List ℕ) (cs : List Call) → Holds (run (start d) cs) (length d) (accepted (length d) [] cs)
receives d cs = made_holds _ _ _ (made-run (start d) (length d) [] cs (made-start d))

-- all of a file that the buffer has room for, in whatever pieces
accepted-all : (n : ℕ) (bs : List ℕ) (ps : List (List ℕ)) → length (bs ++ joined ps) ≤ n → accepted n bs (in_pieces ps) ≡ bs ++ joined ps
unfolding accepted in_pieces joined
accepted-all n bs [] l = sym (append-nil bs)
accepted-all n bs (p ∷ ps) l =
    let e = append_assoc bs p (joined ps) in
    let t : leb (length bs + length p) n ≡ true = le-leb (length bs + length p) n (omega (arith, length-append bs (p ++ joined ps), length-append p (joined ps))) in
    ap (λ (b : Bool). accepted n (pick b (bs ++ p) bs) (in_pieces ps)) t ∙ accepted-all n (bs ++ p) ps (rw e l) ∙ e

pub however-cut : (d : List ℕ) (ps : List (List ℕ)) → length (joined ps) ≤ length d → Holds (run (start d) (in_pieces ps)) (length d) (joined ps)
however-cut d ps l = rw (accepted-all (length d) [] ps l) at (receives d (in_pieces ps))

-- BETWEEN TWO RESETS
record Longer (s t : State) : Type 0 where
  pub grown : Grown s t
  pub longer : s.receiver.held ≤ t.receiver.held

stay-longer : (s : State) → Longer s s
stay-longer s = record { grown = record { more = []; behind = sym (append-nil (held_in s)); rest = refl }; longer = omega arith }

then-longer : (s u t : State) → Longer s u → Longer u t → Longer s t
then-longer s u t g h =
    let a = u.receiver.held in
    let k = t.receiver.held - a in
    let e : t.receiver.held ≡ a + k = omega (arith, h.longer) in
    record {
      grown = record {
        more = g.grown.more ++ h.grown.more;
        behind = h.grown.behind ∙ ap (λ (l : List ℕ). l ++ h.grown.more) g.grown.behind ∙ append_assoc (held_in s) g.grown.more h.grown.more;
        rest =
            h.grown.rest ∙ ap (λ (i : ℕ). drop i u.buffer) e ∙ sym (drop-drop k a u.buffer) ∙ ap (drop k) g.grown.rest
            ∙ drop-drop k a s.buffer ∙ ap (λ (i : ℕ). drop i s.buffer) (sym e);
      };
      longer = omega (arith, g.longer, h.longer);
    }

module _ (s : State) (n : ℕ) (bs p : List ℕ) (m : Made s n bs) where
  piece-longer : Longer s (after s (add p))
  piece-longer = go (leb (length bs + length p) n) refl
    where
      go : (t : Bool) → leb (length bs + length p) n ≡ t → Longer s (after s (add p))
      go false e = rw (refused-same s n bs p m e) (stay-longer s)
      go true e = record {
        grown = record {
          more = p;
          behind = (made-taken s n bs p m e).bytes ∙ ap (λ (l : List ℕ). l ++ p) (sym m.bytes);
          rest = taken-rest s n bs p m e;
        };
        longer = omega (arith, taken-held s n bs p m e);
      }

made-longer : (s : State) (n : ℕ) (bs : List ℕ) (ps : List (List ℕ)) → Made s n bs → Longer s (run s (in_pieces ps))
unfolding run in_pieces
made-longer s n bs [] m = stay-longer s
made-longer s n bs (p ∷ ps) m =
    then-longer s (after s (add p)) _ (piece-longer s n bs p m) (made-longer (after s (add p)) n _ ps (made-piece s n bs p m))

run-append : (s : State) (cs es : List Call) → run s (cs ++ es) ≡ run (run s cs) es
unfolding run
run-append s [] es = refl
run-append s (c ∷ cs) es = run-append (after s c) cs es

-- after any calls cs, a run of pieces without a reset
module _ (d : List ℕ) (cs : List Call) (ps : List (List ℕ)) where
  abbrev earlier : State
  earlier = run (start d) cs

  abbrev later : State
  later = run (start d) (cs ++ in_pieces ps)

  pub grows : Grown earlier later
  grows = rw (run-append (start d) cs (in_pieces ps)) (made-longer earlier (length d) _ ps (made-run (start d) (length d) [] cs (made-start d))).grown

  -- "where 4 to 7 at an ID or size stops the walk, that ID byte for good"; and 0 after 3
  pub for-good : (k : Refusal) (q : ℕ) → (listing 255 (held_in earlier)).ending ≡ refused_at k q → later.receiver.place ≡ earlier.receiver.place
  for-good k q e =
      let h = receives d cs in
      let w = receives d (cs ++ in_pieces ps) in
      w.place ∙ ap unfinished (sym w.bytes ∙ grows.behind) ∙ refused-stays (held_in earlier) grows.more k q e ∙ ap unfinished h.bytes ∙ sym h.place
