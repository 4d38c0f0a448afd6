-- What the flags of a file's zones say, from field to field. Assumes nothing.
use Rattle.base.specs.declared.Refusal.{Refusal}
use Rattle.std.specs.Prelude.{Ok, Result}
use mathlib.Core.Path.{◌≡◌, refl, sym, ◌∙◌, ap, subst}
use mathlib.Core.Bool.{true, false}
use mathlib.Core.List.{List, [], ◌∷◌, ◌++◌, append-nil, append_assoc}
use Prim.Native.Nat.{ℕ, zero, suc, ◌+◌, ◌-◌, ◌≤◌, ◌<◌}
use native.Mathlib.Omega.{arith}
use lib.ListN.{length, take, drop, length-drop}
use lib.Seq.{drop-drop}
use native.Mathlib.Nat.{pos_of_ne-zero}
use borrow.Author.Tests.{lt-ltb, le-ltb}
use Rattle.base.specs.All.{All, all_none, all-also}
use Rattle.base.proofs.AllLaws.{all_map, all_append}
use Rattle.base.proofs.Parts.{part-from}
use Rattle.base.proofs.Tests.{clash}
use Rattle.pieces.specs.Form.{Flagged}
use Rattle.frames.specs.Frame.{frame}
use Rattle.frames.specs.Fields.{listed, scan, listing, fields}
use Rattle.frames.specs.Machine.{field_at}
use Rattle.frames.specs.declared.Frame.{Frame}
use Rattle.frames.specs.declared.Frame.TheVariants.{End, Version, Whole}
use Rattle.frames.proofs.HeadLaws.{whole-headed}
use Rattle.frames.proofs.StepLaws.{whole_room, version-room}
use Rattle.field_checks.specs.Check.{verdict_of}
use Rattle.field_readers.specs.Remembered.{part}
use Rattle.check_steps.specs.Cursor.{seen_at}
use Rattle.field_readers.specs.Flags.{FlagsTaken}
use Rattle.check_steps.specs.Flags.{ZoneFlagged, AllFlagged, SoFar, FlagsBehind, FlagsStepped, FlagsWalked, FlagsChecked}
use Rattle.field_checks.specs.declared.Conclusion.{Conclusion}
use Rattle.field_checks.specs.declared.Conclusion.TheVariants.{Refused as Ill, Bare, WithText}
use Rattle.field_readers.specs.declared.Kept.{Kept}
use Rattle.check_steps.specs.declared.Cursor.{Cursor}
use Rattle.check_steps.specs.declared.Turn.{Turn}
use Rattle.check_steps.specs.declared.Turn.TheVariants.{Done, Next}

-- a walk that stops
pub flags-refused : (s : List ℕ) (c : Cursor) (flags flags' : List ℕ) (n : Refusal) (p : ℕ) → FlagsStepped s c flags flags' (Done (Ill n p))
flags-refused s c flags flags' n p = record { means = λ g. tt }

-- one frame
module _ (s : List ℕ) (c : Cursor) (flags : List ℕ) (f : Frame)
    (h : f ≡ frame 255 c.at (seen_at c.at) c.prev (take (length s - c.at) (drop c.at s))) where
  abbrev rest : List ℕ
  rest = drop c.at s

  here : (x : Frame) → f ≡ x → frame 255 c.at (seen_at c.at) c.prev rest ≡ x
  here x q = sym (sym q ∙ h ∙ ap (frame 255 c.at (seen_at c.at) c.prev) (part-from c.at s))

  -- the fields of the file, by the frame
  record FramedBy (x : Frame) (g : SoFar s c flags) : Type 0 where
    more : ℕ
    enough : length s - c.at ≤ more
    lists : fields s ≡ g.before ++ (listed c.at rest x (scan more 255)).fields

  framed : (x : Frame) → f ≡ x → (g : SoFar s c flags) → FramedBy x g
  unfolding scan
  framed x q g = go g.fuel g.enough g.lists
    where
      go : (k : ℕ) → length s - c.at < k → fields s ≡ g.before ++ (scan k 255 c.at (seen_at c.at) c.prev rest).fields → FramedBy x g
      go zero l e = absurd (omega arith)
      go (suc k) l e = record { more = k; enough = omega arith; lists = e ∙ ap (λ (y : Frame). g.before ++ (listed c.at rest y (scan k 255)).fields) (here x q) }

  pub flags-done : (x : Conclusion) → f ≡ End → FlagsStepped s c flags flags (Done x)
  flags-done x q = record { means = λ g. behind x (subst (All (ZoneFlagged flags)) (sym ((framed End q g).lists ∙ append-nil g.before)) g.flagged) }
    where
      behind : (x : Conclusion) → AllFlagged s flags → FlagsBehind s flags x
      behind (Ill n p) k = tt
      behind (Bare p) k = k
      behind (WithText a n) k = k

  pub flags-version : (k : Kept) → f ≡ Version → FlagsStepped s c flags flags (Next (record { at = c.at + 4; prev = 0; kept = k }))
  flags-version k q =
      record {
        means = λ g.
            let n = framed Version q g in
            let z = version-room 255 c.at (seen_at c.at) c.prev rest (sym (here Version q)) in
            let o : seen_at (c.at + 4) ≡ false = le-ltb 4 (c.at + 4) (omega (arith, z.0)) in
            record {
              before = g.before;
              fuel = n.more;
              enough = omega (arith, n.enough, z.1, length-drop c.at s);
              lists = n.lists ∙ rw (drop-drop 4 c.at s, o);
              flagged = g.flagged;
              place = λ l. omega arith;
            };
      }

  pub flags-field : (i n m : ℕ) (k : Kept) (flags' : List ℕ) (r : Result Kept Refusal) → f ≡ Whole i n m
      → FlagsTaken s i (c.at + n) (c.at + (n + m)) flags flags' r → r ≡ Ok k
      → FlagsStepped s c flags flags' (Next (record { at = c.at + (n + m); prev = i; kept = k }))
  flags-field i n m k flags' r q t e =
      record {
        means = λ g.
            let x = framed (Whole i n m) q g in
            let w = whole-headed 255 c.at (seen_at c.at) c.prev rest i n m (here (Whole i n m) q) in
            let room = whole_room 255 c.at (seen_at c.at) c.prev rest i n m (sym (here (Whole i n m) q)) in
            let l : 4 ≤ c.at = g.place (pos_of_ne-zero w.place) in
            let o : seen_at (c.at + (n + m)) ≡ true = lt-ltb 4 (c.at + (n + m)) (omega (arith, room.head)) in
            let z : c.at + (n + m) - (c.at + n) ≡ m = omega arith in
            let b : take m (drop n rest) ≡ part s (c.at + n) (c.at + (n + m)) = rw z (ap (take m) (drop-drop n c.at s)) in
            let one : ZoneFlagged flags' (field_at c.at rest i n m) = λ j. subst (Flagged flags') (sym b) (t.newer k e j) in
            record {
              before = g.before ++ (field_at c.at rest i n m ∷ []);
              fuel = x.more;
              enough = omega (arith, x.enough, room.within, room.head, length-drop c.at s);
              lists = x.lists ∙ sym (append_assoc g.before (field_at c.at rest i n m ∷ []) _) ∙ rw (drop-drop (n + m) c.at s, o);
              flagged = all_append (all_map (λ y h j. t.older y.body (h j)) g.flagged) (all-also one all_none);
              place = λ h. omega arith;
            };
      }

-- at the start
pub so_far : (s : List ℕ) (k : Kept) (flags : List ℕ) → SoFar s (record { at = 0; prev = 0; kept = k }) flags
unfolding listing
so_far s k flags = record { before = []; fuel = suc (length s); enough = omega arith; lists = refl; flagged = all_none; place = λ l. absurd (omega arith) }

-- what a step says of the flags, by what it comes to
module _ (s : List ℕ) (c : Cursor) (flags flags' : List ℕ) (t : Turn) (g : SoFar s c flags) (h : FlagsStepped s c flags flags' t) where
  pub flags-behind : (x : Conclusion) → t ≡ Done x → FlagsWalked s flags' x
  flags-behind x q = record { means = rw q at (h.means g) }

  pub flags-next : (d : Cursor) → t ≡ Next d → SoFar s d flags'
  flags-next d q = rw q at (h.means g)

-- what a walk says of them, by the check's verdict
pub flags-checked : (s flags : List ℕ) (x y : Conclusion) → FlagsWalked s flags x → x ≡ y → FlagsChecked s flags (verdict_of y)
flags-checked s flags x y h e = go y (subst (FlagsWalked s flags) e h)
  where
    go : (z : Conclusion) → FlagsWalked s flags z → FlagsChecked s flags (verdict_of z)
    go (Ill n p) k = record { means = λ q. clash cc }
    go (Bare p) k = record { means = λ q. k.means }
    go (WithText a n) k = record { means = λ q. k.means }
