-- CLOSING UP THE POOL KEEPS WHAT A FILE SAYS: "All mentions are renumbered, their total is unchanged, and every question answers as before, places
-- aside." Assumes nothing.
use Rattle.base.specs.declared.Refusal.TheVariants.{TooLarge, TooShort}
use Rattle.base.specs.Coded.{Fault}
use Rattle.std.specs.Prelude.{Err, Ok, Result}
use mathlib.Core.Path.{◌≡◌, refl, sym, ap, ◌∙◌, subst, subst⁻¹}
use mathlib.Core.Bool.{Bool, true, false}
use mathlib.Core.List.{List, [], ◌∷◌, ◌++◌}
use mathlib.Core.Option.{Option, none, some}
use Prim.Native.Nat.{ℕ, ◌≤◌}
use lib.Dec.{ltb, leb}
use lib.ListN.{length, drop}
use borrow.Author.Tests.{ltb-false, le-ltb, le-leb}
use Rattle.base.specs.All.{All}
use Rattle.base.specs.Pick.{pick}
use Rattle.base.specs.Bytes.{Bytes}
use Rattle.base.proofs.Tests.{clash}
use Rattle.pool.specs.Pool.{parse_pool, strings_in}
use Rattle.frames.specs.Frame.{largest, Field}
use Rattle.frames.specs.Fields.{fields}
use Rattle.field_checks.specs.Check.{check_of, file_pool, WellFormed}
use Rattle.field_checks.proofs.WellFormedLaws.{well-formed-good, good-well-formed}
use Rattle.use_order.specs.Order.{new_number}
use Rattle.mentions.specs.Renumbers.{Renumbers}
use Rattle.mentioned_numbers.proofs.MentionedLaws.{file-below}
use Rattle.closed_files.specs.File.{mentions_in, new_order, new_table, closed, unread_id, first_unread}
use Rattle.closed_files.specs.File.{given_sized, left_sized, given, left, close_of, output_of}
use Rattle.closed_files.specs.Again.{ClosedAs, closed_none, closed-also}
use Rattle.closed_files.proofs.AgainLaws.{mentions-renumbered, total_kept, closed-again}
use Rattle.closed_answers.specs.Closed.{ClosesAsBefore, Closes}
use Rattle.closed_answers.proofs.FieldsLaws.{closed_at, closed_from, closed-fields}
use Rattle.closed_answers.proofs.SameLaws.{SameFiles}
use Rattle.closed_answers.proofs.QuestionLaws.{ask-same, maps-same}
use Rattle.closed_answers.proofs.NamedLaws.{named-same}
use Rattle.closed_answers.proofs.OldNamedLaws.{old-named-same}
use Rattle.closed_answers.proofs.CheckLaws.{well-formed-same, version-same}
use Rattle.closed_answers.proofs.LocationLaws.{location-same}
use Rattle.closed_answers.proofs.ClosedLaws.{strings, closed_strings, renumbers, same-files}

-- the fields of the closed file, wherever they stand
closed-as : (order table : List ℕ) (at : ℕ) (gs : List Field) → ClosedAs order table gs (closed_from order table at gs)
unfolding closed_from
closed-as order table at [] = closed_none
closed-as order table at (g ∷ gs) = closed-also refl refl (closed-as order table (closed_at order table at g).past gs)

-- they are all read where those of the file are
unread-closed : {order table : List ℕ} (gs hs : List Field) → ClosedAs order table gs hs → first_unread gs ≡ none → first_unread hs ≡ none
unfolding first_unread
unread-closed gs hs closed_none e = refl
unread-closed gs hs (closed-also {g = g} {h = h} {gs = gs'} {hs = hs'} i d c) e =
    subst⁻¹ (λ (j : ℕ). pick (unread_id j) (some h.place) (first_unread hs') ≡ none) i (go (unread_id g.id) e (unread-closed gs' hs' c))
  where
    go : (t : Bool) → pick t (some g.place) (first_unread gs') ≡ none → (first_unread gs' ≡ none → first_unread hs' ≡ none)
        → pick t (some h.place) (first_unread hs') ≡ none
    go true k rec = clash cc
    go false k rec = rec k

pool-is : (f : List ℕ) (g : Field) (gs : List Field) (ts : List (List ℕ)) → fields f ≡ g ∷ gs → strings_in (parse_pool g.body) ≡ ts
    → file_pool (fields f) ≡ ts
unfolding file_pool
pool-is f g gs ts e p = ap file_pool e ∙ p

module _ (f : List ℕ) (w : WellFormed f) (b : Bytes f) (l : length (closed f) ≤ largest) where
  s : SameFiles f (closed f) (strings f w b l) (closed_strings f w b l)
  s = same-files f w b l

  closed-so : ClosedAs (new_order (fields f)) (new_table (fields f)) (fields f) (fields (closed f))
  closed-so =
      subst (ClosedAs (new_order (fields f)) (new_table (fields f)) (fields f)) (sym (closed-fields f b l))
      (closed-as (new_order (fields f)) (new_table (fields f)) 4 (fields f))

  same-strings : All (Renumbers (file_pool (fields f)) (file_pool (fields (closed f))) (new_number (new_table (fields f)))) (mentions_in (fields f))
  same-strings =
      rw (
        pool-is f s.beside.first s.beside.others (strings f w b l) s.beside.splits (ap strings_in s.pool),
        pool-is (closed f) s.beside.first' s.beside.others' (closed_strings f w b l) s.beside.splits' (ap strings_in s.pool'),
      )
      (renumbers f w b l)

  pub closes-as-before : ClosesAsBefore f
  closes-as-before =
      record {
        well-formed = well-formed-same f (closed f) _ _ s w;
        again = closed-again (fields f) (fields (closed f)) (file-below f w b) closed-so;
        mentions = mentions-renumbered (fields f) (fields (closed f)) closed-so;
        strings = same-strings;
        total = total_kept (fields f) (fields (closed f)) closed-so;
        asked = λ id z mark ed. ask-same f (closed f) _ _ s id z mark ed;
        named = λ x z mark ed. named-same f (closed f) _ _ s x z mark ed;
        old-named = λ ds x z ed. old-named-same f (closed f) _ _ s w ds x z ed;
        mapped = λ id local r q m n. maps-same f (closed f) _ _ s id local r q m n;
        located = λ field number. location-same f (closed f) _ _ s field number w;
        version = version-same f (closed f) _ _ s w;
      }

-- a result with a length: the file is good, has no field that isn't read, and the closed file is no larger than a file may be
record Sized (xs d : List ℕ) (n : ℕ) (v : Result (Unit {0}) Fault) (u : Option ℕ) (o : List ℕ) : Type 0 where
  good : v ≡ Ok tt
  all_read : u ≡ none
  fits : length xs ≤ largest
  size : n ≡ length xs
  output : o ≡ xs ++ drop n d

sized : (v : Result (Unit {0}) Fault) (u : Option ℕ) (xs d : List ℕ) (n : ℕ) → given v u xs d ≡ Ok n → Sized xs d n v u (left v u xs d)
unfolding given_sized left_sized
sized (Err (k, p)) u xs d n e = clash cc
sized (Ok tt) (some p) xs d n e = clash cc
sized (Ok tt) none xs d n e = go (ltb largest (length xs)) refl (leb (length xs) (length d)) e
  where
    go : (t : Bool) → ltb largest (length xs) ≡ t → (r : Bool) → pick {A = Result ℕ Fault} t (Err (TooLarge, 0)) (pick r (Ok (length xs)) (Err (TooShort, 0))) ≡ Ok n
        → Sized xs d n (Ok tt) none (pick t d (pick r (xs ++ drop (length xs) d) d))
    go true h r k = clash cc
    go false h true k =
        let z : length xs ≡ n = cc in
        record { good = refl; all_read = refl; fits = ltb-false largest (length xs) h; size = sym z; output = ap (λ (m : ℕ). xs ++ drop m d) z }
    go false h false k = clash cc

-- and the other way: such a file, to an output with room
module _ (f d : List ℕ) (w : WellFormed f) (u : first_unread (fields f) ≡ none) (fits : length (closed f) ≤ largest)
    (room : length (closed f) ≤ length d) where
  close-given : close_of f d ≡ Ok (length (closed f))
  unfolding close_of given_sized
  close-given = rw (well-formed-good f w, u, le-ltb largest (length (closed f)) fits, le-leb (length (closed f)) (length d) room)

  close-left : output_of f d ≡ closed f ++ drop (length (closed f)) d
  unfolding output_of left_sized
  close-left = rw (well-formed-good f w, u, le-ltb largest (length (closed f)) fits, le-leb (length (closed f)) (length d) room)

-- ASK 14, CLOSING UP THE POOL: whatever file gets a length
pub closing-keeps : (f d : List ℕ) (n : ℕ) → Bytes f → close_of f d ≡ Ok n → Closes f d n
unfolding close_of output_of
closing-keeps f d n b e =
    let r = sized (check_of f) (first_unread (fields f)) (closed f) d n e in
    let w = good-well-formed f r.good in
    let k = closes-as-before f w b r.fits in
    let u = unread-closed (fields f) (fields (closed f)) (closed-so f w b r.fits) r.all_read in
    let z : n ≡ length (closed (closed f)) = r.size ∙ ap length (sym k.again) in
    let fits : length (closed (closed f)) ≤ largest = rw k.again r.fits in
    record {
      size = r.size;
      output = r.output;
      keeps = k;
      size-again = λ o l. rw z (close-given (closed f) o k.well-formed u fits (rw z at l));
      output-again = λ o l. close-left (closed f) o k.well-formed u fits (rw z at l) ∙ rw (sym z, k.again);
    }
