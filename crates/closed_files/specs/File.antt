-- "Third, close up the pool": the closed file of a file, by its fields. To be believed.
use Rattle.base.specs.declared.Refusal.TheVariants.{TooLarge, TooShort, UnreadField}
use Rattle.base.specs.Coded.{Fault}
use Rattle.std.specs.Prelude.{ℕ, Bool, true, List, [], ◌∷◌, ◌++◌, length, drop, get_or, replicate, eqb, ltb, leb, Err, Ok, Result}
use Rattle.std.proofs.Math.Option.{Option, none, some}
use Rattle.base.specs.Pick.{pick}
use Rattle.counts.specs.Count.{write_count}
use Rattle.texts.specs.Text.{write_text}
use Rattle.pool.specs.Pool.{strings_of}
use Rattle.frames.specs.Frame.{largest, Field}
use Rattle.frames.specs.Fields.{fields}
use Rattle.field_checks.specs.Check.{check_of}
use Rattle.use_order.specs.Order.{mention_all, order_of, numbered_from, new_number}
use Rattle.mentions.specs.Content.{numbers_of, renumbered}

-- the pool numbers that fields mention, in file order
unfoldable pub mentions_in : List Field → List ℕ
mentions_in [] = []
mentions_in (g ∷ gs) = numbers_of g.id g.body ++ mentions_in gs

-- "start one use count of zero for each possible pool string, count every mention in the fields we read"
abbrev pub uses_of : List Field → List ℕ
uses_of gs = mention_all (mentions_in gs) (replicate 8192 0)

-- "drop unused strings, and put the most used first, ties by old place"
abbrev pub new_order : List Field → List ℕ
new_order gs = order_of (uses_of gs)

-- the new number of each used string, by its old one
abbrev pub new_table : List Field → List ℕ
new_table gs = numbered_from 0 (new_order gs) (replicate 8192 0)

-- the strings of ts with the given numbers
unfoldable pub chosen : List (List ℕ) → List ℕ → List (List ℕ)
chosen ts [] = []
chosen ts (k ∷ ks) = get_or ts k [] ∷ chosen ts ks

unfoldable pub write_texts : List (List ℕ) → List ℕ
write_texts [] = []
write_texts (t ∷ ts) = write_text t ++ write_texts ts

-- "Field 0 is a count and that many length-and-bytes strings": the data of a pool
unfoldable pub write_pool : List (List ℕ) → List ℕ
write_pool ts = write_count (length ts) ++ write_texts ts

-- "Sizes are shortest and match": a field by its ID and data
unfoldable pub write_field : ℕ → List ℕ → List ℕ
write_field i d = i ∷ (write_count (length d) ++ d)

-- the data of a field of the closed file: the used strings of the old pool in their order, or the old data renumbered; "all else is copied"
unfoldable pub closed_data : List ℕ → List ℕ → ℕ → List ℕ → List ℕ
closed_data order table i d = pick (eqb i 0) (write_pool (chosen (strings_of d) order)) (renumbered (new_number table) i d)

unfoldable pub closed_fields : List ℕ → List ℕ → List Field → List ℕ
closed_fields order table [] = []
closed_fields order table (g ∷ gs) = write_field g.id (closed_data order table g.id g.body) ++ closed_fields order table gs

-- "Version: four zero bytes"
unfoldable pub closed_file : List Field → List ℕ
closed_file gs = 0 ∷ 0 ∷ 0 ∷ 0 ∷ closed_fields (new_order gs) (new_table gs) gs

abbrev pub closed : List ℕ → List ℕ
closed f = closed_file (fields f)

-- "field 4, 5 or any above 7"
unfoldable pub unread_id : ℕ → Bool
unread_id i = pick (eqb i 4) true (pick (eqb i 5) true (ltb 7 i))

-- "the first such ID byte"
unfoldable pub first_unread : List Field → Option ℕ
first_unread [] = none
first_unread (g ∷ gs) = pick (unread_id g.id) (some g.place) (first_unread gs)

-- "then 4 if the result would pass a largest size, then 15": the closed file xs for an output d. Its last field ends where it ends
unfoldable pub given_sized : List ℕ → List ℕ → Result ℕ Fault
given_sized xs d = pick (ltb largest (length xs)) (Err (TooLarge, 0)) (pick (leb (length xs) (length d)) (Ok (length xs)) (Err (TooShort, 0)))

unfoldable pub left_sized : List ℕ → List ℕ → List ℕ
left_sized xs d = pick (ltb largest (length xs)) d (pick (leb (length xs) (length d)) (xs ++ drop (length xs) d) d)

-- "files with field 4, 5 or any above 7 are refused with 22 at the first such ID byte"
abbrev pub given_read : Option ℕ → List ℕ → List ℕ → Result ℕ Fault
given_read (some p) xs d = Err (UnreadField, p)
given_read none xs d = given_sized xs d

abbrev pub left_read : Option ℕ → List ℕ → List ℕ → List ℕ
left_read (some p) xs d = d
left_read none xs d = left_sized xs d

-- "After the check's faults"
abbrev pub given : Result (Unit {0}) Fault → Option ℕ → List ℕ → List ℕ → Result ℕ Fault
given (Err (n, p)) u xs d = Err (n, p)
given (Ok tt) u xs d = given_read u xs d

abbrev pub left : Result (Unit {0}) Fault → Option ℕ → List ℕ → List ℕ → List ℕ
left (Err (n, p)) u xs d = d
left (Ok tt) u xs d = left_read u xs d

-- the result of closing up the pool of f for an output d: "whatever fills lent room gives how many .. bytes"
unfoldable pub close_of : List ℕ → List ℕ → Result ℕ Fault
close_of f d = given (check_of f) (first_unread (fields f)) (closed f) d

-- the output at the return: "later ones as found"; a refusal keeps all as found
unfoldable pub output_of : List ℕ → List ℕ → List ℕ
output_of f d = left (check_of f) (first_unread (fields f)) (closed f) d
