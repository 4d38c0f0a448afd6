-- The content of a file, and its preferred file. To be believed.
use Rattle.base.specs.declared.Refusal.TheVariants.{TooShort}
use Rattle.base.specs.Coded.{Fault}
use Rattle.std.specs.Prelude.{ℕ, List, [], ◌∷◌, ◌++◌, length, drop, leb, Err, Ok, Result}
use Rattle.base.specs.Pick.{pick}
use Rattle.frames.specs.Frame.{Field}
use Rattle.frames.specs.Fields.{fields}
use Rattle.pieces.specs.Content.{content_of}
use Rattle.preferred_fields.specs.Field.{FieldContent, print_field}
use Rattle.field_checks.specs.Check.{check_of}

abbrev pub content_in : Field → FieldContent
content_in g = record { id = g.id; content = content_of g.id g.body }

unfoldable pub contents : List Field → List FieldContent
contents [] = []
contents (g ∷ gs) = content_in g ∷ contents gs

-- "Two files have the same content when they hold the same fields in the same order with the same data, transitions compared by the
-- instant or mark they name": f and h have where content f ≡ content h
abbrev pub content : List ℕ → List FieldContent
content f = contents (fields f)

unfoldable pub print_fields : List FieldContent → List ℕ
print_fields [] = []
print_fields (c ∷ cs) = print_field c ++ print_fields cs

-- "Version: four zero bytes"
unfoldable pub print_file : List FieldContent → List ℕ
print_file cs = 0 ∷ 0 ∷ 0 ∷ 0 ∷ print_fields cs

-- "The preferred file has every transition in the writer's form below and each size to match; all else is copied."
abbrev pub preferred : List ℕ → List ℕ
preferred f = print_file (content f)

-- "Rewriting .. check all first; then 15": by the check's verdict, for an output d
abbrev pub given : Result (Unit {0}) Fault → List ℕ → List ℕ → Result ℕ Fault
given (Err (n, p)) xs d = Err (n, p)
given (Ok tt) xs d = pick (leb (length xs) (length d)) (Ok (length xs)) (Err (TooShort, 0))

abbrev pub left : Result (Unit {0}) Fault → List ℕ → List ℕ → List ℕ
left (Err (n, p)) xs d = d
left (Ok tt) xs d = pick (leb (length xs) (length d)) (xs ++ drop (length xs) d) d

-- "A rewrite gives its length": the result
unfoldable pub rewrite_of : List ℕ → List ℕ → Result ℕ Fault
rewrite_of f d = given (check_of f) (preferred f) d

-- "and leaves later output bytes as found"; "Every refusal keeps all lent output as found": the output at the return
unfoldable pub output_of : List ℕ → List ℕ → List ℕ
output_of f d = left (check_of f) (preferred f) d
