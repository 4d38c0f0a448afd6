-- "The lookup of Ask 5 then runs over either edition's dictionary": what a name gives over field 3 and over an older dictionary, places aside. To be
-- believed; `either-dictionary` (proofs/EitherLaws.antt) says it.
use Rattle.base.specs.Coded.{Fault}
use Rattle.std.specs.Prelude.{◌≡◌, Err, Ok, Result}
use Rattle.std.proofs.Math.Option.{Option, none, some}
use Rattle.alias_lookup.specs.Lookup.{Named, here, unknown, deep}
use Rattle.frames.specs.Machine.{Content, bad, answer, keep}
use Rattle.answers.specs.declared.Found.{Found}

-- another answer for each zone
abbrev pub mapped : {A B : Type 0} → (A → B) → Option A → Option B
mapped h (some a) = some (h a)
mapped h none = none

abbrev pub mapped_named : {A B : Type 0} → (A → B) → Named A → Named B
mapped_named h (here a) = here (h a)
mapped_named h unknown = unknown
mapped_named h deep = deep

-- field 3 says c, and the older dictionary a: the same answer, or the same refusal
abbrev pub SameTo : {M : Type 0} → Content M Found → Result Found Fault → Type 0
SameTo (answer v) (Ok w) = v ≡ w
SameTo (answer v) (Err (n, p)) = ⊥
SameTo (bad n) (Ok w) = ⊥
SameTo (bad n) (Err (m, p)) = n ≡ m
SameTo (keep k) a = ⊥

pub record Same {M : Type 0} (c : Content M Found) (a : Result Found Fault) : Type 0 where
  pub to : SameTo c a
