-- What the code's results stand for. The code's way, tied to the named question by `ask-checked` (proofs/AskLaws.antt).
use Rattle.std.specs.declared.option.Option.{Option as Maybe}
use Rattle.std.specs.declared.option.Option.TheVariants.{None, Some}
use Rattle.std.specs.Prelude.{ℕ, ◌≤◌, ◌≡◌, List, length, drop}
use Rattle.std.proofs.Math.Option.{Option, none, some}
use Rattle.base.specs.Parsed.{got}
use Rattle.aliases.specs.Dictionary.{Dictionary}
use Rattle.aliases.specs.Field.{entries_in}
use Rattle.old_dictionaries.specs.OldDictionary.{parse_old_dictionary}
use Rattle.old_dictionaries.specs.Pairs.{parse_pairs}
use Rattle.old_dictionaries.specs.View.{part}
use Rattle.answers.specs.declared.Found.{Found}

-- the entries of the older dictionary d; none where it is refused
abbrev pub entries_of : List ℕ → Dictionary
entries_of d = entries_in (parse_old_dictionary d)

-- d is an older dictionary that was found good
pub record Sound (d : List ℕ) : Type 0 where
  pub rest : List ℕ
  pub is : parse_old_dictionary d ≡ got (entries_of d) rest

-- its n entries stand from a place on
pub record Listed (d : List ℕ) (from n : ℕ) : Type 0 where
  pub place : from ≤ length d
  pub rest : List ℕ
  pub pairs : parse_pairs n (drop from d) ≡ got (entries_of d) rest

-- r is where the string o lies in d
abbrev pub PointsTo : List ℕ → Option (List ℕ) → Maybe (ℕ × ℕ) → Type 0
PointsTo d o (Some (b, e)) = (b ≤ e) × (e ≤ length d) × (o ≡ some (part b e d))
PointsTo d o None = o ≡ none

pub record Points (d : List ℕ) (o : Option (List ℕ)) (r : Maybe (ℕ × ℕ)) : Type 0 where
  pub means : PointsTo d o r

-- a zone's answer, if there is such a zone
abbrev pub asked_of : Option Found → Maybe Found
asked_of (some v) = Some v
asked_of none = None
