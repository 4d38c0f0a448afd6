-- What the laws say of an older dictionary that reads. To be believed.
use Rattle.std.specs.Prelude.{◌≡◌, List, ◌++◌, ℕ}
use Rattle.aliases.specs.Dictionary.{Dictionary}
use Rattle.old_dictionaries.specs.OldDictionary.{write_old_dictionary, Writable}

-- s starts with the written form of the entries es that it gives, before r: so the form is unique
pub record DictionaryForm (s : List ℕ) (es : Dictionary) (r : List ℕ) : Type 0 where
  pub writable : Writable es
  pub form : s ≡ write_old_dictionary es ++ r
