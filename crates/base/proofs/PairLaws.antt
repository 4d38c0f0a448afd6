-- What two answers of the same parts say: a pair's parts are equal where the pairs are. Assumes nothing.
use Rattle.std.specs.Prelude.{Result, Ok, Err, Option}
use Rattle.std.specs.declared.option.Option.TheVariants.{Some, None}
use mathlib.Core.Path.{◌≡◌, ap}

-- what an answer gives, or else what is at hand
abbrev given : {A E : Type 0} → A → Result A E → A
given a (Ok x) = x
given a (Err e) = a

abbrev refused : {A E : Type 0} → E → Result A E → E
refused a (Ok x) = a
refused a (Err e) = e

abbrev held : {A : Type 0} → A → Option A → A
held a (Some x) = x
held a None = a

pub ok_parts : {A B E : Type 0} {a c : A} {b d : B} → ◌≡◌ {A = Result (A × B) E} (Ok (a, b)) (Ok (c, d)) → (a ≡ c) × (b ≡ d)
ok_parts {A} {B} {E} {a} {c} {b} {d} e = (ap (λ (r : Result (A × B) E). (given (a, b) r).0) e, ap (λ (r : Result (A × B) E). (given (a, b) r).1) e)

pub err_parts : {A B E : Type 0} {a c : A} {b d : B} → ◌≡◌ {A = Result E (A × B)} (Err (a, b)) (Err (c, d)) → (a ≡ c) × (b ≡ d)
err_parts {A} {B} {E} {a} {c} {b} {d} e = (ap (λ (r : Result E (A × B)). (refused (a, b) r).0) e, ap (λ (r : Result E (A × B)). (refused (a, b) r).1) e)

pub some_parts : {A B : Type 0} {a c : A} {b d : B} → ◌≡◌ {A = Option (A × B)} (Some (a, b)) (Some (c, d)) → (a ≡ c) × (b ≡ d)
some_parts {A} {B} {a} {c} {b} {d} e = (ap (λ (r : Option (A × B)). (held (a, b) r).0) e, ap (λ (r : Option (A × B)). (held (a, b) r).1) e)
