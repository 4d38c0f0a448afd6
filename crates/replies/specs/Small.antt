-- What the inner functions ask: that each number fits where it goes. The C functions ask nothing. To be believed by none:
-- each is proved where it is asked.
use Rattle.base.specs.declared.Refusal.{Refusal}
use Rattle.base.specs.Coded.{Coded, Fault}
use Rattle.std.specs.Prelude.{◌≤◌, ◌<◌, ◌^◌, Err, Ok, Result, ℕ, ℤ}

abbrev pub ReadTo : Coded ℕ → Type 0
ReadTo (Ok (v, n)) = (v < 2 ^ 63) × (n < 2 ^ 63)
ReadTo (Err k) = Unit {0}

pub record SmallRead (c : Coded ℕ) : Type 0 where
  pub to : ReadTo c

abbrev pub NumberTo : Coded ℤ → Type 0
NumberTo (Ok (z, n)) = n < 2 ^ 63
NumberTo (Err k) = Unit {0}

pub record SmallNumber (c : Coded ℤ) : Type 0 where
  pub to : NumberTo c

abbrev pub TextTo : Result (ℕ × ℕ) Refusal → Type 0
TextTo (Ok (a, n)) = (a < 2 ^ 63) × (n < 2 ^ 63)
TextTo (Err k) = Unit {0}

pub record SmallText (t : Result (ℕ × ℕ) Refusal) : Type 0 where
  pub to : TextTo t

abbrev pub WroteTo : Result ℕ Refusal → Type 0
WroteTo (Ok n) = n ≤ 4194304
WroteTo (Err k) = Unit {0}

pub record SmallWrote (w : Result ℕ Refusal) : Type 0 where
  pub to : WroteTo w

abbrev pub LengthTo : Result ℕ Fault → Type 0
LengthTo (Ok n) = n ≤ 4194304
LengthTo (Err (k, p)) = p ≤ 4194304

pub record SmallLength (x : Result ℕ Fault) : Type 0 where
  pub to : LengthTo x

abbrev pub CountTo : Result ℕ Fault → Type 0
CountTo (Ok n) = n < 2 ^ 63
CountTo (Err (k, p)) = p ≤ 4194304

pub record SmallCount (x : Result ℕ Fault) : Type 0 where
  pub to : CountTo x

abbrev pub PairTo : Result (ℕ × ℕ) Fault → Type 0
PairTo (Ok (a, n)) = (a < 2 ^ 63) × (n < 2 ^ 63)
PairTo (Err (k, p)) = p ≤ 4194304

pub record SmallPair (x : Result (ℕ × ℕ) Fault) : Type 0 where
  pub to : PairTo x
