-- Laws of readers in a row. Assumes nothing.
use Rattle.base.specs.declared.Refusal.{Refusal}
use mathlib.Core.Path.{◌≡◌, refl, ap}
use mathlib.Core.Bool.{Bool, true, false}
use mathlib.Core.List.{List, [], ◌∷◌}
use Prim.Native.Nat.{ℕ}
use Rattle.base.specs.Pick.{pick}
use Rattle.base.specs.Parsed.{Parsed, got, bad, bind, ended}
use Rattle.base.proofs.Tests.{clash}

pub bad-got : {A G : Type 0} {k : Refusal} {a : A} {r : List ℕ} → bad k ≡ got a r → G
bad-got e = clash cc

-- the parts of equal readings
value_in : {A : Type 0} → A → Parsed A → A
value_in d (got a r) = a
value_in d (bad n) = d

rest_in : {A : Type 0} → Parsed A → List ℕ
rest_in (got a r) = r
rest_in (bad n) = []

pub got-value : {A : Type 0} {a b : A} {r q : List ℕ} → got a r ≡ got b q → a ≡ b
unfolding value_in
got-value {a = a} e = ap (value_in a) e

pub got-rest : {A : Type 0} {a b : A} {r q : List ℕ} → got a r ≡ got b q → r ≡ q
unfolding rest_in
got-rest e = ap rest_in e

-- what a good row has read first
pub record Split {A B : Type 0} (p : Parsed A) (k : A → List ℕ → Parsed B) (b : B) (q : List ℕ) : Type 0 where
  pub first : A
  pub rest : List ℕ
  pub is : p ≡ got first rest
  pub on : k first rest ≡ got b q

pub bind-good : {A B : Type 0} (p : Parsed A) (k : A → List ℕ → Parsed B) (b : B) (q : List ℕ) → bind p k ≡ got b q → Split p k b q
bind-good (got a r) k b q e = record { first = a; rest = r; is = refl; on = e }
bind-good (bad n) k b q e = bad-got e

-- a test that must hold for a row to be good
pub pick_good : {A : Type 0} (t : Bool) (x : Parsed A) (n : Refusal) (a : A) (q : List ℕ) → pick t x (bad n) ≡ got a q → (t ≡ true) × (x ≡ got a q)
pick_good true x n a q e = (refl, e)
pick_good false x n a q e = bad-got e

pub pick-bad : {A : Type 0} (t : Bool) (x : Parsed A) (n : Refusal) (a : A) (q : List ℕ) → pick t (bad n) x ≡ got a q → (t ≡ false) × (x ≡ got a q)
pick-bad true x n a q e = bad-got e
pick-bad false x n a q e = (refl, e)

pub ended-good : {A : Type 0} (a b : A) (r q : List ℕ) → ended a r ≡ got b q → (a ≡ b) × (r ≡ []) × (q ≡ [])
unfolding ended
ended-good a b [] q e = let x : a ≡ b = cc in let y : [] ≡ q = cc in (x, refl, cc)
ended-good a b (c ∷ r) q e = bad-got e
