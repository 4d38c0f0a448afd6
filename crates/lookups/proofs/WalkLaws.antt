-- Each way out of the walk over a whole zone. Assumes nothing.
use Rattle.base.specs.declared.Refusal.{Refusal}
use Rattle.std.specs.Prelude.{Err, Ok, Result}
use mathlib.Core.Path.{◌≡◌, refl, sym, ap, ap₂, ◌∙◌, subst}
use mathlib.Core.Bool.{Bool, true, false}
use mathlib.Core.List.{List, []}
use Prim.Native.Nat.{ℕ, suc}
use lib.ListN.{drop}
use Rattle.base.specs.Pick.{both}
use Rattle.base.specs.Parsed.{Parsed, got, bad, bind, behind}
use Rattle.base.specs.Moment.{end_of_time}
use Rattle.base.proofs.ParseLaws.{bad-got}
use Rattle.places.specs.Placed.{at, no, Stands}
use Rattle.pieces.specs.Content.{parse_head}
use Rattle.pieces.specs.Form.{code_preferred, pieces_preferred, data_preferred}
use Rattle.pieces.proofs.CodeLaws.{last-form}
use Rattle.recurrence.specs.declared.Interval.{Interval as Lookup}
use Rattle.intervals.specs.declared.Interval.{Interval}
use Rattle.intervals.specs.declared.Scan.{Scan}
use Rattle.intervals.specs.Interval.{start_of}
use Rattle.intervals.specs.Scan.{scanned, scan_of, FormTo, FormOf}
use Rattle.intervals.proofs.ScanLaws.{last-start}
use Rattle.tails.specs.declared.NamedTail.{NamedTail}
use Rattle.zones.specs.Content.{untailed, tailed, FixedName, Body, fixed, listed, Zone}
use Rattle.zones.specs.Lookup.{verdict_of, named, fixed_name_of}
use Rattle.zones.specs.View.{EndOf}
use Rattle.zones.specs.declared.ZoneEnd.TheVariants.{Untailed, Tailed as WithTail, Refused as EndRefused}
use Rattle.lookups.specs.View.{body_read, read_of, form_of}
use Rattle.lookups.specs.declared.ZoneRead.{ZoneRead}
use Rattle.lookups.specs.declared.ZoneRead.TheVariants.{Fixed, Listed, Tailed, Refused}

-- at one instant
pub read-bad : (t : ℕ) (b : Bool) (p : Parsed Zone) (k : Refusal) → p ≡ bad k → Refused k ≡ read_of t b p
unfolding read_of
read-bad t b p k e = rw e

pub read-on : (t : ℕ) (a b : Bool) (p q : Parsed Zone) (r : ZoneRead) → p ≡ q → a ≡ b → r ≡ read_of t b q → r ≡ read_of t a p
read-on t a b p q r e f h = h ∙ ap₂ (read_of t) (sym f) (sym e)

pub read-fixed : (t : ℕ) (a b : Bool) (p : Parsed Zone) (id offset n : ℕ)
    → (m : FixedName) × (p ≡ got (record { id = id; body = fixed offset m }) []) × (n ≡ fixed_name_of id m) → a ≡ b → Fixed id offset n a ≡ read_of t b p
unfolding read_of
read-fixed t a b p id offset n (m, e, f) g = rw e (ap₂ (Fixed id offset) f g)

-- the form of a zone's data, behind its front
pub head-form : (b : Bool) (d : List ℕ) (n : ℕ) (r : List ℕ) → parse_head d ≡ got n r → both b (data_preferred d) ≡ both b (pieces_preferred n end_of_time r)
unfolding data_preferred
head-form b d n r e = rw e

pub fixed-form : (b : Bool) (d : List ℕ) → parse_head d ≡ got 0 [] → b ≡ both b (data_preferred d)
unfolding data_preferred pieces_preferred
fixed-form true d e = rw e
fixed-form false d e = refl

-- the intervals' form, then that of the end transition
pub end-form : (s : List ℕ) (n from : ℕ) (b : Bool) (r : Result (Scan × ℕ × Bool) Refusal) (c : Scan) (e : ℕ) (before form : Bool) → FormOf s n from b r → r ≡ Ok (c, e, before)
    → form ≡ both before (code_preferred c.last (drop e s)) → form ≡ both b (pieces_preferred (suc n) end_of_time (drop from s))
end-form s n from b r c e before form h f g =
    let m : FormTo s n from b (Ok (c, e, before)) = (subst (FormOf s n from b) f h).means in
    g ∙ ap (both before) (last-form c.last (drop e s)) ∙ sym m

-- what follows the intervals, from what a scan of them kept
module _ (t : ℕ) (s : List ℕ) (p : Parsed (List Interval)) (f : List Interval → List ℕ → Parsed Zone) where
  pub scan-bad : (k : Refusal) → Stands s (scan_of t p) (no k) → bind p f ≡ bad k
  unfolding scan_of
  scan-bad k h = go p h.means
    where
      go : (q : Parsed (List Interval)) → bind q (λ is r. got (scanned t is) r) ≡ bad k → bind q f ≡ bad k
      go (got is r) e = bad-got (sym e)
      go (bad n) e = let x : n ≡ k = cc in ap bad x

  pub record Scanned (c : Scan) (e : ℕ) : Type 0 where
    pub list : List Interval
    pub read : p ≡ got list (drop e s)
    pub goes : bind p f ≡ f list (drop e s)
    pub scans : c ≡ scanned t list

  pub scan-got : (c : Scan) (e : ℕ) → Stands s (scan_of t p) (at c e) → Scanned c e
  unfolding scan_of
  scan-got c e h = go p refl h.means
    where
      go : (q : Parsed (List Interval)) → p ≡ q → bind q (λ is r. got (scanned t is) r) ≡ got c (drop e s) → Scanned c e
      go (got is r) o k =
          let x : scanned t is ≡ c = cc in
          let y : r ≡ drop e s = cc in
          record { list = is; read = o ∙ ap (got is) y; goes = ap (λ (q : Parsed (List Interval)). bind q f) o ∙ ap (f is) y; scans = sym x }
      go (bad n) o k = bad-got k

-- behind the intervals that c stands for
module _ (t id : ℕ) (form : Bool) (p : Parsed Zone) (f : ℕ → List Interval → Parsed Zone) (c : Scan) (is : List Interval) (scans : c ≡ scanned t is) (goes : p ≡ f id is) where
  last_of : c.last ≡ behind start_of end_of_time is
  last_of = ap (λ (x : Scan). x.last) scans ∙ last-start t is

  pub ended-bad : (k : Refusal) → EndOf f c.last (EndRefused k) → Refused k ≡ read_of t form p
  ended-bad k h = read-bad t form p k (goes ∙ h.means id is last_of)

  pub ended-untailed : EndOf f c.last Untailed → (b : Bool) → b ≡ form → Listed id c b ≡ read_of t form p
  unfolding read_of
  ended-untailed h b e = rw (goes ∙ h.means id is last_of) (ap₂ (Listed id) scans e)

  pub ended-tailed : (n : NamedTail) → EndOf f c.last (WithTail n) → (b : Bool) → b ≡ form → Tailed id c n b ≡ read_of t form p
  unfolding read_of
  ended-tailed n h b e = rw (goes ∙ (h.means id is last_of).1) (ap₂ (λ (x : Scan) (y : Bool). Tailed id x n y) scans e)

-- what is said of the form is that of the walk, whatever its instant
abbrev pub form_read : ZoneRead → Result (ℕ × Bool) Refusal
form_read (Fixed id offset n form) = Ok (id, form)
form_read (Listed id c form) = Ok (id, form)
form_read (Tailed id c n form) = Ok (id, form)
form_read (Refused k) = Err k

form-read : (t : ℕ) (form : Bool) (p : Parsed Zone) → form_read (read_of t form p) ≡ form_of form p
unfolding read_of
form-read t form (bad k) = refl
form-read t form (got z r) = go z.body
  where
    go : (b : Body) → form_read (body_read t form z.id b) ≡ Ok (z.id, form)
    go (fixed offset n) = refl
    go (listed is end untailed) = refl
    go (listed is end (tailed n)) = refl

pub form-is : (t : ℕ) (form : Bool) (p : Parsed Zone) (r : ZoneRead) → r ≡ read_of t form p → form_read r ≡ form_of form p
form-is t form p r e = ap form_read e ∙ form-read t form p

pub form-on : (a b : Bool) (p q : Parsed Zone) (r : Result (ℕ × Bool) Refusal) → p ≡ q → a ≡ b → r ≡ form_of b q → r ≡ form_of a p
form-on a b p q r e f h = h ∙ ap₂ form_of (sym f) (sym e)

-- without the form it is the zone's check
abbrev pub verdict_by : Result (ℕ × Bool) Refusal → Result ℕ Refusal
verdict_by (Ok (id, form)) = Ok id
verdict_by (Err k) = Err k

verdict-by : (form : Bool) (p : Parsed Zone) → verdict_by (form_of form p) ≡ verdict_of p
verdict-by form (bad k) = refl
verdict-by form (got z r) = refl

pub verdict-is : (form : Bool) (p : Parsed Zone) (r : Result (ℕ × Bool) Refusal) → r ≡ form_of form p → verdict_by r ≡ verdict_of p
verdict-is form p r e = ap verdict_by e ∙ verdict-by form p

-- the tail's answer by what is in force
pub named-daylight : (n : NamedTail) (x : Lookup) → x.daylight ≡ true
    → record { wall = x.wall; savings = x.savings; name = n.daylight; start = x.start; end = x.end } ≡ named n x
named-daylight n x e = rw e

pub named-standard : (n : NamedTail) (x : Lookup) → x.daylight ≡ false
    → record { wall = x.wall; savings = x.savings; name = n.standard; start = x.start; end = x.end } ≡ named n x
named-standard n x e = rw e
