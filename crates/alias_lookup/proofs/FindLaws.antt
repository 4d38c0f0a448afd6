-- Finding a key among the entries of a field 3 that was found good. Assumes nothing.
use Rattle.base.specs.declared.Refusal.{Refusal}
use Rattle.base.specs.declared.Refusal.TheVariants.{SecondAlias}
use Rattle.std.specs.declared.option.Option.TheVariants.{None, Some}
use Rattle.std.specs.Prelude.{Err, Ok}
use Rattle.base.specs.Coded.{Coded}
use mathlib.Core.Path.{◌≡◌, refl, sym, ap, ◌∙◌}
use mathlib.Core.Bool.{Bool, true, false}
use mathlib.Core.List.{List, [], ◌∷◌, ◌++◌, append-nil, append_assoc}
use mathlib.Core.Option.{none, some}
use Prim.Native.Nat.{ℕ, zero, suc, ◌+◌, ◌-◌, ◌≤◌, ◌<◌}
use native.Mathlib.Omega.{arith}
use lib.ListN.{length, drop, get_or}
use Rattle.base.specs.Equal.{equal}
use Rattle.base.specs.Parsed.{got, bad, bind, parse, ended}
use Rattle.base.proofs.ParseLaws.{bad-got, got-value, bind-good, pick-bad, ended-good}
use Rattle.counts.specs.Count.{read_count}
use Rattle.places.specs.Placed.{at, Stands, of_read}
use Rattle.places.specs.Name.{parse_name}
use Rattle.places.proofs.PlaceLaws.{then-in, then-got, then-bad}
use Rattle.base.proofs.EqualLaws.{equal-true}
use Rattle.ids.specs.Ids.{among}
use Rattle.alias_lookup.specs.View.{flagged, flagged_from}
use Rattle.alias_lookup.proofs.FlagLaws.{flag-hit, flagged-end}
use Rattle.alias_lookup.specs.Lookup.{by_test}
use Rattle.aliases.specs.Dictionary.{Entry, entry, Dictionary, keys, target_of}
use Rattle.aliases.specs.Field.{after_key, parse_entry, parse_entries, all_entries, parse_aliases, entries_of}
use Rattle.alias_lookup.specs.View.{Sound, Listed, Points}
use Rattle.aliases.proofs.EntryLaws.{name_below}
use Rattle.alias_lookup.proofs.TargetLaws.{target-behind, target-here, target_past}

-- what was read begins with what stood before
pub entries-more : (ts : List (List ℕ)) (n : ℕ) (pre : Dictionary) (s : List ℕ) (es : Dictionary) (q : List ℕ)
    → parse_entries ts n pre s ≡ got es q → (more : Dictionary) × (es ≡ pre ++ more)
unfolding parse_entries
entries-more ts zero pre s es q h = ([], sym (got-value h) ∙ sym (append-nil pre))
entries-more ts (suc n) pre s es q h =
    let b = bind-good (parse_entry ts pre s) _ es q h in
    let m = entries-more ts n (pre ++ (b.first ∷ [])) b.rest es q b.on in
    (b.first ∷ m.0, m.1 ∙ append_assoc pre (b.first ∷ []) m.0)

-- the loop: x is no key of the entries before the place, and left are still to be read
pub record Looking (ts : List (List ℕ)) (d x : List ℕ) (left place : ℕ) : Type 0 where
  pub inside : place ≤ length d
  pub pre : Dictionary
  pub none_yet : target_of pre x ≡ none
  pub rest : parse_entries ts left pre (drop place d) ≡ got (entries_of ts d) []

module _ (ts : List (List ℕ)) (d x : List ℕ) where
  pub looking-start : (n place : ℕ) → Listed ts d place n → Looking ts d x n place
  unfolding target_of
  looking-start n place l = record { inside = l.place; pre = []; none_yet = refl; rest = l.rest }

  module _ (left place : ℕ) (g : Looking ts d x left place) where
    pub looking-done : left ≡ 0 → Points ts (target_of (entries_of ts d) x) None
    unfolding parse_entries
    looking-done z =
        let e : g.pre ≡ entries_of ts d = got-value (rw z at g.rest) in
        record { means = sym (rw e at g.none_yet); within = tt }

    -- c is the count of the pool's strings
    module _ (some_left : 0 < left) (c : ℕ) (all : c ≡ length ts) (r : Coded ℕ) (first : Stands d (parse_name c (drop place d)) (of_read r)) where
      good : (l : ℕ) → 0 < l → parse_entries ts l g.pre (drop place d) ≡ got (entries_of ts d) []
          → (e : Entry) × (q : List ℕ) × (parse_entry ts g.pre (drop place d) ≡ got e q) × (parse_entries ts (l - 1) (g.pre ++ (e ∷ [])) q ≡ got (entries_of ts d) [])
      unfolding parse_entries
      good zero s h = absurd (omega arith)
      good (suc l) s h =
          let b = bind-good (parse_entry ts g.pre (drop place d)) _ (entries_of ts d) [] h in
          let o : suc l - 1 ≡ l = omega arith in
          (b.first, b.rest, b.is, rw o b.on)

      -- no number of an entry is refused
      pub never-key : {G : Type 0} (n : Refusal) → r ≡ Err n → G
      unfolding parse_entry
      never-key n e =
          let w = good left some_left g.rest in
          let z : parse_entry ts g.pre (drop place d) ≡ bad n = rw (← all) (then-bad first _ n (ap of_read e)) in
          bad-got (sym z ∙ w.2)

      module _ (k b : ℕ) (e : r ≡ Ok (k, b)) where
        pub key-inside : b ≤ length d
        key-inside = then-in first k b (ap of_read e)

        pub key-number : k < length ts
        key-number = rw all at (name_below d c place r first k b e)

        read-key : (w : Entry) (q : List ℕ) → parse_entry ts g.pre (drop place d) ≡ got w q
            → bind (parse_name c (drop b d)) (λ j p. got (entry (get_or ts k []) (get_or ts j [])) p) ≡ got w q
        unfolding parse_entry after_key
        read-key w q h =
            let z : parse_entry ts g.pre (drop place d) ≡ after_key ts g.pre (get_or ts k []) (drop b d) = rw (← all) (then-got first _ k b (ap of_read e)) in
            rw all (pick-bad (among (get_or ts k []) (keys g.pre)) _ SecondAlias w q (sym z ∙ h)).1

        module _ (s : Coded ℕ) (second : Stands d (parse_name c (drop b d)) (of_read s)) where
          pub never-target : {G : Type 0} (n : Refusal) → s ≡ Err n → G
          never-target n f =
              let w = good left some_left g.rest in
              bad-got (sym (then-bad second _ n (ap of_read f)) ∙ read-key w.0 w.1 w.2)

          module _ (j z : ℕ) (f : s ≡ Ok (j, z)) (b' : Bool) (t : b' ≡ equal (get_or ts k []) x) where
            abbrev one : Entry
            one = entry (get_or ts k []) (get_or ts j [])

            on : parse_entries ts (left - 1) (g.pre ++ (one ∷ [])) (drop z d) ≡ got (entries_of ts d) []
            on =
                let w = good left some_left g.rest in
                let y : got one (drop z d) ≡ got w.0 w.1 = sym (then-got second _ j z (ap of_read f)) ∙ read-key w.0 w.1 w.2 in
                let u : w.0 ≡ one = cc in
                let v : w.1 ≡ drop z d = cc in
                rw (u, v) at w.3

            pub looking-found : b' ≡ true → Points ts (target_of (entries_of ts d) x) (Some j)
            looking-found h =
                let m = entries-more ts (left - 1) (g.pre ++ (one ∷ [])) (drop z d) (entries_of ts d) [] on in
                let i : target_of (entries_of ts d) x ≡ some (get_or ts j []) =
                rw (m.1, append_assoc g.pre (one ∷ []) m.0) (target-behind g.pre (one ∷ m.0) x g.none_yet ∙ target-here one m.0 x (sym t ∙ h)) in
                record { means = sym i; within = rw all at (name_below d c b s second j z f) }

            pub looking-next : b' ≡ false → Looking ts d x (left - 1) z
            looking-next h =
                record {
                  inside = then-in second j z (ap of_read f);
                  pre = g.pre ++ (one ∷ []);
                  none_yet = target_past g.pre one x g.none_yet (sym t ∙ h);
                  rest = on;
                }

-- a field 3 that was found good, behind its count
pub listed_at : (ts : List (List ℕ)) (d : List ℕ) → Sound ts d → (r : Coded ℕ) → Stands d (parse read_count d) (of_read r) → (n a : ℕ) → r ≡ Ok (n, a) → Listed ts d a n
unfolding parse_aliases all_entries
listed_at ts d w r s n a e =
    let z : parse_aliases ts d ≡ bind (parse_entries ts n [] (drop a d)) ended = then-got s _ n a (ap of_read e) in
    let b = bind-good (parse_entries ts n [] (drop a d)) ended (entries_of ts d) [] (sym z ∙ w.is) in
    let f = ended-good b.first (entries_of ts d) b.rest [] b.on in
    record { place = then-in s n a (ap of_read e); rest = rw (f.0, f.1) at b.is }

pub never-count : {G : Type 0} (ts : List (List ℕ)) (d : List ℕ) → Sound ts d → (r : Coded ℕ) → Stands d (parse read_count d) (of_read r) → (n : Refusal) → r ≡ Err n → G
unfolding parse_aliases
never-count ts d w r s n e = bad-got (sym (then-bad s _ n (ap of_read e)) ∙ w.is)

-- a string with a flag, by a search through all of them: r is what the comparison of the string j with x gave
pub zone-found : (ts : List (List ℕ)) (fl x : List ℕ) (j : ℕ) → j < length ts → (get_or fl j 0 ≡ 0 → ⊥) → (r : Bool) → r ≡ equal (get_or ts j []) x
    → r ≡ true → flagged_from j (drop j ts) fl x ≡ flagged ts fl x → Points ts (by_test (flagged ts fl) x) (Some j)
zone-found ts fl x j h f r e q i =
    let k : flagged ts fl x ≡ true = sym (flag-hit ts fl x j h f r e q ∙ i) in
    let s : get_or ts j [] ≡ x = equal-true (get_or ts j []) x (sym e ∙ q) in
    record { means = rw (k, s); within = h }

pub zone-none : (ts : List (List ℕ)) (fl x : List ℕ) (j : ℕ) → length ts ≤ j → flagged_from j (drop j ts) fl x ≡ flagged ts fl x → Points ts (by_test (flagged ts fl) x) None
zone-none ts fl x j h i =
    let k : flagged ts fl x ≡ false = sym i ∙ flagged-end ts fl x j h in
    record { means = rw k; within = tt }
