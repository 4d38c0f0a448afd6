-- What taking a whole field says, a law for each way out of the code. Assumes nothing.
use Rattle.base.specs.declared.Refusal.{Refusal}
use Rattle.std.specs.Prelude.{Err, Ok, Result}
use Rattle.base.specs.declared.Refusal.TheVariants.{BadData, SecondZone}
use mathlib.Core.Path.{◌≡◌, refl, sym, ◌∙◌, ap, ap₂}
use mathlib.Core.Bool.{Bool, true, false}
use mathlib.Core.List.{List, []}
use Prim.Native.Nat.{ℕ, zero, suc, ◌+◌, ◌-◌, ◌≤◌, ◌<◌}
use native.Mathlib.Omega.{arith}
use lib.ListN.{length, get_or, drop, length-drop}
use lib.Seq.{sets, length-take-le, take_all}
use borrow.Author.Tests.{eq-eqb, ne_eqb}
use Rattle.base.specs.Parsed.{Parsed, got, bad as faulty}
use Rattle.base.proofs.PairLaws.{ok_parts}
use Rattle.texts.specs.Text.{read_text}
use Rattle.texts.proofs.TextLaws.{held}
use Rattle.pool.specs.Pool.{Pool, parse_pool, checked, strings_in, strings_of}
use Rattle.pool.specs.Index.{starts_of, room_of}
use Rattle.pool.proofs.PoolLaws.{few, ready, room-enough}
use Rattle.pool.proofs.StringLaws.{index-room}
use Rattle.zones.specs.Content.{Zone}
use Rattle.zones.specs.Parse.{parse_zone}
use Rattle.lookups.specs.View.{form_of}
use Rattle.zones.proofs.SoundLaws.{zone-sound}
use Rattle.locations.specs.Content.{Location, parse_locations}
use Rattle.locations.specs.Find.{verdict_of as field_verdict_of}
use Rattle.locations.specs.declared.LocationField.{LocationField}
use Rattle.locations.specs.declared.LocationField.TheVariants.{Zone as Locations, Zone1970 as Locations1970}
use Rattle.ids.specs.Memory.{Taken as TakenId}
use Rattle.ids.proofs.MemoryLaws.{sorted-most, keeps-again}
use Rattle.aliases.specs.Dictionary.{Dictionary}
use Rattle.aliases.specs.Field.{parse_aliases}
use Rattle.aliases.specs.View.{verdict_of as alias_verdict}
use Rattle.field_checks.specs.Check.{Memory, pool_in, pool_kept, new_id, zone_in, zone_kept, text_kept, aliases_in, aliases_kept, judged, locations_in, locations_kept}
use Rattle.field_readers.specs.Remembered.{part, pool_of, Wide, Indexed, Stands, Ordered, Says, TookPool, TookZone, TookText, TookAliases, TookField, TookLocations}
use Rattle.field_readers.specs.declared.Kept.{Kept}
use Rattle.base.proofs.Tests.{clash}

pub part_length : (s : List ℕ) (a e : ℕ) → e ≤ length s → length (part s a e) ≡ e - a
part_length s a e h = length-take-le (e - a) (drop a s) (rw length-drop (omega arith))

-- an index that has room for a pool has a place for each of its strings
strings-room : (d : List ℕ) → length (strings_of d) ≤ room_of d
strings-room d = go (length (strings_of d)) refl
  where
    go : (m : ℕ) → length (strings_of d) ≡ m → length (strings_of d) ≤ room_of d
    go zero e = omega arith
    go (suc m) e =
        omega (arith, room-enough d, index-room d m (omega arith) (starts_of d) (record { begins = take_all (length (starts_of d)) (starts_of d) (omega arith) }))

-- field 0, by what the check of the pool gives
module _ (s : List ℕ) (k : Kept) (a e : ℕ) (ix ix' : List ℕ) (c : Result ℕ Refusal)
    (h : (c ≡ checked (parse_pool (part s a e))) × (ix' ≡ sets ix 0 (starts_of (part s a e)))) where
  pub pool-refused : (n : Refusal) → c ≡ Err n → TookPool s k a e ix ix' (Err n)
  unfolding pool_kept
  pool-refused n q = record { means = λ od y st fr wide. go od y (parse_pool (part s a e)) (sym q ∙ h.0) }
    where
      go : (od : List ℕ) (y : Memory) (p : Pool) → Err n ≡ checked p → Says s ix' od (pool_in y p) (Err n)
      go od y (faulty m) r = cc
      go od y (got ts q) r = clash cc

  pub pool-kept : (n : ℕ) → c ≡ Ok n → a ≤ e → e ≤ length s → room_of (part s a e) ≤ length ix
      → TookPool s k a e ix ix' (Ok (record { start = a; end = e; count = n; zones = 0; text = k.text; len = k.len }))
  unfolding pool_kept
  pool-kept n q l₁ l₂ l₃ = record { means = λ od y st fr wide. go od y st fr wide (parse_pool (part s a e)) refl (sym q ∙ h.0) }
    where
      go : (od : List ℕ) (y : Memory) → Stands s k od y → y.ids ≡ [] → Wide ix od → (p : Pool) → parse_pool (part s a e) ≡ p
          → Ok n ≡ checked p
          → Says s ix' od (pool_in y p) (Ok (record { start = a; end = e; count = n; zones = 0; text = k.text; len = k.len }))
      go od y st fr wide (faulty m) i r = clash cc
      go od y st fr wide (got ts u) i r =
          let w : strings_of (part s a e) ≡ ts = ap strings_in i in
          let j : n ≡ length ts = cc in (
            record {
              first = l₁;
              last = l₂;
              ready = ready (part s a e) ix ix' l₃ h.1;
              count = j ∙ sym (ap length w);
            },
            record { strings = sym w; ids = rw fr (keeps-again _ (strings_of (part s a e)) od _ (omega (arith, strings-room (part s a e))) (rw fr at st.ids)); text = st.text },
          )

pub zones-most : (s : List ℕ) (k : Kept) (od : List ℕ) → Ordered s k od → k.zones ≤ 8192
zones-most s k od o = omega (arith, sorted-most _ _ _ o, few (pool_of s k))

-- a field 1, by what the check of the zone gives
module _ (s : List ℕ) (k : Kept) (a e : ℕ) (ix od : List ℕ) (ind : Indexed s k ix) (form : Bool) (v : Result (ℕ × Bool) Refusal)
    (h : v ≡ form_of form (parse_zone k.count (part s a e))) where
  as-count : (y : Memory) → Stands s k od y → v ≡ form_of form (parse_zone (length y.pool) (part s a e))
  as-count y st =
      let z : k.count ≡ length y.pool = ind.count ∙ ap length (sym st.strings) in
      h ∙ ap (λ (n : ℕ). form_of form (parse_zone n (part s a e))) z

  pub zone-refused : (n : Refusal) → v ≡ Err n → TookZone s k a e ix od od (Err n)
  unfolding zone_kept
  zone-refused n q = record { means = λ y st. go y (parse_zone (length y.pool) (part s a e)) (sym q ∙ as-count y st) }
    where
      go : (y : Memory) (p : Parsed Zone) → Err n ≡ form_of form p → Says s ix od (zone_in y p) (Err n)
      go y (faulty m) r = cc
      go y (got z q) r = clash cc

  module _ (id : ℕ) (b : Bool) (q : v ≡ Ok (id, b)) where
    counted : id < k.count
    counted = go (parse_zone k.count (part s a e)) refl (sym q ∙ h)
      where
        go : (p : Parsed Zone) → parse_zone k.count (part s a e) ≡ p → Ok (id, b) ≡ form_of form p → id < k.count
        go (faulty m) i r = clash cc
        go (got z u) i r =
            let w : id ≡ z.id = (ok_parts r).0 in
            rw w (zone-sound k.count (part s a e) z u i).0.id-ok

    pub zone-id : id < length (strings_of (pool_of s k))
    zone-id = omega (arith, counted, ind.count)

    abbrev bytes : List ℕ
    bytes = get_or (strings_of (pool_of s k)) id []

    zone-new : (y : Memory) → Stands s k od y → zone_kept y (part s a e) ≡ new_id y bytes
    unfolding zone_kept
    zone-new y st = go (parse_zone (length y.pool) (part s a e)) (sym q ∙ as-count y st)
      where
        go : (p : Parsed Zone) → Ok (id, b) ≡ form_of form p → zone_in y p ≡ new_id y bytes
        go (faulty m) r = clash cc
        go (got z u) r =
            let w : z.id ≡ id = sym (ok_parts r).0 in
            ap (new_id y) (ap₂ (λ (ts : List (List ℕ)) (n : ℕ). get_or ts n []) st.strings w)

    module _ (od' : List ℕ) (y : Bool) (t : TakenId (strings_of (pool_of s k)) bytes od k.zones od' y) where
      pub zone-second : y ≡ true → TookZone s k a e ix od od' (Err SecondZone)
      unfolding new_id
      zone-second f =
          record { means = λ y st. rw (zone-new y st, sym (t.said y.ids st.ids) ∙ f) refl }

      pub zone-first : y ≡ false → TookZone s k a e ix od od' (Ok (record { start = k.start; end = k.end; count = k.count; zones = k.zones + 1; text = k.text; len = k.len }))
      unfolding new_id
      zone-first f =
          record {
            means = λ y st.
                rw (zone-new y st, sym (t.said y.ids st.ids) ∙ f)
                (record { first = ind.first; last = ind.last; ready = ind.ready; count = ind.count }, record { strings = st.strings; ids = rw f at (t.kept y.ids st.ids); text = st.text });
          }

-- field 2, by what reading its text gives
module _ (s : List ℕ) (k : Kept) (a e : ℕ) (l₁ : a ≤ e) (l₂ : e ≤ length s) (t : Result (ℕ × ℕ) Refusal) (h : t ≡ read_text (part s a e)) where
  pub text-refused : (n : Refusal) → t ≡ Err n → TookText s k a e (Err n)
  unfolding text_kept
  text-refused n q = record { means = λ ix od y ind st. rw (sym h ∙ q) refl }

  module _ (b n : ℕ) (q : t ≡ Ok (b, n)) where
    pub text-inside : b + n ≤ e - a
    text-inside = omega (arith, (held (part s a e) b n (sym h ∙ q)).inside, part_length s a e l₂)

    not_first : a + b ≡ 0 → ⊥
    not_first z = omega (arith, (held (part s a e) b n (sym h ∙ q)).some)

    pub text-over : (b + n ≡ e - a → ⊥) → TookText s k a e (Err BadData)
    unfolding text_kept
    text-over o = record { means = λ ix od y ind st. rw (sym h ∙ q, part_length s a e l₂, ne_eqb (b + n) (e - a) o) refl }

    pub text-whole : b + n ≡ e - a
        → TookText s k a e (Ok (record { start = k.start; end = k.end; count = k.count; zones = k.zones; text = a + b; len = n }))
    unfolding text_kept
    text-whole o =
        record {
          means = λ ix od y ind st.
              rw (sym h ∙ q, part_length s a e l₂, eq-eqb (b + n) (e - a) o) (
                record { first = ind.first; last = ind.last; ready = ind.ready; count = ind.count },
                record { strings = st.strings; ids = st.ids; text = rw (ne_eqb (a + b) 0 not_first) },
              );
        }

-- field 3, by what its check gives
module _ (s : List ℕ) (k : Kept) (a e : ℕ) (ix : List ℕ) (ind : Indexed s k ix) (v : Result (Unit {0}) Refusal)
    (h : v ≡ alias_verdict (parse_aliases (strings_of (pool_of s k)) (part s a e))) where
  as-strings : (od : List ℕ) (y : Memory) → Stands s k od y → v ≡ alias_verdict (parse_aliases y.pool (part s a e))
  as-strings od y st = h ∙ ap (λ (ts : List (List ℕ)). alias_verdict (parse_aliases ts (part s a e))) (sym st.strings)

  pub aliases-refused : (n : Refusal) → v ≡ Err n → TookAliases s k a e ix (Err n)
  unfolding aliases_kept
  aliases-refused n q = record { means = λ od y st. go od y (parse_aliases y.pool (part s a e)) (sym q ∙ as-strings od y st) }
    where
      go : (od : List ℕ) (y : Memory) (p : Parsed Dictionary) → Err n ≡ alias_verdict p → Says s ix od (aliases_in y p) (Err n)
      go od y (faulty m) r = cc
      go od y (got es u) r = clash cc

  pub aliases-kept : v ≡ Ok tt → TookAliases s k a e ix (Ok k)
  unfolding aliases_kept
  aliases-kept q = record { means = λ od y st. go od y st (parse_aliases y.pool (part s a e)) (sym q ∙ as-strings od y st) }
    where
      go : (od : List ℕ) (y : Memory) → Stands s k od y → (p : Parsed Dictionary) → Ok tt ≡ alias_verdict p → Says s ix od (aliases_in y p) (Ok k)
      go od y st (faulty m) r = clash cc
      go od y st (got es u) r = (ind, st)

-- field 6 or 7, by what the check of the locations gives
module _ (s : List ℕ) (k : Kept) (a e : ℕ) (field : LocationField) (v : Result (Unit {0}) Refusal) (h : v ≡ field_verdict_of (parse_locations field k.count (part s a e))) where
  by-pool : (ix od : List ℕ) (y : Memory) → Indexed s k ix → Stands s k od y → v ≡ field_verdict_of (parse_locations field (length y.pool) (part s a e))
  by-pool ix od y ind st =
      let z : k.count ≡ length y.pool = ind.count ∙ ap length (sym st.strings) in
      h ∙ ap (λ (n : ℕ). field_verdict_of (parse_locations field n (part s a e))) z

  pub locations-refused : (n : Refusal) → v ≡ Err n → TookLocations s k a e field (Err n)
  unfolding locations_kept field_verdict_of
  locations-refused n q =
      record { means = λ ix od y ind st. go ix od y (parse_locations field (length y.pool) (part s a e)) (sym q ∙ by-pool ix od y ind st) }
    where
      go : (ix od : List ℕ) (y : Memory) (p : Parsed (List Location)) → Err n ≡ field_verdict_of p → Says s ix od (locations_in y p) (Err n)
      go ix od y (faulty m) r = cc
      go ix od y (got ls q) r = clash cc

  pub locations-kept : v ≡ Ok tt → TookLocations s k a e field (Ok k)
  unfolding locations_kept field_verdict_of
  locations-kept q =
      record { means = λ ix od y ind st. go ix od y ind st (parse_locations field (length y.pool) (part s a e)) (sym q ∙ by-pool ix od y ind st) }
    where
      go : (ix od : List ℕ) (y : Memory) → Indexed s k ix → Stands s k od y → (p : Parsed (List Location)) → Ok tt ≡ field_verdict_of p
          → Says s ix od (locations_in y p) (Ok k)
      go ix od y ind st (faulty m) r = clash cc
      go ix od y ind st (got ls q) r = (ind, st)

-- a field by its ID
module _ (s : List ℕ) (k : Kept) (i a e : ℕ) (ix od : List ℕ) where
  pub field-pool : (r : Result Kept Refusal) (ix' : List ℕ) → i ≡ 0 → Indexed s k ix → TookPool s k a e ix ix' r → TookField s k i a e ix od ix' od r
  unfolding judged
  field-pool r ix' q ind t =
      record { means = λ y st fr. rw (eq-eqb i 0 q) (t.means od y st (fr q).0 (fr q).1) }

  module _ (n₀ : i ≡ 0 → ⊥) where
    pub field-zone : (r : Result Kept Refusal) (od' : List ℕ) → i ≡ 1 → TookZone s k a e ix od od' r → TookField s k i a e ix od ix od' r
    unfolding judged
    field-zone r od' q t = record { means = λ y st fr. rw (ne_eqb i 0 n₀, eq-eqb i 1 q) (t.means y st) }

    module _ (n₁ : i ≡ 1 → ⊥) (ind : Indexed s k ix) where
      pub field-text : (r : Result Kept Refusal) → i ≡ 2 → TookText s k a e r → TookField s k i a e ix od ix od r
      unfolding judged
      field-text r q t = record { means = λ y st fr. rw (ne_eqb i 0 n₀, ne_eqb i 1 n₁, eq-eqb i 2 q) (t.means ix od y ind st) }

      module _ (n₂ : i ≡ 2 → ⊥) where
        pub field-aliases : (r : Result Kept Refusal) → i ≡ 3 → TookAliases s k a e ix r → TookField s k i a e ix od ix od r
        unfolding judged
        field-aliases r q t = record { means = λ y st fr. rw (ne_eqb i 0 n₀, ne_eqb i 1 n₁, ne_eqb i 2 n₂, eq-eqb i 3 q) (t.means od y st) }

        module _ (n₃ : i ≡ 3 → ⊥) where
          pub field-6 : (r : Result Kept Refusal) → i ≡ 6 → TookLocations s k a e Locations r → TookField s k i a e ix od ix od r
          unfolding judged
          field-6 r q t =
              record { means = λ y st fr. rw (ne_eqb i 0 n₀, ne_eqb i 1 n₁, ne_eqb i 2 n₂, ne_eqb i 3 n₃, eq-eqb i 6 q) (t.means ix od y ind st) }

          module _ (n₆ : i ≡ 6 → ⊥) where
            pub field-7 : (r : Result Kept Refusal) → i ≡ 7 → TookLocations s k a e Locations1970 r → TookField s k i a e ix od ix od r
            unfolding judged
            field-7 r q t = record {
              means = λ y st fr. rw (ne_eqb i 0 n₀, ne_eqb i 1 n₁, ne_eqb i 2 n₂, ne_eqb i 3 n₃, ne_eqb i 6 n₆, eq-eqb i 7 q) (t.means ix od y ind st);
            }

            pub field-other : (i ≡ 7 → ⊥) → TookField s k i a e ix od ix od (Ok k)
            unfolding judged
            field-other n₇ =
                record { means = λ y st fr. rw (ne_eqb i 0 n₀, ne_eqb i 1 n₁, ne_eqb i 2 n₂, ne_eqb i 3 n₃, ne_eqb i 6 n₆, ne_eqb i 7 n₇) (ind, st) }
