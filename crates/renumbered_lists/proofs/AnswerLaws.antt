-- A location's answer says the same where the pool numbers are renumbered. Assumes nothing.
use Rattle.base.specs.declared.Refusal.{Refusal}
use Rattle.std.specs.declared.option.Option.{Option}
use Rattle.std.specs.declared.option.Option.TheVariants.{None, Some}
use Rattle.std.specs.Prelude.{Err, Ok, Result}
use mathlib.Core.Path.{◌≡◌, refl, sym, ap, ◌∙◌}
use mathlib.Core.List.{List, [], ◌∷◌, map}
use Prim.Native.Nat.{ℕ, zero, suc, ◌≤◌}
use lib.ListN.{length, get_or, length-map}
use borrow.Author.Tests.{le-ltb}
use Rattle.base.specs.All.{All}
use Rattle.base.specs.Parsed.{got}
use Rattle.base.proofs.AllLaws.{all_head, all_tail}
use Rattle.pool.specs.Pool.{string, parse_pool}
use Rattle.pool.specs.Index.{room_in, room_of}
use Rattle.pool.proofs.StringLaws.{opened}
use Rattle.locations.specs.Content.{Location, id_of, parse_locations}
use Rattle.locations.specs.Find.{numbered, sought_of}
use Rattle.locations.specs.declared.Country.{Country}
use Rattle.locations.specs.declared.LocationField.{LocationField}
use Rattle.locations.specs.declared.Spot.{Spot}
use Rattle.countries.specs.Step.{item, given}
use Rattle.countries.proofs.OrderLaws.{many-length, StepsInOrder, in_order}
use Rattle.field_search.specs.Search.{field_place}
use Rattle.location_lookup.specs.Location.{lent_part, text_in, located_at, answer_in, in_field}
use Rattle.mentions.specs.Content.{numbers_of, renumbered}
use Rattle.mentions.specs.Renumbers.{Renumbers}
use Rattle.renumbered_lists.specs.Renamed.{renamed_country, renamed}
use Rattle.renumbered_lists.specs.Answers.{bytes_at, SameLocated, SameAnswer}
use Rattle.renumbered_lists.proofs.NameLaws.{InBoth, CountryNamed}
use Rattle.renumbered_lists.proofs.LocationLaws.{LocationNamed, locations-renumbered, locations-named}
use Rattle.renumbered_lists.proofs.ViewLaws.{text-bytes, item_texts, shown-given}

-- how many strings a pool that is taken has
room-is : (d : List ℕ) (ts : List (List ℕ)) → parse_pool d ≡ got ts [] → (room_of d ≡ length ts) × (length ts ≤ 8192)
unfolding room_in
room-is d ts e =
    let o = opened d ts [] e in
    let n : length ts ≡ o.k = many-length string o.k _ ts [] o.all in
    (rw (o.count, le-ltb 8192 o.k o.few, n), rw n o.few)

-- THE LOCATION FOUND, by its number in the field: x in the data d, y in the data e with other numbers
module _ (ρ : ℕ → ℕ) (ts us : List (List ℕ)) (d e : List ℕ) where
  pub record SameSpot (x y : Spot) : Type 0 where
    pub latitude : y.latitude ≡ x.latitude
    pub longitude : y.longitude ≡ x.longitude
    pub left : y.left ≡ x.left
    pub zone : y.zone ≡ ρ x.zone
    pub comment : y.comment ≡ ρ x.comment
    pub zone-in : InBoth ρ ts us x.zone
    pub comment-in : InBoth ρ ts us x.comment
    pub countries : List Country
    pub old : (k : ℕ) → given d x.at x.left k ≡ get_or (map item countries) k None
    pub new : (k : ℕ) → given e y.at y.left k ≡ get_or (map item (map (renamed_country ρ) countries)) k None
    pub countries-in : All (CountryNamed ρ ts us) countries

  abbrev pub FoundTo : Result (Option Spot) Refusal → Result (Option Spot) Refusal → Type 0
  FoundTo (Ok (Some x)) (Ok (Some y)) = SameSpot x y
  FoundTo (Ok (Some x)) (Ok None) = ⊥
  FoundTo (Ok (Some x)) (Err k) = ⊥
  FoundTo (Ok None) (Ok (Some y)) = ⊥
  FoundTo (Ok None) (Ok None) = Unit {0}
  FoundTo (Ok None) (Err k) = ⊥
  FoundTo (Err k) (Ok (Some y)) = ⊥
  FoundTo (Err k) (Ok None) = ⊥
  FoundTo (Err k) (Err j) = j ≡ k

  pub record SameFound (a b : Result (Option Spot) Refusal) : Type 0 where
    pub means : FoundTo a b

  numbered-same : (field : LocationField) (number : ℕ) (ls : List Location) → All (LocationNamed ρ ts us) ls → All (StepsInOrder d) ls
      → All (StepsInOrder e) (renamed ρ field ls) → SameFound (numbered d number ls) (numbered e number (renamed ρ field ls))
  unfolding numbered renamed
  numbered-same field number [] n o p = record { means = tt }
  numbered-same field zero (l ∷ ls) n o p =
      let m = all_head n in
      record {
        means = record {
          latitude = refl;
          longitude = refl;
          left = length-map l.countries (renamed_country ρ);
          zone = refl;
          comment = refl;
          zone-in = m.zone;
          comment-in = m.comment;
          countries = l.countries;
          old = all_head o;
          new = all_head p;
          countries-in = m.countries;
        };
      }
  numbered-same field (suc number) (l ∷ ls) n o p = numbered-same field number ls (all_tail n) (all_tail o) (all_tail p)

pub sought-renumbered : (ρ : ℕ → ℕ) (ts us : List (List ℕ)) (field : LocationField) (number : ℕ) (d e : List ℕ) (ls : List Location)
    → parse_locations field (length ts) d ≡ got ls [] → length us ≤ 8192 → All (Renumbers ts us ρ) (numbers_of (id_of field) d)
    → e ≡ renumbered ρ (id_of field) d
    → SameFound ρ ts us d e (sought_of d number (parse_locations field (length ts) d)) (sought_of e number (parse_locations field (length us) e))
unfolding sought_of
sought-renumbered ρ ts us field number d e ls h few a q =
    let new : parse_locations field (length us) e ≡ got (renamed ρ field ls) [] =
    ap (parse_locations field (length us)) q ∙ locations-renumbered ρ ts us field d ls h few a in
    rw (h, new) (numbered-same ρ ts us d e field number ls (locations-named ρ ts us field d ls h few a)
    (in_order field (length ts) d ls [] h) (in_order field (length us) e (renamed ρ field ls) [] new))

-- THE SAME ANSWER: the pool of f goes from b to c and the field from a to e, those of g from b' to c' and from a' to e'
module _ (f g : List ℕ) (ρ : ℕ → ℕ) (ts us : List (List ℕ)) (z b c z' b' c' : ℕ)
    (pool : field_place 0 f ≡ Some (z, b, c)) (pool' : field_place 0 g ≡ Some (z', b', c'))
    (strings : parse_pool (lent_part f b c) ≡ got ts []) (strings' : parse_pool (lent_part g b' c') ≡ got us []) where
  text_same : (k : ℕ) → InBoth ρ ts us k → bytes_at g (text_in g b' c' (ρ k)) ≡ bytes_at f (text_in f b c k)
  text_same k h = text-bytes g b' c' us (ρ k) strings' h.new.inside ∙ h.new.same ∙ sym (text-bytes f b c ts k strings h.old)

  items-same : (cs : List Country) (k : ℕ) → All (CountryNamed ρ ts us) cs
      → item_texts g z' b' c' pool' (get_or (map item (map (renamed_country ρ) cs)) k None) ≡ item_texts f z b c pool (get_or (map item cs) k None)
  items-same [] k a = refl
  items-same (c ∷ cs) zero a = rw (text_same c.name (all_head a).name, text_same c.code (all_head a).code)
  items-same (c ∷ cs) (suc k) a = items-same cs k (all_tail a)

  -- a location by its number in each field
  located-same : (a e a' e' : ℕ) (x y : Spot) → SameSpot ρ ts us (lent_part f a e) (lent_part g a' e') x y
      → SameLocated f g (located_at f b c a e x) (located_at g b' c' a' e' y)
  unfolding located_at
  located-same a e a' e' x y s =
      record {
        pin = rw (s.latitude, s.longitude);
        zone = rw s.zone (text_same x.zone s.zone-in);
        comment = rw s.comment (text_same x.comment s.comment-in);
        left = s.left;
        countries = λ k.
            shown-given g z' b' c' pool' a' e' y.at y.left k ∙ ap (item_texts g z' b' c' pool') (s.new k)
            ∙ items-same s.countries k s.countries-in
            ∙ sym (shown-given f z b c pool a e x.at x.left k ∙ ap (item_texts f z b c pool) (s.old k));
      }

  answer-same : (p a e p' a' e' : ℕ) (x y : Result (Option Spot) Refusal) → SameFound ρ ts us (lent_part f a e) (lent_part g a' e') x y
      → SameAnswer f g (answer_in f b c p a e x) (answer_in g b' c' p' a' e' y)
  answer-same p a e p' a' e' (Ok (Some x)) (Ok (Some y)) h = record { means = located-same a e a' e' x y h.means }
  answer-same p a e p' a' e' (Ok (Some x)) (Ok None) h = absurd h.means
  answer-same p a e p' a' e' (Ok (Some x)) (Err k) h = absurd h.means
  answer-same p a e p' a' e' (Ok None) (Ok (Some y)) h = absurd h.means
  answer-same p a e p' a' e' (Ok None) (Ok None) h = record { means = refl }
  answer-same p a e p' a' e' (Ok None) (Err k) h = absurd h.means
  answer-same p a e p' a' e' (Err k) (Ok (Some y)) h = absurd h.means
  answer-same p a e p' a' e' (Err k) (Ok None) h = absurd h.means
  answer-same p a e p' a' e' (Err k) (Err j) h = record { means = h.means }

  pub field-same : (field : LocationField) (number : ℕ) (ls : List Location) (p a e p' a' e' : ℕ)
      → parse_locations field (length ts) (lent_part f a e) ≡ got ls []
      → lent_part g a' e' ≡ renumbered ρ (id_of field) (lent_part f a e) → All (Renumbers ts us ρ) (numbers_of (id_of field) (lent_part f a e))
      → SameAnswer f g (in_field f b c p a e field number) (in_field g b' c' p' a' e' field number)
  unfolding in_field
  field-same field number ls p a e p' a' e' h q n =
      let room = room-is (lent_part f b c) ts strings in
      let room' = room-is (lent_part g b' c') us strings' in
      rw (room.0, room'.0)
      (answer-same p a e p' a' e' _ _ (sought-renumbered ρ ts us field number (lent_part f a e) (lent_part g a' e') ls h room'.1 n q))
