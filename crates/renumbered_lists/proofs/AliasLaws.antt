-- A dictionary of aliases says the same where its numbers are renumbered. Assumes nothing.
use mathlib.Core.Path.{◌≡◌, refl, sym, ap, ◌∙◌, subst}
use mathlib.Core.Bool.{false}
use mathlib.Core.List.{List, [], ◌∷◌, map}
use Prim.Native.Nat.{ℕ, zero, suc, ◌+◌, ◌*◌, ◌≤◌, ◌<◌}
use native.Mathlib.Omega.{arith}
use lib.ListN.{length, get_or}
use Rattle.base.specs.All.{All}
use Rattle.base.specs.Parsed.{Parsed, got, bad, bind, parse, many, prepend}
use Rattle.base.proofs.AllLaws.{all_head, all_tail, all_map}
use Rattle.base.proofs.ParseLaws.{got-value, got-rest, bind-good}
use Rattle.counts.specs.Count.{read_count}
use Rattle.places.specs.Name.{parse_name}
use Rattle.aliases.specs.Dictionary.{Entry, entry, Dictionary}
use Rattle.aliases.specs.Field.{parse_aliases}
use Rattle.aliases.specs.Pairs.{parse_pair, parse_pairs, PairsIn}
use Rattle.aliases.proofs.PairLaws.{good-pairs, pairs-good}
use Rattle.locations.specs.declared.Country.{Country}
use Rattle.locations.specs.Content.{parse_country, no_state}
use Rattle.mentions.specs.declared.Stage.TheVariants.{Aliases, Names, Rest}
use Rattle.mentions.specs.Walk.{before_names, before_pairs, ahead_of, first_stage}
use Rattle.mentions.specs.Content.{numbers_of, renumbered}
use Rattle.mentions.specs.Renumbers.{Renumbers}
use Rattle.mentions.proofs.WalkLaws.{left-ahead}
use Rattle.mentions.proofs.FrontLaws.{count-front}
use Rattle.mentions.proofs.StepLaws.{code_reads, same_reads, whole_again}
use Rattle.renumbered_lists.specs.Renamed.{renamed_country}
use Rattle.renumbered_lists.proofs.NameLaws.{CountryNamed, row, country_names, in_both, countries-named, Rereads, then-rereads, end-rereads, none-rereads, countries-reread, numbers-read}

-- two names in a row are an alias, as they are a country in a field of locations
abbrev pub entry_in : List (List ℕ) → Country → Entry
entry_in ts c = entry (get_or ts c.name []) (get_or ts c.code [])

abbrev entries_in : List (List ℕ) → List Country → List ℕ → Parsed Dictionary
entries_in ts cs r = got (map (entry_in ts) cs) r

pair_is : (ts : List (List ℕ)) (s : List ℕ) → parse_pair ts s ≡ bind (parse_country (length ts) tt s) (λ c r. got (entry_in ts c) r)
unfolding parse_pair parse_country
pair_is ts s = first (parse_name (length ts) s)
  where
    second : (k : ℕ) (p : Parsed ℕ)
        → bind p (λ j q. got (entry (get_or ts k []) (get_or ts j [])) q)
        ≡ bind (bind p (λ j q. got (record { name = k; code = j }) q)) (λ c r. got (entry_in ts c) r)
    second k (got j q) = refl
    second k (bad m) = refl

    first : (p : Parsed ℕ)
        → bind p (λ k r. bind (parse_name (length ts) r) (λ j q. got (entry (get_or ts k []) (get_or ts j [])) q))
        ≡ bind (bind p (λ k r. bind (parse_name (length ts) r) (λ j q. got (record { name = k; code = j }) q))) (λ c r. got (entry_in ts c) r)
    first (got k r) = second k (parse_name (length ts) r)
    first (bad m) = refl

pairs-are : (ts : List (List ℕ)) (n : ℕ) (s : List ℕ) → parse_pairs ts n s ≡ bind (many (parse_country (length ts)) no_state n tt s) (entries_in ts)
unfolding parse_pairs many
pairs-are ts zero s = refl
pairs-are ts (suc n) s = rw (pair_is ts s) (go (parse_country (length ts) tt s) (pairs-are ts n))
  where
    more : (c : Country) (p : Parsed (List Country))
        → bind (bind p (entries_in ts)) (prepend (entry_in ts c)) ≡ bind (bind p (prepend c)) (entries_in ts)
    more c (got cs r) = refl
    more c (bad m) = refl

    go : (p : Parsed Country) → ((q : List ℕ) → parse_pairs ts n q ≡ bind (many (parse_country (length ts)) no_state n tt q) (entries_in ts))
        → bind (bind p (λ c r. got (entry_in ts c) r)) (λ e r. bind (parse_pairs ts n r) (prepend e))
        ≡ bind (bind p (λ c r. bind (many (parse_country (length ts)) no_state n tt r) (prepend c))) (entries_in ts)
    go (got c q) h = rw (h q) (more c (many (parse_country (length ts)) no_state n tt q))
    go (bad m) h = refl

entries-same : (ρ : ℕ → ℕ) (ts us : List (List ℕ)) (cs : List Country) → All (CountryNamed ρ ts us) cs
    → map (entry_in us) (map (renamed_country ρ) cs) ≡ map (entry_in ts) cs
entries-same ρ ts us [] a = refl
entries-same ρ ts us (c ∷ cs) a =
    rw ((all_head a).name.new.same, (all_head a).code.new.same) (ap (λ (es : Dictionary). entry_in ts c ∷ es) (entries-same ρ ts us cs (all_tail a)))

-- the data of field 3 by their numbers
pub record Numbered (ts : List (List ℕ)) (d : List ℕ) (es : Dictionary) : Type 0 where
  pub count : ℕ
  pub rest : List ℕ
  pub pairs : List Country
  pub counted : parse read_count d ≡ got count rest
  pub read : many (parse_country (length ts)) no_state count tt rest ≡ got pairs []
  pub means : map (entry_in ts) pairs ≡ es

pub numbered : (ts : List (List ℕ)) (d : List ℕ) (es : Dictionary) → PairsIn ts d es → Numbered ts d es
numbered ts d es p =
    let x = bind-good (parse read_count d) (parse_pairs ts) es [] p.parsed in
    let y = bind-good (many (parse_country (length ts)) no_state x.first tt x.rest) (entries_in ts) es []
    (sym (pairs-are ts x.first x.rest) ∙ x.on) in
    record {
      count = x.first;
      rest = x.rest;
      pairs = y.first;
      counted = x.is;
      read = y.is ∙ ap (got y.first) (got-rest y.on);
      means = got-value y.on;
    }

no_name : row false 0 0 [] ≡ got Rest []
unfolding ahead_of before_names
no_name = refl

module _ (ts : List (List ℕ)) (d : List ℕ) (es : Dictionary) (p : Numbered ts d es) where
  aliases-reread : (ρ : ℕ → ℕ) (us : List (List ℕ)) → length us ≤ 8192
      → Rereads ρ (length ts) (length us) (ahead_of Aliases) d (λ x. bind (parse read_count x) (parse_pairs us))
      (map (entry_in us) (map (renamed_country ρ) p.pairs)) (country_names p.pairs) (row false 0 0) []
  unfolding ahead_of before_pairs
  aliases-reread ρ us few =
      let n : ℕ = p.count in
      let q : List ℕ = p.rest in
      let all : 2 * n + 0 ≡ 2 * n = omega arith in
      let f =
      end-rereads (entries_in us) (map (entry_in us) (map (renamed_country ρ) p.pairs)) (λ x. refl)
      (countries-reread ρ (length ts) (length us) few false 0 n 0 q p.pairs [] p.read) in
      then-rereads (parse_pairs us)
      (none-rereads (code_reads ρ (ahead_of Aliases) (parse read_count) (λ n. row false (2 * n) 0) d n q refl (count-front d n q p.counted)
      (left-ahead (length q) (Names (2 * n) 0 false) q (omega arith))))
      (rw (← all) (record { below = f.below; reads = λ h. same_reads ρ (parse_pairs us n) (pairs-are us n) (f.reads h) }))

  -- THE WALK OVER MENTIONS MEETS THE POOL NUMBERS OF THE ALIASES, in file order
  pub aliases-numbers : numbers_of 3 d ≡ country_names p.pairs
  unfolding first_stage
  aliases-numbers = numbers-read (length ts) Aliases d (row false 0 0) Rest no_name (aliases-reread (λ k. 0) ([] ∷ []) (omega arith))

  pub alias-names-below : All (λ k. k < length ts) (country_names p.pairs)
  alias-names-below = (aliases-reread (λ k. 0) ([] ∷ []) (omega arith)).below

-- THE SAME DICTIONARY, of the same byte strings
pub aliases-renumbered : (ρ : ℕ → ℕ) (ts us : List (List ℕ)) (d : List ℕ) (es : Dictionary) → parse_aliases ts d ≡ got es [] → length us ≤ 8192
    → All (Renumbers ts us ρ) (numbers_of 3 d) → parse_aliases us (renumbered ρ 3 d) ≡ got es []
unfolding first_stage
aliases-renumbered ρ ts us d es h few a =
    let g = (good-pairs ts d es [] h).1 in
    let p = numbered ts d es g in
    let named = subst (All (Renumbers ts us ρ)) (aliases-numbers ts d es p) a in
    let same = entries-same ρ ts us p.pairs (countries-named p.pairs (in_both (alias-names-below ts d es p) named)) in
    pairs-good us (renumbered ρ 3 d) es
    (record {
      parsed =
          whole_again ρ Aliases d (row false 0 0) Rest no_name ((aliases-reread ts d es p ρ us few).reads (all_map (λ k i. i.inside) named))
          ∙ ap (λ (x : Dictionary). got x []) (same ∙ p.means);
      apart = g.apart;
    })
