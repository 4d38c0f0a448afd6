-- THE REWRITER'S DEMANDS, of the preferred file: same content, well formed, never longer, preferred itself, the same for every file of
-- the same content. Assumes nothing.
use mathlib.Core.Path.{◌≡◌, refl, ap, sym, ◌∙◌}
use mathlib.Core.Bool.{false}
use mathlib.Core.List.{List, [], ◌∷◌}
use Prim.Native.Nat.{ℕ, ◌≤◌}
use native.Mathlib.Omega.{arith}
use lib.ListN.{length}
use Rattle.base.proofs.Parts.{Bytes}
use Rattle.frames.specs.Frame.{Field}
use Rattle.frames.specs.Fields.{end_at, listing, fields, over}
use Rattle.frames.proofs.ChainLaws.{Chain, listing-chain}
use Rattle.frames.proofs.PartLaws.{walk-ended}
use Rattle.frames.proofs.WalkLaws.{walk-pass}
use Rattle.frames.specs.Covers.{Covers}
use Rattle.frames.proofs.CoverLaws.{listing-covers}
use Rattle.field_checks.specs.Check.{start, job, WellFormed}
use Rattle.rewrite.specs.Preferred.{contents, content, preferred, print_file}
use Rattle.rewrite.proofs.MovedLaws.{moved, preferred-listing, moved-contents, preferred-within}
use Rattle.rewrite.proofs.PassMovedLaws.{fields-kept, pass-moved}
use Rattle.base.proofs.Tests.{clash}

-- SAME CONTENT, SAME FILE: files of the same content have the same preferred file
pub same-preferred : (f h : List ℕ) → content f ≡ content h → preferred f ≡ preferred h
same-preferred f h e = ap print_file e

-- no field is lost
none-moved : (at : ℕ) (gs : List Field) → moved at gs ≡ [] → gs ≡ []
unfolding moved
none-moved at [] e = refl
none-moved at (g ∷ gs) e = clash cc

-- a well-formed file has the version
pub version-there : (f : List ℕ) (gs : List Field) → Chain f false 0 4 gs → (gs ≡ [] → ⊥) → 4 ≤ length f
version-there f [] c n = absurd (n refl)
version-there f (g ∷ gs) c n = omega (arith, c.0, c.1.starts, c.1.ends, c.1.within)

-- the fields of a well-formed file cover it
pub file-covers : (f : List ℕ) → WellFormed f → Covers f 4 (fields f)
file-covers f w = listing-covers f (walk-ended job start w.memory f (length f) w.ends).whole w.some-field

module _ (f : List ℕ) (w : WellFormed f) (b : Bytes f) where
  -- THE FIELDS OF THE PREFERRED FILE are those of f in their order with their preferred data, one behind the other to its end
  pub preferred-fields : listing 255 (preferred f) ≡ record { fields = moved 4 (fields f); ending = end_at (length (preferred f)) }
  preferred-fields = preferred-listing f b (fields-kept f w b)

  -- THE SAME CONTENT: "Rewriting gives the one preferred file of the same content"
  pub content-kept : content (preferred f) ≡ content f
  content-kept = ap (λ l. contents l.fields) preferred-fields ∙ moved-contents 4 (fields f) (fields-kept f w b)

  -- WELL FORMED: the preferred file is
  pub rewritten-well-formed : WellFormed (preferred f)
  rewritten-well-formed =
      let t = walk-ended job start w.memory f (length f) w.ends in
      let p = pass-moved (fields f) 4 start w.memory start (fields-kept f w b) (record { pool = refl; ids = refl }) t.kept in
      record {
        memory = p.0;
        ends = walk-pass job start (preferred f) ∙ ap (over job.content start) preferred-fields ∙ rw p.1;
        some-field = λ e. w.some-field (none-moved 4 (fields f) (sym (ap (λ l. l.fields) preferred-fields) ∙ e));
      }

  -- AGAIN: "rewriting that again gives it back unchanged"
  pub rewritten-again : preferred (preferred f) ≡ preferred f
  rewritten-again = same-preferred (preferred f) f content-kept

  -- NEVER LONGER: "It is never longer than its source"
  pub never-longer : length (preferred f) ≤ length f
  never-longer =
      (preferred-within f b (fields-kept f w b) (version-there f (fields f) (listing-chain f 255) w.some-field)).0

  -- and no longer than a file may be
  pub preferred-limit : length (preferred f) ≤ 4194304
  preferred-limit =
      (preferred-within f b (fields-kept f w b) (version-there f (fields f) (listing-chain f 255) w.some-field)).1

-- well-formed files have the same preferred file only where they have the same content, and no file of that content is shorter
module _ (f h : List ℕ) (w : WellFormed f) (b : Bytes f) (v : WellFormed h) (c : Bytes h) where
  pub preferred-same : preferred f ≡ preferred h → content f ≡ content h
  preferred-same e = sym (content-kept f w b) ∙ ap content e ∙ content-kept h v c

  pub shortest : content h ≡ content f → length (preferred f) ≤ length h
  shortest e = rw (same-preferred f h (sym e)) (never-longer h v c)
