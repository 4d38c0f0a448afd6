-- Two zones that are compared. The code's way.
use Rattle.std.specs.Prelude.{ℕ, ◌≡◌, List, length}
use Rattle.base.specs.Moment.{Finite}
use Rattle.pool.specs.Pool.{strings_of}
use Rattle.pool.specs.Index.{Ready}
use Rattle.zones.specs.declared.ZoneEnd.{ZoneEnd}
use Rattle.cursors.specs.Cursors.{At}
use Rattle.cursors.specs.declared.Cursor.{Cursor}

-- the zone with the data z, the ending e and the pool p of k strings, whose index is ix; c is a cursor at the instant t
pub record SideAt (z p ix : List ℕ) (e : ZoneEnd) (c : Cursor) (k t : ℕ) : Type 0 where
  pub ready : Ready p ix
  pub count : k ≡ length (strings_of p)
  pub at : At k z e t c

pub record ComparedAt (zx px sx : List ℕ) (ex : ZoneEnd) (a : Cursor) (zy py sy : List ℕ) (ey : ZoneEnd) (b : Cursor) (kx ky first last : ℕ) : Type 0 where
  pub left : SideAt zx px sx ex a kx first
  pub right : SideAt zy py sy ey b ky first
  pub from : Finite first
  pub to : Finite last
