use native.Mathlib.Omega.{arith}
use Rattle.location_lookup.proofs.PinLaws.{seconds-fit, through, pin-through}
use Rattle.location_fields.proofs.pin_at.Goals as goal

pub overflow_cast-north : goal.overflow_cast-north
overflow_cast-north c = seconds-fit c.args.latitude (omega (arith, c.requires.0)) _ c.unzigzag-north.ensures

pub overflow_cast-east : goal.overflow_cast-east
overflow_cast-east c = seconds-fit c.args.longitude c.requires.1 _ c.unzigzag-east.ensures

pub returns : goal.returns
returns c = pin-through _ _ _ _ _ c.pin_of.ensures (through c.args.latitude (omega (arith, c.requires.0)) _ c.unzigzag-north.ensures)
    (through c.args.longitude c.requires.1 _ c.unzigzag-east.ensures)
