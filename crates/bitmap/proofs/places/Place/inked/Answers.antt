use Rattle.std.proofs.Common.{sym, ap, ◌∙◌}
use Rattle.bitmap.specs.Bits.{inked_byte}
use Rattle.bitmap.proofs.Masks.{masked}
use Rattle.bitmap.proofs.places.Place.inked.Goals as goal

pub returns-in-Light : goal.returns-in-Light
returns-in-Light c = (masked c.args.byte c.args.self.shift c.ranges.byte.fits c.args.self.low).0.0 ∙ ap (λ i. inked_byte i c.args.byte c.args.self.shift) (sym c.in-Light.is)

pub returns-in-Clear : goal.returns-in-Clear
returns-in-Clear c = (masked c.args.byte c.args.self.shift c.ranges.byte.fits c.args.self.low).0.1 ∙ ap (λ i. inked_byte i c.args.byte c.args.self.shift) (sym c.in-Clear.is)

pub returns-in-Flip : goal.returns-in-Flip
returns-in-Flip c = (masked c.args.byte c.args.self.shift c.ranges.byte.fits c.args.self.low).1 ∙ ap (λ i. inked_byte i c.args.byte c.args.self.shift) (sym c.in-Flip.is)
