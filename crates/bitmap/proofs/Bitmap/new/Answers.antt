use Rattle.std.proofs.Common.{rules}
use Rattle.bitmap.specs.BitmapLaws.{spares_stay}
use Rattle.bitmap.proofs.Bitmap.new.Goals as goal

pub returns : goal.returns
returns c = record { lent = search rules; bytes = search rules; means = search rules; spares = spares_stay _ }
